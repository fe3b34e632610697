-- What a name is, and where it stands among others.
use Rattle.std.specs.Prelude.{ℕ, Bool, false, ◌&&◌, ◌||◌, not, nat_le, ◌==◌, ◌+◌, if◌then◌else◌, List, [], ◌∷◌, length, codes}
use Rattle.std.specs.List.{list_all, list_any}
use Rattle.std.specs.Str.{bytes_eq}
use Rattle.script_tree.specs.declared.limits.TheConstants.{NAME_BYTES}
use Rattle.std.specs.Char.{is_ascii_digit, is_ascii_alphanumeric}

-- a letter, a digit or `_`
abbrev pub is_word : ℕ → Bool
is_word b = is_ascii_alphanumeric b || b == 95

-- the reserved words, in three parts by their first letters
abbrev pub reserved_a_to_f : List (List ℕ)
reserved_a_to_f = codes "acc" ∷ codes "among" ∷ codes "choose" ∷ codes "else" ∷ codes "false" ∷ codes "fire" ∷ codes "fold" ∷ []

abbrev pub reserved_i_to_p : List (List ℕ)
reserved_i_to_p = codes "if" ∷ codes "look" ∷ codes "pick1" ∷ codes "pick2" ∷ codes "pick3" ∷ codes "pick4" ∷ []

abbrev pub reserved_r_to_t : List (List ℕ)
reserved_r_to_t = codes "read" ∷ codes "signal" ∷ codes "source" ∷ codes "then" ∷ codes "thread" ∷ codes "true" ∷ []

-- a word of the language, which is no name
abbrev pub is_reserved : List ℕ → Bool
is_reserved text = (list_any (bytes_eq text) reserved_a_to_f || list_any (bytes_eq text) reserved_i_to_p)
    || list_any (bytes_eq text) reserved_r_to_t

-- not empty, and not with a digit first
abbrev pub starts_well : List ℕ → Bool
starts_well [] = false
starts_well (b ∷ bs) = not (is_ascii_digit b)

-- a word of 1 to 32 bytes that begins with a letter or `_` and isn't reserved
abbrev pub is_name : List ℕ → Bool
is_name text = starts_well text && (list_all is_word text && (nat_le (length text) NAME_BYTES && not (is_reserved text)))

-- the place of the first name that is this one, or the number of names
abbrev pub place_in : List (List ℕ) → List ℕ → ℕ
place_in [] name = 0
place_in (other ∷ names) name = if bytes_eq other name then 0 else place_in names name + 1
