-- Keys, and which of them are out with a note.
use Rattle.std.specs.Prelude.{◌≡◌, ℕ, zero, suc, ◌==◌, Bool, false, if◌then◌else◌, List, [], ◌∷◌}
use Rattle.std.specs.List.{list_any}

-- whether a key is out, which the key 0 never is
abbrev pub is_out : ℕ → List ℕ → Bool
is_out zero out = false
is_out (suc k) out = list_any (λ x. suc k == x) out

-- the keys other than k
abbrev pub all_but : ℕ → List ℕ → List ℕ
all_but k [] = []
all_but k (x ∷ xs) = if k == x then all_but k xs else (x ∷ all_but k xs)

-- the keys that are out once a note of the key k is made
abbrev pub out_with : ℕ → List ℕ → List ℕ
out_with zero out = out
out_with (suc k) out = suc k ∷ out

-- the keys that are out once a note of the key k came back
abbrev pub out_without : ℕ → List ℕ → List ℕ
out_without zero out = out
out_without (suc k) out = all_but (suc k) out

-- no key is out twice
abbrev pub AreDifferent : List ℕ → Type 0
AreDifferent [] = Unit {0}
AreDifferent (k ∷ out) = (list_any (λ x. k == x) out ≡ false) × AreDifferent out
