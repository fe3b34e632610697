-- The tests of single words.
use Rattle.std.specs.Prelude.{ℕ, Bool, ◌&&◌, nat_lt, nat_le, List, codes, length, take, drop}
use Rattle.std.specs.List.{list_all}
use Rattle.std.specs.Char.{is_ascii_digit}
use Rattle.std.specs.Str.{bytes_eq}
use Rattle.std.specs.Str.Parse.{digits_value}
use Rattle.script_tree.specs.declared.limits.TheConstants.{VERSIONS}

abbrev pub is_limit : List ℕ → Bool
is_limit text = (nat_lt 0 (length text) && nat_le (length text) 7) &&
    (list_all is_ascii_digit text && nat_le (digits_value 10 text) VERSIONS)

-- a limit behind `--versions=`, in one word
abbrev pub is_limit_within : List ℕ → Bool
is_limit_within word = bytes_eq (take 11 word) (codes "--versions=") && is_limit (drop 11 word)
