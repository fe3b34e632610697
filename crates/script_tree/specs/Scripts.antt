-- A script as contracts see it: its names and its tree.
use Rattle.std.specs.Prelude.{◌≡◌, ℕ, ◌≤◌, ◌^◌, pos, negsuc, Bool, true, false, ◌&&◌, IsTrue, nat_lt}
use Rattle.std.specs.Prelude.{if◌then◌else◌, List, [], ◌∷◌, ◌++◌, length, slice_get, unwrap_or, refl}
use Rattle.std.specs.List.{list_all, list_any}
use Rattle.std.specs.Str.{bytes_eq}
use Rattle.std.specs.Coded.{Coded, code_by, coded×, coded_ℕ, coded_list}
use Rattle.script_tree.specs.declared.limits.TheConstants.{INPUTS}
use Rattle.script_tree.specs.Names.{is_name}
use Rattle.script_tree.specs.Tree.{Tree, Number, Input, Pick, Acc, Apply, Join, If}
use Rattle.script_tree.specs.TreeCode.{tree_code}

-- the different names, in the order of their first appearance, and the tree, whose inputs are places in that list
pub record Scripted : Type 0 where
  pub names : List (List ℕ)
  pub tree : Tree

abbrev pub scripted_code : Coded Scripted
scripted_code = code_by (List (List ℕ) × Tree) (coded× (coded_list (coded_list coded_ℕ)) tree_code) (λ s. (s.names, s.tree))
    (λ p. record { names = p.0; tree = p.1 }) (λ _. refl)

-- a test of every leaf of a tree
abbrev pub all_leaves : (Tree → Bool) → Tree → Bool
all_leaves test (Apply op x) = all_leaves test x
all_leaves test (Join op x y) = all_leaves test x && all_leaves test y
all_leaves test (If c x y) = all_leaves test c && (all_leaves test x && all_leaves test y)
all_leaves test leaf = test leaf

abbrev pub input_below : ℕ → Tree → Bool
input_below n (Input i) = nat_lt i n
input_below n leaf = true

abbrev pub pick_below : ℕ → Tree → Bool
pick_below n (Pick i) = nat_lt i n
pick_below n leaf = true

abbrev pub is_not_acc : Tree → Bool
is_not_acc Acc = false
is_not_acc leaf = true

-- a literal has no sign: a minus before it is an operator
abbrev pub is_literal : Tree → Bool
is_literal (Number (pos n)) = nat_lt n (2 ^ 63)
is_literal (Number (negsuc n)) = false
is_literal leaf = true

-- the names that stand in a tree, from left to right
abbrev pub standing : List (List ℕ) → Tree → List (List ℕ)
standing names (Input i) = unwrap_or (slice_get names i) [] ∷ []
standing names (Apply op x) = standing names x
standing names (Join op x y) = standing names x ++ standing names y
standing names (If c x y) = standing names c ++ (standing names x ++ standing names y)
standing names leaf = []

-- the different names of a list in the order of their first appearance, without those that were seen
abbrev pub different_names_from : List (List ℕ) → List (List ℕ) → List (List ℕ)
different_names_from seen [] = []
different_names_from seen (name ∷ names) = if list_any (bytes_eq name) seen then different_names_from seen names
    else name ∷ different_names_from (name ∷ seen) names

abbrev pub different_names : List (List ℕ) → List (List ℕ)
different_names names = different_names_from [] names

-- what every script keeps: its names are the different names that stand in its tree, in the order of their first
-- appearance; they are at most 64, each of them is a name, and the leaves can be spelled by a text
pub record WellFormed (names : List (List ℕ)) (tree : Tree) : Type 0 where
  pub few : length names ≤ INPUTS
  pub named : IsTrue (list_all is_name names)
  pub appear : names ≡ different_names (standing names tree)
  pub inputs : IsTrue (all_leaves (input_below (length names)) tree)
  pub numbers : IsTrue (all_leaves is_literal tree)

-- none of `pick1` to `pick4` stands in a script
abbrev pub HasNoPicks : Scripted → Type 0
HasNoPicks script = IsTrue (all_leaves (pick_below 0) script.tree)

-- `acc` does not stand in a script
abbrev pub HasNoAcc : Scripted → Type 0
HasNoAcc script = IsTrue (all_leaves is_not_acc script.tree)

-- a script is a body for so many picks: no names, no `acc`, and no pick beyond
pub record IsBody (picks : ℕ) (script : Scripted) : Type 0 where
  pub no_names : script.names ≡ []
  pub no_acc : HasNoAcc script
  pub picks_below : IsTrue (all_leaves (pick_below picks) script.tree)
