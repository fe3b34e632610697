-- The workload's scripts are well formed: their names are names, and are the different ones that stand in their trees.
use Rattle.std.proofs.Common.{◌≡◌, ◌≢◌, ◌⊎◌, inl, inr, ℕ, zero, suc, ◌<◌, Bool, true, false, List, [], ◌∷◌, length, refl, sym, ap, ◌∙◌, arith, true≢false}
use Rattle.std.specs.Fmt.{digits}
use Rattle.std.specs.Prelude.{IsTrue, ◌==◌, ◌&&◌, if◌then◌else◌, map, slice_index_or}
use Rattle.std.specs.List.{list_all}
use Rattle.std.specs.Str.{bytes_eq}
use Rattle.std.proofs.lemmas.Slice.Eq.{bytes_eq-Decides}
use Rattle.std.proofs.lemmas.Bool.Decides.{eqb_tells}
use Rattle.std.proofs.lemmas.Bool.{and_parts}
use Rattle.script_tree.specs.declared.expr.Binary.TheVariants.{Add, Subtract}
use Rattle.script_tree.specs.Names.{is_name, place_in}
use Rattle.script_tree.specs.Tree.{Input, Acc, Join}
use Rattle.script_tree.specs.Scripts.{WellFormed, different_names}
use Rattle.script_tree.proofs.Texts.{other_text}
use Rattle.separate_decks.specs.Workload.{all_names, name_of, two, second, signal_tree, choice_tree}
use Rattle.separate_decks.proofs.Naming.{length-all_names, place_of_name}

pub all_are_names : list_all is_name all_names ≡ true
unfolding all_names digits
all_are_names = refl

passes_at : (names : List (List ℕ)) (k : ℕ) → list_all is_name names ≡ true → k < length names → is_name (slice_index_or names k []) ≡ true
passes_at [] k h low = absurd (omega arith)
passes_at (name ∷ names) zero h low = (and_parts (is_name name) (list_all is_name names) h).0
passes_at (name ∷ names) (suc k) h low = passes_at names k (and_parts (is_name name) (list_all is_name names) h).1 (omega arith)

pub name_is_one : (n : ℕ) → n < 216 → is_name (name_of n) ≡ true
unfolding name_of
name_is_one n low = let long = length-all_names in passes_at all_names n all_are_names (omega (arith, long))

same_name : (n : ℕ) → bytes_eq (name_of n) (name_of n) ≡ true
same_name n = (bytes_eq-Decides (name_of n) (name_of n)).1 refl

other_name : (p q : ℕ) → p < 216 → q < 216 → (p == q) ≡ false → bytes_eq (name_of q) (name_of p) ≡ false
other_name p q h k ne = other_text (name_of q) (name_of p) (λ e. apart (eqb_tells p q) (sym (sym (place_of_name q k) ∙ ap (place_in all_names) e ∙ place_of_name p h)))
  where
    apart : (((p == q) ≡ true) × (p ≡ q)) ⊎ (((p == q) ≡ false) × (p ≢ q)) → p ≡ q → ⊥
    apart (inl h) e = true≢false (sym h.0 ∙ ne)
    apart (inr h) e = h.1 e

-- the names of one node or of two
one_name : (p : ℕ) → p < 216 → IsTrue (list_all is_name (name_of p ∷ []))
one_name p h = ap (λ b. b && true) (name_is_one p h)

two_names : (p q : ℕ) → p < 216 → q < 216 → IsTrue (list_all is_name (name_of p ∷ (name_of q ∷ [])))
two_names p q h k = ap (λ b. b && (is_name (name_of q) && true)) (name_is_one p h) ∙ ap (λ b. b && true) (name_is_one q k)

pub fold_kept : (a b : ℕ) → a < 216 → b < 216 → WellFormed (map name_of (two a b)) (Join Subtract (Join Add Acc (Input 0)) (second a b))
fold_kept a b h k = cases (a == b) refl
  where
    cases : (same : Bool) → (a == b) ≡ same
        → WellFormed (map name_of (if same then a ∷ [] else a ∷ (b ∷ []))) (Join Subtract (Join Add Acc (Input 0)) (if same then Input 0 else Input 1))
    cases true e = record { few = omega arith; named = one_name a h; appear = (let s = same_name a in grind (arith, s)); inputs = refl; numbers = refl }
    cases false e = record { few = omega arith; named = two_names a b h k; appear = (let o = other_name a b h k e in grind (arith, o)); inputs = refl; numbers = refl }

pub signal_kept : (p q r : ℕ) → p < 216 → q < 216 → WellFormed (map name_of (two p q)) (signal_tree r (Input 0) (second p q))
signal_kept p q r h k = cases r (p == q) refl
  where
    cases : (r : ℕ) (same : Bool) → (p == q) ≡ same
        → WellFormed (map name_of (if same then p ∷ [] else p ∷ (q ∷ []))) (signal_tree r (Input 0) (if same then Input 0 else Input 1))
    cases zero true e = record { few = omega arith; named = one_name p h; appear = (let s = same_name p in grind (arith, s)); inputs = refl; numbers = refl }
    cases zero false e = record { few = omega arith; named = two_names p q h k; appear = (let o = other_name p q h k e in grind (arith, o)); inputs = refl; numbers = refl }
    cases (suc zero) true e = record { few = omega arith; named = one_name p h; appear = (let s = same_name p in grind (arith, s)); inputs = refl; numbers = refl }
    cases (suc zero) false e = record { few = omega arith; named = two_names p q h k; appear = (let o = other_name p q h k e in grind (arith, o)); inputs = refl; numbers = refl }
    cases (suc (suc r)) true e = record { few = omega arith; named = one_name p h; appear = (let s = same_name p in grind (arith, s)); inputs = refl; numbers = refl }
    cases (suc (suc r)) false e = record {
      few = omega arith;
      named = two_names p q h k;
      appear = (let o = other_name p q h k e in let s = same_name p in let t = same_name q in grind (arith, o, s, t));
      inputs = refl;
      numbers = refl;
    }

pub choice_kept : (p : ℕ) → p < 216 → WellFormed (map name_of (p ∷ [])) choice_tree
choice_kept p h = record { few = omega arith; named = one_name p h; appear = refl; inputs = refl; numbers = refl }
