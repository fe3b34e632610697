-- What jobs read and select.
use Rattle.std.proofs.Common.{◌≡◌, ℕ, ◌<◌, ◌≤◌, List, [], ◌∷◌, length, map, get_or, take, drop, Some, None, refl, ap, ◌∙◌}
use Rattle.std.specs.Prelude.{slice_get}
use Rattle.std.proofs.lemmas.List.{take_all}
use Rattle.script_tree.specs.declared.value.Value.{Value}
use Rattle.flow_model.specs.Machine.Words.{gathered_of, value_or, pick_over, first_pick_over}
use Rattle.flow_state.specs.declared.found.Found.{Found}
use Rattle.flow_state.specs.declared.found.Found.TheVariants.{Candidate, Fault as Faulted}
use Rattle.flow_state.specs.Found.{selection_of}
use Rattle.flow_state.specs.Jobs.{read_from, found_as}
use Rattle.flow_state.proofs.Walks.{gathered_found}

pub read_found : (xs : List (ℕ × Value)) (m i : ℕ) (d : ℕ × Value) → i < length xs → gathered_of m (drop i xs) ≡ gathered_of m xs → (get_or xs i d).0 ≡ m → (get_or xs i d).1 ≡ read_from xs m
read_found xs m i d h so e = ap value_or (gathered_found xs m i d h so e)

pub first_is : (read : ℕ → Value) (xs : List Found) (x : Found) → slice_get xs 0 ≡ Some x → pick_over read (selection_of x) ≡ first_pick_over read (map selection_of xs)
first_is read [] x e = absurd (no_item x e)
  where
    no_item : (x : Found) → None ≡ Some x → ⊥
    no_item x e = cc
first_is read (y ∷ ys) x e = ap (λ f. pick_over read (selection_of f)) (same y x e)
  where
    same : (y x : Found) → Some y ≡ Some x → x ≡ y
    same y x e = cc

as-found : (f : Found) → found_as (selection_of f) ≡ f
as-found (Candidate c) = refl
as-found (Faulted f) = refl

pub found_back : (xs : List Found) → map found_as (map selection_of xs) ≡ xs
found_back [] = refl
found_back (x ∷ xs) = ap (λ f. f ∷ map found_as (map selection_of xs)) (as-found x) ∙ ap (λ ys. x ∷ ys) (found_back xs)

-- a walk that is over has mapped all
pub all_mapped : {A B : Type 0} (f : A → B) (xs : List A) (i : ℕ) (ys : List B) → length xs ≤ i → ys ≡ map f (take i xs) → ys ≡ map f xs
all_mapped f xs i ys h so = so ∙ ap (map f) (take_all i xs h)
