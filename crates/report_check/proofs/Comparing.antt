-- Where two lists differ first.
use Rattle.std.proofs.Common.{◌≡◌, ◌≢◌, ℕ, zero, suc, ◌<◌, ◌≤◌, List, [], ◌∷◌, length, take, refl, sym, ap, ◌∙◌, arith}
use Rattle.std.specs.Prelude.{slice_index_or}
use Rattle.std.specs.List.{zip}
use Rattle.std.proofs.lemmas.List.{take_all}
use Rattle.std.proofs.lemmas.Option.{none-some, same_Some, slice_get-get_or, slice_get_past}
use Rattle.report_check.specs.Differing.{DifferFirst}

-- they differ at an element that both have
pub differ_within : {X : Type 0} (due given : List X) (i : ℕ) (d : X) → take i due ≡ take i given → i < length due → i < length given → slice_index_or due i d ≢ slice_index_or given i d → DifferFirst due given i
differ_within due given i d same in_due in_given other = record {
  in_due = omega (arith, in_due);
  in_given = omega (arith, in_given);
  before = same;
  there = λ e. other (same_Some _ _ (sym (slice_get-get_or due i d in_due) ∙ e ∙ slice_get-get_or given i d in_given));
}

-- the given list ends before the due one
pub given_ends : {X : Type 0} (due given : List X) (i : ℕ) (d : X) → take i due ≡ take i given → i < length due → i ≤ length given → length given ≤ i → DifferFirst due given i
given_ends due given i d same in_due in_given ends = record {
  in_due = omega (arith, in_due);
  in_given = in_given;
  before = same;
  there = λ e. none-some (slice_index_or due i d) (sym (e ∙ slice_get_past given i ends) ∙ slice_get-get_or due i d in_due);
}

-- the due list ends before the given one
pub due_ends : {X : Type 0} (due given : List X) (i : ℕ) (d : X) → take i due ≡ take i given → i ≡ length due → i < length given → DifferFirst due given i
due_ends due given i d same ends in_given = record {
  in_due = omega (arith, ends);
  in_given = omega (arith, in_given);
  before = same;
  there = λ e. none-some (slice_index_or given i d) (sym (sym e ∙ slice_get_past due i (omega (arith, ends))) ∙ slice_get-get_or given i d in_given);
}

pub length_zip : {K X : Type 0} (ks : List K) (xs : List X) → length ks ≡ length xs → length (zip ks xs) ≡ length ks
length_zip [] xs h = refl
length_zip (k ∷ ks) [] h = absurd (omega (arith, h))
length_zip (k ∷ ks) (x ∷ xs) h = ap (λ n. suc n) (length_zip ks xs (omega (arith, h)))

pub zip_at : {K X : Type 0} (ks : List K) (xs : List X) (i : ℕ) (k : K) (x : X) (d : K × X) → i < length ks → length ks ≡ length xs → slice_index_or (zip ks xs) i d ≡ (slice_index_or ks i k, slice_index_or xs i x)
zip_at [] xs i k x d within h = absurd (omega arith)
zip_at (l ∷ ks) [] i k x d within h = absurd (omega (arith, h))
zip_at (l ∷ ks) (y ∷ xs) zero k x d within h = refl
zip_at (l ∷ ks) (y ∷ xs) (suc i) k x d within h = zip_at ks xs i k x d (omega arith) (omega (arith, h))

pub same_whole : {X : Type 0} (due given : List X) (i : ℕ) → take i due ≡ take i given → length due ≤ i → length given ≤ i → due ≡ given
same_whole due given i same in_due in_given = sym (take_all i due in_due) ∙ same ∙ take_all i given in_given
