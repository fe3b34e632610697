-- What is known of a test that a closure tells, from the closure's answers.
use Rattle.std.proofs.Common.{◌≡◌, ℕ, ◌+◌, ◌<◌, ◌≤◌, Bool, true, false, List, [], ◌∷◌, length, refl, sym, arith, subst, zero, suc, Some, Bor, inl, inr, ap₂, cond, not}
use Rattle.std.specs.List.{slice_get, slice_index_or, position_or_len}
use Rattle.std.specs.Fn.{FnReturnsAt}
use Rattle.std.proofs.lemmas.List.Sums.{position_or_len_is}
use Rattle.std.proofs.lemmas.Bool.{cases_lt}
use denote.Param.Members.{Shared}
use Rattle.node_versions.specs.Entries.{Entry}
use Rattle.node_versions.specs.Answers.{Tells}

index_of_get : (es : List Entry) (i : ℕ) (e d : Entry) → slice_get es i ≡ Some e → (i < length es) × (slice_index_or es i d ≡ e)
index_of_get [] i e d h = cc
index_of_get (x ∷ es) zero e d h = grind (arith, h)
index_of_get (x ∷ es) (suc i) e d h = let r = index_of_get es i e d h in (omega (arith, r.0), r.1)

module _ {F : Type 0} (g : Shared F (Bor Entry × Unit {0}) Bool) (f : F) (es : List Entry) (test : Entry → Bool) (tells : Tells g f es test) where
  pub answered : (i : ℕ) (e d : Entry) (b : Bool) → slice_get es i ≡ Some e → FnReturnsAt g f e b → test (slice_index_or es i d) ≡ b
  answered i e d b h r = let at = index_of_get es i e d h in sym (tells i d at.0 b (subst (λ x. FnReturnsAt g f x b) (sym at.1) r))

  pub answered_at : (i : ℕ) (e : Entry) (b : Bool) → slice_get es i ≡ Some e → FnReturnsAt g f e b → test e ≡ b
  answered_at i e b h r = subst (λ x. test x ≡ b) (index_of_get es i e e h).1 (answered i e e b h r)

  pub place_found : (i : ℕ) (e : Entry) → slice_get es i ≡ Some e → FnReturnsAt g f e true → ((k : ℕ) (d : Entry) → k < i → test (slice_index_or es k d) ≡ false) → i ≡ position_or_len test es
  place_found i e h r fails = let at = index_of_get es i e e h in sym (position_or_len_is test es i e (omega (arith, at.0)) (λ k l. fails k e l) (λ l. answered i e e true h r))

  pub fails_more : (i : ℕ) (e : Entry) → slice_get es i ≡ Some e → FnReturnsAt g f e false → ((k : ℕ) (d : Entry) → k < i → test (slice_index_or es k d) ≡ false) → (k : ℕ) (d : Entry) → k < i + 1 → test (slice_index_or es k d) ≡ false
  fails_more i e h r fails k d l = elim (cases_lt k i) [
    | inl below ↦ fails k d below
    | inr past ↦ subst (λ n. test (slice_index_or es n d) ≡ false) (omega (arith, past, l)) (answered i e d false h r)
  ]

-- where all fail, the place is the length
pub place_at_end : (es : List Entry) (test : Entry → Bool) (i : ℕ) → length es ≤ i → ((k : ℕ) (d : Entry) → k < i → test (slice_index_or es k d) ≡ false) → length es ≡ position_or_len test es
place_at_end [] test i le fails = refl
place_at_end (e ∷ es) test i le fails = sym (position_or_len_is test (e ∷ es) (length (e ∷ es)) e (omega arith) (λ k l. fails k e (omega (arith, l, le))) (λ l. absurd (omega (arith, l))))

-- what stands of a test that holds at the entries alone
pub same_place : (es : List Entry) (test other : Entry → Bool) → ((k : ℕ) (d : Entry) → k < length es → test (slice_index_or es k d) ≡ other (slice_index_or es k d)) → position_or_len test es ≡ position_or_len other es
same_place [] test other same = refl
same_place (e ∷ es) test other same = ap₂ (λ b n. cond (not b) (1 + n) 0) (same 0 e (omega arith)) (same_place es test other (λ k d l. same (suc k) d (omega (arith, l))))
