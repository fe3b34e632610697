-- How keys go out and come back.
use Rattle.std.proofs.Common.{◌≡◌, ◌≢◌, ℕ, zero, suc, ◌<◌, Bool, true, false, cond, true≢false, List, [], ◌∷◌, refl, sym, ap, ◌∙◌, arith}
use Rattle.std.specs.Prelude.{◌==◌, ◌||◌}
use Rattle.std.specs.List.{list_any}
use Rattle.std.proofs.lemmas.Bool.Decides.{nat_tests}
use Rattle.std.proofs.lemmas.Bool.{or_parts, false≢true}
use Rattle.std.proofs.Math.Bool.{or-true}
use Rattle.script_tree.proofs.Numbers.{equal_to_itself}
use Rattle.chronicle.specs.Keys.{is_out, all_but, out_with, out_without, AreDifferent}

pub differs : (x k : ℕ) → x ≢ k → (x == k) ≡ false
differs x k apart = grind (arith, nat_tests)

among_apart : (out : List ℕ) (k x : ℕ) → list_any (λ y. k == y) out ≡ true → list_any (λ y. x == y) out ≡ false → (k == x) ≡ false
among_apart out k x at away = by_test (k == x) refl
  where
    by_test : (b : Bool) → (k == x) ≡ b → (k == x) ≡ false
    by_test true is = let same : k ≡ x = grind (arith, nat_tests) in absurd (false≢true (sym away ∙ ap (λ z. list_any (λ y. z == y) out) (sym same) ∙ at))
    by_test false is = is

-- a key that is out is not one that is in
pub out_apart : (out : List ℕ) (k x : ℕ) → is_out k out ≡ true → is_out x out ≡ false → (k == x) ≡ false
out_apart out zero x at away = absurd (false≢true at)
out_apart out (suc k) zero at away = grind (arith, nat_tests)
out_apart out (suc k) (suc x) at away = among_apart out (suc k) (suc x) at away

-- a key that is out stays out where another goes out
pub is_out-with : (out : List ℕ) (k x : ℕ) → is_out x out ≡ true → is_out x (out_with k out) ≡ true
is_out-with out k zero at = absurd (false≢true at)
is_out-with out zero (suc x) at = at
is_out-with out (suc k) (suc x) at = rw at (or-true (suc x == suc k))

-- a key above 0 is out once a note of it is made
pub is_out-with_itself : (out : List ℕ) (k : ℕ) → 0 < k → is_out k (out_with k out) ≡ true
is_out-with_itself out zero above = absurd (omega arith)
is_out-with_itself out (suc k) above = let same : (suc k == suc k) ≡ true = equal_to_itself (suc k) in rw same refl

-- a key that is in stays in where another goes out
pub not_out-with : (out : List ℕ) (k x : ℕ) → x ≢ k → is_out x out ≡ false → is_out x (out_with k out) ≡ false
not_out-with out k zero apart in_before = refl
not_out-with out zero (suc x) apart in_before = in_before
not_out-with out (suc k) (suc x) apart in_before = let differ : (suc x == suc k) ≡ false = differs (suc x) (suc k) apart in rw differ in_before

among-all_but : (out : List ℕ) (k x : ℕ) → x ≢ k → list_any (λ y. x == y) (all_but k out) ≡ list_any (λ y. x == y) out
among-all_but [] k x apart = refl
among-all_but (z ∷ zs) k x apart = by_test (among-all_but zs k x apart) (k == z) refl
  where
    by_test : list_any (λ y. x == y) (all_but k zs) ≡ list_any (λ y. x == y) zs → (b : Bool) → (k == z) ≡ b
        → list_any (λ y. x == y) (cond (k == z) (all_but k zs) (z ∷ all_but k zs)) ≡ ((x == z) || list_any (λ y. x == y) zs)
    by_test rest true is =
        let same : k ≡ z = grind (arith, nat_tests) in
        let away : (x == z) ≡ false = grind (arith, nat_tests) in
        rw (is, away) rest
    by_test rest false is = rw is (ap (λ b. (x == z) || b) rest)

-- a key is out or in as before where another comes back
pub is_out-without : (out : List ℕ) (k x : ℕ) → x ≢ k → is_out x (out_without k out) ≡ is_out x out
is_out-without out k zero apart = refl
is_out-without out zero (suc x) apart = refl
is_out-without out (suc k) (suc x) apart = among-all_but out (suc k) (suc x) apart

none-all_but : (out : List ℕ) (k : ℕ) → list_any (λ y. k == y) (all_but k out) ≡ false
none-all_but [] k = refl
none-all_but (z ∷ zs) k = by_test (none-all_but zs k) (k == z) refl
  where
    by_test : list_any (λ y. k == y) (all_but k zs) ≡ false → (b : Bool) → (k == z) ≡ b → list_any (λ y. k == y) (cond (k == z) (all_but k zs) (z ∷ all_but k zs)) ≡ false
    by_test rest true is = rw is rest
    by_test rest false is = rw is (rw is rest)

-- a key that came back is in
pub not_out-without_itself : (out : List ℕ) (k : ℕ) → is_out k (out_without k out) ≡ false
not_out-without_itself out zero = refl
not_out-without_itself out (suc k) = none-all_but out (suc k)

none-all_but_of : (out : List ℕ) (k x : ℕ) → list_any (λ y. x == y) out ≡ false → list_any (λ y. x == y) (all_but k out) ≡ false
none-all_but_of out k x away = by_test (k == x) refl
  where
    by_test : (b : Bool) → (k == x) ≡ b → list_any (λ y. x == y) (all_but k out) ≡ false
    by_test true is = let same : k ≡ x = grind (arith, nat_tests) in ap (λ z. list_any (λ y. z == y) (all_but k out)) (sym same) ∙ none-all_but out k
    by_test false is = let apart : x ≢ k = λ same. true≢false (sym (equal_to_itself k) ∙ ap (λ z. k == z) (sym same) ∙ is) in among-all_but out k x apart ∙ away

-- a key that is in stays in where a key comes back, be it another or itself
pub not_out-without : (out : List ℕ) (k x : ℕ) → is_out x out ≡ false → is_out x (out_without k out) ≡ false
not_out-without out k zero in_before = refl
not_out-without out zero (suc x) in_before = in_before
not_out-without out (suc k) (suc x) in_before = none-all_but_of out (suc k) (suc x) in_before

-- a key that is in stays in where a note of another is met
pub not_out-met : (out : List ℕ) (k x : ℕ) → x ≢ k → is_out x out ≡ false → is_out x (out_with k (out_without k out)) ≡ false
not_out-met out k x apart in_before = not_out-with (out_without k out) k x apart (not_out-without out k x in_before)

-- a key that is out stays out where a note is met
pub is_out-met : (out : List ℕ) (k x : ℕ) → is_out x out ≡ true → is_out x (out_with k (out_without k out)) ≡ true
is_out-met out k zero at = absurd (false≢true at)
is_out-met out k (suc x) at = by_test (k == suc x) refl
  where
    by_test : (b : Bool) → (k == suc x) ≡ b → is_out (suc x) (out_with k (out_without k out)) ≡ true
    by_test true is =
        let same : k ≡ suc x = grind (arith, nat_tests) in
        let above : 0 < k = omega arith in
        ap (λ z. is_out z (out_with k (out_without k out))) (sym same) ∙ is_out-with_itself (out_without k out) k above
    by_test false is =
        let apart : ◌≢◌ {A = ℕ} (suc x) k = λ same. true≢false (sym (equal_to_itself k) ∙ ap (λ z. k == z) (sym same) ∙ is) in
        is_out-with (out_without k out) k (suc x) (is_out-without out k (suc x) apart ∙ at)

all_but-away : (out : List ℕ) (k : ℕ) → list_any (λ y. k == y) out ≡ false → all_but k out ≡ out
all_but-away [] k away = refl
all_but-away (z ∷ zs) k away =
    let parts : ((k == z) ≡ false) × (list_any (λ y. k == y) zs ≡ false) = or_parts (k == z) (list_any (λ y. k == y) zs) away in
    rw parts.0 (ap (λ l. z ∷ l) (all_but-away zs k parts.1))

-- a note that is made and taken back leaves the keys as they were
pub out_without-with : (out : List ℕ) (k : ℕ) → is_out k out ≡ false → out_without k (out_with k out) ≡ out
out_without-with out zero in_before = refl
out_without-with out (suc k) in_before = let same : (suc k == suc k) ≡ true = equal_to_itself (suc k) in rw same (all_but-away out (suc k) in_before)

-- the keys stay different where one goes out
pub different-with : (out : List ℕ) (k : ℕ) → is_out k out ≡ false → AreDifferent out → AreDifferent (out_with k out)
different-with out zero in_before differ = differ
different-with out (suc k) in_before differ = (in_before, differ)

different-all_but : (k : ℕ) (out : List ℕ) → AreDifferent out → AreDifferent (all_but k out)
different-all_but k [] differ = tt
different-all_but k (x ∷ xs) differ = by_test (different-all_but k xs differ.1) (k == x) refl
  where
    by_test : AreDifferent (all_but k xs) → (b : Bool) → (k == x) ≡ b → AreDifferent (cond (k == x) (all_but k xs) (x ∷ all_but k xs))
    by_test rest true is = rw is rest
    by_test rest false is = rw is (none-all_but_of xs k x differ.0, rest)

-- and where one comes back
pub different-without : (out : List ℕ) (k : ℕ) → AreDifferent out → AreDifferent (out_without k out)
different-without out zero differ = differ
different-without out (suc k) differ = different-all_but (suc k) out differ
