-- Lists of whatever: what holds for all items, the rest from an item on, and the numbers of a range.
use Rattle.std.proofs.Common.{◌≡◌, ℕ, ◌+◌, ◌<◌, Bool, true, false, ◌&&◌, ◌||◌, nat_eq, ltb, leb, cond, List, [], ◌∷◌, ◌++◌, length, take, drop, get_or, zero, suc, ◌≤◌, refl, sym, ap, ◌∙◌, arith}
use Rattle.std.specs.Prelude.{Some, filter, slice_get}
use Rattle.std.specs.List.{list_any, AllByRecursion, zip}
use Rattle.std.proofs.lemmas.Bool.Decides.{nat_tests}
use Rattle.std.proofs.lemmas.List.{take_at, drop_more}
use Rattle.std.proofs.lemmas.Option.{slice_get_within, get_or_from_slice_get}

-- ---- what holds for all items

pub all_append : {A : Type 0} (P : A → Type 0) (xs ys : List A) → AllByRecursion P xs → AllByRecursion P ys → AllByRecursion P (xs ++ ys)
all_append P [] ys all more = more
all_append P (x ∷ xs) ys all more = (all.0, all_append P xs ys all.1 more)

pub all_end : {A : Type 0} (P : A → Type 0) (xs : List A) (x : A) → AllByRecursion P xs → P x → AllByRecursion P (xs ++ x ∷ [])
all_end P xs x all p = all_append P xs (x ∷ []) all (p, tt)

pub all_front : {A : Type 0} (P : A → Type 0) (xs ys : List A) → AllByRecursion P (xs ++ ys) → AllByRecursion P xs
all_front P [] ys all = tt
all_front P (x ∷ xs) ys all = (all.0, all_front P xs ys all.1)

pub all_behind : {A : Type 0} (P : A → Type 0) (xs ys : List A) → AllByRecursion P (xs ++ ys) → AllByRecursion P ys
all_behind P [] ys all = all
all_behind P (x ∷ xs) ys all = all_behind P xs ys all.1

pub all_filter : {A : Type 0} (P : A → Type 0) (test : A → Bool) (xs : List A) → AllByRecursion P xs → AllByRecursion P (filter test xs)
all_filter P test [] all = tt
all_filter P test (x ∷ xs) all =
    elim (test x) as (λ b. AllByRecursion P (cond b (x ∷ filter test xs) (filter test xs))) [
      | true ↦ (all.0, all_filter P test xs all.1)
      | false ↦ all_filter P test xs all.1
    ]

pub all_weaker : {A : Type 0} (P Q : A → Type 0) → ((x : A) → P x → Q x) → (xs : List A) → AllByRecursion P xs → AllByRecursion Q xs
all_weaker P Q follows [] all = tt
all_weaker P Q follows (x ∷ xs) all = (follows x all.0, all_weaker P Q follows xs all.1)

-- ---- first items

pub same_first : {A : Type 0} (x y : A) (xs ys : List A) → x ∷ xs ≡ y ∷ ys → x ≡ y
same_first x y xs ys e = cc

pub same_rest : {A : Type 0} (x y : A) (xs ys : List A) → x ∷ xs ≡ y ∷ ys → xs ≡ ys
same_rest x y xs ys e = cc

pub not_empty : {A : Type 0} (x : A) (xs : List A) → x ∷ xs ≡ [] → ⊥
not_empty x xs e = absurd (cc)

-- behind the first item one less is taken, and one less is dropped
pub take_next : {A : Type 0} (m n : ℕ) (x : A) (xs : List A) → m ≡ n + 1 → take m (x ∷ xs) ≡ x ∷ take n xs
take_next m n x xs e = let more : m ≡ suc n = omega (arith, e) in ap (λ k. take k (x ∷ xs)) more

pub drop_next : {A : Type 0} (m n : ℕ) (x : A) (xs : List A) → m ≡ n + 1 → drop m (x ∷ xs) ≡ drop n xs
drop_next m n x xs e = let more : m ≡ suc n = omega (arith, e) in ap (λ k. drop k (x ∷ xs)) more

-- ---- parts of a list

-- the rest from an item that is known
pub drop_item : {A : Type 0} (xs : List A) (k : ℕ) (x : A) → k < length xs → x ≡ get_or xs k x → drop k xs ≡ x ∷ drop (k + 1) xs
drop_item xs k x h e = drop_more xs k x h ∙ ap (λ y. y ∷ drop (k + 1) xs) (sym e)

pub drop_got : {A : Type 0} (xs : List A) (k : ℕ) (x : A) → slice_get xs k ≡ Some x → drop k xs ≡ x ∷ drop (k + 1) xs
drop_got xs k x e = drop_item xs k x (slice_get_within xs k x e) (sym (get_or_from_slice_get xs k x x e))

-- what stands from an item on tells that item and those behind it
pub rest_within : {A : Type 0} (xs : List A) (n : ℕ) (x : A) (rest : List A) → drop n xs ≡ x ∷ rest → n < length xs
rest_within [] zero x rest e = absurd (cc)
rest_within [] (suc n) x rest e = absurd (cc)
rest_within (y ∷ xs) zero x rest e = omega arith
rest_within (y ∷ xs) (suc n) x rest e = omega (arith, rest_within xs n x rest e)

pub rest_first : {A : Type 0} (xs : List A) (n : ℕ) (x : A) (rest : List A) (d : A) → drop n xs ≡ x ∷ rest → get_or xs n d ≡ x
rest_first xs n x rest d e = same_first _ _ _ _ (sym (drop_more xs n d (rest_within xs n x rest e)) ∙ e)

pub rest_behind : {A : Type 0} (xs : List A) (n : ℕ) (x : A) (rest : List A) → drop n xs ≡ x ∷ rest → drop (n + 1) xs ≡ rest
rest_behind xs n x rest e = same_rest _ _ _ _ (sym (drop_more xs n x (rest_within xs n x rest e)) ∙ e)

pub no_rest : {A : Type 0} (xs : List A) (n : ℕ) → drop n xs ≡ [] → length xs ≤ n
no_rest [] n e = omega arith
no_rest (x ∷ xs) zero e = absurd (cc)
no_rest (x ∷ xs) (suc n) e = omega (arith, no_rest xs n e)

-- what a list is after a loan of the whole of it
pub whole_slice : {A : Type 0} (len : ℕ) (new old : List A) → length new ≡ length old → len ≡ length old → take len (new ++ drop (length new) old) ≡ new
whole_slice len new old h e = take_at new (drop (length new) old) len (h ∙ sym e)

-- one more pair
pub zip_end : {A B : Type 0} (xs : List A) (ys : List B) (x : A) (y : B) → length xs ≡ length ys → zip (xs ++ x ∷ []) (ys ++ y ∷ []) ≡ zip xs ys ++ (x, y) ∷ []
zip_end [] [] x y e = refl
zip_end [] (b ∷ ys) x y e = absurd (omega (arith, e))
zip_end (a ∷ xs) [] x y e = absurd (omega (arith, e))
zip_end (a ∷ xs) (b ∷ ys) x y e = let rest : length xs ≡ length ys = omega (arith, e) in ap (λ pairs. (a, b) ∷ pairs) (zip_end xs ys x y rest)

-- ---- numbers of a range that pass a test

pub any_cond : (t : ℕ → Bool) (b : Bool) (x : ℕ) (xs : List ℕ) → list_any t (cond b (x ∷ xs) xs) ≡ ((b && t x) || list_any t xs)
any_cond t true x xs = refl
any_cond t false x xs = refl

pub range_step : (p : ℕ → Bool) (a n q : ℕ) → ((p a && nat_eq a q) || ((leb (a + 1) q && ltb q (a + 1 + n)) && p q)) ≡ ((leb a q && ltb q (a + suc n)) && p q)
range_step p a n q = grind (arith, nat_tests)
