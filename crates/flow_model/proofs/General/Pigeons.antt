-- Different numbers of a range are no more than the range has, so that a slot is free or all are used.
use Rattle.std.proofs.Common.{◌≡◌, ℕ, zero, suc, ◌+◌, ◌<◌, ◌≤◌, Bool, true, false, ◌||◌, ◌==◌, ◌⊎◌, ◌≢◌, inl, inr, refl, sym, ap, arith, List, [], ◌∷◌, length, map, true≢false, ◌∙◌, subst, Option, Some}
use Rattle.std.proofs.lemmas.Bool.{or_left, or_right, eqb-true, eq-eqb, eqb-false, false_from_ne_true, both_ways, cases_Bool}
use Rattle.std.specs.Prelude.{is_some}
use Rattle.std.specs.List.{list_any}
use Rattle.signal_graph.specs.Graph.{is_in}
use Rattle.flow_model.specs.Machine.State.{LiveCall, call_of, call_or}
use Rattle.flow_model.specs.Machine.Steps.{uses_slot, free_slot}
use Rattle.flow_model.specs.Kept.Lawful.{times, AreDistinct}
use Rattle.flow_model.proofs.OneStep.VersionsStayFresh.{live-in, tail-distinct, head-distinct, in-times}

-- how often the numbers from one on stand in a list, k of them
abbrev pub total : List ℕ → ℕ → ℕ → ℕ
total xs from zero = 0
total xs from (suc k) = times from xs + total xs (suc from) k

times-cons : (x y : ℕ) (ys : List ℕ) → times x (y ∷ ys) ≡ elim (y == x) as (λ _. ℕ) [ true ↦ suc (times x ys) | false ↦ times x ys ]
times-cons x y ys = go (cases_Bool (y == x))
  where
    go : ((y == x) ≡ true) ⊎ ((y == x) ≡ false) → times x (y ∷ ys) ≡ elim (y == x) as (λ _. ℕ) [ true ↦ suc (times x ys) | false ↦ times x ys ]
    go (inl e) = rw e refl
    go (inr e) = rw e refl

pub times-it : (x y : ℕ) (ys : List ℕ) → y ≡ x → times x (y ∷ ys) ≡ suc (times x ys)
times-it x y ys e = let k = eq-eqb y x e in times-cons x y ys ∙ rw k refl

pub times-other : (x y : ℕ) (ys : List ℕ) → y ≢ x → times x (y ∷ ys) ≡ times x ys
times-other x y ys e = let k : (y == x) ≡ false = false_from_ne_true _ (λ z. e (eqb-true y x z)) in times-cons x y ys ∙ rw k refl

total-below : (y : ℕ) (ys : List ℕ) (from k : ℕ) → y < from → total (y ∷ ys) from k ≡ total ys from k
total-below y ys from zero h = refl
total-below y ys from (suc k) h =
    let r = total-below y ys (suc from) k (omega arith) in
    let e = times-other from y ys (λ z. omega (arith, z, h)) in
    omega (arith, r, e)

total-in : (y : ℕ) (ys : List ℕ) (from k : ℕ) → from ≤ y → y < from + k → total (y ∷ ys) from k ≡ suc (total ys from k)
total-in y ys from zero a b = absurd (omega arith)
total-in y ys from (suc k) a b = go (cases_Bool (y == from)) (λ (p : suc from ≤ y) (q : y < suc from + k). total-in y ys (suc from) k p q)
  where
    go : ((y == from) ≡ true) ⊎ ((y == from) ≡ false) → (suc from ≤ y → y < suc from + k → total (y ∷ ys) (suc from) k ≡ suc (total ys (suc from) k)) → total (y ∷ ys) from (suc k) ≡ suc (total ys from (suc k))
    go (inl e) further = let q = eqb-true y from e in let r = total-below y ys (suc from) k (omega (arith, q)) in let t = times-it from y ys q in omega (arith, r, t)
    go (inr e) further = let q = eqb-false y from e in let r = further (omega (arith, q)) (omega arith) in let t = times-other from y ys q in omega (arith, r, t)

total-most : (y : ℕ) (ys : List ℕ) (from k : ℕ) → total (y ∷ ys) from k ≤ suc (total ys from k)
total-most y ys from zero = omega arith
total-most y ys from (suc k) = go (cases_Bool (y == from)) (total-most y ys (suc from) k)
  where
    go : ((y == from) ≡ true) ⊎ ((y == from) ≡ false) → total (y ∷ ys) (suc from) k ≤ suc (total ys (suc from) k) → total (y ∷ ys) from (suc k) ≤ suc (total ys from (suc k))
    go (inl e) r = let q = eqb-true y from e in let b = total-below y ys (suc from) k (omega (arith, q)) in let t = times-it from y ys q in omega (arith, b, t)
    go (inr e) r = let q = eqb-false y from e in let t = times-other from y ys q in omega (arith, r, t)

total-empty : (from k : ℕ) → total [] from k ≡ 0
total-empty from zero = refl
total-empty from (suc k) = let r = total-empty (suc from) k in omega (arith, r)

pub total-length : (xs : List ℕ) (from k : ℕ) → total xs from k ≤ length xs
total-length [] from k = let e = total-empty from k in omega (arith, e)
total-length (x ∷ xs) from k = let r = total-length xs from k in let m = total-most x xs from k in omega (arith, r, m)

pub total-all : (xs : List ℕ) (from k : ℕ) → ((x : ℕ) → is_in x xs ≡ true → (from ≤ x) × (x < from + k)) → length xs ≤ total xs from k
total-all [] from k h = omega arith
total-all (x ∷ xs) from k h =
    let i = h x (or_left (x == x) (is_in x xs) (eq-eqb x x refl)) in
    let r = total-all xs from k (λ y l. h y (or_right _ _ l)) in
    let e = total-in x xs from k i.0 i.1 in
    omega (arith, r, e)

pub total-ones : (xs : List ℕ) (from k : ℕ) → ((x : ℕ) → from ≤ x → x < from + k → 1 ≤ times x xs) → k ≤ total xs from k
total-ones xs from zero h = omega arith
total-ones xs from (suc k) h =
    let r = total-ones xs (suc from) k (λ x a b. h x (omega arith) (omega arith)) in
    let e = h from (omega arith) (omega arith) in
    omega (arith, r, e)

pub total-bound : (xs : List ℕ) (from k : ℕ) → AreDistinct xs → total xs from k ≤ k
total-bound xs from zero d = omega arith
total-bound xs from (suc k) d = let r = total-bound xs (suc from) k d in let e = d from in omega (arith, r, e)

pub total-missing : (xs : List ℕ) (from k c : ℕ) → AreDistinct xs → from ≤ c → c < from + k → times c xs ≡ 0 → suc (total xs from k) ≤ k
total-missing xs from zero c d a b z = absurd (omega arith)
total-missing xs from (suc k) c d a b z = go (cases_Bool (c == from)) (λ (p : suc from ≤ c) (q : c < suc from + k). total-missing xs (suc from) k c d p q z)
  where
    go : ((c == from) ≡ true) ⊎ ((c == from) ≡ false) → (suc from ≤ c → c < suc from + k → suc (total xs (suc from) k) ≤ k) → suc (total xs from (suc k)) ≤ suc k
    go (inl e) further = let q = eqb-true c from e in let t = subst (λ (x : ℕ). times x xs ≡ 0) q z in let r = total-bound xs (suc from) k d in omega (arith, t, r)
    go (inr e) further = let q = eqb-false c from e in let r = further (omega (arith, q)) (omega arith) in let o = d from in omega (arith, r, o)

-- ---- a field that differs from call to call

-- a call of the list with this value of the field
pub record Holder (f : LiveCall → ℕ) (cs : List LiveCall) (x : ℕ) : Type 0 where
  pub version : ℕ
  pub known : is_some (call_of cs version) ≡ true
  pub value : f (call_or (call_of cs version)) ≡ x

pub read-tail : (c : LiveCall) (cs : List LiveCall) (v : ℕ) → AreDistinct (map (λ (c : LiveCall). c.version) (c ∷ cs)) → is_some (call_of cs v) ≡ true → call_of (c ∷ cs) v ≡ call_of cs v
read-tail c cs v d k =
    let n = head-distinct c.version (map (λ (c : LiveCall). c.version) cs) d in
    let i = live-in cs v k in
    let e : (c.version == v) ≡ false = false_from_ne_true _ (λ z. both_ways _ n (subst (λ (w : ℕ). is_in w (map (λ (c : LiveCall). c.version) cs) ≡ true) (sym (eqb-true c.version v z)) i)) in
    rw (e, call_of) refl

pub holder : (f : LiveCall → ℕ) (cs : List LiveCall) (x : ℕ) → AreDistinct (map (λ (c : LiveCall). c.version) cs) → is_in x (map f cs) ≡ true → Holder f cs x
holder f [] x d h = absurd (true≢false (sym h))
holder f (c ∷ cs) x d h = go (cases_Bool (f c == x)) (holder f cs x (tail-distinct c.version (map (λ (c : LiveCall). c.version) cs) d))
  where
    go : ((f c == x) ≡ true) ⊎ ((f c == x) ≡ false) → (is_in x (map f cs) ≡ true → Holder f cs x) → Holder f (c ∷ cs) x
    go (inl e) further =
        let w = eq-eqb c.version c.version refl in
        let r : call_of (c ∷ cs) c.version ≡ Some c = rw (w, call_of) refl in
        record { version = c.version; known = ap is_some r; value = ap (λ (o : Option LiveCall). f (call_or o)) r ∙ eqb-true (f c) x e }
    go (inr e) further =
        let p = further (subst (λ (b : Bool). (b || is_in x (map f cs)) ≡ true) e h) in
        let r = read-tail c cs p.version d p.known in
        record { version = p.version; known = ap is_some r ∙ p.known; value = ap (λ (o : Option LiveCall). f (call_or o)) r ∙ p.value }

pub field-distinct : (f : LiveCall → ℕ) (cs : List LiveCall) → AreDistinct (map (λ (c : LiveCall). c.version) cs)
    → ((u v : ℕ) → is_some (call_of cs u) ≡ true → is_some (call_of cs v) ≡ true → f (call_or (call_of cs u)) ≡ f (call_or (call_of cs v)) → u ≡ v) → AreDistinct (map f cs)
field-distinct f [] d h x = omega arith
field-distinct f (c ∷ cs) d h x = go (cases_Bool (f c == x)) (field-distinct f cs (tail-distinct c.version (map (λ (c : LiveCall). c.version) cs) d) apart x)
  where
    apart : (u v : ℕ) → is_some (call_of cs u) ≡ true → is_some (call_of cs v) ≡ true → f (call_or (call_of cs u)) ≡ f (call_or (call_of cs v)) → u ≡ v
    apart u v k l e =
        let a = read-tail c cs u d k in
        let b = read-tail c cs v d l in
        h u v (ap is_some a ∙ k) (ap is_some b ∙ l) (ap (λ (o : Option LiveCall). f (call_or o)) a ∙ e ∙ sym (ap (λ (o : Option LiveCall). f (call_or o)) b))

    none : f c ≡ x → is_in x (map f cs) ≡ true → ⊥
    none e i =
        let p = holder f cs x (tail-distinct c.version (map (λ (c : LiveCall). c.version) cs) d) i in
        let w = eq-eqb c.version c.version refl in
        let r : call_of (c ∷ cs) c.version ≡ Some c = rw (w, call_of) refl in
        let q = read-tail c cs p.version d p.known in
        let same : c.version ≡ p.version = h c.version p.version (ap is_some r) (ap is_some q ∙ p.known) (ap (λ (o : Option LiveCall). f (call_or o)) r ∙ e ∙ sym (ap (λ (o : Option LiveCall). f (call_or o)) q ∙ p.value)) in
        both_ways _ (head-distinct c.version (map (λ (c : LiveCall). c.version) cs) d) (subst (λ (v : ℕ). is_in v (map (λ (c : LiveCall). c.version) cs) ≡ true) (sym same) (live-in cs p.version p.known))

    zero_times : (n : ℕ) → (1 ≤ n → ⊥) → n ≡ 0
    zero_times zero k = refl
    zero_times (suc n) k = absurd (k (omega arith))

    go : ((f c == x) ≡ true) ⊎ ((f c == x) ≡ false) → times x (map f cs) ≤ 1 → times x (f c ∷ map f cs) ≤ 1
    go (inl e) r =
        let q = eqb-true (f c) x e in
        let z = zero_times (times x (map f cs)) (λ k. none q (in-times x (map f cs) k)) in
        let t = times-it x (f c) (map f cs) q in
        omega (arith, z, t)
    go (inr e) r = let q = eqb-false (f c) x e in let t = times-other x (f c) (map f cs) q in omega (arith, r, t)

-- ---- the free slot

pub any-field : (f : LiveCall → ℕ) (x : ℕ) (cs : List LiveCall) → list_any (λ c. f c == x) cs ≡ is_in x (map f cs)
any-field f x [] = refl
any-field f x (c ∷ cs) = ap (λ (b : Bool). (f c == x) || b) (any-field f x cs)

-- The slot is free and among those that were asked, or all of these are used.
pub record IsFreeSlot (k from : ℕ) (cs : List LiveCall) : Type 0 where
  pub unused : uses_slot (free_slot k from cs) cs ≡ false
  pub inside : free_slot k from cs < from + k

pub find-slot : (k from : ℕ) (cs : List LiveCall) → IsFreeSlot k from cs ⊎ ((x : ℕ) → from ≤ x → x < from + k → uses_slot x cs ≡ true)
find-slot zero from cs = inr (λ x a b. absurd (omega (arith, a, b)))
find-slot (suc k) from cs = go (cases_Bool (uses_slot from cs)) (find-slot k (suc from) cs)
  where
    go : (uses_slot from cs ≡ true) ⊎ (uses_slot from cs ≡ false) → IsFreeSlot k (suc from) cs ⊎ ((x : ℕ) → suc from ≤ x → x < suc from + k → uses_slot x cs ≡ true) → IsFreeSlot (suc k) from cs ⊎ ((x : ℕ) → from ≤ x → x < from + suc k → uses_slot x cs ≡ true)
    go (inr e) r = inl (record { unused = rw (e, free_slot) e; inside = rw (e, free_slot) (omega arith) })
    go (inl e) (inl r) = let i = r.inside in inl (record { unused = rw (e, free_slot) r.unused; inside = rw (e, free_slot) (omega (arith, i)) })
    go (inl e) (inr r) = inr (λ x a b. at_or_above x a b (cases_Bool (x == from)))
      where
        at_or_above : (x : ℕ) → from ≤ x → x < from + suc k → ((x == from) ≡ true) ⊎ ((x == from) ≡ false) → uses_slot x cs ≡ true
        at_or_above x a b (inl q) = subst (λ (y : ℕ). uses_slot y cs ≡ true) (sym (eqb-true x from q)) e
        at_or_above x a b (inr q) = let ne = eqb-false x from q in r x (omega (arith, a, ne)) (omega (arith, b))
