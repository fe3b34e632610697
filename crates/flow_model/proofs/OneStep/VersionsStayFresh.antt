-- The versions of live and logged calls stay distinct and begun, after a change of a call, a beginning and an End.
use Rattle.std.proofs.Common.{◌≡◌, ℕ, zero, suc, ◌+◌, ◌≤◌, Bool, true, false, ◌&&◌, ◌||◌, ◌==◌, ◌⊎◌, inl, inr, refl, sym, ap, ap₂, arith, List, [], ◌∷◌, ◌++◌, map, length, true≢false, ◌∙◌, subst}
use Rattle.std.specs.Prelude.{is_some}
use Rattle.std.specs.Prelude.{filter}
use Rattle.std.proofs.lemmas.Bool.Decides.{eqb_tells}
use Rattle.std.proofs.lemmas.Bool.{or_cases, or_left, or_right, eqb-true, eq-eqb, false_from_ne_true, both_ways, cases_Bool}
use Rattle.std.proofs.lemmas.List.{map-append, length-append, length-map}
use Rattle.std.proofs.lemmas.List.Elements.{filter-append}
use Rattle.std.proofs.lemmas.List.Folds.{list_any-append}
use Rattle.signal_graph.specs.declared.call.Call.{Call}
use Rattle.signal_graph.specs.declared.log.Logged.{Logged}
use Rattle.signal_graph.specs.Graph.{Graph, is_in}
use Rattle.call_log.specs.Made.{versions_in}
use Rattle.flow_model.specs.Machine.State.{Core, LiveCall, call, call_of, call_or, live, change_call}
use Rattle.flow_model.specs.Machine.Steps.{begin, new_call, without_call, logged}
use Rattle.flow_model.specs.Kept.Lawful.{times, versions, AreDistinct, VersionsAreFresh, log_has, ended_first, ended_before}
use Rattle.flow_model.proofs.OneList.InOrder.{IsTransitive}

pub times-append : (x : ℕ) (xs ys : List ℕ) → times x (xs ++ ys) ≡ times x xs + times x ys
times-append x xs ys = ap length (filter-append (λ y. y == x) xs ys) ∙ length-append (filter (λ y. y == x) xs) (filter (λ y. y == x) ys)

pub times-in : (x : ℕ) (xs : List ℕ) → is_in x xs ≡ true → 1 ≤ times x xs
times-in x [] h = absurd (true≢false (sym h))
times-in x (y ∷ ys) h = go (cases_Bool (y == x)) (times-in x ys)
  where
    go : ((y == x) ≡ true) ⊎ ((y == x) ≡ false) → (is_in x ys ≡ true → 1 ≤ times x ys) → 1 ≤ times x (y ∷ ys)
    go (inl e) further = rw e (omega arith)
    go (inr e) further = rw e (further (subst (λ (b : Bool). (b || is_in x ys) ≡ true) e h))

times-none : (x : ℕ) (xs : List ℕ) → times x xs ≡ 0 → is_in x xs ≡ false
times-none x xs h = false_from_ne_true _ (λ k. let r = times-in x xs k in omega (arith, r, h))

-- the calls and the log name the same versions, and as many have begun
pub record SameCalls (s q : Core) : Type 0 where
  pub calls : map (λ (c : LiveCall). c.version) q.calls ≡ map (λ (c : LiveCall). c.version) s.calls
  pub log : q.log ≡ s.log
  pub begun : q.begun ≡ s.begun

pub same-VersionsAreFresh : (s q : Core) → SameCalls s q → VersionsAreFresh s → VersionsAreFresh q
same-VersionsAreFresh s q e h =
    let vs : versions q ≡ versions s = ap₂ (λ (a : List ℕ) (l : List Logged). a ++ versions_in l) e.calls e.log in
    record {
      distinct = λ x. subst (λ (ns : List ℕ). times x ns ≤ 1) (sym vs) (h.distinct x);
      fit = λ u k. subst (λ (b : ℕ). (1 ≤ u) × (u ≤ b)) (sym e.begun) (h.fit u (subst (λ (ns : List ℕ). is_in u ns ≡ true) vs k));
      count = e.begun ∙ h.count ∙ ap₂ (λ (a b : ℕ). a + b) (ap length (sym e.log)) (sym (length-map s.calls (λ (c : LiveCall). c.version)) ∙ ap length (sym e.calls) ∙ length-map q.calls (λ (c : LiveCall). c.version));
    }

pub change_call-versions : (t : ℕ) (f : LiveCall → LiveCall) → ((c : LiveCall) → (f c).version ≡ c.version) → (cs : List LiveCall) → map (λ (c : LiveCall). c.version) (change_call t f cs) ≡ map (λ (c : LiveCall). c.version) cs
change_call-versions t f keeps [] = refl
change_call-versions t f keeps (c ∷ cs) = go (c.version == t) (change_call-versions t f keeps cs)
  where
    go : (b : Bool) → map (λ (c : LiveCall). c.version) (change_call t f cs) ≡ map (λ (c : LiveCall). c.version) cs
        → map (λ (c : LiveCall). c.version) (elim b as (λ _. List LiveCall) [ true ↦ f c ∷ cs | false ↦ c ∷ change_call t f cs ]) ≡ c.version ∷ map (λ (c : LiveCall). c.version) cs
    go true r = ap (λ (v : ℕ). v ∷ map (λ (c : LiveCall). c.version) cs) (keeps c)
    go false r = ap (λ (vs : List ℕ). c.version ∷ vs) r

pub map-versions : (f : LiveCall → LiveCall) → ((c : LiveCall) → (f c).version ≡ c.version) → (cs : List LiveCall) → map (λ (c : LiveCall). c.version) (map f cs) ≡ map (λ (c : LiveCall). c.version) cs
map-versions f keeps [] = refl
map-versions f keeps (c ∷ cs) = ap₂ (λ (v : ℕ) (vs : List ℕ). v ∷ vs) (keeps c) (map-versions f keeps cs)

-- ---- live and logged calls have begun

pub live-in : (cs : List LiveCall) (u : ℕ) → is_some (call_of cs u) ≡ true → is_in u (map (λ (c : LiveCall). c.version) cs) ≡ true
live-in [] u h = h
live-in (c ∷ cs) u h = let r = live-in cs u in grind (arith, r)

pub live-version : (s : Core) (u : ℕ) → live s u ≡ true → is_in u (versions s) ≡ true
live-version s u h = list_any-append (λ m. m == u) (map (λ (c : LiveCall). c.version) s.calls) (versions_in s.log) ∙ or_left _ _ (live-in s.calls u h)

logged-version : (s : Core) (u : ℕ) → log_has s.log u ≡ true → is_in u (versions s) ≡ true
logged-version s u h = list_any-append (λ m. m == u) (map (λ (c : LiveCall). c.version) s.calls) (versions_in s.log) ∙ or_right _ _ h

pub not_begun-live : (s : Core) → VersionsAreFresh s → live s (suc s.begun) ≡ false
not_begun-live s h = false_from_ne_true _ (λ l. let r = (h.fit (suc s.begun) (live-version s (suc s.begun) l)).1 in omega (arith, r))

pub not_begun-logged : (s : Core) → VersionsAreFresh s → log_has s.log (suc s.begun) ≡ false
not_begun-logged s h = false_from_ne_true _ (λ l. let r = (h.fit (suc s.begun) (logged-version s (suc s.begun) l)).1 in omega (arith, r))

-- ---- a call begins

begin-times : (x b : ℕ) (vs ls : List ℕ) → ((u : ℕ) → is_in u (vs ++ ls) ≡ true → u ≤ b) → times x (vs ++ ls) ≤ 1 → times x ((vs ++ suc b ∷ []) ++ ls) ≤ 1
begin-times x b vs ls fit h =
    let e1 = times-append x (vs ++ suc b ∷ []) ls in
    let e2 = times-append x vs (suc b ∷ []) in
    let e3 = times-append x vs ls in
    go (cases_Bool (suc b == x)) e1 e2 e3
  where
    absent : suc b ≡ x → times x (vs ++ ls) ≡ 0
    absent e = zero_or (times x (vs ++ ls)) h (λ k. let r = fit x (found (vs ++ ls) k) in omega (arith, r, e))
      where
        found : (ns : List ℕ) → 1 ≤ times x ns → is_in x ns ≡ true
        found [] k = absurd (omega arith)
        found (y ∷ ys) k = more (cases_Bool (y == x)) k (found ys)
          where
            more : ((y == x) ≡ true) ⊎ ((y == x) ≡ false) → 1 ≤ times x (y ∷ ys) → (1 ≤ times x ys → is_in x ys ≡ true) → is_in x (y ∷ ys) ≡ true
            more (inl e) k further = or_left _ _ e
            more (inr e) k further = or_right _ _ (further (rw e at k))

        zero_or : (n : ℕ) → n ≤ 1 → (1 ≤ n → ⊥) → n ≡ 0
        zero_or zero h k = refl
        zero_or (suc n) h k = absurd (k (omega arith))

    go : ((suc b == x) ≡ true) ⊎ ((suc b == x) ≡ false) → times x ((vs ++ suc b ∷ []) ++ ls) ≡ times x (vs ++ suc b ∷ []) + times x ls → times x (vs ++ suc b ∷ []) ≡ times x vs + times x (suc b ∷ []) → times x (vs ++ ls) ≡ times x vs + times x ls → times x ((vs ++ suc b ∷ []) ++ ls) ≤ 1
    go (inl e) e1 e2 e3 = let z = absent (eqb-true (suc b) x e) in let o : times x (suc b ∷ []) ≡ 1 = rw e refl in omega (arith, e1, e2, e3, z, o)
    go (inr e) e1 e2 e3 = let o : times x (suc b ∷ []) ≡ 0 = rw e refl in omega (arith, e1, e2, e3, h, o)

pub begin-VersionsAreFresh : (graph : Graph) (s : Core) (caller : ℕ) (c : Call) → VersionsAreFresh s → VersionsAreFresh (begin graph s caller c)
begin-VersionsAreFresh graph s caller c h =
    let vs = map (λ (c : LiveCall). c.version) s.calls in
    let ls = versions_in s.log in
    let e : versions (begin graph s caller c) ≡ (vs ++ suc s.begun ∷ []) ++ ls = ap (λ (ns : List ℕ). ns ++ ls) (map-append (λ (c : LiveCall). c.version) s.calls (new_call graph s caller c ∷ [])) in
    record {
      distinct = λ x. subst (λ (ns : List ℕ). times x ns ≤ 1) (sym e) (begin-times x s.begun vs ls (λ u k. (h.fit u k).1) (h.distinct x));
      fit = λ u k. go u vs ls (or_cases _ _ (sym (list_any-append (λ m. m == u) (vs ++ suc s.begun ∷ []) ls) ∙ (subst (λ (ns : List ℕ). is_in u ns ≡ true) e k))) (h.fit u);
      count = ap suc h.count ∙ more (length s.log) (length s.calls) ∙ ap (λ (n : ℕ). length s.log + n) (sym (length-append s.calls (new_call graph s caller c ∷ [])));
    }
  where
    more : (a b : ℕ) → suc (a + b) ≡ a + (b + 1)
    more a b = omega arith

    go : (u : ℕ) (vs ls : List ℕ) → (is_in u (vs ++ suc s.begun ∷ []) ≡ true) ⊎ (is_in u ls ≡ true) → (is_in u (vs ++ ls) ≡ true → (1 ≤ u) × (u ≤ s.begun)) → (1 ≤ u) × (u ≤ suc s.begun)
    go u vs ls (inr k) f = let r = f (list_any-append (λ m. m == u) vs ls ∙ or_right _ _ k) in (r.0, (let q = r.1 in omega (arith, q)))
    go u vs ls (inl k) f = last (or_cases _ _ (sym (list_any-append (λ m. m == u) vs (suc s.begun ∷ [])) ∙ k))
      where
        last : (is_in u vs ≡ true) ⊎ (is_in u (suc s.begun ∷ []) ≡ true) → (1 ≤ u) × (u ≤ suc s.begun)
        last (inl j) = let r = f (list_any-append (λ m. m == u) vs ls ∙ or_left _ _ j) in (r.0, (let q = r.1 in omega (arith, q)))
        last (inr j) = let e : suc s.begun ≡ u = grind (arith, eqb_tells, j) in (omega (arith, e), omega (arith, e))

-- ---- a call ends

pub call-version : (s : Core) (t : ℕ) → live s t ≡ true → (call s t).version ≡ t
call-version s t h = go s.calls h
  where
    go : (cs : List LiveCall) → is_some (call_of cs t) ≡ true → (call_or (call_of cs t)).version ≡ t
    go [] k = absurd (true≢false (sym k))
    go (c ∷ cs) k = let r = go cs in grind (arith, eqb_tells, r)

without-times : (t x : ℕ) (cs : List LiveCall) → times x (map (λ (c : LiveCall). c.version) (without_call t cs)) ≡ elim (x == t) as (λ _. ℕ) [ true ↦ 0 | false ↦ times x (map (λ (c : LiveCall). c.version) cs) ]
without-times t x [] = grind arith
without-times t x (c ∷ cs) = let r = without-times t x cs in grind (arith, eqb_tells, r)

without-length : (t : ℕ) (cs : List LiveCall) → length (without_call t cs) + times t (map (λ (c : LiveCall). c.version) cs) ≡ length cs
without-length t [] = refl
without-length t (c ∷ cs) = let r = without-length t cs in go (cases_Bool (c.version == t)) r
  where
    go : ((c.version == t) ≡ true) ⊎ ((c.version == t) ≡ false) → length (without_call t cs) + times t (map (λ (c : LiveCall). c.version) cs) ≡ length cs → length (without_call t (c ∷ cs)) + times t (map (λ (c : LiveCall). c.version) (c ∷ cs)) ≡ length (c ∷ cs)
    go (inl e) r = rw (e, without_call) (omega (arith, r))
    go (inr e) r = rw (e, without_call) (omega (arith, r))

-- a call moves from the live ones to the log
end-versions : (s : Core) (t x : ℕ) → VersionsAreFresh s → live s t ≡ true → times x (map (λ (c : LiveCall). c.version) (without_call t s.calls) ++ versions_in (s.log ++ logged (call s t) ∷ [])) ≡ times x (versions s)
end-versions s t x h lt =
    let vs = map (λ (c : LiveCall). c.version) s.calls in
    let e1 = times-append x (map (λ (c : LiveCall). c.version) (without_call t s.calls)) (versions_in (s.log ++ logged (call s t) ∷ [])) in
    let e2 = ap (times x) (map-append (λ (e : Logged). e.version) s.log (logged (call s t) ∷ [])) ∙ times-append x (versions_in s.log) ((call s t).version ∷ []) ∙ ap (λ (v : ℕ). times x (versions_in s.log) + times x (v ∷ [])) (call-version s t lt) in
    let e3 = without-times t x s.calls in
    let e4 = times-append x vs (versions_in s.log) in
    let one = times-in t vs (live-in s.calls t lt) in
    let most = h.distinct t in
    let e5 = times-append t vs (versions_in s.log) in
    go (cases_Bool (x == t)) e1 e2 e3 e4 one most e5
  where
    go : ((x == t) ≡ true) ⊎ ((x == t) ≡ false)
        → times x (map (λ (c : LiveCall). c.version) (without_call t s.calls) ++ versions_in (s.log ++ logged (call s t) ∷ [])) ≡ times x (map (λ (c : LiveCall). c.version) (without_call t s.calls)) + times x (versions_in (s.log ++ logged (call s t) ∷ []))
        → times x (versions_in (s.log ++ logged (call s t) ∷ [])) ≡ times x (versions_in s.log) + times x (t ∷ [])
        → times x (map (λ (c : LiveCall). c.version) (without_call t s.calls)) ≡ elim (x == t) as (λ _. ℕ) [ true ↦ 0 | false ↦ times x (map (λ (c : LiveCall). c.version) s.calls) ]
        → times x (versions s) ≡ times x (map (λ (c : LiveCall). c.version) s.calls) + times x (versions_in s.log)
        → 1 ≤ times t (map (λ (c : LiveCall). c.version) s.calls) → times t (versions s) ≤ 1 → times t (versions s) ≡ times t (map (λ (c : LiveCall). c.version) s.calls) + times t (versions_in s.log)
        → times x (map (λ (c : LiveCall). c.version) (without_call t s.calls) ++ versions_in (s.log ++ logged (call s t) ∷ [])) ≡ times x (versions s)
    go (inl e) e1 e2 e3 e4 one most e5 =
        let xt = eqb-true x t e in
        let o : times x (t ∷ []) ≡ 1 = let w = eq-eqb t x (sym xt) in rw w refl in
        let z : times x (map (λ (c : LiveCall). c.version) (without_call t s.calls)) ≡ 0 = rw e at e3 in
        let m = subst (λ (k : ℕ). 1 ≤ times k (map (λ (c : LiveCall). c.version) s.calls)) (sym xt) one in
        let n = subst (λ (k : ℕ). times k (versions s) ≤ 1) (sym xt) most in
        omega (arith, e1, e2, e4, o, z, m, n)
    go (inr e) e1 e2 e3 e4 one most e5 =
        let o : times x (t ∷ []) ≡ 0 = let w : (t == x) ≡ false = grind (arith, eqb_tells, e) in rw w refl in
        let z : times x (map (λ (c : LiveCall). c.version) (without_call t s.calls)) ≡ times x (map (λ (c : LiveCall). c.version) s.calls) = rw e at e3 in
        omega (arith, e1, e2, e4, o, z)

pub in-times : (x : ℕ) (xs : List ℕ) → 1 ≤ times x xs → is_in x xs ≡ true
in-times x xs h = go (cases_Bool (is_in x xs))
  where
    absent : (ys : List ℕ) → is_in x ys ≡ false → times x ys ≡ 0
    absent [] k = refl
    absent (y ∷ ys) k = more (cases_Bool (y == x)) k (absent ys)
      where
        more : ((y == x) ≡ true) ⊎ ((y == x) ≡ false) → is_in x (y ∷ ys) ≡ false → (is_in x ys ≡ false → times x ys ≡ 0) → times x (y ∷ ys) ≡ 0
        more (inl e) k further = absurd (both_ways _ k (or_left _ _ e))
        more (inr e) k further = rw e (further (subst (λ (b : Bool). (b || is_in x ys) ≡ false) e k))

    go : (is_in x xs ≡ true) ⊎ (is_in x xs ≡ false) → is_in x xs ≡ true
    go (inl k) = k
    go (inr k) = let z = absent xs k in absurd (omega (arith, z, h))

-- the state after a call ended, as its parts
abbrev pub end_parts : Core → ℕ → Core → Type 0
end_parts s t q = (q.calls ≡ without_call t s.calls) × (q.log ≡ s.log ++ logged (call s t) ∷ []) × (q.begun ≡ s.begun)

pub end-VersionsAreFresh : (s q : Core) (t : ℕ) → end_parts s t q → VersionsAreFresh s → live s t ≡ true → VersionsAreFresh q
end-VersionsAreFresh s q t e h lt =
    let vs = ap₂ (λ (cs : List LiveCall) (l : List Logged). map (λ (c : LiveCall). c.version) cs ++ versions_in l) e.0 e.1 in
    let same = λ (x : ℕ). ap (times x) vs ∙ end-versions s t x h lt in
    record {
      distinct = λ x. let r = h.distinct x in subst (λ (n : ℕ). n ≤ 1) (sym (same x)) r;
      fit = λ u k. subst (λ (b : ℕ). (1 ≤ u) × (u ≤ b)) (sym e.2) (h.fit u (in-times u (versions s) (subst (λ (n : ℕ). 1 ≤ n) (same u) (times-in u (versions q) k))));
      count = e.2 ∙ h.count ∙ counted ∙ ap₂ (λ (a b : ℕ). a + b) (sym (length-append s.log (logged (call s t) ∷ [])) ∙ ap length (sym e.1)) (ap length (sym e.0));
    }
  where
    counted : length s.log + length s.calls ≡ (length s.log + 1) + length (without_call t s.calls)
    counted =
        let w = without-length t s.calls in
        let one = times-in t (map (λ (c : LiveCall). c.version) s.calls) (live-in s.calls t lt) in
        let most = h.distinct t in
        let e5 = times-append t (map (λ (c : LiveCall). c.version) s.calls) (versions_in s.log) in
        omega (arith, w, one, most, e5)

-- ---- the order in which calls ended

ended_first-logged : (log : List Logged) (u v : ℕ) → ended_first log u v ≡ true → (log_has log u ≡ true) × (log_has log v ≡ true)
ended_first-logged [] u v h = absurd (true≢false (sym h))
ended_first-logged (x ∷ xs) u v h = let r = ended_first-logged xs u v in grind (arith, eqb_tells, r)

ended_before-logged : (log : List Logged) (u v : ℕ) → ended_before log u v ≡ true → log_has log v ≡ true
ended_before-logged log u v h = let r = ended_first-logged log u v in grind (arith, r)

pub tail-distinct : (x : ℕ) (xs : List ℕ) → AreDistinct (x ∷ xs) → AreDistinct xs
tail-distinct x xs h y = let r = h y in go (cases_Bool (x == y)) r
  where
    go : ((x == y) ≡ true) ⊎ ((x == y) ≡ false) → times y (x ∷ xs) ≤ 1 → times y xs ≤ 1
    go (inl e) r = let q : suc (times y xs) ≤ 1 = rw e at r in omega (arith, q)
    go (inr e) r = rw e at r

pub head-distinct : (x : ℕ) (xs : List ℕ) → AreDistinct (x ∷ xs) → is_in x xs ≡ false
head-distinct x xs h =
    let e = eq-eqb x x refl in
    let q : suc (times x xs) ≤ 1 = (let r = h x in rw e at r) in
    times-none x xs (omega (arith, q))

ended_first-trans : (log : List Logged) (u v w : ℕ) → AreDistinct (versions_in log) → ended_first log u v ≡ true → ended_first log v w ≡ true → ended_first log u w ≡ true
ended_first-trans [] u v w d h k = h
ended_first-trans (x ∷ xs) u v w d h k =
    let r = ended_first-trans xs u v w (tail-distinct x.version (versions_in xs) d) in
    let n = head-distinct x.version (versions_in xs) d in
    let a = ended_first-logged xs u v in
    let b = ended_first-logged xs v w in
    let s = λ (e : x.version ≡ v). subst (λ (m : ℕ). log_has xs m ≡ false) e n in
    grind (arith, eqb_tells, r, a, b, s)

log-distinct : (s : Core) → VersionsAreFresh s → AreDistinct (versions_in s.log)
log-distinct s h x = let r = h.distinct x in let e = times-append x (map (λ (c : LiveCall). c.version) s.calls) (versions_in s.log) in omega (arith, r, e)

pub ended_before-trans : (s : Core) → VersionsAreFresh s → IsTransitive (λ u v. ended_before s.log u v ≡ true)
ended_before-trans s h u v w j k =
    let t = ended_first-trans s.log u v w (log-distinct s h) in
    let a = ended_first-logged s.log u v in
    let b = ended_before-logged s.log v w k in
    let z = λ (l : log_has s.log 0 ≡ true). (h.fit 0 (logged-version s 0 l)).0 in
    let zero : (v == 0) ≡ true → log_has s.log v ≡ true → ⊥ = λ e l. let y = z (subst (λ (m : ℕ). log_has s.log m ≡ true) (eqb-true v 0 e) l) in omega (arith, y) in
    grind (arith, t, a, b, zero)

-- a call more at the end of the log
pub logged-more : (log : List Logged) (x : Logged) (u : ℕ) → log_has (log ++ x ∷ []) u ≡ (log_has log u || (x.version == u))
logged-more [] x u = grind arith
logged-more (y ∷ ys) x u = let r = logged-more ys x u in grind (arith, r)

ended_first-more : (log : List Logged) (x : Logged) (u v : ℕ) → ended_first (log ++ x ∷ []) u v ≡ (ended_first log u v || (log_has log u && (x.version == v)))
ended_first-more [] x u v = grind arith
ended_first-more (y ∷ ys) x u v = let r = ended_first-more ys x u v in let l = logged-more ys x v in grind (arith, r, l)

pub ended_before-more : (log : List Logged) (x : Logged) (u v : ℕ) → ended_before log u v ≡ true → ended_before (log ++ x ∷ []) u v ≡ true
ended_before-more log x u v h = let f = ended_first-more log x u v in let l = logged-more log x v in grind (arith, f, l)

pub ended_before-last : (log : List Logged) (x : Logged) (u : ℕ) → (u ≡ 0) ⊎ (log_has log u ≡ true) → ended_before (log ++ x ∷ []) u x.version ≡ true
ended_before-last log x u h =
    let f = ended_first-more log x u x.version in
    let l = logged-more log x x.version in
    let e = eq-eqb x.version x.version refl in
    grind (arith, eqb_tells, f, l, e, h)
