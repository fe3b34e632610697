-- Callers whose call has ended.
use Rattle.std.proofs.Common.{◌≡◌, ℕ, ◌≤◌, ◌<◌, Bool, true, false, cond, ◌==◌, List, [], ◌∷◌, length, filter, Option, Some, refl, sym, ap, subst, arith, true≢false}
use Rattle.std.proofs.lemmas.Bool.{or_left, eq-eqb, both_ways}
use Rattle.std.specs.Prelude.{is_some}
use Rattle.std.proofs.lemmas.List.{nil_from_length}
use Rattle.signal_graph.specs.Graph.{is_in}
use Rattle.flow_model.specs.Machine.State.{LiveCall, call_of, call_or}
use Rattle.flow_model.specs.Machine.Steps.{has_call, without_call}

abbrev calls_by : ℕ → List LiveCall → List LiveCall
calls_by k cs = filter (λ (c : LiveCall). c.caller == k) cs

-- who has no call has none among fewer
fewer-idle : (k t : ℕ) (cs : List LiveCall) → calls_by k cs ≡ [] → has_call k (without_call t cs) ≡ false
fewer-idle k t [] h = refl
fewer-idle k t (c ∷ cs) h = go (c.caller == k) refl (c.version == t) h (λ r. fewer-idle k t cs r)
  where
    go : (b : Bool) → (c.caller == k) ≡ b → (v : Bool) → cond b (c ∷ calls_by k cs) (calls_by k cs) ≡ [] → (calls_by k cs ≡ [] → has_call k (without_call t cs) ≡ false)
        → has_call k (elim v as (λ _. List LiveCall) [ true ↦ without_call t cs | false ↦ c ∷ without_call t cs ]) ≡ false
    go true e v h r = absurd (cc)
    go false e true h r = r h
    go false e false h r = rw e (r h)

-- a call that is there is among its caller's
found-counts : (k t : ℕ) (cs : List LiveCall) → is_some (call_of cs t) ≡ true → (call_or (call_of cs t)).caller ≡ k → 0 < length (calls_by k cs)
found-counts k t [] l w = absurd (true≢false (sym l))
found-counts k t (c ∷ cs) l w = go (c.version == t) (c.caller == k) refl l w (λ m x. found-counts k t cs m x)
  where
    go : (v b : Bool) → (c.caller == k) ≡ b → is_some (elim v as (λ _. Option LiveCall) [ true ↦ Some c | false ↦ call_of cs t ]) ≡ true
        → (call_or (elim v as (λ _. Option LiveCall) [ true ↦ Some c | false ↦ call_of cs t ])).caller ≡ k
        → (is_some (call_of cs t) ≡ true → (call_or (call_of cs t)).caller ≡ k → 0 < length (calls_by k cs))
        → 0 < length (cond b (c ∷ calls_by k cs) (calls_by k cs))
    go v true e l w r = omega arith
    go true false e l w r = absurd (both_ways _ e (eq-eqb c.caller k w))
    go false false e l w r = r l w

-- who has one call at most has none without it
pub ended-idle : (k t : ℕ) (cs : List LiveCall) → length (calls_by k cs) ≤ 1 → is_some (call_of cs t) ≡ true → (call_or (call_of cs t)).caller ≡ k → has_call k (without_call t cs) ≡ false
ended-idle k t [] one l w = refl
ended-idle k t (c ∷ cs) one l w = go (c.version == t) (c.caller == k) refl one l w (λ o m x. ended-idle k t cs o m x) (λ m x. found-counts k t cs m x)
  where
    go : (v b : Bool) → (c.caller == k) ≡ b → length (cond b (c ∷ calls_by k cs) (calls_by k cs)) ≤ 1
        → is_some (elim v as (λ _. Option LiveCall) [ true ↦ Some c | false ↦ call_of cs t ]) ≡ true
        → (call_or (elim v as (λ _. Option LiveCall) [ true ↦ Some c | false ↦ call_of cs t ])).caller ≡ k
        → (length (calls_by k cs) ≤ 1 → is_some (call_of cs t) ≡ true → (call_or (call_of cs t)).caller ≡ k → has_call k (without_call t cs) ≡ false)
        → (is_some (call_of cs t) ≡ true → (call_or (call_of cs t)).caller ≡ k → 0 < length (calls_by k cs))
        → has_call k (elim v as (λ _. List LiveCall) [ true ↦ without_call t cs | false ↦ c ∷ without_call t cs ]) ≡ false
    go true true e one l w r f = fewer-idle k t cs (nil_from_length (calls_by k cs) (omega (arith, one)))
    go true false e one l w r f = absurd (both_ways _ e (eq-eqb c.caller k w))
    go false true e one l w r f = let more = f l w in absurd (omega (arith, one, more))
    go false false e one l w r f = rw e (r one l w)

-- a call that is there is one of its caller's
pub any-idle : (cs : List LiveCall) → ((t : ℕ) → is_some (call_of cs t) ≡ true → has_call (call_or (call_of cs t)).caller cs ≡ false) → cs ≡ []
any-idle [] h = refl
any-idle (c ∷ cs) h =
    let e : call_of (c ∷ cs) c.version ≡ Some c = itself (c.version == c.version) (eq-eqb c.version c.version refl) in
    let none : has_call c.caller (c ∷ cs) ≡ false = subst (λ (o : Option LiveCall). has_call (call_or o).caller (c ∷ cs) ≡ false) e (h c.version (ap is_some e)) in
    absurd (both_ways _ none (or_left _ _ (eq-eqb c.caller c.caller refl)))
  where
    itself : (b : Bool) → b ≡ true → elim b as (λ _. Option LiveCall) [ true ↦ Some c | false ↦ call_of cs c.version ] ≡ Some c
    itself true h = refl
    itself false h = absurd (true≢false (sym h))

-- a list in which nothing is
pub nothing_in : (ns : List ℕ) → ((n : ℕ) → is_in n ns ≡ true → ⊥) → ns ≡ []
nothing_in [] h = refl
nothing_in (n ∷ ns) h = absurd (h n (or_left _ _ (eq-eqb n n refl)))
