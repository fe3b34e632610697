-- A call that begins names what it has to, within the limits, and finds a free slot.
use Rattle.std.proofs.Common.{◌≡◌, ℕ, zero, suc, ◌+◌, ◌<◌, ◌≤◌, Bool, true, false, ◌||◌, ◌==◌, ◌⊎◌, inl, inr, refl, sym, ap, arith, List, [], ◌∷◌, length, map, true≢false, ◌∙◌, subst, Option, Some, None}
use Rattle.std.proofs.lemmas.Bool.{or_left, or_right, eqb-true, eq-eqb, both_ways, cases_Bool, not-true, leb-true}
use Rattle.std.proofs.lemmas.List.{length-map}
use Rattle.std.specs.Prelude.{is_some}
use Rattle.std.specs.Prelude.{is_none, nat_le}
use Rattle.script_tree.specs.declared.limits.TheConstants.{SETS, LOOKS}
use Rattle.signal_graph.specs.declared.call.Call.{Call}
use Rattle.script_tree.specs.declared.value.Value.{Value}
use Rattle.script_tree.proofs.Truths.{and_left, and_right}
use Rattle.signal_graph.specs.Graph.{Graph, number_of, is_in}
use Rattle.signal_graph.specs.Machine.{misnamed, sets_of, looks_of}
use Rattle.flow_model.specs.Machine.Lists.{is_empty}
use Rattle.flow_model.specs.Machine.State.{Core, LiveCall, call, call_of, call_or, live}
use Rattle.std.specs.List.{list_any}
use Rattle.call_log.specs.Made.{versions_in}
use Rattle.flow_model.specs.Machine.Steps.{can_begin, begin, new_call, nodes_set, has_call, uses_slot, free_slot}
use Rattle.flow_model.specs.Kept.Lawful.{IsLawful, IsCallRight, RoomIsKept, VersionsAreFresh, AreDistinct, times}
use Rattle.flow_model.proofs.OneList.CallsAndCells.{call_of-append, last_call-other, last_call-it}
use Rattle.flow_model.proofs.OneStep.VersionsStayFresh.{not_begun-live, times-append, times-in, in-times}
use Rattle.flow_model.proofs.General.Pigeons.{total-missing, total-all, total-ones, total-length, field-distinct, Holder, holder, any-field, IsFreeSlot, find-slot}

pub none-is : (o : Option ℕ) → is_none o ≡ true → o ≡ None
none-is None h = refl
none-is (Some x) h = absurd (true≢false (sym h))

pub begin-well_named : (graph : Graph) (s : Core) (caller : ℕ) (c : Call) → can_begin graph s caller c ≡ true → misnamed graph c ≡ None
begin-well_named graph s caller c h = none-is (misnamed graph c) (and_right _ _ (and_left _ _ h))

new-right : (graph : Graph) (s : Core) (caller : ℕ) (c : Call) → can_begin graph s caller c ≡ true → IsCallRight graph (new_call graph s caller c)
new-right graph s caller c h = record {
  well_named = begin-well_named graph s caller c h;
  sets = refl;
  looks = refl;
  few_sets = let e = length-map (sets_of c) (λ (set : List ℕ × Value). (number_of graph set.0, set.1)) in subst (λ (k : ℕ). k ≤ SETS) (sym e) (leb-true (length (sets_of c)) SETS (and_right _ _ (and_left _ _ (and_left _ _ (and_left _ _ h)))));
  few_looks = let e = length-map (looks_of c) (number_of graph) in subst (λ (k : ℕ). k ≤ LOOKS) (sym e) (leb-true (length (looks_of c)) LOOKS (and_right _ _ (and_left _ _ (and_left _ _ h))));
  executing = λ n. ap (λ (xs : List (ℕ × Value)). is_empty (nodes_set xs)) n;
}

-- the record of a call after another has begun: as it was, or the new one
pub begin-call : (graph : Graph) (s : Core) → IsLawful graph s → (caller : ℕ) (c : Call) (u : ℕ) → ((call_of (begin graph s caller c).calls u ≡ call_of s.calls u) × ((suc s.begun == u) ≡ false)) ⊎ ((u ≡ suc s.begun) × (call_of (begin graph s caller c).calls u ≡ Some (new_call graph s caller c)))
begin-call graph s h caller c u = go (cases_Bool (suc s.begun == u))
  where
    gone : (o : Option LiveCall) → call_of s.calls (suc s.begun) ≡ o → call_of s.calls (suc s.begun) ≡ None
    gone None e = e
    gone (Some x) e = absurd (both_ways _ (not_begun-live s h.versions_are_fresh) (ap is_some e))

    go : ((suc s.begun == u) ≡ true) ⊎ ((suc s.begun == u) ≡ false) → ((call_of (begin graph s caller c).calls u ≡ call_of s.calls u) × ((suc s.begun == u) ≡ false)) ⊎ ((u ≡ suc s.begun) × (call_of (begin graph s caller c).calls u ≡ Some (new_call graph s caller c)))
    go (inr k) = inl (call_of-append s.calls (new_call graph s caller c) u ∙ last_call-other (call_of s.calls u) (new_call graph s caller c) u k, k)
    go (inl k) = inr (
      sym (eqb-true (suc s.begun) u k),
      subst (λ (v : ℕ). call_of (begin graph s caller c).calls v ≡ Some (new_call graph s caller c)) (eqb-true (suc s.begun) u k)
          (call_of-append s.calls (new_call graph s caller c) (suc s.begun) ∙ last_call-it (call_of s.calls (suc s.begun)) (new_call graph s caller c) (gone (call_of s.calls (suc s.begun)) refl)),
    )

pub begin-calls_right : (graph : Graph) (s : Core) (caller : ℕ) (c : Call) → IsLawful graph s → can_begin graph s caller c ≡ true → (u : ℕ) → live (begin graph s caller c) u ≡ true → IsCallRight graph (call (begin graph s caller c) u)
begin-calls_right graph s caller c h a u l = go (begin-call graph s h caller c u)
  where
    go : ((call_of (begin graph s caller c).calls u ≡ call_of s.calls u) × ((suc s.begun == u) ≡ false)) ⊎ ((u ≡ suc s.begun) × (call_of (begin graph s caller c).calls u ≡ Some (new_call graph s caller c))) → IsCallRight graph (call (begin graph s caller c) u)
    go (inl e) = subst (λ (o : Option LiveCall). IsCallRight graph (call_or o)) (sym e.0) (h.calls_are_right u (ap is_some (sym e.0) ∙ l))
    go (inr e) = subst (λ (o : Option LiveCall). IsCallRight graph (call_or o)) (sym e.1) (new-right graph s caller c a)

-- ---- a caller without a live call finds a free slot

pub reads-in : (test : LiveCall → Bool) (cs : List LiveCall) (v : ℕ) → is_some (call_of cs v) ≡ true → test (call_or (call_of cs v)) ≡ true → list_any test cs ≡ true
reads-in test [] v h k = absurd (true≢false (sym h))
reads-in test (c ∷ cs) v h k = go (cases_Bool (c.version == v)) (reads-in test cs v)
  where
    go : ((c.version == v) ≡ true) ⊎ ((c.version == v) ≡ false) → (is_some (call_of cs v) ≡ true → test (call_or (call_of cs v)) ≡ true → list_any test cs ≡ true) → (test c || list_any test cs) ≡ true
    go (inl e) f = or_left _ _ (rw (e, call_of) at k)
    go (inr e) f = or_right _ _ (f (rw (e, call_of) at h) (rw (e, call_of) at k))

pub calls-distinct : (s : Core) → VersionsAreFresh s → AreDistinct (map (λ (c : LiveCall). c.version) s.calls)
calls-distinct s h x = let r = h.distinct x in let e = times-append x (map (λ (c : LiveCall). c.version) s.calls) (versions_in s.log) in omega (arith, r, e)

-- There are fewer live calls than callers.
pub few-calls : (graph : Graph) (s : Core) → IsLawful graph s → (caller : ℕ) → 1 ≤ caller → caller ≤ s.callers → has_call caller s.calls ≡ false → length s.calls < s.callers
few-calls graph s h caller a b none =
    let cs = map (λ (c : LiveCall). c.caller) s.calls in
    let d = field-distinct (λ c. c.caller) s.calls (calls-distinct s h.versions_are_fresh) (λ u v k l e. h.room_is_kept.callers_apart u v k l e) in
    let z : times caller cs ≡ 0 = absent cs (sym (any-field (λ c. c.caller) caller s.calls) ∙ none) in
    let m = total-missing cs 1 s.callers caller d a (omega arith) z in
    let i = total-all cs 1 s.callers (λ x k. inside x (holder (λ c. c.caller) s.calls x (calls-distinct s h.versions_are_fresh) k)) in
    let l = length-map s.calls (λ (c : LiveCall). c.caller) in
    omega (arith, m, i, l)
  where
    absent : (xs : List ℕ) → is_in caller xs ≡ false → times caller xs ≡ 0
    absent xs k = zero_times (times caller xs) (λ l. both_ways _ k (in-times caller xs l))
      where
        zero_times : (n : ℕ) → (1 ≤ n → ⊥) → n ≡ 0
        zero_times zero k = refl
        zero_times (suc n) k = absurd (k (omega arith))

    inside : (x : ℕ) → Holder (λ c. c.caller) s.calls x → (1 ≤ x) × (x < 1 + s.callers)
    inside x p = let f = h.room_is_kept.callers_fit p.version p.known in subst (λ (k : ℕ). (1 ≤ k) × (k < 1 + s.callers)) p.value (f.0, (let g = f.1 in omega (arith, g)))

pub slot-free : (graph : Graph) (s : Core) → IsLawful graph s → length s.calls < s.callers → IsFreeSlot s.callers 0 s.calls
slot-free graph s h few = go (find-slot s.callers 0 s.calls)
  where
    go : IsFreeSlot s.callers 0 s.calls ⊎ ((x : ℕ) → 0 ≤ x → x < 0 + s.callers → uses_slot x s.calls ≡ true) → IsFreeSlot s.callers 0 s.calls
    go (inl r) = r
    go (inr f) =
        let ss = map (λ (c : LiveCall). c.slot) s.calls in
        let o = total-ones ss 0 s.callers (λ x a b. times-in x ss (sym (any-field (λ c. c.slot) x s.calls) ∙ f x a b)) in
        let t = total-length ss 0 s.callers in
        let l = length-map s.calls (λ (c : LiveCall). c.slot) in
        absurd (omega (arith, o, t, l, few))

pub begin-first : (graph : Graph) (s : Core) (caller : ℕ) (c : Call) → can_begin graph s caller c ≡ true → nat_le 1 caller ≡ true
begin-first graph s caller c a = and_left _ _ (and_left _ _ (and_left _ _ (and_left _ _ (and_left _ _ (and_left _ _ a)))))

pub begin-last : (graph : Graph) (s : Core) (caller : ℕ) (c : Call) → can_begin graph s caller c ≡ true → nat_le caller s.callers ≡ true
begin-last graph s caller c a = and_right _ _ (and_left _ _ (and_left _ _ (and_left _ _ (and_left _ _ (and_left _ _ a)))))

pub begin-none : (graph : Graph) (s : Core) (caller : ℕ) (c : Call) → can_begin graph s caller c ≡ true → has_call caller s.calls ≡ false
begin-none graph s caller c a = not-true _ (and_right _ _ (and_left _ _ (and_left _ _ (and_left _ _ (and_left _ _ a)))))

pub begin-RoomIsKept : (graph : Graph) (s : Core) (caller : ℕ) (c : Call) → IsLawful graph s → can_begin graph s caller c ≡ true → RoomIsKept (begin graph s caller c)
begin-RoomIsKept graph s caller c h a = record {
  room = h.room_is_kept.room;
  callers_apart = λ u v l m e. callers u v l m e (begin-call graph s h caller c u) (begin-call graph s h caller c v);
  callers_fit = λ u l. fit u l (begin-call graph s h caller c u);
  slots_apart = λ u v l m e. slots u v l m e (begin-call graph s h caller c u) (begin-call graph s h caller c v);
  slots_fit = λ u l. slot_fit u l (begin-call graph s h caller c u);
}
  where
    q : Core
    q = begin graph s caller c

    Began : ℕ → Type 0
    Began u = ((call_of q.calls u ≡ call_of s.calls u) × ((suc s.begun == u) ≡ false)) ⊎ ((u ≡ suc s.begun) × (call_of q.calls u ≡ Some (new_call graph s caller c)))

    first : nat_le 1 caller ≡ true
    first = begin-first graph s caller c a

    last : nat_le caller s.callers ≡ true
    last = begin-last graph s caller c a

    none : has_call caller s.calls ≡ false
    none = begin-none graph s caller c a

    slot : IsFreeSlot s.callers 0 s.calls
    slot = slot-free graph s h (few-calls graph s h caller (leb-true 1 caller first) (leb-true caller s.callers last) none)

    old : (u : ℕ) → live q u ≡ true → call_of q.calls u ≡ call_of s.calls u → live s u ≡ true
    old u l e = ap is_some (sym e) ∙ l

    read : (f : LiveCall → ℕ) (u : ℕ) → call_of q.calls u ≡ call_of s.calls u → f (call q u) ≡ f (call s u)
    read f u e = ap (λ (o : Option LiveCall). f (call_or o)) e

    new : (f : LiveCall → ℕ) (u : ℕ) → call_of q.calls u ≡ Some (new_call graph s caller c) → f (call q u) ≡ f (new_call graph s caller c)
    new f u e = ap (λ (o : Option LiveCall). f (call_or o)) e

    no_caller : (v : ℕ) → live s v ≡ true → (call s v).caller ≡ caller → ⊥
    no_caller v l e = both_ways (has_call caller s.calls) none (reads-in (λ c. c.caller == caller) s.calls v l (eq-eqb (call s v).caller caller e))

    no_slot : (v : ℕ) → live s v ≡ true → (call s v).slot ≡ free_slot s.callers 0 s.calls → ⊥
    no_slot v l e = both_ways (uses_slot (free_slot s.callers 0 s.calls) s.calls) slot.unused (reads-in (λ c. c.slot == free_slot s.callers 0 s.calls) s.calls v l (eq-eqb (call s v).slot (free_slot s.callers 0 s.calls) e))

    callers : (u v : ℕ) → live q u ≡ true → live q v ≡ true → (call q u).caller ≡ (call q v).caller → Began u → Began v → u ≡ v
    callers u v l m e (inl x) (inl y) = h.room_is_kept.callers_apart u v (old u l x.0) (old v m y.0) (sym (read (λ c. c.caller) u x.0) ∙ e ∙ read (λ c. c.caller) v y.0)
    callers u v l m e (inl x) (inr y) = absurd (no_caller u (old u l x.0) (sym (read (λ c. c.caller) u x.0) ∙ e ∙ new (λ c. c.caller) v y.1))
    callers u v l m e (inr x) (inl y) = absurd (no_caller v (old v m y.0) (sym (read (λ c. c.caller) v y.0) ∙ sym e ∙ new (λ c. c.caller) u x.1))
    callers u v l m e (inr x) (inr y) = x.0 ∙ sym y.0

    slots : (u v : ℕ) → live q u ≡ true → live q v ≡ true → (call q u).slot ≡ (call q v).slot → Began u → Began v → u ≡ v
    slots u v l m e (inl x) (inl y) = h.room_is_kept.slots_apart u v (old u l x.0) (old v m y.0) (sym (read (λ c. c.slot) u x.0) ∙ e ∙ read (λ c. c.slot) v y.0)
    slots u v l m e (inl x) (inr y) = absurd (no_slot u (old u l x.0) (sym (read (λ c. c.slot) u x.0) ∙ e ∙ new (λ c. c.slot) v y.1))
    slots u v l m e (inr x) (inl y) = absurd (no_slot v (old v m y.0) (sym (read (λ c. c.slot) v y.0) ∙ sym e ∙ new (λ c. c.slot) u x.1))
    slots u v l m e (inr x) (inr y) = x.0 ∙ sym y.0

    fit : (u : ℕ) → live q u ≡ true → Began u → (1 ≤ (call q u).caller) × ((call q u).caller ≤ s.callers)
    fit u l (inl x) = subst (λ (k : ℕ). (1 ≤ k) × (k ≤ s.callers)) (sym (read (λ c. c.caller) u x.0)) (h.room_is_kept.callers_fit u (old u l x.0))
    fit u l (inr x) = subst (λ (k : ℕ). (1 ≤ k) × (k ≤ s.callers)) (sym (new (λ c. c.caller) u x.1)) (leb-true 1 caller first, leb-true caller s.callers last)

    slot_fit : (u : ℕ) → live q u ≡ true → Began u → (call q u).slot < s.callers
    slot_fit u l (inl x) = subst (λ (k : ℕ). k < s.callers) (sym (read (λ c. c.slot) u x.0)) (h.room_is_kept.slots_fit u (old u l x.0))
    slot_fit u l (inr x) = subst (λ (k : ℕ). k < s.callers) (sym (new (λ c. c.slot) u x.1)) (let i = slot.inside in omega (arith, i))
