-- Entries of live calls have the calls' slots, and no node's value is gathered twice for one node, after each step and beginning.
use Rattle.std.proofs.Common.{◌≡◌, ℕ, zero, suc, ◌+◌, ◌≤◌, Bool, true, false, not, ◌||◌, ◌==◌, ◌⊎◌, inl, inr, refl, sym, ap, arith, List, [], ◌∷◌, ◌++◌, map, filter, if◌then◌else◌, is_some, ◌∙◌, subst, Option, Some, None, ◌<◌}
use Rattle.std.specs.List.{AllByRecursion, cons_option}
use Rattle.std.specs.Option.{option_or}
use Rattle.std.proofs.lemmas.List.{map-append}
use Rattle.std.proofs.lemmas.Bool.{or_left, or_right, eqb-true, eq-eqb, both_ways, cases_Bool, not-true}
use Rattle.script_tree.specs.declared.value.Value.{Value}
use Rattle.script_tree.proofs.Truths.{and_left, and_right}
use Rattle.signal_graph.specs.declared.call.Call.{Call}
use Rattle.signal_graph.specs.Graph.{Graph, is_in}
use Rattle.node_versions.specs.declared.entry.State.{State}
use Rattle.node_versions.specs.declared.entry.State.TheVariants.{Mark, Frame, Done}
use Rattle.node_versions.specs.declared.entry.Entry.{Entry}
use Rattle.node_versions.specs.Entries.{has, at, is_mark, is_done, front, rest, placed, with_state, collected, last_done, only_done}
use Rattle.flow_model.specs.declared.step.Step.{Step}
use Rattle.flow_model.specs.declared.step.Step.TheVariants as steps
use Rattle.flow_model.specs.Machine.State.{Core, Cell, LiveCall, call, call_of, call_or, live, cell, ended, entries, with_cell}
use Rattle.flow_model.specs.Machine.Words.{gathered_of, value_now, found_picks}
use Rattle.flow_model.specs.Machine.Changes.{stops, new_entry, enter, raise, ensure_mark, place_entry, set_state, finish, cleared, add_edge, drop_edge}
use Rattle.flow_model.specs.Machine.Steps.{allowed, apply, begin, new_call, open_node, frame, gather, keep_found, keep_body, collect, is_change}
use Rattle.flow_model.specs.Kept.Lawful.{IsLawful, AreDistinct, times, HasSlot, EntriesHaveSlots, SlotFits, EntrySlotsFit, GatheredAreApart}
use Rattle.flow_model.proofs.OneStep.WhoMayStep.{executes-live, wants-live}
use Rattle.flow_model.proofs.OneStep.WhoLivesAndFrames.{step-phases}
use Rattle.flow_model.proofs.OneStep.SameLengths.{step-parts}
use Rattle.flow_model.proofs.OneStep.SameCallers.{step-stable, phase-live, slot-stable}
use Rattle.flow_model.proofs.OneStep.ChangesOfOneList.{ListStep, stays, marks, frames, raises, finishes, collects, step-list}
use Rattle.flow_model.proofs.OrderStays.AfterEachStep.{not_begun-entry}
use Rattle.flow_model.proofs.OneStep.BegunCalls.{begin-call}
use Rattle.flow_model.proofs.OneList.Entering.{with_cell-cell}
use Rattle.flow_model.proofs.OneStep.VersionsStayFresh.{times-append, in-times}
use Rattle.flow_model.proofs.Settled.AfterOtherSteps.{ensured-read}
use Rattle.flow_model.proofs.Slots.PairsBySlot.{IfThere}

-- ---- each entry, through the changes of a list

each-weaker : (P Q : Entry → Type 0) (es : List Entry) → ((e : Entry) → has es e.version ≡ true → P e → Q e) → AllByRecursion P es → AllByRecursion Q es
each-weaker P Q [] f h = tt
each-weaker P Q (e ∷ es) f h = (f e (or_left _ _ (eq-eqb e.version e.version refl)) h.0, each-weaker P Q es (λ x k. f x (or_right _ _ k)) h.1)

each-placed : (P : Entry → Type 0) (stops : Entry → Bool) (e : Entry) (es : List Entry) → P e → AllByRecursion P es → AllByRecursion P (placed stops e es)
each-placed P stops e [] p h = (p, tt)
each-placed P stops e (x ∷ xs) p h = go (stops x) (each-placed P stops e xs p h.1)
  where
    go : (b : Bool) → AllByRecursion P (front stops xs ++ e ∷ rest stops xs) → AllByRecursion P (elim b as (λ _. List Entry) [ true ↦ [] | false ↦ x ∷ front stops xs ] ++ e ∷ elim b as (λ _. List Entry) [ true ↦ x ∷ xs | false ↦ rest stops xs ])
    go true r = (p, h)
    go false r = (h.0, r)

each-state : (P : Entry → Type 0) → ((e : Entry) (x : State) → P e → P (record e { state = x })) → (t : ℕ) (x : State) (es : List Entry) → AllByRecursion P es → AllByRecursion P (with_state t x es)
each-state P f t x [] h = tt
each-state P f t x (e ∷ es) h = go (e.version == t) (each-state P f t x es h.1)
  where
    go : (b : Bool) → AllByRecursion P (with_state t x es) → AllByRecursion P (elim b as (λ _. List Entry) [ true ↦ record e { state = x } ∷ es | false ↦ e ∷ with_state t x es ])
    go true r = (f e x h.0, h.1)
    go false r = (h.0, r)

each-filter : (P : Entry → Type 0) (test : Entry → Bool) (es : List Entry) → AllByRecursion P es → AllByRecursion P (filter test es)
each-filter P test [] h = tt
each-filter P test (e ∷ es) h = go (test e) (each-filter P test es h.1)
  where
    go : (b : Bool) → AllByRecursion P (filter test es) → AllByRecursion P (if b then e ∷ filter test es else filter test es)
    go true r = (h.0, r)
    go false r = r

each-last : (P : Entry → Type 0) (es : List Entry) → AllByRecursion P es → IfThere P (last_done es)
each-last P [] h = tt
each-last P (e ∷ es) h = go (last_done es) (each-last P es h.1)
  where
    only : (b : Bool) → IfThere P (elim b as (λ _. Option Entry) [ true ↦ Some e | false ↦ None ])
    only true = h.0
    only false = tt

    go : (o : Option Entry) → IfThere P o → IfThere P (option_or o (only_done e))
    go None r = only (is_done e.state)
    go (Some x) r = r

each-collected : (P : Entry → Type 0) (ended : Entry → Bool) (es : List Entry) → AllByRecursion P es → AllByRecursion P (collected ended es)
each-collected P ended es h = go (last_done (filter ended es)) (each-last P (filter ended es) (each-filter P ended es h))
  where
    go : (o : Option Entry) → IfThere P o → AllByRecursion P (cons_option o (filter (λ e. not (ended e)) es))
    go None r = each-filter P (λ e. not (ended e)) es h
    go (Some x) r = (r, each-filter P (λ e. not (ended e)) es h)

-- ---- slots

list-slots : (graph : Graph) (s : Core) (n : ℕ) → AllByRecursion (HasSlot s) (entries s n) → (es : List Entry) → ListStep graph s n es → AllByRecursion (HasSlot s) es
list-slots graph s n h es (stays e) = subst (AllByRecursion (HasSlot s)) (sym e) h
list-slots graph s n h es (marks t x k r e) = subst (AllByRecursion (HasSlot s)) (sym e) (each-placed (HasSlot s) (stops s t) (new_entry s t Mark) (entries s n) (λ l. refl) h)
list-slots graph s n h es (frames t x k r e) = subst (AllByRecursion (HasSlot s)) (sym e) (each-placed (HasSlot s) (stops s t) (new_entry s t Frame) (entries s n) (λ l. refl) h)
list-slots graph s n h es (raises t x k e) = subst (AllByRecursion (HasSlot s)) (sym e) (each-state (HasSlot s) (λ e x p. p) t Frame (entries s n) h)
list-slots graph s n h es (finishes t v c ps x e) = subst (AllByRecursion (HasSlot s)) (sym e) (each-state (HasSlot s) (λ e x p. p) t (Done v c ps) (entries s n) h)
list-slots graph s n h es (collects e) = subst (AllByRecursion (HasSlot s)) (sym e) (each-collected (HasSlot s) (ended s) (entries s n) h)

pub step-EntriesHaveSlots : (graph : Graph) (s : Core) (step : Step) → IsLawful graph s → allowed graph s step ≡ true → EntriesHaveSlots (apply graph s step)
step-EntriesHaveSlots graph s step h a n =
    let q = apply graph s step in
    each-weaker (HasSlot s) (HasSlot q) (entries q n)
    (λ e i p l. p (phase-live s q (step-phases graph s step a) e.version l) ∙ sym (step-stable (λ (c : LiveCall). c.slot) slot-stable graph s step e.version l))
    (list-slots graph s n (h.entries_have_slots n) (entries q n) (step-list graph s step h a n))

pub begin-EntriesHaveSlots : (graph : Graph) (s : Core) (caller : ℕ) (c : Call) → IsLawful graph s → EntriesHaveSlots (begin graph s caller c)
begin-EntriesHaveSlots graph s caller c h n = each-weaker (HasSlot s) (HasSlot q) (entries s n) (λ e i p l. go e i p l (begin-call graph s h caller c e.version)) (h.entries_have_slots n)
  where
    q : Core
    q = begin graph s caller c

    go : (e : Entry) → has (entries s n) e.version ≡ true → HasSlot s e → live q e.version ≡ true
        → ((call_of q.calls e.version ≡ call_of s.calls e.version) × ((suc s.begun == e.version) ≡ false)) ⊎ ((e.version ≡ suc s.begun) × (call_of q.calls e.version ≡ Some (new_call graph s caller c))) → e.slot ≡ (call q e.version).slot
    go e i p l (inl x) = p (ap is_some (sym x.0) ∙ l) ∙ ap (λ (o : Option LiveCall). (call_or o).slot) (sym x.0)
    go e i p l (inr x) = absurd (both_ways _ (not_begun-entry graph s h n) (subst (λ (w : ℕ). has (entries s n) w ≡ true) x.0 i))

-- Slots fit: a new entry has the slot of a live call.
list-fits : (graph : Graph) (s : Core) → IsLawful graph s → (n : ℕ) → AllByRecursion (SlotFits s) (entries s n) → (es : List Entry) → ListStep graph s n es → AllByRecursion (SlotFits s) es
list-fits graph s l n h es (stays e) = subst (AllByRecursion (SlotFits s)) (sym e) h
list-fits graph s l n h es (marks t x k r e) = subst (AllByRecursion (SlotFits s)) (sym e) (each-placed (SlotFits s) (stops s t) (new_entry s t Mark) (entries s n) (λ o. l.room_is_kept.slots_fit t (executes-live s t x)) h)
list-fits graph s l n h es (frames t x k r e) = subst (AllByRecursion (SlotFits s)) (sym e) (each-placed (SlotFits s) (stops s t) (new_entry s t Frame) (entries s n) (λ o. l.room_is_kept.slots_fit t (wants-live s t n x)) h)
list-fits graph s l n h es (raises t x k e) = subst (AllByRecursion (SlotFits s)) (sym e) (each-state (SlotFits s) (λ e x p. p) t Frame (entries s n) h)
list-fits graph s l n h es (finishes t v c ps x e) = subst (AllByRecursion (SlotFits s)) (sym e) (each-state (SlotFits s) (λ e x p. p) t (Done v c ps) (entries s n) h)
list-fits graph s l n h es (collects e) = subst (AllByRecursion (SlotFits s)) (sym e) (each-collected (SlotFits s) (ended s) (entries s n) h)

pub step-EntrySlotsFit : (graph : Graph) (s : Core) (step : Step) → IsLawful graph s → allowed graph s step ≡ true → EntrySlotsFit (apply graph s step)
step-EntrySlotsFit graph s step h a n =
    let q = apply graph s step in
    let callers = (step-parts graph s step).callers in
    each-weaker (SlotFits s) (SlotFits q) (entries q n) (λ e i p o. subst (λ (c : ℕ). e.slot < c) (sym callers) (p (subst (λ (c : ℕ). 1 ≤ c) callers o)))
    (list-fits graph s h n (h.entry_slots_fit n) (entries q n) (step-list graph s step h a n))

-- ---- what is gathered

abbrev nodes_of : List (ℕ × Value) → List ℕ
nodes_of ps = map (λ (p : ℕ × Value). p.0) ps

-- A node that is not gathered is not among the nodes that are.
pub gathered-in : (m : ℕ) (ps : List (ℕ × Value)) → is_some (gathered_of m ps) ≡ is_in m (nodes_of ps)
gathered-in m [] = refl
gathered-in m (p ∷ ps) = go (p.0 == m) (gathered-in m ps)
  where
    go : (b : Bool) → is_some (gathered_of m ps) ≡ is_in m (nodes_of ps) → is_some (elim b as (λ _. Option Value) [ true ↦ Some p.1 | false ↦ gathered_of m ps ]) ≡ (b || is_in m (nodes_of ps))
    go true r = refl
    go false r = r

more-distinct : (m : ℕ) (xs : List ℕ) → AreDistinct xs → is_in m xs ≡ false → AreDistinct (xs ++ m ∷ [])
more-distinct m xs d k x = let e = times-append x xs (m ∷ []) in go (cases_Bool (m == x)) e (d x)
  where
    absent : is_in x xs ≡ false → times x xs ≡ 0
    absent j = zero_times (times x xs) (λ l. both_ways _ j (in-times x xs l))
      where
        zero_times : (n : ℕ) → (1 ≤ n → ⊥) → n ≡ 0
        zero_times zero f = refl
        zero_times (suc n) f = absurd (f (omega arith))

    go : ((m == x) ≡ true) ⊎ ((m == x) ≡ false) → times x (xs ++ m ∷ []) ≡ times x xs + times x (m ∷ []) → times x xs ≤ 1 → times x (xs ++ m ∷ []) ≤ 1
    go (inl j) e r =
        let z = absent (subst (λ (w : ℕ). is_in w xs ≡ false) (eqb-true m x j) k) in
        let o : times x (m ∷ []) ≡ 1 = rw j refl in
        omega (arith, e, z, o)
    go (inr j) e r = let o : times x (m ∷ []) ≡ 0 = rw j refl in omega (arith, e, r, o)

-- where one cell changes
one-cell : (s : Core) (n : ℕ) (f : Cell → Cell) → AreDistinct (nodes_of (f (cell s n)).gathered) → GatheredAreApart s → GatheredAreApart (with_cell s n f)
one-cell s n f k h m = go (with_cell-cell s n f m)
  where
    go : (cell (with_cell s n f) m ≡ cell s m) ⊎ ((m ≡ n) × (cell (with_cell s n f) m ≡ f (cell s m))) → AreDistinct (nodes_of (cell (with_cell s n f) m).gathered)
    go (inl e) = subst (λ (c : Cell). AreDistinct (nodes_of c.gathered)) (sym e) (h m)
    go (inr e) = subst (λ (c : Cell). AreDistinct (nodes_of c.gathered)) (sym e.1) (subst (λ (w : ℕ). AreDistinct (nodes_of (f (cell s w)).gathered)) (sym e.0) k)

kept-cells : (s q : Core) → ((m : ℕ) → (cell q m).gathered ≡ (cell s m).gathered) → GatheredAreApart s → GatheredAreApart q
kept-cells s q e h m = subst (λ (ps : List (ℕ × Value)). AreDistinct (nodes_of ps)) (sym (e m)) (h m)

framed-apart : (graph : Graph) (s : Core) (t n : ℕ) → GatheredAreApart s → GatheredAreApart (frame graph s t n)
framed-apart graph s t n h = go (at is_mark (entries s n) t)
  where
    go : (b : Bool) → GatheredAreApart (elim b as (λ _. Core) [ true ↦ open_node graph (raise s t n) t n | false ↦ open_node graph (enter s t n Frame) t n ])
    go true = one-cell s n (set_state t Frame) (h n) h
    go false = one-cell s n (place_entry s t Frame) (h n) h

ensured-apart : (s : Core) (t c : ℕ) → GatheredAreApart s → GatheredAreApart (ensure_mark s t c)
ensured-apart s t c h = kept-cells s (ensure_mark s t c) (ensured-read (λ x. x.gathered) s t c (λ x. refl)) h

pub step-GatheredAreApart : (graph : Graph) (s : Core) (step : Step) → allowed graph s step ≡ true → GatheredAreApart s → GatheredAreApart (apply graph s step)
step-GatheredAreApart graph s (steps.Frame t n) a h = framed-apart graph s t n h
step-GatheredAreApart graph s (steps.Start t) a h = h
step-GatheredAreApart graph s (steps.Skip t n) a h = one-cell s n (set_state t _) (h n) h
step-GatheredAreApart graph s (steps.Gather t n m) a h = one-cell s n (gather m _)
    (subst AreDistinct (sym (map-append (λ (p : ℕ × Value). p.0) (cell s n).gathered ((m, _) ∷ []))) (more-distinct m (nodes_of (cell s n).gathered) (h n) (sym (gathered-in m (cell s n).gathered) ∙ not-true _ (and_right _ _ (and_left _ _ a))))) h
step-GatheredAreApart graph s (steps.Evaluate t n) a h = one-cell s n (keep_found _) (h n) h
step-GatheredAreApart graph s (steps.Body t n) a h = one-cell s n (keep_body _) (h n) h
step-GatheredAreApart graph s (steps.Resolve t n) a h =
    let q = finish s t n (value_now graph s t n) (is_change graph s t n) (found_picks s n) in
    one-cell q n cleared (λ x. omega arith) (one-cell s n (set_state t (Done (value_now graph s t n) (is_change graph s t n) (found_picks s n))) (h n) h)
step-GatheredAreApart graph s (steps.Discover t n c) a h = one-cell (ensure_mark s t c) c (add_edge n t) (ensured-apart s t c h c) (ensured-apart s t c h)
step-GatheredAreApart graph s (steps.Drop t n o) a h = one-cell (ensure_mark s t o) o (drop_edge n) (ensured-apart s t o h o) (ensured-apart s t o h)
step-GatheredAreApart graph s (steps.Mark t m) a h = one-cell s m (place_entry s t Mark) (h m) h
step-GatheredAreApart graph s (steps.Look t) a h = h
step-GatheredAreApart graph s (steps.End t) a h = h
step-GatheredAreApart graph s (steps.Collect n) a h = one-cell s n (collect s) (h n) h
