-- No step changes a live call's caller and slot, nor what it sets and looks at.
use Rattle.std.proofs.Common.{◌≡◌, ℕ, ◌<◌, ◌≤◌, Bool, true, false, not, ◌==◌, ◌⊎◌, inl, inr, refl, sym, ap, arith, List, length, ◌∙◌, subst, Option}
use Rattle.std.proofs.lemmas.Bool.{and_from, eqb-true, eq-eqb, both_ways, cases_Bool, true_from_ne_false}
use Rattle.std.specs.Prelude.{is_some}
use Rattle.script_tree.specs.declared.value.Value.{Value}
use Rattle.signal_graph.specs.Graph.{Graph}
use Rattle.signal_graph.specs.Machine.{misnamed}
use Rattle.script_tree.specs.declared.limits.TheConstants.{SETS, LOOKS}
use Rattle.script_tree.proofs.Truths.{and_right}
use Rattle.node_versions.specs.declared.entry.Entry.{Entry}
use Rattle.node_versions.specs.declared.entry.State.TheVariants.{Mark, Frame, Done}
use Rattle.node_versions.specs.Entries.{has, at, is_mark, value_before, picks_before}
use Rattle.flow_model.specs.declared.step.Step.{Step}
use Rattle.flow_model.specs.declared.step.Step.TheVariants as steps
use Rattle.flow_model.specs.Machine.State.{Core, LiveCall, call, call_or, live, executes, entries, with_cell}
use Rattle.flow_model.specs.Machine.Words.{active_outs, found_now, value_now, found_picks, next_look}
use Rattle.flow_model.specs.Machine.Changes.{enter, raise, ensure_mark, set_state, opened, closed, tell_call, add_edge}
use Rattle.flow_model.specs.Machine.Steps.{allowed, apply, open_node, frame, started, counted, with_look, is_change, keep_found, look_value, sets_in, looks_in}
use Rattle.flow_model.specs.Kept.Lawful.{IsLawful, RoomIsKept, IsCallRight}
use Rattle.flow_model.proofs.OneList.CallsAndCells.{with_call-keeps, map_call-keeps, without_call-other, without_call-same}
use Rattle.flow_model.proofs.OneStep.WhoLivesAndFrames.{PhaseStep, stays, starts, ends, step-phases, phase-is_framing}
use Rattle.flow_model.proofs.OneStep.SameLengths.{step-parts}
use Rattle.flow_model.proofs.OrderStays.VersionsAndLengths.{step-room}

-- what is read of a call stays as it was through each change of a call
pub record Stable {A : Type 0} (read : LiveCall → A) : Type 0 where
  pub opens : (n : ℕ) (outs : List ℕ) (c : LiveCall) → read (opened n outs c) ≡ read c
  pub starts : (c : LiveCall) → read (started c) ≡ read c
  pub closes : (n : ℕ) (b : Bool) (c : LiveCall) → read (closed n b c) ≡ read c
  pub counts : (c : LiveCall) → read (counted c) ≡ read c
  pub looks : (v : Value) (c : LiveCall) → read (with_look v c) ≡ read c
  pub tells : (es : List Entry) (t n : ℕ) (c : LiveCall) → read (tell_call es t n c) ≡ read c

pub ensured : {A : Type 0} (read : LiveCall → A) (s : Core) (t m u : ℕ) → read (call (ensure_mark s t m) u) ≡ read (call s u)
ensured {A} read s t m u = go (has (entries s m) t)
  where
    go : (b : Bool) → read (call (elim b [ true ↦ s | false ↦ enter s t m Mark ]) u) ≡ read (call s u)
    go true = refl
    go false = refl

framed : {A : Type 0} (read : LiveCall → A) → Stable read → (graph : Graph) (s : Core) (t n u : ℕ) → read (call (frame graph s t n) u) ≡ read (call s u)
framed {A} read k graph s t n u = go (at is_mark (entries s n) t)
  where
    go : (b : Bool) → read (call (elim b [ true ↦ open_node graph (raise s t n) t n | false ↦ open_node graph (enter s t n Frame) t n ]) u) ≡ read (call s u)
    go true = with_call-keeps read (raise s t n) t (opened n (active_outs graph (raise s t n) t n)) (λ c. refl) (k.opens n _) u
    go false = with_call-keeps read (enter s t n Frame) t (opened n (active_outs graph (enter s t n Frame) t n)) (λ c. refl) (k.opens n _) u

-- A live call after a step lived before it, and what is stable of it is as it was.
pub phase-live : (s q : Core) → PhaseStep s q → (u : ℕ) → live q u ≡ true → live s u ≡ true
phase-live s q (stays h) u l = subst (λ (x : ℕ → Bool). x u ≡ true) h.lives l
phase-live s q (starts t f e x) u l = subst (λ (y : ℕ → Bool). y u ≡ true) e l
phase-live s q (ends t i n e x) u l = let a = e u in grind (arith, a, l)

pub step-stable : {A : Type 0} (read : LiveCall → A) → Stable read → (graph : Graph) (s : Core) (step : Step) → (u : ℕ) → live (apply graph s step) u ≡ true → read (call (apply graph s step) u) ≡ read (call s u)
step-stable read k graph s (steps.Frame t n) u l = framed read k graph s t n u
step-stable read k graph s (steps.Start t) u l = with_call-keeps read s t started (λ c. refl) k.starts u
step-stable read k graph s (steps.Skip t n) u l = with_call-keeps read (with_cell s n (set_state t (Done (value_before (entries s n) t) false (picks_before (entries s n) t)))) t (closed n false) (λ c. refl) (k.closes n false) u
step-stable read k graph s (steps.Gather t n m) u l = refl
step-stable read k graph s (steps.Evaluate t n) u l = with_call-keeps read (with_cell s n (keep_found (found_now graph s t n))) t counted (λ c. refl) k.counts u
step-stable read k graph s (steps.Body t n) u l = refl
step-stable read k graph s (steps.Resolve t n) u l = with_call-keeps read (with_cell s n (set_state t (Done (value_now graph s t n) (is_change graph s t n) (found_picks s n)))) t (closed n (is_change graph s t n)) (λ c. refl) (k.closes n (is_change graph s t n)) u
step-stable read k graph s (steps.Discover t n c) u l =
    let q = with_cell (ensure_mark s t c) c (add_edge n t) in
    map_call-keeps read q (tell_call (entries q c) t n) (λ x. refl) (k.tells (entries q c) t n) u ∙ ensured read s t c u
step-stable read k graph s (steps.Drop t n o) u l = ensured read s t o u
step-stable read k graph s (steps.Mark t m) u l = refl
step-stable read k graph s (steps.Look t) u l = with_call-keeps read s t (with_look (look_value s t (next_look s t))) (λ c. refl) (k.looks (look_value s t (next_look s t))) u
step-stable {A} read k graph s (steps.End t) u l = go (cases_Bool (u == t))
  where
    go : ((u == t) ≡ true) ⊎ ((u == t) ≡ false) → read (call (apply graph s (steps.End t)) u) ≡ read (call s u)
    go (inl e) = absurd (both_ways _ (subst (λ (v : ℕ). live (apply graph s (steps.End t)) v ≡ false) (sym (eqb-true u t e)) (ap is_some (without_call-same t s.calls))) l)
    go (inr e) = ap (λ (o : Option LiveCall). read (call_or o)) (without_call-other t u s.calls (λ x. both_ways _ e (eq-eqb u t x)))
step-stable read k graph s (steps.Collect n) u l = refl

pub caller-stable : Stable (λ (c : LiveCall). c.caller)
caller-stable = record { opens = λ n outs c. refl; starts = λ c. refl; closes = λ n b c. refl; counts = λ c. refl; looks = λ v c. refl; tells = λ es t n c. refl }

pub slot-stable : Stable (λ (c : LiveCall). c.slot)
slot-stable = record { opens = λ n outs c. refl; starts = λ c. refl; closes = λ n b c. refl; counts = λ c. refl; looks = λ v c. refl; tells = λ es t n c. refl }

pub call-stable : Stable (λ (c : LiveCall). c.call)
call-stable = record { opens = λ n outs c. refl; starts = λ c. refl; closes = λ n b c. refl; counts = λ c. refl; looks = λ v c. refl; tells = λ es t n c. refl }

pub sets-stable : Stable (λ (c : LiveCall). c.sets)
sets-stable = record { opens = λ n outs c. refl; starts = λ c. refl; closes = λ n b c. refl; counts = λ c. refl; looks = λ v c. refl; tells = λ es t n c. refl }

looks-stable : Stable (λ (c : LiveCall). c.looks)
looks-stable = record { opens = λ n outs c. refl; starts = λ c. refl; closes = λ n b c. refl; counts = λ c. refl; looks = λ v c. refl; tells = λ es t n c. refl }

pub step-RoomIsKept : (graph : Graph) (s : Core) (step : Step) → IsLawful graph s → allowed graph s step ≡ true → RoomIsKept (apply graph s step)
step-RoomIsKept graph s step h a =
    let q = apply graph s step in
    let old = λ (u : ℕ) (l : live q u ≡ true). phase-live s q (step-phases graph s step a) u l in
    let caller = λ (u : ℕ) (l : live q u ≡ true). step-stable (λ (c : LiveCall). c.caller) caller-stable graph s step u l in
    let slot = λ (u : ℕ) (l : live q u ≡ true). step-stable (λ (c : LiveCall). c.slot) slot-stable graph s step u l in
    let callers = (step-parts graph s step).callers in
    record {
      room = step-room graph s step h a;
      callers_apart = λ u v l m e. h.room_is_kept.callers_apart u v (old u l) (old v m) (sym (caller u l) ∙ e ∙ caller v m);
      callers_fit = λ u l. subst (λ (k : ℕ). (1 ≤ k) × (k ≤ q.callers)) (sym (caller u l)) (subst (λ (b : ℕ). (1 ≤ (call s u).caller) × ((call s u).caller ≤ b)) (sym callers) (h.room_is_kept.callers_fit u (old u l)));
      slots_apart = λ u v l m e. h.room_is_kept.slots_apart u v (old u l) (old v m) (sym (slot u l) ∙ e ∙ slot v m);
      slots_fit = λ u l. subst (λ (k : ℕ). k < q.callers) (sym (slot u l)) (subst (λ (b : ℕ). (call s u).slot < b) (sym callers) (h.room_is_kept.slots_fit u (old u l)));
    }

-- What a call names is right where its parts are those of a right one.
moved : (graph : Graph) (c d : LiveCall) → c.call ≡ d.call → c.sets ≡ d.sets → c.looks ≡ d.looks → (d.executing ≡ true → c.executing ≡ true)
    → IsCallRight graph d → IsCallRight graph c
moved graph c d e f g x h = record {
  well_named = ap (misnamed graph) e ∙ h.well_named;
  sets = f ∙ h.sets ∙ ap (sets_in graph) (sym e);
  looks = g ∙ h.looks ∙ ap (looks_in graph) (sym e);
  few_sets = subst (λ (xs : List (ℕ × Value)). length xs ≤ SETS) (sym f) h.few_sets;
  few_looks = subst (λ (xs : List ℕ). length xs ≤ LOOKS) (sym g) h.few_looks;
  executing = λ n. x (h.executing (sym f ∙ n));
}

-- Whoever executes before a step and lives after it executes after it.
phase-executes : (s q : Core) → PhaseStep s q → (u : ℕ) → live q u ≡ true → executes s u ≡ true → executes q u ≡ true
phase-executes s q p u l x = true_from_ne_false (executes q u) (λ e.
    let f = phase-is_framing s q p u (and_from _ _ l (ap not e)) in
    both_ways (not (executes s u)) (ap not x) (and_right (live s u) (not (executes s u)) f))

pub step-calls_right : (graph : Graph) (s : Core) (step : Step) → IsLawful graph s → allowed graph s step ≡ true → (u : ℕ)
    → live (apply graph s step) u ≡ true
    → IsCallRight graph (call (apply graph s step) u)
step-calls_right graph s step h a u l = moved graph (call (apply graph s step) u) (call s u)
    (step-stable (λ (c : LiveCall). c.call) call-stable graph s step u l)
    (step-stable (λ (c : LiveCall). c.sets) sets-stable graph s step u l)
    (step-stable (λ (c : LiveCall). c.looks) looks-stable graph s step u l)
    (phase-executes s (apply graph s step) (step-phases graph s step a) u l)
    (h.calls_are_right u (phase-live s (apply graph s step) (step-phases graph s step a) u l))
