-- After a step all calls live on but one that ends, and what a live call has changed it has changed.
use Rattle.std.proofs.Common.{◌≡◌, ℕ, Bool, true, false, ◌==◌, ◌⊎◌, inl, inr, refl, sym, ap, List, ◌∙◌, subst, Option, Some, None}
use Rattle.std.proofs.lemmas.Bool.{or_right, eqb-true, eq-eqb, both_ways, cases_Bool}
use Rattle.std.specs.Prelude.{is_some}
use Rattle.std.specs.Prelude.{map}
use Rattle.signal_graph.specs.Graph.{Graph, is_in}
use Rattle.node_versions.specs.declared.entry.State.TheVariants.{Frame, Done}
use Rattle.node_versions.specs.Entries.{at, is_mark, value_before, picks_before}
use Rattle.flow_model.specs.declared.step.Step.{Step}
use Rattle.flow_model.specs.declared.step.Step.TheVariants as steps
use Rattle.flow_model.specs.Machine.State.{Core, LiveCall, call_of, call_or, live, entries, changes, with_call, with_cell}
use Rattle.flow_model.specs.Machine.Words.{active_outs, found_now, value_now, found_picks, next_look}
use Rattle.flow_model.specs.Machine.Sets.{put}
use Rattle.flow_model.specs.Machine.Changes.{enter, raise, ensure_mark, set_state, opened, closed, tell_call, add_edge}
use Rattle.flow_model.specs.Machine.Steps.{apply, open_node, frame, started, counted, with_look, look_value, keep_found, is_change}
use Rattle.flow_model.proofs.General.Sets.{in-put}
use Rattle.flow_model.proofs.OneList.CallsAndCells.{option_call, change_call-other, change_call-same, map_call-reads, with_call-live, map_call-live}
use Rattle.flow_model.proofs.OneStep.SameCallers.{ensured}
use Rattle.flow_model.proofs.Wants.WantsAreFree.{ensured-live}
use Rattle.flow_model.proofs.OrderStays.AfterEachStep.{ensure_mark-log}

-- The same calls live, the log is the same, and what was changed is.
pub record Continues (s q : Core) : Type 0 where
  pub lives : (u : ℕ) → live q u ≡ live s u
  pub log : q.log ≡ s.log
  pub changed : (u m : ℕ) → changes s u m ≡ true → changes q u m ≡ true

-- A change of a call forgets nothing that it has changed.
pub record Remembers (f : LiveCall → LiveCall) : Type 0 where
  pub version : (c : LiveCall) → (f c).version ≡ c.version
  pub changed : (c : LiveCall) (m : ℕ) → is_in m c.changed ≡ true → is_in m (f c).changed ≡ true

option-changed : (f : LiveCall → LiveCall) → Remembers f → (m : ℕ) (o : Option LiveCall) → is_in m (call_or o).changed ≡ true → is_in m (call_or (option_call f o)).changed ≡ true
option-changed f k m None h = h
option-changed f k m (Some c) h = k.changed c m h

with_call-continues : (s q : Core) (t : ℕ) (f : LiveCall → LiveCall) → Remembers f → Continues s q → Continues s (with_call q t f)
with_call-continues s q t f k c = record {
  lives = λ u. ap (λ (l : ℕ → Bool). l u) (with_call-live q t f k.version) ∙ c.lives u;
  log = c.log;
  changed = λ u m h. go u m (c.changed u m h) (cases_Bool (u == t));
}
  where
    go : (u m : ℕ) → changes q u m ≡ true → ((u == t) ≡ true) ⊎ ((u == t) ≡ false) → changes (with_call q t f) u m ≡ true
    go u m h (inl x) = subst (λ (w : ℕ). changes (with_call q t f) w m ≡ true) (sym (eqb-true u t x))
        (ap (λ (o : Option LiveCall). is_in m (call_or o).changed) (change_call-same t f k.version q.calls) ∙ option-changed f k m (call_of q.calls t) (subst (λ (w : ℕ). changes q w m ≡ true) (eqb-true u t x) h))
    go u m h (inr x) = ap (λ (o : Option LiveCall). is_in m (call_or o).changed) (change_call-other t u f k.version q.calls (λ y. both_ways _ x (eq-eqb u t y))) ∙ h

map_call-continues : (s q : Core) (f : LiveCall → LiveCall) → Remembers f → Continues s q → Continues s (record q { calls = map f q.calls })
map_call-continues s q f k c = record {
  lives = λ u. ap (λ (l : ℕ → Bool). l u) (map_call-live q f k.version) ∙ c.lives u;
  log = c.log;
  changed = λ u m h. ap (λ (o : Option LiveCall). is_in m (call_or o).changed) (map_call-reads f k.version q.calls u) ∙ option-changed f k m (call_of q.calls u) (c.changed u m h);
}

same : (s q : Core) → q.calls ≡ s.calls → q.log ≡ s.log → Continues s q
same s q e l = record {
  lives = λ u. ap (λ (cs : List LiveCall). is_some (call_of cs u)) e;
  log = l;
  changed = λ u m h. ap (λ (cs : List LiveCall). is_in m (call_or (call_of cs u)).changed) e ∙ h;
}

ensured-continues : (s : Core) (t c : ℕ) → Continues s (ensure_mark s t c)
ensured-continues s t c = record {
  lives = λ u. ensured-live s t c u;
  log = ensure_mark-log s t c;
  changed = λ u m h. ensured (λ x. is_in m x.changed) s t c u ∙ h;
}

closed-remembers : (n : ℕ) (b : Bool) → Remembers (closed n b)
closed-remembers n b = record { version = λ c. refl; changed = λ c m h. go b c m h }
  where
    go : (b : Bool) (c : LiveCall) (m : ℕ) → is_in m c.changed ≡ true → is_in m (elim b as (λ _. List ℕ) [ true ↦ put n c.changed | false ↦ c.changed ]) ≡ true
    go false c m h = h
    go true c m h = in-put m n c.changed ∙ or_right _ _ h

frame-continues : (graph : Graph) (s : Core) (t n : ℕ) → Continues s (frame graph s t n)
frame-continues graph s t n = go (at is_mark (entries s n) t)
  where
    go : (b : Bool) → Continues s (elim b as (λ _. Core) [ true ↦ open_node graph (raise s t n) t n | false ↦ open_node graph (enter s t n Frame) t n ])
    go true = with_call-continues s (raise s t n) t (opened n (active_outs graph (raise s t n) t n)) (record { version = λ c. refl; changed = λ c m h. h }) (same s (raise s t n) refl refl)
    go false = with_call-continues s (enter s t n Frame) t (opened n (active_outs graph (enter s t n Frame) t n)) (record { version = λ c. refl; changed = λ c m h. h }) (same s (enter s t n Frame) refl refl)

-- A step is an End, or all calls go on.
abbrev pub IsEnd : Step → Type 0
IsEnd step = (t : ℕ) × (step ≡ steps.End t)

pub step-continues : (graph : Graph) (s : Core) (step : Step) → Continues s (apply graph s step) ⊎ IsEnd step
step-continues graph s (steps.Frame t n) = inl (frame-continues graph s t n)
step-continues graph s (steps.Start t) = inl (with_call-continues s s t started (record { version = λ c. refl; changed = λ c m h. h }) (same s s refl refl))
step-continues graph s (steps.Skip t n) = inl (with_call-continues s (with_cell s n (set_state t (Done (value_before (entries s n) t) false (picks_before (entries s n) t)))) t (closed n false) (closed-remembers n false) (same s (with_cell s n (set_state t (Done (value_before (entries s n) t) false (picks_before (entries s n) t)))) refl refl))
step-continues graph s (steps.Gather t n m) = inl (same s (apply graph s (steps.Gather t n m)) refl refl)
step-continues graph s (steps.Evaluate t n) = inl (with_call-continues s (with_cell s n (keep_found (found_now graph s t n))) t counted (record { version = λ c. refl; changed = λ c m h. h }) (same s (with_cell s n (keep_found (found_now graph s t n))) refl refl))
step-continues graph s (steps.Body t n) = inl (same s (apply graph s (steps.Body t n)) refl refl)
step-continues graph s (steps.Resolve t n) =
    let p = with_cell s n (set_state t (Done (value_now graph s t n) (is_change graph s t n) (found_picks s n))) in
    let k = with_call-continues s p t (closed n (is_change graph s t n)) (closed-remembers n (is_change graph s t n)) (same s p refl refl) in
    inl (record { lives = k.lives; log = k.log; changed = k.changed })
step-continues graph s (steps.Discover t n c) =
    let e = ensured-continues s t c in
    let q = with_cell (ensure_mark s t c) c (add_edge n t) in
    inl (map_call-continues s q (tell_call (entries q c) t n) (record { version = λ c. refl; changed = λ c m h. h }) (record { lives = e.lives; log = e.log; changed = e.changed }))
step-continues graph s (steps.Drop t n o) = let e = ensured-continues s t o in inl (record { lives = e.lives; log = e.log; changed = e.changed })
step-continues graph s (steps.Mark t m) = inl (same s (apply graph s (steps.Mark t m)) refl refl)
step-continues graph s (steps.Look t) = inl (with_call-continues s s t (with_look (look_value s t (next_look s t))) (record { version = λ c. refl; changed = λ c m h. h }) (same s s refl refl))
step-continues graph s (steps.End t) = inr (t, refl)
step-continues graph s (steps.Collect n) = inl (same s (apply graph s (steps.Collect n)) refl refl)
