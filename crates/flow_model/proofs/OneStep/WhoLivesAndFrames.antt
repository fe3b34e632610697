-- After a step the same calls live, execute and frame, but for one that starts or ends.
use Rattle.std.proofs.Common.{◌≡◌, ℕ, Bool, true, false, ◌&&◌, ◌||◌, not, ◌==◌, refl, sym, arith, ◌∙◌, subst, Option}
use Rattle.std.specs.Prelude.{is_some}
use Rattle.signal_graph.specs.Graph.{Graph}
use Rattle.node_versions.specs.declared.entry.State.TheVariants.{Mark, Frame, Done}
use Rattle.node_versions.specs.Entries.{has, at, is_mark, value_before, picks_before}
use Rattle.flow_model.specs.declared.step.Step.{Step}
use Rattle.flow_model.specs.declared.step.Step.TheVariants as steps
use Rattle.flow_model.specs.Machine.State.{Core, LiveCall, call_or, live, executes, is_framing, entries, with_cell, with_call}
use Rattle.flow_model.specs.Machine.Words.{is_idle, found_now, value_now, found_picks}
use Rattle.flow_model.specs.Machine.Changes.{enter, raise, ensure_mark, set_state, closed, tell_call, add_edge}
use Rattle.flow_model.specs.Machine.Steps.{allowed, apply, open_node, frame, started, counted, keep_found, is_change}
use Rattle.flow_model.proofs.OneStep.WhoMayStep.{is_framing-live, start-is_framing, end-idle}
use Rattle.flow_model.proofs.OneList.CallsAndCells.{KeepsPhase, with_call-live, with_call-executes, map_call-live, map_call-executes, started-executes}
use Rattle.flow_model.proofs.OrderStays.PartsOfStepsKeepOrder.{reads_without}

-- the same calls live and execute
pub record SamePhases (s q : Core) : Type 0 where
  pub lives : live q ≡ live s
  pub executing : executes q ≡ executes s

same : (s : Core) → SamePhases s s
same s = record { lives = refl; executing = refl }

with_call-same : (s q : Core) (t : ℕ) (f : LiveCall → LiveCall) → KeepsPhase f → SamePhases s q → SamePhases s (with_call q t f)
with_call-same s q t f k h = record { lives = with_call-live q t f k.version ∙ h.lives; executing = with_call-executes q t f k ∙ h.executing }

ensure_mark-same : (s : Core) (t m : ℕ) → SamePhases s (ensure_mark s t m)
ensure_mark-same s t m = go (has (entries s m) t)
  where
    go : (b : Bool) → SamePhases s (elim b [ true ↦ s | false ↦ enter s t m Mark ])
    go true = same s
    go false = record { lives = refl; executing = refl }

pub frame-same : (graph : Graph) (s : Core) (t n : ℕ) → SamePhases s (frame graph s t n)
frame-same graph s t n = go (at is_mark (entries s n) t)
  where
    go : (b : Bool) → SamePhases s (elim b [ true ↦ open_node graph (raise s t n) t n | false ↦ open_node graph (enter s t n Frame) t n ])
    go true = with_call-same s (raise s t n) t _ (record { version = λ c. refl; executing = λ c. refl }) (record { lives = refl; executing = refl })
    go false = with_call-same s (enter s t n Frame) t _ (record { version = λ c. refl; executing = λ c. refl }) (record { lives = refl; executing = refl })

resolve-same : (graph : Graph) (s : Core) (t n : ℕ) → SamePhases s (apply graph s (steps.Resolve t n))
resolve-same graph s t n =
    let w = with_call-same s (with_cell s n (set_state t (Done (value_now graph s t n) (is_change graph s t n) (found_picks s n)))) t (closed n (is_change graph s t n)) (record { version = λ c. refl; executing = λ c. refl }) (record { lives = refl; executing = refl }) in
    record { lives = w.lives; executing = w.executing }

skip-same : (graph : Graph) (s : Core) (t n : ℕ) → SamePhases s (apply graph s (steps.Skip t n))
skip-same graph s t n = with_call-same s (with_cell s n (set_state t (Done (value_before (entries s n) t) false (picks_before (entries s n) t)))) t (closed n false) (record { version = λ c. refl; executing = λ c. refl }) (record { lives = refl; executing = refl })

pub discover-same : (graph : Graph) (s : Core) (t n c : ℕ) → SamePhases s (apply graph s (steps.Discover t n c))
discover-same graph s t n c =
    let e = ensure_mark-same s t c in
    let q = with_cell (ensure_mark s t c) c (add_edge n t) in
    let k : KeepsPhase (tell_call (entries q c) t n) = record { version = λ c. refl; executing = λ c. refl } in
    record { lives = map_call-live q (tell_call (entries q c) t n) k.version ∙ e.lives; executing = map_call-executes q (tell_call (entries q c) t n) k ∙ e.executing }

-- what a step does to the phases: a call starts, a call ends, or nothing
pub data PhaseStep (s q : Core) : Type 0 where
  stays : SamePhases s q → PhaseStep s q
  starts : (t : ℕ) → is_framing s t ≡ true → live q ≡ live s → ((u : ℕ) → executes q u ≡ ((u == t) || executes s u)) → PhaseStep s q
  ends : (t : ℕ) → is_idle s t ≡ true → ((n : ℕ) → entries q n ≡ entries s n) → ((u : ℕ) → live q u ≡ (not (u == t) && live s u)) → ((u : ℕ) → executes q u ≡ (not (u == t) && executes s u)) → PhaseStep s q

pub step-phases : (graph : Graph) (s : Core) (step : Step) → allowed graph s step ≡ true → PhaseStep s (apply graph s step)
step-phases graph s (steps.Frame t n) a = stays (frame-same graph s t n)
step-phases graph s (steps.Start t) a = let f = start-is_framing graph s t a in starts t f (with_call-live s t started (λ c. refl)) (λ u. started-executes t s.calls u (is_framing-live s t f))
step-phases graph s (steps.Skip t n) a = stays (skip-same graph s t n)
step-phases graph s (steps.Gather t n m) a = stays (record { lives = refl; executing = refl })
step-phases graph s (steps.Evaluate t n) a = stays (with_call-same s (with_cell s n (keep_found (found_now graph s t n))) t counted (record { version = λ c. refl; executing = λ c. refl }) (record { lives = refl; executing = refl }))
step-phases graph s (steps.Body t n) a = stays (record { lives = refl; executing = refl })
step-phases graph s (steps.Resolve t n) a = stays (resolve-same graph s t n)
step-phases graph s (steps.Discover t n c) a = stays (discover-same graph s t n c)
step-phases graph s (steps.Drop t n o) a = stays (let e = ensure_mark-same s t o in record { lives = e.lives; executing = e.executing })
step-phases graph s (steps.Mark t m) a = stays (record { lives = refl; executing = refl })
step-phases graph s (steps.Look t) a = stays (with_call-same s s t _ (record { version = λ c. refl; executing = λ c. refl }) (same s))
step-phases graph s (steps.End t) a = ends t (end-idle graph s t a) (λ n. refl) (reads_without is_some refl t s.calls) (reads_without (λ (o : Option LiveCall). (call_or o).executing) refl t s.calls)
step-phases graph s (steps.Collect n) a = stays (record { lives = refl; executing = refl })

-- Whoever frames after a step framed before it.
pub phase-is_framing : (s q : Core) → PhaseStep s q → (u : ℕ) → is_framing q u ≡ true → is_framing s u ≡ true
phase-is_framing s q (stays h) u f = subst (λ (x : ℕ → Bool). (live s u && not (x u)) ≡ true) h.executing (subst (λ (l : ℕ → Bool). (l u && not (executes q u)) ≡ true) h.lives f)
phase-is_framing s q (starts t ft l e) u f =
    let a = subst (λ (l : ℕ → Bool). (l u && not (executes q u)) ≡ true) l f in
    let b = e u in
    grind (arith, a, b)
phase-is_framing s q (ends t i n l e) u f = let a = l u in let b = e u in grind (arith, a, b, f)

-- Whoever has ended before a step has ended after it.
pub phase-ended : (s q : Core) → PhaseStep s q → (u : ℕ) → live s u ≡ false → live q u ≡ false
phase-ended s q (stays h) u f = subst (λ (l : ℕ → Bool). l u ≡ false) (sym h.lives) f
phase-ended s q (starts t ft l e) u f = subst (λ (l : ℕ → Bool). l u ≡ false) (sym l) f
phase-ended s q (ends t i n l e) u f = let a = l u in grind (arith, a, f)
