-- What comes next for a call is no other call's own step, and not its end.
use Rattle.std.proofs.Common.{◌≡◌, ◌≢◌, ℕ, ◌+◌, Bool, true, false, not, List, [], ◌∷◌, Option, Some, None, refl, subst}
use Rattle.std.specs.Prelude.{nat_lt, length, find}
use Rattle.signal_graph.specs.Graph.{Graph}
use Rattle.node_versions.specs.declared.entry.Entry.{Entry}
use Rattle.node_versions.specs.Entries.{OutEdge, is_mark, has, at, first_open}
use Rattle.flow_model.specs.declared.step.Step.{Step}
use Rattle.flow_model.specs.declared.step.Step.TheVariants as steps
use Rattle.flow_model.specs.declared.step.Cause.TheVariants.{FramingBefore, OpenBefore, InputOpen, NotOpen}
use Rattle.flow_model.specs.Machine.Sets.{least}
use Rattle.flow_model.specs.Machine.Words.{next_look}
use Rattle.flow_model.specs.Machine.Steps.{is_framing_before}
use Rattle.flow_model.specs.declared.step.Turn.{Turn}
use Rattle.flow_model.specs.declared.step.Turn.TheVariants as turn
use Rattle.flow_model.specs.Machine.Keys.{version_of_step, is_own_step}
use Rattle.flow_model.specs.Machine.State.{Core, call, executes, opens}
use Rattle.flow_model.specs.Machine.Next.{blocked, other_than, rests_on, least_version, first_of, when, for_some, entering, entering_unless, framing, reading, reading_candidate, points_at, to_frame, to_start, next_over, next_at_over}

-- A step that a call may take next: no end, and its own unless anybody may make it.
abbrev IsNext : ℕ → Step → Type 0
IsNext t step = (is_own_step step ≡ true → version_of_step step ≡ Some t) × (step ≢ steps.End t)

abbrev pub IsNextTurn : ℕ → Turn → Type 0
IsNextTurn t (turn.Step step) = IsNext t step
IsNextTurn t other = Unit {0}

abbrev IsNextPoint : ℕ → Option Turn → Type 0
IsNextPoint t None = Unit {0}
IsNextPoint t (Some x) = IsNextTurn t x

abbrev AreNextPoints : ℕ → List (Option Turn) → Type 0
AreNextPoints t [] = Unit {0}
AreNextPoints t (p ∷ ps) = IsNextPoint t p × AreNextPoints t ps

-- an own step that is not the end
own_step : {t : ℕ} (step : Step) → version_of_step step ≡ Some t → (step ≢ steps.End t) → IsNext t step
own_step step is no_end = ((λ e. is), no_end)

first-next : (t : ℕ) (ps : List (Option Turn)) → AreNextPoints t ps → IsNextTurn t (first_of ps)
first-next t [] h = tt
first-next t (None ∷ ps) h = first-next t ps h.1
first-next t (Some x ∷ ps) h = h.0

when-next : (t : ℕ) (b : Bool) (x : Turn) → IsNextTurn t x → IsNextPoint t (when b x)
when-next t true x h = h
when-next t false x h = tt

some-next : (t : ℕ) (o : Option ℕ) (f : ℕ → Turn) → ((m : ℕ) → IsNextTurn t (f m)) → IsNextPoint t (for_some o f)
some-next t None f h = tt
some-next t (Some m) f h = h m

module _ (graph : Graph) (s : Core) (list : ℕ → List Entry) (edges : ℕ → List OutEdge) (t : ℕ) where
  entering-next : (m : ℕ) (step : Step) → IsNext t step → IsNextTurn t (entering graph s list edges t m step)
  entering-next m step h = go (nat_lt (length (list m)) (s.callers + 9))
    where
      go : (b : Bool) → IsNext t (elim b [ true ↦ step | false ↦ steps.Collect m ])
      go true = h
      go false = ((λ e. absurd (cc (e))), (λ e. absurd (cc (e))))

  unless-next : (b : Bool) (m : ℕ) (step : Step) → IsNext t step → IsNextTurn t (entering_unless graph s list edges t b m step)
  unless-next true m step h = h
  unless-next false m step h = entering-next m step h

  -- a step that the call reads a node for
  reading-next : (m : ℕ) (step : Step) → IsNext t step → IsNextTurn t (reading graph s list edges t m step)
  reading-next m step h =
      let ps : List (Option Turn) = when (not (has (list m) t)) (entering graph s list edges t m (steps.Mark t m))
      ∷ for_some (blocked (list m) t) (λ v. turn.NotYet (OpenBefore m v)) ∷ Some (turn.Step step) ∷ [] in
      let points : AreNextPoints t ps = (
        when-next t (not (has (list m) t)) _ (entering-next m (steps.Mark t m) (own_step (steps.Mark t m) refl (λ e. absurd (cc (e))))),
        (some-next t (blocked (list m) t) _ (λ v. tt), (h, tt)),
      ) in
      first-next t ps points

  reading_candidate-next : (m : ℕ) (step : Step) → IsNext t step → IsNextTurn t (reading_candidate graph s list edges t m step)
  reading_candidate-next m step h =
      let ps : List (Option Turn) = when (not (has (list m) t)) (entering graph s list edges t m (steps.Mark t m))
      ∷ when (opens s t m) (turn.NotYet (InputOpen m))
      ∷ for_some (blocked (list m) t) (λ v. turn.NotYet (OpenBefore m v)) ∷ Some (turn.Step step) ∷ [] in
      let points : AreNextPoints t ps = (
        when-next t (not (has (list m) t)) _ (entering-next m (steps.Mark t m) (own_step (steps.Mark t m) refl (λ e. absurd (cc (e))))),
        (when-next t (opens s t m) _ tt, (some-next t (blocked (list m) t) _ (λ v. tt), (h, tt))),
      ) in
      first-next t ps points

  framing-next : (u n : ℕ) → IsNextTurn t (framing graph s list edges t u n)
  framing-next u n = unless-next (at is_mark (list n) u) n (steps.Frame u n) ((λ e. absurd (cc (e))), (λ e. absurd (cc (e))))

  points-next : (given : Bool) (n : ℕ) → AreNextPoints t (points_at graph s list edges t given n)
  points-next given n = (
    some-next t (other_than t (first_open (list n))) (λ v. turn.NotYet (OpenBefore n v)) (λ v. tt),
    (
      some-next t (elim given [ true ↦ find (opens s t) (rests_on graph s list edges t n) | false ↦ None ]) (λ m. turn.NotYet (InputOpen m)) (λ m. tt),
      (
        some-next t _ _ (λ u. framing-next u n),
        (
          when-next t _ _ (own_step (steps.Resolve t n) refl (λ e. absurd (cc (e)))),
          (
            when-next t _ _ (own_step (steps.Skip t n) refl (λ e. absurd (cc (e)))),
            (
              some-next t _ _ (λ m. reading-next m (steps.Gather t n m) (own_step (steps.Gather t n m) refl (λ e. absurd (cc (e))))),
              (
                when-next t _ _ (own_step (steps.Evaluate t n) refl (λ e. absurd (cc (e)))),
                (
                  some-next t _ _ (λ c. unless-next (has (list c) t) c (steps.Discover t n c) (own_step (steps.Discover t n c) refl (λ e. absurd (cc (e))))),
                  (
                    some-next t _ _ (λ c. reading_candidate-next c (steps.Gather t n c) (own_step (steps.Gather t n c) refl (λ e. absurd (cc (e))))),
                    (
                      when-next t _ _ (own_step (steps.Body t n) refl (λ e. absurd (cc (e)))),
                      (
                        some-next t _ _ (λ o. unless-next (has (list o) t) o (steps.Drop t n o) (own_step (steps.Drop t n o) refl (λ e. absurd (cc (e))))),
                        (own_step (steps.Resolve t n) refl (λ e. absurd (cc (e))), tt),
                      ),
                    ),
                  ),
                ),
              ),
            ),
          ),
        ),
      ),
    ),
  )

  frame_point-next : IsNextPoint t (to_frame graph s list edges t)
  frame_point-next = some-next t _ _ (λ n. framing-next t n)

  start_point-next : IsNextPoint t (to_start graph s list edges t)
  start_point-next =
      let ps : List (Option Turn) = for_some (least_version (is_framing_before s t) s.calls) (λ v. turn.NotYet (FramingBefore v))
      ∷ Some (turn.Step (steps.Start t)) ∷ [] in
      let points : AreNextPoints t ps = (some-next t (least_version (is_framing_before s t) s.calls) _ (λ v. tt), (own_step (steps.Start t) refl (λ e. absurd (cc (e))), tt)) in
      when-next t (not (executes s t)) _ (first-next t ps points)

  pub next-next : IsNextTurn t (next_over graph s list edges t)
  next-next =
      let ps : List (Option Turn) = to_frame graph s list edges t ∷ to_start graph s list edges t
      ∷ for_some (least (call s t).open_nodes) (λ n. first_of (points_at graph s list edges t false n))
      ∷ for_some (next_look s t) (λ m. reading graph s list edges t m (steps.Look t)) ∷ [] in
      let points : AreNextPoints t ps = (
        frame_point-next,
        (
          start_point-next,
          (
            some-next t (least (call s t).open_nodes) _ (λ n. first-next t (points_at graph s list edges t false n) (points-next false n)),
            (some-next t (next_look s t) _ (λ m. reading-next m (steps.Look t) (own_step (steps.Look t) refl (λ e. absurd (cc (e))))), tt),
          ),
        ),
      ) in
      first-next t ps points

  pub next_at-next : (n : ℕ) → IsNextTurn t (next_at_over graph s list edges t n)
  next_at-next n =
      let ps : List (Option Turn) = to_frame graph s list edges t ∷ to_start graph s list edges t
      ∷ when (not (opens s t n)) (turn.NotYet (NotOpen n)) ∷ points_at graph s list edges t true n in
      let points : AreNextPoints t ps = (frame_point-next, (start_point-next, (when-next t (not (opens s t n)) _ tt, points-next true n))) in
      first-next t ps points

-- a step in such a turn
pub turn-own : (t : ℕ) (x : Turn) (step : Step) → IsNextTurn t x → x ≡ turn.Step step → is_own_step step ≡ true → version_of_step step ≡ Some t
turn-own t x step h is = (subst (IsNextTurn t) is h).0

pub turn-no_end : (t : ℕ) (x : Turn) (step : Step) → IsNextTurn t x → x ≡ turn.Step step → step ≢ steps.End t
turn-no_end t x step h is = (subst (IsNextTurn t) is h).1
