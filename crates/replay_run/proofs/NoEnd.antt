-- What comes next for a call is never the end of one.
use Rattle.std.proofs.Common.{◌≡◌, ℕ, ◌+◌, Bool, true, false, not, nat_lt, refl, List, [], ◌∷◌, length, subst, Option, Some, None}
use Rattle.std.specs.List.{AllByRecursion}
use Rattle.signal_graph.specs.Graph.{Graph}
use Rattle.node_versions.specs.Entries.{is_mark, has, at}
use Rattle.flow_model.specs.declared.step.Step.{Step}
use Rattle.flow_model.specs.declared.step.Step.TheVariants as steps
use Rattle.flow_model.specs.declared.step.Cause.TheVariants.{FramingBefore, OpenBefore, InputOpen}
use Rattle.flow_model.specs.declared.step.Turn.{Turn}
use Rattle.flow_model.specs.declared.step.Turn.TheVariants as turn
use Rattle.flow_model.specs.Machine.State.{Core, call, entries, outs, executes, opens}
use Rattle.flow_model.specs.Machine.Sets.{least}
use Rattle.flow_model.specs.Machine.Words.{next_look}
use Rattle.flow_model.specs.Machine.Steps.{is_framing_before}
use Rattle.flow_model.specs.Machine.Next.{least_version}
use Rattle.flow_model.specs.Machine.Next as Next

abbrev pub ends_call : Step → Bool
ends_call (steps.End t) = true
ends_call step = false

-- no turn here is an End
abbrev ends : Turn → Bool
ends (turn.Step step) = ends_call step
ends (turn.NotYet cause) = false
ends turn.Ready = false

abbrev NoEnd : Turn → Type 0
NoEnd u = ends u ≡ false

abbrev PointNoEnd : Option Turn → Type 0
PointNoEnd None = Unit {0}
PointNoEnd (Some u) = NoEnd u

first-no : (points : List (Option Turn)) → AllByRecursion PointNoEnd points → NoEnd (Next.first_of points)
first-no [] h = refl
first-no (None ∷ points) h = first-no points h.1
first-no (Some u ∷ points) h = h.0

when-no : (b : Bool) (u : Turn) → NoEnd u → PointNoEnd (Next.when b u)
when-no true u h = h
when-no false u h = tt

some-no : (o : Option ℕ) (f : ℕ → Turn) → ((m : ℕ) → NoEnd (f m)) → PointNoEnd (Next.for_some o f)
some-no None f h = tt
some-no (Some m) f h = h m

entering-no : (graph : Graph) (s : Core) (t m : ℕ) (step : Step) → ends_call step ≡ false → NoEnd (Next.entering graph s (entries s) (outs s) t m step)
entering-no graph s t m step e = go (nat_lt (length (entries s m)) (s.callers + 9))
  where
    go : (b : Bool) → NoEnd (turn.Step (elim b as (λ _. Step) [ true ↦ step | false ↦ steps.Collect m ]))
    go true = e
    go false = refl

unless-no : (graph : Graph) (s : Core) (t : ℕ) (b : Bool) (m : ℕ) (step : Step) → ends_call step ≡ false → NoEnd (Next.entering_unless graph s (entries s) (outs s) t b m step)
unless-no graph s t true m step e = e
unless-no graph s t false m step e = entering-no graph s t m step e

framing-no : (graph : Graph) (s : Core) (t u n : ℕ) → NoEnd (Next.framing graph s (entries s) (outs s) t u n)
framing-no graph s t u n = unless-no graph s t (at is_mark (entries s n) u) n (steps.Frame u n) refl

reading-no : (graph : Graph) (s : Core) (t m : ℕ) (step : Step) → ends_call step ≡ false → NoEnd (Next.reading graph s (entries s) (outs s) t m step)
reading-no graph s t m step e = go (has (entries s m) t) (Next.blocked (entries s m) t)
  where
    go : (b : Bool) (o : Option ℕ) → NoEnd (Next.first_of (Next.when (not b) (Next.entering graph s (entries s) (outs s) t m (steps.Mark t m))
        ∷ Next.for_some o (λ v. turn.NotYet (OpenBefore m v)) ∷ Some (turn.Step step) ∷ []))
    go false o = entering-no graph s t m (steps.Mark t m) refl
    go true (Some v) = refl
    go true None = e

candidate-no : (graph : Graph) (s : Core) (t c : ℕ) (step : Step) → ends_call step ≡ false → NoEnd (Next.reading_candidate graph s (entries s) (outs s) t c step)
candidate-no graph s t c step e = go (has (entries s c) t) (opens s t c) (Next.blocked (entries s c) t)
  where
    go : (b d : Bool) (o : Option ℕ) → NoEnd (Next.first_of (Next.when (not b) (Next.entering graph s (entries s) (outs s) t c (steps.Mark t c))
        ∷ Next.when d (turn.NotYet (InputOpen c)) ∷ Next.for_some o (λ v. turn.NotYet (OpenBefore c v)) ∷ Some (turn.Step step) ∷ []))
    go false d o = entering-no graph s t c (steps.Mark t c) refl
    go true true o = refl
    go true false (Some v) = refl
    go true false None = e

points-no : (graph : Graph) (s : Core) (t : ℕ) (given : Bool) (n : ℕ) → AllByRecursion PointNoEnd (Next.points_at graph s (entries s) (outs s) t given n)
points-no graph s t given n = (
  some-no _ _ (λ v. refl),
  (
    some-no _ _ (λ m. refl),
    (
      some-no _ _ (λ u. framing-no graph s t u n),
      (
        when-no _ _ refl,
        (
          when-no _ _ refl,
          (
            some-no _ _ (λ m. reading-no graph s t m (steps.Gather t n m) refl),
            (
              when-no _ _ refl,
              (
                some-no _ _ (λ c. unless-no graph s t (has (entries s c) t) c (steps.Discover t n c) refl),
                (
                  some-no _ _ (λ c. candidate-no graph s t c (steps.Gather t n c) refl),
                  (
                    when-no _ _ refl,
                    (
                      some-no _ _ (λ o. unless-no graph s t (has (entries s o) t) o (steps.Drop t n o) refl),
                      (refl, tt),
                    ),
                  ),
                ),
              ),
            ),
          ),
        ),
      ),
    ),
  ),
)

next-no : (graph : Graph) (s : Core) (t : ℕ) → NoEnd (Next.next graph s t)
next-no graph s t = go (least (call s t).wanted) (executes s t) (least_version (is_framing_before s t) s.calls) (least (call s t).open_nodes) (next_look s t)
  where
    go : (w : Option ℕ) (b : Bool) (f o l : Option ℕ) → NoEnd (Next.first_of (
        Next.for_some w (Next.framing graph s (entries s) (outs s) t t)
        ∷ Next.when (not b) (Next.first_of (Next.for_some f (λ v. turn.NotYet (FramingBefore v)) ∷ Some (turn.Step (steps.Start t)) ∷ []))
        ∷ Next.for_some o (λ n. Next.first_of (Next.points_at graph s (entries s) (outs s) t false n))
        ∷ Next.for_some l (λ m. Next.reading graph s (entries s) (outs s) t m (steps.Look t)) ∷ []))
    go (Some n) b f o l = framing-no graph s t t n
    go None false (Some v) o l = refl
    go None false None o l = refl
    go None true f (Some n) l = first-no (Next.points_at graph s (entries s) (outs s) t false n) (points-no graph s t false n)
    go None true f None (Some m) = reading-no graph s t m (steps.Look t) refl
    go None true f None None = refl

-- a step that comes next is no End
pub next-goes-on : (graph : Graph) (s : Core) (t : ℕ) (step : Step) → Next.next graph s t ≡ turn.Step step → ends_call step ≡ false
next-goes-on graph s t step e = subst (λ (u : Turn). ends u ≡ false) e (next-no graph s t)
