-- What the turn of a thread makes of a play.
use Rattle.std.proofs.Common.{◌≡◌, ℕ, zero, suc, ◌-◌, Bool, true, false, refl, sym, ap, arith, List, [], ◌∷◌, ◌++◌, ◌∙◌, Option, Some, None}
use Rattle.std.specs.Prelude.{slice_index_or}
use Rattle.signal_graph.specs.declared.call.Call.{Call}
use Rattle.signal_graph.specs.declared.log.Why.{Why}
use Rattle.signal_graph.specs.Graph.{Graph}
use Rattle.signal_graph.specs.Machine.{misnamed}
use Rattle.flow_model.specs.declared.step.Step.{Step}
use Rattle.flow_model.specs.declared.step.Step.TheVariants as steps
use Rattle.flow_model.specs.declared.step.Cause.{Cause}
use Rattle.flow_model.specs.declared.step.Turn.{Turn}
use Rattle.flow_model.specs.declared.step.Turn.TheVariants as turn
use Rattle.flow_model.specs.Machine.Lists.{change_at}
use Rattle.flow_model.specs.Machine.State.{Core}
use Rattle.flow_model.specs.Machine.Steps.{allowed, apply, begin}
use Rattle.flow_model.specs.Machine.Next.{next}
use Rattle.flow_model.specs.Machine.Histories.{Begin, Make}
use Rattle.flow_model.specs.Machine.Schedules.{Thread, Play, no_thread, thread, made, goes_on, refuses, refused_for, gone_on, begin_or_refuse, begin_next, make_turn, turn_of, version_of, take_turn}
use Rattle.replay_run.specs.Replaying.{Caller, IsTurn, has_gone_on, has_refused}

-- ---- one thread among all

changed-as : (i : ℕ) (x y : Thread) (f : Thread → Thread) (xs : List Thread) → slice_index_or xs i no_thread ≡ x → f x ≡ y → change_at i f xs ≡ change_at i (λ _. y) xs
changed-as i x y f [] e h = refl
changed-as zero x y f (z ∷ zs) e h = ap (λ (w : Thread). w ∷ zs) (ap f e ∙ h)
changed-as (suc i) x y f (z ∷ zs) e h = ap (λ (ws : List Thread). z ∷ ws) (changed-as i x y f zs e h)

unchanged : (i : ℕ) (x : Thread) (xs : List Thread) → slice_index_or xs i no_thread ≡ x → xs ≡ change_at i (λ _. x) xs
unchanged i x [] e = refl
unchanged zero x (z ∷ zs) e = ap (λ (w : Thread). w ∷ zs) e
unchanged (suc i) x (z ∷ zs) e = ap (λ (ws : List Thread). z ∷ ws) (unchanged i x zs e)

-- ---- a turn, by the live call of the thread

-- in each play with this state and this thread, the turn makes a play
abbrev Makes : Graph → ℕ → Core → Thread → (Play → ℕ → Play) → Type 0
Makes graph k s x f = (play : Play) (i : ℕ) → k ≡ suc i → play.core ≡ s → thread play i ≡ x → take_turn graph play i ≡ f play i

is_turn : (graph : Graph) (k : ℕ) (s : Core) (x : Thread) (q : Core) (y : Thread) (f : Play → ℕ → Play) → Makes graph k s x f
    → ((play : Play) (i : ℕ) → k ≡ suc i → play.core ≡ s → (f play i).core ≡ q)
    → ((play : Play) (i : ℕ) → k ≡ suc i → thread play i ≡ x → (f play i).threads ≡ change_at i (λ _. y) play.threads) → IsTurn graph k s x q y
is_turn graph k s x q y f m core threads = record {
  core = λ play i n c t. ap (λ (p : Play). p.core) (m play i n c t) ∙ core play i n c;
  threads = λ play i n c t. ap (λ (p : Play). p.threads) (m play i n c t) ∙ threads play i n t;
}

reads : (k : ℕ) (s : Core) (play : Play) (i : ℕ) (o : Option ℕ) → version_of k s.calls ≡ o → k ≡ suc i → play.core ≡ s → version_of (suc i) play.core.calls ≡ o
reads k s play i o v n c = ap (λ (j : ℕ). version_of j play.core.calls) (sym n) ∙ ap (λ (q : Core). version_of k q.calls) c ∙ v

of_none : (graph : Graph) (k : ℕ) (s : Core) (x : Thread) (left : List Call) → version_of k s.calls ≡ None → x.left ≡ left → Makes graph k s x (λ play i. begin_next graph play i left)
of_none graph k s x left v l play i n c t =
    ap (turn_of graph play i) (reads k s play i None v n c) ∙ ap (λ (y : Thread). begin_next graph play i y.left) t ∙ ap (begin_next graph play i) l

of_some : (graph : Graph) (k : ℕ) (s : Core) (x : Thread) (v : ℕ) (u : Turn) → version_of k s.calls ≡ Some v → next graph s v ≡ u → Makes graph k s x (λ play i. make_turn graph play v u)
of_some graph k s x v u e h play i n c t =
    ap (turn_of graph play i) (reads k s play i (Some v) e n c) ∙ ap (λ (q : Core). make_turn graph play v (next graph q v)) c ∙ ap (make_turn graph play v) h

-- ---- the thread has no live call

stays : (graph : Graph) (k : ℕ) (s : Core) (x : Thread) → Makes graph k s x (λ play i. play) → IsTurn graph k s x s x
stays graph k s x m = is_turn graph k s x s x (λ play i. play) m (λ play i n c. c) (λ play i n t. unchanged i x play.threads t)

-- and no call left
pub idle-turn : (graph : Graph) (k : ℕ) (s : Core) (x : Thread) → version_of k s.calls ≡ None → x.left ≡ [] → IsTurn graph k s x s x
idle-turn graph k s x v l = stays graph k s x (of_none graph k s x [] v l)

of_call : (graph : Graph) (k : ℕ) (s : Core) (x : Thread) (call : Call) (left : List Call) (why : Option Why) → version_of k s.calls ≡ None → x.left ≡ call ∷ left
    → refused_for s.begun s.limit (misnamed graph call) ≡ why → Makes graph k s x (λ play i. begin_or_refuse graph play i call left why)
of_call graph k s x call left why v l h play i n c t =
    of_none graph k s x (call ∷ left) v l play i n c t
    ∙ ap (begin_or_refuse graph play i call left) (ap (λ (q : Core). refused_for q.begun q.limit (misnamed graph call)) c ∙ h)

-- its next call begins
pub begin-turn : (graph : Graph) (k : ℕ) (s : Core) (x y : Thread) (call : Call) (left : List Call) → version_of k s.calls ≡ None → x.left ≡ call ∷ left
    → refused_for s.begun s.limit (misnamed graph call) ≡ None → y ≡ goes_on left x → IsTurn graph k s x (begin graph s k call) y
begin-turn graph k s x y call left v l h e = is_turn graph k s x (begin graph s k call) y (λ play i. gone_on i left (made graph play (Begin (suc i) call)))
    (of_call graph k s x call left None v l h)
    (λ play i n c. ap (λ (q : Core). begin graph q (suc i) call) c ∙ ap (λ (j : ℕ). begin graph s j call) (sym n))
    (λ play i n t. changed-as i x y (goes_on left) play.threads t (sym e))

-- or it is refused
pub refuse-turn : (graph : Graph) (k : ℕ) (s : Core) (x y : Thread) (call : Call) (left : List Call) (why : Why) → version_of k s.calls ≡ None → x.left ≡ call ∷ left
    → refused_for s.begun s.limit (misnamed graph call) ≡ Some why → y ≡ refuses k why left x → IsTurn graph k s x s y
refuse-turn graph k s x y call left why v l h e = is_turn graph k s x s y (λ play i. record play { threads = change_at i (refuses (suc i) why left) play.threads })
    (of_call graph k s x call left (Some why) v l h)
    (λ play i n c. c)
    (λ play i n t. changed-as i x y (refuses (suc i) why left) play.threads t (ap (λ (j : ℕ). refuses j why left x) (sym n) ∙ sym e))

-- ---- the thread has a live call

made-turn : (graph : Graph) (k : ℕ) (s : Core) (x : Thread) (step : Step) → Makes graph k s x (λ play i. made graph play (Make step)) → IsTurn graph k s x (apply graph s step) x
made-turn graph k s x step m = is_turn graph k s x (apply graph s step) x (λ play i. made graph play (Make step)) m
    (λ play i n c. ap (λ (q : Core). apply graph q step) c) (λ play i n t. unchanged i x play.threads t)

-- which makes a step
pub step-turn : (graph : Graph) (k : ℕ) (s : Core) (x : Thread) (v : ℕ) (step : Step) → version_of k s.calls ≡ Some v → next graph s v ≡ turn.Step step
    → IsTurn graph k s x (apply graph s step) x
step-turn graph k s x v step e h = made-turn graph k s x step (of_some graph k s x v (turn.Step step) e h)

-- or can't go on
pub wait-turn : (graph : Graph) (k : ℕ) (s : Core) (x : Thread) (v : ℕ) (cause : Cause) → version_of k s.calls ≡ Some v → next graph s v ≡ turn.NotYet cause → IsTurn graph k s x s x
wait-turn graph k s x v cause e h = stays graph k s x (of_some graph k s x v (turn.NotYet cause) e h)

abbrev ending : Graph → ℕ → Play → Bool → Play
ending graph v play b = elim b as (λ _. Play) [ true ↦ made graph play (Make (steps.End v)) | false ↦ play ]

of_ready : (graph : Graph) (k : ℕ) (s : Core) (x : Thread) (v : ℕ) (b : Bool) → version_of k s.calls ≡ Some v → next graph s v ≡ turn.Ready → allowed graph s (steps.End v) ≡ b
    → Makes graph k s x (λ play i. ending graph v play b)
of_ready graph k s x v b e h a play i n c t =
    of_some graph k s x v turn.Ready e h play i n c t ∙ ap (ending graph v play) (ap (λ (q : Core). allowed graph q (steps.End v)) c ∙ a)

-- or ends
pub end-turn : (graph : Graph) (k : ℕ) (s : Core) (x : Thread) (v : ℕ) → version_of k s.calls ≡ Some v → next graph s v ≡ turn.Ready → allowed graph s (steps.End v) ≡ true
    → IsTurn graph k s x (apply graph s (steps.End v)) x
end-turn graph k s x v e h a = made-turn graph k s x (steps.End v) (of_ready graph k s x v true e h a)

-- or can't end
pub stay-turn : (graph : Graph) (k : ℕ) (s : Core) (x : Thread) (v : ℕ) → version_of k s.calls ≡ Some v → next graph s v ≡ turn.Ready → allowed graph s (steps.End v) ≡ false
    → IsTurn graph k s x s x
stay-turn graph k s x v e h a = stays graph k s x (of_ready graph k s x v false e h a)

-- a call that was taken and then refused
pub refused-thread : (x : Caller) (k : ℕ) (why : Why) (left : List Call) → (has_refused (has_gone_on x left) k why).thread ≡ refuses k why left x.thread
refused-thread x k why left = ap (λ (n : ℕ). with_number n) (less x.thread.number)
  where
    with_number : ℕ → Thread
    with_number n = record { left = left; number = suc x.thread.number; refused = x.thread.refused ++ record { caller = k; number = n; why = why } ∷ [] }

    less : (n : ℕ) → suc n - 1 ≡ n
    less n = omega arith
