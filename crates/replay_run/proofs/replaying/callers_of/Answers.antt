use Rattle.std.proofs.Common.{◌≡◌, ◌<◌, ◌^◌, ◌++◌, ◌∷◌, [], List, map, length, ap, ◌∙◌, subst, arith}
use Rattle.std.specs.Prelude.{All}
use Rattle.std.specs.Vec.Iter.{into_iter_items}
use Rattle.std.proofs.lemmas.List.Elements.{All-tail}
use Rattle.signal_graph.specs.declared.call.Call.{Call}
use Rattle.replay_run.specs.Replaying.{Caller, new_caller}
use Rattle.replay_run.proofs.Seats.{one-more}
use Rattle.replay_run.proofs.replaying.callers_of.Goals as goal

pub loop-calls-preserved : goal.loop-calls-preserved
loop-calls-preserved c =
    let at = c.loop-calls in
    let i = at.invariant in
    let rest = into_iter_items c.next.new.self in
    let steps : into_iter_items at.calls-iterator ≡ c.in-Some.calls ∷ rest = c.in-Some.ensures.steps.0 in
    let short = ap length steps in
    let gone = c.in-Some.ensures.steps.1 in
    let one = one-more at.callers.items c.in-Some.calls rest c.args.scripts (subst (λ (xs : List (List Call)). at.callers.items ++ map new_caller xs ≡ map new_caller c.args.scripts) steps i.0) in
    (ap (λ (xs : List Caller). xs ++ map new_caller rest) (c.in_ok-push.ensures.items ∙ ap (λ (y : Caller). at.callers.items ++ y ∷ []) c.new.ensures) ∙ one, (let was = i.1 in omega arith), All-tail (λ (calls : List Call). length calls < 2 ^ 32) c.in-Some.calls rest (subst (All (λ (calls : List Call). length calls < 2 ^ 32)) steps i.2))
