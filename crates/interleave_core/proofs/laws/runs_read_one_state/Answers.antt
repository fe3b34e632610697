use Rattle.std.proofs.Common.{◌≡◌, List, [], ◌∷◌, ◌++◌, sym, ap, ◌∙◌}
use Rattle.signal_graph.specs.Values.{val}
use Rattle.signal_graph.specs.Legal.{state_after}
use Rattle.flow_model.specs.declared.step.Step.TheVariants as Steps
use Rattle.flow_model.specs.Machine.State.{Core}
use Rattle.flow_model.specs.Machine.Histories.{Make, state, is_history}
use Rattle.interleave_core.specs.Runs.{Act, MakeStep, moves_of}
use Rattle.interleave_core.proofs.RunLemmas.{step_twice, no_run, moves-append}
use Rattle.interleave_core.proofs.laws.runs_read_one_state.Goals as goal

pub returns-clause-node : goal.returns-clause-node
returns-clause-node c graph kept callers limit first more rest t n =
    no_run graph callers limit (first ++ (MakeStep (Steps.Evaluate t n) ∷ (more ++ (MakeStep (Steps.Evaluate t n) ∷ rest)))) _ (step_twice first more rest (Steps.Evaluate t n)) (c.evaluated_once.ensures.node graph kept callers limit (moves_of first) (moves_of more) (moves_of rest) t n)

pub returns-clause-body : goal.returns-clause-body
returns-clause-body c graph kept callers limit first more rest t n =
    no_run graph callers limit (first ++ (MakeStep (Steps.Body t n) ∷ (more ++ (MakeStep (Steps.Body t n) ∷ rest)))) _ (step_twice first more rest (Steps.Body t n)) (c.evaluated_once.ensures.body graph kept callers limit (moves_of first) (moves_of more) (moves_of rest) t n)

pub returns-clause-gathered : goal.returns-clause-gathered
returns-clause-gathered c graph kept callers limit acts t n m v h read =
    let all : List Act = acts ++ (MakeStep (Steps.End t) ∷ []) in
    let same : moves_of all ≡ moves_of acts ++ (Make (Steps.End t) ∷ []) = moves-append acts (MakeStep (Steps.End t) ∷ []) in
    let is = (c.runs_are_histories.ensures.core graph callers limit all h).1 in
    let history = c.runs_are_histories.ensures.history graph callers limit all h in
    c.gathered_values_are_right.ensures.gathered graph kept callers limit (moves_of acts) t n m v (sym (ap (is_history graph callers limit) same) ∙ history) read
    ∙ ap (λ (s : Core). val graph (state_after graph s.log) m) (sym (is ∙ ap (state graph callers limit) same))
