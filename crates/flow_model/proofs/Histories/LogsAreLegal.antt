-- Each step keeps the log legal, so the log of every history is.
use Rattle.std.proofs.Common.{◌≡◌, ℕ, true, sym, List, subst}
use Rattle.signal_graph.specs.Graph.{Graph, IsGraph}
use Rattle.signal_graph.specs.Values.{start}
use Rattle.signal_graph.specs.Legal.{Legal}
use Rattle.signal_graph.proofs.LegalLogs.{legal_more}
use Rattle.flow_model.specs.declared.step.Step.{Step}
use Rattle.flow_model.specs.declared.step.Step.TheVariants as steps
use Rattle.flow_model.specs.Machine.State.{Core, call, opening}
use Rattle.flow_model.specs.Machine.Steps.{allowed, apply, logged}
use Rattle.flow_model.specs.Kept.Lawful.{IsLawful}
use Rattle.flow_model.proofs.Ended.AfterEnd.{MachineLaws}
use Rattle.flow_model.proofs.OrderStays.AfterEachStep.{frame-log, ensure_mark-log}
use Rattle.flow_model.proofs.Histories.RepliesAreRight.{reply-right}
use Rattle.flow_model.specs.Machine.Histories.{Move, Begin, Make, may, after_move, state, is_history}
use Rattle.flow_model.proofs.Opening.OpeningIsLawful.{opening-lawful}
use Rattle.flow_model.proofs.Histories.Moves.{KeepsLawful, moves-reach}

-- ---- the log

step-Legal : (graph : Graph) → IsGraph graph → MachineLaws graph → (s : Core) (step : Step) → IsLawful graph s → Legal graph s.log → allowed graph s step ≡ true → Legal graph (apply graph s step).log
step-Legal graph g laws s (steps.Frame t n) h l a = subst (Legal graph) (sym (frame-log graph s t n)) l
step-Legal graph g laws s (steps.Start t) h l a = l
step-Legal graph g laws s (steps.Skip t n) h l a = l
step-Legal graph g laws s (steps.Gather t n m) h l a = l
step-Legal graph g laws s (steps.Evaluate t n) h l a = l
step-Legal graph g laws s (steps.Body t n) h l a = l
step-Legal graph g laws s (steps.Resolve t n) h l a = l
step-Legal graph g laws s (steps.Discover t n c) h l a = subst (Legal graph) (sym (ensure_mark-log s t c)) l
step-Legal graph g laws s (steps.Drop t n o) h l a = subst (Legal graph) (sym (ensure_mark-log s t o)) l
step-Legal graph g laws s (steps.Mark t m) h l a = l
step-Legal graph g laws s (steps.Look t) h l a = l
step-Legal graph g laws s (steps.End t) h l a = legal_more graph (start graph) s.log (logged (call s t)) l (reply-right graph g laws s h t a)
step-Legal graph g laws s (steps.Collect n) h l a = l

-- ---- histories

pub history-Legal : (graph : Graph) → IsGraph graph → MachineLaws graph → KeepsLawful graph → (callers limit : ℕ) (moves : List Move) → is_history graph callers limit moves ≡ true → Legal graph (state graph callers limit moves).log
history-Legal graph g laws keeps callers limit moves m = (moves-reach graph keeps (λ s. Legal graph s.log) stays moves (opening graph callers limit) (opening-lawful graph g callers limit) tt m).holds
  where
    stays : (s : Core) (move : Move) → IsLawful graph s → may graph s move ≡ true → Legal graph s.log → Legal graph (after_move graph s move).log
    stays s (Begin caller c) h a l = l
    stays s (Make step) h a l = step-Legal graph g laws s step h l a
