-- A call that has just begun.
use Rattle.std.proofs.Common.{◌≡◌, ℕ, suc, false, Option, Some, None, refl, ◌∙◌, true≢false}
use Rattle.std.specs.Prelude.{is_some}
use Rattle.signal_graph.specs.declared.call.Call.{Call}
use Rattle.signal_graph.specs.Graph.{Graph}
use Rattle.flow_model.specs.Machine.State.{Core, LiveCall, call_of, live}
use Rattle.flow_model.specs.Machine.Steps.{begin, new_call}
use Rattle.flow_model.proofs.OneList.CallsAndCells.{call_of-append, last_call-it}

-- the new call is found under its version
pub begun-call : (graph : Graph) (s : Core) (caller : ℕ) (asked : Call) → live s (suc s.begun) ≡ false
    → call_of (begin graph s caller asked).calls (suc s.begun) ≡ Some (new_call graph s caller asked)
begun-call graph s caller asked new =
    call_of-append s.calls (new_call graph s caller asked) (suc s.begun)
    ∙ last_call-it (call_of s.calls (suc s.begun)) (new_call graph s caller asked) (nothing (call_of s.calls (suc s.begun)) new)
  where
    nothing : (o : Option LiveCall) → is_some o ≡ false → o ≡ None
    nothing None h = refl
    nothing (Some c) h = absurd (true≢false h)
