use Rattle.std.proofs.Common.{◌≡◌, ◌++◌, ◌+◌, drop}
use Rattle.call_log.specs.LeftOut.{left_out_from}
use Rattle.report_check.proofs.refused.add_left_out.Given as goal

abbrev pub invariant-loop-index : goal.invariant-loop-index
invariant-loop-index l = l.refused ++ left_out_from l.graph l.limit l.caller (l.index + 1) l.left (drop l.index l.calls) ≡ l.fn.refused ++ left_out_from l.graph l.limit l.caller 1 l.made l.calls
