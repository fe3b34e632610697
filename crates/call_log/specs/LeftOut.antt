-- The calls that were not made, by caller and then number.
use Rattle.std.specs.Prelude.{ℕ, zero, suc, ◌+◌, ◌-◌, Option, Some, None, List, [], ◌∷◌, ◌++◌, length}
use Rattle.signal_graph.specs.declared.call.Call.{Call}
use Rattle.signal_graph.specs.declared.log.Logged.{Logged}
use Rattle.signal_graph.specs.declared.log.Why.{Why}
use Rattle.signal_graph.specs.declared.log.Why.TheVariants.{UnknownName, VersionsUsedUp}
use Rattle.signal_graph.specs.declared.log.Refused.{Refused}
use Rattle.signal_graph.specs.Graph.{Graph}
use Rattle.signal_graph.specs.Machine.{misnamed}
use Rattle.call_log.specs.Made.{entries_of}

-- why a call is not made: it is misnamed at this place, or well-named and behind the `left` well-named calls that are
abbrev pub why_not : ℕ → ℕ → Option ℕ → Option Why
why_not limit left (Some place) = Some (UnknownName place)
why_not limit zero None = Some (VersionsUsedUp limit)
why_not limit (suc left) None = None

-- how many of the calls behind one are made, where it is the first of the rest
abbrev pub left_behind : ℕ → Option ℕ → ℕ
left_behind left (Some place) = left
left_behind left None = left - 1

abbrev pub refusal : ℕ → ℕ → Option Why → List Refused
refusal caller number None = []
refusal caller number (Some why) = record { caller = caller; number = number; why = why } ∷ []

-- of a caller's calls from a number on, those that are not made where the first `left` well-named ones of them are
abbrev pub left_out_from : Graph → ℕ → ℕ → ℕ → ℕ → List Call → List Refused
left_out_from graph limit caller number left [] = []
left_out_from graph limit caller number left (call ∷ calls) =
    refusal caller number (why_not limit left (misnamed graph call))
    ++ left_out_from graph limit caller (number + 1) (left_behind left (misnamed graph call)) calls

-- all calls that a log has not, of the callers from a number on
abbrev pub left_out_of : Graph → ℕ → List Logged → ℕ → List (List Call) → List Refused
left_out_of graph limit log caller [] = []
left_out_of graph limit log caller (calls ∷ scripts) =
    left_out_from graph limit caller 1 (length (entries_of caller log)) calls ++ left_out_of graph limit log (caller + 1) scripts

abbrev pub left_out : Graph → ℕ → List Logged → List (List Call) → List Refused
left_out graph limit log scripts = left_out_of graph limit log 1 scripts
