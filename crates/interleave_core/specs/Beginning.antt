-- Where a call may begin, in parts, and why it may not.
use Rattle.std.specs.Prelude.{◌≡◌, ℕ, ◌≤◌, Bool, true, not, ◌&&◌, nat_le, length, Option, Some, None}
use Rattle.script_tree.specs.declared.limits.TheConstants.{SETS, LOOKS}
use Rattle.signal_graph.specs.declared.call.Call.{Call}
use Rattle.signal_graph.specs.declared.log.Why.{Why}
use Rattle.signal_graph.specs.declared.log.Why.TheVariants as why
use Rattle.signal_graph.specs.Graph.{Graph}
use Rattle.signal_graph.specs.Machine.{sets_of, looks_of, misnamed}
use Rattle.flow_model.specs.Machine.State.{Core}
use Rattle.flow_model.specs.Machine.Schedules.{refused_for, version_of}
use Rattle.flow_model.specs.Machine.Steps.{has_call, can_begin}
use Rattle.interleave_core.specs.declared.refusal.Refusal.{Refusal}
use Rattle.interleave_core.specs.declared.refusal.Refusal.TheVariants.{UnknownName, VersionsUsedUp, Memory}

-- There is such a caller, and it has no live call.
abbrev pub is_free : Core → ℕ → Bool
is_free s caller = nat_le 1 caller && nat_le caller s.callers && not (has_call caller s.calls)

-- The call has no more sets and looks than it may.
abbrev pub is_within : Call → Bool
is_within call = nat_le (length (sets_of call)) SETS && nat_le (length (looks_of call)) LOOKS

-- why no caller may begin the call in this state
abbrev pub refused_in : Graph → Core → Call → Option Why
refused_in graph s call = refused_for s.begun s.limit (misnamed graph call)

-- Each caller without a live call may begin the call.
abbrev pub AllCanBegin : Graph → Core → Call → Type 0
AllCanBegin graph s call =
    (caller : ℕ) → 1 ≤ caller → caller ≤ s.callers → version_of caller s.calls ≡ None → can_begin graph s caller call ≡ true

-- what a refusal says of the call: nothing where there was no memory
abbrev pub why_of : Refusal → Option Why
why_of (UnknownName place) = Some (why.UnknownName place)
why_of (VersionsUsedUp limit) = Some (why.VersionsUsedUp limit)
why_of Memory = None
