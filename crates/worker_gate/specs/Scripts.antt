-- What a caller makes of its script.
use Rattle.std.specs.Prelude.{◌≡◌, ℕ, Bool, true, false, ◌+◌, ◌<◌, ◌⊎◌, List, [], ◌++◌, length, flat_map, slice_index_or}
use Rattle.signal_graph.specs.declared.call.Call.{Call}
use Rattle.signal_graph.specs.declared.log.Refused.{Refused}
use Rattle.signal_graph.specs.Graph.{Graph}
use Rattle.call_log.specs.Made.{well_named, script_of, IsPrefix}
use Rattle.call_log.specs.LeftOut.{left_out_from}
use Rattle.flow_model.specs.Machine.Histories.{Move}
use Rattle.flow_model.specs.Follows.Callers.{count_begins, begun_by, calls_of}

-- a history goes on
abbrev pub GoesOn : List Move → List Move → Type 0
GoesOn old new = (more : List Move) × (new ≡ old ++ more)

-- A caller has made calls of a script: since an earlier history its own calls have grown by these, and they are the first
-- of the script's well-named ones.
pub record HasMade (graph : Graph) (caller : ℕ) (script made : List Call) (old new : List Move) : Type 0 where
  pub further : GoesOn old new
  pub grown : calls_of (begun_by caller new) ≡ calls_of (begun_by caller old) ++ made
  pub first : IsPrefix made (well_named graph script)

-- A caller has made its script: each well-named call, or the first of them where the calls that have begun number the
-- limit. The others are refused, each with the reason.
pub record IsMade (graph : Graph) (limit caller : ℕ) (script : List Call) (refused : List Refused) (old new : List Move) : Type 0 where
  pub made : List Call
  pub calls : HasMade graph caller script made old new
  pub all : (made ≡ well_named graph script) ⊎ (count_begins new ≡ limit)
  pub others : refused ≡ left_out_from graph limit caller 1 (length made) script

-- A caller has made its script; or where there was no memory the first of its well-named calls, as far as it came.
abbrev pub HasMadeIt : Graph → ℕ → ℕ → List Call → List Move → List Move → List Refused → Bool → Type 0
HasMadeIt graph limit caller script old new refused true = IsMade graph limit caller script refused old new
HasMadeIt graph limit caller script old new refused false = (made : List Call) × HasMade graph caller script made old new

-- All callers have made their scripts, caller 1 the first one. What was refused are the lists of all callers, laid end to end.
pub record AreMade (graph : Graph) (limit : ℕ) (scripts : List (List Call)) (refused : List Refused) (olds news : List (List Move))
    : Type 0 where
  pub lists : List (List Refused)
  pub as_many : length lists ≡ length scripts
  pub laid : refused ≡ flat_map (λ list. list) lists
  pub each : (k : ℕ) → k < length scripts
      → IsMade graph limit (k + 1) (script_of scripts k) (slice_index_or lists k []) (slice_index_or olds k []) (slice_index_or news k [])

-- All callers have made the first well-named calls of their scripts.
abbrev pub AreBegun : Graph → List (List Call) → List (List Move) → List (List Move) → Type 0
AreBegun graph scripts olds news = (k : ℕ) → k < length scripts
    → (made : List Call) × HasMade graph (k + 1) (script_of scripts k) made (slice_index_or olds k []) (slice_index_or news k [])
