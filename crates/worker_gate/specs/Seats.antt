-- Passes that are lent to threads, with what comes back.
use Rattle.std.specs.Prelude.{◌≡◌, ℕ, ◌+◌, ◌<◌, Bool, true, ◌&&◌, Option, Some, None, List, [], ◌∷◌, length, map, slice_index_or}
use Rattle.signal_graph.specs.declared.call.Call.{Call}
use Rattle.signal_graph.specs.declared.log.Refused.{Refused}
use Rattle.signal_graph.specs.Graph.{Graph}
use Rattle.flow_model.specs.Machine.Histories.{Move}
use Rattle.caller_fronts.specs.Tokens.{Idle}
use Rattle.worker_gate.specs.Scripts.{HasMadeIt}
use Rattle.worker_gate.specs.declared.run.Seat.{Seat}

-- the fronts of passes, and their callers
abbrev pub fronts_of : List Idle → List (List Move)
fronts_of passes = map (λ (p : Idle). p.front) passes

abbrev pub callers_of : List Idle → List ℕ
callers_of passes = map (λ (p : Idle). p.caller) passes

-- The first pass is of caller 1, the next one of caller 2, and so on.
abbrev pub AreNumbered : List Idle → Type 0
AreNumbered passes = (k : ℕ) (d : Idle) → k < length passes → (slice_index_or passes k d).caller ≡ k + 1

abbrev pub pass_or : Option Idle → Idle
pass_or None = record { caller = 0; front = [] }
pass_or (Some pass) = pass

module _ {J : Type 0} where
  -- the passes before their threads have run
  abbrev pub seats_of : List Idle → List (Seat J)
  seats_of passes = map (λ (p : Idle). record { pass = Some p; refused = []; enough = true }) passes

  -- the passes of seats, and the lists of what was refused
  abbrev pub passes_of : List (Seat J) → List Idle
  passes_of seats = map (λ (s : Seat J). pass_or s.pass) seats

  abbrev pub lists_of : List (Seat J) → List (List Refused)
  lists_of seats = map (λ (s : Seat J). s.refused) seats

  abbrev pub all_enough : List (Seat J) → Bool
  all_enough [] = true
  all_enough (s ∷ seats) = s.enough && all_enough seats

  -- each seat has a pass
  abbrev pub AllTaken : List (Seat J) → Type 0
  AllTaken [] = Unit {0}
  AllTaken (s ∷ seats) = ((p : Idle) × (s.pass ≡ Some p)) × AllTaken seats

  -- A seat's thread has made its script, with what its pass was before, and the same caller's pass is there.
  abbrev pub IsServed : Graph → ℕ → List Call → Option Idle → Seat J → Type 0
  IsServed graph limit script None seat = Unit {0}
  IsServed graph limit script (Some old) seat =
      (new : Idle) × (seat.pass ≡ Some new) × (new.caller ≡ old.caller)
      × HasMadeIt graph limit old.caller script old.front new.front seat.refused seat.enough
