-- What a schedule makes of the calls of threads: it says whose turn it is, and in a turn a thread begins its next call, or its live
-- call makes its next step, or ends. Rounds of one turn each follow, until all is done.
use Rattle.std.specs.Prelude.{ℕ, zero, suc, ◌+◌, ◌*◌, Bool, true, false, ◌&&◌, ◌==◌, nat_lt, List, []}
use Rattle.std.specs.Prelude.{◌∷◌, ◌++◌, length, map, sum_by, Option, Some, None, slice_index_or}
use Rattle.std.specs.List.{list_all}
use Rattle.signal_graph.specs.declared.call.Call.{Call}
use Rattle.signal_graph.specs.declared.log.Refused.{Refused}
use Rattle.signal_graph.specs.declared.log.Why.{Why}
use Rattle.signal_graph.specs.declared.log.Why.TheVariants.{UnknownName, VersionsUsedUp}
use Rattle.signal_graph.specs.Graph.{Graph}
use Rattle.signal_graph.specs.Machine.{misnamed}
use Rattle.flow_model.specs.declared.step.Step.TheVariants.{End}
use Rattle.flow_model.specs.declared.step.Turn.{Turn}
use Rattle.flow_model.specs.declared.step.Turn.TheVariants as turn
use Rattle.flow_model.specs.Machine.Lists.{is_empty, change_at}
use Rattle.flow_model.specs.Machine.State.{Core, LiveCall, opening}
use Rattle.flow_model.specs.Machine.Steps.{allowed}
use Rattle.flow_model.specs.Machine.Next.{next, least_version}
use Rattle.flow_model.specs.Machine.Histories.{Move, Begin, Make, after_move}

-- A thread: the calls that it has not begun, the number of its next call, and its calls that were refused.
pub record Thread : Type 0 where
  pub left : List Call
  pub number : ℕ
  pub refused : List Refused

-- The moves so far, the state after them, and the threads, thread 1 first.
pub record Play : Type 0 where
  pub moves : List Move
  pub core : Core
  pub threads : List Thread

abbrev pub no_thread : Thread
no_thread = record { left = []; number = 1; refused = [] }

abbrev pub thread : Play → ℕ → Thread
thread play i = slice_index_or play.threads i no_thread

-- one move more
abbrev pub made : Graph → Play → Move → Play
made graph play move = record play { moves = play.moves ++ move ∷ []; core = after_move graph play.core move }

-- the next call of a thread has begun
abbrev pub goes_on : List Call → Thread → Thread
goes_on left x = record x { left = left; number = suc x.number }

-- it is refused
abbrev pub refuses : ℕ → Why → List Call → Thread → Thread
refuses caller why left x = record {
  left = left;
  number = suc x.number;
  refused = x.refused ++ record { caller = caller; number = x.number; why = why } ∷ [];
}

-- why it is refused, where it is: the place of a name that is unknown or not of a source, or all versions are used up
abbrev pub refused_for : ℕ → ℕ → Option ℕ → Option Why
refused_for begun limit (Some place) = Some (UnknownName place)
refused_for begun limit None = elim (nat_lt begun limit) [ true ↦ None | false ↦ Some (VersionsUsedUp limit) ]

-- the thread has begun its next call
abbrev pub gone_on : ℕ → List Call → Play → Play
gone_on i left play = record play { threads = change_at i (goes_on left) play.threads }

-- the play after the call has begun or was refused
abbrev pub begin_or_refuse : Graph → Play → ℕ → Call → List Call → Option Why → Play
begin_or_refuse graph play i call left None = gone_on i left (made graph play (Begin (suc i) call))
begin_or_refuse graph play i call left (Some why) = record play { threads = change_at i (refuses (suc i) why left) play.threads }

-- Threads are counted from 0 here, and callers from 1.
-- A thread without a live call begins its next one, or that is refused; where none is left the turn does nothing.
abbrev pub begin_next : Graph → Play → ℕ → List Call → Play
begin_next graph play i [] = play
begin_next graph play i (call ∷ left) =
    begin_or_refuse graph play i call left (refused_for play.core.begun play.core.limit (misnamed graph call))

-- a live call makes its next step, and where it has none left it ends if it can; where it can't go on the turn does nothing
abbrev pub make_turn : Graph → Play → ℕ → Turn → Play
make_turn graph play t (turn.Step step) = made graph play (Make step)
make_turn graph play t (turn.NotYet cause) = play
make_turn graph play t turn.Ready = elim (allowed graph play.core (End t)) [ true ↦ made graph play (Make (End t)) | false ↦ play ]

-- the turn of a thread, by the version of its live call
abbrev pub turn_of : Graph → Play → ℕ → Option ℕ → Play
turn_of graph play i None = begin_next graph play i (thread play i).left
turn_of graph play i (Some t) = make_turn graph play t (next graph play.core t)

-- the version of a caller's live call; it has one at most
abbrev pub version_of : ℕ → List LiveCall → Option ℕ
version_of caller calls = least_version (λ c. c.caller == caller) calls

-- a turn of a thread
abbrev pub take_turn : Graph → Play → ℕ → Play
take_turn graph play i = turn_of graph play i (version_of (suc i) play.core.calls)

-- the turns of a schedule, which counts threads from 1; the number 0 is of no thread
abbrev pub take_turns : Graph → Play → List ℕ → Play
take_turns graph play [] = play
take_turns graph play (zero ∷ schedule) = take_turns graph play schedule
take_turns graph play (suc i ∷ schedule) = take_turns graph (take_turn graph play i) schedule

-- ---- the rounds that follow

-- No call is live or left.
abbrev pub is_over : Play → Bool
is_over play = is_empty play.core.calls && list_all (λ x. is_empty x.left) play.threads

-- one turn of each thread, from thread i on
abbrev pub round_from : Graph → ℕ → List Thread → Play → Play
round_from graph i [] play = play
round_from graph i (x ∷ xs) play = round_from graph (suc i) xs (take_turn graph play i)

-- rounds until all is over, at most so many
abbrev pub rounds : ℕ → Graph → Play → Play
rounds zero graph play = play
rounds (suc more) graph play = elim (is_over play) [ true ↦ play | false ↦ rounds more graph (round_from graph 0 play.threads play) ]

-- as many rounds as a run of these calls can need
abbrev pub most_rounds : Graph → List (List Call) → ℕ
most_rounds graph scripts = sum_by length scripts * (140 * length graph.nodes + 200)

-- no move is made, and each thread has all its calls left
abbrev pub at_start : Graph → List (List Call) → ℕ → Play
at_start graph scripts limit = record {
  moves = [];
  core = opening graph (length scripts) limit;
  threads = map (λ calls. record { left = calls; number = 1; refused = [] }) scripts;
}

-- the turns of a schedule, and then rounds
abbrev pub replayed : Graph → List (List Call) → ℕ → List ℕ → Play
replayed graph scripts limit schedule =
    rounds (most_rounds graph scripts) graph (take_turns graph (at_start graph scripts limit) schedule)

-- the refused calls of all threads, by thread
abbrev pub all_refused : List Thread → List Refused
all_refused [] = []
all_refused (x ∷ xs) = x.refused ++ all_refused xs
