-- What a history says of each caller: the calls that it has begun, and which of them are logged and live.
use Rattle.std.specs.Prelude.{◌≡◌, ℕ, suc, ◌+◌, ◌<◌, ◌≤◌, ◌⊎◌, true, false, ◌==◌, List, [], ◌∷◌, ◌++◌, length, map, filter}
use Rattle.std.specs.List.{AllByRecursion}
use Rattle.script_tree.specs.declared.limits.TheConstants.{SETS, LOOKS}
use Rattle.signal_graph.specs.declared.call.Call.{Call}
use Rattle.signal_graph.specs.declared.log.Logged.{Logged}
use Rattle.signal_graph.specs.Graph.{Graph}
use Rattle.signal_graph.specs.Machine.{sets_of, looks_of}
use Rattle.call_log.specs.Made.{entries_of, well_named, script_of, IsPrefix}
use Rattle.flow_model.specs.Machine.State.{Core, LiveCall}
use Rattle.flow_model.specs.Machine.Histories.{Move, Begin, Make, state, is_history}

-- how many calls begin
abbrev pub count_begins : List Move → ℕ
count_begins [] = 0
count_begins (Begin caller call ∷ moves) = suc (count_begins moves)
count_begins (Make step ∷ moves) = count_begins moves

-- A version's call begins among the moves: it is the call that begins after one less than its version.
pub record IsBegunIn (moves : List Move) (t : ℕ) : Type 0 where
  pub earlier : List Move
  pub caller : ℕ
  pub call : Call
  pub later : List Move
  pub split : moves ≡ earlier ++ (Begin caller call ∷ later)
  pub version : t ≡ suc (count_begins earlier)

-- the calls that a caller begins, in their order, each with its version, where so many calls have begun before
abbrev pub begun_from : ℕ → ℕ → List Move → List (ℕ × Call)
begun_from k from [] = []
begun_from k from (Begin caller call ∷ moves) = elim (caller == k) [
  | true ↦ (suc from, call) ∷ begun_from k (suc from) moves
  | false ↦ begun_from k (suc from) moves
]
begun_from k from (Make step ∷ moves) = begun_from k from moves

-- the calls that a caller begins from the opening state on
abbrev pub begun_by : ℕ → List Move → List (ℕ × Call)
begun_by k moves = begun_from k 0 moves

-- such calls alone
abbrev pub calls_of : List (ℕ × Call) → List Call
calls_of made = map (λ (p : ℕ × Call). p.1) made

-- a caller's calls in a log, and its live ones
abbrev pub logged_of : ℕ → List Logged → List (ℕ × Call)
logged_of k log = map (λ (x : Logged). (x.version, x.call)) (entries_of k log)

-- a caller's live calls
abbrev pub live_of : ℕ → List LiveCall → List (ℕ × Call)
live_of k calls = map (λ (c : LiveCall). (c.version, c.call)) (filter (λ (c : LiveCall). c.caller == k) calls)

-- a caller's calls: those in the log, and behind them what it has live
abbrev pub made_by : Core → ℕ → List (ℕ × Call)
made_by s k = logged_of k s.log ++ live_of k s.calls

-- A finished run of scripts: a history of as many callers, in which each begins the well-named calls of its script in
-- their order, all of them or until the versions are used up, and after which no call is live.
pub record IsFinishedRun (graph : Graph) (scripts : List (List Call)) (limit : ℕ) (moves : List Move) : Type 0 where
  pub history : is_history graph (length scripts) limit moves ≡ true
  pub none_live : (state graph (length scripts) limit moves).calls ≡ []
  pub in_order : (k : ℕ) → k < length scripts → IsPrefix (calls_of (begun_by (k + 1) moves)) (well_named graph (script_of scripts k))
  pub all_begun : (k : ℕ) → k < length scripts
      → (calls_of (begun_by (k + 1) moves) ≡ well_named graph (script_of scripts k)) ⊎ (limit ≤ count_begins moves)

-- A call sets and looks at no more nodes than a call may; so do all calls of scripts.
abbrev pub IsWithin : Call → Type 0
IsWithin call = (length (sets_of call) ≤ SETS) × (length (looks_of call) ≤ LOOKS)

-- So do all calls of scripts.
abbrev pub AreWithin : List (List Call) → Type 0
AreWithin scripts = (i : ℕ) → AllByRecursion IsWithin (script_of scripts i)
