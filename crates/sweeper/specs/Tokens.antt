-- What callers take along, names of no sweeper, what contracts see under its lock, and the last entry of a log.
use Rattle.std.specs.Prelude.{◌≡◌, ℕ, ◌≤◌, List, [], ◌∷◌, length, map, Option, Some, None, Box, vec_capacity}
use Rattle.std.specs.declared.alloc.Global.{Global}
use Rattle.atomic_table.specs.Seated.{TableId}
use Rattle.node_set.specs.Members.{Members}
use Rattle.signal_graph.specs.declared.log.Logged.{Logged}
use Rattle.signal_graph.specs.Graph.{Graph}
use Rattle.signal_graph.specs.Machine.{looks_of_reply}
use Rattle.flow_model.specs.Machine.Histories.{Move}
use Rattle.caller_fronts.specs.Tokens.{Going, IsGoing, HasLooks, going_at}
use Rattle.sweeper.specs.declared.locked.Met.{Met}
use Rattle.sweeper.specs.declared.luggage.Luggage.{Luggage}

-- the nodes of the jobs that are out, of each caller's luggage
abbrev pub outs_of : List (Box Luggage Global) → List Members
outs_of = map (λ (luggage : Box Luggage Global). luggage.value.out)

-- the name of no table
abbrev pub no_table : TableId
no_table = record { words = 0; slots = 0; views_name = 0; atom = 0; block = 0; offset = 0; slot_names = [] }

-- what contracts see under the lock: the moves so far, the callers' keys that are out, and how many rooms are
pub record Held : Type 0 where
  pub moves : List Move
  pub out : List ℕ
  pub rooms : ℕ

-- A live call whose note was taken back goes on after the moves so far, and has the room that it needs.
pub record IsMet (graph : Graph) (callers limit : ℕ) (met : Met) (moves : List Move) : Type 0 where
  pub going : IsGoing graph callers limit met.caller met.version met.luggage.value.out.nodes moves
  pub size : met.luggage.value.out.size ≡ length graph.nodes
  pub empty : met.luggage.value.looks.items ≡ []
  pub looks : HasLooks graph callers limit met.version moves (vec_capacity met.luggage.value.looks)

-- what contracts see of it once it has a note of them
abbrev pub met_at : Graph → ℕ → ℕ → Met → List Move → Going
met_at graph callers limit met moves = going_at graph callers limit met.caller met.version met.luggage.value.out.nodes moves

-- the last entry of a log
abbrev pub last_of : List Logged → Option Logged
last_of [] = None
last_of (x ∷ []) = Some x
last_of (x ∷ y ∷ log) = last_of (y ∷ log)

-- A log has a last entry, and there is room for the values of its reply.
pub record HasLastReply (log : List Logged) (room : ℕ) : Type 0 where
  pub entry : Logged
  pub last : last_of log ≡ Some entry
  pub fits : length (looks_of_reply entry.reply) ≤ room
