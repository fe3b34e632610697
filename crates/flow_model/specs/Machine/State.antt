-- The core's state: the live calls, each node's list with what is being worked out there, the recorded order, and the log.
use Rattle.std.specs.Prelude.{ℕ, Bool, true, false, ◌&&◌, ◌||◌, not, ◌==◌, List, [], ◌∷◌, map}
use Rattle.std.specs.Prelude.{filter, Option, Some, None, is_some, Result, slice_index_or}
use Rattle.script_tree.specs.declared.value.Fault.{Fault}
use Rattle.script_tree.specs.declared.value.Value.{Value}
use Rattle.signal_graph.specs.declared.call.Call.{Call}
use Rattle.signal_graph.specs.declared.call.Call.TheVariants.{Read}
use Rattle.signal_graph.specs.declared.log.Logged.{Logged}
use Rattle.signal_graph.specs.Graph.{Graph, is_in, numbers}
use Rattle.signal_graph.specs.Values.{val, picks, nodes_in, start}
use Rattle.order_graph.specs.declared.pair.Pair.{Pair}
use Rattle.order_graph.specs.Order.{reaches}
use Rattle.node_versions.specs.declared.entry.State.TheVariants.{Done}
use Rattle.node_versions.specs.declared.entry.Entry.{Entry}
use Rattle.node_versions.specs.Entries.{OutEdge}
use Rattle.flow_model.specs.Machine.Lists.{change_at}

-- A live call: whose it is, its version and slot, whether it executes or still frames, what it asks for, and by node
-- what it sets and looks at; the nodes that it has yet to frame, that are open for it and that it has changed; how many
-- it has evaluated, and the values that it has looked at.
pub record LiveCall : Type 0 where
  pub caller : ℕ
  pub version : ℕ
  pub slot : ℕ
  pub executing : Bool
  pub call : Call
  pub sets : List (ℕ × Value)
  pub looks : List ℕ
  pub wanted : List ℕ
  pub open_nodes : List ℕ
  pub changed : List ℕ
  pub evaluated : ℕ
  pub looked : List Value

-- What an evaluation finds: the value of a signal or fold, or what each selector of a choose selects.
pub data Found : Type 0 where
  Gives : (v : Value) → Found
  Selects : (selections : List (Result ℕ Fault)) → Found

-- A node: its list and out-edges, and what its first open call has gathered, found and evaluated as a body.
pub record Cell : Type 0 where
  pub entries : List Entry
  pub outs : List OutEdge
  pub gathered : List (ℕ × Value)
  pub found : Option Found
  pub body : Option Value

-- A pair of the recorded order joins two calls, and has the node at which they met. Here it names them by version; where code
-- keeps the order it names them by slot (Parts/SlotPairs).
pub record Core : Type 0 where
  pub callers : ℕ
  pub limit : ℕ
  pub begun : ℕ
  pub calls : List LiveCall
  pub cells : List Cell
  pub pairs : List Pair
  pub log : List Logged

-- ---- calls

-- the live call of a version, if there is one
abbrev pub call_of : List LiveCall → ℕ → Option LiveCall
call_of [] t = None
call_of (c ∷ cs) t = elim (c.version == t) [ true ↦ Some c | false ↦ call_of cs t ]

-- a call with nothing in it
abbrev pub no_call : LiveCall
no_call = record {
  caller = 0;
  version = 0;
  slot = 0;
  executing = false;
  call = Read [];
  sets = [];
  looks = [];
  wanted = [];
  open_nodes = [];
  changed = [];
  evaluated = 0;
  looked = [];
}

-- the call that there is, or that one
abbrev pub call_or : Option LiveCall → LiveCall
call_or None = no_call
call_or (Some c) = c

-- the record of a live call; one with nothing in it for any other version
abbrev pub call : Core → ℕ → LiveCall
call s t = call_or (call_of s.calls t)

-- The version is of a live call.
abbrev pub live : Core → ℕ → Bool
live s t = is_some (call_of s.calls t)

-- It has ended, or it is version 0, which counts as an ended call.
abbrev pub ended : Core → Entry → Bool
ended s e = not (live s e.version)

-- The call lives and has framed all that it reaches.
abbrev pub executes : Core → ℕ → Bool
executes s t = (call s t).executing

-- The call lives and frames still.
abbrev pub is_framing : Core → ℕ → Bool
is_framing s t = live s t && not (executes s t)

-- The call has yet to frame the node.
abbrev pub wants : Core → ℕ → ℕ → Bool
wants s t n = is_in n (call s t).wanted

-- The node is open for the call.
abbrev pub opens : Core → ℕ → ℕ → Bool
opens s t n = is_in n (call s t).open_nodes

-- The call has changed the node.
abbrev pub changes : Core → ℕ → ℕ → Bool
changes s t n = is_in n (call s t).changed

-- ---- nodes

-- a node with nothing at it
abbrev pub no_cell : Cell
no_cell = record { entries = []; outs = []; gathered = []; found = None; body = None }

-- what is kept of a node
abbrev pub cell : Core → ℕ → Cell
cell s n = slice_index_or s.cells n no_cell

-- the node's list
abbrev pub entries : Core → ℕ → List Entry
entries s n = (cell s n).entries

-- the node's out-edges
abbrev pub outs : Core → ℕ → List OutEdge
outs s n = (cell s n).outs

-- ---- the order

-- Call u is before call v: by recorded pairs, or since it has ended and v is live.
abbrev pub precedes : Core → ℕ → ℕ → Bool
precedes s u v = reaches s.pairs u v || (not (live s u) && live s v)

-- ---- changes of one call or node

-- the calls with one of them changed
abbrev pub change_call : ℕ → (LiveCall → LiveCall) → List LiveCall → List LiveCall
change_call t f [] = []
change_call t f (c ∷ cs) = elim (c.version == t) [ true ↦ f c ∷ cs | false ↦ c ∷ change_call t f cs ]

-- the state with one live call changed
abbrev pub with_call : Core → ℕ → (LiveCall → LiveCall) → Core
with_call s t f = record s { calls = change_call t f s.calls }

-- the state with one node changed
abbrev pub with_cell : Core → ℕ → (Cell → Cell) → Core
with_cell s n f = record s { cells = change_at n f s.cells }

-- ---- the opening state

-- the nodes that pick a node at the start, each with an out-edge since version 0
abbrev pub start_outs : Graph → ℕ → List OutEdge
start_outs graph m = map (λ n. (n, 0)) (filter (λ n. is_in m (nodes_in (picks graph (start graph) n))) (numbers graph))

-- the start value, as a Done of version 0
abbrev pub start_entry : Graph → ℕ → Entry
start_entry graph n = record { version = 0; slot = 0; state = Done (val graph (start graph) n) false (picks graph (start graph) n) }

-- the node at the start
abbrev pub start_cell : Graph → ℕ → Cell
start_cell graph n = record { entries = start_entry graph n ∷ []; outs = start_outs graph n; gathered = []; found = None; body = None }

-- no call has begun
abbrev pub opening : Graph → ℕ → ℕ → Core
opening graph callers limit = record {
  callers = callers;
  limit = limit;
  begun = 0;
  calls = [];
  cells = map (start_cell graph) (numbers graph);
  pairs = [];
  log = [];
}
