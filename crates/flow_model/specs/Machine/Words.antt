-- The words of the steps.
use Rattle.std.specs.Prelude.{ℕ, ◌+◌, Bool, true, false, ◌&&◌, not, ◌==◌, nat_lt, List, [], ◌∷◌, ◌++◌}
use Rattle.std.specs.Prelude.{length, map, Option, Some, None, Result, Ok, Err, slice_get, is_some}
use Rattle.std.specs.List.{list_any}
use Rattle.script_tree.specs.declared.value.Fault.{Fault}
use Rattle.script_tree.specs.declared.value.Fault.TheVariants.{Kind, NoChoice}
use Rattle.script_tree.specs.declared.value.Value.{Value}
use Rattle.script_tree.specs.declared.value.Value.TheVariants.{Fault as Faulty}
use Rattle.script_tree.specs.Scripts.{Scripted}
use Rattle.script_tree.specs.Eval.{eval_script, eval_body}
use Rattle.signal_graph.specs.declared.node.Node.{Node}
use Rattle.signal_graph.specs.declared.node.Node.TheVariants.{Source, Signal, Fold, Choose}
use Rattle.signal_graph.specs.Graph.{Graph, node_at, is_in, is_source, inputs_of, body_of, static_outs}
use Rattle.signal_graph.specs.Values.{select, taken, nodes_in}
use Rattle.node_versions.specs.Entries.{first_open, value_before, picks_before, active_nodes}
use Rattle.flow_model.specs.declared.limits.TheConstants.{SPARE_ENTRIES}
use Rattle.flow_model.specs.Machine.Lists.{is_empty}
use Rattle.flow_model.specs.Machine.State.{Core, LiveCall, Found, Gives, Selects, call, cell}
use Rattle.flow_model.specs.Machine.State.{entries, outs, executes, opens, changes, precedes}

-- ---- dependencies

-- the candidates in the picks before the call's entry
abbrev pub prior_picks : Core → ℕ → ℕ → List ℕ
prior_picks s t n = nodes_in (picks_before (entries s n) t)

-- the nodes that the node's value rests on before the call
abbrev pub deps : Graph → Core → ℕ → ℕ → List ℕ
deps graph s t n = inputs_of (node_at graph n) ++ prior_picks s t n

-- the nodes that are framed with m: those whose scripts name it, and those that picked it at the call's entry
abbrev pub active_outs : Graph → Core → ℕ → ℕ → List ℕ
active_outs graph s t m = static_outs graph m ++ active_nodes (entries s m) (outs s m) t

-- ---- what is gathered and found

-- the value that is gathered of m, if it is
abbrev pub gathered_of : ℕ → List (ℕ × Value) → Option Value
gathered_of m [] = None
gathered_of m (p ∷ ps) = elim (p.0 == m) [ true ↦ Some p.1 | false ↦ gathered_of m ps ]

-- that value, or a fault
abbrev pub value_or : Option Value → Value
value_or None = Faulty NoChoice
value_or (Some v) = v

-- the value that is gathered of m for n
abbrev pub value_gathered : Core → ℕ → ℕ → Value
value_gathered s n m = value_or (gathered_of m (cell s n).gathered)

-- The value of m is gathered for n.
abbrev pub is_gathered : Core → ℕ → ℕ → Bool
is_gathered s n m = is_some (gathered_of m (cell s n).gathered)

-- The node is evaluated.
abbrev pub is_found : Core → ℕ → Bool
is_found s n = is_some (cell s n).found

-- the picks that were found, as nodes
abbrev pub picks_of_found : Option Found → List (Option ℕ)
picks_of_found None = []
picks_of_found (Some (Gives v)) = []
picks_of_found (Some (Selects selections)) = map taken selections

-- what the node's selectors picked
abbrev pub found_picks : Core → ℕ → List (Option ℕ)
found_picks s n = picks_of_found (cell s n).found

-- the candidates among that
abbrev pub found_candidates : Core → ℕ → List ℕ
found_candidates s n = nodes_in (found_picks s n)

-- The call had picked c before.
abbrev pub is_prior : Core → ℕ → ℕ → ℕ → Bool
is_prior s t n c = is_in c (prior_picks s t n)

-- The node's selectors picked c.
abbrev pub is_candidate : Core → ℕ → ℕ → Bool
is_candidate s n c = is_in c (found_candidates s n)

-- ---- where a call can work

-- There is a number, and it is this one.
abbrev pub is_some_of : Option ℕ → ℕ → Bool
is_some_of None t = false
is_some_of (Some u) t = u == t

-- The call's entry is the first Frame of the node's list.
abbrev pub heads : Core → ℕ → ℕ → Bool
heads s t n = is_some_of (first_open (entries s n)) t

-- It executes, its Frame is the node's first, and it has finished at all nodes that this one rests on.
abbrev pub at_front : Graph → Core → ℕ → ℕ → Bool
at_front graph s t n = executes s t && heads s t n && not (list_any (opens s t) (deps graph s t n))

-- Besides, it has nothing left to frame.
abbrev pub can_work : Graph → Core → ℕ → ℕ → Bool
can_work graph s t n = is_empty (call s t).wanted && at_front graph s t n

-- The call has changed a node that this one rests on.
abbrev pub touched : Graph → Core → ℕ → ℕ → Bool
touched graph s t n = not (is_source (node_at graph n)) && list_any (changes s t) (deps graph s t n)

-- The call can work at the node and has changed what it rests on.
abbrev pub due : Graph → Core → ℕ → ℕ → Bool
due graph s t n = can_work graph s t n && touched graph s t n

-- An executing call after this one wants the node.
abbrev pub presses : Core → ℕ → ℕ → LiveCall → Bool
presses s t n c = c.executing && precedes s t c.version && is_in n c.wanted

-- Some call presses for the node.
abbrev pub pressed : Core → ℕ → ℕ → Bool
pressed s t n = list_any (presses s t n) s.calls

-- how many entries a list may have, and whether one more finds room
abbrev pub list_room : ℕ → ℕ
list_room callers = callers + SPARE_ENTRIES

abbrev pub has_room : Core → ℕ → Bool
has_room s m = nat_lt (length (entries s m)) (list_room s.callers)

-- the node that the call looks at next
abbrev pub next_look : Core → ℕ → Option ℕ
next_look s t = slice_get (call s t).looks (length (call s t).looked)

-- Nothing of the call is wanted or open.
abbrev pub is_idle : Core → ℕ → Bool
is_idle s t = executes s t && is_empty (call s t).wanted && is_empty (call s t).open_nodes

-- ---- values

-- a script and a selection, where the values of nodes are given by a function
abbrev pub run_over : Scripted → List ℕ → (ℕ → Value) → Value → Value
run_over script inputs read acc = eval_script script.tree (map read inputs) acc

-- the value of a pick
abbrev pub pick_over : (ℕ → Value) → Result ℕ Fault → Value
pick_over read (Ok c) = read c
pick_over read (Err f) = Faulty f

-- what a node finds; a source, which is never asked, has its start value
abbrev pub finds : Node → (ℕ → Value) → Value → Found
finds (Source start) read acc = Gives start
finds (Signal script inputs) read acc = Gives (run_over script inputs read (Faulty Kind))
finds (Fold start script inputs) read acc = Gives (run_over script inputs read acc)
finds (Choose selectors body inputs) read acc = Selects
    (map (λ selector. select (run_over selector.script selector.inputs read (Faulty Kind)) selector.candidates) selectors)

-- what the selectors of a choose selected
abbrev pub selections_of : Option Found → List (Result ℕ Fault)
selections_of None = []
selections_of (Some (Gives v)) = []
selections_of (Some (Selects selections)) = selections

-- the value of the first pick
abbrev pub first_pick_over : (ℕ → Value) → List (Result ℕ Fault) → Value
first_pick_over read [] = Faulty NoChoice
first_pick_over read (selection ∷ rest) = pick_over read selection

-- the value of a body over the picks
abbrev pub body_over : Option Scripted → (ℕ → Value) → List (Result ℕ Fault) → Value
body_over None read selections = first_pick_over read selections
body_over (Some body) read selections = eval_body body.tree (map (pick_over read) selections)

-- the value that belongs to what was found
abbrev pub value_over : Option Scripted → (ℕ → Value) → Found → Value
value_over body read (Gives v) = v
value_over body read (Selects selections) = body_over body read selections

-- what the call finds at the node over what is gathered
abbrev pub found_now : Graph → Core → ℕ → ℕ → Found
found_now graph s t n = finds (node_at graph n) (value_gathered s n) (value_before (entries s n) t)

-- the body's value over what is gathered
abbrev pub body_now : Graph → Core → ℕ → Value
body_now graph s n = body_over (body_of (node_at graph n)) (value_gathered s n) (selections_of (cell s n).found)

-- the last value that a list of sets gives a node
abbrev pub set_value : ℕ → Value → List (ℕ × Value) → Value
set_value n v [] = v
set_value n v (p ∷ ps) = elim (p.0 == n) [ true ↦ set_value n p.1 ps | false ↦ set_value n v ps ]

-- without a body the value is what was found, or the value of the one pick; with one it is the body's
abbrev pub value_without : Core → ℕ → Option Found → Value
value_without s n None = Faulty NoChoice
value_without s n (Some found) = value_over None (value_gathered s n) found

-- the value of a node with or without a body
abbrev pub value_by : Core → ℕ → Option Scripted → Value
value_by s n None = value_without s n (cell s n).found
value_by s n (Some body) = value_or (cell s n).body

-- the node's new value
abbrev pub value_now : Graph → Core → ℕ → ℕ → Value
value_now graph s t n = elim (is_source (node_at graph n)) [
  | true ↦ set_value n (Faulty NoChoice) (call s t).sets
  | false ↦ value_by s n (body_of (node_at graph n))
]
