-- The value of each node, from what the sources and folds keep.
use Rattle.std.specs.Prelude.{ℕ, pos, negsuc, List, [], ◌∷◌, ◌++◌, length, map, Option}
use Rattle.std.specs.Prelude.{Some, None, Result, Ok, Err, slice_get, slice_index_or}
use Rattle.script_tree.specs.declared.value.Fault.{Fault}
use Rattle.script_tree.specs.declared.value.Fault.TheVariants.{Kind, NoChoice}
use Rattle.script_tree.specs.declared.value.Value.{Value}
use Rattle.script_tree.specs.declared.value.Value.TheVariants.{Int, Bool as Truth, Fault as Faulty}
use Rattle.script_tree.specs.Scripts.{Scripted}
use Rattle.script_tree.specs.Eval.{eval_script, eval_body}
use Rattle.signal_graph.specs.declared.node.Selector.{Selector}
use Rattle.signal_graph.specs.declared.node.Node.{Node}
use Rattle.signal_graph.specs.declared.node.Node.TheVariants.{Source, Signal, Fold, Choose}
use Rattle.signal_graph.specs.Graph.{Graph, node_at, inputs_of}

-- the values of all nodes by their numbers, or the state: what the sources and folds keep, elsewhere never read
abbrev pub Values : Type 0
Values = List Value

abbrev pub at : Values → ℕ → Value
at values n = slice_index_or values n (Faulty NoChoice)

abbrev pub candidate : Option ℕ → Result ℕ Fault
candidate None = Err NoChoice
candidate (Some c) = Ok c

-- the candidate that a selector's value selects, counted from 0, or the fault in its place
abbrev pub select : Value → List ℕ → Result ℕ Fault
select (Int (pos i)) candidates = candidate (slice_get candidates i)
select (Int (negsuc i)) candidates = Err NoChoice
select (Truth b) candidates = Err Kind
select (Faulty f) candidates = Err f

-- a script over the values of its inputs
abbrev pub run : Scripted → List ℕ → Values → Value → Value
run script inputs values acc = eval_script script.tree (map (at values) inputs) acc

-- what a selector selects
abbrev pub selected : Values → Selector → Result ℕ Fault
selected values selector = select (run selector.script selector.inputs values (Faulty Kind)) selector.candidates

-- the pick: the selected candidate's value, or the fault
abbrev pub pick_of : Values → Result ℕ Fault → Value
pick_of values (Ok c) = at values c
pick_of values (Err f) = Faulty f

abbrev pub pick : Values → Selector → Value
pick values selector = pick_of values (selected values selector)

abbrev pub first_pick : Values → List Selector → Value
first_pick values [] = Faulty NoChoice
first_pick values (selector ∷ rest) = pick values selector

-- the body's value over the picks, or without a body the pick of the one selector
abbrev pub choose_value : List Selector → Option Scripted → Values → Value
choose_value selectors None values = first_pick values selectors
choose_value selectors (Some body) values = eval_body body.tree (map (pick values) selectors)

-- a node's value, from what is kept for it and the values of the nodes before it
abbrev pub node_value : Node → Value → Values → Value
node_value (Source start) kept earlier = kept
node_value (Fold start script inputs) kept earlier = kept
node_value (Signal script inputs) kept earlier = run script inputs earlier (Faulty Kind)
node_value (Choose selectors body inputs) kept earlier = choose_value selectors body earlier

-- the values of all nodes, in the order of declaration, behind those of earlier ones
abbrev pub values_from : Values → List Node → Values → Values
values_from earlier [] kept = earlier
values_from earlier (node ∷ rest) kept = values_from (earlier ++ node_value node (at kept (length earlier)) earlier ∷ []) rest kept

abbrev pub values : Graph → Values → Values
values graph kept = values_from [] graph.nodes kept

abbrev pub val : Graph → Values → ℕ → Value
val graph kept n = at (values graph kept) n

-- the number that was selected, if one was
abbrev pub taken : Result ℕ Fault → Option ℕ
taken (Ok c) = Some c
taken (Err f) = None

-- the picks of a node as nodes, one item per selector
abbrev pub picks_of : Node → Values → List (Option ℕ)
picks_of (Choose selectors body inputs) all = map (λ selector. taken (selected all selector)) selectors
picks_of node all = []

abbrev pub picks : Graph → Values → ℕ → List (Option ℕ)
picks graph kept n = picks_of (node_at graph n) (values graph kept)

-- the nodes among picks
abbrev pub nodes_in : List (Option ℕ) → List ℕ
nodes_in [] = []
nodes_in (None ∷ rest) = nodes_in rest
nodes_in (Some c ∷ rest) = c ∷ nodes_in rest

-- the nodes that a node's value rests on: its scripts' inputs, and the candidates that are selected
abbrev pub deps : Graph → Values → ℕ → List ℕ
deps graph kept n = inputs_of (node_at graph n) ++ nodes_in (picks graph kept n)

abbrev pub start_value : Node → Value
start_value (Source start) = start
start_value (Fold start script inputs) = start
start_value node = Faulty Kind

-- the start state
abbrev pub start : Graph → Values
start graph = map start_value graph.nodes
