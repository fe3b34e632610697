-- The one-thread machine: what a call changes, and what it answers. It keeps the sources' and folds' values alone and
-- finds all others again.
use Rattle.std.specs.Prelude.{◌≡◌, ℕ, ◌+◌, ◌<◌, Bool, true, false, not, ◌&&◌, ◌||◌, ◌==◌, nat_lt, if◌then◌else◌}
use Rattle.std.specs.Prelude.{List, [], ◌∷◌, ◌++◌, length, map, filter, slice_set, Option, Some, None}
use Rattle.std.specs.List.{list_any, list_all}
use Rattle.std.specs.Ordering.{int_eq}
use Rattle.script_tree.specs.declared.value.Fault.{Fault}
use Rattle.script_tree.specs.declared.value.Fault.TheVariants.{Overflow, ZeroDivisor, Kind, NoChoice}
use Rattle.script_tree.specs.declared.value.Value.{Value}
use Rattle.script_tree.specs.declared.value.Value.TheVariants.{Int, Bool as Truth, Fault as Faulty}
use Rattle.script_tree.specs.Scripts.{Scripted}
use Rattle.script_tree.specs.Eval.{same_truth}
use Rattle.signal_graph.specs.declared.node.Node.{Node}
use Rattle.signal_graph.specs.declared.node.Node.TheVariants.{Fold}
use Rattle.signal_graph.specs.declared.call.Call.{Call}
use Rattle.signal_graph.specs.declared.call.Call.TheVariants.{Fire, Read}
use Rattle.signal_graph.specs.declared.call.Reply.{Reply}
use Rattle.signal_graph.specs.declared.call.Reply.TheVariants.{Fire as Fired, Read as Seen}
use Rattle.signal_graph.specs.Graph.{Graph, node_at, number_of, numbers, is_in, is_source}
use Rattle.signal_graph.specs.Values.{Values, at, run, values, val, deps}

abbrev pub same_fault : Fault → Fault → Bool
same_fault Overflow Overflow = true
same_fault ZeroDivisor ZeroDivisor = true
same_fault Kind Kind = true
same_fault NoChoice NoChoice = true
same_fault f g = false

-- equal values; a fault is equal to one of its kind
abbrev pub same : Value → Value → Bool
same (Int x) (Int y) = int_eq x y
same (Truth a) (Truth b) = same_truth a b
same (Faulty f) (Faulty g) = same_fault f g
same u v = false

abbrev pub differs : Values → Values → ℕ → Bool
differs before now n = not (same (at before n) (at now n))

-- what a call sets, and what it looks at
abbrev pub sets_of : Call → List (List ℕ × Value)
sets_of (Fire sets looks) = sets
sets_of (Read looks) = []

abbrev pub looks_of : Call → List (List ℕ)
looks_of (Fire sets looks) = looks
looks_of (Read looks) = looks

-- what was seen at them
abbrev pub looks_of_reply : Reply → List Value
looks_of_reply (Fired changed evaluated looks) = looks
looks_of_reply (Seen looks) = looks

abbrev pub names_node : Graph → List ℕ → Bool
names_node graph name = nat_lt (number_of graph name) (length graph.nodes)

abbrev pub names_source : Graph → List ℕ → Bool
names_source graph name = names_node graph name && is_source (node_at graph (number_of graph name))

-- the names of a call in their order, each with whether it names what it has to: a source in a set, a node in a look
abbrev pub names_right : Graph → Call → List Bool
names_right graph call = map (λ (s : List ℕ × Value). names_source graph s.0) (sets_of call) ++ map (names_node graph) (looks_of call)

-- the place of the first name that doesn't, counted from n
abbrev pub first_wrong : ℕ → List Bool → Option ℕ
first_wrong n [] = None
first_wrong n (true ∷ rest) = first_wrong (n + 1) rest
first_wrong n (false ∷ rest) = Some n

-- the place of the first name at fault, counted from 1
abbrev pub misnamed : Graph → Call → Option ℕ
misnamed graph call = first_wrong 1 (names_right graph call)

-- the sets of a fire, one after the other
abbrev pub with_sets : Graph → Values → List (List ℕ × Value) → Values
with_sets graph kept [] = kept
with_sets graph kept (s ∷ sets) = with_sets graph (slice_set kept (number_of graph s.0) s.1) sets

-- one fold's step, where an input's value isn't what it was; `acc` is its old value
abbrev pub fold_step : Graph → Values → Values → ℕ → Node → Values
fold_step graph before kept n (Fold start script inputs) =
    let now = values graph kept in
    if list_any (differs before now) inputs then slice_set kept n (run script inputs now (at before n)) else kept
fold_step graph before kept n node = kept

-- the steps of all folds, in the order of declaration, each in the state that the one before left
abbrev pub fold_steps : Graph → Values → Values → ℕ → List Node → Values
fold_steps graph before kept n [] = kept
fold_steps graph before kept n (node ∷ rest) = fold_steps graph before (fold_step graph before kept n node) (n + 1) rest

-- the state after a call
abbrev pub after : Graph → Values → Call → Values
after graph kept (Fire sets looks) = fold_steps graph (values graph kept) (with_sets graph kept sets) 0 graph.nodes
after graph kept (Read looks) = kept

-- the nodes whose values differ
abbrev pub changed : Graph → Values → Values → List ℕ
changed graph kept next = filter (differs (values graph kept) (values graph next)) (numbers graph)

-- the nodes that are no source and have a changed node among their dependencies before the call
abbrev pub evaluated : Graph → Values → Values → List ℕ
evaluated graph kept next =
    let moved = changed graph kept next in
    filter (λ n. not (is_source (node_at graph n)) && list_any (λ d. is_in d moved) (deps graph kept n)) (numbers graph)

-- the values of the nodes with these names
abbrev pub looked : Graph → Values → List (List ℕ) → List Value
looked graph kept looks = map (λ name. val graph kept (number_of graph name)) looks

-- the answer of a call
abbrev pub reply : Graph → Values → Call → Reply
reply graph kept (Fire sets looks) =
    let next = after graph kept (Fire sets looks) in
    Fired (length (changed graph kept next)) (length (evaluated graph kept next)) (looked graph next looks)
reply graph kept (Read looks) = Seen (looked graph kept looks)
