-- What a node rests on before a call, by its picks before.
use Rattle.std.specs.Prelude.{◌≡◌, ℕ, ◌<◌, Bool, true, false, ◌&&◌, not, List, ◌++◌, Option}
use Rattle.std.specs.List.{list_any}
use Rattle.signal_graph.specs.declared.node.Node.{Node}
use Rattle.signal_graph.specs.declared.node.Node.TheVariants.{Source, Signal, Fold, Choose}
use Rattle.signal_graph.specs.Graph.{Graph, node_at, is_in, is_source, inputs_of}
use Rattle.signal_graph.specs.Values.{nodes_in}
use Rattle.flow_model.specs.Machine.State.{opens, changes}
use Rattle.flow_model.specs.Parts.Books.{bare}
use Rattle.flow_state.specs.Booked.{Booked}

-- All numbers of a list are below this one.
abbrev pub AreBelow : ℕ → List ℕ → Type 0
AreBelow count ns = (m : ℕ) → is_in m ns ≡ true → m < count

-- The node is a choose: no other has selectors, so that no other has picks.
abbrev pub is_choose : Node → Bool
is_choose (Source start) = false
is_choose (Signal script inputs) = false
is_choose (Fold start script inputs) = false
is_choose (Choose selectors body inputs) = true

-- The call has one of the nodes open, or has changed one of them.
abbrev pub any_open : Booked → ℕ → List ℕ → Bool
any_open book t ns = list_any (opens (bare book.book) t) ns

abbrev pub any_changed : Booked → ℕ → List ℕ → Bool
any_changed book t ns = list_any (changes (bare book.book) t) ns

-- what a node's scripts name, and what was picked
abbrev pub rests_on : Graph → ℕ → List (Option ℕ) → List ℕ
rests_on graph n picks = inputs_of (node_at graph n) ++ nodes_in picks

-- The call has changed something of that, at a node that is no source.
abbrev pub is_touched : Graph → Booked → ℕ → ℕ → List (Option ℕ) → Bool
is_touched graph book t n picks = not (is_source (node_at graph n)) && any_changed book t (rests_on graph n picks)
