-- What a step names: a call, and nodes.
use Rattle.std.specs.Prelude.{ℕ, Bool, true, ◌&&◌, nat_lt, List, [], ◌∷◌, length, Option, Some, None}
use Rattle.std.specs.List.{list_all}
use Rattle.signal_graph.specs.Graph.{Graph}
use Rattle.flow_model.specs.declared.step.Step.{Step}
use Rattle.flow_model.specs.declared.step.Step.TheVariants.{Frame, Start, Skip, Gather, Evaluate, Body, Resolve}
use Rattle.flow_model.specs.declared.step.Step.TheVariants.{Discover, Drop, Mark, Look, End, Collect}
use Rattle.flow_model.specs.Machine.Keys.{version_of_step}
use Rattle.flow_state.specs.Booked.{Booked, live_in}

-- the nodes that a step names
abbrev pub nodes_of_step : Step → List ℕ
nodes_of_step (Frame t n) = n ∷ []
nodes_of_step (Start t) = []
nodes_of_step (Skip t n) = n ∷ []
nodes_of_step (Gather t n m) = n ∷ m ∷ []
nodes_of_step (Evaluate t n) = n ∷ []
nodes_of_step (Body t n) = n ∷ []
nodes_of_step (Resolve t n) = n ∷ []
nodes_of_step (Discover t n c) = n ∷ c ∷ []
nodes_of_step (Drop t n o) = n ∷ o ∷ []
nodes_of_step (Mark t m) = m ∷ []
nodes_of_step (Look t) = []
nodes_of_step (End t) = []
nodes_of_step (Collect n) = n ∷ []

-- A version, where there is one, is of a live call.
abbrev pub is_of_live : Booked → Option ℕ → Bool
is_of_live book None = true
is_of_live book (Some t) = live_in book t

-- All nodes of a list are the graph's.
abbrev pub are_nodes : Graph → List ℕ → Bool
are_nodes graph ns = list_all (λ n. nat_lt n (length graph.nodes)) ns

-- The step's call is live, and its nodes are the graph's.
abbrev pub is_known : Graph → Booked → Step → Bool
is_known graph book step = is_of_live book (version_of_step step) && are_nodes graph (nodes_of_step step)
