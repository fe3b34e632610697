-- After each step each pair of the recorded order names a node of the graph.
use Rattle.std.proofs.Common.{◌≡◌, ℕ, ◌<◌, Bool, true, false, not, ◌||◌, ◌==◌, refl, List, [], ◌∷◌, ◌++◌, length, if◌then◌else◌, Option, Some, None}
use Rattle.std.specs.List.{AllByRecursion}
use Rattle.signal_graph.specs.Graph.{Graph, IsGraph}
use Rattle.order_graph.specs.declared.pair.Pair.{Pair}
use Rattle.order_graph.specs.Order.{is_recorded, linked, retired}
use Rattle.node_versions.specs.declared.entry.State.TheVariants.{Mark, Frame}
use Rattle.node_versions.specs.Entries.{has, at, is_mark}
use Rattle.flow_model.specs.declared.step.Step.{Step}
use Rattle.flow_model.specs.declared.step.Step.TheVariants as steps
use Rattle.flow_model.specs.Machine.State.{Core, live, entries}
use Rattle.flow_model.specs.Machine.Changes.{enter, raise, ensure_mark, link_left, link_right, linked_at}
use Rattle.flow_model.specs.Machine.Steps.{allowed, apply, open_node, frame}
use Rattle.flow_model.specs.Kept.Lawful.{IsLawful, PairsNameNodes}
use Rattle.flow_model.proofs.Books.StepsChangeOneListing.{changed-node}

abbrev Names : ℕ → List Pair → Type 0
Names count pairs = AllByRecursion (λ (p : Pair). p.node < count) pairs

linked-names : (count a b n : ℕ) (pairs : List Pair) → n < count → Names count pairs → Names count (linked pairs a b n)
linked-names count a b n pairs k h = go (is_recorded pairs a b)
  where
    last : (ps : List Pair) → Names count ps → Names count (ps ++ record { from = a; to = b; node = n } ∷ [])
    last [] h = (k, tt)
    last (p ∷ ps) h = (h.0, last ps h.1)

    go : (x : Bool) → Names count (if x then pairs else (pairs ++ record { from = a; to = b; node = n } ∷ []))
    go true = h
    go false = last pairs h

left-names : (count : ℕ) (s : Core) (t m : ℕ) (o : Option ℕ) (pairs : List Pair) → m < count → Names count pairs → Names count (link_left s t m o pairs)
left-names count s t m None pairs k h = h
left-names count s t m (Some u) pairs k h = go (live s u)
  where
    go : (b : Bool) → Names count (elim b as (λ _. List Pair) [ true ↦ linked pairs u t m | false ↦ pairs ])
    go true = linked-names count u t m pairs k h
    go false = h

right-names : (count : ℕ) (s : Core) (t m : ℕ) (o : Option ℕ) (pairs : List Pair) → m < count → Names count pairs → Names count (link_right s t m o pairs)
right-names count s t m None pairs k h = h
right-names count s t m (Some u) pairs k h = go (live s u)
  where
    go : (b : Bool) → Names count (elim b as (λ _. List Pair) [ true ↦ linked pairs t u m | false ↦ pairs ])
    go true = linked-names count t u m pairs k h
    go false = h

entered-names : (count : ℕ) (s : Core) (t m : ℕ) → m < count → Names count s.pairs → Names count (linked_at s t m)
entered-names count s t m k h = right-names count s t m _ (link_left s t m _ s.pairs) k (left-names count s t m _ s.pairs k h)

retired-names : (count t : ℕ) (pairs : List Pair) → Names count pairs → Names count (retired pairs t)
retired-names count t [] h = tt
retired-names count t (p ∷ pairs) h = go (not ((p.from == t) || (p.to == t))) (retired-names count t pairs h.1)
  where
    go : (b : Bool) → Names count (retired pairs t) → Names count (if b then p ∷ retired pairs t else retired pairs t)
    go true r = (h.0, r)
    go false r = r

framed-names : (graph : Graph) (s : Core) (t n : ℕ) → n < length graph.nodes → PairsNameNodes graph s → PairsNameNodes graph (frame graph s t n)
framed-names graph s t n k h = go (at is_mark (entries s n) t)
  where
    go : (b : Bool) → PairsNameNodes graph (elim b as (λ _. Core) [ true ↦ open_node graph (raise s t n) t n | false ↦ open_node graph (enter s t n Frame) t n ])
    go true = h
    go false = entered-names (length graph.nodes) s t n k h

ensured-names : (graph : Graph) (s : Core) (t m : ℕ) → m < length graph.nodes → PairsNameNodes graph s → PairsNameNodes graph (ensure_mark s t m)
ensured-names graph s t m k h = go (has (entries s m) t)
  where
    go : (b : Bool) → PairsNameNodes graph (elim b as (λ _. Core) [ true ↦ s | false ↦ enter s t m Mark ])
    go true = h
    go false = entered-names (length graph.nodes) s t m k h

pub step-PairsNameNodes : (graph : Graph) → IsGraph graph → (s : Core) (step : Step) → IsLawful graph s → allowed graph s step ≡ true → PairsNameNodes graph (apply graph s step)
step-PairsNameNodes graph g s (steps.Frame t n) h a = framed-names graph s t n (changed-node graph g s h (steps.Frame t n) a n refl) h.pairs_name_nodes
step-PairsNameNodes graph g s (steps.Start t) h a = h.pairs_name_nodes
step-PairsNameNodes graph g s (steps.Skip t n) h a = h.pairs_name_nodes
step-PairsNameNodes graph g s (steps.Gather t n m) h a = h.pairs_name_nodes
step-PairsNameNodes graph g s (steps.Evaluate t n) h a = h.pairs_name_nodes
step-PairsNameNodes graph g s (steps.Body t n) h a = h.pairs_name_nodes
step-PairsNameNodes graph g s (steps.Resolve t n) h a = h.pairs_name_nodes
step-PairsNameNodes graph g s (steps.Discover t n c) h a = ensured-names graph s t c (changed-node graph g s h (steps.Discover t n c) a c refl) h.pairs_name_nodes
step-PairsNameNodes graph g s (steps.Drop t n o) h a = ensured-names graph s t o (changed-node graph g s h (steps.Drop t n o) a o refl) h.pairs_name_nodes
step-PairsNameNodes graph g s (steps.Mark t m) h a = entered-names (length graph.nodes) s t m (changed-node graph g s h (steps.Mark t m) a m refl) h.pairs_name_nodes
step-PairsNameNodes graph g s (steps.Look t) h a = h.pairs_name_nodes
step-PairsNameNodes graph g s (steps.End t) h a = retired-names (length graph.nodes) t s.pairs h.pairs_name_nodes
step-PairsNameNodes graph g s (steps.Collect n) h a = h.pairs_name_nodes
