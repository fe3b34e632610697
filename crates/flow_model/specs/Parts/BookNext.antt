-- What comes next for a call, from the book and listings by node, and which listings are read for it.
use Rattle.std.specs.Prelude.{ℕ, List, [], ◌∷◌, ◌++◌, Option, Some, None}
use Rattle.signal_graph.specs.Graph.{Graph, node_at, inputs_of}
use Rattle.flow_model.specs.declared.step.Turn.{Turn}
use Rattle.flow_model.specs.Machine.Sets.{least}
use Rattle.flow_model.specs.Machine.State.{call}
use Rattle.flow_model.specs.Machine.Words.{found_candidates, next_look}
use Rattle.flow_model.specs.Machine.Next.{next_over, next_at_over}
use Rattle.flow_model.specs.Parts.Books.{Book, Listing, bare, prior_in, one_of}

-- the next step of a call: the same points, over the listings and a state with nothing but the book
abbrev pub next_in : Graph → Book → (ℕ → Listing) → ℕ → Turn
next_in graph b lists t = next_over graph (bare b) (λ n. (lists n).entries) (λ n. (lists n).outs) t

-- the next step of a call at a given node
abbrev pub next_at_in : Graph → Book → (ℕ → Listing) → ℕ → ℕ → Turn
next_at_in graph b lists t n = next_at_over graph (bare b) (λ m. (lists m).entries) (λ m. (lists m).outs) t n

-- ---- what is read for it

-- the node, what its scripts name, what is found there and what the call picked before
abbrev pub reads_at : Graph → Book → (ℕ → Listing) → ℕ → ℕ → List ℕ
reads_at graph b lists t n = n ∷ inputs_of (node_at graph n) ++ found_candidates (bare b) n ++ prior_in (lists n) t

abbrev pub reads_open : Graph → Book → (ℕ → Listing) → ℕ → Option ℕ → List ℕ
reads_open graph b lists t None = one_of (next_look (bare b) t)
reads_open graph b lists t (Some n) = reads_at graph b lists t n

abbrev pub reads_first : Option ℕ → List ℕ → List ℕ
reads_first None reads = reads
reads_first (Some n) reads = n ∷ []

-- the nodes whose listings may be read for what comes next: the least wanted one, else those for the least open one, else the next look
abbrev pub reads_of_next : Graph → Book → (ℕ → Listing) → ℕ → List ℕ
reads_of_next graph b lists t =
    reads_first (least (call (bare b) t).wanted) (reads_open graph b lists t (least (call (bare b) t).open_nodes))

-- the same for what comes next at a given node
abbrev pub reads_of_next_at : Graph → Book → (ℕ → Listing) → ℕ → ℕ → List ℕ
reads_of_next_at graph b lists t n = reads_first (least (call (bare b) t).wanted) (reads_at graph b lists t n)
