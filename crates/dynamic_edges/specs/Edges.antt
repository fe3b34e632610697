-- The out-edge of a choose node.
use Rattle.std.specs.Prelude.{ℕ, ◌==◌, true, false, List, [], ◌∷◌, Option, Some, None}
use Rattle.node_versions.specs.Entries.{OutEdge}

-- the since of the first out-edge of a node
abbrev pub first_since : ℕ → List OutEdge → Option ℕ
first_since n [] = None
first_since n (edge ∷ edges) = elim (edge.0 == n) [ true ↦ Some edge.1 | false ↦ first_since n edges ]
