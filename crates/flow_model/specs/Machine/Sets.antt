-- Sets of nodes, as ascending lists.
use Rattle.std.specs.Prelude.{ℕ, true, false, ◌==◌, nat_lt, ◌<◌, List, [], ◌∷◌, Option, Some, None}
use Rattle.std.specs.List.{AllByRecursion}
use Rattle.signal_graph.specs.Graph.{is_in}

-- the set with one node more
abbrev pub put : ℕ → List ℕ → List ℕ
put n [] = n ∷ []
put n (x ∷ xs) = elim (x == n) [ true ↦ x ∷ xs | false ↦ elim (nat_lt n x) [ true ↦ n ∷ x ∷ xs | false ↦ x ∷ put n xs ] ]

-- the set with all nodes of a list
abbrev pub put_all : List ℕ → List ℕ → List ℕ
put_all [] xs = xs
put_all (n ∷ ns) xs = put_all ns (put n xs)

-- the set without a node
abbrev pub take_out : ℕ → List ℕ → List ℕ
take_out n [] = []
take_out n (x ∷ xs) = elim (x == n) [ true ↦ take_out n xs | false ↦ x ∷ take_out n xs ]

-- the nodes of a list that are not in a set
abbrev pub without : List ℕ → List ℕ → List ℕ
without [] xs = []
without (n ∷ ns) xs = elim (is_in n xs) [ true ↦ without ns xs | false ↦ n ∷ without ns xs ]

-- the least node of a set
abbrev pub least : List ℕ → Option ℕ
least [] = None
least (x ∷ xs) = Some x

-- Each node of the list is less than all behind it.
abbrev pub IsSet : List ℕ → Type 0
IsSet [] = Unit {0}
IsSet (x ∷ xs) = AllByRecursion (λ y. x < y) xs × IsSet xs
