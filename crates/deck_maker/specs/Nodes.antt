-- The workload node by node. That these are its declarations is a law.
use Rattle.std.specs.Prelude.{ℕ, zero, suc, ◌+◌, ◌-◌, ◌*◌, ◌%◌, nat_lt, if◌then◌else◌, List, [], ◌∷◌}
use Rattle.signal_graph.specs.declared.builder.DeclKind.{DeclKind}
use Rattle.separate_decks.specs.Draws.{skip, draw}
use Rattle.separate_decks.specs.Workload.{name_of, source, fold, signal, choose}

-- a choose that draws among m nodes
abbrev pub choose_among : ℕ → ℕ → DeclKind
choose_among m x = choose (draw x 1 m) (draw x 2 m ∷ (draw x 3 m ∷ (draw x 4 m ∷ (draw x 5 m ∷ []))))

-- the node m behind the sources and folds is the last of its row
abbrev pub kind_in_row : ℕ → ℕ → DeclKind
kind_in_row m x = if nat_lt ((m - 72) % 6) 5 then signal (draw x 1 m) (draw x 2 m) (draw x 3 3) else choose_among m x

-- what the node with a number is declared as, by draws from a state
unfoldable pub kind_at : ℕ → ℕ → DeclKind
kind_at m x =
    if nat_lt m 64 then source (draw x 1 100)
    else if nat_lt m 72 then fold (8 * (m - 64) + draw x 1 8) (8 * (m - 64) + draw x 2 8)
    else kind_in_row m x

-- how many draws it takes
unfoldable pub draws_at : ℕ → ℕ
draws_at m = if nat_lt m 64 then 1 else if nat_lt m 72 then 2 else if nat_lt ((m - 72) % 6) 5 then 3 else 5

-- so many nodes from the number m on, and the state behind them
unfoldable pub nodes_from : ℕ → ℕ → ℕ → List (List ℕ × DeclKind)
nodes_from zero m x = []
nodes_from (suc n) m x = (name_of m, kind_at m x) ∷ nodes_from n (m + 1) (skip (draws_at m) x)

unfoldable pub state_behind : ℕ → ℕ → ℕ → ℕ
state_behind zero m x = x
state_behind (suc n) m x = state_behind n (m + 1) (skip (draws_at m) x)
