-- What is worked out at the nodes: a shelf for each, and one block in which all gathered values lie.
use Rattle.std.specs.Prelude.{◌≡◌, ℕ, ◌+◌, ◌^◌, ◌<◌, ◌≤◌, List, [], ◌∷◌, length, map, None, slice_index_or}
use Rattle.std.specs.List.{AllByRecursion, between}
use Rattle.script_tree.specs.declared.value.Value.{Value}
use Rattle.signal_graph.specs.Graph.{Graph, numbers}
use Rattle.flow_model.specs.Machine.Lists.{change_at}
use Rattle.flow_model.specs.Parts.Books.{Work, no_work}
use Rattle.flow_state.specs.Booked.{AreApart, rooms_for}
use Rattle.flow_state.specs.Found.{found_option}
use Rattle.flow_state.specs.declared.shelf.Shelf.{Shelf}

-- what contracts see in `Shelves`: the work at each node, and for how many gathered values each has room
pub record Shelved : Type 0 where
  pub works : List Work
  pub room_for : List ℕ

abbrev pub work_on : Shelved → ℕ → Work
work_on shelved n = slice_index_or shelved.works n no_work

-- a change of the work at one node
abbrev pub on_shelf : Shelved → ℕ → (Work → Work) → Shelved
on_shelf shelved n f = record shelved { works = change_at n f shelved.works }

-- nothing is worked out yet
abbrev pub empty_shelves : Graph → Shelved
empty_shelves graph = record { works = map (λ n. no_work) (numbers graph); room_for = rooms_for graph }

-- ---- how they are kept

-- the gathered values of a shelf
abbrev pub gathered_on : List (ℕ × Value) → Shelf → List (ℕ × Value)
gathered_on block shelf = between shelf.start (shelf.start + shelf.count) block

-- the work on it
abbrev pub work_in : List (ℕ × Value) → Shelf → Work
work_in block shelf = record { gathered = gathered_on block shelf; found = found_option shelf.found; body = shelf.body }

-- what is seen of them
abbrev pub shelved : List (ℕ × Value) → List Shelf → Shelved
shelved block shelves = record { works = map (work_in block) shelves; room_for = map (λ (s : Shelf). s.room) shelves }

-- From one place up to another each shelf has as many places as it has room for, one shelf behind the other, and uses no more.
abbrev pub AreLaid : ℕ → List Shelf → ℕ → Type 0
AreLaid from [] end = from ≡ end
AreLaid from (s ∷ ss) end = (s.start ≡ from) × (s.count ≤ s.room) × AreLaid (from + s.room) ss end

-- empty shelves with room for so many values each, one behind the other from a place on
abbrev pub laid_out : ℕ → List ℕ → List Shelf
laid_out from [] = []
laid_out from (r ∷ rs) = record { start = from; count = 0; room = r; found = None; body = None } ∷ laid_out (from + r) rs

-- The shelves share the whole block, whose places can be numbered, and no two values on one shelf are of one node.
pub record AreShelves (block : List (ℕ × Value)) (shelves : List Shelf) : Type 0 where
  pub laid : AreLaid 0 shelves (length block)
  pub few : length block < 2 ^ 32
  pub apart : AllByRecursion (λ (w : Work). AreApart w.gathered) (map (work_in block) shelves)
