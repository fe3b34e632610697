-- What a core begins with: the list of each node, with the out-edges of the nodes that pick it at the start.
use Rattle.std.specs.Prelude.{◌≡◌, ℕ, ◌<◌, ◌==◌, Bool, true, false, ◌&&◌, not, List, [], ◌∷◌, length, take, Option, Some, slice_get}
use Rattle.signal_graph.specs.Graph.{Graph, is_in}
use Rattle.signal_graph.specs.Values.{nodes_in, val, picks, start}
use Rattle.node_versions.specs.Entries.{Versions, opened, has_out, with_out, with_outs}
use Rattle.flow_model.specs.Machine.State.{opening, start_entry, start_outs}
use Rattle.flow_model.specs.Machine.Words.{list_room}
use Rattle.flow_state.specs.Fitting.{choosers}
use Rattle.step_rules.specs.Sights.{list_at}
use Rattle.interleave_core.specs.Whole.{Whole}

-- a core before any call
abbrev pub opened_core : Graph → ℕ → ℕ → Whole
opened_core graph callers limit = record { graph = graph; state = opening graph callers limit; rooms = 0 }

-- the list of a node before any call
abbrev pub start_list : Graph → ℕ → ℕ → Versions
start_list graph callers n = record {
  entries = start_entry graph n ∷ [];
  outs = start_outs graph n;
  room = list_room callers;
  outs_room = choosers graph n;
}

-- the same without out-edges
abbrev pub bare_list : Graph → ℕ → ℕ → Versions
bare_list graph callers n = opened (list_room callers) (choosers graph n) (val graph (start graph) n) (picks graph (start graph) n)

-- the list with an out-edge to n, where the test is passed
abbrev pub gained : ℕ → Bool → Versions → Versions
gained n true list = with_outs list (with_out list.outs n 0)
gained n false list = list

-- The lists of the nodes that pass the test gain an out-edge to n, and no other list changes.
pub record GainsEdges (n : ℕ) (test : ℕ → Bool) (lists new : List Versions) : Type 0 where
  pub size : length new ≡ length lists
  pub each : (m : ℕ) → m < length lists → list_at new m ≡ gained n (test m) (list_at lists m)

-- The list of m is there, has no such edge, and has room for one.
pub record CanGain (lists : List Versions) (n m : ℕ) : Type 0 where
  pub there : m < length lists
  pub new_edge : has_out (list_at lists m).outs n 0 ≡ false
  pub room : length (list_at lists m).outs < (list_at lists m).outs_room

-- So it is of all that are picked.
abbrev pub CanGainAll : List Versions → ℕ → List (Option ℕ) → Type 0
CanGainAll lists n picks = (m : ℕ) → is_in m (nodes_in picks) ≡ true → CanGain lists n m

-- the node is picked at the index, and not before it
abbrev pub is_at : Option (Option ℕ) → ℕ → Bool
is_at (Some (Some c)) m = c == m
is_at other m = false

abbrev pub is_new_pick : List (Option ℕ) → ℕ → ℕ → Bool
is_new_pick picks i m = is_at (slice_get picks i) m && not (is_in m (nodes_in (take i picks)))

-- So it is of the one that is picked at the index and not before it, if there is one.
abbrev pub CanGainNew : List Versions → ℕ → List (Option ℕ) → ℕ → Type 0
CanGainNew lists n picks i = (m : ℕ) → is_new_pick picks i m ≡ true → CanGain lists n m
