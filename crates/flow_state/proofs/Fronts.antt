-- A node at the front for a call: what a list may be asked there, and what it is after the call has finished.
use Rattle.std.proofs.Common.{◌≡◌, ℕ, ◌<◌, ◌+◌, true, length, sym, ap, ◌∙◌, subst}
use Rattle.std.specs.Option.{IsSome}
use Rattle.signal_graph.specs.Graph.{Graph}
use Rattle.node_versions.specs.declared.entry.State.{State}
use Rattle.node_versions.specs.Entries.{Versions, is_frame, has, at, before, last_done, with_state, with_entries}
use Rattle.flow_model.specs.Machine.State.{Core, Cell, entries, live, with_cell}
use Rattle.flow_model.specs.Machine.Words.{at_front}
use Rattle.flow_model.specs.Machine.Changes.{set_state}
use Rattle.flow_model.proofs.OneStep.WhoMayStep.{at_front-heads, at_front-executes, executes-live}
use Rattle.flow_model.proofs.OrderStays.OpenNodesHaveFrames.{cell-there, entry-there}
use Rattle.flow_state.specs.Booked.{Booked, live_in, node_count}
use Rattle.flow_state.specs.Fitting.{IsBookOf, list_of, choosers}
use Rattle.flow_state.proofs.Fits.{fits_live, fits_node, lawful_before, heads_frame, heads_has}

-- The node is at the front for the call, in a state that fits.
pub record IsFront (graph : Graph) (s : Core) (book : Booked) (n : ℕ) (list : Versions) (t : ℕ) : Type 0 where
  pub fits : IsBookOf graph s book
  pub is_list : list ≡ list_of graph s n
  pub front : at_front graph s t n ≡ true

front_live : (graph : Graph) (s : Core) (book : Booked) (n : ℕ) (list : Versions) (t : ℕ) → IsFront graph s book n list t → live s t ≡ true
front_live graph s book n list t h = executes-live s t (at_front-executes graph s t n h.front)

front_has : (graph : Graph) (s : Core) (book : Booked) (n : ℕ) (list : Versions) (t : ℕ) → IsFront graph s book n list t → has (entries s n) t ≡ true
front_has graph s book n list t h = heads_has graph s n t h.fits.lawful (at_front-heads graph s t n h.front)

pub front_inside : (graph : Graph) (s : Core) (book : Booked) (n : ℕ) (list : Versions) (t : ℕ) → IsFront graph s book n list t → n < length s.cells
front_inside graph s book n list t h = entry-there s n t (front_has graph s book n list t h)

pub front-live : (graph : Graph) (s : Core) (book : Booked) (n : ℕ) (list : Versions) (t : ℕ) → IsFront graph s book n list t → live_in book t ≡ true
front-live graph s book n list t h = fits_live graph s book t h.fits (front_live graph s book n list t h)

pub front-node : (graph : Graph) (s : Core) (book : Booked) (n : ℕ) (list : Versions) (t : ℕ) → IsFront graph s book n list t → n < node_count book
front-node graph s book n list t h = fits_node graph s book n h.fits (front_inside graph s book n list t h)

pub front-has : (graph : Graph) (s : Core) (book : Booked) (n : ℕ) (list : Versions) (t : ℕ) → IsFront graph s book n list t → has list.entries t ≡ true
front-has graph s book n list t h = ap (λ (l : Versions). has l.entries t) h.is_list ∙ front_has graph s book n list t h

pub front-frame : (graph : Graph) (s : Core) (book : Booked) (n : ℕ) (list : Versions) (t : ℕ) → IsFront graph s book n list t → at is_frame list.entries t ≡ true
front-frame graph s book n list t h = ap (λ (l : Versions). at is_frame l.entries t) h.is_list ∙ heads_frame graph s n t h.fits.lawful (at_front-heads graph s t n h.front)

pub front-done : (graph : Graph) (s : Core) (book : Booked) (n : ℕ) (list : Versions) (t : ℕ) → IsFront graph s book n list t → IsSome (last_done (before list.entries t))
front-done graph s book n list t h = subst (λ (l : Versions). IsSome (last_done (before l.entries t))) (sym h.is_list) (lawful_before graph s n t h.fits.lawful (front_live graph s book n list t h) (front_has graph s book n list t h))

-- ---- what is made

-- a list's cell
abbrev pub cell_list : Graph → Core → ℕ → Cell → Versions
cell_list graph s n c = record { entries = c.entries; outs = c.outs; room = s.callers + 9; outs_room = choosers graph n }

pub finished_list : (graph : Graph) (s : Core) (n t : ℕ) (state : State) → n < length s.cells → with_entries (list_of graph s n) (with_state t state (entries s n)) ≡ list_of graph (with_cell s n (set_state t state)) n
finished_list graph s n t state h = ap (cell_list graph s n) (sym (cell-there s n (set_state t state) h))
