-- What a mark asks and makes.
use Rattle.std.proofs.Common.{◌≡◌, ℕ, ◌<◌, true, length, subst}
use Rattle.script_tree.proofs.Truths.{and_left, and_right}
use Rattle.signal_graph.specs.Graph.{Graph}
use Rattle.node_versions.specs.declared.entry.State.TheVariants as state
use Rattle.node_versions.specs.Entries.{Versions}
use Rattle.flow_model.specs.declared.step.Step.TheVariants.{Mark}
use Rattle.flow_model.specs.Machine.State.{Core}
use Rattle.flow_model.specs.Machine.Steps.{allowed}
use Rattle.flow_model.proofs.OneStep.WhoMayStep.{mark-executes, mark-no_entry, executes-live}
use Rattle.flow_state.specs.Booked.{Booked}
use Rattle.flow_state.specs.Fitting.{IsBookOf, IsListStep, MakesList, list_of}
use Rattle.flow_state.proofs.OneCell.{cell-inside}
use Rattle.entering.specs.Entering.{CanEnter, SomeCanEnter, Enters}

mark_can : (graph : Graph) (s : Core) (book : Booked) (n : ℕ) (list : Versions) (t : ℕ) → 0 < length list.entries → IsBookOf graph s book → list ≡ list_of graph s n → allowed graph s (Mark t n) ≡ true → CanEnter graph s book n list t
mark_can graph s book n list t some fits is h = record {
  fits = fits;
  is_list = is;
  node = cell-inside s.cells n (subst (λ (l : Versions). 0 < length l.entries) is some);
  is_live = executes-live s t (mark-executes graph s t n h);
  no_entry = mark-no_entry graph s t n h;
  room = and_right _ _ (and_left _ _ h);
}

pub mark-can : (book : Booked) (n : ℕ) (list : Versions) (t : ℕ) → 0 < length list.entries → (graph : Graph) × IsListStep graph book n list (Mark t n) → SomeCanEnter book n list t
mark-can book n list t some h = record { graph = h.0; state = h.1.state; can = mark_can h.0 h.1.state book n list t some h.1.fits h.1.is_list h.1.allowed }

pub mark-makes : (book new : Booked) (n : ℕ) (list new_list : Versions) (t : ℕ) → 0 < length list.entries → Enters book n list t state.Mark new new_list → (graph : Graph) → MakesList graph book n list (Mark t n) new new_list
mark-makes book new n list new_list t some enters graph s fits is h = enters graph s (mark_can graph s book n list t some fits is h)
