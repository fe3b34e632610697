-- The two parts of Discover fit together: what the first leaves is what the second asks.
use Rattle.std.proofs.Common.{◌≡◌, ℕ, true, ap, ◌∙◌}
use Rattle.signal_graph.specs.Graph.{Graph}
use Rattle.node_versions.specs.Entries.{Versions}
use Rattle.flow_model.specs.declared.step.Step.TheVariants.{Discover}
use Rattle.flow_model.specs.Machine.State.{Core}
use Rattle.flow_model.specs.Machine.Steps.{allowed}
use Rattle.flow_state.specs.Booked.{Booked}
use Rattle.flow_state.specs.Fitting.{IsBookOf, list_of}
use Rattle.flow_state.specs.Joining.{MakesJoined, IsJoinedOf}

pub joins : (graph : Graph) (s : Core) (t n m : ℕ) (book new : Booked) (list new_list : Versions) → IsBookOf graph s book → list ≡ list_of graph s m → allowed graph s (Discover t n m) ≡ true
    → MakesJoined graph book list t n m new new_list → IsJoinedOf graph s t n m new new_list
joins graph s t n m book new list new_list fits is h made =
    let told = made s fits is h in
    record {
      lawful = fits.lawful;
      allowed = h;
      parts = ap (λ (b : Booked). b.book) told.0;
      room_for = ap (λ (b : Booked). b.room_for) told.0 ∙ fits.room_for;
      is_list = told.1;
    }
