-- What a seat says of its call is what the book says.
use Rattle.std.proofs.Common.{◌≡◌, ℕ, List, length, ap}
use Rattle.std.specs.Prelude.{slice_get}
use Rattle.std.specs.List.{list_any}
use Rattle.signal_graph.specs.Graph.{is_in}
use Rattle.flow_model.specs.Machine.Sets.{least}
use Rattle.flow_model.specs.Machine.State.{LiveCall, opens, changes}
use Rattle.flow_model.specs.Parts.Books.{bare}
use Rattle.flow_state.specs.Booked.{Booked, call_in, next_look_in}
use Rattle.flow_state.specs.Seats.{Seated}
use Rattle.step_rules.specs.Fits.{IsSeatOf}

module _ (book : Booked) (t : ℕ) (seat : Seated) (is : IsSeatOf book t seat) where
  pub seat-wanted : least seat.call.wanted ≡ least (call_in book t).wanted
  seat-wanted = ap (λ (c : LiveCall). least c.wanted) is.call

  pub seat-open : least seat.call.open_nodes ≡ least (call_in book t).open_nodes
  seat-open = ap (λ (c : LiveCall). least c.open_nodes) is.call

  pub seat-look : slice_get seat.call.looks (length seat.call.looked) ≡ next_look_in book t
  seat-look = ap (λ (c : LiveCall). slice_get c.looks (length c.looked)) is.call

  pub seat-opens : (n : ℕ) → is_in n seat.call.open_nodes ≡ opens (bare book.book) t n
  seat-opens n = ap (λ (c : LiveCall). is_in n c.open_nodes) is.call

  pub seat-changed : (ns : List ℕ) → list_any (λ n. is_in n seat.call.changed) ns ≡ list_any (changes (bare book.book) t) ns
  seat-changed ns = ap (λ (c : LiveCall). list_any (λ n. is_in n c.changed) ns) is.call
