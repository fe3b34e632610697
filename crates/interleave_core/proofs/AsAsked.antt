-- The core's lists as those that the rules ask.
use Rattle.std.proofs.Common.{◌≡◌, ℕ, zero, suc, ◌<◌, List, [], ◌∷◌, length, get_or, refl, arith}
use Rattle.std.specs.Prelude.{slice_index_or}
use Rattle.signal_graph.specs.Graph.{Graph}
use Rattle.node_versions.specs.Entries.{Versions}
use Rattle.flow_state.specs.Booked.{Booked}
use Rattle.step_rules.specs.Sights.{list_at}
use Rattle.step_rules.specs.Fits as rules
use Rattle.interleave_core.specs.Whole.{state_of, IsWhole}
use Rattle.interleave_core.proofs.Fits.{fits, list_fits, all_nodes}

at-get : (ls : List Versions) (n : ℕ) (other : Versions) → n < length ls → slice_index_or ls n other ≡ get_or ls n (slice_index_or ls n other)
at-get [] n other h = absurd (omega (arith, h))
at-get (l ∷ ls) zero other h = refl
at-get (l ∷ ls) (suc n) other h = at-get ls n other (omega (arith, h))

pub whole_of_lists : (graph : Graph) (book : Booked) (lists : List Versions) → IsWhole graph book lists
    → rules.IsWholeOf graph (state_of book.book lists) book (list_at lists) (length lists)
whole_of_lists graph book lists kept = record {
  fits = fits graph book lists kept;
  many = all_nodes graph book lists kept;
  each = λ n h. list_fits graph book lists n (list_at lists n) kept h (at-get lists n _ h);
}

pub some_whole : (graph : Graph) (book : Booked) (lists : List Versions) → IsWhole graph book lists
    → rules.IsWhole graph book (list_at lists) (length lists)
some_whole graph book lists kept = record { state = state_of book.book lists; whole = whole_of_lists graph book lists kept }
