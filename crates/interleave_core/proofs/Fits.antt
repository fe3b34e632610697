-- The state of a book and its lists fits them.
use Rattle.std.proofs.Common.{◌≡◌, ℕ, zero, suc, ◌+◌, ◌<◌, List, [], ◌∷◌, length, map, get_or, refl, sym, ap, ◌∙◌, arith}
use Rattle.std.specs.Prelude.{slice_index_or}
use Rattle.signal_graph.specs.Graph.{Graph}
use Rattle.node_versions.specs.Entries.{Versions}
use Rattle.flow_model.specs.Machine.State.{Cell, no_cell}
use Rattle.flow_model.specs.Parts.Books.{Work, work_in}
use Rattle.flow_state.specs.Booked.{Booked}
use Rattle.flow_state.specs.Fitting.{IsBookOf, list_of, choosers}
use Rattle.interleave_core.specs.Whole.{cells_of, state_of, HaveRooms, IsWhole}

-- ---- a state, its book and its lists

pub works-back : (ws : List Work) (ls : List Versions) → length ls ≡ length ws → map work_in (cells_of ws ls) ≡ ws
works-back [] ls h = refl
works-back (w ∷ ws) [] h = absurd (omega (arith, h))
works-back (w ∷ ws) (l ∷ ls) h = ap (λ (xs : List Work). w ∷ xs) (works-back ws ls (omega (arith, h)))

pub cells-many : (ws : List Work) (ls : List Versions) → length ls ≡ length ws → length (cells_of ws ls) ≡ length ls
cells-many [] [] h = refl
cells-many [] (l ∷ ls) h = absurd (omega (arith, h))
cells-many (w ∷ ws) [] h = refl
cells-many (w ∷ ws) (l ∷ ls) h = ap suc (cells-many ws ls (omega (arith, h)))

pub fits : (graph : Graph) (book : Booked) (lists : List Versions) → IsWhole graph book lists
    → IsBookOf graph (state_of book.book lists) book
fits graph book lists kept = record {
  is_graph = kept.is_graph;
  lawful = kept.lawful;
  parts = ap (λ (ws : List Work). record book.book { works = ws }) (sym (works-back book.book.works lists kept.many));
  room_for = kept.room_for;
}

-- the list of a node whose cell and place are known
abbrev placed-list : Graph → ℕ → Cell → ℕ → Versions
placed-list graph callers c n = record { entries = c.entries; outs = c.outs; room = callers + 9; outs_room = choosers graph n }

list-back : (graph : Graph) (callers k : ℕ) (ws : List Work) (ls : List Versions) (n : ℕ) (was : Versions) → length ls ≡ length ws
    → HaveRooms graph callers k ls → n < length ls → was ≡ get_or ls n was
    → was ≡ placed-list graph callers (slice_index_or (cells_of ws ls) n no_cell) (k + n)
list-back graph callers k ws [] n was same rooms h e = absurd (omega (arith, h))
list-back graph callers k [] (l ∷ ls) n was same rooms h e = absurd (omega (arith, same))
list-back graph callers k (w ∷ ws) (l ∷ ls) zero was same rooms h e =
    let z : k ≡ k + 0 = omega arith in
    e ∙ ap (λ (r : ℕ). record { entries = l.entries; outs = l.outs; room = r; outs_room = l.outs_room }) rooms.0
    ∙ ap (λ (r : ℕ). record { entries = l.entries; outs = l.outs; room = callers + 9; outs_room = r }) (rooms.1 ∙ ap (choosers graph) z)
list-back graph callers k (w ∷ ws) (l ∷ ls) (suc n) was same rooms h e =
    let z : k + 1 + n ≡ k + suc n = omega arith in
    list-back graph callers (k + 1) ws ls n was (omega (arith, same)) rooms.2 (omega (arith, h)) e
    ∙ ap (placed-list graph callers (slice_index_or (cells_of ws ls) n no_cell)) z

pub list_fits : (graph : Graph) (book : Booked) (lists : List Versions) (n : ℕ) (was : Versions) → IsWhole graph book lists
    → n < length lists → was ≡ get_or lists n was → was ≡ list_of graph (state_of book.book lists) n
list_fits graph book lists n was kept h e =
    let z : 0 + n ≡ n = omega arith in
    list-back graph book.book.callers 0 book.book.works lists n was kept.many kept.rooms h e
    ∙ ap (placed-list graph book.book.callers (slice_index_or (cells_of book.book.works lists) n no_cell)) z

-- There are as many lists as nodes.
pub all_nodes : (graph : Graph) (book : Booked) (lists : List Versions) → IsWhole graph book lists → length lists ≡ length graph.nodes
all_nodes graph book lists kept = sym (cells-many book.book.works lists kept.many) ∙ kept.lawful.lists
