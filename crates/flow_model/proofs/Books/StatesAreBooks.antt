-- The book and the listings are all of a state.
use Rattle.std.proofs.Common.{◌≡◌, ℕ, zero, suc, Bool, true, false, refl, sym, ap, List, [], ◌∷◌, map, slice_index_or, true≢false}
use Rattle.signal_graph.specs.declared.call.Call.{Call}
use Rattle.signal_graph.specs.Graph.{Graph}
use Rattle.flow_model.specs.Machine.State.{Core, Cell, no_cell}
use Rattle.flow_model.specs.Machine.Steps.{can_begin, begin}
use Rattle.flow_model.specs.Parts.Books.{Work, Book, listing_in, work_in, no_work, book_of, listing, bare, begun_in}

abbrev first_work : List Work → Work
first_work [] = no_work
first_work (w ∷ ws) = w

abbrev more_work : List Work → List Work
more_work [] = []
more_work (w ∷ ws) = ws

abbrev is_none_left : List Work → Bool
is_none_left [] = true
is_none_left (w ∷ ws) = false

cells-same : (cs ds : List Cell) → map work_in cs ≡ map work_in ds → ((n : ℕ) → listing_in (slice_index_or cs n no_cell) ≡ listing_in (slice_index_or ds n no_cell)) → cs ≡ ds
cells-same [] [] e f = refl
cells-same [] (d ∷ ds) e f = absurd (true≢false (ap is_none_left e))
cells-same (c ∷ cs) [] e f = absurd (true≢false (sym (ap is_none_left e)))
cells-same (c ∷ cs) (d ∷ ds) e f =
    let w = ap first_work e in
    let l = f zero in
    let r = cells-same cs ds (ap more_work e) (λ n. f (suc n)) in
    λ i. record { entries = (l i).entries; outs = (l i).outs; gathered = (w i).gathered; found = (w i).found; body = (w i).body } ∷ (r i)

-- States with the same book and the same listings are the same.
pub state-whole : (s q : Core) → book_of s ≡ book_of q → ((n : ℕ) → listing s n ≡ listing q n) → s ≡ q
state-whole s q e f =
    let c = cells-same s.cells q.cells (ap (λ (b : Book). b.works) e) f in
    λ i. record { callers = (e i).callers; limit = (e i).limit; begun = (e i).begun; calls = (e i).calls; cells = c i; pairs = (e i).pairs; log = (e i).log }

-- A beginning reads and changes the book alone.
pub begin-book : (graph : Graph) (s : Core) (caller : ℕ) (c : Call) → (can_begin graph s caller c ≡ can_begin graph (bare (book_of s)) caller c) × (book_of (begin graph s caller c) ≡ begun_in graph (book_of s) caller c) × ((n : ℕ) → listing (begin graph s caller c) n ≡ listing s n)
begin-book graph s caller c = (refl, refl, λ n. refl)
