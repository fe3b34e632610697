-- Cells after a change of one.
use Rattle.std.proofs.Common.{◌≡◌, ℕ, zero, suc, ◌<◌, List, [], ◌∷◌, length, refl, ap, arith}
use Rattle.std.specs.Prelude.{slice_index_or}
use Rattle.flow_model.specs.Machine.State.{Core, Cell, no_cell, with_cell}
use Rattle.flow_model.specs.Machine.Lists.{change_at}
use Rattle.flow_model.specs.Parts.Books.{Work, work_in, book_of}
use Rattle.flow_model.proofs.Books.StepsChangeBooks.{kept-works}

-- a cell with an entry is one of the cells
pub cell-inside : (cs : List Cell) (n : ℕ) → 0 < length (slice_index_or cs n no_cell).entries → n < length cs
cell-inside [] n h = absurd (omega (arith, h))
cell-inside (c ∷ cs) zero h = omega arith
cell-inside (c ∷ cs) (suc n) h = let r = cell-inside cs n h in omega (arith, r)

-- the cell that is changed
pub cell-changed : (n : ℕ) (f : Cell → Cell) (cs : List Cell) → n < length cs → slice_index_or (change_at n f cs) n no_cell ≡ f (slice_index_or cs n no_cell)
cell-changed n f [] h = absurd (omega (arith, h))
cell-changed zero f (c ∷ cs) h = refl
cell-changed (suc n) f (c ∷ cs) h = cell-changed n f cs (omega (arith, h))

-- a change of lists alone is not seen in a book
pub book-same : (s : Core) (n : ℕ) (f : Cell → Cell) → ((c : Cell) → work_in (f c) ≡ work_in c) → book_of (with_cell s n f) ≡ book_of s
book-same s n f same = ap (λ (ws : List Work). record (book_of s) { works = ws }) (kept-works n f same s.cells)
