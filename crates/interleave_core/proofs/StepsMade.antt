-- Where a step may be made of a book and lists, and what it makes of them: the state after it.
use Rattle.std.proofs.Common.{◌≡◌, ℕ, zero, suc, ◌+◌, ◌<◌, ◌==◌, ◌≢◌, Bool, true, false, List, [], ◌∷◌, length, map, Some, None, set, refl, sym, ap, ◌∙◌, subst, arith, length-set}
use Rattle.std.specs.Prelude.{slice_index_or}
use Rattle.signal_graph.specs.Graph.{Graph, IsGraph}
use Rattle.node_versions.specs.Entries.{Versions}
use Rattle.flow_model.specs.declared.step.Step.{Step}
use Rattle.flow_model.specs.Machine.State.{Core, no_cell}
use Rattle.flow_model.specs.Machine.Words.{is_some_of}
use Rattle.flow_model.specs.Machine.Keys.{list_of_step}
use Rattle.flow_model.specs.Machine.Steps.{allowed, apply}
use Rattle.flow_model.specs.Kept.Lawful.{IsLawful}
use Rattle.flow_model.specs.Parts.Books.{Work, work_in, listing, listing_in, book_of}
use Rattle.flow_model.proofs.OneStep.SameLengths.{step-parts}
use Rattle.flow_model.proofs.Books.StepsChangeOneListing.{changed-node, other-listings}
use Rattle.flow_model.proofs.Books.StatesAreBooks.{state-whole}
use Rattle.flow_state.specs.Booked.{Booked}
use Rattle.flow_state.specs.Fitting.{list_of, choosers, book_after}
use Rattle.flow_state.proofs.Fits.{length-works}
use Rattle.interleave_core.specs.Whole.{Whole, after, cells_of, state_of, whole_of, HaveRooms, IsWhole}
use Rattle.interleave_core.proofs.Fits.{works-back, cells-many, all_nodes}

-- The law that each allowed step keeps states lawful.
abbrev pub StaysLawful : Type 0
StaysLawful = (graph : Graph) → IsGraph graph → (s : Core) (step : Step) → IsLawful graph s → allowed graph s step ≡ true
    → IsLawful graph (apply graph s step)

-- The step may be made of the book and the lists, which are seen so.
pub record CanMake (graph : Graph) (book : Booked) (lists : List Versions) (seen : Whole) (step : Step) : Type 0 where
  pub kept : IsWhole graph book lists
  pub view : whole_of graph book lists ≡ seen
  pub allowed : allowed seen.graph seen.state step ≡ true

pub can_make : {graph : Graph} {book : Booked} {lists : List Versions} {seen : Whole} (step : Step)
    → IsWhole graph book lists → whole_of graph book lists ≡ seen → allowed seen.graph seen.state step ≡ true
    → CanMake graph book lists seen step
can_make step kept view can = record { kept = kept; view = view; allowed = can }

pub can_here : {graph : Graph} {book : Booked} {lists : List Versions} {seen : Whole} {step : Step}
    → CanMake graph book lists seen step → allowed graph (state_of book.book lists) step ≡ true
can_here {step} h = ap (λ (w : Whole). allowed w.graph w.state step) h.view ∙ h.allowed

-- The node of a step's list is one of the lists.
pub list_there : {graph : Graph} {book : Booked} {lists : List Versions} {seen : Whole} {step : Step} {n : ℕ}
    → CanMake graph book lists seen step → list_of_step step ≡ Some n → n < length lists
list_there {graph} {book} {lists} {step} {n} h e =
    subst (λ (k : ℕ). n < k) (sym (all_nodes graph book lists h.kept))
    (changed-node graph h.kept.is_graph (state_of book.book lists) h.kept.lawful step (can_here h) n e)

-- ---- what a step makes

pub record IsMade (graph : Graph) (new : Booked) (lists : List Versions) (seen : Whole) (step : Step) : Type 0 where
  pub kept : IsWhole graph new lists
  pub view : whole_of graph new lists ≡ after seen step

-- The new lists have the listings of the state after the step, and the rooms.
record AreAfter (graph : Graph) (s : Core) (lists : List Versions) : Type 0 where
  many : length lists ≡ length s.cells
  rooms : HaveRooms graph s.callers 0 lists
  alike : (m : ℕ) → listing (state_of (book_of s) lists) m ≡ listing s m

made : (graph : Graph) (book new : Booked) (lists news : List Versions) (seen : Whole) (step : Step) → StaysLawful
    → CanMake graph book lists seen step
    → new ≡ book_after graph (state_of book.book lists) step book → AreAfter graph (apply graph (state_of book.book lists) step) news
    → IsMade graph new news seen step
made graph book new lists news seen step law h is new_lists =
    let s : Core = state_of book.book lists in
    let q : Core = apply graph s step in
    let back = works-back (map work_in q.cells) news (new_lists.many ∙ sym (length-works q.cells)) in
    let same_book = ap (λ (ws : List Work). record (book_of q) { works = ws }) back in
    let whole : state_of (book_of q) news ≡ q = state-whole (state_of (book_of q) news) q same_book new_lists.alike in
    let lawful : IsLawful graph q = law graph h.kept.is_graph s step h.kept.lawful (can_here h) in
    record {
      kept = subst (λ (b : Booked). IsWhole graph b news) (sym is) (record {
        is_graph = h.kept.is_graph;
        many = new_lists.many ∙ sym (length-works q.cells);
        room_for = h.kept.room_for;
        rooms = new_lists.rooms;
        lawful = subst (IsLawful graph) (sym whole) lawful;
      });
      view =
          ap (λ (b : Booked). whole_of graph b news) is
          ∙ ap (λ (x : Core). record { graph = graph; state = x; rooms = book.rooms }) whole
          ∙ ap (λ (w : Whole). after w step) h.view;
    }

kept-listings : (ws vs : List Work) (ls : List Versions) (m : ℕ) → length ls ≡ length ws → length ls ≡ length vs
    → listing_in (slice_index_or (cells_of vs ls) m no_cell) ≡ listing_in (slice_index_or (cells_of ws ls) m no_cell)
kept-listings [] [] ls m h k = refl
kept-listings [] (v ∷ vs) ls m h k = absurd (omega (arith, h, k))
kept-listings (w ∷ ws) [] ls m h k = absurd (omega (arith, h, k))
kept-listings (w ∷ ws) (v ∷ vs) [] m h k = refl
kept-listings (w ∷ ws) (v ∷ vs) (l ∷ ls) zero h k = refl
kept-listings (w ∷ ws) (v ∷ vs) (l ∷ ls) (suc m) h k = kept-listings ws vs ls m (omega (arith, h)) (omega (arith, k))

same-many : (graph : Graph) (book : Booked) (lists : List Versions) (step : Step) → IsWhole graph book lists
    → length lists ≡ length (apply graph (state_of book.book lists) step).cells
same-many graph book lists step kept =
    sym ((step-parts graph (state_of book.book lists) step).cells ∙ cells-many book.book.works lists kept.many)

same-rooms : (graph : Graph) (book : Booked) (lists : List Versions) (step : Step) → IsWhole graph book lists
    → HaveRooms graph (apply graph (state_of book.book lists) step).callers 0 lists
same-rooms graph book lists step kept =
    subst (λ (k : ℕ). HaveRooms graph k 0 lists) (sym (step-parts graph (state_of book.book lists) step).callers) kept.rooms

-- a step that changes no list
pub made_by_book : (graph : Graph) (book new : Booked) (lists : List Versions) (seen : Whole) (step : Step) → StaysLawful
    → CanMake graph book lists seen step
    → list_of_step step ≡ None → new ≡ book_after graph (state_of book.book lists) step book → IsMade graph new lists seen step
made_by_book graph book new lists seen step law h quiet is =
    let s : Core = state_of book.book lists in
    let q : Core = apply graph s step in
    let many = same-many graph book lists step h.kept in
    made graph book new lists lists seen step law h is (record {
      many = many;
      rooms = same-rooms graph book lists step h.kept;
      alike =
          λ m. kept-listings book.book.works (map work_in q.cells) lists m h.kept.many (many ∙ sym (length-works q.cells))
          ∙ sym (other-listings graph s step m (ap (λ o. is_some_of o m) quiet));
    })

-- ---- one list changes

new-listing : (vs : List Work) (ls : List Versions) (n : ℕ) (new : Versions) → length ls ≡ length vs → n < length ls
    → listing_in (slice_index_or (cells_of vs (set ls n new)) n no_cell) ≡ record { entries = new.entries; outs = new.outs }
new-listing vs [] n new h below = absurd (omega (arith, below))
new-listing [] (l ∷ ls) n new h below = absurd (omega (arith, h))
new-listing (v ∷ vs) (l ∷ ls) zero new h below = refl
new-listing (v ∷ vs) (l ∷ ls) (suc n) new h below = new-listing vs ls n new (omega (arith, h)) (omega (arith, below))

other-listing : (vs : List Work) (ls : List Versions) (n m : ℕ) (new : Versions) → n ≢ m
    → listing_in (slice_index_or (cells_of vs (set ls n new)) m no_cell) ≡ listing_in (slice_index_or (cells_of vs ls) m no_cell)
other-listing vs [] n m new d = refl
other-listing [] (l ∷ ls) zero m new d = refl
other-listing [] (l ∷ ls) (suc n) m new d = refl
other-listing (v ∷ vs) (l ∷ ls) zero zero new d = absurd (d refl)
other-listing (v ∷ vs) (l ∷ ls) zero (suc m) new d = refl
other-listing (v ∷ vs) (l ∷ ls) (suc n) zero new d = refl
other-listing (v ∷ vs) (l ∷ ls) (suc n) (suc m) new d = other-listing vs ls n m new (λ e. d (ap suc e))

set-rooms : (graph : Graph) (callers k : ℕ) (ls : List Versions) (n : ℕ) (new : Versions) → HaveRooms graph callers k ls
    → new.room ≡ callers + 9 → new.outs_room ≡ choosers graph (k + n) → HaveRooms graph callers k (set ls n new)
set-rooms graph callers k [] n new rooms a b = tt
set-rooms graph callers k (l ∷ ls) zero new rooms a b = let z : k + 0 ≡ k = omega arith in (a, b ∙ ap (choosers graph) z, rooms.2)
set-rooms graph callers k (l ∷ ls) (suc n) new rooms a b =
    let z : k + suc n ≡ k + 1 + n = omega arith in
    (rooms.0, rooms.1, set-rooms graph callers (k + 1) ls n new rooms.2 a (b ∙ ap (choosers graph) z))

-- a step that changes one list
pub made_by_list : (graph : Graph) (book new : Booked) (lists : List Versions) (seen : Whole) (step : Step) (n : ℕ) (list : Versions)
    → StaysLawful → CanMake graph book lists seen step
    → list_of_step step ≡ Some n
    → (new ≡ book_after graph (state_of book.book lists) step book)
    × (list ≡ list_of graph (apply graph (state_of book.book lists) step) n)
    → IsMade graph new (set lists n list) seen step
made_by_list graph book new lists seen step n list law h one made_so =
    made graph book new lists (set lists n list) seen step law h made_so.0 (record {
      many = length-set lists n list ∙ many;
      rooms =
          let z : n ≡ 0 + n = omega arith in set-rooms graph q.callers 0 lists n list (same-rooms graph book lists step h.kept)
          (ap (λ (v : Versions). v.room) made_so.1) (ap (λ (v : Versions). v.outs_room) made_so.1 ∙ ap (choosers graph) z);
      alike = λ m. alike m (n == m) refl;
    })
  where
    s : Core
    s = state_of book.book lists

    q : Core
    q = apply graph s step

    many : length lists ≡ length q.cells
    many = same-many graph book lists step h.kept

    works : List Work
    works = map work_in q.cells

    works_many : length lists ≡ length works
    works_many = many ∙ sym (length-works q.cells)

    below : n < length lists
    below = list_there h one

    there : listing (state_of (book_of q) (set lists n list)) n ≡ listing q n
    there =
        new-listing works lists n list works_many below ∙ ap (λ (v : Versions). record { entries = v.entries; outs = v.outs }) made_so.1

    alike : (m : ℕ) (same : Bool) → (n == m) ≡ same → listing (state_of (book_of q) (set lists n list)) m ≡ listing q m
    alike m true e =
        let same : n ≡ m = grind (arith, e) in subst
        (λ (k : ℕ). listing (state_of (book_of q) (set lists n list)) k ≡ listing q k) same there
    alike m false e =
        other-listing works lists n m list (λ x. grind (arith, e, x)) ∙ kept-listings book.book.works works lists m h.kept.many works_many
        ∙ sym (other-listings graph s step m (ap (λ o. is_some_of o m) one ∙ e))
