-- A step changes one listing at most, and what it makes of it follows from the book and that listing.
use Rattle.std.proofs.Common.{◌≡◌, ℕ, zero, suc, ◌<◌, Bool, true, false, ◌==◌, ◌||◌, ◌&&◌, not, ◌⊎◌, inl, inr, refl, sym, ap, arith, List, [], ◌∷◌, length, nat_lt, ◌∙◌, subst, Some, slice_index_or}
use Rattle.std.specs.List.{list_any}
use Rattle.std.proofs.lemmas.Bool.Decides.{eqb_tells}
use Rattle.std.proofs.lemmas.Bool.{or_cases, or_left, or_right}
use Rattle.std.proofs.lemmas.List.Folds.{list_any-append}
use Rattle.script_tree.proofs.Truths.{and_left, and_right}
use Rattle.signal_graph.specs.Graph.{Graph, IsGraph, node_at, numbers, is_in, inputs_of}
use Rattle.signal_graph.proofs.Members.{get-in}
use Rattle.node_versions.specs.declared.entry.State.TheVariants.{Mark, Frame, Done}
use Rattle.node_versions.specs.declared.entry.Entry.{Entry}
use Rattle.node_versions.specs.Entries.{has, at, is_mark, value_before, picks_before, with_state, with_out}
use Rattle.flow_model.specs.declared.step.Step.{Step}
use Rattle.flow_model.specs.declared.step.Step.TheVariants as steps
use Rattle.flow_model.specs.Machine.Keys.{list_of_step}
use Rattle.flow_model.specs.Machine.State.{Core, Cell, cell, no_cell, call, executes, entries, outs, with_cell}
use Rattle.flow_model.specs.Machine.Words.{value_now, found_picks, next_look, due, is_candidate, is_prior, is_gathered, heads, deps, prior_picks, is_some_of, is_idle}
use Rattle.flow_model.specs.Machine.Changes.{enter, raise, ensure_mark, place_entry, set_state, cleared, finish, add_edge, drop_edge, remove_first}
use Rattle.flow_model.specs.Machine.Steps.{allowed, apply, open_node, frame, is_change, collect, collected_at, asks_for}
use Rattle.flow_model.specs.Kept.Lawful.{IsLawful}
use Rattle.flow_model.specs.Parts.Books.{Listing, listing_in, book_of, listing, placed_in, listing_after, read_of_step, book_after}
use Rattle.flow_model.proofs.OneStep.WhoMayStep.{frame-wants, skip-can_work, resolve-can_work, discover-due, drop-due, due-can_work, can_work-at_front, at_front-heads, mark-executes, executes-live}
use Rattle.flow_model.proofs.OneStep.SameLengths.{change_at-length}
use Rattle.flow_model.proofs.OrderStays.OpenNodesHaveFrames.{cell-there, cell-other}
use Rattle.flow_model.proofs.Lengths.SameWork.{same-part}
use Rattle.flow_model.proofs.Wants.FramedWith.{heads-opens}
use Rattle.flow_model.proofs.Edges.EdgesFitCandidates.{candidate-listed, discover-candidate}
use Rattle.flow_model.proofs.Opening.OpeningLists.{candidate-earlier}
use Rattle.flow_model.proofs.Wants.EarlierNodes.{dep-earlier}
use Rattle.flow_model.proofs.General.Counting.{some-member}
use Rattle.flow_model.proofs.Known.Bounds.{opens-node, names-nodes}
use Rattle.flow_model.proofs.Books.StepsChangeBooks.{bare-value, bare-change, bare-picks, book-after}
use Rattle.flow_model.proofs.Lengths.EdgesAreWork.{drop-prior}
use Rattle.flow_model.proofs.General.AnyAndAll.{some-is}

-- ---- the other listings stay

flip : (m n : ℕ) → (n == m) ≡ false → (m == n) ≡ false
flip m n h = grind (arith, eqb_tells)

one : (s : Core) (n m : ℕ) (f : Cell → Cell) → (n == m) ≡ false → listing (with_cell s n f) m ≡ listing s m
one s n m f h = ap listing_in (cell-other s n m f (flip m n h))

pub other-listings : (graph : Graph) (s : Core) (step : Step) (m : ℕ) → is_some_of (list_of_step step) m ≡ false → listing (apply graph s step) m ≡ listing s m
other-listings graph s (steps.Frame t n) m h = go (at is_mark (entries s n) t)
  where
    go : (b : Bool) → listing (elim b as (λ _. Core) [ true ↦ open_node graph (raise s t n) t n | false ↦ open_node graph (enter s t n Frame) t n ]) m ≡ listing s m
    go true = one s n m (set_state t Frame) h
    go false = one s n m (place_entry s t Frame) h
other-listings graph s (steps.Start t) m h = refl
other-listings graph s (steps.Skip t n) m h = one s n m (set_state t (Done (value_before (entries s n) t) false (picks_before (entries s n) t))) h
other-listings graph s (steps.Gather t n i) m h = same-part listing_in s n _ (λ c. refl) m
other-listings graph s (steps.Evaluate t n) m h = same-part listing_in s n _ (λ c. refl) m
other-listings graph s (steps.Body t n) m h = same-part listing_in s n _ (λ c. refl) m
other-listings graph s (steps.Resolve t n) m h =
    let q = finish s t n (value_now graph s t n) (is_change graph s t n) (found_picks s n) in
    one q n m cleared h ∙ one s n m (set_state t (Done (value_now graph s t n) (is_change graph s t n) (found_picks s n))) h
other-listings graph s (steps.Discover t n c) m h = one (ensure_mark s t c) c m (add_edge n t) h ∙ go (has (entries s c) t)
  where
    go : (b : Bool) → listing (elim b as (λ _. Core) [ true ↦ s | false ↦ enter s t c Mark ]) m ≡ listing s m
    go true = refl
    go false = one s c m (place_entry s t Mark) h
other-listings graph s (steps.Drop t n o) m h = one (ensure_mark s t o) o m (drop_edge n) h ∙ go (has (entries s o) t)
  where
    go : (b : Bool) → listing (elim b as (λ _. Core) [ true ↦ s | false ↦ enter s t o Mark ]) m ≡ listing s m
    go true = refl
    go false = one s o m (place_entry s t Mark) h
other-listings graph s (steps.Mark t n) m h = one s n m (place_entry s t Mark) h
other-listings graph s (steps.Look t) m h = refl
other-listings graph s (steps.End t) m h = refl
other-listings graph s (steps.Collect n) m h = one s n m (collect s) h

-- ---- the listing that changes

there : (s : Core) (n : ℕ) (f : Cell → Cell) → n < length s.cells → listing (with_cell s n f) n ≡ listing_in (f (cell s n))
there s n f k = ap listing_in (cell-there s n f k)

twice : (s : Core) (n : ℕ) (f g : Cell → Cell) → n < length s.cells → listing (with_cell (with_cell s n f) n g) n ≡ listing_in (g (f (cell s n)))
twice s n f g k = there (with_cell s n f) n g (subst (λ (j : ℕ). n < j) (sym (change_at-length n f s.cells)) k) ∙ ap (λ (c : Cell). listing_in (g c)) (cell-there s n f k)

frame-listing : (graph : Graph) (s : Core) (t n : ℕ) → n < length s.cells → listing (frame graph s t n) n ≡ listing_after graph (book_of s) (listing s n) (steps.Frame t n)
frame-listing graph s t n k = go (at is_mark (entries s n) t)
  where
    go : (b : Bool) → listing (elim b as (λ _. Core) [ true ↦ open_node graph (raise s t n) t n | false ↦ open_node graph (enter s t n Frame) t n ]) n
        ≡ record (listing s n) { entries = elim b as (λ _. List Entry) [ true ↦ with_state t Frame (entries s n) | false ↦ placed_in (book_of s) t Frame (listing s n) ] }
    go true = there s n (set_state t Frame) k
    go false = there s n (place_entry s t Frame) k

resolve-listing : (graph : Graph) (s : Core) (t n : ℕ) → n < length s.cells → listing (apply graph s (steps.Resolve t n)) n ≡ listing_after graph (book_of s) (listing s n) (steps.Resolve t n)
resolve-listing graph s t n k =
    let v = bare-value graph s t n in
    let c = bare-change graph s t n in
    let p = bare-picks s n in
    twice s n (set_state t (Done (value_now graph s t n) (is_change graph s t n) (found_picks s n))) cleared k
    ∙ sym (λ i. record { entries = with_state t (Done (v i) (c i) (p i)) (entries s n); outs = outs s n })

discover-listing : (graph : Graph) (s : Core) (t n c : ℕ) → c < length s.cells → listing (apply graph s (steps.Discover t n c)) c ≡ listing_after graph (book_of s) (listing s c) (steps.Discover t n c)
discover-listing graph s t n c k = go (has (entries s c) t)
  where
    go : (b : Bool) → listing (with_cell (elim b as (λ _. Core) [ true ↦ s | false ↦ enter s t c Mark ]) c (add_edge n t)) c
        ≡ record { entries = elim b as (λ _. List Entry) [ true ↦ entries s c | false ↦ placed_in (book_of s) t Mark (listing s c) ]; outs = with_out (outs s c) n t }
    go true = there s c (add_edge n t) k
    go false = twice s c (place_entry s t Mark) (add_edge n t) k

drop-listing : (graph : Graph) (s : Core) (t n o : ℕ) → o < length s.cells → listing (apply graph s (steps.Drop t n o)) o ≡ listing_after graph (book_of s) (listing s o) (steps.Drop t n o)
drop-listing graph s t n o k = go (has (entries s o) t)
  where
    go : (b : Bool) → listing (with_cell (elim b as (λ _. Core) [ true ↦ s | false ↦ enter s t o Mark ]) o (drop_edge n)) o
        ≡ record { entries = elim b as (λ _. List Entry) [ true ↦ entries s o | false ↦ placed_in (book_of s) t Mark (listing s o) ]; outs = remove_first n (outs s o) }
    go true = there s o (drop_edge n) k
    go false = twice s o (place_entry s t Mark) (drop_edge n) k

moved : (P : ℕ → Type 0) (l n m : ℕ) → Some n ≡ Some m → (n < l → P n) → m < l → P m
moved P l n m e f k = subst P same (f (subst (λ (j : ℕ). j < l) (sym same) k))
  where
    same : n ≡ m
    same = cc

listing-after : (graph : Graph) (s : Core) (step : Step) (m : ℕ) → list_of_step step ≡ Some m → m < length s.cells → listing (apply graph s step) m ≡ listing_after graph (book_of s) (listing s m) step
listing-after graph s (steps.Frame t n) m e k = moved (λ m. listing (apply graph s (steps.Frame t n)) m ≡ listing_after graph (book_of s) (listing s m) (steps.Frame t n)) (length s.cells) n m e (frame-listing graph s t n) k
listing-after graph s (steps.Start t) m e k = cc
listing-after graph s (steps.Skip t n) m e k = moved (λ m. listing (apply graph s (steps.Skip t n)) m ≡ listing_after graph (book_of s) (listing s m) (steps.Skip t n)) (length s.cells) n m e (there s n (set_state t (Done (value_before (entries s n) t) false (picks_before (entries s n) t)))) k
listing-after graph s (steps.Gather t n i) m e k = cc
listing-after graph s (steps.Evaluate t n) m e k = cc
listing-after graph s (steps.Body t n) m e k = cc
listing-after graph s (steps.Resolve t n) m e k = moved (λ m. listing (apply graph s (steps.Resolve t n)) m ≡ listing_after graph (book_of s) (listing s m) (steps.Resolve t n)) (length s.cells) n m e (resolve-listing graph s t n) k
listing-after graph s (steps.Discover t n c) m e k = moved (λ m. listing (apply graph s (steps.Discover t n c)) m ≡ listing_after graph (book_of s) (listing s m) (steps.Discover t n c)) (length s.cells) c m e (discover-listing graph s t n c) k
listing-after graph s (steps.Drop t n o) m e k = moved (λ m. listing (apply graph s (steps.Drop t n o)) m ≡ listing_after graph (book_of s) (listing s m) (steps.Drop t n o)) (length s.cells) o m e (drop-listing graph s t n o) k
listing-after graph s (steps.Mark t n) m e k = moved (λ m. listing (apply graph s (steps.Mark t n)) m ≡ listing_after graph (book_of s) (listing s m) (steps.Mark t n)) (length s.cells) n m e (there s n (place_entry s t Mark)) k
listing-after graph s (steps.Look t) m e k = cc
listing-after graph s (steps.End t) m e k = cc
listing-after graph s (steps.Collect n) m e k = moved (λ m. listing (apply graph s (steps.Collect n)) m ≡ listing_after graph (book_of s) (listing s m) (steps.Collect n)) (length s.cells) n m e (there s n (collect s)) k

-- ---- the listing is there

some-there : (s : Core) (n x : ℕ) → nat_lt x (length (entries s n)) ≡ true → n < length s.cells
some-there s n x h = go n s.cells h
  where
    go : (n : ℕ) (cs : List Cell) → nat_lt x (length (slice_index_or cs n no_cell).entries) ≡ true → n < length cs
    go n [] h = absurd (none x h)
      where
        none : (x : ℕ) → nat_lt x 0 ≡ true → ⊥
        none x h = grind (arith, h)
    go zero (c ∷ cs) h = omega arith
    go (suc n) (c ∷ cs) h = let r = go n cs h in omega (arith, r)

mark-wish : (graph : Graph) (s : Core) (t m : ℕ) → allowed graph s (steps.Mark t m) ≡ true → (list_any (asks_for graph s t m) (numbers graph) ≡ true) ⊎ ((is_idle s t && is_some_of (next_look s t) m) ≡ true)
mark-wish graph s t m a = or_cases _ _ (and_right _ _ a)

pub changed-node : (graph : Graph) → IsGraph graph → (s : Core) → IsLawful graph s → (step : Step) → allowed graph s step ≡ true → (m : ℕ) → list_of_step step ≡ Some m → m < length graph.nodes
changed-node graph g s h step a m e = go step a e
  where
    in_range : (t n : ℕ) → heads s t n ≡ true → n < length graph.nodes
    in_range t n k = opens-node graph s h t n (heads-opens graph s h t n k)

    found : (t n c : ℕ) → heads s t n ≡ true → is_candidate s n c ≡ true → c < length graph.nodes
    found t n c k i = let l = in_range t n k in let r = candidate-earlier graph g n c l (candidate-listed graph s h t n c k i) in omega (arith, l, r)

    dep : (t n c : ℕ) → heads s t n ≡ true → is_in c (deps graph s t n) ≡ true → c < length graph.nodes
    dep t n c k i = let l = in_range t n k in let r = dep-earlier graph g s h t n c l i in omega (arith, l, r)

    asked : (t m n : ℕ) → asks_for graph s t m n ≡ true → m < length graph.nodes
    asked t m n k = two (or_cases (is_in m (inputs_of (node_at graph n)) && not (is_gathered s n m)) (is_candidate s n m && is_prior s t n m) (and_right (due graph s t n) wish k))
      where
        wish : Bool
        wish = (is_in m (inputs_of (node_at graph n)) && not (is_gathered s n m)) || (is_candidate s n m && is_prior s t n m)

        hd : heads s t n ≡ true
        hd = at_front-heads graph s t n (can_work-at_front graph s t n (due-can_work graph s t n (and_left (due graph s t n) wish k)))

        in_deps : (is_in m (inputs_of (node_at graph n)) || is_in m (prior_picks s t n)) ≡ true → m < length graph.nodes
        in_deps x = dep t n m hd (list_any-append (λ y. y == m) (inputs_of (node_at graph n)) (prior_picks s t n) ∙ x)

        two : ((is_in m (inputs_of (node_at graph n)) && not (is_gathered s n m)) ≡ true) ⊎ ((is_candidate s n m && is_prior s t n m) ≡ true) → m < length graph.nodes
        two (inl x) = in_deps (or_left (is_in m (inputs_of (node_at graph n))) (is_in m (prior_picks s t n)) (and_left (is_in m (inputs_of (node_at graph n))) (not (is_gathered s n m)) x))
        two (inr x) = in_deps (or_right (is_in m (inputs_of (node_at graph n))) (is_in m (prior_picks s t n)) (and_right (is_candidate s n m) (is_prior s t n m) x))

    marked : (t m : ℕ) → executes s t ≡ true → (list_any (asks_for graph s t m) (numbers graph) ≡ true) ⊎ ((is_idle s t && is_some_of (next_look s t) m) ≡ true) → m < length graph.nodes
    marked t m x (inl k) = let y = some-member (asks_for graph s t m) (numbers graph) k in asked t m y.it y.passes
    marked t m x (inr k) = (names-nodes graph g s h).looks t m (executes-live s t x) (get-in (call s t).looks (length (call s t).looked) m (some-is (next_look s t) m (and_right (is_idle s t) (is_some_of (next_look s t) m) k)))

    just : (n : ℕ) → Some n ≡ Some m → n < length graph.nodes → m < length graph.nodes
    just n x k = subst (λ (j : ℕ). j < length graph.nodes) same k
      where
        same : n ≡ m
        same = cc

    go : (step : Step) → allowed graph s step ≡ true → list_of_step step ≡ Some m → m < length graph.nodes
    go (steps.Frame t n) a x = just n x (h.wants_are_free t n (frame-wants graph s t n a)).node
    go (steps.Start t) a x = cc
    go (steps.Skip t n) a x = just n x (in_range t n (at_front-heads graph s t n (can_work-at_front graph s t n (skip-can_work graph s t n a))))
    go (steps.Gather t n i) a x = cc
    go (steps.Evaluate t n) a x = cc
    go (steps.Body t n) a x = cc
    go (steps.Resolve t n) a x = just n x (in_range t n (at_front-heads graph s t n (can_work-at_front graph s t n (resolve-can_work graph s t n a))))
    go (steps.Discover t n c) a x = just c x (found t n c (at_front-heads graph s t n (can_work-at_front graph s t n (due-can_work graph s t n (discover-due graph s t n c a)))) (discover-candidate graph s t n c a))
    go (steps.Drop t n o) a x = just o x (dep t n o (at_front-heads graph s t n (can_work-at_front graph s t n (due-can_work graph s t n (drop-due graph s t n o a))))
        (list_any-append (λ y. y == o) (inputs_of (node_at graph n)) (prior_picks s t n) ∙ or_right (is_in o (inputs_of (node_at graph n))) (is_prior s t n o) (drop-prior graph s t n o a)))
    go (steps.Mark t n) a x = just n x (marked t n (mark-executes graph s t n a) (mark-wish graph s t n a))
    go (steps.Look t) a x = cc
    go (steps.End t) a x = cc
    go (steps.Collect n) a x = just n x (subst (λ (j : ℕ). n < j) h.lists (some-there s n (length (collected_at s n)) a))

-- So an allowed step's listing stands in the state.
changed-there : (graph : Graph) → IsGraph graph → (s : Core) → IsLawful graph s → (step : Step) → allowed graph s step ≡ true → (m : ℕ) → list_of_step step ≡ Some m → m < length s.cells
changed-there graph g s h step a m e = subst (λ (j : ℕ). m < j) (sym h.lists) (changed-node graph g s h step a m e)

-- ---- in lawful states

pub lawful-book : (graph : Graph) → IsGraph graph → (s : Core) → IsLawful graph s → (step : Step) → allowed graph s step ≡ true → (l : Listing) → ((m : ℕ) → read_of_step (book_of s) step ≡ Some m → l ≡ listing s m) → book_of (apply graph s step) ≡ book_after graph (book_of s) l step
lawful-book graph g s h step a l r = book-after graph s step a (changed-there graph g s h step a) l r

pub lawful-listing : (graph : Graph) → IsGraph graph → (s : Core) → IsLawful graph s → (step : Step) → allowed graph s step ≡ true → (m : ℕ) → list_of_step step ≡ Some m → listing (apply graph s step) m ≡ listing_after graph (book_of s) (listing s m) step
lawful-listing graph g s h step a m e = listing-after graph s step m e (changed-there graph g s h step a m e)
