-- What each step makes of the book follows from the book and one listing.
use Rattle.std.proofs.Common.{◌≡◌, ℕ, zero, suc, ◌<◌, Bool, true, false, not, refl, sym, ap, List, [], ◌∷◌, ◌++◌, map, length, ◌∙◌, subst, Option, Some, None, slice_index_or, true≢false}
use Rattle.script_tree.specs.declared.value.Value.{Value}
use Rattle.script_tree.specs.declared.value.Value.TheVariants.{Fault as Faulty}
use Rattle.script_tree.specs.declared.value.Fault.TheVariants.{NoChoice}
use Rattle.script_tree.specs.Scripts.{Scripted}
use Rattle.script_tree.proofs.Truths.{and_right}
use Rattle.signal_graph.specs.Machine.{same}
use Rattle.signal_graph.specs.Graph.{Graph, node_at, is_source, body_of, static_outs}
use Rattle.order_graph.specs.declared.pair.Pair.{Pair}
use Rattle.node_versions.specs.declared.entry.State.TheVariants.{Mark, Frame, Done}
use Rattle.node_versions.specs.declared.entry.Entry.{Entry}
use Rattle.node_versions.specs.Entries.{has, at, is_mark, value_at, value_before, picks_before, active_nodes, with_state}
use Rattle.flow_model.specs.declared.step.Step.{Step}
use Rattle.flow_model.specs.declared.step.Step.TheVariants as steps
use Rattle.flow_model.specs.Machine.Lists.{change_at}
use Rattle.flow_model.specs.Machine.Keys.{list_of_step}
use Rattle.flow_model.specs.Machine.State.{Core, Cell, LiveCall, Found, cell, no_cell, call, entries, outs, change_call, with_cell}
use Rattle.flow_model.specs.Machine.Words.{finds, found_now, gathered_of, value_or, value_gathered, value_over, value_without, value_by, value_now, body_now, body_over, selections_of, picks_of_found, found_picks, set_value, next_look}
use Rattle.flow_model.specs.Machine.Changes.{linked_at, enter, raise, place_entry, set_state, opened, closed, cleared, tell, tell_call, add_edge, drop_edge}
use Rattle.flow_model.specs.Machine.Steps.{allowed, apply, open_node, frame, gather, keep_found, keep_body, collect, counted, is_change, look_value, served_look, with_look}
use Rattle.flow_model.specs.Parts.Books.{Listing, Work, work_in, book_of, listing, bare_cell, bare, placed_in, linked_in, with_gathered, with_found, with_body, forgotten, is_change_in, read_of_step, book_after}
use Rattle.flow_model.proofs.OneStep.SameLengths.{change_at-length}
use Rattle.flow_model.proofs.OrderStays.OpenNodesHaveFrames.{cell-there}

-- ---- works

-- what a change of a cell makes of the work there
pub changed-works : (n : ℕ) (f : Cell → Cell) (g : Work → Work) → ((c : Cell) → work_in (f c) ≡ g (work_in c)) → (cs : List Cell) → map work_in (change_at n f cs) ≡ change_at n g (map work_in cs)
changed-works n f g k [] = refl
changed-works zero f g k (c ∷ cs) = ap (λ (w : Work). w ∷ map work_in cs) (k c)
changed-works (suc n) f g k (c ∷ cs) = ap (λ (ws : List Work). work_in c ∷ ws) (changed-works n f g k cs)

pub kept-works : (n : ℕ) (f : Cell → Cell) → ((c : Cell) → work_in (f c) ≡ work_in c) → (cs : List Cell) → map work_in (change_at n f cs) ≡ map work_in cs
kept-works n f k [] = refl
kept-works zero f k (c ∷ cs) = ap (λ (w : Work). w ∷ map work_in cs) (k c)
kept-works (suc n) f k (c ∷ cs) = ap (λ (ws : List Work). work_in c ∷ ws) (kept-works n f k cs)

-- A node has the same work in the book.
pub bare-cell : (s : Core) (n : ℕ) → cell (bare (book_of s)) n ≡ bare_cell (work_in (cell s n))
bare-cell s n = go s.cells n
  where
    go : (cs : List Cell) (n : ℕ) → slice_index_or (map bare_cell (map work_in cs)) n no_cell ≡ bare_cell (work_in (slice_index_or cs n no_cell))
    go [] n = refl
    go (c ∷ cs) zero = refl
    go (c ∷ cs) (suc n) = go cs n

bare-gathered : (s : Core) (n : ℕ) → value_gathered (bare (book_of s)) n ≡ value_gathered s n
bare-gathered s n = λ i m. value_or (gathered_of m (bare-cell s n i).gathered)

pub bare-value : (graph : Graph) (s : Core) (t n : ℕ) → value_now graph (bare (book_of s)) t n ≡ value_now graph s t n
bare-value graph s t n = ap (λ (v : Value). elim (is_source (node_at graph n)) as (λ _. Value) [ true ↦ set_value n (Faulty NoChoice) (call s t).sets | false ↦ v ]) (by (body_of (node_at graph n)))
  where
    without : (o : Option Found) → value_without (bare (book_of s)) n o ≡ value_without s n o
    without None = refl
    without (Some f) = ap (λ (read : ℕ → Value). value_over None read f) (bare-gathered s n)

    by : (o : Option Scripted) → value_by (bare (book_of s)) n o ≡ value_by s n o
    by None = without (cell (bare (book_of s)) n).found ∙ ap (λ (c : Cell). value_without s n c.found) (bare-cell s n)
    by (Some body) = ap (λ (c : Cell). value_or c.body) (bare-cell s n)

bare-body : (graph : Graph) (s : Core) (n : ℕ) → body_now graph (bare (book_of s)) n ≡ body_now graph s n
bare-body graph s n = λ i. body_over (body_of (node_at graph n)) (bare-gathered s n i) (selections_of (bare-cell s n i).found)

pub bare-picks : (s : Core) (n : ℕ) → found_picks (bare (book_of s)) n ≡ found_picks s n
bare-picks s n = ap (λ (c : Cell). picks_of_found c.found) (bare-cell s n)

pub bare-change : (graph : Graph) (s : Core) (t n : ℕ) → is_change_in graph (book_of s) (listing s n) t n ≡ is_change graph s t n
bare-change graph s t n = ap (λ (v : Value). not (same v (value_before (entries s n) t))) (bare-value graph s t n)

-- ---- the book after a step

frame-book : (graph : Graph) (s : Core) (t n : ℕ) → n < length s.cells → book_of (frame graph s t n) ≡ book_after graph (book_of s) (listing s n) (steps.Frame t n)
frame-book graph s t n k = go (at is_mark (entries s n) t)
  where
    go : (b : Bool) → book_of (elim b as (λ _. Core) [ true ↦ open_node graph (raise s t n) t n | false ↦ open_node graph (enter s t n Frame) t n ])
        ≡ record (book_of s) {
          calls = change_call t (opened n (static_outs graph n ++ active_nodes (elim b as (λ _. List Entry) [ true ↦ with_state t Frame (entries s n) | false ↦ placed_in (book_of s) t Frame (listing s n) ]) (outs s n) t)) s.calls;
          pairs = elim b as (λ _. List Pair) [ true ↦ s.pairs | false ↦ linked_in (book_of s) t n (listing s n) ];
        }
    go true =
        let c = cell-there s n (set_state t Frame) k in
        let w = kept-works n (set_state t Frame) (λ c. refl) s.cells in
        λ i. record { callers = s.callers; limit = s.limit; begun = s.begun; calls = change_call t (opened n (static_outs graph n ++ active_nodes (c i).entries (c i).outs t)) s.calls; works = w i; pairs = s.pairs; log = s.log }
    go false =
        let c = cell-there s n (place_entry s t Frame) k in
        let w = kept-works n (place_entry s t Frame) (λ c. refl) s.cells in
        λ i. record { callers = s.callers; limit = s.limit; begun = s.begun; calls = change_call t (opened n (static_outs graph n ++ active_nodes (c i).entries (c i).outs t)) s.calls; works = w i; pairs = linked_at s t n; log = s.log }

-- a change of the work at one node, of a call, and of both
worked : (s : Core) (n : ℕ) (f : Cell → Cell) (g : Work → Work) → ((c : Cell) → work_in (f c) ≡ g (work_in c)) → book_of (with_cell s n f) ≡ record (book_of s) { works = change_at n g (map work_in s.cells) }
worked s n f g k = let w = changed-works n f g k s.cells in λ i. record { callers = s.callers; limit = s.limit; begun = s.begun; calls = s.calls; works = w i; pairs = s.pairs; log = s.log }

evaluate-book : (graph : Graph) (s : Core) (t n : ℕ) → book_of (apply graph s (steps.Evaluate t n)) ≡ book_after graph (book_of s) (listing s n) (steps.Evaluate t n)
evaluate-book graph s t n =
    let w = changed-works n (keep_found (found_now graph s t n)) (with_found (found_now graph s t n)) (λ c. refl) s.cells in
    let g = bare-gathered s n in
    (λ i. record { callers = s.callers; limit = s.limit; begun = s.begun; calls = change_call t counted s.calls; works = w i; pairs = s.pairs; log = s.log })
    ∙ sym (λ i. record { callers = s.callers; limit = s.limit; begun = s.begun; calls = change_call t counted s.calls; works = change_at n (with_found (finds (node_at graph n) (g i) (value_before (entries s n) t))) (map work_in s.cells); pairs = s.pairs; log = s.log })

resolve-book : (graph : Graph) (s : Core) (t n : ℕ) → book_of (apply graph s (steps.Resolve t n)) ≡ book_after graph (book_of s) (listing s n) (steps.Resolve t n)
resolve-book graph s t n =
    let f = set_state t (Done (value_now graph s t n) (is_change graph s t n) (found_picks s n)) in
    let w = changed-works n cleared forgotten (λ c. refl) (change_at n f s.cells) ∙ ap (change_at n forgotten) (kept-works n f (λ c. refl) s.cells) in
    let e = sym (bare-change graph s t n) in
    λ i. record { callers = s.callers; limit = s.limit; begun = s.begun; calls = change_call t (closed n (e i)) s.calls; works = w i; pairs = s.pairs; log = s.log }

discover-book : (graph : Graph) (s : Core) (t n c : ℕ) → c < length s.cells → book_of (apply graph s (steps.Discover t n c)) ≡ book_after graph (book_of s) (listing s c) (steps.Discover t n c)
discover-book graph s t n c k = go (has (entries s c) t)
  where
    go : (b : Bool) → book_of (tell (with_cell (elim b as (λ _. Core) [ true ↦ s | false ↦ enter s t c Mark ]) c (add_edge n t)) t n c)
        ≡ record (book_of s) {
          calls = map (tell_call (elim b as (λ _. List Entry) [ true ↦ entries s c | false ↦ placed_in (book_of s) t Mark (listing s c) ]) t n) s.calls;
          pairs = elim b as (λ _. List Pair) [ true ↦ s.pairs | false ↦ linked_in (book_of s) t c (listing s c) ];
        }
    go true =
        let e = ap (λ (x : Cell). x.entries) (cell-there s c (add_edge n t) k) in
        let w = kept-works c (add_edge n t) (λ x. refl) s.cells in
        λ i. record { callers = s.callers; limit = s.limit; begun = s.begun; calls = map (tell_call (e i) t n) s.calls; works = w i; pairs = s.pairs; log = s.log }
    go false =
        let q = enter s t c Mark in
        let l = change_at-length c (place_entry s t Mark) s.cells in
        let e = ap (λ (x : Cell). x.entries) (cell-there q c (add_edge n t) (subst (λ (j : ℕ). c < j) (sym l) k) ∙ ap (add_edge n t) (cell-there s c (place_entry s t Mark) k)) in
        let w = kept-works c (add_edge n t) (λ x. refl) q.cells ∙ kept-works c (place_entry s t Mark) (λ x. refl) s.cells in
        λ i. record { callers = s.callers; limit = s.limit; begun = s.begun; calls = map (tell_call (e i) t n) s.calls; works = w i; pairs = linked_at s t c; log = s.log }

drop-book : (graph : Graph) (s : Core) (t n o : ℕ) → book_of (apply graph s (steps.Drop t n o)) ≡ book_after graph (book_of s) (listing s o) (steps.Drop t n o)
drop-book graph s t n o = go (has (entries s o) t)
  where
    go : (b : Bool) → book_of (with_cell (elim b as (λ _. Core) [ true ↦ s | false ↦ enter s t o Mark ]) o (drop_edge n)) ≡ record (book_of s) { pairs = elim b as (λ _. List Pair) [ true ↦ s.pairs | false ↦ linked_in (book_of s) t o (listing s o) ] }
    go true = let w = kept-works o (drop_edge n) (λ x. refl) s.cells in λ i. record { callers = s.callers; limit = s.limit; begun = s.begun; calls = s.calls; works = w i; pairs = s.pairs; log = s.log }
    go false =
        let w = kept-works o (drop_edge n) (λ x. refl) (enter s t o Mark).cells ∙ kept-works o (place_entry s t Mark) (λ x. refl) s.cells in
        λ i. record { callers = s.callers; limit = s.limit; begun = s.begun; calls = s.calls; works = w i; pairs = linked_at s t o; log = s.log }

-- Only the cells change, and no work there.
kept-book : (s : Core) (n : ℕ) (f : Cell → Cell) → ((c : Cell) → work_in (f c) ≡ work_in c) → (calls : List LiveCall) (pairs : List Pair)
    → book_of (record s { calls = calls; pairs = pairs; cells = change_at n f s.cells }) ≡ record (book_of s) { calls = calls; pairs = pairs }
kept-book s n f k calls pairs = let w = kept-works n f k s.cells in λ i. record { callers = s.callers; limit = s.limit; begun = s.begun; calls = calls; works = w i; pairs = pairs; log = s.log }

-- Where the listing is read that the step reads, the book after it is as said.
pub book-after : (graph : Graph) (s : Core) (step : Step) → allowed graph s step ≡ true → ((m : ℕ) → list_of_step step ≡ Some m → m < length s.cells)
    → (l : Listing) → ((m : ℕ) → read_of_step (book_of s) step ≡ Some m → l ≡ listing s m) → book_of (apply graph s step) ≡ book_after graph (book_of s) l step
book-after graph s (steps.Frame t n) a k l r = frame-book graph s t n (k n refl) ∙ ap (λ (x : Listing). book_after graph (book_of s) x (steps.Frame t n)) (sym (r n refl))
book-after graph s (steps.Start t) a k l r = refl
book-after graph s (steps.Skip t n) a k l r = kept-book s n (set_state t (Done (value_before (entries s n) t) false (picks_before (entries s n) t))) (λ c. refl) (change_call t (closed n false) s.calls) s.pairs
book-after graph s (steps.Gather t n m) a k l r =
    worked s n (gather m (value_at (entries s m) t)) (with_gathered m (value_at (entries s m) t)) (λ c. refl) ∙ ap (λ (x : Listing). book_after graph (book_of s) x (steps.Gather t n m)) (sym (r m refl))
book-after graph s (steps.Evaluate t n) a k l r = evaluate-book graph s t n ∙ ap (λ (x : Listing). book_after graph (book_of s) x (steps.Evaluate t n)) (sym (r n refl))
book-after graph s (steps.Body t n) a k l r =
    worked s n (keep_body (body_now graph s n)) (with_body (body_now graph s n)) (λ c. refl) ∙ ap (λ (v : Value). record (book_of s) { works = change_at n (with_body v) (map work_in s.cells) }) (sym (bare-body graph s n))
book-after graph s (steps.Resolve t n) a k l r = resolve-book graph s t n ∙ ap (λ (x : Listing). book_after graph (book_of s) x (steps.Resolve t n)) (sym (r n refl))
book-after graph s (steps.Discover t n c) a k l r = discover-book graph s t n c (k c refl) ∙ ap (λ (x : Listing). book_after graph (book_of s) x (steps.Discover t n c)) (sym (r c refl))
book-after graph s (steps.Drop t n o) a k l r = drop-book graph s t n o ∙ ap (λ (x : Listing). book_after graph (book_of s) x (steps.Drop t n o)) (sym (r o refl))
book-after graph s (steps.Mark t m) a k l r = kept-book s m (place_entry s t Mark) (λ c. refl) s.calls (linked_at s t m) ∙ ap (λ (x : Listing). book_after graph (book_of s) x (steps.Mark t m)) (sym (r m refl))
book-after graph s (steps.Look t) a k l r = go (next_look s t) refl (and_right _ _ a)
  where
    go : (o : Option ℕ) → next_look s t ≡ o → served_look s t o ≡ true → record (book_of s) { calls = change_call t (with_look (look_value s t (next_look s t))) s.calls } ≡ record (book_of s) { calls = change_call t (with_look (value_at l.entries t)) s.calls }
    go None e h = absurd (true≢false (sym h))
    go (Some m) e h = ap (λ (o : Option ℕ). record (book_of s) { calls = change_call t (with_look (look_value s t o)) s.calls }) e ∙ ap (λ (x : Listing). record (book_of s) { calls = change_call t (with_look (value_at x.entries t)) s.calls }) (sym (r m e))
book-after graph s (steps.End t) a k l r = refl
book-after graph s (steps.Collect n) a k l r = kept-book s n (collect s) (λ c. refl) s.calls s.pairs
