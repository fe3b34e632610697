-- What a lawful state says of what is asked: whatever is named is a node of the graph, and the lists answer.
use Rattle.std.proofs.Common.{◌≡◌, ℕ, ◌<◌, Bool, true, ◌==◌, ◌⊎◌, inl, inr, List, [], ◌∷◌, ◌++◌, length, find, refl, sym, ap, ◌∙◌, arith, subst, Option, Some, None, true≢false}
use Rattle.std.specs.Prelude.{is_some}
use Rattle.std.specs.Option.{IsSome}
use Rattle.std.proofs.lemmas.List.Folds.{list_any-append}
use Rattle.std.proofs.lemmas.List.{length-map}
use Rattle.std.proofs.lemmas.Bool.{or_cases, or_left, or_right, eqb-true}
use Rattle.signal_graph.specs.Graph.{Graph, node_at, is_in, inputs_of}
use Rattle.signal_graph.specs.Values.{nodes_in}
use Rattle.signal_graph.proofs.Members.{get-in, in-cases}
use Rattle.node_versions.specs.Entries.{Versions, has, before, last_done, picks_before}
use Rattle.node_versions.proofs.Places.{at-has}
use Rattle.flow_model.specs.Machine.Sets.{least}
use Rattle.flow_model.specs.Machine.State.{Core, Cell, Found, call, call_of, cell, opens, live, entries}
use Rattle.flow_model.specs.Machine.Words.{found_candidates, prior_picks, picks_of_found, is_candidate, next_look}
use Rattle.flow_model.specs.Machine.Next.{next, next_at}
use Rattle.flow_model.specs.Kept.Lawful.{SomeHead}
use Rattle.flow_model.specs.Follows.Bounds.{NamesNodes}
use Rattle.flow_model.specs.Parts.Books.{Book, work_in, bare, listing, one_of, AgreeOn}
use Rattle.flow_model.specs.Parts.BookNext.{next_in, next_at_in, reads_at, reads_open, reads_first}
use Rattle.flow_model.proofs.Wants.FramedWith.{opens-frame}
use Rattle.flow_model.proofs.Wants.EarlierNodes.{dep-earlier}
use Rattle.flow_model.proofs.Edges.EdgesFitCandidates.{candidate-listed}
use Rattle.flow_model.proofs.Opening.OpeningLists.{candidate-earlier}
use Rattle.flow_model.proofs.Together.WorkIsAllowed.{find-some}
use Rattle.flow_model.proofs.Together.NextIsAllowed.{least-in}
use Rattle.flow_model.proofs.Known.Bounds.{names-nodes}
use Rattle.flow_model.proofs.Known.ListsAnswer.{lists-answer}
use Rattle.flow_model.proofs.Books.StepsChangeBooks.{bare-cell}
use Rattle.flow_model.proofs.Books.BooksTellNext.{next-same, next_at-same, next-reads, next_at-reads}
use Rattle.flow_state.specs.Booked.{Booked, live_in, call_in, next_look_in, node_count}
use Rattle.flow_state.specs.Fitting.{list_of}
use Rattle.step_rules.specs.Fits.{IsWholeOf, listed}
use Rattle.step_rules.specs.Points.{picked_in, turn_in, turn_at_in}
use Rattle.step_rules.specs.Rests.{AreBelow}

in-left : (m : ℕ) (xs ys : List ℕ) → is_in m xs ≡ true → is_in m (xs ++ ys) ≡ true
in-left m xs ys h = list_any-append (λ y. y == m) xs ys ∙ or_left _ _ h

in-right : (m : ℕ) (xs ys : List ℕ) → is_in m ys ≡ true → is_in m (xs ++ ys) ≡ true
in-right m xs ys h = list_any-append (λ y. y == m) xs ys ∙ or_right _ _ h

below-append : (count : ℕ) (xs ys : List ℕ) → AreBelow count xs → AreBelow count ys → AreBelow count (xs ++ ys)
below-append count xs ys a b m h = go (in-cases m xs ys h)
  where
    go : (is_in m xs ≡ true) ⊎ (is_in m ys ≡ true) → m < count
    go (inl k) = a m k
    go (inr k) = b m k

below-cons : (count n : ℕ) (xs : List ℕ) → n < count → AreBelow count xs → AreBelow count (n ∷ xs)
below-cons count n xs h a m k = go (or_cases _ _ k)
  where
    go : ((n == m) ≡ true) ⊎ (is_in m xs ≡ true) → m < count
    go (inl e) = subst (λ (x : ℕ). x < count) (eqb-true n m e) h
    go (inr e) = a m e

below-none : (count : ℕ) → AreBelow count []
below-none count m k = absurd (true≢false (sym k))

-- what is found by a search is below what all are below
pub chosen-below : (count : ℕ) (test : ℕ → Bool) (xs : List ℕ) (m : ℕ) (o : Option ℕ) → AreBelow count xs → o ≡ find test xs → o ≡ Some m → m < count
chosen-below count test xs m o a e h = a m ((find-some test xs m (sym e ∙ h)).0)

module _ (graph : Graph) (s : Core) (book : Booked) (lists : ℕ → Versions) (count : ℕ) (w : IsWholeOf graph s book lists count) where
  Below : ℕ → Type 0
  Below m = m < count

  node-below : (m : ℕ) → m < length graph.nodes → m < count
  node-below m h = subst (λ (k : ℕ). m < k) (sym w.many) h

  below-node : (m : ℕ) → m < count → m < length graph.nodes
  below-node m h = subst (λ (k : ℕ). m < k) w.many h

  bounded : NamesNodes graph s
  bounded = names-nodes graph w.fits.is_graph s w.fits.lawful

  pub nodes-count : node_count book ≡ count
  nodes-count = ap (λ (b : Book). length b.works) w.fits.parts ∙ length-map s.cells work_in ∙ w.fits.lawful.lists ∙ sym w.many

  pub lives : (t : ℕ) → live_in book t ≡ true → live s t ≡ true
  lives t h = sym (ap (λ (b : Book). is_some (call_of b.calls t)) w.fits.parts) ∙ h

  opens-state : (t n : ℕ) → opens (bare book.book) t n ≡ true → opens s t n ≡ true
  opens-state t n h = sym (ap (λ (b : Book). opens (bare b) t n) w.fits.parts) ∙ h

  pub open-below : (t n : ℕ) → opens (bare book.book) t n ≡ true → n < count
  open-below t n h = node-below n (bounded.open_nodes t n (opens-state t n h))

  pub least-open : (t n : ℕ) → least (call_in book t).open_nodes ≡ Some n → opens (bare book.book) t n ≡ true
  least-open t n h = least-in _ n h

  pub wanted-below : (t n : ℕ) → least (call_in book t).wanted ≡ Some n → n < count
  wanted-below t n h = node-below n (bounded.wanted t n (least-in _ n (sym (ap (λ (b : Book). least (call (bare b) t).wanted) w.fits.parts) ∙ h)))

  pub look-below : (t m : ℕ) → live_in book t ≡ true → next_look_in book t ≡ Some m → m < count
  look-below t m l h = node-below m (bounded.looks t m (lives t l) (get-in (call s t).looks (length (call s t).looked) m (sym (ap (λ (b : Book). next_look (bare b) t) w.fits.parts) ∙ h)))

  pub is-list : (n : ℕ) → n < count → lists n ≡ list_of graph s n
  is-list n h = w.each n h

  state-entry : (t n : ℕ) → opens (bare book.book) t n ≡ true → has (entries s n) t ≡ true
  state-entry t n o = at-has _ (entries s n) t (opens-frame graph s w.fits.lawful t n (opens-state t n o))

  pub own-entry : (t n : ℕ) → opens (bare book.book) t n ≡ true → has (lists n).entries t ≡ true
  own-entry t n o = ap (λ (l : Versions). has l.entries t) (is-list n (open-below t n o)) ∙ state-entry t n o

  pub own-done : (t n : ℕ) → live_in book t ≡ true → opens (bare book.book) t n ≡ true → IsSome (last_done (before (lists n).entries t))
  own-done t n l o = subst (λ (x : Versions). IsSome (last_done (before x.entries t))) (sym (is-list n (open-below t n o)))
      ((lists-answer graph s w.fits.lawful).done_before n t (lives t l) (state-entry t n o))

  less : (a b : ℕ) → a < b → b < count → a < count
  less a b h k = omega (arith, h, k)

  pub inputs-below : (n : ℕ) → n < count → AreBelow count (inputs_of (node_at graph n))
  inputs-below n h m k = less m n (dep-earlier graph w.fits.is_graph s w.fits.lawful 0 n m (below-node n h) (in-left m (inputs_of (node_at graph n)) (prior_picks s 0 n) k)) h

  pub picked-below : (t n : ℕ) → n < count → AreBelow count (picked_in lists t n)
  picked-below t n h m k =
      let p = sym (ap (λ (l : Versions). is_in m (nodes_in (picks_before l.entries t))) (is-list n h)) ∙ k in
      less m n (dep-earlier graph w.fits.is_graph s w.fits.lawful t n m (below-node n h) (in-right m (inputs_of (node_at graph n)) (prior_picks s t n) p)) h

  pub found-state : (n m : ℕ) → is_in m (found_candidates (bare book.book) n) ≡ true → is_candidate s n m ≡ true
  found-state n m k =
      sym (ap (λ (c : Cell). is_in m (nodes_in (picks_of_found c.found))) (bare-cell s n))
      ∙ sym (ap (λ (b : Book). is_in m (found_candidates (bare b) n)) w.fits.parts) ∙ k

  pub found-some : (n m : ℕ) (o : Option Found) → is_in m (nodes_in (picks_of_found o)) ≡ true → is_some o ≡ true
  found-some n m None k = absurd (true≢false (sym k))
  found-some n m (Some f) k = refl

  pub found-below : (n : ℕ) → n < count → AreBelow count (found_candidates (bare book.book) n)
  found-below n h m k = go (w.fits.lawful.work_is_kept.finds n (found-some n m (cell s n).found (found-state n m k)))
    where
      go : {P : ℕ → Type 0} → SomeHead s n P → m < count
      go x = less m n (candidate-earlier graph w.fits.is_graph n m (below-node n h) (candidate-listed graph s w.fits.lawful x.head n m x.first (found-state n m k))) h

  -- ---- the same of lists that the code has

  pub picked-fit : (t n : ℕ) (xs : List ℕ) → opens (bare book.book) t n ≡ true → xs ≡ picked_in lists t n → AreBelow count xs
  picked-fit t n xs o e = subst (λ (ys : List ℕ). AreBelow count ys) (sym e) (picked-below t n (open-below t n o))

  pub found-fit : (t n : ℕ) (xs : List ℕ) → opens (bare book.book) t n ≡ true → xs ≡ found_candidates (bare book.book) n → AreBelow count xs
  found-fit t n xs o e = subst (λ (ys : List ℕ). AreBelow count ys) (sym e) (found-below n (open-below t n o))

  pub inputs-fit : (t n : ℕ) (xs : List ℕ) → opens (bare book.book) t n ≡ true → xs ≡ inputs_of (node_at graph n) → AreBelow count xs
  inputs-fit t n xs o e = subst (λ (ys : List ℕ). AreBelow count ys) (sym e) (inputs-below n (open-below t n o))

  pub counted : (xs : List ℕ) → AreBelow count xs → AreBelow (node_count book) xs
  counted xs a = subst (λ (k : ℕ). AreBelow k xs) (sym nodes-count) a

  -- ---- what comes next in the state

  reads-at-below : (t n : ℕ) → n < count → AreBelow count (reads_at graph book.book (listed lists) t n)
  reads-at-below t n h =
      below-cons count n _ h (below-append count (inputs_of (node_at graph n) ++ found_candidates (bare book.book) n) (picked_in lists t n)
      (below-append count (inputs_of (node_at graph n)) (found_candidates (bare book.book) n) (inputs-below n h) (found-below n h)) (picked-below t n h))

  reads-open-below : (t : ℕ) → live_in book t ≡ true → (o l : Option ℕ) → least (call_in book t).open_nodes ≡ o → next_look_in book t ≡ l
      → AreBelow count (reads_open graph book.book (listed lists) t o)
  reads-open-below t k (Some n) l e f = reads-at-below t n (open-below t n (least-open t n e))
  reads-open-below t k None l e f = looks l f
    where
      looks : (l : Option ℕ) → next_look_in book t ≡ l → AreBelow count (one_of (next_look_in book t))
      looks None f = subst (λ (x : Option ℕ). AreBelow count (one_of x)) (sym f) (below-none count)
      looks (Some m) f = subst (λ (x : Option ℕ). AreBelow count (one_of x)) (sym f) (below-cons count m [] (look-below t m k f) (below-none count))

  reads-first-below : (t : ℕ) (o : Option ℕ) (reads : List ℕ) → least (call_in book t).wanted ≡ o → AreBelow count reads → AreBelow count (reads_first o reads)
  reads-first-below t None reads e a = a
  reads-first-below t (Some n) reads e a = below-cons count n [] (wanted-below t n e) (below-none count)

  agree : (reads : List ℕ) → AreBelow count reads → AgreeOn reads (listed lists) (listing s)
  agree reads a m k = sym (ap (λ (l : Versions). record { entries = l.entries; outs = l.outs }) (is-list m (a m k)))

  pub turn-next : (t : ℕ) → live_in book t ≡ true → turn_in graph book lists t ≡ next graph s t
  turn-next t l =
      sym (next-reads graph book.book (listed lists) (listing s) t
      (agree _ (reads-first-below t (least (call_in book t).wanted) _ refl (reads-open-below t l (least (call_in book t).open_nodes) (next_look_in book t) refl refl))))
      ∙ ap (λ (b : Book). next_in graph b (listing s) t) w.fits.parts ∙ sym (next-same graph s t)

  pub turn-next_at : (t n : ℕ) → n < count → turn_at_in graph book lists t n ≡ next_at graph s t n
  turn-next_at t n h =
      sym (next_at-reads graph book.book (listed lists) (listing s) t n
      (agree _ (reads-first-below t (least (call_in book t).wanted) _ refl (reads-at-below t n h))))
      ∙ ap (λ (b : Book). next_at_in graph b (listing s) t n) w.fits.parts ∙ sym (next_at-same graph s t n)
