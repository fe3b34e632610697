-- What comes next for a call follows from the book and the listings that are read for it.
use Rattle.std.proofs.Common.{◌≡◌, ℕ, Bool, true, false, not, ◌&&◌, ◌||◌, ◌==◌, refl, ap, List, [], ◌∷◌, ◌++◌, find, if◌then◌else◌, is_some, is_none, ◌∙◌, Option, Some, None}
use Rattle.std.specs.List.{list_any}
use Rattle.std.proofs.lemmas.List.Folds.{list_any-append}
use Rattle.std.proofs.lemmas.Bool.{or_left, or_right}
use Rattle.signal_graph.specs.Graph.{Graph, node_at, is_in, is_source, inputs_of, body_of}
use Rattle.signal_graph.specs.Values.{nodes_in}
use Rattle.signal_graph.proofs.Members.{in_head}
use Rattle.node_versions.specs.declared.entry.Entry.{Entry}
use Rattle.node_versions.specs.Entries.{OutEdge, first_open, has, has_out, has_node}
use Rattle.flow_model.specs.declared.step.Step.{Step}
use Rattle.flow_model.specs.declared.step.Step.TheVariants as steps
use Rattle.flow_model.specs.declared.step.Cause.TheVariants.{InputOpen, NotOpen, OpenBefore}
use Rattle.flow_model.specs.declared.step.Turn.{Turn}
use Rattle.flow_model.specs.declared.step.Turn.TheVariants as turn
use Rattle.flow_model.specs.Machine.Sets.{least}
use Rattle.flow_model.specs.Machine.State.{Core, call, opens, changes, entries, outs}
use Rattle.flow_model.specs.Machine.Words.{gathered_of, picks_of_found, found_candidates, is_gathered, is_found, is_candidate, presses, next_look}
use Rattle.flow_model.specs.Machine.Steps.{has_body_value}
use Rattle.flow_model.specs.Machine.Next as Next
use Rattle.flow_model.specs.Parts.Books.{Book, Listing, book_of, listing, bare, prior_in, one_of, AgreeOn}
use Rattle.flow_model.specs.Parts.BookNext.{next_in, next_at_in, reads_at, reads_open, reads_first, reads_of_next, reads_of_next_at}
use Rattle.flow_model.proofs.Together.WorkIsAllowed.{find-some}
use Rattle.flow_model.proofs.Books.BooksAllow.{same-cell}

-- ---- from the state's book and listings

module _ (graph : Graph) (s : Core) (t : ℕ) where
  -- the state's own list and out-edges of a node, and the points over the book alone
  points-same : (given : Bool) (n : ℕ) → Next.points_at graph s (entries s) (outs s) t given n ≡ Next.points_at graph (bare (book_of s)) (entries s) (outs s) t given n
  points-same given n = λ i.
      Next.for_some (Next.other_than t (first_open (entries s n))) (λ v. turn.NotYet (OpenBefore n v))
      ∷ Next.for_some (elim given as (λ _. Option ℕ) [ true ↦ find (opens s t) (Next.rests_on graph s (entries s) (outs s) t n) | false ↦ None ]) (λ m. turn.NotYet (InputOpen m))
      ∷ Next.for_some (Next.least_version (presses s t n) s.calls) (λ u. Next.framing graph s (entries s) (outs s) t u n)
      ∷ Next.when (is_source (node_at graph n)) (turn.Step (steps.Resolve t n))
      ∷ Next.when (not (list_any (changes s t) (Next.rests_on graph s (entries s) (outs s) t n))) (turn.Step (steps.Skip t n))
      ∷ Next.for_some (find (λ m. not (is_some (gathered_of m (same-cell s n i).gathered))) (inputs_of (node_at graph n))) (λ m. Next.reading graph s (entries s) (outs s) t m (steps.Gather t n m))
      ∷ Next.when (not (is_some (same-cell s n i).found)) (turn.Step (steps.Evaluate t n))
      ∷ Next.for_some (find (Next.is_new graph s (entries s) (outs s) t n) (nodes_in (picks_of_found (same-cell s n i).found))) (λ c. Next.entering_unless graph s (entries s) (outs s) t (has (entries s c) t) c (steps.Discover t n c))
      ∷ Next.for_some (find (λ c. not (is_some (gathered_of c (same-cell s n i).gathered))) (nodes_in (picks_of_found (same-cell s n i).found))) (λ c. Next.reading_candidate graph s (entries s) (outs s) t c (steps.Gather t n c))
      ∷ Next.when (not (is_none (body_of (node_at graph n)) || is_some (same-cell s n i).body)) (turn.Step (steps.Body t n))
      ∷ Next.for_some (find (λ o. not (is_in o (nodes_in (picks_of_found (same-cell s n i).found))) && has_node (outs s o) n) (Next.picked graph s (entries s) (outs s) t n)) (λ o. Next.entering_unless graph s (entries s) (outs s) t (has (entries s o) t) o (steps.Drop t n o))
      ∷ Some (turn.Step (steps.Resolve t n)) ∷ []

  pub next-same : Next.next graph s t ≡ next_in graph (book_of s) (listing s) t
  next-same = λ i. Next.first_of (
      Next.to_frame graph s (entries s) (outs s) t
      ∷ Next.to_start graph s (entries s) (outs s) t
      ∷ Next.for_some (least (call s t).open_nodes) (λ n. Next.first_of (points-same false n i))
      ∷ Next.for_some (next_look s t) (λ m. Next.reading graph s (entries s) (outs s) t m (steps.Look t)) ∷ [])

  pub next_at-same : (n : ℕ) → Next.next_at graph s t n ≡ next_at_in graph (book_of s) (listing s) t n
  next_at-same n = λ i. Next.first_of (
      Next.to_frame graph s (entries s) (outs s) t
      ∷ Next.to_start graph s (entries s) (outs s) t
      ∷ Next.when (not (opens s t n)) (turn.NotYet (NotOpen n))
      ∷ points-same true n i)

-- ---- no other listing is read

find-in : (test : ℕ → Bool) (xs : List ℕ) (m : ℕ) → find test xs ≡ Some m → is_in m xs ≡ true
find-in test xs m h = (find-some test xs m h).0

find-alike : (f g : ℕ → Bool) (xs : List ℕ) → ((x : ℕ) → is_in x xs ≡ true → f x ≡ g x) → find f xs ≡ find g xs
find-alike f g [] h = refl
find-alike f g (x ∷ xs) h = let a = h x (in_head x xs) in let r = find-alike f g xs (λ y k. h y (or_right (x == y) (is_in y xs) k)) in both (f x) (g x) a r
  where
    both : (a c : Bool) → a ≡ c → find f xs ≡ find g xs → (if a then Some x else find f xs) ≡ (if c then Some x else find g xs)
    both true true e r = refl
    both false false e r = r
    both true false e r = cc
    both false true e r = cc

-- Turns that are alike for the elements of a list are alike for the first that passes a test.
some-alike : (test : ℕ → Bool) (xs : List ℕ) (f g : ℕ → Turn) → ((m : ℕ) → is_in m xs ≡ true → f m ≡ g m) → Next.for_some (find test xs) f ≡ Next.for_some (find test xs) g
some-alike test xs f g h = go (find test xs) refl
  where
    go : (o : Option ℕ) → find test xs ≡ o → Next.for_some o f ≡ Next.for_some o g
    go None e = refl
    go (Some m) e = ap Some (h m (find-in test xs m e))

behind : (o : Option Turn) (xs ys : List (Option Turn)) → Next.first_of xs ≡ Next.first_of ys → Next.first_of (o ∷ xs) ≡ Next.first_of (o ∷ ys)
behind None xs ys e = e
behind (Some x) xs ys e = refl

-- the lists and out-edges of listings by node
abbrev lists_of : (ℕ → Listing) → ℕ → List Entry
lists_of ls n = (ls n).entries

abbrev edges_of : (ℕ → Listing) → ℕ → List OutEdge
edges_of ls n = (ls n).outs

-- Framing and reading a node take its own listing alone.
framing-alike : (graph : Graph) (b : Book) (lists others : ℕ → Listing) (t u n : ℕ) → others n ≡ lists n
    → Next.framing graph (bare b) (lists_of others) (edges_of others) t u n ≡ Next.framing graph (bare b) (lists_of lists) (edges_of lists) t u n
framing-alike graph b lists others t u n e = ap (λ (l : Listing). Next.framing graph (bare b) (λ _. l.entries) (λ _. l.outs) t u n) e

reading-alike : (graph : Graph) (b : Book) (lists others : ℕ → Listing) (t m : ℕ) (step : Step) → others m ≡ lists m
    → Next.reading graph (bare b) (lists_of others) (edges_of others) t m step ≡ Next.reading graph (bare b) (lists_of lists) (edges_of lists) t m step
reading-alike graph b lists others t m step e = ap (λ (l : Listing). Next.reading graph (bare b) (λ _. l.entries) (λ _. l.outs) t m step) e

module _ (graph : Graph) (b : Book) (lists others : ℕ → Listing) (t n : ℕ) (h : AgreeOn (reads_at graph b lists t n) lists others) where
  own : others n ≡ lists n
  own = h n (in_head n _)

  of_input : (m : ℕ) → is_in m (inputs_of (node_at graph n)) ≡ true → others m ≡ lists m
  of_input m k = h m (or_right (n == m) (is_in m (inputs_of (node_at graph n) ++ found_candidates (bare b) n ++ prior_in (lists n) t))
      (list_any-append (λ y. y == m) (inputs_of (node_at graph n) ++ found_candidates (bare b) n) (prior_in (lists n) t) ∙ or_left _ _ (list_any-append (λ y. y == m) (inputs_of (node_at graph n)) (found_candidates (bare b) n) ∙ or_left _ _ k)))

  of_found : (m : ℕ) → is_in m (found_candidates (bare b) n) ≡ true → others m ≡ lists m
  of_found m k = h m (or_right (n == m) (is_in m (inputs_of (node_at graph n) ++ found_candidates (bare b) n ++ prior_in (lists n) t))
      (list_any-append (λ y. y == m) (inputs_of (node_at graph n) ++ found_candidates (bare b) n) (prior_in (lists n) t) ∙ or_left _ _ (list_any-append (λ y. y == m) (inputs_of (node_at graph n)) (found_candidates (bare b) n) ∙ or_right _ _ k)))

  of_prior : (m : ℕ) → is_in m (prior_in (lists n) t) ≡ true → others m ≡ lists m
  of_prior m k = h m (or_right (n == m) (is_in m (inputs_of (node_at graph n) ++ found_candidates (bare b) n ++ prior_in (lists n) t))
      (list_any-append (λ y. y == m) (inputs_of (node_at graph n) ++ found_candidates (bare b) n) (prior_in (lists n) t) ∙ or_right _ _ k))

  abbrev discovers : (ℕ → Listing) → ℕ → Turn
  discovers ls c = Next.entering_unless graph (bare b) (lists_of ls) (edges_of ls) t (has (ls c).entries t) c (steps.Discover t n c)

  abbrev drops : (ℕ → Listing) → ℕ → Turn
  drops ls o = Next.entering_unless graph (bare b) (lists_of ls) (edges_of ls) t (has (ls o).entries t) o (steps.Drop t n o)

  abbrev new : (ℕ → Listing) → ℕ → Bool
  new ls = Next.is_new graph (bare b) (lists_of ls) (edges_of ls) t n

  abbrev held : (ℕ → Listing) → ℕ → Bool
  held ls = Next.is_held graph (bare b) (lists_of ls) (edges_of ls) t n

  abbrev waiting : ℕ → Bool
  waiting c = not (is_gathered (bare b) n c)

  inputs-read : Next.for_some (find waiting (inputs_of (node_at graph n))) (λ m. Next.reading graph (bare b) (lists_of others) (edges_of others) t m (steps.Gather t n m))
      ≡ Next.for_some (find waiting (inputs_of (node_at graph n))) (λ m. Next.reading graph (bare b) (lists_of lists) (edges_of lists) t m (steps.Gather t n m))
  inputs-read = some-alike waiting (inputs_of (node_at graph n)) _ _ (λ m k. reading-alike graph b lists others t m (steps.Gather t n m) (of_input m k))

  candidates-read : Next.for_some (find waiting (found_candidates (bare b) n)) (λ c. Next.reading_candidate graph (bare b) (lists_of others) (edges_of others) t c (steps.Gather t n c))
      ≡ Next.for_some (find waiting (found_candidates (bare b) n)) (λ c. Next.reading_candidate graph (bare b) (lists_of lists) (edges_of lists) t c (steps.Gather t n c))
  candidates-read = some-alike waiting (found_candidates (bare b) n) _ _ (λ c k. ap (λ (l : Listing). Next.reading_candidate graph (bare b) (λ _. l.entries) (λ _. l.outs) t c (steps.Gather t n c)) (of_found c k))

  new-read : Next.for_some (find (new others) (found_candidates (bare b) n)) (discovers others) ≡ Next.for_some (find (new lists) (found_candidates (bare b) n)) (discovers lists)
  new-read = ap (λ (o : Option ℕ). Next.for_some o (discovers others))
      (find-alike (new others) (new lists) (found_candidates (bare b) n) (λ c k. let w = of_found c k in λ i. not (is_in c (prior_in (own i) t)) && not (has_out (w i).outs n t)))
      ∙ some-alike (new lists) (found_candidates (bare b) n) (discovers others) (discovers lists)
      (λ c k. ap (λ (l : Listing). Next.entering_unless graph (bare b) (λ _. l.entries) (λ _. l.outs) t (has l.entries t) c (steps.Discover t n c)) (of_found c k))

  held-read : Next.for_some (find (held others) (prior_in (others n) t)) (drops others) ≡ Next.for_some (find (held lists) (prior_in (lists n) t)) (drops lists)
  held-read = ap (λ (l : Listing). Next.for_some (find (held others) (prior_in l t)) (drops others)) own
      ∙ ap (λ (o : Option ℕ). Next.for_some o (drops others))
      (find-alike (held others) (held lists) (prior_in (lists n) t) (λ o k. ap (λ (l : Listing). not (is_candidate (bare b) n o) && has_node l.outs n) (of_prior o k)))
      ∙ some-alike (held lists) (prior_in (lists n) t) (drops others) (drops lists)
      (λ o k. ap (λ (l : Listing). Next.entering_unless graph (bare b) (λ _. l.entries) (λ _. l.outs) t (has l.entries t) o (steps.Drop t n o)) (of_prior o k))

  points-read : (given : Bool) → Next.points_at graph (bare b) (lists_of others) (edges_of others) t given n ≡ Next.points_at graph (bare b) (lists_of lists) (edges_of lists) t given n
  points-read given = λ i.
      Next.for_some (Next.other_than t (first_open (own i).entries)) (λ v. turn.NotYet (OpenBefore n v))
      ∷ Next.for_some (elim given as (λ _. Option ℕ) [ true ↦ find (opens (bare b) t) (inputs_of (node_at graph n) ++ prior_in (own i) t) | false ↦ None ]) (λ m. turn.NotYet (InputOpen m))
      ∷ Next.for_some (Next.least_version (presses (bare b) t n) b.calls) (λ u. framing-alike graph b lists others t u n own i)
      ∷ Next.when (is_source (node_at graph n)) (turn.Step (steps.Resolve t n))
      ∷ Next.when (not (list_any (changes (bare b) t) (inputs_of (node_at graph n) ++ prior_in (own i) t))) (turn.Step (steps.Skip t n))
      ∷ inputs-read i
      ∷ Next.when (not (is_found (bare b) n)) (turn.Step (steps.Evaluate t n))
      ∷ new-read i
      ∷ candidates-read i
      ∷ Next.when (not (has_body_value graph (bare b) n)) (turn.Step (steps.Body t n))
      ∷ held-read i
      ∷ Some (turn.Step (steps.Resolve t n)) ∷ []

-- Where other listings agree with these on the nodes that may be read, the same comes next.
pub next-reads : (graph : Graph) (b : Book) (lists others : ℕ → Listing) (t : ℕ) → AgreeOn (reads_of_next graph b lists t) lists others → next_in graph b others t ≡ next_in graph b lists t
next-reads graph b lists others t h = first (least (call (bare b) t).wanted) h
  where
    looks_at : (ℕ → Listing) → ℕ → Turn
    looks_at ls m = Next.reading graph (bare b) (lists_of ls) (edges_of ls) t m (steps.Look t)

    works_at : (ℕ → Listing) → ℕ → Turn
    works_at ls n = Next.first_of (Next.points_at graph (bare b) (lists_of ls) (edges_of ls) t false n)

    starts : Option Turn
    starts = Next.to_start graph (bare b) (lists_of lists) (edges_of lists) t

    look : (o : Option ℕ) → AgreeOn (one_of o) lists others → Next.first_of (Next.for_some o (looks_at others) ∷ []) ≡ Next.first_of (Next.for_some o (looks_at lists) ∷ [])
    look None k = refl
    look (Some m) k = reading-alike graph b lists others t m (steps.Look t) (k m (in_head m []))

    opened : (o : Option ℕ) → AgreeOn (reads_open graph b lists t o) lists others
        → Next.first_of (Next.for_some o (works_at others) ∷ Next.for_some (next_look (bare b) t) (looks_at others) ∷ []) ≡ Next.first_of (Next.for_some o (works_at lists) ∷ Next.for_some (next_look (bare b) t) (looks_at lists) ∷ [])
    opened None k = look (next_look (bare b) t) k
    opened (Some n) k = ap Next.first_of (points-read graph b lists others t n k false)

    points : (ℕ → Listing) → List (Option Turn)
    points ls = Next.for_some (least (call (bare b) t).open_nodes) (works_at ls) ∷ Next.for_some (next_look (bare b) t) (looks_at ls) ∷ []

    first : (o : Option ℕ) → AgreeOn (reads_first o (reads_open graph b lists t (least (call (bare b) t).open_nodes))) lists others
        → Next.first_of (Next.for_some o (Next.framing graph (bare b) (lists_of others) (edges_of others) t t) ∷ starts ∷ points others) ≡ Next.first_of (Next.for_some o (Next.framing graph (bare b) (lists_of lists) (edges_of lists) t t) ∷ starts ∷ points lists)
    first None k = behind starts (points others) (points lists) (opened (least (call (bare b) t).open_nodes) k)
    first (Some n) k = framing-alike graph b lists others t t n (k n (in_head n []))

-- So it is at a given node.
pub next_at-reads : (graph : Graph) (b : Book) (lists others : ℕ → Listing) (t n : ℕ) → AgreeOn (reads_of_next_at graph b lists t n) lists others → next_at_in graph b others t n ≡ next_at_in graph b lists t n
next_at-reads graph b lists others t n h = first (least (call (bare b) t).wanted) h
  where
    starts : Option Turn
    starts = Next.to_start graph (bare b) (lists_of lists) (edges_of lists) t

    not_open : Option Turn
    not_open = Next.when (not (opens (bare b) t n)) (turn.NotYet (NotOpen n))

    points : (ℕ → Listing) → List (Option Turn)
    points ls = Next.points_at graph (bare b) (lists_of ls) (edges_of ls) t true n

    first : (o : Option ℕ) → AgreeOn (reads_first o (reads_at graph b lists t n)) lists others
        → Next.first_of (Next.for_some o (Next.framing graph (bare b) (lists_of others) (edges_of others) t t) ∷ starts ∷ not_open ∷ points others) ≡ Next.first_of (Next.for_some o (Next.framing graph (bare b) (lists_of lists) (edges_of lists) t t) ∷ starts ∷ not_open ∷ points lists)
    first None k = behind starts _ _ (behind not_open (points others) (points lists) (ap Next.first_of (points-read graph b lists others t n k true)))
    first (Some m) k = framing-alike graph b lists others t t m (k m (in_head m []))
