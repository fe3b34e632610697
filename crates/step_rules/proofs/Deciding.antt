-- The book and lists decide whether a step is allowed; one that names no live call, or another node than the graph's, is not.
use Rattle.std.proofs.Common.{◌≡◌, ℕ, zero, suc, ◌<◌, ◌⊎◌, inl, inr, Bool, true, false, ◌&&◌, ◌||◌, ◌==◌, nat_lt, List, [], ◌∷◌, ◌++◌, length, Option, Some, None, refl, sym, ap, ◌∙◌, subst, arith, true≢false}
use Rattle.std.specs.Prelude.{◌≤◌, slice_index_or}
use Rattle.script_tree.specs.declared.limits.TheConstants.{NODES}
use Rattle.script_tree.proofs.Truths.{and_left, and_right}
use Rattle.flow_model.specs.Machine.Sets.{IsSet}
use Rattle.std.proofs.lemmas.Bool.{lt-ltb, or_cases, or_left, or_right, and_from, eqb-true, eq-eqb, false_from_ne_true, both_ways}
use Rattle.std.proofs.lemmas.Bool.Decides.{nat_tests}
use Rattle.std.proofs.lemmas.List.Folds.{list_any-append}
use Rattle.signal_graph.specs.Graph.{Graph, IsGraph, is_in, node_at, inputs_of}
use Rattle.signal_graph.specs.Values.{nodes_in}
use Rattle.signal_graph.proofs.Members.{get-in}
use Rattle.node_versions.specs.Entries.{Versions, served, picks_before, HasEndedPrefix}
use Rattle.flow_model.specs.declared.step.Step.{Step}
use Rattle.flow_model.specs.declared.step.Step.TheVariants as steps
use Rattle.flow_model.specs.Machine.Keys.{version_of_step}
use Rattle.flow_model.specs.Machine.State.{Core, Cell, call, live, ended, entries, no_cell}
use Rattle.flow_model.specs.Machine.Words.{heads, is_candidate, found_candidates, found_picks, picks_of_found, next_look, prior_picks}
use Rattle.flow_model.specs.Machine.Steps.{allowed}
use Rattle.flow_model.specs.Kept.Lawful.{IsLawful}
use Rattle.flow_model.specs.Parts.Books.{Book, book_of, listing, bare, allowed_in, reads_of_step, one_of, prior_in}
use Rattle.flow_model.proofs.OneStep.WhoMayStep.{at_front-heads, gather-due, evaluate-at_front, body-at_front, discover-due, drop-due}
use Rattle.flow_model.proofs.Opening.OpeningLists.{candidate-earlier}
use Rattle.flow_model.proofs.Edges.EdgesFitCandidates.{candidate-listed}
use Rattle.flow_model.proofs.Edges.DroppedAndDiscovered.{candidate-found}
use Rattle.flow_model.proofs.Wants.FramedWith.{heads-opens}
use Rattle.flow_model.proofs.Wants.EarlierNodes.{dep-earlier}
use Rattle.flow_model.proofs.Callers.StepsComeInTime.{step_of-live}
use Rattle.flow_model.proofs.Known.Bounds.{opens-node, names-nodes}
use Rattle.flow_model.proofs.Known.ListsAnswer.{lists-answer}
use Rattle.flow_model.proofs.Books.BooksAllow.{allowed-in, reads-enough, same-cell}
use Rattle.flow_model.proofs.Books.StepsChangeOneListing.{changed-node}
use Rattle.flow_model.proofs.Lengths.WorthFalls.{due-there}
use Rattle.flow_state.specs.Booked.{Booked, live_in}
use Rattle.flow_state.specs.Fitting.{IsBookOf}
use Rattle.step_rules.specs.Rests.{AreBelow}
use Rattle.step_rules.specs.Fits.{IsWholeOf, IsWhole, listed}
use Rattle.step_rules.specs.Known.{nodes_of_step, is_of_live, are_nodes, is_known}

-- ---- nodes that a state names

heads-node : (graph : Graph) (s : Core) → IsLawful graph s → (t n : ℕ) → heads s t n ≡ true → n < length graph.nodes
heads-node graph s h t n k = opens-node graph s h t n (heads-opens graph s h t n k)

candidate-node : (graph : Graph) → IsGraph graph → (s : Core) → IsLawful graph s → (n m : ℕ) → is_candidate s n m ≡ true → m < length graph.nodes
candidate-node graph g s h n m k =
    let head = h.work_is_kept.finds n (candidate-found s n m k) in
    let l = heads-node graph s h head.head n head.first in
    let e = candidate-earlier graph g n m l (candidate-listed graph s h head.head n m head.first k) in
    omega (arith, l, e)

served-cell : (n t : ℕ) (cs : List Cell) → served (slice_index_or cs n no_cell).entries t ≡ true → n < length cs
served-cell n t [] k = absurd (true≢false (sym k))
served-cell zero t (c ∷ cs) k = omega arith
served-cell (suc n) t (c ∷ cs) k = let r = served-cell n t cs k in omega (arith, r)

next-node : (graph : Graph) → IsGraph graph → (s : Core) → IsLawful graph s → (t m : ℕ) → live s t ≡ true → next_look s t ≡ Some m → m < length graph.nodes
next-node graph g s h t m alive k = (names-nodes graph g s h).looks t m alive (get-in (call s t).looks (length (call s t).looked) m k)

bare-candidate : (s : Core) (n m : ℕ) → is_candidate s n m ≡ is_candidate (bare (book_of s)) n m
bare-candidate s n m = ap (λ (c : Cell). is_in m (nodes_in (picks_of_found c.found))) (same-cell s n)

-- ---- what a step that is allowed names

one-node : (graph : Graph) (n : ℕ) → n < length graph.nodes → are_nodes graph (n ∷ []) ≡ true
one-node graph n h = ap (λ (b : Bool). b && true) (lt-ltb n (length graph.nodes) h)

two-nodes : (graph : Graph) (n m : ℕ) → n < length graph.nodes → m < length graph.nodes → are_nodes graph (n ∷ m ∷ []) ≡ true
two-nodes graph n m h k = and_from (nat_lt n (length graph.nodes)) (are_nodes graph (m ∷ [])) (lt-ltb n (length graph.nodes) h) (one-node graph m k)

allowed-nodes : (graph : Graph) → IsGraph graph → (s : Core) → IsLawful graph s → (step : Step) → allowed graph s step ≡ true → are_nodes graph (nodes_of_step step) ≡ true
allowed-nodes graph g s h (steps.Frame t n) a = one-node graph n (changed-node graph g s h (steps.Frame t n) a n refl)
allowed-nodes graph g s h (steps.Start t) a = refl
allowed-nodes graph g s h (steps.Skip t n) a = one-node graph n (changed-node graph g s h (steps.Skip t n) a n refl)
allowed-nodes graph g s h (steps.Gather t n m) a = two-nodes graph n m (due-there graph s h t n (gather-due graph s t n m a)) (subst (λ (j : ℕ). m < j) h.lists (served-cell m t s.cells (and_right _ _ a)))
allowed-nodes graph g s h (steps.Evaluate t n) a = one-node graph n (heads-node graph s h t n (at_front-heads graph s t n (evaluate-at_front graph s t n a)))
allowed-nodes graph g s h (steps.Body t n) a = one-node graph n (heads-node graph s h t n (at_front-heads graph s t n (body-at_front graph s t n a)))
allowed-nodes graph g s h (steps.Resolve t n) a = one-node graph n (changed-node graph g s h (steps.Resolve t n) a n refl)
allowed-nodes graph g s h (steps.Discover t n c) a = two-nodes graph n c (due-there graph s h t n (discover-due graph s t n c a)) (changed-node graph g s h (steps.Discover t n c) a c refl)
allowed-nodes graph g s h (steps.Drop t n o) a = two-nodes graph n o (due-there graph s h t n (drop-due graph s t n o a)) (changed-node graph g s h (steps.Drop t n o) a o refl)
allowed-nodes graph g s h (steps.Mark t m) a = one-node graph m (changed-node graph g s h (steps.Mark t m) a m refl)
allowed-nodes graph g s h (steps.Look t) a = refl
allowed-nodes graph g s h (steps.End t) a = refl
allowed-nodes graph g s h (steps.Collect n) a = one-node graph n (changed-node graph g s h (steps.Collect n) a n refl)

pub live-same : (graph : Graph) (s : Core) (book : Booked) (t : ℕ) → IsBookOf graph s book → live_in book t ≡ live s t
live-same graph s book t fits = ap (λ (b : Book). live_in (record book { book = b }) t) fits.parts

allowed-live : (graph : Graph) (s : Core) (book : Booked) (step : Step) (o : Option ℕ) → IsBookOf graph s book → version_of_step step ≡ o → allowed graph s step ≡ true → is_of_live book o ≡ true
allowed-live graph s book step None fits e a = refl
allowed-live graph s book step (Some t) fits e a = live-same graph s book t fits ∙ step_of-live graph s step t a e

-- A step that names something unknown is not allowed.
pub unknown_refused : (graph : Graph) (s : Core) (book : Booked) (lists : ℕ → Versions) (count : ℕ) (step : Step) → IsWholeOf graph s book lists count → is_known graph book step ≡ false → false ≡ allowed graph s step
unknown_refused graph s book lists count step w unknown = sym (false_from_ne_true (allowed graph s step) (λ a. both_ways _ unknown
    (and_from _ _ (allowed-live graph s book step (version_of_step step) w.fits refl a) (allowed-nodes graph w.fits.is_graph s w.fits.lawful step a))))

-- ---- what a step reads

same-listing : (graph : Graph) (s : Core) (book : Booked) (lists : ℕ → Versions) (count n : ℕ) → IsWholeOf graph s book lists count → n < length graph.nodes → listed lists n ≡ listing s n
same-listing graph s book lists count n w h = ap (λ (v : Versions). record { entries = v.entries; outs = v.outs }) (w.each n (subst (λ (j : ℕ). n < j) (sym w.many) h))

one-read : (graph : Graph) (n m : ℕ) → are_nodes graph (n ∷ []) ≡ true → is_in m (n ∷ []) ≡ true → m < length graph.nodes
one-read graph n m k i = let e = i in let j = k in grind (arith, nat_tests, e, j)

two-read : (graph : Graph) (n c m : ℕ) → are_nodes graph (n ∷ c ∷ []) ≡ true → is_in m (n ∷ c ∷ []) ≡ true → m < length graph.nodes
two-read graph n c m k i = let e = i in let j = k in grind (arith, nat_tests, e, j)

read-first : (graph : Graph) (n m : ℕ) (ns : List ℕ) → are_nodes graph (n ∷ []) ≡ true → (is_in m ns ≡ true → m < length graph.nodes) → is_in m (n ∷ ns) ≡ true → m < length graph.nodes
read-first graph n m ns k further i = go (or_cases (n == m) (is_in m ns) i)
  where
    go : ((n == m) ≡ true) ⊎ (is_in m ns ≡ true) → m < length graph.nodes
    go (inl e) = one-read graph n m k (or_left (n == m) false e)
    go (inr e) = further e

work-reads : (graph : Graph) → IsGraph graph → (s : Core) → IsLawful graph s → (t n m : ℕ) → are_nodes graph (n ∷ []) ≡ true → is_in m (found_candidates (bare (book_of s)) n ++ prior_in (listing s n) t) ≡ true → m < length graph.nodes
work-reads graph g s h t n m k i = go (or_cases _ _ (sym (list_any-append (λ y. y == m) (found_candidates (bare (book_of s)) n) (prior_in (listing s n) t)) ∙ i))
  where
    inside : n < length graph.nodes
    inside = one-read graph n n k (or_left (n == n) false (eq-eqb n n refl))

    go : (is_in m (found_candidates (bare (book_of s)) n) ≡ true) ⊎ (is_in m (prior_in (listing s n) t) ≡ true) → m < length graph.nodes
    go (inl c) = candidate-node graph g s h n m (bare-candidate s n m ∙ c)
    go (inr p) =
        let e = dep-earlier graph g s h t n m inside (list_any-append (λ y. y == m) (inputs_of (node_at graph n)) (prior_picks s t n) ∙ or_right _ _ p) in
        omega (arith, inside, e)

look-reads : (o : Option ℕ) (m : ℕ) → is_in m (one_of o) ≡ true → o ≡ Some m
look-reads None m i = absurd (true≢false (sym i))
look-reads (Some n) m i = ap (λ (j : ℕ). Some j) (eqb-true n m (first (n == m) i))
  where
    first : (b : Bool) → (b || false) ≡ true → b ≡ true
    first true k = refl
    first false k = k

step-reads : (graph : Graph) (s : Core) (book : Booked) → IsBookOf graph s book → (step : Step) → is_known graph book step ≡ true → (m : ℕ) → is_in m (reads_of_step (book_of s) (listing s) step) ≡ true → m < length graph.nodes
step-reads graph s book fits (steps.Frame t n) k m i = one-read graph n m (and_right _ _ k) i
step-reads graph s book fits (steps.Start t) k m i = absurd (true≢false (sym i))
step-reads graph s book fits (steps.Skip t n) k m i = one-read graph n m (and_right _ _ k) i
step-reads graph s book fits (steps.Gather t n c) k m i = two-read graph n c m (and_right _ _ k) i
step-reads graph s book fits (steps.Evaluate t n) k m i = one-read graph n m (and_right _ _ k) i
step-reads graph s book fits (steps.Body t n) k m i = one-read graph n m (and_right _ _ k) i
step-reads graph s book fits (steps.Discover t n c) k m i = two-read graph n c m (and_right _ _ k) i
step-reads graph s book fits (steps.Drop t n c) k m i = two-read graph n c m (and_right _ _ k) i
step-reads graph s book fits (steps.Resolve t n) k m i = read-first graph n m _ (and_right _ _ k) (work-reads graph fits.is_graph s fits.lawful t n m (and_right _ _ k)) i
step-reads graph s book fits (steps.Mark t n) k m i = read-first graph n m _ (and_right _ _ k) (opens-node graph s fits.lawful t m) i
step-reads graph s book fits (steps.Look t) k m i = next-node graph fits.is_graph s fits.lawful t m (sym (live-same graph s book t fits) ∙ and_left _ _ k) (look-reads (next_look s t) m i)
step-reads graph s book fits (steps.End t) k m i = absurd (true≢false (sym i))
step-reads graph s book fits (steps.Collect n) k m i = one-read graph n m (and_right true (are_nodes graph (n ∷ [])) k) i

-- Of another step the book and lists tell whether it is allowed.
pub known_decided : (graph : Graph) (s : Core) (book : Booked) (lists : ℕ → Versions) (count : ℕ) (step : Step) → IsWholeOf graph s book lists count → is_known graph book step ≡ true → allowed_in graph book.book (listed lists) step ≡ allowed graph s step
known_decided graph s book lists count step w known =
    ap (λ (b : Book). allowed_in graph b (listed lists) step) w.fits.parts
    ∙ reads-enough graph (book_of s) (listing s) (listed lists) step (λ m i. same-listing graph s book lists count m w (step-reads graph s book w.fits step known m i))
    ∙ sym (allowed-in graph s w.fits.lawful step)

-- ---- what code asks

pub found_below : (graph : Graph) (book : Booked) (lists : ℕ → Versions) (count n : ℕ) → IsWhole graph book lists count → AreBelow count (nodes_in (found_picks (bare book.book) n))
found_below graph book lists count n w m k =
    let fits = w.whole.fits in
    subst (λ (j : ℕ). m < j) (sym w.whole.many)
    (candidate-node graph fits.is_graph w.state fits.lawful n m (bare-candidate w.state n m ∙ subst (λ (b : Book). is_candidate (bare b) n m ≡ true) fits.parts k))

pub prior_picks_below : (graph : Graph) (book : Booked) (lists : ℕ → Versions) (count t n : ℕ) → IsWhole graph book lists count → n < count → AreBelow count (nodes_in (picks_before (lists n).entries t))
prior_picks_below graph book lists count t n w h m k =
    let s = w.state in
    let fits = w.whole.fits in
    let l = subst (λ (j : ℕ). n < j) w.whole.many h in
    let p = subst (λ (v : Versions). is_in m (nodes_in (picks_before v.entries t)) ≡ true) (w.whole.each n h) k in
    let e = dep-earlier graph fits.is_graph s fits.lawful t n m l (list_any-append (λ y. y == m) (inputs_of (node_at graph n)) (prior_picks s t n) ∙ or_right _ _ p) in
    subst (λ (j : ℕ). m < j) (sym w.whole.many) (omega (arith, l, e))

pub look_below : (graph : Graph) (book : Booked) (lists : ℕ → Versions) (count t m : ℕ) → IsWhole graph book lists count → live_in book t ≡ true → next_look (bare book.book) t ≡ Some m → m < count
look_below graph book lists count t m w alive k =
    let fits = w.whole.fits in
    subst (λ (j : ℕ). m < j) (sym w.whole.many)
    (next-node graph fits.is_graph w.state fits.lawful t m (sym (live-same graph w.state book t fits) ∙ alive) (subst (λ (b : Book). next_look (bare b) t ≡ Some m) fits.parts k))

pub open_below : (graph : Graph) (book : Booked) (lists : ℕ → Versions) (count t m : ℕ) → IsWhole graph book lists count → is_in m (call (bare book.book) t).open_nodes ≡ true → m < count
open_below graph book lists count t m w k =
    let fits = w.whole.fits in
    subst (λ (j : ℕ). m < j) (sym w.whole.many)
    (opens-node graph w.state fits.lawful t m (subst (λ (b : Book). is_in m (call (bare b) t).open_nodes ≡ true) fits.parts k))

pub ended_first : (graph : Graph) (book : Booked) (lists : ℕ → Versions) (count n : ℕ) → IsWhole graph book lists count → n < count → HasEndedPrefix (ended (bare book.book)) (lists n).entries
ended_first graph book lists count n w h =
    let s = w.state in
    let fits = w.whole.fits in
    let e = (lists-answer graph s fits.lawful).ended n (subst (λ (j : ℕ). n < j) (w.whole.many ∙ sym fits.lawful.lists) h) in
    subst (λ (v : Versions). HasEndedPrefix (ended (bare book.book)) v.entries) (sym (w.whole.each n h))
    (subst (λ (b : Book). HasEndedPrefix (ended (bare b)) (entries s n)) (sym fits.parts) e)

pub open_set : (graph : Graph) (book : Booked) (lists : ℕ → Versions) (count t : ℕ) → IsWhole graph book lists count → IsSet (call (bare book.book) t).open_nodes
open_set graph book lists count t w = subst (λ (b : Book). IsSet (call (bare b) t).open_nodes) (sym w.whole.fits.parts) (w.whole.fits.lawful.sets_are_sets.open_nodes t)

pub few_nodes : (graph : Graph) (book : Booked) (lists : ℕ → Versions) (count : ℕ) → IsWhole graph book lists count → count ≤ NODES
few_nodes graph book lists count w = subst (λ (j : ℕ). j ≤ NODES) (sym w.whole.many) w.whole.fits.is_graph.few
