-- What it asks and makes to gather a value.
use Rattle.std.proofs.Common.{◌≡◌, ℕ, suc, ◌<◌, ◌≤◌, ◌+◌, Bool, true, false, ◌||◌, ◌==◌, List, [], ◌∷◌, ◌++◌, length-append, Option, Some, None, length, map, slice_index_or, refl, sym, ap, ◌∙◌, subst, arith, true≢false, zero-add}
use Rattle.std.proofs.lemmas.Bool.{eqb-true, false_from_ne_true, not-true}
use Rattle.std.specs.Option.{IsSome, is_some}
use Rattle.script_tree.specs.declared.limits.TheConstants.{SELECTORS}
use Rattle.script_tree.specs.declared.value.Value.{Value}
use Rattle.script_tree.proofs.Truths.{and_left, and_right}
use Rattle.script_tree.proofs.Numbers.{equal_to_itself}
use Rattle.signal_graph.specs.declared.node.Node.{Node}
use Rattle.signal_graph.specs.declared.node.Node.TheVariants.{Source, Signal, Fold, Choose}
use Rattle.signal_graph.specs.Graph.{Graph, IsGraph, IsNode, node_at, inputs_of, is_in}
use Rattle.signal_graph.proofs.Members.{read-from, nodes_in-length}
use Rattle.node_versions.specs.Entries.{Versions, has, up_to, last_done, value_at}
use Rattle.flow_model.specs.declared.step.Step.TheVariants.{Gather}
use Rattle.flow_model.specs.Machine.State.{Core, Found, cell, entries, live}
use Rattle.flow_model.specs.Machine.Words.{gathered_of, found_picks, found_candidates, picks_of_found, heads, finds}
use Rattle.flow_model.specs.Machine.Steps.{allowed, gather}
use Rattle.flow_model.specs.Kept.Lawful.{IsLawful}
use Rattle.flow_model.proofs.OneStep.WhoMayStep.{gather-due, at_front-heads, at_front-executes, executes-live}
use Rattle.flow_model.proofs.OneStep.WhoMayStep.{due-can_work}
use Rattle.flow_model.proofs.OneStep.WhoMayStep.{can_work-at_front}
use Rattle.flow_model.proofs.OrderStays.OpenNodesHaveFrames.{entry-there}
use Rattle.flow_model.proofs.Opening.OpeningLists.{nodes-at}
use Rattle.flow_model.proofs.Books.StepsChangeBooks.{changed-works}
use Rattle.flow_state.specs.Booked.{AreApart, Booked, node_count as nodes_of, work_at, on_work, room_at}
use Rattle.flow_model.specs.Parts.Books.{Work, book_of, with_gathered, Book}
use Rattle.flow_state.specs.Fitting.{IsBookOf, IsListStep, MakesRead}
use Rattle.flow_state.proofs.Fits.{fits_node, same_work, lawful_up_to, heads_has}
use Rattle.flow_state.proofs.Gathered.{first}
use Rattle.sweep.proofs.Looks.{served-has}

-- ---- no more values than nodes

-- a list without the first of a number
abbrev less : ℕ → List ℕ → List ℕ
less m [] = []
less m (x ∷ xs) = elim (x == m) [ true ↦ xs | false ↦ x ∷ less m xs ]

less-length : (m : ℕ) (xs : List ℕ) → is_in m xs ≡ true → suc (length (less m xs)) ≡ length xs
less-length m [] h = absurd (true≢false (sym h))
less-length m (x ∷ xs) h = go (x == m) (less-length m xs) h
  where
    go : (b : Bool) → (is_in m xs ≡ true → suc (length (less m xs)) ≡ length xs) → (b || is_in m xs) ≡ true → suc (length {A = ℕ} (elim b [ true ↦ xs | false ↦ x ∷ less m xs ])) ≡ suc (length xs)
    go true r k = refl
    go false r k = ap suc (r k)

less-in : (m n : ℕ) (xs : List ℕ) → (m == n) ≡ false → is_in n xs ≡ true → is_in n (less m xs) ≡ true
less-in m n [] other h = h
less-in m n (x ∷ xs) other h = go (x == m) refl (less-in m n xs other) h
  where
    go : (b : Bool) → (x == m) ≡ b → (is_in n xs ≡ true → is_in n (less m xs) ≡ true) → ((x == n) || is_in n xs) ≡ true → is_in n (elim b [ true ↦ xs | false ↦ x ∷ less m xs ]) ≡ true
    go true i r k = past (x == n) (ap (λ (j : ℕ). j == n) (eqb-true x m i) ∙ other) k
      where
        past : (b : Bool) → b ≡ false → (b || is_in n xs) ≡ true → is_in n xs ≡ true
        past false i k = k
        past true i k = absurd (true≢false i)
    go false i r k = further (x == n) k r
      where
        further : (b : Bool) → (b || is_in n xs) ≡ true → (is_in n xs ≡ true → is_in n (less m xs) ≡ true) → (b || is_in n (less m xs)) ≡ true
        further true k r = refl
        further false k r = r k

first_more : (b : Bool) (v : Value) (o : Option Value) → is_some o ≡ true → is_some (first b v o) ≡ true
first_more true v o h = refl
first_more false v o h = h

pigeons : (ps : List (ℕ × Value)) (ms : List ℕ) → AreApart ps → ((n : ℕ) → is_some (gathered_of n ps) ≡ true → is_in n ms ≡ true) → length ps ≤ length ms
pigeons [] ms apart all = omega arith
pigeons (p ∷ ps) ms apart all =
    let here = less-length p.0 ms (all p.0 (ap (λ (b : Bool). is_some (first b p.1 (gathered_of p.0 ps))) (equal_to_itself p.0))) in
    let rest = pigeons ps (less p.0 ms) apart.1 (λ n h. less-in p.0 n ms (other n h) (all n (first_more (p.0 == n) p.1 (gathered_of n ps) h))) in
    omega (arith, here, rest)
  where
    other : (n : ℕ) → is_some (gathered_of n ps) ≡ true → (p.0 == n) ≡ false
    other n h = false_from_ne_true (p.0 == n) (λ e. true≢false (sym h ∙ ap (λ (m : ℕ). is_some (gathered_of m ps)) (sym (eqb-true p.0 n e)) ∙ ap is_some apart.0))

-- ---- few candidates are found

length-taken : {A B C : Type 0} (f : B → C) (g : A → B) (xs : List A) → length (map f (map g xs)) ≡ length xs
length-taken f g [] = refl
length-taken f g (x ∷ xs) = ap suc (length-taken f g xs)

finds-few : (names : List (List ℕ)) (n : ℕ) (node : Node) (read : ℕ → Value) (acc : Value) → IsNode names n node → length (picks_of_found (Some (finds node read acc))) ≤ SELECTORS
finds-few names n (Source v) read acc a = omega arith
finds-few names n (Signal script inputs) read acc a = omega arith
finds-few names n (Fold v script inputs) read acc a = omega arith
finds-few names n (Choose selectors body inputs) read acc a = subst (λ (k : ℕ). k ≤ SELECTORS) (sym (length-taken _ _ selectors)) a.1

pub found-few : (graph : Graph) (s : Core) (n t : ℕ) → IsGraph graph → IsLawful graph s → n < length s.cells → heads s t n ≡ true → length (found_picks s n) ≤ SELECTORS
found-few graph s n t is_graph lawful inside h = go (cell s n).found refl
  where
    is_node : IsNode graph.names (0 + n) (node_at graph n)
    is_node = nodes-at graph.names 0 graph.nodes n _ is_graph.nodes (let l = lawful.lists in omega (arith, l, inside))

    go : (o : Option Found) → (cell s n).found ≡ o → length (picks_of_found (cell s n).found) ≤ SELECTORS
    go None e = subst (λ (o : Option Found). length (picks_of_found o) ≤ SELECTORS) (sym e) (omega arith)
    go (Some f) e = subst (λ (o : Option Found). length (picks_of_found o) ≤ SELECTORS) (sym (e ∙ ap Some (lawful.values_are_read.found t n f h e))) (finds-few graph.names (0 + n) (node_at graph n) _ _ is_node)

-- ---- what the step asks for

abbrev pub IsGather : Booked → Versions → ℕ → ℕ → ℕ → Type 0
IsGather book list t n m = (graph : Graph) × IsListStep graph book m list (Gather t n m)

gather_heads : (graph : Graph) (s : Core) (t n m : ℕ) → allowed graph s (Gather t n m) ≡ true → heads s t n ≡ true
gather_heads graph s t n m h = at_front-heads graph s t n (can_work-at_front graph s t n (due-can_work graph s t n (gather-due graph s t n m h)))

gather_live : (graph : Graph) (s : Core) (t n m : ℕ) → allowed graph s (Gather t n m) ≡ true → live s t ≡ true
gather_live graph s t n m h = executes-live s t (at_front-executes graph s t n (can_work-at_front graph s t n (due-can_work graph s t n (gather-due graph s t n m h))))

gather_inside : (graph : Graph) (s : Core) (t n m : ℕ) → IsLawful graph s → allowed graph s (Gather t n m) ≡ true → n < length s.cells
gather_inside graph s t n m lawful h = entry-there s n t (heads_has graph s n t lawful (gather_heads graph s t n m h))

gather_has : (graph : Graph) (s : Core) (t n m : ℕ) → allowed graph s (Gather t n m) ≡ true → has (entries s m) t ≡ true
gather_has graph s t n m h = served-has (entries s m) t (and_right _ _ h)

gather_new : (graph : Graph) (s : Core) (t n m : ℕ) → allowed graph s (Gather t n m) ≡ true → gathered_of m (cell s n).gathered ≡ None
gather_new graph s t n m h = go (gathered_of m (cell s n).gathered) (not-true _ (and_right _ _ (and_left _ _ h)))
  where
    go : (o : Option Value) → is_some o ≡ false → o ≡ None
    go None k = refl
    go (Some v) k = absurd (true≢false k)

gather_room : (graph : Graph) (s : Core) (t n m : ℕ) → IsGraph graph → IsLawful graph s → allowed graph s (Gather t n m) ≡ true → AreApart (cell s n).gathered → length (cell s n).gathered < room_at graph n
gather_room graph s t n m is_graph lawful h apart =
    let most = pigeons ((m, value_at [] t) ∷ (cell s n).gathered) (inputs ++ candidates) (gather_new graph s t n m h, apart) all in
    let few = found-few graph s n t is_graph lawful (gather_inside graph s t n m lawful h) (gather_heads graph s t n m h) in
    let fewer = nodes_in-length (found_picks s n) in
    let both = length-append inputs candidates in
    omega (arith, most, few, fewer, both)
  where
    inputs : List ℕ
    inputs = inputs_of (node_at graph n)

    candidates : List ℕ
    candidates = found_candidates s n

    is_in-append : (x : ℕ) (xs ys : List ℕ) → (is_in x xs || is_in x ys) ≡ true → is_in x (xs ++ ys) ≡ true
    is_in-append x [] ys k = k
    is_in-append x (y ∷ xs) ys k = further (y == x) k (is_in-append x xs ys)
      where
        further : (b : Bool) → ((b || is_in x xs) || is_in x ys) ≡ true → ((is_in x xs || is_in x ys) ≡ true → is_in x (xs ++ ys) ≡ true) → (b || is_in x (xs ++ ys)) ≡ true
        further true k r = refl
        further false k r = r k

    all : (x : ℕ) → is_some (gathered_of x ((m, value_at [] t) ∷ (cell s n).gathered)) ≡ true → is_in x (inputs ++ candidates) ≡ true
    all x k = is_in-append x inputs candidates (go (m == x) refl k)
      where
        go : (b : Bool) → (m == x) ≡ b → is_some (first b (value_at [] t) (gathered_of x (cell s n).gathered)) ≡ true → (is_in x inputs || is_in x candidates) ≡ true
        go true i k = subst (λ (y : ℕ). (is_in y inputs || is_in y candidates) ≡ true) (eqb-true m x i) (and_right _ _ (and_left _ _ (and_left _ _ h)))
        go false i k = lawful.work_is_kept.gathers_right n x k

-- ---- in a book and a list

same_room : (graph : Graph) (s : Core) (book : Booked) (n : ℕ) → IsBookOf graph s book → n < length s.cells → slice_index_or book.room_for n 0 ≡ room_at graph n
same_room graph s book n fits h = ap (λ (rs : List ℕ). slice_index_or rs n 0) fits.room_for ∙ read-from (room_at graph) 0 0 graph.nodes n (let l = fits.lawful.lists in omega (arith, l, h)) ∙ ap (room_at graph) (zero-add n)

pub gather-has : (book : Booked) (list : Versions) (t n m : ℕ) → IsGather book list t n m → has list.entries t ≡ true
gather-has book list t n m h = ap (λ (l : Versions). has l.entries t) h.1.is_list ∙ gather_has h.0 h.1.state t n m h.1.allowed

pub gather-done : (book : Booked) (list : Versions) (t n m : ℕ) → IsGather book list t n m → IsSome (last_done (up_to list.entries t))
gather-done book list t n m h = subst (λ (l : Versions). IsSome (last_done (up_to l.entries t))) (sym h.1.is_list) (lawful_up_to h.0 h.1.state m t h.1.fits.lawful (gather_live h.0 h.1.state t n m h.1.allowed) (gather_has h.0 h.1.state t n m h.1.allowed))

pub gather-node : (book : Booked) (list : Versions) (t n m : ℕ) → IsGather book list t n m → n < nodes_of book
gather-node book list t n m h = fits_node h.0 h.1.state book n h.1.fits (gather_inside h.0 h.1.state t n m h.1.fits.lawful h.1.allowed)

pub gather-new : (book : Booked) (list : Versions) (t n m : ℕ) → IsGather book list t n m → gathered_of m (work_at book n).gathered ≡ None
gather-new book list t n m h = ap (λ (w : Work). gathered_of m w.gathered) (same_work h.0 h.1.state book n h.1.fits) ∙ gather_new h.0 h.1.state t n m h.1.allowed

pub gather-room : (book : Booked) (list : Versions) (t n m : ℕ) → IsGather book list t n m → AreApart (work_at book n).gathered → length (work_at book n).gathered < slice_index_or book.room_for n 0
gather-room book list t n m h apart =
    let s = h.1.state in
    let work = same_work h.0 s book n h.1.fits in
    let room = same_room h.0 s book n h.1.fits (gather_inside h.0 s t n m h.1.fits.lawful h.1.allowed) in
    let fits = gather_room h.0 s t n m h.1.fits.is_graph h.1.fits.lawful h.1.allowed (subst (λ (w : Work). AreApart w.gathered) work apart) in
    let len = ap (λ (w : Work). length w.gathered) work in
    omega (arith, len, room, fits)

pub gather-makes : (book new : Booked) (list : Versions) (t n m : ℕ) (v : Value) → v ≡ value_at list.entries t → new ≡ on_work book n (with_gathered m v) → (graph : Graph) → MakesRead graph book m list (Gather t n m) new
gather-makes book new list t n m v value is graph s fits is_list h =
    is ∙ ap (λ (v : Value). on_work book n (with_gathered m v)) (value ∙ ap (λ (l : Versions). value_at l.entries t) is_list)
    ∙ ap (λ (f : Book). on_work (record book { book = f }) n (with_gathered m (value_at (entries s m) t))) fits.parts
    ∙ ap (λ (ws : List Work). record book { book = record (book_of s) { works = ws } }) (sym (changed-works n (gather m (value_at (entries s m) t)) (with_gathered m (value_at (entries s m) t)) (λ c. refl) s.cells))
