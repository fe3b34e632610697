-- A node that reacts once a call has its Frame reacted before, or has an out-edge that is active for the call.
use Rattle.std.proofs.Common.{◌≡◌, ℕ, Bool, true, false, ◌&&◌, ◌||◌, not, ◌==◌, ◌⊎◌, inl, inr, refl, sym, ap, arith, List, [], ◌∷◌, true≢false, ◌∙◌, subst, Option, Some, None}
use Rattle.std.proofs.lemmas.Bool.{or_cases, or_left, or_right, and_parts, and_from, eqb-true, eq-eqb, both_ways, cases_Bool, true_from_ne_false}
use Rattle.std.specs.Prelude.{slice_get, is_some}
use Rattle.std.specs.List.{list_any}
use Rattle.signal_graph.specs.Graph.{Graph, is_in}
use Rattle.node_versions.specs.declared.entry.Entry.{Entry}
use Rattle.node_versions.specs.Entries.{OutEdge, IsUnique, has, at, is_frame, is_done, behind, first_open, is_active, has_out, has_node, active_nodes}
use Rattle.flow_model.specs.Machine.State.{Core, live, executes, is_framing, entries, outs, wants}
use Rattle.flow_model.specs.Machine.Words.{heads, is_prior}
use Rattle.flow_model.specs.Kept.Runs.{Run, Reading, read_all, nothing_read, last_run, discovered, runs, is_from, is_until, covers, reacts, settles, IsSettled, by_node}
use Rattle.flow_model.specs.Kept.Lawful.{IsLawful, IsRunEdge, IsNewEdge, IsKeyOf, picks_last, last_run_of}
use Rattle.flow_model.proofs.OneStep.WhoMayStep.{wants-live, opens-live}
use Rattle.flow_model.proofs.OneList.StatesAndPlaces.{first_open-frame}
use Rattle.flow_model.proofs.OrderStays.NoFrameBeforeDones.{head-first}
use Rattle.flow_model.proofs.Wants.FramedWith.{heads-opens, not_up_to-behind}
use Rattle.flow_model.proofs.Reactions.WhereRunsBegin.{seen-all, run-begins}
use Rattle.flow_model.proofs.Reactions.RunsThatHaveEnded.{IsLeft, closed-left, not_both}
use Rattle.flow_model.proofs.Reactions.WhoReacts.{dropper_in, runs_in, same-runs, any-parts, any-map, covers-parts, reacts-back}
use Rattle.flow_model.proofs.FramesSpread.AfterDiscover.{head-prior}
use Rattle.flow_model.proofs.FramesSpread.AfterDones.{left-settles}
use Rattle.flow_model.proofs.General.AnyAndAll.{only}

-- What is known of the state in which the call has its Frame, before the node is open for it.
pub record IsFramed (graph : Graph) (s q : Core) (t m0 : ℕ) : Type 0 where
  pub other : (n : ℕ) → (n == m0) ≡ false → entries q n ≡ entries s n
  pub edges : (m : ℕ) → outs q m ≡ outs s m
  pub lives : (z : ℕ) → live q z ≡ true → live s z ≡ true
  pub back : (u m n : ℕ) → ((t == u) ≡ false) ⊎ ((m == m0) ≡ false) → (i : ℕ) (r : Run) → slice_get (runs s n m) i ≡ Some r → covers q m u r ≡ true → covers s m u r ≡ true
  pub one : IsUnique (entries q m0)
  pub reading : (m : ℕ) → read_all m (entries q m0) nothing_read ≡ read_all m (entries s m0) nothing_read
  pub frame_of : (u : ℕ) → at is_frame (entries q m0) u ≡ true → (u == t) ≡ false → at is_frame (entries s m0) u ≡ true
  -- an executing call that is first stays first
  pub head : (z : ℕ) → heads s z m0 ≡ true → executes s z ≡ true → first_open (entries q m0) ≡ Some z
  -- the Frame stands before no settled entry
  pub settled : (z : ℕ) → live s z ≡ true → executes s z ≡ true → IsSettled graph s z m0 → behind (entries q m0) t z ≡ true → ⊥
  pub ended : (z : ℕ) → live s z ≡ false → behind (entries q m0) t z ≡ true → ⊥
  pub entry : has (entries q m0) t ≡ true

-- ---- the other Frames

-- No edge is of the framing call, and one of another call with a Frame is of the first.
pub edge-head : (graph : Graph) (s : Core) → IsLawful graph s → (n m u : ℕ) → live s u ≡ true → at is_done (entries s n) u ≡ false → has_out (outs s m) n u ≡ true → heads s u n ≡ true
edge-head graph s h n m u lu nd e = go (h.edges_are_kept.stands n m u e)
  where
    key : (c : Option Run) → last_run_of s n m ≡ c → IsKeyOf s u c → ⊥
    key None x k = k
    key (Some r) x k = begins r.begins refl k
      where
        begins : (z : Option ℕ) → r.begins ≡ z → IsKeyOf s u (Some (record r { begins = z })) → ⊥
        begins None y k = both_ways _ k lu
        begins (Some b) y k = both_ways _ nd (subst (λ (v : ℕ). at is_done (entries s n) v ≡ true) (sym k) (run-begins m (entries s n) r b (h.one_entry n) x y).done)

    go : IsRunEdge s n m u ⊎ IsNewEdge s n m u → heads s u n ≡ true
    go (inl k) = absurd (key (last_run_of s n m) refl k.key)
    go (inr k) = k.first_open

pub framed-any : (graph : Graph) (s : Core) → IsLawful graph s → (q : Core) (t m0 : ℕ) → wants s t m0 ≡ true → IsFramed graph s q t m0 → (m : ℕ) (test : Run → Bool)
    → list_any test (runs_in (entries q m0) (outs s m) m0 m) ≡ true → list_any test (runs_in (entries s m0) (outs s m) m0 m) ≡ true
framed-any graph s h q t m0 w fr m test k = any-parts test es os m0 m ∙ parts (or_cases _ _ (sym (any-parts test after os m0 m) ∙ k))
  where
    es : List Entry
    es = entries s m0

    after : List Entry
    after = entries q m0

    os : List OutEdge
    os = outs s m

    r0 : Reading
    r0 = read_all m es nothing_read

    Result : Type 0
    Result = ((list_any test r0.closed || list_any test (last_run r0.current (dropper_in es os m0))) || list_any test (discovered (first_open es) m0 os)) ≡ true

    by_last : list_any test (last_run r0.current (dropper_in es os m0)) ≡ true → Result
    by_last a = or_left (list_any test r0.closed || list_any test (last_run r0.current (dropper_in es os m0))) (list_any test (discovered (first_open es) m0 os)) (or_right (list_any test r0.closed) (list_any test (last_run r0.current (dropper_in es os m0))) a)

    by_closed : list_any test r0.closed ≡ true → Result
    by_closed a = or_left (list_any test r0.closed || list_any test (last_run r0.current (dropper_in es os m0))) (list_any test (discovered (first_open es) m0 os)) (or_left (list_any test r0.closed) (list_any test (last_run r0.current (dropper_in es os m0))) a)

    by_new : list_any test (discovered (first_open es) m0 os) ≡ true → Result
    by_new a = or_right (list_any test r0.closed || list_any test (last_run r0.current (dropper_in es os m0))) (list_any test (discovered (first_open es) m0 os)) a

    -- where the last run has no edge, the first open call works there, and stays first
    same_dropper : (c : Option Run) → r0.current ≡ c → list_any test (last_run c (dropper_in after os m0)) ≡ true → list_any test (last_run c (dropper_in es os m0)) ≡ true
    same_dropper None e a = a
    same_dropper (Some r) e a = cases (has_node os m0) refl
      where
        missing : has_node os m0 ≡ false → first_open after ≡ first_open es
        missing x =
            let z = h.edges_are_kept.missing m0 m (sym (seen-all m es) ∙ ap is_some e) x in
            let f = h.work_is_kept.finds m0 z.holds in
            fr.head f.head f.first f.holds.executing ∙ sym (head-first es f.head f.first)

        cases : (b : Bool) → has_node os m0 ≡ b → list_any test (last_run (Some r) (dropper_in es os m0)) ≡ true
        cases true x = let p : dropper_in after os m0 ≡ None = rw (x, dropper_in) refl in let p2 : dropper_in es os m0 ≡ None = rw (x, dropper_in) refl in subst (λ (o : Option ℕ). list_any test (last_run (Some r) o) ≡ true) (p ∙ sym p2) a
        cases false x = let p : dropper_in after os m0 ≡ first_open after = rw (x, dropper_in) refl in let p2 : dropper_in es os m0 ≡ first_open es = rw (x, dropper_in) refl in subst (λ (o : Option ℕ). list_any test (last_run (Some r) o) ≡ true) (p ∙ missing x ∙ sym p2) a

    new : (c : Option ℕ) → first_open after ≡ c → list_any test (discovered c m0 os) ≡ true → Result
    new None e a = absurd (true≢false (sym a))
    new (Some u) e a = cases (has_out os m0 u) refl a
      where
        first : has_out os m0 u ≡ true → first_open es ≡ Some u
        first x = go (cases_Bool (u == t))
          where
            go : ((u == t) ≡ true) ⊎ ((u == t) ≡ false) → first_open es ≡ Some u
            go (inl y) =
                let v = eqb-true u t y in
                let x2 : has_out os m0 t ≡ true = subst (λ (j : ℕ). has_out os m0 j ≡ true) v x in
                let f = h.wants_are_free t m0 w in
                absurd (both_ways _ f.not_open (heads-opens graph s h t m0 (edge-head graph s h m0 m t (wants-live s t m0 w) f.not_done x2)))
            go (inr y) =
                let f = fr.frame_of u (first_open-frame after u fr.one e) y in
                head-first es u (edge-head graph s h m0 m u (opens-live s u m0 (h.frames_are_open.opens_frames u m0 ∙ f)) (not_both es u f) x)

        cases : (b : Bool) → has_out os m0 u ≡ b → list_any test (elim b as (λ _. List Run) [ true ↦ record { begins = Some u; ends = None } ∷ [] | false ↦ [] ]) ≡ true → Result
        cases false x y = absurd (true≢false (sym y))
        cases true x y = by_new (subst (λ (o : Option ℕ). list_any test (discovered o m0 os) ≡ true) (sym (first x)) (rw (x, discovered) y))

    parts : ((list_any test (read_all m after nothing_read).closed || list_any test (last_run (read_all m after nothing_read).current (dropper_in after os m0))) ≡ true) ⊎ (list_any test (discovered (first_open after) m0 os) ≡ true) → Result
    parts (inr a) = new (first_open after) refl a
    parts (inl a) = two (or_cases (list_any test r0.closed) (list_any test (last_run r0.current (dropper_in after os m0))) (subst (λ (x : Reading). (list_any test x.closed || list_any test (last_run x.current (dropper_in after os m0))) ≡ true) (fr.reading m) a))
      where
        two : (list_any test r0.closed ≡ true) ⊎ (list_any test (last_run r0.current (dropper_in after os m0)) ≡ true) → Result
        two (inl x) = by_closed x
        two (inr x) = by_last (same_dropper r0.current refl x)

pub framed-back : (graph : Graph) (s : Core) → IsLawful graph s → (q : Core) (t m0 : ℕ) → wants s t m0 ≡ true → IsFramed graph s q t m0 → (u m n : ℕ) → ((t == u) ≡ false) ⊎ ((m == m0) ≡ false) → reacts graph q u m n ≡ true → reacts graph s u m n ≡ true
framed-back graph s h q t m0 w fr u m n ne k = reacts-back graph s q u m n (λ a. any-map (covers q m u) (covers s m u) (runs s n m) (fr.back u m n ne) (before (cases_Bool (n == m0)) a)) k
  where
    before : ((n == m0) ≡ true) ⊎ ((n == m0) ≡ false) → list_any (covers q m u) (runs q n m) ≡ true → list_any (covers q m u) (runs s n m) ≡ true
    before (inr x) a = subst (λ (rs : List Run). list_any (covers q m u) rs ≡ true) (same-runs s q n m (fr.other n x) (fr.edges m)) a
    before (inl x) a =
        let e = eqb-true n m0 x in
        let a1 = subst (λ (os : List OutEdge). list_any (covers q m u) (runs_in (entries q n) os n m) ≡ true) (fr.edges m) a in
        let a2 = subst (λ (j : ℕ). list_any (covers q m u) (runs_in (entries q j) (outs s m) j m) ≡ true) e a1 in
        subst (λ (j : ℕ). list_any (covers q m u) (runs_in (entries s j) (outs s m) j m) ≡ true) (sym e) (framed-any graph s h q t m0 w fr m (covers q m u) a2)

-- ---- the new Frame

pub some-edge : (os : List OutEdge) (n : ℕ) → has_node os n ≡ true → (since : ℕ) × (has_out os n since ≡ true)
some-edge [] n h = absurd (true≢false (sym h))
some-edge (edge ∷ os) n h = go (or_cases _ _ h) (some-edge os n)
  where
    go : ((edge.0 == n) ≡ true) ⊎ (has_node os n ≡ true) → (has_node os n ≡ true → (since : ℕ) × (has_out os n since ≡ true)) → (since : ℕ) × (has_out (edge ∷ os) n since ≡ true)
    go (inl x) further = (edge.1, or_left _ _ (and_from _ _ x (eq-eqb edge.1 edge.1 refl)))
    go (inr x) further = let r = further x in (r.0, or_right _ _ r.1)

edge-active : (es : List Entry) (os : List OutEdge) (n since t : ℕ) → has_out os n since ≡ true → is_active es since t ≡ true → is_in n (active_nodes es os t) ≡ true
edge-active es [] n since t h k = h
edge-active es (edge ∷ os) n since t h k = go (or_cases _ _ h) (edge-active es os n since t)
  where
    later : (b : Bool) → is_in n (active_nodes es os t) ≡ true → is_in n (elim b as (λ _. List ℕ) [ true ↦ edge.0 ∷ active_nodes es os t | false ↦ active_nodes es os t ]) ≡ true
    later true a = or_right _ _ a
    later false a = a

    here : (b : Bool) → b ≡ true → (edge.0 == n) ≡ true → is_in n (elim b as (λ _. List ℕ) [ true ↦ edge.0 ∷ active_nodes es os t | false ↦ active_nodes es os t ]) ≡ true
    here true e x = or_left _ _ x
    here false e x = absurd (true≢false (sym e))

    go : (((edge.0 == n) && (edge.1 == since)) ≡ true) ⊎ (has_out os n since ≡ true) → (has_out os n since ≡ true → is_active es since t ≡ true → is_in n (active_nodes es os t) ≡ true) → is_in n (active_nodes es (edge ∷ os) t) ≡ true
    go (inl x) further = let p = and_parts (edge.0 == n) (edge.1 == since) x in here (is_active es edge.1 t) (subst (λ (z : ℕ). is_active es z t ≡ true) (sym (eqb-true edge.1 since p.1)) k) p.0
    go (inr x) further = later (is_active es edge.1 t) (further x k)

dropped-settles : (graph : Graph) (s : Core) (z n m : ℕ) → is_prior s z n m ≡ true → heads s z n ≡ true → has_node (outs s m) n ≡ false → settles graph s z m n ≡ true
dropped-settles graph s z n m p d k = or_left _ _ (or_right _ _ (and_from _ _ p (or_right _ _ (and_from _ _ d (turned _ k)))))
  where
    turned : (a : Bool) → a ≡ false → not a ≡ true
    turned a e = grind (arith, e)

-- A node with a run that covers the new Frame's call has an out-edge that is active for it.
pub framed-active : (graph : Graph) (s : Core) → IsLawful graph s → (q : Core) (t m0 : ℕ) → live s t ≡ true → IsFramed graph s q t m0 → (n : ℕ) → (n == m0) ≡ false → list_any (covers q m0 t) (runs s n m0) ≡ true → is_in n (active_nodes (entries q m0) (outs s m0) t) ≡ true
framed-active graph s h q t m0 lt fr n ne k = parts (or_cases _ _ (sym (any-parts test (entries s n) (outs s m0) n m0) ∙ k))
  where
    test : Run → Bool
    test = covers q m0 t

    r0 : Reading
    r0 = read_all m0 (entries s n) nothing_read

    Goal : Type 0
    Goal = is_in n (active_nodes (entries q m0) (outs s m0) t) ≡ true

    until_at : (r : Run) (z : ℕ) → r.ends ≡ Some z → test r ≡ true → (live s z ≡ true) × (behind (entries q m0) t z ≡ true)
    until_at r z e a =
        let c = covers-parts q m0 t r a in
        let b : (live q z && behind (entries q m0) t z) ≡ true = subst (λ (o : Option ℕ). is_until q m0 o t ≡ true) e c.until in
        let p = and_parts (live q z) (behind (entries q m0) t z) b in
        (fr.lives z p.0, p.1)

    runs_if : (z : ℕ) → live s z ≡ true → at is_done (entries s n) z ≡ true → executes s z ≡ true
    runs_if z l d = true_from_ne_false _ (λ e. both_ways _ (h.framing_comes_last.no_done z n (let f : is_framing s z ≡ true = grind (arith, e, l) in f)) d)

    left : IsLeft test m0 (entries s n) → Goal
    left l =
        let p = until_at l.run l.call l.ends l.taken in
        absurd (fr.settled l.call p.0 (runs_if l.call p.0 l.done) (by_node n (left-settles graph s l.call n m0 l.prior l.done l.now)) p.1)

    -- the edge of the run in which the list ends
    with_edge : (r : Run) → last_run_of s n m0 ≡ Some r → is_from q m0 r.begins t ≡ true → has_node (outs s m0) n ≡ true → Goal
    with_edge r e f o = go (some-edge (outs s m0) n o)
      where
        go : (since : ℕ) × (has_out (outs s m0) n since ≡ true) → Goal
        go x = stands (h.edges_are_kept.stands n m0 x.0 x.1)
          where
            ended_active : live s x.0 ≡ false → is_active (entries q m0) x.0 t ≡ true
            ended_active d = true_from_ne_false _ (λ y. fr.ended x.0 d (not_up_to-behind (entries q m0) t x.0 fr.entry y))

            keyed : (z : Option ℕ) → r.begins ≡ z → IsKeyOf s x.0 (Some (record r { begins = z })) → is_from q m0 z t ≡ true → Goal
            keyed None y w a = edge-active (entries q m0) (outs s m0) n x.0 t x.1 (ended_active w)
            keyed (Some b) y w a = edge-active (entries q m0) (outs s m0) n x.0 t x.1 (subst (λ (j : ℕ). is_active (entries q m0) j t ≡ true) (sym w) a)

            stands : IsRunEdge s n m0 x.0 ⊎ IsNewEdge s n m0 x.0 → Goal
            stands (inl w) = keyed r.begins refl (subst (IsKeyOf s x.0) e w.key) f
            stands (inr w) = absurd (both_ways _ w.not_picked (sym (seen-all m0 (entries s n)) ∙ ap is_some e))

    without_edge : (r : Run) → last_run_of s n m0 ≡ Some r → has_node (outs s m0) n ≡ false → test (record r { ends = first_open (entries s n) }) ≡ true → ⊥
    without_edge r e o a =
        let picked : picks_last s n m0 ≡ true = sym (seen-all m0 (entries s n)) ∙ ap is_some e in
        let z = h.edges_are_kept.missing n m0 picked o in
        let f = h.work_is_kept.finds n z.holds in
        let p = until_at (record r { ends = first_open (entries s n) }) f.head (head-first (entries s n) f.head f.first) a in
        fr.settled f.head p.0 f.holds.executing (by_node n (dropped-settles graph s f.head n m0 (head-prior graph s h f.head n m0 f.first ∙ picked) f.first o)) p.1

    last : (c : Option Run) → last_run_of s n m0 ≡ c → list_any test (last_run c (dropper_in (entries s n) (outs s m0) n)) ≡ true → Goal
    last None e a = absurd (true≢false (sym a))
    last (Some r) e a = cases (has_node (outs s m0) n) refl (only _ a)
      where
        cases : (b : Bool) → has_node (outs s m0) n ≡ b → test (record r { ends = elim b as (λ _. Option ℕ) [ true ↦ None | false ↦ first_open (entries s n) ] }) ≡ true → Goal
        cases true o y = with_edge r e (covers-parts q m0 t (record r { ends = None }) y).from o
        cases false o y = absurd (without_edge r e o y)

    new : (c : Option ℕ) → list_any test (discovered c n (outs s m0)) ≡ true → Goal
    new None a = absurd (true≢false (sym a))
    new (Some u) a = cases (has_out (outs s m0) n u) refl a
      where
        cases : (b : Bool) → has_out (outs s m0) n u ≡ b → list_any test (elim b as (λ _. List Run) [ true ↦ record { begins = Some u; ends = None } ∷ [] | false ↦ [] ]) ≡ true → Goal
        cases false x y = absurd (true≢false (sym y))
        cases true x y = edge-active (entries q m0) (outs s m0) n u t x (covers-parts q m0 t (record { begins = Some u; ends = None }) (only (test (record { begins = Some u; ends = None })) y)).from

    parts : ((list_any test r0.closed || list_any test (last_run r0.current (dropper_in (entries s n) (outs s m0) n))) ≡ true) ⊎ (list_any test (discovered (first_open (entries s n)) n (outs s m0)) ≡ true) → Goal
    parts (inr a) = new (first_open (entries s n)) a
    parts (inl a) = two (or_cases _ _ a)
      where
        two : (list_any test r0.closed ≡ true) ⊎ (list_any test (last_run r0.current (dropper_in (entries s n) (outs s m0) n)) ≡ true) → Goal
        two (inl x) = left (closed-left test m0 (entries s n) (h.one_entry n) x)
        two (inr x) = last (last_run_of s n m0) refl x
