-- Where a call has a Frame, all that reacts is open for it or wanted by it, after Skip and Resolve.
use Rattle.std.proofs.Common.{◌≡◌, ℕ, Bool, true, false, ◌&&◌, ◌||◌, not, ◌==◌, ◌⊎◌, inl, inr, refl, sym, ap, arith, List, [], ◌∷◌, true≢false, ◌∙◌, subst, Option, Some, None}
use Rattle.std.specs.Prelude.{is_some}
use Rattle.std.specs.List.{list_any, list_all}
use Rattle.std.proofs.lemmas.List.Folds.{list_any-append}
use Rattle.std.proofs.lemmas.Bool.{or_cases, or_left, or_right, and_parts, and_from, eqb-true, eq-eqb, false_from_ne_true, both_ways, cases_Bool, true_from_ne_false, not-true}
use Rattle.script_tree.specs.declared.value.Value.{Value}
use Rattle.script_tree.proofs.Truths.{and_left, and_right}
use Rattle.signal_graph.specs.Graph.{Graph, is_in, is_source, node_at, inputs_of, static_outs, numbers}
use Rattle.signal_graph.specs.Values.{nodes_in}
use Rattle.node_versions.specs.declared.entry.State.{State}
use Rattle.node_versions.specs.declared.entry.State.TheVariants.{Done}
use Rattle.node_versions.specs.declared.entry.Entry.{Entry}
use Rattle.node_versions.specs.Entries.{OutEdge, has, at, is_frame, is_done, behind, first_open, is_active, has_out, has_node, with_state, picks_before, value_before}
use Rattle.node_versions.proofs.KeptLemmas.{has-with_state, IsUnique-with_state}
use Rattle.node_versions.proofs.Places.{at-has}
use Rattle.flow_model.specs.declared.step.Step.TheVariants as steps
use Rattle.flow_model.specs.Machine.State.{Core, Cell, cell, live, entries, outs, opens, wants, with_cell, changes, Found}
use Rattle.flow_model.specs.Machine.Words.{deps, heads, at_front, touched, prior_picks, is_prior, is_candidate, is_found, is_gathered, found_picks, found_candidates, value_now, picks_of_found}
use Rattle.flow_model.specs.Machine.Changes.{set_state, closed, finish, cleared}
use Rattle.flow_model.specs.Machine.Steps.{allowed, apply, is_change, is_worked_out, all_gathered, is_discovered}
use Rattle.flow_model.specs.Kept.Runs.{Run, Reading, go_on, close, read_done, read_all, nothing_read, last_run, discovered, runs, covers, reacts, settles, picks_it, by_node, is_until}
use Rattle.flow_model.specs.Kept.Lawful.{IsLawful, IsRunEdge, IsNewEdge, IsKeyOf, FramesSpread, picks_last, last_run_of}
use Rattle.flow_model.proofs.OneStep.WhoMayStep.{opens-live, executes-live, at_front-executes, at_front-heads, can_work-at_front, skip-can_work, resolve-can_work}
use Rattle.flow_model.proofs.OneList.StatesAndPlaces.{with_state-at, with_state-behind, first_open-frame}
use Rattle.flow_model.proofs.OneList.CallsAndCells.{with_call-keeps}
use Rattle.flow_model.proofs.OneList.Entering.{with_cell-cell}
use Rattle.flow_model.proofs.OneStep.ChangesOfOneList.{same_cell}
use Rattle.flow_model.proofs.OrderStays.OpenNodesHaveFrames.{entry-there, closed-opens, finished-opens}
use Rattle.flow_model.proofs.OrderStays.NoFrameBeforeDones.{head-first}
use Rattle.flow_model.proofs.Wants.FramedWith.{opens-frame, heads-opens}
use Rattle.flow_model.proofs.Reactions.WhereRunsBegin.{seen-all, run-begins}
use Rattle.flow_model.proofs.Reactions.RunsThatHaveEnded.{IsLeft, closed-left, not_both, finished-reading, done-not_fresh}
use Rattle.flow_model.proofs.OneList.ActiveEdges.{with_state-up_to}
use Rattle.flow_model.proofs.Reactions.WhoReacts.{dropper_in, runs_in, any-parts, any-map, Covers, covers-parts, parts-covers, from-back, until-back, same_lists-covers, reacts-back}
use Rattle.flow_model.proofs.FramesSpread.AfterOtherSteps.{same_outs, call-reacts, worked-reacts}
use Rattle.flow_model.proofs.FramesSpread.AfterDiscover.{head-prior}
use Rattle.flow_model.proofs.Wants.WantsAreFree.{filtered-passes}
use Rattle.flow_model.proofs.General.AnyAndAll.{all-in, any-in}

-- ---- the list after the Done

-- Covers are read from what another state leaves as it was.
pub stated-covers : (s : Core) (n0 t : ℕ) (x : State) (m u : ℕ) (r : Run) → covers (with_cell s n0 (set_state t x)) m u r ≡ true → covers s m u r ≡ true
stated-covers s n0 t x m u r k = go (with_cell-cell s n0 (set_state t x) m)
  where
    q : Core
    q = with_cell s n0 (set_state t x)

    k2 : Covers q m u r
    k2 = covers-parts q m u r k

    active : (b : ℕ) → is_active (with_state t x (entries s m)) b u ≡ true → is_active (entries s m) b u ≡ true
    active b a = let h = has-with_state t x (entries s m) b in let v = with_state-up_to t x (entries s m) u b in grind (arith, a, h, v)

    moved : entries q m ≡ with_state t x (entries s m) → covers s m u r ≡ true
    moved g = parts-covers s m u r (record {
      has_it = sym (ap (λ (es : List Entry). has es u) g ∙ has-with_state t x (entries s m) u) ∙ k2.has_it;
      from = from-back s q m u r.begins (λ b _ a. active b (subst (λ (es : List Entry). is_active es b u ≡ true) g a)) k2.from;
      until = until-back s q m u r.ends (λ z _ l b. (l, sym (with_state-behind t x (entries s m) u z) ∙ subst (λ (es : List Entry). behind es u z ≡ true) g b)) k2.until;
    })

    go : (cell q m ≡ cell s m) ⊎ ((m ≡ n0) × (cell q m ≡ set_state t x (cell s m))) → covers s m u r ≡ true
    go (inl e) = same_lists-covers s q m u (ap (λ (c : Cell). c.entries) e) (λ z j l. l) r k
    go (inr e) = moved (ap (λ (c : Cell). c.entries) e.1)

-- ---- the runs after the Done

-- What is known of the Done with which the first open call finishes.
pub record IsFinishing (graph : Graph) (s : Core) (t n : ℕ) (ps : List (Option ℕ)) : Type 0 where
  pub front : at_front graph s t n ≡ true
  -- a candidate that is picked on has kept its edge, and a new one has an edge of the call
  pub goes_on : (m : ℕ) → is_in m (nodes_in ps) ≡ true → picks_last s n m ≡ true → has_node (outs s m) n ≡ true
  pub begins : (m : ℕ) → is_in m (nodes_in ps) ≡ true → picks_last s n m ≡ false → has_out (outs s m) n t ≡ true
  -- the call has finished at what it has discovered
  pub finished : (m : ℕ) → picks_last s n m ≡ false → has_out (outs s m) n t ≡ true → opens s t m ≡ false

-- Only the first open call has an edge by which no run has begun.
head-edge : (graph : Graph) (s : Core) → IsLawful graph s → (n m t u : ℕ) → heads s t n ≡ true → at is_frame (entries s n) u ≡ true → has_out (outs s m) n u ≡ true → u ≡ t
head-edge graph s h n m t u hd f e = go (h.edges_are_kept.stands n m u e)
  where
    lu : live s u ≡ true
    lu = opens-live s u n (h.frames_are_open.opens_frames u n ∙ f)

    key : (c : Option Run) → last_run_of s n m ≡ c → IsKeyOf s u c → ⊥
    key None x k = k
    key (Some r) x k = begins r.begins refl k
      where
        begins : (z : Option ℕ) → r.begins ≡ z → IsKeyOf s u (Some (record r { begins = z })) → ⊥
        begins None y k = both_ways _ k lu
        begins (Some b) y k = both_ways _ (not_both (entries s n) u f) (subst (λ (v : ℕ). at is_done (entries s n) v ≡ true) (sym k) (run-begins m (entries s n) r b (h.one_entry n) x y).done)

    same : (o : Option ℕ) → o ≡ Some u → o ≡ Some t → u ≡ t
    same o x y = cc

    go : IsRunEdge s n m u ⊎ IsNewEdge s n m u → u ≡ t
    go (inl k) = absurd (key (last_run_of s n m) refl k.key)
    go (inr k) = same (first_open (entries s n)) (head-first (entries s n) u k.first_open) (head-first (entries s n) t hd)

pub finished-any : (graph : Graph) (s : Core) → IsLawful graph s → (t n : ℕ) (v : Value) (c : Bool) (ps : List (Option ℕ)) → IsFinishing graph s t n ps → (m : ℕ) (test : Run → Bool)
    → ((r : Run) (z : Option ℕ) → test (record r { ends = z }) ≡ true → test (record r { ends = None }) ≡ true)
    → list_any test (runs_in (with_state t (Done v c ps) (entries s n)) (outs s m) n m) ≡ true → list_any test (runs_in (entries s n) (outs s m) n m) ≡ true
finished-any graph s h t n v c ps fin m test longer k = any-parts test es os n m ∙ parts (or_cases _ _ (sym (any-parts test after os n m) ∙ k))
  where
    es : List Entry
    es = entries s n

    os : List OutEdge
    os = outs s m

    after : List Entry
    after = with_state t (Done v c ps) es

    q : Reading
    q = read_all m es nothing_read

    hd : heads s t n ≡ true
    hd = at_front-heads graph s t n fin.front

    first : first_open es ≡ Some t
    first = head-first es t hd

    frame : at is_frame es t ≡ true
    frame = opens-frame graph s h t n (heads-opens graph s h t n hd)

    reading : read_all m after nothing_read ≡ read_done m t ps q
    reading = finished-reading m t v c ps es nothing_read (h.one_entry n) frame (λ x b. h.frames_are_open.behind_dones n t x b frame)

    Result : Type 0
    Result = ((list_any test q.closed || list_any test (last_run q.current (dropper_in es os n))) || list_any test (discovered (first_open es) n os)) ≡ true

    by_closed : list_any test q.closed ≡ true → Result
    by_closed a = or_left (list_any test q.closed || list_any test (last_run q.current (dropper_in es os n))) (list_any test (discovered (first_open es) n os)) (or_left (list_any test q.closed) (list_any test (last_run q.current (dropper_in es os n))) a)

    by_last : (r : Run) → q.current ≡ Some r → test (record r { ends = dropper_in es os n }) ≡ true → Result
    by_last r e a = or_left (list_any test q.closed || list_any test (last_run q.current (dropper_in es os n))) (list_any test (discovered (first_open es) n os)) (or_right (list_any test q.closed) (list_any test (last_run q.current (dropper_in es os n)))
        (subst (λ (o : Option Run). list_any test (last_run o (dropper_in es os n)) ≡ true) (sym e) (or_left (test (record r { ends = dropper_in es os n })) false a)))

    by_new : has_out os n t ≡ true → test (record { begins = Some t; ends = None }) ≡ true → Result
    by_new e a = or_right (list_any test q.closed || list_any test (last_run q.current (dropper_in es os n))) (list_any test (discovered (first_open es) n os))
        (subst (λ (o : Option ℕ). list_any test (discovered o n os) ≡ true) (sym first) (rw (e, discovered) (or_left (test (record { begins = Some t; ends = None })) false a)))

    picked : (r : Run) → q.current ≡ Some r → picks_last s n m ≡ true
    picked r e = sym (seen-all m es) ∙ ap is_some e

    not_picked : q.current ≡ None → picks_last s n m ≡ false
    not_picked e = sym (seen-all m es) ∙ ap is_some e

    -- the run that the Done ends: it ended at the first open call, or had no end
    ends_now : (r : Run) → q.current ≡ Some r → test (record r { ends = Some t }) ≡ true → Result
    ends_now r e a = by_last r e (cases (has_node os n) refl)
      where
        cases : (b : Bool) → has_node os n ≡ b → test (record r { ends = elim b as (λ _. Option ℕ) [ true ↦ None | false ↦ first_open es ] }) ≡ true
        cases true x = longer r (Some t) a
        cases false x = subst (λ (o : Option ℕ). test (record r { ends = o }) ≡ true) (sym first) a

    closed_part : (b : Bool) → is_in m (nodes_in ps) ≡ b → (z : Option Run) → q.current ≡ z → list_any test (elim b as (λ _. List Run) [ true ↦ q.closed | false ↦ close z t q.closed ]) ≡ true → Result
    closed_part true f z e a = by_closed a
    closed_part false f None e a = by_closed a
    closed_part false f (Some r) e a = two (or_cases (list_any test q.closed) (list_any test (record r { ends = Some t } ∷ [])) (sym (list_any-append test q.closed (record r { ends = Some t } ∷ [])) ∙ a))
      where
        only : (a : Bool) → (a || false) ≡ true → a ≡ true
        only true k = refl
        only false k = k

        two : (list_any test q.closed ≡ true) ⊎ (list_any test (record r { ends = Some t } ∷ []) ≡ true) → Result
        two (inl x) = by_closed x
        two (inr x) = ends_now r e (only (test (record r { ends = Some t })) x)

    only : (a : Bool) → (a || false) ≡ true → a ≡ true
    only true k = refl
    only false k = k

    not_fresh : q.fresh ≡ false
    not_fresh = let l = h.lists in let d = h.ended_is_prefix.done n (entry-there s n t (at-has is_frame es t frame)) in done-not_fresh m es nothing_read d.0 d.2

    last_part : (b : Bool) → is_in m (nodes_in ps) ≡ b → (z : Option Run) → q.current ≡ z → (y : Bool) → q.fresh ≡ y → list_any test (last_run (elim b as (λ _. Option Run) [ true ↦ go_on z y t | false ↦ None ]) (dropper_in after os n)) ≡ true → Result
    last_part false f z e y g a = absurd (true≢false (sym a))
    last_part true f (Some r) e y g a = by_last r e (subst (λ (o : Option ℕ). test (record r { ends = o }) ≡ true) (sym (stands es)) (subst (λ (o : Option ℕ). test (record r { ends = o }) ≡ true) (stands after) (only (test (record r { ends = dropper_in after os n })) a)))
      where
        stands : (xs : List Entry) → dropper_in xs os n ≡ None
        stands xs = let w = fin.goes_on m f (picked r e) in rw (w, dropper_in) refl
    last_part true f None e true g a = absurd (both_ways _ not_fresh g)
    last_part true f None e false g a = by_new (fin.begins m f (not_picked e)) (longer (record { begins = Some t; ends = None }) (dropper_in after os n) (only (test (record { begins = Some t; ends = dropper_in after os n })) a))

    new_part : (o : Option ℕ) → first_open after ≡ o → list_any test (discovered o n os) ≡ true → Result
    new_part None e a = absurd (true≢false (sym a))
    new_part (Some u) e a = cases (has_out os n u) refl a
      where
        -- another Frame has no edge of its call
        other : has_out os n u ≡ true → ⊥
        other x =
            let f = first_open-frame after u (IsUnique-with_state t (Done v c ps) es (h.one_entry n)) e in
            let w = with_state-at is_frame t (Done v c ps) es u in
            let ne : (u == t) ≡ false = false_from_ne_true _ (λ y. both_ways _ (done_there y w) f) in
            let fu : at is_frame es u ≡ true = grind (arith, w, ne, f) in
            both_ways _ ne (eq-eqb u t (head-edge graph s h n m t u hd fu x))
          where
            done_there : (u == t) ≡ true → at is_frame after u ≡ elim (u == t) as (λ _. Bool) [ true ↦ has es t && false | false ↦ at is_frame es u ] → at is_frame after u ≡ false
            done_there y w = grind (arith, y, w)

        cases : (b : Bool) → has_out os n u ≡ b → list_any test (elim b as (λ _. List Run) [ true ↦ record { begins = Some u; ends = None } ∷ [] | false ↦ [] ]) ≡ true → Result
        cases true x y = absurd (other x)
        cases false x y = absurd (true≢false (sym y))

    parts : ((list_any test (read_all m after nothing_read).closed || list_any test (last_run (read_all m after nothing_read).current (dropper_in after os n))) ≡ true) ⊎ (list_any test (discovered (first_open after) n os) ≡ true) → Result
    parts (inr a) = new_part (first_open after) refl a
    parts (inl a) = two (or_cases (list_any test (read_done m t ps q).closed) (list_any test (last_run (read_done m t ps q).current (dropper_in after os n))) (subst (λ (w : Reading). (list_any test w.closed || list_any test (last_run w.current (dropper_in after os n))) ≡ true) reading a))
      where
        two : (list_any test (read_done m t ps q).closed ≡ true) ⊎ (list_any test (last_run (read_done m t ps q).current (dropper_in after os n)) ≡ true) → Result
        two (inl x) = closed_part (is_in m (nodes_in ps)) refl q.current refl x
        two (inr x) = last_part (is_in m (nodes_in ps)) refl q.current refl q.fresh refl x

-- ---- the call that finishes

pub front-no_open : (graph : Graph) (s : Core) (t n : ℕ) → at_front graph s t n ≡ true → list_any (opens s t) (deps graph s t n) ≡ false
front-no_open graph s t n f = not-true _ (and_right _ _ f)

-- A Done that doesn't pick a prior pick has dropped it, and so settled its call's entry there.
pub left-settles : (graph : Graph) (s : Core) (z n m : ℕ) → is_prior s z n m ≡ true → at is_done (entries s n) z ≡ true → picks_it s z n m ≡ false → settles graph s z m n ≡ true
left-settles graph s z n m p d k = or_left _ _ (or_right _ _ (and_from _ _ p (or_left _ _ (and_from _ _ d (turned _ k)))))
  where
    turned : (a : Bool) → a ≡ false → not a ≡ true
    turned a e = grind (arith, e)

-- Where the first open call can work at a node, the node reacts to nothing that the call has open.
finisher-none : (graph : Graph) (s : Core) → IsLawful graph s → (t n : ℕ) (ps : List (Option ℕ)) → IsFinishing graph s t n ps → (m : ℕ) → opens s t m ≡ true → reacts graph s t m n ≡ true → ⊥
finisher-none graph s h t n ps fin m o k = go (or_cases _ _ k)
  where
    hd : heads s t n ≡ true
    hd = at_front-heads graph s t n fin.front

    frame : at is_frame (entries s m) t ≡ true
    frame = opens-frame graph s h t m o

    -- the node rests on no node that is open
    no_dep : is_in m (deps graph s t n) ≡ true → ⊥
    no_dep d = both_ways _ (front-no_open graph s t n fin.front) (any-in (opens s t) (deps graph s t n) m d o)

    no_input : is_in m (inputs_of (node_at graph n)) ≡ true → ⊥
    no_input i = no_dep (list_any-append (λ x. x == m) (inputs_of (node_at graph n)) (prior_picks s t n) ∙ or_left _ _ i)

    no_prior : picks_last s n m ≡ true → ⊥
    no_prior p = no_dep (list_any-append (λ x. x == m) (inputs_of (node_at graph n)) (prior_picks s t n) ∙ or_right (is_in m (inputs_of (node_at graph n))) (is_in m (prior_picks s t n)) (head-prior graph s h t n m hd ∙ p))

    left : IsLeft (covers s m t) m (entries s n) → ⊥
    left l =
        let c = covers-parts s m t l.run l.taken in
        let e : (live s l.call && behind (entries s m) t l.call) ≡ true = until_at l.run.ends l.ends c.until in
        let settled : settles graph s l.call m n ≡ true = left-settles graph s l.call n m l.prior l.done l.now in
        both_ways _ (h.settled_is_kept.none_before t l.call m (by_node n settled) (and_parts (live s l.call) (behind (entries s m) t l.call) e).1) frame
      where
        until_at : (z : Option ℕ) → z ≡ Some l.call → is_until s m z t ≡ true → (live s l.call && behind (entries s m) t l.call) ≡ true
        until_at z e x = subst (λ (w : Option ℕ). is_until s m w t ≡ true) e x

    last : (c : Option Run) → last_run_of s n m ≡ c → (z : Option ℕ) → list_any (covers s m t) (last_run c z) ≡ true → ⊥
    last None e z a = true≢false (sym a)
    last (Some r) e z a = no_prior (sym (seen-all m (entries s n)) ∙ ap is_some e)

    new : (c : Option ℕ) → first_open (entries s n) ≡ c → list_any (covers s m t) (discovered c n (outs s m)) ≡ true → ⊥
    new None e a = true≢false (sym a)
    new (Some u) e a = cases (has_out (outs s m) n u) refl a
      where
        same : {x y : ℕ} → Some x ≡ Some y → x ≡ y
        same k = cc

        edge : has_out (outs s m) n t ≡ true → ⊥
        edge x = two (cases_Bool (picks_last s n m))
          where
            two : (picks_last s n m ≡ true) ⊎ (picks_last s n m ≡ false) → ⊥
            two (inl p) = no_prior p
            two (inr p) = both_ways _ (fin.finished m p x) o

        cases : (b : Bool) → has_out (outs s m) n u ≡ b → list_any (covers s m t) (elim b as (λ _. List Run) [ true ↦ record { begins = Some u; ends = None } ∷ [] | false ↦ [] ]) ≡ true → ⊥
        cases false x y = true≢false (sym y)
        cases true x y = edge (subst (λ (w : ℕ). has_out (outs s m) n w ≡ true) (same (sym e ∙ head-first (entries s n) t hd)) x)

    runs_part : ((list_any (covers s m t) (read_all m (entries s n) nothing_read).closed || list_any (covers s m t) (last_run (read_all m (entries s n) nothing_read).current (dropper_in (entries s n) (outs s m) n))) ≡ true) ⊎ (list_any (covers s m t) (discovered (first_open (entries s n)) n (outs s m)) ≡ true) → ⊥
    runs_part (inr a) = new (first_open (entries s n)) refl a
    runs_part (inl a) = two (or_cases _ _ a)
      where
        two : (list_any (covers s m t) (read_all m (entries s n) nothing_read).closed ≡ true) ⊎ (list_any (covers s m t) (last_run (read_all m (entries s n) nothing_read).current (dropper_in (entries s n) (outs s m) n)) ≡ true) → ⊥
        two (inl x) = left (closed-left (covers s m t) m (entries s n) (h.one_entry n) x)
        two (inr x) = last (last_run_of s n m) refl (dropper_in (entries s n) (outs s m) n) x

    go : (is_in n (static_outs graph m) ≡ true) ⊎ (list_any (covers s m t) (runs s n m) ≡ true) → ⊥
    go (inl a) = no_input (filtered-passes (λ j. is_in m (inputs_of (node_at graph j))) (numbers graph) n a)
    go (inr a) = runs_part (or_cases _ _ (sym (any-parts (covers s m t) (entries s n) (outs s m) n m) ∙ a))

-- ---- the Done

pub stated-reacts : (graph : Graph) (s : Core) → IsLawful graph s → (t n0 : ℕ) (v : Value) (c : Bool) (ps : List (Option ℕ)) → IsFinishing graph s t n0 ps → (u m n : ℕ) → reacts graph (with_cell s n0 (set_state t (Done v c ps))) u m n ≡ true → reacts graph s u m n ≡ true
stated-reacts graph s h t n0 v c ps fin u m n k = reacts-back graph s q u m n (λ a. go (with_cell-cell s n0 (set_state t (Done v c ps)) n) (any-map (covers q m u) (covers s m u) (runs q n m) (λ i r _ x. stated-covers s n0 t (Done v c ps) m u r x) a)) k
  where
    q : Core
    q = with_cell s n0 (set_state t (Done v c ps))

    edges : outs q m ≡ outs s m
    edges = same_outs s n0 (set_state t (Done v c ps)) (λ x. refl) m

    longer : (r : Run) (z : Option ℕ) → covers s m u (record r { ends = z }) ≡ true → covers s m u (record r { ends = None }) ≡ true
    longer r z x = let d = covers-parts s m u (record r { ends = z }) x in parts-covers s m u (record r { ends = None }) (record { has_it = d.has_it; from = d.from; until = refl })

    moved : n ≡ n0 → entries q n ≡ with_state t (Done v c ps) (entries s n) → list_any (covers s m u) (runs_in (entries q n) (outs q m) n m) ≡ true → list_any (covers s m u) (runs_in (entries s n) (outs s m) n m) ≡ true
    moved e g a = finished-any graph s h t n v c ps (subst (λ (w : ℕ). IsFinishing graph s t w ps) (sym e) fin) m (covers s m u) longer
        (subst (λ (rs : List Run). list_any (covers s m u) rs ≡ true) (ap (λ (es : List Entry). runs_in es (outs q m) n m) g ∙ ap (λ (os : List OutEdge). runs_in (with_state t (Done v c ps) (entries s n)) os n m) edges) a)

    go : (cell q n ≡ cell s n) ⊎ ((n ≡ n0) × (cell q n ≡ set_state t (Done v c ps) (cell s n))) → list_any (covers s m u) (runs q n m) ≡ true → list_any (covers s m u) (runs s n m) ≡ true
    go (inl e) a = subst (λ (rs : List Run). list_any (covers s m u) rs ≡ true) (ap (λ (x : Cell). runs_in x.entries (outs q m) n m) e ∙ ap (λ (os : List OutEdge). runs_in (entries s n) os n m) edges) a
    go (inr e) a = moved e.0 (ap (λ (x : Cell). x.entries) e.1) a

finished-spread : (graph : Graph) (s : Core) → IsLawful graph s → (t n0 : ℕ) (v : Value) (c : Bool) (ps : List (Option ℕ)) → IsFinishing graph s t n0 ps → FramesSpread graph (finish s t n0 v c ps)
finished-spread graph s h t n0 v c ps fin u m n k r = still (or_cases _ _ (h.frames_spread u m n (opens-frame graph s h u m o) back))
  where
    q : Core
    q = with_cell s n0 (set_state t (Done v c ps))

    after : Core
    after = finish s t n0 v c ps

    lt : live s t ≡ true
    lt = executes-live s t (at_front-executes graph s t n0 fin.front)

    opens_after : (j : ℕ) → opens after u j ≡ (opens s u j && not ((u == t) && (j == n0)))
    opens_after j = closed-opens q t n0 c u j lt

    o : opens s u m ≡ true
    o = and_left (opens s u m) (not ((u == t) && (m == n0))) (sym (opens_after m) ∙ finished-opens graph s h t n0 v c ps fin.front u m ∙ k)

    back : reacts graph s u m n ≡ true
    back = stated-reacts graph s h t n0 v c ps fin u m n (call-reacts graph q t (closed n0 c) (λ x. refl) u m n r)

    -- the node that is closed is another
    open_still : opens s u n ≡ true → opens after u n ≡ true
    open_still y = opens_after n ∙ and_from (opens s u n) (not ((u == t) && (n == n0))) y (cases (cases_Bool ((u == t) && (n == n0))))
      where
        cases : (((u == t) && (n == n0)) ≡ true) ⊎ (((u == t) && (n == n0)) ≡ false) → not ((u == t) && (n == n0)) ≡ true
        cases (inr z) = ap not z
        cases (inl z) =
            let e = eqb-true u t (and_left (u == t) (n == n0) z) in
            let f = eqb-true n n0 (and_right (u == t) (n == n0) z) in
            absurd (finisher-none graph s h t n0 ps fin m (subst (λ (w : ℕ). opens s w m ≡ true) e o) (subst (λ (w : ℕ). reacts graph s w m n0 ≡ true) e (subst (λ (w : ℕ). reacts graph s u m w ≡ true) f back)))

    still : (opens s u n ≡ true) ⊎ (wants s u n ≡ true) → (opens after u n || wants after u n) ≡ true
    still (inl y) = or_left _ _ (open_still y)
    still (inr y) = or_right _ _ (with_call-keeps (λ x. is_in n x.wanted) q t (closed n0 c) (λ x. refl) (λ x. refl) u ∙ y)

-- ---- Skip and Resolve

pub heads-same : (s : Core) (t u n : ℕ) → heads s t n ≡ true → heads s u n ≡ true → u ≡ t
heads-same s t u n a b = go (first_open (entries s n)) (head-first (entries s n) t a) (head-first (entries s n) u b)
  where
    go : (o : Option ℕ) → o ≡ Some t → o ≡ Some u → u ≡ t
    go o x y = cc

-- Where something is found at a node, its first open call has changed what it rests on.
pub found-touched : (graph : Graph) (s : Core) → IsLawful graph s → (t n : ℕ) → heads s t n ≡ true → is_found s n ≡ true → touched graph s t n ≡ true
found-touched graph s h t n hd f = let w = h.work_is_kept.finds n f in subst (λ (v : ℕ). touched graph s v n ≡ true) (heads-same s t w.head n hd w.first) w.holds.changed

pub skip-untouched : (graph : Graph) (s : Core) (t n : ℕ) → allowed graph s (steps.Skip t n) ≡ true → touched graph s t n ≡ false
skip-untouched graph s t n a = not-true _ (and_right _ _ (and_left _ _ a))

pub skip-finishing : (graph : Graph) (s : Core) → IsLawful graph s → (t n : ℕ) → allowed graph s (steps.Skip t n) ≡ true → IsFinishing graph s t n (picks_before (entries s n) t)
skip-finishing graph s h t n a = record {
  front = front;
  goes_on = λ m f p. true_from_ne_false _ (λ e. not_found (h.work_is_kept.drops n m p e).0);
  begins = λ m f p. absurd (both_ways _ p (sym (head-prior graph s h t n m hd) ∙ f));
  finished = λ m p e. absurd (not_found (h.work_is_kept.discovers n m t hd e));
}
  where
    front : at_front graph s t n ≡ true
    front = can_work-at_front graph s t n (skip-can_work graph s t n a)

    hd : heads s t n ≡ true
    hd = at_front-heads graph s t n front

    not_found : is_found s n ≡ true → ⊥
    not_found f = both_ways _ (skip-untouched graph s t n a) (found-touched graph s h t n hd f)

pub resolve-worked : (graph : Graph) (s : Core) (t n : ℕ) → allowed graph s (steps.Resolve t n) ≡ true → touched graph s t n ≡ true → is_worked_out graph s t n ≡ true
resolve-worked graph s t n a k = go (is_source (node_at graph n)) (list_any (changes s t) (deps graph s t n)) (is_worked_out graph s t n) (and_right _ _ a) k
  where
    go : (x y w : Bool) → (x || ((not x && y) && w)) ≡ true → (not x && y) ≡ true → w ≡ true
    go x y w h k = grind (arith, h, k)

pub worked-gathered : (graph : Graph) (s : Core) (t n : ℕ) → is_worked_out graph s t n ≡ true → all_gathered s n (found_candidates s n) ≡ true
worked-gathered graph s t n w = and_right _ _ (and_left _ _ (and_left _ _ (and_left _ _ w)))

worked-discovered : (graph : Graph) (s : Core) (t n : ℕ) → is_worked_out graph s t n ≡ true → list_all (is_discovered s t n) (found_candidates s n) ≡ true
worked-discovered graph s t n w = and_right _ _ (and_left _ _ (and_left _ _ w))

pub resolve-finishing : (graph : Graph) (s : Core) → IsLawful graph s → (t n : ℕ) → allowed graph s (steps.Resolve t n) ≡ true → IsFinishing graph s t n (found_picks s n)
resolve-finishing graph s h t n a = record {
  front = front;
  goes_on = λ m f p. true_from_ne_false _ (λ e. both_ways _ (h.work_is_kept.drops n m p e).1 f);
  begins = λ m f p. new_edge m f p;
  finished = λ m p e. done_with m p e;
}
  where
    front : at_front graph s t n ≡ true
    front = can_work-at_front graph s t n (resolve-can_work graph s t n a)

    hd : heads s t n ≡ true
    hd = at_front-heads graph s t n front

    worked : is_found s n ≡ true → is_worked_out graph s t n ≡ true
    worked f = resolve-worked graph s t n a (found-touched graph s h t n hd f)

    candidate-found : (m : ℕ) → is_candidate s n m ≡ true → is_found s n ≡ true
    candidate-found m k = go (cell s n).found k
      where
        go : (o : Option Found) → is_in m (nodes_in (picks_of_found o)) ≡ true → is_some o ≡ true
        go None x = absurd (true≢false (sym x))
        go (Some y) x = refl

    new_edge : (m : ℕ) → is_candidate s n m ≡ true → picks_last s n m ≡ false → has_out (outs s m) n t ≡ true
    new_edge m f p =
        let d : (is_prior s t n m || has_out (outs s m) n t) ≡ true = all-in (is_discovered s t n) (found_candidates s n) m (worked-discovered graph s t n (worked (candidate-found m f))) f in
        let e = head-prior graph s h t n m hd ∙ p in
        other (is_prior s t n m) (has_out (outs s m) n t) d e
      where
        other : (x y : Bool) → (x || y) ≡ true → x ≡ false → y ≡ true
        other x y h k = grind (arith, h, k)

    done_with : (m : ℕ) → picks_last s n m ≡ false → has_out (outs s m) n t ≡ true → opens s t m ≡ false
    done_with m p e = go (h.edges_are_kept.stands n m t e)
      where
        go : IsRunEdge s n m t ⊎ IsNewEdge s n m t → opens s t m ≡ false
        go (inl k) = absurd (both_ways _ p k.picked)
        go (inr k) =
            let g : is_gathered s n m ≡ true = all-in (is_gathered s n) (found_candidates s n) m (worked-gathered graph s t n (worked (candidate-found m k.found))) k.found in
            let settled : settles graph s t m n ≡ true = or_left _ _ (or_left _ _ (and_from _ _ hd g)) in
            h.frames_are_open.opens_frames t m ∙ h.settled_is_kept.no_frame t m (by_node n settled)

pub skipped-spread : (graph : Graph) (s : Core) (t n0 : ℕ) → IsLawful graph s → allowed graph s (steps.Skip t n0) ≡ true → FramesSpread graph (apply graph s (steps.Skip t n0))
skipped-spread graph s t n0 h a = finished-spread graph s h t n0 (value_before (entries s n0) t) false (picks_before (entries s n0) t) (skip-finishing graph s h t n0 a)

pub resolved-spread : (graph : Graph) (s : Core) (t n0 : ℕ) → IsLawful graph s → allowed graph s (steps.Resolve t n0) ≡ true → FramesSpread graph (apply graph s (steps.Resolve t n0))
resolved-spread graph s t n0 h a u m n k r =
    let q = finish s t n0 (value_now graph s t n0) (is_change graph s t n0) (found_picks s n0) in
    finished-spread graph s h t n0 (value_now graph s t n0) (is_change graph s t n0) (found_picks s n0) (resolve-finishing graph s h t n0 a) u m n
    (subst (λ (es : List Entry). at is_frame es u ≡ true) (same_cell graph q n0 cleared (λ x. refl) m) k)
    (worked-reacts graph q n0 cleared (λ x. refl) (λ x. refl) u m n r)
