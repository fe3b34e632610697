-- What reacts after a Mark or an out-edge has come, or ended entries have gone, reacted before, or is the new out-edge's node.
use Rattle.std.proofs.Common.{◌≡◌, ℕ, Bool, true, false, ◌||◌, not, ◌==◌, ◌⊎◌, inl, inr, refl, sym, ap, arith, List, ◌∙◌, subst, Some, None}
use Rattle.std.proofs.lemmas.Bool.{or_cases, or_left, or_right, eqb-true, false_from_ne_true, both_ways, cases_Bool, true_from_ne_false}
use Rattle.std.specs.Prelude.{slice_get}
use Rattle.std.specs.List.{list_any}
use Rattle.signal_graph.specs.Graph.{Graph, is_in, static_outs}
use Rattle.node_versions.specs.declared.entry.State.TheVariants.{Mark}
use Rattle.node_versions.specs.declared.entry.Entry.{Entry}
use Rattle.node_versions.specs.Entries.{OutEdge, has, at, is_frame, behind, up_to, first_open, is_active, with_out, collected}
use Rattle.flow_model.specs.Machine.State.{Core, Cell, cell, live, entries, outs, with_cell}
use Rattle.flow_model.specs.Machine.Words.{heads, is_prior}
use Rattle.flow_model.specs.Machine.Changes.{place_entry, enter, ensure_mark, add_edge}
use Rattle.flow_model.specs.Machine.Steps.{collect}
use Rattle.flow_model.specs.Kept.Runs.{Run, runs, covers, reacts}
use Rattle.flow_model.specs.Kept.Lawful.{IsLawful, picks_last, last_run_of}
use Rattle.flow_model.proofs.OneList.InOrder.{on_calls}
use Rattle.flow_model.proofs.OneList.OneEntryACall.{collected-unique, collected-behind_live}
use Rattle.flow_model.proofs.OneList.Entering.{with_cell-cell}
use Rattle.flow_model.proofs.OneStep.ChangesOfOneList.{same_cell}
use Rattle.flow_model.proofs.OrderStays.OpenNodesHaveFrames.{cell-other}
use Rattle.flow_model.proofs.OrderStays.NoFrameBeforeDones.{head-first}
use Rattle.flow_model.proofs.Wants.FramedWith.{not_up_to-behind}
use Rattle.flow_model.proofs.Reactions.WhoReacts.{runs_in, same-runs, same-edges, any-map, covers-parts, parts-covers, from-back, until-back, same_lists-covers, kept-reacts, reacts-back}
use Rattle.flow_model.proofs.FramesSpread.AfterOtherSteps.{same_outs, marked-covers, entered-runs, ensured-edges}
use Rattle.flow_model.proofs.FramesSpread.AfterDiscover.{head-prior, not_picked-none, added-node, added-out, added-any, new_run, NewRun, discovered-runs}
use Rattle.flow_model.proofs.FramesSpread.AfterCollect.{Earlier, collected-any, behind-not_up, collected-behind, ended-active}

-- ---- a Mark more

-- A call that enters a list covers no more for the calls that have an entry.
marked-covers_at : (graph : Graph) (s : Core) → IsLawful graph s → (t c u m n : ℕ) → has (entries s c) t ≡ false → has (entries s m) u ≡ true → (i : ℕ) (r : Run) → slice_get (runs s n m) i ≡ Some r → covers (enter s t c Mark) m u r ≡ true → covers s m u r ≡ true
marked-covers_at graph s h t c u m n fresh e i r x k = go (cases_Bool (t == u))
  where
    go : ((t == u) ≡ true) ⊎ ((t == u) ≡ false) → covers s m u r ≡ true
    go (inr ne) = marked-covers graph s h t c u m n fresh ne i r x k
    go (inl y) =
        let apart : (m == c) ≡ false = false_from_ne_true _ (λ z. both_ways _ fresh (subst (λ (w : ℕ). has (entries s w) t ≡ true) (eqb-true m c z) (subst (λ (v : ℕ). has (entries s m) v ≡ true) (sym (eqb-true t u y)) e))) in
        same_lists-covers s (enter s t c Mark) m u (ap (λ (w : Cell). w.entries) (cell-other s c m (place_entry s t Mark) apart)) (λ z j l. l) r k

pub marked-reacts_at : (graph : Graph) (s : Core) → IsLawful graph s → (t c : ℕ) → has (entries s c) t ≡ false → (u m n : ℕ) → has (entries s m) u ≡ true → reacts graph (enter s t c Mark) u m n ≡ true → reacts graph s u m n ≡ true
marked-reacts_at graph s h t c fresh u m n e k = kept-reacts graph s (enter s t c Mark) u m n (entered-runs s t c n m) (λ i r x y. marked-covers_at graph s h t c u m n fresh e i r x y) k

ensured-covers_at : (graph : Graph) (s : Core) → IsLawful graph s → (t c u m n : ℕ) → has (entries s m) u ≡ true → (i : ℕ) (r : Run) → slice_get (runs s n m) i ≡ Some r → covers (ensure_mark s t c) m u r ≡ true → covers s m u r ≡ true
ensured-covers_at graph s h t c u m n e i r x k = go (has (entries s c) t) refl k
  where
    go : (b : Bool) → has (entries s c) t ≡ b → covers (elim b as (λ _. Core) [ true ↦ s | false ↦ enter s t c Mark ]) m u r ≡ true → covers s m u r ≡ true
    go true y z = z
    go false y z = marked-covers_at graph s h t c u m n y e i r x z

pub ensured-reacts_at : (graph : Graph) (s : Core) → IsLawful graph s → (t c : ℕ) → (u m n : ℕ) → has (entries s m) u ≡ true → reacts graph (ensure_mark s t c) u m n ≡ true → reacts graph s u m n ≡ true
ensured-reacts_at graph s h t c u m n e k = go (has (entries s c) t) refl k
  where
    go : (b : Bool) → has (entries s c) t ≡ b → reacts graph (elim b as (λ _. Core) [ true ↦ s | false ↦ enter s t c Mark ]) u m n ≡ true → reacts graph s u m n ≡ true
    go true y z = z
    go false y z = marked-reacts_at graph s h t c y u m n e z

-- ---- an out-edge more

-- What reacts after the edge is added reacted before, or it is the node of the edge, and the edge's run covers the call.
pub discovered-reacts_at : (graph : Graph) (s : Core) → IsLawful graph s → (t n0 c : ℕ) → heads s t n0 ≡ true → is_prior s t n0 c ≡ false → (u m n : ℕ) → has (entries s m) u ≡ true
    → reacts graph (with_cell (ensure_mark s t c) c (add_edge n0 t)) u m n ≡ true → (reacts graph s u m n ≡ true) ⊎ NewRun (with_cell (ensure_mark s t c) c (add_edge n0 t)) t c n0 u m n
discovered-reacts_at graph s h t n0 c hd not_prior u m n e k = either (or_cases _ _ k)
  where
    p : Core
    p = ensure_mark s t c

    q : Core
    q = with_cell p c (add_edge n0 t)

    -- a run that covers the call covered it
    back : list_any (covers q m u) (runs s n m) ≡ true → reacts graph s u m n ≡ true
    back a = or_right _ _ (any-map (covers q m u) (covers s m u) (runs s n m) (λ i r y x. ensured-covers_at graph s h t c u m n e i r y (same_lists-covers p q m u (same_cell graph p c (add_edge n0 t) (λ z. refl) m) (λ z j l. l) r x)) a)

    edge : m ≡ c → outs q m ≡ with_out (outs s m) n0 t → list_any (covers q m u) (runs_in (entries s n) (outs q m) n m) ≡ true → (reacts graph s u m n ≡ true) ⊎ NewRun q t c n0 u m n
    edge j g a = cases (cases_Bool (n == n0)) (subst (λ (os : List OutEdge). list_any (covers q m u) (runs_in (entries s n) os n m) ≡ true) g a)
      where
        none : n ≡ n0 → last_run_of s n m ≡ None
        none x = not_picked-none s n m (subst (λ (w : ℕ). picks_last s w m ≡ false) (sym x) (subst (λ (w : ℕ). picks_last s n0 w ≡ false) (sym j) (sym (head-prior graph s h t n0 c hd) ∙ not_prior)))

        cases : ((n == n0) ≡ true) ⊎ ((n == n0) ≡ false) → list_any (covers q m u) (runs_in (entries s n) (with_out (outs s m) n0 t) n m) ≡ true → (reacts graph s u m n ≡ true) ⊎ NewRun q t c n0 u m n
        cases (inr x) y = inl (back (subst (λ (rs : List Run). list_any (covers q m u) rs ≡ true) (same-edges (entries s n) (outs s m) (with_out (outs s m) n0 t) n m (added-node n0 n t (outs s m) x) (λ z. added-out n0 n t z (outs s m) x)) y))
        cases (inl x) y = two (added-any (covers q m u) (entries s n) (outs s m) n0 n m t x (subst (λ (w : ℕ). first_open (entries s w) ≡ Some t) (sym (eqb-true n n0 x)) (head-first (entries s n0) t hd)) (none (eqb-true n n0 x)) y)
          where
            two : (list_any (covers q m u) (runs_in (entries s n) (outs s m) n m) ≡ true) ⊎ (covers q m u (new_run t) ≡ true) → (reacts graph s u m n ≡ true) ⊎ NewRun q t c n0 u m n
            two (inl z) = inl (back z)
            two (inr z) = inr (eqb-true n n0 x, j, z)

    by_run : (cell q m ≡ cell p m) ⊎ ((m ≡ c) × (cell q m ≡ add_edge n0 t (cell p m))) → list_any (covers q m u) (runs_in (entries s n) (outs q m) n m) ≡ true → (reacts graph s u m n ≡ true) ⊎ NewRun q t c n0 u m n
    by_run (inl y) a = inl (back (subst (λ (os : List OutEdge). list_any (covers q m u) (runs_in (entries s n) os n m) ≡ true) (ap (λ (x : Cell). x.outs) y ∙ ensured-edges s t c m) a))
    by_run (inr y) a = edge y.0 (ap (λ (x : Cell). x.outs) y.1 ∙ ap (λ (os : List OutEdge). with_out os n0 t) (ensured-edges s t c m)) a

    either : (is_in n (static_outs graph m) ≡ true) ⊎ (list_any (covers q m u) (runs q n m) ≡ true) → (reacts graph s u m n ≡ true) ⊎ NewRun q t c n0 u m n
    either (inl a) = inl (or_left _ _ a)
    either (inr a) = by_run (with_cell-cell p c (add_edge n0 t) m) (subst (λ (rs : List Run). list_any (covers q m u) rs ≡ true) (discovered-runs s t c n0 n m) a)

-- ---- ended entries less

collected-covers_at : (graph : Graph) (s : Core) → IsLawful graph s → (n0 m u : ℕ) (r : Run) → live s u ≡ true → has (entries s m) u ≡ true → covers (with_cell s n0 (collect s)) m u r ≡ true → covers s m u r ≡ true
collected-covers_at graph s h n0 m u r lu hu k = go (with_cell-cell s n0 (collect s) m)
  where
    q : Core
    q = with_cell s n0 (collect s)

    p : ℕ → Bool
    p v = not (live s v)

    es : List Entry
    es = entries s m

    pu : p u ≡ false
    pu = ap not lu

    active : (b : ℕ) → is_active (collected (on_calls p) es) b u ≡ true → is_active es b u ≡ true
    active b a = cases (cases_Bool (live s b))
      where
        cases : (live s b ≡ true) ⊎ (live s b ≡ false) → is_active es b u ≡ true
        cases (inr d) = ended-active graph s h m u b lu hu d
        cases (inl l) = true_from_ne_false _ (λ e.
            let c = behind-not_up (collected (on_calls p) es) u b (collected-unique p es (h.one_entry m)) (collected-behind p es u b pu (ap not l) (not_up_to-behind es u b hu e)) in
            neither_way (has (collected (on_calls p) es) b) (has (up_to (collected (on_calls p) es) u) b) c.0 c.1 a)
          where
            neither_way : (x y : Bool) → x ≡ true → y ≡ false → (not x || y) ≡ true → ⊥
            neither_way x y a b c = grind (arith, a, b, c)

    moved : entries q m ≡ collected (on_calls p) es → covers s m u r ≡ true
    moved g =
        let c = covers-parts q m u r k in
        parts-covers s m u r (record {
          has_it = hu;
          from = from-back s q m u r.begins (λ b _ a. active b (subst (λ (zs : List Entry). is_active zs b u ≡ true) g a)) c.from;
          until = until-back s q m u r.ends (λ z _ l b. (l, collected-behind_live p es u z pu (subst (λ (zs : List Entry). behind zs u z ≡ true) g b))) c.until;
        })

    go : (cell q m ≡ cell s m) ⊎ ((m ≡ n0) × (cell q m ≡ collect s (cell s m))) → covers s m u r ≡ true
    go (inl e) = same_lists-covers s q m u (ap (λ (c : Cell). c.entries) e) (λ z j l. l) r k
    go (inr e) = moved (ap (λ (c : Cell). c.entries) e.1)

-- A run loses no call that lives: what begins at an ended call begins before each live one's entry.
pub collected-reacts_at : (graph : Graph) (s : Core) → IsLawful graph s → (n0 u m n : ℕ) → live s u ≡ true → has (entries s m) u ≡ true → reacts graph (with_cell s n0 (collect s)) u m n ≡ true → reacts graph s u m n ≡ true
collected-reacts_at graph s h n0 u m n lu hu k = reacts-back graph s q u m n (λ a. go (with_cell-cell s n0 (collect s) n) (any-map (covers q m u) (covers s m u) (runs q n m) (λ i r _ x. collected-covers_at graph s h n0 m u r lu hu x) a)) k
  where
    q : Core
    q = with_cell s n0 (collect s)

    p : ℕ → Bool
    p v = not (live s v)

    edges : outs q m ≡ outs s m
    edges = same_outs s n0 (collect s) (λ x. refl) m

    turned : (a : Bool) → not a ≡ true → a ≡ false
    turned true k = sym k
    turned false k = refl

    earlier : Earlier (covers s m u) p
    earlier b z d x =
        let c = covers-parts s m u (record { begins = None; ends = z }) x in
        parts-covers s m u (record { begins = Some b; ends = z }) (record { has_it = c.has_it; from = ended-active graph s h m u b lu c.has_it (turned (live s b) d); until = c.until })

    prefix : (x y : ℕ) → behind (entries s n) x y ≡ true → p y ≡ true → p x ≡ true
    prefix x y b d = ap not (h.ended_is_prefix.prefix n x y b (turned (live s y) d))

    no_frame : (x : ℕ) → at is_frame (entries s n) x ≡ true → p x ≡ false
    no_frame x f = ap not (true_from_ne_false (live s x) (λ d. both_ways _ (h.ended_is_prefix.no_frame n x d) f))

    go : (cell q n ≡ cell s n) ⊎ ((n ≡ n0) × (cell q n ≡ collect s (cell s n))) → list_any (covers s m u) (runs q n m) ≡ true → list_any (covers s m u) (runs s n m) ≡ true
    go (inl e) a = subst (λ (rs : List Run). list_any (covers s m u) rs ≡ true) (same-runs s q n m (ap (λ (x : Cell). x.entries) e) edges) a
    go (inr e) a = collected-any (covers s m u) p earlier (entries s n) (outs s m) n m (h.one_entry n) prefix no_frame
        (subst (λ (rs : List Run). list_any (covers s m u) rs ≡ true) (ap (λ (x : Cell). runs_in x.entries (outs q m) n m) e.1 ∙ ap (λ (os : List OutEdge). runs_in (collected (on_calls p) (entries s n)) os n m) edges) a)
