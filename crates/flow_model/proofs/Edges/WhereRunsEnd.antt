-- A run ends where it did before, after a Done; after a Drop there or at the call that drops.
use Rattle.std.proofs.Common.{◌≡◌, ℕ, Bool, true, false, ◌&&◌, ◌||◌, not, ◌==◌, ◌⊎◌, inl, inr, refl, sym, ap, arith, List, [], ◌∷◌, true≢false, ◌∙◌, subst, Option, Some, None}
use Rattle.std.proofs.lemmas.Bool.{or_cases, or_left, or_right, eqb-true, eq-eqb, both_ways, cases_Bool}
use Rattle.std.specs.Prelude.{is_some}
use Rattle.std.specs.List.{list_any}
use Rattle.script_tree.specs.declared.value.Value.{Value}
use Rattle.signal_graph.specs.declared.node.Node.{Node}
use Rattle.signal_graph.specs.declared.node.Node.TheVariants.{Source, Signal, Fold, Choose}
use Rattle.signal_graph.specs.Graph.{Graph, is_in, is_source, node_at, selectors_of}
use Rattle.signal_graph.specs.Values.{nodes_in}
use Rattle.node_versions.specs.declared.entry.State.TheVariants.{Done}
use Rattle.node_versions.specs.declared.entry.Entry.{Entry}
use Rattle.node_versions.specs.Entries.{OutEdge, at, is_frame, first_open, with_state, has_out, has_node, picks_before}
use Rattle.flow_model.specs.declared.step.Step.TheVariants as steps
use Rattle.flow_model.specs.Machine.State.{Core, entries, outs}
use Rattle.flow_model.specs.Machine.Words.{heads, touched, prior_picks, found_picks, is_prior, is_candidate}
use Rattle.flow_model.specs.Machine.Changes.{remove_first}
use Rattle.flow_model.specs.Machine.Steps.{allowed, is_worked_out, is_released}
use Rattle.flow_model.specs.Kept.Runs.{Run, Reading, go_on, close, read_done, read_all, nothing_read, last_run, discovered}
use Rattle.flow_model.specs.Kept.Lawful.{IsLawful, picks_last, lists_candidate}
use Rattle.flow_model.proofs.OneStep.WhoMayStep.{can_work-at_front, at_front-heads, skip-can_work, resolve-can_work}
use Rattle.flow_model.proofs.OrderStays.NoFrameBeforeDones.{head-first}
use Rattle.flow_model.proofs.Wants.EarlierNodes.{prior-listed}
use Rattle.flow_model.proofs.Wants.FramedWith.{out-node}
use Rattle.flow_model.proofs.Reactions.WhereRunsBegin.{seen-all}
use Rattle.flow_model.proofs.Reactions.RunsThatHaveEnded.{any-last, finished-reading}
use Rattle.flow_model.proofs.Reactions.WhoReacts.{runs_in, dropper_in, any-parts, same-edges}
use Rattle.flow_model.proofs.FramesSpread.AfterOtherSteps.{removed-node, removed-out}
use Rattle.flow_model.proofs.FramesSpread.AfterDiscover.{head-prior}
use Rattle.flow_model.proofs.FramesSpread.AfterDones.{IsFinishing}
use Rattle.flow_model.proofs.General.AnyAndAll.{all-in, some-is, only}
use Rattle.flow_model.proofs.OneStep.FirstOpenCalls.{head-live}
use Rattle.flow_model.proofs.Work.OnlyLaterCallsOpen.{ends_at}
use Rattle.flow_model.proofs.Edges.PicksFitSelectors.{resolve-rest}
use Rattle.flow_model.proofs.Settled.AfterDones.{worked-released}

-- ---- where runs end

-- A run that the first open call has begun has no end.
no_end-new : (z : ℕ) (o : Option ℕ) (n : ℕ) (os : List OutEdge) → list_any (ends_at z) (discovered o n os) ≡ true → ⊥
no_end-new z None n os k = true≢false (sym k)
no_end-new z (Some t) n os k = go (has_out os n t) k
  where
    go : (b : Bool) → list_any (ends_at z) (elim b as (λ _. List Run) [ true ↦ record { begins = Some t; ends = None } ∷ [] | false ↦ [] ]) ≡ true → ⊥
    go true x = true≢false (sym x)
    go false x = true≢false (sym x)

-- A run that ends there has ended, or it is the one that the first open call has dropped.
pub ends-parts : (z : ℕ) (es : List Entry) (os : List OutEdge) (n m : ℕ) → list_any (ends_at z) (runs_in es os n m) ≡ true
    → (list_any (ends_at z) (read_all m es nothing_read).closed ≡ true) ⊎ (list_any (ends_at z) (last_run (read_all m es nothing_read).current (dropper_in es os n)) ≡ true)
ends-parts z es os n m h = go (or_cases _ _ (sym (any-parts (ends_at z) es os n m) ∙ h))
  where
    q : Reading
    q = read_all m es nothing_read

    go : ((list_any (ends_at z) q.closed || list_any (ends_at z) (last_run q.current (dropper_in es os n))) ≡ true) ⊎ (list_any (ends_at z) (discovered (first_open es) n os) ≡ true)
        → (list_any (ends_at z) q.closed ≡ true) ⊎ (list_any (ends_at z) (last_run q.current (dropper_in es os n)) ≡ true)
    go (inl k) = or_cases _ _ k
    go (inr k) = absurd (no_end-new z (first_open es) n os k)

closed-ends : (z : ℕ) (es : List Entry) (os : List OutEdge) (n m : ℕ) → list_any (ends_at z) (read_all m es nothing_read).closed ≡ true → list_any (ends_at z) (runs_in es os n m) ≡ true
closed-ends z es os n m k = any-parts (ends_at z) es os n m ∙ or_left _ _ (or_left _ _ k)

dropped-run : (z : ℕ) (es : List Entry) (os : List OutEdge) (n m : ℕ) → list_any (ends_at z) (last_run (read_all m es nothing_read).current (dropper_in es os n)) ≡ true → list_any (ends_at z) (runs_in es os n m) ≡ true
dropped-run z es os n m k = any-parts (ends_at z) es os n m ∙ or_left _ _ (or_right _ _ k)

-- The last run ends at the call that has dropped it.
pub last-ends : (z : ℕ) (c : Option Run) (o : Option ℕ) → list_any (ends_at z) (last_run c o) ≡ true → (is_some c ≡ true) × (o ≡ Some z)
last-ends z None o k = absurd (true≢false (sym k))
last-ends z (Some r) o k = (refl, some-is o z (only _ k))

ends-last : (z : ℕ) (c : Option Run) (o : Option ℕ) → is_some c ≡ true → o ≡ Some z → list_any (ends_at z) (last_run c o) ≡ true
ends-last z None o k e = absurd (true≢false (sym k))
ends-last z (Some r) o k e = subst (λ (x : Option ℕ). list_any (ends_at z) (last_run (Some r) x) ≡ true) (sym e) (or_left _ _ (eq-eqb z z refl))

-- ---- an edge less

pub dropped-ends : (z : ℕ) (es : List Entry) (os : List OutEdge) (n0 n m t : ℕ) → (n ≡ n0 → first_open es ≡ Some t) → list_any (ends_at z) (runs_in es (remove_first n0 os) n m) ≡ true → (list_any (ends_at z) (runs_in es os n m) ≡ true) ⊎ ((n ≡ n0) × (z ≡ t))
dropped-ends z es os n0 n m t first h = go (cases_Bool (n == n0))
  where
    q : Reading
    q = read_all m es nothing_read

    go : ((n == n0) ≡ true) ⊎ ((n == n0) ≡ false) → (list_any (ends_at z) (runs_in es os n m) ≡ true) ⊎ ((n ≡ n0) × (z ≡ t))
    go (inr x) = inl (subst (λ (rs : List Run). list_any (ends_at z) rs ≡ true) (same-edges es os (remove_first n0 os) n m (removed-node n0 n os x) (λ y. removed-out n0 n y os x)) h)
    go (inl x) = two (ends-parts z es (remove_first n0 os) n m h)
      where
        e : n ≡ n0
        e = eqb-true n n0 x

        dropper : (b : Bool) → has_node (remove_first n0 os) n ≡ b → elim b as (λ _. Option ℕ) [ true ↦ None | false ↦ first_open es ] ≡ Some z → z ≡ t
        dropper true y k = cc
        dropper false y k = same (sym k ∙ first e)
          where
            same : {x y : ℕ} → Some x ≡ Some y → x ≡ y
            same k = cc

        two : (list_any (ends_at z) q.closed ≡ true) ⊎ (list_any (ends_at z) (last_run q.current (dropper_in es (remove_first n0 os) n)) ≡ true) → (list_any (ends_at z) (runs_in es os n m) ≡ true) ⊎ ((n ≡ n0) × (z ≡ t))
        two (inl k) = inl (closed-ends z es os n m k)
        two (inr k) = inr (e, dropper (has_node (remove_first n0 os) n) refl (last-ends z q.current (dropper_in es (remove_first n0 os) n) k).1)

-- ---- a call that finishes

-- What a Done leaves had no edge any more.
abbrev pub Leaves : Core → ℕ → List (Option ℕ) → Type 0
Leaves s n ps = (m : ℕ) → is_in m (nodes_in ps) ≡ false → picks_last s n m ≡ true → has_node (outs s m) n ≡ false

pub finished-ends : (graph : Graph) (s : Core) → IsLawful graph s → (t n : ℕ) (v : Value) (c : Bool) (ps : List (Option ℕ)) → IsFinishing graph s t n ps → Leaves s n ps → (m z : ℕ)
    → list_any (ends_at z) (runs_in (with_state t (Done v c ps) (entries s n)) (outs s m) n m) ≡ true → list_any (ends_at z) (runs_in (entries s n) (outs s m) n m) ≡ true
finished-ends graph s h t n v c ps fin leaves m z k = go (ends-parts z after os n m k)
  where
    es : List Entry
    es = entries s n

    os : List OutEdge
    os = outs s m

    after : List Entry
    after = with_state t (Done v c ps) es

    q : Reading
    q = read_all m es nothing_read

    hd : heads s t n ≡ true
    hd = at_front-heads graph s t n fin.front

    frame : at is_frame es t ≡ true
    frame = head-live graph s h t n hd

    reading : read_all m after nothing_read ≡ read_done m t ps q
    reading = finished-reading m t v c ps es nothing_read (h.one_entry n) frame (λ x b. h.frames_are_open.behind_dones n t x b frame)

    -- a run that the Done ends was dropped before
    left : (r : Run) → q.current ≡ Some r → is_in m (nodes_in ps) ≡ false → z ≡ t → list_any (ends_at z) (runs_in es os n m) ≡ true
    left r e f y =
        let gone = leaves m f (sym (seen-all m es) ∙ ap is_some e) in
        dropped-run z es os n m (ends-last z q.current (dropper_in es os n) (ap is_some e) (rw (gone, dropper_in) (head-first es t hd ∙ ap (λ (x : ℕ). Some x) (sym y))))

    closed : (b : Bool) → is_in m (nodes_in ps) ≡ b → (o : Option Run) → q.current ≡ o → list_any (ends_at z) (elim b as (λ _. List Run) [ true ↦ q.closed | false ↦ close o t q.closed ]) ≡ true → list_any (ends_at z) (runs_in es os n m) ≡ true
    closed true f o e a = closed-ends z es os n m a
    closed false f None e a = closed-ends z es os n m a
    closed false f (Some r) e a = two (any-last (ends_at z) q.closed (record r { ends = Some t }) a)
      where
        two : (list_any (ends_at z) q.closed ≡ true) ⊎ (ends_at z (record r { ends = Some t }) ≡ true) → list_any (ends_at z) (runs_in es os n m) ≡ true
        two (inl x) = closed-ends z es os n m x
        two (inr x) = left r e f (sym (eqb-true t z x))

    stands : is_in m (nodes_in ps) ≡ true → has_node os n ≡ true
    stands f = cases (cases_Bool (picks_last s n m))
      where
        cases : (picks_last s n m ≡ true) ⊎ (picks_last s n m ≡ false) → has_node os n ≡ true
        cases (inl x) = fin.goes_on m f x
        cases (inr x) = out-node os n t (fin.begins m f x)

    last : (b : Bool) → is_in m (nodes_in ps) ≡ b → list_any (ends_at z) (last_run (elim b as (λ _. Option Run) [ true ↦ go_on q.current q.fresh t | false ↦ None ]) (dropper_in after os n)) ≡ true → list_any (ends_at z) (runs_in es os n m) ≡ true
    last false f a = absurd (true≢false (sym a))
    last true f a = let w = stands f in absurd (none (rw (w, dropper_in) at (last-ends z (go_on q.current q.fresh t) (dropper_in after os n) a).1))
      where
        none : None ≡ Some z → ⊥
        none k = cc

    go : (list_any (ends_at z) (read_all m after nothing_read).closed ≡ true) ⊎ (list_any (ends_at z) (last_run (read_all m after nothing_read).current (dropper_in after os n)) ≡ true) → list_any (ends_at z) (runs_in es os n m) ≡ true
    go (inl a) = closed (is_in m (nodes_in ps)) refl q.current refl (subst (λ (w : Reading). list_any (ends_at z) w.closed ≡ true) reading a)
    go (inr a) = last (is_in m (nodes_in ps)) refl (subst (λ (w : Reading). list_any (ends_at z) (last_run w.current (dropper_in after os n)) ≡ true) reading a)

pub skip-leaves : (graph : Graph) (s : Core) → IsLawful graph s → (t n : ℕ) → allowed graph s (steps.Skip t n) ≡ true → Leaves s n (picks_before (entries s n) t)
skip-leaves graph s h t n a m f p = absurd (both_ways _ f (head-prior graph s h t n m (at_front-heads graph s t n (can_work-at_front graph s t n (skip-can_work graph s t n a))) ∙ p))

-- A node that has picked something is no source, and so is worked out when it is resolved.
listed-no_source : (m : ℕ) (d : Node) → lists_candidate m (selectors_of d) ≡ true → is_source d ≡ false
listed-no_source m (Source v) k = absurd (true≢false (sym k))
listed-no_source m (Signal script inputs) k = refl
listed-no_source m (Fold v script inputs) k = refl
listed-no_source m (Choose selectors body inputs) k = refl

-- A prior pick of a node that is resolved is found again, or has no edge any more.
pub resolve-released : (graph : Graph) (s : Core) → IsLawful graph s → (t n : ℕ) → allowed graph s (steps.Resolve t n) ≡ true → (m : ℕ) → is_prior s t n m ≡ true → is_released s n m ≡ true
resolve-released graph s h t n a m p = all-in (is_released s n) (prior_picks s t n) m (worked-released graph s t n (rest (is_source (node_at graph n)) (touched graph s t n) (is_worked_out graph s t n) (listed-no_source m (node_at graph n) (prior-listed graph s h t n m p)) (resolve-rest graph s t n a))) p
  where
    rest : (x y w : Bool) → x ≡ false → (x || (y && w)) ≡ true → w ≡ true
    rest x y w h k = grind (arith, h, k)

pub resolve-leaves : (graph : Graph) (s : Core) → IsLawful graph s → (t n : ℕ) → allowed graph s (steps.Resolve t n) ≡ true → Leaves s n (found_picks s n)
resolve-leaves graph s h t n a m f p = freed (is_candidate s n m) (has_node (outs s m) n) (resolve-released graph s h t n a m (head-prior graph s h t n m (at_front-heads graph s t n (can_work-at_front graph s t n (resolve-can_work graph s t n a))) ∙ p)) f
  where
    freed : (x y : Bool) → (x || not y) ≡ true → x ≡ false → y ≡ false
    freed x y h k = grind (arith, h, k)
