-- What is framed with a node that a call wants is open for another call that isn't after it.
use Rattle.std.proofs.Common.{◌≡◌, ℕ, Bool, true, false, ◌==◌, ◌⊎◌, inl, inr, refl, sym, ap, arith, List, [], ◌∷◌, ◌++◌, true≢false, ◌∙◌, subst, Option, Some, None}
use Rattle.std.specs.List.{list_any}
use Rattle.std.proofs.lemmas.Bool.Decides.{eqb_tells}
use Rattle.std.proofs.lemmas.Bool.{or_cases, or_left, or_right, and_from, eqb-true, eq-eqb, false_from_ne_true, both_ways, cases_Bool, true_from_ne_false}
use Rattle.std.proofs.lemmas.List.Folds.{list_any-append}
use Rattle.signal_graph.specs.Graph.{Graph, is_in, static_outs}
use Rattle.signal_graph.specs.Values.{nodes_in}
use Rattle.order_graph.specs.Order.{reaches}
use Rattle.order_graph.proofs.Reaching.{reaches-join}
use Rattle.node_versions.specs.declared.entry.Entry.{Entry}
use Rattle.node_versions.specs.Entries.{OutEdge, has, at, is_frame, is_done, behind, first_open, is_active, has_out, has_node, active_nodes, picks_at, picks_before}
use Rattle.node_versions.proofs.Places.{at-has}
use Rattle.flow_model.specs.Machine.State.{Core, live, executes, is_framing, entries, outs, opens, wants, precedes}
use Rattle.flow_model.specs.Machine.Words.{heads}
use Rattle.flow_model.specs.Kept.Runs.{Run, Reading, read_all, nothing_read, last_run, dropper, discovered, runs, is_from, covers, reacts, was_due, settles, by_node}
use Rattle.flow_model.specs.Kept.Lawful.{IsLawful, IsRunEdge, IsNewEdge, IsKeyOf, last_run_of}
use Rattle.flow_model.proofs.OneStep.WhoMayStep.{opens-live}
use Rattle.flow_model.proofs.OrderStays.AfterEachStep.{recorded-live}
use Rattle.flow_model.proofs.OneList.StatesAndPlaces.{behind-has, behind-total, first_open-frame}
use Rattle.flow_model.proofs.OrderStays.NoFrameBeforeDones.{head-first}
use Rattle.flow_model.proofs.Reactions.WhereRunsBegin.{BeginsRun, run-begins}

-- ---- a call that has a node open

-- Another call has the node open, and the call is not before it.
pub record IsOpenBefore (s : Core) (t n : ℕ) : Type 0 where
  pub opener : ℕ
  pub opened : opens s opener n ≡ true
  pub not_after : precedes s t opener ≡ false
  pub other : (t == opener) ≡ false

pub opens-frame : (graph : Graph) (s : Core) → IsLawful graph s → (u n : ℕ) → opens s u n ≡ true → at is_frame (entries s n) u ≡ true
opens-frame graph s h u n o = sym (h.frames_are_open.opens_frames u n) ∙ o

pub heads-opens : (graph : Graph) (s : Core) → IsLawful graph s → (u n : ℕ) → heads s u n ≡ true → opens s u n ≡ true
heads-opens graph s h u n k = h.frames_are_open.opens_frames u n ∙ first_open-frame (entries s n) u (h.one_entry n) (head-first (entries s n) u k)

-- Such a call keeps this one from a Done.
pub open_before-no_done : (graph : Graph) (s : Core) → IsLawful graph s → (t n : ℕ) → IsOpenBefore s t n → at is_done (entries s n) t ≡ false
open_before-no_done graph s h t n b = false_from_ne_true _ (λ d. go d (or_cases _ _ (behind-total (entries s n) b.opener t (at-has is_frame (entries s n) b.opener frame) (at-has is_done (entries s n) t d) (λ e. both_ways _ b.other (eq-eqb t b.opener (sym e))))))
  where
    frame : at is_frame (entries s n) b.opener ≡ true
    frame = opens-frame graph s h b.opener n b.opened

    go : at is_done (entries s n) t ≡ true → (behind (entries s n) b.opener t ≡ true) ⊎ (behind (entries s n) t b.opener ≡ true) → ⊥
    go d (inl k) = both_ways _ (h.frames_are_open.behind_dones n b.opener t k frame) d
    go d (inr k) = both_ways _ b.not_after (h.order_is_kept.lists n t b.opener k (opens-live s b.opener n b.opened))

-- A chain of pairs goes one way.
chain-one_way : (graph : Graph) (s : Core) → IsLawful graph s → (w t : ℕ) → reaches s.pairs w t ≡ true → (precedes s t w ≡ false) × ((t == w) ≡ false)
chain-one_way graph s h w t r = (false_from_ne_true _ back, false_from_ne_true _ (λ e. both_ways _ (h.order_is_kept.no_cycle t) (subst (λ (x : ℕ). reaches s.pairs x t ≡ true) (sym (eqb-true t w e)) r)))
  where
    back : precedes s t w ≡ true → ⊥
    back p =
        let l = recorded-live graph s h w t r in
        let c = h.order_is_kept.no_cycle t in
        let tr = reaches-join s.pairs t w t in
        grind (arith, p, l, c, tr, r)

pub live-chain : (s : Core) (u v : ℕ) → live s u ≡ true → precedes s u v ≡ true → reaches s.pairs u v ≡ true
live-chain s u v l p = grind (arith, l, p)

-- A call that is before another one is not after it.
pub before-not_after : (graph : Graph) (s : Core) → IsLawful graph s → (u v : ℕ) → precedes s u v ≡ true → precedes s v u ≡ false
before-not_after graph s h u v p = false_from_ne_true _ (λ k.
    let c = h.order_is_kept.no_cycle u in
    let tr = reaches-join s.pairs u v u in
    let a = λ (x : reaches s.pairs u v ≡ true). recorded-live graph s h u v x in
    let b = λ (x : reaches s.pairs v u ≡ true). recorded-live graph s h v u x in
    grind (arith, p, k, c, tr, a, b))

-- ---- what reacts to an open node of an earlier call

-- Another call has the node open, and a chain of pairs leads from it to this one.
pub record IsChained (s : Core) (t n : ℕ) : Type 0 where
  pub opener : ℕ
  pub opened : opens s opener n ≡ true
  pub chain : reaches s.pairs opener t ≡ true

chained-before : (graph : Graph) (s : Core) → IsLawful graph s → (t n : ℕ) → IsChained s t n → IsOpenBefore s t n
chained-before graph s h t n k = let c = chain-one_way graph s h k.opener t k.chain in record { opener = k.opener; opened = k.opened; not_after = c.0; other = c.1 }

reaction-chained : (graph : Graph) (s : Core) → IsLawful graph s → (t v m n : ℕ) → executes s t ≡ true → precedes s v t ≡ true → opens s v m ≡ true → reacts graph s v m n ≡ true → IsChained s t n
reaction-chained graph s h t v m n xt p o r = go (or_cases _ _ (h.frames_spread v m n (opens-frame graph s h v m o) r))
  where
    lv : live s v ≡ true
    lv = opens-live s v m o

    chain : reaches s.pairs v t ≡ true
    chain = live-chain s v t lv p

    runs_it : executes s v ≡ true
    runs_it = true_from_ne_false _ (λ e. both_ways _ (h.framing_comes_last.before v t (let f : is_framing s v ≡ true = grind (arith, e, lv) in f) xt) p)

    go : (opens s v n ≡ true) ⊎ (wants s v n ≡ true) → IsChained s t n
    go (inl x) = record { opener = v; opened = x; chain = chain }
    go (inr x) = let c = h.wants_are_covered v n runs_it x in
        record { opener = c.by.0; opened = c.by.2; chain = reaches-join s.pairs c.by.0 v t (live-chain s c.by.0 v (opens-live s c.by.0 n c.by.2) c.by.1) chain }

-- ---- the out-edges of the node

-- an edge that stands for the node, active for the call
pub record HasActive (es : List Entry) (os : List OutEdge) (t n : ℕ) : Type 0 where
  pub since : ℕ
  pub stands : has_out os n since ≡ true
  pub active : is_active es since t ≡ true

pub active-edge : (es : List Entry) (os : List OutEdge) (t n : ℕ) → is_in n (active_nodes es os t) ≡ true → HasActive es os t n
active-edge es [] t n h = absurd (true≢false (sym h))
active-edge es (edge ∷ os) t n h = go (is_active es edge.1 t) refl h (λ k. active-edge es os t n k)
  where
    later : HasActive es os t n → HasActive es (edge ∷ os) t n
    later k = record { since = k.since; stands = or_right _ _ k.stands; active = k.active }

    go : (b : Bool) → is_active es edge.1 t ≡ b → is_in n (elim b as (λ _. List ℕ) [ true ↦ edge.0 ∷ active_nodes es os t | false ↦ active_nodes es os t ]) ≡ true → (is_in n (active_nodes es os t) ≡ true → HasActive es os t n) → HasActive es (edge ∷ os) t n
    go false e k further = later (further k)
    go true e k further = cases (or_cases _ _ k)
      where
        cases : ((edge.0 == n) ≡ true) ⊎ (is_in n (active_nodes es os t) ≡ true) → HasActive es (edge ∷ os) t n
        cases (inl x) = record { since = edge.1; stands = or_left _ _ (and_from _ _ x (eq-eqb edge.1 edge.1 refl)); active = e }
        cases (inr x) = later (further x)

pub out-node : (os : List OutEdge) (n since : ℕ) → has_out os n since ≡ true → has_node os n ≡ true
out-node [] n since h = h
out-node (edge ∷ os) n since h = let r = out-node os n since in grind (arith, h, r)

-- An entry that isn't at or before the call's is behind it.
pub not_up_to-behind : (es : List Entry) (t u : ℕ) → has es t ≡ true → is_active es u t ≡ false → behind es t u ≡ true
not_up_to-behind [] t u h k = absurd (true≢false (sym h))
not_up_to-behind (e ∷ es) t u h k = let r = not_up_to-behind es t u in grind (arith, eqb_tells, h, k, r)

-- A run of the node's candidates that covers the call makes the node react.
pub covered-reacts : (graph : Graph) (s : Core) (v m n : ℕ) → list_any (covers s m v) (runs s n m) ≡ true → reacts graph s v m n ≡ true
covered-reacts graph s v m n k = or_right _ _ k

run-covers : (s : Core) (v m : ℕ) (begins : Option ℕ) → has (entries s m) v ≡ true → is_from s m begins v ≡ true → covers s m v (record { begins = begins; ends = None }) ≡ true
run-covers s v m begins h f = and_from _ _ (and_from _ _ h f) refl

-- the last run, where the candidate has an out-edge
pub last-covers : (graph : Graph) (s : Core) (v m n : ℕ) (r : Run) → has (entries s m) v ≡ true → last_run_of s n m ≡ Some r → has_node (outs s m) n ≡ true → is_from s m r.begins v ≡ true → reacts graph s v m n ≡ true
last-covers graph s v m n r hv e o f = covered-reacts graph s v m n (list_any-append test (q.closed ++ last_run q.current (dropper s n m)) (discovered (first_open (entries s n)) n (outs s m)) ∙ or_left _ _ (list_any-append test q.closed (last_run q.current (dropper s n m)) ∙ or_right _ _ (one q.current e)))
  where
    test : Run → Bool
    test = covers s m v

    q : Reading
    q = read_all m (entries s n) nothing_read

    no_dropper : dropper s n m ≡ None
    no_dropper = rw (o, dropper) refl

    one : (c : Option Run) → c ≡ Some r → list_any test (last_run c (dropper s n m)) ≡ true
    one None k = cc
    one (Some x) k = or_left _ _ (subst (λ (z : Option ℕ). test (record x { ends = z }) ≡ true) (sym no_dropper) (run-covers s v m x.begins hv (subst (λ (z : Option ℕ). is_from s m z v ≡ true) (ap run_begins (sym k)) f)))
      where
        run_begins : Option Run → Option ℕ
        run_begins None = None
        run_begins (Some w) = w.begins

-- the run of a candidate that the first open call has discovered
new-covers : (graph : Graph) (s : Core) (v m n since : ℕ) → has (entries s m) v ≡ true → first_open (entries s n) ≡ Some since → has_out (outs s m) n since ≡ true → is_active (entries s m) since v ≡ true → reacts graph s v m n ≡ true
new-covers graph s v m n since hv e o f = covered-reacts graph s v m n (list_any-append test (q.closed ++ last_run q.current (dropper s n m)) (discovered (first_open (entries s n)) n (outs s m)) ∙ or_right _ _ (one (first_open (entries s n)) e))
  where
    test : Run → Bool
    test = covers s m v

    q : Reading
    q = read_all m (entries s n) nothing_read

    one : (c : Option ℕ) → c ≡ Some since → list_any test (discovered c n (outs s m)) ≡ true
    one None k = cc
    one (Some x) k = subst (λ (z : ℕ). list_any test (discovered (Some z) n (outs s m)) ≡ true) (here k) (rw (o, discovered) (or_left _ _ (run-covers s v m (Some since) hv f)))
      where
        here : {x y : ℕ} → Some x ≡ Some y → y ≡ x
        here k = cc

-- Where a run begins at a call, no Frame stands before that call's entry at the candidate.
pub no_frame-before : (graph : Graph) (s : Core) → IsLawful graph s → (v m n : ℕ) (r : Run) (b : ℕ) → opens s v m ≡ true → last_run_of s n m ≡ Some r → r.begins ≡ Some b → behind (entries s m) v b ≡ true → ⊥
no_frame-before graph s h v m n r b o e k j = go (h.entries_are_kept.new_picks b n lb w.done)
  where
    w : BeginsRun m (entries s n) b
    w = run-begins m (entries s n) r b (h.one_entry n) e k

    lb : live s b ≡ true
    lb = true_from_ne_false _ (λ x. both_ways _ (h.ended_is_prefix.prefix m v b j x) (opens-live s v m o))

    go : (was_due graph s b n ≡ true) ⊎ (picks_at (entries s n) b ≡ picks_before (entries s n) b) → ⊥
    go (inr x) = both_ways _ w.prior (ap (λ (ps : List (Option ℕ)). is_in m (nodes_in ps)) (sym x) ∙ w.now)
    go (inl x) =
        let settled : settles graph s b m n ≡ true = or_right _ _ (and_from _ _ x (or_right _ _ w.now)) in
        both_ways _ (h.settled_is_kept.none_before v b m (by_node n settled) j) (opens-frame graph s h v m o)

-- ---- what is framed with a node

-- The edge's call has the node open, and an entry at the candidate.
pub record IsEdgeOpen (s : Core) (m n since : ℕ) : Type 0 where
  pub opened : opens s since n ≡ true
  pub entry : has (entries s m) since ≡ true

-- The node of an edge is open for a call before this one, or for the edge's call, which has an entry at the candidate.
pub edge-reached : (graph : Graph) (s : Core) → IsLawful graph s → (t v m n since : ℕ) → executes s t ≡ true → precedes s v t ≡ true → opens s v m ≡ true → opens s t n ≡ false
    → has_out (outs s m) n since ≡ true → IsChained s t n ⊎ IsEdgeOpen s m n since
edge-reached graph s h t v m n since xt p o closed e = go (cases_Bool (is_active (entries s m) since v)) (h.edges_are_kept.stands n m since e)
  where
    hv : has (entries s m) v ≡ true
    hv = at-has is_frame (entries s m) v (opens-frame graph s h v m o)

    next : reacts graph s v m n ≡ true → IsChained s t n ⊎ IsEdgeOpen s m n since
    next r = inl (reaction-chained graph s h t v m n xt p o r)

    first : heads s since n ≡ true → first_open (entries s n) ≡ Some since
    first k = head-first (entries s n) since k

    not_ended : live s since ≡ false → behind (entries s m) v since ≡ true → ⊥
    not_ended x b = both_ways _ (h.ended_is_prefix.prefix m v since b x) (opens-live s v m o)

    -- the run in which the list ends
    ends_in : (c : Option Run) → last_run_of s n m ≡ c → IsKeyOf s since c → (is_active (entries s m) since v ≡ true) ⊎ (is_active (entries s m) since v ≡ false) → IsChained s t n ⊎ IsEdgeOpen s m n since
    ends_in None x k w = absurd k
    ends_in (Some r) x k w = begins r.begins refl k w
      where
        begins : (z : Option ℕ) → r.begins ≡ z → IsKeyOf s since (Some (record r { begins = z })) → (is_active (entries s m) since v ≡ true) ⊎ (is_active (entries s m) since v ≡ false) → IsChained s t n ⊎ IsEdgeOpen s m n since
        begins None y k w = next (last-covers graph s v m n r hv x (out-node (outs s m) n since e) (subst (λ (z : Option ℕ). is_from s m z v ≡ true) (sym y) refl))
        begins (Some b) y k (inl w) = next (last-covers graph s v m n r hv x (out-node (outs s m) n since e) (subst (λ (z : Option ℕ). is_from s m z v ≡ true) (sym y) (subst (λ (z : ℕ). is_active (entries s m) z v ≡ true) k w)))
        begins (Some b) y k (inr w) = absurd (no_frame-before graph s h v m n r b o x y (subst (λ (z : ℕ). behind (entries s m) v z ≡ true) k (not_up_to-behind (entries s m) v since hv w)))

    go : (is_active (entries s m) since v ≡ true) ⊎ (is_active (entries s m) since v ≡ false) → IsRunEdge s n m since ⊎ IsNewEdge s n m since → IsChained s t n ⊎ IsEdgeOpen s m n since
    go w (inl k) = ends_in (last_run_of s n m) refl k.key w
    go (inl w) (inr k) = next (new-covers graph s v m n since hv (first k.first_open) e w)
    go (inr w) (inr k) = inr (record { opened = heads-opens graph s h since n k.first_open; entry = (behind-has (entries s m) v since (not_up_to-behind (entries s m) v since hv w)).1 })

-- An edge whose call is not after this one: its node is open for a call that isn't after this one.
pub edge-open : (graph : Graph) (s : Core) → IsLawful graph s → (t v m n since : ℕ) → executes s t ≡ true → precedes s v t ≡ true → opens s v m ≡ true → opens s t n ≡ false
    → has_out (outs s m) n since ≡ true → (has (entries s m) since ≡ true → (t == since) ≡ false → precedes s t since ≡ false) → IsOpenBefore s t n
edge-open graph s h t v m n since xt p o closed e place = go (edge-reached graph s h t v m n since xt p o closed e)
  where
    go : IsChained s t n ⊎ IsEdgeOpen s m n since → IsOpenBefore s t n
    go (inl k) = chained-before graph s h t n k
    go (inr k) = record { opener = since; opened = k.opened; not_after = place k.entry other; other = other }
      where
        other : (t == since) ≡ false
        other = false_from_ne_true _ (λ x. both_ways _ closed (subst (λ (z : ℕ). opens s z n ≡ true) (sym (eqb-true t since x)) k.opened))

pub static-chained : (graph : Graph) (s : Core) → IsLawful graph s → (t v m n : ℕ) → executes s t ≡ true → precedes s v t ≡ true → opens s v m ≡ true → is_in n (static_outs graph m) ≡ true → IsChained s t n
static-chained graph s h t v m n xt p o k = reaction-chained graph s h t v m n xt p o (or_left _ _ k)

pub static-open : (graph : Graph) (s : Core) → IsLawful graph s → (t v m n : ℕ) → executes s t ≡ true → precedes s v t ≡ true → opens s v m ≡ true → is_in n (static_outs graph m) ≡ true → IsOpenBefore s t n
static-open graph s h t v m n xt p o k = chained-before graph s h t n (static-chained graph s h t v m n xt p o k)
