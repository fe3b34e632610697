-- Only later calls than a node's first open call have open what it rests on, so that call comes to want nothing of it.
use Rattle.std.proofs.Common.{◌≡◌, ℕ, zero, suc, ◌<◌, Bool, true, false, ◌==◌, ◌⊎◌, inl, inr, refl, sym, arith, List, [], ◌∷◌, ◌++◌, true≢false, ◌∙◌, subst, Option, Some, None}
use Rattle.std.specs.Prelude.{slice_get, is_some}
use Rattle.std.specs.List.{list_any}
use Rattle.std.proofs.lemmas.List.Folds.{list_any-append}
use Rattle.std.proofs.lemmas.Bool.{or_cases, or_left, or_right, and_from, eqb-true, eq-eqb, false_from_ne_true, both_ways, cases_Bool, true_from_ne_false}
use Rattle.signal_graph.specs.Graph.{Graph, is_in, node_at, inputs_of}
use Rattle.signal_graph.proofs.ScriptNames.{in_static_outs}
use Rattle.order_graph.specs.Order.{reaches}
use Rattle.order_graph.proofs.Reaching.{reaches-join}
use Rattle.node_versions.specs.Entries.{has, at, is_frame, behind, first_open, has_node}
use Rattle.node_versions.proofs.Places.{at-has}
use Rattle.flow_model.specs.Machine.State.{Core, live, executes, is_framing, entries, outs, opens, wants, precedes}
use Rattle.flow_model.specs.Machine.Words.{deps, heads, prior_picks, is_some_of}
use Rattle.flow_model.specs.Kept.Runs.{Run, read_all, nothing_read, last_run, discovered, runs, covers, is_from, is_until, reacts, dropper}
use Rattle.flow_model.specs.Kept.Lawful.{IsLawful, IsLive, IsCovered, last_run_of}
use Rattle.flow_model.proofs.OneStep.WhoMayStep.{opens-live}
use Rattle.flow_model.proofs.OneList.StatesAndPlaces.{behind-total, first_open-none}
use Rattle.flow_model.proofs.OrderStays.NoFrameBeforeDones.{head-first}
use Rattle.flow_model.proofs.Wants.FramedWith.{opens-frame, live-chain, before-not_after, covered-reacts, not_up_to-behind, no_frame-before}
use Rattle.flow_model.proofs.Reactions.WhereRunsBegin.{seen-all}
use Rattle.flow_model.proofs.Reactions.WhoReacts.{parts-covers}
use Rattle.flow_model.proofs.FramesSpread.AfterDiscover.{head-prior}
use Rattle.flow_model.proofs.OneStep.FirstOpenCalls.{head-live, head-there}
use Rattle.flow_model.proofs.General.AnyAndAll.{some-is}

-- ---- runs that a test takes

-- The run begins at the call; it ends there.
abbrev pub begins_at : ℕ → Run → Bool
begins_at b r = is_some_of r.begins b

abbrev pub ends_at : ℕ → Run → Bool
ends_at z r = is_some_of r.ends z

-- a run of a list that the test takes, and its place
pub record IsTaken (test : Run → Bool) (rs : List Run) : Type 0 where
  pub index : ℕ
  pub run : Run
  pub there : slice_get rs index ≡ Some run
  pub taken : test run ≡ true

any-taken : (test : Run → Bool) (rs : List Run) → list_any test rs ≡ true → IsTaken test rs
any-taken test [] h = absurd (true≢false (sym h))
any-taken test (r ∷ rs) h = go (or_cases _ _ h) (any-taken test rs)
  where
    go : (test r ≡ true) ⊎ (list_any test rs ≡ true) → (list_any test rs ≡ true → IsTaken test rs) → IsTaken test (r ∷ rs)
    go (inl k) further = record { index = 0; run = r; there = refl; taken = k }
    go (inr k) further = let f = further k in record { index = suc f.index; run = f.run; there = f.there; taken = f.taken }

pub taken-any : (test : Run → Bool) (rs : List Run) (i : ℕ) (r : Run) → slice_get rs i ≡ Some r → test r ≡ true → list_any test rs ≡ true
taken-any test [] i r h k = cc
taken-any test (x ∷ rs) zero r h k = or_left _ _ (subst (λ (y : Run). test y ≡ true) (same h) k)
  where
    same : {a b : Run} → Some a ≡ Some b → b ≡ a
    same e = cc
taken-any test (x ∷ rs) (suc i) r h k = or_right _ _ (taken-any test rs i r h k)

-- Where a run begins or ends at a live call, the call has an entry at the candidate.
pub lawful-begins : (graph : Graph) (s : Core) → IsLawful graph s → (n m b : ℕ) → list_any (begins_at b) (runs s n m) ≡ true → IsLive s b → has (entries s m) b ≡ true
lawful-begins graph s h n m b k l = let t = any-taken (begins_at b) (runs s n m) k in h.edges_are_kept.begins_entered n m t.index t.run b t.there (some-is t.run.begins b t.taken) l

pub lawful-ends : (graph : Graph) (s : Core) → IsLawful graph s → (n m z : ℕ) → list_any (ends_at z) (runs s n m) ≡ true → IsLive s z → has (entries s m) z ≡ true
lawful-ends graph s h n m z k l = let t = any-taken (ends_at z) (runs s n m) k in h.edges_are_kept.ends_entered n m t.index t.run z t.there (some-is t.run.ends z t.taken) l

-- a run of the part in which the list ends
last-any : (s : Core) (n m : ℕ) (test : Run → Bool) → list_any test (last_run (last_run_of s n m) (dropper s n m)) ≡ true → list_any test (runs s n m) ≡ true
last-any s n m test k =
    let q = read_all m (entries s n) nothing_read in
    list_any-append test (q.closed ++ last_run q.current (dropper s n m)) (discovered (first_open (entries s n)) n (outs s m))
    ∙ or_left _ _ (list_any-append test q.closed (last_run q.current (dropper s n m)) ∙ or_right (list_any test q.closed) _ k)

-- ---- the nodes that react

-- Of two calls, the first open one and another with the node open, the first is before the other.
head-before : (graph : Graph) (s : Core) → IsLawful graph s → (u n v : ℕ) → heads s u n ≡ true → opens s v n ≡ true → (v ≡ u) ⊎ (precedes s u v ≡ true)
head-before graph s h u n v hd o = go (cases_Bool (v == u))
  where
    fv : at is_frame (entries s n) v ≡ true
    fv = opens-frame graph s h v n o

    go : ((v == u) ≡ true) ⊎ ((v == u) ≡ false) → (v ≡ u) ⊎ (precedes s u v ≡ true)
    go (inl e) = inl (eqb-true v u e)
    go (inr e) = two (or_cases _ _ (behind-total (entries s n) u v (at-has is_frame (entries s n) u (head-live graph s h u n hd)) (at-has is_frame (entries s n) v fv) (λ x. both_ways _ e (eq-eqb v u (sym x)))))
      where
        two : (behind (entries s n) u v ≡ true) ⊎ (behind (entries s n) v u ≡ true) → (v ≡ u) ⊎ (precedes s u v ≡ true)
        two (inl b) = inr (h.order_is_kept.lists n u v b (opens-live s v n o))
        two (inr b) = absurd (both_ways _ (first_open-none (entries s n) u v (h.one_entry n) (head-first (entries s n) u hd) b) fv)

-- An executing call at whose change the node reacts is the first open one there, or after it.
reacting-after : (graph : Graph) (s : Core) → IsLawful graph s → (u n m v : ℕ) → heads s u n ≡ true → opens s v m ≡ true → executes s v ≡ true → reacts graph s v m n ≡ true → (v ≡ u) ⊎ (precedes s u v ≡ true)
reacting-after graph s h u n m v hd o x r = go (or_cases _ _ (h.frames_spread v m n (opens-frame graph s h v m o) r))
  where
    lu : live s u ≡ true
    lu = opens-live s u n (h.frames_are_open.opens_frames u n ∙ head-live graph s h u n hd)

    go : (opens s v n ≡ true) ⊎ (wants s v n ≡ true) → (v ≡ u) ⊎ (precedes s u v ≡ true)
    go (inl y) = head-before graph s h u n v hd y
    go (inr y) = two (head-before graph s h u n c.by.0 hd c.by.2)
      where
        c : IsCovered s v n
        c = h.wants_are_covered v n x y

        chain : reaches s.pairs c.by.0 v ≡ true
        chain = live-chain s c.by.0 v (opens-live s c.by.0 n c.by.2) c.by.1

        two : (c.by.0 ≡ u) ⊎ (precedes s u c.by.0 ≡ true) → (v ≡ u) ⊎ (precedes s u v ≡ true)
        two (inl e) = inr (subst (λ (w : ℕ). precedes s w v ≡ true) e c.by.1)
        two (inr p) = inr (or_left _ _ (reaches-join s.pairs u c.by.0 v (live-chain s u c.by.0 lu p) chain))

-- An executing call that has open what the first open call's node rests on is that call, or after it.
pub opener-later : (graph : Graph) (s : Core) → IsLawful graph s → (u n m v : ℕ) → heads s u n ≡ true → is_in m (deps graph s u n) ≡ true → opens s v m ≡ true → executes s v ≡ true → (v ≡ u) ⊎ (precedes s u v ≡ true)
opener-later graph s h u n m v hd d o x = go (or_cases _ _ (sym (list_any-append (λ y. y == m) (inputs_of (node_at graph n)) (prior_picks s u n)) ∙ d))
  where
    fv : at is_frame (entries s m) v ≡ true
    fv = opens-frame graph s h v m o

    hv : has (entries s m) v ≡ true
    hv = at-has is_frame (entries s m) v fv

    lu : live s u ≡ true
    lu = opens-live s u n (h.frames_are_open.opens_frames u n ∙ head-live graph s h u n hd)

    by_run : reacts graph s v m n ≡ true → (v ≡ u) ⊎ (precedes s u v ≡ true)
    by_run r = reacting-after graph s h u n m v hd o x r

    from : (r : Run) → last_run_of s n m ≡ Some r → is_from s m r.begins v ≡ true
    from r e = begins r.begins refl
      where
        begins : (z : Option ℕ) → r.begins ≡ z → is_from s m z v ≡ true
        begins None k = refl
        begins (Some b) k = true_from_ne_false _ (λ a. no_frame-before graph s h v m n r b o e k (not_up_to-behind (entries s m) v b hv a))

    -- the last run covers the call, or the first open call has dropped the candidate before it
    picked : (c : Option Run) → last_run_of s n m ≡ c → is_some c ≡ true → (v ≡ u) ⊎ (precedes s u v ≡ true)
    picked None e k = absurd (true≢false (sym k))
    picked (Some r) e k = edge (has_node (outs s m) n) refl
      where
        covering : (z : Option ℕ) → dropper s n m ≡ z → is_until s m z v ≡ true → (v ≡ u) ⊎ (precedes s u v ≡ true)
        covering z y w = by_run (covered-reacts graph s v m n (last-any s n m (covers s m v)
            (subst (λ (o : Option Run). list_any (covers s m v) (last_run o (dropper s n m)) ≡ true) (sym e) (subst (λ (o : Option ℕ). list_any (covers s m v) (last_run (Some r) o) ≡ true) (sym y)
            (or_left _ _ (parts-covers s m v (record r { ends = z }) (record { has_it = hv; from = from r e; until = w })))))))

        edge : (b : Bool) → has_node (outs s m) n ≡ b → (v ≡ u) ⊎ (precedes s u v ≡ true)
        edge true y = covering None (rw (y, dropper) refl) refl
        edge false y = cases (cases_Bool (v == u))
          where
            drops : dropper s n m ≡ Some u
            drops = rw (y, dropper) (head-first (entries s n) u hd)

            entered : has (entries s m) u ≡ true
            entered = lawful-ends graph s h n m u (last-any s n m (ends_at u)
                (subst (λ (o : Option Run). list_any (ends_at u) (last_run o (dropper s n m)) ≡ true) (sym e) (subst (λ (o : Option ℕ). list_any (ends_at u) (last_run (Some r) o) ≡ true) (sym drops) (or_left _ _ (eq-eqb u u refl))))) lu

            cases : ((v == u) ≡ true) ⊎ ((v == u) ≡ false) → (v ≡ u) ⊎ (precedes s u v ≡ true)
            cases (inl w) = inl (eqb-true v u w)
            cases (inr w) = two (or_cases _ _ (behind-total (entries s m) u v entered hv (λ z. both_ways _ w (eq-eqb v u (sym z)))))
              where
                two : (behind (entries s m) u v ≡ true) ⊎ (behind (entries s m) v u ≡ true) → (v ≡ u) ⊎ (precedes s u v ≡ true)
                two (inl b) = inr (h.order_is_kept.lists m u v b (opens-live s v m o))
                two (inr b) = covering (Some u) drops (and_from _ _ lu b)

    go : (is_in m (inputs_of (node_at graph n)) ≡ true) ⊎ (is_in m (prior_picks s u n) ≡ true) → (v ≡ u) ⊎ (precedes s u v ≡ true)
    go (inl k) = by_run (or_left _ _ (in_static_outs graph m n (subst (λ (j : ℕ). n < j) h.lists (head-there graph s h u n hd)) k))
    go (inr k) = picked (last_run_of s n m) refl (seen-all m (entries s n) ∙ sym (head-prior graph s h u n m hd) ∙ k)

-- An executing first open call wants nothing that its node rests on.
pub head-wants_none : (graph : Graph) (s : Core) → IsLawful graph s → (u n m : ℕ) → heads s u n ≡ true → executes s u ≡ true → is_in m (deps graph s u n) ≡ true → wants s u m ≡ false
head-wants_none graph s h u n m hd x d = false_from_ne_true _ (λ w. none (h.wants_are_covered u m x w))
  where
    none : IsCovered s u m → ⊥
    none c = go (opener-later graph s h u n m c.by.0 hd d c.by.2 runs_it)
      where
        runs_it : executes s c.by.0 ≡ true
        runs_it = true_from_ne_false _ (λ e. both_ways _ (h.framing_comes_last.before c.by.0 u (let l = opens-live s c.by.0 m c.by.2 in let f : is_framing s c.by.0 ≡ true = grind (arith, e, l) in f) x) c.by.1)

        go : (c.by.0 ≡ u) ⊎ (precedes s u c.by.0 ≡ true) → ⊥
        go (inl e) = both_ways _ c.not_open (subst (λ (w : ℕ). opens s w m ≡ true) e c.by.2)
        go (inr p) = both_ways _ (before-not_after graph s h u c.by.0 p) c.by.1
