-- Runs begin and end at calls in the choose node's list, and out-edges are of calls that have begun.
-- So a beginning keeps the out-edges.
use Rattle.std.proofs.Common.{◌≡◌, ℕ, suc, ◌≤◌, Bool, true, false, ◌||◌, ◌==◌, ◌⊎◌, inl, inr, refl, sym, ap, arith, List, [], ◌∷◌, true≢false, ◌∙◌, subst, Option, Some, None}
use Rattle.std.proofs.lemmas.Bool.{or_cases, or_left, or_right, eqb-true, eq-eqb, both_ways}
use Rattle.std.specs.Prelude.{is_some}
use Rattle.std.specs.List.{list_any}
use Rattle.signal_graph.specs.declared.call.Call.{Call}
use Rattle.signal_graph.specs.Graph.{Graph, is_in}
use Rattle.signal_graph.specs.Values.{nodes_in}
use Rattle.node_versions.specs.declared.entry.State.{State}
use Rattle.node_versions.specs.declared.entry.State.TheVariants.{Mark, Frame, Done}
use Rattle.node_versions.specs.declared.entry.Entry.{Entry}
use Rattle.node_versions.specs.Entries.{OutEdge, IsUnique, has, is_frame, first_open, has_out, has_node, with_out}
use Rattle.node_versions.proofs.Places.{at-has}
use Rattle.flow_model.specs.declared.step.Step.{Step}
use Rattle.flow_model.specs.declared.step.Step.TheVariants as steps
use Rattle.flow_model.specs.Machine.State.{Core, call_of, live, entries, outs}
use Rattle.flow_model.specs.Machine.Changes.{remove_first}
use Rattle.flow_model.specs.Machine.Steps.{allowed, apply, begin, new_call}
use Rattle.flow_model.specs.Kept.Runs.{Run, Reading, begin_at, go_on, close, read_done, read_state, read_all, nothing_read, last_run, discovered, runs}
use Rattle.flow_model.specs.Kept.Lawful.{IsLawful, IsKey, IsKeyOf, IsRunEdge, IsNewEdge, EdgesAreKept, EdgesAreKnown, last_run_of}
use Rattle.flow_model.proofs.OneStep.WhoMayStep.{executes-live, discover-due, due-can_work, can_work-at_front, at_front-executes}
use Rattle.flow_model.proofs.OneList.StatesAndPlaces.{first_open-frame}
use Rattle.flow_model.proofs.OneStep.VersionsStayFresh.{live-version}
use Rattle.flow_model.proofs.OrderStays.AfterEachStep.{not_begun-entry}
use Rattle.flow_model.proofs.OneStep.BegunCalls.{begin-call}
use Rattle.flow_model.proofs.Reactions.RunsThatHaveEnded.{any-last}
use Rattle.flow_model.proofs.Reactions.WhoReacts.{any-parts, dropper_in}
use Rattle.flow_model.proofs.FramesSpread.AfterOtherSteps.{removed-less}
use Rattle.flow_model.proofs.Edges.EdgesFitCandidates.{added-out}
use Rattle.flow_model.proofs.OneStep.SameLengths.{step-begun}
use Rattle.flow_model.proofs.OneStep.QuietSteps.{edges, step-outs}
use Rattle.flow_model.proofs.General.AnyAndAll.{is-some, only}
use Rattle.flow_model.proofs.Work.OnlyLaterCallsOpen.{begins_at, ends_at, taken-any}
use Rattle.flow_model.proofs.Lengths.EdgesAreWork.{dropped-outs, discovered-outs}
use Rattle.flow_model.proofs.Edges.WhereRunsEnd.{ends-parts, last-ends}

-- ---- the calls of runs

-- P is true of the calls at which the runs of a reading begin and end.
record Known (P : ℕ → Type 0) (q : Reading) : Type 0 where
  begins : (b : ℕ) → list_any (begins_at b) q.closed ≡ true → P b
  ends : (z : ℕ) → list_any (ends_at z) q.closed ≡ true → P z
  current : (r : Run) → q.current ≡ Some r → (b : ℕ) → begins_at b r ≡ true → P b

begun-known : (fresh : Bool) (v b : ℕ) → begins_at b (begin_at fresh v) ≡ true → v ≡ b
begun-known true v b k = absurd (true≢false (sym k))
begun-known false v b k = eqb-true v b k

done-known : (P : ℕ → Type 0) (m v : ℕ) (ps : List (Option ℕ)) (q : Reading) → P v → Known P q → Known P (read_done m v ps q)
done-known P m v ps q p h = record { begins = λ b. begins b (is_in m (nodes_in ps)) q.current refl; ends = λ z. ends z (is_in m (nodes_in ps)) q.current refl; current = λ r. current r (is_in m (nodes_in ps)) q.current refl }
  where
    begins : (b : ℕ) (x : Bool) (o : Option Run) → q.current ≡ o → list_any (begins_at b) (elim x as (λ _. List Run) [ true ↦ q.closed | false ↦ close o v q.closed ]) ≡ true → P b
    begins b true o e k = h.begins b k
    begins b false None e k = h.begins b k
    begins b false (Some r) e k = go (any-last (begins_at b) q.closed (record r { ends = Some v }) k)
      where
        go : (list_any (begins_at b) q.closed ≡ true) ⊎ (begins_at b (record r { ends = Some v }) ≡ true) → P b
        go (inl j) = h.begins b j
        go (inr j) = h.current r e b j

    ends : (z : ℕ) (x : Bool) (o : Option Run) → q.current ≡ o → list_any (ends_at z) (elim x as (λ _. List Run) [ true ↦ q.closed | false ↦ close o v q.closed ]) ≡ true → P z
    ends z true o e k = h.ends z k
    ends z false None e k = h.ends z k
    ends z false (Some r) e k = go (any-last (ends_at z) q.closed (record r { ends = Some v }) k)
      where
        go : (list_any (ends_at z) q.closed ≡ true) ⊎ ((v == z) ≡ true) → P z
        go (inl j) = h.ends z j
        go (inr j) = subst P (eqb-true v z j) p

    current : (r : Run) (x : Bool) (o : Option Run) → q.current ≡ o → elim x as (λ _. Option Run) [ true ↦ go_on o q.fresh v | false ↦ None ] ≡ Some r → (b : ℕ) → begins_at b r ≡ true → P b
    current r false o e k b j = none k
      where
        none : None ≡ Some r → P b
        none y = cc
    current r true None e k b j = subst P (begun-known q.fresh v b (same k j)) p
      where
        same : Some (begin_at q.fresh v) ≡ Some r → begins_at b r ≡ true → begins_at b (begin_at q.fresh v) ≡ true
        same y i = subst (λ (w : Option Run). test w ≡ true) (sym y) i
          where
            test : Option Run → Bool
            test None = false
            test (Some w) = begins_at b w
    current r true (Some old) e k b j = h.current r (e ∙ k) b j

read-known : (P : ℕ → Type 0) (m : ℕ) (es : List Entry) (q : Reading) → ((v : ℕ) → has es v ≡ true → P v) → Known P q → Known P (read_all m es q)
read-known P m [] q f h = h
read-known P m (e ∷ es) q f h = read-known P m es (read_state m e.version e.state q) (λ v k. f v (or_right _ _ k)) (go e.state)
  where
    go : (x : State) → Known P (read_state m e.version x q)
    go Mark = h
    go Frame = h
    go (Done v c ps) = done-known P m e.version ps q (f e.version (or_left _ _ (eq-eqb e.version e.version refl))) h

nothing-known : (P : ℕ → Type 0) → Known P nothing_read
nothing-known P = record { begins = λ b k. absurd (true≢false (sym k)); ends = λ z k. absurd (true≢false (sym k)); current = λ r k b j. none r k b }
  where
    none : (r : Run) → None ≡ Some r → (b : ℕ) → P b
    none r k b = cc

first-has : (es : List Entry) (t : ℕ) → IsUnique es → first_open es ≡ Some t → has es t ≡ true
first-has es t u e = at-has is_frame es t (first_open-frame es t u e)

-- A call at which a run begins, and one at which a run ends, has an entry at the node.
begins-known : (graph : Graph) (s : Core) → IsLawful graph s → (n m b : ℕ) → list_any (begins_at b) (runs s n m) ≡ true → has (entries s n) b ≡ true
begins-known graph s h n m b k = parts (or_cases _ _ (sym (any-parts (begins_at b) (entries s n) (outs s m) n m) ∙ k))
  where
    q : Reading
    q = read_all m (entries s n) nothing_read

    known : Known (λ v. has (entries s n) v ≡ true) q
    known = read-known (λ v. has (entries s n) v ≡ true) m (entries s n) nothing_read (λ v x. x) (nothing-known (λ v. has (entries s n) v ≡ true))

    last : (o : Option Run) → q.current ≡ o → (z : Option ℕ) → list_any (begins_at b) (last_run o z) ≡ true → has (entries s n) b ≡ true
    last None e z a = absurd (true≢false (sym a))
    last (Some r) e z a = known.current r e b (only _ a)

    new : (o : Option ℕ) → first_open (entries s n) ≡ o → list_any (begins_at b) (discovered o n (outs s m)) ≡ true → has (entries s n) b ≡ true
    new None e a = absurd (true≢false (sym a))
    new (Some t) e a = cases (has_out (outs s m) n t) a
      where
        cases : (x : Bool) → list_any (begins_at b) (elim x as (λ _. List Run) [ true ↦ record { begins = Some t; ends = None } ∷ [] | false ↦ [] ]) ≡ true → has (entries s n) b ≡ true
        cases false y = absurd (true≢false (sym y))
        cases true y = subst (λ (w : ℕ). has (entries s n) w ≡ true) (eqb-true t b (only _ y)) (first-has (entries s n) t (h.one_entry n) e)

    parts : ((list_any (begins_at b) q.closed || list_any (begins_at b) (last_run q.current (dropper_in (entries s n) (outs s m) n))) ≡ true) ⊎ (list_any (begins_at b) (discovered (first_open (entries s n)) n (outs s m)) ≡ true) → has (entries s n) b ≡ true
    parts (inr a) = new (first_open (entries s n)) refl a
    parts (inl a) = two (or_cases _ _ a)
      where
        two : (list_any (begins_at b) q.closed ≡ true) ⊎ (list_any (begins_at b) (last_run q.current (dropper_in (entries s n) (outs s m) n)) ≡ true) → has (entries s n) b ≡ true
        two (inl x) = known.begins b x
        two (inr x) = last q.current refl (dropper_in (entries s n) (outs s m) n) x

ends-known : (graph : Graph) (s : Core) → IsLawful graph s → (n m z : ℕ) → list_any (ends_at z) (runs s n m) ≡ true → has (entries s n) z ≡ true
ends-known graph s h n m z k = parts (ends-parts z (entries s n) (outs s m) n m k)
  where
    q : Reading
    q = read_all m (entries s n) nothing_read

    known : Known (λ v. has (entries s n) v ≡ true) q
    known = read-known (λ v. has (entries s n) v ≡ true) m (entries s n) nothing_read (λ v x. x) (nothing-known (λ v. has (entries s n) v ≡ true))

    drops : (b : Bool) → elim b as (λ _. Option ℕ) [ true ↦ None | false ↦ first_open (entries s n) ] ≡ Some z → has (entries s n) z ≡ true
    drops true e = cc
    drops false e = first-has (entries s n) z (h.one_entry n) e

    parts : (list_any (ends_at z) q.closed ≡ true) ⊎ (list_any (ends_at z) (last_run q.current (dropper_in (entries s n) (outs s m) n)) ≡ true) → has (entries s n) z ≡ true
    parts (inl x) = known.ends z x
    parts (inr x) = drops (has_node (outs s m) n) (last-ends z q.current (dropper_in (entries s n) (outs s m) n) x).1

-- ---- out-edges of calls that have begun

plain-known : (graph : Graph) (s : Core) → IsLawful graph s → (step : Step) → edges step ≡ false → EdgesAreKnown (apply graph s step)
plain-known graph s h step g n m since e = subst (λ (j : ℕ). since ≤ j) (sym (step-begun graph s step)) (h.edges_are_known n m since (subst (λ (os : List OutEdge). has_out os n since ≡ true) (step-outs graph s step g m) e))

pub step-EdgesAreKnown : (graph : Graph) (s : Core) (step : Step) → IsLawful graph s → allowed graph s step ≡ true → EdgesAreKnown (apply graph s step)
step-EdgesAreKnown graph s (steps.Discover t n0 c) h a n m since e = subst (λ (j : ℕ). since ≤ j) (sym (step-begun graph s (steps.Discover t n0 c))) (go (discovered-outs graph s t n0 c m))
  where
    q : Core
    q = apply graph s (steps.Discover t n0 c)

    lt : live s t ≡ true
    lt = executes-live s t (at_front-executes graph s t n0 (can_work-at_front graph s t n0 (due-can_work graph s t n0 (discover-due graph s t n0 c a))))

    two : (has_out (outs s m) n since ≡ true) ⊎ (((n0 == n) ≡ true) × ((t == since) ≡ true)) → since ≤ s.begun
    two (inl x) = h.edges_are_known n m since x
    two (inr x) = subst (λ (j : ℕ). j ≤ s.begun) (eqb-true t since x.1) (h.versions_are_fresh.fit t (live-version s t lt)).1

    go : (outs q m ≡ outs s m) ⊎ ((m ≡ c) × (outs q m ≡ with_out (outs s m) n0 t)) → since ≤ s.begun
    go (inl x) = h.edges_are_known n m since (subst (λ (os : List OutEdge). has_out os n since ≡ true) x e)
    go (inr x) = two (added-out n0 t n since (outs s m) (subst (λ (os : List OutEdge). has_out os n since ≡ true) x.1 e))
step-EdgesAreKnown graph s (steps.Drop t n0 o) h a n m since e = subst (λ (j : ℕ). since ≤ j) (sym (step-begun graph s (steps.Drop t n0 o))) (go (dropped-outs graph s t n0 o m))
  where
    q : Core
    q = apply graph s (steps.Drop t n0 o)

    go : (outs q m ≡ outs s m) ⊎ ((m ≡ o) × (outs q m ≡ remove_first n0 (outs s m))) → since ≤ s.begun
    go (inl x) = h.edges_are_known n m since (subst (λ (os : List OutEdge). has_out os n since ≡ true) x e)
    go (inr x) = h.edges_are_known n m since (removed-less n0 n since (outs s m) (subst (λ (os : List OutEdge). has_out os n since ≡ true) x.1 e))
step-EdgesAreKnown graph s (steps.Frame t n0) h a n m since e = plain-known graph s h (steps.Frame t n0) refl n m since e
step-EdgesAreKnown graph s (steps.Start t) h a n m since e = plain-known graph s h (steps.Start t) refl n m since e
step-EdgesAreKnown graph s (steps.Skip t n0) h a n m since e = plain-known graph s h (steps.Skip t n0) refl n m since e
step-EdgesAreKnown graph s (steps.Gather t n0 i) h a n m since e = plain-known graph s h (steps.Gather t n0 i) refl n m since e
step-EdgesAreKnown graph s (steps.Evaluate t n0) h a n m since e = plain-known graph s h (steps.Evaluate t n0) refl n m since e
step-EdgesAreKnown graph s (steps.Body t n0) h a n m since e = plain-known graph s h (steps.Body t n0) refl n m since e
step-EdgesAreKnown graph s (steps.Resolve t n0) h a n m since e = plain-known graph s h (steps.Resolve t n0) refl n m since e
step-EdgesAreKnown graph s (steps.Mark t n0) h a n m since e = plain-known graph s h (steps.Mark t n0) refl n m since e
step-EdgesAreKnown graph s (steps.Look t) h a n m since e = plain-known graph s h (steps.Look t) refl n m since e
step-EdgesAreKnown graph s (steps.End t) h a n m since e = plain-known graph s h (steps.End t) refl n m since e
step-EdgesAreKnown graph s (steps.Collect n0) h a n m since e = plain-known graph s h (steps.Collect n0) refl n m since e

pub begin-EdgesAreKnown : (graph : Graph) (s : Core) (caller : ℕ) (c : Call) → IsLawful graph s → EdgesAreKnown (begin graph s caller c)
begin-EdgesAreKnown graph s caller c h n m since e = let r = h.edges_are_known n m since e in omega (arith, r)

-- ---- a beginning

pub begin-EdgesAreKept : (graph : Graph) (s : Core) (caller : ℕ) (c : Call) → IsLawful graph s → EdgesAreKept (begin graph s caller c)
begin-EdgesAreKept graph s caller c h = record {
  once = h.edges_are_kept.once;
  stands = λ n m since e. stands n m since e (h.edges_are_kept.stands n m since e);
  missing = λ n m p e. let k = h.edges_are_kept.missing n m p e in record { head = k.head; first = k.first; holds = k.holds };
  begins_entered = λ n m i r b e j l. h.edges_are_kept.begins_entered n m i r b e j (was b n (begins-known graph s h n m b (taken-any (begins_at b) (runs s n m) i r e (is-some r.begins b j))) l);
  ends_entered = λ n m i r z e j l. h.edges_are_kept.ends_entered n m i r z e j (was z n (ends-known graph s h n m z (taken-any (ends_at z) (runs s n m) i r e (is-some r.ends z j))) l);
}
  where
    q : Core
    q = begin graph s caller c

    -- a live call with an entry lived
    was : (v n : ℕ) → has (entries s n) v ≡ true → live q v ≡ true → live s v ≡ true
    was v n hv l = go (begin-call graph s h caller c v)
      where
        go : ((call_of q.calls v ≡ call_of s.calls v) × ((suc s.begun == v) ≡ false)) ⊎ ((v ≡ suc s.begun) × (call_of q.calls v ≡ Some (new_call graph s caller c))) → live s v ≡ true
        go (inl e) = sym (ap is_some e.0) ∙ l
        go (inr e) = absurd (both_ways _ (not_begun-entry graph s h n) (subst (λ (w : ℕ). has (entries s n) w ≡ true) e.0 hv))

    -- an ended call that has begun is no new one
    still : (v : ℕ) → v ≤ s.begun → live s v ≡ false → live q v ≡ false
    still v b l = go (begin-call graph s h caller c v)
      where
        go : ((call_of q.calls v ≡ call_of s.calls v) × ((suc s.begun == v) ≡ false)) ⊎ ((v ≡ suc s.begun) × (call_of q.calls v ≡ Some (new_call graph s caller c))) → live q v ≡ false
        go (inl e) = ap is_some e.0 ∙ l
        go (inr e) = let f = e.0 in absurd (omega (arith, b, f))

    key : (since : ℕ) → since ≤ s.begun → (o : Option Run) → IsKeyOf s since o → IsKeyOf q since o
    key since b None k = k
    key since b (Some r) k = go r.begins k
      where
        go : (o : Option ℕ) → IsKey s since o → IsKey q since o
        go None x = still since b x
        go (Some v) x = x

    stands : (n m since : ℕ) → has_out (outs s m) n since ≡ true → IsRunEdge s n m since ⊎ IsNewEdge s n m since → IsRunEdge q n m since ⊎ IsNewEdge q n m since
    stands n m since e (inl x) = inl (record { picked = x.picked; key = key since (h.edges_are_known n m since e) (last_run_of s n m) x.key })
    stands n m since e (inr x) = inr (record { not_picked = x.not_picked; first_open = x.first_open; found = x.found })
