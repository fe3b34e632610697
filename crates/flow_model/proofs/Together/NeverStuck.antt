-- In a lawful state a live call with no live call before it goes on, and where any call lives there is such a one.
use Rattle.std.proofs.Common.{◌≡◌, ℕ, ◌<◌, Bool, true, false, not, ◌==◌, ◌⊎◌, inl, inr, refl, sym, ap, arith, List, [], ◌∷◌, length, true≢false, ◌∙◌, subst, Option, Some, None}
use Rattle.std.proofs.lemmas.Bool.{or_cases, or_left, and_from, eqb-true, eq-eqb, false_from_ne_true, both_ways, cases_Bool}
use Rattle.std.specs.Prelude.{find, is_none}
use Rattle.std.specs.List.{list_any}
use Rattle.signal_graph.specs.Graph.{Graph, IsGraph, node_at, is_in, is_source, inputs_of}
use Rattle.order_graph.specs.Order.{reaches, is_recorded}
use Rattle.order_graph.proofs.Reaching.{recorded-reaches, reaches-join}
use Rattle.node_versions.specs.Entries.{has, at, is_mark, is_frame, behind, first_open}
use Rattle.node_versions.proofs.Places.{at-has}
use Rattle.flow_model.specs.declared.step.Step.{Step}
use Rattle.flow_model.specs.declared.step.Step.TheVariants as steps
use Rattle.flow_model.specs.declared.step.Turn.{Turn}
use Rattle.flow_model.specs.declared.step.Turn.TheVariants as turns
use Rattle.flow_model.specs.declared.step.Cause.TheVariants.{OpenBefore, InputOpen}
use Rattle.flow_model.specs.Machine.Lists.{is_empty}
use Rattle.flow_model.specs.Machine.Sets.{least}
use Rattle.std.specs.Prelude.{is_some}
use Rattle.script_tree.proofs.Truths.{and_right}
use Rattle.flow_model.specs.Machine.State.{Core, LiveCall, call, call_of, live, executes, opens, changes, entries, outs, precedes}
use Rattle.flow_model.specs.Machine.Words.{deps, prior_picks, is_gathered, is_found, found_candidates, heads, presses, next_look}
use Rattle.flow_model.specs.Machine.Steps.{allowed, is_framing_before, has_body_value, any_before}
use Rattle.flow_model.specs.Machine.Next
use Rattle.flow_model.specs.Kept.Lawful.{IsLawful}
use Rattle.flow_model.proofs.OneStep.WhoMayStep.{opens-live}
use Rattle.flow_model.proofs.OneList.StatesAndPlaces.{behind-total, first_open-frame, first_open-none}
use Rattle.flow_model.proofs.OrderStays.OpenNodesHaveFrames.{entry-there}
use Rattle.flow_model.proofs.Opening.OpeningLists.{candidate-earlier}
use Rattle.flow_model.proofs.Edges.EdgesFitCandidates.{candidate-listed}
use Rattle.flow_model.proofs.Wants.FramedWith.{opens-frame, live-chain}
use Rattle.flow_model.proofs.OneStep.BegunCalls.{calls-distinct}
use Rattle.flow_model.proofs.Together.Points.{when-holds, some-holds}
use Rattle.flow_model.proofs.Together.WorkIsAllowed.{Allows, find-some, not_not}
use Rattle.flow_model.proofs.Together.NextIsAllowed.{least-passes, head-of_open, least-in, least-below, least-empty, next-ok}

-- No live call is before this one.
abbrev pub IsFirst : Core → ℕ → Type 0
IsFirst s t = (v : ℕ) → live s v ≡ true → precedes s v t ≡ false

-- A turn is a step, or the call can end.
abbrev pub GoesOn : Graph → Core → ℕ → Turn → Type 0
GoesOn graph s t (turns.Step step) = Unit {0}
GoesOn graph s t (turns.NotYet cause) = ⊥
GoesOn graph s t turns.Ready = allowed graph s (steps.End t) ≡ true

-- ---- nothing is in the way

-- no Frame stands before an entry of the first call
no_frame-first : (graph : Graph) (s : Core) → IsLawful graph s → (t : ℕ) → live s t ≡ true → IsFirst s t → (m v : ℕ) → behind (entries s m) v t ≡ true → at is_frame (entries s m) v ≡ true → ⊥
no_frame-first graph s h t l first m v b f = both_ways _ (first v (opens-live s v m (h.frames_are_open.opens_frames v m ∙ f))) (h.order_is_kept.lists m v t b l)

blocked-none : (graph : Graph) (s : Core) → IsLawful graph s → (t : ℕ) → live s t ≡ true → IsFirst s t → (m : ℕ) → Next.blocked (entries s m) t ≡ None
blocked-none graph s h t l first m = go (first_open (entries s m)) refl
  where
    go : (o : Option ℕ) → first_open (entries s m) ≡ o → Next.blocked_by (entries s m) t o ≡ None
    go None e = refl
    go (Some v) e = ap (λ (b : Bool). Next.kept_if b v) (false_from_ne_true (behind (entries s m) v t) (λ b. no_frame-first graph s h t l first m v b (first_open-frame (entries s m) v (h.one_entry m) e)))

-- the first Frame of a node that is open for the first call is its own
other-none : (graph : Graph) (s : Core) → IsLawful graph s → (t : ℕ) → live s t ≡ true → IsFirst s t → (n : ℕ) → opens s t n ≡ true → Next.other_than t (first_open (entries s n)) ≡ None
other-none graph s h t l first n o = go (first_open (entries s n)) refl
  where
    ft : at is_frame (entries s n) t ≡ true
    ft = opens-frame graph s h t n o

    same : (v : ℕ) → first_open (entries s n) ≡ Some v → ((v == t) ≡ true) ⊎ ((v == t) ≡ false) → Next.kept_if (not (v == t)) v ≡ None
    same v e (inl x) = ap (λ (b : Bool). Next.kept_if (not b) v) x
    same v e (inr x) = absurd (cases (or_cases _ _ (behind-total (entries s n) v t (at-has is_frame (entries s n) v fv) (at-has is_frame (entries s n) t ft) (λ z. both_ways _ x (eq-eqb v t z)))))
      where
        fv : at is_frame (entries s n) v ≡ true
        fv = first_open-frame (entries s n) v (h.one_entry n) e

        cases : (behind (entries s n) v t ≡ true) ⊎ (behind (entries s n) t v ≡ true) → ⊥
        cases (inl b) = no_frame-first graph s h t l first n v b fv
        cases (inr b) = both_ways _ (first_open-none (entries s n) v t (h.one_entry n) e b) ft

    go : (z : Option ℕ) → first_open (entries s n) ≡ z → Next.other_than t z ≡ None
    go None e = refl
    go (Some v) e = same v e (cases_Bool (v == t))

-- ---- the work at a node

entering-on : (graph : Graph) (s : Core) (t m : ℕ) (step : Step) → GoesOn graph s t (Next.entering graph s (entries s) (outs s) t m step)
entering-on graph s t m step = tt

unless-on : (graph : Graph) (s : Core) (t : ℕ) (b : Bool) (m : ℕ) (step : Step) → GoesOn graph s t (Next.entering_unless graph s (entries s) (outs s) t b m step)
unless-on graph s t true m step = tt
unless-on graph s t false m step = tt

none-some : (o : Option ℕ) (v : ℕ) → o ≡ None → o ≡ Some v → ⊥
none-some o v e k = cc

reading-on : (graph : Graph) (s : Core) → IsLawful graph s → (t : ℕ) → live s t ≡ true → IsFirst s t → (m : ℕ) (step : Step) → GoesOn graph s t (Next.reading graph s (entries s) (outs s) t m step)
reading-on graph s h t l first m step =
    let here : List (Option Turn) = Some (turns.Step step) ∷ [] in
    let in_the_way : ℕ → Turn = λ v. turns.NotYet (OpenBefore m v) in
    when-holds (GoesOn graph s t) (not (has (entries s m) t)) (Next.entering graph s (entries s) (outs s) t m (steps.Mark t m)) (Next.for_some (Next.blocked (entries s m) t) in_the_way ∷ here) (λ e. tt) (λ e.
    some-holds (GoesOn graph s t) (Next.blocked (entries s m) t) in_the_way here (λ v k. none-some _ v (blocked-none graph s h t l first m) k) (λ k. tt))

candidate-on : (graph : Graph) (s : Core) → IsLawful graph s → (t : ℕ) → live s t ≡ true → IsFirst s t → (c : ℕ) → opens s t c ≡ false → (step : Step) → GoesOn graph s t (Next.reading_candidate graph s (entries s) (outs s) t c step)
candidate-on graph s h t l first c closed step =
    let here : List (Option Turn) = Some (turns.Step step) ∷ [] in
    let in_the_way : ℕ → Turn = λ v. turns.NotYet (OpenBefore c v) in
    let read : List (Option Turn) = Next.for_some (Next.blocked (entries s c) t) in_the_way ∷ here in
    when-holds (GoesOn graph s t) (not (has (entries s c) t)) (Next.entering graph s (entries s) (outs s) t c (steps.Mark t c)) (Next.when (opens s t c) (turns.NotYet (InputOpen c)) ∷ read) (λ e. tt) (λ e.
    when-holds (GoesOn graph s t) (opens s t c) (turns.NotYet (InputOpen c)) read (λ o. both_ways _ closed o) (λ o.
    some-holds (GoesOn graph s t) (Next.blocked (entries s c) t) in_the_way here (λ v k. none-some _ v (blocked-none graph s h t l first c) k) (λ k. tt)))

-- What is known at the node: none of its found candidates is open for the call.
abbrev CandidatesClosed : Core → ℕ → ℕ → Type 0
CandidatesClosed s t n = (c : ℕ) → is_in c (found_candidates s n) ≡ true → opens s t c ≡ false

points-on : (graph : Graph) (s : Core) → IsLawful graph s → (t : ℕ) → live s t ≡ true → IsFirst s t → (n : ℕ) → opens s t n ≡ true → CandidatesClosed s t n → GoesOn graph s t (Next.first_of (Next.points_at graph s (entries s) (outs s) t false n))
points-on graph s h t l first n o closed =
    let resolve : List (Option Turn) = Some (turns.Step (steps.Resolve t n)) ∷ [] in
    let drops : ℕ → Turn = λ c. Next.entering_unless graph s (entries s) (outs s) t (has (entries s c) t) c (steps.Drop t n c) in
    let held = find (Next.is_held graph s (entries s) (outs s) t n) (prior_picks s t n) in
    let drop : List (Option Turn) = Next.for_some held drops ∷ resolve in
    let body : List (Option Turn) = Next.when (not (has_body_value graph s n)) (turns.Step (steps.Body t n)) ∷ drop in
    let waits : ℕ → Bool = λ c. not (is_gathered s n c) in
    let takes : ℕ → Turn = λ c. Next.reading_candidate graph s (entries s) (outs s) t c (steps.Gather t n c) in
    let gather : List (Option Turn) = Next.for_some (find waits (found_candidates s n)) takes ∷ body in
    let discovers : ℕ → Turn = λ c. Next.entering_unless graph s (entries s) (outs s) t (has (entries s c) t) c (steps.Discover t n c) in
    let fresh = find (Next.is_new graph s (entries s) (outs s) t n) (found_candidates s n) in
    let discover : List (Option Turn) = Next.for_some fresh discovers ∷ gather in
    let evaluate : List (Option Turn) = Next.when (not (is_found s n)) (turns.Step (steps.Evaluate t n)) ∷ discover in
    let reads : ℕ → Turn = λ m. Next.reading graph s (entries s) (outs s) t m (steps.Gather t n m) in
    let input : List (Option Turn) = Next.for_some (find waits (inputs_of (node_at graph n))) reads ∷ evaluate in
    let still = not (list_any (changes s t) (deps graph s t n)) in
    let skip : List (Option Turn) = Next.when still (turns.Step (steps.Skip t n)) ∷ input in
    let source : List (Option Turn) = Next.when (is_source (node_at graph n)) (turns.Step (steps.Resolve t n)) ∷ skip in
    let frames : ℕ → Turn = λ u. Next.framing graph s (entries s) (outs s) t u n in
    let helps : List (Option Turn) = Next.for_some (Next.least_version (presses s t n) s.calls) frames ∷ source in
    some-holds P (Next.other_than t (first_open (entries s n))) (λ v. turns.NotYet (OpenBefore n v)) (Next.for_some None (λ m. turns.NotYet (InputOpen m)) ∷ helps) (λ v e. none-some _ v (other-none graph s h t l first n o) e) (λ _.
    some-holds P (Next.least_version (presses s t n) s.calls) frames source (λ u e. unless-on graph s t (at is_mark (entries s n) u) n (steps.Frame u n)) (λ _.
    when-holds P (is_source (node_at graph n)) (turns.Step (steps.Resolve t n)) skip (λ _. tt) (λ _.
    when-holds P still (turns.Step (steps.Skip t n)) input (λ _. tt) (λ _.
    some-holds P (find waits (inputs_of (node_at graph n))) reads evaluate (λ m e. reading-on graph s h t l first m (steps.Gather t n m)) (λ _.
    when-holds P (not (is_found s n)) (turns.Step (steps.Evaluate t n)) discover (λ _. tt) (λ _.
    some-holds P fresh discovers gather (λ c e. unless-on graph s t (has (entries s c) t) c (steps.Discover t n c)) (λ _.
    some-holds P (find waits (found_candidates s n)) takes body (λ c e. candidate-on graph s h t l first c (closed c (find-some waits (found_candidates s n) c e).0) (steps.Gather t n c)) (λ _.
    when-holds P (not (has_body_value graph s n)) (turns.Step (steps.Body t n)) drop (λ _. tt) (λ _.
    some-holds P held drops resolve (λ c e. unless-on graph s t (has (entries s c) t) c (steps.Drop t n c)) (λ _. tt))))))))))
  where
    P : Turn → Type 0
    P = GoesOn graph s t

-- At the least open node no candidate is open, since candidates are earlier nodes.
least-closed : (graph : Graph) → IsGraph graph → (s : Core) → IsLawful graph s → (t n : ℕ) → heads s t n ≡ true → least (call s t).open_nodes ≡ Some n → CandidatesClosed s t n
least-closed graph g s h t n hd e c i = false_from_ne_true (opens s t c) (λ o.
    let a = least-below (call s t).open_nodes n c (h.sets_are_sets.open_nodes t) e o in
    let b = candidate-earlier graph g n c there (candidate-listed graph s h t n c hd i) in
    omega (arith, a, b))
  where
    there : n < length graph.nodes
    there = let a = entry-there s n t (at-has is_frame (entries s n) t (opens-frame graph s h t n (least-in (call s t).open_nodes n e))) in let l = h.lists in omega (arith, a, l)

-- ---- the next step

-- no live call is recorded before the first one
none_before : (graph : Graph) (s : Core) → IsLawful graph s → (t : ℕ) → IsFirst s t → (v : ℕ) → is_recorded s.pairs v t ≡ true → ⊥
none_before graph s h t first v r = both_ways _ (first v (h.entries_are_kept.pairs v t r).0) (or_left _ _ (recorded-reaches s.pairs v t r))

pub any-passes : (test : LiveCall → Bool) (cs : List LiveCall) → list_any test cs ≡ true → (c : LiveCall) × (test c ≡ true)
any-passes test [] k = absurd (true≢false (sym k))
any-passes test (c ∷ cs) k = go (or_cases _ _ k) (any-passes test cs)
  where
    go : (test c ≡ true) ⊎ (list_any test cs ≡ true) → (list_any test cs ≡ true → (x : LiveCall) × (test x ≡ true)) → (x : LiveCall) × (test x ≡ true)
    go (inl e) further = (c, e)
    go (inr e) further = further e

first-any_before : (graph : Graph) (s : Core) → IsLawful graph s → (t : ℕ) → IsFirst s t → any_before s t ≡ false
first-any_before graph s h t first = false_from_ne_true _ (λ k. let c = any-passes (λ c. is_recorded s.pairs c.version t) s.calls k in none_before graph s h t first c.0.version c.1)

next-on : (graph : Graph) → IsGraph graph → (s : Core) → IsLawful graph s → (t : ℕ) → live s t ≡ true → IsFirst s t → GoesOn graph s t (Next.next graph s t)
next-on graph g s h t l first =
    some-holds P _ _ _ (λ n e. unless-on graph s t (at is_mark (entries s n) t) n (steps.Frame t n)) (λ w.
    when-holds P _ _ _ (λ x. some-holds P _ _ _ (λ v e. starts v e) (λ e. tt)) (λ x.
    some-holds P _ _ _ (λ n e. open_node n e) (λ e.
    some-holds P _ _ _ (λ m k. reading-on graph s h t l first m (steps.Look t)) (λ k. ends (least-empty (call s t).wanted w) (not_not _ x) (least-empty (call s t).open_nodes e) k))))
  where
    P : Turn → Type 0
    P = GoesOn graph s t

    starts : (v : ℕ) → Next.least_version (is_framing_before s t) s.calls ≡ Some v → ⊥
    starts v e = none_before graph s h t first (call s v).version (and_right (not (call s v).executing) (is_recorded s.pairs (call s v).version t) (least-passes (is_framing_before s t) s.calls v (calls-distinct s h.versions_are_fresh) e).passes)

    open_node : (n : ℕ) → least (call s t).open_nodes ≡ Some n → P (Next.first_of (Next.points_at graph s (entries s) (outs s) t false n))
    open_node n e =
        let o = least-in (call s t).open_nodes n e in
        let hd = head-of_open graph s h t n o (other-none graph s h t l first n o) in
        points-on graph s h t l first n o (least-closed graph g s h t n hd e)

    ends : is_empty (call s t).wanted ≡ true → executes s t ≡ true → is_empty (call s t).open_nodes ≡ true → next_look s t ≡ None → allowed graph s (steps.End t) ≡ true
    ends w x e k = and_from _ _ (and_from _ _ (and_from _ _ (and_from _ _ x w) e) (ap is_none k)) (ap not (first-any_before graph s h t first))

-- An allowed step comes next, or nothing but an allowed end.
abbrev pub HasNext : Graph → Core → ℕ → Type 0
HasNext graph s t = ((step : Step) × (Next.next graph s t ≡ turns.Step step) × (allowed graph s step ≡ true)) ⊎ ((Next.next graph s t ≡ turns.Ready) × (allowed graph s (steps.End t) ≡ true))

pub first-HasNext : (graph : Graph) → IsGraph graph → (s : Core) → IsLawful graph s → (t : ℕ) → live s t ≡ true → IsFirst s t → HasNext graph s t
first-HasNext graph g s h t l first = go (Next.next graph s t) refl (next-on graph g s h t l first) (next-ok graph g s h t l)
  where
    go : (x : Turn) → Next.next graph s t ≡ x → GoesOn graph s t x → Allows graph s x → HasNext graph s t
    go (turns.Step step) e k a = inl (step, e, a)
    go (turns.NotYet cause) e k a = absurd k
    go turns.Ready e k a = inr (e, k)

-- ---- a first live call

-- A version of the list to which none of the list's leads.
record IsLeast (before : ℕ → ℕ → Bool) (cs : List LiveCall) : Type 0 where
  pub it : ℕ
  pub here : is_some (call_of cs it) ≡ true
  pub none : (v : ℕ) → is_some (call_of cs v) ≡ true → before v it ≡ false

call_of-cases : (c : LiveCall) (cs : List LiveCall) (v : ℕ) → is_some (call_of (c ∷ cs) v) ≡ true → (c.version ≡ v) ⊎ (is_some (call_of cs v) ≡ true)
call_of-cases c cs v h = go (c.version == v) refl h
  where
    go : (b : Bool) → (c.version == v) ≡ b → is_some (elim b as (λ _. Option LiveCall) [ true ↦ Some c | false ↦ call_of cs v ]) ≡ true → (c.version ≡ v) ⊎ (is_some (call_of cs v) ≡ true)
    go true e k = inl (eqb-true c.version v e)
    go false e k = inr k

pub head-some : (c : LiveCall) (cs : List LiveCall) → is_some (call_of (c ∷ cs) c.version) ≡ true
head-some c cs = let e = eq-eqb c.version c.version refl in rw (e, call_of) refl

tail-some : (c : LiveCall) (cs : List LiveCall) (v : ℕ) → is_some (call_of cs v) ≡ true → is_some (call_of (c ∷ cs) v) ≡ true
tail-some c cs v h = go (c.version == v)
  where
    go : (b : Bool) → is_some (elim b as (λ _. Option LiveCall) [ true ↦ Some c | false ↦ call_of cs v ]) ≡ true
    go true = refl
    go false = h

least-of : (before : ℕ → ℕ → Bool) → ((u : ℕ) → before u u ≡ false) → ((u v w : ℕ) → before u v ≡ true → before v w ≡ true → before u w ≡ true) → (c : LiveCall) (cs : List LiveCall) → IsLeast before (c ∷ cs)
least-of before irr trans c [] = record { it = c.version; here = head-some c []; none = λ v k. only v (call_of-cases c [] v k) }
  where
    only : (v : ℕ) → (c.version ≡ v) ⊎ (is_some (call_of [] v) ≡ true) → before v c.version ≡ false
    only v (inl e) = subst (λ (w : ℕ). before w c.version ≡ false) e (irr c.version)
    only v (inr k) = absurd (true≢false (sym k))
least-of before irr trans c (d ∷ ds) = go (least-of before irr trans d ds)
  where
    go : IsLeast before (d ∷ ds) → IsLeast before (c ∷ d ∷ ds)
    go m = cases (cases_Bool (before c.version m.it))
      where
        cases : (before c.version m.it ≡ true) ⊎ (before c.version m.it ≡ false) → IsLeast before (c ∷ d ∷ ds)
        cases (inl b) = record { it = c.version; here = head-some c (d ∷ ds); none = λ v k. mine v (call_of-cases c (d ∷ ds) v k) }
          where
            mine : (v : ℕ) → (c.version ≡ v) ⊎ (is_some (call_of (d ∷ ds) v) ≡ true) → before v c.version ≡ false
            mine v (inl e) = subst (λ (w : ℕ). before w c.version ≡ false) e (irr c.version)
            mine v (inr k) = false_from_ne_true _ (λ x. both_ways _ (m.none v k) (trans v c.version m.it x b))
        cases (inr b) = record { it = m.it; here = tail-some c (d ∷ ds) m.it m.here; none = λ v k. theirs v (call_of-cases c (d ∷ ds) v k) }
          where
            theirs : (v : ℕ) → (c.version ≡ v) ⊎ (is_some (call_of (d ∷ ds) v) ≡ true) → before v m.it ≡ false
            theirs v (inl e) = subst (λ (w : ℕ). before w m.it ≡ false) e b
            theirs v (inr k) = m.none v k

-- Where a call lives, one lives with no live call before it.
pub some-first : (graph : Graph) (s : Core) → IsLawful graph s → (t : ℕ) → live s t ≡ true → (u : ℕ) × (live s u ≡ true) × IsFirst s u
some-first graph s h t l = go s.calls refl l
  where
    go : (cs : List LiveCall) → s.calls ≡ cs → is_some (call_of cs t) ≡ true → (u : ℕ) × (live s u ≡ true) × IsFirst s u
    go [] e k = absurd (true≢false (sym k))
    go (c ∷ cs) e k =
        let m = least-of (reaches s.pairs) h.order_is_kept.no_cycle (reaches-join s.pairs) c cs in
        let here : live s m.it ≡ true = ap (λ (xs : List LiveCall). is_some (call_of xs m.it)) e ∙ m.here in
        (m.it, here, λ v lv. false_from_ne_true _ (λ p. both_ways _ (m.none v (sym (ap (λ (xs : List LiveCall). is_some (call_of xs v)) e) ∙ lv)) (live-chain s v m.it lv p)))
