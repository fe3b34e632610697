-- A step that comes next is allowed.
use Rattle.std.proofs.Common.{◌≡◌, ℕ, ◌<◌, ◌≤◌, Bool, true, false, not, ◌==◌, ◌⊎◌, inl, inr, refl, sym, ap, arith, List, [], ◌∷◌, length, map, true≢false, ◌∙◌, subst, Option, Some, None}
use Rattle.std.proofs.lemmas.Bool.{or_cases, or_left, or_right, and_from, eqb-true, eq-eqb, false_from_ne_true, both_ways, cases_Bool, not-true}
use Rattle.std.specs.Prelude.{find, nat_lt}
use Rattle.std.specs.List.{list_any, AllByRecursion}
use Rattle.signal_graph.specs.Graph.{Graph, IsGraph, is_in}
use Rattle.node_versions.specs.declared.entry.Entry.{Entry}
use Rattle.node_versions.specs.Entries.{at, is_frame, first_open}
use Rattle.node_versions.proofs.Places.{at-has}
use Rattle.flow_model.specs.declared.step.Step.{Step}
use Rattle.flow_model.specs.declared.step.Step.TheVariants as steps
use Rattle.flow_model.specs.declared.step.Turn.{Turn}
use Rattle.flow_model.specs.declared.step.Turn.TheVariants as turns
use Rattle.flow_model.specs.Machine.Lists.{is_empty}
use Rattle.flow_model.specs.Machine.Sets.{least, IsSet}
use Rattle.std.specs.Prelude.{is_some}
use Rattle.script_tree.proofs.Truths.{and_left, and_right}
use Rattle.flow_model.specs.Machine.State.{Core, LiveCall, call, call_of, call_or, live, executes, wants, opens, entries, outs}
use Rattle.flow_model.specs.Machine.Words.{deps, heads, presses, next_look, is_some_of, is_idle}
use Rattle.flow_model.specs.Machine.Steps.{allowed, is_framing_before, served_look}
use Rattle.flow_model.specs.Machine.Next
use Rattle.flow_model.specs.Kept.Lawful.{IsLawful, AreDistinct}
use Rattle.flow_model.proofs.OrderStays.OpenNodesHaveFrames.{entry-there}
use Rattle.flow_model.proofs.OneStep.VersionsStayFresh.{tail-distinct}
use Rattle.flow_model.proofs.General.Pigeons.{read-tail}
use Rattle.flow_model.proofs.OneStep.BegunCalls.{calls-distinct}
use Rattle.flow_model.proofs.OrderStays.FullListsAreCollected.{full-collects}
use Rattle.flow_model.proofs.Wants.EarlierNodes.{dep-earlier}
use Rattle.flow_model.proofs.General.AnyAndAll.{any-false, some-same}
use Rattle.flow_model.proofs.Together.Points.{when-holds, some-holds}
use Rattle.flow_model.proofs.Together.WorkIsAllowed.{Allows, Collects, AtWork, AtTouched, IsDiscoveredAll, IsGatheredAll, least-none, framing-ok, served-from, not_not, reading-ok, not_frame, source-ok, skip-ok, input-ok, evaluate-ok, discover-ok, candidate-ok, body-ok, drop-ok, resolve-ok, all_gathered-none, all_discovered-none}

-- ---- a later call that waits

pub record Passes (test : LiveCall → Bool) (cs : List LiveCall) (u : ℕ) : Type 0 where
  pub known : is_some (call_of cs u) ≡ true
  pub passes : test (call_or (call_of cs u)) ≡ true

pub least-passes : (test : LiveCall → Bool) (cs : List LiveCall) (u : ℕ) → AreDistinct (map (λ (c : LiveCall). c.version) cs) → Next.least_version test cs ≡ Some u → Passes test cs u
least-passes test [] u d h = cc
least-passes test (c ∷ cs) u d h = go (cases_Bool (test c)) h (λ v. least-passes test cs v (tail-distinct c.version (map (λ (c : LiveCall). c.version) cs) d))
  where
    this : test c ≡ true → c.version ≡ u → Passes test (c ∷ cs) u
    this e q =
        let w = eq-eqb c.version u q in
        let r : call_of (c ∷ cs) u ≡ Some c = rw (w, call_of) refl in
        record { known = ap is_some r; passes = ap (λ (o : Option LiveCall). test (call_or o)) r ∙ e }

    behind_it : Passes test cs u → Passes test (c ∷ cs) u
    behind_it p = let r = read-tail c cs u d p.known in record { known = ap is_some r ∙ p.known; passes = ap (λ (o : Option LiveCall). test (call_or o)) r ∙ p.passes }

    go : (test c ≡ true) ⊎ (test c ≡ false) → Next.least_version test (c ∷ cs) ≡ Some u → ((v : ℕ) → Next.least_version test cs ≡ Some v → Passes test cs v) → Passes test (c ∷ cs) u
    go (inr e) h further = behind_it (further u (rw (e, Next.least_version) at h))
    go (inl e) h further = cases (Next.least_version test cs) refl (rw (e, Next.least_version) at h)
      where
        cases : (o : Option ℕ) → Next.least_version test cs ≡ o → Some (Next.lesser c.version (Next.least_version test cs)) ≡ Some u → Passes test (c ∷ cs) u
        cases None k j = let j2 : Some c.version ≡ Some u = sym (ap (λ (o : Option ℕ). Some (Next.lesser c.version o)) k) ∙ j in this e (some-same c.version u j2)
        cases (Some w) k j = which (nat_lt w c.version) refl (sym (ap (λ (o : Option ℕ). Some (Next.lesser c.version o)) k) ∙ j)
          where
            which : (b : Bool) → nat_lt w c.version ≡ b → Some (elim b as (λ _. ℕ) [ true ↦ w | false ↦ c.version ]) ≡ Some u → Passes test (c ∷ cs) u
            which true l i = let q = some-same w u i in behind_it (subst (Passes test cs) q (further w k))
            which false l i = this e (some-same c.version u i)

pressing-wants : (graph : Graph) (s : Core) → IsLawful graph s → (t n u : ℕ) → Next.least_version (presses s t n) s.calls ≡ Some u → wants s u n ≡ true
pressing-wants graph s h t n u e = and_right _ _ (least-passes (presses s t n) s.calls u (calls-distinct s h.versions_are_fresh) e).passes

-- ---- the first Frame of an open node

pub head-of_open : (graph : Graph) (s : Core) → IsLawful graph s → (t n : ℕ) → opens s t n ≡ true → Next.other_than t (first_open (entries s n)) ≡ None → heads s t n ≡ true
head-of_open graph s h t n o e = go (first_open (entries s n)) refl e
  where
    frame_there : at is_frame (entries s n) t ≡ true
    frame_there = sym (h.frames_are_open.opens_frames t n) ∙ o

    none-open : (es : List Entry) → first_open es ≡ None → at is_frame es t ≡ false
    none-open [] k = refl
    none-open (x ∷ xs) k = more (is_frame x.state) refl k (none-open xs)
      where
        more : (b : Bool) → is_frame x.state ≡ b → first_open (x ∷ xs) ≡ None → (first_open xs ≡ None → at is_frame xs t ≡ false) → at is_frame (x ∷ xs) t ≡ false
        more true g k further = let j : Some x.version ≡ None = rw (g, first_open) at k in cc
        more false g k further = let j : first_open xs ≡ None = rw (g, first_open) at k in let r = further j in grind (arith, g, r)

    same_or : (v : ℕ) → (b : Bool) → (v == t) ≡ b → Next.kept_if (not b) v ≡ None → (v == t) ≡ true
    same_or v true q k = q
    same_or v false q k = cc

    go : (x : Option ℕ) → first_open (entries s n) ≡ x → Next.other_than t x ≡ None → heads s t n ≡ true
    go None k j = absurd (both_ways _ (none-open (entries s n) k) frame_there)
    go (Some v) k j = ap (λ (y : Option ℕ). is_some_of y t) k ∙ same_or v (v == t) refl j

pub least-empty : (xs : List ℕ) → least xs ≡ None → is_empty xs ≡ true
least-empty [] h = refl
least-empty (x ∷ xs) h = cc

pub least-in : (xs : List ℕ) (n : ℕ) → least xs ≡ Some n → is_in n xs ≡ true
least-in [] n h = cc
least-in (x ∷ xs) n h = let q : x ≡ n = cc in or_left _ _ (eq-eqb x n q)

any-none : (test : ℕ → Bool) (xs : List ℕ) → find test xs ≡ None → list_any test xs ≡ false
any-none test [] h = refl
any-none test (x ∷ xs) h = go (cases_Bool (test x)) h (any-none test xs)
  where
    go : (test x ≡ true) ⊎ (test x ≡ false) → find test (x ∷ xs) ≡ None → (find test xs ≡ None → list_any test xs ≡ false) → list_any test (x ∷ xs) ≡ false
    go (inl e) h further = let k : Some x ≡ None = rw e at h in cc
    go (inr e) h further = let k : find test xs ≡ None = rw e at h in let r = further k in grind (arith, e, r)

-- ---- the points

-- The first point that applies at an open node is allowed, where a node that is not given rests on nothing open.
points-ok : (graph : Graph) (s : Core) → IsLawful graph s → (t n : ℕ) (given : Bool) → opens s t n ≡ true → (given ≡ false → list_any (opens s t) (deps graph s t n) ≡ false) → is_empty (call s t).wanted ≡ true → executes s t ≡ true
    → Allows graph s (Next.first_of (Next.points_at graph s (entries s) (outs s) t given n))
points-ok graph s h t n given o closed idle x =
    some-holds P _ _ _ (λ v e. tt) (λ first.
    some-holds P _ _ _ (λ m e. tt) (λ no_open.
    some-holds P _ _ _ (λ u e. framing-ok graph s col t u n (pressing-wants graph s h t n u e)) (λ no_press.
    let w : AtWork graph s t n = record {
      turns = and_from _ _ idle (and_from _ _ (and_from _ _ x (head-of_open graph s h t n o first)) (ap not (rested given refl no_open)));
      not_pressed = least-none (presses s t n) s.calls no_press;
    } in
    when-holds P _ _ _ (λ e. source-ok graph s t n w e) (λ no_source.
    when-holds P _ _ _ (λ e. skip-ok graph s t n w no_source (not-true _ e)) (λ e.
    let a : AtTouched graph s t n = record { work = w; touches = and_from _ _ (ap not no_source) (not_not _ e) } in
    some-holds P _ _ _ (λ m k. input-ok graph s h col t n a m k) (λ inputs.
    when-holds P _ _ _ (λ k. evaluate-ok graph s t n a (all_gathered-none s n _ inputs) (not-true _ k)) (λ k.
    some-holds P _ _ _ (λ c q. discover-ok graph s col t n a c q) (λ no_new.
    let d : IsDiscoveredAll graph s t n = record { work = a; found = not_not _ k; discovered = all_discovered-none graph s t n no_new } in
    some-holds P _ _ _ (λ c q. candidate-ok graph s h col t n d c q) (λ candidates.
    let g : IsGatheredAll graph s t n = record { candidates = d; gathered = all_gathered-none s n _ candidates } in
    when-holds P _ _ _ (λ q. body-ok graph s t n g (not-true _ q)) (λ body.
    some-holds P _ _ _ (λ m q. drop-ok graph s col t n g m q) (λ none_held.
    resolve-ok graph s t n g (not_not _ body) none_held)))))))))))
  where
    P : Turn → Type 0
    P = Allows graph s

    col : Collects graph s
    col = full-collects graph s h

    rested : (b : Bool) → given ≡ b → (elim b as (λ _. Option ℕ) [ true ↦ find (opens s t) (deps graph s t n) | false ↦ None ]) ≡ None → list_any (opens s t) (deps graph s t n) ≡ false
    rested true e k = any-none (opens s t) (deps graph s t n) k
    rested false e k = closed e

-- What is to be framed, and a start, come first; what comes behind them is asked of an idle call alone.
first-ok : (graph : Graph) (s : Core) → IsLawful graph s → (t : ℕ) → live s t ≡ true → (points : List (Option Turn)) → (is_empty (call s t).wanted ≡ true → executes s t ≡ true → Allows graph s (Next.first_of points))
    → Allows graph s (Next.first_of (Next.to_frame graph s (entries s) (outs s) t ∷ Next.to_start graph s (entries s) (outs s) t ∷ points))
first-ok graph s h t l points further =
    some-holds P _ _ _ (λ n e. framing-ok graph s (full-collects graph s h) t t n (least-in (call s t).wanted n e)) (λ e.
    let w = least-empty (call s t).wanted e in
    when-holds P _ _ _ (λ x. some-holds P _ _ _ (λ v k. tt) (λ k. and_from _ _ (and_from _ _ (and_from _ _ l x) w) (ap not (least-none (is_framing_before s t) s.calls k)))) (λ x. further w (not_not _ x)))
  where
    P : Turn → Type 0
    P = Allows graph s

next_at-ok : (graph : Graph) (s : Core) → IsLawful graph s → (t n : ℕ) → live s t ≡ true → Allows graph s (Next.next_at graph s t n)
next_at-ok graph s h t n l = first-ok graph s h t l _ (λ w x. when-holds (Allows graph s) _ _ _ (λ o. tt) (λ o. points-ok graph s h t n true (not_not _ o) (λ z. absurd (true≢false z)) w x))

pub next_at-allowed : (graph : Graph) (s : Core) → IsLawful graph s → (t n : ℕ) → live s t ≡ true → (step : Step) → Next.next_at graph s t n ≡ turns.Step step → allowed graph s step ≡ true
next_at-allowed graph s h t n l step e = subst (Allows graph s) e (next_at-ok graph s h t n l)

-- ---- at the least open node

-- The least node of a set is at most each of its nodes.
pub least-below : (xs : List ℕ) (n m : ℕ) → IsSet xs → least xs ≡ Some n → is_in m xs ≡ true → n ≤ m
least-below [] n m q h k = cc
least-below (x ∷ xs) n m q h k = go (some-same x n h) (or_cases _ _ k)
  where
    above : (ys : List ℕ) → AllByRecursion (λ y. x < y) ys → is_in m ys ≡ true → x < m
    above [] a i = absurd (true≢false (sym i))
    above (y ∷ ys) a i = more (or_cases _ _ i) (above ys a.1)
      where
        more : ((y == m) ≡ true) ⊎ (is_in m ys ≡ true) → (is_in m ys ≡ true → x < m) → x < m
        more (inl e) f = subst (λ (z : ℕ). x < z) (eqb-true y m e) a.0
        more (inr e) f = f e

    go : x ≡ n → ((x == m) ≡ true) ⊎ (is_in m xs ≡ true) → n ≤ m
    go e (inl i) = let j = eqb-true x m i in omega (arith, e, j)
    go e (inr i) = let j = above xs q.0 i in omega (arith, e, j)

deps-closed : (graph : Graph) → IsGraph graph → (s : Core) → IsLawful graph s → (t n : ℕ) → least (call s t).open_nodes ≡ Some n → list_any (opens s t) (deps graph s t n) ≡ false
deps-closed graph g s h t n e = any-false (opens s t) (deps graph s t n) (λ m i. false_from_ne_true (opens s t m) (λ o.
    let a = least-below (call s t).open_nodes n m (h.sets_are_sets.open_nodes t) e o in
    let b = dep-earlier graph g s h t n m there i in
    omega (arith, a, b)))
  where
    frame_there : at is_frame (entries s n) t ≡ true
    frame_there = sym (h.frames_are_open.opens_frames t n) ∙ least-in (call s t).open_nodes n e

    there : n < length graph.nodes
    there = let a = entry-there s n t (at-has is_frame (entries s n) t frame_there) in let l = h.lists in omega (arith, a, l)

looking-ok : (graph : Graph) (s : Core) → IsLawful graph s → (t : ℕ) → is_idle s t ≡ true → (m : ℕ) → next_look s t ≡ Some m → Allows graph s (Next.reading graph s (entries s) (outs s) t m (steps.Look t))
looking-ok graph s h t i m e = reading-ok graph s (full-collects graph s h) t m (steps.Look t)
    (λ a b. and_from _ _ i (ap (served_look s t) e ∙ served-from (entries s m) t (h.one_entry m) a (not_frame graph s h t m (closed (call s t).open_nodes (and_right _ _ i))) b))
    (λ a r. and_from _ _ (and_from _ _ (and_from _ _ (and_left _ _ (and_left _ _ i)) (ap not a)) r) (or_right _ _ (and_from _ _ i (ap (λ (o : Option ℕ). is_some_of o m) e ∙ eq-eqb m m refl))))
  where
    closed : (ns : List ℕ) → is_empty ns ≡ true → is_in m ns ≡ false
    closed [] k = refl
    closed (x ∷ xs) k = absurd (true≢false (sym k))

pub next-ok : (graph : Graph) → IsGraph graph → (s : Core) → IsLawful graph s → (t : ℕ) → live s t ≡ true → Allows graph s (Next.next graph s t)
next-ok graph g s h t l = first-ok graph s h t l _ (λ w x.
    some-holds (Allows graph s) _ _ _ (λ n e. points-ok graph s h t n false (least-in (call s t).open_nodes n e) (λ z. deps-closed graph g s h t n e) w x) (λ e.
    some-holds (Allows graph s) _ _ _ (λ m k. looking-ok graph s h t (and_from _ _ (and_from _ _ x w) (least-empty (call s t).open_nodes e)) m k) (λ k. tt)))

pub next-allowed : (graph : Graph) → IsGraph graph → (s : Core) → IsLawful graph s → (t : ℕ) → live s t ≡ true → (step : Step) → Next.next graph s t ≡ turns.Step step → allowed graph s step ≡ true
next-allowed graph g s h t l step e = subst (Allows graph s) e (next-ok graph g s h t l)
