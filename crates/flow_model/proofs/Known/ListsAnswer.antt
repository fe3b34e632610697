-- In a lawful state lists answer what live calls ask.
use Rattle.std.proofs.Common.{◌≡◌, ℕ, suc, ◌<◌, ◌≤◌, Bool, true, false, not, ◌==◌, ◌⊎◌, inl, inr, refl, sym, ap, arith, List, [], ◌∷◌, length, filter, if◌then◌else◌, is_some, true≢false, ◌∙◌, subst, Option, Some, None}
use Rattle.std.specs.Option.{option_or}
use Rattle.std.proofs.lemmas.Bool.Decides.{eqb_tells}
use Rattle.std.proofs.lemmas.Bool.{or_cases, or_left, or_right, and_from, eqb-true, eq-eqb, false_from_ne_true, both_ways, cases_Bool}
use Rattle.signal_graph.specs.Graph.{Graph}
use Rattle.node_versions.specs.declared.entry.State.{State}
use Rattle.node_versions.specs.declared.entry.Entry.{Entry}
use Rattle.node_versions.specs.Entries.{EndedIsPrefix, HasEndedPrefix, IsUnique, OutEdge, is_done, has, at, behind, up_to, before, last_done, only_done, has_out, is_edge, without_out}
use Rattle.node_versions.proofs.Places.{at-has}
use Rattle.flow_model.specs.Machine.State.{Core, live, ended, entries, outs}
use Rattle.flow_model.specs.Machine.Changes.{remove_first}
use Rattle.flow_model.specs.Kept.Lawful.{IsLawful, count_edges}
use Rattle.flow_model.specs.Parts.Operations.{ListsAnswer}
use Rattle.flow_model.proofs.OneList.InOrder.{on_calls}
use Rattle.flow_model.proofs.OneList.StatesAndPlaces.{behind-has, behind-total}
use Rattle.flow_model.proofs.OneList.OneEntryACall.{filter-at}
use Rattle.flow_model.proofs.OrderStays.OpenNodesHaveFrames.{entry-there}

-- ---- Dones that are found

done-some : (es : List Entry) (u : ℕ) → at is_done es u ≡ true → is_some (last_done es) ≡ true
done-some [] u h = absurd (true≢false (sym h))
done-some (e ∷ es) u h = go (cases_Bool (e.version == u)) (done-some es u)
  where
    here : (o : Option Entry) (b : Bool) → b ≡ true → is_some (option_or o (elim b as (λ _. Option Entry) [ true ↦ Some e | false ↦ None ])) ≡ true
    here None true k = refl
    here (Some x) true k = refl
    here o false k = absurd (true≢false (sym k))

    more : (o p : Option Entry) → is_some o ≡ true → is_some (option_or o p) ≡ true
    more None p k = absurd (true≢false (sym k))
    more (Some x) p k = refl

    go : ((e.version == u) ≡ true) ⊎ ((e.version == u) ≡ false) → (at is_done es u ≡ true → is_some (last_done es) ≡ true) → is_some (option_or (last_done es) (only_done e)) ≡ true
    go (inl k) further = here (last_done es) (is_done e.state) (rw (k, at) at h)
    go (inr k) further = more (last_done es) (only_done e) (further (rw (k, at) at h))

-- What stands before a call's entry is among the entries before it, and among those up to it.
before-at : (test : State → Bool) (es : List Entry) (u t : ℕ) → IsUnique es → behind es u t ≡ true → at test (before es t) u ≡ at test es u
before-at test [] u t q h = refl
before-at test (e ∷ es) u t q h = let r = before-at test es u t q.1 in let b = behind-has es u t in let n = q.0 in grind (arith, eqb_tells, r, b, n)

up_to-at : (test : State → Bool) (es : List Entry) (u t : ℕ) → IsUnique es → behind es u t ≡ true → at test (up_to es t) u ≡ at test es u
up_to-at test [] u t q h = refl
up_to-at test (e ∷ es) u t q h = let r = up_to-at test es u t q.1 in let b = behind-has es u t in let n = q.0 in grind (arith, eqb_tells, r, b, n)

-- a Done of an ended call stands before a live call's entry
record EndedBefore (s : Core) (n t : ℕ) : Type 0 where
  it : ℕ
  stands : behind (entries s n) it t ≡ true
  done : at is_done (entries s n) it ≡ true

ended-before : (graph : Graph) (s : Core) → IsLawful graph s → (n t : ℕ) → live s t ≡ true → has (entries s n) t ≡ true → EndedBefore s n t
ended-before graph s h n t lt k = go (h.ended_is_prefix.done n (entry-there s n t k))
  where
    go : (u : ℕ) × (live s u ≡ false) × (at is_done (entries s n) u ≡ true) → EndedBefore s n t
    go (u, e, d) = record { it = u; stands = side (or_cases _ _ (behind-total (entries s n) u t (at-has is_done (entries s n) u d) k (λ x. both_ways _ e (subst (λ (w : ℕ). live s w ≡ true) (sym x) lt)))); done = d }
      where
        side : (behind (entries s n) u t ≡ true) ⊎ (behind (entries s n) t u ≡ true) → behind (entries s n) u t ≡ true
        side (inl b) = b
        side (inr b) = absurd (both_ways _ (h.ended_is_prefix.prefix n t u b e) lt)

-- ---- the ended entries come first

pub prefix-of : (ends : ℕ → Bool) (es : List Entry) → IsUnique es → ((u v : ℕ) → behind es u v ≡ true → ends v ≡ true → ends u ≡ true) → EndedIsPrefix (on_calls ends) es
prefix-of ends [] q f = tt
prefix-of ends (e ∷ es) q f = go (ends e.version) refl (prefix-of ends es q.1 (λ u v b. f u v (further u v b)))
  where
    further : (u v : ℕ) → behind es u v ≡ true → behind (e ∷ es) u v ≡ true
    further u v b =
        let i = (behind-has es u v b).0 in
        let ne : (e.version == u) ≡ false = false_from_ne_true _ (λ k. both_ways _ q.0 (subst (λ (w : ℕ). has es w ≡ true) (sym (eqb-true e.version u k)) i)) in
        rw (ne, behind) b

    none : (xs : List Entry) → ((v : ℕ) → has xs v ≡ true → ends v ≡ true → ⊥) → filter (on_calls ends) xs ≡ []
    none [] k = refl
    none (x ∷ xs) k = cases (ends x.version) refl (none xs (λ v i. k v (or_right _ _ i)))
      where
        cases : (b : Bool) → ends x.version ≡ b → filter (on_calls ends) xs ≡ [] → (if b then x ∷ filter (on_calls ends) xs else filter (on_calls ends) xs) ≡ []
        cases true j r = absurd (k x.version (or_left _ _ (eq-eqb x.version x.version refl)) j)
        cases false j r = r

    go : (b : Bool) → ends e.version ≡ b → EndedIsPrefix (on_calls ends) es → elim b as (λ _. Type 0) [ true ↦ EndedIsPrefix (on_calls ends) es | false ↦ filter (on_calls ends) es ≡ [] ]
    go true k r = r
    go false k r = none es (λ v i j. both_ways _ k (f e.version v (first v i) j))
      where
        first : (v : ℕ) → has es v ≡ true → behind (e ∷ es) e.version v ≡ true
        first v i = let w = eq-eqb e.version e.version refl in rw (w, behind) i

ended-prefix : (graph : Graph) (s : Core) → IsLawful graph s → (n : ℕ) → n < length s.cells → HasEndedPrefix (ended s) (entries s n)
ended-prefix graph s h n k = record { prefix = prefix-of (λ v. not (live s v)) (entries s n) (h.one_entry n) (λ u v b e. is_ended u (h.ended_is_prefix.prefix n u v b (is_live v e))); done = found (h.ended_is_prefix.done n k) }
  where
    is_ended : (u : ℕ) → live s u ≡ false → not (live s u) ≡ true
    is_ended u e = ap not e

    is_live : (v : ℕ) → not (live s v) ≡ true → live s v ≡ false
    is_live v e = grind (arith, e)

    found : (u : ℕ) × (live s u ≡ false) × (at is_done (entries s n) u ≡ true) → is_some (last_done (filter (ended s) (entries s n))) ≡ true
    found (u, e, d) = done-some (filter (ended s) (entries s n)) u (filter-at is_done (λ v. not (live s v)) (entries s n) u ∙ and_from _ _ (is_ended u e) d)

-- ---- an out-edge goes

none-left : (n since : ℕ) (edges : List OutEdge) → count_edges n edges ≡ 0 → without_out edges n since ≡ edges
none-left n since [] h = refl
none-left n since (edge ∷ edges) h = go (edge.0 == n) refl (none-left n since edges)
  where
    go : (b : Bool) → (edge.0 == n) ≡ b → (count_edges n edges ≡ 0 → without_out edges n since ≡ edges) → without_out (edge ∷ edges) n since ≡ edge ∷ edges
    go true e f = let k : suc (count_edges n edges) ≡ 0 = rw e at h in absurd (omega (arith, k))
    go false e f = let k : count_edges n edges ≡ 0 = rw e at h in let r = f k in rw e (ap (λ (es : List OutEdge). edge ∷ es) r)

has-count : (n since : ℕ) (edges : List OutEdge) → has_out edges n since ≡ true → 1 ≤ count_edges n edges
has-count n since [] h = absurd (true≢false (sym h))
has-count n since (edge ∷ edges) h = go (cases_Bool (edge.0 == n)) (has-count n since edges)
  where
    go : ((edge.0 == n) ≡ true) ⊎ ((edge.0 == n) ≡ false) → (has_out edges n since ≡ true → 1 ≤ count_edges n edges) → 1 ≤ count_edges n (edge ∷ edges)
    go (inl e) f = rw e (omega arith)
    go (inr e) f = rw e (f (rw e at h))

removed-edge : (n since : ℕ) (edges : List OutEdge) → count_edges n edges ≤ 1 → has_out edges n since ≡ true → remove_first n edges ≡ without_out edges n since
removed-edge n since [] c h = refl
removed-edge n since (edge ∷ edges) c h = go (cases_Bool (edge.0 == n)) (removed-edge n since edges)
  where
    go : ((edge.0 == n) ≡ true) ⊎ ((edge.0 == n) ≡ false) → (count_edges n edges ≤ 1 → has_out edges n since ≡ true → remove_first n edges ≡ without_out edges n since) → remove_first n (edge ∷ edges) ≡ without_out (edge ∷ edges) n since
    go (inr e) f =
        let first : remove_first n (edge ∷ edges) ≡ edge ∷ remove_first n edges = rw (e, remove_first) refl in
        let last : without_out (edge ∷ edges) n since ≡ edge ∷ without_out edges n since = rw e refl in
        first ∙ ap (λ (es : List OutEdge). edge ∷ es) (f (rw e at c) (rw e at h)) ∙ sym last
    go (inl e) f =
        let first : remove_first n (edge ∷ edges) ≡ edges = rw (e, remove_first) refl in
        let one : suc (count_edges n edges) ≤ 1 = rw e at c in
        let k : count_edges n edges ≡ 0 = zero_of (count_edges n edges) one in
        first ∙ sym (drops (is_edge n since edge) (it (or_cases _ _ h) k) ∙ none-left n since edges k)
      where
        zero_of : (x : ℕ) → suc x ≤ 1 → x ≡ 0
        zero_of x l = omega (arith, l)

        it : (is_edge n since edge ≡ true) ⊎ (has_out edges n since ≡ true) → count_edges n edges ≡ 0 → is_edge n since edge ≡ true
        it (inl x) k = x
        it (inr x) k = let o = has-count n since edges x in absurd (omega (arith, o, k))

        drops : (b : Bool) → b ≡ true → (if (not b) then edge ∷ without_out edges n since else without_out edges n since) ≡ without_out edges n since
        drops true k = refl
        drops false k = absurd (true≢false (sym k))

pub lists-answer : (graph : Graph) (s : Core) → IsLawful graph s → ListsAnswer s
lists-answer graph s h = record {
  some = λ n k. some n (h.ended_is_prefix.done n k);
  done_at = λ n t lt k. let b = ended-before graph s h n t lt k in done-some (up_to (entries s n) t) b.it (up_to-at is_done (entries s n) b.it t (h.one_entry n) b.stands ∙ b.done);
  done_before = λ n t lt k. let b = ended-before graph s h n t lt k in done-some (before (entries s n) t) b.it (before-at is_done (entries s n) b.it t (h.one_entry n) b.stands ∙ b.done);
  ended = ended-prefix graph s h;
  remove = λ n m since k. removed-edge n since (outs s m) (h.edges_are_kept.once n m) k;
}
  where
    some : (n : ℕ) → (u : ℕ) × (live s u ≡ false) × (at is_done (entries s n) u ≡ true) → 0 < length (entries s n)
    some n (u, e, d) = go (entries s n) d
      where
        go : (es : List Entry) → at is_done es u ≡ true → 0 < length es
        go [] k = absurd (true≢false (sym k))
        go (x ∷ xs) k = omega arith
