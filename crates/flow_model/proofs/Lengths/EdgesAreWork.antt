-- Where a node's last Done stays, Discover and Drop raise the amount of work at their node, and lower it at no other.
use Rattle.std.proofs.Common.{◌≡◌, ℕ, suc, ◌+◌, ◌≤◌, ◌<◌, Bool, true, false, ◌||◌, ◌==◌, ◌⊎◌, inl, inr, refl, sym, ap, arith, List, [], ◌∷◌, length, true≢false, ◌∙◌, subst}
use Rattle.std.proofs.lemmas.Bool.{or_right, eqb-true, eq-eqb, false_from_ne_true, both_ways, cases_Bool, not-true}
use Rattle.std.specs.Prelude.{is_some, filter, if◌then◌else◌}
use Rattle.script_tree.specs.declared.value.Value.{Value}
use Rattle.script_tree.proofs.Truths.{and_left, and_right}
use Rattle.signal_graph.specs.Graph.{Graph, IsGraph, node_at, is_in, inputs_of}
use Rattle.node_versions.specs.declared.entry.State.TheVariants.{Mark}
use Rattle.node_versions.specs.Entries.{OutEdge, has, has_out, has_node, with_out}
use Rattle.flow_model.specs.declared.step.Step.TheVariants as steps
use Rattle.flow_model.specs.Machine.State.{Core, Cell, cell, entries, outs, with_cell}
use Rattle.flow_model.specs.Machine.Words.{heads, is_found, is_candidate, is_prior}
use Rattle.flow_model.specs.Machine.Changes.{place_entry, enter, ensure_mark, add_edge, drop_edge, remove_first}
use Rattle.flow_model.specs.Machine.Steps.{allowed, apply}
use Rattle.flow_model.specs.Kept.Lawful.{IsLawful, IsRunEdge, IsNewEdge, count_edges}
use Rattle.flow_model.proofs.OneStep.WhoMayStep.{at_front-heads, can_work-at_front, due-can_work, discover-due, drop-due}
use Rattle.flow_model.proofs.OneList.Entering.{with_cell-cell}
use Rattle.flow_model.proofs.OrderStays.OpenNodesHaveFrames.{cell-there, entry-there}
use Rattle.flow_model.proofs.FramesSpread.AfterOtherSteps.{ensured-edges, removed-node}
use Rattle.flow_model.proofs.FramesSpread.AfterDiscover.{head-prior, added-node, discover-not_prior}
use Rattle.flow_model.proofs.Edges.EdgesFitCandidates.{candidate-listed, discover-candidate, discover-no_edge}
use Rattle.flow_model.proofs.FramesSpread.NewFrames.{some-edge}
use Rattle.flow_model.proofs.Opening.OpeningLists.{candidate-earlier}
use Rattle.flow_model.proofs.OneStep.SameLengths.{change_at-length}
use Rattle.flow_model.proofs.Histories.FoundUntilDone.{heads-entry}
use Rattle.flow_model.proofs.FramesSpread.AfterDones.{heads-same}
use Rattle.flow_model.proofs.Lengths.WorkDone.{Further, Rises, by_edge, by_drop, progress, work, has_gathered, last_picks, work-rises}
use Rattle.flow_model.proofs.Lengths.SameWork.{SameLast, same-last, same-part, ensured-part}
use Rattle.flow_model.proofs.Settled.AfterDrop.{edge-there}

-- ---- Discover

more-nodes : (n0 n t : ℕ) (os : List OutEdge) → has_node os n ≡ true → has_node (with_out os n0 t) n ≡ true
more-nodes n0 n t [] h = absurd (true≢false (sym h))
more-nodes n0 n t (edge ∷ os) h = let r = more-nodes n0 n t os in grind (arith, h, r)

now-node : (n t : ℕ) (os : List OutEdge) → has_node (with_out os n t) n ≡ true
now-node n t [] = let e = eq-eqb n n refl in rw (e, has_node) refl
now-node n t (edge ∷ os) = or_right _ _ (now-node n t os)

-- What the head picks before is what the last Done picked.
not-last : (graph : Graph) (s : Core) → IsLawful graph s → (t n m : ℕ) → heads s t n ≡ true → is_prior s t n m ≡ false → is_in m (last_picks s n) ≡ false
not-last graph s h t n m k p = sym (head-prior graph s h t n m k) ∙ p

is-last : (graph : Graph) (s : Core) → IsLawful graph s → (t n m : ℕ) → heads s t n ≡ true → is_prior s t n m ≡ true → is_in m (last_picks s n) ≡ true
is-last graph s h t n m k p = sym (head-prior graph s h t n m k) ∙ p

record Discovers (graph : Graph) (s : Core) (t n c : ℕ) : Type 0 where
  first : heads s t n ≡ true
  candidate : is_candidate s n c ≡ true
  other : is_in c (last_picks s n) ≡ false
  none : has_node (outs s c) n ≡ false

discovers : (graph : Graph) (s : Core) → IsLawful graph s → (t n c : ℕ) → allowed graph s (steps.Discover t n c) ≡ true → Discovers graph s t n c
discovers graph s h t n c a = record { first = first; candidate = discover-candidate graph s t n c a; other = other; none = false_from_ne_true _ (λ k. stood (some-edge (outs s c) n k)) }
  where
    first : heads s t n ≡ true
    first = at_front-heads graph s t n (can_work-at_front graph s t n (due-can_work graph s t n (discover-due graph s t n c a)))

    other : is_in c (last_picks s n) ≡ false
    other = not-last graph s h t n c first (discover-not_prior graph s t n c a)

    stood : (since : ℕ) × (has_out (outs s c) n since ≡ true) → ⊥
    stood x = go (h.edges_are_kept.stands n c x.0 x.1)
      where
        go : IsRunEdge s n c x.0 ⊎ IsNewEdge s n c x.0 → ⊥
        go (inl r) = both_ways _ other r.picked
        go (inr r) = both_ways _ (discover-no_edge graph s t n c a) (subst (λ (u : ℕ). has_out (outs s c) n u ≡ true) (heads-same s t x.0 n first r.first_open) x.1)

pub discovered-outs : (graph : Graph) (s : Core) (t n0 c m : ℕ) → (outs (apply graph s (steps.Discover t n0 c)) m ≡ outs s m) ⊎ ((m ≡ c) × (outs (apply graph s (steps.Discover t n0 c)) m ≡ with_out (outs s m) n0 t))
discovered-outs graph s t n0 c m = go (with_cell-cell p c (add_edge n0 t) m)
  where
    p : Core
    p = ensure_mark s t c

    q : Core
    q = with_cell p c (add_edge n0 t)

    go : (cell q m ≡ cell p m) ⊎ ((m ≡ c) × (cell q m ≡ add_edge n0 t (cell p m))) → (outs q m ≡ outs s m) ⊎ ((m ≡ c) × (outs q m ≡ with_out (outs s m) n0 t))
    go (inl e) = inl (ap (λ (x : Cell). x.outs) e ∙ ensured-edges s t c m)
    go (inr e) = inr (e.0, ap (λ (x : Cell). x.outs) e.1 ∙ ap (λ (os : List OutEdge). with_out os n0 t) (ensured-edges s t c m))

pub discovered-further : (graph : Graph) (s : Core) → IsLawful graph s → (t n0 c n : ℕ) → allowed graph s (steps.Discover t n0 c) ≡ true → SameLast s (apply graph s (steps.Discover t n0 c)) n → Further (progress s n) (progress (apply graph s (steps.Discover t n0 c)) n)
discovered-further graph s h t n0 c n a e = record {
  gathered = λ m k. ap (λ (g : List (ℕ × Value)). has_gathered g m) (part (λ (x : Cell). x.gathered) (λ x. refl) (λ x. refl)) ∙ k;
  found = part (λ (x : Cell). x.found) (λ x. refl) (λ x. refl);
  body = λ k. ap is_some (part (λ (x : Cell). x.body) (λ x. refl) (λ x. refl)) ∙ k;
  last = same-last s q n e;
  added = λ m i j k. add m k (discovered-outs graph s t n0 c m);
  taken = λ m i k. take m i k (discovered-outs graph s t n0 c m) (cases_Bool (n == n0));
}
  where
    q : Core
    q = apply graph s (steps.Discover t n0 c)

    part : {A : Type 0} (read : Cell → A) → ((x : Cell) → read (add_edge n0 t x) ≡ read x) → ((x : Cell) → read (place_entry s t Mark x) ≡ read x) → read (cell q n) ≡ read (cell s n)
    part read f g = same-part read (ensure_mark s t c) c (add_edge n0 t) f n ∙ ensured-part read s t c g n

    add : (m : ℕ) → has_node (outs s m) n ≡ true → (outs q m ≡ outs s m) ⊎ ((m ≡ c) × (outs q m ≡ with_out (outs s m) n0 t)) → has_node (outs q m) n ≡ true
    add m k (inl x) = ap (λ (os : List OutEdge). has_node os n) x ∙ k
    add m k (inr x) = ap (λ (os : List OutEdge). has_node os n) x.1 ∙ more-nodes n0 n t (outs s m) k

    take : (m : ℕ) → is_in m (last_picks s n) ≡ true → has_node (outs s m) n ≡ false → (outs q m ≡ outs s m) ⊎ ((m ≡ c) × (outs q m ≡ with_out (outs s m) n0 t)) → ((n == n0) ≡ true) ⊎ ((n == n0) ≡ false) → has_node (outs q m) n ≡ false
    take m i k (inl x) w = ap (λ (os : List OutEdge). has_node os n) x ∙ k
    take m i k (inr x) (inr w) = ap (λ (os : List OutEdge). has_node os n) x.1 ∙ added-node n0 n t (outs s m) w ∙ k
    take m i k (inr x) (inl w) = absurd (both_ways _ (discovers graph s h t n0 c a).other (subst (λ (y : ℕ). is_in c (last_picks s y) ≡ true) (eqb-true n n0 w) (subst (λ (y : ℕ). is_in y (last_picks s n) ≡ true) x.0 i)))

pub ensured-length : (s : Core) (t c : ℕ) → length (ensure_mark s t c).cells ≡ length s.cells
ensured-length s t c = go (has (entries s c) t)
  where
    go : (b : Bool) → length (elim b as (λ _. Core) [ true ↦ s | false ↦ enter s t c Mark ]).cells ≡ length s.cells
    go true = refl
    go false = change_at-length c (place_entry s t Mark) s.cells

discover-rises : (graph : Graph) → IsGraph graph → (s : Core) → IsLawful graph s → (t n c : ℕ) → allowed graph s (steps.Discover t n c) ≡ true → Rises (inputs_of (node_at graph n)) (progress s n) (progress (apply graph s (steps.Discover t n c)) n)
discover-rises graph g s h t n c a = by_edge c d.candidate d.other d.none now
  where
    d : Discovers graph s t n c
    d = discovers graph s h t n c a

    there : c < length s.cells
    there =
        let l = entry-there s n t (heads-entry graph s h t n d.first) in
        let e = h.lists in
        let below = candidate-earlier graph g n c (omega (arith, l, e)) (candidate-listed graph s h t n c d.first d.candidate) in
        omega (arith, l, below)

    now : has_node (outs (apply graph s (steps.Discover t n c)) c) n ≡ true
    now = let e = ensured-length s t c in let l = there in ap (λ (x : Cell). has_node x.outs n) (cell-there (ensure_mark s t c) c (add_edge n t) (omega (arith, l, e))) ∙ now-node n t (outs (ensure_mark s t c) c)

-- ---- Drop

fewer-nodes : (n0 n : ℕ) (os : List OutEdge) → has_node os n ≡ false → has_node (remove_first n0 os) n ≡ false
fewer-nodes n0 n [] h = refl
fewer-nodes n0 n (edge ∷ os) h = let r = fewer-nodes n0 n os in grind (arith, h, r)

none-counted : (n : ℕ) (os : List OutEdge) → count_edges n os ≡ 0 → has_node os n ≡ false
none-counted n [] h = refl
none-counted n (edge ∷ os) h = go (edge.0 == n) h (none-counted n os)
  where
    go : (b : Bool) → length (if b then edge ∷ filter (λ (e : OutEdge). e.0 == n) os else filter (λ (e : OutEdge). e.0 == n) os) ≡ 0 → (count_edges n os ≡ 0 → has_node os n ≡ false) → (b || has_node os n) ≡ false
    go true k r = absurd (none (length (filter (λ (e : OutEdge). e.0 == n) os)) k)
      where
        none : (x : ℕ) → suc x ≡ 0 → ⊥
        none x k = omega (arith, k)
    go false k r = r k

one-removed : (n : ℕ) (os : List OutEdge) → count_edges n os ≤ 1 → has_node (remove_first n os) n ≡ false
one-removed n [] h = refl
one-removed n (edge ∷ os) h = go (edge.0 == n) refl h (one-removed n os)
  where
    go : (b : Bool) → (edge.0 == n) ≡ b → length (if b then edge ∷ filter (λ (e : OutEdge). e.0 == n) os else filter (λ (e : OutEdge). e.0 == n) os) ≤ 1 → (count_edges n os ≤ 1 → has_node (remove_first n os) n ≡ false)
        → has_node (elim b as (λ _. List OutEdge) [ true ↦ os | false ↦ edge ∷ remove_first n os ]) n ≡ false
    go true e k r = none-counted n os (omega (arith, k))
    go false e k r = rw (e, has_node) (r k)

pub dropped-outs : (graph : Graph) (s : Core) (t n0 o m : ℕ) → (outs (apply graph s (steps.Drop t n0 o)) m ≡ outs s m) ⊎ ((m ≡ o) × (outs (apply graph s (steps.Drop t n0 o)) m ≡ remove_first n0 (outs s m)))
dropped-outs graph s t n0 o m = go (with_cell-cell p o (drop_edge n0) m)
  where
    p : Core
    p = ensure_mark s t o

    q : Core
    q = with_cell p o (drop_edge n0)

    go : (cell q m ≡ cell p m) ⊎ ((m ≡ o) × (cell q m ≡ drop_edge n0 (cell p m))) → (outs q m ≡ outs s m) ⊎ ((m ≡ o) × (outs q m ≡ remove_first n0 (outs s m)))
    go (inl e) = inl (ap (λ (x : Cell). x.outs) e ∙ ensured-edges s t o m)
    go (inr e) = inr (e.0, ap (λ (x : Cell). x.outs) e.1 ∙ ap (remove_first n0) (ensured-edges s t o m))

pub drop-other : (graph : Graph) (s : Core) (t n o : ℕ) → allowed graph s (steps.Drop t n o) ≡ true → is_candidate s n o ≡ false
drop-other graph s t n o a = not-true _ (and_right _ _ (and_left _ _ (and_left _ _ a)))

pub drop-edge : (graph : Graph) (s : Core) (t n o : ℕ) → allowed graph s (steps.Drop t n o) ≡ true → has_node (outs s o) n ≡ true
drop-edge graph s t n o a = and_right _ _ (and_left _ _ a)

pub drop-prior : (graph : Graph) (s : Core) (t n o : ℕ) → allowed graph s (steps.Drop t n o) ≡ true → is_prior s t n o ≡ true
drop-prior graph s t n o a = and_right _ _ (and_left _ _ (and_left _ _ (and_left _ _ a)))

pub drop-found : (graph : Graph) (s : Core) (t n o : ℕ) → allowed graph s (steps.Drop t n o) ≡ true → is_found s n ≡ true
drop-found graph s t n o a = and_right _ _ (and_left _ _ (and_left _ _ (and_left _ _ (and_left _ _ (and_left _ _ a)))))

pub drop-heads : (graph : Graph) (s : Core) (t n o : ℕ) → allowed graph s (steps.Drop t n o) ≡ true → heads s t n ≡ true
drop-heads graph s t n o a = at_front-heads graph s t n (can_work-at_front graph s t n (due-can_work graph s t n (drop-due graph s t n o a)))

pub dropped-further : (graph : Graph) (s : Core) (t n0 o n : ℕ) → allowed graph s (steps.Drop t n0 o) ≡ true → SameLast s (apply graph s (steps.Drop t n0 o)) n → Further (progress s n) (progress (apply graph s (steps.Drop t n0 o)) n)
dropped-further graph s t n0 o n a e = record {
  gathered = λ m k. ap (λ (g : List (ℕ × Value)). has_gathered g m) (part (λ (x : Cell). x.gathered) (λ x. refl) (λ x. refl)) ∙ k;
  found = part (λ (x : Cell). x.found) (λ x. refl) (λ x. refl);
  body = λ k. ap is_some (part (λ (x : Cell). x.body) (λ x. refl) (λ x. refl)) ∙ k;
  last = same-last s q n e;
  added = λ m i j k. add m i k (dropped-outs graph s t n0 o m) (cases_Bool (n == n0));
  taken = λ m i k. take m k (dropped-outs graph s t n0 o m);
}
  where
    q : Core
    q = apply graph s (steps.Drop t n0 o)

    part : {A : Type 0} (read : Cell → A) → ((x : Cell) → read (drop_edge n0 x) ≡ read x) → ((x : Cell) → read (place_entry s t Mark x) ≡ read x) → read (cell q n) ≡ read (cell s n)
    part read f g = same-part read (ensure_mark s t o) o (drop_edge n0) f n ∙ ensured-part read s t o g n

    add : (m : ℕ) → is_candidate s n m ≡ true → has_node (outs s m) n ≡ true → (outs q m ≡ outs s m) ⊎ ((m ≡ o) × (outs q m ≡ remove_first n0 (outs s m))) → ((n == n0) ≡ true) ⊎ ((n == n0) ≡ false) → has_node (outs q m) n ≡ true
    add m i k (inl x) w = ap (λ (os : List OutEdge). has_node os n) x ∙ k
    add m i k (inr x) (inr w) = ap (λ (os : List OutEdge). has_node os n) x.1 ∙ removed-node n0 n (outs s m) w ∙ k
    add m i k (inr x) (inl w) = absurd (both_ways _ (drop-other graph s t n0 o a) (subst (λ (y : ℕ). is_candidate s y o ≡ true) (eqb-true n n0 w) (subst (λ (y : ℕ). is_candidate s n y ≡ true) x.0 i)))

    take : (m : ℕ) → has_node (outs s m) n ≡ false → (outs q m ≡ outs s m) ⊎ ((m ≡ o) × (outs q m ≡ remove_first n0 (outs s m))) → has_node (outs q m) n ≡ false
    take m k (inl x) = ap (λ (os : List OutEdge). has_node os n) x ∙ k
    take m k (inr x) = ap (λ (os : List OutEdge). has_node os n) x.1 ∙ fewer-nodes n0 n (outs s m) k

drop-rises : (graph : Graph) (s : Core) → IsLawful graph s → (t n o : ℕ) → allowed graph s (steps.Drop t n o) ≡ true → Rises (inputs_of (node_at graph n)) (progress s n) (progress (apply graph s (steps.Drop t n o)) n)
drop-rises graph s h t n o a = by_drop o found last edge now
  where
    edge : has_node (outs s o) n ≡ true
    edge = drop-edge graph s t n o a

    last : is_in o (last_picks s n) ≡ true
    last = is-last graph s h t n o (drop-heads graph s t n o a) (drop-prior graph s t n o a)

    found : is_found s n ≡ true
    found = drop-found graph s t n o a

    now : has_node (outs (apply graph s (steps.Drop t n o)) o) n ≡ false
    now =
        let e = ensured-length s t o in
        let l = edge-there s o n edge in
        ap (λ (x : Cell). has_node x.outs n) (cell-there (ensure_mark s t o) o (drop_edge n) (omega (arith, l, e))) ∙ ap (λ (os : List OutEdge). has_node (remove_first n os) n) (ensured-edges s t o o) ∙ one-removed n (outs s o) (h.edges_are_kept.once n o)

-- ---- they raise the work

pub discover-works : (graph : Graph) → IsGraph graph → (s : Core) → IsLawful graph s → (t n c : ℕ) → allowed graph s (steps.Discover t n c) ≡ true → SameLast s (apply graph s (steps.Discover t n c)) n → work graph s n + 1 ≤ work graph (apply graph s (steps.Discover t n c)) n
discover-works graph g s h t n c a e = work-rises (inputs_of (node_at graph n)) (progress s n) (progress (apply graph s (steps.Discover t n c)) n) (discovered-further graph s h t n c n a e) (discover-rises graph g s h t n c a)

pub drop-works : (graph : Graph) (s : Core) → IsLawful graph s → (t n o : ℕ) → allowed graph s (steps.Drop t n o) ≡ true → SameLast s (apply graph s (steps.Drop t n o)) n → work graph s n + 1 ≤ work graph (apply graph s (steps.Drop t n o)) n
drop-works graph s h t n o a e = work-rises (inputs_of (node_at graph n)) (progress s n) (progress (apply graph s (steps.Drop t n o)) n) (dropped-further graph s t n o n a e) (drop-rises graph s h t n o a)
