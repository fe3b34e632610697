-- The amount of work at a node is at most 78, and less than the node's list is worth.
use Rattle.std.proofs.Common.{◌≡◌, ℕ, zero, suc, ◌+◌, ◌≤◌, ◌<◌, true, ◌⊎◌, inl, inr, refl, sym, ap, arith, List, [], ◌∷◌, length, map, true≢false, ◌∙◌, subst, Option, Some, None, slice_index_or}
use Rattle.std.proofs.lemmas.List.{length-map}
use Rattle.std.specs.Prelude.{is_some}
use Rattle.std.specs.List.{AllZip}
use Rattle.script_tree.specs.declared.limits.TheConstants.{SELECTORS}
use Rattle.script_tree.specs.declared.value.Value.{Value}
use Rattle.script_tree.specs.declared.value.Value.TheVariants.{Fault as Faulty}
use Rattle.script_tree.specs.declared.value.Fault.TheVariants.{Kind}
use Rattle.signal_graph.specs.declared.node.Selector.{Selector}
use Rattle.signal_graph.specs.declared.node.Node.{Node}
use Rattle.signal_graph.specs.declared.node.Node.TheVariants.{Source, Signal, Fold, Choose}
use Rattle.signal_graph.specs.Graph.{Graph, IsGraph, IsNode, node_at, is_in, inputs_of, selectors_of}
use Rattle.signal_graph.specs.Values.{nodes_in, taken, select}
use Rattle.signal_graph.proofs.Members.{nodes_in-length}
use Rattle.node_versions.specs.declared.entry.Entry.{Entry}
use Rattle.node_versions.specs.Entries.{has, is_done, last_done, state_of, picks_of, picks_at}
use Rattle.node_versions.proofs.Collecting.{last_is_done}
use Rattle.node_versions.proofs.Places.{at-has}
use Rattle.flow_model.specs.Machine.State.{Core, Found, cell, entries}
use Rattle.flow_model.specs.Machine.Words.{picks_of_found, finds, run_over}
use Rattle.flow_model.proofs.Lengths.FewInputs.{HasFewInputs}
use Rattle.flow_model.specs.Kept.Lawful.{IsLawful, IsPickOf, SomeHead, IsWorking}
use Rattle.flow_model.proofs.OneStep.WhoMayStep.{opens-live}
use Rattle.flow_model.proofs.Opening.OpeningLists.{nodes-at}
use Rattle.flow_model.proofs.OneList.OneEntryACall.{last_done-at}
use Rattle.flow_model.proofs.Wants.EarlierNodes.{own-done}
use Rattle.flow_model.proofs.Wants.FramedWith.{opens-frame, heads-opens}
use Rattle.flow_model.proofs.OneStep.VersionsStayFresh.{live-in}
use Rattle.flow_model.proofs.General.Sums.{total, total-falls, bit-one, count, count-length, Passes, count-some}
use Rattle.flow_model.proofs.Lengths.ListWorth.{list_worth, live_versions, weight, frame-weight}
use Rattle.flow_model.proofs.Lengths.WorkDone.{Progress, last_picks, candidates, progress, work, found_work, is_added, is_taken}

-- ---- how many picks there are

few-selectors : (graph : Graph) → IsGraph graph → (n : ℕ) → length (selectors_of (node_at graph n)) ≤ SELECTORS
few-selectors graph g n = go (below_or_not n (length graph.nodes))
  where
    below_or_not : (n k : ℕ) → (n < k) ⊎ (k ≤ n)
    below_or_not n zero = inr (omega arith)
    below_or_not zero (suc k) = inl (omega arith)
    below_or_not (suc n) (suc k) = next (below_or_not n k)
      where
        next : (n < k) ⊎ (k ≤ n) → (suc n < suc k) ⊎ (suc k ≤ suc n)
        next (inl h) = inl (omega arith)
        next (inr h) = inr (omega arith)

    past : (nodes : List Node) (n : ℕ) → length nodes ≤ n → slice_index_or nodes n (Source (Faulty Kind)) ≡ Source (Faulty Kind)
    past [] n h = refl
    past (x ∷ xs) zero h = absurd (omega arith)
    past (x ∷ xs) (suc n) h = past xs n (omega arith)

    few : (names : List (List ℕ)) (k : ℕ) (node : Node) → IsNode names k node → length (selectors_of node) ≤ SELECTORS
    few names k (Source v) h = omega arith
    few names k (Signal script inputs) h = omega arith
    few names k (Fold v script inputs) h = omega arith
    few names k (Choose selectors body inputs) h = h.1

    go : (n < length graph.nodes) ⊎ (length graph.nodes ≤ n) → length (selectors_of (node_at graph n)) ≤ SELECTORS
    go (inl h) = few graph.names (0 + n) (node_at graph n) (nodes-at graph.names 0 graph.nodes n _ g.nodes h)
    go (inr h) = subst (λ (x : Node). length (selectors_of x) ≤ SELECTORS) (sym (past graph.nodes n h)) (omega arith)

-- what a node finds has at most one pick per selector
pub found-length : (node : Node) (read : ℕ → Value) (acc : Value) → length (picks_of_found (Some (finds node read acc))) ≤ length (selectors_of node)
found-length (Source v) read acc = omega arith
found-length (Signal script inputs) read acc = omega arith
found-length (Fold v script inputs) read acc = omega arith
found-length (Choose selectors body inputs) read acc =
    let f = λ (selector : Selector). select (run_over selector.script selector.inputs read (Faulty Kind)) selector.candidates in
    let a = length-map (map f selectors) taken in
    let b = length-map selectors f in
    omega (arith, a, b)

few-candidates : (graph : Graph) → IsGraph graph → (s : Core) → IsLawful graph s → (n : ℕ) → length (candidates (cell s n).found) ≤ SELECTORS
few-candidates graph g s h n = go (cell s n).found refl
  where
    go : (o : Option Found) → (cell s n).found ≡ o → length (candidates o) ≤ SELECTORS
    go None e = omega arith
    go (Some f) e =
        let t = h.work_is_kept.finds n (ap is_some e) in
        let same = h.values_are_read.found t.head n f t.first e in
        let a = nodes_in-length (picks_of_found (Some f)) in
        let b = subst (λ (x : Found). length (picks_of_found (Some x)) ≤ length (selectors_of (node_at graph n))) (sym same) (found-length (node_at graph n) _ _) in
        let c = few-selectors graph g n in
        omega (arith, a, b, c)

zip-length : (selectors : List Selector) (ps : List (Option ℕ)) → AllZip IsPickOf selectors ps → length ps ≤ length selectors
zip-length [] [] h = omega arith
zip-length [] (p ∷ ps) h = absurd h
zip-length (x ∷ xs) [] h = omega arith
zip-length (x ∷ xs) (p ∷ ps) h = let r = zip-length xs ps h.1 in omega (arith, r)

few-picks : (graph : Graph) → IsGraph graph → (s : Core) → IsLawful graph s → (n : ℕ) → length (last_picks s n) ≤ SELECTORS
few-picks graph g s h n = go (last_done (entries s n)) refl
  where
    go : (o : Option Entry) → last_done (entries s n) ≡ o → length (nodes_in (picks_of (state_of o))) ≤ SELECTORS
    go None e = omega arith
    go (Some x) e =
        let d = last_done-at is_done (entries s n) x (h.one_entry n) e ∙ last_is_done (entries s n) x e in
        let own : picks_at (entries s n) x.version ≡ picks_of x.state = ap (λ (o : Option Entry). picks_of (state_of o)) (own-done (entries s n) x (h.one_entry n) e) in
        let z = zip-length (selectors_of (node_at graph n)) (picks_of x.state) (subst (AllZip IsPickOf (selectors_of (node_at graph n))) own (h.picks_fit x.version n d)) in
        let a = nodes_in-length (picks_of x.state) in
        let c = few-selectors graph g n in
        omega (arith, a, z, c)

-- ---- the bound

pub work-bound : (graph : Graph) → IsGraph graph → HasFewInputs graph → (s : Core) → IsLawful graph s → (n : ℕ) → work graph s n ≤ 78
work-bound graph g few s h n = whole (cell s n).found refl
  where
    p : Progress
    p = progress s n

    inputs : count p.gathered (inputs_of (node_at graph n)) ≤ 64
    inputs = let a = count-length p.gathered (inputs_of (node_at graph n)) in let b : length (inputs_of (node_at graph n)) ≤ 64 = few n in omega (arith, a, b)

    whole : (o : Option Found) → (cell s n).found ≡ o → count p.gathered (inputs_of (node_at graph n)) + found_work (cell s n).found p ≤ 78
    whole None e = let a = ap (λ (o : Option Found). found_work o p) e in let i = inputs in omega (arith, a, i)
    whole (Some f) e =
        let a = ap (λ (o : Option Found). found_work o p) e in
        let i = inputs in
        let c : length (candidates (cell s n).found) ≤ 4 = few-candidates graph g s h n in
        let c2 : length (candidates (Some f)) ≤ 4 = subst (λ (o : Option Found). length (candidates o) ≤ 4) e c in
        let l : length p.last ≤ 4 = few-picks graph g s h n in
        let x = count-length p.gathered (candidates (Some f)) in
        let y = bit-one p.body in
        let z = count-length (is_added p) (candidates (Some f)) in
        let u = count-length (is_taken p) p.last in
        omega (arith, a, i, c2, l, x, y, z, u)

-- ---- work has a Frame

working : (graph : Graph) (s : Core) → IsLawful graph s → (n : ℕ) → (work graph s n ≡ 0) ⊎ SomeHead s n (IsWorking graph s n)
working graph s h n = go (cell s n).found refl (count-some p.gathered (inputs_of (node_at graph n)))
  where
    p : Progress
    p = progress s n

    go : (o : Option Found) → (cell s n).found ≡ o → (count p.gathered (inputs_of (node_at graph n)) ≡ 0) ⊎ Passes p.gathered (inputs_of (node_at graph n)) → (work graph s n ≡ 0) ⊎ SomeHead s n (IsWorking graph s n)
    go (Some f) e k = inr (h.work_is_kept.finds n (ap is_some e))
    go None e (inr k) = inr (h.work_is_kept.gathers n k.item k.passes)
    go None e (inl k) = inl (let a = ap (λ (o : Option Found). found_work o p) e in omega (arith, a, k))

some-entry : (es : List Entry) (u : ℕ) → has es u ≡ true → 1 ≤ length es
some-entry [] u h = absurd (true≢false (sym h))
some-entry (e ∷ es) u h = omega arith

total-item : (f : ℕ → ℕ) (u : ℕ) (xs : List ℕ) → is_in u xs ≡ true → f u ≤ total f xs
total-item f u xs i = let r = total-falls (λ (x : ℕ). 0) f (f u) u xs i (λ x j. omega arith) (omega arith) in omega (arith, r)

-- A node's list is worth more than the work that is done there.
pub work-worth : (graph : Graph) (k : ℕ) (s : Core) → IsLawful graph s → (n : ℕ) → n < length s.cells → work graph s n ≤ k → work graph s n + 1 ≤ list_worth k (live_versions s) (entries s n)
work-worth graph k s h n l b = go (working graph s h n)
  where
    some : 1 ≤ length (entries s n)
    some = let d = h.ended_is_prefix.done n l in some-entry (entries s n) d.0 (at-has is_done (entries s n) d.0 d.2)

    go : (work graph s n ≡ 0) ⊎ SomeHead s n (IsWorking graph s n) → work graph s n + 1 ≤ list_worth k (live_versions s) (entries s n)
    go (inl e) = let a = some in omega (arith, a, e)
    go (inr t) =
        let o = heads-opens graph s h t.head n t.first in
        let w = frame-weight k (entries s n) t.head (opens-frame graph s h t.head n o) in
        let i = total-item (weight k (entries s n)) t.head (live_versions s) (live-in s.calls t.head (opens-live s t.head n o)) in
        let a = some in
        omega (arith, a, w, i, b)
