-- A list has room for one out-edge more.
use Rattle.std.proofs.Common.{◌≡◌, ℕ, zero, suc, ◌+◌, ◌<◌, ◌≤◌, ◌⊎◌, inl, inr, true, false, ◌==◌, List, [], ◌∷◌, length, length-append, map, refl, sym, ap, ◌∙◌, subst, arith, true≢false, Option, Some}
use Rattle.std.proofs.lemmas.List.{length-map}
use Rattle.std.proofs.lemmas.Bool.{eqb-true, false_from_ne_true, both_ways, cases_Bool, not-true}
use Rattle.std.specs.Prelude.{slice_index_or}
use Rattle.std.specs.List.{filter}
use Rattle.script_tree.specs.declared.value.Value.{Value}
use Rattle.script_tree.proofs.Truths.{and_left, and_right}
use Rattle.signal_graph.specs.declared.node.Node.{Node}
use Rattle.signal_graph.specs.declared.node.Node.TheVariants.{Source}
use Rattle.signal_graph.specs.Graph.{Graph, node_at, numbers, is_in, selectors_of}
use Rattle.signal_graph.specs.Values.{nodes_in}
use Rattle.signal_graph.proofs.Members.{number-in}
use Rattle.node_versions.specs.declared.entry.Entry.{Entry}
use Rattle.node_versions.specs.Entries.{OutEdge, is_frame, at, state_of, picks_of, first_open, has_out, has_node, with_out}
use Rattle.flow_model.specs.declared.step.Step.TheVariants.{Discover}
use Rattle.flow_model.specs.Machine.State.{Core, Cell, entries, outs}
use Rattle.flow_model.specs.Machine.Words.{is_some_of, heads, is_prior}
use Rattle.flow_model.specs.Machine.Changes.{ensure_mark, add_edge}
use Rattle.flow_model.specs.Machine.Steps.{allowed, apply}
use Rattle.flow_model.specs.Kept.Lawful.{IsLawful, IsRunEdge, IsNewEdge, times, count_edges, lists_candidate}
use Rattle.flow_model.proofs.OneStep.WhoMayStep.{discover-due, at_front-heads}
use Rattle.flow_model.proofs.OneStep.WhoMayStep.{due-can_work}
use Rattle.flow_model.proofs.OneStep.WhoMayStep.{can_work-at_front}
use Rattle.flow_model.proofs.OneList.StatesAndPlaces.{first_open-frame}
use Rattle.flow_model.proofs.Reactions.WhereRunsBegin.{before-last}
use Rattle.flow_model.proofs.Edges.EdgesFitCandidates.{step-EdgesFit}
use Rattle.flow_model.proofs.Lengths.EdgesAreWork.{ensured-length}
use Rattle.flow_model.proofs.General.Counting.{no_longer}
use Rattle.flow_model.proofs.General.AnyAndAll.{some-is, in-filter}
use Rattle.flow_model.proofs.FramesSpread.NewFrames.{some-edge}
use Rattle.flow_state.specs.Fitting.{choosers}
use Rattle.flow_state.proofs.OneCell.{cell-changed}
use Rattle.dynamic_edges.proofs.Cells.{marked-outs}

-- ---- the node has no out-edge at a candidate that it discovers

discover-heads : (graph : Graph) (s : Core) (t n m : ℕ) → allowed graph s (Discover t n m) ≡ true → heads s t n ≡ true
discover-heads graph s t n m h = at_front-heads graph s t n (can_work-at_front graph s t n (due-can_work graph s t n (discover-due graph s t n m h)))

discover-new : (graph : Graph) (s : Core) (t n m : ℕ) → allowed graph s (Discover t n m) ≡ true → is_prior s t n m ≡ false
discover-new graph s t n m h = not-true _ (and_right _ _ (and_left _ _ (and_left _ _ h)))

pub discover-no_edge : (graph : Graph) (s : Core) (t n m : ℕ) → allowed graph s (Discover t n m) ≡ true → has_out (outs s m) n t ≡ false
discover-no_edge graph s t n m h = not-true _ (and_right _ _ (and_left _ _ h))

no-node : (graph : Graph) (s : Core) (t n m : ℕ) → IsLawful graph s → allowed graph s (Discover t n m) ≡ true → has_node (outs s m) n ≡ false
no-node graph s t n m lawful h = false_from_ne_true _ (λ there. let x = some-edge (outs s m) n there in go x.0 x.1 (lawful.edges_are_kept.stands n m x.0 x.1))
  where
    first : first_open (entries s n) ≡ Some t
    first = some-is _ t (discover-heads graph s t n m h)

    frame : at is_frame (entries s n) t ≡ true
    frame = first_open-frame (entries s n) t (lawful.one_entry n) first

    go : (since : ℕ) → has_out (outs s m) n since ≡ true → IsRunEdge s n m since ⊎ IsNewEdge s n m since → ⊥
    go since out (inl run) =
        let last = before-last (entries s n) t (lawful.one_entry n) frame (λ v b. lawful.frames_are_open.behind_dones n t v b frame) in
        both_ways _ (discover-new graph s t n m h) (ap (λ (o : Option Entry). is_in m (nodes_in (picks_of (state_of o)))) last ∙ run.picked)
    go since out (inr new) =
        let same = eqb-true t since (sym (ap (λ (o : Option ℕ). is_some_of o since) first) ∙ new.first_open) in
        both_ways _ (discover-no_edge graph s t n m h) (subst (λ (w : ℕ). has_out (outs s m) n w ≡ true) (sym same) out)

-- ---- the nodes of out-edges are different

abbrev edge_nodes : List OutEdge → List ℕ
edge_nodes edges = map (λ (edge : OutEdge). edge.0) edges

count-times : (k : ℕ) (edges : List OutEdge) → times k (edge_nodes edges) ≡ count_edges k edges
count-times k [] = refl
count-times k (edge ∷ edges) = let r = count-times k edges in grind (arith, r)

count-other : (k n t : ℕ) (edges : List OutEdge) → (n == k) ≡ false → count_edges k (with_out edges n t) ≡ count_edges k edges
count-other k n t [] h = grind (arith, h)
count-other k n t (edge ∷ edges) h = let r = count-other k n t edges h in grind (arith, r)

count-it : (k n t : ℕ) (edges : List OutEdge) → (n == k) ≡ true → has_node edges k ≡ false → count_edges k (with_out edges n t) ≡ 1
count-it k n t [] h away = grind (arith, h)
count-it k n t (edge ∷ edges) h away = let r = count-it k n t edges h in grind (arith, r, away)

different : (n t : ℕ) (edges : List OutEdge) → ((k : ℕ) → count_edges k edges ≤ 1) → has_node edges n ≡ false → (k : ℕ) → times k (edge_nodes (with_out edges n t)) ≤ 1
different n t edges once away k = go (cases_Bool (n == k))
  where
    is : times k (edge_nodes (with_out edges n t)) ≡ count_edges k (with_out edges n t)
    is = count-times k (with_out edges n t)

    go : ((n == k) ≡ true) ⊎ ((n == k) ≡ false) → times k (edge_nodes (with_out edges n t)) ≤ 1
    go (inl e) = let c = count-it k n t edges e (sym (ap (has_node edges) (eqb-true n k e)) ∙ away) in let i = is in omega (arith, i, c)
    go (inr e) = let c = count-other k n t edges e in let i = is in let o = once k in omega (arith, i, c, o)

-- ---- they list the candidate

in-nodes : (edges : List OutEdge) (x : ℕ) → is_in x (edge_nodes edges) ≡ has_node edges x
in-nodes [] x = refl
in-nodes (edge ∷ edges) x = let r = in-nodes edges x in grind (arith, r)

listed-inside : (m : ℕ) (v : Value) (nodes : List Node) (x : ℕ) → lists_candidate m (selectors_of (slice_index_or nodes x (Source v))) ≡ true → x < length nodes
listed-inside m v [] x h = absurd (true≢false (sym h))
listed-inside m v (node ∷ nodes) zero h = omega arith
listed-inside m v (node ∷ nodes) (suc x) h = let r = listed-inside m v nodes x h in omega (arith, r)

is-chooser : (graph : Graph) (m x : ℕ) → lists_candidate m (selectors_of (node_at graph x)) ≡ true → is_in x (filter (λ n. lists_candidate m (selectors_of (node_at graph n))) (numbers graph)) ≡ true
is-chooser graph m x h =
    let zero_more : 0 + x ≡ x = omega arith in
    let number = subst (λ (k : ℕ). is_in k (numbers graph) ≡ true) zero_more (number-in 0 graph.nodes x (listed-inside m _ graph.nodes x h)) in
    in-filter (λ n. lists_candidate m (selectors_of (node_at graph n))) (numbers graph) x number h

-- ---- the room

discovered-outs : (graph : Graph) (s : Core) (t n m : ℕ) → m < length s.cells → outs (apply graph s (Discover t n m)) m ≡ with_out (outs s m) n t
discovered-outs graph s t n m h =
    let count = ensured-length s t m in
    ap (λ (c : Cell). c.outs) (cell-changed m (add_edge n t) (ensure_mark s t m).cells (omega (arith, count, h))) ∙ ap (λ (edges : List OutEdge). with_out edges n t) (marked-outs s t m h)

pub edge-room : (graph : Graph) (s : Core) (t n m : ℕ) → IsLawful graph s → allowed graph s (Discover t n m) ≡ true → m < length s.cells → length (outs s m) < choosers graph m
edge-room graph s t n m lawful h inside =
    let edges = with_out (outs s m) n t in
    let fit = step-EdgesFit graph s (Discover t n m) lawful h in
    let listed = λ (x : ℕ) (k : is_in x (edge_nodes edges) ≡ true).
    let edge = some-edge edges x (sym (in-nodes edges x) ∙ k) in
    is-chooser graph m x (fit.candidate x m edge.0 (subst (λ (os : List OutEdge). has_out os x edge.0 ≡ true) (sym (discovered-outs graph s t n m inside)) edge.1)) in
    let all = no_longer (edge_nodes edges) _ (different n t (outs s m) (λ k. lawful.edges_are_kept.once k m) (no-node graph s t n m lawful h)) listed in
    let count = length-map edges (λ (edge : OutEdge). edge.0) in
    let more = length-append (outs s m) ((n, t) ∷ []) in
    omega (arith, all, count, more)
