-- The lists of chooses, with one node more.
use Rattle.std.proofs.Common.{◌≡◌, ℕ, ◌+◌, ◌<◌, ◌≤◌, inl, inr, Bool, true, List, [], ◌∷◌, ◌++◌, length, take, get_or, refl, sym, ap, ◌∙◌, arith, add-one}
use Rattle.std.specs.Prelude.{slice_index_or}
use Rattle.std.proofs.lemmas.Bool.{or_cases}
use Rattle.std.proofs.lemmas.List.{append-nil, append_assoc}
use Rattle.std.proofs.Math.Seq.{take-suc}
use Rattle.signal_graph.specs.declared.node.Selector.{Selector}
use Rattle.signal_graph.specs.Graph.{Graph, node_at, is_in, inputs_of, static_outs}
use Rattle.signal_graph.proofs.Members.{in-cases}
use Rattle.signal_graph.proofs.ScriptNames.{in_static_outs}
use Rattle.serial_machine.specs.Marking.{is_marked, AreMore}
use Rattle.serial_machine.specs.Reading.{candidates_of_all, candidates_of, reads, HaveMore, AreChoosers}

-- lists to which a node was added, at each of some nodes
pub record Lists (old new : List (List ℕ)) (node : ℕ) (nodes : List ℕ) : Type 0 where
  pub size : length new ≡ length old
  pub grows : HaveMore old new
  pub there : (m : ℕ) → m < length old → is_in m nodes ≡ true → is_in node (slice_index_or new m []) ≡ true

-- lists that have the chooses before a number
pub record ListsBelow (graph : Graph) (end : ℕ) (lists : List (List ℕ)) : Type 0 where
  pub size : length lists ≡ length graph.nodes
  pub there : (m n : ℕ) → m < length graph.nodes → n < end → is_in m (candidates_of (node_at graph n)) ≡ true → is_in n (slice_index_or lists m []) ≡ true

-- ---- one more

candidates-append : (xs ys : List Selector) → candidates_of_all (xs ++ ys) ≡ candidates_of_all xs ++ candidates_of_all ys
candidates-append [] ys = refl
candidates-append (x ∷ xs) ys = ap (λ ns. x.candidates ++ ns) (candidates-append xs ys) ∙ sym (append_assoc x.candidates (candidates_of_all xs) (candidates_of_all ys))

-- the candidates of one selector more
pub lists_next : (old lists more : List (List ℕ)) (node : ℕ) (selectors : List Selector) (i : ℕ) (d : Selector) (candidates : List ℕ) → i < length selectors → candidates ≡ (get_or selectors i d).candidates
    → length more ≡ length lists → HaveMore lists more → ((m : ℕ) → m < length lists → is_in m candidates ≡ true → is_in node (slice_index_or more m []) ≡ true)
    → Lists old lists node (candidates_of_all (take i selectors)) → Lists old more node (candidates_of_all (take (i + 1) selectors))
lists_next old lists more node selectors i d candidates within is size grows added have =
    let front = candidates_of_all (take i selectors) in
    let all : candidates_of_all (take (i + 1) selectors) ≡ front ++ (candidates ++ []) =
    ap (λ k. candidates_of_all (take k selectors)) (add-one i) ∙ ap candidates_of_all (take-suc selectors i d within) ∙ candidates-append (take i selectors) (get_or selectors i d ∷ [])
    ∙ ap (λ ns. front ++ (ns ++ [])) (sym is) in
    record {
      size = size ∙ have.size;
      grows = λ m n h. grows m n (have.grows m n h);
      there = λ m inside h. elim (in-cases m front (candidates ++ []) (sym (ap (is_in m) all) ∙ h)) [
        | inl earlier ↦ grows m node (have.there m inside earlier)
        | inr here ↦ added m (omega (arith, have.size)) (sym (ap (is_in m) (append-nil candidates)) ∙ here)
      ];
    }

-- ---- whom a node tells

-- where the nodes of both lists are marked, all that read a node are
pub told : (graph : Graph) (choosers : List (List ℕ)) (m : ℕ) (outs listed : List ℕ) (marks more most : List Bool) → AreChoosers graph choosers → m < length graph.nodes → outs ≡ static_outs graph m → listed ≡ slice_index_or choosers m []
    → length marks ≡ length graph.nodes → length more ≡ length marks → ((n : ℕ) → n < length marks → is_in n outs ≡ true → is_marked more n ≡ true) → AreMore more most
    → ((n : ℕ) → n < length more → is_in n listed ≡ true → is_marked most n ≡ true) → (n : ℕ) → n < length graph.nodes → reads (node_at graph n) m ≡ true → is_marked most n ≡ true
told graph choosers m outs listed marks more most are within outs_are listed_are size more_size first grows second n inside h =
    elim (or_cases (is_in m (inputs_of (node_at graph n))) (is_in m (candidates_of (node_at graph n))) h) [
      | inl named ↦ grows n (first n (omega (arith, size)) (ap (is_in n) outs_are ∙ in_static_outs graph m n inside named))
      | inr selected ↦ second n (omega (arith, size, more_size)) (ap (is_in n) listed_are ∙ are.all m n within inside selected)
    ]
