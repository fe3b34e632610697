-- The folds' steps one after the other, each over the whole state, are the one pass.
use Rattle.std.proofs.Common.{◌≡◌, ℕ, zero, suc, ◌+◌, ◌<◌, ◌≤◌, Bool, true, false, List, [], ◌∷◌, ◌++◌, length, Option, Some, None, refl, sym, ap, ◌∙◌, subst, arith, length-append, get_or-set_same, get_or-set_other, length-set}
use Rattle.std.specs.Prelude.{map, not, ◌||◌, ◌&&◌, ◌==◌, if◌then◌else◌, slice_set, slice_index_or}
use Rattle.std.specs.List.{AllByRecursion, list_any}
use Rattle.std.proofs.lemmas.Bool.Decides.{eqb_tells}
use Rattle.script_tree.specs.declared.value.Fault.TheVariants.{NoChoice, Kind}
use Rattle.script_tree.specs.declared.value.Value.{Value}
use Rattle.script_tree.specs.declared.value.Value.TheVariants.{Fault as Faulty}
use Rattle.script_tree.specs.Scripts.{Scripted}
use Rattle.script_tree.specs.Eval.{eval_script}
use Rattle.signal_graph.specs.declared.node.Node.{Node}
use Rattle.signal_graph.specs.declared.node.Node.TheVariants.{Source, Signal, Fold, Choose}
use Rattle.signal_graph.specs.declared.call.Call.{Call}
use Rattle.signal_graph.specs.declared.call.Call.TheVariants.{Fire, Read}
use Rattle.signal_graph.specs.Graph.{Graph, node_at, number_of, is_source, IsNode, AreNodes, IsGraph}
use Rattle.signal_graph.specs.Values.{Values, at, run, node_value, values_from, values}
use Rattle.signal_graph.specs.Machine.{differs, same, with_sets, fold_step, fold_steps, names_source, names_node, names_right, first_wrong, misnamed, after}
use Rattle.signal_graph.specs.OnePass.{new_value, new_from, after_call}
use Rattle.signal_graph.proofs.Values.{values_stay, values_are, length-values, same_inputs}
use Rattle.signal_graph.proofs.OnePassLaws.{length-new_from, new_values_from}

-- the sets leave the folds alone
abbrev pub KeepsFolds : ℕ → List Node → Values → Values → Type 0
KeepsFolds n [] set before = Unit {0}
KeepsFolds n (Fold start script inputs ∷ rest) set before = (at set n ≡ at before n) × KeepsFolds (n + 1) rest set before
KeepsFolds n (node ∷ rest) set before = KeepsFolds (n + 1) rest set before

-- two states have the same value at each source
abbrev pub SameSources : ℕ → List Node → Values → Values → Type 0
SameSources n [] a b = Unit {0}
SameSources n (Source start ∷ rest) a b = (at a n ≡ at b n) × SameSources (n + 1) rest a b
SameSources n (node ∷ rest) a b = SameSources (n + 1) rest a b

-- what one node's step leaves
record Stepped (kept next : Values) (n : ℕ) (node : Node) (earlier : Values) (v : Value) : Type 0 where
  here : node_value node (at next n) earlier ≡ v
  others : (m : ℕ) → (m ≡ n → ⊥) → at next m ≡ at kept m
  long : length next ≡ length kept

pub same_any : (n : ℕ) (before a b : Values) → ((m : ℕ) → m < n → at a m ≡ at b m) → (xs : List ℕ) → AllByRecursion (λ m. m < n) xs → list_any (differs before a) xs ≡ list_any (differs before b) xs
same_any n before a b e [] h = refl
same_any n before a b e (x ∷ xs) h = ap (λ v. not (same (at before x) v) || list_any (differs before a) xs) (e x h.0) ∙ ap (λ t. differs before b x || t) (same_any n before a b e xs h.1)

fold_stepped : (graph : Graph) (before kept earlier : Values) (n : ℕ) (start : Value) (script : Scripted) (inputs : List ℕ) → AllByRecursion (λ m. m < n) inputs → ((m : ℕ) → m < n → at (values graph kept) m ≡ at earlier m) → at kept n ≡ at before n → n < length kept → Stepped kept (fold_step graph before kept n (Fold start script inputs)) n (Fold start script inputs) earlier (new_value (Fold start script inputs) (at before n) (at before n) before earlier)
fold_stepped graph before kept earlier n start script inputs names agree old within =
    let now = values graph kept in
    let test = list_any (differs before now) inputs in
    let next = if test then slice_set kept n (run script inputs now (at before n)) else kept in
    subst (λ v. Stepped kept next n (Fold start script inputs) earlier v)
    (ap (λ t. if t then run script inputs now (at before n) else at before n) (same_any n before now earlier agree inputs names)
    ∙ ap (λ vs. if list_any (differs before earlier) inputs then eval_script script.tree vs (at before n) else at before n) (same_inputs n now earlier agree inputs names))
    (cases (run script inputs now (at before n)) test)
  where
    cases : (r : Value) (t : Bool) → Stepped kept (if t then slice_set kept n r else kept) n (Fold start script inputs) earlier (if t then r else at before n)
    cases r true = record {
      here = get_or-set_same kept n r (Faulty NoChoice) within;
      others = λ m ne. get_or-set_other kept n m r (Faulty NoChoice) ne;
      long = length-set kept n r;
    }
    cases r false = record { here = old; others = λ m ne. refl; long = refl }

stays : (kept earlier : Values) (n : ℕ) (node : Node) (v : Value) → node_value node (at kept n) earlier ≡ v → Stepped kept kept n node earlier v
stays kept earlier n node v e = record { here = e; others = λ m ne. refl; long = refl }

-- one node of the literal form
node_stepped : (graph : Graph) (set before kept earlier : Values) (node : Node) (n : ℕ) (rest : List Node) → AreNodes graph.names n (node ∷ rest) → KeepsFolds n (node ∷ rest) set before → ((m : ℕ) → m < n → at (values graph kept) m ≡ at earlier m) → at kept n ≡ at set n → n < length kept → Stepped kept (fold_step graph before kept n node) n node earlier (new_value node (at set n) (at before n) before earlier)
node_stepped graph set before kept earlier (Source start) n rest nodes_are folds agree same_set within = stays kept earlier n (Source start) (at set n) same_set
node_stepped graph set before kept earlier (Signal script inputs) n rest nodes_are folds agree same_set within = stays kept earlier n (Signal script inputs) _ refl
node_stepped graph set before kept earlier (Fold start script inputs) n rest nodes_are folds agree same_set within =
    fold_stepped graph before kept earlier n start script inputs nodes_are.0.3 agree (same_set ∙ folds.0) within
node_stepped graph set before kept earlier (Choose selectors body inputs) n rest nodes_are folds agree same_set within = stays kept earlier n (Choose selectors body inputs) _ refl

folds_after : (node : Node) (n : ℕ) (rest : List Node) (set before : Values) → KeepsFolds n (node ∷ rest) set before → KeepsFolds (n + 1) rest set before
folds_after (Source start) n rest set before h = h
folds_after (Signal script inputs) n rest set before h = h
folds_after (Fold start script inputs) n rest set before h = h.1
folds_after (Choose selectors body inputs) n rest set before h = h

pub literal_from : (rest : List Node) (graph : Graph) (earlier kept set before : Values) (n : ℕ) → n ≡ length earlier → n + length rest ≤ length kept → AreNodes graph.names n rest → KeepsFolds n rest set before → ((k : ℕ) → n ≤ k → at kept k ≡ at set k) → ((s : Values) → ((m : ℕ) → m < n → at s m ≡ at kept m) → values graph s ≡ values_from earlier rest s) → values graph (fold_steps graph before kept n rest) ≡ new_from before set earlier rest
literal_from [] graph earlier kept set before n here long nodes_are folds agree prefix = prefix kept (λ m h. refl)
literal_from (node ∷ rest) graph earlier kept set before n here long nodes_are folds agree prefix =
    let v = new_value node (at set n) (at before n) before earlier in
    let next = fold_step graph before kept n node in
    let within : n < length kept = omega arith in
    let now = λ (m : ℕ) (h : m < n). (ap (λ l. at l m) (prefix kept (λ m h. refl)) ∙ values_stay (node ∷ rest) earlier kept m (omega arith)) in
    let st = node_stepped graph set before kept earlier node n rest nodes_are folds now (agree n (omega arith)) within in
    let long_next = st.long in
    literal_from rest graph (earlier ++ v ∷ []) next set before (n + 1)
    (omega (arith, length-append earlier (v ∷ [])))
    (omega (arith, long_next))
    nodes_are.1
    (folds_after node n rest set before folds)
    (λ k h. st.others k (λ e. omega arith) ∙ agree k (omega arith))
    (λ s same. prefix s (λ m h. same m (omega arith) ∙ st.others m (λ e. omega arith))
    ∙ ap (λ i. values_from (earlier ++ node_value node (at s i) earlier ∷ []) rest s) (sym here)
    ∙ ap (λ u. values_from (earlier ++ node_value node u earlier ∷ []) rest s) (same n (omega arith))
    ∙ ap (λ u. values_from (earlier ++ u ∷ []) rest s) st.here)
    ∙ ap (λ i. new_from before set (earlier ++ new_value node (at set i) (at before i) before earlier ∷ []) rest) here

-- the folds' steps one after the other give the values of the one pass
pub folds_literal : (graph : Graph) (set before : Values) → length graph.nodes ≤ length set → AreNodes graph.names 0 graph.nodes → KeepsFolds 0 graph.nodes set before → values graph (fold_steps graph before set 0 graph.nodes) ≡ new_from before set [] graph.nodes
folds_literal graph set before long nodes_are folds = literal_from graph.nodes graph [] set set before 0 refl (omega arith) nodes_are folds (λ k h. refl) (λ s h. refl)

-- of what is set the pass reads the sources alone
new_node_same : (node : Node) (n : ℕ) (rest : List Node) (a b : Values) (old : Value) (before earlier : Values) → SameSources n (node ∷ rest) a b → new_value node (at a n) old before earlier ≡ new_value node (at b n) old before earlier
new_node_same (Source start) n rest a b old before earlier h = h.0
new_node_same (Signal script inputs) n rest a b old before earlier h = refl
new_node_same (Fold start script inputs) n rest a b old before earlier h = refl
new_node_same (Choose selectors body inputs) n rest a b old before earlier h = refl

sources_after : (node : Node) (n : ℕ) (rest : List Node) (a b : Values) → SameSources n (node ∷ rest) a b → SameSources (n + 1) rest a b
sources_after (Source start) n rest a b h = h.1
sources_after (Signal script inputs) n rest a b h = h
sources_after (Fold start script inputs) n rest a b h = h
sources_after (Choose selectors body inputs) n rest a b h = h

new_same : (nodes : List Node) (before a b earlier : Values) → SameSources (length earlier) nodes a b → new_from before a earlier nodes ≡ new_from before b earlier nodes
new_same [] before a b earlier h = refl
new_same (node ∷ rest) before a b earlier h =
    let v = new_value node (at b (length earlier)) (at before (length earlier)) before earlier in
    let len : length earlier + 1 ≡ length (earlier ++ v ∷ []) = omega (arith, length-append earlier (v ∷ [])) in
    ap (λ u. new_from before a (earlier ++ u ∷ []) rest) (new_node_same node (length earlier) rest a b (at before (length earlier)) before earlier h)
    ∙ new_same rest before a b (earlier ++ v ∷ []) (subst (λ n. SameSources n rest a b) len (sources_after node (length earlier) rest a b h))

-- a name that names a source names a node that is one
source_there : (graph : Graph) (name : List ℕ) → names_source graph name ≡ true → is_source (node_at graph (number_of graph name)) ≡ true
source_there graph name h = both (names_node graph name) (is_source (node_at graph (number_of graph name))) h
  where
    both : (a b : Bool) → (a && b) ≡ true → b ≡ true
    both true b e = e
    both false b e = absurd (cc)

-- all sets name sources
abbrev pub NameSources : Graph → List (List ℕ × Value) → Type 0
NameSources graph sets = AllByRecursion (λ (s : List ℕ × Value). names_source graph s.0 ≡ true) sets

-- the sets leave each node that is no source as it was
sets_keep : (graph : Graph) (kept : Values) (sets : List (List ℕ × Value)) (n : ℕ) → NameSources graph sets → is_source (node_at graph n) ≡ false → at (with_sets graph kept sets) n ≡ at kept n
sets_keep graph kept [] n h other = refl
sets_keep graph kept (s ∷ sets) n h other =
    sets_keep graph (slice_set kept (number_of graph s.0) s.1) sets n h.1 other
    ∙ get_or-set_other kept (number_of graph s.0) n s.1 (Faulty NoChoice) (λ e. apart (sym (ap (λ i. is_source (node_at graph i)) e) ∙ other) (source_there graph s.0 h.0))
  where
    apart : is_source (node_at graph (number_of graph s.0)) ≡ false → is_source (node_at graph (number_of graph s.0)) ≡ true → ⊥
    apart e f = cc

pub length-with_sets : (graph : Graph) (kept : Values) (sets : List (List ℕ × Value)) → length (with_sets graph kept sets) ≡ length kept
length-with_sets graph kept [] = refl
length-with_sets graph kept (s ∷ sets) = length-with_sets graph (slice_set kept (number_of graph s.0) s.1) sets ∙ length-set kept (number_of graph s.0) s.1

set_agrees : (a b : Values) (k n : ℕ) (v : Value) → length a ≡ length b → n < length a → at a n ≡ at b n → at (slice_set a k v) n ≡ at (slice_set b k v) n
set_agrees a b k n v long within e = cases (n == k) refl
  where
    cases : (t : Bool) → (n == k) ≡ t → at (slice_set a k v) n ≡ at (slice_set b k v) n
    cases true here =
        let e : k ≡ n = grind (arith, eqb_tells, here) in
        subst (λ i. at (slice_set a i v) n ≡ at (slice_set b i v) n) (sym e)
        (get_or-set_same a n v (Faulty NoChoice) within ∙ sym (get_or-set_same b n v (Faulty NoChoice) (omega arith)))
    cases false there =
        let ne : n ≡ k → ⊥ = λ i. grind (arith, eqb_tells, there) in
        get_or-set_other a k n v (Faulty NoChoice) ne ∙ e ∙ sym (get_or-set_other b k n v (Faulty NoChoice) ne)

-- two states that agree at a node agree there after the same sets
pub sets_agree : (graph : Graph) (a b : Values) (sets : List (List ℕ × Value)) (n : ℕ) → length a ≡ length b → n < length a → at a n ≡ at b n → at (with_sets graph a sets) n ≡ at (with_sets graph b sets) n
sets_agree graph a b [] n long within e = e
sets_agree graph a b (s ∷ sets) n long within e =
    let k = number_of graph s.0 in
    sets_agree graph (slice_set a k s.1) (slice_set b k s.1) sets n
    (length-set a k s.1 ∙ long ∙ sym (length-set b k s.1))
    (omega (arith, length-set a k s.1))
    (set_agrees a b k n s.1 long within e)

-- the nodes of a graph from a number on
abbrev There : Graph → ℕ → List Node → Type 0
There graph n rest = (k : ℕ) → k < length rest → node_at graph (n + k) ≡ slice_index_or rest k (Source (Faulty Kind))

there_first : (graph : Graph) (n : ℕ) (node : Node) (rest : List Node) → There graph n (node ∷ rest) → node_at graph n ≡ node
there_first graph n node rest there = let e : n ≡ n + 0 = omega arith in ap (node_at graph) e ∙ there 0 (omega arith)

there_rest : (graph : Graph) (n : ℕ) (node : Node) (rest : List Node) → There graph n (node ∷ rest) → There graph (n + 1) rest
there_rest graph n node rest there k h = let e : n + 1 + k ≡ n + suc k = omega arith in ap (node_at graph) e ∙ there (suc k) (omega arith)

kept_at : (graph : Graph) (kept : Values) (n : ℕ) (node : Node) → AreNodes graph.names 0 graph.nodes → n < length graph.nodes → node_at graph n ≡ node → at (values graph kept) n ≡ node_value node (at kept n) (values graph kept)
kept_at graph kept n node nodes_are within e = values_are graph kept n nodes_are within ∙ ap (λ x. node_value x (at kept n) (values graph kept)) e

folds_kept : (graph : Graph) (kept : Values) (sets : List (List ℕ × Value)) → AreNodes graph.names 0 graph.nodes → NameSources graph sets → (rest : List Node) (n : ℕ) → There graph n rest → n + length rest ≤ length graph.nodes → KeepsFolds n rest (with_sets graph kept sets) (values graph kept)
folds_kept graph kept sets nodes_are named [] n there long = tt
folds_kept graph kept sets nodes_are named (Source start ∷ rest) n there long =
    folds_kept graph kept sets nodes_are named rest (n + 1) (there_rest graph n (Source start) rest there) (omega arith)
folds_kept graph kept sets nodes_are named (Signal script inputs ∷ rest) n there long =
    folds_kept graph kept sets nodes_are named rest (n + 1) (there_rest graph n (Signal script inputs) rest there) (omega arith)
folds_kept graph kept sets nodes_are named (Fold start script inputs ∷ rest) n there long =
    let here = there_first graph n (Fold start script inputs) rest there in (
      sets_keep graph kept sets n named (ap is_source here) ∙ sym (kept_at graph kept n (Fold start script inputs) nodes_are (omega arith) here),
      folds_kept graph kept sets nodes_are named rest (n + 1) (there_rest graph n (Fold start script inputs) rest there) (omega arith),
    )
folds_kept graph kept sets nodes_are named (Choose selectors body inputs ∷ rest) n there long =
    folds_kept graph kept sets nodes_are named rest (n + 1) (there_rest graph n (Choose selectors body inputs) rest there) (omega arith)

sources_same : (graph : Graph) (kept : Values) (sets : List (List ℕ × Value)) → AreNodes graph.names 0 graph.nodes → length kept ≡ length graph.nodes → (rest : List Node) (n : ℕ) → There graph n rest → n + length rest ≤ length graph.nodes → SameSources n rest (with_sets graph kept sets) (with_sets graph (values graph kept) sets)
sources_same graph kept sets nodes_are fits [] n there long = tt
sources_same graph kept sets nodes_are fits (Source start ∷ rest) n there long =
    let here = there_first graph n (Source start) rest there in (
      sets_agree graph kept (values graph kept) sets n (fits ∙ sym (length-values graph kept)) (omega arith) (sym (kept_at graph kept n (Source start) nodes_are (omega arith) here)),
      sources_same graph kept sets nodes_are fits rest (n + 1) (there_rest graph n (Source start) rest there) (omega arith),
    )
sources_same graph kept sets nodes_are fits (Signal script inputs ∷ rest) n there long =
    sources_same graph kept sets nodes_are fits rest (n + 1) (there_rest graph n (Signal script inputs) rest there) (omega arith)
sources_same graph kept sets nodes_are fits (Fold start script inputs ∷ rest) n there long =
    sources_same graph kept sets nodes_are fits rest (n + 1) (there_rest graph n (Fold start script inputs) rest there) (omega arith)
sources_same graph kept sets nodes_are fits (Choose selectors body inputs ∷ rest) n there long =
    sources_same graph kept sets nodes_are fits rest (n + 1) (there_rest graph n (Choose selectors body inputs) rest there) (omega arith)

-- where no name is at fault, each set names a source
sets_named : (graph : Graph) (n : ℕ) (sets : List (List ℕ × Value)) (rest : List Bool) → first_wrong n (map (λ (s : List ℕ × Value). names_source graph s.0) sets ++ rest) ≡ None → NameSources graph sets
sets_named graph n [] rest h = tt
sets_named graph n (s ∷ sets) rest h = cases (names_source graph s.0) refl (λ k. sets_named graph (n + 1) sets rest k)
  where
    cases : (b : Bool) → names_source graph s.0 ≡ b → (first_wrong (n + 1) (map (λ (t : List ℕ × Value). names_source graph t.0) sets ++ rest) ≡ None → NameSources graph sets) → NameSources graph (s ∷ sets)
    cases true right later = (right, later (sym (ap (λ b. first_wrong n (b ∷ (map (λ (t : List ℕ × Value). names_source graph t.0) sets ++ rest))) right) ∙ h))
    cases false wrong later =
        let e : first_wrong n (false ∷ (map (λ (t : List ℕ × Value). names_source graph t.0) sets ++ rest)) ≡ None = sym (ap (λ b. first_wrong n (b ∷ (map (λ (t : List ℕ × Value). names_source graph t.0) sets ++ rest))) wrong) ∙ h in
        absurd (cc)

-- the values after a well-named call are those of one pass over the values before it
pub literal : (graph : Graph) → IsGraph graph → (kept : Values) → length kept ≡ length graph.nodes → (call : Call) → misnamed graph call ≡ None → values graph (after graph kept call) ≡ after_call graph (values graph kept) call
literal graph is_graph kept fits (Fire sets looks) named =
    let right = sets_named graph 1 sets (map (names_node graph) looks) named in
    let there = λ (k : ℕ) (h : k < length graph.nodes). ap (node_at graph) (let e : 0 + k ≡ k = omega arith in e) in
    folds_literal graph (with_sets graph kept sets) (values graph kept) (omega (arith, length-with_sets graph kept sets)) is_graph.nodes
    (folds_kept graph kept sets is_graph.nodes right graph.nodes 0 there (omega arith))
    ∙ new_same graph.nodes (values graph kept) (with_sets graph kept sets) (with_sets graph (values graph kept) sets) [] (sources_same graph kept sets is_graph.nodes fits graph.nodes 0 there (omega arith))
literal graph is_graph kept fits (Read looks) named = refl

length-fold_step : (graph : Graph) (before kept : Values) (n : ℕ) (node : Node) → length (fold_step graph before kept n node) ≡ length kept
length-fold_step graph before kept n (Source start) = refl
length-fold_step graph before kept n (Signal script inputs) = refl
length-fold_step graph before kept n (Choose selectors body inputs) = refl
length-fold_step graph before kept n (Fold start script inputs) = cases (list_any (differs before (values graph kept)) inputs) (run script inputs (values graph kept) (at before n))
  where
    cases : (t : Bool) (r : Value) → length (if t then slice_set kept n r else kept) ≡ length kept
    cases true r = length-set kept n r
    cases false r = refl

length-fold_steps : (graph : Graph) (before kept : Values) (n : ℕ) (nodes : List Node) → length (fold_steps graph before kept n nodes) ≡ length kept
length-fold_steps graph before kept n [] = refl
length-fold_steps graph before kept n (node ∷ rest) = length-fold_steps graph before (fold_step graph before kept n node) (n + 1) rest ∙ length-fold_step graph before kept n node

-- a call leaves as many values as there were
pub length-after : (graph : Graph) (kept : Values) (call : Call) → length (after graph kept call) ≡ length kept
length-after graph kept (Fire sets looks) = length-fold_steps graph (values graph kept) (with_sets graph kept sets) 0 graph.nodes ∙ length-with_sets graph kept sets
length-after graph kept (Read looks) = refl

-- the values after a call are themselves a state, which has these values
pub values_again : (graph : Graph) (before : Values) → values graph before ≡ before → (call : Call) → values graph (after_call graph before call) ≡ after_call graph before call
values_again graph before h (Fire sets looks) = new_values_from before (with_sets graph before sets) graph.nodes []
values_again graph before h (Read looks) = h
