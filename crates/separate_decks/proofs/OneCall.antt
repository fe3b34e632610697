-- What one call does to a source or a fold: it rests on the value there, on the nodes that it follows, and on the call.
use Rattle.std.proofs.Common.{◌≡◌, ℕ, zero, suc, ◌+◌, ◌<◌, true, false, List, [], ◌∷◌, ◌++◌, length, refl, sym, ap, ◌∙◌, subst, arith, length-append, get_or-set_other}
use Rattle.std.specs.Prelude.{not, ◌||◌, ◌==◌, if◌then◌else◌, slice_set, slice_index_or}
use Rattle.std.specs.List.{AllByRecursion, list_any}
use Rattle.std.proofs.Math.Seq.{get_or-append_seam}
use Rattle.std.proofs.lemmas.Bool.Decides.{eqb_tells}
use Rattle.std.proofs.lemmas.Bool.{or_parts}
use Rattle.script_tree.specs.declared.value.Fault.TheVariants.{NoChoice, Kind}
use Rattle.script_tree.specs.declared.value.Value.{Value}
use Rattle.script_tree.specs.declared.value.Value.TheVariants.{Fault as Faulty}
use Rattle.script_tree.specs.Eval.{eval_script}
use Rattle.script_tree.proofs.Lists.{all_weaker}
use Rattle.signal_graph.specs.declared.node.Node.{Node}
use Rattle.signal_graph.specs.declared.node.Node.TheVariants.{Source, Signal, Fold, Choose}
use Rattle.signal_graph.specs.declared.call.Call.{Call}
use Rattle.signal_graph.specs.declared.call.Call.TheVariants.{Fire, Read}
use Rattle.signal_graph.specs.Graph.{Graph, node_at, number_of, is_source, IsNode, IsGraph}
use Rattle.signal_graph.specs.Values.{Values, at, run}
use Rattle.signal_graph.specs.Machine.{differs, same, with_sets}
use Rattle.signal_graph.specs.OnePass.{new_value, new_from, after_call}
use Rattle.signal_graph.proofs.OnePassLaws.{new_stay, length-new_from, source_value, same_map}
use Rattle.signal_graph.proofs.GraphNodes.{is_node_at}
use Rattle.signal_graph.proofs.Literal.{sets_agree}
use Rattle.signal_graph.proofs.NewValues.{none_differ}
use Rattle.separate_decks.specs.Calls.{followed_by, Keeps, AreSources, SetsNone}

-- two tables of all values have the same values at a node and at those that it follows
pub record AgreeAt (graph : Graph) (n : ℕ) (follows : List ℕ) (a b : Values) : Type 0 where
  pub long : length a ≡ length graph.nodes
  pub as_long : length b ≡ length graph.nodes
  pub here : at a n ≡ at b n
  pub there : AllByRecursion (λ m. at a m ≡ at b m) follows

pub all_both : {X : Type 0} (P Q R : X → Type 0) (xs : List X) → ((x : X) → P x → Q x → R x) → AllByRecursion P xs → AllByRecursion Q xs → AllByRecursion R xs
all_both P Q R [] f h k = tt
all_both P Q R (x ∷ xs) f h k = (f x h.0 k.0, all_both P Q R xs f h.1 k.1)

-- what a pass has found where it comes to a node
record Reached (before set whole : Values) (i : ℕ) (node : Node) : Type 0 where
  earlier : Values
  agree : (m : ℕ) → m < i → at earlier m ≡ at whole m
  value : at whole i ≡ new_value node (at set i) (at before i) before earlier

reach : (before set : Values) (nodes : List Node) (earlier : Values) (k : ℕ) → k < length nodes → Reached before set (new_from before set earlier nodes) (length earlier + k) (slice_index_or nodes k (Source (Faulty Kind)))
reach before set [] earlier k h = absurd (omega arith)
reach before set (node ∷ rest) earlier zero h =
    let v = new_value node (at set (length earlier)) (at before (length earlier)) before earlier in
    let e : length earlier ≡ length earlier + 0 = omega arith in
    subst (λ i. Reached before set (new_from before set earlier (node ∷ rest)) i node) e (record {
      earlier = earlier;
      agree = λ m le. sym (new_stay before set (node ∷ rest) earlier m le);
      value = new_stay before set rest (earlier ++ v ∷ []) (length earlier) (omega (arith, length-append earlier (v ∷ []))) ∙ get_or-append_seam earlier v [] (Faulty NoChoice);
    })
reach before set (node ∷ rest) earlier (suc k) h =
    let v = new_value node (at set (length earlier)) (at before (length earlier)) before earlier in
    let e : length (earlier ++ v ∷ []) + k ≡ length earlier + suc k = omega (arith, length-append earlier (v ∷ [])) in
    subst (λ i. Reached before set (new_from before set earlier (node ∷ rest)) i (slice_index_or rest k (Source (Faulty Kind)))) e (reach before set rest (earlier ++ v ∷ []) k (omega arith))

reach_at : (graph : Graph) (before set : Values) (n : ℕ) → n < length graph.nodes → Reached before set (new_from before set [] graph.nodes) n (node_at graph n)
reach_at graph before set n within =
    let e : 0 + n ≡ n = omega arith in
    subst (λ i. Reached before set (new_from before set [] graph.nodes) i (node_at graph n)) e (reach before set graph.nodes [] n within)

source_after : (graph : Graph) (before set : Values) (m : ℕ) → (m < length graph.nodes) × (is_source (node_at graph m) ≡ true) → at (new_from before set [] graph.nodes) m ≡ at set m
source_after graph before set m h =
    let r = reach_at graph before set m h.0 in
    r.value ∙ source_value (node_at graph m) (at set m) (at before m) before r.earlier h.1

same_any : (a b x y : Values) (ms : List ℕ) → AllByRecursion (λ m. at a m ≡ at b m) ms → AllByRecursion (λ m. at x m ≡ at y m) ms → list_any (differs a x) ms ≡ list_any (differs b y) ms
same_any a b x y [] h k = refl
same_any a b x y (m ∷ ms) h k =
    ap (λ v. not (same v (at x m)) || list_any (differs a x) ms) h.0
    ∙ ap (λ v. not (same (at b m) v) || list_any (differs a x) ms) k.0
    ∙ ap (λ t. differs b y m || t) (same_any a b x y ms h.1 k.1)

-- a source's or fold's new value rests on what is set, on its old value, and on the nodes that it follows
same_new : (node : Node) (n : ℕ) (a b x y : Values) (old new : Value) → Keeps node → old ≡ new → AllByRecursion (λ m. at a m ≡ at b m) (followed_by node n) → AllByRecursion (λ m. at x m ≡ at y m) (followed_by node n) → new_value node (at x n) old a x ≡ new_value node (at y n) new b y
same_new (Source start) n a b x y old new keeps e h k = k.0
same_new (Signal script inputs) n a b x y old new keeps e h k = absurd keeps
same_new (Fold start script inputs) n a b x y old new keeps e h k =
    ap (λ o. new_value (Fold start script inputs) (at x n) o a x) e
    ∙ ap (λ t. if t then run script inputs x new else new) (same_any a b x y inputs h k)
    ∙ ap (λ vs. if list_any (differs b y) inputs then eval_script script.tree vs new else new) (same_map x y inputs k)
same_new (Choose selectors body inputs) n a b x y old new keeps e h k = absurd keeps

-- in a pass a source or fold reads what is set alone
read_set : (node : Node) (n : ℕ) (names : List (List ℕ)) (a earlier set whole : Values) (u old : Value) → Keeps node → IsNode names n node → ((m : ℕ) → m < n → at earlier m ≡ at whole m) → AllByRecursion (λ m. at whole m ≡ at set m) (followed_by node n) → new_value node u old a earlier ≡ new_value node u old a set
read_set (Source start) n names a earlier set whole u old keeps is_node agree h = refl
read_set (Signal script inputs) n names a earlier set whole u old keeps is_node agree h = absurd keeps
read_set (Fold start script inputs) n names a earlier set whole u old keeps is_node agree h =
    let same = all_both _ _ (λ m. at earlier m ≡ at set m) inputs (λ m low e. agree m low ∙ e) is_node.3 h in
    ap (λ t. if t then run script inputs earlier old else old) (same_any a a earlier set inputs (all_weaker _ (λ m. at a m ≡ at a m) (λ m e. refl) inputs same) same)
    ∙ ap (λ vs. if list_any (differs a set) inputs then eval_script script.tree vs old else old) (same_map earlier set inputs same)
read_set (Choose selectors body inputs) n names a earlier set whole u old keeps is_node agree h = absurd keeps

value_after : (graph : Graph) → IsGraph graph → (before set : Values) (n : ℕ) → n < length graph.nodes → Keeps (node_at graph n) → AreSources graph (followed_by (node_at graph n) n) → at (new_from before set [] graph.nodes) n ≡ new_value (node_at graph n) (at set n) (at before n) before set
value_after graph is_graph before set n within keeps sources =
    let whole = new_from before set [] graph.nodes in
    let r = reach_at graph before set n within in
    r.value
    ∙ read_set (node_at graph n) n graph.names before r.earlier set whole (at set n) (at before n) keeps (is_node_at graph is_graph n within) r.agree
    (all_weaker _ (λ m. at whole m ≡ at set m) (λ m s. source_after graph before set m s) (followed_by (node_at graph n) n) sources)

-- a node that is not set keeps its value
sets_keep : (graph : Graph) (kept : Values) (sets : List (List ℕ × Value)) (m : ℕ) → list_any (λ (s : List ℕ × Value). number_of graph s.0 == m) sets ≡ false → at (with_sets graph kept sets) m ≡ at kept m
sets_keep graph kept [] m h = refl
sets_keep graph kept (s ∷ sets) m h =
    let parts = or_parts (number_of graph s.0 == m) (list_any (λ (s : List ℕ × Value). number_of graph s.0 == m) sets) h in
    let other = parts.0 in
    let ne : m ≡ number_of graph s.0 → ⊥ = λ e. grind (arith, eqb_tells, other, e) in
    sets_keep graph (slice_set kept (number_of graph s.0) s.1) sets m parts.1
    ∙ get_or-set_other kept (number_of graph s.0) m s.1 (Faulty NoChoice) ne

-- two tables that agree at a source or fold agree there after the same call
pub same_call : (graph : Graph) → IsGraph graph → (n : ℕ) → n < length graph.nodes → Keeps (node_at graph n) → AreSources graph (followed_by (node_at graph n) n) → (a b : Values) (call : Call) → AgreeAt graph n (followed_by (node_at graph n) n) a b → AgreeAt graph n (followed_by (node_at graph n) n) (after_call graph a call) (after_call graph b call)
same_call graph is_graph n within keeps sources a b (Read looks) h = h
same_call graph is_graph n within keeps sources a b (Fire sets looks) h =
    let x = with_sets graph a sets in
    let y = with_sets graph b sets in
    let follows = followed_by (node_at graph n) n in
    let long = h.long ∙ sym h.as_long in
    let long_a = h.long in
    let set_same = all_both _ _ (λ m. at x m ≡ at y m) follows (λ m s e. sets_agree graph a b sets m long (subst (λ l. m < l) (sym long_a) s.0) e) sources h.there in
    record {
      long = length-new_from a x graph.nodes [] ∙ (omega arith);
      as_long = length-new_from b y graph.nodes [] ∙ (omega arith);
      here = value_after graph is_graph a x n within keeps sources
          ∙ same_new (node_at graph n) n a b x y (at a n) (at b n) keeps h.here h.there set_same
          ∙ sym (value_after graph is_graph b y n within keeps sources);
      there = all_both _ _ (λ m. at (new_from a x [] graph.nodes) m ≡ at (new_from b y [] graph.nodes) m) follows (λ m s e. source_after graph a x m s ∙ e ∙ sym (source_after graph b y m s)) sources set_same;
    }

-- a source or fold is left alone by a call that sets nothing that it follows
unchanged : (node : Node) (n : ℕ) (a x : Values) → Keeps node → AllByRecursion (λ m. at x m ≡ at a m) (followed_by node n) → new_value node (at x n) (at a n) a x ≡ at a n
unchanged (Source start) n a x keeps h = h.0
unchanged (Signal script inputs) n a x keeps h = absurd keeps
unchanged (Fold start script inputs) n a x keeps h =
    ap (λ t. if t then run script inputs x (at a n) else at a n) (same_any a a x a inputs (all_weaker _ (λ m. at a m ≡ at a m) (λ m e. refl) inputs h) h ∙ none_differ a inputs)
unchanged (Choose selectors body inputs) n a x keeps h = absurd keeps

pub other_call : (graph : Graph) → IsGraph graph → (n : ℕ) → n < length graph.nodes → Keeps (node_at graph n) → AreSources graph (followed_by (node_at graph n) n) → (a b : Values) (call : Call) → SetsNone graph (followed_by (node_at graph n) n) call → AgreeAt graph n (followed_by (node_at graph n) n) a b → AgreeAt graph n (followed_by (node_at graph n) n) (after_call graph a call) b
other_call graph is_graph n within keeps sources a b (Read looks) none h = h
other_call graph is_graph n within keeps sources a b (Fire sets looks) none h =
    let x = with_sets graph a sets in
    let follows = followed_by (node_at graph n) n in
    let kept = all_weaker _ (λ m. at x m ≡ at a m) (λ m e. sets_keep graph a sets m e) follows none in
    let left = all_both _ _ (λ m. at (new_from a x [] graph.nodes) m ≡ at a m) follows (λ m s e. source_after graph a x m s ∙ e) sources kept in
    record {
      long = length-new_from a x graph.nodes [] ∙ (omega arith);
      as_long = h.as_long;
      here = value_after graph is_graph a x n within keeps sources ∙ unchanged (node_at graph n) n a x keeps kept ∙ h.here;
      there = all_both _ _ (λ m. at (new_from a x [] graph.nodes) m ≡ at b m) follows (λ m e f. e ∙ f) left h.there;
    }
