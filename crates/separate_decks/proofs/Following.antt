-- All merges of a separate deck's scripts end with the same values.
use Rattle.std.proofs.Common.{◌≡◌, ℕ, suc, ◌+◌, ◌<◌, ◌≤◌, Bool, true, false, cond, List, [], ◌∷◌, ◌++◌, length, None, refl, sym, ap, ◌∙◌, subst, arith, length-append, true≢false, ◌⊎◌, inl, inr}
use Rattle.std.specs.Prelude.{◌==◌, slice_index_or}
use Rattle.std.specs.List.{AllByRecursion}
use Rattle.std.proofs.lemmas.List.{length-map}
use Rattle.script_tree.specs.declared.value.Fault.TheVariants.{Kind}
use Rattle.script_tree.specs.declared.value.Value.{Value}
use Rattle.script_tree.specs.declared.value.Value.TheVariants.{Fault as Faulty}
use Rattle.script_tree.proofs.Lists.{all_filter}
use Rattle.signal_graph.specs.declared.node.Node.{Node}
use Rattle.signal_graph.specs.declared.node.Node.TheVariants.{Source, Signal, Fold, Choose}
use Rattle.signal_graph.specs.declared.call.Call.{Call}
use Rattle.signal_graph.specs.declared.log.Logged.{Logged}
use Rattle.signal_graph.specs.declared.log.Refused.{Refused}
use Rattle.signal_graph.specs.Graph.{Graph, node_at, IsGraph}
use Rattle.signal_graph.specs.Values.{Values, at, node_value, values_from, values, val, start, start_value}
use Rattle.signal_graph.specs.Machine.{misnamed, after}
use Rattle.signal_graph.specs.Legal.{state_from, state_after, finals}
use Rattle.signal_graph.specs.OnePass.{after_call}
use Rattle.signal_graph.proofs.GraphNodes.{is_node_at}
use Rattle.call_log.specs.Made.{entries_of, calls_in, is_well_named, well_named, count_well_named, script_of}
use Rattle.call_log.specs.Merge.{IsOfCaller, Merge}
use Rattle.separate_decks.specs.Separate.{is_set_in, Separate}
use Rattle.separate_decks.specs.Calls.{values_after, followed_by, Keeps, AreSources, SetsNone, AreNamed, OthersSetNone}
use Rattle.separate_decks.proofs.OneCall.{AgreeAt, same_call, other_call}
use Rattle.separate_decks.proofs.Making.{callers_are, all_made, none_of_zero, of_each_caller, named_right}
use Rattle.separate_decks.proofs.Owning.{follows_sources, Owner, owner_at, none_set}

-- what is known of the machine: a call makes one pass over the nodes, the state keeps its length, and each value is its
-- node's
abbrev pub OnePasses : Type 0
OnePasses = (graph : Graph) → IsGraph graph → (kept : Values) → length kept ≡ length graph.nodes → (call : Call) → misnamed graph call ≡ None → values graph (after graph kept call) ≡ after_call graph (values graph kept) call

abbrev pub StaysLong : Type 0
StaysLong = (graph : Graph) (kept : Values) (call : Call) → length (after graph kept call) ≡ length kept

abbrev pub ValuesAre : Type 0
ValuesAre = (graph : Graph) → IsGraph graph → (kept : Values) (n : ℕ) → n < length graph.nodes → val graph kept n ≡ node_value (node_at graph n) (at kept n) (values graph kept)

abbrev pub AsLong : Type 0
AsLong = (graph : Graph) (kept : Values) → length (values graph kept) ≡ length graph.nodes

-- what a source or fold has after calls rests on its owner's calls alone, in their order
pub by_owner : (graph : Graph) → IsGraph graph → (n : ℕ) → n < length graph.nodes → Keeps (node_at graph n) → AreSources graph (followed_by (node_at graph n) n) → (caller : ℕ) (log : List Logged) (a b : Values) → OthersSetNone graph (followed_by (node_at graph n) n) caller log → AgreeAt graph n (followed_by (node_at graph n) n) a b → AgreeAt graph n (followed_by (node_at graph n) n) (values_after graph a (calls_in log)) (values_after graph b (calls_in (entries_of caller log)))
by_owner graph is_graph n within keeps sources caller [] a b others h = h
by_owner graph is_graph n within keeps sources caller (entry ∷ log) a b others h =
    cases (entry.caller == caller) others.0 (λ x y agree. by_owner graph is_graph n within keeps sources caller log x y others.1 agree)
  where
    cases : (t : Bool) → (t ≡ false → SetsNone graph (followed_by (node_at graph n) n) entry.call) → ((x y : Values) → AgreeAt graph n (followed_by (node_at graph n) n) x y → AgreeAt graph n (followed_by (node_at graph n) n) (values_after graph x (calls_in log)) (values_after graph y (calls_in (entries_of caller log)))) → AgreeAt graph n (followed_by (node_at graph n) n) (values_after graph (after_call graph a entry.call) (calls_in log)) (values_after graph b (calls_in (cond t (entry ∷ entries_of caller log) (entries_of caller log))))
    cases true none later = later (after_call graph a entry.call) (after_call graph b entry.call) (same_call graph is_graph n within keeps sources a b entry.call h)
    cases false none later = later (after_call graph a entry.call) b (other_call graph is_graph n within keeps sources a b entry.call (none refl) h)

-- the values in the state after a log are those after its calls
pub state_values : OnePasses → StaysLong → (graph : Graph) → IsGraph graph → (kept : Values) (log : List Logged) → length kept ≡ length graph.nodes → AreNamed graph log → values graph (state_from graph kept log) ≡ values_after graph (values graph kept) (calls_in log)
state_values one_pass stays graph is_graph kept [] long named = refl
state_values one_pass stays graph is_graph kept (entry ∷ log) long named =
    state_values one_pass stays graph is_graph (after graph kept entry.call) log (stays graph kept entry.call ∙ long) named.1
    ∙ ap (λ vs. values_after graph vs (calls_in log)) (one_pass graph is_graph kept long entry.call named.0)

-- a source or fold has what is kept for it
kept_value : (node : Node) (kept : Value) (earlier : Values) → Keeps node → node_value node kept earlier ≡ kept
kept_value (Source start) kept earlier keeps = refl
kept_value (Signal script inputs) kept earlier keeps = absurd keeps
kept_value (Fold start script inputs) kept earlier keeps = refl
kept_value (Choose selectors body inputs) kept earlier keeps = absurd keeps

-- other nodes do not read it
same_node : (node : Node) (u v : Value) (earlier : Values) → (Keeps node → u ≡ v) → node_value node u earlier ≡ node_value node v earlier
same_node (Source start) u v earlier h = h tt
same_node (Signal script inputs) u v earlier h = refl
same_node (Fold start script inputs) u v earlier h = h tt
same_node (Choose selectors body inputs) u v earlier h = refl

-- states that agree at all sources and folds have the same values
same_values : (nodes : List Node) (earlier s r : Values) → ((k : ℕ) → k < length nodes → Keeps (slice_index_or nodes k (Source (Faulty Kind))) → at s (length earlier + k) ≡ at r (length earlier + k)) → values_from earlier nodes s ≡ values_from earlier nodes r
same_values [] earlier s r h = refl
same_values (node ∷ rest) earlier s r h =
    let e : length earlier + 0 ≡ length earlier = omega arith in
    let v = node_value node (at r (length earlier)) earlier in
    ap (λ u. values_from (earlier ++ u ∷ []) rest s) (same_node node (at s (length earlier)) (at r (length earlier)) earlier (λ keeps. subst (λ i. at s i ≡ at r i) e (h 0 (omega arith) keeps)))
    ∙ same_values rest (earlier ++ v ∷ []) s r (λ k low keeps. (let i : length earlier + suc k ≡ length (earlier ++ v ∷ []) + k = omega (arith, length-append earlier (v ∷ [])) in subst (λ i. at s i ≡ at r i) i (h (suc k) (omega arith) keeps)))

agree_itself : (graph : Graph) (n : ℕ) (follows : List ℕ) (a : Values) → length a ≡ length graph.nodes → AgreeAt graph n follows a a
agree_itself graph n follows a long = record { long = long; as_long = long; here = refl; there = each follows }
  where
    each : (ms : List ℕ) → AllByRecursion (λ m. at a m ≡ at a m) ms
    each [] = tt
    each (m ∷ ms) = (refl, each ms)

-- the finished log of a merge, as far as it matters here
pub record Complete (graph : Graph) (scripts : List (List Call)) (log : List Logged) : Type 0 where
  pub made : (k : ℕ) → k < length scripts → calls_in (entries_of (k + 1) log) ≡ well_named graph (script_of scripts k)
  pub nobody : calls_in (entries_of 0 log) ≡ []
  pub named : AreNamed graph log
  pub others : (ms : List ℕ) (owner : Owner graph scripts ms) → OthersSetNone graph ms owner.caller log

-- a log with all well-named calls of each caller, and no others
pub complete : (graph : Graph) (scripts : List (List Call)) (log : List Logged) → AllByRecursion (IsOfCaller (length scripts)) log → ((k : ℕ) → k < length scripts → calls_in (entries_of (k + 1) log) ≡ well_named graph (script_of scripts k)) → Complete graph scripts log
complete graph scripts log callers made =
    record {
      made = made;
      nobody = ap calls_in (none_of_zero (length scripts) log callers);
      named = of_each_caller (λ c call. misnamed graph call ≡ None) (length scripts) log callers (λ k low. subst (AllByRecursion (λ call. misnamed graph call ≡ None)) (sym (made k low)) (named_right graph (script_of scripts k)));
      others = λ ms owner. of_each_caller (λ c call. (c == owner.caller) ≡ false → SetsNone graph ms call) (length scripts) log callers
          (λ k low. subst (AllByRecursion (λ call. (k + 1 == owner.caller) ≡ false → SetsNone graph ms call)) (sym (made k low)) (cases ms owner k low (k + 1 == owner.caller) (owner.others k low)));
    }
  where
    everywhere : (Q : Call → Type 0) (calls : List Call) → ((call : Call) → Q call) → AllByRecursion Q calls
    everywhere Q [] h = tt
    everywhere Q (call ∷ calls) h = (h call, everywhere Q calls h)

    weaker : (P Q : Call → Type 0) (calls : List Call) → ((call : Call) → P call → Q call) → AllByRecursion P calls → AllByRecursion Q calls
    weaker P Q [] f h = tt
    weaker P Q (call ∷ calls) f h = (f call h.0, weaker P Q calls f h.1)

    cases : (ms : List ℕ) (owner : Owner graph scripts ms) (k : ℕ) → k < length scripts → (b : Bool) → (b ≡ false → AllByRecursion (λ m. is_set_in graph m (script_of scripts k) ≡ false) ms) → AllByRecursion (λ call. b ≡ false → SetsNone graph ms call) (well_named graph (script_of scripts k))
    cases ms owner k low true none = everywhere (λ call. true ≡ false → SetsNone graph ms call) (well_named graph (script_of scripts k)) (λ call e. absurd (true≢false e))
    cases ms owner k low false none =
        weaker (SetsNone graph ms) (λ call. false ≡ false → SetsNone graph ms call) (well_named graph (script_of scripts k)) (λ call h e. h)
        (all_filter (SetsNone graph ms) (is_well_named graph) (script_of scripts k) (none_set graph ms (script_of scripts k) (none refl)))

pub merge_complete : (graph : Graph) (scripts : List (List Call)) (limit : ℕ) (log : List Logged) (refused : List Refused) → Merge graph scripts limit log refused → count_well_named graph scripts ≤ limit → Complete graph scripts log
merge_complete graph scripts limit log refused merge few =
    complete graph scripts log (callers_are (length scripts) log merge.callers) (all_made graph scripts limit log refused merge few)

-- of an owner two complete logs have the same calls
same_own : (graph : Graph) (scripts : List (List Call)) (one other : List Logged) → Complete graph scripts one → Complete graph scripts other → (caller : ℕ) → (caller ≡ 0) ⊎ ((k : ℕ) × (k < length scripts) × (caller ≡ k + 1)) → calls_in (entries_of caller one) ≡ calls_in (entries_of caller other)
same_own graph scripts one other a b caller (inl e) =
    subst (λ c. calls_in (entries_of c one) ≡ calls_in (entries_of c other)) (sym e) (a.nobody ∙ sym b.nobody)
same_own graph scripts one other a b caller (inr k) =
    subst (λ c. calls_in (entries_of c one) ≡ calls_in (entries_of c other)) (sym k.2) (a.made k.0 k.1 ∙ sym (b.made k.0 k.1))

-- where all but one caller leave alone what a source or fold follows, its value after a log rests on that caller's calls
-- alone, in their order
pub rests_on_owner : OnePasses → StaysLong → ValuesAre → AsLong → (graph : Graph) → IsGraph graph → (n : ℕ) → n < length graph.nodes → Keeps (node_at graph n) → AreSources graph (followed_by (node_at graph n) n) → (caller : ℕ) (one other : List Logged) → AreNamed graph one → AreNamed graph other → OthersSetNone graph (followed_by (node_at graph n) n) caller one → OthersSetNone graph (followed_by (node_at graph n) n) caller other → calls_in (entries_of caller one) ≡ calls_in (entries_of caller other) → at (state_after graph one) n ≡ at (state_after graph other) n
rests_on_owner one_pass stays values_are as_long graph is_graph n within keeps sources caller one other named_one named_other none_one none_other own =
    let begin = values graph (start graph) in
    let long = length-map graph.nodes start_value in
    let same = agree_itself graph n (followed_by (node_at graph n) n) begin (as_long graph (start graph)) in
    let first = by_owner graph is_graph n within keeps sources caller one begin begin none_one same in
    let second = by_owner graph is_graph n within keeps sources caller other begin begin none_other same in
    sym (kept_value (node_at graph n) (at (state_after graph one) n) (finals graph one) keeps)
    ∙ sym (values_are graph is_graph (state_after graph one) n within)
    ∙ ap (λ vs. at vs n) (state_values one_pass stays graph is_graph (start graph) one long named_one)
    ∙ first.here
    ∙ ap (λ calls. at (values_after graph begin calls) n) own
    ∙ sym second.here
    ∙ sym (ap (λ vs. at vs n) (state_values one_pass stays graph is_graph (start graph) other long named_other))
    ∙ values_are graph is_graph (state_after graph other) n within
    ∙ kept_value (node_at graph n) (at (state_after graph other) n) (finals graph other) keeps

-- two complete logs of a separate deck end with the same values
pub complete_alike : OnePasses → StaysLong → ValuesAre → AsLong → (graph : Graph) → IsGraph graph → (scripts : List (List Call)) → Separate graph scripts → (one other : List Logged) → Complete graph scripts one → Complete graph scripts other → finals graph one ≡ finals graph other
complete_alike one_pass stays values_are as_long graph is_graph scripts separate one other first second =
    same_values graph.nodes [] (state_after graph one) (state_after graph other) (λ k low keeps. (let e : k ≡ 0 + k = omega arith in subst (λ i. at (state_after graph one) i ≡ at (state_after graph other) i) e (same_kept k low keeps)))
  where
    same_kept : (n : ℕ) → n < length graph.nodes → Keeps (node_at graph n) → at (state_after graph one) n ≡ at (state_after graph other) n
    same_kept n within keeps =
        let follows = followed_by (node_at graph n) n in
        let owner = owner_at graph scripts separate n within keeps in
        rests_on_owner one_pass stays values_are as_long graph is_graph n within keeps
        (follows_sources graph scripts separate n within (node_at graph n) refl keeps (is_node_at graph is_graph n within))
        owner.caller one other first.named second.named (first.others follows owner) (second.others follows owner)
        (same_own graph scripts one other first second owner.caller owner.is_one)

-- all merges with all well-named calls end with the same values
pub merges_end_alike : OnePasses → StaysLong → ValuesAre → AsLong → (graph : Graph) → IsGraph graph → (scripts : List (List Call)) → Separate graph scripts → (limit : ℕ) → count_well_named graph scripts ≤ limit → (one other : List Logged) (left rest : List Refused) → Merge graph scripts limit one left → Merge graph scripts limit other rest → finals graph one ≡ finals graph other
merges_end_alike one_pass stays values_are as_long graph is_graph scripts separate limit few one other left rest merge_one merge_other =
    complete_alike one_pass stays values_are as_long graph is_graph scripts separate one other
    (merge_complete graph scripts limit one left merge_one few) (merge_complete graph scripts limit other rest merge_other few)
