-- A pass that goes from marked node to marked node: it leaves out what rests on no change.
use Rattle.std.proofs.Common.{◌≡◌, ℕ, zero, suc, ◌+◌, ◌-◌, ◌<◌, ◌≤◌, inl, inr, Bool, true, false, List, [], ◌∷◌, ◌++◌, length, take, get_or, Option, refl, sym, ap, ◌∙◌, subst, arith}
use Rattle.std.specs.Prelude.{not, map, ◌==◌, ◌||◌, ◌&&◌, slice_get, slice_set}
use Rattle.std.specs.List.{AllByRecursion, list_any}
use Rattle.std.proofs.lemmas.Bool.{cases_eq, cases_lt, true≢false, or_left, or_right, or_from, and_right, false_from_ne_true}
use Rattle.std.proofs.lemmas.List.{get_or_past, get_or-take, get_or-set_same, get_or-set_other, set-get_or}
use Rattle.script_tree.specs.declared.value.Fault.TheVariants.{NoChoice, Kind}
use Rattle.script_tree.specs.declared.value.Value.{Value}
use Rattle.script_tree.specs.declared.value.Value.TheVariants.{Fault as Faulty}
use Rattle.script_tree.proofs.Lists.{all_append, all_weaker, all_front, all_behind}
use Rattle.signal_graph.specs.declared.node.Selector.{Selector}
use Rattle.signal_graph.specs.declared.node.Node.{Node}
use Rattle.signal_graph.specs.declared.node.Node.TheVariants.{Source, Signal, Fold, Choose}
use Rattle.signal_graph.specs.Graph.{Graph, IsGraph, IsNode, node_at, is_in, is_source, inputs_of, selectors_of}
use Rattle.signal_graph.specs.Values.{Values, at, values, run, selected, taken, picks_of, nodes_in}
use Rattle.signal_graph.specs.Machine.{same, differs}
use Rattle.signal_graph.specs.OnePass.{new_value}
use Rattle.signal_graph.proofs.GraphNodes.{node_is}
use Rattle.signal_graph.proofs.Values.{length-values}
use Rattle.signal_graph.proofs.Members.{in_head}
use Rattle.signal_graph.proofs.OnePassLaws.{source_value}
use Rattle.signal_graph.proofs.SameValues.{same-self}
use Rattle.serial_machine.specs.State.{ArePicks, IsReady}
use Rattle.serial_machine.specs.Between.{one_if, is_evaluated, count_changed, count_evaluated}
use Rattle.serial_machine.specs.Marking.{is_marked, AreUnmarked, AreMore, IsNextMarked}
use Rattle.serial_machine.specs.Reading.{candidates_of_all, candidates_of, reads, AreChoosers}
use Rattle.serial_machine.proofs.OnePass.{all_new, picked, earlier_deps}
use Rattle.serial_machine.proofs.Resting.{rest_value, rest_picks}
use Rattle.serial_machine.proofs.InPlace.{Comes, at_next, next, begins, ends, kept_after}

-- ---- what a node rests on, it reads

-- a list has its elements
in_itself : (xs : List ℕ) → AllByRecursion (λ m. is_in m xs ≡ true) xs
in_itself [] = tt
in_itself (x ∷ xs) = (in_head x xs, all_weaker (λ m. is_in m xs ≡ true) (λ m. is_in m (x ∷ xs) ≡ true) (λ m h. or_right (x == m) (is_in m xs) h) xs (in_itself xs))

picked_among : (P : ℕ → Type 0) (all : Values) (selectors : List Selector) → AllByRecursion P (candidates_of_all selectors) → AllByRecursion P (nodes_in (map (λ s. taken (selected all s)) selectors))
picked_among P all [] h = tt
picked_among P all (s ∷ rest) h =
    picked P (run s.script s.inputs all (Faulty Kind)) s.candidates (map (λ r. taken (selected all r)) rest)
    (all_front P s.candidates (candidates_of_all rest) h) (picked_among P all rest (all_behind P s.candidates (candidates_of_all rest) h))

picks_are_read : (node : Node) (all : Values) → AllByRecursion (λ m. is_in m (candidates_of node) ≡ true) (nodes_in (picks_of node all))
picks_are_read (Source start) all = tt
picks_are_read (Signal script inputs) all = tt
picks_are_read (Fold start script inputs) all = tt
picks_are_read (Choose selectors body inputs) all =
    picked_among (λ m. is_in m (candidates_of_all selectors) ≡ true) all selectors (in_itself (candidates_of_all selectors))

rests_on_read : (node : Node) (all : Values) → AllByRecursion (λ m. reads node m ≡ true) (inputs_of node ++ nodes_in (picks_of node all))
rests_on_read node all =
    all_append (λ m. reads node m ≡ true) (inputs_of node) (nodes_in (picks_of node all))
    (all_weaker (λ m. is_in m (inputs_of node) ≡ true) (λ m. reads node m ≡ true) (λ m h. or_left (is_in m (inputs_of node)) (is_in m (candidates_of node)) h) (inputs_of node) (in_itself (inputs_of node)))
    (all_weaker (λ m. is_in m (candidates_of node) ≡ true) (λ m. reads node m ≡ true) (λ m h. or_right (is_in m (inputs_of node)) (is_in m (candidates_of node)) h) (nodes_in (picks_of node all)) (picks_are_read node all))

none_of : (p : ℕ → Bool) (n : ℕ) (node : Node) → ((m : ℕ) → m < n → reads node m ≡ true → p m ≡ false) → (ns : List ℕ) → AllByRecursion (λ m. m < n) ns → AllByRecursion (λ m. reads node m ≡ true) ns → list_any p ns ≡ false
none_of p n node f [] below read = refl
none_of p n node f (m ∷ ns) below read = or_from (p m) (list_any p ns) (f m below.0 read.0) (none_of p n node f ns below.1 read.1)

-- ---- marks

-- what is not marked was not
pub unmarked_before : (marks more : List Bool) → AreMore marks more → (m : ℕ) → is_marked more m ≡ false → is_marked marks m ≡ false
unmarked_before marks more grows m h = go (is_marked marks m) refl
  where
    go : (b : Bool) → is_marked marks m ≡ b → is_marked marks m ≡ false
    go true e = absurd (true≢false (sym (grows m e) ∙ h))
    go false e = e

-- ---- the pass

-- from a number on, a node without a mark has nothing set and reads no earlier node with another value; before the
-- number, one without a mark has the value of before
pub record IsAhead (graph : Graph) (before set : Values) (n : ℕ) (now : Values) (marks : List Bool) : Type 0 where
  pub unset : (m : ℕ) → n ≤ m → m < length graph.nodes → is_marked marks m ≡ false → at set m ≡ at before m
  pub unread : (m d : ℕ) → n ≤ m → m < length graph.nodes → is_marked marks m ≡ false → d < n → reads (node_at graph m) d ≡ true → differs before now d ≡ false
  pub passed : (m : ℕ) → m < n → is_marked marks m ≡ false → at before m ≡ at now m

-- a pass has come to a number, and leaves out from there on what has no mark
pub record Reaches (graph : Graph) (before set : Values) (n : ℕ) (now : Values) (picked : List (List (Option ℕ))) (marks : List Bool) (changed evaluated : ℕ) : Type 0 where
  pub comes : Comes graph before set n now picked changed evaluated
  pub ahead : IsAhead graph before set n now marks
  pub size : length marks ≡ length graph.nodes

pub begins_marked : (graph : Graph) (before set : Values) (picked : List (List (Option ℕ))) (marks : List Bool) → length set ≡ length graph.nodes → length marks ≡ length graph.nodes
    → ((m : ℕ) → is_marked marks m ≡ false → at set m ≡ at before m) → ArePicks graph before picked → Reaches graph before set 0 set picked marks 0 0
begins_marked graph before set picked marks size marked unset are = record {
  comes = begins graph before set picked size are;
  ahead = record {
    unset = λ m from within h. unset m h;
    unread = λ m d from within h below read. absurd (omega arith);
    passed = λ m below h. absurd (omega arith);
  };
  size = marked;
}

not_differs : (before now : Values) (n : ℕ) → at before n ≡ at now n → differs before now n ≡ false
not_differs before now n e = ap (λ v. not (same (at before n) v)) (sym e) ∙ ap not (same-self (at before n))

source_picks : (node : Node) (a b : Values) → is_source node ≡ true → picks_of node a ≡ picks_of node b
source_picks (Source start) a b h = refl
source_picks (Signal script inputs) a b h = absurd (cc)
source_picks (Fold start script inputs) a b h = absurd (cc)
source_picks (Choose selectors body inputs) a b h = absurd (cc)

-- a node that is not evaluated and has nothing set keeps its value and picks
keeps_value : (graph : Graph) → IsGraph graph → (n : ℕ) (set : Value) (before earlier : Values) → n < length graph.nodes → values graph before ≡ before → set ≡ at before n → is_evaluated before earlier (node_at graph n) ≡ false → new_value (node_at graph n) set (at before n) before earlier ≡ at before n
keeps_value graph is_graph n set before earlier within follow unset rests = go (is_source (node_at graph n)) refl
  where
    go : (b : Bool) → is_source (node_at graph n) ≡ b → new_value (node_at graph n) set (at before n) before earlier ≡ at before n
    go true e = source_value (node_at graph n) set (at before n) before earlier e ∙ unset
    go false e = rest_value graph is_graph n set before earlier within follow e rests

keeps_picks : (graph : Graph) → IsGraph graph → (n : ℕ) (before earlier : Values) → n < length graph.nodes → is_evaluated before earlier (node_at graph n) ≡ false → picks_of (node_at graph n) before ≡ picks_of (node_at graph n) earlier
keeps_picks graph is_graph n before earlier within rests = go (is_source (node_at graph n)) refl
  where
    go : (b : Bool) → is_source (node_at graph n) ≡ b → picks_of (node_at graph n) before ≡ picks_of (node_at graph n) earlier
    go true e = source_picks (node_at graph n) before earlier e
    go false e = rest_picks graph is_graph n before earlier within e rests

-- a node without a mark is not evaluated
unmarked_rests : (graph : Graph) → IsGraph graph → (before set : Values) (n : ℕ) (now : Values) (marks : List Bool) → n < length graph.nodes → is_marked marks n ≡ false → IsAhead graph before set n now marks → is_evaluated before (take n now) (node_at graph n) ≡ false
unmarked_rests graph is_graph before set n now marks within h ahead =
    let node = node_at graph n in
    let is : IsNode graph.names n node = subst (λ k. IsNode graph.names k node) (let e : 0 + n ≡ n = omega arith in e) (node_is graph.names 0 graph.nodes n (Source (Faulty Kind)) is_graph.nodes within) in
    and_right (not (is_source node)) _
    (none_of (differs before (take n now)) n node
    (λ m below read. ap (λ v. not (same (at before m) v)) (get_or-take n now m (Faulty NoChoice) below) ∙ ahead.unread n m (omega arith) within h below read)
    (inputs_of node ++ nodes_in (picks_of node before)) (earlier_deps graph.names n node before is) (rests_on_read node before))

-- so the pass goes on behind it with nothing done
skip_one : (graph : Graph) → IsGraph graph → (before set : Values) (n : ℕ) (now : Values) (picked : List (List (Option ℕ))) (marks : List Bool) (changed evaluated : ℕ) → values graph before ≡ before → n < length graph.nodes → is_marked marks n ≡ false
    → Reaches graph before set n now picked marks changed evaluated → Reaches graph before set (n + 1) now picked marks changed evaluated
skip_one graph is_graph before set n now picked marks changed evaluated follow within h reaches =
    let node = node_at graph n in
    let earlier = take n now in
    let rests = unmarked_rests graph is_graph before set n now marks within h reaches.ahead in
    let as_set : at now n ≡ at set n = reaches.comes.later n (omega arith) in
    let unset : at now n ≡ at before n = as_set ∙ reaches.ahead.unset n (omega arith) within h in
    let value : new_value node (at now n) (at before n) before earlier ≡ at now n = keeps_value graph is_graph n (at now n) before earlier within follow unset rests ∙ sym unset in
    let same_picks : picks_of node earlier ≡ get_or picked n [] = sym (keeps_picks graph is_graph n before earlier within rests) ∙ sym (reaches.comes.stale n (omega arith) within) in
    let equal : differs before now n ≡ false = not_differs before now n (sym unset) in
    let comes = next graph before set n now now picked picked changed evaluated false false is_graph within (sym rests)
    (sym (set-get_or now n (Faulty NoChoice)) ∙ ap (slice_set now n) (sym value))
    (sym (set-get_or picked n []) ∙ ap (slice_set picked n) (sym same_picks))
    (sym equal) reaches.comes in
    record {
      comes = subst (λ k. Comes graph before set (n + 1) now picked k evaluated) (let e : changed + 0 ≡ changed = omega arith in e)
          (subst (λ k. Comes graph before set (n + 1) now picked (changed + 0) k) (let e : evaluated + 0 ≡ evaluated = omega arith in e) comes);
      ahead = record {
        unset = λ m from inside free. reaches.ahead.unset m (omega arith) inside free;
        unread = λ m d from inside free below read. at_next (λ k. reads (node_at graph m) k ≡ true → differs before now k ≡ false) n
            (λ k lt r. reaches.ahead.unread m k (omega arith) inside free lt r) (λ r. equal) d below read;
        passed = λ m below free. at_next (λ k. is_marked marks k ≡ false → at before k ≡ at now k) n
            (λ k lt f. reaches.ahead.passed k lt f) (λ f. sym unset) m below free;
      };
      size = reaches.size;
    }

-- and so behind each of those without a mark
skip_all : (graph : Graph) → IsGraph graph → (before set : Values) (count n : ℕ) (now : Values) (picked : List (List (Option ℕ))) (marks : List Bool) (changed evaluated : ℕ) → values graph before ≡ before → n + count ≤ length graph.nodes → AreUnmarked marks n (n + count)
    → Reaches graph before set n now picked marks changed evaluated → Reaches graph before set (n + count) now picked marks changed evaluated
skip_all graph is_graph before set zero n now picked marks changed evaluated follow within none reaches =
    subst (λ k. Reaches graph before set k now picked marks changed evaluated) (let e : n ≡ n + 0 = omega arith in e) reaches
skip_all graph is_graph before set (suc count) n now picked marks changed evaluated follow within none reaches =
    subst (λ k. Reaches graph before set k now picked marks changed evaluated) (let e : (n + 1) + count ≡ n + suc count = omega arith in e)
    (skip_all graph is_graph before set count (n + 1) now picked marks changed evaluated follow (omega arith) (λ m from below. none m (omega arith) (omega arith))
    (skip_one graph is_graph before set n now picked marks changed evaluated follow (omega arith) (none n (omega arith) (omega arith)) reaches))

skip_to : (graph : Graph) → IsGraph graph → (before set : Values) (n to : ℕ) (now : Values) (picked : List (List (Option ℕ))) (marks : List Bool) (changed evaluated : ℕ) → values graph before ≡ before → n ≤ to → to ≤ length graph.nodes → AreUnmarked marks n to
    → Reaches graph before set n now picked marks changed evaluated → Reaches graph before set to now picked marks changed evaluated
skip_to graph is_graph before set n to now picked marks changed evaluated follow ahead within none reaches =
    let e : n + (to - n) ≡ to = omega arith in
    subst (λ k. Reaches graph before set k now picked marks changed evaluated) e
    (skip_all graph is_graph before set (to - n) n now picked marks changed evaluated follow (omega arith) (λ m from below. none m from (omega arith)) reaches)

-- a marked node is visited: where its value is another one, all that read it are marked
visit : (graph : Graph) (before set : Values) (n : ℕ) (now more : Values) (picked renewed : List (List (Option ℕ))) (marks marked : List Bool) (changed evaluated : ℕ) (differing rests : Bool)
    → IsGraph graph → n < length graph.nodes → rests ≡ is_evaluated before (take n now) (node_at graph n)
    → more ≡ slice_set now n (new_value (node_at graph n) (at now n) (at before n) before (take n now))
    → renewed ≡ slice_set picked n (picks_of (node_at graph n) (take n now))
    → differing ≡ not (same (at before n) (at more n))
    → is_marked marks n ≡ true → length marked ≡ length marks → AreMore marks marked
    → (differing ≡ true → (m : ℕ) → m < length graph.nodes → reads (node_at graph m) n ≡ true → is_marked marked m ≡ true)
    → Reaches graph before set n now picked marks changed evaluated
    → Reaches graph before set (n + 1) more renewed marked (changed + one_if differing) (evaluated + one_if rests)
visit graph before set n now more picked renewed marks marked changed evaluated differing rests is_graph within by_deps by_value by_picks by_change there as_many grows tells reaches =
    let v = new_value (node_at graph n) (at now n) (at before n) before (take n now) in
    let others = λ (m : ℕ) (ne : m ≡ n → ⊥). ap (λ vs. at vs m) by_value ∙ get_or-set_other now n m v (Faulty NoChoice) ne in
    let was = λ (m : ℕ) (free : is_marked marked m ≡ false). unmarked_before marks marked grows m free in
    record {
      comes = next graph before set n now more picked renewed changed evaluated differing rests is_graph within by_deps by_value by_picks by_change reaches.comes;
      ahead = record {
        unset = λ m from inside free. reaches.ahead.unset m (omega arith) inside (was m free);
        unread = λ m d from inside free below read. at_next (λ k. reads (node_at graph m) k ≡ true → differs before more k ≡ false) n
            (λ k lt r. ap (λ w. not (same (at before k) w)) (others k (λ e. omega (arith, e, lt))) ∙ reaches.ahead.unread m k (omega arith) inside (was m free) lt r)
            (λ r. sym by_change ∙ false_from_ne_true differing (λ e. true≢false (sym (tells e m inside r) ∙ free))) d below read;
        passed = λ m below free. at_next (λ k. is_marked marked k ≡ false → at before k ≡ at more k) n
            (λ k lt f. reaches.ahead.passed k lt (was k f) ∙ sym (others k (λ e. omega (arith, e, lt))))
            (λ f. absurd (true≢false (sym (grows n there) ∙ f))) m below free;
      };
      size = as_many ∙ reaches.size;
    }

-- a pass that has made so many visits
pub record Visits (graph : Graph) (before set : Values) (count from : ℕ) (now : Values) (picked : List (List (Option ℕ))) (marks : List Bool) (changed evaluated : ℕ) : Type 0 where
  pub counted : count ≤ from
  pub within : from ≤ length graph.nodes
  pub reaches : Reaches graph before set from now picked marks changed evaluated

pub visits_none : (graph : Graph) (before set : Values) (picked : List (List (Option ℕ))) (marks : List Bool) → length set ≡ length graph.nodes → length marks ≡ length graph.nodes
    → ((m : ℕ) → is_marked marks m ≡ false → at set m ≡ at before m) → ArePicks graph before picked → Visits graph before set 0 0 set picked marks 0 0
visits_none graph before set picked marks size marked unset are = record {
  counted = omega arith;
  within = omega arith;
  reaches = begins_marked graph before set picked marks size marked unset are;
}

-- the next marked node is visited
pub visits_next : (graph : Graph) (before set : Values) (count more_count from next n : ℕ) (now more : Values) (picked renewed : List (List (Option ℕ))) (marks marked : List Bool) (changed evaluated more_changed more_evaluated : ℕ) (differing rests : Bool)
    → IsGraph graph → values graph before ≡ before → IsNextMarked marks from n → more_count ≡ count + 1 → next ≡ n + 1 → rests ≡ is_evaluated before (take n now) (node_at graph n)
    → more ≡ slice_set now n (new_value (node_at graph n) (at now n) (at before n) before (take n now))
    → renewed ≡ slice_set picked n (picks_of (node_at graph n) (take n now))
    → differing ≡ differs before more n → length marked ≡ length marks → AreMore marks marked
    → (differing ≡ true → (m : ℕ) → m < length graph.nodes → reads (node_at graph m) n ≡ true → is_marked marked m ≡ true)
    → more_changed ≡ changed + one_if differing → more_evaluated ≡ evaluated + one_if rests
    → Visits graph before set count from now picked marks changed evaluated → Visits graph before set more_count next more renewed marked more_changed more_evaluated
visits_next graph before set count more_count from next n now more picked renewed marks marked changed evaluated more_changed more_evaluated differing rests is_graph follow next_is count_is from_is by_deps by_value by_picks by_change as_many grows tells changes evaluates visits =
    let inside = next_is.within in
    let low = next_is.from_there in
    let within : n < length graph.nodes = omega (arith, inside, visits.reaches.size) in
    let counted = visits.counted in
    let reaches = visit graph before set n now more picked renewed marks marked changed evaluated differing rests is_graph within by_deps by_value by_picks by_change next_is.there as_many grows tells
    (skip_to graph is_graph before set from n now picked marks changed evaluated follow low (omega (arith, within)) next_is.first visits.reaches) in
    record {
      counted = omega (arith, counted, low, count_is, from_is);
      within = omega (arith, within, from_is);
      reaches = subst (λ k. Reaches graph before set k more renewed marked more_changed more_evaluated) (sym from_is)
          (subst (λ k. Reaches graph before set (n + 1) more renewed marked k more_evaluated) (sym changes)
          (subst (λ k. Reaches graph before set (n + 1) more renewed marked (changed + one_if differing) k) (sym evaluates) reaches));
    }

-- where no mark is left the pass has found all
pub record HasReached (graph : Graph) (before set now : Values) (picked : List (List (Option ℕ))) (marks : List Bool) (changed evaluated : ℕ) : Type 0 where
  pub size : length now ≡ length graph.nodes
  pub values : now ≡ all_new graph before set
  pub picks : ArePicks graph now picked
  pub changes : changed ≡ count_changed graph before now
  pub evaluates : evaluated ≡ count_evaluated graph before now
  pub marked : length marks ≡ length graph.nodes
  pub agree : (m : ℕ) → is_marked marks m ≡ false → at before m ≡ at now m

pub reached : (graph : Graph) (before set : Values) (count n : ℕ) (now : Values) (picked : List (List (Option ℕ))) (marks : List Bool) (changed evaluated : ℕ) → IsGraph graph → values graph before ≡ before → AreUnmarked marks n (length marks)
    → Visits graph before set count n now picked marks changed evaluated → HasReached graph before set now picked marks changed evaluated
reached graph before set count n now picked marks changed evaluated is_graph follow none visits =
    let total = length graph.nodes in
    let size : length before ≡ total = sym (ap length follow) ∙ length-values graph before in
    let within = visits.within in
    let last = skip_to graph is_graph before set n total now picked marks changed evaluated follow within (omega arith) (λ m from below. none m from (omega (arith, visits.reaches.size))) visits.reaches in
    let found = ends graph before set total now picked changed evaluated (omega arith) last.comes in
    record {
      size = last.comes.size;
      values = found.values;
      picks = found.picks;
      changes = found.changes;
      evaluates = found.evaluates;
      marked = last.size;
      agree = λ m free. elim (cases_lt m total) [
        | inl below ↦ last.ahead.passed m below free
        | inr past ↦ get_or_past before m (Faulty NoChoice) (omega (arith, size)) ∙ sym (get_or_past now m (Faulty NoChoice) (omega (arith, last.comes.size)))
      ];
    }

-- where as many visits were made as there are nodes, none is left
pub reached_all : (graph : Graph) (before set : Values) (count n : ℕ) (now : Values) (picked : List (List (Option ℕ))) (marks : List Bool) (changed evaluated : ℕ) → IsGraph graph → values graph before ≡ before → length graph.nodes ≤ count
    → Visits graph before set count n now picked marks changed evaluated → HasReached graph before set now picked marks changed evaluated
reached_all graph before set count n now picked marks changed evaluated is_graph follow all visits =
    let counted = visits.counted in
    reached graph before set count n now picked marks changed evaluated is_graph follow (λ m from below. absurd (omega (arith, all, counted, from, below, visits.reaches.size))) visits

-- what a machine keeps after a fire
pub ready_after : (graph : Graph) (before set now copied : Values) (picked : List (List (Option ℕ))) (choosers : List (List ℕ)) (marks : List Bool) → now ≡ all_new graph before set → ArePicks graph now picked → copied ≡ now → AreChoosers graph choosers → length marks ≡ length graph.nodes
    → IsReady graph now picked copied choosers marks
ready_after graph before set now copied picked choosers marks is are same reached marked = record {
  kept = kept_after graph before set now picked is are;
  copied = same;
  reached = reached;
  marked = marked;
}
