-- A call that has finished at every node has made the one-thread machine's step: node by node its values and picks are the same.
use Rattle.std.proofs.Common.{◌≡◌, ℕ, zero, suc, ◌<◌, Bool, true, false, ◌||◌, not, ◌⊎◌, inl, inr, refl, sym, ap, arith, List, [], ◌∷◌, ◌++◌, length, map, true≢false, ◌∙◌, subst, Option, Some, None, Result, Ok, Err}
use Rattle.std.specs.Prelude.{if◌then◌else◌}
use Rattle.std.specs.List.{list_any}
use Rattle.std.proofs.lemmas.List.Folds.{list_any-append}
use Rattle.std.proofs.lemmas.Bool.{or_left, or_right, eq-eqb, cases_Bool}
use Rattle.script_tree.specs.declared.value.Fault.{Fault}
use Rattle.script_tree.specs.declared.value.Fault.TheVariants.{Kind}
use Rattle.script_tree.specs.declared.value.Value.{Value}
use Rattle.script_tree.specs.declared.value.Value.TheVariants.{Fault as Faulty}
use Rattle.script_tree.specs.Scripts.{Scripted}
use Rattle.script_tree.specs.Eval.{eval_body}
use Rattle.signal_graph.specs.declared.node.Selector.{Selector}
use Rattle.signal_graph.specs.declared.node.Node.{Node}
use Rattle.signal_graph.specs.declared.node.Node.TheVariants.{Source, Signal, Fold, Choose}
use Rattle.signal_graph.specs.Graph.{Graph, IsGraph, node_at, is_in, is_source, inputs_of, selectors_of, body_of}
use Rattle.signal_graph.specs.Values.{Values, at, run, select, selected, pick_of, pick, first_pick, choose_value, node_value, values, picks_of, picks, nodes_in, taken}
use Rattle.signal_graph.specs.Machine.{same, differs}
use Rattle.signal_graph.specs.OnePass.{new_value}
use Rattle.signal_graph.proofs.SameValues.{same-is}
use Rattle.signal_graph.proofs.OnePassLaws.{source_value}
use Rattle.flow_model.specs.Machine.State.{Found}
use Rattle.flow_model.specs.Machine.Words.{finds, run_over, pick_over, first_pick_over, body_over, value_over, picks_of_found}
use Rattle.flow_model.proofs.Opening.OpeningLists.{picks-fit, picked-listed, candidate-earlier}
use Rattle.flow_model.proofs.Values.FoundByReads.{same-equal, same-turned, AgreeOn, finds-same, value-same}
use Rattle.flow_model.proofs.General.AnyAndAll.{any-alike, any-none}

-- ---- nodes over a list of values

pick-is : (vals : Values) (r : Result ℕ Fault) → pick_of vals r ≡ pick_over (at vals) r
pick-is vals (Ok c) = refl
pick-is vals (Err f) = refl

abbrev selections : (ℕ → Value) → List Selector → List (Result ℕ Fault)
selections read selectors = map (λ (selector : Selector). select (run_over selector.script selector.inputs read (Faulty Kind)) selector.candidates) selectors

picks-are : (vals : Values) (selectors : List Selector) → map (pick vals) selectors ≡ map (pick_over (at vals)) (selections (at vals) selectors)
picks-are vals [] = refl
picks-are vals (x ∷ xs) = ap (λ (v : Value). v ∷ map (pick vals) xs) (pick-is vals (selected vals x)) ∙ ap (λ (vs : List Value). pick_over (at vals) (selected vals x) ∷ vs) (picks-are vals xs)

first-is : (vals : Values) (selectors : List Selector) → first_pick vals selectors ≡ first_pick_over (at vals) (selections (at vals) selectors)
first-is vals [] = refl
first-is vals (x ∷ xs) = pick-is vals (selected vals x)

choose-is : (vals : Values) (selectors : List Selector) (body : Option Scripted) → choose_value selectors body vals ≡ body_over body (at vals) (selections (at vals) selectors)
choose-is vals selectors None = first-is vals selectors
choose-is vals selectors (Some body) = ap (eval_body body.tree) (picks-are vals selectors)

taken-are : (vals : Values) (selectors : List Selector) → map taken (selections (at vals) selectors) ≡ map (λ (selector : Selector). taken (selected vals selector)) selectors
taken-are vals [] = refl
taken-are vals (x ∷ xs) = ap (λ (ps : List (Option ℕ)). taken (selected vals x) ∷ ps) (taken-are vals xs)

-- the picks of what is found over values
found-picks : (node : Node) (vals : Values) (acc : Value) → picks_of_found (Some (finds node (at vals) acc)) ≡ picks_of node vals
found-picks (Source v) vals acc = refl
found-picks (Signal script inputs) vals acc = refl
found-picks (Fold v script inputs) vals acc = refl
found-picks (Choose selectors body inputs) vals acc = taken-are vals selectors

-- a new value is the value of what is found, at a fold where an input differs
new-made : (node : Node) (set old : Value) (before vals : Values) → is_source node ≡ false → ((v : Value) (script : Scripted) (inputs : List ℕ) → node ≡ Fold v script inputs → list_any (differs before vals) inputs ≡ true)
    → new_value node set old before vals ≡ value_over (body_of node) (at vals) (finds node (at vals) old)
new-made (Source v) set old before vals e k = absurd (true≢false e)
new-made (Signal script inputs) set old before vals e k = refl
new-made (Fold v script inputs) set old before vals e k = ap (λ (b : Bool). if b then run script inputs vals old else old) (k v script inputs refl)
new-made (Choose selectors body inputs) set old before vals e k = choose-is vals selectors body

none-differ : (before vals : Values) (ns : List ℕ) → AgreeOn ns (at vals) (at before) → list_any (differs before vals) ns ≡ false
none-differ before vals [] e = refl
none-differ before vals (n ∷ ns) e =
    let a = e n (or_left _ _ (eq-eqb n n refl)) in
    let s = same-equal (at before n) (at vals n) (sym a) in
    let r = none-differ before vals ns (λ m k. e m (or_right _ _ k)) in
    ap (λ (b : Bool). not b || list_any (differs before vals) ns) s ∙ r

-- a node whose inputs and picks have their values of before has its own
new-kept : (node : Node) (set old kept : Value) (before vals : Values) → is_source node ≡ false → old ≡ node_value node kept before → AgreeOn (inputs_of node) (at vals) (at before)
    → value_over (body_of node) (at vals) (finds node (at vals) old) ≡ value_over (body_of node) (at before) (finds node (at before) old) → new_value node set old before vals ≡ old
new-kept (Source v) set old kept before vals e q a w = absurd (true≢false e)
new-kept (Signal script inputs) set old kept before vals e q a w = w ∙ sym q
new-kept (Fold v script inputs) set old kept before vals e q a w = ap (λ (b : Bool). if b then run script inputs vals old else old) (none-differ before vals inputs a)
new-kept (Choose selectors body inputs) set old kept before vals e q a w = choose-is vals selectors body ∙ w ∙ sym (choose-is before selectors body) ∙ sym q

pub source-picks : (node : Node) (vals : Values) → is_source node ≡ true → picks_of node vals ≡ []
source-picks (Source v) vals e = refl
source-picks (Signal script inputs) vals e = absurd (true≢false (sym e))
source-picks (Fold v script inputs) vals e = absurd (true≢false (sym e))
source-picks (Choose selectors body inputs) vals e = absurd (true≢false (sym e))

fold-picks : (node : Node) (vals : Values) (v : Value) (script : Scripted) (inputs : List ℕ) → node ≡ Fold v script inputs → (nodes_in (picks_of node vals) ≡ []) × (inputs_of node ≡ inputs)
fold-picks node vals v script inputs e = (ap (λ (x : Node). nodes_in (picks_of x vals)) e, ap inputs_of e)

-- ---- what a call has done

-- the node's value is made over what is read at its inputs and picks
pub record IsMade (node : Node) (old : Value) (new : ℕ → Value) (value : Value) (ps : List (Option ℕ)) : Type 0 where
  pub read : ℕ → Value
  pub inputs : AgreeOn (inputs_of node) read new
  pub picked : AgreeOn (nodes_in ps) read new
  pub value_is : value ≡ value_over (body_of node) read (finds node read old)
  pub picks_are : ps ≡ picks_of_found (Some (finds node read old))

-- The new values and picks of all nodes, and which changed, from the values before the call and what it sets: each node
-- that rests on none that changed keeps its own, and each other's are made.
pub record IsCallDone (graph : Graph) (kept before set after : Values) (new : ℕ → Value) (new_picks : ℕ → List (Option ℕ)) (changed : ℕ → Bool) : Type 0 where
  pub before_is : (n : ℕ) → n < length graph.nodes → at before n ≡ node_value (node_at graph n) (at kept n) before
  pub after_is : (n : ℕ) → n < length graph.nodes → at after n ≡ new_value (node_at graph n) (at set n) (at before n) before after
  pub changed_is : (n : ℕ) → n < length graph.nodes → changed n ≡ not (same (new n) (at before n))
  pub source : (n : ℕ) → n < length graph.nodes → is_source (node_at graph n) ≡ true → new n ≡ at set n
  pub no_picks : (n : ℕ) → n < length graph.nodes → is_source (node_at graph n) ≡ true → new_picks n ≡ []
  pub keeps : (n : ℕ) → n < length graph.nodes → is_source (node_at graph n) ≡ false → list_any changed (inputs_of (node_at graph n) ++ nodes_in (picks_of (node_at graph n) before)) ≡ false
      → (new n ≡ at before n) × (new_picks n ≡ picks_of (node_at graph n) before)
  pub makes : (n : ℕ) → n < length graph.nodes → is_source (node_at graph n) ≡ false → list_any changed (inputs_of (node_at graph n) ++ nodes_in (picks_of (node_at graph n) before)) ≡ true
      → IsMade (node_at graph n) (at before n) new (new n) (new_picks n)

module _ (graph : Graph) (g : IsGraph graph) (kept set next : Values) (new : ℕ → Value) (new_picks : ℕ → List (Option ℕ)) (changed : ℕ → Bool)
    (earlier : (n m : ℕ) → n < length graph.nodes → is_in m (inputs_of (node_at graph n)) ≡ true → m < n)
    (d : IsCallDone graph kept (values graph kept) set (values graph next) new new_picks changed) where
  abbrev before_call : Values
  before_call = values graph kept

  abbrev after_call : Values
  after_call = values graph next

  abbrev IsRight : ℕ → Type 0
  IsRight n = (new n ≡ at after_call n) × (new_picks n ≡ picks_of (node_at graph n) after_call)

  below-length : (n m : ℕ) → n < length graph.nodes → m < n → m < length graph.nodes
  below-length n m h k = omega arith

  -- What did not change has its value of before, in the new values and in the machine's.
  not_changed : (m : ℕ) → m < length graph.nodes → changed m ≡ false → new m ≡ at before_call m
  not_changed m h k = same-is (new m) (at before_call m) (turned (same (new m) (at before_call m)) (sym (d.changed_is m h) ∙ k))
    where
      turned : (b : Bool) → not b ≡ false → b ≡ true
      turned true e = refl
      turned false e = absurd (true≢false e)

  pick-earlier : (vals : Values) (n m : ℕ) → n < length graph.nodes → is_in m (nodes_in (picks_of (node_at graph n) (values graph vals))) ≡ true → m < n
  pick-earlier vals n m h k = candidate-earlier graph g n m h (picked-listed (selectors_of (node_at graph n)) (picks graph vals n) m (picks-fit graph vals n) k)

  input-right : (n : ℕ) → n < length graph.nodes → ((m : ℕ) → m < n → IsRight m) → (m : ℕ) → is_in m (inputs_of (node_at graph n)) ≡ true → new m ≡ at after_call m
  input-right n h right m k = (right m (earlier n m h k)).0

  -- a node that rests on none that changed
  kept-right : (n : ℕ) → n < length graph.nodes → ((m : ℕ) → m < n → IsRight m) → is_source (node_at graph n) ≡ false → list_any changed (inputs_of (node_at graph n) ++ nodes_in (picks_of (node_at graph n) before_call)) ≡ false → IsRight n
  kept-right n h right e none =
      let k = d.keeps n h e none in (
        k.0 ∙ sym (new-kept node (at set n) old (at kept n) before_call after_call e (d.before_is n h) agree whole) ∙ sym (d.after_is n h),
        k.1 ∙ sym (found-picks node before_call old) ∙ sym (ap (λ (f : Found). picks_of_found (Some f)) found) ∙ found-picks node after_call old,
      )
    where
      node : Node
      node = node_at graph n

      old : Value
      old = at before_call n

      parts : (list_any changed (inputs_of node) || list_any changed (nodes_in (picks_of node before_call))) ≡ false
      parts = sym (list_any-append changed (inputs_of node) (nodes_in (picks_of node before_call))) ∙ none

      neither : (a b : Bool) → (a || b) ≡ false → (a ≡ false) × (b ≡ false)
      neither true b x = absurd (true≢false x)
      neither false b x = (refl, x)

      agree : AgreeOn (inputs_of node) (at after_call) (at before_call)
      agree m k = sym (input-right n h right m k) ∙ not_changed m (below-length n m h (earlier n m h k)) (any-none changed (inputs_of node) m (neither (list_any changed (inputs_of node)) (list_any changed (nodes_in (picks_of node before_call))) parts).0 k)

      picked : AgreeOn (nodes_in (picks_of node before_call)) (at after_call) (at before_call)
      picked m k =
          let l = pick-earlier kept n m h k in
          sym (right m l).0 ∙ not_changed m (below-length n m h l) (any-none changed (nodes_in (picks_of node before_call)) m (neither (list_any changed (inputs_of node)) (list_any changed (nodes_in (picks_of node before_call))) parts).1 k)

      found : finds node (at after_call) old ≡ finds node (at before_call) old
      found = finds-same graph g n h (at after_call) (at before_call) old agree

      whole : value_over (body_of node) (at after_call) (finds node (at after_call) old) ≡ value_over (body_of node) (at before_call) (finds node (at before_call) old)
      whole = ap (value_over (body_of node) (at after_call)) found
          ∙ value-same (body_of node) (at after_call) (at before_call) (finds node (at before_call) old) (λ m k. picked m (subst (λ (ps : List (Option ℕ)). is_in m (nodes_in ps) ≡ true) (found-picks node before_call old) k))

  -- a node that is made
  made-right : (n : ℕ) → n < length graph.nodes → ((m : ℕ) → m < n → IsRight m) → is_source (node_at graph n) ≡ false → list_any changed (inputs_of (node_at graph n) ++ nodes_in (picks_of (node_at graph n) before_call)) ≡ true → IsRight n
  made-right n h right e some = (
    k.value_is
        ∙ value-same (body_of node) k.read (at after_call) (finds node k.read old) (λ m j. picked m (subst (λ (ps : List (Option ℕ)). is_in m (nodes_in ps) ≡ true) (sym k.picks_are) j))
        ∙ ap (value_over (body_of node) (at after_call)) found
        ∙ sym (new-made node (at set n) old before_call after_call e folds) ∙ sym (d.after_is n h),
    picks_right,
  )
    where
      node : Node
      node = node_at graph n

      old : Value
      old = at before_call n

      k : IsMade node old new (new n) (new_picks n)
      k = d.makes n h e some

      found : finds node k.read old ≡ finds node (at after_call) old
      found = finds-same graph g n h k.read (at after_call) old (λ m j. k.inputs m j ∙ input-right n h right m j)

      picks_right : new_picks n ≡ picks_of node after_call
      picks_right = k.picks_are ∙ ap (λ (f : Found). picks_of_found (Some f)) found ∙ found-picks node after_call old

      picked : AgreeOn (nodes_in (new_picks n)) k.read (at after_call)
      picked m j = k.picked m j ∙ (right m (pick-earlier next n m h (subst (λ (ps : List (Option ℕ)). is_in m (nodes_in ps) ≡ true) picks_right j))).0

      differ : (m : ℕ) → is_in m (inputs_of node) ≡ true → changed m ≡ differs before_call after_call m
      differ m j = d.changed_is m (below-length n m h (earlier n m h j)) ∙ ap not (same-turned (new m) (at before_call m) ∙ ap (same (at before_call m)) (input-right n h right m j))

      no_more : (ns : List ℕ) → list_any changed (ns ++ []) ≡ list_any changed ns
      no_more [] = refl
      no_more (x ∷ xs) = ap (λ (b : Bool). changed x || b) (no_more xs)

      folds : (v : Value) (script : Scripted) (inputs : List ℕ) → node ≡ Fold v script inputs → list_any (differs before_call after_call) inputs ≡ true
      folds v script inputs is =
          let p = fold-picks node before_call v script inputs is in
          subst (λ (ns : List ℕ). list_any (differs before_call after_call) ns ≡ true) p.1
          (sym (any-alike changed (differs before_call after_call) (inputs_of node) differ) ∙ sym (no_more (inputs_of node)) ∙ ap (λ (ns : List ℕ). list_any changed (inputs_of node ++ ns)) (sym p.0) ∙ some)

  right-at : (n : ℕ) → n < length graph.nodes → ((m : ℕ) → m < n → IsRight m) → IsRight n
  right-at n h right = go (is_source (node_at graph n)) refl
    where
      go : (b : Bool) → is_source (node_at graph n) ≡ b → IsRight n
      go true e = (
        d.source n h e ∙ sym (source_value (node_at graph n) (at set n) (at before_call n) before_call after_call e) ∙ sym (d.after_is n h),
        d.no_picks n h e ∙ sym (source-picks (node_at graph n) after_call e),
      )
      go false e = two (cases_Bool (list_any changed (inputs_of (node_at graph n) ++ nodes_in (picks_of (node_at graph n) before_call))))
        where
          two : (list_any changed (inputs_of (node_at graph n) ++ nodes_in (picks_of (node_at graph n) before_call)) ≡ true) ⊎ (list_any changed (inputs_of (node_at graph n) ++ nodes_in (picks_of (node_at graph n) before_call)) ≡ false) → IsRight n
          two (inl x) = made-right n h right e x
          two (inr x) = kept-right n h right e x

  all-right : (k n : ℕ) → n < k → n < length graph.nodes → IsRight n
  all-right zero n l h = absurd (omega arith)
  all-right (suc k) n l h = right-at n h (λ m j. all-right k m (omega arith) (below-length n m h j))

  -- The new values and picks are the machine's.
  pub call-right : (n : ℕ) → n < length graph.nodes → IsRight n
  call-right n h = all-right (suc n) n (omega arith) h
