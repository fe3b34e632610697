-- A node rests on earlier nodes alone.
use Rattle.std.proofs.Common.{◌≡◌, ℕ, ◌<◌, Bool, true, false, ◌||◌, ◌==◌, ◌⊎◌, inl, inr, refl, sym, ap, arith, List, [], ◌∷◌, length, true≢false, ◌∙◌, subst, Option, Some, None, if◌then◌else◌}
use Rattle.std.specs.List.{AllByRecursion, AllZip}
use Rattle.std.specs.Option.{option_or}
use Rattle.std.proofs.lemmas.List.Folds.{list_any-append}
use Rattle.std.proofs.lemmas.Bool.{or_cases, or_left, or_right, eqb-true, eq-eqb, false_from_ne_true, both_ways, cases_Bool}
use Rattle.signal_graph.specs.declared.node.Selector.{Selector}
use Rattle.signal_graph.specs.declared.node.Node.{Node}
use Rattle.signal_graph.specs.declared.node.Node.TheVariants.{Source, Signal, Fold, Choose}
use Rattle.signal_graph.specs.Graph.{Graph, IsGraph, IsNode, IsSelector, node_at, is_in, inputs_of, inputs_of_all, different_from, selectors_of}
use Rattle.signal_graph.specs.Values.{nodes_in}
use Rattle.node_versions.specs.declared.entry.Entry.{Entry}
use Rattle.node_versions.specs.Entries.{IsUnique, is_done, has, at, before, up_to, last_done, only_done, state_of, picks_of, picks_at}
use Rattle.node_versions.proofs.Collecting.{last_is_done}
use Rattle.flow_model.specs.Machine.State.{Core, entries}
use Rattle.flow_model.specs.Machine.Words.{deps, prior_picks, is_prior}
use Rattle.flow_model.specs.Kept.Lawful.{IsLawful, IsPickOf, lists_candidate}
use Rattle.flow_model.proofs.Opening.OpeningLists.{in-below, nodes-at, candidate-earlier, picked-listed}
use Rattle.flow_model.proofs.OneList.InOrder.{last_done-has}
use Rattle.flow_model.proofs.OneList.OneEntryACall.{only_done-is, last_done-at}

in-different : (m : ℕ) (seen ns : List ℕ) → is_in m (different_from seen ns) ≡ true → is_in m ns ≡ true
in-different m seen [] h = h
in-different m seen (n ∷ ns) h = go (is_in n seen) (in-different m seen ns) (in-different m (n ∷ seen) ns) h
  where
    go : (b : Bool) → (is_in m (different_from seen ns) ≡ true → is_in m ns ≡ true) → (is_in m (different_from (n ∷ seen) ns) ≡ true → is_in m ns ≡ true) → is_in m (if b then different_from seen ns else n ∷ different_from (n ∷ seen) ns) ≡ true → is_in m (n ∷ ns) ≡ true
    go true f g k = or_right _ _ (f k)
    go false f g k = cases (or_cases _ _ k)
      where
        cases : ((n == m) ≡ true) ⊎ (is_in m (different_from (n ∷ seen) ns) ≡ true) → is_in m (n ∷ ns) ≡ true
        cases (inl e) = or_left _ _ e
        cases (inr e) = or_right _ _ (g e)

in-selectors : (names : List (List ℕ)) (n m : ℕ) (selectors : List Selector) → AllByRecursion (IsSelector names n) selectors → is_in m (inputs_of_all selectors) ≡ true → m < n
in-selectors names n m [] a h = absurd (true≢false (sym h))
in-selectors names n m (x ∷ xs) a h = go (or_cases _ _ (sym (list_any-append (λ y. y == m) x.inputs (inputs_of_all xs)) ∙ h)) (in-selectors names n m xs a.1)
  where
    go : (is_in m x.inputs ≡ true) ⊎ (is_in m (inputs_of_all xs) ≡ true) → (is_in m (inputs_of_all xs) ≡ true → m < n) → m < n
    go (inl e) further = in-below n m x.inputs a.0.inputs_earlier e
    go (inr e) further = further e

node-input : (names : List (List ℕ)) (n m : ℕ) (node : Node) → IsNode names n node → is_in m (inputs_of node) ≡ true → m < n
node-input names n m (Source v) a h = absurd (true≢false (sym h))
node-input names n m (Signal script inputs) a h = in-below n m inputs a.3 h
node-input names n m (Fold v script inputs) a h = in-below n m inputs a.3 h
node-input names n m (Choose selectors body inputs) a h = in-selectors names n m selectors a.2 (in-different m [] (inputs_of_all selectors) (subst (λ (xs : List ℕ). is_in m xs ≡ true) a.4 h))

input-earlier : (graph : Graph) → IsGraph graph → (n m : ℕ) → n < length graph.nodes → is_in m (inputs_of (node_at graph n)) ≡ true → m < n
input-earlier graph g n m h k = node-input graph.names n m (node_at graph n) (subst (λ (j : ℕ). IsNode graph.names j (node_at graph n)) (omega arith) (nodes-at graph.names 0 graph.nodes n _ g.nodes h)) k

-- ---- the picks before a call are those of an entry

before-has : (es : List Entry) (t u : ℕ) → has (before es t) u ≡ true → has es u ≡ true
before-has [] t u h = h
before-has (e ∷ es) t u h = let r = before-has es t u in grind (arith, r, h)

pub before-unique : (es : List Entry) (t : ℕ) → IsUnique es → IsUnique (before es t)
before-unique [] t q = tt
before-unique (e ∷ es) t q = go (e.version == t) (before-unique es t q.1)
  where
    go : (b : Bool) → IsUnique (before es t) → IsUnique (elim b as (λ _. List Entry) [ true ↦ [] | false ↦ e ∷ before es t ])
    go true r = tt
    go false r = (false_from_ne_true _ (λ k. both_ways _ q.0 (before-has es t e.version k)), r)

pub before-at : (test : _ → Bool) (es : List Entry) (t u : ℕ) → IsUnique es → has (before es t) u ≡ true → at test (before es t) u ≡ at test es u
before-at test [] t u q h = refl
before-at test (e ∷ es) t u q h = let r = before-at test es t u q.1 in grind (arith, r, h)

-- the last Done up to the last Done's own entry is that one
pub own-done : (es : List Entry) (x : Entry) → IsUnique es → last_done es ≡ Some x → last_done (up_to es x.version) ≡ Some x
own-done [] x q h = cc
own-done (e ∷ es) x q h = go (last_done es) refl h (own-done es x q.1)
  where
    go : (o : Option Entry) → last_done es ≡ o → option_or o (only_done e) ≡ Some x → (last_done es ≡ Some x → last_done (up_to es x.version) ≡ Some x) → last_done (up_to (e ∷ es) x.version) ≡ Some x
    go None k j further =
        let s = only_done-is e x j in
        let w : (e.version == x.version) ≡ true = eq-eqb e.version x.version (ap (λ (y : Entry). y.version) (sym s.0)) in
        rw (w, up_to) j
    go (Some y) k j further =
        let hx = last_done-has es x (k ∙ j) in
        let ne : (e.version == x.version) ≡ false = false_from_ne_true _ (λ w. both_ways _ q.0 (subst (λ (v : ℕ). has es v ≡ true) (sym (eqb-true e.version x.version w)) hx)) in
        rw (ne, up_to) (ap (λ (o : Option Entry). option_or o (only_done e)) (further (k ∙ j)))

-- of a list that begins another, the last Done up to its own entry is the same in both
pub before-up_to : (es : List Entry) (t u : ℕ) → has (before es t) u ≡ true → up_to (before es t) u ≡ up_to es u
before-up_to [] t u h = refl
before-up_to (e ∷ es) t u h = go (cases_Bool (e.version == t)) (before-up_to es t u)
  where
    go : ((e.version == t) ≡ true) ⊎ ((e.version == t) ≡ false) → (has (before es t) u ≡ true → up_to (before es t) u ≡ up_to es u) → up_to (before (e ∷ es) t) u ≡ up_to (e ∷ es) u
    go (inl w) further = let k : has [] u ≡ true = rw (w, before) at h in absurd (true≢false (sym k))
    go (inr w) further = rw (w, before) (cases (cases_Bool (e.version == u)))
      where
        cases : ((e.version == u) ≡ true) ⊎ ((e.version == u) ≡ false) → up_to (e ∷ before es t) u ≡ up_to (e ∷ es) u
        cases (inl v) = rw (v, up_to) refl
        cases (inr v) =
            let k : has (e ∷ before es t) u ≡ true = rw (w, before) at h in
            let k2 : has (before es t) u ≡ true = subst (λ (b : Bool). (b || has (before es t) u) ≡ true) v k in
            rw (v, up_to) (ap (λ (xs : List Entry). e ∷ xs) (further k2))

-- Prior picks are candidates.
pub prior-listed : (graph : Graph) (s : Core) → IsLawful graph s → (t n m : ℕ) → is_prior s t n m ≡ true → lists_candidate m (selectors_of (node_at graph n)) ≡ true
prior-listed graph s h t n m p = go (last_done (before (entries s n) t)) refl p
  where
    go : (o : Option Entry) → last_done (before (entries s n) t) ≡ o → is_in m (nodes_in (picks_of (state_of o))) ≡ true → lists_candidate m (selectors_of (node_at graph n)) ≡ true
    go None e k = absurd (true≢false (sym k))
    go (Some x) e k =
        let b = before (entries s n) t in
        let q = before-unique (entries s n) t (h.one_entry n) in
        let hx = last_done-has b x e in
        let d : at is_done (entries s n) x.version ≡ true = sym (before-at is_done (entries s n) t x.version (h.one_entry n) hx) ∙ last_done-at is_done b x q e ∙ last_is_done b x e in
        let own : picks_at (entries s n) x.version ≡ picks_of x.state = ap (λ (es : List Entry). picks_of (state_of (last_done es))) (sym (before-up_to (entries s n) t x.version hx)) ∙ ap (λ (o : Option Entry). picks_of (state_of o)) (own-done b x q e) in
        picked-listed (selectors_of (node_at graph n)) (picks_of x.state) m (subst (AllZip IsPickOf (selectors_of (node_at graph n))) own (h.picks_fit x.version n d)) k

pub dep-earlier : (graph : Graph) → IsGraph graph → (s : Core) → IsLawful graph s → (t n m : ℕ) → n < length graph.nodes → is_in m (deps graph s t n) ≡ true → m < n
dep-earlier graph g s h t n m l k = go (or_cases _ _ (sym (list_any-append (λ x. x == m) (inputs_of (node_at graph n)) (prior_picks s t n)) ∙ k))
  where
    go : (is_in m (inputs_of (node_at graph n)) ≡ true) ⊎ (is_in m (prior_picks s t n) ≡ true) → m < n
    go (inl i) = input-earlier graph g n m l i
    go (inr p) = candidate-earlier graph g n m l (prior-listed graph s h t n m p)
