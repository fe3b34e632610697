-- What a lawful state says of a book and lists that are its.
use Rattle.std.proofs.Common.{◌≡◌, ℕ, ◌<◌, Bool, true, false, ◌&&◌, List, length, Option, Some, refl, sym, ap₂, ◌∙◌, subst, arith}
use Rattle.std.specs.Option.{IsSome}
use Rattle.script_tree.proofs.Truths.{and_left, and_right}
use Rattle.signal_graph.specs.Graph.{Graph, is_in}
use Rattle.node_versions.specs.Entries.{Versions, has, before, last_done, first_open, picks_before}
use Rattle.flow_model.specs.Machine.State.{Core, executes}
use Rattle.flow_model.specs.Machine.Words.{heads, is_some_of}
use Rattle.flow_model.specs.Parts.Books.{Book, bare}
use Rattle.flow_model.proofs.OneStep.WhoMayStep.{executes-live}
use Rattle.flow_model.proofs.Wants.EarlierNodes.{dep-earlier}
use Rattle.flow_state.specs.Booked.{Booked, node_count}
use Rattle.flow_state.specs.Fitting.{IsBookOf}
use Rattle.flow_state.proofs.Fits.{fits_node, heads_has, lawful_before}
use Rattle.step_rules.specs.Rests.{AreBelow, rests_on}
use Rattle.step_rules.specs.Fits.{IsWholeOf, IsWhole}
use Rattle.step_rules.specs.Fronts.{is_first, picks_if}

-- ---- nodes

pub node_inside : (graph : Graph) (s : Core) (book : Booked) (n : ℕ) → IsBookOf graph s book → n < length graph.nodes → n < node_count book
node_inside graph s book n fits h = fits_node graph s book n fits (subst (λ (j : ℕ). n < j) (sym fits.lawful.lists) h)

pub listed_known : (graph : Graph) (book : Booked) (lists : ℕ → Versions) (count n : ℕ) → IsWhole graph book lists count → n < count → n < length graph.nodes
listed_known graph book lists count n w h = subst (λ (j : ℕ). n < j) w.whole.many h

pub rests_below : (graph : Graph) (book : Booked) (lists : ℕ → Versions) (count t n : ℕ) → IsWhole graph book lists count → n < count
    → AreBelow (node_count book) (rests_on graph n (picks_before (lists n).entries t))
rests_below graph book lists count t n w h m k =
    let l = listed_known graph book lists count n w h in
    let s = w.state in
    let e = dep-earlier graph w.whole.fits.is_graph s w.whole.fits.lawful t n m l (subst (λ (v : Versions). is_in m (rests_on graph n (picks_before v.entries t)) ≡ true) (w.whole.each n h) k) in
    node_inside graph s book m w.whole.fits (omega (arith, l, e))

-- ---- the first Frame of a list

first-is : (graph : Graph) (s : Core) (book : Booked) (lists : ℕ → Versions) (count t n : ℕ) → IsWholeOf graph s book lists count → n < count
    → is_first book (lists n).entries t ≡ (executes s t && heads s t n)
first-is graph s book lists count t n w h = ap₂ (λ (b : Book) (v : Versions). executes (bare b) t && is_some_of (first_open v.entries) t) w.fits.parts (w.each n h)

pub first_has : (graph : Graph) (book : Booked) (lists : ℕ → Versions) (count t n : ℕ) → IsWhole graph book lists count → n < count
    → is_first book (lists n).entries t ≡ true → has (lists n).entries t ≡ true
first_has graph book lists count t n w h k =
    let s = w.state in
    let both = sym (first-is graph s book lists count t n w.whole h) ∙ k in
    subst (λ (v : Versions). has v.entries t ≡ true) (sym (w.whole.each n h)) (heads_has graph s n t w.whole.fits.lawful (and_right (executes s t) (heads s t n) both))

pub first_done : (graph : Graph) (book : Booked) (lists : ℕ → Versions) (count t n : ℕ) → IsWhole graph book lists count → n < count
    → is_first book (lists n).entries t ≡ true → IsSome (last_done (before (lists n).entries t))
first_done graph book lists count t n w h k =
    let s = w.state in
    let lawful = w.whole.fits.lawful in
    let both = sym (first-is graph s book lists count t n w.whole h) ∙ k in
    subst (λ (v : Versions). IsSome (last_done (before v.entries t))) (sym (w.whole.each n h))
    (lawful_before graph s n t lawful (executes-live s t (and_left (executes s t) (heads s t n) both)) (heads_has graph s n t lawful (and_right (executes s t) (heads s t n) both)))

-- ---- picks under a condition

pub picks_are : (b : Bool) (picks some : List (Option ℕ)) → picks_if b picks ≡ Some some → some ≡ picks
picks_are true picks some e = cc
picks_are false picks some e = absurd (cc)

pub picks_there : (b : Bool) (picks some : List (Option ℕ)) → picks_if b picks ≡ Some some → b ≡ true
picks_there true picks some e = refl
picks_there false picks some e = absurd (cc)

-- ---- picks of a node where a call works

-- They are the picks before the call, and so what the node rests on is of the graph.
pub given_below : (graph : Graph) (book : Booked) (lists : ℕ → Versions) (count t n : ℕ) (b : Bool) (picks : List (Option ℕ)) → IsWhole graph book lists count → n < count
    → Some picks ≡ picks_if b (picks_before (lists n).entries t) → AreBelow (node_count book) (rests_on graph n picks)
given_below graph book lists count t n b picks w h e =
    subst (λ (ps : List (Option ℕ)). AreBelow (node_count book) (rests_on graph n ps)) (sym (picks_are b (picks_before (lists n).entries t) picks (sym e))) (rests_below graph book lists count t n w h)
