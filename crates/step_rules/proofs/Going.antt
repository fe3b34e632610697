-- Going over lists of nodes and of picks, one item at a time.
use Rattle.std.proofs.Common.{◌≡◌, ℕ, zero, suc, ◌+◌, ◌<◌, Bool, true, false, ◌||◌, ◌&&◌, ◌==◌, List, [], ◌∷◌, length, drop, get_or, Option, Some, None, refl, sym, ap, ◌∙◌, subst, true≢false}
use Rattle.std.specs.Prelude.{slice_get}
use Rattle.std.specs.List.{list_any, list_all}
use Rattle.std.proofs.lemmas.List.Folds.{list_any-append}
use Rattle.std.proofs.lemmas.Bool.{or_left, or_right, eq-eqb}
use Rattle.script_tree.proofs.Lists.{drop_got}
use Rattle.signal_graph.specs.Graph.{Graph, is_in, node_at, inputs_of}
use Rattle.signal_graph.specs.Values.{nodes_in}
use Rattle.signal_graph.proofs.Members.{index-in, any-picks}
use Rattle.step_rules.specs.Rests.{AreBelow, rests_on}

-- ---- items

-- ---- picks

all-first : (test : ℕ → Bool) (pick : Option ℕ) (rest : List (Option ℕ)) → list_all test (nodes_in (pick ∷ rest)) ≡ (list_all test (nodes_in (pick ∷ [])) && list_all test (nodes_in rest))
all-first test None rest = refl
all-first test (Some n) rest = either (test n)
  where
    either : (b : Bool) → (b && list_all test (nodes_in rest)) ≡ ((b && true) && list_all test (nodes_in rest))
    either true = refl
    either false = refl

all-picks : (test : ℕ → Bool) (picks : List (Option ℕ)) (i : ℕ) (pick : Option ℕ) → slice_get picks i ≡ Some pick → list_all test (nodes_in (drop i picks)) ≡ (list_all test (nodes_in (pick ∷ [])) && list_all test (nodes_in (drop (i + 1) picks)))
all-picks test picks i pick h = ap (λ (ps : List (Option ℕ)). list_all test (nodes_in ps)) (drop_got picks i pick h) ∙ all-first test pick (drop (i + 1) picks)

pub any_picks_found : (test : ℕ → Bool) (picks : List (Option ℕ)) (i : ℕ) (pick : Option ℕ) (whole : Bool) → slice_get picks i ≡ Some pick → list_any test (nodes_in (drop i picks)) ≡ whole → list_any test (nodes_in (pick ∷ [])) ≡ true → true ≡ whole
any_picks_found test picks i pick whole h so k = sym (ap (λ (b : Bool). b || list_any test (nodes_in (drop (i + 1) picks))) k) ∙ sym (any-picks test picks i pick h) ∙ so

pub all_picks_failed : (test : ℕ → Bool) (picks : List (Option ℕ)) (i : ℕ) (pick : Option ℕ) (whole : Bool) → slice_get picks i ≡ Some pick → list_all test (nodes_in (drop i picks)) ≡ whole → list_all test (nodes_in (pick ∷ [])) ≡ false → false ≡ whole
all_picks_failed test picks i pick whole h so k = sym (ap (λ (b : Bool). b && list_all test (nodes_in (drop (i + 1) picks))) k) ∙ sym (all-picks test picks i pick h) ∙ so

-- ---- numbers below another

pub item_below : (count : ℕ) (xs : List ℕ) (i d : ℕ) → AreBelow count xs → i < length xs → get_or xs i d < count
item_below count xs i d all h = all (get_or xs i d) (index-in xs i d h)

pub pick_below : (count n : ℕ) → AreBelow count (nodes_in (Some n ∷ [])) → n < count
pick_below count n all = all n (or_left _ _ (eq-eqb n n refl))

pub picks_below : (count : ℕ) (picks : List (Option ℕ)) (i : ℕ) (pick : Option ℕ) → AreBelow count (nodes_in picks) → slice_get picks i ≡ Some pick → AreBelow count (nodes_in (pick ∷ []))
picks_below count [] i pick all h m k = absurd (none i h)
  where
    none : (i : ℕ) → slice_get {X = Option ℕ} [] i ≡ Some pick → ⊥
    none i h = cc
picks_below count (None ∷ picks) zero pick all h m k = absurd (true≢false (sym (subst (λ (o : Option ℕ). is_in m (nodes_in (o ∷ [])) ≡ true) same k)))
  where
    same : pick ≡ None
    same = cc
picks_below count (Some n ∷ picks) zero pick all h m k = all m (go (n == m) (subst (λ (o : Option ℕ). is_in m (nodes_in (o ∷ [])) ≡ true) same k))
  where
    same : pick ≡ Some n
    same = cc

    go : (b : Bool) → (b || false) ≡ true → (b || is_in m (nodes_in picks)) ≡ true
    go true k = refl
    go false k = absurd (true≢false (sym k))
picks_below count (None ∷ picks) (suc i) pick all h m k = picks_below count picks i pick all h m k
picks_below count (Some n ∷ picks) (suc i) pick all h m k = picks_below count picks i pick (λ j l. all j (or_right _ _ l)) h m k

pub inputs_below : (count : ℕ) (graph : Graph) (n : ℕ) (picks : List (Option ℕ)) → AreBelow count (rests_on graph n picks) → AreBelow count (inputs_of (node_at graph n))
inputs_below count graph n picks all m k = all m (list_any-append (λ y. y == m) (inputs_of (node_at graph n)) (nodes_in picks) ∙ or_left _ _ k)

pub prior_below : (count : ℕ) (graph : Graph) (n : ℕ) (picks : List (Option ℕ)) → AreBelow count (rests_on graph n picks) → AreBelow count (nodes_in picks)
prior_below count graph n picks all m k = all m (list_any-append (λ y. y == m) (inputs_of (node_at graph n)) (nodes_in picks) ∙ or_right _ _ k)
