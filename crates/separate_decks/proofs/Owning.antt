-- Each source and each fold of a separate deck has an owner: no other thread sets anything that it follows.
use Rattle.std.proofs.Common.{◌≡◌, ℕ, zero, suc, ◌+◌, ◌<◌, Bool, true, false, List, [], ◌∷◌, length, refl, sym, ap, ◌∙◌, subst, arith, true≢false, ◌⊎◌, inl, inr}
use Rattle.std.specs.Prelude.{◌==◌, ◌||◌}
use Rattle.std.specs.List.{AllByRecursion, list_any}
use Rattle.std.proofs.lemmas.Bool.Decides.{eqb_tells}
use Rattle.std.proofs.Math.Bool.{or-true}
use Rattle.std.proofs.lemmas.Bool.{or_parts, or_cases}
use Rattle.script_tree.proofs.Lists.{all_weaker}
use Rattle.signal_graph.specs.declared.node.Node.{Node}
use Rattle.signal_graph.specs.declared.node.Node.TheVariants.{Source, Signal, Fold, Choose}
use Rattle.signal_graph.specs.declared.call.Call.{Call}
use Rattle.signal_graph.specs.Graph.{Graph, node_at, kind_of, is_source, is_in, inputs_of, IsNode}
use Rattle.signal_graph.proofs.Members.{all-members}
use Rattle.call_log.specs.Made.{script_of}
use Rattle.separate_decks.specs.Separate.{sets_node, is_set_in, ThreadSets, Separate}
use Rattle.separate_decks.specs.Calls.{followed_by, Keeps, AreSources, SetsNone}
use Rattle.separate_decks.proofs.OneCall.{all_both}

-- a member that passes a test
any_in : (test : ℕ → Bool) (ms : List ℕ) → list_any test ms ≡ true → (m : ℕ) × (is_in m ms ≡ true) × (test m ≡ true)
any_in test [] e = absurd (true≢false (sym e))
any_in test (m ∷ ms) e = cases (or_cases (test m) (list_any test ms) e) (λ k. any_in test ms k)
  where
    cases : (test m ≡ true) ⊎ (list_any test ms ≡ true) → (list_any test ms ≡ true → (k : ℕ) × (is_in k ms ≡ true) × (test k ≡ true)) → (k : ℕ) × (is_in k (m ∷ ms) ≡ true) × (test k ≡ true)
    cases (inl here) later = let same : (m == m) ≡ true = grind (arith, eqb_tells) in (m, ap (λ b. b || is_in m ms) same, here)
    cases (inr there) later = let r = later there in (r.0, ap (λ b. (m == r.0) || b) r.1 ∙ or-true (m == r.0), r.2)

none_in : (test : ℕ → Bool) (ms : List ℕ) → list_any test ms ≡ false → AllByRecursion (λ m. test m ≡ false) ms
none_in test [] e = tt
none_in test (m ∷ ms) e = let parts = or_parts (test m) (list_any test ms) e in (parts.0, none_in test ms parts.1)

-- a number below n that passes a test, or none
first_or_none : (test : ℕ → Bool) (n : ℕ) → ((k : ℕ) × (k < n) × (test k ≡ true)) ⊎ ((k : ℕ) → k < n → test k ≡ false)
first_or_none test zero = inr (λ k low. absurd (omega arith))
first_or_none test (suc n) = cases (first_or_none test n) (test n) refl
  where
    cases : ((k : ℕ) × (k < n) × (test k ≡ true)) ⊎ ((k : ℕ) → k < n → test k ≡ false) → (b : Bool) → test n ≡ b → ((k : ℕ) × (k < suc n) × (test k ≡ true)) ⊎ ((k : ℕ) → k < suc n → test k ≡ false)
    cases (inl found) b e = let low = found.1 in inl (found.0, omega (arith, low), found.2)
    cases (inr none) true e = inl (n, omega arith, e)
    cases (inr none) false e = inr (λ k low. last k low (k == n) refl)
      where
        last : (k : ℕ) → k < suc n → (b : Bool) → (k == n) ≡ b → test k ≡ false
        last k low true same = let i : k ≡ n = grind (arith, eqb_tells, same) in ap test i ∙ e
        last k low false other =
            let ne : k ≡ n → ⊥ = λ i. grind (arith, eqb_tells, other) in
            let lower : k < n = grind arith in
            none k lower

-- a thread sets one of some nodes
touches : Graph → List (List Call) → List ℕ → ℕ → Bool
touches graph scripts ms k = list_any (λ m. is_set_in graph m (script_of scripts k)) ms

-- a caller's number, or 0, such that no other of the threads sets one of some nodes
pub record Owner (graph : Graph) (scripts : List (List Call)) (ms : List ℕ) : Type 0 where
  pub caller : ℕ
  pub is_one : (caller ≡ 0) ⊎ ((k : ℕ) × (k < length scripts) × (caller ≡ k + 1))
  pub others : (k : ℕ) → k < length scripts → (k + 1 == caller) ≡ false → AllByRecursion (λ m. is_set_in graph m (script_of scripts k) ≡ false) ms

-- nodes that are set by one thread alone have an owner
owner_of : (graph : Graph) (scripts : List (List Call)) (ms : List ℕ) → ((m l i j : ℕ) → is_in m ms ≡ true → is_in l ms ≡ true → ThreadSets graph scripts i m → ThreadSets graph scripts j l → i ≡ j) → Owner graph scripts ms
unfolding touches
owner_of graph scripts ms alone = cases (first_or_none (touches graph scripts ms) (length scripts))
  where
    cases : ((k : ℕ) × (k < length scripts) × (list_any (λ m. is_set_in graph m (script_of scripts k)) ms ≡ true)) ⊎ ((k : ℕ) → k < length scripts → list_any (λ m. is_set_in graph m (script_of scripts k)) ms ≡ false) → Owner graph scripts ms
    cases (inl found) =
        let one = any_in (λ m. is_set_in graph m (script_of scripts found.0)) ms found.2 in
        record {
          caller = found.0 + 1;
          is_one = inr (found.0, found.1, refl);
          others = λ k low other. all-members (λ m. is_set_in graph m (script_of scripts k) ≡ false) ms (λ m there. decide (is_set_in graph m (script_of scripts k)) (λ set. ne k other (alone one.0 m found.0 k one.1 there one.2 set)));
        }
      where
        ne : (k : ℕ) → (k + 1 == found.0 + 1) ≡ false → found.0 ≡ k → ⊥
        ne k other e = let same : k + 1 ≡ found.0 + 1 = omega (arith, e) in grind (arith, eqb_tells, other, same)

        decide : (b : Bool) → (b ≡ true → ⊥) → b ≡ false
        decide true h = absurd (h refl)
        decide false h = refl
    cases (inr none) = record {
      caller = 0;
      is_one = inl refl;
      others = λ k low other. none_in (λ m. is_set_in graph m (script_of scripts k)) ms (none k low);
    }

-- the nodes that a source or fold follows are sources
pub follows_sources : (graph : Graph) (scripts : List (List Call)) → Separate graph scripts → (n : ℕ) → n < length graph.nodes → (node : Node) → node_at graph n ≡ node → Keeps node → IsNode graph.names n node → AreSources graph (followed_by node n)
follows_sources graph scripts separate n within (Source start) e keeps is_node = ((within, ap is_source e), tt)
follows_sources graph scripts separate n within (Signal script inputs) e keeps is_node = absurd keeps
follows_sources graph scripts separate n within (Fold start script inputs) e keeps is_node =
    all_both (λ m. m < n) (λ m. is_source (node_at graph m) ≡ true) (λ m. (m < length graph.nodes) × (is_source (node_at graph m) ≡ true)) inputs (λ m low source. (omega (arith, low, within), source)) is_node.3
    (all-members (λ m. is_source (node_at graph m) ≡ true) inputs (λ m there. separate.inputs n m (within, ap kind_of e, ap (λ x. is_in m (inputs_of x)) e ∙ there)))
follows_sources graph scripts separate n within (Choose selectors body inputs) e keeps is_node = absurd keeps

only_one : (m n : ℕ) → is_in m (n ∷ []) ≡ true → n ≡ m
only_one m n e = cases (n == m) refl e
  where
    cases : (b : Bool) → (n == m) ≡ b → (b || false) ≡ true → n ≡ m
    cases true same k = grind (arith, eqb_tells, same)
    cases false other k = absurd (true≢false (sym k))

-- those of one source or fold are set by one thread alone
set_by_one : (graph : Graph) (scripts : List (List Call)) → Separate graph scripts → (n : ℕ) → n < length graph.nodes → (node : Node) → node_at graph n ≡ node → Keeps node → (m l i j : ℕ) → is_in m (followed_by node n) ≡ true → is_in l (followed_by node n) ≡ true → ThreadSets graph scripts i m → ThreadSets graph scripts j l → i ≡ j
set_by_one graph scripts separate n within (Source start) e keeps m l i j m_in l_in m_set l_set =
    separate.sources n i j within (ap is_source e)
    (subst (λ k. ThreadSets graph scripts i k) (sym (only_one m n m_in)) m_set)
    (subst (λ k. ThreadSets graph scripts j k) (sym (only_one l n l_in)) l_set)
set_by_one graph scripts separate n within (Signal script inputs) e keeps m l i j m_in l_in m_set l_set = absurd keeps
set_by_one graph scripts separate n within (Fold start script inputs) e keeps m l i j m_in l_in m_set l_set =
    separate.folds n m l i j
    (within, ap kind_of e, ap (λ x. is_in m (inputs_of x)) e ∙ m_in)
    (within, ap kind_of e, ap (λ x. is_in l (inputs_of x)) e ∙ l_in)
    m_set l_set
set_by_one graph scripts separate n within (Choose selectors body inputs) e keeps m l i j m_in l_in m_set l_set = absurd keeps

-- each source and each fold has an owner
pub owner_at : (graph : Graph) (scripts : List (List Call)) → Separate graph scripts → (n : ℕ) → n < length graph.nodes → Keeps (node_at graph n) → Owner graph scripts (followed_by (node_at graph n) n)
owner_at graph scripts separate n within keeps = owner_of graph scripts (followed_by (node_at graph n) n) (set_by_one graph scripts separate n within (node_at graph n) refl keeps)

-- calls that do not set some nodes, one by one
pub none_set : (graph : Graph) (ms : List ℕ) (calls : List Call) → AllByRecursion (λ m. is_set_in graph m calls ≡ false) ms → AllByRecursion (SetsNone graph ms) calls
none_set graph ms [] h = tt
none_set graph ms (call ∷ calls) h = (
  all_weaker (λ m. is_set_in graph m (call ∷ calls) ≡ false) (λ m. sets_node graph m call ≡ false) (λ m e. (or_parts (sets_node graph m call) (is_set_in graph m calls) e).0) ms h,
  none_set graph ms calls (all_weaker (λ m. is_set_in graph m (call ∷ calls) ≡ false) (λ m. is_set_in graph m calls ≡ false) (λ m e. (or_parts (sets_node graph m call) (is_set_in graph m calls) e).1) ms h),
)
