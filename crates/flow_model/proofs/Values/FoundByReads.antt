-- What a node finds, and the value of it, rest on what is read at its inputs and picks alone.
use Rattle.std.proofs.Common.{◌≡◌, ℕ, ◌<◌, Bool, true, false, ◌||◌, ◌==◌, ◌⊎◌, inl, inr, refl, sym, ap, List, [], ◌∷◌, length, map, true≢false, ◌∙◌, subst, Option, Some, None, Result, Ok, Err}
use Rattle.std.specs.Prelude.{if◌then◌else◌}
use Rattle.std.specs.List.{AllByRecursion}
use Rattle.std.proofs.lemmas.Bool.{or_cases, or_left, or_right, eqb-true, eq-eqb}
use Rattle.std.proofs.lemmas.List.Folds.{list_any-append}
use Rattle.script_tree.specs.declared.value.Fault.{Fault}
use Rattle.script_tree.specs.declared.value.Fault.TheVariants.{Kind}
use Rattle.script_tree.specs.declared.value.Value.{Value}
use Rattle.script_tree.specs.declared.value.Value.TheVariants.{Fault as Faulty}
use Rattle.script_tree.specs.Scripts.{Scripted}
use Rattle.script_tree.specs.Eval.{eval_script, eval_body}
use Rattle.signal_graph.specs.declared.node.Selector.{Selector}
use Rattle.signal_graph.specs.declared.node.Node.{Node}
use Rattle.signal_graph.specs.declared.node.Node.TheVariants.{Source, Signal, Fold, Choose}
use Rattle.signal_graph.specs.Graph.{Graph, IsGraph, node_at, is_in, inputs_of, inputs_of_all, different_from, IsNode}
use Rattle.signal_graph.specs.Values.{select, taken, nodes_in}
use Rattle.signal_graph.specs.Machine.{same}
use Rattle.signal_graph.proofs.SameValues.{same-is, same-self}
use Rattle.signal_graph.proofs.GraphNodes.{is_node_at}
use Rattle.flow_model.specs.Machine.State.{Found, Gives, Selects}
use Rattle.flow_model.specs.Machine.Words.{finds, run_over, pick_over, body_over, value_over, picks_of_found}

-- ---- equal values

pub same-equal : (u v : Value) → u ≡ v → same u v ≡ true
same-equal u v e = subst (λ (w : Value). same u w ≡ true) e (same-self u)

-- Which of two values comes first makes no difference.
pub same-turned : (u v : Value) → same u v ≡ same v u
same-turned u v = go (same u v) refl (same v u) refl
  where
    go : (a : Bool) → same u v ≡ a → (b : Bool) → same v u ≡ b → a ≡ b
    go true e true f = refl
    go false e false f = refl
    go true e false f = absurd (true≢false (sym (same-equal v u (sym (same-is u v e))) ∙ f))
    go false e true f = absurd (true≢false (sym (same-equal u v (sym (same-is v u f))) ∙ e))

-- ---- tests of the members of a list

-- ---- what a node finds

-- The readings agree at each node of a list.
abbrev pub AgreeOn : List ℕ → (ℕ → Value) → (ℕ → Value) → Type 0
AgreeOn ns read other = (m : ℕ) → is_in m ns ≡ true → read m ≡ other m

read-same : (ns : List ℕ) (read other : ℕ → Value) → AgreeOn ns read other → map read ns ≡ map other ns
read-same [] read other e = refl
read-same (n ∷ ns) read other e = ap (λ (v : Value). v ∷ map read ns) (e n (or_left _ _ (eq-eqb n n refl))) ∙ ap (λ (vs : List Value). other n ∷ vs) (read-same ns read other (λ m k. e m (or_right _ _ k)))

kept-different : (m : ℕ) (seen ns : List ℕ) → is_in m ns ≡ true → (is_in m seen || is_in m (different_from seen ns)) ≡ true
kept-different m seen [] h = absurd (true≢false (sym h))
kept-different m seen (n ∷ ns) h = go (is_in n seen) refl (or_cases _ _ h) (kept-different m seen ns) (kept-different m (n ∷ seen) ns)
  where
    go : (b : Bool) → is_in n seen ≡ b → ((n == m) ≡ true) ⊎ (is_in m ns ≡ true) → (is_in m ns ≡ true → (is_in m seen || is_in m (different_from seen ns)) ≡ true) → (is_in m ns ≡ true → (is_in m (n ∷ seen) || is_in m (different_from (n ∷ seen) ns)) ≡ true)
        → (is_in m seen || is_in m (if b then different_from seen ns else n ∷ different_from (n ∷ seen) ns)) ≡ true
    go true e (inl k) f g = or_left _ _ (subst (λ (j : ℕ). is_in j seen ≡ true) (eqb-true n m k) e)
    go true e (inr k) f g = f k
    go false e (inl k) f g = or_right (is_in m seen) (is_in m (n ∷ different_from (n ∷ seen) ns)) (or_left _ _ k)
    go false e (inr k) f g = turned (is_in m seen) (n == m) (is_in m (different_from (n ∷ seen) ns)) (g k)
      where
        turned : (a b c : Bool) → ((b || a) || c) ≡ true → (a || (b || c)) ≡ true
        turned true b c h = refl
        turned false true c h = refl
        turned false false c h = h

-- each selector's inputs are inputs of its node
abbrev HasInputs : List ℕ → Selector → Type 0
HasInputs inputs selector = (m : ℕ) → is_in m selector.inputs ≡ true → is_in m inputs ≡ true

selectors-inputs : (inputs : List ℕ) (selectors : List Selector) → ((m : ℕ) → is_in m (inputs_of_all selectors) ≡ true → is_in m inputs ≡ true) → AllByRecursion (HasInputs inputs) selectors
selectors-inputs inputs [] f = tt
selectors-inputs inputs (x ∷ xs) f = (
  λ m k. f m (list_any-append (λ y. y == m) x.inputs (inputs_of_all xs) ∙ or_left _ _ k),
  selectors-inputs inputs xs (λ m k. f m (list_any-append (λ y. y == m) x.inputs (inputs_of_all xs) ∙ or_right _ _ k)),
)

selections-same : (inputs : List ℕ) (selectors : List Selector) (read other : ℕ → Value) → AllByRecursion (HasInputs inputs) selectors → AgreeOn inputs read other
    → map (λ (selector : Selector). select (run_over selector.script selector.inputs read (Faulty Kind)) selector.candidates) selectors ≡ map (λ (selector : Selector). select (run_over selector.script selector.inputs other (Faulty Kind)) selector.candidates) selectors
selections-same inputs [] read other h e = refl
selections-same inputs (x ∷ xs) read other h e =
    let r = read-same x.inputs read other (λ m k. e m (h.0 m k)) in
    ap (λ (vs : List Value). select (eval_script x.script.tree vs (Faulty Kind)) x.candidates ∷ map (λ (selector : Selector). select (run_over selector.script selector.inputs read (Faulty Kind)) selector.candidates) xs) r
    ∙ ap (λ (rs : List (Result ℕ Fault)). select (run_over x.script x.inputs other (Faulty Kind)) x.candidates ∷ rs) (selections-same inputs xs read other h.1 e)

node_finds-same : (names : List (List ℕ)) (n : ℕ) (node : Node) (read other : ℕ → Value) (acc : Value) → IsNode names n node → AgreeOn (inputs_of node) read other → finds node read acc ≡ finds node other acc
node_finds-same names n (Source v) read other acc h e = refl
node_finds-same names n (Signal script inputs) read other acc h e = ap (λ (vs : List Value). Gives (eval_script script.tree vs (Faulty Kind))) (read-same inputs read other e)
node_finds-same names n (Fold v script inputs) read other acc h e = ap (λ (vs : List Value). Gives (eval_script script.tree vs acc)) (read-same inputs read other e)
node_finds-same names n (Choose selectors body inputs) read other acc h e = ap Selects (selections-same inputs selectors read other (selectors-inputs inputs selectors (λ m k. subst (λ (xs : List ℕ). is_in m xs ≡ true) (sym h.4) (kept-different m [] (inputs_of_all selectors) k))) e)

pub finds-same : (graph : Graph) → IsGraph graph → (n : ℕ) → n < length graph.nodes → (read other : ℕ → Value) (acc : Value) → AgreeOn (inputs_of (node_at graph n)) read other → finds (node_at graph n) read acc ≡ finds (node_at graph n) other acc
finds-same graph g n h read other acc e = node_finds-same graph.names n (node_at graph n) read other acc (is_node_at graph g n h) e

-- ---- the value of what is found

pick-same : (read other : ℕ → Value) (r : Result ℕ Fault) → AgreeOn (nodes_in (taken r ∷ [])) read other → pick_over read r ≡ pick_over other r
pick-same read other (Ok c) e = e c (or_left _ _ (eq-eqb c c refl))
pick-same read other (Err f) e = refl

head-picks : (r : Result ℕ Fault) (rest : List (Result ℕ Fault)) (m : ℕ) → is_in m (nodes_in (taken r ∷ [])) ≡ true → is_in m (nodes_in (map taken (r ∷ rest))) ≡ true
head-picks (Ok c) rest m h = or_left _ _ (only (c == m) h)
  where
    only : (a : Bool) → (a || false) ≡ true → a ≡ true
    only true k = refl
    only false k = k
head-picks (Err f) rest m h = absurd (true≢false (sym h))

tail-picks : (r : Result ℕ Fault) (rest : List (Result ℕ Fault)) (m : ℕ) → is_in m (nodes_in (map taken rest)) ≡ true → is_in m (nodes_in (map taken (r ∷ rest))) ≡ true
tail-picks (Ok c) rest m h = or_right _ _ h
tail-picks (Err f) rest m h = h

picks-same : (read other : ℕ → Value) (rs : List (Result ℕ Fault)) → AgreeOn (nodes_in (map taken rs)) read other → map (pick_over read) rs ≡ map (pick_over other) rs
picks-same read other [] e = refl
picks-same read other (r ∷ rs) e =
    ap (λ (v : Value). v ∷ map (pick_over read) rs) (pick-same read other r (λ m k. e m (head-picks r rs m k)))
    ∙ ap (λ (vs : List Value). pick_over other r ∷ vs) (picks-same read other rs (λ m k. e m (tail-picks r rs m k)))

pub body-same : (body : Option Scripted) (read other : ℕ → Value) (rs : List (Result ℕ Fault)) → AgreeOn (nodes_in (map taken rs)) read other → body_over body read rs ≡ body_over body other rs
body-same None read other [] e = refl
body-same None read other (r ∷ rs) e = pick-same read other r (λ m k. e m (head-picks r rs m k))
body-same (Some body) read other rs e = ap (eval_body body.tree) (picks-same read other rs e)

pub value-same : (body : Option Scripted) (read other : ℕ → Value) (f : Found) → AgreeOn (nodes_in (picks_of_found (Some f))) read other → value_over body read f ≡ value_over body other f
value-same body read other (Gives v) e = refl
value-same body read other (Selects rs) e = body-same body read other rs e
