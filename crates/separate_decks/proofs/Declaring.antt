-- The workload's nodes are those of a graph, and each fold goes over two sources of one thread.
use Rattle.std.proofs.Common.{◌≡◌, ℕ, zero, suc, ◌+◌, ◌-◌, ◌*◌, ◌<◌, ◌≤◌, Bool, true, false, List, [], ◌∷◌, ◌++◌, length, refl, sym, ap, ◌∙◌, subst, arith, length-append, None}
use Rattle.std.specs.Prelude.{IsTrue, pos, map, ◌==◌, if◌then◌else◌, slice_index_or}
use Rattle.std.specs.List.{AllByRecursion}
use Rattle.std.proofs.Math.Nat.{mod-lt}
use Rattle.std.proofs.lemmas.List.{length-map}
use Rattle.script_tree.specs.declared.value.Fault.TheVariants.{Kind}
use Rattle.script_tree.specs.declared.value.Value.TheVariants.{Int, Fault as Faulty}
use Rattle.script_tree.specs.declared.expr.Binary.TheVariants.{Add, Subtract}
use Rattle.script_tree.specs.Tree.{Input, Acc, Join}
use Rattle.script_tree.specs.Scripts.{all_leaves, pick_below, is_not_acc}
use Rattle.script_tree.specs.Names.{place_in}
use Rattle.signal_graph.specs.declared.node.NodeKind.TheVariants as kind
use Rattle.signal_graph.specs.declared.node.Node.{Node}
use Rattle.signal_graph.specs.declared.node.Node.TheVariants.{Source, Signal, Fold, Choose}
use Rattle.signal_graph.specs.declared.builder.DeclKind.{DeclKind}
use Rattle.signal_graph.specs.declared.builder.DeclKind.TheVariants as kinds
use Rattle.signal_graph.specs.Declarations.{IsDeclaration, choose_of, node_of}
use Rattle.signal_graph.specs.Graph.{Graph, node_at, kind_of, is_source, is_in, inputs_of, IsNode, AreNodes, IsGraph}
use Rattle.signal_graph.proofs.OnePassLaws.{in_all}
use Rattle.separate_decks.specs.Separate.{FoldsOver}
use Rattle.separate_decks.specs.Draws.{skip, draw}
use Rattle.separate_decks.specs.Workload.{all_names, name_of, two, second, over, fold, signal_tree, signal, choice_tree, choose, sources, folds, signals, rows, all_kinds}
use Rattle.separate_decks.proofs.Keeping.{fold_kept, signal_kept, choice_kept}
use Rattle.separate_decks.proofs.Naming.{length-all_names, all_different, place_of_name}

pub draw_low : (x j k : ℕ) → 0 < k → draw x j k < k
unfolding draw
draw_low x j k h = mod-lt _ h

-- what holds of each node with its number
abbrev pub Each : (ℕ → DeclKind → Type 0) → ℕ → List DeclKind → Type 0
Each P n [] = Unit {0}
Each P n (node ∷ rest) = P n node × Each P (n + 1) rest

each_append : (P : ℕ → DeclKind → Type 0) (n : ℕ) (xs ys : List DeclKind) → Each P n xs → Each P (n + length xs) ys → Each P n (xs ++ ys)
each_append P n [] ys h k = let e : n + 0 ≡ n = omega arith in subst (λ i. Each P i ys) e k
each_append P n (x ∷ xs) ys h k = let e : n + suc (length xs) ≡ n + 1 + length xs = omega arith in (h.0, each_append P (n + 1) xs ys h.1 (subst (λ i. Each P i ys) e k))

each_at : (P : ℕ → DeclKind → Type 0) (n : ℕ) (nodes : List DeclKind) (k : ℕ) → Each P n nodes → k < length nodes → P (n + k) (slice_index_or nodes k (kinds.Source (Faulty Kind)))
each_at P n [] k h low = absurd (omega arith)
each_at P n (node ∷ rest) zero h low = let e : n ≡ n + 0 = omega arith in subst (λ i. P i node) e h.0
each_at P n (node ∷ rest) (suc k) h low =
    let e : n + 1 + k ≡ n + suc k = omega arith in
    subst (λ i. P i (slice_index_or rest k (kinds.Source (Faulty Kind)))) e (each_at P (n + 1) rest k h.1 (omega arith))

-- where a node stands, and what a fold goes over
abbrev pub Stands : ℕ → Node → Type 0
Stands n (Source start) = Unit {0}
Stands n (Signal script inputs) = 72 ≤ n
Stands n (Fold start script inputs) = (64 ≤ n) × (n < 72) × AllByRecursion (λ m. (8 * (n - 64) ≤ m) × (m < 8 * (n - 64) + 8)) inputs
Stands n (Choose selectors body inputs) = 72 ≤ n

-- a node's facts, and those of what it is declared as
abbrev pub Right : ℕ → Node → Type 0
Right n node = IsNode all_names n node × Stands n node

abbrev pub Fits : ℕ → DeclKind → Type 0
Fits n kind = Right n (node_of all_names kind) × IsDeclaration kind

of_two : (P : ℕ → Type 0) (p q : ℕ) → P p → P q → AllByRecursion P (two p q)
of_two P p q h k = cases (p == q)
  where
    cases : (b : Bool) → AllByRecursion P (if b then p ∷ [] else p ∷ (q ∷ []))
    cases true = (h, tt)
    cases false = (h, (k, tt))

names_resolve : (ns : List ℕ) → map (λ n. slice_index_or all_names n []) ns ≡ map name_of ns
unfolding name_of
names_resolve ns = refl

-- the numbers of the names of nodes
places_of : (ns : List ℕ) → AllByRecursion (λ n. n < 216) ns → map (place_in all_names) (map name_of ns) ≡ ns
places_of [] h = refl
places_of (n ∷ ns) h = ap (λ k. k ∷ map (place_in all_names) (map name_of ns)) (place_of_name n h.0) ∙ ap (λ ks. n ∷ ks) (places_of ns h.1)

pub fold_leaves : (b : Bool) → IsTrue (all_leaves (pick_below 0) (Join Subtract (Join Add Acc (Input 0)) (if b then Input 0 else Input 1)))
fold_leaves true = refl
fold_leaves false = refl

fold_fits : (n a b : ℕ) → 64 ≤ n → n < 72 → (8 * (n - 64) ≤ a) × (a < 8 * (n - 64) + 8) → (8 * (n - 64) ≤ b) × (b < 8 * (n - 64) + 8) → Fits n (fold a b)
fold_fits n a b low high h k =
    let first = h.1 in
    let other = k.1 in (
      subst (λ ms. Right n (Fold (Int (pos 0)) (over (two a b) (Join Subtract (Join Add Acc (Input 0)) (second a b))) ms))
          (sym (places_of (two a b) (of_two (λ m. m < 216) a b (omega (arith, first, high)) (omega (arith, other, high))))) (
            (
              refl,
              fold_leaves (a == b),
              names_resolve (two a b),
              of_two (λ m. m < n) a b (omega (arith, first)) (omega (arith, other)),
              fold_kept a b (omega (arith, first, high)) (omega (arith, other, high)),
            ),
            (low, high, of_two (λ m. (8 * (n - 64) ≤ m) × (m < 8 * (n - 64) + 8)) a b h k),
          ),
      (refl, fold_leaves (a == b)),
    )

pub signal_no_acc : (r : ℕ) (b : Bool) → IsTrue (all_leaves is_not_acc (signal_tree r (Input 0) (if b then Input 0 else Input 1)))
signal_no_acc zero true = refl
signal_no_acc zero false = refl
signal_no_acc (suc zero) true = refl
signal_no_acc (suc zero) false = refl
signal_no_acc (suc (suc r)) true = refl
signal_no_acc (suc (suc r)) false = refl

pub signal_no_picks : (r : ℕ) (b : Bool) → IsTrue (all_leaves (pick_below 0) (signal_tree r (Input 0) (if b then Input 0 else Input 1)))
signal_no_picks zero true = refl
signal_no_picks zero false = refl
signal_no_picks (suc zero) true = refl
signal_no_picks (suc zero) false = refl
signal_no_picks (suc (suc r)) true = refl
signal_no_picks (suc (suc r)) false = refl

signal_fits : (n p q r : ℕ) → 72 ≤ n → n < 216 → p < n → q < n → Fits n (signal p q r)
signal_fits n p q r low high h k = (
  subst (λ ms. Right n (Signal (over (two p q) (signal_tree r (Input 0) (second p q))) ms))
      (sym (places_of (two p q) (of_two (λ m. m < 216) p q (omega arith) (omega arith)))) (
        (
          signal_no_acc r (p == q),
          signal_no_picks r (p == q),
          names_resolve (two p q),
          of_two (λ m. m < n) p q h k,
          signal_kept p q r (omega arith) (omega arith),
        ),
        low,
      ),
  (signal_no_acc r (p == q), signal_no_picks r (p == q)),
)

-- a choose with its inputs and candidates by number
abbrev choice : ℕ → List ℕ → List ℕ → Node
choice p inputs candidates = choose_of (record { script = over (p ∷ []) choice_tree; inputs = inputs; candidates = candidates } ∷ []) None

choose_fits : (n p a b c d : ℕ) → 72 ≤ n → n < 216 → p < n → a < n → b < n → c < n → d < n → Fits n (choose p (a ∷ (b ∷ (c ∷ (d ∷ [])))))
choose_fits n p a b c d low high hp ha hb hc hd =
    let candidates = a ∷ (b ∷ (c ∷ (d ∷ []))) in (
      subst (λ ms. Right n (choice p ms (map (place_in all_names) (map name_of candidates))))
          (sym (places_of (p ∷ []) (omega arith, tt)))
          (subst (λ ms. Right n (choice p (p ∷ []) ms))
          (sym (places_of candidates (omega arith, (omega arith, (omega arith, (omega arith, tt)))))) (
            (
              omega arith,
              omega arith,
              (
                record {
                  some = omega arith;
                  few = omega arith;
                  no_acc = refl;
                  no_picks = refl;
                  resolves = names_resolve (p ∷ []);
                  inputs_earlier = (hp, tt);
                  candidates_earlier = (ha, (hb, (hc, (hd, tt))));
                  kept = choice_kept p (omega arith);
                },
                tt,
              ),
              omega arith,
              refl,
              omega arith,
              tt,
            ),
            low,
          )),
      record {
        some = omega arith;
        few = omega arith;
        each = (record { some = omega arith; few = omega arith; no_acc = refl; no_picks = refl }, tt);
        body = omega arith;
        few_names = omega arith;
      },
    )

sources_fit : (n c x : ℕ) → Each Fits n (sources c x)
unfolding sources
sources_fit n zero x = tt
sources_fit n (suc c) x = (((refl, tt), refl), sources_fit (n + 1) c (skip 1 x))

folds_fit : (i c x : ℕ) → i + c ≤ 8 → Each Fits (64 + i) (folds i c x)
unfolding folds
folds_fit i zero x h = tt
folds_fit i (suc c) x h =
    let e : 64 + (i + 1) ≡ 64 + i + 1 = omega arith in
    let first = draw_low x 1 8 (omega arith) in
    let other = draw_low x 2 8 (omega arith) in (
      fold_fits (64 + i) (8 * i + draw x 1 8) (8 * i + draw x 2 8) (omega arith) (omega arith) (omega arith, omega (arith, first)) (omega arith, omega (arith, other)),
      subst (λ n. Each Fits n (folds (i + 1) c (skip 2 x))) e (folds_fit (i + 1) c (skip 2 x) (omega arith)),
    )

signals_fit : (m c x : ℕ) → 72 ≤ m → m + c ≤ 216 → Each Fits m (signals m c x)
unfolding signals
signals_fit m zero x h high = tt
signals_fit m (suc c) x h high = (
  signal_fits m (draw x 1 m) (draw x 2 m) (draw x 3 3) h (omega arith) (draw_low x 1 m (omega arith)) (draw_low x 2 m (omega arith)),
  signals_fit (m + 1) c (skip 3 x) (omega arith) (omega arith),
)

length-sources : (c x : ℕ) → length (sources c x) ≡ c
unfolding sources
length-sources zero x = refl
length-sources (suc c) x = ap (λ n. suc n) (length-sources c (skip 1 x))

length-folds : (i c x : ℕ) → length (folds i c x) ≡ c
unfolding folds
length-folds i zero x = refl
length-folds i (suc c) x = ap (λ n. suc n) (length-folds (i + 1) c (skip 2 x))

length-signals : (m c x : ℕ) → length (signals m c x) ≡ c
unfolding signals
length-signals m zero x = refl
length-signals m (suc c) x = ap (λ n. suc n) (length-signals (m + 1) c (skip 3 x))

length-rows : (m c x : ℕ) → length (rows m c x) ≡ 6 * c
unfolding rows
length-rows m zero x = refl
length-rows m (suc c) x =
    let rest = length-rows (m + 6) c (skip 20 x) in
    let five = length-signals m 5 x in
    length-append (signals m 5 x) _ ∙ (omega (arith, rest, five))

rows_fit : (m c x : ℕ) → 72 ≤ m → m + 6 * c ≤ 216 → Each Fits m (rows m c x)
unfolding rows
rows_fit m zero x h high = tt
rows_fit m (suc c) x h high =
    let y = skip 15 x in
    let five = length-signals m 5 x in
    let e : m + 5 ≡ m + length (signals m 5 x) = omega (arith, five) in
    let next : m + 6 ≡ m + 5 + 1 = omega arith in
    let low = λ (j : ℕ). draw_low y j (m + 5) (omega arith) in
    each_append Fits m (signals m 5 x) _ (signals_fit m 5 x h (omega arith))
    (subst (λ n. Each Fits n (choose (draw y 1 (m + 5)) (draw y 2 (m + 5) ∷ (draw y 3 (m + 5) ∷ (draw y 4 (m + 5) ∷ (draw y 5 (m + 5) ∷ [])))) ∷ rows (m + 6) c (skip 20 x))) e (
      choose_fits (m + 5) (draw y 1 (m + 5)) (draw y 2 (m + 5)) (draw y 3 (m + 5)) (draw y 4 (m + 5)) (draw y 5 (m + 5)) (omega arith) (omega arith) (low 1) (low 2) (low 3) (low 4) (low 5),
      subst (λ n. Each Fits n (rows (m + 6) c (skip 20 x))) next (rows_fit (m + 6) c (skip 20 x) (omega arith) (omega arith)),
    ))

pub length-all_kinds : (x : ℕ) → length (all_kinds x) ≡ 216
unfolding all_kinds
length-all_kinds x =
    let a = length-sources 64 x in
    let b = length-folds 0 8 (skip 64 x) in
    let c = length-rows 72 24 (skip 80 x) in
    length-append (sources 64 x) _ ∙ (let more = length-append (folds 0 8 (skip 64 x)) (rows 72 24 (skip 80 x)) in omega (arith, a, b, c, more))

pub nodes_fit : (x : ℕ) → Each Fits 0 (all_kinds x)
unfolding all_kinds
nodes_fit x =
    let a = length-sources 64 x in
    let b = length-folds 0 8 (skip 64 x) in
    let e : 64 + 0 ≡ 0 + length (sources 64 x) = omega (arith, a) in
    let f : 72 ≡ 64 + 0 + length (folds 0 8 (skip 64 x)) = omega (arith, b) in
    each_append Fits 0 (sources 64 x) _ (sources_fit 0 64 x)
    (subst (λ n. Each Fits n (folds 0 8 (skip 64 x) ++ rows 72 24 (skip 80 x))) e
    (each_append Fits (64 + 0) (folds 0 8 (skip 64 x)) (rows 72 24 (skip 80 x)) (folds_fit 0 8 (skip 64 x) (omega arith))
    (subst (λ n. Each Fits n (rows 72 24 (skip 80 x))) f (rows_fit 72 24 (skip 80 x) (omega arith) (omega arith)))))

pub are_nodes : (n : ℕ) (kinds : List DeclKind) → Each Fits n kinds → AreNodes all_names n (map (node_of all_names) kinds)
are_nodes n [] h = tt
are_nodes n (kind ∷ rest) h = (h.0.0.0, are_nodes (n + 1) rest h.1)

-- the workload's graph, all names known at once
abbrev pub made_graph : ℕ → Graph
made_graph number = record { names = all_names; nodes = map (node_of all_names) (all_kinds number) }

pub length-nodes : (number : ℕ) → length (made_graph number).nodes ≡ 216
length-nodes number = length-map (all_kinds number) (node_of all_names) ∙ length-all_kinds number

-- for each number there is a graph
pub is_graph : (number : ℕ) → IsGraph (made_graph number)
is_graph number =
    let named = length-all_names in
    let long = length-nodes number in
    record {
      named = named ∙ sym long;
      few = omega (arith, long);
      different_names = all_different;
      nodes = are_nodes 0 (all_kinds number) (nodes_fit number);
    }

mapped_at : (f : DeclKind → Node) (kinds : List DeclKind) (k : ℕ) (c : DeclKind) (d : Node) → k < length kinds → slice_index_or (map f kinds) k d ≡ f (slice_index_or kinds k c)
mapped_at f [] k c d low = absurd (omega arith)
mapped_at f (kind ∷ rest) zero c d low = refl
mapped_at f (kind ∷ rest) (suc k) c d low = mapped_at f rest k c d (omega arith)

stands_at : (number n : ℕ) → n < 216 → Stands n (node_at (made_graph number) n)
stands_at number n low =
    let long = length-all_kinds number in
    let e : 0 + n ≡ n = omega arith in
    let within : n < length (all_kinds number) = omega (arith, long) in
    subst (λ i. Stands i (node_at (made_graph number) n)) e
    (subst (Stands (0 + n)) (sym (mapped_at (node_of all_names) (all_kinds number) n (kinds.Source (Faulty Kind)) (Source (Faulty Kind)) within))
    (each_at Fits 0 (all_kinds number) n (nodes_fit number) within).0.1)

source_before : (n : ℕ) (node : Node) → Stands n node → n < 64 → is_source node ≡ true
source_before n (Source start) h low = refl
source_before n (Signal script inputs) h low = absurd (omega arith)
source_before n (Fold start script inputs) h low = let high = h.0 in absurd (omega (arith, high))
source_before n (Choose selectors body inputs) h low = absurd (omega arith)

-- the first 64 nodes are sources
pub source_at : (number n : ℕ) → n < 64 → is_source (node_at (made_graph number) n) ≡ true
source_at number n low = source_before n (node_at (made_graph number) n) (stands_at number n (omega arith)) low

-- a fold stands behind the sources, and its inputs are those of one thread
abbrev pub Owns : ℕ → ℕ → Type 0
Owns i m = (8 * i ≤ m) × (m < 8 * i + 8)

fold_stands : (n m : ℕ) (node : Node) → Stands n node → kind_of node ≡ kind.Fold → is_in m (inputs_of node) ≡ true → (64 ≤ n) × (n < 72) × Owns (n - 64) m
fold_stands n m (Source start) h e there = absurd (cc)
fold_stands n m (Signal script inputs) h e there = absurd (cc)
fold_stands n m (Fold start script inputs) h e there = (h.0, h.1, in_all (λ m. Owns (n - 64) m) m inputs there h.2)
fold_stands n m (Choose selectors body inputs) h e there = absurd (cc)

pub fold_at : (number n m : ℕ) → FoldsOver (made_graph number) n m → (64 ≤ n) × (n < 72) × Owns (n - 64) m
fold_at number n m f =
    let long = length-nodes number in
    let within = f.0 in
    fold_stands n m (node_at (made_graph number) n) (stands_at number n (omega (arith, long, within))) f.1 f.2
