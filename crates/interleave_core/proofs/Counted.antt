-- What is counted when the nodes below n are told.
use Rattle.std.proofs.Common.{◌≡◌, ℕ, zero, suc, ◌+◌, ◌<◌, Bool, true, false, not, ◌&&◌, ◌||◌, ◌==◌, List, [], ◌∷◌, ◌++◌, length, map, filter, take, replicate, get_or, refl, sym, ap, ◌∙◌, subst, arith}
use Rattle.std.specs.List.{range_with_len, AllByRecursion}
use Rattle.std.proofs.Math.Seq.{take-suc}
use Rattle.std.proofs.lemmas.List.{ext_get_or, map-id, length-append}
use Rattle.std.proofs.lemmas.List.Folds.{list_any-append}
use Rattle.std.proofs.lemmas.List.FromFn.{length-map-range_with_len, get_or-map-range_with_len, map-range_with_len_more}
use Rattle.std.proofs.lemmas.List.Elements.{filter-append, All-from_recursion}
use Rattle.std.proofs.lemmas.Bool.Decides.{eqb_tells}
use Rattle.signal_graph.specs.declared.node.Node.{Node}
use Rattle.signal_graph.specs.declared.node.Node.TheVariants.{Source, Signal, Fold, Choose}
use Rattle.signal_graph.specs.declared.node.Selector.{Selector}
use Rattle.signal_graph.specs.Graph.{Graph, node_at, numbers, selectors_of, is_in, IsNode, IsSelector}
use Rattle.signal_graph.proofs.Members.{numbers_range}
use Rattle.flow_model.specs.Kept.Lawful.{lists_candidate}
use Rattle.flow_state.specs.Fitting.{choosers}
use Rattle.flow_state.specs.Seats.{one_if, count_at}
use Rattle.interleave_core.specs.Choosers.{IsUpTo, Tells}

-- ---- ranges

pub numbers_are : (graph : Graph) → numbers graph ≡ range_with_len 0 (length graph.nodes)
numbers_are graph = numbers_range 0 graph.nodes

pub range_more : (n : ℕ) → range_with_len 0 (n + 1) ≡ range_with_len 0 n ++ n ∷ []
range_more n = sym (map-id (range_with_len 0 (n + 1))) ∙ map-range_with_len_more (λ (k : ℕ). k) 0 n n (omega arith)
    ∙ ap (λ (ms : List ℕ). ms ++ n ∷ []) (map-id (range_with_len 0 n))

-- how many of the numbers below n pass a test
abbrev pub passing : (ℕ → Bool) → ℕ → List ℕ
passing test n = filter test (range_with_len 0 n)

pub passing_more : (test : ℕ → Bool) (n : ℕ)
    → passing test (n + 1) ≡ passing test n ++ elim (test n) as (λ _. List ℕ) [ true ↦ n ∷ [] | false ↦ [] ]
passing_more test n = ap (filter test) (range_more n) ∙ filter-append test (range_with_len 0 n) (n ∷ [])
    ∙ ap (λ (ms : List ℕ). passing test n ++ ms) (one (test n) refl)
  where
    one : (b : Bool) → test n ≡ b → filter test (n ∷ []) ≡ elim b as (λ _. List ℕ) [ true ↦ n ∷ [] | false ↦ [] ]
    one true e = rw e refl
    one false e = rw e refl

-- ---- counts

abbrev pub lists : Graph → ℕ → ℕ → Bool
lists graph m n = lists_candidate m (selectors_of (node_at graph n))

pub record IsCounted (graph : Graph) (n : ℕ) (counts marks : List ℕ) : Type 0 where
  pub counts_size : length counts ≡ length graph.nodes
  pub marks_size : length marks ≡ length graph.nodes
  pub counted : (m : ℕ) → m < length graph.nodes → count_at counts m ≡ length (passing (lists graph m) n)

zeros_at : (n m : ℕ) → count_at (replicate n 0) m ≡ 0
zeros_at zero m = refl
zeros_at (suc n) zero = refl
zeros_at (suc n) (suc m) = zeros_at n m

length-zeros : (n : ℕ) → length {A = ℕ} (replicate n 0) ≡ n
length-zeros zero = refl
length-zeros (suc n) = let r = length-zeros n in omega (arith, r)

pub counting_begins : (graph : Graph) (counts marks : List ℕ) → counts ≡ replicate (length graph.nodes) 0
    → marks ≡ replicate (length graph.nodes) 0 → IsUpTo 0 counts marks × IsCounted graph 0 counts marks
counting_begins graph counts marks c m = (
  record {
    within = λ k. let e = ap (λ ns. count_at ns k) m ∙ zeros_at (length graph.nodes) k in omega (arith, e);
    counted = λ k. let e = ap (λ ns. count_at ns k) c ∙ zeros_at (length graph.nodes) k in omega (arith, e);
  },
  record {
    counts_size = ap length c ∙ length-zeros (length graph.nodes);
    marks_size = ap length m ∙ length-zeros (length graph.nodes);
    counted = λ k h. ap (λ ns. count_at ns k) c ∙ zeros_at (length graph.nodes) k;
  },
)

pub counting_more : (graph : Graph) (n : ℕ) (a b c d : List ℕ) → IsUpTo n a b → IsCounted graph n a b
    → Tells n (λ m. lists graph m n) a b c d → IsCounted graph (n + 1) c d
counting_more graph n a b c d u so t = record {
  counts_size = t.counts_size ∙ so.counts_size;
  marks_size = t.marks_size ∙ so.marks_size;
  counted = λ m h.
      let new : one_if (lists graph m n && not (count_at b m == n + 1)) ≡ one_if (lists graph m n) = ap (λ (x : Bool). one_if (lists graph m n && not x)) (unmarked m) ∙ ap one_if (and_true (lists graph m n)) in
      let was = so.counted m h in
      let more = ap length (passing_more (lists graph m) n) ∙ length-append (passing (lists graph m) n) _ in
      let one = one_more (lists graph m n) n in
      let told = t.count m in
      omega (arith, new, was, more, one, told);
}
  where
    unmarked : (m : ℕ) → (count_at b m == n + 1) ≡ false
    unmarked m = let h = u.within m in grind (arith, eqb_tells, h)

    and_true : (x : Bool) → (x && not false) ≡ x
    and_true true = refl
    and_true false = refl

    one_more : (x : Bool) (n : ℕ) → length (elim x as (λ _. List ℕ) [ true ↦ n ∷ [] | false ↦ [] ]) ≡ one_if x
    one_more true n = refl
    one_more false n = refl

pub all_counted : (graph : Graph) (n : ℕ) (counts marks : List ℕ) → IsCounted graph n counts marks → n ≡ length graph.nodes
    → counts ≡ map (choosers graph) (numbers graph)
all_counted graph n counts marks so all = ext_get_or 0 counts _ (so.counts_size ∙ sym (length-map-range_with_len (choosers graph) 0 (length graph.nodes)) ∙ sym (ap (λ (ns : List ℕ). length (map (choosers graph) ns)) (numbers_are graph))) (λ m h.
    let below : m < length graph.nodes = let s = so.counts_size in omega (arith, h, s) in
    so.counted m below
    ∙ ap (λ (k : ℕ). length (passing (lists graph m) k)) all
    ∙ ap (λ (ns : List ℕ). length (filter (lists graph m) ns)) (sym (numbers_are graph))
    ∙ sym (get_or-map-range_with_len (choosers graph) 0 (length graph.nodes) m m 0 below (omega arith))
    ∙ ap (λ (ns : List ℕ). get_or (map (choosers graph) ns) m 0) (sym (numbers_are graph)))

-- ---- walks

pub one_further : (m c : ℕ) (cs : List ℕ) (i : ℕ) → i < length cs → c ≡ get_or cs i c
    → (is_in m (take i cs) || (c == m)) ≡ is_in m (take (i + 1) cs)
one_further m c cs i h is =
    let z : i + 1 ≡ suc i = omega arith in
    let more = take-suc cs i c h ∙ ap (λ (x : ℕ). take i cs ++ x ∷ []) (sym is) in
    or_false (is_in m (take i cs)) (c == m) ∙ sym (list_any-append (λ (k : ℕ). k == m) (take i cs) (c ∷ [])) ∙ ap (is_in m) (sym more)
    ∙ ap (λ (k : ℕ). is_in m (take k cs)) (sym z)
  where
    or_false : (x y : Bool) → (x || y) ≡ (x || (y || false))
    or_false true y = refl
    or_false false true = refl
    or_false false false = refl

pub selector_further : (m : ℕ) (s : Selector) (ss : List Selector) (i : ℕ) → i < length ss → s ≡ get_or ss i s
    → (lists_candidate m (take i ss) || is_in m s.candidates) ≡ lists_candidate m (take (i + 1) ss)
selector_further m s ss i h is =
    let z : i + 1 ≡ suc i = omega arith in
    let more = take-suc ss i s h ∙ ap (λ (x : Selector). take i ss ++ x ∷ []) (sym is) in
    or_false (lists_candidate m (take i ss)) (is_in m s.candidates)
    ∙ sym (list_any-append (λ (x : Selector). is_in m x.candidates) (take i ss) (s ∷ [])) ∙ ap (lists_candidate m) (sym more)
    ∙ ap (λ (k : ℕ). lists_candidate m (take k ss)) (sym z)
  where
    or_false : (x y : Bool) → (x || y) ≡ (x || (y || false))
    or_false true y = refl
    or_false false true = refl
    or_false false false = refl

pub all_at : {A : Type 0} (P : A → Type 0) (xs : List A) (i : ℕ) (x : A) → AllByRecursion P xs → i < length xs → x ≡ get_or xs i x → P x
all_at P xs i x all h is = subst P (sym is) (All-from_recursion P xs all i x h)

-- ---- what a node lists

selectors_fit : (names : List (List ℕ)) (n : ℕ) (node : Node) → IsNode names n node
    → AllByRecursion (IsSelector names n) (selectors_of node)
selectors_fit names n (Source v) h = tt
selectors_fit names n (Signal script inputs) h = tt
selectors_fit names n (Fold v script inputs) h = tt
selectors_fit names n (Choose selectors body inputs) h = h.2

below_all : (n size : ℕ) (cs : List ℕ) → n < size → AllByRecursion (λ c. c < n) cs → AllByRecursion (λ c. c < size) cs
below_all n size [] h all = tt
below_all n size (c ∷ cs) h all = let b = all.0 in (omega (arith, h, b), below_all n size cs h all.1)

pub candidates_below : (names : List (List ℕ)) (n size : ℕ) (node : Node) (i : ℕ) (s : Selector) → IsNode names n node → n < size
    → i < length (selectors_of node) → s ≡ get_or (selectors_of node) i s → AllByRecursion (λ c. c < size) s.candidates
candidates_below names n size node i s kept h inside is = below_all n size s.candidates h (all_at (IsSelector names n) (selectors_of node) i s (selectors_fit names n node kept) inside is).candidates_earlier

-- ---- reading counts

pub choosers_many : (graph : Graph) (counts : List ℕ) → counts ≡ map (choosers graph) (numbers graph) → length counts ≡ length graph.nodes
choosers_many graph counts e = ap length e ∙ ap (λ (ns : List ℕ). length (map (choosers graph) ns)) (numbers_are graph)
    ∙ length-map-range_with_len (choosers graph) 0 (length graph.nodes)

pub chooser_at : (graph : Graph) (counts : List ℕ) (n k : ℕ) → counts ≡ map (choosers graph) (numbers graph) → n < length graph.nodes
    → k ≡ get_or counts n k → k ≡ choosers graph n
chooser_at graph counts n k e h is = is ∙ ap (λ (ns : List ℕ). get_or ns n k) (e ∙ ap (map (choosers graph)) (numbers_are graph))
    ∙ get_or-map-range_with_len (choosers graph) 0 (length graph.nodes) n n k h (omega arith)
