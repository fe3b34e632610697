-- The out-edges that lists begin with.
use Rattle.std.proofs.Common.{◌≡◌, ℕ, zero, suc, ◌+◌, ◌-◌, ◌<◌, ◌≤◌, ◌⊎◌, inl, inr, Bool, true, false, not, ◌&&◌, ◌||◌, ◌==◌, List, [], ◌∷◌, ◌++◌, Option, Some, None, length, map, filter, take, set, get_or, refl, sym, ap, ◌∙◌, subst, arith, length-set}
use Rattle.std.specs.Prelude.{slice_get}
use Rattle.std.specs.List.{range_with_len}
use Rattle.std.proofs.Math.Seq.{take-suc}
use Rattle.std.proofs.lemmas.List.{ext_get_or, get_or-set_same, get_or-set_other, get_or_default, map-append, length-append}
use Rattle.std.proofs.lemmas.List.Folds.{list_any-append}
use Rattle.std.proofs.lemmas.List.FromFn.{length-map-range_with_len, get_or-map-range_with_len}
use Rattle.std.proofs.lemmas.Option.{get_or_from_slice_get, slice_get-get_or, none-some}
use Rattle.std.proofs.lemmas.Bool.{true≢false, false≢true, or_cases, or_left, or_right, eqb-true, eq-eqb, eqb-false, cases_Bool, or_from}
use Rattle.script_tree.specs.declared.value.Value.{Value}
use Rattle.script_tree.proofs.Numbers.{below_differs}
use Rattle.signal_graph.specs.Graph.{Graph, IsGraph, is_in, numbers}
use Rattle.signal_graph.specs.Values.{nodes_in, val, picks, start}
use Rattle.signal_graph.proofs.Members.{nodes_in-append}
use Rattle.node_versions.specs.Entries.{Versions, OutEdge, opened, has_out, with_out, with_outs}
use Rattle.flow_model.proofs.Opening.OpeningLists.{picks_at_start, start_picks-listed, candidate-earlier}
use Rattle.flow_state.specs.Fitting.{choosers}
use Rattle.step_rules.specs.Sights.{no_versions, list_at}
use Rattle.interleave_core.specs.Opening.{start_list, bare_list, gained, GainsEdges, CanGain, CanGainAll, CanGainNew, is_at, is_new_pick}
use Rattle.interleave_core.proofs.Counted.{numbers_are, passing, passing_more, lists}

-- ---- one list gains an edge

pub gains_one : (n c : ℕ) (ls : List Versions) (was new : Versions) → c < length ls → was ≡ get_or ls c was
    → new ≡ with_outs was (with_out was.outs n 0) → GainsEdges n (λ m. c == m) ls (set ls c new)
gains_one n c ls was new h is made = record {
  size = length-set ls c new;
  each = λ m below. go m below (cases_Bool (c == m));
}
  where
    here : new ≡ gained n true (list_at ls c)
    here = made ∙ ap (gained n true) (is ∙ get_or_default ls c was no_versions h)

    go : (m : ℕ) → m < length ls → ((c == m) ≡ true) ⊎ ((c == m) ≡ false) → list_at (set ls c new) m ≡ gained n (c == m) (list_at ls m)
    go m below (inl e) = rw e (subst (λ (k : ℕ). get_or (set ls c new) k no_versions ≡ gained n true (list_at ls k)) (eqb-true c m e) (get_or-set_same ls c new no_versions h ∙ here))
    go m below (inr e) = rw e (get_or-set_other ls c m new no_versions (λ same. eqb-false c m e (sym same)))

pub gains_none : (n : ℕ) (test : ℕ → Bool) (ls : List Versions) → ((m : ℕ) → test m ≡ false) → GainsEdges n test ls ls
gains_none n test ls f = record { size = refl; each = λ m h. let e = f m in rw e refl }

pub gains_by : (n : ℕ) (p q : ℕ → Bool) (ls new : List Versions) → ((m : ℕ) → p m ≡ q m) → GainsEdges n p ls new → GainsEdges n q ls new
gains_by n p q ls new same g = record { size = g.size; each = λ m h. g.each m h ∙ ap (λ (b : Bool). gained n b (list_at ls m)) (same m) }

pub gains_more : (n : ℕ) (p q : ℕ → Bool) (a b c : List Versions) → ((m : ℕ) → q m ≡ true → p m ≡ false) → GainsEdges n p a b
    → GainsEdges n q b c → GainsEdges n (λ m. p m || q m) a c
gains_more n p q a b c apart g k = record {
  size = k.size ∙ g.size;
  each = λ m h. let s = g.size in go (p m) (q m) (list_at a m) (list_at b m) (list_at c m) (apart m) (g.each m h) (k.each m (omega (arith, h, s)));
}
  where
    go : (x y : Bool) (a b c : Versions) → (y ≡ true → x ≡ false) → b ≡ gained n x a → c ≡ gained n y b → c ≡ gained n (x || y) a
    go true true a b c f g k = absurd (true≢false (f refl))
    go true false a b c f g k = k ∙ g
    go false true a b c f g k = k ∙ ap (gained n true) g
    go false false a b c f g k = k ∙ g

-- ---- picks, one after the other

pub pick_taken : (ps : List (Option ℕ)) (i : ℕ) (p : Option ℕ) (m : ℕ) → i < length ps → slice_get ps i ≡ Some p
    → is_in m (nodes_in (take (i + 1) ps)) ≡ (is_in m (nodes_in (take i ps)) || is_at (Some p) m)
pick_taken ps i p m below h =
    let z : i + 1 ≡ suc i = omega arith in
    ap (λ (k : ℕ). is_in m (nodes_in (take k ps))) z
    ∙ ap (λ (qs : List (Option ℕ)). is_in m (nodes_in qs)) (take-suc ps i p below ∙ ap (λ (x : Option ℕ). take i ps ++ x ∷ []) (get_or_from_slice_get ps i p p h))
    ∙ ap (is_in m) (nodes_in-append (take i ps) (p ∷ []))
    ∙ list_any-append (λ (k : ℕ). k == m) (nodes_in (take i ps)) (nodes_in (p ∷ []))
    ∙ ap (λ (b : Bool). is_in m (nodes_in (take i ps)) || b) (one p)
  where
    or_false : (b : Bool) → (b || false) ≡ b
    or_false true = refl
    or_false false = refl

    one : (p : Option ℕ) → is_in m (nodes_in (p ∷ [])) ≡ is_at (Some p) m
    one None = refl
    one (Some c) = or_false (c == m)

-- what is among the first picks is among all
pub taken_in : (ps : List (Option ℕ)) (k m : ℕ) → is_in m (nodes_in (take k ps)) ≡ true → is_in m (nodes_in ps) ≡ true
taken_in [] zero m h = h
taken_in [] (suc k) m h = h
taken_in (p ∷ ps) zero m h = absurd (false≢true h)
taken_in (None ∷ ps) (suc k) m h = taken_in ps k m h
taken_in (Some c ∷ ps) (suc k) m h = go (or_cases (c == m) _ h) (taken_in ps k m)
  where
    go : ((c == m) ≡ true) ⊎ (is_in m (nodes_in (take k ps)) ≡ true)
        → (is_in m (nodes_in (take k ps)) ≡ true → is_in m (nodes_in ps) ≡ true) → is_in m (nodes_in (Some c ∷ ps)) ≡ true
    go (inl e) further = or_left _ _ e
    go (inr e) further = or_right _ _ (further e)

pub pick_in : (ps : List (Option ℕ)) (k j m : ℕ) (p : Option ℕ) → j < k → slice_get ps j ≡ Some p → is_at (Some p) m ≡ true
    → is_in m (nodes_in (take k ps)) ≡ true
pick_in [] k j m p h e at_m = absurd (none-some p e)
pick_in (q ∷ ps) zero j m p h e at_m = absurd (omega (arith, h))
pick_in (q ∷ ps) (suc k) zero m p h e at_m = go q (ap (λ (o : Option ℕ). is_at (Some o) m) (get_or_from_slice_get (q ∷ ps) 0 p p e) ∙ at_m)
  where
    go : (q : Option ℕ) → is_at (Some q) m ≡ true → is_in m (nodes_in (q ∷ take k ps)) ≡ true
    go None x = absurd (false≢true x)
    go (Some c) x = or_left _ _ x
pick_in (None ∷ ps) (suc k) (suc j) m p h e at_m = pick_in ps k j m p (omega (arith, h)) e at_m
pick_in (Some d ∷ ps) (suc k) (suc j) m p h e at_m = or_right _ _ (pick_in ps k j m p (omega (arith, h)) e at_m)

-- ---- the picks of one node

-- the list is as it was
pub new_none : (n : ℕ) (ps : List (Option ℕ)) (i : ℕ) (ls : List Versions) → slice_get ps i ≡ Some None
    → GainsEdges n (is_new_pick ps i) ls ls
new_none n ps i ls e = gains_none n (is_new_pick ps i) ls (λ m. ap (λ (o : Option (Option ℕ)). is_at o m && not (is_in m (nodes_in (take i ps)))) e)

new_is : (ps : List (Option ℕ)) (i c m : ℕ) → slice_get ps i ≡ Some (Some c)
    → is_new_pick ps i m ≡ ((c == m) && not (is_in c (nodes_in (take i ps))))
new_is ps i c m e = ap (λ (o : Option (Option ℕ)). is_at o m && not (is_in m (nodes_in (take i ps)))) e ∙ go (cases_Bool (c == m))
  where
    go : ((c == m) ≡ true) ⊎ ((c == m) ≡ false)
        → ((c == m) && not (is_in m (nodes_in (take i ps)))) ≡ ((c == m) && not (is_in c (nodes_in (take i ps))))
    go (inl h) = ap (λ (k : ℕ). (c == m) && not (is_in k (nodes_in (take i ps)))) (sym (eqb-true c m h))
    go (inr h) = rw h refl

pub new_again : (n : ℕ) (ps : List (Option ℕ)) (i c : ℕ) (ls : List Versions) → slice_get ps i ≡ Some (Some c)
    → is_in c (nodes_in (take i ps)) ≡ true → GainsEdges n (is_new_pick ps i) ls ls
new_again n ps i c ls e again = gains_none n (is_new_pick ps i) ls (λ m. new_is ps i c m e ∙ ap (λ (b : Bool). (c == m) && not b) again ∙ and_false (c == m))
  where
    and_false : (b : Bool) → (b && false) ≡ false
    and_false true = refl
    and_false false = refl

pub new_first : (n : ℕ) (ps : List (Option ℕ)) (i c : ℕ) (ls new : List Versions) → slice_get ps i ≡ Some (Some c)
    → is_in c (nodes_in (take i ps)) ≡ false → GainsEdges n (λ m. c == m) ls new → GainsEdges n (is_new_pick ps i) ls new
new_first n ps i c ls new e first g = gains_by n (λ m. c == m) (is_new_pick ps i) ls new (λ m. sym (new_is ps i c m e ∙ ap (λ (b : Bool). (c == m) && not b) first ∙ and_true (c == m))) g
  where
    and_true : (b : Bool) → (b && true) ≡ b
    and_true true = refl
    and_true false = refl

pub can_first : (n : ℕ) (ps : List (Option ℕ)) (i c : ℕ) (ls : List Versions) → slice_get ps i ≡ Some (Some c)
    → is_in c (nodes_in (take i ps)) ≡ false → CanGainNew ls n ps i → CanGain ls n c
can_first n ps i c ls e first can = can c (new_is ps i c c e ∙ ap (λ (b : Bool). (c == c) && not b) first ∙ ap (λ (b : Bool). b && true) (eq-eqb c c refl))

-- the picks up to an index gained their edges
new_parts : (ps : List (Option ℕ)) (i m : ℕ) → is_new_pick ps i m ≡ true → is_in m (nodes_in (take i ps)) ≡ false
new_parts ps i m h = go (is_at (slice_get ps i) m) (is_in m (nodes_in (take i ps))) h
  where
    go : (x y : Bool) → (x && not y) ≡ true → y ≡ false
    go true true h = absurd (false≢true h)
    go true false h = refl
    go false true h = absurd (false≢true h)
    go false false h = refl

next_taken : (ps : List (Option ℕ)) (i m : ℕ) → i < length ps
    → (is_in m (nodes_in (take i ps)) || is_new_pick ps i m) ≡ is_in m (nodes_in (take (i + 1) ps))
next_taken ps i m h =
    let is = slice_get-get_or ps i None h in
    sym (pick_taken ps i (get_or ps i None) m h is ∙ ap (λ (o : Option (Option ℕ)). is_in m (nodes_in (take i ps)) || is_at o m) (sym is) ∙ go (is_in m (nodes_in (take i ps))) (is_at (slice_get ps i) m))
  where
    go : (x y : Bool) → (x || y) ≡ (x || (y && not x))
    go true y = refl
    go false true = refl
    go false false = refl

pub edges_more : (n : ℕ) (ps : List (Option ℕ)) (i : ℕ) (a b c : List Versions) → i < length ps
    → GainsEdges n (λ m. is_in m (nodes_in (take i ps))) a b → GainsEdges n (is_new_pick ps i) b c
    → GainsEdges n (λ m. is_in m (nodes_in (take (i + 1) ps))) a c
edges_more n ps i a b c h g k = gains_by n (λ m. is_in m (nodes_in (take i ps)) || is_new_pick ps i m) (λ m. is_in m (nodes_in (take (i + 1) ps))) a c (λ m. next_taken ps i m h)
    (gains_more n (λ m. is_in m (nodes_in (take i ps))) (is_new_pick ps i) a b c (new_parts ps i) g k)

pub can_next : (n : ℕ) (ps : List (Option ℕ)) (i : ℕ) (a b : List Versions) → i < length ps → CanGainAll a n ps
    → GainsEdges n (λ m. is_in m (nodes_in (take i ps))) a b → CanGainNew b n ps i
can_next n ps i a b h can g m new =
    let was = can m (taken_in ps (i + 1) m (sym (next_taken ps i m h) ∙ or_right _ _ new)) in
    let same : list_at b m ≡ list_at a m = g.each m was.there ∙ ap (λ (x : Bool). gained n x (list_at a m)) (new_parts ps i m new) in
    record {
      there = let s = g.size in let t = was.there in omega (arith, s, t);
      new_edge = ap (λ (l : Versions). has_out l.outs n 0) same ∙ was.new_edge;
      room = subst (λ (l : Versions). length l.outs < l.outs_room) (sym same) was.room;
    }

pub all_taken : (n : ℕ) (ps : List (Option ℕ)) (i : ℕ) (a b : List Versions) → length ps ≤ i
    → GainsEdges n (λ m. is_in m (nodes_in (take i ps))) a b → GainsEdges n (λ m. is_in m (nodes_in ps)) a b
all_taken n ps i a b h g = gains_by n (λ m. is_in m (nodes_in (take i ps))) (λ m. is_in m (nodes_in ps)) a b (λ m. ap (λ (qs : List (Option ℕ)). is_in m (nodes_in qs)) (take_all ps i h)) g
  where
    take_all : (qs : List (Option ℕ)) (i : ℕ) → length qs ≤ i → take i qs ≡ qs
    take_all [] zero h = refl
    take_all [] (suc i) h = refl
    take_all (q ∷ qs) zero h = absurd (omega (arith, h))
    take_all (q ∷ qs) (suc i) h = ap (λ (rs : List (Option ℕ)). q ∷ rs) (take_all qs i (omega (arith, h)))

-- ---- the lists of all nodes, when the nodes below k have gained their edges

abbrev pub edges_until : Graph → ℕ → ℕ → List OutEdge
edges_until graph m k = map (λ n. (n, 0)) (passing (picks_at_start graph m) k)

abbrev pub list_until : Graph → ℕ → ℕ → ℕ → Versions
list_until graph callers k m = with_outs (bare_list graph callers m) (edges_until graph m k)

pub record IsOpened (graph : Graph) (callers k : ℕ) (ls : List Versions) : Type 0 where
  pub size : length ls ≡ length graph.nodes
  pub each : (m : ℕ) → m < length graph.nodes → list_at ls m ≡ list_until graph callers k m

map_length : (f : ℕ → Versions) (graph : Graph) → length (map f (numbers graph)) ≡ length graph.nodes
map_length f graph = ap (λ (ns : List ℕ). length (map f ns)) (numbers_are graph) ∙ length-map-range_with_len f 0 (length graph.nodes)

map_at : (f : ℕ → Versions) (graph : Graph) (m : ℕ) (d : Versions) → m < length graph.nodes → get_or (map f (numbers graph)) m d ≡ f m
map_at f graph m d h = ap (λ (ns : List ℕ). get_or (map f ns) m d) (numbers_are graph)
    ∙ get_or-map-range_with_len f 0 (length graph.nodes) m m d h (omega arith)

pub bare_is : (graph : Graph) (callers n k : ℕ) (v : Value) (ps : List (Option ℕ)) (new : Versions) → new ≡ opened (callers + 9) k v ps
    → k ≡ choosers graph n → v ≡ val graph (start graph) n → ps ≡ picks graph (start graph) n → new ≡ bare_list graph callers n
bare_is graph callers n k v ps new is count value picked = is
    ∙ ap (λ (k : ℕ). opened (callers + 9) k v ps) count
    ∙ ap (λ (v : Value). opened (callers + 9) (choosers graph n) v ps) value
    ∙ ap (λ (ps : List (Option ℕ)). opened (callers + 9) (choosers graph n) (val graph (start graph) n) ps) picked

pub bare_opened : (graph : Graph) (callers : ℕ) (ls : List Versions) → ls ≡ map (bare_list graph callers) (numbers graph)
    → IsOpened graph callers 0 ls
bare_opened graph callers ls e = record {
  size = ap length e ∙ map_length (bare_list graph callers) graph;
  each = λ m h. ap (λ xs. list_at xs m) e ∙ map_at (bare_list graph callers) graph m no_versions h;
}

pub opened_more : (graph : Graph) (callers k : ℕ) (ls new : List Versions) → IsOpened graph callers k ls
    → GainsEdges k (λ m. is_in m (nodes_in (picks graph (start graph) k))) ls new → IsOpened graph callers (k + 1) new
opened_more graph callers k ls new so g = record {
  size = g.size ∙ so.size;
  each = λ m h. let s = so.size in g.each m (omega (arith, h, s)) ∙ ap (gained k (picks_at_start graph m k)) (so.each m h)
      ∙ one m (picks_at_start graph m k)
      ∙ ap (λ (es : List OutEdge). with_outs (bare_list graph callers m) es) (sym (ap (map (λ (n : ℕ). (n, 0))) (passing_more (picks_at_start graph m) k) ∙ map-append (λ (n : ℕ). (n, 0)) (passing (picks_at_start graph m) k) _));
}
  where
    append_none : (es : List OutEdge) → es ≡ es ++ []
    append_none [] = refl
    append_none (e ∷ es) = ap (λ (xs : List OutEdge). e ∷ xs) (append_none es)

    one : (m : ℕ) (b : Bool)
        → gained k b (list_until graph callers k m) ≡ with_outs (bare_list graph callers m) (edges_until graph m k ++ map (λ (n : ℕ). (n, 0)) (elim b as (λ _. List ℕ) [ true ↦ k ∷ [] | false ↦ [] ]))
    one m true = refl
    one m false = ap (λ (es : List OutEdge). with_outs (bare_list graph callers m) es) (append_none (edges_until graph m k))

pub opened_all : (graph : Graph) (callers k : ℕ) (ls : List Versions) → IsOpened graph callers k ls → k ≡ length graph.nodes
    → ls ≡ map (start_list graph callers) (numbers graph)
opened_all graph callers k ls so all = ext_get_or no_versions ls _ (so.size ∙ sym (map_length (start_list graph callers) graph)) (λ m h.
    let s = so.size in
    let below : m < length graph.nodes = omega (arith, h, s) in
    so.each m below
    ∙ ap (λ (ns : List ℕ). with_outs (bare_list graph callers m) (map (λ (n : ℕ). (n, 0)) (filter (picks_at_start graph m) ns))) (ap (range_with_len 0) all ∙ sym (numbers_are graph))
    ∙ sym (map_at (start_list graph callers) graph m no_versions below))

-- ---- there is room

filter_fewer : (p q : ℕ → Bool) (ns : List ℕ) → ((n : ℕ) → p n ≡ true → q n ≡ true) → length (filter p ns) ≤ length (filter q ns)
filter_fewer p q [] h = omega arith
filter_fewer p q (n ∷ ns) h = go (cases_Bool (p n)) (cases_Bool (q n)) (filter_fewer p q ns h)
  where
    go : ((p n ≡ true) ⊎ (p n ≡ false)) → ((q n ≡ true) ⊎ (q n ≡ false)) → length (filter p ns) ≤ length (filter q ns)
        → length (filter p (n ∷ ns)) ≤ length (filter q (n ∷ ns))
    go (inl x) (inl y) r = rw x (rw y (omega (arith, r)))
    go (inl x) (inr y) r = absurd (true≢false (sym (h n x) ∙ y))
    go (inr x) (inl y) r = rw x (rw y (omega (arith, r)))
    go (inr x) (inr y) r = rw x (rw y r)

passing_grows : (test : ℕ → Bool) (a d : ℕ) → length (passing test a) ≤ length (passing test (a + d))
passing_grows test a zero = let z : a + 0 ≡ a = omega arith in subst (λ (k : ℕ). length (passing test a) ≤ length (passing test k)) (sym z) (omega arith)
passing_grows test a (suc d) =
    let r = passing_grows test a d in
    let z : a + d + 1 ≡ a + suc d = omega arith in
    let more = ap length (passing_more test (a + d)) ∙ length-append (passing test (a + d)) _ in
    subst (λ (k : ℕ). length (passing test a) ≤ length (passing test k)) z (omega (arith, r, more))

no_later : (test : ℕ → Bool) (a len k : ℕ) → a + len ≤ k → has_out (map (λ n. (n, 0)) (filter test (range_with_len a len))) k 0 ≡ false
no_later test a zero k h = refl
no_later test a (suc len) k h = go (cases_Bool (test a)) (no_later test (a + 1) len k (omega (arith, h)))
  where
    go : ((test a ≡ true) ⊎ (test a ≡ false)) → has_out (map (λ n. (n, 0)) (filter test (range_with_len (a + 1) len))) k 0 ≡ false
        → has_out (map (λ n. (n, 0)) (filter test (range_with_len a (suc len)))) k 0 ≡ false
    go (inl x) r = rw x (or_from _ _ (ap (λ (b : Bool). b && (0 == 0)) (below_differs a k (omega (arith, h)))) r)
    go (inr x) r = rw x r

pub opened_can : (graph : Graph) (callers k : ℕ) (ls : List Versions) (ps : List (Option ℕ)) → IsGraph graph → k < length graph.nodes
    → IsOpened graph callers k ls → ps ≡ picks graph (start graph) k → CanGainAll ls k ps
opened_can graph callers k ls ps kept inside so are m picked =
    let at_start : picks_at_start graph m k ≡ true = ap (λ (qs : List (Option ℕ)). is_in m (nodes_in qs)) (sym are) ∙ picked in
    let listed : lists graph m k ≡ true = start_picks-listed graph k m at_start in
    let earlier : m < k = candidate-earlier graph kept k m inside listed in
    let below : m < length graph.nodes = omega (arith, earlier, inside) in
    let is = so.each m below in
    let fewer = filter_fewer (picks_at_start graph m) (lists graph m) (range_with_len 0 k) (λ n h. start_picks-listed graph n m h) in
    let more = ap length (passing_more (lists graph m) k ∙ ap (λ (b : Bool). passing (lists graph m) k ++ elim b as (λ _. List ℕ) [ true ↦ k ∷ [] | false ↦ [] ]) listed) ∙ length-append (passing (lists graph m) k) (k ∷ []) in
    let rest = passing_rest graph m k inside in
    let edges = length_map (passing (picks_at_start graph m) k) in
    record {
      there = let s = so.size in omega (arith, s, below);
      new_edge = ap (λ (l : Versions). has_out l.outs k 0) is ∙ no_later (picks_at_start graph m) 0 k k (omega arith);
      room = subst (λ (l : Versions). length l.outs < l.outs_room) (sym is) (omega (arith, fewer, more, rest, edges));
    }
  where
    length_map : (ns : List ℕ) → length {A = OutEdge} (map (λ n. (n, 0)) ns) ≡ length ns
    length_map [] = refl
    length_map (n ∷ ns) = let r = length_map ns in omega (arith, r)

    passing_rest : (graph : Graph) (m k : ℕ) → k < length graph.nodes → length (passing (lists graph m) (k + 1)) ≤ choosers graph m
    passing_rest graph m k h =
        let g = passing_grows (lists graph m) (k + 1) (length graph.nodes - (k + 1)) in
        let z : k + 1 + (length graph.nodes - (k + 1)) ≡ length graph.nodes = omega (arith, h) in
        subst (λ (x : ℕ). length (passing (lists graph m) (k + 1)) ≤ x) (ap (λ (n : ℕ). length (passing (lists graph m) n)) z ∙ ap (λ (ns : List ℕ). length (filter (lists graph m) ns)) (sym (numbers_are graph))) g

pub not_further : (ps : List (Option ℕ)) (i m : ℕ) (p : Option ℕ) → i < length ps → slice_get ps i ≡ Some p
    → is_in m (nodes_in (take i ps)) ≡ false → is_at (Some p) m ≡ false → is_in m (nodes_in (take (i + 1) ps)) ≡ false
not_further ps i m p h e before here = pick_taken ps i p m h e ∙ ap (λ (b : Bool). b || is_at (Some p) m) before ∙ here
