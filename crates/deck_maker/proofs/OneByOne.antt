-- The workload's declarations, node by node.
use Rattle.std.proofs.Common.{◌≡◌, ℕ, zero, suc, ◌+◌, ◌-◌, ◌*◌, ◌<◌, ◌≤◌, false, List, [], ◌∷◌, ◌++◌, drop, refl, sym, ap, ◌∙◌, arith, zero-add}
use Rattle.std.specs.Prelude.{◌%◌, nat_lt, if◌then◌else◌}
use Rattle.std.proofs.lemmas.Bool.Decides.{Decides-ltb, nat_tests}
use Rattle.std.proofs.lemmas.List.{drop_more}
use Rattle.std.proofs.lemmas.Nat.{mod-mul-add}
use Rattle.signal_graph.specs.declared.builder.DeclKind.{DeclKind}
use Rattle.separate_decks.specs.Draws.{skip, draw}
use Rattle.separate_decks.specs.Workload.{all_names, name_of, source, fold, signal, sources, folds, signals, rows, all_kinds, named, workload_declarations}
use Rattle.separate_decks.proofs.Naming.{length-all_names}
use Rattle.deck_maker.specs.Nodes.{choose_among, kind_in_row, kind_at, draws_at, nodes_from, state_behind}
use Rattle.deck_maker.proofs.Drawing.{skipped}

not_below : (m n : ℕ) → n ≤ m → nat_lt m n ≡ false
not_below m n h = grind (arith, nat_tests)

-- what a node is declared as, by where its number stands
source_kind : (m x : ℕ) → m < 64 → kind_at m x ≡ source (draw x 1 100)
unfolding kind_at
source_kind m x low = ap (λ b. if b then source (draw x 1 100) else if nat_lt m 72 then fold (8 * (m - 64) + draw x 1 8) (8 * (m - 64) + draw x 2 8) else kind_in_row m x) ((Decides-ltb m 64).1 low)

source_draws : (m : ℕ) → m < 64 → draws_at m ≡ 1
unfolding draws_at
source_draws m low = ap (λ b. if b then 1 else if nat_lt m 72 then 2 else if nat_lt ((m - 72) % 6) 5 then 3 else 5) ((Decides-ltb m 64).1 low)

fold_kind : (m i x : ℕ) → m ≡ 64 + i → i < 8 → kind_at m x ≡ fold (8 * i + draw x 1 8) (8 * i + draw x 2 8)
unfolding kind_at
fold_kind m i x e low =
    let same : m - 64 ≡ i = omega (arith, e) in
    ap (λ b. if b then source (draw x 1 100) else if nat_lt m 72 then fold (8 * (m - 64) + draw x 1 8) (8 * (m - 64) + draw x 2 8) else kind_in_row m x) (not_below m 64 (omega (arith, e)))
    ∙ ap (λ b. if b then fold (8 * (m - 64) + draw x 1 8) (8 * (m - 64) + draw x 2 8) else kind_in_row m x) ((Decides-ltb m 72).1 (omega (arith, e, low)))
    ∙ ap (λ k. fold (8 * k + draw x 1 8) (8 * k + draw x 2 8)) same

fold_draws : (m i : ℕ) → m ≡ 64 + i → i < 8 → draws_at m ≡ 2
unfolding draws_at
fold_draws m i e low =
    ap (λ b. if b then 1 else if nat_lt m 72 then 2 else if nat_lt ((m - 72) % 6) 5 then 3 else 5) (not_below m 64 (omega (arith, e)))
    ∙ ap (λ b. if b then 2 else if nat_lt ((m - 72) % 6) 5 then 3 else 5) ((Decides-ltb m 72).1 (omega (arith, e, low)))

in_row : (m x : ℕ) → 72 ≤ m → kind_at m x ≡ kind_in_row m x
unfolding kind_at
in_row m x high =
    ap (λ b. if b then source (draw x 1 100) else if nat_lt m 72 then fold (8 * (m - 64) + draw x 1 8) (8 * (m - 64) + draw x 2 8) else kind_in_row m x) (not_below m 64 (omega (arith, high)))
    ∙ ap (λ b. if b then fold (8 * (m - 64) + draw x 1 8) (8 * (m - 64) + draw x 2 8) else kind_in_row m x) (not_below m 72 high)

row_draws : (m : ℕ) → 72 ≤ m → draws_at m ≡ (if nat_lt ((m - 72) % 6) 5 then 3 else 5)
unfolding draws_at
row_draws m high =
    ap (λ b. if b then 1 else if nat_lt m 72 then 2 else if nat_lt ((m - 72) % 6) 5 then 3 else 5) (not_below m 64 (omega (arith, high)))
    ∙ ap (λ b. if b then 2 else if nat_lt ((m - 72) % 6) 5 then 3 else 5) (not_below m 72 high)

-- the place of a node in its row
place : (m q r : ℕ) → m ≡ 72 + (q * 6 + r) → r < 6 → (m - 72) % 6 ≡ r
place m q r e low = let behind : m - 72 ≡ q * 6 + r = omega (arith, e) in ap (λ k. k % 6) behind ∙ mod-mul-add q 6 r low

signal_kind : (m q r x : ℕ) → m ≡ 72 + (q * 6 + r) → r < 5 → kind_at m x ≡ signal (draw x 1 m) (draw x 2 m) (draw x 3 3)
signal_kind m q r x e low =
    in_row m x (omega (arith, e))
    ∙ ap (λ k. if nat_lt k 5 then signal (draw x 1 m) (draw x 2 m) (draw x 3 3) else choose_among m x) (place m q r e (omega (arith, low)))
    ∙ ap (λ b. if b then signal (draw x 1 m) (draw x 2 m) (draw x 3 3) else choose_among m x) ((Decides-ltb r 5).1 low)

signal_draws : (m q r : ℕ) → m ≡ 72 + (q * 6 + r) → r < 5 → draws_at m ≡ 3
signal_draws m q r e low =
    row_draws m (omega (arith, e)) ∙ ap (λ k. if nat_lt k 5 then 3 else 5) (place m q r e (omega (arith, low))) ∙ ap (λ b. if b then 3 else 5) ((Decides-ltb r 5).1 low)

choose_kind : (m q x : ℕ) → m ≡ 72 + (q * 6 + 5) → kind_at m x ≡ choose_among m x
choose_kind m q x e =
    in_row m x (omega (arith, e))
    ∙ ap (λ k. if nat_lt k 5 then signal (draw x 1 m) (draw x 2 m) (draw x 3 3) else choose_among m x) (place m q 5 e (omega arith))

choose_draws : (m q : ℕ) → m ≡ 72 + (q * 6 + 5) → draws_at m ≡ 5
choose_draws m q e = row_draws m (omega (arith, e)) ∙ ap (λ k. if nat_lt k 5 then 3 else 5) (place m q 5 e (omega arith))

-- what so many nodes are declared as, from a number on
unfoldable kinds_from : ℕ → ℕ → ℕ → List DeclKind
kinds_from zero m x = []
kinds_from (suc n) m x = kind_at m x ∷ kinds_from n (m + 1) (skip (draws_at m) x)

one_kind : (n m x d : ℕ) (kind : DeclKind) → kind_at m x ≡ kind → draws_at m ≡ d → kinds_from (suc n) m x ≡ kind ∷ kinds_from n (m + 1) (skip d x)
unfolding kinds_from
one_kind n m x d kind e f = ap (λ k. k ∷ kinds_from n (m + 1) (skip (draws_at m) x)) e ∙ ap (λ c. kind ∷ kinds_from n (m + 1) (skip c x)) f

one_before : (n c : ℕ) → suc (n + c) ≡ suc n + c
one_before n c = omega arith

none_skipped : (x : ℕ) → skip 0 x ≡ x
unfolding skip
none_skipped x = refl

no_kinds : (m x : ℕ) → kinds_from 0 m x ≡ []
unfolding kinds_from
no_kinds m x = refl

sources_are : (n c m x : ℕ) → m + n ≤ 64 → sources n x ++ kinds_from c (m + n) (skip n x) ≡ kinds_from (n + c) m x
unfolding sources
sources_are zero c m x few = let e : m + 0 ≡ m = omega arith in ap (λ k. kinds_from c k (skip 0 x)) e ∙ ap (kinds_from c m) (none_skipped x) ∙ ap (λ k. kinds_from k m x) (sym (zero-add c))
sources_are (suc n) c m x few =
    let e : m + suc n ≡ m + 1 + n = omega arith in
    let more : suc n ≡ 1 + n = omega arith in
    ap (λ k. source (draw x 1 100) ∷ (sources n (skip 1 x) ++ kinds_from c k (skip (suc n) x))) e
    ∙ ap (λ d. source (draw x 1 100) ∷ (sources n (skip 1 x) ++ kinds_from c (m + 1 + n) (skip d x))) more
    ∙ ap (λ s. source (draw x 1 100) ∷ (sources n (skip 1 x) ++ kinds_from c (m + 1 + n) s)) (sym (skipped x 1 n))
    ∙ ap (λ ks. source (draw x 1 100) ∷ ks) (sources_are n c (m + 1) (skip 1 x) (omega (arith, few)))
    ∙ sym (one_kind (n + c) m x 1 (source (draw x 1 100)) (source_kind m x (omega (arith, few))) (source_draws m (omega (arith, few))))
    ∙ ap (λ k. kinds_from k m x) (one_before n c)

folds_are : (n c i m x : ℕ) → m ≡ 64 + i → i + n ≤ 8 → folds i n x ++ kinds_from c (m + n) (skip (2 * n) x) ≡ kinds_from (n + c) m x
unfolding folds
folds_are zero c i m x at few = let e : m + 0 ≡ m = omega arith in ap (λ k. kinds_from c k (skip 0 x)) e ∙ ap (kinds_from c m) (none_skipped x) ∙ ap (λ k. kinds_from k m x) (sym (zero-add c))
folds_are (suc n) c i m x at few =
    let e : m + suc n ≡ m + 1 + n = omega arith in
    let kind = fold (8 * i + draw x 1 8) (8 * i + draw x 2 8) in
    let more : 2 * suc n ≡ 2 + 2 * n = omega arith in
    ap (λ k. kind ∷ (folds (i + 1) n (skip 2 x) ++ kinds_from c k (skip (2 * suc n) x))) e
    ∙ ap (λ d. kind ∷ (folds (i + 1) n (skip 2 x) ++ kinds_from c (m + 1 + n) (skip d x))) more
    ∙ ap (λ s. kind ∷ (folds (i + 1) n (skip 2 x) ++ kinds_from c (m + 1 + n) s)) (sym (skipped x 2 (2 * n)))
    ∙ ap (λ ks. kind ∷ ks) (folds_are n c (i + 1) (m + 1) (skip 2 x) (omega (arith, at)) (omega (arith, few)))
    ∙ sym (one_kind (n + c) m x 2 kind (fold_kind m i x at (omega (arith, few))) (fold_draws m i at (omega (arith, few))))
    ∙ ap (λ k. kinds_from k m x) (one_before n c)

signals_are : (n c q r m x : ℕ) → m ≡ 72 + (q * 6 + r) → r + n ≤ 5 → signals m n x ++ kinds_from c (m + n) (skip (3 * n) x) ≡ kinds_from (n + c) m x
unfolding signals
signals_are zero c q r m x at few = let e : m + 0 ≡ m = omega arith in ap (λ k. kinds_from c k (skip 0 x)) e ∙ ap (kinds_from c m) (none_skipped x) ∙ ap (λ k. kinds_from k m x) (sym (zero-add c))
signals_are (suc n) c q r m x at few =
    let e : m + suc n ≡ m + 1 + n = omega arith in
    let kind = signal (draw x 1 m) (draw x 2 m) (draw x 3 3) in
    let more : 3 * suc n ≡ 3 + 3 * n = omega arith in
    ap (λ k. kind ∷ (signals (m + 1) n (skip 3 x) ++ kinds_from c k (skip (3 * suc n) x))) e
    ∙ ap (λ d. kind ∷ (signals (m + 1) n (skip 3 x) ++ kinds_from c (m + 1 + n) (skip d x))) more
    ∙ ap (λ s. kind ∷ (signals (m + 1) n (skip 3 x) ++ kinds_from c (m + 1 + n) s)) (sym (skipped x 3 (3 * n)))
    ∙ ap (λ ks. kind ∷ ks) (signals_are n c q (r + 1) (m + 1) (skip 3 x) (omega (arith, at)) (omega (arith, few)))
    ∙ sym (one_kind (n + c) m x 3 kind (signal_kind m q r x at (omega (arith, few))) (signal_draws m q r at (omega (arith, few))))
    ∙ ap (λ k. kinds_from k m x) (one_before n c)

rows_are : (n q m x : ℕ) → m ≡ 72 + q * 6 → rows m n x ≡ kinds_from (6 * n) m x
unfolding rows
rows_are zero q m x at = sym (no_kinds m x)
rows_are (suc n) q m x at =
    let y = skip 15 x in
    let next : m + 6 ≡ m + 5 + 1 = omega arith in
    let all : 6 * suc n ≡ 5 + suc (6 * n) = omega arith in
    let last = choose_among (m + 5) y in
    ap (λ ks. signals m 5 x ++ (last ∷ ks)) (rows_are n (q + 1) (m + 6) (skip 20 x) (omega (arith, at)))
    ∙ ap (λ k. signals m 5 x ++ (last ∷ kinds_from (6 * n) k (skip 20 x))) next
    ∙ ap (λ s. signals m 5 x ++ (last ∷ kinds_from (6 * n) (m + 5 + 1) s)) (sym (skipped x 15 5))
    ∙ ap (λ ks. signals m 5 x ++ ks) (sym (one_kind (6 * n) (m + 5) y 5 last (choose_kind (m + 5) q y (omega (arith, at))) (choose_draws (m + 5) q (omega (arith, at)))))
    ∙ signals_are 5 (suc (6 * n)) q 0 m x (omega (arith, at)) (omega arith)
    ∙ ap (λ k. kinds_from k m x) (sym all)

kinds_are : (x : ℕ) → all_kinds x ≡ kinds_from 216 0 x
unfolding all_kinds
kinds_are x =
    ap (λ ks. sources 64 x ++ (folds 0 8 (skip 64 x) ++ ks)) (rows_are 24 0 72 (skip 80 x) refl)
    ∙ ap (λ s. sources 64 x ++ (folds 0 8 (skip 64 x) ++ kinds_from 144 72 s)) (sym (skipped x 64 16))
    ∙ ap (λ ks. sources 64 x ++ ks) (folds_are 8 144 0 64 (skip 64 x) refl (omega arith))
    ∙ sources_are 64 152 0 x (omega arith)

none_named : (names : List (List ℕ)) → named names [] ≡ []
none_named [] = refl
none_named (name ∷ names) = refl

named_are : (n m x : ℕ) → m + n ≡ 216 → named (drop m all_names) (kinds_from n m x) ≡ nodes_from n m x
unfolding kinds_from nodes_from name_of
named_are zero m x all = none_named (drop m all_names)
named_are (suc n) m x all =
    let long = length-all_names in
    ap (λ names. named names (kind_at m x ∷ kinds_from n (m + 1) (skip (draws_at m) x))) (drop_more all_names m [] (omega (arith, all, long)))
    ∙ ap (λ rest. (name_of m, kind_at m x) ∷ rest) (named_are n (m + 1) (skip (draws_at m) x) (omega (arith, all)))

-- the declarations of the workload are its nodes
pub declarations_are : (x : ℕ) → workload_declarations x ≡ nodes_from 216 0 x
unfolding workload_declarations
declarations_are x = ap (named all_names) (kinds_are x) ∙ named_are 216 0 x refl

-- how many draws so many nodes take
unfoldable all_draws : ℕ → ℕ → ℕ
all_draws zero m = 0
all_draws (suc n) m = draws_at m + all_draws n (m + 1)

behind_draws : (n m x : ℕ) → state_behind n m x ≡ skip (all_draws n m) x
unfolding state_behind all_draws skip
behind_draws zero m x = refl
behind_draws (suc n) m x = behind_draws n (m + 1) (skip (draws_at m) x) ∙ skipped x (draws_at m) (all_draws n (m + 1))

pub state_is : (x : ℕ) → state_behind 216 0 x ≡ skip 560 x
unfolding all_draws draws_at
state_is x = let all : all_draws 216 0 ≡ 560 = refl in behind_draws 216 0 x ∙ ap (λ d. skip d x) all
