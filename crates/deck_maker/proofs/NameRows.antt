-- Which letter and number the name of a node is.
use Rattle.std.proofs.Common.{◌≡◌, ℕ, zero, suc, ◌+◌, ◌-◌, ◌*◌, ◌<◌, ◌≤◌, List, [], ◌∷◌, ◌++◌, refl, sym, ap, ◌∙◌, subst, arith, zero-add}
use Rattle.std.specs.Prelude.{◌/◌, ◌%◌, IsTrue, codes, slice_index_or}
use Rattle.std.proofs.Math.Nat.{mod-lt}
use Rattle.std.proofs.lemmas.Nat.{div-add-mod'}
use Rattle.script_tree.specs.Names.{is_name}
use Rattle.separate_decks.specs.Workload.{numbered, row_of_names, names_of_rows, all_names, name_of}
use Rattle.separate_decks.proofs.Keeping.{name_is_one}

-- a name in a row of names, and a name behind it
in_row : (letter : List ℕ) (from n k : ℕ) (rest : List (List ℕ)) → k < n → slice_index_or (row_of_names letter from n ++ rest) k [] ≡ numbered letter (from + k)
in_row letter from zero k rest low = absurd (omega arith)
in_row letter from (suc n) zero rest low = let e : from ≡ from + 0 = omega arith in ap (numbered letter) e
in_row letter from (suc n) (suc k) rest low = let e : from + 1 + k ≡ from + suc k = omega arith in in_row letter (from + 1) n k rest (omega arith) ∙ ap (numbered letter) e

behind_row : (letter : List ℕ) (from n k : ℕ) (rest : List (List ℕ)) → slice_index_or (row_of_names letter from n ++ rest) (n + k) [] ≡ slice_index_or rest k []
behind_row letter from zero k rest = let e : 0 + k ≡ k = omega arith in ap (λ i. slice_index_or rest i []) e
behind_row letter from (suc n) k rest =
    let e : suc n + k ≡ suc (n + k) = omega arith in
    ap (λ i. slice_index_or (row_of_names letter from (suc n) ++ rest) i []) e ∙ behind_row letter (from + 1) n k rest

-- rows of five signals and a choose
behind_rows : (j n k : ℕ) → slice_index_or (names_of_rows j (suc n)) (6 + k) [] ≡ slice_index_or (names_of_rows (j + 1) n) k []
behind_rows j n k =
    let e : 6 + k ≡ 5 + suc k = omega arith in
    ap (λ i. slice_index_or (names_of_rows j (suc n)) i []) e ∙ behind_row (codes "g") (5 * j) 5 (suc k) (numbered (codes "c") j ∷ names_of_rows (j + 1) n)

signal_in_rows : (j n i r : ℕ) → i < n → r < 5 → slice_index_or (names_of_rows j n) (6 * i + r) [] ≡ numbered (codes "g") (5 * (j + i) + r)
signal_in_rows j zero i r low few = absurd (omega arith)
signal_in_rows j (suc n) zero r low few =
    let place : 6 * 0 + r ≡ r = omega arith in
    let e : 5 * j + r ≡ 5 * (j + 0) + r = omega arith in
    ap (λ k. slice_index_or (names_of_rows j (suc n)) k []) place
    ∙ in_row (codes "g") (5 * j) 5 r (numbered (codes "c") j ∷ names_of_rows (j + 1) n) few
    ∙ ap (numbered (codes "g")) e
signal_in_rows j (suc n) (suc i) r low few =
    let place : 6 * suc i + r ≡ 6 + (6 * i + r) = omega arith in
    let e : 5 * (j + 1 + i) + r ≡ 5 * (j + suc i) + r = omega arith in
    ap (λ k. slice_index_or (names_of_rows j (suc n)) k []) place
    ∙ behind_rows j n (6 * i + r)
    ∙ signal_in_rows (j + 1) n i r (omega arith) few
    ∙ ap (numbered (codes "g")) e

choose_in_rows : (j n i : ℕ) → i < n → slice_index_or (names_of_rows j n) (6 * i + 5) [] ≡ numbered (codes "c") (j + i)
choose_in_rows j zero i low = absurd (omega arith)
choose_in_rows j (suc n) zero low =
    let e : j ≡ j + 0 = omega arith in
    behind_row (codes "g") (5 * j) 5 0 (numbered (codes "c") j ∷ names_of_rows (j + 1) n) ∙ ap (numbered (codes "c")) e
choose_in_rows j (suc n) (suc i) low =
    let place : 6 * suc i + 5 ≡ 6 + (6 * i + 5) = omega arith in
    let e : j + 1 + i ≡ j + suc i = omega arith in
    ap (λ k. slice_index_or (names_of_rows j (suc n)) k []) place
    ∙ behind_rows j n (6 * i + 5)
    ∙ choose_in_rows (j + 1) n i (omega arith)
    ∙ ap (numbered (codes "c")) e

pub source_name : (n : ℕ) → n < 64 → name_of n ≡ numbered (codes "s") n
unfolding name_of all_names
source_name n low = let e : 0 + n ≡ n = omega arith in in_row (codes "s") 0 64 n (row_of_names (codes "f") 0 8 ++ names_of_rows 0 24) low ∙ ap (numbered (codes "s")) e

pub fold_name : (n i : ℕ) → n ≡ 64 + i → i < 8 → name_of n ≡ numbered (codes "f") i
unfolding name_of all_names
fold_name n i e low =
    ap (λ k. slice_index_or (row_of_names (codes "s") 0 64 ++ (row_of_names (codes "f") 0 8 ++ names_of_rows 0 24)) k []) e
    ∙ behind_row (codes "s") 0 64 i (row_of_names (codes "f") 0 8 ++ names_of_rows 0 24)
    ∙ in_row (codes "f") 0 8 i (names_of_rows 0 24) low
    ∙ ap (numbered (codes "f")) (zero-add i)

behind_folds : (n k : ℕ) → n ≡ 64 + (8 + k) → name_of n ≡ slice_index_or (names_of_rows 0 24) k []
unfolding name_of all_names
behind_folds n k e =
    ap (λ m. slice_index_or (row_of_names (codes "s") 0 64 ++ (row_of_names (codes "f") 0 8 ++ names_of_rows 0 24)) m []) e
    ∙ behind_row (codes "s") 0 64 (8 + k) (row_of_names (codes "f") 0 8 ++ names_of_rows 0 24)
    ∙ behind_row (codes "f") 0 8 k (names_of_rows 0 24)

pub signal_name : (n i r : ℕ) → n ≡ 72 + (6 * i + r) → i < 24 → r < 5 → name_of n ≡ numbered (codes "g") (5 * i + r)
signal_name n i r e low few = behind_folds n (6 * i + r) (omega (arith, e)) ∙ signal_in_rows 0 24 i r low few ∙ ap (λ k. numbered (codes "g") (5 * k + r)) (zero-add i)

pub choose_name : (n i : ℕ) → n ≡ 72 + (6 * i + 5) → i < 24 → name_of n ≡ numbered (codes "c") i
choose_name n i e low = behind_folds n (6 * i + 5) (omega (arith, e)) ∙ choose_in_rows 0 24 i low ∙ ap (numbered (codes "c")) (zero-add i)

-- these are names
pub source_named : (n : ℕ) → n < 64 → IsTrue (is_name (numbered (codes "s") n))
source_named n low = subst (λ name. IsTrue (is_name name)) (source_name n low) (name_is_one n (omega (arith, low)))

pub fold_named : (i : ℕ) → i < 8 → IsTrue (is_name (numbered (codes "f") i))
fold_named i low = subst (λ name. IsTrue (is_name name)) (fold_name (64 + i) i refl low) (name_is_one (64 + i) (omega (arith, low)))

signal_named : (i r : ℕ) → i < 24 → r < 5 → IsTrue (is_name (numbered (codes "g") (5 * i + r)))
signal_named i r low few = subst (λ name. IsTrue (is_name name)) (signal_name (72 + (6 * i + r)) i r refl low few) (name_is_one (72 + (6 * i + r)) (omega (arith, low, few)))

choose_named : (i : ℕ) → i < 24 → IsTrue (is_name (numbered (codes "c") i))
choose_named i low = subst (λ name. IsTrue (is_name name)) (choose_name (72 + (6 * i + 5)) i refl low) (name_is_one (72 + (6 * i + 5)) (omega (arith, low)))

-- the row of a node and its place in the row
row_low : (n : ℕ) → 72 ≤ n → n < 216 → (n - 72) / 6 < 24
row_low n high low = let whole = div-add-mod' (n - 72) 6 in omega (arith, whole, high, low)

row_and_place : (n : ℕ) → 72 ≤ n → n ≡ 72 + (6 * ((n - 72) / 6) + (n - 72) % 6)
row_and_place n high = let whole = div-add-mod' (n - 72) 6 in omega (arith, whole, high)

last_place : (n : ℕ) → 5 ≤ (n - 72) % 6 → (n - 72) % 6 ≡ 5
last_place n high = let low : (n - 72) % 6 < 6 = mod-lt (n - 72) (omega arith) in omega (arith, low, high)

pub signal_is_named : (n : ℕ) → 72 ≤ n → n < 216 → (n - 72) % 6 < 5 → IsTrue (is_name (numbered (codes "g") (5 * ((n - 72) / 6) + (n - 72) % 6)))
signal_is_named n high low few = signal_named ((n - 72) / 6) ((n - 72) % 6) (row_low n high low) few

pub choose_is_named : (n : ℕ) → 72 ≤ n → n < 216 → IsTrue (is_name (numbered (codes "c") ((n - 72) / 6)))
choose_is_named n high low = choose_named ((n - 72) / 6) (row_low n high low)

pub source_at : (n : ℕ) → n < 64 → numbered (codes "s") n ≡ name_of n
source_at n low = sym (source_name n low)

pub fold_at : (n : ℕ) → 64 ≤ n → n < 72 → numbered (codes "f") (n - 64) ≡ name_of n
fold_at n high low = sym (fold_name n (n - 64) (omega (arith, high)) (omega (arith, high, low)))

pub signal_at : (n : ℕ) → 72 ≤ n → n < 216 → (n - 72) % 6 < 5 → numbered (codes "g") (5 * ((n - 72) / 6) + (n - 72) % 6) ≡ name_of n
signal_at n high low few = sym (signal_name n ((n - 72) / 6) ((n - 72) % 6) (row_and_place n high) (row_low n high low) few)

pub choose_at : (n : ℕ) → 72 ≤ n → n < 216 → 5 ≤ (n - 72) % 6 → numbered (codes "c") ((n - 72) / 6) ≡ name_of n
choose_at n high low last =
    let five = last_place n last in
    let both = row_and_place n high in
    sym (choose_name n ((n - 72) / 6) (omega (arith, both, five)) (row_low n high low))
