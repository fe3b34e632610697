-- The names of the workload's nodes are different, so that each is found where it stands.
use Rattle.std.proofs.Common.{◌≡◌, ℕ, zero, suc, ◌+◌, ◌*◌, ◌^◌, ◌<◌, true, false, List, [], ◌∷◌, ◌++◌, length, refl, ap, ◌∙◌, arith, ◌⊎◌, inl, inr, drop}
use Rattle.std.specs.Prelude.{not, ◌&&◌, ◌||◌, if◌then◌else◌, decimal, slice_index_or}
use Rattle.std.specs.List.{list_any}
use Rattle.std.specs.Str.{bytes_eq}
use Rattle.std.proofs.lemmas.Slice.Eq.{bytes_eq-Decides}
use Rattle.std.proofs.lemmas.Fmt.{decimal_injective}
use Rattle.std.proofs.lemmas.Bool.{or_parts, and_parts, not-true}
use Rattle.script_tree.specs.Names.{place_in}
use Rattle.script_tree.proofs.Texts.{other_text}
use Rattle.signal_graph.specs.Graph.{are_different}
use Rattle.separate_decks.specs.Workload.{row_of_names, names_of_rows, all_names, name_of}

-- two names are different by their letter or by their number
other_name : (l m v w : ℕ) → (l ≡ m → ⊥) ⊎ (v < w) → v < 2 ^ 60 → w < 2 ^ 60 → bytes_eq (l ∷ decimal v) (m ∷ decimal w) ≡ false
other_name l m v w (inl ne) low high = other_text (l ∷ decimal v) (m ∷ decimal w) (λ e. ne (ap (λ (t : List ℕ). slice_index_or t 0 0) e))
other_name l m v w (inr lt) low high = other_text (l ∷ decimal v) (m ∷ decimal w) (λ e. (let i = decimal_injective v w (omega arith) (omega arith) (ap (λ (t : List ℕ). drop 1 t) e) in omega (arith, i, lt)))

later : (l m v w : ℕ) → (l ≡ m → ⊥) ⊎ (v < w) → (l ≡ m → ⊥) ⊎ (v < w + 1)
later l m v w (inl ne) = inl ne
later l m v w (inr lt) = inr (omega (arith, lt))

-- a name that is in no row of names
absent_row : (l v m from n : ℕ) (rest : List (List ℕ)) → (l ≡ m → ⊥) ⊎ (v < from) → v < 2 ^ 60 → from + n < 2 ^ 60 → list_any (bytes_eq (l ∷ decimal v)) (row_of_names (m ∷ []) from n ++ rest) ≡ list_any (bytes_eq (l ∷ decimal v)) rest
absent_row l v m from zero rest h low high = refl
absent_row l v m from (suc n) rest h low high =
    ap (λ b. b || list_any (bytes_eq (l ∷ decimal v)) (row_of_names (m ∷ []) (from + 1) n ++ rest)) (other_name l m v from h low (omega arith))
    ∙ absent_row l v m (from + 1) n rest (later l m v from h) low (omega arith)

rows_later : (l m v j : ℕ) → (l ≡ m → ⊥) ⊎ (v < 5 * j) → (l ≡ m → ⊥) ⊎ (v < 5 * (j + 1))
rows_later l m v j (inl ne) = inl ne
rows_later l m v j (inr lt) = inr (omega (arith, lt))

absent_rows : (l v j n : ℕ) → (l ≡ 103 → ⊥) ⊎ (v < 5 * j) → (l ≡ 99 → ⊥) ⊎ (v < j) → v < 2 ^ 60 → 5 * (j + n) < 2 ^ 60 → list_any (bytes_eq (l ∷ decimal v)) (names_of_rows j n) ≡ false
absent_rows l v j zero g c low high = refl
absent_rows l v j (suc n) g c low high =
    absent_row l v 103 (5 * j) 5 ((99 ∷ decimal j) ∷ names_of_rows (j + 1) n) g low (omega arith)
    ∙ ap (λ b. b || list_any (bytes_eq (l ∷ decimal v)) (names_of_rows (j + 1) n)) (other_name l 99 v j c low (omega arith))
    ∙ absent_rows l v (j + 1) n (rows_later l 103 v j g) (later l 99 v j c) low (omega arith)

different_row : (l from n : ℕ) (rest : List (List ℕ)) → from + n < 2 ^ 60 → ((v : ℕ) → v < from + n → list_any (bytes_eq (l ∷ decimal v)) rest ≡ false) → are_different rest ≡ true → are_different (row_of_names (l ∷ []) from n ++ rest) ≡ true
different_row l from zero rest high h more = more
different_row l from (suc n) rest high h more =
    ap (λ b. not b && are_different (row_of_names (l ∷ []) (from + 1) n ++ rest))
    (absent_row l from l (from + 1) n rest (inr (omega arith)) (omega arith) (omega arith) ∙ h from (omega arith))
    ∙ different_row l (from + 1) n rest (omega arith) (λ v low. h v (omega arith)) more

different_rows : (j n : ℕ) → 5 * (j + n) < 2 ^ 60 → are_different (names_of_rows j n) ≡ true
different_rows j zero high = refl
different_rows j (suc n) high =
    let rest = names_of_rows (j + 1) n in
    different_row 103 (5 * j) 5 ((99 ∷ decimal j) ∷ rest) (omega arith)
    (λ v low. ap (λ b. b || list_any (bytes_eq (103 ∷ decimal v)) rest) (other_name 103 99 v j (inl (λ e. omega arith)) (omega arith) (omega arith))
    ∙ absent_rows 103 v (j + 1) n (inr (omega arith)) (inl (λ e. omega arith)) (omega arith) (omega arith))
    (ap (λ b. not b && are_different rest) (absent_rows 99 j (j + 1) n (inl (λ e. omega arith)) (inr (omega arith)) (omega arith) (omega arith))
    ∙ different_rows (j + 1) n (omega arith))

pub length-all_names : length all_names ≡ 216
unfolding all_names
length-all_names = refl

pub all_different : are_different all_names ≡ true
unfolding all_names
all_different =
    let last = names_of_rows 0 24 in
    different_row 115 0 64 (row_of_names (102 ∷ []) 0 8 ++ last) (omega arith)
    (λ v low. absent_row 115 v 102 0 8 last (inl (λ e. omega arith)) (omega arith) (omega arith) ∙ absent_rows 115 v 0 24 (inl (λ e. omega arith)) (inl (λ e. omega arith)) (omega arith) (omega arith))
    (different_row 102 0 8 last (omega arith)
    (λ v low. absent_rows 102 v 0 24 (inl (λ e. omega arith)) (inl (λ e. omega arith)) (omega arith) (omega arith))
    (different_rows 0 24 (omega arith)))

none_at : (name : List ℕ) (names : List (List ℕ)) (k : ℕ) → list_any (bytes_eq name) names ≡ false → k < length names → bytes_eq name (slice_index_or names k []) ≡ false
none_at name [] k e low = absurd (omega arith)
none_at name (first ∷ names) zero e low = (or_parts (bytes_eq name first) (list_any (bytes_eq name) names) e).0
none_at name (first ∷ names) (suc k) e low = none_at name names k (or_parts (bytes_eq name first) (list_any (bytes_eq name) names) e).1 (omega arith)

-- where no name stands twice, each is found where it stands
place_at : (names : List (List ℕ)) → are_different names ≡ true → (k : ℕ) → k < length names → place_in names (slice_index_or names k []) ≡ k
place_at [] h k low = absurd (omega arith)
place_at (name ∷ names) h zero low = ap (λ b. if b then 0 else place_in names name + 1) ((bytes_eq-Decides name name).1 refl)
place_at (name ∷ names) h (suc k) low =
    let parts = and_parts (not (list_any (bytes_eq name) names)) (are_different names) h in
    let rest = place_at names parts.1 k (omega arith) in
    ap (λ b. if b then 0 else place_in names (slice_index_or names k []) + 1) (none_at name names k (not-true (list_any (bytes_eq name) names) parts.0) (omega arith))
    ∙ (omega (arith, rest))

-- the name of a node names it
pub place_of_name : (k : ℕ) → k < 216 → place_in all_names (name_of k) ≡ k
unfolding name_of
place_of_name k low = let long = length-all_names in place_at all_names all_different k (omega (arith, long))
