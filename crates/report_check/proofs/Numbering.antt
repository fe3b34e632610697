-- Versions: so many different ones of 1 to as many are each of them, and lists of numbers that rise.
use Rattle.std.proofs.Common.{◌≡◌, ℕ, zero, suc, ◌+◌, ◌<◌, ◌≤◌, Bool, true, false, cond, List, [], ◌∷◌, ◌++◌, length, refl, sym, ap, ◌∙◌, subst, arith, true≢false}
use Rattle.std.specs.Prelude.{◌==◌, slice_index, count_by}
use Rattle.std.specs.List.{AllByRecursion}
use Rattle.std.specs.List.Sorted.{IsStrictlyIncreasing}
use Rattle.std.proofs.lemmas.Bool.Decides.{eqb_tells}
use Rattle.std.proofs.lemmas.List.Sums.{sum_by-cons}
use Rattle.signal_graph.specs.declared.log.Logged.{Logged}

-- ---- how often a version stands in a log

abbrev pub count : ℕ → List Logged → ℕ
count version log = count_by (λ (entry : Logged). entry.version == version) log

count_first : (version : ℕ) (entry : Logged) (log : List Logged) → count version (entry ∷ log) ≡ cond (entry.version == version) 1 0 + count version log
count_first version entry log = sum_by-cons (λ (x : Logged). cond (x.version == version) 1 0) entry log

-- entries with a version of 1 to n
abbrev total : ℕ → List Logged → ℕ
total zero log = 0
total (suc n) log = total n log + count (suc n) log

-- 1 for a version of 1 to n
abbrev among : ℕ → ℕ → ℕ
among zero version = 0
among (suc n) version = among n version + cond (version == suc n) 1 0

total_none : (n : ℕ) → total n [] ≡ 0
total_none zero = refl
total_none (suc n) = let rest = total_none n in omega (arith, rest)

total_first : (n : ℕ) (entry : Logged) (log : List Logged) → total n (entry ∷ log) ≡ among n entry.version + total n log
total_first zero entry log = refl
total_first (suc n) entry log =
    let rest = total_first n entry log in
    let here = count_first (suc n) entry log in
    omega (arith, rest, here)

at_most_one : (b : Bool) → cond b 1 0 ≤ 1
at_most_one true = omega arith
at_most_one false = omega arith

is_equal : (m n : ℕ) → m ≡ n → ◌≡◌ {A = ℕ} (cond (m == n) 1 0) 1
is_equal m n e = ap (λ b. cond b 1 0) (let h : (m == n) ≡ true = grind (arith, eqb_tells, e) in h)

is_other : (m n : ℕ) → (m ≡ n → ⊥) → ◌≡◌ {A = ℕ} (cond (m == n) 1 0) 0
is_other m n other = ap (λ b. cond b 1 0) (let h : (m == n) ≡ false = grind (arith, eqb_tells) in h)

among_beyond : (n version : ℕ) → n < version → among n version ≡ 0
among_beyond zero version h = refl
among_beyond (suc n) version h =
    let rest = among_beyond n version (omega (arith, h)) in
    let here = is_other version (suc n) (λ e. omega (arith, e, h)) in
    omega (arith, rest, here)

among_below : (n version : ℕ) → version < 1 → among n version ≡ 0
among_below zero version h = refl
among_below (suc n) version h =
    let rest = among_below n version h in
    let here = is_other version (suc n) (λ e. omega (arith, e, h)) in
    omega (arith, rest, here)

among_within : (n version : ℕ) → 1 ≤ version → version ≤ n → among n version ≡ 1
among_within zero version low high = absurd (omega (arith, low, high))
among_within (suc n) version low high = by (λ less. among_within n version low less) (version == suc n) refl
  where
    by : (version ≤ n → among n version ≡ 1) → (b : Bool) → (version == suc n) ≡ b → among (suc n) version ≡ 1
    by later true e =
        let same : version ≡ suc n = grind (arith, eqb_tells, e) in
        let rest = among_beyond n version (omega (arith, same)) in
        let here = is_equal version (suc n) same in
        omega (arith, rest, here)
    by later false e =
        let differ : version ≡ suc n → ⊥ = λ same. true≢false (sym (let h : (version == suc n) ≡ true = grind (arith, eqb_tells, same) in h) ∙ e) in
        let rest = later (lower differ) in
        let here = is_other version (suc n) differ in
        omega (arith, rest, here)
      where
        lower : (version ≡ suc n → ⊥) → version ≤ n
        lower differ = grind (arith, high, differ)

among_one : (n version : ℕ) → among n version ≤ 1
among_one zero version = omega arith
among_one (suc n) version = by (among_one n version) (version == suc n) refl
  where
    by : among n version ≤ 1 → (b : Bool) → (version == suc n) ≡ b → among (suc n) version ≤ 1
    by rest true e =
        let same : version ≡ suc n = grind (arith, eqb_tells, e) in
        let none = among_beyond n version (omega (arith, same)) in
        let here = at_most_one (version == suc n) in
        omega (arith, none, here)
    by rest false e =
        let here : ◌≡◌ {A = ℕ} (cond (version == suc n) 1 0) 0 = ap (λ b. cond b 1 0) e in
        omega (arith, rest, here)

-- a version is of 1 to n
abbrev pub IsAmong : ℕ → Logged → Type 0
IsAmong n entry = (1 ≤ entry.version) × (entry.version ≤ n)

one_is_among : (n version : ℕ) → among n version ≡ 1 → (1 ≤ version) × (version ≤ n)
one_is_among n version e = (low (nat_low version), high (nat_high n version))
  where
    nat_low : (v : ℕ) → (v < 1 → ⊥) → 1 ≤ v
    nat_low v h = grind (arith, h)

    low : ((version < 1 → ⊥) → 1 ≤ version) → 1 ≤ version
    low f = f (λ less. let none = among_below n version less in omega (arith, none, e))

    nat_high : (m v : ℕ) → (m < v → ⊥) → v ≤ m
    nat_high m v h = grind (arith, h)

    high : ((n < version → ⊥) → version ≤ n) → version ≤ n
    high f = f (λ more. let none = among_beyond n version more in omega (arith, none, e))

total_most : (n : ℕ) (log : List Logged) → total n log ≤ length log
total_most n [] = let none = total_none n in omega (arith, none)
total_most n (entry ∷ log) =
    let rest = total_most n log in
    let here = total_first n entry log in
    let one = among_one n entry.version in
    omega (arith, rest, here, one)

total_all : (n : ℕ) (log : List Logged) → AllByRecursion (IsAmong n) log → total n log ≡ length log
total_all n [] h = total_none n
total_all n (entry ∷ log) h =
    let rest = total_all n log h.1 in
    let here = total_first n entry log in
    let one = among_within n entry.version h.0.0 h.0.1 in
    omega (arith, rest, here, one)

pub all_among : (n : ℕ) (log : List Logged) → total n log ≡ length log → AllByRecursion (IsAmong n) log
all_among n [] h = tt
all_among n (entry ∷ log) h =
    let most = total_most n log in
    let here = total_first n entry log in
    let few = among_one n entry.version in
    let one : among n entry.version ≡ 1 = omega (arith, h, most, here, few) in
    let rest : total n log ≡ length log = omega (arith, h, here, one) in
    (one_is_among n entry.version one, all_among n log rest)

-- where no version stands twice, at most n entries have one of 1 to n
total_few : (n : ℕ) (log : List Logged) → ((version : ℕ) → count version log ≤ 1) → total n log ≤ n
total_few zero log h = omega arith
total_few (suc n) log h =
    let rest = total_few n log h in
    let here = h (suc n) in
    omega (arith, rest, here)

each_one : (n : ℕ) (log : List Logged) → ((version : ℕ) → count version log ≤ 1) → total n log ≡ n → (version : ℕ) → 1 ≤ version → version ≤ n → count version log ≡ 1
each_one zero log h whole version low high = absurd (omega (arith, low, high))
each_one (suc n) log h whole version low high = by (λ less smaller. each_one n log h less version low smaller) (version == suc n) refl
  where
    by : (total n log ≡ n → version ≤ n → count version log ≡ 1) → (b : Bool) → (version == suc n) ≡ b → count version log ≡ 1
    by later true e =
        let same : version ≡ suc n = grind (arith, eqb_tells, e) in
        let few = total_few n log h in
        let here = h (suc n) in
        let one : count (suc n) log ≡ 1 = omega (arith, whole, few, here) in
        ap (λ v. count v log) same ∙ one
    by later false e =
        let differ : version ≡ suc n → ⊥ = λ same. true≢false (sym (let k : (version == suc n) ≡ true = grind (arith, eqb_tells, same) in k) ∙ e) in
        let few = total_few n log h in
        let here = h (suc n) in
        later (omega (arith, whole, few, here)) (lower differ)
      where
        lower : (version ≡ suc n → ⊥) → version ≤ n
        lower differ = grind (arith, high, differ)

total_each : (n : ℕ) (log : List Logged) → ((version : ℕ) → 1 ≤ version → version ≤ n → count version log ≡ 1) → total n log ≡ n
total_each zero log h = refl
total_each (suc n) log h =
    let rest = total_each n log (λ version low high. h version low (omega (arith, high))) in
    let here = h (suc n) (omega arith) (omega arith) in
    omega (arith, rest, here)

-- so many different versions of 1 to so many are each of them, once
pub each_once : (log : List Logged) → AllByRecursion (IsAmong (length log)) log → ((version : ℕ) → count version log ≤ 1) → (version : ℕ) → 1 ≤ version → version ≤ length log → count version log ≡ 1
each_once log all few = each_one (length log) log few (total_all (length log) log all)

-- where each of 1 to so many stands once in as many entries, no other stands there
pub none_else : (log : List Logged) → ((version : ℕ) → 1 ≤ version → version ≤ length log → count version log ≡ 1) → AllByRecursion (IsAmong (length log)) log
none_else log each = all_among (length log) log (total_each (length log) log each)

-- ---- numbers that rise

pub tail_rises : (z : ℕ) (zs : List ℕ) → IsStrictlyIncreasing (z ∷ zs) → IsStrictlyIncreasing zs
tail_rises z zs g j inside =
    let f : suc j + 1 ≡ suc (j + 1) = omega arith in
    subst (λ i. slice_index zs j < slice_index (z ∷ zs) i) f (g (suc j) (omega (arith, inside)))

pub rising_more : (vs : List ℕ) (v : ℕ) → IsStrictlyIncreasing vs → AllByRecursion (λ x. x < v) vs → IsStrictlyIncreasing (vs ++ v ∷ [])
rising_more [] v h all k low = absurd (omega (arith, low))
rising_more (x ∷ []) v h all zero low = all.0
rising_more (x ∷ []) v h all (suc k) low = absurd (omega (arith, low))
rising_more (x ∷ y ∷ vs) v h all zero low = h zero (omega arith)
rising_more (x ∷ y ∷ vs) v h all (suc k) low =
    let e : suc k + 1 ≡ suc (k + 1) = omega arith in
    subst (λ j. slice_index ((y ∷ vs) ++ v ∷ []) k < slice_index (x ∷ ((y ∷ vs) ++ v ∷ [])) j) (sym e)
    (rising_more (y ∷ vs) v (tail_rises x (y ∷ vs) h) all.1 k (omega (arith, low)))

-- numbers before one of a list that rises are less
pub before_less : (vs : List ℕ) (v : ℕ) (ws : List ℕ) → IsStrictlyIncreasing (vs ++ v ∷ ws) → AllByRecursion (λ x. x < v) vs
before_less [] v ws h = tt
before_less (x ∷ []) v ws h = (h zero (omega arith), tt)
before_less (x ∷ y ∷ vs) v ws h =
    let rest = before_less (y ∷ vs) v ws (tail_rises x ((y ∷ vs) ++ v ∷ ws) h) in
    let here = h zero (omega arith) in
    let next = rest.0 in
    (less x y v here next, rest)
  where
    less : (a b c : ℕ) → a < b → b < c → a < c
    less a b c g k = omega (arith, g, k)
