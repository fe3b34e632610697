-- A merge with all well-named calls has each caller's, in their order.
use Rattle.std.proofs.Common.{◌≡◌, ℕ, zero, suc, ◌+◌, ◌-◌, ◌<◌, ◌≤◌, Bool, true, false, cond, List, [], ◌∷◌, length, Option, Some, None, refl, sym, ap, ◌∙◌, subst, arith, true≢false}
use Rattle.std.specs.Prelude.{◌==◌, is_none, All}
use Rattle.std.specs.List.{AllByRecursion}
use Rattle.std.proofs.lemmas.Bool.Decides.{eqb_tells}
use Rattle.std.proofs.lemmas.List.{take_all}
use Rattle.std.proofs.lemmas.List.Sums.{sum_by-cons}
use Rattle.signal_graph.specs.declared.call.Call.{Call}
use Rattle.signal_graph.specs.declared.log.Logged.{Logged}
use Rattle.signal_graph.specs.declared.log.Refused.{Refused}
use Rattle.signal_graph.specs.Graph.{Graph}
use Rattle.signal_graph.specs.Machine.{misnamed}
use Rattle.call_log.specs.Made.{entries_of, calls_in, is_well_named, well_named, count_well_named, script_of, IsPrefix}
use Rattle.call_log.specs.Merge.{IsOfCaller, Merge}
use Rattle.call_log.proofs.Prefixes.{as_many, prefix-length}

-- the sum over the numbers below n
abbrev total : (ℕ → ℕ) → ℕ → ℕ
total f zero = 0
total f (suc n) = f 0 + total (λ k. f (suc k)) n

total_same : (f g : ℕ → ℕ) (n : ℕ) → ((k : ℕ) → f k ≡ g k) → total f n ≡ total g n
total_same f g zero h = refl
total_same f g (suc n) h =
    let first = h 0 in
    let rest = total_same (λ k. f (suc k)) (λ k. g (suc k)) n (λ k. h (suc k)) in
    omega (arith, first, rest)

total_none : (n : ℕ) → total (λ k. 0) n ≡ 0
total_none zero = refl
total_none (suc n) = let rest = total_none n in omega (arith, rest)

total_add : (f g : ℕ → ℕ) (n : ℕ) → total (λ k. f k + g k) n ≡ total f n + total g n
total_add f g zero = refl
total_add f g (suc n) = let rest = total_add (λ k. f (suc k)) (λ k. g (suc k)) n in omega (arith, rest)

total_le : (f g : ℕ → ℕ) (n : ℕ) → ((k : ℕ) → k < n → f k ≤ g k) → total f n ≤ total g n
total_le f g zero h = omega arith
total_le f g (suc n) h =
    let first = h 0 (omega arith) in
    let rest = total_le (λ k. f (suc k)) (λ k. g (suc k)) n (λ k low. h (suc k) (omega arith)) in
    omega (arith, first, rest)

-- where no part is larger and the whole is no smaller, each part is the same
total_each : (f g : ℕ → ℕ) (n : ℕ) → ((k : ℕ) → k < n → f k ≤ g k) → total g n ≤ total f n → (k : ℕ) → k < n → f k ≡ g k
total_each f g zero h whole k low = absurd (omega arith)
total_each f g (suc n) h whole zero low =
    let first = h 0 (omega arith) in
    let rest = total_le (λ k. f (suc k)) (λ k. g (suc k)) n (λ k low. h (suc k) (omega arith)) in
    omega (arith, first, rest, whole)
total_each f g (suc n) h whole (suc k) low =
    let first = h 0 (omega arith) in
    total_each (λ k. f (suc k)) (λ k. g (suc k)) n (λ k low. h (suc k) (omega arith)) (omega (arith, first, whole)) k (omega arith)

-- one of the numbers below n is a caller's
below : (n c s : ℕ) → c < s → total (λ k. cond (c == k + s) 1 0) n ≡ 0
below n c s low = total_same (λ k. cond (c == k + s) 1 0) (λ k. 0) n (λ k. ap (λ b. cond b 1 0) (apart k)) ∙ total_none n
  where
    apart : (k : ℕ) → (c == k + s) ≡ false
    apart k = let ne : c ≡ k + s → ⊥ = λ e. omega arith in grind (arith, eqb_tells)

once : (n c s : ℕ) → s ≤ c → c < s + n → total (λ k. cond (c == k + s) 1 0) n ≡ 1
once zero c s low high = absurd (omega arith)
once (suc n) c s low high = cases (c == 0 + s) refl (below n c (s + 1)) (once n c (s + 1))
  where
    moved : total (λ k. cond (c == suc k + s) 1 0) n ≡ total (λ k. cond (c == k + (s + 1)) 1 0) n
    moved = total_same (λ k. cond (c == suc k + s) 1 0) (λ k. cond (c == k + (s + 1)) 1 0) n (λ k. let e : suc k + s ≡ k + (s + 1) = omega arith in ap (λ i. cond (c == i) 1 0) e)

    cases : (b : Bool) → (c == 0 + s) ≡ b → (c < s + 1 → total (λ k. cond (c == k + (s + 1)) 1 0) n ≡ 0) → (s + 1 ≤ c → c < s + 1 + n → total (λ k. cond (c == k + (s + 1)) 1 0) n ≡ 1) → cond b 1 0 + total (λ k. cond (c == suc k + s) 1 0) n ≡ 1
    cases true here zero_more one_more =
        let e : c ≡ 0 + s = grind (arith, eqb_tells, here) in
        let rest = zero_more (omega arith) in
        omega (arith, rest, moved)
    cases false there zero_more one_more =
        let ne : c ≡ 0 + s → ⊥ = λ e. grind (arith, eqb_tells, there) in
        let more : s + 1 ≤ c = grind arith in
        let rest = one_more more (omega arith) in
        omega (arith, rest, moved)

one_longer : (b : Bool) (entry : Logged) (entries : List Logged) → length (cond b (entry ∷ entries) entries) ≡ cond b 1 0 + length entries
one_longer true entry entries = omega arith
one_longer false entry entries = omega arith

pub callers_are : (n : ℕ) (log : List Logged) → All (IsOfCaller n) log → AllByRecursion (IsOfCaller n) log
callers_are n [] h = tt
callers_are n (entry ∷ log) h = (h 0 entry (omega arith), callers_are n log (λ k d low. h (suc k) d (omega arith)))

-- each entry is one caller's
entries_total : (n : ℕ) (log : List Logged) → AllByRecursion (IsOfCaller n) log → total (λ k. length (entries_of (k + 1) log)) n ≡ length log
entries_total n [] h = total_none n
entries_total n (entry ∷ log) h =
    let rest = entries_total n log h.1 in
    let first = once n entry.caller 1 h.0.0 (let high = h.0.1 in omega (arith, high)) in
    total_same (λ k. length (entries_of (k + 1) (entry ∷ log))) (λ k. cond (entry.caller == k + 1) 1 0 + length (entries_of (k + 1) log)) n (λ k. one_longer (entry.caller == k + 1) entry (entries_of (k + 1) log))
    ∙ total_add (λ k. cond (entry.caller == k + 1) 1 0) (λ k. length (entries_of (k + 1) log)) n
    ∙ (omega (arith, rest, first))

named_total : (graph : Graph) (scripts : List (List Call)) → count_well_named graph scripts ≡ total (λ k. length (well_named graph (script_of scripts k))) (length scripts)
named_total graph [] = refl
named_total graph (calls ∷ scripts) =
    let rest = named_total graph scripts in
    omega (arith, rest, sum_by-cons (λ (cs : List Call). length (well_named graph cs)) calls scripts)

whole_prefix : (part whole : List Call) → IsPrefix part whole → length part ≡ length whole → part ≡ whole
whole_prefix part whole h e = h ∙ take_all (length part) whole (omega arith)

-- each caller has made all its well-named calls
pub all_made : (graph : Graph) (scripts : List (List Call)) (limit : ℕ) (log : List Logged) (refused : List Refused) → Merge graph scripts limit log refused → count_well_named graph scripts ≤ limit → (k : ℕ) → k < length scripts → calls_in (entries_of (k + 1) log) ≡ well_named graph (script_of scripts k)
all_made graph scripts limit log refused merge few k low =
    let n = length scripts in
    let size = merge.all_made few in
    let made = λ (i : ℕ). length (entries_of (i + 1) log) in
    let named = λ (i : ℕ). length (well_named graph (script_of scripts i)) in
    let parts = λ (i : ℕ) (h : i < n). (let le = prefix-length (calls_in (entries_of (i + 1) log)) (well_named graph (script_of scripts i)) (merge.in_order i h) in let e = as_many (entries_of (i + 1) log) in let r : made i ≤ named i = omega (arith, le, e) in r) in
    let whole : total named n ≤ total made n = omega (arith, size, entries_total n log (callers_are n log merge.callers), named_total graph scripts) in
    let same = total_each made named n parts whole k low in
    whole_prefix (calls_in (entries_of (k + 1) log)) (well_named graph (script_of scripts k)) (merge.in_order k low) (as_many (entries_of (k + 1) log) ∙ same)

-- nobody has the number 0
pub none_of_zero : (n : ℕ) (log : List Logged) → AllByRecursion (IsOfCaller n) log → entries_of 0 log ≡ []
none_of_zero n [] h = refl
none_of_zero n (entry ∷ log) h =
    let low = h.0.0 in
    let ne : entry.caller ≡ 0 → ⊥ = λ e. omega (arith, low, e) in
    let other : (entry.caller == 0) ≡ false = grind (arith, eqb_tells) in
    ap (λ b. cond b (entry ∷ entries_of 0 log) (entries_of 0 log)) other ∙ none_of_zero n log h.1

-- what holds of all calls of each caller holds of all calls of a log
head_of : (Q : Call → Type 0) (b : Bool) (entry : Logged) (entries : List Logged) → b ≡ true → AllByRecursion Q (calls_in (cond b (entry ∷ entries) entries)) → Q entry.call
head_of Q true entry entries e h = h.0
head_of Q false entry entries e h = absurd (true≢false (sym e))

tail_of : (Q : Call → Type 0) (b : Bool) (entry : Logged) (entries : List Logged) → AllByRecursion Q (calls_in (cond b (entry ∷ entries) entries)) → AllByRecursion Q (calls_in entries)
tail_of Q true entry entries h = h.1
tail_of Q false entry entries h = h

pub of_each_caller : (P : ℕ → Call → Type 0) (n : ℕ) (log : List Logged) → AllByRecursion (IsOfCaller n) log → ((k : ℕ) → k < n → AllByRecursion (P (k + 1)) (calls_in (entries_of (k + 1) log))) → AllByRecursion (λ (e : Logged). P e.caller e.call) log
of_each_caller P n [] h each = tt
of_each_caller P n (entry ∷ log) h each =
    let low = h.0.0 in
    let high = h.0.1 in
    let e : entry.caller - 1 + 1 ≡ entry.caller = omega (arith, low) in
    let same : (entry.caller == entry.caller - 1 + 1) ≡ true = grind (arith, eqb_tells, e) in (
      subst (λ c. P c entry.call) e (head_of (P (entry.caller - 1 + 1)) (entry.caller == entry.caller - 1 + 1) entry (entries_of (entry.caller - 1 + 1) log) same (each (entry.caller - 1) (omega (arith, low, high)))),
      of_each_caller P n log h.1 (λ k lower. tail_of (P (k + 1)) (entry.caller == k + 1) entry (entries_of (k + 1) log) (each k lower)),
    )

-- a well-named call has no wrong name
is_none_of : (place : Option ℕ) → is_none place ≡ true → place ≡ None
is_none_of None e = refl
is_none_of (Some place) e = absurd (true≢false (sym e))

pub named_right : (graph : Graph) (calls : List Call) → AllByRecursion (λ call. misnamed graph call ≡ None) (well_named graph calls)
named_right graph [] = tt
named_right graph (call ∷ calls) = cases (is_well_named graph call) refl (named_right graph calls)
  where
    cases : (b : Bool) → is_well_named graph call ≡ b → AllByRecursion (λ call. misnamed graph call ≡ None) (well_named graph calls) → AllByRecursion (λ call. misnamed graph call ≡ None) (cond b (call ∷ well_named graph calls) (well_named graph calls))
    cases true e rest = (is_none_of (misnamed graph call) e, rest)
    cases false e rest = rest
