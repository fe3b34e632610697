-- The log of a finished run of scripts is a merge of them.
-- Where no call is live its versions are the numbers from 1 to its length.
use Rattle.std.proofs.Common.{◌≡◌, ℕ, zero, suc, ◌+◌, ◌<◌, ◌≤◌, Bool, true, false, ◌==◌, ◌⊎◌, inl, inr, refl, sym, ap, ap₂, arith, List, [], ◌∷◌, ◌++◌, map, length, ◌∙◌, subst, append-nil}
use Rattle.std.specs.Prelude.{filter, count_by, slice_index, All}
use Rattle.std.specs.List.{AllByRecursion}
use Rattle.std.specs.List.Sorted.{IsStrictlyIncreasing}
use Rattle.std.proofs.lemmas.List.Elements.{All-from_recursion}
use Rattle.std.proofs.lemmas.List.Folds.{list_any-append}
use Rattle.std.proofs.lemmas.List.Sums.{length-filter, sum_by-cons}
use Rattle.std.proofs.lemmas.Bool.{or_left, or_right, eqb-true, eq-eqb, both_ways, cases_Bool}
use Rattle.signal_graph.specs.declared.call.Call.{Call}
use Rattle.signal_graph.specs.declared.log.Logged.{Logged}
use Rattle.signal_graph.specs.Graph.{Graph, is_in}
use Rattle.call_log.specs.Made.{entries_of, calls_in, versions_in, well_named, count_well_named, script_of, IsPrefix}
use Rattle.call_log.specs.LeftOut.{left_out}
use Rattle.call_log.specs.Merge.{IsOfCaller, AreVersions, Merge}
use Rattle.call_log.proofs.Prefixes.{prefix-length}
use Rattle.flow_model.specs.declared.step.Step.{Step}
use Rattle.flow_model.specs.Machine.State.{Core, LiveCall, opening}
use Rattle.flow_model.specs.Machine.Histories.{Move, Begin, Make, after_move, may_all, state, is_history}
use Rattle.flow_model.specs.Kept.Lawful.{VersionsAreFresh, AreDistinct, times, versions}
use Rattle.flow_model.specs.Follows.Callers.{count_begins, begun_from, begun_by, calls_of, logged_of, live_of, IsFinishedRun}
use Rattle.flow_model.proofs.General.Pigeons.{total-all, total-missing}
use Rattle.flow_model.proofs.Callers.OnlyBeginningsAdd.{IsCounted, logged_callers, live_callers, begin-caller, step-within}
use Rattle.flow_model.proofs.Histories.Moves.{may_first}
use Rattle.flow_model.proofs.Callers.CallersHaveTheirCalls.{Counts, history-counts, history-made, history-begun}

-- the versions of a caller's calls
abbrev versions_of : List (ℕ × Call) → List ℕ
versions_of made = map (λ (p : ℕ × Call). p.0) made

-- ---- versions rise along a caller's calls

-- Each number is more than the one before it, and the first is more than this one.
abbrev Rises : ℕ → List ℕ → Type 0
Rises low [] = Unit {0}
Rises low (x ∷ xs) = (low < x) × Rises x xs

rises-lower : (low more : ℕ) (xs : List ℕ) → low ≤ more → Rises more xs → Rises low xs
rises-lower low more [] l r = tt
rises-lower low more (x ∷ xs) l r = let a = r.0 in (omega (arith, a, l), r.1)

begun-rises : (k from : ℕ) (moves : List Move) → Rises from (versions_of (begun_from k from moves))
begun-rises k from [] = tt
begun-rises k from (Begin caller c ∷ moves) = go (caller == k) (begun-rises k (suc from) moves)
  where
    go : (b : Bool) → Rises (suc from) (versions_of (begun_from k (suc from) moves)) → Rises from (versions_of (elim b as (λ _. List (ℕ × Call)) [ true ↦ (suc from, c) ∷ begun_from k (suc from) moves | false ↦ begun_from k (suc from) moves ]))
    go true r = (omega arith, r)
    go false r = rises-lower from (suc from) (versions_of (begun_from k (suc from) moves)) (omega arith) r
begun-rises k from (Make step ∷ moves) = begun-rises k from moves

rises-increasing : (low : ℕ) (xs : List ℕ) → Rises low xs → IsStrictlyIncreasing xs
rises-increasing low [] r k l = absurd (omega (arith, l))
rises-increasing low (x ∷ []) r k l = absurd (omega (arith, l))
rises-increasing low (x ∷ y ∷ xs) r zero l = r.1.0
rises-increasing low (x ∷ y ∷ xs) r (suc k) l =
    let e : suc k + 1 ≡ suc (k + 1) = omega arith in
    subst (λ (n : ℕ). slice_index (y ∷ xs) k < slice_index (x ∷ y ∷ xs) n) (sym e) (rises-increasing x (y ∷ xs) r.1 k (omega (arith, l)))

-- ---- a log where no call is live

logged-versions : (k : ℕ) (log : List Logged) → versions_of (logged_of k log) ≡ versions_in (entries_of k log)
logged-versions k log = go (entries_of k log)
  where
    go : (xs : List Logged) → versions_of (map (λ (x : Logged). (x.version, x.call)) xs) ≡ versions_in xs
    go [] = refl
    go (x ∷ xs) = ap (λ (vs : List ℕ). x.version ∷ vs) (go xs)

logged-calls : (k : ℕ) (log : List Logged) → calls_of (logged_of k log) ≡ calls_in (entries_of k log)
logged-calls k log = go (entries_of k log)
  where
    go : (xs : List Logged) → calls_of (map (λ (x : Logged). (x.version, x.call)) xs) ≡ calls_in xs
    go [] = refl
    go (x ∷ xs) = ap (λ (cs : List Call). x.call ∷ cs) (go xs)

-- The calls of each caller in the log are those that it has begun.
pub ended-made : (graph : Graph) (callers limit : ℕ) (moves : List Move) → is_history graph callers limit moves ≡ true → (state graph callers limit moves).calls ≡ [] → (k : ℕ) → logged_of k (state graph callers limit moves).log ≡ begun_by k moves
ended-made graph callers limit moves h none k =
    let s = state graph callers limit moves in
    sym (append-nil (logged_of k s.log)) ∙ ap (λ (cs : List LiveCall). logged_of k s.log ++ live_of k cs) (sym none) ∙ history-made graph callers limit moves h k

times-logged : (v : ℕ) (log : List Logged) → times v (versions_in log) ≡ count_by (λ (entry : Logged). entry.version == v) log
times-logged v log = go log ∙ length-filter (λ (entry : Logged). entry.version == v) log
  where
    go : (xs : List Logged) → times v (versions_in xs) ≡ length (filter (λ (entry : Logged). entry.version == v) xs)
    go [] = refl
    go (x ∷ xs) = more (x.version == v) refl (go xs)
      where
        more : (b : Bool) → (x.version == v) ≡ b → times v (versions_in xs) ≡ length (filter (λ (entry : Logged). entry.version == v) xs) → times v (versions_in (x ∷ xs)) ≡ length (filter (λ (entry : Logged). entry.version == v) (x ∷ xs))
        more true e r = rw e (ap suc r)
        more false e r = rw e r

versions-length : (log : List Logged) → length (versions_in log) ≡ length log
versions-length [] = refl
versions-length (x ∷ xs) = ap suc (versions-length xs)

-- As many have begun as are in the log.
ended-count : (s : Core) → VersionsAreFresh s → s.calls ≡ [] → s.begun ≡ length s.log
ended-count s h none = let c = h.count in let e : length s.calls ≡ 0 = ap length none in omega (arith, c, e)

each-once : (s : Core) → VersionsAreFresh s → s.calls ≡ [] → (v : ℕ) → 1 ≤ v → v ≤ length s.log → count_by (λ (entry : Logged). entry.version == v) s.log ≡ 1
each-once s h none v a b = sym (times-logged v s.log) ∙ one (times v (versions_in s.log)) (distinct v) some
  where
    only : versions s ≡ versions_in s.log
    only = ap (λ (cs : List LiveCall). map (λ (c : LiveCall). c.version) cs ++ versions_in s.log) none

    distinct : AreDistinct (versions_in s.log)
    distinct x = subst (λ (vs : List ℕ). times x vs ≤ 1) only (h.distinct x)

    inside : (x : ℕ) → is_in x (versions_in s.log) ≡ true → (1 ≤ x) × (x < 1 + length s.log)
    inside x i = let f = h.fit x (subst (λ (vs : List ℕ). is_in x vs ≡ true) (sym only) i) in let c = ended-count s h none in (f.0, omega (arith, f.1, c))

    some : times v (versions_in s.log) ≡ 0 → ⊥
    some z =
        let m = total-missing (versions_in s.log) 1 (length s.log) v distinct a (omega (arith, b)) z in
        let t = total-all (versions_in s.log) 1 (length s.log) inside in
        let l = versions-length s.log in
        omega (arith, m, t, l)

    one : (n : ℕ) → n ≤ 1 → (n ≡ 0 → ⊥) → n ≡ 1
    one zero l k = absurd (k refl)
    one (suc n) l k = omega (arith, l)

pub ended-AreVersions : (graph : Graph) (callers limit : ℕ) (moves : List Move) → is_history graph callers limit moves ≡ true → (state graph callers limit moves).calls ≡ [] → AreVersions (state graph callers limit moves).log
ended-AreVersions graph callers limit moves h none = record {
  each_once = each-once (state graph callers limit moves) (history-counts graph callers limit moves h).counted.fresh none;
  rising = λ k. subst IsStrictlyIncreasing (ap versions_of (sym (ended-made graph callers limit moves h none k)) ∙ logged-versions k (state graph callers limit moves).log) (rises-increasing 0 (versions_of (begun_by k moves)) (begun-rises k 0 moves));
}

-- ---- how many calls each caller begins

abbrev begins_of : ℕ → List Move → ℕ
begins_of k [] = 0
begins_of k (Begin caller c ∷ moves) = elim (caller == k) [ true ↦ suc (begins_of k moves) | false ↦ begins_of k moves ]
begins_of k (Make step ∷ moves) = begins_of k moves

begun-length : (k from : ℕ) (moves : List Move) → length (calls_of (begun_from k from moves)) ≡ begins_of k moves
begun-length k from [] = refl
begun-length k from (Begin caller c ∷ moves) = go (caller == k) (begun-length k (suc from) moves)
  where
    go : (b : Bool) → length (calls_of (begun_from k (suc from) moves)) ≡ begins_of k moves
        → length (calls_of (elim b as (λ _. List (ℕ × Call)) [ true ↦ (suc from, c) ∷ begun_from k (suc from) moves | false ↦ begun_from k (suc from) moves ])) ≡ elim b as (λ _. ℕ) [ true ↦ suc (begins_of k moves) | false ↦ begins_of k moves ]
    go true r = ap suc r
    go false r = r
begun-length k from (Make step ∷ moves) = begun-length k from moves

-- by so many callers from one on
abbrev begins_among : ℕ → ℕ → List Move → ℕ
begins_among k zero moves = 0
begins_among k (suc n) moves = begins_of k moves + begins_among (suc k) n moves

begins-nil : (k n : ℕ) → begins_among k n [] ≡ 0
begins-nil k zero = refl
begins-nil k (suc n) = let r = begins-nil (suc k) n in omega (arith, r)

begins-make : (k n : ℕ) (step : Step) (moves : List Move) → begins_among k n (Make step ∷ moves) ≡ begins_among k n moves
begins-make k zero step moves = refl
begins-make k (suc n) step moves = ap (λ (m : ℕ). begins_of k moves + m) (begins-make (suc k) n step moves)

begins-other : (k n caller : ℕ) (c : Call) (moves : List Move) → caller < k → begins_among k n (Begin caller c ∷ moves) ≡ begins_among k n moves
begins-other k zero caller c moves l = refl
begins-other k (suc n) caller c moves l = ap₂ (λ (a b : ℕ). a + b) (one (caller == k) refl) (begins-other (suc k) n caller c moves (omega (arith, l)))
  where
    one : (b : Bool) → (caller == k) ≡ b → elim b as (λ _. ℕ) [ true ↦ suc (begins_of k moves) | false ↦ begins_of k moves ] ≡ begins_of k moves
    one true e = let s = eqb-true caller k e in absurd (omega (arith, s, l))
    one false e = refl

begins-one : (k n caller : ℕ) (c : Call) (moves : List Move) → k ≤ caller → caller < k + n → begins_among k n (Begin caller c ∷ moves) ≡ suc (begins_among k n moves)
begins-one k zero caller c moves a b = absurd (omega (arith, a, b))
begins-one k (suc n) caller c moves a b = go (caller == k) refl (λ p q. begins-one (suc k) n caller c moves p q)
  where
    go : (t : Bool) → (caller == k) ≡ t → (suc k ≤ caller → caller < suc k + n → begins_among (suc k) n (Begin caller c ∷ moves) ≡ suc (begins_among (suc k) n moves))
        → elim t as (λ _. ℕ) [ true ↦ suc (begins_of k moves) | false ↦ begins_of k moves ] + begins_among (suc k) n (Begin caller c ∷ moves) ≡ suc (begins_of k moves + begins_among (suc k) n moves)
    go true e further = let s = eqb-true caller k e in let o = begins-other (suc k) n caller c moves (omega (arith, s)) in omega (arith, o)
    go false e further =
        let ne : (caller ≡ k) → ⊥ = λ s. both_ways _ e (eq-eqb caller k s) in
        let f = further (above caller k a ne) (omega (arith, b)) in
        omega (arith, f)
      where
        above : (x y : ℕ) → y ≤ x → ((x ≡ y) → ⊥) → suc y ≤ x
        above x y l ne = grind (arith, l, ne)

-- All begin by callers that there are.
begins-all : (graph : Graph) (moves : List Move) (s : Core) (n : ℕ) → s.callers ≡ n → may_all graph s moves ≡ true → begins_among 1 n moves ≡ count_begins moves
begins-all graph [] s n e m = begins-nil 1 n
begins-all graph (Begin caller c ∷ moves) s n e m =
    let f = may_first graph s (Begin caller c) moves m in
    let b = begin-caller graph s caller c f.0 in
    let r = begins-all graph moves (after_move graph s (Begin caller c)) n e f.1 in
    begins-one 1 n caller c moves b.0 (omega (arith, b.1, e)) ∙ ap suc r
begins-all graph (Make step ∷ moves) s n e m =
    let f = may_first graph s (Make step) moves m in
    let w = step-within graph s step f.0 in
    begins-make 1 n step moves ∙ begins-all graph moves (after_move graph s (Make step)) n (w.0 ∙ e) f.1

-- ---- how many calls are well-named

named-most : (graph : Graph) (scripts : List (List Call)) (k : ℕ) (moves : List Move) → ((i : ℕ) → i < length scripts → begins_of (k + i) moves ≤ length (well_named graph (script_of scripts i))) → begins_among k (length scripts) moves ≤ count_well_named graph scripts
named-most graph [] k moves f = omega arith
named-most graph (calls ∷ scripts) k moves f =
    let e : k + 0 ≡ k = omega arith in
    let a : begins_of k moves ≤ length (well_named graph calls) = subst (λ (n : ℕ). begins_of n moves ≤ length (well_named graph calls)) e (f 0 (omega arith)) in
    let r = named-most graph scripts (suc k) moves (λ i l. let g : k + suc i ≡ suc k + i = omega arith in subst (λ (n : ℕ). begins_of n moves ≤ length (well_named graph (script_of scripts i))) g (f (suc i) (omega (arith, l)))) in
    let s = sum_by-cons (λ (cs : List Call). length (well_named graph cs)) calls scripts in
    omega (arith, a, r, s)

named-all : (graph : Graph) (scripts : List (List Call)) (k : ℕ) (moves : List Move) → ((i : ℕ) → i < length scripts → begins_of (k + i) moves ≡ length (well_named graph (script_of scripts i))) → begins_among k (length scripts) moves ≡ count_well_named graph scripts
named-all graph [] k moves f = refl
named-all graph (calls ∷ scripts) k moves f =
    let e : k + 0 ≡ k = omega arith in
    let a : begins_of k moves ≡ length (well_named graph calls) = subst (λ (n : ℕ). begins_of n moves ≡ length (well_named graph calls)) e (f 0 (omega arith)) in
    let r = named-all graph scripts (suc k) moves (λ i l. let g : k + suc i ≡ suc k + i = omega arith in subst (λ (n : ℕ). begins_of n moves ≡ length (well_named graph (script_of scripts i))) g (f (suc i) (omega (arith, l)))) in
    let s = sum_by-cons (λ (cs : List Call). length (well_named graph cs)) calls scripts in
    omega (arith, a, r, s)

-- ---- finished runs

-- all of so many, or something else
all_or : (P : ℕ → Type 0) (Q : Type 0) (n : ℕ) → ((i : ℕ) → i < n → P i ⊎ Q) → ((i : ℕ) → i < n → P i) ⊎ Q
all_or P Q zero f = inl (λ i l. absurd (omega (arith, l)))
all_or P Q (suc n) f = go (f n (omega arith)) (all_or P Q n (λ i l. f i (omega (arith, l))))
  where
    go : P n ⊎ Q → ((i : ℕ) → i < n → P i) ⊎ Q → ((i : ℕ) → i < suc n → P i) ⊎ Q
    go (inr q) r = inr q
    go (inl p) (inr q) = inr q
    go (inl p) (inl f) = inl (λ i l. last i l (cases_Bool (i == n)))
      where
        last : (i : ℕ) → i < suc n → ((i == n) ≡ true) ⊎ ((i == n) ≡ false) → P i
        last i l (inl e) = subst P (sym (eqb-true i n e)) p
        last i l (inr e) = f i (below i n l (λ s. both_ways _ e (eq-eqb i n s)))
          where
            below : (a b : ℕ) → a < suc b → ((a ≡ b) → ⊥) → a < b
            below a b l ne = grind (arith, l, ne)

callers-fit : (s : Core) → IsCounted s → All (IsOfCaller s.callers) s.log
callers-fit s h = All-from_recursion (IsOfCaller s.callers) s.log (each s.log (λ k i. h.fit k (known k i)))
  where
    known : (k : ℕ) → is_in k (logged_callers s.log) ≡ true → is_in k (live_callers s.calls ++ logged_callers s.log) ≡ true
    known k i = list_any-append (λ (m : ℕ). m == k) (live_callers s.calls) (logged_callers s.log) ∙ or_right _ _ i

    each : (log : List Logged) → ((k : ℕ) → is_in k (logged_callers log) ≡ true → (1 ≤ k) × (k ≤ s.callers)) → AllByRecursion (IsOfCaller s.callers) log
    each [] f = tt
    each (x ∷ xs) f = (f x.caller (or_left _ _ (eq-eqb x.caller x.caller refl)), each xs (λ k i. f k (or_right _ _ i)))

pub finished-Merge : (graph : Graph) (scripts : List (List Call)) (limit : ℕ) (moves : List Move) → IsFinishedRun graph scripts limit moves
    → Merge graph scripts limit (state graph (length scripts) limit moves).log (left_out graph limit (state graph (length scripts) limit moves).log scripts)
finished-Merge graph scripts limit moves r = record {
  callers = subst (λ (n : ℕ). All (IsOfCaller n) s.log) c.callers (callers-fit s c.counted);
  in_order = λ k l. subst (λ (calls : List Call). IsPrefix calls (well_named graph (script_of scripts k))) (calls (k + 1)) (r.in_order k l);
  all_made = λ few. all_made few every;
  used_up = λ many. used_up many every;
  versions = ended-AreVersions graph n limit moves r.history r.none_live;
  rest = refl;
}
  where
    n : ℕ
    n = length scripts

    s : Core
    s = state graph n limit moves

    c : Counts graph (opening graph n limit) moves
    c = history-counts graph n limit moves r.history

    calls : (k : ℕ) → calls_of (begun_by k moves) ≡ calls_in (entries_of k s.log)
    calls k = ap calls_of (sym (ended-made graph n limit moves r.history r.none_live k)) ∙ logged-calls k s.log

    log : length s.log ≡ count_begins moves
    log = sym (ended-count s c.counted.fresh r.none_live) ∙ history-begun graph n limit moves r.history

    within : count_begins moves ≤ limit
    within = subst (λ (m : ℕ). m ≤ limit) (history-begun graph n limit moves r.history) (subst (λ (m : ℕ). s.begun ≤ m) c.limit c.counted.within)

    among : begins_among 1 n moves ≡ count_begins moves
    among = begins-all graph moves (opening graph n limit) n refl r.history

    one_more : (i : ℕ) → 1 + i ≡ i + 1
    one_more i = omega arith

    most : begins_among 1 n moves ≤ count_well_named graph scripts
    most = named-most graph scripts 1 moves (λ i l.
        let p = prefix-length (calls_of (begun_by (i + 1) moves)) (well_named graph (script_of scripts i)) (r.in_order i l) in
        subst (λ (k : ℕ). begins_of k moves ≤ length (well_named graph (script_of scripts i))) (sym (one_more i)) (subst (λ (m : ℕ). m ≤ length (well_named graph (script_of scripts i))) (begun-length (i + 1) 0 moves) p))

    every : ((i : ℕ) → i < n → calls_of (begun_by (i + 1) moves) ≡ well_named graph (script_of scripts i)) ⊎ (limit ≤ count_begins moves)
    every = all_or (λ i. calls_of (begun_by (i + 1) moves) ≡ well_named graph (script_of scripts i)) (limit ≤ count_begins moves) n r.all_begun

    all_of : ((i : ℕ) → i < n → calls_of (begun_by (i + 1) moves) ≡ well_named graph (script_of scripts i)) → begins_among 1 n moves ≡ count_well_named graph scripts
    all_of f = named-all graph scripts 1 moves (λ i l. subst (λ (k : ℕ). begins_of k moves ≡ length (well_named graph (script_of scripts i))) (sym (one_more i)) (sym (begun-length (i + 1) 0 moves) ∙ ap length (f i l)))

    all_made : count_well_named graph scripts ≤ limit → ((i : ℕ) → i < n → calls_of (begun_by (i + 1) moves) ≡ well_named graph (script_of scripts i)) ⊎ (limit ≤ count_begins moves) → length s.log ≡ count_well_named graph scripts
    all_made few (inl f) = let a = all_of f in omega (arith, a, log, among)
    all_made few (inr l) = omega (arith, few, l, log, among, most)

    used_up : limit < count_well_named graph scripts → ((i : ℕ) → i < n → calls_of (begun_by (i + 1) moves) ≡ well_named graph (script_of scripts i)) ⊎ (limit ≤ count_begins moves) → length s.log ≡ limit
    used_up many (inl f) = let a = all_of f in absurd (omega (arith, a, many, within, among))
    used_up many (inr l) = omega (arith, l, within, log)
