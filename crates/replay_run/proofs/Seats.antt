-- All threads, after the turn of one.
use Rattle.std.proofs.Common.{◌≡◌, ℕ, zero, suc, ◌+◌, ◌<◌, ◌≤◌, Bool, true, false, ◌==◌, ◌⊎◌, inl, inr, refl, sym, ap, ap₂, arith, List, [], ◌∷◌, ◌++◌, ◌&&◌, map, length, drop, set, append-nil, true≢false, append_assoc, ◌∙◌, subst, None}
use Rattle.std.specs.Prelude.{slice_index_or, All}
use Rattle.std.specs.List.{AllByRecursion, list_all}
use Rattle.std.proofs.lemmas.List.{drop_more, get_or_default, drop_all, length-map, length-set, get_or-set_same, get_or-set_other, nil_from_length}
use Rattle.std.proofs.lemmas.Bool.{eqb-true, eq-eqb, both_ways, cases_Bool}
use Rattle.std.proofs.lemmas.List.Elements.{All-tail, recursion_from_All}
use Rattle.signal_graph.specs.declared.log.Refused.{Refused}
use Rattle.script_tree.specs.declared.limits.TheConstants.{THREADS}
use Rattle.signal_graph.specs.declared.call.Call.{Call}
use Rattle.signal_graph.specs.Graph.{Graph}
use Rattle.flow_model.specs.Machine.Lists.{change_at, is_empty}
use Rattle.flow_model.specs.Machine.State.{Core, opening}
use Rattle.flow_model.specs.Machine.Schedules.{Thread, Play, thread, take_turn, is_over, at_start, all_refused}
use Rattle.flow_model.specs.Follows.Callers.{IsWithin, AreWithin}
use Rattle.call_log.specs.Made.{script_of}
use Rattle.interleave_core.specs.Opening.{opened_core}
use Rattle.interleave_core.specs.Whole.{Whole}
use Rattle.replay_run.specs.Replaying.{Caller, no_caller, caller_at, new_caller, IsCaller, AreCallers, IsTurn, LeavesOthers, Stage, stage_of, play_of, threads_of}

-- ---- one caller among all

set-threads : (i : ℕ) (y : Caller) (xs : List Caller) → threads_of (set xs i y) ≡ change_at i (λ _. y.thread) (threads_of xs)
set-threads i y [] = refl
set-threads zero y (x ∷ xs) = refl
set-threads (suc i) y (x ∷ xs) = ap (λ (ts : List Thread). x.thread ∷ ts) (set-threads i y xs)

thread-of : (xs : List Caller) (i : ℕ) (x : Caller) → slice_index_or (threads_of xs) i x.thread ≡ (slice_index_or xs i x).thread
thread-of [] i x = refl
thread-of (y ∷ ys) zero x = refl
thread-of (y ∷ ys) (suc i) x = thread-of ys i x

-- ---- after a turn

pub callers-after : (i : ℕ) (s q : Core) (xs : List Caller) (y : Caller) → AreCallers s xs → i < length xs → IsCaller (i + 1) q y → LeavesOthers (i + 1) s q → AreCallers q (set xs i y)
callers-after i s q xs y h l mine others = record {
  many = length-set xs i y ∙ h.many ∙ sym others.callers;
  few = (let f = h.few in let e = length-set xs i y in omega (arith, f, e));
  each = λ j m. go j (omega (arith, m, length-set xs i y)) (cases_Bool (j == i));
}
  where
    next : (n : ℕ) → n + 1 ≡ suc n
    next n = omega arith

    apart : (j : ℕ) → (j ≡ i → ⊥) → suc j ≡ i + 1 → ⊥
    apart j ne e = ne (omega (arith, e))

    go : (j : ℕ) → j < length xs → ((j == i) ≡ true) ⊎ ((j == i) ≡ false) → IsCaller (suc j) q (caller_at (set xs i y) j)
    go j m (inl e) = subst (λ (n : ℕ). IsCaller (suc n) q (caller_at (set xs i y) n)) (sym (eqb-true j i e))
        (subst (λ (x : Caller). IsCaller (suc i) q x) (sym (get_or-set_same xs i y no_caller l)) (subst (λ (n : ℕ). IsCaller n q y) (next i) mine))
    go j m (inr e) =
        let ne : j ≡ i → ⊥ = λ p. both_ways _ e (eq-eqb j i p) in
        let old = h.each j m in
        subst (λ (x : Caller). IsCaller (suc j) q x) (sym (get_or-set_other xs i j y no_caller ne))
        (record { live = old.live ∙ sym (others.live (suc j) (apart j ne)); within = old.within })

done-threads : (xs : List Caller) → list_all (λ (x : Caller). is_empty x.thread.left) xs ≡ list_all (λ (t : Thread). is_empty t.left) (threads_of xs)
done-threads [] = refl
done-threads (x ∷ xs) = ap (λ (b : Bool). is_empty x.thread.left && b) (done-threads xs)

abbrev whole : Graph → Core → List Caller → Stage
whole graph s xs = record { graph = graph; core = s; threads = threads_of xs }

stage-after : (graph : Graph) (i : ℕ) (s q : Core) (xs : List Caller) (x y : Caller) → x ≡ caller_at xs i → IsTurn graph (i + 1) s x.thread q y.thread
    → stage_of graph (take_turn graph (play_of (whole graph s xs)) i) ≡ whole graph q (set xs i y)
stage-after graph i s q xs x y e turn =
    let play : Play = play_of (whole graph s xs) in
    let next : i + 1 ≡ suc i = omega arith in
    let mine : thread play i ≡ x.thread = thread-of xs i no_caller ∙ ap (λ (c : Caller). c.thread) (sym e) in
    ap₂ (λ (c : Core) (ts : List Thread). joined c ts) (turn.core play i next refl mine) (turn.threads play i next refl mine ∙ sym (set-threads i y xs))
  where
    joined : Core → List Thread → Stage
    joined c ts = record { graph = graph; core = c; threads = ts }

pub stage-turned : (graph new : Graph) (i : ℕ) (s q : Core) (xs : List Caller) (x y : Caller) (old : Stage) → whole graph s xs ≡ old → i < length old.threads → x ≡ slice_index_or xs i x → new ≡ graph
    → IsTurn graph (i + 1) s x.thread q y.thread → whole new q (set xs i y) ≡ stage_of old.graph (take_turn old.graph (play_of old) i)
stage-turned graph new i s q xs x y old view l e g turn =
    ap (λ (k : Graph). whole k q (set xs i y)) g
    ∙ sym (stage-after graph i s q xs x y (e ∙ get_or_default xs i x no_caller inside) turn)
    ∙ ap (λ (z : Stage). stage_of z.graph (take_turn z.graph (play_of z) i)) view
  where
    inside : i < length xs
    inside = let a = length-map xs (λ (x : Caller). x.thread) in let b = ap (λ (z : Stage). length z.threads) view in omega (arith, a, b, l)

pub over-is : (graph : Graph) (s : Core) (xs : List Caller) (now : Stage) (done : Bool) → whole graph s xs ≡ now → length s.calls ≡ 0 → done ≡ list_all (λ (x : Caller). is_empty x.thread.left) xs
    → done ≡ is_over (play_of now)
over-is graph s xs now done view none e =
    e ∙ done-threads xs ∙ ap (λ (b : Bool). b && list_all (λ (t : Thread). is_empty t.left) (threads_of xs)) (sym (ap is_empty (nil_from_length s.calls none))) ∙ ap (λ (z : Stage). is_over (play_of z)) view

-- ---- before any call

-- no call sets or looks at more than it may
pub are-within : (scripts : List (List Call)) → All (All IsWithin) scripts → AreWithin scripts
are-within [] h i = tt
are-within (calls ∷ scripts) h zero = recursion_from_All IsWithin calls (h 0 calls (omega arith))
are-within (calls ∷ scripts) h (suc i) = are-within scripts (All-tail (All IsWithin) calls scripts h) i

new-live : (scripts : List (List Call)) (i : ℕ) → (caller_at (map new_caller scripts) i).live ≡ None
new-live [] i = refl
new-live (calls ∷ scripts) zero = refl
new-live (calls ∷ scripts) (suc i) = new-live scripts i

new-left : (scripts : List (List Call)) (i : ℕ) → (caller_at (map new_caller scripts) i).thread.left ≡ script_of scripts i
new-left [] i = refl
new-left (calls ∷ scripts) zero = refl
new-left (calls ∷ scripts) (suc i) = new-left scripts i

pub new-callers : (graph : Graph) (scripts : List (List Call)) (limit : ℕ) → length scripts ≤ THREADS → All (All IsWithin) scripts
    → AreCallers (opening graph (length scripts) limit) (map new_caller scripts)
new-callers graph scripts limit few h = record {
  many = length-map scripts new_caller;
  few = (let e = length-map scripts new_caller in omega (arith, e, few));
  each = λ i l. record { live = new-live scripts i; within = subst (AllByRecursion IsWithin) (sym (new-left scripts i)) (are-within scripts h i) };
}

pub new-threads : (scripts : List (List Call)) → threads_of (map new_caller scripts) ≡ map (λ (calls : List Call). record { left = calls; number = 1; refused = [] }) scripts
new-threads [] = refl
new-threads (calls ∷ scripts) = ap (λ (ts : List Thread). record { left = calls; number = 1; refused = [] } ∷ ts) (new-threads scripts)

pub new-stage : (graph : Graph) (scripts : List (List Call)) (limit : ℕ) (w : Whole) (xs : List Caller) → w ≡ opened_core graph (length scripts) limit → xs ≡ map new_caller scripts
    → whole w.graph w.state xs ≡ stage_of graph (at_start graph scripts limit)
new-stage graph scripts limit w xs e h =
    ap₂ (λ (v : Whole) (ys : List Caller). whole v.graph v.state ys) e h ∙ ap (λ (ts : List Thread). record (stage_of graph (at_start graph scripts limit)) { threads = ts }) (new-threads scripts)

-- one thread more
pub one-more : (made : List Caller) (calls : List Call) (rest all : List (List Call)) → made ++ map new_caller (calls ∷ rest) ≡ map new_caller all
    → (made ++ new_caller calls ∷ []) ++ map new_caller rest ≡ map new_caller all
one-more made calls rest all e = append_assoc made (new_caller calls ∷ []) (map new_caller rest) ∙ e

-- ---- at the end

pub empty-none : {A : Type 0} (xs : List A) (b : Bool) → (is_empty xs && b) ≡ true → xs ≡ []
empty-none [] b h = refl
empty-none (x ∷ xs) b h = absurd (true≢false (sym h))

-- the refused calls of one thread more
pub more-refused : (xs : List Caller) (i : ℕ) (x : Caller) (refused : List Refused) → i < length xs → x ≡ slice_index_or xs i x
    → refused ++ all_refused (drop i (threads_of xs)) ≡ all_refused (threads_of xs) → (refused ++ x.thread.refused) ++ all_refused (drop (i + 1) (threads_of xs)) ≡ all_refused (threads_of xs)
more-refused xs i x refused l e h =
    let here : slice_index_or (threads_of xs) i x.thread ≡ x.thread = thread-of xs i x ∙ ap (λ (y : Caller). y.thread) (sym e) in
    let rest = drop (i + 1) (threads_of xs) in
    let inside : i < length (threads_of xs) = (let k = length-map xs (λ (x : Caller). x.thread) in omega (arith, k, l)) in
    append_assoc refused x.thread.refused (all_refused rest)
    ∙ ap (λ (t : Thread). refused ++ (t.refused ++ all_refused rest)) (sym here)
    ∙ ap (λ (ts : List Thread). refused ++ all_refused ts) (sym (drop_more (threads_of xs) i x.thread inside))
    ∙ h

pub all-are-refused : (xs : List Caller) (i : ℕ) (refused : List Refused) → length xs ≤ i → refused ++ all_refused (drop i (threads_of xs)) ≡ all_refused (threads_of xs) → refused ≡ all_refused (threads_of xs)
all-are-refused xs i refused l h =
    let none : drop i (threads_of xs) ≡ [] = drop_all i (threads_of xs) (let k = length-map xs (λ (x : Caller). x.thread) in omega (arith, k, l)) in
    sym (append-nil refused) ∙ ap (λ (ts : List Thread). refused ++ all_refused ts) (sym none) ∙ h
