-- The first open call of a node stays first there, with the same work, after each move but its own work there.
use Rattle.std.proofs.Common.{◌≡◌, ℕ, Bool, true, false, ◌&&◌, ◌||◌, not, ◌==◌, ◌⊎◌, inl, inr, refl, sym, ap, ap₂, arith, List, [], ◌∷◌, ◌++◌, true≢false, ◌∙◌, subst, Option, Some}
use Rattle.std.proofs.lemmas.Bool.{or_cases, or_left, or_right, and_from, eqb-true, eq-eqb, false_from_ne_true, both_ways, not-true}
use Rattle.std.specs.Prelude.{is_some, is_none}
use Rattle.std.specs.List.{list_any, list_all}
use Rattle.script_tree.specs.declared.value.Value.{Value}
use Rattle.script_tree.proofs.Truths.{and_left, and_right}
use Rattle.signal_graph.specs.Graph.{Graph, is_in, is_source, node_at, inputs_of, body_of}
use Rattle.signal_graph.specs.Values.{nodes_in}
use Rattle.node_versions.specs.declared.entry.Entry.{Entry}
use Rattle.node_versions.specs.declared.entry.State.TheVariants.{Done}
use Rattle.node_versions.specs.Entries as entry
use Rattle.node_versions.specs.Entries.{before, first_open, last_done, state_of, value_of, value_before, picks_before}
use Rattle.flow_model.specs.declared.step.Step.{Step}
use Rattle.flow_model.specs.declared.step.Step.TheVariants as steps
use Rattle.flow_model.specs.Machine.State.{Core, Cell, Found, call, cell, live, executes, entries, opens, wants, changes}
use Rattle.flow_model.specs.Machine.Words.{deps, heads, at_front, touched, gathered_of, value_or, is_found, found_candidates, picks_of_found, selections_of, finds, body_over, found_now, body_now, value_now, found_picks}
use Rattle.flow_model.specs.Machine.Changes.{set_state, finish, cleared}
use Rattle.flow_model.specs.Machine.Steps.{allowed, apply, all_gathered, gather, keep_found, keep_body, is_change}
use Rattle.flow_model.specs.Machine.Histories.{Move, Begin, Make, may, after_move}
use Rattle.flow_model.specs.Kept.Lawful.{IsLawful}
use Rattle.flow_model.specs.Follows.Others.{is_own_of, is_own_move, IsKept, is_opened_by}
use Rattle.flow_model.proofs.OneStep.WhoMayStep.{executes-live, frame-wants, at_front-executes, at_front-heads, can_work-at_front, due-can_work, skip-can_work, gather-due, evaluate-at_front, body-at_front, resolve-can_work}
use Rattle.flow_model.proofs.OrderStays.NoFrameBeforeDones.{head-first}
use Rattle.flow_model.proofs.OneStep.ChangesOfOneList.{ListStep, stays, step-list}
use Rattle.flow_model.proofs.OrderStays.OpenNodesHaveFrames.{cell-other}
use Rattle.flow_model.proofs.OneStep.QuietSteps.{SameWork, finishes, works, step-quiet, step-work}
use Rattle.flow_model.proofs.OneStep.FirstOpenCalls.{quiet-head}
use Rattle.flow_model.proofs.General.AnyAndAll.{is-some}
use Rattle.flow_model.proofs.Work.OnlyLaterCallsOpen.{head-wants_none}
use Rattle.flow_model.proofs.Values.NothingComesBefore.{head-unblocked, kept-before}
use Rattle.flow_model.proofs.Others.CallsAreLeft.{others-keep, others-give}
use Rattle.flow_model.proofs.FramesSpread.AfterDones.{heads-same}

-- ---- the first open call stays first, and the work at the node stays

-- Two first open calls are so at different nodes.
apart : (s : Core) (t u n n0 : ℕ) → heads s t n ≡ true → (u == t) ≡ false → heads s u n0 ≡ true → (n == n0) ≡ false
apart s t u n n0 hd ne k = false_from_ne_true _ (λ e. both_ways _ ne (eq-eqb u t (heads-same s t u n hd (subst (λ (m : ℕ). heads s u m ≡ true) (sym (eqb-true n n0 e)) k))))

pub record Keeps (s q : Core) (t n : ℕ) : Type 0 where
  pub head : first_open (entries q n) ≡ Some t
  pub work : SameWork s q n

pub same_cell-keeps : (s q : Core) (t n : ℕ) → heads s t n ≡ true → cell q n ≡ cell s n → Keeps s q t n
same_cell-keeps s q t n hd e = record {
  head = ap (λ (c : Cell). first_open c.entries) e ∙ head-first (entries s n) t hd;
  work = record { gathered = ap (λ (c : Cell). c.gathered) e; found = ap (λ (c : Cell). c.found) e; body = ap (λ (c : Cell). c.body) e };
}

pub quiet-keeps : (graph : Graph) (s : Core) (step : Step) → IsLawful graph s → allowed graph s step ≡ true → (t n : ℕ) → heads s t n ≡ true → executes s t ≡ true → finishes step ≡ false → works step ≡ false → Keeps s (apply graph s step) t n
quiet-keeps graph s step h a t n hd x f w = record { head = quiet-head graph s h n (entries (apply graph s step) n) (step-quiet graph s step h a f n) t x hd; work = step-work graph s step w n }

step-keeps : (graph : Graph) (s : Core) (step : Step) → IsLawful graph s → allowed graph s step ≡ true → (t n : ℕ) → heads s t n ≡ true → executes s t ≡ true → is_own_of t step ≡ false → Keeps s (apply graph s step) t n
step-keeps graph s (steps.Frame u n0) h a t n hd x o = quiet-keeps graph s (steps.Frame u n0) h a t n hd x refl refl
step-keeps graph s (steps.Start u) h a t n hd x o = quiet-keeps graph s (steps.Start u) h a t n hd x refl refl
step-keeps graph s (steps.Skip u n0) h a t n hd x o =
    let ne = apart s t u n n0 hd o (at_front-heads graph s u n0 (can_work-at_front graph s u n0 (skip-can_work graph s u n0 a))) in
    same_cell-keeps s (apply graph s (steps.Skip u n0)) t n hd (cell-other s n0 n (set_state u (Done (value_before (entries s n0) u) false (picks_before (entries s n0) u))) ne)
step-keeps graph s (steps.Gather u n0 i) h a t n hd x o =
    let ne = apart s t u n n0 hd o (at_front-heads graph s u n0 (can_work-at_front graph s u n0 (due-can_work graph s u n0 (gather-due graph s u n0 i a)))) in
    same_cell-keeps s (apply graph s (steps.Gather u n0 i)) t n hd (cell-other s n0 n (gather i (entry.value_at (entries s i) u)) ne)
step-keeps graph s (steps.Evaluate u n0) h a t n hd x o =
    let ne = apart s t u n n0 hd o (at_front-heads graph s u n0 (evaluate-at_front graph s u n0 a)) in
    same_cell-keeps s (apply graph s (steps.Evaluate u n0)) t n hd (cell-other s n0 n (keep_found (found_now graph s u n0)) ne)
step-keeps graph s (steps.Body u n0) h a t n hd x o =
    let ne = apart s t u n n0 hd o (at_front-heads graph s u n0 (body-at_front graph s u n0 a)) in
    same_cell-keeps s (apply graph s (steps.Body u n0)) t n hd (cell-other s n0 n (keep_body (body_now graph s n0)) ne)
step-keeps graph s (steps.Resolve u n0) h a t n hd x o =
    let ne = apart s t u n n0 hd o (at_front-heads graph s u n0 (can_work-at_front graph s u n0 (resolve-can_work graph s u n0 a))) in
    same_cell-keeps s (apply graph s (steps.Resolve u n0)) t n hd
    (cell-other (finish s u n0 (value_now graph s u n0) (is_change graph s u n0) (found_picks s n0)) n0 n cleared ne
    ∙ cell-other s n0 n (set_state u (Done (value_now graph s u n0) (is_change graph s u n0) (found_picks s n0))) ne)
step-keeps graph s (steps.Discover u n0 i) h a t n hd x o = quiet-keeps graph s (steps.Discover u n0 i) h a t n hd x refl refl
step-keeps graph s (steps.Drop u n0 i) h a t n hd x o = quiet-keeps graph s (steps.Drop u n0 i) h a t n hd x refl refl
step-keeps graph s (steps.Mark u i) h a t n hd x o = quiet-keeps graph s (steps.Mark u i) h a t n hd x refl refl
step-keeps graph s (steps.Look u) h a t n hd x o = quiet-keeps graph s (steps.Look u) h a t n hd x refl refl
step-keeps graph s (steps.End u) h a t n hd x o = quiet-keeps graph s (steps.End u) h a t n hd x refl refl
step-keeps graph s (steps.Collect n0) h a t n hd x o = quiet-keeps graph s (steps.Collect n0) h a t n hd x refl refl

move-keeps : (graph : Graph) (s : Core) (move : Move) → IsLawful graph s → may graph s move ≡ true → (t n : ℕ) → heads s t n ≡ true → executes s t ≡ true → is_own_move t move ≡ false → Keeps s (after_move graph s move) t n
move-keeps graph s (Begin caller c) h a t n hd x o = same_cell-keeps s (after_move graph s (Begin caller c)) t n hd refl
move-keeps graph s (Make step) h a t n hd x o = step-keeps graph s step h a t n hd x o

move-list : (graph : Graph) (s : Core) (move : Move) → IsLawful graph s → may graph s move ≡ true → (n : ℕ) → ListStep graph s n (entries (after_move graph s move) n)
move-list graph s (Begin caller c) h a n = stays refl
move-list graph s (Make step) h a n = step-list graph s step h a n

-- ---- the node rests on the same nodes, and none of them comes to be open

any-same : (test test2 : ℕ → Bool) (xs : List ℕ) → ((m : ℕ) → is_in m xs ≡ true → test2 m ≡ true → test m ≡ true) → list_any test xs ≡ false → list_any test2 xs ≡ false
any-same test test2 [] f h = refl
any-same test test2 (x ∷ xs) f h = let a = f x (or_left _ _ (eq-eqb x x refl)) in let r = any-same test test2 xs (λ m k. f m (or_right _ _ k)) in grind (arith, a, r, h)

-- What a move of others opens for a call the call wanted.
opened-wanted : (graph : Graph) (s : Core) (move : Move) → may graph s move ≡ true → (t m : ℕ) → is_opened_by t move m ≡ true → wants s t m ≡ true
opened-wanted graph s (Begin caller c) a t m k = absurd (true≢false (sym k))
opened-wanted graph s (Make (steps.Frame u n)) a t m k = subst (λ (v : ℕ). wants s v m ≡ true) (sym (eqb-true t u (and_left _ _ k))) (subst (λ (j : ℕ). wants s u j ≡ true) (sym (eqb-true m n (and_right _ _ k))) (frame-wants graph s u n a))
opened-wanted graph s (Make (steps.Start u)) a t m k = absurd (true≢false (sym k))
opened-wanted graph s (Make (steps.Skip u n)) a t m k = absurd (true≢false (sym k))
opened-wanted graph s (Make (steps.Gather u n i)) a t m k = absurd (true≢false (sym k))
opened-wanted graph s (Make (steps.Evaluate u n)) a t m k = absurd (true≢false (sym k))
opened-wanted graph s (Make (steps.Body u n)) a t m k = absurd (true≢false (sym k))
opened-wanted graph s (Make (steps.Resolve u n)) a t m k = absurd (true≢false (sym k))
opened-wanted graph s (Make (steps.Discover u n i)) a t m k = absurd (true≢false (sym k))
opened-wanted graph s (Make (steps.Drop u n i)) a t m k = absurd (true≢false (sym k))
opened-wanted graph s (Make (steps.Mark u i)) a t m k = absurd (true≢false (sym k))
opened-wanted graph s (Make (steps.Look u)) a t m k = absurd (true≢false (sym k))
opened-wanted graph s (Make (steps.End u)) a t m k = absurd (true≢false (sym k))
opened-wanted graph s (Make (steps.Collect n)) a t m k = absurd (true≢false (sym k))

any-equal : (test test2 : ℕ → Bool) (xs : List ℕ) → ((m : ℕ) → is_in m xs ≡ true → test2 m ≡ test m) → list_any test2 xs ≡ list_any test xs
any-equal test test2 [] f = refl
any-equal test test2 (x ∷ xs) f = ap₂ (λ (a b : Bool). a || b) (f x (or_left _ _ (eq-eqb x x refl))) (any-equal test test2 xs (λ m k. f m (or_right _ _ k)))

-- What is left of a call, as far as a node goes that rests on these nodes: none of them comes to be open or changed.
pub record IsUntouched (s q : Core) (t : ℕ) (ds : List ℕ) : Type 0 where
  pub executing : executes q t ≡ executes s t
  pub opens_less : (m : ℕ) → is_in m ds ≡ true → opens q t m ≡ true → opens s t m ≡ true
  pub changed : (m : ℕ) → is_in m ds ≡ true → changes q t m ≡ changes s t m

-- What stays at the front of a node.
pub record StaysInFront (graph : Graph) (s q : Core) (t n : ℕ) : Type 0 where
  pub front : at_front graph q t n ≡ true
  pub touches : touched graph q t n ≡ touched graph s t n
  pub before_it : last_done (before (entries q n) t) ≡ last_done (before (entries s n) t)
  pub work : SameWork s q n

pub front-from : (graph : Graph) (s : Core) → IsLawful graph s → (move : Move) → may graph s move ≡ true → (t n : ℕ) → at_front graph s t n ≡ true → Keeps s (after_move graph s move) t n → IsUntouched s (after_move graph s move) t (deps graph s t n) → StaysInFront graph s (after_move graph s move) t n
front-from graph s h move a t n f keeps un = record {
  front = and_from _ _ (and_from _ _ (un.executing ∙ at_front-executes graph s t n f) (is-some (first_open (entries q n)) t keeps.head)) (ap not (ap (list_any (opens q t)) same_deps ∙ any-same (opens s t) (opens q t) (deps graph s t n) un.opens_less (not-true _ (and_right _ _ f))));
  touches = ap (λ (ds : List ℕ). not (is_source (node_at graph n)) && list_any (changes q t) ds) same_deps ∙ ap (λ (b : Bool). not (is_source (node_at graph n)) && b) (any-equal (changes s t) (changes q t) (deps graph s t n) un.changed);
  before_it = same_before;
  work = keeps.work;
}
  where
    q : Core
    q = after_move graph s move

    same_before : last_done (before (entries q n) t) ≡ last_done (before (entries s n) t)
    same_before = kept-before graph s h n t (executes-live s t (at_front-executes graph s t n f)) (head-unblocked graph s h t n (at_front-heads graph s t n f)) (entries q n) (move-list graph s move h a n)

    same_deps : deps graph q t n ≡ deps graph s t n
    same_deps = ap (λ (d : Option Entry). inputs_of (node_at graph n) ++ nodes_in (entry.picks_of (state_of d))) same_before

-- A move that is not the call's own leaves it in front.
pub others-in_front : (graph : Graph) (s : Core) (move : Move) → IsLawful graph s → may graph s move ≡ true → (t n : ℕ) → is_own_move t move ≡ false → at_front graph s t n ≡ true → StaysInFront graph s (after_move graph s move) t n
others-in_front graph s move h a t n o f = front-from graph s h move a t n f (move-keeps graph s move h a t n hd x o) (record {
  executing = kept.executing;
  opens_less = λ m d k. opens_less m d (or_cases (opens s t m) (is_opened_by t move m) (sym ((others-give graph s move t l o).opens m) ∙ k));
  changed = λ m d. ap (is_in m) kept.changed;
})
  where
    hd : heads s t n ≡ true
    hd = at_front-heads graph s t n f

    x : executes s t ≡ true
    x = at_front-executes graph s t n f

    l : live s t ≡ true
    l = executes-live s t x

    kept : IsKept (call s t) (call (after_move graph s move) t)
    kept = others-keep graph s move t l o

    opens_less : (m : ℕ) → is_in m (deps graph s t n) ≡ true → (opens s t m ≡ true) ⊎ (is_opened_by t move m ≡ true) → opens s t m ≡ true
    opens_less m d (inl e) = e
    opens_less m d (inr e) = absurd (both_ways _ (head-wants_none graph s h t n m hd x d) (opened-wanted graph s move a t m e))

-- ---- what may be evaluated

abbrev gathers_all : List (ℕ × Value) → List ℕ → Bool
gathers_all gathered ms = list_all (λ m. is_some (gathered_of m gathered)) ms

pub evaluate-from : (graph : Graph) (s q : Core) (t n : ℕ) → StaysInFront graph s q t n → allowed graph s (steps.Evaluate t n) ≡ true → (allowed graph q (steps.Evaluate t n) ≡ true) × (found_now graph q t n ≡ found_now graph s t n)
evaluate-from graph s q t n k e = (may_evaluate, found_same)
  where
    may_evaluate : allowed graph q (steps.Evaluate t n) ≡ true
    may_evaluate = moved (at_front graph s t n) (at_front graph q t n) (touched graph s t n) (touched graph q t n) (all_gathered s n (inputs_of (node_at graph n))) (all_gathered q n (inputs_of (node_at graph n))) (is_found s n) (is_found q n)
        k.front k.touches (ap (λ (g : List (ℕ × Value)). gathers_all g (inputs_of (node_at graph n))) k.work.gathered) (ap (λ (f : Option Found). is_some f) k.work.found) e
      where
        moved : (a a2 b b2 c c2 d d2 : Bool) → a2 ≡ true → b2 ≡ b → c2 ≡ c → d2 ≡ d → (((a && b) && c) && not d) ≡ true → (((a2 && b2) && c2) && not d2) ≡ true
        moved a a2 b b2 c c2 d d2 ea eb ec ed e = grind (arith, ea, eb, ec, ed, e)

    found_same : found_now graph q t n ≡ found_now graph s t n
    found_same = ap₂ (λ (g : List (ℕ × Value)) (d : Option Entry). finds (node_at graph n) (λ m. value_or (gathered_of m g)) (value_of (state_of d))) k.work.gathered k.before_it

pub body-from : (graph : Graph) (s q : Core) (t n : ℕ) → StaysInFront graph s q t n → allowed graph s (steps.Body t n) ≡ true → (allowed graph q (steps.Body t n) ≡ true) × (body_now graph q n ≡ body_now graph s n)
body-from graph s q t n k e = (may_evaluate, body_same)
  where
    may_evaluate : allowed graph q (steps.Body t n) ≡ true
    may_evaluate = moved (at_front graph s t n) (at_front graph q t n) (touched graph s t n) (touched graph q t n) (is_some (body_of (node_at graph n))) (is_found s n) (is_found q n)
        (all_gathered s n (found_candidates s n)) (all_gathered q n (found_candidates q n)) (is_none (cell s n).body) (is_none (cell q n).body)
        k.front k.touches (ap (λ (f : Option Found). is_some f) k.work.found) (ap₂ (λ (g : List (ℕ × Value)) (f : Option Found). gathers_all g (nodes_in (picks_of_found f))) k.work.gathered k.work.found) (ap (λ (v : Option Value). is_none v) k.work.body) e
      where
        moved : (a a2 b b2 c d d2 g g2 i i2 : Bool) → a2 ≡ true → b2 ≡ b → d2 ≡ d → g2 ≡ g → i2 ≡ i → (((((a && b) && c) && d) && g) && i) ≡ true → (((((a2 && b2) && c) && d2) && g2) && i2) ≡ true
        moved a a2 b b2 c d d2 g g2 i i2 ea eb ed eg ei e = grind (arith, ea, eb, ed, eg, ei, e)

    body_same : body_now graph q n ≡ body_now graph s n
    body_same = ap₂ (λ (g : List (ℕ × Value)) (f : Option Found). body_over (body_of (node_at graph n)) (λ m. value_or (gathered_of m g)) (selections_of f)) k.work.gathered k.work.found
