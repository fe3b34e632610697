-- Each step keeps the order: no cycle, lists in order, framing calls last, and the ended ones first in the log's order.
use Rattle.std.proofs.Common.{◌≡◌, ℕ, suc, Bool, true, false, ◌&&◌, ◌||◌, not, ◌==◌, ◌⊎◌, inl, inr, refl, sym, arith, List, [], ◌∷◌, ◌++◌, true≢false, ◌∙◌, subst}
use Rattle.std.proofs.lemmas.Bool.{and_from, eqb-true, eq-eqb, false_from_ne_true, both_ways, not-true}
use Rattle.script_tree.proofs.Truths.{and_right}
use Rattle.signal_graph.specs.declared.call.Call.{Call}
use Rattle.signal_graph.specs.declared.log.Logged.{Logged}
use Rattle.signal_graph.specs.Graph.{Graph}
use Rattle.order_graph.specs.Order.{reaches}
use Rattle.node_versions.specs.declared.entry.State.TheVariants.{Mark, Frame}
use Rattle.node_versions.specs.declared.entry.Entry.{Entry}
use Rattle.node_versions.specs.Entries.{IsUnique, has, at, behind, is_mark}
use Rattle.flow_model.specs.declared.step.Step.{Step}
use Rattle.flow_model.specs.declared.step.Step.TheVariants as steps
use Rattle.flow_model.specs.Machine.State.{Core, call, live, executes, is_framing, entries, with_cell, precedes, wants}
use Rattle.flow_model.specs.Machine.Changes.{enter, raise, ensure_mark, finish, clear, add_edge}
use Rattle.flow_model.specs.Machine.Steps.{allowed, apply, begin, logged, keep_found, counted, open_node, frame, is_change}
use Rattle.flow_model.specs.Machine.Words.{found_now, found_picks, value_now, due}
use Rattle.flow_model.specs.Kept.Lawful.{IsLawful, OrderIsKept, log_has, ended_before}
use Rattle.flow_model.proofs.OneStep.WhoMayStep.{executes-live, wants-live, is_framing-live, at_front-executes, can_work-at_front, due-can_work, idle-executes, frame-wants, start-is_framing, discover-due, drop-due, mark-executes, mark-no_entry, end-idle, no_states-none}
use Rattle.flow_model.proofs.OneList.InOrder.{Ascends, Ascends-behind}
use Rattle.flow_model.proofs.OneList.StatesAndPlaces.{behind-has}
use Rattle.flow_model.proofs.OneList.Chains.{first_pair, last_pair}
use Rattle.flow_model.proofs.OneList.Entering.{Standing, Comes, comes_by, enter-Standing}
use Rattle.flow_model.proofs.OrderStays.PartsOfStepsKeepOrder
use Rattle.flow_model.proofs.OneStep.VersionsStayFresh.{not_begun-live, not_begun-logged, ended_before-trans, ended_before-more, ended_before-last, call-version, end-VersionsAreFresh}

-- ---- a lawful state's order stands

pub Ascends-from : (R : ℕ → ℕ → Type 0) (es : List Entry) → IsUnique es → ((u v : ℕ) → behind es u v ≡ true → R u v) → Ascends R es
Ascends-from R [] q h = tt
Ascends-from R (e ∷ es) q h = (λ v k. h e.version v (head-behind v k), Ascends-from R es q.1 (λ u v k. h u v (tail-behind u v k)))
  where
    head-behind : (v : ℕ) → has es v ≡ true → behind (e ∷ es) e.version v ≡ true
    head-behind v k = let x = eq-eqb e.version e.version refl in rw (x, behind) k

    tail-behind : (u v : ℕ) → behind es u v ≡ true → behind (e ∷ es) u v ≡ true
    tail-behind u v k =
        let a = (behind-has es u v k).0 in
        let x : (e.version == u) ≡ false = false_from_ne_true _ (λ y. both_ways _ q.0 (subst (λ (w : ℕ). has es w ≡ true) (sym (eqb-true e.version u y)) a)) in
        rw (x, behind) k

pub recorded-live : (graph : Graph) (s : Core) → IsLawful graph s → (u v : ℕ) → reaches s.pairs u v ≡ true → (live s u && live s v) ≡ true
recorded-live graph s h u v r =
    let a = first_pair s.pairs u v r in
    let b = last_pair s.pairs u v r in
    and_from _ _ (h.entries_are_kept.pairs u a.0 a.1).0 (h.entries_are_kept.pairs b.0 v b.1).1

comes-from : (lu lv r e : Bool) → (lv ≡ true → (r || (not lu && lv)) ≡ true) → (lv ≡ false → (lu ≡ false) × (e ≡ true)) → comes_by lv (r || (not lu && lv)) (not lu) e ≡ true
comes-from lu true r e f g = f refl
comes-from lu false r e f g = let k = g refl in grind (arith, k)

pub lawful-Standing : (graph : Graph) (s : Core) → IsLawful graph s → Standing s (ended_before s.log)
lawful-Standing graph s h = record {
  order = record {
    no_cycle = h.order_is_kept.no_cycle;
    apart = λ u v f x. let b = h.framing_comes_last.before u v f x in grind (arith, b);
  };
  pairs_live = recorded-live graph s h;
  old_transitive = ended_before-trans s h.versions_are_fresh;
  lists = λ n. Ascends-from (Comes s (ended_before s.log)) (entries s n) (h.one_entry n) (λ u v k. comes-from (live s u) (live s v) (reaches s.pairs u v) (ended_before s.log u v)
      (λ l. h.order_is_kept.lists n u v k l) (λ l. (h.ended_is_prefix.prefix n u v k l, h.ended_is_prefix.log_order n u v k l)));
}

-- ---- what a standing order says

comes-live : (lu lv r e : Bool) → comes_by lv (r || (not lu && lv)) (not lu) e ≡ true → lv ≡ true → (r || (not lu && lv)) ≡ true
comes-live lu true r e h l = h
comes-live lu false r e h l = absurd (true≢false (sym l))

comes-ended : (lu lv r e : Bool) → comes_by lv (r || (not lu && lv)) (not lu) e ≡ true → lv ≡ false → (lu ≡ false) × (e ≡ true)
comes-ended lu true r e h l = absurd (true≢false l)
comes-ended lu false r e h l = (grind arith, grind arith)

standing-OrderIsKept : (s : Core) (old : ℕ → ℕ → Bool) → Standing s old → OrderIsKept s
standing-OrderIsKept s old h = record {
  no_cycle = h.order.no_cycle;
  lists = λ n u v k l. comes-live (live s u) (live s v) (reaches s.pairs u v) (old u v) (Ascends-behind (Comes s old) (entries s n) u v (h.lists n) k) l;
}

-- No framing call is before an executing one.
pub standing-framing_last : (s : Core) (old : ℕ → ℕ → Bool) → Standing s old → (u v : ℕ) → is_framing s u ≡ true → executes s v ≡ true → precedes s u v ≡ false
standing-framing_last s old h u v f x = let a = h.order.apart u v f x in let l = is_framing-live s u f in grind (arith, a, l)

-- The ended calls of a list come first, in their order.
pub standing-ended : (s : Core) (old : ℕ → ℕ → Bool) → Standing s old → (n u v : ℕ) → behind (entries s n) u v ≡ true → live s v ≡ false → (live s u ≡ false) × (old u v ≡ true)
standing-ended s old h n u v k l = comes-ended (live s u) (live s v) (reaches s.pairs u v) (old u v) (Ascends-behind (Comes s old) (entries s n) u v (h.lists n) k) l

-- ---- the steps

pub ensure_mark-log : (s : Core) (t m : ℕ) → (ensure_mark s t m).log ≡ s.log
ensure_mark-log s t m = go (has (entries s m) t)
  where
    go : (b : Bool) → (elim b as (λ _. Core) [ true ↦ s | false ↦ enter s t m Mark ]).log ≡ s.log
    go true = refl
    go false = refl

pub frame-log : (graph : Graph) (s : Core) (t n : ℕ) → (frame graph s t n).log ≡ s.log
frame-log graph s t n = go (at is_mark (entries s n) t)
  where
    go : (b : Bool) → (elim b as (λ _. Core) [ true ↦ open_node graph (raise s t n) t n | false ↦ open_node graph (enter s t n Frame) t n ]).log ≡ s.log
    go true = refl
    go false = refl

-- the order of ended calls, as the log has it
abbrev pub Stood : Core → Type 0
Stood s = Standing s (ended_before s.log)

clear-Standing : (s : Core) (old : ℕ → ℕ → Bool) (n : ℕ) → Standing s old → Standing (clear s n) old
clear-Standing s old n h = PartsOfStepsKeepOrder.same_list-Standing s old n _ (λ c. refl) h

-- A call that wants a node has no entry there but a Mark.
pub wanted-fresh : (graph : Graph) (s : Core) → IsLawful graph s → (t n : ℕ) → wants s t n ≡ true → at is_mark (entries s n) t ≡ false → has (entries s n) t ≡ false
wanted-fresh graph s h t n w m = let f = h.wants_are_free t n w in no_states-none (entries s n) t m (sym (h.frames_are_open.opens_frames t n) ∙ f.not_open) f.not_done

pub due-live : (graph : Graph) (s : Core) (t n : ℕ) → due graph s t n ≡ true → live s t ≡ true
due-live graph s t n d = executes-live s t (at_front-executes graph s t n (can_work-at_front graph s t n (due-can_work graph s t n d)))

-- An entry of an ended call is of version 0 or in the log.
ended-known : (graph : Graph) (s : Core) → IsLawful graph s → (n u : ℕ) → has (entries s n) u ≡ true → live s u ≡ false → (u ≡ 0) ⊎ (log_has s.log u ≡ true)
ended-known graph s h n u k l = go (h.entries_are_kept.versions n u k)
  where
    go : (u ≡ 0) ⊎ ((live s u ≡ true) ⊎ (log_has s.log u ≡ true)) → (u ≡ 0) ⊎ (log_has s.log u ≡ true)
    go (inl e) = inl e
    go (inr (inl e)) = absurd (both_ways _ l e)
    go (inr (inr e)) = inr e

end-Standing : (graph : Graph) (s : Core) (t : ℕ) → IsLawful graph s → allowed graph s (steps.End t) ≡ true → Stood (apply graph s (steps.End t))
end-Standing graph s t h a =
    let lt = executes-live s t (idle-executes s t (end-idle graph s t a)) in
    let fresh = end-VersionsAreFresh s (apply graph s (steps.End t)) t (refl, refl, refl) h.versions_are_fresh lt in
    PartsOfStepsKeepOrder.end-Standing graph s (ended_before s.log) (ended_before (s.log ++ logged (call s t) ∷ [])) t (lawful-Standing graph s h) lt (not-true _ (and_right _ _ a))
    (λ u v k. ended_before-more s.log (logged (call s t)) u v k)
    (ended_before-trans (apply graph s (steps.End t)) fresh)
    (λ n u k l. subst (λ (v : ℕ). ended_before (s.log ++ logged (call s t) ∷ []) u v ≡ true) (call-version s t lt) (ended_before-last s.log (logged (call s t)) u (ended-known graph s h n u k l)))

pub step-Standing : (graph : Graph) (s : Core) (step : Step) → IsLawful graph s → allowed graph s step ≡ true → Stood (apply graph s step)
step-Standing graph s (steps.Frame t n) h a = let w = frame-wants graph s t n a in subst (λ (l : List Logged). Standing (apply graph s (steps.Frame t n)) (ended_before l)) (sym (frame-log graph s t n)) (PartsOfStepsKeepOrder.frame-Standing graph s (ended_before s.log) t n (lawful-Standing graph s h) (wants-live s t n w) (wanted-fresh graph s h t n w))
step-Standing graph s (steps.Start t) h a = PartsOfStepsKeepOrder.start-Standing s (ended_before s.log) t (lawful-Standing graph s h) (is_framing-live s t (start-is_framing graph s t a)) (not-true _ (and_right _ _ a))
step-Standing graph s (steps.Skip t n) h a = PartsOfStepsKeepOrder.finish-Standing s (ended_before s.log) t n _ _ _ (lawful-Standing graph s h)
step-Standing graph s (steps.Gather t n m) h a = PartsOfStepsKeepOrder.same_list-Standing s (ended_before s.log) n _ (λ c. refl) (lawful-Standing graph s h)
step-Standing graph s (steps.Evaluate t n) h a = PartsOfStepsKeepOrder.with_call-Standing (with_cell s n (keep_found (found_now graph s t n))) (ended_before s.log) t counted (record { version = λ c. refl; executing = λ c. refl }) (PartsOfStepsKeepOrder.same_list-Standing s (ended_before s.log) n _ (λ c. refl) (lawful-Standing graph s h))
step-Standing graph s (steps.Body t n) h a = PartsOfStepsKeepOrder.same_list-Standing s (ended_before s.log) n _ (λ c. refl) (lawful-Standing graph s h)
step-Standing graph s (steps.Resolve t n) h a = clear-Standing (finish s t n (value_now graph s t n) (is_change graph s t n) (found_picks s n)) (ended_before s.log) n (PartsOfStepsKeepOrder.finish-Standing s (ended_before s.log) t n _ _ _ (lawful-Standing graph s h))
step-Standing graph s (steps.Discover t n c) h a =
    let e = PartsOfStepsKeepOrder.ensure_mark-Standing s (ended_before s.log) t c (lawful-Standing graph s h) (due-live graph s t n (discover-due graph s t n c a)) in
    log-same (ensure_mark-log s t c) (PartsOfStepsKeepOrder.tell-Standing (with_cell (ensure_mark s t c) c (add_edge n t)) (ended_before s.log) t n c (PartsOfStepsKeepOrder.same_list-Standing (ensure_mark s t c) (ended_before s.log) c _ (λ x. refl) e))
  where
    log-same : (ensure_mark s t c).log ≡ s.log → Standing (apply graph s (steps.Discover t n c)) (ended_before s.log) → Stood (apply graph s (steps.Discover t n c))
    log-same e k = subst (λ (l : List Logged). Standing (apply graph s (steps.Discover t n c)) (ended_before l)) (sym e) k
step-Standing graph s (steps.Drop t n o) h a =
    let e = PartsOfStepsKeepOrder.ensure_mark-Standing s (ended_before s.log) t o (lawful-Standing graph s h) (due-live graph s t n (drop-due graph s t n o a)) in
    log-same (ensure_mark-log s t o) (PartsOfStepsKeepOrder.same_list-Standing (ensure_mark s t o) (ended_before s.log) o _ (λ x. refl) e)
  where
    log-same : (ensure_mark s t o).log ≡ s.log → Standing (apply graph s (steps.Drop t n o)) (ended_before s.log) → Stood (apply graph s (steps.Drop t n o))
    log-same e k = subst (λ (l : List Logged). Standing (apply graph s (steps.Drop t n o)) (ended_before l)) (sym e) k
step-Standing graph s (steps.Mark t m) h a = enter-Standing s (ended_before s.log) t m Mark (lawful-Standing graph s h) (executes-live s t (mark-executes graph s t m a)) (mark-no_entry graph s t m a)
step-Standing graph s (steps.Look t) h a = PartsOfStepsKeepOrder.with_call-Standing s (ended_before s.log) t _ (record { version = λ c. refl; executing = λ c. refl }) (lawful-Standing graph s h)
step-Standing graph s (steps.End t) h a = end-Standing graph s t h a
step-Standing graph s (steps.Collect n) h a = PartsOfStepsKeepOrder.collect-Standing s (ended_before s.log) n (lawful-Standing graph s h)

-- The next version has no entry.
pub not_begun-entry : (graph : Graph) (s : Core) → IsLawful graph s → (n : ℕ) → has (entries s n) (suc s.begun) ≡ false
not_begun-entry graph s h n = false_from_ne_true _ (λ k. go (h.entries_are_kept.versions n (suc s.begun) k))
  where
    go : (suc s.begun ≡ 0) ⊎ ((live s (suc s.begun) ≡ true) ⊎ (log_has s.log (suc s.begun) ≡ true)) → ⊥
    go (inl e) = omega (arith, e)
    go (inr (inl e)) = both_ways _ (not_begun-live s h.versions_are_fresh) e
    go (inr (inr e)) = both_ways _ (not_begun-logged s h.versions_are_fresh) e

pub begin-Stood : (graph : Graph) (s : Core) (caller : ℕ) (c : Call) → IsLawful graph s → Stood (begin graph s caller c)
begin-Stood graph s caller c h = PartsOfStepsKeepOrder.begin-Standing graph s (ended_before s.log) caller c (lawful-Standing graph s h) (not_begun-live s h.versions_are_fresh) (not_begun-entry graph s h)

-- ---- said of the facts

pub step-OrderIsKept : (graph : Graph) (s : Core) (step : Step) → IsLawful graph s → allowed graph s step ≡ true → OrderIsKept (apply graph s step)
step-OrderIsKept graph s step h a = standing-OrderIsKept (apply graph s step) (ended_before (apply graph s step).log) (step-Standing graph s step h a)

pub begin-OrderIsKept : (graph : Graph) (s : Core) (caller : ℕ) (c : Call) → IsLawful graph s → OrderIsKept (begin graph s caller c)
begin-OrderIsKept graph s caller c h = standing-OrderIsKept (begin graph s caller c) (ended_before s.log) (begin-Stood graph s caller c h)
