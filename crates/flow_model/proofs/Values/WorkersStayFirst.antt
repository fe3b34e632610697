-- A call that works at a node stays the first open one there until it finishes.
use Rattle.std.proofs.Common.{◌≡◌, ℕ, Bool, true, false, ◌&&◌, not, ◌==◌, ◌⊎◌, inl, inr, refl, sym, ap, arith, List, true≢false, ◌∙◌, subst, Option}
use Rattle.std.proofs.lemmas.Bool.{or_cases, or_left, and_from, eqb-true, eq-eqb, eqb-false, false_from_ne_true, both_ways, cases_Bool, true_from_ne_false, not-true}
use Rattle.script_tree.specs.declared.value.Value.{Value}
use Rattle.script_tree.proofs.Truths.{and_left, and_right}
use Rattle.signal_graph.specs.Graph.{Graph, is_in}
use Rattle.order_graph.specs.Order.{reaches}
use Rattle.order_graph.proofs.Reaching.{reaches-join}
use Rattle.node_versions.specs.declared.entry.State.TheVariants.{Mark, Frame, Done}
use Rattle.node_versions.specs.declared.entry.Entry.{Entry}
use Rattle.node_versions.specs.Entries.{IsUnique, has, at, is_mark, is_frame, behind, front, rest, placed, with_state, value_before, picks_before}
use Rattle.node_versions.proofs.Places.{at-has}
use Rattle.flow_model.specs.declared.step.Step.{Step}
use Rattle.flow_model.specs.declared.step.Step.TheVariants as steps
use Rattle.flow_model.specs.Machine.State.{Core, LiveCall, call_or, live, executes, is_framing, entries, opens, wants, precedes, with_cell}
use Rattle.flow_model.specs.Machine.Words.{heads, active_outs, found_now, value_now, found_picks, next_look}
use Rattle.flow_model.specs.Machine.Changes.{stops, stops_call, new_entry, enter, raise, ensure_mark, finish, set_state, tell_call, add_edge}
use Rattle.flow_model.specs.Machine.Steps.{allowed, apply, frame, open_node, started, counted, with_look, look_value, keep_found, is_change}
use Rattle.flow_model.specs.Kept.Lawful.{IsLawful, OrderIsKept, FramesAreOpen, ended_before}
use Rattle.flow_model.proofs.OneStep.WhoMayStep.{executes-live, wants-live, opens-live, frame-wants, discover-due, due-can_work, drop-due, can_work-at_front, at_front-executes, skip-can_work, resolve-can_work, mark-executes, end-idle}
use Rattle.flow_model.proofs.OneList.InOrder.{front-has}
use Rattle.flow_model.proofs.OneList.OneEntryACall.{placed-at_other, placed-at, collected-at}
use Rattle.flow_model.proofs.OneList.StatesAndPlaces.{behind-total, with_state-at, first_open-none, first_open-frame, more-behind_it}
use Rattle.flow_model.proofs.OneList.Chains.{reaches-retire}
use Rattle.flow_model.proofs.OrderStays.AfterEachStep.{lawful-Standing, step-OrderIsKept}
use Rattle.flow_model.proofs.OrderStays.PartsOfStepsKeepOrder.{not_before}
use Rattle.flow_model.proofs.OneList.CallsAndCells.{map_call-keeps, without_call-other}
use Rattle.flow_model.proofs.OneStep.SameCallers.{ensured}
use Rattle.flow_model.proofs.OrderStays.EntriesAndRoom.{step-one_entry, idle-no_frame}
use Rattle.flow_model.proofs.OrderStays.NoFrameBeforeDones.{head-first, framing-part}
use Rattle.flow_model.proofs.OneStep.ChangesOfOneList.{ListStep, stays, marks, frames, raises, finishes, collects, step-list}
use Rattle.flow_model.proofs.OrderStays.OpenNodesHaveFrames.{opened-opens, closed-opens, same_opens, step-FramesAreOpen}
use Rattle.flow_model.proofs.Wants.FramedWith.{opens-frame, heads-opens}
use Rattle.flow_model.proofs.Ended.WhoEndsIsFirst.{live-after_end}
use Rattle.flow_model.proofs.Wants.WantsAreCovered.{entered-reaches, ensured-reaches}

-- ---- the order grows

framed-grows : (graph : Graph) (s : Core) (t n u v : ℕ) → live s t ≡ true → reaches s.pairs u v ≡ true → reaches (frame graph s t n).pairs u v ≡ true
framed-grows graph s t n u v lt k = go (at is_mark (entries s n) t)
  where
    go : (b : Bool) → reaches (elim b as (λ _. Core) [ true ↦ open_node graph (raise s t n) t n | false ↦ open_node graph (enter s t n Frame) t n ]).pairs u v ≡ true
    go true = k
    go false = entered-reaches s t n u v lt k

-- A chain of pairs from a call that lives on stays.
pub step-grows : (graph : Graph) (s : Core) (step : Step) → IsLawful graph s → allowed graph s step ≡ true → (u v : ℕ) → live (apply graph s step) u ≡ true → reaches s.pairs u v ≡ true → reaches (apply graph s step).pairs u v ≡ true
step-grows graph s (steps.Frame t n) h a u v l k = framed-grows graph s t n u v (wants-live s t n (frame-wants graph s t n a)) k
step-grows graph s (steps.Start t) h a u v l k = k
step-grows graph s (steps.Skip t n) h a u v l k = k
step-grows graph s (steps.Gather t n m) h a u v l k = k
step-grows graph s (steps.Evaluate t n) h a u v l k = k
step-grows graph s (steps.Body t n) h a u v l k = k
step-grows graph s (steps.Resolve t n) h a u v l k = k
step-grows graph s (steps.Discover t n c) h a u v l k = ensured-reaches s t c u v (executes-live s t (at_front-executes graph s t n (can_work-at_front graph s t n (due-can_work graph s t n (discover-due graph s t n c a))))) k
step-grows graph s (steps.Drop t n o) h a u v l k = ensured-reaches s t o u v (executes-live s t (at_front-executes graph s t n (can_work-at_front graph s t n (due-can_work graph s t n (drop-due graph s t n o a))))) k
step-grows graph s (steps.Mark t m) h a u v l k = entered-reaches s t m u v (executes-live s t (mark-executes graph s t m a)) k
step-grows graph s (steps.Look t) h a u v l k = k
step-grows graph s (steps.End t) h a u v l k =
    let r = reaches-retire s.pairs t u v (not_before s (ended_before s.log) t (lawful-Standing graph s h) (not-true _ (and_right _ _ a))) in
    let e = live-after_end graph s h t a u in
    r ∙ and_from (not (u == t)) (reaches s.pairs u v) (and_left (not (u == t)) (live s u) (sym e ∙ l)) k
step-grows graph s (steps.Collect n) h a u v l k = k

-- ---- open nodes

-- The step is the one by which the call finishes at the node.
abbrev pub Finishes : Step → ℕ → ℕ → Type 0
Finishes (steps.Skip t n) u m = (u ≡ t) × (m ≡ n)
Finishes (steps.Resolve t n) u m = (u ≡ t) × (m ≡ n)
Finishes step u m = ⊥

pub finish-or : (step : Step) (u n : ℕ) → Finishes step u n ⊎ (Finishes step u n → ⊥)
finish-or (steps.Skip t m) u n = go (cases_Bool (u == t)) (cases_Bool (n == m))
  where
    go : ((u == t) ≡ true) ⊎ ((u == t) ≡ false) → ((n == m) ≡ true) ⊎ ((n == m) ≡ false) → ((u ≡ t) × (n ≡ m)) ⊎ ((u ≡ t) × (n ≡ m) → ⊥)
    go (inl x) (inl y) = inl (eqb-true u t x, eqb-true n m y)
    go (inr x) y = inr (λ k. both_ways _ x (eq-eqb u t k.0))
    go (inl x) (inr y) = inr (λ k. both_ways _ y (eq-eqb n m k.1))
finish-or (steps.Resolve t m) u n = go (cases_Bool (u == t)) (cases_Bool (n == m))
  where
    go : ((u == t) ≡ true) ⊎ ((u == t) ≡ false) → ((n == m) ≡ true) ⊎ ((n == m) ≡ false) → ((u ≡ t) × (n ≡ m)) ⊎ ((u ≡ t) × (n ≡ m) → ⊥)
    go (inl x) (inl y) = inl (eqb-true u t x, eqb-true n m y)
    go (inr x) y = inr (λ k. both_ways _ x (eq-eqb u t k.0))
    go (inl x) (inr y) = inr (λ k. both_ways _ y (eq-eqb n m k.1))
finish-or (steps.Frame t m) u n = inr (λ k. k)
finish-or (steps.Start t) u n = inr (λ k. k)
finish-or (steps.Gather t m i) u n = inr (λ k. k)
finish-or (steps.Evaluate t m) u n = inr (λ k. k)
finish-or (steps.Body t m) u n = inr (λ k. k)
finish-or (steps.Discover t m i) u n = inr (λ k. k)
finish-or (steps.Drop t m i) u n = inr (λ k. k)
finish-or (steps.Mark t i) u n = inr (λ k. k)
finish-or (steps.Look t) u n = inr (λ k. k)
finish-or (steps.End t) u n = inr (λ k. k)
finish-or (steps.Collect m) u n = inr (λ k. k)

finished-open : (s : Core) (t n : ℕ) (v : Value) (b : Bool) (ps : List (Option ℕ)) (u m : ℕ) → live s t ≡ true → opens s u m ≡ true → (opens (finish s t n v b ps) u m ≡ true) ⊎ ((u ≡ t) × (m ≡ n))
finished-open s t n v b ps u m lt o = go ((u == t) && (m == n)) refl
  where
    e : opens (finish s t n v b ps) u m ≡ (opens s u m && not ((u == t) && (m == n)))
    e = closed-opens (with_cell s n (set_state t (Done v b ps))) t n b u m lt

    go : (x : Bool) → ((u == t) && (m == n)) ≡ x → (opens (finish s t n v b ps) u m ≡ true) ⊎ ((u ≡ t) × (m ≡ n))
    go true k = inr (eqb-true u t (and_left (u == t) (m == n) k), eqb-true m n (and_right (u == t) (m == n) k))
    go false k = inl (e ∙ and_from (opens s u m) (not ((u == t) && (m == n))) o (ap not k))

framed-open : (graph : Graph) (s : Core) (t n u m : ℕ) → live s t ≡ true → opens s u m ≡ true → opens (frame graph s t n) u m ≡ true
framed-open graph s t n u m lt o = go (at is_mark (entries s n) t)
  where
    go : (b : Bool) → opens (elim b as (λ _. Core) [ true ↦ open_node graph (raise s t n) t n | false ↦ open_node graph (enter s t n Frame) t n ]) u m ≡ true
    go true = opened-opens (raise s t n) t n (active_outs graph (raise s t n) t n) u m lt ∙ or_left (opens s u m) ((u == t) && (m == n)) o
    go false = opened-opens (enter s t n Frame) t n (active_outs graph (enter s t n Frame) t n) u m lt ∙ or_left (opens s u m) ((u == t) && (m == n)) o

pub open-stays : (graph : Graph) (s : Core) (step : Step) → IsLawful graph s → allowed graph s step ≡ true → (u m : ℕ) → opens s u m ≡ true → (opens (apply graph s step) u m ≡ true) ⊎ Finishes step u m
open-stays graph s (steps.Frame t n) h a u m o = inl (framed-open graph s t n u m (wants-live s t n (frame-wants graph s t n a)) o)
open-stays graph s (steps.Start t) h a u m o = inl (same_opens s t started (λ c. refl) (λ c. refl) u m ∙ o)
open-stays graph s (steps.Skip t n) h a u m o = finished-open s t n (value_before (entries s n) t) false (picks_before (entries s n) t) u m (executes-live s t (at_front-executes graph s t n (can_work-at_front graph s t n (skip-can_work graph s t n a)))) o
open-stays graph s (steps.Gather t n i) h a u m o = inl o
open-stays graph s (steps.Evaluate t n) h a u m o = inl (same_opens (with_cell s n (keep_found (found_now graph s t n))) t counted (λ c. refl) (λ c. refl) u m ∙ o)
open-stays graph s (steps.Body t n) h a u m o = inl o
open-stays graph s (steps.Resolve t n) h a u m o = finished-open s t n (value_now graph s t n) (is_change graph s t n) (found_picks s n) u m (executes-live s t (at_front-executes graph s t n (can_work-at_front graph s t n (resolve-can_work graph s t n a)))) o
open-stays graph s (steps.Discover t n c) h a u m o =
    let q = with_cell (ensure_mark s t c) c (add_edge n t) in
    inl (map_call-keeps (λ x. is_in m x.open_nodes) q (tell_call (entries q c) t n) (λ x. refl) (λ x. refl) u ∙ ensured (λ x. is_in m x.open_nodes) s t c u ∙ o)
open-stays graph s (steps.Drop t n i) h a u m o = inl (ensured (λ x. is_in m x.open_nodes) s t i u ∙ o)
open-stays graph s (steps.Mark t i) h a u m o = inl o
open-stays graph s (steps.Look t) h a u m o = inl (same_opens s t (with_look (look_value s t (next_look s t))) (λ c. refl) (λ c. refl) u m ∙ o)
open-stays graph s (steps.End t) h a u m o = inl (ap (λ (x : Option LiveCall). is_in m (call_or x).open_nodes) (without_call-other t u s.calls apart) ∙ o)
  where
    apart : u ≡ t → ⊥
    apart e = both_ways _ (h.frames_are_open.opens_frames t m ∙ idle-no_frame graph s h t m (end-idle graph s t a)) (subst (λ (v : ℕ). opens s v m ≡ true) e o)
open-stays graph s (steps.Collect n) h a u m o = inl o

-- A Frame after a step was one before, or is new: of an executing call, or before framing calls alone.
pub data FrameBefore (s : Core) (n u : ℕ) (es : List Entry) : Type 0 where
  old : at is_frame (entries s n) u ≡ true → FrameBefore s n u es
  executing : wants s u n ≡ true → executes s u ≡ true → FrameBefore s n u es
  framing : wants s u n ≡ true → ((v : ℕ) → behind es u v ≡ true → is_framing s v ≡ true) → FrameBefore s n u es

pub frame-before : (graph : Graph) (s : Core) → IsLawful graph s → (n u : ℕ) (es : List Entry) → ListStep graph s n es → at is_frame es u ≡ true → FrameBefore s n u es
frame-before graph s h n u es (stays e) f = old (subst (λ (xs : List Entry). at is_frame xs u ≡ true) e f)
frame-before graph s h n u es (marks t x fresh r e) f = go (cases_Bool (u == t)) (subst (λ (xs : List Entry). at is_frame xs u ≡ true) e f)
  where
    go : ((u == t) ≡ true) ⊎ ((u == t) ≡ false) → at is_frame (placed (stops s t) (new_entry s t Mark) (entries s n)) u ≡ true → FrameBefore s n u es
    go (inl k) j = absurd (true≢false (sym (sym (placed-at is_frame (stops_call s t) (new_entry s t Mark) (entries s n) fresh) ∙ subst (λ (v : ℕ). at is_frame (placed (stops s t) (new_entry s t Mark) (entries s n)) v ≡ true) (eqb-true u t k) j)))
    go (inr k) j = old (sym (placed-at_other is_frame (stops_call s t) (new_entry s t Mark) (entries s n) u (eqb-false u t k)) ∙ j)
frame-before graph s h n u es (frames t w fresh r e) f = go (cases_Bool (u == t)) (subst (λ (xs : List Entry). at is_frame xs u ≡ true) e f)
  where
    lt : live s t ≡ true
    lt = wants-live s t n w

    not_in_front : has (front (stops s t) (entries s n)) t ≡ false
    not_in_front = false_from_ne_true _ (λ k. both_ways _ fresh (front-has (stops_call s t) (entries s n) t k))

    new : (b : Bool) → executes s t ≡ b → u ≡ t → FrameBefore s n u es
    new true x k = executing (subst (λ (v : ℕ). wants s v n ≡ true) (sym k) w) (subst (λ (v : ℕ). executes s v ≡ true) (sym k) x)
    new false x k = framing (subst (λ (v : ℕ). wants s v n ≡ true) (sym k) w) (λ v b. framing-part s (ended_before s.log) (lawful-Standing graph s h) t n lt (let z : is_framing s t ≡ true = grind (arith, x, lt) in z) v
        (sym (more-behind_it (front (stops s t) (entries s n)) (rest (stops s t) (entries s n)) (new_entry s t Frame) v not_in_front) ∙ subst (λ (xs : List Entry). behind xs t v ≡ true) e (subst (λ (j : ℕ). behind es j v ≡ true) k b)))

    go : ((u == t) ≡ true) ⊎ ((u == t) ≡ false) → at is_frame (placed (stops s t) (new_entry s t Frame) (entries s n)) u ≡ true → FrameBefore s n u es
    go (inl k) j = new (executes s t) refl (eqb-true u t k)
    go (inr k) j = old (sym (placed-at_other is_frame (stops_call s t) (new_entry s t Frame) (entries s n) u (eqb-false u t k)) ∙ j)
frame-before graph s h n u es (raises t w m e) f = go (cases_Bool (u == t)) (with_state-at is_frame t Frame (entries s n) u) (subst (λ (xs : List Entry). at is_frame xs u ≡ true) e f)
  where
    lt : live s t ≡ true
    lt = wants-live s t n w

    xt : executes s t ≡ true
    xt = true_from_ne_false _ (λ x. both_ways _ (h.framing_comes_last.no_mark t n (let z : is_framing s t ≡ true = grind (arith, x, lt) in z)) m)

    go : ((u == t) ≡ true) ⊎ ((u == t) ≡ false) → at is_frame (with_state t Frame (entries s n)) u ≡ elim (u == t) as (λ _. Bool) [ true ↦ has (entries s n) t && true | false ↦ at is_frame (entries s n) u ] → at is_frame (with_state t Frame (entries s n)) u ≡ true → FrameBefore s n u es
    go (inl k) j i = executing (subst (λ (v : ℕ). wants s v n ≡ true) (sym (eqb-true u t k)) w) (subst (λ (v : ℕ). executes s v ≡ true) (sym (eqb-true u t k)) xt)
    go (inr k) j i = old (sym (rw k at j) ∙ i)
frame-before graph s h n u es (finishes t v c ps x e) f = go (cases_Bool (u == t)) (with_state-at is_frame t (Done v c ps) (entries s n) u) (subst (λ (xs : List Entry). at is_frame xs u ≡ true) e f)
  where
    none : (a : Bool) → (a && false) ≡ true → ⊥
    none true k = true≢false (sym k)
    none false k = true≢false (sym k)

    go : ((u == t) ≡ true) ⊎ ((u == t) ≡ false) → at is_frame (with_state t (Done v c ps) (entries s n)) u ≡ elim (u == t) as (λ _. Bool) [ true ↦ has (entries s n) t && false | false ↦ at is_frame (entries s n) u ] → at is_frame (with_state t (Done v c ps) (entries s n)) u ≡ true → FrameBefore s n u es
    go (inl k) j i = absurd (none (has (entries s n) t) (sym (rw k at j) ∙ i))
    go (inr k) j i = old (sym (rw k at j) ∙ i)
frame-before graph s h n u es (collects e) f = old (collected-at is_frame (λ v. not (live s v)) (entries s n) u (h.one_entry n) (subst (λ (xs : List Entry). at is_frame xs u ≡ true) e f))

-- ---- the first open call

module _ (graph : Graph) (s : Core) (step : Step) (h : IsLawful graph s) (a : allowed graph s step ≡ true) where
  abbrev after_step : Core
  after_step = apply graph s step

  -- a chain that leads from the first open call to another one stays
  reached : (n w u : ℕ) → heads s w n ≡ true → live after_step w ≡ true → FrameBefore s n u (entries after_step n) → executes s w ≡ true → behind (entries after_step n) u w ≡ true → (u == w) ≡ false → reaches after_step.pairs w u ≡ true
  reached n w u hw lw f xw b ne = go f
    where
      lws : live s w ≡ true
      lws = executes-live s w xw

      fw : at is_frame (entries s n) w ≡ true
      fw = opens-frame graph s h w n (heads-opens graph s h w n hw)

      chain : (v : ℕ) → precedes s w v ≡ true → reaches s.pairs w v ≡ true
      chain v p = grind (arith, p, lws)

      -- all Frames but the first stand behind it
      first : (v : ℕ) → at is_frame (entries s n) v ≡ true → (v == w) ≡ false → reaches s.pairs w v ≡ true
      first v fv nv = chain v (two (or_cases _ _ (behind-total (entries s n) w v (at-has is_frame (entries s n) w fw) (at-has is_frame (entries s n) v fv) (λ e. both_ways _ nv (eq-eqb v w (sym e))))))
        where
          two : (behind (entries s n) w v ≡ true) ⊎ (behind (entries s n) v w ≡ true) → precedes s w v ≡ true
          two (inl k) = h.order_is_kept.lists n w v k (opens-live s v n (h.frames_are_open.opens_frames v n ∙ fv))
          two (inr k) = absurd (both_ways _ (first_open-none (entries s n) w v (h.one_entry n) (head-first (entries s n) w hw) k) fv)

      covered : (v : ℕ) → precedes s v u ≡ true → opens s v n ≡ true → reaches s.pairs w u ≡ true
      covered v p o = two (cases_Bool (v == w))
        where
          pv : reaches s.pairs v u ≡ true
          pv = let l = opens-live s v n o in grind (arith, p, l)

          two : ((v == w) ≡ true) ⊎ ((v == w) ≡ false) → reaches s.pairs w u ≡ true
          two (inl e) = subst (λ (j : ℕ). reaches s.pairs j u ≡ true) (eqb-true v w e) pv
          two (inr e) = reaches-join s.pairs w v u (first v (opens-frame graph s h v n o) e) pv

      go : FrameBefore s n u (entries after_step n) → reaches after_step.pairs w u ≡ true
      go (old k) = step-grows graph s step h a w u lw (first u k ne)
      go (executing k x) = let c = h.wants_are_covered u n x k in step-grows graph s step h a w u lw (covered c.by.0 c.by.1 c.by.2)
      go (framing y k) = let z = k w b in absurd (let f : ⊥ = grind (arith, z, xw) in f)

  -- Where a call works at a node, the first open call after a step is the same, or it finishes there.
  pub head-step : (n w u : ℕ) → heads s w n ≡ true → executes s w ≡ true → heads (apply graph s step) u n ≡ true → (u ≡ w) ⊎ Finishes step w n
  head-step n w u hw xw hu = go (open-stays graph s step h a w n (heads-opens graph s h w n hw))
    where
      open_q : FramesAreOpen (apply graph s step)
      open_q = step-FramesAreOpen graph s step h a

      order_q : OrderIsKept (apply graph s step)
      order_q = step-OrderIsKept graph s step h a

      es : List Entry
      es = entries (apply graph s step) n

      unique : IsUnique es
      unique = step-one_entry graph s step h a n

      go : (opens (apply graph s step) w n ≡ true) ⊎ Finishes step w n → (u ≡ w) ⊎ Finishes step w n
      go (inr k) = inr k
      go (inl o) = inl (same (cases_Bool (u == w)))
        where
          fw : at is_frame es w ≡ true
          fw = sym (open_q.opens_frames w n) ∙ o

          fu : at is_frame es u ≡ true
          fu = first_open-frame es u unique (head-first es u hu)

          lw : live (apply graph s step) w ≡ true
          lw = opens-live (apply graph s step) w n o

          lu : live (apply graph s step) u ≡ true
          lu = opens-live (apply graph s step) u n (open_q.opens_frames u n ∙ fu)

          same : ((u == w) ≡ true) ⊎ ((u == w) ≡ false) → u ≡ w
          same (inl e) = eqb-true u w e
          same (inr e) = absurd (two (or_cases _ _ (behind-total es u w (at-has is_frame es u fu) (at-has is_frame es w fw) (eqb-false u w e))))
            where
              two : (behind es u w ≡ true) ⊎ (behind es w u ≡ true) → ⊥
              two (inr k) = both_ways _ (first_open-none es u w unique (head-first es u hu) k) fw
              two (inl k) =
                  let p = order_q.lists n u w k lw in
                  let r : reaches (apply graph s step).pairs u w ≡ true = grind (arith, p, lu) in
                  let b = reached n w u hw lw (frame-before graph s h n u es (step-list graph s step h a n) fu) xw k e in
                  both_ways _ (order_q.no_cycle u) (reaches-join (apply graph s step).pairs u w u r b)
