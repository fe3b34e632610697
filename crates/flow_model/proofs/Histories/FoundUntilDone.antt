-- What a call has found at a node is kept until its Done, and the Done until the call has ended.
-- So the call can evaluate the node, and its body, only once.
use Rattle.std.proofs.Common.{◌≡◌, ℕ, suc, ◌≤◌, Bool, true, false, ◌&&◌, not, ◌==◌, ◌⊎◌, inl, inr, refl, sym, ap, arith, List, [], ◌∷◌, true≢false, ◌∙◌, subst, Option, Some, None}
use Rattle.std.proofs.lemmas.Bool.{eqb-true, eq-eqb, both_ways, cases_Bool, true_from_ne_false}
use Rattle.std.specs.Prelude.{is_some, is_none}
use Rattle.script_tree.specs.declared.value.Value.{Value}
use Rattle.signal_graph.specs.declared.call.Call.{Call}
use Rattle.signal_graph.specs.Graph.{Graph}
use Rattle.node_versions.specs.declared.entry.State.{State}
use Rattle.node_versions.specs.declared.entry.State.TheVariants.{Mark, Frame, Done}
use Rattle.node_versions.specs.declared.entry.Entry.{Entry}
use Rattle.node_versions.specs.Entries.{OutEdge, has, at, is_mark, is_frame, is_done, first_open, front, rest, with_state, value_at, value_before, picks_before}
use Rattle.node_versions.proofs.Places.{at-has}
use Rattle.flow_model.specs.declared.step.Step.{Step}
use Rattle.flow_model.specs.declared.step.Step.TheVariants as steps
use Rattle.flow_model.specs.Machine.State.{Core, Cell, Found, call_of, cell, live, executes, entries, with_cell}
use Rattle.flow_model.specs.Machine.Words.{is_some_of, heads, at_front, found_now, body_now, value_now, found_picks}
use Rattle.flow_model.specs.Machine.Changes.{stops, stops_call, new_entry, place_entry, set_state, enter, raise, ensure_mark, finish, cleared, add_edge, drop_edge}
use Rattle.flow_model.specs.Machine.Steps.{allowed, apply, begin, open_node, gather, keep_found, keep_body, is_change, collect, new_call}
use Rattle.flow_model.specs.Kept.Lawful.{IsLawful, SomeHead, IsWorking}
use Rattle.flow_model.proofs.OneStep.SameLengths.{step-begun}
use Rattle.flow_model.proofs.OneStep.WhoMayStep.{opens-live, executes-live, at_front-executes, at_front-heads, can_work-at_front, resolve-can_work, evaluate-at_front, body-at_front}
use Rattle.flow_model.proofs.OneList.InOrder.{front-rest}
use Rattle.flow_model.proofs.OneList.StatesAndPlaces.{with_state-at}
use Rattle.flow_model.proofs.OneList.OneEntryACall.{placed-at_other, collected-at_live}
use Rattle.flow_model.proofs.OneList.Entering.{with_cell-cell}
use Rattle.flow_model.proofs.OneStep.ChangesOfOneList.{ListStep, stays, marks, frames, raises, finishes, collects, same_cell, step-list}
use Rattle.flow_model.proofs.OneStep.WhoLivesAndFrames.{step-phases, phase-ended}
use Rattle.flow_model.proofs.OrderStays.OpenNodesHaveFrames.{cell-there, cell-other, entry-there}
use Rattle.flow_model.proofs.OneStep.VersionsStayFresh.{live-version, not_begun-live}
use Rattle.flow_model.proofs.OrderStays.NoFrameBeforeDones.{head-first}
use Rattle.flow_model.proofs.Wants.FramedWith.{opens-frame, heads-opens}
use Rattle.flow_model.proofs.Reactions.RunsThatHaveEnded.{not_both}
use Rattle.flow_model.proofs.Reactions.WhoReacts.{more-first_open}
use Rattle.flow_model.proofs.FramesSpread.AfterCollect.{collected-first_open}
use Rattle.flow_model.proofs.FramesSpread.AfterFrame.{raised-framed, entered-framed}
use Rattle.flow_model.proofs.OneStep.BegunCalls.{begin-call}
use Rattle.flow_model.proofs.FramesSpread.AfterDones.{heads-same}

-- ---- the first open call

pub heads-entry : (graph : Graph) (s : Core) → IsLawful graph s → (t n : ℕ) → heads s t n ≡ true → has (entries s n) t ≡ true
heads-entry graph s h t n k = at-has is_frame (entries s n) t (opens-frame graph s h t n (heads-opens graph s h t n k))

done-now : (es : List Entry) (t : ℕ) (v : Value) (c : Bool) (ps : List (Option ℕ)) → has es t ≡ true → at is_done (with_state t (Done v c ps) es) t ≡ true
done-now es t v c ps k = let w = with_state-at is_done t (Done v c ps) es t in let e = eq-eqb t t refl in shown (t == t) (has es t) _ _ w e k
  where
    shown : (x c a b : Bool) → a ≡ elim x as (λ _. Bool) [ true ↦ c && true | false ↦ b ] → x ≡ true → c ≡ true → a ≡ true
    shown x c a b h j i = grind (arith, h, j, i)

-- An executing call that is the first open one stays it, or has its Done there.
pub list-head : (graph : Graph) (s : Core) → IsLawful graph s → (n t : ℕ) → heads s t n ≡ true → executes s t ≡ true → (es : List Entry) → ListStep graph s n es → (first_open es ≡ Some t) ⊎ (at is_done es t ≡ true)
list-head graph s h n t hd x es (stays e) = inl (ap first_open e ∙ head-first (entries s n) t hd)
list-head graph s h n t hd x es (marks u y fresh r e) = inl (ap first_open e ∙ more-first_open (front (stops s u) (entries s n)) (rest (stops s u) (entries s n)) (new_entry s u Mark) refl ∙ ap first_open (front-rest (stops_call s u) (entries s n)) ∙ head-first (entries s n) t hd)
list-head graph s h n t hd x es (frames u w fresh r e) =
    let there = entry-there s n t (heads-entry graph s h t n hd) in
    inl (ap first_open e ∙ sym (ap (λ (c : Cell). first_open c.entries) (cell-there s n (place_entry s u Frame) there)) ∙ (entered-framed graph s h u n w fresh there).head t hd x)
list-head graph s h n t hd x es (raises u w m e) =
    let there = entry-there s n t (heads-entry graph s h t n hd) in
    inl (ap first_open e ∙ sym (ap (λ (c : Cell). first_open c.entries) (cell-there s n (set_state u Frame) there)) ∙ (raised-framed graph s h u n w m there).head t hd x)
list-head graph s h n t hd x es (finishes u v c ps f e) =
    let same = heads-same s t u n hd (at_front-heads graph s u n f) in
    inr (ap (λ (xs : List Entry). at is_done xs t) e ∙ subst (λ (w : ℕ). at is_done (with_state w (Done v c ps) (entries s n)) t ≡ true) (sym same) (done-now (entries s n) t v c ps (heads-entry graph s h t n hd)))
list-head graph s h n t hd x es (collects e) = inl (ap first_open e ∙ collected-first_open (λ v. not (live s v)) (entries s n) (h.one_entry n) no_frame ∙ head-first (entries s n) t hd)
  where
    no_frame : (u : ℕ) → at is_frame (entries s n) u ≡ true → not (live s u) ≡ false
    no_frame u f = ap not (true_from_ne_false (live s u) (λ d. both_ways _ (h.ended_is_prefix.no_frame n u d) f))

-- A live call's Done stays.
mark-no_done : (es : List Entry) (t : ℕ) → at is_mark es t ≡ true → at is_done es t ≡ false
mark-no_done [] t h = refl
mark-no_done (e ∷ es) t h = let r = mark-no_done es t in let s = one e.state in grind (arith, h, r, s)
  where
    one : (x : State) → is_mark x ≡ true → is_done x ≡ false
    one Mark h = refl
    one Frame h = refl
    one (Done v c ps) h = absurd (true≢false (sym h))

list-done : (graph : Graph) (s : Core) → IsLawful graph s → (n t : ℕ) → live s t ≡ true → at is_done (entries s n) t ≡ true → (es : List Entry) → ListStep graph s n es → at is_done es t ≡ true
list-done graph s h n t l d es (stays e) = ap (λ (xs : List Entry). at is_done xs t) e ∙ d
list-done graph s h n t l d es (marks u x fresh r e) = ap (λ (xs : List Entry). at is_done xs t) e
    ∙ placed-at_other is_done (stops_call s u) (new_entry s u Mark) (entries s n) t (λ z. both_ways _ fresh (subst (λ (v : ℕ). has (entries s n) v ≡ true) z (at-has is_done (entries s n) t d))) ∙ d
list-done graph s h n t l d es (frames u w fresh r e) = ap (λ (xs : List Entry). at is_done xs t) e
    ∙ placed-at_other is_done (stops_call s u) (new_entry s u Frame) (entries s n) t (λ z. both_ways _ fresh (subst (λ (v : ℕ). has (entries s n) v ≡ true) z (at-has is_done (entries s n) t d))) ∙ d
list-done graph s h n t l d es (raises u w m e) = ap (λ (xs : List Entry). at is_done xs t) e ∙ go (cases_Bool (t == u)) (with_state-at is_done u Frame (entries s n) t)
  where
    go : ((t == u) ≡ true) ⊎ ((t == u) ≡ false) → at is_done (with_state u Frame (entries s n)) t ≡ elim (t == u) as (λ _. Bool) [ true ↦ has (entries s n) u && false | false ↦ at is_done (entries s n) t ] → at is_done (with_state u Frame (entries s n)) t ≡ true
    go (inl x) k = absurd (both_ways _ (mark-no_done (entries s n) u m) (subst (λ (v : ℕ). at is_done (entries s n) v ≡ true) (eqb-true t u x) d))
    go (inr x) k = rw x at k ∙ d
list-done graph s h n t l d es (finishes u v c ps f e) = ap (λ (xs : List Entry). at is_done xs t) e ∙ go (cases_Bool (t == u)) (with_state-at is_done u (Done v c ps) (entries s n) t)
  where
    go : ((t == u) ≡ true) ⊎ ((t == u) ≡ false) → at is_done (with_state u (Done v c ps) (entries s n)) t ≡ elim (t == u) as (λ _. Bool) [ true ↦ has (entries s n) u && true | false ↦ at is_done (entries s n) t ] → at is_done (with_state u (Done v c ps) (entries s n)) t ≡ true
    go (inl x) k = subst (λ (w : ℕ). at is_done (with_state u (Done v c ps) (entries s n)) w ≡ true) (sym (eqb-true t u x)) (done-now (entries s n) u v c ps (heads-entry graph s h u n (at_front-heads graph s u n f)))
    go (inr x) k = rw x at k ∙ d
list-done graph s h n t l d es (collects e) = ap (λ (xs : List Entry). at is_done xs t) e ∙ collected-at_live is_done (λ v. not (live s v)) (entries s n) t (ap not l) ∙ d

-- ---- the work at a node

-- What is kept of the work at a node, and is forgotten only with all of it: a value that is gathered, what is found, or the
-- body's value.
pub record IsKeptWork (graph : Graph) (kept : Cell → Bool) : Type 0 where
  pub lists : (c : Cell) (es : List Entry) → kept (record c { entries = es }) ≡ kept c
  pub edges : (c : Cell) (os : List OutEdge) → kept (record c { outs = os }) ≡ kept c
  pub gathers : (c : Cell) (m : ℕ) (v : Value) → kept c ≡ true → kept (gather m v c) ≡ true
  pub finds : (c : Cell) (f : Found) → kept c ≡ true → kept (keep_found f c) ≡ true
  pub bodies : (c : Cell) (v : Value) → kept c ≡ true → kept (keep_body v c) ≡ true
  pub works : (s : Core) → IsLawful graph s → (n : ℕ) → kept (cell s n) ≡ true → SomeHead s n (IsWorking graph s n)

cell-kept : (kept : Cell → Bool) (s : Core) (m : ℕ) (f : Cell → Cell) → ((c : Cell) → kept c ≡ true → kept (f c) ≡ true) → (n : ℕ) → kept (cell s n) ≡ true → kept (cell (with_cell s m f) n) ≡ true
cell-kept kept s m f k n h = go (with_cell-cell s m f n)
  where
    go : (cell (with_cell s m f) n ≡ cell s n) ⊎ ((n ≡ m) × (cell (with_cell s m f) n ≡ f (cell s n))) → kept (cell (with_cell s m f) n) ≡ true
    go (inl e) = ap kept e ∙ h
    go (inr e) = ap kept e.1 ∙ k (cell s n) h

ensured-kept : (graph : Graph) (kept : Cell → Bool) → IsKeptWork graph kept → (s : Core) (t c n : ℕ) → kept (cell s n) ≡ true → kept (cell (ensure_mark s t c) n) ≡ true
ensured-kept graph kept w s t c n k = go (has (entries s c) t)
  where
    go : (b : Bool) → kept (cell (elim b as (λ _. Core) [ true ↦ s | false ↦ enter s t c Mark ]) n) ≡ true
    go true = k
    go false = cell-kept kept s c (place_entry s t Mark) (λ d j. w.lists d _ ∙ j) n k

-- The first open call has got its Done.
pub record IsResolved (s q : Core) (n : ℕ) : Type 0 where
  pub call : ℕ
  pub first : heads s call n ≡ true
  pub done : at is_done (entries q n) call ≡ true

-- A step keeps the work at a node, or the first open call finishes there.
pub step-kept : (graph : Graph) (kept : Cell → Bool) → IsKeptWork graph kept → (s : Core) → IsLawful graph s → (step : Step) → allowed graph s step ≡ true → (n : ℕ) → kept (cell s n) ≡ true → (kept (cell (apply graph s step) n) ≡ true) ⊎ IsResolved s (apply graph s step) n
step-kept graph kept w s h (steps.Frame t m) a n k = inl (go (at is_mark (entries s m) t))
  where
    go : (b : Bool) → kept (cell (elim b as (λ _. Core) [ true ↦ open_node graph (raise s t m) t m | false ↦ open_node graph (enter s t m Frame) t m ]) n) ≡ true
    go true = cell-kept kept s m (set_state t Frame) (λ c j. w.lists c _ ∙ j) n k
    go false = cell-kept kept s m (place_entry s t Frame) (λ c j. w.lists c _ ∙ j) n k
step-kept graph kept w s h (steps.Start t) a n k = inl k
step-kept graph kept w s h (steps.Skip t m) a n k = inl (cell-kept kept s m (set_state t (Done (value_before (entries s m) t) false (picks_before (entries s m) t))) (λ c j. w.lists c _ ∙ j) n k)
step-kept graph kept w s h (steps.Gather t m i) a n k = inl (cell-kept kept s m (gather i (value_at (entries s i) t)) (λ c j. w.gathers c i (value_at (entries s i) t) j) n k)
step-kept graph kept w s h (steps.Evaluate t m) a n k = inl (cell-kept kept s m (keep_found (found_now graph s t m)) (λ c j. w.finds c (found_now graph s t m) j) n k)
step-kept graph kept w s h (steps.Body t m) a n k = inl (cell-kept kept s m (keep_body (body_now graph s m)) (λ c j. w.bodies c (body_now graph s m) j) n k)
step-kept graph kept w s h (steps.Resolve t m) a n k = cases (cases_Bool (n == m))
  where
    x : State
    x = Done (value_now graph s t m) (is_change graph s t m) (found_picks s m)

    fin : Core
    fin = finish s t m (value_now graph s t m) (is_change graph s t m) (found_picks s m)

    hd : heads s t m ≡ true
    hd = at_front-heads graph s t m (can_work-at_front graph s t m (resolve-can_work graph s t m a))

    done : at is_done (entries (apply graph s (steps.Resolve t m)) m) t ≡ true
    done = ap (λ (es : List Entry). at is_done es t) (same_cell graph fin m cleared (λ c. refl) m) ∙ ap (λ (c : Cell). at is_done c.entries t) (cell-there s m (set_state t x) (entry-there s m t (heads-entry graph s h t m hd)))
        ∙ done-now (entries s m) t (value_now graph s t m) (is_change graph s t m) (found_picks s m) (heads-entry graph s h t m hd)

    cases : ((n == m) ≡ true) ⊎ ((n == m) ≡ false) → (kept (cell (apply graph s (steps.Resolve t m)) n) ≡ true) ⊎ IsResolved s (apply graph s (steps.Resolve t m)) n
    cases (inl e) = inr (subst (IsResolved s (apply graph s (steps.Resolve t m))) (sym (eqb-true n m e)) (record { call = t; first = hd; done = done }))
    cases (inr e) = inl (ap kept (cell-other fin m n cleared e) ∙ ap kept (cell-other s m n (set_state t x) e) ∙ k)
step-kept graph kept w s h (steps.Discover t m c) a n k = inl (cell-kept kept (ensure_mark s t c) c (add_edge m t) (λ d j. w.edges d _ ∙ j) n (ensured-kept graph kept w s t c n k))
step-kept graph kept w s h (steps.Drop t m o) a n k = inl (cell-kept kept (ensure_mark s t o) o (drop_edge m) (λ d j. w.edges d _ ∙ j) n (ensured-kept graph kept w s t o n k))
step-kept graph kept w s h (steps.Mark t m) a n k = inl (cell-kept kept s m (place_entry s t Mark) (λ c j. w.lists c _ ∙ j) n k)
step-kept graph kept w s h (steps.Look t) a n k = inl k
step-kept graph kept w s h (steps.End t) a n k = inl k
step-kept graph kept w s h (steps.Collect m) a n k = inl (cell-kept kept s m (collect s) (λ c j. w.lists c _ ∙ j) n k)

-- ---- a call that has done the work

-- It has its Done, or is the first open call where the work is kept, or has ended.
pub data HasWorked (kept : Cell → Bool) (s : Core) (t n : ℕ) : Type 0 where
  by_done : live s t ≡ true → at is_done (entries s n) t ≡ true → HasWorked kept s t n
  by_work : heads s t n ≡ true → kept (cell s n) ≡ true → HasWorked kept s t n
  by_end : live s t ≡ false → t ≤ s.begun → HasWorked kept s t n

pub step-worked : (graph : Graph) (kept : Cell → Bool) → IsKeptWork graph kept → (s : Core) → IsLawful graph s → (step : Step) → allowed graph s step ≡ true → (t n : ℕ) → HasWorked kept s t n → HasWorked kept (apply graph s step) t n
step-worked graph kept w s h step a t n k = go (cases_Bool (live q t)) k
  where
    q : Core
    q = apply graph s step

    ended : live q t ≡ false → t ≤ s.begun → HasWorked kept q t n
    ended d b = by_end d (subst (λ (x : ℕ). t ≤ x) (sym (step-begun graph s step)) b)

    old : live s t ≡ true → t ≤ s.begun
    old l = (h.versions_are_fresh.fit t (live-version s t l)).1

    done : live q t ≡ true → live s t ≡ true → at is_done (entries s n) t ≡ true → HasWorked kept q t n
    done lq l d = by_done lq (list-done graph s h n t l d (entries q n) (step-list graph s step h a n))

    work : live q t ≡ true → heads s t n ≡ true → kept (cell s n) ≡ true → HasWorked kept q t n
    work lq hd x = cases (list-head graph s h n t hd runs (entries q n) (step-list graph s step h a n)) (step-kept graph kept w s h step a n x)
      where
        runs : executes s t ≡ true
        runs = let f = w.works s h n x in subst (λ (v : ℕ). executes s v ≡ true) (heads-same s t f.head n hd f.first) f.holds.executing

        cases : (first_open (entries q n) ≡ Some t) ⊎ (at is_done (entries q n) t ≡ true) → (kept (cell q n) ≡ true) ⊎ IsResolved s q n → HasWorked kept q t n
        cases (inr d) y = by_done lq d
        cases (inl f) (inl y) = by_work (ap (λ (o : Option ℕ). is_some_of o t) f ∙ eq-eqb t t refl) y
        cases (inl f) (inr r) = by_done lq (subst (λ (v : ℕ). at is_done (entries q n) v ≡ true) (heads-same s t r.call n hd r.first) r.done)

    go : (live q t ≡ true) ⊎ (live q t ≡ false) → HasWorked kept s t n → HasWorked kept q t n
    go lq (by_end l b) = ended (phase-ended s q (step-phases graph s step a) t l) b
    go (inl lq) (by_done l d) = done lq l d
    go (inr lq) (by_done l d) = ended lq (old l)
    go (inl lq) (by_work hd x) = work lq hd x
    go (inr lq) (by_work hd x) = ended lq (old (opens-live s t n (heads-opens graph s h t n hd)))

pub begin-worked : (graph : Graph) (kept : Cell → Bool) (s : Core) → IsLawful graph s → (caller : ℕ) (c : Call) (t n : ℕ) → HasWorked kept s t n → HasWorked kept (begin graph s caller c) t n
begin-worked graph kept s h caller c t n k = go (begin-call graph s h caller c t) k
  where
    q : Core
    q = begin graph s caller c

    Began : Type 0
    Began = ((call_of q.calls t ≡ call_of s.calls t) × ((suc s.begun == t) ≡ false)) ⊎ ((t ≡ suc s.begun) × (call_of q.calls t ≡ Some (new_call graph s caller c)))

    more : (a b c : ℕ) → a ≤ b → c ≡ suc b → a ≤ c
    more a b c x y = omega (arith, x, y)

    go : Began → HasWorked kept s t n → HasWorked kept q t n
    go e (by_work hd x) = by_work hd x
    go (inl e) (by_done l d) = by_done (ap is_some e.0 ∙ l) d
    go (inr e) (by_done l d) = absurd (both_ways _ (not_begun-live s h.versions_are_fresh) (subst (λ (v : ℕ). live s v ≡ true) e.0 l))
    go (inl e) (by_end l b) = by_end (ap is_some e.0 ∙ l) (more t s.begun (suc s.begun) b refl)
    go (inr e) (by_end l b) = absurd (let x = e.0 in omega (arith, x, b))

-- Such a call is not the first open one without its work.
pub worked-kept : (graph : Graph) (kept : Cell → Bool) (s : Core) → IsLawful graph s → (t n : ℕ) → HasWorked kept s t n → at_front graph s t n ≡ true → kept (cell s n) ≡ true
worked-kept graph kept s h t n (by_work hd x) f = x
worked-kept graph kept s h t n (by_end l b) f = absurd (both_ways _ l (executes-live s t (at_front-executes graph s t n f)))
worked-kept graph kept s h t n (by_done l d) f = absurd (both_ways _ (not_both (entries s n) t (opens-frame graph s h t n (heads-opens graph s h t n (at_front-heads graph s t n f)))) d)

-- ---- evaluations and bodies

pub found-work : (graph : Graph) → IsKeptWork graph (λ c. is_some c.found)
found-work graph = record { lists = λ c es. refl; edges = λ c os. refl; gathers = λ c m v k. k; finds = λ c f k. refl; bodies = λ c v k. k; works = λ s h n k. h.work_is_kept.finds n k }

pub body-work : (graph : Graph) → IsKeptWork graph (λ c. is_some c.body)
body-work graph = record { lists = λ c es. refl; edges = λ c os. refl; gathers = λ c m v k. k; finds = λ c f k. k; bodies = λ c v k. refl; works = λ s h n k. h.work_is_kept.finds n (h.work_is_kept.bodies n (some (cell s n).body k)).0 }
  where
    some : (o : Option Value) → is_some o ≡ true → is_none o ≡ false
    some None k = absurd (true≢false (sym k))
    some (Some v) k = refl

pub evaluated-worked : (graph : Graph) (s : Core) → IsLawful graph s → (t n : ℕ) → allowed graph s (steps.Evaluate t n) ≡ true → HasWorked (λ c. is_some c.found) (apply graph s (steps.Evaluate t n)) t n
evaluated-worked graph s h t n a =
    let hd = at_front-heads graph s t n (evaluate-at_front graph s t n a) in
    let f = keep_found (found_now graph s t n) in
    by_work (ap (λ (es : List Entry). is_some_of (first_open es) t) (same_cell graph s n f (λ c. refl) n) ∙ hd) (ap (λ (c : Cell). is_some c.found) (cell-there s n f (entry-there s n t (heads-entry graph s h t n hd))))

pub body-worked : (graph : Graph) (s : Core) → IsLawful graph s → (t n : ℕ) → allowed graph s (steps.Body t n) ≡ true → HasWorked (λ c. is_some c.body) (apply graph s (steps.Body t n)) t n
body-worked graph s h t n a =
    let hd = at_front-heads graph s t n (body-at_front graph s t n a) in
    let f = keep_body (body_now graph s n) in
    by_work (ap (λ (es : List Entry). is_some_of (first_open es) t) (same_cell graph s n f (λ c. refl) n) ∙ hd) (ap (λ (c : Cell). is_some c.body) (cell-there s n f (entry-there s n t (heads-entry graph s h t n hd))))
