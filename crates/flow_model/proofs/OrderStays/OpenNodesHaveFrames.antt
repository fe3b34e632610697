-- The open nodes of a call are those with its Frame, after each step.
use Rattle.std.proofs.Common.{◌≡◌, ℕ, zero, suc, Bool, true, false, ◌&&◌, ◌||◌, not, ◌==◌, ◌⊎◌, inl, inr, refl, sym, ap, arith, List, [], ◌∷◌, true≢false, ◌∙◌, subst, Option, Some, None, length, ◌<◌, slice_index_or}
use Rattle.std.proofs.lemmas.Bool.{eqb-true, eq-eqb, eqb-false, false_from_ne_true, both_ways, cases_Bool}
use Rattle.std.specs.Prelude.{is_some}
use Rattle.signal_graph.specs.declared.call.Call.{Call}
use Rattle.signal_graph.specs.Graph.{Graph, is_in}
use Rattle.script_tree.specs.declared.value.Value.{Value}
use Rattle.node_versions.specs.declared.entry.State.{State}
use Rattle.node_versions.specs.declared.entry.State.TheVariants.{Mark, Frame, Done}
use Rattle.node_versions.specs.declared.entry.Entry.{Entry}
use Rattle.node_versions.specs.Entries.{has, at, is_mark, is_frame, collected}
use Rattle.node_versions.proofs.Places.{at-has}
use Rattle.flow_model.specs.declared.step.Step.{Step}
use Rattle.flow_model.specs.declared.step.Step.TheVariants as steps
use Rattle.flow_model.specs.Machine.Lists.{change_at}
use Rattle.flow_model.specs.Machine.State.{Core, LiveCall, Cell, call, call_of, call_or, cell, no_cell, live, ended, entries, opens, wants, with_cell, with_call}
use Rattle.flow_model.specs.Machine.Words.{is_idle, at_front, found_now, value_now, found_picks}
use Rattle.flow_model.specs.Machine.Changes.{stops_call, new_entry, place_entry, set_state, enter, raise, ensure_mark, opened, closed, finish, tell_call, add_edge, drop_edge, cleared}
use Rattle.flow_model.specs.Machine.Steps.{allowed, apply, begin, new_call, open_node, frame, started, counted, keep_found, is_change, collect}
use Rattle.flow_model.specs.Kept.Lawful.{IsLawful, FramesAreOpen}
use Rattle.flow_model.proofs.OneStep.WhoMayStep.{executes-live, wants-live, frame-wants, skip-can_work, resolve-can_work, can_work-at_front, at_front-executes, at_front-heads, mark-no_entry, end-idle}
use Rattle.flow_model.proofs.General.Sets.{in-put, in-take_out}
use Rattle.flow_model.proofs.OneList.StatesAndPlaces.{with_state-at, first_open-frame}
use Rattle.flow_model.proofs.OneList.OneEntryACall.{placed-at_other, placed-at, collected-at, collected-at_live}
use Rattle.flow_model.proofs.OneList.CallsAndCells.{with_call-field, with_call-keeps, map_call-keeps, call_of-append, last_call-other, last_call-it, without_call-other, without_call-same}
use Rattle.flow_model.proofs.OneList.Entering.{with_cell-cell}
use Rattle.flow_model.proofs.OrderStays.NoFrameBeforeDones.{list-last, head-first}
use Rattle.flow_model.proofs.OneStep.ChangesOfOneList.{step-list}
use Rattle.flow_model.proofs.OrderStays.AfterEachStep.{wanted-fresh, not_begun-entry}
use Rattle.flow_model.proofs.OneStep.VersionsStayFresh.{not_begun-live}
use Rattle.flow_model.proofs.OrderStays.EntriesAndRoom.{idle-no_frame}

-- ---- cells that are there

pub cell-there : (s : Core) (n : ℕ) (f : Cell → Cell) → n < length s.cells → cell (with_cell s n f) n ≡ f (cell s n)
cell-there s n f h = go n s.cells h
  where
    go : (n : ℕ) (cs : List Cell) → n < length cs → slice_index_or (change_at n f cs) n no_cell ≡ f (slice_index_or cs n no_cell)
    go n [] h = absurd (omega arith)
    go zero (c ∷ cs) h = refl
    go (suc n) (c ∷ cs) h = go n cs (omega arith)

pub cell-other : (s : Core) (n m : ℕ) (f : Cell → Cell) → (m == n) ≡ false → cell (with_cell s n f) m ≡ cell s m
cell-other s n m f h = go (with_cell-cell s n f m)
  where
    go : (cell (with_cell s n f) m ≡ cell s m) ⊎ ((m ≡ n) × (cell (with_cell s n f) m ≡ f (cell s m))) → cell (with_cell s n f) m ≡ cell s m
    go (inl e) = e
    go (inr e) = absurd (eqb-false m n h e.0)

pub entry-there : (s : Core) (n u : ℕ) → has (entries s n) u ≡ true → n < length s.cells
entry-there s n u h = go n s.cells h
  where
    go : (n : ℕ) (cs : List Cell) → has (slice_index_or cs n no_cell).entries u ≡ true → n < length cs
    go n [] h = absurd (true≢false (sym h))
    go zero (c ∷ cs) h = omega arith
    go (suc n) (c ∷ cs) h = let r = go n cs h in omega (arith, r)

-- ---- the Frames after one cell's list changes

-- one node's Frame of one call comes or goes, and no other
abbrev pub comes_at : Bool → ℕ → ℕ → ℕ → ℕ → Bool
comes_at old t n u m = old || ((u == t) && (m == n))

abbrev pub goes_at : Bool → ℕ → ℕ → ℕ → ℕ → Bool
goes_at old t n u m = old && not ((u == t) && (m == n))

placed-frames : (s : Core) (t n u m : ℕ) → n < length s.cells → has (entries s n) t ≡ false → at is_frame (entries (enter s t n Frame) m) u ≡ comes_at (at is_frame (entries s m) u) t n u m
placed-frames s t n u m l fresh = go (cases_Bool (m == n)) (cases_Bool (u == t))
  where
    go : ((m == n) ≡ true) ⊎ ((m == n) ≡ false) → ((u == t) ≡ true) ⊎ ((u == t) ≡ false) → at is_frame (entries (enter s t n Frame) m) u ≡ comes_at (at is_frame (entries s m) u) t n u m
    go (inr e) w = let q = ap (λ (c : Cell). at is_frame c.entries u) (cell-other s n m (place_entry s t Frame) e) in grind (arith, q, e)
    go (inl e) (inr w) =
        let q = ap (λ (c : Cell). at is_frame c.entries u) (cell-there s n (place_entry s t Frame) l) ∙ placed-at_other is_frame (stops_call s t) (new_entry s t Frame) (entries s n) u (λ k. both_ways _ w (eq-eqb u t k)) in
        let p = subst (λ (k : ℕ). at is_frame (entries (enter s t n Frame) k) u ≡ at is_frame (entries s k) u) (sym (eqb-true m n e)) q in
        grind (arith, p, w)
    go (inl e) (inl w) =
        let q = ap (λ (c : Cell). at is_frame c.entries t) (cell-there s n (place_entry s t Frame) l) ∙ placed-at is_frame (stops_call s t) (new_entry s t Frame) (entries s n) fresh in
        let p = subst (λ (k : ℕ). at is_frame (entries (enter s t n Frame) k) t ≡ true) (sym (eqb-true m n e)) q in
        let r = subst (λ (k : ℕ). at is_frame (entries (enter s t n Frame) m) k ≡ true) (sym (eqb-true u t w)) p in
        grind (arith, r, e, w)

marked-frames : (s : Core) (t n u m : ℕ) → has (entries s n) t ≡ false → at is_frame (entries (enter s t n Mark) m) u ≡ at is_frame (entries s m) u
marked-frames s t n u m fresh = go (with_cell-cell s n (place_entry s t Mark) m) (cases_Bool (u == t))
  where
    none : at is_frame (entries s n) t ≡ false
    none = false_from_ne_true _ (λ k. both_ways _ fresh (at-has is_frame (entries s n) t k))

    go : (cell (enter s t n Mark) m ≡ cell s m) ⊎ ((m ≡ n) × (cell (enter s t n Mark) m ≡ place_entry s t Mark (cell s m))) → ((u == t) ≡ true) ⊎ ((u == t) ≡ false) → at is_frame (entries (enter s t n Mark) m) u ≡ at is_frame (entries s m) u
    go (inl e) w = ap (λ (c : Cell). at is_frame c.entries u) e
    go (inr e) (inr w) = ap (λ (c : Cell). at is_frame c.entries u) e.1 ∙ placed-at_other is_frame (stops_call s t) (new_entry s t Mark) (entries s m) u (λ k. both_ways _ w (eq-eqb u t k))
    go (inr e) (inl w) =
        let f = subst (λ (k : ℕ). has (entries s k) t ≡ false) (sym e.0) fresh in
        let g = subst (λ (k : ℕ). at is_frame (entries s k) t ≡ false) (sym e.0) none in
        subst (λ (k : ℕ). at is_frame (entries (enter s t n Mark) m) k ≡ at is_frame (entries s m) k) (sym (eqb-true u t w))
        (ap (λ (c : Cell). at is_frame c.entries t) e.1 ∙ placed-at is_frame (stops_call s t) (new_entry s t Mark) (entries s m) f ∙ sym g)

-- another state of an entry that is there
stated-frames : (s : Core) (t n u m : ℕ) (x : State) → has (entries s n) t ≡ true → at is_frame (entries (with_cell s n (set_state t x)) m) u ≡ elim ((u == t) && (m == n)) as (λ _. Bool) [ true ↦ is_frame x | false ↦ at is_frame (entries s m) u ]
stated-frames s t n u m x h = go (cases_Bool (m == n))
  where
    go : ((m == n) ≡ true) ⊎ ((m == n) ≡ false) → at is_frame (entries (with_cell s n (set_state t x)) m) u ≡ elim ((u == t) && (m == n)) as (λ _. Bool) [ true ↦ is_frame x | false ↦ at is_frame (entries s m) u ]
    go (inr e) = let q = ap (λ (c : Cell). at is_frame c.entries u) (cell-other s n m (set_state t x) e) in grind (arith, q, e)
    go (inl e) =
        let l = entry-there s n t h in
        let q = ap (λ (c : Cell). at is_frame c.entries u) (cell-there s n (set_state t x) l) ∙ with_state-at is_frame t x (entries s n) u in
        let q2 = subst (λ (k : ℕ). at is_frame (entries (with_cell s n (set_state t x)) k) u ≡ elim (u == t) as (λ _. Bool) [ true ↦ has (entries s k) t && is_frame x | false ↦ at is_frame (entries s k) u ]) (sym (eqb-true m n e)) q in
        let hm = subst (λ (k : ℕ). has (entries s k) t ≡ true) (sym (eqb-true m n e)) h in
        grind (arith, q2, hm, e)

-- ---- the open nodes after one call changes

pub opened-opens : (q : Core) (t n : ℕ) (outs : List ℕ) (u m : ℕ) → live q t ≡ true → opens (with_call q t (opened n outs)) u m ≡ comes_at (opens q u m) t n u m
opened-opens q t n outs u m lt =
    let r = with_call-field (λ c. is_in m c.open_nodes) q t (opened n outs) (λ c. refl) u lt in
    let p = in-put m n (call q t).open_nodes in
    let e = λ (x : (u == t) ≡ true). ap (λ (w : ℕ). opens q w m) (eqb-true u t x) in
    grind (arith, r, p, e)

pub closed-opens : (q : Core) (t n : ℕ) (b : Bool) (u m : ℕ) → live q t ≡ true → opens (with_call q t (closed n b)) u m ≡ goes_at (opens q u m) t n u m
closed-opens q t n b u m lt =
    let r = with_call-field (λ c. is_in m c.open_nodes) q t (closed n b) (λ c. refl) u lt in
    let p = in-take_out m n (call q t).open_nodes in
    let e = λ (x : (u == t) ≡ true). ap (λ (w : ℕ). opens q w m) (eqb-true u t x) in
    grind (arith, r, p, e)

-- ---- the steps

-- what is said of the state after a step
abbrev pub Opens : Core → Type 0
Opens q = (u m : ℕ) → opens q u m ≡ at is_frame (entries q m) u

-- the same Frames and the same open nodes
opens-kept : (s q : Core) → Opens s → ((u m : ℕ) → opens q u m ≡ opens s u m) → ((u m : ℕ) → at is_frame (entries q m) u ≡ at is_frame (entries s m) u) → Opens q
opens-kept s q h f g u m = f u m ∙ h u m ∙ sym (g u m)

same_lists : (s : Core) (n : ℕ) (f : Cell → Cell) → ((c : Cell) → (f c).entries ≡ c.entries) → (u m : ℕ) → at is_frame (entries (with_cell s n f) m) u ≡ at is_frame (entries s m) u
same_lists s n f k u m = go (with_cell-cell s n f m)
  where
    go : (cell (with_cell s n f) m ≡ cell s m) ⊎ ((m ≡ n) × (cell (with_cell s n f) m ≡ f (cell s m))) → at is_frame (entries (with_cell s n f) m) u ≡ at is_frame (entries s m) u
    go (inl e) = ap (λ (c : Cell). at is_frame c.entries u) e
    go (inr e) = ap (λ (c : Cell). at is_frame c.entries u) e.1 ∙ ap (λ (es : List Entry). at is_frame es u) (k (cell s m))

pub same_opens : (s : Core) (t : ℕ) (f : LiveCall → LiveCall) → ((c : LiveCall) → (f c).version ≡ c.version) → ((c : LiveCall) → (f c).open_nodes ≡ c.open_nodes) → (u m : ℕ) → opens (with_call s t f) u m ≡ opens s u m
same_opens s t f v k u m = with_call-keeps (λ c. is_in m c.open_nodes) s t f v (λ c. ap (is_in m) (k c)) u

ensured-opens : (s : Core) (t n : ℕ) → Opens s → Opens (ensure_mark s t n)
ensured-opens s t n h = go (has (entries s n) t) refl
  where
    go : (b : Bool) → has (entries s n) t ≡ b → Opens (elim b [ true ↦ s | false ↦ enter s t n Mark ])
    go true e = h
    go false e = opens-kept s (enter s t n Mark) h (λ u m. refl) (λ u m. marked-frames s t n u m e)

pub finished-opens : (graph : Graph) (s : Core) → IsLawful graph s → (t n : ℕ) (v : Value) (c : Bool) (ps : List (Option ℕ)) → at_front graph s t n ≡ true → Opens (finish s t n v c ps)
finished-opens graph s h t n v c ps f u m =
    let lt = executes-live s t (at_front-executes graph s t n f) in
    let fr = first_open-frame (entries s n) t (h.one_entry n) (head-first (entries s n) t (at_front-heads graph s t n f)) in
    let o = closed-opens (with_cell s n (set_state t (Done v c ps))) t n c u m lt in
    let g = stated-frames s t n u m (Done v c ps) (at-has is_frame (entries s n) t fr) in
    let k = h.frames_are_open.opens_frames u m in
    both (opens s u m) (at is_frame (entries s m) u) ((u == t) && (m == n)) _ _ k o g
  where
    both : (a b x p q : Bool) → a ≡ b → p ≡ (a && not x) → q ≡ elim x as (λ _. Bool) [ true ↦ false | false ↦ b ] → p ≡ q
    both a b true p q k o g = grind (arith, k, o, g)
    both a b false p q k o g = grind (arith, k, o, g)

comes-same : (a b x p q : Bool) → a ≡ b → p ≡ (a || x) → q ≡ (b || x) → p ≡ q
comes-same a b x p q k o g = o ∙ ap (λ (y : Bool). y || x) k ∙ sym g

framed-opens : (graph : Graph) (s : Core) → IsLawful graph s → (t n : ℕ) → allowed graph s (steps.Frame t n) ≡ true → Opens (frame graph s t n)
framed-opens graph s h t n a = go (at is_mark (entries s n) t) refl
  where
    wanted : wants s t n ≡ true
    wanted = frame-wants graph s t n a

    lt : live s t ≡ true
    lt = wants-live s t n wanted

    there : n < length s.cells
    there = let e = h.lists in let f = (h.wants_are_free t n wanted).node in omega (arith, e, f)

    raised : (a b x : Bool) → elim x as (λ _. Bool) [ true ↦ true | false ↦ b ] ≡ (b || x)
    raised a true true = refl
    raised a true false = refl
    raised a false true = refl
    raised a false false = refl

    go : (b : Bool) → at is_mark (entries s n) t ≡ b → Opens (elim b [ true ↦ open_node graph (raise s t n) t n | false ↦ open_node graph (enter s t n Frame) t n ])
    go true e u m = comes-same (opens s u m) (at is_frame (entries s m) u) ((u == t) && (m == n)) _ _ (h.frames_are_open.opens_frames u m)
        (opened-opens (raise s t n) t n _ u m lt) (stated-frames s t n u m Frame (at-has is_mark (entries s n) t e) ∙ raised true (at is_frame (entries s m) u) ((u == t) && (m == n)))
    go false e u m = comes-same (opens s u m) (at is_frame (entries s m) u) ((u == t) && (m == n)) _ _ (h.frames_are_open.opens_frames u m)
        (opened-opens (enter s t n Frame) t n _ u m lt) (placed-frames s t n u m there (wanted-fresh graph s h t n wanted e))

collected-frames : (graph : Graph) (s : Core) → IsLawful graph s → (n u m : ℕ) → at is_frame (entries (with_cell s n (collect s)) m) u ≡ at is_frame (entries s m) u
collected-frames graph s h n u m = go (with_cell-cell s n (collect s) m)
  where
    shown : at is_frame (collected (ended s) (entries s m)) u ≡ at is_frame (entries s m) u
    shown = cases (cases_Bool (live s u))
      where
        cases : (live s u ≡ true) ⊎ (live s u ≡ false) → at is_frame (collected (ended s) (entries s m)) u ≡ at is_frame (entries s m) u
        cases (inl l) = collected-at_live is_frame (λ v. not (live s v)) (entries s m) u (rw l refl)
        cases (inr l) = let z = h.ended_is_prefix.no_frame m u l in false_from_ne_true _ (λ k. both_ways _ z (collected-at is_frame (λ v. not (live s v)) (entries s m) u (h.one_entry m) k)) ∙ sym z

    go : (cell (with_cell s n (collect s)) m ≡ cell s m) ⊎ ((m ≡ n) × (cell (with_cell s n (collect s)) m ≡ collect s (cell s m))) → at is_frame (entries (with_cell s n (collect s)) m) u ≡ at is_frame (entries s m) u
    go (inl e) = ap (λ (c : Cell). at is_frame c.entries u) e
    go (inr e) = ap (λ (c : Cell). at is_frame c.entries u) e.1 ∙ shown

ended-opens : (graph : Graph) (s : Core) → IsLawful graph s → (t : ℕ) → is_idle s t ≡ true → Opens (apply graph s (steps.End t))
ended-opens graph s h t i u m = go (cases_Bool (u == t))
  where
    go : ((u == t) ≡ true) ⊎ ((u == t) ≡ false) → opens (apply graph s (steps.End t)) u m ≡ at is_frame (entries s m) u
    go (inl e) = subst (λ (v : ℕ). opens (apply graph s (steps.End t)) v m ≡ at is_frame (entries s m) v) (sym (eqb-true u t e))
        (ap (λ (o : Option LiveCall). is_in m (call_or o).open_nodes) (without_call-same t s.calls) ∙ sym (idle-no_frame graph s h t m i))
    go (inr e) = ap (λ (o : Option LiveCall). is_in m (call_or o).open_nodes) (without_call-other t u s.calls (λ k. both_ways _ e (eq-eqb u t k))) ∙ h.frames_are_open.opens_frames u m

step-opens : (graph : Graph) (s : Core) (step : Step) → IsLawful graph s → allowed graph s step ≡ true → Opens (apply graph s step)
step-opens graph s (steps.Frame t n) h a = framed-opens graph s h t n a
step-opens graph s (steps.Start t) h a = opens-kept s (apply graph s (steps.Start t)) h.frames_are_open.opens_frames (same_opens s t started (λ c. refl) (λ c. refl)) (λ u m. refl)
step-opens graph s (steps.Skip t n) h a = finished-opens graph s h t n _ _ _ (can_work-at_front graph s t n (skip-can_work graph s t n a))
step-opens graph s (steps.Gather t n i) h a = opens-kept s (apply graph s (steps.Gather t n i)) h.frames_are_open.opens_frames (λ u m. refl) (same_lists s n _ (λ c. refl))
step-opens graph s (steps.Evaluate t n) h a = opens-kept s (apply graph s (steps.Evaluate t n)) h.frames_are_open.opens_frames (same_opens (with_cell s n (keep_found (found_now graph s t n))) t counted (λ c. refl) (λ c. refl)) (same_lists s n _ (λ c. refl))
step-opens graph s (steps.Body t n) h a = opens-kept s (apply graph s (steps.Body t n)) h.frames_are_open.opens_frames (λ u m. refl) (same_lists s n _ (λ c. refl))
step-opens graph s (steps.Resolve t n) h a =
    let q = finish s t n (value_now graph s t n) (is_change graph s t n) (found_picks s n) in
    opens-kept q (apply graph s (steps.Resolve t n)) (finished-opens graph s h t n _ _ _ (can_work-at_front graph s t n (resolve-can_work graph s t n a))) (λ u m. refl) (same_lists q n cleared (λ c. refl))
step-opens graph s (steps.Discover t n c) h a =
    let q = ensure_mark s t c in
    let e = with_cell q c (add_edge n t) in
    opens-kept q (apply graph s (steps.Discover t n c)) (ensured-opens s t c h.frames_are_open.opens_frames)
    (λ u m. map_call-keeps (λ x. is_in m x.open_nodes) e (tell_call (entries e c) t n) (λ x. refl) (λ x. refl) u) (same_lists q c (add_edge n t) (λ x. refl))
step-opens graph s (steps.Drop t n o) h a = opens-kept (ensure_mark s t o) (apply graph s (steps.Drop t n o)) (ensured-opens s t o h.frames_are_open.opens_frames) (λ u m. refl) (same_lists (ensure_mark s t o) o (drop_edge n) (λ x. refl))
step-opens graph s (steps.Mark t n) h a = opens-kept s (enter s t n Mark) h.frames_are_open.opens_frames (λ u m. refl) (λ u m. marked-frames s t n u m (mark-no_entry graph s t n a))
step-opens graph s (steps.Look t) h a = opens-kept s (apply graph s (steps.Look t)) h.frames_are_open.opens_frames (same_opens s t _ (λ c. refl) (λ c. refl)) (λ u m. refl)
step-opens graph s (steps.End t) h a = ended-opens graph s h t (end-idle graph s t a)
step-opens graph s (steps.Collect n) h a = opens-kept s (apply graph s (steps.Collect n)) h.frames_are_open.opens_frames (λ u m. refl) (λ u m. collected-frames graph s h n u m)

pub step-FramesAreOpen : (graph : Graph) (s : Core) (step : Step) → IsLawful graph s → allowed graph s step ≡ true → FramesAreOpen (apply graph s step)
step-FramesAreOpen graph s step h a = record {
  behind_dones = λ n. (list-last graph s h n (entries (apply graph s step) n) (step-list graph s step h a n)).last;
  opens_frames = step-opens graph s step h a;
}

pub begin-FramesAreOpen : (graph : Graph) (s : Core) (caller : ℕ) (c : Call) → IsLawful graph s → FramesAreOpen (begin graph s caller c)
begin-FramesAreOpen graph s caller c h = record { behind_dones = h.frames_are_open.behind_dones; opens_frames = λ u m. go u m (cases_Bool (suc s.begun == u)) }
  where
    go : (u m : ℕ) → ((suc s.begun == u) ≡ true) ⊎ ((suc s.begun == u) ≡ false) → opens (begin graph s caller c) u m ≡ at is_frame (entries s m) u
    go u m (inr k) = ap (λ (o : Option LiveCall). is_in m (call_or o).open_nodes) (call_of-append s.calls (new_call graph s caller c) u ∙ last_call-other (call_of s.calls u) (new_call graph s caller c) u k) ∙ h.frames_are_open.opens_frames u m
    go u m (inl k) = subst (λ (v : ℕ). opens (begin graph s caller c) v m ≡ at is_frame (entries s m) v) (eqb-true (suc s.begun) u k)
        (ap (λ (o : Option LiveCall). is_in m (call_or o).open_nodes) (call_of-append s.calls (new_call graph s caller c) (suc s.begun) ∙ last_call-it (call_of s.calls (suc s.begun)) (new_call graph s caller c) (gone (call_of s.calls (suc s.begun)) refl))
        ∙ sym (false_from_ne_true _ (λ y. both_ways _ (not_begun-entry graph s h m) (at-has is_frame (entries s m) (suc s.begun) y))))
      where
        gone : (o : Option LiveCall) → call_of s.calls (suc s.begun) ≡ o → call_of s.calls (suc s.begun) ≡ None
        gone None e = e
        gone (Some x) e = absurd (both_ways _ (not_begun-live s h.versions_are_fresh) (ap is_some e))
