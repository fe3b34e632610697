-- A step that finishes at no node leaves the last Done of a list, the entries of live calls, and an executing first open call.
use Rattle.std.proofs.Common.{◌≡◌, ℕ, ◌<◌, Bool, true, false, ◌&&◌, not, ◌==◌, ◌⊎◌, inl, inr, refl, sym, ap, arith, List, [], ◌∷◌, length, true≢false, ◌∙◌, subst, Some}
use Rattle.std.proofs.lemmas.Bool.{or_right, eqb-true, eq-eqb, both_ways, cases_Bool, true_from_ne_false}
use Rattle.signal_graph.specs.Graph.{Graph}
use Rattle.node_versions.specs.declared.entry.State.{State}
use Rattle.node_versions.specs.declared.entry.State.TheVariants.{Mark, Frame, Done}
use Rattle.node_versions.specs.declared.entry.Entry.{Entry}
use Rattle.node_versions.specs.Entries.{is_done, is_frame, has, at, placed, with_state, last_done, first_open, behind}
use Rattle.node_versions.proofs.KeptLemmas.{has-with_state}
use Rattle.node_versions.proofs.Places.{at-has}
use Rattle.flow_model.specs.declared.step.Step.{Step}
use Rattle.flow_model.specs.Machine.State.{Core, Cell, live, executes, entries, opens, wants}
use Rattle.flow_model.specs.Machine.Words.{heads}
use Rattle.flow_model.specs.Machine.Changes.{stops, stops_call, new_entry, place_entry, set_state}
use Rattle.flow_model.specs.Machine.Steps.{allowed, apply}
use Rattle.flow_model.specs.Kept.Lawful.{IsLawful}
use Rattle.flow_model.proofs.OneList.StatesAndPlaces.{with_state-at}
use Rattle.flow_model.proofs.OneList.OneEntryACall.{placed-has, placed-at_other, placed-at, collected-at, collected-at_live}
use Rattle.flow_model.proofs.OrderStays.NoFrameBeforeDones.{head-first}
use Rattle.flow_model.proofs.OrderStays.OpenNodesHaveFrames.{cell-there, entry-there, step-FramesAreOpen}
use Rattle.flow_model.proofs.Wants.FramedWith.{opens-frame, heads-opens}
use Rattle.flow_model.proofs.Reactions.RunsThatHaveEnded.{not_both}
use Rattle.flow_model.proofs.Reactions.WhoReacts.{marked-first_open}
use Rattle.flow_model.proofs.FramesSpread.AfterCollect.{collected-first_open}
use Rattle.flow_model.proofs.FramesSpread.AfterFrame.{raised-framed, entered-framed}
use Rattle.flow_model.proofs.OneStep.ChangesOfOneList.{ListStep, step-list}
use Rattle.flow_model.proofs.OneStep.ChangesOfOneList as lists
use Rattle.flow_model.proofs.OneStep.QuietSteps.{QuietStep, stays, marks, frames, raises, collects}
use Rattle.flow_model.proofs.OneList.OwnEntries.{placed-last_done, raised-last_done, collected-last_done}

-- ---- the call at the head

pub head-live : (graph : Graph) (s : Core) → IsLawful graph s → (u n : ℕ) → heads s u n ≡ true → at is_frame (entries s n) u ≡ true
head-live graph s h u n k = opens-frame graph s h u n (heads-opens graph s h u n k)

pub head-there : (graph : Graph) (s : Core) → IsLawful graph s → (u n : ℕ) → heads s u n ≡ true → n < length s.cells
head-there graph s h u n k = entry-there s n u (at-has is_frame (entries s n) u (head-live graph s h u n k))

pub ended-prefix : (graph : Graph) (s : Core) → IsLawful graph s → (n u v : ℕ) → behind (entries s n) u v ≡ true → not (live s v) ≡ true → not (live s u) ≡ true
ended-prefix graph s h n u v b e = ap not (h.ended_is_prefix.prefix n u v b (turned (live s v) e))
  where
    turned : (a : Bool) → not a ≡ true → a ≡ false
    turned true k = sym k
    turned false k = refl

pub no-ended_frame : (graph : Graph) (s : Core) → IsLawful graph s → (n u : ℕ) → at is_frame (entries s n) u ≡ true → not (live s u) ≡ false
no-ended_frame graph s h n u f = ap not (true_from_ne_false (live s u) (λ e. both_ways _ (h.ended_is_prefix.no_frame n u e) f))

-- ---- a step that finishes at no node

pub quiet-last_done : (graph : Graph) (s : Core) → IsLawful graph s → (n : ℕ) (es : List Entry) → QuietStep graph s n es → last_done es ≡ last_done (entries s n)
quiet-last_done graph s h n es (stays e) = ap last_done e
quiet-last_done graph s h n es (marks t x f e) = ap last_done e ∙ placed-last_done (stops_call s t) (new_entry s t Mark) (entries s n) refl
quiet-last_done graph s h n es (frames t w f e) = ap last_done e ∙ placed-last_done (stops_call s t) (new_entry s t Frame) (entries s n) refl
quiet-last_done graph s h n es (raises t w m e) = ap last_done e ∙ raised-last_done t (entries s n) m
quiet-last_done graph s h n es (collects e) = ap last_done e ∙ collected-last_done (λ v. not (live s v)) (entries s n) (h.one_entry n) (ended-prefix graph s h n)

-- An executing call that is first stays first.
pub quiet-head : (graph : Graph) (s : Core) → IsLawful graph s → (n : ℕ) (es : List Entry) → QuietStep graph s n es → (u : ℕ) → executes s u ≡ true → heads s u n ≡ true → first_open es ≡ Some u
quiet-head graph s h n es (stays e) u x hd = ap first_open e ∙ head-first (entries s n) u hd
quiet-head graph s h n es (marks t y f e) u x hd = ap first_open e ∙ marked-first_open (stops_call s t) (new_entry s t Mark) (entries s n) refl ∙ head-first (entries s n) u hd
quiet-head graph s h n es (frames t w f e) u x hd =
    let there = head-there graph s h u n hd in
    ap first_open e ∙ ap (λ (c : Cell). first_open c.entries) (sym (cell-there s n (place_entry s t Frame) there)) ∙ (entered-framed graph s h t n w f there).head u hd x
quiet-head graph s h n es (raises t w m e) u x hd =
    let there = head-there graph s h u n hd in
    ap first_open e ∙ ap (λ (c : Cell). first_open c.entries) (sym (cell-there s n (set_state t Frame) there)) ∙ (raised-framed graph s h t n w m there).head u hd x
quiet-head graph s h n es (collects e) u x hd = ap first_open e ∙ collected-first_open (λ v. not (live s v)) (entries s n) (h.one_entry n) (no-ended_frame graph s h n) ∙ head-first (entries s n) u hd

-- A call with a Frame had it before, or wanted the node.
list-frame_back : (graph : Graph) (s : Core) → IsLawful graph s → (n : ℕ) (es : List Entry) → ListStep graph s n es → (u : ℕ) → at is_frame es u ≡ true → (at is_frame (entries s n) u ≡ true) ⊎ (wants s u n ≡ true)
list-frame_back graph s h n es (lists.stays e) u f = inl (subst (λ (xs : List Entry). at is_frame xs u ≡ true) e f)
list-frame_back graph s h n es (lists.marks t x fresh r e) u f = go (cases_Bool (u == t)) (subst (λ (xs : List Entry). at is_frame xs u ≡ true) e f)
  where
    go : ((u == t) ≡ true) ⊎ ((u == t) ≡ false) → at is_frame (placed (stops s t) (new_entry s t Mark) (entries s n)) u ≡ true → (at is_frame (entries s n) u ≡ true) ⊎ (wants s u n ≡ true)
    go (inl k) g = absurd (true≢false (sym (subst (λ (v : ℕ). at is_frame (placed (stops s t) (new_entry s t Mark) (entries s n)) v ≡ true) (eqb-true u t k) g) ∙ placed-at is_frame (stops_call s t) (new_entry s t Mark) (entries s n) fresh))
    go (inr k) g = inl (sym (placed-at_other is_frame (stops_call s t) (new_entry s t Mark) (entries s n) u (λ y. both_ways _ k (eq-eqb u t y))) ∙ g)
list-frame_back graph s h n es (lists.frames t w fresh r e) u f = go (cases_Bool (u == t)) (subst (λ (xs : List Entry). at is_frame xs u ≡ true) e f)
  where
    go : ((u == t) ≡ true) ⊎ ((u == t) ≡ false) → at is_frame (placed (stops s t) (new_entry s t Frame) (entries s n)) u ≡ true → (at is_frame (entries s n) u ≡ true) ⊎ (wants s u n ≡ true)
    go (inl k) g = inr (subst (λ (v : ℕ). wants s v n ≡ true) (sym (eqb-true u t k)) w)
    go (inr k) g = inl (sym (placed-at_other is_frame (stops_call s t) (new_entry s t Frame) (entries s n) u (λ y. both_ways _ k (eq-eqb u t y))) ∙ g)
list-frame_back graph s h n es (lists.raises t w m e) u f = go (cases_Bool (u == t)) (with_state-at is_frame t Frame (entries s n) u) (subst (λ (xs : List Entry). at is_frame xs u ≡ true) e f)
  where
    go : ((u == t) ≡ true) ⊎ ((u == t) ≡ false) → at is_frame (with_state t Frame (entries s n)) u ≡ elim (u == t) as (λ _. Bool) [ true ↦ has (entries s n) t && true | false ↦ at is_frame (entries s n) u ] → at is_frame (with_state t Frame (entries s n)) u ≡ true → (at is_frame (entries s n) u ≡ true) ⊎ (wants s u n ≡ true)
    go (inl k) a g = inr (subst (λ (v : ℕ). wants s v n ≡ true) (sym (eqb-true u t k)) w)
    go (inr k) a g = inl (sym (rw k at a) ∙ g)
list-frame_back graph s h n es (lists.finishes t v c ps fr e) u f = go (cases_Bool (u == t)) (with_state-at is_frame t (Done v c ps) (entries s n) u) (subst (λ (xs : List Entry). at is_frame xs u ≡ true) e f)
  where
    none : (x a b c : Bool) → x ≡ true → c ≡ elim x as (λ _. Bool) [ true ↦ a && false | false ↦ b ] → c ≡ true → ⊥
    none x a b c h k j = grind (arith, h, k, j)

    go : ((u == t) ≡ true) ⊎ ((u == t) ≡ false) → at is_frame (with_state t (Done v c ps) (entries s n)) u ≡ elim (u == t) as (λ _. Bool) [ true ↦ has (entries s n) t && false | false ↦ at is_frame (entries s n) u ] → at is_frame (with_state t (Done v c ps) (entries s n)) u ≡ true → (at is_frame (entries s n) u ≡ true) ⊎ (wants s u n ≡ true)
    go (inl k) a g = absurd (none (u == t) (has (entries s n) t) (at is_frame (entries s n) u) (at is_frame (with_state t (Done v c ps) (entries s n)) u) k a g)
    go (inr k) a g = inl (sym (rw k at a) ∙ g)
list-frame_back graph s h n es (lists.collects e) u f = inl (collected-at is_frame (λ v. not (live s v)) (entries s n) u (h.one_entry n) (subst (λ (xs : List Entry). at is_frame xs u ≡ true) e f))

-- A node that is open after a step was open, or wanted.
pub step-opens_back : (graph : Graph) (s : Core) (step : Step) → IsLawful graph s → allowed graph s step ≡ true → (u n : ℕ) → opens (apply graph s step) u n ≡ true → (opens s u n ≡ true) ⊎ (wants s u n ≡ true)
step-opens_back graph s step h a u n o = go (list-frame_back graph s h n (entries (apply graph s step) n) (step-list graph s step h a n) u (sym ((step-FramesAreOpen graph s step h a).opens_frames u n) ∙ o))
  where
    go : (at is_frame (entries s n) u ≡ true) ⊎ (wants s u n ≡ true) → (opens s u n ≡ true) ⊎ (wants s u n ≡ true)
    go (inl f) = inl (h.frames_are_open.opens_frames u n ∙ f)
    go (inr w) = inr w

-- A call with a Frame after a step had no Done before it.
pub step-frame_no_done : (graph : Graph) (s : Core) (step : Step) → IsLawful graph s → allowed graph s step ≡ true → (n u : ℕ) → at is_frame (entries (apply graph s step) n) u ≡ true → at is_done (entries s n) u ≡ false
step-frame_no_done graph s step h a n u f = go (list-frame_back graph s h n (entries (apply graph s step) n) (step-list graph s step h a n) u f)
  where
    go : (at is_frame (entries s n) u ≡ true) ⊎ (wants s u n ≡ true) → at is_done (entries s n) u ≡ false
    go (inl k) = not_both (entries s n) u k
    go (inr w) = (h.wants_are_free u n w).not_done

-- ---- entries

has-at : (es : List Entry) (u : ℕ) → at (λ (x : State). true) es u ≡ has es u
has-at [] u = refl
has-at (e ∷ es) u = let r = has-at es u in grind (arith, r)

-- A live call's entry stays.
list-entry : (graph : Graph) (s : Core) (n : ℕ) (es : List Entry) → ListStep graph s n es → (u : ℕ) → live s u ≡ true → has (entries s n) u ≡ true → has es u ≡ true
list-entry graph s n es (lists.stays e) u l k = subst (λ (xs : List Entry). has xs u ≡ true) (sym e) k
list-entry graph s n es (lists.marks t x f r e) u l k = ap (λ (xs : List Entry). has xs u) e ∙ placed-has (stops_call s t) (new_entry s t Mark) (entries s n) u ∙ or_right (t == u) (has (entries s n) u) k
list-entry graph s n es (lists.frames t w f r e) u l k = ap (λ (xs : List Entry). has xs u) e ∙ placed-has (stops_call s t) (new_entry s t Frame) (entries s n) u ∙ or_right (t == u) (has (entries s n) u) k
list-entry graph s n es (lists.raises t w m e) u l k = ap (λ (xs : List Entry). has xs u) e ∙ has-with_state t Frame (entries s n) u ∙ k
list-entry graph s n es (lists.finishes t v c ps fr e) u l k = ap (λ (xs : List Entry). has xs u) e ∙ has-with_state t (Done v c ps) (entries s n) u ∙ k
list-entry graph s n es (lists.collects e) u l k = ap (λ (xs : List Entry). has xs u) e ∙ sym (has-at _ u) ∙ collected-at_live (λ x. true) (λ v. not (live s v)) (entries s n) u (ap not l) ∙ has-at (entries s n) u ∙ k

pub step-entry : (graph : Graph) (s : Core) (step : Step) → IsLawful graph s → allowed graph s step ≡ true → (n u : ℕ) → live s u ≡ true → has (entries s n) u ≡ true → has (entries (apply graph s step) n) u ≡ true
step-entry graph s step h a n u l k = list-entry graph s n (entries (apply graph s step) n) (step-list graph s step h a n) u l k
