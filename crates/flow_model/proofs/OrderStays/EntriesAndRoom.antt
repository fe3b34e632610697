-- Each step keeps one entry a call, room, framing calls without Marks and Dones, and ended entries with a Done and no Frame.
use Rattle.std.proofs.Common.{◌≡◌, ℕ, suc, ◌+◌, ◌<◌, ◌≤◌, Bool, true, false, ◌&&◌, not, ◌==◌, ◌⊎◌, ◌≢◌, inl, inr, refl, sym, ap, arith, List, [], ◌∷◌, length, true≢false, ◌∙◌, subst, Option, Some, None}
use Rattle.std.specs.Prelude.{is_some}
use Rattle.std.proofs.lemmas.Bool.Decides.{eqb_tells}
use Rattle.std.proofs.lemmas.Bool.{eqb-true, eq-eqb, false_from_ne_true, both_ways, cases_Bool}
use Rattle.script_tree.proofs.Truths.{and_right}
use Rattle.signal_graph.specs.declared.call.Call.{Call}
use Rattle.signal_graph.specs.Graph.{Graph, is_in}
use Rattle.node_versions.specs.declared.entry.State.{State}
use Rattle.node_versions.specs.declared.entry.State.TheVariants.{Mark, Frame, Done}
use Rattle.node_versions.specs.declared.entry.Entry.{Entry}
use Rattle.node_versions.specs.Entries.{IsUnique, is_mark, is_frame, is_done, has, at, placed, with_state}
use Rattle.node_versions.proofs.KeptLemmas.{IsUnique-with_state, length-with_state}
use Rattle.node_versions.proofs.Places.{at-has}
use Rattle.flow_model.specs.declared.step.Step.{Step}
use Rattle.flow_model.specs.Machine.Lists.{is_empty}
use Rattle.flow_model.specs.Machine.State.{Core, LiveCall, call, call_of, call_or, live, executes, is_framing, entries, wants}
use Rattle.flow_model.specs.Machine.Words.{has_room, is_idle}
use Rattle.flow_model.specs.Machine.Changes.{stops, stops_call, new_entry}
use Rattle.flow_model.specs.Machine.Steps.{allowed, apply, begin, new_call}
use Rattle.flow_model.specs.Kept.Lawful.{IsLawful, IsEnded, HasDone, FramingComesLast, EndedIsPrefix, ended_before}
use Rattle.flow_model.proofs.OneStep.WhoMayStep.{executes-live, wants-live, at_front-executes}
use Rattle.flow_model.proofs.OneList.StatesAndPlaces.{with_state-at}
use Rattle.flow_model.proofs.OneStep.SameLengths.{step-parts}
use Rattle.flow_model.proofs.OneList.CallsAndCells.{call_of-append, last_call, last_call-other}
use Rattle.flow_model.proofs.OneList.OneEntryACall.{placed-unique, placed-length, placed-at_other, placed-at, collected-unique, collected-length, collected-at, collected-done}
use Rattle.flow_model.proofs.OneStep.ChangesOfOneList.{ListStep, stays, marks, frames, raises, finishes, collects, step-list}
use Rattle.flow_model.proofs.OneStep.WhoLivesAndFrames.{PhaseStep, stays as phases_stay, starts, ends, step-phases, phase-is_framing, phase-ended}
use Rattle.flow_model.proofs.OrderStays.AfterEachStep.{step-Standing, begin-Stood, not_begun-entry, standing-framing_last, standing-ended}

-- ---- one entry a call

list-unique : (graph : Graph) (s : Core) (n : ℕ) → IsUnique (entries s n) → (es : List Entry) → ListStep graph s n es → IsUnique es
list-unique graph s n q es (stays e) = subst IsUnique (sym e) q
list-unique graph s n q es (marks t x h r e) = subst IsUnique (sym e) (placed-unique (stops_call s t) (new_entry s t Mark) (entries s n) h q)
list-unique graph s n q es (frames t w h r e) = subst IsUnique (sym e) (placed-unique (stops_call s t) (new_entry s t Frame) (entries s n) h q)
list-unique graph s n q es (raises t w m e) = subst IsUnique (sym e) (IsUnique-with_state t Frame (entries s n) q)
list-unique graph s n q es (finishes t v c ps f e) = subst IsUnique (sym e) (IsUnique-with_state t (Done v c ps) (entries s n) q)
list-unique graph s n q es (collects e) = subst IsUnique (sym e) (collected-unique (λ v. not (live s v)) (entries s n) q)

pub step-one_entry : (graph : Graph) (s : Core) (step : Step) → IsLawful graph s → allowed graph s step ≡ true → (n : ℕ) → IsUnique (entries (apply graph s step) n)
step-one_entry graph s step h a n = list-unique graph s n (h.one_entry n) (entries (apply graph s step) n) (step-list graph s step h a n)

-- ---- room

pub list-room : (graph : Graph) (s : Core) (n : ℕ) → length (entries s n) ≤ s.callers + 9 → (es : List Entry) → ListStep graph s n es → length es ≤ s.callers + 9
list-room graph s n q es (stays e) = subst (λ (xs : List Entry). length xs ≤ s.callers + 9) (sym e) q
list-room graph s n q es (marks t x h r e) = let l = placed-length (stops_call s t) (new_entry s t Mark) (entries s n) in subst (λ (xs : List Entry). length xs ≤ s.callers + 9) (sym e) (subst (λ (k : ℕ). k ≤ s.callers + 9) (sym l) (below r))
  where
    below : has_room s n ≡ true → suc (length (entries s n)) ≤ s.callers + 9
    below r = grind (arith, r)
list-room graph s n q es (frames t w h r e) = let l = placed-length (stops_call s t) (new_entry s t Frame) (entries s n) in subst (λ (xs : List Entry). length xs ≤ s.callers + 9) (sym e) (subst (λ (k : ℕ). k ≤ s.callers + 9) (sym l) (below r))
  where
    below : has_room s n ≡ true → suc (length (entries s n)) ≤ s.callers + 9
    below r = grind (arith, r)
list-room graph s n q es (raises t w m e) = let l = length-with_state t Frame (entries s n) in subst (λ (xs : List Entry). length xs ≤ s.callers + 9) (sym e) (omega (arith, l, q))
list-room graph s n q es (finishes t v c ps f e) = let l = length-with_state t (Done v c ps) (entries s n) in subst (λ (xs : List Entry). length xs ≤ s.callers + 9) (sym e) (omega (arith, l, q))
list-room graph s n q es (collects e) = let l = collected-length (λ v. not (live s v)) (entries s n) in subst (λ (xs : List Entry). length xs ≤ s.callers + 9) (sym e) (omega (arith, l, q))

-- ---- who has no entry in a state

-- An entry in a state that the step gives to no entry of u is no new one.
other-list : (graph : Graph) (s : Core) (n u : ℕ) (test : State → Bool) → IsUnique (entries s n) → at test (entries s n) u ≡ false
    → ((t : ℕ) → executes s t ≡ true → t ≢ u) → ((t : ℕ) → wants s t n ≡ true → (t ≢ u) ⊎ (test Frame ≡ false)) → (es : List Entry) → ListStep graph s n es → at test es u ≡ false
other-list graph s n u test q none ex wa es (stays e) = subst (λ (xs : List Entry). at test xs u ≡ false) (sym e) none
other-list graph s n u test q none ex wa es (marks t x h r e) = subst (λ (xs : List Entry). at test xs u ≡ false) (sym e) (placed-at_other test (stops_call s t) (new_entry s t Mark) (entries s n) u (λ k. ex t x (sym k)) ∙ none)
other-list graph s n u test q none ex wa es (frames t w h r e) = subst (λ (xs : List Entry). at test xs u ≡ false) (sym e) (go (cases_Bool (u == t)) (wa t w))
  where
    go : ((u == t) ≡ true) ⊎ ((u == t) ≡ false) → (t ≢ u) ⊎ (test Frame ≡ false) → at test (placed (stops s t) (new_entry s t Frame) (entries s n)) u ≡ false
    go (inl k) (inl ne) = absurd (ne (sym (eqb-true u t k)))
    go (inl k) (inr f) = subst (λ (v : ℕ). at test (placed (stops s t) (new_entry s t Frame) (entries s n)) v ≡ false) (sym (eqb-true u t k)) (placed-at test (stops_call s t) (new_entry s t Frame) (entries s n) h ∙ f)
    go (inr k) f = placed-at_other test (stops_call s t) (new_entry s t Frame) (entries s n) u (λ w. both_ways _ k (eq-eqb u t w)) ∙ none
other-list graph s n u test q none ex wa es (raises t w m e) = subst (λ (xs : List Entry). at test xs u ≡ false) (sym e) (go (cases_Bool (u == t)) (wa t w) (with_state-at test t Frame (entries s n) u))
  where
    go : ((u == t) ≡ true) ⊎ ((u == t) ≡ false) → (t ≢ u) ⊎ (test Frame ≡ false) → at test (with_state t Frame (entries s n)) u ≡ elim (u == t) as (λ _. Bool) [ true ↦ has (entries s n) t && test Frame | false ↦ at test (entries s n) u ]
        → at test (with_state t Frame (entries s n)) u ≡ false
    go (inl k) (inl ne) w = absurd (ne (sym (eqb-true u t k)))
    go (inl k) (inr f) w = grind (arith, k, f, w)
    go (inr k) f w = grind (arith, k, w, none)
other-list graph s n u test q none ex wa es (finishes t v c ps f e) = subst (λ (xs : List Entry). at test xs u ≡ false) (sym e) (go (cases_Bool (u == t)) (ex t (at_front-executes graph s t n f)) (with_state-at test t (Done v c ps) (entries s n) u))
  where
    go : ((u == t) ≡ true) ⊎ ((u == t) ≡ false) → t ≢ u → at test (with_state t (Done v c ps) (entries s n)) u ≡ elim (u == t) as (λ _. Bool) [ true ↦ has (entries s n) t && test (Done v c ps) | false ↦ at test (entries s n) u ]
        → at test (with_state t (Done v c ps) (entries s n)) u ≡ false
    go (inl k) ne w = absurd (ne (sym (eqb-true u t k)))
    go (inr k) ne w = rw k at w ∙ none
other-list graph s n u test q none ex wa es (collects e) = subst (λ (xs : List Entry). at test xs u ≡ false) (sym e) (false_from_ne_true _ (λ k. both_ways _ none (collected-at test (λ v. not (live s v)) (entries s n) u q k)))

-- ---- framing calls

framing-other : (s : Core) (u : ℕ) → is_framing s u ≡ true → (t : ℕ) → executes s t ≡ true → t ≢ u
framing-other s u f t x e = let y = subst (λ (v : ℕ). executes s v ≡ true) e x in let g = and_right _ _ f in both (executes s u) y g
  where
    both : (b : Bool) → b ≡ true → not b ≡ true → ⊥
    both true h k = true≢false (sym k)
    both false h k = true≢false (sym h)

pub step-FramingComesLast : (graph : Graph) (s : Core) (step : Step) → IsLawful graph s → allowed graph s step ≡ true → FramingComesLast (apply graph s step)
step-FramingComesLast graph s step h a =
    let p = step-phases graph s step a in
    record {
      before = standing-framing_last (apply graph s step) (ended_before (apply graph s step).log) (step-Standing graph s step h a);
      no_mark = λ u n f. let g = phase-is_framing s (apply graph s step) p u f in other-list graph s n u is_mark (h.one_entry n) (h.framing_comes_last.no_mark u n g) (framing-other s u g) (λ t w. inr refl) _ (step-list graph s step h a n);
      no_done = λ u n f. let g = phase-is_framing s (apply graph s step) p u f in other-list graph s n u is_done (h.one_entry n) (h.framing_comes_last.no_done u n g) (framing-other s u g) (λ t w. inr refl) _ (step-list graph s step h a n);
    }

-- ---- ended calls

live-other : (s : Core) (u : ℕ) → live s u ≡ false → (t : ℕ) → live s t ≡ true → t ≢ u
live-other s u e t l k = both_ways _ e (subst (λ (v : ℕ). live s v ≡ true) k l)

-- An idle call has no open node, and so no Frame.
pub idle-no_frame : (graph : Graph) (s : Core) → IsLawful graph s → (t n : ℕ) → is_idle s t ≡ true → at is_frame (entries s n) t ≡ false
idle-no_frame graph s h t n i = sym (h.frames_are_open.opens_frames t n) ∙ none (call s t).open_nodes (and_right _ _ i)
  where
    none : (ns : List ℕ) → is_empty ns ≡ true → is_in n ns ≡ false
    none [] e = refl
    none (x ∷ xs) e = absurd (true≢false (sym e))

ended-no_frame : (graph : Graph) (s : Core) (step : Step) → IsLawful graph s → allowed graph s step ≡ true → (n u : ℕ) → live s u ≡ false → at is_frame (entries (apply graph s step) n) u ≡ false
ended-no_frame graph s step h a n u e = other-list graph s n u is_frame (h.one_entry n) (h.ended_is_prefix.no_frame n u e) (λ t x. live-other s u e t (executes-live s t x)) (λ t w. inl (live-other s u e t (wants-live s t n w))) _ (step-list graph s step h a n)

step-no_frame : (graph : Graph) (s : Core) (step : Step) → IsLawful graph s → allowed graph s step ≡ true → (n u : ℕ) → live (apply graph s step) u ≡ false → at is_frame (entries (apply graph s step) n) u ≡ false
step-no_frame graph s step h a n u e = go (cases_Bool (live s u)) (step-phases graph s step a)
  where
    go : (live s u ≡ true) ⊎ (live s u ≡ false) → PhaseStep s (apply graph s step) → at is_frame (entries (apply graph s step) n) u ≡ false
    go (inr k) p = ended-no_frame graph s step h a n u k
    go (inl k) (phases_stay p) = absurd (both_ways _ e (subst (λ (l : ℕ → Bool). l u ≡ true) (sym p.lives) k))
    go (inl k) (starts t f l x) = absurd (both_ways _ e (subst (λ (l : ℕ → Bool). l u ≡ true) (sym l) k))
    go (inl k) (ends t i same l x) = subst (λ (es : List Entry). at is_frame es u ≡ false) (sym (same n)) (subst (λ (v : ℕ). at is_frame (entries s n) v ≡ false) (it (u == t) refl (l u)) (idle-no_frame graph s h t n i))
      where
        it : (b : Bool) → (u == t) ≡ b → live (apply graph s step) u ≡ (not (u == t) && live s u) → t ≡ u
        it true w q = sym (eqb-true u t w)
        it false w q = let r : live (apply graph s step) u ≡ true = q ∙ rw w k in absurd (both_ways _ e r)

-- a Done of an ended call stays, or another takes its place
ended-done : (graph : Graph) (s : Core) (n u : ℕ) → live s u ≡ false → at is_done (entries s n) u ≡ true → (es : List Entry) → ListStep graph s n es → (v : ℕ) × (live s v ≡ false) × (at is_done es v ≡ true)
ended-done graph s n u e d es (stays q) = (u, e, subst (λ (xs : List Entry). at is_done xs u ≡ true) (sym q) d)
ended-done graph s n u e d es (marks t x h r q) = (u, e, subst (λ (xs : List Entry). at is_done xs u ≡ true) (sym q) (placed-at_other is_done (stops_call s t) (new_entry s t Mark) (entries s n) u (λ k. live-other s u e t (executes-live s t x) (sym k)) ∙ d))
ended-done graph s n u e d es (frames t w h r q) = (u, e, subst (λ (xs : List Entry). at is_done xs u ≡ true) (sym q) (placed-at_other is_done (stops_call s t) (new_entry s t Frame) (entries s n) u (λ k. live-other s u e t (wants-live s t n w) (sym k)) ∙ d))
ended-done graph s n u e d es (raises t w m q) = (u, e, subst (λ (xs : List Entry). at is_done xs u ≡ true) (sym q) (let k = other_test u t (live-other s u e t (wants-live s t n w)) in let r = with_state-at is_done t Frame (entries s n) u in grind (arith, k, r, d)))
  where
    other_test : (u t : ℕ) → t ≢ u → (u == t) ≡ false
    other_test u t ne = false_from_ne_true _ (λ w. ne (sym (eqb-true u t w)))
ended-done graph s n u e d es (finishes t v c ps f q) = (u, e, subst (λ (xs : List Entry). at is_done xs u ≡ true) (sym q) (let k = other_test u t (live-other s u e t (executes-live s t (at_front-executes graph s t n f))) in let r = with_state-at is_done t (Done v c ps) (entries s n) u in r ∙ rw k d))
  where
    other_test : (u t : ℕ) → t ≢ u → (u == t) ≡ false
    other_test u t ne = false_from_ne_true _ (λ w. ne (sym (eqb-true u t w)))
ended-done graph s n u e d es (collects q) =
    let c = collected-done (λ v. not (live s v)) (entries s n) u (rw e refl) d in
    (c.0, is_ended (live s c.0) c.1, subst (λ (xs : List Entry). at is_done xs c.0 ≡ true) (sym q) c.2)
  where
    is_ended : (b : Bool) → not b ≡ true → b ≡ false
    is_ended true k = absurd (true≢false (sym k))
    is_ended false k = refl

pub step-EndedIsPrefix : (graph : Graph) (s : Core) (step : Step) → IsLawful graph s → allowed graph s step ≡ true → EndedIsPrefix (apply graph s step)
step-EndedIsPrefix graph s step h a =
    let st = step-Standing graph s step h a in
    let parts = step-parts graph s step in
    record {
      prefix = λ n u v k l. (standing-ended (apply graph s step) (ended_before (apply graph s step).log) st n u v k l).0;
      no_frame = λ n u e. step-no_frame graph s step h a n u e;
      done = λ n k. dones n (subst (λ (b : ℕ). n < b) parts.cells k);
      log_order = λ n u v k l. (standing-ended (apply graph s step) (ended_before (apply graph s step).log) st n u v k l).1;
    }
  where
    dones : (n : ℕ) → n < length s.cells → (u : ℕ) × IsEnded (apply graph s step) u × HasDone (apply graph s step) u n
    dones n k =
        let d = h.ended_is_prefix.done n k in
        let e = ended-done graph s n d.0 d.1 d.2 (entries (apply graph s step) n) (step-list graph s step h a n) in
        (e.0, phase-ended s (apply graph s step) (step-phases graph s step a) e.0 e.1, e.2)

-- ---- a call begins

begin-is_framing : (graph : Graph) (s : Core) (caller : ℕ) (c : Call) (u : ℕ) → is_framing (begin graph s caller c) u ≡ true → (u == suc s.begun) ≡ false → is_framing s u ≡ true
begin-is_framing graph s caller c u f ne =
    let e = call_of-append s.calls (new_call graph s caller c) u in
    let k : (suc s.begun == u) ≡ false = grind (arith, eqb_tells, ne) in
    subst (λ (o : Option LiveCall). (is_some o && not (call_or o).executing) ≡ true) (e ∙ last_call-other (call_of s.calls u) (new_call graph s caller c) u k) f

begin-live : (graph : Graph) (s : Core) (caller : ℕ) (c : Call) (u : ℕ) → live (begin graph s caller c) u ≡ false → live s u ≡ false
begin-live graph s caller c u e = let r = call_of-append s.calls (new_call graph s caller c) u in go (call_of s.calls u) refl (sym (ap (λ (o : Option LiveCall). is_some o) r) ∙ e)
  where
    go : (o : Option LiveCall) → call_of s.calls u ≡ o → is_some (last_call o (new_call graph s caller c) u) ≡ false → is_some (call_of s.calls u) ≡ false
    go None k f = ap is_some k
    go (Some x) k f = absurd (true≢false f)

pub begin-FramingComesLast : (graph : Graph) (s : Core) (caller : ℕ) (c : Call) → IsLawful graph s → FramingComesLast (begin graph s caller c)
begin-FramingComesLast graph s caller c h = record {
  before = standing-framing_last (begin graph s caller c) (ended_before s.log) (begin-Stood graph s caller c h);
  no_mark = λ u n f. none is_mark u n (λ k. h.framing_comes_last.no_mark u n (begin-is_framing graph s caller c u f k));
  no_done = λ u n f. none is_done u n (λ k. h.framing_comes_last.no_done u n (begin-is_framing graph s caller c u f k));
}
  where
    none : (test : State → Bool) (u n : ℕ) → ((u == suc s.begun) ≡ false → at test (entries s n) u ≡ false) → at test (entries s n) u ≡ false
    none test u n f = go (cases_Bool (u == suc s.begun))
      where
        go : ((u == suc s.begun) ≡ true) ⊎ ((u == suc s.begun) ≡ false) → at test (entries s n) u ≡ false
        go (inr k) = f k
        go (inl k) = subst (λ (v : ℕ). at test (entries s n) v ≡ false) (sym (eqb-true u (suc s.begun) k)) (false_from_ne_true _ (λ y. both_ways _ (not_begun-entry graph s h n) (at-has test (entries s n) (suc s.begun) y)))

pub begin-EndedIsPrefix : (graph : Graph) (s : Core) (caller : ℕ) (c : Call) → IsLawful graph s → EndedIsPrefix (begin graph s caller c)
begin-EndedIsPrefix graph s caller c h =
    let st = begin-Stood graph s caller c h in
    record {
      prefix = λ n u v k l. (standing-ended (begin graph s caller c) (ended_before s.log) st n u v k l).0;
      no_frame = λ n u e. h.ended_is_prefix.no_frame n u (begin-live graph s caller c u e);
      done = λ n k. dones n (h.ended_is_prefix.done n k);
      log_order = λ n u v k l. (standing-ended (begin graph s caller c) (ended_before s.log) st n u v k l).1;
    }
  where
    dones : (n : ℕ) → ((u : ℕ) × IsEnded s u × HasDone s u n) → (u : ℕ) × IsEnded (begin graph s caller c) u × HasDone (begin graph s caller c) u n
    dones n d = (d.0, still (cases_Bool (d.0 == suc s.begun)), d.2)
      where
        still : ((d.0 == suc s.begun) ≡ true) ⊎ ((d.0 == suc s.begun) ≡ false) → live (begin graph s caller c) d.0 ≡ false
        still (inl k) = absurd (both_ways _ (not_begun-entry graph s h n) (subst (λ (v : ℕ). has (entries s n) v ≡ true) (eqb-true d.0 (suc s.begun) k) (at-has is_done (entries s n) d.0 d.2)))
        still (inr k) =
            let j : (suc s.begun == d.0) ≡ false = grind (arith, eqb_tells, k) in
            ap (λ (o : Option LiveCall). is_some o) (call_of-append s.calls (new_call graph s caller c) d.0 ∙ last_call-other (call_of s.calls d.0) (new_call graph s caller c) d.0 j) ∙ d.1
