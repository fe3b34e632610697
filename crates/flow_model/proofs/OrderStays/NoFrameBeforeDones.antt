-- After each step no Frame stands before a Done.
use Rattle.std.proofs.Common.{◌≡◌, ℕ, Bool, true, false, ◌||◌, not, ◌==◌, ◌⊎◌, ◌≢◌, inl, inr, refl, sym, ap, arith, List, [], ◌∷◌, true≢false, ◌∙◌, subst, Option, Some, None}
use Rattle.std.proofs.lemmas.Bool.{or_cases, eqb-true, eqb-false, false_from_ne_true, both_ways, cases_Bool, true_from_ne_false}
use Rattle.signal_graph.specs.Graph.{Graph}
use Rattle.order_graph.specs.Order.{reaches}
use Rattle.order_graph.proofs.Reaching.{reaches-join}
use Rattle.node_versions.specs.declared.entry.State.{State}
use Rattle.node_versions.specs.declared.entry.State.TheVariants.{Mark, Frame}
use Rattle.node_versions.specs.declared.entry.Entry.{Entry}
use Rattle.node_versions.specs.Entries.{has, at, is_mark, is_frame, is_done, behind, front, rest, placed, collected, first_open}
use Rattle.node_versions.proofs.Lists.{has-append}
use Rattle.node_versions.proofs.Places.{at-has}
use Rattle.flow_model.specs.Machine.State.{Core, live, ended, executes, is_framing, entries, precedes, opens, wants}
use Rattle.flow_model.specs.Machine.Words.{is_some_of}
use Rattle.flow_model.specs.Machine.Changes.{stops, stops_call, new_entry, first_version}
use Rattle.flow_model.specs.Kept.Lawful.{IsLawful, FramingComesLast, FramesAreOpen, WantsAreCovered, ended_before}
use Rattle.flow_model.proofs.OneList.InOrder.{Ascends, Ascends-right, front-rest, rest-stops}
use Rattle.flow_model.proofs.OneList.Entering.{Standing, Comes, stop-live}
use Rattle.flow_model.proofs.OneStep.WhoMayStep.{opens-live, wants-live, at_front-heads}
use Rattle.flow_model.proofs.OneList.StatesAndPlaces.{FramesLast, more-FramesLast, raise-FramesLast, finish-FramesLast, across-behind, behind-total, behind-trans, first_open-none}
use Rattle.flow_model.proofs.OneList.OneEntryACall.{collected-at, collected-behind_live}
use Rattle.flow_model.proofs.OneStep.ChangesOfOneList.{ListStep, stays, marks, frames, raises, finishes, collects}
use Rattle.flow_model.proofs.OrderStays.AfterEachStep.{lawful-Standing}

-- Over the head of the part behind t's place: it frames where t does, and so does each live call after it.
head-framing : (s : Core) (old : ℕ → ℕ → Bool) → Standing s old → (t r : ℕ) → live s t ≡ true → is_framing s t ≡ true → stops_call s t r ≡ true → is_framing s r ≡ true
head-framing s old h t r lt ft k =
    let a = h.order.apart t r ft in
    let p = h.pairs_live t r in
    grind (arith, a, p)

after-framing : (s : Core) (old : ℕ → ℕ → Bool) → Standing s old → (r w : ℕ) → is_framing s r ≡ true → Comes s old r w → is_framing s w ≡ true
after-framing s old h r w fr k =
    let a = h.order.apart r w fr in
    let p = h.pairs_live r w in
    grind (arith, a, p)

-- What is said of the head and kept by the order is true of the whole part.
each_of_part : (R : ℕ → ℕ → Type 0) (P : ℕ → Type 0) (ys : List Entry) → Ascends R ys → ((r : ℕ) → first_version ys ≡ Some r → P r) → ((r w : ℕ) → P r → R r w → P w) → (w : ℕ) → has ys w ≡ true → P w
each_of_part R P [] h first next w k = absurd (true≢false (sym k))
each_of_part R P (e ∷ es) h first next w k = go (or_cases _ _ k)
  where
    go : ((e.version == w) ≡ true) ⊎ (has es w ≡ true) → P w
    go (inl x) = subst P (eqb-true _ _ x) (first e.version refl)
    go (inr x) = next e.version w (first e.version refl) (h.0 w x)

part : (s : Core) (old : ℕ → ℕ → Bool) (t n : ℕ) → Standing s old → Ascends (Comes s old) (rest (stops s t) (entries s n))
part s old t n h = Ascends-right (Comes s old) (front (stops s t) (entries s n)) (rest (stops s t) (entries s n)) (subst (Ascends (Comes s old)) (sym (front-rest (stops_call s t) (entries s n))) (h.lists n))

-- A framing t: all behind its place frame.
pub framing-part : (s : Core) (old : ℕ → ℕ → Bool) → Standing s old → (t n : ℕ) → live s t ≡ true → is_framing s t ≡ true → (w : ℕ) → has (rest (stops s t) (entries s n)) w ≡ true → is_framing s w ≡ true
framing-part s old h t n lt ft = each_of_part (Comes s old) (λ w. is_framing s w ≡ true) (rest (stops s t) (entries s n)) (part s old t n h)
    (λ r e. head-framing s old h t r lt ft (rest-stops (stops_call s t) (entries s n) r e)) (after-framing s old h)

-- An executing t: a call before it stands before its place.
head-not_before : (s : Core) (old : ℕ → ℕ → Bool) → Standing s old → (t v r : ℕ) → live s t ≡ true → live s v ≡ true → executes s t ≡ true → precedes s v t ≡ true → stops_call s t r ≡ true → (r ≢ v) × (reaches s.pairs r v ≡ false)
head-not_before s old h t v r lt lv xt b k =
    let c = h.order.no_cycle t in
    let t1 = reaches-join s.pairs t v t in
    let t2 = reaches-join s.pairs t r v in
    let t3 = reaches-join s.pairs r v t in
    let a = λ (f : is_framing s r ≡ true). h.order.apart r t f xt in
    let p = h.pairs_live t r in
    grind (arith, c, t1, t2, t3, a, p)

pub record NotBefore (s : Core) (v w : ℕ) : Type 0 where
  pub live_it : live s w ≡ true
  pub other : w ≢ v
  pub no_chain : reaches s.pairs w v ≡ false

next-not_before : (s : Core) (old : ℕ → ℕ → Bool) → Standing s old → (v r w : ℕ) → live s v ≡ true → NotBefore s v r → Comes s old r w → NotBefore s v w
next-not_before s old h v r w lv p k = record {
  live_it = grind (arith, p.live_it);
  other = λ e. let a = p.no_chain in let b = subst (λ (x : ℕ). Comes s old r x) e k in grind (arith, a, b, p.live_it);
  no_chain = let tr = reaches-join s.pairs r w v in let a = p.no_chain in grind (arith, tr, a, p.live_it);
}

pub executing-part : (s : Core) (old : ℕ → ℕ → Bool) → Standing s old → (t n v : ℕ) → live s t ≡ true → live s v ≡ true → executes s t ≡ true → precedes s v t ≡ true
    → (w : ℕ) → has (rest (stops s t) (entries s n)) w ≡ true → NotBefore s v w
executing-part s old h t n v lt lv xt b = each_of_part (Comes s old) (NotBefore s v) (rest (stops s t) (entries s n)) (part s old t n h)
    (λ r e. let k = rest-stops (stops_call s t) (entries s n) r e in let q = head-not_before s old h t v r lt lv xt b k in
    record { live_it = stop-live s t r h.pairs_live lt k; other = q.0; no_chain = q.1 })
    (λ r w p k. next-not_before s old h v r w lv p k)

-- Where v has n open and comes before t, no Done stands behind t's place.
covered-part : (s : Core) (old : ℕ → ℕ → Bool) → Standing s old → (t n v : ℕ) → live s t ≡ true → live s v ≡ true → executes s t ≡ true → precedes s v t ≡ true
    → FramesLast (entries s n) → at is_frame (entries s n) v ≡ true → (w : ℕ) → has (rest (stops s t) (entries s n)) w ≡ true → at is_done (entries s n) w ≡ false
covered-part s old h t n v lt lv xt b fl fv w k =
    let f = front (stops s t) (entries s n) in
    let g = rest (stops s t) (entries s n) in
    let joined = front-rest (stops_call s t) (entries s n) in
    let hv : (has f v || has g v) ≡ true = sym (has-append f g v) ∙ ap (λ (es : List Entry). has es v) joined ∙ at-has is_frame (entries s n) v fv in
    let not_g : has g v ≡ false = false_from_ne_true _ (λ x. (executing-part s old h t n v lt lv xt b v x).other refl) in
    let in_f : has f v ≡ true = grind (arith, hv, not_g) in
    fl.last v w (subst (λ (es : List Entry). behind es v w ≡ true) joined (across-behind f g v w in_f k)) fv

-- Frame: what is known of framing calls, and of wanted nodes, says of the place of t.
place-no_done : (s : Core) (old : ℕ → ℕ → Bool) → Standing s old → FramingComesLast s → FramesAreOpen s → WantsAreCovered s → (t n : ℕ) → live s t ≡ true → wants s t n ≡ true
    → (w : ℕ) → has (rest (stops s t) (entries s n)) w ≡ true → at is_done (entries s n) w ≡ false
place-no_done s old h i2 i3 i5 t n lt wt w k = go (cases_Bool (executes s t))
  where
    go : (executes s t ≡ true) ⊎ (executes s t ≡ false) → at is_done (entries s n) w ≡ false
    go (inl x) =
        let c = i5 t n x wt in
        let v = c.by.0 in
        let fv : at is_frame (entries s n) v ≡ true = sym (i3.opens_frames v n) ∙ c.by.2 in
        covered-part s old h t n v lt (opens-live s v n c.by.2) x c.by.1 (record { last = i3.behind_dones n }) fv w k
    go (inr x) = i2.no_done w n (framing-part s old h t n lt (let f : is_framing s t ≡ true = grind (arith, x, lt) in f) w k)

-- ---- a list after a step

lawful-last : (graph : Graph) (s : Core) → IsLawful graph s → (n : ℕ) → FramesLast (entries s n)
lawful-last graph s h n = record { last = h.frames_are_open.behind_dones n }

placed-last : (s : Core) (t : ℕ) (x : State) (es : List Entry) → is_done x ≡ false → has es t ≡ false → FramesLast es → (is_frame x ≡ true → (w : ℕ) → has (rest (stops s t) es) w ≡ true → at is_done es w ≡ false) → FramesLast (placed (stops s t) (new_entry s t x) es)
placed-last s t x es no_done no_entry fl none =
    let joined = front-rest (stops_call s t) es in
    more-FramesLast (front (stops s t) es) (rest (stops s t) es) (new_entry s t x) no_done
    (ap (λ (xs : List Entry). has xs t) joined ∙ no_entry)
    (subst FramesLast (sym joined) fl)
    (λ f w k. ap (λ (xs : List Entry). at is_done xs w) joined ∙ none f w k)

-- A Mark that is raised is of an executing call, and another call before it has its Frame there.
raised-no_done : (graph : Graph) (s : Core) → IsLawful graph s → (t n : ℕ) → wants s t n ≡ true → at is_mark (entries s n) t ≡ true → (w : ℕ) → behind (entries s n) t w ≡ true → at is_done (entries s n) w ≡ false
raised-no_done graph s h t n wt m w k = go (cases_Bool (executes s t))
  where
    go : (executes s t ≡ true) ⊎ (executes s t ≡ false) → at is_done (entries s n) w ≡ false
    go (inr x) = absurd (both_ways _ (h.framing_comes_last.no_mark t n (let l = wants-live s t n wt in let f : is_framing s t ≡ true = grind (arith, x, l) in f)) m)
    go (inl x) =
        let c = h.wants_are_covered t n x wt in
        let v = c.by.0 in
        let fv : at is_frame (entries s n) v ≡ true = sym (h.frames_are_open.opens_frames v n) ∙ c.by.2 in
        h.frames_are_open.behind_dones n v w (behind-trans (entries s n) v t w (h.one_entry n) (earlier v c.by.1 c.by.2 fv) k) fv
      where
        earlier : (v : ℕ) → precedes s v t ≡ true → opens s v n ≡ true → at is_frame (entries s n) v ≡ true → behind (entries s n) v t ≡ true
        earlier v b o fv = cases (cases_Bool (v == t))
          where
            lv : live s v ≡ true
            lv = opens-live s v n o

            lt : live s t ≡ true
            lt = wants-live s t n wt

            reach : reaches s.pairs v t ≡ true
            reach = grind (arith, b, lv)

            other : (behind (entries s n) v t || behind (entries s n) t v) ≡ true → behind (entries s n) v t ≡ true
            other d = true_from_ne_false _ (λ e. let p = h.order_is_kept.lists n t v (grind (arith, d, e)) lv in
                let r : reaches s.pairs t v ≡ true = grind (arith, p, lt) in
                both_ways _ (h.order_is_kept.no_cycle v) (reaches-join s.pairs v t v reach r))

            cases : ((v == t) ≡ true) ⊎ ((v == t) ≡ false) → behind (entries s n) v t ≡ true
            cases (inl e) = absurd (both_ways _ (h.order_is_kept.no_cycle t) (subst (λ (x : ℕ). reaches s.pairs x t ≡ true) (eqb-true v t e) reach))
            cases (inr e) = other (behind-total (entries s n) v t (at-has is_frame (entries s n) v fv) (at-has is_mark (entries s n) t m) (eqb-false v t e))

pub head-first : (es : List Entry) (t : ℕ) → is_some_of (first_open es) t ≡ true → first_open es ≡ Some t
head-first es t h = go (first_open es) h
  where
    go : (o : Option ℕ) → is_some_of o t ≡ true → o ≡ Some t
    go None k = absurd (true≢false (sym k))
    go (Some u) k = ap (λ (v : ℕ). Some v) (eqb-true u t k)

pub list-last : (graph : Graph) (s : Core) → IsLawful graph s → (n : ℕ) (es : List Entry) → ListStep graph s n es → FramesLast es
list-last graph s h n es (stays e) = subst FramesLast (sym e) (lawful-last graph s h n)
list-last graph s h n es (marks t x fresh r e) = subst FramesLast (sym e) (placed-last s t Mark (entries s n) refl fresh (lawful-last graph s h n) (λ f. absurd (true≢false (sym f))))
list-last graph s h n es (frames t w fresh r e) = subst FramesLast (sym e) (placed-last s t Frame (entries s n) refl fresh (lawful-last graph s h n) (λ _. place-no_done s (ended_before s.log) (lawful-Standing graph s h) h.framing_comes_last h.frames_are_open h.wants_are_covered t n (wants-live s t n w) w))
list-last graph s h n es (raises t w m e) = subst FramesLast (sym e) (raise-FramesLast t (entries s n) (lawful-last graph s h n) (raised-no_done graph s h t n w m))
list-last graph s h n es (finishes t v c ps f e) = subst FramesLast (sym e) (finish-FramesLast t v c ps (entries s n) (lawful-last graph s h n) (λ u k. first_open-none (entries s n) t u (h.one_entry n) (head-first (entries s n) t (at_front-heads graph s t n f)) k))
list-last graph s h n es (collects e) = subst FramesLast (sym e) (record { last = λ u v k f. last u v k f })
  where
    last : (u v : ℕ) → behind (collected (ended s) (entries s n)) u v ≡ true → at is_frame (collected (ended s) (entries s n)) u ≡ true → at is_done (collected (ended s) (entries s n)) v ≡ false
    last u v k f =
        let fu = collected-at is_frame (λ w. not (live s w)) (entries s n) u (h.one_entry n) f in
        let lu : live s u ≡ true = true_from_ne_false _ (λ e. both_ways _ (h.ended_is_prefix.no_frame n u e) fu) in
        let b = collected-behind_live (λ w. not (live s w)) (entries s n) u v (grind (arith, lu)) k in
        false_from_ne_true _ (λ d. both_ways _ (h.frames_are_open.behind_dones n u v b fu) (collected-at is_done (λ w. not (live s w)) (entries s n) v (h.one_entry n) d))
