-- Where a call has a Frame, all that reacts is open for it or wanted by it, after Frame.
use Rattle.std.proofs.Common.{◌≡◌, ℕ, ◌<◌, Bool, true, false, ◌&&◌, ◌||◌, not, ◌==◌, ◌⊎◌, inl, inr, refl, sym, ap, arith, List, [], ◌∷◌, ◌++◌, length, true≢false, ◌∙◌, subst, Some}
use Rattle.std.specs.Prelude.{slice_get}
use Rattle.std.specs.List.{list_any}
use Rattle.std.proofs.lemmas.List.Folds.{list_any-append}
use Rattle.std.proofs.lemmas.Bool.{or_cases, or_left, or_right, eqb-true, eq-eqb, eqb-false, false_from_ne_true, both_ways, cases_Bool, true_from_ne_false}
use Rattle.signal_graph.specs.Graph.{Graph, is_in, static_outs}
use Rattle.node_versions.specs.declared.entry.State.{State}
use Rattle.node_versions.specs.declared.entry.State.TheVariants.{Mark, Frame, Done}
use Rattle.node_versions.specs.declared.entry.Entry.{Entry}
use Rattle.node_versions.specs.Entries.{OutEdge, IsUnique, has, at, is_mark, is_frame, behind, first_open, active_nodes, with_state, front, rest, placed}
use Rattle.node_versions.proofs.Lists.{has-append}
use Rattle.node_versions.proofs.KeptLemmas.{has-with_state, IsUnique-with_state}
use Rattle.node_versions.proofs.Places.{at-has}
use Rattle.flow_model.specs.declared.step.Step.TheVariants as steps
use Rattle.flow_model.specs.Machine.State.{Core, Cell, live, executes, is_framing, entries, outs, opens, wants, precedes}
use Rattle.flow_model.specs.Machine.Words.{heads, active_outs}
use Rattle.flow_model.specs.Machine.Changes.{stops, stops_call, new_entry, place_entry, set_state, enter, raise, opened}
use Rattle.flow_model.specs.Machine.Steps.{allowed, apply, open_node}
use Rattle.flow_model.specs.Kept.Runs.{Run, Reading, read_state, read_all, nothing_read, runs, covers, reacts}
use Rattle.flow_model.specs.Kept.Lawful.{IsLawful, FramesSpread, FramesAreOpen, ended_before}
use Rattle.flow_model.proofs.OneStep.WhoMayStep.{frame-wants, wants-live, opens-live, is_framing-live}
use Rattle.flow_model.proofs.OneList.InOrder.{front-rest, front-has, rest-has}
use Rattle.flow_model.proofs.OrderStays.AfterEachStep.{lawful-Standing, wanted-fresh}
use Rattle.flow_model.proofs.OneList.StatesAndPlaces.{behind-has, behind-total, behind-trans, with_state-at, with_state-behind, first_open-frame, first_open-none, more-behind_it}
use Rattle.flow_model.proofs.OneList.OneEntryACall.{placed-unique, placed-has, placed-at_other}
use Rattle.flow_model.proofs.OrderStays.OpenNodesHaveFrames.{cell-there, cell-other, opened-opens, step-FramesAreOpen}
use Rattle.flow_model.proofs.OrderStays.NoFrameBeforeDones.{NotBefore, head-first, framing-part, executing-part}
use Rattle.flow_model.proofs.Wants.FramedWith.{opens-frame, heads-opens, before-not_after}
use Rattle.flow_model.proofs.Reactions.WhoReacts.{same-runs, read_all-append, same_lists-covers}
use Rattle.flow_model.proofs.FramesSpread.AfterOtherSteps.{same_outs, entered-covers, call-reacts}
use Rattle.flow_model.proofs.FramesSpread.AfterDones.{stated-covers}
use Rattle.flow_model.proofs.Wants.WantsAreFree.{opened-wants}
use Rattle.flow_model.proofs.FramesSpread.NewFrames.{IsFramed, framed-back, framed-active}

-- ---- lists

mark-read : (m : ℕ) (v : ℕ) (x : State) (q : Reading) → is_mark x ≡ true → read_state m v x q ≡ q
mark-read m v Mark q h = refl
mark-read m v Frame q h = absurd (true≢false (sym h))
mark-read m v (Done a b c) q h = absurd (true≢false (sym h))

raised-reading : (m t : ℕ) (es : List Entry) (q : Reading) → at is_mark es t ≡ true → read_all m (with_state t Frame es) q ≡ read_all m es q
raised-reading m t [] q h = refl
raised-reading m t (e ∷ es) q h = go (cases_Bool (e.version == t)) (raised-reading m t es (read_state m e.version e.state q))
  where
    go : ((e.version == t) ≡ true) ⊎ ((e.version == t) ≡ false) → (at is_mark es t ≡ true → read_all m (with_state t Frame es) (read_state m e.version e.state q) ≡ read_all m es (read_state m e.version e.state q)) → read_all m (with_state t Frame (e ∷ es)) q ≡ read_all m (e ∷ es) q
    go (inl w) further = rw (w, with_state) (ap (read_all m es) (sym (mark-read m e.version e.state q (rw (w, at) at h))))
    go (inr w) further = rw (w, with_state) (further (rw (w, at) at h))

behind-tail : (e : Entry) (es : List Entry) (z t : ℕ) → behind (e ∷ es) z t ≡ true → has es t ≡ true
behind-tail e es z t h = go (cases_Bool (e.version == z))
  where
    go : ((e.version == z) ≡ true) ⊎ ((e.version == z) ≡ false) → has es t ≡ true
    go (inl w) = rw (w, behind) at h
    go (inr w) = (behind-has es z t (rw (w, behind) at h)).1

-- A Mark that is raised behind the first Frame leaves it the first.
raised-first : (es : List Entry) (z t : ℕ) → IsUnique es → first_open es ≡ Some z → behind es z t ≡ true → first_open (with_state t Frame es) ≡ Some z
raised-first [] z t u f b = absurd (true≢false (sym b))
raised-first (e ∷ es) z t u f b = go (is_frame e.state) refl (raised-first es z t u.1)
  where
    ne : (e.version == t) ≡ false
    ne = false_from_ne_true _ (λ x. both_ways _ u.0 (subst (λ (w : ℕ). has es w ≡ true) (sym (eqb-true e.version t x)) (behind-tail e es z t b)))

    go : (y : Bool) → is_frame e.state ≡ y → (first_open es ≡ Some z → behind es z t ≡ true → first_open (with_state t Frame es) ≡ Some z) → first_open (with_state t Frame (e ∷ es)) ≡ Some z
    go true y further = rw (ne, with_state) (rw (y, first_open) (rw (y, first_open) at f))
    go false y further =
        let f2 : first_open es ≡ Some z = rw (y, first_open) at f in
        let apart : (e.version == z) ≡ false = false_from_ne_true _ (λ x. both_ways _ u.0 (subst (λ (w : ℕ). has es w ≡ true) (sym (eqb-true e.version z x)) (at-has is_frame es z (first_open-frame es z u.1 f2)))) in
        rw (ne, with_state) (rw (y, first_open) (further f2 (rw (apart, behind) at b)))

-- The first Frame of a list is the first of each list that begins with the part in which it stands.
first-in_front : (xs ys zs : List Entry) (z : ℕ) → IsUnique (xs ++ ys) → first_open (xs ++ ys) ≡ Some z → has xs z ≡ true → first_open (xs ++ zs) ≡ Some z
first-in_front [] ys zs z u f h = absurd (true≢false (sym h))
first-in_front (e ∷ es) ys zs z u f h = go (is_frame e.state) refl (first-in_front es ys zs z u.1)
  where
    go : (y : Bool) → is_frame e.state ≡ y → (first_open (es ++ ys) ≡ Some z → has es z ≡ true → first_open (es ++ zs) ≡ Some z) → first_open ((e ∷ es) ++ zs) ≡ Some z
    go true y further = rw (y, first_open) (rw (y, first_open) at f)
    go false y further =
        let f2 : first_open (es ++ ys) ≡ Some z = rw (y, first_open) at f in
        let apart : (e.version == z) ≡ false = false_from_ne_true _ (λ x. both_ways _ u.0 (subst (λ (w : ℕ). has (es ++ ys) w ≡ true) (sym (eqb-true e.version z x)) (at-has is_frame (es ++ ys) z (first_open-frame (es ++ ys) z u.1 f2)))) in
        rw (y, first_open) (further f2 (rw (apart, has) at h))

-- ---- the call that covers

-- Two calls of a list, the first before the second, stand there in this order.
order-behind : (graph : Graph) (s : Core) → IsLawful graph s → (n u v : ℕ) → has (entries s n) u ≡ true → has (entries s n) v ≡ true → live s u ≡ true → (u == v) ≡ false → precedes s u v ≡ true → behind (entries s n) u v ≡ true
order-behind graph s h n u v hu hv lu ne p = go (or_cases _ _ (behind-total (entries s n) u v hu hv (eqb-false u v ne)))
  where
    go : (behind (entries s n) u v ≡ true) ⊎ (behind (entries s n) v u ≡ true) → behind (entries s n) u v ≡ true
    go (inl b) = b
    go (inr b) = absurd (both_ways _ (before-not_after graph s h u v p) (h.order_is_kept.lists n v u b lu))

-- ---- a Mark that is raised

pub raised-framed : (graph : Graph) (s : Core) → IsLawful graph s → (t m0 : ℕ) → wants s t m0 ≡ true → at is_mark (entries s m0) t ≡ true → m0 < length s.cells → IsFramed graph s (raise s t m0) t m0
raised-framed graph s h t m0 w mark there = record {
  other = λ n ne. ap (λ (c : Cell). c.entries) (cell-other s m0 n (set_state t Frame) ne);
  edges = same_outs s m0 (set_state t Frame) (λ c. refl);
  lives = λ z l. l;
  back = λ u m n _ i r _ k. stated-covers s m0 t Frame m u r k;
  one = subst IsUnique (sym list) (IsUnique-with_state t Frame es (h.one_entry m0));
  reading = λ m. ap (λ (xs : List Entry). read_all m xs nothing_read) list ∙ raised-reading m t es nothing_read mark;
  frame_of = λ u f ne. let a = with_state-at is_frame t Frame es u in let g = subst (λ (xs : List Entry). at is_frame xs u ≡ true) list f in shown (u == t) (at is_frame es u) (at is_frame (with_state t Frame es) u) (has es t) a ne g;
  head = λ z hd x. ap first_open list ∙ raised-first es z t (h.one_entry m0) (head-first es z hd) (behind_head z hd);
  settled = λ z l x k b. both_ways _ (h.settled_is_kept.none_before v z m0 k (behind-trans es v t z (h.one_entry m0) v_first (was z b))) fv;
  ended = λ z d b. both_ways _ (h.ended_is_prefix.prefix m0 t z (was z b) d) lt;
  entry = ap (λ (xs : List Entry). has xs t) list ∙ has-with_state t Frame es t ∙ at-has is_mark es t mark;
}
  where
    es : List Entry
    es = entries s m0

    list : entries (raise s t m0) m0 ≡ with_state t Frame es
    list = ap (λ (c : Cell). c.entries) (cell-there s m0 (set_state t Frame) there)

    lt : live s t ≡ true
    lt = wants-live s t m0 w

    xt : executes s t ≡ true
    xt = true_from_ne_false _ (λ e. both_ways _ (h.framing_comes_last.no_mark t m0 (let f : is_framing s t ≡ true = grind (arith, e, lt) in f)) mark)

    v : ℕ
    v = (h.wants_are_covered t m0 xt w).by.0

    ov : opens s v m0 ≡ true
    ov = (h.wants_are_covered t m0 xt w).by.2

    fv : at is_frame es v ≡ true
    fv = opens-frame graph s h v m0 ov

    apart : (v == t) ≡ false
    apart = false_from_ne_true _ (λ e. both_ways _ (h.wants_are_free t m0 w).not_open (subst (λ (j : ℕ). opens s j m0 ≡ true) (eqb-true v t e) ov))

    v_first : behind es v t ≡ true
    v_first = order-behind graph s h m0 v t (at-has is_frame es v fv) (at-has is_mark es t mark) (opens-live s v m0 ov) apart (h.wants_are_covered t m0 xt w).by.1

    was : (z : ℕ) → behind (entries (raise s t m0) m0) t z ≡ true → behind es t z ≡ true
    was z b = sym (with_state-behind t Frame es t z) ∙ subst (λ (xs : List Entry). behind xs t z ≡ true) list b

    shown : (x a b c : Bool) → b ≡ elim x as (λ _. Bool) [ true ↦ c && true | false ↦ a ] → x ≡ false → b ≡ true → a ≡ true
    shown x a b c h k j = grind (arith, h, k, j)

    -- the first Frame stands before the Mark, since that of the covering call does
    behind_head : (z : ℕ) → heads s z m0 ≡ true → behind es z t ≡ true
    behind_head z hd = go (or_cases _ _ (behind-total es z t (at-has is_frame es z fz) (at-has is_mark es t mark) (λ e. both_ways _ (h.wants_are_free t m0 w).not_open (subst (λ (j : ℕ). opens s j m0 ≡ true) e (heads-opens graph s h z m0 hd)))))
      where
        fz : at is_frame es z ≡ true
        fz = opens-frame graph s h z m0 (heads-opens graph s h z m0 hd)

        go : (behind es z t ≡ true) ⊎ (behind es t z ≡ true) → behind es z t ≡ true
        go (inl b) = b
        go (inr b) = absurd (both_ways _ (first_open-none es z v (h.one_entry m0) (head-first es z hd) (behind-trans es v t z (h.one_entry m0) v_first b)) fv)

-- ---- a new Frame

-- Behind its place stand neither an executing call's settled entry nor its first Frame.
entered-part : (graph : Graph) (s : Core) → IsLawful graph s → (t m0 : ℕ) → wants s t m0 ≡ true → (z : ℕ) → executes s z ≡ true → has (rest (stops s t) (entries s m0)) z ≡ true
    → ((v : ℕ) → at is_frame (entries s m0) v ≡ true → behind (entries s m0) v z ≡ true → ⊥) → ⊥
entered-part graph s h t m0 w z xz k none = go (cases_Bool (executes s t))
  where
    lt : live s t ≡ true
    lt = wants-live s t m0 w

    covered : (v : ℕ) → executes s t ≡ true → precedes s v t ≡ true → opens s v m0 ≡ true → ⊥
    covered v x b o = order (or_cases _ _ (behind-total (entries s m0) v z (at-has is_frame (entries s m0) v fv) (rest-has (stops_call s t) (entries s m0) z k) (λ e. p.other (sym e))))
      where
        fv : at is_frame (entries s m0) v ≡ true
        fv = opens-frame graph s h v m0 o

        p : NotBefore s v z
        p = executing-part s (ended_before s.log) (lawful-Standing graph s h) t m0 v lt (opens-live s v m0 o) x b z k

        order : (behind (entries s m0) v z ≡ true) ⊎ (behind (entries s m0) z v ≡ true) → ⊥
        order (inl a) = none v fv a
        order (inr a) = let r = h.order_is_kept.lists m0 z v a (opens-live s v m0 o) in let c = p.no_chain in let l = p.live_it in let b2 : ⊥ = grind (arith, r, c, l) in b2

    go : (executes s t ≡ true) ⊎ (executes s t ≡ false) → ⊥
    go (inr x) = let f = framing-part s (ended_before s.log) (lawful-Standing graph s h) t m0 lt (let g : is_framing s t ≡ true = grind (arith, x, lt) in g) z k in let b : ⊥ = grind (arith, f, xz) in b
    go (inl x) = let c = h.wants_are_covered t m0 x w in covered c.by.0 x c.by.1 c.by.2

-- All behind the place live.
entered-live : (graph : Graph) (s : Core) → IsLawful graph s → (t m0 : ℕ) → wants s t m0 ≡ true → (z : ℕ) → has (rest (stops s t) (entries s m0)) z ≡ true → live s z ≡ true
entered-live graph s h t m0 w z k = go (cases_Bool (executes s t))
  where
    lt : live s t ≡ true
    lt = wants-live s t m0 w

    go : (executes s t ≡ true) ⊎ (executes s t ≡ false) → live s z ≡ true
    go (inr x) = is_framing-live s z (framing-part s (ended_before s.log) (lawful-Standing graph s h) t m0 lt (let g : is_framing s t ≡ true = grind (arith, x, lt) in g) z k)
    go (inl x) = let c = h.wants_are_covered t m0 x w in (executing-part s (ended_before s.log) (lawful-Standing graph s h) t m0 c.by.0 lt (opens-live s c.by.0 m0 c.by.2) x c.by.1 z k).live_it

pub entered-framed : (graph : Graph) (s : Core) → IsLawful graph s → (t m0 : ℕ) → wants s t m0 ≡ true → has (entries s m0) t ≡ false → m0 < length s.cells → IsFramed graph s (enter s t m0 Frame) t m0
entered-framed graph s h t m0 w fresh there = record {
  other = λ n ne. ap (λ (c : Cell). c.entries) (cell-other s m0 n (place_entry s t Frame) ne);
  edges = same_outs s m0 (place_entry s t Frame) (λ c. refl);
  lives = λ z l. l;
  back = λ u m n ne i r e k. back u m n i r e k ne;
  one = subst IsUnique (sym list) (placed-unique (stops_call s t) (new_entry s t Frame) es fresh (h.one_entry m0));
  reading = λ m. ap (λ (xs : List Entry). read_all m xs nothing_read) list ∙ read_all-append m xs (new_entry s t Frame ∷ ys) nothing_read ∙ sym (read_all-append m xs ys nothing_read) ∙ ap (λ (zs : List Entry). read_all m zs nothing_read) joined;
  frame_of = λ u f ne. sym (placed-at_other is_frame (stops_call s t) (new_entry s t Frame) es u (eqb-false u t ne)) ∙ subst (λ (zs : List Entry). at is_frame zs u ≡ true) list f;
  head = λ z hd x. ap first_open list ∙ first-in_front xs ys (new_entry s t Frame ∷ ys) z (subst IsUnique (sym joined) (h.one_entry m0)) (ap first_open joined ∙ head-first es z hd) (in_front z hd x);
  settled = λ z l x k b. entered-part graph s h t m0 w z x (in_rest z b) (λ v fv a. both_ways _ (h.settled_is_kept.none_before v z m0 k a) fv);
  ended = λ z d b. both_ways _ d (entered-live graph s h t m0 w z (in_rest z b));
  entry = ap (λ (zs : List Entry). has zs t) list ∙ placed-has (stops_call s t) (new_entry s t Frame) es t ∙ or_left _ _ (eq-eqb t t refl);
}
  where
    es : List Entry
    es = entries s m0

    xs : List Entry
    xs = front (stops s t) es

    ys : List Entry
    ys = rest (stops s t) es

    joined : xs ++ ys ≡ es
    joined = front-rest (stops_call s t) es

    list : entries (enter s t m0 Frame) m0 ≡ placed (stops s t) (new_entry s t Frame) es
    list = ap (λ (c : Cell). c.entries) (cell-there s m0 (place_entry s t Frame) there)

    not_in_front : has xs t ≡ false
    not_in_front = false_from_ne_true _ (λ k. both_ways _ fresh (front-has (stops_call s t) es t k))

    in_rest : (z : ℕ) → behind (entries (enter s t m0 Frame) m0) t z ≡ true → has ys z ≡ true
    in_rest z b = sym (more-behind_it xs ys (new_entry s t Frame) z not_in_front) ∙ subst (λ (zs : List Entry). behind zs t z ≡ true) list b

    back : (u m n i : ℕ) (r : Run) → slice_get (runs s n m) i ≡ Some r → covers (enter s t m0 Frame) m u r ≡ true → ((t == u) ≡ false) ⊎ ((m == m0) ≡ false) → covers s m u r ≡ true
    back u m n i r e k (inl ne) = entered-covers graph s h Frame t m0 u m n fresh ne i r e k
    back u m n i r e k (inr ne) = same_lists-covers s (enter s t m0 Frame) m u (ap (λ (c : Cell). c.entries) (cell-other s m0 m (place_entry s t Frame) ne)) (λ z j l. l) r k

    in_front : (z : ℕ) → heads s z m0 ≡ true → executes s z ≡ true → has xs z ≡ true
    in_front z hd x = go (or_cases (has xs z) (has ys z) (sym (has-append xs ys z) ∙ ap (λ (zs : List Entry). has zs z) joined ∙ at-has is_frame es z (opens-frame graph s h z m0 (heads-opens graph s h z m0 hd))))
      where
        go : (has xs z ≡ true) ⊎ (has ys z ≡ true) → has xs z ≡ true
        go (inl k) = k
        go (inr k) = absurd (entered-part graph s h t m0 w z x k (λ v fv a. both_ways _ (first_open-none es z v (h.one_entry m0) (head-first es z hd) a) fv))

-- ---- the step

opened-spread : (graph : Graph) (s : Core) → IsLawful graph s → (q : Core) (t m0 : ℕ) → wants s t m0 ≡ true → IsFramed graph s q t m0 → ((u n : ℕ) → opens q u n ≡ opens s u n) → ((u n : ℕ) → wants q u n ≡ wants s u n) → live q t ≡ true
    → FramesAreOpen (open_node graph q t m0) → FramesSpread graph (open_node graph q t m0)
opened-spread graph s h q t m0 w fr os ws lq f u m n k r = go (cases_Bool (u == t)) (cases_Bool (m == m0))
  where
    xs : List ℕ
    xs = active_outs graph q t m0

    after : Core
    after = open_node graph q t m0

    back : reacts graph q u m n ≡ true
    back = call-reacts graph q t (opened m0 xs) (λ c. refl) u m n r

    keeps : (o w o2 w2 x e a : Bool) → o2 ≡ (o || (x && e)) → (x ≡ true → w2 ≡ (a || (w && not e))) → (x ≡ false → w2 ≡ w) → (o || w) ≡ true → (o2 || w2) ≡ true
    keeps true w o2 w2 x e a h j i k = rw h refl
    keeps false true o2 w2 false e a h j i k = let z = i refl in grind (arith, h, z)
    keeps false true o2 w2 true e a h j i k = let z = j refl in grind (arith, h, z)
    keeps false false o2 w2 x e a h j i k = absurd (true≢false (sym k))

    still : (opens s u n || wants s u n) ≡ true → (opens after u n || wants after u n) ≡ true
    still x =
        let y : (opens q u n || wants q u n) ≡ true = ap (λ (b : Bool). b || wants q u n) (os u n) ∙ ap (λ (b : Bool). opens s u n || b) (ws u n) ∙ x in
        let v = opened-wants q t m0 xs u n lq in
        keeps (opens q u n) (wants q u n) (opens after u n) (wants after u n) (u == t) (n == m0) (is_in n xs && not ((n == m0) || opens q t n)) (opened-opens q t m0 xs u n lq)
        (λ e. rw e at v ∙ ap (λ (j : ℕ). (is_in n xs && not ((n == m0) || opens q t n)) || (wants q j n && not (n == m0))) (sym (eqb-true u t e)))
        (λ e. rw e at v) y

    before : ((u == t) && (m == m0)) ≡ false → ((t == u) ≡ false) ⊎ ((m == m0) ≡ false) → (opens after u n || wants after u n) ≡ true
    before e ne =
        let a = opened-opens q t m0 xs u m lq in
        let b : opens after u m ≡ true = f.opens_frames u m ∙ k in
        let o : opens s u m ≡ true = sym (os u m) ∙ kept (opens after u m) (opens q u m) ((u == t) && (m == m0)) a e b in
        still (h.frames_spread u m n (opens-frame graph s h u m o) (framed-back graph s h q t m0 w fr u m n ne back))
      where
        kept : (a b x : Bool) → a ≡ (b || x) → x ≡ false → a ≡ true → b ≡ true
        kept a b x h j i = grind (arith, h, j, i)

    -- what is framed with the node is open or wanted
    reached : is_in n xs ≡ true → (opens after t n || wants after t n) ≡ true
    reached x =
        let v = opened-wants q t m0 xs t n lq in
        let o = opened-opens q t m0 xs t n lq in
        let e = eq-eqb t t refl in
        join (is_in n xs) (n == m0) (opens q t n) (wants q t n) (opens after t n) (wants after t n) x (rw e at o) (rw e at v)
      where
        join : (x e o w o2 w2 : Bool) → x ≡ true → o2 ≡ (o || (true && e)) → w2 ≡ ((x && not (e || o)) || (w && not e)) → (o2 || w2) ≡ true
        join x e true w o2 w2 a b c = grind (arith, a, b, c)
        join x true false w o2 w2 a b c = grind (arith, a, b, c)
        join x false false w o2 w2 a b c = grind (arith, a, b, c)

    new : u ≡ t → m ≡ m0 → ((n == m0) ≡ true) ⊎ ((n == m0) ≡ false) → (opens after t n || wants after t n) ≡ true
    new e j (inl x) = let o = opened-opens q t m0 xs t n lq in let y = eq-eqb t t refl in let p : opens after t n ≡ true = grind (arith, o, y, x) in or_left (opens after t n) (wants after t n) p
    new e j (inr x) = reached (list_any-append (λ z. z == n) (static_outs graph m0) (active_nodes (entries q m0) (outs q m0) t) ∙ either (or_cases _ _ (subst (λ (z : ℕ). reacts graph q z m0 n ≡ true) e (subst (λ (z : ℕ). reacts graph q u z n ≡ true) j back))))
      where
        either : (is_in n (static_outs graph m0) ≡ true) ⊎ (list_any (covers q m0 t) (runs q n m0) ≡ true) → (is_in n (static_outs graph m0) || is_in n (active_nodes (entries q m0) (outs q m0) t)) ≡ true
        either (inl a) = or_left _ _ a
        either (inr a) = or_right _ _ (subst (λ (es : List OutEdge). is_in n (active_nodes (entries q m0) es t) ≡ true) (sym (fr.edges m0))
            (framed-active graph s h q t m0 (wants-live s t m0 w) fr n x (subst (λ (rs : List Run). list_any (covers q m0 t) rs ≡ true) (same-runs s q n m0 (fr.other n x) (fr.edges m0)) a)))

    go : ((u == t) ≡ true) ⊎ ((u == t) ≡ false) → ((m == m0) ≡ true) ⊎ ((m == m0) ≡ false) → (opens after u n || wants after u n) ≡ true
    go (inl x) (inl y) = subst (λ (z : ℕ). (opens after z n || wants after z n) ≡ true) (sym (eqb-true u t x)) (new (eqb-true u t x) (eqb-true m m0 y) (cases_Bool (n == m0)))
    go (inl x) (inr y) = before (grind (arith, y)) (inr y)
    go (inr x) y = before (grind (arith, x)) (inl (false_from_ne_true _ (λ z. both_ways _ x (eq-eqb u t (sym (eqb-true t u z))))))

pub framed-spread : (graph : Graph) (s : Core) (t m0 : ℕ) → IsLawful graph s → allowed graph s (steps.Frame t m0) ≡ true → FramesSpread graph (apply graph s (steps.Frame t m0))
framed-spread graph s t m0 h a = go (at is_mark (entries s m0) t) refl (step-FramesAreOpen graph s (steps.Frame t m0) h a)
  where
    wanted : wants s t m0 ≡ true
    wanted = frame-wants graph s t m0 a

    lt : live s t ≡ true
    lt = wants-live s t m0 wanted

    there : m0 < length s.cells
    there = let e = h.lists in let f = (h.wants_are_free t m0 wanted).node in omega (arith, e, f)

    go : (b : Bool) → at is_mark (entries s m0) t ≡ b → FramesAreOpen (elim b [ true ↦ open_node graph (raise s t m0) t m0 | false ↦ open_node graph (enter s t m0 Frame) t m0 ]) → FramesSpread graph (elim b [ true ↦ open_node graph (raise s t m0) t m0 | false ↦ open_node graph (enter s t m0 Frame) t m0 ])
    go true e f = opened-spread graph s h (raise s t m0) t m0 wanted (raised-framed graph s h t m0 wanted e there) (λ u n. refl) (λ u n. refl) lt f
    go false e f = opened-spread graph s h (enter s t m0 Frame) t m0 wanted (entered-framed graph s h t m0 wanted (wanted-fresh graph s h t m0 wanted e) there) (λ u n. refl) (λ u n. refl) lt f
