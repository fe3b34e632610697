-- Each change of which steps are made keeps the order: no cycle, phases apart, lists in order.
use Rattle.std.proofs.Common.{◌≡◌, ℕ, suc, Bool, true, false, ◌&&◌, ◌||◌, not, ◌==◌, ◌⊎◌, ◌≢◌, inl, inr, refl, sym, ap, arith, List, true≢false, ◌∙◌, subst, Option, Some, None, map}
use Rattle.std.specs.Prelude.{is_some}
use Rattle.std.proofs.lemmas.Bool.Decides.{eqb_tells}
use Rattle.std.proofs.lemmas.Bool.{and_parts, eqb-true, eq-eqb, false_from_ne_true, both_ways, cases_Bool}
use Rattle.script_tree.specs.declared.value.Value.{Value}
use Rattle.signal_graph.specs.declared.call.Call.{Call}
use Rattle.signal_graph.specs.Graph.{Graph}
use Rattle.order_graph.specs.declared.pair.Pair.{Pair}
use Rattle.order_graph.specs.Order.{is_recorded, reaches, retired}
use Rattle.order_graph.proofs.Reaching.{recorded-reaches}
use Rattle.node_versions.specs.declared.entry.State.{State}
use Rattle.node_versions.specs.declared.entry.State.TheVariants.{Mark, Frame, Done}
use Rattle.node_versions.specs.declared.entry.Entry.{Entry}
use Rattle.node_versions.specs.Entries.{has, at, is_mark, with_state, collected}
use Rattle.flow_model.specs.declared.step.Step.TheVariants.{End}
use Rattle.flow_model.specs.Machine.State.{Core, LiveCall, Cell, call_of, call_or, live, ended, executes, is_framing, entries, with_cell, with_call}
use Rattle.flow_model.specs.Machine.Changes.{enter, ensure_mark, set_state, raise, finish, tell}
use Rattle.flow_model.specs.Machine.Steps.{apply, begin, new_call, is_framing_before, any_framing_before, any_before, open_node, frame, started, without_call, collect}
use Rattle.flow_model.proofs.OneList.InOrder.{Ascends, Ascends-map-in, with_state-Ascends, collected-Ascends, IsTransitive}
use Rattle.flow_model.proofs.OneList.Entering.{Stands, Standing, Comes, Comes_in, Apart, enter-Standing, with_cell-entries}
use Rattle.flow_model.proofs.OneList.CallsAndCells.{KeepsPhase, with_call-live, with_call-executes, map_call-live, map_call-executes, list_any-none, call_of-append, without_call-other, without_call-same, started-executes, last_call}
use Rattle.flow_model.proofs.OneList.Chains.{LastPair, last_pair, reaches-retire, none-reaches}

-- ---- Where a step leaves the parts alone

pub with_call-Standing : (s : Core) (old : ℕ → ℕ → Bool) (t : ℕ) (f : LiveCall → LiveCall) → KeepsPhase f → Standing s old → Standing (with_call s t f) old
with_call-Standing s old t f k h =
    subst (λ (x : ℕ → Bool). Stands s.pairs (live (with_call s t f)) x (entries s) old) (sym (with_call-executes s t f k))
    (subst (λ (l : ℕ → Bool). Stands s.pairs l (executes s) (entries s) old) (sym (with_call-live s t f k.version)) h)

map_call-Standing : (s : Core) (old : ℕ → ℕ → Bool) (f : LiveCall → LiveCall) → KeepsPhase f → Standing s old → Standing (record s { calls = map f s.calls }) old
map_call-Standing s old f k h =
    subst (λ (x : ℕ → Bool). Stands s.pairs (live (record s { calls = map f s.calls })) x (entries s) old) (sym (map_call-executes s f k))
    (subst (λ (l : ℕ → Bool). Stands s.pairs l (executes s) (entries s) old) (sym (map_call-live s f k.version)) h)

-- A list is changed to one that ascends where it did.
with_cell-Standing : (s : Core) (old : ℕ → ℕ → Bool) (n : ℕ) (f : Cell → Cell) (g : List Entry → List Entry) → ((c : Cell) → (f c).entries ≡ g c.entries)
    → ((es : List Entry) → Ascends (Comes s old) es → Ascends (Comes s old) (g es)) → Standing s old → Standing (with_cell s n f) old
with_cell-Standing s old n f g same keeps h = record {
  order = h.order;
  pairs_live = h.pairs_live;
  old_transitive = h.old_transitive;
  lists = λ m. go m (with_cell-entries s n f g same m);
}
  where
    go : (m : ℕ) → (entries (with_cell s n f) m ≡ entries s m) ⊎ ((m ≡ n) × (entries (with_cell s n f) m ≡ g (entries s m))) → Ascends (Comes s old) (entries (with_cell s n f) m)
    go m (inl e) = subst (Ascends (Comes s old)) (sym e) (h.lists m)
    go m (inr e) = subst (Ascends (Comes s old)) (sym e.1) (keeps (entries s m) (h.lists m))

-- ---- The steps

pub same_list-Standing : (s : Core) (old : ℕ → ℕ → Bool) (n : ℕ) (f : Cell → Cell) → ((c : Cell) → (f c).entries ≡ c.entries) → Standing s old → Standing (with_cell s n f) old
same_list-Standing s old n f same h = with_cell-Standing s old n f (λ es. es) same (λ es k. k) h

set_state-Standing : (s : Core) (old : ℕ → ℕ → Bool) (t n : ℕ) (state : State) → Standing s old → Standing (with_cell s n (set_state t state)) old
set_state-Standing s old t n state h = with_cell-Standing s old n _ (with_state t state) (λ c. refl) (with_state-Ascends (Comes s old) t state) h

pub finish-Standing : (s : Core) (old : ℕ → ℕ → Bool) (t n : ℕ) (v : Value) (changed : Bool) (ps : List (Option ℕ)) → Standing s old → Standing (finish s t n v changed ps) old
finish-Standing s old t n v changed ps h = with_call-Standing (with_cell s n (set_state t (Done v changed ps))) old t _ (record { version = λ c. refl; executing = λ c. refl }) (set_state-Standing s old t n (Done v changed ps) h)

open_node-Standing : (graph : Graph) (s : Core) (old : ℕ → ℕ → Bool) (t n : ℕ) → Standing s old → Standing (open_node graph s t n) old
open_node-Standing graph s old t n h = with_call-Standing s old t _ (record { version = λ c. refl; executing = λ c. refl }) h

pub ensure_mark-Standing : (s : Core) (old : ℕ → ℕ → Bool) (t m : ℕ) → Standing s old → live s t ≡ true → Standing (ensure_mark s t m) old
ensure_mark-Standing s old t m h lt = go (has (entries s m) t) refl
  where
    go : (b : Bool) → has (entries s m) t ≡ b → Standing (elim b [ true ↦ s | false ↦ enter s t m Mark ]) old
    go true e = h
    go false e = enter-Standing s old t m Mark h lt e

pub tell-Standing : (s : Core) (old : ℕ → ℕ → Bool) (t n m : ℕ) → Standing s old → Standing (tell s t n m) old
tell-Standing s old t n m h = map_call-Standing s old _ (record { version = λ c. refl; executing = λ c. refl }) h

pub frame-Standing : (graph : Graph) (s : Core) (old : ℕ → ℕ → Bool) (t n : ℕ) → Standing s old → live s t ≡ true → (at is_mark (entries s n) t ≡ false → has (entries s n) t ≡ false) → Standing (frame graph s t n) old
frame-Standing graph s old t n h lt fresh = go (at is_mark (entries s n) t) refl
  where
    go : (b : Bool) → at is_mark (entries s n) t ≡ b → Standing (elim b [ true ↦ open_node graph (raise s t n) t n | false ↦ open_node graph (enter s t n Frame) t n ]) old
    go true e = open_node-Standing graph (raise s t n) old t n (set_state-Standing s old t n Frame h)
    go false e = open_node-Standing graph (enter s t n Frame) old t n (enter-Standing s old t n Frame h lt (fresh e))

-- An ended call comes before each live one.
ended-Comes : (s : Core) (old : ℕ → ℕ → Bool) (u v : ℕ) → not (live s u) ≡ true → not (live s v) ≡ false → Comes s old u v
ended-Comes s old u v a b = grind arith

pub collect-Standing : (s : Core) (old : ℕ → ℕ → Bool) (n : ℕ) → Standing s old → Standing (with_cell s n (collect s)) old
collect-Standing s old n h = with_cell-Standing s old n _ (collected (ended s)) (λ c. refl) (collected-Ascends (Comes s old) (λ v. not (live s v)) (ended-Comes s old)) h

-- ---- Start

no_framing_reaches : (ps : List Pair) (f x : ℕ → Bool) (t : ℕ) → Apart ps f x → ((w : ℕ) → is_recorded ps w t ≡ true → (f w ≡ false) × (x w ≡ true)) → (u : ℕ) → f u ≡ true → reaches ps u t ≡ false
no_framing_reaches ps f x t h none u fu = false_from_ne_true _ (λ r. go (last_pair ps u t r))
  where
    go : LastPair ps u t → ⊥
    go l = both l.2
      where
        both : ((u ≡ l.0) ⊎ (reaches ps u l.0 ≡ true)) → ⊥
        both (inl e) = both_ways _ (none l.0 l.1).0 (subst (λ (w : ℕ). f w ≡ true) e fu)
        both (inr r) = both_ways _ (h.apart u l.0 fu (none l.0 l.1).1) r

-- t executes from now on.
start-Apart : (ps : List Pair) (lives runs now : ℕ → Bool) (t : ℕ) → Apart ps (λ u. lives u && not (runs u)) runs → ((u : ℕ) → now u ≡ ((u == t) || runs u))
    → ((u : ℕ) → (lives u && not (runs u)) ≡ true → reaches ps u t ≡ false) → Apart ps (λ u. lives u && not (now u)) now
start-Apart ps lives runs now t h e none = record {
  no_cycle = h.no_cycle;
  apart = λ u v fu xv.
      let eu = e u in
      let ev = e v in
      let a = h.apart u v in
      let n = none u in
      grind (arith, eqb_tells, eu, ev, a, n);
}

start-Stands : (s : Core) (old : ℕ → ℕ → Bool) (t : ℕ) → Standing s old → live s t ≡ true → ((u : ℕ) → is_framing s u ≡ true → reaches s.pairs u t ≡ false)
    → Stands s.pairs (live s) (executes (with_call s t started)) (entries s) old
start-Stands s old t h lt none = record {
  order = start-Apart s.pairs (live s) (executes s) (executes (with_call s t started)) t h.order (λ u. started-executes t s.calls u lt) none;
  pairs_live = h.pairs_live;
  old_transitive = h.old_transitive;
  lists = h.lists;
}

-- No direct predecessor frames.
executing_before : (s : Core) (t w : ℕ) → any_framing_before s t ≡ false → live s w ≡ true → is_recorded s.pairs w t ≡ true → (is_framing s w ≡ false) × (executes s w ≡ true)
executing_before s t w h lw r = go (call_of s.calls w) refl
  where
    go : (o : Option LiveCall) → call_of s.calls w ≡ o → (is_framing s w ≡ false) × (executes s w ≡ true)
    go None e = absurd (true≢false (sym lw ∙ ap is_some e))
    go (Some c) e = let q = list_any-none (is_framing_before s t) s.calls w c h e in grind (arith, q)

pub start-Standing : (s : Core) (old : ℕ → ℕ → Bool) (t : ℕ) → Standing s old → live s t ≡ true → any_framing_before s t ≡ false → Standing (with_call s t started) old
start-Standing s old t h lt none = subst (λ (l : ℕ → Bool). Stands s.pairs l (executes (with_call s t started)) (entries s) old) (sym (with_call-live s t started (λ c. refl)))
    (start-Stands s old t h lt (no_framing_reaches s.pairs (is_framing s) (executes s) t h.order
    (λ w r. executing_before s t w none (and_parts (live s w) _ (h.pairs_live w t (recorded-reaches s.pairs w t r))).0 r)))

-- ---- End

pub reads_without : (reads : Option LiveCall → Bool) → reads None ≡ false → (t : ℕ) (cs : List LiveCall) (u : ℕ) → reads (call_of (without_call t cs) u) ≡ (not (u == t) && reads (call_of cs u))
reads_without reads none t cs u = go (cases_Bool (u == t))
  where
    go : ((u == t) ≡ true) ⊎ ((u == t) ≡ false) → reads (call_of (without_call t cs) u) ≡ (not (u == t) && reads (call_of cs u))
    go (inl e) = rw e (subst (λ (w : ℕ). reads (call_of (without_call t cs) w) ≡ false) (sym (eqb-true u t e)) (ap reads (without_call-same t cs) ∙ none))
    go (inr e) = rw e (ap reads (without_call-other t u cs (λ x. both_ways _ e (eq-eqb u t x))))

end-Apart : (ps : List Pair) (lives runs lives2 runs2 : ℕ → Bool) (t : ℕ) → ((w : ℕ) → is_recorded ps w t ≡ false) → Apart ps (λ u. lives u && not (runs u)) runs
    → ((u : ℕ) → lives2 u ≡ (not (u == t) && lives u)) → ((u : ℕ) → runs2 u ≡ (not (u == t) && runs u)) → Apart (retired ps t) (λ u. lives2 u && not (runs2 u)) runs2
end-Apart ps lives runs lives2 runs2 t none h el er = record {
  no_cycle = λ u. let r = reaches-retire ps t u u none in let c = h.no_cycle u in grind (arith, r, c);
  apart = λ u v fu xv.
      let e1 = el u in
      let e2 = er u in
      let e3 = er v in
      let a = h.apart u v in
      let r = reaches-retire ps t u v none in
      grind (arith, eqb_tells, e1, e2, e3, a, r);
}

end-Comes : (ps : List Pair) (lives lives2 : ℕ → Bool) (old now : ℕ → ℕ → Bool) (t : ℕ) → lives t ≡ true → ((w : ℕ) → is_recorded ps w t ≡ false) → ((u : ℕ) → lives2 u ≡ (not (u == t) && lives u))
    → ((u v : ℕ) → old u v ≡ true → now u v ≡ true) → (u v : ℕ) → (lives u ≡ false → now u t ≡ true) → Comes_in ps lives old u v → Comes_in (retired ps t) lives2 now u v
end-Comes ps lives lives2 old now t lt none el more u v joins k =
    let e1 = el u in
    let e2 = el v in
    let r = none-reaches ps t u none in
    let q = reaches-retire ps t u v none in
    let m = more u v in
    grind (arith, eqb_tells, e1, e2, r, q, m)

end-pairs_live : (ps : List Pair) (lives lives2 : ℕ → Bool) (t : ℕ) → ((w : ℕ) → is_recorded ps w t ≡ false) → ((u : ℕ) → lives2 u ≡ (not (u == t) && lives u))
    → ((u v : ℕ) → reaches ps u v ≡ true → (lives u && lives v) ≡ true) → (u v : ℕ) → reaches (retired ps t) u v ≡ true → (lives2 u && lives2 v) ≡ true
end-pairs_live ps lives lives2 t none el pl u v k =
    let e1 = el u in
    let e2 = el v in
    let r = none-reaches ps t u none in
    let q = reaches-retire ps t u v none in
    let p = pl u v in
    grind (arith, eqb_tells, e1, e2, r, q, p)

pub not_before : (s : Core) (old : ℕ → ℕ → Bool) (t : ℕ) → Standing s old → any_before s t ≡ false → (w : ℕ) → is_recorded s.pairs w t ≡ false
not_before s old t h none w = false_from_ne_true _ (λ r. go (call_of s.calls w) refl r (and_parts (live s w) _ (h.pairs_live w t (recorded-reaches s.pairs w t r))).0)
  where
    go : (o : Option LiveCall) → call_of s.calls w ≡ o → is_recorded s.pairs w t ≡ true → live s w ≡ true → ⊥
    go None e r l = true≢false (sym l ∙ ap is_some e)
    go (Some c) e r l = let q = list_any-none (λ c. is_recorded s.pairs c.version t) s.calls w c none e in both_ways _ q.0 (subst (λ (x : ℕ). is_recorded s.pairs x t ≡ true) (sym q.1) r)

pub end-Standing : (graph : Graph) (s : Core) (old now : ℕ → ℕ → Bool) (t : ℕ) → Standing s old → live s t ≡ true → any_before s t ≡ false
    → ((u v : ℕ) → old u v ≡ true → now u v ≡ true) → IsTransitive (λ u v. now u v ≡ true) → ((n u : ℕ) → has (entries s n) u ≡ true → live s u ≡ false → now u t ≡ true)
    → Standing (apply graph s (End t)) now
end-Standing graph s old now t h lt none more trans joins = record {
  order = end-Apart s.pairs (live s) (executes s) (live (apply graph s (End t))) (executes (apply graph s (End t))) t first h.order lives runs;
  pairs_live = end-pairs_live s.pairs (live s) (live (apply graph s (End t))) t first lives h.pairs_live;
  old_transitive = trans;
  lists = λ n. Ascends-map-in _ _ (entries s n) (λ u v j k. end-Comes s.pairs (live s) (live (apply graph s (End t))) old now t lt first lives more u v (joins n u j)) (h.lists n);
}
  where
    first : (w : ℕ) → is_recorded s.pairs w t ≡ false
    first = not_before s old t h none

    lives : (u : ℕ) → live (apply graph s (End t)) u ≡ (not (u == t) && live s u)
    lives = reads_without is_some refl t s.calls

    runs : (u : ℕ) → executes (apply graph s (End t)) u ≡ (not (u == t) && executes s u)
    runs = reads_without (λ (o : Option LiveCall). (call_or o).executing) refl t s.calls

-- ---- Begin

-- A new call, whose version is in no pair and no list.
begin-Stands : (ps : List Pair) (lives runs lives2 runs2 : ℕ → Bool) (lists_of : ℕ → List Entry) (old : ℕ → ℕ → Bool) (t : ℕ) → Stands ps lives runs lists_of old → lives t ≡ false
    → ((n : ℕ) → has (lists_of n) t ≡ false) → ((u : ℕ) → lives2 u ≡ ((u == t) || lives u)) → ((u : ℕ) → (u == t) ≡ false → runs2 u ≡ runs u) → Stands ps lives2 runs2 lists_of old
begin-Stands ps lives runs lives2 runs2 lists_of old t h new fresh el er = record {
  order = record {
    no_cycle = h.order.no_cycle;
    apart = λ u v fu xv.
        let e1 = el u in let e2 = el v in let e3 = er u in let e4 = er v in let a = h.order.apart u v in let p = h.pairs_live u v in grind (arith, eqb_tells, e1, e2, e3, e4, a, p);
  };
  pairs_live = λ u v k. let e1 = el u in let e2 = el v in let p = h.pairs_live u v in grind (arith, eqb_tells, e1, e2, p);
  old_transitive = h.old_transitive;
  lists = λ n. Ascends-map-in _ _ (lists_of n) (λ u v j k c. still n u v j k c) (h.lists n);
}
  where
    still : (n u v : ℕ) → has (lists_of n) u ≡ true → has (lists_of n) v ≡ true → Comes_in ps lives old u v → Comes_in ps lives2 old u v
    still n u v j k c =
        let a : u ≢ t = λ x. both_ways _ (fresh n) (subst (λ (w : ℕ). has (lists_of n) w ≡ true) x j) in
        let b : v ≢ t = λ x. both_ways _ (fresh n) (subst (λ (w : ℕ). has (lists_of n) w ≡ true) x k) in
        let e1 = el u in let e2 = el v in grind (arith, eqb_tells, e1, e2)

last_call-live : (o : Option LiveCall) (c : LiveCall) (u : ℕ) → is_some (last_call o c u) ≡ ((u == c.version) || is_some o)
last_call-live (Some x) c u = grind arith
last_call-live None c u = grind (arith, eqb_tells)

last_call-other : (o : Option LiveCall) (c : LiveCall) (u : ℕ) → (u == c.version) ≡ false → (call_or (last_call o c u)).executing ≡ (call_or o).executing
last_call-other (Some x) c u h = refl
last_call-other None c u h = grind (arith, eqb_tells)

pub begin-Standing : (graph : Graph) (s : Core) (old : ℕ → ℕ → Bool) (caller : ℕ) (c : Call) → Standing s old → live s (suc s.begun) ≡ false → ((n : ℕ) → has (entries s n) (suc s.begun) ≡ false)
    → Standing (begin graph s caller c) old
begin-Standing graph s old caller c h new fresh = begin-Stands s.pairs (live s) (executes s) _ _ (entries s) old (suc s.begun) h new fresh
    (λ u. ap is_some (call_of-append s.calls (new_call graph s caller c) u) ∙ last_call-live (call_of s.calls u) (new_call graph s caller c) u)
    (λ u x. ap (λ (o : Option LiveCall). (call_or o).executing) (call_of-append s.calls (new_call graph s caller c) u) ∙ last_call-other (call_of s.calls u) (new_call graph s caller c) u x)
