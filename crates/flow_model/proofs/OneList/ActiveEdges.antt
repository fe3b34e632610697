-- A call that gets a Frame is before none of the calls whose out-edges are active for it.
use Rattle.std.proofs.Common.{◌≡◌, ℕ, Bool, true, false, ◌||◌, not, ◌==◌, refl, arith, List, [], ◌∷◌, ◌++◌}
use Rattle.std.proofs.lemmas.Bool.Decides.{eqb_tells}
use Rattle.std.proofs.lemmas.Bool.{false_from_ne_true, both_ways}
use Rattle.signal_graph.specs.Graph.{Graph}
use Rattle.node_versions.specs.declared.entry.State.{State}
use Rattle.node_versions.specs.declared.entry.State.TheVariants.{Frame}
use Rattle.node_versions.specs.declared.entry.Entry.{Entry}
use Rattle.node_versions.specs.Entries.{has, behind, up_to, is_active, with_state, front, rest, placed}
use Rattle.node_versions.proofs.KeptLemmas.{has-with_state}
use Rattle.flow_model.specs.Machine.State.{Core, live, entries, precedes}
use Rattle.flow_model.specs.Machine.Changes.{stops, stops_call, new_entry}
use Rattle.flow_model.specs.Kept.Lawful.{IsLawful}
use Rattle.flow_model.proofs.OneList.InOrder.{front-goes, front-has}
use Rattle.flow_model.proofs.OneList.OneEntryACall.{placed-has}
use Rattle.flow_model.proofs.Wants.FramedWith.{before-not_after}

pub with_state-up_to : (t : ℕ) (x : State) (es : List Entry) (v u : ℕ) → has (up_to (with_state t x es) v) u ≡ has (up_to es v) u
with_state-up_to t x [] v u = refl
with_state-up_to t x (e ∷ es) v u = let r = with_state-up_to t x es v u in grind (arith, eqb_tells, r)

pub active-behind : (es : List Entry) (u t : ℕ) → has es u ≡ true → has es t ≡ true → has (up_to es t) u ≡ true → (t == u) ≡ false → behind es u t ≡ true
active-behind [] u t h k a ne = h
active-behind (e ∷ es) u t h k a ne = let r = active-behind es u t in grind (arith, eqb_tells, h, k, a, ne, r)

-- An edge that is active for an entry whose state changes is of a call before it.
pub raised-place : (graph : Graph) (s : Core) → IsLawful graph s → (t m u : ℕ) → live s t ≡ true → has (entries s m) t ≡ true → is_active (with_state t Frame (entries s m)) u t ≡ true
    → has (entries s m) u ≡ true → (t == u) ≡ false → precedes s t u ≡ false
raised-place graph s h t m u lt ht a hu ne = before-not_after graph s h u t (h.order_is_kept.lists m u t (active-behind (entries s m) u t hu ht up ne) lt)
  where
    up : has (up_to (entries s m) t) u ≡ true
    up = let w = has-with_state t Frame (entries s m) u in let v = with_state-up_to t Frame (entries s m) t u in grind (arith, a, hu, w, v)

more-up_to : (xs ys : List Entry) (e : Entry) (u : ℕ) → has xs e.version ≡ false → has (up_to (xs ++ e ∷ ys) e.version) u ≡ (has xs u || (e.version == u))
more-up_to [] ys e u h = grind (arith, eqb_tells)
more-up_to (x ∷ xs) ys e u h = let r = more-up_to xs ys e u in grind (arith, eqb_tells, h, r)

-- An edge that is active for a new entry is of a call that doesn't stop the new one.
pub placed-place : (s : Core) (t m u : ℕ) → has (entries s m) t ≡ false → is_active (placed (stops s t) (new_entry s t Frame) (entries s m)) u t ≡ true
    → has (entries s m) u ≡ true → (t == u) ≡ false → precedes s t u ≡ false
placed-place s t m u fresh a hu ne =
    let es = entries s m in
    let e = new_entry s t Frame in
    let none : has (front (stops s t) es) t ≡ false = false_from_ne_true _ (λ k. both_ways _ fresh (front-has (stops_call s t) es t k)) in
    let p = placed-has (stops_call s t) e es u in
    let m1 = more-up_to (front (stops s t) es) (rest (stops s t) es) e u none in
    let f : has (front (stops s t) es) u ≡ true = in_front (has (placed (stops s t) e es) u) (has (up_to (placed (stops s t) e es) t) u) (has es u) (t == u) (has (front (stops s t) es) u) a p m1 hu ne in
    let g = front-goes (stops_call s t) es u f in
    grind (arith, g)
  where
    in_front : (a b c d f : Bool) → (not a || b) ≡ true → a ≡ (d || c) → b ≡ (f || d) → c ≡ true → d ≡ false → f ≡ true
    in_front a b c d f h p q hc hd = grind arith
