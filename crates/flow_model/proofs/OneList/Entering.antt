-- Where a call enters a list, the order has no cycle, no framing call comes before an executing one, and each list stands in order.
use Rattle.std.proofs.Common.{◌≡◌, ℕ, zero, suc, Bool, true, false, ◌&&◌, ◌||◌, not, ◌⊎◌, ◌≢◌, inl, inr, refl, sym, ap, arith, List, [], ◌∷◌, ◌∙◌, subst, Option, Some, None, slice_index_or}
use Rattle.std.proofs.lemmas.Bool.Decides.{eqb_tells}
use Rattle.std.proofs.lemmas.Bool.{both_ways}
use Rattle.order_graph.specs.declared.pair.Pair.{Pair}
use Rattle.order_graph.specs.Order.{reaches, linked}
use Rattle.order_graph.proofs.Reaching.{reaches-join, reaches-linked}
use Rattle.node_versions.specs.declared.entry.State.{State}
use Rattle.node_versions.specs.declared.entry.Entry.{Entry}
use Rattle.node_versions.specs.Entries.{has, front, rest, placed}
use Rattle.flow_model.specs.Machine.Lists.{change_at}
use Rattle.flow_model.specs.Machine.State.{Core, Cell, cell, no_cell, live, executes, is_framing, entries, with_cell}
use Rattle.flow_model.specs.Machine.Changes.{stops, stops_call, first_version, last_version, link_left, link_right, linked_at, new_entry, place_entry, enter}
use Rattle.flow_model.proofs.OneList.Chains.{link-no_cycle}
use Rattle.flow_model.proofs.OneList.InOrder.{Ascends, Ascends-map, Ascends-across, placed-Ascends, IsTransitive, front-goes, rest-stops, front-rest, front-has, rest-has, last-has, first-has}

-- The recorded order, where f and x are the tests for framing and executing calls.
pub record Apart (ps : List Pair) (f x : ℕ → Bool) : Type 0 where
  pub no_cycle : (u : ℕ) → reaches ps u u ≡ false
  pub apart : (u v : ℕ) → f u ≡ true → x v ≡ true → reaches ps u v ≡ false

pub record IsOneOf (f x : ℕ → Bool) (u : ℕ) : Type 0 where
  pub one : (f u || x u) ≡ true
  pub not_both : (f u && x u) ≡ false

link-apart : (ps : List Pair) (f x : ℕ → Bool) (a b n : ℕ) → Apart ps f x → IsOneOf f x a → IsOneOf f x b → (f a && x b) ≡ false
    → (u v : ℕ) → f u ≡ true → x v ≡ true → reaches (linked ps a b n) u v ≡ false
link-apart ps f x a b n h oa ob fits u v fu xv =
    let e = reaches-linked ps a b n u v in
    let h1 = h.apart u v fu xv in
    let h2 = h.apart u a fu in
    let h3 = λ (y : f b ≡ true). h.apart b v y xv in
    grind (arith, eqb_tells, e, h1, h2, h3)

link-Apart : (ps : List Pair) (f x : ℕ → Bool) (a b n : ℕ) → Apart ps f x → IsOneOf f x a → IsOneOf f x b → (f a && x b) ≡ false
    → a ≢ b → reaches ps b a ≡ false → Apart (linked ps a b n) f x
link-Apart ps f x a b n h oa ob fits ne away = record { no_cycle = link-no_cycle ps a b n h.no_cycle ne away; apart = link-apart ps f x a b n h oa ob fits }

-- ---- The facts on the order that each step keeps

-- u comes before v: by the log among the ended calls, by the order else.
abbrev pub comes_by : Bool → Bool → Bool → Bool → Bool
comes_by true before ended old = before
comes_by false before ended old = ended && old

abbrev pub Comes_in : List Pair → (ℕ → Bool) → (ℕ → ℕ → Bool) → ℕ → ℕ → Type 0
Comes_in ps lives old u v = comes_by (lives v) (reaches ps u v || (not (lives u) && lives v)) (not (lives u)) (old u v) ≡ true

abbrev pub Comes : Core → (ℕ → ℕ → Bool) → ℕ → ℕ → Type 0
Comes s old = Comes_in s.pairs (live s) old

-- Over the parts that it reads, so that a step that leaves a part alone moves the fact along an equation.
pub record Stands (ps : List Pair) (lives runs : ℕ → Bool) (lists_of : ℕ → List Entry) (old : ℕ → ℕ → Bool) : Type 0 where
  pub order : Apart ps (λ u. lives u && not (runs u)) runs
  pub pairs_live : (u v : ℕ) → reaches ps u v ≡ true → (lives u && lives v) ≡ true
  pub old_transitive : IsTransitive (λ u v. old u v ≡ true)
  pub lists : (n : ℕ) → Ascends (Comes_in ps lives old) (lists_of n)

abbrev pub Standing : Core → (ℕ → ℕ → Bool) → Type 0
Standing s old = Stands s.pairs (live s) (executes s) (entries s) old

is_framing-live : (s : Core) (u : ℕ) → live s u ≡ true → IsOneOf (is_framing s) (executes s) u
is_framing-live s u h = record { one = grind arith; not_both = grind arith }

Comes-trans : (s : Core) (old : ℕ → ℕ → Bool) → ((u v : ℕ) → reaches s.pairs u v ≡ true → (live s u && live s v) ≡ true) → IsTransitive (λ u v. old u v ≡ true) → IsTransitive (Comes s old)
Comes-trans s old pl ot u v w h k =
    let t = reaches-join s.pairs u v w in
    let l1 = pl u v in
    let l2 = pl v w in
    let o = ot u v w in
    grind (arith, t, l1, l2, o)

-- ---- Entering

if-Apart : (b : Bool) (ps qs : List Pair) (f x : ℕ → Bool) → (b ≡ true → Apart ps f x) → (b ≡ false → Apart qs f x) → Apart (elim b [ true ↦ ps | false ↦ qs ]) f x
if-Apart true ps qs f x h k = h refl
if-Apart false ps qs f x h k = k refl

-- What is known of the neighbours at the place of t.
pub record Neighbours (s : Core) (old : ℕ → ℕ → Bool) (t : ℕ) (l r : Option ℕ) : Type 0 where
  pub left_goes : (u : ℕ) → l ≡ Some u → (u ≢ t) × (stops_call s t u ≡ false)
  pub right_stops : (v : ℕ) → r ≡ Some v → (v ≢ t) × (stops_call s t v ≡ true)
  pub across : (u v : ℕ) → l ≡ Some u → r ≡ Some v → Comes s old u v

left-Apart : (s : Core) (old : ℕ → ℕ → Bool) (t m : ℕ) (l r : Option ℕ) → Standing s old → live s t ≡ true → Neighbours s old t l r → Apart (link_left s t m l s.pairs) (is_framing s) (executes s)
left-Apart s old t m None r h lt q = h.order
left-Apart s old t m (Some u) r h lt q = if-Apart (live s u) _ _ _ _
    (λ lu. let g = q.left_goes u refl in
    link-Apart s.pairs (is_framing s) (executes s) u t m h.order (is_framing-live s u lu) (is_framing-live s t lt) (grind arith) g.0 (grind arith))
    (λ _. h.order)

-- No chain leads from the right neighbour to t.
right-away : (s : Core) (old : ℕ → ℕ → Bool) (t m : ℕ) (l : Option ℕ) (v : ℕ) → Standing s old → live s t ≡ true → Neighbours s old t l (Some v) → reaches (link_left s t m l s.pairs) v t ≡ false
right-away s old t m None v h lt q =
    let g = q.right_stops v refl in
    let c = h.order.no_cycle t in
    let a = h.order.apart v t in
    let tr = reaches-join s.pairs t v t in
    grind (arith, c, a, tr)
right-away s old t m (Some u) v h lt q =
    let g = q.right_stops v refl in
    let c = h.order.no_cycle t in
    let a = h.order.apart v t in
    let tr = reaches-join s.pairs t v t in
    let e = reaches-linked s.pairs u t m v t in
    let x = q.across u v refl refl in
    let tu = reaches-join s.pairs u v u in
    let cu = h.order.no_cycle u in
    grind (arith, eqb_tells, c, a, tr, e, x, tu, cu)

entered-Apart : (s : Core) (old : ℕ → ℕ → Bool) (t m : ℕ) (l r : Option ℕ) → Standing s old → live s t ≡ true → Neighbours s old t l r → Apart (link_right s t m r (link_left s t m l s.pairs)) (is_framing s) (executes s)
entered-Apart s old t m l None h lt q = left-Apart s old t m l None h lt q
entered-Apart s old t m l (Some v) h lt q = if-Apart (live s v) _ _ _ _
    (λ lv. let g = q.right_stops v refl in
    let a = h.order.apart t v in
    link-Apart (link_left s t m l s.pairs) (is_framing s) (executes s) t v m (left-Apart s old t m l (Some v) h lt q) (is_framing-live s t lt) (is_framing-live s v lv) (grind arith) (λ e. g.0 (sym e)) (right-away s old t m l v h lt q))
    (λ _. left-Apart s old t m l (Some v) h lt q)

-- ---- What entering adds to the order

-- The order with more pairs, all of live calls.
pub record Grows (s : Core) (ps qs : List Pair) : Type 0 where
  pub more : (u v : ℕ) → reaches ps u v ≡ true → reaches qs u v ≡ true
  pub still_live : ((u v : ℕ) → reaches ps u v ≡ true → (live s u && live s v) ≡ true) → (u v : ℕ) → reaches qs u v ≡ true → (live s u && live s v) ≡ true

link-Grows : (s : Core) (ps : List Pair) (a b n : ℕ) → live s a ≡ true → live s b ≡ true → Grows s ps (linked ps a b n)
link-Grows s ps a b n la lb = record {
  more = λ u v h. let e = reaches-linked ps a b n u v in grind (arith, e);
  still_live = λ f u v h.
      let e = reaches-linked ps a b n u v in
      let f1 = f u v in
      let f2 = f u a in
      let f3 = f b v in
      grind (arith, eqb_tells, e, f1, f2, f3);
}

same-Grows : (s : Core) (ps : List Pair) → Grows s ps ps
same-Grows s ps = record { more = λ u v h. h; still_live = λ f. f }

if-Grows : (s : Core) (b : Bool) (ps qs rs : List Pair) → (b ≡ true → Grows s ps qs) → (b ≡ false → Grows s ps rs) → Grows s ps (elim b [ true ↦ qs | false ↦ rs ])
if-Grows s true ps qs rs h k = h refl
if-Grows s false ps qs rs h k = k refl

pub left-Grows : (s : Core) (t m : ℕ) (l : Option ℕ) (ps : List Pair) → live s t ≡ true → Grows s ps (link_left s t m l ps)
left-Grows s t m None ps lt = same-Grows s ps
left-Grows s t m (Some u) ps lt = if-Grows s (live s u) _ _ _ (λ lu. link-Grows s ps u t m lu lt) (λ _. same-Grows s ps)

pub right-Grows : (s : Core) (t m : ℕ) (r : Option ℕ) (ps : List Pair) → live s t ≡ true → Grows s ps (link_right s t m r ps)
right-Grows s t m None ps lt = same-Grows s ps
right-Grows s t m (Some v) ps lt = if-Grows s (live s v) _ _ _ (λ lv. link-Grows s ps t v m lt lv) (λ _. same-Grows s ps)

left-linked : (s : Core) (t m u : ℕ) (ps : List Pair) → live s u ≡ true → reaches (link_left s t m (Some u) ps) u t ≡ true
left-linked s t m u ps lu = let e = reaches-linked ps u t m u t in grind (arith, eqb_tells, e)

right-linked : (s : Core) (t m v : ℕ) (ps : List Pair) → live s v ≡ true → reaches (link_right s t m (Some v) ps) t v ≡ true
right-linked s t m v ps lv = let e = reaches-linked ps t v m t v in grind (arith, eqb_tells, e)

-- ---- The state after t entered m

neighbours : (s : Core) (old : ℕ → ℕ → Bool) (t m : ℕ) → Standing s old → live s t ≡ true → has (entries s m) t ≡ false
    → Neighbours s old t (last_version None (front (stops s t) (entries s m))) (first_version (rest (stops s t) (entries s m)))
neighbours s old t m h lt no_entry =
    let es = entries s m in
    let joined = subst (Ascends (Comes s old)) (sym (front-rest (stops_call s t) es)) (h.lists m) in
    record {
      left_goes = λ u e. let k = last-has _ u e in (λ x. both_ways _ no_entry (subst (λ (w : ℕ). has es w ≡ true) x (front-has (stops_call s t) es u k)), front-goes (stops_call s t) es u k);
      right_stops = λ v e. let k = first-has _ v e in (λ x. both_ways _ no_entry (subst (λ (w : ℕ). has es w ≡ true) x (rest-has (stops_call s t) es v k)), rest-stops (stops_call s t) es v e);
      across = λ u v e f. Ascends-across (Comes s old) (front (stops s t) es) (rest (stops s t) es) u v joined (last-has _ u e) (first-has _ v f);
    }

-- A cell after a change of one: the same, or the change of it.
abbrev OneChange : ℕ → (Cell → Cell) → List Cell → ℕ → Type 0
OneChange n f cs m = (slice_index_or (change_at n f cs) m no_cell ≡ slice_index_or cs m no_cell) ⊎ ((m ≡ n) × (slice_index_or (change_at n f cs) m no_cell ≡ f (slice_index_or cs m no_cell)))

one_more : (n : ℕ) (f : Cell → Cell) (c : Cell) (cs : List Cell) (m : ℕ) → OneChange n f cs m → OneChange (suc n) f (c ∷ cs) (suc m)
one_more n f c cs m (inl x) = inl x
one_more n f c cs m (inr x) = inr (ap suc x.0, x.1)

change_at-reads : (n : ℕ) (f : Cell → Cell) (cs : List Cell) (m : ℕ) → OneChange n f cs m
change_at-reads n f [] m = inl refl
change_at-reads zero f (c ∷ cs) zero = inr (refl, refl)
change_at-reads zero f (c ∷ cs) (suc m) = inl refl
change_at-reads (suc n) f (c ∷ cs) zero = inl refl
change_at-reads (suc n) f (c ∷ cs) (suc m) = one_more n f c cs m (change_at-reads n f cs m)

pub with_cell-cell : (s : Core) (n : ℕ) (f : Cell → Cell) (m : ℕ) → (cell (with_cell s n f) m ≡ cell s m) ⊎ ((m ≡ n) × (cell (with_cell s n f) m ≡ f (cell s m)))
with_cell-cell s n f m = change_at-reads n f s.cells m

-- A list after a change of one cell.
pub with_cell-entries : (s : Core) (n : ℕ) (f : Cell → Cell) (g : List Entry → List Entry) → ((c : Cell) → (f c).entries ≡ g c.entries) → (m : ℕ)
    → (entries (with_cell s n f) m ≡ entries s m) ⊎ ((m ≡ n) × (entries (with_cell s n f) m ≡ g (entries s m)))
with_cell-entries s n f g same m = go (with_cell-cell s n f m)
  where
    go : (cell (with_cell s n f) m ≡ cell s m) ⊎ ((m ≡ n) × (cell (with_cell s n f) m ≡ f (cell s m))) → (entries (with_cell s n f) m ≡ entries s m) ⊎ ((m ≡ n) × (entries (with_cell s n f) m ≡ g (entries s m)))
    go (inl x) = inl (ap (λ (c : Cell). c.entries) x)
    go (inr x) = inr (x.0, ap (λ (c : Cell). c.entries) x.1 ∙ same (cell s m))

-- Over truth values alone, so that no tactic reads the state.
comes_more : (l b c e o : Bool) → (b ≡ true → c ≡ true) → comes_by l b e o ≡ true → comes_by l c e o ≡ true
comes_more true b c e o w k = w k
comes_more false b c e o w k = k

or_more : (r q x : Bool) → (r ≡ true → q ≡ true) → (r || x) ≡ true → (q || x) ≡ true
or_more r q x w k = grind arith

comes_live : (l r lu o : Bool) → l ≡ true → (lu ≡ true → r ≡ true) → comes_by l (r || (not lu && l)) (not lu) o ≡ true
comes_live l r lu o k w = grind arith

Comes-grows : (s : Core) (old : ℕ → ℕ → Bool) (t m : ℕ) (state : State) → Grows s s.pairs (linked_at s t m) → (u v : ℕ) → Comes s old u v → Comes (enter s t m state) old u v
Comes-grows s old t m state g u v k = comes_more (live s v) _ _ _ _ (or_more (reaches s.pairs u v) (reaches (linked_at s t m) u v) (not (live s u) && live s v) (g.more u v)) k

left_in : (s : Core) (t m u : ℕ) (l r : Option ℕ) → live s t ≡ true → l ≡ Some u → live s u ≡ true → reaches (link_right s t m r (link_left s t m l s.pairs)) u t ≡ true
left_in s t m u l r lt e lu = (right-Grows s t m r (link_left s t m l s.pairs) lt).more u t (subst (λ (x : Option ℕ). reaches (link_left s t m x s.pairs) u t ≡ true) (sym e) (left-linked s t m u s.pairs lu))

right_in : (s : Core) (t m v : ℕ) (r : Option ℕ) (ps : List Pair) → r ≡ Some v → live s v ≡ true → reaches (link_right s t m r ps) t v ≡ true
right_in s t m v r ps e lv = subst (λ (x : Option ℕ). reaches (link_right s t m x ps) t v ≡ true) (sym e) (right-linked s t m v ps lv)

-- What stops a live call is live.
pub stop-live : (s : Core) (t v : ℕ) → ((u w : ℕ) → reaches s.pairs u w ≡ true → (live s u && live s w) ≡ true) → live s t ≡ true → stops_call s t v ≡ true → live s v ≡ true
stop-live s t v pl lt k = let p = pl t v in grind (arith, p)

entered-lists : (s : Core) (old : ℕ → ℕ → Bool) (t m : ℕ) (state : State) → Standing s old → live s t ≡ true
    → Neighbours s old t (last_version None (front (stops s t) (entries s m))) (first_version (rest (stops s t) (entries s m)))
    → Grows s s.pairs (linked_at s t m) → (n : ℕ)
    → (entries (enter s t m state) n ≡ entries s n) ⊎ ((n ≡ m) × (entries (enter s t m state) n ≡ placed (stops s t) (new_entry s t state) (entries s n)))
    → Ascends (Comes (enter s t m state) old) (entries (enter s t m state) n)
entered-lists s old t m state h lt q g n (inl e) = subst (Ascends (Comes (enter s t m state) old)) (sym e) (Ascends-map (Comes s old) _ (Comes-grows s old t m state g) (entries s n) (h.lists n))
entered-lists s old t m state h lt q g n (inr e) = subst (Ascends (Comes (enter s t m state) old)) (sym (e.1 ∙ ap (λ (k : ℕ). placed (stops s t) (new_entry s t state) (entries s k)) e.0))
    (placed-Ascends (Comes (enter s t m state) old) (Comes-trans (enter s t m state) old (g.still_live h.pairs_live) h.old_transitive) (stops_call s t) (new_entry s t state) (entries s m)
    (Ascends-map (Comes s old) _ (Comes-grows s old t m state g) (entries s m) (h.lists m))
    (λ v x. comes_live _ _ _ _ lt (left_in s t m v _ (first_version (rest (stops s t) (entries s m))) lt x))
    (λ v x. let lv = stop-live s t v h.pairs_live lt (q.right_stops v x).1 in comes_live _ _ _ _ lv (λ _. right_in s t m v _ (link_left s t m (last_version None (front (stops s t) (entries s m))) s.pairs) x lv)))

pub enter-Standing : (s : Core) (old : ℕ → ℕ → Bool) (t m : ℕ) (state : State) → Standing s old → live s t ≡ true → has (entries s m) t ≡ false → Standing (enter s t m state) old
enter-Standing s old t m state h lt no_entry =
    let q = neighbours s old t m h lt no_entry in
    let l = last_version None (front (stops s t) (entries s m)) in
    let r = first_version (rest (stops s t) (entries s m)) in
    let gl = left-Grows s t m l s.pairs lt in
    let gr = right-Grows s t m r (link_left s t m l s.pairs) lt in
    let g : Grows s s.pairs (linked_at s t m) = record { more = λ u v k. gr.more u v (gl.more u v k); still_live = λ f. gr.still_live (gl.still_live f) } in
    record {
      order = entered-Apart s old t m l r h lt q;
      pairs_live = g.still_live h.pairs_live;
      old_transitive = h.old_transitive;
      lists = λ n. entered-lists s old t m state h lt q g n (with_cell-entries s m (place_entry s t state) (placed (stops s t) (new_entry s t state)) (λ c. refl) n);
    }
