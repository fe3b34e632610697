-- Pairs of slots, and the pairs of versions that they stand for.
use Rattle.std.proofs.Common.{◌≡◌, ◌≢◌, ℕ, ◌<◌, inl, inr, ◌⊎◌, Bool, true, false, not, ◌==◌, ◌||◌, ◌&&◌, cond, List, [], ◌∷◌, ◌++◌, filter, refl, sym, ap, ◌∙◌, subst, arith}
use Rattle.std.proofs.lemmas.Bool.{eq-eqb, ne_eqb, cases_eq, true≢false, false≢true, or_right}
use Rattle.std.proofs.lemmas.List.{map-append}
use Rattle.std.specs.Prelude.{is_some, find, Some}
use Rattle.std.specs.Option.{option_map}
use Rattle.script_tree.proofs.Truths.{or_later}
use Rattle.order_graph.specs.declared.pair.Pair.{Pair}
use Rattle.order_graph.specs.Order.{Order, Precedes, joins, node_of, is_recorded, reaches, linked, retired}
use Rattle.order_graph.proofs.Reaching.{decides, reaches-cons}
use Rattle.flow_state.specs.declared.seating.Tenant.{Tenant}
use Rattle.flow_state.specs.Seats.{Seated, LiveCalls, live_calls, with_pairs, calls_of, version_at, versions_of, pairs_of, has_version, has_slot, AreTenants, AreLinked, AreSeats}
use Rattle.flow_state.proofs.SeatLemmas.{IsSlotOf}

-- a slot that has a tenant has its version
pub slot-version : (seats : List Seated) (live : List Tenant) (k : ℕ) → AreTenants seats live → has_slot live k ≡ true → has_version live (version_at seats k) ≡ true
slot-version seats [] k ok h = absurd (false≢true h)
slot-version seats (x ∷ xs) k ok h = elim (cases_eq x.slot k) [
  | inl same ↦ ap (λ b. b || has_version xs (version_at seats k)) (eq-eqb x.version (version_at seats k) (sym ok.0.version ∙ ap (version_at seats) same))
  | inr other ↦ or_right (x.version == version_at seats k) _ (slot-version seats xs k ok.3 (or_later (x.slot == k) _ h (ne_eqb x.slot k other)))
]

-- slots with one version are one
pub one_slot : (seats : List Seated) (live : List Tenant) (j k : ℕ) → AreTenants seats live → has_slot live j ≡ true → has_slot live k ≡ true → version_at seats j ≡ version_at seats k → j ≡ k
one_slot seats [] j k ok h g e = absurd (false≢true h)
one_slot seats (x ∷ xs) j k ok h g e = go (one_slot seats xs j k ok.3) (cases_eq x.slot j) (cases_eq x.slot k)
  where
    go : (has_slot xs j ≡ true → has_slot xs k ≡ true → version_at seats j ≡ version_at seats k → j ≡ k) → ((x.slot ≡ j) ⊎ (x.slot ≢ j)) → ((x.slot ≡ k) ⊎ (x.slot ≢ k)) → j ≡ k
    go rest (inl a) (inl b) = sym a ∙ b
    go rest (inl a) (inr b) =
        let there = slot-version seats xs k ok.3 (or_later (x.slot == k) _ g (ne_eqb x.slot k b)) in
        absurd (true≢false (sym there ∙ ap (has_version xs) (sym e ∙ ap (version_at seats) (sym a) ∙ ok.0.version) ∙ ok.1))
    go rest (inr a) (inl b) =
        let there = slot-version seats xs j ok.3 (or_later (x.slot == j) _ h (ne_eqb x.slot j a)) in
        absurd (true≢false (sym there ∙ ap (has_version xs) (e ∙ ap (version_at seats) (sym b) ∙ ok.0.version) ∙ ok.1))
    go rest (inr a) (inr b) = rest (or_later (x.slot == j) _ h (ne_eqb x.slot j a)) (or_later (x.slot == k) _ g (ne_eqb x.slot k b)) e

-- Two slots are told apart by their versions.
abbrev pub Tells : List Seated → List Tenant → Type 0
Tells seats live = (j k : ℕ) → has_slot live j ≡ true → has_slot live k ≡ true → (version_at seats j == version_at seats k) ≡ (j == k)

pub tells : (seats : List Seated) (live : List Tenant) → AreTenants seats live → Tells seats live
tells seats live ok j k h g = elim (cases_eq j k) [
  | inl same ↦ eq-eqb _ _ (ap (version_at seats) same) ∙ sym (eq-eqb j k same)
  | inr other ↦ ne_eqb _ _ (λ e. other (one_slot seats live j k ok h g e)) ∙ sym (ne_eqb j k other)
]

-- ---- recorded and reached

pub recorded-versions : (seats : List Seated) (live : List Tenant) (pairs : List Pair) (a b : ℕ) → Tells seats live → AreLinked live pairs → has_slot live a ≡ true → has_slot live b ≡ true → is_recorded (pairs_of seats pairs) (version_at seats a) (version_at seats b) ≡ is_recorded pairs a b
recorded-versions seats live [] a b t l h g = refl
recorded-versions seats live (p ∷ ps) a b t l h g =
    ap (λ x. (x && (version_at seats p.to == version_at seats b)) || is_recorded (pairs_of seats ps) (version_at seats a) (version_at seats b)) (t p.from a l.0.0 h)
    ∙ ap (λ x. ((p.from == a) && x) || is_recorded (pairs_of seats ps) (version_at seats a) (version_at seats b)) (t p.to b l.0.1 g)
    ∙ ap (λ x. ((p.from == a) && (p.to == b)) || x) (recorded-versions seats live ps a b t l.1 h g)

pub reaches-versions : (seats : List Seated) (live : List Tenant) (pairs : List Pair) (a b : ℕ) → Tells seats live → AreLinked live pairs → has_slot live a ≡ true → has_slot live b ≡ true → reaches (pairs_of seats pairs) (version_at seats a) (version_at seats b) ≡ reaches pairs a b
reaches-versions seats live [] a b t l h g = refl
reaches-versions seats live (p ∷ ps) a b t l h g =
    let v : ℕ → ℕ = version_at seats in
    let qs : List Pair = pairs_of seats ps in
    reaches-cons (versions_of seats p) qs (v a) (v b)
    ∙ ap (λ x. x || (((v p.from == v a) || reaches qs (v a) (v p.from)) && ((v p.to == v b) || reaches qs (v p.to) (v b)))) (reaches-versions seats live ps a b t l.1 h g)
    ∙ ap (λ x. reaches ps a b || ((x || reaches qs (v a) (v p.from)) && ((v p.to == v b) || reaches qs (v p.to) (v b)))) (t p.from a l.0.0 h)
    ∙ ap (λ x. reaches ps a b || (((p.from == a) || x) && ((v p.to == v b) || reaches qs (v p.to) (v b)))) (reaches-versions seats live ps a p.from t l.1 h l.0.0)
    ∙ ap (λ x. reaches ps a b || (((p.from == a) || reaches ps a p.from) && (x || reaches qs (v p.to) (v b)))) (t p.to b l.0.1 g)
    ∙ ap (λ x. reaches ps a b || (((p.from == a) || reaches ps a p.from) && ((p.to == b) || x))) (reaches-versions seats live ps p.to b t l.1 l.0.1 g)
    ∙ sym (reaches-cons p ps a b)

-- ---- one pair more

cond-pairs : (seats : List Seated) (b : Bool) (xs ys : List Pair) → pairs_of seats (cond b xs ys) ≡ cond b (pairs_of seats xs) (pairs_of seats ys)
cond-pairs seats true xs ys = refl
cond-pairs seats false xs ys = refl

pub linked-versions : (seats : List Seated) (live : List Tenant) (pairs : List Pair) (a b node : ℕ) → Tells seats live → AreLinked live pairs → has_slot live a ≡ true → has_slot live b ≡ true → pairs_of seats (linked pairs a b node) ≡ linked (pairs_of seats pairs) (version_at seats a) (version_at seats b) node
linked-versions seats live pairs a b node t l h g =
    let new : Pair = record { from = a; to = b; node = node } in
    let more : List Pair = versions_of seats new ∷ [] in
    cond-pairs seats (is_recorded pairs a b) pairs (pairs ++ new ∷ [])
    ∙ ap (λ (qs : List Pair). cond (is_recorded pairs a b) (pairs_of seats pairs) qs) (map-append (versions_of seats) pairs (new ∷ []))
    ∙ ap (λ x. cond x (pairs_of seats pairs) (pairs_of seats pairs ++ more)) (sym (recorded-versions seats live pairs a b t l h g))

more-linked : (live : List Tenant) (pairs : List Pair) (p : Pair) → has_slot live p.from ≡ true → has_slot live p.to ≡ true → AreLinked live pairs → AreLinked live (pairs ++ p ∷ [])
more-linked live [] p h g l = ((h, g), tt)
more-linked live (q ∷ qs) p h g l = (l.0, more-linked live qs p h g l.1)

pub linked-linked : (live : List Tenant) (pairs : List Pair) (a b node : ℕ) → has_slot live a ≡ true → has_slot live b ≡ true → AreLinked live pairs → AreLinked live (linked pairs a b node)
linked-linked live pairs a b node h g l = go (is_recorded pairs a b)
  where
    go : (x : Bool) → AreLinked live (cond x pairs (pairs ++ record { from = a; to = b; node = node } ∷ []))
    go true = l
    go false = more-linked live pairs (record { from = a; to = b; node = node }) h g l

-- ---- the pairs of a slot go

filter-cons : (keep : Pair → Bool) (p : Pair) (ps : List Pair) (b : Bool) → keep p ≡ b → filter keep (p ∷ ps) ≡ cond b (p ∷ filter keep ps) (filter keep ps)
filter-cons keep p ps b e = ap (λ b. cond b (p ∷ filter keep ps) (filter keep ps)) e

pub retired-versions : (seats : List Seated) (live : List Tenant) (pairs : List Pair) (a : ℕ) → Tells seats live → AreLinked live pairs → has_slot live a ≡ true → pairs_of seats (retired pairs a) ≡ retired (pairs_of seats pairs) (version_at seats a)
retired-versions seats live [] a t l h = refl
retired-versions seats live (p ∷ ps) a t l h =
    let keeps : Bool = not ((p.from == a) || (p.to == a)) in
    let same : not ((version_at seats p.from == version_at seats a) || (version_at seats p.to == version_at seats a)) ≡ keeps =
    ap (λ x. not (x || (version_at seats p.to == version_at seats a))) (t p.from a l.0.0 h) ∙ ap (λ x. not ((p.from == a) || x)) (t p.to a l.0.1 h) in
    cond-pairs seats keeps (p ∷ retired ps a) (retired ps a)
    ∙ ap (λ (qs : List Pair). cond keeps (versions_of seats p ∷ qs) qs) (retired-versions seats live ps a t l.1 h)
    ∙ sym (filter-cons (λ q. not ((q.from == version_at seats a) || (q.to == version_at seats a))) (versions_of seats p) (pairs_of seats ps) keeps same)

-- ---- what the order's calls ask and give

pub not_reached : (pairs : List Pair) (a b : ℕ) → reaches pairs a b ≡ false → ¬ (Precedes pairs a b)
not_reached pairs a b h p = true≢false (sym ((decides pairs a b).1 p) ∙ h)

pub reach_seen : (callers nodes capacity : ℕ) (seats : List Seated) (live : List Tenant) (order : Order) (u v first second : ℕ) (seen : LiveCalls) → AreSeats callers nodes capacity seats live order → live_calls callers nodes seats live order ≡ seen → IsSlotOf seats live u first → IsSlotOf seats live v second → reaches order.pairs first second ≡ reaches seen.pairs u v
reach_seen callers nodes capacity seats live order u v first second seen kept view a b =
    sym (reaches-versions seats live order.pairs first second (tells seats live kept.tenants) kept.linked a.there b.there)
    ∙ ap (λ x. reaches (pairs_of seats order.pairs) x (version_at seats second)) a.version
    ∙ ap (λ x. reaches (pairs_of seats order.pairs) u x) b.version
    ∙ ap (λ (l : LiveCalls). reaches l.pairs u v) view

pub record_seen : (callers nodes capacity : ℕ) (seats : List Seated) (live : List Tenant) (order : Order) (u v first second : ℕ) (seen : LiveCalls) → AreSeats callers nodes capacity seats live order → live_calls callers nodes seats live order ≡ seen → IsSlotOf seats live u first → IsSlotOf seats live v second → is_recorded order.pairs first second ≡ is_recorded seen.pairs u v
record_seen callers nodes capacity seats live order u v first second seen kept view a b =
    sym (recorded-versions seats live order.pairs first second (tells seats live kept.tenants) kept.linked a.there b.there)
    ∙ ap (λ x. is_recorded (pairs_of seats order.pairs) x (version_at seats second)) a.version
    ∙ ap (λ x. is_recorded (pairs_of seats order.pairs) u x) b.version
    ∙ ap (λ (l : LiveCalls). is_recorded l.pairs u v) view

pub pair-node : (pairs : List Pair) (a b : ℕ) → is_some (node_of pairs a b) ≡ is_recorded pairs a b
pair-node [] a b = refl
pair-node (p ∷ ps) a b = go (joins a b p) (pair-node ps a b)
  where
    go : (x : Bool) → is_some (node_of ps a b) ≡ is_recorded ps a b → is_some (option_map (λ (q : Pair). q.node) (cond x (Some p) (find (joins a b) ps))) ≡ (x || is_recorded ps a b)
    go true r = refl
    go false r = r

pub slot_fits : (callers nodes capacity : ℕ) (seats : List Seated) (live : List Tenant) (order : Order) (u first : ℕ) → AreSeats callers nodes capacity seats live order → IsSlotOf seats live u first → first < order.callers
slot_fits callers nodes capacity seats live order u first kept a = let i = a.inside in let n = kept.count in let m = kept.order_callers in omega (arith, i, n, m)

pub slots_apart : (seats : List Seated) (live : List Tenant) (u v first second : ℕ) → IsSlotOf seats live u first → IsSlotOf seats live v second → u ≢ v → first ≢ second
slots_apart seats live u v first second a b apart e = apart (sym a.version ∙ ap (version_at seats) e ∙ b.version)

pub link_kept : (callers nodes capacity : ℕ) (seats : List Seated) (live : List Tenant) (order new : Order) (u v first second node : ℕ) → AreSeats callers nodes capacity seats live order → IsSlotOf seats live u first → IsSlotOf seats live v second → new.callers ≡ order.callers → new.pairs ≡ linked order.pairs first second node → AreSeats callers nodes capacity seats live new
link_kept callers nodes capacity seats live order new u v first second node kept a b same more = record {
  some = kept.some;
  few = kept.few;
  few_nodes = kept.few_nodes;
  count = kept.count;
  tenants = kept.tenants;
  ascending = kept.ascending;
  free = kept.free;
  slots = kept.slots;
  sizes = kept.sizes;
  order_callers = same ∙ kept.order_callers;
  linked = subst (AreLinked live) (sym more) (linked-linked live order.pairs first second node a.there b.there kept.linked);
  room = kept.room;
}

pub link_seen : (callers nodes capacity : ℕ) (seats : List Seated) (live : List Tenant) (order new : Order) (u v first second node : ℕ) (seen : LiveCalls) → AreSeats callers nodes capacity seats live order → live_calls callers nodes seats live order ≡ seen → IsSlotOf seats live u first → IsSlotOf seats live v second → new.pairs ≡ linked order.pairs first second node → live_calls callers nodes seats live new ≡ with_pairs seen (linked seen.pairs u v node)
link_seen callers nodes capacity seats live order new u v first second node seen kept view a b more =
    let L : List Pair → LiveCalls = λ ps. record { callers = callers; nodes = nodes; calls = calls_of seats live; pairs = ps } in
    ap (λ (ps : List Pair). L (pairs_of seats ps)) more
    ∙ ap L (linked-versions seats live order.pairs first second node (tells seats live kept.tenants) kept.linked a.there b.there)
    ∙ ap (λ x. L (linked (pairs_of seats order.pairs) x (version_at seats second) node)) a.version
    ∙ ap (λ x. L (linked (pairs_of seats order.pairs) u x node)) b.version
    ∙ ap (λ (l : LiveCalls). with_pairs l (linked l.pairs u v node)) view
