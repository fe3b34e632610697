-- A chain of recorded pairs that is prolonged is a chain, and a pair more makes no cycle where no chain leads back.
use Rattle.std.proofs.Common.{◌≡◌, ℕ, true, false, not, ◌&&◌, ◌==◌, ◌⊎◌, ◌≢◌, inl, inr, refl, arith, List, subst}
use Rattle.std.proofs.lemmas.Bool.Decides.{eqb_tells}
use Rattle.std.proofs.lemmas.Bool.{false_from_ne_true, both_ways}
use Rattle.order_graph.specs.declared.pair.Pair.{Pair}
use Rattle.order_graph.specs.Order.{Precedes, is_recorded, reaches, linked, retired}
use Rattle.order_graph.specs.Order.Precedes.{by_pair, by_chain}
use Rattle.order_graph.proofs.Reaching.{decides, reaches-linked, reaches-retired, recorded-reaches, reaches-join}

pub link-no_cycle : (ps : List Pair) (a b n : ℕ) → ((u : ℕ) → reaches ps u u ≡ false) → a ≢ b → reaches ps b a ≡ false → (u : ℕ) → reaches (linked ps a b n) u u ≡ false
link-no_cycle ps a b n free apart rest u =
    let t = reaches-join ps b u a in
    let f = free u in
    let e = reaches-linked ps a b n u u in
    grind (arith, eqb_tells, t, f, e)

-- the first and the last pair of a chain
abbrev pub FirstPair : List Pair → ℕ → Type 0
FirstPair ps u = (w : ℕ) × (is_recorded ps u w ≡ true)

abbrev pub LastPair : List Pair → ℕ → ℕ → Type 0
LastPair ps u t = (w : ℕ) × (is_recorded ps w t ≡ true) × ((u ≡ w) ⊎ (reaches ps u w ≡ true))

last_pair-more : (ps : List Pair) (u v t : ℕ) → is_recorded ps u v ≡ true → LastPair ps v t → LastPair ps u t
last_pair-more ps u v t h l = (l.0, l.1, go l.2)
  where
    go : ((v ≡ l.0) ⊎ (reaches ps v l.0 ≡ true)) → (u ≡ l.0) ⊎ (reaches ps u l.0 ≡ true)
    go (inl e) = inr (subst (λ (w : ℕ). reaches ps u w ≡ true) e (recorded-reaches ps u v h))
    go (inr r) = inr (reaches-join ps u v l.0 (recorded-reaches ps u v h) r)

Precedes-last : (ps : List Pair) {u t : ℕ} → Precedes ps u t → LastPair ps u t
Precedes-last ps (by_pair {a = u} {b = t} h) = (u, h, inl refl)
Precedes-last ps (by_chain {a = u} {b = v} {c = t} h k) = last_pair-more ps u v t h (Precedes-last ps k)

Precedes-first : (ps : List Pair) {u t : ℕ} → Precedes ps u t → FirstPair ps u
Precedes-first ps (by_pair {a = u} {b = t} h) = (t, h)
Precedes-first ps (by_chain {a = u} {b = v} {c = t} h k) = (v, h)

pub last_pair : (ps : List Pair) (u t : ℕ) → reaches ps u t ≡ true → LastPair ps u t
last_pair ps u t h = Precedes-last ps ((decides ps u t).0 h)

pub first_pair : (ps : List Pair) (u t : ℕ) → reaches ps u t ≡ true → FirstPair ps u
first_pair ps u t h = Precedes-first ps ((decides ps u t).0 h)

pub none-reaches : (ps : List Pair) (a u : ℕ) → ((w : ℕ) → is_recorded ps w a ≡ false) → reaches ps u a ≡ false
none-reaches ps a u none = false_from_ne_true _ (λ r. let l = last_pair ps u a r in both_ways _ (none l.0) l.1)

-- after the pairs of a call go that none is before
pub reaches-retire : (ps : List Pair) (a u v : ℕ) → ((w : ℕ) → is_recorded ps w a ≡ false) → reaches (retired ps a) u v ≡ (not (u == a) && reaches ps u v)
reaches-retire ps a u v none = reaches-retired ps a u v (λ w. none-reaches ps a w none)
