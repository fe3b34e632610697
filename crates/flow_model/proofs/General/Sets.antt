-- A set with a node put in or taken out has the other members that it had, and is a set still.
use Rattle.std.proofs.Common.{◌≡◌, ℕ, Bool, true, false, ◌&&◌, ◌||◌, not, ◌==◌, arith, List, [], ◌∷◌, refl, ap, ◌<◌, ◌≢◌}
use Rattle.std.specs.Prelude.{nat_lt}
use Rattle.std.specs.List.{AllByRecursion}
use Rattle.std.proofs.lemmas.Bool.Decides.{eqb_tells}
use Rattle.std.proofs.lemmas.Bool.{eqb-true, eqb-false}
use Rattle.signal_graph.specs.Graph.{is_in}
use Rattle.flow_model.specs.Machine.Sets.{put, take_out, put_all, without, IsSet}

pub in-put : (m n : ℕ) (xs : List ℕ) → is_in m (put n xs) ≡ ((m == n) || is_in m xs)
in-put m n [] = grind (arith, eqb_tells)
in-put m n (x ∷ xs) = let r = in-put m n xs in grind (arith, eqb_tells, r)

pub in-take_out : (m n : ℕ) (xs : List ℕ) → is_in m (take_out n xs) ≡ (is_in m xs && not (m == n))
in-take_out m n [] = refl
in-take_out m n (x ∷ xs) = let r = in-take_out m n xs in grind (arith, eqb_tells, r)

pub in-put_all : (m : ℕ) (ns xs : List ℕ) → is_in m (put_all ns xs) ≡ (is_in m ns || is_in m xs)
in-put_all m [] xs = refl
in-put_all m (n ∷ ns) xs = let r = in-put_all m ns (put n xs) in let p = in-put m n xs in grind (arith, eqb_tells, r, p)

pub in-without : (m : ℕ) (ns xs : List ℕ) → is_in m (without ns xs) ≡ (is_in m ns && not (is_in m xs))
in-without m [] xs = refl
in-without m (n ∷ ns) xs = let r = in-without m ns xs in let e = λ (k : (n == m) ≡ true). ap (λ (w : ℕ). is_in w xs) (eqb-true n m k) in grind (arith, eqb_tells, r, e)

-- ---- sets stay sets

below-all : (x y : ℕ) (xs : List ℕ) → x < y → AllByRecursion (λ z. y < z) xs → AllByRecursion (λ z. x < z) xs
below-all x y [] h a = tt
below-all x y (z ∷ zs) h a = (let k = a.0 in omega (arith, h, k), below-all x y zs h a.1)

put-above : (x n : ℕ) (xs : List ℕ) → x < n → AllByRecursion (λ z. x < z) xs → AllByRecursion (λ z. x < z) (put n xs)
put-above x n [] h a = (h, tt)
put-above x n (y ∷ ys) h a = go (y == n) (nat_lt n y) (put-above x n ys h a.1)
  where
    go : (b c : Bool) → AllByRecursion (λ z. x < z) (put n ys) → AllByRecursion (λ z. x < z) (elim b [ true ↦ y ∷ ys | false ↦ elim c [ true ↦ n ∷ y ∷ ys | false ↦ y ∷ put n ys ] ])
    go true c r = a
    go false true r = (h, a)
    go false false r = (a.0, r)

pub put-IsSet : (n : ℕ) (xs : List ℕ) → IsSet xs → IsSet (put n xs)
put-IsSet n [] h = (tt, tt)
put-IsSet n (y ∷ ys) h = go (y == n) refl (nat_lt n y) refl (put-IsSet n ys h.1)
  where
    above : (y == n) ≡ false → nat_lt n y ≡ false → y < n
    above e f = let ne = eqb-false y n e in let l : n < y → ⊥ = λ k. grind (arith, f, k) in between y n ne l
      where
        between : (y n : ℕ) → y ≢ n → (n < y → ⊥) → y < n
        between y n ne l = grind (arith, ne, l)

    go : (b : Bool) → (y == n) ≡ b → (c : Bool) → nat_lt n y ≡ c → IsSet (put n ys) → IsSet (elim b [ true ↦ y ∷ ys | false ↦ elim c [ true ↦ n ∷ y ∷ ys | false ↦ y ∷ put n ys ] ])
    go true e c f r = h
    go false e true f r = let l : n < y = grind (arith, f) in ((l, below-all n y ys l h.0), h)
    go false e false f r = (put-above y n ys (above e f) h.0, r)

take_out-above : (x n : ℕ) (xs : List ℕ) → AllByRecursion (λ z. x < z) xs → AllByRecursion (λ z. x < z) (take_out n xs)
take_out-above x n [] a = tt
take_out-above x n (y ∷ ys) a = go (y == n) (take_out-above x n ys a.1)
  where
    go : (b : Bool) → AllByRecursion (λ z. x < z) (take_out n ys) → AllByRecursion (λ z. x < z) (elim b [ true ↦ take_out n ys | false ↦ y ∷ take_out n ys ])
    go true r = r
    go false r = (a.0, r)

pub take_out-IsSet : (n : ℕ) (xs : List ℕ) → IsSet xs → IsSet (take_out n xs)
take_out-IsSet n [] h = tt
take_out-IsSet n (y ∷ ys) h = go (y == n) (take_out-IsSet n ys h.1)
  where
    go : (b : Bool) → IsSet (take_out n ys) → IsSet (elim b [ true ↦ take_out n ys | false ↦ y ∷ take_out n ys ])
    go true r = r
    go false r = (take_out-above y n ys h.0, r)

pub put_all-IsSet : (ns xs : List ℕ) → IsSet xs → IsSet (put_all ns xs)
put_all-IsSet [] xs h = h
put_all-IsSet (n ∷ ns) xs h = put_all-IsSet ns (put n xs) (put-IsSet n xs h)
