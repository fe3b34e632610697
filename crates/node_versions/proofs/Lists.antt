-- The parts of a list around a place, and the place as an index.
use Rattle.std.proofs.Common.{◌≡◌, ℕ, Bool, ◌||◌, List, [], ◌∷◌, ◌++◌, length, take, drop, insert, refl, sym, ap, ap₂, ◌∙◌, arith}
use Rattle.std.specs.List.{position_or_len}
use Rattle.std.specs.Option.{option_or}
use Rattle.node_versions.specs.Entries.{Entry, has, last_done, front, rest, placed}

pub front-rest : (stops : Entry → Bool) (es : List Entry) → front stops es ++ rest stops es ≡ es
front-rest stops [] = refl
front-rest stops (e ∷ es) = let r = front-rest stops es in grind (arith, r)

-- the place is the length of the front
pub length-front : (stops : Entry → Bool) (es : List Entry) → length (front stops es) ≡ position_or_len stops es
length-front stops [] = refl
length-front stops (e ∷ es) = let r = length-front stops es in grind (arith, r)

pub take-front : (stops : Entry → Bool) (es : List Entry) → take (length (front stops es)) es ≡ front stops es
take-front stops [] = refl
take-front stops (e ∷ es) = let r = take-front stops es in grind (arith, r)

pub drop-front : (stops : Entry → Bool) (es : List Entry) → drop (length (front stops es)) es ≡ rest stops es
drop-front stops [] = refl
drop-front stops (e ∷ es) = let r = drop-front stops es in grind (arith, r)

pub placed-insert : (stops : Entry → Bool) (e : Entry) (es : List Entry) → placed stops e es ≡ insert es (position_or_len stops es) e
placed-insert stops e es = ap₂ (λ (xs ys : List Entry). xs ++ e ∷ ys) (sym (take-front stops es)) (sym (drop-front stops es)) ∙ ap (λ n. insert es n e) (length-front stops es)

pub has-append : (xs ys : List Entry) (u : ℕ) → has (xs ++ ys) u ≡ (has xs u || has ys u)
has-append [] ys u = refl
has-append (e ∷ es) ys u = let r = has-append es ys u in grind (arith, r)

pub last_done-append : (xs ys : List Entry) → last_done (xs ++ ys) ≡ option_or (last_done ys) (last_done xs)
last_done-append [] ys = grind arith
last_done-append (e ∷ es) ys = let r = last_done-append es ys in grind (arith, r)
