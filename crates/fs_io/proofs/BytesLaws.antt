-- How what calls do to told bytes adds up.
use Rattle.std.proofs.Common.{◌≡◌, ℕ, ◌+◌, ◌≤◌, List, [], ◌∷◌, ◌++◌, length, Option, None, Some, refl, sym, ◌∙◌, inl, inr, arith}
use Rattle.std.proofs.lemmas.Grind.{common_steps}
use Rattle.std.specs.Io.KnownBytes.{Consumes, IsAtEnd}
use Rattle.fs_io.specs.Count.{Rose}
use Rattle.fs_io.specs.Bytes.{Ends, LosesFront, GivesFirst, Adds, Stays, AddsFirst, Moves}

-- two growths in turn are one
pub Adds-twice : (a b c : Option (List ℕ)) (x y : List ℕ) → Adds a b x → Adds b c y → Adds a c (x ++ y)
Adds-twice a b None x y p q = tt
Adds-twice a None (Some w) x y p q = absurd q
Adds-twice None (Some v) (Some w) x y p q = absurd p
Adds-twice (Some u) (Some v) (Some w) x y p q = grind (arith, common_steps)

-- a growth that stays is that growth
pub Adds-stays : (a b c : Option (List ℕ)) (x : List ℕ) → Adds a b x → Stays b c → Adds a c x
Adds-stays a b None x p q = tt
Adds-stays a None (Some w) x p q = absurd q
Adds-stays None (Some v) (Some w) x p q = absurd p
Adds-stays (Some u) (Some v) (Some w) x p q = cc

-- a growth by the front of some bytes is one by the first few of them
pub AddsFirst-front : (a b : Option (List ℕ)) (x y all : List ℕ) → Adds a b x → all ≡ x ++ y → AddsFirst a b all
AddsFirst-front a None x y all p e = tt
AddsFirst-front None (Some v) x y all p e = absurd p
AddsFirst-front (Some u) (Some v) x y all p e = (length x, grind (arith, common_steps), grind (arith, common_steps))

-- two losses in front in turn are one
pub Consumes-twice : (a b c : Option (List ℕ)) (x y : List ℕ) → Consumes a b x → Consumes b c y → Consumes a c (x ++ y)
Consumes-twice None b c x y p q = tt
Consumes-twice (Some u) None c x y p q = absurd p
Consumes-twice (Some u) (Some v) None x y p q = absurd q
Consumes-twice (Some u) (Some v) (Some w) x y p q = grind (arith, common_steps)

-- a loss of some bytes, and of some more
pub LosesFront-after : (a b c : Option (List ℕ)) (x : List ℕ) → Consumes a b x → LosesFront b c → LosesFront a c
LosesFront-after None b c x p q = tt
LosesFront-after (Some u) None c x p q = absurd p
LosesFront-after (Some u) (Some v) None x p q = absurd q
LosesFront-after (Some u) (Some v) (Some w) x p q = (x ++ q.0, grind (arith, common_steps))

-- n bytes that were lost in front are the first n
pub GivesFirst-loss : (n : ℕ) (a b : Option (List ℕ)) (x : List ℕ) → Consumes a b x → length x ≡ n → GivesFirst n a b x
GivesFirst-loss n None b x p e = tt
GivesFirst-loss n (Some u) None x p e = absurd p
GivesFirst-loss n (Some u) (Some v) x p e = (grind (arith, common_steps), grind (arith, common_steps))

append-nil_parts : (x y : List ℕ) → x ++ y ≡ [] → (x ≡ []) × (y ≡ [])
append-nil_parts [] y e = (refl, e)
append-nil_parts (a ∷ x) y e = cc

-- where none was left, none is left after a loss of none
pub Ends-loss : (a b c : Option (List ℕ)) (x y : List ℕ) → Consumes a b x → IsAtEnd b → Consumes b c y → Ends a c
Ends-loss None b c x y p e q = tt
Ends-loss (Some u) None c x y p e q = absurd p
Ends-loss (Some u) (Some v) None x y p e q = absurd q
Ends-loss (Some u) (Some v) (Some w) x y p e q = (append-nil_parts y w (sym q ∙ e)).1

-- all bytes are the first n, where there are no more than n
pub GivesFirst-end : (n : ℕ) (a b : Option (List ℕ)) (x : List ℕ) → Consumes a b x → Ends a b → length x ≤ n → GivesFirst n a b x
GivesFirst-end n None b x p e h = tt
GivesFirst-end n (Some u) None x p e h = absurd p
GivesFirst-end n (Some u) (Some v) x p e h = (grind (arith, common_steps), grind (arith, common_steps))

-- no loss, beside the empty text
pub Consumes-start : (a : Option (List ℕ)) (x : List ℕ) → x ≡ [] → Consumes a a x
Consumes-start None x e = tt
Consumes-start (Some u) x e = cc

-- a text that is what was lost so far is that after some more came
pub Consumes-moves : (a b c : Option (List ℕ)) (t u : List ℕ) (n : ℕ) → Consumes a b t → Moves b c t u n → Consumes a c u
Consumes-moves a b c t u n p m = rw m.2 (Consumes-twice a b c t m.0 p m.1)

-- a text grows by as many bytes as came
pub length-moves : (b c : Option (List ℕ)) (t u : List ℕ) (n : ℕ) → Moves b c t u n → length u ≡ length t + n
length-moves b c t u n m = grind (arith, common_steps)

-- where none was left, none is left after a read
pub Ends-moves : (a b c : Option (List ℕ)) (t u : List ℕ) (n : ℕ) → Consumes a b t → IsAtEnd b → Moves b c t u n → Ends a c
Ends-moves a b c t u n p e m = Ends-loss a b c t m.0 p e m.1

-- a count that rose at a later call rose
pub Rose-later : (a b c : ℕ) → a ≤ b → Rose b c → Rose a c
Rose-later a b c h (inl r) = inl (omega arith)
Rose-later a b c h (inr r) = inr r
