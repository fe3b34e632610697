-- The passes of all callers, at first.
use Rattle.std.proofs.Common.{◌≡◌, ℕ, zero, suc, ◌+◌, List, [], ◌∷◌, ◌++◌, length, replicate, Box, refl, ap, ◌∙◌, arith}
use Rattle.std.proofs.lemmas.List.{map-append, replicate_more}
use Rattle.std.specs.declared.alloc.Global.{Global}
use Rattle.node_set.specs.Members.{Members}
use Rattle.caller_fronts.specs.Tokens.{Idle}
use Rattle.sweeper.specs.declared.luggage.Luggage.{Luggage}
use Rattle.sweeper.specs.Ends.{fresh}
use Rattle.sweeper.specs.Tokens.{outs_of}

pub fresh-push : (from n : ℕ) → fresh from n ++ record { caller = from + n; front = [] } ∷ [] ≡ fresh from (suc n)
fresh-push from zero = ap (λ (k : ℕ). record { caller = k; front = [] } ∷ []) (omega arith)
fresh-push from (suc n) = ap (λ (l : List Idle). record { caller = from; front = [] } ∷ l) (ap (λ (k : ℕ). fresh (suc from) n ++ record { caller = k; front = [] } ∷ []) (omega arith) ∙ fresh-push (suc from) n)

pub fresh-long : (from n : ℕ) → length (fresh from n) ≡ n
fresh-long from zero = refl
fresh-long from (suc n) = ap suc (fresh-long (suc from) n)

-- ---- the luggage of all callers, at first

pub one-more : (all : List (Box Luggage Global)) (x : Box Luggage Global) (n : ℕ) (m : Members) → outs_of all ≡ replicate n m → x.value.out ≡ m
    → outs_of (all ++ x ∷ []) ≡ replicate (n + 1) m
one-more all x n m h is =
    map-append (λ (l : Box Luggage Global). l.value.out) all (x ∷ [])
    ∙ ap (λ (ms : List Members). ms ++ x.value.out ∷ []) h ∙ ap (λ (y : Members). replicate n m ++ y ∷ []) is ∙ replicate_more n m

pub first-out : (x : Box Luggage Global) (xs : List (Box Luggage Global)) (m : Members) → outs_of (x ∷ xs) ≡ replicate (length (x ∷ xs)) m → x.value.out ≡ m
first-out x xs m h = ap (first m) h
  where
    first : Members → List Members → Members
    first d [] = d
    first d (y ∷ ys) = y

pub other-outs : (x : Box Luggage Global) (xs : List (Box Luggage Global)) (m : Members) → outs_of (x ∷ xs) ≡ replicate (length (x ∷ xs)) m
    → outs_of xs ≡ replicate (length xs) m
other-outs x xs m h = ap behind h
  where
    behind : List Members → List Members
    behind [] = []
    behind (y ∷ ys) = ys
