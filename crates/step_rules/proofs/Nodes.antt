-- Searches of lists of nodes, and the nodes among picks.
use Rattle.std.proofs.Common.{◌≡◌, ℕ, ◌+◌, ◌<◌, ◌≤◌, Bool, true, false, List, [], ◌∷◌, ◌++◌, length, take, drop, get_or, find, refl, sym, ap, ◌∙◌, arith, Option, Some, None}
use Rattle.std.specs.Prelude.{slice_get}
use Rattle.std.proofs.lemmas.List.{drop_more, take_more, drop_all, length-take}
use Rattle.std.proofs.lemmas.Option.{slice_get_within, get_or_from_slice_get}
use Rattle.signal_graph.specs.Values.{nodes_in}
use Rattle.signal_graph.proofs.Members.{nodes_in-length, nodes_in-append}
use Rattle.node_versions.specs.Entries.{Versions}

-- what is found first from an index on
pub find-here : (test : ℕ → Bool) (xs : List ℕ) (i d : ℕ) (whole : Option ℕ) → i < length xs → find test (drop i xs) ≡ whole → true ≡ test (get_or xs i d) → Some (get_or xs i d) ≡ whole
find-here test xs i d whole h so is = let r = ap (find test) (drop_more xs i d h) in grind (arith, r, so, is)

pub find-more : (test : ℕ → Bool) (xs : List ℕ) (i d : ℕ) (whole : Option ℕ) → i < length xs → find test (drop i xs) ≡ whole → false ≡ test (get_or xs i d) → find test (drop (i + 1) xs) ≡ whole
find-more test xs i d whole h so is = let r = ap (find test) (drop_more xs i d h) in grind (arith, r, so, is)

pub find-none : (test : ℕ → Bool) (xs : List ℕ) (i : ℕ) (whole : Option ℕ) → length xs ≤ i → find test (drop i xs) ≡ whole → None ≡ whole
find-none test xs i whole h so = sym (ap (find test) (drop_all i xs h)) ∙ so

-- a loop over lists that stay as they are
pub record Stays {A : Type 0} (listing : A → ℕ → Versions) (count : A → ℕ) (old now : A) : Type 0 where
  pub lists : listing now ≡ listing old
  pub nodes : count now ≡ count old

pub find-append : (test : ℕ → Bool) (xs ys : List ℕ) → find test xs ≡ None → find test (xs ++ ys) ≡ find test ys
find-append test [] ys h = refl
find-append test (x ∷ xs) ys h = let r = find-append test xs ys in grind (arith, r, h)

pub find-append-some : (test : ℕ → Bool) (xs ys : List ℕ) (m : ℕ) → find test xs ≡ Some m → find test (xs ++ ys) ≡ Some m
find-append-some test [] ys m h = cc
find-append-some test (x ∷ xs) ys m h = let r = find-append-some test xs ys m in grind (arith, r, h)

-- ---- the nodes among picks

take-more : {X : Type 0} (xs : List X) (i : ℕ) (x : X) → slice_get xs i ≡ Some x → take (i + 1) xs ≡ take i xs ++ x ∷ []
take-more {X} xs i x h = take_more xs i x (slice_get_within xs i x h)
    ∙ ap (λ (y : X). take i xs ++ y ∷ []) (get_or_from_slice_get xs i x x h)

pub nodes-few : (ps : List (Option ℕ)) (i : ℕ) → length (nodes_in (take i ps)) ≤ i
nodes-few ps i = let r = nodes_in-length (take i ps) in let s = length-take i ps in omega (arith, r, s)

pub room-left : (items ns : List ℕ) (i len room : ℕ) → items ≡ ns → length ns ≤ i → i < len → len ≤ room → length items < room
room-left items ns i len room is few h most = let l = ap (λ (xs : List ℕ). length xs) is in omega (arith, l, few, h, most)

pub nodes-next : (ps : List (Option ℕ)) (i : ℕ) (p : Option ℕ) → slice_get ps i ≡ Some p → nodes_in (take (i + 1) ps) ≡ nodes_in (take i ps) ++ nodes_in (p ∷ [])
nodes-next ps i p h = ap nodes_in (take-more ps i p h) ∙ nodes_in-append (take i ps) (p ∷ [])
