-- The first number of a schedule that names no thread.
use Rattle.std.proofs.Common.{◌≡◌, ℕ, zero, suc, ◌+◌, ◌<◌, ◌≤◌, Bool, true, false, refl, ap, arith, List, [], ◌∷◌, map, length, drop, get_or, ◌∙◌, Option, Some, None}
use Rattle.std.specs.Prelude.{All}
use Rattle.std.proofs.lemmas.List.{drop_more, drop_all}
use Rattle.signal_graph.specs.Machine.{first_wrong}
use Rattle.replay_run.specs.Schedule.{names_thread, first_unnamed}

-- the search, as far as it has come
abbrev pub from_place : ℕ → List ℕ → ℕ → Option ℕ
from_place threads schedule i = first_wrong (i + 1) (map (names_thread threads) (drop i schedule))

here : (threads : ℕ) (schedule : List ℕ) (i : ℕ) → i < length schedule
    → from_place threads schedule i ≡ first_wrong (i + 1) (names_thread threads (get_or schedule i 0) ∷ map (names_thread threads) (drop (i + 1) schedule))
here threads schedule i l = ap (λ (ns : List ℕ). first_wrong (i + 1) (map (names_thread threads) ns)) (drop_more schedule i 0 l)

pub unnamed-here : (threads : ℕ) (schedule : List ℕ) (i : ℕ) → i < length schedule → names_thread threads (get_or schedule i 0) ≡ false → from_place threads schedule i ≡ Some (i + 1)
unnamed-here threads schedule i l e = here threads schedule i l ∙ ap (λ (b : Bool). first_wrong (i + 1) (b ∷ map (names_thread threads) (drop (i + 1) schedule))) e

pub named-here : (threads : ℕ) (schedule : List ℕ) (i : ℕ) → i < length schedule → names_thread threads (get_or schedule i 0) ≡ true → from_place threads schedule i ≡ from_place threads schedule (i + 1)
named-here threads schedule i l e = here threads schedule i l ∙ ap (λ (b : Bool). first_wrong (i + 1) (b ∷ map (names_thread threads) (drop (i + 1) schedule))) e

pub none-unnamed : (threads : ℕ) (schedule : List ℕ) (i : ℕ) → length schedule ≤ i → from_place threads schedule i ≡ None
none-unnamed threads schedule i l = ap (λ (ns : List ℕ). first_wrong (i + 1) (map (names_thread threads) ns)) (drop_all i schedule l)

-- where there is none, each number names a thread
named-from : (threads k : ℕ) (schedule : List ℕ) → first_wrong k (map (names_thread threads) schedule) ≡ None → All (λ (n : ℕ). names_thread threads n ≡ true) schedule
named-from threads k [] h = λ i d l. absurd (omega (arith, l))
named-from threads k (n ∷ schedule) h = go (names_thread threads n) refl h (λ e. named-from threads (k + 1) schedule e)
  where
    go : (b : Bool) → names_thread threads n ≡ b → first_wrong k (b ∷ map (names_thread threads) schedule) ≡ None
        → (first_wrong (k + 1) (map (names_thread threads) schedule) ≡ None → All (λ (m : ℕ). names_thread threads m ≡ true) schedule) → All (λ (m : ℕ). names_thread threads m ≡ true) (n ∷ schedule)
    go true e f further = λ i d l. at i d l
      where
        at : (i d : ℕ) → i < length (n ∷ schedule) → names_thread threads (get_or (n ∷ schedule) i d) ≡ true
        at zero d l = e
        at (suc i) d l = further f i d (omega (arith, l))
    go false e f further = absurd (cc)

pub all-named : (threads : ℕ) (schedule : List ℕ) → first_unnamed threads schedule ≡ None → All (λ (n : ℕ). names_thread threads n ≡ true) schedule
all-named threads schedule h = named-from threads 1 schedule h

pub number-some : (threads n : ℕ) → names_thread threads n ≡ true → 1 ≤ n
number-some threads n h = grind (arith, h)
