-- The index behind the last Done, after each change of a list.
use Rattle.std.proofs.Common.{◌≡◌, ℕ, ◌+◌, ◌-◌, ◌<◌, ◌≤◌, true, false, not, List, [], ◌∷◌, length, take, drop, min, max, refl, sym, ap, ◌∙◌, arith, zero, suc, nat_lt, inl, inr}
use Rattle.std.specs.List.{insert}
use Rattle.std.specs.Option.{is_some}
use Rattle.std.proofs.lemmas.Bool.{cases_lt}
use Rattle.std.proofs.lemmas.Bool.Decides.{nat_tests}
use Rattle.node_versions.specs.Entries.{Entry, State, is_done, last_done, done_len, has, at, with_state}
use Rattle.node_versions.proofs.Places.{place}

pub done_len_tells : (es : List Entry) → is_some (last_done es) ≡ nat_lt 0 (done_len es)
done_len_tells [] = grind (arith, nat_tests)
done_len_tells (e ∷ es) = let r = done_len_tells es in grind (arith, nat_tests, r)

pub done_len_fits : (es : List Entry) → done_len es ≤ length es
done_len_fits [] = omega arith
done_len_fits (e ∷ es) = let r = done_len_fits es in grind (arith, r)

pub nothing_done : (es : List Entry) → is_some (last_done es) ≡ false → done_len es ≡ 0
nothing_done es h = let a = done_len_tells es in grind (arith, nat_tests, a, h)

-- ---- one entry more

pub done_shifted : (es : List Entry) (i : ℕ) (e : Entry) → i < done_len es → done_len (insert es i e) ≡ done_len es + 1
done_shifted es zero e lt = let a = done_len_tells es in grind (arith, nat_tests, a, lt)
done_shifted [] (suc i) e lt = absurd (omega (arith, lt))
done_shifted (x ∷ es) (suc i) e lt =
    let r = done_shifted es i e in
    let a = done_len_tells es in
    let b = done_len_tells (insert es i e) in
    grind (arith, nat_tests, lt, r, a, b)

pub done_inserted : (es : List Entry) (i : ℕ) (e : Entry) → done_len es ≤ i → i ≤ length es → is_done e.state ≡ true → done_len (insert es i e) ≡ i + 1
done_inserted es zero e le fits h = let a = done_len_tells es in grind (arith, nat_tests, a, le, h)
done_inserted [] (suc i) e le fits h = absurd (omega (arith, fits))
done_inserted (x ∷ es) (suc i) e le fits h =
    let r = done_inserted es i e in
    let a = done_len_tells es in
    let b = done_len_tells (insert es i e) in
    grind (arith, nat_tests, le, fits, h, r, a, b)

pub done_before : (es : List Entry) (i : ℕ) (e : Entry) → done_len es ≤ i → is_done e.state ≡ false → done_len (insert es i e) ≡ done_len es
done_before es zero e le h = let a = done_len_tells es in grind (arith, nat_tests, a, le, h)
done_before [] (suc i) e le h = grind (arith, h)
done_before (x ∷ es) (suc i) e le h =
    let r = done_before es i e in
    let a = done_len_tells es in
    let b = done_len_tells (insert es i e) in
    grind (arith, nat_tests, le, h, r, a, b)

-- ---- another state

pub done_finished : (es : List Entry) (t : ℕ) (s : State) → has es t ≡ true → is_done s ≡ true → done_len (with_state t s es) ≡ max (done_len es) (place es t + 1)
done_finished [] t s h k = absurd (grind (arith, h))
done_finished (x ∷ es) t s h k =
    let r = done_finished es t s in
    let a = done_len_tells es in
    let b = done_len_tells (with_state t s es) in
    grind (arith, nat_tests, h, k, r, a, b)

pub done_kept : (es : List Entry) (t : ℕ) (s : State) → at (λ q. not (is_done q)) es t ≡ true → is_done s ≡ false → done_len (with_state t s es) ≡ done_len es
done_kept [] t s h k = refl
done_kept (x ∷ es) t s h k =
    let r = done_kept es t s in
    let a = done_len_tells es in
    let b = done_len_tells (with_state t s es) in
    grind (arith, nat_tests, h, k, r, a, b)

-- ---- a part of the list

pub done_from : (es : List Entry) (n : ℕ) → done_len (drop n es) ≡ done_len es - n
done_from es zero = omega arith
done_from [] (suc n) = omega arith
done_from (x ∷ es) (suc n) =
    let r = done_from es n in
    let a = done_len_tells es in
    grind (arith, nat_tests, r, a)

last_done_part : (es : List Entry) (n : ℕ) → done_len es ≤ n → last_done (take n es) ≡ last_done es
last_done_part [] zero le = refl
last_done_part [] (suc n) le = refl
last_done_part (x ∷ es) zero le =
    let a = done_len_tells es in
    grind (arith, nat_tests, a, le)
last_done_part (x ∷ es) (suc n) le =
    let r = last_done_part es n in
    let a = done_len_tells es in
    grind (arith, nat_tests, a, le, r)

pub last_done_among : (es : List Entry) (n : ℕ) → last_done (take (min n (done_len es)) es) ≡ last_done (take n es)
last_done_among es n = elim (cases_lt n (done_len es)) [
  | inl below ↦ ap (λ k. last_done (take k es)) (omega (arith, below))
  | inr past ↦ ap (λ k. last_done (take k es)) (omega (arith, past)) ∙ last_done_part es (done_len es) (omega arith) ∙ sym (last_done_part es n past)
]

-- what `collect` leaves
pub done_collected : (es : List Entry) (n : ℕ) (e : Entry) → is_done e.state ≡ true → done_len (e ∷ drop n es) ≡ done_len es - n + 1
done_collected es n e h =
    let r = done_from es n in
    let a = done_len_tells (drop n es) in
    grind (arith, nat_tests, h, r, a)
