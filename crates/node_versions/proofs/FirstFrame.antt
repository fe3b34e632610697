-- The index of the first Frame, after each change of a list.
use Rattle.std.proofs.Common.{◌≡◌, ℕ, ◌+◌, ◌-◌, ◌<◌, ◌≤◌, true, false, List, [], ◌∷◌, length, length-drop, drop, refl, sym, ap, ◌∙◌, arith, zero, suc}
use Rattle.std.specs.List.{insert, position_or_len, slice_index_or}
use Rattle.std.proofs.Math.Seq.{drop-cons}
use Rattle.node_versions.specs.Entries.{Entry, State, is_frame, is_done, has, with_state}
use Rattle.node_versions.proofs.Indexes.{opens}
use Rattle.node_versions.proofs.Places.{place, place_fits}

abbrev pub frames : List Entry → ℕ
frames es = position_or_len opens es

-- ---- the search for a Frame

pub frame_here : (es : List Entry) (i : ℕ) (e : Entry) → frames es ≡ i + frames (drop i es) → i < length es → e ≡ slice_index_or es i e → is_frame e.state ≡ true → i ≡ frames es
frame_here es i e so lt at h =
    let part = drop-cons es i e lt in
    let first = ap frames part ∙ ap (λ (x : Entry). frames (x ∷ drop (suc i) es)) (sym at) in
    grind (arith, so, first, h)

pub frame_further : (es : List Entry) (i : ℕ) (e : Entry) → frames es ≡ i + frames (drop i es) → i < length es → e ≡ slice_index_or es i e → is_frame e.state ≡ false → frames es ≡ i + 1 + frames (drop (i + 1) es)
frame_further es i e so lt at h =
    let part = drop-cons es i e lt in
    let first = ap frames part ∙ ap (λ (x : Entry). frames (x ∷ drop (suc i) es)) (sym at) in
    let next : i + 1 ≡ suc i = omega arith in
    so ∙ grind (arith, first, h) ∙ ap (λ n. n + frames (drop n es)) (sym next)

pub frame_nowhere : (es : List Entry) (i : ℕ) → frames es ≡ i + frames (drop i es) → length es ≤ i → i ≤ length es → length es ≡ frames es
frame_nowhere es i so le ge = let none = place_fits opens (drop i es) in let short = length-drop i es in omega (arith, so, le, ge, none, short)

-- ---- one entry more

pub frame_inserted : (es : List Entry) (i : ℕ) (e : Entry) → i ≤ frames es → is_frame e.state ≡ true → frames (insert es i e) ≡ i
frame_inserted es zero e le h = grind (arith, h)
frame_inserted [] (suc i) e le h = absurd (omega (arith, le))
frame_inserted (x ∷ es) (suc i) e le h = let r = frame_inserted es i e in grind (arith, le, h, r)

pub frame_shifted : (es : List Entry) (i : ℕ) (e : Entry) → i ≤ frames es → is_frame e.state ≡ false → frames (insert es i e) ≡ frames es + 1
frame_shifted es zero e le h = grind (arith, h)
frame_shifted [] (suc i) e le h = absurd (omega (arith, le))
frame_shifted (x ∷ es) (suc i) e le h = let r = frame_shifted es i e in grind (arith, le, h, r)

pub frame_before : (es : List Entry) (i : ℕ) (e : Entry) → frames es < i → i ≤ length es → frames (insert es i e) ≡ frames es
frame_before es zero e lt le = absurd (omega (arith, lt))
frame_before [] (suc i) e lt le = absurd (omega (arith, le))
frame_before (x ∷ es) (suc i) e lt le = let r = frame_before es i e in grind (arith, lt, le, r)

-- ---- another state

pub frame_kept : (es : List Entry) (t : ℕ) (s : State) → frames es < place es t → frames (with_state t s es) ≡ frames es
frame_kept [] t s lt = refl
frame_kept (x ∷ es) t s lt = let r = frame_kept es t s in grind (arith, lt, r)

pub frame_raised : (es : List Entry) (t : ℕ) (s : State) → has es t ≡ true → place es t ≤ frames es → is_frame s ≡ true → frames (with_state t s es) ≡ place es t
frame_raised [] t s h le k = refl
frame_raised (x ∷ es) t s h le k = let r = frame_raised es t s in grind (arith, h, le, k, r)

-- ---- a part of the list

pub frame_from : (es : List Entry) (n : ℕ) → n ≤ frames es → frames es ≡ n + frames (drop n es)
frame_from es zero le = omega arith
frame_from [] (suc n) le = absurd (omega (arith, le))
frame_from (x ∷ es) (suc n) le = let r = frame_from es n in grind (arith, le, r)

pub frame_finished : (es : List Entry) (t : ℕ) (s : State) → has es t ≡ true → place es t ≤ frames es → is_frame s ≡ false → frames (with_state t s es) ≡ place es t + 1 + frames (drop (place es t + 1) es)
frame_finished [] t s h le k = absurd (grind (arith, h))
frame_finished (x ∷ es) t s h le k = let r = frame_finished es t s in grind (arith, h, le, k, r)

-- what `collect` leaves
pub frame_collected : (es : List Entry) (n f : ℕ) (e : Entry) → is_done e.state ≡ true → f ≡ n + frames (drop n es) → f - n + 1 ≡ frames (e ∷ drop n es)
frame_collected es n f e h at = let other = done_no_frame e.state h in grind (arith, at, other)
  where
    done_no_frame : (s : State) → is_done s ≡ true → is_frame s ≡ false
    done_no_frame s h = grind (arith, h)
