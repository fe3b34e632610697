-- What the code finds by an index.
use Rattle.std.proofs.Common.{◌≡◌, ℕ, ◌+◌, ◌<◌, ◌≤◌, Bool, true, false, not, ◌&&◌, ◌||◌, ◌==◌, List, [], ◌∷◌, length, take, get_or, set, refl, sym, ap, ap₂, ◌∙◌, arith, nat_lt, subst, cond, zero, suc, Some}
use lib.Dec.{leb}
use Rattle.std.specs.List.{position_or_len, slice_get}
use Rattle.std.proofs.lemmas.Option.{get_or_from_slice_get}
use Rattle.std.proofs.lemmas.Bool.Decides.{nat_tests}
use Rattle.node_versions.specs.Entries.{OutEdge, Versions, with_entries, with_outs, Entry, at, since_at, State, is_mark, is_frame, is_done, has, before, up_to, with_state, is_of, is_active}

pub place_fits : (stops : Entry → Bool) (es : List Entry) → position_or_len stops es ≤ length es
place_fits stops [] = omega arith
place_fits stops (e ∷ es) = let r = place_fits stops es in grind (arith, r)

abbrev pub place : List Entry → ℕ → ℕ
place es t = position_or_len (is_of t) es

pub has-place : (es : List Entry) (t : ℕ) → has es t ≡ nat_lt (place es t) (length es)
has-place [] t = refl
has-place (e ∷ es) t = let r = has-place es t in grind (arith, nat_tests, r)

pub one_more : (n : ℕ) → 1 + n ≡ suc n
one_more n = omega arith

one_more_twice : (n : ℕ) → 1 + n + 1 ≡ suc (n + 1)
one_more_twice n = omega arith

pub take-before : (es : List Entry) (t : ℕ) → take (place es t) es ≡ before es t
take-before [] t = refl
take-before (e ∷ es) t = go (e.version == t) (take-before es t)
  where
    go : (b : Bool) → take (place es t) es ≡ before es t → take (cond (not b) (1 + place es t) 0) (e ∷ es) ≡ elim b as (λ _. List Entry) [ true ↦ [] | false ↦ e ∷ before es t ]
    go true r = refl
    go false r = ap (λ n. take n (e ∷ es)) (one_more (place es t)) ∙ ap (λ (xs : List Entry). e ∷ xs) r

pub take-up_to : (es : List Entry) (t : ℕ) → take (place es t + 1) es ≡ up_to es t
take-up_to [] t = refl
take-up_to (e ∷ es) t = go (e.version == t) (take-up_to es t)
  where
    go : (b : Bool) → take (place es t + 1) es ≡ up_to es t → take (cond (not b) (1 + place es t) 0 + 1) (e ∷ es) ≡ elim b as (λ _. List Entry) [ true ↦ e ∷ [] | false ↦ e ∷ up_to es t ]
    go true r = refl
    go false r = ap (λ n. take n (e ∷ es)) (one_more_twice (place es t)) ∙ ap (λ (xs : List Entry). e ∷ xs) r

pub place-below : (es : List Entry) (t : ℕ) → has es t ≡ true → place es t < length es
place-below es t h = let r = has-place es t in grind (arith, nat_tests, r)

pub has_at_place : (es : List Entry) (t i : ℕ) → i ≡ place es t → i < length es → has es t ≡ true
has_at_place es t i at h = let r = has-place es t in grind (arith, nat_tests, r, at, h)

has-take : (es : List Entry) (n s : ℕ) → has (take n es) s ≡ (nat_lt (place es s) n && has es s)
has-take es zero s = grind (arith, nat_tests)
has-take [] (suc n) s = grind (arith, nat_tests)
has-take (e ∷ es) (suc n) s = go (e.version == s) (has-take es n s)
  where
    go : (b : Bool) → has (take n es) s ≡ (nat_lt (place es s) n && has es s) → (b || has (take n es) s) ≡ (nat_lt (cond (not b) (1 + place es s) 0) (suc n) && (b || has es s))
    go true r = grind (arith, nat_tests)
    go false r = grind (arith, nat_tests, r)

place-bound : (es : List Entry) (t : ℕ) → place es t ≤ length es
place-bound [] t = omega arith
place-bound (e ∷ es) t = let r = place-bound es t in grind (arith, r)

pub place-absent : (es : List Entry) (t : ℕ) → has es t ≡ false → length es ≡ place es t
place-absent es t h = let r = has-place es t in let b = place-bound es t in grind (arith, nat_tests, r, b, h)

pub active-place : (es : List Entry) (since t : ℕ) → ((place es since == length es) || leb (place es since) (place es t)) ≡ is_active es since t
active-place es since t =
    let a = has-place es since in
    let b = has-take es (place es t + 1) since in
    let c = take-up_to es t in
    let d = place-bound es since in
    ap (λ (x : Bool). x) (grind (arith, nat_tests, a, b, d)) ∙ ap (λ (xs : List Entry). not (has es since) || has xs since) c

-- the list after a write of one entry's state
abbrev pub write : List Entry → ℕ → Entry → State → List Entry
write es i d s = set es i (record (get_or es i d) { state = s })

pub set-with_state : (es : List Entry) (t : ℕ) (d : Entry) (s : State) → has es t ≡ true → write es (place es t) d s ≡ with_state t s es
set-with_state [] t d s h = refl
set-with_state (e ∷ es) t d s h = go (e.version == t) refl (set-with_state es t d s)
  where
    go : (b : Bool) → (e.version == t) ≡ b → (has es t ≡ true → write es (place es t) d s ≡ with_state t s es)
        → write (e ∷ es) (cond (not b) (1 + place es t) 0) d s ≡ elim b as (λ _. List Entry) [ true ↦ record e { state = s } ∷ es | false ↦ e ∷ with_state t s es ]
    go true k r = refl
    go false k r = ap (λ n. write (e ∷ es) n d s) (one_more (place es t)) ∙ ap (λ (xs : List Entry). e ∷ xs) (r (grind (arith, k, h)))

pub at-has : (test : State → Bool) (es : List Entry) (t : ℕ) → at test es t ≡ true → has es t ≡ true
at-has test [] t h = h
at-has test (e ∷ es) t h = let r = at-has test es t in grind (arith, h, r)

pub at_implies : (test other : State → Bool) → ((s : State) → test s ≡ true → other s ≡ true) → (es : List Entry) (t : ℕ) → at test es t ≡ true → at other es t ≡ true
at_implies test other more [] t h = h
at_implies test other more (e ∷ es) t h = go (e.version == t) h (at_implies test other more es t)
  where
    go : (b : Bool) → elim b as (λ _. Bool) [ true ↦ test e.state | false ↦ at test es t ] ≡ true → (at test es t ≡ true → at other es t ≡ true) → elim b as (λ _. Bool) [ true ↦ other e.state | false ↦ at other es t ] ≡ true
    go true h r = more e.state h
    go false h r = r h

pub mark_no_done : (es : List Entry) (t : ℕ) → at is_mark es t ≡ true → at (λ s. not (is_done s)) es t ≡ true
mark_no_done es t h = at_implies is_mark (λ s. not (is_done s)) (λ s k. grind (arith, k)) es t h

pub frame_no_done : (es : List Entry) (t : ℕ) → at is_frame es t ≡ true → at (λ s. not (is_done s)) es t ≡ true
frame_no_done es t h = at_implies is_frame (λ s. not (is_done s)) (λ s k. grind (arith, k)) es t h

pub active_found : (es : List Entry) (outs : List OutEdge) (i t : ℕ) (edge : OutEdge) (p q n : ℕ) → slice_get outs i ≡ Some edge → p ≡ place es edge.1 → q ≡ place es t → n ≡ length es → ((p == n) || leb p q) ≡ is_active es (since_at outs i) t
active_found es outs i t edge p q n o a b c =
    (λ j. (a j == c j) || leb (a j) (b j)) ∙ active-place es edge.1 t ∙ ap (λ s. is_active es s t) (ap (λ (d : OutEdge). d.1) (sym (get_or_from_slice_get outs i edge (0, 0) o)))

stated : (es : List Entry) (t p : ℕ) (e : Entry) (s : State) → p ≡ place es t → has es t ≡ true → e ≡ get_or es p e → set es p (record e { state = s }) ≡ with_state t s es
stated es t p e s at h is = ap₂ (λ n (x : Entry). set es n (record x { state = s })) at (is ∙ ap (λ n. get_or es n e) at) ∙ set-with_state es t e s h

-- the list as it is seen after a change of its parts
pub replaced_entries : (old now : Versions) → old ≡ now → (entries : List Entry) (change : List Entry → List Entry) → entries ≡ change old.entries → with_entries old entries ≡ with_entries now (change now.entries)
replaced_entries old now is entries change e = ap (with_entries old) e ∙ ap (λ (v : Versions). with_entries v (change v.entries)) is

pub replaced_outs : (old now : Versions) → old ≡ now → (outs : List OutEdge) (change : List OutEdge → List OutEdge) → outs ≡ change old.outs → with_outs old outs ≡ with_outs now (change now.outs)
replaced_outs old now is outs change e = ap (with_outs old) e ∙ ap (λ (v : Versions). with_outs v (change v.outs)) is

pub seen_stated : (old now : Versions) → old ≡ now → (t p : ℕ) (e : Entry) (s : State) → p ≡ place now.entries t → has now.entries t ≡ true → e ≡ get_or old.entries p e → set old.entries p (record e { state = s }) ≡ with_state t s old.entries
seen_stated old now is t p e s at h item =
    stated old.entries t p e s (at ∙ ap (λ (v : Versions). place v.entries t) (sym is)) (subst (λ (v : Versions). has v.entries t ≡ true) (sym is) h) item
