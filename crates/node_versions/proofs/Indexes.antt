-- The words on lists by indexes.
use Rattle.std.proofs.Common.{◌≡◌, ℕ, ◌+◌, ◌<◌, ◌≤◌, Bool, true, false, not, ◌&&◌, ◌||◌, ◌==◌, cond, List, [], ◌∷◌, length, take, drop, nat_lt, refl, sym, ap, ◌∙◌, arith, subst, zero, suc, Option, Some, None, true≢false}
use Rattle.std.specs.List.{position_or_len, slice_get, list_any}
use Rattle.std.proofs.lemmas.Bool.Decides.{eqb_tells, nat_tests}
use Rattle.std.proofs.lemmas.Bool.{eqb-true}
use Rattle.node_versions.specs.Entries.{Entry, State, is_frame, is_of, has, at, behind, served, before, up_to, IsUnique, IsEntryAt, IsFirstOpenAt, first_open, version_at, is_active}
use Rattle.node_versions.proofs.Places.{place, has-place, place_fits, one_more, take-before}

entry_at_place : (es : List Entry) (t : ℕ) (e : Entry) → slice_get es (place es t) ≡ Some e → (e.version ≡ t) × ((test : State → Bool) → at test es t ≡ test e.state)
entry_at_place [] t e h = cc
entry_at_place (x ∷ xs) t e h = go (x.version == t) refl h (entry_at_place xs t e)
  where
    Told : List Entry → Type 0
    Told es = (e.version ≡ t) × ((test : State → Bool) → at test es t ≡ test e.state)

    here : (x.version == t) ≡ true → Some x ≡ Some e → Told (x ∷ xs)
    here k h = (grind (arith, eqb_tells, k, h), λ test. grind (arith, k, h))

    go : (b : Bool) → (x.version == t) ≡ b → slice_get (x ∷ xs) (cond (not b) (1 + place xs t) 0) ≡ Some e → (slice_get xs (place xs t) ≡ Some e → Told xs) → Told (x ∷ xs)
    go true k h r = here k h
    go false k h r = let told = r (ap (slice_get (x ∷ xs)) (sym (one_more (place xs t))) ∙ h) in (told.0, λ test. let at = told.1 test in grind (arith, k, at))

pub entry_at_index : (es : List Entry) (t i : ℕ) → i ≡ place es t → IsEntryAt es t i
entry_at_index es t i at = record {
  version = λ e k. (entry_at_place es t e (ap (slice_get es) (sym at) ∙ k)).0;
  state = λ e test k. (entry_at_place es t e (ap (slice_get es) (sym at) ∙ k)).1 test;
}

pub has_no_index : (es : List Entry) (t i : ℕ) → i ≡ place es t → length es ≤ i → false ≡ has es t
has_no_index es t i at h = let r = has-place es t in grind (arith, nat_tests, r, at, h)

-- the test of `NodeList::first_open`
abbrev pub opens : Entry → Bool
opens e = is_frame e.state

first_open_at_place : (es : List Entry) (e : Entry) → slice_get es (position_or_len opens es) ≡ Some e → first_open es ≡ Some e.version
first_open_at_place [] e h = cc
first_open_at_place (x ∷ xs) e h = go (is_frame x.state) h (first_open_at_place xs e)
  where
    n : ℕ
    n = position_or_len opens xs

    go : (b : Bool) → slice_get (x ∷ xs) (cond (not b) (1 + n) 0) ≡ Some e → (slice_get xs n ≡ Some e → first_open xs ≡ Some e.version) → elim b as (λ _. Option ℕ) [ true ↦ Some x.version | false ↦ first_open xs ] ≡ Some e.version
    go true h r = grind (arith, h)
    go false h r = r (ap (slice_get (x ∷ xs)) (sym (one_more n)) ∙ h)

pub first_open_at_index : (es : List Entry) (i : ℕ) → i ≡ position_or_len opens es → IsFirstOpenAt es i
first_open_at_index es i at = λ e k. first_open_at_place es e (ap (slice_get es) (sym at) ∙ k)

no_place : (es : List Entry) → nat_lt (position_or_len opens es) (length es) ≡ false → first_open es ≡ None
no_place [] h = refl
no_place (x ∷ xs) h = go (is_frame x.state) h (no_place xs)
  where
    n : ℕ
    n = position_or_len opens xs

    go : (b : Bool) → nat_lt (cond (not b) (1 + n) 0) (suc (length xs)) ≡ false → (nat_lt n (length xs) ≡ false → first_open xs ≡ None) → elim b as (λ _. Option ℕ) [ true ↦ Some x.version | false ↦ first_open xs ] ≡ None
    go true h r = absurd (grind (arith, nat_tests, h))
    go false h r = r (grind (arith, nat_tests, h))

pub no_first_open : (es : List Entry) (i : ℕ) → i ≡ position_or_len opens es → length es ≤ i → first_open es ≡ None
no_first_open es i at h = no_place es (grind (arith, nat_tests, at, h))

pub behind_by_index : (es : List Entry) (t u : ℕ) → IsUnique es → has es u ≡ true → behind es t u ≡ nat_lt (place es t) (place es u)
behind_by_index [] t u q h = absurd (true≢false (sym h))
behind_by_index (e ∷ es) t u q h = go (e.version == t) (e.version == u) h (λ b. subst (λ v. has es v ≡ false) (eqb-true e.version t b) q.0) (λ c. subst (λ v. has es v ≡ false) (eqb-true e.version u c) q.0) (behind_by_index es t u q.1) (no_behind es t u)
  where
    no_behind : (es : List Entry) (t u : ℕ) → has es u ≡ false → behind es t u ≡ false
    no_behind [] t u h = refl
    no_behind (e ∷ es) t u h = let r = no_behind es t u in grind (arith, h, r)

    go : (b c : Bool) → (c || has es u) ≡ true → (b ≡ true → has es t ≡ false) → (c ≡ true → has es u ≡ false) → (has es u ≡ true → behind es t u ≡ nat_lt (place es t) (place es u)) → (has es u ≡ false → behind es t u ≡ false)
        → elim b as (λ _. Bool) [ true ↦ has es u | false ↦ behind es t u ] ≡ nat_lt (cond (not b) (1 + place es t) 0) (cond (not c) (1 + place es u) 0)
    go true true h k l r n = l refl ∙ grind (arith, nat_tests)
    go true false h k l r n = h ∙ grind (arith, nat_tests)
    go false true h k l r n = n (l refl) ∙ grind (arith, nat_tests)
    go false false h k l r n = r h ∙ grind (arith, nat_tests)

pub active_is_not_behind : (es : List Entry) (since t : ℕ) → IsUnique es → has es t ≡ true → is_active es since t ≡ not (behind es t since)
active_is_not_behind [] since t q h = absurd (true≢false (sym h))
active_is_not_behind (e ∷ es) since t q h = ap (λ x. not ((e.version == since) || has es since) || x) (parts (e.version == t)) ∙ go (e.version == since) (e.version == t) h (λ b. subst (λ v. has es v ≡ false) (eqb-true e.version since b) q.0) (active_is_not_behind es since t q.1) (never_behind es since t)
  where
    never_behind : (es : List Entry) (s t : ℕ) → has es s ≡ false → behind es t s ≡ false
    never_behind [] s t h = refl
    never_behind (e ∷ es) s t h = let r = never_behind es s t in grind (arith, h, r)

    parts : (c : Bool) → has (elim c as (λ _. List Entry) [ true ↦ e ∷ [] | false ↦ e ∷ up_to es t ]) since ≡ elim c as (λ _. Bool) [ true ↦ (e.version == since) || false | false ↦ (e.version == since) || has (up_to es t) since ]
    parts true = refl
    parts false = refl

    Word : Bool → Bool → Bool
    Word b c = not (b || has es since) || elim c as (λ _. Bool) [ true ↦ b || false | false ↦ b || has (up_to es t) since ]

    go : (b c : Bool) → (c || has es t) ≡ true → (b ≡ true → has es since ≡ false) → (has es t ≡ true → is_active es since t ≡ not (behind es t since)) → (has es since ≡ false → behind es t since ≡ false)
        → Word b c ≡ not (elim c as (λ _. Bool) [ true ↦ has es since | false ↦ behind es t since ])
    go true true h k r n = let a = k refl in grind (arith, a)
    go true false h k r n = let a = n (k refl) in grind (arith, a)
    go false true h k r n = grind arith
    go false false h k r n = r h

-- ---- the version at an index, and the entries behind it

pub version_at_place : (es : List Entry) (t : ℕ) → has es t ≡ true → version_at es (place es t) ≡ t
version_at_place [] t h = absurd (true≢false (sym h))
version_at_place (e ∷ es) t h = let r = version_at_place es t in grind (arith, eqb_tells, h, r)

pub has_version_at : (es : List Entry) (i : ℕ) → i < length es → has es (version_at es i) ≡ true
has_version_at [] i le = absurd (omega (arith, le))
has_version_at (e ∷ es) zero le = grind (arith, eqb_tells)
has_version_at (e ∷ es) (suc i) le = let r = has_version_at es i in grind (arith, eqb_tells, le, r)

-- the index of a version's entry, and the version again
pub version_at_index : (es : List Entry) (t i : ℕ) → i ≡ place es t → has es t ≡ true → version_at es i ≡ t
version_at_index es t i at h = ap (version_at es) at ∙ version_at_place es t h

pub index_of_version : (es : List Entry) (i : ℕ) → IsUnique es → i < length es → i ≡ place es (version_at es i)
index_of_version [] i q le = absurd (omega (arith, le))
index_of_version (e ∷ es) zero q le = grind (arith, eqb_tells)
index_of_version (e ∷ es) (suc i) q le =
    let r = index_of_version es i q.1 (omega (arith, le)) in
    let here = has_version_at es i (omega (arith, le)) in
    let other : (e.version == version_at es i) ≡ false = grind (arith, eqb_tells, here, q.0) in
    ap suc r ∙ sym (one_more (place es (version_at es i))) ∙ sym (ap (λ b. cond (not b) (1 + place es (version_at es i)) 0) other)

pub before_at_index : (es : List Entry) (i : ℕ) → IsUnique es → i < length es → take i es ≡ before es (version_at es i)
before_at_index es i q le = ap (λ n. take n es) (index_of_version es i q le) ∙ take-before es (version_at es i)

pub moved : (i : ℕ) → suc (i + 1) ≡ suc i + 1
moved i = omega arith

behind_index : (es : List Entry) (i s : ℕ) → IsUnique es → i < length es → behind es (version_at es i) s ≡ has (drop (i + 1) es) s
behind_index [] i s q le = absurd (omega (arith, le))
behind_index (e ∷ es) zero s q le = grind (arith, eqb_tells)
behind_index (e ∷ es) (suc i) s q le =
    let r = behind_index es i s q.1 (omega (arith, le)) in
    let here = has_version_at es i (omega (arith, le)) in
    let other : (e.version == version_at es i) ≡ false = grind (arith, eqb_tells, here, q.0) in
    ap (λ b. elim b as (λ _. Bool) [ true ↦ has es s | false ↦ behind es (version_at es i) s ]) other ∙ r ∙ ap (λ n. has (drop n (e ∷ es)) s) (moved i)

has_any : (es : List Entry) (t : ℕ) → list_any (is_of t) es ≡ has es t
has_any [] t = refl
has_any (e ∷ es) t = let r = has_any es t in grind (arith, r)

pub active_at_index : (es : List Entry) (i s : ℕ) → IsUnique es → i < length es → not (list_any (is_of s) (drop (i + 1) es)) ≡ is_active es s (version_at es i)
active_at_index es i s q le =
    ap not (has_any (drop (i + 1) es) s ∙ sym (behind_index es i s q le))
    ∙ sym (active_is_not_behind es s (version_at es i) q (has_version_at es i le))

-- ---- served

pub served_by_place : (es : List Entry) (t : ℕ) → served es t ≡ nat_lt (place es t) (position_or_len opens es)
served_by_place [] t = refl
served_by_place (e ∷ es) t = let r = served_by_place es t in grind (arith, nat_tests, r)

pub served_by_index : (es : List Entry) (t : ℕ) → served es t ≡ (has es t && nat_lt (place es t) (position_or_len opens es))
served_by_index es t = let a = served_by_place es t in let b = has-place es t in let c = place_fits opens es in grind (arith, nat_tests, a, b, c)
