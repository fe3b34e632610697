-- A list shrinks where its second entry is of an ended call.
use Rattle.std.proofs.Common.{◌≡◌, ℕ, suc, ◌≤◌, Bool, true, false, not, nat_lt, List, [], ◌∷◌, length, Option, Some, None, refl, sym, ap, ◌∙◌, arith, subst, true≢false}
use Rattle.std.specs.Prelude.{filter, slice_get, if◌then◌else◌}
use Rattle.std.specs.List.{cons_option}
use Rattle.std.specs.Option.{IsSome, is_some}
use Rattle.std.proofs.lemmas.Bool.Decides.{nat_tests}
use Rattle.node_versions.specs.declared.entry.Entry.{Entry}
use Rattle.node_versions.specs.Entries.{EndedIsPrefix, HasEndedPrefix, last_done, collected}

kept-length : (ended : Entry → Bool) (es : List Entry) → length (filter (λ e. not (ended e)) es) ≤ length es
kept-length ended [] = omega arith
kept-length ended (e ∷ es) = go (ended e) (kept-length ended es)
  where
    go : (b : Bool) → length (filter (λ e. not (ended e)) es) ≤ length es → length (if not b then e ∷ filter (λ e. not (ended e)) es else filter (λ e. not (ended e)) es) ≤ suc (length es)
    go true r = omega (arith, r)
    go false r = omega (arith, r)

all-kept : (ended : Entry → Bool) (es : List Entry) → filter ended es ≡ [] → filter (λ e. not (ended e)) es ≡ es
all-kept ended [] h = refl
all-kept ended (e ∷ es) h = go (ended e) h (all-kept ended es)
  where
    go : (b : Bool) → (if b then e ∷ filter ended es else filter ended es) ≡ [] → (filter ended es ≡ [] → filter (λ e. not (ended e)) es ≡ es) → (if not b then e ∷ filter (λ e. not (ended e)) es else filter (λ e. not (ended e)) es) ≡ e ∷ es
    go true k r = absurd (cc)
    go false k r = ap (λ (xs : List Entry). e ∷ xs) (r k)

some-length : (o : Option Entry) (es : List Entry) → IsSome o → length (cons_option o es) ≡ suc (length es)
some-length None es h = absurd (true≢false (sym h))
some-length (Some x) es h = refl

-- how long a collected list is
collected-length : (ended : Entry → Bool) (es : List Entry) → HasEndedPrefix ended es → length (collected ended es) ≡ suc (length (filter (λ e. not (ended e)) es))
collected-length ended es h = some-length (last_done (filter ended es)) (filter (λ e. not (ended e)) es) h.done

none-done : (ended : Entry → Bool) (es : List Entry) → filter ended es ≡ [] → IsSome (last_done (filter ended es)) → ⊥
none-done ended es h k = true≢false (sym k ∙ ap (λ (xs : List Entry). is_some (last_done xs)) h)

two-entries : (ended : Entry → Bool) (first second : Entry) (es : List Entry) (a b : Bool) → ended first ≡ a → ended second ≡ b → HasEndedPrefix ended (first ∷ second ∷ es) → b ≡ nat_lt (suc (length (filter (λ e. not (ended e)) (first ∷ second ∷ es)))) (suc (suc (length es)))
two-entries ended first second es true true ea eb h =
    let fewer = kept-length ended es in
    let l : length (filter (λ e. not (ended e)) (first ∷ second ∷ es)) ≡ length (filter (λ e. not (ended e)) es) = rw ea (rw eb refl) in
    grind (arith, nat_tests, l, fewer)
two-entries ended first second es true false ea eb h =
    let behind : filter ended es ≡ [] = subst (λ (b : Bool). elim b as (λ _. Type 0) [ true ↦ EndedIsPrefix ended es | false ↦ filter ended es ≡ [] ]) eb (subst (λ (b : Bool). elim b as (λ _. Type 0) [ true ↦ EndedIsPrefix ended (second ∷ es) | false ↦ filter ended (second ∷ es) ≡ [] ]) ea h.prefix) in
    let rest = ap (λ (xs : List Entry). length xs) (all-kept ended es behind) in
    let l : length (filter (λ e. not (ended e)) (first ∷ second ∷ es)) ≡ suc (length (filter (λ e. not (ended e)) es)) = rw ea (rw eb refl) in
    grind (arith, nat_tests, l, rest)
two-entries ended first second es false b ea eb h =
    let none : filter ended (second ∷ es) ≡ [] = subst (λ (b : Bool). elim b as (λ _. Type 0) [ true ↦ EndedIsPrefix ended (second ∷ es) | false ↦ filter ended (second ∷ es) ≡ [] ]) ea h.prefix in
    let all : filter ended (first ∷ second ∷ es) ≡ [] = rw ea none in
    absurd (none-done ended (first ∷ second ∷ es) all h.done)

-- Whether the second entry is of an ended call tells whether the list shrinks.
pub second_tells : (ended : Entry → Bool) (es : List Entry) (e : Entry) → HasEndedPrefix ended es → slice_get es 1 ≡ Some e → ended e ≡ nat_lt (length (collected ended es)) (length es)
second_tells ended [] e h k = absurd (cc)
second_tells ended (x ∷ []) e h k = absurd (cc)
second_tells ended (x ∷ y ∷ es) e h k = let same : e ≡ y = cc in
    ap ended same ∙ two-entries ended x y es (ended x) (ended y) refl refl h ∙ ap (λ (n : ℕ). nat_lt n (length (x ∷ y ∷ es))) (sym (collected-length ended (x ∷ y ∷ es) h))
