-- Places in lists, by index and by parts.
use Rattle.std.proofs.Common.{◌≡◌, ◌≢◌, ℕ, zero, suc, ◌+◌, ◌-◌, ◌≤◌, Bool, true, false, not, cond, List, [], ◌∷◌, Option, Some, None, length, take, drop, refl, sym, ap, ◌∙◌, arith}
use Rattle.std.proofs.lemmas.Option.{same_Some, none-some}
use Rattle.std.specs.Prelude.{slice_get}
use Rattle.std.specs.List.{position_or_len}
use Rattle.node_versions.specs.declared.entry.Entry.{Entry}
use Rattle.node_versions.specs.Entries.{front, rest}
use Rattle.node_versions.proofs.Places.{one_more}
use Rattle.flow_model.specs.Machine.Changes.{first_version, last_version}

last-take : (es : List Entry) (i : ℕ) (e : Entry) (seen : Option ℕ) → slice_get es i ≡ Some e → last_version seen (take (suc i) es) ≡ Some e.version
last-take [] i e seen h = absurd (none-some e h)
last-take (x ∷ xs) zero e seen h = ap (λ (y : Entry). Some y.version) (same_Some x e h)
last-take (x ∷ xs) (suc i) e seen h = last-take xs i e (Some x.version) h

pub last_at : (es : List Entry) (i : ℕ) (e : Entry) → i ≢ 0 → slice_get es (i - 1) ≡ Some e → Some e.version ≡ last_version None (take i es)
last_at es i e some h = let n : suc (i - 1) ≡ i = omega (arith, some) in sym (ap (λ k. last_version None (take k es)) (sym n) ∙ last-take es (i - 1) e None h)

pub first_at : (es : List Entry) (i : ℕ) (e : Entry) → slice_get es i ≡ Some e → Some e.version ≡ first_version (drop i es)
first_at [] i e h = absurd (none-some e h)
first_at (x ∷ xs) zero e h = sym (ap (λ (y : Entry). Some y.version) (same_Some x e h))
first_at (x ∷ xs) (suc i) e h = first_at xs i e h

pub first_past : (es : List Entry) (i : ℕ) → length es ≤ i → None ≡ first_version (drop i es)
first_past [] zero h = refl
first_past [] (suc i) h = refl
first_past (x ∷ xs) zero h = absurd (omega (arith, h))
first_past (x ∷ xs) (suc i) h = first_past xs i (omega (arith, h))

pub place-same : (p q : Entry → Bool) (es : List Entry) → ((e : Entry) → p e ≡ q e) → position_or_len p es ≡ position_or_len q es
place-same p q [] same = refl
place-same p q (e ∷ es) same = ap (λ b. cond (not b) (1 + position_or_len p es) 0) (same e) ∙ ap (λ n. cond (not (q e)) (1 + n) 0) (place-same p q es same)

pub take-front : (p : Entry → Bool) (es : List Entry) → take (position_or_len p es) es ≡ front p es
take-front p [] = refl
take-front p (e ∷ es) = go (p e) (take-front p es)
  where
    go : (b : Bool) → take (position_or_len p es) es ≡ front p es → take (cond (not b) (1 + position_or_len p es) 0) (e ∷ es) ≡ elim b as (λ _. List Entry) [ true ↦ [] | false ↦ e ∷ front p es ]
    go true r = refl
    go false r = ap (λ n. take n (e ∷ es)) (one_more (position_or_len p es)) ∙ ap (λ (xs : List Entry). e ∷ xs) r

pub drop-rest : (p : Entry → Bool) (es : List Entry) → drop (position_or_len p es) es ≡ rest p es
drop-rest p [] = refl
drop-rest p (e ∷ es) = go (p e) (drop-rest p es)
  where
    go : (b : Bool) → drop (position_or_len p es) es ≡ rest p es → drop (cond (not b) (1 + position_or_len p es) 0) (e ∷ es) ≡ elim b as (λ _. List Entry) [ true ↦ e ∷ es | false ↦ rest p es ]
    go true r = refl
    go false r = ap (λ n. drop n (e ∷ es)) (one_more (position_or_len p es)) ∙ r
