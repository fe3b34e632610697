-- Walks over lists, one item at a time.
use Rattle.std.proofs.Common.{◌≡◌, ◌≢◌, ℕ, ◌+◌, ◌<◌, Bool, true, false, ◌==◌, ◌||◌, List, [], ◌∷◌, length, get_or, drop, sym, ap, ◌∙◌, Some, None, zero, suc, arith}
use Rattle.std.proofs.lemmas.Bool.{eq-eqb, ne_eqb}
use Rattle.std.proofs.lemmas.List.{drop_more}
use Rattle.script_tree.specs.declared.value.Value.{Value}
use Rattle.flow_model.specs.Machine.Words.{gathered_of, set_value}
use Rattle.flow_state.specs.declared.seating.Tenant.{Tenant}
use Rattle.flow_state.specs.Booked.{AreApart}
use Rattle.flow_state.specs.Seats.{slot_in, has_version}

slot-here : (x : Tenant) (xs : List Tenant) (t : ℕ) (b : Bool) → (x.version == t) ≡ b → slot_in (x ∷ xs) t ≡ elim b [ true ↦ x.slot | false ↦ slot_in xs t ]
slot-here x xs t b e = ap (λ (b : Bool). elim b [ true ↦ x.slot | false ↦ slot_in xs t ]) e

pub slot_found : (live : List Tenant) (t i : ℕ) (d : Tenant) → i < length live → slot_in (drop i live) t ≡ slot_in live t → (get_or live i d).version ≡ t → (get_or live i d).slot ≡ slot_in live t
slot_found live t i d h so e = sym (slot-here (get_or live i d) (drop (i + 1) live) t true (eq-eqb _ t e)) ∙ sym (ap (λ xs. slot_in xs t) (drop_more live i d h)) ∙ so

pub slot_more : (live : List Tenant) (t i : ℕ) (d : Tenant) → i < length live → slot_in (drop i live) t ≡ slot_in live t → (get_or live i d).version ≢ t → slot_in (drop (i + 1) live) t ≡ slot_in live t
slot_more live t i d h so e = sym (slot-here (get_or live i d) (drop (i + 1) live) t false (ne_eqb _ t e)) ∙ sym (ap (λ xs. slot_in xs t) (drop_more live i d h)) ∙ so

pub version_found : (live : List Tenant) (t i : ℕ) (d : Tenant) → i < length live → has_version (drop i live) t ≡ has_version live t → (get_or live i d).version ≡ t → true ≡ has_version live t
version_found live t i d h so e = sym (ap (λ b. b || has_version (drop (i + 1) live) t) (eq-eqb _ t e)) ∙ sym (ap (λ xs. has_version xs t) (drop_more live i d h)) ∙ so

pub version_more : (live : List Tenant) (t i : ℕ) (d : Tenant) → i < length live → has_version (drop i live) t ≡ has_version live t → (get_or live i d).version ≢ t → has_version (drop (i + 1) live) t ≡ has_version live t
version_more live t i d h so e = sym (ap (λ b. b || has_version (drop (i + 1) live) t) (ne_eqb _ t e)) ∙ sym (ap (λ xs. has_version xs t) (drop_more live i d h)) ∙ so

gathered-here : (m : ℕ) (p : ℕ × Value) (ps : List (ℕ × Value)) (b : Bool) → (p.0 == m) ≡ b → gathered_of m (p ∷ ps) ≡ elim b [ true ↦ Some p.1 | false ↦ gathered_of m ps ]
gathered-here m p ps b e = ap (λ (b : Bool). elim b [ true ↦ Some p.1 | false ↦ gathered_of m ps ]) e

pub gathered_found : (xs : List (ℕ × Value)) (m i : ℕ) (d : ℕ × Value) → i < length xs → gathered_of m (drop i xs) ≡ gathered_of m xs → (get_or xs i d).0 ≡ m → Some (get_or xs i d).1 ≡ gathered_of m xs
gathered_found xs m i d h so e = sym (gathered-here m (get_or xs i d) (drop (i + 1) xs) true (eq-eqb _ m e)) ∙ sym (ap (gathered_of m) (drop_more xs i d h)) ∙ so

pub gathered_more : (xs : List (ℕ × Value)) (m i : ℕ) (d : ℕ × Value) → i < length xs → gathered_of m (drop i xs) ≡ gathered_of m xs → (get_or xs i d).0 ≢ m → gathered_of m (drop (i + 1) xs) ≡ gathered_of m xs
gathered_more xs m i d h so e = sym (gathered-here m (get_or xs i d) (drop (i + 1) xs) false (ne_eqb _ m e)) ∙ sym (ap (gathered_of m) (drop_more xs i d h)) ∙ so

set-here : (n : ℕ) (v : Value) (p : ℕ × Value) (ps : List (ℕ × Value)) (b : Bool) → (p.0 == n) ≡ b → set_value n v (p ∷ ps) ≡ elim b [ true ↦ set_value n p.1 ps | false ↦ set_value n v ps ]
set-here n v p ps b e = ap (λ (b : Bool). elim b [ true ↦ set_value n p.1 ps | false ↦ set_value n v ps ]) e

pub set_found : (xs : List (ℕ × Value)) (n i : ℕ) (v all new : Value) (d : ℕ × Value) → i < length xs → set_value n v (drop i xs) ≡ all → (get_or xs i d).0 ≡ n → new ≡ (get_or xs i d).1 → set_value n new (drop (i + 1) xs) ≡ all
set_found xs n i v all new d h so e is = ap (λ w. set_value n w (drop (i + 1) xs)) is ∙ sym (set-here n v (get_or xs i d) (drop (i + 1) xs) true (eq-eqb _ n e)) ∙ sym (ap (set_value n v) (drop_more xs i d h)) ∙ so

pub set_more : (xs : List (ℕ × Value)) (n i : ℕ) (v all new : Value) (d : ℕ × Value) → i < length xs → set_value n v (drop i xs) ≡ all → (get_or xs i d).0 ≢ n → new ≡ v → set_value n new (drop (i + 1) xs) ≡ all
set_more xs n i v all new d h so e is = ap (λ w. set_value n w (drop (i + 1) xs)) is ∙ sym (set-here n v (get_or xs i d) (drop (i + 1) xs) false (ne_eqb _ n e)) ∙ sym (ap (set_value n v) (drop_more xs i d h)) ∙ so

-- where no two values are of one node, the value at any place is the node's
pub gathered_there : (xs : List (ℕ × Value)) (m i : ℕ) (d : ℕ × Value) → AreApart xs → i < length xs → (get_or xs i d).0 ≡ m → Some (get_or xs i d).1 ≡ gathered_of m xs
gathered_there [] m i d apart h e = absurd (omega (arith, h))
gathered_there (x ∷ xs) m zero d apart h e = sym (gathered-here m x xs true (eq-eqb x.0 m e))
gathered_there (x ∷ xs) m (suc i) d apart h e =
    let r = gathered_there xs m i d apart.1 (omega (arith, h)) e in
    let other : x.0 ≢ m = λ same. some≢none (get_or xs i d).1 (r ∙ ap (λ k. gathered_of k xs) (sym same) ∙ apart.0) in
    r ∙ sym (gathered-here m x xs false (ne_eqb x.0 m other))
  where
    some≢none : (v : Value) → Some v ≡ None → ⊥
    some≢none v e = cc
