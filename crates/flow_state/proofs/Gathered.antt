-- Gathered values of different nodes.
use Rattle.std.proofs.Common.{◌≡◌, ℕ, Bool, true, false, ◌==◌, List, [], ◌∷◌, ◌++◌, Option, Some, None, refl, ap, ◌∙◌}
use Rattle.script_tree.specs.declared.value.Value.{Value}
use Rattle.script_tree.proofs.Numbers.{differs_back}
use Rattle.flow_model.specs.Machine.Words.{gathered_of}
use Rattle.flow_state.specs.Booked.{AreApart}

abbrev pub first : Bool → Value → Option Value → Option Value
first b v o = elim b [ true ↦ Some v | false ↦ o ]

none_first : (b : Bool) (v : Value) (o : Option Value) → first b v o ≡ None → (b ≡ false) × (o ≡ None)
none_first false v o h = (refl, h)
none_first true v o h = absurd (some≢none h)
  where
    some≢none : Some v ≡ None → ⊥
    some≢none e = cc

none_more : (m n : ℕ) (v : Value) (ps : List (ℕ × Value)) → (n == m) ≡ false → gathered_of m ps ≡ None → gathered_of m (ps ++ (n, v) ∷ []) ≡ None
none_more m n v [] other none = ap (λ b. first b v None) other
none_more m n v (p ∷ ps) other none = go (p.0 == m) none (λ h. none_more m n v ps other h)
  where
    go : (b : Bool) → first b p.1 (gathered_of m ps) ≡ None → (gathered_of m ps ≡ None → gathered_of m (ps ++ (n, v) ∷ []) ≡ None) → first b p.1 (gathered_of m (ps ++ (n, v) ∷ [])) ≡ None
    go b h r = let k = none_first b p.1 (gathered_of m ps) h in ap (λ b. first b p.1 (gathered_of m (ps ++ (n, v) ∷ []))) k.0 ∙ r k.1

pub apart_more : (m : ℕ) (v : Value) (ps : List (ℕ × Value)) → AreApart ps → gathered_of m ps ≡ None → AreApart (ps ++ (m, v) ∷ [])
apart_more m v [] apart none = (refl, tt)
apart_more m v (p ∷ ps) apart none = let k = none_first (p.0 == m) p.1 (gathered_of m ps) none in (none_more p.0 m v ps (differs_back p.0 m k.0) apart.0, apart_more m v ps apart.1 k.1)
