-- What holds of each point where it applies holds of the first that applies.
use Rattle.std.proofs.Common.{◌≡◌, ℕ, Bool, true, false, refl, List, ◌∷◌, Option, Some, None}
use Rattle.flow_model.specs.declared.step.Turn.{Turn}
use Rattle.flow_model.specs.Machine.Next.{first_of, when, for_some}

-- It holds of the first that applies where it holds of this point, and of the first behind it where this one does not apply.
pub when-holds : (P : Turn → Type 0) (b : Bool) (x : Turn) (points : List (Option Turn)) → (b ≡ true → P x) → (b ≡ false → P (first_of points)) → P (first_of (when b x ∷ points))
when-holds P true x points here behind = here refl
when-holds P false x points here behind = behind refl

pub some-holds : (P : Turn → Type 0) (o : Option ℕ) (make : ℕ → Turn) (points : List (Option Turn)) → ((m : ℕ) → o ≡ Some m → P (make m)) → (o ≡ None → P (first_of points)) → P (first_of (for_some o make ∷ points))
some-holds P (Some m) make points here behind = here m refl
some-holds P None make points here behind = behind refl
