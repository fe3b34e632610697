-- Where the least call that passes a test is there.
use Rattle.std.proofs.Common.{◌≡◌, Bool, true, false, ◌||◌, List, [], ◌∷◌, Option, Some, ℕ, refl}
use Rattle.std.specs.Option.{is_some}
use Rattle.std.specs.List.{list_any}
use Rattle.flow_model.specs.Machine.State.{LiveCall}
use Rattle.flow_model.specs.Machine.Next.{lesser, least_version}

pub or_some : (b : Bool) (x : ℕ) (rest : Option ℕ) (any : Bool) → is_some rest ≡ any → is_some (elim b [ true ↦ Some x | false ↦ rest ]) ≡ (b || any)
or_some true x rest any h = refl
or_some false x rest any h = h

pub some-any : (test : LiveCall → Bool) (cs : List LiveCall) → is_some (least_version test cs) ≡ list_any test cs
some-any test [] = refl
some-any test (c ∷ cs) = or_some (test c) (lesser c.version (least_version test cs)) (least_version test cs) (list_any test cs) (some-any test cs)
