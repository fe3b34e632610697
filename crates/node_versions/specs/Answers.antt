-- What a closure that is asked of entries answers.
use Rattle.std.specs.Prelude.{◌≡◌, Bool, List}
use Rattle.std.specs.List.{All}
use Rattle.std.specs.Fn.{FnReturnsAt}
use Rattle.std.specs.Borrow.{Bor}
use denote.Param.Members.{Shared}
use Rattle.node_versions.specs.Entries.{Entry}

module _ {F : Type 0} (g : Shared F (Bor Entry × Unit {0}) Bool) (f : F) (es : List Entry) where
  -- The closure may be asked of each of the entries.
  abbrev pub IsAskable : Type 0
  IsAskable = All (λ e. (p : Bor Entry) → p.now ≡ e → g.pre f (p, tt)) es

  -- Of each of the entries it answers what the test says.
  abbrev pub Tells : (Entry → Bool) → Type 0
  Tells test = All (λ e. (b : Bool) → FnReturnsAt g f e b → b ≡ test e) es

  -- P holds of each test that it tells.
  abbrev pub AnswersBy : ((Entry → Bool) → Type 0) → Type 0
  AnswersBy P = (test : Entry → Bool) → Tells test → P test

  -- P holds of a test that it tells.
  abbrev pub AnswersTo : ((Entry → Bool) → Type 0) → Type 0
  AnswersTo P = (test : Entry → Bool) × Tells test × P test
