-- When tokens are refused.
use Rattle.std.specs.Prelude.{ℕ, List, take, Result, Ok, Err}
use Rattle.script_tree.specs.declared.expr.Expr.{Expr}
use Rattle.script_tree.specs.declared.limits.TheConstants.{LEVELS}
use Rattle.script_grammar.specs.declared.token.Token.{Token}
use Rattle.script_grammar.specs.Grammar.{IsSyntaxAt, IsTooDeepAt, BeginsWithin}
use Rattle.script_grammar.specs.declared.reader.Refusal.{Refusal}
use Rattle.script_grammar.specs.declared.reader.Refusal.TheVariants.{Syntax, TooDeep, Memory}

-- a text goes wrong at a token, and none before it is nested above a limit
pub record IsFirstFaultAt (limit : ℕ) (text : List Token) (k : ℕ) : Type 0 where
  pub fault : IsSyntaxAt text k
  pub shallow : BeginsWithin limit (take k text)

-- what each refusal says of the tokens
abbrev pub Refuses : List Token → Refusal → Type 0
Refuses text (Syntax k) = IsFirstFaultAt LEVELS text k
Refuses text (TooDeep k) = IsTooDeepAt LEVELS text k
Refuses text Memory = Unit {0}

-- a refusal has its cause
abbrev pub IsRefusal : List Token → Result Expr Refusal → Type 0
IsRefusal text (Ok x) = Unit {0}
IsRefusal text (Err e) = Refuses text e
