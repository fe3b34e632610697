-- Words have one answer, want of memory aside.
use Rattle.std.proofs.Common.{◌≡◌, ℕ, Bool, true, false, List, refl, sym, ap, ◌∙◌, arith}
use Rattle.std.specs.Prelude.{Result, Ok, Err, ◌≢◌}
use Rattle.script_tree.specs.declared.limits.TheConstants.{LEVELS}
use Rattle.script_tree.specs.Tree.{Tree}
use Rattle.script_tree.specs.Scripts.{Scripted}
use Rattle.script_grammar.specs.declared.token.Token.{Token}
use Rattle.script_grammar.specs.Grammar.{Spells, BeginsWithin, IsSyntaxAt, IsTooDeepAt}
use Rattle.script_grammar.specs.Refusals.{IsFirstFaultAt}
use Rattle.expr_script.specs.declared.atoms.Atoms.{Atoms}
use Rattle.expr_script.specs.declared.faults.ScriptFault.{ScriptFault}
use Rattle.expr_script.specs.declared.faults.ScriptFault.TheVariants.{Syntax, TooDeep, TooManyInputs, Memory}
use Rattle.expr_script.specs.Tokens.{tokens}
use Rattle.expr_script.specs.Spelled.{SpellsWith, IsAnswer}

-- what the grammar says of one text's trees and faults
pub record OneOfTokens : Type 0 where
  pub one_tree : (text : List Token) (t u : Tree) → Spells text t → Spells text u → t ≡ u
  pub shallow : (limit : ℕ) (text : List Token) (k : ℕ) → BeginsWithin limit text → IsTooDeepAt limit text k → ⊥
  pub apart : (limit : ℕ) (text : List Token) (k j : ℕ) → IsFirstFaultAt limit text k → IsTooDeepAt limit text j → ⊥
  pub one_fault : (text : List Token) (k j : ℕ) → IsSyntaxAt text k → IsSyntaxAt text j → k ≡ j
  pub one_depth : (limit : ℕ) (text : List Token) (k j : ℕ) → IsTooDeepAt limit text k → IsTooDeepAt limit text j → k ≡ j

same_script : (s t : Scripted) → s.names ≡ t.names → s.tree ≡ t.tree → s ≡ t
same_script s t n e = ap (λ (l : List (List ℕ)). record { names = l; tree = s.tree }) n ∙ ap (λ (u : Tree). record { names = t.names; tree = u }) e

one_script : (g : OneOfTokens) (atoms : Atoms) (words : List (List ℕ)) (s t : Scripted) → SpellsWith atoms words s → SpellsWith atoms words t → s ≡ t
one_script g atoms words s t p q = same_script s t (p.named ∙ sym q.named) (g.one_tree (tokens atoms words) s.tree t.tree p.tree q.tree)

pub one_answer : (g : OneOfTokens) (atoms : Atoms) (words : List (List ℕ)) (places : ℕ → ℕ) (a b : Result Scripted ScriptFault) → IsAnswer atoms words places a → IsAnswer atoms words places b → a ≢ Err Memory → b ≢ Err Memory → a ≡ b
one_answer g atoms words places a (Err Memory) p q m n = absurd (n refl)
one_answer g atoms words places (Err Memory) b p q m n = absurd (m refl)
one_answer g atoms words places (Ok s) (Ok t) p q m n = ap Ok (one_script g atoms words s t p q)
one_answer g atoms words places (Ok s) (Err (Syntax at)) p q m n = absurd (q.first.fault.none s.tree p.tree)
one_answer g atoms words places (Ok s) (Err (TooDeep at)) p q m n = absurd (g.shallow LEVELS (tokens atoms words) q.number p.shallow q.first)
one_answer g atoms words places (Ok s) (Err TooManyInputs) p q m n = absurd (omega (arith, p.few, q.many))
one_answer g atoms words places (Err (Syntax at)) (Ok t) p q m n = absurd (p.first.fault.none t.tree q.tree)
one_answer g atoms words places (Err (Syntax at)) (Err (Syntax to)) p q m n =
    ap (λ i. Err (Syntax i)) (p.place ∙ ap places (g.one_fault (tokens atoms words) p.number q.number p.first.fault q.first.fault) ∙ sym q.place)
one_answer g atoms words places (Err (Syntax at)) (Err (TooDeep to)) p q m n = absurd (g.apart LEVELS (tokens atoms words) p.number q.number p.first q.first)
one_answer g atoms words places (Err (Syntax at)) (Err TooManyInputs) p q m n = absurd (p.first.fault.none q.spelled q.tree)
one_answer g atoms words places (Err (TooDeep at)) (Ok t) p q m n = absurd (g.shallow LEVELS (tokens atoms words) p.number q.shallow p.first)
one_answer g atoms words places (Err (TooDeep at)) (Err (Syntax to)) p q m n = absurd (g.apart LEVELS (tokens atoms words) q.number p.number q.first p.first)
one_answer g atoms words places (Err (TooDeep at)) (Err (TooDeep to)) p q m n =
    ap (λ i. Err (TooDeep i)) (p.place ∙ ap places (g.one_depth LEVELS (tokens atoms words) p.number q.number p.first q.first) ∙ sym q.place)
one_answer g atoms words places (Err (TooDeep at)) (Err TooManyInputs) p q m n = absurd (g.shallow LEVELS (tokens atoms words) p.number q.shallow p.first)
one_answer g atoms words places (Err TooManyInputs) (Ok t) p q m n = absurd (omega (arith, q.few, p.many))
one_answer g atoms words places (Err TooManyInputs) (Err (Syntax to)) p q m n = absurd (q.first.fault.none p.spelled p.tree)
one_answer g atoms words places (Err TooManyInputs) (Err (TooDeep to)) p q m n = absurd (g.shallow LEVELS (tokens atoms words) q.number p.shallow q.first)
one_answer g atoms words places (Err TooManyInputs) (Err TooManyInputs) p q m n = refl

pub is_script : Result Scripted ScriptFault → Bool
is_script (Ok s) = true
is_script (Err e) = false

pub script_is_no_fault : (s : Scripted) (e : ScriptFault) → Ok s ≢ Err e
unfolding is_script
script_is_no_fault s e h = let f : true ≡ false = ap is_script h in cc
