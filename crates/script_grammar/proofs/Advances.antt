-- What the reader's next step shows of the tokens.
use Rattle.std.proofs.Common.{◌≡◌, ℕ, ◌+◌, ◌<◌, ◌≤◌, List, length, take, get_or, Option, Some, None, refl, sym, ap, ◌∙◌, arith}
use Rattle.script_tree.specs.declared.expr.Expr.{Expr}
use Rattle.script_tree.specs.Tree.{Tree}
use Rattle.script_grammar.specs.declared.pending.Pending as code
use Rattle.script_grammar.specs.declared.next.Next.{Next}
use Rattle.script_grammar.specs.declared.next.Next.TheVariants.{Fails}
use Rattle.script_grammar.specs.declared.token.Token.{Token}
use Rattle.script_grammar.specs.Grammar.{BeginsWithin, IsTooDeepAt, Spells}
use Rattle.script_grammar.specs.Reading.{State, step, run, finish}
use Rattle.script_grammar.specs.Nesting.{nesting}
use Rattle.script_grammar.specs.Stacks.{state_of, next_of}
use Rattle.script_grammar.specs.Refusals.{IsFirstFaultAt}
use Rattle.script_grammar.proofs.Places.{start, fault_at, ends_early, is_spelled}
use Rattle.script_grammar.proofs.Depths.{ReadsTo, deep_at, reads_more, shallow_to, shallow_all}

-- a step of the reader at a place
pub record Advances (limit : ℕ) (ts : List Token) (i : ℕ) (d : Token) (st : State) (next : Next) (begun : List code.Pending) (depth : ℕ) : Type 0 where
  pub so_far : ReadsTo limit ts i st
  pub within : i < length ts
  pub leads : next_of next begun ≡ step st (get_or ts i d)
  pub deep : depth ≡ nesting st (get_or ts i d)

pub fails : (limit : ℕ) (ts : List Token) (i : ℕ) (d : Token) (st : State) (next : Next) (begun : List code.Pending) (depth : ℕ) → Advances limit ts i d st next begun depth → next ≡ Fails → IsFirstFaultAt limit ts i
fails limit ts i d st next begun depth a e = record {
  fault = fault_at ts i d _ st a.so_far.reads a.within refl (sym a.leads ∙ ap (λ n. next_of n begun) e);
  shallow = shallow_to limit ts i st a.so_far (omega (arith, a.within));
}

pub too_deep : (limit : ℕ) (ts : List Token) (i : ℕ) (d : Token) (st : State) (next : Next) (begun : List code.Pending) (depth : ℕ) (top : Option Expr) → Advances limit ts i d st next begun depth → limit < depth → next_of next begun ≡ Some (state_of begun top) → IsTooDeepAt limit ts i
too_deep limit ts i d st next begun depth top a deep e =
    deep_at limit ts i d _ st (state_of begun top) a.so_far a.within refl (sym a.leads ∙ e) (omega (arith, a.deep))

pub goes_on : (limit : ℕ) (ts : List Token) (i : ℕ) (d : Token) (st : State) (next : Next) (begun : List code.Pending) (depth : ℕ) (top : Option Expr) → Advances limit ts i d st next begun depth → depth ≤ limit → next_of next begun ≡ Some (state_of begun top) → ReadsTo limit ts (i + 1) (state_of begun top)
goes_on limit ts i d st next begun depth top a shallow e =
    reads_more limit ts i d _ st (state_of begun top) a.so_far a.within refl (sym a.leads ∙ e) (omega (arith, a.deep))

pub at_end : (limit : ℕ) (ts : List Token) (i : ℕ) (st : State) → ReadsTo limit ts i st → i ≡ length ts → ReadsTo limit ts (length ts) st
at_end limit ts i st r e = record {
  reads = ap (λ k. run start (take k ts)) (sym e) ∙ r.reads;
  shallow = λ j h. r.shallow j (omega (arith, e));
}

pub ended : (limit : ℕ) (ts : List Token) (i : ℕ) (st : State) (t : Tree) → ReadsTo limit ts i st → i ≡ length ts → finish (Some st) ≡ Some t → Spells ts t
ended limit ts i st t r e f = is_spelled ts st t (at_end limit ts i st r e).reads f

pub ended_shallow : (limit : ℕ) (ts : List Token) (i : ℕ) (st : State) → ReadsTo limit ts i st → i ≡ length ts → BeginsWithin limit ts
ended_shallow limit ts i st r e = shallow_all limit ts st (at_end limit ts i st r e)

pub stops_short : (limit : ℕ) (ts : List Token) (i : ℕ) (st : State) → ReadsTo limit ts i st → i ≡ length ts → finish (Some st) ≡ None → IsFirstFaultAt limit ts (length ts)
stops_short limit ts i st r e f = record {
  fault = ends_early ts st (at_end limit ts i st r e).reads f;
  shallow = shallow_to limit ts (length ts) st (at_end limit ts i st r e) (omega arith);
}
