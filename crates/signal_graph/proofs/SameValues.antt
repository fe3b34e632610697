-- `same` of values decides their equality.
use Rattle.std.proofs.Common.{◌≡◌, Bool, true, false, sym, refl, ap, true≢false}
use Rattle.std.proofs.lemmas.Bool.Decides.{Decides-int_eq}
use Rattle.script_tree.specs.declared.value.Fault.{Fault}
use Rattle.script_tree.specs.declared.value.Fault.TheVariants.{Overflow, ZeroDivisor, Kind, NoChoice}
use Rattle.script_tree.specs.declared.value.Value.{Value}
use Rattle.script_tree.specs.declared.value.Value.TheVariants.{Int, Bool as Truth, Fault as Faulty}
use Rattle.script_tree.specs.Eval.{same_truth}
use Rattle.signal_graph.specs.Machine.{same, same_fault}

same_fault-is : (f g : Fault) → same_fault f g ≡ true → f ≡ g
same_fault-is Overflow Overflow h = refl
same_fault-is Overflow ZeroDivisor h = absurd (true≢false (sym h))
same_fault-is Overflow Kind h = absurd (true≢false (sym h))
same_fault-is Overflow NoChoice h = absurd (true≢false (sym h))
same_fault-is ZeroDivisor Overflow h = absurd (true≢false (sym h))
same_fault-is ZeroDivisor ZeroDivisor h = refl
same_fault-is ZeroDivisor Kind h = absurd (true≢false (sym h))
same_fault-is ZeroDivisor NoChoice h = absurd (true≢false (sym h))
same_fault-is Kind Overflow h = absurd (true≢false (sym h))
same_fault-is Kind ZeroDivisor h = absurd (true≢false (sym h))
same_fault-is Kind Kind h = refl
same_fault-is Kind NoChoice h = absurd (true≢false (sym h))
same_fault-is NoChoice Overflow h = absurd (true≢false (sym h))
same_fault-is NoChoice ZeroDivisor h = absurd (true≢false (sym h))
same_fault-is NoChoice Kind h = absurd (true≢false (sym h))
same_fault-is NoChoice NoChoice h = refl

same_fault-self : (f : Fault) → same_fault f f ≡ true
same_fault-self Overflow = refl
same_fault-self ZeroDivisor = refl
same_fault-self Kind = refl
same_fault-self NoChoice = refl

same_truth-is : (a b : Bool) → same_truth a b ≡ true → a ≡ b
same_truth-is true b h = sym h
same_truth-is false true h = absurd (true≢false (sym h))
same_truth-is false false h = refl

same_truth-self : (a : Bool) → same_truth a a ≡ true
same_truth-self true = refl
same_truth-self false = refl

pub same-is : (u v : Value) → same u v ≡ true → u ≡ v
same-is (Int x) (Int y) h = ap Int ((Decides-int_eq x y).0 h)
same-is (Int x) (Truth b) h = absurd (true≢false (sym h))
same-is (Int x) (Faulty f) h = absurd (true≢false (sym h))
same-is (Truth a) (Int y) h = absurd (true≢false (sym h))
same-is (Truth a) (Truth b) h = ap Truth (same_truth-is a b h)
same-is (Truth a) (Faulty f) h = absurd (true≢false (sym h))
same-is (Faulty f) (Int y) h = absurd (true≢false (sym h))
same-is (Faulty f) (Truth b) h = absurd (true≢false (sym h))
same-is (Faulty f) (Faulty g) h = ap Faulty (same_fault-is f g h)

pub same-self : (v : Value) → same v v ≡ true
same-self (Int x) = (Decides-int_eq x x).1 refl
same-self (Truth b) = same_truth-self b
same-self (Faulty f) = same_fault-self f
