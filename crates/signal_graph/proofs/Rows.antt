-- Worked runs of small graphs, computed from the definitions.
use Rattle.std.proofs.Common.{◌≡◌, ℕ, true, false, List, [], ◌∷◌, Some, None, refl}
use Rattle.std.specs.Prelude.{ℤ, pos, negsuc, codes}
use Rattle.script_tree.specs.declared.value.Fault.TheVariants.{Overflow, ZeroDivisor, Kind, NoChoice}
use Rattle.script_tree.specs.declared.value.Value.{Value}
use Rattle.script_tree.specs.declared.value.Value.TheVariants.{Int, Bool as Truth, Fault as Faulty}
use Rattle.script_tree.specs.declared.expr.Unary.TheVariants.{Negate}
use Rattle.script_tree.specs.declared.expr.Binary.{Binary}
use Rattle.script_tree.specs.declared.expr.Binary.TheVariants.{OrElse, Less, Greater, Add, Subtract, Multiply, Divide}
use Rattle.script_tree.specs.Tree.{Tree, Number, Input, Pick, Acc, Apply, Join, If}
use Rattle.script_tree.specs.Scripts.{Scripted}
use Rattle.signal_graph.specs.declared.node.Selector.{Selector}
use Rattle.signal_graph.specs.declared.node.Node.{Node}
use Rattle.signal_graph.specs.declared.node.Node.TheVariants.{Source, Signal, Fold, Choose}
use Rattle.signal_graph.specs.declared.call.Call.{Call}
use Rattle.signal_graph.specs.declared.call.Call.TheVariants.{Fire, Read}
use Rattle.signal_graph.specs.declared.call.Reply.{Reply}
use Rattle.signal_graph.specs.declared.call.Reply.TheVariants.{Fire as Fired, Read as Seen}
use Rattle.signal_graph.specs.declared.log.Logged.{Logged}
use Rattle.signal_graph.specs.Graph.{Graph}
use Rattle.signal_graph.specs.Machine.{misnamed}
use Rattle.signal_graph.specs.Legal.{Legal, finals}

abbrev pub num : ℕ → Value
num n = Int (pos n)

abbrev minus_one : Value
minus_one = Int (negsuc 0)

abbrev pub literal : ℕ → Tree
literal n = Number (pos n)

abbrev script : List (List ℕ) → Tree → Scripted
script names tree = record { names = names; tree = tree }

abbrev among : Scripted → List ℕ → List ℕ → Selector
among s inputs candidates = record { script = s; inputs = inputs; candidates = candidates }

abbrev pub entry : ℕ → ℕ → Call → Reply → Logged
entry caller version call reply = record { caller = caller; version = version; call = call; reply = reply }

abbrev plus_one : List ℕ → Scripted
plus_one name = script (name ∷ []) (Join Add (Input 0) (literal 1))

-- a source and a signal
abbrev two : Graph
two = record { names = codes "a" ∷ codes "b" ∷ []; nodes = Source (num 1) ∷ Signal (plus_one (codes "a")) (0 ∷ []) ∷ [] }

abbrev first_run : List Logged
first_run =
    entry 1 1 (Fire ((codes "a", num 5) ∷ []) (codes "b" ∷ [])) (Fired 2 1 (num 6 ∷ []))
    ∷ entry 1 2 (Read (codes "a" ∷ codes "b" ∷ [])) (Seen (num 5 ∷ num 6 ∷ [])) ∷ []

first_run_legal : Legal two first_run
first_run_legal = (refl, (refl, tt))

first_run_finals : finals two first_run ≡ num 5 ∷ num 6 ∷ []
first_run_finals = refl

-- a source is set to the value that it has
abbrev same_value : List Logged
same_value = entry 1 1 (Fire ((codes "a", num 1) ∷ []) []) (Fired 0 0 []) ∷ []

same_value_legal : Legal two same_value
same_value_legal = (refl, tt)

same_value_finals : finals two same_value ≡ num 1 ∷ num 2 ∷ []
same_value_finals = refl

-- the largest number, one more, and a value in a fault's place
abbrev largest : Graph
largest = record {
  names = codes "a" ∷ codes "b" ∷ codes "c" ∷ [];
  nodes = Source (num 9223372036854775807) ∷ Signal (plus_one (codes "a")) (0 ∷ []) ∷ Signal (script (codes "b" ∷ []) (Join OrElse (Input 0) (literal 0))) (1 ∷ []) ∷ [];
}

largest_finals : finals largest [] ≡ num 9223372036854775807 ∷ Faulty Overflow ∷ num 0 ∷ []
largest_finals = refl

-- of two faults the left one stays
abbrev sum : List ℕ → List ℕ → Scripted
sum a b = script (a ∷ b ∷ []) (Join Add (Input 0) (Input 1))

abbrev two_faults : Graph
two_faults = record {
  names = codes "m" ∷ codes "p" ∷ codes "q" ∷ codes "r" ∷ codes "t" ∷ [];
  nodes =
      Source (Int (negsuc 9223372036854775807))
      ∷ Signal (script (codes "m" ∷ []) (Join Divide (Input 0) (Apply Negate (literal 1)))) (0 ∷ [])
      ∷ Signal (script (codes "m" ∷ []) (Join Divide (Input 0) (literal 0))) (0 ∷ [])
      ∷ Signal (sum (codes "p") (codes "q")) (1 ∷ 2 ∷ [])
      ∷ Signal (sum (codes "q") (codes "p")) (2 ∷ 1 ∷ []) ∷ [];
}

two_faults_finals : finals two_faults [] ≡ Int (negsuc 9223372036854775807) ∷ Faulty Overflow ∷ Faulty ZeroDivisor ∷ Faulty Overflow ∷ Faulty ZeroDivisor ∷ []
two_faults_finals = refl

-- a fold makes no step where its input keeps its value
abbrev counting : Graph
counting = record {
  names = codes "a" ∷ codes "n" ∷ [];
  nodes = Source (num 0) ∷ Fold (num 0) (script (codes "a" ∷ []) (Join Add (Join Add Acc (literal 1)) (Join Multiply (Input 0) (literal 0)))) (0 ∷ []) ∷ [];
}

abbrev set_a : ℕ → Call
set_a n = Fire ((codes "a", num n) ∷ []) []

abbrev repeated : List Logged
repeated = entry 1 1 (set_a 1) (Fired 2 1 []) ∷ entry 1 2 (set_a 1) (Fired 0 0 []) ∷ entry 1 3 (set_a 2) (Fired 2 1 []) ∷ []

repeated_legal : Legal counting repeated
repeated_legal = (refl, (refl, (refl, tt)))

repeated_finals : finals counting repeated ≡ num 2 ∷ num 2 ∷ []
repeated_finals = refl

-- numbers beyond the candidates, a truth and a fault as what selects
abbrev choosing : Graph
choosing = record {
  names = codes "i" ∷ codes "x" ∷ codes "y" ∷ codes "d" ∷ codes "e" ∷ [];
  nodes =
      Source (num 2) ∷ Source (num 10) ∷ Source (num 20)
      ∷ Choose (among (script (codes "i" ∷ []) (Input 0)) (0 ∷ []) (1 ∷ 2 ∷ []) ∷ []) None (0 ∷ [])
      ∷ Choose (among (script (codes "i" ∷ []) (Join Divide (Input 0) (literal 0))) (0 ∷ []) (1 ∷ 2 ∷ []) ∷ []) None (0 ∷ []) ∷ [];
}

abbrev set_i : Value → List (List ℕ) → Call
set_i v looks = Fire ((codes "i", v) ∷ []) looks

abbrev chosen : List Logged
chosen =
    entry 1 1 (set_i minus_one (codes "d" ∷ codes "e" ∷ [])) (Fired 1 2 (Faulty NoChoice ∷ Faulty ZeroDivisor ∷ []))
    ∷ entry 1 2 (set_i (Truth true) (codes "d" ∷ codes "e" ∷ [])) (Fired 3 2 (Faulty Kind ∷ Faulty Kind ∷ []))
    ∷ entry 1 3 (set_i (num 1) (codes "d" ∷ [])) (Fired 3 2 (num 20 ∷ [])) ∷ []

chosen_legal : Legal choosing chosen
chosen_legal = (refl, (refl, (refl, tt)))

chosen_finals : finals choosing chosen ≡ num 1 ∷ num 10 ∷ num 20 ∷ num 20 ∷ Faulty ZeroDivisor ∷ []
chosen_finals = refl

-- a name that is set twice has what is set last
abbrev one : Graph
one = record { names = codes "a" ∷ []; nodes = Source (num 0) ∷ [] }

abbrev set_twice : List Logged
set_twice = entry 1 1 (Fire ((codes "a", num 1) ∷ (codes "a", num 2) ∷ []) []) (Fired 1 0 []) ∷ []

set_twice_legal : Legal one set_twice
set_twice_legal = (refl, tt)

set_twice_finals : finals one set_twice ≡ num 2 ∷ []
set_twice_finals = refl

-- a signal can't be set, and a name has to be there
set_signal : misnamed two (Fire ((codes "b", num 3) ∷ []) []) ≡ Some 1
set_signal = refl

look_nowhere : misnamed two (Fire ((codes "a", num 2) ∷ []) (codes "c" ∷ codes "b" ∷ [])) ≡ Some 2
look_nowhere = refl

look_signal : misnamed two (Read (codes "b" ∷ [])) ≡ None
look_signal = refl

-- a body over the picks of two selectors
abbrev two_picks : Graph
two_picks = record {
  names = codes "s" ∷ codes "t" ∷ codes "x" ∷ codes "y" ∷ codes "d" ∷ [];
  nodes =
      Source (num 0) ∷ Source (num 1) ∷ Source (num 10) ∷ Source (num 20)
      ∷ Choose
      (among (script (codes "s" ∷ []) (Input 0)) (0 ∷ []) (2 ∷ 3 ∷ []) ∷ among (script (codes "t" ∷ []) (Input 0)) (1 ∷ []) (2 ∷ 3 ∷ []) ∷ [])
      (Some (script [] (Join Subtract (Join OrElse (Pick 0) (literal 7)) (Pick 1)))) (0 ∷ 1 ∷ []) ∷ [];
}

abbrev set_and_look : List ℕ → ℕ → Call
set_and_look name n = Fire ((name, num n) ∷ []) (codes "d" ∷ [])

abbrev picked : List Logged
picked =
    entry 1 1 (set_and_look (codes "s") 1) (Fired 2 1 (num 0 ∷ []))
    ∷ entry 1 2 (set_and_look (codes "x") 11) (Fired 1 0 (num 0 ∷ []))
    ∷ entry 1 3 (set_and_look (codes "s") 5) (Fired 2 1 (Int (negsuc 12) ∷ [])) ∷ []

picked_legal : Legal two_picks picked
picked_legal = (refl, (refl, (refl, tt)))

picked_finals : finals two_picks picked ≡ num 5 ∷ num 1 ∷ num 11 ∷ num 20 ∷ Int (negsuc 12) ∷ []
picked_finals = refl
