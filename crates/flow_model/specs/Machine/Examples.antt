-- Worked examples: a graph, the calls of each thread, a schedule of turns, and what it makes of them.
use Rattle.std.specs.Prelude.{◌≡◌, ℕ, pos, true, List, [], ◌∷◌, ◌++◌, length, map, Some, None, codes}
use Rattle.script_tree.specs.declared.value.Value.{Value}
use Rattle.script_tree.specs.declared.value.Value.TheVariants.{Int}
use Rattle.script_tree.specs.declared.expr.Binary.TheVariants.{Add}
use Rattle.script_tree.specs.Tree.{Number, Input, Pick, Join}
use Rattle.signal_graph.specs.declared.node.Selector.{Selector}
use Rattle.signal_graph.specs.declared.node.Node.{Node}
use Rattle.signal_graph.specs.declared.node.Node.TheVariants.{Source, Signal, Choose}
use Rattle.signal_graph.specs.declared.call.Call.{Call}
use Rattle.signal_graph.specs.declared.call.Call.TheVariants.{Fire, Read}
use Rattle.signal_graph.specs.declared.call.Reply.{Reply}
use Rattle.signal_graph.specs.declared.call.Reply.TheVariants.{Fire as Fired, Read as Seen}
use Rattle.signal_graph.specs.declared.log.Logged.{Logged}
use Rattle.signal_graph.specs.Graph.{Graph}
use Rattle.signal_graph.specs.Legal.{Legal, finals}
use Rattle.flow_model.specs.declared.step.Step.{Step}
use Rattle.flow_model.specs.declared.step.Step.TheVariants.{Frame, Start, Gather, Evaluate, Body, Resolve, Discover, Drop, Mark, Look, End}
use Rattle.flow_model.specs.Machine.Histories.{Move, Begin, Make, state, is_history, last_values}
use Rattle.flow_model.specs.Machine.Schedules.{replayed, is_over}

-- The schedule gives these moves, each is allowed, and in the end no call is live or left; the log is this one, it is
-- legal, and the last values are these and the one-thread machine's.
pub record PlaysOut
    (graph : Graph) (scripts : List (List Call)) (schedule : List ℕ) (moves : List Move) (log : List Logged) (values : List Value)
    : Type 0 where
  pub moves_made : (replayed graph scripts 1000 schedule).moves ≡ moves
  pub is_over : is_over (replayed graph scripts 1000 schedule) ≡ true
  pub allowed : is_history graph (length scripts) 1000 moves ≡ true
  pub logs : (state graph (length scripts) 1000 moves).log ≡ log
  pub legal : Legal graph log
  pub last : last_values (state graph (length scripts) 1000 moves) ≡ values
  pub finals : finals graph log ≡ values

-- ---- the words of the examples

abbrev pub int : ℕ → Value
int n = Int (pos n)

-- a source with its start value
abbrev pub source : ℕ → Node
source n = Source (int n)

-- a signal that is one more than a node, which is given by name and number
abbrev pub plus_one : List ℕ → ℕ → Node
plus_one name node = Signal (record { names = name ∷ []; tree = Join Add (Input 0) (Number (pos 1)) }) (node ∷ [])

-- a selector that is a node's value
abbrev pub selector : List ℕ → ℕ → List ℕ → Selector
selector name node candidates = record {
  script = record { names = name ∷ []; tree = Input 0 };
  inputs = node ∷ [];
  candidates = candidates;
}

-- a choose with this one selector
abbrev pub choose : List ℕ → ℕ → List ℕ → Node
choose name node candidates = Choose (selector name node candidates ∷ []) None (node ∷ [])

-- a fire of one source
abbrev pub fire : List ℕ → ℕ → List (List ℕ) → Call
fire name value looks = Fire ((name, int value) ∷ []) looks

-- a caller's call begins, and steps follow
abbrev pub begins : ℕ → Call → List Step → List Move
begins caller call steps = Begin caller call ∷ map Make steps

-- a call in the log, with its reply
abbrev pub answered : ℕ → ℕ → Call → Reply → Logged
answered caller version call reply = record { caller = caller; version = version; call = call; reply = reply }

-- ---- the examples

-- Call 1 discovers y before call 2, which has changed it, so call 2 is given frames on d and k.
abbrev pub retrofit_graph : Graph
retrofit_graph = record {
  names = codes "s" ∷ codes "x" ∷ codes "y" ∷ codes "j" ∷ codes "d" ∷ codes "k" ∷ [];
  nodes =
      source 0
      ∷ source 10
      ∷ source 20
      ∷ Signal (record { names = codes "s" ∷ codes "y" ∷ []; tree = Join Add (Input 0) (Input 1) }) (0 ∷ 2 ∷ [])
      ∷ choose (codes "s") 0 (1 ∷ 2 ∷ [])
      ∷ plus_one (codes "d") 4
      ∷ [];
}

abbrev pub retrofit_scripts : List (List Call)
retrofit_scripts = (fire (codes "s") 1 (codes "k" ∷ []) ∷ []) ∷ (fire (codes "y") 21 (codes "k" ∷ []) ∷ []) ∷ []

abbrev pub retrofit_schedule : List ℕ
retrofit_schedule = 1 ∷ 1 ∷ 1 ∷ 1 ∷ 1 ∷ 1 ∷ 2 ∷ 2 ∷ 2 ∷ 2 ∷ 2 ∷ []

abbrev pub retrofit_moves : List Move
retrofit_moves =
    begins 1 (fire (codes "s") 1 (codes "k" ∷ []))
    (Frame 1 0 ∷ Frame 1 3 ∷ Frame 1 4 ∷ Frame 1 5 ∷ Start 1 ∷ [])
    ++ begins 2 (fire (codes "y") 21 (codes "k" ∷ []))
    (Frame 2 2 ∷ Frame 2 3 ∷ Start 2 ∷ Resolve 2 2 ∷ Resolve 1 0 ∷ Gather 1 3 0 ∷ Mark 1 2 ∷ Gather 1 3 2 ∷ Evaluate 1 3
    ∷ Resolve 1 3 ∷ Mark 2 0 ∷ Gather 1 4 0 ∷ Gather 2 3 0 ∷ Evaluate 1 4 ∷ Gather 2 3 2 ∷ Discover 1 4 2 ∷ Frame 2 4
    ∷ Gather 1 4 2 ∷ Frame 2 5 ∷ Drop 1 4 1 ∷ Evaluate 2 3 ∷ Resolve 1 4 ∷ Resolve 2 3 ∷ Gather 1 5 4 ∷ Gather 2 4 0
    ∷ Evaluate 1 5 ∷ Evaluate 2 4 ∷ Resolve 1 5 ∷ Gather 2 4 2 ∷ Look 1 ∷ Resolve 2 4 ∷ End 1 ∷ Gather 2 5 4 ∷ Evaluate 2 5
    ∷ Resolve 2 5 ∷ Look 2 ∷ End 2 ∷ [])

-- its log, with a value at the last look
abbrev pub retrofit_log_with : ℕ → List Logged
retrofit_log_with look =
    answered 1 1 (fire (codes "s") 1 (codes "k" ∷ [])) (Fired 4 3 (int 21 ∷ []))
    ∷ answered 2 2 (fire (codes "y") 21 (codes "k" ∷ [])) (Fired 4 3 (int look ∷ []))
    ∷ []

abbrev pub retrofit_log : List Logged
retrofit_log = retrofit_log_with 22

abbrev pub retrofit_finals : List Value
retrofit_finals = int 1 ∷ int 10 ∷ int 21 ∷ int 22 ∷ int 21 ∷ int 22 ∷ []

-- Call 1 discovers y behind call 2, which comes first.
abbrev pub other_order_graph : Graph
other_order_graph = record {
  names = codes "s" ∷ codes "x" ∷ codes "y" ∷ codes "d" ∷ codes "k" ∷ [];
  nodes =
      source 0
      ∷ source 10
      ∷ source 20
      ∷ choose (codes "s") 0 (1 ∷ 2 ∷ [])
      ∷ plus_one (codes "d") 3
      ∷ [];
}

abbrev pub other_order_scripts : List (List Call)
other_order_scripts = (fire (codes "s") 1 (codes "k" ∷ []) ∷ []) ∷ (fire (codes "y") 21 (codes "k" ∷ []) ∷ []) ∷ []

abbrev pub other_order_schedule : List ℕ
other_order_schedule = 1 ∷ 1 ∷ 1 ∷ 1 ∷ 1 ∷ 2 ∷ 2 ∷ 2 ∷ 2 ∷ 1 ∷ 1 ∷ 1 ∷ 1 ∷ []

abbrev pub other_order_moves : List Move
other_order_moves =
    begins 1 (fire (codes "s") 1 (codes "k" ∷ []))
    (Frame 1 0 ∷ Frame 1 3 ∷ Frame 1 4 ∷ Start 1 ∷ [])
    ++ begins 2 (fire (codes "y") 21 (codes "k" ∷ []))
    (Frame 2 2 ∷ Start 2 ∷ Resolve 2 2 ∷ Resolve 1 0 ∷ Gather 1 3 0 ∷ Evaluate 1 3 ∷ Discover 1 3 2 ∷ Gather 1 3 2 ∷ Mark 2 4
    ∷ Drop 1 3 1 ∷ Look 2 ∷ Resolve 1 3 ∷ End 2 ∷ Gather 1 4 3 ∷ Evaluate 1 4 ∷ Resolve 1 4 ∷ Look 1 ∷ End 1 ∷ [])

abbrev pub other_order_log : List Logged
other_order_log =
    answered 2 2 (fire (codes "y") 21 (codes "k" ∷ [])) (Fired 1 0 (int 11 ∷ []))
    ∷ answered 1 1 (fire (codes "s") 1 (codes "k" ∷ [])) (Fired 3 2 (int 22 ∷ []))
    ∷ []

abbrev pub other_order_finals : List Value
other_order_finals = int 1 ∷ int 10 ∷ int 21 ∷ int 21 ∷ int 22 ∷ []

-- Call 1 drops x at d, and e follows x still.
abbrev pub one_edge_graph : Graph
one_edge_graph = record {
  names = codes "s" ∷ codes "q" ∷ codes "x" ∷ codes "y" ∷ codes "d" ∷ codes "e" ∷ [];
  nodes =
      source 0
      ∷ source 0
      ∷ source 10
      ∷ source 20
      ∷ choose (codes "s") 0 (2 ∷ 3 ∷ [])
      ∷ choose (codes "q") 1 (2 ∷ 3 ∷ [])
      ∷ [];
}

abbrev pub one_edge_scripts : List (List Call)
one_edge_scripts =
    (fire (codes "s") 1 (codes "d" ∷ []) ∷ [])
    ∷ (fire (codes "s") 0 (codes "d" ∷ []) ∷ [])
    ∷ (fire (codes "x") 11 (codes "d" ∷ codes "e" ∷ []) ∷ fire (codes "x") 12 (codes "d" ∷ codes "e" ∷ []) ∷ [])
    ∷ []

abbrev pub one_edge_schedule : List ℕ
one_edge_schedule = 1 ∷ 1 ∷ 1 ∷ 1 ∷ 2 ∷ 2 ∷ 2 ∷ 2 ∷ 3 ∷ 3 ∷ 3 ∷ 3 ∷ 3 ∷ 3 ∷ []

abbrev pub one_edge_moves : List Move
one_edge_moves =
    begins 1 (fire (codes "s") 1 (codes "d" ∷ []))
    (Frame 1 0 ∷ Frame 1 4 ∷ Start 1 ∷ [])
    ++ begins 2 (fire (codes "s") 0 (codes "d" ∷ []))
    (Frame 2 0 ∷ Frame 2 4 ∷ Start 2 ∷ [])
    ++ begins 3 (fire (codes "x") 11 (codes "d" ∷ codes "e" ∷ []))
    (Frame 3 2 ∷ Frame 3 4 ∷ Frame 3 5 ∷ Start 3 ∷ Resolve 3 2 ∷ Resolve 1 0 ∷ Resolve 2 0 ∷ Gather 1 4 0 ∷ Evaluate 1 4
    ∷ Discover 1 4 3 ∷ Gather 1 4 3 ∷ Drop 1 4 2 ∷ Resolve 1 4 ∷ Gather 2 4 0 ∷ Look 1 ∷ Evaluate 2 4 ∷ End 1 ∷ Discover 2 4 2
    ∷ Gather 2 4 2 ∷ Drop 2 4 3 ∷ Resolve 2 4 ∷ Mark 3 0 ∷ Look 2 ∷ Gather 3 4 0 ∷ End 2 ∷ Evaluate 3 4 ∷ Gather 3 4 2
    ∷ Resolve 3 4 ∷ Mark 3 1 ∷ Gather 3 5 1 ∷ Evaluate 3 5 ∷ Gather 3 5 2 ∷ Resolve 3 5 ∷ Look 3 ∷ Look 3 ∷ End 3 ∷ [])
    ++ begins 3 (fire (codes "x") 12 (codes "d" ∷ codes "e" ∷ []))
    (Frame 4 2 ∷ Frame 4 4 ∷ Frame 4 5 ∷ Start 4 ∷ Resolve 4 2 ∷ Mark 4 0 ∷ Gather 4 4 0 ∷ Evaluate 4 4 ∷ Gather 4 4 2
    ∷ Resolve 4 4 ∷ Mark 4 1 ∷ Gather 4 5 1 ∷ Evaluate 4 5 ∷ Gather 4 5 2 ∷ Resolve 4 5 ∷ Look 4 ∷ Look 4 ∷ End 4 ∷ [])

abbrev pub one_edge_log : List Logged
one_edge_log =
    answered 1 1 (fire (codes "s") 1 (codes "d" ∷ [])) (Fired 2 1 (int 20 ∷ []))
    ∷ answered 2 2 (fire (codes "s") 0 (codes "d" ∷ [])) (Fired 2 1 (int 10 ∷ []))
    ∷ answered 3 3 (fire (codes "x") 11 (codes "d" ∷ codes "e" ∷ [])) (Fired 3 2 (int 11 ∷ int 11 ∷ []))
    ∷ answered 3 4 (fire (codes "x") 12 (codes "d" ∷ codes "e" ∷ [])) (Fired 3 2 (int 12 ∷ int 12 ∷ []))
    ∷ []

abbrev pub one_edge_finals : List Value
one_edge_finals = int 0 ∷ int 0 ∷ int 12 ∷ int 20 ∷ int 12 ∷ int 12 ∷ []

-- Call 2 comes to want d, and what follows: its Mark on k becomes a Frame.
abbrev pub two_levels_graph : Graph
two_levels_graph = record {
  names = codes "s" ∷ codes "p" ∷ codes "x" ∷ codes "y" ∷ codes "d" ∷ codes "f" ∷ codes "k" ∷ [];
  nodes =
      source 0
      ∷ source 0
      ∷ source 10
      ∷ source 20
      ∷ choose (codes "s") 0 (2 ∷ 3 ∷ [])
      ∷ choose (codes "p") 1 (4 ∷ 2 ∷ [])
      ∷ plus_one (codes "f") 5
      ∷ [];
}

abbrev pub two_levels_scripts : List (List Call)
two_levels_scripts = (fire (codes "s") 1 [] ∷ []) ∷ (fire (codes "y") 21 (codes "k" ∷ []) ∷ []) ∷ []

abbrev pub two_levels_schedule : List ℕ
two_levels_schedule = 1 ∷ 1 ∷ 1 ∷ 1 ∷ 1 ∷ 1 ∷ 2 ∷ 2 ∷ 2 ∷ 2 ∷ 2 ∷ 1 ∷ 1 ∷ 1 ∷ 1 ∷ []

abbrev pub two_levels_moves : List Move
two_levels_moves =
    begins 1 (fire (codes "s") 1 [])
    (Frame 1 0 ∷ Frame 1 4 ∷ Frame 1 5 ∷ Frame 1 6 ∷ Start 1 ∷ [])
    ++ begins 2 (fire (codes "y") 21 (codes "k" ∷ []))
    (Frame 2 3 ∷ Start 2 ∷ Resolve 2 3 ∷ Mark 2 6 ∷ Resolve 1 0 ∷ Gather 1 4 0 ∷ Evaluate 1 4 ∷ Discover 1 4 3 ∷ Frame 2 4
    ∷ Frame 2 5 ∷ Gather 1 4 3 ∷ Frame 2 6 ∷ Drop 1 4 2 ∷ Resolve 1 4 ∷ Mark 2 0 ∷ Mark 1 1 ∷ Gather 2 4 0 ∷ Gather 1 5 1
    ∷ Evaluate 2 4 ∷ Evaluate 1 5 ∷ Gather 2 4 3 ∷ Gather 1 5 4 ∷ Resolve 2 4 ∷ Resolve 1 5 ∷ Mark 2 1 ∷ Gather 1 6 5
    ∷ Gather 2 5 1 ∷ Evaluate 1 6 ∷ Evaluate 2 5 ∷ Resolve 1 6 ∷ Gather 2 5 4 ∷ End 1 ∷ Resolve 2 5 ∷ Gather 2 6 5
    ∷ Evaluate 2 6 ∷ Resolve 2 6 ∷ Look 2 ∷ End 2 ∷ [])

abbrev pub two_levels_log : List Logged
two_levels_log =
    answered 1 1 (fire (codes "s") 1 []) (Fired 4 3 [])
    ∷ answered 2 2 (fire (codes "y") 21 (codes "k" ∷ [])) (Fired 4 3 (int 22 ∷ []))
    ∷ []

abbrev pub two_levels_finals : List Value
two_levels_finals = int 1 ∷ int 0 ∷ int 10 ∷ int 21 ∷ int 21 ∷ int 21 ∷ int 22 ∷ []

-- Call 1 reads b as it was, though call 2 has changed it: its Mark goes before a Done.
abbrev pub reader_in_the_past_graph : Graph
reader_in_the_past_graph = record {
  names = codes "a" ∷ codes "b" ∷ [];
  nodes =
      source 0
      ∷ source 0
      ∷ [];
}

abbrev pub reader_in_the_past_scripts : List (List Call)
reader_in_the_past_scripts = (Read (codes "a" ∷ codes "b" ∷ []) ∷ []) ∷ (Fire ((codes "a", int 1) ∷ (codes "b", int 1) ∷ []) [] ∷ []) ∷ []

abbrev pub reader_in_the_past_schedule : List ℕ
reader_in_the_past_schedule = 1 ∷ 1 ∷ 1 ∷ 2 ∷ 2 ∷ 2 ∷ 2 ∷ 2 ∷ 2 ∷ []

abbrev pub reader_in_the_past_moves : List Move
reader_in_the_past_moves =
    begins 1 (Read (codes "a" ∷ codes "b" ∷ []))
    (Mark 1 0 ∷ Look 1 ∷ [])
    ++ begins 2 (Fire ((codes "a", int 1) ∷ (codes "b", int 1) ∷ []) [])
    (Frame 2 0 ∷ Frame 2 1 ∷ Start 2 ∷ Resolve 2 0 ∷ Resolve 2 1 ∷ Mark 1 1 ∷ Look 1 ∷ End 1 ∷ End 2 ∷ [])

abbrev pub reader_in_the_past_log : List Logged
reader_in_the_past_log =
    answered 1 1 (Read (codes "a" ∷ codes "b" ∷ [])) (Seen (int 0 ∷ int 0 ∷ []))
    ∷ answered 2 2 (Fire ((codes "a", int 1) ∷ (codes "b", int 1) ∷ []) []) (Fired 2 0 [])
    ∷ []

abbrev pub reader_in_the_past_finals : List Value
reader_in_the_past_finals = int 1 ∷ int 1 ∷ []

-- Call 2 begins later and ends first, since nothing joins the two.
abbrev pub unconnected_graph : Graph
unconnected_graph = record {
  names = codes "a" ∷ codes "b" ∷ codes "c" ∷ codes "e" ∷ [];
  nodes =
      source 1
      ∷ plus_one (codes "a") 0
      ∷ source 1
      ∷ plus_one (codes "c") 2
      ∷ [];
}

abbrev pub unconnected_scripts : List (List Call)
unconnected_scripts = (fire (codes "a") 5 [] ∷ []) ∷ (fire (codes "c") 7 [] ∷ []) ∷ []

abbrev pub unconnected_schedule : List ℕ
unconnected_schedule = 1 ∷ 2 ∷ 2 ∷ 2 ∷ 2 ∷ 2 ∷ 2 ∷ 2 ∷ 2 ∷ 2 ∷ []

abbrev pub unconnected_moves : List Move
unconnected_moves =
    begins 1 (fire (codes "a") 5 []) []
    ++ begins 2 (fire (codes "c") 7 [])
    (Frame 2 2 ∷ Frame 2 3 ∷ Start 2 ∷ Resolve 2 2 ∷ Gather 2 3 2 ∷ Evaluate 2 3 ∷ Resolve 2 3 ∷ End 2 ∷ Frame 1 0 ∷ Frame 1 1
    ∷ Start 1 ∷ Resolve 1 0 ∷ Gather 1 1 0 ∷ Evaluate 1 1 ∷ Resolve 1 1 ∷ End 1 ∷ [])

abbrev pub unconnected_log : List Logged
unconnected_log =
    answered 2 2 (fire (codes "c") 7 []) (Fired 2 1 [])
    ∷ answered 1 1 (fire (codes "a") 5 []) (Fired 2 1 [])
    ∷ []

abbrev pub unconnected_finals : List Value
unconnected_finals = int 5 ∷ int 6 ∷ int 7 ∷ int 8 ∷ []

-- A choose with two selectors and a body: call 1 discovers y before call 2 frames it.
abbrev pub two_selectors_graph : Graph
two_selectors_graph = record {
  names = codes "s" ∷ codes "t" ∷ codes "x" ∷ codes "y" ∷ codes "d" ∷ [];
  nodes =
      source 0
      ∷ source 0
      ∷ source 10
      ∷ source 20
      ∷ Choose
      (selector (codes "s") 0 (2 ∷ 3 ∷ []) ∷ selector (codes "t") 1 (2 ∷ 3 ∷ []) ∷ [])
      (Some (record { names = []; tree = Join Add (Pick 0) (Pick 1) }))
      (0 ∷ 1 ∷ [])
      ∷ [];
}

abbrev pub two_selectors_scripts : List (List Call)
two_selectors_scripts = (fire (codes "s") 1 (codes "d" ∷ []) ∷ []) ∷ (fire (codes "y") 21 (codes "d" ∷ []) ∷ []) ∷ []

abbrev pub two_selectors_schedule : List ℕ
two_selectors_schedule = 1 ∷ 1 ∷ 1 ∷ 1 ∷ 1 ∷ 1 ∷ 1 ∷ 1 ∷ 1 ∷ 1 ∷ 2 ∷ 2 ∷ 2 ∷ 2 ∷ 2 ∷ []

abbrev pub two_selectors_moves : List Move
two_selectors_moves =
    begins 1 (fire (codes "s") 1 (codes "d" ∷ []))
    (Frame 1 0 ∷ Frame 1 4 ∷ Start 1 ∷ Resolve 1 0 ∷ Gather 1 4 0 ∷ Mark 1 1 ∷ Gather 1 4 1 ∷ Evaluate 1 4 ∷ Discover 1 4 3 ∷ [])
    ++ begins 2 (fire (codes "y") 21 (codes "d" ∷ []))
    (Frame 2 3 ∷ Frame 2 4 ∷ Start 2 ∷ Resolve 2 3 ∷ Gather 1 4 3 ∷ Mark 1 2 ∷ Gather 1 4 2 ∷ Body 1 4 ∷ Resolve 1 4 ∷ Mark 2 0
    ∷ Look 1 ∷ Gather 2 4 0 ∷ End 1 ∷ Mark 2 1 ∷ Gather 2 4 1 ∷ Evaluate 2 4 ∷ Gather 2 4 3 ∷ Mark 2 2 ∷ Gather 2 4 2 ∷ Body 2 4
    ∷ Resolve 2 4 ∷ Look 2 ∷ End 2 ∷ [])

abbrev pub two_selectors_log : List Logged
two_selectors_log =
    answered 1 1 (fire (codes "s") 1 (codes "d" ∷ [])) (Fired 2 1 (int 30 ∷ []))
    ∷ answered 2 2 (fire (codes "y") 21 (codes "d" ∷ [])) (Fired 2 1 (int 31 ∷ []))
    ∷ []

abbrev pub two_selectors_finals : List Value
two_selectors_finals = int 1 ∷ int 0 ∷ int 10 ∷ int 21 ∷ int 31 ∷ []
