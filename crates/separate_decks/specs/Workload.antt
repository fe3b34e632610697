-- A deck for each number: 64 sources, 8 folds, 24 rows of five signals and a choose, and 8 threads of 500 calls. Thread i,
-- counted from 0, sets the sources s(8i) to s(8i + 7), and the fold f(i) goes over two of these.
use Rattle.std.specs.Prelude.{◌≡◌, ℕ, zero, suc, ◌+◌, ◌*◌, pos, ◌==◌, if◌then◌else◌, List}
use Rattle.std.specs.Prelude.{[], ◌∷◌, ◌++◌, map, None, codes, decimal, slice_index_or}
use Rattle.script_tree.specs.declared.value.Value.TheVariants.{Int}
use Rattle.script_tree.specs.declared.expr.Binary.TheVariants.{Add, Subtract, Remainder, Less}
use Rattle.script_tree.specs.Tree.{Tree, Number, Input, Acc, Join, If}
use Rattle.script_tree.specs.Scripts.{Scripted}
use Rattle.signal_graph.specs.declared.builder.DeclKind.{DeclKind}
use Rattle.signal_graph.specs.declared.builder.DeclKind.TheVariants.{Source, Signal, Fold, Choose}
use Rattle.signal_graph.specs.declared.call.Call.{Call}
use Rattle.signal_graph.specs.declared.call.Call.TheVariants.{Fire, Read}
use Rattle.signal_graph.specs.Graph.{Graph, no_nodes}
use Rattle.signal_graph.specs.Declarations.{IsDeclaration, refusal, with_declaration}
use Rattle.separate_decks.specs.Draws.{skip, draw}

-- a letter with a number behind it, and so many such names from a number on
abbrev pub numbered : List ℕ → ℕ → List ℕ
numbered letter n = letter ++ decimal n

abbrev pub row_of_names : List ℕ → ℕ → ℕ → List (List ℕ)
row_of_names letter from zero = []
row_of_names letter from (suc n) = numbered letter from ∷ row_of_names letter (from + 1) n

-- the names of so many rows of signals and a choose, from the row with a number on
abbrev pub names_of_rows : ℕ → ℕ → List (List ℕ)
names_of_rows j zero = []
names_of_rows j (suc n) = row_of_names (codes "g") (5 * j) 5 ++ (numbered (codes "c") j ∷ names_of_rows (j + 1) n)

-- s0 to s63, f0 to f7, g0 to g4, c0, g5 to g9, c1, and so on to g119 and c23
unfoldable pub all_names : List (List ℕ)
all_names = row_of_names (codes "s") 0 64 ++ (row_of_names (codes "f") 0 8 ++ names_of_rows 0 24)

-- the name of the node with a number
unfoldable pub name_of : ℕ → List ℕ
name_of n = slice_index_or all_names n []

-- the different ones of two nodes, and where the second one stands among them
abbrev pub two : ℕ → ℕ → List ℕ
two p q = if p == q then p ∷ [] else p ∷ (q ∷ [])

abbrev pub second : ℕ → ℕ → Tree
second p q = if p == q then Input 0 else Input 1

abbrev pub whole : ℕ → Tree
whole n = Number (pos n)

-- a script over nodes: their names, and a tree
abbrev pub over : List ℕ → Tree → Scripted
over ns tree = record { names = map name_of ns; tree = tree }

-- a source with a start value
abbrev pub source : ℕ → DeclKind
source value = Source (Int (pos value))

-- `fold = 0 : acc + a - b`
abbrev pub fold : ℕ → ℕ → DeclKind
fold a b = Fold (Int (pos 0)) (over (two a b) (Join Subtract (Join Add Acc (Input 0)) (second a b)))

-- `(p + q) % 1000`, `(p - q) % 1000` or `if p < q then p else q`, by a number
abbrev pub signal_tree : ℕ → Tree → Tree → Tree
signal_tree zero p q = Join Remainder (Join Add p q) (whole 1000)
signal_tree (suc zero) p q = Join Remainder (Join Subtract p q) (whole 1000)
signal_tree (suc (suc r)) p q = If (Join Less p q) p q

abbrev pub signal : ℕ → ℕ → ℕ → DeclKind
signal p q r = Signal (over (two p q) (signal_tree r (Input 0) (second p q)))

-- a choose among some nodes, by `(p % 4 + 4) % 4`
abbrev pub choice_tree : Tree
choice_tree = Join Remainder (Join Add (Join Remainder (Input 0) (whole 4)) (whole 4)) (whole 4)

abbrev pub choose : ℕ → List ℕ → DeclKind
choose p candidates = Choose ((over (p ∷ []) choice_tree, map name_of candidates) ∷ []) None

-- so many sources, from a state on; one draw each
unfoldable pub sources : ℕ → ℕ → List DeclKind
sources zero x = []
sources (suc n) x = source (draw x 1 100) ∷ sources n (skip 1 x)

-- so many folds, from the i-th on; two draws each
unfoldable pub folds : ℕ → ℕ → ℕ → List DeclKind
folds i zero x = []
folds i (suc n) x = fold (8 * i + draw x 1 8) (8 * i + draw x 2 8) ∷ folds (i + 1) n (skip 2 x)

-- so many signals behind m nodes; three draws each
unfoldable pub signals : ℕ → ℕ → ℕ → List DeclKind
signals m zero x = []
signals m (suc n) x = signal (draw x 1 m) (draw x 2 m) (draw x 3 3) ∷ signals (m + 1) n (skip 3 x)

-- so many rows behind m nodes, each of five signals and a choose; twenty draws each
unfoldable pub rows : ℕ → ℕ → ℕ → List DeclKind
rows m zero x = []
rows m (suc n) x =
    let y = skip 15 x in
    signals m 5 x
    ++ (choose (draw y 1 (m + 5)) (draw y 2 (m + 5) ∷ (draw y 3 (m + 5) ∷ (draw y 4 (m + 5) ∷ (draw y 5 (m + 5) ∷ []))))
    ∷ rows (m + 6) n (skip 20 x))

-- what all nodes are; 560 draws
unfoldable pub all_kinds : ℕ → List DeclKind
all_kinds x = sources 64 x ++ (folds 0 8 (skip 64 x) ++ rows 72 24 (skip 80 x))

-- names with what they are declared as
abbrev pub named : List (List ℕ) → List DeclKind → List (List ℕ × DeclKind)
named [] kinds = []
named (name ∷ names) [] = []
named (name ∷ names) (kind ∷ kinds) = (name, kind) ∷ named names kinds

unfoldable pub workload_declarations : ℕ → List (List ℕ × DeclKind)
workload_declarations number = named all_names (all_kinds number)

-- a graph with more declarations, one after the other
abbrev pub declared : Graph → List (List ℕ × DeclKind) → Graph
declared graph [] = graph
declared graph (d ∷ rest) = declared (with_declaration graph d.0 d.1) rest

-- a builder takes declarations one after the other, and refuses none
abbrev pub AreAccepted : Graph → List (List ℕ × DeclKind) → Type 0
AreAccepted graph [] = Unit {0}
AreAccepted graph (d ∷ rest) = IsDeclaration d.1 × (refusal graph d.0 d.1 ≡ None) × AreAccepted (with_declaration graph d.0 d.1) rest

unfoldable pub workload_graph : ℕ → Graph
workload_graph number = declared no_nodes (workload_declarations number)

-- one call of the thread i, and how many draws it takes
unfoldable pub call_of : ℕ → ℕ → Call
call_of i x =
    if draw x 1 4 == 0 then Read (name_of (draw x 2 216) ∷ [])
    else Fire ((name_of (8 * i + draw x 2 8), Int (pos (draw x 3 1000))) ∷ []) (name_of (draw x 4 216) ∷ [])

unfoldable pub draws_of_call : ℕ → ℕ
draws_of_call x = if draw x 1 4 == 0 then 2 else 4

-- so many calls of the thread i, and the state after them
unfoldable pub calls_of : ℕ → ℕ → ℕ → List Call
calls_of i zero x = []
calls_of i (suc n) x = call_of i x ∷ calls_of i n (skip (draws_of_call x) x)

unfoldable pub state_after_calls : ℕ → ℕ → ℕ
state_after_calls zero x = x
state_after_calls (suc n) x = state_after_calls n (skip (draws_of_call x) x)

-- the calls of so many threads, 500 each, from the thread i on
unfoldable pub threads : ℕ → ℕ → ℕ → List (List Call)
threads i zero x = []
threads i (suc n) x = calls_of i 500 x ∷ threads (i + 1) n (state_after_calls 500 x)

unfoldable pub workload_scripts : ℕ → List (List Call)
workload_scripts number = threads 0 8 (skip 560 number)
