-- A tree as a list of plain numbers, so that a model may have one as its value.
use Rattle.std.specs.Prelude.{◌≡◌, ℕ, zero, suc, ℤ, pos, negsuc, true, false, List, [], ◌∷◌, ◌++◌, refl}
use Rattle.std.specs.Coded.{Coded, code_by, coded×, coded_ℕ, coded_ℤ, coded_list}
use Rattle.std.proofs.Common.{◌∙◌, ap}
use Rattle.script_tree.specs.declared.expr.Unary.TheVariants.{Negate, Not}
use Rattle.script_tree.specs.declared.expr.Binary.{Binary}
use Rattle.script_tree.specs.declared.expr.Binary.TheVariants.{OrElse, Or, And, Equal, Unequal, Less, AtMost, Greater}
use Rattle.script_tree.specs.declared.expr.Binary.TheVariants.{AtLeast, Add, Subtract, Multiply, Divide, Remainder}
use Rattle.script_tree.specs.Tree.{Tree, Number, Constant, Input, Pick, Acc, Apply, Join, If}

abbrev pub Cells : Type 0
Cells = List (ℕ × ℤ)

abbrev pub number_of : Binary → ℕ
number_of OrElse = 0
number_of Or = 1
number_of And = 2
number_of Equal = 3
number_of Unequal = 4
number_of Less = 5
number_of AtMost = 6
number_of Greater = 7
number_of AtLeast = 8
number_of Add = 9
number_of Subtract = 10
number_of Multiply = 11
number_of Divide = 12
number_of Remainder = 13

abbrev pub nth : ℕ → List Binary → Binary
nth n [] = Remainder
nth zero (op ∷ ops) = op
nth (suc n) (op ∷ ops) = nth n ops

abbrev pub operator : ℕ → Binary
operator n = nth n (OrElse ∷ Or ∷ And ∷ Equal ∷ Unequal ∷ Less ∷ AtMost ∷ Greater ∷ AtLeast ∷ Add ∷ Subtract ∷ Multiply ∷ Divide
    ∷ Remainder ∷ [])

abbrev pub cells : Tree → Cells
cells (Number z) = (0, z) ∷ []
cells (Constant false) = (1, pos 0) ∷ []
cells (Constant true) = (2, pos 0) ∷ []
cells (Input i) = (3, pos i) ∷ []
cells Acc = (4, pos 0) ∷ []
cells (Pick i) = (5, pos i) ∷ []
cells (Apply Negate x) = cells x ++ (6, pos 0) ∷ []
cells (Apply Not x) = cells x ++ (7, pos 0) ∷ []
cells (Join op x y) = cells x ++ (cells y ++ (8, pos (number_of op)) ∷ [])
cells (If c x y) = cells c ++ (cells x ++ (cells y ++ (9, pos 0) ∷ []))

abbrev pub apply_top : (Tree → Tree) → List Tree → List Tree
apply_top f (x ∷ rest) = f x ∷ rest
apply_top f [] = []

abbrev pub join_top : (Tree → Tree → Tree) → List Tree → List Tree
join_top f (y ∷ x ∷ rest) = f x y ∷ rest
join_top f trees = trees

abbrev pub if_top : List Tree → List Tree
if_top (y ∷ x ∷ c ∷ rest) = If c x y ∷ rest
if_top trees = trees

abbrev pub natural : ℤ → ℕ
natural (pos n) = n
natural (negsuc n) = n

abbrev pub act : ℕ → ℤ → List Tree → List Tree
act zero z trees = Number z ∷ trees
act (suc zero) z trees = Constant false ∷ trees
act (suc (suc zero)) z trees = Constant true ∷ trees
act (suc (suc (suc zero))) z trees = Input (natural z) ∷ trees
act (suc (suc (suc (suc zero)))) z trees = Acc ∷ trees
act (suc (suc (suc (suc (suc zero))))) z trees = Pick (natural z) ∷ trees
act (suc (suc (suc (suc (suc (suc zero)))))) z trees = apply_top (Apply Negate) trees
act (suc (suc (suc (suc (suc (suc (suc zero))))))) z trees = apply_top (Apply Not) trees
act (suc (suc (suc (suc (suc (suc (suc (suc zero)))))))) z trees = join_top (Join (operator (natural z))) trees
act n z trees = if_top trees

abbrev pub built : Cells → List Tree → List Tree
built [] trees = trees
built (c ∷ cs) trees = built cs (act c.0 c.1 trees)

abbrev pub first : List Tree → Tree
first [] = Acc
first (t ∷ trees) = t

abbrev pub from_cells : Cells → Tree
from_cells cs = first (built cs [])

abbrev operator_back : (op : Binary) → operator (number_of op) ≡ op
operator_back OrElse = refl
operator_back Or = refl
operator_back And = refl
operator_back Equal = refl
operator_back Unequal = refl
operator_back Less = refl
operator_back AtMost = refl
operator_back Greater = refl
operator_back AtLeast = refl
operator_back Add = refl
operator_back Subtract = refl
operator_back Multiply = refl
operator_back Divide = refl
operator_back Remainder = refl

pub built_append : (a b : Cells) (trees : List Tree) → built (a ++ b) trees ≡ built b (built a trees)
built_append [] b trees = refl
built_append (c ∷ a) b trees = built_append a b (act c.0 c.1 trees)

pub built_back : (t : Tree) (trees : List Tree) → built (cells t) trees ≡ t ∷ trees
built_back (Number z) trees = refl
built_back (Constant false) trees = refl
built_back (Constant true) trees = refl
built_back (Input i) trees = refl
built_back Acc trees = refl
built_back (Pick i) trees = refl
built_back (Apply Negate x) trees = built_append (cells x) ((6, pos 0) ∷ []) trees ∙ ap (apply_top (Apply Negate)) (built_back x trees)
built_back (Apply Not x) trees = built_append (cells x) ((7, pos 0) ∷ []) trees ∙ ap (apply_top (Apply Not)) (built_back x trees)
built_back (Join op x y) trees =
    built_append (cells x) (cells y ++ (8, pos (number_of op)) ∷ []) trees
    ∙ built_append (cells y) ((8, pos (number_of op)) ∷ []) (built (cells x) trees)
    ∙ ap (λ s. join_top (Join (operator (number_of op))) (built (cells y) s)) (built_back x trees)
    ∙ ap (join_top (Join (operator (number_of op)))) (built_back y (x ∷ trees))
    ∙ ap (λ o. Join o x y ∷ trees) (operator_back op)
built_back (If c x y) trees =
    built_append (cells c) (cells x ++ (cells y ++ (9, pos 0) ∷ [])) trees
    ∙ built_append (cells x) (cells y ++ (9, pos 0) ∷ []) (built (cells c) trees)
    ∙ built_append (cells y) ((9, pos 0) ∷ []) (built (cells x) (built (cells c) trees))
    ∙ ap (λ s. if_top (built (cells y) (built (cells x) s))) (built_back c trees)
    ∙ ap (λ s. if_top (built (cells y) s)) (built_back x (c ∷ trees))
    ∙ ap if_top (built_back y (x ∷ c ∷ trees))

pub cells_back : (t : Tree) → from_cells (cells t) ≡ t
cells_back t = ap first (built_back t [])

abbrev pub tree_code : Coded Tree
tree_code = code_by Cells (coded_list (coded× coded_ℕ coded_ℤ)) cells from_cells cells_back
