-- What is written is read as its tree.
use Rattle.std.proofs.Common.{◌≡◌, ℕ, ◌≤◌, List, [], ◌∷◌, ◌++◌, Option, Some, None, refl, ap, ◌∙◌, arith}
use Rattle.std.specs.Prelude.{if◌then◌else◌}
use Rattle.std.proofs.lemmas.Bool.{le-leb, lt-leb}
use Rattle.script_tree.specs.declared.expr.Unary.{Unary}
use Rattle.script_tree.specs.declared.expr.Unary.TheVariants.{Negate, Not}
use Rattle.script_tree.specs.declared.expr.Binary.{Binary}
use Rattle.script_tree.specs.declared.expr.Binary.TheVariants.{OrElse, Or, And, Equal, Unequal, Less, AtMost, Greater, AtLeast, Add, Subtract, Multiply, Divide, Remainder}
use Rattle.script_tree.specs.Tree.{Tree, Apply, Join}
use Rattle.script_grammar.specs.declared.token.Token.{Token}
use Rattle.script_grammar.specs.declared.token.Token.TheVariants.{Closes, ThenWord, ElseWord}
use Rattle.script_grammar.specs.Grammar.{sign, Written, Plain, Inside, Before, Between, Choice, tokens, tree, binds, left, level, IsScript}
use Rattle.script_grammar.specs.Reading.{InOpen, InPrefix, InRight, InTest, InThen, InElse, Stack, State, Wants, Has, need, settle, reduce, close, operate, on_close, on_then, on_else, step, run, ended, finish, read}

pub run_append : (o : Option State) (a b : List Token) → run o (a ++ b) ≡ run (run o a) b
run_append None a b = refl
run_append (Some st) [] b = refl
run_append (Some st) (t ∷ a) b = run_append (step st t) a b

-- what the table of levels has
pub binds_within : (op : Binary) → (1 ≤ binds op) × (binds op ≤ 6) × (binds op ≤ left op)
binds_within OrElse = (omega arith, omega arith, omega arith)
binds_within Or = (omega arith, omega arith, omega arith)
binds_within And = (omega arith, omega arith, omega arith)
binds_within Equal = (omega arith, omega arith, omega arith)
binds_within Unequal = (omega arith, omega arith, omega arith)
binds_within Less = (omega arith, omega arith, omega arith)
binds_within AtMost = (omega arith, omega arith, omega arith)
binds_within Greater = (omega arith, omega arith, omega arith)
binds_within AtLeast = (omega arith, omega arith, omega arith)
binds_within Add = (omega arith, omega arith, omega arith)
binds_within Subtract = (omega arith, omega arith, omega arith)
binds_within Multiply = (omega arith, omega arith, omega arith)
binds_within Divide = (omega arith, omega arith, omega arith)
binds_within Remainder = (omega arith, omega arith, omega arith)

pub step_sign : (op : Binary) (s : Stack) (x : Tree) → step (Has s x) (sign op) ≡ operate op (reduce (left op) s x)
step_sign OrElse s x = refl
step_sign Or s x = refl
step_sign And s x = refl
step_sign Equal s x = refl
step_sign Unequal s x = refl
step_sign Less s x = refl
step_sign AtMost s x = refl
step_sign Greater s x = refl
step_sign AtLeast s x = refl
step_sign Add s x = refl
step_sign Subtract s x = refl
step_sign Multiply s x = refl
step_sign Divide s x = refl
step_sign Remainder s x = refl

-- an operator that is allowed on a stack reduces nothing of it
stays : (l : ℕ) (s : Stack) (x : Tree) → need s ≤ l → reduce l s x ≡ Has s x
stays l [] x h = refl
stays l (InOpen ∷ s) x h = refl
stays l (InPrefix op ∷ s) x h = refl
stays l (InRight y op ∷ s) x h = ap (λ b. if b then reduce l s (Join op y x) else Has (InRight y op ∷ s) x) (lt-leb l (binds op) (omega arith))
stays l (InTest ∷ s) x h = refl
stays l (InThen c ∷ s) x h = refl
stays l (InElse c y ∷ s) x h = refl

pub takes : (op : Binary) (s : Stack) (x : Tree) → need s ≤ binds op → operate op (reduce (left op) s x) ≡ Some (Wants (InRight x op ∷ s))
takes op s x h =
    let within = binds_within op in
    ap (operate op) (stays (left op) s x (omega (arith, within.2)))
    ∙ ap (λ b. if b then Some (Wants (InRight x op ∷ s)) else None) (le-leb (need s) (binds op) h)

-- reading a script on a stack
pub record Reads (s : Stack) (w : Written) : Type 0 where
  pub stack : Stack
  pub top : Tree
  pub reads : run (Some (Wants s)) (tokens w) ≡ Some (Has stack top)
  pub reduces : (l : ℕ) → 1 ≤ l → l ≤ level w → reduce l stack top ≡ reduce l s (tree w)
  pub closes : close stack top ≡ close s (tree w)

IsLoose : Stack → Type 0
IsLoose s = (x : Tree) → settle s x ≡ Has s x

from_tight : (s : Stack) (w : Written) → ((x : Tree) → settle s x ≡ Has s x) → run (Some (Wants s)) (tokens w) ≡ Some (settle s (tree w)) → Reads s w
from_tight s w loose e = record {
  stack = s;
  top = tree w;
  reads = e ∙ ap Some (loose (tree w));
  reduces = λ l a b. refl;
  closes = refl;
}

inside_read : (w : Written) (s : Stack) → Reads (InOpen ∷ s) w → run (Some (Wants s)) (tokens (Inside w)) ≡ Some (settle s (tree w))
inside_read w s r =
    run_append (Some (Wants (InOpen ∷ s))) (tokens w) (Closes ∷ [])
    ∙ ap (λ o. run o (Closes ∷ [])) r.reads
    ∙ ap (λ st. run (on_close st) []) r.closes

before_read : (op : Unary) (w : Written) (s : Stack) → run (Some (Wants (InPrefix op ∷ s))) (tokens w) ≡ Some (settle s (Apply op (tree w))) → run (Some (Wants s)) (tokens (Before op w)) ≡ Some (settle s (Apply op (tree w)))
before_read Negate w s r = r
before_read Not w s r = r

mutual
  pub tight : (w : Written) (s : Stack) → IsScript w → 7 ≤ level w → run (Some (Wants s)) (tokens w) ≡ Some (settle s (tree w))
  tight (Plain word) s g h = refl
  tight (Inside w) s g h = inside_read w s (reading w (InOpen ∷ s) g (omega arith) (λ x. refl))
  tight (Before op w) s g h = before_read op w s (tight w (InPrefix op ∷ s) g.1 g.0)
  tight (Between op a b) s g h = let w = binds_within op in absurd (omega (arith, w.1))
  tight (Choice c a b) s g h = absurd (omega arith)

  pub reading : (w : Written) (s : Stack) → IsScript w → need s ≤ level w → ((x : Tree) → settle s x ≡ Has s x) → Reads s w
  reading (Plain word) s g h loose = from_tight s (Plain word) loose refl
  reading (Inside w) s g h loose = from_tight s (Inside w) loose (inside_read w s (reading w (InOpen ∷ s) g (omega arith) (λ x. refl)))
  reading (Before op w) s g h loose = from_tight s (Before op w) loose (before_read op w s (tight w (InPrefix op ∷ s) g.1 g.0))
  reading (Between op a b) s g h loose =
      let within = binds_within op in
      let ra = reading a s g.2 (omega (arith, within.2, g.0)) loose in
      let rb = reading b (InRight (tree a) op ∷ s) g.3 (omega (arith, g.1)) (λ x. refl) in
      record {
        stack = rb.stack;
        top = rb.top;
        reads = run_append (Some (Wants s)) (tokens a) (sign op ∷ tokens b)
            ∙ ap (λ o. run o (sign op ∷ tokens b)) ra.reads
            ∙ ap (λ o. run o (tokens b)) (step_sign op ra.stack ra.top
            ∙ ap (operate op) (ra.reduces (left op) (omega (arith, within.0, within.2)) g.0)
            ∙ takes op s (tree a) h)
            ∙ rb.reads;
        reduces = λ l one le.
            rb.reduces l one (omega (arith, g.1))
            ∙ ap (λ t. if t then reduce l s (Join op (tree a) (tree b)) else Has (InRight (tree a) op ∷ s) (tree b)) (le-leb l (binds op) le);
        closes = rb.closes;
      }
  reading (Choice c a b) s g h loose =
      let rc = reading c (InTest ∷ s) g.0 (omega arith) (λ x. refl) in
      let ra = reading a (InThen (tree c) ∷ s) g.1 (omega arith) (λ x. refl) in
      let rb = reading b (InElse (tree c) (tree a) ∷ s) g.2 (omega arith) (λ x. refl) in
      record {
        stack = rb.stack;
        top = rb.top;
        reads = ap (λ t. run (if t then Some (Wants (InTest ∷ s)) else None) (tokens c ++ ThenWord ∷ (tokens a ++ ElseWord ∷ tokens b))) (le-leb (need s) 0 h)
            ∙ run_append (Some (Wants (InTest ∷ s))) (tokens c) (ThenWord ∷ (tokens a ++ ElseWord ∷ tokens b))
            ∙ ap (λ o. run o (ThenWord ∷ (tokens a ++ ElseWord ∷ tokens b))) rc.reads
            ∙ ap (λ st. run (on_then st) (tokens a ++ ElseWord ∷ tokens b)) rc.closes
            ∙ run_append (Some (Wants (InThen (tree c) ∷ s))) (tokens a) (ElseWord ∷ tokens b)
            ∙ ap (λ o. run o (ElseWord ∷ tokens b)) ra.reads
            ∙ ap (λ st. run (on_else st) (tokens b)) ra.closes
            ∙ rb.reads;
        reduces = λ l one le. absurd (omega arith);
        closes = rb.closes;
      }

-- What is written is read, as its tree.
pub complete : (w : Written) → IsScript w → read (tokens w) ≡ Some (tree w)
complete w g =
    let r = reading w [] g (omega arith) (λ x. refl) in
    ap finish r.reads ∙ ap ended r.closes
