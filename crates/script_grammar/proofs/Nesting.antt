-- The reader knows each token's nesting.
use Rattle.std.proofs.Common.{◌≡◌, ℕ, ◌+◌, ◌≤◌, List, [], ◌∷◌, ◌++◌, Option, Some, None, refl, ap, ◌∙◌, arith}
use Rattle.std.specs.Prelude.{if◌then◌else◌}
use Rattle.std.proofs.lemmas.Bool.{le-leb}
use Rattle.script_tree.specs.declared.expr.Unary.{Unary}
use Rattle.script_tree.specs.declared.expr.Unary.TheVariants.{Negate, Not}
use Rattle.script_tree.specs.declared.expr.Binary.{Binary}
use Rattle.script_tree.specs.declared.expr.Binary.TheVariants.{OrElse, Or, And, Equal, Unequal, Less, AtMost, Greater, AtLeast, Add, Subtract, Multiply, Divide, Remainder}
use Rattle.script_tree.specs.Tree.{Tree, Join}
use Rattle.script_grammar.specs.declared.token.Token.{Token}
use Rattle.script_grammar.specs.declared.token.Token.TheVariants.{Closes, ThenWord, ElseWord}
use Rattle.script_grammar.specs.Grammar.{sign, Written, Plain, Inside, Before, Between, Choice, tokens, tree, binds, left, level, IsScript}
use Rattle.script_grammar.specs.Reading.{InOpen, InPrefix, InRight, InTest, InThen, InElse, Stack, State, Wants, Has, need, settle, reduce, close, operate, on_close, on_then, on_else, step, run}
use Rattle.script_grammar.specs.Grammar.{nested}
use Rattle.script_grammar.specs.Nesting.{count, count_of, nesting, nests}
use Rattle.script_grammar.proofs.Complete.{run_append, binds_within, step_sign, takes}

pub nests_append : (o : Option State) (a b : List Token) → nests o (a ++ b) ≡ nests o a ++ nests (run o a) b
nests_append None a b = refl
nests_append (Some st) [] b = refl
nests_append (Some st) (t ∷ a) b = ap (λ z. nesting st t ∷ z) (nests_append (step st t) a b)

at_sign : (op : Binary) (s : Stack) (x : Tree) → nesting (Has s x) (sign op) ≡ count s
at_sign OrElse s x = refl
at_sign Or s x = refl
at_sign And s x = refl
at_sign Equal s x = refl
at_sign Unequal s x = refl
at_sign Less s x = refl
at_sign AtMost s x = refl
at_sign Greater s x = refl
at_sign AtLeast s x = refl
at_sign Add s x = refl
at_sign Subtract s x = refl
at_sign Multiply s x = refl
at_sign Divide s x = refl
at_sign Remainder s x = refl

-- reading a script on a stack
pub record Nested (s : Stack) (w : Written) : Type 0 where
  pub stack : Stack
  pub top : Tree
  pub reads : run (Some (Wants s)) (tokens w) ≡ Some (Has stack top)
  pub reduces : (l : ℕ) → 1 ≤ l → l ≤ level w → reduce l stack top ≡ reduce l s (tree w)
  pub closes : close stack top ≡ close s (tree w)
  pub counts : 1 ≤ level w → count stack ≡ count s
  pub nests_are : nests (Some (Wants s)) (tokens w) ≡ nested (count s) w

pub record Tight (s : Stack) (w : Written) : Type 0 where
  pub reads : run (Some (Wants s)) (tokens w) ≡ Some (settle s (tree w))
  pub nests_are : nests (Some (Wants s)) (tokens w) ≡ nested (count s) w

from_tight : (s : Stack) (w : Written) → ((x : Tree) → settle s x ≡ Has s x) → Tight s w → Nested s w
from_tight s w loose e = record {
  stack = s;
  top = tree w;
  reads = e.reads ∙ ap Some (loose (tree w));
  reduces = λ l a b. refl;
  closes = refl;
  counts = λ h. refl;
  nests_are = e.nests_are;
}

inside_read : (w : Written) (s : Stack) → Nested (InOpen ∷ s) w → Tight s (Inside w)
inside_read w s r = record {
  reads = run_append (Some (Wants (InOpen ∷ s))) (tokens w) (Closes ∷ [])
      ∙ ap (λ o. run o (Closes ∷ [])) r.reads
      ∙ ap (λ st. run (on_close st) []) r.closes;
  nests_are = ap (λ z. count s ∷ z) (nests_append (Some (Wants (InOpen ∷ s))) (tokens w) (Closes ∷ [])
      ∙ ap (λ z. z ++ nests (run (Some (Wants (InOpen ∷ s))) (tokens w)) (Closes ∷ [])) r.nests_are
      ∙ ap (λ o. nested (count s + 1) w ++ nests o (Closes ∷ [])) r.reads
      ∙ ap (λ st. nested (count s + 1) w ++ count_of st ∷ nests (on_close st) []) r.closes
      ∙ refl);
}

before_read : (op : Unary) (w : Written) (s : Stack) → Tight (InPrefix op ∷ s) w → Tight s (Before op w)
before_read Negate w s r = record { reads = r.reads; nests_are = ap (λ z. count s ∷ z) r.nests_are }
before_read Not w s r = record { reads = r.reads; nests_are = ap (λ z. count s ∷ z) r.nests_are }

plain_read : (word : _) (s : Stack) → Tight s (Plain word)
plain_read word s = record { reads = refl; nests_are = refl }

mutual
  pub tight : (w : Written) (s : Stack) → IsScript w → 7 ≤ level w → Tight s w
  tight (Plain word) s g h = plain_read word s
  tight (Inside w) s g h = inside_read w s (reading w (InOpen ∷ s) g (omega arith) (λ x. refl))
  tight (Before op w) s g h = before_read op w s (tight w (InPrefix op ∷ s) g.1 g.0)
  tight (Between op a b) s g h = let w = binds_within op in absurd (omega (arith, w.1))
  tight (Choice c a b) s g h = absurd (omega arith)

  pub reading : (w : Written) (s : Stack) → IsScript w → need s ≤ level w → ((x : Tree) → settle s x ≡ Has s x) → Nested s w
  reading (Plain word) s g h loose = from_tight s (Plain word) loose (plain_read word s)
  reading (Inside w) s g h loose = from_tight s (Inside w) loose (inside_read w s (reading w (InOpen ∷ s) g (omega arith) (λ x. refl)))
  reading (Before op w) s g h loose = from_tight s (Before op w) loose (before_read op w s (tight w (InPrefix op ∷ s) g.1 g.0))
  reading (Between op a b) s g h loose =
      let within = binds_within op in
      let ra = reading a s g.2 (omega (arith, within.2, g.0)) loose in
      let rb = reading b (InRight (tree a) op ∷ s) g.3 (omega (arith, g.1)) (λ x. refl) in
      let go = step_sign op ra.stack ra.top
      ∙ ap (operate op) (ra.reduces (left op) (omega (arith, within.0, within.2)) g.0)
      ∙ takes op s (tree a) h in
      record {
        stack = rb.stack;
        top = rb.top;
        reads = run_append (Some (Wants s)) (tokens a) (sign op ∷ tokens b)
            ∙ ap (λ o. run o (sign op ∷ tokens b)) ra.reads
            ∙ ap (λ o. run o (tokens b)) go
            ∙ rb.reads;
        reduces = λ l one le.
            rb.reduces l one (omega (arith, g.1))
            ∙ ap (λ t. if t then reduce l s (Join op (tree a) (tree b)) else Has (InRight (tree a) op ∷ s) (tree b)) (le-leb l (binds op) le);
        closes = rb.closes;
        counts = λ one. rb.counts (omega (arith, g.1));
        nests_are = nests_append (Some (Wants s)) (tokens a) (sign op ∷ tokens b)
            ∙ ap (λ z. z ++ nests (run (Some (Wants s)) (tokens a)) (sign op ∷ tokens b)) ra.nests_are
            ∙ ap (λ o. nested (count s) a ++ nests o (sign op ∷ tokens b)) ra.reads
            ∙ ap (λ d. nested (count s) a ++ d ∷ nests (step (Has ra.stack ra.top) (sign op)) (tokens b)) (at_sign op ra.stack ra.top ∙ ra.counts (omega (arith, within.0, within.2, g.0)))
            ∙ ap (λ o. nested (count s) a ++ count s ∷ nests o (tokens b)) go
            ∙ ap (λ z. nested (count s) a ++ count s ∷ z) rb.nests_are;
      }
  reading (Choice c a b) s g h loose =
      let rc = reading c (InTest ∷ s) g.0 (omega arith) (λ x. refl) in
      let ra = reading a (InThen (tree c) ∷ s) g.1 (omega arith) (λ x. refl) in
      let rb = reading b (InElse (tree c) (tree a) ∷ s) g.2 (omega arith) (λ x. refl) in
      let first = ap (λ t. if t then Some (Wants (InTest ∷ s)) else None) (le-leb (need s) 0 h) in
      let last = ElseWord ∷ tokens b in
      let rest = ThenWord ∷ (tokens a ++ last) in
      let d = count s + 1 in
      record {
        stack = rb.stack;
        top = rb.top;
        reads = ap (λ o. run o (tokens c ++ rest)) first
            ∙ run_append (Some (Wants (InTest ∷ s))) (tokens c) rest
            ∙ ap (λ o. run o rest) rc.reads
            ∙ ap (λ st. run (on_then st) (tokens a ++ last)) rc.closes
            ∙ run_append (Some (Wants (InThen (tree c) ∷ s))) (tokens a) last
            ∙ ap (λ o. run o last) ra.reads
            ∙ ap (λ st. run (on_else st) (tokens b)) ra.closes
            ∙ rb.reads;
        reduces = λ l one le. absurd (omega arith);
        closes = rb.closes;
        counts = λ one. absurd (omega arith);
        nests_are = ap (λ z. count s ∷ z) (ap (λ o. nests o (tokens c ++ rest)) first
            ∙ nests_append (Some (Wants (InTest ∷ s))) (tokens c) rest
            ∙ ap (λ z. z ++ nests (run (Some (Wants (InTest ∷ s))) (tokens c)) rest) rc.nests_are
            ∙ ap (λ o. nested d c ++ nests o rest) rc.reads
            ∙ ap (λ st. nested d c ++ count_of st ∷ nests (on_then st) (tokens a ++ last)) rc.closes
            ∙ ap (λ z. nested d c ++ d ∷ z) (nests_append (Some (Wants (InThen (tree c) ∷ s))) (tokens a) last
            ∙ ap (λ z. z ++ nests (run (Some (Wants (InThen (tree c) ∷ s))) (tokens a)) last) ra.nests_are
            ∙ ap (λ o. nested d a ++ nests o last) ra.reads
            ∙ ap (λ st. nested d a ++ count_of st ∷ nests (on_else st) (tokens b)) ra.closes
            ∙ ap (λ z. nested d a ++ d ∷ z) rb.nests_are));
      }

-- The reader sees each token's nesting.
pub nests_are : (w : Written) → IsScript w → nests (Some (Wants [])) (tokens w) ≡ nested 0 w
nests_are w g = (reading w [] g (omega arith) (λ x. refl)).nests_are
