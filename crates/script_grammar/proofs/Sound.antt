-- What is read is written so.
use Rattle.std.proofs.Common.{◌≡◌, ℕ, ◌+◌, ◌≤◌, Bool, true, false, List, [], ◌∷◌, ◌++◌, refl, ap, ◌∙◌, arith, append_assoc}
use Rattle.std.specs.Prelude.{nat_le, if◌then◌else◌}
use Rattle.std.proofs.lemmas.Bool.Decides.{nat_tests}
use Rattle.script_tree.specs.declared.expr.Unary.{Unary}
use Rattle.script_tree.specs.declared.expr.Binary.{Binary}
use Rattle.script_tree.specs.Tree.{Tree, Apply, Join, If}
use Rattle.script_grammar.specs.declared.token.Token.{Token}
use Rattle.script_grammar.specs.declared.token.Token.TheVariants.{Opens, Closes, IfWord, ThenWord, ElseWord}
use Rattle.script_grammar.specs.Grammar.{sign, prefix_sign, Written, Inside, Before, Between, Choice, tokens, tree, binds, left, level, IsScript}
use Rattle.script_grammar.specs.Reading.{InOpen, InPrefix, InRight, InTest, InThen, InElse, Stack, State, Wants, Has, need, settle, reduce, close}
use Rattle.script_grammar.proofs.Complete.{binds_within}

-- tokens that are one part, at this level or above
pub record Part (l : ℕ) (x : Tree) (text : List Token) : Type 0 where
  pub written : Written
  pub grammar : IsScript written
  pub at_least : l ≤ level written
  pub same : tokens written ≡ text
  pub tree_is : tree written ≡ x

-- the tokens that a stack was made of
abbrev pub Stacked : Stack → List Token → Type 0
Stacked [] ts = ts ≡ []
Stacked (InOpen ∷ s) ts = (a : List Token) × Stacked s a × (ts ≡ a ++ Opens ∷ [])
Stacked (InPrefix op ∷ s) ts = (a : List Token) × Stacked s a × (ts ≡ a ++ prefix_sign op ∷ [])
Stacked (InRight x op ∷ s) ts = (a : List Token) × (b : List Token) × Stacked s a × (need s ≤ binds op) × Part (left op) x b × (ts ≡ a ++ (b ++ sign op ∷ []))
Stacked (InTest ∷ s) ts = (a : List Token) × Stacked s a × (need s ≤ 0) × (ts ≡ a ++ IfWord ∷ [])
Stacked (InThen c ∷ s) ts = (a : List Token) × (b : List Token) × Stacked s a × (need s ≤ 0) × Part 0 c b × (ts ≡ a ++ IfWord ∷ (b ++ ThenWord ∷ []))
Stacked (InElse c x ∷ s) ts = (a : List Token) × (b : List Token) × (d : List Token) × Stacked s a × (need s ≤ 0) × Part 0 c b × Part 0 x d × (ts ≡ a ++ IfWord ∷ (b ++ ThenWord ∷ (d ++ ElseWord ∷ [])))

-- the tokens of a stack and an operand at this level or above
abbrev pub Holds : ℕ → State → List Token → Type 0
Holds l (Wants s) ts = Unit {0}
Holds l (Has s x) ts = (a : List Token) × (b : List Token) × Stacked s a × Part l x b × (ts ≡ a ++ b)

abbrev pub Says : State → List Token → Type 0
Says (Wants s) ts = Stacked s ts
Says (Has s x) ts = Holds 7 (Has s x) ts

pub need_small : (s : Stack) → need s ≤ 7
need_small [] = omega arith
need_small (InOpen ∷ s) = omega arith
need_small (InPrefix op ∷ s) = omega arith
need_small (InRight x op ∷ s) = let w = binds_within op in omega (arith, w.1)
need_small (InTest ∷ s) = omega arith
need_small (InThen c ∷ s) = omega arith
need_small (InElse c x ∷ s) = omega arith

pub between : (op : Binary) (y x : Tree) (b d : List Token) → Part (left op) y b → Part (binds op + 1) x d → Part (binds op) (Join op y x) (b ++ sign op ∷ d)
between op y x b d p q = record {
  written = Between op p.written q.written;
  grammar = (p.at_least, omega (arith, q.at_least), p.grammar, q.grammar);
  at_least = omega arith;
  same = ap (λ z. z ++ sign op ∷ tokens q.written) p.same ∙ ap (λ z. b ++ sign op ∷ z) q.same;
  tree_is = ap (λ z. Join op z (tree q.written)) p.tree_is ∙ ap (λ z. Join op y z) q.tree_is;
}

pub choice : (c y x : Tree) (b d e : List Token) → Part 0 c b → Part 0 y d → Part 0 x e → Part 0 (If c y x) (IfWord ∷ (b ++ ThenWord ∷ (d ++ ElseWord ∷ e)))
choice c y x b d e p q r = record {
  written = Choice p.written q.written r.written;
  grammar = (p.grammar, q.grammar, r.grammar);
  at_least = omega arith;
  same = ap (λ z. IfWord ∷ (z ++ ThenWord ∷ (tokens q.written ++ ElseWord ∷ tokens r.written))) p.same
      ∙ ap (λ z. IfWord ∷ (b ++ ThenWord ∷ (z ++ ElseWord ∷ tokens r.written))) q.same
      ∙ ap (λ z. IfWord ∷ (b ++ ThenWord ∷ (d ++ ElseWord ∷ z))) r.same;
  tree_is = ap (λ z. If z (tree q.written) (tree r.written)) p.tree_is ∙ ap (λ z. If c z (tree r.written)) q.tree_is ∙ ap (λ z. If c y z) r.tree_is;
}

pub before : (op : Unary) (x : Tree) (b : List Token) → Part 7 x b → Part 7 (Apply op x) (prefix_sign op ∷ b)
before op x b p = record {
  written = Before op p.written;
  grammar = (p.at_least, p.grammar);
  at_least = omega arith;
  same = ap (λ z. prefix_sign op ∷ z) p.same;
  tree_is = ap (Apply op) p.tree_is;
}

pub inside : (x : Tree) (b : List Token) → Part 0 x b → Part 7 x (Opens ∷ (b ++ Closes ∷ []))
inside x b p = record {
  written = Inside p.written;
  grammar = p.grammar;
  at_least = omega arith;
  same = ap (λ z. Opens ∷ (z ++ Closes ∷ [])) p.same;
  tree_is = p.tree_is;
}

pub weaker : (m l : ℕ) (x : Tree) (b : List Token) → l ≤ m → Part m x b → Part l x b
weaker m l x b le p = record { written = p.written; grammar = p.grammar; at_least = omega (arith, p.at_least); same = p.same; tree_is = p.tree_is }

pub settle_says : (s : Stack) (x : Tree) (a b ts : List Token) → Stacked s a → Part 7 x b → ts ≡ a ++ b → Says (settle s x) ts
settle_says [] x a b ts st p e = (a, b, st, p, e)
settle_says (InOpen ∷ s) x a b ts st p e = (a, b, st, p, e)
settle_says (InPrefix op ∷ s) x a b ts st p e =
    settle_says s (Apply op x) st.0 (prefix_sign op ∷ b) ts st.1 (before op x b p) (e ∙ ap (λ z. z ++ b) st.2 ∙ simp append_assoc)
settle_says (InRight y op ∷ s) x a b ts st p e = (a, b, st, p, e)
settle_says (InTest ∷ s) x a b ts st p e = (a, b, st, p, e)
settle_says (InThen c ∷ s) x a b ts st p e = (a, b, st, p, e)
settle_says (InElse c y ∷ s) x a b ts st p e = (a, b, st, p, e)

pub reduce_says : (l m : ℕ) (s : Stack) (x : Tree) (a b ts : List Token) → l ≤ m → need s ≤ m → Stacked s a → Part m x b → ts ≡ a ++ b → Holds l (reduce l s x) ts
reduce_says l m [] x a b ts le n st p e = (a, b, st, weaker m l x b le p, e)
reduce_says l m (InOpen ∷ s) x a b ts le n st p e = (a, b, st, weaker m l x b le p, e)
reduce_says l m (InPrefix op ∷ s) x a b ts le n st p e = (a, b, st, weaker m l x b le p, e)
reduce_says l m (InRight y op ∷ s) x a b ts le n st p e =
    let all = reduce_says l (binds op) s (Join op y x) st.0 (st.1 ++ sign op ∷ b) ts in
    chosen (nat_le l (binds op)) refl (λ h. all (le_from l (binds op) h) st.3 st.2 (between op y x st.1 b st.4 (weaker m (binds op + 1) x b n p)) (e ∙ ap (λ z. z ++ b) st.5 ∙ simp append_assoc))
  where
    le_from : (i j : ℕ) → nat_le i j ≡ true → i ≤ j
    le_from i j h = grind (arith, nat_tests)

    chosen : (t : Bool) → t ≡ nat_le l (binds op) → (t ≡ true → Holds l (reduce l s (Join op y x)) ts) → Holds l (if t then reduce l s (Join op y x) else Has (InRight y op ∷ s) x) ts
    chosen true h f = f refl
    chosen false h f = (a, b, st, weaker m l x b le p, e)
reduce_says l m (InTest ∷ s) x a b ts le n st p e = (a, b, st, weaker m l x b le p, e)
reduce_says l m (InThen c ∷ s) x a b ts le n st p e = (a, b, st, weaker m l x b le p, e)
reduce_says l m (InElse c y ∷ s) x a b ts le n st p e = (a, b, st, weaker m l x b le p, e)

pub close_says : (m : ℕ) (s : Stack) (x : Tree) (a b ts : List Token) → need s ≤ m → Stacked s a → Part m x b → ts ≡ a ++ b → Holds 0 (close s x) ts
close_says m [] x a b ts n st p e = (a, b, st, weaker m 0 x b (omega arith) p, e)
close_says m (InOpen ∷ s) x a b ts n st p e = (a, b, st, weaker m 0 x b (omega arith) p, e)
close_says m (InPrefix op ∷ s) x a b ts n st p e = (a, b, st, weaker m 0 x b (omega arith) p, e)
close_says m (InRight y op ∷ s) x a b ts n st p e =
    close_says (binds op) s (Join op y x) st.0 (st.1 ++ sign op ∷ b) ts st.3 st.2 (between op y x st.1 b st.4 (weaker m (binds op + 1) x b n p)) (e ∙ ap (λ z. z ++ b) st.5 ∙ simp append_assoc)
close_says m (InTest ∷ s) x a b ts n st p e = (a, b, st, weaker m 0 x b (omega arith) p, e)
close_says m (InThen c ∷ s) x a b ts n st p e = (a, b, st, weaker m 0 x b (omega arith) p, e)
close_says m (InElse c y ∷ s) x a b ts n st p e =
    close_says 0 s (If c y x) st.0 (IfWord ∷ (st.1 ++ ThenWord ∷ (st.2 ++ ElseWord ∷ b))) ts st.4 st.3 (choice c y x st.1 st.2 b st.5 st.6 (weaker m 0 x b (omega arith) p)) (e ∙ ap (λ z. z ++ b) st.7 ∙ simp append_assoc)
