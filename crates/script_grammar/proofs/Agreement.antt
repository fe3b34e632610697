-- The grammar and the reader agree.
use Rattle.std.proofs.Common.{◌≡◌, ℕ, ◌+◌, ◌≤◌, Bool, true, false, List, [], ◌∷◌, ◌++◌, length, take, Option, Some, None, refl, sym, ap, ◌∙◌, subst, arith, append_assoc, length-append}
use Rattle.std.specs.Prelude.{nat_le, if◌then◌else◌}
use Rattle.std.proofs.lemmas.List.{append-nil, take_at}
use Rattle.std.proofs.lemmas.Bool.{leb-true}
use Rattle.script_tree.specs.declared.expr.Unary.TheVariants.{Negate, Not}
use Rattle.script_tree.specs.declared.expr.Binary.{Binary}
use Rattle.script_tree.specs.declared.expr.Binary.TheVariants.{OrElse, Or, And, Equal, Unequal, Less, AtMost, Greater, AtLeast, Add, Subtract, Multiply, Divide, Remainder}
use Rattle.script_tree.specs.Tree.{Tree, Constant, Apply, Join, If}
use Rattle.script_grammar.specs.declared.token.Word.TheVariants.{Yes}
use Rattle.script_grammar.specs.declared.token.Token.{Token}
use Rattle.script_grammar.specs.declared.token.Token.TheVariants.{Plain as W, Sign, Minus, Bang, Opens, Closes, IfWord, ThenWord, ElseWord}
use Rattle.script_grammar.specs.Grammar.{sign, prefix_sign, Plain, binds, left, word_tree, Spells, Begins, FirstFault}
use Rattle.script_grammar.specs.Reading.{InOpen, InPrefix, InRight, InTest, InThen, InElse, Stack, State, Wants, Has, need, settle, reduce, close, operate, on_close, on_then, on_else, step, run, ended, finish, read}
use Rattle.script_grammar.proofs.Complete.{complete, reading, run_append}
use Rattle.script_grammar.proofs.Sound.{Part, Stacked, Holds, Says, need_small, between, choice, before, inside, weaker, settle_says, reduce_says, close_says}

if_some : {A : Type 0} (t : Bool) (x y : A) → (if t then Some x else None) ≡ Some y → (t ≡ true) × (x ≡ y)
if_some true x y e = (refl, cc)
if_some false x y e = cc

says_some : (st st' : State) (ts : List Token) → Some st ≡ Some st' → Says st ts → Says st' ts
says_some st st' ts e h = let eq : st ≡ st' = cc in subst (λ z. Says z ts) eq h

operate_says : (op : Binary) (st st' : State) (ts : List Token) → Holds (left op) st ts → operate op st ≡ Some st' → Says st' (ts ++ sign op ∷ [])
operate_says op (Wants s) st' ts h e = cc
operate_says op (Has s x) st' ts h e =
    let found = if_some (nat_le (need s) (binds op)) (Wants (InRight x op ∷ s)) st' e in
    subst (λ z. Says z (ts ++ sign op ∷ [])) found.1
    (h.0, h.1, h.2, leb-true (need s) (binds op) found.0, h.3, ap (λ z. z ++ sign op ∷ []) h.4 ∙ simp append_assoc)

on_close_says : (st st' : State) (ts : List Token) → Holds 0 st ts → on_close st ≡ Some st' → Says st' (ts ++ Closes ∷ [])
on_close_says (Has (InOpen ∷ s) x) st' ts h e =
    says_some (settle s x) st' _ e (settle_says s x h.2.0 (Opens ∷ (h.1 ++ Closes ∷ [])) (ts ++ Closes ∷ []) h.2.1 (inside x h.1 h.3) (ap (λ z. z ++ Closes ∷ []) (h.4 ∙ ap (λ z. z ++ h.1) h.2.2) ∙ simp append_assoc))
on_close_says st st' ts h e = cc

on_then_says : (st st' : State) (ts : List Token) → Holds 0 st ts → on_then st ≡ Some st' → Says st' (ts ++ ThenWord ∷ [])
on_then_says (Has (InTest ∷ s) x) st' ts h e =
    says_some (Wants (InThen x ∷ s)) st' _ e (h.2.0, h.1, h.2.1, h.2.2, h.3, ap (λ z. z ++ ThenWord ∷ []) (h.4 ∙ ap (λ z. z ++ h.1) h.2.3) ∙ simp append_assoc)
on_then_says st st' ts h e = cc

on_else_says : (st st' : State) (ts : List Token) → Holds 0 st ts → on_else st ≡ Some st' → Says st' (ts ++ ElseWord ∷ [])
on_else_says (Has (InThen c ∷ s) x) st' ts h e =
    says_some (Wants (InElse c x ∷ s)) st' _ e (h.2.0, h.2.1, h.1, h.2.2, h.2.3, h.2.4, h.3, ap (λ z. z ++ ElseWord ∷ []) (h.4 ∙ ap (λ z. z ++ h.1) h.2.5) ∙ simp append_assoc)
on_else_says st st' ts h e = cc

word_part : (word : _) → Part 7 (word_tree word) (W word ∷ [])
word_part word = record { written = Plain word; grammar = tt; at_least = omega arith; same = refl; tree_is = refl }

pub left_small : (op : Binary) → left op ≤ 7
left_small OrElse = omega arith
left_small Or = omega arith
left_small And = omega arith
left_small Equal = omega arith
left_small Unequal = omega arith
left_small Less = omega arith
left_small AtMost = omega arith
left_small Greater = omega arith
left_small AtLeast = omega arith
left_small Add = omega arith
left_small Subtract = omega arith
left_small Multiply = omega arith
left_small Divide = omega arith
left_small Remainder = omega arith

reduced : (op : Binary) (s : Stack) (x : Tree) (ts : List Token) → Says (Has s x) ts → Holds (left op) (reduce (left op) s x) ts
reduced op s x ts h = reduce_says (left op) 7 s x h.0 h.1 ts (left_small op) (need_small s) h.2 h.3 h.4

closed : (s : Stack) (x : Tree) (ts : List Token) → Says (Has s x) ts → Holds 0 (close s x) ts
closed s x ts h = close_says 7 s x h.0 h.1 ts (need_small s) h.2 h.3 h.4

-- a sign and its operator
sign_says : (op : Binary) (s : Stack) (x : Tree) (st' : State) (ts : List Token) → Says (Has s x) ts → step (Has s x) (Sign op) ≡ Some st' → (sign op ≡ Sign op) × (step (Has s x) (Sign op) ≡ operate op (reduce (left op) s x))
sign_says Subtract s x st' ts h e = cc
sign_says OrElse s x st' ts h e = (refl, refl)
sign_says Or s x st' ts h e = (refl, refl)
sign_says And s x st' ts h e = (refl, refl)
sign_says Equal s x st' ts h e = (refl, refl)
sign_says Unequal s x st' ts h e = (refl, refl)
sign_says Less s x st' ts h e = (refl, refl)
sign_says AtMost s x st' ts h e = (refl, refl)
sign_says Greater s x st' ts h e = (refl, refl)
sign_says AtLeast s x st' ts h e = (refl, refl)
sign_says Add s x st' ts h e = (refl, refl)
sign_says Multiply s x st' ts h e = (refl, refl)
sign_says Divide s x st' ts h e = (refl, refl)
sign_says Remainder s x st' ts h e = (refl, refl)

pub step_says : (st : State) (t : Token) (ts : List Token) (st' : State) → Says st ts → step st t ≡ Some st' → Says st' (ts ++ t ∷ [])
step_says (Wants s) (W word) ts st' h e = says_some (settle s (word_tree word)) st' _ e (settle_says s (word_tree word) ts (W word ∷ []) _ h (word_part word) refl)
step_says (Wants s) Minus ts st' h e = says_some (Wants (InPrefix Negate ∷ s)) st' _ e (ts, h, refl)
step_says (Wants s) Bang ts st' h e = says_some (Wants (InPrefix Not ∷ s)) st' _ e (ts, h, refl)
step_says (Wants s) Opens ts st' h e = says_some (Wants (InOpen ∷ s)) st' _ e (ts, h, refl)
step_says (Wants s) IfWord ts st' h e =
    let found = if_some (nat_le (need s) 0) (Wants (InTest ∷ s)) st' e in
    subst (λ z. Says z (ts ++ IfWord ∷ [])) found.1 (ts, h, leb-true (need s) 0 found.0, refl)
step_says (Wants s) t ts st' h e = cc
step_says (Has s x) (Sign op) ts st' h e =
    let is = sign_says op s x st' ts h e in
    subst (λ z. Says st' (ts ++ z ∷ [])) is.0 (operate_says op (reduce (left op) s x) st' ts (reduced op s x ts h) (sym is.1 ∙ e))
step_says (Has s x) Minus ts st' h e = operate_says Subtract (reduce 5 s x) st' ts (reduced Subtract s x ts h) e
step_says (Has s x) Closes ts st' h e = on_close_says (close s x) st' ts (closed s x ts h) e
step_says (Has s x) ThenWord ts st' h e = on_then_says (close s x) st' ts (closed s x ts h) e
step_says (Has s x) ElseWord ts st' h e = on_else_says (close s x) st' ts (closed s x ts h) e
step_says (Has s x) t ts st' h e = cc

run_on : (o : Option State) (st : State) (t : Token) (ts more : List Token) (st' : State) → step st t ≡ o → Says st ts → run o more ≡ Some st' → ((st1 : State) → Says st1 (ts ++ t ∷ []) → run (Some st1) more ≡ Some st' → Says st' ((ts ++ t ∷ []) ++ more)) → Says st' (ts ++ t ∷ more)
run_on None st t ts more st' o h e go = cc
run_on (Some st1) st t ts more st' o h e go =
    subst (λ z. Says st' z) (append_assoc ts (t ∷ []) more) (go st1 (step_says st t ts st1 h o) e)

pub run_says : (more : List Token) (st : State) (ts : List Token) (st' : State) → Says st ts → run (Some st) more ≡ Some st' → Says st' (ts ++ more)
run_says [] st ts st' h e = says_some st st' _ e (subst (λ z. Says st z) (sym (append-nil ts)) h)
run_says (t ∷ more) st ts st' h e = run_on (step st t) st t ts more st' refl h e (λ st1 h1 e1. run_says more st1 (ts ++ t ∷ []) st' h1 e1)

ended_spells : (st : State) (ts : List Token) (t : Tree) → Holds 0 st ts → ended st ≡ Some t → Spells ts t
ended_spells (Has [] x) ts t h e = record {
  written = h.3.written;
  grammar = h.3.grammar;
  same = h.3.same ∙ sym (h.4 ∙ ap (λ z. z ++ h.1) h.2);
  tree_is = h.3.tree_is ∙ (let eq : x ≡ t = cc in eq);
}
ended_spells st ts t h e = cc

finish_spells : (o : Option State) (ts : List Token) (t : Tree) → run (Some (Wants [])) ts ≡ o → finish o ≡ Some t → Spells ts t
finish_spells None ts t o e = cc
finish_spells (Some (Wants s)) ts t o e = cc
finish_spells (Some (Has s x)) ts t o e = ended_spells (close s x) ts t (closed s x ts (run_says ts (Wants []) [] (Has s x) refl o)) e

-- what is read is written so
pub sound : (ts : List Token) (t : Tree) → read ts ≡ Some t → Spells ts t
sound ts t e = finish_spells (run (Some (Wants [])) ts) ts t refl e

-- what is written is read so
pub complete_spells : (ts : List Token) (t : Tree) → Spells ts t → read ts ≡ Some t
complete_spells ts t h = ap read (sym h.same) ∙ complete h.written h.grammar ∙ ap Some h.tree_is

-- no text spells two trees
pub one_tree : (ts : List Token) (t u : Tree) → Spells ts t → Spells ts u → t ≡ u
one_tree ts t u h k = let e = sym (complete_spells ts t h) ∙ complete_spells ts u k in let eq : t ≡ u = cc in eq

-- ---- which tokens a script begins with

begins_more : (text whole more : List Token) → text ++ more ≡ whole → Begins whole → Begins text
begins_more text whole more e b = record { written = b.written; grammar = b.grammar; more = more ++ b.more; same = b.same ∙ ap (λ z. z ++ b.more) (sym e) ∙ append_assoc text more b.more }

yes : (l : ℕ) → l ≤ 8 → Part l (Constant true) (W Yes ∷ [])
yes l h = record { written = Plain Yes; grammar = tt; at_least = h; same = refl; tree_is = refl }

-- what is begun can be ended
ends : (s : Stack) (x : Tree) (a b : List Token) → Stacked s a → Part (need s) x b → Begins (a ++ b)
ends [] x a b st p = record { written = p.written; grammar = p.grammar; more = []; same = p.same ∙ sym (append-nil b) ∙ ap (λ z. (z ++ b) ++ []) (sym st) }
ends (InOpen ∷ s) x a b st p =
    begins_more (a ++ b) _ (Closes ∷ []) (ap (λ z. (z ++ b) ++ Closes ∷ []) st.2 ∙ simp append_assoc) (ends s x st.0 (Opens ∷ (b ++ Closes ∷ [])) st.1 (weaker 7 (need s) x _ (need_small s) (inside x b p)))
ends (InPrefix op ∷ s) x a b st p =
    begins_more (a ++ b) _ [] (ap (λ z. (z ++ b) ++ []) st.2 ∙ simp (append_assoc, append-nil)) (ends s (Apply op x) st.0 (prefix_sign op ∷ b) st.1 (weaker 7 (need s) _ _ (need_small s) (before op x b p)))
ends (InRight y op ∷ s) x a b st p =
    begins_more (a ++ b) _ [] (ap (λ z. (z ++ b) ++ []) st.5 ∙ simp (append_assoc, append-nil)) (ends s (Join op y x) st.0 (st.1 ++ sign op ∷ b) st.2 (weaker (binds op) (need s) _ _ st.3 (between op y x st.1 b st.4 p)))
ends (InTest ∷ s) x a b st p =
    begins_more (a ++ b) _ (ThenWord ∷ W Yes ∷ ElseWord ∷ W Yes ∷ []) (ap (λ z. (z ++ b) ++ ThenWord ∷ W Yes ∷ ElseWord ∷ W Yes ∷ []) st.3 ∙ simp append_assoc) (ends s (If x (Constant true) (Constant true)) st.0 (IfWord ∷ (b ++ ThenWord ∷ ((W Yes ∷ []) ++ ElseWord ∷ (W Yes ∷ [])))) st.1 (weaker 0 (need s) _ _ st.2 (choice x _ _ b _ _ p (yes 0 (omega arith)) (yes 0 (omega arith)))))
ends (InThen c ∷ s) x a b st p =
    begins_more (a ++ b) _ (ElseWord ∷ W Yes ∷ []) (ap (λ z. (z ++ b) ++ ElseWord ∷ W Yes ∷ []) st.5 ∙ simp append_assoc) (ends s (If c x (Constant true)) st.0 (IfWord ∷ (st.1 ++ ThenWord ∷ (b ++ ElseWord ∷ (W Yes ∷ [])))) st.2 (weaker 0 (need s) _ _ st.3 (choice c x _ st.1 b _ st.4 p (yes 0 (omega arith)))))
ends (InElse c y ∷ s) x a b st p =
    begins_more (a ++ b) _ [] (ap (λ z. (z ++ b) ++ []) st.7 ∙ simp (append_assoc, append-nil)) (ends s (If c y x) st.0 (IfWord ∷ (st.1 ++ ThenWord ∷ (st.2 ++ ElseWord ∷ b))) st.3 (weaker 0 (need s) _ _ st.4 (choice c y x st.1 st.2 b st.5 st.6 p)))

pub begun : (st : State) (ts : List Token) → Says st ts → Begins ts
begun (Wants s) ts h = begins_more ts (ts ++ W Yes ∷ []) (W Yes ∷ []) refl (ends s (Constant true) ts (W Yes ∷ []) h (yes (need s) (omega (arith, need_small s))))
begun (Has s x) ts h = subst Begins (sym h.4) (ends s x h.0 h.1 h.2 (weaker 7 (need s) x h.1 (need_small s) h.3))

-- where the reader stops, no script goes on
pub stops : (ts : List Token) (t : Token) (st : State) → run (Some (Wants [])) ts ≡ Some st → step st t ≡ None → Begins (ts ++ t ∷ []) → ⊥
stops ts t st e none b =
    let r = reading b.written [] b.grammar (omega arith) (λ x. refl) in
    let all = sym r.reads ∙ ap (run (Some (Wants []))) b.same ∙ run_append (Some (Wants [])) (ts ++ t ∷ []) b.more ∙ ap (λ o. run o b.more) (run_append (Some (Wants [])) ts (t ∷ []) ∙ ap (λ o. run o (t ∷ [])) e ∙ ap (λ o. run o []) none) in
    cc

pub first_fault : (ts more : List Token) (t : Token) (st : State) → run (Some (Wants [])) ts ≡ Some st → step st t ≡ None → FirstFault (ts ++ t ∷ more) (length ts)
first_fault ts more t st e none = record {
  within = omega (arith, length-append ts (t ∷ more));
  before = (subst Begins (sym (take_at ts (t ∷ more) (length ts) refl)) (begun st ts (run_says ts (Wants []) [] st refl e)));
  here = λ b. stops ts t st e none (let n : length ts + 1 ≡ length (ts ++ t ∷ []) = omega (arith, length-append ts (t ∷ [])) in subst Begins (ap (take (length ts + 1)) (sym (append_assoc ts (t ∷ []) more)) ∙ take_at (ts ++ t ∷ []) more (length ts + 1) (sym n)) b);
}
