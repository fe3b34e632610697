-- The nesting that the reader counts is the nesting in every script that begins with the same tokens.
use Rattle.std.proofs.Common.{◌≡◌, ℕ, ◌+◌, ◌<◌, ◌≤◌, List, [], ◌∷◌, ◌++◌, length, take, drop, get_or, Option, Some, None, refl, sym, ap, ◌∙◌, subst, arith, append_assoc, below_more}
use Rattle.std.specs.Prelude.{slice_index}
use Rattle.std.proofs.lemmas.List.{get_or_append_left, length-take-le, take-append-drop, take_all}
use Rattle.std.proofs.Math.Seq.{get_or-append_seam}
use Rattle.script_tree.specs.Tree.{Tree}
use Rattle.script_grammar.specs.declared.token.Token.{Token}
use Rattle.script_grammar.specs.Grammar.{Written, tokens, tree, IsScript, nested, BeginsWithin, IsTooDeepAt}
use Rattle.script_grammar.specs.Reading.{State, Wants, step, run, finish}
use Rattle.script_grammar.specs.Nesting.{nesting, nests}
use Rattle.script_grammar.proofs.Complete.{run_append, complete}
use Rattle.script_grammar.proofs.Agreement.{run_says, begun}
use Rattle.script_grammar.proofs.Nesting.{nests_append, nests_are}
use Rattle.script_grammar.proofs.Places.{start, take_known, run_more}

-- a text that is read has a nesting for each token
pub nests_length : (ts : List Token) (o : Option State) (st : State) → run o ts ≡ Some st → length (nests o ts) ≡ length ts
nests_length [] None st e = refl
nests_length (t ∷ ts) None st e = cc
nests_length [] (Some s) st e = refl
nests_length (t ∷ ts) (Some s) st e = omega (arith, nests_length ts (step s t) st e)

-- what comes later does not nest a token
front : (a more : List Token) (st : State) (j : ℕ) → run start a ≡ Some st → j < length a → get_or (nests start (a ++ more)) j 0 ≡ get_or (nests start a) j 0
front a more st j e h =
    ap (λ z. get_or z j 0) (nests_append start a more) ∙ get_or_append_left (nests start a) _ 0 j (omega (arith, nests_length a start st e))

-- what the reader has seen up to a place
pub record ReadsTo (limit : ℕ) (ts : List Token) (i : ℕ) (st : State) : Type 0 where
  pub reads : run start (take i ts) ≡ Some st
  pub shallow : (j : ℕ) → j < i → get_or (nests start ts) j 0 ≤ limit

split_at : (ts : List Token) (i : ℕ) (d t : Token) → i < length ts → t ≡ get_or ts i d → ts ≡ take i ts ++ t ∷ drop (i + 1) ts
split_at ts i d t h e = sym (take-append-drop (i + 1) ts) ∙ ap (λ z. z ++ drop (i + 1) ts) (take_known ts i d t h e) ∙ append_assoc (take i ts) (t ∷ []) (drop (i + 1) ts)

pub nests_at : (ts : List Token) (i : ℕ) (d t : Token) (st : State) → run start (take i ts) ≡ Some st → i < length ts → t ≡ get_or ts i d → get_or (nests start ts) i 0 ≡ nesting st t
nests_at ts i d t st r h e =
    let a = take i ts in
    let more = drop (i + 1) ts in
    let n : length (nests start a) ≡ i = nests_length a start st r ∙ length-take-le i ts (omega arith) in
    let here : nests start (a ++ t ∷ more) ≡ nests start a ++ nesting st t ∷ nests (step st t) more = nests_append start a (t ∷ more) ∙ ap (λ o. nests start a ++ nests o (t ∷ more)) r in
    ap (λ z. get_or (nests start z) i 0) (split_at ts i d t h e)
    ∙ ap (λ z. get_or z i 0) here
    ∙ ap (λ k. get_or (nests start a ++ nesting st t ∷ nests (step st t) more) k 0) (sym n)
    ∙ get_or-append_seam (nests start a) (nesting st t) (nests (step st t) more) 0

same_at : (w : Written) → IsScript w → (ts more : List Token) (i : ℕ) (st : State) → run start (take i ts) ≡ Some st → i ≤ length ts → tokens w ≡ take i ts ++ more → (j : ℕ) → j < i → slice_index (nested 0 w) j ≡ get_or (nests start ts) j 0
same_at w g ts more i st r le e j h =
    let within : j < length (take i ts) = omega (arith, length-take-le i ts le) in
    ap (λ z. get_or z j 0) (sym (nests_are w g))
    ∙ ap (λ z. get_or (nests start z) j 0) e
    ∙ front (take i ts) more st j r within
    ∙ sym (front (take i ts) (drop i ts) st j r within)
    ∙ ap (λ z. get_or (nests start z) j 0) (take-append-drop i ts)

pub shallow_to : (limit : ℕ) (ts : List Token) (i : ℕ) (st : State) → ReadsTo limit ts i st → i ≤ length ts → BeginsWithin limit (take i ts)
shallow_to limit ts i st r le =
    let b = begun st (take i ts) (run_says (take i ts) (Wants []) [] st refl r.reads) in
    record {
      written = b.written;
      grammar = b.grammar;
      more = b.more;
      same = b.same;
      shallow = λ j h.
          let k : j < i = omega (arith, length-take-le i ts le) in
          let same = same_at b.written b.grammar ts b.more i st r.reads le b.same j k in
          omega (arith, same, r.shallow j k);
    }

pub shallow_all : (limit : ℕ) (ts : List Token) (st : State) → ReadsTo limit ts (length ts) st → BeginsWithin limit ts
shallow_all limit ts st r = subst (BeginsWithin limit) (take_all (length ts) ts (omega arith)) (shallow_to limit ts (length ts) st r (omega arith))

pub deep_at : (limit : ℕ) (ts : List Token) (i : ℕ) (d t : Token) (st st' : State) → ReadsTo limit ts i st → i < length ts → t ≡ get_or ts i d → step st t ≡ Some st' → limit < nesting st t → IsTooDeepAt limit ts i
deep_at limit ts i d t st st' r h e goes deep =
    let more = run_more ts i d t st r.reads h e ∙ goes in
    let b = begun st' (take (i + 1) ts) (run_says (take (i + 1) ts) (Wants []) [] st' refl more) in
    let same = same_at b.written b.grammar ts b.more (i + 1) st' more (omega arith) b.same in
    record {
      within = h;
      written = b.written;
      grammar = b.grammar;
      more = b.more;
      same = b.same;
      deep = omega (arith, same i (omega arith), nests_at ts i d t st r.reads h e);
      first = λ j k. let eq = same j (omega arith) in omega (arith, eq, r.shallow j k);
    }

pub reads_more : (limit : ℕ) (ts : List Token) (i : ℕ) (d t : Token) (st st' : State) → ReadsTo limit ts i st → i < length ts → t ≡ get_or ts i d → step st t ≡ Some st' → nesting st t ≤ limit → ReadsTo limit ts (i + 1) st'
reads_more limit ts i d t st st' r h e goes within = record {
  reads = run_more ts i d t st r.reads h e ∙ goes;
  shallow = below_more _ _ r.shallow (omega (arith, nests_at ts i d t st r.reads h e));
}

-- two scripts that begin with the same tokens nest them alike
pub one_nesting : (w v : Written) → IsScript w → IsScript v → (text a b : List Token) → tokens w ≡ text ++ a → tokens v ≡ text ++ b → (j : ℕ) → j < length text → slice_index (nested 0 w) j ≡ slice_index (nested 0 v) j
one_nesting w v g k text a b p q j h =
    let r = run_front text a (run start text) refl w g p in
    ap (λ z. get_or z j 0) (sym (nests_are w g))
    ∙ ap (λ z. get_or (nests start z) j 0) p
    ∙ front text a r.0 j r.1 h
    ∙ sym (front text b r.0 j r.1 h)
    ∙ ap (λ z. get_or (nests start z) j 0) (sym q)
    ∙ ap (λ z. get_or z j 0) (nests_are v k)
  where
    not_both : (o : Option State) → o ≡ None → (t : Tree) → finish o ≡ Some t → ⊥
    not_both None e t f = cc
    not_both (Some st) e t f = cc

    run_front : (text a : List Token) (o : Option State) → run start text ≡ o → (w : Written) → IsScript w → tokens w ≡ text ++ a → (st : State) × (run start text ≡ Some st)
    run_front text a (Some st) e w g p = (st, e)
    run_front text a None e w g p =
        let none : run start (tokens w) ≡ None = ap (run start) p ∙ run_append start text a ∙ ap (λ o. run o a) e in
        let all = complete w g in
        absurd (not_both (run start (tokens w)) none (tree w) all)
