-- Reading up to a place, and where it stops.
use Rattle.std.proofs.Common.{◌≡◌, ℕ, ◌+◌, ◌<◌, List, [], ◌∷◌, ◌++◌, length, take, drop, get_or, Option, Some, None, refl, sym, ap, ◌∙◌, subst, arith}
use Rattle.std.proofs.lemmas.List.{take_more, take-append-drop, take_all}
use Rattle.script_tree.specs.Tree.{Tree}
use Rattle.script_grammar.specs.declared.token.Token.{Token}
use Rattle.script_grammar.specs.Grammar.{Spells, Begins, IsSyntaxAt}
use Rattle.script_grammar.specs.Reading.{State, Wants, step, run, finish, read}
use Rattle.script_grammar.proofs.Complete.{run_append}
use Rattle.script_grammar.proofs.Agreement.{run_says, begun, stops, sound, complete_spells}

abbrev pub start : Option State
start = Some (Wants [])

pub take_known : (ts : List Token) (i : ℕ) (d t : Token) → i < length ts → t ≡ get_or ts i d → take (i + 1) ts ≡ take i ts ++ t ∷ []
take_known ts i d t h e = take_more ts i d h ∙ ap (λ x. take i ts ++ x ∷ []) (sym e)

pub run_more : (ts : List Token) (i : ℕ) (d t : Token) (st : State) → run start (take i ts) ≡ Some st → i < length ts → t ≡ get_or ts i d → run start (take (i + 1) ts) ≡ step st t
run_more ts i d t st r h e =
    ap (run start) (take_known ts i d t h e) ∙ run_append start (take i ts) (t ∷ []) ∙ ap (λ o. run o (t ∷ [])) r ∙ run_one (step st t)
  where
    run_one : (o : Option State) → run o [] ≡ o
    run_one None = refl
    run_one (Some s) = refl

not_read : (ts : List Token) (t : Tree) → read ts ≡ None → Spells ts t → ⊥
not_read ts t e h = let f = sym e ∙ complete_spells ts t h in cc

pub fault_at : (ts : List Token) (i : ℕ) (d t : Token) (st : State) → run start (take i ts) ≡ Some st → i < length ts → t ≡ get_or ts i d → step st t ≡ None → IsSyntaxAt ts i
fault_at ts i d t st r h e none =
    let past = run_more ts i d t st r h e ∙ none in
    record {
      within = omega arith;
      before = begun st (take i ts) (run_says (take i ts) (Wants []) [] st refl r);
      here = λ _ b. stops (take i ts) t st r none (subst Begins (take_known ts i d t h e) b);
      none = λ u. not_read ts u (ap finish (ap (run start) (sym (take-append-drop (i + 1) ts)) ∙ run_append start (take (i + 1) ts) (drop (i + 1) ts) ∙ ap (λ o. run o (drop (i + 1) ts)) past));
    }

whole : (ts : List Token) (st : State) (o : Option Tree) → run start (take (length ts) ts) ≡ Some st → finish (Some st) ≡ o → read ts ≡ o
whole ts st o r e = ap (λ z. finish (run start z)) (sym (take_all (length ts) ts (omega arith))) ∙ ap finish r ∙ e

pub ends_early : (ts : List Token) (st : State) → run start (take (length ts) ts) ≡ Some st → finish (Some st) ≡ None → IsSyntaxAt ts (length ts)
ends_early ts st r e = record {
  within = omega arith;
  before = begun st (take (length ts) ts) (run_says (take (length ts) ts) (Wants []) [] st refl r);
  here = λ h. absurd (omega arith);
  none = λ u. not_read ts u (whole ts st None r e);
}

pub is_spelled : (ts : List Token) (st : State) (t : Tree) → run start (take (length ts) ts) ≡ Some st → finish (Some st) ≡ Some t → Spells ts t
is_spelled ts st t r e = sound ts t (whole ts st (Some t) r e)
