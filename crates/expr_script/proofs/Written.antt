-- One token of a text that is written.
use Rattle.std.proofs.Common.{◌≡◌, ℕ, ◌+◌, ◌<◌, ◌≤◌, Bool, List, [], ◌∷◌, ◌++◌, length, map, drop, get_or, refl, sym, ap, ◌∙◌, append_assoc, append-nil}
use Rattle.std.proofs.Math.ListN.{drop_of_length-le}
use Rattle.std.proofs.lemmas.List.{drop_more}
use Rattle.script_grammar.specs.declared.token.Token.{Token}
use Rattle.expr_script.specs.Cut.{begins_word}
use Rattle.expr_script.specs.Joined.{gap, behind}
use Rattle.expr_script.specs.Printed.{token_text}

-- tokens as they are written behind a word, or behind none
abbrev pub written : List (List ℕ) → Bool → List Token → List ℕ
written names behind_word [] = []
written names behind_word (t ∷ ts) = gap behind_word (token_text names t) ++ (token_text names t ++ written names (begins_word (token_text names t)) ts)

joined : (a g t w : List ℕ) → (a ++ (g ++ t)) ++ w ≡ a ++ (g ++ (t ++ w))
joined a g t w = append_assoc a (g ++ t) w ∙ ap (λ l. a ++ l) (append_assoc g t w)

pub written_step : (text new total : List ℕ) (names : List (List ℕ)) (behind_word next : Bool) (ts : List Token) (i : ℕ) (d : Token) → i < length ts → text ++ written names behind_word (drop i ts) ≡ total → new ≡ text ++ (gap behind_word (token_text names (get_or ts i d)) ++ token_text names (get_or ts i d)) → next ≡ begins_word (token_text names (get_or ts i d)) → new ++ written names next (drop (i + 1) ts) ≡ total
written_step text new total names behind_word next ts i d h e n f =
    let t = get_or ts i d in let rest = drop (i + 1) ts in
    ap (λ b. new ++ written names b rest) f
    ∙ ap (λ l. l ++ written names (begins_word (token_text names t)) rest) n
    ∙ joined text (gap behind_word (token_text names t)) (token_text names t) (written names (begins_word (token_text names t)) rest)
    ∙ ap (λ l. text ++ written names behind_word l) (sym (drop_more ts i d h))
    ∙ e

pub written_end : (text total : List ℕ) (names : List (List ℕ)) (behind_word : Bool) (ts : List Token) (i : ℕ) → length ts ≤ i → text ++ written names behind_word (drop i ts) ≡ total → text ≡ total
written_end text total names behind_word ts i h e =
    sym (append-nil text) ∙ ap (λ l. text ++ written names behind_word l) (sym (drop_of_length-le ts h)) ∙ e

-- tokens are written as their words are joined
pub written_joined : (names : List (List ℕ)) (ts : List Token) (last : List ℕ) → written names (begins_word last) ts ≡ behind last (map (token_text names) ts)
written_joined names [] last = refl
written_joined names (t ∷ ts) last = ap (λ l. gap (begins_word last) (token_text names t) ++ (token_text names t ++ l)) (written_joined names ts (token_text names t))
