-- Neither a colon nor `among` stands in a script.
use Rattle.std.proofs.Common.{◌≡◌, ℕ, Bool, true, false, List, [], ◌∷◌, ◌++◌, refl, sym, ap, ◌∙◌}
use Rattle.std.specs.Prelude.{◌&&◌, codes, if◌then◌else◌, nat_lt}
use Rattle.std.specs.List.{list_any}
use Rattle.std.specs.Str.{bytes_eq}
use Rattle.std.proofs.lemmas.Bool.{or_parts, or_from, false≢true}
use Rattle.script_tree.specs.declared.expr.Unary.{Unary}
use Rattle.script_tree.specs.declared.expr.Unary.TheVariants.{Negate, Not}
use Rattle.script_tree.specs.declared.expr.Binary.{Binary}
use Rattle.script_tree.specs.declared.expr.Binary.TheVariants.{OrElse, Or, And, Equal, Unequal, Less, AtMost, Greater, AtLeast, Add, Subtract, Multiply, Divide, Remainder}
use Rattle.script_tree.specs.Scripts.{Scripted}
use Rattle.script_tree.proofs.Texts.{same_text}
use Rattle.script_grammar.specs.declared.token.Token.{Token}
use Rattle.script_grammar.specs.declared.token.Token.TheVariants.{Closes, ThenWord, ElseWord, Stray}
use Rattle.script_grammar.specs.Grammar.{Written, Plain, Inside, Before, Between, Choice, sign, prefix_sign, tokens}
use Rattle.expr_script.specs.declared.atoms.Atoms.{Atoms}
use Rattle.expr_script.specs.declared.atoms.Atoms.TheVariants.{Script, Body}
use Rattle.expr_script.specs.Words.{token, pick_token, fixed_token}
use Rattle.expr_script.specs.Tokens.{inputs, tokens_among}
use Rattle.expr_script.specs.Spelled.{SpellsWith}
use Rattle.deck_lines.specs.Forms.{Words}
use Rattle.deck_lines.specs.Cuts.{has}

abbrev pub is_stray : Token → Bool
is_stray Stray = true
is_stray t = false

abbrev pub has_stray : List Token → Bool
has_stray ts = list_any is_stray ts

none_stray : (a b : List Token) → has_stray a ≡ false → has_stray b ≡ false → has_stray (a ++ b) ≡ false
none_stray [] b p q = q
none_stray (t ∷ a) b p q = let parts = or_parts (is_stray t) (has_stray a) p in or_from (is_stray t) (has_stray (a ++ b)) parts.0 (none_stray a b parts.1 q)

sign_stands : (op : Binary) → is_stray (sign op) ≡ false
sign_stands OrElse = refl
sign_stands Or = refl
sign_stands And = refl
sign_stands Equal = refl
sign_stands Unequal = refl
sign_stands Less = refl
sign_stands AtMost = refl
sign_stands Greater = refl
sign_stands AtLeast = refl
sign_stands Add = refl
sign_stands Subtract = refl
sign_stands Multiply = refl
sign_stands Divide = refl
sign_stands Remainder = refl

mark_stands : (op : Unary) → is_stray (prefix_sign op) ≡ false
mark_stands Negate = refl
mark_stands Not = refl

-- what stands in no script isn't written
written_stands : (w : Written) → has_stray (tokens w) ≡ false
written_stands (Plain word) = refl
written_stands (Inside w) = none_stray (tokens w) (Closes ∷ []) (written_stands w) refl
written_stands (Before op w) = or_from (is_stray (prefix_sign op)) (has_stray (tokens w)) (mark_stands op) (written_stands w)
written_stands (Between op a b) = none_stray (tokens a) (sign op ∷ tokens b) (written_stands a) (or_from (is_stray (sign op)) (has_stray (tokens b)) (sign_stands op) (written_stands b))
written_stands (Choice c a b) = none_stray (tokens c) (ThenWord ∷ (tokens a ++ ElseWord ∷ tokens b)) (written_stands c) (none_stray (tokens a) (ElseWord ∷ tokens b) (written_stands a) (written_stands b))

without : (atoms : Atoms) (known : List (List ℕ)) (word : List ℕ) → token atoms known word ≡ Stray → (ws : Words) → has_stray (tokens_among atoms known ws) ≡ false → has word ws ≡ false
without atoms known word s [] h = refl
without atoms known word s (w ∷ ws) h =
    let parts = or_parts (is_stray (token atoms known w)) (has_stray (tokens_among atoms known ws)) h in
    or_from (bytes_eq w word) (has word ws) (by_test parts.0 (bytes_eq w word) refl) (without atoms known word s ws parts.1)
  where
    by_test : is_stray (token atoms known w) ≡ false → (t : Bool) → bytes_eq w word ≡ t → t ≡ false
    by_test n true e = absurd (false≢true (sym n ∙ ap (λ x. is_stray (token atoms known x)) (same_text w word e) ∙ ap is_stray s))
    by_test n false e = refl

-- all words of a script stand in scripts
pub no_strays : (atoms : Atoms) (ws : Words) (s : Scripted) → SpellsWith atoms ws s → has_stray (tokens_among atoms (inputs atoms ws) ws) ≡ false
no_strays atoms ws s h = ap has_stray (sym h.tree.same) ∙ written_stands h.tree.written

spells_without : (atoms : Atoms) (word : List ℕ) → ((known : List (List ℕ)) → token atoms known word ≡ Stray) → (ws : Words) (s : Scripted) → SpellsWith atoms ws s → has word ws ≡ false
spells_without atoms word stray ws s h = without atoms (inputs atoms ws) word (stray (inputs atoms ws)) ws (no_strays atoms ws s h)

skipped : (b c : Bool) (t u : Token) → c ≡ false → (if b && c then t else u) ≡ u
skipped true c t u e = ap (λ x. if x then t else u) e
skipped false c t u e = refl

no_pick : (picks : ℕ) (word : List ℕ) → bytes_eq word (codes "pick1") ≡ false → bytes_eq word (codes "pick2") ≡ false → bytes_eq word (codes "pick3") ≡ false → bytes_eq word (codes "pick4") ≡ false → pick_token picks word ≡ fixed_token word
no_pick picks word a b c d =
    skipped (nat_lt 0 picks) (bytes_eq word (codes "pick1")) _ _ a
    ∙ skipped (nat_lt 1 picks) (bytes_eq word (codes "pick2")) _ _ b
    ∙ skipped (nat_lt 2 picks) (bytes_eq word (codes "pick3")) _ _ c
    ∙ skipped (nat_lt 3 picks) (bytes_eq word (codes "pick4")) _ _ d

colon_stray : (atoms : Atoms) (known : List (List ℕ)) → token atoms known (codes ":") ≡ Stray
colon_stray (Script true) known = refl
colon_stray (Script false) known = refl
colon_stray (Body picks) known = no_pick picks (codes ":") refl refl refl refl

among_stray : (atoms : Atoms) (known : List (List ℕ)) → token atoms known (codes "among") ≡ Stray
among_stray (Script true) known = refl
among_stray (Script false) known = refl
among_stray (Body picks) known = no_pick picks (codes "among") refl refl refl refl

pub no_colon : (atoms : Atoms) (ws : Words) (s : Scripted) → SpellsWith atoms ws s → has (codes ":") ws ≡ false
no_colon atoms = spells_without atoms (codes ":") (colon_stray atoms)

pub no_among : (atoms : Atoms) (ws : Words) (s : Scripted) → SpellsWith atoms ws s → has (codes "among") ws ≡ false
no_among atoms = spells_without atoms (codes "among") (among_stray atoms)
