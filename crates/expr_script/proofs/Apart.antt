-- The words of a canonical text stand apart.
use Rattle.std.proofs.Common.{◌≡◌, ℕ, Bool, true, false, List, [], ◌∷◌, refl, ap, ◌∙◌, inl, inr, arith}
use Rattle.std.specs.Prelude.{◌==◌, ◌⊎◌}
use Rattle.std.proofs.lemmas.Bool.Decides.{nat_tests}
use Rattle.std.proofs.lemmas.Bool.{both_ways}
use Rattle.script_tree.specs.Names.{is_word}
use Rattle.script_tree.specs.declared.expr.Unary.{Unary}
use Rattle.script_tree.specs.declared.expr.Unary.TheVariants.{Negate, Not}
use Rattle.script_grammar.specs.declared.token.Token.TheVariants.{Plain as W, Opens, Closes, IfWord, ThenWord, ElseWord}
use Rattle.script_grammar.specs.Grammar.{Written, Plain, Inside, Before, Between, Choice, sign, prefix_sign}
use Rattle.expr_script.specs.declared.atoms.Atoms.{Atoms}
use Rattle.expr_script.specs.Pieces.{is_pair}
use Rattle.expr_script.specs.Cut.{begins_word}
use Rattle.expr_script.specs.Joined.{merges, StandApart}
use Rattle.expr_script.specs.Printed.{token_text}
use Rattle.expr_script.proofs.FoundCut.{second_no_word}
use Rattle.expr_script.proofs.Spread.{spread}
use Rattle.expr_script.proofs.WrittenWords.{AllWords}
use Rattle.expr_script.proofs.TokenBack.{Reads, reads_sign, reads_tokens}

pair_first : (b c : ℕ) → is_pair b c ≡ true → (b ≡ c) ⊎ (((b ≡ 61) ⊎ (b ≡ 33)) ⊎ ((b ≡ 60) ⊎ (b ≡ 62)))
pair_first b c h = by_tests (b == c) refl (b == 61) refl (b == 33) refl (b == 60) refl (b == 62) refl
  where
    by_tests : (s : Bool) → (b == c) ≡ s → (t : Bool) → (b == 61) ≡ t → (u : Bool) → (b == 33) ≡ u → (v : Bool) → (b == 60) ≡ v → (w : Bool) → (b == 62) ≡ w → (b ≡ c) ⊎ (((b ≡ 61) ⊎ (b ≡ 33)) ⊎ ((b ≡ 60) ⊎ (b ≡ 62)))
    by_tests true d t e u f v g w i = inl (grind (arith, nat_tests, d))
    by_tests false d true e u f v g w i = inr (inl (inl (grind (arith, nat_tests, e))))
    by_tests false d false e true f v g w i = inr (inl (inr (grind (arith, nat_tests, f))))
    by_tests false d false e false f true g w i = inr (inr (inl (grind (arith, nat_tests, g))))
    by_tests false d false e false f false g true i = inr (inr (inr (grind (arith, nat_tests, i))))
    by_tests false d false e false f false g false i = grind (arith, nat_tests, d, e, f, g, i, h)

first_no_word : (b c : ℕ) → is_pair b c ≡ true → is_word b ≡ false
first_no_word b c h = by_byte (pair_first b c h)
  where
    by_byte : (b ≡ c) ⊎ (((b ≡ 61) ⊎ (b ≡ 33)) ⊎ ((b ≡ 60) ⊎ (b ≡ 62))) → is_word b ≡ false
    by_byte (inl e) = ap is_word e ∙ second_no_word b c h
    by_byte (inr (inl (inl e))) = ap is_word e
    by_byte (inr (inl (inr e))) = ap is_word e
    by_byte (inr (inr (inl e))) = ap is_word e
    by_byte (inr (inr (inr e))) = ap is_word e

no_pair : (b c : ℕ) → (is_pair b c ≡ true → ⊥) → is_pair b c ≡ false
no_pair b c n = by_test (is_pair b c) refl
  where
    by_test : (t : Bool) → is_pair b c ≡ t → t ≡ false
    by_test true e = absurd (n e)
    by_test false e = refl

-- what merges with nothing behind it
pub record Closed (w : List ℕ) : Type 0 where
  pub closed : (v : List ℕ) → merges w v ≡ false

pub word_closed : (w : List ℕ) → begins_word w ≡ true → Closed w
word_closed w e = record { closed = by_form w e }
  where
    by_form : (w : List ℕ) → begins_word w ≡ true → (v : List ℕ) → merges w v ≡ false
    by_form [] e v = refl
    by_form (b ∷ b' ∷ w) e v = refl
    by_form (b ∷ []) e [] = refl
    by_form (b ∷ []) e (c ∷ v) = no_pair b c (λ p. both_ways _ (first_no_word b c p) e)

close_closed : (names : List (List ℕ)) → Closed (token_text names Closes)
close_closed names = record { closed = by_form }
  where
    by_form : (v : List ℕ) → merges (token_text names Closes) v ≡ false
    by_form [] = refl
    by_form (c ∷ v) = no_pair 41 c (λ p. absurd (elim (pair_first 41 c p) [
      | inl e ↦ (let f : is_pair 41 41 ≡ true = ap (is_pair 41) e ∙ p in let g : false ≡ true = f in cc)
      | inr k ↦ elim k [
        | inl i ↦ elim i [ inl e ↦ omega (arith, e) | inr e ↦ omega (arith, e) ]
        | inr i ↦ elim i [ inl e ↦ omega (arith, e) | inr e ↦ omega (arith, e) ]
      ]
    ]))

-- what merges with nothing before it
after : (c : ℕ) (cs : List ℕ) → ((b : ℕ) → is_pair b c ≡ false) → (last : List ℕ) → merges last (c ∷ cs) ≡ false
after c cs h [] = refl
after c cs h (b ∷ []) = h b
after c cs h (b ∷ b' ∷ w) = refl

pub word_after : (w last : List ℕ) → begins_word w ≡ true → merges last w ≡ false
word_after [] [] e = refl
word_after [] (b ∷ []) e = refl
word_after [] (b ∷ b' ∷ last) e = refl
word_after (c ∷ w) last e = after c w (λ b. no_pair b c (λ p. both_ways _ (second_no_word b c p) e)) last

mark_after : (names : List (List ℕ)) (op : Unary) (last : List ℕ) → merges last (token_text names (prefix_sign op)) ≡ false
mark_after names Negate last = after 45 [] (λ b. refl) last
mark_after names Not last = after 33 [] (λ b. refl) last

open_after : (names : List (List ℕ)) (last : List ℕ) → merges last (token_text names Opens) ≡ false
open_after names last = after 40 [] (λ b. refl) last

-- words that are read back as they are written stand apart
pub stand : (atoms : Atoms) (names : List (List ℕ)) (w : Written) (last : List ℕ) (more : List (List ℕ)) → AllWords (λ word. Reads atoms names (W word)) w → ((final : List ℕ) → Closed final → StandApart final more) → StandApart last (spread names w more)
unfolding AllWords spread
stand atoms names (Plain word) last more h follow = (word_after (token_text names (W word)) last h.kind, h.whole, follow (token_text names (W word)) (word_closed (token_text names (W word)) h.kind))
stand atoms names (Inside w) last more h follow = (
  open_after names last,
  (reads_tokens atoms names).opens.whole,
  stand atoms names w (token_text names Opens) (token_text names Closes ∷ more) h (λ final c. (c.closed (token_text names Closes), (reads_tokens atoms names).closes.whole, follow (token_text names Closes) (close_closed names))),
)
stand atoms names (Before op w) last more h follow = (mark_after names op last, ((reads_tokens atoms names).marks op).whole, stand atoms names w (token_text names (prefix_sign op)) more h follow)
stand atoms names (Between op a b) last more h follow =
    stand atoms names a last (token_text names (sign op) ∷ spread names b more) h.0
    (λ final c. (c.closed (token_text names (sign op)), (reads_sign atoms names op).whole, stand atoms names b (token_text names (sign op)) more h.1 follow))
stand atoms names (Choice c a b) last more h follow = (
  word_after (token_text names IfWord) last refl,
  (reads_tokens atoms names).if_word.whole,
  stand atoms names c (token_text names IfWord) (token_text names ThenWord ∷ spread names a (token_text names ElseWord ∷ spread names b more)) h.0
      (λ final k. (
        k.closed (token_text names ThenWord),
        (reads_tokens atoms names).then_word.whole,
        stand atoms names a (token_text names ThenWord) (token_text names ElseWord ∷ spread names b more) h.1
            (λ other j. (j.closed (token_text names ElseWord), (reads_tokens atoms names).else_word.whole, stand atoms names b (token_text names ElseWord) more h.2 follow)),
      )),
)

pub follow_more : (more : List (List ℕ)) → StandApart [] more → (final : List ℕ) → Closed final → StandApart final more
follow_more [] s final c = tt
follow_more (w ∷ more) s final c = (c.closed w, s.1, s.2)
