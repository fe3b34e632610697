-- Words that are cut at a sign.
use Rattle.std.proofs.Common.{◌≡◌, ℕ, Bool, true, false, List, [], ◌∷◌, ◌++◌, refl, sym, ap, ◌∙◌, arith, append-nil, true≢false}
use Rattle.std.specs.Prelude.{◌||◌, ◌≤◌, length, if◌then◌else◌}
use Rattle.std.specs.List.{AllByRecursion, onto_first}
use Rattle.std.specs.Str.{bytes_eq}
use Rattle.std.proofs.lemmas.Bool.{or_parts, or_from}
use Rattle.script_tree.proofs.Texts.{same_text, text_is}
use Rattle.deck_lines.specs.Forms.{Words}
use Rattle.deck_lines.specs.Cuts.{has, before, behind, each_behind, separated}
use Rattle.deck_lines.specs.Reading.{cut}

pub own_word : (a : List ℕ) → bytes_eq a a ≡ true
own_word a = text_is a a refl

-- a word stands among two lists of words where it stands in one
pub has_append : (sign : List ℕ) (a b : Words) → has sign (a ++ b) ≡ (has sign a || has sign b)
has_append sign [] b = refl
has_append sign (w ∷ a) b = by_word (bytes_eq w sign) (has sign (a ++ b)) (has sign a) (has_append sign a b)
  where
    by_word : (t v u : Bool) → v ≡ (u || has sign b) → (t || v) ≡ ((t || u) || has sign b)
    by_word true v u e = refl
    by_word false v u e = e

pub has_none : (sign : List ℕ) (a b : Words) → has sign a ≡ false → has sign b ≡ false → has sign (a ++ b) ≡ false
has_none sign a b e f = has_append sign a b ∙ or_from (has sign a) (has sign b) e f

-- the words before a sign that doesn't stand in them, the sign, and the words behind it
pub before_sign : (sign : List ℕ) (a b : Words) → has sign a ≡ false → before sign (a ++ sign ∷ b) ≡ a
before_sign sign [] b e = ap (λ t. if t then [] else sign ∷ before sign b) (own_word sign)
before_sign sign (w ∷ a) b e =
    let parts = or_parts (bytes_eq w sign) (has sign a) e in
    ap (λ t. if t then [] else w ∷ before sign (a ++ sign ∷ b)) parts.0 ∙ ap (λ ws. w ∷ ws) (before_sign sign a b parts.1)

pub behind_sign : (sign : List ℕ) (a b : Words) → has sign a ≡ false → behind sign (a ++ sign ∷ b) ≡ b
behind_sign sign [] b e = ap (λ t. if t then b else behind sign b) (own_word sign)
behind_sign sign (w ∷ a) b e =
    let parts = or_parts (bytes_eq w sign) (has sign a) e in
    ap (λ t. if t then a ++ sign ∷ b else behind sign (a ++ sign ∷ b)) parts.0 ∙ behind_sign sign a b parts.1

pub has_sign : (sign : List ℕ) (a b : Words) → has sign (a ++ sign ∷ b) ≡ true
has_sign sign [] b = ap (λ t. t || has sign b) (own_word sign)
has_sign sign (w ∷ a) b = by_word (bytes_eq w sign) (has sign (a ++ sign ∷ b)) (has_sign sign a b)
  where
    by_word : (t v : Bool) → v ≡ true → (t || v) ≡ true
    by_word true v e = refl
    by_word false v e = e

-- the two sides of the first such word
pub two_sides : (sign : List ℕ) (words : Words) → has sign words ≡ true → (words ≡ before sign words ++ sign ∷ behind sign words) × (has sign (before sign words) ≡ false)
two_sides sign [] h = absurd (true≢false (sym h))
two_sides sign (w ∷ words) h = by_word (two_sides sign words) (bytes_eq w sign) refl
  where
    by_word : (has sign words ≡ true → (words ≡ before sign words ++ sign ∷ behind sign words) × (has sign (before sign words) ≡ false)) → (t : Bool) → bytes_eq w sign ≡ t → (w ∷ words ≡ before sign (w ∷ words) ++ sign ∷ behind sign (w ∷ words)) × (has sign (before sign (w ∷ words)) ≡ false)
    by_word rest true e = rw e (ap (λ x. x ∷ words) (same_text w sign e), refl)
    by_word rest false e =
        let both = rest (sym (ap (λ t. t || has sign words) e) ∙ h) in
        rw e (ap (λ ws. w ∷ ws) both.0, rw e both.1)

-- where there is none, nothing is cut
pub before_none : (sign : List ℕ) (words : Words) → has sign words ≡ false → before sign words ≡ words
before_none sign [] h = refl
before_none sign (w ∷ words) h =
    let parts = or_parts (bytes_eq w sign) (has sign words) h in
    ap (λ t. if t then [] else w ∷ before sign words) parts.0 ∙ ap (λ ws. w ∷ ws) (before_none sign words parts.1)

pub cut_none : (sign : List ℕ) (words : Words) → has sign words ≡ false → cut sign words ≡ words ∷ []
cut_none sign [] h = refl
cut_none sign (w ∷ words) h =
    let parts = or_parts (bytes_eq w sign) (has sign words) h in
    ap (λ t. if t then [] ∷ cut sign words else onto_first w (cut sign words)) parts.0 ∙ ap (onto_first w) (cut_none sign words parts.1)

pub cut_sign : (sign : List ℕ) (a b : Words) → has sign a ≡ false → cut sign (a ++ sign ∷ b) ≡ a ∷ cut sign b
cut_sign sign [] b h = ap (λ t. if t then [] ∷ cut sign b else onto_first sign (cut sign b)) (own_word sign)
cut_sign sign (w ∷ a) b h =
    let parts = or_parts (bytes_eq w sign) (has sign a) h in
    ap (λ t. if t then [] ∷ cut sign (a ++ sign ∷ b) else onto_first w (cut sign (a ++ sign ∷ b))) parts.0 ∙ ap (onto_first w) (cut_sign sign a b parts.1)

-- what a sign separates is cut at it again
pub cut_separated : (sign : List ℕ) (part : Words) (parts : List Words) → AllByRecursion (λ p. has sign p ≡ false) (part ∷ parts) → cut sign (separated sign (part ∷ parts)) ≡ part ∷ parts
cut_separated sign part [] h = ap (cut sign) (append-nil part) ∙ cut_none sign part h.0
cut_separated sign part (next ∷ more) h = cut_sign sign part (separated sign (next ∷ more)) h.0 ∙ ap (λ ps. part ∷ ps) (cut_separated sign next more h.1)

-- a list of words that begins with a word
pub onto_separated : (sign w : List ℕ) (parts : List Words) → 1 ≤ length parts → separated sign (onto_first w parts) ≡ w ∷ separated sign parts
onto_separated sign w [] h = absurd (omega (arith, h))
onto_separated sign w (part ∷ parts) h = refl

pub some_onto : (w : List ℕ) (parts : List Words) → 1 ≤ length parts → 1 ≤ length (onto_first w parts)
some_onto w [] h = omega arith
some_onto w (part ∷ parts) h = omega arith

pub cut_some : (sign : List ℕ) (words : Words) → 1 ≤ length (cut sign words)
cut_some sign [] = omega arith
cut_some sign (w ∷ words) = by_word (cut_some sign words) (bytes_eq w sign) refl
  where
    by_word : 1 ≤ length (cut sign words) → (t : Bool) → bytes_eq w sign ≡ t → 1 ≤ length (cut sign (w ∷ words))
    by_word some true e = rw e (omega arith)
    by_word some false e = rw e (some_onto w (cut sign words) some)

each_behind_some : (sign : List ℕ) (parts : List Words) → 1 ≤ length parts → each_behind sign parts ≡ sign ∷ separated sign parts
each_behind_some sign [] h = absurd (omega (arith, h))
each_behind_some sign (part ∷ parts) h = refl

-- the lists of words that words are cut into, with the sign between them, are the words
pub separated_cut : (sign : List ℕ) (words : Words) → separated sign (cut sign words) ≡ words
separated_cut sign [] = refl
separated_cut sign (w ∷ words) = by_word (separated_cut sign words) (bytes_eq w sign) refl
  where
    by_word : separated sign (cut sign words) ≡ words → (t : Bool) → bytes_eq w sign ≡ t → separated sign (cut sign (w ∷ words)) ≡ w ∷ words
    by_word same true e = rw e (each_behind_some sign (cut sign words) (cut_some sign words) ∙ ap (λ ws. sign ∷ ws) same ∙ ap (λ x. x ∷ words) (sym (same_text w sign e)))
    by_word same false e = rw e (onto_separated sign w (cut sign words) (cut_some sign words) ∙ ap (λ ws. w ∷ ws) same)

onto_whole : (sign w : List ℕ) (parts : List Words) → bytes_eq w sign ≡ false → AllByRecursion (λ p. has sign p ≡ false) parts → AllByRecursion (λ p. has sign p ≡ false) (onto_first w parts)
onto_whole sign w [] e h = (or_from (bytes_eq w sign) false e refl, tt)
onto_whole sign w (part ∷ parts) e h = (or_from (bytes_eq w sign) (has sign part) e h.0, h.1)

-- none of them holds the sign
pub cut_whole : (sign : List ℕ) (words : Words) → AllByRecursion (λ p. has sign p ≡ false) (cut sign words)
cut_whole sign [] = (refl, tt)
cut_whole sign (w ∷ words) = by_word (cut_whole sign words) (bytes_eq w sign) refl
  where
    by_word : AllByRecursion (λ p. has sign p ≡ false) (cut sign words) → (t : Bool) → bytes_eq w sign ≡ t → AllByRecursion (λ p. has sign p ≡ false) (cut sign (w ∷ words))
    by_word whole true e = rw e (refl, whole)
    by_word whole false e = rw e (onto_whole sign w (cut sign words) e whole)
