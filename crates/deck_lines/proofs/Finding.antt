-- From the form that is found to the one that fits.
use Rattle.std.proofs.Common.{◌≡◌, ℕ, List, ◌∷◌, refl, sym, ap, ◌∙◌, subst}
use Rattle.std.specs.Prelude.{Option, Some, None, Result, Ok, Err, IfOk, IfErr}
use Rattle.std.specs.Option.{option_and_then}
use Rattle.std.proofs.lemmas.Option.{none-some, same_Some}
use Rattle.deck_lines.specs.declared.fault.Limit.{Limit}
use Rattle.deck_lines.specs.declared.fault.LineFault.{LineFault}
use Rattle.deck_lines.specs.declared.fault.LineFault.TheVariants.{Syntax, TooMany, Memory}
use Rattle.deck_lines.specs.declared.keyword.Keyword.{Keyword}
use Rattle.deck_lines.specs.declared.line.Line.{Line}
use Rattle.deck_lines.specs.Forms.{Words, Form, Fits}
use Rattle.deck_lines.specs.Limits.{IsWrong, One, scripts_of}
use Rattle.deck_lines.specs.Lines.{IsRead, IsLine, IsLineFault, GoesBeyond}
use Rattle.deck_lines.specs.Reading.{keyword_of, form_by, form_of}
use Rattle.deck_lines.proofs.Fitting.{found_fits, fits_found}

pub words_read : (words rest : Words) (word : List ℕ) (k : Keyword) → words ≡ word ∷ rest → Some k ≡ keyword_of word → form_of words ≡ form_by k rest
words_read words rest word k e h = ap form_of e ∙ ap (option_and_then (λ j. form_by j rest)) (sym h)

pub no_keyword : (words rest : Words) (word : List ℕ) → words ≡ word ∷ rest → None ≡ keyword_of word → form_of words ≡ None
no_keyword words rest word e h = ap form_of e ∙ ap (option_and_then (λ j. form_by j rest)) (sym h)

pub ruleset read_laws = (words_read, no_keyword)

line_by : (words : Words) (o : Option Form) (line : Line) → form_of words ≡ o → IsRead o (Ok line) → IsLine words line
line_by words None line e h = absurd h
line_by words (Some f) line e h = record { f = f; fits = found_fits words f e; says = h.0; within = h.1 }

wrong_by : (words : Words) (o : Option Form) → form_of words ≡ o → IsRead o (Err Syntax) → (f : Form) → Fits words f → One IsWrong (scripts_of f)
wrong_by words None e h f fits = absurd (none-some f (sym e ∙ fits_found words f fits))
wrong_by words (Some g) e h f fits = subst (λ x. One IsWrong (scripts_of x)) (same_Some g f (sym e ∙ fits_found words f fits)) h

beyond_by : (words : Words) (o : Option Form) (limit : Limit) → form_of words ≡ o → IsRead o (Err (TooMany limit)) → GoesBeyond words limit
beyond_by words None limit e h = absurd h
beyond_by words (Some f) limit e h = record { f = f; fits = found_fits words f e; beyond = h }

pub is_line : (words : Words) (result : Result Line LineFault) → IsRead (form_of words) result → IfOk result (IsLine words)
is_line words (Ok line) h = line_by words (form_of words) line refl h
is_line words (Err fault) h = tt

pub is_fault : (words : Words) (result : Result Line LineFault) → IsRead (form_of words) result → IfErr result (IsLineFault words)
is_fault words (Ok line) h = tt
is_fault words (Err Syntax) h = wrong_by words (form_of words) refl h
is_fault words (Err (TooMany limit)) h = beyond_by words (form_of words) limit refl h
is_fault words (Err Memory) h = tt
