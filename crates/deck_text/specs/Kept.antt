-- What every deck keeps, and what each line of its canonical text is.
use Rattle.std.specs.Prelude.{ℕ, ◌≤◌, List, length}
use Rattle.script_tree.specs.declared.limits.TheConstants.{LINE_BYTES}
use Rattle.deck_lines.specs.declared.line.Line.{Line}
use Rattle.deck_lines.specs.Canonical.{canonical_words, line_text}
use Rattle.deck_lines.specs.Lines.{IsLine}
use Rattle.deck_text.specs.Calls.{AreThreads}
use Rattle.deck_text.specs.Decks.{Decked}
use Rattle.deck_text.specs.Spelled.{Spell}

-- lines spell the deck, and its threads are those of a deck
pub record IsDeck (deck : Decked) : Type 0 where
  pub threads : AreThreads deck.scripts
  pub text : List (List ℕ)
  pub spelled : Spell text deck

-- the canonical words of a line say it, within all limits of a line, and its text is not too long
pub record IsCanonical (line : Line) : Type 0 where
  pub says : IsLine (canonical_words line) line
  pub short : length (line_text line) ≤ LINE_BYTES
