-- What `print` writes, as input again.
use Rattle.std.proofs.Common.{◌≡◌, ℕ, ◌+◌, ◌≤◌, List, Some, length, sym, subst, ◌∙◌, arith}
use Rattle.std.proofs.lemmas.List.{take_all}
use Rattle.script_tree.specs.declared.limits.TheConstants.{DECK_BYTES}
use Rattle.command_words.specs.declared.command.Command.{Command}
use Rattle.command_words.specs.declared.command.Command.TheVariants.{Print}
use Rattle.deck_text.specs.Decks.{Decked}
use Rattle.deck_text.specs.Printed.{canonical}
use Rattle.deck_text.specs.Spelled.{Spell, SpellsDeck}
use Rattle.framesweep_cli.specs.declared.input.Input.{Input}
use Rattle.framesweep_cli.specs.declared.reading.Reading.TheVariants.{Deck}
use Rattle.framesweep_cli.specs.Inputs.{reading_of, IsGiven}
use Rattle.framesweep_cli.specs.Endings.{Makes}
use Rattle.framesweep_cli.proofs.Completing.{OneDeck}

-- a canonical text spells its deck
abbrev pub ReadsBack : Type 0
ReadsBack = (text : List (List ℕ)) (deck : Decked) → Spell text deck → length (canonical deck) ≤ DECK_BYTES
    → SpellsDeck (canonical deck) deck

-- an input that is a deck alone is read of the deck's canonical text too
read_again : OneDeck → ReadsBack → (left text : List ℕ) (printed input : Input) → IsGiven (Some Deck) (Some left) printed
    → text ≡ canonical printed.deck → length text ≤ DECK_BYTES
    → IsGiven (Some Deck) (Some left) input → IsGiven (Some Deck) (Some text) input
read_again one back left text printed input a is short b =
    let bytes = b.given ∙ sym a.given in
    let spelled = a.says.0 in
    let same = one a.bytes printed.deck input.deck spelled
    (subst (λ (bytes : List ℕ). SpellsDeck bytes input.deck) bytes b.says.0) in
    let read = back _ printed.deck spelled.spells (subst (λ (t : List ℕ). length t ≤ DECK_BYTES) is short) in
    record {
      bytes = text;
      given = sym (take_all (DECK_BYTES + 1) text (omega (arith, short)));
      says = (subst (SpellsDeck text) same (subst (λ (t : List ℕ). SpellsDeck t printed.deck) (sym is) read), b.says.1);
    }

pub made_again : OneDeck → ReadsBack → (command : Command) (left text output : List ℕ) → reading_of command ≡ Some Deck
    → Makes Print (Some left) text → length text ≤ DECK_BYTES
    → Makes command (Some left) output → Makes command (Some text) output
made_again one back command left text output reads printed short made =
    let b = subst (λ r. IsGiven r (Some left) made.input) reads made.given in
    let again = read_again one back left text printed.input made.input printed.given printed.output short b in
    record {
      input = made.input;
      given = subst (λ r. IsGiven r (Some text) made.input)
          (sym reads) again;
      output = made.output;
    }
