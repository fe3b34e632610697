-- A line whose names are names and whose scripts are well formed is said by its canonical words.
use Rattle.std.proofs.Common.{◌≡◌, ℕ, ◌^◌, ◌<◌, ◌≤◌, Bool, true, false, List, [], ◌∷◌, length, refl, ap, arith, subst}
use Rattle.std.specs.Prelude.{pos, None}
use Rattle.std.specs.Option.{is_some}
use Rattle.std.specs.List.{AllByRecursion}
use Rattle.script_tree.specs.declared.limits.TheConstants.{INPUTS, CANDIDATES}
use Rattle.script_tree.specs.declared.value.Value.TheVariants.{Int}
use Rattle.script_tree.specs.Scripts.{Scripted}
use Rattle.expr_script.specs.declared.atoms.Atoms.TheVariants.{Script}
use Rattle.expr_script.specs.Pieces.{words}
use Rattle.expr_script.specs.Printed.{printed, printed_words}
use Rattle.expr_script.specs.Spelled.{FormedScript, IsShallow, SpellsScript}
use Rattle.expr_script.specs.Words.{value}
use Rattle.signal_graph.specs.declared.builder.DeclKind.TheVariants as kind
use Rattle.signal_graph.specs.declared.call.Call.TheVariants as call
use Rattle.signal_graph.specs.Declarations.{Part, script_names, different_names}
use Rattle.deck_lines.specs.declared.line.Line.TheVariants.{Declares, Thread, Calls}
use Rattle.deck_lines.specs.Canonical.{value_words, set_form, part_form, canonical_words}
use Rattle.deck_lines.specs.Forms as form
use Rattle.deck_lines.specs.Forms.{IsName}
use Rattle.deck_lines.specs.Lines.{IsLine}
use Rattle.deck_lines.proofs.Judging.{chosen}
use Rattle.deck_lines.proofs.NoSigns.{no_colon, no_among}
use Rattle.deck_lines.proofs.ValueBack.{plain_back}

-- the canonical words of scripts spell them
pub record Canons : Type 0 where
  pub spells : (acc : Bool) (script : Scripted) → FormedScript acc script → IsShallow script → SpellsScript acc (words (printed script)) script
  pub words_are : (acc : Bool) (script : Scripted) → FormedScript acc script → words (printed script) ≡ printed_words script

-- a script that a line can hold
pub record IsSayable (acc : Bool) (script : Scripted) : Type 0 where
  pub formed : FormedScript acc script
  pub shallow : IsShallow script

spelled : Canons → (acc : Bool) (script : Scripted) → IsSayable acc script → SpellsScript acc (printed_words script) script
spelled k acc script h = subst (λ (ws : List (List ℕ)). SpellsScript acc ws script) (k.words_are acc script h.formed) (k.spells acc script h.formed h.shallow)

pub source_said : (name : List ℕ) (n : ℕ) → IsName name → n < 2 ^ 63 → IsLine (canonical_words (Declares name (kind.Source (Int (pos n))))) (Declares name (kind.Source (Int (pos n))))
source_said name n h low =
    let back = plain_back n low in
    record {
      f = form.Source name (value_words (Int (pos n)));
      fits = record { same = refl; proper = (h, ap is_some back) };
      says = (Int (pos n), back, refl);
      within = (tt, ((tt, omega arith), (tt, (omega arith, (omega arith, (omega arith, tt))))));
    }

pub signal_said : Canons → (name : List ℕ) (script : Scripted) → IsName name → IsSayable false script → IsLine (canonical_words (Declares name (kind.Signal script))) (Declares name (kind.Signal script))
signal_said k name script h s =
    let back = spelled k false script s in
    record {
      f = form.Signal name (printed_words script);
      fits = record { same = refl; proper = h };
      says = (script, back, refl);
      within = ((record { tree = script.tree; spells = back.tree; shallow = back.shallow }, tt), (((back.few, tt), omega arith), (tt, (omega arith, (omega arith, (omega arith, tt))))));
    }

pub fold_said : Canons → (name : List ℕ) (n : ℕ) (script : Scripted) → IsName name → n < 2 ^ 63 → IsSayable true script → IsLine (canonical_words (Declares name (kind.Fold (Int (pos n)) script))) (Declares name (kind.Fold (Int (pos n)) script))
fold_said k name n script h low s =
    let value = plain_back n low in
    let back = spelled k true script s in
    record {
      f = form.Fold name (value_words (Int (pos n))) (printed_words script);
      fits = record { same = refl; proper = (h, ap is_some value) };
      says = (Int (pos n), script, value, back, refl);
      within = ((record { tree = script.tree; spells = back.tree; shallow = back.shallow }, tt), (((back.few, tt), omega arith), (tt, (omega arith, (omega arith, (omega arith, tt))))));
    }

-- a choose with one selector and no body
pub choose_said : Canons → (name : List ℕ) (part : Part) → IsName name → IsSayable false part.0 → 1 ≤ length part.1 → length part.1 ≤ CANDIDATES → AllByRecursion IsName part.1
    → length (different_names (script_names (part ∷ []))) ≤ INPUTS
    → IsLine (canonical_words (Declares name (kind.Choose (part ∷ []) None))) (Declares name (kind.Choose (part ∷ []) None))
choose_said k name part h s some few named apart =
    let back = spelled k false part.0 s in
    let made = chosen name (part_form part ∷ []) None None (part ∷ []) (length (different_names (script_names (part ∷ [])))) 1 ((back, refl), tt) tt refl apart (few, tt) (omega arith) (omega arith) in
    record {
      f = form.Choose name (part_form part ∷ []) None;
      fits = record {
        same = refl;
        proper = (
          h,
          omega arith,
          (record { whole = no_colon (Script false) (printed_words part.0) part.0 back; script = no_among (Script false) (printed_words part.0) part.0 back; some = some; named = named }, tt),
          omega arith,
        );
      };
      says = made.0;
      within = made.1;
    }

pub thread_said : IsLine (canonical_words Thread) Thread
thread_said = record { f = form.Thread; fits = record { same = refl; proper = tt }; says = refl; within = (tt, ((tt, omega arith), (tt, (omega arith, (omega arith, (omega arith, tt)))))) }

-- a fire of one set and one look, and a read of one look
pub fire_said : (name look : List ℕ) (n : ℕ) → IsName name → IsName look → n < 2 ^ 63 → IsLine (canonical_words (Calls (call.Fire ((name, Int (pos n)) ∷ []) (look ∷ [])))) (Calls (call.Fire ((name, Int (pos n)) ∷ []) (look ∷ [])))
fire_said name look n h k low =
    let back = plain_back n low in
    record {
      f = form.Fire (set_form (name, Int (pos n)) ∷ []) (look ∷ []);
      fits = record { same = refl; proper = (omega arith, (record { named = h; start = ap is_some back }, tt), (k, tt)) };
      says = ((name, Int (pos n)) ∷ [], ((refl, back), tt), refl);
      within = (tt, ((tt, omega arith), (tt, (omega arith, (omega arith, (omega arith, tt))))));
    }

pub read_said : (look : List ℕ) → IsName look → IsLine (canonical_words (Calls (call.Read (look ∷ [])))) (Calls (call.Read (look ∷ [])))
read_said look h = record {
  f = form.Read (look ∷ []);
  fits = record { same = refl; proper = (omega arith, (h, tt)) };
  says = refl;
  within = (tt, ((tt, omega arith), (tt, (omega arith, (omega arith, (omega arith, tt))))));
}
