-- Words say one line.
use Rattle.std.proofs.Common.{◌≡◌, ◌≢◌, ℕ, Bool, true, false, List, [], ◌∷◌, refl, sym, ap, ◌∙◌, subst}
use Rattle.std.specs.Prelude.{Result, Ok, Err, Option, Some, None, length}
use Rattle.std.specs.List.{AllZip}
use Rattle.std.proofs.lemmas.Option.{same_Some}
use Rattle.script_tree.specs.declared.value.Value.{Value}
use Rattle.script_tree.specs.Scripts.{Scripted}
use Rattle.expr_script.specs.declared.faults.ScriptFault.{ScriptFault}
use Rattle.expr_script.specs.declared.faults.ScriptFault.TheVariants.{Memory}
use Rattle.expr_script.specs.Spelled.{SpellsScript, SpellsBody, IsScriptAnswer, IsBodyAnswer}
use Rattle.signal_graph.specs.declared.builder.DeclKind.TheVariants as kind
use Rattle.signal_graph.specs.declared.call.Call.TheVariants as call
use Rattle.signal_graph.specs.Declarations.{Part}
use Rattle.deck_lines.specs.declared.line.Line.{Line}
use Rattle.deck_lines.specs.declared.line.Line.TheVariants.{Declares, Calls}
use Rattle.deck_lines.specs.Forms as form
use Rattle.deck_lines.specs.Forms.{Words, SetForm, PartForm, Form}
use Rattle.deck_lines.specs.Lines.{SaysSet, SaysPart, SaysBody, Says, IsLine}
use Rattle.deck_lines.specs.Values.{value_of}
use Rattle.deck_lines.proofs.Fitting.{one_form}

is_found : Result Scripted ScriptFault → Bool
is_found (Ok s) = true
is_found (Err e) = false

found_is_there : (s : Scripted) → Ok s ≢ Err Memory
unfolding is_found
found_is_there s e = let f : true ≡ false = ap is_found e in cc

found : Scripted → Result Scripted ScriptFault → Scripted
found other (Ok s) = s
found other (Err e) = other

same_found : (a b : Scripted) → ◌≡◌ {A = Result Scripted ScriptFault} (Ok a) (Ok b) → a ≡ b
unfolding found
same_found a b e = ap (found a) e

-- words spell one script and one body
pub record OneEach : Type 0 where
  pub script : (acc : Bool) (words : Words) (a b : Scripted) → SpellsScript acc words a → SpellsScript acc words b → a ≡ b
  pub body : (picks : ℕ) (words : Words) (a b : Scripted) → SpellsBody picks words a → SpellsBody picks words b → a ≡ b

abbrev pub OneScriptAnswer : Type 0
OneScriptAnswer = (acc : Bool) (words : Words) (places : ℕ → ℕ) (a b : Result Scripted ScriptFault) → IsScriptAnswer acc words places a → IsScriptAnswer acc words places b → a ≢ Err Memory → b ≢ Err Memory → a ≡ b

abbrev pub OneBodyAnswer : Type 0
OneBodyAnswer = (picks : ℕ) (words : Words) (places : ℕ → ℕ) (a b : Result Scripted ScriptFault) → IsBodyAnswer picks words places a → IsBodyAnswer picks words places b → a ≢ Err Memory → b ≢ Err Memory → a ≡ b

pub one_each : OneScriptAnswer → OneBodyAnswer → OneEach
one_each s b = record {
  script = λ acc words x y p q. same_found x y (s acc words (λ n. n) (Ok x) (Ok y) p q (found_is_there x) (found_is_there y));
  body = λ picks words x y p q. same_found x y (b picks words (λ n. n) (Ok x) (Ok y) p q (found_is_there x) (found_is_there y));
}

one_value : (words : Words) (a b : Value) → value_of words ≡ Some a → value_of words ≡ Some b → a ≡ b
one_value words a b p q = same_Some a b (sym p ∙ q)

one_sets : (forms : List SetForm) (a b : List (List ℕ × Value)) → AllZip SaysSet forms a → AllZip SaysSet forms b → a ≡ b
one_sets [] [] [] x y = refl
one_sets [] [] (q ∷ b) x y = absurd y
one_sets [] (p ∷ a) b x y = absurd x
one_sets (f ∷ forms) [] b x y = absurd x
one_sets (f ∷ forms) (p ∷ a) [] x y = absurd y
one_sets (f ∷ forms) (p ∷ a) (q ∷ b) x y =
    ap (λ (n : List ℕ). (n, p.1) ∷ a) (sym x.0.0 ∙ y.0.0)
    ∙ ap (λ (v : Value). (q.0, v) ∷ a) (one_value f.1 p.1 q.1 x.0.1 y.0.1)
    ∙ ap (λ l. q ∷ l) (one_sets forms a b x.1 y.1)

one_parts : OneEach → (forms : List PartForm) (a b : List Part) → AllZip SaysPart forms a → AllZip SaysPart forms b → a ≡ b
one_parts one [] [] [] x y = refl
one_parts one [] [] (q ∷ b) x y = absurd y
one_parts one [] (p ∷ a) b x y = absurd x
one_parts one (f ∷ forms) [] b x y = absurd x
one_parts one (f ∷ forms) (p ∷ a) [] x y = absurd y
one_parts one (f ∷ forms) (p ∷ a) (q ∷ b) x y =
    ap (λ (s : Scripted). (s, p.1) ∷ a) (one.script false f.0 p.0 q.0 x.0.0 y.0.0)
    ∙ ap (λ (ns : List (List ℕ)). (q.0, ns) ∷ a) (sym x.0.1 ∙ y.0.1)
    ∙ ap (λ l. q ∷ l) (one_parts one forms a b x.1 y.1)

one_body : OneEach → (n : ℕ) (words : Option Words) (a b : Option Scripted) → SaysBody n words a → SaysBody n words b → a ≡ b
one_body one n None None None x y = refl
one_body one n None None (Some b) x y = absurd y
one_body one n None (Some a) b x y = absurd x
one_body one n (Some words) None b x y = absurd x
one_body one n (Some words) (Some a) None x y = absurd y
one_body one n (Some words) (Some a) (Some b) x y = ap Some (one.body _ words a b x y)

one_said : OneEach → (f : Form) (a b : Line) → Says f a → Says f b → a ≡ b
one_said one form.Nothing a b x y = x ∙ sym y
one_said one (form.Source name start) a b x y = x.2 ∙ ap (λ v. Declares name (kind.Source v)) (one_value start x.0 y.0 x.1 y.1) ∙ sym y.2
one_said one (form.Signal name words) a b x y = x.2 ∙ ap (λ s. Declares name (kind.Signal s)) (one.script false words x.0 y.0 x.1 y.1) ∙ sym y.2
one_said one (form.Fold name start words) a b x y =
    x.4
    ∙ ap (λ v. Declares name (kind.Fold v x.1)) (one_value start x.0 y.0 x.2 y.2)
    ∙ ap (λ s. Declares name (kind.Fold y.0 s)) (one.script true words x.1 y.1 x.3 y.3)
    ∙ sym y.4
one_said one (form.Choose name parts over) a b x y =
    x.4
    ∙ ap (λ ps. Declares name (kind.Choose ps x.1)) (one_parts one parts x.0 y.0 x.2 y.2)
    ∙ ap (λ o. Declares name (kind.Choose y.0 o)) (one_body one (length parts) over x.1 y.1 x.3 y.3)
    ∙ sym y.4
one_said one form.Thread a b x y = x ∙ sym y
one_said one (form.Fire sets looks) a b x y = x.2 ∙ ap (λ s. Calls (call.Fire s looks)) (one_sets sets x.0 y.0 x.1 y.1) ∙ sym y.2
one_said one (form.Read looks) a b x y = x ∙ sym y

pub one_line : OneEach → (words : Words) (a b : Line) → IsLine words a → IsLine words b → a ≡ b
one_line one words a b x y = one_said one y.f a b (subst (λ f. Says f a) (one_form words x.f y.f x.fits y.fits) x.says) y.says
