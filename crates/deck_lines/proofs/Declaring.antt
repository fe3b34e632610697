-- What a fold says.
use Rattle.std.proofs.Common.{◌≡◌, ℕ, true, List, refl, sym, ap, ◌∙◌, arith, subst}
use Rattle.std.specs.Prelude.{◌&&◌, codes, Option, Some, None, Result, Ok, if◌then◌else◌}
use Rattle.std.specs.Option.{is_some}
use Rattle.script_tree.specs.declared.value.Value.{Value}
use Rattle.script_tree.specs.Scripts.{Scripted}
use Rattle.expr_script.specs.Spelled.{SpellsScript}
use Rattle.signal_graph.specs.declared.builder.DeclKind.TheVariants as kind
use Rattle.deck_lines.specs.declared.fault.LineFault.{LineFault}
use Rattle.deck_lines.specs.declared.line.Line.{Line}
use Rattle.deck_lines.specs.declared.line.Line.TheVariants.{Declares}
use Rattle.deck_lines.specs.Cuts.{has, before, behind}
use Rattle.deck_lines.specs.Forms.{Words, Fold}
use Rattle.deck_lines.specs.Lines.{IsRead, IsReadAs}
use Rattle.deck_lines.specs.Reading.{fold_by}
use Rattle.deck_lines.specs.Values.{value_of}

pub fold_says : (name : List ℕ) (start script : Words) (value : Value) (found : Scripted) → value_of start ≡ Some value → SpellsScript true script found → IsReadAs (Fold name start script) (Ok (Declares name (kind.Fold value found)))
fold_says name start script value found e s = (
  (value, found, e, s, refl),
  (
    (record { tree = found.tree; spells = s.tree; shallow = s.shallow }, tt),
    (((s.few, tt), omega arith), (tt, (omega arith, (omega arith, (omega arith, tt))))),
  ),
)

fold_test : (name : List ℕ) (words start script : Words) → has (codes ":") words ≡ true → start ≡ before (codes ":") words → script ≡ behind (codes ":") words → fold_by (name, words) ≡ (if is_some (value_of start) then Some (Fold name start script) else None)
fold_test name words start script h b e =
    ap (λ t. if t && is_some (value_of (before (codes ":") words)) then Some (Fold name (before (codes ":") words) (behind (codes ":") words)) else None) h
    ∙ ap (λ ws. if is_some (value_of ws) then Some (Fold name ws (behind (codes ":") words)) else None) (sym b)
    ∙ ap (λ ws. if is_some (value_of start) then Some (Fold name start ws) else None) (sym e)

pub no_fold : (name : List ℕ) (words start script : Words) → has (codes ":") words ≡ true → start ≡ before (codes ":") words → script ≡ behind (codes ":") words → value_of start ≡ None → fold_by (name, words) ≡ None
no_fold name words start script h b e v = fold_test name words start script h b e ∙ ap (λ (o : Option Value). if is_some o then Some (Fold name start script) else None) v

pub fold_found : (name : List ℕ) (words start script : Words) (value : Value) (result : Result Line LineFault) → has (codes ":") words ≡ true → start ≡ before (codes ":") words → script ≡ behind (codes ":") words → value_of start ≡ Some value → IsReadAs (Fold name start script) result → IsRead (fold_by (name, words)) result
fold_found name words start script value result h b e v made =
    subst (λ f. IsRead f result) (sym (fold_test name words start script h b e ∙ ap (λ (o : Option Value). if is_some o then Some (Fold name start script) else None) v)) made
