use Rattle.std.proofs.Common.{List, true, false, length, sym, ap, ◌∙◌, subst}
use Rattle.std.specs.Prelude.{Ok}
use Rattle.signal_graph.specs.declared.builder.DeclKind.TheVariants as kind
use Rattle.signal_graph.specs.Declarations.{Part, AreParts, script_names, different_names}
use Rattle.deck_lines.specs.declared.line.Line.TheVariants.{Declares}
use Rattle.deck_lines.specs.Forms.{Choose}
use Rattle.deck_lines.specs.Lines.{IsReadAs}
use Rattle.deck_lines.proofs.Judging.{too_deep, too_many, many_together, too_crowded, too_long, chosen, chosen_kept, deep_ones, many_ones, all_there, crowd_is}
use Rattle.deck_lines.proofs.choose.judge.Goals as goal

pub returns-then-selectors-clause-read : goal.returns-then-selectors-clause-read
returns-then-selectors-clause-read c = λ parts words g b.
    let s = c.args.selectors in
    too_deep c.args.name parts words c.args.over s.many s.within.items (deep_ones parts s.deep s.many s.within.items g.scripts c.if-selectors.true) b

pub returns-then-selectors-2-clause-read : goal.returns-then-selectors-2-clause-read
returns-then-selectors-2-clause-read c = λ parts words g b.
    let s = c.args.selectors in
    too_many c.args.name parts words c.args.over s.within.items (many_ones parts s.deep s.many s.within.items g.scripts c.if-selectors.false c.if-selectors-2.true) b

pub returns-then-branch-gt-INPUTS-clause-read : goal.returns-then-branch-gt-INPUTS-clause-read
returns-then-branch-gt-INPUTS-clause-read c = λ parts words g b.
    let s = c.args.selectors in
    let counted = c.in_ok-different_inputs.ensures ∙ ap (λ ps. length (different_names (script_names ps))) c.as_slice.ensures.value in
    many_together c.args.name parts words c.args.over s.within.items c.in_ok-different_inputs.field-0 (all_there parts s.deep s.many s.within.items g.scripts c.if-selectors.false c.if-selectors-2.false) b counted c.if-branch-gt-INPUTS.true

pub returns-then-selectors-3-clause-read : goal.returns-then-selectors-3-clause-read
returns-then-selectors-3-clause-read c = λ parts words g b.
    let s = c.args.selectors in
    let counted = c.in_ok-different_inputs.ensures ∙ ap (λ ps. length (different_names (script_names ps))) c.as_slice.ensures.value in
    too_crowded c.args.name parts words c.args.over s.within.items c.in_ok-different_inputs.field-0 (all_there parts s.deep s.many s.within.items g.scripts c.if-selectors.false c.if-selectors-2.false) b counted c.if-branch-gt-INPUTS.false
    (crowd_is parts s.crowded true g.crowd c.if-selectors-3.true)

pub returns-then-selectors-gt-SELECTORS-clause-read : goal.returns-then-selectors-gt-SELECTORS-clause-read
returns-then-selectors-gt-SELECTORS-clause-read c = λ parts words g b.
    let s = c.args.selectors in
    let counted = c.in_ok-different_inputs.ensures ∙ ap (λ ps. length (different_names (script_names ps))) c.as_slice.ensures.value in
    too_long c.args.name parts words c.args.over s.within.items c.in_ok-different_inputs.field-0 s.count (all_there parts s.deep s.many s.within.items g.scripts c.if-selectors.false c.if-selectors-2.false) b counted c.if-branch-gt-INPUTS.false
    (crowd_is parts s.crowded false g.crowd c.if-selectors-3.false) g.count c.if-selectors-gt-SELECTORS.true

pub returns-clause-read : goal.returns-clause-read
returns-clause-read c = λ parts words g b.
    let s = c.args.selectors in
    let counted = c.in_ok-different_inputs.ensures ∙ ap (λ ps. length (different_names (script_names ps))) c.as_slice.ensures.value in
    subst (λ (ps : List Part). IsReadAs (Choose c.args.name parts words) (Ok (Declares c.args.name (kind.Choose ps c.args.over)))) (sym c.from_vec.ensures)
    (chosen c.args.name parts words c.args.over s.within.items c.in_ok-different_inputs.field-0 s.count (all_there parts s.deep s.many s.within.items g.scripts c.if-selectors.false c.if-selectors-2.false) b counted c.if-branch-gt-INPUTS.false
    (crowd_is parts s.crowded false g.crowd c.if-selectors-3.false) g.count c.if-selectors-gt-SELECTORS.false)

pub returns-clause-kept : goal.returns-clause-kept
returns-clause-kept c = λ parts g some fits.
    let s = c.args.selectors in
    let counted = c.in_ok-different_inputs.ensures ∙ ap (λ ps. length (different_names (script_names ps))) c.as_slice.ensures.value in
    subst (λ (ps : List Part). AreParts ps c.args.over) (sym c.from_vec.ensures)
    (chosen_kept parts c.args.over s.within.items c.in_ok-different_inputs.field-0 s.count (all_there parts s.deep s.many s.within.items g.scripts c.if-selectors.false c.if-selectors-2.false) counted c.if-branch-gt-INPUTS.false
    (crowd_is parts s.crowded false g.crowd c.if-selectors-3.false) g.sound g.count c.if-selectors-gt-SELECTORS.false some fits)
