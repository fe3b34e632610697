use Rattle.std.proofs.Common.{◌≡◌, List, ℕ, ◌∷◌, [], ◌++◌, ap, ◌∙◌, append_assoc, codes}
use Rattle.std.specs.Prelude.{decimal}
use Rattle.framesweep_cli.specs.Lines.{what_text}
use Rattle.framesweep_cli.proofs.lines.too_many.Goals as goal

-- the pieces of the line, one behind the other
joined : (head digits reason what end a b z : List ℕ) → a ≡ head ++ (digits ++ reason) → b ≡ a ++ what → z ≡ b ++ end → z ≡ head ++ (digits ++ (reason ++ (what ++ end)))
joined head digits reason what end a b z first second third =
    third ∙ ap (λ v. v ++ end) (second ∙ ap (λ v. v ++ what) first) ∙ simp append_assoc

pub returns : goal.returns
returns c =
    joined (codes "framesweep: line ") (decimal c.args.line) (codes ": too many ") (what_text c.args.what) (10 ∷ []) _ _ _
    c.in_ok-text.ensures
    (c.in_ok-extend_from_slice.ensures.ok ∙ ap (λ w. c.in_ok-text.text ++ w) c.what_text.ensures)
    c.in_ok-extend_from_slice-2.ensures.ok
