use Rattle.std.proofs.Common.{◌≡◌, ℕ, List, ◌++◌, ap, ◌∙◌, append_assoc, codes}
use Rattle.std.specs.Prelude.{decimal}
use Rattle.report_text.proofs.lines.print_fire.Goals as goal

-- three pieces, printed one behind the other
joined : (o l1 d1 l2 d2 f a b z : List ℕ) → a ≡ o ++ (l1 ++ d1) → b ≡ a ++ (l2 ++ d2) → z ≡ b ++ f → z ≡ o ++ (l1 ++ (d1 ++ (l2 ++ (d2 ++ f))))
joined o l1 d1 l2 d2 f a b z first second third =
    third ∙ ap (λ v. v ++ f) (second ∙ ap (λ v. v ++ (l2 ++ d2)) first) ∙ simp append_assoc

pub returns-clause-text : goal.returns-clause-text
returns-clause-text c =
    joined c.args.out.now (codes " fire changed ") (decimal c.args.changed) (codes " evaluated ") (decimal c.args.evaluated) _ _ _ _
    c.in_ok-print_count.ensures.text c.in_ok-print_count-2.ensures.text c.in_ok-print_fire_looks.ensures.text
