-- Reading on through looks.
use Rattle.std.proofs.Common.{◌≡◌, ℕ, List, [], ◌∷◌, ◌++◌, length, refl, sym, ◌∙◌, append_assoc, arith, codes}
use Rattle.std.specs.List.{zip}
use Rattle.std.proofs.lemmas.List.{append_cancel_left}
use Rattle.script_tree.specs.declared.value.Value.{Value}
use Rattle.script_tree.proofs.Lists.{all_end, same_first, not_empty, zip_end}
use Rattle.report_text.specs.Pieces.{Ends}
use Rattle.report_text.specs.Report.{named_value, more_looks}
use Rattle.report_text.specs.Printed.{IsLook, AreLooks}
use Rattle.report_text.proofs.Unique.{one_named, numbers_differ}

-- where a text is looks up to the end of a line, so is what is left of it
pub record Left (rest after : List ℕ) : Type 0 where
  pub looks : List (List ℕ × Value)
  pub are : AreLooks looks
  pub text : rest ≡ more_looks looks ++ 10 ∷ after

abbrev pub StaysWithin : List ℕ → List ℕ → Type 0
StaysWithin text rest = (looks : List (List ℕ × Value)) (after : List ℕ) → AreLooks looks → text ≡ more_looks looks ++ 10 ∷ after → Left rest after

pub stays_first : (text : List ℕ) → StaysWithin text text
stays_first text = λ looks after are e. record { looks = looks; are = are; text = e }

-- looks go on with a comma, or end with the line
pub looks_end : (looks : List (List ℕ × Value)) (after : List ℕ) → Ends (more_looks looks ++ 10 ∷ after)
looks_end [] after = refl
looks_end (look ∷ looks) after = refl

left_behind : (looks : List (List ℕ × Value)) (name : List ℕ) (value : Value) (rest behind after : List ℕ) → AreLooks looks → IsLook (name, value) → Ends behind
    → rest ≡ codes ", " ++ (named_value (name, value) ++ behind) → rest ≡ more_looks looks ++ 10 ∷ after → Left behind after
left_behind [] name value rest behind after are is ends e left = absurd (numbers_differ 10 44 (omega arith) (sym (same_first 44 10 _ _ (sym e ∙ left))))
left_behind (look ∷ looks) name value rest behind after are is ends e left =
    let flat = left ∙ append_assoc (codes ", " ++ named_value look) (more_looks looks) (10 ∷ after) ∙ append_assoc (codes ", ") (named_value look) (more_looks looks ++ 10 ∷ after) in
    let parts = one_named name look.0 value look.1 behind (more_looks looks ++ 10 ∷ after) is.0 are.0.0 is.1 are.0.1 ends (looks_end looks after)
    (append_cancel_left (codes ", ") (named_value (name, value) ++ behind) (named_value look ++ (more_looks looks ++ 10 ∷ after)) (sym e ∙ flat)) in
    record { looks = looks; are = are.1; text = parts.2 }

pub stays : (text rest behind name : List ℕ) (value : Value) → StaysWithin text rest → IsLook (name, value) → Ends behind → rest ≡ codes ", " ++ (named_value (name, value) ++ behind) → StaysWithin text behind
stays text rest behind name value before is ends e = λ looks after are whole.
    let left = before looks after are whole in left_behind left.looks name value rest behind after left.are is ends e left.text

left_alone : (looks : List (List ℕ × Value)) (rest after : List ℕ) → AreLooks looks → ((look : List ℕ × Value) (behind : List ℕ) → IsLook look → Ends behind → rest ≡ codes ", " ++ (named_value look ++ behind) → ⊥)
    → rest ≡ more_looks looks ++ 10 ∷ after → rest ≡ 10 ∷ after
left_alone [] rest after are none left = left
left_alone (look ∷ looks) rest after are none left =
    absurd (none look (more_looks looks ++ 10 ∷ after) are.0 (looks_end looks after)
    (left ∙ append_assoc (codes ", " ++ named_value look) (more_looks looks) (10 ∷ after) ∙ append_assoc (codes ", ") (named_value look) (more_looks looks ++ 10 ∷ after)))

-- where no look is left, what is left is the end of the line
pub stays_last : (text rest : List ℕ) → StaysWithin text rest → ((look : List ℕ × Value) (behind : List ℕ) → IsLook look → Ends behind → rest ≡ codes ", " ++ (named_value look ++ behind) → ⊥)
    → (looks : List (List ℕ × Value)) (after : List ℕ) → AreLooks looks → text ≡ more_looks looks ++ 10 ∷ after → rest ≡ 10 ∷ after
stays_last text rest before none = λ looks after are whole. let left = before looks after are whole in left_alone left.looks rest after left.are none left.text

pub nothing_left : (rest : List ℕ) → rest ≡ [] → (look : List ℕ × Value) (behind : List ℕ) → IsLook look → Ends behind → rest ≡ codes ", " ++ (named_value look ++ behind) → ⊥
nothing_left rest none look behind is ends e = not_empty 44 _ (sym e ∙ none)

pub looks_are_added : (names : List (List ℕ)) (values : List Value) (name : List ℕ) (value : Value) → length values ≡ length names → AreLooks (zip names values) → IsLook (name, value) → AreLooks (zip (names ++ name ∷ []) (values ++ value ∷ []))
looks_are_added names values name value e are is = rw (zip_end names values name value (sym e)) (all_end IsLook (zip names values) (name, value) are is)
