-- One more line, and one more look, behind those that were read.
use Rattle.std.proofs.Common.{◌≡◌, ℕ, ◌+◌, ◌<◌, ◌≤◌, List, [], ◌∷◌, ◌++◌, length, refl, sym, ap, ◌∙◌, append_assoc, append-nil, length-append, arith, codes, Bool, false, true≢false}
use Rattle.std.specs.Prelude.{IsTrue, decimal}
use Rattle.std.specs.List.{flat_map, zip}
use Rattle.std.proofs.lemmas.List.Concat.{flat_map-append}
use Rattle.script_tree.specs.declared.value.Value.{Value}
use Rattle.script_tree.proofs.Lists.{zip_end}
use Rattle.report_text.specs.Report.{counted, named_value, more_looks, looks_text, fire_looks, fire_text}

-- what is left, once one more line is read
pub line_added : {A : Type 0} (f : A → List ℕ) (xs : List A) (x : A) (text rest after : List ℕ) → text ≡ flat_map f xs ++ rest → rest ≡ f x ++ after → text ≡ flat_map f (xs ++ x ∷ []) ++ after
line_added f xs x text rest after whole next =
    whole
    ∙ ap (λ v. flat_map f xs ++ v) next
    ∙ sym (append_assoc (flat_map f xs) (f x) after)
    ∙ ap (λ v. (flat_map f xs ++ v) ++ after) (sym (append-nil (f x)))
    ∙ ap (λ v. v ++ after) (sym (flat_map-append f xs (x ∷ [])))

pub looks_added : (names : List (List ℕ)) (values : List Value) (name : List ℕ) (value : Value) (whole rest after : List ℕ) → 0 < length names → length values ≡ length names
    → whole ≡ looks_text (zip names values) ++ rest → rest ≡ codes ", " ++ (named_value (name, value) ++ after)
    → whole ≡ looks_text (zip (names ++ name ∷ []) (values ++ value ∷ [])) ++ after
looks_added [] values name value whole rest after some e text next = absurd (omega (arith, some))
looks_added (n ∷ ns) [] name value whole rest after some e text next = absurd (omega (arith, e))
looks_added (n ∷ ns) (v ∷ vs) name value whole rest after some e text next =
    let shorter : length vs ≡ length ns = omega (arith, e) in
    let first = named_value (n, v) in
    let line : List ℕ × Value → List ℕ = λ look. codes ", " ++ named_value look in
    let more = line_added line (zip ns vs) (name, value) (more_looks (zip ns vs) ++ rest) rest after refl (next ∙ sym (append_assoc (codes ", ") (named_value (name, value)) after)) in
    text
    ∙ append_assoc first (more_looks (zip ns vs)) rest
    ∙ ap (λ t. first ++ t) more
    ∙ sym (append_assoc first (flat_map line (zip ns vs ++ (name, value) ∷ [])) after)
    ∙ ap (λ l. (first ++ flat_map line l) ++ after) (sym (zip_end ns vs name value (sym shorter)))

pub some_added : {A : Type 0} (xs : List A) (x : A) → 0 < length (xs ++ x ∷ [])
some_added xs x = omega (arith, length-append xs (x ∷ []))

pub each_added : {A B : Type 0} (xs : List A) (ys : List B) (x : A) (y : B) → length ys ≡ length xs → length (ys ++ y ∷ []) ≡ length (xs ++ x ∷ [])
each_added xs ys x y e = omega (arith, e, length-append xs (x ∷ []), length-append ys (y ∷ []))

-- the looks of a fire, where there are any
pub looked : (names : List (List ℕ)) (values : List Value) (some : Bool) (text behind rest : List ℕ) → some ≡ false → (names ≡ [] → IsTrue some) → length values ≡ length names
    → text ≡ codes " look " ++ behind → behind ≡ looks_text (zip names values) ++ rest → text ≡ fire_looks (zip names values) ++ rest
looked [] values some text behind rest none empty e first second = absurd (true≢false (sym (empty refl) ∙ none))
looked (n ∷ ns) [] some text behind rest none empty e first second = absurd (omega (arith, e))
looked (n ∷ ns) (v ∷ vs) some text behind rest none empty e first second =
    first ∙ ap (λ t. codes " look " ++ t) second ∙ sym (append_assoc (codes " look ") (looks_text (zip (n ∷ ns) (v ∷ vs))) rest)

-- two labels with their numbers, and what stands behind them, as one piece
joined : (l1 d1 l2 d2 f text rest after : List ℕ) → text ≡ l1 ++ (d1 ++ (l2 ++ (d2 ++ rest))) → rest ≡ f ++ after → text ≡ (l1 ++ (d1 ++ (l2 ++ (d2 ++ f)))) ++ after
joined l1 d1 l2 d2 f text rest after first second =
    first ∙ ap (λ v. l1 ++ (d1 ++ (l2 ++ (d2 ++ v)))) second ∙ simp append_assoc

pub fire_read : (a b : ℕ) (looks : List (List ℕ × Value)) (text rest after : List ℕ)
    → text ≡ counted (codes " fire changed ") a (counted (codes " evaluated ") b rest) → rest ≡ fire_looks looks ++ after → text ≡ fire_text a b looks ++ after
fire_read a b looks text rest after first second =
    joined (codes " fire changed ") (decimal a) (codes " evaluated ") (decimal b) (fire_looks looks) text rest after first second

-- every line takes a byte at least
pub few_added : {A : Type 0} (xs : List A) (x : A) (after rest text : List ℕ) → length xs + length rest ≤ length text → length after < length rest → length (xs ++ x ∷ []) + length after ≤ length text
few_added xs x after rest text few shorter = omega (arith, few, shorter, length-append xs (x ∷ []))
