-- Names, values and lists of them among words.
use Rattle.std.proofs.Common.{◌≡◌, ℕ, Bool, true, false, List, [], ◌∷◌, refl, sym, ap, ◌∙◌, arith, subst}
use Rattle.std.specs.Prelude.{◌&&◌, ◌≤◌, length, map, codes, Option, Some, None, IsSome, if◌then◌else◌}
use Rattle.std.specs.Option.{option_map, option_and_then, is_some}
use Rattle.std.specs.List.{AllByRecursion}
use Rattle.std.specs.Str.{bytes_eq}
use Rattle.std.proofs.lemmas.Option.{none-some, same_Some, cond_some, option_and_then_some}
use Rattle.std.proofs.lemmas.Bool.{or_from, false≢true, and_parts}
use Rattle.script_tree.specs.Names.{is_name}
use Rattle.script_tree.proofs.Texts.{same_text}
use Rattle.deck_lines.specs.Forms.{Words, SetForm, IsName, IsValue, IsSet, with_commas, spelled_set}
use Rattle.deck_lines.specs.Cuts.{has, separated}
use Rattle.deck_lines.specs.Values.{one_word, below_zero, value_of}
use Rattle.deck_lines.specs.Reading.{cut, each, name_of, names_of, head_of, set_by, set_of, sets_of}
use Rattle.deck_lines.proofs.Cutting.{cut_separated, separated_cut}

pub there : {A : Type 0} (o : Option A) → is_some o ≡ true → (x : A) × (o ≡ Some x)
there None e = absurd (false≢true e)
there (Some x) e = (x, refl)

pub some_there : {A : Type 0} (o : Option A) → IsSome o → (x : A) × (o ≡ Some x)
some_there o h = there o h

pub map_some : {A B : Type 0} (f : A → B) (o : Option A) (y : B) → option_map f o ≡ Some y → (x : A) × (o ≡ Some x) × (f x ≡ y)
map_some f None y e = absurd (none-some y e)
map_some f (Some x) y e = (x, refl, same_Some (f x) y e)

-- a word that is no name isn't a name's
pub not_named : (name sign : List ℕ) → IsName name → is_name sign ≡ false → bytes_eq name sign ≡ false
not_named name sign h n = by_test (bytes_eq name sign) refl
  where
    by_test : (t : Bool) → bytes_eq name sign ≡ t → t ≡ false
    by_test true e = absurd (false≢true (sym n ∙ ap is_name (sym (same_text name sign e)) ∙ h))
    by_test false e = refl

-- a word that no value has
pub record NoValue (sign : List ℕ) : Type 0 where
  pub no_word : one_word sign ≡ None
  pub no_minus : bytes_eq (codes "-") sign ≡ false
  pub no_number : below_zero sign ≡ None

other : {A : Type 0} (f : List ℕ → Option A) (word sign : List ℕ) → f sign ≡ None → IsSome (f word) → bytes_eq word sign ≡ false
other f word sign n h = by_test (bytes_eq word sign) refl
  where
    by_test : (t : Bool) → bytes_eq word sign ≡ t → t ≡ false
    by_test true e = absurd (none-some (some_there (f word) h).0 (sym n ∙ ap f (sym (same_text word sign e)) ∙ (some_there (f word) h).1))
    by_test false e = refl

minus : {A : Type 0} (t : Bool) (o : Option A) → IsSome (if t then o else None) → (t ≡ true) × IsSome o
minus true o h = (refl, h)
minus false o h = absurd (false≢true h)

pub value_without : (sign : List ℕ) (words : Words) → NoValue sign → IsValue words → has sign words ≡ false
value_without sign [] n h = refl
value_without sign (word ∷ []) n h = or_from _ false (other one_word word sign n.no_word h) refl
value_without sign (m ∷ word ∷ []) n h =
    let parts = minus (bytes_eq m (codes "-")) (below_zero word) h in
    or_from _ _ (subst (λ x. bytes_eq x sign ≡ false) (sym (same_text m (codes "-") parts.0)) n.no_minus)
    (or_from _ false (other below_zero word sign n.no_number parts.1) refl)
value_without sign (a ∷ b ∷ c ∷ more) n h = absurd (false≢true h)

-- what each item of a list is, both ways
pub each_is : {A B : Type 0} (f : A → Option B) (g : B → A) (P : B → Type 0) → ((x : A) (y : B) → f x ≡ Some y → (x ≡ g y) × P y) → (xs : List A) (ys : List B) → each f xs ≡ Some ys → (xs ≡ map g ys) × AllByRecursion P ys
each_is f g P h [] [] e = (refl, tt)
each_is f g P h [] (y ∷ ys) e = let s = same_Some [] (y ∷ ys) e in absurd (grind (arith, ap length s))
each_is {A} {B} f g P h (x ∷ xs) ys e =
    option_and_then_some (λ y. option_map (λ zs. y ∷ zs) (each f xs)) (f x) ys e (λ y first rest.
    let more = map_some (λ zs. y ∷ zs) (each f xs) ys rest in
    let known = h x y first in
    let others = each_is f g P h xs more.0 more.1 in
    subst (λ (zs : List B). (x ∷ xs ≡ map g zs) × AllByRecursion P zs) more.2
    (ap (λ a. a ∷ xs) known.0 ∙ ap (λ l. g y ∷ l) others.0, (known.1, others.1)))

pub each_of : {A B : Type 0} (f : A → Option B) (g : B → A) (P : B → Type 0) → ((y : B) → P y → f (g y) ≡ Some y) → (ys : List B) → AllByRecursion P ys → each f (map g ys) ≡ Some ys
each_of f g P h [] all = refl
each_of f g P h (y ∷ ys) all =
    ap (option_and_then (λ z. option_map (λ zs. z ∷ zs) (each f (map g ys)))) (h y all.0)
    ∙ ap (option_map (λ zs. y ∷ zs)) (each_of f g P h ys all.1)

pub all_map : {A : Type 0} (g : A → Words) (P : A → Type 0) (sign : List ℕ) → ((y : A) → P y → has sign (g y) ≡ false) → (ys : List A) → AllByRecursion P ys → AllByRecursion (λ p. has sign p ≡ false) (map g ys)
all_map g P sign h [] all = tt
all_map g P sign h (y ∷ ys) all = (h y all.0, all_map g P sign h ys all.1)

-- lists that a sign separates, both ways
pub found_between : {B : Type 0} (sign : List ℕ) (f : Words → Option B) (g : B → Words) (P : B → Type 0) → ((x : Words) (y : B) → f x ≡ Some y → (x ≡ g y) × P y) → (words : Words) (ys : List B) → each f (cut sign words) ≡ Some ys → (words ≡ separated sign (map g ys)) × AllByRecursion P ys
found_between sign f g P h words ys e =
    let known = each_is f g P h (cut sign words) ys e in
    (sym (separated_cut sign words) ∙ ap (separated sign) known.0, known.1)

pub between_found : {B : Type 0} (sign : List ℕ) (f : Words → Option B) (g : B → Words) (P : B → Type 0) → ((y : B) → P y → f (g y) ≡ Some y) → ((y : B) → P y → has sign (g y) ≡ false) → (ys : List B) → 1 ≤ length ys → AllByRecursion P ys → each f (cut sign (separated sign (map g ys))) ≡ Some ys
between_found sign f g P h w [] some all = absurd (omega (arith, some))
between_found sign f g P h w (y ∷ ys) some all =
    ap (each f) (cut_separated sign (g y) (map g ys) (all_map g P sign w (y ∷ ys) all)) ∙ each_of f g P h (y ∷ ys) all

-- one name
name_is : (words : Words) (name : List ℕ) → name_of words ≡ Some name → (words ≡ name ∷ []) × IsName name
name_is [] name e = absurd (none-some name e)
name_is (word ∷ []) name e =
    let c = cond_some (is_name word) word name e in
    (ap (λ w. w ∷ []) c.1, ap is_name (sym c.1) ∙ c.0)
name_is (a ∷ b ∷ more) name e = absurd (none-some name e)

is_name_of : (name : List ℕ) → IsName name → name_of (name ∷ []) ≡ Some name
is_name_of name h = ap (λ t. if t then Some name else None) h

pub names_are : (words : Words) (names : List (List ℕ)) → names_of words ≡ Some names → (words ≡ with_commas names) × AllByRecursion IsName names
names_are words names e = found_between (codes ",") name_of (λ name. name ∷ []) IsName name_is words names e

pub are_names : (names : List (List ℕ)) → 1 ≤ length names → AllByRecursion IsName names → names_of (with_commas names) ≡ Some names
are_names names some all = between_found (codes ",") name_of (λ name. name ∷ []) IsName is_name_of (λ name h. or_from _ false (not_named name (codes ",") h refl) refl) names some all

-- no list of what one list is cut into is empty
pub each_some : {A B : Type 0} (f : A → Option B) (xs : List A) (ys : List B) → each f xs ≡ Some ys → length ys ≡ length xs
each_some f [] [] e = refl
each_some f [] (y ∷ ys) e = let s = same_Some [] (y ∷ ys) e in absurd (grind (arith, ap length s))
each_some {A} {B} f (x ∷ xs) ys e =
    option_and_then_some (λ y. option_map (λ zs. y ∷ zs) (each f xs)) (f x) ys e (λ y first rest.
    let more = map_some (λ zs. y ∷ zs) (each f xs) ys rest in
    let others = each_some f xs more.0 more.1 in
    subst (λ (zs : List B). length zs ≡ length (x ∷ xs)) more.2 (omega (arith, others)))

-- the name of a declaration or a set, and `=`
pub head_is : (words : Words) (head : List ℕ × Words) → head_of words ≡ Some head → (words ≡ head.0 ∷ codes "=" ∷ head.1) × IsName head.0
head_is [] head e = absurd (none-some head e)
head_is (a ∷ []) head e = absurd (none-some head e)
head_is (name ∷ sign ∷ rest) head e =
    let c = cond_some (is_name name && bytes_eq sign (codes "=")) (name, rest) head e in
    let t = and_parts (is_name name) (bytes_eq sign (codes "=")) c.0 in
    subst (λ (h : List ℕ × Words). (name ∷ sign ∷ rest ≡ h.0 ∷ codes "=" ∷ h.1) × IsName h.0) c.1
    (ap (λ s. name ∷ s ∷ rest) (same_text sign (codes "=") t.1), t.0)

pub is_head : (name : List ℕ) (rest : Words) → IsName name → head_of (name ∷ codes "=" ∷ rest) ≡ Some (name, rest)
is_head name rest h = ap (λ t. if t && bytes_eq (codes "=") (codes "=") then Some (name, rest) else None) h

-- one set
set_is : (words : Words) (s : SetForm) → set_of words ≡ Some s → (words ≡ spelled_set s) × IsSet s
set_is words s e = option_and_then_some set_by (head_of words) s e (λ head first rest.
    let c = cond_some (is_some (value_of head.1)) head s rest in
    let known = head_is words head first in
    subst (λ (h : SetForm). (words ≡ spelled_set h) × IsSet h) c.1 (known.0, record { named = known.1; start = c.0 }))

is_set_of : (s : SetForm) → IsSet s → set_of (spelled_set s) ≡ Some s
is_set_of s h = ap (option_and_then set_by) (is_head s.0 s.1 h.named) ∙ ap (λ t. if t then Some s else None) h.start

pub set_without : (sign : List ℕ) → is_name sign ≡ false → NoValue sign → bytes_eq (codes "=") sign ≡ false → (s : SetForm) → IsSet s → has sign (spelled_set s) ≡ false
set_without sign n v q s h = or_from _ _ (not_named s.0 sign h.named n) (or_from _ _ q (value_without sign s.1 v h.start))

pub no_comma : NoValue (codes ",")
no_comma = record { no_word = refl; no_minus = refl; no_number = refl }

pub no_colon : NoValue (codes ":")
no_colon = record { no_word = refl; no_minus = refl; no_number = refl }

pub no_look : NoValue (codes "look")
no_look = record { no_word = refl; no_minus = refl; no_number = refl }

pub sets_are : (words : Words) (sets : List SetForm) → sets_of words ≡ Some sets → (words ≡ separated (codes ",") (map spelled_set sets)) × AllByRecursion IsSet sets
sets_are words sets e = found_between (codes ",") set_of spelled_set IsSet set_is words sets e

pub are_sets : (sets : List SetForm) → 1 ≤ length sets → AllByRecursion IsSet sets → sets_of (separated (codes ",") (map spelled_set sets)) ≡ Some sets
are_sets sets some all = between_found (codes ",") set_of spelled_set IsSet is_set_of (set_without (codes ",") refl no_comma refl) sets some all
