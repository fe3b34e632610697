-- The different names of several scripts, gathered one after the other.
use Rattle.std.proofs.Common.{◌≡◌, ℕ, ◌+◌, ◌<◌, ◌≤◌, Bool, true, false, List, [], ◌∷◌, ◌++◌, length, get_or, drop, refl, ap, ◌∙◌, arith, zero-add, length-append}
use Rattle.std.proofs.lemmas.List.{drop_all}
use Rattle.std.specs.Prelude.{◌||◌, if◌then◌else◌}
use Rattle.std.specs.List.{list_any}
use Rattle.std.specs.Str.{bytes_eq}
use Rattle.script_tree.proofs.Lists.{drop_item}
use Rattle.signal_graph.specs.Declarations.{Part, script_names, different_names, different_names_from}
use Rattle.deck_lines.specs.Inputs.{seen_after}

-- one name that is there already
pub see_old : (seen names : List (List ℕ)) (k : ℕ) (name : List ℕ) → k < length names → name ≡ get_or names k name → list_any (bytes_eq name) seen ≡ true → seen_after seen (drop k names) ≡ seen_after seen (drop (k + 1) names)
see_old seen names k name h e t =
    let rest = drop (k + 1) names in
    ap (seen_after seen) (drop_item names k name h e) ∙ ap (λ v. if v then seen_after seen rest else seen_after (seen ++ name ∷ []) rest) t

-- one name that isn't
pub see_new : (seen names : List (List ℕ)) (k : ℕ) (name : List ℕ) → k < length names → name ≡ get_or names k name → list_any (bytes_eq name) seen ≡ false → seen_after seen (drop k names) ≡ seen_after (seen ++ name ∷ []) (drop (k + 1) names)
see_new seen names k name h e t =
    let rest = drop (k + 1) names in
    ap (seen_after seen) (drop_item names k name h e) ∙ ap (λ v. if v then seen_after seen rest else seen_after (seen ++ name ∷ []) rest) t

append_by : (t : Bool) (x y u v b : List (List ℕ)) → x ≡ seen_after u b → y ≡ seen_after v b → (if t then x else y) ≡ seen_after (if t then u else v) b
append_by true x y u v b p q = p
append_by false x y u v b p q = q

pub seen_after-append : (seen a b : List (List ℕ)) → seen_after seen (a ++ b) ≡ seen_after (seen_after seen a) b
seen_after-append seen [] b = refl
seen_after-append seen (name ∷ a) b =
    append_by (list_any (bytes_eq name) seen) _ _ _ _ b (seen_after-append seen a b) (seen_after-append (seen ++ name ∷ []) a b)

-- the names of one selector's script
pub see_part : (seen : List (List ℕ)) (parts : List Part) (k : ℕ) (part : Part) → k < length parts → part ≡ get_or parts k part
    → seen_after seen (script_names (drop k parts)) ≡ seen_after (seen_after seen part.0.names) (script_names (drop (k + 1) parts))
see_part seen parts k part h e =
    ap (λ p. seen_after seen (script_names p)) (drop_item parts k part h e) ∙ seen_after-append seen part.0.names (script_names (drop (k + 1) parts))

-- the names of all selectors' scripts
pub see_all : (seen : List (List ℕ)) (parts : List Part) (k : ℕ) → length parts ≤ k → seen_after [] (script_names parts) ≡ seen_after seen (script_names (drop k parts)) → seen_after [] (script_names parts) ≡ seen
see_all seen parts k h e = e ∙ ap (λ p. seen_after seen (script_names p)) (drop_all k parts h)

or_swap : (p q r : Bool) → (p || (q || r)) ≡ (q || (p || r))
or_swap true true r = refl
or_swap true false r = refl
or_swap false true r = refl
or_swap false false r = refl

any_end : (f : List ℕ → Bool) (a : List (List ℕ)) (name : List ℕ) → list_any f (a ++ name ∷ []) ≡ (f name || list_any f a)
any_end f [] name = refl
any_end f (x ∷ a) name = ap (λ v. f x || v) (any_end f a name) ∙ or_swap (f x) (f name) (list_any f a)

abbrev Same : List (List ℕ) → List (List ℕ) → Type 0
Same a b = (f : List ℕ → Bool) → list_any f a ≡ list_any f b

same_more : (a b : List (List ℕ)) (name : List ℕ) → Same a b → Same (a ++ name ∷ []) (name ∷ b)
same_more a b name s f = any_end f a name ∙ ap (λ v. f name || v) (s f)

count_by : (t : Bool) (x y d e a : List (List ℕ)) (name : List ℕ) → length x ≡ length a + length d → length y ≡ length (a ++ name ∷ []) + length e → length (if t then x else y) ≡ length a + length (if t then d else name ∷ e)
count_by true x y d e a name p q = p
count_by false x y d e a name p q = omega (arith, q, length-append a (name ∷ []))

counted : (names a b : List (List ℕ)) → Same a b → length (seen_after a names) ≡ length a + length (different_names_from b names)
counted [] a b s = omega arith
counted (name ∷ names) a b s =
    ap (λ t. length (if t then seen_after a names else seen_after (a ++ name ∷ []) names)) (s (bytes_eq name))
    ∙ count_by (list_any (bytes_eq name) b) _ _ _ _ a name (counted names a b s) (counted names (a ++ name ∷ []) (name ∷ b) (same_more a b name s))

-- as many names are gathered as there are different ones
pub length-seen : (names : List (List ℕ)) → length (seen_after [] names) ≡ length (different_names names)
length-seen names = counted names [] [] (λ f. refl) ∙ zero-add (length (different_names names))

pub ruleset input_laws = (see_old, see_new, see_part, length-seen)
