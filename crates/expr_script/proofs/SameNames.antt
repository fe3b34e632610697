-- The names among the words of a script are those of its tree, in the same order.
use Rattle.std.proofs.Common.{◌≡◌, ℕ, zero, suc, ◌+◌, ◌^◌, ◌<◌, ◌≤◌, Bool, true, false, List, [], ◌∷◌, ◌++◌, length, refl, sym, ap, ◌∙◌, subst, inl, inr, arith, append_assoc}
use Rattle.std.specs.Prelude.{◌&&◌, ◌||◌, ◌⊎◌, if◌then◌else◌, nat_lt, pos, fold, codes, slice_get, unwrap_or}
use Rattle.std.specs.List.{list_all, list_any, AllByRecursion}
use Rattle.std.proofs.lemmas.Bool.Decides.{nat_tests}
use Rattle.std.specs.Str.{bytes_eq}
use Rattle.std.proofs.lemmas.Bool.{cases_lt, ltb-true, ltb-false}
use Rattle.std.proofs.lemmas.Slice.Eq.{bytes_eq-Decides}
use Rattle.std.proofs.lemmas.List.{append-nil, length_push}
use Rattle.script_tree.specs.Names.{is_name, place_in}
use Rattle.script_tree.specs.Tree.{Tree, Number, Constant, Input, Pick, Acc, Apply, Join, If}
use Rattle.script_tree.specs.Scripts.{all_leaves, input_below, standing, different_names_from, different_names}
use Rattle.script_tree.specs.declared.expr.Unary.TheVariants.{Negate, Not}
use Rattle.script_tree.specs.declared.expr.Unary.{Unary}
use Rattle.script_tree.specs.declared.expr.Binary.{Binary}
use Rattle.script_tree.specs.declared.expr.Binary.TheVariants.{OrElse, Or, And, Equal, Unequal, Less, AtMost, Greater, AtLeast, Add, Subtract, Multiply, Divide, Remainder}
use Rattle.script_tree.proofs.Truths.{and_left, and_right}
use Rattle.script_tree.proofs.Texts.{bytes_eq-sym}
use Rattle.script_tree.proofs.NamePlaces.{place_within}
use Rattle.script_grammar.specs.declared.token.Word.TheVariants as word
use Rattle.script_grammar.specs.declared.token.Token.{Token}
use Rattle.script_grammar.specs.declared.token.Token.TheVariants as token
use Rattle.script_grammar.specs.Grammar.{Written, Plain, Inside, Before, Between, Choice, Spells, sign, prefix_sign, tokens, tree}
use Rattle.expr_script.specs.declared.atoms.Atoms.TheVariants.{Script}
use Rattle.expr_script.specs.Words.{is_digits, value, number, name_token, look_up, short_signs, long_signs, script_words, short_sign, sign_token, fixed_token, other_token, token as token_of}
use Rattle.expr_script.specs.Tokens.{with_name, script_names, tokens_among}
use Rattle.expr_script.proofs.Kept.{with_known, with_new, with_other}
use Rattle.expr_script.proofs.Lean.{IsThere, name_at}
use Rattle.expr_script.proofs.TokenBack.{called, named, digits_no_name, name_is}

-- the lists of all items, one behind the other
unfoldable pub flat : {X : Type 0} → (X → List (List ℕ)) → List X → List (List ℕ)
flat f [] = []
flat f (x ∷ xs) = f x ++ flat f xs

flat_on : {X : Type 0} (f : X → List (List ℕ)) (xs ys : List X) → flat f (xs ++ ys) ≡ flat f xs ++ flat f ys
unfolding flat
flat_on f [] ys = refl
flat_on f (x ∷ xs) ys = ap (λ l. f x ++ l) (flat_on f xs ys) ∙ sym (append_assoc (f x) (flat f xs) (flat f ys))

-- only names count for the names
pub fold_named : (known ws : List (List ℕ)) → fold with_name known ws ≡ fold with_name known (flat named ws)
unfolding flat
fold_named known [] = refl
fold_named known (w ∷ ws) = by_test (is_name w) refl (fold_named (with_name known w) ws)
  where
    by_test : (b : Bool) → is_name w ≡ b → fold with_name (with_name known w) ws ≡ fold with_name (with_name known w) (flat named ws) → fold with_name (with_name known w) ws ≡ fold with_name known ((if b then w ∷ [] else []) ++ flat named ws)
    by_test true e f = f
    by_test false e f = f ∙ ap (λ l. fold with_name l (flat named ws)) (with_other known w e)

sign_calls : (names : List (List ℕ)) (op : Binary) → called names (sign op) ≡ []
sign_calls names OrElse = refl
sign_calls names Or = refl
sign_calls names And = refl
sign_calls names Equal = refl
sign_calls names Unequal = refl
sign_calls names Less = refl
sign_calls names AtMost = refl
sign_calls names Greater = refl
sign_calls names AtLeast = refl
sign_calls names Add = refl
sign_calls names Subtract = refl
sign_calls names Multiply = refl
sign_calls names Divide = refl
sign_calls names Remainder = refl

mark_calls : (names : List (List ℕ)) (op : Unary) → called names (prefix_sign op) ≡ []
mark_calls names Negate = refl
mark_calls names Not = refl

written_calls : (names : List (List ℕ)) (w : Written) → flat (called names) (tokens w) ≡ standing names (tree w)
unfolding flat
written_calls names (Plain (word.Digits z)) = refl
written_calls names (Plain word.Yes) = refl
written_calls names (Plain word.No) = refl
written_calls names (Plain (word.Called i)) = refl
written_calls names (Plain (word.Pick i)) = refl
written_calls names (Plain word.Acc) = refl
written_calls names (Inside w) = flat_on (called names) (tokens w) (token.Closes ∷ []) ∙ append-nil (flat (called names) (tokens w)) ∙ written_calls names w
written_calls names (Before op w) = ap (λ l. l ++ flat (called names) (tokens w)) (mark_calls names op) ∙ written_calls names w
written_calls names (Between op a b) =
    flat_on (called names) (tokens a) (sign op ∷ tokens b)
    ∙ ap (λ l. flat (called names) (tokens a) ++ (l ++ flat (called names) (tokens b))) (sign_calls names op)
    ∙ ap (λ l. l ++ flat (called names) (tokens b)) (written_calls names a)
    ∙ ap (λ l. standing names (tree a) ++ l) (written_calls names b)
written_calls names (Choice c a b) =
    flat_on (called names) (tokens c) (token.ThenWord ∷ (tokens a ++ token.ElseWord ∷ tokens b))
    ∙ ap (λ l. l ++ flat (called names) (tokens a ++ token.ElseWord ∷ tokens b)) (written_calls names c)
    ∙ ap (λ l. standing names (tree c) ++ l)
    (flat_on (called names) (tokens a) (token.ElseWord ∷ tokens b)
    ∙ ap (λ l. l ++ flat (called names) (tokens b)) (written_calls names a)
    ∙ ap (λ l. standing names (tree a) ++ l) (written_calls names b))

pub spelled_calls : (names : List (List ℕ)) (text : List Token) (t : Tree) → Spells text t → flat (called names) text ≡ standing names t
spelled_calls names text t s = ap (flat (called names)) (sym s.same) ∙ written_calls names s.written ∙ ap (standing names) s.tree_is

-- a token that calls no name
record CallsNone (names : List (List ℕ)) (t : Token) : Type 0 where
  none : called names t ≡ []

either : (names : List (List ℕ)) (b : Bool) (t u : Token) → CallsNone names t → CallsNone names u → CallsNone names (if b then t else u)
either names true t u p q = p
either names false t u p q = q

table_calls : (names : List (List ℕ)) (table : List (List ℕ × Token)) (w : List ℕ) (other : Token) → AllByRecursion (λ row. called names row.1 ≡ []) table → CallsNone names other → CallsNone names (look_up table w other)
table_calls names [] w other rows o = o
table_calls names (row ∷ table) w other rows o = either names (bytes_eq w row.0) row.1 (look_up table w other) (record { none = rows.0 }) (table_calls names table w other rows.1 o)

other_calls : (acc : Bool) (names : List (List ℕ)) (w : List ℕ) → CallsNone names (other_token (Script acc) w)
other_calls acc names w =
    either names (acc && bytes_eq w (codes "acc")) (token.Plain word.Acc) (fixed_token w) (record { none = refl })
    (table_calls names script_words w (sign_token w) (refl, (refl, (refl, (refl, (refl, tt)))))
    (table_calls names long_signs w (short_sign w) (refl, (refl, (refl, (refl, (refl, (refl, (refl, tt)))))))
    (table_calls names short_signs w token.Stray (refl, (refl, (refl, (refl, (refl, (refl, (refl, (refl, (refl, (refl, tt))))))))))
    (record { none = refl }))))

number_calls : (names : List (List ℕ)) (w : List ℕ) → CallsNone names (number w)
number_calls names w = either names (nat_lt (value 0 w) (2 ^ 63)) (token.Plain (word.Digits (pos (value 0 w)))) token.Stray (record { none = refl }) (record { none = refl })

token_calls : (acc : Bool) (names : List (List ℕ)) (w : List ℕ) → IsThere (Script acc) names w → named w ≡ called names (token_of (Script acc) names w)
token_calls acc names w h = by_tests (is_digits w) refl (is_name w) refl
  where
    by_tests : (d : Bool) → is_digits w ≡ d → (n : Bool) → is_name w ≡ n → (if n then w ∷ [] else []) ≡ called names (if d then number w else if n then name_token (Script acc) names w else other_token (Script acc) w)
    by_tests true d true n = let e : true ≡ false = sym n ∙ digits_no_name w d in cc
    by_tests true d false n = sym (number_calls names w).none
    by_tests false d true n = ap (λ v. v ∷ []) (sym (name_at names w (h n)))
    by_tests false d false n = sym (other_calls acc names w).none

pub words_call : (acc : Bool) (names ws : List (List ℕ)) → AllByRecursion (IsThere (Script acc) names) ws → flat named ws ≡ flat (called names) (tokens_among (Script acc) names ws)
unfolding flat
words_call acc names [] h = refl
words_call acc names (w ∷ ws) h =
    ap (λ l. l ++ flat named ws) (token_calls acc names w h.0) ∙ ap (λ l. called names (token_of (Script acc) names w) ++ l) (words_call acc names ws h.1)

-- no name comes twice
Distinct : List (List ℕ) → Type 0
Distinct names = (i : ℕ) → i < length names → place_in names (unwrap_or (slice_get names i) []) ≡ i

place_front : (known : List (List ℕ)) (w v : List ℕ) → place_in known v < length known → place_in (known ++ w ∷ []) v ≡ place_in known v
place_front [] w v h = absurd (omega (arith, h))
place_front (n ∷ known) w v h = by_test (bytes_eq n v) (λ k. place_front known w v k) h
  where
    by_test : (b : Bool) → (place_in known v < length known → place_in (known ++ w ∷ []) v ≡ place_in known v) → (if b then 0 else place_in known v + 1) < suc (length known) → (if b then 0 else place_in (known ++ w ∷ []) v + 1) ≡ (if b then 0 else place_in known v + 1)
    by_test true f k = refl
    by_test false f k = ap (λ p. p + 1) (f (omega (arith, k)))

place_end : (known : List (List ℕ)) (w : List ℕ) → length known ≤ place_in known w → place_in (known ++ w ∷ []) w ≡ length known
place_end [] w h = ap (λ b. if b then 0 else 0 + 1) ((bytes_eq-Decides w w).1 refl)
place_end (n ∷ known) w h = by_test (bytes_eq n w) (λ k. place_end known w k) h
  where
    by_test : (b : Bool) → (length known ≤ place_in known w → place_in (known ++ w ∷ []) w ≡ length known) → suc (length known) ≤ (if b then 0 else place_in known w + 1) → (if b then 0 else place_in (known ++ w ∷ []) w + 1) ≡ suc (length known)
    by_test true f k = absurd (omega (arith, k))
    by_test false f k = omega (arith, f (omega (arith, k)))

get_front : (known : List (List ℕ)) (w : List ℕ) (i : ℕ) → i < length known → unwrap_or (slice_get (known ++ w ∷ []) i) [] ≡ unwrap_or (slice_get known i) []
get_front [] w i h = absurd (omega (arith, h))
get_front (n ∷ known) w zero h = refl
get_front (n ∷ known) w (suc i) h = get_front known w i (omega (arith, h))

get_end : (known : List (List ℕ)) (w : List ℕ) (i : ℕ) → i ≡ length known → unwrap_or (slice_get (known ++ w ∷ []) i) [] ≡ w
get_end [] w zero e = refl
get_end [] w (suc i) e = absurd (omega (arith, e))
get_end (n ∷ known) w zero e = absurd (omega (arith, e))
get_end (n ∷ known) w (suc i) e = get_end known w i (omega (arith, e))

push_distinct : (known : List (List ℕ)) (w : List ℕ) → Distinct known → length known ≤ place_in known w → Distinct (known ++ w ∷ [])
unfolding Distinct
push_distinct known w d new i h = by_order (cases_lt i (length known))
  where
    by_order : (i < length known) ⊎ (length known ≤ i) → place_in (known ++ w ∷ []) (unwrap_or (slice_get (known ++ w ∷ []) i) []) ≡ i
    by_order (inl front) =
        ap (place_in (known ++ w ∷ [])) (get_front known w i front)
        ∙ place_front known w (unwrap_or (slice_get known i) []) (omega (arith, d i front, front))
        ∙ d i front
    by_order (inr end) =
        let e : i ≡ length known = omega (arith, end, h, length_push known w) in
        ap (place_in (known ++ w ∷ [])) (get_end known w i e) ∙ place_end known w new ∙ sym e

with_distinct : (known : List (List ℕ)) (w : List ℕ) → Distinct known → Distinct (with_name known w)
with_distinct known w d = by_order (cases_lt (place_in known w) (length known)) (is_name w) refl
  where
    by_order : (place_in known w < length known) ⊎ (length known ≤ place_in known w) → (n : Bool) → is_name w ≡ n → Distinct (with_name known w)
    by_order (inl there) n e = subst Distinct (sym (with_known known w there)) d
    by_order (inr end) true e = subst Distinct (sym (with_new known w e (omega (arith, end, place_within known w)))) (push_distinct known w d end)
    by_order (inr end) false e = subst Distinct (sym (with_other known w e)) d

fold_distinct : (known ws : List (List ℕ)) → Distinct known → Distinct (fold with_name known ws)
fold_distinct known [] d = d
fold_distinct known (w ∷ ws) d = fold_distinct (with_name known w) ws (with_distinct known w d)

pub distinct_names : (ws : List (List ℕ)) (i : ℕ) → i < length (script_names ws) → place_in (script_names ws) (unwrap_or (slice_get (script_names ws) i) []) ≡ i
unfolding Distinct
distinct_names ws = fold_distinct [] ws (λ i h. absurd (omega (arith, h)))

-- the names that were seen are the known ones
AlikeSeen : List (List ℕ) → List (List ℕ) → Type 0
AlikeSeen known seen = (v : List ℕ) → list_any (bytes_eq v) seen ≡ nat_lt (place_in known v) (length known)

lt_next : (p l : ℕ) → nat_lt (p + 1) (suc l) ≡ nat_lt p l
lt_next p l = grind (arith, nat_tests)

zero_lt : (l : ℕ) → nat_lt 0 (suc l) ≡ true
zero_lt l = grind (arith, nat_tests)

there_push : (known : List (List ℕ)) (w v : List ℕ) → nat_lt (place_in (known ++ w ∷ []) v) (length (known ++ w ∷ [])) ≡ (bytes_eq w v || nat_lt (place_in known v) (length known))
there_push [] w v = by_test (bytes_eq w v)
  where
    by_test : (b : Bool) → nat_lt (if b then 0 else 0 + 1) 1 ≡ (b || false)
    by_test true = refl
    by_test false = refl
there_push (n ∷ known) w v = by_test (bytes_eq n v) (there_push known w v)
  where
    by_true : (b : Bool) → nat_lt 0 (suc (length (known ++ w ∷ []))) ≡ (b || nat_lt 0 (suc (length known)))
    by_true true = zero_lt (length (known ++ w ∷ []))
    by_true false = zero_lt (length (known ++ w ∷ [])) ∙ sym (zero_lt (length known))

    by_test : (b : Bool) → nat_lt (place_in (known ++ w ∷ []) v) (length (known ++ w ∷ [])) ≡ (bytes_eq w v || nat_lt (place_in known v) (length known)) → nat_lt (if b then 0 else place_in (known ++ w ∷ []) v + 1) (suc (length (known ++ w ∷ []))) ≡ (bytes_eq w v || nat_lt (if b then 0 else place_in known v + 1) (suc (length known)))
    by_test true rest = by_true (bytes_eq w v)
    by_test false rest =
        lt_next (place_in (known ++ w ∷ []) v) (length (known ++ w ∷ []))
        ∙ rest
        ∙ ap (λ b. bytes_eq w v || b) (sym (lt_next (place_in known v) (length known)))

seen_push : (known seen : List (List ℕ)) (w : List ℕ) → AlikeSeen known seen → AlikeSeen (known ++ w ∷ []) (w ∷ seen)
unfolding AlikeSeen
seen_push known seen w h v = ap (λ b. b || list_any (bytes_eq v) seen) (bytes_eq-sym v w) ∙ ap (λ b. bytes_eq w v || b) (h v) ∙ sym (there_push known w v)

-- names that come one after the other are the different ones
fold_different : (known seen ws : List (List ℕ)) → AlikeSeen known seen → AllByRecursion (λ w. is_name w ≡ true) ws → fold with_name known ws ≡ known ++ different_names_from seen ws
unfolding AlikeSeen
fold_different known seen [] h n = sym (append-nil known)
fold_different known seen (w ∷ ws) h n = by_test (list_any (bytes_eq w) seen) refl (fold_different known seen ws h n.1) (fold_different (known ++ w ∷ []) (w ∷ seen) ws (seen_push known seen w h) n.1)
  where
    by_test : (b : Bool) → list_any (bytes_eq w) seen ≡ b → fold with_name known ws ≡ known ++ different_names_from seen ws → fold with_name (known ++ w ∷ []) ws ≡ (known ++ w ∷ []) ++ different_names_from (w ∷ seen) ws → fold with_name (with_name known w) ws ≡ known ++ (if b then different_names_from seen ws else w ∷ different_names_from (w ∷ seen) ws)
    by_test true e old new =
        ap (λ l. fold with_name l ws) (with_known known w (ltb-true (place_in known w) (length known) (sym (h w) ∙ e)))
        ∙ old
    by_test false e old new =
        let at_end : place_in known w ≡ length known = omega (arith, ltb-false (place_in known w) (length known) (sym (h w) ∙ e), place_within known w) in
        ap (λ l. fold with_name l ws) (with_new known w n.0 at_end)
        ∙ new
        ∙ append_assoc known (w ∷ []) (different_names_from (w ∷ seen) ws)

-- the names among words are the different ones of those that are names
pub names_different : (names : List (List ℕ)) → AllByRecursion (λ w. is_name w ≡ true) names → script_names names ≡ different_names names
unfolding AlikeSeen
names_different names h = fold_different [] [] names (λ v. refl) h

all_on : (xs ys : List (List ℕ)) → AllByRecursion (λ w. is_name w ≡ true) xs → AllByRecursion (λ w. is_name w ≡ true) ys → AllByRecursion (λ w. is_name w ≡ true) (xs ++ ys)
all_on [] ys a b = b
all_on (x ∷ xs) ys a b = (a.0, all_on xs ys a.1 b)

-- what stands in a tree whose inputs are places of names
pub standing_named : (names : List (List ℕ)) (t : Tree) → list_all is_name names ≡ true → all_leaves (input_below (length names)) t ≡ true → AllByRecursion (λ w. is_name w ≡ true) (standing names t)
standing_named names (Number z) n h = tt
standing_named names (Constant b) n h = tt
standing_named names (Input i) n h = (name_is names i (ltb-true i (length names) h) n, tt)
standing_named names (Pick i) n h = tt
standing_named names Acc n h = tt
standing_named names (Apply op x) n h = standing_named names x n h
standing_named names (Join op x y) n h =
    all_on (standing names x) (standing names y)
    (standing_named names x n (and_left (all_leaves (input_below (length names)) x) (all_leaves (input_below (length names)) y) h))
    (standing_named names y n (and_right (all_leaves (input_below (length names)) x) (all_leaves (input_below (length names)) y) h))
standing_named names (If c x y) n h =
    let test = input_below (length names) in
    let rest = and_right (all_leaves test c) (all_leaves test x && all_leaves test y) h in
    all_on (standing names c) (standing names x ++ standing names y)
    (standing_named names c n (and_left (all_leaves test c) (all_leaves test x && all_leaves test y) h))
    (all_on (standing names x) (standing names y)
    (standing_named names x n (and_left (all_leaves test x) (all_leaves test y) rest))
    (standing_named names y n (and_right (all_leaves test x) (all_leaves test y) rest)))

-- nothing stands in a tree without inputs
pub none_standing : (names : List (List ℕ)) (t : Tree) → all_leaves (input_below 0) t ≡ true → standing names t ≡ []
none_standing names (Number z) h = refl
none_standing names (Constant b) h = refl
none_standing names (Input i) h = absurd (omega (arith, ltb-true i 0 h))
none_standing names (Pick i) h = refl
none_standing names Acc h = refl
none_standing names (Apply op x) h = none_standing names x h
none_standing names (Join op x y) h =
    ap (λ l. l ++ standing names y) (none_standing names x (and_left (all_leaves (input_below 0) x) (all_leaves (input_below 0) y) h))
    ∙ none_standing names y (and_right (all_leaves (input_below 0) x) (all_leaves (input_below 0) y) h)
none_standing names (If c x y) h =
    let rest = and_right (all_leaves (input_below 0) c) (all_leaves (input_below 0) x && all_leaves (input_below 0) y) h in
    ap (λ l. l ++ (standing names x ++ standing names y)) (none_standing names c (and_left (all_leaves (input_below 0) c) (all_leaves (input_below 0) x && all_leaves (input_below 0) y) h))
    ∙ ap (λ l. l ++ standing names y) (none_standing names x (and_left (all_leaves (input_below 0) x) (all_leaves (input_below 0) y) rest))
    ∙ none_standing names y (and_right (all_leaves (input_below 0) x) (all_leaves (input_below 0) y) rest)

named_all : (ws : List (List ℕ)) → AllByRecursion (λ w. is_name w ≡ true) (flat named ws)
unfolding flat
named_all [] = tt
named_all (w ∷ ws) = by_test (is_name w) refl (named_all ws)
  where
    by_test : (b : Bool) → is_name w ≡ b → AllByRecursion (λ v. is_name v ≡ true) (flat named ws) → AllByRecursion (λ v. is_name v ≡ true) ((if b then w ∷ [] else []) ++ flat named ws)
    by_test true e rest = (e, rest)
    by_test false e rest = rest

-- the names of words that spell a tree are the different ones that stand in it
pub names_appear : (acc : Bool) (names ws : List (List ℕ)) (t : Tree) → AllByRecursion (IsThere (Script acc) names) ws → Spells (tokens_among (Script acc) names ws) t → script_names ws ≡ different_names (standing names t)
names_appear acc names ws t there s =
    fold_named [] ws ∙ names_different (flat named ws) (named_all ws)
    ∙ ap different_names (words_call acc names ws there ∙ spelled_calls names (tokens_among (Script acc) names ws) t s)
