-- The lists of a declaration, with one more item.
use Rattle.std.proofs.Common.{◌≡◌, ℕ, zero, suc, ◌||◌, if◌then◌else◌, Bool, true, false, List, [], ◌∷◌, ◌++◌, find, Option, Some, None, is_some, refl, sym, ap, ◌∙◌, arith, append_assoc, add-one, ◌+◌, ◌<◌, length, take, get_or}
use Rattle.std.proofs.Math.Seq.{take-suc}
use Rattle.std.proofs.lemmas.List.{append-nil}
use Rattle.std.proofs.lemmas.Bool.Decides.{eqb_tells}
use Rattle.signal_graph.specs.declared.node.Selector.{Selector}
use Rattle.signal_graph.specs.Graph.{is_in, different, different_from, inputs_of_all}
use Rattle.signal_graph.specs.Declarations.{Part, names_of_part, names_of_parts}

pub inputs_of_all-snoc : (selectors : List Selector) (selector : Selector) → inputs_of_all (selectors ++ selector ∷ []) ≡ inputs_of_all selectors ++ selector.inputs
inputs_of_all-snoc [] selector = append-nil selector.inputs
inputs_of_all-snoc (first ∷ rest) selector =
    ap (λ ns. first.inputs ++ ns) (inputs_of_all-snoc rest selector) ∙ sym (append_assoc first.inputs (inputs_of_all rest) selector.inputs)

pub names_of_parts-append : (parts more : List Part) → names_of_parts (parts ++ more) ≡ names_of_parts parts ++ names_of_parts more
names_of_parts-append [] more = refl
names_of_parts-append (part ∷ parts) more =
    ap (λ names. names_of_part part ++ names) (names_of_parts-append parts more) ∙ sym (append_assoc (names_of_part part) (names_of_parts parts) (names_of_parts more))

none_where_not_some : (o : Option (List ℕ)) → is_some o ≡ false → o ≡ None
none_where_not_some None h = refl
none_where_not_some (Some x) h = absurd (cc)

-- a search in two lists
pub find-append : (p : List ℕ → Bool) (xs ys : List (List ℕ)) → find p (xs ++ ys) ≡ (if is_some (find p xs) then find p xs else find p ys)
find-append p [] ys = refl
find-append p (x ∷ xs) ys = let rest = find-append p xs ys in grind (arith, rest)

-- one more number is different from those before it, or it isn't
different_from-snoc : (seen ns : List ℕ) (n : ℕ)
    → different_from seen (ns ++ n ∷ []) ≡ (if (is_in n seen || is_in n (different_from seen ns)) then different_from seen ns else different_from seen ns ++ n ∷ [])
different_from-snoc seen [] n = grind arith
different_from-snoc seen (m ∷ ns) n =
    let without = different_from-snoc seen ns n in
    let behind = different_from-snoc (m ∷ seen) ns n in
    grind (arith, eqb_tells, without, behind)

pub different-snoc : (ns : List ℕ) (n : ℕ) → different (ns ++ n ∷ []) ≡ (if is_in n (different ns) then different ns else different ns ++ n ∷ [])
different-snoc ns n = different_from-snoc [] ns n

-- the same by an index
pub different-step : (ns : List ℕ) (i d : ℕ) → i < length ns
    → different (take (i + 1) ns) ≡ (if is_in (get_or ns i d) (different (take i ns)) then different (take i ns) else different (take i ns) ++ get_or ns i d ∷ [])
different-step ns i d below = rw (add-one, take-suc ns i d below) (different-snoc (take i ns) (get_or ns i d))

pub inputs_of_all-step : (selectors : List Selector) (i : ℕ) (d : Selector) → i < length selectors
    → inputs_of_all (take (i + 1) selectors) ≡ inputs_of_all (take i selectors) ++ (get_or selectors i d).inputs
inputs_of_all-step selectors i d below = rw (add-one, take-suc selectors i d below) (inputs_of_all-snoc (take i selectors) (get_or selectors i d))

-- a search that has found nothing before an item stops there, if the item passes
pub find-at : (p : List ℕ → Bool) (xs : List (List ℕ)) (i : ℕ) (d : List ℕ) → i < length xs → find p (take i xs) ≡ None → p (get_or xs i d) ≡ true
    → find p xs ≡ Some (get_or xs i d)
find-at p [] i d below before here = absurd (omega arith)
find-at p (x ∷ xs) zero d below before here = rw here refl
find-at p (x ∷ xs) (suc i) d below before here =
    let rest = find-at p xs i d (omega arith) in
    grind (arith, rest)

-- and else goes on
pub find-step : (p : List ℕ → Bool) (xs : List (List ℕ)) (i : ℕ) (d : List ℕ) → i < length xs → find p (take i xs) ≡ None → p (get_or xs i d) ≡ false
    → find p (take (i + 1) xs) ≡ None
find-step p xs i d below before here = rw (add-one, take-suc xs i d below, find-append p (take i xs) (get_or xs i d ∷ []), before) (rw here refl)

-- the same part by part
pub parts-at : (p : List ℕ → Bool) (parts : List Part) (i : ℕ) (d : Part) → i < length parts → find p (names_of_parts (take i parts)) ≡ None
    → is_some (find p (names_of_part (get_or parts i d))) ≡ true → find p (names_of_parts parts) ≡ find p (names_of_part (get_or parts i d))
parts-at p [] i d below before here = absurd (omega arith)
parts-at p (part ∷ parts) zero d below before here = rw (find-append p (names_of_part part) (names_of_parts parts), here) refl
parts-at p (part ∷ parts) (suc i) d below before here =
    let rest = parts-at p parts i d (omega arith) in
    let so_far = find-append p (names_of_part part) (names_of_parts (take i parts)) in
    let whole = find-append p (names_of_part part) (names_of_parts parts) in
    grind (arith, rest, so_far, whole)

pub parts-step : (p : List ℕ → Bool) (parts : List Part) (i : ℕ) (d : Part) → i < length parts → find p (names_of_parts (take i parts)) ≡ None
    → is_some (find p (names_of_part (get_or parts i d))) ≡ false → find p (names_of_parts (take (i + 1) parts)) ≡ None
parts-step p parts i d below before here =
    let part = get_or parts i d in
    let none = none_where_not_some (find p (names_of_part part)) here in
    rw (add-one, take-suc parts i d below, names_of_parts-append (take i parts) (part ∷ []), find-append p (names_of_parts (take i parts)) (names_of_parts (part ∷ [])), before, append-nil, none) refl

-- the answers of a search that stops at its first hit, over plain values
pub find-hit : (p : List ℕ → Bool) (names seen : List (List ℕ)) (i : ℕ) (name copy : List ℕ) → i < length seen → seen ≡ names → find p (take i seen) ≡ None
    → name ≡ get_or seen i name → p name ≡ true → copy ≡ name → Some copy ≡ find p names
find-hit p names seen i name copy below same before at_i here copied =
    ap Some (copied ∙ at_i) ∙ sym (find-at p seen i name below before (ap p (sym at_i) ∙ here)) ∙ ap (find p) same

pub front-hit : (p : List ℕ → Bool) (xs ys seen : List (List ℕ)) (o : Option (List ℕ)) → o ≡ find p seen → seen ≡ xs → is_some o ≡ true → o ≡ find p (xs ++ ys)
front-hit p xs ys seen o found same some = let e : o ≡ find p xs = found ∙ ap (find p) same in rw (find-append p xs ys, ← e, some) refl

pub back-hit : (p : List ℕ → Bool) (xs ys seen : List (List ℕ)) (o r : Option (List ℕ)) → o ≡ find p seen → seen ≡ xs → is_some o ≡ false → r ≡ find p ys → r ≡ find p (xs ++ ys)
back-hit p xs ys seen o r found same none rest = let e : o ≡ find p xs = found ∙ ap (find p) same in rw (find-append p xs ys, ← e, none) rest

pub parts-hit : (p : List ℕ → Bool) (parts seen : List Part) (i : ℕ) (part : Part) (o : Option (List ℕ)) → i < length seen → seen ≡ parts
    → find p (names_of_parts (take i seen)) ≡ None → part ≡ get_or seen i part → o ≡ find p (names_of_part part) → is_some o ≡ true → o ≡ find p (names_of_parts parts)
parts-hit p parts seen i part o below same before at_i found some =
    let e : o ≡ find p (names_of_part (get_or seen i part)) = found ∙ ap (λ q. find p (names_of_part q)) at_i in
    e ∙ sym (parts-at p seen i part below before (ap is_some (sym e) ∙ some)) ∙ ap (λ ps. find p (names_of_parts ps)) same

pub parts-miss : (p : List ℕ → Bool) (seen : List Part) (i : ℕ) (part : Part) (o : Option (List ℕ)) → i < length seen
    → find p (names_of_parts (take i seen)) ≡ None → part ≡ get_or seen i part → o ≡ find p (names_of_part part) → is_some o ≡ false
    → find p (names_of_parts (take (i + 1) seen)) ≡ None
parts-miss p seen i part o below before at_i found none =
    let e : o ≡ find p (names_of_part (get_or seen i part)) = found ∙ ap (λ q. find p (names_of_part q)) at_i in
    parts-step p seen i part below before (ap is_some (sym e) ∙ none)
