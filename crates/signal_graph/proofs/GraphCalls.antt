-- The first wrong place of a call's names.
use Rattle.std.proofs.Common.{◌≡◌, ℕ, zero, suc, ◌+◌, ◌<◌, if◌then◌else◌, Bool, true, false, List, [], ◌∷◌, ◌++◌, length, map, take, get_or, Option, Some, None, is_some, refl, sym, ap, subst, ◌∙◌, arith, add-zero, add-one}
use Rattle.std.proofs.lemmas.List.{length-map, map-append}
use Rattle.std.proofs.Math.Seq.{take-suc}
use Rattle.script_tree.specs.declared.value.Value.{Value}
use Rattle.signal_graph.specs.declared.call.Call.{Call}
use Rattle.signal_graph.specs.Graph.{Graph}
use Rattle.signal_graph.specs.Machine.{first_wrong, names_node, names_source, sets_of, looks_of, misnamed}

pub wrong-append : (n : ℕ) (front back : List Bool)
    → first_wrong n (front ++ back) ≡ (if is_some (first_wrong n front) then first_wrong n front else first_wrong (n + length front) back)
wrong-append n [] back = rw add-zero refl
wrong-append n (true ∷ front) back =
    let further : (n + 1) + length front ≡ n + length (true ∷ front) = omega arith in
    rw further at (wrong-append (n + 1) front back)
wrong-append n (false ∷ front) back = refl

wrong-front : (n : ℕ) (b : Bool) (bs : List Bool) → first_wrong n (b ∷ bs) ≡ None → (b ≡ true) × (first_wrong (n + 1) bs ≡ None)
wrong-front n true bs h = (refl, h)
wrong-front n false bs h = absurd (cc)

-- the place of an item at fault, where none before it is
pub wrong-at : {A : Type 0} (right : A → Bool) (n : ℕ) (xs : List A) (i : ℕ) (d : A) → i < length xs → first_wrong n (map right (take i xs)) ≡ None
    → right (get_or xs i d) ≡ false → first_wrong n (map right xs) ≡ Some (n + i)
wrong-at right n [] i d below before here = absurd (omega arith)
wrong-at right n (x ∷ xs) zero d below before here = rw (here, add-zero) refl
wrong-at right n (x ∷ xs) (suc i) d below before here =
    let front = wrong-front n (right x) (map right (take i xs)) before in
    let further : (n + 1) + i ≡ n + suc i = omega arith in
    rw front.0 (rw further at (wrong-at right (n + 1) xs i d (omega arith) front.1 here))

-- and where the item is right too, there is none behind it
pub wrong-step : {A : Type 0} (right : A → Bool) (n : ℕ) (xs : List A) (i : ℕ) (d : A) → i < length xs → first_wrong n (map right (take i xs)) ≡ None
    → right (get_or xs i d) ≡ true → first_wrong n (map right (take (i + 1) xs)) ≡ None
wrong-step right n xs i d below before here =
    rw (add-one, take-suc xs i d below, map-append right (take i xs) (get_or xs i d ∷ []), wrong-append n (map right (take i xs)) (right (get_or xs i d) ∷ []), before, here) refl

-- what a look-up answers tells whether a name is right
pub not_named : (right : Bool) (n : ℕ) (r : Option ℕ) → r ≡ (if right then Some n else None) → r ≡ None → right ≡ false
not_named true n r is none = absurd (cc)
not_named false n r is none = refl

pub is_named : (right : Bool) (n m : ℕ) (r : Option ℕ) → r ≡ (if right then Some n else None) → r ≡ Some m → (right ≡ true) × (m ≡ n)
is_named true n m r is some = (refl, cc)
is_named false n m r is some = absurd (cc)

-- the numbers so far, or what else is found of each, with one more
pub one_number_more : {A B : Type 0} (number : A → B) (xs : List A) (i : ℕ) (m : B) (d : A) (found more : List B) → i < length xs → found ≡ map number (take i xs) → m ≡ number (get_or xs i d)
    → more ≡ found ++ m ∷ [] → more ≡ map number (take (i + 1) xs)
one_number_more number xs i m d found more below are is grown =
    rw (add-one, take-suc xs i d below, map-append number (take i xs) (get_or xs i d ∷ []), ← are, ← is) grown

-- the first name at fault among the sets, and where there is none, among the looks behind them
pub misnamed_set : (graph : Graph) (call : Call) (sets : List (List ℕ × Value)) (place : ℕ) → sets ≡ sets_of call
    → first_wrong 1 (map (λ (s : List ℕ × Value). names_source graph s.0) sets) ≡ Some place → misnamed graph call ≡ Some place
misnamed_set graph call sets place are wrong =
    let right : List ℕ × Value → Bool = λ s. names_source graph s.0 in
    let here : first_wrong 1 (map right (sets_of call)) ≡ Some place = subst (λ ss. first_wrong 1 (map right ss) ≡ Some place) are wrong in
    rw (wrong-append 1 (map right (sets_of call)) (map (names_node graph) (looks_of call)), here) refl

pub misnamed_look : (graph : Graph) (call : Call) (sets : List (List ℕ × Value)) (looks : List (List ℕ)) (from : ℕ) (o : Option ℕ) → sets ≡ sets_of call → looks ≡ looks_of call
    → first_wrong 1 (map (λ (s : List ℕ × Value). names_source graph s.0) sets) ≡ None → from ≡ 1 + length sets
    → first_wrong from (map (names_node graph) looks) ≡ o → misnamed graph call ≡ o
misnamed_look graph call sets looks from o are are_looks named begins wrong =
    let right : List ℕ × Value → Bool = λ s. names_source graph s.0 in
    let here : first_wrong 1 (map right (sets_of call)) ≡ None = subst (λ ss. first_wrong 1 (map right ss) ≡ None) are named in
    let behind : from ≡ 1 + length (map right (sets_of call)) = begins ∙ ap (λ ss. 1 + length ss) are ∙ ap (λ n. 1 + n) (sym (length-map (sets_of call) right)) in
    let back : first_wrong (1 + length (map right (sets_of call))) (map (names_node graph) (looks_of call)) ≡ o =
    subst (λ n. first_wrong n (map (names_node graph) (looks_of call)) ≡ o) behind (subst (λ ls. first_wrong from (map (names_node graph) ls) ≡ o) are_looks wrong) in
    rw (wrong-append 1 (map right (sets_of call)) (map (names_node graph) (looks_of call)), here) back
