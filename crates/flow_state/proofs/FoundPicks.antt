-- The picks of what was found, and the first of them.
use Rattle.std.proofs.Common.{◌≡◌, ℕ, ◌<◌, ◌≤◌, ◌+◌, List, [], ◌∷◌, ◌++◌, Option, Some, length, map, take, get_or, suc, refl, sym, ap, ◌∙◌, arith}
use Rattle.std.proofs.lemmas.List.{take_more, length-take-le}
use Rattle.std.proofs.lemmas.Option.{slice_get_within, slice_get-get_or, same_Some}
use Rattle.std.specs.List.{slice_get}
use Rattle.script_tree.specs.declared.limits.TheConstants.{SELECTORS}
use Rattle.signal_graph.specs.Values.{taken}
use Rattle.flow_state.specs.declared.found.Found.{Found}
use Rattle.flow_state.specs.Found.{selection_of}

-- what the items of a list are as picks
abbrev pub picks_for : List Found → List (Option ℕ)
picks_for xs = map taken (map selection_of xs)

length-picks : (xs : List Found) → length (picks_for xs) ≡ length xs
length-picks [] = refl
length-picks (x ∷ xs) = ap suc (length-picks xs)

picks-last : (xs : List Found) (x : Found) → picks_for (xs ++ x ∷ []) ≡ picks_for xs ++ taken (selection_of x) ∷ []
picks-last [] x = refl
picks-last (y ∷ ys) x = ap (λ (ps : List (Option ℕ)). taken (selection_of y) ∷ ps) (picks-last ys x)

pub picks-few : (xs : List Found) (ps : List (Option ℕ)) (i : ℕ) → ps ≡ picks_for (take i xs) → i < length xs → length xs ≤ SELECTORS → length ps < SELECTORS
picks-few xs ps i is h few =
    let a = ap length is ∙ length-picks (take i xs) in
    let b = length-take-le i xs (omega (arith, h)) in
    omega (arith, a, b, h, few)

pub picks-more : (xs : List Found) (ps : List (Option ℕ)) (i : ℕ) (x : Found) (p : Option ℕ) → ps ≡ picks_for (take i xs) → slice_get xs i ≡ Some x → p ≡ taken (selection_of x) → ps ++ p ∷ [] ≡ picks_for (take (i + 1) xs)
picks-more xs ps i x p is at_i taken_is =
    let h = slice_get_within xs i x at_i in
    let same = same_Some (get_or xs i x) x (sym (slice_get-get_or xs i x h) ∙ at_i) in
    sym (ap picks_for (take_more xs i x h) ∙ picks-last (take i xs) (get_or xs i x)
    ∙ ap (λ (y : Found). picks_for (take i xs) ++ taken (selection_of y) ∷ []) same
    ∙ ap (λ (qs : List (Option ℕ)). qs ++ taken (selection_of x) ∷ []) (sym is)
    ∙ ap (λ (q : Option ℕ). ps ++ q ∷ []) (sym taken_is))
