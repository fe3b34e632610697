-- What stays kept of all names when one comes.
use Rattle.std.proofs.Common.{◌≡◌, ℕ, zero, suc, ◌+◌, ◌<◌, ◌≤◌, Bool, true, false, List, [], ◌∷◌, ◌++◌, length, take, sym, ap, ◌∙◌, subst, inl, inr, arith}
use Rattle.std.proofs.lemmas.Bool.{cases_lt, lt-ltb, le-ltb, eq-eqb}
use Rattle.std.specs.Prelude.{if◌then◌else◌, nat_lt, ◌==◌, ◌&&◌, ◌⊎◌}
use Rattle.std.specs.Str.{bytes_eq}
use Rattle.std.proofs.Math.Bool.{and-false}
use Rattle.std.proofs.lemmas.List.{length_push, take_all, take-append-le, length-take-le}
use Rattle.script_tree.specs.Names.{is_name, place_in}
use Rattle.script_tree.proofs.Numbers.{below_differs}
use Rattle.script_tree.proofs.NamePlaces.{place_within}
use Rattle.expr_script.specs.Inputs.{KeepsFirst}
use Rattle.expr_script.specs.Tokens.{with_name}

pub lt_step : (t : Bool) (p' l' p l : ℕ) → (p' < l' → p < l) → (if t then 0 else p' + 1) < suc l' → (if t then 0 else p + 1) < suc l
lt_step true p' l' p l f h = omega arith
lt_step false p' l' p l f h = omega (arith, f (omega arith))

-- a name of a front is a name of the whole
pub place_of-take : (k : ℕ) (names : List (List ℕ)) (w : List ℕ) → place_in (take k names) w < length (take k names) → place_in names w < length names
place_of-take zero names w h = absurd (omega (arith, h))
place_of-take (suc k) [] w h = absurd (omega (arith, h))
place_of-take (suc k) (n ∷ names) w h = lt_step (bytes_eq n w) (place_in (take k names) w) (length (take k names)) (place_in names w) (length names) (place_of-take k names w) h

-- a name that is there adds nothing
pub with_known : (all : List (List ℕ)) (w : List ℕ) → place_in all w < length all → with_name all w ≡ all
with_known all w h =
    ap (λ t. if is_name w && t then all ++ w ∷ [] else all) (below_differs (place_in all w) (length all) h)
    ∙ ap (λ t. if t then all ++ w ∷ [] else all) (and-false (is_name w))

-- another name comes to the end
pub with_new : (all : List (List ℕ)) (w : List ℕ) → is_name w ≡ true → place_in all w ≡ length all → with_name all w ≡ all ++ w ∷ []
with_new all w n e =
    ap (λ t. if t && (place_in all w == length all) then all ++ w ∷ [] else all) n
    ∙ ap (λ t. if t then all ++ w ∷ [] else all) (eq-eqb (place_in all w) (length all) e)

-- what is no name adds nothing
pub with_other : (all : List (List ℕ)) (w : List ℕ) → is_name w ≡ false → with_name all w ≡ all
with_other all w n = ap (λ t. if t && (place_in all w == length all) then all ++ w ∷ [] else all) n

same_kept : {most : ℕ} {kept : List (List ℕ)} {more : Bool} {all : List (List ℕ)} (all' : List (List ℕ)) → KeepsFirst most kept more all → all' ≡ all → KeepsFirst most kept more all'
same_kept {most} {kept} {more} {all} all' k e = record { first = k.first ∙ ap (take most) (sym e); rest = k.rest ∙ ap (λ l. nat_lt most (length l)) (sym e) }

pub keeps_other : {most : ℕ} {kept : List (List ℕ)} {more : Bool} {all : List (List ℕ)} (w : List ℕ) → KeepsFirst most kept more all → is_name w ≡ false → KeepsFirst most kept more (with_name all w)
keeps_other {most} {kept} {more} {all} w k n = same_kept (with_name all w) k (with_other all w n)

pub keeps_known : {most : ℕ} {kept : List (List ℕ)} {more : Bool} {all : List (List ℕ)} (w : List ℕ) → KeepsFirst most kept more all → place_in kept w < length kept → KeepsFirst most kept more (with_name all w)
keeps_known {most} {kept} {more} {all} w k h =
    let P : List (List ℕ) → Type 0 = λ l. place_in l w < length l in
    same_kept (with_name all w) k (with_known all w (place_of-take most all w (subst P k.first h)))

-- below the limit all names are kept
all_kept : (most : ℕ) (kept all : List (List ℕ)) → kept ≡ take most all → length kept < most → kept ≡ all
all_kept most kept all e h = by_case (cases_lt most (length all))
  where
    by_case : (most < length all) ⊎ (length all ≤ most) → kept ≡ all
    by_case (inl many) = absurd (omega (arith, ap length e, length-take-le most all (omega arith)))
    by_case (inr few) = e ∙ take_all most all few

keeps_push : (most : ℕ) (kept : List (List ℕ)) (more : Bool) (all : List (List ℕ)) (w : List ℕ) → more ≡ nat_lt most (length all) → length all < most → kept ≡ all → KeepsFirst most (kept ++ w ∷ []) more (all ++ w ∷ [])
keeps_push most kept more all w r few e =
    record {
      first = ap (λ l. l ++ w ∷ []) e ∙ sym (take_all most (all ++ w ∷ []) (omega (arith, length_push all w)));
      rest = r ∙ le-ltb most (length all) (omega arith) ∙ sym (le-ltb most (length (all ++ w ∷ [])) (omega (arith, length_push all w)));
    }

pub keeps_new : {most : ℕ} {kept : List (List ℕ)} {more : Bool} {all : List (List ℕ)} (w : List ℕ) → KeepsFirst most kept more all → is_name w ≡ true → length kept ≤ place_in kept w → length kept < most → KeepsFirst most (kept ++ w ∷ []) more (with_name all w)
keeps_new {most} {kept} {more} {all} w k n h few =
    let e : kept ≡ all = all_kept most kept all k.first few in
    let at_end : place_in all w ≡ length all = omega (arith, h, ap length e, ap (λ l. place_in l w) e, place_within all w) in
    subst (λ (l : List (List ℕ)). KeepsFirst most (kept ++ w ∷ []) more l) (sym (with_new all w n at_end)) (keeps_push most kept more all w k.rest (omega (arith, few, ap length e)) e)

keeps_rest : (most : ℕ) (kept all : List (List ℕ)) (w : List ℕ) → kept ≡ take most all → length kept ≤ place_in kept w → most ≤ length kept → place_in all w < length all → most < length all
keeps_rest most kept all w e h many p = by_case (cases_lt most (length all))
  where
    by_case : (most < length all) ⊎ (length all ≤ most) → most < length all
    by_case (inl more) = more
    by_case (inr few) = let s : kept ≡ all = e ∙ take_all most all few in absurd (omega (arith, h, p, ap length s, ap (λ l. place_in l w) s))

front_many : (most : ℕ) (all : List (List ℕ)) → most ≤ length (take most all) → most ≤ length all
front_many most all h = by_case (cases_lt (length all) most)
  where
    by_case : (length all < most) ⊎ (most ≤ length all) → most ≤ length all
    by_case (inl few) = absurd (omega (arith, h, ap length (take_all most all (omega arith))))
    by_case (inr many) = many

pub keeps_more : {most : ℕ} {kept : List (List ℕ)} {more : Bool} {all : List (List ℕ)} (w : List ℕ) → KeepsFirst most kept more all → is_name w ≡ true → length kept ≤ place_in kept w → most ≤ length kept → KeepsFirst most kept true (with_name all w)
keeps_more {most} {kept} {more} {all} w k n h many = by_case (cases_lt (place_in all w) (length all))
  where
    enough : most ≤ length all
    enough = front_many most all (omega (arith, many, ap length k.first))

    by_case : (place_in all w < length all) ⊎ (length all ≤ place_in all w) → KeepsFirst most kept true (with_name all w)
    by_case (inl there) =
        subst (λ (l : List (List ℕ)). KeepsFirst most kept true l) (sym (with_known all w there))
        (record { first = k.first; rest = sym (lt-ltb most (length all) (keeps_rest most kept all w k.first h many there)) })
    by_case (inr end) =
        subst (λ (l : List (List ℕ)). KeepsFirst most kept true l) (sym (with_new all w n (omega (arith, end, place_within all w))))
        (record {
          first = k.first ∙ sym (take-append-le most all (w ∷ []) enough);
          rest = sym (lt-ltb most (length (all ++ w ∷ [])) (omega (arith, enough, length_push all w)));
        })
