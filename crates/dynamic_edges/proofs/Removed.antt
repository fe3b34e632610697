-- The first out-edge of a node goes.
use Rattle.std.proofs.Common.{◌≡◌, ℕ, Bool, true, false, ◌==◌, List, [], ◌∷◌, suc, ◌+◌, ◌≢◌, drop, refl, sym, ap, ◌∙◌, arith, Option, Some, None}
use Rattle.std.proofs.lemmas.Bool.Decides.{eqb_tells}
use Rattle.std.proofs.lemmas.Bool.{eq-eqb, ne_eqb}
use Rattle.std.specs.Prelude.{slice_get}
use Rattle.node_versions.specs.Entries.{OutEdge, AreDifferent, has_out, without_out}
use Rattle.flow_model.specs.Machine.Changes.{remove_first}
use Rattle.flow_state.proofs.ListRests.{drop-at}
use Rattle.dynamic_edges.specs.Edges.{first_since}

pub since-has : (n since : ℕ) (edges : List OutEdge) → first_since n edges ≡ Some since → has_out edges n since ≡ true
since-has n since [] h = cc
since-has n since (edge ∷ edges) h = let r = since-has n since edges in grind (arith, eqb_tells, h, r)

without-none : (n since : ℕ) (edges : List OutEdge) → has_out edges n since ≡ false → without_out edges n since ≡ edges
without-none n since [] h = refl
without-none n since (edge ∷ edges) h = let r = without-none n since edges in grind (arith, h, r)

pub removed-first : (n since : ℕ) (edges : List OutEdge) → AreDifferent edges → first_since n edges ≡ Some since → without_out edges n since ≡ remove_first n edges
removed-first n since [] d h = refl
removed-first n since (edge ∷ edges) d h = let r = removed-first n since edges d.1 in let w = without-none n since edges in let here = d.0 in grind (arith, eqb_tells, h, r, w, here)

pub removed-none : (n : ℕ) (edges : List OutEdge) → first_since n edges ≡ None → remove_first n edges ≡ edges
removed-none n [] h = refl
removed-none n (edge ∷ edges) h = let r = removed-none n edges in grind (arith, h, r)

-- ---- the search for it

since-here : (n : ℕ) (edge : OutEdge) (edges : List OutEdge) (b : Bool) → (edge.0 == n) ≡ b → first_since n (edge ∷ edges) ≡ elim b as (λ _. Option ℕ) [ true ↦ Some edge.1 | false ↦ first_since n edges ]
since-here n edge edges b e = ap (λ (b : Bool). elim b as (λ _. Option ℕ) [ true ↦ Some edge.1 | false ↦ first_since n edges ]) e

pub since-found : (n i : ℕ) (edge : OutEdge) (edges : List OutEdge) (whole : Option ℕ) → slice_get edges i ≡ Some edge → first_since n (drop i edges) ≡ whole → edge.0 ≡ n → Some edge.1 ≡ whole
since-found n i edge edges whole at_i so e = sym (since-here n edge (drop (suc i) edges) true (eq-eqb edge.0 n e)) ∙ sym (ap (first_since n) (drop-at edges i edge at_i)) ∙ so

pub since-more : (n i : ℕ) (edge : OutEdge) (edges : List OutEdge) (whole : Option ℕ) → slice_get edges i ≡ Some edge → first_since n (drop i edges) ≡ whole → edge.0 ≢ n → first_since n (drop (i + 1) edges) ≡ whole
since-more n i edge edges whole at_i so e =
    let more : i + 1 ≡ suc i = omega arith in
    ap (λ j. first_since n (drop j edges)) more ∙ sym (since-here n edge (drop (suc i) edges) false (ne_eqb edge.0 n e)) ∙ sym (ap (first_since n) (drop-at edges i edge at_i)) ∙ so
