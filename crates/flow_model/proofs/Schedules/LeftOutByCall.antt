-- A script with one call more leaves out the same calls, and that one where it is misnamed or no version is left.
use Rattle.std.proofs.Common.{◌≡◌, ℕ, zero, suc, ◌+◌, ◌-◌, ◌≤◌, Bool, true, false, refl, sym, ap, ap₂, arith, List, [], ◌∷◌, ◌++◌, length, ◌∙◌, subst, Option, Some, None, append_assoc, append-nil}
use Rattle.std.specs.Prelude.{is_none}
use Rattle.signal_graph.specs.declared.call.Call.{Call}
use Rattle.signal_graph.specs.declared.log.Refused.{Refused}
use Rattle.signal_graph.specs.Graph.{Graph}
use Rattle.signal_graph.specs.Machine.{misnamed}
use Rattle.call_log.specs.Made.{well_named}
use Rattle.call_log.specs.LeftOut.{why_not, left_behind, refusal, left_out_from}

-- how many of a script's first calls are well-named
pub named-more : (graph : Graph) (xs : List Call) (c : Call) → misnamed graph c ≡ None → well_named graph (xs ++ c ∷ []) ≡ well_named graph xs ++ c ∷ []
named-more graph [] c e = rw e refl
named-more graph (x ∷ xs) c e = go (is_none (misnamed graph x)) refl (named-more graph xs c e)
  where
    go : (b : Bool) → is_none (misnamed graph x) ≡ b → well_named graph (xs ++ c ∷ []) ≡ well_named graph xs ++ c ∷ [] → well_named graph ((x ∷ xs) ++ c ∷ []) ≡ well_named graph (x ∷ xs) ++ c ∷ []
    go true k r = rw k (ap (λ (cs : List Call). x ∷ cs) r)
    go false k r = rw k r

pub named-same : (graph : Graph) (xs : List Call) (c : Call) (place : ℕ) → misnamed graph c ≡ Some place → well_named graph (xs ++ c ∷ []) ≡ well_named graph xs
named-same graph [] c place e = rw e refl
named-same graph (x ∷ xs) c place e = go (is_none (misnamed graph x)) refl (named-same graph xs c place e)
  where
    go : (b : Bool) → is_none (misnamed graph x) ≡ b → well_named graph (xs ++ c ∷ []) ≡ well_named graph xs → well_named graph ((x ∷ xs) ++ c ∷ []) ≡ well_named graph (x ∷ xs)
    go true k r = rw k (ap (λ (cs : List Call). x ∷ cs) r)
    go false k r = rw k r

named-head : (graph : Graph) (x : Call) (xs : List Call) → misnamed graph x ≡ None → well_named graph (x ∷ xs) ≡ x ∷ well_named graph xs
named-head graph x xs e = rw e refl

named-tail : (graph : Graph) (x : Call) (xs : List Call) (place : ℕ) → misnamed graph x ≡ Some place → well_named graph (x ∷ xs) ≡ well_named graph xs
named-tail graph x xs place e = rw e refl

-- ---- one call more

abbrev last_refusal : Graph → ℕ → ℕ → ℕ → ℕ → List Call → Call → List Refused
last_refusal graph limit caller number left xs c = refusal caller (number + length xs) (why_not limit (left - length (well_named graph xs)) (misnamed graph c))

pub left_out-more : (graph : Graph) (limit caller number left : ℕ) (xs : List Call) (c : Call) → left_out_from graph limit caller number left (xs ++ c ∷ []) ≡ left_out_from graph limit caller number left xs ++ last_refusal graph limit caller number left xs c
left_out-more graph limit caller number left [] c = append-nil _ ∙ ap₂ (λ (a b : ℕ). refusal caller a (why_not limit b (misnamed graph c))) (sym (plus_zero number)) (sym (less_zero left))
  where
    plus_zero : (a : ℕ) → a + 0 ≡ a
    plus_zero a = omega arith

    less_zero : (a : ℕ) → a - 0 ≡ a
    less_zero a = omega arith
left_out-more graph limit caller number left (x ∷ xs) c =
    ap (λ (rs : List Refused). refusal caller number (why_not limit left (misnamed graph x)) ++ rs) (left_out-more graph limit caller (number + 1) (left_behind left (misnamed graph x)) xs c)
    ∙ sym (append_assoc (refusal caller number (why_not limit left (misnamed graph x))) (left_out_from graph limit caller (number + 1) (left_behind left (misnamed graph x)) xs) (last_refusal graph limit caller (number + 1) (left_behind left (misnamed graph x)) xs c))
    ∙ ap (λ (rs : List Refused). left_out_from graph limit caller number left (x ∷ xs) ++ rs) (ap₂ (λ (a b : ℕ). refusal caller a (why_not limit b (misnamed graph c))) (shift number (length xs)) (behind (misnamed graph x) refl))
  where
    shift : (a b : ℕ) → (a + 1) + b ≡ a + suc b
    shift a b = omega arith

    one_less : (a b : ℕ) → (a - 1) - b ≡ a - suc b
    one_less a b = omega arith

    behind : (o : Option ℕ) → misnamed graph x ≡ o → left_behind left o - length (well_named graph xs) ≡ left - length (well_named graph (x ∷ xs))
    behind None e = one_less left (length (well_named graph xs)) ∙ ap (λ (cs : List Call). left - length cs) (sym (named-head graph x xs e))
    behind (Some place) e = ap (λ (cs : List Call). left - length cs) (sym (named-tail graph x xs place e))

-- Where so many are made as are well-named, one more makes no difference.
pub left_out-enough : (graph : Graph) (limit caller number left : ℕ) (xs : List Call) → length (well_named graph xs) ≤ left → left_out_from graph limit caller number (suc left) xs ≡ left_out_from graph limit caller number left xs
left_out-enough graph limit caller number left [] h = refl
left_out-enough graph limit caller number left (x ∷ xs) h = go (misnamed graph x) refl (λ l k. left_out-enough graph limit caller (number + 1) l xs k)
  where
    go : (o : Option ℕ) → misnamed graph x ≡ o → ((l : ℕ) → length (well_named graph xs) ≤ l → left_out_from graph limit caller (number + 1) (suc l) xs ≡ left_out_from graph limit caller (number + 1) l xs)
        → refusal caller number (why_not limit (suc left) o) ++ left_out_from graph limit caller (number + 1) (left_behind (suc left) o) xs ≡ refusal caller number (why_not limit left o) ++ left_out_from graph limit caller (number + 1) (left_behind left o) xs
    go (Some place) e further = ap (λ (rs : List Refused). refusal caller number (why_not limit left (Some place)) ++ rs) (further left (subst (λ (cs : List Call). length cs ≤ left) (named-tail graph x xs place e) h))
    go None e further = some left (subst (λ (cs : List Call). length cs ≤ left) (named-head graph x xs e) h)
      where
        some : (l : ℕ) → suc (length (well_named graph xs)) ≤ l → refusal caller number (why_not limit (suc l) None) ++ left_out_from graph limit caller (number + 1) (suc l - 1) xs ≡ refusal caller number (why_not limit l None) ++ left_out_from graph limit caller (number + 1) (l - 1) xs
        some zero k = absurd (omega (arith, k))
        some (suc l) k =
            let a : suc (suc l) - 1 ≡ suc l = omega arith in
            let b : suc l - 1 ≡ l = omega arith in
            ap (λ (m : ℕ). left_out_from graph limit caller (number + 1) m xs) a ∙ further l (omega (arith, k)) ∙ ap (λ (m : ℕ). left_out_from graph limit caller (number + 1) m xs) (sym b)
