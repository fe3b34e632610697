-- The answers on a text exclude each other.
use Rattle.std.proofs.Common.{◌≡◌, ℕ, ◌+◌, ◌<◌, ◌≤◌, Bool, true, false, List, ◌++◌, length, take, drop, refl, sym, ap, ◌∙◌, subst, arith, append_assoc}
use Rattle.std.specs.Prelude.{nat_lt}
use Rattle.std.proofs.lemmas.Bool.Decides.{nat_tests}
use Rattle.std.proofs.lemmas.Grind.{common_steps}
use Rattle.std.proofs.lemmas.List.{length-take-le, take-append-drop, take_all}
use Rattle.script_grammar.specs.declared.token.Token.{Token}
use Rattle.script_grammar.specs.Grammar.{Begins, BeginsWithin, IsSyntaxAt, IsTooDeepAt}
use Rattle.script_grammar.specs.Refusals.{IsFirstFaultAt}
use Rattle.script_grammar.proofs.Depths.{one_nesting}

-- the first tokens of the first tokens
take_again : (i j : ℕ) (ts : List Token) → i ≤ j → take j ts ≡ take i ts ++ drop i (take j ts)
take_again i j ts h = sym (take-append-drop i (take j ts)) ∙ ap (λ z. z ++ drop i (take j ts)) (take_within i j ts h)
  where
    take_within : (i j : ℕ) (ts : List Token) → i ≤ j → take i (take j ts) ≡ take i ts
    take_within i j ts h = grind (arith, common_steps)

begins_front : (i j : ℕ) (ts : List Token) → i ≤ j → Begins (take j ts) → Begins (take i ts)
begins_front i j ts h b = record {
  written = b.written;
  grammar = b.grammar;
  more = drop i (take j ts) ++ b.more;
  same = b.same ∙ ap (λ z. z ++ b.more) (take_again i j ts h) ∙ append_assoc (take i ts) (drop i (take j ts)) b.more;
}

-- a token that is nested too deep does not stand among tokens that are not
pub not_both : (limit n k : ℕ) (ts : List Token) → n ≤ length ts → BeginsWithin limit (take n ts) → IsTooDeepAt limit ts k → k < n → ⊥
not_both limit n k ts le b deep h =
    let first = b.same ∙ ap (λ z. z ++ b.more) (take_again (k + 1) n ts (omega arith)) ∙ append_assoc (take (k + 1) ts) (drop (k + 1) (take n ts)) b.more in
    let alike = one_nesting b.written deep.written b.grammar deep.grammar (take (k + 1) ts) (drop (k + 1) (take n ts) ++ b.more) deep.more first deep.same k (omega (arith, length-take-le (k + 1) ts (omega arith))) in
    absurd (omega (arith, alike, deep.deep, b.shallow k (omega (arith, length-take-le n ts le))))

pub shallow_is_not_deep : (limit : ℕ) (ts : List Token) (k : ℕ) → BeginsWithin limit ts → IsTooDeepAt limit ts k → ⊥
shallow_is_not_deep limit ts k b deep = not_both limit (length ts) k ts (omega arith) (subst (BeginsWithin limit) (sym (take_all (length ts) ts (omega arith))) b) deep deep.within

pub fault_is_not_deep : (limit : ℕ) (ts : List Token) (k j : ℕ) → IsFirstFaultAt limit ts k → IsTooDeepAt limit ts j → ⊥
fault_is_not_deep limit ts k j f deep = by_order (nat_lt j k) refl
  where
    by_order : (b : Bool) → nat_lt j k ≡ b → ⊥
    by_order true e = not_both limit k j ts f.fault.within f.shallow deep (grind (arith, nat_tests))
    by_order false e =
        let le : k ≤ j = grind (arith, nat_tests) in
        f.fault.here (omega (arith, deep.within)) (begins_front (k + 1) (j + 1) ts (omega arith) (record { written = deep.written; grammar = deep.grammar; more = deep.more; same = deep.same }))

not_before : (ts : List Token) (k j : ℕ) → IsSyntaxAt ts k → IsSyntaxAt ts j → k < j → ⊥
not_before ts k j f g h = f.here (omega (arith, g.within)) (begins_front (k + 1) j ts (omega arith) g.before)

pub one_fault : (ts : List Token) (k j : ℕ) → IsSyntaxAt ts k → IsSyntaxAt ts j → k ≡ j
one_fault ts k j f g = same k j (not_before ts k j f g) (not_before ts j k g f)
  where
    same : (k j : ℕ) → (k < j → ⊥) → (j < k → ⊥) → k ≡ j
    same k j a b = omega arith

pub one_depth : (limit : ℕ) (ts : List Token) (k j : ℕ) → IsTooDeepAt limit ts k → IsTooDeepAt limit ts j → k ≡ j
one_depth limit ts k j f g = same k j (not_first k j f g) (not_first j k g f)
  where
    not_first : (k j : ℕ) → IsTooDeepAt limit ts k → IsTooDeepAt limit ts j → k < j → ⊥
    not_first k j f g h =
        let first = g.same ∙ ap (λ z. z ++ g.more) (take_again (k + 1) (j + 1) ts (omega arith)) ∙ append_assoc (take (k + 1) ts) (drop (k + 1) (take (j + 1) ts)) g.more in
        let alike = one_nesting g.written f.written g.grammar f.grammar (take (k + 1) ts) (drop (k + 1) (take (j + 1) ts) ++ g.more) f.more first f.same k (omega (arith, length-take-le (k + 1) ts (omega (arith, f.within)))) in
        absurd (omega (arith, alike, f.deep, g.first k h))

    same : (k j : ℕ) → (k < j → ⊥) → (j < k → ⊥) → k ≡ j
    same k j a b = omega arith
