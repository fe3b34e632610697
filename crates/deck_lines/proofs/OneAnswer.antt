-- A line has one answer.
use Rattle.std.proofs.Common.{◌≡◌, ◌≢◌, ℕ, List, [], ◌∷◌, refl, ap, arith, subst, inl, inr, ◌⊎◌}
use Rattle.std.specs.List.{AllByRecursion}
use Rattle.script_tree.specs.declared.limits.TheConstants.{LEVELS}
use Rattle.script_grammar.specs.declared.token.Token.{Token}
use Rattle.script_grammar.specs.Grammar.{BeginsWithin, IsTooDeepAt}
use Rattle.script_grammar.specs.Refusals.{IsFirstFaultAt}
use Rattle.expr_script.specs.Tokens.{tokens}
use Rattle.deck_lines.specs.declared.fault.Limit.{Limit}
use Rattle.deck_lines.specs.declared.fault.Limit.TheVariants.{Levels, Inputs, Candidates, Selectors, Sets, Looks}
use Rattle.deck_lines.specs.declared.fault.LineFault.{LineFault}
use Rattle.deck_lines.specs.declared.fault.LineFault.TheVariants.{Syntax, TooMany, Memory}
use Rattle.deck_lines.specs.declared.line.Line.{Line}
use Rattle.deck_lines.specs.Forms.{Words, Form}
use Rattle.deck_lines.specs.Limits.{Job, scripts_of, IsWrong, IsTooDeep, IsShallow, One, Keeps, Passes, IsBeyond}
use Rattle.deck_lines.specs.Lines.{IsLine, IsLineFault}
use Rattle.deck_lines.proofs.Fitting.{one_form}

-- what is shallow isn't too deep, and what goes wrong before isn't either
abbrev pub Shallows : Type 0
Shallows = (limit : ℕ) (text : List Token) (k : ℕ) → BeginsWithin limit text → IsTooDeepAt limit text k → ⊥

abbrev pub Aparts : Type 0
Aparts = (limit : ℕ) (text : List Token) (k j : ℕ) → IsFirstFaultAt limit text k → IsTooDeepAt limit text j → ⊥

none_of : {A : Type 0} (P Q : A → Type 0) → ((x : A) → P x → Q x → ⊥) → (xs : List A) → AllByRecursion P xs → One Q xs → ⊥
none_of P Q n [] all o = o
none_of P Q n (x ∷ xs) all (inl q) = n x all.0 q
none_of P Q n (x ∷ xs) all (inr o) = none_of P Q n xs all.1 o

shallow_not_wrong : (job : Job) → IsShallow job → IsWrong job → ⊥
shallow_not_wrong job s w = w.first.fault.none s.tree s.spells

read_not_wrong : Aparts → (job : Job) → IsShallow job ⊎ IsTooDeep job → IsWrong job → ⊥
read_not_wrong apart job (inl s) w = shallow_not_wrong job s w
read_not_wrong apart job (inr d) w = apart LEVELS (tokens job.0 job.1) w.number d.number w.first d.first

-- no form keeps a limit and goes beyond it
kept_not_passed : Shallows → (f : Form) (limit : Limit) → Keeps f limit → Passes f limit → ⊥
kept_not_passed deep f Levels k p = none_of IsShallow IsTooDeep (λ job s d. deep LEVELS (tokens job.0 job.1) d.number s.shallow d.first) (scripts_of f) k p
kept_not_passed deep f Inputs k (inl o) = none_of _ _ (λ (job : Job) a b. omega (arith, a, b)) (scripts_of f) k.0 o
kept_not_passed deep f Inputs k (inr p) = omega (arith, k.1, p)
kept_not_passed deep f Candidates k p = none_of _ _ (λ part a b. omega (arith, a, b)) _ k p
kept_not_passed deep f Selectors k p = omega (arith, k, p)
kept_not_passed deep f Sets k p = omega (arith, k, p)
kept_not_passed deep f Looks k p = omega (arith, k, p)

-- a form that keeps all limits goes beyond none
kept_one : (f : Form) (limit : Limit) → AllByRecursion (Keeps f) (Levels ∷ Inputs ∷ Candidates ∷ Selectors ∷ Sets ∷ Looks ∷ []) → Keeps f limit
kept_one f Levels all = all.0
kept_one f Inputs all = all.1.0
kept_one f Candidates all = all.1.1.0
kept_one f Selectors all = all.1.1.1.0
kept_one f Sets all = all.1.1.1.1.0
kept_one f Looks all = all.1.1.1.1.1.0

pub line_or_fault : Shallows → (words : Words) (line : Line) (fault : LineFault) → IsLine words line → IsLineFault words fault → fault ≡ Memory
line_or_fault deep words line Syntax l h = absurd (none_of IsShallow IsWrong shallow_not_wrong (scripts_of l.f) l.within.0 (h l.f l.fits))
line_or_fault deep words line (TooMany limit) l h =
    absurd (kept_not_passed deep h.f limit (kept_one h.f limit (subst (λ f. AllByRecursion (Keeps f) (Levels ∷ Inputs ∷ Candidates ∷ Selectors ∷ Sets ∷ Looks ∷ [])) (one_form words l.f h.f l.fits h.fits) l.within)) h.beyond.beyond)
line_or_fault deep words line Memory l h = refl

-- a form goes beyond one first limit
one_limit : Shallows → (f : Form) (a b : Limit) → IsBeyond f a → IsBeyond f b → a ≡ b
one_limit deep f Levels Levels p q = refl
one_limit deep f Levels Inputs p q = absurd (kept_not_passed deep f Levels q.before.0 p.beyond)
one_limit deep f Levels Candidates p q = absurd (kept_not_passed deep f Levels q.before.0 p.beyond)
one_limit deep f Levels Selectors p q = absurd (kept_not_passed deep f Levels q.before.0 p.beyond)
one_limit deep f Levels Sets p q = absurd (kept_not_passed deep f Levels q.before.0 p.beyond)
one_limit deep f Levels Looks p q = absurd (kept_not_passed deep f Levels q.before.0 p.beyond)
one_limit deep f Inputs Levels p q = absurd (kept_not_passed deep f Levels p.before.0 q.beyond)
one_limit deep f Inputs Inputs p q = refl
one_limit deep f Inputs Candidates p q = absurd (kept_not_passed deep f Inputs q.before.1.0 p.beyond)
one_limit deep f Inputs Selectors p q = absurd (kept_not_passed deep f Inputs q.before.1.0 p.beyond)
one_limit deep f Inputs Sets p q = absurd (kept_not_passed deep f Inputs q.before.1.0 p.beyond)
one_limit deep f Inputs Looks p q = absurd (kept_not_passed deep f Inputs q.before.1.0 p.beyond)
one_limit deep f Candidates Levels p q = absurd (kept_not_passed deep f Levels p.before.0 q.beyond)
one_limit deep f Candidates Inputs p q = absurd (kept_not_passed deep f Inputs p.before.1.0 q.beyond)
one_limit deep f Candidates Candidates p q = refl
one_limit deep f Candidates Selectors p q = absurd (kept_not_passed deep f Candidates q.before.1.1.0 p.beyond)
one_limit deep f Candidates Sets p q = absurd (kept_not_passed deep f Candidates q.before.1.1.0 p.beyond)
one_limit deep f Candidates Looks p q = absurd (kept_not_passed deep f Candidates q.before.1.1.0 p.beyond)
one_limit deep f Selectors Levels p q = absurd (kept_not_passed deep f Levels p.before.0 q.beyond)
one_limit deep f Selectors Inputs p q = absurd (kept_not_passed deep f Inputs p.before.1.0 q.beyond)
one_limit deep f Selectors Candidates p q = absurd (kept_not_passed deep f Candidates p.before.1.1.0 q.beyond)
one_limit deep f Selectors Selectors p q = refl
one_limit deep f Selectors Sets p q = absurd (kept_not_passed deep f Selectors q.before.1.1.1.0 p.beyond)
one_limit deep f Selectors Looks p q = absurd (kept_not_passed deep f Selectors q.before.1.1.1.0 p.beyond)
one_limit deep f Sets Levels p q = absurd (kept_not_passed deep f Levels p.before.0 q.beyond)
one_limit deep f Sets Inputs p q = absurd (kept_not_passed deep f Inputs p.before.1.0 q.beyond)
one_limit deep f Sets Candidates p q = absurd (kept_not_passed deep f Candidates p.before.1.1.0 q.beyond)
one_limit deep f Sets Selectors p q = absurd (kept_not_passed deep f Selectors p.before.1.1.1.0 q.beyond)
one_limit deep f Sets Sets p q = refl
one_limit deep f Sets Looks p q = absurd (kept_not_passed deep f Sets q.before.1.1.1.1.0 p.beyond)
one_limit deep f Looks Levels p q = absurd (kept_not_passed deep f Levels p.before.0 q.beyond)
one_limit deep f Looks Inputs p q = absurd (kept_not_passed deep f Inputs p.before.1.0 q.beyond)
one_limit deep f Looks Candidates p q = absurd (kept_not_passed deep f Candidates p.before.1.1.0 q.beyond)
one_limit deep f Looks Selectors p q = absurd (kept_not_passed deep f Selectors p.before.1.1.1.0 q.beyond)
one_limit deep f Looks Sets p q = absurd (kept_not_passed deep f Sets p.before.1.1.1.1.0 q.beyond)
one_limit deep f Looks Looks p q = refl

pub one_fault : Shallows → Aparts → (words : Words) (a b : LineFault) → IsLineFault words a → IsLineFault words b → a ≢ Memory → b ≢ Memory → a ≡ b
one_fault deep apart words Syntax Syntax p q m n = refl
one_fault deep apart words Syntax (TooMany b) p q m n = absurd (none_of _ IsWrong (read_not_wrong apart) (scripts_of q.f) q.beyond.scripts (p q.f q.fits))
one_fault deep apart words (TooMany a) Syntax p q m n = absurd (none_of _ IsWrong (read_not_wrong apart) (scripts_of p.f) p.beyond.scripts (q p.f p.fits))
one_fault deep apart words (TooMany a) (TooMany b) p q m n =
    ap TooMany (one_limit deep q.f a b (subst (λ f. IsBeyond f a) (one_form words p.f q.f p.fits q.fits) p.beyond) q.beyond)
one_fault deep apart words Memory b p q m n = absurd (m refl)
one_fault deep apart words a Memory p q m n = absurd (n refl)
