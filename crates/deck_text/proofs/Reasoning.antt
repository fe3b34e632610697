-- Which reasons a line doesn't have.
use Rattle.std.proofs.Common.{◌≡◌, ◌≢◌, ℕ, ◌<◌, ◌≤◌, ◌⊎◌, inl, inr, List, [], ◌∷◌, length, refl, sym, ap, ◌∙◌, arith, subst}
use Rattle.script_tree.specs.declared.limits.TheConstants.{INPUTS, SELECTORS, SETS, LOOKS}
use Rattle.deck_lines.specs.declared.fault.Limit.{Limit}
use Rattle.deck_lines.specs.declared.fault.Limit.TheVariants as limit
use Rattle.deck_lines.specs.declared.fault.LineFault.{LineFault}
use Rattle.deck_lines.specs.declared.fault.LineFault.TheVariants as fault
use Rattle.deck_lines.specs.declared.line.Line as lines
use Rattle.deck_lines.specs.declared.line.Line.TheVariants as said
use Rattle.deck_lines.specs.Forms as form
use Rattle.deck_lines.specs.Forms.{Words, Form, Fits, SetForm, PartForm}
use Rattle.deck_lines.specs.Limits.{IsTooDeep, One, scripts_of, selectors_of, sets_of, looks_of, together, Passes}
use Rattle.deck_lines.specs.Lines.{Says, IsLine, IsLineFault}
use Rattle.deck_text.specs.Decks.{Decked}
use Rattle.deck_text.specs.Reasons.{Part, Silent, Declaring, Beginning, Calling, part_of, Are, AreMisplaced}

-- what is known of lines: words have one form, and one answer
abbrev pub OneForm : Type 0
OneForm = (words : Words) (a b : Form) → Fits words a → Fits words b → a ≡ b

abbrev pub Apart : Type 0
Apart = (words : Words) (line : lines.Line) (f : LineFault) → IsLine words line → IsLineFault words f → f ≡ fault.Memory

abbrev pub OneFault : Type 0
OneFault = (words : Words) (a b : LineFault) → IsLineFault words a → IsLineFault words b → a ≢ fault.Memory → b ≢ fault.Memory → a ≡ b

pub one_part : OneForm → (words : Words) (a b : Part) → Are words a → Are words b → a ≡ b
one_part one words a b p q = sym p.for ∙ ap part_of (one words p.f q.f p.fits q.fits) ∙ q.for

-- the part of what is said
abbrev pub said_part : lines.Line → Part
said_part said.Nothing = Silent
said_part (said.Declares name kind) = Declaring
said_part said.Thread = Beginning
said_part (said.Calls call) = Calling

says_part : (f : Form) (line : lines.Line) → Says f line → part_of f ≡ said_part line
says_part form.Nothing line s = sym (ap said_part s)
says_part (form.Source name start) line s = sym (ap said_part s.2)
says_part (form.Signal name words) line s = sym (ap said_part s.2)
says_part (form.Fold name start words) line s = sym (ap said_part s.4)
says_part (form.Choose name words over) line s = sym (ap said_part s.4)
says_part form.Thread line s = sym (ap said_part s)
says_part (form.Fire words looks) line s = sym (ap said_part s.2)
says_part (form.Read looks) line s = sym (ap said_part s)

pub line_part : (words : Words) (line : lines.Line) → IsLine words line → Are words (said_part line)
line_part words line l = record { f = l.f; fits = l.fits; for = says_part l.f line l.says }

-- a form that isn't for a declaration has no scripts and no selectors
declares_or_not : (f : Form) → (part_of f ≡ Declaring) ⊎ ((scripts_of f ≡ []) × (selectors_of f ≡ []))
declares_or_not form.Nothing = inr (refl, refl)
declares_or_not (form.Source name start) = inl refl
declares_or_not (form.Signal name words) = inl refl
declares_or_not (form.Fold name start words) = inl refl
declares_or_not (form.Choose name words over) = inl refl
declares_or_not form.Thread = inr (refl, refl)
declares_or_not (form.Fire words looks) = inr (refl, refl)
declares_or_not (form.Read looks) = inr (refl, refl)

calls_or_not : (f : Form) → (part_of f ≡ Calling) ⊎ ((sets_of f ≡ []) × (looks_of f ≡ []))
calls_or_not form.Nothing = inr (refl, refl)
calls_or_not (form.Source name start) = inr (refl, refl)
calls_or_not (form.Signal name words) = inr (refl, refl)
calls_or_not (form.Fold name start words) = inr (refl, refl)
calls_or_not (form.Choose name words over) = inr (refl, refl)
calls_or_not form.Thread = inr (refl, refl)
calls_or_not (form.Fire words looks) = inl refl
calls_or_not (form.Read looks) = inl refl

-- the part of a form that goes beyond a limit
abbrev pub limit_part : Limit → Part
limit_part limit.Levels = Declaring
limit_part limit.Inputs = Declaring
limit_part limit.Candidates = Declaring
limit_part limit.Selectors = Declaring
limit_part limit.Sets = Calling
limit_part limit.Looks = Calling

no_one : {A : Type 0} (P : A → Type 0) (xs : List A) → xs ≡ [] → One P xs → ⊥
no_one P [] e o = o
no_one P (x ∷ xs) e o = absurd (let n : length (x ∷ xs) ≡ 0 = ap length e in omega (arith, n))

few : {A : Type 0} (n : ℕ) (xs : List A) → xs ≡ [] → n < length xs → ⊥
few n xs e h = let k : length xs ≡ 0 = ap length e in omega (arith, k, h)

declares_if : {A : Type 0} (P : A → Type 0) (f : Form) (pick : Form → List A) → ((scripts_of f ≡ []) × (selectors_of f ≡ []) → pick f ≡ []) → One P (pick f) → part_of f ≡ Declaring
declares_if P f pick nothing o = by (declares_or_not f)
  where
    by : (part_of f ≡ Declaring) ⊎ ((scripts_of f ≡ []) × (selectors_of f ≡ [])) → part_of f ≡ Declaring
    by (inl e) = e
    by (inr e) = absurd (no_one P (pick f) (nothing e) o)

many_if : (n : ℕ) (f : Form) → n < length (selectors_of f) → part_of f ≡ Declaring
many_if n f h = by (declares_or_not f)
  where
    by : (part_of f ≡ Declaring) ⊎ ((scripts_of f ≡ []) × (selectors_of f ≡ [])) → part_of f ≡ Declaring
    by (inl e) = e
    by (inr e) = absurd (few n (selectors_of f) e.1 h)

together_if : (f : Form) → INPUTS < together f → part_of f ≡ Declaring
together_if form.Nothing h = absurd (omega (arith, h))
together_if (form.Source name start) h = refl
together_if (form.Signal name words) h = refl
together_if (form.Fold name start words) h = refl
together_if (form.Choose name words over) h = refl
together_if form.Thread h = absurd (omega (arith, h))
together_if (form.Fire words looks) h = absurd (omega (arith, h))
together_if (form.Read looks) h = absurd (omega (arith, h))

sets_if : (n : ℕ) (f : Form) → n < length (sets_of f) → part_of f ≡ Calling
sets_if n f h = by (calls_or_not f)
  where
    by : (part_of f ≡ Calling) ⊎ ((sets_of f ≡ []) × (looks_of f ≡ [])) → part_of f ≡ Calling
    by (inl e) = e
    by (inr e) = absurd (few n (sets_of f) e.0 h)

looks_if : (n : ℕ) (f : Form) → n < length (looks_of f) → part_of f ≡ Calling
looks_if n f h = by (calls_or_not f)
  where
    by : (part_of f ≡ Calling) ⊎ ((sets_of f ≡ []) × (looks_of f ≡ [])) → part_of f ≡ Calling
    by (inl e) = e
    by (inr e) = absurd (few n (looks_of f) e.1 h)

passes_part : (f : Form) (l : Limit) → Passes f l → part_of f ≡ limit_part l
passes_part f limit.Levels p = declares_if IsTooDeep f scripts_of (λ e. e.0) p
passes_part f limit.Inputs (inl p) = declares_if _ f scripts_of (λ e. e.0) p
passes_part f limit.Inputs (inr p) = together_if f p
passes_part f limit.Candidates p = declares_if _ f selectors_of (λ e. e.1) p
passes_part f limit.Selectors p = many_if SELECTORS f p
passes_part f limit.Sets p = sets_if SETS f p
passes_part f limit.Looks p = looks_if LOOKS f p

pub beyond_part : (words : Words) (l : Limit) → IsLineFault words (fault.TooMany l) → Are words (limit_part l)
beyond_part words l g = record { f = g.f; fits = g.fits; for = passes_part g.f l g.beyond.beyond }

-- parts differ
abbrev pub IsDeclaring : Part → Type 0
IsDeclaring Declaring = Unit {0}
IsDeclaring part = ⊥

abbrev IsCalling : Part → Type 0
IsCalling Calling = Unit {0}
IsCalling part = ⊥

abbrev pub IsBeginning : Part → Type 0
IsBeginning Beginning = Unit {0}
IsBeginning part = ⊥

pub not_calling : OneForm → (words : Words) → Are words Declaring → Are words Calling → ⊥
not_calling one words a b = subst IsDeclaring (one_part one words Declaring Calling a b) tt

pub not_beginning : OneForm → (words : Words) → Are words Declaring → Are words Beginning → ⊥
not_beginning one words a b = subst IsDeclaring (one_part one words Declaring Beginning a b) tt

pub begins_or_calls : OneForm → (words : Words) → Are words Beginning → Are words Calling → ⊥
begins_or_calls one words a b = subst IsBeginning (one_part one words Beginning Calling a b) tt

pub silent_is : OneForm → (words : Words) → Are words Silent → (part : Part) → Are words part → part ≡ Silent
silent_is one words a part b = one_part one words part Silent b a

-- what stands in its part of a deck
abbrev pub Stands : Part → Decked → Type 0
Stands Silent deck = Unit {0}
Stands Declaring deck = deck.scripts ≡ []
Stands Beginning deck = Unit {0}
Stands Calling deck = 1 ≤ length deck.scripts

some_not_none : {A : Type 0} (xs : List A) → 1 ≤ length xs → xs ≡ [] → ⊥
some_not_none xs h e = few 0 xs e (omega (arith, h))

misplaced_not : (part : Part) (deck : Decked) → Stands part deck → (part ≡ Declaring) × (1 ≤ length deck.scripts) → ⊥
misplaced_not Silent deck s e = subst IsDeclaring (sym e.0) tt
misplaced_not Declaring deck s e = some_not_none deck.scripts e.1 s
misplaced_not Beginning deck s e = subst IsDeclaring (sym e.0) tt
misplaced_not Calling deck s e = subst IsDeclaring (sym e.0) tt

misplaced_neither : (part : Part) (deck : Decked) → Stands part deck → (part ≡ Calling) × (deck.scripts ≡ []) → ⊥
misplaced_neither Silent deck s e = subst IsCalling (sym e.0) tt
misplaced_neither Declaring deck s e = subst IsCalling (sym e.0) tt
misplaced_neither Beginning deck s e = subst IsCalling (sym e.0) tt
misplaced_neither Calling deck s e = some_not_none deck.scripts s e.1

pub well_placed : OneForm → (words : Words) (part : Part) (deck : Decked) → Are words part → Stands part deck → AreMisplaced words deck → ⊥
well_placed one words part deck a s (inl m) = misplaced_not part deck s (one_part one words part Declaring a m.0, m.1)
well_placed one words part deck a s (inr m) = misplaced_neither part deck s (one_part one words part Calling a m.0, m.1)

-- faults of a line differ
abbrev IsMemory : LineFault → Type 0
IsMemory fault.Memory = Unit {0}
IsMemory f = ⊥

pub no_syntax : Apart → (words : Words) (line : lines.Line) → IsLine words line → IsLineFault words fault.Syntax → ⊥
no_syntax apart words line l h = subst IsMemory (sym (apart words line fault.Syntax l h)) tt

pub no_limit : Apart → (words : Words) (line : lines.Line) (l : Limit) → IsLine words line → IsLineFault words (fault.TooMany l) → ⊥
no_limit apart words line l is h = subst IsMemory (sym (apart words line (fault.TooMany l) is h)) tt

abbrev IsTooMany : LineFault → Type 0
IsTooMany (fault.TooMany l) = Unit {0}
IsTooMany f = ⊥

syntax_no_memory : fault.Syntax ≢ fault.Memory
syntax_no_memory e = subst IsMemory (sym e) tt

limit_no_memory : (l : Limit) → fault.TooMany l ≢ fault.Memory
limit_no_memory l e = subst IsMemory (sym e) tt

pub beyond_no_syntax : OneFault → (words : Words) (l : Limit) → IsLineFault words (fault.TooMany l) → IsLineFault words fault.Syntax → ⊥
beyond_no_syntax one words l g h = subst IsTooMany (one words (fault.TooMany l) fault.Syntax g h (limit_no_memory l) syntax_no_memory) tt

abbrev same_limit : LineFault → Limit → Limit
same_limit (fault.TooMany l) d = l
same_limit f d = d

pub one_limit : OneFault → (words : Words) (a b : Limit) → IsLineFault words (fault.TooMany a) → IsLineFault words (fault.TooMany b) → a ≡ b
one_limit one words a b g h = ap (λ f. same_limit f a) (one words (fault.TooMany a) (fault.TooMany b) g h (limit_no_memory a) (limit_no_memory b))
