-- Which choose the parts between colons are.
use Rattle.std.proofs.Common.{◌≡◌, ℕ, ◌≤◌, true, false, List, [], ◌∷◌, ◌++◌, length, refl, sym, ap, ◌∙◌, arith, subst, inl, inr, append_assoc, append-nil}
use Rattle.std.specs.Prelude.{min, map, codes, Option, Some, None, Result, Ok, Err, if◌then◌else◌}
use Rattle.std.specs.Option.{option_map, option_and_then}
use Rattle.script_tree.specs.declared.limits.TheConstants.{SELECTORS}
use Rattle.script_tree.proofs.Lists.{all_append}
use Rattle.deck_lines.specs.declared.fault.Limit.{Limit}
use Rattle.deck_lines.specs.declared.fault.Limit.TheVariants.{Levels, Inputs, Candidates, Selectors as Selecting, Sets, Looks}
use Rattle.deck_lines.specs.declared.fault.LineFault.{LineFault}
use Rattle.deck_lines.specs.declared.fault.LineFault.TheVariants.{Syntax, TooMany, Memory}
use Rattle.deck_lines.specs.declared.line.Line.{Line}
use Rattle.deck_lines.specs.declared.selectors.Selectors.{Selectors}
use Rattle.deck_lines.specs.Cuts.{has, before, behind}
use Rattle.deck_lines.specs.Forms.{Words, PartForm, Form, Choose}
use Rattle.deck_lines.specs.Limits.{selector_script, body_script, IsWrong, IsTooDeep, One}
use Rattle.deck_lines.specs.Lines.{IsRead, IsReadAs}
use Rattle.deck_lines.specs.Reading.{cut, part_of, last_of, behind_part, parts_of, choose_of, choose_by, prepended}
use Rattle.deck_lines.specs.Scripts.{IsBodyRead}
use Rattle.deck_lines.specs.Selectors.{IsScript, Gathers, Adds}
use Rattle.deck_lines.proofs.Cutting.{cut_none, cut_sign, cut_some, two_sides}
use Rattle.deck_lines.proofs.Gathering.{all_scripts, one_before, one_behind}
use Rattle.deck_lines.proofs.Calling.{memory_read}

abbrev pub Found : Type 0
Found = List PartForm × Option Words

abbrev chosen_by : List ℕ → Option Found → Option Form
chosen_by name found = option_and_then (λ (f : Found). choose_of name f.0 f.1) found

-- parts that stand behind one
parts_on : (words : Words) (more : List Words) → 1 ≤ length more → parts_of (words ∷ more) ≡ option_and_then (λ part. option_map (behind_part part) (parts_of more)) (part_of words)
parts_on words [] h = absurd (omega (arith, h))
parts_on words (next ∷ more) h = refl

-- selectors are gathered, and the rest is still to be read
pub record Gathered (words : Words) (selectors : Selectors) (rest : Words) : Type 0 where
  pub done : List PartForm
  pub are : Gathers done selectors
  pub so_far : parts_of (cut (codes ":") words) ≡ option_map (prepended done) (parts_of (cut (codes ":") rest))

nothing_before : (o : Option Found) → o ≡ option_map (prepended []) o
nothing_before None = refl
nothing_before (Some found) = refl

pub gathered_none : (words : Words) (selectors : Selectors) → Gathers [] selectors → Gathered words selectors words
gathered_none words selectors g = record { done = []; are = g; so_far = nothing_before (parts_of (cut (codes ":") words)) }

cut_first : (rest : Words) → has (codes ":") rest ≡ true → cut (codes ":") rest ≡ before (codes ":") rest ∷ cut (codes ":") (behind (codes ":") rest)
cut_first rest h = let sides = two_sides (codes ":") rest h in ap (cut (codes ":")) sides.0 ∙ cut_sign (codes ":") (before (codes ":") rest) (behind (codes ":") rest) sides.1

rest_parts : (rest first last : Words) → has (codes ":") rest ≡ true → first ≡ before (codes ":") rest → last ≡ behind (codes ":") rest → parts_of (cut (codes ":") rest) ≡ option_and_then (λ part. option_map (behind_part part) (parts_of (cut (codes ":") last))) (part_of first)
rest_parts rest first last h b e =
    ap parts_of (cut_first rest h)
    ∙ ap (λ ws. parts_of (ws ∷ cut (codes ":") (behind (codes ":") rest))) (sym b)
    ∙ ap (λ ws. parts_of (first ∷ cut (codes ":") ws)) (sym e)
    ∙ parts_on first (cut (codes ":") last) (cut_some (codes ":") last)

onto : (done : List PartForm) (form : PartForm) (o : Option Found) → option_map (prepended done) (option_map (behind_part form) o) ≡ option_map (prepended (done ++ form ∷ [])) o
onto done form None = refl
onto done form (Some found) = ap (λ (ps : List PartForm). Some (ps, found.1)) (sym (append_assoc done (form ∷ []) found.0))

-- what is told of one more selector, of which something is known
told_ok : (o : Option PartForm) (old new : Selectors) → Adds o old new (Ok tt) → (form : PartForm) × (o ≡ Some form) × ((forms : List PartForm) → Gathers forms old → Gathers (forms ++ form ∷ []) new)
told_ok None old new a = absurd a
told_ok (Some form) old new a = (form, refl, a)

pub gathered_more : (words : Words) (old new : Selectors) (rest first last : Words) → Gathered words old rest → has (codes ":") rest ≡ true → first ≡ before (codes ":") rest → last ≡ behind (codes ":") rest → Adds (part_of first) old new (Ok tt) → Gathered words new last
gathered_more words old new rest first last g h b e a =
    let one = told_ok (part_of first) old new a in
    record {
      done = g.done ++ one.0 ∷ [];
      are = one.2 g.done g.are;
      so_far = g.so_far
          ∙ ap (option_map (prepended g.done)) (rest_parts rest first last h b e ∙ ap (option_and_then (λ part. option_map (behind_part part) (parts_of (cut (codes ":") last)))) one.1)
          ∙ onto g.done one.0 (parts_of (cut (codes ":") last));
    }

-- a selector whose script is none makes the line none
choose_wrong : (name : List ℕ) (parts : List PartForm) (over : Option Words) → One IsWrong (map selector_script parts) → IsRead (choose_of name parts over) (Err Syntax)
choose_wrong name [] over o = tt
choose_wrong name (part ∷ []) over o = one_before IsWrong (map selector_script (part ∷ [])) (body_script 1 over) o
choose_wrong name (part ∷ next ∷ more) None o = tt
choose_wrong name (part ∷ next ∷ more) (Some script) o = one_before IsWrong (map selector_script (part ∷ next ∷ more)) (body_script (length (part ∷ next ∷ more)) (Some script)) o

one_within : (done : List PartForm) (form : PartForm) (more : List PartForm) → IsWrong (selector_script form) → One IsWrong (map selector_script (done ++ form ∷ more))
one_within [] form more w = inl w
one_within (d ∷ done) form more w = inr (one_within done form more w)

wrong_found : (name : List ℕ) (done : List PartForm) (form : PartForm) (rest : Option Found) → IsWrong (selector_script form) → IsRead (chosen_by name (option_map (prepended done) (option_map (behind_part form) rest))) (Err Syntax)
wrong_found name done form None w = tt
wrong_found name done form (Some found) w = choose_wrong name (done ++ form ∷ found.0) found.1 (one_within done form found.0 w)

told_wrong : (name : List ℕ) (done : List PartForm) (o : Option PartForm) (rest : Option Found) (old new : Selectors) → Adds o old new (Err Syntax) → IsRead (chosen_by name (option_map (prepended done) (option_and_then (λ part. option_map (behind_part part) rest) o))) (Err Syntax)
told_wrong name done None rest old new a = tt
told_wrong name done (Some form) rest old new a = wrong_found name done form rest a

told_not : (o : Option PartForm) (old new : Selectors) (limit : Limit) → Adds o old new (Err (TooMany limit)) → ⊥
told_not None old new limit a = a
told_not (Some form) old new limit a = a

pub gathered_wrong : (name : List ℕ) (words : Words) (old new : Selectors) (rest first last : Words) (fault : LineFault) → Gathered words old rest → has (codes ":") rest ≡ true → first ≡ before (codes ":") rest → last ≡ behind (codes ":") rest → Adds (part_of first) old new (Err fault) → IsRead (choose_by (name, words)) (Err fault)
gathered_wrong name words old new rest first last Syntax g h b e a =
    subst (λ f. IsRead (chosen_by name f) (Err Syntax)) (sym (g.so_far ∙ ap (option_map (prepended g.done)) (rest_parts rest first last h b e))) (told_wrong name g.done (part_of first) (parts_of (cut (codes ":") last)) old new a)
gathered_wrong name words old new rest first last (TooMany limit) g h b e a = absurd (told_not (part_of first) old new limit a)
gathered_wrong name words old new rest first last Memory g h b e a = memory_read (choose_by (name, words))

-- the last part
pub gathered_last : (words : Words) (selectors : Selectors) (rest : Words) → Gathered words selectors rest → has (codes ":") rest ≡ false → (done : List PartForm) × Gathers done selectors × (parts_of (cut (codes ":") words) ≡ option_map (prepended done) (last_of rest))
gathered_last words selectors rest g h = (g.done, g.are, g.so_far ∙ ap (λ chunks. option_map (prepended g.done) (parts_of chunks)) (cut_none (codes ":") rest h))

two_parts : (name : List ℕ) (part : PartForm) (done : List PartForm) (o : Option PartForm) → chosen_by name (option_map (prepended (part ∷ done)) (option_map (λ p. (p ∷ [], None)) o)) ≡ None
two_parts name part done None = refl
two_parts name part [] (Some p) = refl
two_parts name part (d ∷ done) (Some p) = refl

last_part : (rest : Words) → has (codes "among") rest ≡ true → last_of rest ≡ option_map (λ p. (p ∷ [], None)) (part_of rest)
last_part rest h = ap (λ t. if t then option_map (λ part. (part ∷ [], None)) (part_of rest) else Some ([], Some rest)) h

last_body : (rest : Words) → has (codes "among") rest ≡ false → last_of rest ≡ Some ([], Some rest)
last_body rest h = ap (λ t. if t then option_map (λ part. (part ∷ [], None)) (part_of rest) else Some ([], Some rest)) h

-- two selectors without a body are no choose
pub no_body : (name : List ℕ) (words rest : Words) (part : PartForm) (done : List PartForm) → parts_of (cut (codes ":") words) ≡ option_map (prepended (part ∷ done)) (last_of rest) → has (codes "among") rest ≡ true → choose_by (name, words) ≡ None
no_body name words rest part done e h = ap (chosen_by name) (e ∙ ap (option_map (prepended (part ∷ done))) (last_part rest h)) ∙ two_parts name part done (part_of rest)

-- a body alone is none
pub no_selector : (name : List ℕ) (words rest : Words) → parts_of (cut (codes ":") words) ≡ option_map (prepended []) (last_of rest) → has (codes "among") rest ≡ false → choose_by (name, words) ≡ None
no_selector name words rest e h = ap (chosen_by name) (e ∙ ap (option_map (prepended [])) (last_body rest h))

one_part : (name : List ℕ) (o : Option PartForm) → chosen_by name (option_map (prepended []) (option_map (λ p. (p ∷ [], None)) o)) ≡ option_map (λ p. Choose name (p ∷ []) None) o
one_part name None = refl
one_part name (Some p) = refl

-- one selector without a body
pub one_selector : (name : List ℕ) (words rest : Words) → parts_of (cut (codes ":") words) ≡ option_map (prepended []) (last_of rest) → has (codes "among") rest ≡ true → choose_by (name, words) ≡ option_map (λ p. Choose name (p ∷ []) None) (part_of rest)
one_selector name words rest e h = ap (chosen_by name) (e ∙ ap (option_map (prepended [])) (last_part rest h)) ∙ one_part name (part_of rest)

some_body : (name : List ℕ) (part : PartForm) (done : List PartForm) (script : Words) → choose_of name (part ∷ done) (Some script) ≡ Some (Choose name (part ∷ done) (Some script))
some_body name part [] script = refl
some_body name part (d ∷ done) script = refl

-- selectors and a body
pub with_body : (name : List ℕ) (words rest : Words) (part : PartForm) (done : List PartForm) → parts_of (cut (codes ":") words) ≡ option_map (prepended (part ∷ done)) (last_of rest) → has (codes "among") rest ≡ false → choose_by (name, words) ≡ Some (Choose name (part ∷ done) (Some rest))
with_body name words rest part done e h =
    ap (chosen_by name) (e ∙ ap (option_map (prepended (part ∷ done))) (last_body rest h))
    ∙ ap (λ ps. choose_of name ps (Some rest)) (append-nil (part ∷ done))
    ∙ some_body name part done rest

-- a body that is at fault
pub body_fault : (name : List ℕ) (done : List PartForm) (rest : Words) (selectors : Selectors) (fault : LineFault) → Gathers done selectors → IsBodyRead (min (length done) SELECTORS) rest (Err fault) → IsReadAs (Choose name done (Some rest)) (Err fault)
body_fault name done rest selectors Syntax g h = one_behind IsWrong (map selector_script done) (body_script (length done) (Some rest)) (inl h)
body_fault name done rest selectors (TooMany Levels) g h = record {
  scripts = all_append IsScript (map selector_script done) (body_script (length done) (Some rest)) (all_scripts done selectors.deep selectors.many selectors.within.items g.scripts) (inr h, tt);
  beyond = one_behind IsTooDeep (map selector_script done) (body_script (length done) (Some rest)) (inl h);
  before = tt;
}
body_fault name done rest selectors (TooMany Inputs) g h = absurd (omega (arith, h.many))
body_fault name done rest selectors (TooMany Candidates) g h = absurd h
body_fault name done rest selectors (TooMany Selecting) g h = absurd h
body_fault name done rest selectors (TooMany Sets) g h = absurd h
body_fault name done rest selectors (TooMany Looks) g h = absurd h
body_fault name done rest selectors Memory g h = tt

-- the one selector is added, or at fault
pub only_added : (name : List ℕ) (words rest : Words) (old new : Selectors) (result : Result Line LineFault) → choose_by (name, words) ≡ option_map (λ p. Choose name (p ∷ []) None) (part_of rest) → Gathers [] old → Adds (part_of rest) old new (Ok tt) → ((form : PartForm) → Gathers (form ∷ []) new → IsReadAs (Choose name (form ∷ []) None) result) → IsRead (choose_by (name, words)) result
only_added name words rest old new result e g a made =
    let one = told_ok (part_of rest) old new a in
    subst (λ f. IsRead f result) (sym (e ∙ ap (option_map (λ p. Choose name (p ∷ []) None)) one.1)) (made one.0 (one.2 [] g))

only_told : (name : List ℕ) (o : Option PartForm) (old new : Selectors) (fault : LineFault) → Adds o old new (Err fault) → IsRead (option_map (λ p. Choose name (p ∷ []) None) o) (Err fault)
only_told name None old new Syntax a = tt
only_told name None old new (TooMany limit) a = absurd a
only_told name None old new Memory a = tt
only_told name (Some form) old new Syntax a = inl a
only_told name (Some form) old new (TooMany limit) a = absurd a
only_told name (Some form) old new Memory a = tt

pub only_wrong : (name : List ℕ) (words rest : Words) (old new : Selectors) (fault : LineFault) → choose_by (name, words) ≡ option_map (λ p. Choose name (p ∷ []) None) (part_of rest) → Adds (part_of rest) old new (Err fault) → IsRead (choose_by (name, words)) (Err fault)
only_wrong name words rest old new fault e a = subst (λ f. IsRead f (Err fault)) (sym e) (only_told name (part_of rest) old new fault a)

-- nothing is gathered where nothing is counted
pub none_gathered : (done : List PartForm) (selectors : Selectors) → Gathers done selectors → selectors.count ≡ 0 → done ≡ []
none_gathered [] selectors g e = refl
none_gathered (part ∷ done) selectors g e = absurd (omega (arith, g.count, e))

pub alone_before : (done : List PartForm) (selectors : Selectors) (words rest : Words) → Gathers done selectors → selectors.count ≡ 0 → parts_of (cut (codes ":") words) ≡ option_map (prepended done) (last_of rest) → parts_of (cut (codes ":") words) ≡ option_map (prepended []) (last_of rest)
alone_before done selectors words rest g e p = p ∙ ap (λ ps. option_map (prepended ps) (last_of rest)) (none_gathered done selectors g e)

syntax_read : (f : Option Form) → f ≡ None → IsRead f (Err Syntax)
syntax_read f e = subst (λ x. IsRead x (Err Syntax)) (sym e) tt

pub no_selector_read : (name : List ℕ) (words rest : Words) (done : List PartForm) (selectors : Selectors) → Gathers done selectors → selectors.count ≡ 0 → parts_of (cut (codes ":") words) ≡ option_map (prepended done) (last_of rest) → has (codes "among") rest ≡ false → IsRead (choose_by (name, words)) (Err Syntax)
no_selector_read name words rest done selectors g e p h = syntax_read (choose_by (name, words)) (no_selector name words rest (alone_before done selectors words rest g e p) h)

pub no_body_read : (name : List ℕ) (words rest : Words) (done : List PartForm) (selectors : Selectors) → Gathers done selectors → (selectors.count ≡ 0 → ⊥) → parts_of (cut (codes ":") words) ≡ option_map (prepended done) (last_of rest) → has (codes "among") rest ≡ true → IsRead (choose_by (name, words)) (Err Syntax)
no_body_read name words rest [] selectors g e p h = absurd (e g.count)
no_body_read name words rest (part ∷ done) selectors g e p h = syntax_read (choose_by (name, words)) (no_body name words rest part done p h)

pub over_read : (name : List ℕ) (words rest : Words) (done : List PartForm) (selectors : Selectors) (result : Result Line LineFault) → Gathers done selectors → (selectors.count ≡ 0 → ⊥) → parts_of (cut (codes ":") words) ≡ option_map (prepended done) (last_of rest) → has (codes "among") rest ≡ false → IsReadAs (Choose name done (Some rest)) result → IsRead (choose_by (name, words)) result
over_read name words rest [] selectors result g e p h made = absurd (e g.count)
over_read name words rest (part ∷ done) selectors result g e p h made = subst (λ f. IsRead f result) (sym (with_body name words rest part done p h)) made
