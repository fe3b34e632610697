-- The sets of a fire and what they say.
use Rattle.std.proofs.Common.{◌≡◌, ℕ, true, false, List, [], ◌∷◌, refl, sym, ap, ◌∙◌, arith, subst}
use Rattle.std.specs.Prelude.{length, codes, Option, Some, None, Result, Err, if◌then◌else◌}
use Rattle.std.specs.Option.{option_map, option_and_then, is_some}
use Rattle.std.specs.List.{AllZip}
use Rattle.std.proofs.lemmas.Option.{none-some, same_Some}
use Rattle.script_tree.specs.declared.value.Value.{Value}
use Rattle.deck_lines.specs.declared.fault.LineFault.{LineFault}
use Rattle.deck_lines.specs.declared.fault.LineFault.TheVariants.{Syntax, TooMany, Memory}
use Rattle.deck_lines.specs.declared.line.Line.{Line}
use Rattle.deck_lines.specs.Answers.{Reads}
use Rattle.deck_lines.specs.Cuts.{has, before, behind}
use Rattle.deck_lines.specs.Forms.{Words, SetForm, Form, Fire, Read}
use Rattle.deck_lines.specs.Lines.{IsRead, IsReadAs, SaysSet}
use Rattle.deck_lines.specs.Reading.{cut, each, names_of, head_of, set_by, set_of, sets_of, said_by, set_said, sets_said, fire_of, read_of}
use Rattle.deck_lines.specs.Values.{value_of}

pub set_is_said : (words rest : Words) (name : List ℕ) (value : Value) → head_of words ≡ Some (name, rest) → value_of rest ≡ Some value → set_said words ≡ Some (name, value)
set_is_said words rest name value h v = ap (option_and_then said_by) h ∙ ap (option_map (λ x. (name, x))) v

pub no_head_said : (words : Words) → head_of words ≡ None → set_said words ≡ None
no_head_said words h = ap (option_and_then said_by) h

pub no_value_said : (words rest : Words) (name : List ℕ) → head_of words ≡ Some (name, rest) → value_of rest ≡ None → set_said words ≡ None
no_value_said words rest name h v = ap (option_and_then said_by) h ∙ ap (option_map (λ x. (name, x))) v

-- what is said of a set, and the set
abbrev Told : Option SetForm → Option (List ℕ × Value) → Type 0
Told None said = said ≡ None
Told (Some s) None = ⊥
Told (Some s) (Some set) = SaysSet s set

told_by : (head : List ℕ × Words) (v : Option Value) → value_of head.1 ≡ v → Told (if is_some v then Some head else None) (option_map (λ value. (head.0, value)) v)
told_by head None e = refl
told_by head (Some value) e = (refl, e)

set_told : (words : Words) → Told (set_of words) (set_said words)
set_told words = by_head (head_of words)
  where
    by_head : (h : Option (List ℕ × Words)) → Told (option_and_then set_by h) (option_and_then said_by h)
    by_head None = refl
    by_head (Some head) = told_by head (value_of head.1) refl

abbrev AllTold : Option (List SetForm) → Option (List (List ℕ × Value)) → Type 0
AllTold None said = said ≡ None
AllTold (Some forms) None = ⊥
AllTold (Some forms) (Some sets) = AllZip SaysSet forms sets

more_told : (s : Option SetForm) (said : Option (List ℕ × Value)) (forms : Option (List SetForm)) (sets : Option (List (List ℕ × Value))) → Told s said → AllTold forms sets → AllTold (option_and_then (λ y. option_map (λ ys. y ∷ ys) forms) s) (option_and_then (λ y. option_map (λ ys. y ∷ ys) sets) said)
more_told None said forms sets t a = ap (option_and_then (λ y. option_map (λ ys. y ∷ ys) sets)) t
more_told (Some s) None forms sets t a = absurd t
more_told (Some s) (Some set) None sets t a = ap (option_map (λ ys. set ∷ ys)) a
more_told (Some s) (Some set) (Some forms) None t a = absurd a
more_told (Some s) (Some set) (Some forms) (Some sets) t a = (t, a)

all_told : (chunks : List Words) → AllTold (each set_of chunks) (each set_said chunks)
all_told [] = tt
all_told (words ∷ chunks) = more_told (set_of words) (set_said words) (each set_of chunks) (each set_said chunks) (set_told words) (all_told chunks)

forms_of : (forms : Option (List SetForm)) (said : Option (List (List ℕ × Value))) (sets : List (List ℕ × Value)) → AllTold forms said → said ≡ Some sets → (fs : List SetForm) × (forms ≡ Some fs) × AllZip SaysSet fs sets
forms_of None said sets a e = absurd (none-some sets (sym a ∙ e))
forms_of (Some fs) None sets a e = absurd a
forms_of (Some fs) (Some ss) sets a e = (fs, refl, subst (AllZip SaysSet fs) (same_Some ss sets e) a)

no_forms : (forms : Option (List SetForm)) (said : Option (List (List ℕ × Value))) → AllTold forms said → said ≡ None → forms ≡ None
no_forms None said a e = refl
no_forms (Some fs) None a e = absurd a
no_forms (Some fs) (Some ss) a e = absurd (none-some ss (sym e))

pub sets_formed : (words : Words) (sets : List (List ℕ × Value)) → sets_said words ≡ Some sets → (fs : List SetForm) × (sets_of words ≡ Some fs) × AllZip SaysSet fs sets
sets_formed words sets e = forms_of (sets_of words) (sets_said words) sets (all_told (cut (codes ",") words)) e

pub sets_wrong : (words : Words) → sets_said words ≡ None → sets_of words ≡ None
sets_wrong words e = no_forms (sets_of words) (sets_said words) (all_told (cut (codes ",") words)) e

pub as_many : (forms : List SetForm) (sets : List (List ℕ × Value)) → AllZip SaysSet forms sets → length forms ≡ length sets
as_many [] [] z = refl
as_many [] (s ∷ sets) z = absurd z
as_many (f ∷ forms) [] z = absurd z
as_many (f ∷ forms) (s ∷ sets) z = omega (arith, as_many forms sets z.1)

pub memory_read : (f : Option Form) → IsRead f (Err Memory)
memory_read None = tt
memory_read (Some form) = tt

-- where a part of a line is nothing, no form is found
pub fails_so : {A : Type 0} (o : Option A) (f : Option Form) (fault : LineFault) → Reads o (Err fault) → (o ≡ None → f ≡ None) → IsRead f (Err fault)
fails_so o f Syntax h g = subst (λ x. IsRead x (Err Syntax)) (sym (g h)) tt
fails_so o f (TooMany limit) h g = absurd h
fails_so o f Memory h g = memory_read f

-- a fire without and with looks
pub fire_alone : (words : Words) → has (codes "look") words ≡ false → fire_of words ≡ option_map (λ sets. Fire sets []) (sets_of words)
fire_alone words h = ap (λ t. if t then option_and_then (λ sets. option_map (λ looks. Fire sets looks) (names_of (behind (codes "look") words))) (sets_of (before (codes "look") words)) else option_map (λ sets. Fire sets []) (sets_of words)) h

pub fire_looks : (words first last : Words) → has (codes "look") words ≡ true → first ≡ before (codes "look") words → last ≡ behind (codes "look") words → fire_of words ≡ option_and_then (λ sets. option_map (λ looks. Fire sets looks) (names_of last)) (sets_of first)
fire_looks words first last h b e =
    ap (λ t. if t then option_and_then (λ sets. option_map (λ looks. Fire sets looks) (names_of (behind (codes "look") words))) (sets_of (before (codes "look") words)) else option_map (λ sets. Fire sets []) (sets_of words)) h
    ∙ ap (λ ws. option_and_then (λ sets. option_map (λ looks. Fire sets looks) (names_of ws)) (sets_of (before (codes "look") words))) (sym e)
    ∙ ap (λ ws. option_and_then (λ sets. option_map (λ looks. Fire sets looks) (names_of last)) (sets_of ws)) (sym b)

no_looks : (o : Option (List SetForm)) → option_and_then (λ sets. option_map (λ looks. Fire sets looks) None) o ≡ None
no_looks None = refl
no_looks (Some sets) = refl

pub fire_no_sets : (words : Words) → has (codes "look") words ≡ false → sets_said words ≡ None → fire_of words ≡ None
fire_no_sets words h s = fire_alone words h ∙ ap (option_map (λ sets. Fire sets [])) (sets_wrong words s)

pub fire_no_first : (words first last : Words) → has (codes "look") words ≡ true → first ≡ before (codes "look") words → last ≡ behind (codes "look") words → sets_said first ≡ None → fire_of words ≡ None
fire_no_first words first last h b e s = fire_looks words first last h b e ∙ ap (option_and_then (λ sets. option_map (λ looks. Fire sets looks) (names_of last))) (sets_wrong first s)

pub fire_no_last : (words first last : Words) → has (codes "look") words ≡ true → first ≡ before (codes "look") words → last ≡ behind (codes "look") words → names_of last ≡ None → fire_of words ≡ None
fire_no_last words first last h b e s = fire_looks words first last h b e ∙ ap (λ o. option_and_then (λ sets. option_map (λ looks. Fire sets looks) o) (sets_of first)) s ∙ no_looks (sets_of first)

-- the fire that was made of them
pub fire_made : (words : Words) (sets : List (List ℕ × Value)) (result : Result Line LineFault) → has (codes "look") words ≡ false → sets_said words ≡ Some sets → ((forms : List SetForm) → AllZip SaysSet forms sets → IsReadAs (Fire forms []) result) → IsRead (fire_of words) result
fire_made words sets result h s made =
    let known = sets_formed words sets s in
    subst (λ f. IsRead f result) (sym (fire_alone words h ∙ ap (option_map (λ fs. Fire fs [])) known.1)) (made known.0 known.2)

pub fire_looks_made : (words first last : Words) (sets : List (List ℕ × Value)) (looks : List (List ℕ)) (result : Result Line LineFault) → has (codes "look") words ≡ true → first ≡ before (codes "look") words → last ≡ behind (codes "look") words → sets_said first ≡ Some sets → names_of last ≡ Some looks → ((forms : List SetForm) → AllZip SaysSet forms sets → IsReadAs (Fire forms looks) result) → IsRead (fire_of words) result
fire_looks_made words first last sets looks result h b e s n made =
    let known = sets_formed first sets s in
    subst (λ f. IsRead f result) (sym (fire_looks words first last h b e ∙ ap (option_and_then (λ fs. option_map (λ ls. Fire fs ls) (names_of last))) known.1 ∙ ap (option_map (λ ls. Fire known.0 ls)) n)) (made known.0 known.2)

pub read_made : (words : Words) (looks : List (List ℕ)) (result : Result Line LineFault) → names_of words ≡ Some looks → IsReadAs (Read looks) result → IsRead (read_of words) result
read_made words looks result n made = subst (λ f. IsRead f result) (sym (ap (option_map (λ ls. Read ls)) n)) made

pub ruleset call_laws = (set_is_said, no_head_said, no_value_said, as_many)
