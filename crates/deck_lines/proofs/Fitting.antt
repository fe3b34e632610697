-- The form that is found by cutting is the one that fits.
use Rattle.std.proofs.Common.{◌≡◌, ℕ, Bool, true, false, List, [], ◌∷◌, ◌++◌, refl, sym, ap, ◌∙◌, arith, subst, append-nil}
use Rattle.std.specs.Prelude.{◌&&◌, ◌≤◌, length, map, codes, Option, Some, None, if◌then◌else◌}
use Rattle.std.specs.Option.{option_map, option_and_then, is_some}
use Rattle.std.specs.List.{AllByRecursion}
use Rattle.std.specs.Str.{bytes_eq}
use Rattle.std.proofs.lemmas.Option.{none-some, same_Some, cond_some, option_and_then_some}
use Rattle.std.proofs.lemmas.Bool.{or_parts, or_from, and_parts, and_from}
use Rattle.script_tree.proofs.Texts.{same_text}
use Rattle.deck_lines.specs.declared.keyword.Keyword.{Keyword}
use Rattle.deck_lines.specs.declared.keyword.Keyword.TheVariants as keyword
use Rattle.deck_lines.specs.Forms.{Words, SetForm, PartForm, Form, Nothing, Source, Signal, Fold, Choose, Thread, Fire, Read, IsName, IsSet, IsPart, IsOver, IsProper, Fits, with_commas, spelled, spelled_set, spelled_part, spelled_looks, pieces_of}
use Rattle.deck_lines.specs.Cuts.{has, before, behind, each_behind, separated}
use Rattle.deck_lines.specs.Values.{value_of}
use Rattle.deck_lines.specs.Reading.{cut, name_of, names_of, head_of, sets_of, part_of, last_of, behind_part, parts_of, choose_of, source_by, signal_by, fold_by, choose_by, fire_of, keyword_of, form_by, form_of}
use Rattle.deck_lines.proofs.Cutting.{has_none, has_append, before_sign, behind_sign, has_sign, two_sides, cut_some, cut_separated, cut_whole, separated_cut}
use Rattle.deck_lines.proofs.Wording.{map_some, not_named, value_without, all_map, names_are, are_names, each_some, head_is, is_head, set_without, no_colon, no_look, sets_are, are_sets}

-- a selector
pub part_is : (words : Words) (part : PartForm) → has (codes ":") words ≡ false → part_of words ≡ Some part → (words ≡ spelled_part part) × IsPart part
part_is words part h e = by_test (has (codes "among") words) refl e
  where
    found : has (codes "among") words ≡ true → option_map (λ names. (before (codes "among") words, names)) (names_of (behind (codes "among") words)) ≡ Some part → (words ≡ spelled_part part) × IsPart part
    found t g =
        let sides = two_sides (codes "among") words t in
        let m = map_some (λ names. (before (codes "among") words, names)) (names_of (behind (codes "among") words)) part g in
        let known = names_are (behind (codes "among") words) m.0 m.1 in
        let whole = or_parts (has (codes ":") (before (codes "among") words)) _ (sym (has_append (codes ":") (before (codes "among") words) (codes "among" ∷ behind (codes "among") words)) ∙ ap (has (codes ":")) (sym sides.0) ∙ h) in
        subst (λ (p : PartForm). (words ≡ spelled_part p) × IsPart p) m.2 (
          sides.0 ∙ ap (λ ws. before (codes "among") words ++ codes "among" ∷ ws) known.0,
          record { whole = whole.0; script = sides.1; some = omega (arith, each_some name_of (cut (codes ",") (behind (codes "among") words)) m.0 m.1, cut_some (codes ",") (behind (codes "among") words)); named = known.1 },
        )

    by_test : (t : Bool) → has (codes "among") words ≡ t → (if t then option_map (λ names. (before (codes "among") words, names)) (names_of (behind (codes "among") words)) else None) ≡ Some part → (words ≡ spelled_part part) × IsPart part
    by_test true t g = found t g
    by_test false t g = absurd (none-some part g)

pub is_part_of : (part : PartForm) → IsPart part → part_of (spelled_part part) ≡ Some part
is_part_of part h =
    let words = spelled_part part in
    ap (λ t. if t then option_map (λ names. (before (codes "among") words, names)) (names_of (behind (codes "among") words)) else None) (has_sign (codes "among") part.0 (with_commas part.1))
    ∙ ap (λ a. option_map (λ names. (a, names)) (names_of (behind (codes "among") words))) (before_sign (codes "among") part.0 (with_commas part.1) h.script)
    ∙ ap (λ b. option_map (λ names. (part.0, names)) (names_of b)) (behind_sign (codes "among") part.0 (with_commas part.1) h.script)
    ∙ ap (option_map (λ names. (part.0, names))) (are_names part.1 h.some h.named)

no_names : (sign : List ℕ) (names : List (List ℕ)) → bytes_eq (codes ",") sign ≡ false → AllByRecursion (λ p. has sign p ≡ false) (map (λ (name : List ℕ). name ∷ []) names) → has sign (with_commas names) ≡ false
no_names sign [] q all = refl
no_names sign (name ∷ names) q all = has_none sign (name ∷ []) _ all.0 (rest names all.1)
  where
    rest : (more : List (List ℕ)) → AllByRecursion (λ p. has sign p ≡ false) (map (λ (n : List ℕ). n ∷ []) more) → has sign (each_behind (codes ",") (map (λ (n : List ℕ). n ∷ []) more)) ≡ false
    rest [] all = refl
    rest (n ∷ more) all = or_from _ _ q (has_none sign (n ∷ []) _ all.0 (rest more all.1))

behind_without : (sign x : List ℕ) (parts : List Words) → bytes_eq sign x ≡ false → AllByRecursion (λ p. has x p ≡ false) parts → has x (each_behind sign parts) ≡ false
behind_without sign x [] q all = refl
behind_without sign x (part ∷ parts) q all = or_from _ _ q (has_none x part _ all.0 (behind_without sign x parts q all.1))

separated_without : (sign x : List ℕ) (parts : List Words) → bytes_eq sign x ≡ false → AllByRecursion (λ p. has x p ≡ false) parts → has x (separated sign parts) ≡ false
separated_without sign x [] q all = refl
separated_without sign x (part ∷ parts) q all = has_none x part _ all.0 (behind_without sign x parts q all.1)

-- a body has no `among` and no colon
abbrev IsBody : Option Words → Type 0
IsBody None = Unit {0}
IsBody (Some script) = (has (codes ":") script ≡ false) × (has (codes "among") script ≡ false)

abbrev Found : List Words → List PartForm × Option Words → Type 0
Found chunks found = (chunks ≡ pieces_of found.0 found.1) × AllByRecursion IsPart found.0 × IsBody found.1

last_is : (words : Words) (found : List PartForm × Option Words) → has (codes ":") words ≡ false → last_of words ≡ Some found → Found (words ∷ []) found
last_is words found h e = by_test (has (codes "among") words) refl e
  where
    by_test : (t : Bool) → has (codes "among") words ≡ t → (if t then option_map (λ part. (part ∷ [], None)) (part_of words) else Some ([], Some words)) ≡ Some found → Found (words ∷ []) found
    by_test true t g =
        let m = map_some (λ part. (part ∷ [], None)) (part_of words) found g in
        let known = part_is words m.0 h m.1 in
        subst (Found (words ∷ [])) m.2 (ap (λ w. w ∷ []) known.0, (known.1, tt), tt)
    by_test false t g = subst (Found (words ∷ [])) (same_Some ([], Some words) found g) (refl, tt, (h, t))

join : (part : PartForm) (parts : List PartForm) (over : Option Words) → pieces_of (part ∷ parts) over ≡ spelled_part part ∷ pieces_of parts over
join part parts None = refl
join part parts (Some script) = refl

pub parts_are : (chunks : List Words) (found : List PartForm × Option Words) → AllByRecursion (λ p. has (codes ":") p ≡ false) chunks → parts_of chunks ≡ Some found → Found chunks found
parts_are [] found h e = absurd (none-some found e)
parts_are (last ∷ []) found h e = last_is last found h.0 e
parts_are (words ∷ next ∷ more) found h e =
    option_and_then_some (λ part. option_map (behind_part part) (parts_of (next ∷ more))) (part_of words) found e (λ part first rest.
    let m = map_some (behind_part part) (parts_of (next ∷ more)) found rest in
    let known = part_is words part h.0 first in
    let others = parts_are (next ∷ more) m.0 h.1 m.1 in
    subst (Found (words ∷ next ∷ more)) m.2
    (ap (λ ws. words ∷ ws) others.0 ∙ ap (λ w. w ∷ pieces_of m.0.0 m.0.1) known.0 ∙ sym (join part m.0.0 m.0.1), (known.1, others.1), others.2))

-- with a body all others are selectors
parts_before : (part : PartForm) (parts : List PartForm) (script : Words) → AllByRecursion IsPart (part ∷ parts) → has (codes "among") script ≡ false → parts_of (pieces_of (part ∷ parts) (Some script)) ≡ Some (part ∷ parts, Some script)
parts_before part [] script all h =
    ap (option_and_then (λ p. option_map (behind_part p) (last_of script))) (is_part_of part all.0)
    ∙ ap (λ t. option_map (behind_part part) (if t then option_map (λ p. (p ∷ [], None)) (part_of script) else Some ([], Some script))) h
parts_before part (next ∷ more) script all h =
    ap (option_and_then (λ p. option_map (behind_part p) (parts_of (pieces_of (next ∷ more) (Some script))))) (is_part_of part all.0)
    ∙ ap (option_map (behind_part part)) (parts_before next more script all.1 h)

-- the colon stands between the parts alone
whole_part : (part : PartForm) → IsPart part → has (codes ":") (spelled_part part) ≡ false
whole_part part h = has_none (codes ":") part.0 _ h.whole (or_from _ _ refl (no_names (codes ":") part.1 refl (all_map (λ (name : List ℕ). name ∷ []) IsName (codes ":") (λ name n. or_from _ false (not_named name (codes ":") n refl) refl) part.1 h.named)))

all_push : (xs : List Words) (x : Words) → AllByRecursion (λ p. has (codes ":") p ≡ false) xs → has (codes ":") x ≡ false → AllByRecursion (λ p. has (codes ":") p ≡ false) (xs ++ x ∷ [])
all_push [] x all h = (h, tt)
all_push (y ∷ xs) x all h = (all.0, all_push xs x all.1 h)

is_choose_by : (name : List ℕ) (parts : List PartForm) (over : Option Words) → 1 ≤ length parts → AllByRecursion IsPart parts → IsOver (length parts) over → choose_by (name, separated (codes ":") (pieces_of parts over)) ≡ Some (Choose name parts over)
is_choose_by name [] over some all h = absurd (omega (arith, some))
is_choose_by name (part ∷ []) None some all h =
    let chunk = spelled_part part in
    ap (λ chunks. option_and_then (λ (found : List PartForm × Option Words). choose_of name found.0 found.1) (parts_of chunks)) (cut_separated (codes ":") chunk [] (whole_part part all.0, tt))
    ∙ ap (λ t. option_and_then (λ (found : List PartForm × Option Words). choose_of name found.0 found.1) (if t then option_map (λ p. (p ∷ [], None)) (part_of chunk) else Some ([], Some chunk))) (has_sign (codes "among") part.0 (with_commas part.1))
    ∙ ap (λ o. option_and_then (λ (found : List PartForm × Option Words). choose_of name found.0 found.1) (option_map (λ p. (p ∷ [], None)) o)) (is_part_of part all.0)
is_choose_by name (part ∷ next ∷ more) None some all h = absurd (omega (arith, h))
is_choose_by name (part ∷ more) (Some script) some all h =
    ap (λ chunks. option_and_then (λ (found : List PartForm × Option Words). choose_of name found.0 found.1) (parts_of chunks)) (cut_separated (codes ":") (spelled_part part) (map spelled_part more ++ script ∷ []) (all_push (map spelled_part (part ∷ more)) script (all_map spelled_part IsPart (codes ":") whole_part (part ∷ more) all) h.0))
    ∙ ap (option_and_then (λ (found : List PartForm × Option Words). choose_of name found.0 found.1)) (parts_before part more script all h.1)
    ∙ chosen more
  where
    chosen : (rest : List PartForm) → choose_of name (part ∷ rest) (Some script) ≡ Some (Choose name (part ∷ rest) (Some script))
    chosen [] = refl
    chosen (next ∷ rest) = refl

choose_is : (name : List ℕ) (parts : List PartForm) (over : Option Words) (form : Form) → IsBody over → choose_of name parts over ≡ Some form → (Choose name parts over ≡ form) × (1 ≤ length parts) × IsOver (length parts) over
choose_is name [] over form b e = absurd (none-some form e)
choose_is name (part ∷ []) None form b e = (same_Some _ form e, omega arith, omega arith)
choose_is name (part ∷ []) (Some script) form b e = (same_Some _ form e, omega arith, b)
choose_is name (part ∷ next ∷ more) None form b e = absurd (none-some form e)
choose_is name (part ∷ next ∷ more) (Some script) form b e = (same_Some _ form e, omega arith, b)

-- the word that a form begins with
abbrev keyword_text : Keyword → List ℕ
keyword_text keyword.Source = codes "source"
keyword_text keyword.Signal = codes "signal"
keyword_text keyword.Fold = codes "fold"
keyword_text keyword.Choose = codes "choose"
keyword_text keyword.Thread = codes "thread"
keyword_text keyword.Fire = codes "fire"
keyword_text keyword.Read = codes "read"

this_or : (word text : List ℕ) (j k : Keyword) (other : Option Keyword) → keyword_text j ≡ text → (if bytes_eq word text then Some j else other) ≡ Some k → (other ≡ Some k → word ≡ keyword_text k) → word ≡ keyword_text k
this_or word text j k other m e rest = by_test (bytes_eq word text) refl e
  where
    by_test : (t : Bool) → bytes_eq word text ≡ t → (if t then Some j else other) ≡ Some k → word ≡ keyword_text k
    by_test true t g = same_text word text t ∙ sym m ∙ ap keyword_text (same_Some j k g)
    by_test false t g = rest g

keyword_is : (word : List ℕ) (k : Keyword) → keyword_of word ≡ Some k → word ≡ keyword_text k
keyword_is word k e =
    this_or word _ keyword.Source k _ refl e (λ e1.
    this_or word _ keyword.Signal k _ refl e1 (λ e2.
    this_or word _ keyword.Fold k _ refl e2 (λ e3.
    this_or word _ keyword.Choose k _ refl e3 (λ e4.
    this_or word _ keyword.Thread k _ refl e4 (λ e5.
    this_or word _ keyword.Fire k _ refl e5 (λ e6.
    this_or word _ keyword.Read k _ refl e6 (λ e7. absurd (none-some k e7))))))))

looks_some : (looks : List (List ℕ)) → 1 ≤ length looks → spelled_looks looks ≡ codes "look" ∷ with_commas looks
looks_some [] h = absurd (omega (arith, h))
looks_some (name ∷ looks) h = refl

names_some : (words : Words) (names : List (List ℕ)) → names_of words ≡ Some names → 1 ≤ length names
names_some words names e = omega (arith, each_some name_of (cut (codes ",") words) names e, cut_some (codes ",") words)

fire_is : (words : Words) (form : Form) → fire_of words ≡ Some form → Fits (codes "fire" ∷ words) form
fire_is words form e = by_test (has (codes "look") words) refl e
  where
    Fit : Form → Type 0
    Fit f = Fits (codes "fire" ∷ words) f

    by_test : (t : Bool) → has (codes "look") words ≡ t → (if t then option_and_then (λ sets. option_map (λ looks. Fire sets looks) (names_of (behind (codes "look") words))) (sets_of (before (codes "look") words)) else option_map (λ sets. Fire sets []) (sets_of words)) ≡ Some form → Fits (codes "fire" ∷ words) form
    by_test true t g =
        option_and_then_some (λ sets. option_map (λ looks. Fire sets looks) (names_of (behind (codes "look") words))) (sets_of (before (codes "look") words)) form g (λ sets first rest.
        let m = map_some (λ looks. Fire sets looks) (names_of (behind (codes "look") words)) form rest in
        let sides = two_sides (codes "look") words t in
        let known = sets_are (before (codes "look") words) sets first in
        let named = names_are (behind (codes "look") words) m.0 m.1 in
        subst (λ f. Fits (codes "fire" ∷ words) f) m.2 (record {
          same = ap (λ ws. codes "fire" ∷ ws) (sides.0 ∙ ap (λ ws. ws ++ codes "look" ∷ behind (codes "look") words) known.0 ∙ ap (λ ws. separated (codes ",") (map spelled_set sets) ++ codes "look" ∷ ws) named.0 ∙ ap (λ ws. separated (codes ",") (map spelled_set sets) ++ ws) (sym (looks_some m.0 (names_some (behind (codes "look") words) m.0 m.1))));
          proper = (omega (arith, each_some _ (cut (codes ",") (before (codes "look") words)) sets first, cut_some (codes ",") (before (codes "look") words)), known.1, named.1);
        }))
    by_test false t g =
        let m = map_some (λ sets. Fire sets []) (sets_of words) form g in
        let known = sets_are words m.0 m.1 in
        subst (λ f. Fits (codes "fire" ∷ words) f) m.2 (record {
          same = ap (λ ws. codes "fire" ∷ ws) (known.0 ∙ sym (append-nil (separated (codes ",") (map spelled_set m.0))));
          proper = (omega (arith, each_some _ (cut (codes ",") words) m.0 m.1, cut_some (codes ",") words), known.1, tt);
        })

fits_by : (k : Keyword) (words : Words) (form : Form) → form_by k words ≡ Some form → Fits (keyword_text k ∷ words) form
fits_by keyword.Source words form e = option_and_then_some source_by (head_of words) form e (λ head first rest.
    let c = cond_some (is_some (value_of head.1)) (Source head.0 head.1) form rest in
    let known = head_is words head first in
    subst (λ f. Fits (codes "source" ∷ words) f) c.1 (record { same = ap (λ ws. codes "source" ∷ ws) known.0; proper = (known.1, c.0) }))
fits_by keyword.Signal words form e = option_and_then_some signal_by (head_of words) form e (λ head first rest.
    let known = head_is words head first in
    subst (λ f. Fits (codes "signal" ∷ words) f) (same_Some (Signal head.0 head.1) form rest) (record { same = ap (λ ws. codes "signal" ∷ ws) known.0; proper = known.1 }))
fits_by keyword.Fold words form e = option_and_then_some fold_by (head_of words) form e (λ head first rest.
    let start = before (codes ":") head.1 in
    let script = behind (codes ":") head.1 in
    let c = cond_some (has (codes ":") head.1 && is_some (value_of start)) (Fold head.0 start script) form rest in
    let t = and_parts (has (codes ":") head.1) (is_some (value_of start)) c.0 in
    let known = head_is words head first in
    let sides = two_sides (codes ":") head.1 t.0 in
    subst (λ f. Fits (codes "fold" ∷ words) f) c.1 (record { same = ap (λ ws. codes "fold" ∷ ws) (known.0 ∙ ap (λ ws. head.0 ∷ codes "=" ∷ ws) sides.0); proper = (known.1, t.1) }))
fits_by keyword.Choose words form e = option_and_then_some choose_by (head_of words) form e (λ head first rest.
    option_and_then_some (λ found. choose_of head.0 found.0 found.1) (parts_of (cut (codes ":") head.1)) form rest (λ found split made.
    let known = head_is words head first in
    let parts = parts_are (cut (codes ":") head.1) found (cut_whole (codes ":") head.1) split in
    let chosen = choose_is head.0 found.0 found.1 form parts.2 made in
    subst (λ f. Fits (codes "choose" ∷ words) f) chosen.0 (record {
      same = ap (λ ws. codes "choose" ∷ ws) (known.0 ∙ ap (λ ws. head.0 ∷ codes "=" ∷ ws) (sym (separated_cut (codes ":") head.1) ∙ ap (separated (codes ":")) parts.0));
      proper = (known.1, chosen.1, parts.1, chosen.2);
    })))
fits_by keyword.Thread [] form e = subst (λ f. Fits (codes "thread" ∷ []) f) (same_Some Thread form e) (record { same = refl; proper = tt })
fits_by keyword.Thread (word ∷ words) form e = absurd (none-some form e)
fits_by keyword.Fire words form e = fire_is words form e
fits_by keyword.Read words form e =
    let m = map_some (λ looks. Read looks) (names_of words) form e in
    let known = names_are words m.0 m.1 in
    subst (λ f. Fits (codes "read" ∷ words) f) m.2 (record { same = ap (λ ws. codes "read" ∷ ws) known.0; proper = (names_some words m.0 m.1, known.1) })

-- the form that is found fits
pub found_fits : (words : Words) (form : Form) → form_of words ≡ Some form → Fits words form
found_fits [] form e = subst (λ f. Fits [] f) (same_Some Nothing form e) (record { same = refl; proper = tt })
found_fits (word ∷ words) form e = option_and_then_some (λ k. form_by k words) (keyword_of word) form e (λ k first rest.
    subst (λ w. Fits (w ∷ words) form) (sym (keyword_is word k first)) (fits_by k words form rest))

no_look_in : (sets : List SetForm) → AllByRecursion IsSet sets → has (codes "look") (separated (codes ",") (map spelled_set sets)) ≡ false
no_look_in sets all = separated_without (codes ",") (codes "look") (map spelled_set sets) refl (all_map spelled_set IsSet (codes "look") (set_without (codes "look") refl no_look refl) sets all)

fire_found : (sets : List SetForm) (looks : List (List ℕ)) → IsProper (Fire sets looks) → fire_of (separated (codes ",") (map spelled_set sets) ++ spelled_looks looks) ≡ Some (Fire sets looks)
fire_found sets [] h =
    let words = separated (codes ",") (map spelled_set sets) in
    ap fire_of (append-nil words)
    ∙ ap (λ t. if t then option_and_then (λ ss. option_map (λ looks. Fire ss looks) (names_of (behind (codes "look") words))) (sets_of (before (codes "look") words)) else option_map (λ ss. Fire ss []) (sets_of words)) (no_look_in sets h.1)
    ∙ ap (option_map (λ ss. Fire ss [])) (are_sets sets h.0 h.1)
fire_found sets (name ∷ looks) h =
    let first = separated (codes ",") (map spelled_set sets) in
    let last = with_commas (name ∷ looks) in
    let words = first ++ codes "look" ∷ last in
    ap (λ t. if t then option_and_then (λ ss. option_map (λ ns. Fire ss ns) (names_of (behind (codes "look") words))) (sets_of (before (codes "look") words)) else option_map (λ ss. Fire ss []) (sets_of words)) (has_sign (codes "look") first last)
    ∙ ap (λ ws. option_and_then (λ ss. option_map (λ ns. Fire ss ns) (names_of (behind (codes "look") words))) (sets_of ws)) (before_sign (codes "look") first last (no_look_in sets h.1))
    ∙ ap (λ ws. option_and_then (λ ss. option_map (λ ns. Fire ss ns) (names_of ws)) (sets_of first)) (behind_sign (codes "look") first last (no_look_in sets h.1))
    ∙ ap (option_and_then (λ ss. option_map (λ ns. Fire ss ns) (names_of last))) (are_sets sets h.0 h.1)
    ∙ ap (option_map (λ ns. Fire sets ns)) (are_names (name ∷ looks) (omega arith) h.2)

form_found : (form : Form) → IsProper form → form_of (spelled form) ≡ Some form
form_found Nothing h = refl
form_found (Source name start) h =
    ap (option_and_then source_by) (is_head name start h.0)
    ∙ ap (λ t. if t then Some (Source name start) else None) h.1
form_found (Signal name script) h = ap (option_and_then signal_by) (is_head name script h)
form_found (Fold name start script) h =
    let words = start ++ codes ":" ∷ script in
    let whole = value_without (codes ":") start no_colon h.1 in
    ap (option_and_then fold_by) (is_head name words h.0)
    ∙ ap (λ a. if has (codes ":") words && is_some (value_of a) then Some (Fold name a (behind (codes ":") words)) else None) (before_sign (codes ":") start script whole)
    ∙ ap (λ b. if has (codes ":") words && is_some (value_of start) then Some (Fold name start b) else None) (behind_sign (codes ":") start script whole)
    ∙ ap (λ t. if t then Some (Fold name start script) else None) (and_from _ _ (has_sign (codes ":") start script) h.1)
form_found (Choose name parts over) h =
    ap (option_and_then choose_by) (is_head name (separated (codes ":") (pieces_of parts over)) h.0) ∙ is_choose_by name parts over h.1 h.2 h.3
form_found Thread h = refl
form_found (Fire sets looks) h = fire_found sets looks h
form_found (Read looks) h = ap (option_map (λ names. Read names)) (are_names looks h.0 h.1)

-- and the form that fits is found
pub fits_found : (words : Words) (form : Form) → Fits words form → form_of words ≡ Some form
fits_found words form h = ap form_of h.same ∙ form_found form h.proper

-- so no two forms fit
pub one_form : (words : Words) (a b : Form) → Fits words a → Fits words b → a ≡ b
one_form words a b p q = same_Some a b (sym (fits_found words a p) ∙ fits_found words b q)
