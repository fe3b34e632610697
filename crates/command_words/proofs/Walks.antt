-- What the parser of options makes of blocks, one behind the other.
use Rattle.std.proofs.Common.{◌≡◌, ℕ, Bool, true, false, List, [], ◌∷◌, ◌++◌, Option, Some, None, refl, sym, ap, subst, ◌∙◌, ◌≤◌, inl, inr}
use Rattle.std.proofs.Common.{codes, map, true≢false, append_assoc, append-nil}
use Rattle.std.specs.Prelude.{◌||◌, fold, if◌then◌else◌}
use Rattle.std.specs.Str.{bytes_eq}
use Rattle.std.proofs.lemmas.List.Folds.{list_any-append}
use Rattle.clap.specs.Words.{Text, Row, Rule, first_of, one_of, takes, matches_of, built}
use Rattle.clap.specs.Walk.{Held, Walk, walk, walked, walk_from, settled, reacted, reading_by, has_row, at_row, without as without_row}
use Rattle.clap.specs.Walk.{with_values, more_values, finished, nothing_held, with_default}
use Rattle.clap.specs.Simple.{Shape, filled}
use Rattle.clap.specs.Takes.{settle_passes, walk_passes, level_passes}
use Rattle.clap.specs.declared.parser.matches.ValueSource.TheVariants.{DefaultValue, CommandLine}
use Rattle.clap.specs.declared.parser.matches.ValueSource.{ValueSource}
use Rattle.clap.specs.declared.builder.value_parser.Reading.{Reading}
use Rattle.clap.proofs.OnLiterals.{clap_on_literals}
use Rattle.clap.proofs.TakesLemmas.{leaf_takes}
use Rattle.command_words.specs.declared.kinds.Kind.{Kind}
use Rattle.command_words.specs.declared.kinds.Kind.TheVariants as kind
use Rattle.command_words.specs.declared.kinds.Kinds.{Kinds}
use Rattle.command_words.specs.Options.{Given, Json, Versions, kind_of, has, IsBlock, AreBlocks, json_in}
use Rattle.command_words.specs.Kinds.{without}
use Rattle.command_words.specs.Parser.{app, json_rule, versions_rule}
use Rattle.command_words.proofs.DigitCases.{by_digit}
use Rattle.command_words.proofs.Limits.{first_digit, no_digit}
use Rattle.command_words.proofs.Among.{AreAmong, without_less}

-- ---- rows

missing_row : (id : Text) (change : Row → List Row) (missing rows : List Row) → has_row id rows ≡ false
    → at_row id change missing rows ≡ rows ++ missing
missing_row id change missing [] none = refl
missing_row id change missing (r ∷ rs) none = go (bytes_eq r.id id) none (missing_row id change missing rs)
  where
    go : (b : Bool) → (b || has_row id rs) ≡ false → (has_row id rs ≡ false → at_row id change missing rs ≡ rs ++ missing)
        → (if b then change r ++ rs else r ∷ at_row id change missing rs) ≡ r ∷ (rs ++ missing)
    go true e others = absurd (true≢false e)
    go false e others = ap (λ xs. r ∷ xs) (others e)

abbrev new_row : Text → Reading → ValueSource → List Text → Row
new_row id how source values = record { id = id; values = values; count = None; source = Some source; reading = how }

added : (id : Text) (how : Reading) (source : ValueSource) (values : List Text) (rows : List Row) → has_row id rows ≡ false
    → with_values id how source values rows ≡ rows ++ new_row id how source values ∷ []
added id how source values rows none = missing_row id (more_values source values) (new_row id how source values ∷ []) rows none

used_row : (id : Text) (how : Reading) (values : List Text) (rows : List Row) → has_row id rows ≡ false
    → with_values id how CommandLine values (without_row id rows) ≡ rows ++ new_row id how CommandLine values ∷ []
used_row id how values rows none =
    ap (with_values id how CommandLine values) (missing_row id (λ _. []) [] rows none ∙ append-nil rows)
    ∙ added id how CommandLine values rows none

-- ---- the parser, built

abbrev shape : Shape
shape = (built app).top

abbrev rules : List Rule
rules = (built app).top.rules

abbrev json_use : Rule
json_use = filled json_rule

abbrev versions_use : Rule
versions_use = filled versions_rule

-- the row of an option that was given
abbrev row : Given → Row
row Json = new_row (codes "json") (reading_by json_use) CommandLine (codes "true" ∷ [])
row (Versions text) = new_row (codes "versions") (reading_by versions_use) CommandLine (text ∷ [])

abbrev id_of : Kind → Text
id_of kind.Json = codes "json"
id_of kind.Versions = codes "versions"

-- words lead the walk from what is held to where these rows are held, and pass
record Leads (words : List Text) (h : Held) (rows : List Row) : Type 0 where
  held : Held
  to : (rest : List Text) → fold (walked rules []) (walk_from h) (words ++ rest) ≡ fold (walked rules []) (walk_from held) rest
  passes : (rest : List Text) → walk_passes shape [] (walk_from h) (words ++ rest) ≡ walk_passes shape [] (walk_from held) rest
  settles : settle_passes rules false held ≡ true
  holds : (settled rules held).rows ≡ rows

json_leads : (h : Held) → settle_passes rules false h ≡ true → has_row (codes "json") (settled rules h).rows ≡ false
    → Leads (codes "--json" ∷ []) h ((settled rules h).rows ++ row Json ∷ [])
unfolding clap_on_literals
json_leads h settles none = record {
  held = reacted rules json_use [] h;
  to = λ rest. refl;
  passes = λ rest. rw (settles, none) refl;
  settles = refl;
  holds = used_row (codes "json") (reading_by json_use) (codes "true" ∷ []) (settled rules h).rows none;
}

within_leads : (text : Text) (h : Held) → settle_passes rules false h ≡ true → has_row (codes "versions") (settled rules h).rows ≡ false
    → Leads ((codes "--versions=" ++ text) ∷ []) h ((settled rules h).rows ++ row (Versions text) ∷ [])
unfolding clap_on_literals
within_leads text h settles none = record {
  held = reacted rules versions_use (text ∷ []) h;
  to = λ rest. refl;
  passes = λ rest. rw (settles, none) refl;
  settles = refl;
  holds = used_row (codes "versions") (reading_by versions_use) (text ∷ []) (settled rules h).rows none;
}

-- a limit behind its word begins with a digit, so it is no option

abbrev with_limit : Text → Held → Held
with_limit text h = record (settled rules h) { pending = Some (codes "versions", text ∷ []) }

record LeadsBehind (ds : Text) (h : Held) (d : ℕ) : Type 0 where
  to : (rest : List Text)
      → fold (walked rules []) (walk_from h) (codes "--versions" ∷ (d ∷ ds) ∷ rest) ≡ fold (walked rules [])
      (walk_from (with_limit (d ∷ ds) h)) rest
  passes : (rest : List Text)
      → walk_passes shape [] (walk_from h) (codes "--versions" ∷ (d ∷ ds) ∷ rest) ≡ walk_passes shape []
      (walk_from (with_limit (d ∷ ds) h)) rest

digit_leads : (d : ℕ) (ds : Text) (h : Held) → 48 ≤ d → d ≤ 57 → settle_passes rules false h ≡ true → LeadsBehind ds h d
unfolding clap_on_literals
digit_leads d ds h low high settles = by_digit (LeadsBehind ds h)
    (record { to = λ rest. refl; passes = λ rest. rw settles refl }) (record { to = λ rest. refl; passes = λ rest. rw settles refl })
    (record { to = λ rest. refl; passes = λ rest. rw settles refl }) (record { to = λ rest. refl; passes = λ rest. rw settles refl })
    (record { to = λ rest. refl; passes = λ rest. rw settles refl }) (record { to = λ rest. refl; passes = λ rest. rw settles refl })
    (record { to = λ rest. refl; passes = λ rest. rw settles refl }) (record { to = λ rest. refl; passes = λ rest. rw settles refl })
    (record { to = λ rest. refl; passes = λ rest. rw settles refl }) (record { to = λ rest. refl; passes = λ rest. rw settles refl })
    d low high

behind_leads : (d : ℕ) (ds : Text) (h : Held) → 48 ≤ d → d ≤ 57 → settle_passes rules false h ≡ true
    → has_row (codes "versions") (settled rules h).rows ≡ false
    → Leads (codes "--versions" ∷ (d ∷ ds) ∷ []) h ((settled rules h).rows ++ row (Versions (d ∷ ds)) ∷ [])
behind_leads d ds h low high settles none = let leads = digit_leads d ds h low high settles in record {
  held = with_limit (d ∷ ds) h;
  to = leads.to;
  passes = leads.passes;
  settles = rw none refl;
  holds = used_row (codes "versions") (reading_by versions_use) ((d ∷ ds) ∷ []) (settled rules h).rows none;
}

-- ---- blocks

behind_or_within : (text : Text) (block : List Text) (h : Held) → IsBlock (Versions text) block → settle_passes rules false h ≡ true
    → has_row (codes "versions") (settled rules h).rows ≡ false
    → Leads block h ((settled rules h).rows ++ row (Versions text) ∷ [])
behind_or_within [] block h is settles none = absurd (no_digit is.0)
behind_or_within (d ∷ ds) block h is settles none = elim is.1 [
  | inl behind ↦ subst (λ ws. Leads ws h ((settled rules h).rows ++ row (Versions (d ∷ ds)) ∷ [])) (sym behind)
      (behind_leads d ds h (first_digit d ds is.0).0 (first_digit d ds is.0).1 settles none)
  | inr within ↦ subst (λ ws. Leads ws h ((settled rules h).rows ++ row (Versions (d ∷ ds)) ∷ [])) (sym within)
      (within_leads (d ∷ ds) h settles none)
]

block_leads : (option : Given) (block : List Text) (h : Held) → IsBlock option block → settle_passes rules false h ≡ true
    → has_row (id_of (kind_of option)) (settled rules h).rows ≡ false
    → Leads block h ((settled rules h).rows ++ row option ∷ [])
block_leads Json block h is settles none = subst (λ ws. Leads ws h ((settled rules h).rows ++ row Json ∷ [])) (sym is)
    (json_leads h settles none)
block_leads (Versions text) block h is settles none = behind_or_within text block h is settles none

-- no row is of a kind that may still be given
abbrev Misses : Kinds → List Row → Type 0
Misses free rows = (k : Kind) → has free k ≡ true → has_row (id_of k) rows ≡ false

others_missed : (free : Kinds) (option : Given) (k : Kind) → has (without free (kind_of option)) k ≡ true
    → has_row (id_of k) (row option ∷ []) ≡ false
others_missed free Json kind.Json h = absurd (true≢false (sym h))
others_missed free Json kind.Versions h = refl
others_missed free (Versions text) kind.Json h = refl
others_missed free (Versions text) kind.Versions h = absurd (true≢false (sym h))

misses_more : (free : Kinds) (option : Given) (rows : List Row) → Misses free rows
    → Misses (without free (kind_of option)) (rows ++ row option ∷ [])
misses_more free option rows misses k h =
    list_any-append (λ r. bytes_eq r.id (id_of k)) rows (row option ∷ [])
    ∙ rw (misses k (without_less free (kind_of option) k h), others_missed free option k h) refl

-- words behind words
leads_on : (front rest : List Text) (h : Held) (rows after : List Row) (a : Leads front h rows) → Leads rest a.held after
    → Leads (front ++ rest) h after
leads_on front rest h rows after a b = record {
  held = b.held;
  to = λ more. ap (fold (walked rules []) (walk_from h)) (append_assoc front rest more) ∙ a.to (rest ++ more) ∙ b.to more;
  passes = λ more. ap (walk_passes shape [] (walk_from h)) (append_assoc front rest more) ∙ a.passes (rest ++ more) ∙ b.passes more;
  settles = b.settles;
  holds = b.holds;
}

blocks_lead : (free : Kinds) (given : List Given) (words : List Text) (h : Held) → AreBlocks given words → AreAmong free given
    → settle_passes rules false h ≡ true → Misses free (settled rules h).rows
    → Leads words h ((settled rules h).rows ++ map row given)
blocks_lead free [] words h blocks among settles misses = subst (λ ws. Leads ws h ((settled rules h).rows ++ [])) (sym blocks) (record {
  held = h;
  to = λ rest. refl;
  passes = λ rest. refl;
  settles = settles;
  holds = sym (append-nil (settled rules h).rows);
})
blocks_lead free (option ∷ given) words h blocks among settles misses =
    let rows = (settled rules h).rows in
    let a = block_leads option blocks.0 h blocks.3 settles (misses (kind_of option) among.0) in
    let missed = subst (Misses (without free (kind_of option))) (sym a.holds) (misses_more free option rows misses) in
    let b = blocks_lead (without free (kind_of option)) given blocks.1 a.held blocks.4 among.1 a.settles missed in
    let same = ap (λ rs. rs ++ map row given) a.holds ∙ append_assoc rows (row option ∷ []) (map row given) in
    subst (λ ws. Leads ws h (rows ++ map row (option ∷ given))) (sym blocks.2)
    (leads_on blocks.0 blocks.1 h (rows ++ row option ∷ []) (rows ++ map row (option ∷ given)) a (subst (Leads blocks.1 a.held) same b))

-- ---- what is found at the end

-- the limit's text, where one is given
abbrev pub text_in : List Given → Option Text
text_in [] = None
text_in (Json ∷ given) = text_in given
text_in (Versions text ∷ given) = Some text

-- how the parser of options tells a flag
abbrev pub flag_text : Bool → Text
flag_text true = codes "true"
flag_text false = codes "false"

json_row : (given : List Given) → has_row (codes "json") (map row given) ≡ json_in given
json_row [] = refl
json_row (Json ∷ given) = refl
json_row (Versions text ∷ given) = json_row given

text_row : (given : List Given) → first_of (codes "versions") (map row given) ≡ text_in given
text_row [] = refl
text_row (Json ∷ given) = text_row given
text_row (Versions text ∷ given) = refl

flag_row : (given : List Given) → json_in given ≡ true → one_of (codes "json") (map row given) ≡ Some (codes "true")
flag_row [] h = absurd (true≢false (sym h))
flag_row (Json ∷ given) h = refl
flag_row (Versions text ∷ given) h = flag_row given h

abbrev no_json : Row
no_json = new_row (codes "json") (reading_by json_use) DefaultValue (codes "false" ∷ [])

text_still : (given : List Given) → first_of (codes "versions") (map row given ++ no_json ∷ []) ≡ text_in given
text_still [] = refl
text_still (Json ∷ given) = text_still given
text_still (Versions text ∷ given) = refl

no_flag : (given : List Given) → json_in given ≡ false → one_of (codes "json") (map row given ++ no_json ∷ []) ≡ Some (codes "false")
no_flag [] h = refl
no_flag (Json ∷ given) h = absurd (true≢false h)
no_flag (Versions text ∷ given) h = no_flag given h

-- the rows with the defaults
abbrev End : List Row → List Given → Type 0
End rows given = (first_of (codes "versions") rows ≡ text_in given) × (one_of (codes "json") rows ≡ Some (flag_text (json_in given)))

same_either : (b : Bool) (rows : List Row) → (if b then rows else rows) ≡ rows
same_either true rows = refl
same_either false rows = refl

end : (given : List Given) → End (fold with_default (map row given) rules) given
end given = subst (λ rows. End (with_default rows json_use) given)
    (sym (same_either (has_row (codes "versions") (map row given)) (map row given))) (go (json_in given) refl)
  where
    go : (json : Bool) → json_in given ≡ json → End (with_default (map row given) json_use) given
    go true e = rw (json_row given, e) (text_row given, flag_row given e)
    go false e = rw (json_row given, e) (subst (λ rows. (first_of (codes "versions") rows ≡ text_in given)
        × (one_of (codes "json") rows ≡ Some (codes "false")))
        (sym (added (codes "json") (reading_by json_use) DefaultValue (codes "false" ∷ []) (map row given) (json_row given
        ∙ e))) (text_still given, no_flag given e))

-- the parser takes options, and finds the limit's text and the flag of JSON
pub record Reads (given : List Given) (words : List Text) : Type 0 where
  pub taken : takes app words ≡ true
  pub limit : first_of (codes "versions") (matches_of app words) ≡ text_in given
  pub flag : one_of (codes "json") (matches_of app words) ≡ Some (flag_text (json_in given))

-- a level of the parse passes, where its walk ends so
level : (words : List Text) (held : Held) → (walk rules [] nothing_held words).held ≡ held
    → walk_passes shape [] (walk_from nothing_held) words ≡ true → settle_passes rules false held ≡ true
    → level_passes shape [] nothing_held words false ≡ true
unfolding clap_on_literals
level words held ends passes settles = rw (passes, ends, settles) refl

app_takes : (words : List Text) → level_passes shape [] nothing_held words false ≡ true → takes app words ≡ true
unfolding clap_on_literals
app_takes words passes = leaf_takes (built app) nothing_held words refl passes

none_passes : (w : Walk) → walk_passes shape [] w [] ≡ true
unfolding clap_on_literals
none_passes w = refl

pub reads : (free : Kinds) (given : List Given) (words : List Text) → AreBlocks given words → AreAmong free given → Reads given words
reads free given words blocks among =
    let led = blocks_lead free given words nothing_held blocks among refl (λ k h. refl) in
    let ends : walk rules [] nothing_held words ≡ walk_from led.held = ap (fold (walked rules []) (walk_from nothing_held))
    (sym (append-nil words)) ∙ led.to [] in
    let passes : walk_passes shape [] (walk_from nothing_held) words ≡ true = ap (walk_passes shape [] (walk_from nothing_held))
    (sym (append-nil words)) ∙ led.passes [] ∙ none_passes (walk_from led.held) in
    let rows : matches_of app words ≡ fold with_default (map row given) rules = ap (λ w. finished rules w.held) ends
    ∙ ap (λ rs. fold with_default rs rules) led.holds in
    record {
      taken = app_takes words (level words led.held (ap (λ (w : Walk). w.held) ends) passes led.settles);
      limit = ap (first_of (codes "versions")) rows ∙ (end given).0;
      flag = ap (one_of (codes "json")) rows ∙ (end given).1;
    }
