-- What no line of a report begins a text.
use Rattle.std.proofs.Common.{◌≡◌, ◌≢◌, ℕ, ◌<◌, true≢false, List, [], ◌∷◌, ◌++◌, length, refl, sym, ap, ◌∙◌, append_assoc, arith, codes}
use Rattle.std.specs.Prelude.{◌^◌, decimal, IsTrue}
use Rattle.std.specs.List.{zip}
use Rattle.std.proofs.lemmas.List.{append_cancel_left}
use Rattle.script_tree.specs.Names.{is_name}
use Rattle.script_tree.specs.Printed.{value_text}
use Rattle.script_tree.specs.declared.value.Value.{Value}
use Rattle.script_tree.proofs.Lists.{same_first, same_rest, not_empty}
use Rattle.signal_graph.specs.declared.call.Reply.{Reply}
use Rattle.signal_graph.specs.declared.call.Reply.TheVariants.{Fire as Fired, Read as Seen}
use Rattle.signal_graph.specs.declared.log.Refused.{Refused}
use Rattle.signal_graph.specs.declared.log.Why.{Why}
use Rattle.signal_graph.specs.declared.log.Why.TheVariants.{UnknownName, VersionsUsedUp}
use Rattle.report_text.specs.declared.data.CallLine.{CallLine}
use Rattle.report_text.specs.Pieces.{Ends, IsBlankFirst, IsValue}
use Rattle.report_text.specs.Report.{counted, named_value, more_looks, looks_text, fire_looks, fire_text, reply_text, line_end, call_line, why_text, refused_line, final_line, done_line}
use Rattle.report_text.specs.Printed.{IsLook, AreLooks, IsReply, IsWhy, NoCall, NoRefusal, NoFinal}
use Rattle.report_text.proofs.Unique.{one_piece, one_named, inner_name, numbers_differ, blank_ends, behind_count}
use Rattle.report_text.proofs.LooksLaws.{looks_end}

-- behind two labels and their numbers stands one text alone
pub behind_counts : (text first second : List ℕ) (a b : ℕ) (behind : List ℕ) (m n : ℕ) (rest : List ℕ) → IsBlankFirst second → a < 2 ^ 32 → b < 2 ^ 32 → m < 2 ^ 32 → n < 2 ^ 32 → Ends behind → Ends rest
    → text ≡ counted first a (counted second b behind) → text ≡ counted first m (counted second n rest) → behind ≡ rest
behind_counts text first second a b behind m n rest blank ha hb hm hn hw hr e f =
    let outer = behind_count text first a m (counted second b behind) (counted second n rest) ha hm (blank_ends second (decimal b ++ behind) blank) (blank_ends second (decimal n ++ rest) blank) e f in
    (behind_count (counted second b behind) second b n behind rest hb hn hw hr refl outer.1).1

pub flat : (l1 d1 l2 d2 t rest : List ℕ) → (l1 ++ (d1 ++ (l2 ++ (d2 ++ t)))) ++ rest ≡ l1 ++ (d1 ++ (l2 ++ (d2 ++ (t ++ rest))))
flat l1 d1 l2 d2 t rest = simp append_assoc

-- ---- the last line
pub done_flat : (a b : ℕ) (rest : List ℕ) → done_line a b ++ rest ≡ counted (codes "done ") a (counted (codes " accepted ") b (codes " refused\n" ++ rest))
done_flat a b rest = flat (codes "done ") (decimal a) (codes " accepted ") (decimal b) (codes " refused" ++ line_end) rest

-- ---- a refusal
pub why_ends : (why : Why) (rest : List ℕ) → Ends (why_text why ++ rest)
why_ends (UnknownName p) rest = refl
why_ends (VersionsUsedUp l) rest = refl

pub no_why : (text : List ℕ) → ((n : ℕ) (rest : List ℕ) → n < 2 ^ 32 → Ends rest → text ≡ counted (codes " unknown name ") n rest → ⊥) → ((n : ℕ) (rest : List ℕ) → n < 2 ^ 32 → Ends rest → text ≡ counted (codes " versions used up ") n rest → ⊥)
    → (why : Why) (rest : List ℕ) → IsWhy why → Ends rest → text ≡ why_text why ++ rest → ⊥
no_why text one two (UnknownName p) rest h ends e = one p rest h ends (e ∙ append_assoc (codes " unknown name ") (decimal p) rest)
no_why text one two (VersionsUsedUp l) rest h ends e = two l rest h ends (e ∙ append_assoc (codes " versions used up ") (decimal l) rest)

pub one_why : (text : List ℕ) (v w : Why) (y z : List ℕ) → IsWhy v → IsWhy w → Ends y → Ends z → text ≡ why_text v ++ y → text ≡ why_text w ++ z → (v ≡ w) × (y ≡ z)
one_why text (UnknownName p) (UnknownName q) y z hv hw hy hz e f =
    let parts = behind_count text (codes " unknown name ") p q y z hv hw hy hz (e ∙ append_assoc (codes " unknown name ") (decimal p) y) (f ∙ append_assoc (codes " unknown name ") (decimal q) z) in
    (ap UnknownName parts.0, parts.1)
one_why text (VersionsUsedUp p) (VersionsUsedUp q) y z hv hw hy hz e f =
    let parts = behind_count text (codes " versions used up ") p q y z hv hw hy hz (e ∙ append_assoc (codes " versions used up ") (decimal p) y) (f ∙ append_assoc (codes " versions used up ") (decimal q) z) in
    (ap VersionsUsedUp parts.0, parts.1)
one_why text (UnknownName p) (VersionsUsedUp q) y z hv hw hy hz e f = absurd (numbers_differ 117 118 (omega arith) (same_first 117 118 _ _ (same_rest 32 32 _ _ (sym e ∙ f))))
one_why text (VersionsUsedUp p) (UnknownName q) y z hv hw hy hz e f = absurd (numbers_differ 117 118 (omega arith) (same_first 117 118 _ _ (same_rest 32 32 _ _ (sym f ∙ e))))

pub refused_flat : (refused : Refused) (rest : List ℕ) → refused_line refused ++ rest ≡ counted (codes "refused thread ") refused.caller (counted (codes " call ") refused.number (why_text refused.why ++ 10 ∷ rest))
refused_flat refused rest =
    flat (codes "refused thread ") (decimal refused.caller) (codes " call ") (decimal refused.number) (why_text refused.why ++ line_end) rest
    ∙ ap (λ t. counted (codes "refused thread ") refused.caller (counted (codes " call ") refused.number t)) (append_assoc (why_text refused.why) line_end rest)

-- ---- a last value
pub last_behind : (text inner name : List ℕ) (value : Value) (behind : List ℕ) (last : List ℕ × Value) (rest : List ℕ) → text ≡ codes "final " ++ inner → inner ≡ named_value (name, value) ++ behind → IsLook (name, value) → Ends behind → IsLook last
    → text ≡ final_line last ++ rest → behind ≡ 10 ∷ rest
last_behind text inner name value behind last rest first second is ends are e =
    let flat_last = append_assoc (codes "final ") (named_value last ++ line_end) rest ∙ ap (λ t. codes "final " ++ t) (append_assoc (named_value last) line_end rest) in
    let same = append_cancel_left (codes "final ") (named_value (name, value) ++ behind) (named_value last ++ 10 ∷ rest) (ap (λ t. codes "final " ++ t) (sym second) ∙ sym first ∙ e ∙ flat_last) in
    (one_named name last.0 value last.1 behind (10 ∷ rest) is.0 are.0 is.1 are.1 ends refl same).2

-- ---- looks
pub not_at_end : (name : List ℕ) (value : Value) (behind after : List ℕ) → IsTrue (is_name name) → named_value (name, value) ++ behind ≡ 10 ∷ after → ⊥
not_at_end [] value behind after h e = true≢false (sym h)
not_at_end (b ∷ bs) value behind after h e =
    not_empty b bs (one_piece (b ∷ bs) ((codes "=" ++ value_text value) ++ behind) [] (10 ∷ after) (inner_name (b ∷ bs) h) refl refl refl (sym (append_assoc (b ∷ bs) _ behind) ∙ e)).0

pub looks_on : (text name : List ℕ) (value : Value) (behind result : List ℕ) → text ≡ named_value (name, value) ++ behind → IsLook (name, value) → Ends behind
    → ((more : List (List ℕ × Value)) (after : List ℕ) → AreLooks more → behind ≡ more_looks more ++ 10 ∷ after → result ≡ 10 ∷ after)
    → (them : List (List ℕ × Value)) (after : List ℕ) → AreLooks them → text ≡ looks_text them ++ 10 ∷ after → result ≡ 10 ∷ after
looks_on text name value behind result first is ends all [] after are e = absurd (not_at_end name value behind after is.0 (sym first ∙ e))
looks_on text name value behind result first is ends all (look ∷ looks) after are e =
    let parts = one_named name look.0 value look.1 behind (more_looks looks ++ 10 ∷ after) is.0 are.0.0 is.1 are.0.1 ends (looks_end looks after)
    (sym first ∙ e ∙ append_assoc (named_value look) (more_looks looks) (10 ∷ after)) in
    all looks after are.1 parts.2

pub no_looks : (text : List ℕ) → ((name : List ℕ) (value : Value) (rest : List ℕ) → IsTrue (is_name name) → IsValue value → Ends rest → text ≡ named_value (name, value) ++ rest → ⊥)
    → (them : List (List ℕ × Value)) (after : List ℕ) → AreLooks them → text ≡ looks_text them ++ 10 ∷ after → (them ≡ []) × (text ≡ 10 ∷ after)
no_looks text none [] after are e = (refl, e)
no_looks text none (look ∷ looks) after are e =
    absurd (none look.0 look.1 (more_looks looks ++ 10 ∷ after) are.0.0 are.0.1 (looks_end looks after) (e ∙ append_assoc (named_value look) (more_looks looks) (10 ∷ after)))

pub looks_behind : (text behind : List ℕ) → text ≡ codes " look " ++ behind → (them : List (List ℕ × Value)) (after : List ℕ) → text ≡ fire_looks them ++ 10 ∷ after → (them ≢ []) × (behind ≡ looks_text them ++ 10 ∷ after)
looks_behind text behind first [] after e = absurd (numbers_differ 10 32 (omega arith) (sym (same_first 32 10 _ _ (sym first ∙ e))))
looks_behind text behind first (look ∷ looks) after e =
    (λ none. has_no_look none, append_cancel_left (codes " look ") behind (looks_text (look ∷ looks) ++ 10 ∷ after) (sym first ∙ e))
  where
    has_no_look : look ∷ looks ≡ [] → ⊥
    has_no_look none = absurd (omega (arith, ap length none))

-- ---- a call
pub fire_looks_end : (looks : List (List ℕ × Value)) (after : List ℕ) → Ends (fire_looks looks ++ 10 ∷ after)
fire_looks_end [] after = refl
fire_looks_end (look ∷ looks) after = refl

pub fire_flat : (a b : ℕ) (looks : List (List ℕ × Value)) (after : List ℕ) → fire_text a b looks ++ 10 ∷ after ≡ counted (codes " fire changed ") a (counted (codes " evaluated ") b (fire_looks looks ++ 10 ∷ after))
fire_flat a b looks after = flat (codes " fire changed ") (decimal a) (codes " evaluated ") (decimal b) (fire_looks looks) (10 ∷ after)

-- a reply without the word for reads is one of a fire
pub only_fire : (Q : List ℕ → Type 0) (text : List ℕ) → ((rest : List ℕ) → text ≡ codes " read " ++ rest → ⊥)
    → ((a b : ℕ) (them : List (List ℕ × Value)) (after : List ℕ) → a < 2 ^ 32 → b < 2 ^ 32 → AreLooks them → text ≡ fire_text a b them ++ 10 ∷ after → Q after)
    → (names : List (List ℕ)) (it : Reply) (after : List ℕ) → IsReply names it → text ≡ reply_text names it ++ 10 ∷ after → Q after
only_fire Q text no_read all names (Fired a b values) after is e = all a b (zip names values) after is.0 is.1 is.3 e
only_fire Q text no_read all names (Seen values) after is e = absurd (no_read (looks_text (zip names values) ++ 10 ∷ after) (e ∙ append_assoc (codes " read ") (looks_text (zip names values)) (10 ∷ after)))

-- a reply with that word is one of a read
pub only_read : (text behind result : List ℕ) → text ≡ codes " read " ++ behind → ((them : List (List ℕ × Value)) (after : List ℕ) → AreLooks them → behind ≡ looks_text them ++ 10 ∷ after → result ≡ 10 ∷ after)
    → (names : List (List ℕ)) (it : Reply) (after : List ℕ) → IsReply names it → text ≡ reply_text names it ++ 10 ∷ after → result ≡ 10 ∷ after
only_read text behind result first all names (Fired a b values) after is e = absurd (numbers_differ 102 114 (omega arith) (sym (same_first 114 102 _ _ (same_rest 32 32 _ _ (sym first ∙ e)))))
only_read text behind result first all names (Seen values) after is e =
    all (zip names values) after is.1 (append_cancel_left (codes " read ") behind (looks_text (zip names values) ++ 10 ∷ after)
    (sym first ∙ e ∙ append_assoc (codes " read ") (looks_text (zip names values)) (10 ∷ after)))

pub reply_ends : (names : List (List ℕ)) (it : Reply) (rest : List ℕ) → Ends (reply_text names it ++ rest)
reply_ends names (Fired a b values) rest = refl
reply_ends names (Seen values) rest = refl

pub line_flat : (line : CallLine) (rest : List ℕ) → call_line line ++ rest ≡ counted (codes "call ") line.version (counted (codes " thread ") line.caller (reply_text line.names line.reply ++ 10 ∷ rest))
line_flat line rest =
    flat (codes "call ") (decimal line.version) (codes " thread ") (decimal line.caller) (reply_text line.names line.reply ++ line_end) rest
    ∙ ap (λ t. counted (codes "call ") line.version (counted (codes " thread ") line.caller t)) (append_assoc (reply_text line.names line.reply) line_end rest)

-- ---- no line at the end of a text
pub empty_no_call : (text : List ℕ) → text ≡ [] → NoCall text
empty_no_call text none = λ line rest is e. not_empty 99 _ (sym e ∙ none)

pub empty_no_refusal : (text : List ℕ) → text ≡ [] → NoRefusal text
empty_no_refusal text none = λ refused rest is e. not_empty 114 _ (sym e ∙ none)

pub empty_no_final : (text : List ℕ) → text ≡ [] → NoFinal text
empty_no_final text none = λ last rest is e. not_empty 102 _ (sym e ∙ none)
