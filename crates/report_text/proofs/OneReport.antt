-- Bytes are the report of one data alone.
use Rattle.std.proofs.Common.{◌≡◌, ◌≢◌, ℕ, ◌<◌, List, [], ◌∷◌, ◌++◌, length, map, refl, sym, ap, ◌∙◌, append_assoc, append-nil, arith, codes, ⊎_elim}
use Rattle.std.specs.Prelude.{◌^◌, Result, Ok, Err}
use Rattle.std.specs.List.{AllByRecursion, flat_map, zip}
use Rattle.std.proofs.lemmas.List.{append_cancel_left}
use Rattle.script_tree.specs.declared.value.Value.{Value}
use Rattle.script_tree.proofs.Lists.{same_first, same_rest}
use Rattle.signal_graph.specs.declared.call.Reply.{Reply}
use Rattle.signal_graph.specs.declared.call.Reply.TheVariants.{Fire as Fired, Read as Seen}
use Rattle.signal_graph.specs.declared.log.Logged.{Logged}
use Rattle.signal_graph.specs.declared.log.Refused.{Refused}
use Rattle.signal_graph.specs.declared.log.Why.{Why}
use Rattle.report_text.specs.declared.data.CallLine.{CallLine}
use Rattle.report_text.specs.declared.data.Report.{Report}
use Rattle.report_text.specs.declared.reading.ReportFault.{ReportFault}
use Rattle.report_text.specs.declared.reading.ReportFault.TheVariants.{Syntax, Memory}
use Rattle.report_text.specs.Report.{counted, named_value, more_looks, looks_text, fire_looks, reply_text, why_text, refused_line, final_line, done_line, call_line, report_of}
use Rattle.report_text.specs.Printed.{data_of, lines_before, printed, IsLook, AreLooks, IsReply, IsLine, IsRefusal, AreLines, AreRefusals, IsReport, NoCall, NoRefusal, NoFinal, StopsWithin, StopsBehind, Stops}
use Rattle.report_text.specs.Reading.{IsReadAs}
use Rattle.report_text.proofs.Unique.{one_named, numbers_differ, behind_count}
use Rattle.report_text.proofs.LooksLaws.{looks_end}
use Rattle.report_text.proofs.EntryLaws.{not_at_end, fire_flat, fire_looks_end, done_flat, refused_flat, why_ends, one_why, line_flat, reply_ends}

-- ---- looks
pub same_look : (a b : List ℕ × Value) → a.0 ≡ b.0 → a.1 ≡ b.1 → a ≡ b
same_look a b names values = pair a.0 b.0 a.1 b.1 names values
  where
    pair : (n m : List ℕ) (v u : Value) → n ≡ m → v ≡ u → ◌≡◌ {A = List ℕ × Value} (n, v) (m, u)
    pair n m v u p q = rw (p, q) refl

one_more : (ls ms : List (List ℕ × Value)) (x y : List ℕ) → AreLooks ls → AreLooks ms → more_looks ls ++ 10 ∷ x ≡ more_looks ms ++ 10 ∷ y → (ls ≡ ms) × (x ≡ y)
one_more [] [] x y hl hm e = (refl, same_rest 10 10 x y e)
one_more [] (m ∷ ms) x y hl hm e = absurd (numbers_differ 10 44 (omega arith) (same_first 10 44 _ _ e))
one_more (l ∷ ls) [] x y hl hm e = absurd (numbers_differ 10 44 (omega arith) (same_first 10 44 _ _ (sym e)))
one_more (l ∷ ls) (m ∷ ms) x y hl hm e =
    let left = append_assoc (codes ", " ++ named_value l) (more_looks ls) (10 ∷ x) ∙ append_assoc (codes ", ") (named_value l) (more_looks ls ++ 10 ∷ x) in
    let right = append_assoc (codes ", " ++ named_value m) (more_looks ms) (10 ∷ y) ∙ append_assoc (codes ", ") (named_value m) (more_looks ms ++ 10 ∷ y) in
    let parts = one_named l.0 m.0 l.1 m.1 (more_looks ls ++ 10 ∷ x) (more_looks ms ++ 10 ∷ y) hl.0.0 hm.0.0 hl.0.1 hm.0.1 (looks_end ls x) (looks_end ms y)
    (append_cancel_left (codes ", ") (named_value l ++ (more_looks ls ++ 10 ∷ x)) (named_value m ++ (more_looks ms ++ 10 ∷ y)) (sym left ∙ e ∙ right)) in
    let rest = one_more ls ms x y hl.1 hm.1 parts.2 in
    (rw (same_look l m parts.0 parts.1) (ap (λ t. m ∷ t) rest.0), rest.1)

one_looks : (ls ms : List (List ℕ × Value)) (x y : List ℕ) → AreLooks ls → AreLooks ms → looks_text ls ++ 10 ∷ x ≡ looks_text ms ++ 10 ∷ y → (ls ≡ ms) × (x ≡ y)
one_looks [] [] x y hl hm e = (refl, same_rest 10 10 x y e)
one_looks [] (m ∷ ms) x y hl hm e = absurd (not_at_end m.0 m.1 (more_looks ms ++ 10 ∷ y) x hm.0.0 (sym (append_assoc (named_value m) (more_looks ms) (10 ∷ y)) ∙ sym e))
one_looks (l ∷ ls) [] x y hl hm e = absurd (not_at_end l.0 l.1 (more_looks ls ++ 10 ∷ x) y hl.0.0 (sym (append_assoc (named_value l) (more_looks ls) (10 ∷ x)) ∙ e))
one_looks (l ∷ ls) (m ∷ ms) x y hl hm e =
    let parts = one_named l.0 m.0 l.1 m.1 (more_looks ls ++ 10 ∷ x) (more_looks ms ++ 10 ∷ y) hl.0.0 hm.0.0 hl.0.1 hm.0.1 (looks_end ls x) (looks_end ms y)
    (sym (append_assoc (named_value l) (more_looks ls) (10 ∷ x)) ∙ e ∙ append_assoc (named_value m) (more_looks ms) (10 ∷ y)) in
    let rest = one_more ls ms x y hl.1 hm.1 parts.2 in
    (rw (same_look l m parts.0 parts.1) (ap (λ t. m ∷ t) rest.0), rest.1)

one_fire_looks : (ls ms : List (List ℕ × Value)) (x y : List ℕ) → AreLooks ls → AreLooks ms → fire_looks ls ++ 10 ∷ x ≡ fire_looks ms ++ 10 ∷ y → (ls ≡ ms) × (x ≡ y)
one_fire_looks [] [] x y hl hm e = (refl, same_rest 10 10 x y e)
one_fire_looks [] (m ∷ ms) x y hl hm e = absurd (numbers_differ 10 32 (omega arith) (same_first 10 32 _ _ e))
one_fire_looks (l ∷ ls) [] x y hl hm e = absurd (numbers_differ 10 32 (omega arith) (same_first 10 32 _ _ (sym e)))
one_fire_looks (l ∷ ls) (m ∷ ms) x y hl hm e =
    one_looks (l ∷ ls) (m ∷ ms) x y hl hm (append_cancel_left (codes " look ") (looks_text (l ∷ ls) ++ 10 ∷ x) (looks_text (m ∷ ms) ++ 10 ∷ y) e)

names_back : (names : List (List ℕ)) (values : List Value) → length values ≡ length names → map (λ (l : List ℕ × Value). l.0) (zip names values) ≡ names
names_back [] [] e = refl
names_back [] (v ∷ vs) e = refl
names_back (n ∷ ns) [] e = absurd (omega (arith, e))
names_back (n ∷ ns) (v ∷ vs) e = let shorter : length vs ≡ length ns = omega (arith, e) in ap (λ l. n ∷ l) (names_back ns vs shorter)

values_back : (names : List (List ℕ)) (values : List Value) → length values ≡ length names → map (λ (l : List ℕ × Value). l.1) (zip names values) ≡ values
values_back [] [] e = refl
values_back [] (v ∷ vs) e = absurd (omega (arith, e))
values_back (n ∷ ns) [] e = absurd (omega (arith, e))
values_back (n ∷ ns) (v ∷ vs) e = let shorter : length vs ≡ length ns = omega (arith, e) in ap (λ l. v ∷ l) (values_back ns vs shorter)

pub one_zip : (n m : List (List ℕ)) (v u : List Value) → length v ≡ length n → length u ≡ length m → zip n v ≡ zip m u → (n ≡ m) × (v ≡ u)
one_zip n m v u hv hu e = (
  sym (names_back n v hv) ∙ ap (map (λ (l : List ℕ × Value). l.0)) e ∙ names_back m u hu,
  sym (values_back n v hv) ∙ ap (map (λ (l : List ℕ × Value). l.1)) e ∙ values_back m u hu,
)

-- ---- lines
one_reply : (n m : List (List ℕ)) (r s : Reply) (x y : List ℕ) → IsReply n r → IsReply m s → reply_text n r ++ 10 ∷ x ≡ reply_text m s ++ 10 ∷ y → (n ≡ m) × (r ≡ s) × (x ≡ y)
one_reply n m (Fired a b v) (Fired c d u) x y hr hs e =
    let first = behind_count _ (codes " fire changed ") a c (counted (codes " evaluated ") b (fire_looks (zip n v) ++ 10 ∷ x)) (counted (codes " evaluated ") d (fire_looks (zip m u) ++ 10 ∷ y)) hr.0 hs.0 refl refl refl (sym (fire_flat a b (zip n v) x) ∙ e ∙ fire_flat c d (zip m u) y) in
    let second = behind_count _ (codes " evaluated ") b d (fire_looks (zip n v) ++ 10 ∷ x) (fire_looks (zip m u) ++ 10 ∷ y) hr.1 hs.1 (fire_looks_end (zip n v) x) (fire_looks_end (zip m u) y) refl first.1 in
    let looks = one_fire_looks (zip n v) (zip m u) x y hr.3 hs.3 second.1 in
    let parts = one_zip n m v u hr.2 hs.2 looks.0 in
    (parts.0, rw (first.0, second.0, parts.1) refl, looks.1)
one_reply n m (Seen v) (Seen u) x y hr hs e =
    let looks = one_looks (zip n v) (zip m u) x y hr.1 hs.1 (append_cancel_left (codes " read ") (looks_text (zip n v) ++ 10 ∷ x) (looks_text (zip m u) ++ 10 ∷ y)
    (sym (append_assoc (codes " read ") (looks_text (zip n v)) (10 ∷ x)) ∙ e ∙ append_assoc (codes " read ") (looks_text (zip m u)) (10 ∷ y))) in
    let parts = one_zip n m v u hr.0 hs.0 looks.0 in
    (parts.0, ap Seen parts.1, looks.1)
one_reply n m (Fired a b v) (Seen u) x y hr hs e = absurd (numbers_differ 102 114 (omega arith) (same_first 102 114 _ _ (same_rest 32 32 _ _ e)))
one_reply n m (Seen v) (Fired c d u) x y hr hs e = absurd (numbers_differ 102 114 (omega arith) (same_first 102 114 _ _ (same_rest 32 32 _ _ (sym e))))

line_from : ℕ → ℕ → Reply → List (List ℕ) → CallLine
line_from version caller reply names = record { version = version; caller = caller; reply = reply; names = names }

pub same_line : (a b : CallLine) → a.version ≡ b.version → a.caller ≡ b.caller → a.reply ≡ b.reply → a.names ≡ b.names → a ≡ b
unfolding line_from
same_line a b v c r n =
    ap (λ x. line_from x a.caller a.reply a.names) v ∙ ap (λ x. line_from b.version x a.reply a.names) c
    ∙ ap (λ x. line_from b.version b.caller x a.names) r ∙ ap (λ x. line_from b.version b.caller b.reply x) n

one_line : (a b : CallLine) (x y : List ℕ) → IsLine a → IsLine b → call_line a ++ x ≡ call_line b ++ y → (a ≡ b) × (x ≡ y)
one_line a b x y ha hb e =
    let said_a = reply_text a.names a.reply ++ 10 ∷ x in
    let said_b = reply_text b.names b.reply ++ 10 ∷ y in
    let first = behind_count _ (codes "call ") a.version b.version (counted (codes " thread ") a.caller said_a) (counted (codes " thread ") b.caller said_b) ha.version hb.version refl refl refl
    (sym (line_flat a x) ∙ e ∙ line_flat b y) in
    let second = behind_count _ (codes " thread ") a.caller b.caller said_a said_b ha.caller hb.caller (reply_ends a.names a.reply (10 ∷ x)) (reply_ends b.names b.reply (10 ∷ y)) refl first.1 in
    let parts = one_reply a.names b.names a.reply b.reply x y ha.reply hb.reply second.1 in
    (same_line a b first.0 second.0 parts.1 parts.0, parts.2)

refused_from : ℕ → ℕ → Why → Refused
refused_from caller at why = record { caller = caller; number = at; why = why }

pub same_refused : (a b : Refused) → a.caller ≡ b.caller → a.number ≡ b.number → a.why ≡ b.why → a ≡ b
unfolding refused_from
same_refused a b c n w = ap (λ x. refused_from x a.number a.why) c ∙ ap (λ x. refused_from b.caller x a.why) n ∙ ap (λ x. refused_from b.caller b.number x) w

one_refusal : (a b : Refused) (x y : List ℕ) → IsRefusal a → IsRefusal b → refused_line a ++ x ≡ refused_line b ++ y → (a ≡ b) × (x ≡ y)
one_refusal a b x y ha hb e =
    let said_a = why_text a.why ++ 10 ∷ x in
    let said_b = why_text b.why ++ 10 ∷ y in
    let first = behind_count _ (codes "refused thread ") a.caller b.caller (counted (codes " call ") a.number said_a) (counted (codes " call ") b.number said_b) ha.caller hb.caller refl refl refl
    (sym (refused_flat a x) ∙ e ∙ refused_flat b y) in
    let second = behind_count _ (codes " call ") a.number b.number said_a said_b ha.number hb.number (why_ends a.why (10 ∷ x)) (why_ends b.why (10 ∷ y)) refl first.1 in
    let parts = one_why _ a.why b.why (10 ∷ x) (10 ∷ y) ha.why hb.why refl refl refl second.1 in
    (same_refused a b first.0 second.0 parts.0, same_rest 10 10 x y parts.1)

one_final : (a b : List ℕ × Value) (x y : List ℕ) → IsLook a → IsLook b → final_line a ++ x ≡ final_line b ++ y → (a ≡ b) × (x ≡ y)
one_final a b x y ha hb e =
    let tail_a = append_assoc (named_value a) (10 ∷ []) x in
    let tail_b = append_assoc (named_value b) (10 ∷ []) y in
    let inner = append_cancel_left (codes "final ") ((named_value a ++ 10 ∷ []) ++ x) ((named_value b ++ 10 ∷ []) ++ y) e in
    let parts = one_named a.0 b.0 a.1 b.1 (10 ∷ x) (10 ∷ y) ha.0 hb.0 ha.1 hb.1 refl refl (sym tail_a ∙ inner ∙ tail_b) in
    (same_look a b parts.0 parts.1, same_rest 10 10 x y parts.2)

-- ---- lines of one kind
one_section : {A : Type 0} (f : A → List ℕ) (P : A → Type 0) → ((x y : A) (s t : List ℕ) → P x → P y → f x ++ s ≡ f y ++ t → (x ≡ y) × (s ≡ t))
    → (xs ys : List A) (s t : List ℕ) → AllByRecursion P xs → AllByRecursion P ys → ((x : A) (rest : List ℕ) → P x → s ≡ f x ++ rest → ⊥) → ((x : A) (rest : List ℕ) → P x → t ≡ f x ++ rest → ⊥)
    → flat_map f xs ++ s ≡ flat_map f ys ++ t → (xs ≡ ys) × (s ≡ t)
one_section f P one [] [] s t hx hy ns nt e = (refl, e)
one_section f P one [] (y ∷ ys) s t hx hy ns nt e = absurd (ns y (flat_map f ys ++ t) hy.0 (e ∙ append_assoc (f y) (flat_map f ys) t))
one_section f P one (x ∷ xs) [] s t hx hy ns nt e = absurd (nt x (flat_map f xs ++ s) hx.0 (sym e ∙ append_assoc (f x) (flat_map f xs) s))
one_section f P one (x ∷ xs) (y ∷ ys) s t hx hy ns nt e =
    let parts = one x y (flat_map f xs ++ s) (flat_map f ys ++ t) hx.0 hy.0 (sym (append_assoc (f x) (flat_map f xs) s) ∙ e ∙ append_assoc (f y) (flat_map f ys) t) in
    let rest = one_section f P one xs ys s t hx.1 hy.1 ns nt parts.1 in
    (rw parts.0 (ap (λ l. y ∷ l) rest.0), rest.1)

-- a text without calls, refusals or last values in front, by the byte that it begins with
no_call_by : (b : ℕ) (bs : List ℕ) → 99 < b → NoCall (b ∷ bs)
no_call_by b bs other = λ line rest is e. numbers_differ 99 b other (sym (same_first b 99 _ _ e))

no_refusal_by : (b : ℕ) (bs : List ℕ) → b < 114 → NoRefusal (b ∷ bs)
no_refusal_by b bs other = λ refused rest is e. numbers_differ b 114 other (same_first b 114 _ _ e)

no_final_by : (b : ℕ) (bs : List ℕ) → b < 102 → NoFinal (b ∷ bs)
no_final_by b bs other = λ last rest is e. numbers_differ b 102 other (same_first b 102 _ _ e)

no_refusal_in : (finals : List (List ℕ × Value)) (behind : List ℕ) → (finals ≡ [] → NoRefusal behind) → NoRefusal (flat_map final_line finals ++ behind)
no_refusal_in [] behind none = none refl
no_refusal_in (last ∷ finals) behind none = no_refusal_by 102 _ (omega arith)

no_call_in : (refused : List Refused) (finals : List (List ℕ × Value)) (behind : List ℕ) → (refused ≡ [] → finals ≡ [] → NoCall behind) → NoCall (flat_map refused_line refused ++ (flat_map final_line finals ++ behind))
no_call_in [] [] behind none = none refl refl
no_call_in [] (last ∷ finals) behind none = no_call_by 102 _ (omega arith)
no_call_in (one ∷ refused) finals behind none = no_call_by 114 _ (omega arith)

-- ---- whole reports
one_before : (cs ds : List CallLine) (rs ss : List Refused) (fs gs : List (List ℕ × Value)) (x y : List ℕ) → AreLines cs → AreLines ds → AreRefusals rs → AreRefusals ss → AreLooks fs → AreLooks gs
    → (rs ≡ [] → fs ≡ [] → NoCall x) → (ss ≡ [] → gs ≡ [] → NoCall y) → (fs ≡ [] → NoRefusal x) → (gs ≡ [] → NoRefusal y) → NoFinal x → NoFinal y
    → lines_before cs rs fs x ≡ lines_before ds ss gs y → (cs ≡ ds) × (rs ≡ ss) × (fs ≡ gs) × (x ≡ y)
one_before cs ds rs ss fs gs x y hc hd hr hs hf hg ncx ncy nrx nry nfx nfy e =
    let calls = one_section call_line IsLine one_line cs ds _ _ hc hd (no_call_in rs fs x ncx) (no_call_in ss gs y ncy) e in
    let refused = one_section refused_line IsRefusal one_refusal rs ss _ _ hr hs (no_refusal_in fs x nrx) (no_refusal_in gs y nry) calls.1 in
    let finals = one_section final_line IsLook one_final fs gs x y hf hg nfx nfy refused.1 in
    (calls.0, refused.0, finals.0, finals.1)

one_done : (a b c d : ℕ) (x y : List ℕ) → a < 2 ^ 32 → b < 2 ^ 32 → c < 2 ^ 32 → d < 2 ^ 32 → done_line a b ++ x ≡ done_line c d ++ y → (a ≡ c) × (b ≡ d) × (x ≡ y)
one_done a b c d x y ha hb hc hd e =
    let first = behind_count _ (codes "done ") a c (counted (codes " accepted ") b (codes " refused\n" ++ x)) (counted (codes " accepted ") d (codes " refused\n" ++ y)) ha hc refl refl refl
    (sym (done_flat a b x) ∙ e ∙ done_flat c d y) in
    let second = behind_count _ (codes " accepted ") b d (codes " refused\n" ++ x) (codes " refused\n" ++ y) hb hd refl refl refl first.1 in
    (first.0, second.0, append_cancel_left (codes " refused\n") x y second.1)

report_from : List CallLine → List Refused → List (List ℕ × Value) → ℕ → ℕ → Report
report_from calls refused finals accepted refusals = record { calls = calls; refused = refused; finals = finals; accepted = accepted; refusals = refusals }

same_report : (a b : Report) → a.calls ≡ b.calls → a.refused ≡ b.refused → a.finals ≡ b.finals → a.accepted ≡ b.accepted → a.refusals ≡ b.refusals → a ≡ b
unfolding report_from
same_report a b c r f n m =
    ap (λ x. report_from x a.refused a.finals a.accepted a.refusals) c ∙ ap (λ x. report_from b.calls x a.finals a.accepted a.refusals) r
    ∙ ap (λ x. report_from b.calls b.refused x a.accepted a.refusals) f ∙ ap (λ x. report_from b.calls b.refused b.finals x a.refusals) n
    ∙ ap (λ x. report_from b.calls b.refused b.finals b.accepted x) m

moved : (report : Report) (x : List ℕ) → printed report ++ x ≡ lines_before report.calls report.refused report.finals (done_line report.accepted report.refusals ++ x)
moved report x = all (flat_map call_line report.calls) (flat_map refused_line report.refused) (flat_map final_line report.finals) (done_line report.accepted report.refusals) x
  where
    all : (a b c d e : List ℕ) → (a ++ (b ++ (c ++ d))) ++ e ≡ a ++ (b ++ (c ++ (d ++ e)))
    all a b c d e = simp append_assoc

-- a text has one report in front
one_front : (a b : Report) (x y : List ℕ) → IsReport a → IsReport b → printed a ++ x ≡ printed b ++ y → (a ≡ b) × (x ≡ y)
one_front a b x y ha hb e =
    let parts = one_before a.calls b.calls a.refused b.refused a.finals b.finals (done_line a.accepted a.refusals ++ x) (done_line b.accepted b.refusals ++ y)
    ha.calls hb.calls ha.refused hb.refused ha.finals hb.finals
    (λ r f. no_call_by 100 _ (omega arith)) (λ r f. no_call_by 100 _ (omega arith)) (λ f. no_refusal_by 100 _ (omega arith)) (λ f. no_refusal_by 100 _ (omega arith)) (no_final_by 100 _ (omega arith)) (no_final_by 100 _ (omega arith))
    (sym (moved a x) ∙ e ∙ moved b y) in
    let last = one_done a.accepted a.refusals b.accepted b.refusals x y ha.accepted ha.refusals hb.accepted hb.refusals parts.3 in
    (same_report a b parts.0 parts.1 parts.2 last.0 last.1, last.2)

pub one_report : (a b : Report) → IsReport a → IsReport b → printed a ≡ printed b → a ≡ b
one_report a b ha hb e = (one_front a b [] [] ha hb (append-nil (printed a) ∙ e ∙ sym (append-nil (printed b)))).0

within_no_report : (report : Report) (bytes : List ℕ) (line : ℕ) → IsReport report → bytes ≡ printed report → StopsWithin bytes line → ⊥
within_no_report report bytes line is e stop =
    let parts = one_before report.calls stop.calls report.refused stop.refused report.finals stop.finals (done_line report.accepted report.refusals) stop.behind
    is.calls stop.are_calls is.refused stop.are_refused is.finals stop.are_finals
    (λ r f. no_call_by 100 _ (omega arith)) stop.no_call (λ f. no_refusal_by 100 _ (omega arith)) stop.no_refusal (no_final_by 100 _ (omega arith)) stop.no_final
    (sym e ∙ stop.text) in
    stop.no_done report.accepted report.refusals [] is.accepted is.refusals (sym parts.3 ∙ sym (append-nil (done_line report.accepted report.refusals)))

behind_no_report : (report : Report) (bytes : List ℕ) (line : ℕ) → IsReport report → bytes ≡ printed report → StopsBehind bytes line → ⊥
behind_no_report report bytes line is e stop =
    stop.more (sym (one_front report stop.report [] stop.behind is stop.is_report (append-nil (printed report) ∙ sym e ∙ stop.text)).1)

-- no report stops
pub whole_reports : (report : Report) (bytes : List ℕ) (line : ℕ) → IsReport report → bytes ≡ printed report → Stops bytes line → ⊥
whole_reports report bytes line is e stops = ⊎_elim (λ s. within_no_report report bytes line is e s) (λ s. behind_no_report report bytes line is e s) stops

-- ---- the report of a run is that of its data
pub run_is_data : (log : List Logged) (refused : List Refused) (names : List (List ℕ)) (finals : List Value) → report_of log refused names finals ≡ printed (data_of log refused names finals)
run_is_data log refused names finals = refl

-- ---- a report is read as its data
pub read_back : (report : Report) (bytes : List ℕ) (answer : Result Report ReportFault) → IsReport report → bytes ≡ printed report → IsReadAs bytes answer → answer ≢ Err Memory → answer ≡ Ok report
read_back report bytes (Ok other) is e right known = ap Ok (one_report other report right.1 is (sym right.0 ∙ e))
read_back report bytes (Err (Syntax line)) is e right known = absurd (whole_reports report bytes line is e right)
read_back report bytes (Err Memory) is e right known = absurd (known refl)
