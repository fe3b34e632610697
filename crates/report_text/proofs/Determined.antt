-- A report and the deck determine the run.
use Rattle.std.proofs.Common.{◌≡◌, ℕ, suc, ◌+◌, ◌<◌, ◌≤◌, ◌-◌, true, false, List, [], ◌∷◌, length, map, cond, refl, sym, ap, subst, ◌∙◌, arith, ⊎_elim}
use Rattle.std.specs.Prelude.{take, ◌==◌, All}
use Rattle.std.specs.List.{zip}
use Rattle.std.proofs.lemmas.List.{length-map}
use Rattle.std.proofs.lemmas.Bool.Decides.{eqb_tells}
use Rattle.std.proofs.lemmas.List.Elements.{All-head, All-tail}
use Rattle.script_tree.specs.declared.value.Value.{Value}
use Rattle.script_tree.proofs.Lists.{same_first, same_rest}
use Rattle.signal_graph.specs.declared.call.Call.{Call}
use Rattle.signal_graph.specs.declared.call.Reply.{Reply}
use Rattle.signal_graph.specs.declared.log.Logged.{Logged}
use Rattle.signal_graph.specs.declared.log.Refused.{Refused}
use Rattle.signal_graph.specs.Graph.{Graph}
use Rattle.call_log.specs.Made.{entries_of, calls_in, well_named, script_of, IsPrefix}
use Rattle.call_log.specs.Merge.{IsOfCaller, Merge}
use Rattle.report_text.specs.declared.data.CallLine.{CallLine}
use Rattle.report_text.specs.declared.data.Report.{Report}
use Rattle.report_text.specs.Report.{line_of}
use Rattle.report_text.specs.Printed.{data_of}
use Rattle.report_text.specs.Runs.{Run, IsRun, text_of}
use Rattle.report_text.proofs.OneReport.{one_report, one_zip, run_is_data}

-- ---- the calls of one caller

own_first : (caller : ℕ) (entry : Logged) (log : List Logged) → (entry.caller == caller) ≡ true → entries_of caller (entry ∷ log) ≡ entry ∷ entries_of caller log
own_first caller entry log h = ap (λ b. cond b (entry ∷ entries_of caller log) (entries_of caller log)) h

not_own : (caller : ℕ) (entry : Logged) (log : List Logged) → (entry.caller == caller) ≡ false → entries_of caller (entry ∷ log) ≡ entries_of caller log
not_own caller entry log h = ap (λ b. cond b (entry ∷ entries_of caller log) (entries_of caller log)) h

-- logs with the same lines have as many entries of each caller
as_many : (caller : ℕ) (a b : List Logged) → map line_of a ≡ map line_of b → length (entries_of caller a) ≡ length (entries_of caller b)
as_many caller [] [] e = refl
as_many caller [] (y ∷ ys) e = absurd (omega (arith, ap length e))
as_many caller (x ∷ xs) [] e = absurd (omega (arith, ap length e))
as_many caller (x ∷ xs) (y ∷ ys) e =
    let more = as_many caller xs ys (same_rest (line_of x) (line_of y) (map line_of xs) (map line_of ys) e) in
    let callers : x.caller ≡ y.caller = ap (λ (line : CallLine). line.caller) (same_first (line_of x) (line_of y) (map line_of xs) (map line_of ys) e) in
    ⊎_elim
    (λ t. ap length (own_first caller x xs t.0) ∙ ap suc more ∙ sym (ap length (own_first caller y ys (ap (λ c. c == caller) (sym callers) ∙ t.0))))
    (λ t. ap length (not_own caller x xs t.0) ∙ more ∙ sym (ap length (not_own caller y ys (ap (λ c. c == caller) (sym callers) ∙ t.0))))
    (eqb_tells x.caller caller)

-- a beginning of a list is determined by its length
same_prefix : (a b whole : List Call) → length a ≡ length b → IsPrefix a whole → IsPrefix b whole → a ≡ b
same_prefix a b whole e h k = h ∙ ap (λ n. take n whole) e ∙ sym k

-- merges of the same scripts with the same lines have the same calls of each caller
same_calls : (graph : Graph) (scripts : List (List Call)) (limit other : ℕ) (a b : List Logged) (refused rest : List Refused) → Merge graph scripts limit a refused → Merge graph scripts other b rest
    → map line_of a ≡ map line_of b → (caller : ℕ) → 1 ≤ caller → caller ≤ length scripts → calls_in (entries_of caller a) ≡ calls_in (entries_of caller b)
same_calls graph scripts limit other a b refused rest m n lines caller low high =
    let k = caller - 1 in
    let at : k + 1 ≡ caller = omega (arith, low) in
    let within : k < length scripts = omega (arith, low, high) in
    let same : calls_in (entries_of (k + 1) a) ≡ calls_in (entries_of (k + 1) b) =
    same_prefix (calls_in (entries_of (k + 1) a)) (calls_in (entries_of (k + 1) b)) (well_named graph (script_of scripts k))
    (length-map (entries_of (k + 1) a) (λ entry. entry.call) ∙ as_many (k + 1) a b lines ∙ sym (length-map (entries_of (k + 1) b) (λ entry. entry.call)))
    (m.in_order k within) (n.in_order k within) in
    subst (λ c. calls_in (entries_of c a) ≡ calls_in (entries_of c b)) at same

-- ---- whole logs

entry_from : ℕ → ℕ → Call → Reply → Logged
entry_from caller version call reply = record { caller = caller; version = version; call = call; reply = reply }

same_entry : (a b : Logged) → line_of a ≡ line_of b → a.call ≡ b.call → a ≡ b
unfolding entry_from
same_entry a b line call =
    ap (λ x. entry_from x a.version a.call a.reply) (ap (λ (l : CallLine). l.caller) line) ∙ ap (λ x. entry_from b.caller x a.call a.reply) (ap (λ (l : CallLine). l.version) line)
    ∙ ap (λ x. entry_from b.caller b.version x a.reply) call ∙ ap (λ x. entry_from b.caller b.version b.call x) (ap (λ (l : CallLine). l.reply) line)

-- logs have the same calls of each of so many callers
abbrev SameCalls : ℕ → List Logged → List Logged → Type 0
SameCalls callers a b = (caller : ℕ) → 1 ≤ caller → caller ≤ callers → calls_in (entries_of caller a) ≡ calls_in (entries_of caller b)

first_call : (callers : ℕ) (x y : Logged) (xs ys : List Logged) → IsOfCaller callers x → x.caller ≡ y.caller → SameCalls callers (x ∷ xs) (y ∷ ys) → x.call ≡ y.call
first_call callers x y xs ys is e same =
    ⊎_elim
    (λ t. ⊎_elim
    (λ u. same_first x.call y.call (calls_in (entries_of x.caller xs)) (calls_in (entries_of x.caller ys))
    (sym (ap calls_in (own_first x.caller x xs t.0)) ∙ same x.caller is.0 is.1 ∙ ap calls_in (own_first x.caller y ys u.0)))
    (λ u. absurd (u.1 (sym e)))
    (eqb_tells y.caller x.caller))
    (λ t. absurd (t.1 refl))
    (eqb_tells x.caller x.caller)

rest_calls : (callers : ℕ) (x y : Logged) (xs ys : List Logged) → x.caller ≡ y.caller → SameCalls callers (x ∷ xs) (y ∷ ys) → SameCalls callers xs ys
rest_calls callers x y xs ys e same = λ caller low high.
    let all = same caller low high in
    ⊎_elim
    (λ t. same_rest x.call y.call (calls_in (entries_of caller xs)) (calls_in (entries_of caller ys))
    (sym (ap calls_in (own_first caller x xs t.0)) ∙ all ∙ ap calls_in (own_first caller y ys (ap (λ c. c == caller) (sym e) ∙ t.0))))
    (λ t. sym (ap calls_in (not_own caller x xs t.0)) ∙ all ∙ ap calls_in (not_own caller y ys (ap (λ c. c == caller) (sym e) ∙ t.0)))
    (eqb_tells x.caller caller)

same_log : (callers : ℕ) (a b : List Logged) → All (IsOfCaller callers) a → map line_of a ≡ map line_of b → SameCalls callers a b → a ≡ b
same_log callers [] [] is e same = refl
same_log callers [] (y ∷ ys) is e same = absurd (omega (arith, ap length e))
same_log callers (x ∷ xs) [] is e same = absurd (omega (arith, ap length e))
same_log callers (x ∷ xs) (y ∷ ys) is e same =
    let line = same_first (line_of x) (line_of y) (map line_of xs) (map line_of ys) e in
    let caller : x.caller ≡ y.caller = ap (λ (l : CallLine). l.caller) line in
    let entry = same_entry x y line (first_call callers x y xs ys (All-head (IsOfCaller callers) x xs is) caller same) in
    let rest = same_log callers xs ys (All-tail (IsOfCaller callers) x xs is) (same_rest (line_of x) (line_of y) (map line_of xs) (map line_of ys) e) (rest_calls callers x y xs ys caller same) in
    rw entry (ap (λ l. y ∷ l) rest)

-- ---- runs

run_from : List Logged → List Refused → List Value → Run
run_from log refused finals = record { log = log; refused = refused; finals = finals }

same_run : (a b : Run) → a.log ≡ b.log → a.refused ≡ b.refused → a.finals ≡ b.finals → a ≡ b
unfolding run_from
same_run a b l r f = ap (λ x. run_from x a.refused a.finals) l ∙ ap (λ x. run_from b.log x a.finals) r ∙ ap (λ x. run_from b.log b.refused x) f

-- runs of the same scripts with the same lines, refusals and last values are one
pub one_run : (graph : Graph) (scripts : List (List Call)) (limit other : ℕ) (a b : Run) → IsRun graph scripts limit a → IsRun graph scripts other b
    → map line_of a.log ≡ map line_of b.log → a.refused ≡ b.refused → zip graph.names a.finals ≡ zip graph.names b.finals → a ≡ b
one_run graph scripts limit other a b is too lines refused finals =
    same_run a b
    (same_log (length scripts) a.log b.log is.merge.callers lines (same_calls graph scripts limit other a.log b.log a.refused b.refused is.merge too.merge lines))
    refused
    (one_zip graph.names graph.names a.finals b.finals is.one_each too.one_each finals).1

pub one_run_by_text : (graph : Graph) (scripts : List (List Call)) (limit other : ℕ) (a b : Run) → IsRun graph scripts limit a → IsRun graph scripts other b
    → text_of graph a ≡ text_of graph b → a ≡ b
one_run_by_text graph scripts limit other a b is too e =
    let both = one_report (data_of a.log a.refused graph.names a.finals) (data_of b.log b.refused graph.names b.finals) is.fits too.fits
    (sym (run_is_data a.log a.refused graph.names a.finals) ∙ e ∙ run_is_data b.log b.refused graph.names b.finals) in
    one_run graph scripts limit other a b is too (ap (λ (r : Report). r.calls) both) (ap (λ (r : Report). r.refused) both) (ap (λ (r : Report). r.finals) both)
