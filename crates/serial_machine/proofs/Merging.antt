-- A run of scripts one after the other is a merge of them.
use Rattle.std.proofs.Common.{◌≡◌, ℕ, zero, suc, ◌+◌, ◌-◌, ◌<◌, ◌≤◌, min, Bool, true, false, cond, List, [], ◌∷◌, ◌++◌, length, take, Option, Some, None, refl, sym, ap, ◌∙◌, subst, arith, length-append, append_assoc, append-nil}
use Rattle.std.specs.Prelude.{◌==◌, is_none, slice_index, slice_index_or, count_by, All}
use Rattle.std.specs.List.Sorted.{IsStrictlyIncreasing}
use Rattle.std.proofs.lemmas.Bool.Decides.{eqb_tells}
use Rattle.std.proofs.lemmas.List.{length-take, length-map, map-append, take-map, take_min}
use Rattle.std.proofs.lemmas.List.Sums.{sum_by-cons}
use Rattle.std.proofs.lemmas.List.Elements.{filter-append, All-push}
use Rattle.script_tree.proofs.Numbers.{equal_to_itself}
use Rattle.signal_graph.specs.declared.call.Call.{Call}
use Rattle.signal_graph.specs.declared.log.Logged.{Logged}
use Rattle.signal_graph.specs.declared.log.Why.{Why}
use Rattle.signal_graph.specs.declared.log.Why.TheVariants.{UnknownName, VersionsUsedUp}
use Rattle.signal_graph.specs.declared.log.Refused.{Refused}
use Rattle.signal_graph.specs.Graph.{Graph}
use Rattle.signal_graph.specs.Machine.{misnamed}
use Rattle.call_log.specs.Made.{entries_of, calls_in, versions_in, well_named, count_well_named, script_of, IsPrefix}
use Rattle.call_log.specs.LeftOut.{why_not, left_behind, refusal, left_out_from, left_out_of}
use Rattle.call_log.specs.Merge.{IsOfCaller, AreVersions, Merge}
use Rattle.call_log.proofs.Prefixes.{as_many}
use Rattle.serial_machine.specs.SerialOrder.{made_in, made_by, serial_calls_from, serial_calls, CountsVersions}
use Rattle.serial_machine.specs.Progress.{Progress, entry_of, with_entry, all_called, all_run, nothing_yet}

-- so many numbers from one on
abbrev upto : ℕ → ℕ → List ℕ
upto from zero = []
upto from (suc n) = from ∷ upto (from + 1) n

upto_more : (from n : ℕ) → upto from (n + 1) ≡ upto from n ++ (from + n) ∷ []
upto_more from zero = let e : from ≡ from + 0 = omega arith in ap (λ v. v ∷ []) e
upto_more from (suc n) =
    let e : suc n + 1 ≡ suc (n + 1) = omega arith in
    let v : from + 1 + n ≡ from + suc n = omega arith in
    ap (upto from) e ∙ ap (λ vs. from ∷ vs) (upto_more (from + 1) n) ∙ ap (λ k. from ∷ (upto (from + 1) n ++ k ∷ [])) v

-- what calls of one caller do to a log
pub record Grown (caller : ℕ) (before after : List Logged) (made : List Call) : Type 0 where
  pub own : calls_in (entries_of caller after) ≡ calls_in (entries_of caller before) ++ made
  pub made_next : made_in after ≡ made_in before ++ made_by caller made
  pub others : (c : ℕ) → (c ≡ caller → ⊥) → entries_of c after ≡ entries_of c before
  pub size : length after ≡ length before + length made
  pub versions : versions_in before ≡ upto 1 (length before) → versions_in after ≡ upto 1 (length after)
  pub callers : (n : ℕ) → 1 ≤ caller → caller ≤ n → All (IsOfCaller n) before → All (IsOfCaller n) after

grown_by_none : (caller : ℕ) (log : List Logged) → Grown caller log log []
grown_by_none caller log = record {
  own = sym (append-nil (calls_in (entries_of caller log)));
  made_next = sym (append-nil (made_in log));
  others = λ c other. refl;
  size = omega arith;
  versions = λ h. h;
  callers = λ n low high h. h;
}

grown_by_one : (graph : Graph) (caller : ℕ) (call : Call) (log : List Logged) → Grown caller log (log ++ entry_of graph caller log call ∷ []) (call ∷ [])
grown_by_one graph caller call log =
    let entry = entry_of graph caller log call in
    record {
      own = ap calls_in (filter-append (λ (e : Logged). e.caller == caller) log (entry ∷ []) ∙ ap (λ b. entries_of caller log ++ cond b (entry ∷ []) []) (equal_to_itself caller))
          ∙ map-append (λ (e : Logged). e.call) (entries_of caller log) (entry ∷ []);
      made_next = map-append (λ (e : Logged). (e.caller, e.call)) log (entry ∷ []);
      others = λ c other. filter-append (λ (e : Logged). e.caller == c) log (entry ∷ []) ∙ ap (λ b. entries_of c log ++ cond b (entry ∷ []) []) (apart c other) ∙ append_none (entries_of c log);
      size = length-append log (entry ∷ []);
      versions = λ h. map-append (λ (e : Logged). e.version) log (entry ∷ []) ∙ ap (λ vs. vs ++ (length log + 1) ∷ []) h ∙ ap (λ v. upto 1 (length log) ++ v ∷ []) swapped ∙ sym (upto_more 1 (length log)) ∙ ap (upto 1) (sym (length-append log (entry ∷ [])));
      callers = λ n low high h. All-push (IsOfCaller n) log entry h (low, high);
    }
  where
    append_none : (xs : List Logged) → xs ++ [] ≡ xs
    append_none [] = refl
    append_none (x ∷ xs) = ap (λ ys. x ∷ ys) (append_none xs)

    apart : (c : ℕ) → (c ≡ caller → ⊥) → (caller == c) ≡ false
    apart c other = let ne : caller ≡ c → ⊥ = λ e. other (sym e) in grind (arith, eqb_tells)

    swapped : length log + 1 ≡ 1 + length log
    swapped = omega arith

grown_then : (caller : ℕ) (a b c : List Logged) (first second : List Call) → Grown caller a b first → Grown caller b c second → Grown caller a c (first ++ second)
grown_then caller a b c first second g h = record {
  own = h.own ∙ ap (λ cs. cs ++ second) g.own ∙ append_assoc (calls_in (entries_of caller a)) first second;
  made_next = h.made_next
      ∙ ap (λ ps. ps ++ made_by caller second) g.made_next
      ∙ append_assoc (made_in a) (made_by caller first) (made_by caller second)
      ∙ ap (λ ps. made_in a ++ ps) (sym (map-append (λ (c : Call). (caller, c)) first second));
  others = λ n other. h.others n other ∙ g.others n other;
  size = omega (arith, g.size, h.size, length-append first second);
  versions = λ v. h.versions (g.versions v);
  callers = λ n low high all. h.callers n low high (g.callers n low high all);
}

-- where a run stands after a call, for each cause against it
abbrev next : Graph → ℕ → ℕ → ℕ → Call → Progress → Option Why → Progress
next graph limit caller number call progress why = record {
  log = with_entry progress.log (entry_of graph caller progress.log call) why;
  refused = progress.refused ++ refusal caller number why;
}

abbrev no_call : List Call
no_call = []

take_none : (n : ℕ) → take n no_call ≡ no_call
take_none zero = refl
take_none (suc n) = refl

grown_case : (graph : Graph) (limit caller number : ℕ) (call : Call) (calls : List Call) (progress : Progress) (place : Option ℕ) (left : ℕ) → left ≡ limit - length progress.log → ((p : Progress) → Grown caller p.log (all_called graph limit caller (number + 1) calls p).log (take (limit - length p.log) (well_named graph calls))) → Grown caller progress.log (all_called graph limit caller (number + 1) calls (next graph limit caller number call progress (why_not limit left place))).log (take left (cond (is_none place) (call ∷ well_named graph calls) (well_named graph calls)))
grown_case graph limit caller number call calls progress (Some place) left e later =
    let p = next graph limit caller number call progress (Some (UnknownName place)) in
    subst (λ k. Grown caller progress.log (all_called graph limit caller (number + 1) calls p).log (take k (well_named graph calls))) (sym e) (later p)
grown_case graph limit caller number call calls progress None zero e later =
    let p = next graph limit caller number call progress (Some (VersionsUsedUp limit)) in
    subst (λ k. Grown caller progress.log (all_called graph limit caller (number + 1) calls p).log (take k (well_named graph calls))) (sym e) (later p)
grown_case graph limit caller number call calls progress None (suc left) e later =
    let p = next graph limit caller number call progress None in
    let rest : limit - length p.log ≡ left = omega (arith, length-append progress.log (entry_of graph caller progress.log call ∷ [])) in
    grown_then caller progress.log p.log (all_called graph limit caller (number + 1) calls p).log (call ∷ []) (take left (well_named graph calls))
    (grown_by_one graph caller call progress.log)
    (subst (λ k. Grown caller p.log (all_called graph limit caller (number + 1) calls p).log (take k (well_named graph calls))) rest (later p))

-- of a caller's well-named calls the first are made, as many as there are versions
pub grown_all : (graph : Graph) (limit caller number : ℕ) (calls : List Call) (progress : Progress) → Grown caller progress.log (all_called graph limit caller number calls progress).log (take (limit - length progress.log) (well_named graph calls))
grown_all graph limit caller number [] progress = subst (Grown caller progress.log progress.log) (sym (take_none (limit - length progress.log))) (grown_by_none caller progress.log)
grown_all graph limit caller number (call ∷ calls) progress =
    grown_case graph limit caller number call calls progress (misnamed graph call) (limit - length progress.log) refl (λ p. grown_all graph limit caller (number + 1) calls p)

refused_case : (graph : Graph) (limit caller number : ℕ) (call : Call) (calls : List Call) (progress : Progress) (place : Option ℕ) (left : ℕ) → left ≡ limit - length progress.log → ((p : Progress) → (all_called graph limit caller (number + 1) calls p).refused ≡ p.refused ++ left_out_from graph limit caller (number + 1) (limit - length p.log) calls) → (all_called graph limit caller (number + 1) calls (next graph limit caller number call progress (why_not limit left place))).refused ≡ progress.refused ++ (refusal caller number (why_not limit left place) ++ left_out_from graph limit caller (number + 1) (left_behind left place) calls)
refused_case graph limit caller number call calls progress (Some place) left e later =
    later (next graph limit caller number call progress (Some (UnknownName place)))
    ∙ append_assoc progress.refused (refusal caller number (Some (UnknownName place))) (left_out_from graph limit caller (number + 1) (limit - length progress.log) calls)
    ∙ ap (λ k. progress.refused ++ (refusal caller number (Some (UnknownName place)) ++ left_out_from graph limit caller (number + 1) k calls)) (sym e)
refused_case graph limit caller number call calls progress None zero e later =
    later (next graph limit caller number call progress (Some (VersionsUsedUp limit)))
    ∙ append_assoc progress.refused (refusal caller number (Some (VersionsUsedUp limit))) (left_out_from graph limit caller (number + 1) (limit - length progress.log) calls)
    ∙ ap (λ k. progress.refused ++ (refusal caller number (Some (VersionsUsedUp limit)) ++ left_out_from graph limit caller (number + 1) k calls)) (sym e)
refused_case graph limit caller number call calls progress None (suc left) e later =
    let p = next graph limit caller number call progress None in
    let rest : limit - length p.log ≡ suc left - 1 = omega (arith, length-append progress.log (entry_of graph caller progress.log call ∷ [])) in
    later p
    ∙ append_assoc progress.refused [] (left_out_from graph limit caller (number + 1) (limit - length p.log) calls)
    ∙ ap (λ k. progress.refused ++ left_out_from graph limit caller (number + 1) k calls) rest

refused_all : (graph : Graph) (limit caller number : ℕ) (calls : List Call) (progress : Progress) → (all_called graph limit caller number calls progress).refused ≡ progress.refused ++ left_out_from graph limit caller number (limit - length progress.log) calls
refused_all graph limit caller number [] progress = sym (append_none progress.refused)
  where
    append_none : (xs : List Refused) → xs ++ [] ≡ xs
    append_none [] = refl
    append_none (x ∷ xs) = ap (λ ys. x ∷ ys) (append_none xs)
refused_all graph limit caller number (call ∷ calls) progress =
    refused_case graph limit caller number call calls progress (misnamed graph call) (limit - length progress.log) refl (λ p. refused_all graph limit caller (number + 1) calls p)

left_case : (graph : Graph) (limit caller number : ℕ) (call : Call) (calls : List Call) (place : Option ℕ) (left : ℕ) → ((n : ℕ) → left_out_from graph limit caller (number + 1) n calls ≡ left_out_from graph limit caller (number + 1) (length (take n (well_named graph calls))) calls) → refusal caller number (why_not limit left place) ++ left_out_from graph limit caller (number + 1) (left_behind left place) calls ≡ refusal caller number (why_not limit (length (take left (cond (is_none place) (call ∷ well_named graph calls) (well_named graph calls)))) place) ++ left_out_from graph limit caller (number + 1) (left_behind (length (take left (cond (is_none place) (call ∷ well_named graph calls) (well_named graph calls)))) place) calls
left_case graph limit caller number call calls (Some place) left later = ap (λ rs. refusal caller number (Some (UnknownName place)) ++ rs) (later left)
left_case graph limit caller number call calls None zero later = refl
left_case graph limit caller number call calls None (suc left) later =
    let W = well_named graph calls in
    let here : suc left - 1 ≡ left = omega arith in
    let there : length (take left W) ≡ suc (length (take left W)) - 1 = omega arith in
    ap (λ k. left_out_from graph limit caller (number + 1) k calls) here ∙ later left ∙ ap (λ k. left_out_from graph limit caller (number + 1) k calls) there

-- it is enough to know how many of a caller's calls were made
left_made : (graph : Graph) (limit caller number left : ℕ) (calls : List Call) → left_out_from graph limit caller number left calls ≡ left_out_from graph limit caller number (length (take left (well_named graph calls))) calls
left_made graph limit caller number left [] = refl
left_made graph limit caller number left (call ∷ calls) = left_case graph limit caller number call calls (misnamed graph call) left (λ n. left_made graph limit caller (number + 1) n calls)

-- later callers leave an earlier one's entries as they are
run_keeps : (graph : Graph) (limit caller c : ℕ) (scripts : List (List Call)) (progress : Progress) → c < caller → entries_of c (all_run graph limit caller scripts progress).log ≡ entries_of c progress.log
run_keeps graph limit caller c [] progress h = refl
run_keeps graph limit caller c (calls ∷ scripts) progress h =
    run_keeps graph limit (caller + 1) c scripts (all_called graph limit caller 1 calls progress) (omega arith)
    ∙ (grown_all graph limit caller 1 calls progress).others c (λ e. omega arith)

-- the callers from a number on have no entry
abbrev Fresh : ℕ → List Logged → Type 0
Fresh caller log = (c : ℕ) → caller ≤ c → entries_of c log ≡ []

fresh_after : (graph : Graph) (limit caller : ℕ) (calls : List Call) (progress : Progress) → Fresh caller progress.log → Fresh (caller + 1) (all_called graph limit caller 1 calls progress).log
fresh_after graph limit caller calls progress fresh c above = (grown_all graph limit caller 1 calls progress).others c (λ e. omega arith) ∙ fresh c (omega arith)

own_made : (graph : Graph) (limit caller : ℕ) (calls : List Call) (scripts : List (List Call)) (progress : Progress) → Fresh caller progress.log → calls_in (entries_of caller (all_run graph limit (caller + 1) scripts (all_called graph limit caller 1 calls progress)).log) ≡ take (limit - length progress.log) (well_named graph calls)
own_made graph limit caller calls scripts progress fresh =
    ap calls_in (run_keeps graph limit (caller + 1) caller scripts (all_called graph limit caller 1 calls progress) (omega arith))
    ∙ (grown_all graph limit caller 1 calls progress).own
    ∙ ap (λ es. calls_in es ++ take (limit - length progress.log) (well_named graph calls)) (fresh caller (omega arith))

prefix_take : (n : ℕ) (calls : List Call) → IsPrefix (take n calls) calls
prefix_take n calls = sym (ap (λ k. take k calls) (length-take n calls) ∙ take_min n calls)

run_in_order : (graph : Graph) (limit caller : ℕ) (scripts : List (List Call)) (progress : Progress) → Fresh caller progress.log → (k : ℕ) → k < length scripts → IsPrefix (calls_in (entries_of (caller + k) (all_run graph limit caller scripts progress).log)) (well_named graph (script_of scripts k))
run_in_order graph limit caller [] progress fresh k h = absurd (omega arith)
run_in_order graph limit caller (calls ∷ scripts) progress fresh zero h =
    let e : caller ≡ caller + 0 = omega arith in
    subst (λ c. IsPrefix (calls_in (entries_of c (all_run graph limit caller (calls ∷ scripts) progress).log)) (well_named graph calls)) e
    (subst (λ cs. IsPrefix cs (well_named graph calls)) (sym (own_made graph limit caller calls scripts progress fresh)) (prefix_take (limit - length progress.log) (well_named graph calls)))
run_in_order graph limit caller (calls ∷ scripts) progress fresh (suc k) h =
    let e : caller + 1 + k ≡ caller + suc k = omega arith in
    subst (λ c. IsPrefix (calls_in (entries_of c (all_run graph limit caller (calls ∷ scripts) progress).log)) (well_named graph (script_of scripts k))) e
    (run_in_order graph limit (caller + 1) scripts (all_called graph limit caller 1 calls progress) (fresh_after graph limit caller calls progress fresh) k (omega arith))

pub run_size : (graph : Graph) (limit caller : ℕ) (scripts : List (List Call)) (progress : Progress) → length (all_run graph limit caller scripts progress).log ≡ length progress.log + min (limit - length progress.log) (count_well_named graph scripts)
run_size graph limit caller [] progress = omega arith
run_size graph limit caller (calls ∷ scripts) progress =
    let first = (grown_all graph limit caller 1 calls progress).size in
    let later = run_size graph limit (caller + 1) scripts (all_called graph limit caller 1 calls progress) in
    omega (arith, first, later, length-take (limit - length progress.log) (well_named graph calls), sum_by-cons (λ (cs : List Call). length (well_named graph cs)) calls scripts)

run_callers : (graph : Graph) (limit caller n : ℕ) (scripts : List (List Call)) (progress : Progress) → 1 ≤ caller → caller + length scripts ≤ n + 1 → All (IsOfCaller n) progress.log → All (IsOfCaller n) (all_run graph limit caller scripts progress).log
run_callers graph limit caller n [] progress low high h = h
run_callers graph limit caller n (calls ∷ scripts) progress low high h =
    run_callers graph limit (caller + 1) n scripts (all_called graph limit caller 1 calls progress) (omega arith) (omega arith)
    ((grown_all graph limit caller 1 calls progress).callers n low (omega arith) h)

take_parts : (n : ℕ) (xs ys : List (ℕ × Call)) → take n (xs ++ ys) ≡ take n xs ++ take (n - length xs) ys
take_parts zero xs ys = let e : 0 ≡ 0 - length xs = omega arith in ap (λ k. take k ys) e
take_parts (suc n) [] ys = let e : suc n ≡ suc n - 0 = omega arith in ap (λ k. take k ys) e
take_parts (suc n) (x ∷ xs) ys =
    let e : n - length xs ≡ suc n - suc (length xs) = omega arith in
    ap (λ zs. x ∷ zs) (take_parts n xs ys) ∙ ap (λ k. x ∷ (take n xs ++ take k ys)) e

-- a run makes the first of all callers' well-named calls laid end to end, as many as there are versions left
run_made : (graph : Graph) (limit caller : ℕ) (scripts : List (List Call)) (progress : Progress) → made_in (all_run graph limit caller scripts progress).log ≡ made_in progress.log ++ take (limit - length progress.log) (serial_calls_from graph caller scripts)
run_made graph limit caller [] progress = nothing (limit - length progress.log)
  where
    append_none : (xs : List (ℕ × Call)) → xs ≡ xs ++ []
    append_none [] = refl
    append_none (x ∷ xs) = ap (λ ys. x ∷ ys) (append_none xs)

    nothing : (n : ℕ) → made_in progress.log ≡ made_in progress.log ++ take n (serial_calls_from graph caller [])
    nothing zero = append_none (made_in progress.log)
    nothing (suc n) = append_none (made_in progress.log)
run_made graph limit caller (calls ∷ scripts) progress =
    let left = limit - length progress.log in
    let W = well_named graph calls in
    let p = all_called graph limit caller 1 calls progress in
    let later = serial_calls_from graph (caller + 1) scripts in
    let grown = grown_all graph limit caller 1 calls progress in
    let rest : limit - length p.log ≡ left - length (made_by caller W) = omega (arith, grown.size, length-take left W, length-map {B = ℕ × Call} W (λ (c : Call). (caller, c))) in
    run_made graph limit (caller + 1) scripts p
    ∙ ap (λ ps. ps ++ take (limit - length p.log) later) grown.made_next
    ∙ append_assoc (made_in progress.log) (made_by caller (take left W)) (take (limit - length p.log) later)
    ∙ ap (λ ps. made_in progress.log ++ (ps ++ take (limit - length p.log) later)) (sym (take-map (λ (c : Call). (caller, c)) left W))
    ∙ ap (λ k. made_in progress.log ++ (take left (made_by caller W) ++ take k later)) rest
    ∙ ap (λ ps. made_in progress.log ++ ps) (sym (take_parts left (made_by caller W) later))

-- a run makes the first of all callers' well-named calls, in the order of the callers
pub run_makes_first : (graph : Graph) (limit : ℕ) (scripts : List (List Call)) → made_in (all_run graph limit 1 scripts nothing_yet).log ≡ take limit (serial_calls graph scripts)
run_makes_first graph limit scripts =
    let e : limit - 0 ≡ limit = omega arith in
    run_made graph limit 1 scripts nothing_yet ∙ ap (λ k. take k (serial_calls graph scripts)) e

run_versions : (graph : Graph) (limit caller : ℕ) (scripts : List (List Call)) (progress : Progress) → versions_in progress.log ≡ upto 1 (length progress.log) → versions_in (all_run graph limit caller scripts progress).log ≡ upto 1 (length (all_run graph limit caller scripts progress).log)
run_versions graph limit caller [] progress h = h
run_versions graph limit caller (calls ∷ scripts) progress h =
    run_versions graph limit (caller + 1) scripts (all_called graph limit caller 1 calls progress) ((grown_all graph limit caller 1 calls progress).versions h)

run_refused : (graph : Graph) (limit caller : ℕ) (scripts : List (List Call)) (progress : Progress) → Fresh caller progress.log → (all_run graph limit caller scripts progress).refused ≡ progress.refused ++ left_out_of graph limit (all_run graph limit caller scripts progress).log caller scripts
run_refused graph limit caller [] progress fresh = sym (append_none progress.refused)
  where
    append_none : (xs : List Refused) → xs ++ [] ≡ xs
    append_none [] = refl
    append_none (x ∷ xs) = ap (λ ys. x ∷ ys) (append_none xs)
run_refused graph limit caller (calls ∷ scripts) progress fresh =
    let p = all_called graph limit caller 1 calls progress in
    let log = (all_run graph limit (caller + 1) scripts p).log in
    let rest = left_out_of graph limit log (caller + 1) scripts in
    let count : length (take (limit - length progress.log) (well_named graph calls)) ≡ length (entries_of caller log) = sym (ap length (own_made graph limit caller calls scripts progress fresh)) ∙ as_many (entries_of caller log) in
    run_refused graph limit (caller + 1) scripts p (fresh_after graph limit caller calls progress fresh)
    ∙ ap (λ rs. rs ++ rest) (refused_all graph limit caller 1 calls progress)
    ∙ ap (λ rs. (progress.refused ++ rs) ++ rest) (left_made graph limit caller 1 (limit - length progress.log) calls)
    ∙ ap (λ n. (progress.refused ++ left_out_from graph limit caller 1 n calls) ++ rest) count
    ∙ append_assoc progress.refused (left_out_from graph limit caller 1 (length (entries_of caller log)) calls) rest

-- numbers that rise from one on
abbrev RisesFrom : ℕ → List ℕ → Type 0
RisesFrom from [] = Unit {0}
RisesFrom from (v ∷ vs) = (from ≤ v) × RisesFrom (v + 1) vs

rises_lower : (low from : ℕ) (vs : List ℕ) → low ≤ from → RisesFrom from vs → RisesFrom low vs
rises_lower low from [] h r = tt
rises_lower low from (v ∷ vs) h r = let first = r.0 in (omega arith, r.1)

rises : (from : ℕ) (vs : List ℕ) → RisesFrom from vs → IsStrictlyIncreasing vs
rises from [] r k h = absurd (omega arith)
rises from (v ∷ []) r k h = absurd (omega arith)
rises from (v ∷ (w ∷ vs)) r zero h = let second = r.1.0 in omega arith
rises from (v ∷ (w ∷ vs)) r (suc k) h =
    let e : suc (k + 1) ≡ suc k + 1 = omega arith in
    subst (λ i. slice_index (w ∷ vs) k < slice_index (v ∷ (w ∷ vs)) i) e (rises (v + 1) (w ∷ vs) r.1 k (omega arith))

first_version : (from : ℕ) (entry : Logged) (log : List Logged) → versions_in (entry ∷ log) ≡ upto from (length (entry ∷ log)) → entry.version ≡ from
first_version from entry log h = cc

other_versions : (from : ℕ) (entry : Logged) (log : List Logged) → versions_in (entry ∷ log) ≡ upto from (length (entry ∷ log)) → versions_in log ≡ upto (from + 1) (length log)
other_versions from entry log h = cc

entries_rise : (caller from : ℕ) (log : List Logged) → versions_in log ≡ upto from (length log) → RisesFrom from (versions_in (entries_of caller log))
entries_rise caller from [] h = tt
entries_rise caller from (entry ∷ log) h =
    cases (entry.caller == caller) (first_version from entry log h) (entries_rise caller (from + 1) log (other_versions from entry log h))
  where
    cases : (b : Bool) → entry.version ≡ from → RisesFrom (from + 1) (versions_in (entries_of caller log)) → RisesFrom from (versions_in (cond b (entry ∷ entries_of caller log) (entries_of caller log)))
    cases true e later = (omega arith, subst (λ v. RisesFrom (v + 1) (versions_in (entries_of caller log))) (sym e) later)
    cases false e later = rises_lower from (from + 1) (versions_in (entries_of caller log)) (omega arith) later

-- a number below all versions is none of them
none_below : (from v : ℕ) (log : List Logged) → versions_in log ≡ upto from (length log) → v < from → count_by (λ (e : Logged). e.version == v) log ≡ 0
none_below from v [] h low = refl
none_below from v (entry ∷ log) h low =
    let first = first_version from entry log h in
    let later = none_below (from + 1) v log (other_versions from entry log h) (omega arith) in
    let other : (entry.version == v) ≡ false = grind (arith, eqb_tells, first) in
    sum_by-cons (λ (e : Logged). cond (e.version == v) 1 0) entry log
    ∙ ap (λ b. cond b 1 0 + count_by (λ (e : Logged). e.version == v) log) other ∙ (let e : 0 + count_by (λ (e : Logged). e.version == v) log ≡ 0 = omega (arith, later) in e)

once : (from v : ℕ) (log : List Logged) → versions_in log ≡ upto from (length log) → from ≤ v → v < from + length log → count_by (λ (e : Logged). e.version == v) log ≡ 1
once from v [] h low high = absurd (omega arith)
once from v (entry ∷ log) h low high =
    sum_by-cons (λ (e : Logged). cond (e.version == v) 1 0) entry log
    ∙ cases (entry.version == v) refl (first_version from entry log h) (none_below (from + 1) v log (other_versions from entry log h)) (λ above. once (from + 1) v log (other_versions from entry log h) above (omega arith))
  where
    cases : (b : Bool) → (entry.version == v) ≡ b → entry.version ≡ from → (v < from + 1 → count_by (λ (e : Logged). e.version == v) log ≡ 0) → (from + 1 ≤ v → count_by (λ (e : Logged). e.version == v) log ≡ 1) → cond b 1 0 + count_by (λ (e : Logged). e.version == v) log ≡ 1
    cases true here first below above =
        let e : entry.version ≡ v = grind (arith, eqb_tells, here) in
        let none = below (omega arith) in
        omega (arith, none)
    cases false there first below above =
        let ne : entry.version ≡ v → ⊥ = λ i. grind (arith, eqb_tells, there) in
        let more : from + 1 ≤ v = grind arith in
        let one = above more in
        omega (arith, one)

are_versions : (log : List Logged) → versions_in log ≡ upto 1 (length log) → AreVersions log
are_versions log h = record {
  each_once = λ v low high. once 1 v log h low (omega arith);
  rising = λ caller. rises 1 (versions_in (entries_of caller log)) (entries_rise caller 1 log h);
}

none_yet : versions_in nothing_yet.log ≡ upto 1 (length nothing_yet.log)
none_yet = refl

version_at : (from : ℕ) (log : List Logged) → versions_in log ≡ upto from (length log) → (k : ℕ) (d : Logged) → k < length log → (slice_index_or log k d).version ≡ from + k
version_at from [] h k d within = absurd (omega arith)
version_at from (entry ∷ log) h zero d within = let first = first_version from entry log h in omega (arith, first)
version_at from (entry ∷ log) h (suc k) d within =
    let later = version_at (from + 1) log (other_versions from entry log h) k d (omega arith) in
    omega (arith, later)

-- the versions of a run count from 1
pub run_counts_versions : (graph : Graph) (limit : ℕ) (scripts : List (List Call)) → CountsVersions (all_run graph limit 1 scripts nothing_yet).log
run_counts_versions graph limit scripts k d within =
    let log = (all_run graph limit 1 scripts nothing_yet).log in
    let here = version_at 1 log (run_versions graph limit 1 scripts nothing_yet none_yet) k d within in
    omega (arith, here)

-- a run of scripts one after the other is a merge of them
pub run_is_merge : (graph : Graph) (limit : ℕ) (scripts : List (List Call)) → Merge graph scripts limit (all_run graph limit 1 scripts nothing_yet).log (all_run graph limit 1 scripts nothing_yet).refused
run_is_merge graph limit scripts =
    let size = run_size graph limit 1 scripts nothing_yet in
    record {
      callers = run_callers graph limit 1 (length scripts) scripts nothing_yet (omega arith) (omega arith) (λ k d h. absurd (omega arith));
      in_order = λ k h. let e : 1 + k ≡ k + 1 = omega arith in subst (λ c. IsPrefix (calls_in (entries_of c (all_run graph limit 1 scripts nothing_yet).log)) (well_named graph (script_of scripts k))) e (run_in_order graph limit 1 scripts nothing_yet (λ c h. refl) k h);
      all_made = λ few. omega (arith, size);
      used_up = λ many. omega (arith, size);
      versions = are_versions (all_run graph limit 1 scripts nothing_yet).log (run_versions graph limit 1 scripts nothing_yet none_yet);
      rest = run_refused graph limit 1 scripts nothing_yet (λ c h. refl);
    }
