-- A run that takes its scripts: the room of its log, and what is left of lists whose items move.
use Rattle.std.proofs.Common.{◌≡◌, ℕ, suc, ◌+◌, ◌-◌, ◌<◌, ◌≤◌, min, Bool, true, false, cond, List, [], ◌∷◌, length, drop, get_or, Option, Some, None, sym, ap, ◌∙◌, subst, arith, length-append}
use Rattle.std.specs.Prelude.{sum_by}
use Rattle.std.proofs.lemmas.List.{drop_more}
use Rattle.std.proofs.lemmas.List.Sums.{sum_by-cons}
use Rattle.signal_graph.specs.declared.call.Call.{Call}
use Rattle.signal_graph.specs.declared.log.Logged.{Logged}
use Rattle.signal_graph.specs.declared.log.Why.{Why}
use Rattle.signal_graph.specs.Graph.{Graph}
use Rattle.call_log.specs.Made.{is_well_named, well_named, count_well_named}
use Rattle.serial_machine.specs.Progress.{Progress, with_entry, called, all_called, all_run, nothing_yet}
use Rattle.serial_machine.proofs.Merging.{grown_all, run_size}

-- where there is room for the log with an entry, there is room for the entry
pub fits_one_more : (log : List Logged) (entry : Logged) (why : Option Why) (capacity : ℕ) → why ≡ None → length (with_entry log entry why) ≤ capacity → length log < capacity
fits_one_more log entry None capacity none h = omega (arith, h, length-append log (entry ∷ []))
fits_one_more log entry (Some why) capacity none h = absurd (cc)

-- calls make a log no shorter
pub grows_all : (graph : Graph) (limit caller number : ℕ) (calls : List Call) (progress : Progress) → length progress.log ≤ length (all_called graph limit caller number calls progress).log
grows_all graph limit caller number calls progress = let size = (grown_all graph limit caller number calls progress).size in omega (arith, size)

pub grows_run : (graph : Graph) (limit caller : ℕ) (scripts : List (List Call)) (progress : Progress) → length progress.log ≤ length (all_run graph limit caller scripts progress).log
grows_run graph limit caller scripts progress = let size = run_size graph limit caller scripts progress in omega (arith, size)

-- a whole run's log has as many entries as there are well-named calls, up to the limit
pub whole_size : (graph : Graph) (limit : ℕ) (scripts : List (List Call)) → length (all_run graph limit 1 scripts nothing_yet).log ≡ min limit (count_well_named graph scripts)
whole_size graph limit scripts = let size = run_size graph limit 1 scripts nothing_yet in omega (arith, size)

named_cond : (b : Bool) (call : Call) (calls : List Call) (n : ℕ) → length calls ≤ n → length (cond b (call ∷ calls) calls) ≤ suc n
named_cond true call calls n h = omega arith
named_cond false call calls n h = omega arith

few_named : (graph : Graph) (calls : List Call) → length (well_named graph calls) ≤ length calls
few_named graph [] = omega arith
few_named graph (call ∷ calls) = named_cond (is_well_named graph call) call (well_named graph calls) (length calls) (few_named graph calls)

-- no more calls are well-named than there are
pub few_of_all : (graph : Graph) (scripts : List (List Call)) → count_well_named graph scripts ≤ sum_by length scripts
few_of_all graph [] = omega arith
few_of_all graph (calls ∷ scripts) =
    let named = sum_by-cons (λ (cs : List Call). length (well_named graph cs)) calls scripts in
    let all = sum_by-cons (λ (cs : List Call). length cs) calls scripts in
    let one = few_named graph calls in
    let rest = few_of_all graph scripts in
    omega (arith, named, all, one, rest)

-- the calls of the callers from an index on
pub next_count : (scripts : List (List Call)) (i : ℕ) (d : List Call) → i < length scripts → sum_by length (drop i scripts) ≡ length (get_or scripts i d) + sum_by length (drop (i + 1) scripts)
next_count scripts i d within = ap (sum_by length) (drop_more scripts i d within) ∙ sum_by-cons (λ (cs : List Call). length cs) (get_or scripts i d) (drop (i + 1) scripts)

le_through : (a b c d e : ℕ) → a ≤ b → b ≡ c → c ≤ d → e ≡ d → a ≤ e
le_through a b c d e below same room kept = omega arith

-- where a log has room for all calls of a caller, it has room for the next
pub room_for_next : (graph graph_now : Graph) (limit limit_now caller n : ℕ) (call : Call) (rest items calls : List Call) (progress first : Progress) (capacity capacity_now : ℕ) → graph_now ≡ graph → limit_now ≡ limit → capacity_now ≡ capacity → items ≡ call ∷ rest → all_called graph limit caller (n + 1) items progress ≡ all_called graph limit caller 1 calls first → length (all_called graph limit caller 1 calls first).log ≤ capacity → length (called graph_now limit_now caller (n + 1) call progress).log ≤ capacity_now
room_for_next graph graph_now limit limit_now caller n call rest items calls progress first capacity capacity_now g l c steps whole room =
    let moved = called graph limit caller (n + 1) call progress in
    let fits : length moved.log ≤ capacity_now = le_through (length moved.log) (length (all_called graph limit caller (n + 1 + 1) rest moved).log) (length (all_called graph limit caller 1 calls first).log) capacity capacity_now
    (grows_all graph limit caller (n + 1 + 1) rest moved)
    (ap (λ (p : Progress). length p.log) (ap (λ cs. all_called graph limit caller (n + 1) cs progress) (sym steps) ∙ whole))
    room c in
    subst (λ gr. length (called gr limit_now caller (n + 1) call progress).log ≤ capacity_now) (sym g)
    (subst (λ li. length (called graph li caller (n + 1) call progress).log ≤ capacity_now) (sym l) fits)

-- where the next call of a caller is made or refused, the others are left
pub moved_next : (graph graph_now : Graph) (limit limit_now caller n : ℕ) (call : Call) (rest items calls : List Call) (progress after first : Progress) → graph_now ≡ graph → limit_now ≡ limit → items ≡ call ∷ rest → after ≡ called graph_now limit_now caller (n + 1) call progress → all_called graph limit caller (n + 1) items progress ≡ all_called graph limit caller 1 calls first → all_called graph limit caller (n + 1 + 1) rest after ≡ all_called graph limit caller 1 calls first
moved_next graph graph_now limit limit_now caller n call rest items calls progress after first g l steps moved whole =
    ap (all_called graph limit caller (n + 1 + 1) rest) (moved ∙ ap (λ gr. called gr limit_now caller (n + 1) call progress) g ∙ ap (λ li. called graph li caller (n + 1) call progress) l)
    ∙ ap (λ cs. all_called graph limit caller (n + 1) cs progress) (sym steps)
    ∙ whole

-- where a log has room for all callers' calls, it has room for those of the next
pub room_for_caller : (graph graph_now : Graph) (limit limit_now n : ℕ) (calls : List Call) (rest items scripts : List (List Call)) (progress : Progress) (capacity capacity_now : ℕ) → graph_now ≡ graph → limit_now ≡ limit → capacity_now ≡ capacity → items ≡ calls ∷ rest → all_run graph limit (n + 1) items progress ≡ all_run graph limit 1 scripts nothing_yet → min limit (count_well_named graph scripts) ≤ capacity → length (all_called graph_now limit_now (n + 1) 1 calls progress).log ≤ capacity_now
room_for_caller graph graph_now limit limit_now n calls rest items scripts progress capacity capacity_now g l c steps whole count =
    let moved = all_called graph limit (n + 1) 1 calls progress in
    let size = whole_size graph limit scripts in
    let room : length (all_run graph limit 1 scripts nothing_yet).log ≤ capacity = omega (arith, size, count) in
    let fits : length moved.log ≤ capacity_now = le_through (length moved.log) (length (all_run graph limit (n + 1 + 1) rest moved).log) (length (all_run graph limit 1 scripts nothing_yet).log) capacity capacity_now
    (grows_run graph limit (n + 1 + 1) rest moved)
    (ap (λ (p : Progress). length p.log) (ap (λ cs. all_run graph limit (n + 1) cs progress) (sym steps) ∙ whole))
    room c in
    subst (λ gr. length (all_called gr limit_now (n + 1) 1 calls progress).log ≤ capacity_now) (sym g)
    (subst (λ li. length (all_called graph li (n + 1) 1 calls progress).log ≤ capacity_now) (sym l) fits)

-- where a caller has run, the others are left
pub moved_caller : (graph graph_now : Graph) (limit limit_now n : ℕ) (calls : List Call) (rest items scripts : List (List Call)) (progress after : Progress) → graph_now ≡ graph → limit_now ≡ limit → items ≡ calls ∷ rest → after ≡ all_called graph_now limit_now (n + 1) 1 calls progress → all_run graph limit (n + 1) items progress ≡ all_run graph limit 1 scripts nothing_yet → all_run graph limit (n + 1 + 1) rest after ≡ all_run graph limit 1 scripts nothing_yet
moved_caller graph graph_now limit limit_now n calls rest items scripts progress after g l steps moved whole =
    ap (all_run graph limit (n + 1 + 1) rest) (moved ∙ ap (λ gr. all_called gr limit_now (n + 1) 1 calls progress) g ∙ ap (λ li. all_called graph li (n + 1) 1 calls progress) l)
    ∙ ap (λ cs. all_run graph limit (n + 1) cs progress) (sym steps)
    ∙ whole

-- behind the last caller the run is that of all scripts
pub whole_run : (graph : Graph) (limit caller : ℕ) (items scripts : List (List Call)) (progress : Progress) → items ≡ [] → all_run graph limit caller items progress ≡ all_run graph limit 1 scripts nothing_yet → progress ≡ all_run graph limit 1 scripts nothing_yet
whole_run graph limit caller items scripts progress empty h = ap (λ cs. all_run graph limit caller cs progress) (sym empty) ∙ h
