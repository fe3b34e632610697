-- All merges of a separate deck end as its calls do, thread after thread.
use Rattle.std.proofs.Common.{◌≡◌, ℕ, zero, suc, ◌+◌, ◌<◌, ◌≤◌, true, false, cond, List, [], ◌∷◌, ◌++◌, length, refl, ap, ◌∙◌, subst, arith, append-nil}
use Rattle.std.specs.Prelude.{◌==◌, map}
use Rattle.std.specs.List.{AllByRecursion}
use Rattle.std.proofs.lemmas.List.{length-map}
use Rattle.std.proofs.lemmas.Bool.Decides.{eqb_tells}
use Rattle.script_tree.proofs.Lists.{all_append}
use Rattle.signal_graph.specs.declared.call.Call.{Call}
use Rattle.signal_graph.specs.declared.call.Reply.TheVariants.{Read as Seen}
use Rattle.signal_graph.specs.declared.log.Logged.{Logged}
use Rattle.signal_graph.specs.declared.log.Refused.{Refused}
use Rattle.signal_graph.specs.Graph.{Graph, IsGraph}
use Rattle.signal_graph.specs.Values.{values, start, start_value}
use Rattle.signal_graph.specs.Legal.{finals}
use Rattle.call_log.specs.Made.{entries_of, calls_in, well_named, count_well_named, script_of}
use Rattle.call_log.specs.Merge.{IsOfCaller, Merge}
use Rattle.separate_decks.specs.Separate.{Separate}
use Rattle.separate_decks.specs.Calls.{values_after, thread_after_thread, serial_finals}
use Rattle.separate_decks.proofs.Following.{OnePasses, StaysLong, ValuesAre, AsLong, state_values, complete, merge_complete, complete_alike}

-- a log of calls of one caller; its versions and replies do not matter here
abbrev entry_by : ℕ → Call → Logged
entry_by caller call = record { caller = caller; version = 0; call = call; reply = Seen [] }

-- a log of all well-named calls, thread after thread, whose first thread has a number
abbrev one_by_one : Graph → ℕ → List (List Call) → List Logged
one_by_one graph caller [] = []
one_by_one graph caller (calls ∷ scripts) = map (entry_by caller) (well_named graph calls) ++ one_by_one graph (caller + 1) scripts

own_entries : (caller : ℕ) (calls : List Call) (rest : List Logged) → calls_in (entries_of caller (map (entry_by caller) calls ++ rest)) ≡ calls ++ calls_in (entries_of caller rest)
own_entries caller [] rest = refl
own_entries caller (call ∷ calls) rest =
    let log = map (entry_by caller) calls ++ rest in
    let same : (caller == caller) ≡ true = grind (arith, eqb_tells) in
    ap (λ b. calls_in (cond b (entry_by caller call ∷ entries_of caller log) (entries_of caller log))) same
    ∙ ap (λ cs. call ∷ cs) (own_entries caller calls rest)

other_entries : (caller c : ℕ) (calls : List Call) (rest : List Logged) → (c ≡ caller → ⊥) → entries_of caller (map (entry_by c) calls ++ rest) ≡ entries_of caller rest
other_entries caller c [] rest ne = refl
other_entries caller c (call ∷ calls) rest ne =
    let log = map (entry_by c) calls ++ rest in
    let other : (c == caller) ≡ false = grind (arith, eqb_tells) in
    ap (λ b. cond b (entry_by c call ∷ entries_of caller log) (entries_of caller log)) other
    ∙ other_entries caller c calls rest ne

-- a later thread has no earlier number
no_entries : (graph : Graph) (caller c : ℕ) (scripts : List (List Call)) → caller < c → entries_of caller (one_by_one graph c scripts) ≡ []
no_entries graph caller c [] low = refl
no_entries graph caller c (calls ∷ scripts) low =
    other_entries caller c (well_named graph calls) (one_by_one graph (c + 1) scripts) (λ e. omega arith)
    ∙ no_entries graph caller (c + 1) scripts (omega arith)

made_by_each : (graph : Graph) (c : ℕ) (scripts : List (List Call)) (k : ℕ) → k < length scripts → calls_in (entries_of (k + c) (one_by_one graph c scripts)) ≡ well_named graph (script_of scripts k)
made_by_each graph c [] k low = absurd (omega arith)
made_by_each graph c (calls ∷ scripts) zero low =
    let e : c ≡ 0 + c = omega arith in
    let rest = one_by_one graph (c + 1) scripts in
    subst (λ i. calls_in (entries_of i (one_by_one graph c (calls ∷ scripts))) ≡ well_named graph calls) e
    (own_entries c (well_named graph calls) rest
    ∙ ap (λ es. well_named graph calls ++ calls_in es) (no_entries graph c (c + 1) scripts (omega arith))
    ∙ append-nil (well_named graph calls))
made_by_each graph c (calls ∷ scripts) (suc k) low =
    let e : k + (c + 1) ≡ suc k + c = omega arith in
    let rest = one_by_one graph (c + 1) scripts in
    ap calls_in (other_entries (suc k + c) c (well_named graph calls) rest (λ i. omega arith))
    ∙ subst (λ i. calls_in (entries_of i rest) ≡ well_named graph (script_of scripts k)) e (made_by_each graph (c + 1) scripts k (omega arith))

all_entries : (n caller : ℕ) (calls : List Call) → 1 ≤ caller → caller ≤ n → AllByRecursion (IsOfCaller n) (map (entry_by caller) calls)
all_entries n caller [] low high = tt
all_entries n caller (call ∷ calls) low high = ((low, high), all_entries n caller calls low high)

callers_in_order : (graph : Graph) (n c : ℕ) (scripts : List (List Call)) → 1 ≤ c → c + length scripts ≤ n + 1 → AllByRecursion (IsOfCaller n) (one_by_one graph c scripts)
callers_in_order graph n c [] low high = tt
callers_in_order graph n c (calls ∷ scripts) low high =
    all_append (IsOfCaller n) (map (entry_by c) (well_named graph calls)) (one_by_one graph (c + 1) scripts)
    (all_entries n c (well_named graph calls) low (omega arith))
    (callers_in_order graph n (c + 1) scripts (omega arith) (omega arith))

calls_of_entries : (caller : ℕ) (calls : List Call) (rest : List Logged) → calls_in (map (entry_by caller) calls ++ rest) ≡ calls ++ calls_in rest
calls_of_entries caller [] rest = refl
calls_of_entries caller (call ∷ calls) rest = ap (λ cs. call ∷ cs) (calls_of_entries caller calls rest)

calls_one_by_one : (graph : Graph) (c : ℕ) (scripts : List (List Call)) → calls_in (one_by_one graph c scripts) ≡ thread_after_thread graph scripts
calls_one_by_one graph c [] = refl
calls_one_by_one graph c (calls ∷ scripts) =
    calls_of_entries c (well_named graph calls) (one_by_one graph (c + 1) scripts)
    ∙ ap (λ cs. well_named graph calls ++ cs) (calls_one_by_one graph (c + 1) scripts)

-- all merges with all well-named calls end as these calls do, thread after thread
pub ends_as_serial : OnePasses → StaysLong → ValuesAre → AsLong → (graph : Graph) → IsGraph graph → (scripts : List (List Call)) → Separate graph scripts → (limit : ℕ) → count_well_named graph scripts ≤ limit → (log : List Logged) (refused : List Refused) → Merge graph scripts limit log refused → finals graph log ≡ serial_finals graph scripts
ends_as_serial one_pass stays values_are as_long graph is_graph scripts separate limit few log refused merge =
    let serial = one_by_one graph 1 scripts in
    let second = complete graph scripts serial (callers_in_order graph (length scripts) 1 scripts (omega arith) (omega arith)) (λ k low. made_by_each graph 1 scripts k low) in
    complete_alike one_pass stays values_are as_long graph is_graph scripts separate log serial (merge_complete graph scripts limit log refused merge few) second
    ∙ state_values one_pass stays graph is_graph (start graph) serial (length-map graph.nodes start_value) second.named
    ∙ ap (values_after graph (values graph (start graph))) (calls_one_by_one graph 1 scripts)
