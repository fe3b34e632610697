-- What follows where a log has the first of all callers' well-named calls laid end to end.
use Rattle.std.proofs.Common.{◌≡◌, ℕ, zero, suc, ◌+◌, ◌<◌, ◌≤◌, List, [], ◌∷◌, ◌++◌, length, take, refl, sym, ap, ◌∙◌, subst, arith}
use Rattle.std.specs.Prelude.{slice_index_or}
use Rattle.script_tree.specs.declared.value.Value.{Value}
use Rattle.script_tree.proofs.Lists.{same_first, same_rest}
use Rattle.signal_graph.specs.declared.call.Call.{Call}
use Rattle.signal_graph.specs.declared.log.Logged.{Logged}
use Rattle.signal_graph.specs.declared.log.Refused.{Refused}
use Rattle.signal_graph.specs.Graph.{Graph}
use Rattle.signal_graph.specs.Values.{Values, start}
use Rattle.signal_graph.specs.Machine.{after, reply}
use Rattle.signal_graph.specs.Legal.{LegalFrom, Legal, finals}
use Rattle.call_log.specs.Made.{well_named}
use Rattle.call_log.specs.LeftOut.{left_out}
use Rattle.serial_machine.specs.SerialOrder.{made_in, made_by, serial_calls_from, serial_calls, IsThreadAfterThread, IsSerialLog, IsSerialRun}

-- callers that never fall, from one on
abbrev RiseFrom : ℕ → List (ℕ × Call) → Type 0
RiseFrom low [] = Unit {0}
RiseFrom low (pair ∷ pairs) = (low ≤ pair.0) × RiseFrom pair.0 pairs

rise_lower : (low from : ℕ) (pairs : List (ℕ × Call)) → low ≤ from → RiseFrom from pairs → RiseFrom low pairs
rise_lower low from [] h r = tt
rise_lower low from (pair ∷ pairs) h r = let first = r.0 in (omega arith, r.1)

rise_take : (low n : ℕ) (pairs : List (ℕ × Call)) → RiseFrom low pairs → RiseFrom low (take n pairs)
rise_take low zero pairs r = tt
rise_take low (suc n) [] r = tt
rise_take low (suc n) (pair ∷ pairs) r = (r.0, rise_take pair.0 n pairs r.1)

rise_made_by : (caller : ℕ) (calls : List Call) (later : List (ℕ × Call)) → RiseFrom caller later → RiseFrom caller (made_by caller calls ++ later)
rise_made_by caller [] later r = r
rise_made_by caller (call ∷ calls) later r = (omega arith, rise_made_by caller calls later r)

rise_all : (graph : Graph) (caller : ℕ) (scripts : List (List Call)) → RiseFrom caller (serial_calls_from graph caller scripts)
rise_all graph caller [] = tt
rise_all graph caller (calls ∷ scripts) =
    let later = serial_calls_from graph (caller + 1) scripts in
    rise_made_by caller (well_named graph calls) later (rise_lower caller (caller + 1) later (omega arith) (rise_all graph (caller + 1) scripts))

above : (low : ℕ) (log : List Logged) → RiseFrom low (made_in log) → (k : ℕ) (d : Logged) → k < length log → low ≤ (slice_index_or log k d).caller
above low [] r k d within = absurd (omega arith)
above low (entry ∷ log) r zero d within = r.0
above low (entry ∷ log) r (suc k) d within =
    let first = r.0 in
    let later = above entry.caller log r.1 k d (omega arith) in
    omega (arith, first, later)

ordered : (low : ℕ) (log : List Logged) → RiseFrom low (made_in log) → IsThreadAfterThread log
ordered low [] r i j d before within = absurd (omega arith)
ordered low (entry ∷ log) r zero zero d before within = omega arith
ordered low (entry ∷ log) r zero (suc j) d before within = above entry.caller log r.1 j d (omega arith)
ordered low (entry ∷ log) r (suc i) zero d before within = absurd (omega arith)
ordered low (entry ∷ log) r (suc i) (suc j) d before within = ordered entry.caller log r.1 i j d (omega arith) (omega arith)

-- all calls of thread 1 stand before those of thread 2, and so on
pub is_thread_after_thread : (graph : Graph) (scripts : List (List Call)) (limit : ℕ) (log : List Logged) → IsSerialLog graph scripts limit log → IsThreadAfterThread log
is_thread_after_thread graph scripts limit log serial =
    ordered 1 log (subst (RiseFrom 1) (sym serial.calls) (rise_take 1 limit (serial_calls graph scripts) (rise_all graph 1 scripts)))

-- along a log the versions count on from a number
abbrev CountsOn : ℕ → List Logged → Type 0
CountsOn from log = (k : ℕ) (d : Logged) → k < length log → (slice_index_or log k d).version ≡ k + from

counts_later : (from : ℕ) (entry : Logged) (log : List Logged) → CountsOn from (entry ∷ log) → CountsOn (from + 1) log
counts_later from entry log h k d within = let here = h (suc k) d (omega arith) in omega (arith, here)

same_entry : (a b : Logged) → a.caller ≡ b.caller → a.version ≡ b.version → a.call ≡ b.call → a.reply ≡ b.reply → a ≡ b
same_entry a b caller version call reply =
    ap (λ c. record { caller = c; version = a.version; call = a.call; reply = a.reply }) caller
    ∙ ap (λ v. record { caller = b.caller; version = v; call = a.call; reply = a.reply }) version
    ∙ ap (λ c. record { caller = b.caller; version = b.version; call = c; reply = a.reply }) call
    ∙ ap (λ r. record { caller = b.caller; version = b.version; call = b.call; reply = r }) reply

-- the calls with their callers, the versions and the machine determine a log
same_log : (graph : Graph) (kept : Values) (from : ℕ) (log other : List Logged) → made_in log ≡ made_in other → CountsOn from log → CountsOn from other → LegalFrom graph kept log → LegalFrom graph kept other → log ≡ other
same_log graph kept from [] [] made counts counts_too legal legal_too = refl
same_log graph kept from [] (e ∷ other) made counts counts_too legal legal_too = absurd (cc)
same_log graph kept from (e ∷ log) [] made counts counts_too legal legal_too = absurd (cc)
same_log graph kept from (a ∷ log) (b ∷ other) made counts counts_too legal legal_too =
    let pair = same_first (a.caller, a.call) (b.caller, b.call) (made_in log) (made_in other) made in
    let caller : a.caller ≡ b.caller = ap (λ (p : ℕ × Call). p.0) pair in
    let call : a.call ≡ b.call = ap (λ (p : ℕ × Call). p.1) pair in
    let version : a.version ≡ b.version = counts 0 a (omega arith) ∙ sym (counts_too 0 a (omega arith)) in
    let reply : a.reply ≡ b.reply = legal.0 ∙ ap (reply graph kept) call ∙ sym legal_too.0 in
    let later = same_log graph (after graph kept a.call) (from + 1) log other
    (same_rest (a.caller, a.call) (b.caller, b.call) (made_in log) (made_in other) made)
    (counts_later from a log counts) (counts_later from b other counts_too)
    legal.1 (subst (λ c. LegalFrom graph (after graph kept c) other) (sym call) legal_too.1) in
    ap (λ e. e ∷ log) (same_entry a b caller version call reply) ∙ ap (λ es. b ∷ es) later

-- so two runs of the same scripts left the same
pub one_log : (graph : Graph) (scripts : List (List Call)) (limit : ℕ) (log other : List Logged) → IsSerialLog graph scripts limit log → IsSerialLog graph scripts limit other → Legal graph log → Legal graph other → log ≡ other
one_log graph scripts limit log other serial serial_too legal legal_too =
    same_log graph (start graph) 1 log other (serial.calls ∙ sym serial_too.calls) serial.versions serial_too.versions legal legal_too

pub same_run : (graph : Graph) (scripts : List (List Call)) (limit : ℕ) (log other : List Logged) (refused refused_too : List Refused) (last last_too : List Value) → IsSerialRun graph scripts limit log refused last → IsSerialRun graph scripts limit other refused_too last_too → (log ≡ other) × (refused ≡ refused_too) × (last ≡ last_too)
same_run graph scripts limit log other refused refused_too last last_too run run_too =
    let same = one_log graph scripts limit log other run.serial run_too.serial run.legal run_too.legal in (
      same,
      run.merge.rest ∙ ap (λ l. left_out graph limit l scripts) same ∙ sym run_too.merge.rest,
      run.values ∙ ap (finals graph) same ∙ sym run_too.values,
    )
