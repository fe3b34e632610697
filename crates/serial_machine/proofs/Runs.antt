-- A run of scripts one after the other is legal.
use Rattle.std.proofs.Common.{◌≡◌, ℕ, zero, suc, ◌+◌, ◌-◌, ◌<◌, ◌≤◌, List, [], ◌∷◌, ◌++◌, length, drop, get_or, Option, Some, None, refl, sym, ap, ◌∙◌, subst, arith}
use Rattle.std.proofs.lemmas.List.{drop_more, drop_all}
use Rattle.signal_graph.specs.declared.call.Call.{Call}
use Rattle.signal_graph.specs.declared.log.Logged.{Logged}
use Rattle.signal_graph.specs.declared.log.Why.{Why}
use Rattle.signal_graph.specs.declared.log.Why.TheVariants.{VersionsUsedUp}
use Rattle.signal_graph.specs.Graph.{Graph}
use Rattle.signal_graph.specs.Values.{start}
use Rattle.signal_graph.specs.Machine.{after}
use Rattle.signal_graph.specs.Legal.{Legal, state_after}
use Rattle.signal_graph.proofs.LegalLogs.{state_more, legal_more}
use Rattle.call_log.specs.LeftOut.{why_not}
use Rattle.serial_machine.specs.State.{State, IsAt}
use Rattle.serial_machine.specs.Progress.{Progress, why_not_next, entry_of, with_entry, called, all_called, all_run, nothing_yet}

-- where the log has as many entries as there may be, no call is made
pub used_up : (limit made : ℕ) → limit ≤ made → why_not limit (limit - made) None ≡ Some (VersionsUsedUp limit)
used_up limit made h = let e : 0 ≡ limit - made = omega arith in subst (λ left. why_not limit left None ≡ Some (VersionsUsedUp limit)) e refl

made_at : (limit left : ℕ) → 0 < left → why_not limit left None ≡ None
made_at limit zero h = absurd (omega arith)
made_at limit (suc left) h = refl

pub has_room : (limit made : ℕ) → made < limit → why_not limit (limit - made) None ≡ None
has_room limit made h = made_at limit (limit - made) (omega arith)

-- a call that is made is well-named
pub is_named : (limit left : ℕ) (place : Option ℕ) → why_not limit left place ≡ None → place ≡ None
is_named limit left None h = refl
is_named limit left (Some place) h = absurd (cc)

left_of : (limit left : ℕ) (place : Option ℕ) → why_not limit left place ≡ None → 0 < left
left_of limit zero None h = absurd (cc)
left_of limit (suc left) None h = omega arith
left_of limit left (Some place) h = absurd (cc)

-- a call that is made finds a version
pub is_below : (limit made : ℕ) (place : Option ℕ) → why_not limit (limit - made) place ≡ None → made < limit
is_below limit made place h = omega (arith, left_of limit (limit - made) place h)

legal_called : (graph : Graph) (caller : ℕ) (call : Call) (log : List Logged) (why : Option Why) → Legal graph log → Legal graph (with_entry log (entry_of graph caller log call) why)
legal_called graph caller call log (Some why) h = h
legal_called graph caller call log None h = legal_more graph (start graph) log (entry_of graph caller log call) h refl

legal_all_called : (graph : Graph) (limit caller number : ℕ) (calls : List Call) (progress : Progress) → Legal graph progress.log → Legal graph (all_called graph limit caller number calls progress).log
legal_all_called graph limit caller number [] progress h = h
legal_all_called graph limit caller number (call ∷ calls) progress h =
    legal_all_called graph limit caller (number + 1) calls (called graph limit caller number call progress) (legal_called graph caller call progress.log (why_not_next graph limit progress.log call) h)

legal_all_run : (graph : Graph) (limit caller : ℕ) (scripts : List (List Call)) (progress : Progress) → Legal graph progress.log → Legal graph (all_run graph limit caller scripts progress).log
legal_all_run graph limit caller [] progress h = h
legal_all_run graph limit caller (calls ∷ scripts) progress h =
    legal_all_run graph limit (caller + 1) scripts (all_called graph limit caller 1 calls progress) (legal_all_called graph limit caller 1 calls progress h)

-- every reply of a run is the one-thread machine's
pub run_is_legal : (graph : Graph) (limit : ℕ) (scripts : List (List Call)) → Legal graph (all_run graph limit 1 scripts nothing_yet).log
run_is_legal graph limit scripts = legal_all_run graph limit 1 scripts nothing_yet tt

-- the next call of a caller
pub next_called : (graph : Graph) (limit caller : ℕ) (calls : List Call) (index : ℕ) (d : Call) (progress : Progress) → index < length calls → all_called graph limit caller (index + 1) (drop index calls) progress ≡ all_called graph limit caller (index + 1 + 1) (drop (index + 1) calls) (called graph limit caller (index + 1) (get_or calls index d) progress)
next_called graph limit caller calls index d progress h = ap (λ cs. all_called graph limit caller (index + 1) cs progress) (drop_more calls index d h)

-- the next caller
pub next_caller : (graph : Graph) (limit : ℕ) (scripts : List (List Call)) (index : ℕ) (d : List Call) (progress : Progress) → index < length scripts → all_run graph limit (index + 1) (drop index scripts) progress ≡ all_run graph limit (index + 1 + 1) (drop (index + 1) scripts) (all_called graph limit (index + 1) 1 (get_or scripts index d) progress)
next_caller graph limit scripts index d progress h = ap (λ cs. all_run graph limit (index + 1) cs progress) (drop_more scripts index d h)

-- a machine that has made one call more stands behind the log that has it
pub stands_more : (machine moved : State) (log more : List Logged) (entry : Logged) (call : Call) → moved.graph ≡ machine.graph → more ≡ log ++ entry ∷ [] → entry.call ≡ call → IsAt moved (after machine.graph (state_after machine.graph log) call) → IsAt moved (state_after moved.graph more)
stands_more machine moved log more entry call same grown called at =
    subst (IsAt moved)
    (ap (after machine.graph (state_after machine.graph log)) (sym called)
    ∙ sym (state_more machine.graph (start machine.graph) log entry)
    ∙ ap (state_after machine.graph) (sym grown)
    ∙ ap (λ g. state_after g more) (sym same))
    at

-- behind the last caller nothing is left to run
pub run_ends : (graph : Graph) (limit caller : ℕ) (scripts : List (List Call)) (n : ℕ) (progress : Progress) → length scripts ≤ n → all_run graph limit caller (drop n scripts) progress ≡ progress
run_ends graph limit caller scripts n progress h = ap (λ cs. all_run graph limit caller cs progress) (drop_all n scripts h)
