-- From the threads of a deck to what a replay asks of them, and from its run to the report.
use Rattle.std.proofs.Common.{◌≡◌, ℕ, ◌<◌, ◌≤◌, List, length, sym, ◌∙◌}
use Rattle.std.specs.Prelude.{All, ◌^◌}
use Rattle.script_tree.specs.declared.limits.TheConstants.{THREADS}
use Rattle.signal_graph.specs.declared.call.Call.{Call}
use Rattle.signal_graph.specs.declared.log.Logged.{Logged}
use Rattle.signal_graph.specs.declared.log.Refused.{Refused}
use Rattle.script_tree.specs.declared.value.Value.{Value}
use Rattle.signal_graph.specs.Legal.{finals}
use Rattle.flow_model.specs.Follows.Callers.{IsWithin}
use Rattle.flow_model.specs.Machine.Histories.{last_values}
use Rattle.flow_model.specs.Machine.Schedules.{replayed, all_refused}
use Rattle.deck_text.specs.Calls.{AreThreads}
use Rattle.framesweep_cli.specs.declared.input.Input.{Input}
use Rattle.framesweep_cli.specs.Endings.{IsReplay}
use Rattle.framesweep_cli.proofs.Answered.{legal_answered, length-finals}

-- a deck's threads are as many as may run, each with as many calls as can be numbered
pub some_threads : (scripts : List (List Call)) → AreThreads scripts → 0 < length scripts
some_threads scripts t = t.some

pub few_threads : (scripts : List (List Call)) → AreThreads scripts → length scripts ≤ THREADS
few_threads scripts t = t.few

pub threads_counted : (scripts : List (List Call)) → AreThreads scripts → All (λ (calls : List Call). length calls < 2 ^ 32) scripts
threads_counted scripts t k d within = (t.each k d within).counted

-- no call of them sets or looks at more nodes than a call may
pub threads_within : (scripts : List (List Call)) → AreThreads scripts → All (All IsWithin) scripts
threads_within scripts t k d within i e inside = let call = (t.each k d within).each i e inside in (call.few_sets, call.few_looks)

pub replay_is : (input : Input) (versions : ℕ) (log : List Logged) (refused : List Refused) (values : List Value)
    → log ≡ (replayed input.deck.graph input.deck.scripts versions input.schedule).core.log
    → refused ≡ all_refused (replayed input.deck.graph input.deck.scripts versions input.schedule).threads
    → values ≡ last_values (replayed input.deck.graph input.deck.scripts versions input.schedule).core
    → values ≡ finals input.deck.graph log
    → IsReplay input versions log refused
replay_is input versions log refused values logged refused_are last end = record {
  logged = logged;
  refused_are = refused_are;
  finals_are = sym end ∙ last;
}

pub ruleset run_laws = (some_threads, few_threads, threads_counted, threads_within, legal_answered, length-finals)

pub ruleset replay_laws = (threads_within, replay_is, legal_answered, length-finals)
