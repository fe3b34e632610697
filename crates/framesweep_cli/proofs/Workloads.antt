-- From a run of the workload's deck to its summary.
use Rattle.std.proofs.Common.{◌≡◌, ℕ, ◌≤◌, List, [], None, Ok, Err, length, refl, sym, ap, subst, ◌∙◌, inl, inr, arith}
use Rattle.std.specs.Prelude.{◌⊎◌, Option, Result, IfOk}
use Rattle.script_tree.specs.declared.limits.TheConstants.{VERSIONS}
use Rattle.script_tree.specs.declared.memory.OutOfMemory.{OutOfMemory as NoMemory}
use Rattle.script_tree.specs.declared.value.Value.{Value}
use Rattle.signal_graph.specs.declared.call.Call.{Call}
use Rattle.signal_graph.specs.declared.log.Logged.{Logged}
use Rattle.signal_graph.specs.declared.log.Refused.{Refused}
use Rattle.signal_graph.specs.Graph.{Graph}
use Rattle.signal_graph.specs.Legal.{Legal, finals}
use Rattle.call_log.specs.Made.{count_well_named}
use Rattle.call_log.specs.Merge.{Merge}
use Rattle.separate_decks.specs.Workload.{workload_graph, workload_scripts}
use Rattle.deck_maker.specs.Summary.{summary_of}
use Rattle.command_words.specs.declared.command.Command.TheVariants.{Make}
use Rattle.framesweep_cli.specs.declared.ending.Ending.{Ending}
use Rattle.framesweep_cli.specs.declared.ending.Ending.TheVariants.{Done, Refused as Denied, ReadFailed, WriteFailed, OutOfMemory}
use Rattle.fs_io.specs.States.{SourceState}
use Rattle.framesweep_cli.specs.Devices.{Devices}
use Rattle.framesweep_cli.specs.Endings.{IsSummary, Makes}
use Rattle.framesweep_cli.specs.Statuses.{status_of, Happened, Ends}
use Rattle.framesweep_cli.specs.Stops.{IsMade}

-- all calls of each workload are well-named, and all merges of them end alike
abbrev pub Counted : Type 0
Counted = (number : ℕ) → count_well_named (workload_graph number) (workload_scripts number) ≡ 4000

abbrev pub EndAlike : Type 0
EndAlike = (number limit : ℕ) → 4000 ≤ limit → (one other : List Logged) (left rest : List Refused)
    → Merge (workload_graph number) (workload_scripts number) limit one left
    → Merge (workload_graph number) (workload_scripts number) limit other rest
    → finals (workload_graph number) one ≡ finals (workload_graph number) other

-- the summary of a run is that of all runs
summary_is : Counted → EndAlike → (number : ℕ) (log : List Logged) (refused : List Refused) (values : List Value) (text : List ℕ)
    → Legal (workload_graph number) log → Merge (workload_graph number) (workload_scripts number) VERSIONS log refused
    → values ≡ finals (workload_graph number) log → text ≡ summary_of number 216 (length log) values → IsSummary number text
summary_is counted alike number log refused values text legal merge ends is =
    let made : length log ≡ 4000 = merge.all_made (omega (arith, counted number)) ∙ counted number in
    record {
      log = log;
      refused = refused;
      legal = legal;
      merge = merge;
      each = λ other left again.
          let same = ends ∙ alike number VERSIONS (omega arith) log other refused left merge again in
          is ∙ ap (λ n. summary_of number 216 n values) made ∙ ap (summary_of number 216 4000) same;
    }

summarized : Counted → EndAlike → (number : ℕ) (graph : Graph) (scripts : List (List Call)) (log : List Logged) (refused : List Refused)
    (values : List Value) (text : List ℕ) → graph ≡ workload_graph number → scripts ≡ workload_scripts number
    → Legal graph log → Merge graph scripts VERSIONS log refused → values ≡ finals graph log
    → text ≡ summary_of number 216 (length log) values → IsSummary number text
summarized counted alike number graph scripts log refused values text graph_is scripts_are legal merge ends is =
    let merged = subst (λ (ss : List (List Call)). Merge graph ss VERSIONS log refused) scripts_are merge in
    summary_is counted alike number log refused values text (subst (λ (g : Graph). Legal g log) graph_is legal)
    (subst (λ (g : Graph). Merge g (workload_scripts number) VERSIONS log refused) graph_is merged)
    (ends ∙ ap (λ (g : Graph). finals g log) graph_is) is

pub if_summarized : Counted → EndAlike → (number : ℕ) (graph : Graph) (scripts : List (List Call)) (log : List Logged)
    (refused : List Refused) (values : List Value) (r : Result (List ℕ) NoMemory) → graph ≡ workload_graph number
    → scripts ≡ workload_scripts number → Legal graph log → Merge graph scripts VERSIONS log refused → values ≡ finals graph log
    → (graph ≡ workload_graph number → IfOk r (λ text. text ≡ summary_of number 216 (length log) values)) → IfOk r (IsSummary number)
if_summarized counted alike number graph scripts log refused values (Ok text) graph_is scripts_are legal merge ends is =
    summarized counted alike number graph scripts log refused values text graph_is scripts_are legal merge ends (is graph_is)
if_summarized counted alike number graph scripts log refused values (Err e) graph_is scripts_are legal merge ends is = tt

-- what was made with nothing read
pub made_unread : (number : ℕ) (text : List ℕ) → IsSummary number text → (source : SourceState)
    → IsMade (Make number) source source (Ok text)
made_unread number text is source = (
  record {
    input = record { deck = record { graph = workload_graph number; scripts = workload_scripts number }; schedule = []; report = None };
    given = tt;
    output = is;
  },
  refl,
)

-- ---- laws

pub make_unread : (number : ℕ) (before after : Devices) (status : ℕ) → Ends (Make number) before after status → after.source ≡ before.source
make_unread number before after status ends = by_ending ends.ending ends.happened
  where
    by_ending : (ending : Ending) → Happened (Make number) before after ending → after.source ≡ before.source
    by_ending Done h = h.0.read
    by_ending (Denied fault) h = absurd h.0
    by_ending ReadFailed h = absurd h.0
    by_ending WriteFailed h = h.1.read
    by_ending OutOfMemory h = h.0

pub make_status : (number : ℕ) (before after : Devices) (status : ℕ) → Ends (Make number) before after status
    → (status ≡ 0) ⊎ ((status ≡ 4) ⊎ (status ≡ 5))
make_status number before after status ends = subst (λ s. (s ≡ 0) ⊎ ((s ≡ 4) ⊎ (s ≡ 5))) (sym ends.is) (by_ending ends.ending ends.happened)
  where
    by_ending : (ending : Ending) → Happened (Make number) before after ending
        → (status_of ending ≡ 0) ⊎ ((status_of ending ≡ 4) ⊎ (status_of ending ≡ 5))
    by_ending Done h = inl refl
    by_ending (Denied fault) h = absurd h.0
    by_ending ReadFailed h = absurd h.0
    by_ending WriteFailed h = inr (inl refl)
    by_ending OutOfMemory h = inr (inr refl)

pub make_alike : (number : ℕ) (one other : List ℕ) (left rest : Option (List ℕ)) → Makes (Make number) left one
    → Makes (Make number) rest other → one ≡ other
make_alike number one other left rest a b = a.output.each a.output.log a.output.refused a.output.merge
    ∙ sym (b.output.each a.output.log a.output.refused a.output.merge)
