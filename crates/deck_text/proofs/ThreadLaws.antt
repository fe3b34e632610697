-- The threads of a deck.
use Rattle.std.proofs.Common.{◌≡◌, ◌<◌, ◌^◌, Bool, true, List, [], ◌∷◌, ◌++◌, length, arith, length-append, subst}
use Rattle.std.specs.List.{All}
use Rattle.std.proofs.lemmas.List.Elements.{All-push}
use Rattle.script_tree.specs.declared.limits.TheConstants.{THREADS}
use Rattle.signal_graph.specs.declared.call.Call.{Call}
use Rattle.deck_lines.specs.Kept.{IsCall}
use Rattle.signal_graph.specs.Graph.{Graph}
use Rattle.deck_text.specs.Calls.{IsThread, AreThreads}
use Rattle.deck_text.specs.Kept.{IsDeck}
use Rattle.deck_text.specs.Readers.{IsLed, scripts_so_far}

-- the newest thread comes behind the others
pub threads_kept : (threads : List (List Call)) (calls : List Call) → All IsThread threads → length threads < THREADS → All IsCall calls → length calls < 2 ^ 32 → AreThreads (threads ++ calls ∷ [])
threads_kept threads calls each few kept counted = record {
  some = omega (arith, length-append threads (calls ∷ []));
  few = omega (arith, length-append threads (calls ∷ []));
  each = All-push IsThread threads calls each (record { each = kept; counted = counted });
}

-- with a thread begun, what lines led to is a deck
pub led_deck : (graph : Graph) (begun : Bool) (threads : List (List Call)) (calls : List Call) → begun ≡ true → AreThreads (threads ++ calls ∷ [])
    → IsLed (record { graph = graph; scripts = scripts_so_far begun threads calls }) → IsDeck (record { graph = graph; scripts = threads ++ calls ∷ [] })
led_deck graph begun threads calls on kept led =
    let whole = subst (λ (b : Bool). IsLed (record { graph = graph; scripts = scripts_so_far b threads calls })) on led in
    record { threads = kept; text = whole.text; spelled = record { lead = whole.lead; thread = kept.some } }
