use Rattle.std.proofs.Common.{◌≡◌, List, [], ◌∷◌, ◌++◌, sym, subst}
use Rattle.signal_graph.specs.declared.call.Call.{Call}
use Rattle.signal_graph.specs.Graph.{Graph}
use Rattle.deck_text.specs.Kept.{IsDeck}
use Rattle.deck_text.proofs.ThreadLaws.{threads_kept, led_deck}
use Rattle.deck_text.proofs.reader.Reader.deck.Goals as goal

pub new-requires : goal.new-requires
new-requires c =
    let threads = c.args.self.threads.items in
    let calls = c.args.self.calls.items in
    let whole : c.from_vec.result ≡ threads ++ calls ∷ [] = cc (c.from_vec.ensures, c.in_ok-push.ensures.items, c.whole_thread.ensures) in
    let kept = threads_kept threads calls c.requires.reads.threads c.requires.reads.few c.requires.reads.calls c.requires.counted in
    subst (λ (scripts : List (List Call)). IsDeck (record { graph = c.in_ok-graph.graph; scripts = scripts })) (sym whole)
    (subst (λ (graph : Graph). IsDeck (record { graph = graph; scripts = threads ++ calls ∷ [] })) (sym c.in_ok-graph.ensures)
    (led_deck c.args.self.builder c.args.self.begun threads calls c.requires.begun kept c.requires.led))
