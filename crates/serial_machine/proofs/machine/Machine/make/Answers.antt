use Rattle.std.proofs.Common.{◌≡◌, sym, ap, ◌∙◌, Result, Ok, Err, length, map}
use Rattle.std.specs.Prelude.{IfOk, OnOk}
use Rattle.script_tree.specs.declared.memory.OutOfMemory.{OutOfMemory}
use Rattle.signal_graph.specs.declared.call.Reply.{Reply}
use Rattle.signal_graph.specs.Values.{Values, values, at as value_in}
use Rattle.signal_graph.specs.declared.call.Call.TheVariants.{Fire}
use Rattle.signal_graph.specs.Machine.{after, looks_of}
use Rattle.signal_graph.specs.OnePass.{after_call}
use Rattle.serial_machine.specs.State.{State, IsAt}
use Rattle.serial_machine.specs.Between.{reply_between}
use Rattle.serial_machine.proofs.ReplyLaws.{step_is, fire_again, read_is}
use Rattle.serial_machine.proofs.machine.Machine.make.Goals as goal

replies : (answer : Result Reply OutOfMemory) (u v : Reply) → IfOk answer (λ a. a ≡ u) → v ≡ u → IfOk answer (λ a. a ≡ v)
replies (Ok a) u v h e = h ∙ sym e
replies (Err e) u v h k = h

moves : (answer : Result Reply OutOfMemory) (old new : State) (now kept : Values) → OnOk answer (new.all ≡ now) → new.graph ≡ old.graph → length kept ≡ length old.graph.nodes → values old.graph kept ≡ now → OnOk answer (IsAt new kept)
moves (Ok a) old new now kept h same fits gives = record {
  fits = fits ∙ ap (λ g. length g.nodes) (sym same);
  gives = ap (λ g. values g kept) same ∙ gives ∙ sym h;
}
moves (Err e) old new now kept h same fits gives = h

pub returns-in-Fire-clause-replies : goal.returns-in-Fire-clause-replies
returns-in-Fire-clause-replies c kept at =
    let graph = c.args.self.now.graph in
    let all = c.args.self.now.all in
    let call = c.args.call.now in
    let same : Fire c.sets.result.now (looks_of call) ≡ call = ap (λ s. Fire s (looks_of call)) c.sets.ensures ∙ fire_again call _ _ c.in-Fire.is in
    replies c.fire.result _ _ (c.fire.ensures.replies (looks_of call) c.requires.looks)
    (step_is graph all kept call (sym (ap length at.gives) ∙ c.values_are.ensures.all graph kept) at.gives
    (c.literal.ensures.pass graph c.nodes.ensures.kept kept at.fits call c.requires.right)
    (c.values_are.ensures.all graph (after graph kept call))
    ∙ ap (λ k. reply_between graph all (after_call graph all k) k) (sym same))

pub returns-in-Fire-clause-moves : goal.returns-in-Fire-clause-moves
returns-in-Fire-clause-moves c kept at =
    let graph = c.args.self.now.graph in
    let all = c.args.self.now.all in
    let call = c.args.call.now in
    let same : Fire c.sets.result.now (looks_of call) ≡ call = ap (λ s. Fire s (looks_of call)) c.sets.ensures ∙ fire_again call _ _ c.in-Fire.is in
    moves c.fire.result c.args.self.now c.fire.new.self _ (after graph kept call) (c.fire.ensures.moves (looks_of call)) c.fire.ensures.graph
    (c.literal.ensures.size graph kept call ∙ at.fits)
    (c.literal.ensures.pass graph c.nodes.ensures.kept kept at.fits call c.requires.right
    ∙ ap (λ vs. after_call graph vs call) at.gives
    ∙ ap (after_call graph all) (sym same))

pub returns-in_ok-room-in-Read-clause-replies : goal.returns-in_ok-room-in-Read-clause-replies
returns-in_ok-room-in-Read-clause-replies c kept at =
    let looks = c.args.looks.now in
    read_is c.args.self.now.graph c.args.self.now.all kept c.args.call.now c.in-Read.looks looks c.look-looks.result c.in-Read.is at.gives c.requires.looks
    (c.look-looks.ensures ∙ ap (λ vs. map (value_in vs) looks) (c.as_slice.ensures.value ∙ ap (λ (s : State). s.all) c.self.view_is))
