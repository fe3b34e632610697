use Rattle.std.proofs.Common.{◌≡◌, length, Some, ap, sym, ◌∙◌, arith}
use Rattle.std.specs.Option.{option_map}
use Rattle.script_tree.specs.Tree.{tree_of}
use Rattle.script_grammar.specs.Stacks.{state_of, next_of}
use Rattle.script_grammar.proofs.reader.read_script.Goals as goal
use Rattle.script_grammar.proofs.reader.read_script.Goals.{in-WantsMore, in-HasOne}
use Rattle.script_grammar.proofs.Leaves.{leaves_are_words}
use Rattle.script_grammar.proofs.Advances.{fails, too_deep, goes_on, ended, ended_shallow, stops_short}

pub returns-in-Fails-clause-fault : goal.returns-in-Fails-clause-fault
returns-in-Fails-clause-fault c =
    fails _ c.args.tokens.now c.loop-index.index _ _ _ c.advance.new.stack.begun.items _
    (record { so_far = c.loop-index.invariant; within = c.loop-index-test.true; leads = c.in_ok-nesting.ensures.leads; deep = c.in_ok-nesting.ensures.depth })
    c.in-Fails.is

pub returns-then-nesting-gt-LEVELS-clause-fault : goal.returns-then-nesting-gt-LEVELS-clause-fault
returns-then-nesting-gt-LEVELS-clause-fault c =
    too_deep _ c.args.tokens.now c.loop-index.index _ _ _ c.advance.new.stack.begun.items _ c.match-next.top
    (record { so_far = c.loop-index.invariant; within = c.loop-index-test.true; leads = c.in_ok-nesting.ensures.leads; deep = c.in_ok-nesting.ensures.depth })
    c.if-nesting-gt-LEVELS.true
    (elim c.match-next.branch [
      | in-WantsMore w ↦ ap (λ n. next_of n c.advance.new.stack.begun.items) w.in-WantsMore.is ∙ ap (λ t. Some (state_of c.advance.new.stack.begun.items t)) (sym w.top-is)
      | in-HasOne w ↦ ap (λ n. next_of n c.advance.new.stack.begun.items) w.in-HasOne.is ∙ ap (λ t. Some (state_of c.advance.new.stack.begun.items t)) (sym w.top-is)
    ])

pub loop-index-preserved : goal.loop-index-preserved
loop-index-preserved c =
    goes_on _ c.args.tokens.now c.loop-index.index _ _ _ c.advance.new.stack.begun.items _ c.match-next.top
    (record { so_far = c.loop-index.invariant; within = c.loop-index-test.true; leads = c.in_ok-nesting.ensures.leads; deep = c.in_ok-nesting.ensures.depth })
    c.if-nesting-gt-LEVELS.false
    (elim c.match-next.branch [
      | in-WantsMore w ↦ ap (λ n. next_of n c.advance.new.stack.begun.items) w.in-WantsMore.is ∙ ap (λ t. Some (state_of c.advance.new.stack.begun.items t)) (sym w.top-is)
      | in-HasOne w ↦ ap (λ n. next_of n c.advance.new.stack.begun.items) w.in-HasOne.is ∙ ap (λ t. Some (state_of c.advance.new.stack.begun.items t)) (sym w.top-is)
    ])

pub returns-in-Some-clause-found : goal.returns-in-Some-clause-found
returns-in-Some-clause-found c =
    let end : c.loop-index.index ≡ length c.args.tokens.now = omega arith in
    ended _ c.args.tokens.now _ _ _ c.loop-index.invariant end (sym c.in_ok-x.ensures ∙ ap (option_map tree_of) c.in-Some.is)

pub returns-in-Some-clause-shallow : goal.returns-in-Some-clause-shallow
returns-in-Some-clause-shallow c =
    let end : c.loop-index.index ≡ length c.args.tokens.now = omega arith in
    ended_shallow _ c.args.tokens.now _ _ c.loop-index.invariant end

pub returns-clause-fault : goal.returns-clause-fault
returns-clause-fault c =
    let end : c.loop-index.index ≡ length c.args.tokens.now = omega arith in
    stops_short _ c.args.tokens.now _ _ c.loop-index.invariant end (sym c.in_ok-x.ensures ∙ ap (option_map tree_of) c.in-None.is)

pub returns-in-Some-clause-leaves : goal.returns-in-Some-clause-leaves
returns-in-Some-clause-leaves c = λ test.
    let end : c.loop-index.index ≡ length c.args.tokens.now = omega arith in
    leaves_are_words test _ _ (ended _ c.args.tokens.now _ _ _ c.loop-index.invariant end (sym c.in_ok-x.ensures ∙ ap (option_map tree_of) c.in-Some.is))
