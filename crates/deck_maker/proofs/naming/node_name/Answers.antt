use Rattle.std.proofs.Common.{arith, ◌≡◌, ◌-◌, IfOk, subst}
use Rattle.deck_maker.proofs.NameRows.{source_named, fold_named, signal_is_named, choose_is_named, source_at, fold_at, signal_at, choose_at}
use Rattle.deck_maker.proofs.naming.node_name.Goals as goal

pub numbered-requires : goal.numbered-requires
numbered-requires c = source_named c.args.node c.if-node-lt64.true

pub returns-then-node-lt64 : goal.returns-then-node-lt64
returns-then-node-lt64 c = subst (λ n. IfOk c.numbered.result (λ name. name ≡ n)) (source_at c.args.node c.if-node-lt64.true) c.numbered.ensures

pub numbered-requires-then-node-lt72 : goal.numbered-requires-then-node-lt72
numbered-requires-then-node-lt72 c = fold_named (c.args.node - 64) (omega (arith, c.if-node-lt64.false, c.if-node-lt72.true))

pub returns-then-node-lt72 : goal.returns-then-node-lt72
returns-then-node-lt72 c =
    subst (λ n. IfOk c.numbered-then-node-lt72.result (λ name. name ≡ n)) (fold_at c.args.node (omega (arith, c.if-node-lt64.false)) c.if-node-lt72.true) c.numbered-then-node-lt72.ensures

pub numbered-requires-then-place-lt5 : goal.numbered-requires-then-place-lt5
numbered-requires-then-place-lt5 c = signal_is_named c.args.node (omega (arith, c.if-node-lt72.false)) c.requires c.if-place-lt5.true

pub returns-then-place-lt5 : goal.returns-then-place-lt5
returns-then-place-lt5 c =
    subst (λ n. IfOk c.numbered-then-place-lt5.result (λ name. name ≡ n)) (signal_at c.args.node (omega (arith, c.if-node-lt72.false)) c.requires c.if-place-lt5.true)
    c.numbered-then-place-lt5.ensures

pub numbered-requires-2 : goal.numbered-requires-2
numbered-requires-2 c = choose_is_named c.args.node (omega (arith, c.if-node-lt72.false)) c.requires

pub returns : goal.returns
returns c =
    subst (λ n. IfOk c.numbered-2.result (λ name. name ≡ n)) (choose_at c.args.node (omega (arith, c.if-node-lt72.false)) c.requires (omega (arith, c.if-place-lt5.false)))
    c.numbered-2.ensures
