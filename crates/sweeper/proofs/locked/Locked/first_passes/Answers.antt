use Rattle.std.proofs.Common.{◌≡◌, ℕ, suc, ◌+◌, ◌≤◌, List, [], ◌∷◌, ◌++◌, length, replicate, Box, sym, ap, ◌∙◌, subst, arith}
use Rattle.script_tree.specs.declared.limits.TheConstants.{NODES}
use Rattle.chronicle.specs.Keys.{is_out}
use Rattle.chronicle.proofs.KeyLaws.{not_out-with}
use Rattle.std.specs.declared.alloc.Global.{Global}
use Rattle.node_set.specs.Members.{no_members}
use Rattle.sweeper.specs.declared.luggage.Luggage.{Luggage}
use Rattle.caller_fronts.specs.Tokens.{Idle}
use Rattle.sweeper.specs.Ends.{fresh}
use Rattle.sweeper.specs.Tokens.{outs_of}
use Rattle.sweeper.proofs.Passes.{fresh-push, fresh-long, first-out, other-outs}
use Rattle.sweeper.proofs.locked.Locked.first_passes.Goals as goal

pub first_luggage-requires : goal.first_luggage-requires
first_luggage-requires g c = subst (λ (n : ℕ). n ≤ NODES) (sym c.requires.nodes) c.self.invariant.1.is_graph.few

pub first_pass-requires-clause-nodes : goal.first_pass-requires-clause-nodes
first_pass-requires-clause-nodes g c =
    first-out c.in-Some.luggage c.next.new.self.rest.items (no_members c.args.nodes)
    (subst (λ (ls : List (Box Luggage Global)). outs_of ls ≡ replicate (length ls) (no_members c.args.nodes)) c.in-Some.ensures.steps.0 c.loop-luggage.invariant.3)
    ∙ ap no_members c.requires.nodes

pub push-requires : goal.push-requires
push-requires g c =
    let i = c.loop-luggage.invariant in
    let count = i.2 in
    let long : length c.loop-luggage.passes ≡ c.loop-luggage.caller = ap (λ (ps : List Idle). length ps) i.1 ∙ fresh-long 1 c.loop-luggage.caller in
    let rest : length c.loop-luggage.luggage-iterator.rest.items ≡ suc (length c.next.new.self.rest.items) = ap (λ (ls : List (Box Luggage Global)). length ls) c.in-Some.ensures.steps.0 in
    let all = c.requires.callers.0 in
    omega (arith, long, rest, count, all)

pub loop-luggage-preserved : goal.loop-luggage-preserved
loop-luggage-preserved g c =
    let i = c.loop-luggage.invariant in
    let k = c.loop-luggage.caller in
    let left = i.2 in
    let rest : length c.loop-luggage.luggage-iterator.rest.items ≡ suc (length c.next.new.self.rest.items) = ap (λ (ls : List (Box Luggage Global)). length ls) c.in-Some.ensures.steps.0 in
    let one : suc k ≡ k + 1 = omega arith in
    let other : k + 1 ≡ 1 + k = omega arith in (
      ap (λ h. h.moves) c.first_pass.ensures.after ∙ i.0,
      c.push.ensures ∙ ap (λ (ps : List Idle). ps ++ c.first_pass.result ∷ []) i.1
          ∙ ap (λ (p : Idle). fresh 1 k ++ p ∷ []) c.first_pass.ensures.pass
          ∙ ap (λ (n : ℕ). fresh 1 k ++ record { caller = n; front = [] } ∷ []) other ∙ fresh-push 1 k ∙ ap (fresh 1) one,
      omega (arith, left, rest),
      other-outs c.in-Some.luggage c.next.new.self.rest.items (no_members c.args.nodes)
          (subst (λ (ls : List (Box Luggage Global)). outs_of ls ≡ replicate (length ls) (no_members c.args.nodes)) c.in-Some.ensures.steps.0 i.3),
      λ x above. ap (λ h. is_out x h.out) c.first_pass.ensures.after ∙ not_out-with c.loop-luggage.self.out (k + 1) x (λ same. omega arith) (i.4 x (omega arith)),
    )
