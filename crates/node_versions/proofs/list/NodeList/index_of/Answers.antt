use Rattle.std.proofs.Common.{ap, sym, subst, ◌∙◌, List, arith}
use Rattle.std.proofs.lemmas.Bool.{eq-eqb, ne_eqb}
use Rattle.node_versions.specs.Entries.{Entry, Versions}
use Rattle.node_versions.proofs.FromEnd.{IsLookedThrough, whole, look_on, found_at, not_found, found_below}
use Rattle.node_versions.proofs.KeptLemmas.{seen, older}
use Rattle.node_versions.proofs.Places.{place-absent}
use Rattle.node_versions.proofs.list.NodeList.index_of.Goals as goal

pub loop-entry-init : goal.loop-entry-init
loop-entry-init c = subst (λ (xs : List Entry). IsLookedThrough c.args.self.now.entries xs c.args.version) (sym (c.as_slice-rest.ensures ∙ ap (λ (v : Versions). v.entries) c.self.view_is)) (whole c.args.self.now.entries c.args.version)

pub returns-then-version-self-clause-place : goal.returns-then-version-self-clause-place
returns-then-version-self-clause-place c =
    c.len.ensures ∙ place-absent c.args.self.now.entries c.args.version (older c.args.self.now c.self.invariant c.self.view_is c.args.version (let h = c.if-version-self.true in omega (arith, h)))

pub overflow_cast-result : goal.overflow_cast-result
overflow_cast-result c =
    let k = seen c.args.self.now c.self.invariant c.self.view_is in
    let below = found_below c.args.self.now.entries c.loop-entry.rest.now c.in-Some.front.now c.in-Some.entry.now c.args.version c.loop-entry.invariant c.in-Some.ensures.cases.0 in
    omega (arith, k.small, k.fits, below)

pub returns-then-entry-version-clause-place : goal.returns-then-entry-version-clause-place
returns-then-entry-version-clause-place c =
    let k = seen c.args.self.now c.self.invariant c.self.view_is in
    found_at c.args.self.now.entries c.loop-entry.rest.now c.in-Some.front.now c.in-Some.entry.now c.args.version k.unique c.loop-entry.invariant c.in-Some.ensures.cases.0 (eq-eqb _ _ c.if-entry-version.true)

pub returns-then-entry-version-clause-bound : goal.returns-then-entry-version-clause-bound
returns-then-entry-version-clause-bound c =
    let below = found_below c.args.self.now.entries c.loop-entry.rest.now c.in-Some.front.now c.in-Some.entry.now c.args.version c.loop-entry.invariant c.in-Some.ensures.cases.0 in
    omega (arith, below)

pub loop-entry-preserved : goal.loop-entry-preserved
loop-entry-preserved c = look_on c.args.self.now.entries c.loop-entry.rest.now c.in-Some.front.now c.in-Some.entry.now c.args.version c.loop-entry.invariant c.in-Some.ensures.cases.0 (ne_eqb _ _ c.if-entry-version.false)

pub returns-clause-place : goal.returns-clause-place
returns-clause-place c = c.len-2.ensures ∙ not_found c.args.self.now.entries c.loop-entry.rest.now c.args.version c.loop-entry.invariant c.in_default.ensures.cases
