use Rattle.std.proofs.Common.{sym, subst}
use Rattle.signal_graph.specs.Declarations.{refusal}
use Rattle.deck_text.specs.Readers.{deck_of}
use Rattle.deck_text.specs.Refused.{NotDeclared}
use Rattle.deck_text.proofs.Refusing.{cause_of, not_added}
use Rattle.deck_text.proofs.Spelling.{not_begun}
use Rattle.deck_text.proofs.reader.Reader.add_declaration.Goals as goal

pub returns-in-Err-clause-refuses : goal.returns-in-Err-clause-refuses
returns-in-Err-clause-refuses c =
    let r = c.args.self.now in
    let deck = deck_of r in
    let cause = cause_of (refusal deck.graph c.args.name c.args.kind) c.add.result c.in-Err.fault c.add.ensures.causes c.in-Err.is in
    subst (NotDeclared deck c.args.name c.args.kind) (sym c.from.ensures) (not_added deck c.args.name c.args.kind c.in-Err.fault (not_begun r.begun r.threads.items r.calls.items c.if-self.false) cause)
