use Rattle.std.proofs.Common.{length, sym, ap, ◌∙◌, arith, subst}
use Rattle.deck_text.specs.Lines.{lines}
use Rattle.deck_text.specs.Readers.{deck_of}
use Rattle.deck_text.specs.Reasons.{IsDeckFault}
use Rattle.deck_text.proofs.Spelling.{led_on, spelled_by, none_by, not_begun, no_bytes}
use Rattle.deck_text.proofs.Faulting.{bytes_fault, read_fault, end_fault, has_bytes}
use Rattle.deck_text.proofs.reader.read_deck.Goals as goal

pub loop-rest-preserved : goal.loop-rest-preserved
loop-rest-preserved c =
    let l = c.loop-rest in
    let r = c.first_line.result in
    let led = led_on c.args.bytes.now l.rest.now r.0.now r.1.now l.number (deck_of l.reader) (deck_of c.read.new.self) l.invariant.1
    (has_bytes l.rest.now (sym c.is_empty.ensures ∙ c.loop-rest-test.true)) c.first_line.ensures.cut c.first_line.ensures.ends c.if-end-gt-DECK_BYTES.false c.in_default.ensures.extends in
    let calls = c.in_default.ensures.calls in
    let were = l.invariant.2 in
    let shorter = c.first_line.ensures.shorter in
    let left = l.invariant.3 in
    let lines_left = l.invariant.4 in
    let cut = ap length c.first_line.ensures.cut in
    let within = c.if-end-gt-DECK_BYTES.false in
    (c.in_default.ensures.reads, led, omega (arith, calls, were), omega (arith, shorter, left), omega (arith, lines_left, cut), omega (arith, within))

pub returns-then-end-gt-DECK_BYTES-clause-err : goal.returns-then-end-gt-DECK_BYTES-clause-err
returns-then-end-gt-DECK_BYTES-clause-err c =
    let l = c.loop-rest in
    let r = c.first_line.result in
    bytes_fault c.args.bytes.now l.rest.now r.0.now r.1.now l.number (deck_of l.reader) l.invariant.1
    (has_bytes l.rest.now (sym c.is_empty.ensures ∙ c.loop-rest-test.true)) c.first_line.ensures.cut c.first_line.ensures.ends c.if-end-gt-DECK_BYTES.true

pub returns-in-Err-clause-err : goal.returns-in-Err-clause-err
returns-in-Err-clause-err c =
    let l = c.loop-rest in
    let r = c.first_line.result in
    subst (IsDeckFault c.args.bytes.now) (sym c.at.ensures)
    (read_fault c.args.bytes.now l.rest.now r.0.now r.1.now l.number (deck_of l.reader) c.in-Err.reason l.invariant.1
    (has_bytes l.rest.now (sym c.is_empty.ensures ∙ c.loop-rest-test.true)) c.first_line.ensures.cut c.first_line.ensures.ends c.if-end-gt-DECK_BYTES.false c.in-Err.ensures.refuses)

pub returns-clause-ok : goal.returns-clause-ok
returns-clause-ok c =
    let r = c.loop-rest.reader in
    spelled_by c.args.bytes.now c.loop-rest.rest.now c.loop-rest.number (deck_of r) c.finish.result c.loop-rest.invariant.1 (no_bytes c.loop-rest.rest.now (sym c.is_empty.ensures ∙ c.loop-rest-test.false)) c.finish.ensures.ok c.finish.ensures.some

pub returns-clause-err : goal.returns-clause-err
returns-clause-err c =
    let l = c.loop-rest in
    let r = l.reader in
    end_fault c.args.bytes.now c.finish.result c.finish.ensures.names
    (λ e. none_by c.args.bytes.now l.rest.now l.number (deck_of r) l.invariant.1 (no_bytes l.rest.now (sym c.is_empty.ensures ∙ c.loop-rest-test.false)) (not_begun r.begun r.threads.items r.calls.items (c.finish.ensures.none e)))

pub returns-clause-names : goal.returns-clause-names
returns-clause-names c = c.finish.ensures.names (length (lines c.args.bytes.now))
