use Rattle.std.proofs.Common.{◌≢◌, ◌<◌, [], rules}
use Rattle.std.specs.Prelude.{◌^◌}
use Rattle.report_text.specs.declared.data.Report.{Report}
use Rattle.report_text.specs.Printed.{IsReport}
use Rattle.report_text.proofs.ReadLaws.{stops_within, stops_behind}
use Rattle.report_text.proofs.reading.read_report.Goals as goal

pub returns-in_default : goal.returns-in_default
returns-in_default c =
    let calls = c.in_ok-rest.ensures in
    let refused = c.in_ok-rest-2.ensures in
    let finals = c.in_ok-rest-3.ensures in
    stops_within c.args.bytes.now c.in_ok-rest.rest.now c.in_ok-rest-2.rest.now c.in_ok-rest-3.rest.now _ _ _ _
    calls.lines refused.lines finals.lines calls.text refused.text finals.text calls.all refused.all finals.all c.in_default.ensures.none (search rules)

pub returns-then-not-is_empty : goal.returns-then-not-is_empty
returns-then-not-is_empty c =
    let fits : c.in-Some.accepted < 2 ^ 32 = search rules in
    let fits_too : c.in-Some.refusals < 2 ^ 32 = search rules in
    let more : c.in-Some.rest.now ≢ [] = search rules in
    let calls = c.in_ok-rest.ensures in
    let refused = c.in_ok-rest-2.ensures in
    let finals = c.in_ok-rest-3.ensures in
    let report : Report = record { calls = c.read_calls.new.lines.items; refused = c.read_refused.new.lines.items; finals = c.read_finals.new.lines.items; accepted = c.in-Some.accepted; refusals = c.in-Some.refusals } in
    let is : IsReport report = record { calls = calls.lines; refused = refused.lines; finals = finals.lines; accepted = fits; refusals = fits_too } in
    stops_behind c.args.bytes.now c.in_ok-rest.rest.now c.in_ok-rest-2.rest.now c.in_ok-rest-3.rest.now c.in-Some.rest.now report _ is
    calls.text refused.text finals.text c.in-Some.ensures.text more (search rules)
