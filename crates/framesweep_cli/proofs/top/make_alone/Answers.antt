use Rattle.std.proofs.Common.{sym}
use Rattle.framesweep_cli.proofs.Making.{suits_command}
use Rattle.framesweep_cli.proofs.top.make_alone.Goals as goal

pub output-requires-clause-suits : goal.output-requires-clause-suits
output-requires-clause-suits g c = suits_command c.args.command.now c.in-Some.reading _ c.in-Ok.input (sym c.in-Some.ensures) c.in-Ok.ensures.ok
