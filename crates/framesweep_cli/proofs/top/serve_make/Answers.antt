use Rattle.command_words.specs.declared.command.Command.TheVariants.{Make}
use Rattle.framesweep_cli.proofs.Stopping.{made_ends}
use Rattle.framesweep_cli.proofs.top.serve_make.Goals as goal

pub returns : goal.returns
returns g c = λ source.
    made_ends (Make c.args.number) source source _ _ _ _ c.make_workload-made.result c.finish.result c.status.result
    (c.make_workload-made.ensures source) c.finish.ensures.finished c.finish.ensures.told c.status.ensures
