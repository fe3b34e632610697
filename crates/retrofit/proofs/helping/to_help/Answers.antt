use Rattle.std.proofs.Common.{◌≡◌, ◌∙◌, ap}
use Rattle.std.specs.Option.{is_some}
use Rattle.flow_model.specs.Machine.Words.{presses}
use Rattle.flow_model.specs.Machine.Next.{least_version}
use Rattle.flow_model.specs.Parts.Books.{Book, bare}
use Rattle.retrofit.proofs.Helps.{some-any}
use Rattle.retrofit.proofs.helping.to_help.Goals as goal

pub returns-clause-least : goal.returns-clause-least
returns-clause-least c s is =
    c.first_pressing.ensures ∙ ap (λ (b : Book). least_version (presses (bare b) c.args.version c.args.node) b.calls) is

pub returns-clause-exact : goal.returns-clause-exact
returns-clause-exact c s is =
    ap is_some (c.first_pressing.ensures ∙ ap (λ (b : Book). least_version (presses (bare b) c.args.version c.args.node) b.calls) is)
    ∙ some-any (presses s c.args.version c.args.node) s.calls
