-- The parser of options: `--versions` with a value, and the flag `--json`. It has no help and no version of its own.
use Rattle.std.specs.Prelude.{true, Some, codes}
use Rattle.clap.specs.Words.{App, Rule, new_app, new_rule, with_rule}
use Rattle.clap.specs.Simple.{on_top}
use Rattle.clap.specs.declared.builder.ArgAction.TheVariants.{Set, SetTrue}

abbrev pub versions_rule : Rule
versions_rule = record (new_rule (codes "versions")) { long = Some (codes "versions"); action = Some Set }

abbrev pub json_rule : Rule
json_rule = record (new_rule (codes "json")) { long = Some (codes "json"); action = Some SetTrue }

abbrev pub app : App
app = with_rule (with_rule (on_top (λ s. record s { no_binary_name = true; disable_help_flag = true; disable_version_flag = true })
    (new_app (codes "framesweep"))) versions_rule) json_rule
