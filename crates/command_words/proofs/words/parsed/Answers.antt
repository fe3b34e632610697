use Rattle.std.proofs.Common.{List, map, ap, subst, ◌∙◌}
use Rattle.clap.specs.Words.{Text, HasMatchesOf, takes}
use Rattle.command_words.specs.Options.{json_in}
use Rattle.command_words.proofs.Parsed.{options_taken, limit_found, flag_found, text_is_limit, limit_read, flag_read}
use Rattle.command_words.proofs.words.parsed.Goals as goal

pub returns-in-Err-clause-err : goal.returns-in-Err-clause-err
returns-in-Err-clause-err c =
    let words : List Text = map (λ s. s.now) c.args.options.now in
    c.fault.ensures (c.in-Err.ensures.passes (ap (λ a. takes a words) c.in_ok-option_parser.ensures
    ∙ options_taken c.args.kinds words c.requires))

pub versions_of-requires : goal.versions_of-requires
versions_of-requires c =
    let words : List Text = map (λ s. s.now) c.args.options.now in
    let has = subst (λ a. HasMatchesOf a words c.in-Ok.matches) c.in_ok-option_parser.ensures c.in-Ok.ensures.matches in
    text_is_limit c.requires.given words c.get_str.result c.requires.are.blocks (c.get_str.ensures
    ∙ limit_found c.args.kinds words c.in-Ok.matches c.requires has)

pub returns-clause-ok : goal.returns-clause-ok
returns-clause-ok c =
    let words : List Text = map (λ s. s.now) c.args.options.now in
    let has = subst (λ a. HasMatchesOf a words c.in-Ok.matches) c.in_ok-option_parser.ensures c.in-Ok.ensures.matches in
    record {
      given = c.requires.given;
      are = c.requires.are;
      versions_are = limit_read c.requires.given c.get_str.result c.versions_of.result (c.get_str.ensures
          ∙ limit_found c.args.kinds words c.in-Ok.matches c.requires has) c.versions_of.ensures.some c.versions_of.ensures.none;
      json_is = flag_read (json_in c.requires.given) c.get_flag.result _
          (flag_found c.args.kinds words c.in-Ok.matches c.requires has) c.get_flag.ensures.value c.get_flag.ensures.other;
    }
