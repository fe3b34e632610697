-- What is read of what the parser of options found.
use Rattle.std.proofs.Common.{◌≡◌, ℕ, Bool, true, false, List, [], ◌∷◌, Option, Some, None, refl, sym, ap, subst, ◌∙◌, codes}
use Rattle.std.specs.Prelude.{option_map, IfSome, IfNone}
use Rattle.std.specs.Borrow.{Bor}
use Rattle.std.specs.Str.Parse.{digits_value}
use Rattle.script_tree.specs.declared.limits.TheConstants.{VERSIONS}
use Rattle.clap.specs.Words.{Text, HasMatchesOf, first_of, one_of, is_simple, takes, found_of}
use Rattle.clap.specs.Matches.{first_value, one_text}
use Rattle.clap.specs.declared.parser.ArgMatches.{ArgMatches}
use Rattle.clap.proofs.WalkLemmas.{first_value-rows, one_text-rows}
use Rattle.clap.proofs.OnLiterals.{clap_on_literals}
use Rattle.command_words.specs.declared.kinds.Kinds.{Kinds}
use Rattle.command_words.specs.Words.{IsLimit}
use Rattle.command_words.specs.Options.{Given, Json, Versions, AreBlocks, versions_in, json_in}
use Rattle.command_words.specs.Blocks.{AreSome}
use Rattle.command_words.specs.Parser.{app}
use Rattle.command_words.proofs.Among.{among_kept}
use Rattle.command_words.proofs.Walks.{Reads, reads, text_in, flag_text}

app_simple : is_simple app ≡ true
unfolding clap_on_literals
app_simple = refl

parsed : (kinds : Kinds) (words : List Text) (some : AreSome kinds words) → Reads some.given words
parsed kinds words some = reads kinds some.given words some.are.blocks (among_kept kinds some.given some.are.may some.are.once)

pub options_taken : (kinds : Kinds) (words : List Text) → AreSome kinds words → takes app words ≡ true
options_taken kinds words some = (parsed kinds words some).taken

pub limit_found : (kinds : Kinds) (words : List Text) (m : ArgMatches) (some : AreSome kinds words) → HasMatchesOf app words m
    → first_value (found_of m) (codes "versions") ≡ text_in some.given
limit_found kinds words m some has = first_value-rows (found_of m) (codes "versions") ∙ ap (first_of (codes "versions")) (has app_simple).0
    ∙ (parsed kinds words some).limit

pub flag_found : (kinds : Kinds) (words : List Text) (m : ArgMatches) (some : AreSome kinds words) → HasMatchesOf app words m
    → one_text (found_of m) (codes "json") ≡ Some (flag_text (json_in some.given))
flag_found kinds words m some has = one_text-rows (found_of m) (codes "json") ∙ ap (one_of (codes "json")) (has app_simple).0
    ∙ (parsed kinds words some).flag

-- the text that is given is a limit, and its number the limit

given_limit : (given : List Given) (words : List Text) → AreBlocks given words → IfSome (text_in given) IsLimit
given_limit [] words blocks = tt
given_limit (Json ∷ given) words blocks = given_limit given blocks.1 blocks.4
given_limit (Versions text ∷ given) words blocks = blocks.3.0

pub text_is_limit : (given : List Given) (words : List Text) (o : Option (Bor Text)) → AreBlocks given words
    → option_map (λ s. s.now) o ≡ text_in given → IfSome o (λ t. IsLimit t.now)
text_is_limit given words None blocks e = tt
text_is_limit given words (Some t) blocks e = subst (λ (x : Option Text). IfSome x IsLimit) (sym e) (given_limit given words blocks)

limit_of : (given : List Given) (limit : ℕ) → IfSome (text_in given) (λ text. limit ≡ digits_value 10 text)
    → IfNone (text_in given) (limit ≡ VERSIONS) → limit ≡ versions_in given
limit_of [] limit some none = none
limit_of (Json ∷ given) limit some none = limit_of given limit some none
limit_of (Versions text ∷ given) limit some none = some

pub limit_read : (given : List Given) (o : Option (Bor Text)) (limit : ℕ) → option_map (λ s. s.now) o ≡ text_in given
    → IfSome o (λ t. limit ≡ digits_value 10 t.now) → IfNone o (limit ≡ VERSIONS) → limit ≡ versions_in given
limit_read given None limit e some none = limit_of given limit (subst (λ x. IfSome x (λ text. limit ≡ digits_value 10 text)) e tt)
    (subst (λ (x : Option Text). IfNone x (limit ≡ VERSIONS)) e none)
limit_read given (Some t) limit e some none = limit_of given limit (subst (λ x. IfSome x (λ text. limit ≡ digits_value 10 text)) e some)
    (subst (λ (x : Option Text). IfNone x (limit ≡ VERSIONS)) e tt)

pub flag_read : (json flag : Bool) (found : Option Text) → found ≡ Some (flag_text json) → (found ≡ Some (codes "true") → flag ≡ true)
    → (found ≡ Some (codes "false") → flag ≡ false) → flag ≡ json
flag_read true flag found e when_true when_false = when_true e
flag_read false flag found e when_true when_false = when_false e
