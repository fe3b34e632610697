-- A command line is one by the table of commands, and the other way round.
use Rattle.std.proofs.Common.{◌≡◌, ℕ, Bool, true, false, List, [], ◌∷◌, ◌++◌, refl, sym, ap, subst, ◌∙◌, inl, inr, codes}
use Rattle.std.proofs.Common.{append-nil, true≢false}
use Rattle.std.specs.Prelude.{◌⊎◌, All, Result, Ok, Err, if◌then◌else◌}
use Rattle.std.specs.Str.{IsUtf8}
use Rattle.script_tree.specs.declared.limits.TheConstants.{VERSIONS}
use Rattle.command_words.specs.declared.command.Command.{Command}
use Rattle.command_words.specs.declared.command.Command.TheVariants.{Run, Replay, Serial, Print, Check, Make}
use Rattle.command_words.specs.declared.command.WordsFault.{WordsFault}
use Rattle.command_words.specs.declared.command.WordsFault.TheVariants.{Refused, Memory}
use Rattle.command_words.specs.declared.kinds.Kinds.{Kinds}
use Rattle.command_words.specs.declared.verb.Verb.{Verb}
use Rattle.command_words.specs.declared.verb.Verb.TheVariants as verb
use Rattle.command_words.specs.Words.{GivesLimit, IsLine, AsksFor, HasFewVersions, ReadsWords}
use Rattle.command_words.specs.Options.{Given, Json, Versions, AreBlocks, versions_in, json_in}
use Rattle.command_words.specs.Table.{word_of, kinds_of, asked, IsOperand, AsksByTable, ReadsByTable}
use Rattle.command_words.proofs.Among.{AreAmong, among_kept, among_may, among_once}
use Rattle.command_words.proofs.Asked.{line_text, nothing_asked, one_command, few_versions}
use Rattle.command_words.proofs.Blocks.{Text}

-- ---- from the table

-- options that are given are those of a line
line_of : (kinds : Kinds) (word : Text) (given : List Given) (options : List Text) → AreBlocks given options → AreAmong kinds given
    → IsLine word (versions_in given) (json_in given) (word ∷ options)
line_of kinds word [] options blocks among = record {
  limit = [];
  flag = [];
  versions_are = inr (refl, refl);
  json_is = refl;
  words_are = inl (ap (λ ws. word ∷ ws) blocks);
}
line_of kinds word (Json ∷ []) options blocks among = record {
  limit = [];
  flag = codes "--json" ∷ [];
  versions_are = inr (refl, refl);
  json_is = refl;
  words_are = inl (ap (λ ws. word ∷ ws) (blocks.2 ∙ ap (λ b. b ++ blocks.1) blocks.3 ∙ ap (λ r. codes "--json" ∷ r) blocks.4));
}
line_of kinds word (Versions text ∷ []) options blocks among = record {
  limit = blocks.0;
  flag = [];
  versions_are = inl (record { text = text; limit = blocks.3.0; number = refl; spelled = blocks.3.1 });
  json_is = refl;
  words_are = inl (ap (λ ws. word ∷ ws) (blocks.2 ∙ ap (λ r. blocks.0 ++ r) blocks.4));
}
line_of kinds word (Json ∷ Versions text ∷ []) options blocks among =
    let more = blocks.4 in
    record {
      limit = more.0;
      flag = codes "--json" ∷ [];
      versions_are = inl (record { text = text; limit = more.3.0; number = refl; spelled = more.3.1 });
      json_is = refl;
      words_are = inr (ap (λ ws. word ∷ ws) (blocks.2 ∙ ap (λ b. b ++ blocks.1) blocks.3
          ∙ ap (λ r. codes "--json" ∷ r) (more.2 ∙ ap (λ r. more.0 ++ r) more.4 ∙ append-nil more.0)));
    }
line_of kinds word (Versions text ∷ Json ∷ []) options blocks among =
    let more = blocks.4 in
    record {
      limit = blocks.0;
      flag = codes "--json" ∷ [];
      versions_are = inl (record { text = text; limit = blocks.3.0; number = refl; spelled = blocks.3.1 });
      json_is = refl;
      words_are = inl (ap (λ ws. word ∷ ws) (blocks.2
          ∙ ap (λ r. blocks.0 ++ r) (more.2 ∙ ap (λ b. b ++ more.1) more.3 ∙ ap (λ r. codes "--json" ∷ r) more.4)));
    }
line_of kinds word (Json ∷ Json ∷ given) options blocks among = absurd (true≢false (sym among.1.0))
line_of kinds word (Versions text ∷ Versions other ∷ given) options blocks among = absurd (true≢false (sym among.1.0))
line_of kinds word (Json ∷ Versions text ∷ Json ∷ given) options blocks among = absurd (true≢false (sym among.1.1.0))
line_of kinds word (Json ∷ Versions text ∷ Versions other ∷ given) options blocks among = absurd (true≢false (sym among.1.1.0))
line_of kinds word (Versions text ∷ Json ∷ Json ∷ given) options blocks among = absurd (true≢false (sym among.1.1.0))
line_of kinds word (Versions text ∷ Json ∷ Versions other ∷ given) options blocks among = absurd (true≢false (sym among.1.1.0))

-- where no kind may be given there are no options
no_options : (given : List Given) (options : List Text) → AreBlocks given options
    → AreAmong (record { json = false; versions = false }) given → options ≡ []
no_options [] options blocks among = blocks
no_options (Json ∷ given) options blocks among = absurd (true≢false (sym among.0))
no_options (Versions text ∷ given) options blocks among = absurd (true≢false (sym among.0))

-- where JSON may not be asked for it isn't
no_json : (kinds : Kinds) (given : List Given) → kinds.json ≡ false → AreAmong kinds given → json_in given ≡ false
no_json kinds [] none among = refl
no_json kinds (Json ∷ given) none among = absurd (true≢false (sym among.0 ∙ none))
no_json kinds (Versions text ∷ given) none among = no_json (record kinds { versions = false }) given none among.1

behind : (word : Text) (operand options : List Text) (versions : ℕ) (json : Bool) → operand ≡ []
    → IsLine word versions json (word ∷ options) → IsLine word versions json (word ∷ (operand ++ options))
behind word operand options versions json none line = subst (λ (front : List Text). IsLine word versions json (word ∷ (front ++ options)))
    (sym none) line

asks : (verb : Verb) (operand options : List Text) (number : ℕ) (given : List Given) → IsOperand verb operand number
    → AreBlocks given options → AreAmong (kinds_of verb) given
    → AsksFor (word_of verb ∷ (operand ++ options)) (asked verb number (versions_in given) (json_in given))
asks verb.Run operand options number given takes blocks among =
    behind (codes "run") operand options _ _ takes.0 (line_of (kinds_of verb.Run) (codes "run") given options blocks among)
asks verb.Replay operand options number given takes blocks among =
    behind (codes "replay") operand options _ _ takes.0 (line_of (kinds_of verb.Replay) (codes "replay") given options blocks among)
asks verb.Serial operand options number given takes blocks among =
    behind (codes "serial") operand options _ _ takes.0 (line_of (kinds_of verb.Serial) (codes "serial") given options blocks among)
asks verb.Print operand options number given takes blocks among =
    ap (λ front. codes "print" ∷ (front ++ options)) takes.0 ∙ ap (λ ws. codes "print" ∷ ws) (no_options given options blocks among)
asks verb.Check operand options number given takes blocks among =
    behind (codes "check") operand options _ _ takes.0
    (subst (λ json. IsLine (codes "check") (versions_in given) json (codes "check" ∷ options))
    (no_json (kinds_of verb.Check) given refl among) (line_of (kinds_of verb.Check) (codes "check") given options blocks among))
asks verb.Make operand options number given takes blocks among = (
  takes.0,
  ap (λ front. codes "make" ∷ (front ++ options)) takes.1
      ∙ ap (λ ws. codes "make" ∷ takes.0 ∷ ws) (no_options given options blocks among),
  takes.2,
  takes.3,
)

from_table : (words : List Text) (command : Command) → AsksByTable words command → AsksFor words command
from_table words command a =
    let among = among_kept (kinds_of a.verb) a.given a.are.may a.are.once in
    let line = asks a.verb a.operand a.options a.number a.given a.takes a.are.blocks among in
    subst (AsksFor words) (sym a.command_is)
    (subst (λ ws. AsksFor ws (asked a.verb a.number (versions_in a.given) (json_in a.given))) (sym a.words_are) line)

-- ---- to the table

-- the options of a line, as they are given
record AreGiven (kinds : Kinds) (word : Text) (versions : ℕ) (json : Bool) (words : List Text) : Type 0 where
  given : List Given
  options : List Text
  words_are : words ≡ word ∷ options
  blocks : AreBlocks given options
  among : AreAmong kinds given
  versions_are : versions ≡ versions_in given
  json_is : json ≡ json_in given

given_in : (kinds : Kinds) (word : Text) (versions : ℕ) (json : Bool) (words limit flag : List Text)
    → GivesLimit versions limit ⊎ ((limit ≡ []) × (versions ≡ VERSIONS)) → flag ≡ (if json then codes "--json" ∷ [] else [])
    → (words ≡ word ∷ (limit ++ flag)) ⊎ (words ≡ word ∷ (flag ++ limit)) → kinds.versions ≡ true → (json ≡ true → kinds.json ≡ true)
    → AreGiven kinds word versions json words
given_in kinds word versions false words limit flag (inr none) flag_is order may may_json = record {
  given = [];
  options = [];
  words_are = elim order [
    | inl e ↦ e ∙ ap (λ ws. word ∷ ws) (ap (λ l. l ++ flag) none.0 ∙ flag_is)
    | inr e ↦ e ∙ ap (λ ws. word ∷ ws) (ap (λ f. f ++ limit) flag_is ∙ none.0)
  ];
  blocks = refl;
  among = tt;
  versions_are = none.1;
  json_is = refl;
}
given_in kinds word versions true words limit flag (inr none) flag_is order may may_json = record {
  given = Json ∷ [];
  options = codes "--json" ∷ [];
  words_are = elim order [
    | inl e ↦ e ∙ ap (λ ws. word ∷ ws) (ap (λ l. l ++ flag) none.0 ∙ flag_is)
    | inr e ↦ e ∙ ap (λ ws. word ∷ ws) (ap (λ f. f ++ limit) flag_is ∙ ap (λ l. codes "--json" ∷ l) none.0)
  ];
  blocks = (codes "--json" ∷ [], [], refl, refl, refl);
  among = (may_json refl, tt);
  versions_are = none.1;
  json_is = refl;
}
given_in kinds word versions false words limit flag (inl gives) flag_is order may may_json = record {
  given = Versions gives.text ∷ [];
  options = limit;
  words_are = elim order [
    | inl e ↦ e ∙ ap (λ ws. word ∷ ws) (ap (λ f. limit ++ f) flag_is ∙ append-nil limit)
    | inr e ↦ e ∙ ap (λ ws. word ∷ ws) (ap (λ f. f ++ limit) flag_is)
  ];
  blocks = (limit, [], sym (append-nil limit), (gives.limit, gives.spelled), refl);
  among = (may, tt);
  versions_are = gives.number;
  json_is = refl;
}
given_in kinds word versions true words limit flag (inl gives) flag_is (inl e) may may_json = record {
  given = Versions gives.text ∷ Json ∷ [];
  options = limit ++ codes "--json" ∷ [];
  words_are = e ∙ ap (λ f. word ∷ (limit ++ f)) flag_is;
  blocks = (limit, codes "--json" ∷ [], refl, (gives.limit, gives.spelled), (codes "--json" ∷ [], [], refl, refl, refl));
  among = (may, (may_json refl, tt));
  versions_are = gives.number;
  json_is = refl;
}
given_in kinds word versions true words limit flag (inl gives) flag_is (inr e) may may_json = record {
  given = Json ∷ Versions gives.text ∷ [];
  options = codes "--json" ∷ limit;
  words_are = e ∙ ap (λ f. word ∷ (f ++ limit)) flag_is;
  blocks = (codes "--json" ∷ [], limit, refl, refl, (limit, [], sym (append-nil limit), (gives.limit, gives.spelled), refl));
  among = (may_json refl, (may, tt));
  versions_are = gives.number;
  json_is = refl;
}

given_of : (kinds : Kinds) (word : Text) (versions : ℕ) (json : Bool) (words : List Text) → IsLine word versions json words
    → kinds.versions ≡ true → (json ≡ true → kinds.json ≡ true) → AreGiven kinds word versions json words
given_of kinds word versions json words line may may_json =
    given_in kinds word versions json words line.limit line.flag line.versions_are line.json_is line.words_are may may_json

-- options behind a command's word, which takes no operand
tabled : (verb : Verb) (versions : ℕ) (json : Bool) (words : List Text) → AreGiven (kinds_of verb) (word_of verb) versions json words
    → IsOperand verb [] 0 → AsksByTable words (asked verb 0 versions json)
tabled verb versions json words g takes = record {
  verb = verb;
  operand = [];
  number = 0;
  options = g.options;
  given = g.given;
  words_are = g.words_are;
  takes = takes;
  are = record {
    blocks = g.blocks;
    may = among_may (kinds_of verb) g.given g.among;
    once = among_once (kinds_of verb) g.given g.among;
  };
  command_is = ap (λ n. asked verb 0 n json) g.versions_are ∙ ap (asked verb 0 (versions_in g.given)) g.json_is;
}

none_given : (kinds : Kinds) (word : Text) (words : List Text) → words ≡ word ∷ [] → AreGiven kinds word VERSIONS false words
none_given kinds word words e = record {
  given = [];
  options = [];
  words_are = e;
  blocks = refl;
  among = tt;
  versions_are = refl;
  json_is = refl;
}

by_table : (words : List Text) (command : Command) → AsksFor words command → AsksByTable words command
by_table words (Run versions json) line =
    tabled verb.Run versions json words (given_of (kinds_of verb.Run) (codes "run") versions json words line refl (λ _. refl)) (refl, refl)
by_table words (Replay versions json) line =
    tabled verb.Replay versions json words (given_of (kinds_of verb.Replay) (codes "replay") versions json words line refl (λ _. refl))
    (refl, refl)
by_table words (Serial versions json) line =
    tabled verb.Serial versions json words (given_of (kinds_of verb.Serial) (codes "serial") versions json words line refl (λ _. refl))
    (refl, refl)
by_table words Print line =
    tabled verb.Print VERSIONS false words (none_given (kinds_of verb.Print) (codes "print") words line) (refl, refl)
by_table words (Check versions) line =
    tabled verb.Check versions false words
    (given_of (kinds_of verb.Check) (codes "check") versions false words line refl (λ e. absurd (true≢false (sym e)))) (refl, refl)
by_table words (Make number) line = record {
  verb = verb.Make;
  operand = line.0 ∷ [];
  number = number;
  options = [];
  given = [];
  words_are = line.1;
  takes = (line.0, refl, line.2, line.3);
  are = record { blocks = refl; may = tt; once = among_once (kinds_of verb.Make) [] tt };
  command_is = refl;
}

-- ---- what was read by the table

pub read_by_table : (words : List Text) (r : Result Command WordsFault) → ReadsByTable words r → ReadsWords words r
read_by_table words (Ok command) read = from_table words command read
read_by_table words (Err Refused) read = λ command line. read command (by_table words command line)
read_by_table words (Err Memory) read = tt

-- words that are no text ask for nothing
pub no_text : (words : List Text) (fault : WordsFault) → (fault ≡ Refused → All IsUtf8 words → ⊥) → ReadsWords words (Err fault)
no_text words Refused none = λ command line. none refl (line_text words command (by_table words command line))
no_text words Memory none = tt

pub none_asked : (command : Command) → AsksFor [] command → ⊥
none_asked command line = nothing_asked command (by_table [] command line)

-- ---- laws

pub asked_once : (words : List Text) (a b : Command) → AsksFor words a → AsksFor words b → a ≡ b
asked_once words a b x y = one_command words a b (by_table words a x) (by_table words b y)

pub asked_few : (words : List Text) (command : Command) → AsksFor words command → HasFewVersions command
asked_few words command line = few_versions words command (by_table words command line)
