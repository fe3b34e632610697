-- From options to the answer.
use Rattle.std.proofs.Common.{◌≡◌, ℕ, zero, suc, ◌≤◌, Bool, true, false, List, [], ◌∷◌, refl, sym, ap, subst, ◌∙◌, inl, inr, codes, arith, true≢false}
use Rattle.std.specs.Prelude.{◌<◌, ◌&&◌, ◌++◌, length, All, nat_lt, Result, Ok, Err, slice_index_or, if◌then◌else◌}
use Rattle.std.specs.List.{list_all}
use Rattle.std.specs.Str.{bytes_eq}
use Rattle.script_tree.specs.declared.limits.TheConstants.{VERSIONS}
use Rattle.std.specs.Str.{IsUtf8, IsAscii}
use Rattle.std.specs.Str.Parse.{AllDigits, digits_value}
use Rattle.std.specs.Char.{digit_value}
use Rattle.std.proofs.lemmas.Str.{IsUtf8-from_ascii}
use Rattle.std.proofs.lemmas.Bool.{and_parts}
use Rattle.std.proofs.lemmas.Bool.Decides.{nat_tests}
use Rattle.std.proofs.lemmas.List.Folds.{list_all-append}
use Rattle.command_words.specs.declared.command.Command.{Command}
use Rattle.command_words.specs.declared.command.WordsFault.{WordsFault}
use Rattle.command_words.specs.declared.command.WordsFault.TheVariants.{Refused, Memory}
use Rattle.command_words.specs.declared.kinds.Kinds.{Kinds}
use Rattle.command_words.specs.declared.verb.Verb.{Verb}
use Rattle.command_words.specs.declared.verb.Verb.TheVariants as verb
use Rattle.command_words.specs.Words.{IsNumber}
use Rattle.command_words.specs.Options.{Given, Json, Versions, IsBlock, AreBlocks, AreOptions, AreNoOptions}
use Rattle.command_words.specs.Table.{IsOperand, AsksByTable}
use Rattle.command_words.specs.Words.{HasFewVersions}
use Rattle.command_words.specs.Options.{versions_in, json_in}
use Rattle.command_words.specs.Table.{ReadsByTable, word_of, takes_number, kinds_of, asked}
use Rattle.command_words.specs.Blocks.{Gives, AsksByOptions, ReadsOptions}
use Rattle.command_words.proofs.Blocks.{Text, first_word, tail, one_given}

-- ---- a command line is ASCII, so it is text

abbrev is_ascii : List ℕ → Bool
is_ascii [] = true
is_ascii (b ∷ bs) = nat_lt b 128 && is_ascii bs

ascii_at : (bs : List ℕ) → is_ascii bs ≡ true → IsAscii bs
ascii_at [] h i = omega arith
ascii_at (b ∷ bs) h zero = grind (arith, nat_tests, (and_parts (nat_lt b 128) (is_ascii bs) h).0)
ascii_at (b ∷ bs) h (suc i) = ascii_at bs (and_parts (nat_lt b 128) (is_ascii bs) h).1 i

digit_ascii : (c : ℕ) → digit_value c < 10 → nat_lt c 128 ≡ true
digit_ascii c h = grind (arith, nat_tests, h)

digits_ascii : (ds : Text) → AllDigits 10 ds → is_ascii ds ≡ true
digits_ascii [] h = refl
digits_ascii (d ∷ ds) h = rw (digit_ascii d h.0, digits_ascii ds h.1) refl

all_text : (words : List Text) → list_all is_ascii words ≡ true → All IsUtf8 words
all_text [] h k d within = absurd (omega (arith, within))
all_text (w ∷ ws) h zero d within = IsUtf8-from_ascii w (ascii_at w (and_parts (is_ascii w) (list_all is_ascii ws) h).0)
all_text (w ∷ ws) h (suc k) d within = all_text ws (and_parts (is_ascii w) (list_all is_ascii ws) h).1 k d (omega (arith, within))

block_ascii : (option : Given) (block : List Text) → IsBlock option block → list_all is_ascii block ≡ true
block_ascii Json block is = subst (λ ws. list_all is_ascii ws ≡ true) (sym is) refl
block_ascii (Versions text) block is =
    let h = digits_ascii text is.0.digits.1 in
    elim is.1 [
      | inl behind ↦ subst (λ ws. list_all is_ascii ws ≡ true) (sym behind) (rw h refl)
      | inr within ↦ subst (λ ws. list_all is_ascii ws ≡ true) (sym within) (rw h refl)
    ]

blocks_ascii : (given : List Given) (words : List Text) → AreBlocks given words → list_all is_ascii words ≡ true
blocks_ascii [] words blocks = subst (λ ws. list_all is_ascii ws ≡ true) (sym blocks) refl
blocks_ascii (option ∷ given) words blocks =
    subst (λ ws. list_all is_ascii ws ≡ true) (sym blocks.2)
    (list_all-append is_ascii blocks.0 blocks.1 ∙ rw (block_ascii option blocks.0 blocks.3, blocks_ascii given blocks.1 blocks.4) refl)

verb_ascii : (verb : Verb) → is_ascii (word_of verb) ≡ true
verb_ascii verb.Run = refl
verb_ascii verb.Replay = refl
verb_ascii verb.Serial = refl
verb_ascii verb.Print = refl
verb_ascii verb.Check = refl
verb_ascii verb.Make = refl

-- an operand, by whether there is one
abbrev IsTaken : Bool → List Text → ℕ → Type 0
IsTaken false words number = (words ≡ []) × (number ≡ 0)
IsTaken true words number = (text : Text) × (words ≡ text ∷ []) × IsNumber text × (number ≡ digits_value 10 text)

taken : (verb : Verb) (words : List Text) (number : ℕ) → IsOperand verb words number → IsTaken (takes_number verb) words number
taken verb.Run words number is = is
taken verb.Replay words number is = is
taken verb.Serial words number is = is
taken verb.Print words number is = is
taken verb.Check words number is = is
taken verb.Make words number is = is

is_operand : (verb : Verb) (words : List Text) (number : ℕ) → IsTaken (takes_number verb) words number → IsOperand verb words number
is_operand verb.Run words number is = is
is_operand verb.Replay words number is = is
is_operand verb.Serial words number is = is
is_operand verb.Print words number is = is
is_operand verb.Check words number is = is
is_operand verb.Make words number is = is

operand_ascii : (takes : Bool) (words : List Text) (number : ℕ) → IsTaken takes words number → list_all is_ascii words ≡ true
operand_ascii false words number is = subst (λ ws. list_all is_ascii ws ≡ true) (sym is.0) refl
operand_ascii true words number is = subst (λ ws. list_all is_ascii ws ≡ true) (sym is.1) (rw (digits_ascii is.0 is.2.digits.1) refl)

pub line_text : (words : List Text) (command : Command) → AsksByTable words command → All IsUtf8 words
line_text words command a =
    let operand = operand_ascii (takes_number a.verb) a.operand a.number (taken a.verb a.operand a.number a.takes) in
    let behind = list_all-append is_ascii a.operand a.options ∙ rw (operand, blocks_ascii a.given a.options a.are.blocks) refl in
    subst (All IsUtf8) (sym a.words_are) (all_text (word_of a.verb ∷ (a.operand ++ a.options)) (rw (verb_ascii a.verb, behind) refl))

-- not all are, where one isn't
pub one_not : (words : List Text) (k : ℕ) (d : Text) → k < length words → (IsUtf8 (slice_index_or words k d) → ⊥) → All IsUtf8 words → ⊥
one_not words k d within not_one all = not_one (all k d within)

abbrev is_refused : WordsFault → Bool
is_refused Refused = true
is_refused Memory = false

refused_is_not_memory : Refused ≡ Memory → ⊥
refused_is_not_memory e = true≢false (ap is_refused e)

pub memory_only : (kinds : Kinds) (words : List Text) (fault : WordsFault) → fault ≡ Memory → fault ≡ Refused → AreNoOptions kinds words
memory_only kinds words fault is same = absurd (refused_is_not_memory (sym same ∙ is))

-- ---- the first word

pub nothing_asked : (command : Command) → AsksByTable [] command → ⊥
nothing_asked command a = absurd (omega (arith, ap length a.words_are))

pub no_verb : (first : Text) (rest : List Text) → ((verb : Verb) → first ≡ word_of verb → ⊥) → (command : Command)
    → AsksByTable (first ∷ rest) command → ⊥
no_verb word rest none command a = none a.verb (ap first_word a.words_are)

-- ---- a command's word

-- the command of a word
abbrev verb_of : Text → Verb
verb_of word = if bytes_eq word (codes "run") then verb.Run
    else (if bytes_eq word (codes "replay") then verb.Replay else (if bytes_eq word (codes "serial") then verb.Serial
    else (if bytes_eq word (codes "print") then verb.Print else (if bytes_eq word (codes "check") then verb.Check else verb.Make))))

verb_read : (verb : Verb) → verb_of (word_of verb) ≡ verb
verb_read verb.Run = refl
verb_read verb.Replay = refl
verb_read verb.Serial = refl
verb_read verb.Print = refl
verb_read verb.Check = refl
verb_read verb.Make = refl

pub one_verb : (a b : Verb) → word_of a ≡ word_of b → a ≡ b
one_verb a b e = sym (verb_read a) ∙ ap verb_of e ∙ verb_read b

-- ---- options

pub options_given : (verb : Verb) (number : ℕ) (options : List Text) (versions : ℕ) (json : Bool)
    → Gives (kinds_of verb) options versions json → AsksByOptions verb number options (asked verb number versions json)
options_given verb number options versions json gives = record {
  given = gives.given;
  are = gives.are;
  command_is = ap (λ n. asked verb number n json) gives.versions_are ∙ ap (asked verb number (versions_in gives.given)) gives.json_is;
}

pub options_denied : (verb : Verb) (number : ℕ) (options : List Text) (fault : WordsFault)
    → (fault ≡ Refused → AreNoOptions (kinds_of verb) options) → ReadsOptions verb number options (Err fault)
options_denied verb number options Refused none = none refl
options_denied verb number options Memory none = tt

pub ruleset options_asked = (options_given, options_denied)

-- ---- the operand and the options behind a command's word

same_behind : (takes : Bool) (xs ys before after : List Text) (m n : ℕ) → IsTaken takes xs m → IsTaken takes ys n
    → xs ++ before ≡ ys ++ after → (m ≡ n) × (before ≡ after)
same_behind false xs ys before after m n f g e =
    (f.1 ∙ sym g.1, ap (λ ws. ws ++ before) (sym f.0) ∙ e ∙ ap (λ ws. ws ++ after) g.0)
same_behind true xs ys before after m n f g e =
    let same : f.0 ∷ before ≡ g.0 ∷ after = ap (λ ws. ws ++ before) (sym f.1) ∙ e ∙ ap (λ ws. ws ++ after) g.1 in
    (f.3 ∙ ap (digits_value 10) (ap first_word same) ∙ sym g.3, ap tail same)

asks : (verb : Verb) (operand options : List Text) (number : ℕ) (command : Command) → IsTaken (takes_number verb) operand number
    → AsksByOptions verb number options command → AsksByTable (word_of verb ∷ (operand ++ options)) command
asks verb operand options number command takes by = record {
  verb = verb;
  operand = operand;
  number = number;
  options = options;
  given = by.given;
  words_are = refl;
  takes = is_operand verb operand number takes;
  are = by.are;
  command_is = by.command_is;
}

asks_none : (verb : Verb) (operand options : List Text) (number : ℕ) (command : Command) → IsTaken (takes_number verb) operand number
    → AreNoOptions (kinds_of verb) options → AsksByTable (word_of verb ∷ (operand ++ options)) command → ⊥
asks_none verb operand options number command takes none a =
    let same = one_verb a.verb verb (sym (ap first_word a.words_are)) in
    let operands = subst (λ v. IsTaken (takes_number v) a.operand a.number) same (taken a.verb a.operand a.number a.takes) in
    let behind = (same_behind (takes_number verb) operand a.operand options a.options number a.number takes operands
    (ap tail a.words_are)).1 in
    let are = subst (λ v. AreOptions (kinds_of v) a.given a.options) same a.are in
    none.none a.given (subst (AreOptions (kinds_of verb) a.given) (sym behind) are)

reads_words : (verb : Verb) (operand options : List Text) (number : ℕ) (r : Result Command WordsFault)
    → IsTaken (takes_number verb) operand number → ReadsOptions verb number options r → ReadsByTable (word_of verb ∷ (operand ++ options)) r
reads_words verb operand options number (Ok command) takes read = asks verb operand options number command takes read
reads_words verb operand options number (Err Refused) takes read = λ command. asks_none verb operand options number command takes read
reads_words verb operand options number (Err Memory) takes read = tt

-- a command without a number
pub plain_read : (verb : Verb) (word : Text) (options : List Text) (r : Result Command WordsFault) → word ≡ word_of verb
    → takes_number verb ≡ false → ReadsOptions verb 0 options r → ReadsByTable (word ∷ options) r
plain_read verb word options r is takes read = subst (λ (w : Text). ReadsByTable (w ∷ options) r) (sym is)
    (reads_words verb [] options 0 r (subst (λ t. IsTaken t [] 0) (sym takes) (refl, refl)) read)

pub named_read : (verb : Verb) (word : Text) (behind : List Text) (r : Result Command WordsFault) → word ≡ word_of verb
    → ReadsByTable (word_of verb ∷ behind) r → ReadsByTable (word ∷ behind) r
named_read verb word behind r is read = subst (λ (w : Text). ReadsByTable (w ∷ behind) r) (sym is) read

pub ruleset command_laws = (no_verb, plain_read, named_read)

-- a command with a number
pub numbered_read : (verb : Verb) (text : Text) (options : List Text) (number : ℕ) (r : Result Command WordsFault)
    → takes_number verb ≡ true → IsNumber text → number ≡ digits_value 10 text → ReadsOptions verb number options r
    → ReadsByTable (word_of verb ∷ text ∷ options) r
numbered_read verb text options number r takes is same read =
    reads_words verb (text ∷ []) options number r (subst (λ t. IsTaken t (text ∷ []) number) (sym takes) (text, refl, is, same)) read

-- what stands behind the word of a command that takes a number begins with one
has_number : (verb : Verb) (behind : List Text) (command : Command) → takes_number verb ≡ true → AsksByTable (word_of verb ∷ behind) command
    → (text : Text) × (rest : List Text) × IsNumber text × (behind ≡ text ∷ rest)
has_number verb behind command takes a =
    let same = one_verb a.verb verb (sym (ap first_word a.words_are)) in
    let operand = subst (λ t. IsTaken t a.operand a.number) (ap takes_number same ∙ takes) (taken a.verb a.operand a.number a.takes) in
    (operand.0, a.options, operand.2, ap tail a.words_are ∙ ap (λ ws. ws ++ a.options) operand.1)

pub none_behind : (verb : Verb) (command : Command) → takes_number verb ≡ true → AsksByTable (word_of verb ∷ []) command → ⊥
none_behind verb command takes a = let h = has_number verb [] command takes a in absurd (omega (arith, ap length h.3))

pub not_number : (verb : Verb) (text : Text) (options : List Text) (command : Command) → takes_number verb ≡ true → (IsNumber text → ⊥)
    → AsksByTable (word_of verb ∷ text ∷ options) command → ⊥
not_number verb text options command takes none a =
    let h = has_number verb (text ∷ options) command takes a in none (subst IsNumber (sym (ap first_word h.3)) h.2)

pub ruleset numbered_laws = (numbered_read, none_behind, not_number)

-- ---- words ask for one command alone

pub one_command : (words : List Text) (a b : Command) → AsksByTable words a → AsksByTable words b → a ≡ b
one_command words a b x y =
    let words_same = sym x.words_are ∙ y.words_are in
    let same = one_verb x.verb y.verb (ap first_word words_same) in
    let operands = subst (λ v. IsTaken (takes_number v) x.operand x.number) same (taken x.verb x.operand x.number x.takes) in
    let behind = same_behind (takes_number y.verb) x.operand y.operand x.options y.options x.number y.number operands
    (taken y.verb y.operand y.number y.takes) (ap tail words_same) in
    let given = one_given x.given y.given x.options x.are.blocks (subst (AreBlocks y.given) (sym behind.1) y.are.blocks) in
    x.command_is ∙ ap (λ v. asked v x.number (versions_in x.given) (json_in x.given)) same
    ∙ ap (λ n. asked y.verb n (versions_in x.given) (json_in x.given)) behind.0
    ∙ ap (λ g. asked y.verb y.number (versions_in g) (json_in g)) given ∙ sym y.command_is

-- ---- limits

given_few : (given : List Given) (words : List Text) → AreBlocks given words → versions_in given ≤ VERSIONS
given_few [] words blocks = omega arith
given_few (Json ∷ given) words blocks = given_few given blocks.1 blocks.4
given_few (Versions text ∷ given) words blocks = blocks.3.0.within

verb_few : (verb : Verb) (number versions : ℕ) (json : Bool) → versions ≤ VERSIONS → HasFewVersions (asked verb number versions json)
verb_few verb.Run number versions json few = few
verb_few verb.Replay number versions json few = few
verb_few verb.Serial number versions json few = few
verb_few verb.Print number versions json few = tt
verb_few verb.Check number versions json few = few
verb_few verb.Make number versions json few = tt

pub few_versions : (words : List Text) (command : Command) → AsksByTable words command → HasFewVersions command
few_versions words command a = subst HasFewVersions (sym a.command_is)
    (verb_few a.verb a.number (versions_in a.given) (json_in a.given) (given_few a.given a.options a.are.blocks))
