-- From the first block to whether words are options.
use Rattle.std.proofs.Common.{◌≡◌, ℕ, ◌-◌, ◌≤◌, ◌<◌, true, false, List, [], ◌∷◌, ◌++◌, map, length, take, drop, refl, sym, ap, subst, ◌∙◌}
use Rattle.std.proofs.Common.{length-drop, inl, inr, codes, arith, true≢false}
use Rattle.std.specs.Prelude.{slice_index_or}
use Rattle.std.specs.Str.{bytes_eq}
use Rattle.std.specs.Borrow.{Bor}
use Rattle.std.proofs.lemmas.List.{take-append-drop, drop-map, take_all, length-map}
use Rattle.std.proofs.lemmas.Bool.{and_parts}
use Rattle.script_tree.proofs.Texts.{same_text}
use Rattle.command_words.specs.declared.kinds.Kind.{Kind}
use Rattle.command_words.specs.declared.kinds.Kind.TheVariants as kind
use Rattle.command_words.specs.declared.kinds.Kinds.{Kinds}
use Rattle.command_words.specs.Options.{Given, Json, Versions, kind_of, has, IsBlock, AreBlocks, AreOptions, AreNoOptions}
use Rattle.command_words.specs.Kinds.{without}
use Rattle.command_words.specs.Blocks.{Begins, BeginsWithNone, AreSome}
use Rattle.command_words.specs.Tests.{is_limit, is_limit_within}
use Rattle.command_words.proofs.Limits.{limit_spelled, limit_tested}
use Rattle.command_words.proofs.Among.{AreAmong, all_apart, among_kept, among_may, among_once}
use Rattle.command_words.proofs.Blocks.{Text, first_word, second_word, one_option, one_rest, not_empty}

-- ---- the first block

pub json_begins : (first : Text) (rest : List Text) → first ≡ codes "--json" → Begins (first ∷ rest) kind.Json 1
json_begins first rest e = record { option = Json; of_kind = refl; block = ap (λ w. w ∷ []) e; some = omega arith; within = omega arith }

within_limit : (first : Text) → is_limit_within first ≡ true → IsBlock (Versions (drop 11 first)) (first ∷ [])
within_limit first h =
    let parts = and_parts (bytes_eq (take 11 first) (codes "--versions=")) (is_limit (drop 11 first)) h in
    let joined = sym (take-append-drop 11 first)
    ∙ ap (λ front. front ++ drop 11 first) (same_text (take 11 first) (codes "--versions=") parts.0) in
    (limit_spelled (drop 11 first) parts.1, inr (ap (λ w. w ∷ []) joined))

pub within_begins : (first : Text) (rest : List Text) → is_limit_within first ≡ true → Begins (first ∷ rest) kind.Versions 1
within_begins first rest h = record {
  option = Versions
      (drop 11 first);
  of_kind = refl;
  block = within_limit first h;
  some = omega arith;
  within = omega arith;
}

pub behind_begins : (first text : Text) (rest : List Text) → first ≡ codes "--versions" → is_limit text ≡ true
    → Begins (first ∷ text ∷ rest) kind.Versions 2
behind_begins first text rest e h = record {
  option = Versions text;
  of_kind = refl;
  block = (limit_spelled text h, inl (ap (λ w. w ∷ text ∷ []) e));
  some = omega arith;
  within = omega arith;
}

pub none_begins : (first : Text) (rest : List Text) → (first ≡ codes "--json" → ⊥) → is_limit_within first ≡ false
    → (first ≡ codes "--versions" → ⊥) → BeginsWithNone (first ∷ rest)
none_begins first rest not_json not_within not_behind = record { none = from }
  where
    from : (option : Given) (block more : List Text) → first ∷ rest ≡ block ++ more → IsBlock option block → ⊥
    from Json block more e is = not_json (ap first_word (e ∙ ap (λ b. b ++ more) is))
    from (Versions text) block more e is = elim is.1 [
      | inl behind ↦ not_behind (ap first_word (e ∙ ap (λ b. b ++ more) behind))
      | inr within ↦ let joined = ap first_word (e ∙ ap (λ b. b ++ more) within) in
          true≢false (sym (limit_tested text is.0) ∙ sym (ap is_limit_within joined) ∙ not_within)
    ]

-- behind `--versions` stands no limit
no_limit : (first : Text) (rest : List Text) → first ≡ codes "--versions" → (is_limit (first_word rest) ≡ true → ⊥)
    → BeginsWithNone (first ∷ rest)
no_limit first rest is not_limit = record { none = from }
  where
    from : (option : Given) (block more : List Text) → first ∷ rest ≡ block ++ more → IsBlock option block → ⊥
    from Json block more e b = absurd (omega (arith, ap length (sym is ∙ ap first_word (e ∙ ap (λ b. b ++ more) b))))
    from (Versions text) block more e b = elim b.1 [
      | inl behind ↦ not_limit (ap is_limit (ap second_word (e ∙ ap (λ b. b ++ more) behind)) ∙ limit_tested text b.0)
      | inr within ↦ absurd (omega (arith, ap length (sym is ∙ ap first_word (e ∙ ap (λ b. b ++ more) within))))
    ]

pub nothing_behind : (first : Text) → first ≡ codes "--versions" → BeginsWithNone (first ∷ [])
nothing_behind first is = no_limit first [] is (λ h. true≢false (sym h))

pub no_limit_behind : (first text : Text) (rest : List Text) → first ≡ codes "--versions" → is_limit text ≡ false
    → BeginsWithNone (first ∷ text ∷ rest)
no_limit_behind first text rest is h = no_limit first (text ∷ rest) is (λ e. true≢false (sym e ∙ h))

pub ruleset block_laws = (json_begins, within_begins, none_begins)

pub ruleset behind_laws = (behind_begins, nothing_behind, no_limit_behind)

-- ---- all blocks

pub none_are : (kinds : Kinds) (words : List Text) → length words ≡ 0 → AreSome kinds words
none_are kinds (w ∷ ws) none = absurd (omega (arith, none))
none_are kinds [] none = record { given = []; are = record { blocks = refl; may = tt; once = all_apart [] tt } }

pub no_block : (kinds : Kinds) (words : List Text) → (words ≡ [] → ⊥) → BeginsWithNone words → AreNoOptions kinds words
no_block kinds words some none = record { none = from }
  where
    from : (given : List Given) → AreOptions kinds given words → ⊥
    from [] are = some are.blocks
    from (option ∷ given) are = none.none option are.blocks.0 are.blocks.1 are.blocks.2 are.blocks.3

-- where words begin with a block of a kind, other options of theirs do too
pub not_had : (kinds : Kinds) (words : List Text) (kind : Kind) (count : ℕ) → Begins words kind count → has kinds kind ≡ false
    → AreNoOptions kinds words
not_had kinds words kind count b not = record { none = from }
  where
    from : (given : List Given) → AreOptions kinds given words → ⊥
    from [] are = not_empty b.option (take count words) (drop count words) words are.blocks (sym (take-append-drop count words)) b.block
    from (option ∷ given) are =
        let one = one_option option b.option are.blocks.0 (take count words) are.blocks.1
        (drop count words) words are.blocks.2 are.blocks.3 (sym (take-append-drop count words)) b.block in
        true≢false (sym are.may.0 ∙ ap (has kinds) (ap kind_of one ∙ b.of_kind) ∙ not)

pub one_more : (kinds : Kinds) (words : List Text) (kind : Kind) (count : ℕ) → Begins words kind count → has kinds kind ≡ true
    → AreSome (without kinds kind) (drop count words) → AreSome kinds words
one_more kinds words kind count b had some =
    let may : has kinds (kind_of b.option) ≡ true = ap (has kinds) b.of_kind ∙ had in
    let among = among_kept (without kinds kind) some.given some.are.may some.are.once in
    let all : AreAmong kinds (b.option ∷ some.given) = (may, subst (λ k. AreAmong (without kinds k) some.given) (sym b.of_kind) among) in
    record {
      given = b.option ∷ some.given;
      are = record {
        blocks = (take count words, drop count words, sym (take-append-drop count words), b.block, some.are.blocks);
        may = among_may kinds (b.option ∷ some.given) all;
        once = among_once kinds (b.option ∷ some.given) all;
      };
    }

pub none_more : (kinds : Kinds) (words : List Text) (kind : Kind) (count : ℕ) → Begins words kind count
    → AreNoOptions (without kinds kind) (drop count words) → AreNoOptions kinds words
none_more kinds words kind count b none = record { none = from }
  where
    from : (given : List Given) → AreOptions kinds given words → ⊥
    from [] are = not_empty b.option (take count words) (drop count words) words are.blocks (sym (take-append-drop count words)) b.block
    from (option ∷ given) are =
        let one = one_option option b.option are.blocks.0 (take count words) are.blocks.1
        (drop count words) words are.blocks.2 are.blocks.3 (sym (take-append-drop count words)) b.block in
        let rest = one_rest option b.option are.blocks.0 (take count words) are.blocks.1 (drop count words) words are.blocks.2 are.blocks.3
        (sym (take-append-drop count words)) b.block in
        let among = (among_kept kinds (option ∷ given) are.may are.once).1 in
        let fewer = subst (λ k. AreAmong (without kinds k) given) (ap kind_of one ∙ b.of_kind) among in
        none.none given (record {
          blocks = subst (AreBlocks given) rest are.blocks.4;
          may = among_may (without kinds kind) given fewer;
          once = among_once (without kinds kind) given fewer;
        })

-- texts behind references

abbrev pub texts : List (Bor Text) → List Text
texts words = map (λ s. s.now) words

pub some_texts : (words : List (Bor Text)) → 0 < length words → texts words ≡ [] → ⊥
some_texts words some none = absurd (omega (arith, some, length-map words (λ (s : Bor Text). s.now), ap length none))

pub texts_behind : (words : List (Bor Text)) (count : ℕ) → texts (take (length words - count) (drop count words)) ≡ drop count (texts words)
texts_behind words count =
    ap texts (take_all (length words - count) (drop count words) (omega (arith, length-drop count words)))
    ∙ sym (drop-map (λ (s : Bor Text). s.now) count words)

pub texts_split : (words : List (Bor Text)) (d : Bor Text) → 1 ≤ length words
    → (slice_index_or words 0 d).now ∷ texts (take (length words - 1) (drop 1 words)) ≡ texts words
texts_split [] d some = absurd (omega (arith, some))
texts_split (w ∷ words) d some = ap (λ ws. w.now ∷ ws) (texts_behind (w ∷ words) 1)
