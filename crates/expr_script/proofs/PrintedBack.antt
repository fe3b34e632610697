-- The canonical text of a script spells it, in no more bytes than any text that spells it.
use Rattle.std.proofs.Common.{◌≡◌, ℕ, ◌<◌, ◌≤◌, Bool, true, false, List, [], ◌∷◌, ◌++◌, length, map, refl, sym, ap, ◌∙◌, subst, arith}
use Rattle.std.specs.Prelude.{◌^◌, ◌&&◌, pos, negsuc, nat_lt, slice_get, unwrap_or}
use Rattle.std.specs.List.{AllByRecursion}
use Rattle.std.specs.Cmp.Derive.{both_true}
use Rattle.std.proofs.lemmas.Bool.{ltb-true, le-ltb}
use Rattle.std.proofs.lemmas.List.{append-nil, take_all}
use Rattle.script_tree.specs.declared.limits.TheConstants.{INPUTS, LEVELS}
use Rattle.script_tree.specs.Tree.{Tree, Number, Constant, Input, Pick, Acc, Apply, Join, If}
use Rattle.script_tree.specs.Scripts.{Scripted, WellFormed, all_leaves, input_below, pick_below, is_not_acc, is_literal, standing}
use Rattle.script_grammar.specs.declared.token.Token.{Token}
use Rattle.script_grammar.specs.declared.token.Token.TheVariants.{Plain as W, Stray}
use Rattle.script_tree.specs.declared.expr.Unary.{Unary}
use Rattle.script_tree.specs.declared.expr.Unary.TheVariants.{Negate, Not}
use Rattle.script_tree.specs.declared.expr.Binary.{Binary}
use Rattle.script_tree.specs.declared.expr.Binary.TheVariants.{OrElse, Or, And, Equal, Unequal, Less, AtMost, Greater, AtLeast, Add, Subtract, Multiply, Divide, Remainder}
use Rattle.script_tree.proofs.Truths.{and_left, and_right}
use Rattle.script_tree.specs.Names.{place_in}
use Rattle.script_grammar.specs.declared.token.Word.{Word}
use Rattle.script_grammar.specs.Grammar.{Spells, BeginsWithin, sign, prefix_sign, tokens, word_tree}
use Rattle.script_grammar.specs.Words.{all_words}
use Rattle.script_grammar.specs.Canonical.{canonical}
use Rattle.expr_script.specs.declared.atoms.Atoms.{Atoms}
use Rattle.expr_script.specs.declared.atoms.Atoms.TheVariants.{Script, Body}
use Rattle.expr_script.specs.Pieces.{words}
use Rattle.expr_script.specs.Joined.{behind, StandApart}
use Rattle.expr_script.specs.Tokens.{script_names, names, inputs, tokens_among, tokens as tokens_of}
use Rattle.expr_script.specs.Printed.{token_text, printed_words, printed}
use Rattle.expr_script.specs.Spelled.{IsFormed, IsShallow, SpellsWith}
use Rattle.expr_script.specs.Inputs.{KeepsFirst}
use Rattle.expr_script.proofs.Made.{fold_there, well_formed, has_atoms}
use Rattle.expr_script.proofs.Lean.{IsThere, Stands, words_lean}
use Rattle.expr_script.proofs.CutBack.{joined_back, joined_short}
use Rattle.expr_script.proofs.Spread.{spread, spread_is, canonical_no_longer}
use Rattle.expr_script.proofs.WrittenWords.{AllWords, OfTokens, canonical_words, any_words, all_tokens}
use Rattle.expr_script.proofs.TokenBack.{Reads, KnownNames, FewPicks, stands, reads_word, reads_tokens, called, named}
use Rattle.expr_script.proofs.SameNames.{flat, fold_named, spelled_calls, names_different, standing_named, distinct_names}
use Rattle.expr_script.proofs.Apart.{stand, follow_more}

-- what the grammar says of canonical tokens and of leaves
pub record OfGrammar : Type 0 where
  pub spells : (t : Tree) → Spells (tokens (canonical t)) t
  pub shortest : (text : List Token) (t : Tree) → Spells text t → length (tokens (canonical t)) ≤ length text
  pub shallowest : (limit : ℕ) (text : List Token) (t : Tree) → Spells text t → BeginsWithin limit text → BeginsWithin limit (tokens (canonical t))
  pub leaves : (test : Tree → Bool) (text : List Token) (t : Tree) → Spells text t → all_leaves test t ≡ all_words (λ word. test (word_tree word)) text

all_there : (atoms : Atoms) (ws : List (List ℕ)) → AllByRecursion (IsThere atoms (names atoms ws)) ws
all_there (Script acc) ws = fold_there ws []
all_there (Body picks) ws = every ws
  where
    every : (some : List (List ℕ)) → AllByRecursion (IsThere (Body picks) []) some
    every [] = tt
    every (w ∷ some) = (tt, every some)

-- all names are told apart
tokens_known : (atoms : Atoms) (ws : List (List ℕ)) → length (names atoms ws) ≤ INPUTS → tokens_of atoms ws ≡ tokens_among atoms (names atoms ws) ws
tokens_known atoms ws few = ap (λ l. tokens_among atoms l ws) (take_all INPUTS (names atoms ws) few)

same_names : (atoms : Atoms) (ws : List (List ℕ)) (s : Scripted) → SpellsWith atoms ws s → tokens_of atoms ws ≡ tokens_among atoms s.names ws
same_names atoms ws s h = tokens_known atoms ws h.few ∙ ap (λ l. tokens_among atoms l ws) (sym h.named)

-- a script that words spell is well-formed, of its kind, and nested within the limit
pub spelled_formed : (g : OfGrammar) (atoms : Atoms) (ws : List (List ℕ)) (s : Scripted) → SpellsWith atoms ws s → IsFormed atoms s × IsShallow s
spelled_formed g atoms ws s h =
    let all = names atoms ws in
    let keeps : KeepsFirst INPUTS all false all = record { first = sym (take_all INPUTS all h.few); rest = sym (le-ltb INPUTS (length all) h.few) } in
    let spelled : Spells (tokens_among atoms all ws) s.tree = subst (λ (l : List Token). Spells l s.tree) (tokens_known atoms ws h.few) h.tree in
    let made = well_formed atoms ws all false s.tree keeps refl spelled (λ test. g.leaves test (tokens_among atoms all ws) s.tree spelled) in (
      (subst (λ (l : List (List ℕ)). WellFormed l s.tree) (sym h.named) made.1, has_atoms atoms ws s h.named (λ test. g.leaves test (tokens_of atoms ws) s.tree h.tree)),
      g.shallowest LEVELS (tokens_of atoms ws) s.tree h.tree h.shallow,
    )

-- where each leaf that passes some tests passes another one, so do all
all_imply : (p q r stand : Tree → Bool) → ((leaf : Tree) → p leaf ≡ true → q leaf ≡ true → r leaf ≡ true → stand leaf ≡ true) → (t : Tree)
    → all_leaves p t ≡ true → all_leaves q t ≡ true → all_leaves r t ≡ true → all_leaves stand t ≡ true
all_imply p q r stand f (Number z) a b c = f (Number z) a b c
all_imply p q r stand f (Constant x) a b c = f (Constant x) a b c
all_imply p q r stand f (Input i) a b c = f (Input i) a b c
all_imply p q r stand f (Pick i) a b c = f (Pick i) a b c
all_imply p q r stand f Acc a b c = f Acc a b c
all_imply p q r stand f (Apply op x) a b c = all_imply p q r stand f x a b c
all_imply p q r stand f (Join op x y) a b c =
    both_true
    (all_imply p q r stand f x (and_left (all_leaves p x) (all_leaves p y) a) (and_left (all_leaves q x) (all_leaves q y) b) (and_left (all_leaves r x) (all_leaves r y) c))
    (all_imply p q r stand f y (and_right (all_leaves p x) (all_leaves p y) a) (and_right (all_leaves q x) (all_leaves q y) b) (and_right (all_leaves r x) (all_leaves r y) c))
all_imply p q r stand f (If t x y) a b c =
    let a2 = and_right (all_leaves p t) (all_leaves p x && all_leaves p y) a in
    let b2 = and_right (all_leaves q t) (all_leaves q x && all_leaves q y) b in
    let c2 = and_right (all_leaves r t) (all_leaves r x && all_leaves r y) c in
    both_true
    (all_imply p q r stand f t (and_left (all_leaves p t) (all_leaves p x && all_leaves p y) a) (and_left (all_leaves q t) (all_leaves q x && all_leaves q y) b) (and_left (all_leaves r t) (all_leaves r x && all_leaves r y) c))
    (both_true
    (all_imply p q r stand f x (and_left (all_leaves p x) (all_leaves p y) a2) (and_left (all_leaves q x) (all_leaves q y) b2) (and_left (all_leaves r x) (all_leaves r y) c2))
    (all_imply p q r stand f y (and_right (all_leaves p x) (all_leaves p y) a2) (and_right (all_leaves q x) (all_leaves q y) b2) (and_right (all_leaves r x) (all_leaves r y) c2)))

none_below : (i : ℕ) → nat_lt i 0 ≡ true → ⊥
none_below i h = omega (arith, ltb-true i 0 h)

leaf_with : (acc : Bool) (n : ℕ) (leaf : Tree) → input_below n leaf ≡ true → is_literal leaf ≡ true → pick_below 0 leaf ≡ true → (acc ≡ false → is_not_acc leaf ≡ true) → stands (Script acc) n leaf ≡ true
unfolding stands
leaf_with acc n (Number (pos m)) a b c d = b
leaf_with acc n (Number (negsuc m)) a b c d = b
leaf_with acc n (Constant x) a b c d = refl
leaf_with acc n (Input i) a b c d = a
leaf_with acc n (Pick i) a b c d = absurd (none_below i c)
leaf_with true n Acc a b c d = refl
leaf_with false n Acc a b c d = d refl
leaf_with acc n (Apply op x) a b c d = refl
leaf_with acc n (Join op x y) a b c d = refl
leaf_with acc n (If t x y) a b c d = refl

body_leaf : (picks : ℕ) (leaf : Tree) → input_below 0 leaf ≡ true → (is_literal leaf && pick_below picks leaf) ≡ true → is_not_acc leaf ≡ true → stands (Body picks) 0 leaf ≡ true
unfolding stands
body_leaf picks (Number (pos m)) a b c = and_left (nat_lt m (2 ^ 63)) true b
body_leaf picks (Number (negsuc m)) a b c = and_left false true b
body_leaf picks (Constant x) a b c = refl
body_leaf picks (Input i) a b c = absurd (none_below i a)
body_leaf picks (Pick i) a b c = and_right true (nat_lt i picks) b
body_leaf picks Acc a b c = c
body_leaf picks (Apply op x) a b c = refl
body_leaf picks (Join op x y) a b c = refl
body_leaf picks (If t x y) a b c = refl

all_any : (t : Tree) → all_leaves (λ leaf. true) t ≡ true
all_any (Number z) = refl
all_any (Constant x) = refl
all_any (Input i) = refl
all_any (Pick i) = refl
all_any Acc = refl
all_any (Apply op x) = all_any x
all_any (Join op x y) = both_true (all_any x) (all_any y)
all_any (If t x y) = both_true (all_any t) (both_true (all_any x) (all_any y))

-- the leaves of a well-formed script are those that its kind may have
formed_leaves : (atoms : Atoms) (s : Scripted) → IsFormed atoms s → all_leaves (stands atoms (length s.names)) s.tree ≡ true
formed_leaves (Script true) s h =
    let n = length s.names in
    all_imply (input_below n) is_literal (pick_below 0) (stands (Script true) n)
    (λ leaf a b c. leaf_with true n leaf a b c (λ e. (let f : true ≡ false = e in cc))) s.tree h.0.inputs h.0.numbers h.1.0
formed_leaves (Script false) s h =
    let n = length s.names in
    let both : all_leaves (λ leaf. is_literal leaf && pick_below 0 leaf) s.tree ≡ true =
    all_imply is_literal (pick_below 0) (λ leaf. true) (λ leaf. is_literal leaf && pick_below 0 leaf) (λ leaf a b c. both_true a b) s.tree h.0.numbers h.1.0 (all_any s.tree) in
    all_imply (input_below n) (λ leaf. is_literal leaf && pick_below 0 leaf) is_not_acc (stands (Script false) n)
    (λ leaf a b c. leaf_with false n leaf a (and_left (is_literal leaf) (pick_below 0 leaf) b) (and_right (is_literal leaf) (pick_below 0 leaf) b) (λ e. c)) s.tree h.0.inputs both (h.1.1 refl)
formed_leaves (Body picks) s h =
    let both : all_leaves (λ leaf. is_literal leaf && pick_below picks leaf) s.tree ≡ true =
    all_imply is_literal (pick_below picks) (λ leaf. true) (λ leaf. is_literal leaf && pick_below picks leaf) (λ leaf a b c. both_true a b) s.tree h.0.numbers h.1.picks_below (all_any s.tree) in
    let none : length s.names ≡ 0 = ap length h.1.no_names in
    let below_none : all_leaves (input_below 0) s.tree ≡ true = subst (λ (n : ℕ). all_leaves (input_below n) s.tree ≡ true) none h.0.inputs in
    subst (λ (n : ℕ). all_leaves (stands (Body picks) n) s.tree ≡ true) (sym none)
    (all_imply (input_below 0) (λ leaf. is_literal leaf && pick_below picks leaf) is_not_acc (stands (Body picks) 0)
    (λ leaf a b c. body_leaf picks leaf a b c) s.tree below_none both h.1.no_acc)

-- a well-formed script's names are what comes of the names that stand in it
formed_names : (s : Scripted) → WellFormed s.names s.tree → script_names (standing s.names s.tree) ≡ s.names
formed_names s h = names_different (standing s.names s.tree) (standing_named s.names s.tree h.named h.inputs) ∙ sym h.appear

-- no two of them are the same
formed_known : (s : Scripted) → WellFormed s.names s.tree → KnownNames s.names
formed_known s h = record {
  named = h.named;
  distinct = subst (λ (l : List (List ℕ)). (i : ℕ) → i < length l → place_in l (unwrap_or (slice_get l i) []) ≡ i) (formed_names s h) (distinct_names (standing s.names s.tree));
}

-- the words of the canonical writing are read as themselves
pub canonical_reads : (atoms : Atoms) (s : Scripted) → FewPicks atoms → IsFormed atoms s → AllWords (λ word. Reads atoms s.names (W word)) (canonical s.tree)
canonical_reads atoms s f h =
    canonical_words (λ word. Reads atoms s.names (W word)) (stands atoms (length s.names)) (reads_word atoms s.names (formed_known s h.0) f) s.tree (formed_leaves atoms s h)

-- the canonical words stand apart, before whatever stands apart
pub printed_apart : (atoms : Atoms) (s : Scripted) → FewPicks atoms → IsFormed atoms s → (last : List ℕ) (more : List (List ℕ)) → StandApart [] more → StandApart last (printed_words s ++ more)
printed_apart atoms s f h last more m =
    subst (StandApart last) (spread_is s.names (canonical s.tree) more)
    (stand atoms s.names (canonical s.tree) last more (canonical_reads atoms s f h) (follow_more more m))

pub printed_back : (atoms : Atoms) (s : Scripted) → FewPicks atoms → IsFormed atoms s → words (printed s) ≡ printed_words s
printed_back atoms s f h = joined_back (printed_words s) (subst (StandApart []) (append-nil (printed_words s)) (printed_apart atoms s f h [] [] tt))

tokens_back : (atoms : Atoms) (known : List (List ℕ)) (ts : List Token) → AllByRecursion (Reads atoms known) ts → tokens_among atoms known (map (token_text known) ts) ≡ ts
tokens_back atoms known [] h = refl
tokens_back atoms known (t ∷ ts) h = ap (λ u. u ∷ tokens_among atoms known (map (token_text known) ts)) h.0.back ∙ ap (λ l. t ∷ l) (tokens_back atoms known ts h.1)

names_back : (atoms : Atoms) (known : List (List ℕ)) (ts : List Token) → AllByRecursion (Reads atoms known) ts → flat named (map (token_text known) ts) ≡ flat (called known) ts
unfolding flat
names_back atoms known [] h = refl
names_back atoms known (t ∷ ts) h = ap (λ l. l ++ flat named (map (token_text known) ts)) h.0.name ∙ ap (λ l. called known t ++ l) (names_back atoms known ts h.1)

-- the names of the canonical words are those of the script
printed_names : (g : OfGrammar) (atoms : Atoms) (s : Scripted) → AllByRecursion (Reads atoms s.names) (tokens (canonical s.tree)) → IsFormed atoms s → names atoms (printed_words s) ≡ s.names
printed_names g (Body picks) s r h = sym h.1.no_names
printed_names g (Script acc) s r h =
    fold_named [] (printed_words s)
    ∙ ap script_names (names_back (Script acc) s.names (tokens (canonical s.tree)) r ∙ spelled_calls s.names (tokens (canonical s.tree)) s.tree (g.spells s.tree))
    ∙ formed_names s h.0

printed_spells : (g : OfGrammar) (atoms : Atoms) (s : Scripted) → FewPicks atoms → IsFormed atoms s → IsShallow s → SpellsWith atoms (printed_words s) s
printed_spells g atoms s f h d =
    let r : AllByRecursion (Reads atoms s.names) (tokens (canonical s.tree)) = all_tokens (Reads atoms s.names) (reads_tokens atoms s.names) (canonical s.tree) (canonical_reads atoms s f h) in
    let n : names atoms (printed_words s) ≡ s.names = printed_names g atoms s r h in
    let few : length (names atoms (printed_words s)) ≤ INPUTS = omega (arith, h.0.few, ap length n) in
    let same : tokens (canonical s.tree) ≡ tokens_of atoms (printed_words s) =
    sym (tokens_known atoms (printed_words s) few ∙ ap (λ l. tokens_among atoms l (printed_words s)) n ∙ tokens_back atoms s.names (tokens (canonical s.tree)) r) in
    record {
      tree = subst (λ (l : List Token). Spells l s.tree) same (g.spells s.tree);
      shallow = subst (λ (l : List Token). BeginsWithin LEVELS l) same d;
      named = sym n;
      few = few;
    }

-- the canonical text is read as the script that it was printed from
pub printed_text_spells : (g : OfGrammar) (atoms : Atoms) (s : Scripted) → FewPicks atoms → IsFormed atoms s → IsShallow s → SpellsWith atoms (words (printed s)) s
printed_text_spells g atoms s f h d = subst (λ (l : List (List ℕ)). SpellsWith atoms l s) (sym (printed_back atoms s f h)) (printed_spells g atoms s f h d)

length_tokens : (atoms : Atoms) (known ws : List (List ℕ)) → length (tokens_among atoms known ws) ≡ length ws
length_tokens atoms known [] = refl
length_tokens atoms known (w ∷ ws) = omega (arith, length_tokens atoms known ws)

length_texts : (known : List (List ℕ)) (ts : List Token) → length (map (token_text known) ts) ≡ length ts
length_texts known [] = refl
length_texts known (t ∷ ts) = omega (arith, length_texts known ts)

pub printed_fewest : (g : OfGrammar) (atoms : Atoms) (ws : List (List ℕ)) (s : Scripted) → SpellsWith atoms ws s → length (printed_words s) ≤ length ws
printed_fewest g atoms ws s h =
    omega (arith, g.shortest (tokens_of atoms ws) s.tree h.tree, length_tokens atoms (inputs atoms ws) ws, length_texts s.names (tokens (canonical s.tree)))

pub is_stray : Token → Bool
is_stray Stray = true
is_stray t = false

sign_stands : (op : Binary) → Stands (sign op)
unfolding is_stray
sign_stands OrElse e = let f : false ≡ true = ap is_stray e in cc
sign_stands Or e = let f : false ≡ true = ap is_stray e in cc
sign_stands And e = let f : false ≡ true = ap is_stray e in cc
sign_stands Equal e = let f : false ≡ true = ap is_stray e in cc
sign_stands Unequal e = let f : false ≡ true = ap is_stray e in cc
sign_stands Less e = let f : false ≡ true = ap is_stray e in cc
sign_stands AtMost e = let f : false ≡ true = ap is_stray e in cc
sign_stands Greater e = let f : false ≡ true = ap is_stray e in cc
sign_stands AtLeast e = let f : false ≡ true = ap is_stray e in cc
sign_stands Add e = let f : false ≡ true = ap is_stray e in cc
sign_stands Subtract e = let f : false ≡ true = ap is_stray e in cc
sign_stands Multiply e = let f : false ≡ true = ap is_stray e in cc
sign_stands Divide e = let f : false ≡ true = ap is_stray e in cc
sign_stands Remainder e = let f : false ≡ true = ap is_stray e in cc

mark_stands : (op : Unary) → Stands (prefix_sign op)
unfolding is_stray
mark_stands Negate e = let f : false ≡ true = ap is_stray e in cc
mark_stands Not e = let f : false ≡ true = ap is_stray e in cc

stand_tokens : OfTokens Stands
unfolding is_stray
stand_tokens = record {
  signs = sign_stands;
  marks = mark_stands;
  opens = λ e. (let f : false ≡ true = ap is_stray e in cc);
  closes = λ e. (let f : false ≡ true = ap is_stray e in cc);
  if_word = λ e. (let f : false ≡ true = ap is_stray e in cc);
  then_word = λ e. (let f : false ≡ true = ap is_stray e in cc);
  else_word = λ e. (let f : false ≡ true = ap is_stray e in cc);
}

word_stands : (word : Word) → Stands (W word)
unfolding is_stray
word_stands word e = let f : false ≡ true = ap is_stray e in cc

-- the canonical words of a script are written in no more bytes than any words that spell it, wherever they stand
pub printed_no_longer : (atoms : Atoms) (ws : List (List ℕ)) (s : Scripted) → SpellsWith atoms ws s → (last : List ℕ) (more : List (List ℕ)) → length (behind last (printed_words s ++ more)) ≤ length (behind last (ws ++ more))
printed_no_longer atoms ws s h last more =
    let u = h.tree.written in
    let there : AllByRecursion (IsThere atoms s.names) ws = subst (λ (l : List (List ℕ)). AllByRecursion (IsThere atoms l) ws) (sym h.named) (all_there atoms ws) in
    let same : tokens u ≡ tokens_among atoms s.names ws = h.tree.same ∙ same_names atoms ws s h in
    let written : AllByRecursion Stands (tokens_among atoms s.names ws) = subst (AllByRecursion Stands) same (all_tokens Stands stand_tokens u (any_words (λ word. Stands (W word)) word_stands u)) in
    omega (
      arith,
      (canonical_no_longer s.names u more h.tree.grammar).bound last,
      ap (λ t. length (behind last (spread s.names (canonical t) more))) h.tree.tree_is,
      ap (λ l. length (behind last l)) (spread_is s.names (canonical s.tree) more),
      ap (λ l. length (behind last l)) (spread_is s.names u more),
      ap (λ ts. length (behind last (map (token_text s.names) ts ++ more))) same,
      words_lean atoms s.names ws more last last there written refl,
    )

-- a canonical text has no more bytes than a text that it was read from
pub printed_short : (atoms : Atoms) (text : List ℕ) (s : Scripted) → SpellsWith atoms (words text) s → length (printed s) ≤ length text
printed_short atoms text s h =
    omega (
      arith,
      printed_no_longer atoms (words text) s h [] [],
      ap (λ l. length (behind [] l)) (append-nil (printed_words s)),
      ap (λ l. length (behind [] l)) (append-nil (words text)),
      joined_short text,
    )
