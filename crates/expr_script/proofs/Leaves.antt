-- The leaves of a script come from its tokens.
use Rattle.std.proofs.Common.{◌≡◌, ℕ, ◌^◌, Bool, true, false, List, [], ◌∷◌, refl}
use Rattle.std.specs.Prelude.{◌&&◌, if◌then◌else◌, nat_lt, pos, codes}
use Rattle.std.specs.Str.{bytes_eq}
use Rattle.std.specs.List.{list_all}
use Rattle.std.specs.Cmp.Derive.{both_true}
use Rattle.script_tree.specs.Tree.{Tree, Number, Constant, Pick, Acc}
use Rattle.script_tree.specs.Names.{is_name}
use Rattle.script_tree.specs.Scripts.{all_leaves}
use Rattle.script_tree.proofs.Truths.{and_left, and_right}
use Rattle.script_grammar.specs.declared.token.Word.TheVariants as word
use Rattle.script_grammar.specs.declared.token.Token.{Token}
use Rattle.script_grammar.specs.declared.token.Token.TheVariants as token
use Rattle.script_grammar.specs.Words.{all_words}
use Rattle.script_grammar.specs.Grammar.{word_tree}
use Rattle.expr_script.specs.declared.atoms.Atoms.{Atoms}
use Rattle.expr_script.specs.declared.atoms.Atoms.TheVariants.{Script, Body}
use Rattle.expr_script.specs.Words.{is_digits, value, number, name_token, look_up, short_signs, long_signs, script_words, short_sign, sign_token, fixed_token, pick_token, other_token, token as token_of}

-- whether a token's leaf, if it has one, passes a test
abbrev pub passes : (Tree → Bool) → Token → Bool
passes test (token.Plain word) = test (word_tree word)
passes test t = true

-- the leaves of a tree are the words of a text
abbrev pub HasLeaves : List Token → Tree → Type 0
HasLeaves text t = (test : Tree → Bool) → all_leaves test t ≡ all_words (λ w. test (word_tree w)) text

pub words_cons : (test : Tree → Bool) (t : Token) (text : List Token) → passes test t ≡ true → all_words (λ w. test (word_tree w)) text ≡ true → all_words (λ w. test (word_tree w)) (t ∷ text) ≡ true
words_cons test (token.Plain word) text p h = both_true p h
words_cons test t text p h = h

-- a token passes a test
pub record Passes (test : Tree → Bool) (t : Token) : Type 0 where
  pub passed : passes test t ≡ true

either : (test : Tree → Bool) (b : Bool) (t u : Token) → (b ≡ true → Passes test t) → (b ≡ false → Passes test u) → Passes test (if b then t else u)
either test true t u p q = p refl
either test false t u p q = q refl

table_passes : (test : Tree → Bool) (table : List (List ℕ × Token)) (w : List ℕ) (other : Token) → list_all (λ row. passes test row.1) table ≡ true → Passes test other → Passes test (look_up table w other)
table_passes test [] w other h o = o
table_passes test (row ∷ table) w other h o =
    either test (bytes_eq w row.0) row.1 (look_up table w other)
    (λ _. record { passed = and_left (passes test row.1) (list_all (λ r. passes test r.1) table) h })
    (λ _. table_passes test table w other (and_right (passes test row.1) (list_all (λ r. passes test r.1) table) h) o)

sign_passes : (test : Tree → Bool) (w : List ℕ) → Passes test (sign_token w)
sign_passes test w = table_passes test long_signs w (short_sign w) refl (table_passes test short_signs w token.Stray refl (record { passed = refl }))

-- a test that both truths pass
pub record PassesTruths (test : Tree → Bool) : Type 0 where
  pub yes : test (Constant true) ≡ true
  pub no : test (Constant false) ≡ true

fixed_passes : (test : Tree → Bool) (w : List ℕ) → PassesTruths test → Passes test (fixed_token w)
fixed_passes test w truths = table_passes test script_words w (sign_token w) (both_true truths.yes (both_true truths.no refl)) (sign_passes test w)

pick_step : (test : Tree → Bool) (i k : ℕ) (w name : List ℕ) (rest : Token) → (nat_lt i k ≡ true → test (Pick i) ≡ true) → Passes test rest → Passes test (if nat_lt i k && bytes_eq w name then token.Plain (word.Pick i) else rest)
pick_step test i k w name rest f r =
    either test (nat_lt i k && bytes_eq w name) (token.Plain (word.Pick i)) rest
    (λ e. record { passed = f (and_left (nat_lt i k) (bytes_eq w name) e) }) (λ _. r)

pick_passes : (test : Tree → Bool) (k : ℕ) (w : List ℕ) → PassesTruths test → ((i : ℕ) → nat_lt i k ≡ true → test (Pick i) ≡ true) → Passes test (pick_token k w)
pick_passes test k w truths f =
    pick_step test 0 k w (codes "pick1") _ (f 0)
    (pick_step test 1 k w (codes "pick2") _ (f 1)
    (pick_step test 2 k w (codes "pick3") _ (f 2)
    (pick_step test 3 k w (codes "pick4") (fixed_token w) (f 3) (fixed_passes test w truths))))

-- what a test says of the leaves that words of a kind of script can be
pub record PassesAtoms (test : Tree → Bool) (atoms : Atoms) : Type 0 where
  pub truths : PassesTruths test
  pub numbers : (n : ℕ) → nat_lt n (2 ^ 63) ≡ true → test (Number (pos n)) ≡ true
  pub others : (w : List ℕ) → Passes test (other_token atoms w)

pub script_passes : (test : Tree → Bool) (acc : Bool) (w : List ℕ) → PassesTruths test → (acc ≡ true → test Acc ≡ true) → Passes test (other_token (Script acc) w)
script_passes test acc w truths f =
    either test (acc && bytes_eq w (codes "acc")) (token.Plain word.Acc) (fixed_token w)
    (λ e. record { passed = f (and_left acc (bytes_eq w (codes "acc")) e) }) (λ _. fixed_passes test w truths)

pub body_passes : (test : Tree → Bool) (k : ℕ) (w : List ℕ) → PassesTruths test → ((i : ℕ) → nat_lt i k ≡ true → test (Pick i) ≡ true) → Passes test (other_token (Body k) w)
body_passes test k w truths f = pick_passes test k w truths f

number_passes : (test : Tree → Bool) (w : List ℕ) → ((n : ℕ) → nat_lt n (2 ^ 63) ≡ true → test (Number (pos n)) ≡ true) → Passes test (number w)
number_passes test w f =
    either test (nat_lt (value 0 w) (2 ^ 63)) (token.Plain (word.Digits (pos (value 0 w)))) token.Stray
    (λ e. record { passed = f (value 0 w) e }) (λ _. record { passed = refl })

pub token_passes : (test : Tree → Bool) (atoms : Atoms) (known : List (List ℕ)) (w : List ℕ) → PassesAtoms test atoms → (is_name w ≡ true → Passes test (name_token atoms known w)) → Passes test (token_of atoms known w)
token_passes test atoms known w h named =
    either test (is_digits w) (number w) (if is_name w then name_token atoms known w else other_token atoms w)
    (λ _. number_passes test w h.numbers)
    (λ _. either test (is_name w) (name_token atoms known w) (other_token atoms w) named (λ _. h.others w))
