-- What a script that is made from its tokens keeps.
use Rattle.std.proofs.Common.{◌≡◌, ℕ, suc, ◌+◌, ◌<◌, ◌≤◌, Bool, true, false, List, [], ◌∷◌, ◌++◌, length, refl, sym, ap, ◌∙◌, subst, inl, inr, arith}
use Rattle.std.specs.Prelude.{◌&&◌, ◌==◌, ◌⊎◌, if◌then◌else◌, nat_lt, fold}
use Rattle.std.specs.List.{list_all, AllByRecursion}
use Rattle.std.specs.Str.{bytes_eq}
use Rattle.std.proofs.lemmas.Bool.{cases_lt, lt-ltb}
use Rattle.std.proofs.lemmas.Bool.Decides.{nat_tests}
use Rattle.std.proofs.lemmas.Slice.Eq.{bytes_eq-Decides}
use Rattle.std.specs.Cmp.Derive.{both_true}
use Rattle.std.proofs.lemmas.List.{take_all, length-take}
use Rattle.script_tree.specs.declared.limits.TheConstants.{INPUTS, LEVELS}
use Rattle.script_tree.specs.Names.{is_name, place_in}
use Rattle.script_tree.specs.Tree.{Tree, Input}
use Rattle.script_tree.specs.Scripts.{Scripted, WellFormed, all_leaves, input_below, pick_below, is_not_acc, is_literal, standing, different_names}
use Rattle.script_tree.proofs.Truths.{and_left}
use Rattle.script_tree.proofs.NamePlaces.{place_within}
use Rattle.script_grammar.specs.declared.token.Token.{Token}
use Rattle.script_grammar.specs.Grammar.{word_tree, Spells, BeginsWithin}
use Rattle.script_grammar.specs.Words.{all_words}
use Rattle.expr_script.specs.declared.atoms.Atoms.{Atoms}
use Rattle.expr_script.specs.declared.atoms.Atoms.TheVariants.{Script, Body}
use Rattle.expr_script.specs.Inputs.{KeepsFirst}
use Rattle.expr_script.specs.Words.{name_token, token}
use Rattle.expr_script.specs.Tokens.{with_name, script_names, names, inputs, tokens_among, tokens}
use Rattle.expr_script.specs.Spelled.{HasAtoms, SpellsWith, SpellsTooMany}
use Rattle.expr_script.proofs.Kept.{with_known, with_new, lt_step}
use Rattle.expr_script.proofs.SameNames.{names_appear, none_standing}
use Rattle.expr_script.proofs.Leaves.{Passes, PassesAtoms, script_passes, body_passes, token_passes, words_cons, HasLeaves}

lt_suc : (t : Bool) (p l : ℕ) → p < l → (if t then 0 else p + 1) < suc l
lt_suc true p l h = omega arith
lt_suc false p l h = omega arith

push_keeps : (known : List (List ℕ)) (v w : List ℕ) → place_in known w < length known → place_in (known ++ v ∷ []) w < length (known ++ v ∷ [])
push_keeps [] v w h = absurd (omega (arith, h))
push_keeps (n ∷ known) v w h = lt_step (bytes_eq n w) (place_in known w) (length known) (place_in (known ++ v ∷ []) w) (length (known ++ v ∷ [])) (push_keeps known v w) h

push_there : (known : List (List ℕ)) (w : List ℕ) → place_in (known ++ w ∷ []) w < length (known ++ w ∷ [])
push_there [] w = subst (λ (b : Bool). (if b then 0 else 0 + 1) < suc 0) (sym ((bytes_eq-Decides w w).1 refl)) (omega arith)
push_there (n ∷ known) w = lt_suc (bytes_eq n w) (place_in (known ++ w ∷ []) w) (length (known ++ w ∷ [])) (push_there known w)

-- a name that is there stays there
with_keeps : (known : List (List ℕ)) (v w : List ℕ) → place_in known w < length known → place_in (with_name known v) w < length (with_name known v)
with_keeps known v w h = by_test (is_name v && place_in known v == length known)
  where
    by_test : (b : Bool) → place_in (if b then known ++ v ∷ [] else known) w < length (if b then known ++ v ∷ [] else known)
    by_test true = push_keeps known v w h
    by_test false = h

-- a name that came is there
with_there : (known : List (List ℕ)) (w : List ℕ) → is_name w ≡ true → place_in (with_name known w) w < length (with_name known w)
with_there known w n = by_case (cases_lt (place_in known w) (length known))
  where
    P : List (List ℕ) → Type 0
    P l = place_in l w < length l

    by_case : (place_in known w < length known) ⊎ (length known ≤ place_in known w) → place_in (with_name known w) w < length (with_name known w)
    by_case (inl there) = subst (λ (l : List (List ℕ)). place_in l w < length l) (sym (with_known known w there)) there
    by_case (inr end) = subst (λ (l : List (List ℕ)). place_in l w < length l) (sym (with_new known w n (omega (arith, end, place_within known w)))) (push_there known w)

fold_keeps : (words known : List (List ℕ)) (w : List ℕ) → place_in known w < length known → place_in (fold with_name known words) w < length (fold with_name known words)
fold_keeps [] known w h = h
fold_keeps (v ∷ words) known w h = fold_keeps words (with_name known v) w (with_keeps known v w h)

-- each name among words is there behind them
pub fold_there : (words known : List (List ℕ)) → AllByRecursion (λ w. is_name w ≡ true → place_in (fold with_name known words) w < length (fold with_name known words)) words
fold_there [] known = tt
fold_there (v ∷ words) known = (λ n. fold_keeps words (with_name known v) v (with_there known v n), fold_there words (with_name known v))

all_push : (known : List (List ℕ)) (v : List ℕ) → list_all is_name known ≡ true → is_name v ≡ true → list_all is_name (known ++ v ∷ []) ≡ true
all_push [] v h n = both_true n refl
all_push (k ∷ known) v h n = both_true (and_left (is_name k) (list_all is_name known) h) (all_push known v (and_back (is_name k) (list_all is_name known) h) n)
  where
    and_back : (a b : Bool) → (a && b) ≡ true → b ≡ true
    and_back true b h = h
    and_back false b h = let e : false ≡ true = h in cc

with_named : (known : List (List ℕ)) (v : List ℕ) → list_all is_name known ≡ true → list_all is_name (with_name known v) ≡ true
with_named known v h = by_test (is_name v && place_in known v == length known) (λ e. and_left (is_name v) (place_in known v == length known) e)
  where
    by_test : (b : Bool) → (b ≡ true → is_name v ≡ true) → list_all is_name (if b then known ++ v ∷ [] else known) ≡ true
    by_test true n = all_push known v h (n refl)
    by_test false n = h

pub fold_named : (words known : List (List ℕ)) → list_all is_name known ≡ true → list_all is_name (fold with_name known words) ≡ true
fold_named [] known h = h
fold_named (v ∷ words) known h = fold_named words (with_name known v) (with_named known v h)

pub everywhere : (P : List ℕ → Type 0) (words : List (List ℕ)) → ((w : List ℕ) → P w) → AllByRecursion P words
everywhere P [] h = tt
everywhere P (w ∷ words) h = (h w, everywhere P words h)

pub tokens_pass : (test : Tree → Bool) (atoms : Atoms) (known words : List (List ℕ)) → PassesAtoms test atoms → AllByRecursion (λ w. is_name w ≡ true → Passes test (name_token atoms known w)) words → all_words (λ w. test (word_tree w)) (tokens_among atoms known words) ≡ true
tokens_pass test atoms known [] h named = refl
tokens_pass test atoms known (w ∷ words) h named =
    words_cons test (token atoms known w) (tokens_among atoms known words) (token_passes test atoms known w h named.0).passed (tokens_pass test atoms known words h named.1)

any_name : (test : Tree → Bool) (atoms : Atoms) (known : List (List ℕ)) (w : List ℕ) → ((i : ℕ) → test (Input i) ≡ true) → Passes test (name_token atoms known w)
any_name test (Script acc) known w h = record { passed = h (place_in known w) }
any_name test (Body picks) known w h = record { passed = refl }

-- a test that every input passes holds for every leaf
leaves_of : (test : Tree → Bool) (atoms : Atoms) (known words : List (List ℕ)) (tree : Tree) → PassesAtoms test atoms → ((i : ℕ) → test (Input i) ≡ true) → HasLeaves (tokens_among atoms known words) tree → all_leaves test tree ≡ true
leaves_of test atoms known words tree h i s =
    s test ∙
    (tokens_pass test atoms known words h (everywhere (λ w. is_name w ≡ true → Passes test (name_token atoms known w)) words (λ w _. any_name test atoms known w i)))

literal_atoms : (atoms : Atoms) → PassesAtoms is_literal atoms
literal_atoms (Script acc) = record { truths = record { yes = refl; no = refl }; numbers = λ n h. h; others = λ w. script_passes is_literal acc w (record { yes = refl; no = refl }) (λ _. refl) }
literal_atoms (Body picks) = record { truths = record { yes = refl; no = refl }; numbers = λ n h. h; others = λ w. body_passes is_literal picks w (record { yes = refl; no = refl }) (λ i _. refl) }

input_atoms : (n : ℕ) (atoms : Atoms) → PassesAtoms (input_below n) atoms
input_atoms n (Script acc) = record { truths = record { yes = refl; no = refl }; numbers = λ m h. refl; others = λ w. script_passes (input_below n) acc w (record { yes = refl; no = refl }) (λ _. refl) }
input_atoms n (Body picks) = record { truths = record { yes = refl; no = refl }; numbers = λ m h. refl; others = λ w. body_passes (input_below n) picks w (record { yes = refl; no = refl }) (λ i _. refl) }

no_pick_atoms : (acc : Bool) → PassesAtoms (pick_below 0) (Script acc)
no_pick_atoms acc = record { truths = record { yes = refl; no = refl }; numbers = λ m h. refl; others = λ w. script_passes (pick_below 0) acc w (record { yes = refl; no = refl }) (λ _. refl) }

no_acc_atoms : PassesAtoms is_not_acc (Script false)
no_acc_atoms = record { truths = record { yes = refl; no = refl }; numbers = λ m h. refl; others = λ w. script_passes is_not_acc false w (record { yes = refl; no = refl }) (λ e. let wrong : false ≡ true = e in cc) }

body_acc_atoms : (picks : ℕ) → PassesAtoms is_not_acc (Body picks)
body_acc_atoms picks = record { truths = record { yes = refl; no = refl }; numbers = λ m h. refl; others = λ w. body_passes is_not_acc picks w (record { yes = refl; no = refl }) (λ i _. refl) }

body_pick_atoms : (picks : ℕ) → PassesAtoms (pick_below picks) (Body picks)
body_pick_atoms picks = record { truths = record { yes = refl; no = refl }; numbers = λ m h. refl; others = λ w. body_passes (pick_below picks) picks w (record { yes = refl; no = refl }) (λ i h. h) }

not_more : (most n : ℕ) (more : Bool) → more ≡ nat_lt most n → more ≡ false → n ≤ most
not_more most n more e f = grind (arith, nat_tests, e, f)

-- the names that the inputs of a script's tokens are
names_there : (atoms : Atoms) (words : List (List ℕ)) → AllByRecursion (λ w. is_name w ≡ true → Passes (input_below (length (names atoms words))) (name_token atoms (names atoms words) w)) words
names_there (Body picks) words = everywhere (λ w. is_name w ≡ true → Passes (input_below 0) (name_token (Body picks) [] w)) words (λ w _. record { passed = refl })
names_there (Script acc) words = passed_all words (fold_there words [])
  where
    passed_all : (some : List (List ℕ)) → AllByRecursion (λ w. is_name w ≡ true → place_in (script_names words) w < length (script_names words)) some → AllByRecursion (λ w. is_name w ≡ true → Passes (input_below (length (script_names words))) (name_token (Script acc) (script_names words) w)) some
    passed_all [] h = tt
    passed_all (w ∷ some) h = (λ n. record { passed = lt-ltb _ _ (h.0 n) }, passed_all some h.1)

pub all_named : (atoms : Atoms) (words : List (List ℕ)) → list_all is_name (names atoms words) ≡ true
all_named (Script acc) words = fold_named words [] refl
all_named (Body picks) words = refl

input_leaves : (atoms : Atoms) (words : List (List ℕ)) (tree : Tree) → HasLeaves (tokens_among atoms (names atoms words) words) tree → all_leaves (input_below (length (names atoms words))) tree ≡ true
input_leaves atoms words tree s =
    s (input_below (length (names atoms words))) ∙
    (tokens_pass (input_below (length (names atoms words))) atoms (names atoms words) words (input_atoms (length (names atoms words)) atoms) (names_there atoms words))

-- the names are the different ones that stand in the tree
names_stand : (atoms : Atoms) (words : List (List ℕ)) (tree : Tree) → Spells (tokens_among atoms (names atoms words) words) tree → all_leaves (input_below (length (names atoms words))) tree ≡ true → names atoms words ≡ different_names (standing (names atoms words) tree)
names_stand (Script acc) words tree s h = names_appear acc (script_names words) words tree (fold_there words []) s
names_stand (Body picks) words tree s h = sym (ap different_names (none_standing [] tree h))

-- where all names are kept, the names and the tree make a script
pub well_formed : (atoms : Atoms) (words kept : List (List ℕ)) (more : Bool) (tree : Tree) → KeepsFirst INPUTS kept more (names atoms words) → more ≡ false → Spells (tokens_among atoms kept words) tree → HasLeaves (tokens_among atoms kept words) tree → (kept ≡ names atoms words) × WellFormed kept tree
well_formed atoms words kept more tree k m t s =
    let all : kept ≡ names atoms words = k.first ∙ take_all INPUTS (names atoms words) (not_more INPUTS (length (names atoms words)) more k.rest m) in
    let spelled : HasLeaves (tokens_among atoms (names atoms words) words) tree = subst (λ (l : List (List ℕ)). HasLeaves (tokens_among atoms l words) tree) all s in (
      all,
      subst (λ (l : List (List ℕ)). WellFormed l tree) (sym all) (record {
        few = subst (λ (l : List (List ℕ)). length l ≤ INPUTS) (sym k.first ∙ all) (omega (arith, length-take INPUTS (names atoms words)));
        named = all_named atoms words;
        appear = names_stand atoms words tree (subst (λ (l : List (List ℕ)). Spells (tokens_among atoms l words) tree) all t) (input_leaves atoms words tree spelled);
        inputs = input_leaves atoms words tree spelled;
        numbers = leaves_of is_literal atoms (names atoms words) words tree (literal_atoms atoms) (λ i. refl) spelled;
      }),
    )

-- the atoms of a script are those of its kind
pub has_atoms : (atoms : Atoms) (words : List (List ℕ)) (script : Scripted) → script.names ≡ names atoms words → HasLeaves (tokens atoms words) script.tree → HasAtoms atoms script
has_atoms (Script acc) words script n s = (
  leaves_of (pick_below 0) (Script acc) (inputs (Script acc) words) words script.tree (no_pick_atoms acc) (λ i. refl) s,
  λ e. let without : HasLeaves (tokens (Script false) words) script.tree = subst (λ (b : Bool). HasLeaves (tokens (Script b) words) script.tree) e s in
      leaves_of is_not_acc (Script false) (inputs (Script false) words) words script.tree no_acc_atoms (λ i. refl) without,
)
has_atoms (Body picks) words script n s = record {
  no_names = n;
  no_acc = leaves_of is_not_acc (Body picks) (inputs (Body picks) words) words script.tree (body_acc_atoms picks) (λ i. refl) s;
  picks_below = leaves_of (pick_below picks) (Body picks) (inputs (Body picks) words) words script.tree (body_pick_atoms picks) (λ i. refl) s;
}

-- the tokens that were read are those of the words
pub same_tokens : (atoms : Atoms) (words kept : List (List ℕ)) (more : Bool) (read : List Token) → KeepsFirst INPUTS kept more (names atoms words) → read ≡ tokens_among atoms kept words → read ≡ tokens atoms words
same_tokens atoms words kept more read k r = r ∙ ap (λ l. tokens_among atoms l words) k.first

pub few_kept : (all kept : List (List ℕ)) (more : Bool) → KeepsFirst INPUTS kept more all → length kept ≤ INPUTS
few_kept all kept more k = omega (arith, ap length k.first, length-take INPUTS all)

pub many_names : (all kept : List (List ℕ)) (more : Bool) → KeepsFirst INPUTS kept more all → more ≡ true → INPUTS < length all
many_names all kept more k m = grind (arith, nat_tests, k.rest, m)

pub few_names : (all kept : List (List ℕ)) (more : Bool) → KeepsFirst INPUTS kept more all → more ≡ false → length all ≤ INPUTS
few_names all kept more k m = not_more INPUTS (length all) more k.rest m

-- what is known where the tokens of words were read as a tree
pub record WasRead (atoms : Atoms) (words kept : List (List ℕ)) (more : Bool) (read : List Token) (tree : Tree) : Type 0 where
  pub keeps : KeepsFirst INPUTS kept more (names atoms words)
  pub tokens_are : read ≡ tokens_among atoms kept words
  pub spells : Spells read tree
  pub shallow : BeginsWithin LEVELS read
  pub leaves : HasLeaves read tree

pub spells_many : (atoms : Atoms) (words kept : List (List ℕ)) (more : Bool) (read : List Token) (tree : Tree) → WasRead atoms words kept more read tree → more ≡ true → SpellsTooMany atoms words
spells_many atoms words kept more read tree r m =
    let same = same_tokens atoms words kept more read r.keeps r.tokens_are in record {
      spelled = tree;
      tree = subst (λ (l : List Token). Spells l tree) same r.spells;
      shallow = subst (λ (l : List Token). BeginsWithin LEVELS l) same r.shallow;
      many = many_names (names atoms words) kept more r.keeps m;
    }

pub new_script : (atoms : Atoms) (words kept : List (List ℕ)) (more : Bool) (read : List Token) (tree : Tree) → WasRead atoms words kept more read tree → more ≡ false → (kept ≡ names atoms words) × WellFormed kept tree
new_script atoms words kept more read tree r m =
    well_formed atoms words kept more tree r.keeps m
    (subst (λ (l : List Token). Spells l tree) r.tokens_are r.spells) (subst (λ (l : List Token). HasLeaves l tree) r.tokens_are r.leaves)

pub spells_script : (atoms : Atoms) (words kept : List (List ℕ)) (more : Bool) (read : List Token) (tree : Tree) (script : Scripted) → WasRead atoms words kept more read tree → more ≡ false → script.names ≡ kept → script.tree ≡ tree → SpellsWith atoms words script × HasAtoms atoms script
spells_script atoms words kept more read tree script r m n t =
    let same = same_tokens atoms words kept more read r.keeps r.tokens_are in
    let named : script.names ≡ names atoms words = n ∙ (new_script atoms words kept more read tree r m).0 in (
      record {
        tree = subst (λ (u : Tree). Spells (tokens atoms words) u) (sym t) (subst (λ (l : List Token). Spells l tree) same r.spells);
        shallow = subst (λ (l : List Token). BeginsWithin LEVELS l) same r.shallow;
        named = named;
        few = few_names (names atoms words) kept more r.keeps m;
      },
      has_atoms atoms words script named (subst (λ (u : Tree). HasLeaves (tokens atoms words) u) (sym t) (subst (λ (l : List Token). HasLeaves l tree) same r.leaves)),
    )
