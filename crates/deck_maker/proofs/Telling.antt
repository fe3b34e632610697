-- The workload's deck is one: each of its lines is said by its canonical words, and is not too long.
use Rattle.std.proofs.Common.{◌≡◌, ℕ, zero, suc, ◌+◌, ◌*◌, ◌<◌, ◌≤◌, Bool, true, false, List, [], ◌∷◌, ◌++◌, length, map, refl, sym, arith, append-nil, length-append, true≢false}
use Rattle.std.specs.Prelude.{◌==◌, if◌then◌else◌, nat_le, pos, codes, decimal, slice_index}
use Rattle.std.specs.List.{AllByRecursion, list_all}
use Rattle.std.proofs.lemmas.Bool.Decides.{nat_tests}
use Rattle.std.proofs.lemmas.List.{length-map}
use Rattle.std.proofs.lemmas.List.Elements.{All-nil, All-from_recursion}
use Rattle.std.proofs.lemmas.Bool.{and_parts}
use Rattle.script_tree.specs.declared.limits.TheConstants.{LEVELS, LINE_BYTES}
use Rattle.script_tree.specs.declared.value.Value.TheVariants.{Int}
use Rattle.script_tree.specs.declared.expr.Binary.TheVariants.{Add, Subtract}
use Rattle.script_tree.specs.Names.{is_name}
use Rattle.script_tree.specs.Tree.{Tree, Input, Acc, Join}
use Rattle.script_tree.specs.Scripts.{Scripted}
use Rattle.script_tree.proofs.Lists.{all_append}
use Rattle.script_grammar.specs.Grammar.{tokens, nested}
use Rattle.script_grammar.specs.Canonical.{canonical}
use Rattle.script_grammar.proofs.Printing.{canonical_script}
use Rattle.expr_script.specs.Joined.{joined}
use Rattle.expr_script.specs.Printed.{token_text, printed_words}
use Rattle.expr_script.specs.Spelled.{IsShallow}
use Rattle.signal_graph.specs.declared.builder.DeclKind.{DeclKind}
use Rattle.signal_graph.specs.declared.call.Call.{Call}
use Rattle.signal_graph.specs.declared.call.Call.TheVariants.{Fire, Read}
use Rattle.deck_lines.specs.declared.line.Line.TheVariants.{Declares, Thread, Calls}
use Rattle.deck_lines.specs.Forms.{IsName, with_commas}
use Rattle.deck_lines.specs.Kept.{IsCall, SetsWell}
use Rattle.deck_text.specs.Calls.{IsThread}
use Rattle.deck_text.specs.Kept.{IsDeck, IsCanonical}
use Rattle.separate_decks.specs.Draws.{skip, draw}
use Rattle.signal_graph.specs.Graph.{no_nodes}
use Rattle.separate_decks.specs.Workload.{all_names, name_of, two, second, over, source, fold, signal_tree, signal, choice_tree, choose, sources, folds, signals, rows, all_kinds, named, workload_declarations, AreAccepted, workload_graph, call_of, draws_of_call, calls_of, state_after_calls, threads, workload_scripts}
use Rattle.separate_decks.proofs.Declaring.{draw_low, fold_leaves, signal_no_acc, signal_no_picks}
use Rattle.separate_decks.proofs.Keeping.{all_are_names, name_is_one, fold_kept, signal_kept, choice_kept}
use Rattle.deck_maker.proofs.Saying.{Canons, source_said, signal_said, fold_said, choose_said, thread_said, fire_said, read_said}
use Rattle.deck_maker.proofs.Shortness.{Short, name_short, words_short, is_short, digits_short, tokens_short}
use Rattle.deck_maker.proofs.Leading.{Back, deck, declarations_reach, threads_reach}

-- a tree that is written in few short words and is not nested deep
record IsTame (tree : Tree) : Type 0 where
  short : list_all is_short (tokens (canonical tree)) ≡ true
  few : length (tokens (canonical tree)) ≤ 16
  nest : list_all (λ n. nat_le n LEVELS) (nested 0 (canonical tree)) ≡ true

within_limit : (ns : List ℕ) (j : ℕ) → list_all (λ n. nat_le n LEVELS) ns ≡ true → slice_index ns j ≤ LEVELS
within_limit [] j h = omega arith
within_limit (n ∷ ns) zero h = let low = (and_parts (nat_le n LEVELS) (list_all (λ m. nat_le m LEVELS) ns) h).0 in grind (arith, nat_tests, low)
within_limit (n ∷ ns) (suc j) h = within_limit ns j (and_parts (nat_le n LEVELS) (list_all (λ m. nat_le m LEVELS) ns) h).1

shallow : (script : Scripted) → IsTame script.tree → IsShallow script
shallow script t = record {
  written = canonical script.tree;
  grammar = canonical_script script.tree;
  more = [];
  same = sym (append-nil (tokens (canonical script.tree)));
  shallow = λ j low. within_limit (nested 0 (canonical script.tree)) j t.nest;
}

script_short : (script : Scripted) → AllByRecursion Short script.names → IsTame script.tree → AllByRecursion Short (printed_words script)
script_short script h t = tokens_short script.names (tokens (canonical script.tree)) h t.short

script_few : (script : Scripted) → IsTame script.tree → length (printed_words script) ≤ 16
script_few script t = let few = t.few in let same = length-map (tokens (canonical script.tree)) (token_text script.names) in omega (arith, few, same)

fold_tame : (b : Bool) → IsTame (Join Subtract (Join Add Acc (Input 0)) (if b then Input 0 else Input 1))
fold_tame true = record { short = refl; few = omega arith; nest = refl }
fold_tame false = record { short = refl; few = omega arith; nest = refl }

signal_tame : (r : ℕ) (b : Bool) → IsTame (signal_tree r (Input 0) (if b then Input 0 else Input 1))
signal_tame zero true = record { short = refl; few = omega arith; nest = refl }
signal_tame zero false = record { short = refl; few = omega arith; nest = refl }
signal_tame (suc zero) true = record { short = refl; few = omega arith; nest = refl }
signal_tame (suc zero) false = record { short = refl; few = omega arith; nest = refl }
signal_tame (suc (suc r)) true = record { short = refl; few = omega arith; nest = refl }
signal_tame (suc (suc r)) false = record { short = refl; few = omega arith; nest = refl }

choice_tame : IsTame choice_tree
choice_tame = record { short = refl; few = omega arith; nest = refl }

one_short : (n : ℕ) → n < 216 → Short (name_of n)
one_short n low = name_short (name_of n) (name_is_one n low)

two_short : (p q : ℕ) → p < 216 → q < 216 → AllByRecursion Short (map name_of (two p q))
two_short p q h k = cases (p == q)
  where
    cases : (b : Bool) → AllByRecursion Short (map name_of (if b then p ∷ [] else p ∷ (q ∷ [])))
    cases true = (one_short p h, tt)
    cases false = (one_short p h, (one_short q k, tt))

line_short : (ws : List (List ℕ)) → AllByRecursion Short ws → length ws ≤ 64 → length (joined ws) ≤ LINE_BYTES
line_short ws h few = let short = words_short [] ws h in omega (arith, short, few)

-- a declaration is said under each name
abbrev IsTold : DeclKind → Type 0
IsTold kind = (name : List ℕ) → IsName name → IsCanonical (Declares name kind)

source_told : (n : ℕ) → n < 100 → IsTold (source n)
source_told n low name h = record {
  says = source_said name n h (omega (arith, low));
  short = line_short (codes "source" ∷ (name ∷ (codes "=" ∷ (decimal n ∷ [])))) (omega arith, (name_short name h, (omega arith, (digits_short n (omega (arith, low)), tt)))) (omega arith);
}

fold_told : Canons → (a b : ℕ) → a < 216 → b < 216 → IsTold (fold a b)
fold_told k a b ha hb name h =
    let script = over (two a b) (Join Subtract (Join Add Acc (Input 0)) (second a b)) in
    let tame = fold_tame (a == b) in
    let few = script_few script tame in
    record {
      says = fold_said k name 0 script h (omega arith) (record { formed = (fold_kept a b ha hb, (fold_leaves (a == b), λ e. absurd (true≢false e))); shallow = shallow script tame });
      short = line_short (codes "fold" ∷ (name ∷ (codes "=" ∷ (decimal 0 ∷ (codes ":" ∷ printed_words script)))))
          (omega arith, (name_short name h, (omega arith, (digits_short 0 (omega arith), (omega arith, script_short script (two_short a b ha hb) tame))))) (omega (arith, few));
    }

signal_told : Canons → (p q r : ℕ) → p < 216 → q < 216 → IsTold (signal p q r)
signal_told k p q r hp hq name h =
    let script = over (two p q) (signal_tree r (Input 0) (second p q)) in
    let tame = signal_tame r (p == q) in
    let few = script_few script tame in
    record {
      says = signal_said k name script h (record { formed = (signal_kept p q r hp hq, (signal_no_picks r (p == q), λ e. signal_no_acc r (p == q))); shallow = shallow script tame });
      short = line_short (codes "signal" ∷ (name ∷ (codes "=" ∷ printed_words script)))
          (omega arith, (name_short name h, (omega arith, script_short script (two_short p q hp hq) tame))) (omega (arith, few));
    }

choose_told : Canons → (p a b c d : ℕ) → p < 216 → a < 216 → b < 216 → c < 216 → d < 216 → IsTold (choose p (a ∷ (b ∷ (c ∷ (d ∷ [])))))
choose_told k p a b c d hp ha hb hc hd name h =
    let script = over (p ∷ []) choice_tree in
    let candidates = map name_of (a ∷ (b ∷ (c ∷ (d ∷ [])))) in
    let few = script_few script choice_tame in
    let among = codes "among" ∷ with_commas candidates in
    let part = printed_words script ++ among in
    let long = length-append (printed_words script) among in
    let whole = length-append part [] in
    record {
      says = choose_said k name (script, candidates) h
          (record { formed = (choice_kept p hp, (refl, λ e. refl)); shallow = shallow script choice_tame })
          (omega arith) (omega arith) (name_is_one a ha, (name_is_one b hb, (name_is_one c hc, (name_is_one d hd, tt)))) (omega arith);
      short = line_short (codes "choose" ∷ (name ∷ (codes "=" ∷ (part ++ [])))) (
        omega arith,
        (
          name_short name h,
          (
            omega arith,
            all_append Short part [] (all_append Short (printed_words script) among (script_short script (one_short p hp, tt) choice_tame)
                (omega arith, (one_short a ha, (omega arith, (one_short b hb, (omega arith, (one_short c hc, (omega arith, (one_short d hd, tt))))))))) tt,
          ),
        ),
      )
          (omega (arith, few, long, whole));
    }

sources_told : (n x : ℕ) → AllByRecursion IsTold (sources n x)
unfolding sources
sources_told zero x = tt
sources_told (suc n) x = (source_told (draw x 1 100) (draw_low x 1 100 (omega arith)), sources_told n (skip 1 x))

folds_told : Canons → (i n x : ℕ) → i + n ≤ 8 → AllByRecursion IsTold (folds i n x)
unfolding folds
folds_told k i zero x few = tt
folds_told k i (suc n) x few =
    let first = draw_low x 1 8 (omega arith) in
    let other = draw_low x 2 8 (omega arith) in
    (fold_told k (8 * i + draw x 1 8) (8 * i + draw x 2 8) (omega (arith, first, few)) (omega (arith, other, few)), folds_told k (i + 1) n (skip 2 x) (omega (arith, few)))

signals_told : Canons → (m n x : ℕ) → 0 < m → m + n ≤ 216 → AllByRecursion IsTold (signals m n x)
unfolding signals
signals_told k m zero x some few = tt
signals_told k m (suc n) x some few =
    let first = draw_low x 1 m some in
    let other = draw_low x 2 m some in
    (signal_told k (draw x 1 m) (draw x 2 m) (draw x 3 3) (omega (arith, first, few)) (omega (arith, other, few)), signals_told k (m + 1) n (skip 3 x) (omega arith) (omega (arith, few)))

drawn_low : (x j m : ℕ) → 0 < m → m ≤ 216 → draw x j m < 216
drawn_low x j m some few = let low = draw_low x j m some in omega (arith, low, few)

rows_told : Canons → (m n x : ℕ) → 0 < m → m + 6 * n ≤ 216 → AllByRecursion IsTold (rows m n x)
unfolding rows
rows_told k m zero x some few = tt
rows_told k m (suc n) x some few =
    let y = skip 15 x in
    let low = λ (j : ℕ). drawn_low y j (m + 5) (omega arith) (omega (arith, few)) in
    all_append IsTold (signals m 5 x) (choose (draw y 1 (m + 5)) (draw y 2 (m + 5) ∷ (draw y 3 (m + 5) ∷ (draw y 4 (m + 5) ∷ (draw y 5 (m + 5) ∷ [])))) ∷ rows (m + 6) n (skip 20 x))
    (signals_told k m 5 x some (omega (arith, few))) (
      choose_told k (draw y 1 (m + 5)) (draw y 2 (m + 5)) (draw y 3 (m + 5)) (draw y 4 (m + 5)) (draw y 5 (m + 5)) (low 1) (low 2) (low 3) (low 4) (low 5),
      rows_told k (m + 6) n (skip 20 x) (omega arith) (omega (arith, few)),
    )

all_told : Canons → (x : ℕ) → AllByRecursion IsTold (all_kinds x)
unfolding all_kinds
all_told k x =
    let rest = rows 72 24 (skip 80 x) in
    all_append IsTold (sources 64 x) (folds 0 8 (skip 64 x) ++ rest) (sources_told 64 x)
    (all_append IsTold (folds 0 8 (skip 64 x)) rest (folds_told k 0 8 (skip 64 x) (omega arith)) (rows_told k 72 24 (skip 80 x) (omega arith) (omega arith)))

named_told : (names : List (List ℕ)) (kinds : List DeclKind) → list_all is_name names ≡ true → AllByRecursion IsTold kinds → AllByRecursion (λ (d : List ℕ × DeclKind). IsCanonical (Declares d.0 d.1)) (named names kinds)
named_told [] kinds h k = tt
named_told (name ∷ names) [] h k = tt
named_told (name ∷ names) (kind ∷ kinds) h k =
    let parts = and_parts (is_name name) (list_all is_name names) h in
    (k.0 name parts.0, named_told names kinds parts.1 k.1)

-- a call of the workload is one of a deck, and its line is said
record IsToldCall (call : Call) : Type 0 where
  line : IsCanonical (Calls call)
  kept : IsCall call

read_told : (q : ℕ) → q < 216 → IsToldCall (Read (name_of q ∷ []))
read_told q low = record {
  line = record {
    says = read_said (name_of q) (name_is_one q low);
    short = line_short (codes "read" ∷ (name_of q ∷ [])) (omega arith, (one_short q low, tt)) (omega arith);
  };
  kept = record { some = omega arith; few_sets = omega arith; few_looks = omega arith; no_faults = All-nil SetsWell };
}

fire_told : (s n q : ℕ) → s < 216 → n < 1000 → q < 216 → IsToldCall (Fire ((name_of s, Int (pos n)) ∷ []) (name_of q ∷ []))
fire_told s n q hs hn hq = record {
  line = record {
    says = fire_said (name_of s) (name_of q) n (name_is_one s hs) (name_is_one q hq) (omega (arith, hn));
    short = line_short (codes "fire" ∷ (name_of s ∷ (codes "=" ∷ (decimal n ∷ (codes "look" ∷ (name_of q ∷ []))))))
        (omega arith, (one_short s hs, (omega arith, (digits_short n (omega (arith, hn)), (omega arith, (one_short q hq, tt)))))) (omega arith);
  };
  kept = record { some = omega arith; few_sets = omega arith; few_looks = omega arith; no_faults = All-from_recursion SetsWell ((name_of s, Int (pos n)) ∷ []) (refl, tt) };
}

call_told : (i x : ℕ) → i < 8 → IsToldCall (call_of i x)
unfolding call_of
call_told i x few = cases (draw x 1 4 == 0)
  where
    cases : (b : Bool) → IsToldCall (if b then Read (name_of (draw x 2 216) ∷ []) else Fire ((name_of (8 * i + draw x 2 8), Int (pos (draw x 3 1000))) ∷ []) (name_of (draw x 4 216) ∷ []))
    cases true = read_told (draw x 2 216) (draw_low x 2 216 (omega arith))
    cases false =
        let own = draw_low x 2 8 (omega arith) in
        fire_told (8 * i + draw x 2 8) (draw x 3 1000) (draw x 4 216) (omega (arith, own, few)) (draw_low x 3 1000 (omega arith)) (draw_low x 4 216 (omega arith))

calls_told : (i n x : ℕ) → i < 8 → AllByRecursion IsToldCall (calls_of i n x)
unfolding calls_of
calls_told i zero x few = tt
calls_told i (suc n) x few = (call_told i x few, calls_told i n (skip (draws_of_call x) x) few)

threads_told : (i n x : ℕ) → i + n ≤ 8 → AllByRecursion (AllByRecursion IsToldCall) (threads i n x)
unfolding threads
threads_told i zero x few = tt
threads_told i (suc n) x few = (calls_told i 500 x (omega (arith, few)), threads_told (i + 1) n (state_after_calls 500 x) (omega (arith, few)))

scripts_told : (number : ℕ) → AllByRecursion (AllByRecursion IsToldCall) (workload_scripts number)
unfolding workload_scripts
scripts_told number = threads_told 0 8 (skip 560 number) (omega arith)

lines_of_calls : (calls : List Call) → AllByRecursion IsToldCall calls → AllByRecursion (λ call. IsCanonical (Calls call)) calls
lines_of_calls [] h = tt
lines_of_calls (call ∷ calls) h = (h.0.line, lines_of_calls calls h.1)

lines_of_threads : (scripts : List (List Call)) → AllByRecursion (AllByRecursion IsToldCall) scripts → AllByRecursion (AllByRecursion (λ call. IsCanonical (Calls call))) scripts
lines_of_threads [] h = tt
lines_of_threads (calls ∷ scripts) h = (lines_of_calls calls h.0, lines_of_threads scripts h.1)

kept_calls : (calls : List Call) → AllByRecursion IsToldCall calls → AllByRecursion IsCall calls
kept_calls [] h = tt
kept_calls (call ∷ calls) h = (h.0.kept, kept_calls calls h.1)

kept_threads : (scripts : List (List Call)) → AllByRecursion (AllByRecursion IsToldCall) scripts → AllByRecursion (λ (calls : List Call). length calls ≡ 500) scripts → AllByRecursion IsThread scripts
kept_threads [] h s = tt
kept_threads (calls ∷ scripts) h s =
    let long = s.0 in
    (record { each = All-from_recursion IsCall calls (kept_calls calls h.0); counted = omega (arith, long) }, kept_threads scripts h.1 s.1)

-- the workload's deck is one that lines spell
pub workload_is_deck : Canons → Back → (number : ℕ) → AreAccepted no_nodes (workload_declarations number) → length (workload_scripts number) ≡ 8
    → AllByRecursion (λ (calls : List Call). length calls ≡ 500) (workload_scripts number) → IsDeck (deck (workload_graph number) (workload_scripts number))
unfolding workload_graph workload_declarations
workload_is_deck k back number accepted eight each =
    let scripts = workload_scripts number in
    let told = scripts_told number in
    let thread : IsCanonical Thread = record { says = thread_said; short = line_short (codes "thread" ∷ []) (omega arith, tt) (omega arith) } in
    let calls = threads_reach back (workload_graph number) [] scripts thread (omega (arith, eight)) (lines_of_threads scripts told) in
    let all = declarations_reach back no_nodes (workload_declarations number) (deck (workload_graph number) scripts) accepted (named_told all_names (all_kinds number) all_are_names (all_told k number)) calls in
    record {
      threads = record { some = omega (arith, eight); few = omega (arith, eight); each = All-from_recursion IsThread scripts (kept_threads scripts told each) };
      text = all.text;
      spelled = record { lead = all.lead; thread = omega (arith, eight) };
    }
