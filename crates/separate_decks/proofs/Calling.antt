-- The workload's calls are well-named, and each thread sets its own eight sources.
use Rattle.std.proofs.Common.{◌≡◌, ℕ, zero, suc, ◌+◌, ◌-◌, ◌*◌, ◌<◌, ◌≤◌, Bool, true, false, cond, List, [], ◌∷◌, length, None, refl, sym, ap, ◌∙◌, subst, arith, true≢false}
use Rattle.std.specs.Prelude.{pos, is_none, ◌==◌, ◌||◌, ◌&&◌, if◌then◌else◌}
use Rattle.std.specs.List.{AllByRecursion}
use Rattle.std.proofs.lemmas.Bool.Decides.{eqb_tells, Decides-ltb}
use Rattle.std.proofs.lemmas.List.Sums.{sum_by-cons}
use Rattle.script_tree.specs.declared.value.Value.{Value}
use Rattle.script_tree.specs.declared.value.Value.TheVariants.{Int}
use Rattle.signal_graph.specs.declared.call.Call.{Call}
use Rattle.signal_graph.specs.declared.call.Call.TheVariants.{Fire, Read}
use Rattle.signal_graph.specs.Graph.{Graph, node_at, number_of, is_source}
use Rattle.signal_graph.specs.Machine.{names_node, names_source, first_wrong, misnamed, sets_of, looks_of}
use Rattle.call_log.specs.Made.{well_named, count_well_named, script_of}
use Rattle.separate_decks.specs.Separate.{sets_node, is_set_in, ThreadSets, Separate}
use Rattle.separate_decks.specs.Draws.{skip, draw}
use Rattle.separate_decks.specs.Workload.{name_of, call_of, draws_of_call, calls_of, state_after_calls, threads, workload_scripts}
use Rattle.separate_decks.proofs.Naming.{place_of_name}
use Rattle.separate_decks.proofs.Declaring.{draw_low, made_graph, length-nodes, source_at, Owns, fold_at}

names_a_node : (number k : ℕ) → k < 216 → names_node (made_graph number) (name_of k) ≡ true
names_a_node number k low =
    let long = length-nodes number in
    let place = place_of_name k low in
    (Decides-ltb (number_of (made_graph number) (name_of k)) (length (made_graph number).nodes)).1 (omega (arith, long, place, low))

names_a_source : (number k : ℕ) → k < 64 → names_source (made_graph number) (name_of k) ≡ true
names_a_source number k low =
    ap (λ b. b && is_source (node_at (made_graph number) (number_of (made_graph number) (name_of k)))) (names_a_node number k (omega (arith, low)))
    ∙ ap (λ i. is_source (node_at (made_graph number) i)) (place_of_name k (omega (arith, low)))
    ∙ source_at number k low

-- a call of the thread i
record Fits (number i : ℕ) (call : Call) : Type 0 where
  named : misnamed (made_graph number) call ≡ None
  own : (m : ℕ) → sets_node (made_graph number) m call ≡ true → Owns i m

read_fits : (number i q : ℕ) → q < 216 → Fits number i (Read (name_of q ∷ []))
read_fits number i q low = record {
  named = ap (λ b. first_wrong 1 (b ∷ [])) (names_a_node number q low);
  own = λ m e. absurd (true≢false (sym e));
}

fire_fits : (number i s q : ℕ) (value : Value) → i < 8 → Owns i s → q < 216 → Fits number i (Fire ((name_of s, value) ∷ []) (name_of q ∷ []))
fire_fits number i s q value few own low =
    let high = own.1 in
    record {
      named = ap (λ b. first_wrong 1 (b ∷ (names_node (made_graph number) (name_of q) ∷ []))) (names_a_source number s (omega (arith, few, high)))
          ∙ ap (λ b. first_wrong 1 (true ∷ (b ∷ []))) (names_a_node number q low);
      own = λ m e. cases m (number_of (made_graph number) (name_of s) == m) refl e;
    }
  where
    cases : (m : ℕ) (b : Bool) → (number_of (made_graph number) (name_of s) == m) ≡ b → (b || false) ≡ true → Owns i m
    cases m true same e =
        let high = own.1 in
        let place = place_of_name s (omega (arith, few, high)) in
        let there : number_of (made_graph number) (name_of s) ≡ m = grind (arith, eqb_tells, same) in
        subst (Owns i) (sym place ∙ there) own
    cases m false other e = absurd (true≢false (sym e))

call_fits : (number i x : ℕ) → i < 8 → Fits number i (call_of i x)
unfolding call_of
call_fits number i x few = cases (draw x 1 4 == 0)
  where
    cases : (b : Bool) → Fits number i (if b then Read (name_of (draw x 2 216) ∷ []) else Fire ((name_of (8 * i + draw x 2 8), Int (pos (draw x 3 1000))) ∷ []) (name_of (draw x 4 216) ∷ []))
    cases true = read_fits number i (draw x 2 216) (draw_low x 2 216 (omega arith))
    cases false =
        let low = draw_low x 2 8 (omega arith) in
        fire_fits number i (8 * i + draw x 2 8) (draw x 4 216) (Int (pos (draw x 3 1000))) few (omega arith, omega (arith, low)) (draw_low x 4 216 (omega arith))

calls_fit : (number i c x : ℕ) → i < 8 → AllByRecursion (Fits number i) (calls_of i c x)
unfolding calls_of
calls_fit number i zero x few = tt
calls_fit number i (suc c) x few = (call_fits number i x few, calls_fit number i c (skip (draws_of_call x) x) few)

length-calls : (i c x : ℕ) → length (calls_of i c x) ≡ c
unfolding calls_of
length-calls i zero x = refl
length-calls i (suc c) x = ap (λ n. suc n) (length-calls i c (skip (draws_of_call x) x))

threads_fit : (number i c x k : ℕ) → i + c ≤ 8 → AllByRecursion (Fits number (i + k)) (script_of (threads i c x) k)
unfolding threads
threads_fit number i zero x k few = tt
threads_fit number i (suc c) x zero few = let e : i ≡ i + 0 = omega arith in subst (λ j. AllByRecursion (Fits number j) (calls_of i 500 x)) e (calls_fit number i 500 x (omega (arith, few)))
threads_fit number i (suc c) x (suc k) few =
    let e : i + 1 + k ≡ i + suc k = omega arith in
    subst (λ j. AllByRecursion (Fits number j) (script_of (threads (i + 1) c (state_after_calls 500 x)) k)) e (threads_fit number (i + 1) c (state_after_calls 500 x) k (omega (arith, few)))

scripts_fit : (number k : ℕ) → AllByRecursion (Fits number k) (script_of (workload_scripts number) k)
unfolding workload_scripts
scripts_fit number k =
    let e : 0 + k ≡ k = omega arith in
    subst (λ j. AllByRecursion (Fits number j) (script_of (threads 0 8 (skip 560 number)) k)) e (threads_fit number 0 8 (skip 560 number) k (omega arith))

set_by : (number i m : ℕ) (calls : List Call) → AllByRecursion (Fits number i) calls → is_set_in (made_graph number) m calls ≡ true → Owns i m
set_by number i m [] h e = absurd (true≢false (sym e))
set_by number i m (call ∷ calls) h e = cases (sets_node (made_graph number) m call) refl e (λ there. set_by number i m calls h.1 there)
  where
    cases : (b : Bool) → sets_node (made_graph number) m call ≡ b → (b || is_set_in (made_graph number) m calls) ≡ true → (is_set_in (made_graph number) m calls ≡ true → Owns i m) → Owns i m
    cases true here k later = h.0.own m here
    cases false other k later = later k

owns : (number k m : ℕ) → ThreadSets (made_graph number) (workload_scripts number) k m → Owns k m
owns number k m e = set_by number k m (script_of (workload_scripts number) k) (scripts_fit number k) e

-- a source has one owner
one_owner : (i j m l n : ℕ) → Owns n m → Owns n l → Owns i m → Owns j l → i ≡ j
one_owner i j m l n a b c d = omega (arith, a.0, a.1, b.0, b.1, c.0, c.1, d.0, d.1)

-- the workload is separate
pub is_separate : (number : ℕ) → Separate (made_graph number) (workload_scripts number)
is_separate number = record {
  sources = λ m i j low source one other. one_owner i j m m i (owns number i m one) (owns number i m one) (owns number i m one) (owns number j m other);
  inputs = λ n m f. (let r = fold_at number n m f in let low = r.0 in let high = r.1 in let last = r.2.1 in source_at number m (omega (arith, low, high, last)));
  folds = λ n m l i j f g one other. one_owner i j m l (n - 64) (fold_at number n m f).2 (fold_at number n l g).2 (owns number i m one) (owns number j l other);
}

-- each call of each thread is well-named
all_named : (number i : ℕ) (calls : List Call) → AllByRecursion (Fits number i) calls → AllByRecursion (λ call. misnamed (made_graph number) call ≡ None) calls
all_named number i [] h = tt
all_named number i (call ∷ calls) h = (h.0.named, all_named number i calls h.1)

threads_named : (number i c x : ℕ) → i + c ≤ 8 → AllByRecursion (λ calls. AllByRecursion (λ call. misnamed (made_graph number) call ≡ None) calls) (threads i c x)
unfolding threads
threads_named number i zero x few = tt
threads_named number i (suc c) x few = (
  all_named number i (calls_of i 500 x) (calls_fit number i 500 x (omega (arith, few))),
  threads_named number (i + 1) c (state_after_calls 500 x) (omega (arith, few)),
)

pub calls_named : (number : ℕ) → AllByRecursion (λ calls. AllByRecursion (λ call. misnamed (made_graph number) call ≡ None) calls) (workload_scripts number)
unfolding workload_scripts
calls_named number = threads_named number 0 8 (skip 560 number) (omega arith)

-- there are 4000 calls
all_kept : (graph : Graph) (calls : List Call) → AllByRecursion (λ call. misnamed graph call ≡ None) calls → length (well_named graph calls) ≡ length calls
all_kept graph [] h = refl
all_kept graph (call ∷ calls) h =
    ap (λ b. length (cond b (call ∷ well_named graph calls) (well_named graph calls))) (ap is_none h.0)
    ∙ ap (λ n. suc n) (all_kept graph calls h.1)

threads_count : (number i c x : ℕ) → i + c ≤ 8 → count_well_named (made_graph number) (threads i c x) ≡ c * 500
unfolding threads
threads_count number i zero x few = refl
threads_count number i (suc c) x few =
    let graph = made_graph number in
    let here = all_kept graph (calls_of i 500 x) (all_named number i (calls_of i 500 x) (calls_fit number i 500 x (omega (arith, few)))) in
    let long = length-calls i 500 x in
    let rest = threads_count number (i + 1) c (state_after_calls 500 x) (omega (arith, few)) in
    let sum = sum_by-cons (λ (calls : List Call). length (well_named graph calls)) (calls_of i 500 x) (threads (i + 1) c (state_after_calls 500 x)) in
    omega (arith, here, long, rest, sum)

pub count_calls : (number : ℕ) → count_well_named (made_graph number) (workload_scripts number) ≡ 4000
unfolding workload_scripts
count_calls number = let count = threads_count number 0 8 (skip 560 number) (omega arith) in omega (arith, count)

-- the sizes of scripts and of calls
length-threads : (i c x : ℕ) → length (threads i c x) ≡ c
unfolding threads
length-threads i zero x = refl
length-threads i (suc c) x = ap (λ n. suc n) (length-threads (i + 1) c (state_after_calls 500 x))

pub length-scripts : (number : ℕ) → length (workload_scripts number) ≡ 8
unfolding workload_scripts
length-scripts number = length-threads 0 8 (skip 560 number)

threads_long : (i c x : ℕ) → AllByRecursion (λ (calls : List Call). length calls ≡ 500) (threads i c x)
unfolding threads
threads_long i zero x = tt
threads_long i (suc c) x = (length-calls i 500 x, threads_long (i + 1) c (state_after_calls 500 x))

pub scripts_long : (number : ℕ) → AllByRecursion (λ (calls : List Call). length calls ≡ 500) (workload_scripts number)
unfolding workload_scripts
scripts_long number = threads_long 0 8 (skip 560 number)

abbrev Small : Call → Type 0
Small call = (length (sets_of call) ≤ 1) × (length (looks_of call) ≡ 1)

call_small : (i x : ℕ) → Small (call_of i x)
unfolding call_of
call_small i x = cases (draw x 1 4 == 0)
  where
    cases : (b : Bool) → Small (if b then Read (name_of (draw x 2 216) ∷ []) else Fire ((name_of (8 * i + draw x 2 8), Int (pos (draw x 3 1000))) ∷ []) (name_of (draw x 4 216) ∷ []))
    cases true = (omega arith, refl)
    cases false = (omega arith, refl)

calls_small : (i c x : ℕ) → AllByRecursion Small (calls_of i c x)
unfolding calls_of
calls_small i zero x = tt
calls_small i (suc c) x = (call_small i x, calls_small i c (skip (draws_of_call x) x))

threads_small : (i c x : ℕ) → AllByRecursion (λ calls. AllByRecursion Small calls) (threads i c x)
unfolding threads
threads_small i zero x = tt
threads_small i (suc c) x = (calls_small i 500 x, threads_small (i + 1) c (state_after_calls 500 x))

pub scripts_small : (number : ℕ) → AllByRecursion (λ calls. AllByRecursion (λ call. (length (sets_of call) ≤ 1) × (length (looks_of call) ≡ 1)) calls) (workload_scripts number)
unfolding workload_scripts
scripts_small number = threads_small 0 8 (skip 560 number)
