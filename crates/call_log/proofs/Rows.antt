-- Which runs of small decks are merges of their scripts, computed from the definition, and which are not.
use Rattle.std.proofs.Common.{◌≡◌, ℕ, zero, suc, ◌+◌, ◌<◌, ◌≤◌, List, [], ◌∷◌, ap, refl, true≢false, arith}
use Rattle.std.specs.Prelude.{◌==◌, Bool, true, false, pos, codes, All, length, count_by}
use Rattle.std.proofs.lemmas.Bool.Decides.{nat_tests}
use Rattle.std.specs.List.Sorted.{IsStrictlyIncreasing}
use Rattle.script_tree.specs.declared.expr.Binary.TheVariants.{Add}
use Rattle.script_tree.specs.Tree.{Number, Input, Join}
use Rattle.signal_graph.specs.declared.node.Node.TheVariants.{Source, Signal}
use Rattle.signal_graph.specs.declared.call.Call.{Call}
use Rattle.signal_graph.specs.declared.call.Call.TheVariants.{Fire, Read}
use Rattle.signal_graph.specs.declared.call.Reply.TheVariants.{Fire as Fired, Read as Seen}
use Rattle.signal_graph.specs.declared.log.Logged.{Logged}
use Rattle.signal_graph.specs.declared.log.Why.{Why}
use Rattle.signal_graph.specs.declared.log.Why.TheVariants.{UnknownName, VersionsUsedUp}
use Rattle.signal_graph.specs.declared.log.Refused.{Refused}
use Rattle.signal_graph.specs.Graph.{Graph}
use Rattle.signal_graph.proofs.Rows.{num, entry}
use Rattle.call_log.specs.Made.{entries_of, calls_in, versions_in, well_named, script_of, IsPrefix}
use Rattle.call_log.specs.LeftOut.{left_out}
use Rattle.call_log.specs.Merge.{IsOfCaller, Merge}

abbrev pub refused : ℕ → ℕ → Why → Refused
refused caller number why = record { caller = caller; number = number; why = why }

-- a source and a signal
abbrev two : Graph
two = record {
  names = codes "a" ∷ codes "b" ∷ [];
  nodes = Source (num 1) ∷ Signal (record { names = codes "a" ∷ []; tree = Join Add (Input 0) (Number (pos 1)) }) (0 ∷ []) ∷ [];
}

abbrev set_a : ℕ → List (List ℕ) → Call
set_a n looks = Fire ((codes "a", num n) ∷ []) looks

-- one thread whose two calls are made
abbrev first_scripts : List (List Call)
first_scripts = (set_a 5 (codes "b" ∷ []) ∷ Read (codes "a" ∷ codes "b" ∷ []) ∷ []) ∷ []

abbrev first_run : List Logged
first_run =
    entry 1 1 (set_a 5 (codes "b" ∷ [])) (Fired 2 1 (num 6 ∷ []))
    ∷ entry 1 2 (Read (codes "a" ∷ codes "b" ∷ [])) (Seen (num 5 ∷ num 6 ∷ [])) ∷ []

first_run_merges : Merge two first_scripts 4000000 first_run []
first_run_merges = record {
  callers = callers;
  in_order = in_order;
  all_made = λ _. refl;
  used_up = λ few. absurd (omega (arith, few));
  versions = record { each_once = each_once; rising = rising };
  rest = refl;
}
  where
    callers : All (IsOfCaller 1) first_run
    callers zero d h = (omega arith, omega arith)
    callers (suc zero) d h = (omega arith, omega arith)
    callers (suc (suc k)) d h = absurd (omega (arith, h))

    in_order : (k : ℕ) → k < 1 → IsPrefix (calls_in (entries_of (k + 1) first_run)) (well_named two (script_of first_scripts k))
    in_order zero h = refl
    in_order (suc k) h = absurd (omega (arith, h))

    each_once : (v : ℕ) → 1 ≤ v → v ≤ 2 → count_by (λ e. e.version == v) first_run ≡ 1
    each_once zero above below = absurd (omega (arith, above))
    each_once (suc zero) above below = refl
    each_once (suc (suc zero)) above below = refl
    each_once (suc (suc (suc v))) above below = absurd (omega (arith, below))

    rising_one : IsStrictlyIncreasing (versions_in (entries_of 1 first_run))
    rising_one zero within = omega arith
    rising_one (suc k) within = absurd (omega (arith, within))

    rising : (caller : ℕ) → IsStrictlyIncreasing (versions_in (entries_of caller first_run))
    rising zero = λ k within. absurd (omega arith)
    rising (suc zero) = rising_one
    rising (suc (suc caller)) = λ k within.
        let other : (1 == suc (suc caller)) ≡ false = grind (arith, nat_tests) in
        let nothing : versions_in (entries_of (suc (suc caller)) first_run) ≡ [] = grind (arith, other) in
        absurd (omega (arith, within, ap length nothing))

-- misnamed calls, by the place of the first name at fault, and one that is made
abbrev misnamed_scripts : List (List Call)
misnamed_scripts = (Fire ((codes "b", num 3) ∷ []) [] ∷ set_a 2 (codes "c" ∷ codes "b" ∷ []) ∷ Read (codes "b" ∷ []) ∷ []) ∷ []

abbrev one_made : List Logged
one_made = entry 1 1 (Read (codes "b" ∷ [])) (Seen (num 2 ∷ [])) ∷ []

misnamed_merges : Merge two misnamed_scripts 4000000 one_made (refused 1 1 (UnknownName 1) ∷ refused 1 2 (UnknownName 2) ∷ [])
misnamed_merges = record {
  callers = callers;
  in_order = in_order;
  all_made = λ _. refl;
  used_up = λ few. absurd (omega (arith, few));
  versions = record { each_once = each_once; rising = rising };
  rest = refl;
}
  where
    callers : All (IsOfCaller 1) one_made
    callers zero d h = (omega arith, omega arith)
    callers (suc k) d h = absurd (omega (arith, h))

    in_order : (k : ℕ) → k < 1 → IsPrefix (calls_in (entries_of (k + 1) one_made)) (well_named two (script_of misnamed_scripts k))
    in_order zero h = refl
    in_order (suc k) h = absurd (omega (arith, h))

    each_once : (v : ℕ) → 1 ≤ v → v ≤ 1 → count_by (λ e. e.version == v) one_made ≡ 1
    each_once zero above below = absurd (omega (arith, above))
    each_once (suc zero) above below = refl
    each_once (suc (suc v)) above below = absurd (omega (arith, below))

    rising : (caller : ℕ) → IsStrictlyIncreasing (versions_in (entries_of caller one_made))
    rising zero = λ k within. absurd (omega arith)
    rising (suc zero) = λ k within. absurd (omega (arith, within))
    rising (suc (suc caller)) = λ k within.
        let other : (1 == suc (suc caller)) ≡ false = grind (arith, nat_tests) in
        let nothing : versions_in (entries_of (suc (suc caller)) one_made) ≡ [] = grind (arith, other) in
        absurd (omega (arith, within, ap length nothing))

-- with one version the second call finds none, and with none both do
abbrev two_calls : List (List Call)
two_calls = (set_a 1 [] ∷ Read (codes "a" ∷ []) ∷ []) ∷ []

abbrev first_alone : List Logged
first_alone = entry 1 1 (set_a 1 []) (Fired 2 1 []) ∷ []

one_version_leaves_out : left_out two 1 first_alone two_calls ≡ refused 1 2 (VersionsUsedUp 1) ∷ []
one_version_leaves_out = refl

no_version_leaves_out : left_out two 0 [] two_calls ≡ refused 1 1 (VersionsUsedUp 0) ∷ refused 1 2 (VersionsUsedUp 0) ∷ []
no_version_leaves_out = refl

-- two threads whose calls are mixed; the versions need not rise along the log
abbrev both_scripts : List (List Call)
both_scripts = (set_a 2 [] ∷ []) ∷ (Read (codes "b" ∷ []) ∷ set_a 3 [] ∷ []) ∷ []

abbrev mixed : List Logged
mixed =
    entry 2 2 (Read (codes "b" ∷ [])) (Seen (num 2 ∷ []))
    ∷ entry 1 1 (set_a 2 []) (Fired 2 1 [])
    ∷ entry 2 3 (set_a 3 []) (Fired 2 1 []) ∷ []

mixed_merges : Merge two both_scripts 4000000 mixed []
mixed_merges = record {
  callers = callers;
  in_order = in_order;
  all_made = λ _. refl;
  used_up = λ few. absurd (omega (arith, few));
  versions = record { each_once = each_once; rising = rising };
  rest = refl;
}
  where
    callers : All (IsOfCaller 2) mixed
    callers zero d h = (omega arith, omega arith)
    callers (suc zero) d h = (omega arith, omega arith)
    callers (suc (suc zero)) d h = (omega arith, omega arith)
    callers (suc (suc (suc k))) d h = absurd (omega (arith, h))

    in_order : (k : ℕ) → k < 2 → IsPrefix (calls_in (entries_of (k + 1) mixed)) (well_named two (script_of both_scripts k))
    in_order zero h = refl
    in_order (suc zero) h = refl
    in_order (suc (suc k)) h = absurd (omega (arith, h))

    each_once : (v : ℕ) → 1 ≤ v → v ≤ 3 → count_by (λ e. e.version == v) mixed ≡ 1
    each_once zero above below = absurd (omega (arith, above))
    each_once (suc zero) above below = refl
    each_once (suc (suc zero)) above below = refl
    each_once (suc (suc (suc zero))) above below = refl
    each_once (suc (suc (suc (suc v)))) above below = absurd (omega (arith, below))

    rising_two : IsStrictlyIncreasing (versions_in (entries_of 2 mixed))
    rising_two zero within = omega arith
    rising_two (suc k) within = absurd (omega (arith, within))

    rising : (caller : ℕ) → IsStrictlyIncreasing (versions_in (entries_of caller mixed))
    rising zero = λ k within. absurd (omega arith)
    rising (suc zero) = λ k within. absurd (omega (arith, within))
    rising (suc (suc zero)) = rising_two
    rising (suc (suc (suc caller))) = λ k within.
        let not_one : (1 == suc (suc (suc caller))) ≡ false = grind (arith, nat_tests) in
        let not_two : (2 == suc (suc (suc caller))) ≡ false = grind (arith, nat_tests) in
        let nothing : versions_in (entries_of (suc (suc (suc caller))) mixed) ≡ [] = grind (arith, not_one, not_two) in
        absurd (omega (arith, within, ap length nothing))

-- not a merge: one thread's calls in another order than it made them
abbrev begins_with_read : List Call → Bool
begins_with_read [] = false
begins_with_read (Fire sets looks ∷ calls) = false
begins_with_read (Read looks ∷ calls) = true

abbrev turned : List Logged
turned =
    entry 1 1 (Read (codes "a" ∷ codes "b" ∷ [])) (Seen (num 1 ∷ num 2 ∷ []))
    ∷ entry 1 2 (set_a 5 (codes "b" ∷ [])) (Fired 2 1 (num 6 ∷ [])) ∷ []

turned_is_no_merge : Merge two first_scripts 4000000 turned [] → ⊥
turned_is_no_merge merge = true≢false (ap begins_with_read (merge.in_order 0 (omega arith)))

-- not a merge: a call is left out, though there are versions for it
shorter_is_no_merge : Merge two two_calls 4000000 first_alone (refused 1 2 (VersionsUsedUp 4000000) ∷ []) → ⊥
shorter_is_no_merge merge = absurd (omega (arith, merge.all_made (omega arith)))

-- not a merge: a misnamed call is told with another place
abbrev another_place : List Refused
another_place = refused 1 1 (UnknownName 2) ∷ refused 1 2 (UnknownName 2) ∷ []

abbrev place_in : Why → ℕ
place_in (UnknownName place) = place
place_in (VersionsUsedUp limit) = 0

abbrev first_place : List Refused → ℕ
first_place [] = 0
first_place (r ∷ rs) = place_in r.why

another_place_is_no_merge : Merge two misnamed_scripts 4000000 one_made another_place → ⊥
another_place_is_no_merge merge = absurd (omega (arith, ap first_place merge.rest))
