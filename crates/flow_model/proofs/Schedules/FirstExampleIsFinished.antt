-- The first worked example is a finished run of its scripts, by computation.
use Rattle.std.proofs.Common.{◌≡◌, ℕ, zero, suc, ◌+◌, ◌<◌, inl, refl, arith, length}
use Rattle.call_log.specs.Made.{well_named, script_of, IsPrefix}
use Rattle.flow_model.specs.Follows.Callers.{begun_by, calls_of, IsFinishedRun}
use Rattle.flow_model.specs.Machine.Examples.{retrofit_graph, retrofit_scripts, retrofit_moves}

pub retrofit-finished : IsFinishedRun retrofit_graph retrofit_scripts 1000 retrofit_moves
retrofit-finished = record { history = refl; none_live = refl; in_order = in_order; all_begun = λ k l. inl (all_begun k l) }
  where
    in_order : (k : ℕ) → k < length retrofit_scripts → IsPrefix (calls_of (begun_by (k + 1) retrofit_moves)) (well_named retrofit_graph (script_of retrofit_scripts k))
    in_order zero l = refl
    in_order (suc zero) l = refl
    in_order (suc (suc k)) l = absurd (omega (arith, l))

    all_begun : (k : ℕ) → k < length retrofit_scripts → calls_of (begun_by (k + 1) retrofit_moves) ≡ well_named retrofit_graph (script_of retrofit_scripts k)
    all_begun zero l = refl
    all_begun (suc zero) l = refl
    all_begun (suc (suc k)) l = absurd (omega (arith, l))
