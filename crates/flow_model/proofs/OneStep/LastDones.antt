-- The last Done of a list stays through each step but one that finishes there.
use Rattle.std.proofs.Common.{◌≡◌, ℕ, ◌+◌, ◌≤◌, true, not, refl, sym, ap, arith, List, length, ◌∙◌, subst}
use Rattle.std.proofs.lemmas.Bool.{not-true}
use Rattle.signal_graph.specs.Graph.{Graph}
use Rattle.node_versions.specs.declared.entry.State.TheVariants.{Mark, Frame}
use Rattle.node_versions.specs.declared.entry.Entry.{Entry}
use Rattle.node_versions.specs.Entries.{behind, collected, last_done}
use Rattle.flow_model.specs.Machine.State.{Core, live, ended, entries}
use Rattle.flow_model.specs.Machine.Changes.{stops_call, new_entry}
use Rattle.flow_model.specs.Kept.Lawful.{IsLawful}
use Rattle.flow_model.proofs.OneStep.WhoMayStep.{executes-live, wants-live}
use Rattle.flow_model.proofs.OneList.OneEntryACall.{collected-length}
use Rattle.flow_model.proofs.OneStep.ChangesOfOneList.{ListStep, stays, marks, frames, raises, finishes, collects}
use Rattle.flow_model.proofs.Lengths.ListWorth.{list_worth, live_versions, placed-lowers, raised-lowers, finished-lowers, collected-lowers}
use Rattle.flow_model.proofs.OneList.OwnEntries.{placed-last_done, raised-last_done, collected-last_done}

-- ---- what Collect leaves

-- ---- what a step leaves of a list

-- It is worth so much less, b, and has the same last Done, or a call finishes there, which lowers it by k.
pub data Lowers (k : ℕ) (s : Core) (n : ℕ) (es : List Entry) (b : ℕ) : Type 0 where
  keeps : list_worth k (live_versions s) es + b ≤ list_worth k (live_versions s) (entries s n) → last_done es ≡ last_done (entries s n) → Lowers k s n es b
  ends : list_worth k (live_versions s) es + k ≤ list_worth k (live_versions s) (entries s n) → Lowers k s n es b

-- what each of these steps lowers it by, at least
abbrev pub lowered : (graph : Graph) (s : Core) (n : ℕ) (es : List Entry) → ListStep graph s n es → ℕ
lowered graph s n es (stays e) = 0
lowered graph s n es (marks t x fresh r e) = 1
lowered graph s n es (frames t w fresh r e) = 1
lowered graph s n es (raises t w m e) = 1
lowered graph s n es (finishes t v c ps f e) = 1
lowered graph s n es (collects e) = 0

moved : (k b : ℕ) (vs : List ℕ) (es es2 old : List Entry) → es ≡ es2 → list_worth k vs es2 + b ≤ list_worth k vs old → list_worth k vs es + b ≤ list_worth k vs old
moved k b vs es es2 old e h = subst (λ (xs : List Entry). list_worth k vs xs + b ≤ list_worth k vs old) (sym e) h

pub collected-keeps : (graph : Graph) (k b : ℕ) (s : Core) → IsLawful graph s → (n : ℕ) (es : List Entry) → es ≡ collected (ended s) (entries s n) → length (collected (ended s) (entries s n)) + b ≤ length (entries s n) → Lowers k s n es b
collected-keeps graph k b s h n es e l = keeps (moved k b (live_versions s) es _ _ e (collected-lowers k s n b l)) (ap last_done e ∙ collected-last_done (λ v. not (live s v)) (entries s n) (h.one_entry n) prefix)
  where
    prefix : (u v : ℕ) → behind (entries s n) u v ≡ true → not (live s v) ≡ true → not (live s u) ≡ true
    prefix u v b d = ap not (h.ended_is_prefix.prefix n u v b (not-true _ d))

pub list-lowers : (graph : Graph) (k : ℕ) (s : Core) → IsLawful graph s → (n : ℕ) (es : List Entry) → (x : ListStep graph s n es) → Lowers k s n es (lowered graph s n es x)
list-lowers graph k s h n es (stays e) = keeps (moved k 0 (live_versions s) es _ _ e (omega arith)) (ap last_done e)
list-lowers graph k s h n es (marks t x fresh r e) = keeps (moved k 1 (live_versions s) es _ _ e (placed-lowers k s n t Mark refl (executes-live s t x) fresh)) (ap last_done e ∙ placed-last_done (stops_call s t) (new_entry s t Mark) (entries s n) refl)
list-lowers graph k s h n es (frames t w fresh r e) = keeps (moved k 1 (live_versions s) es _ _ e (placed-lowers k s n t Frame refl (wants-live s t n w) fresh)) (ap last_done e ∙ placed-last_done (stops_call s t) (new_entry s t Frame) (entries s n) refl)
list-lowers graph k s h n es (raises t w m e) = keeps (moved k 1 (live_versions s) es _ _ e (raised-lowers k s n t (wants-live s t n w) m)) (ap last_done e ∙ raised-last_done t (entries s n) m)
list-lowers graph k s h n es (finishes t v c ps f e) = ends (moved k k (live_versions s) es _ _ e (finished-lowers graph k s h n t v c ps f))
list-lowers graph k s h n es (collects e) = collected-keeps graph k 0 s h n es e (let l = collected-length (λ v. not (live s v)) (entries s n) in omega (arith, l))
