-- Steps but Skip and Resolve make no Done, those but Discover and Drop leave out-edges, and those but work leave what is kept at nodes.
use Rattle.std.proofs.Common.{◌≡◌, ℕ, Bool, true, false, ◌⊎◌, inl, inr, refl, sym, ap, List, true≢false, ◌∙◌, subst, Option}
use Rattle.script_tree.specs.declared.value.Value.{Value}
use Rattle.signal_graph.specs.Graph.{Graph}
use Rattle.node_versions.specs.declared.entry.State.TheVariants.{Mark, Frame, Done}
use Rattle.node_versions.specs.declared.entry.Entry.{Entry}
use Rattle.node_versions.specs.Entries.{has, at, is_mark, placed, with_state, collected, value_before, picks_before}
use Rattle.flow_model.specs.declared.step.Step.{Step}
use Rattle.flow_model.specs.declared.step.Step.TheVariants as steps
use Rattle.flow_model.specs.Machine.State.{Core, Cell, cell, ended, executes, wants, entries, outs, with_cell}
use Rattle.flow_model.specs.Machine.Words.{value_now, found_picks, found_now}
use Rattle.flow_model.specs.Machine.Changes.{stops, new_entry, place_entry, set_state, enter, raise, ensure_mark, finish, add_edge, drop_edge, cleared}
use Rattle.flow_model.specs.Machine.Steps.{allowed, apply, open_node, frame, is_change, collect, keep_found}
use Rattle.flow_model.specs.Kept.Lawful.{IsLawful}
use Rattle.flow_model.proofs.OneStep.WhoMayStep.{frame-wants, can_work-at_front, at_front-executes, due-can_work, discover-due, drop-due, mark-executes, mark-no_entry}
use Rattle.flow_model.proofs.OneList.Entering.{with_cell-entries, with_cell-cell}
use Rattle.flow_model.proofs.OrderStays.AfterEachStep.{wanted-fresh}
use Rattle.flow_model.proofs.OneStep.ChangesOfOneList.{same_cell}
use Rattle.flow_model.proofs.FramesSpread.AfterOtherSteps.{same_outs}
use Rattle.flow_model.proofs.Edges.EdgesFitCandidates.{frame-edges}

-- ---- lists

-- the list of node n after a step that finishes at no node
pub data QuietStep (graph : Graph) (s : Core) (n : ℕ) : List Entry → Type 0 where
  stays : {es : List Entry} → es ≡ entries s n → QuietStep graph s n es
  marks : {es : List Entry} (t : ℕ) → executes s t ≡ true → has (entries s n) t ≡ false → es ≡ placed (stops s t) (new_entry s t Mark) (entries s n) → QuietStep graph s n es
  frames : {es : List Entry} (t : ℕ) → wants s t n ≡ true → has (entries s n) t ≡ false → es ≡ placed (stops s t) (new_entry s t Frame) (entries s n) → QuietStep graph s n es
  raises : {es : List Entry} (t : ℕ) → wants s t n ≡ true → at is_mark (entries s n) t ≡ true → es ≡ with_state t Frame (entries s n) → QuietStep graph s n es
  collects : {es : List Entry} → es ≡ collected (ended s) (entries s n) → QuietStep graph s n es

abbrev pub finishes : Step → Bool
finishes (steps.Skip t n) = true
finishes (steps.Resolve t n) = true
finishes step = false

-- one cell's list changes
one_list : (graph : Graph) (s : Core) (n m : ℕ) (f : Cell → Cell) (g : List Entry → List Entry) → ((c : Cell) → (f c).entries ≡ g c.entries) → ((es : List Entry) → es ≡ g (entries s n) → QuietStep graph s n es) → QuietStep graph s m (entries (with_cell s n f) m)
one_list graph s n m f g same k = go (with_cell-entries s n f g same m)
  where
    go : (entries (with_cell s n f) m ≡ entries s m) ⊎ ((m ≡ n) × (entries (with_cell s n f) m ≡ g (entries s m))) → QuietStep graph s m (entries (with_cell s n f) m)
    go (inl e) = stays e
    go (inr e) = subst (λ (j : ℕ). QuietStep graph s j (entries (with_cell s n f) m)) (sym e.0) (k (entries (with_cell s n f) m) (e.1 ∙ ap (λ (j : ℕ). g (entries s j)) e.0))

ensured : (graph : Graph) (s : Core) (t n m : ℕ) → executes s t ≡ true → QuietStep graph s m (entries (ensure_mark s t n) m)
ensured graph s t n m x = go (has (entries s n) t) refl
  where
    go : (b : Bool) → has (entries s n) t ≡ b → QuietStep graph s m (entries (elim b [ true ↦ s | false ↦ enter s t n Mark ]) m)
    go true e = stays refl
    go false e = one_list graph s n m (place_entry s t Mark) (placed (stops s t) (new_entry s t Mark)) (λ c. refl) (λ es q. marks t x e q)

after_same : (graph : Graph) (s q : Core) (n : ℕ) (f : Cell → Cell) → ((c : Cell) → (f c).entries ≡ c.entries) → (m : ℕ) → QuietStep graph s m (entries q m) → QuietStep graph s m (entries (with_cell q n f) m)
after_same graph s q n f same m h = subst (QuietStep graph s m) (sym (same_cell graph q n f same m)) h

framed : (graph : Graph) (s : Core) (t n m : ℕ) → IsLawful graph s → allowed graph s (steps.Frame t n) ≡ true → QuietStep graph s m (entries (frame graph s t n) m)
framed graph s t n m h a = go (at is_mark (entries s n) t) refl
  where
    wanted : wants s t n ≡ true
    wanted = frame-wants graph s t n a

    go : (b : Bool) → at is_mark (entries s n) t ≡ b → QuietStep graph s m (entries (elim b [ true ↦ open_node graph (raise s t n) t n | false ↦ open_node graph (enter s t n Frame) t n ]) m)
    go true e = one_list graph s n m (set_state t Frame) (with_state t Frame) (λ c. refl) (λ es q. raises t wanted e q)
    go false e = one_list graph s n m (place_entry s t Frame) (placed (stops s t) (new_entry s t Frame)) (λ c. refl) (λ es q. frames t wanted (wanted-fresh graph s h t n wanted e) q)

pub step-quiet : (graph : Graph) (s : Core) (step : Step) → IsLawful graph s → allowed graph s step ≡ true → finishes step ≡ false → (m : ℕ) → QuietStep graph s m (entries (apply graph s step) m)
step-quiet graph s (steps.Frame t n) h a f m = framed graph s t n m h a
step-quiet graph s (steps.Start t) h a f m = stays refl
step-quiet graph s (steps.Skip t n) h a f m = absurd (true≢false f)
step-quiet graph s (steps.Gather t n i) h a f m = after_same graph s s n _ (λ c. refl) m (stays refl)
step-quiet graph s (steps.Evaluate t n) h a f m = after_same graph s s n _ (λ c. refl) m (stays refl)
step-quiet graph s (steps.Body t n) h a f m = after_same graph s s n _ (λ c. refl) m (stays refl)
step-quiet graph s (steps.Resolve t n) h a f m = absurd (true≢false f)
step-quiet graph s (steps.Discover t n c) h a f m = after_same graph s (ensure_mark s t c) c (add_edge n t) (λ c. refl) m (ensured graph s t c m (at_front-executes graph s t n (can_work-at_front graph s t n (due-can_work graph s t n (discover-due graph s t n c a)))))
step-quiet graph s (steps.Drop t n o) h a f m = after_same graph s (ensure_mark s t o) o (drop_edge n) (λ c. refl) m (ensured graph s t o m (at_front-executes graph s t n (can_work-at_front graph s t n (due-can_work graph s t n (drop-due graph s t n o a)))))
step-quiet graph s (steps.Mark t n) h a f m = one_list graph s n m (place_entry s t Mark) (placed (stops s t) (new_entry s t Mark)) (λ c. refl) (λ es q. marks t (mark-executes graph s t n a) (mark-no_entry graph s t n a) q)
step-quiet graph s (steps.Look t) h a f m = stays refl
step-quiet graph s (steps.End t) h a f m = stays refl
step-quiet graph s (steps.Collect n) h a f m = one_list graph s n m (collect s) (collected (ended s)) (λ c. refl) (λ es q. collects q)

-- ---- a call that finishes at a node

-- the lists after a Done at one node
finished-list : (s : Core) (t n : ℕ) (v : Value) (c : Bool) (ps : List (Option ℕ)) (m : ℕ)
    → (entries (finish s t n v c ps) m ≡ entries s m) ⊎ ((m ≡ n) × (entries (finish s t n v c ps) m ≡ with_state t (Done v c ps) (entries s m)))
finished-list s t n v c ps m = with_cell-entries s n (set_state t (Done v c ps)) (with_state t (Done v c ps)) (λ c. refl) m

pub skipped-list : (graph : Graph) (s : Core) (t n m : ℕ) → (entries (apply graph s (steps.Skip t n)) m ≡ entries s m)
    ⊎ ((m ≡ n) × (entries (apply graph s (steps.Skip t n)) m ≡ with_state t (Done (value_before (entries s n) t) false (picks_before (entries s n) t)) (entries s m)))
skipped-list graph s t n m = finished-list s t n (value_before (entries s n) t) false (picks_before (entries s n) t) m

pub resolved-list : (graph : Graph) (s : Core) (t n m : ℕ) → (entries (apply graph s (steps.Resolve t n)) m ≡ entries s m)
    ⊎ ((m ≡ n) × (entries (apply graph s (steps.Resolve t n)) m ≡ with_state t (Done (value_now graph s t n) (is_change graph s t n) (found_picks s n)) (entries s m)))
resolved-list graph s t n m = go (finished-list s t n (value_now graph s t n) (is_change graph s t n) (found_picks s n) m)
  where
    q : Core
    q = finish s t n (value_now graph s t n) (is_change graph s t n) (found_picks s n)

    same : entries (with_cell q n cleared) m ≡ entries q m
    same = same_cell graph q n cleared (λ c. refl) m

    go : (entries q m ≡ entries s m) ⊎ ((m ≡ n) × (entries q m ≡ with_state t (Done (value_now graph s t n) (is_change graph s t n) (found_picks s n)) (entries s m)))
        → (entries (with_cell q n cleared) m ≡ entries s m) ⊎ ((m ≡ n) × (entries (with_cell q n cleared) m ≡ with_state t (Done (value_now graph s t n) (is_change graph s t n) (found_picks s n)) (entries s m)))
    go (inl e) = inl (same ∙ e)
    go (inr e) = inr (e.0, same ∙ e.1)

-- ---- out-edges

abbrev pub edges : Step → Bool
edges (steps.Discover t n c) = true
edges (steps.Drop t n c) = true
edges step = false

pub step-outs : (graph : Graph) (s : Core) (step : Step) → edges step ≡ false → (m : ℕ) → outs (apply graph s step) m ≡ outs s m
step-outs graph s (steps.Frame t n) f m = frame-edges graph s t n m
step-outs graph s (steps.Start t) f m = refl
step-outs graph s (steps.Skip t n) f m = same_outs s n _ (λ c. refl) m
step-outs graph s (steps.Gather t n i) f m = same_outs s n _ (λ c. refl) m
step-outs graph s (steps.Evaluate t n) f m = same_outs s n (keep_found (found_now graph s t n)) (λ c. refl) m
step-outs graph s (steps.Body t n) f m = same_outs s n _ (λ c. refl) m
step-outs graph s (steps.Resolve t n) f m = same_outs (finish s t n (value_now graph s t n) (is_change graph s t n) (found_picks s n)) n cleared (λ c. refl) m ∙ same_outs s n _ (λ c. refl) m
step-outs graph s (steps.Discover t n c) f m = absurd (true≢false f)
step-outs graph s (steps.Drop t n o) f m = absurd (true≢false f)
step-outs graph s (steps.Mark t n) f m = same_outs s n (place_entry s t Mark) (λ c. refl) m
step-outs graph s (steps.Look t) f m = refl
step-outs graph s (steps.End t) f m = refl
step-outs graph s (steps.Collect n) f m = same_outs s n (collect s) (λ c. refl) m

-- ---- the work at a node

pub record SameWork (s q : Core) (n : ℕ) : Type 0 where
  pub gathered : (cell q n).gathered ≡ (cell s n).gathered
  pub found : (cell q n).found ≡ (cell s n).found
  pub body : (cell q n).body ≡ (cell s n).body

pub record KeepsWork (f : Cell → Cell) : Type 0 where
  pub gathered : (c : Cell) → (f c).gathered ≡ c.gathered
  pub found : (c : Cell) → (f c).found ≡ c.found
  pub body : (c : Cell) → (f c).body ≡ c.body

same-work : (s : Core) (n : ℕ) → SameWork s s n
same-work s n = record { gathered = refl; found = refl; body = refl }

cell-work : (s q : Core) (n0 : ℕ) (f : Cell → Cell) → KeepsWork f → (n : ℕ) → SameWork s q n → SameWork s (with_cell q n0 f) n
cell-work s q n0 f k n h = go (with_cell-cell q n0 f n)
  where
    go : (cell (with_cell q n0 f) n ≡ cell q n) ⊎ ((n ≡ n0) × (cell (with_cell q n0 f) n ≡ f (cell q n))) → SameWork s (with_cell q n0 f) n
    go (inl e) = record { gathered = ap (λ (c : Cell). c.gathered) e ∙ h.gathered; found = ap (λ (c : Cell). c.found) e ∙ h.found; body = ap (λ (c : Cell). c.body) e ∙ h.body }
    go (inr e) = record { gathered = ap (λ (c : Cell). c.gathered) e.1 ∙ k.gathered (cell q n) ∙ h.gathered; found = ap (λ (c : Cell). c.found) e.1 ∙ k.found (cell q n) ∙ h.found; body = ap (λ (c : Cell). c.body) e.1 ∙ k.body (cell q n) ∙ h.body }

ensured-work : (s : Core) (t c n : ℕ) → SameWork s (ensure_mark s t c) n
ensured-work s t c n = go (has (entries s c) t)
  where
    go : (b : Bool) → SameWork s (elim b as (λ _. Core) [ true ↦ s | false ↦ enter s t c Mark ]) n
    go true = same-work s n
    go false = let w = cell-work s s c (place_entry s t Mark) (record { gathered = λ c. refl; found = λ c. refl; body = λ c. refl }) n (same-work s n) in record { gathered = w.gathered; found = w.found; body = w.body }

framed-work : (graph : Graph) (s : Core) (t n0 n : ℕ) → SameWork s (frame graph s t n0) n
framed-work graph s t n0 n = go (at is_mark (entries s n0) t)
  where
    go : (b : Bool) → SameWork s (elim b as (λ _. Core) [ true ↦ open_node graph (raise s t n0) t n0 | false ↦ open_node graph (enter s t n0 Frame) t n0 ]) n
    go true = let w = cell-work s s n0 (set_state t Frame) (record { gathered = λ c. refl; found = λ c. refl; body = λ c. refl }) n (same-work s n) in record { gathered = w.gathered; found = w.found; body = w.body }
    go false = let w = cell-work s s n0 (place_entry s t Frame) (record { gathered = λ c. refl; found = λ c. refl; body = λ c. refl }) n (same-work s n) in record { gathered = w.gathered; found = w.found; body = w.body }

abbrev pub works : Step → Bool
works (steps.Gather t n m) = true
works (steps.Evaluate t n) = true
works (steps.Body t n) = true
works (steps.Resolve t n) = true
works step = false

pub step-work : (graph : Graph) (s : Core) (step : Step) → works step ≡ false → (n : ℕ) → SameWork s (apply graph s step) n
step-work graph s (steps.Frame t n0) f n = framed-work graph s t n0 n
step-work graph s (steps.Start t) f n = record { gathered = refl; found = refl; body = refl }
step-work graph s (steps.Skip t n0) f n =
    let w = cell-work s s n0 (set_state t (Done (value_before (entries s n0) t) false (picks_before (entries s n0) t))) (record { gathered = λ c. refl; found = λ c. refl; body = λ c. refl }) n (same-work s n) in
    record { gathered = w.gathered; found = w.found; body = w.body }
step-work graph s (steps.Gather t n0 i) f n = absurd (true≢false f)
step-work graph s (steps.Evaluate t n0) f n = absurd (true≢false f)
step-work graph s (steps.Body t n0) f n = absurd (true≢false f)
step-work graph s (steps.Resolve t n0) f n = absurd (true≢false f)
step-work graph s (steps.Discover t n0 c) f n =
    let w = cell-work s (ensure_mark s t c) c (add_edge n0 t) (record { gathered = λ c. refl; found = λ c. refl; body = λ c. refl }) n (ensured-work s t c n) in
    record { gathered = w.gathered; found = w.found; body = w.body }
step-work graph s (steps.Drop t n0 o) f n = cell-work s (ensure_mark s t o) o (drop_edge n0) (record { gathered = λ c. refl; found = λ c. refl; body = λ c. refl }) n (ensured-work s t o n)
step-work graph s (steps.Mark t n0) f n = let w = cell-work s s n0 (place_entry s t Mark) (record { gathered = λ c. refl; found = λ c. refl; body = λ c. refl }) n (same-work s n) in record { gathered = w.gathered; found = w.found; body = w.body }
step-work graph s (steps.Look t) f n = record { gathered = refl; found = refl; body = refl }
step-work graph s (steps.End t) f n = record { gathered = refl; found = refl; body = refl }
step-work graph s (steps.Collect n0) f n = cell-work s s n0 (collect s) (record { gathered = λ c. refl; found = λ c. refl; body = λ c. refl }) n (same-work s n)

-- a change of another cell, and of this one
pub changed-work : (s : Core) (n0 : ℕ) (f : Cell → Cell) (n : ℕ) → SameWork s (with_cell s n0 f) n ⊎ ((n ≡ n0) × (cell (with_cell s n0 f) n ≡ f (cell s n)))
changed-work s n0 f n = go (with_cell-cell s n0 f n)
  where
    go : (cell (with_cell s n0 f) n ≡ cell s n) ⊎ ((n ≡ n0) × (cell (with_cell s n0 f) n ≡ f (cell s n))) → SameWork s (with_cell s n0 f) n ⊎ ((n ≡ n0) × (cell (with_cell s n0 f) n ≡ f (cell s n)))
    go (inl e) = inl (record { gathered = ap (λ (c : Cell). c.gathered) e; found = ap (λ (c : Cell). c.found) e; body = ap (λ (c : Cell). c.body) e })
    go (inr e) = inr e
