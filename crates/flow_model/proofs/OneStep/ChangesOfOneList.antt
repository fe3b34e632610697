-- A step leaves a node's list, places a Mark or a Frame there, raises a Mark, finishes at a first Frame, or collects.
use Rattle.std.proofs.Common.{◌≡◌, ℕ, Bool, true, false, ◌||◌, ◌⊎◌, inl, inr, refl, sym, ap, arith, List, ◌∙◌, subst, Option}
use Rattle.script_tree.specs.declared.value.Value.{Value}
use Rattle.script_tree.proofs.Truths.{and_left, and_right}
use Rattle.signal_graph.specs.Graph.{Graph}
use Rattle.node_versions.specs.declared.entry.State.TheVariants.{Mark, Frame, Done}
use Rattle.node_versions.specs.declared.entry.Entry.{Entry}
use Rattle.node_versions.specs.Entries.{has, at, is_mark, placed, with_state, collected}
use Rattle.flow_model.specs.declared.step.Step.{Step}
use Rattle.flow_model.specs.declared.step.Step.TheVariants as steps
use Rattle.flow_model.specs.Machine.State.{Core, Cell, ended, executes, wants, entries, with_cell}
use Rattle.flow_model.specs.Machine.Words.{at_front, has_room, value_now, found_picks}
use Rattle.flow_model.specs.Machine.Changes.{stops, new_entry, place_entry, set_state, enter, raise, ensure_mark, finish, add_edge, drop_edge}
use Rattle.flow_model.specs.Machine.Steps.{allowed, apply, open_node, frame, has_room_for, is_change, collect}
use Rattle.flow_model.specs.Kept.Lawful.{IsLawful}
use Rattle.flow_model.proofs.OneStep.WhoMayStep.{frame-wants, skip-can_work, resolve-can_work, can_work-at_front, at_front-executes, due-can_work, discover-due, drop-due, mark-executes, mark-no_entry}
use Rattle.flow_model.proofs.OneList.Entering.{with_cell-entries}
use Rattle.flow_model.proofs.OrderStays.AfterEachStep.{wanted-fresh}

-- the list of node n after a step
pub data ListStep (graph : Graph) (s : Core) (n : ℕ) : List Entry → Type 0 where
  stays : {es : List Entry} → es ≡ entries s n → ListStep graph s n es
  marks : {es : List Entry} (t : ℕ) → executes s t ≡ true → has (entries s n) t ≡ false → has_room s n ≡ true → es ≡ placed (stops s t) (new_entry s t Mark) (entries s n) → ListStep graph s n es
  frames : {es : List Entry} (t : ℕ) → wants s t n ≡ true → has (entries s n) t ≡ false → has_room s n ≡ true → es ≡ placed (stops s t) (new_entry s t Frame) (entries s n) → ListStep graph s n es
  raises : {es : List Entry} (t : ℕ) → wants s t n ≡ true → at is_mark (entries s n) t ≡ true → es ≡ with_state t Frame (entries s n) → ListStep graph s n es
  finishes : {es : List Entry} (t : ℕ) (v : Value) (c : Bool) (ps : List (Option ℕ)) → at_front graph s t n ≡ true → es ≡ with_state t (Done v c ps) (entries s n) → ListStep graph s n es
  collects : {es : List Entry} → es ≡ collected (ended s) (entries s n) → ListStep graph s n es

moved : (graph : Graph) (s : Core) (n m : ℕ) (es : List Entry) → m ≡ n → ListStep graph s n es → ListStep graph s m es
moved graph s n m es e h = subst (λ (k : ℕ). ListStep graph s k es) (sym e) h

pub same_cell : (graph : Graph) (s : Core) (n : ℕ) (f : Cell → Cell) → ((c : Cell) → (f c).entries ≡ c.entries) → (m : ℕ) → entries (with_cell s n f) m ≡ entries s m
same_cell graph s n f same m = go (with_cell-entries s n f (λ es. es) same m)
  where
    go : (entries (with_cell s n f) m ≡ entries s m) ⊎ ((m ≡ n) × (entries (with_cell s n f) m ≡ entries s m)) → entries (with_cell s n f) m ≡ entries s m
    go (inl e) = e
    go (inr e) = e.1

-- one cell's list changes
one_list : (graph : Graph) (s : Core) (n m : ℕ) (f : Cell → Cell) (g : List Entry → List Entry) → ((c : Cell) → (f c).entries ≡ g c.entries) → ((es : List Entry) → es ≡ g (entries s n) → ListStep graph s n es) → ListStep graph s m (entries (with_cell s n f) m)
one_list graph s n m f g same k = go (with_cell-entries s n f g same m)
  where
    go : (entries (with_cell s n f) m ≡ entries s m) ⊎ ((m ≡ n) × (entries (with_cell s n f) m ≡ g (entries s m))) → ListStep graph s m (entries (with_cell s n f) m)
    go (inl e) = stays e
    go (inr e) = moved graph s n m _ e.0 (k (entries (with_cell s n f) m) (e.1 ∙ ap (λ (j : ℕ). g (entries s j)) e.0))

room-or_entry : (graph : Graph) (s : Core) (t m : ℕ) → has_room_for s t m ≡ true → has (entries s m) t ≡ false → has_room s m ≡ true
room-or_entry graph s t m h k = grind (arith, h, k)

ensured : (graph : Graph) (s : Core) (t n m : ℕ) → executes s t ≡ true → has_room_for s t n ≡ true → ListStep graph s m (entries (ensure_mark s t n) m)
ensured graph s t n m x r = go (has (entries s n) t) refl
  where
    go : (b : Bool) → has (entries s n) t ≡ b → ListStep graph s m (entries (elim b [ true ↦ s | false ↦ enter s t n Mark ]) m)
    go true e = stays refl
    go false e = one_list graph s n m (place_entry s t Mark) (placed (stops s t) (new_entry s t Mark)) (λ c. refl) (λ es q. marks t x e (room-or_entry graph s t n r e) q)

finished : (graph : Graph) (s : Core) (t n m : ℕ) (v : Value) (c : Bool) (ps : List (Option ℕ)) → at_front graph s t n ≡ true → ListStep graph s m (entries (finish s t n v c ps) m)
finished graph s t n m v c ps h = one_list graph s n m (set_state t (Done v c ps)) (with_state t (Done v c ps)) (λ c. refl) (λ es q. finishes t v c ps h q)

after_same : (graph : Graph) (s q : Core) (n : ℕ) (f : Cell → Cell) → ((c : Cell) → (f c).entries ≡ c.entries) → (m : ℕ) → ListStep graph s m (entries q m) → ListStep graph s m (entries (with_cell q n f) m)
after_same graph s q n f same m h = subst (ListStep graph s m) (sym (same_cell graph q n f same m)) h

frame-list : (graph : Graph) (s : Core) (t n m : ℕ) → IsLawful graph s → allowed graph s (steps.Frame t n) ≡ true → ListStep graph s m (entries (frame graph s t n) m)
frame-list graph s t n m h a = go (at is_mark (entries s n) t) refl
  where
    wanted : wants s t n ≡ true
    wanted = frame-wants graph s t n a

    room : (x r : Bool) → x ≡ false → (x || r) ≡ true → r ≡ true
    room x r e k = grind arith

    go : (b : Bool) → at is_mark (entries s n) t ≡ b → ListStep graph s m (entries (elim b [ true ↦ open_node graph (raise s t n) t n | false ↦ open_node graph (enter s t n Frame) t n ]) m)
    go true e = one_list graph s n m (set_state t Frame) (with_state t Frame) (λ c. refl) (λ es q. raises t wanted e q)
    go false e = one_list graph s n m (place_entry s t Frame) (placed (stops s t) (new_entry s t Frame)) (λ c. refl) (λ es q. frames t wanted (wanted-fresh graph s h t n wanted e) (room _ _ e (and_right _ _ a)) q)

pub step-list : (graph : Graph) (s : Core) (step : Step) → IsLawful graph s → allowed graph s step ≡ true → (m : ℕ) → ListStep graph s m (entries (apply graph s step) m)
step-list graph s (steps.Frame t n) h a m = frame-list graph s t n m h a
step-list graph s (steps.Start t) h a m = stays refl
step-list graph s (steps.Skip t n) h a m = finished graph s t n m _ _ _ (can_work-at_front graph s t n (skip-can_work graph s t n a))
step-list graph s (steps.Gather t n i) h a m = after_same graph s s n _ (λ c. refl) m (stays refl)
step-list graph s (steps.Evaluate t n) h a m = after_same graph s s n _ (λ c. refl) m (stays refl)
step-list graph s (steps.Body t n) h a m = after_same graph s s n _ (λ c. refl) m (stays refl)
step-list graph s (steps.Resolve t n) h a m = after_same graph s (finish s t n (value_now graph s t n) (is_change graph s t n) (found_picks s n)) n _ (λ c. refl) m (finished graph s t n m _ _ _ (can_work-at_front graph s t n (resolve-can_work graph s t n a)))
step-list graph s (steps.Discover t n c) h a m = after_same graph s (ensure_mark s t c) c (add_edge n t) (λ c. refl) m (ensured graph s t c m (at_front-executes graph s t n (can_work-at_front graph s t n (due-can_work graph s t n (discover-due graph s t n c a)))) (and_right _ _ a))
step-list graph s (steps.Drop t n o) h a m = after_same graph s (ensure_mark s t o) o (drop_edge n) (λ c. refl) m (ensured graph s t o m (at_front-executes graph s t n (can_work-at_front graph s t n (due-can_work graph s t n (drop-due graph s t n o a)))) (and_right _ _ a))
step-list graph s (steps.Mark t n) h a m = one_list graph s n m (place_entry s t Mark) (placed (stops s t) (new_entry s t Mark)) (λ c. refl) (λ es q. marks t (mark-executes graph s t n a) (mark-no_entry graph s t n a) (and_right _ _ (and_left _ _ a)) q)
step-list graph s (steps.Look t) h a m = stays refl
step-list graph s (steps.End t) h a m = stays refl
step-list graph s (steps.Collect n) h a m = one_list graph s n m (collect s) (collected (ended s)) (λ c. refl) (λ es q. collects q)
