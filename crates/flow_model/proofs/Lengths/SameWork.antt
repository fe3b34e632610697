-- The amount of work at a node stays where the same is gathered, found and evaluated, the same edges stand and the last Done stays.
use Rattle.std.proofs.Common.{◌≡◌, ℕ, Bool, true, false, ◌⊎◌, inl, inr, refl, ap, List, ◌∙◌, Option}
use Rattle.std.specs.Prelude.{is_some}
use Rattle.script_tree.specs.declared.value.Value.{Value}
use Rattle.signal_graph.specs.Graph.{Graph}
use Rattle.signal_graph.specs.Values.{nodes_in}
use Rattle.node_versions.specs.declared.entry.State.TheVariants.{Mark, Frame}
use Rattle.node_versions.specs.declared.entry.Entry.{Entry}
use Rattle.node_versions.specs.Entries.{OutEdge, has, at, is_mark, last_done, state_of, picks_of, has_node}
use Rattle.flow_model.specs.Machine.State.{Core, Cell, cell, entries, outs, with_cell}
use Rattle.flow_model.specs.Machine.Changes.{place_entry, set_state, enter, raise, ensure_mark}
use Rattle.flow_model.specs.Machine.Steps.{open_node, frame}
use Rattle.flow_model.proofs.OneList.Entering.{with_cell-cell}
use Rattle.flow_model.proofs.FramesSpread.AfterOtherSteps.{same_outs}
use Rattle.flow_model.proofs.OneStep.QuietSteps.{KeepsWork}
use Rattle.flow_model.proofs.Lengths.WorkDone.{Further, progress, has_gathered, last_picks}

-- ---- the same work

-- At a node the same is gathered, found and evaluated, and the same edges stand.
pub record SameWork (s q : Core) (n : ℕ) : Type 0 where
  pub gathered : (cell q n).gathered ≡ (cell s n).gathered
  pub found : (cell q n).found ≡ (cell s n).found
  pub body : (cell q n).body ≡ (cell s n).body
  pub edges : (m : ℕ) → outs q m ≡ outs s m

-- the last Done stays
abbrev pub SameLast : Core → Core → ℕ → Type 0
SameLast s q n = last_done (entries q n) ≡ last_done (entries s n)

pub same-last : (s q : Core) (n : ℕ) → SameLast s q n → last_picks q n ≡ last_picks s n
same-last s q n e = ap (λ (o : Option Entry). nodes_in (picks_of (state_of o))) e

pub same-further : (s q : Core) (n : ℕ) → SameWork s q n → SameLast s q n → Further (progress s n) (progress q n)
same-further s q n w e = record {
  gathered = λ m k. ap (λ (g : List (ℕ × Value)). has_gathered g m) w.gathered ∙ k;
  found = w.found;
  body = λ k. ap is_some w.body ∙ k;
  last = same-last s q n e;
  added = λ c i j k. ap (λ (os : List OutEdge). has_node os n) (w.edges c) ∙ k;
  taken = λ o i k. ap (λ (os : List OutEdge). has_node os n) (w.edges o) ∙ k;
}

-- a part of a cell that a change keeps
pub same-part : {A : Type 0} (read : Cell → A) (s : Core) (n : ℕ) (f : Cell → Cell) → ((c : Cell) → read (f c) ≡ read c) → (m : ℕ) → read (cell (with_cell s n f) m) ≡ read (cell s m)
same-part {A} read s n f k m = go (with_cell-cell s n f m)
  where
    go : (cell (with_cell s n f) m ≡ cell s m) ⊎ ((m ≡ n) × (cell (with_cell s n f) m ≡ f (cell s m))) → read (cell (with_cell s n f) m) ≡ read (cell s m)
    go (inl e) = ap read e
    go (inr e) = ap read e.1 ∙ k (cell s m)

-- a change of a cell's entries alone
pub listed : (s : Core) (n : ℕ) (f : Cell → Cell) → KeepsWork f → ((c : Cell) → (f c).outs ≡ c.outs) → (m : ℕ) → SameWork s (with_cell s n f) m
listed s n f k o m = record {
  gathered = same-part (λ (c : Cell). c.gathered) s n f k.gathered m;
  found = same-part (λ (c : Cell). c.found) s n f k.found m;
  body = same-part (λ (c : Cell). c.body) s n f k.body m;
  edges = same_outs s n f o;
}

pub frame-work : (graph : Graph) (s : Core) (t n m : ℕ) → SameWork s (frame graph s t n) m
frame-work graph s t n m = go (at is_mark (entries s n) t)
  where
    go : (b : Bool) → SameWork s (elim b as (λ _. Core) [ true ↦ open_node graph (raise s t n) t n | false ↦ open_node graph (enter s t n Frame) t n ]) m
    go true = let w = listed s n (set_state t Frame) (record { gathered = λ c. refl; found = λ c. refl; body = λ c. refl }) (λ c. refl) m in record { gathered = w.gathered; found = w.found; body = w.body; edges = w.edges }
    go false = let w = listed s n (place_entry s t Frame) (record { gathered = λ c. refl; found = λ c. refl; body = λ c. refl }) (λ c. refl) m in record { gathered = w.gathered; found = w.found; body = w.body; edges = w.edges }

pub ensured-part : {A : Type 0} (read : Cell → A) → (s : Core) (t c : ℕ) → ((d : Cell) → read (place_entry s t Mark d) ≡ read d) → (m : ℕ) → read (cell (ensure_mark s t c) m) ≡ read (cell s m)
ensured-part {A} read s t c k m = go (has (entries s c) t)
  where
    go : (b : Bool) → read (cell (elim b as (λ _. Core) [ true ↦ s | false ↦ enter s t c Mark ]) m) ≡ read (cell s m)
    go true = refl
    go false = same-part read s c (place_entry s t Mark) k m
