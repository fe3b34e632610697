-- The opening state is lawful.
use Rattle.std.proofs.Common.{◌≡◌, ℕ, zero, suc, ◌<◌, ◌≤◌, Bool, true, false, inl, inr, refl, sym, ap, arith, List, [], ◌∷◌, true≢false, ◌∙◌, subst, Option, Some, None, length}
use Rattle.std.proofs.lemmas.Bool.{both_ways}
use Rattle.std.specs.List.{AllZip}
use Rattle.signal_graph.specs.Graph.{Graph, node_at, is_in, selectors_of, IsGraph}
use Rattle.signal_graph.specs.Values.{picks, picks_of as picks_of_node, values, start, val, nodes_in}
use Rattle.node_versions.specs.Entries.{AreDifferent, IsUnique, at, is_done, picks_at, picks_of, state_of, last_done, has_out, has_node, value_of}
use Rattle.flow_model.specs.Machine.State.{Cell, Found, cell, entries, outs, ended, opening, start_cell, start_outs}
use Rattle.std.specs.Prelude.{is_some, is_none, filter, slice_index_or}
use Rattle.script_tree.specs.declared.value.Value.{Value}
use Rattle.script_tree.specs.declared.value.Value.TheVariants.{Fault as Faulty}
use Rattle.script_tree.specs.declared.value.Fault.TheVariants.{Kind}
use Rattle.signal_graph.specs.declared.node.Node.{Node}
use Rattle.signal_graph.specs.declared.node.Node.TheVariants.{Source}
use Rattle.node_versions.specs.declared.entry.State.TheVariants.{Done}
use Rattle.flow_model.specs.Kept.Runs.{read_all, nothing_read, begin_at}
use Rattle.flow_model.specs.Machine.Words.{gathered_of, heads, is_some_of, is_found, is_gathered}
use Rattle.flow_model.specs.Kept.Lawful
use Rattle.flow_model.proofs.Opening.OpeningLists.{IsOpened, opening-cell, opening-IsStart, length-numbers, picks_at_start, picks-fit, start_picks-listed, start_outs-once, start_outs-different, start_outs-passes, start_outs-stand, candidate-earlier}
use Rattle.flow_model.proofs.Known.AfterEachStep.{all-slots, first-slots, none-apart}

no_head : (es : Option ℕ) (u : ℕ) → es ≡ None → is_some_of es u ≡ false
no_head es u h = rw h refl

lists-order : (graph : Graph) (callers limit : ℕ) → Lawful.OrderIsKept (opening graph callers limit)
lists-order graph callers limit = record {
  no_cycle = λ u. refl;
  lists = λ n u v h l. absurd (both_ways _ ((opening-IsStart graph callers limit n).none_behind u v) h);
}

framing : (graph : Graph) (callers limit : ℕ) → Lawful.FramingComesLast (opening graph callers limit)
framing graph callers limit = record {
  before = λ u v h k. refl;
  no_mark = λ u n h. (opening-IsStart graph callers limit n).no_mark u;
  no_done = λ u n h. absurd (true≢false (sym h));
}

open_frames : (graph : Graph) (callers limit : ℕ) → Lawful.FramesAreOpen (opening graph callers limit)
open_frames graph callers limit = record {
  behind_dones = λ n u v h k. absurd (both_ways _ ((opening-IsStart graph callers limit n).none_behind u v) h);
  opens_frames = λ u n. sym ((opening-IsStart graph callers limit n).no_frame u);
}

settled : (graph : Graph) (callers limit : ℕ) → Lawful.SettledIsKept graph (opening graph callers limit)
settled graph callers limit = record {
  none_before = λ u v m k h. (opening-IsStart graph callers limit m).no_frame u;
  no_frame = λ v m h. (opening-IsStart graph callers limit m).no_frame v;
}

head-none : (graph : Graph) (callers limit u n : ℕ) → heads (opening graph callers limit) u n ≡ false
head-none graph callers limit u n = no_head _ u (opening-IsStart graph callers limit n).none_open

nothing_found : (graph : Graph) (callers limit n : ℕ) → (cell (opening graph callers limit) n).found ≡ None
nothing_found graph callers limit n = go (opening-cell graph callers limit n)
  where
    go : IsOpened graph (opening graph callers limit) n → (cell (opening graph callers limit) n).found ≡ None
    go (inl h) = ap (λ (c : Cell). c.found) h.1
    go (inr h) = ap (λ (c : Cell). c.found) h.1

no_body : (graph : Graph) (callers limit n : ℕ) → (cell (opening graph callers limit) n).body ≡ None
no_body graph callers limit n = go (opening-cell graph callers limit n)
  where
    go : IsOpened graph (opening graph callers limit) n → (cell (opening graph callers limit) n).body ≡ None
    go (inl h) = ap (λ (c : Cell). c.body) h.1
    go (inr h) = ap (λ (c : Cell). c.body) h.1

none_gathered : (graph : Graph) (callers limit n m : ℕ) → is_gathered (opening graph callers limit) n m ≡ false
none_gathered graph callers limit n m = go (opening-cell graph callers limit n)
  where
    go : IsOpened graph (opening graph callers limit) n → is_gathered (opening graph callers limit) n m ≡ false
    go (inl h) = ap (λ (c : Cell). is_some (gathered_of m c.gathered)) h.1
    go (inr h) = ap (λ (c : Cell). is_some (gathered_of m c.gathered)) h.1

reads-nothing : (graph : Graph) (callers limit : ℕ) → Lawful.ValuesAreRead graph (opening graph callers limit)
reads-nothing graph callers limit = record {
  gathered = λ u n m v h. absurd (both_ways _ (head-none graph callers limit u n) h);
  looked = λ u k m v h. absurd (true≢false (sym h));
  found = λ u n f h. absurd (both_ways _ (head-none graph callers limit u n) h);
  body = λ n v h. let e = no_body graph callers limit n in grind (arith, e, h);
}

dones : (graph : Graph) (callers limit : ℕ) → Lawful.DonesAreRight graph (opening graph callers limit)
dones graph callers limit = record {
  source = λ u n h. absurd (true≢false (sym h));
  other = λ u n h. absurd (true≢false (sym h));
  flag = λ u n h. absurd (true≢false (sym h));
  changed = λ u n h. absurd (true≢false (sym h));
  evaluated = λ u h. absurd (true≢false (sym h));
}

-- A node's cell of the opening state is its start cell.
at_node : (graph : Graph) (callers limit n : ℕ) (P : Cell → Type 0) → P (start_cell graph n) → n < length (opening graph callers limit).cells → P (cell (opening graph callers limit) n)
at_node graph callers limit n P p h = go (opening-cell graph callers limit n)
  where
    go : IsOpened graph (opening graph callers limit) n → P (cell (opening graph callers limit) n)
    go (inl k) = subst P (sym k.1) p
    go (inr k) = let e = length-numbers (start_cell graph) 0 graph.nodes in absurd (omega (arith, e, k.0, h))

prefixes : (graph : Graph) (callers limit : ℕ) → Lawful.EndedIsPrefix (opening graph callers limit)
prefixes graph callers limit = record {
  prefix = λ n u v h. absurd (both_ways _ ((opening-IsStart graph callers limit n).none_behind u v) h);
  no_frame = λ n u h. (opening-IsStart graph callers limit n).no_frame u;
  done = λ n h. (0, refl, at_node graph callers limit n (λ c. at is_done c.entries 0 ≡ true) refl h);
  log_order = λ n u v h. absurd (both_ways _ ((opening-IsStart graph callers limit n).none_behind u v) h);
}

rooms : (graph : Graph) (callers limit : ℕ) → Lawful.RoomIsKept (opening graph callers limit)
rooms graph callers limit = record {
  room = λ n. let h = (opening-IsStart graph callers limit n).few in omega (arith, h);
  callers_apart = λ u v h. absurd (true≢false (sym h));
  callers_fit = λ u h. absurd (true≢false (sym h));
  slots_apart = λ u v h. absurd (true≢false (sym h));
  slots_fit = λ u h. absurd (true≢false (sym h));
}

machine : (graph : Graph) (callers limit : ℕ) → Lawful.EndedIsMachine graph (opening graph callers limit)
machine graph callers limit = record {
  value = λ n h. at_node graph callers limit n (λ c. value_of (state_of (last_done (filter (ended (opening graph callers limit)) c.entries))) ≡ val graph (start graph) n) refl h;
  picks = λ n h. at_node graph callers limit n (λ c. picks_of (state_of (last_done (filter (ended (opening graph callers limit)) c.entries))) ≡ picks graph (start graph) n) refl h;
}

-- ---- out-edges

-- What a node picks last is what it picks at the start.
picked-at_start : (graph : Graph) (callers limit n m : ℕ) → Lawful.picks_last (opening graph callers limit) n m ≡ true → (n < length graph.nodes) × (picks_at_start graph m n ≡ true)
picked-at_start graph callers limit n m h = go (opening-cell graph callers limit n)
  where
    go : IsOpened graph (opening graph callers limit) n → (n < length graph.nodes) × (picks_at_start graph m n ≡ true)
    go (inl k) = (k.0, sym (ap (λ (c : Cell). is_in m (nodes_in (picks_of (state_of (last_done c.entries))))) k.1) ∙ h)
    go (inr k) = absurd (true≢false (sym (sym (ap (λ (c : Cell). is_in m (nodes_in (picks_of (state_of (last_done c.entries))))) k.1) ∙ h)))

-- an out-edge of the opening state
record IsStartEdge (graph : Graph) (n m since : ℕ) : Type 0 where
  pub node : m < length graph.nodes
  pub edge : has_out (start_outs graph m) n since ≡ true

stands-at_start : (graph : Graph) (callers limit n m since : ℕ) → has_out (outs (opening graph callers limit) m) n since ≡ true → IsStartEdge graph n m since
stands-at_start graph callers limit n m since h = go (opening-cell graph callers limit m)
  where
    go : IsOpened graph (opening graph callers limit) m → IsStartEdge graph n m since
    go (inl k) = record { node = k.0; edge = sym (ap (λ (c : Cell). has_out c.outs n since) k.1) ∙ h }
    go (inr k) = absurd (true≢false (sym (sym (ap (λ (c : Cell). has_out c.outs n since) k.1) ∙ h)))

-- What a node picks at the start it lists, and there stands its edge.
edge-there : (graph : Graph) (callers limit n m : ℕ) → IsGraph graph → n < length graph.nodes → picks_at_start graph m n ≡ true → has_node (outs (opening graph callers limit) m) n ≡ true
edge-there graph callers limit n m g h t =
    let e = candidate-earlier graph g n m h (start_picks-listed graph n m t) in
    at_node graph callers limit m (λ c. has_node c.outs n ≡ true) (start_outs-stand graph n m h t) (let l = length-numbers (start_cell graph) 0 graph.nodes in omega (arith, l, e, h))

past-end : {A : Type 0} (xs : List A) (n : ℕ) (d : A) → length xs ≤ n → slice_index_or xs n d ≡ d
past-end [] n d h = refl
past-end (x ∷ xs) zero d h = absurd (omega arith)
past-end (x ∷ xs) (suc n) d h = past-end xs n d (omega arith)

no_picks-past : (graph : Graph) (n m : ℕ) → length graph.nodes ≤ n → picks_at_start graph m n ≡ false
no_picks-past graph n m h = ap (λ (x : Node). is_in m (nodes_in (picks_of_node x (values graph (start graph))))) (past-end graph.nodes n (Source (Faulty Kind)) h)

picks-picked : (graph : Graph) (callers limit n m : ℕ) → picks_at_start graph m n ≡ true → Lawful.picks_last (opening graph callers limit) n m ≡ true
picks-picked graph callers limit n m t = go (opening-cell graph callers limit n)
  where
    go : IsOpened graph (opening graph callers limit) n → Lawful.picks_last (opening graph callers limit) n m ≡ true
    go (inl k) = ap (λ (c : Cell). is_in m (nodes_in (picks_of (state_of (last_done c.entries))))) k.1 ∙ t
    go (inr k) = absurd (both_ways _ (no_picks-past graph n m k.0) t)

key-at_start : (graph : Graph) (callers limit n m : ℕ) → picks_at_start graph m n ≡ true → Lawful.IsKeyOf (opening graph callers limit) 0 (Lawful.last_run_of (opening graph callers limit) n m)
key-at_start graph callers limit n m t = go (opening-cell graph callers limit n)
  where
    go : IsOpened graph (opening graph callers limit) n → Lawful.IsKeyOf (opening graph callers limit) 0 (Lawful.last_run_of (opening graph callers limit) n m)
    go (inl k) = subst (λ (c : Cell). Lawful.IsKeyOf (opening graph callers limit) 0 (read_all m c.entries nothing_read).current) (sym k.1)
        (subst (λ (b : Bool). Lawful.IsKeyOf (opening graph callers limit) 0 (elim b [ true ↦ Some (begin_at true 0) | false ↦ None ])) (sym t) refl)
    go (inr k) = absurd (both_ways _ (no_picks-past graph n m k.0) t)

run_edge : (graph : Graph) (callers limit n m since : ℕ) → has_out (outs (opening graph callers limit) m) n since ≡ true → Lawful.IsRunEdge (opening graph callers limit) n m since
run_edge graph callers limit n m since h =
    let e = start_outs-passes graph n m since (stands-at_start graph callers limit n m since h).edge in
    record {
      picked = picks-picked graph callers limit n m e.passes;
      key = subst (λ (k : ℕ). Lawful.IsKeyOf (opening graph callers limit) k (Lawful.last_run_of (opening graph callers limit) n m)) (sym e.first) (key-at_start graph callers limit n m e.passes);
    }

not_missing : (graph : Graph) (callers limit n m : ℕ) → IsGraph graph → Lawful.picks_last (opening graph callers limit) n m ≡ true → has_node (outs (opening graph callers limit) m) n ≡ false → ⊥
not_missing graph callers limit n m g p h = let q = picked-at_start graph callers limit n m p in both_ways _ h (edge-there graph callers limit n m g q.0 q.1)

edges : (graph : Graph) (callers limit : ℕ) → IsGraph graph → Lawful.EdgesAreKept (opening graph callers limit)
edges graph callers limit g = record {
  once = λ n m. go n m (opening-cell graph callers limit m);
  stands = λ n m since h. inl (run_edge graph callers limit n m since h);
  missing = λ n m p h. absurd (not_missing graph callers limit n m g p h);
  begins_entered = λ n m i r b h k l. absurd (true≢false (sym l));
  ends_entered = λ n m i r z h k l. absurd (true≢false (sym l));
}
  where
    go : (n m : ℕ) → IsOpened graph (opening graph callers limit) m → Lawful.count_edges n (outs (opening graph callers limit) m) ≤ 1
    go n m (inl k) = subst (λ (c : Cell). Lawful.count_edges n c.outs ≤ 1) (sym k.1) (start_outs-once graph n m)
    go n m (inr k) = subst (λ (c : Cell). Lawful.count_edges n c.outs ≤ 1) (sym k.1) (omega arith)

not_found : (graph : Graph) (callers limit n : ℕ) → is_found (opening graph callers limit) n ≡ false
not_found graph callers limit n = ap (λ (o : Option Found). is_some o) (nothing_found graph callers limit n)

work : (graph : Graph) (callers limit : ℕ) → IsGraph graph → Lawful.WorkIsKept graph (opening graph callers limit)
work graph callers limit g = record {
  gathers = λ n m h. absurd (both_ways _ (none_gathered graph callers limit n m) h);
  gathers_right = λ n m h. absurd (both_ways _ (none_gathered graph callers limit n m) h);
  finds = λ n h. absurd (both_ways _ (not_found graph callers limit n) h);
  finds_last = λ n h. absurd (both_ways _ (not_found graph callers limit n) h);
  bodies = λ n h. absurd (true≢false (sym (ap (λ (o : Option Value). is_none o) (no_body graph callers limit n)) ∙ h));
  drops = λ n m p h. absurd (not_missing graph callers limit n m g p h);
  discovers = λ n m u h. absurd (both_ways _ (head-none graph callers limit u n) h);
}

entered : (graph : Graph) (callers limit : ℕ) → Lawful.EntriesAreKept graph (opening graph callers limit)
entered graph callers limit = record {
  versions = λ n u h. inl ((opening-IsStart graph callers limit n).version u h);
  pairs = λ u v h. absurd (true≢false (sym h));
  sources = λ u n h. absurd (true≢false (sym h));
  gathers = λ u n m h. absurd (both_ways _ (head-none graph callers limit u n) h);
  looks = λ u k m h. absurd (true≢false (sym h));
  dues = λ u n m h. absurd (true≢false (sym h));
  new_picks = λ u n h. absurd (true≢false (sym h));
}

picks_at-one : (v : Value) (ps : List (Option ℕ)) (u : ℕ) → picks_at (record { version = 0; slot = 0; state = Done v false ps } ∷ []) u ≡ ps
picks_at-one v ps u = grind arith

fitting : (graph : Graph) (callers limit : ℕ) → Lawful.PicksFit graph (opening graph callers limit)
fitting graph callers limit u n h = go (opening-cell graph callers limit n)
  where
    go : IsOpened graph (opening graph callers limit) n → AllZip Lawful.IsPickOf (selectors_of (node_at graph n)) (picks_at (entries (opening graph callers limit) n) u)
    go (inl k) = subst (λ (c : Cell). AllZip Lawful.IsPickOf (selectors_of (node_at graph n)) (picks_at c.entries u)) (sym k.1)
        (subst (AllZip Lawful.IsPickOf (selectors_of (node_at graph n))) (sym (picks_at-one (val graph (start graph) n) (picks graph (start graph) n) u)) (picks-fit graph (start graph) n))
    go (inr k) = absurd (true≢false (sym (sym (ap (λ (c : Cell). at is_done c.entries u) k.1) ∙ h)))

edges_fitting : (graph : Graph) (callers limit : ℕ) → Lawful.EdgesFit graph (opening graph callers limit)
edges_fitting graph callers limit = record {
  candidate = λ n m since h. let e = start_outs-passes graph n m since (stands-at_start graph callers limit n m since h).edge in start_picks-listed graph n m e.passes;
  different = λ m. go m (opening-cell graph callers limit m);
}
  where
    go : (m : ℕ) → IsOpened graph (opening graph callers limit) m → AreDifferent (outs (opening graph callers limit) m)
    go m (inl k) = subst (λ (c : Cell). AreDifferent c.outs) (sym k.1) (start_outs-different graph m)
    go m (inr k) = subst (λ (c : Cell). AreDifferent c.outs) (sym k.1) tt

unique : (graph : Graph) (callers limit n : ℕ) → IsUnique (entries (opening graph callers limit) n)
unique graph callers limit n = go (opening-cell graph callers limit n)
  where
    go : IsOpened graph (opening graph callers limit) n → IsUnique (entries (opening graph callers limit) n)
    go (inl k) = subst (λ (c : Cell). IsUnique c.entries) (sym k.1) (refl, tt)
    go (inr k) = subst (λ (c : Cell). IsUnique c.entries) (sym k.1) tt

pub opening-lawful : (graph : Graph) → IsGraph graph → (callers limit : ℕ) → Lawful.IsLawful graph (opening graph callers limit)
opening-lawful graph g callers limit = record {
  order_is_kept = lists-order graph callers limit;
  framing_comes_last = framing graph callers limit;
  frames_are_open = open_frames graph callers limit;
  frames_spread = λ u m n h. absurd (both_ways _ ((opening-IsStart graph callers limit m).no_frame u) h);
  wants_are_covered = λ u n h. absurd (true≢false (sym h));
  settled_is_kept = settled graph callers limit;
  changes_spread = record { reaction = λ u m n h. absurd (true≢false (sym h)); set = λ u n h. absurd (true≢false (sym h)) };
  values_are_read = reads-nothing graph callers limit;
  dones_are_right = dones graph callers limit;
  ended_is_prefix = prefixes graph callers limit;
  room_is_kept = rooms graph callers limit;
  ended_is_machine = machine graph callers limit;
  edges_are_kept = edges graph callers limit g;
  edges_are_known = λ n m since h. let e = (start_outs-passes graph n m since (stands-at_start graph callers limit n m since h).edge).first in omega (arith, e);
  work_is_kept = work graph callers limit g;
  entries_are_kept = entered graph callers limit;
  one_entry = unique graph callers limit;
  versions_are_fresh = record { distinct = λ u. omega arith; fit = λ u h. absurd (true≢false (sym h)); count = refl };
  wants_are_free = λ u n h. absurd (true≢false (sym h));
  picks_fit = fitting graph callers limit;
  edges_fit = edges_fitting graph callers limit;
  lists = length-numbers (start_cell graph) 0 graph.nodes;
  sets_are_sets = record { wanted = λ u. tt; open_nodes = λ u. tt; changed = λ u. tt };
  settled_has_entry = λ u m h. absurd (true≢false (sym h));
  calls_are_right = λ u h. absurd (true≢false (sym h));
  looks_are_few = λ u h. absurd (true≢false (sym h));
  entries_have_slots = λ n. all-slots graph callers limit (entries (opening graph callers limit) n);
  entry_slots_fit = first-slots graph callers limit;
  begun_is_within = omega arith;
  calls_ascend = tt;
  gathered_are_apart = none-apart graph callers limit;
  pairs_name_nodes = tt;
}
