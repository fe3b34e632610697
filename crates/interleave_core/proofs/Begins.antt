-- The core before any call, and after a beginning.
use Rattle.std.proofs.Common.{◌≡◌, ℕ, suc, ◌+◌, ◌-◌, ◌<◌, true, List, [], ◌∷◌, length, map, refl, sym, ap, ◌∙◌, subst}
use Rattle.signal_graph.specs.declared.call.Call.{Call}
use Rattle.signal_graph.specs.declared.node.Node.{Node}
use Rattle.signal_graph.specs.Graph.{Graph, IsGraph, numbers, numbers_from}
use Rattle.node_versions.specs.Entries.{Versions}
use Rattle.flow_model.specs.Machine.State.{Core, Cell, start_cell, opening}
use Rattle.flow_model.specs.Machine.Steps.{sets_in, looks_in, can_begin, begin}
use Rattle.flow_model.specs.Kept.Lawful.{IsLawful}
use Rattle.flow_model.specs.Parts.Books.{Work, work_in}
use Rattle.flow_state.specs.Booked.{Booked, opened_book}
use Rattle.flow_state.specs.Rooms.{Roomy, IsRoomFor}
use Rattle.framing.specs.Begins.{book_begun, IsBeginning}
use Rattle.interleave_core.specs.Whole.{Whole, cells_of, state_of, whole_of, HaveRooms, IsWhole}
use Rattle.interleave_core.specs.Opening.{start_list, opened_core}
use Rattle.interleave_core.specs.Rooms.{after_beginning}
use Rattle.interleave_core.proofs.Fits.{works-back, fits, all_nodes}

-- ---- before any call

start_cells : (graph : Graph) (callers : ℕ) (ns : List ℕ)
    → cells_of (map work_in (map (start_cell graph) ns)) (map (start_list graph callers) ns) ≡ map (start_cell graph) ns
start_cells graph callers [] = refl
start_cells graph callers (n ∷ ns) = ap (λ (cs : List Cell). start_cell graph n ∷ cs) (start_cells graph callers ns)

start_many : (graph : Graph) (callers : ℕ) (ns : List ℕ)
    → length (map (start_list graph callers) ns) ≡ length (map work_in (map (start_cell graph) ns))
start_many graph callers [] = refl
start_many graph callers (n ∷ ns) = ap suc (start_many graph callers ns)

start_rooms : (graph : Graph) (callers n : ℕ) (nodes : List Node)
    → HaveRooms graph callers n (map (start_list graph callers) (numbers_from n nodes))
start_rooms graph callers n [] = tt
start_rooms graph callers n (x ∷ xs) = (refl, refl, start_rooms graph callers (n + 1) xs)

-- The law that opening states are lawful.
abbrev pub OpensLawful : Type 0
OpensLawful = (graph : Graph) → IsGraph graph → (callers limit : ℕ) → IsLawful graph (opening graph callers limit)

state_opened : (graph : Graph) (callers limit : ℕ)
    → state_of (opened_book graph callers limit).book (map (start_list graph callers) (numbers graph)) ≡ opening graph callers limit
state_opened graph callers limit = ap (λ (cs : List Cell). record (opening graph callers limit) { cells = cs }) (start_cells graph callers (numbers graph))

pub opened_whole : OpensLawful → (graph : Graph) (callers limit : ℕ) (book : Booked) (lists : List Versions) → IsGraph graph
    → book ≡ opened_book graph callers limit → lists ≡ map (start_list graph callers) (numbers graph) → IsWhole graph book lists
opened_whole law graph callers limit book lists kept is are = subst (λ (b : Booked). IsWhole graph b lists) (sym is) (subst (IsWhole graph (opened_book graph callers limit)) (sym are) (record {
  is_graph = kept;
  many = start_many graph callers (numbers graph);
  room_for = refl;
  rooms = start_rooms graph callers 0 graph.nodes;
  lawful = subst (IsLawful graph) (sym (state_opened graph callers limit)) (law graph kept callers limit);
}))

pub opened_seen : (graph : Graph) (callers limit : ℕ) (book : Booked) (lists : List Versions) → book ≡ opened_book graph callers limit
    → lists ≡ map (start_list graph callers) (numbers graph) → whole_of graph book lists ≡ opened_core graph callers limit
opened_seen graph callers limit book lists is are = ap (λ (b : Booked). whole_of graph b lists) is
    ∙ ap (whole_of graph (opened_book graph callers limit)) are
    ∙ ap (λ (s : Core). record { graph = graph; state = s; rooms = 0 }) (state_opened graph callers limit)

-- ---- a beginning

-- The law that beginnings keep states lawful.
abbrev pub BeginsLawful : Type 0
BeginsLawful = (graph : Graph) → IsGraph graph → (s : Core) (caller : ℕ) (call : Call) → IsLawful graph s → can_begin graph s caller call ≡ true → IsLawful graph (begin graph s caller call)

state_begun : (graph : Graph) (book : Booked) (lists : List Versions) (caller : ℕ) (call : Call) → IsWhole graph book lists
    → state_of (book_begun graph (state_of book.book lists) caller call book).book lists ≡ begin graph (state_of book.book lists) caller call
state_begun graph book lists caller call kept = ap (λ (ws : List Work). record (begin graph (state_of book.book lists) caller call) { cells = cells_of ws lists }) (works-back book.book.works lists kept.many)

pub begun_whole : BeginsLawful → (graph : Graph) (book new : Booked) (lists : List Versions) (caller : ℕ) (call : Call)
    → IsWhole graph book lists → can_begin graph (state_of book.book lists) caller call ≡ true
    → new ≡ book_begun graph (state_of book.book lists) caller call book → IsWhole graph new lists
begun_whole law graph book new lists caller call kept can is = subst (λ (b : Booked). IsWhole graph b lists) (sym is) (record {
  is_graph = kept.is_graph;
  many = kept.many ∙ sym (ap length (works-back book.book.works lists kept.many));
  room_for = kept.room_for;
  rooms = kept.rooms;
  lawful = subst (IsLawful graph) (sym (state_begun graph book lists caller call kept)) (law graph kept.is_graph (state_of book.book lists) caller call kept.lawful can);
})

pub begun_seen : (graph : Graph) (book new : Booked) (lists : List Versions) (caller : ℕ) (call : Call) (seen : Whole)
    → IsWhole graph book lists → whole_of graph book lists ≡ seen → new ≡ book_begun graph (state_of book.book lists) caller call book
    → whole_of graph new lists ≡ after_beginning seen caller call
begun_seen graph book new lists caller call seen kept view is = ap (λ (b : Booked). whole_of graph b lists) is
    ∙ ap (λ (s : Core). record { graph = graph; state = s; rooms = book.rooms - 1 }) (state_begun graph book lists caller call kept)
    ∙ ap (λ (w : Whole). after_beginning w caller call) view

-- ---- rooms

pub works_nodes : (graph : Graph) (book : Booked) (lists : List Versions) → IsWhole graph book lists
    → length book.book.works ≡ length graph.nodes
works_nodes graph book lists kept = sym kept.many ∙ all_nodes graph book lists kept

pub room_made : (room : Roomy) (graph other : Graph) (call : Call) (nodes : ℕ) → graph ≡ other
    → room ≡ record { sets = sets_in graph call; looks = looks_in graph call; nodes = nodes } → nodes ≡ length other.nodes → IsRoomFor other call room
room_made room graph other call nodes same is many = record {
  sets = ap (λ (r : Roomy). r.sets) is ∙ ap (λ (g : Graph). sets_in g call) same;
  looks = ap (λ (r : Roomy). r.looks) is ∙ ap (λ (g : Graph). looks_in g call) same;
  nodes = ap (λ (r : Roomy). r.nodes) is ∙ many;
}

pub can_begin_here : (graph : Graph) (book : Booked) (lists : List Versions) (caller : ℕ) (call : Call) (seen : Whole)
    → whole_of graph book lists ≡ seen → can_begin seen.graph seen.state caller call ≡ true
    → can_begin graph (state_of book.book lists) caller call ≡ true
can_begin_here graph book lists caller call seen view can = ap (λ (w : Whole). can_begin w.graph w.state caller call) view ∙ can

pub is_beginning : (graph : Graph) (book : Booked) (lists : List Versions) (caller : ℕ) (call : Call) (room : Roomy) (seen : Whole)
    → IsWhole graph book lists → whole_of graph book lists ≡ seen → can_begin seen.graph seen.state caller call ≡ true
    → IsRoomFor seen.graph call room → 0 < seen.rooms → IsBeginning book caller call room
is_beginning graph book lists caller call room seen kept view can made out = record {
  graph = graph;
  state = state_of book.book lists;
  fits = fits graph book lists kept;
  allowed = can_begin_here graph book lists caller call seen view can;
  made = subst (λ (w : Whole). IsRoomFor w.graph call room) (sym view) made;
  out = subst (λ (w : Whole). 0 < w.rooms) (sym view) out;
}

pub start_size : (graph : Graph) (callers : ℕ) (lists : List Versions) → lists ≡ map (start_list graph callers) (numbers graph)
    → length lists ≡ length graph.nodes
start_size graph callers lists are = ap length are ∙ go 0 graph.nodes
  where
    go : (n : ℕ) (nodes : List Node) → length (map (start_list graph callers) (numbers_from n nodes)) ≡ length nodes
    go n [] = refl
    go n (x ∷ xs) = ap suc (go (n + 1) xs)
