-- What the first part of Discover, and Drop, ask and make.
use Rattle.std.proofs.Common.{◌≡◌, ℕ, ◌<◌, true, false, length, refl, sym, ap, ◌∙◌, subst, arith}
use Rattle.script_tree.proofs.Truths.{and_right}
use Rattle.signal_graph.specs.Graph.{Graph}
use Rattle.node_versions.specs.Entries.{Versions, has_out, with_out, with_outs}
use Rattle.flow_model.specs.declared.step.Step.TheVariants.{Discover, Drop}
use Rattle.flow_model.specs.Machine.State.{Core, Cell}
use Rattle.flow_model.specs.Machine.Words.{due}
use Rattle.flow_model.specs.Machine.Changes.{ensure_mark, add_edge, drop_edge, remove_first}
use Rattle.flow_model.specs.Machine.Steps.{allowed, has_room_for}
use Rattle.flow_model.proofs.OneStep.WhoMayStep.{discover-due, drop-due}
use Rattle.flow_model.proofs.Lengths.EdgesAreWork.{ensured-length}
use Rattle.flow_model.proofs.OrderStays.AfterEachStep.{due-live}
use Rattle.flow_state.specs.Booked.{Booked, with_book}
use Rattle.flow_state.specs.Fitting.{IsBookOf, IsListStep, MakesList, list_of, choosers}
use Rattle.flow_state.specs.Joining.{MakesJoined}
use Rattle.entering.specs.Marking.{CanMark, SomeCanMark, Marks}
use Rattle.flow_state.proofs.OneCell.{cell-inside, cell-changed, book-same}
use Rattle.dynamic_edges.proofs.Cells.{marked-outs}
use Rattle.dynamic_edges.proofs.EdgeRoom.{edge-room, discover-no_edge}

in-cells : (graph : Graph) (s : Core) (m : ℕ) (list : Versions) → list ≡ list_of graph s m → 0 < length list.entries → m < length s.cells
in-cells graph s m list is some = cell-inside s.cells m (subst (λ (v : Versions). 0 < length v.entries) is some)

can-mark : (graph : Graph) (s : Core) (book : Booked) (m : ℕ) (list : Versions) (t n : ℕ) → IsBookOf graph s book → list ≡ list_of graph s m → 0 < length list.entries → due graph s t n ≡ true → has_room_for s t m ≡ true → CanMark graph s book m list t
can-mark graph s book m list t n fits is some h room = record { fits = fits; is_list = is; node = in-cells graph s m list is some; is_live = due-live graph s t n h; room = room }

in-marked : (s : Core) (t m : ℕ) → m < length s.cells → m < length (ensure_mark s t m).cells
in-marked s t m h = let count = ensured-length s t m in omega (arith, count, h)

-- ---- Discover

discover-can : (graph : Graph) (s : Core) (book : Booked) (t n m : ℕ) (list : Versions) → IsBookOf graph s book → list ≡ list_of graph s m → 0 < length list.entries → allowed graph s (Discover t n m) ≡ true → CanMark graph s book m list t
discover-can graph s book t n m list fits is some h = can-mark graph s book m list t n fits is some (discover-due graph s t n m h) (and_right _ _ h)

pub discover-mark : (graph : Graph) (book : Booked) (t n m : ℕ) (list : Versions) → IsListStep graph book m list (Discover t n m) → 0 < length list.entries → SomeCanMark book m list t
discover-mark graph book t n m list h some = record { graph = graph; state = h.state; can = discover-can graph h.state book t n m list h.fits h.is_list some h.allowed }

marked-list : (graph : Graph) (book between : Booked) (t n m : ℕ) (list marked : Versions) → (h : IsListStep graph book m list (Discover t n m)) → 0 < length list.entries → Marks book m list t between marked → marked ≡ list_of graph (ensure_mark h.state t m) m
marked-list graph book between t n m list marked h some marks = (marks graph h.state (discover-can graph h.state book t n m list h.fits h.is_list some h.allowed)).1

pub discover-room : (graph : Graph) (book between : Booked) (t n m : ℕ) (list marked : Versions) → IsListStep graph book m list (Discover t n m) → 0 < length list.entries → Marks book m list t between marked → length marked.outs < marked.outs_room
discover-room graph book between t n m list marked h some marks =
    let s = h.state in
    let node = in-cells graph s m list h.is_list some in
    let is = marked-list graph book between t n m list marked h some marks in
    let room = edge-room graph s t n m h.fits.lawful h.allowed node in
    let count = ap (λ (v : Versions). length v.outs) is ∙ ap length (marked-outs s t m node) in
    let all : marked.outs_room ≡ choosers graph m = ap (λ (v : Versions). v.outs_room) is in
    omega (arith, room, count, all)

pub discover-new : (graph : Graph) (book between : Booked) (t n m : ℕ) (list marked : Versions) → IsListStep graph book m list (Discover t n m) → 0 < length list.entries → Marks book m list t between marked → has_out marked.outs n t ≡ false
discover-new graph book between t n m list marked h some marks =
    let s = h.state in
    let node = in-cells graph s m list h.is_list some in
    ap (λ (v : Versions). has_out v.outs n t) (marked-list graph book between t n m list marked h some marks)
    ∙ ap (λ edges. has_out edges n t) (marked-outs s t m node) ∙ discover-no_edge graph s t n m h.allowed

pub discover-makes : (graph : Graph) (book between : Booked) (t n m : ℕ) (list marked new_list : Versions) → 0 < length list.entries → Marks book m list t between marked → new_list ≡ with_outs marked (with_out marked.outs n t)
    → MakesJoined graph book list t n m between new_list
discover-makes graph book between t n m list marked new_list some marks added s fits is h =
    let q = ensure_mark s t m in
    let told = marks graph s (discover-can graph s book t n m list fits is some h) in
    let node = in-marked s t m (in-cells graph s m list is some) in (
      told.0 ∙ ap (with_book book) (sym (book-same q m (add_edge n t) (λ c. refl))),
      added ∙ ap (λ (v : Versions). with_outs v (with_out v.outs n t)) told.1 ∙ ap (λ (c : Cell). record (list_of graph q m) { entries = c.entries; outs = c.outs }) (sym (cell-changed m (add_edge n t) q.cells node)),
    )

-- ---- Drop

drop-can : (graph : Graph) (s : Core) (book : Booked) (t n m : ℕ) (list : Versions) → IsBookOf graph s book → list ≡ list_of graph s m → 0 < length list.entries → allowed graph s (Drop t n m) ≡ true → CanMark graph s book m list t
drop-can graph s book t n m list fits is some h = can-mark graph s book m list t n fits is some (drop-due graph s t n m h) (and_right _ _ h)

pub drop-mark : (graph : Graph) (book : Booked) (t n m : ℕ) (list : Versions) → IsListStep graph book m list (Drop t n m) → 0 < length list.entries → SomeCanMark book m list t
drop-mark graph book t n m list h some = record { graph = graph; state = h.state; can = drop-can graph h.state book t n m list h.fits h.is_list some h.allowed }

pub drop-makes : (graph : Graph) (book between : Booked) (t n m : ℕ) (list marked new_list : Versions) → 0 < length list.entries → Marks book m list t between marked → new_list ≡ with_outs marked (remove_first n marked.outs)
    → MakesList graph book m list (Drop t n m) between new_list
drop-makes graph book between t n m list marked new_list some marks removed s fits is h =
    let q = ensure_mark s t m in
    let told = marks graph s (drop-can graph s book t n m list fits is some h) in
    let node = in-marked s t m (in-cells graph s m list is some) in (
      told.0 ∙ ap (with_book book) (sym (book-same q m (drop_edge n) (λ c. refl))),
      removed ∙ ap (λ (v : Versions). with_outs v (remove_first n v.outs)) told.1 ∙ ap (λ (c : Cell). record (list_of graph q m) { entries = c.entries; outs = c.outs }) (sym (cell-changed m (drop_edge n) q.cells node)),
    )
