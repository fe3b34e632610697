-- What framing a node needs, and what it makes.
use Rattle.std.proofs.Common.{◌≡◌, ℕ, ◌+◌, ◌<◌, ◌≤◌, inl, inr, Bool, true, false, ◌==◌, ◌||◌, ◌&&◌, cond, List, [], ◌∷◌, ◌++◌, length, filter, refl, sym, ap, ◌∙◌, subst, arith}
use Rattle.std.proofs.lemmas.Bool.{eq-eqb, true≢false, false≢true, cases_Bool}
use Rattle.std.proofs.lemmas.List.{length-map}
use Rattle.signal_graph.specs.declared.node.Node.{Node}
use Rattle.script_tree.proofs.Truths.{and_left, and_right, or_later}
use Rattle.signal_graph.specs.Graph.{Graph, node_at, numbers_from, static_outs, is_in, inputs_of}
use Rattle.node_versions.specs.declared.entry.State.TheVariants as state
use Rattle.node_versions.specs.Entries.{Versions, OutEdge, is_mark, has, at, with_state, with_entries, active_nodes, has_out, is_edge}
use Rattle.node_versions.proofs.Places.{at-has}
use Rattle.node_versions.proofs.KeptLemmas.{has-with_state}
use Rattle.flow_model.specs.declared.step.Step.TheVariants as step
use Rattle.flow_model.specs.Machine.State.{Core, Cell, LiveCall, call_of, wants, entries, outs}
use Rattle.std.specs.Prelude.{is_some}
use Rattle.flow_model.specs.Machine.Words.{active_outs}
use Rattle.flow_model.specs.Machine.Changes.{stops_call, new_entry, place_entry, set_state, enter, raise, opened}
use Rattle.flow_model.specs.Machine.Steps.{allowed}
use Rattle.flow_model.proofs.OneStep.SameLengths.{change_at-length}
use Rattle.flow_model.proofs.OneStep.WhoMayStep.{wants-live}
use Rattle.flow_model.proofs.OrderStays.AfterEachStep.{wanted-fresh}
use Rattle.flow_model.proofs.OneList.OneEntryACall.{placed-has}
use Rattle.flow_model.proofs.Books.StepsChangeBooks.{kept-works}
use Rattle.flow_model.proofs.Wants.WantsAreFree.{candidate-node}
use Rattle.flow_model.proofs.Others.CallsAreLeft.{with_frame-calls, frame-opens}
use Rattle.flow_state.specs.Booked.{Booked, live_in, node_count, with_book, on_call, opened_one}
use Rattle.flow_model.specs.Parts.Books.{Work, work_in, book_of, Book}
use Rattle.flow_model.specs.Follows.Others.{with_frame}
use Rattle.flow_state.proofs.OneCell.{cell-changed}
use Rattle.flow_state.specs.Fitting.{IsBookOf, IsListStep, MakesList, list_of, choosers}
use Rattle.entering.specs.Entering.{CanEnter, Enters}
use Rattle.entering.proofs.Marked.{has-list}
use Rattle.framing.specs.Framed.{wanting_all, CanFrame, SomeCanFrame, TakesFrame, AreBelow, EdgesBelow}
use Rattle.framing.proofs.Wanting.{on-twice, all-append, opened-all, all-version}

-- ---- where the step is allowed

pub frame_can : (graph : Graph) (s : Core) (book : Booked) (n : ℕ) (list : Versions) (t : ℕ) → IsBookOf graph s book → list ≡ list_of graph s n → allowed graph s (step.Frame t n) ≡ true → CanFrame graph s book n list t
frame_can graph s book n list t fits is h =
    let w = and_left (wants s t n) _ h in
    let free = fits.lawful.wants_are_free t n w in
    record {
      fits = fits;
      is_list = is;
      node = let a = free.node in let b = fits.lawful.lists in omega (arith, a, b);
      is_live = wants-live s t n w;
      mark = λ k. elim (cases_Bool (at is_mark (entries s n) t)) [
        | inl m ↦ m
        | inr m ↦ absurd (true≢false (sym k ∙ wanted-fresh graph s fits.lawful t n w m))
      ];
      room = λ k. elim (cases_Bool (at is_mark (entries s n) t)) [
        | inl m ↦ absurd (true≢false (sym (at-has is_mark (entries s n) t m) ∙ k))
        | inr m ↦ or_later (at is_mark (entries s n) t) _ (and_right (wants s t n) _ h) m
      ];
    }

pub some_frame : (graph : Graph) (book : Booked) (n : ℕ) (list : Versions) (t : ℕ) → IsListStep graph book n list (step.Frame t n) → SomeCanFrame book n list t
some_frame graph book n list t h = record { graph = graph; state = h.state; can = frame_can graph h.state book n list t h.fits h.is_list h.allowed }

pub can_raise : (graph : Graph) (s : Core) (book : Booked) (n : ℕ) (list : Versions) (t : ℕ) → CanFrame graph s book n list t → has list.entries t ≡ true → at is_mark list.entries t ≡ true
can_raise graph s book n list t can h = ap (λ (l : Versions). at is_mark l.entries t) can.is_list ∙ can.mark (sym (has-list graph s n t list can.is_list) ∙ h)

pub frame_enters : (graph : Graph) (s : Core) (book : Booked) (n : ℕ) (list : Versions) (t : ℕ) → CanFrame graph s book n list t → has list.entries t ≡ false → CanEnter graph s book n list t
frame_enters graph s book n list t can h = let none = sym (has-list graph s n t list can.is_list) ∙ h in record { fits = can.fits; is_list = can.is_list; node = can.node; is_live = can.is_live; no_entry = none; room = can.room none }

-- ---- the Frame

raised : (s : Core) (t n : ℕ) → at is_mark (entries s n) t ≡ true → with_frame s t n ≡ raise s t n
raised s t n h = ap (λ (b : Bool). elim b [ true ↦ raise s t n | false ↦ enter s t n state.Frame ]) h

entered : (s : Core) (t n : ℕ) → at is_mark (entries s n) t ≡ false → with_frame s t n ≡ enter s t n state.Frame
entered s t n h = ap (λ (b : Bool). elim b [ true ↦ raise s t n | false ↦ enter s t n state.Frame ]) h

pub takes_by_raise : (book : Booked) (n : ℕ) (list new_list : Versions) (t : ℕ) → has list.entries t ≡ true → new_list ≡ with_entries list (with_state t state.Frame list.entries) → TakesFrame book n list t book new_list
takes_by_raise book n list new_list t h is graph s can =
    let m = can.mark (sym (has-list graph s n t list can.is_list) ∙ h) in
    let s_is = raised s t n m in (
      ap (λ (f : Book). record book { book = f }) can.fits.parts
          ∙ ap (λ (ws : List Work). record book { book = record (book_of s) { works = ws } }) (sym (kept-works n (set_state t state.Frame) (λ c. refl) s.cells))
          ∙ ap (λ (x : Core). with_book book (book_of x)) (sym s_is),
      is ∙ ap (λ (l : Versions). with_entries l (with_state t state.Frame l.entries)) can.is_list
          ∙ ap (λ (c : Cell). record { entries = c.entries; outs = c.outs; room = s.callers + 9; outs_room = choosers graph n }) (sym (cell-changed n (set_state t state.Frame) s.cells can.node))
          ∙ ap (λ (x : Core). list_of graph x n) (sym s_is),
    )

pub takes_by_entry : (book new : Booked) (n : ℕ) (list new_list : Versions) (t : ℕ) → has list.entries t ≡ false → Enters book n list t state.Frame new new_list → TakesFrame book n list t new new_list
takes_by_entry book new n list new_list t h enters graph s can =
    let k = frame_enters graph s book n list t can h in
    let no_mark : at is_mark (entries s n) t ≡ false = elim (cases_Bool (at is_mark (entries s n) t)) [ inl m ↦ absurd (true≢false (sym (at-has is_mark (entries s n) t m) ∙ k.no_entry)) | inr m ↦ m ] in
    let s_is = entered s t n no_mark in
    let made = enters graph s k in
    (made.0 ∙ ap (λ (x : Core). with_book book (book_of x)) (sym s_is), made.1 ∙ ap (λ (x : Core). list_of graph x n) (sym s_is))

-- ---- what stays

frame-cells : (s : Core) (t n : ℕ) → length (with_frame s t n).cells ≡ length s.cells
frame-cells s t n = go (at is_mark (entries s n) t)
  where
    go : (b : Bool) → length (elim b as (λ _. Core) [ true ↦ raise s t n | false ↦ enter s t n state.Frame ]).cells ≡ length s.cells
    go true = change_at-length n (set_state t state.Frame) s.cells
    go false = change_at-length n (place_entry s t state.Frame) s.cells

frame-outs : (s : Core) (t n : ℕ) → n < length s.cells → outs (with_frame s t n) n ≡ outs s n
frame-outs s t n h = go (at is_mark (entries s n) t)
  where
    go : (b : Bool) → outs (elim b as (λ _. Core) [ true ↦ raise s t n | false ↦ enter s t n state.Frame ]) n ≡ outs s n
    go true = ap (λ (c : Cell). c.outs) (cell-changed n (set_state t state.Frame) s.cells h)
    go false = ap (λ (c : Cell). c.outs) (cell-changed n (place_entry s t state.Frame) s.cells h)

frame-has : (s : Core) (t n : ℕ) → n < length s.cells → has (entries (with_frame s t n) n) t ≡ true
frame-has s t n h = go (at is_mark (entries s n) t) refl
  where
    or_first : (a b : Bool) → a ≡ true → (a || b) ≡ true
    or_first true b h = refl
    or_first false b h = absurd (false≢true h)

    go : (b : Bool) → at is_mark (entries s n) t ≡ b → has (entries (elim b as (λ _. Core) [ true ↦ raise s t n | false ↦ enter s t n state.Frame ]) n) t ≡ true
    go true e = ap (λ (c : Cell). has c.entries t) (cell-changed n (set_state t state.Frame) s.cells h) ∙ has-with_state t state.Frame (entries s n) t ∙ at-has is_mark (entries s n) t e
    go false e = ap (λ (c : Cell). has c.entries t) (cell-changed n (place_entry s t state.Frame) s.cells h) ∙ placed-has (stops_call s t) (new_entry s t state.Frame) (entries s n) t ∙ or_first (t == t) _ (eq-eqb t t refl)

pub book_live : (graph : Graph) (s : Core) (book book1 : Booked) (n : ℕ) (list : Versions) (t : ℕ) → CanFrame graph s book n list t → book1 ≡ with_book book (book_of (with_frame s t n)) → live_in book1 t ≡ true
book_live graph s book book1 n list t can is = ap (λ (b : Booked). live_in b t) is ∙ ap (λ (cs : List LiveCall). is_some (call_of cs t)) (with_frame-calls s t n) ∙ can.is_live

pub book_nodes : (graph : Graph) (s : Core) (book book1 : Booked) (n : ℕ) (list : Versions) (t : ℕ) → CanFrame graph s book n list t → book1 ≡ with_book book (book_of (with_frame s t n)) → node_count book1 ≡ length graph.nodes
book_nodes graph s book book1 n list t can is = ap node_count is ∙ length-map (with_frame s t n).cells work_in ∙ frame-cells s t n ∙ can.fits.lawful.lists

pub list_entered : (graph : Graph) (s : Core) (book : Booked) (n : ℕ) (list list1 : Versions) (t : ℕ) → CanFrame graph s book n list t → list1 ≡ list_of graph (with_frame s t n) n → has list1.entries t ≡ true
list_entered graph s book n list list1 t can is = ap (λ (l : Versions). has l.entries t) is ∙ frame-has s t n can.node

-- ---- nodes of the graph

below-from : (p : ℕ → Bool) (k size : ℕ) (nodes : List Node) → k + length nodes ≤ size → AreBelow size (filter p (numbers_from k nodes))
below-from p k size [] h = tt
below-from p k size (x ∷ xs) h = go (p k) (below-from p (k + 1) size xs (omega (arith, h)))
  where
    go : (b : Bool) → AreBelow size (filter p (numbers_from (k + 1) xs)) → AreBelow size (cond b (k ∷ filter p (numbers_from (k + 1) xs)) (filter p (numbers_from (k + 1) xs)))
    go true r = (omega (arith, h), r)
    go false r = r

pub static_below : (graph : Graph) (m : ℕ) → AreBelow (length graph.nodes) (static_outs graph m)
static_below graph m = below-from (λ n. is_in m (inputs_of (node_at graph n))) 0 (length graph.nodes) graph.nodes (omega arith)

edges-below : (size : ℕ) (outs : List OutEdge) → ((n since : ℕ) → has_out outs n since ≡ true → n < size) → EdgesBelow size outs
edges-below size [] h = tt
edges-below size (x ∷ xs) h = (h x.0 x.1 (or_first (is_edge x.0 x.1 x) _ (both (x.0 == x.0) (x.1 == x.1) (eq-eqb x.0 x.0 refl) (eq-eqb x.1 x.1 refl))), edges-below size xs (λ n since e. h n since (or_second (is_edge n since x) _ e)))
  where
    or_first : (a b : Bool) → a ≡ true → (a || b) ≡ true
    or_first true b h = refl
    or_first false b h = absurd (false≢true h)

    or_second : (a b : Bool) → b ≡ true → (a || b) ≡ true
    or_second true b h = refl
    or_second false b h = h

    both : (a b : Bool) → a ≡ true → b ≡ true → (a && b) ≡ true
    both true b h e = e
    both false b h e = absurd (false≢true h)

pub list_edges : (graph : Graph) (s : Core) (book : Booked) (n : ℕ) (list list1 : Versions) (t : ℕ) → CanFrame graph s book n list t → list1 ≡ list_of graph (with_frame s t n) n → EdgesBelow (length graph.nodes) list1.outs
list_edges graph s book n list list1 t can is =
    subst (EdgesBelow (length graph.nodes)) (sym (ap (λ (l : Versions). l.outs) is ∙ frame-outs s t n can.node))
    (edges-below (length graph.nodes) (outs s n) (λ k since h. candidate-node graph n k (can.fits.lawful.edges_fit.candidate k n since h)))

-- ---- the whole step

same-change : (t : ℕ) (f g : LiveCall → LiveCall) (book : Booked) → ((c : LiveCall) → f c ≡ g c) → on_call book t f ≡ on_call book t g
same-change t f g book same = ap (λ (cs : List LiveCall). record book { book = record book.book { calls = cs } }) (go book.book.calls)
  where
    go : (cs : List LiveCall) → (on_call (record book { book = record book.book { calls = cs } }) t f).book.calls ≡ (on_call (record book { book = record book.book { calls = cs } }) t g).book.calls
    go [] = refl
    go (c ∷ cs) = by (c.version == t) (go cs)
      where
        by : (b : Bool) → (on_call (record book { book = record book.book { calls = cs } }) t f).book.calls ≡ (on_call (record book { book = record book.book { calls = cs } }) t g).book.calls → elim b as (λ _. List LiveCall) [ true ↦ f c ∷ cs | false ↦ c ∷ (on_call (record book { book = record book.book { calls = cs } }) t f).book.calls ] ≡ elim b as (λ _. List LiveCall) [ true ↦ g c ∷ cs | false ↦ c ∷ (on_call (record book { book = record book.book { calls = cs } }) t g).book.calls ]
        by true r = ap (λ (d : LiveCall). d ∷ cs) (same c)
        by false r = ap (λ (ds : List LiveCall). c ∷ ds) r

pub frame_makes : (graph : Graph) (book book1 book2 book3 book4 : Booked) (n : ℕ) (list list1 : Versions) (t : ℕ) (statics : List ℕ) → TakesFrame book n list t book1 list1 → book2 ≡ on_call book1 t (opened_one n) → statics ≡ static_outs graph n → book3 ≡ on_call book2 t (wanting_all statics) → book4 ≡ on_call book3 t (wanting_all (active_nodes list1.entries list1.outs t))
    → MakesList graph book n list (step.Frame t n) book4 list1
frame_makes graph book book1 book2 book3 book4 n list list1 t statics takes b2 st b3 b4 s fits is h =
    let can = frame_can graph s book n list t fits is h in
    let made = takes graph s can in
    let x : Core = with_frame s t n in
    let act : List ℕ = active_nodes list1.entries list1.outs t in
    let outs_are : statics ++ act ≡ active_outs graph x t n = ap (λ (ns : List ℕ). ns ++ act) st ∙ ap (λ (l : Versions). static_outs graph n ++ active_nodes l.entries l.outs t) made.1 in (
      b4 ∙ ap (λ (b : Booked). on_call b t (wanting_all act)) (b3 ∙ ap (λ (b : Booked). on_call b t (wanting_all statics)) b2)
          ∙ on-twice (on_call book1 t (opened_one n)) t (wanting_all statics) (wanting_all act) (all-version statics)
          ∙ on-twice book1 t (opened_one n) (λ c. wanting_all act (wanting_all statics c)) (λ _. refl)
          ∙ same-change t (λ c. wanting_all act (wanting_all statics (opened_one n c))) (opened n (statics ++ act)) book1 (λ c. all-append statics act (opened_one n c) ∙ opened-all n (statics ++ act) c)
          ∙ ap (λ (ns : List ℕ). on_call book1 t (opened n ns)) outs_are
          ∙ ap (λ (b : Booked). on_call b t (opened n (active_outs graph x t n))) made.0
          ∙ ap (λ (y : Core). with_book book (book_of y)) (sym (frame-opens graph s t n)),
      made.1 ∙ ap (λ (y : Core). list_of graph y n) (sym (frame-opens graph s t n)),
    )
