-- A call has a Mark in a list.
use Rattle.std.proofs.Common.{◌≡◌, ℕ, Bool, true, false, sym, ap, ◌∙◌}
use Rattle.script_tree.proofs.Truths.{or_later}
use Rattle.signal_graph.specs.Graph.{Graph}
use Rattle.node_versions.specs.declared.entry.State.TheVariants as modes
use Rattle.node_versions.specs.Entries.{Versions, has}
use Rattle.flow_model.specs.Machine.State.{Core, entries}
use Rattle.flow_model.specs.Machine.Words.{has_room}
use Rattle.flow_model.specs.Machine.Changes.{ensure_mark, enter}
use Rattle.flow_state.specs.Booked.{Booked, with_book}
use Rattle.flow_model.specs.Parts.Books.{book_of}
use Rattle.flow_state.specs.Fitting.{list_of}
use Rattle.entering.specs.Entering.{CanEnter, SomeCanEnter, Enters}
use Rattle.entering.specs.Marking.{CanMark, SomeCanMark, Marks}

pub has-list : (graph : Graph) (s : Core) (n t : ℕ) (list : Versions) → list ≡ list_of graph s n → has list.entries t ≡ has (entries s n) t
has-list graph s n t list is = ap (λ (l : Versions). has l.entries t) is

can-enter : (graph : Graph) (s : Core) (book : Booked) (n : ℕ) (list : Versions) (t : ℕ) → CanMark graph s book n list t → has list.entries t ≡ false → CanEnter graph s book n list t
can-enter graph s book n list t can away =
    let none = sym (has-list graph s n t list can.is_list) ∙ away in
    record { fits = can.fits; is_list = can.is_list; node = can.node; is_live = can.is_live; no_entry = none; room = or_later (has (entries s n) t) (has_room s n) can.room none }

pub some-can : (book : Booked) (n : ℕ) (list : Versions) (t : ℕ) → SomeCanMark book n list t → has list.entries t ≡ false → SomeCanEnter book n list t
some-can book n list t h away = record { graph = h.graph; state = h.state; can = can-enter h.graph h.state book n list t h.can away }

entered : (s : Core) (t n : ℕ) (b : Bool) → has (entries s n) t ≡ b → ensure_mark s t n ≡ elim b as (λ _. Core) [ true ↦ s | false ↦ enter s t n modes.Mark ]
entered s t n b e = ap (λ (b : Bool). elim b as (λ _. Core) [ true ↦ s | false ↦ enter s t n modes.Mark ]) e

pub marks-new : (book new : Booked) (n : ℕ) (list new_list : Versions) (t : ℕ) → has list.entries t ≡ false → Enters book n list t modes.Mark new new_list → Marks book n list t new new_list
marks-new book new n list new_list t away made graph s can =
    let after = sym (entered s t n false (sym (has-list graph s n t list can.is_list) ∙ away)) in
    let told = made graph s (can-enter graph s book n list t can away) in
    (told.0 ∙ ap (λ (q : Core). with_book book (book_of q)) after, told.1 ∙ ap (λ (q : Core). list_of graph q n) after)

pub marks-old : (book : Booked) (n : ℕ) (list : Versions) (t : ℕ) → has list.entries t ≡ true → Marks book n list t book list
marks-old book n list t there graph s can =
    let after = sym (entered s t n true (sym (has-list graph s n t list can.is_list) ∙ there)) in
    (ap (with_book book) can.fits.parts ∙ ap (λ (q : Core). with_book book (book_of q)) after, can.is_list ∙ ap (λ (q : Core). list_of graph q n) after)
