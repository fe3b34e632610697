-- A node's new value stands, in the book and the list.
use Rattle.std.proofs.Common.{◌≡◌, ℕ, ◌<◌, Bool, true, not, List, Option, length, map, refl, sym, ap, ◌∙◌, arith}
use Rattle.script_tree.specs.declared.value.Value.{Value}
use Rattle.signal_graph.specs.Graph.{Graph}
use Rattle.signal_graph.specs.Machine.{same}
use Rattle.node_versions.specs.declared.entry.State.{State}
use Rattle.node_versions.specs.declared.entry.State.TheVariants.{Done}
use Rattle.node_versions.specs.Entries.{Versions, value_before, with_state, with_entries}
use Rattle.flow_model.specs.declared.step.Step.TheVariants.{Resolve}
use Rattle.flow_model.specs.Machine.State.{Core, change_call}
use Rattle.flow_model.specs.Machine.Lists.{change_at}
use Rattle.flow_model.specs.Machine.Words.{value_now, found_picks}
use Rattle.flow_model.specs.Machine.Changes.{set_state, closed, cleared, finish}
use Rattle.flow_model.specs.Machine.Steps.{allowed, apply, is_change}
use Rattle.flow_model.proofs.OneStep.WhoMayStep.{can_work-at_front}
use Rattle.flow_model.proofs.OneStep.WhoMayStep.{resolve-can_work}
use Rattle.flow_model.proofs.OneStep.SameLengths.{change_at-length}
use Rattle.flow_model.proofs.OrderStays.OpenNodesHaveFrames.{cell-there}
use Rattle.flow_model.proofs.Books.StepsChangeBooks.{changed-works, kept-works}
use Rattle.flow_state.specs.Booked.{Booked, on_call, on_work}
use Rattle.flow_model.specs.Parts.Books.{Work, work_in, book_of, forgotten, Book}
use Rattle.flow_model.specs.Machine.Lists.{change_at}
use Rattle.flow_state.specs.Fitting.{IsBookOf, IsListStep, list_of, book_after}
use Rattle.flow_state.proofs.Fronts.{IsFront, front_inside, cell_list, finished_list}

pub resolve_front : (graph : Graph) (s : Core) (book : Booked) (n : ℕ) (list : Versions) (t : ℕ) → IsBookOf graph s book → list ≡ list_of graph s n → allowed graph s (Resolve t n) ≡ true → IsFront graph s book n list t
resolve_front graph s book n list t fits is h = record { fits = fits; is_list = is; front = can_work-at_front graph s t n (resolve-can_work graph s t n h) }

pub resolve-front : (graph : Graph) (book : Booked) (n : ℕ) (list : Versions) (t : ℕ) → (h : IsListStep graph book n list (Resolve t n)) → IsFront graph h.state book n list t
resolve-front graph book n list t h = resolve_front graph h.state book n list t h.fits h.is_list h.allowed

pub resolve-known : (graph : Graph) (book : Booked) (n : ℕ) (list : Versions) (t : ℕ) → IsListStep graph book n list (Resolve t n) → n < length graph.nodes
resolve-known graph book n list t h = let l = h.fits.lawful.lists in let k = front_inside graph h.state book n list t (resolve-front graph book n list t h) in omega (arith, l, k)

pub resolved : (graph : Graph) (s : Core) (book mid new : Booked) (n : ℕ) (list new_list : Versions) (t : ℕ) (v old : Value) (is_same : Bool) (picks : List (Option ℕ))
    → IsFront graph s book n list t → v ≡ value_now graph s t n → old ≡ value_before list.entries t → is_same ≡ same v old → picks ≡ found_picks s n
    → new_list ≡ with_entries list (with_state t (Done v (not is_same) picks) list.entries) → mid ≡ on_call book t (closed n (not is_same)) → new ≡ on_work mid n forgotten
    → (new ≡ book_after graph s (Resolve t n) book) × (new_list ≡ list_of graph (apply graph s (Resolve t n)) n)
resolved graph s book mid new n list new_list t v old is_same picks front value_is before compared picks_are made mid_is new_is = (on_book, on_list)
  where
    now : Value
    now = value_now graph s t n

    change : Bool
    change = is_change graph s t n

    state : State
    state = Done now change (found_picks s n)

    change_is : not is_same ≡ change
    change_is = ap not (compared ∙ ap (λ (v : Value). same v old) value_is ∙ ap (same now) (before ∙ ap (λ (l : Versions). value_before l.entries t) front.is_list))

    inside : n < length s.cells
    inside = front_inside graph s book n list t (front)

    done : Core
    done = finish s t n now change (found_picks s n)

    works : map work_in (change_at n cleared done.cells) ≡ change_at n forgotten (map work_in s.cells)
    works = changed-works n cleared forgotten (λ c. refl) done.cells ∙ ap (change_at n forgotten) (kept-works n (set_state t state) (λ c. refl) s.cells)

    on_book : new ≡ book_after graph s (Resolve t n) book
    on_book =
        new_is ∙ ap (λ (b : Booked). on_work b n forgotten) (mid_is ∙ ap (λ (c : Bool). on_call book t (closed n c)) change_is)
        ∙ ap (λ (f : Book). on_work (on_call (record book { book = f }) t (closed n change)) n forgotten) front.fits.parts
        ∙ ap (λ (ws : List Work). record book { book = record (book_of s) { calls = change_call t (closed n change) s.calls; works = ws } }) (sym works)

    on_list : new_list ≡ list_of graph (apply graph s (Resolve t n)) n
    on_list =
        made ∙ ap (λ (v : Value). with_entries list (with_state t (Done v (not is_same) picks) list.entries)) value_is
        ∙ ap (λ (c : Bool). with_entries list (with_state t (Done now c picks) list.entries)) change_is
        ∙ ap (λ (ps : List (Option ℕ)). with_entries list (with_state t (Done now change ps) list.entries)) picks_are
        ∙ ap (λ (l : Versions). with_entries l (with_state t state l.entries)) front.is_list
        ∙ finished_list graph s n t state inside
        ∙ ap (cell_list graph s n) (sym (cell-there done n cleared (let l = change_at-length n (set_state t state) s.cells in omega (arith, l, inside))))
