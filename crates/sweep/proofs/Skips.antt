-- What a skip asks and makes.
use Rattle.std.proofs.Common.{◌≡◌, ℕ, ◌<◌, true, false, List, [], ◌∷◌, length, Option, Some, None, refl, sym, ap, ◌∙◌, subst}
use Rattle.std.specs.List.{AllZip}
use Rattle.script_tree.specs.declared.value.Value.{Value}
use Rattle.signal_graph.specs.declared.node.Selector.{Selector}
use Rattle.signal_graph.specs.Graph.{Graph, node_at, selectors_of}
use Rattle.node_versions.specs.declared.entry.State.{State}
use Rattle.node_versions.specs.declared.entry.State.TheVariants.{Done}
use Rattle.node_versions.specs.declared.entry.Entry.{Entry}
use Rattle.node_versions.specs.Entries.{Versions, is_done, at, before, last_done, state_of, picks_of, picks_at, value_before, picks_before, with_state, with_entries}
use Rattle.node_versions.proofs.Collecting.{last_is_done}
use Rattle.flow_model.specs.declared.step.Step.TheVariants.{Skip}
use Rattle.flow_model.specs.Machine.State.{Core, entries, change_call}
use Rattle.flow_model.specs.Machine.Changes.{set_state, closed}
use Rattle.flow_model.specs.Machine.Steps.{allowed, apply}
use Rattle.flow_model.specs.Kept.Lawful.{IsLawful, IsPickOf}
use Rattle.flow_model.proofs.OneList.InOrder.{last_done-has}
use Rattle.flow_model.proofs.OneList.OneEntryACall.{last_done-at}
use Rattle.flow_model.proofs.OneStep.WhoMayStep.{can_work-at_front}
use Rattle.flow_model.proofs.Wants.EarlierNodes.{before-unique, before-at, before-up_to, own-done}
use Rattle.flow_model.proofs.OneStep.WhoMayStep.{skip-can_work}
use Rattle.flow_model.proofs.Books.StepsChangeBooks.{kept-works}
use Rattle.flow_state.specs.Booked.{Booked, on_call}
use Rattle.flow_model.specs.Parts.Books.{Work, book_of, Book}
use Rattle.flow_state.specs.Fitting.{IsBookOf, IsListStep, MakesList, list_of, book_after}
use Rattle.flow_state.proofs.Fronts.{IsFront, front_inside, finished_list}

skip_front : (graph : Graph) (s : Core) (book : Booked) (n : ℕ) (list : Versions) (t : ℕ) → IsBookOf graph s book → list ≡ list_of graph s n → allowed graph s (Skip t n) ≡ true → IsFront graph s book n list t
skip_front graph s book n list t fits is h = record { fits = fits; is_list = is; front = can_work-at_front graph s t n (skip-can_work graph s t n h) }

pub skip-front : (graph : Graph) (book : Booked) (n : ℕ) (list : Versions) (t : ℕ) → (h : IsListStep graph book n list (Skip t n)) → IsFront graph h.state book n list t
skip-front graph book n list t h = skip_front graph h.state book n list t h.fits h.is_list h.allowed

-- ---- the picks before the call, where the node has no selectors

no-picks : (picks : List (Option ℕ)) → AllZip IsPickOf [] picks → picks ≡ []
no-picks [] fit = refl
no-picks (p ∷ ps) fit = absurd fit

-- They are those of a Done, which fit the node's selectors.
prior-none : (graph : Graph) (s : Core) → IsLawful graph s → (t n : ℕ) → selectors_of (node_at graph n) ≡ [] → picks_before (entries s n) t ≡ []
prior-none graph s h t n none = go (last_done (before (entries s n) t)) refl
  where
    go : (o : Option Entry) → last_done (before (entries s n) t) ≡ o → picks_of (state_of o) ≡ []
    go None e = refl
    go (Some x) e =
        let b = before (entries s n) t in
        let q = before-unique (entries s n) t (h.one_entry n) in
        let hx = last_done-has b x e in
        let d : at is_done (entries s n) x.version ≡ true = sym (before-at is_done (entries s n) t x.version (h.one_entry n) hx) ∙ last_done-at is_done b x q e ∙ last_is_done b x e in
        let own : picks_at (entries s n) x.version ≡ picks_of x.state = ap (λ (es : List Entry). picks_of (state_of (last_done es))) (sym (before-up_to (entries s n) t x.version hx)) ∙ ap (λ (o : Option Entry). picks_of (state_of o)) (own-done b x q e) in
        no-picks (picks_of x.state) (subst (λ (xs : List Selector). AllZip IsPickOf xs (picks_of x.state)) none (subst (AllZip IsPickOf (selectors_of (node_at graph n))) own (h.picks_fit x.version n d)))

pub skip-none : (graph : Graph) (book : Booked) (n : ℕ) (list : Versions) (t : ℕ) → IsListStep graph book n list (Skip t n) → selectors_of (node_at graph n) ≡ [] → picks_before list.entries t ≡ []
skip-none graph book n list t h none = ap (λ (l : Versions). picks_before l.entries t) h.is_list ∙ prior-none graph h.state h.fits.lawful t n none

pub skip-known : (graph : Graph) (book : Booked) (n : ℕ) (list : Versions) (t : ℕ) → IsListStep graph book n list (Skip t n) → n < length graph.nodes
skip-known graph book n list t h = subst (λ (k : ℕ). n < k) h.fits.lawful.lists (front_inside graph h.state book n list t (skip-front graph book n list t h))

pub skip-makes : (graph : Graph) (book new : Booked) (n : ℕ) (list new_list : Versions) (t : ℕ) (v : Value) (picks : List (Option ℕ)) → v ≡ value_before list.entries t → picks ≡ picks_before list.entries t
    → new_list ≡ with_entries list (with_state t (Done v false picks) list.entries) → new ≡ on_call book t (closed n false) → MakesList graph book n list (Skip t n) new new_list
skip-makes graph book new n list new_list t v picks value picked made is s fits is_list h = (on_book, on_list)
  where
    state : State
    state = Done (value_before (entries s n) t) false (picks_before (entries s n) t)

    on_book : new ≡ book_after graph s (Skip t n) book
    on_book =
        is ∙ ap (λ (f : Book). on_call (record book { book = f }) t (closed n false)) fits.parts
        ∙ ap (λ (ws : List Work). record book { book = record (book_of s) { calls = change_call t (closed n false) s.calls; works = ws } }) (sym (kept-works n (set_state t state) (λ c. refl) s.cells))

    on_list : new_list ≡ list_of graph (apply graph s (Skip t n)) n
    on_list =
        made ∙ ap (λ (v : Value). with_entries list (with_state t (Done v false picks) list.entries)) value
        ∙ ap (λ (ps : List (Option ℕ)). with_entries list (with_state t (Done (value_before list.entries t) false ps) list.entries)) picked
        ∙ ap (λ (l : Versions). with_entries l (with_state t (Done (value_before l.entries t) false (picks_before l.entries t)) l.entries)) is_list
        ∙ finished_list graph s n t state (front_inside graph s book n list t (skip_front graph s book n list t fits is_list h))
