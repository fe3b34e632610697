-- What a look asks and makes.
use Rattle.std.proofs.Common.{◌≡◌, ℕ, ◌<◌, Bool, true, false, ◌||◌, ◌==◌, List, [], ◌∷◌, Some, length, refl, sym, ap, ◌∙◌, subst, true≢false}
use Rattle.std.specs.Option.{IsSome}
use Rattle.std.proofs.lemmas.Option.{slice_get_within}
use Rattle.script_tree.specs.declared.value.Value.{Value}
use Rattle.script_tree.proofs.Truths.{and_right}
use Rattle.signal_graph.specs.Graph.{Graph}
use Rattle.node_versions.specs.declared.entry.Entry.{Entry}
use Rattle.node_versions.specs.Entries.{Versions, is_frame, has, served, up_to, last_done, value_at}
use Rattle.flow_model.specs.declared.step.Step.TheVariants.{Look}
use Rattle.flow_model.specs.Machine.State.{Core, entries, live}
use Rattle.flow_model.specs.Machine.Words.{next_look}
use Rattle.flow_model.specs.Machine.Steps.{served_look, look_value, with_look}
use Rattle.flow_model.proofs.OneStep.WhoMayStep.{look-idle, idle-executes, executes-live}
use Rattle.flow_state.specs.Booked.{Booked, live_in, call_in, next_look_in, on_call}
use Rattle.flow_model.specs.Parts.Books.{Book}
use Rattle.flow_state.specs.Fitting.{IsBookOf, IsListStep, MakesRead}
use Rattle.flow_state.proofs.Fits.{fits_live, lawful_up_to}

pub served-has : (es : List Entry) (t : ℕ) → served es t ≡ true → has es t ≡ true
served-has [] t h = h
served-has (e ∷ es) t h = go (is_frame e.state) (e.version == t) (served-has es t) h
  where
    go : (a b : Bool) → (served es t ≡ true → has es t ≡ true) → elim a [ true ↦ false | false ↦ b || served es t ] ≡ true → (b || has es t) ≡ true
    go true b r k = absurd (true≢false (sym k))
    go false true r k = refl
    go false false r k = r k

-- what the step asks for
abbrev pub IsLook : Booked → Versions → ℕ → Type 0
IsLook book list t = (graph : Graph) × (node : ℕ) × (next_look_in book t ≡ Some node) × IsListStep graph book node list (Look t)

same_next : (graph : Graph) (s : Core) (book : Booked) (t : ℕ) → IsBookOf graph s book → next_look s t ≡ next_look_in book t
same_next graph s book t fits = sym (ap (λ (f : Book). next_look_in (record book { book = f }) t) fits.parts)

look_live : (book : Booked) (list : Versions) (t : ℕ) → (h : IsLook book list t) → live h.3.state t ≡ true
look_live book list t h = let s = h.3.state in executes-live s t (idle-executes s t (look-idle h.0 s t h.3.allowed))

look_has : (book : Booked) (list : Versions) (t : ℕ) → (h : IsLook book list t) → has (entries h.3.state h.1) t ≡ true
look_has book list t h =
    let s = h.3.state in
    served-has (entries s h.1) t (sym (ap (served_look s t) (same_next h.0 s book t h.3.fits ∙ h.2)) ∙ and_right _ _ h.3.allowed)

pub look-live : (book : Booked) (list : Versions) (t : ℕ) → IsLook book list t → live_in book t ≡ true
look-live book list t h = fits_live h.0 h.3.state book t h.3.fits (look_live book list t h)

pub look-left : (book : Booked) (list : Versions) (t : ℕ) → IsLook book list t → length (call_in book t).looked < length (call_in book t).looks
look-left book list t h = slice_get_within (call_in book t).looks (length (call_in book t).looked) h.1 h.2

pub look-has : (book : Booked) (list : Versions) (t : ℕ) → IsLook book list t → has list.entries t ≡ true
look-has book list t h = ap (λ (l : Versions). has l.entries t) h.3.is_list ∙ look_has book list t h

pub look-done : (book : Booked) (list : Versions) (t : ℕ) → IsLook book list t → IsSome (last_done (up_to list.entries t))
look-done book list t h = subst (λ (l : Versions). IsSome (last_done (up_to l.entries t))) (sym h.3.is_list) (lawful_up_to h.0 h.3.state h.1 t h.3.fits.lawful (look_live book list t h) (look_has book list t h))

pub look-makes : (book new : Booked) (list : Versions) (t : ℕ) (v : Value) → v ≡ value_at list.entries t → new ≡ on_call book t (with_look v)
    → (graph : Graph) (node : ℕ) → next_look_in book t ≡ Some node → MakesRead graph book node list (Look t) new
look-makes book new list t v value is graph node next s fits is_list h =
    let seen = value ∙ ap (λ (l : Versions). value_at l.entries t) is_list ∙ sym (ap (look_value s t) (same_next graph s book t fits ∙ next)) in
    is ∙ ap (λ (v : Value). on_call book t (with_look v)) seen ∙ ap (λ (f : Book). on_call (record book { book = f }) t (with_look (look_value s t (next_look s t)))) fits.parts
