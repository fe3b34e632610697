-- What a fold's new value asks and makes.
use Rattle.std.proofs.Common.{◌≡◌, ℕ, ◌<◌, ◌⊎◌, inl, inr, Bool, true, false, not, ◌&&◌, List, [], Option, Some, None, refl, sym, ap, ◌∙◌, true≢false}
use Rattle.std.proofs.lemmas.Bool.{or_cases}
use Rattle.std.specs.Option.{IsSome, is_some}
use Rattle.script_tree.specs.declared.value.Fault.TheVariants.{NoChoice}
use Rattle.script_tree.specs.declared.value.Value.{Value}
use Rattle.script_tree.specs.declared.value.Value.TheVariants.{Fault as Faulty}
use Rattle.script_tree.proofs.Truths.{and_left, and_right}
use Rattle.signal_graph.specs.declared.node.Node.{Node}
use Rattle.signal_graph.specs.declared.node.Node.TheVariants.{Source, Signal, Fold, Choose}
use Rattle.signal_graph.specs.declared.node.NodeKind.TheVariants as kinds
use Rattle.signal_graph.specs.Graph.{Graph, node_at, kind_of, is_source, body_of}
use Rattle.signal_graph.specs.Machine.{same}
use Rattle.node_versions.specs.declared.entry.State.TheVariants.{Done}
use Rattle.node_versions.specs.Entries.{Versions, is_frame, has, at, before, last_done, value_before, with_state, with_entries}
use Rattle.flow_model.specs.declared.step.Step.TheVariants.{Resolve}
use Rattle.flow_model.specs.Machine.State.{Core, Found, call, cell, entries}
use Rattle.flow_model.specs.Machine.State.{Gives}
use Rattle.flow_model.specs.Machine.Words.{touched, is_found, set_value, value_gathered, value_without, value_by, value_now, picks_of_found, finds}
use Rattle.flow_model.specs.Machine.Changes.{closed}
use Rattle.flow_model.specs.Machine.Steps.{allowed, is_worked_out}
use Rattle.flow_model.proofs.OneStep.WhoMayStep.{at_front-heads}
use Rattle.flow_state.specs.Booked.{Booked, live_in, node_count, work_at, on_call, on_work}
use Rattle.flow_model.specs.Parts.Books.{Work, forgotten}
use Rattle.flow_state.specs.Fitting.{IsListStep, MakesList}
use Rattle.flow_state.proofs.Fits.{same_work}
use Rattle.flow_state.proofs.Fronts.{IsFront, front-live, front-node, front-has, front-frame, front-done}
use Rattle.flow_state.proofs.Resolved.{resolve_front, resolve-front, resolved}
use Rattle.fold_nodes.specs.Given.{given_value}

-- what the step asks for
abbrev pub IsFold : Graph → ℕ → Type 0
IsFold graph n = kind_of (node_at graph n) ≡ kinds.Fold

abbrev pub IsFoldStep : Booked → ℕ → Versions → ℕ → Type 0
IsFoldStep book n list t = (graph : Graph) × IsFold graph n × IsListStep graph book n list (Resolve t n)

fold_front : (book : Booked) (n : ℕ) (list : Versions) (t : ℕ) → (h : IsFoldStep book n list t) → IsFront h.0 h.2.state book n list t
fold_front book n list t h = resolve-front h.0 book n list t h.2

pub fold-live : (book : Booked) (n : ℕ) (list : Versions) (t : ℕ) → IsFoldStep book n list t → live_in book t ≡ true
fold-live book n list t h = front-live h.0 h.2.state book n list t (fold_front book n list t h)

pub fold-node : (book : Booked) (n : ℕ) (list : Versions) (t : ℕ) → IsFoldStep book n list t → n < node_count book
fold-node book n list t h = front-node h.0 h.2.state book n list t (fold_front book n list t h)

pub fold-has : (book : Booked) (n : ℕ) (list : Versions) (t : ℕ) → IsFoldStep book n list t → has list.entries t ≡ true
fold-has book n list t h = front-has h.0 h.2.state book n list t (fold_front book n list t h)

pub fold-frame : (book : Booked) (n : ℕ) (list : Versions) (t : ℕ) → IsFoldStep book n list t → at is_frame list.entries t ≡ true
fold-frame book n list t h = front-frame h.0 h.2.state book n list t (fold_front book n list t h)

pub fold-done : (book : Booked) (n : ℕ) (list : Versions) (t : ℕ) → IsFoldStep book n list t → IsSome (last_done (before list.entries t))
fold-done book n list t h = front-done h.0 h.2.state book n list t (fold_front book n list t h)

-- ---- what is found at a fold

-- The node is no source and has no body, and finds a value.
record IsPlain (node : Node) : Type 0 where
  no_source : is_source node ≡ false
  no_body : body_of node ≡ None
  gives : (read : ℕ → Value) (acc : Value) → (v : Value) × (finds node read acc ≡ Gives v)

fold_plain : (node : Node) → kind_of node ≡ kinds.Fold → IsPlain node
fold_plain (Source v) k = absurd (source k)
  where
    source : kinds.Source ≡ kinds.Fold → ⊥
    source e = cc
fold_plain (Signal script inputs) k = record { no_source = refl; no_body = refl; gives = λ read acc. (_, refl) }
fold_plain (Fold v script inputs) k = record { no_source = refl; no_body = refl; gives = λ read acc. (_, refl) }
fold_plain (Choose selectors body inputs) k = absurd (choose k)
  where
    choose : kinds.Choose ≡ kinds.Fold → ⊥
    choose e = cc

-- What is kept at a fold is a value that was found.
record IsGiven (s : Core) (n : ℕ) : Type 0 where
  value : Value
  found : (cell s n).found ≡ Some (Gives value)

fold_given : (graph : Graph) (s : Core) (book : Booked) (n : ℕ) (list : Versions) (t : ℕ) → IsFront graph s book n list t → IsFold graph n → allowed graph s (Resolve t n) ≡ true → IsGiven s n
fold_given graph s book n list t front is_fold h = go (cell s n).found refl (worked (or_cases _ _ (and_right _ _ h)))
  where
    plain : IsPlain (node_at graph n)
    plain = fold_plain (node_at graph n) is_fold

    worked : (is_source (node_at graph n) ≡ true) ⊎ ((touched graph s t n && is_worked_out graph s t n) ≡ true) → is_found s n ≡ true
    worked (inl k) = absurd (true≢false (sym k ∙ plain.no_source))
    worked (inr k) = and_left _ _ (and_left _ _ (and_left _ _ (and_left _ _ (and_right _ _ k))))

    go : (o : Option Found) → (cell s n).found ≡ o → is_found s n ≡ true → IsGiven s n
    go None e k = absurd (true≢false (sym k ∙ ap is_some e))
    go (Some f) e k = let g = plain.gives (value_gathered s n) (value_before (entries s n) t) in record {
      value = g.0;
      found = e ∙ ap Some (front.fits.lawful.values_are_read.found t n f (at_front-heads graph s t n front.front) e ∙ g.1);
    }

fold_value : (graph : Graph) (s : Core) (t n : ℕ) → IsFold graph n → (g : IsGiven s n) → value_now graph s t n ≡ g.value
fold_value graph s t n is_fold g =
    let plain = fold_plain (node_at graph n) is_fold in
    ap (λ (b : Bool). elim b as (λ _. Value) [ true ↦ set_value n (Faulty NoChoice) (call s t).sets | false ↦ value_by s n (body_of (node_at graph n)) ]) plain.no_source
    ∙ ap (value_by s n) plain.no_body ∙ ap (value_without s n) g.found

pub fold-makes : (book mid new : Booked) (n : ℕ) (list new_list : Versions) (t : ℕ) (v old : Value) (is_same : Bool) (picks : List (Option ℕ))
    → v ≡ given_value (work_at book n).found → old ≡ value_before list.entries t → is_same ≡ same v old → picks ≡ []
    → new_list ≡ with_entries list (with_state t (Done v (not is_same) picks) list.entries) → mid ≡ on_call book t (closed n (not is_same)) → new ≡ on_work mid n forgotten
    → (graph : Graph) → IsFold graph n → MakesList graph book n list (Resolve t n) new new_list
fold-makes book mid new n list new_list t v old is_same picks value before compared none made mid_is new_is graph is_fold s fits is_list h =
    let front = resolve_front graph s book n list t fits is_list h in
    let g = fold_given graph s book n list t front is_fold h in
    let found = ap (λ (w : Work). w.found) (same_work graph s book n fits) ∙ g.found in
    resolved graph s book mid new n list new_list t v old is_same picks front (value ∙ ap given_value found ∙ sym (fold_value graph s t n is_fold g)) before compared
    (none ∙ sym (ap picks_of_found g.found)) made mid_is new_is
