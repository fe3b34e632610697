-- Only a Look changes what a call has looked at, only Evaluate what it has counted, and only Resolve what it has changed.
use Rattle.std.proofs.Common.{◌≡◌, ℕ, Bool, true, false, ◌==◌, ◌⊎◌, inl, inr, refl, sym, ap, List, ◌∙◌, subst, Option}
use Rattle.std.proofs.lemmas.Bool.{eqb-true, eq-eqb, both_ways, cases_Bool}
use Rattle.std.specs.Prelude.{is_some}
use Rattle.script_tree.specs.declared.value.Value.{Value}
use Rattle.signal_graph.specs.Graph.{Graph}
use Rattle.node_versions.specs.declared.entry.State.TheVariants.{Frame, Done}
use Rattle.node_versions.specs.declared.entry.Entry.{Entry}
use Rattle.node_versions.specs.Entries.{at, is_mark, value_before, picks_before}
use Rattle.flow_model.specs.declared.step.Step.{Step}
use Rattle.flow_model.specs.declared.step.Step.TheVariants as steps
use Rattle.flow_model.specs.Machine.State.{Core, LiveCall, call, call_or, live, entries, with_cell}
use Rattle.flow_model.specs.Machine.Words.{active_outs, found_now, value_now, found_picks, next_look}
use Rattle.flow_model.specs.Machine.Changes.{enter, raise, ensure_mark, opened, closed, set_state, tell_call, add_edge}
use Rattle.flow_model.specs.Machine.Steps.{apply, frame, open_node, started, counted, with_look, look_value, keep_found, is_change}
use Rattle.flow_model.proofs.OneList.CallsAndCells.{with_call-keeps, map_call-keeps, without_call-other, without_call-same}
use Rattle.flow_model.proofs.OneStep.QuietSteps.{SameWork, works, step-work as quiet-work}
use Rattle.flow_model.proofs.OneStep.SameCallers.{ensured}

-- ---- fields of calls

-- what is read of a call stays through the step's change of it
abbrev pub FieldStays : {A : Type 0} → (LiveCall → A) → Step → Type 0
FieldStays read (steps.Frame t n) = (m : ℕ) (outs : List ℕ) (c : LiveCall) → read (opened m outs c) ≡ read c
FieldStays read (steps.Start t) = (c : LiveCall) → read (started c) ≡ read c
FieldStays read (steps.Skip t n) = (c : LiveCall) → read (closed n false c) ≡ read c
FieldStays read (steps.Resolve t n) = (b : Bool) (c : LiveCall) → read (closed n b c) ≡ read c
FieldStays read (steps.Evaluate t n) = (c : LiveCall) → read (counted c) ≡ read c
FieldStays read (steps.Look t) = (v : Value) (c : LiveCall) → read (with_look v c) ≡ read c
FieldStays read (steps.Discover t n m) = (es : List Entry) (c : LiveCall) → read (tell_call es t n c) ≡ read c
FieldStays read step = Unit {0}

framed-field : {A : Type 0} (read : LiveCall → A) → ((m : ℕ) (outs : List ℕ) (c : LiveCall) → read (opened m outs c) ≡ read c) → (graph : Graph) (s : Core) (t n u : ℕ) → read (call (frame graph s t n) u) ≡ read (call s u)
framed-field {A} read k graph s t n u = go (at is_mark (entries s n) t)
  where
    go : (b : Bool) → read (call (elim b [ true ↦ open_node graph (raise s t n) t n | false ↦ open_node graph (enter s t n Frame) t n ]) u) ≡ read (call s u)
    go true = with_call-keeps read (raise s t n) t (opened n (active_outs graph (raise s t n) t n)) (λ c. refl) (k n _) u
    go false = with_call-keeps read (enter s t n Frame) t (opened n (active_outs graph (enter s t n Frame) t n)) (λ c. refl) (k n _) u

pub step-field : {A : Type 0} (read : LiveCall → A) (graph : Graph) (s : Core) (step : Step) → FieldStays read step → (u : ℕ) → live (apply graph s step) u ≡ true → read (call (apply graph s step) u) ≡ read (call s u)
step-field read graph s (steps.Frame t n) k u l = framed-field read k graph s t n u
step-field read graph s (steps.Start t) k u l = with_call-keeps read s t started (λ c. refl) k u
step-field read graph s (steps.Skip t n) k u l = with_call-keeps read (with_cell s n (set_state t (Done (value_before (entries s n) t) false (picks_before (entries s n) t)))) t (closed n false) (λ c. refl) k u
step-field read graph s (steps.Gather t n m) k u l = refl
step-field read graph s (steps.Evaluate t n) k u l = with_call-keeps read (with_cell s n (keep_found (found_now graph s t n))) t counted (λ c. refl) k u
step-field read graph s (steps.Body t n) k u l = refl
step-field read graph s (steps.Resolve t n) k u l = with_call-keeps read (with_cell s n (set_state t (Done (value_now graph s t n) (is_change graph s t n) (found_picks s n)))) t (closed n (is_change graph s t n)) (λ c. refl) (k (is_change graph s t n)) u
step-field read graph s (steps.Discover t n c) k u l =
    let q = with_cell (ensure_mark s t c) c (add_edge n t) in
    map_call-keeps read q (tell_call (entries q c) t n) (λ x. refl) (k (entries q c)) u ∙ ensured read s t c u
step-field read graph s (steps.Drop t n o) k u l = ensured read s t o u
step-field read graph s (steps.Mark t m) k u l = refl
step-field read graph s (steps.Look t) k u l = with_call-keeps read s t (with_look (look_value s t (next_look s t))) (λ c. refl) (k (look_value s t (next_look s t))) u
step-field {A} read graph s (steps.End t) k u l = go (cases_Bool (u == t))
  where
    go : ((u == t) ≡ true) ⊎ ((u == t) ≡ false) → read (call (apply graph s (steps.End t)) u) ≡ read (call s u)
    go (inl e) = absurd (both_ways _ (subst (λ (v : ℕ). live (apply graph s (steps.End t)) v ≡ false) (sym (eqb-true u t e)) (ap is_some (without_call-same t s.calls))) l)
    go (inr e) = ap (λ (o : Option LiveCall). read (call_or o)) (without_call-other t u s.calls (λ x. both_ways _ e (eq-eqb u t x)))
step-field read graph s (steps.Collect n) k u l = refl

-- The step looks.
abbrev pub IsLook : Step → Type 0
IsLook (steps.Look t) = Unit {0}
IsLook step = ⊥

pub looked-stays : (step : Step) → (IsLook step → ⊥) → FieldStays (λ c. c.looked) step
looked-stays (steps.Frame t n) k = λ m outs c. refl
looked-stays (steps.Start t) k = λ c. refl
looked-stays (steps.Skip t n) k = λ c. refl
looked-stays (steps.Gather t n m) k = tt
looked-stays (steps.Evaluate t n) k = λ c. refl
looked-stays (steps.Body t n) k = tt
looked-stays (steps.Resolve t n) k = λ b c. refl
looked-stays (steps.Discover t n m) k = λ es c. refl
looked-stays (steps.Drop t n m) k = tt
looked-stays (steps.Mark t m) k = tt
looked-stays (steps.Look t) k = absurd (k tt)
looked-stays (steps.End t) k = tt
looked-stays (steps.Collect n) k = tt

-- The step counts an evaluation.
abbrev pub IsEvaluate : Step → Type 0
IsEvaluate (steps.Evaluate t n) = Unit {0}
IsEvaluate step = ⊥

pub evaluated-stays : (step : Step) → (IsEvaluate step → ⊥) → FieldStays (λ c. c.evaluated) step
evaluated-stays (steps.Frame t n) k = λ m outs c. refl
evaluated-stays (steps.Start t) k = λ c. refl
evaluated-stays (steps.Skip t n) k = λ c. refl
evaluated-stays (steps.Gather t n m) k = tt
evaluated-stays (steps.Evaluate t n) k = absurd (k tt)
evaluated-stays (steps.Body t n) k = tt
evaluated-stays (steps.Resolve t n) k = λ b c. refl
evaluated-stays (steps.Discover t n m) k = λ es c. refl
evaluated-stays (steps.Drop t n m) k = tt
evaluated-stays (steps.Mark t m) k = tt
evaluated-stays (steps.Look t) k = λ v c. refl
evaluated-stays (steps.End t) k = tt
evaluated-stays (steps.Collect n) k = tt

-- The step is a Resolve.
abbrev pub IsResolve : Step → Type 0
IsResolve (steps.Resolve t n) = Unit {0}
IsResolve step = ⊥

pub changed-stays : (step : Step) → (IsResolve step → ⊥) → FieldStays (λ c. c.changed) step
changed-stays (steps.Frame t n) k = λ m outs c. refl
changed-stays (steps.Start t) k = λ c. refl
changed-stays (steps.Skip t n) k = λ c. refl
changed-stays (steps.Gather t n m) k = tt
changed-stays (steps.Evaluate t n) k = λ c. refl
changed-stays (steps.Body t n) k = tt
changed-stays (steps.Resolve t n) k = absurd (k tt)
changed-stays (steps.Discover t n m) k = λ es c. refl
changed-stays (steps.Drop t n m) k = tt
changed-stays (steps.Mark t m) k = tt
changed-stays (steps.Look t) k = λ v c. refl
changed-stays (steps.End t) k = tt
changed-stays (steps.Collect n) k = tt

-- what a call sets and looks at
pub sets-stay : (step : Step) → FieldStays (λ c. c.sets) step
sets-stay (steps.Frame t n) = λ m outs c. refl
sets-stay (steps.Start t) = λ c. refl
sets-stay (steps.Skip t n) = λ c. refl
sets-stay (steps.Gather t n m) = tt
sets-stay (steps.Evaluate t n) = λ c. refl
sets-stay (steps.Body t n) = tt
sets-stay (steps.Resolve t n) = λ b c. refl
sets-stay (steps.Discover t n m) = λ es c. refl
sets-stay (steps.Drop t n m) = tt
sets-stay (steps.Mark t m) = tt
sets-stay (steps.Look t) = λ v c. refl
sets-stay (steps.End t) = tt
sets-stay (steps.Collect n) = tt

pub looks-stay : (step : Step) → FieldStays (λ c. c.looks) step
looks-stay (steps.Frame t n) = λ m outs c. refl
looks-stay (steps.Start t) = λ c. refl
looks-stay (steps.Skip t n) = λ c. refl
looks-stay (steps.Gather t n m) = tt
looks-stay (steps.Evaluate t n) = λ c. refl
looks-stay (steps.Body t n) = tt
looks-stay (steps.Resolve t n) = λ b c. refl
looks-stay (steps.Discover t n m) = λ es c. refl
looks-stay (steps.Drop t n m) = tt
looks-stay (steps.Mark t m) = tt
looks-stay (steps.Look t) = λ v c. refl
looks-stay (steps.End t) = tt
looks-stay (steps.Collect n) = tt

-- ---- what is kept at nodes

-- The step changes what is kept at a node.
abbrev pub IsWork : Step → Type 0
IsWork (steps.Gather t n m) = Unit {0}
IsWork (steps.Evaluate t n) = Unit {0}
IsWork (steps.Body t n) = Unit {0}
IsWork (steps.Resolve t n) = Unit {0}
IsWork step = ⊥

works-not : (step : Step) → (IsWork step → ⊥) → works step ≡ false
works-not (steps.Frame t n) k = refl
works-not (steps.Start t) k = refl
works-not (steps.Skip t n) k = refl
works-not (steps.Gather t n m) k = absurd (k tt)
works-not (steps.Evaluate t n) k = absurd (k tt)
works-not (steps.Body t n) k = absurd (k tt)
works-not (steps.Resolve t n) k = absurd (k tt)
works-not (steps.Discover t n m) k = refl
works-not (steps.Drop t n m) k = refl
works-not (steps.Mark t n) k = refl
works-not (steps.Look t) k = refl
works-not (steps.End t) k = refl
works-not (steps.Collect n) k = refl

pub step-work : (graph : Graph) (s : Core) (step : Step) → (IsWork step → ⊥) → (n : ℕ) → SameWork s (apply graph s step) n
step-work graph s step k n = quiet-work graph s step (works-not step k) n
