-- The call of an allowed step lives, and wants the node, frames, executes or can work there, as the step asks.
use Rattle.std.proofs.Common.{◌≡◌, ℕ, Bool, true, false, ◌||◌, refl, sym, ap, arith, List, [], ◌∷◌, true≢false, ◌∙◌, Option, Some, None}
use Rattle.std.proofs.lemmas.Bool.{false_from_ne_true, not-true}
use Rattle.std.specs.Prelude.{is_some}
use Rattle.script_tree.proofs.Truths.{and_left, and_right}
use Rattle.signal_graph.specs.Graph.{Graph, is_in}
use Rattle.node_versions.specs.declared.entry.Entry.{Entry}
use Rattle.node_versions.specs.declared.entry.State.{State}
use Rattle.node_versions.specs.declared.entry.State.TheVariants.{Mark, Frame, Done}
use Rattle.node_versions.specs.Entries.{has, at, is_mark, is_frame, is_done}
use Rattle.flow_model.specs.declared.step.Step.TheVariants as steps
use Rattle.flow_model.specs.Machine.State.{Core, LiveCall, call, call_of, call_or, live, executes, is_framing, entries, wants, opens}
use Rattle.flow_model.specs.Machine.Words.{heads, at_front, can_work, due, is_idle}
use Rattle.flow_model.specs.Machine.Steps.{allowed}

-- Only a live call executes, wants and has open nodes.
reads-live : (reads : LiveCall → Bool) → (s : Core) (t : ℕ) → reads (call_or None) ≡ false → reads (call s t) ≡ true → live s t ≡ true
reads-live reads s t none h = go (call_of s.calls t) refl
  where
    go : (o : Option LiveCall) → call_of s.calls t ≡ o → live s t ≡ true
    go None e = absurd (true≢false (sym h ∙ ap (λ (o : Option LiveCall). reads (call_or o)) e ∙ none))
    go (Some c) e = ap is_some e

pub executes-live : (s : Core) (t : ℕ) → executes s t ≡ true → live s t ≡ true
executes-live s t h = reads-live (λ c. c.executing) s t refl h

pub wants-live : (s : Core) (t n : ℕ) → wants s t n ≡ true → live s t ≡ true
wants-live s t n h = reads-live (λ c. is_in n c.wanted) s t refl h

pub opens-live : (s : Core) (t n : ℕ) → opens s t n ≡ true → live s t ≡ true
opens-live s t n h = reads-live (λ c. is_in n c.open_nodes) s t refl h

pub is_framing-live : (s : Core) (t : ℕ) → is_framing s t ≡ true → live s t ≡ true
is_framing-live s t h = and_left _ _ h

pub at_front-executes : (graph : Graph) (s : Core) (t n : ℕ) → at_front graph s t n ≡ true → executes s t ≡ true
at_front-executes graph s t n h = and_left _ _ (and_left _ _ h)

pub at_front-heads : (graph : Graph) (s : Core) (t n : ℕ) → at_front graph s t n ≡ true → heads s t n ≡ true
at_front-heads graph s t n h = and_right _ _ (and_left _ _ h)

pub can_work-at_front : (graph : Graph) (s : Core) (t n : ℕ) → can_work graph s t n ≡ true → at_front graph s t n ≡ true
can_work-at_front graph s t n h = and_right _ _ h

pub due-can_work : (graph : Graph) (s : Core) (t n : ℕ) → due graph s t n ≡ true → can_work graph s t n ≡ true
due-can_work graph s t n h = and_left _ _ h

pub idle-executes : (s : Core) (t : ℕ) → is_idle s t ≡ true → executes s t ≡ true
idle-executes s t h = and_left _ _ (and_left _ _ h)

-- ---- the steps

pub frame-wants : (graph : Graph) (s : Core) (t n : ℕ) → allowed graph s (steps.Frame t n) ≡ true → wants s t n ≡ true
frame-wants graph s t n h = and_left _ _ h

pub start-is_framing : (graph : Graph) (s : Core) (t : ℕ) → allowed graph s (steps.Start t) ≡ true → is_framing s t ≡ true
start-is_framing graph s t h = and_left _ _ (and_left _ _ h)

pub skip-can_work : (graph : Graph) (s : Core) (t n : ℕ) → allowed graph s (steps.Skip t n) ≡ true → can_work graph s t n ≡ true
skip-can_work graph s t n h = and_left _ _ (and_left _ _ (and_left _ _ h))

pub gather-due : (graph : Graph) (s : Core) (t n m : ℕ) → allowed graph s (steps.Gather t n m) ≡ true → due graph s t n ≡ true
gather-due graph s t n m h = and_left _ _ (and_left _ _ (and_left _ _ h))

pub evaluate-at_front : (graph : Graph) (s : Core) (t n : ℕ) → allowed graph s (steps.Evaluate t n) ≡ true → at_front graph s t n ≡ true
evaluate-at_front graph s t n h = and_left _ _ (and_left _ _ (and_left _ _ h))

pub body-at_front : (graph : Graph) (s : Core) (t n : ℕ) → allowed graph s (steps.Body t n) ≡ true → at_front graph s t n ≡ true
body-at_front graph s t n h = and_left _ _ (and_left _ _ (and_left _ _ (and_left _ _ (and_left _ _ h))))

pub discover-due : (graph : Graph) (s : Core) (t n c : ℕ) → allowed graph s (steps.Discover t n c) ≡ true → due graph s t n ≡ true
discover-due graph s t n c h = and_left _ _ (and_left _ _ (and_left _ _ (and_left _ _ h)))

pub drop-due : (graph : Graph) (s : Core) (t n o : ℕ) → allowed graph s (steps.Drop t n o) ≡ true → due graph s t n ≡ true
drop-due graph s t n o h = and_left _ _ (and_left _ _ (and_left _ _ (and_left _ _ (and_left _ _ (and_left _ _ h)))))

pub resolve-can_work : (graph : Graph) (s : Core) (t n : ℕ) → allowed graph s (steps.Resolve t n) ≡ true → can_work graph s t n ≡ true
resolve-can_work graph s t n h = and_left _ _ (and_left _ _ h)

pub mark-executes : (graph : Graph) (s : Core) (t m : ℕ) → allowed graph s (steps.Mark t m) ≡ true → executes s t ≡ true
mark-executes graph s t m h = and_left _ _ (and_left _ _ (and_left _ _ h))

pub mark-no_entry : (graph : Graph) (s : Core) (t m : ℕ) → allowed graph s (steps.Mark t m) ≡ true → has (entries s m) t ≡ false
mark-no_entry graph s t m h = not-true _ (and_right _ _ (and_left _ _ (and_left _ _ h)))

pub look-idle : (graph : Graph) (s : Core) (t : ℕ) → allowed graph s (steps.Look t) ≡ true → is_idle s t ≡ true
look-idle graph s t h = and_left _ _ h

pub end-idle : (graph : Graph) (s : Core) (t : ℕ) → allowed graph s (steps.End t) ≡ true → is_idle s t ≡ true
end-idle graph s t h = and_left _ _ (and_left _ _ h)

-- An entry is a Mark, a Frame or a Done.
one_state : (x : State) → ((is_mark x || is_frame x) || is_done x) ≡ true
one_state Mark = refl
one_state Frame = refl
one_state (Done v c ps) = refl

has-states : (es : List Entry) (t : ℕ) → has es t ≡ true → ((at is_mark es t || at is_frame es t) || at is_done es t) ≡ true
has-states [] t h = h
has-states (e ∷ es) t h = let r = has-states es t in let o = one_state e.state in grind (arith, r, o)

pub no_states-none : (es : List Entry) (t : ℕ) → at is_mark es t ≡ false → at is_frame es t ≡ false → at is_done es t ≡ false → has es t ≡ false
no_states-none es t a b c = false_from_ne_true _ (λ h. let r = has-states es t h in grind (arith, a, b, c, r))
