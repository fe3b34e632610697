-- Work is due at open nodes alone, so what a node asks for is decided over these; and a call that ends has taken all its looks.
use Rattle.std.proofs.Common.{◌≡◌, ℕ, zero, suc, ◌≤◌, Bool, true, ◌&&◌, not, ◌||◌, refl, sym, ap, arith, List, [], ◌∷◌, length, slice_get, true≢false, ◌∙◌}
use Rattle.std.proofs.lemmas.List.{length-map}
use Rattle.std.specs.Prelude.{is_none}
use Rattle.std.specs.List.{list_any}
use Rattle.std.specs.Cmp.{both_ways}
use Rattle.script_tree.proofs.Truths.{and_left, and_right}
use Rattle.signal_graph.specs.declared.call.Call.{Call}
use Rattle.signal_graph.specs.declared.call.Call.TheVariants.{Fire as Fires, Read as Reads}
use Rattle.signal_graph.specs.Graph.{Graph, number_of, numbers}
use Rattle.signal_graph.specs.Machine.{looks_of, looks_of_reply}
use Rattle.node_versions.specs.Entries.{has}
use Rattle.flow_model.specs.declared.step.Step.TheVariants as steps
use Rattle.flow_model.specs.Machine.State.{Core, call, live, executes, opens, entries}
use Rattle.flow_model.specs.Machine.Words.{due, next_look, has_room, is_idle, is_some_of}
use Rattle.flow_model.specs.Machine.Steps.{allowed, asks_for, reply_of}
use Rattle.flow_model.specs.Kept.Lawful.{IsLawful}
use Rattle.flow_model.proofs.OneStep.WhoMayStep.{executes-live, idle-executes, end-idle, due-can_work, can_work-at_front, at_front-heads}
use Rattle.flow_model.proofs.Wants.FramedWith.{heads-opens}
use Rattle.flow_model.proofs.General.AnyAndAll.{any-in}
use Rattle.flow_model.proofs.General.Counting.{some-member, in-numbers}
use Rattle.flow_model.proofs.Known.Bounds.{opens-node}

-- ---- what is decided over open nodes

-- Work is due where the node is open for the call.
pub due-opens : (graph : Graph) (s : Core) → IsLawful graph s → (t n : ℕ) → due graph s t n ≡ true → opens s t n ≡ true
due-opens graph s h t n d = heads-opens graph s h t n (at_front-heads graph s t n (can_work-at_front graph s t n (due-can_work graph s t n d)))

-- Whether any node asks for m is decided over the call's open nodes.
pub asks-over_open : (graph : Graph) (s : Core) → IsLawful graph s → (t m : ℕ) → list_any (asks_for graph s t m) (numbers graph) ≡ list_any (asks_for graph s t m) (call s t).open_nodes
asks-over_open graph s h t m = both_ways _ _ to from
  where
    to : list_any (asks_for graph s t m) (numbers graph) ≡ true → list_any (asks_for graph s t m) (call s t).open_nodes ≡ true
    to a = let x = some-member (asks_for graph s t m) (numbers graph) a in any-in (asks_for graph s t m) (call s t).open_nodes x.it (due-opens graph s h t x.it (and_left _ _ x.passes)) x.passes

    from : list_any (asks_for graph s t m) (call s t).open_nodes ≡ true → list_any (asks_for graph s t m) (numbers graph) ≡ true
    from a =
        let x = some-member (asks_for graph s t m) (call s t).open_nodes a in
        let l = opens-node graph s h t x.it x.member in
        any-in (asks_for graph s t m) (numbers graph) x.it (in-numbers 0 graph.nodes x.it (omega arith) (omega (arith, l))) x.passes

pub mark-over_open : (graph : Graph) (s : Core) → IsLawful graph s → (t m : ℕ)
    → allowed graph s (steps.Mark t m) ≡ (executes s t && not (has (entries s m) t) && has_room s m && (list_any (asks_for graph s t m) (call s t).open_nodes || (is_idle s t && is_some_of (next_look s t) m)))
mark-over_open graph s h t m = ap (λ (b : Bool). executes s t && not (has (entries s m) t) && has_room s m && (b || (is_idle s t && is_some_of (next_look s t) m))) (asks-over_open graph s h t m)

-- ---- what a call that ends has looked at

all-looked : (xs : List ℕ) (k : ℕ) → is_none (slice_get xs k) ≡ true → k ≤ length xs → k ≡ length xs
all-looked [] zero h l = refl
all-looked [] (suc k) h l = absurd (omega (arith, l))
all-looked (x ∷ xs) zero h l = absurd (true≢false (sym h))
all-looked (x ∷ xs) (suc k) h l = ap suc (all-looked xs k h (omega (arith, l)))

pub end-looks : (graph : Graph) (s : Core) → IsLawful graph s → (t : ℕ) → allowed graph s (steps.End t) ≡ true → length (looks_of_reply (reply_of (call s t) (call s t).call)) ≡ length (looks_of (call s t).call)
end-looks graph s h t a = ap length (replied (call s t).call) ∙ all-looked (call s t).looks (length (call s t).looked) (and_right _ _ (and_left _ _ a)) (h.looks_are_few t lt)
    ∙ ap length (h.calls_are_right t lt).looks ∙ length-map (looks_of (call s t).call) (number_of graph)
  where
    lt : live s t ≡ true
    lt = executes-live s t (idle-executes s t (end-idle graph s t a))

    replied : (c : Call) → looks_of_reply (reply_of (call s t) c) ≡ (call s t).looked
    replied (Fires sets looks) = refl
    replied (Reads looks) = refl
