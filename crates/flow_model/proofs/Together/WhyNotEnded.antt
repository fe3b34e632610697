-- Of a live call of a lawful state no cause is named exactly where it can end.
use Rattle.std.proofs.Common.{◌≡◌, ℕ, Bool, true, false, not, ◌&&◌, ◌||◌, ◌⊎◌, inl, inr, List, [], ◌∷◌, Option, Some, None, refl, sym, ap, ◌∙◌, subst, arith}
use Rattle.std.proofs.lemmas.Bool.{or_cases, and_from, false_from_ne_true, both_ways, cases_Bool}
use Rattle.std.specs.Prelude.{is_none, option_map}
use Rattle.std.specs.List.{list_any}
use Rattle.script_tree.specs.declared.value.Value.{Value}
use Rattle.signal_graph.specs.Graph.{Graph, is_in}
use Rattle.order_graph.specs.Order.{is_recorded}
use Rattle.node_versions.specs.Entries.{at, is_frame}
use Rattle.flow_model.specs.declared.step.Cause.TheVariants.{Before, Unfinished}
use Rattle.flow_model.specs.declared.step.Step.TheVariants as steps
use Rattle.flow_model.specs.Machine.Lists.{is_empty}
use Rattle.flow_model.specs.Machine.Sets.{least}
use Rattle.flow_model.specs.Machine.State.{Core, LiveCall, call, live, executes, is_framing, wants, entries}
use Rattle.flow_model.specs.Machine.Words.{next_look}
use Rattle.flow_model.specs.Machine.Steps.{allowed, any_before, nodes_set}
use Rattle.flow_model.specs.Machine.Next.{first_cause, least_version, lesser, why_not_ended}
use Rattle.flow_model.specs.Kept.Runs.{framed}
use Rattle.flow_model.specs.Kept.Lawful.{IsLawful}
use Rattle.flow_model.proofs.Ended.AfterEnd.{empty-none, framed-done}

-- ---- the first of four causes

none-cause : (before wanted opened next : Option ℕ)
    → is_none (first_cause (
    option_map Before before ∷ option_map Unfinished wanted ∷ option_map Unfinished opened ∷ option_map Unfinished next ∷ []))
    ≡ (((is_none wanted && is_none opened) && is_none next) && is_none before)
none-cause None None None None = refl
none-cause None None None (Some d) = refl
none-cause None None (Some c) None = refl
none-cause None None (Some c) (Some d) = refl
none-cause None (Some b) None None = refl
none-cause None (Some b) None (Some d) = refl
none-cause None (Some b) (Some c) None = refl
none-cause None (Some b) (Some c) (Some d) = refl
none-cause (Some a) None None None = refl
none-cause (Some a) None None (Some d) = refl
none-cause (Some a) None (Some c) None = refl
none-cause (Some a) None (Some c) (Some d) = refl
none-cause (Some a) (Some b) None None = refl
none-cause (Some a) (Some b) None (Some d) = refl
none-cause (Some a) (Some b) (Some c) None = refl
none-cause (Some a) (Some b) (Some c) (Some d) = refl

none-first : (xs : List ℕ) → is_none (least xs) ≡ is_empty xs
none-first [] = refl
none-first (x ∷ xs) = refl

pub none-least : (test : LiveCall → Bool) (cs : List LiveCall) → is_none (least_version test cs) ≡ not (list_any test cs)
none-least test [] = refl
none-least test (c ∷ cs) = go (test c) (none-least test cs)
  where
    go : (b : Bool) → is_none (least_version test cs) ≡ not (list_any test cs)
        → is_none (elim b as (λ _. Option ℕ) [
          | true ↦ Some (lesser c.version (least_version test cs))
          | false ↦ least_version test cs
        ]) ≡ not (b || list_any test cs)
    go true r = refl
    go false r = r

-- What a call has left to do is named.
causes-are : (s : Core) (t : ℕ) → is_none (why_not_ended s t)
    ≡ (((is_empty (call s t).wanted && is_empty (call s t).open_nodes) && is_none (next_look s t)) && not (any_before s t))
causes-are s t =
    let before = λ (c : LiveCall). is_recorded s.pairs c.version t in
    none-cause (least_version before s.calls) (least (call s t).wanted) (least (call s t).open_nodes) (next_look s t)
    ∙ (λ i. ((none-first (call s t).wanted i && none-first (call s t).open_nodes i) && is_none (next_look s t))
    && none-least before s.calls i)

-- ---- where it can end

pub end-executing : (graph : Graph) (s : Core) (t : ℕ)
    → allowed graph s (steps.End t) ≡ (executes s t && is_none (why_not_ended s t))
end-executing graph s t = regroup (executes s t) _ _ _ _ ∙ ap (λ (b : Bool). executes s t && b) (sym (causes-are s t))
  where
    regroup : (x w o n b : Bool) → ((((x && w) && o) && n) && b) ≡ (x && (((w && o) && n) && b))
    regroup true w o n b = refl
    regroup false w o n b = refl

-- A call that frames has something left to frame, or open: it sets something, and has finished nowhere.
framing-unfinished : (graph : Graph) (s : Core) → IsLawful graph s → (t : ℕ) → is_framing s t ≡ true → live s t ≡ true
    → executes s t ≡ false → is_empty (call s t).wanted ≡ true → is_empty (call s t).open_nodes ≡ true → ⊥
framing-unfinished graph s h t f l x w o = go (call s t).sets refl
  where
    go : (xs : List (ℕ × Value)) → (call s t).sets ≡ xs → ⊥
    go [] e = both_ways _ x ((h.calls_are_right t l).executing e)
    go (p ∷ ps) e = cases (or_cases _ _ spread)
      where
        set : is_in p.0 (nodes_set (call s t).sets) ≡ true
        set = subst (λ (xs : List (ℕ × Value)). is_in p.0 (nodes_set xs) ≡ true) (sym e) (grind arith)

        spread : (framed s t p.0 || wants s t p.0) ≡ true
        spread = h.changes_spread.set t p.0 l set

        cases : (framed s t p.0 ≡ true) ⊎ (wants s t p.0 ≡ true) → ⊥
        cases (inl k) = both_ways _ (h.framing_comes_last.no_done t p.0 f) (framed-done s t p.0 k closed)
          where
            closed : at is_frame (entries s p.0) t ≡ false
            closed = sym (h.frames_are_open.opens_frames t p.0) ∙ empty-none (call s t).open_nodes p.0 o
        cases (inr k) = both_ways _ (empty-none (call s t).wanted p.0 w) k

pub end-live : (graph : Graph) (s : Core) → IsLawful graph s → (t : ℕ) → live s t ≡ true
    → allowed graph s (steps.End t) ≡ is_none (why_not_ended s t)
end-live graph s h t l = go (cases_Bool (executes s t))
  where
    go : (executes s t ≡ true) ⊎ (executes s t ≡ false) → allowed graph s (steps.End t) ≡ is_none (why_not_ended s t)
    go (inl x) = end-executing graph s t ∙ ap (λ (b : Bool). b && is_none (why_not_ended s t)) x
    go (inr x) = end-executing graph s t ∙ ap (λ (b : Bool). b && is_none (why_not_ended s t)) x
        ∙ sym (false_from_ne_true (is_none (why_not_ended s t)) (λ k. unfinished (sym (causes-are s t) ∙ k)))
      where
        unfinished : (((is_empty (call s t).wanted && is_empty (call s t).open_nodes) && is_none (next_look s t)) && not (any_before s t))
            ≡ true → ⊥
        unfinished k = framing-unfinished graph s h t (and_from _ _ l (ap not x)) l x (grind (arith, k)) (grind (arith, k))
