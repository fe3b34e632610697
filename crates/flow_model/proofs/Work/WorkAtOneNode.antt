-- The work at one node stays kept through each step that gathers, evaluates or leaves what is there.
use Rattle.std.proofs.Common.{◌≡◌, ℕ, Bool, true, false, ◌||◌, ◌==◌, ◌⊎◌, inl, inr, refl, sym, ap, List, [], ◌∷◌, ◌++◌, true≢false, ◌∙◌, subst, Option, Some, None}
use Rattle.std.proofs.lemmas.Bool.{or_cases, or_left, and_parts, and_from, eqb-true, both_ways, not-true}
use Rattle.std.specs.Prelude.{is_some, is_none}
use Rattle.std.specs.List.{list_all}
use Rattle.script_tree.specs.declared.value.Value.{Value}
use Rattle.script_tree.proofs.Truths.{and_left, and_right}
use Rattle.signal_graph.specs.Graph.{Graph, is_in, node_at, inputs_of}
use Rattle.signal_graph.specs.Values.{nodes_in}
use Rattle.node_versions.specs.Entries.{last_done, first_open}
use Rattle.flow_model.specs.declared.step.Step.{Step}
use Rattle.flow_model.specs.declared.step.Step.TheVariants as steps
use Rattle.flow_model.specs.Machine.State.{Core, Cell, Found, cell, executes, entries}
use Rattle.flow_model.specs.Machine.Words.{heads, touched, due, at_front, gathered_of, is_gathered, is_found, picks_of_found, is_candidate, found_candidates}
use Rattle.flow_model.specs.Machine.Steps.{allowed, apply, all_gathered, gather, keep_found, keep_body}
use Rattle.flow_model.specs.Kept.Lawful.{IsLawful, IsWorking, SomeHead}
use Rattle.flow_model.proofs.OneStep.WhoMayStep.{due-can_work, can_work-at_front, at_front-heads}
use Rattle.flow_model.proofs.OrderStays.NoFrameBeforeDones.{head-first}
use Rattle.flow_model.proofs.OneStep.QuietSteps.{finishes, step-quiet, SameWork}
use Rattle.flow_model.proofs.OneStep.FirstOpenCalls.{quiet-last_done, quiet-head}
use Rattle.flow_model.proofs.General.AnyAndAll.{is-some}
use Rattle.flow_model.proofs.Work.StillWorking.{front-working, still-working}

-- ---- the work at one node

pub record WorkAt (graph : Graph) (s : Core) (n : ℕ) : Type 0 where
  pub gathers : (m : ℕ) → is_gathered s n m ≡ true → SomeHead s n (IsWorking graph s n)
  pub gathers_right : (m : ℕ) → is_gathered s n m ≡ true → (is_in m (inputs_of (node_at graph n)) || is_candidate s n m) ≡ true
  pub finds : is_found s n ≡ true → SomeHead s n (IsWorking graph s n)
  pub finds_last : is_found s n ≡ true → all_gathered s n (inputs_of (node_at graph n)) ≡ true
  pub bodies : is_none (cell s n).body ≡ false → (is_found s n ≡ true) × (all_gathered s n (found_candidates s n) ≡ true)

pub lawful-at : (graph : Graph) (s : Core) → IsLawful graph s → (n : ℕ) → WorkAt graph s n
lawful-at graph s h n = record { gathers = h.work_is_kept.gathers n; gathers_right = h.work_is_kept.gathers_right n; finds = h.work_is_kept.finds n; finds_last = h.work_is_kept.finds_last n; bodies = h.work_is_kept.bodies n }

-- The first open call that works at the node is the first there after the step, and works on.
abbrev pub Still : Graph → Core → Core → ℕ → Type 0
Still graph s q n = (u : ℕ) → heads s u n ≡ true → IsWorking graph s n u → (heads q u n ≡ true) × IsWorking graph q n u

still-some : (graph : Graph) (s q : Core) (n : ℕ) → Still graph s q n → SomeHead s n (IsWorking graph s n) → SomeHead q n (IsWorking graph q n)
still-some graph s q n f k = let w = f k.head k.first k.holds in record { head = k.head; first = w.0; holds = w.1 }

still-from : (graph : Graph) (s : Core) (step : Step) → IsLawful graph s → allowed graph s step ≡ true → (n : ℕ)
    → ((u : ℕ) → executes s u ≡ true → heads s u n ≡ true → first_open (entries (apply graph s step) n) ≡ Some u) → last_done (entries (apply graph s step) n) ≡ last_done (entries s n) → Still graph s (apply graph s step) n
still-from graph s step h a n first last u hd w = let f = first u w.executing hd in (is-some _ u f, still-working graph s step h a u n hd w f last)

pub quiet-still : (graph : Graph) (s : Core) (step : Step) → IsLawful graph s → allowed graph s step ≡ true → finishes step ≡ false → (n : ℕ) → Still graph s (apply graph s step) n
quiet-still graph s step h a f n =
    let l = step-quiet graph s step h a f n in
    still-from graph s step h a n (λ u x hd. quiet-head graph s h n (entries (apply graph s step) n) l u x hd) (quiet-last_done graph s h n (entries (apply graph s step) n) l)

pub same-still : (graph : Graph) (s : Core) (step : Step) → IsLawful graph s → allowed graph s step ≡ true → (n : ℕ) → entries (apply graph s step) n ≡ entries s n → Still graph s (apply graph s step) n
same-still graph s step h a n e = still-from graph s step h a n (λ u x hd. ap first_open e ∙ head-first (entries s n) u hd) (ap last_done e)

-- the same work
pub kept-at : (graph : Graph) (s q : Core) (n : ℕ) → SameWork s q n → Still graph s q n → WorkAt graph s n → WorkAt graph q n
kept-at graph s q n e f w = record {
  gathers = λ m k. still-some graph s q n f (w.gathers m (back m k));
  gathers_right = λ m k. subst (λ (o : Option Found). (is_in m (inputs_of (node_at graph n)) || is_in m (nodes_in (picks_of_found o))) ≡ true) (sym e.found) (w.gathers_right m (back m k));
  finds = λ k. still-some graph s q n f (w.finds (sym found ∙ k));
  finds_last = λ k. all (inputs_of (node_at graph n)) (w.finds_last (sym found ∙ k));
  bodies = λ k. let b = w.bodies (sym (ap (λ (o : Option Value). is_none o) e.body) ∙ k) in (found ∙ b.0, subst (λ (o : Option Found). all_gathered q n (nodes_in (picks_of_found o)) ≡ true) (sym e.found) (all (found_candidates s n) b.1));
}
  where
    back : (m : ℕ) → is_gathered q n m ≡ true → is_gathered s n m ≡ true
    back m k = subst (λ (g : List (ℕ × Value)). is_some (gathered_of m g) ≡ true) e.gathered k

    found : is_found q n ≡ is_found s n
    found = ap (λ (o : Option Found). is_some o) e.found

    all : (ms : List ℕ) → all_gathered s n ms ≡ true → all_gathered q n ms ≡ true
    all ms k = subst (λ (g : List (ℕ × Value)). list_all (λ m. is_some (gathered_of m g)) ms ≡ true) (sym e.gathered) k

-- no work
pub empty-at : (graph : Graph) (q : Core) (n : ℕ) → (cell q n).gathered ≡ [] → (cell q n).found ≡ None → (cell q n).body ≡ None → WorkAt graph q n
empty-at graph q n g f b = record {
  gathers = λ m k. absurd (no_gathered m k);
  gathers_right = λ m k. absurd (no_gathered m k);
  finds = λ k. absurd (no_found k);
  finds_last = λ k. absurd (no_found k);
  bodies = λ k. absurd (true≢false (sym (ap (λ (o : Option Value). is_none o) b) ∙ k));
}
  where
    no_gathered : (m : ℕ) → is_gathered q n m ≡ true → ⊥
    no_gathered m k = true≢false (sym (subst (λ (x : List (ℕ × Value)). is_some (gathered_of m x) ≡ true) g k))

    no_found : is_found q n ≡ true → ⊥
    no_found k = true≢false (sym (subst (λ (o : Option Found). is_some o ≡ true) f k))

-- ---- Gather

gathered-more : (m i : ℕ) (v : Value) (ps : List (ℕ × Value)) → is_some (gathered_of m (ps ++ (i, v) ∷ [])) ≡ (is_some (gathered_of m ps) || (i == m))
gathered-more m i v [] = go (i == m)
  where
    go : (b : Bool) → is_some (elim b as (λ _. Option Value) [ true ↦ Some v | false ↦ None ]) ≡ b
    go true = refl
    go false = refl
gathered-more m i v (p ∷ ps) = go (p.0 == m) (gathered-more m i v ps)
  where
    go : (b : Bool) → is_some (gathered_of m (ps ++ (i, v) ∷ [])) ≡ (is_some (gathered_of m ps) || (i == m))
        → is_some (elim b as (λ _. Option Value) [ true ↦ Some p.1 | false ↦ gathered_of m (ps ++ (i, v) ∷ []) ]) ≡ (is_some (elim b as (λ _. Option Value) [ true ↦ Some p.1 | false ↦ gathered_of m ps ]) || (i == m))
    go true r = refl
    go false r = r

all-more : (test test2 : ℕ → Bool) (ms : List ℕ) → ((m : ℕ) → test m ≡ true → test2 m ≡ true) → list_all test ms ≡ true → list_all test2 ms ≡ true
all-more test test2 [] f h = refl
all-more test test2 (m ∷ ms) f h = let b = and_parts (test m) (list_all test ms) h in and_from (test2 m) (list_all test2 ms) (f m b.0) (all-more test test2 ms f b.1)

pub gather-asked : (graph : Graph) (s : Core) (t n i : ℕ) → allowed graph s (steps.Gather t n i) ≡ true → (is_in i (inputs_of (node_at graph n)) || is_candidate s n i) ≡ true
gather-asked graph s t n i a = and_right _ _ (and_left _ _ (and_left _ _ a))

due-touched : (graph : Graph) (s : Core) (t n : ℕ) → due graph s t n ≡ true → touched graph s t n ≡ true
due-touched graph s t n d = and_right _ _ d

pub gathered-at : (graph : Graph) (s q : Core) → IsLawful graph s → (t n i : ℕ) (v : Value) → due graph s t n ≡ true → (is_in i (inputs_of (node_at graph n)) || is_candidate s n i) ≡ true → Still graph s q n → cell q n ≡ gather i v (cell s n) → WorkAt graph q n
gathered-at graph s q h t n i v d asked f e = record {
  gathers = λ m k. still-some graph s q n f here;
  gathers_right = λ m k. subst (λ (o : Option Found). (is_in m (inputs_of (node_at graph n)) || is_in m (nodes_in (picks_of_found o))) ≡ true) (sym found) (right m (or_cases _ _ (sym (now m) ∙ k)));
  finds = λ k. still-some graph s q n f here;
  finds_last = λ k. all (inputs_of (node_at graph n)) (h.work_is_kept.finds_last n (sym (ap (λ (o : Option Found). is_some o) found) ∙ k));
  bodies = λ k. let b = h.work_is_kept.bodies n (sym (ap (λ (c : Cell). is_none c.body) e) ∙ k) in (ap (λ (o : Option Found). is_some o) found ∙ b.0, subst (λ (o : Option Found). all_gathered q n (nodes_in (picks_of_found o)) ≡ true) (sym found) (all (found_candidates s n) b.1));
}
  where
    found : (cell q n).found ≡ (cell s n).found
    found = ap (λ (c : Cell). c.found) e

    front : at_front graph s t n ≡ true
    front = can_work-at_front graph s t n (due-can_work graph s t n d)

    here : SomeHead s n (IsWorking graph s n)
    here = record { head = t; first = at_front-heads graph s t n front; holds = front-working graph s h t n front (due-touched graph s t n d) }

    now : (m : ℕ) → is_gathered q n m ≡ (is_gathered s n m || (i == m))
    now m = ap (λ (c : Cell). is_some (gathered_of m c.gathered)) e ∙ gathered-more m i v (cell s n).gathered

    right : (m : ℕ) → (is_gathered s n m ≡ true) ⊎ ((i == m) ≡ true) → (is_in m (inputs_of (node_at graph n)) || is_candidate s n m) ≡ true
    right m (inl k) = h.work_is_kept.gathers_right n m k
    right m (inr k) = subst (λ (j : ℕ). (is_in j (inputs_of (node_at graph n)) || is_candidate s n j) ≡ true) (eqb-true i m k) asked

    all : (ms : List ℕ) → all_gathered s n ms ≡ true → all_gathered q n ms ≡ true
    all ms k = all-more (is_gathered s n) (is_gathered q n) ms (λ m g. now m ∙ or_left _ _ g) k

-- ---- Evaluate

pub evaluate-touched : (graph : Graph) (s : Core) (t n : ℕ) → allowed graph s (steps.Evaluate t n) ≡ true → touched graph s t n ≡ true
evaluate-touched graph s t n a = and_right _ _ (and_left _ _ (and_left _ _ a))

pub evaluate-gathered : (graph : Graph) (s : Core) (t n : ℕ) → allowed graph s (steps.Evaluate t n) ≡ true → all_gathered s n (inputs_of (node_at graph n)) ≡ true
evaluate-gathered graph s t n a = and_right _ _ (and_left _ _ a)

pub evaluate-not_found : (graph : Graph) (s : Core) (t n : ℕ) → allowed graph s (steps.Evaluate t n) ≡ true → is_found s n ≡ false
evaluate-not_found graph s t n a = not-true _ (and_right _ _ a)

no_candidate : (s : Core) (n m : ℕ) → is_found s n ≡ false → is_candidate s n m ≡ false
no_candidate s n m h = go (cell s n).found h
  where
    go : (o : Option Found) → is_some o ≡ false → is_in m (nodes_in (picks_of_found o)) ≡ false
    go None k = refl
    go (Some f) k = absurd (true≢false k)

pub evaluated-at : (graph : Graph) (s q : Core) → IsLawful graph s → (t n : ℕ) (x : Found) → at_front graph s t n ≡ true → touched graph s t n ≡ true → all_gathered s n (inputs_of (node_at graph n)) ≡ true → is_found s n ≡ false → Still graph s q n → cell q n ≡ keep_found x (cell s n) → WorkAt graph q n
evaluated-at graph s q h t n x front touch all none f e = record {
  gathers = λ m k. still-some graph s q n f here;
  gathers_right = λ m k. or_left _ _ (input m (or_cases _ _ (h.work_is_kept.gathers_right n m (back m k))));
  finds = λ k. still-some graph s q n f here;
  finds_last = λ k. subst (λ (g : List (ℕ × Value)). list_all (λ m. is_some (gathered_of m g)) (inputs_of (node_at graph n)) ≡ true) (sym gathered) all;
  bodies = λ k. absurd (both_ways _ none (h.work_is_kept.bodies n (sym (ap (λ (c : Cell). is_none c.body) e) ∙ k)).0);
}
  where
    gathered : (cell q n).gathered ≡ (cell s n).gathered
    gathered = ap (λ (c : Cell). c.gathered) e

    back : (m : ℕ) → is_gathered q n m ≡ true → is_gathered s n m ≡ true
    back m k = subst (λ (g : List (ℕ × Value)). is_some (gathered_of m g) ≡ true) gathered k

    here : SomeHead s n (IsWorking graph s n)
    here = record { head = t; first = at_front-heads graph s t n front; holds = front-working graph s h t n front touch }

    input : (m : ℕ) → (is_in m (inputs_of (node_at graph n)) ≡ true) ⊎ (is_candidate s n m ≡ true) → is_in m (inputs_of (node_at graph n)) ≡ true
    input m (inl k) = k
    input m (inr k) = absurd (both_ways _ (no_candidate s n m none) k)

-- ---- Body

pub body-found : (graph : Graph) (s : Core) (t n : ℕ) → allowed graph s (steps.Body t n) ≡ true → is_found s n ≡ true
body-found graph s t n a = and_right _ _ (and_left _ _ (and_left _ _ a))

pub body-gathered : (graph : Graph) (s : Core) (t n : ℕ) → allowed graph s (steps.Body t n) ≡ true → all_gathered s n (found_candidates s n) ≡ true
body-gathered graph s t n a = and_right _ _ (and_left _ _ a)

pub body-at : (graph : Graph) (s q : Core) → IsLawful graph s → (n : ℕ) (v : Value) → is_found s n ≡ true → all_gathered s n (found_candidates s n) ≡ true → Still graph s q n → cell q n ≡ keep_body v (cell s n) → WorkAt graph q n
body-at graph s q h n v found all f e = record {
  gathers = λ m k. still-some graph s q n f (h.work_is_kept.finds n found);
  gathers_right = λ m k. subst (λ (o : Option Found). (is_in m (inputs_of (node_at graph n)) || is_in m (nodes_in (picks_of_found o))) ≡ true) (sym same) (h.work_is_kept.gathers_right n m (subst (λ (g : List (ℕ × Value)). is_some (gathered_of m g) ≡ true) gathered k));
  finds = λ k. still-some graph s q n f (h.work_is_kept.finds n found);
  finds_last = λ k. on (inputs_of (node_at graph n)) (h.work_is_kept.finds_last n found);
  bodies = λ k. (ap (λ (o : Option Found). is_some o) same ∙ found, subst (λ (o : Option Found). all_gathered q n (nodes_in (picks_of_found o)) ≡ true) (sym same) (on (found_candidates s n) all));
}
  where
    same : (cell q n).found ≡ (cell s n).found
    same = ap (λ (c : Cell). c.found) e

    gathered : (cell q n).gathered ≡ (cell s n).gathered
    gathered = ap (λ (c : Cell). c.gathered) e

    on : (ms : List ℕ) → all_gathered s n ms ≡ true → all_gathered q n ms ≡ true
    on ms k = subst (λ (g : List (ℕ × Value)). list_all (λ m. is_some (gathered_of m g)) ms ≡ true) (sym gathered) k
