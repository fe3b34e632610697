-- A node that is no choose has no picks before a call and finds no candidates, so that what it rests on are its inputs.
use Rattle.std.proofs.Common.{◌≡◌, ℕ, Bool, true, false, not, List, [], ◌∷◌, ◌++◌, find, refl, sym, ap, ◌∙◌, append-nil, drop, Option, None, true≢false}
use Rattle.std.specs.Prelude.{is_none, is_some, ◌||◌}
use Rattle.std.specs.List.{list_any}
use Rattle.std.proofs.lemmas.Bool.{or_left, eq-eqb}
use Rattle.signal_graph.specs.declared.node.Node.{Node}
use Rattle.signal_graph.specs.declared.node.Node.TheVariants.{Source, Signal, Fold, Choose}
use Rattle.script_tree.specs.Scripts.{Scripted}
use Rattle.signal_graph.specs.Graph.{Graph, node_at, is_in, inputs_of, selectors_of, body_of}
use Rattle.signal_graph.specs.Values.{nodes_in}
use Rattle.node_versions.specs.Entries.{Versions, picks_before}
use Rattle.flow_model.specs.declared.step.Step.TheVariants.{Resolve}
use Rattle.flow_model.specs.declared.step.Turn.TheVariants as turn
use Rattle.flow_model.specs.Machine.State.{Core, cell, opens, changes}
use Rattle.flow_model.specs.Machine.Words.{is_gathered, found_candidates, is_candidate}
use Rattle.flow_model.specs.Machine.Steps.{has_body_value}
use Rattle.flow_model.specs.Machine.Next.{first_of}
use Rattle.flow_model.specs.Kept.Lawful.{SomeHead, lists_candidate}
use Rattle.flow_model.specs.Parts.Books.{bare}
use Rattle.flow_model.proofs.Wants.EarlierNodes.{prior-listed}
use Rattle.flow_model.proofs.Edges.EdgesFitCandidates.{candidate-listed}
use Rattle.flow_state.specs.Booked.{Booked}
use Rattle.step_rules.specs.Fits.{IsWholeOf}
use Rattle.step_rules.specs.Points.{picked_in, points_in, open_given, is_new_in, is_held_in}
use Rattle.step_rules.specs.Rests.{AreBelow, is_choose}
use Rattle.step_rules.proofs.Inside.{is-list, open-below, found-state, found-some}
use Rattle.step_rules.proofs.Turns.{new-miss, candidate-miss, body-miss, held-miss}

-- only a choose lists candidates, and only a choose has a body
listed-none : (node : Node) (m : ℕ) → is_choose node ≡ false → lists_candidate m (selectors_of node) ≡ true → ⊥
listed-none (Source v) m p h = true≢false (sym h)
listed-none (Signal script inputs) m p h = true≢false (sym h)
listed-none (Fold v script inputs) m p h = true≢false (sym h)
listed-none (Choose selectors body inputs) m p h = true≢false p

body-none : (node : Node) → is_choose node ≡ false → body_of node ≡ None
body-none (Source v) p = refl
body-none (Signal script inputs) p = refl
body-none (Fold v script inputs) p = refl
body-none (Choose selectors body inputs) p = absurd (true≢false p)

none-in : (xs : List ℕ) → ((m : ℕ) → is_in m xs ≡ true → ⊥) → xs ≡ []
none-in [] f = refl
none-in (x ∷ xs) f = absurd (f x (or_left _ _ (eq-eqb x x refl)))

pub none-below : (count : ℕ) → AreBelow count []
none-below count m k = absurd (true≢false (sym k))

module _ (graph : Graph) (s : Core) (book : Booked) (lists : ℕ → Versions) (count : ℕ) (w : IsWholeOf graph s book lists count)
    (t n : ℕ) (o : opens (bare book.book) t n ≡ true) (p : is_choose (node_at graph n) ≡ false) where
  picked-none : picked_in lists t n ≡ []
  picked-none = none-in (picked_in lists t n) (λ m k. listed-none (node_at graph n) m p
      (prior-listed graph s w.fits.lawful t n m (sym (ap (λ (l : Versions). is_in m (nodes_in (picks_before l.entries t))) (is-list graph s book lists count w n (open-below graph s book lists count w t n o))) ∙ k)))

  found-listed : {P : ℕ → Type 0} (m : ℕ) → is_candidate s n m ≡ true → SomeHead s n P → lists_candidate m (selectors_of (node_at graph n)) ≡ true
  found-listed m k x = candidate-listed graph s w.fits.lawful x.head n m x.first k

  found-none : found_candidates (bare book.book) n ≡ []
  found-none = none-in (found_candidates (bare book.book) n) (λ m k. let c = found-state graph s book lists count w n m k in
      listed-none (node_at graph n) m p (found-listed m c (w.fits.lawful.work_is_kept.finds n (found-some graph s book lists count w n m (cell s n).found c))))

  -- ---- the points there

  pub plain-open : (given : Bool) (r x : Option ℕ) → r ≡ open_given graph book t n [] given → r ≡ x → open_given graph book t n (picked_in lists t n) given ≡ x
  plain-open given r x e h = ap (λ (ps : List ℕ). open_given graph book t n ps given) picked-none ∙ sym e ∙ h

  pub plain-touch : (inputs : List ℕ) (r x : Bool) → inputs ≡ inputs_of (node_at graph n) → r ≡ list_any (changes (bare book.book) t) inputs → r ≡ x
      → list_any (changes (bare book.book) t) (inputs_of (node_at graph n) ++ picked_in lists t n) ≡ x
  plain-touch inputs r x i e h =
      ap (λ (ps : List ℕ). list_any (changes (bare book.book) t) (inputs_of (node_at graph n) ++ ps)) picked-none
      ∙ ap (list_any (changes (bare book.book) t)) (append-nil (inputs_of (node_at graph n)) ∙ sym i) ∙ sym e ∙ h

  has-body : has_body_value graph (bare book.book) n ≡ true
  has-body = ap (λ (b : Option Scripted). is_none b || is_some (cell (bare book.book) n).body) (body-none (node_at graph n) p)

  pub plain-last : turn.Step (Resolve t n) ≡ first_of (drop 7 (points_in graph book lists t false n))
  plain-last =
      new-miss graph book lists t n _ (ap (find (is_new_in lists t n (picked_in lists t n))) found-none)
      (candidate-miss graph book lists t n _ (ap (find (λ m. not (is_gathered (bare book.book) n m))) found-none)
      (body-miss graph book lists t n _ has-body
      (held-miss graph book lists t n (ap (find (is_held_in lists n (found_candidates (bare book.book) n))) picked-none))))
