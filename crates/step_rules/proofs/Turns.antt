-- Which point applies first.
use Rattle.std.proofs.Common.{◌≡◌, ℕ, Bool, true, false, not, List, [], ◌∷◌, ◌++◌, map, drop, find, refl, sym, ap, ap₂, ◌∙◌, Option, Some, None}
use Rattle.std.proofs.lemmas.Bool.{not_from_false, not_from_true}
use Rattle.std.specs.List.{list_any}
use Rattle.signal_graph.specs.Graph.{Graph, node_at, is_source, inputs_of}
use Rattle.node_versions.specs.Entries.{Versions, first_open}
use Rattle.flow_model.specs.declared.step.Step.TheVariants.{Skip, Gather, Evaluate, Body, Resolve, Discover, Drop}
use Rattle.flow_model.specs.declared.step.Cause.TheVariants.{InputOpen, OpenBefore, NotOpen}
use Rattle.flow_model.specs.declared.step.Turn.{Turn}
use Rattle.flow_model.specs.declared.step.Turn.TheVariants as turn
use Rattle.flow_model.specs.Machine.Sets.{least}
use Rattle.flow_model.specs.Machine.State.{opens, changes}
use Rattle.flow_model.specs.Machine.Words.{is_gathered, is_found, found_candidates, presses}
use Rattle.flow_model.specs.Machine.Steps.{has_body_value}
use Rattle.flow_model.specs.Machine.Next.{first_of, when, for_some, least_version, other_than}
use Rattle.flow_model.specs.Parts.Books.{Work, Book, bare, bare_cell, book_of, work_in}
use Rattle.flow_state.specs.Booked.{Booked, call_in}
use Rattle.step_rules.specs.Points.{framing_in, entered_in, reading_in, reading_candidate_in, picked_in, is_new_in, is_held_in, points_in, first_points, first_point, open_given, turn_in, turn_at_in}
use Rattle.step_rules.proofs.Nodes.{find-append, find-append-some}

-- ---- one point

some-hit : (o : Option ℕ) (f : ℕ → Turn) (m : ℕ) (rest : List (Option Turn)) → o ≡ Some m → f m ≡ first_of (for_some o f ∷ rest)
some-hit o f m rest e = sym (ap (λ (x : Option ℕ). first_of (for_some x f ∷ rest)) e)

some-miss : (o : Option ℕ) (f : ℕ → Turn) (rest : List (Option Turn)) → o ≡ None → first_of rest ≡ first_of (for_some o f ∷ rest)
some-miss o f rest e = sym (ap (λ (x : Option ℕ). first_of (for_some x f ∷ rest)) e)

when-hit : (b : Bool) (x : Turn) (rest : List (Option Turn)) → b ≡ true → x ≡ first_of (when b x ∷ rest)
when-hit b x rest e = sym (ap (λ (c : Bool). first_of (when c x ∷ rest)) e)

when-miss : (b : Bool) (x : Turn) (rest : List (Option Turn)) → b ≡ false → first_of rest ≡ first_of (when b x ∷ rest)
when-miss b x rest e = sym (ap (λ (c : Bool). first_of (when c x ∷ rest)) e)

-- ---- who is helped

works-back : (ws : List Work) → map work_in (map bare_cell ws) ≡ ws
works-back [] = refl
works-back (w ∷ ws) = ap (λ (xs : List Work). w ∷ xs) (works-back ws)

pub bare-back : (b : Book) → b ≡ book_of (bare b)
bare-back b = ap (λ (ws : List Work). record b { works = ws }) (sym (works-back b.works))

-- what a given node rests on that is open, among its inputs and then among its picks
pub open-input : (graph : Graph) (book : Booked) (t n : ℕ) (picked : List ℕ) (given : Bool) (o : Option ℕ) (m : ℕ) → given ≡ true
    → o ≡ find (opens (bare book.book) t) (inputs_of (node_at graph n)) → o ≡ Some m → Some m ≡ open_given graph book t n picked given
open-input graph book t n picked given o m is e h =
    sym (find-append-some (opens (bare book.book) t) (inputs_of (node_at graph n)) picked m (sym e ∙ h)) ∙ sym (ap (open_given graph book t n picked) is)

pub open-pick : (graph : Graph) (book : Booked) (t n : ℕ) (picked : List ℕ) (given : Bool) (o p : Option ℕ) → given ≡ true
    → o ≡ find (opens (bare book.book) t) (inputs_of (node_at graph n)) → o ≡ None → p ≡ find (opens (bare book.book) t) picked → p ≡ open_given graph book t n picked given
open-pick graph book t n picked given o p is e h f =
    f ∙ sym (find-append (opens (bare book.book) t) (inputs_of (node_at graph n)) picked (sym e ∙ h)) ∙ sym (ap (open_given graph book t n picked) is)

-- what is searched, over the lists as they are named
pub new-told : (lists : ℕ → Versions) (t n : ℕ) (picked found all : List ℕ) (o x : Option ℕ) → picked ≡ picked_in lists t n → found ≡ all
    → o ≡ find (is_new_in lists t n picked) found → o ≡ x → find (is_new_in lists t n (picked_in lists t n)) all ≡ x
new-told lists t n picked found all o x p f e h = sym (ap₂ (λ (ps fs : List ℕ). find (is_new_in lists t n ps) fs) p f) ∙ sym e ∙ h

pub gathered-told : (book : Booked) (n : ℕ) (found all : List ℕ) (o x : Option ℕ) → found ≡ all
    → o ≡ find (λ m. not (is_gathered (bare book.book) n m)) found → o ≡ x → find (λ m. not (is_gathered (bare book.book) n m)) all ≡ x
gathered-told book n found all o x f e h = sym (ap (λ (fs : List ℕ). find (λ m. not (is_gathered (bare book.book) n m)) fs) f) ∙ sym e ∙ h

pub told : {X : Type 0} (o y x : X) → o ≡ y → o ≡ x → y ≡ x
told o y x e h = sym e ∙ h

-- ---- the points at an open node

module _ (graph : Graph) (book : Booked) (lists : ℕ → Versions) (t n : ℕ) where
  P : Bool → List (Option Turn)
  P given = points_in graph book lists t given n

  From : ℕ → Turn
  From k = first_of (drop k (points_in graph book lists t false n))

  pub blocked-hit : (given : Bool) (v : ℕ) → other_than t (first_open (lists n).entries) ≡ Some v → turn.NotYet (OpenBefore n v) ≡ first_of (points_in graph book lists t given n)
  blocked-hit given v e = some-hit _ (λ v. turn.NotYet (OpenBefore n v)) v _ e

  pub blocked-miss : (given : Bool) (x : Turn) → other_than t (first_open (lists n).entries) ≡ None → x ≡ first_of (drop 1 (points_in graph book lists t given n)) → x ≡ first_of (points_in graph book lists t given n)
  blocked-miss given x e r = r ∙ some-miss _ (λ v. turn.NotYet (OpenBefore n v)) _ e

  pub input-hit : (given : Bool) (m : ℕ) → open_given graph book t n (picked_in lists t n) given ≡ Some m → turn.NotYet (InputOpen m) ≡ first_of (drop 1 (points_in graph book lists t given n))
  input-hit given m e = some-hit _ (λ m. turn.NotYet (InputOpen m)) m _ e

  pub input-miss : (given : Bool) (x : Turn) → open_given graph book t n (picked_in lists t n) given ≡ None → x ≡ first_of (drop 2 (points_in graph book lists t false n)) → x ≡ first_of (drop 1 (points_in graph book lists t given n))
  input-miss given x e r = r ∙ some-miss _ (λ m. turn.NotYet (InputOpen m)) _ e

  pub help-hit : (u : ℕ) → least_version (presses (bare book.book) t n) book.book.calls ≡ Some u → framing_in book lists u n ≡ first_of (drop 2 (points_in graph book lists t false n))
  help-hit u e = some-hit _ (λ u. framing_in book lists u n) u _ e

  pub help-miss : (x : Turn) → least_version (presses (bare book.book) t n) book.book.calls ≡ None → x ≡ first_of (drop 3 (points_in graph book lists t false n)) → x ≡ first_of (drop 2 (points_in graph book lists t false n))
  help-miss x e r = r ∙ some-miss _ (λ u. framing_in book lists u n) _ e

  pub source-hit : is_source (node_at graph n) ≡ true → turn.Step (Resolve t n) ≡ first_of (drop 3 (points_in graph book lists t false n))
  source-hit e = when-hit _ (turn.Step (Resolve t n)) _ e

  pub source-miss : (x : Turn) → is_source (node_at graph n) ≡ false → x ≡ first_of (drop 4 (points_in graph book lists t false n)) → x ≡ first_of (drop 3 (points_in graph book lists t false n))
  source-miss x e r = r ∙ when-miss _ (turn.Step (Resolve t n)) _ e

  pub touch-hit : list_any (changes (bare book.book) t) (inputs_of (node_at graph n) ++ picked_in lists t n) ≡ false → turn.Step (Skip t n) ≡ first_of (drop 4 (points_in graph book lists t false n))
  touch-hit e = when-hit _ (turn.Step (Skip t n)) _ (not_from_false _ e)

  pub touch-miss : (x : Turn) → list_any (changes (bare book.book) t) (inputs_of (node_at graph n) ++ picked_in lists t n) ≡ true → x ≡ first_of (drop 5 (points_in graph book lists t false n)) → x ≡ first_of (drop 4 (points_in graph book lists t false n))
  touch-miss x e r = r ∙ when-miss _ (turn.Step (Skip t n)) _ (not_from_true _ e)

  pub gather-hit : (m : ℕ) → find (λ m. not (is_gathered (bare book.book) n m)) (inputs_of (node_at graph n)) ≡ Some m → reading_in book lists t m (Gather t n m) ≡ first_of (drop 5 (points_in graph book lists t false n))
  gather-hit m e = some-hit _ (λ m. reading_in book lists t m (Gather t n m)) m _ e

  pub gather-miss : (x : Turn) → find (λ m. not (is_gathered (bare book.book) n m)) (inputs_of (node_at graph n)) ≡ None → x ≡ first_of (drop 6 (points_in graph book lists t false n)) → x ≡ first_of (drop 5 (points_in graph book lists t false n))
  gather-miss x e r = r ∙ some-miss _ (λ m. reading_in book lists t m (Gather t n m)) _ e

  pub evaluate-hit : is_found (bare book.book) n ≡ false → turn.Step (Evaluate t n) ≡ first_of (drop 6 (points_in graph book lists t false n))
  evaluate-hit e = when-hit _ (turn.Step (Evaluate t n)) _ (not_from_false _ e)

  pub evaluate-miss : (x : Turn) → is_found (bare book.book) n ≡ true → x ≡ first_of (drop 7 (points_in graph book lists t false n)) → x ≡ first_of (drop 6 (points_in graph book lists t false n))
  evaluate-miss x e r = r ∙ when-miss _ (turn.Step (Evaluate t n)) _ (not_from_true _ e)

  pub new-hit : (c : ℕ) → find (is_new_in lists t n (picked_in lists t n)) (found_candidates (bare book.book) n) ≡ Some c → entered_in book lists t c (Discover t n c) ≡ first_of (drop 7 (points_in graph book lists t false n))
  new-hit c e = some-hit _ (λ c. entered_in book lists t c (Discover t n c)) c _ e

  pub new-miss : (x : Turn) → find (is_new_in lists t n (picked_in lists t n)) (found_candidates (bare book.book) n) ≡ None → x ≡ first_of (drop 8 (points_in graph book lists t false n)) → x ≡ first_of (drop 7 (points_in graph book lists t false n))
  new-miss x e r = r ∙ some-miss _ (λ c. entered_in book lists t c (Discover t n c)) _ e

  pub candidate-hit : (c : ℕ) → find (λ m. not (is_gathered (bare book.book) n m)) (found_candidates (bare book.book) n) ≡ Some c → reading_candidate_in book lists t c (Gather t n c) ≡ first_of (drop 8 (points_in graph book lists t false n))
  candidate-hit c e = some-hit _ (λ c. reading_candidate_in book lists t c (Gather t n c)) c _ e

  pub candidate-miss : (x : Turn) → find (λ m. not (is_gathered (bare book.book) n m)) (found_candidates (bare book.book) n) ≡ None → x ≡ first_of (drop 9 (points_in graph book lists t false n)) → x ≡ first_of (drop 8 (points_in graph book lists t false n))
  candidate-miss x e r = r ∙ some-miss _ (λ c. reading_candidate_in book lists t c (Gather t n c)) _ e

  pub body-hit : has_body_value graph (bare book.book) n ≡ false → turn.Step (Body t n) ≡ first_of (drop 9 (points_in graph book lists t false n))
  body-hit e = when-hit _ (turn.Step (Body t n)) _ (not_from_false _ e)

  pub body-miss : (x : Turn) → has_body_value graph (bare book.book) n ≡ true → x ≡ first_of (drop 10 (points_in graph book lists t false n)) → x ≡ first_of (drop 9 (points_in graph book lists t false n))
  body-miss x e r = r ∙ when-miss _ (turn.Step (Body t n)) _ (not_from_true _ e)

  pub held-hit : (o : ℕ) → find (is_held_in lists n (found_candidates (bare book.book) n)) (picked_in lists t n) ≡ Some o → entered_in book lists t o (Drop t n o) ≡ first_of (drop 10 (points_in graph book lists t false n))
  held-hit o e = some-hit _ (λ o. entered_in book lists t o (Drop t n o)) o _ e

  pub held-miss : find (is_held_in lists n (found_candidates (bare book.book) n)) (picked_in lists t n) ≡ None → turn.Step (Resolve t n) ≡ first_of (drop 10 (points_in graph book lists t false n))
  held-miss e = some-miss _ (λ o. entered_in book lists t o (Drop t n o)) _ e

-- ---- what comes next

module _ (graph : Graph) (book : Booked) (lists : ℕ → Versions) (t : ℕ) where
  two-miss : (a b : Option Turn) (rest : List (Option Turn)) → None ≡ first_point (a ∷ b ∷ []) → first_of rest ≡ first_of (a ∷ b ∷ rest)
  two-miss None None rest e = refl
  two-miss None (Some y) rest e = cc
  two-miss (Some x) b rest e = cc

  pub open-next : (n : ℕ) (x : Turn) → None ≡ first_point (first_points graph book lists t) → least (call_in book t).open_nodes ≡ Some n → x ≡ first_of (points_in graph book lists t false n) → x ≡ turn_in graph book lists t
  open-next n x e o r = r ∙ some-hit (least (call_in book t).open_nodes) (λ n. first_of (points_in graph book lists t false n)) n _ o ∙ two-miss _ _ _ e

  pub open-next_at : (n : ℕ) (x : Turn) → None ≡ first_point (first_points graph book lists t) → opens (bare book.book) t n ≡ true → x ≡ first_of (points_in graph book lists t true n) → x ≡ turn_at_in graph book lists t n
  open-next_at n x e o r = r ∙ when-miss _ (turn.NotYet (NotOpen n)) _ (not_from_true _ o) ∙ two-miss _ _ _ e
