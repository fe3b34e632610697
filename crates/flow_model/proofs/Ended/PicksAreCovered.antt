-- A candidate that the Dones before a place pick has a run that goes on there, and the node reacts to changes of it.
use Rattle.std.proofs.Common.{◌≡◌, ℕ, Bool, true, false, ◌&&◌, ◌||◌, not, ◌==◌, ◌⊎◌, inl, inr, refl, sym, ap, arith, List, [], ◌∷◌, ◌++◌, true≢false, ◌∙◌, subst, Option, Some, None}
use Rattle.std.specs.Prelude.{is_some}
use Rattle.std.specs.List.{list_any}
use Rattle.std.specs.Option.{option_or}
use Rattle.std.proofs.lemmas.Bool.Decides.{eqb_tells}
use Rattle.std.proofs.lemmas.Bool.{or_left, or_right, and_from, eqb-true, eq-eqb, false_from_ne_true, both_ways}
use Rattle.std.proofs.lemmas.List.Folds.{list_any-append}
use Rattle.signal_graph.specs.Graph.{Graph, is_in}
use Rattle.signal_graph.specs.Values.{nodes_in}
use Rattle.node_versions.specs.declared.entry.State.{State}
use Rattle.node_versions.specs.declared.entry.State.TheVariants.{Mark, Frame, Done}
use Rattle.node_versions.specs.declared.entry.Entry.{Entry}
use Rattle.node_versions.specs.Entries.{OutEdge, IsUnique, has, at, is_done, behind, before, up_to, first_open, is_active, has_node, last_done, only_done, picks_of, picks_at, picks_before}
use Rattle.node_versions.proofs.Lists.{last_done-append, has-append}
use Rattle.node_versions.proofs.Places.{at-has}
use Rattle.flow_model.specs.Machine.State.{Core, live, entries, outs}
use Rattle.flow_model.specs.Machine.Words.{heads}
use Rattle.flow_model.specs.Kept.Runs.{Run, Reading, go_on, close, read_done, read_state, read_all, nothing_read, last_run, discovered, runs, covers, reacts, is_from, is_until, settles}
use Rattle.flow_model.specs.Kept.Lawful.{IsLawful, picks_last}
use Rattle.flow_model.proofs.OneList.StatesAndPlaces.{at-append}
use Rattle.flow_model.proofs.Reactions.WhereRunsBegin.{picked_in, or-or, seen-all, BeginsRun, run-begins}
use Rattle.flow_model.proofs.Reactions.WhoReacts.{dropper_in, runs_in, any-parts, parts-covers, read_all-append}
use Rattle.flow_model.proofs.FramesSpread.AfterDiscover.{head-prior}
use Rattle.flow_model.proofs.FramesSpread.AfterDones.{left-settles}
use Rattle.flow_model.proofs.OneList.PicksBefore.{before-append, up_to-append}

-- ---- a run goes on until a Done leaves the candidate

-- The call's Done leaves the candidate; `o` is the last Done before the list.
pub record LeavesAt (m : ℕ) (ys : List Entry) (o : Option Entry) (v : ℕ) : Type 0 where
  pub done : at is_done ys v ≡ true
  pub prior : picked_in m (option_or (last_done (before ys v)) o) ≡ true
  pub now : picked_in m (option_or (last_done (up_to ys v)) o) ≡ false

leaves-more : (m : ℕ) (e : Entry) (es : List Entry) (o : Option Entry) (v : ℕ) → has es e.version ≡ false → LeavesAt m es (option_or (only_done e) o) v → LeavesAt m (e ∷ es) o v
leaves-more m e es o v u p = record {
  done = rw (other, at) p.done;
  prior = rw (other, before) (ap (picked_in m) (or-or (last_done (before es v)) (only_done e) o) ∙ p.prior);
  now = rw (other, up_to) (ap (picked_in m) (or-or (last_done (up_to es v)) (only_done e) o) ∙ p.now);
}
  where
    other : (e.version == v) ≡ false
    other = false_from_ne_true _ (λ x. both_ways _ u (subst (λ (w : ℕ). has es w ≡ true) (sym (eqb-true e.version v x)) (at-has is_done es v p.done)))

closed-more : (test : Run → Bool) (m : ℕ) (es : List Entry) (q : Reading) → list_any test q.closed ≡ true → list_any test (read_all m es q).closed ≡ true
closed-more test m [] q h = h
closed-more test m (e ∷ es) q h = closed-more test m es (read_state m e.version e.state q) (here e.state)
  where
    here : (x : State) → list_any test (read_state m e.version x q).closed ≡ true
    here Mark = h
    here Frame = h
    here (Done v c ps) = picks (is_in m (nodes_in ps)) q.current
      where
        picks : (p : Bool) (z : Option Run) → list_any test (elim p as (λ _. List Run) [ true ↦ q.closed | false ↦ close z e.version q.closed ]) ≡ true
        picks true z = h
        picks false None = h
        picks false (Some r) = list_any-append test q.closed (record r { ends = Some e.version } ∷ []) ∙ or_left _ _ h

-- The run is in a list of runs with a call at which it ends, or is the current one.
goes-on : (test : Run → Bool) (m : ℕ) (es : List Entry) (o : Option Entry) (q : Reading) (r : Run) → IsUnique es → q.current ≡ Some r → picked_in m o ≡ true → ((v : ℕ) → LeavesAt m es o v → test (record r { ends = Some v }) ≡ true)
    → (list_any test (read_all m es q).closed ≡ true) ⊎ ((read_all m es q).current ≡ Some r)
goes-on test m [] o q r u g p leaves = inr g
goes-on test m (e ∷ es) o q r u g p leaves = go e.state refl (λ w a. goes-on test m es w a r u.1)
  where
    Result : Reading → Type 0
    Result a = (list_any test (read_all m es a).closed ≡ true) ⊎ ((read_all m es a).current ≡ Some r)

    Further : Type 0
    Further = (w : Option Entry) (a : Reading) → a.current ≡ Some r → picked_in m w ≡ true → ((v : ℕ) → LeavesAt m es w v → test (record r { ends = Some v }) ≡ true) → Result a

    more : (w : Option Entry) → option_or (only_done e) o ≡ w → (v : ℕ) → LeavesAt m es w v → test (record r { ends = Some v }) ≡ true
    more w k v l = leaves v (leaves-more m e es o v u.0 (subst (λ (x : Option Entry). LeavesAt m es x v) (sym k) l))

    same : (e.version == e.version) ≡ true
    same = eq-eqb e.version e.version refl

    go : (x : State) → e.state ≡ x → Further → Result (read_state m e.version x q)
    go Mark x further = further o q g p (more o (rw (x, only_done) refl))
    go Frame x further = further o q g p (more o (rw (x, only_done) refl))
    go (Done v c ps) x further = picks (is_in m (nodes_in ps)) refl
      where
        only : option_or (only_done e) o ≡ Some e
        only = let d : is_done e.state ≡ true = ap is_done x in let k : only_done e ≡ Some e = rw (d, only_done) refl in ap (λ (w : Option Entry). option_or w o) k

        current : is_in m (nodes_in ps) ≡ true → (read_done m e.version ps q).current ≡ Some r
        current f = ap (λ (b : Bool). elim b as (λ _. Option Run) [ true ↦ go_on q.current q.fresh e.version | false ↦ None ]) f ∙ ap (λ (z : Option Run). go_on z q.fresh e.version) g

        closed : is_in m (nodes_in ps) ≡ false → (read_done m e.version ps q).closed ≡ close (Some r) e.version q.closed
        closed f = ap (λ (b : Bool). elim b as (λ _. List Run) [ true ↦ q.closed | false ↦ close q.current e.version q.closed ]) f ∙ ap (λ (z : Option Run). close z e.version q.closed) g

        picked : picked_in m (Some e) ≡ is_in m (nodes_in ps)
        picked = ap (λ (w : State). is_in m (nodes_in (picks_of w))) x

        picks : (b : Bool) → is_in m (nodes_in ps) ≡ b → Result (read_done m e.version ps q)
        picks true f = further (Some e) (read_done m e.version ps q) (current f) (picked ∙ f) (more (Some e) only)
        picks false f = inl (closed-more test m es (read_done m e.version ps q) (ap (list_any test) (closed f) ∙ list_any-append test q.closed (record r { ends = Some e.version } ∷ []) ∙ or_right (list_any test q.closed) (list_any test (record r { ends = Some e.version } ∷ [])) (or_left _ _ (leaves e.version left))))
          where
            left : LeavesAt m (e ∷ es) o e.version
            left = record {
              done = rw (same, at, x) refl;
              prior = rw (same, before) p;
              now = rw (same, up_to, only_done, x) (ap (λ (w : State). is_in m (nodes_in (picks_of w))) x ∙ f);
            }

picked-runs : (test : Run → Bool) (xs ys : List Entry) (os : List OutEdge) (n m : ℕ) (r : Run) → IsUnique ys → (read_all m xs nothing_read).current ≡ Some r → ((v : ℕ) → LeavesAt m ys (last_done xs) v → test (record r { ends = Some v }) ≡ true)
    → ((read_all m (xs ++ ys) nothing_read).current ≡ Some r → test (record r { ends = dropper_in (xs ++ ys) os n }) ≡ true) → list_any test (runs_in (xs ++ ys) os n m) ≡ true
picked-runs test xs ys os n m r u g leaves drops = any-parts test (xs ++ ys) os n m ∙ go (goes-on test m ys (last_done xs) (read_all m xs nothing_read) r u g (sym (seen-all m xs) ∙ ap is_some g) leaves)
  where
    es : List Entry
    es = xs ++ ys

    joined : read_all m es nothing_read ≡ read_all m ys (read_all m xs nothing_read)
    joined = read_all-append m xs ys nothing_read

    new : Bool
    new = list_any test (discovered (first_open es) n os)

    last : Option Run → Bool
    last c = list_any test (last_run c (dropper_in es os n))

    go : (list_any test (read_all m ys (read_all m xs nothing_read)).closed ≡ true) ⊎ ((read_all m ys (read_all m xs nothing_read)).current ≡ Some r) → ((list_any test (read_all m es nothing_read).closed || last (read_all m es nothing_read).current) || new) ≡ true
    go (inl k) = or_left (list_any test (read_all m es nothing_read).closed || last (read_all m es nothing_read).current) new (or_left (list_any test (read_all m es nothing_read).closed) (last (read_all m es nothing_read).current) (ap (λ (q : Reading). list_any test q.closed) joined ∙ k))
    go (inr k) =
        let c : (read_all m es nothing_read).current ≡ Some r = ap (λ (q : Reading). q.current) joined ∙ k in
        or_left (list_any test (read_all m es nothing_read).closed || last (read_all m es nothing_read).current) new (or_right (list_any test (read_all m es nothing_read).closed) (last (read_all m es nothing_read).current) (ap last c ∙ or_left _ _ (drops c)))

-- ---- places in joined lists

unique-right : (xs ys : List Entry) → IsUnique (xs ++ ys) → IsUnique ys
unique-right [] ys u = u
unique-right (x ∷ xs) ys u = unique-right xs ys u.1

unique-left : (xs ys : List Entry) → IsUnique (xs ++ ys) → IsUnique xs
unique-left [] ys u = tt
unique-left (x ∷ xs) ys u = (false_from_ne_true _ (λ k. both_ways _ u.0 (has-append xs ys x.version ∙ or_left _ _ k)), unique-left xs ys u.1)

unique-apart : (xs ys : List Entry) (v : ℕ) → IsUnique (xs ++ ys) → has ys v ≡ true → has xs v ≡ false
unique-apart [] ys v u h = refl
unique-apart (x ∷ xs) ys v u h = let r = unique-apart xs ys v u.1 h in let a = u.0 in let e = has-append xs ys x.version in grind (arith, eqb_tells, r, a, e, h)

left-before : (xs ys : List Entry) (v : ℕ) → has xs v ≡ true → before (xs ++ ys) v ≡ before xs v
left-before [] ys v h = absurd (true≢false (sym h))
left-before (x ∷ xs) ys v h = let r = left-before xs ys v in grind (arith, h, r)

left-up_to : (xs ys : List Entry) (v : ℕ) → has xs v ≡ true → up_to (xs ++ ys) v ≡ up_to xs v
left-up_to [] ys v h = absurd (true≢false (sym h))
left-up_to (x ∷ xs) ys v h = let r = left-up_to xs ys v in grind (arith, h, r)

left-begins : (m : ℕ) (xs ys : List Entry) (b : ℕ) → BeginsRun m xs b → BeginsRun m (xs ++ ys) b
left-begins m xs ys b k =
    let hb = at-has is_done xs b k.done in
    record {
      done = at-append is_done xs ys b ∙ rw hb k.done;
      now = ap (λ (es : List Entry). picked_in m (last_done es)) (left-up_to xs ys b hb) ∙ k.now;
      prior = ap (λ (es : List Entry). picked_in m (last_done es)) (left-before xs ys b hb) ∙ k.prior;
    }

-- The call's Done leaves the candidate, in a whole list.
pub record LeftBy (m : ℕ) (es : List Entry) (v : ℕ) : Type 0 where
  pub done : at is_done es v ≡ true
  pub prior : is_in m (nodes_in (picks_before es v)) ≡ true
  pub now : is_in m (nodes_in (picks_at es v)) ≡ false

right-left : (m : ℕ) (xs ys : List Entry) (v : ℕ) → IsUnique (xs ++ ys) → LeavesAt m ys (last_done xs) v → LeftBy m (xs ++ ys) v
right-left m xs ys v u k =
    let hv = unique-apart xs ys v u (at-has is_done ys v k.done) in
    record {
      done = at-append is_done xs ys v ∙ rw hv k.done;
      prior = ap (λ (es : List Entry). picked_in m (last_done es)) (before-append xs ys v hv) ∙ ap (picked_in m) (last_done-append xs (before ys v)) ∙ k.prior;
      now = ap (λ (es : List Entry). picked_in m (last_done es)) (up_to-append xs ys v hv) ∙ ap (picked_in m) (last_done-append xs (up_to ys v)) ∙ k.now;
    }

-- ---- the node reacts

-- Where the Dones up to a place of a node's list pick m, the node reacts to a change of m by v: if no run begins behind v,
-- and whoever leaves m behind the place stands behind v at m.
pub picks-react : (graph : Graph) (s : Core) → IsLawful graph s → (v m n : ℕ) (xs ys : List Entry) → xs ++ ys ≡ entries s n → picked_in m (last_done xs) ≡ true → has (entries s m) v ≡ true
    → ((b : ℕ) → has xs b ≡ true → BeginsRun m (entries s n) b → is_active (entries s m) b v ≡ true)
    → ((z : ℕ) → ((has ys z ≡ true) × (at is_done (entries s n) z ≡ true)) ⊎ (heads s z n ≡ true) → settles graph s z m n ≡ true → (live s z && behind (entries s m) v z) ≡ true)
    → reacts graph s v m n ≡ true
picks-react graph s h v m n xs ys joined picked entry from until = or_right _ _ (go (read_all m xs nothing_read).current refl)
  where
    unique : IsUnique (xs ++ ys)
    unique = subst IsUnique (sym joined) (h.one_entry n)

    go : (c : Option Run) → (read_all m xs nothing_read).current ≡ c → list_any (covers s m v) (runs s n m) ≡ true
    go None e = absurd (true≢false (sym (sym (ap is_some e) ∙ seen-all m xs ∙ picked)))
    go (Some r) e = subst (λ (es : List Entry). list_any (covers s m v) (runs_in es (outs s m) n m) ≡ true) joined (picked-runs (covers s m v) xs ys (outs s m) n m r (unique-right xs ys unique) e leaves drops)
      where
        from_it : (z : Option ℕ) → r.begins ≡ z → is_from s m z v ≡ true
        from_it None k = refl
        from_it (Some b) k =
            let w = run-begins m xs r b (unique-left xs ys unique) e k in
            from b (at-has is_done xs b w.done) (subst (λ (es : List Entry). BeginsRun m es b) joined (left-begins m xs ys b w))

        covered : (z : Option ℕ) → is_until s m z v ≡ true → covers s m v (record r { ends = z }) ≡ true
        covered z k = parts-covers s m v (record r { ends = z }) (record { has_it = entry; from = from_it r.begins refl; until = k })

        leaves : (z : ℕ) → LeavesAt m ys (last_done xs) z → covers s m v (record r { ends = Some z }) ≡ true
        leaves z k =
            let l = subst (λ (es : List Entry). LeftBy m es z) joined (right-left m xs ys z unique k) in
            covered (Some z) (until z (inl (at-has is_done ys z k.done, l.done)) (left-settles graph s z n m l.prior l.done l.now))

        drops : (read_all m (xs ++ ys) nothing_read).current ≡ Some r → covers s m v (record r { ends = dropper_in (xs ++ ys) (outs s m) n }) ≡ true
        drops k = subst (λ (es : List Entry). covers s m v (record r { ends = dropper_in es (outs s m) n }) ≡ true) (sym joined) (covered (dropper_in (entries s n) (outs s m) n) (at_drop (has_node (outs s m) n) refl))
          where
            last : picks_last s n m ≡ true
            last = sym (seen-all m (entries s n)) ∙ ap (λ (es : List Entry). is_some (read_all m es nothing_read).current) (sym joined) ∙ ap is_some k

            at_drop : (b : Bool) → has_node (outs s m) n ≡ b → is_until s m (elim b as (λ _. Option ℕ) [ true ↦ None | false ↦ first_open (entries s n) ]) v ≡ true
            at_drop true x = refl
            at_drop false x = head (first_open (entries s n)) refl
              where
                head : (o : Option ℕ) → first_open (entries s n) ≡ o → is_until s m o v ≡ true
                head None y = refl
                head (Some z) y = until z (inr hd) (or_left _ _ (or_right _ _ (and_from _ _ (head-prior graph s h z n m hd ∙ last) (or_right _ _ (and_from _ _ hd (ap not x))))))
                  where
                    hd : heads s z n ≡ true
                    hd = rw y (eq-eqb z z refl)
