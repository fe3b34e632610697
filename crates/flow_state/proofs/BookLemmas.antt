-- How a book stays kept, and what is seen of its changes.
use Rattle.std.proofs.Common.{◌≡◌, ℕ, zero, suc, ◌+◌, ◌-◌, Bool, true, false, ◌==◌, ◌||◌, List, [], ◌∷◌, ◌++◌, length-append, length, refl, sym, ap, ◌∙◌, subst, arith}
use Rattle.std.proofs.lemmas.Bool.{or_right}
use Rattle.call_log.specs.Record.{Record}
use Rattle.order_graph.specs.declared.pair.Pair.{Pair}
use Rattle.signal_graph.specs.declared.log.Logged.{Logged}
use Rattle.flow_model.specs.Machine.State.{LiveCall, call_of, change_call}
use Rattle.std.specs.Prelude.{is_some}
use Rattle.flow_model.specs.Machine.Steps.{without_call}
use Rattle.flow_model.specs.Parts.Books.{Work}
use Rattle.flow_model.specs.Machine.Lists.{change_at}
use Rattle.flow_state.specs.Seats.{LiveCalls, with_pairs, has_call, on_live, left_calls}
use Rattle.flow_state.specs.Shelves.{Shelved, on_shelf}
use Rattle.flow_state.specs.Kept.{IsKept}
use Rattle.flow_state.proofs.SeatLemmas.{elim_some}

-- ---- calls

pub has-cons : (c : LiveCall) (cs : List LiveCall) (u : ℕ) → is_some (call_of (c ∷ cs) u) ≡ ((c.version == u) || is_some (call_of cs u))
has-cons c cs u = elim_some (c.version == u) c cs u

pub has-change : (t u : ℕ) (f : LiveCall → LiveCall) (cs : List LiveCall) → ((c : LiveCall) → (f c).version ≡ c.version) → is_some (call_of (change_call t f cs) u) ≡ is_some (call_of cs u)
has-change t u f [] same = refl
has-change t u f (c ∷ cs) same = go (c.version == t) (has-change t u f cs same) ∙ sym (has-cons c cs u)
  where
    go : (b : Bool) → is_some (call_of (change_call t f cs) u) ≡ is_some (call_of cs u) → is_some (call_of (elim b [ true ↦ f c ∷ cs | false ↦ c ∷ change_call t f cs ]) u) ≡ ((c.version == u) || is_some (call_of cs u))
    go true r = has-cons (f c) cs u ∙ ap (λ v. (v == u) || is_some (call_of cs u)) (same c)
    go false r = has-cons c (change_call t f cs) u ∙ ap (λ b. (c.version == u) || b) r

pub length-change : (t : ℕ) (f : LiveCall → LiveCall) (cs : List LiveCall) → length (change_call t f cs) ≡ length cs
length-change t f [] = refl
length-change t f (c ∷ cs) = go (c.version == t) (length-change t f cs)
  where
    go : (b : Bool) → length (change_call t f cs) ≡ length cs → length {A = LiveCall} (elim b [ true ↦ f c ∷ cs | false ↦ c ∷ change_call t f cs ]) ≡ suc (length cs)
    go true r = refl
    go false r = ap suc r

pub kept_call : (limit begun rooms spare : ℕ) (live new : LiveCalls) (shelves : Shelved) (log : Record) (t : ℕ) (f : LiveCall → LiveCall) → IsKept limit begun rooms spare live shelves log → ((c : LiveCall) → (f c).version ≡ c.version) → new ≡ on_live live t f → IsKept limit begun rooms spare new shelves log
kept_call limit begun rooms spare live new shelves log t f kept same is =
    let len = length-change t f live.calls in
    subst (λ (l : LiveCalls). IsKept limit begun rooms spare l shelves log) (sym is) (record {
      nodes = kept.nodes;
      counted = let n = kept.counted in omega (arith, n, len);
      within = kept.within;
      few = kept.few;
      known = λ u h. kept.known u (sym (has-change t u f live.calls same) ∙ h);
      rows = let n = kept.rows in omega (arith, n, len);
    })

pub kept_pairs : (limit begun rooms spare : ℕ) (live new : LiveCalls) (shelves : Shelved) (log : Record) (pairs : List Pair) → IsKept limit begun rooms spare live shelves log → new ≡ with_pairs live pairs → IsKept limit begun rooms spare new shelves log
kept_pairs limit begun rooms spare live new shelves log pairs kept is = subst (λ (l : LiveCalls). IsKept limit begun rooms spare l shelves log) (sym is) (record { nodes = kept.nodes; counted = kept.counted; within = kept.within; few = kept.few; known = kept.known; rows = kept.rows })

-- ---- work

length-change_at : {A : Type 0} (n : ℕ) (f : A → A) (xs : List A) → length (change_at n f xs) ≡ length xs
length-change_at n f [] = refl
length-change_at zero f (x ∷ xs) = refl
length-change_at (suc n) f (x ∷ xs) = ap suc (length-change_at n f xs)

pub kept_shelf : (limit begun rooms spare : ℕ) (live : LiveCalls) (shelves new : Shelved) (log : Record) (n : ℕ) (f : Work → Work) → IsKept limit begun rooms spare live shelves log → new ≡ on_shelf shelves n f → IsKept limit begun rooms spare live new log
kept_shelf limit begun rooms spare live shelves new log n f kept is = record { nodes = ap (λ (s : Shelved). length s.works) is ∙ length-change_at n f shelves.works ∙ kept.nodes; counted = kept.counted; within = kept.within; few = kept.few; known = kept.known; rows = kept.rows }

-- ---- a call ends

has-left : (t u : ℕ) (cs : List LiveCall) → is_some (call_of (without_call t cs) u) ≡ true → is_some (call_of cs u) ≡ true
has-left t u [] h = h
has-left t u (c ∷ cs) h = has-cons c cs u ∙ go (c.version == t) (has-left t u cs) h
  where
    go : (b : Bool) → (is_some (call_of (without_call t cs) u) ≡ true → is_some (call_of cs u) ≡ true) → is_some (call_of (elim b [ true ↦ without_call t cs | false ↦ c ∷ without_call t cs ]) u) ≡ true → ((c.version == u) || is_some (call_of cs u)) ≡ true
    go true r h = or_right (c.version == u) _ (r h)
    go false r h = either (c.version == u) (is_some (call_of (without_call t cs) u)) (is_some (call_of cs u)) (sym (has-cons c (without_call t cs) u) ∙ h) r
      where
        either : (a b d : Bool) → (a || b) ≡ true → (b ≡ true → d ≡ true) → (a || d) ≡ true
        either true b d h r = refl
        either false b d h r = r h

pub kept_end : (limit begun rooms spare : ℕ) (live new : LiveCalls) (shelves : Shelved) (log longer : Record) (t : ℕ) (entry : Logged) → IsKept limit begun rooms spare live shelves log → new ≡ left_calls live t → length new.calls + 1 ≡ length live.calls → longer.entries ≡ log.entries ++ entry ∷ [] → longer.spare ≡ log.spare - 1 → IsKept limit begun rooms spare new shelves longer
kept_end limit begun rooms spare live new shelves log longer t entry kept is fewer entries used = record {
  nodes = kept.nodes ∙ sym (ap (λ (l : LiveCalls). l.nodes) is);
  counted = let n = kept.counted in let e = ap length entries in let l = length-append log.entries (entry ∷ []) in omega (arith, n, e, l, fewer);
  within = kept.within;
  few = kept.few;
  known = λ u h. kept.known u (has-left t u live.calls (sym (ap (λ (l : LiveCalls). has_call l u) is) ∙ h));
  rows = let n = kept.rows in omega (arith, n, used, fewer);
}
