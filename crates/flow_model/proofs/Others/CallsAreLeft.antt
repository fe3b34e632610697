-- A move of others leaves a live call all but what it wants and has open, and tells what it adds to these.
use Rattle.std.proofs.Common.{◌≡◌, ℕ, Bool, true, false, ◌&&◌, ◌||◌, not, ◌==◌, refl, sym, ap, arith, List, true≢false, ◌∙◌, subst, Option, Some, None}
use Rattle.std.proofs.lemmas.Bool.{eqb-true, eq-eqb, both_ways}
use Rattle.std.specs.Prelude.{is_some}
use Rattle.signal_graph.specs.Graph.{Graph, is_in}
use Rattle.node_versions.specs.declared.entry.State.TheVariants.{Mark, Frame}
use Rattle.node_versions.specs.declared.entry.Entry.{Entry}
use Rattle.node_versions.specs.Entries.{has, at, is_mark}
use Rattle.flow_model.specs.declared.step.Step.{Step}
use Rattle.flow_model.specs.declared.step.Step.TheVariants as steps
use Rattle.flow_model.specs.Machine.Sets.{put, take_out, without}
use Rattle.flow_model.specs.Machine.State.{Core, LiveCall, call, call_of, call_or, live, entries, opens, wants, with_cell, with_call}
use Rattle.flow_model.specs.Machine.Words.{active_outs}
use Rattle.flow_model.specs.Machine.Changes.{enter, raise, ensure_mark, opened, is_told, tell_call, add_edge}
use Rattle.flow_model.specs.Machine.Steps.{apply, new_call, open_node, frame}
use Rattle.flow_model.specs.Machine.Histories.{Move, Begin, Make, after_move}
use Rattle.flow_model.specs.Follows.Others.{is_own_of, is_own_move, with_frame, after_others, after_others_move, IsKept, is_opened_by, is_given_by, IsGiven}
use Rattle.flow_model.proofs.OneList.CallsAndCells.{option_call, change_call-same, change_call-other, map_call-reads, without_call-other, call_of-append, last_call}
use Rattle.flow_model.proofs.OneStep.ChangesOfOneList.{same_cell}
use Rattle.flow_model.proofs.General.Sets.{in-put, in-put_all, in-take_out, in-without}
use Rattle.flow_model.proofs.OneStep.VersionsStayFresh.{call-version}
use Rattle.flow_model.proofs.Wants.WantsAreFree.{told-wants}

pub live-call : (s : Core) (t : ℕ) → live s t ≡ true → call_of s.calls t ≡ Some (call s t)
live-call s t l = go (call_of s.calls t) l
  where
    go : (o : Option LiveCall) → is_some o ≡ true → o ≡ Some (call_or o)
    go None k = absurd (true≢false (sym k))
    go (Some c) k = refl

other : (s : Core) (t u : ℕ) (f : LiveCall → LiveCall) → ((c : LiveCall) → (f c).version ≡ c.version) → live s t ≡ true → (u == t) ≡ false → call_of (with_call s u f).calls t ≡ Some (call s t)
other s t u f v l ne = change_call-other u t f v s.calls (λ e. both_ways _ ne (eq-eqb u t (sym e))) ∙ live-call s t l

-- ---- the steps that change other calls

pub with_frame-calls : (s : Core) (u n : ℕ) → (with_frame s u n).calls ≡ s.calls
with_frame-calls s u n = go (at is_mark (entries s n) u)
  where
    go : (b : Bool) → (elim b as (λ _. Core) [ true ↦ raise s u n | false ↦ enter s u n Frame ]).calls ≡ s.calls
    go true = refl
    go false = refl

pub frame-opens : (graph : Graph) (s : Core) (u n : ℕ) → frame graph s u n ≡ open_node graph (with_frame s u n) u n
frame-opens graph s u n = go (at is_mark (entries s n) u)
  where
    go : (b : Bool) → elim b as (λ _. Core) [ true ↦ open_node graph (raise s u n) u n | false ↦ open_node graph (enter s u n Frame) u n ] ≡ open_node graph (elim b as (λ _. Core) [ true ↦ raise s u n | false ↦ enter s u n Frame ]) u n
    go true = refl
    go false = refl

ensured-calls : (s : Core) (u i : ℕ) → (ensure_mark s u i).calls ≡ s.calls
ensured-calls s u i = go (has (entries s i) u)
  where
    go : (b : Bool) → (elim b as (λ _. Core) [ true ↦ s | false ↦ enter s u i Mark ]).calls ≡ s.calls
    go true = refl
    go false = refl

framed : (graph : Graph) (s : Core) (t u n : ℕ) → live s t ≡ true → call_of (frame graph s u n).calls t ≡ Some (after_others graph s (steps.Frame u n) (call s t))
framed graph s t u n l = ap (λ (q : Core). call_of q.calls t) (frame-opens graph s u n) ∙ subst (λ (v : ℕ). call_of (open_node graph (with_frame s u n) u n).calls t ≡ Some (elim (v == u) as (λ _. LiveCall) [ true ↦ f (call s t) | false ↦ call s t ])) (sym (call-version s t l)) (go (t == u) refl)
  where
    q : Core
    q = with_frame s u n

    f : LiveCall → LiveCall
    f = opened n (active_outs graph q u n)

    it : call_of q.calls t ≡ Some (call s t)
    it = ap (λ (cs : List LiveCall). call_of cs t) (with_frame-calls s u n) ∙ live-call s t l

    go : (b : Bool) → (t == u) ≡ b → call_of (with_call q u f).calls t ≡ Some (elim b as (λ _. LiveCall) [ true ↦ f (call s t) | false ↦ call s t ])
    go true e = subst (λ (w : ℕ). call_of (with_call q w f).calls t ≡ Some (f (call s t))) (eqb-true t u e) (change_call-same t f (λ c. refl) q.calls ∙ ap (option_call f) it)
    go false e = change_call-other u t f (λ c. refl) q.calls (λ x. both_ways _ e (eq-eqb t u x)) ∙ it

told : (graph : Graph) (s : Core) (t u n i : ℕ) → live s t ≡ true → call_of (apply graph s (steps.Discover u n i)).calls t ≡ Some (after_others graph s (steps.Discover u n i) (call s t))
told graph s t u n i l = map_call-reads (tell_call (entries q i) u n) (λ c. refl) q.calls t
    ∙ ap (λ (cs : List LiveCall). option_call (tell_call (entries q i) u n) (call_of cs t)) (ensured-calls s u i)
    ∙ ap (option_call (tell_call (entries q i) u n)) (live-call s t l)
    ∙ ap (λ (es : List Entry). Some (tell_call es u n (call s t))) (same_cell graph (ensure_mark s u i) i (add_edge n u) (λ c. refl) i)
  where
    q : Core
    q = with_cell (ensure_mark s u i) i (add_edge n u)

others-call : (graph : Graph) (s : Core) (step : Step) (t : ℕ) → live s t ≡ true → is_own_of t step ≡ false → call_of (apply graph s step).calls t ≡ Some (after_others graph s step (call s t))
others-call graph s (steps.Frame u n) t l o = framed graph s t u n l
others-call graph s (steps.Start u) t l o = other s t u _ (λ c. refl) l o
others-call graph s (steps.Skip u n) t l o = other s t u _ (λ c. refl) l o
others-call graph s (steps.Gather u n m) t l o = live-call s t l
others-call graph s (steps.Evaluate u n) t l o = other s t u _ (λ c. refl) l o
others-call graph s (steps.Body u n) t l o = live-call s t l
others-call graph s (steps.Resolve u n) t l o = other s t u _ (λ c. refl) l o
others-call graph s (steps.Discover u n i) t l o = told graph s t u n i l
others-call graph s (steps.Drop u n i) t l o = ap (λ (cs : List LiveCall). call_of cs t) (ensured-calls s u i) ∙ live-call s t l
others-call graph s (steps.Mark u m) t l o = live-call s t l
others-call graph s (steps.Look u) t l o = other s t u _ (λ c. refl) l o
others-call graph s (steps.End u) t l o = without_call-other u t s.calls (λ e. both_ways _ o (eq-eqb u t (sym e))) ∙ live-call s t l
others-call graph s (steps.Collect n) t l o = live-call s t l

pub others-move : (graph : Graph) (s : Core) (move : Move) (t : ℕ) → live s t ≡ true → is_own_move t move ≡ false → call_of (after_move graph s move).calls t ≡ Some (after_others_move graph s move (call s t))
others-move graph s (Begin caller c) t l o = call_of-append s.calls (new_call graph s caller c) t ∙ ap (λ (x : Option LiveCall). last_call x (new_call graph s caller c) t) (live-call s t l)
others-move graph s (Make step) t l o = others-call graph s step t l o

-- ---- what stays

pub stays : (c : LiveCall) → IsKept c c
stays c = record { caller = refl; version = refl; slot = refl; executing = refl; call = refl; sets = refl; looks = refl; changed = refl; evaluated = refl; looked = refl }

others-kept : (graph : Graph) (s : Core) (move : Move) (c : LiveCall) → IsKept c (after_others_move graph s move c)
others-kept graph s (Begin caller made) c = stays c
others-kept graph s (Make (steps.Frame u n)) c = go (c.version == u)
  where
    go : (b : Bool) → IsKept c (elim b as (λ _. LiveCall) [ true ↦ opened n (active_outs graph (with_frame s u n) u n) c | false ↦ c ])
    go true = record { caller = refl; version = refl; slot = refl; executing = refl; call = refl; sets = refl; looks = refl; changed = refl; evaluated = refl; looked = refl }
    go false = stays c
others-kept graph s (Make (steps.Start u)) c = stays c
others-kept graph s (Make (steps.Skip u n)) c = stays c
others-kept graph s (Make (steps.Gather u n m)) c = stays c
others-kept graph s (Make (steps.Evaluate u n)) c = stays c
others-kept graph s (Make (steps.Body u n)) c = stays c
others-kept graph s (Make (steps.Resolve u n)) c = stays c
others-kept graph s (Make (steps.Discover u n i)) c = record { caller = refl; version = refl; slot = refl; executing = refl; call = refl; sets = refl; looks = refl; changed = refl; evaluated = refl; looked = refl }
others-kept graph s (Make (steps.Drop u n i)) c = stays c
others-kept graph s (Make (steps.Mark u m)) c = stays c
others-kept graph s (Make (steps.Look u)) c = stays c
others-kept graph s (Make (steps.End u)) c = stays c
others-kept graph s (Make (steps.Collect n)) c = stays c

others-reads : (graph : Graph) (s : Core) (move : Move) (t : ℕ) → live s t ≡ true → is_own_move t move ≡ false → call (after_move graph s move) t ≡ after_others_move graph s move (call s t)
others-reads graph s move t l o = ap call_or (others-move graph s move t l o)

pub others-live : (graph : Graph) (s : Core) (move : Move) (t : ℕ) → live s t ≡ true → is_own_move t move ≡ false → live (after_move graph s move) t ≡ true
others-live graph s move t l o = ap is_some (others-move graph s move t l o)

pub others-keep : (graph : Graph) (s : Core) (move : Move) (t : ℕ) → live s t ≡ true → is_own_move t move ≡ false → IsKept (call s t) (call (after_move graph s move) t)
others-keep graph s move t l o = subst (IsKept (call s t)) (sym (others-reads graph s move t l o)) (others-kept graph s move (call s t))

-- ---- what is open and wanted

-- what a call has open and wants, in its record
record Given (graph : Graph) (s : Core) (move : Move) (t : ℕ) (d : LiveCall) : Type 0 where
  opens : (m : ℕ) → is_in m d.open_nodes ≡ (opens s t m || is_opened_by t move m)
  wants : (m : ℕ) → is_in m d.wanted ≡ ((wants s t m && not (is_opened_by t move m)) || is_given_by graph s t move m)

nothing : (graph : Graph) (s : Core) (move : Move) (t : ℕ) → ((m : ℕ) → is_opened_by t move m ≡ false) → ((m : ℕ) → is_given_by graph s t move m ≡ false) → Given graph s move t (call s t)
nothing graph s move t a b = record {
  opens = λ m. let x = a m in rw x (closed (opens s t m));
  wants = λ m. let x = a m in let y = b m in rw (x, y) (open_it (wants s t m));
}
  where
    closed : (x : Bool) → x ≡ (x || false)
    closed true = refl
    closed false = refl

    open_it : (x : Bool) → x ≡ ((x && not false) || false)
    open_it true = refl
    open_it false = refl

frame-given : (graph : Graph) (s : Core) (t u n : ℕ) → live s t ≡ true → Given graph s (Make (steps.Frame u n)) t (after_others graph s (steps.Frame u n) (call s t))
frame-given graph s t u n l = subst (λ (v : ℕ). Given graph s (Make (steps.Frame u n)) t (elim (v == u) as (λ _. LiveCall) [ true ↦ opened n outs (call s t) | false ↦ call s t ])) (sym (call-version s t l)) (go (t == u) refl)
  where
    outs : List ℕ
    outs = active_outs graph (with_frame s u n) u n

    open_now : (x y e : Bool) → e ≡ true → (x || y) ≡ (y || (e && x))
    open_now x y e k = grind (arith, k)

    want_now : (x y w m o e : Bool) → e ≡ true → y ≡ (m || o) → ((x && not y) || (w && not m)) ≡ ((w && not (e && m)) || (e && (x && not (m || o))))
    want_now x y w m o e k j = grind (arith, k, j)

    go : (b : Bool) → (t == u) ≡ b → Given graph s (Make (steps.Frame u n)) t (elim b as (λ _. LiveCall) [ true ↦ opened n outs (call s t) | false ↦ call s t ])
    go true e = record {
      opens = λ m. in-put m n (call s t).open_nodes ∙ open_now (m == n) (opens s t m) (t == u) e;
      wants = λ m. in-put_all m (without outs (put n (call s t).open_nodes)) (take_out n (call s t).wanted)
          ∙ ap (λ (x : Bool). x || is_in m (take_out n (call s t).wanted)) (in-without m outs (put n (call s t).open_nodes))
          ∙ ap (λ (x : Bool). (is_in m outs && not (is_in m (put n (call s t).open_nodes))) || x) (in-take_out m n (call s t).wanted)
          ∙ want_now (is_in m outs) (is_in m (put n (call s t).open_nodes)) (wants s t m) (m == n) (opens s t m) (t == u) e (in-put m n (call s t).open_nodes);
    }
    go false e = nothing graph s (Make (steps.Frame u n)) t (λ m. rw e refl) (λ m. rw e refl)

tell-given : (graph : Graph) (s : Core) (t u n i : ℕ) → Given graph s (Make (steps.Discover u n i)) t (after_others graph s (steps.Discover u n i) (call s t))
tell-given graph s t u n i = record {
  opens = λ m. closed (opens s t m);
  wants = λ m. told-wants (is_told (entries (ensure_mark s u i) i) u n (call s t)) m n (call s t).wanted ∙ open_it (wants s t m) ((m == n) && is_told (entries (ensure_mark s u i) i) u n (call s t));
}
  where
    closed : (x : Bool) → x ≡ (x || false)
    closed true = refl
    closed false = refl

    open_it : (x y : Bool) → (x || y) ≡ ((x && not false) || y)
    open_it true y = refl
    open_it false y = refl

given : (graph : Graph) (s : Core) (move : Move) (t : ℕ) → live s t ≡ true → Given graph s move t (after_others_move graph s move (call s t))
given graph s (Begin caller made) t l = nothing graph s (Begin caller made) t (λ m. refl) (λ m. refl)
given graph s (Make (steps.Frame u n)) t l = frame-given graph s t u n l
given graph s (Make (steps.Start u)) t l = nothing graph s (Make (steps.Start u)) t (λ m. refl) (λ m. refl)
given graph s (Make (steps.Skip u n)) t l = nothing graph s (Make (steps.Skip u n)) t (λ m. refl) (λ m. refl)
given graph s (Make (steps.Gather u n i)) t l = nothing graph s (Make (steps.Gather u n i)) t (λ m. refl) (λ m. refl)
given graph s (Make (steps.Evaluate u n)) t l = nothing graph s (Make (steps.Evaluate u n)) t (λ m. refl) (λ m. refl)
given graph s (Make (steps.Body u n)) t l = nothing graph s (Make (steps.Body u n)) t (λ m. refl) (λ m. refl)
given graph s (Make (steps.Resolve u n)) t l = nothing graph s (Make (steps.Resolve u n)) t (λ m. refl) (λ m. refl)
given graph s (Make (steps.Discover u n i)) t l = tell-given graph s t u n i
given graph s (Make (steps.Drop u n i)) t l = nothing graph s (Make (steps.Drop u n i)) t (λ m. refl) (λ m. refl)
given graph s (Make (steps.Mark u i)) t l = nothing graph s (Make (steps.Mark u i)) t (λ m. refl) (λ m. refl)
given graph s (Make (steps.Look u)) t l = nothing graph s (Make (steps.Look u)) t (λ m. refl) (λ m. refl)
given graph s (Make (steps.End u)) t l = nothing graph s (Make (steps.End u)) t (λ m. refl) (λ m. refl)
given graph s (Make (steps.Collect n)) t l = nothing graph s (Make (steps.Collect n)) t (λ m. refl) (λ m. refl)

pub others-give : (graph : Graph) (s : Core) (move : Move) (t : ℕ) → live s t ≡ true → is_own_move t move ≡ false → IsGiven graph s move (after_move graph s move) t
others-give graph s move t l o =
    let g = given graph s move t l in
    let e = others-reads graph s move t l o in
    record { opens = λ m. ap (λ (c : LiveCall). is_in m c.open_nodes) e ∙ g.opens m; wants = λ m. ap (λ (c : LiveCall). is_in m c.wanted) e ∙ g.wants m }
