-- A call comes to want nodes, one after the other.
use Rattle.std.proofs.Common.{◌≡◌, ℕ, zero, suc, ◌+◌, ◌<◌, Bool, true, false, ◌==◌, List, [], ◌∷◌, ◌++◌, Some, None, length, get_or, drop, refl, sym, ap, ◌∙◌, subst, arith}
use Rattle.std.proofs.lemmas.List.{drop_more}
use Rattle.node_versions.specs.declared.entry.Entry.{Entry}
use Rattle.std.specs.Prelude.{slice_get}
use Rattle.node_versions.specs.Entries.{OutEdge, is_active, active_nodes, since_at}
use Rattle.signal_graph.specs.Graph.{is_in}
use Rattle.flow_model.specs.Machine.Sets.{put, put_all, take_out, without}
use Rattle.flow_model.specs.Machine.State.{LiveCall, change_call}
use Rattle.flow_model.specs.Machine.Changes.{opened}
use Rattle.flow_state.specs.Booked.{Booked, live_in, node_count, on_call, opened_one, wanting}
use Rattle.flow_state.proofs.BookLemmas.{has-change}
use Rattle.flow_state.proofs.SeatLemmas.{change-is}
use Rattle.framing.specs.Framed.{wanting_all, AreBelow, EdgesBelow}

-- ---- changes of one call, one after the other

pub change-twice : (t : ℕ) (f g : LiveCall → LiveCall) (cs : List LiveCall) → ((c : LiveCall) → (f c).version ≡ c.version) → change_call t g (change_call t f cs) ≡ change_call t (λ c. g (f c)) cs
change-twice t f g [] same = refl
change-twice t f g (c ∷ cs) same = go (c.version == t) refl (change-twice t f g cs same)
  where
    go : (b : Bool) → (c.version == t) ≡ b → change_call t g (change_call t f cs) ≡ change_call t (λ c. g (f c)) cs → change_call t g (change_call t f (c ∷ cs)) ≡ change_call t (λ c. g (f c)) (c ∷ cs)
    go true e r = ap (change_call t g) (change-is t f c cs true e) ∙ change-is t g (f c) cs true (ap (λ v. v == t) (same c) ∙ e) ∙ sym (change-is t (λ c. g (f c)) c cs true e)
    go false e r = ap (change_call t g) (change-is t f c cs false e) ∙ change-is t g c (change_call t f cs) false e ∙ ap (λ (ds : List LiveCall). c ∷ ds) r ∙ sym (change-is t (λ c. g (f c)) c cs false e)

pub change-none : (t : ℕ) (cs : List LiveCall) → change_call t (λ c. c) cs ≡ cs
change-none t [] = refl
change-none t (c ∷ cs) = go (c.version == t) (change-none t cs)
  where
    go : (b : Bool) → change_call t (λ c. c) cs ≡ cs → elim b as (λ _. List LiveCall) [ true ↦ c ∷ cs | false ↦ c ∷ change_call t (λ c. c) cs ] ≡ c ∷ cs
    go true r = refl
    go false r = ap (λ (ds : List LiveCall). c ∷ ds) r

abbrev with_calls_in : Booked → List LiveCall → Booked
with_calls_in book cs = record book { book = record book.book { calls = cs } }

pub on-twice : (book : Booked) (t : ℕ) (f g : LiveCall → LiveCall) → ((c : LiveCall) → (f c).version ≡ c.version) → on_call (on_call book t f) t g ≡ on_call book t (λ c. g (f c))
on-twice book t f g same = ap (with_calls_in book) (change-twice t f g book.book.calls same)

pub on-none : (book : Booked) (t : ℕ) → on_call book t (λ c. c) ≡ book
on-none book t = ap (with_calls_in book) (change-none t book.book.calls)

pub live-on : (book : Booked) (t u : ℕ) (f : LiveCall → LiveCall) → ((c : LiveCall) → (f c).version ≡ c.version) → live_in (on_call book t f) u ≡ live_in book u
live-on book t u f same = has-change t u f book.book.calls same

-- ---- a walk over the nodes that are to be wanted

-- What is left to want makes of the book so far what all makes of the first one; the call lives, and the nodes are as many.
pub record IsWanting (first book : Booked) (t : ℕ) (all left : List ℕ) : Type 0 where
  pub is : on_call book t (wanting_all left) ≡ on_call first t (wanting_all all)
  pub lives : live_in book t ≡ true
  pub nodes : node_count book ≡ node_count first

pub wanting_begins : (book : Booked) (t : ℕ) (all : List ℕ) → live_in book t ≡ true → IsWanting book book t all all
wanting_begins book t all lives = record { is = refl; lives = lives; nodes = refl }

pub wanting_more : (first book new : Booked) (t n : ℕ) (all rest left : List ℕ) → IsWanting first book t all left → left ≡ n ∷ rest → new ≡ on_call book t (wanting n) → IsWanting first new t all rest
wanting_more first book new t n all rest left so cons is = record {
  is = ap (λ (b : Booked). on_call b t (wanting_all rest)) is ∙ on-twice book t (wanting n) (wanting_all rest) (λ _. refl) ∙ ap (λ (ns : List ℕ). on_call book t (wanting_all ns)) (sym cons) ∙ so.is;
  lives = ap (λ (b : Booked). live_in b t) is ∙ live-on book t t (wanting n) (λ _. refl) ∙ so.lives;
  nodes = ap node_count is ∙ so.nodes;
}

pub wanting_same : (first book new : Booked) (t : ℕ) (all rest left : List ℕ) → IsWanting first book t all left → left ≡ rest → new ≡ book → IsWanting first new t all rest
wanting_same first book new t all rest left so same is = subst (λ (b : Booked). IsWanting first b t all rest) (sym is) (subst (IsWanting first book t all) same so)

pub wanting_ends : (first book : Booked) (t : ℕ) (all left : List ℕ) → IsWanting first book t all left → left ≡ [] → book ≡ on_call first t (wanting_all all)
wanting_ends first book t all left so none = sym (on-none book t) ∙ ap (λ (ns : List ℕ). on_call book t (wanting_all ns)) (sym none) ∙ so.is

pub below_at : (size : ℕ) (ns : List ℕ) (i d : ℕ) → i < length ns → AreBelow size ns → get_or ns i d < size
below_at size [] i d h all = absurd (omega (arith, h))
below_at size (x ∷ xs) zero d h all = all.0
below_at size (x ∷ xs) (suc i) d h all = below_at size xs i d (omega (arith, h)) all.1

pub edge_below : (size : ℕ) (outs : List OutEdge) (i : ℕ) (d : OutEdge) → i < length outs → EdgesBelow size outs → (get_or outs i d).0 < size
edge_below size [] i d h all = absurd (omega (arith, h))
edge_below size (x ∷ xs) zero d h all = all.0
edge_below size (x ∷ xs) (suc i) d h all = edge_below size xs i d (omega (arith, h)) all.1

active-step : (es : List Entry) (edge : OutEdge) (outs : List OutEdge) (t : ℕ) (b : Bool) → is_active es edge.1 t ≡ b → active_nodes es (edge ∷ outs) t ≡ elim b [ true ↦ edge.0 ∷ active_nodes es outs t | false ↦ active_nodes es outs t ]
active-step es edge outs t b e = ap (λ (b : Bool). elim b [ true ↦ edge.0 ∷ active_nodes es outs t | false ↦ active_nodes es outs t ]) e

pub active_more : (es : List Entry) (outs : List OutEdge) (t i : ℕ) (d : OutEdge) → i < length outs → is_active es (get_or outs i d).1 t ≡ true → active_nodes es (drop i outs) t ≡ (get_or outs i d).0 ∷ active_nodes es (drop (i + 1) outs) t
active_more es outs t i d h e = ap (λ (xs : List OutEdge). active_nodes es xs t) (drop_more outs i d h) ∙ active-step es (get_or outs i d) (drop (i + 1) outs) t true e

pub active_skip : (es : List Entry) (outs : List OutEdge) (t i : ℕ) (d : OutEdge) → i < length outs → is_active es (get_or outs i d).1 t ≡ false → active_nodes es (drop i outs) t ≡ active_nodes es (drop (i + 1) outs) t
active_skip es outs t i d h e = ap (λ (xs : List OutEdge). active_nodes es xs t) (drop_more outs i d h) ∙ active-step es (get_or outs i d) (drop (i + 1) outs) t false e

-- ---- what opening a node comes to

abbrev with_sets : LiveCall → List ℕ → List ℕ → LiveCall
with_sets c w o = record c { wanted = w; open_nodes = o }

wanted-all : (c : LiveCall) (ns w o : List ℕ) → wanting_all ns (with_sets c w o) ≡ with_sets c (put_all (without ns o) w) o
wanted-all c [] w o = refl
wanted-all c (n ∷ ns) w o = go (is_in n o) (λ (v : List ℕ). wanted-all c ns v o)
  where
    go : (b : Bool) → ((v : List ℕ) → wanting_all ns (with_sets c v o) ≡ with_sets c (put_all (without ns o) v) o) → wanting_all ns (with_sets c (elim b [ true ↦ w | false ↦ put n w ]) o) ≡ with_sets c (put_all (elim b [ true ↦ without ns o | false ↦ n ∷ without ns o ]) w) o
    go true r = r w
    go false r = r (put n w)

pub all-append : (xs ys : List ℕ) (c : LiveCall) → wanting_all ys (wanting_all xs c) ≡ wanting_all (xs ++ ys) c
all-append [] ys c = refl
all-append (x ∷ xs) ys c = all-append xs ys (wanting x c)

pub opened-all : (n : ℕ) (ns : List ℕ) (c : LiveCall) → wanting_all ns (opened_one n c) ≡ opened n ns c
opened-all n ns c = wanted-all c ns (take_out n c.wanted) (put n c.open_nodes)

pub all-version : (ns : List ℕ) (c : LiveCall) → (wanting_all ns c).version ≡ c.version
all-version [] c = refl
all-version (n ∷ ns) c = all-version ns (wanting n c)

pub edge_at : (outs : List OutEdge) (i : ℕ) (e d : OutEdge) → slice_get outs i ≡ Some e → (i < length outs) × (get_or outs i d ≡ e)
edge_at [] i e d h = absurd (none_some e h)
  where
    none_some : (e : OutEdge) → None ≡ Some e → ⊥
    none_some e h = cc
edge_at (x ∷ xs) zero e d h = (omega arith, same x e h)
  where
    same : (x e : OutEdge) → Some x ≡ Some e → x ≡ e
    same x e h = cc
edge_at (x ∷ xs) (suc i) e d h = let r = edge_at xs i e d h in (let b = r.0 in omega (arith, b), r.1)

pub active_taken : (es : List Entry) (outs : List OutEdge) (t i : ℕ) (e : OutEdge) → slice_get outs i ≡ Some e → is_active es (since_at outs i) t ≡ true → active_nodes es (drop i outs) t ≡ e.0 ∷ active_nodes es (drop (i + 1) outs) t
active_taken es outs t i e h a = let p = edge_at outs i e (0, 0) h in active_more es outs t i (0, 0) p.0 a ∙ ap (λ (x : OutEdge). x.0 ∷ active_nodes es (drop (i + 1) outs) t) p.1

pub edge_in : (size : ℕ) (outs : List OutEdge) (i : ℕ) (e : OutEdge) → slice_get outs i ≡ Some e → EdgesBelow size outs → e.0 < size
edge_in size outs i e h all = let p = edge_at outs i e (0, 0) h in subst (λ (x : OutEdge). x.0 < size) p.1 (edge_below size outs i (0, 0) p.0 all)
