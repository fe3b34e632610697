-- A caller makes its script call by call.
use Rattle.std.proofs.Common.{◌≡◌, ℕ, zero, suc, ◌+◌, ◌-◌, ◌≤◌, ◌⊎◌, inl, inr, refl, sym, ap, arith, List, [], ◌∷◌, ◌++◌, length, take, drop, take-append-drop, get_or, ◌<◌, ◌∙◌, subst, Option, Some, None, append_assoc, append-nil}
use Rattle.std.proofs.lemmas.List.Elements.{filter-append}
use Rattle.std.proofs.lemmas.List.{length-append, length-take, take_more}
use Rattle.signal_graph.specs.declared.call.Call.{Call}
use Rattle.signal_graph.specs.declared.log.Refused.{Refused}
use Rattle.signal_graph.specs.declared.log.Why.{Why}
use Rattle.signal_graph.specs.declared.log.Why.TheVariants.{UnknownName, VersionsUsedUp}
use Rattle.signal_graph.specs.Graph.{Graph}
use Rattle.signal_graph.specs.Machine.{misnamed}
use Rattle.call_log.specs.Made.{is_well_named, well_named, IsPrefix}
use Rattle.call_log.specs.LeftOut.{why_not, refusal, left_out_from}
use Rattle.call_log.proofs.Prefixes.{prefix-whole, prefix-length, prefix-more}
use Rattle.flow_model.specs.Machine.Histories.{Move}
use Rattle.flow_model.specs.Follows.Callers.{count_begins, begun_by, calls_of}
use Rattle.flow_model.proofs.Schedules.LeftOutByCall.{named-more, named-same, left_out-more, left_out-enough}
use Rattle.worker_gate.specs.Scripts.{GoesOn, HasMade, IsMade}
use Rattle.sweeper.specs.Answers.{refused_after}
use Rattle.worker_gate.specs.Calls.{Sees, IsTaken}
use Rattle.worker_gate.proofs.Turns.{used-up, misnamed-why}
use Rattle.worker_gate.proofs.Begun.{further-count, goes_nowhere, goes_further}

-- ---- prefixes

-- ---- nothing made

pub nothing-HasMade : (graph : Graph) (k : ℕ) (script : List Call) (old : List Move) → HasMade graph k script [] old old
nothing-HasMade graph k script old = record { further = goes_nowhere old; grown = sym (append-nil _); first = refl }

pub nothing-IsMade : (graph : Graph) (limit k : ℕ) (old : List Move) → IsMade graph limit k [] [] old old
nothing-IsMade graph limit k old = record { made = []; calls = nothing-HasMade graph k [] old; all = inl refl; others = refl }

-- ---- a part of a script

named-append : (graph : Graph) (xs ys : List Call) → well_named graph (xs ++ ys) ≡ well_named graph xs ++ well_named graph ys
named-append graph xs ys = filter-append (is_well_named graph) xs ys

-- What is made of a part of a script is made of the whole.
pub part-HasMade : (graph : Graph) (k : ℕ) (part rest script made : List Call) (old new : List Move) → part ++ rest ≡ script → HasMade graph k part made old new → HasMade graph k script made old new
part-HasMade graph k part rest script made old new e m = record {
  further = m.further;
  grown = m.grown;
  first = subst (λ (cs : List Call). IsPrefix made cs) (sym (named-append graph part rest) ∙ ap (well_named graph) e) (prefix-more made (well_named graph part) (well_named graph rest) m.first);
}

-- A caller goes on without a call of its own.
pub on-HasMade : (graph : Graph) (k : ℕ) (script made : List Call) (old mid new : List Move) → HasMade graph k script made old mid → GoesOn mid new → calls_of (begun_by k new) ≡ calls_of (begun_by k mid) → HasMade graph k script made old new
on-HasMade graph k script made old mid new m on same = record { further = goes_further old mid new m.further on; grown = same ∙ m.grown; first = m.first }

-- ---- one call more

-- The next call is made.
pub one-made : (graph : Graph) (limit k : ℕ) (script : List Call) (refused : List Refused) (old mid new : List Move) (c : Call) → IsMade graph limit k script refused old mid → misnamed graph c ≡ None
    → GoesOn mid new → calls_of (begun_by k new) ≡ calls_of (begun_by k mid) ++ c ∷ [] → suc (count_begins mid) ≤ count_begins new → count_begins new ≤ limit
    → IsMade graph limit k (script ++ c ∷ []) refused old new
one-made graph limit k script refused old mid new c m none on grown more within = record {
  made = m.made ++ c ∷ [];
  calls = record {
    further = goes_further old mid new m.calls.further on;
    grown = grown ∙ ap (λ (cs : List Call). cs ++ c ∷ []) m.calls.grown ∙ append_assoc (calls_of (begun_by k old)) m.made (c ∷ []);
    first = subst (λ (cs : List Call). IsPrefix (m.made ++ c ∷ []) cs) whole (prefix-whole (m.made ++ c ∷ []));
  };
  all = inl whole;
  others = m.others
      ∙ sym (left_out-enough graph limit k 1 (length m.made) script (omega (arith, long)))
      ∙ sym (append-nil (left_out_from graph limit k 1 (suc (length m.made)) script))
      ∙ ap (λ (rs : List Refused). left_out_from graph limit k 1 (suc (length m.made)) script ++ rs) (sym (none_out (misnamed graph c) none (suc (length m.made) - length (well_named graph script)) (omega (arith, long))))
      ∙ sym (left_out-more graph limit k 1 (suc (length m.made)) script c)
      ∙ ap (λ (n : ℕ). left_out_from graph limit k 1 n (script ++ c ∷ [])) (let a = length-append m.made (c ∷ []) in omega (arith, a));
}
  where
    every : m.made ≡ well_named graph script
    every = go m.all
      where
        go : (m.made ≡ well_named graph script) ⊎ (count_begins mid ≡ limit) → m.made ≡ well_named graph script
        go (inl e) = e
        go (inr e) = absurd (omega (arith, e, more, within))

    long : length m.made ≡ length (well_named graph script)
    long = ap length every

    whole : m.made ++ c ∷ [] ≡ well_named graph (script ++ c ∷ [])
    whole = ap (λ (cs : List Call). cs ++ c ∷ []) every ∙ sym (named-more graph script c none)

    none_out : (o : Option ℕ) → o ≡ None → (n : ℕ) → n ≡ 1 → refusal k (1 + length script) (why_not limit n o) ≡ []
    none_out None e zero l = absurd (omega (arith, l))
    none_out None e (suc n) l = refl
    none_out (Some place) e n l = cc

-- The next call is refused.
pub one-refused : (graph : Graph) (limit k : ℕ) (script : List Call) (refused : List Refused) (old mid new : List Move) (c : Call) (why : Why) → IsMade graph limit k script refused old mid
    → GoesOn mid new → calls_of (begun_by k new) ≡ calls_of (begun_by k mid) → count_begins new ≤ limit
    → ((place : ℕ) → misnamed graph c ≡ Some place → why ≡ UnknownName place) → (misnamed graph c ≡ None → (why ≡ VersionsUsedUp limit) × (count_begins new ≡ limit))
    → IsMade graph limit k (script ++ c ∷ []) (refused ++ record { caller = k; number = 1 + length script; why = why } ∷ []) old new
one-refused graph limit k script refused old mid new c why m on same within unknown used = record {
  made = m.made;
  calls = record {
    further = goes_further old mid new m.calls.further on;
    grown = same ∙ m.calls.grown;
    first = first (misnamed graph c) refl;
  };
  all = all (misnamed graph c) refl m.all;
  others = ap (λ (rs : List Refused). rs ++ record { caller = k; number = 1 + length script; why = why } ∷ []) m.others
      ∙ ap (λ (rs : List Refused). left_out_from graph limit k 1 (length m.made) script ++ rs) (sym (last (misnamed graph c) refl (length m.made - length (well_named graph script)) none))
      ∙ sym (left_out-more graph limit k 1 (length m.made) script c);
}
  where
    first : (o : Option ℕ) → misnamed graph c ≡ o → IsPrefix m.made (well_named graph (script ++ c ∷ []))
    first (Some place) e = subst (λ (cs : List Call). IsPrefix m.made cs) (sym (named-same graph script c place e)) m.calls.first
    first None e = subst (λ (cs : List Call). IsPrefix m.made cs) (sym (named-more graph script c e)) (prefix-more m.made (well_named graph script) (c ∷ []) m.calls.first)

    all : (o : Option ℕ) → misnamed graph c ≡ o → (m.made ≡ well_named graph script) ⊎ (count_begins mid ≡ limit) → (m.made ≡ well_named graph (script ++ c ∷ [])) ⊎ (count_begins new ≡ limit)
    all None e a = inr (used e).1
    all (Some place) e (inl a) = inl (a ∙ sym (named-same graph script c place e))
    all (Some place) e (inr a) = let l = further-count mid new on in inr (omega (arith, a, l, within))

    none : length m.made - length (well_named graph script) ≡ 0
    none = let l = prefix-length m.made (well_named graph script) m.calls.first in omega (arith, l)

    last : (o : Option ℕ) → misnamed graph c ≡ o → (n : ℕ) → n ≡ 0 → refusal k (1 + length script) (why_not limit n o) ≡ record { caller = k; number = 1 + length script; why = why } ∷ []
    last (Some place) e n z = ap (λ (w : Why). record { caller = k; number = 1 + length script; why = w } ∷ []) (sym (unknown place e))
    last None e zero z = ap (λ (w : Why). record { caller = k; number = 1 + length script; why = w } ∷ []) (sym (used e).0)
    last None e (suc n) z = absurd (omega (arith, z))

-- ---- one call more, as a worker takes it

pub taken-IsMade : (graph : Graph) (limit k number : ℕ) (script : List Call) (listed now : List Refused) (old mid new : List Move) (c : Call) → IsMade graph limit k script listed old mid → number ≡ 1 + length script
    → IsTaken graph limit k number c mid new listed now → IsMade graph limit k (script ++ c ∷ []) now old new
taken-IsMade graph limit k number script listed now old mid new c m n (inl t) =
    subst (λ (rs : List Refused). IsMade graph limit k (script ++ c ∷ []) rs old new) (sym t.2)
    (one-made graph limit k script listed old mid new c m t.0.named t.0.further t.0.grown t.0.more t.1)
taken-IsMade graph limit k number script listed now old mid new c m n (inr t) =
    let r = t.1 in
    let why : refused_after graph limit c new ≡ Some t.2.0 = sym r.why ∙ t.2.1 in
    subst (λ (rs : List Refused). IsMade graph limit k (script ++ c ∷ []) rs old new) (sym (t.2.2 ∙ ap (λ (i : ℕ). listed ++ record { caller = k; number = i; why = t.2.0 } ∷ []) n))
    (one-refused graph limit k script listed old mid new c t.2.0 m r.sees.0 r.sees.1 r.within
    (λ place e. misnamed-why (count_begins new) limit place (misnamed graph c) t.2.0 why e)
    (λ e. used-up (count_begins new) limit (misnamed graph c) t.2.0 r.within why e))

-- A part of a script was made, and then there was no memory.
pub cut-HasMade : (graph : Graph) (limit k index : ℕ) (script : List Call) (listed : List Refused) (old mid new : List Move) → IsMade graph limit k (take index script) listed old mid → Sees k mid new
    → (made : List Call) × HasMade graph k script made old new
cut-HasMade graph limit k index script listed old mid new m s =
    (m.made, part-HasMade graph k (take index script) (drop index script) script m.made old new (take-append-drop index script) (on-HasMade graph k (take index script) m.made old mid new m.calls s.0 s.1))

-- one call more of a script, by its index
pub next-IsMade : (graph : Graph) (limit k who number index : ℕ) (script : List Call) (listed now : List Refused) (old mid new : List Move) (c : Call) → IsMade graph limit k (take index script) listed old mid
    → who ≡ k → number ≡ 1 + index → c ≡ get_or script index c → index < length script
    → IsTaken graph limit who number c mid new listed now → IsMade graph limit k (take (index + 1) script) now old new
next-IsMade graph limit k who number index script listed now old mid new c m same n at below t =
    subst (λ (cs : List Call). IsMade graph limit k cs now old new) (ap (λ (x : Call). take index script ++ x ∷ []) at ∙ sym (take_more script index c below))
    (taken-IsMade graph limit k number (take index script) listed now old mid new c m (let l = length-take index script in omega (arith, n, l, below)) (subst (λ (i : ℕ). IsTaken graph limit i number c mid new listed now) same t))
