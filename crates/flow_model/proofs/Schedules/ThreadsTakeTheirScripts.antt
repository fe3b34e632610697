-- A thread of a play: what it has begun and what was refused are told by how much of its script it has taken.
use Rattle.std.proofs.Common.{◌≡◌, ℕ, zero, suc, ◌+◌, ◌-◌, ◌<◌, ◌≤◌, Bool, true, false, ◌==◌, ◌⊎◌, inl, inr, refl, sym, ap, ap₂, arith, List, [], ◌∷◌, ◌++◌, length, true≢false, ◌∙◌, subst, Option, Some, None, append_assoc, append-nil}
use Rattle.std.proofs.lemmas.List.{length-append, map-append}
use Rattle.std.proofs.lemmas.Bool.{eq-eqb}
use Rattle.signal_graph.specs.declared.call.Call.{Call}
use Rattle.signal_graph.specs.declared.log.Refused.{Refused}
use Rattle.signal_graph.specs.declared.log.Why.{Why}
use Rattle.signal_graph.specs.declared.log.Why.TheVariants.{UnknownName, VersionsUsedUp}
use Rattle.signal_graph.specs.Graph.{Graph}
use Rattle.signal_graph.specs.Machine.{misnamed}
use Rattle.call_log.specs.Made.{well_named, IsPrefix}
use Rattle.call_log.specs.LeftOut.{why_not, refusal, left_out_from}
use Rattle.call_log.proofs.Prefixes.{prefix-whole, prefix-length, prefix-more}
use Rattle.flow_model.specs.declared.step.Step.{Step}
use Rattle.flow_model.specs.Machine.Histories.{Move, Begin, Make}
use Rattle.flow_model.specs.Machine.Schedules.{Thread, goes_on, refuses}
use Rattle.flow_model.specs.Follows.Callers.{count_begins, begun_from, begun_by, calls_of}
use Rattle.flow_model.proofs.Schedules.LeftOutByCall.{named-more, named-same, left_out-more, left_out-enough}

-- ---- one move more

-- the calls that thread i has begun
abbrev pub begun_calls : ℕ → List Move → List Call
begun_calls i moves = calls_of (begun_by (suc i) moves)

begun-more : (k from : ℕ) (xs : List Move) (move : Move) → begun_from k from (xs ++ move ∷ []) ≡ begun_from k from xs ++ begun_from k (from + count_begins xs) (move ∷ [])
begun-more k from [] move = ap (λ (n : ℕ). begun_from k n (move ∷ [])) (plus_zero from)
  where
    plus_zero : (a : ℕ) → a ≡ a + 0
    plus_zero a = omega arith
begun-more k from (Begin caller c ∷ xs) move = go (caller == k) (begun-more k (suc from) xs move ∙ ap (λ (n : ℕ). begun_from k (suc from) xs ++ begun_from k n (move ∷ [])) (plus_suc from (count_begins xs)))
  where
    plus_suc : (a b : ℕ) → suc a + b ≡ a + suc b
    plus_suc a b = omega arith

    go : (b : Bool) → begun_from k (suc from) (xs ++ move ∷ []) ≡ begun_from k (suc from) xs ++ begun_from k (from + suc (count_begins xs)) (move ∷ [])
        → elim b as (λ _. List (ℕ × Call)) [ true ↦ (suc from, c) ∷ begun_from k (suc from) (xs ++ move ∷ []) | false ↦ begun_from k (suc from) (xs ++ move ∷ []) ]
        ≡ elim b as (λ _. List (ℕ × Call)) [ true ↦ (suc from, c) ∷ begun_from k (suc from) xs | false ↦ begun_from k (suc from) xs ] ++ begun_from k (from + suc (count_begins xs)) (move ∷ [])
    go true r = ap (λ (ps : List (ℕ × Call)). (suc from, c) ∷ ps) r
    go false r = r
begun-more k from (Make step ∷ xs) move = begun-more k from xs move

calls-more : (i : ℕ) (xs : List Move) (move : Move) → begun_calls i (xs ++ move ∷ []) ≡ begun_calls i xs ++ calls_of (begun_from (suc i) (0 + count_begins xs) (move ∷ []))
calls-more i xs move = ap calls_of (begun-more (suc i) 0 xs move) ∙ map-append (λ (p : ℕ × Call). p.1) (begun_by (suc i) xs) (begun_from (suc i) (0 + count_begins xs) (move ∷ []))

pub step-calls : (i : ℕ) (xs : List Move) (step : Step) → begun_calls i (xs ++ Make step ∷ []) ≡ begun_calls i xs
step-calls i xs step = calls-more i xs (Make step) ∙ append-nil (begun_calls i xs)

begin-calls : (i : ℕ) (xs : List Move) (c : Call) → begun_calls i (xs ++ Begin (suc i) c ∷ []) ≡ begun_calls i xs ++ c ∷ []
begin-calls i xs c = calls-more i xs (Begin (suc i) c) ∙ ap (λ (cs : List Call). begun_calls i xs ++ cs) (one (suc i == suc i) (eq-eqb (suc i) (suc i) refl))
  where
    one : (b : Bool) → b ≡ true → calls_of (elim b as (λ _. List (ℕ × Call)) [ true ↦ (suc (0 + count_begins xs), c) ∷ [] | false ↦ [] ]) ≡ c ∷ []
    one true e = refl
    one false e = absurd (true≢false (sym e))

pub begin-other_calls : (i j : ℕ) (xs : List Move) (c : Call) → (suc i == suc j) ≡ false → begun_calls j (xs ++ Begin (suc i) c ∷ []) ≡ begun_calls j xs
begin-other_calls i j xs c ne = calls-more j xs (Begin (suc i) c) ∙ ap (λ (cs : List Call). begun_calls j xs ++ cs) (none (suc i == suc j) ne) ∙ append-nil (begun_calls j xs)
  where
    none : (b : Bool) → b ≡ false → calls_of (elim b as (λ _. List (ℕ × Call)) [ true ↦ (suc (0 + count_begins xs), c) ∷ [] | false ↦ [] ]) ≡ []
    none true e = absurd (true≢false e)
    none false e = refl

pub step-count : (xs : List Move) (step : Step) → count_begins (xs ++ Make step ∷ []) ≡ count_begins xs
step-count [] step = refl
step-count (Begin caller c ∷ xs) step = ap suc (step-count xs step)
step-count (Make x ∷ xs) step = step-count xs step

pub begin-count : (xs : List Move) (caller : ℕ) (c : Call) → count_begins (xs ++ Begin caller c ∷ []) ≡ suc (count_begins xs)
begin-count [] caller c = refl
begin-count (Begin k x ∷ xs) caller c = ap suc (begin-count xs caller c)
begin-count (Make x ∷ xs) caller c = begin-count xs caller c

-- ---- prefixes

-- ---- threads

-- The thread has taken the first part of its script: it has begun the well-named calls of that part, or the first of them
-- where versions are used up, and the others were refused.
pub record ThreadRight (graph : Graph) (limit : ℕ) (script : List Call) (i : ℕ) (x : Thread) (moves : List Move) : Type 0 where
  pub taken : List Call
  pub split : script ≡ taken ++ x.left
  pub number : x.number ≡ 1 + length taken
  pub begun : (begun_calls i moves ≡ well_named graph taken) ⊎ ((limit ≤ count_begins moves) × IsPrefix (begun_calls i moves) (well_named graph taken))
  pub refused : x.refused ≡ left_out_from graph limit (suc i) 1 (length (begun_calls i moves)) taken

pub begun-prefix : (graph : Graph) (limit : ℕ) (script : List Call) (i : ℕ) (x : Thread) (moves : List Move) (r : ThreadRight graph limit script i x moves) → IsPrefix (begun_calls i moves) (well_named graph r.taken)
begun-prefix graph limit script i x moves r = go r.begun
  where
    go : (begun_calls i moves ≡ well_named graph r.taken) ⊎ ((limit ≤ count_begins moves) × IsPrefix (begun_calls i moves) (well_named graph r.taken)) → IsPrefix (begun_calls i moves) (well_named graph r.taken)
    go (inl e) = subst (λ (cs : List Call). IsPrefix (begun_calls i moves) cs) e (prefix-whole (begun_calls i moves))
    go (inr e) = e.1

-- after moves by which it begins nothing
pub thread-kept : (graph : Graph) (limit : ℕ) (script : List Call) (i : ℕ) (x : Thread) (moves now : List Move) → begun_calls i now ≡ begun_calls i moves → count_begins moves ≤ count_begins now → ThreadRight graph limit script i x moves → ThreadRight graph limit script i x now
thread-kept graph limit script i x moves now e l r = record {
  taken = r.taken;
  split = r.split;
  number = r.number;
  begun = go r.begun;
  refused = r.refused ∙ ap (λ (cs : List Call). left_out_from graph limit (suc i) 1 (length cs) r.taken) (sym e);
}
  where
    go : (begun_calls i moves ≡ well_named graph r.taken) ⊎ ((limit ≤ count_begins moves) × IsPrefix (begun_calls i moves) (well_named graph r.taken)) → (begun_calls i now ≡ well_named graph r.taken) ⊎ ((limit ≤ count_begins now) × IsPrefix (begun_calls i now) (well_named graph r.taken))
    go (inl k) = inl (e ∙ k)
    go (inr k) = let a = k.0 in inr (omega (arith, a, l), subst (λ (cs : List Call). IsPrefix cs (well_named graph r.taken)) (sym e) k.1)

-- what is taken of the script with one call more
one_taken : (script taken left rest : List Call) (c : Call) → script ≡ taken ++ left → left ≡ c ∷ rest → script ≡ (taken ++ c ∷ []) ++ rest
one_taken script taken left rest c s e = s ∙ ap (λ (cs : List Call). taken ++ cs) e ∙ sym (append_assoc taken (c ∷ []) rest)

one_number : (n : ℕ) (taken : List Call) (c : Call) → n ≡ 1 + length taken → suc n ≡ 1 + length (taken ++ c ∷ [])
one_number n taken c e = let a = length-append taken (c ∷ []) in omega (arith, e, a)

-- It begins its next call.
pub thread-begins : (graph : Graph) (limit : ℕ) (script : List Call) (i : ℕ) (x : Thread) (moves : List Move) (c : Call) (rest : List Call) → x.left ≡ c ∷ rest → misnamed graph c ≡ None → count_begins moves < limit
    → ThreadRight graph limit script i x moves → ThreadRight graph limit script i (goes_on rest x) (moves ++ Begin (suc i) c ∷ [])
thread-begins graph limit script i x moves c rest e none few r = record {
  taken = r.taken ++ c ∷ [];
  split = one_taken script r.taken x.left rest c r.split e;
  number = one_number x.number r.taken c r.number;
  begun = inl (begin-calls i moves c ∙ ap (λ (cs : List Call). cs ++ c ∷ []) all ∙ sym (named-more graph r.taken c none));
  refused = r.refused
      ∙ sym (left_out-enough graph limit (suc i) 1 (length (begun_calls i moves)) r.taken (let l : length (begun_calls i moves) ≡ length (well_named graph r.taken) = ap length all in omega (arith, l)))
      ∙ sym (append-nil (left_out_from graph limit (suc i) 1 (suc (length (begun_calls i moves))) r.taken))
      ∙ ap (λ (rs : List Refused). left_out_from graph limit (suc i) 1 (suc (length (begun_calls i moves))) r.taken ++ rs) (sym (made (misnamed graph c) none (suc (length (begun_calls i moves)) - length (well_named graph r.taken)) some))
      ∙ sym (left_out-more graph limit (suc i) 1 (suc (length (begun_calls i moves))) r.taken c)
      ∙ ap (λ (n : ℕ). left_out_from graph limit (suc i) 1 n (r.taken ++ c ∷ [])) now;
}
  where
    all : begun_calls i moves ≡ well_named graph r.taken
    all = go r.begun
      where
        go : (begun_calls i moves ≡ well_named graph r.taken) ⊎ ((limit ≤ count_begins moves) × IsPrefix (begun_calls i moves) (well_named graph r.taken)) → begun_calls i moves ≡ well_named graph r.taken
        go (inl k) = k
        go (inr k) = let a = k.0 in absurd (omega (arith, a, few))

    now : suc (length (begun_calls i moves)) ≡ length (begun_calls i (moves ++ Begin (suc i) c ∷ []))
    now = let a = length-append (begun_calls i moves) (c ∷ []) in let b : length (begun_calls i (moves ++ Begin (suc i) c ∷ [])) ≡ length (begun_calls i moves ++ c ∷ []) = ap length (begin-calls i moves c) in omega (arith, a, b)

    some : suc (length (begun_calls i moves)) - length (well_named graph r.taken) ≡ 1
    some = let l : length (begun_calls i moves) ≡ length (well_named graph r.taken) = ap length all in omega (arith, l)

    made : (o : Option ℕ) → o ≡ None → (n : ℕ) → n ≡ 1 → refusal (suc i) (1 + length r.taken) (why_not limit n o) ≡ []
    made None k zero l = absurd (omega (arith, l))
    made None k (suc n) l = refl
    made (Some place) k n l = cc

-- Its next call is refused.
pub thread-refuses : (graph : Graph) (limit : ℕ) (script : List Call) (i : ℕ) (x : Thread) (moves : List Move) (c : Call) (rest : List Call) (why : Why) → x.left ≡ c ∷ rest
    → ((place : ℕ) → misnamed graph c ≡ Some place → why ≡ UnknownName place) → (misnamed graph c ≡ None → (why ≡ VersionsUsedUp limit) × (limit ≤ count_begins moves))
    → ThreadRight graph limit script i x moves → ThreadRight graph limit script i (refuses (suc i) why rest x) moves
thread-refuses graph limit script i x moves c rest why e unknown used r = record {
  taken = r.taken ++ c ∷ [];
  split = one_taken script r.taken x.left rest c r.split e;
  number = one_number x.number r.taken c r.number;
  begun = begun (misnamed graph c) refl r.begun;
  refused = ap₂ (λ (rs : List Refused) (n : ℕ). rs ++ record { caller = suc i; number = n; why = why } ∷ []) r.refused r.number
      ∙ ap (λ (rs : List Refused). left_out_from graph limit (suc i) 1 made r.taken ++ rs) (sym (last (misnamed graph c) refl (made - length (well_named graph r.taken)) none))
      ∙ sym (left_out-more graph limit (suc i) 1 made r.taken c);
}
  where
    made : ℕ
    made = length (begun_calls i moves)

    begun : (o : Option ℕ) → misnamed graph c ≡ o → (begun_calls i moves ≡ well_named graph r.taken) ⊎ ((limit ≤ count_begins moves) × IsPrefix (begun_calls i moves) (well_named graph r.taken))
        → (begun_calls i moves ≡ well_named graph (r.taken ++ c ∷ [])) ⊎ ((limit ≤ count_begins moves) × IsPrefix (begun_calls i moves) (well_named graph (r.taken ++ c ∷ [])))
    begun (Some place) m (inl k) = inl (k ∙ sym (named-same graph r.taken c place m))
    begun (Some place) m (inr k) = inr (k.0, subst (λ (cs : List Call). IsPrefix (begun_calls i moves) cs) (sym (named-same graph r.taken c place m)) k.1)
    begun None m k = inr ((used m).1, subst (λ (cs : List Call). IsPrefix (begun_calls i moves) cs) (sym (named-more graph r.taken c m)) (prefix-more (begun_calls i moves) (well_named graph r.taken) (c ∷ []) (begun-prefix graph limit script i x moves r)))

    none : made - length (well_named graph r.taken) ≡ 0
    none = let l = prefix-length (begun_calls i moves) (well_named graph r.taken) (begun-prefix graph limit script i x moves r) in omega (arith, l)

    last : (o : Option ℕ) → misnamed graph c ≡ o → (n : ℕ) → n ≡ 0 → refusal (suc i) (1 + length r.taken) (why_not limit n o) ≡ record { caller = suc i; number = 1 + length r.taken; why = why } ∷ []
    last (Some place) m n z = ap (λ (w : Why). record { caller = suc i; number = 1 + length r.taken; why = w } ∷ []) (sym (unknown place m))
    last None m zero z = ap (λ (w : Why). record { caller = suc i; number = 1 + length r.taken; why = w } ∷ []) (sym (used m).0)
    last None m (suc n) z = absurd (omega (arith, z))
