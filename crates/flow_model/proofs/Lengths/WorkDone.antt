-- The amount of work that the first open call has done at a node rises with what is gathered, found, evaluated, added and dropped.
use Rattle.std.proofs.Common.{◌≡◌, ℕ, ◌+◌, ◌≤◌, Bool, true, false, ◌&&◌, not, refl, sym, ap, arith, List, true≢false, ◌∙◌, subst, Option, Some, None}
use Rattle.std.specs.Prelude.{is_some}
use Rattle.script_tree.specs.declared.value.Value.{Value}
use Rattle.signal_graph.specs.Graph.{Graph, node_at, is_in, inputs_of}
use Rattle.signal_graph.specs.Values.{nodes_in}
use Rattle.node_versions.specs.Entries.{last_done, state_of, picks_of, has_node}
use Rattle.flow_model.specs.Machine.State.{Core, Found, cell, entries, outs}
use Rattle.flow_model.specs.Machine.Words.{gathered_of, picks_of_found}
use Rattle.flow_model.proofs.General.Sums.{bit, bit-le, count, count-le, count-falls}

-- the picks of the node's last Done
abbrev pub last_picks : Core → ℕ → List ℕ
last_picks s n = nodes_in (picks_of (state_of (last_done (entries s n))))

-- What a node's work is counted by: whether a node is gathered, what is found, whether the body is evaluated, the picks of the
-- last Done, and whether a node has an edge to this one.
pub record Progress : Type 0 where
  pub gathered : ℕ → Bool
  pub found : Option Found
  pub body : Bool
  pub last : List ℕ
  pub edge : ℕ → Bool

-- the candidates that are found
abbrev pub candidates : Option Found → List ℕ
candidates f = nodes_in (picks_of_found f)

-- a found candidate with a new edge, and a pick of the last Done without its edge
abbrev pub is_added : Progress → ℕ → Bool
is_added p c = not (is_in c p.last) && p.edge c

abbrev pub is_taken : Progress → ℕ → Bool
is_taken p o = not (p.edge o)

abbrev pub found_work : Option Found → Progress → ℕ
found_work None p = 0
found_work (Some f) p = 1 + (count p.gathered (candidates (Some f)) + (bit p.body + (count (is_added p) (candidates (Some f)) + count (is_taken p) p.last)))

abbrev pub work_of : List ℕ → Progress → ℕ
work_of inputs p = count p.gathered inputs + found_work p.found p

abbrev pub has_gathered : List (ℕ × Value) → ℕ → Bool
has_gathered g m = is_some (gathered_of m g)

abbrev pub progress : Core → ℕ → Progress
progress s n = record { gathered = has_gathered (cell s n).gathered; found = (cell s n).found; body = is_some (cell s n).body; last = last_picks s n; edge = λ m. has_node (outs s m) n }

abbrev pub work : Graph → Core → ℕ → ℕ
work graph s n = work_of (inputs_of (node_at graph n)) (progress s n)

-- ---- more work

-- What has been done is done, with the same picks before.
pub record Further (p q : Progress) : Type 0 where
  pub gathered : (m : ℕ) → p.gathered m ≡ true → q.gathered m ≡ true
  pub found : q.found ≡ p.found
  pub body : p.body ≡ true → q.body ≡ true
  pub last : q.last ≡ p.last
  pub added : (c : ℕ) → is_in c (candidates p.found) ≡ true → is_in c p.last ≡ false → p.edge c ≡ true → q.edge c ≡ true
  pub taken : (o : ℕ) → is_in o p.last ≡ true → p.edge o ≡ false → q.edge o ≡ false

-- the parts of the work behind what is found
record Parts (f : Found) (p q : Progress) (a b c d : ℕ) : Type 0 where
  gathers : count p.gathered (candidates (Some f)) + a ≤ count q.gathered (candidates (Some f))
  bodies : bit p.body + b ≤ bit q.body
  adds : count (is_added p) (candidates (Some f)) + c ≤ count (is_added q) (candidates (Some f))
  takes : count (is_taken p) p.last + d ≤ count (is_taken q) q.last

same-added : (p q : Progress) → Further p q → (c : ℕ) → is_in c (candidates p.found) ≡ true → is_added p c ≡ true → is_added q c ≡ true
same-added p q w c i k = ap (λ (xs : List ℕ). not (is_in c xs) && q.edge c) w.last ∙ both (is_in c p.last) (p.edge c) (q.edge c) k (λ e. w.added c i e)
  where
    both : (x y z : Bool) → (not x && y) ≡ true → (x ≡ false → y ≡ true → z ≡ true) → (not x && z) ≡ true
    both true y z h f = absurd (true≢false (sym h))
    both false y z h f = f refl h

same-taken : (p q : Progress) → Further p q → (o : ℕ) → is_in o p.last ≡ true → is_taken p o ≡ true → is_taken q o ≡ true
same-taken p q w o i k = turned (p.edge o) (q.edge o) k (w.taken o i)
  where
    turned : (x y : Bool) → not x ≡ true → (x ≡ false → y ≡ false) → not y ≡ true
    turned true y h f = absurd (true≢false (sym h))
    turned false y h f = ap not (f refl)

plus-none : (a b : ℕ) → a ≤ b → a + 0 ≤ b
plus-none a b h = omega (arith, h)

count_last : (p q : Progress) → Further p q → count (is_taken q) q.last ≡ count (is_taken q) p.last
count_last p q w = ap (count (is_taken q)) w.last

parts-stay : (f : Found) (p q : Progress) → p.found ≡ Some f → Further p q → Parts f p q 0 0 0 0
parts-stay f p q e w = record {
  gathers = plus-none _ _ (count-le p.gathered q.gathered (candidates (Some f)) (λ m i k. w.gathered m k));
  bodies = plus-none _ _ (bit-le p.body q.body w.body);
  adds = plus-none _ _ (count-le (is_added p) (is_added q) (candidates (Some f)) (λ c i k. same-added p q w c (subst (λ (o : Option Found). is_in c (candidates o) ≡ true) (sym e) i) k));
  takes = let c = count-le (is_taken p) (is_taken q) p.last (λ o i k. same-taken p q w o i k) in let l = count_last p q w in plus-none _ _ (omega (arith, c, l));
}

found-parts : (f : Found) (p q : Progress) (a b c d : ℕ) → Parts f p q a b c d → found_work (Some f) p + (a + (b + (c + d))) ≤ found_work (Some f) q
found-parts f p q a b c d k = let x = k.gathers in let y = k.bodies in let z = k.adds in let u = k.takes in omega (arith, x, y, z, u)

found-stays : (p q : Progress) → Further p q → (o : Option Found) → p.found ≡ o → found_work p.found p ≤ found_work q.found q
found-stays p q w None e = let a = ap (λ (o : Option Found). found_work o p) e in omega (arith, a)
found-stays p q w (Some f) e =
    let a = ap (λ (o : Option Found). found_work o p) e in
    let b = ap (λ (o : Option Found). found_work o q) (w.found ∙ e) in
    let c = found-parts f p q 0 0 0 0 (parts-stay f p q e w) in
    omega (arith, a, b, c)

pub work-stays : (inputs : List ℕ) (p q : Progress) → Further p q → work_of inputs p ≤ work_of inputs q
work-stays inputs p q w =
    let a = count-le p.gathered q.gathered inputs (λ m i k. w.gathered m k) in
    let b = found-stays p q w p.found refl in
    omega (arith, a, b)

-- One of the parts rises: an input or a candidate is gathered, the body is evaluated, an edge is added or taken.
pub data Rises (inputs : List ℕ) (p q : Progress) : Type 0 where
  by_input : (m : ℕ) → is_in m inputs ≡ true → p.gathered m ≡ false → q.gathered m ≡ true → Rises inputs p q
  by_candidate : (m : ℕ) → is_in m (candidates p.found) ≡ true → p.gathered m ≡ false → q.gathered m ≡ true → Rises inputs p q
  by_body : is_some p.found ≡ true → p.body ≡ false → q.body ≡ true → Rises inputs p q
  by_edge : (c : ℕ) → is_in c (candidates p.found) ≡ true → is_in c p.last ≡ false → p.edge c ≡ false → q.edge c ≡ true → Rises inputs p q
  by_drop : (o : ℕ) → is_some p.found ≡ true → is_in o p.last ≡ true → p.edge o ≡ true → q.edge o ≡ false → Rises inputs p q

-- a progress where something is found
record IsFoundAs (p : Progress) : Type 0 where
  value : Found
  is : p.found ≡ Some value

found-as : (p : Progress) → is_some p.found ≡ true → IsFoundAs p
found-as p h = go p.found refl h
  where
    go : (o : Option Found) → p.found ≡ o → is_some o ≡ true → IsFoundAs p
    go None e k = absurd (true≢false (sym k))
    go (Some f) e k = record { value = f; is = e }

candidate-found : (p : Progress) (m : ℕ) → is_in m (candidates p.found) ≡ true → is_some p.found ≡ true
candidate-found p m h = go p.found h
  where
    go : (o : Option Found) → is_in m (candidates o) ≡ true → is_some o ≡ true
    go None k = absurd (true≢false (sym k))
    go (Some f) k = refl

-- the work by the parts behind what is found
by-parts : (inputs : List ℕ) (p q : Progress) → Further p q → (i : IsFoundAs p) → (a b c d : ℕ) → Parts i.value p q a b c d → 1 ≤ a + (b + (c + d)) → work_of inputs p + 1 ≤ work_of inputs q
by-parts inputs p q w i a b c d k l =
    let g = count-le p.gathered q.gathered inputs (λ m j x. w.gathered m x) in
    let x = ap (λ (o : Option Found). found_work o p) i.is in
    let y = ap (λ (o : Option Found). found_work o q) (w.found ∙ i.is) in
    let z = found-parts i.value p q a b c d k in
    omega (arith, g, x, y, z, l)

pub work-rises : (inputs : List ℕ) (p q : Progress) → Further p q → Rises inputs p q → work_of inputs p + 1 ≤ work_of inputs q
work-rises inputs p q w (by_input m i x y) =
    let a = count-falls p.gathered q.gathered m inputs i (λ m j k. w.gathered m k) x y in
    let b = found-stays p q w p.found refl in
    omega (arith, a, b)
work-rises inputs p q w (by_candidate m i x y) =
    let f = found-as p (candidate-found p m i) in
    let k = parts-stay f.value p q f.is w in
    by-parts inputs p q w f 1 0 0 0 (record {
      gathers = count-falls p.gathered q.gathered m (candidates (Some f.value)) (subst (λ (o : Option Found). is_in m (candidates o) ≡ true) f.is i) (λ m j k. w.gathered m k) x y;
      bodies = k.bodies;
      adds = k.adds;
      takes = k.takes;
    }) (omega arith)
work-rises inputs p q w (by_body i x y) =
    let f = found-as p i in
    let k = parts-stay f.value p q f.is w in
    by-parts inputs p q w f 0 1 0 0 (record { gathers = k.gathers; bodies = one p.body q.body x y; adds = k.adds; takes = k.takes }) (omega arith)
  where
    one : (x y : Bool) → x ≡ false → y ≡ true → bit x + 1 ≤ bit y
    one x y e f = rw (e, f) (omega arith)
work-rises inputs p q w (by_edge c i l x y) =
    let f = found-as p (candidate-found p c i) in
    let k = parts-stay f.value p q f.is w in
    let there = λ (o : ℕ) (j : is_in o (candidates (Some f.value)) ≡ true). subst (λ (z : Option Found). is_in o (candidates z) ≡ true) (sym f.is) j in
    let before : is_added p c ≡ false = rw (l, x) refl in
    let after : is_added q c ≡ true = ap (λ (xs : List ℕ). not (is_in c xs) && q.edge c) w.last ∙ rw (l, y) refl in
    by-parts inputs p q w f 0 0 1 0 (record {
      gathers = k.gathers;
      bodies = k.bodies;
      adds = count-falls (is_added p) (is_added q) c (candidates (Some f.value)) (subst (λ (o : Option Found). is_in c (candidates o) ≡ true) f.is i) (λ o j z. same-added p q w o (there o j) z) before after;
      takes = k.takes;
    }) (omega arith)
work-rises inputs p q w (by_drop o i l x y) =
    let f = found-as p i in
    let k = parts-stay f.value p q f.is w in
    let c = count-falls (is_taken p) (is_taken q) o p.last l (λ m j z. same-taken p q w m j z) (ap not x) (ap not y) in
    let e = count_last p q w in
    by-parts inputs p q w f 0 0 0 1 (record { gathers = k.gathers; bodies = k.bodies; adds = k.adds; takes = omega (arith, c, e) }) (omega arith)

-- Something is found where nothing was.
pub work-found : (inputs : List ℕ) (p q : Progress) → q.gathered ≡ p.gathered → p.found ≡ None → is_some q.found ≡ true → work_of inputs p + 1 ≤ work_of inputs q
work-found inputs p q g n f = some q.found refl f
  where
    some : (o : Option Found) → q.found ≡ o → is_some o ≡ true → work_of inputs p + 1 ≤ work_of inputs q
    some None e k = absurd (true≢false (sym k))
    some (Some x) e k =
        let a = ap (λ (o : Option Found). found_work o p) n in
        let b = ap (λ (o : Option Found). found_work o q) e in
        let c = ap (λ (t : ℕ → Bool). count t inputs) g in
        omega (arith, a, b, c)
