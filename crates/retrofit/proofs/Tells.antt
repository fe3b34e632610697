-- What is told to the calls behind one in a list.
use Rattle.std.proofs.Common.{◌≡◌, ℕ, zero, suc, Bool, true, false, not, ◌&&◌, ◌==◌, List, [], ◌∷◌, map, drop, refl, sym, ap, ◌∙◌, arith, Some}
use Rattle.std.proofs.lemmas.Bool.Decides.{eqb_tells}
use Rattle.std.proofs.lemmas.Bool.{eqb-true}
use Rattle.std.proofs.lemmas.List.{map-id}
use Rattle.std.proofs.Math.Bool.{and-false}
use Rattle.std.specs.Prelude.{slice_get}
use Rattle.signal_graph.specs.Graph.{is_in}
use Rattle.node_versions.specs.declared.entry.Entry.{Entry}
use Rattle.node_versions.specs.declared.entry.State.{State}
use Rattle.node_versions.specs.Entries.{IsUnique, has, at, behind}
use Rattle.node_versions.proofs.Places.{at-has}
use Rattle.flow_model.specs.Machine.State.{LiveCall, call_of, change_call}
use Rattle.std.specs.Prelude.{is_some}
use Rattle.flow_model.specs.Machine.Changes.{hands_on, tell_call}
use Rattle.flow_model.specs.Machine.Sets.{put}
use Rattle.flow_model.specs.Kept.Lawful.{AreDistinct}
use Rattle.flow_model.proofs.OneList.StatesAndPlaces.{behind-has}
use Rattle.flow_model.proofs.OneStep.VersionsStayFresh.{head-distinct, tail-distinct}
use Rattle.flow_state.specs.Booked.{wanting}
use Rattle.retrofit.specs.Telling.{told_by}

-- ---- one call a version

abbrev pub version_of : LiveCall → ℕ
version_of c = c.version

abbrev pub AreApart : List LiveCall → Type 0
AreApart [] = Unit {0}
AreApart (c ∷ cs) = (is_some (call_of cs c.version) ≡ false) × AreApart cs

in-calls : (cs : List LiveCall) (v : ℕ) → is_some (call_of cs v) ≡ is_in v (map version_of cs)
in-calls [] v = refl
in-calls (c ∷ cs) v = let r = in-calls cs v in grind (arith, eqb_tells, r)

pub apart : (cs : List LiveCall) → AreDistinct (map version_of cs) → AreApart cs
apart [] h = tt
apart (c ∷ cs) h = (in-calls cs c.version ∙ head-distinct c.version (map version_of cs) h, apart cs (tail-distinct c.version (map version_of cs) h))

-- ---- a change of one call goes over all

abbrev on_version : ℕ → (LiveCall → LiveCall) → LiveCall → LiveCall
on_version v f c = elim (c.version == v) [ true ↦ f c | false ↦ c ]

none-of : (v : ℕ) (f : LiveCall → LiveCall) (cs : List LiveCall) → is_some (call_of cs v) ≡ false → map (on_version v f) cs ≡ cs
none-of v f [] h = refl
none-of v f (c ∷ cs) h = let r = none-of v f cs in grind (arith, r)

change-map : (v : ℕ) (f : LiveCall → LiveCall) (cs : List LiveCall) → AreApart cs → change_call v f cs ≡ map (on_version v f) cs
change-map v f [] h = refl
change-map v f (c ∷ cs) h = let r = change-map v f cs h.1 in let away = none-of v f cs in let here = h.0 in grind (arith, eqb_tells, r, away, here)

pub no_call-change : (v : ℕ) (f : LiveCall → LiveCall) (cs : List LiveCall) → is_some (call_of cs v) ≡ false → change_call v f cs ≡ cs
no_call-change v f [] h = refl
no_call-change v f (c ∷ cs) h = let r = no_call-change v f cs in grind (arith, r)

-- ---- one entry

pub away-told : (n : ℕ) (e : Entry) (cs : List LiveCall) → is_some (call_of cs e.version) ≡ false → told_by n e cs ≡ cs
away-told n e cs h = go (hands_on e.state)
  where
    go : (b : Bool) → elim b as (λ _. List LiveCall) [ true ↦ change_call e.version (wanting n) cs | false ↦ cs ] ≡ cs
    go true = no_call-change e.version (wanting n) cs h
    go false = refl

pub silent-told : (n : ℕ) (e : Entry) (cs : List LiveCall) → hands_on e.state ≡ false → told_by n e cs ≡ cs
silent-told n e cs h = ap (λ (b : Bool). elim b as (λ _. List LiveCall) [ true ↦ change_call e.version (wanting n) cs | false ↦ cs ]) h

abbrev pub told_if : Bool → ℕ → LiveCall → LiveCall
told_if b n c = elim b [ true ↦ wanting n c | false ↦ c ]

abbrev told_entry : ℕ → Entry → LiveCall → LiveCall
told_entry n e c = told_if (hands_on e.state && (c.version == e.version)) n c

told-map : (n : ℕ) (e : Entry) (cs : List LiveCall) → AreApart cs → told_by n e cs ≡ map (told_entry n e) cs
told-map n e cs h = go (hands_on e.state)
  where
    go : (b : Bool) → elim b as (λ _. List LiveCall) [ true ↦ change_call e.version (wanting n) cs | false ↦ cs ] ≡ map (λ (c : LiveCall). told_if (b && (c.version == e.version)) n c) cs
    go true = change-map e.version (wanting n) cs h
    go false = sym (map-id cs)

-- ---- the entries behind

abbrev pub told_rest : ℕ → List Entry → List LiveCall → List LiveCall
told_rest n [] cs = cs
told_rest n (e ∷ es) cs = told_rest n es (told_by n e cs)

-- what is told to one call
abbrev told_call : ℕ → List Entry → LiveCall → LiveCall
told_call n [] c = c
told_call n (e ∷ es) c = told_call n es (told_entry n e c)

told_if-version : (b : Bool) (n : ℕ) (c : LiveCall) → (told_if b n c).version ≡ c.version
told_if-version true n c = refl
told_if-version false n c = refl

map-has : (f : LiveCall → LiveCall) → ((c : LiveCall) → (f c).version ≡ c.version) → (cs : List LiveCall) (v : ℕ) → is_some (call_of (map f cs) v) ≡ is_some (call_of cs v)
map-has f same [] v = refl
map-has f same (c ∷ cs) v = let r = map-has f same cs v in let k = same c in grind (arith, r, k)

map-apart : (f : LiveCall → LiveCall) → ((c : LiveCall) → (f c).version ≡ c.version) → (cs : List LiveCall) → AreApart cs → AreApart (map f cs)
map-apart f same [] h = tt
map-apart f same (c ∷ cs) h = (ap (λ v. is_some (call_of (map f cs) v)) (same c) ∙ map-has f same cs c.version ∙ h.0, map-apart f same cs h.1)

map-map : (f g : LiveCall → LiveCall) (cs : List LiveCall) → map g (map f cs) ≡ map (λ (c : LiveCall). g (f c)) cs
map-map f g [] = refl
map-map f g (c ∷ cs) = ap (λ (xs : List LiveCall). g (f c) ∷ xs) (map-map f g cs)

rest-map : (n : ℕ) (es : List Entry) (cs : List LiveCall) → AreApart cs → told_rest n es cs ≡ map (told_call n es) cs
rest-map n [] cs h = sym (map-id cs)
rest-map n (e ∷ es) cs h =
    let more = map-apart (told_entry n e) (λ c. told_if-version (hands_on e.state && (c.version == e.version)) n c) cs h in
    ap (told_rest n es) (told-map n e cs h) ∙ rest-map n es (map (told_entry n e) cs) more ∙ map-map (told_entry n e) (told_call n es) cs

silent-call : (n : ℕ) (es : List Entry) (c : LiveCall) → has es c.version ≡ false → told_call n es c ≡ c
silent-call n [] c h = refl
silent-call n (e ∷ es) c h =
    let other : (hands_on e.state && (c.version == e.version)) ≡ false = grind (arith, eqb_tells, h) in
    let rest : has es c.version ≡ false = grind (arith, h) in
    ap (λ (b : Bool). told_call n es (told_if b n c)) other ∙ silent-call n es c rest

at-here : (test : State → Bool) (e : Entry) (es : List Entry) (v : ℕ) → has es v ≡ false → at test (e ∷ es) v ≡ (test e.state && (v == e.version))
at-here test e es v h = let k = at-has test es v in grind (arith, eqb_tells, h, k)

at-further : (test : State → Bool) (e : Entry) (es : List Entry) (v : ℕ) → (v == e.version) ≡ false → at test (e ∷ es) v ≡ at test es v
at-further test e es v h = grind (arith, eqb_tells, h)

call-told : (n : ℕ) (es : List Entry) (c : LiveCall) → IsUnique es → told_call n es c ≡ told_if (at hands_on es c.version) n c
call-told n [] c h = refl
call-told n (e ∷ es) c h = go (c.version == e.version) refl (call-told n es c h.1)
  where
    go : (b : Bool) → (c.version == e.version) ≡ b → (told_call n es c ≡ told_if (at hands_on es c.version) n c) → told_call n (e ∷ es) c ≡ told_if (at hands_on (e ∷ es) c.version) n c
    go true k r =
        let told = hands_on e.state && (c.version == e.version) in
        let away : has es c.version ≡ false = ap (has es) (eqb-true c.version e.version k) ∙ h.0 in
        silent-call n es (told_if told n c) (ap (has es) (told_if-version told n c) ∙ away) ∙ ap (λ (b : Bool). told_if b n c) (sym (at-here hands_on e es c.version away))
    go false k r =
        ap (λ (b : Bool). told_call n es (told_if (hands_on e.state && b) n c)) k ∙ ap (λ (b : Bool). told_call n es (told_if b n c)) (and-false (hands_on e.state))
        ∙ r ∙ ap (λ (b : Bool). told_if b n c) (sym (at-further hands_on e es c.version k))

-- ---- what stands behind the entry at an index

has-at : (es : List Entry) (i t : ℕ) (e : Entry) → slice_get es i ≡ Some e → e.version ≡ t → has es t ≡ true
has-at [] i t e h k = cc
has-at (x ∷ xs) zero t e h k = grind (arith, eqb_tells, h, k)
has-at (x ∷ xs) (suc i) t e h k = let r = has-at xs i t e h k in grind (arith, r)

behind-first : (test : State → Bool) (x : Entry) (xs : List Entry) (t v : ℕ) → x.version ≡ t → has xs x.version ≡ false → at test xs v ≡ (behind (x ∷ xs) t v && at test (x ∷ xs) v)
behind-first test x xs t v h k = let a = at-has test xs v in grind (arith, eqb_tells, h, k, a)

behind-later : (test : State → Bool) (x : Entry) (xs : List Entry) (t v : ℕ) → has xs x.version ≡ false → has xs t ≡ true → (behind xs t v && at test xs v) ≡ (behind (x ∷ xs) t v && at test (x ∷ xs) v)
behind-later test x xs t v h k = let b = behind-has xs t v in grind (arith, eqb_tells, h, k, b)

rest-behind : (test : State → Bool) (es : List Entry) (i t v : ℕ) (e : Entry) → IsUnique es → slice_get es i ≡ Some e → e.version ≡ t → at test (drop (suc i) es) v ≡ (behind es t v && at test es v)
rest-behind test [] i t v e u h k = cc
rest-behind test (x ∷ xs) zero t v e u h k = behind-first test x xs t v (let s = h in grind (arith, s, k)) u.0
rest-behind test (x ∷ xs) (suc i) t v e u h k = rest-behind test xs i t v e u.1 h k ∙ behind-later test x xs t v u.0 (has-at xs i t e h k)

drop-unique : (es : List Entry) (i : ℕ) → IsUnique es → IsUnique (drop i es)
drop-unique es zero u = u
drop-unique [] (suc i) u = tt
drop-unique (x ∷ xs) (suc i) u = drop-unique xs i u.1

told-is : (n : ℕ) (c : LiveCall) (b : Bool) → told_if b n c ≡ record c { wanted = elim (b && not (is_in n c.open_nodes)) [ true ↦ put n c.wanted | false ↦ c.wanted ] }
told-is n c true = ap (λ (ns : List ℕ). record c { wanted = ns }) (turned (is_in n c.open_nodes))
  where
    turned : (o : Bool) → elim o as (λ _. List ℕ) [ true ↦ c.wanted | false ↦ put n c.wanted ] ≡ elim (not o) as (λ _. List ℕ) [ true ↦ put n c.wanted | false ↦ c.wanted ]
    turned true = refl
    turned false = refl
told-is n c false = refl

map-ext : (f g : LiveCall → LiveCall) → ((c : LiveCall) → f c ≡ g c) → (cs : List LiveCall) → map f cs ≡ map g cs
map-ext f g same cs = ap (λ (h : LiveCall → LiveCall). map h cs) (λ i c. same c i)

-- all behind the entry at the index are told
pub rest-tells : (n t i : ℕ) (e : Entry) (es : List Entry) (cs : List LiveCall) → AreApart cs → IsUnique es → slice_get es i ≡ Some e → e.version ≡ t → told_rest n (drop (suc i) es) cs ≡ map (tell_call es t n) cs
rest-tells n t i e es cs h u at_i is =
    rest-map n (drop (suc i) es) cs h
    ∙ map-ext (told_call n (drop (suc i) es)) (tell_call es t n) (λ c. call-told n (drop (suc i) es) c (drop-unique es (suc i) u) ∙ ap (λ (b : Bool). told_if b n c) (rest-behind hands_on es i t c.version e u at_i is) ∙ told-is n c (behind es t c.version && at hands_on es c.version)) cs

not-behind : (es : List Entry) (t v : ℕ) → has es t ≡ false → behind es t v ≡ false
not-behind [] t v h = refl
not-behind (e ∷ es) t v h = let r = not-behind es t v in grind (arith, r)

-- none is told where the call has no entry
pub none-tells : (n t : ℕ) (es : List Entry) (cs : List LiveCall) → has es t ≡ false → cs ≡ map (tell_call es t n) cs
none-tells n t es cs h = sym (map-id cs) ∙ map-ext (λ c. c) (tell_call es t n) (λ c. ap (λ (b : Bool). record c { wanted = elim ((b && at hands_on es c.version) && not (is_in n c.open_nodes)) as (λ _. List ℕ) [ true ↦ put n c.wanted | false ↦ c.wanted ] }) (sym (not-behind es t c.version h))) cs
