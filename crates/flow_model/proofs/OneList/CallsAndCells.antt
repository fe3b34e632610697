-- A change of one call or one cell is read there, and every other call and cell is read as before.
use Rattle.std.proofs.Common.{◌≡◌, ℕ, Bool, true, false, ◌||◌, ◌==◌, ◌⊎◌, ◌≢◌, inl, inr, refl, sym, ap, arith, List, [], ◌∷◌, ◌++◌, true≢false, ◌∙◌, subst, Option, Some, None}
use Rattle.std.specs.Prelude.{is_some}
use Rattle.std.proofs.lemmas.Bool.Decides.{eqb_tells}
use Rattle.std.proofs.lemmas.Bool.{eqb-true, eq-eqb, both_ways, cases_Bool}
use Rattle.std.specs.Prelude.{map}
use Rattle.std.specs.List.{list_any}
use Rattle.flow_model.specs.Machine.State.{Core, LiveCall, call, call_of, call_or, live, executes, with_call, change_call}
use Rattle.flow_model.specs.Machine.Steps.{without_call, started}

-- The change keeps what tells one call from another, and its phase.
pub record KeepsPhase (f : LiveCall → LiveCall) : Type 0 where
  pub version : (c : LiveCall) → (f c).version ≡ c.version
  pub executing : (c : LiveCall) → (f c).executing ≡ c.executing

abbrev pub option_call : (LiveCall → LiveCall) → Option LiveCall → Option LiveCall
option_call f None = None
option_call f (Some c) = Some (f c)

pub change_call-other : (t u : ℕ) (f : LiveCall → LiveCall) → ((c : LiveCall) → (f c).version ≡ c.version) → (cs : List LiveCall) → u ≢ t → call_of (change_call t f cs) u ≡ call_of cs u
change_call-other t u f keeps [] ne = refl
change_call-other t u f keeps (c ∷ cs) ne = let r = change_call-other t u f keeps cs ne in let k = keeps c in grind (arith, eqb_tells, r, k)

pub change_call-same : (t : ℕ) (f : LiveCall → LiveCall) → ((c : LiveCall) → (f c).version ≡ c.version) → (cs : List LiveCall) → call_of (change_call t f cs) t ≡ option_call f (call_of cs t)
change_call-same t f keeps [] = refl
change_call-same t f keeps (c ∷ cs) = let r = change_call-same t f keeps cs in let k = keeps c in grind (arith, eqb_tells, r, k)

pub map_call-reads : (f : LiveCall → LiveCall) → ((c : LiveCall) → (f c).version ≡ c.version) → (cs : List LiveCall) (u : ℕ) → call_of (map f cs) u ≡ option_call f (call_of cs u)
map_call-reads f keeps [] u = refl
map_call-reads f keeps (c ∷ cs) u = let r = map_call-reads f keeps cs u in let k = keeps c in grind (arith, eqb_tells, r, k)

pub without_call-other : (t u : ℕ) (cs : List LiveCall) → u ≢ t → call_of (without_call t cs) u ≡ call_of cs u
without_call-other t u [] ne = refl
without_call-other t u (c ∷ cs) ne = let r = without_call-other t u cs ne in grind (arith, eqb_tells, r)

pub without_call-same : (t : ℕ) (cs : List LiveCall) → call_of (without_call t cs) t ≡ None
without_call-same t [] = refl
without_call-same t (c ∷ cs) = let r = without_call-same t cs in grind (arith, eqb_tells, r)

option_call-live : (f : LiveCall → LiveCall) (o : Option LiveCall) → is_some (option_call f o) ≡ is_some o
option_call-live f None = refl
option_call-live f (Some c) = refl

option_call-executes : (f : LiveCall → LiveCall) → KeepsPhase f → (o : Option LiveCall) → (call_or (option_call f o)).executing ≡ (call_or o).executing
option_call-executes f k None = refl
option_call-executes f k (Some c) = k.executing c

-- Whether a call lives and executes is read as before.
pub with_call-live : (s : Core) (t : ℕ) (f : LiveCall → LiveCall) → ((c : LiveCall) → (f c).version ≡ c.version) → live (with_call s t f) ≡ live s
with_call-live s t f k = λ i u. at u i
  where
    go : (u : ℕ) → ((u == t) ≡ true) ⊎ ((u == t) ≡ false) → live (with_call s t f) u ≡ live s u
    go u (inl e) = subst (λ (w : ℕ). live (with_call s t f) w ≡ live s w) (sym (eqb-true u t e)) (ap is_some (change_call-same t f k s.calls) ∙ option_call-live f (call_of s.calls t))
    go u (inr e) = ap is_some (change_call-other t u f k s.calls (λ x. both_ways _ e (eq-eqb u t x)))

    at : (u : ℕ) → live (with_call s t f) u ≡ live s u
    at u = go u (cases_Bool (u == t))

pub with_call-executes : (s : Core) (t : ℕ) (f : LiveCall → LiveCall) → KeepsPhase f → executes (with_call s t f) ≡ executes s
with_call-executes s t f k = λ i u. at u i
  where
    reads : Option LiveCall → Bool
    reads o = (call_or o).executing

    go : (u : ℕ) → ((u == t) ≡ true) ⊎ ((u == t) ≡ false) → executes (with_call s t f) u ≡ executes s u
    go u (inl e) = subst (λ (w : ℕ). executes (with_call s t f) w ≡ executes s w) (sym (eqb-true u t e)) (ap (λ (o : Option LiveCall). (call_or o).executing) (change_call-same t f k.version s.calls) ∙ option_call-executes f k (call_of s.calls t))
    go u (inr e) = ap (λ (o : Option LiveCall). (call_or o).executing) (change_call-other t u f k.version s.calls (λ x. both_ways _ e (eq-eqb u t x)))

    at : (u : ℕ) → executes (with_call s t f) u ≡ executes s u
    at u = go u (cases_Bool (u == t))

pub map_call-live : (s : Core) (f : LiveCall → LiveCall) → ((c : LiveCall) → (f c).version ≡ c.version) → live (record s { calls = map f s.calls }) ≡ live s
map_call-live s f k = λ i u. (ap is_some (map_call-reads f k s.calls u) ∙ option_call-live f (call_of s.calls u)) i

pub map_call-executes : (s : Core) (f : LiveCall → LiveCall) → KeepsPhase f → executes (record s { calls = map f s.calls }) ≡ executes s
map_call-executes s f k = λ i u. (ap (λ (o : Option LiveCall). (call_or o).executing) (map_call-reads f k.version s.calls u) ∙ option_call-executes f k (call_of s.calls u)) i

-- A call that the test takes is in the list.
pub list_any-none : (test : LiveCall → Bool) (cs : List LiveCall) (w : ℕ) (c : LiveCall) → list_any test cs ≡ false → call_of cs w ≡ Some c → (test c ≡ false) × (c.version ≡ w)
list_any-none test [] w c h k = cc
list_any-none test (x ∷ xs) w c h k = let r = list_any-none test xs w c in grind (arith, eqb_tells, r)

abbrev pub last_call : Option LiveCall → LiveCall → ℕ → Option LiveCall
last_call (Some x) c u = Some x
last_call None c u = elim (c.version == u) [ true ↦ Some c | false ↦ None ]

pub call_of-append : (cs : List LiveCall) (c : LiveCall) (u : ℕ) → call_of (cs ++ c ∷ []) u ≡ last_call (call_of cs u) c u
call_of-append [] c u = refl
call_of-append (x ∷ xs) c u = let r = call_of-append xs c u in grind (arith, r)

pub started-executes : (t : ℕ) (cs : List LiveCall) (u : ℕ) → is_some (call_of cs t) ≡ true → (call_or (call_of (change_call t started cs) u)).executing ≡ ((u == t) || (call_or (call_of cs u)).executing)
started-executes t [] u h = absurd (true≢false (sym h))
started-executes t (c ∷ cs) u h = let r = started-executes t cs u in grind (arith, eqb_tells, r)

-- A field of a call after a change of one call.
pub with_call-field : {A : Type 0} (read : LiveCall → A) (s : Core) (t : ℕ) (f : LiveCall → LiveCall) → ((c : LiveCall) → (f c).version ≡ c.version) → (u : ℕ) → live s t ≡ true
    → read (call (with_call s t f) u) ≡ elim (u == t) as (λ _. A) [ true ↦ read (f (call s t)) | false ↦ read (call s u) ]
with_call-field {A} read s t f k u lt = go (u == t) refl
  where
    changed : (o : Option LiveCall) → is_some o ≡ true → call_or (option_call f o) ≡ f (call_or o)
    changed None h = absurd (true≢false (sym h))
    changed (Some c) h = refl

    go : (b : Bool) → (u == t) ≡ b → read (call (with_call s t f) u) ≡ elim b as (λ _. A) [ true ↦ read (f (call s t)) | false ↦ read (call s u) ]
    go true e = ap (λ (w : ℕ). read (call (with_call s t f) w)) (eqb-true u t e) ∙ ap (λ (o : Option LiveCall). read (call_or o)) (change_call-same t f k s.calls) ∙ ap read (changed (call_of s.calls t) lt)
    go false e = ap (λ (o : Option LiveCall). read (call_or o)) (change_call-other t u f k s.calls (λ x. both_ways _ e (eq-eqb u t x)))

-- The last call of a longer list is read as before under any other version.
pub last_call-other : (o : Option LiveCall) (c : LiveCall) (u : ℕ) → (c.version == u) ≡ false → last_call o c u ≡ o
last_call-other (Some x) c u h = refl
last_call-other None c u h = rw (h, last_call) refl

pub last_call-it : (o : Option LiveCall) (c : LiveCall) → o ≡ None → last_call o c c.version ≡ Some c
last_call-it o c h = let e = eq-eqb c.version c.version refl in rw (h, last_call, e) refl

-- A field that a change keeps is read as before.
option_call-field : {A : Type 0} (read : LiveCall → A) (f : LiveCall → LiveCall) → ((c : LiveCall) → read (f c) ≡ read c) → (o : Option LiveCall) → read (call_or (option_call f o)) ≡ read (call_or o)
option_call-field read f k None = refl
option_call-field read f k (Some c) = k c

pub with_call-keeps : {A : Type 0} (read : LiveCall → A) (s : Core) (t : ℕ) (f : LiveCall → LiveCall) → ((c : LiveCall) → (f c).version ≡ c.version) → ((c : LiveCall) → read (f c) ≡ read c) → (u : ℕ) → read (call (with_call s t f) u) ≡ read (call s u)
with_call-keeps {A} read s t f v k u = go (cases_Bool (u == t))
  where
    go : ((u == t) ≡ true) ⊎ ((u == t) ≡ false) → read (call (with_call s t f) u) ≡ read (call s u)
    go (inl e) = subst (λ (w : ℕ). read (call (with_call s t f) w) ≡ read (call s w)) (sym (eqb-true u t e)) (ap (λ (o : Option LiveCall). read (call_or o)) (change_call-same t f v s.calls) ∙ option_call-field read f k (call_of s.calls t))
    go (inr e) = ap (λ (o : Option LiveCall). read (call_or o)) (change_call-other t u f v s.calls (λ x. both_ways _ e (eq-eqb u t x)))

pub map_call-keeps : {A : Type 0} (read : LiveCall → A) (s : Core) (f : LiveCall → LiveCall) → ((c : LiveCall) → (f c).version ≡ c.version) → ((c : LiveCall) → read (f c) ≡ read c) → (u : ℕ) → read (call (record s { calls = map f s.calls }) u) ≡ read (call s u)
map_call-keeps read s f v k u = ap (λ (o : Option LiveCall). read (call_or o)) (map_call-reads f v s.calls u) ∙ option_call-field read f k (call_of s.calls u)
