-- The least version of the calls that pass a test is that of the first such call.
use Rattle.std.proofs.Common.{◌≡◌, ℕ, zero, suc, ◌+◌, ◌<◌, ◌≤◌, Bool, true, false, nat_lt, List, [], ◌∷◌, length, get_or, drop, Option, Some, None, refl, sym, ap, ◌∙◌, subst, arith, ◌≢◌, ◌||◌}
use Rattle.std.specs.List.{AllByRecursion}
use Rattle.std.proofs.Math.ListN.{drop_of_length-le}
use Rattle.std.proofs.lemmas.Bool.{ne_eqb}
use Rattle.std.proofs.lemmas.List.{drop_more}
use Rattle.flow_model.specs.Machine.State.{LiveCall}
use Rattle.flow_model.specs.Machine.Next.{lesser, least_version}
use Rattle.flow_model.proofs.Slots.LeastIsFirst.{Above, own-lesser}
use Rattle.flow_state.specs.declared.seating.Tenant.{Tenant}
use Rattle.flow_state.specs.Seats.{Seated, call_at, calls_of, has_version, AreTenants, AreAscending}

least_above : (test : LiveCall → Bool) (seats : List Seated) (v : ℕ) (xs : List Tenant) → AreTenants seats xs → AllByRecursion (λ (y : Tenant). v < y.version) xs → Above v (least_version test (calls_of seats xs))
least_above test seats v [] ok h = tt
least_above test seats v (x ∷ xs) ok h = go (test (call_at seats x.slot)) (least_version test (calls_of seats xs)) (least_above test seats v xs ok.3 h.1)
  where
    own : v < (call_at seats x.slot).version
    own = let e = ok.0.version in let l = h.0 in omega (arith, e, l)

    less : (o : Option ℕ) → Above v o → v < lesser (call_at seats x.slot).version o
    less None k = own
    less (Some w) k = pick (nat_lt w (call_at seats x.slot).version)
      where
        pick : (b : Bool) → v < (elim b as (λ _. ℕ) [ true ↦ w | false ↦ (call_at seats x.slot).version ])
        pick true = k
        pick false = own

    go : (b : Bool) (o : Option ℕ) → Above v o → Above v (elim b as (λ _. Option ℕ) [ true ↦ Some (lesser (call_at seats x.slot).version o) | false ↦ o ])
    go true o k = less o k
    go false o k = k

-- what holds of all tenants holds of those from one on
rest_ascending : (live : List Tenant) (i : ℕ) → AreAscending live → AreAscending (drop i live)
rest_ascending [] zero h = h
rest_ascending [] (suc i) h = tt
rest_ascending (x ∷ xs) zero h = h
rest_ascending (x ∷ xs) (suc i) h = rest_ascending xs i h.1

rest_tenants : (seats : List Seated) (live : List Tenant) (i : ℕ) → AreTenants seats live → AreTenants seats (drop i live)
rest_tenants seats [] zero h = h
rest_tenants seats [] (suc i) h = tt
rest_tenants seats (x ∷ xs) zero h = h
rest_tenants seats (x ∷ xs) (suc i) h = rest_tenants seats xs i h.3

head_first : (test : LiveCall → Bool) (seats : List Seated) (x : Tenant) (xs : List Tenant) → AreTenants seats (x ∷ xs) → AreAscending (x ∷ xs) → test (call_at seats x.slot) ≡ true → least_version test (calls_of seats (x ∷ xs)) ≡ Some x.version
head_first test seats x xs ok up t =
    let c : LiveCall = call_at seats x.slot in
    let rest : Option ℕ = least_version test (calls_of seats xs) in
    let above : Above c.version rest = subst (λ (v : ℕ). Above v rest) (sym ok.0.version) (least_above test seats x.version xs ok.3 up.0) in
    ap (λ (b : Bool). elim b as (λ _. Option ℕ) [ true ↦ Some (lesser c.version rest) | false ↦ rest ]) t
    ∙ ap Some (own-lesser c.version rest above)
    ∙ ap Some ok.0.version

pub first_found : (test : LiveCall → Bool) (seats : List Seated) (live : List Tenant) (i : ℕ) (x : Tenant) (whole : Option ℕ) → AreTenants seats live → AreAscending live → i < length live → x ≡ get_or live i x → least_version test (calls_of seats (drop i live)) ≡ whole → test (call_at seats x.slot) ≡ true → Some x.version ≡ whole
first_found test seats live i x whole ok up h e so t =
    let split : drop i live ≡ x ∷ drop (i + 1) live = drop_more live i x h ∙ ap (λ (y : Tenant). y ∷ drop (i + 1) live) (sym e) in
    let here = head_first test seats x (drop (i + 1) live) (subst (AreTenants seats) split (rest_tenants seats live i ok)) (subst AreAscending split (rest_ascending live i up)) t in
    sym here ∙ sym (ap (λ (xs : List Tenant). least_version test (calls_of seats xs)) split) ∙ so

pub first_more : (test : LiveCall → Bool) (seats : List Seated) (live : List Tenant) (i : ℕ) (x : Tenant) (whole : Option ℕ) → i < length live → x ≡ get_or live i x → least_version test (calls_of seats (drop i live)) ≡ whole → test (call_at seats x.slot) ≡ false → least_version test (calls_of seats (drop (i + 1) live)) ≡ whole
first_more test seats live i x whole h e so t =
    let split : drop i live ≡ x ∷ drop (i + 1) live = drop_more live i x h ∙ ap (λ (y : Tenant). y ∷ drop (i + 1) live) (sym e) in
    let c : LiveCall = call_at seats x.slot in
    let rest : Option ℕ = least_version test (calls_of seats (drop (i + 1) live)) in
    sym (ap (λ (b : Bool). elim b as (λ _. Option ℕ) [ true ↦ Some (lesser c.version rest) | false ↦ rest ]) t)
    ∙ sym (ap (λ (xs : List Tenant). least_version test (calls_of seats xs)) split) ∙ so

pub first_ends : (test : LiveCall → Bool) (seats : List Seated) (live : List Tenant) (i : ℕ) (whole : Option ℕ) → length live ≤ i → least_version test (calls_of seats (drop i live)) ≡ whole → None ≡ whole
first_ends test seats live i whole h so = ap (λ (xs : List Tenant). least_version test (calls_of seats xs)) (sym (drop_of_length-le live h)) ∙ so

-- ---- a version that is passed

none_above : (v : ℕ) (xs : List Tenant) (t : ℕ) → AllByRecursion (λ (y : Tenant). v < y.version) xs → t < v → has_version xs t ≡ false
none_above v [] t up h = refl
none_above v (x ∷ xs) t up h =
    let other : x.version ≢ t = let u = up.0 in omega (arith, u, h) in
    ap (λ b. b || has_version xs t) (ne_eqb x.version t other) ∙ none_above v xs t up.1 h

pub version_past : (live : List Tenant) (t i : ℕ) (d : Tenant) → AreAscending live → i < length live → has_version (drop i live) t ≡ has_version live t → t < (get_or live i d).version → false ≡ has_version live t
version_past live t i d up h so past =
    let x : Tenant = get_or live i d in
    let split : drop i live ≡ x ∷ drop (i + 1) live = drop_more live i d h in
    let rest : AreAscending (x ∷ drop (i + 1) live) = subst AreAscending split (rest_ascending live i up) in
    let other : x.version ≢ t = omega (arith, past) in
    sym (ap (λ b. b || has_version (drop (i + 1) live) t) (ne_eqb x.version t other) ∙ none_above x.version (drop (i + 1) live) t rest.0 past)
    ∙ sym (ap (λ (xs : List Tenant). has_version xs t) split) ∙ so
