-- A caller without a live call.
use Rattle.std.proofs.Common.{◌≡◌, ◌<◌, ◌≤◌, ◌∙◌, ◌==◌, ℕ, Bool, true, false, not, ◌&&◌, nat_le, nat_lt, List, [], ◌∷◌, length, Option, Some, None, is_some, is_none, refl, sym, ap, arith}
use Rattle.std.proofs.lemmas.Bool.{le-leb, lt-ltb}
use Rattle.std.proofs.lemmas.Option.{none-some}
use Rattle.script_tree.specs.declared.limits.TheConstants.{SETS, LOOKS}
use Rattle.signal_graph.specs.declared.call.Call.{Call}
use Rattle.signal_graph.specs.declared.log.Why.{Why}
use Rattle.signal_graph.specs.declared.log.Why.TheVariants.{UnknownName, VersionsUsedUp}
use Rattle.signal_graph.specs.Graph.{Graph}
use Rattle.signal_graph.specs.Machine.{sets_of, looks_of, misnamed}
use Rattle.flow_model.specs.Machine.State.{Core, LiveCall}
use Rattle.flow_model.specs.Machine.Schedules.{refused_for, version_of}
use Rattle.flow_model.specs.Machine.Steps.{has_call}
use Rattle.node_versions.specs.Entries.{Versions}
use Rattle.flow_state.specs.Booked.{Booked}
use Rattle.interleave_core.specs.Whole.{Whole, whole_of}
use Rattle.interleave_core.specs.Beginning.{is_free, refused_in, AllCanBegin}
use Rattle.retrofit.proofs.Helps.{or_some}

pub version-some : (caller : ℕ) (cs : List LiveCall) → is_some (version_of caller cs) ≡ has_call caller cs
version-some caller [] = refl
version-some caller (c ∷ cs) = or_some (c.caller == caller) _ _ _ (version-some caller cs)

both : (a b c : Bool) → a ≡ true → b ≡ true → (a && b && c) ≡ c
both a b c p q = grind (arith, p, q)

not-twice : (b : Bool) → b ≡ not (not b)
not-twice true = refl
not-twice false = refl

pub free-is : (s : Core) (caller : ℕ) (found : Option ℕ) (none : Bool) → 1 ≤ caller → caller ≤ s.callers → found ≡ version_of caller s.calls
    → is_some found ≡ not none → none ≡ is_free s caller
free-is s caller found none first last is told =
    not-twice none ∙ ap not (sym told) ∙ ap (λ (o : Option ℕ). not (is_some o)) is ∙ ap not (version-some caller s.calls)
    ∙ sym (both (nat_le 1 caller) (nat_le caller s.callers) (not (has_call caller s.calls)) (le-leb 1 caller first) (le-leb caller s.callers last))

-- ---- a call that is admitted

all_seven : (a b c d e f g : Bool) → a ≡ true → b ≡ true → c ≡ true → d ≡ true → e ≡ true → f ≡ true → g ≡ true
    → (a && b && c && d && e && f && g) ≡ true
all_seven a b c d e f g p q r s t u v = grind (arith, p, q, r, s, t, u, v)

well-named : (begun limit : ℕ) (wrong : Option ℕ) → refused_for begun limit wrong ≡ None → is_none wrong ≡ true
well-named begun limit (Some place) h = absurd (none-some (UnknownName place) (sym h))
well-named begun limit None h = refl

abbrev why_not : ℕ → Bool → Option Why
why_not limit b = elim b [ true ↦ None | false ↦ Some (VersionsUsedUp limit) ]

some_left : (limit : ℕ) (b : Bool) → why_not limit b ≡ None → b ≡ true
some_left limit true h = refl
some_left limit false h = absurd (none-some (VersionsUsedUp limit) (sym h))

version-left : (begun limit : ℕ) (wrong : Option ℕ) → refused_for begun limit wrong ≡ None → nat_lt begun limit ≡ true
version-left begun limit (Some place) h = absurd (none-some (UnknownName place) (sym h))
version-left begun limit None h = some_left limit (nat_lt begun limit) h

pub all-can : (graph : Graph) (s : Core) (call : Call) → length (sets_of call) ≤ SETS → length (looks_of call) ≤ LOOKS
    → refused_in graph s call ≡ None → AllCanBegin graph s call
all-can graph s call sets looks fits caller first last free = all_seven (nat_le 1 caller) (nat_le caller s.callers) (not (has_call caller s.calls))
    (nat_le (length (sets_of call)) SETS) (nat_le (length (looks_of call)) LOOKS) (is_none (misnamed graph call)) (nat_lt s.begun s.limit)
    (le-leb 1 caller first) (le-leb caller s.callers last) (ap not (sym (version-some caller s.calls) ∙ ap is_some free))
    (le-leb (length (sets_of call)) SETS sets) (le-leb (length (looks_of call)) LOOKS looks)
    (well-named s.begun s.limit (misnamed graph call) fits) (version-left s.begun s.limit (misnamed graph call) fits)

pub none-refused : (graph : Graph) (book : Booked) (lists : List Versions) (call : Call) (seen : Whole) → whole_of graph book lists ≡ seen
    → misnamed graph call ≡ None → book.book.begun < book.book.limit → refused_in seen.graph seen.state call ≡ None
none-refused graph book lists call seen view named left = sym (ap (λ (w : Whole). refused_in w.graph w.state call) view)
    ∙ ap (refused_for book.book.begun book.book.limit) named ∙ ap (why_not book.book.limit) (lt-ltb book.book.begun book.book.limit left)
