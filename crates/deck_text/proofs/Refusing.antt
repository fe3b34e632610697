-- The first reason of a line.
use Rattle.std.proofs.Common.{◌≡◌, ℕ, ◌<◌, ◌≤◌, ◌⊎◌, inl, inr, Bool, true, false, List, [], ◌∷◌, length, length-append, refl, sym, ap, ◌∙◌, arith, subst}
use Rattle.std.specs.Prelude.{Option, Some, None, Result, Ok, Err, MatchOption, IfErr, nat_lt, if◌then◌else◌, find}
use Rattle.std.proofs.lemmas.Bool.Decides.{nat_tests}
use Rattle.std.proofs.lemmas.Option.{none-some, same_Some}
use Rattle.script_tree.specs.declared.limits.TheConstants.{DECK_BYTES, LINE_BYTES, NODES}
use Rattle.signal_graph.specs.declared.builder.DeclKind.{DeclKind}
use Rattle.signal_graph.specs.declared.builder.GraphFault.{GraphFault}
use Rattle.signal_graph.specs.declared.builder.GraphFault.TheVariants as graph
use Rattle.signal_graph.specs.declared.call.Call.{Call}
use Rattle.signal_graph.specs.Graph.{Graph}
use Rattle.signal_graph.specs.Tables.{is_declared}
use Rattle.signal_graph.specs.Declarations.{refusal, unknown_input, is_undeclared, names_of}
use Rattle.deck_lines.specs.declared.fault.Limit.{Limit}
use Rattle.deck_lines.specs.declared.fault.Limit.TheVariants as limit
use Rattle.deck_lines.specs.declared.fault.LineFault.{LineFault}
use Rattle.deck_lines.specs.declared.fault.LineFault.TheVariants as fault
use Rattle.deck_lines.specs.declared.line.Line as said_lines
use Rattle.deck_lines.specs.declared.line.Line.TheVariants as said
use Rattle.deck_lines.specs.Forms.{Words}
use Rattle.deck_lines.specs.Lines.{IsLine, IsLineFault}
use Rattle.deck_lines.specs.Texts.{line_words}
use Rattle.deck_text.specs.declared.fault.What.TheVariants.{Bytes, Nodes, Threads, Levels, Inputs, Candidates, Selectors, Sets, Looks}
use Rattle.deck_text.specs.declared.reason.Reason.{Reason}
use Rattle.deck_text.specs.declared.reason.Reason.TheVariants.{LineTooLong, Syntax, TooMany, DoubleName, UnknownInput, Memory}
use Rattle.deck_text.specs.declared.reader.Reader.{Reader}
use Rattle.deck_text.specs.Readers.{deck_of}
use Rattle.deck_text.specs.Decks.{Decked}
use Rattle.deck_text.specs.Faults.{limit_reason, declaration_reason}
use Rattle.deck_text.specs.Reasons.{Part, Declaring, Beginning, Calling, Are, AreDenied, Place, Has, reasons, IsFirstOf}
use Rattle.deck_text.specs.Refused.{NotDeclared, NotBegun, NotCalled, NotTaken, BeyondDeclaring, BeyondCalling, NotRead, IsReason}
use Rattle.deck_text.proofs.Spelling.{not_begun, has_begun}
use Rattle.deck_text.proofs.Reasoning.{OneForm, Apart, OneFault, line_part, beyond_part, limit_part, not_calling, not_beginning, begins_or_calls, Stands, well_placed, no_syntax, no_limit, beyond_no_syntax, one_limit}

abbrev pub OneLine : Type 0
OneLine = (words : Words) (a b : said_lines.Line) → IsLine words a → IsLine words b → a ≡ b

abbrev from_names : List Reason
from_names = DoubleName ∷ UnknownInput ∷ []

abbrev from_limits : List Reason
from_limits = TooMany Levels ∷ TooMany Inputs ∷ TooMany Candidates ∷ TooMany Selectors ∷ TooMany Sets ∷ TooMany Looks ∷ from_names

abbrev from_nodes : List Reason
from_nodes = TooMany Nodes ∷ TooMany Threads ∷ from_limits

abbrev from_syntax : List Reason
from_syntax = Syntax ∷ from_nodes

-- a line that isn't too long, in a deck that isn't
pub record Fitting (p : Place) : Type 0 where
  pub within : p.end ≤ DECK_BYTES
  pub short : length p.line ≤ LINE_BYTES

pub too_many_bytes : (p : Place) → DECK_BYTES < p.end → IsFirstOf reasons p (TooMany Bytes)
too_many_bytes p h = inl (refl, h)

pub too_long : (p : Place) → p.end ≤ DECK_BYTES → LINE_BYTES < length p.line → IsFirstOf reasons p LineTooLong
too_long p w h = inr (λ b. omega (arith, w, b), inl (refl, h))

after_bytes : (p : Place) (r : Reason) → Fitting p → IsFirstOf from_syntax p r → IsFirstOf reasons p r
after_bytes p r f rest = inr (λ b. omega (arith, f.within, b), inr (λ l. omega (arith, f.short, l), rest))

pub no_form : (p : Place) → Fitting p → Has p Syntax → IsFirstOf reasons p Syntax
no_form p f h = after_bytes p Syntax f (inl (refl, h))

-- what is left of the reasons where words have a form in its part
after_syntax : OneForm → (p : Place) (r : Reason) (part : Part) → Are (line_words p.line) part → Stands part p.deck → (IsLineFault (line_words p.line) fault.Syntax → ⊥) → IsFirstOf from_nodes p r → IsFirstOf from_syntax p r
after_syntax one p r part a s never rest = inr (by, rest)
  where
    by : Has p Syntax → ⊥
    by (inl h) = never h
    by (inr m) = well_placed one (line_words p.line) part p.deck a s m

pub too_many_nodes : OneForm → (p : Place) → Fitting p → Are (line_words p.line) Declaring → p.deck.scripts ≡ [] → (IsLineFault (line_words p.line) fault.Syntax → ⊥) → NODES ≤ length p.deck.graph.nodes → IsFirstOf reasons p (TooMany Nodes)
too_many_nodes one p f a s never h = after_bytes p (TooMany Nodes) f (after_syntax one p (TooMany Nodes) Declaring a s never (inl (refl, (a, h))))

-- what is left of them where there are few nodes or no declaration, and few threads or no thread
after_threads : (p : Place) (r : Reason) → (Has p (TooMany Nodes) → ⊥) → (Has p (TooMany Threads) → ⊥) → IsFirstOf from_limits p r → IsFirstOf from_nodes p r
after_threads p r nodes threads rest = inr (nodes, inr (threads, rest))

abbrev rank : Limit → ℕ
rank limit.Levels = 0
rank limit.Inputs = 1
rank limit.Candidates = 2
rank limit.Selectors = 3
rank limit.Sets = 4
rank limit.Looks = 5

other : OneFault → (words : Words) (a b : Limit) → IsLineFault words (fault.TooMany b) → (rank a ≡ rank b → ⊥) → IsLineFault words (fault.TooMany a) → ⊥
other one words a b g apart h = apart (ap rank (one_limit one words a b h g))

first_limit : OneFault → (p : Place) (l : Limit) → IsLineFault (line_words p.line) (fault.TooMany l) → IsFirstOf from_limits p (limit_reason l)
first_limit one p limit.Levels g = inl (refl, g)
first_limit one p limit.Inputs g = let w = line_words p.line in
    inr (other one w limit.Levels limit.Inputs g (λ e. omega (arith, e)), inl (refl, g))
first_limit one p limit.Candidates g = let w = line_words p.line in
    inr (other one w limit.Levels limit.Candidates g (λ e. omega (arith, e)), inr (other one w limit.Inputs limit.Candidates g (λ e. omega (arith, e)), inl (refl, g)))
first_limit one p limit.Selectors g = let w = line_words p.line in
    inr (other one w limit.Levels limit.Selectors g (λ e. omega (arith, e)), inr (other one w limit.Inputs limit.Selectors g (λ e. omega (arith, e)), inr (other one w limit.Candidates limit.Selectors g (λ e. omega (arith, e)), inl (refl, g))))
first_limit one p limit.Sets g = let w = line_words p.line in
    inr (other one w limit.Levels limit.Sets g (λ e. omega (arith, e)), inr (other one w limit.Inputs limit.Sets g (λ e. omega (arith, e)), inr (other one w limit.Candidates limit.Sets g (λ e. omega (arith, e)), inr (other one w limit.Selectors limit.Sets g (λ e. omega (arith, e)), inl (refl, g)))))
first_limit one p limit.Looks g = let w = line_words p.line in
    inr (other one w limit.Levels limit.Looks g (λ e. omega (arith, e)), inr (other one w limit.Inputs limit.Looks g (λ e. omega (arith, e)), inr (other one w limit.Candidates limit.Looks g (λ e. omega (arith, e)), inr (other one w limit.Selectors limit.Looks g (λ e. omega (arith, e)), inr (other one w limit.Sets limit.Looks g (λ e. omega (arith, e)), inl (refl, g))))))

pub beyond_limit : OneForm → OneFault → (p : Place) (l : Limit) → Fitting p → Stands (limit_part l) p.deck → IsLineFault (line_words p.line) (fault.TooMany l) → (Has p (TooMany Nodes) → ⊥) → IsFirstOf reasons p (limit_reason l)
beyond_limit one only p l f s g nodes =
    let w = line_words p.line in
    let a = beyond_part w l g in
    after_bytes p (limit_reason l) f (after_syntax one p (limit_reason l) (limit_part l) a s (beyond_no_syntax only w l g)
    (after_threads p (limit_reason l) nodes (λ h. not_begins one w l a h.0) (first_limit only p l g)))
  where
    not_begins : OneForm → (w : Words) (l : Limit) → Are w (limit_part l) → Are w Beginning → ⊥
    not_begins one w limit.Levels a b = not_beginning one w a b
    not_begins one w limit.Inputs a b = not_beginning one w a b
    not_begins one w limit.Candidates a b = not_beginning one w a b
    not_begins one w limit.Selectors a b = not_beginning one w a b
    not_begins one w limit.Sets a b = begins_or_calls one w b a
    not_begins one w limit.Looks a b = begins_or_calls one w b a

after_limits : (p : Place) (r : Reason) → ((l : Limit) → IsLineFault (line_words p.line) (fault.TooMany l) → ⊥) → IsFirstOf from_names p r → IsFirstOf from_limits p r
after_limits p r never rest = inr (never limit.Levels, inr (never limit.Inputs, inr (never limit.Candidates, inr (never limit.Selectors, inr (never limit.Sets, inr (never limit.Looks, rest))))))

-- a declaration that goes beyond no limit
pub named : OneForm → Apart → (p : Place) (name : List ℕ) (kind : DeclKind) (r : Reason) → Fitting p → IsLine (line_words p.line) (said.Declares name kind) → p.deck.scripts ≡ [] → length p.deck.graph.nodes < NODES → IsFirstOf from_names p r → IsFirstOf reasons p r
named one apart p name kind r f l s few rest =
    let w = line_words p.line in
    let a = line_part w (said.Declares name kind) l in
    after_bytes p r f (after_syntax one p r Declaring a s (no_syntax apart w (said.Declares name kind) l)
    (after_threads p r (λ h. let m = h.1 in omega (arith, few, m)) (λ h. not_beginning one w a h.0)
    (after_limits p r (λ limit. no_limit apart w (said.Declares name kind) limit l) rest)))

-- what a graph's refusal tells of its nodes
abbrev IsFull : GraphFault → Type 0
IsFull graph.TooManyNodes = Unit {0}
IsFull f = ⊥

full_by : (b d : Bool) (o : Option (List ℕ)) → (if b then (if d then Some graph.DoubleName else unknown_input o) else Some graph.TooManyNodes) ≡ Some graph.TooManyNodes → b ≡ false
full_by false d o e = refl
full_by true true o e = absurd (subst IsFull (sym (same_Some _ _ e)) tt)
full_by true false None e = absurd (none-some _ e)
full_by true false (Some n) e = absurd (subst IsFull (sym (same_Some _ _ e)) tt)

left_by : (b d : Bool) (o : Option (List ℕ)) (f : GraphFault) → (IsFull f → ⊥) → (if b then (if d then Some graph.DoubleName else unknown_input o) else Some graph.TooManyNodes) ≡ Some f → b ≡ true
left_by true d o f n e = refl
left_by false d o f n e = absurd (n (subst IsFull (same_Some _ _ e) tt))

pub nodes_full : (g : Graph) (name : List ℕ) (kind : DeclKind) → refusal g name kind ≡ Some graph.TooManyNodes → NODES ≤ length g.nodes
nodes_full g name kind e = let b = full_by (nat_lt (length g.nodes) NODES) (is_declared g.names name) (find (is_undeclared g.names) (names_of kind)) e in grind (arith, nat_tests, b)

nodes_left : (g : Graph) (name : List ℕ) (kind : DeclKind) (f : GraphFault) → (IsFull f → ⊥) → refusal g name kind ≡ Some f → length g.nodes < NODES
nodes_left g name kind f n e = let b = left_by (nat_lt (length g.nodes) NODES) (is_declared g.names name) (find (is_undeclared g.names) (names_of kind)) f n e in grind (arith, nat_tests, b)

abbrev same_name : List ℕ → said_lines.Line → List ℕ
same_name d (said.Declares name kind) = name
same_name d line = d

abbrev same_kind : DeclKind → said_lines.Line → DeclKind
same_kind d (said.Declares name kind) = kind
same_kind d line = d

pub one_refusal : OneLine → (words : Words) (deck : Decked) (name : List ℕ) (kind : DeclKind) (f : GraphFault) → IsLine words (said.Declares name kind) → AreDenied words deck f → refusal deck.graph name kind ≡ Some f
one_refusal one words deck name kind f l d =
    let e = one words (said.Declares d.name d.kind) (said.Declares name kind) d.says l in
    subst (λ n. refusal deck.graph n kind ≡ Some f) (ap (same_name name) e) (subst (λ k. refusal deck.graph d.name k ≡ Some f) (ap (same_kind kind) e) d.refused)

abbrev IsDouble : GraphFault → Type 0
IsDouble graph.DoubleName = Unit {0}
IsDouble f = ⊥

double_not_unknown : (o : Option GraphFault) (n : List ℕ) → o ≡ Some (graph.UnknownInput n) → o ≡ Some graph.DoubleName → ⊥
double_not_unknown o n a b = subst IsDouble (same_Some _ _ (sym b ∙ a)) tt

-- why a declaration isn't taken
pub not_declared : OneForm → Apart → OneLine → (p : Place) (name : List ℕ) (kind : DeclKind) (r : Reason) → Fitting p → IsLine (line_words p.line) (said.Declares name kind) → NotDeclared p.deck name kind r → IsReason p r
not_declared one apart same p name kind LineTooLong f l h = absurd h
not_declared one apart same p name kind Syntax f l h = no_form p f (inr (inl (line_part (line_words p.line) (said.Declares name kind) l, h)))
not_declared one apart same p name kind (TooMany Nodes) f l h =
    let w = line_words p.line in
    too_many_nodes one p f (line_part w (said.Declares name kind) l) h.0 (no_syntax apart w (said.Declares name kind) l) (nodes_full p.deck.graph name kind h.1)
not_declared one apart same p name kind (TooMany Bytes) f l h = absurd h
not_declared one apart same p name kind (TooMany Threads) f l h = absurd h
not_declared one apart same p name kind (TooMany Levels) f l h = absurd h
not_declared one apart same p name kind (TooMany Inputs) f l h = absurd h
not_declared one apart same p name kind (TooMany Candidates) f l h = absurd h
not_declared one apart same p name kind (TooMany Selectors) f l h = absurd h
not_declared one apart same p name kind (TooMany Sets) f l h = absurd h
not_declared one apart same p name kind (TooMany Looks) f l h = absurd h
not_declared one apart same p name kind DoubleName f l h =
    named one apart p name kind DoubleName f l h.0 (nodes_left p.deck.graph name kind graph.DoubleName (λ x. x) h.1)
    (inl (refl, record { name = name; kind = kind; says = l; refused = h.1 }))
not_declared one apart same p name kind UnknownInput f l h =
    named one apart p name kind UnknownInput f l h.0 (nodes_left p.deck.graph name kind (graph.UnknownInput h.1) (λ x. x) h.2)
    (inr (λ d. double_not_unknown (refusal p.deck.graph name kind) h.1 h.2 (one_refusal same (line_words p.line) p.deck name kind graph.DoubleName l d), inl (refl, (h.1, record { name = name; kind = kind; says = l; refused = h.2 }))))
not_declared one apart same p name kind Memory f l h = tt

-- why a thread isn't begun
pub not_begun_so : OneForm → Apart → (p : Place) (r : Reason) → Fitting p → IsLine (line_words p.line) said.Thread → NotBegun p.deck r → IsReason p r
not_begun_so one apart p LineTooLong f l h = absurd h
not_begun_so one apart p Syntax f l h = absurd h
not_begun_so one apart p (TooMany Threads) f l h =
    let w = line_words p.line in
    let a = line_part w said.Thread l in
    after_bytes p (TooMany Threads) f (after_syntax one p (TooMany Threads) Beginning a tt (no_syntax apart w said.Thread l) (inr (λ n. not_beginning one w n.0 a, inl (refl, (a, h)))))
not_begun_so one apart p (TooMany Bytes) f l h = absurd h
not_begun_so one apart p (TooMany Nodes) f l h = absurd h
not_begun_so one apart p (TooMany Levels) f l h = absurd h
not_begun_so one apart p (TooMany Inputs) f l h = absurd h
not_begun_so one apart p (TooMany Candidates) f l h = absurd h
not_begun_so one apart p (TooMany Selectors) f l h = absurd h
not_begun_so one apart p (TooMany Sets) f l h = absurd h
not_begun_so one apart p (TooMany Looks) f l h = absurd h
not_begun_so one apart p DoubleName f l h = absurd h
not_begun_so one apart p UnknownInput f l h = absurd h
not_begun_so one apart p Memory f l h = tt

-- why a call isn't taken
pub not_called : (p : Place) (call : Call) (r : Reason) → Fitting p → IsLine (line_words p.line) (said.Calls call) → NotCalled p.deck r → IsReason p r
not_called p call Syntax f l h = no_form p f (inr (inr (line_part (line_words p.line) (said.Calls call) l, h)))
not_called p call Memory f l h = tt
not_called p call LineTooLong f l h = absurd h
not_called p call (TooMany what) f l h = absurd h
not_called p call DoubleName f l h = absurd h
not_called p call UnknownInput f l h = absurd h

-- why what a line says isn't taken
pub not_taken : OneForm → Apart → OneLine → (p : Place) (line : said_lines.Line) (r : Reason) → Fitting p → IsLine (line_words p.line) line → NotTaken line p.deck r → IsReason p r
not_taken one apart same p said.Nothing r f l h = absurd h
not_taken one apart same p (said.Declares name kind) r f l h = not_declared one apart same p name kind r f l h
not_taken one apart same p said.Thread r f l h = not_begun_so one apart p r f l h
not_taken one apart same p (said.Calls call) r f l h = not_called p call r f l h

-- a line of a deck that is read so far
abbrev pub at : Reader → ℕ → List ℕ → Place
at reader end line = record { deck = deck_of reader; end = end; line = line }

limit_is : (p : Place) (l : Limit) → IsFirstOf reasons p (limit_reason l) → IsReason p (limit_reason l)
limit_is p limit.Levels h = h
limit_is p limit.Inputs h = h
limit_is p limit.Candidates h = h
limit_is p limit.Selectors h = h
limit_is p limit.Sets h = h
limit_is p limit.Looks h = h

declares_beyond : (words : Words) (l : Limit) → limit_part l ≡ Declaring → IsLineFault words (fault.TooMany l) → Are words Declaring
declares_beyond words l e g = subst (Are words) e (beyond_part words l g)

some_begun : (reader : Reader) → reader.begun ≡ true → 1 ≤ length (deck_of reader).scripts
some_begun reader b =
    let n = ap length (has_begun reader.begun reader.threads.items reader.calls.items b) ∙ length-append reader.threads.items (reader.calls.items ∷ []) in
    omega (arith, n)

-- a declaration beyond its limit, where a thread is begun, where there are as many nodes as may be, and else
late_declaring : (reader : Reader) (end : ℕ) (line : List ℕ) (l : Limit) (r : Reason) → Fitting (at reader end line) → limit_part l ≡ Declaring → IsLineFault (line_words line) (fault.TooMany l) → reader.begun ≡ true → r ≡ Syntax → IsReason (at reader end line) r
late_declaring reader end line l r f e g b h =
    subst (IsReason (at reader end line)) (sym h) (no_form (at reader end line) f (inr (inl (declares_beyond (line_words line) l e g, some_begun reader b))))

full_declaring : OneForm → OneFault → (reader : Reader) (end : ℕ) (line : List ℕ) (l : Limit) (r : Reason) → Fitting (at reader end line) → limit_part l ≡ Declaring → IsLineFault (line_words line) (fault.TooMany l) → reader.begun ≡ false → NODES ≤ length reader.builder.nodes → r ≡ TooMany Nodes → IsReason (at reader end line) r
full_declaring one only reader end line l r f e g b n h =
    subst (IsReason (at reader end line)) (sym h)
    (too_many_nodes one (at reader end line) f (declares_beyond (line_words line) l e g) (not_begun reader.begun reader.threads.items reader.calls.items b) (beyond_no_syntax only (line_words line) l g) n)

free_declaring : OneForm → OneFault → (reader : Reader) (end : ℕ) (line : List ℕ) (l : Limit) (r : Reason) → Fitting (at reader end line) → limit_part l ≡ Declaring → IsLineFault (line_words line) (fault.TooMany l) → reader.begun ≡ false → length reader.builder.nodes < NODES → r ≡ limit_reason l → IsReason (at reader end line) r
free_declaring one only reader end line l r f e g b n h =
    subst (IsReason (at reader end line)) (sym h)
    (limit_is (at reader end line) l (beyond_limit one only (at reader end line) l f (subst (λ part. Stands part (deck_of reader)) (sym e) (not_begun reader.begun reader.threads.items reader.calls.items b)) g (λ m. let k = m.1 in omega (arith, n, k))))

by_nodes : {P : Type 0} (n : ℕ) → (NODES ≤ n → P) → (n < NODES → P) → P
by_nodes {P = P} n full free = by (nat_lt n NODES) refl
  where
    by : (b : Bool) → nat_lt n NODES ≡ b → P
    by true e = free (grind (arith, nat_tests, e))
    by false e = full (grind (arith, nat_tests, e))

by_begun : {P : Type 0} (b : Bool) → (b ≡ true → P) → (b ≡ false → P) → P
by_begun true begun early = begun refl
by_begun false begun early = early refl

declaring : OneForm → OneFault → (reader : Reader) (end : ℕ) (line : List ℕ) (l : Limit) (r : Reason) → Fitting (at reader end line) → limit_part l ≡ Declaring → IsLineFault (line_words line) (fault.TooMany l) → BeyondDeclaring reader l r → IsReason (at reader end line) r
declaring one only reader end line l r f e g h = by_begun reader.begun
    (λ b. late_declaring reader end line l r f e g b (h.begun b))
    (λ b. by_nodes (length reader.builder.nodes)
    (λ n. full_declaring one only reader end line l r f e g b n (h.full b n))
    (λ n. free_declaring one only reader end line l r f e g b n (h.free b n)))

early_calling : (reader : Reader) (end : ℕ) (line : List ℕ) (l : Limit) (r : Reason) → Fitting (at reader end line) → limit_part l ≡ Calling → IsLineFault (line_words line) (fault.TooMany l) → reader.begun ≡ false → r ≡ Syntax → IsReason (at reader end line) r
early_calling reader end line l r f e g b h =
    subst (IsReason (at reader end line)) (sym h) (no_form (at reader end line) f (inr (inr (subst (Are (line_words line)) e (beyond_part (line_words line) l g), not_begun reader.begun reader.threads.items reader.calls.items b))))

begun_calling : OneForm → OneFault → (reader : Reader) (end : ℕ) (line : List ℕ) (l : Limit) (r : Reason) → Fitting (at reader end line) → limit_part l ≡ Calling → IsLineFault (line_words line) (fault.TooMany l) → reader.begun ≡ true → r ≡ limit_reason l → IsReason (at reader end line) r
begun_calling one only reader end line l r f e g b h =
    subst (IsReason (at reader end line)) (sym h)
    (limit_is (at reader end line) l (beyond_limit one only (at reader end line) l f (subst (λ part. Stands part (deck_of reader)) (sym e) (some_begun reader b)) g
    (λ m. not_calling one (line_words line) m.0 (subst (Are (line_words line)) e (beyond_part (line_words line) l g)))))

calling : OneForm → OneFault → (reader : Reader) (end : ℕ) (line : List ℕ) (l : Limit) (r : Reason) → Fitting (at reader end line) → limit_part l ≡ Calling → IsLineFault (line_words line) (fault.TooMany l) → BeyondCalling reader l r → IsReason (at reader end line) r
calling one only reader end line l r f e g h = by_begun reader.begun
    (λ b. begun_calling one only reader end line l r f e g b (h.begun b))
    (λ b. early_calling reader end line l r f e g b (h.early b))

-- why a line isn't read
pub not_read : OneForm → OneFault → (reader : Reader) (end : ℕ) (line : List ℕ) (x : LineFault) (r : Reason) → Fitting (at reader end line) → IsLineFault (line_words line) x → NotRead reader x r → IsReason (at reader end line) r
not_read one only reader end line fault.Syntax r f g h = subst (IsReason (at reader end line)) (sym h) (no_form (at reader end line) f (inl g))
not_read one only reader end line (fault.TooMany limit.Levels) r f g h = declaring one only reader end line limit.Levels r f refl g h
not_read one only reader end line (fault.TooMany limit.Inputs) r f g h = declaring one only reader end line limit.Inputs r f refl g h
not_read one only reader end line (fault.TooMany limit.Candidates) r f g h = declaring one only reader end line limit.Candidates r f refl g h
not_read one only reader end line (fault.TooMany limit.Selectors) r f g h = declaring one only reader end line limit.Selectors r f refl g h
not_read one only reader end line (fault.TooMany limit.Sets) r f g h = calling one only reader end line limit.Sets r f refl g h
not_read one only reader end line (fault.TooMany limit.Looks) r f g h = calling one only reader end line limit.Looks r f refl g h
not_read one only reader end line fault.Memory r f g h = subst (IsReason (at reader end line)) (sym h) tt

-- what a builder's refusal tells
abbrev fault_of : {A : Type 0} → GraphFault → Result A GraphFault → GraphFault
fault_of d (Ok x) = d
fault_of d (Err f) = f

pub cause_of : {A : Type 0} (o : Option GraphFault) (result : Result A GraphFault) (f : GraphFault) → MatchOption o (IfErr result (λ x. x ≡ graph.Memory)) (λ x. result ≡ Err x) → result ≡ Err f → (o ≡ Some f) ⊎ (f ≡ graph.Memory)
cause_of None result f m e = inr (subst (λ r. IfErr r (λ x. x ≡ graph.Memory)) e m)
cause_of (Some x) result f m e = inl (ap Some (ap (fault_of f) (sym m ∙ e)))

abbrev IsWant : GraphFault → Type 0
IsWant graph.Memory = Unit {0}
IsWant f = ⊥

pub not_added : (deck : Decked) (name : List ℕ) (kind : DeclKind) (f : GraphFault) → deck.scripts ≡ [] → (refusal deck.graph name kind ≡ Some f) ⊎ (f ≡ graph.Memory) → NotDeclared deck name kind (declaration_reason f)
not_added deck name kind graph.DoubleName s (inl e) = (s, e)
not_added deck name kind graph.DoubleName s (inr e) = absurd (subst IsWant (sym e) tt)
not_added deck name kind (graph.UnknownInput n) s (inl e) = (s, n, e)
not_added deck name kind (graph.UnknownInput n) s (inr e) = absurd (subst IsWant (sym e) tt)
not_added deck name kind graph.TooManyNodes s (inl e) = (s, e)
not_added deck name kind graph.TooManyNodes s (inr e) = absurd (subst IsWant (sym e) tt)
not_added deck name kind graph.Memory s c = tt

pub fits : (p : Place) → p.end ≤ DECK_BYTES → length p.line ≤ LINE_BYTES → Fitting p
fits p w s = record { within = w; short = s }
