-- Bytes have one answer.
use Rattle.std.proofs.Common.{◌≡◌, ◌≢◌, ℕ, ◌+◌, ◌<◌, ◌≤◌, ◌⊎◌, inl, inr, List, [], ◌∷◌, ◌++◌, length, get_or, drop, refl, sym, ap, ◌∙◌, arith, subst, length-append}
use Rattle.std.specs.Prelude.{Option, Some, None, nat_lt, if◌then◌else◌, find, Bool, true, false}
use Rattle.std.proofs.lemmas.Bool.Decides.{nat_tests}
use Rattle.std.proofs.lemmas.Option.{none-some}
use Rattle.std.proofs.lemmas.List.{same_from_push}
use Rattle.script_tree.specs.declared.limits.TheConstants.{DECK_BYTES, NODES, THREADS}
use Rattle.signal_graph.specs.declared.builder.DeclKind.{DeclKind}
use Rattle.signal_graph.specs.declared.builder.GraphFault.{GraphFault}
use Rattle.signal_graph.specs.declared.builder.GraphFault.TheVariants as graph
use Rattle.signal_graph.specs.declared.call.Call.{Call}
use Rattle.signal_graph.specs.Graph.{Graph}
use Rattle.signal_graph.specs.Tables.{is_declared}
use Rattle.signal_graph.specs.Declarations.{refusal, unknown_input, is_undeclared, names_of}
use Rattle.deck_lines.specs.declared.fault.Limit.TheVariants as limit
use Rattle.deck_lines.specs.declared.line.Line as said_lines
use Rattle.deck_lines.specs.declared.line.Line.TheVariants as said
use Rattle.deck_lines.specs.Texts.{line_words}
use Rattle.deck_text.specs.declared.fault.What.TheVariants.{Bytes, Nodes, Threads, Levels, Inputs, Candidates, Selectors, Sets, Looks}
use Rattle.deck_text.specs.declared.fault.DeckFault.{DeckFault}
use Rattle.deck_text.specs.declared.fault.DeckFault.TheVariants as fault
use Rattle.deck_text.specs.declared.reason.Reason.{Reason}
use Rattle.deck_text.specs.declared.reason.Reason.TheVariants.{LineTooLong, Syntax, TooMany, DoubleName, UnknownInput, Memory}
use Rattle.deck_text.specs.Decks.{Decked}
use Rattle.deck_text.specs.Faults.{fault_at}
use Rattle.deck_text.specs.Lines.{lines, with_line_feeds, end_of}
use Rattle.deck_text.specs.Reasons.{Declaring, Beginning, AreDenied, Place, Has, reasons, IsFirstOf, IsFaultyLine, IsThreadless, IsDeckFault}
use Rattle.deck_text.specs.Spelled.{Joins, Adds, Extends, Lead, SpellsDeck, nothing_yet}
use Rattle.deck_text.proofs.Reasoning.{IsDeclaring, IsBeginning, OneForm, Apart, said_part, line_part, one_part, Stands, well_placed, no_syntax, no_limit}
use Rattle.deck_text.proofs.Refusing.{OneLine}

decked_same : (a b : Decked) → a.graph ≡ b.graph → a.scripts ≡ b.scripts → a ≡ b
decked_same a b g s = ap (λ x. record { graph = x; scripts = a.scripts }) g ∙ ap (λ (x : List (List Call)). record { graph = b.graph; scripts = x }) s

joined_same : (call : Call) (old a b : List (List Call)) → Joins call old a → Joins call old b → a ≡ b
joined_same call old a b j k =
    let same = same_from_push j.earlier k.earlier j.newest k.newest (sym j.was ∙ k.was) in
    j.is ∙ ap (λ e. e ++ (j.newest ++ call ∷ []) ∷ []) same.0 ∙ ap (λ n. k.earlier ++ (n ++ call ∷ []) ∷ []) same.1 ∙ sym k.is

added_same : (line : said_lines.Line) (old a b : Decked) → Adds line old a → Adds line old b → a ≡ b
added_same said.Nothing old a b x y = x ∙ sym y
added_same (said.Declares name kind) old a b x y = decked_same a b (x.2 ∙ sym y.2) (x.3 ∙ sym y.3)
added_same said.Thread old a b x y = decked_same a b (x.1 ∙ sym y.1) (x.2 ∙ sym y.2)
added_same (said.Calls call) old a b x y = decked_same a b (x.1 ∙ sym y.1) (joined_same call old.scripts a.scripts b.scripts x.0 y.0)

extended_same : OneLine → (line : List ℕ) (old a b : Decked) → Extends line old a → Extends line old b → a ≡ b
extended_same one line old a b x y =
    added_same y.said old a b (subst (λ s. Adds s old a) (one (line_words line) x.said y.said x.says y.says) x.adds) y.adds

-- lines lead to one deck
lead_same : OneLine → (text : List (List ℕ)) (old a b : Decked) → Lead text old a → Lead text old b → a ≡ b
lead_same one [] old a b l m = l ∙ sym m
lead_same one (line ∷ rest) old a b l m =
    lead_same one rest m.0 a b (subst (λ d. Lead rest d a) (extended_same one line old l.0 m.0 l.1 m.1) l.2) m.2

-- a line that joins a deck has no reason to be refused
stands : (line : said_lines.Line) (old new : Decked) → Adds line old new → Stands (said_part line) old
stands said.Nothing old new x = tt
stands (said.Declares name kind) old new x = x.0
stands said.Thread old new x = tt
stands (said.Calls call) old new x = let n = ap length x.0.was ∙ length-append x.0.earlier (x.0.newest ∷ []) in omega (arith, n)

few_by : (b d : Bool) (o : Option (List ℕ)) → (if b then (if d then Some graph.DoubleName else unknown_input o) else Some graph.TooManyNodes) ≡ None → b ≡ true
few_by true d o e = refl
few_by false d o e = absurd (none-some _ (sym e))

few_nodes : (g : Graph) (name : List ℕ) (kind : DeclKind) → refusal g name kind ≡ None → length g.nodes < NODES
few_nodes g name kind e = let b = few_by (nat_lt (length g.nodes) NODES) (is_declared g.names name) (find (is_undeclared g.names) (names_of kind)) e in grind (arith, nat_tests, b)

free_of_nodes : (line : said_lines.Line) (old new : Decked) → Adds line old new → said_part line ≡ Declaring → length old.graph.nodes < NODES
free_of_nodes said.Nothing old new x e = absurd (subst IsDeclaring (sym e) tt)
free_of_nodes (said.Declares name kind) old new x e = few_nodes old.graph name kind x.1
free_of_nodes said.Thread old new x e = absurd (subst IsDeclaring (sym e) tt)
free_of_nodes (said.Calls call) old new x e = absurd (subst IsDeclaring (sym e) tt)

free_of_threads : (line : said_lines.Line) (old new : Decked) → Adds line old new → said_part line ≡ Beginning → length old.scripts < THREADS
free_of_threads said.Nothing old new x e = absurd (subst IsBeginning (sym e) tt)
free_of_threads (said.Declares name kind) old new x e = absurd (subst IsBeginning (sym e) tt)
free_of_threads said.Thread old new x e = x.0
free_of_threads (said.Calls call) old new x e = absurd (subst IsBeginning (sym e) tt)

not_denied : OneLine → (line : List ℕ) (old new : Decked) (f : GraphFault) → Extends line old new → AreDenied (line_words line) old f → ⊥
not_denied one line old new f x d =
    let a = subst (λ s. Adds s old new) (one (line_words line) x.said (said.Declares d.name d.kind) x.says d.says) x.adds in
    none-some f (sym a.1 ∙ d.refused)

no_reason : OneForm → Apart → OneLine → (line : List ℕ) (old new : Decked) (end : ℕ) (r : Reason) → Extends line old new → end ≤ DECK_BYTES → Has (record { deck = old; end = end; line = line }) r → ⊥
no_reason form apart one line old new end (TooMany Bytes) x w h = omega (arith, w, h)
no_reason form apart one line old new end LineTooLong x w h = let s = x.short in omega (arith, s, h)
no_reason form apart one line old new end Syntax x w (inl h) = no_syntax apart (line_words line) x.said x.says h
no_reason form apart one line old new end Syntax x w (inr h) = well_placed form (line_words line) (said_part x.said) old (line_part (line_words line) x.said x.says) (stands x.said old new x.adds) h
no_reason form apart one line old new end (TooMany Nodes) x w h =
    let few = free_of_nodes x.said old new x.adds (one_part form (line_words line) (said_part x.said) Declaring (line_part (line_words line) x.said x.says) h.0) in
    let m = h.1 in omega (arith, few, m)
no_reason form apart one line old new end (TooMany Threads) x w h =
    let few = free_of_threads x.said old new x.adds (one_part form (line_words line) (said_part x.said) Beginning (line_part (line_words line) x.said x.says) h.0) in
    let m = h.1 in omega (arith, few, m)
no_reason form apart one line old new end (TooMany Levels) x w h = no_limit apart (line_words line) x.said limit.Levels x.says h
no_reason form apart one line old new end (TooMany Inputs) x w h = no_limit apart (line_words line) x.said limit.Inputs x.says h
no_reason form apart one line old new end (TooMany Candidates) x w h = no_limit apart (line_words line) x.said limit.Candidates x.says h
no_reason form apart one line old new end (TooMany Selectors) x w h = no_limit apart (line_words line) x.said limit.Selectors x.says h
no_reason form apart one line old new end (TooMany Sets) x w h = no_limit apart (line_words line) x.said limit.Sets x.says h
no_reason form apart one line old new end (TooMany Looks) x w h = no_limit apart (line_words line) x.said limit.Looks x.says h
no_reason form apart one line old new end DoubleName x w h = not_denied one line old new graph.DoubleName x h
no_reason form apart one line old new end UnknownInput x w h = not_denied one line old new (graph.UnknownInput h.0) x h.1
no_reason form apart one line old new end Memory x w h = h

-- the first of some reasons is there, and is one
is_there : (rs : List Reason) (p : Place) (r : Reason) → IsFirstOf rs p r → Has p r
is_there [] p r f = absurd f
is_there (x ∷ rs) p r (inl f) = subst (Has p) (sym f.0) f.1
is_there (x ∷ rs) p r (inr f) = is_there rs p r f.1

first_same : (rs : List Reason) (p : Place) (a b : Reason) → IsFirstOf rs p a → IsFirstOf rs p b → a ≡ b
first_same [] p a b f g = absurd f
first_same (x ∷ rs) p a b (inl f) (inl g) = f.0 ∙ sym g.0
first_same (x ∷ rs) p a b (inl f) (inr g) = absurd (g.0 f.1)
first_same (x ∷ rs) p a b (inr f) (inl g) = absurd (f.0 g.1)
first_same (x ∷ rs) p a b (inr f) (inr g) = first_same rs p a b f.1 g.1

-- lines that lead past a line read it
record Passed (before : List (List ℕ)) (line : List ℕ) (old : Decked) : Type 0 where
  at : Decked
  next : Decked
  lead : Lead before old at
  extends : Extends line at next

passes : (before rest : List (List ℕ)) (line : List ℕ) (old new : Decked) → Lead (before ++ line ∷ rest) old new → Passed before line old
passes [] rest line old new l = record { at = old; next = l.0; lead = refl; extends = l.1 }
passes (first ∷ before) rest line old new l =
    let p = passes before rest line l.0 new l.2 in
    record { at = p.at; next = p.next; lead = (l.0, l.1, p.lead); extends = p.extends }

-- a line that is passed within the bytes isn't faulty
not_faulty : OneForm → Apart → OneLine → (bytes : List ℕ) (number : ℕ) (reason : Reason) (f : IsFaultyLine bytes number reason) (rest : List (List ℕ)) (new : Decked) → Lead (f.before ++ f.line ∷ rest) nothing_yet new → end_of bytes (f.before ++ f.line ∷ []) ≤ DECK_BYTES → ⊥
not_faulty form apart one bytes number reason f rest new l w =
    let p = passes f.before rest f.line nothing_yet new l in
    let x = subst (λ d. Extends f.line d p.next) (lead_same one f.before nothing_yet p.at f.deck p.lead f.lead) p.extends in
    no_reason form apart one f.line f.deck p.next (end_of bytes (f.before ++ f.line ∷ [])) reason x w (is_there reasons _ reason f.first)

read_not_faulty : OneForm → Apart → OneLine → (bytes : List ℕ) (number : ℕ) (reason : Reason) (deck : Decked) → length bytes ≤ DECK_BYTES → Lead (lines bytes) nothing_yet deck → IsFaultyLine bytes number reason → ⊥
read_not_faulty form apart one bytes number reason deck w l f =
    not_faulty form apart one bytes number reason f f.rest deck (subst (λ (ls : List (List ℕ)). Lead ls nothing_yet deck) f.cut l) (omega (arith, w))

-- two lines of a text: the same, or one behind the other
record Behind (first : List (List ℕ)) (line : List ℕ) (later : List (List ℕ)) : Type 0 where
  between : List (List ℕ)
  same : later ≡ first ++ line ∷ between

abbrev Compared : List (List ℕ) → List ℕ → List (List ℕ) → List ℕ → Type 0
Compared a x b y = ((a ≡ b) × (x ≡ y)) ⊎ (Behind a x b ⊎ Behind b y a)

one_more : (first : List ℕ) (a b : List (List ℕ)) (x y : List ℕ) → Compared a x b y → Compared (first ∷ a) x (first ∷ b) y
one_more first a b x y (inl e) = inl (ap (λ ls. first ∷ ls) e.0, e.1)
one_more first a b x y (inr (inl h)) = inr (inl (record { between = h.between; same = ap (λ ls. first ∷ ls) h.same }))
one_more first a b x y (inr (inr h)) = inr (inr (record { between = h.between; same = ap (λ ls. first ∷ ls) h.same }))

compared : (a b c d : List (List ℕ)) (x y : List ℕ) → a ++ x ∷ c ≡ b ++ y ∷ d → Compared a x b y
compared [] [] c d x y e = inl (refl, ap (λ ls. get_or ls 0 x) e)
compared [] (f ∷ b) c d x y e = inr (inl (record { between = b; same = ap (λ z. z ∷ b) (ap (λ ls. get_or ls 0 f) (sym e)) }))
compared (f ∷ a) [] c d x y e = inr (inr (record { between = a; same = ap (λ z. z ∷ a) (ap (λ ls. get_or ls 0 f) e) }))
compared (f ∷ a) (g ∷ b) c d x y e =
    let head = ap (λ ls. get_or ls 0 f) e in
    subst (λ z. Compared (f ∷ a) x (z ∷ b) y) head (one_more f a b x y (compared a b c d x y (ap (drop 1) e)))

fed_less : (first between : List (List ℕ)) (line : List ℕ) → with_line_feeds (first ++ line ∷ []) ≤ with_line_feeds (first ++ line ∷ between)
fed_less [] between line = omega arith
fed_less (x ∷ first) between line = let k = fed_less first between line in omega (arith, k)

-- no faulty line stands before another one
not_before : OneForm → Apart → OneLine → (bytes : List ℕ) (m n : ℕ) (r s : Reason) (f : IsFaultyLine bytes m r) (g : IsFaultyLine bytes n s) → Behind f.before f.line g.before → ⊥
not_before form apart one bytes m n r s f g h =
    let less = fed_less f.before h.between f.line in
    let w = subst (λ (ls : List (List ℕ)). end_of bytes ls ≤ DECK_BYTES) h.same g.within in
    not_faulty form apart one bytes m r f h.between g.deck (subst (λ (ls : List (List ℕ)). Lead ls nothing_yet g.deck) h.same g.lead) (omega (arith, less, w))

same_line : OneLine → (bytes : List ℕ) (m n : ℕ) (r s : Reason) (f : IsFaultyLine bytes m r) (g : IsFaultyLine bytes n s) → f.before ≡ g.before → f.line ≡ g.line → (m ≡ n) × (r ≡ s)
same_line one bytes m n r s f g e l =
    let deck = lead_same one g.before nothing_yet f.deck g.deck (subst (λ (ls : List (List ℕ)). Lead ls nothing_yet f.deck) e f.lead) g.lead in
    let p : Place = record { deck = g.deck; end = end_of bytes (g.before ++ g.line ∷ []); line = g.line } in
    let first : IsFirstOf reasons p r =
    subst (λ (d : Decked). IsFirstOf reasons (record { deck = d; end = end_of bytes (g.before ++ g.line ∷ []); line = g.line }) r) deck
    (subst (λ (x : List ℕ). IsFirstOf reasons (record { deck = f.deck; end = end_of bytes (g.before ++ x ∷ []); line = x }) r) l
    (subst (λ (b : List (List ℕ)). IsFirstOf reasons (record { deck = f.deck; end = end_of bytes (b ++ f.line ∷ []); line = f.line }) r) e f.first)) in
    (f.counted ∙ ap (λ (b : List (List ℕ)). length b + 1) e ∙ sym g.counted, first_same reasons p r s first g.first)

one_faulty : OneForm → Apart → OneLine → (bytes : List ℕ) (m n : ℕ) (r s : Reason) → IsFaultyLine bytes m r → IsFaultyLine bytes n s → (m ≡ n) × (r ≡ s)
one_faulty form apart one bytes m n r s f g = by (compared f.before g.before f.rest g.rest f.line g.line (sym f.cut ∙ g.cut))
  where
    by : Compared f.before f.line g.before g.line → (m ≡ n) × (r ≡ s)
    by (inl e) = same_line one bytes m n r s f g e.0 e.1
    by (inr (inl h)) = absurd (not_before form apart one bytes m n r s f g h)
    by (inr (inr h)) = absurd (not_before form apart one bytes n m s r g f h)

-- a fault that isn't want of memory names a line, or no thread
record OfLine (bytes : List ℕ) (f : DeckFault) : Type 0 where
  number : ℕ
  reason : Reason
  same : f ≡ fault_at number reason
  faulty : IsFaultyLine bytes number reason

abbrev Seen : List ℕ → DeckFault → Type 0
Seen bytes f = OfLine bytes f ⊎ ((f ≡ fault.NoThread) × IsThreadless bytes)

seen : (bytes : List ℕ) (f : DeckFault) → IsDeckFault bytes f → f ≢ fault.Memory → Seen bytes f
seen bytes (fault.Syntax k) h n = inl (record { number = k; reason = Syntax; same = refl; faulty = h })
seen bytes (fault.DoubleName k) h n = inl (record { number = k; reason = DoubleName; same = refl; faulty = h })
seen bytes (fault.UnknownInput k) h n = inl (record { number = k; reason = UnknownInput; same = refl; faulty = h })
seen bytes (fault.TooMany k what) h n = inl (record { number = k; reason = TooMany what; same = refl; faulty = h })
seen bytes (fault.LineTooLong k) h n = inl (record { number = k; reason = LineTooLong; same = refl; faulty = h })
seen bytes fault.NoThread h n = inr (refl, h)
seen bytes fault.Memory h n = absurd (n refl)

threadless_not_faulty : OneForm → Apart → OneLine → (bytes : List ℕ) (f : DeckFault) → OfLine bytes f → IsThreadless bytes → ⊥
threadless_not_faulty form apart one bytes f o t = read_not_faulty form apart one bytes o.number o.reason t.none.deck t.short t.none.lead o.faulty

both_seen : OneForm → Apart → OneLine → (bytes : List ℕ) (a b : DeckFault) → Seen bytes a → Seen bytes b → a ≡ b
both_seen form apart one bytes a b (inl o) (inl p) =
    let same = one_faulty form apart one bytes o.number p.number o.reason p.reason o.faulty p.faulty in
    o.same ∙ ap (λ n. fault_at n o.reason) same.0 ∙ ap (fault_at p.number) same.1 ∙ sym p.same
both_seen form apart one bytes a b (inl o) (inr t) = absurd (threadless_not_faulty form apart one bytes a o t.1)
both_seen form apart one bytes a b (inr t) (inl o) = absurd (threadless_not_faulty form apart one bytes b o t.1)
both_seen form apart one bytes a b (inr t) (inr u) = t.0 ∙ sym u.0

pub one_deck_fault : OneForm → Apart → OneLine → (bytes : List ℕ) (a b : DeckFault) → IsDeckFault bytes a → IsDeckFault bytes b → a ≢ fault.Memory → b ≢ fault.Memory → a ≡ b
one_deck_fault form apart one bytes a b f g m n = both_seen form apart one bytes a b (seen bytes a f m) (seen bytes b g n)

spelled_unseen : OneForm → Apart → OneLine → (bytes : List ℕ) (deck : Decked) (f : DeckFault) → SpellsDeck bytes deck → Seen bytes f → ⊥
spelled_unseen form apart one bytes deck f s (inl o) = read_not_faulty form apart one bytes o.number o.reason deck s.short s.spells.lead o.faulty
spelled_unseen form apart one bytes deck f s (inr t) =
    let same = lead_same one (lines bytes) nothing_yet deck t.1.none.deck s.spells.lead t.1.none.lead in
    let n = ap length (ap (λ (d : Decked). d.scripts) same ∙ t.1.none.none) in
    let k = s.spells.thread in
    omega (arith, n, k)

pub deck_or_fault : OneForm → Apart → OneLine → (bytes : List ℕ) (deck : Decked) (f : DeckFault) → SpellsDeck bytes deck → IsDeckFault bytes f → f ≡ fault.Memory
deck_or_fault form apart one bytes deck (fault.Syntax k) s h = absurd (spelled_unseen form apart one bytes deck (fault.Syntax k) s (inl (record { number = k; reason = Syntax; same = refl; faulty = h })))
deck_or_fault form apart one bytes deck (fault.DoubleName k) s h = absurd (spelled_unseen form apart one bytes deck (fault.DoubleName k) s (inl (record { number = k; reason = DoubleName; same = refl; faulty = h })))
deck_or_fault form apart one bytes deck (fault.UnknownInput k) s h = absurd (spelled_unseen form apart one bytes deck (fault.UnknownInput k) s (inl (record { number = k; reason = UnknownInput; same = refl; faulty = h })))
deck_or_fault form apart one bytes deck (fault.TooMany k what) s h = absurd (spelled_unseen form apart one bytes deck (fault.TooMany k what) s (inl (record { number = k; reason = TooMany what; same = refl; faulty = h })))
deck_or_fault form apart one bytes deck (fault.LineTooLong k) s h = absurd (spelled_unseen form apart one bytes deck (fault.LineTooLong k) s (inl (record { number = k; reason = LineTooLong; same = refl; faulty = h })))
deck_or_fault form apart one bytes deck fault.NoThread s h = absurd (spelled_unseen form apart one bytes deck fault.NoThread s (inr (refl, h)))
deck_or_fault form apart one bytes deck fault.Memory s h = refl

pub one_deck : OneLine → (bytes : List ℕ) (a b : Decked) → SpellsDeck bytes a → SpellsDeck bytes b → a ≡ b
one_deck one bytes a b s t = lead_same one (lines bytes) nothing_yet a b s.spells.lead t.spells.lead
