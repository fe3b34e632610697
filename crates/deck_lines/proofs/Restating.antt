-- The canonical words of a line say the line.
use Rattle.std.proofs.Common.{◌≡◌, ℕ, Bool, true, false, List, [], ◌∷◌, length, map, refl, sym, ap, arith, subst}
use Rattle.std.specs.Prelude.{◌≤◌, min, Option, Some, None}
use Rattle.std.specs.Option.{option_map, is_some}
use Rattle.std.specs.List.{AllByRecursion, AllZip}
use Rattle.script_tree.specs.declared.limits.TheConstants.{INPUTS, CANDIDATES, SELECTORS, SETS}
use Rattle.script_tree.specs.declared.value.Value.{Value}
use Rattle.script_tree.specs.Scripts.{Scripted}
use Rattle.expr_script.specs.declared.atoms.Atoms.TheVariants.{Script, Body}
use Rattle.expr_script.specs.Pieces.{words}
use Rattle.expr_script.specs.Printed.{printed, printed_words}
use Rattle.expr_script.specs.Spelled.{SpellsScript, SpellsBody}
use Rattle.signal_graph.specs.declared.builder.DeclKind.TheVariants as kind
use Rattle.signal_graph.specs.Declarations as declarations
use Rattle.signal_graph.specs.Declarations.{Part, different_names}
use Rattle.deck_lines.specs.declared.line.Line.{Line}
use Rattle.deck_lines.specs.declared.line.Line.TheVariants.{Declares}
use Rattle.deck_lines.specs.Canonical.{value_words, set_form, part_form, canonical_words}
use Rattle.deck_lines.specs.Forms as form
use Rattle.deck_lines.specs.Forms.{Words, SetForm, PartForm, Form, IsName, IsSet, IsPart, IsOver, IsProper}
use Rattle.deck_lines.specs.Limits.{Keeps, limits}
use Rattle.deck_lines.specs.Lines.{SaysSet, SaysPart, SaysBody, Says, IsLine}
use Rattle.deck_lines.specs.Selectors.{HasRoom}
use Rattle.deck_lines.proofs.Calling as calling
use Rattle.deck_lines.proofs.Judging.{same_names, as_many, chosen}
use Rattle.deck_lines.proofs.NoSigns.{no_colon, no_among}
use Rattle.deck_lines.proofs.ValueBack.{value_back}

-- the canonical words of scripts and bodies spell them
pub record Canons : Type 0 where
  pub script : (acc : Bool) (list : Words) (s : Scripted) → SpellsScript acc list s → SpellsScript acc (printed_words s) s
  pub body : (picks : ℕ) (list : Words) (s : Scripted) → picks ≤ SELECTORS → SpellsBody picks list s → SpellsBody picks (printed_words s) s

pub canons : ((acc : Bool) (list : Words) (s : Scripted) → SpellsScript acc list s → SpellsScript acc (words (printed s)) s)
    → ((acc : Bool) (list : Words) (s : Scripted) → SpellsScript acc list s → words (printed s) ≡ printed_words s)
    → ((picks : ℕ) (list : Words) (s : Scripted) → picks ≤ SELECTORS → SpellsBody picks list s → SpellsBody picks (words (printed s)) s)
    → ((picks : ℕ) (list : Words) (s : Scripted) → picks ≤ SELECTORS → SpellsBody picks list s → words (printed s) ≡ printed_words s)
    → Canons
canons s t b d = record {
  script = λ acc list x h. subst (λ (ws : Words). SpellsScript acc ws x) (t acc list x h) (s acc list x h);
  body = λ picks list x few h. subst (λ (ws : Words). SpellsBody picks ws x) (d picks list x few h) (b picks list x few h);
}

sets_again : (forms : List SetForm) (sets : List (List ℕ × Value)) → AllByRecursion IsSet forms → AllZip SaysSet forms sets → AllByRecursion IsSet (map set_form sets) × AllZip SaysSet (map set_form sets) sets
sets_again [] [] all z = (tt, tt)
sets_again [] (s ∷ sets) all z = absurd z
sets_again (f ∷ forms) [] all z = absurd z
sets_again (f ∷ forms) (s ∷ sets) all z =
    let back = value_back f.1 s.1 z.0.1 in
    let more = sets_again forms sets all.1 z.1 in
    ((record { named = subst IsName z.0.0 all.0.named; start = ap is_some back }, more.0), ((refl, back), more.1))

parts_again : Canons → (forms : List PartForm) (parts : List Part) → AllByRecursion IsPart forms → AllZip SaysPart forms parts → AllByRecursion IsPart (map part_form parts) × AllZip SaysPart (map part_form parts) parts
parts_again k [] [] all z = (tt, tt)
parts_again k [] (q ∷ parts) all z = absurd z
parts_again k (f ∷ forms) [] all z = absurd z
parts_again k (f ∷ forms) (q ∷ parts) all z =
    let back = k.script false f.0 q.0 z.0.0 in
    let more = parts_again k forms parts all.1 z.1 in (
      (
        record {
          whole = no_colon (Script false) (printed_words q.0) q.0 back;
          script = no_among (Script false) (printed_words q.0) q.0 back;
          some = subst (λ (ns : List (List ℕ)). 1 ≤ length ns) z.0.1 all.0.some;
          named = subst (AllByRecursion IsName) z.0.1 all.0.named;
        },
        more.0,
      ),
      ((back, refl), more.1),
    )

room_again : (forms : List PartForm) (parts : List Part) → AllByRecursion HasRoom forms → AllZip SaysPart forms parts → AllByRecursion HasRoom (map part_form parts)
room_again [] [] all z = tt
room_again [] (q ∷ parts) all z = absurd z
room_again (f ∷ forms) [] all z = absurd z
room_again (f ∷ forms) (q ∷ parts) all z = (subst (λ (ns : List (List ℕ)). length ns ≤ CANDIDATES) z.0.1 all.0, room_again forms parts all.1 z.1)

body_again : Canons → (n : ℕ) (over : Option Words) (body : Option Scripted) → SaysBody n over body → SaysBody n (option_map printed_words body) body
body_again k n None None s = tt
body_again k n None (Some b) s = absurd s
body_again k n (Some list) None s = absurd s
body_again k n (Some list) (Some b) s = k.body (min n SELECTORS) list b (omega arith) s

over_again : Canons → (n : ℕ) (over : Option Words) (body : Option Scripted) → IsOver n over → SaysBody n over body → IsOver n (option_map printed_words body)
over_again k n None None h s = h
over_again k n None (Some b) h s = absurd s
over_again k n (Some list) None h s = absurd s
over_again k n (Some list) (Some b) h s =
    let back = k.body (min n SELECTORS) list b (omega arith) s in
    (no_colon (Body (min n SELECTORS)) (printed_words b) b back, no_among (Body (min n SELECTORS)) (printed_words b) b back)

-- the choose that its canonical words say
choose_again : Canons → (name : List ℕ) (forms : List PartForm) (over : Option Words) (parts : List Part) (body : Option Scripted) → IsProper (form.Choose name forms over) → AllZip SaysPart forms parts → SaysBody (length forms) over body → AllByRecursion (Keeps (form.Choose name forms over)) limits → IsLine (canonical_words (Declares name (kind.Choose parts body))) (Declares name (kind.Choose parts body))
choose_again k name forms over parts body p z b w =
    let again = parts_again k forms parts p.2 z in
    let many : length forms ≡ length (map part_form parts) = omega (arith, as_many forms parts z, as_many (map part_form parts) parts again.1) in
    let spoken = subst (λ (n : ℕ). SaysBody n (option_map printed_words body) body) many (body_again k (length forms) over body b) in
    let few : length (different_names (declarations.script_names parts)) ≤ INPUTS = subst (λ (ns : List (List ℕ)). length (different_names ns) ≤ INPUTS) (sym (same_names forms parts z)) w.1.0.1 in
    let made = chosen name (map part_form parts) (option_map printed_words body) body parts (length (different_names (declarations.script_names parts))) (length (map part_form parts)) again.1 spoken refl few (room_again forms parts w.1.1.0 z) (omega (arith, many, w.1.1.1.0)) (omega (arith, many, w.1.1.1.0)) in
    record {
      f = form.Choose name (map part_form parts) (option_map printed_words body);
      fits = record { same = refl; proper = (p.0, omega (arith, many, p.1), again.0, subst (λ (n : ℕ). IsOver n (option_map printed_words body)) many (over_again k (length forms) over body p.3 b)) };
      says = made.0;
      within = made.1;
    }

by_form : Canons → (f : Form) (line : Line) → IsProper f → Says f line → AllByRecursion (Keeps f) limits → IsLine (canonical_words line) line
by_form k form.Nothing line p s w = subst (λ (l : Line). IsLine (canonical_words l) l) (sym s) (record { f = form.Nothing; fits = record { same = refl; proper = tt }; says = refl; within = w })
by_form k (form.Source name start) line p s w =
    let back = value_back start s.0 s.1 in
    subst (λ (l : Line). IsLine (canonical_words l) l) (sym s.2)
    (record { f = form.Source name (value_words s.0); fits = record { same = refl; proper = (p.0, ap is_some back) }; says = (s.0, back, refl); within = w })
by_form k (form.Signal name list) line p s w =
    let back = k.script false list s.0 s.1 in
    subst (λ (l : Line). IsLine (canonical_words l) l) (sym s.2)
    (record {
      f = form.Signal name (printed_words s.0);
      fits = record { same = refl; proper = p };
      says = (s.0, back, refl);
      within = ((record { tree = s.0.tree; spells = back.tree; shallow = back.shallow }, tt), (((back.few, tt), omega arith), (tt, (omega arith, (omega arith, (omega arith, tt))))));
    })
by_form k (form.Fold name start list) line p s w =
    let value = value_back start s.0 s.2 in
    let back = k.script true list s.1 s.3 in
    subst (λ (l : Line). IsLine (canonical_words l) l) (sym s.4)
    (record {
      f = form.Fold name (value_words s.0) (printed_words s.1);
      fits = record { same = refl; proper = (p.0, ap is_some value) };
      says = (s.0, s.1, value, back, refl);
      within = ((record { tree = s.1.tree; spells = back.tree; shallow = back.shallow }, tt), (((back.few, tt), omega arith), (tt, (omega arith, (omega arith, (omega arith, tt))))));
    })
by_form k (form.Choose name forms over) line p s w = subst (λ (l : Line). IsLine (canonical_words l) l) (sym s.4) (choose_again k name forms over s.0 s.1 p s.2 s.3 w)
by_form k form.Thread line p s w = subst (λ (l : Line). IsLine (canonical_words l) l) (sym s) (record { f = form.Thread; fits = record { same = refl; proper = tt }; says = refl; within = w })
by_form k (form.Fire forms looks) line p s w =
    let again = sets_again forms s.0 p.1 s.1 in
    let many : length forms ≡ length (map set_form s.0) = omega (arith, calling.as_many forms s.0 s.1, calling.as_many (map set_form s.0) s.0 again.1) in
    subst (λ (l : Line). IsLine (canonical_words l) l) (sym s.2)
    (record {
      f = form.Fire (map set_form s.0) looks;
      fits = record { same = refl; proper = (omega (arith, many, p.0), again.0, p.2) };
      says = (s.0, again.1, refl);
      within = (tt, ((tt, w.1.0.1), (tt, (w.1.1.1.0, (subst (λ (n : ℕ). n ≤ SETS) many w.1.1.1.1.0, (w.1.1.1.1.1.0, tt))))));
    })
by_form k (form.Read looks) line p s w = subst (λ (l : Line). IsLine (canonical_words l) l) (sym s) (record { f = form.Read looks; fits = record { same = refl; proper = p }; says = refl; within = w })

pub line_again : Canons → (list : Words) (line : Line) → IsLine list line → IsLine (canonical_words line) line
line_again k list line l = by_form k l.f line l.fits.proper l.says l.within
