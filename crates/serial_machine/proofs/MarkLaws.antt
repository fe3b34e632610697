-- Marks of nodes that are put and taken off.
use Rattle.std.proofs.Common.{◌≡◌, ℕ, ◌+◌, ◌*◌, ◌<◌, ◌≤◌, inl, inr, Bool, true, false, List, length, get_or, sym, ◌∙◌, arith}
use Rattle.std.proofs.lemmas.Bool.{cases_lt, true≢false}
use Rattle.std.proofs.lemmas.List.{get_or_past, get_or_default, ext_get_or}
use Rattle.script_tree.specs.declared.value.Fault.TheVariants.{NoChoice}
use Rattle.script_tree.specs.declared.value.Value.{Value}
use Rattle.script_tree.specs.declared.value.Value.TheVariants.{Fault as Faulty}
use Rattle.signal_graph.specs.Graph.{is_in}
use Rattle.signal_graph.specs.Values.{Values, at}
use Rattle.serial_machine.specs.Marking.{is_marked, AreUnmarked, AreMore, AreFlags}
use Rattle.serial_machine.proofs.Reaching.{unmarked_before}

-- ---- nodes that are added one after the other

pub record Adds (marks more : List Bool) (nodes : List ℕ) : Type 0 where
  pub size : length more ≡ length marks
  pub grows : AreMore marks more
  pub there : (n : ℕ) → n < length marks → is_in n nodes ≡ true → is_marked more n ≡ true

-- ---- marks that are taken off

pub record Settles (old : List Bool) (from n : ℕ) (nodes : List Bool) (before now : Values) : Type 0 where
  pub size : length nodes ≡ length old
  pub before_size : length before ≡ length old
  pub none : AreUnmarked nodes from n
  pub fewer : AreMore nodes old
  pub agree : (m : ℕ) → is_marked nodes m ≡ false → at before m ≡ at now m

-- where a block has a marked node left, it has its flag
pub flag_there : (old flags nodes : List Bool) (before now : Values) (block : ℕ) (flag d : Bool) → AreFlags old flags → Settles old 0 (64 * block) nodes before now → block < length flags → flag ≡ get_or flags block d
    → (n : ℕ) → 64 * block ≤ n → n < 64 * block + 64 → is_marked nodes n ≡ true → flag ≡ true
flag_there old flags nodes before now block flag d are settles within is n low below h =
    is ∙ get_or_default flags block d false within ∙ are.flagged block n low below (settles.fewer n h)

-- one block more
pub settle_next : (old nodes after : List Bool) (before values now : Values) (block next : ℕ) → next ≡ block + 1 → length after ≡ length nodes → length values ≡ length before → AreUnmarked after (64 * block) (64 * block + 64) → AreMore after nodes
    → ((m : ℕ) → is_marked after m ≡ false → at values m ≡ at now m) → Settles old 0 (64 * block) nodes before now → Settles old 0 (64 * next) after values now
settle_next old nodes after before values now block next is size before_size none fewer agree settles = record {
  size = size ∙ settles.size;
  before_size = before_size ∙ settles.before_size;
  none = λ m low below. elim (cases_lt m (64 * block)) [
    | inl earlier ↦ unmarked_before after nodes fewer m (settles.none m low earlier)
    | inr here ↦ none m here (omega (arith, is, below))
  ];
  fewer = λ m h. settles.fewer m (fewer m h);
  agree = agree;
}

-- all blocks
pub record Settled (nodes : List Bool) (before now : Values) : Type 0 where
  pub none : AreUnmarked nodes 0 (length nodes)
  pub values : before ≡ now

pub settled : (old flags nodes : List Bool) (before now : Values) (count : ℕ) → AreFlags old flags → length now ≡ length old → length flags ≤ count → Settles old 0 (64 * count) nodes before now → Settled nodes before now
settled old flags nodes before now count are size all settles =
    let enough = are.enough in
    record {
      none = λ m low below. settles.none m low (omega (arith, enough, all, below, settles.size));
      values = ext_get_or (Faulty NoChoice) before now (settles.before_size ∙ sym size)
          (λ m within. settles.agree m (settles.none m (omega arith) (omega (arith, enough, all, within, settles.before_size))));
    }

-- with no marks left no flag is needed
pub flags_down : (old flags nodes down : List Bool) → AreFlags old flags → length nodes ≡ length old → length down ≡ length flags → AreUnmarked nodes 0 (length nodes) → AreFlags nodes down
flags_down old flags nodes down are size as_many none =
    let few = are.few in
    let few_flags = are.few_flags in
    let enough = are.enough in
    record {
      few = omega (arith, few, size);
      few_flags = omega (arith, few_flags, as_many);
      enough = omega (arith, enough, size, as_many);
      flagged = λ block n low below h. absurd (true≢false (sym h ∙ free n));
    }
  where
    free : (n : ℕ) → is_marked nodes n ≡ false
    free n = elim (cases_lt n (length nodes)) [ inl inside ↦ none n (omega arith) inside | inr past ↦ get_or_past nodes n false past ]
