-- In the opening state entries have slots that fit, and nothing is gathered.
use Rattle.std.proofs.Common.{◌≡◌, ℕ, inl, inr, refl, sym, arith, List, [], ◌∷◌, true≢false, subst}
use Rattle.std.specs.List.{AllByRecursion}
use Rattle.signal_graph.specs.Graph.{Graph}
use Rattle.script_tree.specs.declared.value.Value.{Value}
use Rattle.std.specs.Prelude.{map}
use Rattle.node_versions.specs.declared.entry.Entry.{Entry}
use Rattle.flow_model.specs.Machine.State.{Cell, cell, no_cell, start_cell, opening}
use Rattle.flow_model.specs.Kept.Lawful.{AreDistinct, HasSlot, SlotFits, GatheredAreApart}
use Rattle.flow_model.proofs.Opening.OpeningLists.{IsOpened, opening-cell}

-- No call lives yet.
pub all-slots : (graph : Graph) (callers limit : ℕ) (es : List Entry) → AllByRecursion (HasSlot (opening graph callers limit)) es
all-slots graph callers limit [] = tt
all-slots graph callers limit (e ∷ es) = (λ l. absurd (true≢false (sym l)), all-slots graph callers limit es)

pub none-apart : (graph : Graph) (callers limit : ℕ) → GatheredAreApart (opening graph callers limit)
none-apart graph callers limit n = go (opening-cell graph callers limit n)
  where
    none : (c d : Cell) → c ≡ d → d.gathered ≡ [] → AreDistinct (map (λ (p : ℕ × Value). p.0) c.gathered)
    none c d e k = subst (λ (x : Cell). AreDistinct (map (λ (p : ℕ × Value). p.0) x.gathered)) (sym e) (subst (λ (ps : List (ℕ × Value)). AreDistinct (map (λ (p : ℕ × Value). p.0) ps)) (sym k) (λ x. omega arith))

    go : IsOpened graph (opening graph callers limit) n → AreDistinct (map (λ (p : ℕ × Value). p.0) (cell (opening graph callers limit) n).gathered)
    go (inl k) = none (cell (opening graph callers limit) n) (start_cell graph n) k.1 refl
    go (inr k) = none (cell (opening graph callers limit) n) no_cell k.1 refl

-- The start entries have slot 0.
pub first-slots : (graph : Graph) (callers limit n : ℕ) → AllByRecursion (SlotFits (opening graph callers limit)) (cell (opening graph callers limit) n).entries
first-slots graph callers limit n = go (opening-cell graph callers limit n)
  where
    P : List Entry → Type 0
    P es = AllByRecursion (SlotFits (opening graph callers limit)) es

    go : IsOpened graph (opening graph callers limit) n → P (cell (opening graph callers limit) n).entries
    go (inl k) = subst (λ (c : Cell). P c.entries) (sym k.1) ((λ o. omega (arith, o)), tt)
    go (inr k) = subst (λ (c : Cell). P c.entries) (sym k.1) tt
