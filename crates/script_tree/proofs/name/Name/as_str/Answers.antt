use Rattle.std.proofs.Common.{subst, sym}
use Rattle.std.specs.Str.{IsUtf8}
use Rattle.script_tree.proofs.NameText.{name_text}
use Rattle.script_tree.proofs.name.Name.as_str.Goals as goal

pub unreachable-requires : goal.unreachable-requires
unreachable-requires c = name_text _ c.self.invariant (λ text. c.in-Err.ensures.cases.0 (subst IsUtf8 (sym c.as_slice.ensures.value) text))
