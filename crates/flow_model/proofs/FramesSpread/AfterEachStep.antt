-- Where a call has a Frame, all that reacts is open for it or wanted by it, after each step.
use Rattle.std.proofs.Common.{◌≡◌, true}
use Rattle.signal_graph.specs.Graph.{Graph}
use Rattle.flow_model.specs.declared.step.Step.{Step}
use Rattle.flow_model.specs.declared.step.Step.TheVariants as steps
use Rattle.flow_model.specs.Machine.State.{Core}
use Rattle.flow_model.specs.Machine.Steps.{allowed, apply}
use Rattle.flow_model.specs.Kept.Lawful.{IsLawful, FramesSpread}
use Rattle.flow_model.proofs.FramesSpread.AfterOtherSteps.{started-spread, gathered-spread, evaluated-spread, body-spread, marked-spread, looked-spread, dropped-spread, ended-spread}
use Rattle.flow_model.proofs.FramesSpread.AfterDiscover.{discovered-spread}
use Rattle.flow_model.proofs.FramesSpread.AfterDones.{skipped-spread, resolved-spread}
use Rattle.flow_model.proofs.FramesSpread.AfterFrame.{framed-spread}
use Rattle.flow_model.proofs.FramesSpread.AfterCollect.{collected-spread}

pub step-FramesSpread : (graph : Graph) (s : Core) (step : Step) → IsLawful graph s → allowed graph s step ≡ true → FramesSpread graph (apply graph s step)
step-FramesSpread graph s (steps.Frame t n) h a = framed-spread graph s t n h a
step-FramesSpread graph s (steps.Start t) h a = started-spread graph s t h a
step-FramesSpread graph s (steps.Skip t n) h a = skipped-spread graph s t n h a
step-FramesSpread graph s (steps.Gather t n m) h a = gathered-spread graph s t n m h a
step-FramesSpread graph s (steps.Evaluate t n) h a = evaluated-spread graph s t n h a
step-FramesSpread graph s (steps.Body t n) h a = body-spread graph s t n h a
step-FramesSpread graph s (steps.Resolve t n) h a = resolved-spread graph s t n h a
step-FramesSpread graph s (steps.Discover t n c) h a = discovered-spread graph s t n c h a
step-FramesSpread graph s (steps.Drop t n o) h a = dropped-spread graph s t n o h a
step-FramesSpread graph s (steps.Mark t m) h a = marked-spread graph s t m h a
step-FramesSpread graph s (steps.Look t) h a = looked-spread graph s t h a
step-FramesSpread graph s (steps.End t) h a = ended-spread graph s t h a
step-FramesSpread graph s (steps.Collect n) h a = collected-spread graph s n h a
