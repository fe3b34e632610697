-- Each allowed step, and each beginning that can be made, keeps all that lawful states keep.
use Rattle.std.proofs.Common.{◌≡◌, ℕ, true}
use Rattle.signal_graph.specs.declared.call.Call.{Call}
use Rattle.signal_graph.specs.Graph.{Graph, IsGraph}
use Rattle.flow_model.specs.declared.step.Step.{Step}
use Rattle.flow_model.specs.Machine.State.{Core}
use Rattle.flow_model.specs.Machine.Steps.{allowed, apply, can_begin, begin}
use Rattle.flow_model.specs.Kept.Lawful.{IsLawful}
use Rattle.flow_model.proofs.OrderStays.AfterEachStep.{step-OrderIsKept, begin-OrderIsKept}
use Rattle.flow_model.proofs.OrderStays.EntriesAndRoom.{step-one_entry, step-FramingComesLast, begin-FramingComesLast, step-EndedIsPrefix, begin-EndedIsPrefix}
use Rattle.flow_model.proofs.OrderStays.OpenNodesHaveFrames.{step-FramesAreOpen, begin-FramesAreOpen}
use Rattle.flow_model.proofs.OrderStays.VersionsAndLengths.{step-VersionsAreFresh, step-lists}
use Rattle.flow_model.proofs.OneStep.VersionsStayFresh.{begin-VersionsAreFresh}
use Rattle.flow_model.proofs.OneStep.SameCallers.{step-RoomIsKept, step-calls_right}
use Rattle.flow_model.proofs.OneStep.BegunCalls.{begin-RoomIsKept, begin-calls_right}
use Rattle.flow_model.proofs.OrderStays.SetsAreSets.{step-SetsAreSets, begin-SetsAreSets}
use Rattle.flow_model.proofs.Wants.WantsAreFree.{step-WantsAreFree, begin-WantsAreFree}
use Rattle.flow_model.proofs.Wants.WantsAreCovered.{step-WantsAreCovered, begin-WantsAreCovered}
use Rattle.flow_model.proofs.FramesSpread.AfterEachStep.{step-FramesSpread}
use Rattle.flow_model.proofs.FramesSpread.AfterOtherSteps.{begin-FramesSpread}
use Rattle.flow_model.proofs.ChangesSpread.AfterEachStep.{step-ChangesSpread}
use Rattle.flow_model.proofs.ChangesSpread.AfterOtherSteps.{begin-ChangesSpread}
use Rattle.flow_model.proofs.Edges.EdgesFitCandidates.{step-EdgesFit, begin-EdgesFit}
use Rattle.flow_model.proofs.Edges.PicksFitSelectors.{step-PicksFit, begin-PicksFit}
use Rattle.flow_model.proofs.Work.AfterEachStep.{step-WorkIsKept, begin-WorkIsKept}
use Rattle.flow_model.proofs.Edges.EdgesHaveKeys.{step-EdgesAreKept}
use Rattle.flow_model.proofs.Edges.EdgesOfBegunCalls.{step-EdgesAreKnown, begin-EdgesAreKnown, begin-EdgesAreKept}
use Rattle.flow_model.proofs.Settled.AfterEachStep.{step-SettledIsKept, step-settled_has_entry, begin-SettledIsKept, begin-settled_has_entry}
use Rattle.flow_model.proofs.Settled.EntriesAreThere.{step-EntriesAreKept, begin-EntriesAreKept}
use Rattle.flow_model.proofs.Values.ReadsAfterEachStep.{step-ValuesAreRead, begin-ValuesAreRead}
use Rattle.flow_model.proofs.Values.DonesAfterEachStep.{step-DonesAreRight, begin-DonesAreRight}
use Rattle.flow_model.proofs.OrderStays.LooksAreFew.{step-LooksAreFew, begin-LooksAreFew}
use Rattle.flow_model.proofs.Known.CallsInOrder.{step-BegunIsWithin, begin-BegunIsWithin, step-CallsAscend, begin-CallsAscend}
use Rattle.flow_model.proofs.Known.SlotsAndGathered.{step-EntriesHaveSlots, begin-EntriesHaveSlots, step-EntrySlotsFit, step-GatheredAreApart}
use Rattle.flow_model.proofs.Known.PairsNameNodes.{step-PairsNameNodes}
use Rattle.flow_model.proofs.Ended.AfterEnd.{MachineLaws}
use Rattle.flow_model.proofs.Ended.AfterEachStep.{step-EndedIsMachine, begin-EndedIsMachine}

pub step-lawful : (graph : Graph) → IsGraph graph → MachineLaws graph → (s : Core) (step : Step) → IsLawful graph s → allowed graph s step ≡ true → IsLawful graph (apply graph s step)
step-lawful graph g laws s step h a = record {
  order_is_kept = step-OrderIsKept graph s step h a;
  framing_comes_last = step-FramingComesLast graph s step h a;
  frames_are_open = step-FramesAreOpen graph s step h a;
  frames_spread = step-FramesSpread graph s step h a;
  wants_are_covered = step-WantsAreCovered graph s step h a;
  settled_is_kept = step-SettledIsKept graph s step h a;
  changes_spread = step-ChangesSpread graph s step h a;
  values_are_read = step-ValuesAreRead graph g s step h a;
  dones_are_right = step-DonesAreRight graph g s step h a;
  ended_is_prefix = step-EndedIsPrefix graph s step h a;
  room_is_kept = step-RoomIsKept graph s step h a;
  ended_is_machine = step-EndedIsMachine graph g laws s step h a;
  edges_are_kept = step-EdgesAreKept graph s step h a;
  edges_are_known = step-EdgesAreKnown graph s step h a;
  work_is_kept = step-WorkIsKept graph s step h a;
  entries_are_kept = step-EntriesAreKept graph s step h a;
  one_entry = step-one_entry graph s step h a;
  versions_are_fresh = step-VersionsAreFresh graph s step h a;
  wants_are_free = step-WantsAreFree graph s step h a;
  picks_fit = step-PicksFit graph s step h a;
  edges_fit = step-EdgesFit graph s step h a;
  lists = step-lists graph s step h;
  sets_are_sets = step-SetsAreSets graph s step h;
  settled_has_entry = step-settled_has_entry graph s step h a;
  calls_are_right = step-calls_right graph s step h a;
  looks_are_few = step-LooksAreFew graph s step h a;
  entries_have_slots = step-EntriesHaveSlots graph s step h a;
  entry_slots_fit = step-EntrySlotsFit graph s step h a;
  begun_is_within = step-BegunIsWithin graph s step a h.begun_is_within;
  calls_ascend = step-CallsAscend graph s step a h.calls_ascend;
  gathered_are_apart = step-GatheredAreApart graph s step a h.gathered_are_apart;
  pairs_name_nodes = step-PairsNameNodes graph g s step h a;
}

pub begin-lawful : (graph : Graph) (s : Core) (caller : ℕ) (c : Call) → IsLawful graph s → can_begin graph s caller c ≡ true → IsLawful graph (begin graph s caller c)
begin-lawful graph s caller c h m = record {
  order_is_kept = begin-OrderIsKept graph s caller c h;
  framing_comes_last = begin-FramingComesLast graph s caller c h;
  frames_are_open = begin-FramesAreOpen graph s caller c h;
  frames_spread = begin-FramesSpread graph s caller c h;
  wants_are_covered = begin-WantsAreCovered graph s caller c h m;
  settled_is_kept = begin-SettledIsKept graph s caller c h;
  changes_spread = begin-ChangesSpread graph s caller c h;
  values_are_read = begin-ValuesAreRead graph s caller c h;
  dones_are_right = begin-DonesAreRight graph s caller c h;
  ended_is_prefix = begin-EndedIsPrefix graph s caller c h;
  room_is_kept = begin-RoomIsKept graph s caller c h m;
  ended_is_machine = begin-EndedIsMachine graph s caller c h;
  edges_are_kept = begin-EdgesAreKept graph s caller c h;
  edges_are_known = begin-EdgesAreKnown graph s caller c h;
  work_is_kept = begin-WorkIsKept graph s caller c h;
  entries_are_kept = begin-EntriesAreKept graph s caller c h;
  one_entry = h.one_entry;
  versions_are_fresh = begin-VersionsAreFresh graph s caller c h.versions_are_fresh;
  wants_are_free = begin-WantsAreFree graph s caller c h m;
  picks_fit = begin-PicksFit graph s caller c h;
  edges_fit = begin-EdgesFit graph s caller c h;
  lists = h.lists;
  sets_are_sets = begin-SetsAreSets graph s caller c h;
  settled_has_entry = begin-settled_has_entry graph s caller c h;
  calls_are_right = begin-calls_right graph s caller c h m;
  looks_are_few = begin-LooksAreFew graph s caller c h;
  entries_have_slots = begin-EntriesHaveSlots graph s caller c h;
  entry_slots_fit = h.entry_slots_fit;
  begun_is_within = begin-BegunIsWithin graph s caller c m;
  calls_ascend = begin-CallsAscend graph s caller c h;
  gathered_are_apart = h.gathered_are_apart;
  pairs_name_nodes = h.pairs_name_nodes;
}
