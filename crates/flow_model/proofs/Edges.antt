-- Out-edges and picks stay kept.
pub mod EdgesFitCandidates
pub mod PicksFitSelectors
pub mod DroppedAndDiscovered
pub mod WhereRunsEnd
pub mod RunsHaveEntries
pub mod EdgesHaveKeys
pub mod EdgesOfBegunCalls
