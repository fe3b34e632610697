-- Entries and settled entries stay kept.
pub mod NewPicksWereDue
pub mod EntriesAreThere
pub mod WhatSettles
pub mod AfterOtherSteps
pub mod AfterDones
pub mod AfterEndAndCollect
pub mod AfterDrop
pub mod AfterFrame
pub mod AfterEachStep
