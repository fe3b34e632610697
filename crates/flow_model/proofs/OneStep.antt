-- What a step is allowed for and what it does.
pub mod WhoMayStep
pub mod VersionsStayFresh
pub mod BegunCalls
pub mod WhoLivesAndFrames
pub mod SameLengths
pub mod SameCallers
pub mod CallsLiveOn
pub mod WhatStepsLeave
pub mod ChangesOfOneList
pub mod QuietSteps
pub mod FirstOpenCalls
pub mod LastDones
