-- What is read stays read, and Dones stay right.
pub mod NothingComesBefore
pub mod FoundByReads
pub mod WorkersStayFirst
pub mod ReadsStay
pub mod ReadsAreKept
pub mod ReadsAfterEachStep
pub mod DonesRestOnClosed
pub mod RightDonesStay
pub mod NewDonesAreRight
pub mod EvaluatedIsCounted
pub mod DonesAfterEachStep
