-- Schedules and examples.
pub mod LeftOutByCall
pub mod ThreadsTakeTheirScripts
pub mod SchedulesMakeHistories
pub mod ReplaysMerge
pub mod ReplaysEnd
pub mod ExamplesPlayOut
pub mod FirstExampleIsFinished
