-- What every state that the machine reaches keeps, in one record (Lawful). It is what the induction over moves needs; of the laws on
-- histories only histories_are_lawful names it.
pub mod Runs
pub mod Lawful
