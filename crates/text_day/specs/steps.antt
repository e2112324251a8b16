-- The code's own steps, which contracts of functions below the calls need: nothing here is a rule of 01.
pub mod FileGiven
pub mod FileRead
