-- The code's own steps, which contracts of functions below the calls need: nothing here is a rule of 01.
pub mod Alike
pub mod Buffers
pub mod Numbers
pub mod Pages
pub mod Readings
pub mod Records
pub mod Tallies
