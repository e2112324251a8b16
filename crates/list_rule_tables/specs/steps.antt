-- The code's own steps, which contracts of functions below the calls need: nothing here is a rule of 01.
pub mod Enough
pub mod Figures
pub mod Heaviest
pub mod Lent
pub mod Rule
pub mod SettledFigures
