-- What follows from the promise of `plan`'s text, in the words that its laws use: nothing here is a rule of 01.
pub mod Meaning
