-- The laws that callers cite: TimesX, OverX, JumpBy, Product, Order. NumX: the same on a block's number. Squares: bits moved apart, and reduced.
-- How the code works in words: WordsX, Apart, Powers, Horner. What Order rests on: Prime, Periods, LargePowers.
pub mod TimesX
pub mod OverX
pub mod JumpBy
pub mod NumX
pub mod Product
pub mod Squares
pub mod WordsX
pub mod Apart
pub mod Powers
pub mod Horner
pub mod Prime
pub mod Periods
pub mod LargePowers
pub mod Order
