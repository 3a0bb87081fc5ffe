-- Gf128: blocks as polynomials. Order: how far one can be multiplied by x before a value comes again. Spread: how the code squares.
pub mod Gf128
pub mod Order
pub mod Spread
