-- Onto: a list of records, joined one after the other. Counted: the powers of the variable that are worked out for it.
pub mod Onto
pub mod Counted
