-- Promises: the numbers, and zeros after a refusal. Lent: an answer written to a lent
-- output. Handed: records handed in as bytes.
pub mod Promises
pub mod Lent
pub mod Handed
