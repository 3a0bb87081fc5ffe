-- Engines: the theorem.
pub mod Engines
