-- Engines: any two engines give the same.
pub mod Engines
