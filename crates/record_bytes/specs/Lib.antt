-- Encoding: a run record as 24 bytes.
pub mod Encoding
