-- Lookup: the tables have the S-box and its inverse at every byte.
pub mod Lookup
