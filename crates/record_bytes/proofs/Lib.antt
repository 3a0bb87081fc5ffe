-- Encoding: encode and decode undo each other. Records: a list of records, one at a time.
pub mod Encoding
pub mod Records
