-- The laws of these definitions. A mode needs Aes, Keys and Lengths alone. Gf256: the field. SboxTables: the S-box's tables by their rule. Mix: columns.
-- Steps: each step is undone by its inverse. Rounds: the halves, of any number of rounds. KeyExpansion: the schedule. Keys: the lengths of
-- a key. Lengths: lengths alone.
pub mod Gf256
pub mod SboxTables
pub mod Mix
pub mod Steps
pub mod Rounds
pub mod KeyExpansion
pub mod Keys
pub mod Lengths
pub mod Aes
