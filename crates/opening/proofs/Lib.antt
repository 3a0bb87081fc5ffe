-- Padding: the last block. Passes: what the two passes over a ciphertext come to. Opening: what the rows leave to decide.
mod Padding
mod Passes
mod Opening
