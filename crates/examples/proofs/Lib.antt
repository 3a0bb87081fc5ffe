pub mod Examples
-- Examples: the table. Hashed: the hash finish in small cases.
mod Hashed
