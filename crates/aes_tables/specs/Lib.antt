-- What the tables hold.
pub mod Table
