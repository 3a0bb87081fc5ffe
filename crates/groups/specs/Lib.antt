-- Group: blocks by their number, in words or in bytes.
pub mod Group
