-- Groups: one group after another. Outcome: what is refused, and what a call leaves.
pub mod Groups
pub mod Outcome
