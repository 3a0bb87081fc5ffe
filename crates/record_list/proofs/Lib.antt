-- Loop: a loop over the list. Pinned: the count may not be said more loosely.
pub mod Fold
pub mod Powers
pub mod Loop
pub mod Pinned
