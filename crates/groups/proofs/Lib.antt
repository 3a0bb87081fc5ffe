-- Loop: what a loop over the blocks of a group has done. Front: what a loop that writes to the front of a slice has.
pub mod Loop
pub mod Front
