-- What the functions of this crate give. Task: what is done with a block. Group: a group of blocks. Run: a run, by the mode's definitions.
pub mod Task
pub mod Group
pub mod Run
