-- Schedule: the key schedule, as the engines make and take it. Words: the same while its words are worked out. Each: a step at each block.
pub mod Schedule
pub mod Words
pub mod Each
