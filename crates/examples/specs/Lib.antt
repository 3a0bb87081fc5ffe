-- Document 01's worked examples, and the laws of which some of them are cases.
pub mod Examples
