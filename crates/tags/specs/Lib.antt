-- Work: what the functions below the calls ask and give.
pub mod Work
