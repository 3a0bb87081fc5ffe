-- Work: what the functions below the call ask and give.
pub mod Work
