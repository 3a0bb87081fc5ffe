-- LaidOut: how runs are laid out. Fits: where no row holds, the output is long enough.
pub mod LaidOut
pub mod Fits
