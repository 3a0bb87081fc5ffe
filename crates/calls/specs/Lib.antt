-- For the functions below the calls. Layout: a run laid out in a cleared output. Work: what each call does once nothing is refused.
pub mod Layout
pub mod Work
