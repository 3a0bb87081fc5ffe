-- How code in bytes comes to FIPS 197's definitions. Columns: how a state is written. Words: how a schedule is. Halves: the cipher by a schedule.
pub mod Columns
pub mod Words
pub mod Halves
pub mod Each
