-- Sha1: FIPS 180-4. Parts: what the code works on at a time.
pub mod Sha1
pub mod Parts
