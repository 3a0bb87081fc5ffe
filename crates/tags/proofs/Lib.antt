-- Cipher: FIPS 197's cipher as the mode's. KeyAndIv: a key and an IV of the right lengths. Text: what the hash finish hashes.
mod Cipher
pub mod KeyAndIv
mod Text
