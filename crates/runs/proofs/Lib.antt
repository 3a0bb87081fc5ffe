-- Cipher: FIPS 197's cipher as the mode's. Where: what is written where a test says so. Text: a text with its padding, by blocks. Taken: middletexts taken up. Groups: a group done, and a run as a fold over groups. Walk: a run
-- done is the mode's.
pub mod Cipher
pub mod Where
pub mod Text
pub mod Taken
pub mod Groups
pub mod Walk
