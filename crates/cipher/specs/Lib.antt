-- What the face of the cipher asks and gives, in FIPS 197's words. Keys: a key schedule. Group: many blocks at once. Numbers: engines by number.
pub mod Keys
pub mod Group
pub mod Numbers
