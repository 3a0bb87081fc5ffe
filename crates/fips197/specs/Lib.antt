-- FIPS 197, section by section. Gf256: 4, the field of 256 elements. Sbox: 5.1.1 and 5.3.2. State: the other steps of a round, 5.1
-- and 5.3. KeyExpansion: 5.2. Cipher: the pseudocode of 5.1 and 5.3, and halves of it. Aes: the cipher and its halves by the length
-- of the key, 16 or 32 bytes.
pub mod Gf256
pub mod Sbox
pub mod State
pub mod KeyExpansion
pub mod Cipher
pub mod Aes
