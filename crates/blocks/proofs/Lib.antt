-- The laws that callers cite. Numbers: Xor, Linear, Field. Lists: XorBytes, Same, Tab, Chunks, Array, Zeros, Parts. Num: bytes as one
-- number; BigEndian: as std has it. Two words for a block: Bridge. Sign: a signed number as the machine reads it. Test: a rule of many numbers by one computed test.
pub mod Test
pub mod Xor
pub mod Linear
pub mod XorBytes
pub mod Same
pub mod Tab
pub mod Chunks
pub mod Array
pub mod Zeros
pub mod Parts
pub mod Field
pub mod Sign
pub mod Num
pub mod Bridge
pub mod BigEndian
