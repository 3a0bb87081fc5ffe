-- What the block layer means. Bytes: blocks of 16 bytes. Tab: lists by index. Num: bytes as one number. Words: two words for sixteen
-- bytes. Field: polynomials over GF(2) of any degree.
pub mod Bytes
pub mod Tab
pub mod Num
pub mod Words
pub mod Field
