-- EachBlock: a cipher applied to each block by itself. Lengths: either cipher takes 16 bytes to 16. Answer: what a call answers in C.
pub mod EachBlock
pub mod Lengths
pub mod Answer
