-- How this engine comes to FIPS 197's definitions. Powers: the product by its bits, and the chain of products. Rotations: the affine step.
-- Each: one after the other at each byte.
pub mod Powers
pub mod Rotations
pub mod Each
