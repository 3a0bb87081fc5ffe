-- Mode: steps 1 to 3 of document 01, over any cipher. Aes: AES as that cipher. Table: the refusals. Calls: what each call answers.
-- OpenBefore: opening before ticket P6, for one theorem. Powers: the power of the variable that joining keeps. Parallel: the rack, and lists of calls on it. Demands: what is promised, as types.
pub mod Mode
pub mod Aes
pub mod Table
pub mod Refusals
pub mod Calls
pub mod OpenBefore
pub mod Powers
pub mod Parallel
pub mod Demands
