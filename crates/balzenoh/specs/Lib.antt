-- Exports: what each exported function comes to. Promises: the numbers that each may give, and zeros
-- after a refusal.
pub mod Exports
pub mod Promises
