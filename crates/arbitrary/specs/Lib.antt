-- Returned: what comes back of a call, as equations.
pub mod Returned
