-- Keys: a schedule and the key in front of it. ByKey: from what an engine gives, by a schedule, to AES under the key.
pub mod Keys
pub mod ByKey
