-- A key schedule, as every engine makes and takes it, and the key that it is of.
use Rattle.std.specs.Prelude.{◌≡◌, List, ℕ, ◌-◌, ◌*◌, take}
use Rattle.fips197.specs.Aes.{KeyLength}
use Rattle.aes_steps.specs.Schedule.{rounds_in, schedule_of}

-- the key is the front of its schedule: with nr rounds, nr - 6 words
abbrev pub key_of : List ℕ → List ℕ
key_of keys = take ((rounds_in keys - 6) * 4) keys

-- a key schedule of AES-128 or of AES-256
pub record Expanded (keys : List ℕ) : Type 0 where
  pub size : KeyLength (key_of keys)
  pub is : keys ≡ schedule_of (key_of keys)

-- that of this key
pub record Expands (key keys : List ℕ) : Type 0 where
  pub schedule : Expanded keys
  pub of : key_of keys ≡ key
