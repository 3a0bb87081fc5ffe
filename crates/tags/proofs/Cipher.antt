-- FIPS 197's cipher is the mode's: one half after the other.
use mathlib.Core.Path.{◌≡◌, sym}
use mathlib.Core.List.{List}
use Prim.Native.Nat.{ℕ}
use Rattle.fips197.specs.Aes.{encrypt}
use Rattle.fips197.proofs.Aes.{encrypt_halves}
use Rattle.mode.specs.Mode.{encrypt as encrypt_of}
use Rattle.mode.specs.Aes.{aes}

pub by_halves : (key s : List ℕ) → encrypt key s ≡ encrypt_of aes key s
unfolding encrypt_of
by_halves key s = sym (encrypt_halves key s)
