-- Either cipher takes 16 bytes to 16.
use Rattle.std.specs.Prelude.{◌≡◌, List, ℕ, length}
use mathlib.Core.Path.{sym, ap, ◌∙◌}
use Rattle.fips197.specs.Aes.{KeyLength, first_half, inv_second_half, encrypt, decrypt}
use Rattle.fips197.proofs.Aes.{encrypt_halves, decrypt_halves}
use Rattle.fips197.proofs.Lengths.{length-first, length_second, length_inv_first, length_inv_second}

pub length-encrypt : (key s : List ℕ) → KeyLength key → length s ≡ 16 → length (encrypt key s) ≡ 16
length-encrypt key s hk e = ap length (sym (encrypt_halves key s)) ∙ length_second key hk (first_half key s) (length-first key hk s e)

pub length-decrypt : (key s : List ℕ) → KeyLength key → length s ≡ 16 → length (decrypt key s) ≡ 16
length-decrypt key s hk e = ap length (sym (decrypt_halves key s)) ∙ length_inv_first key hk (inv_second_half key s) (length_inv_second key hk s e)
