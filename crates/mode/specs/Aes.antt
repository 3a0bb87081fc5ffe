-- AES (FIPS 197), by the length of its key, as the mode's cipher.
use Rattle.fips197.specs.Aes.{first_half, second_half, inv_first_half, inv_second_half}
use Rattle.mode.specs.Mode.{Cipher}

abbrev pub aes : Cipher
aes = record { first_half = first_half; second_half = second_half; first_half_back = inv_first_half; second_half_back = inv_second_half }
