-- FIPS 197, 5.1 and 5.3: the steps of a round and their inverses. The state is a list of 16 bytes, column after column (3.4): the byte in
-- row r and column c has index r + 4 c. Each step says what stands at index i.
use Rattle.std.specs.Prelude.{List, ℕ, ◌+◌, ◌-◌, ◌*◌, ◌/◌, ◌%◌, get_or}
use Rattle.std.specs.Int.Bits.{bit_xor}
use Rattle.blocks.specs.Bytes.{xor_bytes}
use Rattle.blocks.specs.Tab.{tab}
use Rattle.fips197.specs.Gf256.{gmul}
use Rattle.fips197.specs.Sbox.{sbox, inv_sbox}

-- 5.1.1, SUBBYTES(), and 5.3.2, INVSUBBYTES()
unfoldable pub sub_bytes : List ℕ → List ℕ
sub_bytes s = tab 16 (λ i. sbox (get_or s i 0))

unfoldable pub inv_sub_bytes : List ℕ → List ℕ
inv_sub_bytes s = tab 16 (λ i. inv_sbox (get_or s i 0))

-- 5.1.2, SHIFTROWS(): row r goes r columns to the left. 5.3.1, INVSHIFTROWS(): to the right
unfoldable pub shift_rows : List ℕ → List ℕ
shift_rows s = tab 16 (λ i. get_or s ((i + i % 4 * 4) % 16) 0)

unfoldable pub inv_shift_rows : List ℕ → List ℕ
inv_shift_rows s = tab 16 (λ i. get_or s ((i + 16 - i % 4 * 4) % 16) 0)

-- the byte j below that of index i in its column, which is taken round
abbrev pub below : List ℕ → ℕ → ℕ → ℕ
below s i j = get_or s (i / 4 * 4 + (i + j) % 4) 0

unfoldable pub sum4 : ℕ → ℕ → ℕ → ℕ → ℕ
sum4 a b c d = bit_xor (bit_xor a b) (bit_xor c d)

-- 5.1.3, MIXCOLUMNS(): a byte becomes 02 times itself, 03 times the one below it, and the two below that
unfoldable pub mix : ℕ → ℕ → ℕ → ℕ → ℕ
mix a b c d = sum4 (gmul 0x02 a) (gmul 0x03 b) c d

unfoldable pub mix_columns : List ℕ → List ℕ
mix_columns s = tab 16 (λ i. mix (below s i 0) (below s i 1) (below s i 2) (below s i 3))

-- 5.3.3, INVMIXCOLUMNS()
unfoldable pub inv_mix : ℕ → ℕ → ℕ → ℕ → ℕ
inv_mix a b c d = sum4 (gmul 0x0e a) (gmul 0x0b b) (gmul 0x0d c) (gmul 0x09 d)

unfoldable pub inv_mix_columns : List ℕ → List ℕ
inv_mix_columns s = tab 16 (λ i. inv_mix (below s i 0) (below s i 1) (below s i 2) (below s i 3))

-- 5.1.4, ADDROUNDKEY()
abbrev pub add_round_key : List ℕ → List ℕ → List ℕ
add_round_key s k = xor_bytes s k
