-- The two tables of the S-box and its inverse, held to their rule at every entry. One test computes the field's inverse at each of 256
-- numbers; the others only look up.
use mathlib.Core.Path.{◌≡◌, sym, ap, ◌∙◌}
use mathlib.Core.List.{List, [], ◌∷◌}
use Prim.Native.Nat.{ℕ, zero, suc, ◌<◌}
use native.Mathlib.Omega.{arith}
use lib.Dec.{lit<}
use lib.ListN.{get_or}
use Rattle.blocks.specs.Field.{step, times, mul}
use Rattle.blocks.proofs.Test.{equal-below, less_below}
use Rattle.fips197.specs.Gf256.{gmul, inverse}
use Rattle.fips197.specs.Sbox.{affine, inv_affine, sbox, inv_sbox}
use Rattle.fips197.proofs.Gf256.{squarings, inverse-by}

-- the field's inverses
abbrev inverses : List ℕ
inverses =
    0 ∷ 1 ∷ 141 ∷ 246 ∷ 203 ∷ 82 ∷ 123 ∷ 209 ∷ 232 ∷ 79 ∷ 41 ∷ 192 ∷ 176 ∷ 225 ∷ 229 ∷ 199 ∷
    116 ∷ 180 ∷ 170 ∷ 75 ∷ 153 ∷ 43 ∷ 96 ∷ 95 ∷ 88 ∷ 63 ∷ 253 ∷ 204 ∷ 255 ∷ 64 ∷ 238 ∷ 178 ∷
    58 ∷ 110 ∷ 90 ∷ 241 ∷ 85 ∷ 77 ∷ 168 ∷ 201 ∷ 193 ∷ 10 ∷ 152 ∷ 21 ∷ 48 ∷ 68 ∷ 162 ∷ 194 ∷
    44 ∷ 69 ∷ 146 ∷ 108 ∷ 243 ∷ 57 ∷ 102 ∷ 66 ∷ 242 ∷ 53 ∷ 32 ∷ 111 ∷ 119 ∷ 187 ∷ 89 ∷ 25 ∷
    29 ∷ 254 ∷ 55 ∷ 103 ∷ 45 ∷ 49 ∷ 245 ∷ 105 ∷ 167 ∷ 100 ∷ 171 ∷ 19 ∷ 84 ∷ 37 ∷ 233 ∷ 9 ∷
    237 ∷ 92 ∷ 5 ∷ 202 ∷ 76 ∷ 36 ∷ 135 ∷ 191 ∷ 24 ∷ 62 ∷ 34 ∷ 240 ∷ 81 ∷ 236 ∷ 97 ∷ 23 ∷
    22 ∷ 94 ∷ 175 ∷ 211 ∷ 73 ∷ 166 ∷ 54 ∷ 67 ∷ 244 ∷ 71 ∷ 145 ∷ 223 ∷ 51 ∷ 147 ∷ 33 ∷ 59 ∷
    121 ∷ 183 ∷ 151 ∷ 133 ∷ 16 ∷ 181 ∷ 186 ∷ 60 ∷ 182 ∷ 112 ∷ 208 ∷ 6 ∷ 161 ∷ 250 ∷ 129 ∷ 130 ∷
    131 ∷ 126 ∷ 127 ∷ 128 ∷ 150 ∷ 115 ∷ 190 ∷ 86 ∷ 155 ∷ 158 ∷ 149 ∷ 217 ∷ 247 ∷ 2 ∷ 185 ∷ 164 ∷
    222 ∷ 106 ∷ 50 ∷ 109 ∷ 216 ∷ 138 ∷ 132 ∷ 114 ∷ 42 ∷ 20 ∷ 159 ∷ 136 ∷ 249 ∷ 220 ∷ 137 ∷ 154 ∷
    251 ∷ 124 ∷ 46 ∷ 195 ∷ 143 ∷ 184 ∷ 101 ∷ 72 ∷ 38 ∷ 200 ∷ 18 ∷ 74 ∷ 206 ∷ 231 ∷ 210 ∷ 98 ∷
    12 ∷ 224 ∷ 31 ∷ 239 ∷ 17 ∷ 117 ∷ 120 ∷ 113 ∷ 165 ∷ 142 ∷ 118 ∷ 61 ∷ 189 ∷ 188 ∷ 134 ∷ 87 ∷
    11 ∷ 40 ∷ 47 ∷ 163 ∷ 218 ∷ 212 ∷ 228 ∷ 15 ∷ 169 ∷ 39 ∷ 83 ∷ 4 ∷ 27 ∷ 252 ∷ 172 ∷ 230 ∷
    122 ∷ 7 ∷ 174 ∷ 99 ∷ 197 ∷ 219 ∷ 226 ∷ 234 ∷ 148 ∷ 139 ∷ 196 ∷ 213 ∷ 157 ∷ 248 ∷ 144 ∷ 107 ∷
    177 ∷ 13 ∷ 214 ∷ 235 ∷ 198 ∷ 14 ∷ 207 ∷ 173 ∷ 8 ∷ 78 ∷ 215 ∷ 227 ∷ 93 ∷ 80 ∷ 30 ∷ 179 ∷
    91 ∷ 35 ∷ 56 ∷ 52 ∷ 104 ∷ 70 ∷ 3 ∷ 140 ∷ 221 ∷ 156 ∷ 125 ∷ 160 ∷ 205 ∷ 26 ∷ 65 ∷ 28 ∷ []

-- FIPS 197, 5.1.1, Table 4, and 5.3.2, Table 6
abbrev pub sbox_table : List ℕ
sbox_table =
    99 ∷ 124 ∷ 119 ∷ 123 ∷ 242 ∷ 107 ∷ 111 ∷ 197 ∷ 48 ∷ 1 ∷ 103 ∷ 43 ∷ 254 ∷ 215 ∷ 171 ∷ 118 ∷
    202 ∷ 130 ∷ 201 ∷ 125 ∷ 250 ∷ 89 ∷ 71 ∷ 240 ∷ 173 ∷ 212 ∷ 162 ∷ 175 ∷ 156 ∷ 164 ∷ 114 ∷ 192 ∷
    183 ∷ 253 ∷ 147 ∷ 38 ∷ 54 ∷ 63 ∷ 247 ∷ 204 ∷ 52 ∷ 165 ∷ 229 ∷ 241 ∷ 113 ∷ 216 ∷ 49 ∷ 21 ∷
    4 ∷ 199 ∷ 35 ∷ 195 ∷ 24 ∷ 150 ∷ 5 ∷ 154 ∷ 7 ∷ 18 ∷ 128 ∷ 226 ∷ 235 ∷ 39 ∷ 178 ∷ 117 ∷
    9 ∷ 131 ∷ 44 ∷ 26 ∷ 27 ∷ 110 ∷ 90 ∷ 160 ∷ 82 ∷ 59 ∷ 214 ∷ 179 ∷ 41 ∷ 227 ∷ 47 ∷ 132 ∷
    83 ∷ 209 ∷ 0 ∷ 237 ∷ 32 ∷ 252 ∷ 177 ∷ 91 ∷ 106 ∷ 203 ∷ 190 ∷ 57 ∷ 74 ∷ 76 ∷ 88 ∷ 207 ∷
    208 ∷ 239 ∷ 170 ∷ 251 ∷ 67 ∷ 77 ∷ 51 ∷ 133 ∷ 69 ∷ 249 ∷ 2 ∷ 127 ∷ 80 ∷ 60 ∷ 159 ∷ 168 ∷
    81 ∷ 163 ∷ 64 ∷ 143 ∷ 146 ∷ 157 ∷ 56 ∷ 245 ∷ 188 ∷ 182 ∷ 218 ∷ 33 ∷ 16 ∷ 255 ∷ 243 ∷ 210 ∷
    205 ∷ 12 ∷ 19 ∷ 236 ∷ 95 ∷ 151 ∷ 68 ∷ 23 ∷ 196 ∷ 167 ∷ 126 ∷ 61 ∷ 100 ∷ 93 ∷ 25 ∷ 115 ∷
    96 ∷ 129 ∷ 79 ∷ 220 ∷ 34 ∷ 42 ∷ 144 ∷ 136 ∷ 70 ∷ 238 ∷ 184 ∷ 20 ∷ 222 ∷ 94 ∷ 11 ∷ 219 ∷
    224 ∷ 50 ∷ 58 ∷ 10 ∷ 73 ∷ 6 ∷ 36 ∷ 92 ∷ 194 ∷ 211 ∷ 172 ∷ 98 ∷ 145 ∷ 149 ∷ 228 ∷ 121 ∷
    231 ∷ 200 ∷ 55 ∷ 109 ∷ 141 ∷ 213 ∷ 78 ∷ 169 ∷ 108 ∷ 86 ∷ 244 ∷ 234 ∷ 101 ∷ 122 ∷ 174 ∷ 8 ∷
    186 ∷ 120 ∷ 37 ∷ 46 ∷ 28 ∷ 166 ∷ 180 ∷ 198 ∷ 232 ∷ 221 ∷ 116 ∷ 31 ∷ 75 ∷ 189 ∷ 139 ∷ 138 ∷
    112 ∷ 62 ∷ 181 ∷ 102 ∷ 72 ∷ 3 ∷ 246 ∷ 14 ∷ 97 ∷ 53 ∷ 87 ∷ 185 ∷ 134 ∷ 193 ∷ 29 ∷ 158 ∷
    225 ∷ 248 ∷ 152 ∷ 17 ∷ 105 ∷ 217 ∷ 142 ∷ 148 ∷ 155 ∷ 30 ∷ 135 ∷ 233 ∷ 206 ∷ 85 ∷ 40 ∷ 223 ∷
    140 ∷ 161 ∷ 137 ∷ 13 ∷ 191 ∷ 230 ∷ 66 ∷ 104 ∷ 65 ∷ 153 ∷ 45 ∷ 15 ∷ 176 ∷ 84 ∷ 187 ∷ 22 ∷ []

abbrev pub inv_sbox_table : List ℕ
inv_sbox_table =
    82 ∷ 9 ∷ 106 ∷ 213 ∷ 48 ∷ 54 ∷ 165 ∷ 56 ∷ 191 ∷ 64 ∷ 163 ∷ 158 ∷ 129 ∷ 243 ∷ 215 ∷ 251 ∷
    124 ∷ 227 ∷ 57 ∷ 130 ∷ 155 ∷ 47 ∷ 255 ∷ 135 ∷ 52 ∷ 142 ∷ 67 ∷ 68 ∷ 196 ∷ 222 ∷ 233 ∷ 203 ∷
    84 ∷ 123 ∷ 148 ∷ 50 ∷ 166 ∷ 194 ∷ 35 ∷ 61 ∷ 238 ∷ 76 ∷ 149 ∷ 11 ∷ 66 ∷ 250 ∷ 195 ∷ 78 ∷
    8 ∷ 46 ∷ 161 ∷ 102 ∷ 40 ∷ 217 ∷ 36 ∷ 178 ∷ 118 ∷ 91 ∷ 162 ∷ 73 ∷ 109 ∷ 139 ∷ 209 ∷ 37 ∷
    114 ∷ 248 ∷ 246 ∷ 100 ∷ 134 ∷ 104 ∷ 152 ∷ 22 ∷ 212 ∷ 164 ∷ 92 ∷ 204 ∷ 93 ∷ 101 ∷ 182 ∷ 146 ∷
    108 ∷ 112 ∷ 72 ∷ 80 ∷ 253 ∷ 237 ∷ 185 ∷ 218 ∷ 94 ∷ 21 ∷ 70 ∷ 87 ∷ 167 ∷ 141 ∷ 157 ∷ 132 ∷
    144 ∷ 216 ∷ 171 ∷ 0 ∷ 140 ∷ 188 ∷ 211 ∷ 10 ∷ 247 ∷ 228 ∷ 88 ∷ 5 ∷ 184 ∷ 179 ∷ 69 ∷ 6 ∷
    208 ∷ 44 ∷ 30 ∷ 143 ∷ 202 ∷ 63 ∷ 15 ∷ 2 ∷ 193 ∷ 175 ∷ 189 ∷ 3 ∷ 1 ∷ 19 ∷ 138 ∷ 107 ∷
    58 ∷ 145 ∷ 17 ∷ 65 ∷ 79 ∷ 103 ∷ 220 ∷ 234 ∷ 151 ∷ 242 ∷ 207 ∷ 206 ∷ 240 ∷ 180 ∷ 230 ∷ 115 ∷
    150 ∷ 172 ∷ 116 ∷ 34 ∷ 231 ∷ 173 ∷ 53 ∷ 133 ∷ 226 ∷ 249 ∷ 55 ∷ 232 ∷ 28 ∷ 117 ∷ 223 ∷ 110 ∷
    71 ∷ 241 ∷ 26 ∷ 113 ∷ 29 ∷ 41 ∷ 197 ∷ 137 ∷ 111 ∷ 183 ∷ 98 ∷ 14 ∷ 170 ∷ 24 ∷ 190 ∷ 27 ∷
    252 ∷ 86 ∷ 62 ∷ 75 ∷ 198 ∷ 210 ∷ 121 ∷ 32 ∷ 154 ∷ 219 ∷ 192 ∷ 254 ∷ 120 ∷ 205 ∷ 90 ∷ 244 ∷
    31 ∷ 221 ∷ 168 ∷ 51 ∷ 136 ∷ 7 ∷ 199 ∷ 49 ∷ 177 ∷ 18 ∷ 16 ∷ 89 ∷ 39 ∷ 128 ∷ 236 ∷ 95 ∷
    96 ∷ 81 ∷ 127 ∷ 169 ∷ 25 ∷ 181 ∷ 74 ∷ 13 ∷ 45 ∷ 229 ∷ 122 ∷ 159 ∷ 147 ∷ 201 ∷ 156 ∷ 239 ∷
    160 ∷ 224 ∷ 59 ∷ 77 ∷ 174 ∷ 42 ∷ 245 ∷ 176 ∷ 200 ∷ 235 ∷ 187 ∷ 60 ∷ 131 ∷ 83 ∷ 153 ∷ 97 ∷
    23 ∷ 43 ∷ 4 ∷ 126 ∷ 186 ∷ 119 ∷ 214 ∷ 38 ∷ 225 ∷ 105 ∷ 20 ∷ 99 ∷ 85 ∷ 33 ∷ 12 ∷ 125 ∷ []

-- ---- the tests

inverse-test : (k : ℕ) → k < 256 → squarings 7 1 (gmul k k) ≡ get_or inverses k 0
unfolding step times mul squarings
inverse-test = equal-below 256 (λ k. squarings 7 1 (gmul k k)) (λ k. get_or inverses k 0) tt

product-test : (k : ℕ) → k < 255 → gmul (suc k) (get_or inverses (suc k) 0) ≡ 1
unfolding step times mul
product-test = equal-below 255 (λ k. gmul (suc k) (get_or inverses (suc k) 0)) (λ k. 1) tt

affine-test : (k : ℕ) → k < 256 → get_or sbox_table k 0 ≡ affine (get_or inverses k 0)
unfolding affine
affine-test = equal-below 256 (λ k. get_or sbox_table k 0) (λ k. affine (get_or inverses k 0)) tt

inv_affine-test : (k : ℕ) → k < 256 → get_or inv_sbox_table k 0 ≡ get_or inverses (inv_affine k) 0
unfolding inv_affine
inv_affine-test = equal-below 256 (λ k. get_or inv_sbox_table k 0) (λ k. get_or inverses (inv_affine k) 0) tt

inv_affine-lt : (k : ℕ) → k < 256 → inv_affine k < 256
unfolding inv_affine
inv_affine-lt = less_below 256 256 inv_affine tt

sbox_table_lt : (k : ℕ) → k < 256 → get_or sbox_table k 0 < 256
sbox_table_lt = less_below 256 256 (λ k. get_or sbox_table k 0) tt

inv_sbox_table_lt : (k : ℕ) → k < 256 → get_or inv_sbox_table k 0 < 256
inv_sbox_table_lt = less_below 256 256 (λ k. get_or inv_sbox_table k 0) tt

back_test : (k : ℕ) → k < 256 → get_or inv_sbox_table (get_or sbox_table k 0) 0 ≡ k
back_test = equal-below 256 (λ k. get_or inv_sbox_table (get_or sbox_table k 0) 0) (λ k. k) tt

forth_test : (k : ℕ) → k < 256 → get_or sbox_table (get_or inv_sbox_table k 0) 0 ≡ k
forth_test = equal-below 256 (λ k. get_or sbox_table (get_or inv_sbox_table k 0) 0) (λ k. k) tt

-- ---- the field's inverse is one

inverse_at : (k : ℕ) → k < 256 → inverse k ≡ get_or inverses k 0
inverse_at k h = inverse-by k h ∙ inverse-test k h

pub inverse-product : (b : ℕ) → 0 < b → b < 256 → gmul b (inverse b) ≡ 1
inverse-product zero p h = absurd (omega arith)
inverse-product (suc k) p h = ap (gmul (suc k)) (inverse_at (suc k) h) ∙ product-test k (omega arith)

pub inverse-zero : inverse 0 ≡ 0
inverse-zero = inverse_at 0 (lit< tt)

-- ---- both tables have the S-box's rule at every entry

pub sbox_at : (k : ℕ) → k < 256 → get_or sbox_table k 0 ≡ sbox k
unfolding sbox
sbox_at k h = affine-test k h ∙ ap affine (sym (inverse_at k h))

pub inv_sbox_at : (k : ℕ) → k < 256 → get_or inv_sbox_table k 0 ≡ inv_sbox k
unfolding inv_sbox
inv_sbox_at k h = inv_affine-test k h ∙ sym (inverse_at (inv_affine k) (inv_affine-lt k h))

-- ---- the S-box and its inverse undo each other

pub sbox-lt : (k : ℕ) → k < 256 → sbox k < 256
sbox-lt k h = rw (← sbox_at k h) (sbox_table_lt k h)

pub inv_sbox-lt : (k : ℕ) → k < 256 → inv_sbox k < 256
inv_sbox-lt k h = rw (← inv_sbox_at k h) (inv_sbox_table_lt k h)

pub inv_sbox-sbox : (k : ℕ) → k < 256 → inv_sbox (sbox k) ≡ k
inv_sbox-sbox k h = ap inv_sbox (sym (sbox_at k h)) ∙ sym (inv_sbox_at (get_or sbox_table k 0) (sbox_table_lt k h)) ∙ back_test k h

pub sbox-inv_sbox : (k : ℕ) → k < 256 → sbox (inv_sbox k) ≡ k
sbox-inv_sbox k h = ap sbox (sym (inv_sbox_at k h)) ∙ sym (sbox_at (get_or inv_sbox_table k 0) (inv_sbox_table_lt k h)) ∙ forth_test k h
