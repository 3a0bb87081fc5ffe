-- A run record and its 24 bytes: encode and decode undo each other.
use mathlib.Core.Path.{◌≡◌, refl, sym, ap, ap₂, ◌∙◌}
use mathlib.Core.List.{List, [], ◌∷◌, ◌++◌}
use Prim.Native.Nat.{ℕ, suc, ◌+◌, ◌*◌, ◌/◌, ◌%◌, ◌<◌}
use native.Mathlib.Omega.{arith}
use mir.Syntax.{w32}
use Rattle.std.specs.Int.{from_be_bytes, to_be_bytes}
use lib.ListN.{length, get_or, take, drop, length-drop}
use lib.Seq.{take_all, drop-drop, drop-cons}
use Rattle.blocks.specs.Bytes.{Bytes}
use Rattle.blocks.specs.Words.{Proper, bytes_of, words_of}
use Rattle.blocks.proofs.Chunks.{bytes_drop}
use Rattle.blocks.proofs.Bridge.{block-bytes_of, bytes_words, words_bytes}
use Rattle.mode.specs.declared.RunRecord.{RunRecord}
use Rattle.record_bytes.specs.Encoding.{number_bytes, number_of, encoded, decoded}

-- ---- numbers

whole : (n : ℕ) → n / 256 * 256 + n % 256 ≡ n
whole n = omega arith

digits : (n : ℕ) → n < 4294967296 → number_of (n / 16777216 % 256) (n / 65536 % 256) (n / 256 % 256) (n % 256) ≡ n
digits n h =
    let two : n / 65536 ≡ n / 256 / 256 = omega arith in
    let three : n / 16777216 ≡ n / 256 / 256 / 256 = omega arith in
    let top : n / 16777216 % 256 ≡ n / 16777216 = omega arith in
    ap (λ (x : ℕ). number_of x (n / 65536 % 256) (n / 256 % 256) (n % 256)) (top ∙ three)
    ∙ ap (λ (x : ℕ). ((n / 256 / 256 / 256 * 256 + x % 256) * 256 + n / 256 % 256) * 256 + n % 256) two
    ∙ ap (λ (x : ℕ). (x * 256 + n / 256 % 256) * 256 + n % 256) (whole (n / 256 / 256))
    ∙ ap (λ (x : ℕ). x * 256 + n % 256) (whole (n / 256))
    ∙ whole n

number_bytes_lem : (a b c d : ℕ) → a < 256 → b < 256 → c < 256 → d < 256 → number_bytes (number_of a b c d) ≡ a ∷ b ∷ c ∷ d ∷ []
unfolding number_bytes
number_bytes_lem a b c d ha hb hc hd =
    let n = number_of a b c d in
    let ea : n / 16777216 % 256 ≡ a = omega arith in
    let eb : n / 65536 % 256 ≡ b = omega arith in
    let ec : n / 256 % 256 ≡ c = omega arith in
    let ed : n % 256 ≡ d = omega arith in
    λ i. ea i ∷ eb i ∷ ec i ∷ ed i ∷ []

-- ---- records

pub length-encoded : (r : RunRecord) → length (encoded r) ≡ 24
unfolding encoded number_bytes
length-encoded r = omega (arith, (block-bytes_of r.preauthenticator).long)

-- DECODE undoes encode
pub decoded-encoded : (r : RunRecord) → r.first < 4294967296 → r.count < 4294967296 → Proper r.preauthenticator → decoded (encoded r) ≡ r
unfolding encoded decoded number_bytes
decoded-encoded r hf hc hp =
    let ef = digits r.first hf in
    let ec = digits r.count hc in
    let p = bytes_of r.preauthenticator in
    let ep = ap words_of (take_all 16 p (omega (arith, (block-bytes_of r.preauthenticator).long))) ∙ words_bytes r.preauthenticator hp in
    λ i. record { first = ef i; count = ec i; preauthenticator = ep i }

-- ENCODE undoes decode
pub encoded-decoded : (b : List ℕ) → length b ≡ 24 → Bytes b → encoded (decoded b) ≡ b
unfolding encoded decoded
encoded-decoded b e h =
    ap₂ (λ (x y : List ℕ). x ++ y)
    (ap₂ (λ (x y : List ℕ). x ++ y) (number_bytes_lem (get_or b 0 0) (get_or b 1 0) (get_or b 2 0) (get_or b 3 0) (h 0) (h 1) (h 2) (h 3)) (number_bytes_lem (get_or b 4 0) (get_or b 5 0) (get_or b 6 0) (get_or b 7 0) (h 4) (h 5) (h 6) (h 7)))
    (ap (λ (x : List ℕ). bytes_of (words_of x)) all ∙ bytes_words (drop 8 b) (record { long = length-drop 8 b ∙ omega (arith, e); bytes = bytes_drop 8 b h }))
    ∙ sym (byte 0 (omega arith) (byte 1 (omega arith) (byte 2 (omega arith) (byte 3 (omega arith) (byte 4 (omega arith) (byte 5 (omega arith) (byte 6 (omega arith) (byte 7 (omega arith) refl))))))))
  where
    all : take 16 (drop 8 b) ≡ drop 8 b
    all = take_all 16 (drop 8 b) (omega (arith, length-drop 8 b))

    byte : (i : ℕ) → i < length b → {rest : List ℕ} → drop (suc i) b ≡ rest → drop i b ≡ get_or b i 0 ∷ rest
    byte i l t = drop-cons b i 0 l ∙ ap (λ (x : List ℕ). get_or b i 0 ∷ x) t

-- ---- as the code reads and writes it

-- a number as std reads it
pub number_read : (a b c d n : ℕ) → n ≡ from_be_bytes w32 (a ∷ b ∷ c ∷ d ∷ []) → n ≡ number_of a b c d
number_read a b c d n e = omega (arith, e)

-- and writes it
pub number_written : (n : ℕ) → to_be_bytes w32 n ≡ number_bytes n
unfolding number_bytes
number_written n = refl

-- the two numbers, one after the other, and the pre-authenticator behind them
pub encoded_there : (r : RunRecord) (old one two new x y : List ℕ) → x ≡ number_bytes r.first → y ≡ number_bytes r.count
    → one ≡ take 0 old ++ x ++ drop (0 + length x) old → two ≡ take 4 one ++ y ++ drop (4 + length y) one → new ≡ take 8 two ++ bytes_of r.preauthenticator ++ drop (8 + 16) two
    → new ≡ encoded r ++ drop 24 old
unfolding encoded number_bytes
encoded_there r old one two new x y ex ey e1 e2 en =
    let f1 = e1 ∙ ap (λ (x : List ℕ). x ++ drop (0 + length x) old) ex in
    let f2 = e2 ∙ ap₂ (λ (one y : List ℕ). take 4 one ++ y ++ drop (4 + length y) one) f1 ey in
    en ∙ ap (λ (x : List ℕ). take 8 x ++ bytes_of r.preauthenticator ++ drop 24 x) f2
    ∙ ap (λ (x : List ℕ). number_bytes r.first ++ number_bytes r.count ++ bytes_of r.preauthenticator ++ x) (ap (drop 16) (drop-drop 4 4 old) ∙ drop-drop 16 8 old)
