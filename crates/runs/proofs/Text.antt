-- A text with its padding, block by block.
use mathlib.Core.Path.{◌≡◌, sym, ap, ◌∙◌}
use mathlib.Core.List.{List, ◌∷◌, ◌++◌}
use Prim.Native.Nat.{ℕ, ◌-◌, ◌*◌, ◌/◌, ◌%◌, ◌≤◌, ◌<◌}
use native.Mathlib.Nat.{le_of_eq}
use native.Mathlib.Omega.{arith}
use lib.ListN.{length, take, drop, set, length-drop, take-append-drop}
use lib.Seq.{drop_at, take_all, length-take-le, take-append-le, drop-append-le}
use Rattle.blocks.specs.Bytes.{zeros, first_blocks}
use Rattle.blocks.proofs.Chunks.{blocks-front}
use Rattle.blocks.proofs.Zeros.{set-zeros}
use Rattle.groups.specs.Group.{block_of}
use Rattle.mode.specs.Mode.{padded}
use Rattle.mode.proofs.Blocks.{length-padded, padded-append}

-- what stands behind whole blocks has the same padding
pub padded_behind : (i : ℕ) (text : List ℕ) → i * 16 ≤ length text → drop (i * 16) (padded text) ≡ padded (drop (i * 16) text)
padded_behind i text h =
    let l : length (take (i * 16) text) ≡ i * 16 = length-take-le (i * 16) text h in
    ap (λ (x : List ℕ). drop (i * 16) (padded x)) (sym (take-append-drop (i * 16) text))
    ∙ ap (drop (i * 16)) (padded-append (take (i * 16) text) (drop (i * 16) text) (let e : length (take (i * 16) text) % 16 ≡ 0 = omega (arith, l) in e))
    ∙ drop_at (take (i * 16) text) (padded (drop (i * 16) text)) (i * 16) l

-- a whole block is as it was
pub whole-block : (text : List ℕ) (i : ℕ) → i < length text / 16 → block_of text i ≡ block_of (padded text) i
unfolding block_of padded
whole-block text i h =
    sym (take-append-le 16 (drop (i * 16) text) _ (omega (arith, h, length-drop (i * 16) text)))
    ∙ ap (take 16) (sym (drop-append-le (i * 16) text _ (omega (arith, h))))

pub whole-blocks : (n : ℕ) (text : List ℕ) → n ≤ length text / 16 → first_blocks n (padded text) ≡ first_blocks n text
unfolding padded
whole-blocks n text h = blocks-front n text _ (omega (arith, h))

-- the last one is the rest and its padding
pub last_block : (text : List ℕ) → padded (drop (length text / 16 * 16) text) ≡ block_of (padded text) (length text / 16)
unfolding block_of
last_block text =
    let w = length text / 16 in
    let r = drop (w * 16) text in
    let l : length (padded r) ≤ 16 = le_of_eq (length-padded r ∙ omega (arith, length-drop (w * 16) text)) in
    sym (ap (take 16) (padded_behind w text (omega arith)) ∙ take_all 16 (padded r) l)

-- as the code makes it: the bytes, a byte 80, zeros
pub padded_there : (m : List ℕ) → length m < 16 → set (m ++ zeros (16 - length m)) (length m) 0x80 ≡ padded m
unfolding padded
padded_there m h =
    set-zeros m (16 - length m) 0x80 (omega (arith, h))
    ∙ ap (λ (k : ℕ). m ++ (0x80 ∷ zeros k)) (let e : 16 - length m - 1 ≡ 15 - length m % 16 = omega (arith, h) in e)
