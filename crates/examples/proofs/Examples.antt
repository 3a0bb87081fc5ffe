-- The whole table by one computation, and the laws.
use mathlib.Core.Path.{◌≡◌, refl, sym, ap, ◌∙◌}
use Prim.Native.Nat.{◌+◌, ◌≤◌}
use native.Mathlib.Omega.{arith}
use borrow.Author.Tests.{le-ltb, eq-eqb}
use Rattle.blocks.specs.Bytes.{xor_bytes, first_blocks}
use Rattle.blocks.specs.Field.{step, times, mul}
use Rattle.blocks.specs.Num.{num, low_bytes}
use Rattle.blocks.specs.declared.words.Words.{Words}
use Rattle.blocks.specs.Words.{bytes_of, words_of}
use Rattle.gf128.specs.Gf128.{carry, shift_left, reduction, times_x, jump, low_bit, shift_right, over_x, jump_by}
use Rattle.fips197.specs.Gf256.{power, inverse}
use Rattle.fips197.specs.Sbox.{affine, sbox}
use Rattle.fips180.proofs.Computed as Sha1
use Rattle.mode.specs.declared.RunRecord.{RunRecord}
use Rattle.mode.specs.Mode.{zero_block, blocks_of, padded, in_words, hashed_tag}
use Rattle.mode.specs.Table.{given, decide, limit, not16, beyond_within, any_beyond_within, too_far_within, apart}
use Rattle.mode.specs.Calls.{blocks_of_run, outcome_by, joined, join_two, jump_mask}
use Rattle.mode.proofs.Blocks.{count_last}
use Rattle.mode.proofs.InWords.{zero-words}
use Rattle.mode.proofs.Records.{joined-empty}
use Rattle.examples.specs.Examples.{result, AllAgree, EmptyNeighbour, PaddedCount}

pub all_agree : AllAgree
unfolding result jump_mask outcome_by decide not16 too_far_within jump_by over_x shift_right low_bit jump times_x shift_left carry reduction xor_bytes sbox affine inverse power mul times step blocks_of_run blocks_of first_blocks padded join_two any_beyond_within beyond_within apart joined num low_bytes bytes_of words_of hashed_tag Sha1.computed
all_agree = refl

-- neighbours within the limit are joined
join-neighbours : (l r : RunRecord) → l.first + l.count ≤ limit → r.first + r.count ≤ limit → l.first + l.count ≡ r.first → join_two in_words l r ≡ given (joined in_words l r)
unfolding join_two decide any_beyond_within beyond_within apart
join-neighbours l r h k e =
    rw (le-ltb limit (l.first + l.count) h, le-ltb limit (r.first + r.count) k, eq-eqb (l.first + l.count) r.first e) refl

pub empty_neighbour : EmptyNeighbour
empty_neighbour r h k =
    let end = r.first + r.count in
    ap (λ (w : Words). join_two in_words r (record { first = end; count = 0; preauthenticator = w })) (sym zero-words)
    ∙ join-neighbours r (in_words.make end 0 zero_block) k (omega arith) refl
    ∙ ap (λ (q : RunRecord). given q) (joined-empty r end h)

pub padded_count : PaddedCount
unfolding blocks_of_run
padded_count message = count_last message
