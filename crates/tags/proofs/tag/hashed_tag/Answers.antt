-- What is laid out is hashed, and not the zeros behind it.
use mathlib.Core.Path.{◌≡◌, refl, sym, ap, ◌∙◌}
use mathlib.Core.List.{List}
use Prim.Native.Nat.{ℕ, ◌+◌, ◌≤◌}
use native.Mathlib.Omega.{arith}
use lib.ListN.{length, take}
use lib.Seq.{length-take-le}
use Rattle.blocks.specs.Words.{bytes_of}
use Rattle.blocks.proofs.Bridge.{block-bytes_of}
use Rattle.fips197.specs.Aes.{KeyLength}
use Rattle.fips197.proofs.Keys.{at_most_32}
use Rattle.fips180.specs.Sha1.{sha1}
use Rattle.mode.specs.Mode.{hashed_tag}
use Rattle.tags.proofs.Text.{read_again}
use Rattle.tags.proofs.tag.hashed_tag.Goals as goal

-- the key and two blocks are within the text
within : (key text : List ℕ) → KeyLength key → length text ≡ 64 → (length key + 32 ≤ length text) × (length (take (length key + 32) text) ≡ length key + 32)
within key text k l =
    let h : length key + 32 ≤ length text = omega (arith, at_most_32 key k, l) in
    (h, length-take-le (length key + 32) text h)

pub slice_bounds-text-end : goal.slice_bounds-text-end
slice_bounds-text-end c = (within c.args.key.now c.lay_out.new.text c.requires c.lay_out.auto.text).0

pub slice_bounds-digest-end : goal.slice_bounds-digest-end
slice_bounds-digest-end c = sym (within c.args.key.now c.lay_out.new.text c.requires c.lay_out.auto.text).1

pub digest-requires : goal.digest-requires
digest-requires c = omega (arith, at_most_32 c.args.key.now c.requires, (within c.args.key.now c.lay_out.new.text c.requires c.lay_out.auto.text).1)

pub returns : goal.returns
unfolding hashed_tag
returns c =
    let a = c.args in
    c.digest.ensures
    ∙ ap sha1 (read_again a.key.now (bytes_of a.preauthenticator) (bytes_of a.mask) c.lay_out.new.text (length a.key.now + 32) (block-bytes_of a.preauthenticator).long (block-bytes_of a.mask).long refl c.lay_out.ensures)
