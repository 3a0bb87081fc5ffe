-- Each part behind the last.
use mathlib.Core.Path.{◌≡◌, ap}
use mathlib.Core.List.{List}
use Prim.Native.Nat.{ℕ, ◌≤◌}
use native.Mathlib.Omega.{arith}
use lib.ListN.{length}
use Rattle.blocks.specs.Bytes.{zeros}
use Rattle.blocks.specs.Words.{bytes_of}
use Rattle.blocks.proofs.Bridge.{block-bytes_of}
use Rattle.fips197.specs.Aes.{KeyLength}
use Rattle.fips197.proofs.Keys.{at_most_32}
use Rattle.tags.proofs.Text.{laid_out_lem}
use Rattle.tags.proofs.tag.lay_out.Goals as goal

-- the key and two blocks have room
room : (key text : List ℕ) → KeyLength key → text ≡ zeros 64 → (length key ≤ 32) × (length text ≡ 64)
room key text k e = (at_most_32 key k, ap length e)

pub put-requires : goal.put-requires
put-requires c =
    let r = room c.args.key.now c.args.text.now c.requires.key_length c.requires.text_value in
    omega (arith, r.0, r.1)

pub store-requires : goal.store-requires
store-requires c =
    let r = room c.args.key.now c.args.text.now c.requires.key_length c.requires.text_value in
    omega (arith, r.0, r.1, c.put.auto.d)

pub store-requires-2 : goal.store-requires-2
store-requires-2 c =
    let r = room c.args.key.now c.args.text.now c.requires.key_length c.requires.text_value in
    omega (arith, r.0, r.1, c.put.auto.d, c.store.auto.d)

pub returns : goal.returns
returns c =
    let a = c.args in
    laid_out_lem a.key.now (bytes_of a.preauthenticator) (bytes_of a.mask) a.text.now c.put.new.d c.store.new.d c.store-2.new.d
    (block-bytes_of a.preauthenticator).long c.requires.text_value c.put.ensures c.store.ensures c.store-2.ensures
