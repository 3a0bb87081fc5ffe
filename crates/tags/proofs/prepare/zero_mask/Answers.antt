-- Where the key's first 16 bytes are not zero neither the start mask nor its replacement is; where they are, the mask is looked at.
use mathlib.Core.Path.{◌≡◌, sym, ap, ◌∙◌}
use mathlib.Core.List.{List}
use Prim.Native.Nat.{ℕ}
use native.Mathlib.Omega.{arith}
use Rattle.blocks.specs.Bytes.{same}
use Rattle.mode.specs.Mode.{zero_block, key_block}
use Rattle.mode.specs.Aes.{aes}
use Rattle.mode.specs.Table.{zero_mask}
use Rattle.fips197.proofs.Keys.{at_least_16}
use Rattle.mode.proofs.ZeroMask.{key-not-zero}
use Rattle.tags.proofs.prepare.zero_mask.Goals as goal

pub load-k-requires : goal.load-k-requires
load-k-requires c = omega (arith, at_least_16 c.args.key.now c.requires.key_length)

pub returns-then-not-equal : goal.returns-then-not-equal
unfolding key_block
returns-then-not-equal c =
    let e : c.equal.result ≡ same (key_block c.args.key.now) zero_block = c.equal.ensures ∙ ap (λ (x : List ℕ). same x zero_block) c.load-k.ensures in
    sym (key-not-zero aes c.args.key.now c.args.iv.now (sym e ∙ c.if-not-equal.true))

pub returns : goal.returns
unfolding zero_mask
returns c = c.equal-2.ensures ∙ ap (λ (x : List ℕ). same x zero_block) (c.from-start.ensures ∙ c.prepare-p.ensures.started)
