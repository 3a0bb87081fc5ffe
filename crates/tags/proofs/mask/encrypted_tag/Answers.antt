-- Step by step.
use mathlib.Core.Path.{ap, ap₂, ◌∙◌}
use Rattle.blocks.specs.Bytes.{xor_bytes}
use Rattle.mode.specs.Mode.{encrypt as encrypt_of, encrypted_tag}
use Rattle.mode.specs.Aes.{aes}
use Rattle.cipher.specs.Keys.{key_of}
use Rattle.tags.proofs.Cipher.{by_halves}
use Rattle.tags.proofs.mask.encrypted_tag.Goals as goal

pub returns : goal.returns
unfolding encrypted_tag
returns c =
    let a = c.args in
    c.xor.ensures
    ∙ ap₂ xor_bytes
    (c.encrypt_block-encrypted.ensures ∙ by_halves (key_of a.keys.now) c.into.result ∙ ap (encrypt_of aes (key_of a.keys.now)) (c.into.ensures ∙ c.bitxor-sum.ensures))
    c.into-2.ensures
