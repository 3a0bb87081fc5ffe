-- Step by step, and by the two cases of the test.
use mathlib.Core.Path.{◌≡◌, sym, ap, ap₂, ◌∙◌}
use mathlib.Core.Bool.{Bool, true, false, cond}
use mathlib.Core.List.{List}
use Prim.Native.Nat.{ℕ}
use Rattle.blocks.specs.Bytes.{xor_bytes, same}
use Rattle.mode.specs.Mode.{encrypt as encrypt_of, key_block, start_mask, zero_block}
use Rattle.mode.specs.Aes.{aes}
use Rattle.cipher.specs.Keys.{key_of}
use Rattle.tags.proofs.Cipher.{by_halves}
use Rattle.tags.proofs.mask.start_mask.Goals as goal

-- the key or the sum, as the test says
chosen : (t : Bool) (keys iv key block encrypted sum : List ℕ) → key ≡ key_block (key_of keys) → block ≡ xor_bytes iv key → encrypted ≡ encrypt_of aes (key_of keys) block
    → sum ≡ xor_bytes encrypted key → same sum zero_block ≡ t → cond t key sum ≡ start_mask aes (key_of keys) iv
unfolding start_mask
chosen t keys iv key block encrypted sum ek eb ee es et =
    let is : sum ≡ xor_bytes (encrypt_of aes (key_of keys) (xor_bytes iv (key_block (key_of keys)))) (key_block (key_of keys)) =
    es ∙ ap₂ xor_bytes (ee ∙ ap (encrypt_of aes (key_of keys)) (eb ∙ ap (xor_bytes iv) ek)) ek in
    ap (λ (u : Bool). cond u key sum) (sym et) ∙ (λ i. cond (same (is i) zero_block) (ek i) (is i))

pub returns-then-equal : goal.returns-then-equal
unfolding key_block
returns-then-equal c =
    let a = c.args in
    c.from.ensures
    ∙ chosen true a.keys.now a.iv _ _ _ _ c.key_block-key.ensures c.xor-block.ensures (c.encrypt_block-encrypted.ensures ∙ by_halves (key_of a.keys.now) c.xor-block.result) c.xor-sum.ensures
    (sym c.equal.ensures ∙ c.if-equal.true)

pub returns : goal.returns
unfolding key_block
returns c =
    let a = c.args in
    c.from-2.ensures
    ∙ chosen false a.keys.now a.iv _ _ _ _ c.key_block-key.ensures c.xor-block.ensures (c.encrypt_block-encrypted.ensures ∙ by_halves (key_of a.keys.now) c.xor-block.result) c.xor-sum.ensures
    (sym c.equal.ensures ∙ c.if-equal.false)
