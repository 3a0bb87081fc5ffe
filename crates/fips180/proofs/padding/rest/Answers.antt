-- The rest is put in front of zeros.
use Rattle.std.proofs.Common.{◌≡◌, ℕ, ◌+◌, ◌-◌, List, ◌++◌, length, take, drop, refl, ap, ◌∙◌, ap₂, arith, length-drop}
use Rattle.blocks.specs.Bytes.{zeros}
use Rattle.blocks.proofs.Parts.{back_is}
use Rattle.blocks.proofs.Zeros.{stored_front}
use Rattle.fips180.proofs.padding.rest.Goals as goal

pub returns : goal.returns
returns c =
    let text = c.args.text.now in
    let n = c.args.n in
    let part = take (length text - n) (drop n text) in
    let size : 128 - length part ≡ n + 128 - length text = omega (arith, ap length (back_is n text), length-drop n text, c.requires) in
    stored_front (length part) (zeros 128) c.put.new.d part 128 refl c.put.ensures
    ∙ ap₂ (λ (x : List ℕ) (k : ℕ). x ++ zeros k) (back_is n text) size
