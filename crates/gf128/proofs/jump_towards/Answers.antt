-- The product with x^d is the jump by d.
use mathlib.Core.Path.{sym, ap, ◌∙◌}
use mathlib.Core.List.{List}
use Prim.Native.Nat.{ℕ}
use Rattle.blocks.specs.Words.{bytes_of}
use Rattle.blocks.proofs.Bridge.{block-bytes_of}
use Rattle.gf128.specs.Gf128.{signed, product}
use Rattle.gf128.proofs.JumpBy.{no_step}
use Rattle.gf128.proofs.Product.{product-power}
use Rattle.gf128.proofs.jump_towards.Goals as goal

pub returns-then-n-eq0 : goal.returns-then-n-eq0
returns-then-n-eq0 c = let a = c.args in sym (no_step a.back a.n (bytes_of a.b) c.if-n-eq0.true)

pub returns : goal.returns
returns c =
    let a = c.args in
    c.multiply.ensures ∙ ap (λ (p : List ℕ). product p (bytes_of a.b)) c.power.ensures
    ∙ product-power (signed a.back a.n) (bytes_of a.b) (block-bytes_of a.b)
