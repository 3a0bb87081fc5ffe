-- Four words.
use Rattle.std.proofs.Common.{◌≡◌, ℕ, suc, ◌+◌, [], ◌∷◌, drop, ap, ◌∙◌, arith}
use Rattle.fips180.specs.Sha1.{word}
use Rattle.fips180.proofs.compress.four_at.Goals as goal

pub returns : goal.returns
returns c =
    let a = c.args in
    let w : ℕ → ℕ = word (drop a.at a.s.now) in
    let e₁ : a.i + 1 ≡ suc a.i = omega arith in
    let e₂ : a.i + 2 ≡ suc (suc a.i) = omega arith in
    let e₃ : a.i + 3 ≡ suc (suc (suc a.i)) = omega arith in
    λ j. c.word_at-a.ensures j ∷ (c.word_at-b.ensures ∙ ap w e₁) j ∷ (c.word_at-c.ensures ∙ ap w e₂) j ∷ (c.word_at-d.ensures ∙ ap w e₃) j ∷ []
