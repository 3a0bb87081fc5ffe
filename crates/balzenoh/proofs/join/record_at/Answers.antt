-- The 24 bytes of the record.
use mathlib.Core.Path.{◌≡◌, ap, ◌∙◌}
use Prim.Native.Nat.{ℕ, ◌+◌, ◌*◌, ◌-◌}
use native.Mathlib.Omega.{arith}
use lib.ListN.{take, drop}
use Rattle.record_bytes.specs.Encoding.{decoded}
use Rattle.balzenoh.proofs.join.record_at.Goals as goal

pub returns : goal.returns
returns c = let a = c.args in let e : a.i * 24 + 24 - a.i * 24 ≡ 24 = omega arith in c.decode.ensures ∙ ap (λ (k : ℕ). decoded (take k (drop (a.i * 24) a.records.now))) e
