-- The blocks of the text, masked.
use mathlib.Core.Path.{ap}
use mathlib.Core.List.{List}
use Prim.Native.Nat.{ℕ}
use Rattle.blocks.specs.Bytes.{xor_bytes}
use Rattle.blocks.specs.Words.{bytes_of}
use Rattle.gf128.specs.Gf128.{jump}
use Rattle.groups.proofs.Loop.{holds_as}
use Rattle.runs.proofs.group.load.Goals as goal

pub returns : goal.returns
returns c =
    let m = c.mask_each.ensures in
    let t = c.load_text.ensures in
    let mask = bytes_of c.args.mask in
    record { blocks = holds_as _ _ _ _ m.blocks (λ i l. ap (λ (b : List ℕ). xor_bytes b (jump i mask)) (t.at i l)); kept = m.kept; after = m.after }
