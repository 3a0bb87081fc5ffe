-- Four stores in a row.
use borrow.Author.Rules.{rules}
use mathlib.Core.Path.{◌≡◌}
use Prim.Native.Nat.{◌*◌}
use native.Mathlib.Omega.{arith}
use lib.ListN.{length}
use Rattle.aes_steps.proofs.Words.{word_stored}
use Rattle.aes_steps.proofs.schedule.put_word.Goals as goal

pub returns : goal.returns
returns c =
    let w : length c.args.w.now ≡ 241 = search rules in
    word_stored c.args.w.now c.args.x (c.args.i * 4) (omega arith) (search rules)
