use Rattle.std.proofs.Common.{rules}
use Rattle.fips180.proofs.Blocks.{hash-none, hash_turn, hash-done}
use Rattle.fips180.proofs.compress.blocks.Goals as goal

pub loop-i-init : goal.loop-i-init
loop-i-init c = hash-none c.args.n c.args.s.now c.args.h

pub loop-i-preserved : goal.loop-i-preserved
loop-i-preserved c = hash_turn c.args.n c.loop-i.i c.args.s.now c.loop-i.r _ _ (search rules) c.block-r.ensures c.loop-i.invariant

pub returns : goal.returns
returns c = hash-done _ c.loop-i.i _ c.loop-i.r _ (search rules) (search rules) c.loop-i.invariant
