-- A turn takes one group off the front.
use lib.ListN.{length}
use Rattle.case_table.proofs.Table.run.Given as goal

abbrev pub decreases-loop-group : goal.decreases-loop-group
decreases-loop-group g l = length l.left
