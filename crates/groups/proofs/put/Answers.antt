-- Two stores.
use borrow.Author.Rules.{rules}
use Rattle.groups.proofs.Loop.{put_words}
use Rattle.groups.proofs.put.Goals as goal

pub returns : goal.returns
returns c = put_words c.args.group.now c.args.i c.args.w (search rules) c.requires
