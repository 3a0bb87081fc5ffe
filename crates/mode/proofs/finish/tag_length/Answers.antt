-- By cases.
use mathlib.Core.Path.{sym, ap}
use Rattle.mode.specs.Mode.{finish_named}
use Rattle.mode.specs.declared.finish.Finish.{Finish as Named}
use Rattle.mode.proofs.finish.tag_length.Goals as goal

pub returns-in-Cipher : goal.returns-in-Cipher
returns-in-Cipher c = sym (ap (λ (n : Named). (finish_named n).tag_length) c.in-Cipher.is)

pub returns-in-Sha1 : goal.returns-in-Sha1
returns-in-Sha1 c = sym (ap (λ (n : Named). (finish_named n).tag_length) c.in-Sha1.is)
