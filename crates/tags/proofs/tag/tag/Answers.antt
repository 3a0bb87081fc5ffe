-- By cases. A digest is as long as a tag is held.
use mathlib.Core.Path.{◌≡◌, sym, ap, subst, ◌∙◌}
use mathlib.Core.List.{List, ◌++◌, append-nil}
use Prim.Native.Nat.{ℕ, ◌-◌}
use Rattle.blocks.specs.Bytes.{zeros}
use Rattle.blocks.specs.Words.{bytes_of}
use Rattle.fips197.specs.Aes.{KeyLength}
use Rattle.fips180.proofs.Digests.{length-sha1}
use Rattle.mode.specs.declared.finish.Finish.{Finish as Named}
use Rattle.mode.specs.Mode.{encrypted_tag, hashed_tag, finish_named}
use Rattle.mode.specs.Aes.{aes}
use Rattle.mode.specs.Calls.{held_tag}
use Rattle.tags.proofs.tag.tag.Goals as goal

-- a hashed tag is held as it is
held-hash : (key p m : List ℕ) → hashed_tag key p m ≡ held_tag (hashed_tag key p m)
unfolding hashed_tag held_tag
held-hash key p m =
    sym (ap (λ (n : ℕ). hashed_tag key p m ++ zeros (20 - n)) (length-sha1 (key ++ p ++ m)) ∙ append-nil (hashed_tag key p m))

pub hashed_tag-requires : goal.hashed_tag-requires
hashed_tag-requires c = subst KeyLength c.requires.of c.requires.schedule.size

pub returns-in-Cipher : goal.returns-in-Cipher
returns-in-Cipher c =
    let a = c.args in
    c.held.ensures
    ∙ ap held_tag (c.encrypted_tag.ensures ∙ ap (λ (key : List ℕ). encrypted_tag aes key (bytes_of a.preauthenticator) (bytes_of a.mask)) c.requires.of)
    ∙ sym (ap (λ (n : Named). held_tag ((finish_named n).tag_from aes a.key.now (bytes_of a.preauthenticator) (bytes_of a.mask))) c.in-Cipher.is)

pub returns-in-Sha1 : goal.returns-in-Sha1
returns-in-Sha1 c =
    let a = c.args in
    c.hashed_tag.ensures
    ∙ held-hash a.key.now (bytes_of a.preauthenticator) (bytes_of a.mask)
    ∙ sym (ap (λ (n : Named). held_tag ((finish_named n).tag_from aes a.key.now (bytes_of a.preauthenticator) (bytes_of a.mask))) c.in-Sha1.is)
