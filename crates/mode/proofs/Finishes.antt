-- Both finishes: what each makes of key, pre-authenticator and mask, and that its tags have its length.
use mathlib.Core.Path.{◌≡◌, refl}
use mathlib.Core.List.{List}
use Prim.Native.Nat.{ℕ, ◌-◌, ◌≤◌}
use lib.ListN.{length, take}
use lib.Seq.{take_at}
use lib.Dec.{lit≤}
use Rattle.blocks.specs.Bytes.{xor_bytes, zeros}
use Rattle.fips197.specs.Aes.{KeyLength}
use Rattle.fips180.proofs.Digests.{length-sha1}
use Rattle.mode.specs.declared.finish.Finish.{Finish as Named}
use Rattle.mode.specs.declared.finish.Finish.TheVariants.{Cipher as NamedCipher, Sha1 as NamedSha1}
use Rattle.mode.specs.Mode.{Cipher, Lawful, LawfulFinish, encrypt, encrypted_tag, hashed_tag, by_cipher, by_sha1, finish_named}
use Rattle.mode.specs.Calls.{held_tag}
use Rattle.mode.specs.Demands.{TwoFinishes}
use Rattle.mode.proofs.Laws.{xor-long}

-- by a lawful cipher
pub by-cipher : (c : Cipher) → Lawful c → LawfulFinish by_cipher c
by-cipher c laws = record { tag_long = long }
  where
    long : (key p m : List ℕ) → KeyLength key → length p ≡ 16 → length m ≡ 16 → length (encrypted_tag c key p m) ≡ 16
    long key p m size hp hm =
        unfold encrypted_tag encrypt in
        (xor-long (encrypt c key (xor_bytes p m)) p
        (laws.second_half-long key (c.first_half key (xor_bytes p m)) size (laws.first_half-long key (xor_bytes p m) size (xor-long p m hp hm))) hp)

pub by-sha1 : (c : Cipher) → LawfulFinish by_sha1 c
by-sha1 c = record { tag_long = λ key p m size hp hm. (unfold hashed_tag in length-sha1 _) }

pub both : (c : Cipher) → Lawful c → (n : Named) → LawfulFinish (finish_named n) c
both c laws NamedCipher = by-cipher c laws
both c laws NamedSha1 = by-sha1 c

-- a tag has 20 bytes at most
pub tag_within : (n : Named) → (finish_named n).tag_length ≤ 20
tag_within NamedCipher = lit≤ tt
tag_within NamedSha1 = lit≤ tt

-- a tag that is held, and what is behind it left out
pub held_front : (tag : List ℕ) (n : ℕ) → length tag ≡ n → take n (held_tag tag) ≡ tag
unfolding held_tag
held_front tag n e = take_at tag (zeros (20 - length tag)) n e

pub two_finishes : (c : Cipher) → Lawful c → TwoFinishes c
unfolding encrypted_tag hashed_tag
two_finishes c laws =
    record {
      by-cipher = λ key a mask. refl;
      by-sha1 = λ key a mask. refl;
      cipher-long = (refl, by-cipher c laws);
      sha1-long = (refl, by-sha1 c);
    }
