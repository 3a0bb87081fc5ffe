-- A run over blocks, by the mode's definitions.
use Rattle.std.specs.Prelude.{◌≡◌, Bool, true, List, ◌++◌, ℕ, ◌≤◌, length, drop}
use Rattle.mode.specs.Mode.{Pass, plaintext, ciphertext, pass}
use Rattle.mode.specs.Aes.{aes}
use Rattle.mode.specs.Calls.{decrypted}
use Rattle.runs.specs.declared.run.Task.{Task}
use Rattle.runs.specs.declared.run.Task.TheVariants.{Seal, Open, Check}

-- Step 2 over these blocks, from a mask and a pre-authenticator. Opening gives the plaintext, with the mask and pre-authenticator that the
-- ciphertext gives; a check these alone.
unfoldable pub ran : Task → List ℕ → List (List ℕ) → List ℕ → List ℕ → Pass
ran Seal key blocks mask p = pass aes plaintext key blocks mask p
ran Open key blocks mask p =
    let q = pass aes ciphertext key blocks mask p in
    record { output = decrypted aes key blocks mask; preauthenticator = q.preauthenticator; mask = q.mask }
ran Check key blocks mask p = pass aes ciphertext key blocks mask p

-- what a run leaves: its output of n bytes in front of a slice, which held `old` and now holds `new`, and the mask and pre-authenticator that it
-- answers
pub record Ran (n : ℕ) (p : Pass) (old new mask preauthenticator : List ℕ) : Type 0 where
  pub long : length p.output ≡ n
  pub written : new ≡ p.output ++ drop n old
  pub masked : mask ≡ p.mask
  pub authenticated : preauthenticator ≡ p.preauthenticator

-- room for n bytes, where they are written
abbrev pub Room : Bool → ℕ → ℕ → Type 0
Room write n room = write ≡ true → n ≤ room
