-- A group through the cipher, by what is done with it: FIPS 197's cipher is one half after the other.
use mathlib.Core.Path.{◌≡◌, sym, subst}
use mathlib.Core.List.{List}
use Prim.Native.Nat.{ℕ}
use Rattle.groups.specs.Group.{block_at, Holds}
use Rattle.groups.proofs.Loop.{holds_as}
use Rattle.fips197.proofs.Aes.{encrypt_halves, decrypt_halves}
use Rattle.cipher.specs.Group.{Enciphered, Deciphered, Middletexts}
use Rattle.runs.specs.Task.{to_middle, from_middle}
use Rattle.runs.specs.Group.{Through}
use Rattle.runs.specs.declared.run.Task.{Task}
use Rattle.runs.specs.declared.run.Task.TheVariants.{Seal, Open, Check}

module _ (n : ℕ) (key old new middle : List ℕ) where
  pub sealed_through : Enciphered n key old new middle → Through Seal n key old new middle
  unfolding to_middle from_middle
  sealed_through e = record { middletexts = e.middletexts; blocks = holds_as n _ _ new e.blocks (λ i l. sym (encrypt_halves key (block_at old i))) }

  pub opened_through : Deciphered n key old new middle → Through Open n key old new middle
  unfolding to_middle from_middle
  opened_through d = record { middletexts = d.middletexts; blocks = holds_as n _ _ new d.blocks (λ i l. sym (decrypt_halves key (block_at old i))) }

  -- a check has the middletexts in both
  pub checked_through : Middletexts n key old new → Holds n (block_at new) middle → Through Check n key old new middle
  unfolding to_middle from_middle
  checked_through m c = record { middletexts = holds_as n _ _ middle c m.at; blocks = m }

pub through_as : (task task' : Task) (n : ℕ) (key old new middle : List ℕ) → task ≡ task' → Through task' n key old new middle → Through task n key old new middle
through_as task task' n key old new middle e t = subst (λ (x : Task). Through x n key old new middle) (sym e) t
