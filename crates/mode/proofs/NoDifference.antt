-- From demand 3: what two ways of cutting, ordering and joining have in common, and what the call that seals a whole message has in common
-- with them.
use mathlib.Core.Path.{◌≡◌, refl, sym, ap, ◌∙◌}
use mathlib.Core.Bool.{Bool, true, false}
use mathlib.Core.List.{List, [], ◌∷◌, ◌++◌}
use Prim.Native.Nat.{ℕ}
use Rattle.mode.specs.Mode.{Cipher, Lawful, Finish, RunRecord, in_words, plaintext, blocks_of, padded, unbroken_tag, sealed_record}
use Rattle.mode.specs.Table.{given, zero_mask}
use Rattle.mode.specs.Calls.{calls_of, close, blocks_of_run}
use Rattle.mode.specs.Parallel.{Work, sealing, finish_of, iv_of, source_of, text_of, last_kind, all_blocks, Setting, runs_from, Segment, recorded, is_recorded, segment, start}
use Rattle.mode.specs.Demands.{NonzeroMask, Whole, whole, whole_tag, Done}
use Rattle.mode.proofs.Segments.{not_both}
use Rattle.mode.proofs.Demand3.{demand3}
use Rattle.mode.proofs.ZeroMask.{none_recorded, zero_mask_rack}

module _ (c : Cipher) (laws : Lawful c) (key : List ℕ) where
  -- a place was filled, so the start mask is not zero
  nonzero : (work : Work) (r : RunRecord) (bytes : List ℕ) → Done c key work r bytes → NonzeroMask c key (iv_of work)
  nonzero work r bytes d = by (zero_mask c key (iv_of work)) refl
    where
      s : Setting
      s = record { key = key; work = work; pieces = d.pieces }

      by : (t : Bool) → zero_mask c key (iv_of work) ≡ t → t ≡ false
      by false e = refl
      by true e =
          let left : start s ≡ recorded d.runs r bytes ∷ [] = sym (zero_mask_rack c laws s e d.formed d.calls d.allowed).1 ∙ d.one_left in
          let empty : is_recorded (segment (start s) 0) ≡ false = (unfold start in none_recorded (runs_from (last_kind work) 0 d.pieces) 0) in
          let filled : is_recorded (segment (recorded d.runs r bytes ∷ []) 0) ≡ true = (unfold is_recorded in refl) in
          not_both (sym empty ∙ ap (λ (xs : List Segment). is_recorded (segment xs 0)) left ∙ filled)

  all_of : (work : Work) (r : RunRecord) (bytes : List ℕ) (d : Done c key work r bytes) → Whole c (calls_of c) (record { key = key; work = work; pieces = d.pieces }) r bytes
  all_of work r bytes d = (demand3 c laws (record { key = key; work = work; pieces = d.pieces }) (nonzero work r bytes d) d.formed d.calls d.allowed).single d.runs r bytes d.one_left

  pub no_difference : (work : Work) (r q : RunRecord) (bytes text : List ℕ) → Done c key work r bytes → Done c key work q text
      → (bytes ≡ text) × (close in_words (finish_of work) c key (iv_of work) r ≡ close in_words (finish_of work) c key (iv_of work) q)
  unfolding whole whole_tag
  no_difference work r q bytes text d e =
      let one = all_of work r bytes d in
      let two = all_of work q text e in
      (one.ciphertext_whole ∙ sym two.ciphertext_whole, one.closes_whole ∙ sym two.closes_whole)

  pub sealed_whole : (t : Finish) (iv message bytes tag : List ℕ) (r : RunRecord) → Done c key (sealing t iv message) r bytes → close in_words t c key iv r ≡ given tag
      → iv ++ bytes ++ tag ≡ sealed_record t c key iv message
  unfolding whole whole_tag sealed_record finish_of iv_of source_of text_of last_kind all_blocks blocks_of_run
  sealed_whole t iv message bytes tag r d e =
      let w = all_of (sealing t iv message) r bytes d in
      let a : given tag ≡ given (unbroken_tag t c plaintext key iv (blocks_of (padded message))) = sym e ∙ w.closes_whole in
      let t : tag ≡ unbroken_tag t c plaintext key iv (blocks_of (padded message)) = cc in
      λ i. iv ++ w.ciphertext_whole i ++ t i
