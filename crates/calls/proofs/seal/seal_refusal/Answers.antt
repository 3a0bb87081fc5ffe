-- Row by row.
use borrow.Author.Rules.{rules}
use borrow.Author.Tests.{le-ltb, lt-ltb}
use mathlib.Core.Path.{◌≡◌, refl, sym, ◌∙◌}
use mathlib.Core.Bool.{Bool, false}
use mathlib.Core.List.{List, [], ◌∷◌}
use Prim.Native.Nat.{ℕ, ◌+◌, ◌*◌, ◌/◌, ◌≤◌}
use native.Mathlib.Omega.{arith}
use lib.ListN.{length}
use Rattle.mode.specs.Mode.{finish_named, overhead, sealed_record}
use Rattle.mode.specs.Aes.{aes}
use Rattle.mode.specs.declared.finish.Finish.{Finish}
use Rattle.mode.specs.Table.{first_row, limit, not_key, not16, too_long, too_short, longest_message, zero_mask}
use Rattle.mode.specs.Refusals.{passed}
use Rattle.fips197.specs.Aes.{KeyLength}
use Rattle.std.specs.Prelude.{Ok}
use Rattle.std.proofs.lemmas.Result.{err_from_is_err_and}
use Rattle.tags.specs.Work.{key_and_iv_rows}
use Rattle.tags.proofs.KeyAndIv.{lengths_pass, key_taken, iv_taken}
use Rattle.mode.proofs.Rows.{row_holds, row_passes, no_row, too_long_lem, not_too_long}
use Rattle.mode.proofs.Aes.{aes_lawful}
use Rattle.mode.proofs.Finishes.{both, tag_within}
use Rattle.mode.proofs.SealedLength.{sealed_length_lem}
use Rattle.mode.specs.declared.refusal.Refusal.TheVariants.{Length, OutputTooShort, ZeroMask}
use Rattle.mode.proofs.Answers.{refuses_by, lets_pass, refuses_all}
use Rattle.calls.proofs.seal.seal_refusal.Goals as goal

-- the rows behind those of the key and the IV
abbrev rest : (finish : Finish) (key iv message : List ℕ) (room : ℕ) → List (ℕ × Bool)
rest finish key iv message room = (3, too_long message) ∷ (10, zero_mask aes key iv) ∷ (5, too_short room (length (sealed_record (finish_named finish) aes key iv message))) ∷ []

pub returns-in_err-key_and_iv : goal.returns-in_err-key_and_iv
returns-in_err-key_and_iv c =
    let a = c.args in
    let p = err_from_is_err_and c.from_residual.result c.from_residual.ensures.1 in
    rw (p.1, p.2) (refuses_all (key_and_iv_rows a.key.now a.iv.now) (rest a.finish a.key.now a.iv.now a.message.now a.room) c.in_err-key_and_iv.ensures)

pub returns-then-message-gt-LONGEST_MESSAGE : goal.returns-then-message-gt-LONGEST_MESSAGE
returns-then-message-gt-LONGEST_MESSAGE c =
    let a = c.args in
    refuses_by Length (lengths_pass a.key.now a.iv.now c.in_ok-key_and_iv.ensures _ ∙ row_holds 3 _ _ (too_long_lem limit a.message.now c.if-message-gt-LONGEST_MESSAGE.true))

pub overflow_add-needed-2 : goal.overflow_add-needed-2
overflow_add-needed-2 c = record { fits = omega (arith, c.overhead.ensures, tag_within c.args.finish) }

pub zero_mask-zero-requires : goal.zero_mask-zero-requires
zero_mask-zero-requires c =
    let a = c.args in
    record {
      key_length = key_taken a.key.now a.iv.now c.in_ok-key_and_iv.ensures;
      iv_len = iv_taken a.key.now a.iv.now c.in_ok-key_and_iv.ensures;
    }

-- rows 1, 2 and 3 are passed
three-pass : (key iv message : List ℕ) (rows : List (ℕ × Bool)) {u : Unit {0}} → Ok u ≡ passed (first_row (key_and_iv_rows key iv)) → length message ≤ longest_message
    → first_row ((1, not_key key) ∷ (2, not16 iv) ∷ (3, too_long message) ∷ rows) ≡ first_row rows
three-pass key iv message rows h m = lengths_pass key iv h _ ∙ row_passes 3 _ _ (not_too_long message m)

pub returns-then-zero : goal.returns-then-zero
returns-then-zero c =
    let a = c.args in
    let fits : length a.message.now ≤ longest_message = omega arith in
    refuses_by ZeroMask (three-pass a.key.now a.iv.now a.message.now _ c.in_ok-key_and_iv.ensures fits ∙ row_holds 10 _ _ (sym c.zero_mask-zero.ensures ∙ c.if-zero.true))

-- what is needed is the record's length
needed-is : (finish : Finish) (key iv message : List ℕ) (around needed : ℕ) → KeyLength key → length iv ≡ 16 → around ≡ overhead (finish_named finish)
    → needed ≡ length message / 16 * 16 + 16 + around → length (sealed_record (finish_named finish) aes key iv message) ≡ needed
needed-is finish key iv message around needed k i o n =
    sealed_length_lem aes aes_lawful key k iv i (finish_named finish) (both aes aes_lawful finish) message ∙ omega (arith, o, n)

pub returns-then-room-needed : goal.returns-then-room-needed
returns-then-room-needed c =
    let a = c.args in
    let k = key_taken a.key.now a.iv.now c.in_ok-key_and_iv.ensures in
    let i = iv_taken a.key.now a.iv.now c.in_ok-key_and_iv.ensures in
    let fits : length a.message.now ≤ longest_message = omega arith in
    let unmasked : zero_mask aes a.key.now a.iv.now ≡ false = search rules in
    refuses_by OutputTooShort (three-pass a.key.now a.iv.now a.message.now _ c.in_ok-key_and_iv.ensures fits ∙ row_passes 10 _ _ unmasked
    ∙ row_holds 5 _ _ (lt-ltb a.room _ (rw (needed-is a.finish a.key.now a.iv.now a.message.now _ _ k i c.overhead.ensures refl) c.if-room-needed.true)))

pub returns : goal.returns
returns c =
    let a = c.args in
    let k = key_taken a.key.now a.iv.now c.in_ok-key_and_iv.ensures in
    let i = iv_taken a.key.now a.iv.now c.in_ok-key_and_iv.ensures in
    let fits : length a.message.now ≤ longest_message = omega arith in
    let unmasked : zero_mask aes a.key.now a.iv.now ≡ false = search rules in
    lets_pass (three-pass a.key.now a.iv.now a.message.now _ c.in_ok-key_and_iv.ensures fits ∙ row_passes 10 _ _ unmasked
    ∙ row_passes 5 _ _ (le-ltb a.room _ (rw (needed-is a.finish a.key.now a.iv.now a.message.now _ _ k i c.overhead.ensures refl) c.if-room-needed.false)) ∙ no_row)
