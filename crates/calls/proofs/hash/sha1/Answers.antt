-- Refused by the first row that holds, or hashed.
use borrow.Author.Tests.{ltb-false}
use mathlib.Core.Path.{◌≡◌, ap, ◌∙◌}
use mathlib.Core.List.{List, ◌++◌}
use Prim.Native.Nat.{ℕ, ◌+◌, ◌-◌, ◌≤◌}
use native.Mathlib.Omega.{arith}
use lib.ListN.{length, take, drop}
use Rattle.std.specs.Prelude.{Ok}
use Rattle.std.proofs.lemmas.Result.{err_from_is_err_and}
use Rattle.mode.specs.Refusals.{passed}
use Rattle.blocks.specs.Bytes.{zeros}
use Rattle.blocks.proofs.Zeros.{stored_front}
use Rattle.mode.specs.Table.{first_row, unhashable}
use Rattle.mode.specs.Calls.{sha1_rows, sha1_text}
use Rattle.mode.proofs.Answers.{refuses, gives, has_passed, refused_written, refused_output, given_written, given_output}
use Rattle.mode.proofs.Passed.{head_passed, tail_passed}
use Rattle.fips180.specs.Sha1.{sha1, longest_text}
use Rattle.fips180.proofs.Digests.{length-sha1}
use Rattle.calls.proofs.hash.sha1.Goals as goal

-- nothing holds of the text and the output
module _ (text : List ℕ) (room : ℕ) {u : Unit {0}} (h : Ok u ≡ passed (first_row (sha1_rows text room))) where
  short_text : length text ≤ longest_text
  unfolding unhashable
  short_text = ltb-false longest_text (length text) (head_passed 2 _ _ (has_passed _ h))

  room-20 : 20 ≤ room
  room-20 = ltb-false room 20 (head_passed 4 _ _ (tail_passed 2 _ _ (has_passed _ h)))

pub returns-in_err-sha1_refusal : goal.returns-in_err-sha1_refusal
unfolding sha1_text
returns-in_err-sha1_refusal c =
    let a = c.args in
    let room = length a.out.now in
    let p = err_from_is_err_and c.from_residual.result c.from_residual.ensures.1 in
    let d = refuses (sha1_rows a.text.now room) (sha1 a.text.now) c.in_err-sha1_refusal.ensures in
    record {
      answer = rw (p.1, p.2) (refused_written _ _ room d.0 d.1);
      output = c.clear.ensures ∙ refused_output _ _ room d.0;
    }

pub digest-digest-requires : goal.digest-digest-requires
digest-digest-requires c = short_text c.args.text.now (length c.args.out.now) c.in_ok-sha1_refusal.ensures

long : (text digest : List ℕ) → digest ≡ sha1 text → length digest ≡ 20
long text digest e = ap length e ∙ length-sha1 text

pub put-requires : goal.put-requires
put-requires c =
    let a = c.args in
    omega (arith, room-20 a.text.now (length a.out.now) c.in_ok-sha1_refusal.ensures, long a.text.now c.digest-digest.result c.digest-digest.ensures, c.clear.auto.d)

pub returns : goal.returns
unfolding sha1_text
returns c =
    let a = c.args in
    let room = length a.out.now in
    let new = c.put.new.d in
    let cleared = c.clear.new.d in
    let n = long a.text.now c.digest-digest.result c.digest-digest.ensures in
    let at-20 : new ≡ take 0 cleared ++ c.digest-digest.result ++ drop (0 + 20) cleared =
    c.put.ensures ∙ ap (λ (n : ℕ). take 0 cleared ++ c.digest-digest.result ++ drop (0 + n) cleared) n in
    let l : length (sha1 a.text.now) ≡ 20 = length-sha1 a.text.now in
    let d = gives (sha1_rows a.text.now room) (sha1 a.text.now) tt c.in_ok-sha1_refusal.ensures in record {
      answer = given_written _ _ room _ 20 d l;
      output = stored_front 20 cleared new c.digest-digest.result room c.clear.ensures at-20
          ∙ ap (λ (x : List ℕ). x ++ zeros (room - 20)) c.digest-digest.ensures
          ∙ given_output _ _ room _ 20 d l;
    }
