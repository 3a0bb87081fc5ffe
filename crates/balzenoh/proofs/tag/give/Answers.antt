-- Refused, or stored in front of zeros.
use borrow.Author.Rules.{rules}
use mathlib.Core.Path.{◌≡◌, sym, ap, ◌∙◌}
use mathlib.Core.List.{List, ◌++◌}
use Prim.Native.Nat.{ℕ, ◌-◌}
use native.Mathlib.Omega.{arith}
use lib.ListN.{length, take}
use lib.Seq.{length-take-le}
use Rattle.std.specs.Prelude.{Result, Ok}
use Rattle.std.specs.Result.{result_unwrap_or}
use Rattle.blocks.specs.Bytes.{zeros}
use Rattle.blocks.proofs.Zeros.{stored_front}
use Rattle.mode.specs.declared.finish.Finish.{Finish as Named}
use Rattle.mode.specs.declared.refusal.Refusal.{Refusal}
use Rattle.mode.specs.Mode.{finish_named}
use Rattle.mode.proofs.Finishes.{tag_within}
use Rattle.balzenoh.specs.Exports.{with_room}
use Rattle.balzenoh.proofs.Lent.{room_there, lent_refused, lent_given}
use Rattle.balzenoh.proofs.tag.give.Goals as goal

-- a tag that is held, without the zeros behind it
module _ (finish : Named) (answer : Result (List ℕ) Refusal) (room size : ℕ) (tag : List ℕ) (es : size ≡ (finish_named finish).tag_length) (h : Ok tag ≡ with_room answer room size) where
  n : ℕ
  n = (finish_named finish).tag_length

  is : take (finish_named finish).tag_length (result_unwrap_or answer (zeros 20)) ≡ take (finish_named finish).tag_length tag
  is = ap (λ (x : Result (List ℕ) Refusal). take (finish_named finish).tag_length (result_unwrap_or x (zeros 20))) (room_there room size answer tag h).1

  long : length tag ≡ 20 → length (take (finish_named finish).tag_length (result_unwrap_or answer (zeros 20))) ≡ (finish_named finish).tag_length
  long held = ap length is ∙ length-take-le (finish_named finish).tag_length tag (omega (arith, held, tag_within finish))

pub put-requires : goal.put-requires
put-requires c =
    let a = c.args in
    omega (arith, c.clear.auto.d, c.tag_length-size.ensures, (room_there (length a.out.now) c.tag_length-size.result a.answer _ c.in-Ok.ensures).0)

pub returns-in-Ok : goal.returns-in-Ok
returns-in-Ok c =
    let a = c.args in
    let room = length a.out.now in
    let tag = c.in-Ok.tag in
    let size = (finish_named a.finish).tag_length in
    let held : length tag ≡ 20 = search rules in
    let e : Ok tag ≡ with_room a.answer room size = c.in-Ok.ensures ∙ ap (with_room a.answer room) c.tag_length-size.ensures in
    let same = is a.finish a.answer room c.tag_length-size.result tag c.tag_length-size.ensures c.in-Ok.ensures in
    lent_given room size a.answer tag (take size (result_unwrap_or a.answer (zeros 20))) c.put.new.out e (long a.finish a.answer room c.tag_length-size.result tag c.tag_length-size.ensures c.in-Ok.ensures held)
    (stored_front size c.clear.new.d c.put.new.out (take size tag) room c.clear.ensures c.put.ensures ∙ ap (λ (x : List ℕ). x ++ zeros (room - size)) (sym same))

pub returns-in-Err : goal.returns-in-Err
returns-in-Err c =
    let a = c.args in
    let room = length a.out.now in
    let size = (finish_named a.finish).tag_length in
    rw c.number.ensures (lent_refused room size a.answer c.in-Err.refusal (take size (result_unwrap_or a.answer (zeros 20))) c.clear.new.d (c.in-Err.ensures ∙ ap (with_room a.answer room) c.tag_length-size.ensures) c.clear.ensures)
