-- The jump call by a signed distance: it gives the signed jump wherever the distance is in range; so what holds of signed jumps holds of its
-- outcomes.
use mathlib.Core.Path.{◌≡◌, sym, ap, subst, ◌∙◌}
use mathlib.Core.List.{List}
use Prim.Native.Nat.{ℕ, ◌≤◌}
use lib.IntN.{ℤ, pos, negsuc, neg_ℤ, nat_abs, ◌+ℤ◌, +ℤ_comm}
use lib.ListN.{length}
use lib.Dec.{lit<}
use borrow.Author.Tests.{le-ltb}
use Rattle.blocks.specs.Bytes.{Block}
use Rattle.blocks.proofs.Sign.{abs_neg}
use Rattle.gf128.specs.Gf128.{jump, jump_by}
use Rattle.gf128.proofs.JumpBy.{block-jump_by, jump_by-add, jump_by_undone}
use Rattle.mode.specs.Mode.{Cipher, Lawful, start_mask}
use Rattle.mode.specs.Table.{decide, too_far_within, limit}
use Rattle.mode.specs.Calls.{jump_mask, jump_rows}
use Rattle.mode.specs.Demands.{InRange, JumpsTo, SignedJump}
use Rattle.mode.proofs.Runs.{is16}
use Rattle.mode.proofs.Laws.{mask_there}
use Rattle.mode.proofs.Decisions.{passed_rows, outcome_gives}
use Rattle.mode.proofs.Halves.{start-block}

jumps : (mask : List ℕ) (d : ℤ) → length mask ≡ 16 → InRange d → JumpsTo mask d (jump_by d mask)
unfolding jump_mask too_far_within
jumps mask d h r room l =
    outcome_gives (decide (jump_rows mask d room) (jump_by d mask)) (jump_by d mask) (jump_by d mask) room
    (passed_rows (jump_rows mask d room) (jump_by d mask) (is16 mask h, (le-ltb limit (nat_abs d) r, (le-ltb room 16 l, tt))))

-- to a mask that is what the formulas give
jumps_to : (mask : List ℕ) (d : ℤ) (m : List ℕ) → length mask ≡ 16 → InRange d → jump_by d mask ≡ m → JumpsTo mask d m
jumps_to mask d m h r e = subst (JumpsTo mask d) e (jumps mask d h r)

as_far : (d : ℤ) → InRange d → InRange (neg_ℤ d)
as_far d r = subst (λ (n : ℕ). n ≤ limit) (sym (abs_neg d)) r

undone : (mask : List ℕ) (d : ℤ) → Block mask → InRange d → JumpsTo (jump_by d mask) (neg_ℤ d) mask
undone mask d h r = jumps_to (jump_by d mask) (neg_ℤ d) mask (block-jump_by d mask h).long (as_far d r) (jump_by_undone d mask h)

-- a mask jumped forward, and back by as much
from_there : (mask : List ℕ) (n : ℕ) → Block mask → n ≤ limit → JumpsTo (jump n mask) (neg_ℤ (pos n)) mask
unfolding jump_by
from_there mask n h r = undone mask (pos n) h r

pub signed-jump : (c : Cipher) → Lawful c → SignedJump c
unfolding jump_by
signed-jump c laws =
    record {
      forward = λ mask n h r. jumps mask (pos n) h r;
      one_back = λ mask h. jumps mask (negsuc 0) h (lit< tt);
      undone = λ mask d h r. (jump_by d mask, (jumps mask d h.long r, undone mask d h r));
      adds = λ mask d e h r s t.
          let m = jump_by d mask in (
            m,
            jump_by e m,
            (
              jumps mask d h.long r,
              jumps m e (block-jump_by d mask h).long s,
              jumps_to mask (d +ℤ e) (jump_by e m) h.long t (ap (λ (k : ℤ). jump_by k mask) (+ℤ_comm d e) ∙ jump_by-add e d mask h),
            ),
          );
      from_run = λ key iv first hk hv r. from_there (start_mask c key iv) first (start-block c laws key hk iv hv) r;
      from-closing = λ key iv q hk hv r. from_there (start_mask c key iv) q.count (start-block c laws key hk iv hv) r;
      from-unbroken = λ s key iv before hk hv r.
          subst (λ (m : List ℕ). JumpsTo m (neg_ℤ (pos (length before))) (start_mask c key iv)) (sym (mask_there c laws s key hk.size iv hv.long before))
          (from_there (start_mask c key iv) (length before) (start-block c laws key hk iv hv) r);
    }
