-- Both are what FIPS 197 says.
use mathlib.Core.Path.{sym, ap, ◌∙◌}
use mathlib.Core.List.{List}
use Prim.Native.Nat.{ℕ}
use Rattle.groups.specs.Group.{block_at, Holds}
use Rattle.aes_steps.specs.Schedule.{schedule_of}
use Rattle.fips197.specs.Aes.{first_half, inv_second_half, encrypt, decrypt}
use Rattle.engines.specs.Engines.{Agree, EnginesEqual}

-- the same blocks, each taken through F
pub each_through : (n : ℕ) (F : List ℕ → List ℕ) {old old' new new' : List ℕ} → Agree n old old' → Holds n (λ i. F (block_at old i)) new
    → Holds n (λ i. F (block_at old' i)) new' → Agree n new new'
each_through n F a h h' = record { at = λ i l. h.at i l ∙ ap F (a.at i l) ∙ sym (h'.at i l) }

pub engines_equal : EnginesEqual
engines_equal =
    record {
      schedules = λ key one other e e'. e.schedule.is ∙ ap schedule_of (e.of ∙ sym e'.of) ∙ sym e'.schedule.is;
      forwards =
          λ n key old old' new new' middle middle' a e e'.
          (each_through n (first_half key) a e.middletexts e'.middletexts, each_through n (encrypt key) a e.blocks e'.blocks);
      backwards =
          λ n key old old' new new' middle middle' a d d'.
          (each_through n (inv_second_half key) a d.middletexts d'.middletexts, each_through n (decrypt key) a d.blocks d'.blocks);
      middletexts = λ n key old old' new new' a m m'. each_through n (inv_second_half key) a m m';
    }
