-- Records in any form: each call answers in one form what it answers in another. Only two things are asked of a form: that it gives back the
-- numbers and the block of which a record was made.
use mathlib.Core.Path.{◌≡◌, refl, sym, ap, ap₂, ◌∙◌}
use mathlib.Core.List.{List, [], ◌∷◌, map}
use mathlib.Core.Bool.{Bool, true, false, cond, not, ◌||◌}
use Prim.Native.Nat.{ℕ, ◌+◌}
use lib.ListN.{length}
use lib.Dec.{eqb}
use Rattle.blocks.specs.Bytes.{Bytes, Block, xor_bytes, same}
use Rattle.blocks.proofs.Bridge.{block-bytes_of, proper_words_of, bytes_words, words_bytes}
use Rattle.gf128.specs.Gf128.{jump}
use Rattle.gf128.proofs.TimesX.{block-zero, block-jump}
use Rattle.fips197.specs.Aes.{Key}
use Rattle.mode.specs.Mode.{Cipher, Lawful, Source, plaintext, ciphertext, Form, in_words, in_bytes, zero_block, start_mask, Finish}
use Rattle.mode.specs.Table.{Answer, refused, given, decide, NoneHolds, not_key, not_tag, not16, beyond, any_beyond, any_beyond_within, apart, none, not_whole, zero_mask}
use Rattle.mode.specs.Calls.{outcome_by, unaligned_run, Kind, middle, blocks_of_run, joined, joined_onto, joined_all, join_two, join_two_rows, join_list, join_list_rows, pass_from, run_record, seal_run, seal_run_rows, check_run, check_run_rows, closing_tag, close, test}
use Rattle.mode.specs.Demands.{Formed, EachFormed, in_form, map_answer, map_outcome, SameIn, WordsAsBytes}
use Rattle.fips197.proofs.Keys.{has_key}
use Rattle.mode.proofs.Passed.{has_16}
use Rattle.mode.proofs.Bytes.{run_blocks}
use Rattle.mode.proofs.Halves.{start-block, preauthenticator_block}
use Rattle.mode.proofs.InWords.{same-record, joined-block}

-- what is asked of a form
pub record Reads (f : Form) : Type 0 where
  pub first_of : (first count : ℕ) (p : List ℕ) → f.first (f.make first count p) ≡ first
  pub count_of : (first count : ℕ) (p : List ℕ) → f.count (f.make first count p) ≡ count
  pub block_of : (first count : ℕ) (p : List ℕ) → Block p → f.preauthenticator (f.make first count p) ≡ p

-- ---- answers

map_row : {A B : Type 0} (t : A → B) (n : ℕ) (held : Bool) (x : Answer A) (y : Answer B) → (held ≡ false → y ≡ map_answer t x)
    → cond held (refused n) y ≡ map_answer t (cond held (refused n) x)
unfolding map_answer
map_row t n true x y h = refl
map_row t n false x y h = h refl

map-decide : {A B : Type 0} (t : A → B) (rows : List (ℕ × Bool)) (a : A) (b : B) → (NoneHolds rows → b ≡ t a) → decide rows b ≡ map_answer t (decide rows a)
unfolding decide
map-decide {A} {B} t [] a b h = unfold map_answer in ap (λ (x : B). given x) (h tt)
map-decide t (row ∷ rows) a b h = map_row t row.0 row.1 (decide rows a) (decide rows b) (λ e. map-decide t rows a b (λ k. h (e, k)))

map_outcome_lem : {A B : Type 0} (t : A → B) (x : Answer A) (y : Answer B) (bytes : List ℕ) (room : ℕ) → y ≡ map_answer t x → outcome_by y bytes room ≡ map_outcome t (outcome_by x bytes room)
unfolding outcome_by map_answer
map_outcome_lem {A} {B} t (refused n) y bytes room e = ap (λ (z : Answer B). outcome_by z bytes room) e
map_outcome_lem {A} {B} t (given a) y bytes room e = ap (λ (z : Answer B). outcome_by z bytes room) e

-- ---- the pre-authenticator of a run that is not refused is a block

run_block : (c : Cipher) → Lawful c → (s : Source) (key iv : List ℕ) (first : ℕ) (kind : Kind) (bytes : List ℕ) → Key key → Block iv → Bytes bytes → unaligned_run kind bytes ≡ false
    → Block (pass_from c s key iv first (blocks_of_run kind bytes)).preauthenticator
unfolding pass_from
run_block c laws s key iv first kind bytes hk hv hb e =
    preauthenticator_block c laws key hk s (blocks_of_run kind bytes) (jump first (start_mask c key iv)) zero_block (run_blocks kind bytes hb e)
    (block-jump first (start_mask c key iv) (start-block c laws key hk iv hv)) block-zero

-- ---- two forms

module _ (f g : Form) (rf : Reads f) (rg : Reads g) where
  abbrev to : f.Record → g.Record
  to r = in_form f g r

  first-same : (r : f.Record) → g.first (to r) ≡ f.first r
  first-same r = rg.first_of (f.first r) (f.count r) (f.preauthenticator r)

  count_same : (r : f.Record) → g.count (to r) ≡ f.count r
  count_same r = rg.count_of (f.first r) (f.count r) (f.preauthenticator r)

  block_same : (r : f.Record) → Formed f r → g.preauthenticator (to r) ≡ f.preauthenticator r
  block_same r h = rg.block_of (f.first r) (f.count r) (f.preauthenticator r) h.is_block

  made_same : (first count : ℕ) (p : List ℕ) → Block p → g.make first count p ≡ to (f.make first count p)
  made_same first count p h =
      λ i. g.make (sym (rf.first_of first count p) i) (sym (rf.count_of first count p) i) (sym (rf.block_of first count p h) i)

  -- ---- the table

  beyond-same : (r : f.Record) → beyond (g.first (to r)) (g.count (to r)) ≡ beyond (f.first r) (f.count r)
  beyond-same r = ap₂ beyond (first-same r) (count_same r)

  any_beyond-same : (rs : List f.Record) → any_beyond g (map to rs) ≡ any_beyond f rs
  unfolding any_beyond_within
  any_beyond-same [] = refl
  any_beyond-same (r ∷ rs) = ap₂ (λ (x y : Bool). x || y) (beyond-same r) (any_beyond-same rs)

  adjoin_same : (l r : f.Record) → not (eqb (g.first (to l) + g.count (to l)) (g.first (to r))) ≡ not (eqb (f.first l + f.count l) (f.first r))
  adjoin_same l r = ap₂ (λ (x y : ℕ). not (eqb x y)) (ap₂ (λ (x y : ℕ). x + y) (first-same l) (count_same l)) (first-same r)

  apart-same : (rs : List f.Record) → apart g (map to rs) ≡ apart f rs
  unfolding apart
  apart-same [] = refl
  apart-same (r ∷ []) = refl
  apart-same (l ∷ r ∷ rs) = ap₂ (λ (x y : Bool). x || y) (adjoin_same l r) (apart-same (r ∷ rs))

  none-same : (rs : List f.Record) → none (map to rs) ≡ none rs
  unfolding none
  none-same [] = refl
  none-same (r ∷ rs) = refl

  part_same : (r : f.Record) → not_whole g (to r) ≡ not_whole f r
  unfolding not_whole
  part_same r = ap₂ (λ (x y : ℕ). not (eqb x 0) || eqb y 0) (first-same r) (count_same r)

  -- ---- joins

  sum : f.Record → f.Record → List ℕ
  sum l r = xor_bytes (jump (f.count r) (f.preauthenticator l)) (f.preauthenticator r)

  sum_block : (l r : f.Record) → Formed f l → Formed f r → Block (sum l r)
  unfolding sum
  sum_block l r hl hr = joined-block (f.preauthenticator l) (f.preauthenticator r) (f.count r) hl.is_block hr.is_block

  joined_same : (l r : f.Record) → Formed f l → Formed f r → joined g (to l) (to r) ≡ to (joined f l r)
  unfolding joined sum
  joined_same l r hl hr =
      (λ i. g.make (first-same l i) (count_same l i + count_same r i) (xor_bytes (jump (count_same r i) (block_same l hl i)) (block_same r hr i)))
      ∙ made_same (f.first l) (f.count l + f.count r) (sum l r) (sum_block l r hl hr)

  made_formed : (first count : ℕ) (p : List ℕ) → Block p → Formed f (f.make first count p)
  made_formed first count p h =
      record {
        is_block = rw (rf.block_of first count p h) h;
        is_made = λ i. f.make (rf.first_of first count p i) (rf.count_of first count p i) (rf.block_of first count p h i);
      }

  onto_same : (l : f.Record) (rs : List f.Record) → Formed f l → EachFormed f rs → joined_onto g (to l) (map to rs) ≡ to (joined_onto f l rs)
  unfolding joined_onto EachFormed
  onto_same l [] hl hs = refl
  onto_same l (r ∷ rs) hl hs =
      ap (λ (x : g.Record). joined_onto g x (map to rs)) (joined_same l r hl hs.0)
      ∙ onto_same (joined f l r) rs (unfold joined sum in (made_formed (f.first l) (f.count l + f.count r) (sum l r) (sum_block l r hl hs.0))) hs.1

  all_same : (rs : List f.Record) → EachFormed f rs → joined_all g (map to rs) ≡ to (joined_all f rs)
  unfolding joined_all EachFormed
  all_same [] h = made_same 0 0 zero_block block-zero
  all_same (r ∷ rs) h = onto_same r rs h.0 h.1

  join-same : (l r : f.Record) → Formed f l → Formed f r → join_two g (to l) (to r) ≡ map_answer to (join_two f l r)
  unfolding join_two
  join-same l r hl hr =
      ap₂ (λ (x y : Bool). decide ((4, x) ∷ (8, y) ∷ []) (joined g (to l) (to r))) (any_beyond-same (l ∷ r ∷ [])) (apart-same (l ∷ r ∷ []))
      ∙ map-decide to (join_two_rows f l r) (joined f l r) (joined g (to l) (to r)) (λ n. joined_same l r hl hr)

  list_same : (rs : List f.Record) → EachFormed f rs → join_list g (map to rs) ≡ map_answer to (join_list f rs)
  unfolding join_list
  list_same rs h =
      (λ i. decide ((4, any_beyond-same rs i) ∷ (8, apart-same rs i) ∷ (9, none-same rs i) ∷ []) (joined_all g (map to rs)))
      ∙ map-decide to (join_list_rows f rs) (joined_all f rs) (joined_all g (map to rs)) (λ n. all_same rs h)

  -- ---- tags

  module _ (c : Cipher) (t : Finish) (key iv : List ℕ) (r : f.Record) (h : Formed f r) where
    tag_same : closing_tag g t c key iv (to r) ≡ closing_tag f t c key iv r
    unfolding closing_tag
    tag_same = ap₂ (λ (p : List ℕ) (n : ℕ). t.tag_from c key p (jump n (start_mask c key iv))) (block_same r h) (count_same r)

    close-same : close g t c key iv (to r) ≡ close f t c key iv r
    unfolding close
    close-same = λ i. decide (close_rows_by (beyond-same r i) (part_same r i)) (tag_same i)
      where
        close_rows_by : Bool → Bool → List (ℕ × Bool)
        close_rows_by four nine = (1, not_key key) ∷ (2, not16 iv) ∷ (4, four) ∷ (9, nine) ∷ (10, zero_mask c key iv) ∷ []

    test-same : (tag : List ℕ) → test g t c key iv (to r) tag ≡ test f t c key iv r tag
    unfolding test
    test-same tag = λ i. decide (test_rows_by (beyond-same r i) (part_same r i) (tag_same i)) tt
      where
        test_rows_by : Bool → Bool → List ℕ → List (ℕ × Bool)
        test_rows_by four nine closed =
            (1, not_key key) ∷ (2, not16 iv) ∷ (3, not_tag t tag) ∷ (4, four) ∷ (9, nine) ∷ (10, zero_mask c key iv) ∷ (6, not (same closed tag)) ∷ []

  -- ---- runs

  module _ (c : Cipher) (laws : Lawful c) (key iv : List ℕ) (first : ℕ) (bk : Bytes key) (bv : Bytes iv) where
    run_same : (s : Source) (kind : Kind) (bytes : List ℕ) → not_key key ≡ false → not16 iv ≡ false → unaligned_run kind bytes ≡ false → Bytes bytes
        → run_record g c s key iv first (blocks_of_run kind bytes) ≡ to (run_record f c s key iv first (blocks_of_run kind bytes))
    unfolding run_record
    run_same s kind bytes k v a hb =
        made_same first (length (blocks_of_run kind bytes)) (pass_from c s key iv first (blocks_of_run kind bytes)).preauthenticator
        (run_block c laws s key iv first kind bytes (record { size = has_key key k; bytes = bk }) (record { long = has_16 iv v; bytes = bv }) hb a)

    seal-same : (kind : Kind) (bytes : List ℕ) (room : ℕ) → Bytes bytes → seal_run g c key iv first kind bytes room ≡ map_outcome to (seal_run f c key iv first kind bytes room)
    unfolding seal_run
    seal-same kind bytes room hb =
        let rows = seal_run_rows c key iv first kind bytes room in
        let bs = blocks_of_run kind bytes in
        map_outcome_lem to (decide rows (run_record f c plaintext key iv first bs)) (decide rows (run_record g c plaintext key iv first bs)) (pass_from c plaintext key iv first bs).output room
        (map-decide to rows (run_record f c plaintext key iv first bs) (run_record g c plaintext key iv first bs) (λ n. run_same plaintext kind bytes n.0 n.1.0 n.1.1.0 hb))

    check_same : (bytes : List ℕ) → Bytes bytes → check_run g c key iv first bytes ≡ map_answer to (check_run f c key iv first bytes)
    unfolding check_run blocks_of_run unaligned_run
    check_same bytes hb =
        map-decide to (check_run_rows c key iv first bytes) _ _ (λ n. run_same ciphertext middle bytes n.0 n.1.0 n.1.1.0 hb)

  pub same_in : (c : Cipher) → Lawful c → SameIn c f g
  same_in c laws =
      record {
        of_seal_run = λ key iv first kind bytes room bk bv hb. seal-same c laws key iv first bk bv kind bytes room hb;
        of_check_run = λ key iv first bytes bk bv hb. check_same c laws key iv first bk bv bytes hb;
        of_join = join-same;
        of_join_list = list_same;
        of_close = λ t key iv r h. close-same c t key iv r h;
        of_test = λ t key iv r tag h. test-same c t key iv r h tag;
      }

-- ---- words and bytes

reads_words : Reads in_words
reads_words = record { first_of = λ first count p. refl; count_of = λ first count p. refl; block_of = λ first count p h. bytes_words p h }

reads_bytes : Reads in_bytes
reads_bytes = record { first_of = λ first count p. refl; count_of = λ first count p. refl; block_of = λ first count p h. refl }

pub words_as_bytes : (c : Cipher) → Lawful c → WordsAsBytes c
words_as_bytes c laws =
    record {
      one_form = record { of_bytes = λ b h. (proper_words_of b h, bytes_words b h); of_words = λ w h. (block-bytes_of w, words_bytes w h) };
      in-words = same_in in_bytes in_words reads_bytes reads_words c laws;
      in-bytes = same_in in_words in_bytes reads_words reads_bytes c laws;
      words_formed = λ r h.
          record {
            is_block = block-bytes_of r.preauthenticator;
            is_made = same-record (in_form in_words in_words r) r refl refl (words_bytes r.preauthenticator h);
          };
      bytes_formed = λ r h. record { is_block = h; is_made = refl };
    }
