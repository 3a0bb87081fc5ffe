-- A block as the code does it: twenty times four words, and twenty times four rounds.
use Rattle.std.proofs.Common.{◌≡◌, ℕ, List, ◌++◌, length, sym, refl, ap, ◌∙◌}
use Rattle.blocks.specs.Tab.{tab, tab_from}
use Rattle.fips180.specs.declared.Hash.{Hash}
use Rattle.fips180.specs.Sha1.{rounds, schedule}
use Rattle.fips180.specs.Parts.{next_four}
use Rattle.fips180.proofs.Schedule.{stream, all_words}
use Rattle.fips180.proofs.Rounds.{Quads, turn}

none_left : (v : List ℕ) (s : Hash) → s ≡ rounds 80 (stream 0 v) s
unfolding rounds stream
none_left v s = refl

pub block-done : (F : ℕ → ℕ) (w0 w1 w2 w3 w4 w5 w6 w7 w8 w9 w10 w11 w12 w13 w14 w15 w16 w17 w18 w19 : List ℕ) (h s1 s2 s3 s4 s5 s6 s7 s8 s9 s10 s11 s12 s13 s14 s15 s16 s17 s18 s19 s20 : Hash)
    → w0 ≡ tab_from 0 4 F → w1 ≡ tab_from 4 4 F → w2 ≡ tab_from 8 4 F → w3 ≡ tab_from 12 4 F
    → w4 ≡ next_four (w0 ++ (w1 ++ (w2 ++ w3)))
    → w5 ≡ next_four (w1 ++ (w2 ++ (w3 ++ w4)))
    → w6 ≡ next_four (w2 ++ (w3 ++ (w4 ++ w5)))
    → w7 ≡ next_four (w3 ++ (w4 ++ (w5 ++ w6)))
    → w8 ≡ next_four (w4 ++ (w5 ++ (w6 ++ w7)))
    → w9 ≡ next_four (w5 ++ (w6 ++ (w7 ++ w8)))
    → w10 ≡ next_four (w6 ++ (w7 ++ (w8 ++ w9)))
    → w11 ≡ next_four (w7 ++ (w8 ++ (w9 ++ w10)))
    → w12 ≡ next_four (w8 ++ (w9 ++ (w10 ++ w11)))
    → w13 ≡ next_four (w9 ++ (w10 ++ (w11 ++ w12)))
    → w14 ≡ next_four (w10 ++ (w11 ++ (w12 ++ w13)))
    → w15 ≡ next_four (w11 ++ (w12 ++ (w13 ++ w14)))
    → w16 ≡ next_four (w12 ++ (w13 ++ (w14 ++ w15)))
    → w17 ≡ next_four (w13 ++ (w14 ++ (w15 ++ w16)))
    → w18 ≡ next_four (w14 ++ (w15 ++ (w16 ++ w17)))
    → w19 ≡ next_four (w15 ++ (w16 ++ (w17 ++ w18)))
    → s1 ≡ rounds 0 w0 h
    → s2 ≡ rounds 4 w1 s1
    → s3 ≡ rounds 8 w2 s2
    → s4 ≡ rounds 12 w3 s3
    → s5 ≡ rounds 16 w4 s4
    → s6 ≡ rounds 20 w5 s5
    → s7 ≡ rounds 24 w6 s6
    → s8 ≡ rounds 28 w7 s7
    → s9 ≡ rounds 32 w8 s8
    → s10 ≡ rounds 36 w9 s9
    → s11 ≡ rounds 40 w10 s10
    → s12 ≡ rounds 44 w11 s11
    → s13 ≡ rounds 48 w12 s12
    → s14 ≡ rounds 52 w13 s13
    → s15 ≡ rounds 56 w14 s14
    → s16 ≡ rounds 60 w15 s15
    → s17 ≡ rounds 64 w16 s16
    → s18 ≡ rounds 68 w17 s17
    → s19 ≡ rounds 72 w18 s18
    → s20 ≡ rounds 76 w19 s19
    → s20 ≡ rounds 0 (schedule (tab 16 F) 64) h
block-done F w0 w1 w2 w3 w4 w5 w6 w7 w8 w9 w10 w11 w12 w13 w14 w15 w16 w17 w18 w19 h s1 s2 s3 s4 s5 s6 s7 s8 s9 s10 s11 s12 s13 s14 s15 s16 s17 s18 s19 s20 e0 e1 e2 e3 e4 e5 e6 e7 e8 e9 e10 e11 e12 e13 e14 e15 e16 e17 e18 e19 r1 r2 r3 r4 r5 r6 r7 r8 r9 r10 r11 r12 r13 r14 r15 r16 r17 r18 r19 r20 =
    let k : Quads w0 w1 w2 w3 = record { la = ap length e0; lb = ap length e1; lc = ap length e2; ld = ap length e3 } in
    turn k 0 76 h e4 r1 (λ k1.
    turn k1 4 72 s1 e5 r2 (λ k2.
    turn k2 8 68 s2 e6 r3 (λ k3.
    turn k3 12 64 s3 e7 r4 (λ k4.
    turn k4 16 60 s4 e8 r5 (λ k5.
    turn k5 20 56 s5 e9 r6 (λ k6.
    turn k6 24 52 s6 e10 r7 (λ k7.
    turn k7 28 48 s7 e11 r8 (λ k8.
    turn k8 32 44 s8 e12 r9 (λ k9.
    turn k9 36 40 s9 e13 r10 (λ k10.
    turn k10 40 36 s10 e14 r11 (λ k11.
    turn k11 44 32 s11 e15 r12 (λ k12.
    turn k12 48 28 s12 e16 r13 (λ k13.
    turn k13 52 24 s13 e17 r14 (λ k14.
    turn k14 56 20 s14 e18 r15 (λ k15.
    turn k15 60 16 s15 e19 r16 (λ k16.
    turn k16 64 12 s16 refl r17 (λ k17.
    turn k17 68 8 s17 refl r18 (λ k18.
    turn k18 72 4 s18 refl r19 (λ k19.
    turn k19 76 0 s19 refl r20 (λ k20.
    none_left _ s20))))))))))))))))))))
    ∙ (λ i. rounds 0 (stream 80 (e0 i ++ (e1 i ++ (e2 i ++ e3 i)))) h)
    ∙ ap (λ (ws : List ℕ). rounds 0 ws h) (sym (all_words (tab 16 F) refl))
