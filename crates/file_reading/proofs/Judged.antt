-- The own judgement of a file whose records are in order: what the code reads from it and judges are the setup, parts, values and map of its contents.
-- few, small: there is room for what is read
-- at-is, behind-is: where DL or DZ starts, and where DL ends
-- plain-is, mapped-is, first-is, zero_is: whether there is a DF, and a DZ
-- plain-fair, mapped-fair, zero-fair: nothing refuses the judgement
-- plain-judged, mapped-judged, zero-judged: it is that of the contents, and so are the shares
use Prim.Native.Nat.{ℕ, ◌+◌, ◌*◌, ◌≤◌}
use mathlib.Core.Bool.{Bool, true, false}
use mathlib.Core.List.{List, []}
use mathlib.Core.Path.{◌≡◌, refl, sym, ap, ◌∙◌}
use native.Mathlib.Omega.{arith}
use lib.ListN.{length, take, replicate}
use Rattle.base.specs.Rules.{refusal}
use Rattle.scheme.specs.declared.Params.{Params}
use Rattle.scheme.specs.declared.Judgement.{Judgement}
use Rattle.scheme.specs.Setup.{Setup, dim, IsSetup, setup_of}
use Rattle.base.specs.Search.{Vec}
use Rattle.scheme.specs.Dealing.{judgement_of, judgement_mapped, judgement_zero}
use Rattle.scheme.specs.Calls.{judge_rules, judge_mapped_rules, judge_zero_rules}
use Rattle.scheme.proofs.Calls.{judge-accepts, judge_mapped-accepts, judge_zero-accepts}
use Rattle.record_words.specs.Words.{words_at}
use Rattle.record_layouts.specs.Records.{setup_at, setup_size, mapped_size, dealing_at, dealing_g, dealing_h, zero_h, parts_h, mapped_phi}
use Rattle.file_records.specs.declared.PartLists.{PartLists}
use Rattle.file_records.specs.Inner.{Small, HoldsPart}
use Rattle.file_reading.specs.declared.Parts.{Parts}
use Rattle.file_reading.specs.Contents.{columns, part_layout, judgement_by, shares_of}
use Rattle.file_reading.specs.File.{first_byte, kind_at, eight}
use Rattle.file_reading.specs.Inner.{part_of, zero_in, second_of, tied_in, contents_read, PartsIn, JudgedIn}
use Rattle.file_reading.proofs.Steps.{setup-fair, dealing-fair, front_fits, lists-small, second-fair, MappedIs, shares-read, has-own, has-no-place}

module _ (s : List ℕ) (r : Parts) (P : PartsIn s r) where
  abbrev S : Setup
  S = setup_at s

  abbrev p : Params
  p = r.setup

  abbrev len : ℕ
  len = r.setup.n * (r.setup.l + r.setup.e)

  pub few : p.n ≤ 32
  few = omega (arith, (setup-fair s P.fair).0.limits.holders.1, ap (λ (q : Params). q.n) P.setup)

  pub small : Small (setup_of p [])
  small = lists-small s P.fair p P.setup

  -- WHERE the records stand
  pub at-is : 10 + 2 * len ≡ setup_size S
  at-is = ap (λ (q : Params). 10 + 2 * (q.n * (q.l + q.e))) P.setup

  pub behind-is : zero_in s ≡ false → 10 + 2 * len + 6 + 4 * (p.l + p.e) ≡ first_byte S (zero_in s)
  behind-is z =
      ap (λ (q : Params). 10 + 2 * (q.n * (q.l + q.e)) + 6 + 4 * (q.l + q.e)) P.setup
      ∙ (let e : 10 + 2 * (S.n * dim S) + 6 + 4 * dim S ≡ first_byte S false = omega arith in e)
      ∙ ap (first_byte S) (sym z)

  pub setup-there : setup_size (setup_of p []) ≤ length s
  setup-there = omega (arith, at-is, (setup-fair s P.fair).1)

  pub fits : first_byte S (zero_in s) ≤ length s
  fits = front_fits s P.fair

  -- the record behind SU has room for its lists
  there : (z : Bool) → zero_in s ≡ z → (part_layout z).size S ≤ length (part_of s)
  there z e = rw (← e) (dealing-fair s P.fair).3

  pub dealing-there : zero_in s ≡ false → 6 + 2 * (p.l + p.e + (p.l + p.e)) ≤ length (part_of s)
  dealing-there z = omega (arith, there false z, ap (λ (q : Params). q.l + q.e) P.setup)

  pub zero-there : zero_in s ≡ true → 6 + 2 * (p.l + p.e + p.e) ≤ length (part_of s)
  zero-there z = omega (arith, there true z, ap (λ (q : Params). q.l + q.e) P.setup, ap (λ (q : Params). q.e) P.setup)

  -- WHETHER there is a DF, and a DZ
  pub plain-is : r.mapped ≡ false → tied_in s ≡ false
  plain-is e = sym P.mapped ∙ e

  pub mapped-is : r.mapped ≡ true → tied_in s ≡ true
  mapped-is e = sym P.mapped ∙ e

  pub zero_is : (z : Bool) → r.zero ≡ z → zero_in s ≡ z
  zero_is z e = sym P.zero ∙ e

  pub first-is : r.mapped ≡ true → zero_in s ≡ false
  first-is e = has-own (zero_in s) (second_of s) (mapped-is e)

  untied : zero_in s ≡ true → tied_in s ≡ false
  untied z = has-no-place (zero_in s) (second_of s) z

  -- its h
  column : (z : Bool) → zero_in s ≡ z → Vec S.p (columns z S) (parts_h (columns z S) S (part_of s))
  column z e = rw (← e) (dealing-fair s P.fair).2

  second : r.mapped ≡ true → MappedIs S (dealing_at (part_of s)) (second_of s)
  second e = second-fair s P.fair P.second (mapped-is e)

  pub second-there : r.mapped ≡ true → mapped_size (setup_of p []) ≤ length (second_of s)
  second-there e = omega (arith, (second e).long, ap (λ (q : Params). 6 + 4 * (q.l + q.e) + 2 * (q.l * q.l)) P.setup)

  -- WHAT IS READ
  module _ (m : List ℕ) (matrix : take len m ≡ words_at s 5 len) where
    abbrev T : Setup
    T = setup_of r.setup (take len m)

    same-setup : T ≡ S
    same-setup = ap (setup_of p) matrix ∙ ap (λ (q : Params). setup_of q (words_at s 5 (q.n * (q.l + q.e)))) P.setup

    same-h : (t : List ℕ) (L : PartLists) → HoldsPart (setup_of p []) (p.l + p.e) t L → take (p.l + p.e) L.h ≡ dealing_h S t
    same-h t L H = H.h ∙ ap (λ (q : Params). dealing_h (setup_of q []) t) P.setup

    same-shares : (k : ℕ) (t : List ℕ) (L : PartLists) → HoldsPart (setup_of p []) k t L → L.shares ≡ eight (take S.l (dealing_g S t))
    same-shares k t L H = shares-read (setup_of p []) k t L H ∙ ap (λ (q : Params). eight (take q.l (dealing_g (setup_of q []) t))) P.setup

    same-values : (v : List ℕ) → take p.n v ≡ take S.n v
    same-values v = ap (λ (q : Params). take q.n v) P.setup

    -- the judgement and the shares of the second part, by whether there is a DZ and a DF
    judged-as : (z b : Bool) → zero_in s ≡ z → tied_in s ≡ b → let v = take S.n r.values in
        let v2 = take S.n r.values2 in
        judgement_by S (parts_h (columns z S) S (part_of s)) v (kind_at S z b (second_of s) v2)
        ≡ judgement_by S (parts_h (columns (zero_in s) S) S (part_of s)) v (kind_at S (zero_in s) (tied_in s) (second_of s) v2)
    judged-as z b e f =
        let v = take S.n r.values in
        let v2 = take S.n r.values2 in
        ap (λ (c : Bool). judgement_by S (parts_h (columns z S) S (part_of s)) v (kind_at S z c (second_of s) v2)) (sym f)
        ∙ ap (λ (c : Bool). judgement_by S (parts_h (columns c S) S (part_of s)) v (kind_at S c (tied_in s) (second_of s) v2)) (sym e)

    shares_as : (z b : Bool) → zero_in s ≡ z → tied_in s ≡ b → let v2 = take S.n r.values2 in
        eight (shares_of S (kind_at S z b (second_of s) v2)) ≡ eight (shares_of S (kind_at S (zero_in s) (tied_in s) (second_of s) v2))
    shares_as z b e f =
        let v2 = take S.n r.values2 in
        ap (λ (c : Bool). eight (shares_of S (kind_at S z c (second_of s) v2))) (sym f)
        ∙ ap (λ (c : Bool). eight (shares_of S (kind_at S c (tied_in s) (second_of s) v2))) (sym e)

    -- a zero dealing
    module _ (L : PartLists) (H : HoldsPart (setup_of p []) p.e (part_of s) L) where
      same-zero : {A : Type 0} (f : Setup → (h values : List ℕ) → A)
          → f T (take p.e L.h) (take p.n r.values) ≡ f S (zero_h S (part_of s)) (take S.n r.values)
      same-zero f =
          let h : take p.e L.h ≡ zero_h S (part_of s) = H.h ∙ ap (λ (q : Params). zero_h (setup_of q []) (part_of s)) P.setup in
          rw (same-setup, h, same-values r.values) refl

      pub zero-fair : r.zero ≡ true → refusal (judge_zero_rules T (take p.e L.h) (take p.n r.values)) ≡ 0
      zero-fair e =
          same-zero (λ (U : Setup) (h values : List ℕ). refusal (judge_zero_rules U h values))
          ∙ judge_zero-accepts _ _ _ (record { setup = (setup-fair s P.fair).0; part = column true (zero_is true e); received = P.received })

      pub zero-judged : (j : Judgement) → r.zero ≡ true → j ≡ judgement_zero T (take p.e L.h) (take p.n r.values)
          → JudgedIn (contents_read s r) (record { judgement = j; shares = L.shares; shares2 = replicate 8 0 })
      zero-judged j e q =
          let z = zero_is true e in
          record {
            judgement = q ∙ same-zero judgement_zero ∙ judged-as true false z (untied z);
            shares = same-shares p.e (part_of s) L H;
            shares2 = shares_as true false z (untied z);
          }

    module _ (L : PartLists) (H : HoldsPart (setup_of p []) (p.l + p.e) (part_of s) L) where
      -- judged by any f
      same-plain : {A : Type 0} (f : Setup → (h values : List ℕ) → A)
          → f T (take (p.l + p.e) L.h) (take p.n r.values) ≡ f S (dealing_h S (part_of s)) (take S.n r.values)
      same-plain f = rw (same-setup, same-h (part_of s) L H, same-values r.values) refl

      pub plain-fair : r.zero ≡ false → refusal (judge_rules T (take (p.l + p.e) L.h) (take p.n r.values)) ≡ 0
      plain-fair z =
          same-plain (λ (U : Setup) (h values : List ℕ). refusal (judge_rules U h values))
          ∙ judge-accepts _ _ _ (record { setup = (setup-fair s P.fair).0; part = column false (zero_is false z); received = P.received })

      pub plain-judged : (j : Judgement) → r.mapped ≡ false → r.zero ≡ false → j ≡ judgement_of T (take (p.l + p.e) L.h) (take p.n r.values)
          → JudgedIn (contents_read s r) (record { judgement = j; shares = L.shares; shares2 = replicate 8 0 })
      plain-judged j e z q =
          record {
            judgement = q ∙ same-plain judgement_of ∙ judged-as false false (zero_is false z) (plain-is e);
            shares = same-shares (p.l + p.e) (part_of s) L H;
            shares2 = shares_as false false (zero_is false z) (plain-is e);
          }

      module _ (phi : List ℕ) (map : take (p.l * p.l) phi ≡ mapped_phi (setup_of p []) (second_of s)) (L2 : PartLists) (H2 : HoldsPart (setup_of p []) (p.l + p.e) (second_of s) L2) where
        same_map : take (p.l * p.l) phi ≡ mapped_phi S (second_of s)
        same_map = map ∙ ap (λ (q : Params). mapped_phi (setup_of q []) (second_of s)) P.setup

        same-mapped : {A : Type 0} (f : Setup → (h values phi h2 values2 : List ℕ) → A)
            → f T (take (p.l + p.e) L.h) (take p.n r.values) (take (p.l * p.l) phi) (take (p.l + p.e) L2.h) (take p.n r.values2)
            ≡ f S (dealing_h S (part_of s)) (take S.n r.values) (mapped_phi S (second_of s)) (dealing_h S (second_of s)) (take S.n r.values2)
        same-mapped f =
            rw (same-setup, same-h (part_of s) L H, same-values r.values, same_map, same-h (second_of s) L2 H2, same-values r.values2) refl

        pub mapped-fair : r.mapped ≡ true
            → refusal (judge_mapped_rules T (take (p.l + p.e) L.h) (take p.n r.values) (take (p.l * p.l) phi) (take (p.l + p.e) L2.h) (take p.n r.values2)) ≡ 0
        mapped-fair e =
            let setup : IsSetup S = (setup-fair s P.fair).0 in
            let M = second e in
            same-mapped (λ (U : Setup) (h values phi h2 values2 : List ℕ). refusal (judge_mapped_rules U h values phi h2 values2))
            ∙ judge_mapped-accepts _ _ _ _ _ _
            (record {
              first = record { setup = setup; part = column false (first-is e); received = P.received };
              map = M.map;
              second = record { setup = setup; part = M.column; received = P.received2 (mapped-is e) };
            })

        pub mapped-judged : (j : Judgement) → r.mapped ≡ true
            → j ≡ judgement_mapped T (take (p.l + p.e) L.h) (take p.n r.values) (take (p.l * p.l) phi) (take (p.l + p.e) L2.h) (take p.n r.values2)
            → JudgedIn (contents_read s r) (record { judgement = j; shares = L.shares; shares2 = L2.shares })
        mapped-judged j e q =
            record {
              judgement = q ∙ same-mapped judgement_mapped ∙ judged-as false true (first-is e) (mapped-is e);
              shares = same-shares (p.l + p.e) (part_of s) L H;
              shares2 = same-shares (p.l + p.e) (second_of s) L2 H2 ∙ shares_as false true (first-is e) (mapped-is e);
            }
