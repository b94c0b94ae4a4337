-- Why position q of an opening is the set's row for q applied to the shares: a row reads entry q off every vector that gives the shares.
use mathlib.Core.Path.{◌≡◌, refl, sym, ap, ◌∙◌}
use mathlib.Core.Bool.{true}
use mathlib.Core.List.{List}
use Prim.Native.Nat.{ℕ, zero, suc, ◌%◌, ◌<◌}
use native.Mathlib.Nat.{mod-mod, mod-eq_of_lt}
use native.Mathlib.Omega.{arith}
use lib.ListN.{take}
use lib.Seq.{get_or-take}
use Rattle.base.specs.Rules.{Answer, refusal, answer_by, left_by}
use Rattle.base.proofs.Search.{every-at}
use Rattle.field.specs.Prime.{Prime}
use Rattle.field.specs.Dot.{at}
use Rattle.field.proofs.Dot.{dot-mod-right, row_reads}
use Rattle.scheme.specs.Setup.{Setup, dim}
use Rattle.scheme.specs.Sets.{holds, members, has_row, determines}
use Rattle.scheme.specs.Opening.{opening}
use Rattle.scheme.specs.Calls.{open_rules, open_answer, open_call, open_left}
use Rattle.scheme.specs.Answering.{Behind}
use Rattle.scheme.proofs.Answering.{OpeningIs, secrets, by-six, by-seven, opening-is}
use Rattle.scheme.proofs.Calls.{open-ok, limits-prime}
use Rattle.scheme.proofs.Certificates.{gives_at, opened-in-hand}
use Rattle.scheme.proofs.Sets.{count, rows, row-for}
use Rattle.set_rows.specs.SetRows.{Applied}
use Rattle.set_rows.proofs.OneRow.{one-is-row, exactly-one}

module _ (S : Setup) (s : ℕ) (xs : List ℕ) (P : Prime S.p) where
  applied : determines S (holds s) ≡ true → (b : Behind S s xs) (q : ℕ) → q < S.l → Applied S (holds s) q xs (take S.l b.vector)
  unfolding determines
  applied det b q l =
      let one = exactly-one S (holds s) P q (omega arith) (every-at S.l (has_row S (holds s)) det q l) in
      record {
        row = one.row;
        one = one.found;
        gives = get_or-take S.l b.vector q 0 l
            ∙ sym (mod-eq_of_lt (b.ok.small q (omega arith)))
            ∙ sym (row_reads S.p (count S (holds s)) (dim S) (rows S (holds s)) q (at one.row) (omega arith)
            (row-for S (members S.n (holds s)) q one.row (one-is-row S (holds s) P q one.row one.is)) (at b.vector))
            ∙ dot-mod-right S.p (count S (holds s)) (at one.row) _ (at xs)
            (λ a m. sym (mod-mod _ S.p) ∙ ap (λ x. x % S.p) (gives_at S (holds s) xs b.vector b.all a m));
      }

  pub opening-applied : (opening S (holds s) xs).number ≡ 0 → (q : ℕ) → q < S.l → Applied S (holds s) q xs (opening S (holds s) xs).values
  opening-applied z q l = go (opening-is S s xs)
    where
      go : OpeningIs S s xs → Applied S (holds s) q xs (opening S (holds s) xs).values
      go (secrets det b vs e) = rw (opened-in-hand S (holds s) xs det b.vector b.ok b.all) (applied det b q l)
      go (by-six d k e) = absurd (omega (arith, sym z ∙ ap (λ (a : Answer). a.number) e))
      go (by-seven d b e) = absurd (omega (arith, sym z ∙ ap (λ (a : Answer). a.number) e))

pub call-applied : (S : Setup) (s : ℕ) (xs rs out : List ℕ) → (open_call S s xs rs out).number ≡ 0 → (q : ℕ) → q < S.l
    → Applied S (holds s) q xs (open_left S s xs rs out)
call-applied S s xs rs out z q l = go (refusal (open_rules S s xs rs out)) refl z
  where
    a : Answer
    a = opening S (holds s) xs

    go : (r : ℕ) → refusal (open_rules S s xs rs out) ≡ r → (answer_by r (open_answer a)).number ≡ 0
        → Applied S (holds s) q xs (left_by r (left_by a.number a.values out) out)
    go zero e h = rw h (opening-applied S s xs (limits-prime S (open-ok S s xs rs out e).set.setup.limits) h q l)
    go (suc r) e h = absurd (omega arith)
