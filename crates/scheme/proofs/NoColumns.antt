-- Combining no shares: two empty lists pass the table, and their sum is 0; every row of M takes the vector of zeros to that share.
use mathlib.Core.Path.{◌≡◌, refl, sym, ap, ◌∙◌}
use mathlib.Core.Bool.{true}
use mathlib.Core.List.{List, [], ◌∷◌}
use Prim.Native.Nat.{ℕ, ◌%◌, ◌<◌}
use native.Mathlib.Nat.{zero-mod}
use native.Mathlib.Omega.{arith}
use borrow.Author.Tests.{ne_eqb}
use lib.ListN.{length, replicate, length-replicate, get_or-replicate}
use Rattle.base.specs.Rules.{Answer, refusal, refused, given}
use Rattle.base.specs.Sum.{sum}
use Rattle.base.specs.Search.{Vec}
use Rattle.base.proofs.Fill.{tab-is}
use Rattle.field.specs.Fields.{is_field}
use Rattle.field.specs.Dot.{at, dot}
use Rattle.field.proofs.Dot.{dot-comm, dot-zero}
use Rattle.scheme.specs.Setup.{Setup, dim}
use Rattle.scheme.specs.Answers.{yes}
use Rattle.scheme.specs.Sets.{holds, members, determines}
use Rattle.scheme.specs.Opening.{opening, combine}
use Rattle.scheme.specs.Calls.{determines_call, open_rules, open_call, open_left, combine_call}
use Rattle.scheme.specs.NoColumns.{NoColumns}
use Rattle.scheme.proofs.Calls.{limits-pos, SetOk, determines-ok, open-accepts, combine-accepts}
use Rattle.scheme.proofs.Rounds.{agree-is}
use Rattle.scheme.proofs.Sets.{rows}
use Rattle.scheme.proofs.Certificates.{opened-by}

nothing : (p : ℕ) → Vec p 0 []
nothing p = record { size = refl; small = λ k l. absurd (omega arith) }

sum-of-none : (p : ℕ) → combine p [] [] ≡ 0
unfolding combine dot sum
sum-of-none p = zero-mod p

pub no-columns : NoColumns
no-columns =
    record { share = share'; no-constants = no-constants'; no-shares = no-shares'; no-rounds = no-rounds'; no_field = λ p f. rw f refl; opens = opens' }
  where
    share' : (p : ℕ) → is_field p ≡ true → combine_call p [] [] [] ≡ given (0 ∷ 0 ∷ [])
    share' p f =
        rw (combine-accepts p [] [] []
        (record { field = f; constants = nothing p; shares = nothing p; rounds = refl; few = omega arith; one-round = agree-is 0 [] (λ k l. absurd (omega arith)) }))
        (ap (λ v. given (v ∷ 0 ∷ [])) (sum-of-none p))

    no-constants' : (p x : ℕ) (xs rs : List ℕ) → is_field p ≡ true → combine_call p [] (x ∷ xs) rs ≡ refused 3
    no-constants' p x xs rs f = rw (f, ne_eqb (length (x ∷ xs)) 0 (λ z. omega arith)) refl

    no-shares' : (p c : ℕ) (cs rs : List ℕ) → is_field p ≡ true → combine_call p (c ∷ cs) [] rs ≡ refused 3
    no-shares' p c cs rs f = rw (f, ne_eqb 0 (length (c ∷ cs)) (λ z. omega arith)) refl

    no-rounds' : (p r : ℕ) (rs : List ℕ) → is_field p ≡ true → combine_call p [] [] (r ∷ rs) ≡ refused 3
    no-rounds' p r rs f = rw (f, ne_eqb (length (r ∷ rs)) 0 (λ z. omega arith)) refl

    opens' : (S : Setup) (s : ℕ) (handed rounds out : List ℕ) → determines_call S s ≡ yes → length handed ≡ length (members S.n (holds s))
        → length rounds ≡ length handed → ((a : ℕ) → a < length handed → combine_call S.p [] [] [] ≡ given (at handed a ∷ at rounds a ∷ []))
        → length out ≡ S.l → (open_call S s handed rounds out ≡ given []) × (open_left S s handed rounds out ≡ replicate S.l 0)
    opens' S s handed rounds out e long same by room = rw (fine, opened) (refl, refl)
      where
        ok : SetOk S s × (determines S (holds s) ≡ true)
        ok = determines-ok S s e

        pos : 0 < S.p
        pos = limits-pos S ok.0.setup.limits

        -- every member hands in 0, at round 0
        zero-at : (a : ℕ) → a < length handed → at handed a ≡ 0
        zero-at a l = ap (λ (x : Answer). at x.values 0) (sym (by a l) ∙ share' S.p ok.0.setup.limits.field)

        round-at : (a : ℕ) → a < length rounds → at rounds a ≡ 0
        round-at a l = ap (λ (x : Answer). at x.values 1) (sym (by a (omega (arith, same))) ∙ share' S.p ok.0.setup.limits.field)

        fine : refusal (open_rules S s handed rounds out) ≡ 0
        fine =
            open-accepts S s handed rounds out ok.0 (record { size = long; small = λ a l. rw (zero-at a (omega (arith, long))) pos }) same
            (agree-is 0 rounds round-at) room

        opened : opening S (holds s) handed ≡ given (replicate S.l 0)
        opened =
            opened-by S (holds s) handed pos ok.1 (λ c. 0)
            (λ a l. ap (λ x. x % S.p) (dot-comm (dim S) (rows S (holds s) a) (λ c. 0)) ∙ dot-zero S.p (dim S) (λ c. 0) (rows S (holds s) a) (λ j m. zero-mod S.p) ∙ sym (zero-at a (omega (arith, long))))
            ∙ ap given (sym (tab-is S.l (λ c. 0 % S.p) 0 (replicate S.l 0) (length-replicate {A = ℕ} S.l 0) (λ k l. get_or-replicate S.l k 0 0 l ∙ sym (zero-mod S.p))))
