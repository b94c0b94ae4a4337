-- The mark of what stands behind DL decides whether it is a DF, and the rules of a DF whether it is refused; behind a DZ there is none.
use Prim.Native.Nat.{ℕ, ◌+◌, ◌-◌, ◌*◌, ◌≤◌}
use mathlib.Core.Bool.{Bool, true, false, not, ◌&&◌}
use mathlib.Core.List.{List, []}
use mathlib.Core.Path.{◌≡◌, refl, sym, ap, ◌∙◌}
use native.Mathlib.Omega.{arith}
use borrow.Author.Rules.{rules}
use lib.Dec.{eqb, ltb}
use lib.ListN.{length, take, drop}
use Rattle.base.specs.Rules.{refusal}
use Rattle.base.specs.Refusals.{number}
use Rattle.base.proofs.Refusals.{above_zero}
use Rattle.scheme.specs.declared.Params.{Params}
use Rattle.scheme.specs.Setup.{setup_of}
use Rattle.record_words.specs.Words.{word_at}
use Rattle.record_layouts.specs.declared.DealingRecord.{DealingRecord}
use Rattle.record_layouts.specs.Records.{mark_df, setup_at, dealing_at}
use Rattle.file_records.proofs.Reading.{part-is}
use Rattle.file_reading.specs.declared.Front.{Front}
use Rattle.file_reading.specs.File.{refused_at, has_map, mapped_rules, mapped_fault}
use Rattle.file_reading.specs.Inner.{part_of, zero_in, second_of, tied_in, FrontIn, MapIn}
use Rattle.file_reading.proofs.Steps.{front_fits, has-no-place, map-none, map-own, file-mapped-refused}
use Rattle.file_reading.proofs.read_second.Goals as goal
use Rattle.file_reading.proofs.read_second.Goals.{then-front-via-then-front, then-front-via-else-front+then-not-has_mark}

abbrev marked : List ℕ → Bool
marked t = not (ltb (length t) 2) && eqb (word_at t 0) mark_df

by-mark : (z : Bool) (t : List ℕ) → z ≡ false → has_map z t ≡ marked t
unfolding has_map
by-mark z t e = rw e refl

module _ (s : List ℕ) (f : Front) (F : FrontIn s f) where
  abbrev rest : List ℕ
  rest = take (length s - f.byte) (drop f.byte s)

  fits : f.byte ≤ length s
  fits = omega (arith, F.byte, front_fits s F.fair)

  same-part : rest ≡ second_of s
  same-part = part-is s f.byte ∙ ap (λ (k : ℕ). drop k s) F.byte

  tied-by : f.zero ≡ false → tied_in s ≡ marked rest
  tied-by e = by-mark (zero_in s) (second_of s) (sym F.zero ∙ e) ∙ ap marked (sym same-part)

  none-there : tied_in s ≡ false → MapIn s (record { byte = f.byte; mapped = false })
  none-there e =
      record {
        mapped = sym e;
        fair = sym (map-none (setup_at s) (dealing_at (part_of s)) (zero_in s) (second_of s) e);
        byte = F.byte ∙ rw e (omega arith);
      }

  -- what refuses a DF
  own : tied_in s ≡ true → refusal (mapped_rules (setup_of f.setup []) f.record rest) ≡ mapped_fault (setup_at s) (dealing_at (part_of s)) (zero_in s) (second_of s)
  own there =
      ap (λ (p : Params). refusal (mapped_rules (setup_of p []) f.record rest)) F.setup
      ∙ ap (λ (x : DealingRecord). refusal (mapped_rules (setup_at s) x rest)) F.dealing
      ∙ ap (λ (u : List ℕ). refusal (mapped_rules (setup_at s) (dealing_at (part_of s)) u)) same-part
      ∙ map-own (setup_at s) (dealing_at (part_of s)) (zero_in s) (second_of s) there

pub slice_bounds-t-count : goal.slice_bounds-t-count
slice_bounds-t-count c = fits c.args.file.now c.args.front c.requires

pub slice_bounds-t-start : goal.slice_bounds-t-start
slice_bounds-t-start c = fits c.args.file.now c.args.front c.requires

pub returns-then-front : goal.returns-then-front
returns-then-front c =
    let s = c.args.file.now in
    let f = c.args.front in
    let F = c.requires in
    elim c.then-front.branch [
      | then-front-via-then-front w ↦ none-there s f F (has-no-place (zero_in s) (second_of s) (sym F.zero ∙ w.if-front.true))
      | then-front-via-else-front+then-not-has_mark w ↦
          let none : w.has_mark.result ≡ false = search rules in
          none-there s f F (tied-by s f F w.if-front.false ∙ sym w.has_mark.ensures ∙ none)
    ]

pub returns-in-Err : goal.returns-in-Err
returns-in-Err c =
    let s = c.args.file.now in
    let f = c.args.front in
    let F = c.requires in
    let some : c.has_mark.result ≡ true = search rules in
    let there : tied_in s ≡ true = tied-by s f F c.if-front.false ∙ sym c.has_mark.ensures ∙ some in
    let k = number c.in-Err.refusal in
    let e = c.in-Err.ensures ∙ own s f F there in
    record {
      mapped = there;
      fault = e;
      byte = F.byte;
      read = ap (refused_at k) F.byte
          ∙ file-mapped-refused s F.fair.setup (setup_at s) refl F.fair.dealing refl refl refl refl k e (above_zero c.in-Err.refusal);
    }

pub returns : goal.returns
returns c =
    let s = c.args.file.now in
    let f = c.args.front in
    let F = c.requires in
    let some : c.has_mark.result ≡ true = search rules in
    let there : tied_in s ≡ true = tied-by s f F c.if-front.false ∙ sym c.has_mark.ensures ∙ some in
    record {
      mapped = sym there;
      fair = sym (c.in_default.ensures ∙ own s f F there);
      byte = rw there
          (omega (
            arith,
            F.byte,
            c.dim.ensures.0,
            c.map_len.ensures.0,
            ap (λ (p : Params). p.l + p.e) F.setup,
            ap (λ (p : Params). p.l * p.l) F.setup,
          ));
    }
