-- From what is read to what the calls answer and leave.
use Prim.Native.Nat.{ℕ, ◌+◌, ◌-◌, ◌≤◌}
use mathlib.Core.Bool.{Bool, true, false, false≢true}
use mathlib.Core.List.{List, [], ◌∷◌, ◌++◌}
use mathlib.Core.Path.{◌≡◌, refl, sym, ap, subst, ◌∙◌}
use native.Mathlib.Omega.{arith}
use borrow.Author.Tests.{le-ltb, ltb-false, eq-eqb}
use lib.ListN.{length, get_or, take, drop, replicate, length-append, length-replicate, take-append-drop}
use lib.Seq.{length-take-le, take_at, take-append_seam, drop-append_seam}
use Rattle.base.specs.Choice.{pick}
use Rattle.base.specs.Rules.{refusal, Answer, refused, given, answer_by, left_by}
use Rattle.base.specs.Search.{first}
use Rattle.base.specs.Fill.{laid}
use Rattle.base.proofs.Choice.{picked}
use Rattle.base.proofs.Rules.{clear, declined, unchanged, accepted, written}
use Rattle.base.proofs.Fill.{tab-is, laid-whole}
use Rattle.scheme.specs.declared.Fate.TheVariants.{Kept, Aborted}
use Rattle.scheme.specs.Setup.{setup_of}
use Rattle.scheme.proofs.Calls.{size_is}
use Rattle.scheme.specs.Dealing.{is_kept, said_reject, fate_of}
use Rattle.file_text.specs.Text.{Printed}
use Rattle.file_text.specs.Lines.{setup_line, dealing_line, verdict_line, outcome_line, kept_lines, printed}
use Rattle.base.specs.Refusals.{number}
use Rattle.file_records.specs.declared.Fault.{Fault}
use Rattle.file_reading.specs.declared.Told.{Told}
use Rattle.file_reading.specs.Contents.{Contents, is_mapped, shares_of, judgement, fate}
use Rattle.file_reading.specs.File.{FileRead, refused_at, whole, read_file, number_of, byte_of, told, eight}
use Rattle.file_reading.specs.Inner.{Refuses, TellsWhole}
use Rattle.file_reading.proofs.Whole.{file-inside, whole-is-setup, whole_row, whole-mapped}
use Rattle.holder_file.specs.Text.{text_of, line_of}
use Rattle.holder_file.specs.Calls.{at_byte, file_answer, file_left, lent_file, judged, settled, kind_number, numbers}

-- WHAT A FILE TELLS IS PRINTED AS ITS TEXT
eight-long : (xs : List ℕ) → length xs ≤ 8 → length (eight xs) ≡ 8
eight-long xs l = omega (arith, length-append xs (replicate (8 - length xs) 0), length-replicate {A = ℕ} (8 - length xs) 0)

module _ (C : Contents) (l : C.setup.l ≤ 8) (m : C.setup.l ≤ length C.g)
    (n : length (shares_of C.setup C.kind) ≡ pick (is_mapped C.kind) C.setup.l 0) where
  abbrev xs : List ℕ
  xs = take C.setup.l C.g

  abbrev ys : List ℕ
  ys = shares_of C.setup C.kind

  xs-long : length xs ≡ C.setup.l
  xs-long = length-take-le C.setup.l C.g m

  ys-short : length ys ≤ 8
  ys-short = omega (arith, n, picked (λ k. k ≤ C.setup.l) (is_mapped C.kind) C.setup.l 0 (omega arith) (omega arith))

  pub told-eight : (length (told C).shares ≡ 8) × (length (told C).shares2 ≡ 8)
  told-eight =
      let b = is_kept C.setup C.verdicts in
      (picked (λ z. length (eight z) ≡ 8) b xs [] (eight-long xs (omega (arith, xs-long))) refl, picked (λ z. length (eight z) ≡ 8) b ys [] (eight-long ys ys-short) refl)

  kept-told : kept_lines (fate C) (take C.setup.l (told C).shares) (take (pick (is_mapped C.kind) C.setup.l 0) (told C).shares2) ≡ kept_lines (fate C) xs ys
  unfolding fate_of kept_lines
  kept-told = go (is_kept C.setup C.verdicts)
    where
      i : ℕ
      i = first (said_reject C.verdicts) C.setup.n

      k : ℕ
      k = pick (is_mapped C.kind) C.setup.l 0

      go : (b : Bool) → kept_lines (pick b Kept (Aborted i)) (take C.setup.l (eight (pick b xs []))) (take k (eight (pick b ys []))) ≡ kept_lines (pick b Kept (Aborted i)) xs ys
      go true =
          ap (λ (z : List ℕ). kept_lines Kept z (take k (eight ys))) (take_at xs _ C.setup.l xs-long)
          ∙ ap (kept_lines Kept xs) (take_at ys _ k n)
      go false = refl

  pub text-told : printed (setup_of (told C).setup []) C.dealing C.holder (judgement C) (fate C) (take C.setup.l (told C).shares)
      (take (pick (is_mapped C.kind) C.setup.l 0) (told C).shares2) ≡ text_of C
  unfolding text_of
  text-told =
      let S = C.setup in
      ap (λ (x : List ℕ). setup_line S.p S.l S.e S.n ++ dealing_line C.dealing C.holder ++ verdict_line (judgement C) ++ outcome_line (fate C) ++ x) kept-told

-- THE CALLS' OWN RULES
pub lent_ok : (s out : List ℕ) (n : ℕ) → length s ≤ 4096 → length out ≡ n → refusal (lent_file s out n) ≡ 0
lent_ok s out n l e = rw (le-ltb 4096 (length s) l, eq-eqb (length out) n e) refl

pub lent-means : (s out : List ℕ) (n : ℕ) → refusal (lent_file s out n) ≡ 0 → (length s ≤ 4096) × (length out ≡ n)
lent-means s out n z = let q = clear (lent_file s out n) tt z in (ltb-false 4096 (length s) q.0, size_is (length out) n q.1.0)

-- A REFUSED FILE
refused-is : (x : FileRead) (k byte : ℕ) → k ≡ number_of x → byte ≡ byte_of x → (k ≡ 0 → ⊥) → x ≡ refused_at k byte
refused-is (refused_at j b) k byte e f n = rw (e, f) refl
refused-is (whole C) k byte e f n = absurd (n e)

refused-answer : (values : Contents → List ℕ) (x : FileRead) (k byte : ℕ) → x ≡ refused_at k byte → at_byte k byte ≡ file_answer values x
refused-answer values x k byte e = rw e refl

pub refused-left : (new : Contents → List ℕ) (x : FileRead) (k byte : ℕ) (old : List ℕ) → x ≡ refused_at k byte → old ≡ file_left new x old
refused-left new x k byte old e = rw e refl

pub at-answer : (values : Contents → List ℕ) (x : FileRead) (k byte : ℕ) → at_byte k byte ≡ file_answer values x → x ≡ refused_at k byte
at-answer values (refused_at j b) k byte e =
    let f : byte ≡ b = ap (λ (a : Answer). get_or a.values 0 0) e in
    rw (ap (λ (a : Answer). a.number) e, f) refl
at-answer values (whole C) k byte e = absurd (false≢true (ap (λ (a : Answer). a.answered) e))

pub inside : (s : List ℕ) (k byte : ℕ) → read_file s ≡ refused_at k byte → byte ≤ length s
inside s k byte e = subst (λ (x : FileRead). byte_of x ≤ length s) e (file-inside s)

-- the answer and the buffer where what is lent is refused, and where the file is
module _ (s out : List ℕ) (n : ℕ) (values new : Contents → List ℕ) where
  pub lent-declined : (r : ℕ) → r ≡ refusal (lent_file s out n) → (r ≡ 0 → ⊥)
      → (refused r ≡ answer_by (refusal (lent_file s out n)) (file_answer values (read_file s)))
      × (out ≡ left_by (refusal (lent_file s out n)) (file_left new (read_file s) out) out)
  lent-declined r e some =
      let R = refusal (lent_file s out n) in
      (ap refused e ∙ declined R (file_answer values (read_file s)) (λ z. some (e ∙ z)), unchanged R (file_left new (read_file s) out) out (λ z. some (e ∙ z)))

  pub file-declined : (f : Fault) → 0 ≡ refusal (lent_file s out n) → Refuses (read_file s) f
      → (at_byte (number f.refusal) f.byte ≡ answer_by (refusal (lent_file s out n)) (file_answer values (read_file s)))
      × (out ≡ left_by (refusal (lent_file s out n)) (file_left new (read_file s) out) out)
  file-declined f z w =
      let R = refusal (lent_file s out n) in
      let k = number f.refusal in (
        refused-answer values (read_file s) k f.byte (sym w) ∙ accepted R (file_answer values (read_file s)) (sym z),
        written R (file_left new (read_file s) out) out out (sym z) (refused-left new (read_file s) k f.byte out (sym w)),
      )

-- only what is lent is refused with no byte
pub never-plain : (x : FileRead) (k : ℕ) → refused k ≡ file_answer (λ C. length (text_of C) ∷ []) x → ⊥
never-plain (refused_at j b) k e = omega (arith, ap (λ (a : Answer). length a.values) e)
never-plain (whole C) k e = false≢true (ap (λ (a : Answer). a.answered) e)

-- A TEXT THAT WAS PRINTED
pub printed-left : {b t a : List ℕ} {r : ℕ} → Printed b t a r → a ≡ t ++ drop (length t) b
printed-left {b} {t} {a} {r} w =
    sym (take-append-drop r a) ∙ ap (λ (u : List ℕ). u ++ drop r a) w.text ∙ ap (λ (u : List ℕ). t ++ u) w.rest ∙ ap (λ (n : ℕ). t ++ drop n b) w.count

pub printed-as : {b t u a : List ℕ} {r : ℕ} → t ≡ u → Printed b t a r → Printed b u a r
printed-as {b} {t} {u} {a} {r} e w = subst (λ (x : List ℕ). Printed b x a r) e w

pub printed-on : {b d t a : List ℕ} {r : ℕ} → b ≡ d → Printed b t a r → Printed d t a r
printed-on {b} {d} {t} {a} {r} e w = subst (λ (x : List ℕ). Printed x t a r) e w

left-printed : (b t a : List ℕ) (r : ℕ) → r ≡ length t → a ≡ t ++ drop (length t) b → Printed b t a r
left-printed b t a r e q =
    rw (e, q) (record { text = take-append_seam t (drop (length t) b); rest = drop-append_seam t (drop (length t) b); count = refl; fits = omega (arith, length-append t (drop (length t) b)) })

pub bytes-answer : (x : FileRead) (n : ℕ) (out left : List ℕ) → given (n ∷ []) ≡ file_answer (λ C. length (text_of C) ∷ []) x
    → left ≡ file_left (λ C. text_of C ++ drop (length (text_of C)) out) x out → Printed out (line_of x) left n
bytes-answer (refused_at k byte) n out left e q = absurd (false≢true (sym (ap (λ (a : Answer). a.answered) e)))
bytes-answer (whole C) n out left e q = left-printed out (text_of C) left n (ap (λ (a : Answer). get_or a.values 0 0) e) q

pub whole-answer : (values : Contents → List ℕ) (x : FileRead) (C : Contents) → x ≡ whole C → given (values C) ≡ file_answer values x
whole-answer values x C e = rw e refl

pub whole-left : (new : Contents → List ℕ) (x : FileRead) (C : Contents) (old : List ℕ) → x ≡ whole C → new C ≡ file_left new x old
whole-left new x C old e = rw e refl

-- A FILE THAT WAS READ TO ITS END
module _ (s : List ℕ) (t : Told) (contents : TellsWhole (read_file s) t) where
  pub secrets-few : contents.contents.setup.l ≤ 8
  secrets-few = (whole-is-setup s contents.contents contents.is).limits.secret.1

  pub secrets-in : contents.contents.setup.l ≤ length contents.contents.g
  secrets-in = omega (arith, whole_row s contents.contents contents.is)

  second-in : let C = contents.contents in length (shares_of C.setup C.kind) ≡ pick (is_mapped C.kind) C.setup.l 0
  second-in = whole-mapped s contents.contents contents.is

  pub told_text :
      printed (setup_of t.setup []) t.dealing t.holder t.outcome.judgement t.outcome.fate (take t.setup.l t.shares)
      (take (pick t.mapped t.setup.l 0) t.shares2)
      ≡ text_of contents.contents
  told_text =
      ap (λ (u : Told). printed (setup_of u.setup []) u.dealing u.holder u.outcome.judgement u.outcome.fate (take u.setup.l u.shares)
      (take (pick u.mapped u.setup.l 0) u.shares2)) contents.same
      ∙ text-told contents.contents secrets-few secrets-in second-in

  pub told-fits : (t.setup.l ≤ 8) × ((length t.shares ≡ 8) × (length t.shares2 ≡ 8))
  told-fits = rw contents.same (secrets-few, told-eight contents.contents secrets-few secrets-in second-in)

-- THE NUMBERS
-- a list of eight entries, entry by entry
pub eight-entries : (x : List ℕ) → length x ≡ 8
    → get_or x 0 0 ∷ get_or x 1 0 ∷ get_or x 2 0 ∷ get_or x 3 0 ∷ get_or x 4 0 ∷ get_or x 5 0 ∷ get_or x 6 0 ∷ get_or x 7 0 ∷ [] ≡ x
eight-entries (a ∷ b ∷ c ∷ d ∷ e ∷ f ∷ g ∷ h ∷ []) l = refl
eight-entries [] l = absurd (omega arith)
eight-entries (a ∷ []) l = absurd (omega arith)
eight-entries (a ∷ b ∷ []) l = absurd (omega arith)
eight-entries (a ∷ b ∷ c ∷ []) l = absurd (omega arith)
eight-entries (a ∷ b ∷ c ∷ d ∷ []) l = absurd (omega arith)
eight-entries (a ∷ b ∷ c ∷ d ∷ e ∷ []) l = absurd (omega arith)
eight-entries (a ∷ b ∷ c ∷ d ∷ e ∷ f ∷ []) l = absurd (omega arith)
eight-entries (a ∷ b ∷ c ∷ d ∷ e ∷ f ∷ g ∷ []) l = absurd (omega arith)
eight-entries (a ∷ b ∷ c ∷ d ∷ e ∷ f ∷ g ∷ h ∷ i ∷ x) l = absurd (omega arith)

pub numbers-told : (t : Told) (a b c d m : ℕ) → length t.shares ≡ 8 → length t.shares2 ≡ 8 → judged t.outcome.judgement ≡ a ∷ b ∷ []
    → settled t.outcome.fate ≡ c ∷ d ∷ [] → m ≡ kind_number t.mapped t.zero
    → let x = t.shares in
    let y = t.shares2 in
    t.setup.p ∷ t.setup.l ∷ t.setup.e ∷ t.setup.n ∷ t.dealing ∷ t.holder ∷ a ∷ b ∷ c ∷ d
    ∷ get_or x 0 0 ∷ get_or x 1 0 ∷ get_or x 2 0 ∷ get_or x 3 0 ∷ get_or x 4 0 ∷ get_or x 5 0 ∷ get_or x 6 0 ∷ get_or x 7 0 ∷ m
    ∷ get_or y 0 0 ∷ get_or y 1 0 ∷ get_or y 2 0 ∷ get_or y 3 0 ∷ get_or y 4 0 ∷ get_or y 5 0 ∷ get_or y 6 0 ∷ get_or y 7 0 ∷ []
    ≡ numbers t
numbers-told t a b c d m l k e f g =
    let x = t.shares in
    let y = t.shares2 in
    let front : List ℕ → List ℕ = λ z. t.setup.p ∷ t.setup.l ∷ t.setup.e ∷ t.setup.n ∷ t.dealing ∷ t.holder ∷ a ∷ b ∷ c ∷ d ∷ z in
    rw (e, f, ← g)
    (ap (λ (z : List ℕ). front (get_or x 0 0 ∷ get_or x 1 0 ∷ get_or x 2 0 ∷ get_or x 3 0 ∷ get_or x 4 0 ∷ get_or x 5 0 ∷ get_or x 6 0 ∷ get_or x 7 0 ∷ m ∷ z)) (eight-entries y k)
    ∙ ap (λ (z : List ℕ). front (z ++ (m ∷ y))) (eight-entries x l))

-- a list written over the whole of another of its length
pub copied : (xs old : List ℕ) (n : ℕ) → length xs ≡ n → length old ≡ n → laid (λ j. get_or xs (0 + j) 0) 0 n old ≡ xs
copied xs old n e f =
    laid-whole (λ j. get_or xs (0 + j) 0) (λ j. get_or xs j 0) n 0 old f (λ k l. ap (λ (j : ℕ). get_or xs j 0) (omega arith))
    ∙ sym (tab-is n (λ j. get_or xs j 0) 0 xs e (λ k l. refl))
