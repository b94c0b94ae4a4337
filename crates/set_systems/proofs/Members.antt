-- Why a set that is not refused has its members listed by the walk, their rows in the matrix, and room in local buffers.
-- taken, untouched: a list written entry by entry at the start of a buffer is what its start holds, and the rest is as it was
-- prime-of, wide, few, narrow, row_inside, entry-small: what a set and a setup in order give
-- counted, listed, lie: the walk lists the members, and their rows lie in the matrix
-- Room, room: the systems of a set in order have room in local buffers
-- zeros, part-size, fresh: a part of a local buffer of zeros
use mathlib.Core.Path.{◌≡◌, refl, sym, ap, ◌∙◌}
use mathlib.Core.List.{List, [], ◌∷◌}
use Prim.Native.Nat.{ℕ, zero, suc, ◌+◌, ◌*◌, ◌≤◌, ◌<◌}
use native.Mathlib.Nat.{mul-le-mul}
use native.Mathlib.Omega.{arith}
use lib.ListN.{length, take, drop, replicate, length-replicate, get_or-replicate}
use lib.Seq.{ext_get_or, get_or-take, length-take-le}
use Rattle.base.specs.Fill.{filled}
use Rattle.base.specs.Matrix.{entry}
use Rattle.base.proofs.Fill.{length-filled, get_d-filled}
use Rattle.base.proofs.Matrix.{row_fits}
use Rattle.field.specs.Prime.{Prime}
use Rattle.field.specs.Dot.{at}
use Rattle.scheme.specs.Setup.{Setup, dim}
use Rattle.scheme.specs.Sets.{holds, members}
use Rattle.scheme.proofs.Calls.{SetOk, set-ok, limits-prime, below-vec}
use Rattle.scheme.proofs.Members.{member-at, members-le, members-wide}
use Rattle.set_systems.specs.Inner.{SetTaken, members_of, Walked, Lie, Fresh}

pub taken : (ms x : List ℕ) (k : ℕ) → k ≡ length ms → k ≤ length x → take k (filled (at ms) k x) ≡ ms
taken ms x k e l =
    ext_get_or 0 (take k (filled (at ms) k x)) ms (long ∙ e)
    (λ i m. let h : i < k = omega (arith, long) in get_or-take k (filled (at ms) k x) i 0 h ∙ get_d-filled (at ms) k x i 0 h (omega arith))
  where
    long : length (take k (filled (at ms) k x)) ≡ k
    long = length-take-le k (filled (at ms) k x) (omega (arith, length-filled (at ms) k x))

-- and behind them the buffer is as it was
pub untouched : (f : ℕ → ℕ) (k : ℕ) (x : List ℕ) → drop k (filled f k x) ≡ drop k x
unfolding filled
untouched f zero x = refl
untouched f (suc k) [] = refl
untouched f (suc k) (a ∷ x) = untouched (λ i. f (suc i)) k x

-- a set in order
module _ {S : Setup} {s : ℕ} (t : SetTaken S s) where
  ok : SetOk S s
  ok = set-ok S s t.accepted

  pub prime-of : Prime S.p
  prime-of = limits-prime S ok.setup.limits

  pub wide : members 32 (holds s) ≡ members_of S s
  wide = members-wide S.n 32 s ok.inside ok.setup.limits.holders.1

  pub few : length (members_of S s) ≤ 32
  few = omega (arith, members-le S.n (holds s), ok.setup.limits.holders)

  pub narrow : dim S ≤ 16
  narrow = omega (arith, ok.setup.limits.secret, ok.setup.limits.random)

  pub row_inside : (i : ℕ) → i < length (members_of S s) → at (members_of S s) i * dim S + dim S ≤ length S.M
  row_inside i l = omega (arith, row_fits S.n (dim S) (at (members_of S s) i) (member-at S.n (holds s) i l).0, ok.setup.matrix.size)

  pub entry-small : (i j : ℕ) → entry (dim S) S.M i j < S.p
  entry-small i j = below-vec S.p _ S.M (omega (arith, prime-of.big)) ok.setup.matrix (i * dim S + j)

-- what the walk lists
module _ {S : Setup} {s : ℕ} (ok : SetTaken S s) {k : ℕ} {out before : List ℕ} (W : Walked s k before out) where
  pub counted : k ≡ length (members_of S s)
  counted = W.count ∙ ap length (wide ok)

  pub listed : take k out ≡ members_of S s
  listed = W.list ∙ wide ok

  pub lie : {d : ℕ} → d ≡ dim S → Lie d S.M (take k out)
  lie D = record { rows = rw (D, listed) (row_inside ok) }

-- LOCAL BUFFERS
-- n members, d entries in a row
pub record Room (n d : ℕ) : Type 0 where
  pub members : n ≤ 32
  pub entries : d ≤ 16
  pub beside : n * (d + 1) ≤ 544
  pub across : d * (n + 1) ≤ 528
  pub aside : n * d ≤ 512

pub room : {S : Setup} {s : ℕ} → SetTaken S s → {n d : ℕ} → n ≡ length (members 32 (holds s)) → d ≡ dim S → Room n d
room {s = s} ok {n} {d} K D =
    let a : n ≤ 32 = omega (arith, K, members-le 32 (holds s)) in
    let b : d ≤ 16 = omega (arith, D, narrow ok) in
    let c : d + 1 ≤ 17 = omega arith in
    let e : n + 1 ≤ 33 = omega arith in
    record { members = a; entries = b; beside = mul-le-mul a c; across = mul-le-mul b e; aside = mul-le-mul a b }

-- n zeros
abbrev pub zeros : ℕ → List ℕ
zeros n = replicate n 0

pub part-size : (k n : ℕ) → k ≤ n → k ≡ length (take k (zeros n))
part-size k n l = sym (length-take-le k (zeros n) (omega (arith, length-replicate {A = ℕ} n 0)))

pub fresh : (R W n m : ℕ) → R * W ≤ n → R ≤ m → Fresh R W (take (R * W) (zeros n)) (take R (zeros m))
fresh R W n m a b = record {
  size = sym (part-size (R * W) n a);
  marks = sym (part-size R m b);
  unused = λ i l. get_or-take R (zeros m) i 0 l ∙ get_or-replicate {A = ℕ} m i 0 0 (omega arith);
}
