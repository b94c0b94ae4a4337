-- The products of rows that lie flat are the positions of a map.
use mathlib.Core.Path.{◌≡◌, refl, ap, ◌∙◌}
use mathlib.Core.List.{List}
use Prim.Native.Nat.{ℕ, ◌%◌}
use Rattle.base.specs.Matrix.{entry}
use Rattle.field.specs.Dot.{at, dot}
use Rattle.field.proofs.Dot.{dot-same}
use Rattle.scheme.specs.Setup.{Setup}
use Rattle.scheme.specs.Dealing.{image_at}
use Rattle.judging.proofs.Products.{first-row}

pub is-image : (S : Setup) (v : ℕ) (phi h : List ℕ) (k : ℕ) → v ≡ dot S.l (entry S.l phi k) (entry S.l h 0) % S.p → v ≡ image_at S phi (at h) k
unfolding image_at
is-image S v phi h k q = q ∙ ap (λ n. n % S.p) (dot-same S.l _ _ _ _ (λ i l. refl) (λ i l. first-row S.l h i))
