-- The setup of the board keys is a setup, on a points matrix.
use mathlib.Core.Path.{refl}
use native.Mathlib.Omega.{arith}
use Rattle.field.specs.Fields.{is_field}
use Rattle.field.proofs.Prime.{prime-257}
use Rattle.scheme.specs.Setup.{Limits, IsSetup}
use Rattle.scheme.specs.PointSets.{OnPoints}
use Rattle.scheme.proofs.Points.{points-vec}
use Rattle.board_keys.specs.Keys.{key_setup}

pub key-points : OnPoints key_setup
key-points = record { matrix = refl; prime = prime-257; fits = omega arith }

pub key-limits : Limits key_setup
unfolding is_field
key-limits =
    record { field = refl; secret = (omega arith, omega arith); random = (omega arith, omega arith); holders = (omega arith, omega arith) }

pub key-setup : IsSetup key_setup
key-setup = record { limits = key-limits; matrix = points-vec 257 prime-257 7 16 (omega arith) }
