-- In each turn the lowest member of what is left of the number is written at the next place.
use mathlib.Core.Path.{refl}
use native.Mathlib.Omega.{arith}
use borrow.Author.Rules.{rules}
use Rattle.base.proofs.Fill.{filled_none, filled-store}
use Rattle.field.specs.Dot.{at}
use Rattle.scheme.specs.Sets.{holds, members}
use Rattle.scheme.proofs.Members.{left-start, left-turn, left-member, left-place, left_end, members-le}
use Rattle.set_systems.proofs.Members.{taken, untouched}
use Rattle.set_systems.proofs.walk.Goals as goal

pub loop-rest-init : goal.loop-rest-init
loop-rest-init c = (left-start 32 _ _ c.ranges.set.fits refl, search rules, filled_none _ _)

pub offset_bounds-out-k : goal.offset_bounds-out-k
offset_bounds-out-k c = omega (arith, left-place c.loop-rest.invariant.0 c.loop-rest-test.true, members-le 32 (holds c.args.set))

pub bounds-out-k : goal.bounds-out-k
bounds-out-k c = omega (arith, left-place c.loop-rest.invariant.0 c.loop-rest-test.true, members-le 32 (holds c.args.set))

pub overflow_add-k : goal.overflow_add-k
overflow_add-k c = omega (arith, left-place c.loop-rest.invariant.0 c.loop-rest-test.true, members-le 32 (holds c.args.set))

pub loop-rest-preserved : goal.loop-rest-preserved
loop-rest-preserved c =
    let l = c.loop-rest in
    (left-turn l.invariant.0 c.loop-rest-test.true, search rules, filled-store _ _ _ _ _ l.invariant.2 (left-member l.invariant.0 c.loop-rest-test.true))

pub returns : goal.returns
returns c =
    let l = c.loop-rest in
    let e = left_end l.invariant.0 c.loop-rest-test.false in
    let room = members-le 32 (holds c.args.set) in
    record {
      count = e;
      fits = omega (arith, room);
      list = rw l.invariant.2 (taken _ _ _ e (omega (arith, room, c.requires)));
      behind = rw l.invariant.2 (untouched (at (members 32 (holds c.args.set))) l.k c.args.out.now);
    }
