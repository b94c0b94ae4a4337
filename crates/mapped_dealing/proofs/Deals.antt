-- Dealing with a map to all is n single deals with it: each of them is accepted, and entry b of its g is entry i * d + b of all the g, and so of the h,
-- in both dealings.
use Rattle.scheme.specs.Setup.{dim}
use Rattle.scheme.specs.Dealing.{dealt, part_g, part_h}
use Rattle.scheme.specs.Calls.{second_dealt}
use Rattle.scheme.proofs.Calls.{deal_mapped-accepts, deal_mapped_all-ok}
use Rattle.dealing.proofs.Deals.{part-of-all}
use Rattle.mapped_dealing.specs.Singles.{AllSingleMapped}

pub all-single-mapped : AllSingleMapped
all-single-mapped S secrets random phi random2 all z i l one sized =
    let F = dealt S secrets random in
    let F2 = second_dealt S secrets random phi random2 in
    let y = deal_mapped-accepts S secrets random phi random2 one i (deal_mapped_all-ok S secrets random phi random2 all z).0 sized l in
    record {
      accepted = y;
      row = λ b m. rw (z, y) (part-of-all (dim S) S (part_g S F) i l b m);
      column = λ b m. rw (z, y) (part-of-all (dim S) S (part_h S F) i l b m);
      row2 = λ b m. rw (z, y) (part-of-all (dim S) S (part_g S F2) i l b m);
      column2 = λ b m. rw (z, y) (part-of-all (dim S) S (part_h S F2) i l b m);
    }
