-- Dealing zero to all is n single deals: each of them is accepted, and its g and h are the holder's among all.
use Rattle.scheme.specs.Setup.{dim}
use Rattle.scheme.specs.Dealing.{dealt_zero, part_g, part_zero_h}
use Rattle.scheme.proofs.Calls.{deal_zero-accepts, deal_zero_all-ok}
use Rattle.dealing.proofs.Deals.{part-of-all}
use Rattle.zero_dealing.specs.Singles.{AllSingle}

pub all-single : AllSingle
all-single S random gs hs z i l g h a b =
    let F = dealt_zero S random in
    let y = deal_zero-accepts S random i g h (deal_zero_all-ok S random gs hs z).0 a b l in
    record {
      accepted = y;
      row = λ b m. rw (z, y) (part-of-all (dim S) S (part_g S F) i l b m);
      column = λ b m. rw (z, y) (part-of-all S.e S (part_zero_h S F) i l b m);
    }
