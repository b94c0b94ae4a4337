-- Dealing to all is n single deals: each of them is accepted, and entry b of its g is entry i * d + b of all the g, and so of the h.
use Prim.Native.Nat.{ℕ, ◌*◌, ◌<◌}
use mathlib.Core.Path.{sym, ◌∙◌}
use mathlib.Core.List.{List}
use Rattle.base.proofs.Fill.{get_d-tab, flat-at}
use Rattle.base.proofs.Matrix.{entry-fits}
use Rattle.field.specs.Dot.{at}
use Rattle.scheme.specs.Setup.{Setup, dim}
use Rattle.scheme.specs.Dealing.{dealt, part_g, part_h}
use Rattle.scheme.specs.Calls.{to_each}
use Rattle.dealing.specs.Singles.{PartOf, AllSingle}
use Rattle.scheme.proofs.Calls.{deal-accepts, deal_all-ok}

pub part-of-all : (k : ℕ) (S : Setup) (f : ℕ → List ℕ) (i : ℕ) → i < S.n → PartOf k i (to_each k S f) (f i)
part-of-all k S f i l b m = get_d-tab (S.n * k) _ 0 _ (entry-fits S.n k i b l m) ∙ sym (flat-at k (λ i. at (f i)) i b m)

pub all-single : AllSingle
all-single S secrets random gs hs z i l g h a b =
    let F = dealt S secrets random in
    let y = deal-accepts S secrets random i g h (deal_all-ok S secrets random gs hs z).0 a b l in
    record {
      accepted = y;
      row = λ b m. rw (z, y) (part-of-all (dim S) S (part_g S F) i l b m);
      column = λ b m. rw (z, y) (part-of-all (dim S) S (part_h S F) i l b m);
    }
