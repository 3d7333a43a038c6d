-- `local_address` meets its contract: an address is the count of the owner's elements below. Assumes nothing.
use mathlib.Core.Path.{sym, ap, ◌∙◌}
use native.Mathlib.Omega.{arith}
use Rattle.model.specs.Ownership.{cell_owner, owner_of}
use Rattle.model.proofs.AddressLaws.{rank_is}
use Rattle.model.proofs.CellOwners.{cell-owner-lt}
use Rattle.mapping.proofs.dealing.local_address.Goals as goal

pub held_below-requires : goal.held_below-requires
held_below-requires c =
    record {
      dealt = record {
        sized = c.requires.sized;
        processor = omega (arith, c.owner_of-q.ensures, cell-owner-lt c.args.l c.requires.sized.processors-pos c.cell_of.result.0);
      };
      index = omega (arith, c.requires.i_lt_size);
    }

pub returns : goal.returns
unfolding owner_of
returns c =
    c.held_below.ensures
    ∙ sym (rank_is (owner_of c.args.l) _ _ (sym (c.owner_of-q.ensures ∙ ap (cell_owner c.args.l) c.cell_of.ensures)))
