-- `write_addresses` meets its contract. The invariant: with the addresses of the positions from i on written too, the list is what it
-- is to be.
use mathlib.Core.List.{map}
use lib.ListN.{take}
use Rattle.model.specs.Transfers.{fronted}
use Rattle.section.specs.Shares.{address_by}
use Rattle.transfer.proofs.FrontLaws.{Front}
use Rattle.transfer.proofs.AddressLists.{left}
use Rattle.transfer.proofs.listing.write_addresses.Given as goal

abbrev pub invariant-loop-i : goal.invariant-loop-i
invariant-loop-i l = Front (fronted (map (address_by l.s) (take l.n l.positions)) l.initial.list) (left l.s l.positions l.n l.i) l.list l.i
