-- `write_addresses` meets its contract: each position that is read has an address, which fits 32 bits and is what is written next.
use Prim.Native.Nat.{◌<◌}
use mathlib.Core.Path.{◌≡◌, ap, ◌∙◌}
use mathlib.Core.Bool.{true}
use native.Mathlib.Numerals.{add-one}
use native.Mathlib.Omega.{arith}
use Rattle.section.specs.Shares.{address_by, owned_by}
use Rattle.transfer.proofs.FrontLaws.{same_rest, writes}
use Rattle.transfer.proofs.PairLaws.{known, fitted}
use Rattle.transfer.proofs.AddressLists.{left-next}
use Rattle.transfer.proofs.listing.write_addresses.Goals as goal
use Rattle.transfer.proofs.listing.write_addresses.Goals.{After-from}

-- the position that is read
read : (c : After-from) → (c.from.result < c.args.s.section.count) × (owned_by c.args.s c.from.result ≡ true)
read c = rw c.from.ensures (c.requires.below c.loop-i.i c.loop-i-test.true, c.requires.owned c.loop-i.i c.loop-i-test.true)

pub address_of-requires : goal.address_of-requires
address_of-requires c =
    let r = read c in
    (record { fitted = fitted c.args.s c.requires.accepted; below = r.0 }, (known c.args.s c.requires.accepted).based _ r.0 r.1)

pub overflow_cast-list : goal.overflow_cast-list
overflow_cast-list c =
    let r = read (goal.at.overflow_cast-list c).After-from in
    omega (arith, c.address_of.ensures, (known c.args.s c.requires.accepted).low _ r.0 r.1)

pub loop-i-preserved : goal.loop-i-preserved
loop-i-preserved c =
    let next = left-next c.args.s c.args.positions.now c.args.n c.requires.there c.loop-i.i c.loop-i-test.true in
    rw (c.address_of.ensures ∙ ap (address_by c.args.s) c.from.ensures, add-one) (rw add-one at (writes (same_rest next c.loop-i.invariant)))
