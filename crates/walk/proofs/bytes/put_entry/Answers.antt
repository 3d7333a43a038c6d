-- `put_entry` meets its contract.
use Prim.Native.Nat.{◌*◌}
use native.Mathlib.Omega.{arith}
use Rattle.walk.proofs.StoreLaws.{store-middle}
use Rattle.walk.proofs.bytes.put_entry.Goals as goal

pub returns : goal.returns
returns c =
    rw (c.copy_from_slice.ensures.after, c.to_le_bytes.ensures)
    (store-middle c.args.list.now (4 * c.args.n) c.args.x (omega (arith, c.requires)))
