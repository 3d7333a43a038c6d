-- `copy_cyclic` meets its contract.
use native.Mathlib.Omega.{arith}
use Rattle.storage.proofs.RowLaws.{starts-point}
use Rattle.storage.proofs.copy_cyclic.Goals as goal

pub copy_all-requires : goal.copy_all-requires
copy_all-requires c =
    record {
      sized = c.requires.sized;
      pointers = starts-point c.set_starts.ensures;
      row_room = omega (arith, c.set_starts.ensures.long, c.requires.sized.processors-high);
      read = c.requires.read;
      written = c.requires.written;
    }
