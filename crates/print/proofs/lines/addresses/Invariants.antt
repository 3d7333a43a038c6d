-- `addresses` meets its contract. The text of the addresses passed stands at the front.
use Prim.Native.Nat.{◌*◌, ◌≤◌}
use lib.ListN.{take}
use Rattle.print.specs.Texts.{next_numbers, Puts}
use Rattle.print.proofs.lines.addresses.Given as goal

abbrev pub invariant-loop-address : goal.invariant-loop-address
invariant-loop-address l = (l.at ≤ 11 * l.address-index) × Puts (next_numbers (take l.address-index l.address-items)) l.initial.out 0 l.out l.at
