-- `first_piece` meets its contract: each case of the answer to question 14 has its law.
use Prim.Native.Nat.{◌^◌, ◌<◌}
use mathlib.Core.Path.{refl}
use native.Mathlib.Omega.{arith}
use borrow.Author.Rules.{rules}
use Rattle.print.proofs.PartLaws.{sheet-fits}
use Rattle.print.proofs.PieceLaws.{opened-formed, opened-malformed}
use Rattle.print.proofs.pieces.first_piece.Goals as goal

pub sheet_line-requires : goal.sheet_line-requires
sheet_line-requires c =
    let small : c.in-Err.field-0.0 < 2 ^ 64 = search rules in
    omega (arith, c.requires, sheet-fits c.in-Err.field-0.0 small)

pub returns-in-Ok : goal.returns-in-Ok
returns-in-Ok c = opened-formed c.args.s.now c.in-Ok.ensures.promised c.section_piece.ensures

pub returns-in-Err : goal.returns-in-Err
returns-in-Err c =
    let small : c.in-Err.field-0.0 < 2 ^ 64 = search rules in
    let fits = sheet-fits c.in-Err.field-0.0 small in
    opened-malformed c.args.s.now _ refl c.in-Err.ensures.promised c.sheet_line.ensures (omega (arith, c.requires))
