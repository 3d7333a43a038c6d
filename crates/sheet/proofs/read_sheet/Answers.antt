-- `read_sheet` meets its contract.
use Rattle.sheet.proofs.ReadLaws.{answered, refused-at, all-read}
use Rattle.sheet.proofs.read_sheet.Goals as goal

pub overflow_sub-result : goal.overflow_sub-result
overflow_sub-result c = (refused-at _ c.in-Err.ensures).0

pub returns-in-Ok : goal.returns-in-Ok
returns-in-Ok c = let whole = answered _ (all-read _ c.in-Ok.ensures) in record { value = whole.0; promised = whole.1 }

pub returns-in-Err : goal.returns-in-Err
returns-in-Err c = let whole = answered _ (refused-at _ c.in-Err.ensures).1 in record { value = whole.0; promised = whole.1 }
