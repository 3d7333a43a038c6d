-- What is promised of reading a sheet holds.
use mathlib.Core.Path.{refl}
use Rattle.sheet.specs.Promises.{Promises}
use Rattle.sheet.proofs.UniqueLaws.{promised-unique}
use Rattle.sheet.proofs.CasesHold.{cases-hold}

pub promises : Promises
promises = record { unique = promised-unique; none = refl; cases = cases-hold }
