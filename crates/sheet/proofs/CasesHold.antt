-- The table of sheets holds: one computed proof.
use mathlib.Core.Path.{◌≡◌, refl}
use mathlib.Core.Bool.{true}
use Rattle.sheet.specs.Numbers.{digits, natural, signed}
use Rattle.sheet.specs.Contents.{read_sheet}
use Rattle.sheet.specs.Cases.{every, table}

pub cases-hold : every table ≡ true
unfolding digits natural signed read_sheet table
cases-hold = refl
