-- `content` meets its contract.
use Prim.Native.Nat.{◌<◌}
use mathlib.Core.Path.{◌≡◌}
use borrow.Author.Rules.{rules}
use lib.ListN.{length}
use Rattle.sheet.specs.declared.Content.{Content}
use Rattle.sheet.specs.Reading.{Got, got, via}
use Rattle.sheet.specs.Parts.{parts}
use Rattle.sheet.specs.Contents.{kept}
use Rattle.sheet.proofs.ReadLaws.{bytes_left}
use Rattle.sheet.proofs.number.Cursor.content.Goals as goal

pub returns-then-not-is_empty : goal.returns-then-not-is_empty
returns-then-not-is_empty c =
    let w : Content =
    record { templates = c.in_ok-templates.templates; arrays = c.in_ok-arrays.arrays; sections = c.in_ok-sections.sections } in
    let read : ◌≡◌ {A = Got Content} (got w c.in_ok-sections.end.rest.now) (via kept parts c.args.self.rest.now) = search rules in
    let some : 0 < length c.in_ok-sections.end.rest.now = search rules in
    bytes_left read some
