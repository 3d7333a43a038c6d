-- `fill_into_bytes` meets its contract: each case of the answer to its questions has its law.
use mathlib.Core.Path.{sym}
use Rattle.model.specs.Mappings.{section_with}
use Rattle.model.proofs.RefusalLaws.{passed_on}
use Rattle.fill.proofs.FillAnswers.{of-parameters, taken, bytes-done, bytes-refused}
use Rattle.fill.proofs.fill_into_bytes.Goals as goal

pub returns-in_err-s : goal.returns-in_err-s
returns-in_err-s c =
    let x = section_with c.args.x c.args.sizes.now in
    let no = of-parameters x c.args.processor c.args.place c.args.quota c.ranges.processor c.ranges.place c.ranges.quota c.in_err-s.ensures.value in
    rw (passed_on c.from_residual.result c.in_err-s.field-0.0 c.from_residual.ensures.1)
    (bytes-refused x c.args.processor c.args.place c.args.quota _ _ (sym no))

pub fill_bytes_from-requires : goal.fill_bytes_from-requires
fill_bytes_from-requires c =
    let x = section_with c.args.x c.args.sizes.now in
    let yes = of-parameters x c.args.processor c.args.place c.args.quota c.ranges.processor c.ranges.place c.ranges.quota c.in_ok-s.ensures.value in
    taken x c.args.processor c.args.place c.args.quota _ c.in_ok-s.ensures.sound_ready (sym yes)

pub returns : goal.returns
returns c =
    let x = section_with c.args.x c.args.sizes.now in
    let yes = of-parameters x c.args.processor c.args.place c.args.quota c.ranges.processor c.ranges.place c.ranges.quota c.in_ok-s.ensures.value in
    bytes-done x c.args.processor c.args.place c.args.quota _ _ _ _ (sym yes) c.fill_bytes_from.ensures
