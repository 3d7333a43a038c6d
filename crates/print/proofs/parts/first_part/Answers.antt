-- `first_part` meets its contract: each case of the answer to questions 1 to 7 has its law.
use Prim.Native.Nat.{◌^◌, ◌<◌}
use mathlib.Core.Path.{sym, ◌∙◌, ap}
use mathlib.Core.List.{[]}
use native.Mathlib.Omega.{arith}
use Rattle.std.specs.Prelude.{Err}
use Rattle.model.specs.Mappings.{section_with}
use Rattle.section.proofs.CallAnswers.{passed}
use Rattle.print.proofs.PartLaws.{first_by, first-refused, section-fits, refusal-fits}
use Rattle.print.proofs.parts.first_part.Goals as goal

pub section_line-requires : goal.section_line-requires
section_line-requires c =
    let b = c.in-Ok.ensures.sound in
    omega (arith, c.requires, section-fits c.args.j c.in-Ok.strided.count (omega (arith, c.ranges.j)) (omega (arith, b.count-high)))

pub line_or_done-requires : goal.line_or_done-requires
line_or_done-requires c =
    let p = passed (section_with c.args.x []) _ (sym c.in-Ok.ensures.value) in
    record { accepted = p.none; same = p.strided }

pub refusal_line-requires : goal.refusal_line-requires
refusal_line-requires c =
    let small : c.from.result < 2 ^ 32 = omega arith in
    omega (arith, c.requires, refusal-fits c.args.j c.from.result (omega (arith, c.ranges.j)) small)

pub returns-in-Ok : goal.returns-in-Ok
returns-in-Ok c =
    let b = c.in-Ok.ensures.sound in
    let fits = section-fits c.args.j c.in-Ok.strided.count (omega (arith, c.ranges.j)) (omega (arith, b.count-high)) in
    first_by c.args.j (section_with c.args.x []) c.in-Ok.strided (sym c.in-Ok.ensures.value)
    c.section_line.ensures (omega (arith, c.requires)) c.line_or_done.ensures.0 c.line_or_done.ensures.1

pub returns-in-Err : goal.returns-in-Err
returns-in-Err c =
    let small : c.from.result < 2 ^ 32 = omega arith in
    let fits = refusal-fits c.args.j c.from.result (omega (arith, c.ranges.j)) small in
    first-refused c.args.j (section_with c.args.x []) c.from.result
    (sym c.in-Err.ensures.value ∙ ap Err (sym (c.from.ensures ∙ c.number.ensures)))
    c.refusal_line.ensures (omega (arith, c.requires))
