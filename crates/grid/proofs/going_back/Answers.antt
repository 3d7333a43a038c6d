-- `going_back` meets its contract.
use Rattle.std.proofs.Common.{sym, ap, ◌∙◌}
use mir.Syntax.{w64}
use mir.ValLaws.{to_z-of_z}
use Rattle.model.proofs.RefusalLaws.{told-apart, passed_on}
use Rattle.grid.specs.Answers.{found_as, going_back_on}
use Rattle.grid.proofs.CallLaws.{known_by, going-back-by, going-back-refused}
use Rattle.grid.proofs.going_back.Goals as goal

pub returns-in_err-x : goal.returns-in_err-x
returns-in_err-x c = record {
  result_value = ap found_as (passed_on c.from_residual.result c.in_err-x.field-0.0 c.from_residual.ensures.1)
      ∙ going-back-refused c.args.g c.args.sizes.first.now c.args.sizes.second.now c.args.sizes.third.now _ (sym c.in_err-x.ensures) c.args.processor c.args.address;
  told_apart = told-apart c.from_residual.result;
}

pub found_on-requires : goal.found_on-requires
found_on-requires c = known_by c.args.g c.args.sizes.first.now c.args.sizes.second.now c.args.sizes.third.now _ (sym c.in_ok-x.ensures)

pub returns : goal.returns
returns c =
    let q = to_z-of_z w64 c.args.processor c.ranges.processor in
    let a = to_z-of_z w64 c.args.address c.ranges.address in record {
      result_value = c.found_on.ensures.result_value
          ∙ (λ t. going_back_on c.in_ok-x.x c.args.sizes.first.now c.args.sizes.second.now c.args.sizes.third.now (q t) (a t))
          ∙ going-back-by c.args.g c.args.sizes.first.now c.args.sizes.second.now c.args.sizes.third.now _ (sym c.in_ok-x.ensures) c.args.processor c.args.address;
      told_apart = c.found_on.ensures.told_apart;
    }
