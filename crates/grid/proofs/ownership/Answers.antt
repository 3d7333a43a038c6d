-- `ownership` meets its contract.
use Rattle.std.proofs.Common.{sym, ap, ◌∙◌, pos, rules}
use lib.IntN.{ℤ}
use Rattle.model.specs.declared.three.Three.{Three}
use Rattle.model.specs.Grids.{up_to}
use mir.Syntax.{w64}
use mir.ValLaws.{to_z-of_z}
use Rattle.model.proofs.RefusalLaws.{told-apart, passed_on}
use Rattle.mapping.specs.Answers.{owned_as}
use Rattle.grid.specs.Answers.{ownership_on}
use Rattle.grid.proofs.CallLaws.{known_by, ownership-by, ownership-refused}
use Rattle.grid.proofs.ownership.Goals as goal

pub returns-in_err-x : goal.returns-in_err-x
returns-in_err-x c = record {
  result_value = ap owned_as (passed_on c.from_residual.result c.in_err-x.field-0.0 c.from_residual.ensures.1)
      ∙ ownership-refused c.args.g c.args.sizes.first.now c.args.sizes.second.now c.args.sizes.third.now _ (sym c.in_err-x.ensures)
      c.args.indices;
  told_apart = told-apart c.from_residual.result;
}

pub owned_on-requires : goal.owned_on-requires
owned_on-requires c = known_by c.args.g c.args.sizes.first.now c.args.sizes.second.now c.args.sizes.third.now _ (sym c.in_ok-x.ensures)

pub returns : goal.returns
returns c =
    let j = c.up_to.ensures ∙ ap (λ (r : ℤ). up_to r (pos 0) c.args.indices) (to_z-of_z w64 c.args.g.rank (search rules)) in record {
      result_value = c.owned_on.ensures.result_value
          ∙ ap (λ (j : Three ℤ). ownership_on c.in_ok-x.x c.args.sizes.first.now c.args.sizes.second.now c.args.sizes.third.now j.first j.second j.third) j
          ∙ ownership-by c.args.g c.args.sizes.first.now c.args.sizes.second.now c.args.sizes.third.now _ (sym c.in_ok-x.ensures) c.args.indices;
      told_apart = c.owned_on.ensures.told_apart;
    }
