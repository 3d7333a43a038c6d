-- `copy_by` meets its contract.
use mathlib.Core.Path.{sym, ap, ◌∙◌}
use Rattle.std.specs.Prelude.{Err}
use Rattle.std.proofs.lemmas.Result.{err_from_is_err_and}
use Rattle.model.specs.Mappings.{mapping_with}
use Rattle.storage.specs.Answers.{copied_as}
use Rattle.storage.proofs.CallAnswers.{copied-apart, answer-refused, written-refused, answer-by, written-by}
use Rattle.storage.proofs.copy_by.Goals as goal

pub returns-in_err-x : goal.returns-in_err-x
returns-in_err-x c =
    let m = mapping_with c.args.m c.args.sizes.now in
    let by = sym c.in_err-x.ensures.value in
    let is = err_from_is_err_and c.from_residual.result c.from_residual.ensures.1 in
    record {
      result_value = ap copied_as (is.1 ∙ ap Err is.2) ∙ answer-refused m c.args.from.now c.args.to.now _ by;
      to_after = written-refused m c.args.from.now c.args.to.now _ by c.args.loading;
      told_apart = copied-apart c.from_residual.result;
    }

pub returns : goal.returns
returns c =
    let by = sym c.in_ok-x.ensures.value in record {
      result_value = ap copied_as c.copy_in.ensures.value
          ∙ answer-by (mapping_with c.args.m c.args.sizes.now) c.args.from.now c.args.to.now _ by;
      to_after = c.copy_in.ensures.to_after
          ∙ written-by c.args.m c.args.sizes.now c.args.from.now c.args.to.now _ by c.args.loading;
      told_apart = c.copy_in.ensures.told_apart;
    }
