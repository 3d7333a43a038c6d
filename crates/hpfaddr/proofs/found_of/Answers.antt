-- `found_of` meets its contract: the index that `going_back` answers fits its field.
use mathlib.Core.Path.{◌≡◌, sym, ◌∙◌, subst}
use native.Mathlib.Omega.{arith}
use mir.Syntax.{w32, w64}
use mir.Val.{SFits}
use mir.ValLaws.{to_z-of_z}
use Rattle.numbers.proofs.Signed.{small-fits, back, fits-as, back_as}
use Rattle.model.specs.Mappings.{mapping_with}
use Rattle.model.specs.Calls.{GoingBackAnswer, going_back}
use Rattle.model.proofs.AnswerLaws.{going-back-small}
use Rattle.hpfaddr.specs.Sizes.{FoundFits}
use Rattle.hpfaddr.proofs.found_of.Goals as goal
use Rattle.hpfaddr.proofs.found_of.Goals.{In-Ok}

small : (c : In-Ok) → let a : GoingBackAnswer = record { refusal = 0; index = c.in-Ok.j.0 } in FoundFits a
small c = subst FoundFits (sym c.in-Ok.ensures.result_value) (going-back-small _ _ _)

-- the index as it is read from its 64 bits, and that it fits 32
read : (c : In-Ok) → back w64 c.in-Ok.j.0 ≡ c.in-Ok.j.0
read c = to_z-of_z w64 _ (small-fits w64 _ (omega (arith, small c)))

fits : (c : In-Ok) → SFits w32 c.in-Ok.j.0
fits c = small-fits w32 _ (omega (arith, small c))

pub overflow_cast-result : goal.overflow_cast-result
overflow_cast-result c = let s = (goal.at.overflow_cast-result c).In-Ok in fits-as w32 (read s) (fits s)

pub returns-in-Ok : goal.returns-in-Ok
returns-in-Ok c =
    let s = (goal.at.returns-in-Ok c).In-Ok in
    let q = to_z-of_z w64 c.args.processor c.ranges.processor in
    let x = to_z-of_z w64 c.args.address c.ranges.address in
    rw (back_as w32 (read s) (fits s)) (record {
      result_value = c.in-Ok.ensures.result_value ∙ (λ i. going_back (mapping_with c.args.m c.args.sizes.now) (q i) (x i));
      found_fits = small s;
    })
