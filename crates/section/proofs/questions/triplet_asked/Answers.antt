-- `triplet_asked` meets its contract: numbers in range are read back as they are, and their difference fits.
use mathlib.Core.Path.{◌≡◌, sym, ap, ◌∙◌}
use mathlib.Core.Bool.{true}
use borrow.Author.Rules.{rules}
use lib.IntN.{ℤ, pos, nat_abs}
use lib.Signed.{le_z}
use native.Mathlib.Omega.{arith}
use mir.ValLaws.{to_z-of_z}
use Rattle.std.proofs.lemmas.Grind.{common_steps}
use Rattle.std.proofs.lemmas.Int.{ints}
use Rattle.std.specs.Prelude.{◌-ℤ◌, FitsSigned, Ok}
use mir.Syntax.{w64}
use Rattle.model.proofs.AcceptedLaws.{ranged}
use Rattle.model.specs.declared.Layout.{Layout}
use Rattle.model.specs.declared.Triplet.{Triplet}
use Rattle.model.specs.Ownership.{nat}
use Rattle.model.specs.Sections.{count_of}
use Rattle.model.specs.Questions.{in_range}
use Rattle.section.specs.Strides.{ends_in}
use Rattle.section.specs.Answers.{strided_in, asked_in}
use Rattle.section.proofs.TripletAnswers.{count_small}
use Rattle.section.proofs.questions.triplet_asked.Goals as goal

pub returns-then-not-in_range : goal.returns-then-not-in_range
unfolding asked_in
returns-then-not-in_range c = grind (arith, common_steps)

pub ends_in-requires : goal.ends_in-requires
ends_in-requires c =
    let ok = sym c.in_range.ensures ∙ c.if-not-in_range.false in
    let s = ranged c.args.x ok in
    let few = count_small c.args.x ok in
    grind (arith, ints, to_z-of_z)

pub returns-then-not-ends_in : goal.returns-then-not-ends_in
unfolding asked_in
returns-then-not-ends_in c = grind (arith, common_steps, to_z-of_z)

pub overflow_sub-x : goal.overflow_sub-x
overflow_sub-x c =
    let s = ranged c.args.x (sym c.in_range.ensures ∙ c.if-not-in_range.false) in
    grind (arith, ints, to_z-of_z)

accepted : (m : Layout) (lower : ℤ) (x : Triplet) → in_range x ≡ true → ends_in m.size lower x.lower x.stride (count_of x) ≡ true
    → Ok (strided_in m lower x) ≡ asked_in m lower x
unfolding asked_in
accepted m lower x ok e = rw (ok, e)

pub returns : goal.returns
returns c =
    let x = c.args.x in
    let lower = c.args.array.lower in
    let ok = sym c.in_range.ensures ∙ c.if-not-in_range.false in
    let s = ranged x ok in
    let fits : FitsSigned w64 (x.lower -ℤ lower) = omega (arith, ints) in
    let ends : ends_in c.args.array.layout.size lower x.lower x.stride (count_of x) ≡ true = grind (arith, common_steps, to_z-of_z) in
    let first : c.natural.result ≡ nat (x.lower -ℤ lower) = grind (arith, common_steps, to_z-of_z) in
    let step = to_z-of_z w64 x.stride (search rules) in
    let stride = c.unsigned_abs.ensures.value ∙ ap nat_abs step in
    (λ i. Ok (record {
      layout = c.args.array.layout;
      count = c.count_of-c.ensures i;
      first = record { 0 = first i };
      stride = stride i;
      upward = le_z (pos 0) (step i);
    }))
    ∙ accepted c.args.array.layout lower x ok ends
