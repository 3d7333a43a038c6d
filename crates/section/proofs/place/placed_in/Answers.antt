-- `placed_in` meets its contract: a processor that passes question 8 is one of the layout's.
use Prim.Native.Nat.{ℕ}
use mathlib.Core.Path.{◌≡◌, refl, sym, ap, ◌∙◌}
use mathlib.Core.Bool.{Bool}
use lib.IntN.{ℤ, pos}
use mir.Syntax.{w64}
use mir.Val.{SFits}
use Rattle.numbers.proofs.Signed.{back, read_of}
use Rattle.model.specs.Mappings.{dealing_with}
use Rattle.model.specs.Ownership.{nat}
use Rattle.model.specs.Questions.{is_below}
use Rattle.mapping.specs.Parts.{part_in}
use Rattle.mapping.proofs.Signs.{below-natural}
use Rattle.section.specs.Shares.{share_in, place_by}
use Rattle.section.specs.Answers.{first_place_in}
use Rattle.section.proofs.place.placed_in.Goals as goal

-- the answer b to question 8, of the processor as it is
eighth : (n : ℕ) (q : ℤ) {r b : Bool} → SFits w64 q → r ≡ is_below (pos n) (back w64 q) → r ≡ b → is_below (pos n) q ≡ b
eighth n q fits e f = sym (read_of w64 (is_below (pos n)) q fits e) ∙ f

pub returns-then-not-is_processor-clause-result_value : goal.returns-then-not-is_processor-clause-result_value
unfolding first_place_in
returns-then-not-is_processor-clause-result_value c =
    rw (eighth c.args.w.layout.processors c.args.processor c.ranges.processor c.is_processor.ensures c.if-not-is_processor.true)

pub first_of-requires : goal.first_of-requires
first_of-requires c =
    let yes = eighth c.args.w.layout.processors c.args.processor c.ranges.processor c.is_processor.ensures c.if-not-is_processor.false in
    rw c.share_of.ensures (record { bounded = c.requires.0; processor = below-natural c.args.processor _ c.ranges.processor refl yes })

pub returns-clause-result_value : goal.returns-clause-result_value
unfolding first_place_in
returns-clause-result_value c =
    let yes = eighth c.args.w.layout.processors c.args.processor c.ranges.processor c.is_processor.ensures c.if-not-is_processor.false in
    let share = λ (q : ℤ). share_in c.args.w (nat q) (part_in (dealing_with c.args.d c.args.sizes.now) (nat q)) in
    let place = c.first_of.ensures ∙ ap place_by (read_of w64 share c.args.processor c.ranges.processor c.share_of.ensures) in
    rw yes (λ i. record { refusal = 0; place = place i })
