-- `ask_numbers` meets its contract: each return rewrites by the answers on the way to it.
use Rattle.std.proofs.Common.{rules}
use Prim.Native.Nat.{◌≤◌}
use mathlib.Core.Path.{◌≡◌, sym, ◌∙◌}
use mathlib.Core.Bool.{true}
use mathlib.Core.List.{[]}
use lib.IntN.{pos, nat_abs}
use Rattle.numbers.proofs.Tests.{both_true}
use Rattle.model.specs.Mappings.{mapping_with}
use Rattle.model.specs.Ownership.{last_index}
use Rattle.model.specs.Questions.{AllYes, between, most, least, most_stride, first_no, bounds_fit}
use Rattle.model.specs.Refusals.{asked_as}
use Rattle.model.proofs.RefusalLaws.{number-nonzero, passed_on}
use Rattle.model.proofs.QuestionLaws.{size-upto, between_is, size_is}
use Rattle.model.proofs.AcceptedLaws.{bounds_of}
use Rattle.mapping.specs.Bounds.{Reached}
use Rattle.mapping.proofs.Signs.{answered}
use Rattle.mapping.proofs.Refusals.{first, dealing-refused, dealing-yes, size-refused, bounds-refused, cells-refused, all_held}
use mathlib.Core.Path.{ap}
use Rattle.mapping.proofs.questions.ask_numbers.Goals as goal
use Rattle.mapping.proofs.questions.ask_numbers.Goals.{In_ok-ask_dealing, Else-not-bounds_fit, Else-not-within}

pub returns-in_err-ask_dealing : goal.returns-in_err-ask_dealing
returns-in_err-ask_dealing c =
    ap asked_as (passed_on c.from_residual.result c.in_err-ask_dealing.field-0.0 c.from_residual.ensures.1)
    ∙ c.in_err-ask_dealing.ensures
    ∙ dealing-refused c.args.listed (mapping_with c.args.m []) (λ z. number-nonzero _ (c.in_err-ask_dealing.ensures ∙ z))

-- questions 1 to 4 and 16 hold
dealt : (c : In_ok-ask_dealing) → first_no (first c.args.listed (mapping_with c.args.m [])) ≡ 0
dealt c = sym c.in_ok-ask_dealing.ensures

pub returns-then-not-within : goal.returns-then-not-within
returns-then-not-within c =
    size-refused c.args.listed (mapping_with c.args.m []) (dealt (goal.at.returns-then-not-within c).In_ok-ask_dealing)
    (answered (between (pos 0) most) c.args.m.size (search rules) c.within.ensures c.if-not-within.true)

sized : (c : Else-not-within) → between (pos 0) most c.args.m.size ≡ true
sized c = answered (between (pos 0) most) c.args.m.size (search rules) c.within.ensures c.if-not-within.false

yes-all : (c : Else-not-within) → AllYes (first c.args.listed (mapping_with c.args.m []))
yes-all c =
    dealing-yes c.args.listed (mapping_with c.args.m []) (sym c.in_ok-ask_dealing.ensures)

size_small : (c : Else-not-within) → nat_abs c.args.m.size ≤ 2147483647
size_small c =
    size-upto (between_is 0 2147483647 c.args.m.size (sized c))

pub bounds_fit-requires : goal.bounds_fit-requires
bounds_fit-requires c =
    let at = (goal.at.bounds_fit-requires c).Else-not-within in
    (size-upto (between_is 1 2147483647 c.args.m.cells (yes-all at).0), size_small at)

pub returns-then-not-bounds_fit : goal.returns-then-not-bounds_fit
returns-then-not-bounds_fit c =
    let at = goal.at.returns-then-not-bounds_fit c in
    bounds-refused c.args.listed (mapping_with c.args.m []) (dealt at.In_ok-ask_dealing) (sized at.Else-not-within)
    (sym c.bounds_fit.ensures ∙ c.if-not-bounds_fit.true)

bounded : (c : Else-not-bounds_fit) → bounds_fit (mapping_with c.args.m []) ≡ true
bounded c = sym c.bounds_fit.ensures ∙ c.if-not-bounds_fit.false

-- the numbers that `cells_fit` is called with are in range
reached : (c : Else-not-bounds_fit) → Reached c.args.m.stride c.args.m.offset c.args.m.size c.args.m.lower c.args.m.origin
unfolding last_index
reached c =
    let w = bounds_of (mapping_with c.args.m []) (bounded c) in
    let dealt-yes = dealing-yes c.args.listed (mapping_with c.args.m []) (sym c.in_ok-ask_dealing.ensures) in
    let four = both_true (between (pos 1) (pos most_stride) c.args.m.stride) (between least most c.args.m.offset) dealt-yes.1.1.1.1.0 in
    record {
      first = record {
        stride = size-upto (between_is 1 most_stride c.args.m.stride four.0);
        offset = size_is c.args.m.offset four.1;
        origin = w.origin;
        index = w.lower;
      };
      size =
          size-upto
          (between_is 0 2147483647 c.args.m.size
          (answered (between (pos 0) most) c.args.m.size (search rules) c.within.ensures c.if-not-within.false));
      last = w.last;
    }

pub cells_fit-requires : goal.cells_fit-requires
cells_fit-requires c = reached (goal.at.cells_fit-requires c).Else-not-bounds_fit

pub returns-then-not-cells_fit : goal.returns-then-not-cells_fit
returns-then-not-cells_fit c =
    let at = goal.at.returns-then-not-cells_fit c in
    cells-refused c.args.listed (mapping_with c.args.m []) (dealt at.In_ok-ask_dealing) (sized at.Else-not-within) (bounded at.Else-not-bounds_fit)
    (sym c.cells_fit.ensures ∙ c.if-not-cells_fit.true)

pub returns : goal.returns
returns c =
    let at = goal.at.returns c in
    all_held c.args.listed (mapping_with c.args.m []) (dealt at.In_ok-ask_dealing) (sized at.Else-not-within) (bounded at.Else-not-bounds_fit)
    (sym c.cells_fit.ensures ∙ c.if-not-cells_fit.false)
