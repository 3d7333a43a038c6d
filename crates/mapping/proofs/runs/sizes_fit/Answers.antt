-- `sizes_fit` meets its contract.
use mathlib.Core.Path.{sym, ap, ◌∙◌}
use native.Mathlib.Omega.{arith}
use lib.Dec.{leb}
use Rattle.numbers.specs.Words.{words_of}
use Rattle.numbers.proofs.WordLaws.{words-length}
use Rattle.model.proofs.RunOwners.{start-end}
use Rattle.mapping.proofs.SizeLaws.{other_length, some-negative, by-sum}
use Rattle.mapping.proofs.runs.sizes_fit.Goals as goal

pub returns-then-sizes-n : goal.returns-then-sizes-n
returns-then-sizes-n c = sym (other_length c.args.cells c.args.processors c.args.sizes.now c.if-sizes-n.true)

pub returns-then-not-each_natural : goal.returns-then-not-each_natural
returns-then-not-each_natural c = sym (some-negative c.args.cells c.args.processors c.args.sizes.now c.if-sizes-n.false (sym c.each_natural.ensures ∙ c.if-not-each_natural.true))

pub returns : goal.returns
returns c =
    let all = start-end (words_of 4 c.args.sizes.now) c.args.processors (omega (arith, words-length 4 c.args.sizes.now, c.if-sizes-n.false)) in
    ap (leb c.args.cells) (c.start_of.ensures.value ∙ all)
    ∙ sym (by-sum c.args.cells c.args.processors c.args.sizes.now c.if-sizes-n.false (sym c.each_natural.ensures ∙ c.if-not-each_natural.false))
