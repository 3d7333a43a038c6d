-- `each_natural` meets its contract.
use mathlib.Core.Path.{sym}
use native.Mathlib.Omega.{arith}
use Rattle.numbers.specs.Words.{words_of}
use Rattle.numbers.proofs.WordLaws.{words-length}
use Rattle.model.specs.Mappings.{sizes_of}
use Rattle.mapping.proofs.SizeLaws.{natural-yes, natural-no}
use Rattle.mapping.proofs.runs.each_natural.Goals as goal

pub returns-then-word_at-gt-MOST_SIZE : goal.returns-then-word_at-gt-MOST_SIZE
unfolding sizes_of
returns-then-word_at-gt-MOST_SIZE c = sym (natural-no (words_of 4 c.args.sizes.now) c.loop-q.q (omega (arith, words-length 4 c.args.sizes.now, c.loop-q-test.true)) (omega (arith, c.if-word_at-gt-MOST_SIZE.true, c.word_at.ensures)))

pub returns : goal.returns
unfolding sizes_of
returns c = sym (natural-yes (words_of 4 c.args.sizes.now) (λ i h. c.loop-q.invariant i (omega (arith, words-length 4 c.args.sizes.now, c.loop-q-test.false))))
