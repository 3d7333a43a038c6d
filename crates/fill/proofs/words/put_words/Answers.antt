-- `put_words` meets its contract.
use Prim.Native.Nat.{ℕ, suc, ◌+◌, ◌<◌}
use mathlib.Core.Path.{◌≡◌, sym}
use mathlib.Core.List.{List, ◌++◌}
use native.Mathlib.Numerals.{add-one}
use native.Mathlib.Omega.{arith}
use lib.ListN.{length, get_or, take, drop, set}
use lib.Seq.{drop-cons, length-take-le, set_at, take-suc, append_snoc}
use Rattle.numbers.specs.Words.{words_of}
use Rattle.numbers.proofs.WordLaws.{words-length}
use Rattle.fill.proofs.words.put_words.Goals as goal

-- one word more
more : (ws l : List ℕ) (i : ℕ) → i < length ws → i < length l → set (take i ws ++ drop i l) i (get_or ws i 0) ≡ take (i + 1) ws ++ drop (i + 1) l
more ws l i h k =
    rw (add-one, drop-cons l i 0 k, set_at (take i ws) (get_or l i 0) (drop (suc i) l) (get_or ws i 0) i (length-take-le i ws (omega arith)), take-suc ws i 0 h)
    (sym (append_snoc (take i ws) (get_or ws i 0) (drop (suc i) l)))

pub loop-i-preserved : goal.loop-i-preserved
loop-i-preserved c =
    rw (c.loop-i.invariant, c.word_at.ensures) (more (words_of 4 c.args.bytes.now) c.args.list.now c.loop-i.i (omega (arith, words-length 4 c.args.bytes.now)) (omega arith))
