-- `word_at` meets its contract: the four bytes are those that the word stands for.
use Rattle.std.proofs.Common.{◌≡◌, ℕ, ◌+◌, ◌*◌, ◌/◌, ◌<◌, List, length, get_or, refl, arith, drop-cons}
use Prim.Native.Nat.{suc}
use Rattle.numbers.specs.Words.{value_of, words_of}
use Rattle.numbers.proofs.WordLaws.{word_at}
use Rattle.numbers.proofs.words.word_at.Goals as goal

four_bytes : (bs : List ℕ) (n i : ℕ) → i ≡ 4 * n → n < length bs / 4
    → get_or bs i 0 + 256 * get_or bs (i + 1) 0 + 65536 * get_or bs (i + 2) 0 + 16777216 * get_or bs (i + 3) 0 ≡ get_or (words_of 4 bs) n 0
unfolding value_of
four_bytes bs n i at h =
    let one : i + 1 ≡ suc i = omega arith in
    let two : i + 2 ≡ suc (suc i) = omega arith in
    let three : i + 3 ≡ suc (suc (suc i)) = omega arith in
    rw (one, two, three, word_at 4 n bs h, ← at, drop-cons bs i 0 (omega arith), drop-cons bs (suc i) 0 (omega arith), drop-cons bs (suc (suc i)) 0 (omega arith), drop-cons bs (suc (suc (suc i))) 0 (omega arith))
    (omega arith)

pub returns : goal.returns
returns c = omega (arith, c.from_le_bytes.ensures, four_bytes c.args.bytes.now c.args.n _ refl c.requires)
