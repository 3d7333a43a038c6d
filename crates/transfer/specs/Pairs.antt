-- A pair of shares: what its questions answer, and its positions. Definitions only.
use Rattle.std.specs.Prelude.{ℕ, ◌≡◌, cond, ◌&&◌, List, ◌∷◌, eqb, ℤ, pos, Result, Ok, Err}
use Rattle.numbers.specs.Search.{passing}
use Rattle.model.specs.Mappings.{Section}
use Rattle.model.specs.Ownership.{nat}
use Rattle.model.specs.Questions.{Question, ask, first_no, is_below}
use Rattle.model.specs.Transfers.{of_counts, of_pair}
use Rattle.section.specs.declared.questions.Strided.{Strided}
use Rattle.section.specs.declared.shares.Share.{Share}
use Rattle.section.specs.Shares.{share_of, owned_by, Accepted}
use Rattle.transfer.specs.declared.questions.Pair.{Pair}

-- 8 for the sender, 8 for the receiver, and 12, of accepted sections
abbrev pub of_ends : Strided → Strided → ℤ → ℤ → List Question
of_ends left right q m =
    ask 8 (is_below (pos right.layout.processors) q) ∷ ask 8 (is_below (pos left.layout.processors) m)
    ∷ of_counts left.count right.count

-- the sender's share is of the right section, the receiver's of the left
abbrev pub pair_of : Section → Section → ℤ → ℤ → Pair
pair_of left right q m = record { sender = share_of right (nat q); receiver = share_of left (nat m) }

-- the pair if its questions, of which e is the first that is answered no, passed
unfoldable pub pair_asked : Section → Section → ℤ → ℤ → Result Pair ℕ
pair_asked left right q m =
    let e = first_no (of_pair left right q m) in
    cond (eqb e 0) (Ok (pair_of left right q m)) (Err e)

-- ---- what is known of a pair that passed

-- two shares of accepted sections with the same count
pub record Meets (a b : Share) : Type 0 where
  pub first : Accepted a
  pub second : Accepted b
  pub counts : b.section.count ≡ a.section.count

abbrev pub Fit : Pair → Type 0
Fit p = Meets p.sender p.receiver

-- the positions in both shares, in rising order
unfoldable pub places : Share → Share → List ℕ
places a b = passing (λ t. owned_by a t && owned_by b t) 0 a.section.count
