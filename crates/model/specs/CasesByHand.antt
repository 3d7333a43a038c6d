-- Cases and counts found by hand, those of no array too. Definitions only; proofs/CasesHold.antt computes them.
use Rattle.std.specs.Prelude.{ℕ, ◌≡◌, ℤ, pos, negsuc}
use Rattle.model.specs.declared.Case.{Case}
use Rattle.model.specs.declared.Case.TheVariants.{Forward, Backward, Empty}
use Rattle.model.specs.Sections.{triplet_of, count_of}
use Rattle.model.specs.Questions.{most, least}
use Rattle.model.specs.Cases.{case_of}

-- l:h:s is case c, and by document 01's quotient it has n elements
abbrev Counted : ℤ → ℤ → ℤ → Case → ℕ → Type 0
Counted l h s c n = (case_of (triplet_of l h s) ≡ c) × (count_of (triplet_of l h s) ≡ n)

pub record CasesByHand : Type 0 where
  -- h is an element, or one short of the next, or l; the most elements; the longest strides
  pub forward : Counted (pos 0) (pos 12) (pos 4) (Forward 12 4) 4
  pub forward-short : Counted (pos 0) (pos 11) (pos 4) (Forward 11 4) 3
  pub forward-one : Counted (pos 5) (pos 5) (pos 3) (Forward 0 3) 1
  pub forward-most : Counted least most (pos 1) (Forward 4294967294 1) 4294967295
  pub forward-far : Counted least most most (Forward 4294967294 2147483647) 3
  -- the same, mirrored
  pub backward : Counted (pos 12) (pos 0) (negsuc 3) (Backward 12 4) 4
  pub backward-short : Counted (pos 12) (pos 1) (negsuc 3) (Backward 11 4) 3
  pub backward-one : Counted (pos 5) (pos 5) (negsuc 2) (Backward 0 3) 1
  pub backward-most : Counted most least (negsuc 0) (Backward 4294967294 1) 4294967295
  pub backward-far : Counted most least least (Backward 4294967294 2147483647) 3
  -- h lies one the other way, or far
  pub empty : Counted (pos 5) (pos 4) (pos 3) Empty 0
  pub empty_back : Counted (pos 4) (pos 5) (negsuc 2) Empty 0
  pub empty-far : Counted most least most Empty 0
  pub empty-back-far : Counted least most least Empty 0
