-- The walk along a share, and what the addresses of its positions ask for. Definitions only.
use Rattle.std.specs.Prelude.{ℕ, ◌-◌, ◌≤◌, ◌<◌, ◌≡◌, true, ◌&&◌, List, length, get_or}
use Rattle.numbers.specs.Search.{passing}
use Rattle.section.specs.declared.shares.Share.{Share}
use Rattle.section.specs.Shares.{owned_by, place_by, LeadOn, Accepted}
use Rattle.transfer.specs.declared.walk.Walk.{Walk}
use Rattle.transfer.specs.declared.walk.Places.{Places}
use Rattle.transfer.specs.Pairs.{Meets}

-- a walk by the steps of its share, from the first place
pub record Along (w : Walk) : Type 0 where
  pub meets : Meets w.walked w.tested
  pub steps : LeadOn w.walked.section w.walked.extent w.steps
  pub first : w.first.0 ≡ place_by w.walked

-- a walk that stands at a position of its share, or at the end
pub record Standing (p : Places) : Type 0 where
  pub meets : Meets p.walk.walked p.walk.tested
  pub steps : LeadOn p.walk.walked.section p.walk.walked.extent p.walk.steps
  pub inside : p.at.0 ≤ p.walk.walked.section.count
  pub mine : p.at.0 < p.walk.walked.section.count → owned_by p.walk.walked p.at.0 ≡ true

-- the positions of the pair from there on
abbrev pub ahead : Places → List ℕ
ahead p =
    passing (λ t. owned_by p.walk.walked t && owned_by p.walk.tested t) p.at.0
    (p.walk.walked.section.count - p.at.0)

-- the first n of a list are positions of a share, and another list has room for their addresses
pub record Addressable (s : Share) (positions : List ℕ) (n : ℕ) (list : List ℕ) : Type 0 where
  pub accepted : Accepted s
  pub there : n ≤ length positions
  pub room : n ≤ length list
  pub below : (i : ℕ) → i < n → get_or positions i 0 < s.section.count
  pub owned : (i : ℕ) → i < n → owned_by s (get_or positions i 0) ≡ true
