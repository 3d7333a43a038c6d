-- The elements of one dimension's share, one after another. Definitions only.
use Rattle.std.specs.Prelude.{ℕ, ◌<◌, ◌≡◌, true}
use Rattle.model.specs.Mappings.{Section}
use Rattle.model.specs.Questions.{first_no, of_section}
use Rattle.model.specs.Axes.{axis_of, walk_on}
use Rattle.section.specs.declared.shares.Share.{Share}
use Rattle.section.specs.Shares.{share_of, owned_by, Accepted}
use Rattle.fill.specs.declared.ready.Start.{Start}
use Rattle.grid_fill.specs.declared.steps.Step.{Step}

-- a fill of the share from place t
abbrev pub from_place : Share → ℕ → ℕ → Start
from_place s t quota = record { section = s.section; processor = s.processor; extent = s.extent; place = record { 0 = t }; quota = quota }

-- t is a place of the share, which is one of an accepted section
pub record Placed (s : Share) (t : ℕ) : Type 0 where
  pub accepted : Accepted s
  pub below : t < s.section.count
  pub owned : owned_by s t ≡ true

-- what stands at place t, and the place after it, whatever accepted section the share is one of
abbrev pub Stepped : Share → ℕ → Step → Type 0
Stepped s t r =
    (x : Section) → first_no (of_section x) ≡ 0 → s ≡ share_of x s.processor
    → (r.address.0 ≡ (walk_on (axis_of x)).address t) × (r.next.0 ≡ (walk_on (axis_of x)).next t)
