-- The period of a section's walk on a cyclic template: P positions on, owners and costs come again, and a processor's addresses
-- have moved by A. Definitions only.
use Rattle.std.specs.Prelude.{ℕ, ◌+◌, ◌*◌, ◌/◌, ◌≤◌, ◌<◌, ◌≡◌, true, false, List, map, nat_abs, length}
use Rattle.numbers.specs.Search.{passing, sum}
use Rattle.numbers.specs.Gcd.{gcd}
use Rattle.model.specs.Mappings.{Section}
use Rattle.model.specs.Ownership.{course_cells, owner, held}
use Rattle.model.specs.Sections.{layout, count, address, owns_at}
use Rattle.model.specs.Steps.{spread, upward, cost, next_place}

-- P, the positions of a period: pk / d, where d = gcd(pk, a·|s|)
unfoldable pub period : Section → ℕ
period x = course_cells (layout x) / gcd (spread x) (course_cells (layout x))

-- A, the addresses of a period: how many elements of the array processor q has in as many as a period spans, P·|s|
unfoldable pub period_addresses : Section → ℕ → ℕ
period_addresses x q = held (owner x.mapping) (period x * nat_abs x.triplet.stride) q

-- the positions from t up to t + P whose elements processor q owns
abbrev pub period_places : Section → ℕ → ℕ → List ℕ
period_places x q t = passing (owns_at x q) t (period x)

-- E, the elements of a period: how many these are
unfoldable pub period_elements : Section → ℕ → ℕ → ℕ
period_elements x q t = length (period_places x q t)

-- C, the tries of a period: the sum of their costs
unfoldable pub period_tries : Section → ℕ → ℕ → ℕ
period_tries x q t = sum (map (cost x) (period_places x q t))

-- The walk of processor q through a section repeats, as far as the section has positions.
pub record Repeating (x : Section) (q : ℕ) : Type 0 where
  -- the processor owns the position a period on if it owns this one, and only then
  pub owned : (t : ℕ) → t + period x < count x → owns_at x q (t + period x) ≡ owns_at x q t
  -- from a position of its own the address rises by A over a period; with s negative it falls by A
  pub rises :
      upward x ≡ true → (t : ℕ) → t + period x < count x → owns_at x q t ≡ true
      → address x (t + period x) ≡ address x t + period_addresses x q
  pub falls :
      upward x ≡ false → (t : ℕ) → t + period x < count x → owns_at x q t ≡ true
      → address x t ≡ address x (t + period x) + period_addresses x q
  -- going on takes as many tries
  pub costs : (t : ℕ) → t + period x < count x → cost x (t + period x) ≡ cost x t
  -- and leads as far, if there is a position
  pub next : (t : ℕ) → t + period x < count x → next_place x t + period x < count x → next_place x (t + period x) ≡ next_place x t + period x
  -- from any position a period has as many of the processor's elements, and they cost as many tries
  pub elements : (t : ℕ) → t + period x ≤ count x → period_elements x q t ≡ period_elements x q 0
  pub tries : (t : ℕ) → t + period x ≤ count x → period_tries x q t ≡ period_tries x q 0
