-- What is left of a processor's list from a place on, and what a fill takes of it. Definitions only.
use Rattle.std.specs.Prelude.{ℕ, ◌-◌, ◌≤◌, ◌<◌, ◌≡◌, List, [], map, length, take, drop}
use Rattle.numbers.specs.Search.{passing, head_or, sum}
use Rattle.model.specs.Mappings.{Section, section_with}
use Rattle.model.specs.Sections.{layout, count, address, owns_at, places}
use Rattle.model.specs.Steps.{cost}
use Rattle.model.specs.Questions.{first_no, of_section}
use Rattle.section.specs.Strides.{strided_of}
use Rattle.print.specs.declared.fills.Listed.{Listed}
use Rattle.print.specs.declared.fills.Rest.{Rest}
use Rattle.print.specs.declared.fills.Gone.{Gone}

-- the section that is listed; beside a sheet's section stands no list of sizes
abbrev pub listed : Listed → Section
listed x = section_with x.section []

-- a section that passed its questions, twice: as the sheet has it, and on natural numbers
pub record Fair (x : Listed) : Type 0 where
  pub accepted : first_no (of_section (listed x)) ≡ 0
  pub same : x.strided ≡ strided_of (listed x)

-- and one of its processors
pub record Owner (x : Listed) (q : ℕ) : Type 0 where
  pub fair : Fair x
  pub processor : q < (layout (listed x)).processors

-- the positions from t on whose elements processor q owns
unfoldable pub ahead : Section → ℕ → ℕ → List ℕ
ahead x q t = passing (owns_at x q) t (count x - t)

abbrev pub rest_of : Section → ℕ → Rest → List ℕ
rest_of x q r = ahead x q r.place.0

-- "after its first i elements the place is the position of the next one, or the count if there is none"; so many are left
pub record StandsIn (x : Section) (q : ℕ) (r : Rest) : Type 0 where
  pub passed : ℕ
  pub place : r.place.0 ≡ head_or (count x) (drop passed (places x q))
  pub left : r.left ≡ length (drop passed (places x q))

-- a fill took the first elements of what was ahead: their addresses stand in the list, in section order, their costs are its
-- tries, and the rest is left. It takes one at least, if there is one and the list has an entry.
pub record Went (x : Section) (q : ℕ) (r : Rest) (before list : List ℕ) (g : Gone) : Type 0 where
  pub same : length list ≡ length before
  pub few : g.entries ≤ length list
  pub addresses : take g.entries list ≡ map (address x) (take g.entries (rest_of x q r))
  pub tries : g.tries ≡ sum (map (cost x) (take g.entries (rest_of x q r)))
  pub rest : rest_of x q g.rest ≡ drop g.entries (rest_of x q r)
  pub stands : StandsIn x q g.rest
  pub some : 0 < r.left → 0 < length before → 0 < g.entries
