-- An accepted section of a grid: the element at each position is one of the array, and the walk leads through each processor's
-- list.
use Prim.Native.Nat.{ℕ, ◌<◌}
use mathlib.Core.Path.{◌≡◌}
use native.Mathlib.Omega.{arith}
use Rattle.model.specs.Mappings.{Section}
use Rattle.model.specs.Sections.{layout, index}
use Rattle.model.specs.Questions.{first_no, of_section}
use Rattle.model.specs.Axes.{Axis, axis_of, rows}
use Rattle.model.specs.Grids.{GridSection, sections_of, grid_array, grid_axis, of_grid_section}
use Rattle.model.proofs.AcceptedLaws.{mapping-yes}
use Rattle.model.proofs.SectionLaws.{index-lt}
use Rattle.model.proofs.Demand2Holds.{owner-lt}
use Rattle.model.proofs.AxisLaws.{WalksOn}
use Rattle.model.proofs.RowLaws.{Sound, rows-sound, rows-walk}
use Rattle.model.proofs.Walking.{walks-on}
use Rattle.model.proofs.GridAccepted.{first-yes, second-yes, third-yes, section-limits}

pub section-sound : (x : Section) → first_no (of_section x) ≡ 0 → Sound (axis_of x)
unfolding layout
section-sound x ok = record {
  owners = λ t h. owner-lt x.mapping (mapping-yes x ok) (index x t) (index-lt x ok t h);
  elements = index-lt x ok;
}

module _ (x : GridSection) (ok : first_no (of_grid_section x) ≡ 0) where
  first-axis : Axis
  first-axis = axis_of (sections_of x).first

  first-sound : Sound first-axis
  unfolding first-axis
  first-sound = section-sound (sections_of x).first (first-yes x ok)

  -- the rows of the second dimension and the third
  other-axes : Axis
  other-axes = rows (axis_of (sections_of x).second) (axis_of (sections_of x).third)

  pub grid-sound : Sound (grid_axis (sections_of x))
  unfolding grid_axis first-axis other-axes
  grid-sound =
      rows-sound first-axis other-axes first-sound
      (rows-sound _ _ (section-sound (sections_of x).second (second-yes x ok)) (section-sound (sections_of x).third (third-yes x ok)))

  pub grid-walks : WalksOn (grid_axis (sections_of x))
  unfolding grid_axis first-axis other-axes
  grid-walks = rows-walk first-axis other-axes first-sound (walks-on (sections_of x).first (first-yes x ok))

  pub element-low : (t : ℕ) → t < (grid_axis (sections_of x)).count → (grid_axis (sections_of x)).element t < 2147483648
  unfolding grid_axis grid_array
  element-low t h = omega (arith, grid-sound.elements t h, (section-limits x ok).size)
