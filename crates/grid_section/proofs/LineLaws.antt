-- The sections of a grid's dimensions as a call passes them, and what a yes to every question says of them.
use Prim.Native.Nat.{ℕ, ◌-◌, ◌*◌, ◌≤◌, ◌<◌}
use mathlib.Core.Path.{◌≡◌, refl, sym, subst}
use mathlib.Core.Bool.{Bool, true, false, cond}
use mathlib.Core.List.{List}
use native.Mathlib.Nat.{le-mul_of_pos_right, mul-le-mul}
use native.Mathlib.Decide.{dec_lt}
use native.Mathlib.Omega.{arith}
use lib.IntN.{pos}
use lib.Signed.{le_z}
use Rattle.model.specs.declared.Section as sections
use Rattle.model.specs.declared.three.Ranked.{Ranked}
use Rattle.model.specs.Mappings.{Section, section_with}
use Rattle.model.specs.Sections.{layout}
use Rattle.model.specs.Questions.{first_no, of_section}
use Rattle.model.specs.declared.three.Three.{Three}
use Rattle.model.specs.Grids.{GridSection, single_section, sections_of, mappings_in, grid_section_with, grid_array, of_grid_section}
use Rattle.model.proofs.GridAccepted.{InLimits, first-yes, second-yes, third-yes, section-limits}
use Rattle.section.specs.declared.questions.Strided.{Strided}
use Rattle.section.specs.Strides.{strided_of, Bounded}
use Rattle.section.proofs.StridedSections.{bounded}
use Rattle.grid.specs.Ranks.{single_parts}
use Rattle.grid_section.specs.Lines.{sections_to, lines_with, Limited}

-- ---- accepted sections of three dimensions

pub record Accepted (s : Three Section) : Type 0 where
  pub first : first_no (of_section s.first) ≡ 0
  pub second : first_no (of_section s.second) ≡ 0
  pub third : first_no (of_section s.third) ≡ 0
  pub limits : InLimits (mappings_in s)

pub accepted : (x : GridSection) → first_no (of_grid_section x) ≡ 0 → Accepted (sections_of x)
accepted x ok = record { first = first-yes x ok; second = second-yes x ok; third = third-yes x ok; limits = section-limits x ok }

-- a section has no more elements than its array
pub count-le : (w : Strided) → Bounded w → w.count ≤ w.layout.size
count-le w b = elim (dec_lt 0 w.count) [
  | yes h ↦ go w.upward refl h
  | no h ↦ omega arith
]
  where
    go : (up : Bool) → w.upward ≡ up → 0 < w.count → w.count ≤ w.layout.size
    go true e h = omega (arith, le-mul_of_pos_right (w.count - 1) b.stride-pos, b.rises e h)
    go false e h = omega (arith, le-mul_of_pos_right (w.count - 1) b.stride-pos, b.falls e h, b.first-inside h)

-- so the positions are in range where the elements are
pub positions-low : (s : Three Section) → Accepted s
    → (strided_of s.first).count * ((strided_of s.second).count * (strided_of s.third).count) ≤ 2147483647
unfolding grid_array strided_of layout
positions-low s y =
    let a = count-le _ (bounded s.first y.first) in
    let b = count-le _ (bounded s.second y.second) in
    let c = count-le _ (bounded s.third y.third) in
    omega (arith, mul-le-mul a (mul-le-mul b c), y.limits.size)

-- ---- as a call passes them

-- one element stands for a dimension past the rank
past : (up : Bool) (x : sections.Section) (sizes : List ℕ) → section_with (cond up x single_parts) sizes ≡ cond up (section_with x sizes) single_section
past true x sizes = refl
past false x sizes = refl

module _ (x : Ranked sections.Section) (b c d : List ℕ) where
  abbrev pub sections_with : Three Section
  sections_with = record {
    first = section_with x.dimensions.first b;
    second = section_with (sections_to x).second c;
    third = section_with (sections_to x).third d;
  }

  pub sections-with : sections_with ≡ sections_of (grid_section_with x b c d)
  unfolding sections_of
  sections-with =
      λ i. record {
        first = section_with x.dimensions.first b;
        second = past (le_z (pos 2) x.rank) x.dimensions.second c i;
        third = past (le_z (pos 3) x.rank) x.dimensions.third d i;
      }

  -- accepted ones have every bound
  pub limited : first_no (of_grid_section (grid_section_with x b c d)) ≡ 0 → Limited (lines_with x b c d)
  unfolding grid_array strided_of layout
  limited ok =
      let y : Accepted sections_with = subst Accepted (sym sections-with) (accepted (grid_section_with x b c d) ok) in
      record {
        first = bounded sections_with.first y.first;
        second = bounded sections_with.second y.second;
        third = bounded sections_with.third y.third;
        processors = y.limits.processors;
        positions = positions-low sections_with y;
      }
