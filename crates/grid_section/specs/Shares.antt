-- A grid processor's share of a section: the shares of its coordinates, on natural numbers. Definitions only.
use Rattle.std.specs.Prelude.{ℕ, ◌*◌, ◌/◌, ◌%◌, ◌≤◌, Bool, cond, ◌&&◌, ◌||◌, List, ltb, eqb, ℤ, pos}
use Rattle.std.specs.Int.Signed.{le_z}
use Rattle.model.specs.Mappings.{dealing_with, Section}
use Rattle.model.specs.Ownership.{nat, layout_of}
use Rattle.model.specs.Axes.{paired}
use Rattle.model.specs.declared.three.Three.{Three}
use Rattle.model.specs.Grids.{GridSection, sections_of}
use Rattle.mapping.specs.Parts.{part_in}
use Rattle.section.specs.declared.shares.Share.{Share}
use Rattle.section.specs.Shares.{share_in, share_of, owned_by, place_by, Fitted}
use Rattle.grid_section.specs.declared.lines.Line.{Line}

-- ---- the shares of grid processor q, whose first coordinate runs fastest

abbrev pub share_on : Line → List ℕ → ℕ → Share
share_on x sizes q = share_in x.section q (part_in (dealing_with x.dealing sizes) q)

abbrev pub shares_on : Three Line → List ℕ → List ℕ → List ℕ → ℕ → Three Share
shares_on x b c d q =
    let p : ℕ = x.first.section.layout.processors in
    let r : ℕ = x.second.section.layout.processors in
    record {
      first = share_on x.first b (q % p);
      second = share_on x.second c (q / p % r);
      third = share_on x.third d (q / p / r);
    }

-- of sections of three dimensions, and of a grid's
abbrev pub shares_in : Three Section → ℕ → Three Share
shares_in s q =
    let p : ℕ = (layout_of s.first.mapping).processors in
    let r : ℕ = (layout_of s.second.mapping).processors in
    record {
      first = share_of s.first (q % p);
      second = share_of s.second (q / p % r);
      third = share_of s.third (q / p / r);
    }

abbrev pub shares_of : GridSection → ℕ → Three Share
shares_of x q = shares_in (sections_of x) q

-- ---- what they have

-- how many positions the section has
abbrev pub positions_in : Three Share → ℕ
positions_in s = s.first.section.count * (s.second.section.count * s.third.section.count)

-- the first place: of each dimension the first, or the count where one has none
abbrev pub first_by : Three Share → ℕ
first_by s =
    let m : ℕ = s.first.section.count in
    let n : ℕ = s.second.section.count in
    let o : ℕ = s.third.section.count in
    let t : ℕ = place_by s.first in
    let u : ℕ = place_by s.second in
    let v : ℕ = place_by s.third in
    cond (ltb t m && ltb u n && ltb v o) (paired m t (paired n u v)) (positions_in s)

-- is the element at position t the processor's?
abbrev pub owned_on : Three Share → ℕ → Bool
owned_on s t =
    let m : ℕ = s.first.section.count in
    let n : ℕ = s.second.section.count in
    owned_by s.first (t % m) && owned_by s.second (t / m % n) && owned_by s.third (t / m / n)

-- 10
abbrev pub is_place_by : Three Share → ℤ → Bool
is_place_by s t = le_z (pos 0) t && (eqb (nat t) (positions_in s) || (ltb (nat t) (positions_in s) && owned_on s (nat t)))

-- ---- what is asked of them: sections in range, of each a processor, and positions in range
pub record AllFitted (s : Three Share) : Type 0 where
  pub first : Fitted s.first
  pub second : Fitted s.second
  pub third : Fitted s.third
  pub positions : positions_in s ≤ 2147483647
