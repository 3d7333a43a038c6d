-- Document 02, A4: the count by the cases of the Fortran text, on natural numbers.
use Rattle.std.specs.Prelude.{ℕ, ◌+◌, ◌/◌, ◌≤◌, ◌<◌, ◌≡◌, ◌&&◌, cond, pos, nat_abs, ◌-ℤ◌}
use Rattle.std.specs.Int.Signed.{le_z, lt_z}
use Rattle.model.specs.declared.Triplet.{Triplet}
use Rattle.model.specs.declared.Case.{Case}
use Rattle.model.specs.declared.Case.TheVariants.{Forward, Backward, Empty}
use Rattle.model.specs.Sections.{count_of}

-- "forward": s is above 0, and l not above h; "backward": s is below 0, and l not below h; "empty": any other.
-- With the distance from l to h, and the size of s
unfoldable pub case_of : Triplet → Case
case_of x =
    cond (lt_z (pos 0) x.stride && le_z x.lower x.upper) (Forward (nat_abs (x.upper -ℤ x.lower)) (nat_abs x.stride))
    (cond (lt_z x.stride (pos 0) && le_z x.upper x.lower) (Backward (nat_abs (x.lower -ℤ x.upper)) (nat_abs x.stride))
    Empty)

-- how many elements a case has: l itself, and one for each stride within the distance
abbrev pub elements_in : Case → ℕ
elements_in (Forward d s) = d / s + 1
elements_in (Backward d s) = d / s + 1
elements_in Empty = 0

-- what it divides by is not 0, and the quotient fits
abbrev pub Divides : Case → Type 0
Divides (Forward d s) = (0 < s) × (d ≤ 4294967294)
Divides (Backward d s) = (0 < s) × (d ≤ 4294967294)
Divides Empty = Unit {0}

-- the law, of a triplet that passes question 6
pub record ByCases (x : Triplet) : Type 0 where
  -- "these cases are 01's count for all l, h and s that pass 6"
  pub counted : elements_in (case_of x) ≡ count_of x
  -- "none with a negative dividend or divisor"
  pub divides : Divides (case_of x)
