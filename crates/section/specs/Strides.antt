-- A section that passed its questions, on natural numbers. Definitions only.
use Rattle.std.specs.Prelude.{ℕ, ◌+◌, ◌-◌, ◌*◌, ◌^◌, ◌≤◌, ◌<◌, ◌≡◌, Bool, true, false, ◌&&◌, ◌||◌, eqb, ℤ, pos, nat_abs, ◌+ℤ◌, ◌-ℤ◌, ◌*ℤ◌}
use Rattle.numbers.specs.Search.{passing, head_or}
use Rattle.model.specs.Mappings.{Section}
use Rattle.model.specs.declared.Steps.{Steps}
use Rattle.model.specs.Ownership.{cell_of, course_cells, owner_of, owns}
use Rattle.model.specs.Sections.{layout, count, index}
use Rattle.model.specs.Steps.{upward, steps_by}
use Rattle.model.specs.Sized.{Sized}
use Rattle.model.specs.Questions.{is_below}
use Rattle.section.specs.declared.questions.Strided.{Strided}

-- question 7, of an array of n elements from lower on and a section of c, from l by s
abbrev pub ends_in : ℕ → ℤ → ℤ → ℤ → ℕ → Bool
ends_in n lower l s c = eqb c 0 || (is_below (pos n) (l -ℤ lower) && is_below (pos n) (l +ℤ pos (c - 1) *ℤ s -ℤ lower))

-- a section as its count, its first index, the size of s and the walking direction
unfoldable pub strided_of : Section → Strided
strided_of x = record {
  layout = layout x;
  count = count x;
  first = record { 0 = index x 0 };
  stride = nat_abs x.triplet.stride;
  upward = upward x;
}

-- what a yes to questions 1 to 7 says of a section's numbers
pub record Bounded (w : Strided) : Type 0 where
  pub sized : Sized w.layout
  pub stride-pos : 0 < w.stride
  pub stride-high : w.stride ≤ 2147483647
  pub count-high : w.count ≤ 2147483647
  -- the first and the last element are the array's
  pub first-inside : 0 < w.count → w.first.0 < w.layout.size
  pub rises : w.upward ≡ true → 0 < w.count → w.first.0 + (w.count - 1) * w.stride < w.layout.size
  pub falls : w.upward ≡ false → 0 < w.count → (w.count - 1) * w.stride ≤ w.first.0
  -- of one element alone too
  pub spread-fits : w.layout.stride * w.stride < 2 ^ 43
  -- two elements lie in the template, so that their distance does
  pub spread-high : 2 ≤ w.count → w.layout.stride * w.stride < 2147483648

-- n above x, or below it
abbrev pub moved : Bool → ℕ → ℕ → ℕ
moved true x n = x + n
moved false x n = x - n

-- the index and the cell of the element at position t
unfoldable pub index_at : Strided → ℕ → ℕ
index_at w t = moved w.upward w.first.0 (t * w.stride)

unfoldable pub cell_at : Strided → ℕ → ℕ
cell_at w t = cell_of w.layout (index_at w t)

-- does processor q own the element at position t?
unfoldable pub owned_at : Strided → ℕ → ℕ → Bool
owned_at w q t = owns (owner_of w.layout) q (index_at w t)

-- the lowest position whose element processor q owns, or the count if none
unfoldable pub place_in : Strided → ℕ → ℕ
place_in w q = head_or w.count (passing (owned_at w q) 0 w.count)

-- its steps
abbrev pub steps_in : Strided → Steps
steps_in w = steps_by w.count (course_cells w.layout) w.layout.block (w.layout.stride * w.stride)
