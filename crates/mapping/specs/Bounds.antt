-- What the functions of questions.rt ask of the numbers in range, and those of dealing.rt of an accepted layout, a processor,
-- and an index or an address. Definitions only.
use Rattle.std.specs.Prelude.{ℕ, ◌≤◌, ◌<◌, ◌≡◌, false, ℤ, pos, nat_abs, ◌+ℤ◌, ◌-ℤ◌}
use Rattle.std.specs.Int.Signed.{lt_z}
use Rattle.model.specs.declared.Layout.{Layout}
use Rattle.model.specs.Ownership.{owner_of, held}
use Rattle.model.specs.Sized.{Sized}
use Rattle.model.specs.Questions.{most_stride}

-- an alignment and an index in range, so that the cell fits 64 bits
pub record Aligned (a b o j : ℤ) : Type 0 where
  pub stride : nat_abs a ≤ most_stride
  pub offset : nat_abs b ≤ 2147483647
  pub origin : nat_abs o ≤ 2147483647
  pub index : nat_abs j ≤ 2147483647

-- an alignment, and the first and the last index of an array of n elements
pub record Reached (a b n lower origin : ℤ) : Type 0 where
  pub first : Aligned a b origin lower
  pub size : nat_abs n ≤ 2147483647
  pub last : lt_z n (pos 1) ≡ false → nat_abs (lower +ℤ n -ℤ pos 1) ≤ 2147483647

-- q is a processor of the layout
pub record Dealt (l : Layout) (q : ℕ) : Type 0 where
  pub sized : Sized l
  pub processor : q < l.processors

-- and i an index, or the number of elements
pub record Below (l : Layout) (q i : ℕ) : Type 0 where
  pub dealt : Dealt l q
  pub index : i ≤ l.size

-- and x a local address of it
pub record Stored (l : Layout) (q x : ℕ) : Type 0 where
  pub dealt : Dealt l q
  pub address : x < held (owner_of l) l.size q

-- the cells of the elements below i, each moved on by d blocks: by a course at most
pub record Moved (l : Layout) (i d : ℕ) : Type 0 where
  pub sized : Sized l
  pub index : i ≤ l.size
  pub blocks : d ≤ l.processors
