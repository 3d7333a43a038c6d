-- `copy_turn` meets its contract.
use Prim.Native.Nat.{ℕ, ◌*◌, ◌/◌, ◌≤◌}
use mathlib.Core.Path.{◌≡◌, refl, sym, subst}
use mathlib.Core.List.{List}
use native.Mathlib.Omega.{arith}
use lib.ListN.{length, take}
use lib.Seq.{length-take-le}
use Rattle.grid_fill.specs.Turns.{Copying, Copied}
use Rattle.grid_fill.proofs.turns.copy_turn.Goals as goal

-- the rows of the list's front
short : (l : List ℕ) (count : ℕ) → length l ≡ 256 → count ≤ 64 → count ≡ length (take (4 * count) l) / 4
short l count e h = omega (arith, length-take-le (4 * count) l (omega arith))

pub slice_bounds-copy_rows-end : goal.slice_bounds-copy_rows-end
slice_bounds-copy_rows-end c = sym (length-take-le _ _ (omega (arith, c.requires.copying.most)))

pub copy_rows-requires : goal.copy_rows-requires
copy_rows-requires c = record { begun = c.requires.begun; copying = subst (λ (k : ℕ). Copying c.args.p c.args.at c.args.w k (length c.args.list.now) c.args.n) (short _ c.args.count refl c.requires.copying.most) c.requires.copying }

pub returns : goal.returns
returns c =
    subst (λ (k : ℕ). Copied c.args.p c.args.at c.args.w k c.args.n c.args.list.now c.copy_rows.new.list c.copy_rows.result)
    (sym (short _ c.args.count refl c.requires.copying.most)) c.copy_rows.ensures
