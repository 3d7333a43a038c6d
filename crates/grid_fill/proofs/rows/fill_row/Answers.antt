-- `fill_row` meets its contract: the fill of the dimension, and each address put as much higher as the row lies.
use mathlib.Core.Logic.{inl}
use mathlib.Core.Path.{refl}
use native.Mathlib.Omega.{arith}
use Rattle.grid_fill.proofs.ShareFills.{place-accepted, row_room, row-filled}
use Rattle.grid_fill.proofs.rows.fill_row.Goals as goal

pub fill_bytes_by-r-requires : goal.fill_bytes_by-r-requires
fill_bytes_by-r-requires c = (place-accepted c.args.s c.args.t.0 c.args.quota c.requires.placed.0 c.requires.le_quota.0 c.requires.le_quota.1, c.requires.placed.1)

pub put_higher-requires : goal.put_higher-requires
put_higher-requires c = (
  omega (arith, (row_room c.args.s c.args.t.0 c.args.base c.args.quota c.requires.placed.0 c.requires.le_quota.2 _ _ _ c.fill_bytes_by-r.ensures).0),
  inl refl,
  omega (arith, c.requires.le_quota.2),
)

pub returns : goal.returns
returns c = row-filled c.args.s c.args.t.0 c.args.base c.args.quota c.requires.placed.0 c.requires.le_quota.2 _ _ _ _ c.fill_bytes_by-r.ensures c.put_higher.ensures
