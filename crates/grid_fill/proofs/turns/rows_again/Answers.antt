-- `rows_again` meets its contract.
use Prim.Native.Nat.{ℕ, ◌*◌, ◌/◌, ◌≤◌, ◌-◌}
use native.Mathlib.Nat.{le_trans, mul-le-mul_right, div-mul-le_self}
use native.Mathlib.Omega.{arith}
use Rattle.grid_fill.proofs.turns.rows_again.Goals as goal

-- r whole parts of e fit into n
parts : (r e n : ℕ) → r ≤ n / e → r * e ≤ n
parts r e n h = le_trans (mul-le-mul_right e h) (div-mul-le_self n e)

pub returns : goal.returns
returns c =
    let r = c.min.result in
    let by-room : r ≤ c.args.room / c.args.w.entries = omega arith in
    let by-tries : r ≤ (c.args.quota - 2) / c.args.w.tries = omega arith in (
      omega arith,
      parts r c.args.w.entries c.args.room by-room,
      λ h. (c.if-not-enters.false, omega arith, omega (arith, parts r c.args.w.tries (c.args.quota - 2) by-tries)),
    )
