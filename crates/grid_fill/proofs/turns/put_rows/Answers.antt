-- `put_rows` meets its contract.
use Prim.Native.Nat.{ℕ, suc, ◌+◌, ◌-◌, ◌*◌, ◌/◌, ◌%◌, ◌≤◌, ◌<◌}
use mathlib.Core.Path.{◌≡◌, refl, sym, ap, ◌∙◌}
use mathlib.Core.Logic.{inr}
use native.Mathlib.Nat.{mod-lt, mul-le-mul_right, suc-mul}
use native.Mathlib.Numerals.{add-one}
use native.Mathlib.Omega.{arith}
use lib.ListN.{length, take, drop}
use Rattle.numbers.specs.Words.{words_of}
use Rattle.model.specs.ByteFills.{store_entries}
use Rattle.grid_fill.specs.Entries.{higher}
use Rattle.grid_fill.specs.Turns.{base_at, put_rows}
use Rattle.grid_fill.proofs.TurnLaws.{small_product}
use Rattle.grid_fill.proofs.turns.put_rows.Goals as goal
use Rattle.grid_fill.proofs.turns.put_rows.Goals.{After-word_at, In-loop-j}

pub loop-j-init : goal.loop-j-init
unfolding put_rows
loop-j-init c = refl

-- ---- before a turn
-- there is room for one row more
room : (c : In-loop-j) → c.args.n + c.loop-j.j * c.args.w.entries + c.args.w.entries ≤ length c.loop-j.list / 4
room c =
    let more : suc c.loop-j.j * c.args.w.entries ≤ c.args.count * c.args.w.entries = mul-le-mul_right c.args.w.entries c.loop-j-test.true in
    rw c.loop-j.auto.list (omega (arith, more, suc-mul c.loop-j.j c.args.w.entries, c.requires.room))

pub word_at-requires : goal.word_at-requires
word_at-requires c = omega (arith, c.loop-j-test.true, c.requires.listed)

-- ---- the base of a row
abbrev base : (c : After-word_at) → ℕ
base c =
    c.args.elements * (c.word_at.result + c.args.rows * c.args.plane.0)

is : (c : After-word_at) → (base c) ≡ base_at c.args.elements c.args.rows c.args.plane.0 c.args.addresses.now c.loop-j.j
is c =
    ap (λ (z : ℕ). c.args.elements * (z + c.args.rows * c.args.plane.0)) c.word_at.ensures

low : (c : After-word_at) → (base c) < 2147483648
low c =
    omega (arith, (is c), c.requires.low c.loop-j.j c.loop-j-test.true)

product : (c : After-word_at) → c.args.rows * c.args.plane.0 ≤ 4611686014132420609
product c =
    small_product c.args.rows c.args.plane.0 c.requires.few-rows c.requires.plane-low

pub overflow_mul-base : goal.overflow_mul-base
overflow_mul-base c = omega (arith, product (goal.at.overflow_mul-base c).After-word_at)

pub overflow_add-base : goal.overflow_add-base
overflow_add-base c = omega (arith, product (goal.at.overflow_add-base c).After-word_at)

pub overflow_mul-base-in-loop-j : goal.overflow_mul-base-in-loop-j
overflow_mul-base-in-loop-j c = omega (arith, low (goal.at.overflow_mul-base-in-loop-j c).After-word_at)

pub overflow_sub-add : goal.overflow_sub-add
overflow_sub-add c = omega (arith, c.requires.base, low (goal.at.overflow_sub-add c).After-word_at)

pub overflow_add-add : goal.overflow_add-add
overflow_add-add c = omega (arith, c.requires.base, low (goal.at.overflow_add-add c).After-word_at)

pub overflow_mul-j : goal.overflow_mul-j
overflow_mul-j c = omega (arith, room (goal.at.overflow_mul-j c).In-loop-j, c.loop-j.auto.list)

pub overflow_add-n : goal.overflow_add-n
overflow_add-n c = omega (arith, room (goal.at.overflow_add-n c).In-loop-j, c.loop-j.auto.list)

pub put_higher-requires : goal.put_higher-requires
put_higher-requires c = (omega (arith, room (goal.at.put_higher-requires c).In-loop-j), inr (omega (arith, c.requires.before)), mod-lt _ (omega arith))

pub loop-j-preserved : goal.loop-j-preserved
unfolding put_rows
loop-j-preserved c =
    let bases = base_at c.args.elements c.args.rows c.args.plane.0 c.args.addresses.now in
    c.put_higher.ensures
    ∙ (λ k. store_entries (c.loop-j.invariant k) (c.args.n + c.loop-j.j * c.args.w.entries) (higher ((is (goal.at.loop-j-preserved c).After-word_at k + (4294967296 - c.args.w.base)) % 4294967296) (take c.args.w.entries (drop c.args.w.from (words_of 4 (c.loop-j.invariant k))))))
    ∙ ap (put_rows bases c.args.w c.args.list.now c.args.n) (sym (add-one c.loop-j.j))

pub returns : goal.returns
returns c =
    let e : c.loop-j.j ≡ c.args.count = omega (arith, c.loop-j-test.false) in
    rw (← e) c.loop-j.invariant
