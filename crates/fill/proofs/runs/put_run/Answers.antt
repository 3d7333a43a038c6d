-- `put_run` meets its contract. The invariant: storing what is left into the list as it is comes to the same.
use Prim.Native.Nat.{ℕ, suc, ◌+◌, ◌-◌, ◌%◌, ◌<◌}
use mathlib.Core.Path.{◌≡◌, sym, ap, ◌∙◌}
use mathlib.Core.List.{List}
use native.Mathlib.Nat.{mod-lt}
use native.Mathlib.Numerals.{add-one}
use native.Mathlib.Omega.{arith}
use Rattle.model.specs.ByteFills.{store_entry, store_entries}
use Rattle.fill.specs.RunFills.{addresses_from}
use Rattle.fill.proofs.runs.put_run.Goals as goal

-- one entry stored, and the rest after it
on : (l : List ℕ) (n i x d : ℕ) → i < n
    → store_entries (store_entry l i x) (i + 1) (addresses_from (n - (i + 1)) ((x + d) % 4294967296) d) ≡ store_entries l i (addresses_from (n - i) x d)
unfolding store_entries addresses_from
on l n i x d h =
    let left : n - i ≡ suc (n - (i + 1)) = omega arith in
    rw (left, add-one i)

pub loop-i-preserved : goal.loop-i-preserved
loop-i-preserved c = (
  mod-lt (c.loop-i.x + c.args.add) (omega arith),
  ap (λ (k : List ℕ). store_entries k (c.loop-i.i + 1) (addresses_from (c.args.n - (c.loop-i.i + 1)) ((c.loop-i.x + c.args.add) % 4294967296) c.args.add)) c.put_entry.ensures
      ∙ on c.loop-i.list c.args.n c.loop-i.i c.loop-i.x c.args.add c.loop-i-test.true ∙ c.loop-i.invariant.1,
)

pub returns : goal.returns
unfolding store_entries addresses_from
returns c =
    let none : c.args.n - c.loop-i.i ≡ 0 = omega (arith, c.loop-i-test.false) in
    sym (ap (λ (m : ℕ). store_entries c.loop-i.list c.loop-i.i (addresses_from m c.loop-i.x c.args.add)) none) ∙ c.loop-i.invariant.1
