-- `addresses` meets its contract. The text of the addresses passed stands at the front.
use Prim.Native.Nat.{ℕ, ◌^◌, ◌<◌, ◌≤◌}
use mathlib.Core.Path.{◌≡◌}
use mathlib.Core.List.{List}
use native.Mathlib.Omega.{arith}
use lib.ListN.{length, get_or, take}
use lib.Seq.{length-take-le}
use mir.Syntax.{w32}
use mir.Val.{Fits}
use Rattle.std.proofs.lemmas.List.{get_or-take, take_all}
use Rattle.print.proofs.PutLaws.{put-length}
use Rattle.print.proofs.LineLaws.{no-numbers, one_more, word-digits}
use Rattle.print.proofs.lines.addresses.Goals as goal

-- an address among the first n of a list of words
low : (l : List ℕ) (n i a : ℕ) → n ≤ length l → ((k : ℕ) → Fits w32 (get_or l k 0)) → i < length (take n l)
    → a ≡ get_or (take n l) i 0 → (a < 2 ^ 32) × (i < n)
low l n i a h f k e =
    let inside : i < n = omega (arith, length-take-le n l h) in
    (rw (e, get_or-take n l i 0 inside) (omega (arith, f i)), inside)

pub loop-address-init : goal.loop-address-init
loop-address-init c = (omega arith, no-numbers _)

pub put_next-at-requires : goal.put_next-at-requires
put_next-at-requires c =
    let w = low c.args.list.now c.args.n _ _ c.requires.0 c.type_inv.list c.loop-address-test.true c.from.ensures in
    omega (arith, c.requires.1, w.1, c.loop-address.invariant.0, put-length c.loop-address.invariant.1, word-digits _ w.0)

pub loop-address-preserved : goal.loop-address-preserved
loop-address-preserved c =
    let w = low c.args.list.now c.args.n _ _ c.requires.0 c.type_inv.list c.loop-address-test.true c.from.ensures in (
      omega (arith, c.loop-address.invariant.0, c.put_next-at.ensures.ends, word-digits _ w.0),
      one_more (take c.args.n c.args.list.now) c.loop-address.address-index c.loop-address-test.true c.loop-address.invariant.1
          (rw c.from.ensures at c.put_next-at.ensures),
    )

pub returns : goal.returns
returns c =
    let len = length-take-le c.args.n c.args.list.now c.requires.0 in
    let all = take_all c.loop-address.address-index (take c.args.n c.args.list.now) c.loop-address-test.false in
    (omega (arith, c.loop-address.invariant.0, len, c.loop-address.auto.address-index-end), rw all at c.loop-address.invariant.1)
