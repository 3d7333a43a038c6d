-- `write_positions` meets its contract: each position fits 32 bits, and is what is written next.
use Prim.Native.Nat.{◌+◌, ◌<◌, ◌^◌}
use mathlib.Core.Path.{◌≡◌, sym, ap, ◌∙◌}
use mathlib.Core.Logic.{inl}
use native.Mathlib.Omega.{arith}
use lib.ListN.{length}
use Rattle.std.specs.Iterator.Adapters.{enumerate_source, enumerate_count}
use Rattle.transfer.specs.Walks.{ahead}
use Rattle.transfer.proofs.FrontLaws.{starts, same_rest, writes, ends}
use Rattle.transfer.proofs.AlongLaws.{places-high, next-low}
use Rattle.transfer.proofs.listing.write_positions.Goals as goal

pub loop-i-init : goal.loop-i-init
loop-i-init c =
    let p = c.places_of.ensures in
    let it = c.into_iter-i-iterator.ensures.into_iter_gives in
    let source : enumerate_source c.into_iter-i-iterator.result ≡ c.places_of.result = ap enumerate_source it ∙ c.enumerate-i-items.ensures.source in
    let none : enumerate_count c.into_iter-i-iterator.result ≡ 0 = ap enumerate_count it ∙ c.enumerate-i-items.ensures.count in
    let few : 0 + length (ahead c.places_of.result) < 2 ^ 64 = omega (arith, ap length p.1, places-high _ _ c.requires.0.meets) in
    rw (source, none) ((p.0, tt, inl few), tt, same_rest (sym p.1) (starts _ c.args.list.now c.requires.1))

pub overflow_cast-list : goal.overflow_cast-list
overflow_cast-list c = omega (arith, next-low _ c.loop-i.invariant.0.0 c.in-Some.ensures.steps.0)

pub bounds-list-i : goal.bounds-list-i
bounds-list-i c = omega (arith, (same_rest c.in-Some.ensures.steps.0 c.loop-i.invariant.2).room, c.in-Some.ensures.steps.1)

pub loop-i-preserved : goal.loop-i-preserved
loop-i-preserved c =
    let turn = c.in-Some.ensures in
    let on = turn.goes.on c.loop-i.invariant.1 in
    (on.0, on.1, rw (turn.steps.1, turn.steps.2) (writes (same_rest turn.steps.0 c.loop-i.invariant.2)))

pub returns : goal.returns
returns c = ends (same_rest c.in-None.ensures.steps.0.0 c.loop-i.invariant.2)
