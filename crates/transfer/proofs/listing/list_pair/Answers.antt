-- `list_pair` meets its contract: a list is too short, or all are written in rising order.
use Prim.Native.Nat.{ℕ, ◌≤◌}
use mathlib.Core.Path.{◌≡◌, ap, ◌∙◌}
use mathlib.Core.List.{List}
use mathlib.Core.Logic.{inl}
use native.Mathlib.Omega.{arith}
use lib.ListN.{length}
use Rattle.std.proofs.lemmas.Iterator.Consumers.{YieldsList-from_first, count_from_yields_List}
use Rattle.model.specs.declared.Position.{Position}
use Rattle.model.specs.Transfers.{Lists, fronted}
use Rattle.transfer.specs.Walks.{ahead}
use Rattle.transfer.specs.Answers.{lists_of, rising}
use Rattle.transfer.proofs.AlongLaws.{places-high}
use Rattle.transfer.proofs.ListingLaws.{room-yes, of_either, all_listed}
use Rattle.transfer.proofs.listing.list_pair.Goals as goal
use Rattle.transfer.proofs.listing.list_pair.Goals.{Start, After-count-n, After-write_positions}

-- the lists that are lent
abbrev lists : (c : Start) → Lists
lists c = lists_of c.args.positions.now c.args.sent.now c.args.received.now

counted : (c : After-count-n) → c.count-n.result ≡ length (rising c.args.p)
counted c =
    count_from_yields_List c.places_of.result _ c.count-n.ensures.ran
    (YieldsList-from_first (λ (t : Position). t.0) ahead _ (c.places_of.ensures.1 ∙ c.walk_of-w.ensures.1))

pub count-n-requires-clause-fits : goal.count-n-requires-clause-fits
count-n-requires-clause-fits c = inl (omega (arith, ap length c.places_of.ensures.1, places-high _ _ c.walk_of-w.ensures.0.meets))

wrote : (c : After-write_positions) → c.write_positions.new.list ≡ fronted (rising c.args.p) c.args.positions.now
wrote c =
    c.write_positions.ensures
    ∙ ap (λ (ts : List ℕ). fronted ts c.args.positions.now) c.walk_of-w.ensures.1

-- each list has room
room-1 : (c : After-write_positions) → c.count-n.result ≤ length c.args.positions.now
room-1 c = c.if-positions-n.false

room-2 : (c : After-write_positions) → c.count-n.result ≤ length c.args.sent.now
room-2 c = c.if-sent-n.false

room-3 : (c : After-write_positions) → c.count-n.result ≤ length c.args.received.now
room-3 c = c.if-received-n.false

pub write_addresses-requires : goal.write_addresses-requires
write_addresses-requires c =
    let s = goal.at.write_addresses-requires c in
    search (of_either c.args.p (counted s.After-count-n) (lists s.Start) _ (wrote s.After-write_positions) c.requires (room-1 s.After-write_positions) c.args.sent.now (room-2 s.After-write_positions))

pub write_addresses-requires-2 : goal.write_addresses-requires-2
write_addresses-requires-2 c =
    let s = goal.at.write_addresses-requires-2 c in
    search (of_either c.args.p (counted s.After-count-n) (lists s.Start) _ (wrote s.After-write_positions) c.requires (room-1 s.After-write_positions) c.args.received.now (room-3 s.After-write_positions))

pub returns-clause-received_after : goal.returns-clause-received_after
returns-clause-received_after c =
    let s = goal.at.returns-clause-received_after c in
    all_listed _ (counted s.After-count-n) (lists s.Start) _ (wrote s.After-write_positions) _ _ c.write_addresses.ensures c.write_addresses-2.ensures
    (room-yes _ (lists s.Start) (room-1 s.After-write_positions) (room-2 s.After-write_positions) (room-3 s.After-write_positions))
