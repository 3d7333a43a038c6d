-- `ready_in` meets its contract: each return rewrites by the answers on the way to it.
use Prim.Native.Nat.{ℕ, ◌<◌}
use mathlib.Core.Path.{◌≡◌, sym, ap, ◌∙◌, subst}
use mathlib.Core.Bool.{true}
use lib.IntN.{pos}
use mir.Syntax.{w64}
use Rattle.std.specs.Prelude.{Ok}
use Rattle.numbers.proofs.Signed.{read_of}
use Rattle.model.specs.Ownership.{nat}
use Rattle.model.specs.Questions.{first_no, between, is_below}
use Rattle.mapping.proofs.Signs.{answered, below-natural}
use Rattle.model.specs.declared.three.Three.{Three}
use Rattle.section.specs.declared.shares.Share.{Share}
use Rattle.grid_section.specs.Lines.{processors_on}
use Rattle.grid_section.specs.Shares.{shares_on, is_place_by, AllFitted}
use Rattle.grid_section.proofs.ShareLaws.{all-fitted}
use Rattle.grid_fill.specs.Ready.{held_in, ready_in}
use Rattle.grid_fill.proofs.ready.ready_in.Goals as goal
use Rattle.grid_fill.proofs.ready.ready_in.Goals.{After-is_place, After-natural, After-shares_of-shares, Else-not-is_place}

pub returns-then-not-is_processor : goal.returns-then-not-is_processor
unfolding ready_in first_no
returns-then-not-is_processor c = rw (answered (is_below (pos (processors_on c.args.x))) c.args.processor c.ranges.processor c.is_processor.ensures c.if-not-is_processor.true)

-- a processor of the grid
eighth : (c : After-natural) → is_below (pos (processors_on c.args.x)) c.args.processor ≡ true
eighth c =
    answered (is_below (pos (processors_on c.args.x))) c.args.processor c.ranges.processor
    c.is_processor.ensures
    c.if-not-is_processor.false

low : (c : After-natural) → c.natural.result < processors_on c.args.x
low c =
    below-natural c.args.processor (processors_on c.args.x) c.ranges.processor c.natural.ensures (eighth c)

pub shares_of-shares-requires : goal.shares_of-shares-requires
shares_of-shares-requires c = (c.requires.0, c.requires.1, low (goal.at.shares_of-shares-requires c).After-natural)

-- its shares
abbrev shares_at : (c : After-shares_of-shares) → ℕ → Three Share
shares_at c q =
    shares_on c.args.x c.args.sizes.first.now c.args.sizes.second.now c.args.sizes.third.now q

abbrev shares : (c : After-shares_of-shares) → Three Share
shares c =
    (shares_at c) (nat c.args.processor)

shares-are : (c : After-shares_of-shares) → c.shares_of-shares.result ≡ (shares c)
shares-are c =
    c.shares_of-shares.ensures ∙ ap (shares_at c) ((read_of w64 nat c.args.processor c.ranges.processor c.natural.ensures))

all_in : (c : After-shares_of-shares) → AllFitted ((shares_at c) c.natural.result)
all_in c =
    all-fitted c.args.x c.requires.0 c.args.sizes.first.now c.args.sizes.second.now c.args.sizes.third.now c.natural.result ((below-natural c.args.processor (processors_on c.args.x) c.ranges.processor c.natural.ensures (answered (is_below (pos (processors_on c.args.x))) c.args.processor c.ranges.processor
    c.is_processor.ensures
    c.if-not-is_processor.false)))

-- each coordinate is a processor of its dimension
first-low : (c : After-shares_of-shares) → c.shares_of-shares.result.first.processor < c.args.x.first.section.layout.processors
first-low c =
    subst (λ (s : Three Share). s.first.processor < c.args.x.first.section.layout.processors) (sym c.shares_of-shares.ensures) (all_in c).first.processor

second-low : (c : After-shares_of-shares) → c.shares_of-shares.result.second.processor < c.args.x.second.section.layout.processors
second-low c =
    subst (λ (s : Three Share). s.second.processor < c.args.x.second.section.layout.processors) (sym c.shares_of-shares.ensures) (all_in c).second.processor

pub is_place-requires : goal.is_place-requires
is_place-requires c = subst AllFitted (sym c.shares_of-shares.ensures) (all_in (goal.at.is_place-requires c).After-shares_of-shares)

-- the answer to question 10, of the parameters
place-said : (c : After-is_place) → c.is_place.result ≡ is_place_by ((shares_on c.args.x c.args.sizes.first.now c.args.sizes.second.now c.args.sizes.third.now (nat c.args.processor))) c.args.place
place-said c =
    read_of w64 (is_place_by c.shares_of-shares.result) c.args.place c.ranges.place c.is_place.ensures
    ∙ (λ i. is_place_by ((c.shares_of-shares.ensures ∙ ap (shares_on c.args.x c.args.sizes.first.now c.args.sizes.second.now c.args.sizes.third.now) ((read_of w64 nat c.args.processor c.ranges.processor c.natural.ensures))) i) c.args.place)

pub returns-then-not-is_place : goal.returns-then-not-is_place
unfolding ready_in first_no
returns-then-not-is_place c = rw (eighth (goal.at.returns-then-not-is_place c).After-natural, sym (place-said (goal.at.returns-then-not-is_place c).After-is_place) ∙ c.if-not-is_place.true)

tenth : (c : Else-not-is_place) → is_place_by ((shares_on c.args.x c.args.sizes.first.now c.args.sizes.second.now c.args.sizes.third.now (nat c.args.processor))) c.args.place ≡ true
tenth c =
    sym ((read_of w64 (is_place_by c.shares_of-shares.result) c.args.place c.ranges.place c.is_place.ensures
    ∙ (λ i. is_place_by ((c.shares_of-shares.ensures ∙ ap (shares_on c.args.x c.args.sizes.first.now c.args.sizes.second.now c.args.sizes.third.now) ((read_of w64 nat c.args.processor c.ranges.processor c.natural.ensures))) i) c.args.place))) ∙ c.if-not-is_place.false

pub returns-then-not-within : goal.returns-then-not-within
unfolding ready_in first_no
returns-then-not-within c =
    rw (
      eighth (goal.at.returns-then-not-within c).After-natural,
      tenth (goal.at.returns-then-not-within c).Else-not-is_place,
      answered (between (pos 3) (pos 1000000)) c.args.quota c.ranges.quota c.within.ensures c.if-not-within.true,
    )

pub held_in-requires : goal.held_in-requires
held_in-requires c = (c.requires.0.first, c.requires.1.first, first-low (goal.at.held_in-requires c).After-shares_of-shares)

pub held_in-requires-2 : goal.held_in-requires-2
held_in-requires-2 c = (c.requires.0.second, c.requires.1.second, second-low (goal.at.held_in-requires-2 c).After-shares_of-shares)

pub returns : goal.returns
unfolding ready_in first_no
returns c =
    let elements = c.held_in.ensures ∙ ap (λ (v : Three Share). held_in c.args.x.first c.args.sizes.first.now v.first.processor) (shares-are (goal.at.returns c).After-shares_of-shares) in
    let rows = c.held_in-2.ensures ∙ ap (λ (v : Three Share). held_in c.args.x.second c.args.sizes.second.now v.second.processor) (shares-are (goal.at.returns c).After-shares_of-shares) in
    let place = read_of w64 nat c.args.place c.ranges.place c.natural-2.ensures in
    let quota = read_of w64 nat c.args.quota c.ranges.quota c.natural-3.ensures in
    rw (
      eighth (goal.at.returns c).After-natural,
      tenth (goal.at.returns c).Else-not-is_place,
      answered (between (pos 3) (pos 1000000)) c.args.quota c.ranges.quota c.within.ensures c.if-not-within.false,
    )
    (λ i. Ok (record { shares = shares-are (goal.at.returns c).After-shares_of-shares i; elements = elements i; rows = rows i; place = record { 0 = place i }; quota = quota i }))
