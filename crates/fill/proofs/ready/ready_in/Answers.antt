-- `ready_in` meets its contract: each return rewrites by the answers on the way to it.
use mathlib.Core.Path.{◌≡◌, sym, ap, ◌∙◌, subst}
use mathlib.Core.Bool.{Bool, true}
use lib.IntN.{ℤ, pos}
use mir.Syntax.{w64}
use mir.Val.{SFits}
use Rattle.std.specs.Prelude.{Ok}
use Rattle.numbers.proofs.Signed.{back, read_of}
use Rattle.model.specs.Mappings.{Dealing, dealing_with}
use Rattle.model.specs.Ownership.{nat}
use Rattle.model.specs.Questions.{first_no, between, is_below}
use Rattle.model.proofs.QuestionLaws.{below-is}
use Rattle.mapping.proofs.Signs.{answered}
use Rattle.mapping.specs.Parts.{part_in}
use Rattle.section.specs.declared.questions.Strided.{Strided}
use Rattle.section.specs.declared.shares.Share.{Share}
use Rattle.section.specs.Shares.{share_in, Fitted}
use Rattle.fill.specs.Ready.{is_place_in, ready_in, SoundReady}
use Rattle.fill.proofs.ReadyLaws.{ready-sound}
use Rattle.fill.proofs.ready.ready_in.Goals as goal
use Rattle.fill.proofs.ready.ready_in.Goals.{After-share_of-share, Else-not-is_place, Else-not-is_processor}

pub returns-then-not-is_processor-clause-value : goal.returns-then-not-is_processor-clause-value
unfolding ready_in first_no
returns-then-not-is_processor-clause-value c =
    rw (answered (is_below (pos c.args.w.layout.processors)) c.args.processor c.ranges.processor c.is_processor.ensures c.if-not-is_processor.true)

eighth : (c : Else-not-is_processor) → is_below (pos c.args.w.layout.processors) c.args.processor ≡ true
eighth c =
    answered (is_below (pos c.args.w.layout.processors)) c.args.processor c.ranges.processor c.is_processor.ensures c.if-not-is_processor.false

-- the share, of the parameters
abbrev share_for : Strided → Dealing → ℤ → Share
share_for w d q = share_in w (nat q) (part_in d (nat q))

share-is : (c : After-share_of-share) → c.share_of-share.result ≡ share_for c.args.w (dealing_with c.args.d c.args.sizes.now) c.args.processor
share-is c = read_of w64 (share_for c.args.w (dealing_with c.args.d c.args.sizes.now)) c.args.processor c.ranges.processor c.share_of-share.ensures

pub is_place-requires : goal.is_place-requires
unfolding nat
is_place-requires c =
    subst Fitted (sym (share-is (goal.at.is_place-requires c).After-share_of-share))
    (record { bounded = c.requires.0; processor = (below-is c.args.processor (pos c.args.w.layout.processors) (eighth (goal.at.is_place-requires c).Else-not-is_processor)).below })

-- the answer to question 10, of the parameters
place-said : (w : Strided) (d : Dealing) (q t : ℤ) {s : Share} {r : Bool} → SFits w64 q → SFits w64 t → s ≡ share_for w d (back w64 q) → r ≡ is_place_in s (back w64 t) → r ≡ is_place_in (share_for w d q) t
place-said w d q t {s} fits-q fits-t share said =
    read_of w64 (is_place_in s) t fits-t said ∙ ap (λ (x : Share). is_place_in x t) (read_of w64 (share_for w d) q fits-q share)

pub returns-then-not-is_place-clause-value : goal.returns-then-not-is_place-clause-value
unfolding ready_in first_no
returns-then-not-is_place-clause-value c =
    rw (
      eighth (goal.at.returns-then-not-is_place-clause-value c).Else-not-is_processor,
      sym (place-said _ _ _ _ c.ranges.processor c.ranges.place c.share_of-share.ensures c.is_place.ensures) ∙ c.if-not-is_place.true,
    )

tenth : (c : Else-not-is_place) → is_place_in (share_for c.args.w (dealing_with c.args.d c.args.sizes.now) c.args.processor) c.args.place ≡ true
tenth c = sym (place-said _ _ _ _ c.ranges.processor c.ranges.place c.share_of-share.ensures c.is_place.ensures) ∙ c.if-not-is_place.false

pub returns-then-not-within-clause-value : goal.returns-then-not-within-clause-value
unfolding ready_in first_no
returns-then-not-within-clause-value c =
    rw (
      eighth (goal.at.returns-then-not-within-clause-value c).Else-not-is_processor,
      tenth (goal.at.returns-then-not-within-clause-value c).Else-not-is_place,
      answered (between (pos 3) (pos 1000000)) c.args.quota c.ranges.quota c.within.ensures c.if-not-within.true,
    )

pub returns : goal.returns
unfolding ready_in first_no
returns c =
    let place = read_of w64 nat c.args.place c.ranges.place c.natural.ensures in
    let quota = read_of w64 nat c.args.quota c.ranges.quota c.natural-2.ensures in
    let share = share-is (goal.at.returns c).After-share_of-share in
    let value : Ok (record { section = c.args.w; processor = c.share_of-share.result.processor; extent = c.share_of-share.result.extent; place = record { 0 = c.natural.result }; quota = c.natural-2.result })
    ≡ ready_in c.args.w (dealing_with c.args.d c.args.sizes.now) c.args.processor c.args.place c.args.quota = rw (
      eighth (goal.at.returns c).Else-not-is_processor,
      tenth (goal.at.returns c).Else-not-is_place,
      answered (between (pos 3) (pos 1000000)) c.args.quota c.ranges.quota c.within.ensures c.if-not-within.false,
    )
    (λ i. Ok (record { section = c.args.w; processor = (share i).processor; extent = (share i).extent; place = record { 0 = place i }; quota = quota i })) in
    record { value = value; sound_ready = subst SoundReady (sym value) (ready-sound c.args.w c.requires.0 (dealing_with c.args.d c.args.sizes.now) c.args.processor c.args.place c.args.quota) }
