-- `part_of` meets its contract.
use Prim.Native.Nat.{ℕ, suc}
use mathlib.Core.Path.{sym, ap, ◌∙◌, subst}
use mathlib.Core.List.{List}
use native.Mathlib.Omega.{arith}
use Rattle.model.specs.declared.Dealing.{Dealing}
use Rattle.model.specs.Mappings.{dealing_with}
use Rattle.model.specs.Ownership.{run_start}
use Rattle.mapping.specs.declared.parts.Part.TheVariants.{Run}
use Rattle.mapping.specs.Parts.{part_in, Listed}
use Rattle.mapping.proofs.SizeLaws.{Fitting, fitting}
use Rattle.mapping.proofs.parts.part_of.Goals as goal
use Rattle.mapping.proofs.parts.part_of.Goals.{In-GenBlock}

-- the list passed question 16
listed : (c : In-GenBlock) → Fitting c.args.l.cells c.args.l.processors c.args.sizes.now
listed c =
    fitting c.args.l.cells c.args.l.processors c.args.sizes.now
    (subst (λ (d : Dealing). Listed c.args.l (dealing_with d c.args.sizes.now)) c.in-GenBlock.is c.requires.listed)

pub run_of-requires : goal.run_of-requires
run_of-requires c =
    let f = listed (goal.at.run_of-requires c).In-GenBlock in
    (omega (arith, f.long, c.requires.dealt.processor), omega (arith, f.long, c.requires.dealt.sized.processors-high))

pub returns-in-GenBlock-clause-value : goal.returns-in-GenBlock-clause-value
returns-in-GenBlock-clause-value c =
    let words = (listed (goal.at.returns-in-GenBlock-clause-value c).In-GenBlock).words in
    ap Run c.run_of.ensures.value
    ∙ ap (λ (ws : List ℕ). Run (record { start = record { 0 = run_start ws c.args.q }; end = record { 0 = run_start ws (suc c.args.q) } })) (sym words)
    ∙ sym (ap (λ (d : Dealing). part_in (dealing_with d c.args.sizes.now) c.args.q) c.in-GenBlock.is)
