-- `ask_mapping` meets its contract.
use Rattle.std.proofs.Common.{rules}
use Prim.Native.Nat.{ℕ, ◌<◌}
use mathlib.Core.Path.{◌≡◌, refl, sym, ap, ◌∙◌}
use mathlib.Core.List.{List, []}
use native.Mathlib.Omega.{arith}
use borrow.Author.Tests.{eq-eqb, ne_eqb}
use lib.IntN.{◌+ℤ◌, ◌-ℤ◌, ◌*ℤ◌}
use mir.Syntax.{w64}
use mir.ValLaws.{to_z-of_z}
use Rattle.numbers.proofs.Signed.{read_of}
use Rattle.model.specs.declared.Dealing as dealt
use Rattle.model.specs.declared.Dealing.TheVariants.{Cyclic, GenBlock}
use Rattle.model.specs.Mappings.{dealing_with, Mapping, mapping_with}
use Rattle.model.specs.Ownership.{nat, cell_under, block_in, layout_of}
use Rattle.model.specs.Questions.{first_no, of_mapping}
use Rattle.model.proofs.QuestionLaws.{size-upto}
use Rattle.model.proofs.AcceptedLaws.{stride-in, bounds-in, offset-small, mapped}
use Rattle.std.specs.Prelude.{Ok, Err}
use Rattle.model.specs.Refusals.{number, asked_as}
use Rattle.model.proofs.RefusalLaws.{number-nonzero, passed_on}
use Rattle.mapping.specs.declared.questions.Mapped.{Mapped}
use Rattle.mapping.specs.Answers.{of_listed, mapped_of, Sound}
use Rattle.mapping.specs.Bounds.{Aligned}
use Rattle.mapping.proofs.Refusals.{listed-asked}
use Rattle.mapping.proofs.questions.ask_mapping.Goals as goal
use Rattle.mapping.proofs.questions.ask_mapping.Goals.{After-ask_numbers}

-- its questions, with the list
asked : (c : After-ask_numbers) → asked_as c.ask_numbers.result ≡ first_no (of_mapping (mapping_with c.args.m c.args.sizes.now))
asked c =
    c.ask_numbers.ensures
    ∙ (λ i. first_no (of_listed (c.requires i) (mapping_with c.args.m [])))
    ∙ listed-asked c.args.m.cells c.args.m.processors c.args.m.dealing c.args.sizes.now c.args.m.stride c.args.m.offset c.args.m.size c.args.m.lower c.args.m.origin

refused : (m : Mapping) (q : ℕ) → (q ≡ 0 → ⊥) → q ≡ first_no (of_mapping m) → (Err q ≡ mapped_of m) × (0 < q)
unfolding mapped_of
refused m q h e = (rw (← e, ne_eqb q 0 h), omega arith)

pub returns-in_err-ask_numbers : goal.returns-in_err-ask_numbers
returns-in_err-ask_numbers c =
    let e = c.in_err-ask_numbers.field-0.0 in
    let answer = ap asked_as (sym c.in_err-ask_numbers.was) ∙ asked (goal.at.returns-in_err-ask_numbers c).After-ask_numbers in
    let whole = refused (mapping_with c.args.m c.args.sizes.now) (number e) (number-nonzero e) answer in
    rw (passed_on c.from_residual.result e c.from_residual.ensures.1) (record { value = whole.0; sound = whole.1 })

accepted : (m : Mapping) (x : Mapped) → first_no (of_mapping m) ≡ 0 → x.layout ≡ layout_of m → x.lower ≡ m.lower
    → (Ok x ≡ mapped_of m) × Sound (Ok x)
unfolding mapped_of
accepted m x ok e f = rw (e, f, eq-eqb (first_no (of_mapping m)) 0 ok) (refl, (mapped m ok, (bounds-in m ok).lower))

-- none was answered no
none : (c : After-ask_numbers) → c.ask_numbers.result ≡ Ok tt → first_no (of_mapping (mapping_with c.args.m c.args.sizes.now)) ≡ 0
none c e = sym (asked c) ∙ ap asked_as e

aligned : (m : Mapping) → first_no (of_mapping m) ≡ 0 → Aligned m.stride m.offset m.origin m.lower
aligned m ok =
    let b = bounds-in m ok in
    record {
      stride = size-upto (stride-in m ok);
      offset = offset-small m ok;
      origin = b.origin;
      index = b.lower;
    }

-- the list has nothing to do with the block
same_block : (d : dealt.Dealing) (bs cs : List ℕ) → block_in (dealing_with d bs) ≡ block_in (dealing_with d cs)
same_block (Cyclic k) bs cs = refl
same_block GenBlock bs cs = refl

pub cell_under-requires : goal.cell_under-requires
cell_under-requires c =
    rw (to_z-of_z w64 c.args.m.lower (search rules))
    (aligned (mapping_with c.args.m c.args.sizes.now) (none (goal.at.cell_under-requires c).After-ask_numbers c.in_ok-ask_numbers.was))

pub returns : goal.returns
unfolding layout_of cell_under
returns c =
    let m = c.args.m in
    let t = read_of w64 nat m.cells (search rules) c.natural.ensures in
    let p = read_of w64 nat m.processors (search rules) c.natural-2.ensures in
    let k = read_of w64 nat c.block_of.result (record { sfits = c.block_of.type_inv }) c.natural-3.ensures
    ∙ ap nat (c.block_of.ensures ∙ same_block m.dealing [] c.args.sizes.now) in
    let a = read_of w64 nat m.stride (search rules) c.natural-4.ensures in
    let lower = to_z-of_z w64 m.lower (search rules) in
    let b = read_of w64 nat c.cell_under.result (record { sfits = c.cell_under.type_inv }) c.natural-5.ensures
    ∙ ap nat (c.cell_under.ensures ∙ (λ i. m.stride *ℤ lower i +ℤ m.offset -ℤ m.origin)) in
    let n = read_of w64 nat m.size (search rules) c.natural-6.ensures in
    let whole = accepted (mapping_with m c.args.sizes.now) _ (none (goal.at.returns c).After-ask_numbers c.in_ok-ask_numbers.was)
    (λ i. record { cells = t i; processors = p i; block = k i; stride = a i; offset = b i; size = n i })
    lower in
    record { value = whole.0; sound = whole.1 }
