-- `ask_lines` meets its contract: each return cites the law of its answer.
use Rattle.std.proofs.Common.{ℕ, ◌≡◌, true, List, pos, Result, Ok, Err, sym, ap, subst, ◌∙◌, rules}
use mir.Syntax.{w64}
use mir.ValLaws.{to_z-of_z}
use Rattle.model.specs.declared.Dealing.{Dealing}
use Rattle.model.specs.declared.Section as sections
use Rattle.model.specs.declared.three.Ranked.{Ranked}
use Rattle.model.specs.declared.refusals.Refusal.{Refusal}
use Rattle.model.specs.declared.refusals.Refusal.TheVariants.{Grid}
use Rattle.model.specs.Mappings.{section_with}
use Rattle.model.specs.Grids.{up_to}
use Rattle.model.specs.Questions.{between}
use Rattle.model.specs.Refusals.{by_number}
use Rattle.model.proofs.RefusalLaws.{passed_on}
use Rattle.mapping.proofs.Signs.{answered}
use Rattle.section.specs.declared.questions.Strided.{Strided}
use Rattle.section.specs.Strides.{Bounded}
use Rattle.section.specs.Answers as answers
use Rattle.grid_section.specs.declared.lines.Line.{Line}
use Rattle.model.specs.declared.three.Three.{Three}
use Rattle.grid_section.specs.Lines.{line_on, sections_to, limited_by, asked_of, Sound}
use Rattle.grid_section.proofs.LineLaws.{sections_with}
use Rattle.grid_section.proofs.LineAnswers.{sound, rank-refused, first-refused, second-refused, third-refused, all-passed}
use Rattle.grid_section.proofs.lines.ask_lines.Goals as goal
use Rattle.grid_section.proofs.lines.ask_lines.Goals.{After-up_to-three, Else-not-within, In_ok-k, In_ok-l}

whole : (x : Ranked sections.Section) (b c d : List ℕ) (r : Result (Three Line) Refusal) → by_number r ≡ asked_of x b c d
    → record { value : by_number r ≡ asked_of x b c d; sound : Sound (by_number r) }
whole x b c d r e = record { value = e; sound = subst Sound (sym e) (sound x b c d) }

pub returns-then-not-within : goal.returns-then-not-within
returns-then-not-within c =
    whole c.args.x c.args.sizes.first.now c.args.sizes.second.now c.args.sizes.third.now (Err Grid)
    (rank-refused c.args.x c.args.sizes.first.now c.args.sizes.second.now c.args.sizes.third.now
    (answered (between (pos 1) (pos 3)) c.args.x.rank (search rules) c.within.ensures c.if-not-within.true))

ranked : (c : Else-not-within) → between (pos 1) (pos 3) c.args.x.rank ≡ true
ranked c = answered (between (pos 1) (pos 3)) c.args.x.rank (search rules) c.within.ensures c.if-not-within.false

-- the sections that are asked
asked : (c : After-up_to-three) → c.up_to-three.result ≡ sections_to c.args.x
asked c =
    c.up_to-three.ensures
    ∙ (λ i. up_to (to_z-of_z w64 c.args.x.rank (search rules) i) (c.single_section.ensures i) c.args.x.dimensions)

first_by : (c : In_ok-k) → c.up_to-three.result ≡ sections_to c.args.x
    → answers.asked_of (sections_with c.args.x c.args.sizes.first.now c.args.sizes.second.now c.args.sizes.third.now).first ≡ Ok c.in_ok-k.k
first_by c e = sym (ap (λ (y : Three sections.Section). answers.asked_of (section_with y.first c.args.sizes.first.now)) e) ∙ sym c.in_ok-k.ensures.value

second-by : (c : In_ok-l) → c.up_to-three.result ≡ sections_to c.args.x
    → answers.asked_of (sections_with c.args.x c.args.sizes.first.now c.args.sizes.second.now c.args.sizes.third.now).second ≡ Ok c.in_ok-l.l
second-by c e = sym (ap (λ (y : Three sections.Section). answers.asked_of (section_with y.second c.args.sizes.second.now)) e) ∙ sym c.in_ok-l.ensures.value

pub returns-in_err-k : goal.returns-in_err-k
returns-in_err-k c =
    let at = goal.at.returns-in_err-k c in
    whole c.args.x c.args.sizes.first.now c.args.sizes.second.now c.args.sizes.third.now c.from_residual.result
    (ap by_number (passed_on c.from_residual.result c.in_err-k.field-0.0 c.from_residual.ensures.1)
    ∙ first-refused c.args.x c.args.sizes.first.now c.args.sizes.second.now c.args.sizes.third.now (ranked at.Else-not-within) _
    (sym (ap (λ (y : Three sections.Section). answers.asked_of (section_with y.first c.args.sizes.first.now)) (asked at.After-up_to-three)) ∙ sym c.in_err-k.ensures.value))

pub returns-in_err-l : goal.returns-in_err-l
returns-in_err-l c =
    let at = goal.at.returns-in_err-l c in
    let e = asked at.After-up_to-three in
    whole c.args.x c.args.sizes.first.now c.args.sizes.second.now c.args.sizes.third.now c.from_residual-in_err-l.result
    (ap by_number (passed_on c.from_residual-in_err-l.result c.in_err-l.field-0.0 c.from_residual-in_err-l.ensures.1)
    ∙ second-refused c.args.x c.args.sizes.first.now c.args.sizes.second.now c.args.sizes.third.now (ranked at.Else-not-within) _ (first_by at.In_ok-k e) _
    (sym (ap (λ (y : Three sections.Section). answers.asked_of (section_with y.second c.args.sizes.second.now)) e) ∙ sym c.in_err-l.ensures.value))

pub returns-in_err-m : goal.returns-in_err-m
returns-in_err-m c =
    let at = goal.at.returns-in_err-m c in
    let e = asked at.After-up_to-three in
    whole c.args.x c.args.sizes.first.now c.args.sizes.second.now c.args.sizes.third.now c.from_residual-in_err-m.result
    (ap by_number (passed_on c.from_residual-in_err-m.result c.in_err-m.field-0.0 c.from_residual-in_err-m.ensures.1)
    ∙ third-refused c.args.x c.args.sizes.first.now c.args.sizes.second.now c.args.sizes.third.now (ranked at.Else-not-within) _ (first_by at.In_ok-k e) _ (second-by at.In_ok-l e) _
    (sym (ap (λ (y : Three sections.Section). answers.asked_of (section_with y.third c.args.sizes.third.now)) e) ∙ sym c.in_err-m.ensures.value))

line-bounded : {w : Strided} {d : Dealing} {y : Line} → y ≡ record { section = w; dealing = d } → Bounded w → Bounded y.section
line-bounded e b = subst (λ (z : Line). Bounded z.section) (sym e) b

pub limited-requires : goal.limited-requires
limited-requires c = (
  line-bounded c.line_of.ensures c.in_ok-k.ensures.sound,
  line-bounded c.line_of-2.ensures c.in_ok-l.ensures.sound,
  line-bounded c.line_of-3.ensures c.in_ok-m.ensures.sound,
)

pub returns : goal.returns
returns c =
    let at = goal.at.returns c in
    let e = asked at.After-up_to-three in
    whole c.args.x c.args.sizes.first.now c.args.sizes.second.now c.args.sizes.third.now c.limited.result
    (c.limited.ensures
    ∙ (λ i. limited_by (c.line_of.ensures i) (c.line_of-2.ensures i) (c.line_of-3.ensures i))
    ∙ ap (λ (y : Three sections.Section). limited_by (line_on c.in_ok-k.k y.first) (line_on c.in_ok-l.l y.second) (line_on c.in_ok-m.m y.third)) e
    ∙ all-passed c.args.x c.args.sizes.first.now c.args.sizes.second.now c.args.sizes.third.now (ranked at.Else-not-within) _ (first_by at.In_ok-k e) _ (second-by at.In_ok-l e) _
    (sym (ap (λ (y : Three sections.Section). answers.asked_of (section_with y.third c.args.sizes.third.now)) e) ∙ sym c.in_ok-m.ensures.value))
