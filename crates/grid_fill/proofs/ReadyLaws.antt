-- The questions of a fill after those about the section of a grid decide once the section is accepted.
use Prim.Native.Nat.{ℕ}
use mathlib.Core.Path.{◌≡◌, refl, sym, ap, ◌∙◌}
use mathlib.Core.Bool.{Bool, true, false, cond}
use mathlib.Core.List.{List, [], ◌∷◌, ◌++◌, append_assoc}
use borrow.Author.Tests.{ne_eqb}
use lib.IntN.{ℤ, pos}
use Rattle.std.specs.Prelude.{Ok, Err}
use Rattle.model.specs.declared.three.Ranked.{Ranked}
use Rattle.model.specs.declared.Section as sections
use Rattle.model.specs.Mappings.{Section}
use Rattle.model.specs.Ownership.{nat, owner}
use Rattle.model.specs.Sections.{layout}
use Rattle.model.specs.Questions.{Question, ask, first_no, between, is_below, of_quota}
use Rattle.model.specs.Axes.{Axis}
use Rattle.model.specs.declared.three.Three.{Three}
use Rattle.model.specs.Grids.{GridSection, sections_of, grid_section_with, grid_axis, of_grid_section, of_grid_processor}
use Rattle.model.specs.GridCalls.{is_place_on, of_grid_fill}
use Rattle.model.proofs.QuestionLaws.{all_yes, asks-on, stops, below-is}
use Rattle.section.specs.Strides.{strided_of}
use Rattle.grid_section.specs.declared.lines.Line.{Line}
use Rattle.section.specs.declared.shares.Share.{Share}
use Rattle.grid_section.specs.Lines.{processors_on, asked_of}
use Rattle.grid_section.specs.Shares.{shares_on, is_place_by}
use Rattle.grid_section.proofs.LineLaws.{sections-with}
use Rattle.grid_section.proofs.ShareLaws.{is-place-are}
use Rattle.grid_section.proofs.CallAnswers.{Passed, passed, stopped, shares-are, is-processor-are}
use Rattle.grid_fill.specs.Ready.{ready_by, start_of, ready_of, start_in, left_of, ready_in}

module _ (x : Ranked sections.Section) (b c d : List ℕ) (q t z : ℤ) where
  abbrev g : GridSection
  g = grid_section_with x b c d

  abbrev a : Axis
  a = grid_axis (sections_of g)

  left : List Question
  left = of_grid_processor a.array q ++ (ask 10 (is_place_on a q t) ∷ []) ++ of_quota z

  -- they come after those about the section
  after-section : first_no (of_grid_fill (record { section = g; processor = q; place = t; quota = z; list = [] })) ≡ first_no (of_grid_section g ++ left)
  unfolding left
  after-section = ap first_no (append_assoc (of_grid_section g) (of_grid_processor a.array q) ((ask 10 (is_place_on a q t) ∷ []) ++ of_quota z))

  module _ (y : Three Line) (p : Passed x b c d y) where
    -- question 10 of the section is that of the shares of a processor that passed 8
    left-same : first_no (left_of (processors_on y) (shares_on y b c d (nat q)) q t z) ≡ first_no left
    unfolding left first_no nat
    left-same =
        let rest : Bool → ℕ = λ f. cond f (cond (between (pos 3) (pos 1000000) z) 0 11) 10 in
        ap (λ (f : Bool). cond f (rest (is_place_by (shares_on y b c d (nat q)) t)) 8) (is-processor-are x b c d p q)
        ∙ go (is_below (pos a.array.processors) q) refl rest
      where
        go : (f : Bool) → is_below (pos a.array.processors) q ≡ f → (rest : Bool → ℕ)
            → cond f (rest (is_place_by (shares_on y b c d (nat q)) t)) 8 ≡ cond f (rest (is_place_on a q t)) 8
        go true e rest =
            ap rest
            (ap (λ (s : Three Share). is_place_by s t) (shares-are x b c d p (nat q))
            ∙ sym (is-place-are g p.none q t (below-is q (pos a.array.processors) e).below))
        go false e rest = refl

    start-same : start_in y b c d q t z ≡ start_of (sections_of g) q t z
    unfolding strided_of layout owner
    start-same =
        ap (λ (v : Three Line). start_in v b c d q t z) p.lines ∙ ap (λ (s : Three Section). start_of s q t z) (sections-with x b c d)

  pub ready_by_lem : (y : Three Line) → asked_of x b c d ≡ Ok y → ready_in y b c d q t z ≡ ready_of g q t z
  unfolding ready_in ready_of
  ready_by_lem y e =
      let p = passed x b c d y e in
      let questions = left-same y p ∙ sym (asks-on (of_grid_section g) left (all_yes (of_grid_section g) refl p.none)) ∙ sym after-section in
      λ i. ready_by (start-same y p i) (questions i)

  pub ready_refused : (e : ℕ) → asked_of x b c d ≡ Err e → Err e ≡ ready_of g q t z
  unfolding ready_of
  ready_refused e r =
      let s = stopped x b c d e r in
      let first = after-section ∙ stops (of_grid_section g) left (λ n. s.some (sym s.first ∙ n)) ∙ s.first in
      rw (first, ne_eqb e 0 s.some)
