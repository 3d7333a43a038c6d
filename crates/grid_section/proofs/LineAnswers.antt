-- The answer to the questions about a section of a grid, from those about its rank, about each dimension and about the products.
use Prim.Native.Nat.{ℕ}
use mathlib.Core.Path.{◌≡◌, refl, sym, ap, ◌∙◌}
use mathlib.Core.Bool.{Bool, true, false, cond, ◌&&◌}
use mathlib.Core.List.{List, ◌++◌}
use native.Mathlib.Omega.{arith}
use borrow.Author.Tests.{eqb-true, eqb-false, ne_eqb}
use lib.Dec.{leb, eqb}
use lib.IntN.{pos}
use Rattle.std.proofs.Common.{Result, Ok, Err}
use Rattle.model.specs.declared.three.Ranked.{Ranked}
use Rattle.model.specs.declared.Section as sections
use Rattle.model.specs.Mappings.{Section}
use Rattle.model.specs.Sections.{layout}
use Rattle.model.specs.Questions.{Question, first_no, between, of_section}
use Rattle.model.specs.declared.three.Three.{Three}
use Rattle.model.specs.Grids.{GridSection, sections_of, mappings_in, grid_section_with, grid_array, of_rank, of_products, of_sections, of_grid_section}
use Rattle.model.proofs.QuestionLaws.{all_yes, asks-on, stops}
use Rattle.section.specs.declared.questions.Strided.{Strided}
use Rattle.section.specs.Strides.{strided_of}
use Rattle.section.specs.Answers as answers
use Rattle.section.proofs.CallAnswers.{passed, stopped}
use Rattle.grid_section.specs.declared.lines.Line.{Line}
use Rattle.grid_section.specs.Lines.{lines_with, limited_by, asked_of, Sound}
use Rattle.grid_section.proofs.LineLaws.{sections_with, sections-with, limited}

-- ---- one dimension: it decides, or what comes after it

pub record Stops (e : ℕ) (qs : List Question) : Type 0 where
  pub first : first_no qs ≡ e
  pub some : e ≡ 0 → ⊥

stops_at : (s : Section) (e : ℕ) → answers.asked_of s ≡ Err e → (rest : List Question) → Stops e (of_section s ++ rest)
stops_at s e h rest =
    let p = stopped s e h in
    record { first = stops (of_section s) rest (λ z. p.some (sym p.first ∙ z)) ∙ p.first; some = p.some }

goes_on : (s : Section) (w : Strided) → answers.asked_of s ≡ Ok w → (rest : List Question) → first_no (of_section s ++ rest) ≡ first_no rest
goes_on s w h rest = asks-on (of_section s) rest (all_yes (of_section s) refl (passed s w h).none)

-- ---- all of them

module _ (x : Ranked sections.Section) (b c d : List ℕ) where
  abbrev g : GridSection
  g = grid_section_with x b c d

  -- the answer has every bound of its case
  pub sound : Sound (asked_of x b c d)
  unfolding asked_of
  sound = go (eqb (first_no (of_grid_section g)) 0) refl
    where
      go : (t : Bool) → eqb (first_no (of_grid_section g)) 0 ≡ t
          → Sound (cond (eqb (first_no (of_grid_section g)) 0) (Ok (lines_with x b c d)) (Err (first_no (of_grid_section g))))
      go true e = rw e (limited x b c d (eqb-true (first_no (of_grid_section g)) 0 e))
      go false e = rw e (omega (arith, eqb-false (first_no (of_grid_section g)) 0 e))

  pub rank-refused : between (pos 1) (pos 3) x.rank ≡ false → Err 17 ≡ asked_of x b c d
  unfolding asked_of first_no
  rank-refused e = rw e

  refused : (e : ℕ) → Stops e (of_grid_section g) → Err e ≡ asked_of x b c d
  unfolding asked_of
  refused e s = rw (s.first, ne_eqb e 0 s.some)

  module _ (ranked : between (pos 1) (pos 3) x.rank ≡ true) where
    abbrev s : Three Section
    s = sections_with x b c d

    abbrev products : List Question
    products = of_products (mappings_in s)

    -- the dimensions decide, and then the products
    from-rank : first_no (of_grid_section g) ≡ first_no (of_sections s ++ products)
    from-rank =
        asks-on (of_rank x.rank) (of_sections (sections_of g) ++ of_products (mappings_in (sections_of g))) (ranked, tt)
        ∙ ap (λ (z : Three Section). first_no (of_sections z ++ of_products (mappings_in z))) (sym (sections-with x b c d))

    stopped_by : (e : ℕ) {qs : List Question} → first_no (of_grid_section g) ≡ first_no qs → Stops e qs → Err e ≡ asked_of x b c d
    stopped_by e same z = refused e (record { first = same ∙ z.first; some = z.some })

    pub first-refused : (e : ℕ) → answers.asked_of s.first ≡ Err e → Err e ≡ asked_of x b c d
    first-refused e h = stopped_by e from-rank (stops_at s.first e h (of_section s.second ++ of_section s.third ++ products))

    module _ (k : Strided) (hk : answers.asked_of s.first ≡ Ok k) where
      from_first : first_no (of_grid_section g) ≡ first_no (of_section s.second ++ of_section s.third ++ products)
      from_first = from-rank ∙ goes_on s.first k hk (of_section s.second ++ of_section s.third ++ products)

      pub second-refused : (e : ℕ) → answers.asked_of s.second ≡ Err e → Err e ≡ asked_of x b c d
      second-refused e h = stopped_by e from_first (stops_at s.second e h (of_section s.third ++ products))

      module _ (l : Strided) (hl : answers.asked_of s.second ≡ Ok l) where
        from_second : first_no (of_grid_section g) ≡ first_no (of_section s.third ++ products)
        from_second = from_first ∙ goes_on s.second l hl (of_section s.third ++ products)

        pub third-refused : (e : ℕ) → answers.asked_of s.third ≡ Err e → Err e ≡ asked_of x b c d
        third-refused e h = stopped_by e from_second (stops_at s.third e h products)

        -- the lines, unless question e was answered no
        answer : Three Line → ℕ → Result (Three Line) ℕ
        answer y e = cond (eqb e 0) (Ok y) (Err e)

        decided : (t : Bool) (y : Three Line) → cond t (Ok y) (Err 17) ≡ answer y (cond t 0 17)
        unfolding answer
        decided true y = refl
        decided false y = refl

        pub all-passed : (m : Strided) → answers.asked_of s.third ≡ Ok m
            → (let y = lines_with x b c d in
            limited_by (record { section = k; dealing = y.first.dealing }) (record { section = l; dealing = y.second.dealing })
            (record { section = m; dealing = y.third.dealing }))
            ≡ asked_of x b c d
        unfolding asked_of first_no grid_array strided_of layout answer
        all-passed m hm =
            let y = lines_with x b c d in
            let k-is = (passed s.first k hk).strided in
            let l-is = (passed s.second l hl).strided in
            let m-is = (passed s.third m hm).strided in
            let last = from_second ∙ goes_on s.third m hm products in
            (λ i.
            limited_by (record { section = k-is i; dealing = y.first.dealing }) (record { section = l-is i; dealing = y.second.dealing })
            (record { section = m-is i; dealing = y.third.dealing }))
            ∙ decided
            (leb (grid_array (mappings_in s)).processors 1024 && leb (grid_array (mappings_in s)).size 2147483647)
            y
            ∙ ap (answer y) (sym last)
