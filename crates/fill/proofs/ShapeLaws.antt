-- The move that is taken from a column is the section's step from there: its tries, its positions, and its courses and
-- columns. Assumes nothing.
use Prim.Native.Nat.{ℕ, ◌+◌, ◌-◌, ◌*◌, ◌/◌, ◌≤◌, ◌<◌}
use mathlib.Core.Path.{◌≡◌, refl, sym, ap, ◌∙◌}
use mathlib.Core.Bool.{Bool, true, false, cond}
use native.Mathlib.Nat.{div-eq_of_eq-mul_left}
use native.Mathlib.Omega.{arith}
use lib.Dec.{leb}
use borrow.Author.Tests.{leb-true, leb-false, le-leb}
use Rattle.model.specs.declared.Step.{Step}
use Rattle.model.specs.declared.Steps.{Steps}
use Rattle.model.specs.declared.Steps.TheVariants.{NoStep, OneStep, TwoSteps}
use Rattle.model.specs.Steps.{steps_by, Going, go_on}
use Rattle.model.proofs.Rests.{Course}
use Rattle.model.proofs.WalkTheorem.{Some, some-steps}
use Rattle.model.proofs.StepLaws.{step-cases, ProcessorLaw, ReturnLaw, OneLaw, processor-law, return-law, one-law}
use Rattle.walk.specs.Moving.{Move, move_from}
use Rattle.fill.specs.SectionMoves.{moves_by}

-- The move g from column q is the step o: so many positions of S cells, c courses of M cells, and y₁ - y₂ columns. What it
-- adds suits these.
pub record Shape (Suits : ℕ → ℕ → ℕ → ℕ → Type 0) (M k S q : ℕ) (g : Move) (o : Going) : Type 0 where
  pub tries : o.tries ≡ g.tries
  pub places : o.cells ≡ g.places * S
  pub low : g.column < k
  pub c : ℕ
  pub y₁ : ℕ
  pub y₂ : ℕ
  pub cells : g.places * S + y₂ ≡ c * M + y₁
  pub columns : g.column + y₂ ≡ q + y₁
  pub suits : Suits g.add c y₁ y₂

-- a whole number of S
over : (S n i : ℕ) → 0 < S → n ≡ i * S → n ≡ n / S * S
over S n i pos e = e ∙ ap (λ (z : ℕ). z * S) (sym (div-eq_of_eq-mul_left pos e))

-- ---- the laws of the steps that there are

abbrev pub LawOf : ℕ → ℕ → ℕ → Steps → Type 0
LawOf M k S NoStep = Unit {0}
LawOf M k S (OneStep a) = OneLaw M k S a
LawOf M k S (TwoSteps r w) = ProcessorLaw M k S r × ReturnLaw M k S w

pub steps-law : {M k S : ℕ} → Course M k S → (n : ℕ) → LawOf M k S (steps_by n M k S)
steps-law {M} {k} {S} h n =
    step-cases (LawOf M k S) n M k S (λ l. tt) (λ l d. (processor-law h d, return-law h d)) (λ l d. one-law h d)

-- ---- shapes

module _ (Suits : ℕ → ℕ → ℕ → ℕ → Type 0) where
  -- what is added along each step suits its courses and columns
  abbrev pub Suited : Steps → ℕ → ℕ → ℕ → Type 0
  Suited NoStep near far both = Unit {0}
  Suited (OneStep a) near far both = Suits near a.courses 0 0
  Suited (TwoSteps r w) near far both =
      Suits near r.courses r.column 0 × (Suits far w.courses 0 w.column × Suits both (r.courses + w.courses) r.column w.column)

  module _ {M k S : ℕ} (q : ℕ) (q<k : q < k) (S_pos : 0 < S) (near far both : ℕ) where
    two-shape : (r w : Step) → ProcessorLaw M k S r → ReturnLaw M k S w → Suited (TwoSteps r w) near far both
        → Shape Suits M k S q (move_from (moves_by k S (TwoSteps r w) near far both) q) (go_on true k q (TwoSteps r w))
    unfolding moves_by move_from
    two-shape r w a b s = go (leb (q + r.column) (k - 1)) refl (leb w.column q) refl
      where
        r-cells : r.cells ≡ r.cells / S * S
        r-cells = over S r.cells a.multiple.index S_pos a.multiple.cells

        w-cells : w.cells ≡ w.cells / S * S
        w-cells = over S w.cells b.multiple.index S_pos b.multiple.cells

        go : (x : Bool) → leb (q + r.column) (k - 1) ≡ x → (y : Bool) → leb w.column q ≡ y
            → Shape Suits M k S q
            (cond x (record { column = q + r.column; places = r.cells / S; add = near; tries = 1 })
            (cond y (record { column = q - w.column; places = w.cells / S; add = far; tries = 2 })
            (record { column = q + r.column - w.column; places = r.cells / S + w.cells / S; add = both; tries = 3 })))
            (cond x (record { tries = 1; cells = r.cells })
            (cond y (record { tries = 2; cells = w.cells }) (record { tries = 3; cells = r.cells + w.cells })))
        go true e y f = record {
          tries = refl;
          places = r-cells;
          low = omega (arith, leb-true (q + r.column) (k - 1) e);
          c = r.courses;
          y₁ = r.column;
          y₂ = 0;
          cells = omega (arith, r-cells, a.form);
          columns = omega arith;
          suits = s.0;
        }
        go false e true f = record {
          tries = refl;
          places = w-cells;
          low = omega arith;
          c = w.courses;
          y₁ = 0;
          y₂ = w.column;
          cells = omega (arith, w-cells, b.form);
          columns = omega (arith, leb-true w.column q f);
          suits = s.1.0;
        }
        go false e false f =
            let h = leb-false (q + r.column) (k - 1) e in
            record {
              tries = refl;
              places = omega (arith, r-cells, w-cells);
              low = omega (arith, a.few, leb-false w.column q f);
              c = r.courses + w.courses;
              y₁ = r.column;
              y₂ = w.column;
              cells = omega (arith, r-cells, w-cells, a.form, b.form);
              columns = omega (arith, h, b.few);
              suits = s.1.1;
            }

    one-shape : (a : Step) → OneLaw M k S a → Suited (OneStep a) near far both
        → Shape Suits M k S q (move_from (moves_by k S (OneStep a) near far both) q) (go_on true k q (OneStep a))
    unfolding moves_by move_from
    one-shape a l s =
        let a-cells : a.cells ≡ a.cells / S * S = over S a.cells l.multiple.index S_pos l.multiple.cells in
        rw (le-leb (q + 0) (k - 1) (omega arith)) (record {
          tries = refl;
          places = a-cells;
          low = omega arith;
          c = a.courses;
          y₁ = 0;
          y₂ = 0;
          cells = omega (arith, a-cells, l.form);
          columns = omega arith;
          suits = s;
        })

  -- two or more elements
  pub shape : {M k S : ℕ} → Course M k S → (n : ℕ) → 2 ≤ n → (q : ℕ) → q < k → (near far both : ℕ) → Suited (steps_by n M k S) near far both
      → Shape Suits M k S q (move_from (moves_by k S (steps_by n M k S) near far both) q) (go_on true k q (steps_by n M k S))
  shape {M} {k} {S} h n two q q<k near far both = go (steps_by n M k S) (some-steps n M k S two) (steps-law h n)
    where
      go : (s : Steps) → Some s → LawOf M k S s → Suited s near far both
          → Shape Suits M k S q (move_from (moves_by k S s near far both) q) (go_on true k q s)
      go NoStep some l = absurd some
      go (OneStep a) some l = one-shape q q<k h.spread-pos near far both a l
      go (TwoSteps r w) some l = two-shape q q<k h.spread-pos near far both r w l.0 l.1
