-- A section as an array of its own: its numbers are in range, and it has the same owners, downwards in turned order.
use Prim.Native.Nat.{ℕ, zero, suc, ◌+◌, ◌-◌, ◌*◌, ◌<◌}
use mathlib.Core.Path.{◌≡◌, refl, sym, ap, ◌∙◌}
use mathlib.Core.Bool.{Bool, true, false, cond}
use native.Mathlib.Omega.{arith}
use lib.Dec.{eqb}
use Rattle.numbers.specs.Search.{tally}
use Rattle.numbers.proofs.SearchLaws.{tally-none, tally-next, tally-same}
use Rattle.model.specs.Ownership.{cell_of, cell_owner, owner_of, owns, held}
use Rattle.model.specs.Sized.{Sized}
use Rattle.section.specs.declared.questions.Strided.{Strided}
use Rattle.section.specs.Strides.{Bounded, cell_at, owned_at}
use Rattle.section.specs.Elements.{lowest, line_of}
use Rattle.section.proofs.StridedLaws.{cells-rise, cells-fall, cell-inside}
use Rattle.section.proofs.GoingLaws.{spread-pos}

-- ---- counting from the other end

tally-front : (f : ℕ → Bool) (n : ℕ) → tally f (suc n) ≡ cond (f 0) 1 0 + tally (λ i. f (suc i)) n
tally-front f zero = omega (arith, tally-next f 0, tally-none f, tally-none (λ i. f (suc i)))
tally-front f (suc n) = omega (arith, tally-front f n, tally-next f (suc n), tally-next (λ i. f (suc i)) n)

tally-turned : (f : ℕ → Bool) (n : ℕ) → tally (λ i. f (n - 1 - i)) n ≡ tally f n
tally-turned f zero = tally-none (λ i. f (0 - 1 - i)) ∙ sym (tally-none f)
tally-turned f (suc n) =
    let g : ℕ → Bool = λ i. f (suc n - 1 - i) in
    omega (
      arith,
      tally-front g n,
      ap (λ (i : ℕ). one (f i)) first,
      tally-same (λ i. g (suc i)) (λ i. f (n - 1 - i)) n (λ i h. ap f (omega arith)),
      tally-turned f n,
      tally-next f n,
    )
  where
    one : Bool → ℕ
    one b = cond b 1 0

    first : suc n - 1 - 0 ≡ n
    first = omega arith

-- ---- a section

module _ (w : Strided) (b : Bounded w) (some : 0 < w.count) where
  abbrev S : ℕ
  S = w.layout.stride * w.stride

  abbrev line : ℕ → ℕ
  line i = S * i + cell_at w (lowest w)

  pub lowest-lt : lowest w < w.count
  lowest-lt = go w.upward
    where
      go : (u : Bool) → cond u 0 (w.count - 1) < w.count
      go true = some
      go false = omega arith

  lowest-is : (u : Bool) → w.upward ≡ u → cell_at w (lowest w) ≡ cell_at w (cond u 0 (w.count - 1))
  lowest-is u e = ap (λ (v : Bool). cell_at w (cond v 0 (w.count - 1))) e

  -- the cells, from the lowest on
  line-up : w.upward ≡ true → (i : ℕ) → i < w.count → line i ≡ cell_at w i
  line-up up i h = omega (arith, lowest-is true up, cells-rise w up i)

  line-down : w.upward ≡ false → (i : ℕ) → i < w.count → line i ≡ cell_at w (w.count - 1 - i)
  line-down down i h =
      let n : ℕ = w.count - 1 in
      let there : n ≡ (n - i) + i = omega arith in
      omega (
        arith,
        lowest-is false down,
        ap (λ (j : ℕ). j * S) there,
        cells-fall w b down n (omega arith),
        cells-fall w b down (n - i) (omega arith),
      )

  -- it ends below the last cell
  line-inside : line (w.count - 1) < w.layout.cells
  line-inside = go w.upward refl
    where
      go : (u : Bool) → w.upward ≡ u → line (w.count - 1) < w.layout.cells
      go true e = omega (arith, line-up e (w.count - 1) (omega arith), cell-inside w b (w.count - 1) (omega arith))
      go false e = omega (arith, line-down e (w.count - 1) (omega arith), cell-inside w b (w.count - 1 - (w.count - 1)) (omega arith))

  pub line-sized : Sized (line_of w)
  unfolding line_of
  line-sized =
      let z = b.sized in
      record {
        cells-pos = z.cells-pos;
        cells-high = z.cells-high;
        processors-pos = z.processors-pos;
        processors-high = z.processors-high;
        block-pos = z.block-pos;
        block-high = z.block-high;
        stride-pos = spread-pos w b;
        stride-high = b.spread-fits;
        offset-high = omega (arith, cell-inside w b (lowest w) lowest-lt, z.cells-high);
        size-high = b.count-high;
        inside = λ h. line-inside;
      }

  -- does processor q own the element at position t?
  owned : ℕ → ℕ → Bool
  owned q c = eqb (cell_owner w.layout c) q

  pub line-held : (q : ℕ) → held (owner_of (line_of w)) w.count q ≡ tally (owned_at w q) w.count
  unfolding held owns owner_of cell_of cell_owner owned_at cell_at line_of owned
  line-held q = go w.upward refl
    where
      go : (u : Bool) → w.upward ≡ u → held (owner_of (line_of w)) w.count q ≡ tally (owned_at w q) w.count
      go true e = tally-same _ (owned_at w q) w.count (λ i h. ap (owned q) (line-up e i h))
      go false e =
          tally-same _ (λ i. owned_at w q (w.count - 1 - i)) w.count (λ i h. ap (owned q) (line-down e i h))
          ∙ tally-turned (owned_at w q) w.count
