-- The natural numbers of an accepted section: their bounds, and that they give its indices and cells, and in the cyclic dealing
-- its owners, steps and places.
use Prim.Native.Nat.{ℕ, ◌+◌, ◌-◌, ◌*◌, ◌≤◌, ◌<◌}
use mathlib.Core.Path.{◌≡◌, refl, ap, subst}
use mathlib.Core.Bool.{Bool, true, false}
use native.Mathlib.Nat.{zero-add, le-mul_of_pos_right}
use native.Mathlib.Decide.{dec_lt}
use native.Mathlib.Omega.{arith}
use lib.IntN.{nat_abs}
use Rattle.numbers.specs.Search.{passing, head_or}
use Rattle.numbers.proofs.SearchLaws.{passing-same}
use Rattle.model.specs.Mappings.{Section}
use Rattle.model.specs.Ownership.{cell_of, owner_of, owns, rank}
use Rattle.model.specs.Sections.{layout, count, index, cell}
use Rattle.model.specs.Steps.{spread, upward, cyclic_steps}
use Rattle.model.specs.Questions.{first_no, of_section}
use Rattle.model.proofs.AcceptedLaws.{Accepted, accepted}
use Rattle.model.proofs.WalkTheorem.{cyclic_owns}
use Rattle.model.proofs.SectionLaws.{Moved, index-lt, index-moved, spread-fits, spread-high}
use Rattle.section.specs.Strides.{strided_of, Bounded, moved, index_at, cell_at, owned_at, place_in, steps_in}

module _ (x : Section) (ok : first_no (of_section x) ≡ 0) where
  a : Accepted x
  a = accepted x ok

  s : ℕ
  s = nat_abs x.triplet.stride

  -- from the first position to position t
  run : (t : ℕ) → t < count x → Moved (upward x) (index x 0) (index x t) (t * s)
  unfolding s
  run t h = subst (λ (z : ℕ). Moved (upward x) (index x 0) (index x z) (t * s)) (zero-add t) (index-moved x ok 0 t (omega arith))

  run_up : upward x ≡ true → (t : ℕ) → t < count x → index x t ≡ index x 0 + t * s
  run_up e t h = subst (λ (b : Bool). Moved b (index x 0) (index x t) (t * s)) e (run t h)

  run_down : upward x ≡ false → (t : ℕ) → t < count x → index x 0 ≡ index x t + t * s
  run_down e t h = subst (λ (b : Bool). Moved b (index x 0) (index x t) (t * s)) e (run t h)

  -- the first and the last element are the array's, and lie a position apart or more for each position between them
  count-high : count x ≤ 2147483647
  unfolding s
  count-high = elim (dec_lt 0 (count x)) [
    | yes h ↦
        let first : index x 0 < (layout x).size = index-lt x ok 0 h in
        let last : index x (count x - 1) < (layout x).size = index-lt x ok (count x - 1) (omega arith) in
        let apart : (count x - 1) * s < (layout x).size = far (upward x) _ _ _ _ (run (count x - 1) (omega arith)) first last in
        omega (arith, le-mul_of_pos_right (count x - 1) a.step-pos, a.sized.size-high)
    | no h ↦ omega arith
  ]
    where
      far : (b : Bool) (i j d n : ℕ) → Moved b i j d → i < n → j < n → d < n
      far true i j d n e h l = omega arith
      far false i j d n e h l = omega arith

  pub bounded : Bounded (strided_of x)
  unfolding strided_of s spread
  bounded =
      record {
        sized = a.sized;
        stride-pos = a.step-pos;
        stride-high = a.step-high;
        count-high = count-high;
        first-inside = λ h. index-lt x ok 0 h;
        rises = λ e h. omega (arith, run_up e (count x - 1) (omega arith), index-lt x ok (count x - 1) (omega arith));
        falls = λ e h. omega (arith, run_down e (count x - 1) (omega arith));
        spread-fits = spread-fits x ok;
        spread-high = spread-high x ok;
      }

  -- position t, going up or down
  pub index-at : (t : ℕ) → t < count x → index x t ≡ index_at (strided_of x) t
  unfolding strided_of index_at s
  index-at t h = go (upward x) (run t h)
    where
      go : (b : Bool) → Moved b (index x 0) (index x t) (t * s) → index x t ≡ moved b (index x 0) (t * s)
      go true e = e
      go false e = omega arith

  pub address-at : (t : ℕ) → t < count x → rank (owner_of (layout x)) (index x t) ≡ rank (owner_of (layout x)) (index_at (strided_of x) t)
  address-at t h = ap (rank (owner_of (layout x))) (index-at t h)

  pub cell-at : (t : ℕ) → t < count x → cell x t ≡ cell_at (strided_of x) t
  unfolding cell cell_at strided_of
  cell-at t h = ap (cell_of (layout x)) (index-at t h)

  pub owned_at_lem : (q t : ℕ) → t < count x → cyclic_owns x q t ≡ owned_at (strided_of x) q t
  unfolding owned_at strided_of
  owned_at_lem q t h = ap (owns (owner_of (layout x)) q) (index-at t h)

  pub place-in : (q : ℕ) → head_or (count x) (passing (cyclic_owns x q) 0 (count x)) ≡ place_in (strided_of x) q
  unfolding place_in strided_of
  place-in q =
      ap (head_or (count x))
      (passing-same (cyclic_owns x q) (owned_at (strided_of x) q) (count x) 0 (λ t h l. owned_at_lem q t (omega arith)))

-- its steps
module _ (x : Section) where
  pub steps-in : cyclic_steps x ≡ steps_in (strided_of x)
  unfolding cyclic_steps strided_of spread
  steps-in = refl
