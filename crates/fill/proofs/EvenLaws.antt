-- Along an accepted section's walk the address moves by what depends on the step and on the column's rest by the period, so
-- that moves can be learnt.
-- Assumes nothing.
use Prim.Native.Nat.{ℕ, ◌+◌, ◌-◌, ◌*◌, ◌/◌, ◌%◌, ◌≤◌, ◌<◌}
use mathlib.Core.Path.{◌≡◌, refl, sym, ap, subst}
use mathlib.Core.Bool.{Bool, true, false, true≢false, cond}
use mathlib.Core.Logic.{◌⊎◌, inl, inr, ⊎_elim}
use native.Mathlib.Nat.{zero-add, le-mul_of_pos_right, mod-eq_of_lt, div-add-mod'}
use native.Mathlib.Decide.{dec_lt}
use native.Mathlib.Omega.{arith}
use lib.Dec.{ltb}
use lib.IntN.{nat_abs}
use Rattle.model.specs.Mappings.{Section}
use Rattle.model.specs.Ownership.{owner_of, rank}
use Rattle.model.specs.Sections.{layout, count, index, address}
use Rattle.model.specs.Steps.{upward}
use Rattle.model.specs.Questions.{first_no, of_section}
use Rattle.model.proofs.AcceptedLaws.{accepted}
use Rattle.model.proofs.SectionLaws.{Moved, index-moved, index-lt}
use Rattle.model.proofs.Rests.{le-or-lt}
use Rattle.walk.specs.declared.moves.Moves.{Moves}
use Rattle.walk.specs.Moving.{move_from, Small}
use Rattle.fill.specs.SectionMoves.{cyclic_owns, cyclic_address, block_walk, column_at, moves_of, elements_of}
use Rattle.fill.specs.Starting.{Evened}
use Rattle.walk.specs.Learning.{shifted, element_at, address_at, Placed, period_of}
use Rattle.walk.proofs.MoveLaws.{places-alike, columns-alike}
use Rattle.fill.proofs.PaceLaws.{column-low, paces, own-paces, stands-in}
use Rattle.fill.proofs.AddressMoves.{strides-alike}

moved-shifted : (up : Bool) (i j n : ℕ) → Moved up i j n → shifted up i n ≡ j
moved-shifted true i j n e = sym e
moved-shifted false i j n e = omega arith

-- numbers with one rest by a
strides-between : (a c d : ℕ) → c % a ≡ d % a → (j : ℕ) × ((d ≡ c + a * j) ⊎ (c ≡ d + a * j))
strides-between a c d e = ⊎_elim (λ h. (d / a - c / a, inl (up c d e h))) (λ h. (c / a - d / a, inr (up d c (sym e) (omega arith)))) (le-or-lt (c / a) (d / a))
  where
    up : (c d : ℕ) → c % a ≡ d % a → c / a ≤ d / a → d ≡ c + a * (d / a - c / a)
    up c d e h =
        let s : c / a + (d / a - c / a) ≡ d / a = omega arith in
        omega (arith, div-add-mod' c a, div-add-mod' d a, ap (λ (z : ℕ). z * a) s)

module _ (x : Section) (ok : first_no (of_section x) ≡ 0) where
  from_first : (t : ℕ) → t < count x → Moved (upward x) (index x 0) (index x t) (t * nat_abs x.triplet.stride)
  from_first t h = subst (λ (u : ℕ). Moved (upward x) (index x 0) (index x u) (t * nat_abs x.triplet.stride)) (zero-add t) (index-moved x ok 0 t (omega arith))

  -- the element at a position
  pub element-is : (t : ℕ) → t < count x → element_at (elements_of x) t ≡ index x t
  unfolding element_at
  element-is t h = moved-shifted (upward x) (index x 0) (index x t) _ (from_first t h)

  pub address_is : (t : ℕ) → t < count x → cyclic_address x t ≡ address_at (elements_of x) t
  unfolding address address_at
  address_is t h = ap (rank (owner_of (layout x))) (sym (element-is t h))

  -- there are no more positions than elements
  pub count-high : count x ≤ 2147483647
  count-high = elim (dec_lt 0 (count x)) [
    | no f ↦ omega arith
    | yes h ↦ go (upward x) (from_first (count x - 1) (omega arith)) (index-lt x ok 0 h) (index-lt x ok (count x - 1) (omega arith))
  ]
    where
      far : count x - 1 ≤ (count x - 1) * nat_abs x.triplet.stride
      far = le-mul_of_pos_right (count x - 1) (accepted x ok).step-pos

      go : (up : Bool) → Moved up (index x 0) (index x (count x - 1)) ((count x - 1) * nat_abs x.triplet.stride)
          → index x 0 < (layout x).size → index x (count x - 1) < (layout x).size → count x ≤ 2147483647
      go true e h l = omega (arith, far, (accepted x ok).sized.size-high)
      go false e h l = omega (arith, far, (accepted x ok).sized.size-high)

  -- each position has an element of the array
  pub placed : Placed (elements_of x) (count x)
  placed = record {
    sized = (accepted x ok).sized;
    few = omega (arith, count-high);
    stride = omega (arith, (accepted x ok).step-high);
    falls = λ down t h. low (upward x) down t (from_first t h);
    inside = λ t h. rw (element-is t h) (index-lt x ok t h);
  }
    where
      low : (up : Bool) → up ≡ false → (t : ℕ) → Moved up (index x 0) (index x t) (t * nat_abs x.triplet.stride)
          → t * nat_abs x.triplet.stride ≤ index x 0
      low true e t h = absurd (true≢false e)
      low false e t h = omega arith

  -- columns with one rest by the period lie whole alignment strides apart
  apart : (c d : ℕ) → c < (layout x).block → d < (layout x).block → c % period_of (elements_of x) ≡ d % period_of (elements_of x)
      → (j : ℕ) × ((d ≡ c + (layout x).stride * j) ⊎ (c ≡ d + (layout x).stride * j))
  unfolding period_of
  apart c d h l = go (ltb (layout x).stride (layout x).block)
    where
      go : (b : Bool) → c % cond b (layout x).stride (layout x).block ≡ d % cond b (layout x).stride (layout x).block
          → (j : ℕ) × ((d ≡ c + (layout x).stride * j) ⊎ (c ≡ d + (layout x).stride * j))
      go true e = strides-between (layout x).stride c d e
      go false e = (0, inl (omega (arith, mod-eq_of_lt h, mod-eq_of_lt l)))

  -- the walk of each processor q
  pub even : (near far both q : ℕ) → Small (moves_of x near far both) → Evened x q (moves_of x near far both)
  unfolding block_walk paces
  even near far both q small =
      record {
        even = record { paces = paces x ok near far both q; address = λ t h o. address_is t h; alike = both-move };
        own = own-paces x ok near far both q;
        stands = stands-in x ok near far both q;
      }
    where
      -- where a place of the processor in column c leads
      leads : (c t : ℕ) → t < count x → cyclic_owns x q t ≡ true → column_at x t ≡ c → t + (move_from (moves_of x near far both) c).places < count x
          → (cyclic_owns x q (t + (move_from (moves_of x near far both) c).places) ≡ true)
          × (column_at x (t + (move_from (moves_of x near far both) c).places) ≡ (move_from (moves_of x near far both) c).column)
      leads c t h o e l =
          let p = paces x ok near far both q in
          let g : t + (move_from (moves_of x near far both) (column_at x t)).places < count x = rw e l in
          rw (← e) (p.same t h o g, p.columns t h o g)

      both-move : (t u : ℕ) → t < count x → u < count x → cyclic_owns x q t ≡ true → cyclic_owns x q u ≡ true
          → (move_from (moves_of x near far both) (column_at x t)).tries ≡ (move_from (moves_of x near far both) (column_at x u)).tries
          → column_at x t % period_of (elements_of x) ≡ column_at x u % period_of (elements_of x)
          → t + (move_from (moves_of x near far both) (column_at x t)).places < count x → u + (move_from (moves_of x near far both) (column_at x u)).places < count x
          → cyclic_address x (t + (move_from (moves_of x near far both) (column_at x t)).places) + cyclic_address x u
          ≡ cyclic_address x (u + (move_from (moves_of x near far both) (column_at x u)).places) + cyclic_address x t
      both-move t u h l o o' e r g g' =
          let m : Moves = moves_of x near far both in
          let same = places-alike m (column_at x t) (column_at x u) e in
          let even = columns-alike m (column_at x t) (column_at x u) e small.down in
          let a = leads (column_at x t) t h o refl g in
          let b = leads (column_at x u) u l o' refl g' in
          let on : (move_from m (column_at x t)).column + column_at x u ≡ column_at x (u + (move_from m (column_at x u)).places) + column_at x t = omega (arith, even, b.1) in
          let d = apart (column_at x t) (column_at x u) (column-low x ok t) (column-low x ok u) r in
          rw (← same)
          (strides-alike x ok q t u (move_from m (column_at x t)).places d.0 g (rw (← same) at g') o o' a.0 (rw (← same) at b.0) d.1
          (rw a.1 (rw (← same) at on)))
