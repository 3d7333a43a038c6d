-- What a plan is made of: a share of an accepted section as the section has it, and a place as one in each dimension. Assumes
-- nothing.
use Prim.Native.Nat.{ℕ, ◌*◌, ◌/◌, ◌%◌, ◌≤◌, ◌<◌}
use mathlib.Core.Path.{◌≡◌, sym, ap, ◌∙◌, subst}
use mathlib.Core.Bool.{true, ◌&&◌}
use native.Mathlib.Nat.{le_refl}
use native.Mathlib.Omega.{arith}
use borrow.Author.Tests.{lt-ltb, le-ltb}
use Rattle.numbers.proofs.Tests.{both_true}
use Rattle.model.specs.Mappings.{Section}
use Rattle.model.specs.Sections.{layout, owns_at, places, first_place}
use Rattle.model.specs.Questions.{first_no, of_section}
use Rattle.model.specs.Axes.{paired, Axis, axis_of, owns_on, places_on, first_on}
use Rattle.model.specs.Grids.{GridSection, sections_of}
use Rattle.model.proofs.HeldLaws.{held-le}
use Rattle.model.proofs.PairLaws.{pair_of, first-lt, second_lt}
use Rattle.model.proofs.GridAccepted.{first-yes, second-yes, third-yes}
use Rattle.section.specs.declared.shares.Share.{Share}
use Rattle.section.specs.Strides.{strided_of, Bounded}
use Rattle.section.specs.Shares.{owned_by, place_by, Fitted, Accepted}
use Rattle.section.proofs.StridedSections.{bounded}
use Rattle.section.proofs.ShareLaws.{owned-by, place-by}
use Rattle.grid_section.specs.Shares.{positions_in}
use Rattle.grid_section.proofs.LineLaws.{positions-low}
use Rattle.grid_section.proofs.LineLaws as lines
use Rattle.grid_fill.specs.declared.rows.RowPlan.{RowPlan}
use Rattle.model.specs.declared.three.Three.{Three}
use Rattle.model.specs.declared.Position.{Position}
use Rattle.grid_fill.specs.Rows.{ShareIn, held_on, PlanOf, On, Standing, place_of}
use Rattle.grid_fill.specs.Plans.{PlaceIn}
use Rattle.grid_fill.proofs.RowPlaces.{counts}

-- ---- one dimension

module _ (x : Section) (ok : first_no (of_section x) ≡ 0) where
  -- no processor has more elements than there are
  pub held-few : (q : ℕ) → held_on x q ≤ 2147483647
  unfolding strided_of layout
  held-few q = omega (arith, held-le (axis_of x).array.owner q (axis_of x).array.size, (bounded x ok).sized.size-high)

  module _ (s : Share) (i : ShareIn x s) where
    pub accepted : Accepted s
    accepted = record { whole = x; none = ok; share = i.share; processor = i.processor }

    pub fitted : Fitted s
    fitted = record {
      bounded = subst Bounded (sym (ap (λ (h : Share). h.section) i.share)) (bounded x ok);
      processor = i.processor;
    }

    pub first-is : place_by s ≡ first_on (axis_of x) s.processor
    unfolding first_on places_on owns_on first_place places owns_at
    first-is = ap place_by i.share ∙ sym (place-by x ok s.processor)

    pub owned-on : (t : ℕ) → t < (axis_of x).count → owned_by s t ≡ true → On (axis_of x) s.processor t
    unfolding owns_on owns_at
    owned-on t h e = (h, owned-by x ok s.processor t h ∙ sym (ap (λ (v : Share). owned_by v t) i.share) ∙ e)

-- ---- three

module _ (x : GridSection) (p : RowPlan) (o : PlanOf p x) where
  abbrev a : Axis
  a = axis_of (sections_of x).first

  abbrev b : Axis
  b = axis_of (sections_of x).second

  abbrev c : Axis
  c = axis_of (sections_of x).third

  abbrev m : ℕ
  m = p.shares.first.section.count

  abbrev n : ℕ
  n = p.shares.second.section.count

  first_count : m ≡ a.count
  first_count = counts (sections_of x).first (first-yes x o.accepted) p.shares.first o.first

  second-count : n ≡ b.count
  second-count = counts (sections_of x).second (second-yes x o.accepted) p.shares.second o.second

  third-count : p.shares.third.section.count ≡ c.count
  third-count = counts (sections_of x).third (third-yes x o.accepted) p.shares.third o.third

  -- the counts and their product are in range
  pub counts-low : (n ≤ 2147483647) × (p.shares.third.section.count ≤ 2147483647) × (m * (n * p.shares.third.section.count) ≤ 2147483647)
  unfolding strided_of
  counts-low =
      let all : m * (n * p.shares.third.section.count) ≡ a.count * (b.count * c.count) =
      λ i. first_count i * (second-count i * third-count i) in (
        (fitted (sections_of x).second (second-yes x o.accepted) p.shares.second o.second).bounded.count-high,
        (fitted (sections_of x).third (third-yes x o.accepted) p.shares.third o.third).bounded.count-high,
        omega (arith, all, positions-low (sections_of x) (lines.accepted x o.accepted)),
      )

  module _ (t : ℕ) (here : PlaceIn p.shares t) where
    -- of a position that the processor owns
    pub stands-inside : t < positions_in p.shares
        → (let at : Three Position = record { first = record { 0 = t % m }; second = record { 0 = t / m % n }; third = record { 0 = t / m / n } } in
        Standing x p at × (place_of x at ≡ t))
    stands-inside h = as-counted m n p.shares.third.section.count first_count second-count third-count h (here.owned h)
      where
        go : t < a.count * (b.count * c.count)
            → (owned_by p.shares.first (t % a.count) && owned_by p.shares.second (t / a.count % b.count) && owned_by p.shares.third (t / a.count / b.count)) ≡ true
            → (let at : Three Position = record { first = record { 0 = t % a.count }; second = record { 0 = t / a.count % b.count }; third = record { 0 = t / a.count / b.count } } in
            Standing x p at × (place_of x at ≡ t))
        go l e =
            let row : t / a.count < b.count * c.count = second_lt a.count (b.count * c.count) t l in
            let plane : t / a.count / b.count < c.count = second_lt b.count c.count (t / a.count) row in
            let front = both_true (owned_by p.shares.first (t % a.count) && owned_by p.shares.second (t / a.count % b.count)) (owned_by p.shares.third (t / a.count / b.count)) e in
            let both = both_true (owned_by p.shares.first (t % a.count)) (owned_by p.shares.second (t / a.count % b.count)) front.0 in (
              record {
                within = omega (arith, plane);
                first = λ _. owned-on (sections_of x).first (first-yes x o.accepted) p.shares.first o.first _ (first-lt a.count (b.count * c.count) t l) both.0;
                second = λ _. owned-on (sections_of x).second (second-yes x o.accepted) p.shares.second o.second _ (first-lt b.count c.count (t / a.count) row) both.1;
                third = λ _. owned-on (sections_of x).third (third-yes x o.accepted) p.shares.third o.third _ plane front.1;
              },
              rw (lt-ltb _ _ plane) (ap (paired a.count (t % a.count)) (pair_of b.count (t / a.count)) ∙ pair_of a.count t),
            )

        as-counted : (i j k : ℕ) → i ≡ a.count → j ≡ b.count → k ≡ c.count → t < i * (j * k)
            → (owned_by p.shares.first (t % i) && owned_by p.shares.second (t / i % j) && owned_by p.shares.third (t / i / j)) ≡ true
            → (let at : Three Position = record { first = record { 0 = t % i }; second = record { 0 = t / i % j }; third = record { 0 = t / i / j } } in
            Standing x p at × (place_of x at ≡ t))
        as-counted i j k e f g l own = rw (e, f) (go (rw (e, f, g) at l) (rw (e, f) at own))

    -- of the count
    pub stands-end : positions_in p.shares ≤ t
        → (let at : Three Position = record { first = p.enter; second = p.row; third = record { 0 = p.shares.third.section.count } } in
        Standing x p at × (place_of x at ≡ t))
    stands-end h = as-counted p.shares.third.section.count third-count
      where
        end : a.count * (b.count * c.count) ≡ t
        end = (λ i. sym first_count i * (sym second-count i * sym third-count i)) ∙ omega (arith, here.within, h)

        as-counted : (k : ℕ) → k ≡ c.count
            → (let at : Three Position = record { first = p.enter; second = p.row; third = record { 0 = k } } in
            Standing x p at × (place_of x at ≡ t))
        as-counted k e =
            rw e (
              record {
                within = le_refl c.count;
                first = λ l. absurd (omega arith);
                second = λ l. absurd (omega arith);
                third = λ l. absurd (omega arith);
              },
              rw (le-ltb c.count c.count (le_refl c.count)) end,
            )
