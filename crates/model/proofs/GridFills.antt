-- Sections of a grid are lawful, as a kind that is filled: their walk leads through each processor's list, and a fill from a
-- place of a processor is accepted.
use Prim.Native.Nat.{ℕ, suc, ◌*◌, ◌/◌, ◌%◌, ◌≤◌, ◌<◌}
use mathlib.Core.Path.{◌≡◌, refl, sym, ap, ◌∙◌}
use mathlib.Core.Bool.{true}
use mathlib.Core.List.{[], ◌∷◌, ◌++◌}
use lib.IntN.{ℤ, pos}
use lib.ListN.{length, get_or}
use Rattle.model.specs.Mappings.{Section}
use Rattle.model.specs.Ownership.{nat}
use Rattle.model.specs.Sections.{layout, index}
use Rattle.model.specs.Questions.{ask, first_no, between, of_quota}
use Rattle.model.specs.Axes.{Axis, paired, axis_of, places_on, rows}
use Rattle.model.specs.declared.three.Three.{Three}
use Rattle.model.specs.Grids.{GridSection, sections_of, mappings_in, grid_array, grid_axis, indices_of, indices_at, of_grid_section, of_grid_processor}
use Rattle.model.specs.GridCalls.{is_place_on, GridFill, of_grid_fill}
use Rattle.model.specs.GridDemands.{grids}
use Rattle.model.proofs.QuestionLaws.{all_yes, asks-on, none-no, is_below_lem}
use Rattle.model.proofs.SectionLaws.{index-lt, declared-at}
use Rattle.model.proofs.NeighbourLaws.{cost-le, next-apart}
use Rattle.model.proofs.SectionFills.{distinct}
use Rattle.model.proofs.PairLaws.{pair-first, pair-second, pair_of, first-lt, second_lt}
use Rattle.model.proofs.AxisLaws.{IsPlace, place-asked}
use Rattle.model.proofs.KindLaws.{Laws}
use Rattle.model.proofs.RowNeighbours.{along-row}
use Rattle.model.proofs.GridAccepted.{first-yes, second-yes, third-yes, sections-mapped}
use Rattle.model.proofs.GridDemand2Holds.{grid-dealt}
use Rattle.model.proofs.GridWalks.{grid-sound, grid-walks}
use Rattle.model.proofs.GridFillCalls.{grid-passed}

module _ (x : GridSection) where
  abbrev s : Three Section
  s = sections_of x

  abbrev a : Axis
  a = axis_of s.first

  abbrev b : Axis
  b = axis_of s.second

  abbrev c : Axis
  c = axis_of s.third

  -- the position in each dimension
  record Parts (t : ℕ) : Type 0 where
    first : t % a.count < a.count
    second : t / a.count % b.count < b.count
    third : t / a.count / b.count < c.count

  parts : (t : ℕ) → t < (grid_axis s).count → Parts t
  unfolding grid_axis
  parts t h =
      let l = second_lt a.count (b.count * c.count) t h in
      record {
        first = first-lt a.count (b.count * c.count) t h;
        second = first-lt b.count c.count (t / a.count) l;
        third = second_lt b.count c.count (t / a.count) l;
      }

  module _ (ok : first_no (of_grid_section x) ≡ 0) where
    dealt : (i : ℕ) → i < (grid_axis s).array.size → (grid_axis s).array.owner i < (grid_axis s).array.processors
    unfolding grid_axis grid_array
    dealt = grid-dealt (mappings_in s) (sections-mapped x ok)

    named : (t : ℕ) → t < (grid_axis s).count → indices_of (mappings_in s) ((grid_axis s).element t) ≡ indices_at s t
    unfolding grid_axis indices_of indices_at layout
    named t h =
        let p = parts t h in
        let r : ℕ = t / a.count in
        let i : ℕ = index s.first (t % a.count) in
        let j : ℕ = index s.second (r % b.count) in
        let k : ℕ = index s.third (r / b.count) in
        let v : ℕ = paired b.array.size j k in
        let l = index-lt s.first (first-yes x ok) (t % a.count) p.first in
        let m = index-lt s.second (second-yes x ok) (r % b.count) p.second in
        rw (
          pair-first a.array.size i v l,
          pair-second a.array.size i v l,
          pair-first b.array.size j k m,
          pair-second b.array.size j k m,
        )
        (λ z. record {
          first = declared-at s.first (first-yes x ok) (t % a.count) p.first z;
          second = declared-at s.second (second-yes x ok) (r % b.count) p.second z;
          third = declared-at s.third (third-yes x ok) (r / b.count) p.third z;
        })

    apart-all : (t u : ℕ) → t < (grid_axis s).count → u < (grid_axis s).count → indices_at s t ≡ indices_at s u → t ≡ u
    unfolding indices_at
    apart-all t u h l e =
        let p = parts t h in
        let q = parts u l in
        let i = distinct s.first (first-yes x ok) _ _ p.first q.first (ap (λ (z : Three ℤ). z.first) e) in
        let j = distinct s.second (second-yes x ok) _ _ p.second q.second (ap (λ (z : Three ℤ). z.second) e) in
        let k = distinct s.third (third-yes x ok) _ _ p.third q.third (ap (λ (z : Three ℤ). z.third) e) in
        let r : t / a.count ≡ u / a.count =
        sym (pair_of b.count (t / a.count)) ∙ (λ z. paired b.count (j z) (k z)) ∙ pair_of b.count (u / a.count) in
        sym (pair_of a.count t) ∙ (λ z. paired a.count (i z) (r z)) ∙ pair_of a.count u

    accepts : (f : GridFill) → f.section ≡ x → (q t : ℕ) → f.processor ≡ pos q → f.place ≡ pos t
        → q < (grid_axis s).array.processors → IsPlace (grid_axis s) q t → between (pos 3) (pos 1000000) f.quota ≡ true
        → first_no (of_grid_fill f) ≡ 0
    unfolding nat
    accepts f e q t p l h place quota =
        let last = of_grid_processor (grid_axis s).array (pos q) ++ (ask 10 (is_place_on (grid_axis s) (pos q) (pos t)) ∷ []) ++ of_quota f.quota in
        rw (e, p, l)
        (asks-on (of_grid_section x) last (all_yes (of_grid_section x) refl ok)
        ∙ none-no last (is_below_lem q (pos (grid_axis s).array.processors) h, (place-asked (grid_axis s) q t place, (quota, tt))))

    neighbours : (q j : ℕ) → suc j < length (places_on (grid_axis s) q)
        → grids.Neighbours x (get_or (places_on (grid_axis s) q) j 0) (get_or (places_on (grid_axis s) q) (suc j) 0)
    unfolding grid_axis
    neighbours q j h same =
        let r = along-row a (rows b c) (grid-walks x ok) q j h same in
        rw r.next (next-apart s.first (first-yes x ok) _ r.below r.stays)

  cheap : (t : ℕ) → (grid_axis s).cost t ≤ 3
  unfolding grid_axis
  cheap t = cost-le s.first (t % a.count)

pub grid-laws : Laws grids
grid-laws = record {
  lawful = λ x ok. record {
    walks = grid-walks x ok;
    dealt = dealt x ok;
    inside = (grid-sound x ok).elements;
    named = named x ok;
    distinct = apart-all x ok;
    accepts = accepts x ok;
    neighbours = neighbours x ok;
    cheap = cheap x;
  };
  quota = λ f e. (grid-passed f e).quota.from;
}
