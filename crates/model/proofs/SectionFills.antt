-- Sections of rank 1 are lawful, as a kind that is filled: their walk leads through each processor's list, and a fill from a
-- place of a processor is accepted.
use Prim.Native.Nat.{ℕ, ◌<◌}
use mathlib.Core.Path.{◌≡◌, refl, ap, ◌∙◌}
use mathlib.Core.Bool.{true}
use mathlib.Core.List.{◌++◌}
use lib.IntN.{pos}
use Rattle.model.specs.Mappings.{Section}
use Rattle.model.specs.Ownership.{from_lower, layout_of}
use Rattle.model.specs.Sections.{element_at, layout, count, index, address, owns_at, places, first_place}
use Rattle.model.specs.Questions.{first_no, between, is_place, of_section, of_processor, of_place, of_quota}
use Rattle.model.specs.Axes.{axis_of, owns_on, places_on, first_on}
use Rattle.model.specs.Calls.{FillCall, of_fill, walk_of}
use Rattle.model.specs.GridCalls.{is_place_on}
use Rattle.model.specs.Demand3.{Leads, sections}
use Rattle.model.proofs.AcceptedLaws.{mapping-yes}
use Rattle.model.proofs.QuestionLaws.{all_yes, asks-on, none-no, is_below_lem}
use Rattle.model.proofs.SectionLaws.{index-lt, declared-at, index-inj}
use Rattle.model.proofs.Demand2Holds.{owner-lt}
use Rattle.model.proofs.FillCalls.{passed}
use Rattle.model.proofs.Walking.{walks-on}
use Rattle.model.proofs.AxisLaws.{IsPlace, place-asked}
use Rattle.model.proofs.AxisLaws as axes
use Rattle.model.proofs.KindLaws.{Laws}
use Rattle.model.proofs.NeighbourLaws.{cost-le, neighbours-apart}

pub places-lead : (x : Section) (q : ℕ) → first_no (of_section x) ≡ 0 → Leads (walk_of x) (first_place x q) (places x q)
unfolding walk_of address first_place first_on places places_on owns_at owns_on
places-lead x q ok = axes.places-lead (axis_of x) (walks-on x ok) q

module _ (x : Section) (ok : first_no (of_section x) ≡ 0) where
  accepts : (c : FillCall) → c.section ≡ x → (q t : ℕ) → c.processor ≡ pos q → c.place ≡ pos t
      → q < (layout x).processors → IsPlace (axis_of x) q t → between (pos 3) (pos 1000000) c.quota ≡ true
      → first_no (of_fill c) ≡ 0
  unfolding layout layout_of is_place is_place_on owns_at owns_on
  accepts c s q t p e h place quota =
      let last = of_processor x.mapping (pos q) ++ of_place x (pos q) (pos t) ++ of_quota c.quota in
      rw (s, p, e)
      (asks-on (of_section x) last (all_yes (of_section x) refl ok)
      ∙ none-no last (is_below_lem q x.mapping.processors h, (place-asked (axis_of x) q t place, (quota, tt))))

  pub distinct : (t u : ℕ) → t < count x → u < count x → element_at x.triplet t ≡ element_at x.triplet u → t ≡ u
  unfolding index
  distinct t u h l e = index-inj x ok t u h l (ap (from_lower x.mapping) e)

pub section-laws : Laws sections
unfolding layout
section-laws = record {
  lawful = λ x ok. record {
    walks = walks-on x ok;
    dealt = owner-lt x.mapping (mapping-yes x ok);
    inside = index-lt x ok;
    named = declared-at x ok;
    distinct = distinct x ok;
    accepts = accepts x ok;
    neighbours = neighbours-apart x ok;
    cheap = cost-le x;
  };
  quota = λ c e. (passed c e).quota.from;
}
