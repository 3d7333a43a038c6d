-- "A grid of rank 1 answers as the rank-1 calls do, in every field." Assumes nothing.
use Prim.Native.Nat.{ℕ, ◌<◌}
use mathlib.Core.Path.{◌≡◌, refl, sym, ap, ◌∙◌}
use mathlib.Core.Bool.{Bool, true, and-true, ◌&&◌}
use mathlib.Core.List.{List, [], ◌∷◌, ◌++◌}
use native.Mathlib.Nat.{mod-eq_of_lt, div-eq_of_lt}
use native.Mathlib.Omega.{arith}
use lib.IntN.{ℤ, pos}
use Rattle.numbers.specs.Words.{words_of}
use Rattle.model.specs.Mappings.{Mapping, Section}
use Rattle.model.specs.declared.Steps.{Steps}
use Rattle.model.specs.declared.Steps.TheVariants.{NoStep, OneStep, TwoSteps}
use Rattle.model.specs.Ownership.{nat, last_index, from_lower, declared_index, layout_of, owner, held, back_to}
use Rattle.model.specs.Sections.{count, owns_at, places, first_place, address}
use Rattle.model.specs.Steps.{steps_of}
use Rattle.model.specs.Filling.{Outcome, stopped, answer}
use Rattle.model.specs.Questions.{Question, ask, first_no, between, is_below, of_mapping, is_index, of_section, of_processor, of_index, of_address, is_place, of_place, of_quota}
use Rattle.model.specs.Axes.{Array, array_of, owns_on, places_on, first_on}
use Rattle.model.specs.declared.three.Three.{Three}
use Rattle.model.specs.Grids.{Grid, GridSection, mappings_of, sections_of, grid_array, grid_axis, number_of, indices_of}
use Rattle.model.specs.Grids.{of_grid, of_grid_section, of_grid_processor, of_indices, of_grid_address}
use Rattle.model.specs.Calls.{ownership, GoingBackAnswer, going_back, SectionStepsAnswer, no_report, steps_report, section_steps, first_place_at, FillCall, of_fill, walk_of, request_of, fill}
use Rattle.model.specs.ByteFills.{in_words, outcome_by, bytes_by, bytes_after, outcome_of}
use Rattle.model.specs.GridCalls.{indices_in, of_grid_ownership, grid_ownership, zeros, of_grid_back, grid_going_back, GridStepsAnswer, no_steps, grid_steps}
use Rattle.model.specs.GridCalls.{of_grid_place, grid_first_place, is_place_on, GridFill, of_grid_fill, grid_request_of, grid_fill, GridByteFill, grid_bytes_after, grid_outcome_of}
use Rattle.model.specs.GridDemands.{reported, first_alone, AsRankOne}
use Rattle.model.proofs.AddressLaws.{rank-back}
use Rattle.model.proofs.QuestionLaws.{all_yes, asks-alike, both_yes, below-is}
use Rattle.model.proofs.AcceptedLaws.{whole-mapping, mapping-yes, index_is}
use Rattle.model.proofs.AnsweredLaws.{answers-alike}
use Rattle.model.proofs.FillCalls.{passed}
use Rattle.model.proofs.Walking.{walks-on}
use Rattle.model.proofs.GridWalks.{section-sound}
use Rattle.model.proofs.AlikeLaws.{Alike, rank-alike, held-alike, back-alike, first_alike, place-alike, fill-alike}
use Rattle.model.proofs.RankOneQuestions.{alone, array-alike, grid-asks, alone_on, axis-alike, section-asks}

-- 8, of an array that agrees with the mapping's
processor-asks : (m : Mapping) → first_no (of_mapping m) ≡ 0 → {a : Array} → Alike a (array_of m) → (q : ℤ)
    → is_below (pos a.processors) q ≡ is_below m.processors q
processor-asks m ok s q = ap (λ (z : ℤ). is_below z q) (ap pos s.processors ∙ sym (whole-mapping m ok).processors)

-- ---- ownership

module _ (d : Three Mapping) (j : Three ℤ) where
  abbrev m : Mapping
  m = d.first

  index-asks : first_no (of_grid_ownership (alone d) j) ≡ first_no (of_mapping m ++ of_index m j.first)
  unfolding mappings_of is_index between last_index
  index-asks =
      asks-alike (of_grid (alone d)) (of_mapping m) (of_indices (mappings_of (alone d)) (indices_in (alone d) j)) (of_index m j.first) refl refl
      (grid-asks d)
      (λ ok. ap (λ (b : Bool). first_no (ask 9 b ∷ [])) (and-true (is_index m j.first && true) ∙ and-true (is_index m j.first)))

  number_is : number_of (mappings_of (alone d)) (indices_in (alone d) j) ≡ from_lower m j.first
  unfolding number_of mappings_of from_lower nat
  number_is = omega arith

  inside : first_no (of_mapping m ++ of_index m j.first) ≡ 0 → from_lower m j.first < (layout_of m).size
  unfolding from_lower
  inside z = (index_is m j.first (all_yes (of_index m j.first) refl (both_yes (of_mapping m) (of_index m j.first) refl z).1).0).below

  same-ownership : grid_ownership (alone d) j ≡ ownership m j.first
  unfolding grid_ownership ownership
  same-ownership =
      answers-alike (λ a b. a ≡ b) (of_grid_ownership (alone d) j) (of_mapping m ++ of_index m j.first) index-asks _ _
      (λ n. record { refusal = n; processor = 0; address = 0 }) (λ n. record { refusal = n; processor = 0; address = 0 })
      (λ z.
      let a = array-alike d in
      rw (number_is, a.owner (from_lower m j.first) (inside z), rank-alike a (from_lower m j.first) (inside z)))
      (λ n. refl)

-- ---- going back

module _ (d : Three Mapping) (q x : ℤ) where
  abbrev of_one : List Question
  of_one = of_mapping d.first ++ of_processor d.first q ++ of_address d.first q x

  back-asks : first_no (of_grid_back (alone d) q x) ≡ first_no of_one
  unfolding layout_of
  back-asks =
      let m : Mapping = d.first in
      let a : Array = grid_array (mappings_of (alone d)) in
      asks-alike (of_grid (alone d)) (of_mapping m) (of_grid_processor a q ++ of_grid_address a q x) (of_processor m q ++ of_address m q x) refl refl
      (grid-asks d)
      (λ ok.
      let p = processor-asks m ok (array-alike d) q in
      let h = held-alike (array-alike d) (nat q) in
      (λ i. first_no (ask 8 (p i) ∷ ask 9 (is_below (pos (h i)) x) ∷ [])))

  -- the element that is led back to
  abbrev led : ℕ
  led = back_to (owner d.first) (layout_of d.first).size (nat q) (nat x)

  led-lt : first_no of_one ≡ 0 → led < (layout_of d.first).size
  unfolding layout_of nat
  led-lt z =
      let m : Mapping = d.first in
      let last = (both_yes (of_processor m q) (of_address m q x) refl (both_yes (of_mapping m) (of_processor m q ++ of_address m q x) refl z).1).1 in
      (rank-back (owner m) (nat m.size) (nat q) (nat x) (below-is x (pos (held (owner m) (nat m.size) (nat q))) (all_yes (of_address m q x) refl last).0).below).inside

  -- the indices past the rank are 0
  indices-are : led < (layout_of d.first).size
      → indices_of (mappings_of (alone d)) led ≡ record { first = declared_index d.first led; second = pos 0; third = pos 0 }
  unfolding indices_of mappings_of declared_index layout_of nat
  indices-are h = rw (mod-eq_of_lt h, div-eq_of_lt h)

  same_back : grid_going_back (alone d) q x
      ≡ record {
        refusal = (going_back d.first q x).refusal;
        indices = record { first = (going_back d.first q x).index; second = pos 0; third = pos 0 };
      }
  unfolding grid_going_back going_back layout_of
  same_back =
      answers-alike {B = GoingBackAnswer}
      (λ a b. a ≡ record { refusal = b.refusal; indices = record { first = b.index; second = pos 0; third = pos 0 } })
      (of_grid_back (alone d) q x) of_one back-asks _ _ (λ n. record { refusal = n; indices = zeros }) (λ n. record { refusal = n; index = pos 0 })
      (λ z. rw (back-alike (array-alike d) (nat q) (nat x), indices-are (led-lt z)))
      (λ n. refl)

-- ---- section steps

of_steps : (n : ℕ) (s : Steps)
    → ((steps_report n s).refusal ≡ 0) × ((steps_report n s).count ≡ n) × (steps_report n s ≡ reported (steps_report n s))
of_steps n NoStep = (refl, refl, refl)
of_steps n (OneStep x) = (refl, refl, refl)
of_steps n (TwoSteps r w) = (refl, refl, refl)

same-steps : (d : Three Section)
    → let a : SectionStepsAnswer = section_steps d.first in
    ((grid_steps (alone_on d)).refusal ≡ a.refusal) × ((grid_steps (alone_on d)).count ≡ a.count) × ((grid_steps (alone_on d)).dimensions.first ≡ reported a)
unfolding grid_steps section_steps sections_of
same-steps d =
    let x : Section = d.first in
    answers-alike {A = GridStepsAnswer} {B = SectionStepsAnswer}
    (λ a b. (a.refusal ≡ b.refusal) × (a.count ≡ b.count) × (a.dimensions.first ≡ reported b))
    (of_grid_section (alone_on d)) (of_section x) (section-asks d) _ _
    (λ n. record { refusal = n; count = 0; dimensions = record { first = no_steps; second = no_steps; third = no_steps } })
    (λ n. record { refusal = n; count = 0; steps = 0; first = no_report; second = no_report })
    (λ z. let r = of_steps (count x) (steps_of x) in (sym r.0, (axis-alike d z).count ∙ sym r.1, r.2))
    (λ n. (refl, refl, refl))

-- ---- first place

module _ (d : Three Section) (q : ℤ) where
  place-asks : first_no (of_grid_place (alone_on d) q) ≡ first_no (of_section d.first ++ of_processor d.first.mapping q)
  place-asks =
      asks-alike (of_grid_section (alone_on d)) (of_section d.first) (of_grid_processor (grid_axis (sections_of (alone_on d))).array q)
      (of_processor d.first.mapping q) refl refl (section-asks d)
      (λ ok. ap (λ (b : Bool). first_no (ask 8 b ∷ [])) (processor-asks d.first.mapping (mapping-yes d.first ok) (axis-alike d ok).array q))

  same-first-place : grid_first_place (alone_on d) q ≡ first_place_at d.first q
  unfolding grid_first_place first_place_at first_place places first_on places_on owns_at owns_on
  same-first-place =
      answers-alike (λ a b. a ≡ b) (of_grid_place (alone_on d) q) (of_section d.first ++ of_processor d.first.mapping q) place-asks _ _
      (λ n. record { refusal = n; place = 0 }) (λ n. record { refusal = n; place = 0 })
      (λ z.
      let ok = (both_yes (of_section d.first) (of_processor d.first.mapping q) refl z).0 in
      rw (first_alike (axis-alike d ok) (section-sound d.first ok) (nat q)))
      (λ n. refl)

-- ---- fill

module _ (d : Three Section) (q t quota : ℤ) (l : List ℕ) where
  abbrev on-grid : GridFill
  on-grid = record { section = alone_on d; processor = q; place = t; quota = quota; list = l }

  abbrev on-first : FillCall
  on-first = record { section = d.first; processor = q; place = t; quota = quota; list = l }

  fill-asks : first_no (of_grid_fill on-grid) ≡ first_no (of_fill on-first)
  unfolding is_place is_place_on owns_at owns_on
  fill-asks =
      asks-alike (of_grid_place (alone_on d) q) (of_section d.first ++ of_processor d.first.mapping q)
      ((ask 10 (is_place_on (grid_axis (sections_of (alone_on d))) q t) ∷ []) ++ of_quota quota)
      (of_place d.first q t ++ of_quota quota) refl refl (place-asks d q)
      (λ z.
      let ok = (both_yes (of_section d.first) (of_processor d.first.mapping q) refl z).0 in
      ap (λ (b : Bool). first_no (ask 10 b ∷ of_quota quota)) (place-alike (axis-alike d ok) (section-sound d.first ok) q t))

  same-fill : grid_fill on-grid ≡ fill on-first
  unfolding grid_fill grid_request_of fill request_of answer walk_of address
  same-fill =
      let filled = answers-alike (λ a b. a ≡ b) (of_grid_fill on-grid) (of_fill on-first) fill-asks _ _ (λ n. stopped 0 l) (λ n. stopped 0 l)
      (λ z.
      let y = passed on-first z in
      fill-alike (axis-alike d y.section) (section-sound d.first y.section) (walks-on d.first y.section) (nat t) (nat quota) l y.place)
      (λ n. refl) in
      (λ i. record { refusal = fill-asks i; filled = filled i })

same_bytes : (d : Three Section) (q t quota : ℤ) (bytes : List ℕ)
    → let c : GridByteFill = record { section = alone_on d; processor = q; place = t; quota = quota; bytes = bytes } in
    (grid_outcome_of c ≡ outcome_of (first_alone c)) × (grid_bytes_after c ≡ bytes_after (first_alone c))
unfolding grid_outcome_of outcome_of grid_bytes_after bytes_after in_words
same_bytes d q t quota bytes =
    let e = same-fill d q t quota (words_of 4 bytes) in
    (ap (outcome_by bytes) e, ap (λ (o : Outcome). bytes_by bytes o.filled) e)

-- ---- every call

is-alone : (g : Grid) → g.rank ≡ pos 1 → g ≡ alone g.dimensions
is-alone g e = λ i. record { rank = e i; dimensions = g.dimensions }

is-alone-on : (x : GridSection) → x.rank ≡ pos 1 → x ≡ alone_on x.dimensions
is-alone-on x e = λ i. record { rank = e i; dimensions = x.dimensions }

pub as-rank-one : AsRankOne
as-rank-one = record {
  of-ownership = λ g e j. ap (λ (h : Grid). grid_ownership h j) (is-alone g e) ∙ same-ownership g.dimensions j;
  of-going-back = λ g e q x. ap (λ (h : Grid). grid_going_back h q x) (is-alone g e) ∙ same_back g.dimensions q x;
  of-section-steps = λ x e.
      let a = ap grid_steps (is-alone-on x e) in
      let s = same-steps x.dimensions in
      (ap (λ (r : GridStepsAnswer). r.refusal) a ∙ s.0, ap (λ (r : GridStepsAnswer). r.count) a ∙ s.1, ap (λ (r : GridStepsAnswer). r.dimensions.first) a ∙ s.2);
  of-first-place = λ x e q. ap (λ (y : GridSection). grid_first_place y q) (is-alone-on x e) ∙ same-first-place x.dimensions q;
  of-byte-fill = λ c e.
      let s = same_bytes c.section.dimensions c.processor c.place c.quota c.bytes in
      let on : GridSection → GridByteFill = λ y. record { section = y; processor = c.processor; place = c.place; quota = c.quota; bytes = c.bytes } in
      let a = ap on (is-alone-on c.section e) in
      (ap grid_outcome_of a ∙ s.0, ap grid_bytes_after a ∙ s.1);
}
