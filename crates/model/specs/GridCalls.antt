-- What each call about a grid answers: the full result, or the number of the first question that is answered no with every
-- other field 0. Definitions only.
use Rattle.std.specs.Prelude.{ℕ, Bool, cond, ◌&&◌, ◌||◌, List, ◌∷◌, [], ◌++◌, ltb, eqb, ℤ, pos}
use Rattle.std.specs.Int.Signed.{le_z}
use Rattle.model.specs.Mappings.{Section}
use Rattle.model.specs.Ownership.{nat, rank, back_to}
use Rattle.model.specs.Sections.{count}
use Rattle.model.specs.Steps.{steps_of}
use Rattle.model.specs.Filling.{Request, Outcome, answer}
use Rattle.model.specs.Questions.{Question, ask, first_no, of_quota}
use Rattle.model.specs.Axes.{Axis, owns_on, first_on, walk_on}
use Rattle.model.specs.declared.three.Three.{Three}
use Rattle.model.specs.Grids.{Grid, GridSection, up_to, mappings_of, sections_of, grid_array, grid_axis}
use Rattle.model.specs.Grids.{number_of, indices_of, of_grid, of_grid_section, of_grid_processor, of_indices, of_grid_address}
use Rattle.model.specs.Calls.{OwnershipAnswer, SectionStepsAnswer, no_report, steps_report, PlaceAnswer, FillOf}
use Rattle.model.specs.ByteFills.{BytesOf, in_words, bytes_by, outcome_by}

-- ---- ownership, going back

-- the declared indices of an element, of which those past the rank are not looked at
abbrev pub indices_in : Grid → Three ℤ → Three ℤ
indices_in g j = up_to g.rank (pos 0) j

abbrev pub of_grid_ownership : Grid → Three ℤ → List Question
of_grid_ownership g j = of_grid g ++ of_indices (mappings_of g) (indices_in g j)

-- processor and local address of the element of these declared indices: "the number of its elements earlier in storage order"
unfoldable pub grid_ownership : Grid → Three ℤ → OwnershipAnswer
grid_ownership g j =
    let e = first_no (of_grid_ownership g j) in
    let owner : ℕ → ℕ = (grid_array (mappings_of g)).owner in
    let i : ℕ = number_of (mappings_of g) (indices_in g j) in
    cond (eqb e 0) (record { refusal = 0; processor = owner i; address = rank owner i }) (record { refusal = e; processor = 0; address = 0 })

pub record GridBackAnswer : Type 0 where
  pub refusal : ℕ
  pub indices : Three ℤ

abbrev pub zeros : Three ℤ
zeros = record { first = pos 0; second = pos 0; third = pos 0 }

abbrev pub of_grid_back : Grid → ℤ → ℤ → List Question
of_grid_back g q x = of_grid g ++ of_grid_processor (grid_array (mappings_of g)) q ++ of_grid_address (grid_array (mappings_of g)) q x

-- the declared indices of the element at an address of grid processor q; those past the rank are 0
unfoldable pub grid_going_back : Grid → ℤ → ℤ → GridBackAnswer
grid_going_back g q x =
    let e = first_no (of_grid_back g q x) in
    let i : ℕ = back_to (grid_array (mappings_of g)).owner (grid_array (mappings_of g)).size (nat q) (nat x) in
    cond (eqb e 0) (record { refusal = 0; indices = indices_of (mappings_of g) i }) (record { refusal = e; indices = zeros })

-- ---- section steps

-- the count of the section, and each dimension's count and steps
pub record GridStepsAnswer : Type 0 where
  pub refusal : ℕ
  pub count : ℕ
  pub dimensions : Three SectionStepsAnswer

abbrev pub no_steps : SectionStepsAnswer
no_steps = record { refusal = 0; count = 0; steps = 0; first = no_report; second = no_report }

unfoldable pub grid_steps : GridSection → GridStepsAnswer
grid_steps x =
    let e = first_no (of_grid_section x) in
    let s : Three Section = sections_of x in
    cond (eqb e 0)
    (record {
      refusal = 0;
      count = (grid_axis s).count;
      dimensions = record {
        first = steps_report (count s.first) (steps_of s.first);
        second = steps_report (count s.second) (steps_of s.second);
        third = steps_report (count s.third) (steps_of s.third);
      };
    })
    (record { refusal = e; count = 0; dimensions = record { first = no_steps; second = no_steps; third = no_steps } })

-- ---- first place

abbrev pub of_grid_place : GridSection → ℤ → List Question
of_grid_place x q = of_grid_section x ++ of_grid_processor (grid_axis (sections_of x)).array q

unfoldable pub grid_first_place : GridSection → ℤ → PlaceAnswer
grid_first_place x q =
    let e = first_no (of_grid_place x q) in
    cond (eqb e 0) (record { refusal = 0; place = first_on (grid_axis (sections_of x)) (nat q) }) (record { refusal = e; place = 0 })

-- ---- fill

-- 10: is the place the count, or a position whose element the processor owns?
unfoldable pub is_place_on : Axis → ℤ → ℤ → Bool
is_place_on a q t = le_z (pos 0) t && (eqb (nat t) a.count || (ltb (nat t) a.count && owns_on a (nat q) (nat t)))

abbrev pub GridFill : Type 0
GridFill = FillOf GridSection

abbrev pub of_grid_fill : GridFill → List Question
of_grid_fill c =
    of_grid_place c.section c.processor
    ++ (ask 10 (is_place_on (grid_axis (sections_of c.section)) c.processor c.place) ∷ [])
    ++ of_quota c.quota

unfoldable pub grid_request_of : GridFill → Request
grid_request_of c = record { refusal = first_no (of_grid_fill c); place = nat c.place; quota = nat c.quota; list = c.list }

unfoldable pub grid_fill : GridFill → Outcome
grid_fill c = answer (walk_on (grid_axis (sections_of c.section))) (grid_request_of c)

-- of bytes
abbrev pub GridByteFill : Type 0
GridByteFill = BytesOf GridSection

unfoldable pub grid_bytes_after : GridByteFill → List ℕ
grid_bytes_after c = bytes_by c.bytes (grid_fill (in_words c)).filled

unfoldable pub grid_outcome_of : GridByteFill → Outcome
grid_outcome_of c = outcome_by c.bytes (grid_fill (in_words c))
