-- What each call answers: the full result, or the number of the first question that is answered no with every other field 0.
-- Definitions only.
use Rattle.std.specs.Prelude.{ℕ, ◌<◌, cond, List, [], ◌∷◌, ◌++◌, eqb, ℤ, pos, neg_ℤ}
use Rattle.model.specs.Mappings.{Mapping, Section}
use Rattle.model.specs.declared.Step.{Step}
use Rattle.model.specs.declared.Steps.{Steps}
use Rattle.model.specs.declared.Steps.TheVariants.{NoStep, OneStep, TwoSteps}
use Rattle.model.specs.Ownership.{nat, from_lower, declared_index, owner, rank, held, back_to}
use Rattle.model.specs.Sections.{count, address, first_place}
use Rattle.model.specs.Steps.{steps_of, cost, next_place}
use Rattle.model.specs.Filling.{Walk, Request, Outcome, answer}
use Rattle.model.specs.Questions.{Question, first_no, of_mapping, of_section, of_processor, of_index, of_address, of_place, of_quota}

-- ---- ownership, going back, local count

pub record OwnershipAnswer : Type 0 where
  pub refusal : ℕ
  pub processor : ℕ
  pub address : ℕ

-- processor and local address of the element of declared index j
unfoldable pub ownership : Mapping → ℤ → OwnershipAnswer
ownership m j =
    let e = first_no (of_mapping m ++ of_index m j) in
    cond (eqb e 0) (record { refusal = 0; processor = owner m (from_lower m j); address = rank (owner m) (from_lower m j) })
    (record { refusal = e; processor = 0; address = 0 })

pub record GoingBackAnswer : Type 0 where
  pub refusal : ℕ
  pub index : ℤ

-- the declared index of the element at an address of processor q
unfoldable pub going_back : Mapping → ℤ → ℤ → GoingBackAnswer
going_back m q a =
    let e = first_no (of_mapping m ++ of_processor m q ++ of_address m q a) in
    let i = back_to (owner m) (nat m.size) (nat q) (nat a) in
    cond (eqb e 0) (record { refusal = 0; index = declared_index m i }) (record { refusal = e; index = pos 0 })

pub record LocalCountAnswer : Type 0 where
  pub refusal : ℕ
  pub elements : ℕ

-- how many elements processor q holds
unfoldable pub local_count : Mapping → ℤ → LocalCountAnswer
local_count m q =
    let e = first_no (of_mapping m ++ of_processor m q) in
    cond (eqb e 0) (record { refusal = 0; elements = held (owner m) (nat m.size) (nat q) })
    (record { refusal = e; elements = 0 })

-- ---- section steps

-- a step as it is reported: its column move is negative where it goes back
pub record StepReport : Type 0 where
  pub cells : ℕ
  pub courses : ℕ
  pub column : ℤ

-- the count, how many steps there are, and each: first the processor step or the one step, second the return step
pub record SectionStepsAnswer : Type 0 where
  pub refusal : ℕ
  pub count : ℕ
  pub steps : ℕ
  pub first : StepReport
  pub second : StepReport

abbrev pub no_report : StepReport
no_report = record { cells = 0; courses = 0; column = pos 0 }

abbrev pub forward : Step → StepReport
forward r = record { cells = r.cells; courses = r.courses; column = pos r.column }

abbrev pub backward : Step → StepReport
backward w = record { cells = w.cells; courses = w.courses; column = neg_ℤ (pos w.column) }

-- the report of the steps of a section of n elements
abbrev pub steps_report : ℕ → Steps → SectionStepsAnswer
steps_report n NoStep = record { refusal = 0; count = n; steps = 0; first = no_report; second = no_report }
steps_report n (OneStep x) = record { refusal = 0; count = n; steps = 1; first = forward x; second = no_report }
steps_report n (TwoSteps r w) = record { refusal = 0; count = n; steps = 2; first = forward r; second = backward w }

unfoldable pub section_steps : Section → SectionStepsAnswer
section_steps x =
    let e = first_no (of_section x) in
    cond (eqb e 0) (steps_report (count x) (steps_of x))
    (record { refusal = e; count = 0; steps = 0; first = no_report; second = no_report })

-- ---- first place

pub record PlaceAnswer : Type 0 where
  pub refusal : ℕ
  pub place : ℕ

-- the first place of processor q
unfoldable pub first_place_at : Section → ℤ → PlaceAnswer
first_place_at x q =
    let e = first_no (of_section x ++ of_processor x.mapping q) in
    cond (eqb e 0) (record { refusal = 0; place = first_place x (nat q) }) (record { refusal = e; place = 0 })

-- ---- fill

-- of a section of any kind
pub record FillOf (S : Type 0) : Type 0 where
  pub section : S
  pub processor : ℤ
  pub place : ℤ
  pub quota : ℤ
  pub list : List ℕ

abbrev pub FillCall : Type 0
FillCall = FillOf Section

abbrev pub of_fill : FillCall → List Question
of_fill c =
    of_section c.section ++ of_processor c.section.mapping c.processor ++ of_place c.section c.processor c.place
    ++ of_quota c.quota

-- a section's walk; a fill goes on while 3 tries are left
unfoldable pub walk_of : Section → Walk
walk_of x = record { address = address x; cost = cost x; next = next_place x; count = count x; least = 3 }

unfoldable pub request_of : FillCall → Request
request_of c = record { refusal = first_no (of_fill c); place = nat c.place; quota = nat c.quota; list = c.list }

unfoldable pub fill : FillCall → Outcome
fill c = answer (walk_of c.section) (request_of c)

-- ---- answers of the code that are enums

-- the refusals that such an answer holds, by their numbers, are told from a full answer: each is above 0
abbrev pub ToldApart : List ℕ → Type 0
ToldApart [] = Unit {0}
ToldApart (e ∷ es) = (0 < e) × ToldApart es
