-- Demand 3 as one statement about a whole list of fills of one processor, a field for each sentence ("Fills one after
-- another"). What is about a list of fills is over any walk; what is about a section is over whatever is filled, a section of
-- rank 1 or of a grid, and over any form of call.
use Rattle.std.specs.Prelude.{ℕ, suc, ◌+◌, ◌-◌, ◌≤◌, ◌<◌, ◌≡◌, ◌⊎◌, cond, true, List, [], ◌∷◌, map, eqb, ℤ, pos, length, get_or, take, drop}
use Rattle.numbers.specs.Search.{head_or, sum}
use Rattle.model.specs.Mappings.{Section}
use Rattle.model.specs.declared.Steps.{Steps}
use Rattle.model.specs.declared.Steps.TheVariants.{NoStep, OneStep, TwoSteps}
use Rattle.model.specs.Ownership.{nat, declared_index, back_to}
use Rattle.model.specs.Sections.{element_at, cell}
use Rattle.model.specs.Steps.{steps_of}
use Rattle.model.specs.Filling.{Walk, Request, Outcome, answer, got, reported, paid, standing, allowed}
use Rattle.model.specs.Questions.{Question, first_no, between, of_section}
use Rattle.model.specs.Axes.{Axis, axis_of, places_on, first_on, walk_on}
use Rattle.model.specs.Calls.{FillOf, FillCall, of_fill, fill}
use Rattle.model.specs.ByteFills.{ByteFill, in_words, outcome_of}
use Rattle.model.specs.Demand2.{NoGap}

-- ---- any walk

-- the walk leads from place t along these places to the count
pub data Leads (w : Walk) : ℕ → List ℕ → Type 0 where
  done : Leads w w.count []
  on : {t : ℕ} {ts : List ℕ} → t < w.count → Leads w (w.next t) ts → Leads w t (t ∷ ts)

-- an accepted request starts at the place that stands, with tries enough to go on; a refused one may be anything
unfoldable pub Follows : Walk → ℕ → List Request → Type 0
Follows w t [] = Unit {0}
Follows w t (r ∷ rs) =
    (r.refusal ≡ 0 → (r.place ≡ t) × (w.least ≤ r.quota)) × Follows w (standing t (answer w r ∷ [])) rs

-- "each accepted fill adds as many elements as the rule of filling allows with its quota and list"
unfoldable pub share : Walk → List ℕ → Request → ℕ
share w ahead r = cond (eqb r.refusal 0) (allowed w ahead r.quota (length r.list)) 0

unfoldable pub added : Walk → List ℕ → List Request → ℕ
added w ahead [] = 0
added w ahead (r ∷ rs) = share w ahead r + added w (drop (share w ahead r) ahead) rs

-- accepted requests whose list has an entry
abbrev pub has_entry : List ℕ → ℕ
has_entry [] = 0
has_entry (x ∷ xs) = 1

unfoldable pub roomy : List Request → ℕ
roomy [] = 0
roomy (r ∷ rs) = cond (eqb r.refusal 0) (has_entry r.list) 0 + roomy rs

-- what holds of requests that follow one another along a list of places, and of their outcomes
pub record InTurn (w : Walk) (ps : List ℕ) (rs : List Request) (os : List Outcome) : Type 0 where
  -- as many entries as reported, and as the rule of filling allows
  pub entries : length (got os) ≡ reported os
  pub rule : reported os ≡ added w ps rs
  -- the entries are the addresses of the first elements, in section order; the tries are their costs
  pub addresses : got os ≡ map w.address (take (reported os) ps)
  pub tries : paid os ≡ sum (map w.cost (take (reported os) ps))
  -- the place is that of the next element, or the count if there is none
  pub place : standing (head_or w.count ps) os ≡ head_or w.count (drop (reported os) ps)
  -- enough fills reach the count
  pub reaches : length ps ≤ roomy rs → standing (head_or w.count ps) os ≡ w.count

-- ---- what is filled

-- "two elements lie apart by the difference of their cells' numbers"
abbrev pub apart : ℕ → ℕ → ℕ
apart c z = (c - z) + (z - c)

-- d cells are the processor step, the return step or their sum; or the one step
abbrev pub IsStep : Steps → ℕ → Type 0
IsStep NoStep d = ⊥
IsStep (OneStep m) d = d ≡ m.cells
IsStep (TwoSteps r w) d = (d ≡ r.cells) ⊎ ((d ≡ w.cells) ⊎ (d ≡ r.cells + w.cells))

-- A kind of section: the questions about it and about a fill of it; its positions; its elements as they are declared, by
-- their number in storage order and by their position; and when the elements at two positions are as neighbours in a list are.
pub record Kind : Type 1 where
  pub Of : Type 0
  pub questions : Of → List Question
  pub fill_questions : FillOf Of → List Question
  pub axis : Of → Axis
  pub Element : Type 0
  pub numbered : Of → ℕ → Element
  pub placed : Of → ℕ → Element
  pub Neighbours : Of → ℕ → ℕ → Type 0

-- sections of an array of rank 1, whose neighbours lie a step apart
abbrev pub sections : Kind
sections = record {
  Of = Section;
  questions = λ x. of_section x;
  fill_questions = λ c. of_fill c;
  axis = axis_of;
  Element = ℤ;
  numbered = λ x i. declared_index x.mapping i;
  placed = λ x t. element_at x.triplet t;
  Neighbours = λ x t u. IsStep (steps_of x) (apart (cell x t) (cell x u));
}

-- ---- a form of call

-- A call lends words, or bytes. It stands for a fill of words, and has an outcome, whose list is read as words.
pub record Form : Type 1 where
  pub kind : Kind
  pub Call : Type 0
  pub words : Call → FillOf kind.Of
  pub outcome : Call → Outcome

abbrev pub in_word_lists : Form
in_word_lists = record { kind = sections; Call = FillCall; words = λ c. c; outcome = fill }

-- the form that C and Fortran call
abbrev pub in_byte_lists : Form
in_byte_lists = record { kind = sections; Call = ByteFill; words = in_words; outcome = outcome_of }

module _ (f : Form) where
  -- what is filled, its positions, and what a call asks
  abbrev pub Filling : Type 0
  Filling = f.kind.Of

  abbrev pub axis_in : Filling → Axis
  axis_in x = f.kind.axis x

  abbrev pub asks : f.Call → Request
  asks c =
      let w : FillOf Filling = f.words c in
      record { refusal = first_no (f.kind.fill_questions w); place = nat w.place; quota = nat w.quota; list = w.list }

  abbrev pub outcomes : List f.Call → List Outcome
  outcomes cs = map f.outcome cs

  -- ---- a section

  -- a fill of section x for processor q from place t: "they agree in every input but place, quota and list of addresses"
  pub record Agrees (x : Filling) (q t : ℕ) (c : f.Call) : Type 0 where
    pub section : (f.words c).section ≡ x
    pub processor : (f.words c).processor ≡ pos q
    pub place : (f.words c).place ≡ pos t

  -- an accepted fill agrees with the section and the processor, and starts at the place that stands; a refused one may be at
  -- fault in any input
  unfoldable pub FollowsOn : Filling → ℕ → ℕ → List f.Call → Type 0
  FollowsOn x q t [] = Unit {0}
  FollowsOn x q t (c ∷ cs) = ((f.outcome c).refusal ≡ 0 → Agrees x q t c) × FollowsOn x q (standing t (f.outcome c ∷ [])) cs

  -- processor q's fills, from its first place on
  abbrev pub Fills : Filling → ℕ → List f.Call → Type 0
  Fills x q cs = FollowsOn x q (first_on (axis_in x) q) cs

  -- the place that stands after them
  abbrev pub place_after : Filling → ℕ → List f.Call → ℕ
  place_after x q cs = standing (first_on (axis_in x) q) (outcomes cs)

  -- each processor's fills reached the count
  abbrev pub Reached : Filling → (ℕ → List f.Call) → Type 0
  Reached x runs =
      (q : ℕ) → q < (axis_in x).array.processors → Fills x q (runs q) × (place_after x q (runs q) ≡ (axis_in x).count)

  -- entry j of processor q's list "stands for the element that its processor and address lead back to", that at position t
  pub record StandsFor (x : Filling) (lists : ℕ → List ℕ) (t q j : ℕ) : Type 0 where
    pub processor : q < (axis_in x).array.processors
    pub entry : j < length (lists q)
    pub element :
        f.kind.numbered x (back_to (axis_in x).array.owner (axis_in x).array.size q (get_or (lists q) j 0)) ≡ f.kind.placed x t

  -- the element at position t stands in exactly one list, exactly once
  pub record InOneList (x : Filling) (lists : ℕ → List ℕ) (t : ℕ) : Type 0 where
    pub processor : ℕ
    pub entry : ℕ
    pub stands : StandsFor x lists t processor entry
    pub only : (q j : ℕ) → StandsFor x lists t q j → (q ≡ processor) × (j ≡ entry)

  -- Demand 3, of a section that every question about it passed
  pub record Demand3 (x : Filling) : Type 0 where
    -- every list of fills of a processor, refused ones among them, from its first place
    pub fills :
        (q : ℕ) → q < (axis_in x).array.processors → (cs : List f.Call) → Fills x q cs
        → InTurn (walk_on (axis_in x)) (places_on (axis_in x) q) (map asks cs) (outcomes cs)
    -- where each processor's fills reached the count, each element of the section stands in exactly one list, once
    pub once :
        (runs : ℕ → List f.Call) → Reached x runs → (t : ℕ) → t < (axis_in x).count
        → InOneList x (λ q. got (outcomes (runs q))) t
    -- such fills exist: after any fills one more from the place that stands is accepted, and all can be brought to the count
    pub goes_on :
        (q : ℕ) → q < (axis_in x).array.processors → (cs : List f.Call) → Fills x q cs
        → (c : f.Call) → Agrees x q (place_after x q cs) c → between (pos 3) (pos 1000000) (f.words c).quota ≡ true
        → (f.outcome c).refusal ≡ 0
    pub reaches : (runs : ℕ → List f.Call) × Reached x runs
    pub no_gap : (q : ℕ) → NoGap (axis_in x).array.owner (axis_in x).array.size q
    -- neighbours in a processor's list lie a step apart, those of a grid within a row
    pub neighbours :
        (q j : ℕ) → suc j < length (places_on (axis_in x) q)
        → f.kind.Neighbours x (get_or (places_on (axis_in x) q) j 0) (get_or (places_on (axis_in x) q) (suc j) 0)
    -- going on takes at most 3 tries
    pub cheap : (t : ℕ) → (axis_in x).cost t ≤ 3
