-- Document 01, "Filling a list" and the fills of a list one after another, over any walk. Definitions only.
use Rattle.std.specs.Prelude.{ℕ, zero, suc, ◌+◌, ◌-◌, cond, ◌||◌, List, [], ◌∷◌, ◌++◌, ltb, eqb, take}

-- What a fill walks: the address and the cost of the element at a place, the place after it, the count, and how many tries
-- must be left to go on.
pub record Walk : Type 0 where
  pub address : ℕ → ℕ
  pub cost : ℕ → ℕ
  pub next : ℕ → ℕ
  pub count : ℕ
  pub least : ℕ

-- a walk in storage that starts at an address: each address is so much higher
abbrev pub on_base : ℕ → Walk → Walk
on_base base w = record { address = λ t. base + w.address t; cost = w.cost; next = w.next; count = w.count; least = w.least }

-- what a fill returns, and its list afterwards
pub record Filled : Type 0 where
  pub entries : ℕ
  pub tries : ℕ
  pub place : ℕ
  pub list : List ℕ

abbrev pub stopped : ℕ → List ℕ → Filled
stopped t xs = record { entries = 0; tries = 0; place = t; list = xs }

abbrev pub wrote : ℕ → ℕ → Filled → Filled
wrote a c r = record { entries = suc r.entries; tries = c + r.tries; place = r.place; list = a ∷ r.list }

-- "it goes on while the place isn't the count, the list has an unused entry and at least 3 tries are left: it writes the
-- address, then pays for the step". From place t, with so many tries left, into the unused entries.
unfoldable pub fill_by : Walk → ℕ → ℕ → List ℕ → Filled
fill_by w t quota [] = stopped t []
fill_by w t quota (x ∷ xs) =
    let r = wrote (w.address t) (w.cost t) (fill_by w (w.next t) (quota - w.cost t) xs) in
    cond (eqb t w.count || ltb quota w.least) (stopped t (x ∷ xs)) r

-- ---- a fill that may be refused

-- what a call asks, and the number of its refusal, 0 for none
pub record Request : Type 0 where
  pub refusal : ℕ
  pub place : ℕ
  pub quota : ℕ
  pub list : List ℕ

pub record Outcome : Type 0 where
  pub refusal : ℕ
  pub filled : Filled

-- a refusal carries its number, every other field is 0, and no list is written
unfoldable pub answer : Walk → Request → Outcome
answer w r =
    let f = fill_by w r.place r.quota r.list in
    record { refusal = r.refusal; filled = cond (eqb r.refusal 0) f (stopped 0 r.list) }

-- ---- fills one after another: what they got, reported and paid, and the place that stands after them

unfoldable pub got : List Outcome → List ℕ
got [] = []
got (o ∷ os) = take o.filled.entries o.filled.list ++ got os

unfoldable pub reported : List Outcome → ℕ
reported [] = 0
reported (o ∷ os) = o.filled.entries + reported os

unfoldable pub paid : List Outcome → ℕ
paid [] = 0
paid (o ∷ os) = o.filled.tries + paid os

-- a refused fill's 0 is no place: the place that stood before it stands
unfoldable pub standing : ℕ → List Outcome → ℕ
standing t [] = t
standing t (o ∷ os) = standing (cond (eqb o.refusal 0) o.filled.place t) os

-- ---- the rule of filling

-- how many of the elements at the places ahead one fill takes, with a quota and room for so many entries
unfoldable pub allowed : Walk → List ℕ → ℕ → ℕ → ℕ
allowed w ahead quota zero = 0
allowed w [] quota (suc room) = 0
allowed w (t ∷ ahead) quota (suc room) = cond (ltb quota w.least) 0 (suc (allowed w ahead (quota - w.cost t) room))
