-- Document 01, "Steps of a section", as a law over every multiple of S: the definitions look through the first pk only.
-- M stands for pk, the cells of a course, and S for a·|s|. Statements only.
use Rattle.std.specs.Prelude.{ℕ, ◌+◌, ◌-◌, ◌*◌, ◌≤◌, ◌<◌, ◌≡◌}
use Rattle.numbers.specs.Gcd.{gcd}
use Rattle.model.specs.declared.Step.{Step}
use Rattle.model.specs.declared.Steps.{Steps}
use Rattle.model.specs.declared.Steps.TheVariants.{NoStep, OneStep, TwoSteps}

-- n cells are a "positive multiple of S"
pub record Multiple (S n : ℕ) : Type 0 where
  pub index : ℕ
  pub some : 0 < index
  pub cells : n ≡ index * S

-- they are "of the form c·pk + y with c at least 0 and y from 1 to k − 1"
abbrev pub Above : ℕ → ℕ → ℕ → ℕ → ℕ → Type 0
Above M k n c y = (n ≡ c * M + y) × (1 ≤ y) × (y ≤ k - 1)

-- "of the form c·pk − y with c at least 1 and y in the same range"
abbrev pub Below : ℕ → ℕ → ℕ → ℕ → ℕ → Type 0
Below M k n c y = (n + y ≡ c * M) × (1 ≤ c) × (1 ≤ y) × (y ≤ k - 1)

-- whole courses, which keep the column: c·pk, "and column move 0"
abbrev pub Whole : ℕ → ℕ → ℕ → ℕ → Type 0
Whole M n c y = (n ≡ c * M) × (y ≡ 0)

-- a step is "the smallest positive multiple of S" of a form, "reported as cells, courses and column move", its c and y
pub record Smallest (S : ℕ) (Form : ℕ → ℕ → ℕ → Type 0) (r : Step) : Type 0 where
  pub multiple : Multiple S r.cells
  pub form : Form r.cells r.courses r.column
  pub least : (n c y : ℕ) → Multiple S n → Form n c y → r.cells ≤ n

-- "If d < k", where d = gcd(S, pk): the processor step and the return step
pub record TwoSmallest (M k S : ℕ) (r w : Step) : Type 0 where
  pub divisor : gcd S M < k
  pub processor : Smallest S (Above M k) r
  pub back : Smallest S (Below M k) w

-- "If d is k or more: one step"
pub record OneSmallest (M k S : ℕ) (m : Step) : Type 0 where
  pub divisor : k ≤ gcd S M
  pub whole : Smallest S (Whole M) m

-- the steps of a section of n elements: "A section of no or one element has no steps"
abbrev pub SmallestSteps : ℕ → ℕ → ℕ → ℕ → Steps → Type 0
SmallestSteps n M k S NoStep = n < 2
SmallestSteps n M k S (OneStep m) = (2 ≤ n) × OneSmallest M k S m
SmallestSteps n M k S (TwoSteps r w) = (2 ≤ n) × TwoSmallest M k S r w
