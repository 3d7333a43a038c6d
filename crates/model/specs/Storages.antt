-- Document 02, A3: the processors' storage of one array "laid end to end by processor number", for any owner of indices, and
-- words copied from one list into another. Definitions only.
use Rattle.std.specs.Prelude.{ℕ, zero, suc, ◌+◌, ◌<◌, ◌≡◌, List, get_or, set}
use Rattle.numbers.specs.Search.{sum_below}
use Rattle.model.specs.Ownership.{held, rank}

-- where the words of processor q begin: how many of the first n elements lower processors have
unfoldable pub storage_start : (ℕ → ℕ) → ℕ → ℕ → ℕ
storage_start owner n q = sum_below q (held owner n)

-- the place of element i: after the words of lower processors, at its local address
unfoldable pub storage_place : (ℕ → ℕ) → ℕ → ℕ → ℕ
storage_place owner n i = storage_start owner n (owner i) + rank owner i

-- f takes 0 .. n − 1 to all of these numbers, each once
pub record OneToOne (n : ℕ) (f : ℕ → ℕ) : Type 0 where
  pub below : (i : ℕ) → i < n → f i < n
  pub once : (i j : ℕ) → i < n → j < n → f i ≡ f j → i ≡ j
  pub each : (y : ℕ) → y < n → (i : ℕ) × (i < n) × (f i ≡ y)

-- list l after the words of list s at from 0 .. from (n − 1) were put at to 0 .. to (n − 1)
unfoldable pub copied : (ℕ → ℕ) → (ℕ → ℕ) → ℕ → List ℕ → List ℕ → List ℕ
copied from to zero s l = l
copied from to (suc n) s l = set (copied from to n s l) (to n) (get_or s (from n) 0)
