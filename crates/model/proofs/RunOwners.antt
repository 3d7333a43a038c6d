-- The runs of a GEN_BLOCK template: a cell below the sum of the sizes lies in the run of its owner and in no other, and owners do
-- not fall. Assumes nothing.
use Prim.Native.Nat.{ℕ, zero, suc, ◌+◌, ◌-◌, ◌≤◌, ◌<◌, zero-le}
use mathlib.Core.Path.{◌≡◌, refl, ap}
use mathlib.Core.Bool.{Bool, true, false}
use mathlib.Core.List.{List, [], ◌∷◌}
use native.Mathlib.Nat.{le_refl}
use native.Mathlib.Omega.{arith}
use lib.Dec.{ltb}
use lib.ListN.{length, get_or}
use borrow.Author.Tests.{lt-ltb, le-ltb, ltb-true, ltb-false}
use Rattle.numbers.specs.Search.{sum}
use Rattle.model.specs.Ownership.{run_start, run_owner}

-- cell c lies in the run of processor q
pub record InRun (sizes : List ℕ) (c q : ℕ) : Type 0 where
  pub processor : q < length sizes
  pub from : run_start sizes q ≤ c
  pub below : c < run_start sizes q + get_or sizes q 0

pub owner-run : (sizes : List ℕ) (c : ℕ) → c < sum sizes → InRun sizes c (run_owner sizes c)
unfolding run_owner run_start sum
owner-run [] c h = absurd (omega arith)
owner-run (n ∷ sizes) c h = go (owner-run sizes (c - n)) (ltb c n) refl
  where
    go : (c - n < sum sizes → InRun sizes (c - n) (run_owner sizes (c - n))) → (b : Bool) → ltb c n ≡ b → InRun (n ∷ sizes) c (run_owner (n ∷ sizes) c)
    go ih true e = rw e (record { processor = omega arith; from = zero-le; below = omega (arith, ltb-true c n e) })
    go ih false e =
        let l = ltb-false c n e in
        let r = ih (omega arith) in
        rw e (record { processor = omega (arith, r.processor); from = omega (arith, r.from); below = omega (arith, r.below) })

-- no other run has it
pub run-owner : (sizes : List ℕ) (c q : ℕ) → run_start sizes q ≤ c → c < run_start sizes q + get_or sizes q 0 → run_owner sizes c ≡ q
unfolding run_owner run_start sum
run-owner [] c zero a b = absurd (omega arith)
run-owner [] c (suc q) a b = absurd (omega arith)
run-owner (n ∷ sizes) c zero a b = rw (lt-ltb c n (omega arith))
run-owner (n ∷ sizes) c (suc q) a b =
    rw (le-ltb c n (omega arith)) (ap suc (run-owner sizes (c - n) q (omega arith) (omega arith)))

pub owners-rise : (sizes : List ℕ) (c d : ℕ) → c ≤ d → run_owner sizes c ≤ run_owner sizes d
unfolding run_owner
owners-rise [] c d h = le_refl 0
owners-rise (n ∷ sizes) c d h = go (owners-rise sizes (c - n) (d - n) (omega arith)) (ltb c n) refl (ltb d n) refl
  where
    go : run_owner sizes (c - n) ≤ run_owner sizes (d - n) → (a : Bool) → ltb c n ≡ a → (b : Bool) → ltb d n ≡ b → run_owner (n ∷ sizes) c ≤ run_owner (n ∷ sizes) d
    go ih true e b f = rw e zero-le
    go ih false e true f = absurd (omega (arith, ltb-false c n e, ltb-true d n f))
    go ih false e false f = rw (e, f) (omega arith)

-- past the last run
pub start-end : (sizes : List ℕ) (q : ℕ) → length sizes ≤ q → run_start sizes q ≡ sum sizes
unfolding run_start sum
start-end [] zero h = refl
start-end [] (suc q) h = refl
start-end (n ∷ sizes) zero h = absurd (omega arith)
start-end (n ∷ sizes) (suc q) h = omega (arith, start-end sizes q (omega arith))

-- a run ends where the next one starts
pub next_start : (sizes : List ℕ) (q : ℕ) → run_start sizes (suc q) ≡ run_start sizes q + get_or sizes q 0
unfolding run_start sum
next_start [] zero = refl
next_start [] (suc q) = refl
next_start (n ∷ sizes) zero = omega arith
next_start (n ∷ sizes) (suc q) = omega (arith, next_start sizes q)
