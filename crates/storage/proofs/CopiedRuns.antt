-- Words copied from consecutive places to consecutive places.
use Prim.Native.Nat.{ℕ, ◌+◌, ◌≤◌}
use mathlib.Core.Path.{◌≡◌, refl, sym, ap, ◌∙◌}
use mathlib.Core.List.{List}
use native.Mathlib.Omega.{arith}
use lib.ListN.{length}
use Rattle.model.proofs.CopyLaws.{copied_at, copied-joins, copied-same, copied-alike}
use Rattle.storage.specs.Copying.{copied_run}

-- some, and more after them
pub runs-join : (at start j r : ℕ) (s l : List ℕ)
    → copied_run (at + j) (start + j) r s (copied_run at start j s l) ≡ copied_run at start (j + r) s l
runs-join at start j r s l =
    sym (copied-joins (λ i. at + i) (λ i. start + i) j r s l
    ∙ copied-same _ _ _ _ r s (copied_run at start j s l) (λ i h. omega arith) (λ i h. omega arith))

-- the same after a list that has the first of them
pub run_after : (at start j r n : ℕ) (s l l' : List ℕ) → l' ≡ copied_run at start j s l → j + r ≡ n
    → copied_run (at + j) (start + j) r s l' ≡ copied_run at start n s l
run_after at start j r n s l l' e h =
    ap (copied_run (at + j) (start + j) r s) e ∙ runs-join at start j r s l ∙ ap (λ (m : ℕ). copied_run at start m s l) h

-- by a list between
pub by-between : (at start n : ℕ) (s w l : List ℕ) → n ≤ length w
    → copied_run 0 start n (copied_run at 0 n s w) l ≡ copied_run at start n s l
by-between at start n s w l h =
    copied-alike _ _ _ _ n (copied_run at 0 n s w) s l
    (λ i k. copied_at (λ j. at + j) (λ j. 0 + j) n s w (λ x y a b e. omega arith) (λ x a. omega arith) i k) (λ i k. refl)
