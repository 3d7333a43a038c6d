-- The searches in the definitions of the two steps find the least multiple of S whose rest by M is as asked.
use Prim.Native.Nat.{ℕ, ◌-◌, ◌*◌, ◌%◌, ◌≤◌, ◌<◌}
use mathlib.Core.Path.{◌≡◌, sym, ap, ◌∙◌, subst}
use mathlib.Core.Bool.{Bool, true}
use mathlib.Core.Logic.{◌⊎◌, inl, inr}
use native.Mathlib.Nat.{mod-lt, zero-mul, zero-mod, eq-zero-or-pos}
use native.Mathlib.Omega.{arith}
use lib.Dec.{leb}
use borrow.Author.Tests.{leb-true, le-leb}
use Rattle.std.specs.Prelude.{Option}
use Rattle.numbers.specs.Search.{passing, head_or}
use Rattle.numbers.proofs.Division.{rest-mul}
use Rattle.numbers.proofs.Tests.{both_true}
use Rattle.numbers.proofs.SearchLaws.{First, first, missing, first_found, head_first}
use Rattle.model.specs.Steps.{is_move, processor_index, return_index}
use Rattle.model.proofs.Rests.{Course, Least, Forward, Backward}

-- a test f of rests that says H, which 0 fails
module _ (M S : ℕ) (M-pos : 0 < M) (f : ℕ → Bool) (H : ℕ → Type 0) (to : (y : ℕ) → f y ≡ true → H y)
    (from : (y : ℕ) → y < M → H y → f y ≡ true) (zero-fails : H 0 → ⊥) where
  some : (m : ℕ) → H (m * S % M) → 0 < m
  some m h = go (eq-zero-or-pos m)
    where
      go : (m ≡ 0) ⊎ (0 < m) → 0 < m
      go (inl z) = absurd (zero-fails (subst H (ap (λ (n : ℕ). n * S % M) z ∙ ap (λ (n : ℕ). n % M) (zero-mul S) ∙ zero-mod M) h))
      go (inr l) = l

  -- the rests repeat after M multiples
  early : (m : ℕ) → H (m * S % M) → H (m % M * S % M)
  early m h = subst H (sym (rest-mul M S m)) h

  least-found : (w : ℕ) → H (w * S % M) → Least H (λ m. m * S % M) (head_or 0 (passing (λ m. f (m * S % M)) 1 M))
  least-found w h = go (first_found (λ m. f (m * S % M)) M 1)
    where
      go : {r : Option ℕ} → First (λ m. f (m * S % M)) 1 M r → Least H (λ m. m * S % M) (head_or 0 (passing (λ m. f (m * S % M)) 1 M))
      go (first t l b p least) =
          rw (head_first (λ m. f (m * S % M)) 0 1 M (first t l b p least))
          (record {
            pos = l;
            at = to (t * S % M) p;
            least = λ m g. least m (some m g) (from (m * S % M) (mod-lt (m * S) M-pos) g);
          })
      go (missing none) =
          absurd
          (none (w % M) (some (w % M) (early w h)) (omega (arith, mod-lt w M-pos))
          (from (w % M * S % M) (mod-lt (w % M * S) M-pos) (early w h)))

move-to : (k y : ℕ) → is_move k y ≡ true → Forward k y
move-to k y e =
    let l : 1 ≤ y = leb-true 1 y (both_true (leb 1 y) (leb y (k - 1)) e).0 in
    record { some = l; few = omega (arith, leb-true y (k - 1) (both_true (leb 1 y) (leb y (k - 1)) e).1) }

to-move : (k y : ℕ) → Forward k y → is_move k y ≡ true
to-move k y f = rw (le-leb 1 y f.some, le-leb y (k - 1) (omega arith))

module _ {M k S : ℕ} (h : Course M k S) where
  M-pos : 0 < M
  M-pos = omega arith

  pub processor-found : (w : ℕ) → Forward k (w * S % M) → Least (Forward k) (λ m. m * S % M) (processor_index M k S)
  unfolding processor_index
  processor-found =
      least-found M S M-pos (is_move k) (Forward k) (move-to k) (λ y l. to-move k y) (λ f. omega (arith, f.some))

  pub return-found : (w : ℕ) → Backward M k (w * S % M) → Least (Backward M k) (λ m. m * S % M) (return_index M k S)
  unfolding return_index
  return-found =
      least-found M S M-pos (λ y. is_move k (M - y)) (Backward M k) (λ y e. omega (arith, move-to k (M - y) e))
      (λ y l f. to-move k (M - y) (omega (arith, f.few))) (λ f. omega (arith, f.few))
