-- What a format gives for a whole list of bytes: the texts are read and nothing else is, and the place of a refusal is that
-- of the definition, of which there is one.
use Prim.Native.Nat.{ℕ, suc, ◌+◌, ◌-◌, ◌≤◌, ◌<◌}
use mathlib.Core.Path.{◌≡◌, refl, ◌∙◌, ap, sym, subst}
use mathlib.Core.Bool.{Bool, true, false}
use mathlib.Core.List.{List, [], ◌∷◌, ◌++◌, append_assoc, append-nil}
use native.Mathlib.Omega.{arith}
use borrow.Author.Tests.{ltb-true, ltb-false}
use lib.Dec.{ltb}
use lib.ListN.{length, take, length-append}
use lib.Seq.{take-append_seam, take-append-add}
use Rattle.model.specs.Sheets.{Begins, Place}
use Rattle.sheet.specs.Reading.{Got, got, bad, whole}
use Rattle.sheet.proofs.Format.{Format, Stops, took, stuck, stops-behind}

module _ {A : Type 0} {Text : A → List ℕ → Type 0} {read : List ℕ → Got A} (f : Format Text read) where
  pub whole-complete : (a : A) (x : List ℕ) → Text a x → whole (read x) ≡ got a []
  whole-complete a x o = rw (← append-nil x, f.complete a x o [])

  pub whole-sound : (s t : List ℕ) (a : A) → whole (read s) ≡ got a t → Text a s
  whole-sound s t a e = go (read s) refl e
    where
      go : (y : Got A) → read s ≡ y → whole y ≡ got a t → Text a s
      go (got v []) h k =
          let (x, o, q) = took f h in
          let same : v ≡ a = cc in
          rw (q, append-nil, ← same) o
      go (got v (b ∷ u)) h k = let z : ◌≡◌ {A = ℕ} 0 1 = cc in absurd (omega arith)
      go (bad u) h k = let z : ◌≡◌ {A = ℕ} 0 1 = cc in absurd (omega arith)

  whole-stuck : (s t : List ℕ) → whole (read s) ≡ bad t → (p : List ℕ) × (s ≡ p ++ t) × Begins Text p
      × Stops (λ x. whole (read x)) p t
  whole-stuck s t e = go (read s) refl e
    where
      Claim : List ℕ → Type 0
      Claim t = (p : List ℕ) × (s ≡ p ++ t) × Begins Text p × Stops (λ x. whole (read x)) p t

      go : (y : Got A) → read s ≡ y → whole y ≡ bad t → Claim t
      go (got v []) h k = let z : ◌≡◌ {A = ℕ} 0 1 = cc in absurd (omega arith)
      go (got v (b ∷ u)) h k =
          let (x, o, q) = took f h in
          let w : b ∷ u ≡ t = cc in
          subst Claim w (x, q, (v, [], rw append-nil o), λ t'. ap whole (f.complete v x o (b ∷ t')))
      go (bad u) h k =
          let (p, q, b, z) = stuck f h in
          let w : u ≡ t = cc in
          subst Claim w (p, q, b, stops-behind read (λ x. whole (read x)) [] (λ x v e. ap whole e) p u z)

  pub whole-place : (s t : List ℕ) → whole (read s) ≡ bad t → Place Text s (length s - length t)
  whole-place s t e =
      let (p, q, b, z) = whole-stuck s t e in
      let len : length s ≡ length p + length t = ap length q ∙ length-append p t in
      let at : length s - length t ≡ length p = omega arith in
      let cut : take (length s - length t) s ≡ p = rw at (ap (take (length p)) q ∙ take-append_seam p t) in
      record {
        within = omega arith;
        front = rw cut b;
        longest = λ m h k. far p t q z m (omega arith) k;
        refused = λ a o. let y : ◌≡◌ {A = ℕ} 0 1 = cc (whole-complete a s o) in omega arith;
      }
    where
      far : (p t : List ℕ) → s ≡ p ++ t → Stops (λ x. whole (read x)) p t → (m : ℕ) → length p < m → m ≤ length s
          → Begins Text (take m s) → ⊥
      far p [] q z m h k b = omega (arith, ap length q, length-append p [])
      far p (c ∷ t) q z m h k (a, r, w) =
          let j : length p + suc (m - suc (length p)) ≡ m = omega arith in
          let cut : take m s ≡ p ++ c ∷ take (m - suc (length p)) t = ap (λ (x : ℕ). take x s) (sym j)
          ∙ rw (q, take-append-add) in
          let text : take m s ++ r ≡ p ++ c ∷ (take (m - suc (length p)) t ++ r) = rw (cut, append_assoc) in
          let y : ◌≡◌ {A = ℕ} 0 1 = cc (
            whole-complete a (take m s ++ r) w,
            ap (λ (x : List ℕ). whole (read x)) text,
            z (take (m - suc (length p)) t ++ r),
          ) in
          omega arith

-- there is one place at most
pub place-unique : {A : Type 0} {Text : A → List ℕ → Type 0} (s : List ℕ) (n m : ℕ) → Place Text s n → Place Text s m
    → n ≡ m
place-unique s n m a b = go (ltb n m) (ltb m n) refl refl
  where
    go : (x y : Bool) → ltb n m ≡ x → ltb m n ≡ y → n ≡ m
    go true y e f = absurd (a.longest m (ltb-true n m e) b.within b.front)
    go false true e f = absurd (b.longest n (ltb-true m n f) a.within a.front)
    go false false e f = omega (arith, ltb-false n m e, ltb-false m n f)
