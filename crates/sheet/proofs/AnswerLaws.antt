-- What is known of a value that was read, and of the bytes after it.
use Prim.Native.Nat.{ℕ, ◌<◌, ◌≤◌}
use mathlib.Core.Path.{◌≡◌, ◌∙◌, ap, sym}
use mathlib.Core.List.{List}
use native.Mathlib.Omega.{arith}
use lib.ListN.{length, length-append}
use Rattle.sheet.specs.Reading.{Got, got, bad}
use Rattle.sheet.specs.Numbers.{natural}
use Rattle.sheet.proofs.Format.{Format, took, stuck}
use Rattle.sheet.proofs.NaturalLaws.{natural-format}

-- a number that was read is below its bound
pub natural-small : (low m end : ℕ) → low ≤ 1 → low < m → end < 48 → (s : List ℕ) {t : List ℕ} {n : ℕ}
    → got n t ≡ natural low m end s → n < m
natural-small low m end a b c s h = (took (natural-format low m end a b c) (sym h)).1.below

-- the bytes after what was read, or from a refusal on, are no more than all
module _ {A : Type 0} {Text : A → List ℕ → Type 0} {read : List ℕ → Got A} (f : Format Text read) {s t : List ℕ} where
  pub fewer-after : {a : A} → read s ≡ got a t → length t ≤ length s
  fewer-after e = let (x, o, q) = took f e in omega (arith, ap length q ∙ length-append x t)

  pub fewer-from : read s ≡ bad t → length t ≤ length s
  fewer-from e = let (p, q, o, z) = stuck f e in omega (arith, ap length q ∙ length-append p t)
