-- The readings of numbers: what the first byte does.
use Prim.Native.Nat.{ℕ, ◌+◌, ◌*◌, ◌-◌}
use mathlib.Core.Path.{◌≡◌, refl, sym}
use mathlib.Core.List.{List, [], ◌∷◌}
use native.Mathlib.Omega.{arith}
use lib.ListN.{length}
use lib.IntN.{pos, neg_ℤ}
use Rattle.std.proofs.lemmas.Bool.{false_from_ne_true}
use borrow.Author.Tests.{eq-eqb, ne_eqb}
use Rattle.sheet.specs.Reading.{got, bad, map_got}
use Rattle.sheet.specs.Numbers.{digits, natural, signed, number}
use Rattle.sheet.proofs.NaturalLaws.{Grows, grown, to-grow, ended, went_on, refused, Starts, started, to_start}
use Rattle.sheet.proofs.NaturalLaws.{begun, barred}
use Rattle.sheet.proofs.NumberLaws.{minus, plain}

-- where no byte is left
module _ (m end : ℕ) where
  pub digits-out : (n : ℕ) (s : List ℕ) → length s ≡ 0 → bad s ≡ digits m end n s
  unfolding digits
  digits-out n [] h = refl
  digits-out n (b ∷ s) h = absurd (omega (arith, h))

pub natural-out : (low m end : ℕ) (s : List ℕ) → length s ≡ 0 → bad s ≡ natural low m end s
unfolding natural
natural-out low m end [] h = refl
natural-out low m end (b ∷ s) h = absurd (omega (arith, h))

pub number-out : (end : ℕ) (s : List ℕ) → length s ≡ 0 → bad s ≡ number end s
unfolding signed
number-out end [] h = refl
number-out end (b ∷ s) h = absurd (omega (arith, h))

-- where b comes first
module _ {s t : List ℕ} {b : ℕ} (first : s ≡ b ∷ t) where
  module _ (m end n : ℕ) where
    pub digits-ended : b ≡ end → got n t ≡ digits m end n s
    digits-ended e = rw first (sym (ended m end n b t (eq-eqb _ _ e)))

    module _ (e : b ≡ end → ⊥) where
      pub digits-refused : (Grows m n b → ⊥) → bad s ≡ digits m end n s
      digits-refused g =
          rw first (sym (refused m end n b t (ne_eqb _ _ e) (false_from_ne_true _ (λ x. g (grown m n b x)))))

      pub digits-on : Grows m n b → digits m end (n * 10 + (b - 48)) t ≡ digits m end n s
      digits-on g = rw first (sym (went_on m end n b t (ne_eqb _ _ e) (to-grow m n b g)))

  -- a number with no sign
  module _ (low m end : ℕ) where
    pub natural-barred : (Starts low m b → ⊥) → bad s ≡ natural low m end s
    natural-barred g = rw first (sym (barred low m end b t (false_from_ne_true _ (λ x. g (started low m b x)))))

    pub natural-begun : Starts low m b → digits m end (b - 48) t ≡ natural low m end s
    natural-begun g = rw first (sym (begun low m end b t (to_start low m b g)))

  -- a number with an optional minus
  module _ (end : ℕ) where
    pub number-minus : b ≡ 45 → map_got (λ n. neg_ℤ (pos n)) (natural 1 2147483648 end t) ≡ number end s
    number-minus e = rw (first, e) (sym (minus 2147483648 end t))

    pub number-plain : (b ≡ 45 → ⊥) → map_got pos (natural 0 2147483648 end s) ≡ number end s
    number-plain e = rw first (sym (plain 2147483648 end b t (ne_eqb _ _ e)))
