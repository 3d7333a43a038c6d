-- Numbers with no sign: their reading is a format, in which a number's text is its digits and the byte that ends it.
use Prim.Native.Nat.{ℕ, ◌+◌, ◌*◌, ◌-◌, ◌/◌, ◌%◌, ◌≤◌, ◌<◌}
use mathlib.Core.Path.{◌≡◌, refl, sym, ◌∙◌, ap}
use mathlib.Core.Bool.{Bool, true, false}
use mathlib.Core.List.{List, [], ◌∷◌, ◌++◌, append_assoc, append-nil}
use native.Mathlib.Omega.{arith}
use lib.Dec.{eqb}
use borrow.Author.Tests.{eqb-true, eq-eqb, ne_eqb}
use Rattle.std.proofs.lemmas.Bool.Decides.{nat_tests}
use Rattle.model.specs.Sheets.{digits_of}
use Rattle.sheet.specs.Reading.{Got, got, bad}
use Rattle.sheet.specs.Numbers.{grows, digits, starts, natural}
use Rattle.sheet.proofs.Format.{Format, Outcome, Stops, stops-behind}
use Rattle.sheet.proofs.DigitLaws.{one-digit, more-digits, by_digits, digit-after}

-- ---- one byte, by its tests

pub record Grows (m n b : ℕ) : Type 0 where
  pub some : 0 < n
  pub low : 48 ≤ b
  pub high : b ≤ 57
  pub small : n * 10 + (b - 48) < m

pub grown : (m n b : ℕ) → grows m n b ≡ true → Grows m n b
grown m n b e = record {
  some = grind (arith, nat_tests);
  low = grind (arith, nat_tests);
  high = grind (arith, nat_tests);
  small = grind (arith, nat_tests);
}

pub to-grow : (m n b : ℕ) → Grows m n b → grows m n b ≡ true
to-grow m n b g = grind (arith, nat_tests)

pub record Starts (low m b : ℕ) : Type 0 where
  pub least : 48 + low ≤ b
  pub high : b ≤ 57
  pub small : b - 48 < m

pub started : (low m b : ℕ) → starts low m b ≡ true → Starts low m b
started low m b e = record { least = grind (arith, nat_tests); high = grind (arith, nat_tests); small = grind (arith, nat_tests) }

pub to_start : (low m b : ℕ) → Starts low m b → starts low m b ≡ true
to_start low m b s = grind (arith, nat_tests)

-- ---- further digits

module _ (m end : ℕ) where
  pub ended : (n b : ℕ) (s : List ℕ) → eqb b end ≡ true → digits m end n (b ∷ s) ≡ got n s
  unfolding digits
  ended n b s e = rw e

  pub went_on : (n b : ℕ) (s : List ℕ) → eqb b end ≡ false → grows m n b ≡ true
      → digits m end n (b ∷ s) ≡ digits m end (n * 10 + (b - 48)) s
  unfolding digits
  went_on n b s e g = rw (e, g)

  pub refused : (n b : ℕ) (s : List ℕ) → eqb b end ≡ false → grows m n b ≡ false → digits m end n (b ∷ s) ≡ bad (b ∷ s)
  unfolding digits
  refused n b s e g = rw (e, g)

  -- where the digits of n have been read and s follows
  abbrev Rest : ℕ → List ℕ → Got ℕ → Type 0
  Rest n s (got v t) = (n ≤ v) × (v < m) × (digits_of n ++ s ≡ digits_of v ++ end ∷ t)
  Rest n s (bad t) = (p : List ℕ) × (s ≡ p ++ t) × ((v : ℕ) × (n ≤ v) × (v < m) × (digits_of v ≡ digits_of n ++ p))
      × Stops (digits m end n) p t

  digits-rest : (n : ℕ) → n < m → (s : List ℕ) → Rest n s (digits m end n s)
  digits-rest n h [] = unfold digits in ([], refl, (n, omega arith, h, sym (append-nil (digits_of n))), tt)
  digits-rest n h (b ∷ s) = ends (eqb b end) refl (λ g. digits-rest (n * 10 + (b - 48)) g s)
    where
      carry : eqb b end ≡ false → grows m n b ≡ true → (y : Got ℕ) → Rest (n * 10 + (b - 48)) s y → Rest n (b ∷ s) y
      carry e g (got v t) (l, k, q) =
          let w = grown m n b g in (
            omega arith,
            k,
            sym (append_assoc (digits_of n) (b ∷ []) s)
                ∙ ap (λ (x : List ℕ). x ++ s) (sym (digit-after n b w.some w.low w.high)) ∙ q,
          )
      carry e g (bad t) (p, q, (v, l, k, d), z) =
          let w = grown m n b g in (
            b ∷ p,
            ap (λ (x : List ℕ). b ∷ x) q,
            (
              v,
              omega arith,
              k,
              d ∙ ap (λ (x : List ℕ). x ++ p) (digit-after n b w.some w.low w.high)
                  ∙ append_assoc (digits_of n) (b ∷ []) p,
            ),
            stops-behind (digits m end (n * 10 + (b - 48))) (digits m end n) (b ∷ [])
                (λ x u k. went_on n b x e g ∙ k) p t z,
          )

      goes : eqb b end ≡ false → (x : Bool) → grows m n b ≡ x
          → (n * 10 + (b - 48) < m → Rest (n * 10 + (b - 48)) s (digits m end (n * 10 + (b - 48)) s))
          → Rest n (b ∷ s) (digits m end n (b ∷ s))
      goes e true g f = rw (went_on n b s e g) (carry e g (digits m end (n * 10 + (b - 48)) s) (f (grown m n b g).small))
      goes e false g f = rw (refused n b s e g)
          ([], refl, (n, omega arith, h, sym (append-nil (digits_of n))), λ t'. refused n b t' e g)

      ends : (x : Bool) → eqb b end ≡ x
          → (n * 10 + (b - 48) < m → Rest (n * 10 + (b - 48)) s (digits m end (n * 10 + (b - 48)) s))
          → Rest n (b ∷ s) (digits m end n (b ∷ s))
      ends true e f = rw (ended n b s e) (omega arith, h, rw (eqb-true b end e))
      ends false e f = goes e (grows m n b) refl f

-- ---- a number with no sign

pub record NaturalText (low m end n : ℕ) (x : List ℕ) : Type 0 where
  pub least : low ≤ n
  pub below : n < m
  pub text : x ≡ digits_of n ++ end ∷ []

module _ (low m end : ℕ) where
  pub begun : (b : ℕ) (s : List ℕ) → starts low m b ≡ true → natural low m end (b ∷ s) ≡ digits m end (b - 48) s
  unfolding natural
  begun b s e = rw e

  pub barred : (b : ℕ) (s : List ℕ) → starts low m b ≡ false → natural low m end (b ∷ s) ≡ bad (b ∷ s)
  unfolding natural
  barred b s e = rw e

module _ (low m end : ℕ) (tiny : low ≤ 1) (room : low < m) (mark : end < 48) where
  abbrev Run : ℕ → Type 0
  Run n = low ≤ n → n < m → (t : List ℕ) → natural low m end (digits_of n ++ t) ≡ digits m end n t

  -- the digits of n bring the reader to where n has been read
  run : (n : ℕ) → Run n
  run = by_digits Run one more
    where
      one : (n : ℕ) → n < 10 → Run n
      one n h l k t =
          let u : 48 + n - 48 ≡ n = omega arith in
          rw (
            one-digit n h,
            begun low m end (48 + n) t
                (to_start low m (48 + n) (record { least = omega arith; high = omega arith; small = omega arith })),
            u,
          )

      more : (n : ℕ) → 10 ≤ n → Run (n / 10) → Run n
      more n h f l k t =
          let u : n / 10 * 10 + (48 + n % 10 - 48) ≡ n = omega arith in
          let g : Grows m (n / 10) (48 + n % 10) =
          record { some = omega arith; low = omega arith; high = omega arith; small = omega arith } in
          rw (more-digits n h, append_assoc)
          (f (omega arith) (omega arith) ((48 + n % 10) ∷ t)
          ∙ went_on m end (n / 10) (48 + n % 10) t (ne_eqb (48 + n % 10) end (λ (z : 48 + n % 10 ≡ end). omega arith))
          (to-grow m (n / 10) (48 + n % 10) g)
          ∙ rw u)

  pub natural-format : Format (NaturalText low m end) (natural low m end)
  natural-format = record { some = (low, digits_of low ++ end ∷ [], least); complete = full; outcome = outcome }
    where
      least : NaturalText low m end low (digits_of low ++ end ∷ [])
      least = record { least = omega arith; below = room; text = refl }

      full : (n : ℕ) (x : List ℕ) → NaturalText low m end n x → (t : List ℕ) → natural low m end (x ++ t) ≡ got n t
      full n x o t = rw (o.text, append_assoc)
          (run n o.least o.below (end ∷ t) ∙ ended m end n end t (eq-eqb end end refl))

      first : (b : ℕ) → Starts low m b → digits_of (b - 48) ≡ b ∷ []
      first b h =
          let e : 48 + (b - 48) ≡ b = omega arith in
          one-digit (b - 48) (omega (arith, h.high)) ∙ ap (λ (x : ℕ). x ∷ []) e

      carry : (b : ℕ) (s : List ℕ) → starts low m b ≡ true → (y : Got ℕ) → Rest m end (b - 48) s y
          → Outcome (NaturalText low m end) (natural low m end) (b ∷ s) y
      carry b s e (got v t) (l, k, q) =
          let h = started low m b e in (
            digits_of v ++ end ∷ [],
            record { least = omega arith; below = k; text = refl },
            ap (λ (x : List ℕ). x ++ s) (sym (first b h)) ∙ q ∙ sym (append_assoc (digits_of v) (end ∷ []) t),
          )
      carry b s e (bad t) (p, q, (v, l, k, d), z) =
          let h = started low m b e in (
            b ∷ p,
            ap (λ (x : List ℕ). b ∷ x) q,
            (
              v,
              end ∷ [],
              record {
                least = omega arith;
                below = k;
                text = ap (λ (x : List ℕ). x ++ end ∷ [])
                    (sym (d ∙ ap (λ (x : List ℕ). x ++ p) (first b h)));
              },
            ),
            stops-behind (digits m end (b - 48)) (natural low m end) (b ∷ []) (λ x u k. begun low m end b x e ∙ k) p t z,
          )

      go : (b : ℕ) (s : List ℕ) (x : Bool) → starts low m b ≡ x
          → Outcome (NaturalText low m end) (natural low m end) (b ∷ s) (natural low m end (b ∷ s))
      go b s true e = rw (begun low m end b s e)
          (carry b s e (digits m end (b - 48) s) (digits-rest m end (b - 48) (started low m b e).small s))
      go b s false e = rw (barred low m end b s e)
          ([], refl, (low, digits_of low ++ end ∷ [], least), λ t'. barred low m end b t' e)

      outcome : (s : List ℕ) → Outcome (NaturalText low m end) (natural low m end) s (natural low m end s)
      outcome [] = unfold natural in ([], refl, (low, digits_of low ++ end ∷ [], least), tt)
      outcome (b ∷ s) = go b s (starts low m b) refl
