-- Formats: which texts a value has (one or several), and a reading of the front of a list of bytes that finds the value;
-- and formats put together.
use Prim.Native.Nat.{ℕ, zero, suc}
use mathlib.Core.Path.{◌≡◌, refl, sym, ◌∙◌, ap, subst}
use mathlib.Core.List.{List, [], ◌∷◌, ◌++◌, append_assoc}
use native.Mathlib.Omega.{arith}
use lib.ListN.{length}
use Rattle.model.specs.Sheets.{Begins}
use Rattle.sheet.specs.Reading.{Got, got, bad, and_then, map_got, both, via, rows}

-- after p the first byte of t, if there is one, is refused whatever follows it
abbrev pub Stops : {A : Type 0} → (List ℕ → Got A) → List ℕ → List ℕ → Type 0
Stops read p [] = Unit {0}
Stops read p (b ∷ t) = (t' : List ℕ) → read (p ++ b ∷ t') ≡ bad (b ∷ t')

abbrev pub Outcome : {A : Type 0} → (A → List ℕ → Type 0) → (List ℕ → Got A) → List ℕ → Got A → Type 0
Outcome Text read s (got a t) = (x : List ℕ) × Text a x × (s ≡ x ++ t)
Outcome Text read s (bad t) = (p : List ℕ) × (s ≡ p ++ t) × Begins Text p × Stops read p t

pub record Format {A : Type 0} (Text : A → List ℕ → Type 0) (read : List ℕ → Got A) : Type 0 where
  pub some : (a : A) × (x : List ℕ) × Text a x
  pub complete : (a : A) (x : List ℕ) → Text a x → (t : List ℕ) → read (x ++ t) ≡ got a t
  pub outcome : (s : List ℕ) → Outcome Text read s (read s)

-- what a format says of a reading that is known
module _ {A : Type 0} {Text : A → List ℕ → Type 0} {read : List ℕ → Got A} (f : Format Text read) {s t : List ℕ} where
  pub took : {a : A} → read s ≡ got a t → (x : List ℕ) × Text a x × (s ≡ x ++ t)
  took e = subst (Outcome Text read s) e (f.outcome s)

  pub stuck : read s ≡ bad t → (p : List ℕ) × (s ≡ p ++ t) × Begins Text p × Stops read p t
  stuck e = subst (Outcome Text read s) e (f.outcome s)

-- where q after x is refused whenever r is, it stops wherever r does
pub stops-behind : {A B : Type 0} (r : List ℕ → Got A) (q : List ℕ → Got B) (x : List ℕ)
    → ((t u : List ℕ) → r t ≡ bad u → q (x ++ t) ≡ bad u) → (p t : List ℕ) → Stops r p t → Stops q (x ++ p) t
stops-behind r q x e p [] k = tt
stops-behind r q x e p (b ∷ t) k = λ t'. rw append_assoc (e (p ++ b ∷ t') (b ∷ t') (k t'))

-- ---- two values, one after the other

-- what the second may be can depend on the first
abbrev pub Two : {A B : Type 0} → (A → List ℕ → Type 0) → (A → B → List ℕ → Type 0) → A × B → List ℕ → Type 0
Two TA TB x z = (u : List ℕ) × (v : List ℕ) × TA x.0 u × TB x.0 x.1 v × (z ≡ u ++ v)

glue : (x p u : List ℕ) {t : List ℕ} → t ≡ p ++ u → x ++ t ≡ (x ++ p) ++ u
glue x p u e = rw (append_assoc, e)

module _ {A B : Type 0} {TA : A → List ℕ → Type 0} {r_a : List ℕ → Got A} (TB : A → B → List ℕ → Type 0)
    (r_b : A → List ℕ → Got B) where
  pub pair : Format TA r_a → ((a : A) (x : List ℕ) → TA a x → Format (TB a) (r_b a))
      → Format {A = A × B} (Two TA TB) (both r_a r_b)
  pair f g = record { some = start f.some; complete = full; outcome = λ s. end s (r_a s) refl }
    where
      start : (a : A) × (x : List ℕ) × TA a x → (y : A × B) × (x : List ℕ) × Two TA TB y x
      start (a, x, o) = let b = (g a x o).some in ((a, b.0), x ++ b.1, (x, b.1, o, b.2, refl))

      full : (y : A × B) (x : List ℕ) → Two TA TB y x → (t : List ℕ) → both r_a r_b (x ++ t) ≡ got y t
      full y x (u, v, p, q, e) t = rw (e, append_assoc, f.complete y.0 u p, (g y.0 u p).complete y.1 v q)

      second : (s : List ℕ) (a : A) (t : List ℕ) → r_a s ≡ got a t → (y : Got B) → r_b a t ≡ y
          → Outcome (Two TA TB) (both r_a r_b) s (map_got (λ b. (a, b)) y)
      second s a t e (got b u) h =
          let m = took f e in
          let n = took (g a m.0 m.1) h in
          (m.0 ++ n.0, (m.0, n.0, m.1, n.1, refl), m.2 ∙ glue m.0 n.0 u n.2)
      second s a t e (bad u) h =
          let m = took f e in
          let (p, q, (b, v, w), z) = stuck (g a m.0 m.1) h in (
            m.0 ++ p,
            m.2 ∙ glue m.0 p u q,
            ((a, b), v, (m.0, p ++ v, m.1, w, append_assoc m.0 p v)),
            stops-behind (r_b a) (both r_a r_b) m.0 (λ x v k. rw (f.complete a m.0 m.1 x, k)) p u z,
          )

      end : (s : List ℕ) (y : Got A) → r_a s ≡ y
          → Outcome (Two TA TB) (both r_a r_b) s (and_then y (λ a t. map_got (λ b. (a, b)) (r_b a t)))
      end s (got a t) e = second s a t e (r_b a t) refl
      end s (bad t) e =
          let (p, q, (a, v, w), z) = stuck f e in
          let y = (g a (p ++ v) w).some in (
            p,
            q,
            ((a, y.0), v ++ y.1, (p ++ v, y.1, w, y.2, sym (append_assoc p v y.1))),
            stops-behind r_a (both r_a r_b) [] (λ x u k. rw k) p t z,
          )

-- ---- the same texts for values of another type

module _ {A C : Type 0} {TA : A → List ℕ → Type 0} {r_a : List ℕ → Got A} (TC : C → List ℕ → Type 0) (to : A → C) where
  pub across : Format TA r_a → ((a : A) (x : List ℕ) → TA a x → TC (to a) x)
      → ((c : C) (x : List ℕ) → TC c x → (a : A) × TA a x × (to a ≡ c)) → Format TC (via to r_a)
  across f up down =
      record {
        some = (to f.some.0, f.some.1, up f.some.0 f.some.1 f.some.2);
        complete = full;
        outcome = λ s. end s (r_a s) refl;
      }
    where
      full : (c : C) (x : List ℕ) → TC c x → (t : List ℕ) → via to r_a (x ++ t) ≡ got c t
      full c x k t = let (a, o, e) = down c x k in rw (f.complete a x o) (ap (λ (v : C). got v t) e)

      end : (s : List ℕ) (y : Got A) → r_a s ≡ y → Outcome TC (via to r_a) s (map_got to y)
      end s (got a t) e = let m = took f e in (m.0, up a m.0 m.1, m.2)
      end s (bad t) e =
          let (p, q, (a, v, w), z) = stuck f e in
          (p, q, (to a, v, up a (p ++ v) w), stops-behind r_a (via to r_a) [] (λ x u k. rw k) p t z)

-- ---- as many values as a number says; a value's texts may depend on how many follow it

abbrev pub Texts : {A : Type 0} → (ℕ → A → List ℕ → Type 0) → List A → List ℕ → Type 0
Texts Text [] z = z ≡ []
Texts Text (a ∷ l) z = (u : List ℕ) × (v : List ℕ) × Text (length l) a u × Texts Text l v × (z ≡ u ++ v)

abbrev pub Counted : {A : Type 0} → (ℕ → A → List ℕ → Type 0) → ℕ → List A → List ℕ → Type 0
Counted Text n l z = (length l ≡ n) × Texts Text l z

module _ {A : Type 0} (Text : ℕ → A → List ℕ → Type 0) (r : ℕ → List ℕ → Got A) where
  pub no_rows : Format (Counted Text 0) (rows r 0)
  no_rows = record { some = ([], [], (refl, refl)); complete = full; outcome = λ s. ([], (refl, refl), refl) }
    where
      full : (l : List A) (z : List ℕ) → Counted Text 0 l z → (t : List ℕ) → got [] (z ++ t) ≡ got l t
      full [] z (h, e) t = rw e
      full (a ∷ l) z (h, e) t = absurd (omega (arith, h))

  pub rows-format : ((n : ℕ) → Format (Text n) (r n)) → (n : ℕ) → Format (Counted Text n) (rows r n)
  rows-format f zero = no_rows
  rows-format f (suc n) = across (Counted Text (suc n)) (λ x. x.0 ∷ x.1)
      (pair (λ a. Counted Text n) (λ a. rows r n) (f n) (λ a x o. rows-format f n)) up down
    where
      up : (x : A × List A) (z : List ℕ) → Two (Text n) (λ a. Counted Text n) x z → Counted Text (suc n) (x.0 ∷ x.1) z
      up x z (u, v, p, (h, q), e) = (ap suc h, (u, v, rw h p, q, e))

      down : (l : List A) (z : List ℕ) → Counted Text (suc n) l z → (x : A × List A) × Two (Text n) (λ a. Counted Text n) x z
          × (x.0 ∷ x.1 ≡ l)
      down [] z (h, e) = absurd (omega (arith, h))
      down (a ∷ l) z (h, (u, v, p, q, e)) =
          let same : length l ≡ n = omega (arith, h) in
          ((a, l), (u, v, rw same at p, (same, q), e), refl)
