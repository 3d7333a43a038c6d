-- Which move is taken from a column, and its bounds. Assumes nothing.
use Prim.Native.Nat.{ℕ, ◌+◌, ◌-◌, ◌%◌, ◌≤◌, ◌<◌}
use mathlib.Core.Path.{◌≡◌, refl, sym, ap, ◌∙◌}
use mathlib.Core.Bool.{Bool, true, false, cond}
use mathlib.Core.Logic.{◌⊎◌, inl, inr}
use native.Mathlib.Nat.{le_refl}
use native.Mathlib.Omega.{arith}
use lib.Dec.{eqb, leb, ltb}
use borrow.Author.Tests.{leb-true, leb-false, ltb-true, ltb-false, le-leb, lt-leb, eqb-true, eqb-false}
use Rattle.numbers.proofs.Tests.{either_true, neither-true}
use Rattle.walk.specs.declared.moves.Moves.{Moves}
use Rattle.walk.specs.declared.moves.State.{State}
use Rattle.walk.specs.Moving.{Move, move_from, stepped, at_most, has_ended, Small}

module _ (m : Moves) (q : ℕ) where
  pub takes_first : q + m.up < m.block → move_from m q ≡ record { column = q + m.up; places = m.first; add = m.near; tries = 1 }
  unfolding move_from
  takes_first h = rw (le-leb (q + m.up) (m.block - 1) (omega arith))

  module _ (h : m.block ≤ q + m.up) (pos : 0 < m.block) where
    pub takes-second : m.down ≤ q → move_from m q ≡ record { column = q - m.down; places = m.second; add = m.far; tries = 2 }
    unfolding move_from
    takes-second k = rw (lt-leb (q + m.up) (m.block - 1) (omega arith), le-leb m.down q k)

    pub takes-both : q < m.down
        → move_from m q ≡ record { column = q + m.up - m.down; places = m.first + m.second; add = m.both; tries = 3 }
    unfolding move_from
    takes-both k = rw (lt-leb (q + m.up) (m.block - 1) (omega arith), lt-leb m.down q k)

-- what holds of each step where it is taken holds of the move
pub by-step : (m : Moves) (q : ℕ) (G : Move → Type 0)
    → (q + m.up ≤ m.block - 1 → G (record { column = q + m.up; places = m.first; add = m.near; tries = 1 }))
    → (m.block - 1 < q + m.up → m.down ≤ q → G (record { column = q - m.down; places = m.second; add = m.far; tries = 2 }))
    → (m.block - 1 < q + m.up → q < m.down → G (record { column = q + m.up - m.down; places = m.first + m.second; add = m.both; tries = 3 }))
    → G (move_from m q)
unfolding move_from
by-step m q G first second both = go (leb (q + m.up) (m.block - 1)) refl (leb m.down q) refl
  where
    go : (a : Bool) → leb (q + m.up) (m.block - 1) ≡ a → (b : Bool) → leb m.down q ≡ b
        → G (cond a (record { column = q + m.up; places = m.first; add = m.near; tries = 1 })
        (cond b (record { column = q - m.down; places = m.second; add = m.far; tries = 2 })
        (record { column = q + m.up - m.down; places = m.first + m.second; add = m.both; tries = 3 })))
    go true e b f = first (leb-true (q + m.up) (m.block - 1) e)
    go false e true f = second (leb-false (q + m.up) (m.block - 1) e) (leb-true m.down q f)
    go false e false f = both (leb-false (q + m.up) (m.block - 1) e) (leb-false m.down q f)

-- a move stays in the block, and is no more than both steps
pub record Light (m : Moves) (g : Move) : Type 0 where
  pub column : g.column < m.block
  pub places : g.places ≤ m.first + m.second
  pub add : g.add < 4294967296
  pub tries : g.tries ≤ 3

pub light : (m : Moves) (q : ℕ) → Small m → q < m.block → Light m (move_from m q)
light m q s h =
    by-step m q (Light m) (λ f. record { column = omega arith; places = omega arith; add = s.near; tries = omega arith })
    (λ f k. record { column = omega arith; places = omega arith; add = s.far; tries = omega arith })
    (λ f k. record { column = omega (arith, s.up); places = omega arith; add = s.both; tries = omega arith })

-- a step is told by its tries: how many places it goes on, and by how many columns up and down
abbrev places_by : Moves → ℕ → ℕ
places_by m tries = cond (eqb tries 1) m.first (cond (eqb tries 2) m.second (m.first + m.second))

abbrev rise_by : Moves → ℕ → ℕ
rise_by m tries = cond (eqb tries 2) 0 m.up

abbrev fall_by : Moves → ℕ → ℕ
fall_by m tries = cond (eqb tries 1) 0 m.down

record Told (m : Moves) (q : ℕ) (g : Move) : Type 0 where
  pub few : g.tries ≤ 3
  pub places : g.places ≡ places_by m g.tries
  pub column : m.down ≤ m.block → g.column + fall_by m g.tries ≡ q + rise_by m g.tries

told : (m : Moves) (q : ℕ) → Told m q (move_from m q)
told m q =
    by-step m q (Told m q) (λ f. record { few = omega arith; places = refl; column = λ h. omega arith })
    (λ f k. record { few = omega arith; places = refl; column = λ h. omega arith })
    (λ f k. record { few = omega arith; places = refl; column = λ h. omega arith })

pub tries-few : (m : Moves) (q : ℕ) → (move_from m q).tries ≤ 3
tries-few m q = (told m q).few

-- one step from two columns goes on alike
module _ (m : Moves) (q q' : ℕ) (e : (move_from m q).tries ≡ (move_from m q').tries) where
  pub places-alike : (move_from m q).places ≡ (move_from m q').places
  places-alike = (told m q).places ∙ ap (places_by m) e ∙ sym (told m q').places

  pub columns-alike : m.down ≤ m.block → (move_from m q).column + q' ≡ (move_from m q').column + q
  columns-alike h = omega (arith, (told m q).column h, (told m q').column h, ap (rise_by m) e, ap (fall_by m) e)

-- the same of a state
module _ (m : Moves) (s : State) where
  pub steps_first : s.column + m.up < m.block
      → record {
        column = s.column + m.up;
        address = record { 0 = (s.address.0 + m.near) % 4294967296 };
        place = record { 0 = s.place.0 + m.first };
        paid = s.paid + 1;
      } ≡ stepped m s
  unfolding stepped
  steps_first h = rw (takes_first m s.column h)

  module _ (h : m.block ≤ s.column + m.up) (pos : 0 < m.block) where
    pub steps-second : m.down ≤ s.column
        → record {
          column = s.column - m.down;
          address = record { 0 = (s.address.0 + m.far) % 4294967296 };
          place = record { 0 = s.place.0 + m.second };
          paid = s.paid + 2;
        } ≡ stepped m s
    unfolding stepped
    steps-second k = rw (takes-second m s.column h pos k)

    pub steps-both : s.column < m.down
        → record {
          column = s.column + m.up - m.down;
          address = record { 0 = (s.address.0 + m.both) % 4294967296 };
          place = record { 0 = s.place.0 + (m.first + m.second) };
          paid = s.paid + 3;
        } ≡ stepped m s
    unfolding stepped
    steps-both k = rw (takes-both m s.column h pos k)

-- ---- a place, or the count

pub at-most-le : (count t : ℕ) → at_most count t ≤ count
at-most-le count t = go (ltb t count) refl
  where
    go : (b : Bool) → ltb t count ≡ b → cond b t count ≤ count
    go true e = omega (arith, ltb-true t count e)
    go false e = le_refl count

pub at-most-is : (count t : ℕ) → t ≤ count → at_most count t ≡ t
at-most-is count t h = go (ltb t count) refl
  where
    go : (b : Bool) → ltb t count ≡ b → cond b t count ≡ t
    go true e = refl
    go false e = omega (arith, ltb-false t count e)

-- ---- whether a turn is made

module _ (count quota : ℕ) (s : State) where
  pub ended-why : has_ended count quota s ≡ true → (s.place.0 ≡ count) ⊎ (quota - s.paid < 3)
  ended-why e = go (either_true (eqb s.place.0 count) (ltb (quota - s.paid) 3) e)
    where
      go : (eqb s.place.0 count ≡ true) ⊎ (ltb (quota - s.paid) 3 ≡ true) → (s.place.0 ≡ count) ⊎ (quota - s.paid < 3)
      go (inl h) = inl (eqb-true s.place.0 count h)
      go (inr h) = inr (ltb-true (quota - s.paid) 3 h)

  pub not-ended : has_ended count quota s ≡ false → (s.place.0 ≡ count → ⊥) × (3 ≤ quota - s.paid)
  not-ended e =
      let h = neither-true (eqb s.place.0 count) (ltb (quota - s.paid) 3) e in
      ((eqb-false s.place.0 count h.0), ltb-false (quota - s.paid) 3 h.1)
