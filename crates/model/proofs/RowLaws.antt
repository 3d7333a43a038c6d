-- Rows of positions, over any two axes: who owns the positions of a row, the first place of a processor, and the next place
-- after one that it owns. Assumes nothing.
use Prim.Native.Nat.{ℕ, suc, ◌-◌, ◌*◌, ◌/◌, ◌%◌, ◌≤◌, ◌<◌, zero-le}
use mathlib.Core.Path.{◌≡◌, refl, sym, ap, ◌∙◌, subst}
use mathlib.Core.Bool.{Bool, true, false, cond, ◌&&◌}
use mathlib.Core.Logic.{◌⊎◌, inl, inr}
use native.Mathlib.Nat.{le_refl, eq-or-lt_of_le, mul-le-mul_left}
use native.Mathlib.Omega.{arith}
use lib.Dec.{ltb, eqb}
use borrow.Author.Tests.{ltb-true, ltb-false}
use Rattle.numbers.proofs.Tests.{both_true}
use Rattle.model.specs.Ownership.{owns}
use Rattle.model.specs.Axes.{paired, Axis, owns_on, places_on, first_on, later_on, next_from, next_in_rows, rows}
use Rattle.model.proofs.AddressLaws.{owns_of, of_owns}
use Rattle.model.proofs.PairLaws.{pair-first, pair-second, pair_of, first-lt, second_lt, pair_lt, pair-eqb}
use Rattle.model.proofs.AxisLaws.{WalksOn}
use Rattle.model.proofs.LeastLaws.{Least, least-same, head-least}

-- ---- pairs in order

module _ (n : ℕ) where
  pair-le : {x y x' y' : ℕ} → x ≤ x' → y ≤ y' → paired n x y ≤ paired n x' y'
  pair-le h l = omega (arith, mul-le-mul_left n l)

  -- a pair that is no larger is of no later row
  row-le : (x y x' y' : ℕ) → x' < n → paired n x y ≤ paired n x' y' → y ≤ y'
  row-le x y x' y' h l = go (ltb y' y) refl
    where
      go : (b : Bool) → ltb y' y ≡ b → y ≤ y'
      go true e = let k : n * suc y' ≤ n * y = mul-le-mul_left n (ltb-true y' y e) in absurd (omega arith)
      go false e = ltb-false y' y e

-- ---- one axis

-- the element at each position is one of the array, and its owner one of the processors
pub record Sound (a : Axis) : Type 0 where
  pub owners : (t : ℕ) → t < a.count → a.array.owner (a.element t) < a.array.processors
  pub elements : (t : ℕ) → t < a.count → a.element t < a.array.size

module _ (a : Axis) where
  -- what the searches for places find
  pub first-least : (q : ℕ) → Least (owns_on a q) 0 a.count (first_on a q)
  unfolding first_on places_on
  first-least q = head-least (owns_on a q) a.count a.count 0 (omega arith)

  pub later-least : (q t : ℕ) → t < a.count → Least (owns_on a q) (suc t) a.count (later_on a q t)
  unfolding later_on
  later-least q t h = head-least (owns_on a q) a.count (a.count - suc t) (suc t) (omega arith)

  -- the processor that owns a position is its element's owner
  pub owner-on : (q t : ℕ) → owns_on a q t ≡ true → a.array.owner (a.element t) ≡ q
  unfolding owns_on
  owner-on q t e = of_owns a.array.owner q (a.element t) e

  pub on-owner : (q t : ℕ) → a.array.owner (a.element t) ≡ q → owns_on a q t ≡ true
  unfolding owns_on
  on-owner q t e = owns_of a.array.owner q (a.element t) e

  -- where the walk goes on
  pub next-least : WalksOn a → (q t : ℕ) → t < a.count → owns_on a q t ≡ true → Least (owns_on a q) (suc t) a.count (a.next t)
  unfolding WalksOn
  next-least walk q t h e = rw (walk q t h e) (later-least q t h)

  pub next-within : WalksOn a → (t : ℕ) → t < a.count → a.next t ≤ a.count
  next-within walk t h = (next-least walk _ t h (on-owner _ t refl)).within

-- ---- rows

-- the place after position t of row r
pub next-in-rows : (a b : Axis) (t r : ℕ) → t < a.count
    → (rows a b).next (paired a.count t r) ≡ next_from a b (a.array.owner (a.element t)) r (a.next t)
unfolding next_in_rows
next-in-rows a b t r h = rw (pair-first a.count t r h, pair-second a.count t r h)

module _ (a b : Axis) (s : Sound a) where
  -- the element at position t of row r, and its owner
  row-element : (t r : ℕ) → t < a.count → (rows a b).element (paired a.count t r) ≡ paired a.array.size (a.element t) (b.element r)
  row-element t r h = rw (pair-first a.count t r h, pair-second a.count t r h)

  pub row-owner : (t r : ℕ) → t < a.count
      → (rows a b).array.owner ((rows a b).element (paired a.count t r))
      ≡ paired a.array.processors (a.array.owner (a.element t)) (b.array.owner (b.element r))
  row-owner t r h =
      ap (rows a b).array.owner (row-element t r h)
      ∙ rw (
        pair-first a.array.size (a.element t) (b.element r) (s.elements t h),
        pair-second a.array.size (a.element t) (b.element r) (s.elements t h),
      )

  -- a processor owns it where its coordinates own the position and the row
  pub rows-own : (q o t r : ℕ) → q < a.array.processors → t < a.count
      → owns_on (rows a b) (paired a.array.processors q o) (paired a.count t r) ≡ (owns_on a q t && owns_on b o r)
  unfolding owns_on owns
  rows-own q o t r k h =
      ap (λ (z : ℕ). eqb z (paired a.array.processors q o)) (row-owner t r h)
      ∙ pair-eqb a.array.processors (a.array.owner (a.element t)) (b.array.owner (b.element r)) q o (s.owners t h) k

  pub rows-sound : Sound b → Sound (rows a b)
  rows-sound z = record { owners = owners; elements = elements }
    where
      owners : (t : ℕ) → t < a.count * b.count
          → (rows a b).array.owner ((rows a b).element t) < a.array.processors * b.array.processors
      owners t h =
          let l = first-lt a.count b.count t h in
          subst (λ (u : ℕ). (rows a b).array.owner ((rows a b).element u) < a.array.processors * b.array.processors) (pair_of a.count t)
          (rw (row-owner (t % a.count) (t / a.count) l)
          (pair_lt _ _ _ _ (s.owners _ l) (z.owners _ (second_lt a.count b.count t h))))

      elements : (t : ℕ) → t < a.count * b.count → (rows a b).element t < a.array.size * b.array.size
      elements t h =
          pair_lt _ _ _ _ (s.elements _ (first-lt a.count b.count t h)) (z.elements _ (second_lt a.count b.count t h))

  module _ (q o : ℕ) (k : q < a.array.processors) where
    abbrev mine : ℕ → Bool
    mine = owns_on (rows a b) (paired a.array.processors q o)

    passes : (t r : ℕ) → t < a.count → owns_on a q t ≡ true → owns_on b o r ≡ true → mine (paired a.count t r) ≡ true
    passes t r h e f = rows-own q o t r k h ∙ rw (e, f)

    -- the position and the row of a place that the processor owns
    record Place (j : ℕ) : Type 0 where
      first : j % a.count < a.count
      second : j / a.count < b.count
      is : paired a.count (j % a.count) (j / a.count) ≡ j
      position : owns_on a q (j % a.count) ≡ true
      row : owns_on b o (j / a.count) ≡ true

    place_of : (j : ℕ) → j < a.count * b.count → mine j ≡ true → Place j
    place_of j h e =
        let l = first-lt a.count b.count j h in
        let both = both_true _ _ (sym (rows-own q o (j % a.count) (j / a.count) k l) ∙ ap mine (pair_of a.count j) ∙ e) in
        record { first = l; second = second_lt a.count b.count j h; is = pair_of a.count j; position = both.0; row = both.1 }

    -- its first place is the pair of the first ones, where there are both
    pub first_rows : first_on a q < a.count → first_on b o < b.count
        → first_on (rows a b) (paired a.array.processors q o) ≡ paired a.count (first_on a q) (first_on b o)
    first_rows h l =
        let x = first-least a q in
        let y = first-least b o in
        least-same (first-least (rows a b) (paired a.array.processors q o))
        (record {
          from = zero-le;
          within = omega (arith, pair_lt a.count b.count (first_on a q) (first_on b o) h l);
          passes = λ i. passes (first_on a q) (first_on b o) h (x.passes h) (y.passes l);
          least = λ j i n e.
              let p = place_of j n e in
              omega (
                arith,
                p.is,
                pair-le a.count (x.least _ zero-le p.first p.position) (y.least _ zero-le p.second p.row),
              );
        })

    -- or the count
    pub first-no-rows : (first_on a q < a.count → first_on b o < b.count → ⊥)
        → first_on (rows a b) (paired a.array.processors q o) ≡ a.count * b.count
    first-no-rows none =
        least-same (first-least (rows a b) (paired a.array.processors q o))
        (record {
          from = zero-le;
          within = le_refl (a.count * b.count);
          passes = λ i. absurd (omega arith);
          least = λ j i n e.
              let p = place_of j n e in
              absurd (none (omega (arith, p.first, (first-least a q).least _ zero-le p.first p.position))
              (omega (arith, p.second, (first-least b o).least _ zero-le p.second p.row)));
        })

    module _ (t r : ℕ) (h : t < a.count) (l : r < b.count) (own : mine (paired a.count t r) ≡ true) where
      both : (owns_on a q t ≡ true) × (owns_on b o r ≡ true)
      both = both_true _ _ (sym (rows-own q o t r k h) ∙ own)

      abbrev u : ℕ
      u = later_on a q t

      abbrev v : ℕ
      v = later_on b o r

      -- a place after it is in its row, no sooner than the row's next one, or in a row no sooner than the next one owned
      after : (z : ℕ) → ((j : ℕ) → Place j → r ≡ j / a.count → u ≤ j % a.count → z ≤ j)
          → ((j : ℕ) → Place j → v ≤ j / a.count → z ≤ j)
          → (j : ℕ) → paired a.count t r < j → j < a.count * b.count → mine j ≡ true → z ≤ j
      after z inside below j n m e = go (eq-or-lt_of_le (row-le a.count t r (j % a.count) (j / a.count) p.first (omega (arith, p.is))))
        where
          p : Place j
          p = place_of j m e

          go : (r ≡ j / a.count) ⊎ (r < j / a.count) → z ≤ j
          go (inl i) =
              let x : a.count * r ≡ a.count * (j / a.count) = ap (λ (y : ℕ). a.count * y) i in
              inside j p i ((later-least a q t h).least _ (omega (arith, p.is)) p.first p.position)
          go (inr i) = below j p ((later-least b o r l).least _ i p.second p.row)

      found : Least mine (suc (paired a.count t r)) (a.count * b.count) (next_from a b q r u)
      found = rw (owner-on b o r both.1) (go (ltb u a.count) refl (ltb v b.count) refl)
        where
          x : Least (owns_on a q) (suc t) a.count u
          x = later-least a q t h

          y : Least (owns_on b o) (suc r) b.count v
          y = later-least b o r l

          front : first_on a q < a.count
          front = omega (arith, (first-least a q).least t zero-le h both.0)

          next_row : (z : ℕ) → v ≤ z → a.count * suc r ≤ a.count * z
          next_row z i = mul-le-mul_left a.count (omega (arith, y.from))

          go : (c : Bool) → ltb u a.count ≡ c → (d : Bool) → ltb v b.count ≡ d
              → Least mine (suc (paired a.count t r)) (a.count * b.count)
              (cond c (paired a.count u r) (cond d (paired a.count (first_on a q) v) (a.count * b.count)))
          go true e d f =
              let i = ltb-true u a.count e in
              record {
                from = omega (arith, x.from);
                within = omega (arith, pair_lt a.count b.count u r i l);
                passes = λ _. passes u r i (x.passes i) both.1;
                least = after (paired a.count u r)
                    (λ j p g m. omega (arith, p.is, ap (λ (z : ℕ). a.count * z) g))
                    (λ j p m. omega (arith, p.is, next_row _ m));
              }
          go false e true f =
              let i = ltb-true v b.count f in
              record {
                from = omega (arith, next_row v (le_refl v));
                within = omega (arith, pair_lt a.count b.count (first_on a q) v front i);
                passes = λ _. passes (first_on a q) v front ((first-least a q).passes front) (y.passes i);
                least = after (paired a.count (first_on a q) v)
                    (λ j p g m. absurd (omega (arith, p.first, ltb-false u a.count e)))
                    (λ j p m. omega (arith, p.is, pair-le a.count ((first-least a q).least _ zero-le p.first p.position) m));
              }
          go false e false f = record {
            from = pair_lt a.count b.count t r h l;
            within = le_refl (a.count * b.count);
            passes = λ i. absurd (omega arith);
            least = after (a.count * b.count)
                (λ j p g m. absurd (omega (arith, p.first, ltb-false u a.count e)))
                (λ j p m. absurd (omega (arith, p.second, ltb-false v b.count f)));
          }

      -- the next place after one that the processor owns
      pub later_rows : later_on (rows a b) (paired a.array.processors q o) (paired a.count t r) ≡ next_from a b q r u
      later_rows = least-same (later-least (rows a b) _ _ (pair_lt a.count b.count t r h l)) found

  -- rows lead from place to place as the first axis does
  walk_at : WalksOn a → (q t r : ℕ) → t < a.count → r < b.count → owns_on (rows a b) q (paired a.count t r) ≡ true
      → (rows a b).next (paired a.count t r) ≡ later_on (rows a b) q (paired a.count t r)
  unfolding WalksOn
  walk_at walk q t r h l e =
      let o : ℕ = a.array.owner (a.element t) in
      let pair : paired a.array.processors o (b.array.owner (b.element r)) ≡ q =
      sym (row-owner t r h) ∙ owner-on (rows a b) q (paired a.count t r) e in
      next-in-rows a b t r h
      ∙ ap (next_from a b o r) (walk o t h (on-owner a o t refl))
      ∙ sym (later_rows o (b.array.owner (b.element r)) (s.owners t h) t r h l (rw pair e))
      ∙ ap (λ (z : ℕ). later_on (rows a b) z (paired a.count t r)) pair

  pub rows-walk : WalksOn a → WalksOn (rows a b)
  unfolding WalksOn
  rows-walk walk q t h e =
      let i = pair_of a.count t in
      subst (λ (z : ℕ). (rows a b).next z ≡ later_on (rows a b) q z) i
      (walk_at walk q (t % a.count) (t / a.count) (first-lt a.count b.count t h) (second_lt a.count b.count t h) (rw i e))
