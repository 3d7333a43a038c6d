-- Arrays and sections that agree in each element and position: their owners, addresses, places and fills are the same. A product
-- with one element on one processor agrees with its other part, and so do rows of which there is one. Assumes nothing.
use Prim.Native.Nat.{ℕ, ◌*◌, ◌/◌, ◌%◌, ◌≤◌, ◌<◌}
use mathlib.Core.Path.{◌≡◌, refl, sym, ap, ◌∙◌}
use mathlib.Core.Bool.{Bool, true, false, cond, ◌&&◌, ◌||◌}
use mathlib.Core.List.{List}
use native.Mathlib.Nat.{mul-one, mod-eq_of_lt, div-eq_of_lt}
use native.Mathlib.Omega.{arith}
use lib.Dec.{ltb, eqb}
use lib.IntN.{ℤ, pos}
use lib.ListN.{get_or}
use lib.Signed.{le_z}
use borrow.Author.Tests.{ltb-true, ltb-false, le-ltb}
use Rattle.numbers.specs.Search.{tally, passing, head_or}
use Rattle.numbers.proofs.SearchLaws.{tally-same, passing-same}
use Rattle.model.specs.Ownership.{nat, owns, rank, elements_of, held, back_to}
use Rattle.model.specs.Filling.{fill_by}
use Rattle.model.specs.Axes.{Array, paired, product, Axis, owns_on, places_on, first_on, later_on, walk_on, next_in_rows, rows}
use Rattle.model.specs.GridCalls.{is_place_on}
use Rattle.model.proofs.AxisLaws.{WalksOn}
use Rattle.model.proofs.RowLaws.{Sound, later-least, next-within}
use Rattle.model.proofs.RowFills.{Agree, fill-same}

-- ---- arrays

pub record Alike (a b : Array) : Type 0 where
  pub processors : a.processors ≡ b.processors
  pub size : a.size ≡ b.size
  pub owner : (i : ℕ) → i < b.size → a.owner i ≡ b.owner i

module _ {a b : Array} (s : Alike a b) where
  owns-alike : (q i : ℕ) → i < b.size → owns a.owner q i ≡ owns b.owner q i
  unfolding owns
  owns-alike q i h = ap (λ (o : ℕ). eqb o q) (s.owner i h)

  pub rank-alike : (i : ℕ) → i < b.size → rank a.owner i ≡ rank b.owner i
  unfolding rank
  rank-alike i h =
      ap (λ (o : ℕ). tally (owns a.owner o) i) (s.owner i h) ∙ tally-same _ _ i (λ j l. owns-alike (b.owner i) j (omega arith))

  pub held-alike : (q : ℕ) → held a.owner a.size q ≡ held b.owner b.size q
  unfolding held
  held-alike q = ap (λ (n : ℕ). tally (owns a.owner q) n) s.size ∙ tally-same _ _ b.size (owns-alike q)

  pub back-alike : (q x : ℕ) → back_to a.owner a.size q x ≡ back_to b.owner b.size q x
  unfolding back_to elements_of
  back-alike q x =
      ap (λ (n : ℕ). get_or (passing (owns a.owner q) 0 n) x 0) s.size
      ∙ ap (λ (l : List ℕ). get_or l x 0) (passing-same _ _ b.size 0 (λ i h l. owns-alike q i (omega arith)))

-- ---- sections

pub record AlikeOn (a b : Axis) : Type 0 where
  pub array : Alike a.array b.array
  pub count : a.count ≡ b.count
  pub element : (t : ℕ) → t < b.count → a.element t ≡ b.element t
  pub cost : (t : ℕ) → t < b.count → a.cost t ≡ b.cost t
  pub next : (t : ℕ) → t < b.count → a.next t ≡ b.next t

module _ {a b : Axis} (s : AlikeOn a b) (sound : Sound b) where
  owns-on : (q t : ℕ) → t < b.count → owns_on a q t ≡ owns_on b q t
  unfolding owns_on
  owns-on q t h = ap (owns a.array.owner q) (s.element t h) ∙ owns-alike s.array q (b.element t) (sound.elements t h)

  pub first_alike : (q : ℕ) → first_on a q ≡ first_on b q
  unfolding first_on places_on
  first_alike q =
      ap (λ (n : ℕ). head_or n (passing (owns_on a q) 0 n)) s.count
      ∙ ap (head_or b.count) (passing-same _ _ b.count 0 (λ t h l. owns-on q t (omega arith)))

  pub place-alike : (q t : ℤ) → is_place_on a q t ≡ is_place_on b q t
  unfolding is_place_on owns_on
  place-alike q t = rw s.count (ap (λ (v : Bool). le_z (pos 0) t && (eqb (nat t) b.count || v)) (go (ltb (nat t) b.count) refl))
    where
      go : (v : Bool) → ltb (nat t) b.count ≡ v → (v && owns_on a (nat q) (nat t)) ≡ (v && owns_on b (nat q) (nat t))
      go true e = owns-on (nat q) (nat t) (ltb-true (nat t) b.count e)
      go false e = refl

  pub fill-alike : WalksOn b → (t quota : ℕ) (l : List ℕ) → t ≤ b.count → fill_by (walk_on a) t quota l ≡ fill_by (walk_on b) t quota l
  fill-alike walk t quota l h = sym (fill-same agree t quota l h)
    where
      agree : Agree (walk_on b) (walk_on a)
      agree = record {
        count = sym s.count;
        least = refl;
        address = λ u k. sym (ap (rank a.array.owner) (s.element u k) ∙ rank-alike s.array (b.element u) (sound.elements u k));
        cost = λ u k. sym (s.cost u k);
        next = λ u k. sym (s.next u k);
        on = next-within b walk;
      }

-- ---- one element on one processor

pub record One (o : Array) : Type 0 where
  pub processors : o.processors ≡ 1
  pub size : o.size ≡ 1
  pub owner : (i : ℕ) → o.owner i ≡ 0

pub product-one : {o u : Array} → One o → One u → One (product o u)
product-one {o} {u} a b = record {
  processors = rw (a.processors, b.processors);
  size = rw (a.size, b.size);
  owner = λ i. rw (a.owner (i % o.size), b.owner (i / o.size)) (omega arith);
}

pub product-alike : (a : Array) {o : Array} → One o → Alike (product a o) a
product-alike a {o} e = record {
  processors = rw e.processors (mul-one a.processors);
  size = rw e.size (mul-one a.size);
  owner = λ i h. rw (e.owner (i / a.size), mod-eq_of_lt h) (omega arith);
}

-- a section of it
pub record OneOn (o : Axis) : Type 0 where
  pub array : One o.array
  pub count : o.count ≡ 1
  pub element : o.element 0 ≡ 0

pub rows-one : {o u : Axis} → OneOn o → OneOn u → OneOn (rows o u)
rows-one {o} {u} a b = record {
  array = product-one a.array b.array;
  count = rw (a.count, b.count);
  element = rw (a.count, a.element, b.element) (omega arith);
}

module _ (a : Axis) {o : Axis} (e : OneOn o) (on : (t : ℕ) → t < a.count → a.next t ≤ a.count) where
  -- after the one row there is none
  next-alike : (t : ℕ) → t < a.count → next_in_rows a o t ≡ a.next t
  unfolding next_in_rows
  next-alike t h = rw (mod-eq_of_lt h, div-eq_of_lt h, last) (go (ltb (a.next t) a.count) refl)
    where
      last : ltb (later_on o (o.array.owner (o.element 0)) 0) o.count ≡ false
      last =
          le-ltb (later_on o (o.array.owner (o.element 0)) 0) o.count
          (omega (arith, (later-least o (o.array.owner (o.element 0)) 0 (omega (arith, e.count))).from, e.count))

      go : (b : Bool) → ltb (a.next t) a.count ≡ b → cond b (paired a.count (a.next t) 0) (a.count * o.count) ≡ a.next t
      go true p = omega arith
      go false p = rw e.count (omega (arith, ltb-false (a.next t) a.count p, on t h))

  pub rows_alike : AlikeOn (rows a o) a
  rows_alike = record {
    array = product-alike a.array e.array;
    count = rw e.count (mul-one a.count);
    element = λ t h. rw (mod-eq_of_lt h, div-eq_of_lt h, e.element) (omega arith);
    cost = λ t h. ap a.cost (mod-eq_of_lt h);
    next = next-alike;
  }
