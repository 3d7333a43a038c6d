-- Elements of three accepted dimensions: their owner and address by the coordinates, and the way back. Assumes nothing.
use Prim.Native.Nat.{ℕ, ◌*◌, ◌/◌, ◌%◌, ◌≤◌, ◌<◌}
use mathlib.Core.Path.{◌≡◌, refl, sym, ap, ◌∙◌}
use mathlib.Core.Bool.{Bool, true, false, ◌&&◌}
use mathlib.Core.List.{List}
use native.Mathlib.Omega.{arith}
use lib.IntN.{ℤ, pos, ◌+ℤ◌}
use Rattle.numbers.proofs.Tests.{both_true}
use Rattle.model.specs.Ownership.{nat}
use Rattle.model.specs.Questions.{is_below}
use Rattle.model.specs.Axes.{Array}
use Rattle.model.specs.Calls.{OwnershipAnswer}
use Rattle.model.proofs.AddressLaws.{rank_lt}
use Rattle.model.proofs.ProductLaws as products
use Rattle.model.proofs.QuestionLaws.{below-is}
use Rattle.grid.specs.Dimensions.{Dimensions}
use Rattle.grid.specs.declared.elements.Kept.{Kept}
use Rattle.grid.specs.declared.elements.Held.{Held}
use Rattle.grid.specs.Dimensions.{array_in, grid_in, AllKnown}
use Rattle.grid.specs.Answers.{numbered, has_index, from_lower_in, kept_in, ownership_on}
use Rattle.grid.specs.Answers.{indices_from, held_by, index_in, found_among, indices_by, going_back_on}
use Rattle.grid.proofs.ThreeLaws.{held_of, back_of, held-within, owner-three, rank-three, address-lt}
use Rattle.grid.proofs.ThreeLaws.{near-lt, row_lt, plane-lt, held-three, u-lt, v-lt, w-lt, found_first, found-second, found-third}
use Rattle.grid.proofs.DimensionLaws.{dealt, held-here, found_here, index_below}

module _ (x : Dimensions) (b c d : List ℕ) where
  abbrev pub near : Array
  near = array_in x.first b

  abbrev pub row : Array
  row = array_in x.second c

  abbrev pub plane : Array
  plane = array_in x.third d

  module _ (k : AllKnown x b c d) where
    -- ---- ownership

    module _ (r s t : ℤ) (e : (has_index x.first r && has_index x.second s && has_index x.third t) ≡ true) where
      abbrev two : (has_index x.first r && has_index x.second s) ≡ true
      two = (both_true (has_index x.first r && has_index x.second s) (has_index x.third t) e).0

      pub first-in : has_index x.first r ≡ true
      first-in = (both_true (has_index x.first r) (has_index x.second s) two).0

      pub second-in : has_index x.second s ≡ true
      second-in = (both_true (has_index x.first r) (has_index x.second s) two).1

      pub third-in : has_index x.third t ≡ true
      third-in = (both_true (has_index x.first r && has_index x.second s) (has_index x.third t) e).1

      abbrev u : Kept
      u = kept_in near (from_lower_in x.first r)

      abbrev v : Kept
      v = kept_in row (from_lower_in x.second s)

      abbrev w : Kept
      w = kept_in plane (from_lower_in x.third t)

      -- its coordinates
      pub coordinates : (u.processor < 1024) × (v.processor < 1024) × (w.processor < 1024)
      coordinates = (
        omega (arith, dealt x.first b k.first _ (index_below x.first r first-in).below, k.first.ranged.0.processors-high),
        omega (arith, dealt x.second c k.second _ (index_below x.second s second-in).below, k.second.ranged.0.processors-high),
        omega (arith, dealt x.third d k.third _ (index_below x.third t third-in).below, k.third.ranged.0.processors-high),
      )

      pub some-held : 0 < u.elements
      some-held =
          let i : ℕ = from_lower_in x.first r in
          omega (arith, rank_lt near.owner near.size (near.owner i) i (index_below x.first r first-in).below refl)

      pub address-high : numbered u.address.0 u.elements v.address.0 v.elements w.address.0 ≤ 2147483647
      address-high =
          omega (
            arith,
            address-lt near row plane (dealt x.first b k.first) (dealt x.second c k.second) (from_lower_in x.first r) (from_lower_in x.second s)
                (from_lower_in x.third t) (index_below x.first r first-in).below (index_below x.second s second-in).below
                (index_below x.third t third-in).below,
            held-within near row plane u.processor v.processor w.processor,
            k.size,
          )

      abbrev owned : OwnershipAnswer
      owned = record {
        refusal = 0;
        processor = numbered u.processor near.processors v.processor row.processors w.processor;
        address = numbered u.address.0 u.elements v.address.0 v.elements w.address.0;
      }

      pub owned-so : owned ≡ ownership_on x b c d r s t
      unfolding ownership_on
      owned-so =
          let i : ℕ = from_lower_in x.first r in
          let j : ℕ = from_lower_in x.second s in
          let l : ℕ = from_lower_in x.third t in
          let f = dealt x.first b k.first in
          let g = dealt x.second c k.second in
          let m = (index_below x.first r first-in).below in
          let n = (index_below x.second s second-in).below in
          let o = sym (owner-three near row plane f g i j l m n) in
          let a = sym (rank-three near row plane f g i j l m n) in
          rw e (λ z. record { refusal = 0; processor = o z; address = a z })

    -- ---- going back

    module _ (z : ℤ) (h : is_below (pos (grid_in x b c d).processors) z ≡ true) where
      abbrev q : ℕ
      q = nat z

      is-processor : q < (grid_in x b c d).processors
      unfolding nat
      is-processor = (below-is z (pos (grid_in x b c d).processors) h).below

      abbrev dn : products.Dealt near
      dn = dealt x.first b k.first

      abbrev dr : products.Dealt row
      dr = dealt x.second c k.second

      abbrev i : ℕ
      i = q % near.processors

      abbrev j : ℕ
      j = q / near.processors % row.processors

      abbrev l : ℕ
      l = q / near.processors / row.processors

      pub near-below : i < near.processors
      near-below = near-lt near row plane dn dr q is-processor

      pub row_below : j < row.processors
      row_below = row_lt near row plane dn dr q is-processor

      pub plane-below : l < plane.processors
      plane-below = plane-lt near row plane dn dr q is-processor

      abbrev f : Held
      f = held_by x.first b i

      abbrev g : Held
      g = held_by x.second c j

      abbrev m : Held
      m = held_by x.third d l

      held_first : f.elements ≡ held_of near i
      held_first = held-here x.first b k.first i

      held-second : g.elements ≡ held_of row j
      held-second = held-here x.second c k.second j

      held-third : m.elements ≡ held_of plane l
      held-third = held-here x.third d k.third l

      held-parts : f.elements * (g.elements * m.elements) ≡ held_of near i * (held_of row j * held_of plane l)
      held-parts = λ t. held_first t * (held-second t * held-third t)

      pub held_high : f.elements * (g.elements * m.elements) ≤ 2147483647
      held_high = omega (arith, held-parts, held-within near row plane i j l, k.size)

      held_all : f.elements * (g.elements * m.elements) ≡ held_of (grid_in x b c d) q
      held_all = held-parts ∙ sym (held-three near row plane dn dr q is-processor)

      module _ (a : ℤ) (e : is_below (pos (held_of (grid_in x b c d) q)) a ≡ true) where
        inside : nat a < held_of near i * (held_of row j * held_of plane l)
        unfolding nat
        inside = omega (arith, (below-is a (pos (held_of (grid_in x b c d) q)) e).below, held-three near row plane dn dr q is-processor)

        found-i : index_in x.first f (nat a % f.elements) ≡ (indices_by x (back_of (grid_in x b c d) q (nat a))).first
        found-i =
            ap (λ (n : ℕ). index_in x.first f (nat a % n)) held_first
            ∙ ap (λ (n : ℕ). x.first.lower +ℤ pos n)
            (found_here x.first b k.first i (nat a % held_of near i) (u-lt near row plane dn dr q is-processor (nat a) inside)
            ∙ sym (found_first near row plane dn dr q is-processor (nat a) inside))

        found-j : index_in x.second g (nat a / f.elements % g.elements) ≡ (indices_by x (back_of (grid_in x b c d) q (nat a))).second
        found-j =
            (λ t. index_in x.second g (nat a / held_first t % held-second t))
            ∙ ap (λ (n : ℕ). x.second.lower +ℤ pos n)
            (found_here x.second c k.second j (nat a / held_of near i % held_of row j) (v-lt near row plane dn dr q is-processor (nat a) inside)
            ∙ sym (found-second near row plane dn dr q is-processor (nat a) inside))

        found-l : index_in x.third m (nat a / f.elements / g.elements) ≡ (indices_by x (back_of (grid_in x b c d) q (nat a))).third
        found-l =
            (λ t. index_in x.third m (nat a / held_first t / held-second t))
            ∙ ap (λ (n : ℕ). x.third.lower +ℤ pos n)
            (found_here x.third d k.third l (nat a / held_of near i / held_of row j) (w-lt near row plane dn dr q is-processor (nat a) inside)
            ∙ sym (found-third near row plane dn dr q is-processor (nat a) inside))

      pub found-so : (a : ℤ) → found_among x f g m a ≡ going_back_on x b c d z a
      unfolding found_among going_back_on
      found-so a = go (is_below (pos (held_of (grid_in x b c d) q)) a) refl
        where
          go : (t : Bool) → is_below (pos (held_of (grid_in x b c d) q)) a ≡ t → found_among x f g m a ≡ going_back_on x b c d z a
          go true e =
              rw (ap (λ (n : ℕ). is_below (pos n) a) held_all ∙ e, h, e)
              (λ t. record { refusal = 0; indices = indices_from (found-i a e t) (found-j a e t) (found-l a e t) })
          go false e = rw (ap (λ (n : ℕ). is_below (pos n) a) held_all ∙ e, h, e)
