-- Laws of products of three arrays: owner, address and way back of an element, by those of its parts. Assumes nothing.
use Prim.Native.Nat.{ℕ, ◌+◌, ◌*◌, ◌/◌, ◌%◌, ◌≤◌, ◌<◌}
use mathlib.Core.Path.{◌≡◌, refl, sym, ap, ◌∙◌}
use native.Mathlib.Omega.{arith}
use Rattle.numbers.proofs.Division.{product_le}
use Rattle.model.specs.Ownership.{rank, held, back_to}
use Rattle.model.specs.Axes.{Array, paired, product}
use Rattle.model.proofs.AddressLaws.{rank_lt, rank-back}
use Rattle.model.proofs.HeldLaws.{held-le}
use Rattle.model.proofs.PairLaws.{pair-first, pair-second, pair_of, first-lt, second_lt, pair_lt}
use Rattle.model.proofs.ProductLaws.{Dealt, owner-pair, rank-pair, held-pair, back-pair}
use Rattle.grid.specs.Answers.{numbered}

-- what processor q has of an array, and the element at address x there
abbrev pub held_of : Array → ℕ → ℕ
held_of a q = held a.owner a.size q

abbrev pub back_of : Array → ℕ → ℕ → ℕ
back_of a q x = back_to a.owner a.size q x

-- the number of coordinates, whichever they are, is small
pub number-high : {x n y m z : ℕ} → x < 1024 → n ≤ 1024 → y < 1024 → m ≤ 1024 → z < 1024 → numbered x n y m z ≤ 2147483647
number-high {x} {n} {y} {m} {z} a b c d e =
    let last : z ≤ 1023 = omega arith in
    let rest : y + m * z ≤ 1048575 = omega (arith, product_le 1024 1023 d last) in
    omega (arith, product_le 1024 1048575 b rest)

module _ (a b c : Array) where
  abbrev rest : Array
  rest = product b c

  abbrev all : Array
  all = product a rest

  pub held-within : (q r s : ℕ) → held_of a q * (held_of b r * held_of c s) ≤ a.size * (b.size * c.size)
  held-within q r s =
      product_le a.size (b.size * c.size) (held-le a.owner q a.size)
      (product_le b.size c.size (held-le b.owner r b.size) (held-le c.owner s c.size))

  module _ (d : Dealt a) (e : Dealt b) where
    -- ---- an element
    module _ (i j k : ℕ) (l : i < a.size) (m : j < b.size) where
      pub owner-three : all.owner (numbered i a.size j b.size k)
          ≡ numbered (a.owner i) a.processors (b.owner j) b.processors (c.owner k)
      owner-three =
          owner-pair a rest i (paired b.size j k) l ∙ ap (paired a.processors (a.owner i)) (owner-pair b c j k m)

      pub rank-three : rank all.owner (numbered i a.size j b.size k)
          ≡ numbered (rank a.owner i) (held_of a (a.owner i)) (rank b.owner j) (held_of b (b.owner j)) (rank c.owner k)
      rank-three =
          rank-pair a rest d i (paired b.size j k) l
          ∙ ap (paired (held_of a (a.owner i)) (rank a.owner i)) (rank-pair b c e j k m)

      module _ (n : k < c.size) where
        pub address-lt : numbered (rank a.owner i) (held_of a (a.owner i)) (rank b.owner j) (held_of b (b.owner j)) (rank c.owner k)
            < held_of a (a.owner i) * (held_of b (b.owner j) * held_of c (c.owner k))
        address-lt =
            let x : ℕ = held_of a (a.owner i) in
            let y : ℕ = held_of b (b.owner j) in
            let z : ℕ = held_of c (c.owner k) in
            pair_lt x (y * z) (rank a.owner i) (paired y (rank b.owner j) (rank c.owner k)) (rank_lt a.owner a.size (a.owner i) i l refl)
            (pair_lt y z (rank b.owner j) (rank c.owner k) (rank_lt b.owner b.size (b.owner j) j m refl) (rank_lt c.owner c.size (c.owner k) k n refl))

    -- ---- a processor, by its coordinates
    module _ (q : ℕ) (h : q < all.processors) where
      abbrev near : ℕ
      near = q % a.processors

      abbrev row : ℕ
      row = q / a.processors % b.processors

      abbrev plane : ℕ
      plane = q / a.processors / b.processors

      pub near-lt : near < a.processors
      near-lt = first-lt a.processors rest.processors q h

      rest_lt : q / a.processors < rest.processors
      rest_lt = second_lt a.processors rest.processors q h

      pub row_lt : row < b.processors
      row_lt = first-lt b.processors c.processors (q / a.processors) rest_lt

      pub plane-lt : plane < c.processors
      plane-lt = second_lt b.processors c.processors (q / a.processors) rest_lt

      held-rest : held_of rest (q / a.processors) ≡ held_of b row * held_of c plane
      held-rest =
          ap (held_of rest) (sym (pair_of b.processors (q / a.processors))) ∙ held-pair b c e row plane row_lt

      pub held-three : held_of all q ≡ held_of a near * (held_of b row * held_of c plane)
      held-three =
          ap (held_of all) (sym (pair_of a.processors q)) ∙ held-pair a rest d near (q / a.processors) near-lt
          ∙ ap (λ (n : ℕ). held_of a near * n) held-rest

      -- and an address of it
      module _ (x : ℕ) (l : x < held_of a near * (held_of b row * held_of c plane)) where
        abbrev u : ℕ
        u = x % held_of a near

        abbrev v : ℕ
        v = x / held_of a near % held_of b row

        abbrev w : ℕ
        w = x / held_of a near / held_of b row

        pub u-lt : u < held_of a near
        u-lt = first-lt (held_of a near) (held_of b row * held_of c plane) x l

        over-lt : x / held_of a near < held_of b row * held_of c plane
        over-lt = second_lt (held_of a near) (held_of b row * held_of c plane) x l

        pub v-lt : v < held_of b row
        v-lt = first-lt (held_of b row) (held_of c plane) (x / held_of a near) over-lt

        pub w-lt : w < held_of c plane
        w-lt = second_lt (held_of b row) (held_of c plane) (x / held_of a near) over-lt

        back-rest : back_of rest (q / a.processors) (x / held_of a near) ≡ paired b.size (back_of b row v) (back_of c plane w)
        back-rest =
            (λ t. back_of rest (sym (pair_of b.processors (q / a.processors)) t) (sym (pair_of (held_of b row) (x / held_of a near)) t))
            ∙ back-pair b c e row plane v w v-lt w-lt

        pub back-three : back_of all q x ≡ numbered (back_of a near u) a.size (back_of b row v) b.size (back_of c plane w)
        back-three =
            (λ t. back_of all (sym (pair_of a.processors q) t) (sym (pair_of (held_of a near) x) t))
            ∙ back-pair a rest d near (q / a.processors) u (x / held_of a near) u-lt (rw held-rest over-lt)
            ∙ ap (paired a.size (back_of a near u)) back-rest

        abbrev found : ℕ
        found = back_of all q x

        pub found_first : found % a.size ≡ back_of a near u
        found_first =
            ap (λ (i : ℕ). i % a.size) back-three
            ∙ pair-first a.size (back_of a near u) (paired b.size (back_of b row v) (back_of c plane w)) (rank-back a.owner a.size near u u-lt).inside

        found-rest : found / a.size ≡ paired b.size (back_of b row v) (back_of c plane w)
        found-rest =
            ap (λ (i : ℕ). i / a.size) back-three
            ∙ pair-second a.size (back_of a near u) (paired b.size (back_of b row v) (back_of c plane w)) (rank-back a.owner a.size near u u-lt).inside

        pub found-second : found / a.size % b.size ≡ back_of b row v
        found-second =
            ap (λ (i : ℕ). i % b.size) found-rest
            ∙ pair-first b.size (back_of b row v) (back_of c plane w) (rank-back b.owner b.size row v v-lt).inside

        pub found-third : found / a.size / b.size ≡ back_of c plane w
        found-third =
            ap (λ (i : ℕ). i / b.size) found-rest
            ∙ pair-second b.size (back_of b row v) (back_of c plane w) (rank-back b.owner b.size row v v-lt).inside
