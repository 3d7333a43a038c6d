-- Laws of products of arrays: the owner, the address and the way back of a pair, by those of its parts. Assumes nothing.
use Prim.Native.Nat.{ℕ, ◌*◌, ◌<◌}
use mathlib.Core.Path.{◌≡◌, refl, sym, ◌∙◌}
use mathlib.Core.Bool.{◌&&◌}
use native.Mathlib.Nat.{le_of_lt}
use Rattle.model.specs.Ownership.{owns, rank, held, back_to}
use Rattle.model.specs.Axes.{Array, paired, product}
use Rattle.model.proofs.AddressLaws.{owns_of, rank_is, rank-back, back-rank}
use Rattle.model.proofs.PairLaws.{pair-first, pair-second, first-lt, second_lt, pair_lt, pair-eqb, tally-rows, tally-pairs}

-- every element is on one of the processors
abbrev pub Dealt : Array → Type 0
Dealt a = (i : ℕ) → i < a.size → a.owner i < a.processors

module _ (a b : Array) where
  pub product-dealt : Dealt a → Dealt b → Dealt (product a b)
  product-dealt d e i h =
      pair_lt a.processors b.processors _ _ (d _ (first-lt a.size b.size i h)) (e _ (second_lt a.size b.size i h))

  pub owner-pair : (i j : ℕ) → i < a.size
      → (product a b).owner (paired a.size i j) ≡ paired a.processors (a.owner i) (b.owner j)
  owner-pair i j h = rw (pair-first a.size i j h, pair-second a.size i j h)

  -- a pair of processors owns a pair of elements where each owns its own
  pub owns-pair : (q r i j : ℕ) → q < a.processors → i < a.size → a.owner i < a.processors
      → owns (product a b).owner (paired a.processors q r) (paired a.size i j) ≡ (owns a.owner q i && owns b.owner r j)
  unfolding owns
  owns-pair q r i j l h o = rw (owner-pair i j h) (pair-eqb a.processors (a.owner i) (b.owner j) q r o l)

  module _ (d : Dealt a) where
    -- count 1 · count 2
    pub held-pair : (q r : ℕ) → q < a.processors
        → held (product a b).owner (product a b).size (paired a.processors q r)
        ≡ held a.owner a.size q * held b.owner b.size r
    unfolding held
    held-pair q r l = tally-rows a.size _ _ _ (λ i j h. owns-pair q r i j l h (d i h)) b.size

    -- "first dimension fastest, over the local counts": address 1 + count 1 · address 2
    pub rank-pair : (i j : ℕ) → i < a.size
        → rank (product a b).owner (paired a.size i j)
        ≡ paired (held a.owner a.size (a.owner i)) (rank a.owner i) (rank b.owner j)
    unfolding rank held
    rank-pair i j h =
        let q : ℕ = a.owner i in
        let r : ℕ = b.owner j in
        rank_is (product a b).owner (paired a.processors q r) (paired a.size i j) (owner-pair i j h)
        ∙ tally-pairs a.size (owns a.owner q) (owns b.owner r) _ (λ x y l. owns-pair q r x y (d i h) l (d x l)) i j (le_of_lt h)
        ∙ rw (owns_of b.owner r j refl)

    -- an address leads back by its parts
    pub back-pair : (q r x y : ℕ) → x < held a.owner a.size q → y < held b.owner b.size r
        → back_to (product a b).owner (product a b).size (paired a.processors q r) (paired (held a.owner a.size q) x y)
        ≡ paired a.size (back_to a.owner a.size q x) (back_to b.owner b.size r y)
    back-pair q r x y h k =
        let u = rank-back a.owner a.size q x h in
        let v = rank-back b.owner b.size r y k in
        let i : ℕ = back_to a.owner a.size q x in
        let j : ℕ = back_to b.owner b.size r y in
        let o : (product a b).owner (paired a.size i j) ≡ paired a.processors q r =
        owner-pair i j u.inside ∙ (λ t. paired a.processors (u.processor t) (v.processor t)) in
        let e : rank (product a b).owner (paired a.size i j) ≡ paired (held a.owner a.size q) x y =
        rank-pair i j u.inside ∙ (λ t. paired (held a.owner a.size (u.processor t)) (u.address t) (v.address t)) in
        (λ t. back_to (product a b).owner (product a b).size (sym o t) (sym e t))
        ∙ back-rank (product a b).owner (product a b).size (paired a.size i j) (pair_lt a.size b.size i j u.inside v.inside)
