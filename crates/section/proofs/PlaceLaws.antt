-- The first place of a processor in an accepted section, by the columns that its positions lead to.
use Prim.Native.Nat.{ℕ, ◌+◌, ◌-◌, ◌*◌, ◌/◌, ◌%◌, ◌≤◌, ◌<◌}
use mathlib.Core.Path.{◌≡◌, sym, ap, ◌∙◌, subst}
use mathlib.Core.Bool.{true, false}
use mathlib.Core.Logic.{⊎_elim}
use native.Mathlib.Nat.{mod-lt, mod-eq_of_lt, mod-mod, add-mod, mul_comm, div-add-mod', div-eq_of_lt-le}
use native.Mathlib.Omega.{arith}
use borrow.Author.Tests.{eq-eqb, eqb-true}
use lib.Dec.{eqb}
use Rattle.numbers.specs.FirstHit.{within}
use Rattle.numbers.specs.Search.{passing, head_or}
use Rattle.numbers.proofs.Division.{rest-mul}
use Rattle.numbers.proofs.SearchLaws.{passing-none}
use Rattle.numbers.proofs.HitLaws.{within-true, true-within}
use Rattle.model.specs.Ownership.{cell_of, cell_owner, course_cells, owner_of, owns}
use Rattle.model.proofs.Rests.{Sum, sum-mod}
use Rattle.model.proofs.CellOwners.{owner-rest}
use Rattle.section.specs.declared.questions.Strided.{Strided}
use Rattle.section.specs.Strides.{Bounded, cell_at, owned_at, place_in}
use Rattle.section.specs.Places.{first_from, found_below, Block}
use Rattle.section.proofs.StridedLaws.{course-some, course-high, block_inside, first_cell, cells-rise, cells-fall}
use Rattle.section.proofs.Windows.{same_test, found-place}

-- a factor may be taken by m first
rest-factor : (m S t : ℕ) → t * (S % m) % m ≡ t * S % m
rest-factor m S t =
    ap (λ (n : ℕ). n % m) (mul_comm t (S % m)) ∙ rest-mul m t S ∙ ap (λ (n : ℕ). n % m) (mul_comm S t)

-- the column that t times S leads to
rest-led : (m x S t : ℕ) → (x % m + t * (S % m)) % m ≡ (x + t * S) % m
rest-led m x S t =
    add-mod (x % m) (t * (S % m)) m ∙ (λ i. (mod-mod x m i + rest-factor m S t i) % m) ∙ sym (add-mod x (t * S) m)

-- ---- a course counted from its end
module _ (m c e z : ℕ) (lc : c < m) where
  mirror : Sum m z (e % m) c → z < m → (m - 1 - c + e) % m ≡ m - 1 - z
  mirror s lz =
      let pos : 0 < m = omega arith in
      let l : m - 1 - c < m = omega arith in
      let y : Sum m (m - 1 - c) (e % m) ((m - 1 - c + e) % m) =
      subst (λ (n : ℕ). Sum m n (e % m) ((m - 1 - c + e) % m)) (mod-eq_of_lt l) (sum-mod m (m - 1 - c) e pos) in
      let v : (m - 1 - c + e) % m < m = mod-lt (m - 1 - c + e) pos in
      ⊎_elim (λ a. ⊎_elim (λ b. omega arith) (λ b. omega arith) s) (λ a. ⊎_elim (λ b. omega arith) (λ b. omega arith) s) y

-- the columns from low on, counted from the end
within-mirror : (m k low z : ℕ) → 0 < k → low + k ≤ m → z < m
    → within low (low + (k - 1)) z ≡ within (m - (low + k)) (m - (low + k) + (k - 1)) (m - 1 - z)
within-mirror m k low z k-pos room lz =
    let low' : ℕ = m - (low + k) in
    let z' : ℕ = m - 1 - z in
    same_test (within low (low + (k - 1)) z) (within low' (low' + (k - 1)) z')
    (λ h. let w = within-true low (low + (k - 1)) z h in true-within low' (low' + (k - 1)) z' (omega arith) (omega arith))
    (λ h. let w = within-true low' (low' + (k - 1)) z' h in true-within low (low + (k - 1)) z (omega arith) (omega arith))

-- ---- a section
pub place_none : (w : Strided) (q : ℕ) → w.count ≡ 0 → 0 ≡ place_in w q
unfolding place_in head_or
place_none w q e =
    sym (ap (λ (n : ℕ). head_or n (passing (owned_at w q) 0 n)) e ∙ ap (head_or 0) (passing-none (owned_at w q) 0))

-- its course, its first cell and its spread
pub record Worked (w : Strided) (m x S : ℕ) : Type 0 where
  pub course : m ≡ course_cells w.layout
  pub first : x ≡ cell_of w.layout w.first.0
  pub spread : S ≡ w.layout.stride * w.stride

module _ {w : Strided} {m x S : ℕ} (r : Worked w m x S) (b : Bounded w) where
  abbrev k : ℕ
  k = w.layout.block

  k-pos : 0 < k
  k-pos = b.sized.block-pos

  pub m-pos : 0 < m
  m-pos = rw r.course (course-some w.layout b.sized)

  pub m-high : m ≤ 67108864
  m-high = rw r.course (course-high w.layout b.sized)

  -- the columns of positions, from the first cell's
  column-up : w.upward ≡ true → (t : ℕ) → cell_at w t % m ≡ (x % m + t * (S % m)) % m
  column-up up t =
      let e : cell_at w t ≡ x + t * S = rw (r.first, ← first_cell w, r.spread) (cells-rise w up t) in
      ap (λ (n : ℕ). n % m) e ∙ sym (rest-led m x S t)

  column-down : w.upward ≡ false → (t : ℕ) → t < w.count → m - 1 - cell_at w t % m ≡ (m - 1 - x % m + t * (S % m)) % m
  column-down down t h =
      let e : cell_at w t + t * S ≡ x = rw (r.first, ← first_cell w, r.spread) (sym (cells-fall w b down t h)) in
      let far : Sum m (cell_at w t % m) (t * (S % m) % m) (x % m) =
      subst (λ (n : ℕ). Sum m (cell_at w t % m) n (x % m)) (sym (rest-factor m S t))
      (subst (λ (n : ℕ). Sum m (cell_at w t % m) (t * S % m) (n % m)) e (sum-mod m (cell_at w t) (t * S) m-pos)) in
      sym (mirror m (x % m) (t * (S % m)) (cell_at w t % m) (mod-lt x m-pos) far (mod-lt (cell_at w t) m-pos))

  -- a column of a course and a block in it
  pub block_in_lem : {c low : ℕ} → c < m → low + k ≤ m → Block c (S % m) m low k
  block_in_lem column inside = record { column = column; rest = mod-lt S m-pos; some = k-pos; inside = inside; small = m-high }

  module _ (q : ℕ) (own : q < w.layout.processors) where
    pub room : q * k + k ≤ m
    room = rw r.course (block_inside w.layout b.sized q own)

    -- the owner is q just where the column is in its block
    owned-column : (t : ℕ) → owned_at w q t ≡ within (q * k) (q * k + (k - 1)) (cell_at w t % m)
    unfolding owned_at owns owner_of cell_at
    owned-column t =
        let owner : ℕ = cell_owner w.layout (cell_at w t) in
        let y : ℕ = cell_at w t % m in
        let o : owner ≡ y / k = rw r.course (owner-rest w.layout b.sized.processors-pos k-pos (cell_at w t)) in
        same_test (eqb owner q) (within (q * k) (q * k + (k - 1)) y)
        (λ e. let d : y / k * k ≡ q * k = ap (λ (n : ℕ). n * k) (sym o ∙ eqb-true owner q e) in
        true-within (q * k) (q * k + (k - 1)) y (omega (arith, div-add-mod' y k)) (omega (arith, div-add-mod' y k, mod-lt y k-pos)))
        (λ e. let v = within-true (q * k) (q * k + (k - 1)) y e in
        eq-eqb owner q (o ∙ div-eq_of_lt-le k v.0 (omega (arith, k-pos))))

    pub place_up : w.upward ≡ true → found_below w.count (first_from (x % m) (S % m) m (q * k) (q * k + (k - 1))) ≡ place_in w q
    unfolding place_in
    place_up up =
        found-place (x % m) (S % m) m (q * k) (q * k + (k - 1)) w.count m-pos (owned_at w q)
        (λ t h. owned-column t ∙ ap (within (q * k) (q * k + (k - 1))) (column-up up t))

    pub place_down : w.upward ≡ false
        → found_below w.count (first_from (m - 1 - x % m) (S % m) m (m - (q * k + k)) (m - (q * k + k) + (k - 1))) ≡ place_in w q
    unfolding place_in
    place_down down =
        let low : ℕ = m - (q * k + k) in
        found-place (m - 1 - x % m) (S % m) m low (low + (k - 1)) w.count m-pos (owned_at w q)
        (λ t h. owned-column t ∙ within-mirror m k (q * k) (cell_at w t % m) k-pos room (mod-lt (cell_at w t) m-pos)
        ∙ ap (within low (low + (k - 1))) (column-down down t h))
