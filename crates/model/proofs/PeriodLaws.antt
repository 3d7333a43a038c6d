-- The walk of an accepted section of a cyclic template repeats over positions that are whole courses, and so over a period.
-- Assumes nothing.
use Prim.Native.Nat.{ℕ, ◌+◌, ◌*◌, ◌/◌, ◌%◌, ◌≤◌, ◌<◌}
use mathlib.Core.Path.{◌≡◌, sym, ap, ◌∙◌, subst}
use mathlib.Core.Bool.{Bool, true, false, cond}
use mathlib.Core.Logic.{◌⊎◌, inl, inr, ⊎_elim}
use native.Mathlib.Nat.{add-mul-mod_self_right, div-mul_cancel, eq-zero-or-pos}
use native.Mathlib.Omega.{arith}
use lib.Dec.{eqb, ltb}
use lib.IntN.{ℤ, nat_abs}
use borrow.Author.Tests.{lt-ltb, le-ltb}
use Rattle.numbers.specs.Search.{tally}
use Rattle.numbers.specs.Gcd.{gcd}
use Rattle.numbers.proofs.GcdLaws.{gcd-left, gcd-right}
use Rattle.numbers.proofs.TallyLaws.{tally-period, length-again, sum-again}
use Rattle.model.specs.declared.Layout.{Layout}
use Rattle.model.specs.Mappings.{Dealing, cyclic, Section}
use Rattle.model.specs.Ownership.{owns, rank, held, cell_of, cell_owner, course_cells, column_of, owner_of}
use Rattle.model.specs.Sections.{layout, count, index, cell, address, owns_at}
use Rattle.model.specs.Steps.{Going, go_on, spread, upward, cyclic_steps, cyclic_going, cyclic_next, cost_dealt, cost, next_dealt, next_place}
use Rattle.model.specs.Questions.{first_no, of_section}
use Rattle.model.specs.Periods.{period, period_addresses, period_elements, period_tries, Repeating}
use Rattle.model.proofs.AddressLaws.{of_owns, rank_is}
use Rattle.model.proofs.AcceptedLaws.{accepted}
use Rattle.model.proofs.SectionLaws.{Moved, index-moved, cells-moved}
use Rattle.model.proofs.Rests.{le-or-lt}
use Rattle.model.proofs.CellOwners.{course-pos, owner-rest}
use Rattle.model.proofs.WalkTheorem.{cyclic_owns, next-place-by}
use Rattle.model.proofs.Walking.{owner-cyclic, owns-cyclic}

-- what n more leaves the same, n less does too
moved_same : (f : ℕ → ℕ) (n : ℕ) → ((c : ℕ) → f (c + n) ≡ f c) → (up : Bool) (c z : ℕ) → Moved up c z n → f z ≡ f c
moved_same f n again true c z e = ap f e ∙ again c
moved_same f n again false c z e = sym (ap f e ∙ again z)

-- a place of N, or N where it is past the last
place-in : (u N : ℕ) → u < N → cond (ltb u N) u N ≡ u
place-in u N h = rw (lt-ltb u N h)

place-past : (u N : ℕ) → N ≤ u → cond (ltb u N) u N ≡ N
place-past u N h = rw (le-ltb u N h)

-- ---- whole courses on, owner and column are the same
module _ (l : Layout) (p-pos : 0 < l.processors) (k-pos : 0 < l.block) (d : ℕ) where
  pub owner-again : (c : ℕ) → cell_owner l (c + d * course_cells l) ≡ cell_owner l c
  owner-again c =
      owner-rest l p-pos k-pos (c + d * course_cells l) ∙ ap (λ (z : ℕ). z / l.block) (add-mul-mod_self_right c d (course_cells l))
      ∙ sym (owner-rest l p-pos k-pos c)

  column_again : (c : ℕ) → column_of l (c + d * course_cells l) ≡ column_of l c
  unfolding column_of course_cells
  column_again c =
      let e : c + d * (l.processors * l.block) ≡ c + d * l.processors * l.block = omega arith in
      ap (λ (z : ℕ). z % l.block) e ∙ add-mul-mod_self_right c (d * l.processors) l.block

-- ---- an accepted section
module _ (x : Section) (ok : first_no (of_section x) ≡ 0) where
  p-pos : 0 < (layout x).processors
  p-pos = (accepted x ok).sized.processors-pos

  k-pos : 0 < (layout x).block
  k-pos = (accepted x ok).sized.block-pos

  -- n positions on, which are c whole courses
  module _ (n c : ℕ) (e : n * spread x ≡ c * course_cells (layout x)) where
    -- among the array's elements too
    test-again : (q j : ℕ) → owns (owner_of (layout x)) q (n * nat_abs x.triplet.stride + j) ≡ owns (owner_of (layout x)) q j
    unfolding owns owner_of cell_of spread
    test-again q j =
        let z : (layout x).stride * (n * nat_abs x.triplet.stride + j) + (layout x).offset ≡ (layout x).stride * j + (layout x).offset + c * course_cells (layout x) =
        omega (arith, e) in
        ap (λ (y : ℕ). eqb (cell_owner (layout x) y) q) z
        ∙ ap (λ (y : ℕ). eqb y q) (owner-again (layout x) p-pos k-pos c ((layout x).stride * j + (layout x).offset))

    module _ (t : ℕ) (l : t + n < count x) where
      courses-moved : Moved (upward x) (cell x t) (cell x (t + n)) (c * course_cells (layout x))
      courses-moved = subst (Moved (upward x) (cell x t) (cell x (t + n))) e (cells-moved x ok t n l)

      owner-same : owner_of (layout x) (index x (t + n)) ≡ owner_of (layout x) (index x t)
      unfolding owner_of cell
      owner-same =
          moved_same (cell_owner (layout x)) (c * course_cells (layout x)) (owner-again (layout x) p-pos k-pos c) (upward x) _ _ courses-moved

      pub owns-same : (q : ℕ) → cyclic_owns x q (t + n) ≡ cyclic_owns x q t
      unfolding owns
      owns-same q = ap (λ (o : ℕ). eqb o q) owner-same

      pub going-same : cyclic_going x (t + n) ≡ cyclic_going x t
      unfolding cyclic_going
      going-same =
          ap (λ (y : ℕ). go_on (upward x) (layout x).block y (cyclic_steps x))
          (moved_same (column_of (layout x)) (c * course_cells (layout x)) (column_again (layout x) p-pos k-pos c) (upward x) _ _ courses-moved)

      pub next-same : 0 < n → cyclic_next x t + n < count x → cyclic_next x (t + n) ≡ cyclic_next x t + n
      next-same some h = go (le-or-lt (count x) u)
        where
          two : 2 ≤ count x
          two = omega arith

          u : ℕ
          u = t + (cyclic_going x t).cells / spread x

          here : cyclic_next x t ≡ cond (ltb u (count x)) u (count x)
          here = next-place-by x ok t (omega arith) two

          there : cyclic_next x (t + n) ≡ cond (ltb (u + n) (count x)) (u + n) (count x)
          there =
              let i : ℕ = (cyclic_going x (t + n)).cells / spread x in
              let s : t + n + i ≡ u + n = omega (arith, ap (λ (g : Going). g.cells / spread x) going-same) in
              next-place-by x ok (t + n) l two ∙ ap (λ (z : ℕ). cond (ltb z (count x)) z (count x)) s

          go : (count x ≤ u) ⊎ (u < count x) → cyclic_next x (t + n) ≡ cyclic_next x t + n
          go (inl g) = absurd (omega (arith, here, place-past u (count x) g))
          go (inr g) =
              let near : cyclic_next x t ≡ u = here ∙ place-in u (count x) g in
              there ∙ place-in (u + n) (count x) (omega arith) ∙ omega arith

      -- the address moves by the processor's elements among as many as lie between
      pub address-moved : (q : ℕ) → cyclic_owns x q t ≡ true
          → Moved (upward x) (rank (owner_of (layout x)) (index x t)) (rank (owner_of (layout x)) (index x (t + n)))
          (held (owner_of (layout x)) (n * nat_abs x.triplet.stride) q)
      unfolding held
      address-moved q o =
          rw (rank_is (owner_of (layout x)) q (index x t) mine, rank_is (owner_of (layout x)) q (index x (t + n)) (owner-same ∙ mine))
          (go (upward x) (index x t) (index x (t + n)) (index-moved x ok t n l))
        where
          mine : owner_of (layout x) (index x t) ≡ q
          mine = of_owns (owner_of (layout x)) q (index x t) o

          test : ℕ → Bool
          test = owns (owner_of (layout x)) q

          grown : (i i' : ℕ) → i' ≡ i + n * nat_abs x.triplet.stride → tally test i' ≡ tally test i + tally test (n * nat_abs x.triplet.stride)
          grown i i' h = ap (tally test) h ∙ tally-period test i (n * nat_abs x.triplet.stride) (test-again q)

          go : (up : Bool) (i i' : ℕ) → Moved up i i' (n * nat_abs x.triplet.stride)
              → Moved up (tally test i) (tally test i') (tally test (n * nat_abs x.triplet.stride))
          go true i i' h = grown i i' h
          go false i i' h = grown i' i h

  -- ---- a period
  pub period-whole : period x * spread x ≡ spread x / gcd (spread x) (course_cells (layout x)) * course_cells (layout x)
  unfolding period
  period-whole =
      let S = spread x in
      let M = course_cells (layout x) in
      let d = gcd S M in
      omega (
        arith,
        ap (λ (z : ℕ). M / d * z) (div-mul_cancel d (gcd-left S M)),
        ap (λ (z : ℕ). S / d * z) (div-mul_cancel d (gcd-right S M)),
      )

  pub period-pos : 0 < period x
  unfolding period
  period-pos =
      let M = course_cells (layout x) in
      let d = gcd (spread x) M in
      let whole : M / d * d ≡ M = div-mul_cancel d (gcd-right (spread x) M) in
      ⊎_elim (λ z. absurd (omega (arith, course-pos (layout x) p-pos k-pos, ap (λ (y : ℕ). y * d) z))) (λ h. h) (eq-zero-or-pos (M / d))

  -- ---- by the dealing
  module _ {k : ℤ} (d : x.mapping.dealing ≡ cyclic k) where
    cost-cyclic : (t : ℕ) → cost x t ≡ (cyclic_going x t).tries
    unfolding cost
    cost-cyclic t = ap (λ (z : Dealing). cost_dealt z x t) d

    next-cyclic : (t : ℕ) → next_place x t ≡ cyclic_next x t
    unfolding next_place
    next-cyclic t = ap (λ (z : Dealing). next_dealt z x t) d

    module _ (q : ℕ) where
      mine : (t : ℕ) → owns_at x q t ≡ cyclic_owns x q t
      mine t = let o = owns-cyclic x d q in λ i. o i t

      owns-again : (t : ℕ) → t + period x < count x → owns_at x q (t + period x) ≡ owns_at x q t
      owns-again t l = mine (t + period x) ∙ owns-same (period x) _ period-whole t l q ∙ sym (mine t)

      address-again : (up : Bool) → upward x ≡ up → (t : ℕ) → t + period x < count x → owns_at x q t ≡ true
          → Moved up (address x t) (address x (t + period x)) (period_addresses x q)
      unfolding address period_addresses layout
      address-again up e t l o =
          rw (owner-cyclic x.mapping d, ← e) (address-moved (period x) _ period-whole t l q (sym (mine t) ∙ o))

      costs-again : (t : ℕ) → t + period x < count x → cost x (t + period x) ≡ cost x t
      costs-again t l =
          cost-cyclic (t + period x) ∙ ap (λ (g : Going). g.tries) (going-same (period x) _ period-whole t l) ∙ sym (cost-cyclic t)

      next-again : (t : ℕ) → t + period x < count x → next_place x t + period x < count x → next_place x (t + period x) ≡ next_place x t + period x
      next-again t l h =
          rw (next-cyclic (t + period x), next-cyclic t)
          (next-same (period x) _ period-whole t l period-pos (rw (next-cyclic t) at h))

      pub repeating : Repeating x q
      unfolding period_elements period_tries
      repeating = record {
        owned = owns-again;
        rises = address-again true;
        falls = address-again false;
        costs = costs-again;
        next = next-again;
        elements = length-again (owns_at x q) (period x) (count x) owns-again;
        tries = sum-again (owns_at x q) (period x) (count x) owns-again (cost x) costs-again;
      }
