-- In an accepted section of either dealing, the next place after a position is the next position that the same processor owns, or
-- the count. Assumes nothing.
use Prim.Native.Nat.{ℕ, suc, ◌-◌, ◌*◌, ◌≤◌, ◌<◌}
use mathlib.Core.Path.{◌≡◌, refl, sym, ap, ◌∙◌, subst}
use mathlib.Core.Bool.{Bool, true, false}
use mathlib.Core.List.{List}
use native.Mathlib.Omega.{arith}
use lib.Dec.{eqb}
use lib.IntN.{ℤ}
use Rattle.numbers.specs.Search.{passing, head_or}
use Rattle.model.specs.Mappings.{Dealing, cyclic, gen_block, Mapping, Section}
use Rattle.model.specs.Ownership.{layout_of, cell_of, cell_owner_by, owner_of, run_owner, run_sizes, owner, owns}
use Rattle.model.specs.Sections.{layout, count, index, cell, owns_at}
use Rattle.model.specs.Steps.{spread, upward, next_dealt, next_place}
use Rattle.model.specs.Questions.{first_no, of_section}
use Rattle.model.specs.Axes.{axis_of, owns_on, later_on}
use Rattle.model.proofs.SectionLaws.{Moved, cells-moved}
use Rattle.model.proofs.AddressLaws.{of_owns}
use Rattle.model.proofs.RunOwners.{owners-rise}
use Rattle.model.proofs.WalkTheorem.{cyclic_owns, CyclicWalks, cyclic-walks}
use Rattle.model.proofs.RunWalks.{InRuns, run-walks}
use Rattle.model.proofs.AxisLaws.{WalksOn}

-- a number does not fall from a to b, or does not rise
abbrev Ordered : Bool → ℕ → ℕ → Type 0
Ordered true a b = a ≤ b
Ordered false a b = b ≤ a

-- the next place is the next position that the processor owns, or the count
unfoldable pub Walks : Section → Type 0
Walks x =
    (q t : ℕ) → t < count x → owns_at x q t ≡ true
    → next_place x t ≡ head_or (count x) (passing (owns_at x q) (suc t) (count x - suc t))

-- ---- owners, by the dealing

pub owner-cyclic : (m : Mapping) {k : ℤ} → m.dealing ≡ cyclic k → owner m ≡ owner_of (layout_of m)
unfolding owner owner_of
owner-cyclic m d = ap (λ (z : Dealing). λ (i : ℕ). cell_owner_by z (layout_of m) (cell_of (layout_of m) i)) d

pub owner-runs : (m : Mapping) {sizes : List ℤ} {left : ℕ} → m.dealing ≡ gen_block sizes left
    → (i : ℕ) → owner m i ≡ run_owner (run_sizes sizes) (cell_of (layout_of m) i)
unfolding owner
owner-runs m d i = ap (λ (z : Dealing). cell_owner_by z (layout_of m) (cell_of (layout_of m) i)) d

pub owns-cyclic : (x : Section) {k : ℤ} → x.mapping.dealing ≡ cyclic k → (q : ℕ) → owns_at x q ≡ cyclic_owns x q
unfolding owns_at layout
owns-cyclic x d q = ap (λ (o : ℕ → ℕ). λ (t : ℕ). owns o q (index x t)) (owner-cyclic x.mapping d)

-- ---- a GEN_BLOCK template

module _ (x : Section) (ok : first_no (of_section x) ≡ 0) {sizes : List ℤ} {left : ℕ} (d : x.mapping.dealing ≡ gen_block sizes left) where
  abbrev runs : List ℕ
  runs = run_sizes sizes

  -- the owner at each position
  abbrev at : ℕ → ℕ
  at t = owner x.mapping (index x t)

  pub at-cell : (t : ℕ) → at t ≡ run_owner runs (cell x t)
  unfolding cell layout
  at-cell t = owner-runs x.mapping d (index x t)

  -- from one position to another on, owners do not fall, or do not rise
  rising : (up : Bool) (t u : ℕ) → Moved up (cell x t) (cell x u) ((u - t) * spread x) → Ordered up (at t) (at u)
  rising true t u m = rw (at-cell t, at-cell u) (owners-rise runs (cell x t) (cell x u) (omega arith))
  rising false t u m = rw (at-cell t, at-cell u) (owners-rise runs (cell x u) (cell x t) (omega arith))

  on : (t u : ℕ) → t ≤ u → u < count x → Ordered (upward x) (at t) (at u)
  on t u h l =
      rising (upward x) t u
      (subst (λ (z : ℕ). Moved (upward x) (cell x t) (cell x z) ((u - t) * spread x)) (omega arith) (cells-moved x ok t (u - t) (omega arith)))

  pub in-runs : InRuns at (count x)
  unfolding InRuns
  in-runs t v u a b l e = between (upward x) (on t v a (omega arith)) (on v u b l)
    where
      between : (up : Bool) → Ordered up (at t) (at v) → Ordered up (at v) (at u) → at v ≡ at t
      between true f g = omega arith
      between false f g = omega arith

-- ---- both

pub walks : (x : Section) → first_no (of_section x) ≡ 0 → Walks x
unfolding Walks CyclicWalks next_place owns_at owns
walks x ok q t h e = go x.mapping.dealing refl
  where
    go : (z : Dealing) → x.mapping.dealing ≡ z → next_place x t ≡ head_or (count x) (passing (owns_at x q) (suc t) (count x - suc t))
    go (cyclic k) d =
        let o = owns-cyclic x d q in
        ap (λ (z : Dealing). next_dealt z x t) d
        ∙ cyclic-walks x ok q t h (sym (λ i. o i t) ∙ e)
        ∙ ap (λ (f : ℕ → Bool). head_or (count x) (passing f (suc t) (count x - suc t))) (sym o)
    go (gen_block sizes left) d =
        let at : ℕ → ℕ = λ u. owner x.mapping (index x u) in
        ap (λ (z : Dealing). next_dealt z x t) d
        ∙ run-walks at (count x) (in-runs x ok d) t h
        ∙ ap (λ (o : ℕ). head_or (count x) (passing (λ u. eqb (at u) o) (suc t) (count x - suc t))) (of_owns (owner x.mapping) q (index x t) e)

-- as of any section's positions
pub walks-on : (x : Section) → first_no (of_section x) ≡ 0 → WalksOn (axis_of x)
unfolding WalksOn Walks owns_on owns_at later_on
walks-on x ok = walks x ok
