-- The moves of an accepted section go along its walk: by the walk theorem they lead from place to place of a processor, each
-- in the column that the move says. Assumes nothing.
use Prim.Native.Nat.{ℕ, ◌+◌, ◌-◌, ◌*◌, ◌/◌, ◌%◌, ◌≤◌, ◌<◌}
use mathlib.Core.Path.{◌≡◌, refl, sym, ap, ◌∙◌}
use mathlib.Core.Bool.{Bool, true, false}
use mathlib.Core.Logic.{⊎_elim}
use native.Mathlib.Nat.{mod-eq_of_lt, div-add-mod', mul-add-mod_self_right, add-mul-mod_self_right, mod-lt}
use native.Mathlib.Omega.{arith}
use borrow.Author.Tests.{lt-ltb, le-ltb}
use Rattle.model.specs.Mappings.{Section}
use Rattle.model.specs.declared.Steps.{Steps}
use Rattle.model.specs.declared.Steps.TheVariants.{NoStep, OneStep, TwoSteps}
use Rattle.model.specs.Ownership.{cell_owner, owner_of, course_cells, column_of}
use Rattle.model.specs.Sections.{layout, count, index, cell}
use Rattle.model.specs.Steps.{steps_by, go_on, spread, cyclic_steps, upward, cyclic_going, cost, next_by, cyclic_next}
use Rattle.model.specs.Questions.{first_no, of_section}
use Rattle.model.proofs.AddressLaws.{owns_of, of_owns}
use Rattle.model.proofs.AcceptedLaws.{accepted}
use Rattle.model.proofs.SectionLaws.{Moved, spread-pos, cells-moved}
use Rattle.model.proofs.Rests.{le-or-lt}
use Rattle.model.proofs.CellOwners.{facing, column-lt}
use Rattle.model.proofs.WalkLaws.{course, mirror}
use Rattle.model.proofs.WalkTheorem.{Some, some-steps, going-nearest, next-by, turned}
use Rattle.walk.specs.declared.moves.Moves.{Moves}
use Rattle.walk.specs.declared.moves.State.{State}
use Rattle.walk.specs.Moving.{Move, move_from, at_most}
use Rattle.walk.specs.Driving.{Paces, Stands}
use Rattle.fill.specs.SectionMoves.{cyclic_owns, block_walk, on_way, column_at, StandsAt, moves_by, moves_of}
use Rattle.fill.specs.Starting.{PacesOf}
use Rattle.walk.proofs.MoveLaws.{takes_first}
use Rattle.fill.proofs.ShapeLaws.{Shape, Suited, shape}

-- ---- columns

way-facing : (up : Bool) (k q : ℕ) → on_way up k q ≡ facing up k q
way-facing true k q = refl
way-facing false k q = refl

way-lt : (up : Bool) (k q : ℕ) → q < k → on_way up k q < k
way-lt true k q h = h
way-lt false k q h = omega arith

-- the column z of a cell c' that lies e blocks below, and f blocks and y₁ - y₂ cells above c
column-is : (k : ℕ) → 0 < k → (c c' e f y₁ y₂ z : ℕ) → c' + y₂ + e * k ≡ c + f * k + y₁ → z + y₂ ≡ c % k + y₁ → z < k → c' % k ≡ z
column-is k pos c c' e f y₁ y₂ z h g l =
    let s : c' + e * k ≡ (c / k + f) * k + z = omega (arith, div-add-mod' c k) in
    sym (add-mul-mod_self_right c' e k) ∙ ap (λ (n : ℕ). n % k) s ∙ mul-add-mod_self_right (c / k + f) k z ∙ mod-eq_of_lt l

-- n cells on in walking direction, which are d courses and y₁ - y₂ cells
column-moved : (up : Bool) (p k : ℕ) → 0 < k → (c c' n d y₁ y₂ z : ℕ) → Moved up c c' n → n + y₂ ≡ d * (p * k) + y₁
    → z + y₂ ≡ on_way up k (c % k) + y₁ → z < k → on_way up k (c' % k) ≡ z
column-moved true p k pos c c' n d y₁ y₂ z h e f l = column-is k pos c c' 0 (d * p) y₁ y₂ z (omega arith) f l
column-moved false p k pos c c' n d y₁ y₂ z h e f l =
    let b : c % k < k = mod-lt c pos in
    let r : c' % k ≡ k - 1 - z = column-is k pos c c' (d * p) 0 y₂ y₁ (k - 1 - z) (omega arith) (omega arith) (omega arith) in
    omega arith

-- nothing is asked of what is added
pub any-suits : (s : Steps) (near far both : ℕ) → Suited (λ a c y₁ y₂. Unit {0}) s near far both
any-suits NoStep near far both = tt
any-suits (OneStep a) near far both = tt
any-suits (TwoSteps r w) near far both = (tt, (tt, tt))

-- no step: the count is next
none-move : (k S q near far both : ℕ) → q < k
    → move_from (moves_by k S NoStep near far both) q ≡ record { column = q + 0; places = 1; add = near; tries = 1 }
unfolding moves_by
none-move k S q near far both h = takes_first (moves_by k S NoStep near far both) q (omega arith)

none-place : (x : Section) (t n : ℕ) → next_by x t n NoStep ≡ count x
unfolding next_by
none-place x t n = refl

-- a position whose cell has the same owner is the processor's too
pub same-owner : (x : Section) (q t u : ℕ) → cyclic_owns x q t ≡ true → cell_owner (layout x) (cell x u) ≡ cell_owner (layout x) (cell x t) → cyclic_owns x q u ≡ true
unfolding owner_of cell
same-owner x q t u o e =
    owns_of (owner_of (layout x)) q (index x u) (e ∙ of_owns (owner_of (layout x)) q (index x t) o)

-- ---- an accepted section
module _ (x : Section) (ok : first_no (of_section x) ≡ 0) where
  p-pos : 0 < (layout x).processors
  p-pos = (accepted x ok).sized.processors-pos

  k-pos : 0 < (layout x).block
  k-pos = (accepted x ok).sized.block-pos

  pub column-low : (t : ℕ) → column_at x t < (layout x).block
  unfolding column_at
  column-low t = way-lt (upward x) (layout x).block _ (column-lt (layout x) p-pos k-pos (cell x t))

  -- the section's step, by the column counted in walking direction
  going_on : (t : ℕ) → cyclic_going x t ≡ go_on true (layout x).block (column_at x t) (cyclic_steps x)
  unfolding cyclic_going column_at
  going_on t =
      mirror (upward x) (layout x).block _ (column-lt (layout x) p-pos k-pos (cell x t)) (cyclic_steps x)
      ∙ ap (λ (q : ℕ). go_on true (layout x).block q (cyclic_steps x)) (sym (way-facing (upward x) (layout x).block (column_of (layout x) (cell x t))))

  -- n positions on, that are d courses and y₁ - y₂ cells: the column
  pub column-on : (t n d y₁ y₂ z : ℕ) → t + n < count x → n * spread x + y₂ ≡ d * course_cells (layout x) + y₁ → z + y₂ ≡ column_at x t + y₁
      → z < (layout x).block → column_at x (t + n) ≡ z
  unfolding column_at column_of course_cells
  column-on t n d y₁ y₂ z l e f low =
      column-moved (upward x) (layout x).processors (layout x).block k-pos (cell x t) (cell x (t + n)) (n * spread x) d y₁ y₂ z
      (cells-moved x ok t n l) e f low

  steps-none : count x < 2 → cyclic_steps x ≡ NoStep
  unfolding cyclic_steps steps_by
  steps-none few = rw (lt-ltb (count x) 2 few)

  steps-some : 2 ≤ count x → Some (cyclic_steps x)
  unfolding cyclic_steps
  steps-some two = some-steps (count x) (course_cells (layout x)) (layout x).block (spread x) two

  -- two or more elements
  module _ (two : 2 ≤ count x) (Suits : ℕ → ℕ → ℕ → ℕ → Type 0) (near far both : ℕ) (suited : Suited Suits (cyclic_steps x) near far both) where
    pub shape_at : (t : ℕ)
        → Shape Suits (course_cells (layout x)) (layout x).block (spread x) (column_at x t) (move_from (moves_of x near far both) (column_at x t)) (cyclic_going x t)
    unfolding cyclic_steps
    shape_at t =
        rw (going_on t)
        (shape Suits (course (layout x) p-pos k-pos (spread x) (spread-pos x ok)) (count x) two (column_at x t) (column-low t) near far both suited)

  -- one step of the walk from place t, by the move from its column
  pub record Pace (m : Moves) (t : ℕ) : Type 0 where
    pub tries : (cyclic_going x t).tries ≡ (move_from m (column_at x t)).tries
    pub place : cyclic_next x t ≡ at_most (count x) (t + (move_from m (column_at x t)).places)
    pub owner : t + (move_from m (column_at x t)).places < count x
        → cell_owner (layout x) (cell x (t + (move_from m (column_at x t)).places)) ≡ cell_owner (layout x) (cell x t)
    pub column : t + (move_from m (column_at x t)).places < count x
        → column_at x (t + (move_from m (column_at x t)).places) ≡ (move_from m (column_at x t)).column

  module _ (near far both t : ℕ) (h : t < count x) where
    by-steps : 2 ≤ count x → Pace (moves_of x near far both) t
    unfolding cost cyclic_next
    by-steps two =
        let v = shape_at two (λ a c y₁ y₂. Unit {0}) near far both (any-suits (cyclic_steps x) near far both) t in
        let n : ℕ = (move_from (moves_of x near far both) (column_at x t)).places in
        record {
          tries = v.tries;
          place =
              next-by x ok t h (cyclic_steps x) (steps-some two) (cyclic_going x t).cells n v.places
              ∙ turned x ok t h n;
          owner = λ l. (going-nearest x ok two t).lands (cell x (t + n)) (rw v.places (cells-moved x ok t n l));
          column = λ l. column-on t n v.c v.y₁ v.y₂ _ l v.cells v.columns v.low;
        }

    module _ (few : count x < 2) where
      none : move_from (moves_of x near far both) (column_at x t) ≡ record { column = column_at x t + 0; places = 1; add = near; tries = 1 }
      none = rw (steps-none few) (none-move (layout x).block (spread x) (column_at x t) near far both (column-low t))

      -- a single position is the last
      pub none-next : t + (move_from (moves_of x near far both) (column_at x t)).places < count x → ⊥
      none-next l = omega (arith, ap (λ (g : Move). g.places) none)

      by-none : Pace (moves_of x near far both) t
      unfolding cost cyclic_going cyclic_next
      by-none =
          let past : count x ≤ t + 1 = omega arith in
          record {
            tries =
                ap (λ (s : Steps). (go_on (upward x) (layout x).block (column_of (layout x) (cell x t)) s).tries) (steps-none few)
                ∙ sym (ap (λ (g : Move). g.tries) none);
            place = rw (none, steps-none few, le-ltb (t + 1) (count x) past) (none-place x t _);
            owner = λ l. absurd (none-next l);
            column = λ l. absurd (none-next l);
          }

    pub pace : Pace (moves_of x near far both) t
    pace = ⊎_elim by-steps by-none (le-or-lt 2 (count x))

  -- whatever is added to addresses, the moves go along the walk of each processor q
  unfoldable pub paces : (near far both q : ℕ) → Paces (block_walk x) (moves_of x near far both)
  unfolding block_walk
  paces near far both q = record {
    column = column_at x;
    mine = cyclic_owns x q;
    least = refl;
    cost = λ t h o. (pace near far both t h).tries;
    next = λ t h o. (pace near far both t h).place;
    same = λ t h o l. same-owner x q t _ o ((pace near far both t h).owner l);
    columns = λ t h o l. (pace near far both t h).column l;
  }

  pub own-paces : (near far both q : ℕ) → PacesOf x q (moves_of x near far both) (paces near far both q)
  unfolding paces
  own-paces near far both q = record { column = λ t. refl; mine = λ t. refl }

  -- a state at a place of the processor stands in its walk
  pub stands-in : (near far both q : ℕ) (s : State) → StandsAt x q s → Stands (block_walk x) (moves_of x near far both) (paces near far both q) s
  unfolding block_walk paces
  stands-in near far both q s v = record { column = v.column; address = v.address; mine = v.mine }
