-- Going on walks one of the section's steps, for at most 3 tries, and neighbours in a processor's list lie a step apart.
use Prim.Native.Nat.{ℕ, suc, ◌+◌, ◌-◌, ◌/◌, ◌≤◌, ◌<◌}
use mathlib.Core.Path.{◌≡◌, refl, sym, ap, ◌∙◌, subst}
use mathlib.Core.Logic.{◌⊎◌, inl, inr}
use mathlib.Core.Bool.{Bool, true, false, not, cond, ◌&&◌}
use native.Mathlib.Nat.{div-eq_of_eq-mul_left}
use native.Mathlib.Omega.{arith}
use lib.Dec.{ltb, eqb, lit≤}
use lib.ListN.{length, get_or}
use borrow.Author.Tests.{ltb-true, lt-ltb, le-ltb}
use Rattle.numbers.proofs.Tests.{both_true}
use Rattle.model.specs.Mappings.{Dealing, cyclic, gen_block, Section}
use Rattle.model.specs.declared.Step.{Step}
use Rattle.model.specs.declared.Steps.{Steps}
use Rattle.model.specs.declared.Steps.TheVariants.{NoStep, OneStep, TwoSteps}
use Rattle.model.specs.Sections.{layout, count, cell}
use Rattle.model.specs.Steps.{steps_by, Going, fits, go_on, spread, upward, cyclic_steps, cyclic_going, is_past, next_by, cyclic_next, run_steps, run_next}
use Rattle.model.specs.Steps.{steps_dealt, steps_of, cost_dealt, cost, next_dealt, next_place}
use Rattle.model.specs.Questions.{first_no, of_section}
use Rattle.model.specs.Smallest.{Multiple}
use Rattle.model.specs.Axes.{axis_of, places_on}
use Rattle.model.specs.Demand3.{apart, IsStep}
use Rattle.model.proofs.Rests.{le-or-lt}
use Rattle.model.proofs.SectionLaws.{cells-apart, spread-pos}
use Rattle.model.proofs.WalkTheorem.{going-nearest}
use Rattle.model.proofs.InTurnLaws.{leads-next}
use Rattle.model.proofs.AxisLaws.{places-lead, at_place}
use Rattle.model.proofs.Walking.{walks-on}

-- ---- going on

-- what trying both steps comes to
abbrev tried : Bool → Bool → Step → Step → Going
tried b c r w =
    cond b (record { tries = 1; cells = r.cells })
    (cond c (record { tries = 2; cells = w.cells }) (record { tries = 3; cells = r.cells + w.cells }))

record Gone (r w : Step) (g : Going) : Type 0 where
  some : 1 ≤ g.tries
  cheap : g.tries ≤ 3
  step : IsStep (TwoSteps r w) g.cells

gone : (b c : Bool) (r w : Step) → Gone r w (tried b c r w)
gone true c r w = record { some = lit≤ tt; cheap = lit≤ tt; step = inl refl }
gone false true r w = record { some = lit≤ tt; cheap = lit≤ tt; step = inr (inl refl) }
gone false false r w = record { some = lit≤ tt; cheap = lit≤ tt; step = inr (inr refl) }

at_most : (up : Bool) (k q : ℕ) (s : Steps) → (go_on up k q s).tries ≤ 3
at_most up k q NoStep = lit≤ tt
at_most up k q (OneStep m) = lit≤ tt
at_most up k q (TwoSteps r w) = (gone (fits up k q r.column) (fits (not up) k q w.column) r w).cheap

at_least : (up : Bool) (k q : ℕ) (s : Steps) → 1 ≤ (go_on up k q s).tries
at_least up k q NoStep = lit≤ tt
at_least up k q (OneStep m) = lit≤ tt
at_least up k q (TwoSteps r w) = (gone (fits up k q r.column) (fits (not up) k q w.column) r w).some

-- going on takes at most 3 tries, and at least one
tries-in : (z : Dealing) (x : Section) (t : ℕ) → (1 ≤ cost_dealt z x t) × (cost_dealt z x t ≤ 3)
unfolding cyclic_going
tries-in (cyclic k) x t =
    (at_least (upward x) (layout x).block _ (cyclic_steps x), at_most (upward x) (layout x).block _ (cyclic_steps x))
tries-in (gen_block sizes left) x t = (lit≤ tt, lit≤ tt)

pub cost-le : (x : Section) (t : ℕ) → cost x t ≤ 3
unfolding cost
cost-le x t = (tries-in x.mapping.dealing x t).1

pub cost-some : (x : Section) (t : ℕ) → 1 ≤ cost x t
unfolding cost
cost-some x t = (tries-in x.mapping.dealing x t).0

module _ (x : Section) (t : ℕ) where
  -- a next place that is not the count lies as many positions on as the cells walked have S
  landing : (b : Bool) (n : ℕ) → cond b (count x) (t + n / spread x) < count x → cond b (count x) (t + n / spread x) ≡ t + n / spread x
  landing true n h = absurd (omega arith)
  landing false n h = refl

  lands : (n : ℕ) (s : Steps) → next_by x t n s < count x → next_by x t n s ≡ t + n / spread x
  unfolding next_by
  lands n NoStep h = absurd (omega arith)
  lands n (OneStep m) h = landing (is_past (upward x) (cell x t) n (cell x (count x - 1))) n h
  lands n (TwoSteps r w) h = landing (is_past (upward x) (cell x t) n (cell x (count x - 1))) n h

  a-step : (s : Steps) (up : Bool) (k q : ℕ) → next_by x t (go_on up k q s).cells s < count x → IsStep s (go_on up k q s).cells
  unfolding next_by
  a-step NoStep up k q h = absurd (omega arith)
  a-step (OneStep m) up k q h = refl
  a-step (TwoSteps r w) up k q h = (gone (fits up k q r.column) (fits (not up) k q w.column) r w).step

  -- where there is a next place, the section has two elements
  two : cyclic_next x t < count x → 2 ≤ count x
  unfolding cyclic_next next_by cyclic_steps steps_by
  two h = go (le-or-lt 2 (count x))
    where
      go : (2 ≤ count x) ⊎ (count x < 2) → 2 ≤ count x
      go (inl l) = l
      go (inr l) = absurd (omega (arith, rw (lt-ltb (count x) 2 l) at h))

-- ---- the next place lies a step on

module _ (x : Section) (ok : first_no (of_section x) ≡ 0) (t : ℕ) where
  cyclic-apart : cyclic_next x t < count x → IsStep (cyclic_steps x) (apart (cell x t) (cell x (cyclic_next x t)))
  unfolding cyclic_next cyclic_going
  cyclic-apart l =
      let m : Multiple (spread x) (cyclic_going x t).cells = (going-nearest x ok (two x t l) t).multiple in
      let e : cyclic_next x t ≡ t + m.index =
      lands x t (cyclic_going x t).cells (cyclic_steps x) l ∙ ap (λ (z : ℕ). t + z) (div-eq_of_eq-mul_left (spread-pos x ok) m.cells) in
      let d : apart (cell x t) (cell x (cyclic_next x t)) ≡ (cyclic_going x t).cells =
      ap (λ (z : ℕ). apart (cell x t) (cell x z)) e ∙ cells-apart x ok t m.index (subst (λ (z : ℕ). z < count x) e l) ∙ sym m.cells in
      subst (IsStep (cyclic_steps x)) (sym d) (a-step x t (cyclic_steps x) _ _ _ l)

  -- along a run it is the next position
  run-apart : (at : ℕ → ℕ) → t < count x → run_next at (count x) t < count x
      → IsStep (run_steps (count x) (spread x)) (apart (cell x t) (cell x (run_next at (count x) t)))
  unfolding run_next run_steps
  run-apart at h l = go (ltb (suc t) (count x) && eqb (at (suc t)) (at t)) refl
    where
      go : (b : Bool) → (ltb (suc t) (count x) && eqb (at (suc t)) (at t)) ≡ b
          → IsStep (run_steps (count x) (spread x)) (apart (cell x t) (cell x (run_next at (count x) t)))
      go true e =
          let k : suc t < count x = ltb-true (suc t) (count x) (both_true _ _ e).0 in
          let s : t + 1 ≡ suc t = omega arith in
          let d : apart (cell x t) (cell x (suc t)) ≡ spread x =
          ap (λ (z : ℕ). apart (cell x t) (cell x z)) (sym s) ∙ cells-apart x ok t 1 (omega arith) ∙ omega arith in
          rw (e, le-ltb (count x) 2 (omega arith)) d
      go false e = absurd (omega (arith, rw e at l))

  step-apart : (z : Dealing) → t < count x → next_dealt z x t < count x → IsStep (steps_dealt z x) (apart (cell x t) (cell x (next_dealt z x t)))
  step-apart (cyclic k) h = cyclic-apart
  step-apart (gen_block sizes left) h = run-apart _ h

-- ---- neighbours

module _ (x : Section) (ok : first_no (of_section x) ≡ 0) where
  -- the next place after one of the section lies a step on
  pub next-apart : (t : ℕ) → t < count x → next_place x t < count x → IsStep (steps_of x) (apart (cell x t) (cell x (next_place x t)))
  unfolding next_place steps_of
  next-apart t = step-apart x ok t x.mapping.dealing

  pub neighbours-apart : (q j : ℕ) → suc j < length (places_on (axis_of x) q)
      → IsStep (steps_of x) (apart (cell x (get_or (places_on (axis_of x) q) j 0)) (cell x (get_or (places_on (axis_of x) q) (suc j) 0)))
  neighbours-apart q j h =
      let r = leads-next (places-lead (axis_of x) (walks-on x ok) q) j h in
      let t : ℕ = get_or (places_on (axis_of x) q) j 0 in
      rw r.0 (next-apart t (at_place (axis_of x) q j (omega arith)).below (subst (λ (z : ℕ). z < count x) r.0 r.1))
