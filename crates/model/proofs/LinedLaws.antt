-- The walk, first places and steps of a section of a cyclic template go by its layout, the index at each position, the count and s
-- alone. Assumes nothing.
use Prim.Native.Nat.{ℕ}
use mathlib.Core.Path.{◌≡◌, refl, ap, ◌∙◌}
use mathlib.Core.Bool.{◌&&◌, ◌||◌}
use lib.Dec.{ltb, eqb}
use lib.IntN.{ℤ, pos}
use lib.Signed.{le_z}
use Rattle.numbers.specs.Search.{passing, head_or}
use Rattle.model.specs.declared.Steps.{Steps}
use Rattle.model.specs.declared.Steps.TheVariants.{NoStep, OneStep, TwoSteps}
use Rattle.model.specs.Mappings.{Dealing, cyclic, Section}
use Rattle.model.specs.Ownership.{nat, owner_of, owner, owns, rank}
use Rattle.model.specs.Sections.{layout, count, index, cell, address, owns_at, places, first_place}
use Rattle.model.specs.Steps.{spread, upward, cyclic_steps, cyclic_going, next_by, cyclic_next}
use Rattle.model.specs.Steps.{steps_dealt, steps_of, cost_dealt, cost, next_dealt, next_place}
use Rattle.model.specs.Questions.{is_place}
use Rattle.model.specs.Calls.{walk_of}
use Rattle.model.specs.Document01.{Lined, owns_in, address_in, first_in, steps_in, going_in, next_by_steps, walk_in, is_place_in}
use Rattle.model.proofs.Walking.{owner-cyclic}

abbrev pub lined_of : Section → Lined
lined_of x = record { layout = layout x; index = index x; count = count x; stride = x.triplet.stride }

-- ---- going on

module _ (x : Section) {v : Lined} (e : lined_of x ≡ v) where
  pub steps-lined : cyclic_steps x ≡ steps_in v
  unfolding cyclic_steps spread
  steps-lined = ap steps_in e

  pub cost-lined : (t : ℕ) → (cyclic_going x t).tries ≡ (going_in v t).tries
  unfolding cyclic_going cell cyclic_steps spread upward
  cost-lined t = ap (λ (w : Lined). (going_in w t).tries) e

  next-is : (t n : ℕ) (m : Steps) → next_by x t n m ≡ next_by_steps (lined_of x) t n m
  unfolding next_by cell spread upward
  next-is t n NoStep = refl
  next-is t n (OneStep r) = refl
  next-is t n (TwoSteps r w) = refl

  pub next-lined : (t : ℕ) → cyclic_next x t ≡ next_by_steps v t (going_in v t).cells (steps_in v)
  unfolding cyclic_next cyclic_going cell cyclic_steps spread upward
  next-lined t =
      next-is t (going_in (lined_of x) t).cells (steps_in (lined_of x)) ∙ ap (λ (w : Lined). next_by_steps w t (going_in w t).cells (steps_in w)) e

-- ---- the whole walk, where the template is cyclic

module _ (x : Section) {k : ℤ} (d : x.mapping.dealing ≡ cyclic k) {v : Lined} (e : lined_of x ≡ v) where
  -- the owner and what it owns
  owner-is : owner x.mapping ≡ owner_of (layout x)
  unfolding layout
  owner-is = owner-cyclic x.mapping d

  pub owns-lined : (q t : ℕ) → owns_at x q t ≡ owns_in v q t
  unfolding owns_at
  owns-lined q t = ap (λ (o : ℕ → ℕ). owns o q (index x t)) owner-is ∙ ap (λ (w : Lined). owns_in w q t) e

  pub address-lined : (t : ℕ) → address x t ≡ address_in v t
  unfolding address
  address-lined t = ap (λ (o : ℕ → ℕ). rank o (index x t)) owner-is ∙ ap (λ (w : Lined). address_in w t) e

  pub first-lined : (q : ℕ) → first_place x q ≡ first_in v q
  unfolding first_place places
  first-lined q = λ i. head_or (e i).count (passing (λ t. owns-lined q t i) 0 (e i).count)

  pub place-lined : (q t : ℤ) → is_place x q t ≡ is_place_in v q t
  unfolding is_place
  place-lined q t = λ i. le_z (pos 0) t && (eqb (nat t) (e i).count || (ltb (nat t) (e i).count && owns-lined (nat q) (nat t) i))

  pub steps-dealt : steps_of x ≡ steps_in v
  unfolding steps_of
  steps-dealt = ap (λ (z : Dealing). steps_dealt z x) d ∙ steps-lined x e

  pub walk-lined : walk_of x ≡ walk_in v
  unfolding walk_of cost next_place
  walk-lined = λ i. record {
    address = λ t. address-lined t i;
    cost = λ t. (ap (λ (z : Dealing). cost_dealt z x t) d ∙ cost-lined x e t) i;
    next = λ t. (ap (λ (z : Dealing). next_dealt z x t) d ∙ next-lined x e t) i;
    count = (e i).count;
    least = 3;
  }
