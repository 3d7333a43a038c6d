-- What a call for a fill answers, and what an accepted one passed.
use Prim.Native.Nat.{ℕ, ◌≤◌}
use mathlib.Core.Path.{◌≡◌, refl}
use mathlib.Core.Bool.{true, cond, ◌&&◌}
use mathlib.Core.List.{List, [], ◌∷◌, ◌++◌}
use mathlib.Core.Logic.{◌⊎◌, inl, inr}
use native.Mathlib.Omega.{arith}
use lib.Dec.{ltb, eqb}
use lib.IntN.{ℤ, pos}
use lib.Signed.{le_z}
use borrow.Author.Tests.{eqb-true, ltb-true}
use Rattle.numbers.proofs.Tests.{both_true, either_true}
use Rattle.model.specs.Ownership.{nat}
use Rattle.model.specs.Sections.{count, owns_at}
use Rattle.model.specs.Filling.{Walk, Filled, Request, stopped, fill_by, answer}
use Rattle.model.specs.Questions.{Question, first_no, is_place, of_section, of_processor, of_place, of_quota}
use Rattle.model.specs.Axes.{Axis, axis_of, owns_on}
use Rattle.model.specs.Calls.{FillCall, of_fill, walk_of, request_of, fill}
use Rattle.model.specs.GridCalls.{is_place_on}
use Rattle.model.specs.Demand1.{Answers, Zeros, ByTheRule, NotFilled}
use Rattle.model.proofs.QuestionLaws.{numbered, Natural, all_yes, both_yes, between_is}
use Rattle.model.proofs.AnsweredLaws.{by-first-no, made_by}

-- ---- the answer

-- of a fill by any walk, with any questions
module _ (w : Walk) (qs : List Question) (t quota : ℕ) (l : List ℕ) where
  abbrev asked : Request
  asked = record { refusal = first_no qs; place = t; quota = quota; list = l }

  pub by-rule : numbered qs ≡ true
      → Answers (answer w asked) (λ a. a.refusal) qs (λ a. a.filled ≡ fill_by w t quota l)
      (λ a. Zeros (a.filled.entries ∷ a.filled.tries ∷ a.filled.place ∷ []) × (a.filled.list ≡ l))
  unfolding answer
  by-rule n =
      made_by _ _ _ qs n (λ b. record { refusal = first_no qs; filled = cond b (fill_by w t quota l) (stopped 0 l) }) (λ e. e) refl refl
      ((refl, (refl, (refl, tt))), refl)

  -- what holds of the fill of an accepted call, and of one that did nothing, holds of every call's
  pub answer-cases : (P : Filled → Type 0) → (first_no qs ≡ 0 → P (fill_by w t quota l)) → P (stopped 0 l) → P (answer w asked).filled
  unfolding answer
  answer-cases P full none = by-first-no P qs (λ b. cond b (fill_by w t quota l) (stopped 0 l)) full (λ f. none)

pub fill-answers : (c : FillCall) → Answers (fill c) (λ a. a.refusal) (of_fill c) (λ a. ByTheRule c a.filled) (λ a. NotFilled c a.filled)
unfolding fill request_of
fill-answers c = by-rule (walk_of c.section) (of_fill c) (nat c.place) (nat c.quota) c.list refl

-- ---- what an accepted fill passed

-- a place that passed its question is no larger than the count
pub place-le : (a : Axis) (q t : ℤ) → is_place_on a q t ≡ true → nat t ≤ a.count
unfolding is_place_on
place-le a q t e = go (either_true (eqb (nat t) a.count) _ (both_true (le_z (pos 0) t) _ e).1)
  where
    go : (eqb (nat t) a.count ≡ true) ⊎ ((ltb (nat t) a.count && owns_on a (nat q) (nat t)) ≡ true) → nat t ≤ a.count
    go (inl p) = omega (arith, eqb-true (nat t) a.count p)
    go (inr p) = omega (arith, ltb-true (nat t) a.count (both_true (ltb (nat t) a.count) _ p).0)

pub record Passed (c : FillCall) : Type 0 where
  pub section : first_no (of_section c.section) ≡ 0
  pub place : nat c.place ≤ count c.section
  pub quota : Natural c.quota 3 1000000

pub passed : (c : FillCall) → first_no (of_fill c) ≡ 0 → Passed c
unfolding is_place is_place_on owns_at owns_on
passed c e =
    let x = c.section in
    let end = of_place x c.processor c.place ++ of_quota c.quota in
    let rest = both_yes (of_section x) (of_processor x.mapping c.processor ++ end) refl e in
    let last = all_yes end refl (both_yes (of_processor x.mapping c.processor) end refl rest.1).1 in
    record {
      section = rest.0;
      place = place-le (axis_of x) c.processor c.place last.0;
      quota = between_is 3 1000000 c.quota last.1.0;
    }

-- of every call's
pub fill-cases : (c : FillCall) (P : Filled → Type 0)
    → (Passed c → P (fill_by (walk_of c.section) (nat c.place) (nat c.quota) c.list))
    → ((f : Filled) → NotFilled c f → P f)
    → P (fill c).filled
unfolding fill request_of
fill-cases c P full none =
    answer-cases (walk_of c.section) (of_fill c) (nat c.place) (nat c.quota) c.list P (λ z. full (passed c z))
    (none (stopped 0 c.list) ((refl, (refl, (refl, tt))), refl))
