-- The steps are what document 01 says. With d = gcd(S, M): where d is below k there are the processor step and the return
-- step, each the smallest of its form, they never fit at once, and their courses and column moves give S; where d is k or
-- more the one step is the smallest multiple of S that leads to the same owner from any column.
use Prim.Native.Nat.{ℕ, ◌+◌, ◌*◌, ◌%◌, ◌≤◌, ◌<◌}
use mathlib.Core.Path.{◌≡◌, refl, sym, ap, ◌∙◌}
use mathlib.Core.Bool.{Bool, true, false, cond}
use mathlib.Core.Logic.{inl, ⊎_elim}
use native.Mathlib.Nat.{mod-eq_of_lt, mod-lt, div-add-mod', mul-mod_left, mul-le-mul_right}
use native.Mathlib.Omega.{arith}
use lib.Dec.{ltb}
use borrow.Author.Tests.{ltb-true, ltb-false}
use Rattle.numbers.specs.Gcd.{gcd}
use Rattle.numbers.proofs.Division.{rest-is}
use Rattle.model.specs.declared.Step.{Step}
use Rattle.model.specs.declared.Steps.{Steps}
use Rattle.model.specs.declared.Steps.TheVariants.{NoStep, OneStep, TwoSteps}
use Rattle.model.specs.Steps.{processor_index, return_index, processor_step, return_step, one_step, steps_by}
use Rattle.model.specs.Smallest.{Multiple}
use Rattle.model.proofs.Rests.{Course, sum-mod, rests, Least, Forward, Backward, Fits, not-both}
use Rattle.model.proofs.Turns.{End, two, one, ended}
use Rattle.model.proofs.StepEnds.{
  processor-least,
  return-least,
  end-processor,
  end-return,
  divisor-low,
  divisor,
  end-one,
  one-least,
}

-- ---- none, two or one

-- what holds in each case holds of the steps
pub step-cases : (P : Steps → Type 0) (n M k S : ℕ) → (n < 2 → P NoStep)
    → (2 ≤ n → gcd S M < k → P (TwoSteps (processor_step M k S) (return_step M k S)))
    → (2 ≤ n → k ≤ gcd S M → P (OneStep (one_step M S)))
    → P (steps_by n M k S)
unfolding steps_by
step-cases P n M k S none pair single = go (ltb n 2) refl (ltb (gcd S M) k) refl
  where
    go : (t : Bool) → ltb n 2 ≡ t → (u : Bool) → ltb (gcd S M) k ≡ u
        → P (cond t NoStep (cond u (TwoSteps (processor_step M k S) (return_step M k S)) (OneStep (one_step M S))))
    go true e u f = none (ltb-true n 2 e)
    go false e true f = pair (ltb-false n 2 e) (ltb-true (gcd S M) k f)
    go false e false f = single (ltb-false n 2 e) (ltb-false (gcd S M) k f)

-- ---- by multiples of S

-- where d is below k
pub record Paired (M k S : ℕ) : Type 0 where
  pub processor : Least (Forward k) (λ m. m * S % M) (processor_index M k S)
  pub back : Least (Backward M k) (λ m. m * S % M) (return_index M k S)
  pub determinant : (return_step M k S).courses * (processor_step M k S).column + (processor_step M k S).courses * (return_step M k S).column ≡ S

-- where d is k or more: the one step has i times S cells
pub record Single (M k S i : ℕ) : Type 0 where
  pub some : 0 < i
  pub cells : (one_step M S).cells ≡ i * S
  pub form : i * S ≡ (one_step M S).courses * M
  pub least : (q m : ℕ) → q < k → 0 < m → Fits M k q (m * S % M) → i ≤ m

pub data Either (M k S : ℕ) : Type 0 where
  paired : gcd S M < k → Paired M k S → Either M k S
  single : {i : ℕ} → k ≤ gcd S M → Single M k S i → Either M k S

module _ {M k S : ℕ} (h : Course M k S) where
  pub either : Either M k S
  either = go (ended M k S (omega arith) h.spread-pos)
    where
      go : End M k S → Either M k S
      go (two g fu fv) =
          paired (divisor-low h g fu fv)
          (record {
            processor = processor-least h g fu fv;
            back = return-least h g fu fv;
            determinant = rw (← end-processor h g fu fv, ← end-return h g fu fv) g.det-S;
          })
      go (one {a} {b} g same big) =
          single {i = a + b} (omega (arith, divisor h g same big))
          (record {
            some = omega (arith, g.a-pos);
            cells = rw (← end-one h g same big) refl;
            form = rw (← end-one h g same big) (omega (arith, g.at_a, g.at_b));
            least = one-least h g same big;
          })

  pub if-paired : gcd S M < k → Paired M k S
  if-paired d = go either
    where
      go : Either M k S → Paired M k S
      go (paired l p) = p
      go (single l s) = absurd (omega arith)

  pub if-single : k ≤ gcd S M → (i : ℕ) × Single M k S i
  if-single d = go either
    where
      go : Either M k S → (i : ℕ) × Single M k S i
      go (paired l p) = absurd (omega arith)
      go (single {i} l s) = (i, s)

-- ---- by cells, courses and column moves

-- "the smallest multiple of S of the form c·M + y", y from 1 to k - 1
pub record ProcessorLaw (M k S : ℕ) (r : Step) : Type 0 where
  pub multiple : Multiple S r.cells
  pub form : r.cells ≡ r.courses * M + r.column
  pub some : 0 < r.column
  pub few : r.column < k
  pub least : (m c y : ℕ) → m * S ≡ c * M + y → 0 < y → y < k → r.cells ≤ m * S

-- "the smallest multiple of S of the form c·M − y", y from 1 to k - 1
pub record ReturnLaw (M k S : ℕ) (w : Step) : Type 0 where
  pub multiple : Multiple S w.cells
  pub form : w.cells + w.column ≡ w.courses * M
  pub some : 0 < w.column
  pub few : w.column < k
  pub courses-pos : 0 < w.courses
  pub least : (m c y : ℕ) → m * S + y ≡ c * M → 0 < y → y < k → w.cells ≤ m * S

-- the smallest multiple of S that stays in the block, from any column
pub record OneLaw (M k S : ℕ) (x : Step) : Type 0 where
  pub multiple : Multiple S x.cells
  pub form : x.cells ≡ x.courses * M
  pub fits : (q : ℕ) → q < k → Fits M k q (x.cells % M)
  pub least : (q m : ℕ) → q < k → 0 < m → Fits M k q (m * S % M) → x.cells ≤ m * S

module _ {M k S : ℕ} (h : Course M k S) where
  M-pos : 0 < M
  M-pos = omega arith

  pub processor-law : gcd S M < k → ProcessorLaw M k S (processor_step M k S)
  unfolding processor_step
  processor-law d =
      let l = (if-paired h d).processor in
      record {
        multiple = record { index = processor_index M k S; some = l.pos; cells = refl };
        form = sym (div-add-mod' (processor_index M k S * S) M);
        some = l.at.some;
        few = l.at.few;
        least = λ m c y e p f.
            mul-le-mul_right S (l.least m (omega (arith, rest-is M c y (m * S) (omega arith) (omega arith))));
      }

  -- y short of a multiple of M
  short : (n c y : ℕ) → n + y ≡ c * M → 0 < y → y < k → Backward M k (n % M)
  short n c y e p f =
      let z : (n + y) % M ≡ 0 = ap (λ (x : ℕ). x % M) e ∙ mul-mod_left c M in
      let r : y % M ≡ y = mod-eq_of_lt (omega arith) in
      ⊎_elim (λ s. omega arith) (λ s. omega arith) (sum-mod M n y M-pos)

  pub return-law : gcd S M < k → ReturnLaw M k S (return_step M k S)
  unfolding return_step
  return-law d =
      let l = (if-paired h d).back in
      let r : return_index M k S * S % M < M = mod-lt (return_index M k S * S) M-pos in
      record {
        multiple = record { index = return_index M k S; some = l.pos; cells = refl };
        form = omega (arith, div-add-mod' (return_index M k S * S) M);
        some = omega arith;
        few = omega (arith, l.at);
        courses-pos = omega arith;
        least = λ m c y e p f. mul-le-mul_right S (l.least m (short (m * S) c y e p f));
      }

  pub determinant : gcd S M < k → (return_step M k S).courses * (processor_step M k S).column + (processor_step M k S).courses * (return_step M k S).column ≡ S
  determinant d = (if-paired h d).determinant

  -- from no column do both fit
  pub never_both : gcd S M < k → (q : ℕ) → q + (processor_step M k S).column < k → (return_step M k S).column ≤ q → ⊥
  unfolding processor_step return_step
  never_both d q f g =
      let p = if-paired h d in
      not-both h.block-le (rests M S M-pos) p.processor p.back q f (omega arith)

  pub one-law : k ≤ gcd S M → OneLaw M k S (one_step M S)
  one-law d =
      let s = (if-single h d).1 in
      let z : (one_step M S).cells % M ≡ 0 = ap (λ (n : ℕ). n % M) (s.cells ∙ s.form) ∙ mul-mod_left (one_step M S).courses M in
      record {
        multiple = record { index = (if-single h d).0; some = s.some; cells = s.cells };
        form = s.cells ∙ s.form;
        fits = λ q l. inl (omega arith);
        least = λ q m l p f. omega (arith, s.cells, mul-le-mul_right S (s.least q m l p f));
      }
