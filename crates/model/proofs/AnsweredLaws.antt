-- Answers that are made by whether the first no is 0: what holds of them, and what demand 1 asks of them.
use Prim.Native.Nat.{ℕ, ◌≤◌, zero-le}
use mathlib.Core.Path.{◌≡◌, refl, sym, ◌∙◌}
use mathlib.Core.Bool.{Bool, true, false, cond, ◌&&◌}
use mathlib.Core.List.{List, [], ◌∷◌}
use lib.Dec.{leb, eqb}
use borrow.Author.Tests.{leb-true, eqb-true, eqb-false}
use Rattle.numbers.proofs.Tests.{both_true}
use Rattle.model.specs.Questions.{Question, first_no}
use Rattle.model.specs.Demand1.{Answers}
use Rattle.model.proofs.QuestionLaws.{numbered, all_yes}

pub by-first-no : {A : Type 0} (P : A → Type 0) (qs : List Question) (made : Bool → A) → (first_no qs ≡ 0 → P (made true))
    → ((first_no qs ≡ 0 → ⊥) → P (made false)) → P (made (eqb (first_no qs) 0))
by-first-no P qs made accepted refused = go (eqb (first_no qs) 0) refl
  where
    go : (b : Bool) → eqb (first_no qs) 0 ≡ b → P (made b)
    go true p = accepted (eqb-true (first_no qs) 0 p)
    go false p = refused (eqb-false (first_no qs) 0 p)

-- answers of two calls whose first no is the same, in any relation
pub answers-alike : {A B : Type 0} (R : A → B → Type 0) (xs ys : List Question) → first_no xs ≡ first_no ys
    → (a : A) (b : B) (f : ℕ → A) (g : ℕ → B) → (first_no ys ≡ 0 → R a b) → ((n : ℕ) → R (f n) (g n))
    → R (cond (eqb (first_no xs) 0) a (f (first_no xs))) (cond (eqb (first_no ys) 0) b (g (first_no ys)))
answers-alike {A} {B} R xs ys e a b f g full none =
    rw e
    (by-first-no {A = A × B} (λ p. R p.0 p.1) ys (λ t. (cond t a (f (first_no ys)), cond t b (g (first_no ys)))) full
    (λ no. none (first_no ys)))

-- ---- how large a refusal is

-- no question's number is above b
abbrev pub numbered_to : ℕ → List Question → Bool
numbered_to b [] = true
numbered_to b (q ∷ qs) = leb q.number b && numbered_to b qs

pub refusal-le : (b : ℕ) (qs : List Question) → numbered_to b qs ≡ true → first_no qs ≤ b
unfolding first_no
refusal-le b [] h = zero-le
refusal-le b (q ∷ qs) h = go (refusal-le b qs each.1) q.holds refl
  where
    each : (leb q.number b ≡ true) × (numbered_to b qs ≡ true)
    each = both_true (leb q.number b) (numbered_to b qs) h

    go : first_no qs ≤ b → (t : Bool) → q.holds ≡ t → first_no (q ∷ qs) ≤ b
    go ih true p = rw p ih
    go ih false p = rw p (leb-true q.number b each.0)

-- a call's answer is a where no question is answered no, and else r, the refusal; questions are numbered to 17
pub answered : {A : Type 0} (P : A → Type 0) (qs : List Question) → numbered_to 17 qs ≡ true → (a r : A)
    → (first_no qs ≡ 0 → P a) → (first_no qs ≤ 17 → P r) → P (cond (eqb (first_no qs) 0) a r)
answered P qs h a r accepted refused = by-first-no P qs (λ b. cond b a r) accepted (λ f. refused (refusal-le 17 qs h))

-- ---- demand 1

module _ {A : Type 0} (refusal : A → ℕ) (Full Nothing : A → Type 0) (qs : List Question) (n : numbered qs ≡ true) where
  pub made_by : (made : Bool → A) → (first_no qs ≡ 0 → refusal (made true) ≡ 0) → refusal (made false) ≡ first_no qs
      → Full (made true) → Nothing (made false)
      → Answers (made (eqb (first_no qs) 0)) refusal qs Full Nothing
  made_by made zero same full nothing =
      by-first-no (λ a. Answers a refusal qs Full Nothing) qs made
      (λ z. record { first = zero z ∙ sym z; every = λ e. all_yes qs n z; accepted = λ e. full; refused = λ f. absurd (f (zero z)) })
      (λ f.
      let never : refusal (made false) ≡ 0 → ⊥ = λ e. f (sym same ∙ e) in
      record { first = same; every = λ e. absurd (never e); accepted = λ e. absurd (never e); refused = λ g. nothing })

  -- one of two
  pub either-of : (full none : A) → refusal full ≡ 0 → refusal none ≡ first_no qs → Full full → Nothing none
      → Answers (cond (eqb (first_no qs) 0) full none) refusal qs Full Nothing
  either-of full none z = made_by (λ b. cond b full none) (λ e. z)
