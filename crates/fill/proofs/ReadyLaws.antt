-- The questions of a fill after those about its section: how each is answered on natural numbers, what a yes to all of them
-- says, and that they decide once the section is accepted.
use Prim.Native.Nat.{ℕ, ◌*◌, ◌≤◌, ◌<◌}
use mathlib.Core.Path.{◌≡◌, refl, sym, ap, ◌∙◌}
use mathlib.Core.Bool.{Bool, true, false, cond, ◌&&◌, ◌||◌}
use mathlib.Core.List.{List, ◌++◌}
use mathlib.Core.Logic.{inl, inr}
use native.Mathlib.Omega.{arith}
use borrow.Author.Tests.{ltb-true, eqb-true, eqb-false, ne_eqb}
use lib.Dec.{ltb, eqb}
use lib.IntN.{ℤ, pos}
use lib.Signed.{le_z}
use Rattle.std.specs.Prelude.{Ok, Err}
use Rattle.numbers.proofs.Tests.{both_true, either_true}
use Rattle.model.specs.Mappings.{Dealing, Section}
use Rattle.model.specs.Ownership.{nat}
use Rattle.model.specs.Sections.{layout, count, owns_at}
use Rattle.model.specs.Questions.{Question, first_no, AllYes, between, is_below, is_place, of_section, of_processor, of_place, of_quota}
use Rattle.model.proofs.QuestionLaws.{between_is, below-is, all_yes, asks-on, stops}
use Rattle.model.proofs.AcceptedLaws.{mapping-yes, whole-mapping}
use Rattle.mapping.specs.Parts.{part_in}
use Rattle.section.specs.declared.questions.Strided.{Strided}
use Rattle.section.specs.declared.shares.Share.{Share}
use Rattle.section.specs.Strides.{strided_of, Bounded, moved, index_at}
use Rattle.section.specs.Shares.{share_in, share_of, owned_by}
use Rattle.section.specs.Answers.{asked_of}
use Rattle.section.proofs.StridedLaws.{indices-fall, index-inside}
use Rattle.section.proofs.ShareLaws.{owned-by}
use Rattle.section.proofs.CallAnswers.{passed, stopped}
use Rattle.walk.specs.Learning.{shifted, element_at, Placed}
use Rattle.fill.specs.Starting.{elements_in}
use Rattle.fill.specs.Ready.{start_at, ready_by, ready_of, is_place_in, left_of, ready_in, Started, SoundReady}

-- ---- the elements of an accepted section

pub element-in : (w : Strided) (t : ℕ) → element_at (elements_in w) t ≡ index_at w t
unfolding element_at index_at
element-in w t = go w.upward
  where
    go : (up : Bool) → shifted up w.first.0 (t * w.stride) ≡ moved up w.first.0 (t * w.stride)
    go true = refl
    go false = refl

pub elements-placed : (w : Strided) → Bounded w → Placed (elements_in w) w.count
elements-placed w b =
    record {
      sized = b.sized;
      few = omega (arith, b.count-high);
      stride = omega (arith, b.stride-high);
      falls = λ down t h. omega (arith, indices-fall w b down t h);
      inside = λ t h. rw (element-in w t) (index-inside w b t h);
    }

-- ---- question 10

module _ (s : Share) where
  -- what a yes says
  pub record Standing (t : ℕ) : Type 0 where
    pub place : t ≤ s.section.count
    pub owned : t < s.section.count → owned_by s t ≡ true

  pub standing : (t : ℤ) → is_place_in s t ≡ true → Standing (nat t)
  unfolding is_place_in
  standing t e =
      let inside = ltb (nat t) s.section.count && owned_by s (nat t) in
      let yes-to = (both_true (le_z (pos 0) t) (eqb (nat t) s.section.count || inside) e).1 in
      elim (either_true (eqb (nat t) s.section.count) inside yes-to) [
        | inl p ↦
            let z : nat t ≡ s.section.count = eqb-true (nat t) s.section.count p in
            record { place = omega arith; owned = λ h. absurd (omega arith) }
        | inr p ↦
            let both = both_true (ltb (nat t) s.section.count) (owned_by s (nat t)) p in
            record { place = omega (arith, ltb-true (nat t) s.section.count both.0); owned = λ h. both.1 }
      ]

-- ---- what a yes to all of them says

module _ (w : Strided) (b : Bounded w) (d : Dealing) (q t z : ℤ) where
  abbrev share : Share
  share = share_in w (nat q) (part_in d (nat q))

  started : AllYes (left_of share q t z) → Started (start_at share t z)
  unfolding nat
  started said =
      let s = standing share t said.1.0 in
      let n = between_is 3 1000000 z said.1.1.0 in
      record {
        section-bounded = b;
        processor = (below-is q (pos w.layout.processors) said.0).below;
        place = s.place;
        owned = s.owned;
        least = n.from;
        most = n.upto;
      }

  pub ready-sound : SoundReady (ready_in w d q t z)
  unfolding ready_in
  ready-sound = go (eqb (first_no (left_of share q t z)) 0) refl
    where
      go : (a : Bool) → eqb (first_no (left_of share q t z)) 0 ≡ a → SoundReady (ready_by share t z (first_no (left_of share q t z)))
      go true e = rw e (started (all_yes (left_of share q t z) refl (eqb-true (first_no (left_of share q t z)) 0 e)))
      go false e = rw e (omega (arith, eqb-false (first_no (left_of share q t z)) 0 e))

-- ---- after the questions about the section

module _ (x : Section) (q t z : ℤ) where
  -- question 10 of the section is that of its numbers
  place_same : first_no (of_section x) ≡ 0 → is_place x q t ≡ is_place_in (share_of x (nat q)) t
  unfolding is_place is_place_in strided_of
  place_same ok = go (ltb (nat t) (count x)) refl
    where
      go : (a : Bool) → ltb (nat t) (count x) ≡ a
          → (le_z (pos 0) t && (eqb (nat t) (count x) || (ltb (nat t) (count x) && owns_at x (nat q) (nat t))))
          ≡ (le_z (pos 0) t && (eqb (nat t) (count x) || (ltb (nat t) (count x) && owned_by (share_of x (nat q)) (nat t))))
      go true e = rw (owned-by x ok (nat q) (nat t) (ltb-true (nat t) (count x) e))
      go false e = rw e

  left : List Question
  left = of_processor x.mapping q ++ of_place x q t ++ of_quota z

  left-same : first_no (of_section x) ≡ 0 → first_no (left_of (share_of x (nat q)) q t z) ≡ first_no left
  unfolding left first_no strided_of layout
  left-same ok =
      let m = whole-mapping x.mapping (mapping-yes x ok) in
      let processor = ap (λ (n : ℤ). is_below n q) (sym m.processors) in
      let place = sym (place_same ok) in
      λ i. cond (processor i) (cond (place i) (cond (between (pos 3) (pos 1000000) z) 0 11) 10) 8

  pub ready_by_lem : (w : Strided) → asked_of x ≡ Ok w → ready_in w x.mapping.dealing q t z ≡ ready_of x q t z
  unfolding ready_in ready_of left
  ready_by_lem w e =
      let p = passed x w e in
      ap (λ (v : Strided). ready_in v x.mapping.dealing q t z) p.strided
      ∙ ap (ready_by (share_of x (nat q)) t z)
      (left-same p.none ∙ sym (asks-on (of_section x) left (all_yes (of_section x) refl p.none)))

  pub ready_refused : (e : ℕ) → asked_of x ≡ Err e → Err e ≡ ready_of x q t z
  unfolding ready_of left
  ready_refused e r =
      let s = stopped x e r in
      let first : first_no (of_section x ++ left) ≡ e = stops (of_section x) left (λ n. s.some (sym s.first ∙ n)) ∙ s.first in
      rw (first, ne_eqb e 0 s.some)
