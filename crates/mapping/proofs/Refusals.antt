-- The first of questions 1 to 5, 15 and 16 that is answered no, from the answers put one after the other.
use Prim.Native.Nat.{ℕ}
use mathlib.Core.Path.{◌≡◌, refl, sym, ◌∙◌}
use mathlib.Core.Bool.{Bool, true, false}
use mathlib.Core.List.{List, [], ◌∷◌}
use lib.IntN.{ℤ, pos}
use Rattle.model.specs.declared.Dealing as declared
use Rattle.model.specs.declared.Dealing.TheVariants.{Cyclic, GenBlock}
use Rattle.model.specs.Mappings.{Dealing, cyclic, gen_block, dealing_with, Mapping}
use Rattle.model.specs.Ownership.{cell_under, last_index, last_cell}
use Rattle.model.specs.Questions.{Question, ask, first_no, AllYes, between, most, runs_fit, bounds_fit, cells_fit, of_mapping}
use Rattle.model.proofs.QuestionLaws.{all_yes, asks-on, stops}
use Rattle.mapping.specs.Answers.{mapping_of, list_fits, of_dealing, of_listed}

-- questions 5, 15 and 5 again, by their answers
abbrev of_size : Bool → Bool → Bool → List Question
of_size n bounds cells = ask 5 n ∷ ask 15 bounds ∷ ask 5 cells ∷ []

module _ (listed : Bool) (m : Mapping) where
  -- questions 1 to 4 and 16
  abbrev pub first : List Question
  first = of_dealing m.cells m.processors m.dealing listed m.stride m.offset

  abbrev rest : List Question
  rest = of_size (between (pos 0) most m.size) (bounds_fit m) (cells_fit m)

  pub dealing-refused : (first_no first ≡ 0 → ⊥) → first_no first ≡ first_no (of_listed listed m)
  dealing-refused h = sym (stops first rest h)

  module _ (ok : first_no first ≡ 0) where
    pub dealing-yes : AllYes first
    dealing-yes = all_yes first refl ok

    asked-on : first_no rest ≡ first_no (of_listed listed m)
    asked-on = sym (asks-on first rest dealing-yes)

    -- the three answers decide
    decided : {x y z : Bool} → between (pos 0) most m.size ≡ x → bounds_fit m ≡ y → cells_fit m ≡ z
        → first_no (of_size x y z) ≡ first_no (of_listed listed m)
    decided e f g = sym (λ i. first_no (of_size (e i) (f i) (g i))) ∙ asked-on

    pub size-refused : between (pos 0) most m.size ≡ false → 5 ≡ first_no (of_listed listed m)
    unfolding first_no
    size-refused e = decided e refl refl

    module _ (some : between (pos 0) most m.size ≡ true) where
      pub bounds-refused : bounds_fit m ≡ false → 15 ≡ first_no (of_listed listed m)
      unfolding first_no
      bounds-refused e = decided some e refl

      module _ (bounds : bounds_fit m ≡ true) where
        pub cells-refused : cells_fit m ≡ false → 5 ≡ first_no (of_listed listed m)
        unfolding first_no
        cells-refused e = decided some bounds e

        pub all_held : cells_fit m ≡ true → 0 ≡ first_no (of_listed listed m)
        unfolding first_no
        all_held e = decided some bounds e

-- ---- question 16 put before the others

-- a list is looked through where question 2 is answered yes
list-fits : (t p : ℤ) (d : Dealing) → between (pos 1) (pos 1024) p ≡ true → list_fits t p d ≡ runs_fit t p d
list-fits t p (cyclic k) e = refl
list-fits t p (gen_block sizes left) e = rw e

-- and else question 16 is not asked
listed-first : (m : Mapping) → first_no (of_listed (list_fits m.cells m.processors m.dealing) m) ≡ first_no (of_mapping m)
unfolding first_no
listed-first m = go (between (pos 1) (pos 1024) m.processors) refl
  where
    go : (b : Bool) → between (pos 1) (pos 1024) m.processors ≡ b
        → first_no (of_listed (list_fits m.cells m.processors m.dealing) m) ≡ first_no (of_mapping m)
    go true e = rw (list-fits m.cells m.processors m.dealing e)
    go false e = rw e

-- the list itself is no matter then
pub listed-asked : (t p : ℤ) (d : declared.Dealing) (bs : List ℕ) (a b n lower origin : ℤ)
    → first_no (of_listed (list_fits t p (dealing_with d bs)) (mapping_of t p (dealing_with d []) a b n lower origin))
    ≡ first_no (of_mapping (mapping_of t p (dealing_with d bs) a b n lower origin))
unfolding bounds_fit cells_fit last_cell last_index cell_under
listed-asked t p (Cyclic k) bs a b n lower origin = listed-first (mapping_of t p (dealing_with (Cyclic k) bs) a b n lower origin)
listed-asked t p GenBlock bs a b n lower origin = listed-first (mapping_of t p (dealing_with GenBlock bs) a b n lower origin)
