-- What a processor has of an array in its part of the template: in a run the elements are one run of indices. Assumes nothing.
use Prim.Native.Nat.{ℕ, suc, ◌-◌, ◌≤◌, ◌<◌}
use mathlib.Core.Path.{◌≡◌, refl, sym, ap, ◌∙◌, subst}
use mathlib.Core.List.{List}
use native.Mathlib.Decide.{dec_lt}
use native.Mathlib.Nat.{mul-le-mul_left}
use native.Mathlib.Omega.{arith}
use lib.Dec.{leb, eqb}
use lib.IntN.{ℤ}
use lib.ListN.{length}
use borrow.Author.Tests.{leb-true}
use mathlib.Core.Bool.{◌&&◌}
use Rattle.numbers.proofs.Tests.{both_true}
use Rattle.model.specs.Questions.{each_natural, sizes_fit}
use Rattle.numbers.specs.Search.{sum}
use Rattle.numbers.proofs.MultipleLaws.{multiples-le, below-multiples, multiples-below}
use Rattle.model.specs.declared.Layout.{Layout}
use Rattle.model.specs.Mappings.{Dealing, cyclic, gen_block}
use Rattle.model.specs.Ownership.{nat, cell_of, owner_of, run_start, run_sizes, held, back_to}
use Rattle.model.specs.Sized.{Sized}
use Rattle.model.proofs.RunOwners.{owner-run, run-owner, next_start}
use Rattle.model.proofs.OneRun.{OneRun, run-all, run-back}
use Rattle.mapping.specs.declared.parts.Part.{Part}
use Rattle.mapping.specs.Parts.{part_in, index_from, held_in, found_in, owner_for, Listed}

module _ (l : Layout) (s : Sized l) where
  pub in-template : (i : ℕ) → i < l.size → cell_of l i < l.cells
  unfolding cell_of
  in-template i h =
      let e : i ≤ l.size - 1 = omega arith in
      omega (arith, s.inside (omega arith), mul-le-mul_left l.stride e)

  -- ---- the elements below a cell

  pub cut-le : (c : ℕ) → index_from l c ≤ l.size
  cut-le c = multiples-le l.stride l.size (c - l.offset) s.stride-pos

  pub below-cut : (c i : ℕ) → i < index_from l c → (i < l.size) × (cell_of l i < c)
  unfolding cell_of
  below-cut c i h =
      let r = below-multiples l.stride l.size (c - l.offset) s.stride-pos i h in
      (r.0, omega (arith, r.1))

  pub cut_below : (c i : ℕ) → i < l.size → cell_of l i < c → i < index_from l c
  unfolding cell_of
  cut_below c i h e = multiples-below l.stride l.size (c - l.offset) s.stride-pos i h (omega arith)

  pub cut-rises : (c d : ℕ) → c ≤ d → index_from l c ≤ index_from l d
  cut-rises c d h = elim (dec_lt (index_from l d) (index_from l c)) [
    | yes k ↦ let r = below-cut c (index_from l d) k in absurd (omega (arith, cut_below d (index_from l d) r.0 (omega (arith, r.1))))
    | no k ↦ omega arith
  ]

  pub cut-none : (c : ℕ) → c ≤ l.offset → index_from l c ≡ 0
  unfolding cell_of
  cut-none c h = elim (dec_lt 0 (index_from l c)) [
    | yes k ↦ absurd (omega (arith, (below-cut c 0 k).1))
    | no k ↦ omega arith
  ]

  -- ---- a run

  module _ (sizes : List ℤ) (left : ℕ) (covers : l.cells ≤ sum (run_sizes sizes)) where
    abbrev runs : List ℕ
    runs = run_sizes sizes

    pub inside : (i : ℕ) → i < l.size → cell_of l i < sum runs
    inside i h = omega (arith, in-template i h)

    pub one-run : (q : ℕ) → OneRun (owner_for l (gen_block sizes left)) l.size q (index_from l (run_start runs q)) (index_from l (run_start runs (suc q)))
    one-run q = record {
      ordered = cut-rises (run_start runs q) (run_start runs (suc q)) (omega (arith, next_start runs q));
      inside = cut-le (run_start runs (suc q));
      mine = λ i a b.
          let r = below-cut (run_start runs (suc q)) i b in
          run-owner runs (cell_of l i) q (from i a r.0) (omega (arith, r.1, next_start runs q));
      only = λ i h e.
          let r = owner-run runs (cell_of l i) (inside i h) in
          let low : run_start runs q ≤ cell_of l i = rw e at r.from in
          let high : cell_of l i < run_start runs (suc q) = rw (next_start runs q) (rw e at r.below) in
          (to i low, cut_below (run_start runs (suc q)) i h high);
    }
      where
        from : (i : ℕ) → index_from l (run_start runs q) ≤ i → i < l.size → run_start runs q ≤ cell_of l i
        from i a h = elim (dec_lt (cell_of l i) (run_start runs q)) [
          | yes k ↦ absurd (omega (arith, cut_below (run_start runs q) i h k))
          | no k ↦ omega arith
        ]

        to : (i : ℕ) → run_start runs q ≤ cell_of l i → index_from l (run_start runs q) ≤ i
        to i a = elim (dec_lt i (index_from l (run_start runs q))) [
          | yes k ↦ absurd (omega (arith, (below-cut (run_start runs q) i k).1))
          | no k ↦ omega arith
        ]

  -- ---- either part

  -- each cell of the template lies in a run
  abbrev pub Covered : Dealing → Type 0
  Covered (cyclic k) = Unit {0}
  Covered (gen_block sizes left) = l.cells ≤ sum (run_sizes sizes)

  pub held-part : (d : Dealing) → Covered d → (q : ℕ) → held_in l q (part_in d q) ≡ held (owner_for l d) l.size q
  unfolding owner_of
  held-part (cyclic k) c q = refl
  held-part (gen_block sizes left) c q = sym (run-all (one-run sizes left c q))

  pub found_part : (d : Dealing) → Covered d → (q x : ℕ) → x < held_in l q (part_in d q)
      → found_in l q (part_in d q) x ≡ back_to (owner_for l d) l.size q x
  unfolding owner_of
  found_part (cyclic k) c q x h = refl
  found_part (gen_block sizes left) c q x h = sym (run-back (one-run sizes left c q) x h)

-- what passed question 16 covers the template
pub covered : (l : Layout) (s : Sized l) (d : Dealing) → Listed l d → Covered l s d
unfolding sizes_fit nat
covered l s (cyclic k) e = tt
covered l s (gen_block sizes left) e =
    let a = eqb (length sizes) l.processors in
    let b = eqb left 0 in
    leb-true l.cells (sum (run_sizes sizes)) (both_true (a && b && each_natural sizes) (leb l.cells (sum (run_sizes sizes))) e).1

-- what a call's answers about a part say of the dealing
module _ (l : Layout) (s : Sized l) (d : Dealing) (m : Listed l d) (q : ℕ) {n : ℕ} {part : Part} (e : n ≡ held_in l q part) (is : part ≡ part_in d q) where
  pub part-held : n ≡ held (owner_for l d) l.size q
  part-held = e ∙ ap (held_in l q) is ∙ held-part l s d (covered l s d m) q

  pub part-found : {x i : ℕ} → x < n → i ≡ found_in l q part x → i ≡ back_to (owner_for l d) l.size q x
  part-found {x} h f =
      f
      ∙ ap (λ (p : Part). found_in l q p x) is
      ∙ found_part l s d (covered l s d m) q x (subst (λ (k : ℕ). x < k) (e ∙ ap (held_in l q) is) h)
