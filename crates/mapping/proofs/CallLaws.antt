-- A call's answer, from the questions about its mapping and what is left to ask of the layout.
use Prim.Native.Nat.{ℕ}
use mathlib.Core.Path.{◌≡◌, refl, sym, ap, ◌∙◌}
use mathlib.Core.Bool.{Bool, true, false}
use mathlib.Core.List.{List, ◌++◌}
use native.Mathlib.Omega.{arith}
use lib.Dec.{eqb}
use lib.IntN.{ℤ, pos, ◌+ℤ◌, ◌-ℤ◌}
use borrow.Author.Tests.{eqb-true, eqb-false, ne_eqb}
use Rattle.model.specs.Mappings.{Dealing, cyclic, gen_block, Mapping}
use Rattle.model.specs.Ownership.{nat, last_index, from_lower, declared_index, layout_of, owner, held}
use Rattle.model.specs.Questions.{Question, first_no, runs_fit, sizes_fit, between, is_below, is_index, of_mapping, of_processor, of_index, of_address}
use Rattle.model.specs.Calls.{ownership, going_back, local_count}
use Rattle.model.proofs.QuestionLaws.{all_yes, asks-on, stops}
use Rattle.model.proofs.AcceptedLaws.{whole-mapping}
use Rattle.std.specs.Prelude.{Ok, Err}
use Rattle.mapping.specs.declared.questions.Mapped.{Mapped}
use Rattle.mapping.specs.Parts.{owner_for, Listed}
use Rattle.mapping.specs.Answers.{mapped_of, no_owner, not_found, not_counted, ownership_in, going_back_in, local_count_in}

module _ (m : Mapping) where
  -- ---- what the answer about the mapping says of its questions

  pub record Stopped (q : ℕ) : Type 0 where
    pub first : first_no (of_mapping m) ≡ q
    pub some : q ≡ 0 → ⊥

  pub stopped : (q : ℕ) → mapped_of m ≡ Err q → Stopped q
  unfolding mapped_of
  stopped q e = go (eqb (first_no (of_mapping m)) 0) refl
    where
      go : (b : Bool) → eqb (first_no (of_mapping m)) 0 ≡ b → Stopped q
      go true p = absurd (let f = rw p at e in let z : ◌≡◌ {A = ℕ} 0 1 = cc in omega arith)
      go false p =
          let f : first_no (of_mapping m) ≡ q = let g = rw p at e in cc in
          record { first = f; some = λ z. eqb-false (first_no (of_mapping m)) 0 p (f ∙ z) }

  pub record Passed (x : Mapped) : Type 0 where
    pub none : first_no (of_mapping m) ≡ 0
    pub layout : x.layout ≡ layout_of m
    pub lower : x.lower ≡ m.lower

  pub passed : (x : Mapped) → mapped_of m ≡ Ok x → Passed x
  unfolding mapped_of
  passed x e = go (eqb (first_no (of_mapping m)) 0) refl
    where
      go : (b : Bool) → eqb (first_no (of_mapping m)) 0 ≡ b → Passed x
      go true p = let g = rw p at e in record { none = eqb-true (first_no (of_mapping m)) 0 p; layout = cc; lower = cc }
      go false p = absurd (let f = rw p at e in let z : ◌≡◌ {A = ℕ} 0 1 = cc in omega arith)

  -- ---- a mapping that was refused

  module _ (q : ℕ) (e : mapped_of m ≡ Err q) where
    refused-on : (rest : List Question) → first_no (of_mapping m ++ rest) ≡ q
    refused-on rest =
        let s = stopped q e in
        stops (of_mapping m) rest (λ z. s.some (sym s.first ∙ z)) ∙ s.first

    pub ownership-refused : (i : ℤ) → no_owner q ≡ ownership m i
    unfolding ownership
    ownership-refused i = rw (refused-on (of_index m i), ne_eqb q 0 (stopped q e).some)

    pub going-back-refused : (p x : ℤ) → not_found q ≡ going_back m p x
    unfolding going_back
    going-back-refused p x = rw (refused-on (of_processor m p ++ of_address m p x), ne_eqb q 0 (stopped q e).some)

    pub local-count-refused : (p : ℤ) → not_counted q ≡ local_count m p
    unfolding local_count
    local-count-refused p = rw (refused-on (of_processor m p), ne_eqb q 0 (stopped q e).some)

  -- ---- a mapping that passed

  module _ (x : Mapped) (e : mapped_of m ≡ Ok x) where
    none : first_no (of_mapping m) ≡ 0
    none = (passed x e).none

    asked-on : (rest : List Question) → first_no (of_mapping m ++ rest) ≡ first_no rest
    asked-on rest = asks-on (of_mapping m) rest (all_yes (of_mapping m) refl none)

    -- the numbers that the questions name are the layout's
    same_index : (j : ℤ) → is_index m j ≡ between m.lower (m.lower +ℤ pos (nat m.size) -ℤ pos 1) j
    unfolding is_index last_index layout_of
    same_index j = ap (λ (z : ℤ). between m.lower (m.lower +ℤ z -ℤ pos 1) j) (whole-mapping m none).size

    same-processors : (q : ℤ) → is_below m.processors q ≡ is_below (pos (nat m.processors)) q
    unfolding layout_of
    same-processors q = ap (λ (z : ℤ). is_below z q) (whole-mapping m none).processors

    -- its list passed question 16
    pub listed_by : Listed x.layout m.dealing
    unfolding sizes_fit nat layout_of
    listed_by = rw (passed x e).layout (go m.dealing (all_yes (of_mapping m) refl none).1.1.1.0)
      where
        go : (d : Dealing) → runs_fit m.cells m.processors d ≡ true → runs_fit (pos (nat m.cells)) (pos (nat m.processors)) d ≡ true
        go (cyclic k) f = refl
        go (gen_block sizes left) f = f

    pub ownership-by : (j : ℤ) → ownership_in (owner_for x.layout m.dealing) x.layout x.lower j ≡ ownership m j
    unfolding owner ownership_in ownership first_no from_lower layout_of
    ownership-by j =
        rw ((passed x e).layout, (passed x e).lower) (go (between m.lower (m.lower +ℤ pos (nat m.size) -ℤ pos 1) j) refl)
      where
        go : (b : Bool) → between m.lower (m.lower +ℤ pos (nat m.size) -ℤ pos 1) j ≡ b
            → ownership_in (owner m) (layout_of m) m.lower j ≡ ownership m j
        go true p = rw (asked-on (of_index m j), same_index j, p)
        go false p = rw (asked-on (of_index m j), same_index j, p)

    pub local-count-by : (q : ℤ) → local_count_in (owner_for x.layout m.dealing) x.layout q ≡ local_count m q
    unfolding owner local_count_in local_count first_no layout_of
    local-count-by q = rw (passed x e).layout (go (is_below (pos (nat m.processors)) q) refl)
      where
        go : (b : Bool) → is_below (pos (nat m.processors)) q ≡ b → local_count_in (owner m) (layout_of m) q ≡ local_count m q
        go true p = rw (asked-on (of_processor m q), same-processors q, p)
        go false p = rw (asked-on (of_processor m q), same-processors q, p)

    pub going-back-by : (q a : ℤ) → going_back_in (owner_for x.layout m.dealing) x.layout x.lower q a ≡ going_back m q a
    unfolding owner going_back_in going_back first_no declared_index layout_of
    going-back-by q a =
        rw ((passed x e).layout, (passed x e).lower)
        (go (is_below (pos (nat m.processors)) q) refl (is_below (pos (held (owner m) (nat m.size) (nat q))) a) refl)
      where
        go : (b : Bool) → is_below (pos (nat m.processors)) q ≡ b
            → (c : Bool) → is_below (pos (held (owner m) (nat m.size) (nat q))) a ≡ c → going_back_in (owner m) (layout_of m) m.lower q a ≡ going_back m q a
        go true p true r = rw (asked-on (of_processor m q ++ of_address m q a), same-processors q, p, r)
        go true p false r = rw (asked-on (of_processor m q ++ of_address m q a), same-processors q, p, r)
        go false p c r = rw (asked-on (of_processor m q ++ of_address m q a), same-processors q, p)
