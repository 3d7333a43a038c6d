-- What save and load answer and write, from the answer to the questions about the mapping.
use Prim.Native.Nat.{ℕ}
use mathlib.Core.Path.{◌≡◌, refl, sym, ap, subst, ◌∙◌}
use mathlib.Core.Bool.{Bool, true, false, cond}
use mathlib.Core.List.{List}
use native.Mathlib.Omega.{arith}
use borrow.Author.Tests.{ne_eqb}
use Rattle.model.specs.Mappings.{Mapping, mapping_with}
use Rattle.model.specs.declared.Mapping as mappings
use Rattle.model.specs.declared.Layout.{Layout}
use Rattle.model.specs.Ownership.{layout_of, owner}
use Rattle.model.specs.Questions.{first_no, of_mapping}
use Rattle.model.specs.Storages.{copied}
use Rattle.model.specs.Checkpoints.{copy_of, words_in, of_words, of_copy, copying, place_of, after_copy}
use Rattle.model.proofs.QuestionLaws.{all_yes, asks-on, stops, never}
use Rattle.model.proofs.AcceptedLaws.{mapped}
use Rattle.std.specs.Prelude.{Result, Ok, Err}
use Rattle.model.specs.declared.refusals.ListError.{ListError}
use Rattle.model.specs.declared.refusals.ListError.TheVariants.{Needs, Refused}
use Rattle.model.specs.Calls.{ToldApart}
use Rattle.model.proofs.RefusalLaws.{number-positive}
use Rattle.mapping.specs.declared.questions.Mapped.{Mapped}
use Rattle.mapping.specs.Parts.{Listed}
use Rattle.mapping.specs.Answers.{mapped_of}
use Rattle.mapping.proofs.CallLaws.{stopped, passed, listed_by}
use Rattle.storage.specs.Copying.{from_place, to_place, copied_by}
use Rattle.storage.specs.Answers.{copied_as, copied_refusals, written, has_room, copied_in, written_in}
use Rattle.storage.proofs.DealtWords.{by-places}

-- a refusal's number is above 0
pub copied-apart : (r : Result (Unit {0}) ListError) → ToldApart (copied_refusals r)
copied-apart (Ok u) = tt
copied-apart (Err (Needs n)) = tt
copied-apart (Err (Refused e)) = (number-positive e, tt)

module _ (m : Mapping) (s to : List ℕ) where
  -- ---- the mapping is refused

  module _ (q : ℕ) (e : mapped_of m ≡ Err q) where
    some : q ≡ 0 → ⊥
    some = (stopped m q e).some

    first : first_no (of_copy (copy_of m s to)) ≡ q
    first =
        let f = (stopped m q e).first in
        stops (of_mapping m) (of_words (words_in m) s to) (λ z. some (sym f ∙ z)) ∙ f

    not-room : q ≡ 13 → ⊥
    not-room z = absurd (let n : ◌≡◌ {A = ℕ} 13 0 = never 13 (of_mapping m) refl ((stopped m q e).first ∙ z) in omega arith)

    pub answer-refused : record { refusal = q; needed = 0 } ≡ copying (copy_of m s to)
    unfolding copying
    answer-refused = rw (first, ne_eqb q 0 some, ne_eqb q 13 not-room)

    pub written-refused : (b : Bool) → to ≡ written b (copy_of m s to)
    unfolding after_copy
    written-refused true = rw (first, ne_eqb q 0 some)
    written-refused false = rw (first, ne_eqb q 0 some)

  -- ---- it passed, and question 13 decides

  module _ (x : Mapped) (e : mapped_of m ≡ Ok x) where
    decided : (b : Bool) → has_room (words_in m) s to ≡ b → first_no (of_copy (copy_of m s to)) ≡ cond b 0 13
    unfolding first_no
    decided b h =
        asks-on (of_mapping m) (of_words (words_in m) s to) (all_yes (of_mapping m) refl (passed m x e).none)
        ∙ ap (λ (z : Bool). cond z 0 13) h

    pub answer-by : copied_as (copied_in x.layout s to) ≡ copying (copy_of m s to)
    unfolding copying layout_of
    answer-by = rw (passed m x e).layout (go (has_room (words_in m) s to) refl)
      where
        go : (b : Bool) → has_room (words_in m) s to ≡ b → copied_as (copied_in (layout_of m) s to) ≡ copying (copy_of m s to)
        go true h = rw (decided true h, h)
        go false h = rw (decided false h, h)

-- ---- what is written by the dealing, with the list of its sizes

module _ (m : mappings.Mapping) (bytes s to : List ℕ) (x : Mapped) (e : mapped_of (mapping_with m bytes) ≡ Ok x) where
  abbrev mapping : Mapping
  mapping = mapping_with m bytes

  -- all words, between index order and the storage
  all_words : (b : Bool) → copied_by b (layout_of mapping) m.dealing s to
      ≡ copied (λ i. from_place b i (place_of mapping i)) (λ i. to_place b i (place_of mapping i)) (words_in mapping) s to
  unfolding owner layout_of
  all_words b =
      let p = passed mapping x e in
      let listed = subst (λ (l : Layout). Listed l mapping.dealing) p.layout (listed_by mapping x e) in
      by-places (layout_of mapping) (mapped mapping p.none) b m.dealing bytes listed s to

  pub written-by : (b : Bool) → written_in b x.layout m.dealing s to ≡ written b (copy_of mapping s to)
  unfolding after_copy layout_of
  written-by b = rw (passed mapping x e).layout (go b (has_room (words_in mapping) s to) refl)
    where
      go : (b h : Bool) → has_room (words_in mapping) s to ≡ h → written_in b (layout_of mapping) m.dealing s to ≡ written b (copy_of mapping s to)
      go true true h = rw (decided mapping s to x e true h, h) (all_words true)
      go true false h = rw (decided mapping s to x e false h, h)
      go false true h = rw (decided mapping s to x e true h, h) (all_words false)
      go false false h = rw (decided mapping s to x e false h, h)
