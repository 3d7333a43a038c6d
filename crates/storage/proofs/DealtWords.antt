-- The words of an array lie in the storage at the places that its owners give, by either dealing. Of a GEN_BLOCK template the
-- storages laid end to end are in index order.
use Prim.Native.Nat.{ℕ, suc, ◌+◌, ◌<◌, zero-le}
use mathlib.Core.Path.{◌≡◌, sym, ap, ◌∙◌}
use mathlib.Core.Bool.{Bool, true, false}
use mathlib.Core.List.{List}
use native.Mathlib.Nat.{zero-add, le_refl}
use lib.IntN.{ℤ}
use Rattle.numbers.specs.Search.{sum}
use Rattle.model.specs.declared.Dealing.{Dealing}
use Rattle.model.specs.declared.Dealing.TheVariants.{Cyclic, GenBlock}
use Rattle.model.specs.declared.Layout.{Layout}
use Rattle.model.specs.Mappings.{gen_block, sizes_of, dealing_with}
use Rattle.model.specs.Ownership.{owner_of, run_start, run_sizes}
use Rattle.model.specs.Sized.{Sized}
use Rattle.model.specs.Storages.{storage_place, copied}
use Rattle.model.proofs.CopyLaws.{copied-same}
use Rattle.model.proofs.OneRun.{in-index-order}
use Rattle.mapping.specs.Parts.{index_from, owner_for, Listed}
use Rattle.mapping.proofs.PartLaws.{cut-none, one-run, covered}
use Rattle.storage.specs.Copying.{from_place, to_place, from_places, to_places, copied_by}

module _ (l : Layout) (z : Sized l) where
  -- each processor has one run of elements, and the runs follow one another
  runs-in-order : (sizes : List ℤ) (left : ℕ) → Listed l (gen_block sizes left)
      → (i : ℕ) → i < l.size → storage_place (owner_for l (gen_block sizes left)) l.size i ≡ i
  unfolding run_start sum
  runs-in-order sizes left h i k =
      let owner : ℕ → ℕ = owner_for l (gen_block sizes left) in
      in-index-order owner (suc (owner i)) l.size (λ q. index_from l (run_start (run_sizes sizes) q))
      (cut-none l z (run_start (run_sizes sizes) 0) zero-le)
      (λ q b. one-run l z sizes left (covered l z (gen_block sizes left) h) q)
      i k (le_refl (suc (owner i)))

  -- what is copied by the dealing is copied along the owners' places, for load and for save
  pub by-places : (b : Bool) (d : Dealing) (bytes : List ℕ) → Listed l (dealing_with d bytes) → (s to : List ℕ)
      → let place : ℕ → ℕ = storage_place (owner_for l (dealing_with d bytes)) l.size in
      copied_by b l d s to ≡ copied (λ i. from_place b i (place i)) (λ i. to_place b i (place i)) l.size s to
  unfolding owner_of
  by-places b (Cyclic k) bytes h s to =
      copied-same _ _ _ _ l.size s to (λ i k. ap (from_places b l) (zero-add i)) (λ i k. ap (to_places b l) (zero-add i))
  by-places b GenBlock bytes h s to = copied-same _ _ _ _ l.size s to (λ i k. from_at b i k) (λ i k. to_at b i k)
    where
      place : ℕ → ℕ
      place = storage_place (owner_for l (dealing_with GenBlock bytes)) l.size

      same : (i : ℕ) → i < l.size → 0 + i ≡ place i
      same i k = zero-add i ∙ sym (runs-in-order (sizes_of bytes) _ h i k)

      from_at : (b : Bool) (i : ℕ) → i < l.size → 0 + i ≡ from_place b i (place i)
      from_at true i k = zero-add i
      from_at false i k = same i k

      to_at : (b : Bool) (i : ℕ) → i < l.size → 0 + i ≡ to_place b i (place i)
      to_at true i k = same i k
      to_at false i k = zero-add i
