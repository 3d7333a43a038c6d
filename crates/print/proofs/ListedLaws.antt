-- An accepted section of a sheet is cyclic: an accepted GEN_BLOCK template has a list of sizes, and beside a sheet's section
-- stands none.
use Prim.Native.Nat.{ℕ}
use mathlib.Core.Path.{◌≡◌, refl, sym, ap, ◌∙◌}
use mathlib.Core.List.{[]}
use native.Mathlib.Omega.{arith}
use lib.ListN.{length}
use Rattle.numbers.specs.Words.{words_in, words_of}
use Rattle.model.specs.declared.Dealing.{Dealing}
use Rattle.model.specs.declared.Dealing.TheVariants.{Cyclic, GenBlock}
use Rattle.model.specs.Mappings.{Section, sizes_of, dealing_with}
use Rattle.model.specs.Ownership.{run_sizes}
use Rattle.model.specs.Sections.{layout}
use Rattle.model.proofs.AcceptedLaws.{accepted, mapping-yes, runs-in}
use Rattle.model.proofs.Demand2Holds.{runs_fit}
use Rattle.mapping.specs.declared.parts.Part.{Part}
use Rattle.mapping.specs.declared.parts.Part.TheVariants.{Blocks}
use Rattle.mapping.specs.Parts.{part_in}
use Rattle.section.specs.declared.questions.Strided.{Strided}
use Rattle.section.specs.declared.shares.Extent.TheVariants as extent
use Rattle.section.specs.Strides.{strided_of}
use Rattle.section.specs.Shares.{share_in, share_of}
use Rattle.print.specs.declared.fills.Listed.{Listed}
use Rattle.print.specs.Ahead.{listed, Fair}

no-runs : length (run_sizes (sizes_of [])) ≡ 0
unfolding sizes_of words_of words_in
no-runs = refl

module _ (y : Listed) (f : Fair y) (q : ℕ) where
  abbrev x : Section
  x = listed y

  cyclic-part : part_in x.mapping.dealing q ≡ Blocks
  unfolding layout
  cyclic-part = go y.section.mapping.dealing refl
    where
      go : (d : Dealing) → y.section.mapping.dealing ≡ d → part_in (dealing_with d []) q ≡ Blocks
      go (Cyclic k) e = refl
      go GenBlock e =
          let fit = runs-in x.mapping (mapping-yes x f.accepted) (ap (λ (d : Dealing). dealing_with d []) e) in
          absurd (omega (arith, (runs_fit x.mapping _ _ fit).0, no-runs, (accepted x f.accepted).sized.processors-pos))

  -- a processor's share
  pub in_blocks : record { section = y.strided; processor = q; extent = extent.Blocks } ≡ share_of x q
  in_blocks = ap (λ (w : Strided). share_in w q Blocks) f.same ∙ ap (λ (p : Part). share_in (strided_of x) q p) (sym cyclic-part)
