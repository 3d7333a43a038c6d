-- The fields of what each C function returns, as the paper's numbers. Definitions only.
use Rattle.std.specs.Prelude.{ℕ, ◌≡◌, cond, List, eqb, ℤ, nat_abs}
use Rattle.model.specs.declared.Dealing as dealings
use Rattle.model.specs.declared.Dealing.TheVariants.{Cyclic, GenBlock}
use Rattle.model.specs.declared.Mapping as mappings
use Rattle.model.specs.Mappings.{Dealing, Section, dealing_with}
use Rattle.model.specs.Sections.{triplet_of}
use Rattle.model.specs.Calls.{OwnershipAnswer, GoingBackAnswer, LocalCountAnswer, SectionStepsAnswer, PlaceAnswer, fill}
use Rattle.model.specs.ByteFills.{ByteFill, in_words, bytes_after}
use Rattle.model.specs.Transfers.{Lists, TransferCall, TransferAnswer, transfers, lists_after}
use Rattle.model.specs.Checkpoints.{CopyCall, CopyAnswer, copying, saved, loaded}
use Rattle.mapping.specs.Answers.{mapping_of}
use Rattle.fill.specs.Answers.{FillReport, report_of}
use Rattle.hpfaddr.specs.declared.HpfOwned.{HpfOwned}
use Rattle.hpfaddr.specs.declared.HpfFound.{HpfFound}
use Rattle.hpfaddr.specs.declared.HpfCounted.{HpfCounted}
use Rattle.hpfaddr.specs.declared.sections.HpfSteps.{HpfSteps}
use Rattle.hpfaddr.specs.declared.sections.HpfPlaced.{HpfPlaced}
use Rattle.hpfaddr.specs.declared.sections.HpfFilled.{HpfFilled}
use Rattle.hpfaddr.specs.declared.assignment.HpfTransferred.{HpfTransferred}
use Rattle.hpfaddr.specs.declared.checkpoints.HpfCopied.{HpfCopied}

abbrev pub owned_fields : HpfOwned → OwnershipAnswer
owned_fields r = record { refusal = r.refusal; processor = r.processor; address = r.address }

abbrev pub found_fields : HpfFound → GoingBackAnswer
found_fields r = record { refusal = r.refusal; index = r.index }

abbrev pub counted_fields : HpfCounted → LocalCountAnswer
counted_fields r = record { refusal = r.refusal; elements = r.elements }

-- the numbers of a mapping, as the Rattle calls take them
abbrev pub numbers_of : ℤ → ℤ → dealings.Dealing → ℤ → ℤ → ℤ → ℤ → ℤ → mappings.Mapping
numbers_of t p d a b n lower origin =
    record { cells = t; processors = p; dealing = d; stride = a; offset = b; size = n; lower = lower; origin = origin }

-- GEN_BLOCK by a list of sizes, as bytes
abbrev pub by_sizes : List ℕ → Dealing
by_sizes bytes = dealing_with GenBlock bytes

-- the dealing that a number says, of which the block or the list is looked at: "0 cyclic, any other GEN_BLOCK"
abbrev pub dealing_from : ℤ → ℤ → dealings.Dealing
dealing_from d k = cond (eqb (nat_abs d) 0) (Cyclic k) GenBlock

abbrev pub by_number : ℤ → ℤ → List ℕ → Dealing
by_number d k bytes = dealing_with (dealing_from d k) bytes

-- the section that a mapping's numbers and its dealing make, and l h s
abbrev pub section_from : ℤ → ℤ → Dealing → ℤ → ℤ → ℤ → ℤ → ℤ → ℤ → ℤ → ℤ → Section
section_from t p d a b n lower origin l h s = record { mapping = mapping_of t p d a b n lower origin; triplet = triplet_of l h s }

abbrev pub steps_fields : HpfSteps → SectionStepsAnswer
steps_fields r = record {
  refusal = r.refusal;
  count = r.count;
  steps = r.steps;
  first = record { cells = r.cells; courses = r.courses; column = r.column };
  second = record { cells = r.return_cells; courses = r.return_courses; column = r.return_column };
}

abbrev pub placed_fields : HpfPlaced → PlaceAnswer
placed_fields r = record { refusal = r.refusal; place = r.place }

abbrev pub filled_fields : HpfFilled → FillReport
filled_fields r = record { refusal = r.refusal; entries = r.entries; tries = r.tries; place = r.place }

-- a fill of a list of bytes
abbrev pub fill_of : Section → ℤ → ℤ → ℤ → List ℕ → ByteFill
fill_of x q t z bs = record { section = x; processor = q; place = t; quota = z; bytes = bs }

-- it returns what the fill of the words that its bytes are reports, and leaves the bytes that the definition says
abbrev pub FilledFields : ByteFill → List ℕ → HpfFilled → Type 0
FilledFields c after r = (filled_fields r ≡ report_of (fill (in_words c))) × (after ≡ bytes_after c)

abbrev pub transferred_fields : HpfTransferred → TransferAnswer
transferred_fields r = record { refusal = r.refusal; entries = r.entries; needed = r.needed }

-- a transfer returns what the definition says, and leaves the lists that it says
abbrev pub TransferredFields : TransferCall → Lists → HpfTransferred → Type 0
TransferredFields c after r = (transferred_fields r ≡ transfers c) × (after ≡ lists_after c)

abbrev pub copied_fields : HpfCopied → CopyAnswer
copied_fields r = record { refusal = r.refusal; needed = r.needed }

-- a checkpoint and a restore return what the definition says, leave the list that was read, and write the words that it says
abbrev pub CheckpointFields : CopyCall → List ℕ → List ℕ → HpfCopied → Type 0
CheckpointFields c read written r = (copied_fields r ≡ copying c) × (read ≡ c.read) × (written ≡ saved c)

abbrev pub RestoreFields : CopyCall → List ℕ → List ℕ → HpfCopied → Type 0
RestoreFields c read written r = (copied_fields r ≡ copying c) × (read ≡ c.read) × (written ≡ loaded c)
