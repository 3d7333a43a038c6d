-- Document 02, A1, as a law of every answer: a mapping with declared bounds answers as the one with bounds 0 whose elements sit
-- on the same cells, indices shifted by La. Statements only.
use Rattle.std.specs.Prelude.{◌≤◌, ◌≡◌, true, cond, eqb, ℤ, pos, ◌+ℤ◌, ◌-ℤ◌}
use Rattle.model.specs.Mappings.{Mapping, Section}
use Rattle.model.specs.Ownership.{cell_under, layout_of}
use Rattle.model.specs.Questions.{in_range, Passes}
use Rattle.model.specs.Calls.{ownership, GoingBackAnswer, going_back, local_count, section_steps, first_place_at, FillCall, fill}
use Rattle.model.specs.ByteFills.{ByteFill, bytes_after, outcome_of}
use Rattle.model.specs.Transfers.{TransferCall, transfers, lists_after}
use Rattle.model.specs.Checkpoints.{CopyCall, copy_of, copying, saved, loaded}

-- bounds 0, and as offset the first element's cell, a·La + b − Lt
abbrev pub from_zero : Mapping → Mapping
from_zero m = record {
  cells = m.cells;
  processors = m.processors;
  dealing = m.dealing;
  stride = m.stride;
  offset = cell_under m m.lower;
  size = m.size;
  lower = pos 0;
  origin = pos 0;
}

-- its section (l − La):(h − La):s
abbrev pub section_from_zero : Section → Section
section_from_zero x = record {
  mapping = from_zero x.mapping;
  triplet = record {
    lower = x.triplet.lower -ℤ x.mapping.lower;
    upper = x.triplet.upper -ℤ x.mapping.lower;
    stride = x.triplet.stride;
  };
}

abbrev pub fill_from_zero : FillCall → FillCall
fill_from_zero c = record {
  section = section_from_zero c.section;
  processor = c.processor;
  place = c.place;
  quota = c.quota;
  list = c.list;
}

abbrev pub byte_fill_from_zero : ByteFill → ByteFill
byte_fill_from_zero c = record {
  section = section_from_zero c.section;
  processor = c.processor;
  place = c.place;
  quota = c.quota;
  bytes = c.bytes;
}

abbrev pub transfer_from_zero : TransferCall → TransferCall
transfer_from_zero c = record {
  left = section_from_zero c.left;
  right = section_from_zero c.right;
  sender = c.sender;
  receiver = c.receiver;
  lists = c.lists;
}

abbrev pub copy_from_zero : CopyCall → CopyCall
copy_from_zero c = copy_of (from_zero c.mapping) c.read c.written

-- an index found, shifted by La; a refusal has none
abbrev pub shifted_by : ℤ → GoingBackAnswer → GoingBackAnswer
shifted_by lower r = record { refusal = r.refusal; index = cond (eqb r.refusal 0) (lower +ℤ r.index) (pos 0) }

-- both mappings pass their questions. With elements the second follows from the first; without, its offset may be out of range.
abbrev pub BothPass : Mapping → Type 0
BothPass m = Passes m × Passes (from_zero m)

-- and both triplets pass question 6: h is no element, so h − La may be out of range
abbrev pub BothIn : Section → Type 0
BothIn x = BothPass x.mapping × (in_range x.triplet ≡ true) × (in_range (section_from_zero x).triplet ≡ true)

pub record Shifted : Type 0 where
  pub passes : (m : Mapping) → Passes m → 1 ≤ (layout_of m).size → Passes (from_zero m)
  pub of-ownership : (m : Mapping) → BothPass m → (j : ℤ) → ownership m j ≡ ownership (from_zero m) (j -ℤ m.lower)
  pub of-going-back : (m : Mapping) → BothPass m → (q x : ℤ) → going_back m q x ≡ shifted_by m.lower (going_back (from_zero m) q x)
  pub of-local-count : (m : Mapping) → BothPass m → (q : ℤ) → local_count m q ≡ local_count (from_zero m) q
  pub of-section-steps : (x : Section) → BothIn x → section_steps x ≡ section_steps (section_from_zero x)
  pub of-first-place : (x : Section) → BothIn x → (q : ℤ) → first_place_at x q ≡ first_place_at (section_from_zero x) q
  pub of-fill : (c : FillCall) → BothIn c.section → fill c ≡ fill (fill_from_zero c)
  pub of-byte-fill : (c : ByteFill) → BothIn c.section
      → (outcome_of c ≡ outcome_of (byte_fill_from_zero c)) × (bytes_after c ≡ bytes_after (byte_fill_from_zero c))
  pub of-transfers : (c : TransferCall) → BothIn c.left → BothIn c.right
      → (transfers c ≡ transfers (transfer_from_zero c)) × (lists_after c ≡ lists_after (transfer_from_zero c))
  pub of-save : (c : CopyCall) → BothPass c.mapping
      → (copying c ≡ copying (copy_from_zero c)) × (saved c ≡ saved (copy_from_zero c))
  pub of-load : (c : CopyCall) → BothPass c.mapping
      → (copying c ≡ copying (copy_from_zero c)) × (loaded c ≡ loaded (copy_from_zero c))
