-- Demand 2 as a statement, a field for each sentence. The part about addresses is over any owner of indices.
use Rattle.std.specs.Prelude.{ℕ, ◌+◌, ◌/◌, ◌%◌, ◌≤◌, ◌<◌, ◌≡◌, ◌↔◌, Bool, true, List, ℤ, pos, negsuc, ◌+ℤ◌, ◌-ℤ◌, ◌*ℤ◌, length, get_or}
use Rattle.std.specs.Int.Signed.{le_z}
use Rattle.model.specs.Mappings.{Dealing, cyclic, gen_block, Mapping}
use Rattle.model.specs.declared.Triplet.{Triplet}
use Rattle.model.specs.Ownership.{nat, from_lower, declared_index, layout_of, run_start, run_sizes, owner, rank, elements_of, held, back_to}
use Rattle.model.specs.Sections.{count_of, element_at}
use Rattle.model.specs.Questions.{is_index}

-- "without a gap": each number from 0 to one below the processor's number of elements is the address of one of its elements,
-- and of no other
pub record NoGap (owner : ℕ → ℕ) (n q : ℕ) : Type 0 where
  pub below : (i : ℕ) → i < n → owner i ≡ q → rank owner i < held owner n q
  pub each : (x : ℕ) → x < held owner n q → (i : ℕ) × (i < n) × (owner i ≡ q) × (rank owner i ≡ x)
  pub once : (i j : ℕ) → owner i ≡ q → owner j ≡ q → rank owner i ≡ rank owner j → i ≡ j

-- the element that processor q and address x lead back to has that owner and that address
pub record LeadsBack (owner : ℕ → ℕ) (n q x i : ℕ) : Type 0 where
  pub inside : i < n
  pub processor : owner i ≡ q
  pub address : rank owner i ≡ x

-- n elements, each on one of p processors
pub record Addressed (owner : ℕ → ℕ) (p n : ℕ) : Type 0 where
  pub processor : (i : ℕ) → i < n → owner i < p
  -- "its local address is the number of lower-indexed elements of the array on that processor"
  pub address : (i : ℕ) → rank owner i ≡ length (elements_of owner i (owner i))
  -- "processor and address lead back to exactly that element"
  pub back : (i : ℕ) → i < n → back_to owner n (owner i) (rank owner i) ≡ i
  pub there : (q x : ℕ) → x < held owner n q → LeadsBack owner n q x (back_to owner n q x)
  pub no_gap : (q : ℕ) → NoGap owner n q

-- Fortran 95: going by s from l, has z not passed h?
abbrev pub not_past : ℤ → ℤ → ℤ → Bool
not_past (pos s) h z = le_z z h
not_past (negsuc s) h z = le_z h z

-- "a section has exactly the elements Fortran 95 gives it": l, l + s, l + 2·s and so on, as long as h is not passed
pub record Fortran95 (x : Triplet) : Type 0 where
  pub elements : (t : ℕ) → (t < count_of x) ↔ (not_past x.stride x.upper (element_at x t) ≡ true)

-- HPF 2.0's owner q of cell c, of p processors: floor(c / k) mod p; or, of GEN_BLOCK, the processor whose run, "from the sum of
-- the sizes before it to that sum plus its own size", has the cell
abbrev pub Hpf2 : Dealing → ℕ → ℕ → ℕ → Type 0
Hpf2 (cyclic k) p c q = q ≡ c / nat k % p
Hpf2 (gen_block sizes left) p c q =
    let runs : List ℕ = run_sizes sizes in
    (q < p) × (run_start runs q ≤ c) × (c < run_start runs q + get_or runs q 0)

-- the element of declared index j
pub record Element (m : Mapping) (j : ℤ) : Type 0 where
  pub cell : ℕ
  -- "declared index j sits on declared cell a·j + b", which is cell a·j + b − Lt of the template
  pub sits : pos cell ≡ m.stride *ℤ j +ℤ m.offset -ℤ m.origin
  pub below : cell < (layout_of m).cells
  -- "the owner of an element is HPF 2.0's"
  pub owned : Hpf2 m.dealing (layout_of m).processors cell (owner m (from_lower m j))
  -- of the n indices it is one, La the first of them
  pub index : from_lower m j < (layout_of m).size
  pub back : declared_index m (from_lower m j) ≡ j

-- Demand 2, of a mapping that passes its questions
pub record Demand2 (m : Mapping) : Type 0 where
  pub element : (j : ℤ) → is_index m j ≡ true → Element m j
  pub each-declared : (i : ℕ) → i < (layout_of m).size → is_index m (declared_index m i) ≡ true
  pub addresses : Addressed (owner m) (layout_of m).processors (layout_of m).size
