-- The mapping, the section, the fill, the transfer and the copy that a C function's numbers make, read off the parameters.
use Prim.Native.Nat.{ℕ}
use mathlib.Core.Path.{◌≡◌, ap, ◌∙◌}
use mathlib.Core.List.{List}
use lib.IntN.{ℤ}
use mir.Syntax.{w64}
use mir.Val.{SFits}
use mir.ValLaws.{to_z-of_z}
use Rattle.numbers.proofs.Signed.{back}
use Rattle.model.specs.declared.Dealing as dealings
use Rattle.model.specs.declared.Dealing.TheVariants.{Cyclic}
use Rattle.model.specs.declared.Mapping as mappings
use Rattle.model.specs.declared.Section as sections
use Rattle.model.specs.Mappings.{Dealing, cyclic, Mapping, Section, dealing_with, mapping_with, section_with}
use Rattle.model.specs.Sections.{triplet_of}
use Rattle.model.specs.Transfers.{Lists}
use Rattle.mapping.specs.Answers.{mapping_of}
use Rattle.transfer.specs.Answers.{call_of}
use Rattle.hpfaddr.specs.Fields.{numbers_of, dealing_from, by_number, fill_of}

-- a mapping made of the numbers as the machine reads them back, with its list
pub mapping-read : (t p a b n j o : ℤ) → SFits w64 t → SFits w64 p → SFits w64 a → SFits w64 b → SFits w64 n → SFits w64 j → SFits w64 o
    → {d : dealings.Dealing} {m : mappings.Mapping} {z : Dealing} (bytes : List ℕ) → dealing_with d bytes ≡ z
    → m ≡ numbers_of (back w64 t) (back w64 p) d (back w64 a) (back w64 b) (back w64 n) (back w64 j) (back w64 o)
    → mapping_with m bytes ≡ mapping_of t p z a b n j o
mapping-read t p a b n j o ft fp fa fb fn fj fo bytes f e =
    ap (λ (m : mappings.Mapping). mapping_with m bytes) e
    ∙ (λ i. mapping_of (to_z-of_z w64 t ft i) (to_z-of_z w64 p fp i) (f i) (to_z-of_z w64 a fa i) (to_z-of_z w64 b fb i) (to_z-of_z w64 n fn i) (to_z-of_z w64 j fj i) (to_z-of_z w64 o fo i))

-- a section of such a mapping
pub section-read : {m : mappings.Mapping} {x : sections.Section} {z : Mapping} (bytes : List ℕ) (l h s : ℤ) → SFits w64 l → SFits w64 h → SFits w64 s
    → mapping_with m bytes ≡ z → x ≡ record { mapping = m; triplet = triplet_of (back w64 l) (back w64 h) (back w64 s) }
    → section_with x bytes ≡ record { mapping = z; triplet = triplet_of l h s }
section-read bytes l h s fl fh fs e f =
    ap (λ (x : sections.Section). section_with x bytes) f
    ∙ (λ i. record { mapping = e i; triplet = triplet_of (to_z-of_z w64 l fl i) (to_z-of_z w64 h fh i) (to_z-of_z w64 s fs i) })

-- the block of a cyclic template
pub cyclic-read : (k : ℤ) → SFits w64 k → (bytes : List ℕ) → dealing_with (Cyclic (back w64 k)) bytes ≡ cyclic k
cyclic-read k fk bytes = ap cyclic (to_z-of_z w64 k fk)

-- the dealing that a number says
pub number_read : (d k : ℤ) → SFits w64 d → SFits w64 k → {e : dealings.Dealing} → e ≡ dealing_from (back w64 d) (back w64 k)
    → (bytes : List ℕ) → dealing_with e bytes ≡ by_number d k bytes
number_read d k fd fk f bytes =
    ap (λ (e : dealings.Dealing). dealing_with e bytes) f
    ∙ (λ i. by_number (to_z-of_z w64 d fd i) (to_z-of_z w64 k fk i) bytes)

-- a fill of a section, with its own numbers
pub fill-read : {x y : Section} (q t z : ℤ) → SFits w64 q → SFits w64 t → SFits w64 z → y ≡ x → (bs : List ℕ)
    → fill_of y (back w64 q) (back w64 t) (back w64 z) bs ≡ fill_of x q t z bs
fill-read q t z fq ft fz e bs =
    λ i. fill_of (e i) (to_z-of_z w64 q fq i) (to_z-of_z w64 t ft i) (to_z-of_z w64 z fz i) bs

-- a transfer of two sections, with its own numbers
pub call-read : {x y x' y' : Section} (q m : ℤ) → SFits w64 q → SFits w64 m → x' ≡ x → y' ≡ y → (l : Lists)
    → call_of x' y' (back w64 q) (back w64 m) l ≡ call_of x y q m l
call-read q m fq fm e d l = λ i. call_of (e i) (d i) (to_z-of_z w64 q fq i) (to_z-of_z w64 m fm i) l
