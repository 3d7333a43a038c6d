-- Byte fills leave the words of the fills that they stand for, and the bytes that are no entry as they were. Assumes nothing.
use Prim.Native.Nat.{ℕ, suc, ◌-◌, ◌*◌, ◌^◌, ◌≤◌, ◌<◌, zero-le}
use mathlib.Core.Path.{◌≡◌, refl, ap, ◌∙◌}
use mathlib.Core.Bool.{Bool, true, false, cond, ◌||◌}
use mathlib.Core.List.{List, [], ◌∷◌}
use native.Mathlib.Nat.{zero-add}
use native.Mathlib.Omega.{arith}
use lib.Dec.{ltb, eqb}
use lib.ListN.{length, take, drop, take-append-drop}
use lib.Seq.{length-take-le}
use borrow.Author.Tests.{eqb-false}
use Rattle.numbers.specs.Words.{words_of}
use Rattle.numbers.proofs.SearchLaws.{tally-le}
use Rattle.numbers.proofs.WordLaws.{words-length}
use Rattle.model.specs.Mappings.{Section}
use Rattle.model.specs.Ownership.{nat, owns, rank, owner}
use Rattle.model.specs.Sections.{count, index, address, owns_at}
use Rattle.model.specs.Steps.{next_place}
use Rattle.model.specs.Filling.{Walk, Filled, stopped, wrote, fill_by, Outcome}
use Rattle.model.specs.Questions.{Question, first_no, of_section}
use Rattle.model.specs.Axes.{Axis, axis_of, owns_on, walk_on}
use Rattle.model.specs.Calls.{FillCall, walk_of, fill}
use Rattle.model.specs.ByteFills.{ByteFill, in_words, store_entries, bytes_by, outcome_by, bytes_after, outcome_of}
use Rattle.model.specs.Demand1.{Answers}
use Rattle.model.proofs.AcceptedLaws.{accepted}
use Rattle.model.proofs.FillCalls.{fill-cases}
use Rattle.model.proofs.SectionLaws.{index-lt}
use Rattle.model.proofs.AxisLaws.{WalksOn}
use Rattle.model.proofs.RowLaws.{next-least, next-within}
use Rattle.model.proofs.Walking.{walks-on}
use Rattle.model.proofs.ByteStores.{AllFit, stores-rest, stores_words}

-- ---- what a fill leaves in its list

-- entries after those written stay; those written are addresses of 4 bytes
pub record Written (l : List ℕ) (f : Filled) : Type 0 where
  pub inside : f.entries ≤ length l
  pub long : length f.list ≡ length l
  pub rest : drop f.entries f.list ≡ drop f.entries l
  pub fit : AllFit (take f.entries f.list)

written-number : {l : List ℕ} {f : Filled} → Written l f → length (take f.entries f.list) ≡ f.entries
written-number {l} {f} w = length-take-le f.entries f.list (omega (arith, w.inside, w.long))

pub stopped-written : (t : ℕ) (l : List ℕ) → Written l (stopped t l)
stopped-written t l = record { inside = zero-le; long = refl; rest = refl; fit = tt }

unwritten : (l : List ℕ) (f : Filled) → f.entries ≡ 0 → f.list ≡ l → Written l f
unwritten l f e d = record { inside = omega arith; long = ap length d; rest = ap (drop f.entries) d; fit = rw e tt }

module _ (w : Walk) (low : (t : ℕ) → t < w.count → w.address t < 256 ^ 4) (on : (t : ℕ) → t < w.count → w.next t ≤ w.count) where
  pub fill-written : (t quota : ℕ) (l : List ℕ) → t ≤ w.count → Written l (fill_by w t quota l)
  unfolding fill_by
  fill-written t quota [] h = stopped-written t []
  fill-written t quota (x ∷ xs) h =
      go (fill_by w (w.next t) (quota - w.cost t) xs) (λ k. fill-written (w.next t) (quota - w.cost t) xs (on t k)) (eqb t w.count) refl (ltb quota w.least)
    where
      go : (r : Filled) → (t < w.count → Written xs r) → (b : Bool) → eqb t w.count ≡ b → (c : Bool)
          → Written (x ∷ xs) (cond (b || c) (stopped t (x ∷ xs)) (wrote (w.address t) (w.cost t) r))
      go r ih true e c = stopped-written t (x ∷ xs)
      go r ih false e true = stopped-written t (x ∷ xs)
      go r ih false e false =
          let k : t < w.count = omega (arith, eqb-false t w.count e) in
          let v = ih k in
          record { inside = omega (arith, v.inside); long = ap suc v.long; rest = v.rest; fit = (low t k, v.fit) }

-- the words of the bytes with what a fill of them wrote stored are the list that it leaves
pub stored-words : (bs : List ℕ) (f : Filled) → Written (words_of 4 bs) f → words_of 4 (store_entries bs 0 (take f.entries f.list)) ≡ f.list
stored-words bs f w =
    let number : length (take f.entries f.list) ≡ f.entries = written-number w in
    stores_words bs 0 (take f.entries f.list) (omega (arith, number, w.inside, words-length 4 bs)) w.fit
    ∙ rw (number, zero-add, ← w.rest) (take-append-drop f.entries f.list)

-- ---- a fill of a section of any rank

-- an address is no larger than its element's number, whoever the owner
rank-le : (o : ℕ → ℕ) (i : ℕ) → rank o i ≤ i
unfolding rank
rank-le o i = tally-le (owns o (o i)) i

pub written_on : (a : Axis) → WalksOn a → ((t : ℕ) → t < a.count → a.element t < 256 ^ 4)
    → (t quota : ℕ) (l : List ℕ) → t ≤ a.count → Written l (fill_by (walk_on a) t quota l)
written_on a walk low =
    fill-written (walk_on a) (λ t h. omega (arith, rank-le a.array.owner (a.element t), low t h)) (next-within a walk)

-- ---- a section's fill

module _ (x : Section) (ok : first_no (of_section x) ≡ 0) (t : ℕ) (h : t < count x) where
  index-low : index x t < 2147483648
  index-low = omega (arith, index-lt x ok t h, (accepted x ok).sized.size-high)

  pub rank-low : (o : ℕ → ℕ) → rank o (index x t) < 2147483648
  rank-low o = omega (arith, rank-le o (index x t), index-low)

  pub address-low : address x t < 2147483648
  unfolding address
  address-low = rank-low (owner x.mapping)

  pub next_le : next_place x t ≤ count x
  next_le = next-within (axis_of x) (walks-on x ok) t h

  -- the place after one of processor q is the count or the next one of q
  pub next-owned : (q : ℕ) → owns_at x q t ≡ true → next_place x t < count x → owns_at x q (next_place x t) ≡ true
  unfolding owns_at owns_on
  next-owned q mine = (next-least (axis_of x) (walks-on x ok) q t h mine).passes

pub fill-leaves : (c : FillCall) → Written c.list (fill c).filled
unfolding walk_of address
fill-leaves c =
    fill-cases c (Written c.list)
    (λ y.
    written_on (axis_of c.section) (walks-on c.section y.section) (λ t h. omega (arith, index-low c.section y.section t h))
    (nat c.place) (nat c.quota) c.list y.place)
    (λ f z. unwritten c.list f z.0.0 z.1)

-- ---- a byte fill

-- bytes after the entries written stay, those that are no entry among them
pub stays_after : (bs : List ℕ) (f : Filled) → Written (words_of 4 bs) f
    → (m : ℕ) → 4 * f.entries ≤ m → drop m (bytes_by bs f) ≡ drop m bs
stays_after bs f w m h = stores-rest bs 0 _ m (omega (arith, written-number w))

-- what it returns is what the fill of its words does
pub outcome-by : (bs : List ℕ) (o : Outcome) → Written (words_of 4 bs) o.filled → outcome_by bs o ≡ o
outcome-by bs o w = rw (stored-words bs o.filled w)

-- a refused fill stores nothing
pub byte-answers : (Full Nothing : Filled → Type 0) (bs : List ℕ) (o : Outcome) (qs : List Question)
    → Written (words_of 4 bs) o.filled → ((f : Filled) → Nothing f → f.entries ≡ 0)
    → Answers o (λ a. a.refusal) qs (λ a. Full a.filled) (λ a. Nothing a.filled)
    → Answers (outcome_by bs o) (λ a. a.refusal) qs
    (λ a. Full a.filled × (bytes_by bs o.filled ≡ store_entries bs 0 (take a.filled.entries a.filled.list)))
    (λ a. Nothing a.filled × (bytes_by bs o.filled ≡ bs))
unfolding store_entries
byte-answers Full Nothing bs o qs w none a =
    rw (outcome-by bs o w)
    (record {
      first = a.first;
      every = a.every;
      accepted = λ e. (a.accepted e, refl);
      refused = λ g. let n = a.refused g in (n, rw (none o.filled n));
    })

module _ (c : ByteFill) where
  pub words_left : Written (words_of 4 c.bytes) (fill (in_words c)).filled
  unfolding in_words
  words_left = fill-leaves (in_words c)

  pub bytes-stay : (m : ℕ) → 4 * (outcome_of c).filled.entries ≤ m → drop m (bytes_after c) ≡ drop m c.bytes
  unfolding bytes_after outcome_of
  bytes-stay = stays_after c.bytes (fill (in_words c)).filled words_left

  -- the words of the bytes afterwards are the list that the fill leaves
  pub words-after : words_of 4 (bytes_after c) ≡ (fill (in_words c)).filled.list
  unfolding bytes_after
  words-after = stored-words c.bytes (fill (in_words c)).filled words_left

  pub outcome-is : outcome_of c ≡ fill (in_words c)
  unfolding outcome_of
  outcome-is = outcome-by c.bytes (fill (in_words c)) words_left
