-- Copies of runs, one after the other. Assumes nothing.
use Prim.Native.Nat.{ℕ, ◌+◌, ◌-◌, ◌≤◌, ◌<◌, min}
use mathlib.Core.Path.{◌≡◌, refl, sym, ap, ◌∙◌}
use mathlib.Core.Bool.{Bool, true, false}
use mathlib.Core.List.{List}
use mathlib.Core.Logic.{◌⊎◌, inl, inr}
use native.Mathlib.Omega.{arith}
use lib.Dec.{eqb, ltb}
use borrow.Author.Tests.{eqb-true}
use lib.ListN.{length, get_or, set, length-set}
use Rattle.std.proofs.lemmas.Bool.{cases_lt}
use Rattle.model.specs.declared.Layout.{Layout}
use Rattle.model.specs.Ownership.{owner_of}
use Rattle.model.specs.Storages.{storage_place}
use Rattle.model.proofs.CellOwners.{cyclic-owner-lt}
use Rattle.model.proofs.CopyLaws.{copied-length, copied-joins, copied-same}
use Rattle.model.proofs.StorageLaws.{place-below}
use Rattle.storage.specs.declared.runs.Pace.{Pace}
use Rattle.storage.specs.declared.runs.Run.{Run}
use Rattle.storage.specs.Pacing.{length_at, next_run, Within, Stands}
use Rattle.storage.specs.Copying.{pointer, Points, copied_run, taken_of, from_place, to_place, from_places, to_places, copied_on, Ready, Takes}
use Rattle.storage.proofs.PaceLaws.{run-owner, next-stands, within}
use Rattle.storage.proofs.RowLaws.{run-place, points_on}

-- ---- words

module _ (b : Bool) (l : Layout) where
  -- the words of a run, at consecutive places of the storage
  run-words : (i at len : ℕ) (s to : List ℕ) → ((j : ℕ) → j < len → storage_place (owner_of l) l.size (i + j) ≡ at + j)
      → copied_run (from_place b i at) (to_place b i at) len s to ≡ copied_on b l i len s to
  run-words i at len s to h = copied-same _ _ _ _ len s to (λ j k. from_at b j k) (λ j k. to_at b j k)
    where
      from_at : (b : Bool) (j : ℕ) → j < len → from_place b i at + j ≡ from_places b l (i + j)
      from_at true j k = refl
      from_at false j k = sym (h j k)

      to_at : (b : Bool) (j : ℕ) → j < len → to_place b i at + j ≡ to_places b l (i + j)
      to_at true j k = sym (h j k)
      to_at false j k = refl

  -- the words up to index m, and those from there up to e
  pub words-join : (i m e : ℕ) (s to : List ℕ) → i ≤ m → m ≤ e
      → copied_on b l m (e - m) s (copied_on b l i (m - i) s to) ≡ copied_on b l i (e - i) s to
  words-join i m e s to h k =
      let split : m - i + (e - m) ≡ e - i = omega arith in
      let shift : (j : ℕ) → m + j ≡ i + (m - i + j) = λ j. omega arith in
      copied-same _ _ _ _ (e - m) s (copied_on b l i (m - i) s to) (λ j q. ap (from_places b l) (shift j)) (λ j q. ap (to_places b l) (shift j))
      ∙ sym (copied-joins (λ j. from_places b l (i + j)) (λ j. to_places b l (i + j)) (m - i) (e - m) s to)
      ∙ ap (λ (x : ℕ). copied_on b l i x s to) split

-- ---- runs

-- where the longest run has one element, all have
lone-length : (p : Pace) → 0 < p.few → p.few ≤ p.many → p.many ≡ 1 → (before len c : ℕ) → before + len ≡ length_at p c → 0 < len → len ≡ 1
lone-length p pos le one before len c e some = go (ltb c p.limit) refl
  where
    go : (b : Bool) → ltb c p.limit ≡ b → len ≡ 1
    go true k = let e' : before + len ≡ p.many = rw k at e in omega arith
    go false k = let e' : before + len ≡ p.few = rw k at e in omega arith

next-index : (p : Pace) (r : Run) (taken : ℕ) → (next_run p r taken).index.0 ≡ r.index.0 + taken
next-index p r taken = go (ltb r.column p.limit) refl
  where
    go : (b : Bool) → ltb r.column p.limit ≡ b → (next_run p r taken).index.0 ≡ r.index.0 + taken
    go true e = rw e
    go false e = rw e

-- so many elements of a run: all of them, or those up to the array's end
pub record Cut (n : ℕ) (r : Run) (len : ℕ) : Type 0 where
  pub some : 0 < len
  pub within : len ≤ r.length
  pub below : r.index.0 + len ≤ n
  pub all : (len ≡ r.length) ⊎ (r.index.0 + len ≡ n)

module _ {l : Layout} {p : Pace} {r : Run} {row s to : List ℕ} (h : Ready l p r row s to) where
  -- what is taken of the run
  pub taken-cut : (longest : ℕ) → (longest ≡ 1 → p.many ≡ 1) → Cut l.size r (taken_of longest l r)
  taken-cut longest one = go (eqb longest 1) refl
    where
      shorter : (r.length < l.size - r.index.0) ⊎ (l.size - r.index.0 ≤ r.length)
          → (min r.length (l.size - r.index.0) ≡ r.length) ⊎ (r.index.0 + min r.length (l.size - r.index.0) ≡ l.size)
      shorter (inl k) = inl (omega arith)
      shorter (inr k) = inr (omega (arith, h.index))

      go : (b : Bool) → eqb longest 1 ≡ b → Cut l.size r (taken_of longest l r)
      go true e =
          let many = one (eqb-true longest 1 e) in
          let lone : r.length ≡ 1 =
          lone-length p h.paced.few-pos h.paced.few-le many h.stands.before r.length r.column h.stands.length h.stands.some in
          rw e (record { some = omega arith; within = omega arith; below = omega (arith, h.index); all = inl (sym lone) })
      go false e =
          rw e
          (record {
            some = omega (arith, h.index, h.stands.some);
            within = omega arith;
            below = omega (arith, h.index);
            all = shorter (cases_lt r.length (l.size - r.index.0));
          })

  -- where the run's words lie in the storage: what the row has
  abbrev pub at : ℕ
  at = get_or row r.processor 0

  module _ {len : ℕ} (cut : Cut l.size r len) where
    owned : (j : ℕ) → j < len → owner_of l (r.index.0 + j) ≡ r.processor
    owned j k = run-owner l h.sized p h.paced r h.stands h.processor j (omega (arith, cut.within))

    place : (j : ℕ) → j < len → storage_place (owner_of l) l.size (r.index.0 + j) ≡ at + j
    place j k =
        run-place (owner_of l) l.size r.processor r.index.0 len owned j k
        ∙ ap (λ (x : ℕ). x + j) (sym (h.pointers r.processor h.processor))

    -- they end in the storage
    pub at_room : at + len ≤ l.size
    at_room =
        let last : ℕ = len - 1 in
        let low = place-below (owner_of l) l.processors l.size (λ i k. cyclic-owner-lt l h.sized.processors-pos i) (r.index.0 + last) (omega (arith, cut.some, cut.below)) in
        omega (arith, low, place last (omega (arith, cut.some)), cut.some)

    -- so there is room in both lists
    pub read-room : (b : Bool) → from_place b r.index.0 at + len ≤ length s
    read-room true = omega (arith, cut.below, h.read)
    read-room false = omega (arith, at_room, h.read)

    pub write-room : (b : Bool) → to_place b r.index.0 at + len ≤ length to
    write-room true = omega (arith, at_room, h.written)
    write-room false = omega (arith, cut.below, h.written)

    pub takes : (b : Bool) (row' to' : List ℕ) → row' ≡ set row r.processor (at + len)
        → to' ≡ copied_run (from_place b r.index.0 at) (to_place b r.index.0 at) len s to
        → Takes b l p r (next_run p r len) s row to row' to'
    takes b row' to' e f = record {
      later = rw (next-index p r len) (omega (arith, cut.some));
      reached = rw (next-index p r len) cut.below;
      stands = λ k. go cut.all (rw (next-index p r len) at k);
      pointers = rw (next-index p r len, e, h.pointers r.processor h.processor) moved;
      row-length = ap length e ∙ length-set row r.processor (at + len);
      words = f ∙ run-words b l r.index.0 at len s to place ∙ ap (λ (x : ℕ). copied_on b l r.index.0 x s to) next-length;
    }
      where
        moved : Points (owner_of l) l.size l.processors (r.index.0 + len)
            (set row r.processor (pointer (owner_of l) l.size r.index.0 r.processor + len))
        moved =
            points_on (owner_of l) l.size r.processor r.index.0 len owned l.processors row h.pointers h.processor h.row_room

        next-length : len ≡ (next_run p r len).index.0 - r.index.0
        next-length = rw (next-index p r len) (omega arith)

        go : (len ≡ r.length) ⊎ (r.index.0 + len ≡ l.size) → r.index.0 + len < l.size → Stands l p (next_run p r len)
        go (inl all) k = rw all (next-stands l h.sized p h.paced r h.stands h.processor)
        go (inr end) k = absurd (omega arith)

    pub next-within : Within p r len
    next-within = within l h.sized p h.paced r h.stands h.processor len (omega (arith, cut.below, h.sized.size-high))

-- from run to run
pub takes-join : {b : Bool} {l : Layout} {p : Pace} {start r e : Run} {s row to row' to' row'' to'' : List ℕ}
    → Takes b l p start r s row to row' to' → Takes b l p r e s row' to' row'' to'' → Takes b l p start e s row to row'' to''
takes-join {b} {l} {p} {start} {r} {e} {s} {row} {to} x y = record {
  later = omega (arith, x.later, y.later);
  reached = y.reached;
  stands = y.stands;
  pointers = y.pointers;
  row-length = y.row-length ∙ x.row-length;
  words =
      y.words
      ∙ ap (copied_on b l r.index.0 (e.index.0 - r.index.0) s) x.words
      ∙ words-join b l start.index.0 r.index.0 e.index.0 s to (omega (arith, x.later)) (omega (arith, y.later));
}

module _ {b : Bool} {l : Layout} {p : Pace} {start r : Run} {s row to row' to' : List ℕ} (h : Ready l p start row s to)
    (t : Takes b l p start r s row to row' to') where
  pub taken-length : length to' ≡ length to
  taken-length = ap length t.words ∙ copied-length _ _ (r.index.0 - start.index.0) s to

  pub ready_on : (w : Run) → w.index.0 ≡ r.index.0 → r.index.0 < l.size → Stands l p w → w.processor < l.processors → Ready l p w row' s to'
  ready_on w same below stands here = record {
    sized = h.sized;
    paced = h.paced;
    index = rw same below;
    stands = stands;
    processor = here;
    pointers = rw same t.pointers;
    row_room = omega (arith, h.row_room, t.row-length);
    read = h.read;
    written = omega (arith, h.written, taken-length);
  }

-- ---- laps

-- nothing was done yet, or some runs were taken
abbrev pub Goes : Bool → Layout → Pace → Run → Run → List ℕ → List ℕ → List ℕ → List ℕ → List ℕ → Type 0
Goes b l p start r s row to row' to' = ((r ≡ start) × (row' ≡ row) × (to' ≡ to)) ⊎ Takes b l p start r s row to row' to'

module _ {b : Bool} {l : Layout} {p : Pace} {start r : Run} {s row to row' to' : List ℕ} (h : Ready l p start row s to) where
  pub goes_on : {e : Run} {row'' to'' : List ℕ} → Goes b l p start r s row to row' to' → Takes b l p r e s row' to' row'' to''
      → Takes b l p start e s row to row'' to''
  goes_on {e} {row''} {to''} (inl g) t = rw (g.0, g.1, g.2) at t
  goes_on (inr g) t = takes-join g t
