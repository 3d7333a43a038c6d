-- What a loop that fills a list of bytes by moves that are learnt keeps. Assumes nothing.
use Prim.Native.Nat.{ℕ, ◌+◌, ◌/◌, ◌≤◌, ◌<◌}
use mathlib.Core.Path.{◌≡◌, refl, sym, ◌∙◌, subst}
use mathlib.Core.Bool.{true, false}
use mathlib.Core.List.{List}
use mathlib.Core.Logic.{◌⊎◌}
use native.Mathlib.Numerals.{add-one}
use native.Mathlib.Omega.{arith}
use lib.ListN.{length, get_or, set}
use Rattle.numbers.specs.Words.{words_of}
use Rattle.numbers.proofs.WordLaws.{words-length, words-store}
use Rattle.model.specs.ByteFills.{store_entry, store_entries}
use Rattle.walk.specs.declared.moves.State.{State}
use Rattle.walk.specs.declared.moves.Made.{Made}
use Rattle.walk.specs.declared.learning.Task.{Task}
use Rattle.walk.specs.Moving.{has_ended}
use Rattle.walk.specs.Learning.{Placed, class_of, turn_by, class_add, known_in, Advances, by-known, by-learning, Begins, FillsBytesEven}
use Rattle.walk.proofs.MoveLaws.{not-ended}
use Rattle.walk.proofs.ByteRuns.{Stored, stored_next, words-burst, stored-burst, bytes-why}
use Rattle.walk.proofs.LearnLaws.{class-learns, column-learns}
use Rattle.walk.proofs.LearnRuns.{EvenRuns, Learning, even-starts, even-turns, even-bursts, even-ends}
use Rattle.walk.proofs.BurstLaws.{entry_length, burst-length, made-sure}

pub record EvenBytes (f : Task) (s₀ : State) (bs₀ : List ℕ) (key : ℕ → ℕ) (table bs : List ℕ) (s : State) (n : ℕ) : Type 0 where
  pub same : length bs ≡ length bs₀
  pub stored : Stored bs₀ bs n
  pub runs : EvenRuns f.elements f.moves f.count f.quota s₀ (words_of 4 bs₀) key table (words_of 4 bs) s n

module _ {f : Task} {s₀ : State} (v : Begins f s₀) where
  module _ {key : ℕ → ℕ} where
    pub even-bytes-start : {bs table : List ℕ} → ((q : ℕ) → get_or table q 0 ≡ 0) → EvenBytes f s₀ bs key table bs s₀ 0
    unfolding store_entries
    even-bytes-start none = record { same = refl; stored = refl; runs = even-starts v.1 none }

    module _ {bs₀ table bs : List ℕ} {s : State} {n : ℕ} (r : EvenBytes f s₀ bs₀ key table bs s n) where
      -- one turn that learns
      pub even-bytes-turn : n < length bs₀ / 4 → has_ended f.count f.quota s ≡ false → {table' : List ℕ} (add : ℕ)
          → Learning f.elements f.moves f.count key table table' s add
          → EvenBytes f s₀ bs₀ key table' (store_entry bs n s.address.0) (turn_by f.moves f.count s add) (n + 1)
      even-bytes-turn room on add learns =
          let inside : n < length bs / 4 = rw r.same room in
          let low = r.runs.sound.address in
          let h = not-ended f.count f.quota s on in
          record {
            same = entry_length bs n s.address.0 ∙ r.same;
            stored = rw add-one (stored_next bs₀ bs n s.address.0 r.stored inside low);
            runs =
                rw (words-store 4 n s.address.0 bs inside low)
                (even-turns v.1 r.runs (rw (words-length 4 bs) inside) h.0 h.1 add learns);
          }

      pub even-bytes-end : (length bs₀ / 4 ≤ n) ⊎ (has_ended f.count f.quota s ≡ true)
          → FillsBytesEven f s₀ bs₀ bs (record { entries = n; tries = s.paid; place = s.place })
      even-bytes-end why w z d h =
          rw (even-ends v.1 r.runs (bytes-why bs₀ bs r.same f.count f.quota n s why) w z d h)
          (record { entries = refl; tries = refl; place = refl; bytes = r.stored })

  -- a turn with a table by classes
  pub class-turn : {bs₀ classes bs : List ℕ} {s : State} {n : ℕ} → EvenBytes f s₀ bs₀ (class_of f.elements f.moves) classes bs s n
      → n < length bs₀ / 4 → has_ended f.count f.quota s ≡ false
      → EvenBytes f s₀ bs₀ (class_of f.elements f.moves) (set classes (class_of f.elements f.moves s.column) (class_add f classes s))
      (store_entry bs n s.address.0) (turn_by f.moves f.count s (class_add f classes s)) (n + 1)
  class-turn {classes = classes} {s = s} r room on =
      even-bytes-turn r room on _ (λ w z d u here k. rw (← z) (class-learns w _ _ d (subst (Placed f.elements) (sym z) v.0) s u here classes k))

  -- the next turns with a table by columns
  pub columns-advance : {bs₀ columns bs : List ℕ} {s : State} {n : ℕ} → EvenBytes f s₀ bs₀ (λ q. q) columns bs s n
      → n < length bs₀ / 4 → has_ended f.count f.quota s ≡ false
      → {columns' bs' : List ℕ} {o : Made} → Advances f columns s n bs columns' bs' o
      → EvenBytes f s₀ bs₀ (λ q. q) columns' bs' o.state (n + o.turns)
  columns-advance {bs₀} {columns} {bs} {s} {n} r room on (by-known {r = o} most h fits b) =
      let small = v.1.small in
      let low = r.runs.sound in
      let inside : n + o.turns ≤ length bs / 4 = omega (arith, b.low) in
      rw (b.state, b.list) (record {
        same = burst-length store_entry entry_length f.moves (known_in columns) bs n _ s ∙ r.same;
        stored = stored-burst f.moves small (known_in columns) s low bs₀ bs n _ inside r.stored;
        runs =
            rw (words-burst f.moves small (known_in columns) s low bs₀ bs n _ inside)
            (even-bursts v.1 r.runs (made-sure b (λ z g. g.0) h) (rw (words-length 4 bs) inside) b.each);
      })
  columns-advance {s = s} r room on (by-learning t) =
      even-bytes-turn r room on _ (λ w z d u here k. rw (← z) (column-learns w _ _ d (subst (Placed f.elements) (sym z) v.0) s u here (rw (← z) at t) k))

-- some turn is made, and no more than there is room for
module _ {f : Task} {columns : List ℕ} {s : State} {n : ℕ} {bs : List ℕ} where
  pub advances-some : n < length bs / 4 → {columns' bs' : List ℕ} {o : Made} → Advances f columns s n bs columns' bs' o → (0 < o.turns) × (n + o.turns ≤ length bs / 4)
  advances-some h (by-known most g fits b) = (b.some, omega (arith, b.low))
  advances-some h (by-learning t) = (omega arith, omega arith)
