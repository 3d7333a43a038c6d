-- What a loop that fills a list of bytes keeps beside what a fill of its words keeps: the bytes are those with the addresses
-- written stored one after the other. Assumes nothing.
use Prim.Native.Nat.{ℕ, zero, suc, ◌+◌, ◌-◌, ◌/◌, ◌^◌, ◌≤◌, ◌<◌}
use mathlib.Core.Path.{◌≡◌, refl, ap, ◌∙◌}
use mathlib.Core.Bool.{true}
use mathlib.Core.List.{List}
use mathlib.Core.Logic.{◌⊎◌, inl, inr}
use native.Mathlib.Nat.{add-zero, add-suc}
use native.Mathlib.Omega.{arith}
use lib.ListN.{length, take, set}
use lib.Seq.{take-suc-set, length-take-le}
use Rattle.numbers.specs.Words.{words_of}
use Rattle.numbers.proofs.WordLaws.{words-length, words-store}
use Rattle.model.specs.ByteFills.{store_entry, store_entries}
use Rattle.model.proofs.ByteStores.{stores-last}
use Rattle.walk.specs.declared.moves.Moves.{Moves}
use Rattle.walk.specs.declared.moves.State.{State}
use Rattle.walk.specs.Moving.{add_from, stop_at, has_ended, Small, Sound}
use Rattle.walk.specs.Driving.{FillsBytes}
use Rattle.walk.specs.Bursts.{steps_on, burst_by, Sure, Starts}
use Rattle.walk.proofs.MoveLaws.{ended-why}
use Rattle.walk.proofs.RunLaws.{Runs, run-starts, run_ends}
use Rattle.walk.proofs.BurstLaws.{entry_length, steps-within, burst-length, run-bursts}

-- the first n words of the bytes are what was stored
abbrev pub Stored : List ℕ → List ℕ → ℕ → Type 0
Stored bs₀ bs n = bs ≡ store_entries bs₀ 0 (take n (words_of 4 bs))

pub stored_next : (bs₀ bs : List ℕ) (n a : ℕ) → Stored bs₀ bs n → n < length bs / 4 → a < 256 ^ 4 → Stored bs₀ (store_entry bs n a) (suc n)
stored_next bs₀ bs n a s h l =
    let ws : List ℕ = words_of 4 bs in
    let inside : n < length (words_of 4 bs) = omega (arith, words-length 4 bs) in
    let number : 0 + length (take n (words_of 4 bs)) ≡ n = omega (arith, length-take-le n (words_of 4 bs) (omega arith)) in
    rw (words-store 4 n a bs h l, take-suc-set ws n a inside, stores-last bs₀ 0 (take n ws) a, number)
    (ap (λ (k : List ℕ). store_entry k n a) s)

-- a burst's words are those of the burst into words, and what it stored comes after
module _ (m : Moves) (small : Small m) (δ : ℕ → ℕ) (s : State) (v : Sound m s) (bs₀ bs : List ℕ) (from : ℕ) where
  inside : (n : ℕ) → from + suc n ≤ length bs / 4 → from + n < length (burst_by store_entry m δ bs from n s) / 4
  inside n h = rw (burst-length store_entry entry_length m δ bs from n s) (omega arith)

  low : (n : ℕ) → (steps_on m δ n s).address.0 < 256 ^ 4
  low n = (steps-within m small δ s v n).sound.address

  pub words-burst : (n : ℕ) → from + n ≤ length bs / 4 → words_of 4 (burst_by store_entry m δ bs from n s) ≡ burst_by set m δ (words_of 4 bs) from n s
  unfolding burst_by
  words-burst zero h = refl
  words-burst (suc n) h =
      words-store 4 (from + n) (steps_on m δ n s).address.0 (burst_by store_entry m δ bs from n s) (inside n h) (low n)
      ∙ ap (λ (k : List ℕ). set k (from + n) (steps_on m δ n s).address.0) (words-burst n (omega arith))

  pub stored-burst : (n : ℕ) → from + n ≤ length bs / 4 → Stored bs₀ bs from → Stored bs₀ (burst_by store_entry m δ bs from n s) (from + n)
  unfolding burst_by
  stored-burst zero h e = rw add-zero e
  stored-burst (suc n) h e =
      rw add-suc (stored_next bs₀ (burst_by store_entry m δ bs from n s) (from + n) _ (stored-burst n (omega arith) e) (inside n h) (low n))

-- ---- the loop

-- why it ended, of the words
pub bytes-why : (bs₀ bs : List ℕ) → length bs ≡ length bs₀ → (count quota n : ℕ) (s : State) → (length bs₀ / 4 ≤ n) ⊎ (has_ended count quota s ≡ true)
    → (length (words_of 4 bs) ≤ n) ⊎ ((s.place.0 ≡ count) ⊎ (quota - s.paid < 3))
bytes-why bs₀ bs same count quota n s (inl k) = inl (rw (words-length 4 bs, same) k)
bytes-why bs₀ bs same count quota n s (inr k) = inr (ended-why count quota s k)

pub record ByteRuns (m : Moves) (count quota : ℕ) (s₀ : State) (bs₀ bs : List ℕ) (s : State) (n : ℕ) : Type 0 where
  pub same : length bs ≡ length bs₀
  pub stored : Stored bs₀ bs n
  pub runs : Runs m count quota s₀ (words_of 4 bs₀) (words_of 4 bs) s n

pub bytes-start : (m : Moves) (count quota : ℕ) (s : State) (bs : List ℕ) → Starts m count quota s → ByteRuns m count quota s bs bs s 0
unfolding store_entries
bytes-start m count quota s bs v = record { same = refl; stored = refl; runs = run-starts m count quota s (words_of 4 bs) v }

module _ {m : Moves} {count quota : ℕ} {s₀ : State} {bs₀ bs : List ℕ} {s : State} {n : ℕ} (r : ByteRuns m count quota s₀ bs₀ bs s n) where
  pub bytes-burst : Starts m count quota s₀ → {all : ℕ} → Sure m (add_from m) count quota s all → n + all ≤ length bs₀ / 4
      → ByteRuns m count quota s₀ bs₀ (burst_by store_entry m (add_from m) bs n all s) (stop_at count (steps_on m (add_from m) all s)) (n + all)
  bytes-burst st {all} sure room =
      let fits : n + all ≤ length bs / 4 = rw r.same room in
      let v = r.runs.sound in
      let small = st.small in
      record {
        same = burst-length store_entry entry_length m (add_from m) bs n all s ∙ r.same;
        stored = stored-burst m small (add_from m) s v bs₀ bs n all fits r.stored;
        runs =
            rw (words-burst m small (add_from m) s v bs₀ bs n all fits)
            (run-bursts st r.runs sure (rw (words-length 4 bs) fits));
      }

  pub bytes-end : (length bs₀ / 4 ≤ n) ⊎ (has_ended count quota s ≡ true)
      → FillsBytes m count quota s₀ bs₀ bs (record { entries = n; tries = s.paid; place = s.place })
  bytes-end why w e d h =
      rw (run_ends r.runs (bytes-why bs₀ bs r.same count quota n s why) w e d h) (record { entries = refl; tries = refl; place = refl; bytes = r.stored })
