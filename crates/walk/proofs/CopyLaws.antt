-- Entries that repeat: one entry more, and a period twice as long. Assumes nothing.
use Prim.Native.Nat.{ℕ, zero, suc, ◌+◌, ◌*◌, ◌/◌, ◌%◌, ◌-◌, ◌≤◌, ◌<◌}
use mathlib.Core.Path.{◌≡◌, refl, sym, ap, ◌∙◌}
use mathlib.Core.List.{List, [], ◌∷◌, ◌++◌}
use native.Mathlib.Decide.{dec_lt}
use native.Mathlib.Nat.{mod-lt, mod-add-mod, add-mod-mod, add_assoc}
use native.Mathlib.Omega.{arith}
use lib.ListN.{length, take, drop, get_or, set, length-drop}
use lib.Seq.{drop-drop, take-take, get_or-set_same, get_or-set_other, get_or-take, take-set-le, drop-set-add, take-suc-set, take-add, length-take-le, drop_at}
use Rattle.numbers.specs.Words.{words_of}
use Rattle.numbers.proofs.WordLaws.{words-length, words-store}
use Rattle.model.specs.ByteFills.{store_entry, store_entries}
use Rattle.model.proofs.ByteStores.{stores-last}
use Rattle.walk.specs.Copying.{Extends}
use Rattle.walk.proofs.BurstLaws.{entry_length}
use Rattle.walk.proofs.StoreLaws.{stores-append}

abbrev entry : List ℕ → ℕ → ℕ
entry bs n = get_or (words_of 4 bs) n 0

-- so many entries from a place on
abbrev span : ℕ → ℕ → List ℕ → List ℕ
span n count ws = take count (drop n ws)

span-length : (a n : ℕ) (ws : List ℕ) → a + n ≤ length ws → length (span a n ws) ≡ n
span-length a n ws h = length-take-le n (drop a ws) (omega (arith, length-drop a ws))

span_set : (a n x : ℕ) (ws : List ℕ) → a + n < length ws → span a (suc n) (set ws (a + n) x) ≡ span a n ws ++ (x ∷ [])
span_set a n x ws h = rw (drop-set-add a ws n x) (take-suc-set (drop a ws) n x (omega (arith, length-drop a ws)))

span-add : (a m n : ℕ) (ws : List ℕ) → span a (m + n) ws ≡ span a m ws ++ span (a + m) n ws
span-add a m n ws = take-add m n (drop a ws) ∙ rw (drop-drop m a ws)

-- it is seen in the entries before its end
span-front : (a n : ℕ) (ws : List ℕ) → a ≤ length ws → drop a (take (a + n) ws) ≡ span a n ws
span-front a n ws h = ap (drop a) (take-add a n ws) ∙ drop_at (take a ws) (span a n ws) a (length-take-le a ws h)

-- ---- one entry more

pub extends-none : (period add : ℕ) (before : List ℕ) → Extends period add period before before
unfolding store_entries
extends-none period add before =
    let none : period - period ≡ 0 = omega arith in
    record { size = refl; head = refl; stored = rw none; each = λ j h l. absurd (omega arith) }

-- the entry j stored, so much after the one a period before it
module _ {period add j : ℕ} {before list : List ℕ} (some : 0 < period) (late : period ≤ j) (room : j < length before / 4)
    (e : Extends period add j before list) where
  abbrev new : ℕ
  new = (entry list (j - period) + add) % 4294967296

  abbrev next : List ℕ
  next = store_entry list j new

  inside : j < length list / 4
  inside = rw e.size room

  words : words_of 4 next ≡ set (words_of 4 list) j new
  words = words-store 4 j new list inside (mod-lt (entry list (j - period) + add) (omega arith))

  long : j < length (words_of 4 list)
  long = rw (words-length 4 list) inside

  stored : next ≡ store_entries before period (span period (j + 1 - period) (words_of 4 next))
  stored =
      let k : ℕ = j - period in
      let ws : List ℕ = words_of 4 list in
      let more : j + 1 - period ≡ suc k = omega arith in
      let here : j ≡ period + k = omega arith in
      let spans : span period (suc k) (set ws j new) ≡ span period k ws ++ (new ∷ []) =
      ap (λ (i : ℕ). span period (suc k) (set ws i new)) here ∙ span_set period k new ws (omega (arith, long)) in
      let place : period + length (span period k ws) ≡ j = omega (arith, span-length period k ws (omega (arith, long))) in
      rw (words, more, spans, stores-last before period (span period k ws) new, place)
      (ap (λ (l : List ℕ). store_entry l j new) e.stored)

  other : (i : ℕ) → (i ≡ j → ⊥) → entry next i ≡ entry list i
  other i apart = rw words (get_or-set_other (words_of 4 list) j i new 0 apart)

  each : (i : ℕ) → period ≤ i → i < j + 1 → entry next i ≡ (entry next (i - period) + add) % 4294967296
  each i h l =
      rw (other (i - period) (λ q. omega arith))
      (elim (dec_lt i j) [
        | yes k ↦ other i (λ q. omega arith) ∙ e.each i h k
        | no k ↦ last (omega arith)
      ])
    where
      last : i ≡ j → entry next i ≡ (entry list (i - period) + add) % 4294967296
      last q = rw (q, words) (get_or-set_same (words_of 4 list) j new 0 long)

  pub extends-more : Extends period add (j + 1) before next
  extends-more =
      record {
        size = entry_length list j new ∙ e.size;
        head = ap (take period) words ∙ take-set-le period (words_of 4 list) j new late ∙ e.head;
        stored = stored;
        each = each;
      }

-- ---- up to twice the period, and from there on with twice the period

module _ {period add to : ℕ} {l m r : List ℕ} (some : 0 < period) (fits : 2 * period ≤ to) (room : to ≤ length l / 4)
    (one : Extends period add (2 * period) l m) (two : Extends (2 * period) ((add + add) % 4294967296) to m r) where
  kept : (i : ℕ) → i < 2 * period → entry r i ≡ entry m i
  kept i h =
      sym (get_or-take (2 * period) (words_of 4 r) i 0 h)
      ∙ ap (λ (ws : List ℕ). get_or ws i 0) two.head
      ∙ get_or-take (2 * period) (words_of 4 m) i 0 h

  added : (x : ℕ) → (x + (add + add) % 4294967296) % 4294967296 ≡ ((x + add) % 4294967296 + add) % 4294967296
  added x =
      add-mod-mod x (add + add) 4294967296 ∙ rw (sym (add_assoc x add add)) (sym (mod-add-mod (x + add) 4294967296 add))

  each_below : (n j : ℕ) → j < n → period ≤ j → j < to → entry r j ≡ (entry r (j - period) + add) % 4294967296
  each_below zero j b h k = absurd (omega arith)
  each_below (suc n) j b h k =
      elim (dec_lt j (2 * period)) [
        | yes g ↦ rw (kept j g, kept (j - period) (omega arith)) (one.each j h g)
        | no g ↦
            let back : j - 2 * period ≡ j - period - period = omega arith in
            two.each j (omega arith) k ∙ added (entry r (j - 2 * period))
            ∙ rw (back, sym (each_below n (j - period) (omega arith) (omega arith) (omega arith))) refl
      ]

  stored-twice : r ≡ store_entries l period (span period (to - period) (words_of 4 r))
  stored-twice =
      let ws : List ℕ = words_of 4 r in
      let rest : List ℕ = span (2 * period) (to - 2 * period) (words_of 4 r) in
      let long : to ≤ length (words_of 4 r) = rw (words-length 4 r, two.size, one.size) room in
      let as_long : to ≤ length (words_of 4 m) = rw (words-length 4 m, one.size) room in
      let once : 2 * period - period ≡ period = omega arith in
      let twice : 2 * period ≡ period + period = omega arith in
      let both : to - period ≡ period + (to - 2 * period) = omega arith in
      let same : span period period (words_of 4 m) ≡ span period period (words_of 4 r) =
      sym (span-front period period (words_of 4 m) (omega arith))
      ∙ ap (drop period) (sym (rw twice at two.head))
      ∙ span-front period period (words_of 4 r) (omega arith) in
      let middle : m ≡ store_entries l period (span period period (words_of 4 r)) =
      one.stored ∙ rw (once, same) in
      let place : period + length (span period period (words_of 4 r)) ≡ 2 * period =
      omega (arith, span-length period period (words_of 4 r) (omega arith)) in
      rw (both, span-add period period (to - 2 * period) ws, sym twice, stores-append l period (span period period ws) rest, place)
      (two.stored ∙ ap (λ (k : List ℕ). store_entries k (2 * period) rest) middle)

  extends-twice : Extends period add to l r
  extends-twice =
      record {
        size = two.size ∙ one.size;
        head =
            sym (take-take period (2 * period) (words_of 4 r) (omega arith)) ∙ ap (take period) two.head
            ∙ take-take period (2 * period) (words_of 4 m) (omega arith)
            ∙ one.head;
        stored = stored-twice;
        each = λ j h k. each_below (suc j) j (omega arith) h k;
      }

-- before each doubling: whatever goes on over the distance extends the whole
pub record Doubling (period add to distance step : ℕ) (before list : List ℕ) : Type 0 where
  pub some : 0 < distance
  pub place : distance ≤ to
  pub low : step < 4294967296
  pub size : length list ≡ length before
  pub rest : (after : List ℕ) → Extends distance step to list after → Extends period add to before after

pub doubling-twice : {period add to distance step : ℕ} {before list m : List ℕ} → to ≤ length before / 4 → 2 * distance ≤ to
    → Doubling period add to distance step before list → Extends distance step (2 * distance) list m
    → Doubling period add to (2 * distance) ((step + step) % 4294967296) before m
doubling-twice room fits d one =
    record {
      some = omega arith;
      place = fits;
      low = mod-lt _ (omega arith);
      size = one.size ∙ d.size;
      rest = λ after two. d.rest after (extends-twice d.some fits (rw d.size room) one two);
    }
