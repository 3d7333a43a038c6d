-- Copies of a whole row, one after another, go on with the fill as the rows themselves would. Assumes nothing.
use Prim.Native.Nat.{ℕ, zero, suc, ◌+◌, ◌-◌, ◌*◌, ◌/◌, ◌≤◌, ◌<◌}
use mathlib.Core.Path.{◌≡◌, refl, sym, ap, ◌∙◌, subst}
use mathlib.Core.List.{List, [], ◌∷◌, ◌++◌, map}
use native.Mathlib.Nat.{le_refl, zero-mul, suc-mul, mul-le-mul_right, add-zero}
use native.Mathlib.Omega.{arith}
use lib.ListN.{length, length-map, take, drop, length-drop}
use lib.Seq.{length-take-le, take_at, take-add, take-take, drop-drop}
use borrow.Author.Tests.{lt-ltb}
use Rattle.std.specs.Prelude.{Some}
use Rattle.numbers.specs.Words.{words_of}
use Rattle.numbers.proofs.WordLaws.{words-length}
use Rattle.model.specs.Filling.{on_base, Filled, fill_by}
use Rattle.model.specs.ByteFills.{store_entries}
use Rattle.model.specs.Axes.{paired, Axis, axis_of, walk_on, next_from, rows}
use Rattle.model.specs.Grids.{GridSection, sections_of}
use Rattle.model.proofs.ByteStores.{AllFit, stores-length}
use Rattle.model.proofs.GridAccepted.{second-yes}
use Rattle.grid_fill.specs.Entries.{AllLow}
use Rattle.grid_fill.specs.declared.rows.RowPlan.{RowPlan}
use Rattle.model.specs.declared.three.Three.{Three}
use Rattle.model.specs.declared.Position.{Position}
use Rattle.grid_fill.specs.declared.turns.Whole.{Whole}
use Rattle.grid_fill.specs.declared.turns.Turn.{Turn}
use Rattle.grid_fill.specs.Rows.{entering_at, PlanOf, On, Standing, place_of, grid_walk, Goes, Stored, Turned}
use Rattle.grid_fill.specs.Turns.{put_rows}
use Rattle.grid_fill.proofs.BaseFills.{after, after_next}
use Rattle.walk.proofs.StoreLaws.{Put, put-words, stores-append}
use Rattle.grid_fill.proofs.RowPlaces.{counts, base_of, after-row, after-stands}
use Rattle.grid_fill.proofs.RowTurns.{goes_none, goes-both, base-low, row_goes}
use Rattle.grid_fill.proofs.WholeRows.{part_same, stored-stays, again-on, put-again}

-- addresses of a row whose base is low fit 4 bytes
all_fit : (base : ℕ) → base < 2147483648 → (zs : List ℕ) → AllLow zs → AllFit (map (λ (z : ℕ). base + z) zs)
all_fit base h [] low = tt
all_fit base h (z ∷ zs) low = (omega (arith, low.0), all_fit base h zs low.1)

-- the first place of a row that is one
entering-in : (x : GridSection) (p : RowPlan) (o : PlanOf p x) (u v up : ℕ) → u < (axis_of (sections_of x).second).count → v < (axis_of (sections_of x).third).count
    → place_of x (entering_at p u v up)
    ≡ paired (axis_of (sections_of x).first).count p.enter.0 (paired (axis_of (sections_of x).second).count u v)
entering-in x p o u v up h l =
    let n = counts (sections_of x).second (second-yes x o.accepted) p.shares.second o.second in
    rw (lt-ltb u p.shares.second.section.count (omega arith), lt-ltb v (axis_of (sections_of x).third).count l)

module _ (x : GridSection) (p : RowPlan) (o : PlanOf p x) (at : Three Position) (st : Standing x p at) (v : at.third.0 < (axis_of (sections_of x).third).count)
    (enters : at.first.0 ≡ p.enter.0) (up : ℕ) (in-planes : up ≡ (axis_of (sections_of x).third).next at.third.0) where
  abbrev first : Axis
  first = axis_of (sections_of x).first

  abbrev second : Axis
  second = axis_of (sections_of x).second

  abbrev third : Axis
  third = axis_of (sections_of x).third

  -- the row after j others
  abbrev row_after : ℕ → ℕ
  row_after j = after (walk_on second) at.second.0 j

  enter-on : On first p.shares.first.processor p.enter.0
  enter-on = subst (On first p.shares.first.processor) enters (st.first v)

  module _ (bs : List ℕ) (n : ℕ) (w : Whole) (known : Stored x p bs n w) (quota count : ℕ) (fits : count * w.tries + 2 ≤ quota) (room : n + count * w.entries ≤ length bs / 4)
      (base : ℕ → ℕ) (on : (j : ℕ) → j < count → On (axis_of (sections_of x).second) p.shares.second.processor (after (walk_on (axis_of (sections_of x).second)) at.second.0 j))
      (is : (j : ℕ) (h : j < count) → base j ≡ base_of x p o (after (walk_on (axis_of (sections_of x).second)) at.second.0 j) at.third.0 (on j h) (st.third v)) where
    abbrev list_after : ℕ → List ℕ
    list_after j = put_rows base w bs n j

    pub record After (j : ℕ) : Type 0 where
      pub stored : Stored x p (put_rows base w bs n j) (n + j * w.entries) w
      pub goes : Goes (grid_walk x) (place_of x at) quota (drop n (words_of 4 bs)) (j * w.entries) (j * w.tries) (place_of x (entering_at p (row_after j) at.third.0 up)) (drop n (words_of 4 (put_rows base w bs n j)))
      pub put : put_rows base w bs n j ≡ store_entries bs n (take (j * w.entries) (drop n (words_of 4 (put_rows base w bs n j))))
      pub before : take n (words_of 4 (put_rows base w bs n j)) ≡ take n (words_of 4 bs)
      pub long : length (put_rows base w bs n j) ≡ length bs

    none : After 0
    unfolding put_rows after store_entries
    none =
        let e : n + 0 * w.entries ≡ n = rw (zero-mul) (add-zero n) in
        record {
          stored = rw e known;
          goes =
              rw (zero-mul w.entries, zero-mul w.tries)
              (subst (λ (t : ℕ). Goes (grid_walk x) (place_of x at) quota (drop n (words_of 4 bs)) 0 0 t (drop n (words_of 4 bs))) here (goes_none (grid_walk x) (place_of x at) quota (drop n (words_of 4 bs))));
          put = rw (zero-mul w.entries);
          before = refl;
          long = refl;
        }
      where
        here : place_of x at ≡ place_of x (entering_at p at.second.0 at.third.0 up)
        here =
            (rw (lt-ltb at.third.0 third.count v, enters)) ∙ sym (entering-in x p o at.second.0 at.third.0 up (st.second v).0 v)

    -- one copy more
    module _ (j : ℕ) (h : j < count) (c : After j) where
      abbrev E : ℕ
      E = w.entries

      abbrev m : ℕ
      m = n + j * E

      abbrev ws : List ℕ
      ws = words_of 4 (list_after j)

      abbrev ws' : List ℕ
      ws' = words_of 4 (list_after (suc j))

      -- the row that is put
      abbrev ys : List ℕ
      ys = map (λ (z : ℕ). base j + z) c.stored.addresses

      low : base j < 2147483648
      low = omega (arith, is j h, base-low x p o (row_after j) at.third.0 (on j h) (st.third v) p.enter.0 enter-on)

      long-row : length ys ≡ E
      long-row = length-map c.stored.addresses (λ (z : ℕ). base j + z) ∙ c.stored.long

      next-is : list_after (suc j) ≡ store_entries (list_after j) m ys
      unfolding put_rows
      next-is = ap (store_entries (list_after j) m) (put-again x p o (list_after j) m w c.stored (base j) low)

      rooms : (m + E ≤ length (list_after j) / 4) × (suc j * E ≡ j * E + E) × (suc j * w.tries ≡ j * w.tries + w.tries) × (suc j * w.tries ≤ count * w.tries)
      rooms =
          let a : suc j * E ≡ j * E + E = omega (arith, suc-mul j E) in
          let b : suc j * w.tries ≡ j * w.tries + w.tries = omega (arith, suc-mul j w.tries) in
          let k : suc j * E ≤ count * E = mul-le-mul_right E h in
          (rw c.long (omega arith), a, b, mul-le-mul_right w.tries h)

      put : Put ws ws' m ys
      put = put-words (list_after j) (list_after (suc j)) m ys next-is (omega (arith, long-row, rooms.0)) (all_fit (base j) low c.stored.addresses c.stored.low)

      -- the row's fill
      abbrev g : Filled
      g = record { entries = E; tries = w.tries; place = first.count; list = ys ++ drop E (drop m ws) }

      front : take E (ys ++ drop E (drop m ws)) ≡ ys
      front = take_at ys (drop E (drop m ws)) E long-row

      row_here : Goes (grid_walk x) (place_of x (entering_at p (row_after j) at.third.0 up)) (quota - j * w.tries) (drop m ws) E w.tries
          (place_of x (entering_at p (row_after (suc j)) at.third.0 up)) (drop m ws')
      row_here =
          let there = after-row x p o (row_after j) at.third.0 (on j h) (st.third v) up in-planes in
          let after-it : second.next (row_after j) ≡ row_after (suc j) = sym (after_next (walk_on second) at.second.0 j) in
          let to : next_from first (rows second third) p.shares.first.processor (paired second.count (row_after j) at.third.0) first.count
          ≡ place_of x (entering_at p (row_after (suc j)) at.third.0 up) = there ∙ ap (λ (u : ℕ). place_of x (entering_at p u at.third.0 up)) after-it in
          let from = sym (entering-in x p o (row_after j) at.third.0 up (on j h).0 v) in
          subst (λ (t : ℕ). Goes (grid_walk x) t (quota - j * w.tries) (drop m ws) E w.tries (place_of x (entering_at p (row_after (suc j)) at.third.0 up)) (drop m ws')) from
          (subst (λ (t : ℕ). Goes (grid_walk x) (paired first.count p.enter.0 (paired second.count (row_after j) at.third.0)) (quota - j * w.tries) (drop m ws) E w.tries t (drop m ws')) to
          (row_goes x p o (row_after j) at.third.0 (on j h) (st.third v) p.enter.0 (quota - j * w.tries) m ws ws' g enter-on
          (ap (λ (z : ℕ). fill_by (on_base z (walk_on first)) p.enter.0 (quota - j * w.tries) (drop m ws)) (sym (is j h))
          ∙ again-on x p o (list_after j) m w c.stored (base j) (quota - j * w.tries) (drop m ws) (omega (arith, rooms.2, rooms.3, fits))
          (omega (arith, rooms.0, length-drop m ws, words-length 4 (list_after j))))
          (ap length front ∙ long-row) (rw front put)))

      -- what stood before stays
      before : take (j * E) (drop n ws') ≡ take (j * E) (drop n ws)
      before = part_same ws ws' m n (j * E) (omega arith) (omega (arith, rooms.0, words-length 4 (list_after j))) put.long put.before

      goes_on : Goes (grid_walk x) (place_of x at) quota (drop n (words_of 4 bs)) (suc j * E) (suc j * w.tries) (place_of x (entering_at p (row_after (suc j)) at.third.0 up)) (drop n ws')
      goes_on =
          rw (rooms.1, rooms.2)
          (goes-both (grid_walk x) (place_of x at) quota (drop n (words_of 4 bs)) (j * E) (j * w.tries) (place_of x (entering_at p (row_after j) at.third.0 up)) (drop n ws) E w.tries
          (place_of x (entering_at p (row_after (suc j)) at.third.0 up)) (drop n ws') c.goes (rw (drop-drop (j * E) n ws, drop-drop (j * E) n ws') row_here) before)

      put_on : list_after (suc j) ≡ store_entries bs n (take (suc j * E) (drop n ws'))
      put_on =
          let xs : List ℕ = take (j * E) (drop n ws) in
          let long-xs : length xs ≡ j * E = length-take-le (j * E) (drop n ws) (omega (arith, rooms.0, length-drop n ws, words-length 4 (list_after j))) in
          let place : n + length xs ≡ m = ap (λ (k : ℕ). n + k) long-xs in
          let all : take (suc j * E) (drop n ws') ≡ xs ++ ys =
          ap (λ (k : ℕ). take k (drop n ws')) rooms.1
          ∙ take-add (j * E) E (drop n ws')
          ∙ (λ i. before i ++ (ap (take E) (drop-drop (j * E) n ws') ∙ (rw long-row at put.front)) i) in
          next-is
          ∙ (λ i. store_entries (c.put i) (sym place i) ys)
          ∙ sym (stores-append bs n xs ys)
          ∙ ap (store_entries bs n) (sym all)

      one_more : After (suc j)
      one_more = record {
        stored = stored-stays x p o (list_after j) m w c.stored (list_after (suc j)) (n + suc j * E) (omega (arith, rooms.1)) (omega (arith, rooms.0, words-length 4 (list_after j))) put.long put.before;
        goes = goes_on;
        put = put_on;
        before = sym (take-take n m ws' (omega arith)) ∙ ap (take n) put.before ∙ take-take n m ws (omega arith) ∙ c.before;
        long = ap length next-is ∙ stores-length (list_after j) m ys ∙ c.long;
      }

    pub copied : (j : ℕ) → j ≤ count → After j
    copied zero h = none
    copied (suc j) h = one_more j h (copied j (omega arith))

    -- the turn that so many copies make
    pub after-turned : 0 < count → 0 < w.entries → (t : Turn) → t.stand ≡ entering_at p (row_after count) at.third.0 up → t.whole ≡ Some w
        → t.entries ≡ count * w.entries → t.tries ≡ count * w.tries → Turned x p at quota n bs (list_after count) t
    after-turned some entries t stand whole e c = go count refl
      where
        go : (k : ℕ) → count ≡ k → Turned x p at quota n bs (list_after count) t
        go zero i = absurd (omega arith)
        go (suc k) i =
            let a = copied count (le_refl count) in
            let last : k < count = omega arith in
            let next : (axis_of (sections_of x).second).next (row_after k) ≡ row_after count = sym (after_next (walk_on second) at.second.0 k) ∙ ap row_after (sym i) in
            record {
              some = omega (arith, e, ap (λ (z : ℕ). z * w.entries) i, suc-mul k w.entries);
              room = omega (arith, e, room);
              tries = omega (arith, c, fits);
              stands =
                  subst (Standing x p) (sym stand)
                  (subst (λ (u : ℕ). Standing x p (entering_at p u at.third.0 up)) next
                  (after-stands x p o (row_after k) at.third.0 (on k last) (st.third v) p.enter.0 up enter-on in-planes));
              goes = rw (e, c, stand) a.goes;
              stored = rw e a.put;
              before = a.before;
              known = rw (e, whole) a.stored;
            }
