-- Fills along rows of positions go row by row: a fill of the row, and then one from the place that follows the row's. Walks
-- that agree fill alike. Assumes nothing.
use Prim.Native.Nat.{ℕ, ◌+◌, ◌-◌, ◌≤◌, ◌<◌}
use mathlib.Core.Path.{◌≡◌, refl, sym, ap, ◌∙◌}
use mathlib.Core.Bool.{Bool, true, false, ◌||◌}
use mathlib.Core.List.{List, [], ◌∷◌, ◌++◌}
use native.Mathlib.Nat.{zero-add, sub-zero, sub-add-eq}
use native.Mathlib.Omega.{arith}
use lib.Dec.{ltb, eqb}
use lib.ListN.{length, take, drop}
use borrow.Author.Tests.{lt-ltb, eqb-false, ltb-false}
use Rattle.model.specs.Ownership.{rank}
use Rattle.model.specs.Filling.{Walk, on_base, Filled, stopped, wrote, fill_by}
use Rattle.model.specs.Axes.{paired, Axis, owns_on, later_on, walk_on, next_from, rows}
use Rattle.model.proofs.FillLoopLaws.{followed, wrote-followed, Going, writes, stops, goes_by}
use Rattle.model.proofs.PairLaws.{pair-first, pair_lt}
use Rattle.model.proofs.AxisLaws.{WalksOn}
use Rattle.model.proofs.RowLaws.{later-least, owner-on, next-in-rows}

-- a fill stops here, or it goes on
data Turn (w : Walk) (t quota : ℕ) : Type 0 where
  stays : (eqb t w.count || ltb quota w.least) ≡ true → Turn w t quota
  goes : t < w.count → w.least ≤ quota → Turn w t quota

turn : (w : Walk) (t quota : ℕ) → t ≤ w.count → Turn w t quota
turn w t quota h = go (eqb t w.count) refl (ltb quota w.least) refl
  where
    go : (b : Bool) → eqb t w.count ≡ b → (c : Bool) → ltb quota w.least ≡ c → Turn w t quota
    go true e c f = stays (rw e)
    go false e true f = stays (rw (e, f))
    go false e false f = goes (omega (arith, eqb-false t w.count e)) (ltb-false quota w.least f)

-- ---- walks that agree

-- two walks with the same elements and steps, at each place that is no count
pub record Agree (w v : Walk) : Type 0 where
  pub count : w.count ≡ v.count
  pub least : w.least ≡ v.least
  pub address : (t : ℕ) → t < w.count → w.address t ≡ v.address t
  pub cost : (t : ℕ) → t < w.count → w.cost t ≡ v.cost t
  pub next : (t : ℕ) → t < w.count → w.next t ≡ v.next t
  pub on : (t : ℕ) → t < w.count → w.next t ≤ w.count

pub fill-same : {w v : Walk} → Agree w v → (t quota : ℕ) (xs : List ℕ) → t ≤ w.count → fill_by w t quota xs ≡ fill_by v t quota xs
unfolding fill_by
fill-same s t quota [] h = refl
fill-same {w} {v} s t quota (x ∷ xs) h =
    go (λ k. fill-same s (w.next t) (quota - w.cost t) xs (s.on t k)) (turn w t quota h)
  where
    go : (t < w.count → fill_by w (w.next t) (quota - w.cost t) xs ≡ fill_by v (w.next t) (quota - w.cost t) xs) → Turn w t quota
        → fill_by w t quota (x ∷ xs) ≡ fill_by v t quota (x ∷ xs)
    go ih (stays e) = stops w t quota (x ∷ xs) e ∙ sym (stops v t quota (x ∷ xs) (rw (← s.count, ← s.least) e))
    go ih (goes k l) =
        writes w t quota x xs (λ e. omega arith) l
        ∙ ap (wrote (w.address t) (w.cost t)) (ih k)
        ∙ (rw (s.address t k, s.cost t k, s.next t k))
        ∙ sym (writes v t quota x xs (λ e. omega (arith, s.count)) (omega (arith, s.least)))

-- ---- one row and those after it

module _ (a b : Axis) (q r : ℕ) where
  -- what g wrote in row r, and then the fill of the rest of the list from the place that follows
  abbrev pub then_rows : ℕ → List ℕ → Filled → Filled
  then_rows quota xs g = followed g (fill_by (walk_on (rows a b)) (next_from a b q r g.place) (quota - g.tries) (drop g.entries xs))

  -- of a fill that stops at once, and of one that writes first
  stopped-rows : (t quota : ℕ) (xs : List ℕ) → fill_by (walk_on (rows a b)) (next_from a b q r t) quota xs ≡ then_rows quota xs (stopped t xs)
  stopped-rows t quota xs = simp (zero-add, sub-zero)

  wrote-rows : (quota x y p : ℕ) (xs : List ℕ) (g : Filled) → wrote y p (then_rows (quota - p) xs g) ≡ then_rows quota (x ∷ xs) (wrote y p g)
  wrote-rows quota x y p xs g = wrote-followed y p g _ ∙ rw (sub-add-eq quota p g.tries)

  in_row : (t : ℕ) → t < a.count → next_from a b q r t ≡ paired a.count t r
  in_row t h = rw (lt-ltb t a.count h)

-- what processor q has of row r is in storage from address `base` on, in the row's order
pub record InRow (a b : Axis) (q r base : ℕ) : Type 0 where
  pub row : r < b.count
  pub address : (u : ℕ) → u < a.count → owns_on a q u ≡ true
      → (walk_on (rows a b)).address (paired a.count u r) ≡ base + rank a.array.owner (a.element u)

module _ {a b : Axis} (walk : WalksOn a) {q r base : ℕ} (c : InRow a b q r base) where
  -- one entry of the row
  step : (t quota x : ℕ) (xs : List ℕ) → t < a.count → owns_on a q t ≡ true → 3 ≤ quota
      → fill_by (walk_on (rows a b)) (paired a.count t r) quota (x ∷ xs)
      ≡ wrote (base + rank a.array.owner (a.element t)) (a.cost t)
      (fill_by (walk_on (rows a b)) (next_from a b q r (a.next t)) (quota - a.cost t) xs)
  step t quota x xs h own l =
      let i = pair_lt a.count b.count t r h c.row in
      let y = c.address t h own in
      let p : (walk_on (rows a b)).cost (paired a.count t r) ≡ a.cost t = ap a.cost (pair-first a.count t r h) in
      let u : (walk_on (rows a b)).next (paired a.count t r) ≡ next_from a b q r (a.next t) =
      next-in-rows a b t r h ∙ ap (λ (o : ℕ). next_from a b o r (a.next t)) (owner-on a q t own) in
      writes (walk_on (rows a b)) (paired a.count t r) quota x xs (λ e. omega arith) l
      ∙ (λ j. wrote (y j) (p j) (fill_by (walk_on (rows a b)) (u j) (quota - p j) xs))

  -- from where the row is gone on with, or is at its end
  along : (t quota : ℕ) (xs : List ℕ) → t ≤ a.count → (t < a.count → owns_on a q t ≡ true)
      → fill_by (walk_on (rows a b)) (next_from a b q r t) quota xs ≡ then_rows a b q r quota xs (fill_by (on_base base (walk_on a)) t quota xs)
  unfolding fill_by WalksOn
  along t quota [] h own = stopped-rows a b q r t quota []
  along t quota (x ∷ xs) h own =
      go (along (a.next t) (quota - a.cost t) xs) (turn (on_base base (walk_on a)) t quota h)
    where
      w : Walk
      w = on_base base (walk_on a)

      go : (a.next t ≤ a.count → (a.next t < a.count → owns_on a q (a.next t) ≡ true)
          → fill_by (walk_on (rows a b)) (next_from a b q r (a.next t)) (quota - a.cost t) xs
          ≡ then_rows a b q r (quota - a.cost t) xs (fill_by w (a.next t) (quota - a.cost t) xs))
          → Turn w t quota → fill_by (walk_on (rows a b)) (next_from a b q r t) quota (x ∷ xs) ≡ then_rows a b q r quota (x ∷ xs) (fill_by w t quota (x ∷ xs))
      go ih (stays e) = stopped-rows a b q r t quota (x ∷ xs) ∙ ap (then_rows a b q r quota (x ∷ xs)) (sym (stops w t quota (x ∷ xs) e))
      go ih (goes k l) =
          let n = later-least a q t k in
          let e : a.next t ≡ later_on a q t = walk q t k (own k) in
          ap (λ (z : ℕ). fill_by (walk_on (rows a b)) z quota (x ∷ xs)) (in_row a b q r t k)
          ∙ step t quota x xs k (own k) l
          ∙ ap (wrote _ (a.cost t)) (ih (rw e n.within) (rw e n.passes))
          ∙ wrote-rows a b q r quota x _ (a.cost t) xs _
          ∙ ap (then_rows a b q r quota (x ∷ xs)) (sym (writes w t quota x xs (λ i. omega arith) l))

  -- from a place of the row on
  pub fill-row : (t quota : ℕ) (xs : List ℕ) → t < a.count → owns_on a q t ≡ true
      → fill_by (walk_on (rows a b)) (paired a.count t r) quota xs ≡ then_rows a b q r quota xs (fill_by (on_base base (walk_on a)) t quota xs)
  fill-row t quota xs h own =
      ap (λ (z : ℕ). fill_by (walk_on (rows a b)) z quota xs) (sym (in_row a b q r t h)) ∙ along t quota xs (omega arith) (λ i. own)

  -- a loop goes on by the fill g of the row
  pub goes-row : {f : Filled} {quota : ℕ} {l : List ℕ} {t paid n : ℕ} → Going (walk_on (rows a b)) f quota l (paired a.count t r) paid n
      → t < a.count → owns_on a q t ≡ true → {g : Filled} → fill_by (on_base base (walk_on a)) t (quota - paid) (drop n l) ≡ g
      → g.entries ≤ length (drop n l) → g.tries ≤ quota - paid → length g.list ≡ length (drop n l)
      → drop g.entries g.list ≡ drop g.entries (drop n l)
      → Going (walk_on (rows a b)) f quota (take n l ++ g.list) (next_from a b q r g.place) (paid + g.tries) (n + g.entries)
  goes-row {quota} {l} {t} {paid} {n} v h own {g} e inside cheap long rest =
      goes_by (walk_on (rows a b)) v g (next_from a b q r g.place) g.list
      (fill-row t (quota - paid) (drop n l) h own ∙ ap (then_rows a b q r (quota - paid) (drop n l)) e ∙ rw rest)
      refl (omega arith) cheap
