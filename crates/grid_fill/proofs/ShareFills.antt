-- Fills of one dimension's share: from a place of it they are accepted, one entry of them is an address and the place after it, and
-- with each address put higher they are those of a row. Assumes nothing.
use Prim.Native.Nat.{ℕ, ◌+◌, ◌-◌, ◌/◌, ◌%◌, ◌≤◌, ◌<◌}
use mathlib.Core.Path.{◌≡◌, refl, sym, ap, ◌∙◌, subst}
use mathlib.Core.Bool.{Bool, true, false, cond, ◌||◌}
use mathlib.Core.List.{List, [], ◌∷◌, map}
use native.Mathlib.Nat.{mod-eq_of_lt}
use native.Mathlib.Omega.{arith}
use lib.Dec.{eqb, ltb, lit≤}
use lib.ListN.{length, length-map, get_or, take, drop}
use lib.Seq.{length-take-le, take_at}
use borrow.Author.Tests.{eqb-false}
use Rattle.numbers.specs.Words.{words_of}
use Rattle.numbers.proofs.WordLaws.{words-length}
use Rattle.model.specs.Mappings.{Section}
use Rattle.model.specs.Sections.{count, address}
use Rattle.model.specs.Questions.{first_no, of_section}
use Rattle.model.specs.Filling.{Walk, Filled, stopped, wrote, fill_by}
use Rattle.model.specs.Calls.{walk_of}
use Rattle.model.specs.ByteFills.{store_entries}
use Rattle.model.specs.Axes.{axis_of, walk_on}
use Rattle.model.proofs.FillLoopLaws.{writes}
use Rattle.model.proofs.ByteStores.{stores-length}
use Rattle.model.proofs.ByteFillsHold.{Written, fill-written, stored-words, address-low, next_le}
use Rattle.section.specs.declared.shares.Share.{Share}
use Rattle.section.specs.Strides.{strided_of, Bounded}
use Rattle.section.specs.Shares.{share_of}
use Rattle.section.proofs.StridedSections.{bounded}
use Rattle.walk.specs.declared.moves.Report.{Report}
use Rattle.walk.specs.Driving.{ByteFilled}
use Rattle.fill.specs.Ready.{Accepted, FillsBytesFrom}
use Rattle.grid_fill.specs.Entries.{higher, AllLow}
use Rattle.grid_fill.specs.Steps.{from_place, Placed}
use Rattle.grid_fill.specs.Rows.{RowFilled}
use Rattle.grid_fill.proofs.BaseFills.{on_top, fill-base}
use Rattle.walk.proofs.StoreLaws.{stores-over}

-- ---- a share's fills are accepted

pub place-bounded : (s : Share) (t : ℕ) → Placed s t → Bounded s.section
place-bounded s t p = subst Bounded (sym (ap (λ (h : Share). h.section) p.accepted.share)) (bounded p.accepted.whole p.accepted.none)

pub place-accepted : (s : Share) (t quota : ℕ) → Placed s t → 3 ≤ quota → quota ≤ 1000000 → Accepted (from_place s t quota)
place-accepted s t quota p least most = record {
  started = record {
    section-bounded = place-bounded s t p;
    processor = p.accepted.processor;
    place = omega (arith, p.below);
    owned = λ h. p.owned;
    least = least;
    most = most;
  };
  source = p.accepted.whole;
  accepted = p.accepted.none;
  same = p.accepted.share;
}

-- its place is one of the section's
below : (s : Share) (t : ℕ) → Placed s t → (x : Section) → s ≡ share_of x s.processor → t < count x
unfolding strided_of
below s t p x same = omega (arith, p.below, ap (λ (h : Share). h.section.count) same)

-- ---- one entry

one_entry : (w : Walk) (t quota : ℕ) → (t ≡ w.count → ⊥) → w.least ≤ quota → (l : List ℕ) → length l ≡ 1
    → fill_by w t quota l ≡ record { entries = 1; tries = w.cost t + 0; place = w.next t; list = w.address t ∷ [] }
unfolding fill_by
one_entry w t quota h k [] e = absurd (omega arith)
one_entry w t quota h k (y ∷ []) e = writes w t quota y [] h k
one_entry w t quota h k (y ∷ z ∷ l) e = absurd (omega arith)

module _ (s : Share) (t : ℕ) (p : Placed s t) (x : Section) (ok : first_no (of_section x) ≡ 0) (same : s ≡ share_of x s.processor) where
  -- what a fill leaves, and that its addresses are low
  left_by : (quota : ℕ) (l : List ℕ) → Written l (fill_by (walk_of x) t quota l)
  unfolding walk_of
  left_by quota l =
      fill-written (walk_of x) (λ u k. omega (arith, address-low x ok u k)) (next_le x ok) t quota l (omega (arith, below s t p x same))

  pub step_is : (bs bs' : List ℕ) (r : Report) → length bs ≡ 4 → FillsBytesFrom (from_place s t 1000000) bs bs' r
      → (get_or (words_of 4 bs') 0 0 ≡ (walk_on (axis_of x)).address t) × (r.place.0 ≡ (walk_on (axis_of x)).next t)
  unfolding walk_of address
  step_is bs bs' r long f =
      let g : Filled = fill_by (walk_of x) t 1000000 (words_of 4 bs) in
      let b = f x ok same in
      let one = one_entry (walk_of x) t 1000000 (λ e. omega (arith, below s t p x same)) (lit≤ tt) (words_of 4 bs) (omega (arith, words-length 4 bs)) in
      let words : words_of 4 bs' ≡ g.list = ap (words_of 4) b.bytes ∙ stored-words bs g (left_by 1000000 (words_of 4 bs)) in (
        ap (λ (l : List ℕ). get_or l 0 0) (words ∙ ap (λ (h : Filled). h.list) one),
        b.place ∙ ap (λ (h : Filled). h.place) one,
      )

-- ---- a row

-- a fill's addresses are low where those of its walk are
pub fill-low : (w : Walk) → ((t : ℕ) → t < w.count → w.address t < 2147483648) → ((t : ℕ) → t < w.count → w.next t ≤ w.count)
    → (t quota : ℕ) (l : List ℕ) → t ≤ w.count → AllLow (take (fill_by w t quota l).entries (fill_by w t quota l).list)
unfolding fill_by
fill-low w low on t quota [] h = tt
fill-low w low on t quota (x ∷ xs) h =
    go (fill_by w (w.next t) (quota - w.cost t) xs) (λ k. fill-low w low on (w.next t) (quota - w.cost t) xs (on t k)) (eqb t w.count) refl (ltb quota w.least)
  where
    go : (r : Filled) → (t < w.count → AllLow (take r.entries r.list)) → (b : Bool) → eqb t w.count ≡ b → (c : Bool)
        → let f : Filled = cond (b || c) (stopped t (x ∷ xs)) (wrote (w.address t) (w.cost t) r) in AllLow (take f.entries f.list)
    go r ih true e c = tt
    go r ih false e true = tt
    go r ih false e false = let k : t < w.count = omega (arith, eqb-false t w.count e) in (low t k, ih k)

-- with a base that is low no address wraps
pub higher-is : (base : ℕ) → base < 2147483648 → (xs : List ℕ) → AllLow xs → higher base xs ≡ map (λ (z : ℕ). base + z) xs
higher-is base h [] l = refl
higher-is base h (x ∷ xs) l =
    let e : (x + base) % 4294967296 ≡ base + x = mod-eq_of_lt (omega (arith, l.0)) ∙ omega arith in
    λ i. e i ∷ higher-is base h xs l.1 i

pub higher-length : (add : ℕ) (xs : List ℕ) → length (higher add xs) ≡ length xs
higher-length add xs = length-map xs (λ x. (x + add) % 4294967296)

-- what was written on a base is at the front
pub on-top-front : (base : ℕ) (g : Filled) → g.entries ≤ length g.list
    → take g.entries (on_top base g).list ≡ map (λ (z : ℕ). base + z) (take g.entries g.list)
on-top-front base g h =
    take_at (map (λ (z : ℕ). base + z) (take g.entries g.list)) (drop g.entries g.list) g.entries
    (length-map (take g.entries g.list) (λ (z : ℕ). base + z) ∙ length-take-le g.entries g.list h)

module _ (s : Share) (t base quota : ℕ) (p : Placed s t) (b : base < 2147483648) where
  -- there is room for what a fill wrote
  pub row_room : (bs bs' : List ℕ) (r : Report) → FillsBytesFrom (from_place s t quota) bs bs' r → (r.entries ≤ length bs' / 4) × (length bs' ≡ length bs)
  row_room bs bs' r f =
      let x = p.accepted.whole in
      let ok = p.accepted.none in
      let same = p.accepted.share in
      let d = f x ok same in
      let long : length bs' ≡ length bs = ap length d.bytes ∙ stores-length bs 0 _ in
      (rw long (omega (arith, d.entries, (left_by s t p x ok same quota (words_of 4 bs)).inside, words-length 4 bs)), long)

  pub row-filled : (bs bs' bs'' : List ℕ) (r : Report) → FillsBytesFrom (from_place s t quota) bs bs' r
      → bs'' ≡ store_entries bs' 0 (higher base (take r.entries (drop 0 (words_of 4 bs')))) → RowFilled s t base quota bs bs'' r
  unfolding walk_of address
  row-filled bs bs' bs'' r f put x ok same =
      let g : Filled = fill_by (walk_of x) t quota (words_of 4 bs) in
      let d = f x ok same in
      let w = left_by s t p x ok same quota (words_of 4 bs) in
      let ys : List ℕ = take g.entries g.list in
      let inside : g.entries ≤ length g.list = omega (arith, w.inside, w.long) in
      let long : length ys ≡ g.entries = length-take-le g.entries g.list inside in
      let low : AllLow ys = fill-low (walk_of x) (address-low x ok) (next_le x ok) t quota (words_of 4 bs) (omega (arith, below s t p x same)) in
      let words : words_of 4 bs' ≡ g.list = ap (words_of 4) d.bytes ∙ stored-words bs g w in
      let top = fill-base base (walk_on (axis_of x)) t quota (words_of 4 bs) in
      let stored : bs'' ≡ store_entries bs 0 (map (λ (z : ℕ). base + z) ys) =
      put
      ∙ (λ i. store_entries (d.bytes i) 0 (higher base (take (d.entries i) (words i))))
      ∙ stores-over bs ys (higher base ys) (sym (higher-length base ys)) (omega (arith, higher-length base ys, w.inside, words-length 4 bs))
      ∙ ap (store_entries bs 0) (higher-is base b ys low) in
      subst (λ (h : Filled). ByteFilled h bs bs'' r) (sym top)
      (record { entries = d.entries; tries = d.tries; place = d.place; bytes = stored ∙ ap (store_entries bs 0) (sym (on-top-front base g inside)) })
