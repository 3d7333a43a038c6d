-- A fill along a run of positions: how many entries it writes, each one step on from the one before it, and where it ends. Over
-- any walk that costs 1 try along the run, and then of a section's. Assumes nothing.
use Prim.Native.Nat.{ℕ, suc, ◌+◌, ◌-◌, ◌%◌, ◌≤◌, ◌<◌}
use mathlib.Core.Path.{◌≡◌, refl, sym, ap, ◌∙◌, subst}
use mathlib.Core.Bool.{Bool, true, false, cond}
use mathlib.Core.List.{List, [], ◌∷◌}
use native.Mathlib.Decide.{dec_lt}
use native.Mathlib.Omega.{arith}
use lib.Dec.{leb, ltb, eqb}
use lib.ListN.{length, take}
use borrow.Author.Tests.{eq-eqb, ne_eqb, lt-ltb, le-ltb, ltb-true, leb-true, le-leb}
use Rattle.numbers.proofs.Tests.{both_true}
use Rattle.model.specs.Mappings.{Dealing, Section}
use Rattle.model.specs.Sections.{count, address, owns_at}
use Rattle.model.specs.Steps.{cost_dealt, cost, next_place}
use Rattle.model.specs.Filling.{Walk, Filled, stopped, wrote, fill_by}
use Rattle.model.specs.Questions.{first_no, of_section}
use Rattle.model.specs.Calls.{walk_of}
use Rattle.model.proofs.SectionLaws.{Moved}
use Rattle.section.specs.declared.questions.Strided.{Strided}
use Rattle.section.specs.declared.shares.Span.{Span}
use Rattle.section.specs.declared.shares.Extent.{Extent}
use Rattle.section.specs.declared.shares.Extent.TheVariants.{Run}
use Rattle.section.specs.declared.shares.Share.{Share}
use Rattle.section.specs.Strides.{strided_of, index_at, Bounded}
use Rattle.section.specs.Shares.{extent_in, share_of, owned_of, next_from, address_from, off_base, BasedIn}
use Rattle.section.proofs.StridedLaws.{indices-rise, indices-fall, index-inside}
use Rattle.section.proofs.StridedSections.{bounded}
use Rattle.section.proofs.ShareLaws.{owned-by, next-by, address-by, based-by, RunDealt, run-dealt}
use Rattle.mapping.specs.Parts.{part_in}
use Rattle.fill.specs.declared.ready.Start.{Start}
use Rattle.fill.specs.SectionMoves.{onward}
use Rattle.fill.specs.Ready.{share_from}
use Rattle.fill.specs.RunFills.{addresses_from, entries_in, InRun}
use Rattle.fill.proofs.DriveLaws.{onward-adds}

-- ---- any walk

-- along the places from `from` to high − 1 a walk costs 1 try, and goes on by one position and d in the address; then it ends
pub record Runs (v : Walk) (from high d : ℕ) : Type 0 where
  pub least : v.least ≡ 3
  pub inside : high ≤ v.count
  pub cost : (t : ℕ) → from ≤ t → t < high → v.cost t ≡ 1
  pub next : (t : ℕ) → from ≤ t → t < high → v.next t ≡ cond (ltb (suc t) high) (suc t) v.count
  pub step : (t : ℕ) → from ≤ t → suc t < high → v.address (suc t) ≡ (v.address t + d) % 4294967296

-- what a fill from place t that writes m entries gives
pub record Ends (v : Walk) (high d t m : ℕ) (f : Filled) : Type 0 where
  pub entries : f.entries ≡ m
  pub tries : f.tries ≡ m
  pub place : f.place ≡ cond (ltb (t + m) high) (t + m) v.count
  pub list : take m f.list ≡ addresses_from m (v.address t) d

-- at the count nothing is written
pub at_count : (v : Walk) (quota : ℕ) (l : List ℕ) → fill_by v v.count quota l ≡ stopped v.count l
unfolding fill_by
at_count v quota [] = refl
at_count v quota (x ∷ xs) = rw (eq-eqb v.count v.count refl)

module _ (v : Walk) (from high d : ℕ) (r : Runs v from high d) where
  none : (t : ℕ) (l : List ℕ) (m : ℕ) → m ≡ 0 → t < high → Ends v high d t m (stopped t l)
  unfolding addresses_from
  none t l m e h =
      let z : t + 0 ≡ t = omega arith in
      rw e (record { entries = refl; tries = refl; place = rw (z, lt-ltb t high h); list = refl })

  pub run-fill : (l : List ℕ) (t quota : ℕ) → from ≤ t → t < high → Ends v high d t (entries_in high t quota (length l)) (fill_by v t quota l)
  unfolding fill_by addresses_from
  run-fill [] t quota a h = none t [] _ (omega arith) h
  run-fill (x ∷ xs) t quota a h = go (run-fill xs (suc t) (quota - 1) (omega arith)) (dec_lt quota 3) (dec_lt (suc t) high)
    where
      other : eqb t v.count ≡ false
      other = ne_eqb t v.count (λ e. omega (arith, r.inside))

      few : quota < 3 → entries_in high t quota (suc (length xs)) ≡ 0
      few q = omega arith

      -- one entry is written, and the walk goes on from u
      on : (m u : ℕ) → v.next t ≡ u → 3 ≤ quota → entries_in high t quota (suc (length xs)) ≡ suc m
          → Ends v high d t (suc m) (wrote (v.address t) 1 (fill_by v u (quota - 1) xs))
          → Ends v high d t (entries_in high t quota (suc (length xs))) (fill_by v t quota (x ∷ xs))
      on m u n q e f =
          let c = r.cost t a h in
          let moved : wrote (v.address t) (v.cost t) (fill_by v (v.next t) (quota - v.cost t) xs) ≡ wrote (v.address t) 1 (fill_by v u (quota - 1) xs) =
          λ i. wrote (v.address t) (c i) (fill_by v (n i) (quota - c i) xs) in
          let tries : ltb quota v.least ≡ false = ap (ltb quota) r.least ∙ le-ltb quota 3 q in
          rw (other, tries, e) (subst (Ends v high d t (suc m)) (sym moved) f)

      go : (suc t < high → Ends v high d (suc t) (entries_in high (suc t) (quota - 1) (length xs)) (fill_by v (suc t) (quota - 1) xs))
          → Dec (quota < 3) → Dec (suc t < high)
          → Ends v high d t (entries_in high t quota (suc (length xs))) (fill_by v t quota (x ∷ xs))
      go ih (yes q) s =
          let tries : ltb quota v.least ≡ true = ap (ltb quota) r.least ∙ lt-ltb quota 3 q in
          rw (other, tries) (none t (x ∷ xs) _ (few q) h)
      go ih (no q) (yes s) =
          let f = ih s in
          let m : ℕ = entries_in high (suc t) (quota - 1) (length xs) in
          let more : entries_in high t quota (suc (length xs)) ≡ suc m = omega arith in
          let here : suc t + m ≡ t + suc m = omega arith in
          on m (suc t) (r.next t a h ∙ rw (lt-ltb (suc t) high s)) (omega arith) more
          (record {
            entries = ap suc f.entries;
            tries = omega (arith, f.tries);
            place = f.place ∙ ap (λ (n : ℕ). cond (ltb n high) n v.count) here;
            list = stored m _ f.list (r.step t a s);
          })
        where
          stored : (m : ℕ) (l : List ℕ) → take m l ≡ addresses_from m (v.address (suc t)) d → v.address (suc t) ≡ (v.address t + d) % 4294967296
              → v.address t ∷ take m l ≡ addresses_from (suc m) (v.address t) d
          stored m l e g = ap (λ (k : List ℕ). v.address t ∷ k) (e ∙ ap (λ (n : ℕ). addresses_from m n d) g)
      go ih (no q) (no s) =
          let more : entries_in high t quota (suc (length xs)) ≡ 1 = omega arith in
          on 0 v.count (r.next t a h ∙ rw (le-ltb (suc t) high (omega arith))) (omega arith) more
          (rw (at_count v (quota - 1) xs)
          (record { entries = refl; tries = refl; place = rw (le-ltb (t + 1) high (omega arith)); list = refl }))

-- ---- a section

-- one position on the index moves by s
index_on : (w : Strided) → Bounded w → (t : ℕ) → suc t < w.count → Moved w.upward (index_at w t) (index_at w (suc t)) w.stride
index_on w b t h = go w.upward refl
  where
    go : (up : Bool) → w.upward ≡ up → Moved up (index_at w t) (index_at w (suc t)) w.stride
    go true e = omega (arith, indices-rise w e t, indices-rise w e (suc t))
    go false e = omega (arith, indices-fall w b e t (omega arith), indices-fall w b e (suc t) h)

off-base : (up : Bool) (i j d b : ℕ) → b ≤ i → b ≤ j → Moved up i j d → Moved up (i - b) (j - b) d
off-base true i j d b h k m = omega arith
off-base false i j d b h k m = omega arith

module _ (s : Start) (span : Span) (i : InRun s span) (x : Section) (ok : first_no (of_section x) ≡ 0) (same : share_from s ≡ share_of x s.processor) where
  abbrev q : ℕ
  q = s.processor

  abbrev w : Strided
  w = strided_of x

  extent-is : extent_in w (part_in x.mapping.dealing q) ≡ Run span
  extent-is = sym (ap (λ (h : Share). h.extent) same) ∙ i.extent

  pub dealt : RunDealt x span
  dealt = run-dealt x ok q span extent-is

  -- the place lies in the run
  pub placed : (span.low.0 ≤ s.place.0) × (s.place.0 < span.high.0)
  placed =
      let mine : owned_of s.section q s.extent s.place.0 ≡ true = i.accepted.started.owned i.below in
      let b = both_true (leb span.low.0 s.place.0) (ltb s.place.0 span.high.0) (subst (λ (e : Extent). owned_of s.section q e s.place.0 ≡ true) i.extent mine) in
      (leb-true span.low.0 s.place.0 b.0, ltb-true s.place.0 span.high.0 b.1)

  module _ (t : ℕ) (a : s.place.0 ≤ t) (h : t < span.high.0) where
    here : t < count x
    here = omega (arith, dealt.inside)

    owned : owns_at x q t ≡ true
    owned =
        owned-by x ok q t here
        ∙ ap (λ (e : Extent). owned_of w q e t) extent-is
        ∙ rw (le-leb span.low.0 t (omega (arith, placed.0)), lt-ltb t span.high.0 h)

    pub address_is : address x t ≡ off_base w span t
    address_is = address-by x ok q t here owned ∙ ap (λ (e : Extent). address_from w e t) extent-is

    pub based : span.base.0 ≤ index_at w t
    based = subst (λ (e : Extent). BasedIn w e t) extent-is (based-by x ok q t here owned)

    cost-is : cost x t ≡ 1
    unfolding cost
    cost-is = ap (λ (z : Dealing). cost_dealt z x t) dealt.dealt

    next-is : next_place x t ≡ cond (ltb (suc t) span.high.0) (suc t) (count x)
    unfolding strided_of
    next-is = next-by x ok q t here owned ∙ ap (λ (e : Extent). next_from w e t) extent-is

  low : (t : ℕ) → t < count x → off_base w span t < 4294967296
  unfolding strided_of
  low t h = omega (arith, index-inside w (bounded x ok) t h, (bounded x ok).sized.size-high)

  pub runs : Runs (walk_of x) s.place.0 span.high.0 (onward w.upward w.stride)
  unfolding walk_of strided_of
  runs = record {
    least = refl;
    inside = dealt.inside;
    cost = cost-is;
    next = next-is;
    step = λ t a h.
        let k : suc t < count x = omega (arith, dealt.inside) in
        let on : Moved w.upward (off_base w span t) (off_base w span (suc t)) w.stride =
        off-base w.upward _ _ _ _ (based t a (omega arith)) (based (suc t) (omega arith) h) (index_on w (bounded x ok) t k) in
        address_is (suc t) (omega arith) h
        ∙ onward-adds w.upward w.stride (off_base w span t) (off_base w span (suc t)) (low t (omega arith)) (low (suc t) k) on
        ∙ ap (λ (n : ℕ). (n + onward w.upward w.stride) % 4294967296) (sym (address_is t a (omega arith)));
  }
