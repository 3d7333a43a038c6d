-- Fills of a list of bytes by parts of it, along any walk: where a fill that wrote so many entries ends, a fill of the front
-- of a list, and one over it. Assumes nothing.
use Prim.Native.Nat.{ℕ, ◌+◌, ◌-◌, ◌*◌, ◌/◌, ◌≤◌, ◌<◌}
use mathlib.Core.Path.{◌≡◌, refl, sym, ap, ◌∙◌}
use mathlib.Core.Bool.{or-true}
use mathlib.Core.List.{List, ◌++◌}
use mathlib.Core.Logic.{◌⊎◌, inl, inr}
use native.Mathlib.Omega.{arith}
use lib.Dec.{eqb}
use lib.ListN.{length, take, drop, drop_of_length-le}
use lib.Seq.{length-take-le, take_at}
use borrow.Author.Tests.{eq-eqb, lt-ltb}
use Rattle.numbers.specs.Words.{words_of}
use Rattle.numbers.proofs.WordLaws.{words-length}
use Rattle.model.specs.Filling.{Walk, Filled, stopped, fill_by}
use Rattle.model.specs.ByteFills.{store_entries}
use Rattle.model.proofs.FillLoopLaws.{stops, fill-over}
use Rattle.model.proofs.ByteStores.{stores-length}
use Rattle.walk.specs.declared.moves.Report.{Report}
use Rattle.walk.specs.Driving.{ByteFilled}
use Rattle.walk.proofs.StoreLaws.{stores-append, stores-over, stores-front}
use Rattle.walk.proofs.PlaceLaws.{places_on, costs_on, addresses_on, addresses-length, addresses-add, Open, stretch, fill-stretch, fill-stretched}

module _ (w : Walk) (t quota : ℕ) where
  -- why a fill that wrote n entries of so many ends there
  abbrev pub Ends : ℕ → ℕ → Type 0
  Ends n room = (n ≡ room) ⊎ ((places_on w n t ≡ w.count) ⊎ (quota - costs_on w n t < w.least))

  -- what it reports
  pub record Reports (n : ℕ) (r : Report) : Type 0 where
    pub entries : r.entries ≡ n
    pub tries : r.tries ≡ costs_on w n t
    pub place : r.place.0 ≡ places_on w n t

  module _ (bs : List ℕ) (n : ℕ) (inside : n ≤ length bs / 4) (each : (j : ℕ) → j < n → Open w t quota j) where
    rest-stops : Ends n (length bs / 4) → fill_by w (places_on w n t) (quota - costs_on w n t) (drop n (words_of 4 bs)) ≡ stopped (places_on w n t) (drop n (words_of 4 bs))
    unfolding fill_by
    rest-stops (inl h) =
        let out : length (words_of 4 bs) ≤ n = omega (arith, words-length 4 bs) in
        rw (drop_of_length-le (words_of 4 bs) out)
    rest-stops (inr (inl h)) = stops w _ _ _ (rw (eq-eqb (places_on w n t) w.count h))
    rest-stops (inr (inr h)) = stops w _ _ _ (rw (lt-ltb (quota - costs_on w n t) w.least h) (or-true (eqb (places_on w n t) w.count)))

    written : fill_by w t quota (words_of 4 bs) ≡ stretch w n t quota (words_of 4 bs)
    written = fill-stretch w n t quota (words_of 4 bs) (omega (arith, words-length 4 bs)) each

    front-is : (l : List ℕ) → take n (addresses_on w n t ++ l) ≡ addresses_on w n t
    front-is l = take_at (addresses_on w n t) l n (addresses-length w n t)

    pub ends_at : Ends n (length bs / 4) → {r : Report} → Reports n r → {bs' : List ℕ} → bs' ≡ store_entries bs 0 (addresses_on w n t)
        → ByteFilled (fill_by w t quota (words_of 4 bs)) bs bs' r
    unfolding stretch
    ends_at why {r} v {bs'} e =
        let z : n + 0 ≡ n = omega arith in
        rw (written, rest-stops why) (record {
          entries = v.entries ∙ sym z;
          tries = v.tries ∙ omega arith;
          place = v.place;
          bytes = e ∙ ap (store_entries bs 0) (sym (ap (λ (k : ℕ). take k (addresses_on w n t ++ drop n (words_of 4 bs))) z ∙ front-is _));
        })

  -- ---- a fill of the front

  -- it wrote its entries there, and nothing else
  pub record Part (e : ℕ) (bs bs' : List ℕ) (r : Report) : Type 0 where
    pub few : r.entries ≤ e
    pub inside : e ≤ length bs / 4
    pub each : (j : ℕ) → j < r.entries → Open w t quota j
    pub reports : Reports r.entries r
    pub bytes : bs' ≡ store_entries bs 0 (addresses_on w r.entries t)

  pub front-part : (bs : List ℕ) (e : ℕ) → e ≤ length bs / 4 → {front : List ℕ} {r : Report}
      → ByteFilled (fill_by w t quota (words_of 4 (take (4 * e) bs))) (take (4 * e) bs) front r → Part e bs (front ++ drop (4 * e) bs) r
  front-part bs e h {front} {r} b =
      let l : List ℕ = words_of 4 (take (4 * e) bs) in
      let long : length (take (4 * e) bs) ≡ 4 * e = length-take-le (4 * e) bs (omega arith) in
      let v = fill-stretched w t quota l in
      let size : length l ≡ e = words-length 4 (take (4 * e) bs) ∙ omega (arith, long) in
      let xs : List ℕ = addresses_on w r.entries t in
      let is : front ≡ store_entries (take (4 * e) bs) 0 xs = b.bytes ∙ ap (store_entries (take (4 * e) bs) 0) (v.list ∙ ap (λ (k : ℕ). addresses_on w k t) (sym b.entries)) in
      let few : r.entries ≤ e = omega (arith, b.entries, v.inside, size) in
      record {
        few = few;
        inside = h;
        each = λ j g. v.each j (omega (arith, b.entries));
        reports = record {
          entries = refl;
          tries = b.tries ∙ v.tries ∙ ap (λ (k : ℕ). costs_on w k t) (sym b.entries);
          place = b.place ∙ v.place ∙ ap (λ (k : ℕ). places_on w k t) (sym b.entries);
        };
        bytes = ap (λ (k : List ℕ). k ++ drop (4 * e) bs) is ∙ stores-front bs e xs (omega (arith, addresses-length w r.entries t)) (omega arith);
      }

  -- where it came to the count, it is the fill of the whole list
  pub part-ends : {e : ℕ} {bs bs' : List ℕ} {r : Report} → Part e bs bs' r → r.place.0 ≡ w.count → ByteFilled (fill_by w t quota (words_of 4 bs)) bs bs' r
  part-ends {bs = bs} {r = r} p e =
      ends_at bs r.entries (omega (arith, p.few, p.inside)) p.each (inr (inl (sym p.reports.place ∙ e))) p.reports p.bytes

  -- the whole list filled after it, from the start
  pub over-part : {e : ℕ} {bs bs₁ bs' : List ℕ} {r₁ r : Report} → Part e bs bs₁ r₁
      → ByteFilled (fill_by w t quota (words_of 4 bs₁)) bs₁ bs' r → ByteFilled (fill_by w t quota (words_of 4 bs)) bs bs' r
  unfolding stretch
  over-part {e} {bs} {bs₁} {bs'} {r₁} {r} p b =
      let l : List ℕ = words_of 4 bs in
      let l₁ : List ℕ = words_of 4 bs₁ in
      let n : ℕ = r₁.entries in
      let ys : List ℕ = addresses_on w n t in
      let size : length ys ≡ n = addresses-length w n t in
      let same : length bs₁ ≡ length bs = ap length p.bytes ∙ stores-length bs 0 ys in
      let long : length l₁ ≡ length l = words-length 4 bs₁ ∙ ap (λ (k : ℕ). k / 4) same ∙ sym (words-length 4 bs) in
      let over = fill-over w t quota l₁ l long in
      let f₁ : Filled = fill_by w t quota l₁ in
      let N : ℕ = f₁.entries in
      let more : N ≡ n + (N - n) =
      omega (arith, ap (λ (g : Filled). g.entries) (fill-stretch w n t quota l₁ (omega (arith, p.few, p.inside, long, words-length 4 bs)) p.each)) in
      let zs : List ℕ = addresses_on w (N - n) (places_on w n t) in
      let all : addresses_on w N t ≡ ys ++ zs = ap (λ (k : ℕ). addresses_on w k t) more ∙ addresses-add w n (N - n) t in
      let again : store_entries (store_entries bs 0 ys) 0 ys ≡ store_entries bs 0 ys = stores-over bs ys ys refl (omega (arith, size, p.few, p.inside)) in
      let twice : store_entries (store_entries bs 0 ys) 0 (ys ++ zs) ≡ store_entries bs 0 (ys ++ zs) =
      stores-append (store_entries bs 0 ys) 0 ys zs ∙ ap (λ (k : List ℕ). store_entries k (0 + length ys) zs) again ∙ sym (stores-append bs 0 ys zs) in
      let entries : (fill_by w t quota l).entries ≡ N = ap (λ (g : Filled). g.entries) over in
      record {
        entries = b.entries ∙ sym entries;
        tries = b.tries ∙ sym (ap (λ (g : Filled). g.tries) over);
        place = b.place ∙ sym (ap (λ (g : Filled). g.place) over);
        bytes =
            b.bytes
            ∙ (λ i. store_entries (p.bytes i) 0 ((fill-stretched w t quota l₁).list i))
            ∙ ap (store_entries (store_entries bs 0 ys) 0) all
            ∙ twice
            ∙ ap (store_entries bs 0) (sym ((fill-stretched w t quota l).list ∙ ap (λ (k : ℕ). addresses_on w k t) entries ∙ all));
      }
