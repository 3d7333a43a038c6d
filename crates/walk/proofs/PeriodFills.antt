-- A fill of a list of bytes along a walk that repeats: its first period is filled, so many whole ones are passed, steps are
-- taken from there on, and the entries are copies. Assumes nothing.
use Prim.Native.Nat.{ℕ, zero, suc, ◌+◌, ◌-◌, ◌*◌, ◌/◌, ◌%◌, ◌^◌, ◌≤◌, ◌<◌}
use mathlib.Core.Path.{◌≡◌, sym, ap, ◌∙◌, subst}
use mathlib.Core.Bool.{true}
use mathlib.Core.List.{List, ◌++◌}
use mathlib.Core.Logic.{◌⊎◌, inl, inr}
use native.Mathlib.Decide.{dec_lt}
use native.Mathlib.Nat.{mul-le-mul_right}
use native.Mathlib.Omega.{arith}
use lib.ListN.{length, get_or, take, drop}
use lib.Seq.{length-take-le, get_or-take, ext_get_or, take-add}
use borrow.Author.Tests.{le-ltb}
use Rattle.numbers.specs.Words.{words_of}
use Rattle.numbers.proofs.WordLaws.{words-length}
use Rattle.model.specs.Filling.{Walk, fill_by}
use Rattle.model.specs.ByteFills.{store_entries}
use Rattle.model.proofs.ByteStores.{AllFit, stores-length}
use Rattle.walk.specs.declared.moves.Moves.{Moves}
use Rattle.walk.specs.declared.moves.State.{State}
use Rattle.walk.specs.declared.moves.Made.{Made}
use Rattle.walk.specs.declared.moves.Report.{Report}
use Rattle.walk.specs.Moving.{add_from, at_most}
use Rattle.walk.specs.Driving.{Paces, ByteFilled}
use Rattle.walk.specs.Bursts.{steps_on}
use Rattle.walk.specs.Repeating.{StepsUntil}
use Rattle.walk.specs.Copying.{Extends}
use Rattle.walk.proofs.MoveLaws.{at-most-is, at-most-le}
use Rattle.walk.proofs.StoreLaws.{stores-append, put-words}
use Rattle.walk.proofs.PlaceLaws.{places_on, costs_on, addresses_on, places-add, costs-add, places-suc, costs-rise, addresses-length, addresses-at, Open}
use Rattle.walk.proofs.RepeatLaws.{Inside, Beside, Along, along, inside-mine}
use Rattle.walk.proofs.WholePeriods.{Level, along-address, Whole, whole, Stepped, steps-walk}
use Rattle.walk.proofs.PartFills.{Ends, ends_at, Part}

module _ (w : Walk) (m : Moves) (p : Paces w m) (low : (u : ℕ) → u < w.count → w.address u < 256 ^ 4) where
  fits : (n t : ℕ) → ((j : ℕ) → j < n → places_on w j t < w.count) → AllFit (addresses_on w n t)
  unfolding places_on addresses_on
  fits zero t h = tt
  fits (suc n) t h = (low t (h 0 (omega arith)), fits n (w.next t) (λ j g. h (suc j) (omega arith)))

  -- places from which a fill goes on lie before the count
  pub open-inside : {t quota : ℕ} → t ≤ w.count → p.mine t ≡ true → (k : ℕ) → ((j : ℕ) → j < k → Open w t quota j)
      → ((j : ℕ) → j < k → places_on w j t < w.count) × (places_on w k t ≤ w.count)
  unfolding places_on
  open-inside h mine zero o = ((λ j g. absurd (omega arith)), h)
  open-inside {t} {quota} h mine (suc k) o =
      let before = open-inside {t = t} {quota = quota} h mine k (λ j g. o j (omega arith)) in
      let other = (o k (omega arith)).place in
      let here : places_on w k t < w.count = omega (arith, before.1) in
      let all : (j : ℕ) → j < suc k → places_on w j t < w.count =
      λ j g. elim (dec_lt j k) [
        | yes l ↦ before.0 j l
        | no n ↦ let e : j ≡ k = omega arith in rw e here
      ] in
      let e = places-suc w k t ∙ p.next (places_on w k t) here (inside-mine w m p mine k (λ j g. all j (omega arith))) in
      (all, rw e (at-most-le w.count _))

  -- the first entry that a fill of the front wrote
  pub first_word : {t quota e : ℕ} {bs bs₁ : List ℕ} {r : Report} → t ≤ w.count → p.mine t ≡ true → Part w t quota e bs bs₁ r → 0 < r.entries
      → get_or (words_of 4 bs₁) 0 0 ≡ w.address t
  unfolding places_on
  first_word {t} {quota} {bs = bs} {bs₁ = bs₁} {r = r} h mine part some =
      let n : ℕ = r.entries in
      let xs : List ℕ = addresses_on w n t in
      let size : length xs ≡ n = addresses-length w n t in
      let all = (open-inside {t = t} {quota = quota} h mine n part.each).0 in
      let put = put-words bs bs₁ 0 xs part.bytes (omega (arith, size, part.few, part.inside)) (fits n t all) in
      sym (get_or-take (length xs) (words_of 4 bs₁) 0 0 (omega (arith, size))) ∙ ap (λ (k : List ℕ). get_or k 0 0) put.front ∙ addresses-at w n t 0 some

  module _ (level : Level w m p) (t quota e P A : ℕ) (bs bs₁ bs₂ : List ℕ) (r₁ : Report) (mine : p.mine t ≡ true) (before : t ≤ w.count)
      (least : w.least ≡ 3) (short : 0 < e) (part : Part w t quota e bs bs₁ r₁) (full : r₁.entries ≡ e) (back : r₁.place.0 ≡ t + P) (far : t + P < w.count)
      (column : p.column (t + P) ≡ p.column t) (moved : w.address (t + P) ≡ (w.address t + A) % 4294967296) where
    period : places_on w e t ≡ t + P
    period = ap (λ (k : ℕ). places_on w k t) (sym full) ∙ sym part.reports.place ∙ back

    inside : Inside w m p t e
    inside j h =
        elim (dec_lt j e) [
          | yes l ↦ (open-inside {t = t} {quota = quota} before mine r₁.entries part.each).0 j (omega (arith, full))
          | no n ↦
              let k : j ≡ e = omega arith in
              rw (k, period) far
        ]

    start : Beside w m p P t
    start = record {
      far = far;
      mine = mine;
      mine' = subst (λ (z : ℕ). p.mine z ≡ true) period (inside-mine w m p mine e inside);
      column = column;
    }

    -- so many whole periods, and steps from there on
    module _ (i : ℕ) (ahead : t + i * P < w.count) (cost : i * r₁.tries + 3 ≤ quota) (z : State) (at : z.place.0 ≡ t + i * P)
        (paid : z.paid ≡ i * r₁.tries) (column₀ : z.column ≡ p.column t) (last : Made)
        (steps : StepsUntil m w.count quota z (length bs / 4 - i * e) last) where
      abbrev n : ℕ
      n = i * e + last.turns

      v : Whole w m p start period inside i
      v = whole w m p start period inside i ahead

      tries : costs_on w (i * e) t ≡ i * r₁.tries
      tries = v.cost ∙ ap (λ (c : ℕ). i * c) (sym (part.reports.tries ∙ ap (λ (k : ℕ). costs_on w k t) full))

      on : (k : ℕ) → k ≤ last.turns → Stepped w m p (add_from m) z (t + i * P) at (column₀ ∙ sym v.beside.column) v.beside.mine' k
      on k h = steps-walk w m p (add_from m) z (t + i * P) at _ _ ahead k (λ j g. (steps.each j (omega arith)).0)

      place-on : (k : ℕ) → k ≤ last.turns → places_on w (i * e + k) t ≡ at_most w.count (steps_on m (add_from m) k z).place.0
      place-on k h = places-add w (i * e) k t ∙ ap (places_on w k) v.place ∙ (on k h).place

      cost-on : (k : ℕ) → k ≤ last.turns → costs_on w (i * e + k) t ≡ (steps_on m (add_from m) k z).paid
      cost-on k h =
          costs-add w (i * e) k t ∙ (λ j. tries j + costs_on w k (v.place j)) ∙ sym ((on k h).cost ∙ ap (λ (c : ℕ). c + costs_on w k (t + i * P)) paid)

      -- before each entry the count is not reached, and tries are left
      each-place : (j : ℕ) → j < n → places_on w j t < w.count
      each-place j h = elim (dec_lt j (i * e)) [
        | yes l ↦ v.all j (omega arith)
        | no l ↦
            let k : ℕ = j - i * e in
            let cut : j ≡ i * e + k = omega arith in
            let here = (steps.each k (omega arith)).0 in
            let is = place-on k (omega arith) ∙ at-most-is w.count (steps_on m (add_from m) k z).place.0 (omega arith) in
            rw (cut, is) here
      ]

      each-cost : (j : ℕ) → j < n → costs_on w j t + 3 ≤ quota
      each-cost j h = elim (dec_lt j (i * e)) [
        | yes l ↦ omega (arith, costs-rise w j (i * e) t (omega arith), tries)
        | no l ↦
            let k : ℕ = j - i * e in
            let cut : j ≡ i * e + k = omega arith in
            rw (cut, cost-on k (omega arith)) (steps.each k (omega arith)).1
      ]

      each-open : (j : ℕ) → j < n → Open w t quota j
      each-open j h = record { place = λ y. omega (arith, each-place j h); tries = omega (arith, each-cost j h, least) }

      ends : i * e ≤ length bs / 4 → Ends w t quota n (length bs / 4)
      ends room = go steps.why
        where
          go : (last.turns ≡ length bs / 4 - i * e) ⊎ ((w.count ≤ last.state.place.0) ⊎ (quota - last.state.paid < 3)) → Ends w t quota n (length bs / 4)
          go (inl h) = inl (omega arith)
          go (inr (inl h)) =
              let past : w.count ≤ (steps_on m (add_from m) last.turns z).place.0 = subst (λ (y : State). w.count ≤ y.place.0) steps.state h in
              inr (inl (place-on last.turns (omega arith) ∙ rw (le-ltb _ w.count past)))
          go (inr (inr h)) =
              let is : costs_on w (i * e + last.turns) t ≡ last.state.paid = cost-on last.turns (omega arith) ∙ ap (λ (y : State). y.paid) (sym steps.state) in
              inr (inr (omega (arith, is, least)))

      -- ---- the entries are copies

      module _ (some : 0 < i) (room : i * e ≤ length bs / 4) (copied : Extends e A n bs₁ bs₂) where
        long : e ≤ n
        long = omega (arith, mul-le-mul_right e some)

        first : take e (words_of 4 bs₂) ≡ addresses_on w e t
        first =
            let is : bs₁ ≡ store_entries bs 0 (addresses_on w e t) = part.bytes ∙ ap (λ (k : ℕ). store_entries bs 0 (addresses_on w k t)) full in
            let size : length (addresses_on w e t) ≡ e = addresses-length w e t in
            let put = put-words bs bs₁ 0 (addresses_on w e t) is (omega (arith, size, part.inside)) (fits e t (λ j h. inside j (omega arith))) in
            copied.head ∙ ap (λ (k : ℕ). take k (words_of 4 bs₁)) (sym size) ∙ put.front

        -- every place a period on has the address that is copied
        next_address : (j : ℕ) → e + j < n → w.address (places_on w (e + j) t) ≡ (w.address (places_on w j t) + A) % 4294967296
        next_address j h =
            let there : (k : ℕ) → places_on w (e + k) t ≡ places_on w k (t + P) = λ k. places-add w e k t ∙ ap (places_on w k) period in
            let a : (k : ℕ) → k ≤ j → Along w m p P t k =
            λ k g. along w m p start k (λ l f. inl (subst (λ (y : ℕ). y < w.count) (there l) (each-place (e + l) (omega arith)))) in
            ap w.address (there j ∙ (a j (omega arith)).place) ∙ along-address w m p level A moved j a

        each_word : (bound j : ℕ) → j < bound → j < n → get_or (words_of 4 bs₂) j 0 ≡ w.address (places_on w j t)
        each_word zero j g h = absurd (omega arith)
        each_word (suc bound) j g h = elim (dec_lt j e) [
          | yes l ↦ sym (get_or-take e (words_of 4 bs₂) j 0 l) ∙ ap (λ (k : List ℕ). get_or k j 0) first ∙ addresses-at w e t j l
          | no l ↦
              let cut : j ≡ e + (j - e) = omega arith in
              copied.each j (omega arith) h
              ∙ ap (λ (x : ℕ). (x + A) % 4294967296) (each_word bound (j - e) (omega (arith, short)) (omega arith))
              ∙ sym (next_address (j - e) (omega arith))
              ∙ ap (λ (k : ℕ). w.address (places_on w k t)) (sym cut)
        ]

        all_words : take n (words_of 4 bs₂) ≡ addresses_on w n t
        all_words =
            let inside-list : n ≤ length (words_of 4 bs₂) = omega (arith, words-length 4 bs₂, copied.size, ap length part.bytes, stores-length bs 0 (addresses_on w r₁.entries t), steps.low) in
            let size : length (take n (words_of 4 bs₂)) ≡ n = length-take-le n (words_of 4 bs₂) inside-list in
            ext_get_or 0 (take n (words_of 4 bs₂)) (addresses_on w n t) (size ∙ sym (addresses-length w n t))
            (λ j h.
            let l : j < n = omega (arith, size) in
            get_or-take n (words_of 4 bs₂) j 0 l ∙ each_word (suc j) j (omega arith) l ∙ sym (addresses-at w n t j l))

        bytes : bs₂ ≡ store_entries bs 0 (addresses_on w n t)
        bytes =
            let is : bs₁ ≡ store_entries bs 0 (addresses_on w e t) = part.bytes ∙ ap (λ (k : ℕ). store_entries bs 0 (addresses_on w k t)) full in
            let rest : List ℕ = take (n - e) (drop e (words_of 4 bs₂)) in
            let place : e ≡ 0 + length (addresses_on w e t) = omega (arith, addresses-length w e t) in
            let cut : e + (n - e) ≡ n = omega (arith, long) in
            copied.stored
            ∙ (λ k. store_entries (is k) (place k) rest)
            ∙ sym (stores-append bs 0 (addresses_on w e t) rest)
            ∙ ap (store_entries bs 0)
            (ap (λ (l : List ℕ). l ++ rest) (sym first) ∙ sym (take-add e (n - e) (words_of 4 bs₂)) ∙ ap (λ (k : ℕ). take k (words_of 4 bs₂)) cut ∙ all_words)

        pub passed-fills : {r : Report} → r.entries ≡ n → r.tries ≡ last.state.paid → r.place.0 ≡ at_most w.count last.state.place.0
            → ByteFilled (fill_by w t quota (words_of 4 bs)) bs bs₂ r
        passed-fills entries tries' place =
            ends_at w t quota bs n (omega (arith, steps.low)) each-open (ends room) (record {
              entries = entries;
              tries = tries' ∙ ap (λ (y : State). y.paid) steps.state ∙ sym (cost-on last.turns (omega arith));
              place = place ∙ ap (λ (y : State). at_most w.count y.place.0) steps.state ∙ sym (place-on last.turns (omega arith));
            }) bytes
