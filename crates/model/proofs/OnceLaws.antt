-- Where each processor's fills reached the count, each element of the section stands in exactly one list, once: over any kind
-- of section and any form of call. Assumes nothing.
use Prim.Native.Nat.{ℕ, zero, suc, ◌<◌, zero-le}
use mathlib.Core.Path.{◌≡◌, refl, sym, ap, ◌∙◌}
use mathlib.Core.List.{List, [], ◌∷◌, ◌++◌, map, append-nil}
use native.Mathlib.Nat.{not-suc-le-zero, le_of_suc-le-suc}
use native.Mathlib.Omega.{arith}
use lib.ListN.{length, get_or, take, drop, length-map, take-append-drop}
use Rattle.numbers.specs.Search.{tally}
use Rattle.numbers.proofs.SearchLaws.{found}
use Rattle.model.specs.Ownership.{rank, back_to}
use Rattle.model.specs.Filling.{got, reported}
use Rattle.model.specs.Questions.{first_no}
use Rattle.model.specs.Axes.{Axis, owns_on, places_on, first_on, walk_on}
use Rattle.model.specs.Demand3.{Form, Filling, axis_in, Fills, outcomes, place_after, Reached, StandsFor, InOneList}
use Rattle.model.proofs.AddressLaws.{owns_of, back-rank}
use Rattle.model.proofs.InTurnLaws.{leads-drop, leads-done}
use Rattle.model.proofs.AxisLaws.{places-lead, At, at_place}
use Rattle.model.proofs.KindLaws.{Lawful, Laws, Same, fills-in-turn}

get_d_map : (g : ℕ → ℕ) (l : List ℕ) (j : ℕ) → j < length l → get_or (map g l) j 0 ≡ g (get_or l j 0)
get_d_map g [] j h = absurd (not-suc-le-zero h)
get_d_map g (x ∷ l) zero h = refl
get_d_map g (x ∷ l) (suc j) h = get_d_map g l j (le_of_suc-le-suc h)

module _ (f : Form) (laws : Laws f.kind) (same : Same f) (x : Filling f) (ok : first_no (f.kind.questions x) ≡ 0) where
  abbrev a : Axis
  a = axis_in f x

  abbrev address : ℕ → ℕ
  address t = (walk_on (axis_in f x)).address t

  abbrev law : Lawful f.kind x
  law = laws.lawful x ok

  leads-back : (q j t : ℕ) → At a q j t → f.kind.numbered x (back_to a.array.owner a.array.size q (address t)) ≡ f.kind.placed x t
  leads-back q j t r =
      ap (f.kind.numbered x)
      (ap (λ (o : ℕ). back_to a.array.owner a.array.size o (rank a.array.owner (a.element t))) (sym r.owner)
      ∙ back-rank a.array.owner a.array.size (a.element t) (law.inside t r.below))
      ∙ law.named t r.below

  -- fills that reached the count got the addresses of all the processor's elements
  full : (q : ℕ) (cs : List f.Call) → Fills f x q cs → place_after f x q cs ≡ a.count
      → got (outcomes f cs) ≡ map address (places_on a q)
  unfolding first_on
  full q cs fs e =
      let n : ℕ = reported (outcomes f cs) in
      let ps : List ℕ = places_on a q in
      let i = fills-in-turn f laws same x q ok cs fs in
      let d : drop n ps ≡ [] = leads-done (leads-drop n (places-lead a law.walks q)) (sym i.place ∙ e) in
      let t : take n ps ≡ ps = sym (append-nil (take n ps)) ∙ ap (λ (z : List ℕ). take n ps ++ z) (sym d) ∙ take-append-drop n ps in
      i.addresses ∙ ap (map address) t

  module _ (runs : ℕ → List f.Call) (all : Reached f x runs) where
    abbrev lists : ℕ → List ℕ
    lists q = got (outcomes f (runs q))

    all_of : (q : ℕ) → q < a.array.processors → got (outcomes f (runs q)) ≡ map address (places_on a q)
    all_of q h = full q (runs q) (all q h).0 (all q h).1

    -- entry j of what a processor got stands for the element at place j of its list
    entry : (q j : ℕ) → q < a.array.processors → j < length (places_on a q) → StandsFor f x lists (get_or (places_on a q) j 0) q j
    entry q j h l = record {
      processor = h;
      entry = rw (all_of q h, length-map) l;
      element = rw (all_of q h, get_d_map address (places_on a q) j l) (leads-back q j _ (at_place a q j l));
    }

    -- and for no other
    only : (t : ℕ) → t < a.count → (q j : ℕ) → StandsFor f x lists t q j
        → (q ≡ a.array.owner (a.element t)) × (j ≡ tally (owns_on a (a.array.owner (a.element t))) t)
    only t h q j s =
        let l : j < length (places_on a q) = rw (all_of q s.processor, length-map) at s.entry in
        let r : At a q j (get_or (places_on a q) j 0) = at_place a q j l in
        let e : get_or (places_on a q) j 0 ≡ t =
        law.distinct _ t r.below h (sym (entry q j s.processor l).element ∙ s.element) in
        let b : At a q j t = rw e at r in
        (sym b.owner, rw b.owner (sym b.nth))

    pub once : (t : ℕ) → t < a.count → InOneList f x lists t
    unfolding places_on owns_on
    once t h =
        let q : ℕ = a.array.owner (a.element t) in
        let r = found (owns_on a q) a.count 0 t zero-le (omega arith) (owns_of a.array.owner q (a.element t) refl) in
        let s : StandsFor f x lists t q r.0 = rw r.2 at (entry q r.0 (law.dealt (a.element t) (law.inside t h)) r.1) in
        record {
          processor = q;
          entry = r.0;
          stands = s;
          only = λ p j u. ((only t h p j u).0, (only t h p j u).1 ∙ sym (only t h q r.0 s).1);
        }
