-- The fills that demand 3 speaks of exist: one more fill from the place that stands is not refused, and so the fills of every
-- processor can be brought to the count. Over any kind of section, and any form of call that can ask for one entry.
use Prim.Native.Nat.{ℕ, zero, suc, ◌+◌, ◌≤◌, ◌<◌, zero-le}
use mathlib.Core.Path.{◌≡◌, refl, ap, ◌∙◌}
use mathlib.Core.Bool.{Bool, true, false}
use mathlib.Core.List.{List, [], ◌∷◌, ◌++◌, map, map-append}
use native.Mathlib.Omega.{arith}
use lib.Dec.{ltb}
use lib.IntN.{pos}
use lib.ListN.{length}
use borrow.Author.Tests.{ltb-true, ltb-false}
use Rattle.model.specs.Filling.{Request, Outcome, answer, reported, standing}
use Rattle.model.specs.Questions.{first_no, between}
use Rattle.model.specs.Axes.{places_on, first_on}
use Rattle.model.specs.Calls.{FillOf}
use Rattle.model.specs.Demand3.{has_entry, roomy, Form, Filling, axis_in, asks, Agrees, FollowsOn, Fills, outcomes, place_after, Reached}
use Rattle.model.proofs.AxisLaws.{IsPlace, place-left}
use Rattle.model.proofs.KindLaws.{Laws, Same, fills-in-turn}

-- ---- a call of one entry

-- a fill of section x for processor q from place t, with the least quota and a list of one entry
abbrev pub one_entry : {S : Type 0} → S → ℕ → ℕ → FillOf S
one_entry x q t = record { section = x; processor = pos q; place = pos t; quota = pos 3; list = 0 ∷ [] }

-- the form has a call for each
pub record Asks (f : Form) : Type 0 where
  pub call : Filling f → ℕ → ℕ → f.Call
  pub is : (x : Filling f) (q t : ℕ) → f.words (call x q t) ≡ one_entry x q t

roomy-more : (rs : List Request) (r : Request) → r.refusal ≡ 0 → roomy (rs ++ (r ∷ [])) ≡ roomy rs + has_entry r.list
unfolding roomy
roomy-more [] r e = rw e (omega arith)
roomy-more (s ∷ rs) r e = omega (arith, roomy-more rs r e)

module _ (f : Form) (laws : Laws f.kind) (same : Same f) (x : Filling f) where
  -- a call follows those before it, if it agrees
  follows-more : (q t : ℕ) (cs : List f.Call) → FollowsOn f x q t cs → (c : f.Call)
      → Agrees f x q (standing t (outcomes f cs)) c → FollowsOn f x q t (cs ++ (c ∷ []))
  unfolding FollowsOn standing
  follows-more q t [] fs c a = ((λ e. a), tt)
  follows-more q t (d ∷ cs) fs c a = (fs.0, follows-more q (standing t (f.outcome d ∷ [])) cs fs.1 c a)

  module _ (ok : first_no (f.kind.questions x) ≡ 0) (q : ℕ) (h : q < (axis_in f x).array.processors) where
    asks_none : (cs : List f.Call) → Fills f x q cs → (c : f.Call) → Agrees f x q (place_after f x q cs) c
        → between (pos 3) (pos 1000000) (f.words c).quota ≡ true → (asks f c).refusal ≡ 0
    unfolding first_on
    asks_none cs fs c a quota =
        let i = fills-in-turn f laws same x q ok cs fs in
        let place : IsPlace (axis_in f x) q (place_after f x q cs) = rw i.place (place-left (axis_in f x) q (reported (outcomes f cs))) in
        (laws.lawful x ok).accepts (f.words c) a.section q (place_after f x q cs) a.processor a.place h place quota

    pub one_more : (cs : List f.Call) → Fills f x q cs → (c : f.Call) → Agrees f x q (place_after f x q cs) c
        → between (pos 3) (pos 1000000) (f.words c).quota ≡ true → (f.outcome c).refusal ≡ 0
    unfolding answer
    one_more cs fs c a quota = ap (λ (o : Outcome). o.refusal) (same c) ∙ asks_none cs fs c a quota

    -- ---- to the count

    -- fills of one entry each, as many as are wanted
    many : Asks f → (n : ℕ) → (cs : List f.Call) × Fills f x q cs × (n ≤ roomy (map (asks f) cs))
    unfolding FollowsOn between
    many k zero = ([], tt, zero-le)
    many k (suc n) =
        let m = many k n in
        let cs : List f.Call = m.0 in
        let t : ℕ = place_after f x q cs in
        let c : f.Call = k.call x q t in
        let agrees : Agrees f x q t c = record {
          section = ap (λ (d : FillOf (Filling f)). d.section) (k.is x q t);
          processor = ap (λ (d : FillOf (Filling f)). d.processor) (k.is x q t);
          place = ap (λ (d : FillOf (Filling f)). d.place) (k.is x q t);
        } in
        let e : (asks f c).refusal ≡ 0 = asks_none cs m.1 c agrees (rw (k.is x q t)) in
        let r : roomy (map (asks f) (cs ++ (c ∷ []))) ≡ roomy (map (asks f) cs) + has_entry (f.words c).list =
        rw map-append (roomy-more (map (asks f) cs) (asks f c) e) in
        (cs ++ (c ∷ []), follows-more q _ cs m.1 c agrees, omega (arith, r, m.2, ap (λ (d : FillOf (Filling f)). has_entry d.list) (k.is x q t)))

    reach-count : Asks f → (cs : List f.Call) × Fills f x q cs × (place_after f x q cs ≡ (axis_in f x).count)
    unfolding first_on
    reach-count k =
        let m = many k (length (places_on (axis_in f x) q)) in
        (m.0, m.1, (fills-in-turn f laws same x q ok m.0 m.1).reaches m.2)

  -- ---- every processor's fills

  module _ (ok : first_no (f.kind.questions x) ≡ 0) (k : Asks f) where
    run : (q : ℕ) (b : Bool) → ltb q (axis_in f x).array.processors ≡ b
        → (cs : List f.Call) × (q < (axis_in f x).array.processors → Fills f x q cs × (place_after f x q cs ≡ (axis_in f x).count))
    run q true e = let r = reach-count ok q (ltb-true q _ e) k in (r.0, λ h. (r.1, r.2))
    run q false e = ([], λ h. absurd (omega (arith, ltb-false q _ e)))

    pub runs-exist : (runs : ℕ → List f.Call) × Reached f x runs
    runs-exist = ((λ q. (run q (ltb q (axis_in f x).array.processors) refl).0), (λ q. (run q (ltb q (axis_in f x).array.processors) refl).1))
