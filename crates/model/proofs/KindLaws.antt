-- What a kind of section must keep for demand 3 to hold of it, and its fills one after another: they are fills in turn along
-- the processor's list, over any form of call whose outcome is that of the fill of words that it stands for.
use Prim.Native.Nat.{ℕ, suc, ◌≤◌, ◌<◌}
use mathlib.Core.Path.{◌≡◌, refl, ap, subst, ◌∙◌}
use mathlib.Core.Bool.{Bool, true, false}
use mathlib.Core.List.{List, [], ◌∷◌, map}
use lib.Dec.{eqb}
use lib.IntN.{pos}
use lib.ListN.{length, get_or}
use borrow.Author.Tests.{eqb-true}
use Rattle.model.specs.Ownership.{nat}
use Rattle.model.specs.Filling.{Outcome, answer, standing}
use Rattle.model.specs.Questions.{first_no, between}
use Rattle.model.specs.Axes.{places_on, first_on, walk_on}
use Rattle.model.specs.Calls.{FillOf}
use Rattle.model.specs.Demand3.{Follows, InTurn, Kind, Form, Filling, axis_in, asks, outcomes, FollowsOn, Fills}
use Rattle.model.proofs.AxisLaws.{WalksOn, places-lead, IsPlace}
use Rattle.model.proofs.InTurnLaws.{in-turn}

-- of a section that every question about it passed
pub record Lawful (k : Kind) (x : k.Of) : Type 0 where
  pub walks : WalksOn (k.axis x)
  pub dealt : (i : ℕ) → i < (k.axis x).array.size → (k.axis x).array.owner i < (k.axis x).array.processors
  pub inside : (t : ℕ) → t < (k.axis x).count → (k.axis x).element t < (k.axis x).array.size
  pub named : (t : ℕ) → t < (k.axis x).count → k.numbered x ((k.axis x).element t) ≡ k.placed x t
  pub distinct : (t u : ℕ) → t < (k.axis x).count → u < (k.axis x).count → k.placed x t ≡ k.placed x u → t ≡ u
  -- a fill of it from a place of a processor, with a quota in range, is accepted
  pub accepts :
      (c : FillOf k.Of) → c.section ≡ x → (q t : ℕ) → c.processor ≡ pos q → c.place ≡ pos t
      → q < (k.axis x).array.processors → IsPlace (k.axis x) q t → between (pos 3) (pos 1000000) c.quota ≡ true
      → first_no (k.fill_questions c) ≡ 0
  pub neighbours :
      (q j : ℕ) → suc j < length (places_on (k.axis x) q)
      → k.Neighbours x (get_or (places_on (k.axis x) q) j 0) (get_or (places_on (k.axis x) q) (suc j) 0)
  pub cheap : (t : ℕ) → (k.axis x).cost t ≤ 3

pub record Laws (k : Kind) : Type 0 where
  pub lawful : (x : k.Of) → first_no (k.questions x) ≡ 0 → Lawful k x
  -- an accepted fill has tries enough to go on
  pub quota : (c : FillOf k.Of) → first_no (k.fill_questions c) ≡ 0 → 3 ≤ nat c.quota

-- the outcome of a call is that of the fill of words that it stands for
abbrev pub Same : Form → Type 0
Same f = (c : f.Call) → f.outcome c ≡ answer (walk_on (axis_in f (f.words c).section)) (asks f c)

module _ (f : Form) (laws : Laws f.kind) (same : Same f) (x : Filling f) (q : ℕ) where
  -- a refused fill tells no walk from another
  answer-is : (c : f.Call) → ((asks f c).refusal ≡ 0 → (f.words c).section ≡ x)
      → answer (walk_on (axis_in f (f.words c).section)) (asks f c) ≡ answer (walk_on (axis_in f x)) (asks f c)
  unfolding answer
  answer-is c h = go (eqb (asks f c).refusal 0) refl
    where
      go : (b : Bool) → eqb (asks f c).refusal 0 ≡ b
          → answer (walk_on (axis_in f (f.words c).section)) (asks f c) ≡ answer (walk_on (axis_in f x)) (asks f c)
      go true e = ap (λ (z : Filling f). answer (walk_on (axis_in f z)) (asks f c)) (h (eqb-true (asks f c).refusal 0 e))
      go false e = rw e

  -- calls are requests that follow one another, with the same outcomes
  follows : (t : ℕ) (cs : List f.Call) → FollowsOn f x q t cs
      → Follows (walk_on (axis_in f x)) t (map (asks f) cs) × (outcomes f cs ≡ map (answer (walk_on (axis_in f x))) (map (asks f) cs))
  unfolding Follows FollowsOn answer nat
  follows t [] fs = (tt, refl)
  follows t (c ∷ cs) fs =
      let accepted : (asks f c).refusal ≡ 0 → (f.outcome c).refusal ≡ 0 = λ z. ap (λ (o : Outcome). o.refusal) (same c) ∙ z in
      let e : f.outcome c ≡ answer (walk_on (axis_in f x)) (asks f c) = same c ∙ answer-is c (λ z. (fs.0 (accepted z)).section) in
      let r = follows (standing t (f.outcome c ∷ [])) cs fs.1 in (
        (
          (λ z. (ap nat (fs.0 (accepted z)).place, laws.quota (f.words c) z)),
          subst (λ (o : Outcome). Follows (walk_on (axis_in f x)) (standing t (o ∷ [])) (map (asks f) cs)) e r.0,
        ),
        (cc (r.1, e)),
      )

  pub fills-in-turn : first_no (f.kind.questions x) ≡ 0 → (cs : List f.Call) → Fills f x q cs
      → InTurn (walk_on (axis_in f x)) (places_on (axis_in f x) q) (map (asks f) cs) (outcomes f cs)
  unfolding first_on
  fills-in-turn ok cs fs =
      let g = follows (first_on (axis_in f x) q) cs fs in
      rw g.1
      (in-turn (walk_on (axis_in f x)) (places_on (axis_in f x) q) (map (asks f) cs) (places-lead (axis_in f x) (laws.lawful x ok).walks q) g.0)
