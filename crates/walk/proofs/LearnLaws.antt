-- What a move that is learnt serves, and that tables of such moves stay right. Assumes nothing.
use Prim.Native.Nat.{ℕ, zero, suc, ◌+◌, ◌-◌, ◌%◌, ◌≤◌, ◌<◌}
use mathlib.Core.Path.{◌≡◌, refl, sym, ap, ◌∙◌}
use mathlib.Core.Bool.{Bool, true, false, cond}
use mathlib.Core.Logic.{◌⊎◌, inl, inr, ⊎_elim}
use mathlib.Core.List.{List, [], ◌∷◌}
use native.Mathlib.Decide.{ℕ_discrete, dec_lt}
use native.Mathlib.Omega.{arith}
use lib.Dec.{ltb, eqb}
use lib.ListN.{length, get_or, set}
use lib.Seq.{get_or-set_same, get_or-set_other, set_out}
use borrow.Author.Tests.{lt-ltb, le-ltb, ltb-true, eqb-false}
use Rattle.numbers.proofs.SearchLaws.{tally-le}
use Rattle.model.specs.Ownership.{owns, rank, owner_of}
use Rattle.model.specs.Sized.{Sized}
use Rattle.model.specs.Filling.{Walk}
use Rattle.walk.specs.declared.moves.Moves.{Moves}
use Rattle.walk.specs.declared.moves.State.{State}
use Rattle.walk.specs.declared.learning.Elements.{Elements}
use Rattle.walk.specs.Moving.{move_from}
use Rattle.walk.specs.Driving.{Stands}
use Rattle.walk.specs.Learning.{
  element_at,
  address_at,
  Placed,
  period_of,
  class_of,
  move_to,
  class_move,
  OldOrNew,
  Entered,
  Even,
}
use Rattle.walk.proofs.MoveLaws.{tries-few}
use Rattle.walk.proofs.RunLaws.{Arrives}

-- ---- bounds

pub address-fits : (e : Elements) (count t : ℕ) → Placed e count → t < count → address_at e t < 2147483648
unfolding address_at rank
address-fits e count t p h =
    omega (arith, tally-le (owns (owner_of e.layout) (owner_of e.layout (element_at e t))) (element_at e t), p.inside t h, p.sized.size-high)

pub period-bounds : (e : Elements) → Sized e.layout → (0 < period_of e) × (period_of e ≤ 65536)
unfolding period_of
period-bounds e s = go (ltb e.layout.stride e.layout.block) refl
  where
    go : (b : Bool) → ltb e.layout.stride e.layout.block ≡ b
        → (0 < cond b e.layout.stride e.layout.block) × (cond b e.layout.stride e.layout.block ≤ 65536)
    go true h = (s.stride-pos, omega (arith, ltb-true e.layout.stride e.layout.block h, s.block-high))
    go false h = (s.block-pos, s.block-high)

-- the move found leads to the address
lands : (a b : ℕ) → a < 4294967296 → b < 4294967296 → b ≡ (a + (b + (4294967296 - a)) % 4294967296) % 4294967296
lands a b h l = omega arith

-- two differences that are the same, modulo 2^32
pub cross : (a a' b b' d : ℕ) → b' < 4294967296 → a' + b ≡ b' + a → a' ≡ (a + d) % 4294967296 → b' ≡ (b + d) % 4294967296
cross a a' b b' d l h e = omega arith

-- ---- entries of a table

-- a table knows no move of a key that it does not have
pub unknown-out : (l : List ℕ) (q : ℕ) → length l ≤ q → get_or l q 0 ≡ 0
unknown-out [] q h = refl
unknown-out (a ∷ l) zero h = absurd (omega arith)
unknown-out (a ∷ l) (suc q) h = unknown-out l q (omega arith)

pub set-each : (table : List ℕ) (k b : ℕ) → OldOrNew (λ x. x ≡ k) b table (set table k b)
set-each table k b x = elim (ℕ_discrete x k) [
  | no n ↦ inl (get_or-set_other table k x b 0 n)
  | yes y ↦ elim (dec_lt k (length table)) [
    | no n ↦ inl (ap (λ (l : List ℕ). get_or l x 0) (set_out table k b (omega arith)))
    | yes i ↦ inr (ap (λ (j : ℕ). get_or (set table k b) j 0) y ∙ get_or-set_same table k b 0 i, y)
  ]
]

-- ---- on one walk

module _ (w : Walk) (m : Moves) (e : Elements) (d : Even w m e) where
  -- the place that the move from place t leads to, and its class
  abbrev on_to : ℕ → ℕ
  on_to t = t + (move_from m (d.paces.column t)).places

  abbrev class_at : ℕ → ℕ
  class_at t = class_of e m (d.paces.column t)

  -- b is the move from place t, if that leads to a place of the walk
  abbrev Goes : ℕ → ℕ → Type 0
  Goes b t =
      t < w.count → d.paces.mine t ≡ true → on_to t < w.count → w.address (on_to t) ≡ (w.address t + b) % 4294967296

  -- the moves in a table by that key are the walk's
  abbrev pub Knows : (ℕ → ℕ) → List ℕ → Type 0
  Knows key table = (t : ℕ) → (get_or table (key (d.paces.column t)) 0 ≡ 0 → ⊥) → Goes (get_or table (key (d.paces.column t)) 0) t

  -- a move that serves all places whose key P tells may be entered there, and so may 0
  enters : (key : ℕ → ℕ) (table table' : List ℕ) (b : ℕ) (P : ℕ → Type 0) → OldOrNew P b table table'
      → ((t : ℕ) → P (key (d.paces.column t)) → (b ≡ 0) ⊎ Goes b t) → Knows key table → Knows key table'
  enters key table table' b P each serves knows u f =
      ⊎_elim (λ same. rw same (knows u (λ y. f (same ∙ y))))
      (λ new. rw new.0 (⊎_elim (λ z. absurd (f (new.0 ∙ z))) (λ g. g) (serves u new.1))) (each (key (d.paces.column u)))

  module _ (p : Placed e w.count) (t : ℕ) (here : t < w.count) (mine : d.paces.mine t ≡ true) where
    high : (u : ℕ) → u < w.count → d.paces.mine u ≡ true → w.address u < 4294967296
    high u h o = rw (d.address u h o) (omega (arith, address-fits e w.count u p h))

    abbrev difference : ℕ
    difference = (address_at e (on_to t) + (4294967296 - w.address t)) % 4294967296

    -- what is found is the move from every place of the class
    finds : on_to t < w.count → (u : ℕ) → class_at u ≡ class_at t → Goes difference u
    finds l u k h o g =
        let there = d.address (on_to t) l (d.paces.same t here mine l) ∙ lands (w.address t) (address_at e (on_to t)) (high t here mine) (omega (arith, address-fits e w.count (on_to t) p l)) in
        let few = tries-few m (d.paces.column t) in
        let few' = tries-few m (d.paces.column u) in
        cross (w.address t) _ (w.address u) _ difference (high (on_to u) g (d.paces.same u h o g)) (d.alike t u here h mine o (omega arith) (omega arith) l g) there

    -- past the count it is 0, and nothing is asked of it
    found : ((u : ℕ) → class_at u ≡ class_at t → (move_to e w.count (on_to t) (w.address t) ≡ 0) ⊎ Goes (move_to e w.count (on_to t) (w.address t)) u)
        × Goes (move_to e w.count (on_to t) (w.address t)) t
    found = elim (dec_lt (on_to t) w.count) [
      | yes l ↦ rw (lt-ltb (on_to t) w.count l) ((λ u y. inr (finds l u y)), finds l t refl)
      | no n ↦ rw (le-ltb (on_to t) w.count (omega arith)) ((λ u y. inl refl), (λ z o l. absurd (omega arith)))
    ]

  -- ---- from a state that stands in the walk

  module _ (p : Placed e w.count) (s : State) (v : Stands w m d.paces s) (here : s.place.0 < w.count) where
    -- what is found, and what a table by classes gives
    abbrev found_at : ℕ
    found_at = move_to e w.count (s.place.0 + (move_from m s.column).places) s.address.0

    abbrev classed : List ℕ → ℕ
    classed classes = class_move e w.count classes (class_of e m s.column) (s.place.0 + (move_from m s.column).places) s.address.0

    -- b leads on, and serves the whole class, unless it is 0
    abbrev Serves : ℕ → Type 0
    Serves b = ((u : ℕ) → class_at u ≡ class_of e m s.column → (b ≡ 0) ⊎ Goes b u) × Arrives w m d.paces s b

    found-serves : Serves found_at
    found-serves =
        let q = v.column here in
        let x = v.address here in
        let f = found p s.place.0 here (v.mine here) in
        rw (q, x) (f.0, f.1 here (v.mine here))

    class-serves : (classes : List ℕ) → Knows (class_of e m) classes → Serves (classed classes)
    class-serves classes k = go (eqb (get_or classes (class_of e m s.column) 0) 0) refl
      where
        go : (b : Bool) → eqb (get_or classes (class_of e m s.column) 0) 0 ≡ b → Serves (cond b found_at (get_or classes (class_of e m s.column) 0))
        go true z = found-serves
        go false z =
            let some = eqb-false (get_or classes (class_of e m s.column) 0) 0 z in
            let all : (u : ℕ) → class_at u ≡ class_of e m s.column → Goes (get_or classes (class_of e m s.column) 0) u =
            λ u y. rw (← y) (k u (λ h. some (ap (λ (j : ℕ). get_or classes j 0) (sym y) ∙ h))) in
            let q = v.column here in (
              (λ u y. inr (all u y)),
              rw (q, v.address here) (rw q at (all s.place.0 (ap (class_of e m) (sym q))) here (v.mine here)),
            )

    -- the tables stay right
    pub class-learns : (classes : List ℕ) → Knows (class_of e m) classes
        → Arrives w m d.paces s (classed classes) × Knows (class_of e m) (set classes (class_of e m s.column) (classed classes))
    class-learns classes k =
        let c : ℕ = class_of e m s.column in
        let b : ℕ = classed classes in
        let g = class-serves classes k in
        (g.1, enters (class_of e m) classes (set classes c b) b (λ x. x ≡ c) (set-each classes c b) g.0 k)

    pub column-learns : {columns columns' : List ℕ} → Entered e m s.column found_at columns columns' → Knows (λ q. q) columns
        → Arrives w m d.paces s found_at × Knows (λ q. q) columns'
    column-learns {columns} {columns'} n k =
        let g = found-serves in
        (g.1, enters (λ q. q) columns columns' _ (λ x. class_of e m x ≡ class_of e m s.column) n.each g.0 k)
