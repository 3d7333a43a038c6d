-- A grid processor's share of an accepted section has what document 02 says of the section.
use Prim.Native.Nat.{ℕ, ◌*◌, ◌/◌, ◌%◌, ◌<◌}
use mathlib.Core.Path.{◌≡◌, refl, sym, ap, ◌∙◌}
use mathlib.Core.Bool.{Bool, true, false, cond, ◌&&◌, ◌||◌}
use native.Mathlib.Nat.{mod-lt, le_refl}
use borrow.Author.Tests.{ltb-true, ltb-false, lt-ltb, le-ltb}
use native.Mathlib.Omega.{arith}
use mathlib.Core.List.{List}
use lib.Dec.{ltb, eqb}
use lib.IntN.{ℤ, pos}
use lib.Signed.{le_z}
use Rattle.model.specs.Mappings.{Section}
use Rattle.model.specs.Ownership.{nat}
use Rattle.model.specs.Sections.{count, owns_at, places, first_place}
use Rattle.model.specs.Questions.{first_no, of_section}
use Rattle.model.specs.Axes.{paired, Axis, axis_of, owns_on, places_on, first_on, rows}
use Rattle.model.specs.declared.three.Three.{Three}
use Rattle.model.specs.Grids.{GridSection, sections_of, grid_axis, of_grid_section}
use Rattle.model.specs.GridCalls.{is_place_on}
use Rattle.model.proofs.PairLaws.{pair_of, first-lt, second_lt, pair_lt}
use Rattle.model.proofs.RowLaws.{Sound, rows-own, first_rows, first-no-rows}
use Rattle.model.proofs.GridWalks.{section-sound}
use Rattle.section.specs.Strides.{strided_of}
use Rattle.section.specs.Shares.{share_of, owned_by, place_by}
use Rattle.section.proofs.ShareLaws.{owned-by, place-by}
use Rattle.grid_section.specs.declared.lines.Line.{Line}
use Rattle.grid_section.specs.Lines.{processors_on, Limited}
use Rattle.grid_section.specs.Shares.{shares_on, shares_of, positions_in, first_by, owned_on, is_place_by, AllFitted}
use Rattle.grid_section.proofs.LineLaws.{Accepted, accepted}

-- ---- the shares of an accepted section's lines are in range

pub all-fitted : (x : Three Line) → Limited x → (b c d : List ℕ) (q : ℕ) → q < processors_on x → AllFitted (shares_on x b c d q)
all-fitted x y b c d q h =
    let p : ℕ = x.first.section.layout.processors in
    let r : ℕ = x.second.section.layout.processors in
    record {
      first = record { bounded = y.first; processor = mod-lt q y.first.sized.processors-pos };
      second = record { bounded = y.second; processor = mod-lt (q / p) y.second.sized.processors-pos };
      third = record { bounded = y.third; processor = second_lt r _ (q / p) (second_lt p _ q h) };
      positions = y.positions;
    }

-- ---- rows: a processor and a position by their parts

module _ (a b : Axis) (s : Sound a) where
  abbrev p : ℕ
  p = a.array.processors

  own-parts : (q t : ℕ) → q < p * b.array.processors → t < a.count * b.count
      → owns_on (rows a b) q t ≡ (owns_on a (q % p) (t % a.count) && owns_on b (q / p) (t / a.count))
  own-parts q t h l =
      sym (λ i. owns_on (rows a b) (pair_of p q i) (pair_of a.count t i))
      ∙ rows-own a b s (q % p) (q / p) (t % a.count) (t / a.count) (first-lt p b.array.processors q h) (first-lt a.count b.count t l)

  first-parts : (q : ℕ) → q < p * b.array.processors
      → first_on (rows a b) q
      ≡ cond (ltb (first_on a (q % p)) a.count && ltb (first_on b (q / p)) b.count)
      (paired a.count (first_on a (q % p)) (first_on b (q / p)))
      (a.count * b.count)
  first-parts q h =
      sym (ap (first_on (rows a b)) (pair_of p q)) ∙ go (ltb t a.count) refl (ltb u b.count) refl
    where
      t : ℕ
      t = first_on a (q % p)

      u : ℕ
      u = first_on b (q / p)

      low : q % p < p
      low = first-lt p b.array.processors q h

      go : (f : Bool) → ltb t a.count ≡ f → (g : Bool) → ltb u b.count ≡ g
          → first_on (rows a b) (paired p (q % p) (q / p)) ≡ cond (f && g) (paired a.count t u) (a.count * b.count)
      go true e true f = first_rows a b s (q % p) (q / p) low (ltb-true t a.count e) (ltb-true u b.count f)
      go true e false f = first-no-rows a b s (q % p) (q / p) low (λ i j. omega (arith, ltb-false u b.count f))
      go false e g f = first-no-rows a b s (q % p) (q / p) low (λ i j. omega (arith, ltb-false t a.count e))

-- ---- rows of rows

-- three places as one: there is one where each dimension has one
three-places : (m n o t u v : ℕ)
    → (let rest : ℕ = cond (ltb u n && ltb v o) (paired n u v) (n * o) in
    cond (ltb t m && ltb rest (n * o)) (paired m t rest) (m * (n * o)))
    ≡ cond (ltb t m && ltb u n && ltb v o) (paired m t (paired n u v)) (m * (n * o))
three-places m n o t u v = go (ltb t m) (ltb u n) refl (ltb v o) refl
  where
    go : (f g : Bool) → ltb u n ≡ g → (h : Bool) → ltb v o ≡ h
        → (let rest : ℕ = cond (g && h) (paired n u v) (n * o) in
        cond (f && ltb rest (n * o)) (paired m t rest) (m * (n * o)))
        ≡ cond (f && g && h) (paired m t (paired n u v)) (m * (n * o))
    go false g e h k = refl
    go true true e true k = rw (lt-ltb (paired n u v) (n * o) (pair_lt n o u v (ltb-true u n e) (ltb-true v o k)))
    go true true e false k = rw (le-ltb (n * o) (n * o) (le_refl (n * o)))
    go true false e h k = rw (le-ltb (n * o) (n * o) (le_refl (n * o)))

and_assoc : (f g h : Bool) → (f && (g && h)) ≡ (f && g && h)
and_assoc true g h = refl
and_assoc false g h = refl

module _ (x : Section) (ok : first_no (of_section x) ≡ 0) (q : ℕ) where
  owned-is : (t : ℕ) → t < count x → owns_on (axis_of x) q t ≡ owned_by (share_of x q) t
  unfolding owns_on owns_at
  owned-is t h = owned-by x ok q t h

  first-is : first_on (axis_of x) q ≡ place_by (share_of x q)
  unfolding first_on places_on owns_on first_place places owns_at
  first-is = place-by x ok q

-- ---- an accepted section

module _ (x : GridSection) (ok : first_no (of_grid_section x) ≡ 0) where
  abbrev s : Three Section
  s = sections_of x

  abbrev others : Axis
  others = rows (axis_of s.second) (axis_of s.third)

  y : Accepted s
  y = accepted x ok

  first-sound : Sound (axis_of s.first)
  first-sound = section-sound s.first y.first

  second-sound : Sound (axis_of s.second)
  second-sound = section-sound s.second y.second

  module _ (q : ℕ) (h : q < (grid_axis s).array.processors) where
    abbrev n : ℕ
    n = (axis_of s.first).array.processors

    abbrev m : ℕ
    m = (axis_of s.second).array.processors

    rest : q / n < others.array.processors
    unfolding grid_axis
    rest = second_lt n others.array.processors q h

    -- the count
    pub positions-are : positions_in (shares_of x q) ≡ (grid_axis s).count
    unfolding grid_axis strided_of
    positions-are = refl

    -- whose position t is
    pub owned-are : (t : ℕ) → t < (grid_axis s).count → owns_on (grid_axis s) q t ≡ owned_on (shares_of x q) t
    unfolding grid_axis strided_of
    owned-are t l =
        let a : ℕ = count s.first in
        let b : ℕ = count s.second in
        let c : ℕ = count s.third in
        let row : t / a < b * c = second_lt a (b * c) t l in
        let one = owned-is s.first y.first (q % n) (t % a) (first-lt a (b * c) t l) in
        let two = owned-is s.second y.second (q / n % m) (t / a % b) (first-lt b c (t / a) row) in
        let three = owned-is s.third y.third (q / n / m) (t / a / b) (second_lt b c (t / a) row) in
        let mine = owns_on (axis_of s.first) (q % n) (t % a) in
        own-parts (axis_of s.first) others first-sound q t h l
        ∙ ap (λ (z : Bool). mine && z) (own-parts (axis_of s.second) (axis_of s.third) second-sound (q / n) (t / a) rest row)
        ∙ and_assoc mine (owns_on (axis_of s.second) (q / n % m) (t / a % b)) (owns_on (axis_of s.third) (q / n / m) (t / a / b))
        ∙ (λ i. one i && two i && three i)

    -- the first place
    pub first-are : first_on (grid_axis s) q ≡ first_by (shares_of x q)
    unfolding grid_axis strided_of
    first-are =
        let a : ℕ = count s.first in
        let b : ℕ = count s.second in
        let c : ℕ = count s.third in
        let one = first-is s.first y.first (q % n) in
        let two = first-is s.second y.second (q / n % m) in
        let three = first-is s.third y.third (q / n / m) in
        first-parts (axis_of s.first) others first-sound q h
        ∙ ap (λ (z : ℕ). cond (ltb (first_on (axis_of s.first) (q % n)) a && ltb z (b * c)) (paired a (first_on (axis_of s.first) (q % n)) z) (a * (b * c)))
        (first-parts (axis_of s.second) (axis_of s.third) second-sound (q / n) rest)
        ∙ three-places a b c _ _ _
        ∙ (λ i. cond (ltb (one i) a && ltb (two i) b && ltb (three i) c) (paired a (one i) (paired b (two i) (three i))) (a * (b * c)))

  -- question 10
  pub is-place-are : (q t : ℤ) → nat q < (grid_axis s).array.processors → is_place_on (grid_axis s) q t ≡ is_place_by (shares_of x (nat q)) t
  unfolding is_place_on
  is-place-are q t h =
      ap (λ (z : Bool). le_z (pos 0) t && (eqb (nat t) (grid_axis s).count || z)) (go (ltb (nat t) (grid_axis s).count) refl)
      ∙ ap (λ (c : ℕ). le_z (pos 0) t && (eqb (nat t) c || (ltb (nat t) c && owned_on (shares_of x (nat q)) (nat t)))) (sym (positions-are (nat q) h))
    where
      go : (b : Bool) → ltb (nat t) (grid_axis s).count ≡ b
          → (ltb (nat t) (grid_axis s).count && owns_on (grid_axis s) (nat q) (nat t))
          ≡ (ltb (nat t) (grid_axis s).count && owned_on (shares_of x (nat q)) (nat t))
      go true e = rw e (owned-are (nat q) h (nat t) (ltb-true (nat t) _ e))
      go false e = rw e
