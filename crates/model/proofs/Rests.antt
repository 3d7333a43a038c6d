-- Rests by M of the multiples of a number, and the least multiple that stays in a block of k columns.
-- M stands for the cells of a course.
use mathlib.Core.Path.{◌≡◌, sym, ap, ◌∙◌, subst}
use mathlib.Core.Logic.{◌⊎◌, inl, inr, ⊎_elim}
use Prim.Native.Nat.{ℕ, ◌+◌, ◌-◌, ◌*◌, ◌%◌, ◌≤◌, ◌<◌}
use native.Mathlib.Nat.{mod-lt, mod-eq_of_lt, add-mod, mod-eq-sub-mod, add-mul, zero-mul, zero-mod}
use native.Mathlib.Decide.{dec_le}
use native.Mathlib.Omega.{arith}

pub le-or-lt : (a b : ℕ) → (a ≤ b) ⊎ (b < a)
le-or-lt a b = go (dec_le a b)
  where
    go : Dec (a ≤ b) → (a ≤ b) ⊎ (b < a)
    go (yes h) = inl h
    go (no h) = inr (omega arith)

-- a course of M cells, blocks of k and a spread S, as an accepted section has them
pub record Course (M k S : ℕ) : Type 0 where
  pub block-pos : 0 < k
  pub block-le : k ≤ M
  pub spread-pos : 0 < S

-- z is the rest of x + y, for rests x and y
abbrev pub Sum : ℕ → ℕ → ℕ → ℕ → Type 0
Sum M x y z = (z ≡ x + y) ⊎ (z + M ≡ x + y)

pub sum-mod : (M a b : ℕ) → 0 < M → Sum M (a % M) (b % M) ((a + b) % M)
sum-mod M a b pos = go (le-or-lt M (a % M + b % M))
  where
    go : (M ≤ a % M + b % M) ⊎ (a % M + b % M < M) → Sum M (a % M) (b % M) ((a + b) % M)
    go (inr h) = inl (add-mod a b M ∙ mod-eq_of_lt h)
    go (inl h) =
        let s : a % M + b % M - M < M = omega (arith, mod-lt a pos, mod-lt b pos) in
        inr (omega (arith, add-mod a b M ∙ mod-eq-sub-mod h ∙ mod-eq_of_lt s))

-- rest m is the rest of m times some number: below M, and additive
pub record Rests (M : ℕ) (rest : ℕ → ℕ) : Type 0 where
  pub none : rest 0 ≡ 0
  pub low : (m : ℕ) → rest m < M
  pub sum : (a b : ℕ) → Sum M (rest a) (rest b) (rest (a + b))

pub rests : (M S : ℕ) → 0 < M → Rests M (λ m. m * S % M)
rests M S pos =
    record {
      none = ap (λ (n : ℕ). n % M) (zero-mul S) ∙ zero-mod M;
      low = λ m. mod-lt (m * S) pos;
      sum = λ a b. subst (λ (n : ℕ). Sum M (a * S % M) (b * S % M) (n % M)) (sym (add-mul a b S)) (sum-mod M (a * S) (b * S) pos);
    }

-- the rest of a difference
pub diff : {M : ℕ} {rest : ℕ → ℕ} → Rests M rest → (a b : ℕ) → a ≤ b → Sum M (rest a) (rest (b - a)) (rest b)
diff {M} {rest} R a b h = subst (λ (n : ℕ). Sum M (rest a) (rest (b - a)) (rest n)) (omega arith) (R.sum a (b - a))

-- i is positive and the least number whose rest has the property H (which 0 never has)
pub record Least (H : ℕ → Type 0) (rest : ℕ → ℕ) (i : ℕ) : Type 0 where
  pub pos : 0 < i
  pub at : H (rest i)
  pub least : (m : ℕ) → H (rest m) → i ≤ m

-- the rests that the processor step and the return step may have
pub record Forward (k y : ℕ) : Type 0 where
  pub some : 0 < y
  pub few : y < k

pub record Backward (M k y : ℕ) : Type 0 where
  pub few : M < y + k

-- from column q, y columns on lie in the same block, of this course or the next
abbrev pub Fits : ℕ → ℕ → ℕ → ℕ → Type 0
Fits M k q y = (q + y < k) ⊎ (M ≤ q + y)

-- with the two least steps i and j, from a column q below k
module _ {M k : ℕ} (k≤M : k ≤ M) {rest : ℕ → ℕ} (R : Rests M rest) where
  sub-rest : (a b : ℕ) → a ≤ b → Sum M (rest a) (rest (b - a)) (rest b)
  sub-rest = diff R

  module _ {i j : ℕ} (I : Least (Forward k) rest i) (J : Least (Backward M k) rest j) where
    -- a difference i - m, j - m or m - i, m - j that would be a smaller step, or is the other one
    no-less-i : (m : ℕ) → 0 < m → m ≤ i → Forward k (rest (i - m)) → ⊥
    no-less-i m pos h f = omega (arith, I.least (i - m) f, I.pos)

    no-less-j : (m : ℕ) → 0 < m → m ≤ j → Backward M k (rest (j - m)) → ⊥
    no-less-j m pos h f = omega (arith, J.least (j - m) f, J.pos)

    -- the two never fit at once
    pub not-both : (q : ℕ) → q + rest i < k → M ≤ q + rest j → ⊥
    not-both q f g = go (le-or-lt i j)
      where
        go : (i ≤ j) ⊎ (j < i) → ⊥
        go (inl h) =
            no-less-j i I.pos h
            (⊎_elim (λ e. omega (arith, R.low j)) (λ e. omega (arith, R.low j, R.low (j - i))) (sub-rest i j h))
        go (inr h) =
            no-less-i j J.pos (omega arith)
            (⊎_elim (λ e. omega (arith, R.low j, R.low (i - j))) (λ e. omega (arith, R.low j)) (sub-rest j i (omega arith)))

    -- the processor step, where it fits, is the least that fits
    pub walk-forward : (q : ℕ) → q + rest i < k → (m : ℕ) → 0 < m → Fits M k q (rest m) → i ≤ m
    walk-forward q f m pos g = ⊎_elim (λ h. h) (λ h. absurd (no-less-i m pos (omega arith) (go h g (le-or-lt 1 (rest m))))) (le-or-lt i m)
      where
        go : m < i → Fits M k q (rest m) → (1 ≤ rest m) ⊎ (rest m < 1) → Forward k (rest (i - m))
        go h (inl g') (inl s) = absurd (omega (arith, I.least m (omega arith)))
        go h (inl g') (inr s) =
            ⊎_elim (λ e. omega (arith, I.at)) (λ e. omega (arith, R.low (i - m))) (sub-rest m i (omega arith))
        go h (inr g') s =
            ⊎_elim (λ e. omega arith) (λ e. omega (arith, R.low m)) (sub-rest m i (omega arith))

    -- the return step, where it fits, is the least that fits
    pub walk-back : (q : ℕ) → q < k → M ≤ q + rest j → (m : ℕ) → 0 < m → Fits M k q (rest m) → j ≤ m
    walk-back q q<k f m pos g = ⊎_elim (λ h. h) (λ h. absurd (no-less-j m pos (omega arith) (go h g))) (le-or-lt j m)
      where
        go : m < j → Fits M k q (rest m) → Backward M k (rest (j - m))
        go h (inr g') = absurd (omega (arith, J.least m (omega arith)))
        go h (inl g') =
            ⊎_elim (λ e. omega (arith, R.low j)) (λ e. omega (arith, R.low j, R.low (j - m))) (sub-rest m j (omega arith))

    reach : (m : ℕ) → 0 < m → rest m < rest i → i ≤ m
    reach m pos f = ⊎_elim (λ h. h) (λ h. absurd (go h (le-or-lt 1 (rest m)))) (le-or-lt i m)
      where
        go : m < i → (1 ≤ rest m) ⊎ (rest m < 1) → ⊥
        go h (inl s) = omega (arith, I.at, I.least m (omega (arith, I.at)))
        go h (inr s) =
            no-less-i m pos (omega arith)
            (⊎_elim (λ e. omega (arith, I.at)) (λ e. omega (arith, R.low (i - m))) (sub-rest m i (omega arith)))

    -- their sum fits where neither does, and is then the least that fits
    pub both-fit : (q : ℕ) → q < k → k ≤ q + rest i → q + rest j < M → Fits M k q (rest (i + j))
    both-fit q q<k f g =
        ⊎_elim (λ e. inr (omega (arith, J.at, R.low (i + j)))) (λ e. inl (omega (arith, I.at, R.low (i + j)))) (R.sum i j)

    pub walk-both : (q : ℕ) → q < k → k ≤ q + rest i → q + rest j < M → (m : ℕ) → 0 < m → Fits M k q (rest m) → i + j ≤ m
    walk-both q q<k f g m pos (inr s) =
        let h : j ≤ m = J.least m (omega arith) in
        let d : i ≤ m - j =
        I.least (m - j)
        (⊎_elim (λ e. omega (arith, J.at, R.low m)) (λ e. omega (arith, J.at, R.low m, R.low (m - j))) (sub-rest j m h)) in
        omega arith
    walk-both q q<k f g m pos (inl s) =
        let h : i ≤ m = reach m pos (omega arith) in
        let d : j ≤ m - i =
        J.least (m - i)
        (⊎_elim (λ e. omega arith) (λ e. omega (arith, I.at)) (sub-rest i m h)) in
        omega arith
