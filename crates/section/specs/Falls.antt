-- What the search for the two steps asks, and one turn of it. Definitions only.
use Rattle.std.specs.Prelude.{ℕ, ◌+◌, ◌*◌, ◌<◌, ◌≤◌, ◌≡◌}
use Rattle.numbers.specs.Gcd.{gcd}
use Rattle.section.specs.declared.steps.Side.{Side}

-- multiples of s, courses of m cells, blocks of k, and a divisor below k
pub record Searched (s m k : ℕ) : Type 0 where
  pub spread-pos : 0 < s
  pub spread-high : s < 2147483648
  pub block-pos : 0 < k
  pub block-le : k ≤ m
  pub course-high : m ≤ 67108864
  pub divisor : gcd s m < k

-- y may be added to x: less is left of y, and the sums fit
pub record MayFall (x y : Side) (k : ℕ) : Type 0 where
  pub some : 0 < y.left
  pub less : y.left < x.left
  pub large : k ≤ x.left
  pub low : x.left ≤ 67108864
  pub count : x.count * y.left + y.count * x.left ≤ 67108864
  pub courses : x.courses * y.left + y.courses * x.left < 2147483648

-- y was added to x so often that at least k is left with one y less, and some is left
pub record Fallen (x y : Side) (k : ℕ) (r : Side) : Type 0 where
  pub times : ℕ
  pub count : r.count ≡ x.count + times * y.count
  pub courses : r.courses ≡ x.courses + times * y.courses
  pub left : x.left ≡ r.left + times * y.left
  pub some : 0 < r.left
  pub last : k ≤ r.left + y.left
  pub less : r.left < x.left
