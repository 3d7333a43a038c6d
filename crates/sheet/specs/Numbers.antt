-- How a number on the sheet and the byte that ends it are read. Definitions only.
use Rattle.std.specs.Prelude.{ℕ, ◌+◌, ◌*◌, ◌-◌, Bool, false, cond, List, [], ◌∷◌, ltb, leb, eqb, ℤ, pos, neg_ℤ}
use Rattle.sheet.specs.Reading.{Got, got, bad, map_got}

-- may the byte b go on after the digits of n, so that the number stays below max? After a lone 0 nothing may
abbrev pub grows : ℕ → ℕ → ℕ → Bool
grows max n b = cond (ltb 0 n) (cond (leb 48 b) (cond (leb b 57) (ltb (n * 10 + (b - 48)) max) false) false) false

-- the digits of n have been read: further digits up to the byte end
unfoldable pub digits : ℕ → ℕ → ℕ → List ℕ → Got ℕ
digits max end n [] = bad []
digits max end n (b ∷ s) =
    let more : Got ℕ = digits max end (n * 10 + (b - 48)) s in
    cond (eqb b end) (got n s) (cond (grows max n b) more (bad (b ∷ s)))

-- may the byte b be the first digit of a number from low (0 or 1) and below max?
abbrev pub starts : ℕ → ℕ → ℕ → Bool
starts low max b = cond (leb (48 + low) b) (cond (leb b 57) (ltb (b - 48) max) false) false

-- a number from low and below max, with no sign
unfoldable pub natural : ℕ → ℕ → ℕ → List ℕ → Got ℕ
natural low max end [] = bad []
natural low max end (b ∷ s) = cond (starts low max b) (digits max end (b - 48) s) (bad (b ∷ s))

-- a number with an optional minus, of size below max
unfoldable pub signed : ℕ → ℕ → List ℕ → Got ℤ
signed max end [] = bad []
signed max end (b ∷ s) =
    cond (eqb b 45) (map_got (λ n. neg_ℤ (pos n)) (natural 1 max end s)) (map_got pos (natural 0 max end (b ∷ s)))

-- "size at most 2,147,483,647"
abbrev pub number : ℕ → List ℕ → Got ℤ
number end = signed 2147483648 end
