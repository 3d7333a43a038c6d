-- Entries stored into a list of bytes: what is stored over what was, one part after another, and into a part of a list. Assumes
-- nothing.
use Prim.Native.Nat.{ℕ, zero, suc, ◌+◌, ◌-◌, ◌*◌, ◌/◌, ◌%◌, ◌≤◌, ◌<◌}
use mathlib.Core.Path.{◌≡◌, refl, sym, ap, ◌∙◌}
use mathlib.Core.List.{List, [], ◌∷◌, ◌++◌, append_assoc}
use native.Mathlib.Nat.{add-zero, div-div-eq-div-mul}
use native.Mathlib.Omega.{arith}
use lib.ListN.{length, take, drop, get_or, set, length-append, length-drop, take-append-drop}
use lib.Seq.{sets, sets-eq, length-take-le, drop-drop, drop-append-le, get_or-drop, ext_get_or, take_at, drop_at}
use Rattle.numbers.specs.Words.{words_of, store_at}
use Rattle.numbers.proofs.WordLaws.{words-length, word_at}
use Rattle.model.specs.ByteFills.{store_entry, store_entries}
use Rattle.model.proofs.ByteStores.{AllFit, stores-length, stores_words}

-- ---- the bytes that are stored

bytes_of : ℕ → ℕ → List ℕ
bytes_of zero x = []
bytes_of (suc w) x = x % 256 ∷ bytes_of w (x / 256)

all_bytes : List ℕ → List ℕ
all_bytes [] = []
all_bytes (x ∷ xs) = bytes_of 4 x ++ all_bytes xs

length-bytes : (w x : ℕ) → length (bytes_of w x) ≡ w
unfolding bytes_of
length-bytes zero x = refl
length-bytes (suc w) x = ap suc (length-bytes w (x / 256))

length-all : (xs : List ℕ) → length (all_bytes xs) ≡ 4 * length xs
unfolding all_bytes
length-all [] = refl
length-all (x ∷ xs) = length-append (bytes_of 4 x) (all_bytes xs) ∙ omega (arith, length-bytes 4 x, length-all xs)

sets-append : (l : List ℕ) (i : ℕ) (xs ys : List ℕ) → sets l i (xs ++ ys) ≡ sets (sets l i xs) (i + length xs) ys
sets-append l i [] ys = rw add-zero
sets-append l i (x ∷ xs) ys =
    let e : suc i + length xs ≡ i + length (x ∷ xs) = omega arith in
    sets-append (set l i x) (suc i) xs ys ∙ rw e

store_is : (w : ℕ) (bs : List ℕ) (i x : ℕ) → store_at w bs i x ≡ sets bs i (bytes_of w x)
unfolding store_at bytes_of
store_is zero bs i x = refl
store_is (suc w) bs i x = store_is w (set bs i (x % 256)) (suc i) (x / 256)

stores-are : (bs : List ℕ) (n : ℕ) (xs : List ℕ) → store_entries bs n xs ≡ sets bs (4 * n) (all_bytes xs)
unfolding store_entries all_bytes
stores-are bs n [] = refl
stores-are bs n (x ∷ xs) =
    let e : 4 * suc n ≡ 4 * n + length (bytes_of 4 x) = omega (arith, length-bytes 4 x) in
    stores-are (store_entry bs n x) (suc n) xs
    ∙ rw (e, store_is 4 bs (4 * n) x) (sym (sets-append bs (4 * n) (bytes_of 4 x) (all_bytes xs)))

-- the 4 bytes of one word, put in the middle of a list
four-bytes : (x : ℕ) → bytes_of 4 x ≡ x % 256 ∷ x / 256 % 256 ∷ x / 65536 % 256 ∷ x / 16777216 % 256 ∷ []
unfolding bytes_of
four-bytes x = rw (div-div-eq-div-mul x 256 256, div-div-eq-div-mul x 65536 256)

pub store-middle : (bs : List ℕ) (i x : ℕ) → i + 4 ≤ length bs
    → take i bs ++ ((x % 256 ∷ x / 256 % 256 ∷ x / 65536 % 256 ∷ x / 16777216 % 256 ∷ []) ++ drop (i + 4 - i) (drop i bs)) ≡ store_at 4 bs i x
store-middle bs i x h =
    let some : i + 4 - i ≡ 4 = omega arith in
    rw (store_is 4 bs i x, sets-eq (bytes_of 4 x) bs i (omega (arith, length-bytes 4 x)), length-bytes 4 x, some, drop-drop 4 i bs, four-bytes x, append_assoc)

-- the list afterwards: its front, the bytes, and its rest
stores-whole : (bs : List ℕ) (n : ℕ) (xs : List ℕ) → 4 * (n + length xs) ≤ length bs
    → store_entries bs n xs ≡ take (4 * n) bs ++ all_bytes xs ++ drop (4 * (n + length xs)) bs
stores-whole bs n xs h =
    let e : 4 * n + length (all_bytes xs) ≡ 4 * (n + length xs) = omega (arith, length-all xs) in
    stores-are bs n xs
    ∙ sets-eq (all_bytes xs) bs (4 * n) (omega (arith, length-all xs))
    ∙ rw e

-- ---- one part after another

pub stores-append : (bs : List ℕ) (n : ℕ) (xs ys : List ℕ) → store_entries bs n (xs ++ ys) ≡ store_entries (store_entries bs n xs) (n + length xs) ys
unfolding store_entries
stores-append bs n [] ys = rw add-zero
stores-append bs n (x ∷ xs) ys =
    let e : suc n + length xs ≡ n + length (x ∷ xs) = omega arith in
    stores-append (store_entry bs n x) (suc n) xs ys ∙ rw e

-- ---- over what was stored

pub stores-over : (bs : List ℕ) (xs ys : List ℕ) → length xs ≡ length ys → 4 * length ys ≤ length bs
    → store_entries (store_entries bs 0 xs) 0 ys ≡ store_entries bs 0 ys
stores-over bs xs ys same h =
    let first = stores-whole bs 0 xs (omega arith) in
    let m : ℕ = 4 * (0 + length xs) in
    let long : length (all_bytes xs) ≡ 4 * (0 + length ys) = omega (arith, length-all xs) in
    let rest : drop (4 * (0 + length ys)) (all_bytes xs ++ drop m bs) ≡ drop m bs = drop_at (all_bytes xs) (drop m bs) (4 * (0 + length ys)) long in
    let e : m ≡ 4 * (0 + length ys) = omega arith in
    stores-whole (store_entries bs 0 xs) 0 ys (rw first (omega (arith, length-append (all_bytes xs) (drop m bs), length-all xs, length-drop m bs)))
    ∙ ap (λ (l : List ℕ). take (4 * 0) l ++ all_bytes ys ++ drop (4 * (0 + length ys)) l) first
    ∙ ap (λ (l : List ℕ). all_bytes ys ++ l) (rest ∙ ap (λ (k : ℕ). drop k bs) e)
    ∙ sym (stores-whole bs 0 ys (omega arith))

-- ---- into a part

pub stores-part : (bs : List ℕ) (n : ℕ) (xs : List ℕ) → 4 * (n + length xs) ≤ length bs
    → take (4 * n) bs ++ store_entries (drop (4 * n) bs) 0 xs ≡ store_entries bs n xs
stores-part bs n xs h =
    let e : 4 * n + 4 * (0 + length xs) ≡ 4 * (n + length xs) = omega arith in
    ap (λ (l : List ℕ). take (4 * n) bs ++ l) (stores-whole (drop (4 * n) bs) 0 xs (omega (arith, length-drop (4 * n) bs)))
    ∙ ap (λ (l : List ℕ). take (4 * n) bs ++ (all_bytes xs ++ l)) (drop-drop (4 * (0 + length xs)) (4 * n) bs ∙ ap (λ (k : ℕ). drop k bs) e)
    ∙ sym (append_assoc (take (4 * n) bs) (all_bytes xs) (drop (4 * (n + length xs)) bs))
    ∙ sym (stores-whole bs n xs h)

-- into the front
pub stores-front : (bs : List ℕ) (m : ℕ) (xs : List ℕ) → length xs ≤ m → 4 * m ≤ length bs
    → store_entries (take (4 * m) bs) 0 xs ++ drop (4 * m) bs ≡ store_entries bs 0 xs
stores-front bs m xs h l =
    let k : ℕ = 4 * (0 + length xs) in
    let long : length (take (4 * m) bs) ≡ 4 * m = length-take-le (4 * m) bs l in
    ap (λ (z : List ℕ). z ++ drop (4 * m) bs) (stores-whole (take (4 * m) bs) 0 xs (omega (arith, long)))
    ∙ append_assoc (all_bytes xs) (drop k (take (4 * m) bs)) (drop (4 * m) bs)
    ∙ ap (λ (z : List ℕ). all_bytes xs ++ z) (sym (drop-append-le k (take (4 * m) bs) (drop (4 * m) bs) (omega (arith, long))) ∙ ap (drop k) (take-append-drop (4 * m) bs))
    ∙ sym (stores-whole bs 0 xs (omega arith))

-- the words of a part
pub words-part : (bs : List ℕ) (n : ℕ) → 4 * n ≤ length bs → words_of 4 (drop (4 * n) bs) ≡ drop n (words_of 4 bs)
words-part bs n h =
    ext_get_or 0 (words_of 4 (drop (4 * n) bs)) (drop n (words_of 4 bs)) long each
  where
    long : length (words_of 4 (drop (4 * n) bs)) ≡ length (drop n (words_of 4 bs))
    long = omega (arith, words-length 4 (drop (4 * n) bs), length-drop (4 * n) bs, length-drop n (words_of 4 bs), words-length 4 bs)

    each : (i : ℕ) → i < length (words_of 4 (drop (4 * n) bs)) → get_or (words_of 4 (drop (4 * n) bs)) i 0 ≡ get_or (drop n (words_of 4 bs)) i 0
    each i l =
        let k : i < length (drop (4 * n) bs) / 4 = omega (arith, words-length 4 (drop (4 * n) bs)) in
        let e : 4 * n + 4 * i ≡ 4 * (n + i) = omega arith in
        word_at 4 i (drop (4 * n) bs) k
        ∙ (rw (drop-drop (4 * i) (4 * n) bs, e))
        ∙ sym (word_at 4 (n + i) bs (omega (arith, length-drop (4 * n) bs)))
        ∙ sym (get_or-drop n (words_of 4 bs) i 0)

-- ---- the words after a store

pub record Put (ws ws' : List ℕ) (n : ℕ) (ys : List ℕ) : Type 0 where
  pub before : take n ws' ≡ take n ws
  pub front : take (length ys) (drop n ws') ≡ ys
  pub rest : drop (length ys) (drop n ws') ≡ drop (length ys) (drop n ws)
  pub long : length ws' ≡ length ws

pub put-words : (bs bs' : List ℕ) (n : ℕ) (ys : List ℕ) → bs' ≡ store_entries bs n ys → n + length ys ≤ length bs / 4 → AllFit ys
    → Put (words_of 4 bs) (words_of 4 bs') n ys
put-words bs bs' n ys e h fit =
    let ws : List ℕ = words_of 4 bs in
    let is : words_of 4 bs' ≡ take n ws ++ (ys ++ drop (n + length ys) ws) = ap (words_of 4) e ∙ stores_words bs n ys h fit in
    let len : length (take n ws) ≡ n = length-take-le n ws (omega (arith, words-length 4 bs)) in
    let back : drop n (words_of 4 bs') ≡ ys ++ drop (n + length ys) ws = ap (drop n) is ∙ drop_at (take n ws) (ys ++ drop (n + length ys) ws) n len in
    record {
      before = ap (take n) is ∙ take_at (take n ws) (ys ++ drop (n + length ys) ws) n len;
      front = ap (take (length ys)) back ∙ take_at ys (drop (n + length ys) ws) (length ys) refl;
      rest = ap (drop (length ys)) back ∙ drop_at ys (drop (n + length ys) ws) (length ys) refl ∙ sym (drop-drop (length ys) n ws);
      long = words-length 4 bs' ∙ ap (λ (k : ℕ). k / 4) (ap length e ∙ stores-length bs n ys) ∙ sym (words-length 4 bs);
    }
