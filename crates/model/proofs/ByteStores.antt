-- Addresses stored as entries of a list of bytes: what they change, and what they leave. Assumes nothing.
use Prim.Native.Nat.{ℕ, suc, ◌+◌, ◌*◌, ◌/◌, ◌^◌, ◌≤◌, ◌<◌}
use mathlib.Core.Path.{◌≡◌, refl, sym, ◌∙◌}
use mathlib.Core.List.{List, [], ◌∷◌, ◌++◌, append_assoc}
use native.Mathlib.Nat.{add-zero}
use native.Mathlib.Omega.{arith}
use lib.ListN.{length, take, drop, take-append-drop}
use lib.Seq.{take-suc-set, drop-set-lt}
use Rattle.numbers.specs.Words.{words_of}
use Rattle.numbers.proofs.WordLaws.{words-length, words-store, store_length, store-after}
use Rattle.model.specs.ByteFills.{store_entry, store_entries}

-- each number of the list is an address of 4 bytes
abbrev pub AllFit : List ℕ → Type 0
AllFit [] = Unit {0}
AllFit (a ∷ xs) = (a < 256 ^ 4) × AllFit xs

-- one address more, after those that are stored
pub stores-last : (bs : List ℕ) (n : ℕ) (xs : List ℕ) (a : ℕ) → store_entries bs n (xs ++ (a ∷ [])) ≡ store_entry (store_entries bs n xs) (n + length xs) a
unfolding store_entries
stores-last bs n [] a = rw add-zero
stores-last bs n (b ∷ xs) a =
    let e : suc n + length xs ≡ n + length (b ∷ xs) = omega arith in
    stores-last (store_entry bs n b) (suc n) xs a ∙ rw e

pub stores-length : (bs : List ℕ) (n : ℕ) (xs : List ℕ) → length (store_entries bs n xs) ≡ length bs
unfolding store_entries
stores-length bs n [] = refl
stores-length bs n (a ∷ xs) = stores-length (store_entry bs n a) (suc n) xs ∙ store_length 4 (4 * n) a bs

-- bytes after the entries stay
pub stores-rest : (bs : List ℕ) (n : ℕ) (xs : List ℕ) (m : ℕ) → 4 * (n + length xs) ≤ m → drop m (store_entries bs n xs) ≡ drop m bs
unfolding store_entries
stores-rest bs n [] m h = refl
stores-rest bs n (a ∷ xs) m h =
    stores-rest (store_entry bs n a) (suc n) xs m (omega arith) ∙ store-after 4 m (4 * n) a bs (omega arith)

-- the words afterwards: those before, the addresses, and those after
pub stores_words : (bs : List ℕ) (n : ℕ) (xs : List ℕ) → n + length xs ≤ length bs / 4 → AllFit xs
    → words_of 4 (store_entries bs n xs) ≡ take n (words_of 4 bs) ++ (xs ++ drop (n + length xs) (words_of 4 bs))
unfolding store_entries
stores_words bs n [] h f = rw add-zero (sym (take-append-drop n (words_of 4 bs)))
stores_words bs n (a ∷ xs) h f =
    let ws : List ℕ = words_of 4 bs in
    let in_words : n < length (words_of 4 bs) = omega (arith, words-length 4 bs) in
    let k : ℕ = suc n + length xs in
    let e : k ≡ n + length (a ∷ xs) = omega arith in
    stores_words (store_entry bs n a) (suc n) xs (rw (store_length 4 (4 * n) a bs) (omega arith)) f.1
    ∙ rw (words-store 4 n a bs (omega arith) f.0, take-suc-set ws n a in_words, drop-set-lt k ws n a (omega arith), e)
    (append_assoc (take n ws) (a ∷ []) (xs ++ drop (n + length (a ∷ xs)) ws))
