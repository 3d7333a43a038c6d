-- Laws of bytes read as words: how many there are, where each stands, and what a stored word changes. Assumes nothing.
use Prim.Native.Nat.{ℕ, zero, suc, ◌+◌, ◌*◌, ◌/◌, ◌%◌, ◌^◌, ◌≤◌, ◌<◌}
use mathlib.Core.Path.{◌≡◌, refl, sym, ap, ◌∙◌}
use mathlib.Core.List.{List, [], ◌∷◌}
use mathlib.Core.Logic.{◌⊎◌, inl, inr}
use native.Mathlib.Nat.{zero-add, suc-add, div-mul-le_self, mul-le-mul_left}
use native.Mathlib.Decide.{dec_lt}
use native.Mathlib.Omega.{arith}
use lib.ListN.{length, take, drop, get_or, set, length-set}
use lib.Seq.{take-nil, drop-drop, drop-cons, get_or-take, get_or-set_same, get_or-set_other, take-set-le, drop-set-lt, ext_get_or}
use Rattle.numbers.specs.Words.{value_of, words_in, words_of, store_at}

-- ---- the words
length-in : (w n : ℕ) (bs : List ℕ) → length (words_in w n bs) ≡ n
unfolding words_in
length-in w zero bs = refl
length-in w (suc n) bs = ap suc (length-in w n (drop w bs))

pub words-length : (w : ℕ) (bs : List ℕ) → length (words_of w bs) ≡ length bs / w
unfolding words_of
words-length w bs = length-in w (length bs / w) bs

word_in : (w n i : ℕ) (bs : List ℕ) → i < n → get_or (words_in w n bs) i 0 ≡ value_of (take w (drop (w * i) bs))
unfolding words_in
word_in w zero i bs h = absurd (omega arith)
word_in w (suc n) zero bs h =
    let e : w * 0 ≡ 0 = omega arith in
    rw e
word_in w (suc n) (suc i) bs h =
    let e : w * suc i ≡ w + w * i = omega arith in
    word_in w n i (drop w bs) (omega arith) ∙ rw (drop-drop (w * i) w bs, e)

-- the word at place n is that of the w bytes from w * n on
pub word_at : (w n : ℕ) (bs : List ℕ) → n < length bs / w → get_or (words_of w bs) n 0 ≡ value_of (take w (drop (w * n) bs))
unfolding words_of
word_at w n bs h = word_in w (length bs / w) n bs h

-- and those bytes are there
pub word-inside : (w n len : ℕ) → n < len / w → w * n + w ≤ len
word-inside w n len h = omega (arith, mul-le-mul_left w h, div-mul-le_self len w)

-- ---- what a store leaves as it was
pub store_length : (w i x : ℕ) (bs : List ℕ) → length (store_at w bs i x) ≡ length bs
unfolding store_at
store_length zero i x bs = refl
store_length (suc w) i x bs = store_length w (suc i) (x / 256) (set bs i (x % 256)) ∙ length-set bs i (x % 256)

pub store-before : (w m i x : ℕ) (bs : List ℕ) → m ≤ i → take m (store_at w bs i x) ≡ take m bs
unfolding store_at
store-before zero m i x bs h = refl
store-before (suc w) m i x bs h =
    store-before w m (suc i) (x / 256) (set bs i (x % 256)) (omega arith) ∙ take-set-le m bs i (x % 256) h

pub store-after : (w m i x : ℕ) (bs : List ℕ) → i + w ≤ m → drop m (store_at w bs i x) ≡ drop m bs
unfolding store_at
store-after zero m i x bs h = refl
store-after (suc w) m i x bs h =
    store-after w m (suc i) (x / 256) (set bs i (x % 256)) (omega arith) ∙ drop-set-lt m bs i (x % 256) (omega arith)

-- ---- and what it puts there
pub stored : (w i x : ℕ) (bs : List ℕ) → i + w ≤ length bs → x < 256 ^ w → value_of (take w (drop i (store_at w bs i x))) ≡ x
unfolding store_at value_of
stored zero i x bs h l = omega arith
stored (suc w) i x bs h l =
    let rest = store_at w (set bs i (x % 256)) (suc i) (x / 256) in
    let long : i < length rest = omega (arith, store_length w (suc i) (x / 256) (set bs i (x % 256)), length-set bs i (x % 256)) in
    let low : get_or rest i 0 ≡ x % 256 =
    sym (get_or-take (suc i) rest i 0 (omega arith))
    ∙ ap (λ (k : List ℕ). get_or k i 0) (store-before w (suc i) (suc i) (x / 256) (set bs i (x % 256)) (omega arith))
    ∙ get_or-take (suc i) (set bs i (x % 256)) i 0 (omega arith)
    ∙ get_or-set_same bs i (x % 256) 0 (omega arith) in
    let high : value_of (take w (drop (suc i) rest)) ≡ x / 256 =
    stored w (suc i) (x / 256) (set bs i (x % 256)) (omega (arith, length-set bs i (x % 256))) (omega arith) in
    rw (drop-cons rest i 0 long) (omega (arith, low, high))

-- ---- so a stored word changes that word and no other

-- the w bytes from a on are seen in the first a + w
take-drop : (a w : ℕ) (bs : List ℕ) → take w (drop a bs) ≡ drop a (take (a + w) bs)
take-drop zero w bs = rw (zero-add w)
take-drop (suc a) w [] = rw (take-nil (suc a + w), take-nil w)
take-drop (suc a) w (b ∷ bs) = rw (suc-add a w) (take-drop a w bs)

module _ (w n x : ℕ) (bs : List ℕ) where
  other : (i : ℕ) → (i < n) ⊎ (n < i) → take w (drop (w * i) (store_at w bs (w * n) x)) ≡ take w (drop (w * i) bs)
  other i (inl h) =
      take-drop (w * i) w (store_at w bs (w * n) x)
      ∙ ap (λ (k : List ℕ). drop (w * i) k) (store-before w (w * i + w) (w * n) x bs (omega (arith, mul-le-mul_left w h)))
      ∙ sym (take-drop (w * i) w bs)
  other i (inr h) = ap (take w) (store-after w (w * i) (w * n) x bs (omega (arith, mul-le-mul_left w h)))

  module _ (inside : n < length bs / w) (small : x < 256 ^ w) where
    length-same : length (words_of w (store_at w bs (w * n) x)) ≡ length (words_of w bs)
    length-same =
        words-length w (store_at w bs (w * n) x) ∙ ap (λ (len : ℕ). len / w) (store_length w (w * n) x bs) ∙ sym (words-length w bs)

    each : (i : ℕ) → i < length bs / w → get_or (words_of w (store_at w bs (w * n) x)) i 0 ≡ get_or (set (words_of w bs) n x) i 0
    each i h =
        word_at w i (store_at w bs (w * n) x) (rw (store_length w (w * n) x bs) h)
        ∙ elim (dec_lt i n) [
          | yes l ↦ apart (inl l)
          | no f ↦ elim (dec_lt n i) [
            | yes l ↦ apart (inr l)
            | no g ↦ same (omega arith)
          ]
        ]
      where
        apart : (i < n) ⊎ (n < i) → value_of (take w (drop (w * i) (store_at w bs (w * n) x))) ≡ get_or (set (words_of w bs) n x) i 0
        apart l =
            ap value_of (other i l) ∙ sym (word_at w i bs h) ∙ sym (get_or-set_other (words_of w bs) n i x 0 (unequal l))
          where
            unequal : (i < n) ⊎ (n < i) → i ≡ n → ⊥
            unequal (inl k) e = omega arith
            unequal (inr k) e = omega arith

        same : i ≡ n → value_of (take w (drop (w * i) (store_at w bs (w * n) x))) ≡ get_or (set (words_of w bs) n x) i 0
        same e =
            rw e (stored w (w * n) x bs (word-inside w n (length bs) inside) small
            ∙ sym (get_or-set_same (words_of w bs) n x 0 (omega (arith, words-length w bs))))

    pub words-store : words_of w (store_at w bs (w * n) x) ≡ set (words_of w bs) n x
    words-store =
        ext_get_or 0 (words_of w (store_at w bs (w * n) x)) (set (words_of w bs) n x)
        (length-same ∙ sym (length-set (words_of w bs) n x))
        (λ i h. each i (omega (arith, length-same, words-length w bs)))
