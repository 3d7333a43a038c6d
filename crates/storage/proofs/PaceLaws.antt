-- The runs of an array: each is in one block, and the next begins after it.
use Prim.Native.Nat.{ℕ, ◌+◌, ◌-◌, ◌*◌, ◌/◌, ◌%◌, ◌≤◌, ◌<◌}
use mathlib.Core.Path.{◌≡◌, refl, sym, ap, ◌∙◌}
use mathlib.Core.Bool.{Bool, true, false}
use mathlib.Core.Logic.{◌⊎◌, inl, inr}
use native.Mathlib.Nat.{div-add-mod', mod-lt, mod-le, mul-le-mul_left}
use native.Mathlib.Omega.{arith}
use lib.Dec.{ltb}
use borrow.Author.Tests.{lt-ltb, ltb-true, ltb-false}
use Rattle.numbers.proofs.Division.{div_is, rest-is, lt_of_mul, quotient-pos}
use Rattle.model.specs.declared.Layout.{Layout}
use Rattle.model.specs.Ownership.{cell_of, cell_owner, owner_of}
use Rattle.model.specs.Sized.{Sized}
use Rattle.storage.specs.declared.runs.Pace.{Pace}
use Rattle.storage.specs.declared.runs.Run.{Run}
use Rattle.storage.specs.Pacing.{short_pace, long_pace, pace_of, length_at, run_at, first_run, next_run, wrapped, wrapped_run, Paced, Within, Stands}

-- the rest of a sum, by the rests of its parts
wrap-rest : (p x y : ℕ) → 0 < p → wrapped p (x % p + y % p) ≡ (x + y) % p
wrap-rest p x y h = go (ltb (x % p + y % p) p) refl
  where
    go : (b : Bool) → ltb (x % p + y % p) p ≡ b → wrapped p (x % p + y % p) ≡ (x + y) % p
    go true e =
        rw e (sym (rest-is p (x / p + y / p) (x % p + y % p) (x + y) (omega (arith, div-add-mod' x p, div-add-mod' y p)) (ltb-true _ _ e)))
    go false e =
        let high = ltb-false (x % p + y % p) p e in
        rw e (sym (rest-is p (x / p + y / p + 1) (x % p + y % p - p) (x + y) (omega (arith, div-add-mod' x p, div-add-mod' y p, high)) (omega (arith, mod-lt x h, mod-lt y h))))

-- ---- the pace of a layout

module _ (l : Layout) (z : Sized l) where
  short-paced : l.stride < l.block → Paced l (short_pace l)
  short-paced h =
      let k : ℕ = l.block in
      let a : ℕ = l.stride in
      let low : k % a < a = mod-lt k z.stride-pos in
      let whole : k / a * a + k % a ≡ k = div-add-mod' k a in
      record {
        many-blocks = 1;
        few-blocks = 1;
        many-some = omega arith;
        few-some = omega arith;
        many-on = refl;
        few-on = refl;
        many-cells = omega arith;
        few-cells = omega arith;
        many-inside = omega arith;
        few-inside = omega arith;
        wide = inl (omega arith);
        few-pos = quotient-pos k a z.stride-pos (omega arith);
        few-le = omega arith;
        processors = refl;
      }

  long-paced : l.block ≤ l.stride → Paced l (long_pace l)
  long-paced h =
      let k : ℕ = l.block in
      let a : ℕ = l.stride in
      let low : a % k < k = mod-lt a z.block-pos in
      let whole : a / k * k + a % k ≡ a = div-add-mod' a k in
      record {
        many-blocks = a / k;
        few-blocks = a / k + 1;
        many-some = quotient-pos a k z.block-pos h;
        few-some = omega arith;
        many-on = refl;
        few-on = refl;
        many-cells = omega arith;
        few-cells = omega arith;
        many-inside = omega arith;
        few-inside = omega arith;
        wide = inr (omega arith);
        few-pos = omega arith;
        few-le = omega arith;
        processors = refl;
      }

  pub paced : Paced l (pace_of l)
  paced = go (ltb l.stride l.block) refl
    where
      go : (b : Bool) → ltb l.stride l.block ≡ b → Paced l (pace_of l)
      go true e = rw e (short-paced (ltb-true l.stride l.block e))
      go false e = rw e (long-paced (ltb-false l.stride l.block e))

module _ (l : Layout) (z : Sized l) (p : Pace) (v : Paced l p) where
  length-pos : (c : ℕ) → 0 < length_at p c
  length-pos c = go (ltb c p.limit) refl
    where
      go : (b : Bool) → ltb c p.limit ≡ b → 0 < length_at p c
      go true e = rw e (omega (arith, v.few-pos, v.few-le))
      go false e = rw e v.few-pos

  pub columns-low : p.limit + p.rise ≤ l.block
  columns-low = omega (arith, v.few-inside, mul-le-mul_left l.stride v.few-pos)

  -- ---- a run

  -- the elements of a block that begin at column c do not leave it, and the next one does
  inside : (c : ℕ) → c < p.limit + p.rise → c + l.stride * length_at p c < l.block + l.stride
  inside c h = go (ltb c p.limit) refl
    where
      go : (b : Bool) → ltb c p.limit ≡ b → c + l.stride * length_at p c < l.block + l.stride
      go true e = rw e (omega (arith, ltb-true c p.limit e, v.many-inside))
      go false e = rw e (omega (arith, v.few-inside))

  outside : (c : ℕ) → l.block ≤ c + l.stride * length_at p c
  outside c = go (ltb c p.limit) refl
    where
      go : (b : Bool) → ltb c p.limit ≡ b → l.block ≤ c + l.stride * length_at p c
      go true e = rw e (omega (arith, v.many-cells, mul-le-mul_left l.block v.many-some))
      go false e = rw e (omega (arith, v.few-cells, ltb-false c p.limit e, mul-le-mul_left l.block v.few-some))

  -- so fewer lie before a cell of the block
  fewer : (c m : ℕ) → c + l.stride * m < l.block → m < length_at p c
  fewer c m h = lt_of_mul m (length_at p c) l.stride (omega (arith, outside c))

  -- in the first block those that are left out are no more than there could be
  pub first_fits : l.offset % l.block / l.stride < length_at p (l.offset % l.block % l.stride)
  first_fits =
      fewer (l.offset % l.block % l.stride) (l.offset % l.block / l.stride)
      (omega (arith, div-add-mod' (l.offset % l.block) l.stride, mod-lt l.offset z.block-pos))

  pub first-stands : Stands l p (first_run l p)
  unfolding cell_of cell_owner
  first-stands =
      let column : ℕ = l.offset % l.block in
      let whole : column / l.stride * l.stride + column % l.stride ≡ column = div-add-mod' column l.stride in
      let owner : l.offset / l.block % l.processors < l.processors = mod-lt (l.offset / l.block) z.processors-pos in
      record {
        block = l.offset / l.block;
        before = column / l.stride;
        column = begins v.wide;
        cell = omega (arith, whole, div-add-mod' l.offset l.block);
        length = omega (arith, first_fits);
        some = omega (arith, first_fits);
        processor = omega arith;
        owner = rw (lt-ltb (l.offset / l.block % l.processors) l.processors owner);
      }
    where
      begins : (l.stride ≤ p.limit + p.rise) ⊎ (l.block ≤ p.limit + p.rise) → l.offset % l.block % l.stride < p.limit + p.rise
      begins (inl h) = omega (arith, mod-lt (l.offset % l.block) z.stride-pos)
      begins (inr h) = omega (arith, mod-lt l.offset z.block-pos, mod-le (l.offset % l.block) l.stride)

  module _ (r : Run) (w : Stands l p r) (here : r.processor < l.processors) where
    q-is : r.processor ≡ w.block % l.processors
    q-is = sym (rw (lt-ltb r.processor l.processors here)) ∙ w.owner

    -- the run's elements are the processor's
    pub run-owner : (j : ℕ) → j < r.length → owner_of l (r.index.0 + j) ≡ r.processor
    unfolding owner_of cell_owner cell_of
    run-owner j h =
        let column : ℕ = r.column + l.stride * (w.before + j) in
        let low : column < l.block =
        omega (arith, inside r.column w.column, w.length, mul-le-mul_left l.stride (further j h)) in
        let cell : l.stride * (r.index.0 + j) + l.offset ≡ l.block * w.block + column = omega (arith, w.cell) in
        ap (λ (b : ℕ). b % l.processors) (div_is l.block w.block column _ cell low) ∙ sym q-is
      where
        further : (j : ℕ) → j < r.length → w.before + j + 1 ≤ length_at p r.column
        further j h = omega (arith, w.length)

    -- the next run, where all of this one was taken
    pub next-stands : Stands l p (next_run p r r.length)
    unfolding cell_of
    next-stands = go (ltb r.column p.limit) refl
      where
        -- so many blocks on, at column c
        later : (on blocks c : ℕ) → on ≡ blocks % l.processors → c < p.limit + p.rise
            → r.column + l.stride * length_at p r.column ≡ l.block * blocks + c
            → Stands l p (run_at p (r.index.0 + r.length) c (r.processor + on))
        later on blocks c o h e =
            record {
              block = w.block + blocks;
              before = 0;
              column = h;
              cell = omega (arith, w.cell, e, ap (λ (x : ℕ). l.stride * x) w.length);
              length = omega arith;
              some = length-pos c;
              processor = omega (arith, o, mod-lt blocks z.processors-pos);
              owner = rw (o, q-is) (wrap-rest l.processors w.block blocks z.processors-pos);
            }

        go : (b : Bool) → ltb r.column p.limit ≡ b → Stands l p (next_run p r r.length)
        go true e =
            let c = ltb-true r.column p.limit e in
            rw e (later p.many_on v.many-blocks (r.column + p.rise) v.many-on (omega arith) (rw e (omega (arith, v.many-cells))))
        go false e =
            let c = ltb-false r.column p.limit e in
            rw e (later p.few_on v.few-blocks (r.column - p.limit) v.few-on (omega (arith, w.column)) (rw e (omega (arith, v.few-cells))))

    pub within : (taken : ℕ) → r.index.0 + taken ≤ 2147483647 → Within p r taken
    within taken h =
        record {
          begins = w.column;
          index = h;
          column = omega (arith, w.column, columns-low, z.block-high);
          many = omega (arith, v.many-on, mod-lt v.many-blocks z.processors-pos, z.processors-high);
          few = omega (arith, v.few-on, mod-lt v.few-blocks z.processors-pos, z.processors-high);
        }

  -- its owner among the processors that there are
  pub wrapped-stands : (r : Run) → Stands l p r → Stands l p (wrapped_run p r)
  wrapped-stands r w =
      let q : ℕ = wrapped l.processors r.processor in
      let low : q < l.processors = omega (arith, w.owner, mod-lt w.block z.processors-pos) in
      record {
        block = w.block;
        before = w.before;
        column = w.column;
        cell = w.cell;
        length = w.length;
        some = w.some;
        processor = rw v.processors (omega arith);
        owner = rw (v.processors, lt-ltb q l.processors low) w.owner;
      }

  pub wrapped-low : (r : Run) → Stands l p r → (wrapped_run p r).processor < l.processors
  wrapped-low r w = rw v.processors (omega (arith, w.owner, mod-lt w.block z.processors-pos))
