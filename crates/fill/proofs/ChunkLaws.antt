-- A fill of words is made of fills of bytes: the fill of a chunk by the bytes of its words, and the fill of a list by its
-- chunks, one after another.
use Prim.Native.Nat.{ℕ, ◌+◌, ◌-◌, ◌*◌, ◌≤◌, ◌<◌}
use mathlib.Core.Path.{◌≡◌, refl, sym, ap, ◌∙◌}
use mathlib.Core.Bool.{true}
use mathlib.Core.List.{List, ◌++◌}
use native.Mathlib.Omega.{arith}
use lib.ListN.{length, take, drop, take-append-drop, length-append}
use lib.Seq.{length_front}
use Rattle.numbers.specs.Words.{words_of}
use Rattle.numbers.proofs.WordLaws.{words-length}
use Rattle.model.specs.Mappings.{Section}
use Rattle.model.specs.declared.Position.{Position}
use Rattle.model.specs.Sections.{count, owns_at}
use Rattle.model.specs.Questions.{first_no, of_section}
use Rattle.model.specs.Filling.{Filled, fill_by}
use Rattle.model.specs.Calls.{walk_of}
use Rattle.model.proofs.NeighbourLaws.{cost-le, cost-some}
use Rattle.model.proofs.FillLoopLaws.{Going, starts, fill-some, fill-keeps, fill-over, goes-far, ends-full, ends-place, ends-quota}
use Rattle.model.proofs.ByteFillsHold.{Written, fill-written, stored-words, address-low, next_le, next-owned}
use Rattle.model.proofs.FillBounds.{Within, fill-within}
use Rattle.section.specs.declared.shares.Share.{Share}
use Rattle.section.specs.Strides.{strided_of}
use Rattle.section.specs.Shares.{share_of, owned_by}
use Rattle.section.proofs.ShareLaws.{owned-by}
use Rattle.walk.specs.declared.moves.Report.{Report}
use Rattle.fill.specs.declared.ready.Start.{Start}
use Rattle.fill.specs.Ready.{share_from, Accepted, FillsFrom, FillsBytesFrom}

-- ---- a fill along the walk of an accepted section

module _ (x : Section) (ok : first_no (of_section x) ≡ 0) (t quota : ℕ) (l : List ℕ) (h : t ≤ count x) where
  writes : Written l (fill_by (walk_of x) t quota l)
  unfolding walk_of
  writes = fill-written (walk_of x) (λ u k. omega (arith, address-low x ok u k)) (next_le x ok) t quota l h

  stays_within : Within quota (count x) (fill_by (walk_of x) t quota l)
  unfolding walk_of
  stays_within = fill-within (walk_of x) (cost-some x) (cost-le x) (next_le x ok) t quota l h

  -- it ends at a place of the processor, if it starts at one
  ends-owned : (q : ℕ) → (t < count x → owns_at x q t ≡ true)
      → (fill_by (walk_of x) t quota l).place < count x → owns_at x q (fill_by (walk_of x) t quota l).place ≡ true
  unfolding walk_of
  ends-owned q mine = (fill-keeps (walk_of x) Owned on t quota l (h, mine)).1
    where
      Owned : ℕ → Type 0
      Owned u = (u ≤ count x) × (u < count x → owns_at x q u ≡ true)

      on : (u : ℕ) → (u ≡ count x → ⊥) → Owned u → Owned ((walk_of x).next u)
      on u other o = let k : u < count x = omega (arith, o.0) in (next_le x ok u k, next-owned x ok u k q (o.1 k))

-- ---- a chunk, by the bytes of its words

module _ (s : Start) (a : Accepted s) (bs bs' l : List ℕ) (r : Report) (long : length bs ≡ 4 * length l) (f : FillsBytesFrom s bs bs' r) where
  before : (x : Section) → share_from s ≡ share_of x s.processor → s.place.0 ≤ count x
  unfolding strided_of
  before x same = omega (arith, a.started.place, ap (λ (v : Share). v.section.count) same)

  pub chunk_inside : r.entries ≤ length l
  chunk_inside =
      let x = a.source in
      let ok = a.accepted in
      let same = a.same in
      omega (arith, (f x ok same).entries, (writes x ok s.place.0 s.quota (words_of 4 bs) (before x same)).inside, words-length 4 bs)

  pub chunk-fills : FillsFrom s l (take r.entries (words_of 4 bs') ++ drop r.entries l) r
  chunk-fills x ok same =
      let g : Filled = fill_by (walk_of x) s.place.0 s.quota (words_of 4 bs) in
      let b = f x ok same in
      let e : words_of 4 bs' ≡ g.list = ap (words_of 4) b.bytes ∙ stored-words bs g (writes x ok s.place.0 s.quota (words_of 4 bs) (before x same)) in
      fill-over (walk_of x) s.place.0 s.quota (words_of 4 bs) l (words-length 4 bs ∙ omega arith)
      ∙ rw (e, b.entries, b.tries, b.place)

-- ---- a list, by its chunks

-- what is left to fill from place p on
abbrev pub rest_of : Start → Position → ℕ → Start
rest_of s p paid = record { section = s.section; processor = s.processor; extent = s.extent; place = p; quota = s.quota - paid }

-- what the loop keeps, at place p, with so many tries paid and n entries written
pub record Chunked (s : Start) (l₀ l : List ℕ) (p : Position) (paid n : ℕ) : Type 0 where
  pub same : length l ≡ length l₀
  pub place : p.0 ≤ s.section.count
  pub owned : p.0 < s.section.count → owned_by (share_from s) p.0 ≡ true
  pub goes : (x : Section) → first_no (of_section x) ≡ 0 → share_from s ≡ share_of x s.processor
      → Going (walk_of x) (fill_by (walk_of x) s.place.0 s.quota l₀) s.quota l p.0 paid n

module _ {s : Start} (a : Accepted s) where
  pub chunks_start : (l : List ℕ) → Chunked s l l s.place 0 0
  chunks_start l =
      record {
        same = refl;
        place = a.started.place;
        owned = a.started.owned;
        goes = λ x ok same. starts (walk_of x) s.place.0 s.quota l;
      }

  module _ {l₀ l : List ℕ} {p : Position} {paid n : ℕ} (v : Chunked s l₀ l p paid n) where
    pub bounds : (paid ≤ s.quota) × (n ≤ length l₀)
    bounds = let g = v.goes a.source a.accepted a.same in (g.left, omega (arith, g.room, v.same))

    pub rest-accepted : 3 ≤ s.quota - paid → Accepted (rest_of s p paid)
    rest-accepted least =
        record {
          started =
              record {
                section-bounded = a.started.section-bounded;
                processor = a.started.processor;
                place = v.place;
                owned = v.owned;
                least = least;
                most = omega (arith, a.started.most);
              };
          source = a.source;
          accepted = a.accepted;
          same = a.same;
        }

    module _ (room : ℕ) {l' : List ℕ} {r : Report} (f : FillsFrom (rest_of s p paid) (take room (drop n l)) l' r) where
      -- the bounds of what the chunk's fill reports
      record Part (x : Section) : Type 0 where
        counts : s.section.count ≡ count x
        inside : r.entries ≤ length l'
        long : length l' ≡ length (take room (drop n l))
        tries : r.tries ≤ s.quota - paid
        place : r.place.0 ≤ count x
        owned : r.place.0 < count x → owns_at x s.processor r.place.0 ≡ true

      part : (x : Section) → first_no (of_section x) ≡ 0 → share_from s ≡ share_of x s.processor → Part x
      unfolding strided_of
      part x ok same =
          let e = f x ok same in
          let counts : s.section.count ≡ count x = ap (λ (w : Share). w.section.count) same in
          let h : p.0 ≤ count x = omega (arith, v.place) in
          let w = rw e at (writes x ok p.0 (s.quota - paid) (take room (drop n l)) h) in
          let b = rw e at (stays_within x ok p.0 (s.quota - paid) (take room (drop n l)) h) in
          record {
            counts = counts;
            inside = omega (arith, w.inside, w.long);
            long = w.long;
            tries = b.tries;
            place = b.place;
            owned = rw e at (ends-owned x ok p.0 (s.quota - paid) (take room (drop n l)) h s.processor mine);
          }
        where
          mine : p.0 < count x → owns_at x s.processor p.0 ≡ true
          mine k =
              owned-by x ok s.processor p.0 k ∙ sym (ap (λ (w : Share). owned_by w p.0) same)
              ∙ v.owned (omega (arith, ap (λ (w : Share). w.section.count) same))

      pub chunk-some : (p.0 ≡ s.section.count → ⊥) → 3 ≤ s.quota - paid → 0 < length (take room (drop n l)) → 0 < r.entries
      unfolding walk_of strided_of
      chunk-some other least some =
          let x = a.source in
          omega (
            arith,
            ap (λ (g : Filled). g.entries) (f x a.accepted a.same),
            fill-some (walk_of x) p.0 (s.quota - paid) (take room (drop n l)) some (λ e. other (e ∙ sym (ap (λ (w : Share). w.section.count) a.same))) least,
          )

      pub chunk-on : Chunked s l₀ (take n l ++ (l' ++ drop room (drop n l))) r.place (paid + r.tries) (n + r.entries)
      chunk-on =
          let x = a.source in
          let m = part x a.accepted a.same in
          record {
            same =
                omega (
                  arith,
                  length-append (take n l) (l' ++ drop room (drop n l)),
                  length_front (drop n l) l' room m.long,
                  length-append (take n l) (drop n l),
                  ap length (take-append-drop n l),
                )
                ∙ v.same;
            place = omega (arith, m.place, m.counts);
            owned = λ k.
                ap (λ (w : Share). owned_by w r.place.0) a.same
                ∙ sym (owned-by x a.accepted s.processor r.place.0 (omega (arith, m.counts)))
                ∙ m.owned (omega (arith, m.counts));
            goes = λ x ok same. let m = part x ok same in goes-far (walk_of x) (v.goes x ok same) room (f x ok same) m.inside m.tries;
          }

    -- ---- where it ends

    pub chunks-full : length l ≤ n → FillsFrom s l₀ l (record { entries = n; tries = paid; place = p })
    chunks-full h x ok same = ends-full (walk_of x) (v.goes x ok same) h

    pub chunks-count : p.0 ≡ s.section.count → FillsFrom s l₀ l (record { entries = n; tries = paid; place = p })
    unfolding walk_of strided_of
    chunks-count h x ok same = ends-place (walk_of x) (v.goes x ok same) (h ∙ ap (λ (w : Share). w.section.count) same)

    pub chunks-quota : s.quota - paid < 3 → FillsFrom s l₀ l (record { entries = n; tries = paid; place = p })
    unfolding walk_of
    chunks-quota h x ok same = ends-quota (walk_of x) (v.goes x ok same) h
