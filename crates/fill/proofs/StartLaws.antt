-- Where an accepted fill in blocks starts: its state stands at its place, and the loops may start from it.
use Prim.Native.Nat.{ℕ, ◌<◌, ◌≤◌}
use mathlib.Core.Path.{◌≡◌, refl, sym, ap, ◌∙◌, subst}
use mathlib.Core.Bool.{Bool, true, false}
use native.Mathlib.Nat.{mod-lt}
use native.Mathlib.Omega.{arith}
use mathlib.Core.List.{List}
use lib.Dec.{lit<}
use Rattle.model.specs.Mappings.{Section}
use Rattle.model.specs.Ownership.{column_of, owner_of, rank}
use Rattle.model.specs.Sections.{layout, count}
use Rattle.model.specs.Questions.{first_no, of_section}
use Rattle.model.proofs.ByteFillsHold.{rank-low}
use Rattle.section.specs.declared.questions.Strided.{Strided}
use Rattle.section.specs.Strides.{strided_of, index_at, cell_at, owned_at}
use Rattle.section.proofs.StridedSections.{address-at, cell-at, owned_at_lem}
use Rattle.walk.specs.declared.moves.Moves.{Moves}
use Rattle.walk.specs.declared.moves.State.{State}
use Rattle.walk.specs.declared.moves.Report.{Report}
use Rattle.fill.specs.declared.ready.Start.{Start}
use Rattle.walk.specs.declared.learning.Elements.{Elements}
use Rattle.walk.specs.declared.learning.Task.{Task}
use Rattle.fill.specs.declared.plan.Plan.TheVariants.{Constant, Learnt}
use Rattle.walk.specs.Moving.{Small, Still}
use Rattle.walk.specs.Bursts.{Starts}
use Rattle.fill.specs.SectionMoves.{block_walk, on_way, column_at, StandsAt}
use Rattle.walk.specs.Driving.{FillsBytes}
use Rattle.walk.specs.Learning.{Begins, FillsBytesEven}
use Rattle.fill.specs.Starting.{Planned, InBlocks, FillsBlocks, elements_in, task_in, StateOf}
use Rattle.fill.proofs.ReadyLaws.{elements-placed}

pub way-low : (up : Bool) (k q : ℕ) → q < k → on_way up k q < k
way-low true k q h = h
way-low false k q h = omega arith

module _ (s : Start) (a : InBlocks s) where
  -- at the count there is no element to stand at
  pub state-past : s.section.count ≤ s.place.0 → StateOf s (record { column = 0; address = record { 0 = 0 }; place = s.place; paid = 0 })
  unfolding strided_of
  state-past h = record {
    place = refl;
    paid = refl;
    column = a.started.section-bounded.sized.block-pos;
    address = lit< tt;
    stands = λ x ok same. record { mine = λ l. past x same l; column = λ l. past x same l; address = λ l. past x same l };
  }
    where
      past : {A : Type 0} (x : Section) → s.section ≡ strided_of x → s.place.0 < count x → A
      past x same l = absurd (omega (arith, ap (λ (v : Strided). v.count) same))

  -- below it there is: its column q and its address x
  module _ (q x : ℕ) (h : s.place.0 < s.section.count)
      (column : q ≡ on_way s.section.upward s.section.layout.block (column_of s.section.layout (cell_at s.section s.place.0)))
      (addr : x ≡ rank (owner_of s.section.layout) (index_at s.section s.place.0)) where
    pub state-on : StateOf s (record { column = q; address = record { 0 = x }; place = s.place; paid = 0 })
    unfolding column_of strided_of column_at
    state-on = record {
      place = refl;
      paid = refl;
      column = rw column (way-low s.section.upward _ _ (mod-lt _ a.started.section-bounded.sized.block-pos));
      address = low;
      stands = at;
    }
      where
        at : (y : Section) → first_no (of_section y) ≡ 0 → s.section ≡ strided_of y
            → StandsAt y s.processor (record { column = q; address = record { 0 = x }; place = s.place; paid = 0 })
        at y ok same = record {
          mine = λ l. owned_at_lem y ok s.processor s.place.0 l ∙ sym (ap (λ (v : Strided). owned_at v s.processor s.place.0) same) ∙ a.mine h;
          column = λ l.
              column ∙ ap (λ (v : Strided). on_way v.upward v.layout.block (column_of v.layout (cell_at v s.place.0))) same
              ∙ ap (λ (z : ℕ). on_way (strided_of y).upward (layout y).block (column_of (layout y) z)) (sym (cell-at y ok s.place.0 l));
          address = λ l. addr ∙ ap (λ (v : Strided). rank (owner_of v.layout) (index_at v s.place.0)) same ∙ sym (address-at y ok s.place.0 l);
        }

        low : x < 4294967296
        low =
            let y = a.taken.source in
            let l : s.place.0 < count y = omega (arith, ap (λ (v : Strided). v.count) a.taken.same) in
            omega (arith, (at y a.taken.accepted a.taken.same).address l, rank-low y a.taken.accepted s.place.0 l (owner_of (layout y)))

  -- the loops may start from it
  starts : (r : State) → StateOf s r → (m : Moves) → Small m → m.block ≡ (layout a.taken.source).block → Starts m s.section.count s.quota r
  unfolding strided_of
  starts r t m small b = record {
    small = small;
    sound = record { column = omega (arith, t.column, ap (λ (v : Strided). v.layout.block) a.taken.same); address = t.address };
    few = omega (arith, a.started.section-bounded.count-high);
    low = omega (arith, a.started.most);
    place = omega (arith, t.place, a.started.place);
    paid = t.paid;
  }

  pub constant-starts : (r : State) → StateOf s r → (m : Moves) → Planned s.section s.processor (Constant m) → Starts m s.section.count s.quota r
  constant-starts r t m p = let f = p a.taken.source a.taken.accepted a.taken.same in starts r t m f.0 f.1

  pub learnt-begins : (r : State) → StateOf s r → (m : Moves) → Planned s.section s.processor (Learnt m) → Begins (task_in s m) r × Still m
  learnt-begins r t m p =
      let f = p a.taken.source a.taken.accepted a.taken.same in
      ((elements-placed s.section a.started.section-bounded, starts r t m f.0 f.1), f.3)

  -- ---- what a loop gives of every walk that the plan's moves go along, it gives of the section's

  module _ (r : State) (t : StateOf s r) (m : Moves) (l l' : List ℕ) (o : Report) where
    pub bytes-constant : Planned s.section s.processor (Constant m) → FillsBytes m s.section.count s.quota r l l' o → FillsBlocks s l l' o
    unfolding block_walk strided_of
    bytes-constant p f x ok same =
        let d = (p x ok same).2 in
        rw t.place at (f (block_walk x) (sym (ap (λ (v : Strided). v.count) same)) d.drives (d.stands r (t.stands x ok same)))

    pub bytes-learnt : Planned s.section s.processor (Learnt m) → (f : Task) → f ≡ task_in s m → FillsBytesEven f r l l' o → FillsBlocks s l l' o
    unfolding block_walk strided_of
    bytes-learnt p f is g x ok same =
        let d = (p x ok same).2 in
        let g' = subst (λ (z : Elements). FillsBytesEven (record { elements = z; moves = m; count = s.section.count; quota = s.quota }) r l l' o) (ap elements_in same)
        (subst (λ (z : Task). FillsBytesEven z r l l' o) is g) in
        rw t.place at (g' (block_walk x) (sym (ap (λ (v : Strided). v.count) same)) d.even (d.stands r (t.stands x ok same)))
