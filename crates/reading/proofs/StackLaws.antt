-- A stack of formulas: its bytes, its count and its heights, as each formula record keeps them.
-- Assumes nothing.
use Prim.Native.Nat.{ℕ, ◌+◌, ◌≤◌, ◌<◌}
use mathlib.Core.Path.{◌≡◌, refl, ap, ◌∙◌}
use mathlib.Core.Bool.{Bool, true, false}
use mathlib.Core.List.{List, [], ◌∷◌, ◌++◌, append-nil, append_assoc}
use native.Mathlib.Omega.{arith}
use lib.ListN.{length, drop}
use lib.Dec.{ltb, leb}
use borrow.Author.Tests.{ltb-false, leb-false, le-ltb, lt-leb}
use Rattle.base.specs.Pick.{pick}
use Rattle.base.specs.Lists.{each}
use Rattle.rules.specs.Formula.{Leaf, Formula, Formula.leaf, Formula.inverse, Formula.both, Formula.either, Entry, Entry.put, Entry.NOT, Entry.AND, Entry.OR, postfix, size, height}
use Rattle.rules.specs.ReadFormula.{Faults, Bounds, in_range, entry, arity, build, Stack, Pushed, Pushed.fine, Pushed.fault, push, formula_record}
use Rattle.rules.specs.WriteSheet.{write_entry, write_formula, Names}
use Rattle.reading.proofs.ByteLaws.{each_append, each_snoc}
use Rattle.reading.proofs.EntryLaws.{EntryNames}

-- a stack with a record's value on it
abbrev pub grown : Stack → Entry → Stack
grown st e = record { values = build e st.values ∷ drop (arity e) st.values; count = st.count + 1 }

-- what a push that was no fault says
pub record Grows (b : Bounds) (st : Stack) (e : Entry) : Type 0 where
  pub enough : arity e ≤ length st.values
  pub room : length (drop (arity e) st.values) < b.depth
  pub few : st.count < b.records

-- a test that would have been a fault has failed
module _ (u : Stack) where
  no_fault : (x : Bool) (n : ℕ) (y : Pushed) → pick x (fault n) y ≡ fine u → (x ≡ false) × (y ≡ fine u)
  no_fault true n y e = let z : ◌≡◌ {A = ℕ} 0 1 = cc in absurd (omega arith)
  no_fault false n y e = (refl, e)

  in_range_lem : (x : Bool) (n : ℕ) (y : Pushed) → pick x y (fault n) ≡ fine u → (x ≡ true) × (y ≡ fine u)
  in_range_lem true n y e = (refl, e)
  in_range_lem false n y e = let z : ◌≡◌ {A = ℕ} 0 1 = cc in absurd (omega arith)

module _ (n : Faults) (b : Bounds) (st : Stack) where
  module _ (e : Entry) where
    pub push_grows : (u : Stack) → push n b st e ≡ fine u → Grows b st e × (grown st e ≡ u)
    unfolding push
    push_grows u f =
        let x = no_fault u (ltb (length st.values) (arity e)) _ _ f in
        let y = no_fault u (leb b.depth (length (drop (arity e) st.values))) _ _ x.1 in
        let z = no_fault u (leb b.records st.count) _ _ y.1 in
        let w : grown st e ≡ u = cc z.1 in (
          record {
            enough = ltb-false (length st.values) (arity e) x.0;
            room = leb-false b.depth (length (drop (arity e) st.values)) y.0;
            few = leb-false b.records st.count z.0;
          },
          w,
        )

    pub grows_push : Grows b st e → push n b st e ≡ fine (grown st e)
    unfolding push
    grows_push g = rw (le-ltb _ _ g.enough, lt-leb _ _ g.room, lt-leb _ _ g.few)

  -- a formula record that was no fault: its range, and its push
  pub record_grows : (k : ℕ) (bs : List ℕ) (u : Stack) → formula_record n b st k bs ≡ fine u
      → (in_range b k bs ≡ true) × Grows b st (entry k bs) × (grown st (entry k bs) ≡ u)
  unfolding formula_record
  record_grows k bs u f =
      let x = in_range_lem u (in_range b k bs) n.range (push n b st (entry k bs)) f in
      let y = push_grows (entry k bs) u x.1 in
      (x.0, y.0, y.1)

-- a stack's bytes: those of its formulas, from the oldest to the newest
unfoldable pub write_stack : List Formula → List ℕ
write_stack [] = []
write_stack (f ∷ fs) = write_stack fs ++ write_formula f

-- how many formula records they have
unfoldable pub stack_size : List Formula → ℕ
stack_size [] = 0
stack_size (f ∷ fs) = stack_size fs + size f

-- each formula names what is there, and was no higher than the stack allows over those below it
unfoldable pub StackFits : Bounds → List Formula → Type 0
StackFits b [] = Unit {0}
StackFits b (f ∷ fs) = Names b f × (length fs + height f ≤ b.depth) × StackFits b fs

pub write_leaf : (x : Leaf) → write_formula (leaf x) ≡ write_entry (put x)
unfolding write_formula postfix
write_leaf x = append-nil (write_entry (put x))

pub write_inverse : (f : Formula) → write_formula (inverse f) ≡ write_formula f ++ write_entry NOT
unfolding write_formula postfix
write_inverse f = each_snoc write_entry (postfix f) NOT

write_pair : (f g : Formula) (o : Entry) → each write_entry (postfix f ++ (postfix g ++ (o ∷ []))) ≡ write_formula f ++ (write_formula g ++ write_entry o)
unfolding write_formula
write_pair f g o =
    each_append write_entry (postfix f) (postfix g ++ (o ∷ []))
    ∙ ap (λ (r : List ℕ). each write_entry (postfix f) ++ r) (each_snoc write_entry (postfix g) o)

pub write_both : (f g : Formula) → write_formula (both f g) ≡ write_formula f ++ (write_formula g ++ write_entry AND)
unfolding write_formula postfix
write_both f g = write_pair f g AND

pub write_either : (f g : Formula) → write_formula (either f g) ≡ write_formula f ++ (write_formula g ++ write_entry OR)
unfolding write_formula postfix
write_either f g = write_pair f g OR

-- a record's value takes the place of its operands: the bytes grow by the record, the count by one
pub grown_written : (e : Entry) (fs : List Formula) → arity e ≤ length fs → write_stack (build e fs ∷ drop (arity e) fs) ≡ write_stack fs ++ write_entry e
unfolding write_stack arity build
grown_written (put x) fs h = ap (λ (r : List ℕ). write_stack fs ++ r) (write_leaf x)
grown_written NOT [] h = absurd (omega arith)
grown_written NOT (f ∷ fs) h = rw (write_inverse, append_assoc)
grown_written AND [] h = absurd (omega arith)
grown_written AND (g ∷ []) h = absurd (omega arith)
grown_written AND (g ∷ f ∷ fs) h = simp (write_both, append_assoc)
grown_written OR [] h = absurd (omega arith)
grown_written OR (g ∷ []) h = absurd (omega arith)
grown_written OR (g ∷ f ∷ fs) h = simp (write_either, append_assoc)

pub grown_size : (e : Entry) (fs : List Formula) → arity e ≤ length fs → stack_size (build e fs ∷ drop (arity e) fs) ≡ stack_size fs + 1
unfolding stack_size arity build size
grown_size (put x) fs h = refl
grown_size NOT [] h = absurd (omega arith)
grown_size NOT (f ∷ fs) h = omega arith
grown_size AND [] h = absurd (omega arith)
grown_size AND (g ∷ []) h = absurd (omega arith)
grown_size AND (g ∷ f ∷ fs) h = omega arith
grown_size OR [] h = absurd (omega arith)
grown_size OR (g ∷ []) h = absurd (omega arith)
grown_size OR (g ∷ f ∷ fs) h = omega arith

pub grown_fits : (b : Bounds) (e : Entry) (fs : List Formula) → arity e ≤ length fs → length (drop (arity e) fs) < b.depth
    → EntryNames b e → StackFits b fs → StackFits b (build e fs ∷ drop (arity e) fs)
unfolding StackFits arity build height Names
grown_fits b (put x) fs h r n s = (n, omega arith, s)
grown_fits b NOT [] h r n s = absurd (omega arith)
grown_fits b NOT (f ∷ fs) h r n s = s
grown_fits b AND [] h r n s = absurd (omega arith)
grown_fits b AND (g ∷ []) h r n s = absurd (omega arith)
grown_fits b AND (g ∷ f ∷ fs) h r n s = ((s.2.0, s.0), omega arith, s.2.2)
grown_fits b OR [] h r n s = absurd (omega arith)
grown_fits b OR (g ∷ []) h r n s = absurd (omega arith)
grown_fits b OR (g ∷ f ∷ fs) h r n s = ((s.2.0, s.0), omega arith, s.2.2)
