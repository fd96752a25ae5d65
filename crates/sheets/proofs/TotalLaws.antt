-- What a formula record adds to a count over the formulas on a stack: its bytes, or one record.
-- Assumes nothing.
use Prim.Native.Nat.{ℕ, ◌+◌, ◌≤◌}
use mathlib.Core.Path.{◌≡◌, refl}
use mathlib.Core.Bool.{Bool, true, false}
use mathlib.Core.List.{List, [], ◌∷◌, ◌++◌}
use native.Mathlib.Omega.{arith}
use lib.ListN.{length, drop, length-append}
use lib.Dec.{ltb, leb}
use borrow.Author.Tests.{ltb-false}
use Rattle.base.specs.Pick.{pick}
use Rattle.base.specs.Lists.{each}
use Rattle.rules.specs.Record.{record_length, body_length, rows, one_of}
use Rattle.rules.specs.Formula.{Leaf, Formula, Formula.leaf, Formula.inverse, Formula.both, Formula.either, Entry, Entry.put, Entry.NOT, Entry.AND, Entry.OR, postfix, size}
use Rattle.rules.specs.ReadFormula.{Faults, Bounds, formula_kinds, Stack, Pushed.fine, Pushed.fault, in_range, entry, arity, operand, build, push, formula_record}
use Rattle.rules.specs.WriteSheet.{write_entry, write_formula}
use Rattle.sheets.specs.Draft.{total, bytes_of}
use Rattle.sheets.proofs.KindLaws.{formula_kind}

each_append : (es fs : List Entry) → length (each write_entry (es ++ fs)) ≡ length (each write_entry es) + length (each write_entry fs)
each_append [] fs = omega arith
each_append (e ∷ es) fs = simp length-append (omega (arith, each_append es fs))

-- a count of formulas, by what a record adds to it
pub record Counts (f : Formula → ℕ) (w : Entry → ℕ) : Type 0 where
  pub on_leaf : (x : Leaf) → f (leaf x) ≡ w (put x)
  pub on_not : (g : Formula) → f (inverse g) ≡ f g + w NOT
  pub on_and : (g h : Formula) → f (both g h) ≡ f g + f h + w AND
  pub on_or : (g h : Formula) → f (either g h) ≡ f g + f h + w OR

abbrev pub entry_bytes : Entry → ℕ
entry_bytes e = length (write_entry e)

pub bytes_count : Counts bytes_of entry_bytes
unfolding bytes_of write_formula postfix
bytes_count = record {
  on_leaf = λ x. simp length-append (omega arith);
  on_not = λ g. simp (each_append, length-append) (omega arith);
  on_and = λ g h. simp (each_append, length-append) (omega arith);
  on_or = λ g h. simp (each_append, length-append) (omega arith);
}

abbrev pub one_each : Entry → ℕ
one_each e = 1

pub sizes_count : Counts size one_each
unfolding size
sizes_count = record { on_leaf = λ x. refl; on_not = λ g. refl; on_and = λ g h. refl; on_or = λ g h. refl }

pub total_build : (f : Formula → ℕ) (w : Entry → ℕ) → Counts f w → (e : Entry) (fs : List Formula) → arity e ≤ length fs
    → total f (build e fs ∷ drop (arity e) fs) ≡ total f fs + w e
unfolding total build arity
total_build f w c (put x) fs h = omega (arith, c.on_leaf x)
total_build f w c NOT [] h = absurd (omega arith)
total_build f w c NOT (a ∷ fs) h = omega (arith, c.on_not a)
total_build f w c AND [] h = absurd (omega arith)
total_build f w c AND (a ∷ []) h = absurd (omega arith)
total_build f w c AND (a ∷ b ∷ fs) h = omega (arith, c.on_and b a)
total_build f w c OR [] h = absurd (omega arith)
total_build f w c OR (a ∷ []) h = absurd (omega arith)
total_build f w c OR (a ∷ b ∷ fs) h = omega (arith, c.on_or b a)

-- what a formula record that was put has made of the stack
pub record Built (st u : Stack) (e : Entry) : Type 0 where
  pub enough : arity e ≤ length st.values
  pub made : u ≡ record { values = build e st.values ∷ drop (arity e) st.values; count = st.count + 1 }

module _ (n : Faults) (b : Bounds) (st u : Stack) where
  pub push_built : (e : Entry) → push n b st e ≡ fine u → Built st u e
  unfolding push
  push_built e h = one (ltb (length st.values) (arity e)) refl h
    where
      v : Stack
      v = record { values = build e st.values ∷ drop (arity e) st.values; count = st.count + 1 }

      three : (x : Bool) → ltb (length st.values) (arity e) ≡ false → pick x (fault n.records) (fine v) ≡ fine u → Built st u e
      three true q g = let z : ◌≡◌ {A = ℕ} 0 1 = cc in absurd (omega arith)
      three false q g = record { enough = ltb-false _ _ q; made = cc }

      two : (x : Bool) → ltb (length st.values) (arity e) ≡ false
          → pick x (fault n.depth) (pick (leb b.records st.count) (fault n.records) (fine v)) ≡ fine u → Built st u e
      two true q g = let z : ◌≡◌ {A = ℕ} 0 1 = cc in absurd (omega arith)
      two false q g = three (leb b.records st.count) q g

      one : (x : Bool) → ltb (length st.values) (arity e) ≡ x
          → pick x (fault n.operands) (pick (leb b.depth (length (drop (arity e) st.values))) (fault n.depth) (pick (leb b.records st.count) (fault n.records) (fine v))) ≡ fine u
          → Built st u e
      one true q g = let z : ◌≡◌ {A = ℕ} 0 1 = cc in absurd (omega arith)
      one false q g = two (leb b.depth (length (drop (arity e) st.values))) q g

  pub record_built : (k : ℕ) (bs : List ℕ) → formula_record n b st k bs ≡ fine u → Built st u (entry k bs)
  unfolding formula_record
  record_built k bs h = go (in_range b k bs) h
    where
      go : (x : Bool) → pick x (push n b st (entry k bs)) (fault n.range) ≡ fine u → Built st u (entry k bs)
      go true g = push_built (entry k bs) g
      go false g = let z : ◌≡◌ {A = ℕ} 0 1 = cc in absurd (omega arith)

pub total_built : (f : Formula → ℕ) (w : Entry → ℕ) → Counts f w → (st u : Stack) (e : Entry) → Built st u e → total f u.values ≡ total f st.values + w e
total_built f w c st u e x = rw x.made (total_build f w c e st.values x.enough)

-- the one value that a closing record finds
pub total_one : (f : Formula → ℕ) (fs : List Formula) → length fs ≡ 1 → total f fs ≡ f (operand fs 0)
unfolding total
total_one f [] h = absurd (omega arith)
total_one f (x ∷ []) h = omega arith
total_one f (x ∷ y ∷ fs) h = absurd (omega arith)

-- a formula record takes the bytes that it is written in
pub entry_bytes_lem : (k : ℕ) (bs : List ℕ) → one_of formula_kinds k ≡ true → record_length k ≡ entry_bytes (entry k bs)
unfolding record_length body_length rows entry write_entry
entry_bytes_lem k bs h = formula_kind (λ (x : ℕ). record_length x ≡ entry_bytes (entry x bs)) k h refl refl refl refl refl refl
