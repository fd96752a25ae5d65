-- A formula record on a stack of formulas, by the tests of the code.
-- Assumes nothing.
use Prim.Native.Nat.{ℕ, ◌+◌, ◌-◌, ◌≤◌, ◌<◌}
use mathlib.Core.Path.{◌≡◌}
use mathlib.Core.Bool.{Bool, true, false}
use mathlib.Core.List.{List, ◌∷◌}
use native.Mathlib.Omega.{arith}
use lib.ListN.{length, drop, length-drop}
use borrow.Author.Tests.{le-leb, lt-leb, lt-ltb, le-ltb}
use Rattle.rules.specs.ReadFormula.{in_range, entry, arity, build, push, formula_record}
use Rattle.sheets.specs.Pile.{scope_of, Adds, Pushes, Puts}
use Rattle.sheets.specs.declared.Scope.{Scope}
use Rattle.sheets.specs.declared.Pile.{Pile}
use Rattle.sheets.specs.declared.FormulaFault.{FormulaFault}
use Rattle.sheets.specs.declared.FormulaFault.TheVariants.{Range, Operands, Depth, Records}
use Rattle.std.specs.Prelude.{Result, Ok, Err}

module _ (b : Scope) (p : Pile) (m : ℕ) where
  pub push_operands : p.depth < m → Pushes b p m (Err Operands)
  unfolding push Adds
  push_operands h n st e r q =
      let k : length st.values < arity e = omega (arith, r.height) in
      simp (lt-ltb _ _ k)

  module _ (h : m ≤ p.depth) where
    pub push_depth : b.depth ≤ p.depth - m → Pushes b p m (Err Depth)
    unfolding push Adds
    push_depth j n st e r q =
        let k : arity e ≤ length st.values = omega (arith, r.height) in
        let i : b.depth ≤ length st.values - arity e = omega (arith, r.height) in
        simp (le-ltb _ _ k, length-drop, le-leb _ _ i)

    module _ (j : p.depth - m < b.depth) where
      pub push_records : b.records ≤ p.count → Pushes b p m (Err Records)
      unfolding push Adds
      push_records f n st e r q =
          let k : arity e ≤ length st.values = omega (arith, r.height) in
          let i : length st.values - arity e < b.depth = omega (arith, r.height) in
          let g : b.records ≤ st.count = omega (arith, r.counted) in
          simp (le-ltb _ _ k, length-drop, lt-leb _ _ i, le-leb _ _ g)

      pub push_fine : p.count < b.records → Pushes b p m (Ok (record { depth = p.depth - m + 1; count = p.count + 1 }))
      unfolding push Adds
      push_fine f n st e r q =
          let k : arity e ≤ length st.values = omega (arith, r.height) in
          let i : length st.values - arity e < b.depth = omega (arith, r.height) in
          let g : st.count < b.records = omega (arith, r.counted) in
          record {
            to = record { values = build e st.values ∷ drop (arity e) st.values; count = st.count + 1 };
            pushed = simp (le-ltb _ _ k, length-drop, lt-leb _ _ i, lt-leb _ _ g);
            piled = record { height = simp length-drop (omega (arith, r.height)); counted = omega (arith, r.counted) };
          }

pub ruleset push_cases = (push_operands, push_depth, push_records, push_fine)

module _ (b : Scope) (p : Pile) (bs : List ℕ) (k : ℕ) (i : Bool) (e : i ≡ in_range (scope_of b) k bs) where
  pub record_range : i ≡ false → Puts b p bs k (Err Range)
  unfolding formula_record Adds
  record_range h n st r = rw (← e, h)

  pub record_put : i ≡ true → (m : ℕ) → ((cs : List ℕ) → arity (entry k cs) ≡ m) → (x : Result Pile FormulaFault) → Pushes b p m x → Puts b p bs k x
  unfolding formula_record
  record_put h m a x f n st r = rw (← e, h) (f n st (entry k bs) r (a bs))

pub ruleset formula_record_cases = (record_range, record_put)
