-- The parts of a sheet's bytes, and where each begins.
-- Assumes nothing.
use Prim.Native.Nat.{ℕ, ◌+◌, ◌≤◌}
use mathlib.Core.Path.{◌≡◌, refl, sym, ap, ◌∙◌}
use mathlib.Core.Bool.{false}
use mathlib.Core.List.{List, [], ◌∷◌, ◌++◌, append_assoc}
use native.Mathlib.Omega.{arith}
use lib.ListN.{length, get_or, drop}
use lib.Seq.{drop-drop, drop_at}
use lib.Dec.{eqb}
use Rattle.base.specs.Lists.{each}
use Rattle.rules.specs.Kind
use Rattle.rules.specs.Formula.{Leaf.input, Leaf.coil, Leaf.constant, Formula, Formula.leaf, Formula.inverse, Formula.both, Formula.either, Entry, Entry.put, Entry.NOT, Entry.AND, Entry.OR, postfix}
use Rattle.rules.specs.Sheet.{Rung, Sheet}
use Rattle.rules.specs.WriteSheet.{write_entry, write_formula, write_start, write_rung, write_sheet}

-- a formula has a first record, which is no START
record Opens (f : Formula) : Type 0 where
  e : Entry
  es : List Entry
  is : postfix f ≡ e ∷ es

opens : (f : Formula) → Opens f
unfolding postfix
opens (leaf x) = record { e = put x; es = []; is = refl }
opens (inverse f) = let o = opens f in record { e = o.e; es = o.es ++ (NOT ∷ []); is = ap (λ (x : List Entry). x ++ (NOT ∷ [])) o.is }
opens (both f g) = let o = opens f in record { e = o.e; es = o.es ++ (postfix g ++ (AND ∷ [])); is = ap (λ (x : List Entry). x ++ (postfix g ++ (AND ∷ []))) o.is }
opens (either f g) = let o = opens f in record { e = o.e; es = o.es ++ (postfix g ++ (OR ∷ [])); is = ap (λ (x : List Entry). x ++ (postfix g ++ (OR ∷ []))) o.is }

entry_kind : (e : Entry) (rest : List ℕ) → eqb (get_or (write_entry e ++ rest) 0 0) Kind.START ≡ false
unfolding write_entry
entry_kind (put (input n)) rest = refl
entry_kind (put (coil n)) rest = refl
entry_kind (put (constant b)) rest = refl
entry_kind NOT rest = refl
entry_kind AND rest = refl
entry_kind OR rest = refl

formula_kind : (f : Formula) (rest : List ℕ) → eqb (get_or (write_formula f ++ rest) 0 0) Kind.START ≡ false
unfolding write_formula
formula_kind f rest =
    let o = opens f in
    rw (o.is, append_assoc (write_entry o.e) (each write_entry o.es) rest) (entry_kind o.e (each write_entry o.es ++ rest))

rungs_kind : (rs : List Rung) (f : Formula) (rest : List ℕ) → eqb (get_or (each write_rung rs ++ (write_formula f ++ rest)) 0 0) Kind.START ≡ false
unfolding write_rung
rungs_kind [] f rest = formula_kind f rest
rungs_kind (r ∷ rs) f rest =
    rw (append_assoc (write_formula r.formula ++ _), append_assoc (write_formula r.formula)) (formula_kind r.formula _)

-- what stands after each part
abbrev pub after_condition : List ℕ
after_condition = Kind.CONDITION ∷ Kind.END ∷ []

abbrev pub after_rung_bytes : Sheet → List ℕ
after_rung_bytes t = write_formula t.condition ++ after_condition

abbrev pub after_starts : Sheet → List ℕ
after_starts t = each write_rung t.rungs ++ after_rung_bytes t

module _ (s : List ℕ) (t : Sheet) (e : write_sheet t ≡ s) where
  pub starts_there : drop 7 s ≡ each write_start t.starts ++ after_starts t
  unfolding write_sheet
  starts_there = rw (← e)

  pub head_there : 7 ≤ length s
  unfolding write_sheet
  head_there = rw (← e) (omega arith)

  pub starts_end : eqb (get_or (after_starts t) 0 0) Kind.START ≡ false
  starts_end = rungs_kind t.rungs t.condition after_condition

  pub rungs_there : drop (7 + length (each write_start t.starts)) s ≡ after_starts t
  rungs_there =
      sym (drop-drop (length (each write_start t.starts)) 7 s)
      ∙ ap (drop (length (each write_start t.starts))) starts_there
      ∙ drop_at (each write_start t.starts) (after_starts t) (length (each write_start t.starts)) refl

  pub condition_there : drop (7 + length (each write_start t.starts) + length (each write_rung t.rungs)) s ≡ after_rung_bytes t
  condition_there =
      sym (drop-drop (length (each write_rung t.rungs)) (7 + length (each write_start t.starts)) s)
      ∙ ap (drop (length (each write_rung t.rungs))) rungs_there
      ∙ drop_at (each write_rung t.rungs) (after_rung_bytes t) (length (each write_rung t.rungs)) refl
