-- The coils numbered, a formula with its top, and a formula passed.
-- Assumes nothing.
use Prim.Native.Nat.{ℕ, ◌+◌, ◌-◌, ◌/◌, ◌≤◌, ◌<◌}
use mathlib.Core.Path.{◌≡◌, refl, sym, ap, ◌∙◌}
use mathlib.Core.Bool.{Bool, true, false}
use mathlib.Core.List.{List, ◌++◌}
use native.Mathlib.Omega.{arith}
use lib.ListN.{length, get_or, set, length-append, length-set}
use lib.Seq.{get_or-set_same, get_or-set_other}
use lib.Dec.{eqb}
use borrow.Author.Tests.{eqb-true, eqb-false}
use mir.Val.{Fits}
use mir.Syntax.{w16}
use Rattle.rules.specs.Formula.{Formula, size}
use Rattle.rules.specs.ReadFormula.{Bounds}
use Rattle.rules.specs.WriteSheet.{write_formula}
use Rattle.rules.specs.Clauses.{Clause, top, defining}
use Rattle.clauses.specs.declared.Wrote.{Wrote}
use Rattle.clauses.specs.Emits.{emits, signed, Emitted, Small}
use Rattle.clauses.specs.Stack.{vars_of}
use Rattle.clauses.specs.Formed.{Formed, FormulaAt, Written, FormulaWritten, TopWritten, FormulaPassed}
use Rattle.clauses.specs.Sets.{Numbered}
use Rattle.clauses.proofs.EmitLaws.{emits_append, emits_none}
use Rattle.clauses.proofs.FlatLaws.{few_clauses}
use Rattle.clauses.proofs.RungLaws.{some_size}

-- the first i coils are numbered
pub record Numbering (map₀ map : List ℕ) (i : ℕ) : Type 0 where
  pub few : length map₀ < 32768
  pub long : length map ≡ length map₀
  pub upto : i ≤ length map
  pub done : (c : ℕ) → c < i → get_or map c 0 ≡ 1 + c

pub none_numbered : (map : List ℕ) → length map < 32768 → Numbering map map 0
none_numbered map h = record { few = h; long = refl; upto = omega arith; done = λ c l. absurd (omega arith) }

module _ (map₀ map : List ℕ) (i : ℕ) (w : Numbering map₀ map i) where
  pub coil_number : i < length map → Fits w16 (i + 1)
  coil_number h = record { fits = omega (arith, w.few, w.long) }

  pub one_numbered : i < length map → Numbering map₀ (set map i (i + 1)) (i + 1)
  one_numbered h = record { few = w.few; long = length-set map i (i + 1) ∙ w.long; upto = simp length-set (omega arith); done = at_each }
    where
      at_each : (c : ℕ) → c < i + 1 → get_or (set map i (i + 1)) c 0 ≡ 1 + c
      at_each c l = go (eqb c i) refl
        where
          go : (b : Bool) → eqb c i ≡ b → get_or (set map i (i + 1)) c 0 ≡ 1 + c
          go true e = let z : c ≡ i = eqb-true c i e in rw (z, get_or-set_same map i (i + 1) 0 h) (omega arith)
          go false e =
              let z : (c ≡ i → ⊥) = eqb-false c i e in
              rw (get_or-set_other map i c (i + 1) 0 z) (w.done c (omega arith))

  pub all_numbered : length map ≤ i → Numbered map
  all_numbered h = record { few = omega (arith, w.few, w.long); at = λ c l. w.done c (omega arith) }

pub ruleset number_cases = (none_numbered, coil_number, one_numbered, all_numbered)

module _ (s : List ℕ) (at : ℕ) (map : List ℕ) (base g : ℕ) (stack out : List ℕ) (n : ℕ) (q : FormulaAt s at map base g stack n) (out₁ : List ℕ) (w : Wrote)
    (d : FormulaWritten s at map base g stack out n out₁ w) where
  there : Written at g n (length (write_formula q.formula)) (size q.formula) (defining (vars_of map base) g q.formula) out out₁ w
  there = d.of q.bounds q.formula q.rest q.formed

  pub top_there : 1 ≤ w.g
  top_there = omega (arith, there.g_is, some_size q.formula)

  pub top_small : Small w.n (w.g - 1) (w.g - 1) (w.g - 1)
  top_small =
      let h : w.g - 1 < 32768 = omega (arith, there.g_is, some_size q.formula, q.formed.numbered) in
      record { few = omega (arith, there.n_is, few_clauses (vars_of map base) g q.formula, q.formed.few); g_fits = h; x_fits = h; y_fits = h }

  pub top_written : (on : Bool) (out₂ : List ℕ) (m : ℕ) → Emitted out₁ w.n (signed on (w.g - 1)) out₂ m
      → TopWritten on s at map base g stack out n out₂ (record { at = w.at; g = w.g; n = m })
  top_written on out₂ m e = record { of = λ b f rest x. done b f rest x }
    where
      done : (b : Bounds) (f : Formula) (rest : List ℕ) → Formed s at map base g stack n b f rest
          → Written at g n (length (write_formula f)) (size f) (defining (vars_of map base) g f ++ signed on (top g f)) out out₂ (record { at = w.at; g = w.g; n = m })
      done b f rest x =
          let y = d.of b f rest x in
          let cs : List Clause = defining (vars_of map base) g f in
          let t : w.g - 1 ≡ top g f = ap (λ (z : ℕ). z - 1) y.g_is in
          record {
            at_is = y.at_is;
            g_is = y.g_is;
            n_is = rw length-append (omega (arith, e.counted, y.n_is));
            out_is = e.wrote ∙ (λ i. emits (y.out_is i) (y.n_is i) (signed on (t i))) ∙ sym (emits_append out n cs (signed on (top g f)));
          }

pub formula_passed : (s : List ℕ) (at : ℕ) (map : List ℕ) (base g : ℕ) (stack out : List ℕ) → FormulaAt s at map base g stack (length out / 3)
    → (out' : List ℕ) (w : Wrote) → FormulaWritten s at map base g stack out (length out / 3) out' w → FormulaPassed s at map base g stack out out' w.g
formula_passed s at map base g stack out q out' w d =
    let y = d.of q.bounds q.formula q.rest q.formed in
    record {
      same = y.out_is ∙ emits_none out (length out / 3) (defining (vars_of map base) g q.formula) (omega arith);
      of = λ b f rest x. (d.of b f rest x).g_is;
    }

pub ruleset top_cases = (top_there, top_small, top_written, formula_passed)
