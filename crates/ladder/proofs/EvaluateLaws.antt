-- Evaluating a formula's bytes: the loop's invariant, and its turns.
-- Assumes nothing.
use Prim.Native.Nat.{ℕ, ◌+◌, ◌-◌, ◌≤◌, ◌<◌}
use mathlib.Core.Path.{◌≡◌, refl, sym, ap, ◌∙◌, subst}
use mathlib.Core.Bool.{Bool}
use mathlib.Core.List.{List, [], ◌∷◌, ◌++◌, append_assoc, append-nil}
use native.Mathlib.Omega.{arith}
use lib.ListN.{length, drop, length-append, length-drop}
use lib.Seq.{drop-drop, drop-append_seam}
use Rattle.base.specs.Lists.{each}
use Rattle.rules.specs.Formula.{Leaf.input, Leaf.coil, Leaf.constant, Entry, Entry.put, Entry.NOT, Entry.AND, Entry.OR, postfix, value}
use Rattle.rules.specs.ReadFormula.{arity}
use Rattle.rules.specs.WriteSheet.{write_entry, write_formula}
use Rattle.formulas.specs.Part.{part_for, entry_for, part_of, length_of}
use Rattle.formulas.specs.declared.Part.{Part}
use Rattle.formulas.specs.declared.Part.TheVariants.{Closing}
use Rattle.formulas.proofs.ReadBack.{read_back, length_back, entry_back, not_closing, closing_back}
use Rattle.ladder.specs.Values.{on, values, act, acts, Taken}
use Rattle.ladder.specs.Evaluate.{Fitting, Applicable, Applied, bounds_for, FormulaAt, EvaluatedAs, Evaluates}
use Rattle.ladder.proofs.PostfixLaws.{acts_formula, Enough, formula_fits}

some_entry : (e : Entry) → 1 ≤ length (write_entry e)
unfolding write_entry
some_entry (put (input n)) = omega arith
some_entry (put (coil n)) = omega arith
some_entry (put (constant b)) = omega arith
some_entry NOT = omega arith
some_entry AND = omega arith
some_entry OR = omega arith

-- the records es are left, and running them from the stack gives the formula's value
pub record Evaluating (s : List ℕ) (from : ℕ) (inputs coils w₀ : List ℕ) (h : FormulaAt s from (bounds_for inputs coils w₀)) (w : List ℕ) (at d : ℕ) : Type 0 where
  pub es : List Entry
  pub left : drop at s ≡ each write_entry es ++ h.rest
  pub placed : at + length (each write_entry es) ≡ from + length (write_formula h.formula)
  pub enough : Enough (bounds_for inputs coils w₀) es d
  pub low : d ≤ length w₀
  pub runs : acts (on inputs) (on coils) es (values w d) ≡ value (on inputs) (on coils) h.formula ∷ []
  pub long : length w ≡ length w₀

abbrev pub Turning : List ℕ → ℕ → List ℕ → List ℕ → List ℕ → List ℕ → ℕ → ℕ → Type 0
Turning s from inputs coils w₀ w at d = (h : FormulaAt s from (bounds_for inputs coils w₀)) → Evaluating s from inputs coils w₀ h w at d

module _ (s : List ℕ) (from : ℕ) (inputs coils w₀ : List ℕ) where
  pub turning : Turning s from inputs coils w₀ w₀ from 0
  unfolding write_formula values acts
  turning h = record {
    es = postfix h.formula;
    left = h.bytes;
    placed = refl;
    enough = formula_fits (bounds_for inputs coils w₀) h.formula h.fits;
    low = omega arith;
    runs = rw append-nil at (acts_formula (on inputs) (on coils) h.formula [] []);
    long = refl;
  }

  module _ (w : List ℕ) (at d : ℕ) (h : FormulaAt s from (bounds_for inputs coils w₀)) (i : Evaluating s from inputs coils w₀ h w at d) (part : Part) (p : part ≡ part_of (drop at s)) where
    -- the next record is e
    found : (e : Entry) (es : List Entry) → i.es ≡ e ∷ es → part ≡ part_for e
    found e es q = p ∙ ap part_of (i.left ∙ ap (λ (x : List Entry). each write_entry x ++ h.rest) q ∙ append_assoc (write_entry e) (each write_entry es) h.rest) ∙ read_back e (each write_entry es ++ h.rest)

    -- none is left
    none_left : i.es ≡ [] → part ≡ Closing
    none_left q = p ∙ ap part_of (i.left ∙ ap (λ (x : List Entry). each write_entry x ++ h.rest) q) ∙ closing_back h.rest h.closes

    -- the record at hand, or none
    pub data Next : Type 0 where
      none : i.es ≡ [] → Next
      some : (e : Entry) (es : List Entry) → i.es ≡ e ∷ es → Next

    next : Next
    next = go i.es refl
      where
        go : (x : List Entry) → i.es ≡ x → Next
        go [] q = none q
        go (e ∷ es) q = some e es q

    closed : part ≡ Closing → i.es ≡ []
    closed c = elim next [ none q ↦ q | some e es q ↦ absurd (not_closing e (sym (found e es q) ∙ c)) ]

    one_left : part ≡ Closing → d ≡ 1
    one_left c = subst (λ (x : List Entry). Enough (bounds_for inputs coils w₀) x d) (closed c) i.enough

    pub at_close : part ≡ Closing → (w' : List ℕ) (b : Bool) (r : ℕ) → Taken w w' d b r → EvaluatedAs h.formula from inputs coils w₀ w' (record { on = b; at = at })
    unfolding acts values
    at_close c w' b r t =
        let q = closed c in
        let n : d ≡ r + 1 = t.next in
        let one : d ≡ 1 = one_left c in
        let z : r ≡ 0 = omega arith in
        let v : values w d ≡ value (on inputs) (on coils) h.formula ∷ [] = subst (λ (x : List Entry). acts (on inputs) (on coils) x (values w d) ≡ value (on inputs) (on coils) h.formula ∷ []) q i.runs in
        let v' : values w 1 ≡ value (on inputs) (on coils) h.formula ∷ [] = rw one at v in
        let k : length (each write_entry i.es) ≡ 0 = rw q in
        let y : b ≡ on w 0 = rw z at t.is in
        record { is = cc; ends = let j = i.placed in omega arith; long = ap length t.same ∙ i.long }

    pub one_value : part ≡ Closing → (1 ≤ d) × (d ≤ length w)
    one_value c = let one = one_left c in let l = i.low in let m = i.long in (omega arith, omega arith)

    module _ (c : part ≡ Closing → ⊥) where
      -- there is a next record
      pub record Here : Type 0 where
        pub e : Entry
        pub es : List Entry
        pub is : i.es ≡ e ∷ es
        pub entry_is : entry_for part ≡ e
        pub length_is : length_of part ≡ length (write_entry e)

      pub here : Here
      here =
          elim next [
            | none q ↦ absurd (c (none_left q))
            | some e es q ↦ record {
              e = e;
              es = es;
              is = q;
              entry_is = ap entry_for (found e es q) ∙ entry_back e;
              length_is = ap length_of (found e es q) ∙ length_back e;
            }
          ]

      -- its two parts of what can be run
      fits : (x : Here) → Fitting (bounds_for inputs coils w₀) x.e d × Enough (bounds_for inputs coils w₀) x.es (d - arity x.e + 1)
      fits x = subst (λ (y : List Entry). Enough (bounds_for inputs coils w₀) y d) x.is i.enough

      pub applicable : Applicable part (length inputs) (length coils) (length w) d
      applicable =
          let x = here in
          record { some = c; fitting = rw (x.entry_is, i.long) (fits x).0; low = let l = i.low in let m = i.long in omega arith }

      -- the bytes from here on
      ahead : (x : Here) → drop at s ≡ write_entry x.e ++ (each write_entry x.es ++ h.rest)
      ahead x = i.left ∙ ap (λ (y : List Entry). each write_entry y ++ h.rest) x.is ∙ append_assoc (write_entry x.e) (each write_entry x.es) h.rest

      pub bytes_left : length_of part ≤ length s - at
      bytes_left =
          let x = here in
          let l : length s - at ≡ length (write_entry x.e) + length (each write_entry x.es ++ h.rest) = sym (length-drop at s) ∙ ap length (ahead x) ∙ length-append (write_entry x.e) (each write_entry x.es ++ h.rest) in
          let m = x.length_is in
          omega arith

      pub some_bytes : 1 ≤ length_of part
      some_bytes = let x = here in let m = x.length_is in let k = some_entry x.e in omega arith

      pub turned : (w' : List ℕ) (r at' : ℕ) → Applied part inputs coils w w' d r → at' ≡ at + length_of part → Evaluating s from inputs coils w₀ h w' at' r
      unfolding acts
      turned w' r at' a q =
          let x = here in
          let n : at' ≡ at + length (write_entry x.e) = let m = x.length_is in omega arith in
          let hr : r ≡ d - arity x.e + 1 = a.height ∙ ap (λ (y : Entry). d - arity y + 1) x.entry_is in
          let run : acts (on inputs) (on coils) (x.e ∷ x.es) (values w d) ≡ value (on inputs) (on coils) h.formula ∷ [] = subst (λ (y : List Entry). acts (on inputs) (on coils) y (values w d) ≡ value (on inputs) (on coils) h.formula ∷ []) x.is i.runs in
          let put : values w' r ≡ act (on inputs) (on coils) x.e (values w d) = a.stacked ∙ ap (λ (y : Entry). act (on inputs) (on coils) y (values w d)) x.entry_is in
          let k : length (each write_entry i.es) ≡ length (write_entry x.e) + length (each write_entry x.es) = ap (λ (y : List Entry). length (each write_entry y)) x.is ∙ length-append (write_entry x.e) (each write_entry x.es) in
          record {
            es = x.es;
            left = ap (λ (y : ℕ). drop y s) n ∙ sym (drop-drop (length (write_entry x.e)) at s) ∙ ap (drop (length (write_entry x.e))) (ahead x) ∙ drop-append_seam (write_entry x.e) (each write_entry x.es ++ h.rest);
            placed = let j = i.placed in omega arith;
            enough = rw hr (fits x).1;
            low = let f = (fits x).0.room in omega arith;
            runs = rw put run;
            long = a.long ∙ i.long;
          }

-- the turns as the code meets them
module _ (s : List ℕ) (from : ℕ) (inputs coils w₀ w : List ℕ) (at d : ℕ) (i : Turning s from inputs coils w₀ w at d) (part : Part) (p : part ≡ part_of (drop at s)) where
  -- m and n name the reference that was lent and the one that is given back
  pub evaluated : part ≡ Closing → (w' w'' : List ℕ) (m n : ℕ) → (length w'' ≡ length w₀) × (m ≡ n → w'' ≡ w') → m ≡ n
      → (b : Bool) (r : ℕ) → Taken w w' d b r → Evaluates s from inputs coils w₀ w'' (record { on = b; at = at })
  evaluated z w' w'' m n g e b r t h = rw (g.1 e) (at_close s from inputs coils w₀ w at d h (i h) part p z w' b r t)

  pub turned_again : (part ≡ Closing → ⊥) → (w' : List ℕ) (r n : ℕ) → Applied part inputs coils w w' d r → n ≡ length_of part → Turning s from inputs coils w₀ w' (at + n) r
  turned_again z w' r n a q h = turned s from inputs coils w₀ w at d h (i h) part p z w' r (at + n) a (ap (λ (y : ℕ). at + y) q)

  module _ (h : FormulaAt s from (bounds_for inputs coils w₀)) where
    pub value_to_take : part ≡ Closing → (1 ≤ d) × (d ≤ length w)
    value_to_take z = one_value s from inputs coils w₀ w at d h (i h) part p z

    pub to_apply : (part ≡ Closing → ⊥) → Applicable part (length inputs) (length coils) (length w) d
    to_apply z = applicable s from inputs coils w₀ w at d h (i h) part p z

    module _ (z : part ≡ Closing → ⊥) (n : ℕ) (q : n ≡ length_of part) where
      pub inside : at + n ≤ length s
      inside =
          let b = bytes_left s from inputs coils w₀ w at d h (i h) part p z in
          let o = some_bytes s from inputs coils w₀ w at d h (i h) part p z in
          omega arith

      pub sum_fits : length s < 18446744073709551616 → at + n < 18446744073709551616
      sum_fits l = let b = inside in omega arith

      pub nearer : length s - (at + n) < length s - at
      nearer = let b = inside in let o = some_bytes s from inputs coils w₀ w at d h (i h) part p z in omega arith

    pub still_long : length w ≡ length w₀
    still_long = (i h).long

pub ruleset evaluate_cases = (turning, evaluated, turned_again, value_to_take, to_apply, sum_fits, nearer, still_long)
