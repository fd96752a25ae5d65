-- The loop over a formula's records: the records that are left write, from here, what the whole formula writes from its start.
-- Assumes nothing.
use Prim.Native.Nat.{ℕ, ◌+◌, ◌-◌, ◌≤◌, ◌<◌}
use mathlib.Core.Path.{◌≡◌, refl, sym, ap, ◌∙◌, subst}
use mathlib.Core.List.{List, [], ◌∷◌, ◌++◌, append_assoc}
use native.Mathlib.Omega.{arith}
use lib.ListN.{length, get_or, drop, length-append, length-drop}
use lib.Seq.{drop-drop, drop_at}
use mir.Val.{Fits}
use mir.Syntax.{w16, w64}
use Rattle.base.specs.Lists.{each}
use Rattle.rules.specs.Formula.{Leaf.input, Leaf.coil, Leaf.constant, Formula, Entry, Entry.put, Entry.NOT, Entry.AND, Entry.OR, postfix, size}
use Rattle.rules.specs.ReadFormula.{Bounds, arity}
use Rattle.rules.specs.WriteSheet.{write_entry, write_formula, Names}
use Rattle.rules.specs.Clauses.{Clause, defining}
use Rattle.formulas.specs.Part.{part_for, part_of, length_of}
use Rattle.formulas.specs.declared.Part.{Part}
use Rattle.formulas.specs.declared.Part.TheVariants.{Closing}
use Rattle.formulas.proofs.ReadBack.{closing_back, length_back}
use Rattle.std.specs.Prelude.{Option, Some, None}
use Rattle.clauses.specs.Emits.{emits}
use Rattle.clauses.specs.Stack.{stk, vars_of, part_clauses, takes, Put, Reaches, Enterable, Entered}
use Rattle.clauses.specs.Formed.{Mapped, Formed, FormulaAt, Written, FormulaWritten}
use Rattle.clauses.proofs.EmitLaws.{emits_append}
use Rattle.clauses.proofs.FlatLaws.{flat, flat_whole, takes_for, postfix_size, few_clauses, EntryNames, Sound, sound_whole}
use Rattle.clauses.proofs.UniqueLaws.{not_closing, first_part, same_formula}

-- es are left
pub record Walking (s : List ℕ) (at : ℕ) (map : List ℕ) (base g : ℕ) (stack₀ out₀ : List ℕ) (n : ℕ) (stack out : List ℕ) (place next count depth : ℕ) : Type 0 where
  pub bounds : Bounds
  pub formula : Formula
  pub rest : List ℕ
  pub formed : Formed s at map base g stack₀ n bounds formula rest
  pub es : List Entry
  pub long : length stack ≡ length stack₀
  pub long_out : length out ≡ length out₀
  pub low : depth ≤ bounds.depth
  pub small : (j : ℕ) → j < depth → get_or stack j 0 < 32768
  pub sound : Sound bounds depth es
  pub bytes : drop place s ≡ each write_entry es ++ rest
  pub place_is : place + length (each write_entry es) ≡ at + length (write_formula formula)
  pub next_is : next + length es ≡ g + size formula
  pub count_is : count + length (flat (vars_of map base) next es (stk stack depth)) ≡ n + length (defining (vars_of map base) g formula)
  pub out_is : emits out count (flat (vars_of map base) next es (stk stack depth)) ≡ emits out₀ n (defining (vars_of map base) g formula)

pub begins : (s : List ℕ) (at : ℕ) (map : List ℕ) (base g : ℕ) (stack out : List ℕ) (n : ℕ) → FormulaAt s at map base g stack n
    → Walking s at map base g stack out n stack out at g n 0
unfolding stk write_formula
begins s at map base g stack out n q =
    let f : Formula = q.formula in
    let a : flat (vars_of map base) g (postfix f) [] ≡ defining (vars_of map base) g f = flat_whole (vars_of map base) g f in
    record {
      bounds = q.bounds;
      formula = f;
      rest = q.rest;
      formed = q.formed;
      es = postfix f;
      long = refl;
      long_out = refl;
      low = omega arith;
      small = λ j h. absurd (omega arith);
      sound = sound_whole q.bounds f q.formed.fits.names q.formed.fits.low;
      bytes = q.formed.bytes;
      place_is = refl;
      next_is = ap (λ (x : ℕ). g + x) (postfix_size f);
      count_is = ap (λ (x : List Clause). n + length x) a;
      out_is = ap (emits out n) a;
    }

reach : (b : Bounds) (e : Entry) (map : List ℕ) (base : ℕ) → EntryNames b e → base + b.inputs ≤ 32768 → b.coils ≤ length map
    → Reaches (part_for e) map base
unfolding Reaches part_for EntryNames Names
reach b (put (input n)) map base q i c = omega arith
reach b (put (coil n)) map base q i c = omega arith
reach b (put (constant x)) map base q i c = tt
reach b NOT map base q i c = tt
reach b AND map base q i c = tt
reach b OR map base q i c = tt

some_bytes : (e : Entry) → 1 ≤ length (write_entry e)
unfolding write_entry
some_bytes (put (input n)) = omega arith
some_bytes (put (coil n)) = omega arith
some_bytes (put (constant b)) = omega arith
some_bytes NOT = omega arith
some_bytes AND = omega arith
some_bytes OR = omega arith

module _ (s : List ℕ) (at : ℕ) (map : List ℕ) (base g : ℕ) (stack₀ out₀ : List ℕ) (n : ℕ) (stack out : List ℕ) (place next count depth : ℕ)
    (w : Walking s at map base g stack₀ out₀ n stack out place next count depth) (p : Part) (found : p ≡ part_of (drop place s)) where
  -- the first record that is left is the one found
  is_first : (e : Entry) (es : List Entry) → w.es ≡ e ∷ es → p ≡ part_for e
  is_first e es h =
      let x : drop place s ≡ each write_entry (e ∷ es) ++ w.rest = rw h at w.bytes in
      found ∙ ap part_of x ∙ first_part e es w.rest

  is_closing : w.es ≡ [] → p ≡ Closing
  is_closing h =
      let x : drop place s ≡ w.rest = rw h at w.bytes in
      found ∙ ap part_of x ∙ closing_back w.rest w.formed.closes

  countable : count < 9223372036854775808
  countable = omega (arith, w.count_is, few_clauses (vars_of map base) g w.formula, w.formed.few)

  pub enterable : Enterable p map base next stack depth count
  unfolding Sound Reaches
  enterable = go w.es refl
    where
      m : Mapped map base stack₀ w.bounds
      m = w.formed.mapped

      within : depth ≤ length stack
      within = omega (arith, w.low, m.deep, w.long)

      go : (xs : List Entry) → w.es ≡ xs → Enterable p map base next stack depth count
      go [] h = record { ready = λ z. absurd (z (is_closing h)); reaches = rw (is_closing h) tt; within = within; mapped = m.small }
      go (e ∷ es) h =
          let x : p ≡ part_for e = is_first e es h in
          let y : Sound w.bounds depth (e ∷ es) = rw h at w.sound in
          let u : next + length (e ∷ es) ≡ g + size w.formula = rw h at w.next_is in
          let t : takes p ≡ arity e = rw x (takes_for e) in
          record {
            ready = λ z. rw t (record {
              few = countable;
              g_fits = omega (arith, w.formed.numbered);
              enough = y.0.enough;
              room = omega (arith, y.0.room, m.deep, w.long);
              within = within;
              small = w.small;
            });
            within = within;
            reaches = rw x (reach w.bounds e map base y.0.named m.inputs_fit m.coils_fit);
            mapped = m.small;
          }

  -- what the code has done with the record found
  module _ (stack' : List ℕ) (depth' : ℕ) (out' : List ℕ) (r : Option ℕ) (t : Entered p map base next stack depth out count stack' depth' out' r) where
    -- it was entered as the first that was left
    record Took (x : ℕ) : Type 0 where
      e : Entry
      es : List Entry
      left : w.es ≡ e ∷ es
      part : p ≡ part_for e
      put : Put (arity e) (part_clauses (vars_of map base) next (part_for e) (stk stack depth)) next stack depth out count stack' depth' out' (Some x)

    took : (x : ℕ) → r ≡ Some x → Took x
    took x h = go w.es refl
      where
        go : (xs : List Entry) → w.es ≡ xs → Took x
        go [] y = let z = (t.closed (is_closing y)).ends in cc
        go (e ∷ es) y =
            let q : p ≡ part_for e = is_first e es y in
            let o = t.on (λ z. not_closing e (sym q ∙ z)) in
            record { e = e; es = es; left = y; part = q; put = rw (q, takes_for e, h) at o }

    none_left : r ≡ None → w.es ≡ []
    none_left h = go w.es refl
      where
        go : (xs : List Entry) → w.es ≡ xs → w.es ≡ []
        go [] x = x
        go (e ∷ es) x =
            let q : p ≡ part_for e = is_first e es x in
            let o = (t.on (λ z. not_closing e (sym q ∙ z))).goes_on in
            cc

    -- the record's bytes are passed
    module _ (x : ℕ) (k : ℕ) (h : r ≡ Some x) (e : k ≡ length_of p) where
      o : Took x
      o = took x h

      k_is : k ≡ length (write_entry o.e)
      k_is = e ∙ ap length_of o.part ∙ length_back o.e

      here : drop place s ≡ write_entry o.e ++ (each write_entry o.es ++ w.rest)
      here = rw (o.left, append_assoc (write_entry o.e) (each write_entry o.es) w.rest) at w.bytes

      there : drop (place + k) s ≡ each write_entry o.es ++ w.rest
      there =
          rw (← drop-drop k place s, here) (drop_at (write_entry o.e) (each write_entry o.es ++ w.rest) k (sym k_is))

      pub inside : place + k ≤ length s
      inside =
          let a = sym (length-drop place s) ∙ ap length here ∙ length-append (write_entry o.e) (each write_entry o.es ++ w.rest) in
          omega (arith, k_is, some_bytes o.e)

      pub place_fits : length s < 18446744073709551616 → Fits w64 (place + k)
      place_fits l = record { fits = omega (arith, inside) }

      pub nearer : length s - (place + k) < length s - place
      nearer = omega (arith, inside, k_is, some_bytes o.e)

      counted : next + 1 + length o.es ≡ g + size w.formula
      counted = let a : next + length (o.e ∷ o.es) ≡ g + size w.formula = rw o.left at w.next_is in omega arith

      pub next_fits : Fits w16 (next + 1)
      next_fits = record { fits = omega (arith, counted, w.formed.numbered) }

      pub goes_on : length out' ≡ length out
          → Walking s at map base g stack₀ out₀ n stack' out' (place + k) (next + 1) x depth'
      unfolding Sound flat
      goes_on lo =
          let vs = vars_of map base in
          let st : List ℕ = stk stack depth in
          let cs : List Clause = part_clauses vs next (part_for o.e) st in
          let y : Sound w.bounds depth (o.e ∷ o.es) = rw o.left at w.sound in
          let a : depth' ≡ depth - arity o.e + 1 = o.put.height in
          let b : x ≡ count + length cs = cc o.put.goes_on in
          let l : place + length (each write_entry (o.e ∷ o.es)) ≡ at + length (write_formula w.formula) = rw o.left at w.place_is in
          let s' : stk stack' depth' ≡ next ∷ drop (arity o.e) st = ap (stk stack') a ∙ o.put.held in
          let after : List ℕ → List Clause = λ st. flat vs (next + 1) o.es st in
          let u : count + length (cs ++ flat vs (next + 1) o.es (next ∷ drop (arity o.e) st)) ≡ n + length (defining vs g w.formula) = rw o.left at w.count_is in
          let v : emits out count (cs ++ flat vs (next + 1) o.es (next ∷ drop (arity o.e) st)) ≡ emits out₀ n (defining vs g w.formula) = rw o.left at w.out_is in
          record {
            bounds = w.bounds;
            formula = w.formula;
            rest = w.rest;
            formed = w.formed;
            es = o.es;
            long = t.tall ∙ w.long;
            long_out = lo ∙ w.long_out;
            low = omega (arith, y.0.room);
            small = λ j z. o.put.small j (omega arith);
            sound = subst (λ (z : ℕ). Sound w.bounds z o.es) (sym a) y.1;
            bytes = there;
            place_is = omega (arith, simp length-append at l, k_is);
            next_is = counted;
            count_is = ap (λ (z : List ℕ). x + length (after z)) s' ∙ omega (arith, simp length-append at u);
            out_is = (λ i. emits (o.put.wrote i) (b i) (after (s' i))) ∙ sym (emits_append out count cs (after (next ∷ drop (arity o.e) st))) ∙ v;
          }

    -- the formula is done
    pub ends : r ≡ None → FormulaWritten s at map base g stack₀ out₀ n out' (record { at = place; g = next; n = count })
    unfolding flat emits
    ends h = record { of = λ b f rest q. done b f rest q }
      where
        x : w.es ≡ []
        x = none_left h

        done : (b : Bounds) (f : Formula) (rest : List ℕ) → Formed s at map base g stack₀ n b f rest
            → Written at g n (length (write_formula f)) (size f) (defining (vars_of map base) g f) out₀ out' (record { at = place; g = next; n = count })
        done b f rest q =
            let z : w.formula ≡ f = (same_formula w.formula f w.rest rest w.formed.closes q.closes (sym w.formed.bytes ∙ q.bytes)).0 in
            let i : place + 0 ≡ at + length (write_formula w.formula) = rw x at w.place_is in
            let j : next + 0 ≡ g + size w.formula = rw x at w.next_is in
            let k : count + 0 ≡ n + length (defining (vars_of map base) g w.formula) = rw x at w.count_is in
            let l : out ≡ emits out₀ n (defining (vars_of map base) g w.formula) = rw x at w.out_is in
            rw (← z) (record {
              at_is = omega arith;
              g_is = omega arith;
              n_is = omega arith;
              out_is = (t.closed (is_closing x)).same ∙ l;
            })

pub ruleset formula_cases = (begins, enterable, place_fits, next_fits, nearer, goes_on, ends)
