-- One formula record entered, by its kind.
-- Assumes nothing.
use Prim.Native.Nat.{ℕ, ◌+◌, ◌-◌, ◌≤◌, ◌<◌}
use mathlib.Core.Path.{◌≡◌, refl}
use mathlib.Core.List.{List}
use native.Mathlib.Omega.{arith}
use lib.ListN.{length, get_or, set, length-set}
use Rattle.std.specs.Prelude.{Some, None}
use Rattle.formulas.specs.declared.Part.{Part}
use Rattle.formulas.specs.declared.Part.TheVariants.{Input, Coil, Constant, Not, And, Or, Closing}
use Rattle.clauses.specs.declared.gates.Gate.{Gate}
use Rattle.clauses.specs.declared.gates.Gate.TheVariants.{Same, Fixed, Inverse, Both, Either}
use Rattle.clauses.specs.Emits.{Emitted}
use Rattle.clauses.specs.Gates.{gate_clauses, values, Narrow, Definable}
use Rattle.clauses.specs.Stack.{stk, vars_of, part_clauses, takes, gate_of, Ready, Reaches, Reached, Enterable, Entered}
use Rattle.clauses.proofs.StackLaws.{last, before_last, put}

-- what the record says of its variable has its clauses, and takes its values
record Told (p : Part) (map : List ℕ) (base g : ℕ) (stack : List ℕ) (depth : ℕ) (gate : Gate) : Type 0 where
  opens : p ≡ Closing → ⊥
  takes_is : values gate ≡ takes p
  clauses_are : gate_clauses g gate ≡ part_clauses (vars_of map base) g p (stk stack depth)
  narrow : Reaches p map base → ((j : ℕ) → get_or map j 0 < 32768) → takes p ≤ depth → ((j : ℕ) → j < depth → get_or stack j 0 < 32768) → Narrow gate

told : (p : Part) (map : List ℕ) (base g : ℕ) (stack : List ℕ) (depth : ℕ) (gate : Gate) → Some gate ≡ gate_of (vars_of map base) p (stk stack depth)
    → Told p map base g stack depth gate
unfolding gate_of gate_clauses part_clauses takes Reaches
told (Input j) map base g stack depth gate e =
    let z : gate ≡ Same (base + j) = cc in
    rw z (record { opens = λ x. cc; takes_is = refl; clauses_are = refl; narrow = λ r m t s. r })
told (Coil c) map base g stack depth gate e =
    let z : gate ≡ Same (get_or map c 0) = cc in
    rw z (record { opens = λ x. cc; takes_is = refl; clauses_are = refl; narrow = λ r m t s. m c })
told (Constant on) map base g stack depth gate e =
    let z : gate ≡ Fixed on = cc in
    rw z (record { opens = λ x. cc; takes_is = refl; clauses_are = refl; narrow = λ r m t s. tt })
told Not map base g stack depth gate e =
    let z : gate ≡ Inverse (get_or (stk stack depth) 0 0) = cc in
    rw z (record {
      opens = λ x. cc;
      takes_is = refl;
      clauses_are = refl;
      narrow = λ r m t s. rw (last stack depth (omega arith)) (s (depth - 1) (omega arith));
    })
told And map base g stack depth gate e =
    let z : gate ≡ Both (get_or (stk stack depth) 1 0) (get_or (stk stack depth) 0 0) = cc in
    rw z (record {
      opens = λ x. cc;
      takes_is = refl;
      clauses_are = refl;
      narrow = λ r m t s. (
        rw (before_last stack depth (omega arith)) (s (depth - 2) (omega arith)),
        rw (last stack depth (omega arith)) (s (depth - 1) (omega arith)),
      );
    })
told Or map base g stack depth gate e =
    let z : gate ≡ Either (get_or (stk stack depth) 1 0) (get_or (stk stack depth) 0 0) = cc in
    rw z (record {
      opens = λ x. cc;
      takes_is = refl;
      clauses_are = refl;
      narrow = λ r m t s. (
        rw (before_last stack depth (omega arith)) (s (depth - 2) (omega arith)),
        rw (last stack depth (omega arith)) (s (depth - 1) (omega arith)),
      );
    })
told Closing map base g stack depth gate e = cc

module _ (p : Part) (map : List ℕ) (base g : ℕ) (stack : List ℕ) (depth n : ℕ) (q : Enterable p map base g stack depth n) where
  pub reached : Reached p map base stack depth
  unfolding takes
  reached = record { reaches = q.reaches; enough = enough p q; within = q.within }
    where
      enough : (x : Part) → Enterable x map base g stack depth n → takes x ≤ depth
      enough (Input j) y = omega arith
      enough (Coil c) y = omega arith
      enough (Constant on) y = omega arith
      enough Not y = (y.ready (λ e. cc)).enough
      enough And y = (y.ready (λ e. cc)).enough
      enough Or y = (y.ready (λ e. cc)).enough
      enough Closing y = omega arith

  pub entered_closing : (out : List ℕ) → None ≡ gate_of (vars_of map base) p (stk stack depth)
      → Entered p map base g stack depth out n stack depth out None
  unfolding gate_of
  entered_closing out e = record { on = λ z. absurd (z (closes p e)); closed = λ z. record { ends = refl; same = refl }; tall = refl }
    where
      closes : (x : Part) → None ≡ gate_of (vars_of map base) x (stk stack depth) → x ≡ Closing
      closes (Input j) y = cc
      closes (Coil c) y = cc
      closes (Constant on) y = cc
      closes Not y = cc
      closes And y = cc
      closes Or y = cc
      closes Closing y = refl

  module _ (gate : Gate) (e : Some gate ≡ gate_of (vars_of map base) p (stk stack depth)) where
    t : Told p map base g stack depth gate
    t = told p map base g stack depth gate e

    ready : Ready (takes p) g stack depth n
    ready = q.ready t.opens

    pub definable : Definable n g gate
    definable = record {
      few = ready.few;
      g_fits = ready.g_fits;
      narrow = t.narrow q.reaches q.mapped ready.enough ready.small;
    }

    module _ (k : ℕ) (h : k ≡ values gate) where
      pub taken : k ≤ depth
      taken = omega (arith, h, t.takes_is, ready.enough)

      pub taken_room : depth - k < length stack
      taken_room = omega (arith, h, t.takes_is, ready.room)

      pub entered : (out out' : List ℕ) (m : ℕ) → Emitted out n (gate_clauses g gate) out' m
          → Entered p map base g stack depth out n (set stack (depth - k) g) (depth - k + 1) out' (Some m)
      entered out out' m d =
          let z : k ≡ takes p = omega (arith, h, t.takes_is) in
          let c = rw t.clauses_are at d in
          record {
            on = λ x. rw z (put (takes p) (part_clauses (vars_of map base) g p (stk stack depth)) g stack depth out n ready out' m c);
            closed = λ x. absurd (t.opens x);
            tall = length-set stack (depth - k) g;
          }
