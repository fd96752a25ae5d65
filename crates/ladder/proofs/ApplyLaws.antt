-- Applying a formula record: what each case needs, and what it leaves.
-- Assumes nothing.
use Prim.Native.Nat.{ℕ, ◌+◌, ◌-◌, ◌≤◌, ◌<◌}
use mathlib.Core.Path.{◌≡◌, ap, ◌∙◌}
use mathlib.Core.Bool.{Bool, true, false, not, ◌&&◌, ◌||◌}
use mathlib.Core.List.{List, ◌∷◌}
use native.Mathlib.Omega.{arith}
use lib.ListN.{length}
use Rattle.rules.specs.Formula.{reads}
use Rattle.rules.specs.ReadFormula.{arity}
use Rattle.formulas.specs.Part.{entry_for}
use Rattle.formulas.specs.declared.Part.{Part}
use Rattle.formulas.specs.declared.Part.TheVariants.{Input, Coil, Constant, Not, And, Or, Closing}
use Rattle.ladder.specs.Values.{on, values, act, Put, Taken}
use Rattle.ladder.specs.Evaluate.{Named, Applicable, Applied}
use Rattle.ladder.proofs.StackLaws.{values_one, values_two}

-- what each case needs
module _ (part : Part) (i c m d : ℕ) (a : Applicable part i c m d) where
  pub need_input : (n x : ℕ) → part ≡ Input n → x ≡ n → x < i
  unfolding entry_for Named
  need_input n x e q = rw q (rw e at a.fitting.named)

  pub need_coil : (n x : ℕ) → part ≡ Coil n → x ≡ n → x < c
  unfolding entry_for Named
  need_coil n x e q = rw q (rw e at a.fitting.named)

  room : (n : ℕ) → arity (entry_for part) ≡ n → d - n < m
  room n e = rw e at a.fitting.room

  enough : (n : ℕ) → arity (entry_for part) ≡ n → n ≤ d
  enough n e = rw e at a.fitting.enough

  pub room_input : (n : ℕ) → part ≡ Input n → d < m
  unfolding entry_for arity
  room_input n e = let h = room 0 (rw e) in omega arith

  pub room_coil : (n : ℕ) → part ≡ Coil n → d < m
  unfolding entry_for arity
  room_coil n e = let h = room 0 (rw e) in omega arith

  pub room_constant : (b : Bool) → part ≡ Constant b → d < m
  unfolding entry_for arity
  room_constant b e = let h = room 0 (rw e) in omega arith

  pub one_not : part ≡ Not → 1 ≤ d
  unfolding entry_for arity
  one_not e = enough 1 (rw e)

  pub two_and : part ≡ And → 2 ≤ d
  unfolding entry_for arity
  two_and e = enough 2 (rw e)

  pub two_or : part ≡ Or → 2 ≤ d
  unfolding entry_for arity
  two_or e = enough 2 (rw e)

  pub pop_not : part ≡ Not → (1 ≤ d) × (d ≤ m)
  pop_not e = (one_not e, a.low)

  pub pop_and : part ≡ And → (1 ≤ d) × (d ≤ m)
  pop_and e = let h = two_and e in (omega arith, a.low)

  pub pop_or : part ≡ Or → (1 ≤ d) × (d ≤ m)
  pop_or e = let h = two_or e in (omega arith, a.low)

module _ (part : Part) (i c d : ℕ) (w : List ℕ) (a : Applicable part i c (length w) d) (w' : List ℕ) (y : Bool) (r : ℕ) (t : Taken w w' d y r) where
  again : 2 ≤ d → (1 ≤ r) × (r ≤ length w')
  again h =
      let e = t.next in
      let l : length w' ≡ length w = ap length t.same in
      (omega arith, omega (arith, a.low))

  pub again_and : part ≡ And → (1 ≤ r) × (r ≤ length w')
  again_and e = again (two_and part i c (length w) d a e)

  pub again_or : part ≡ Or → (1 ≤ r) × (r ≤ length w')
  again_or e = again (two_or part i c (length w) d a e)

-- two values joined, by the tests of the code
module _ (x y b : Bool) where
  pub and_on : x ≡ true → b ≡ y → b ≡ (x && y)
  and_on e f = rw (e, f)

  pub and_off : x ≡ false → b ≡ x → b ≡ (x && y)
  and_off e f = rw (f, e)

  pub or_on : x ≡ true → b ≡ x → b ≡ (x || y)
  or_on e f = rw (f, e)

  pub or_off : x ≡ false → b ≡ y → b ≡ (x || y)
  or_off e f = rw (e, f)

-- what each case leaves
module _ (part : Part) (inputs coils w w' : List ℕ) (d r : ℕ) where
  pub applied_input : (n x : ℕ) → part ≡ Input n → x ≡ n → Put w w' d (on inputs x) r → Applied part inputs coils w w' d r
  unfolding entry_for arity act reads
  applied_input n x e q p = rw e (record { height = let h = p.next in omega arith; long = p.long; stacked = rw q at p.stacked })

  pub applied_coil : (n x : ℕ) → part ≡ Coil n → x ≡ n → Put w w' d (on coils x) r → Applied part inputs coils w w' d r
  unfolding entry_for arity act reads
  applied_coil n x e q p = rw e (record { height = let h = p.next in omega arith; long = p.long; stacked = rw q at p.stacked })

  pub applied_constant : (b : Bool) → part ≡ Constant b → Put w w' d b r → Applied part inputs coils w w' d r
  unfolding entry_for arity act reads
  applied_constant b e p = rw e (record { height = let h = p.next in omega arith; long = p.long; stacked = p.stacked })

  module _ (x : Bool) (w₁ : List ℕ) (r₁ : ℕ) where
    pub applied_not : part ≡ Not → Taken w w₁ d x r₁ → Put w₁ w' r₁ (not x) r → Applied part inputs coils w w' d r
    unfolding entry_for arity act
    applied_not e t p =
        let v : values w d ≡ on w r₁ ∷ values w r₁ = ap (values w) t.next ∙ values_one w r₁ in
        let k : d - 1 ≡ r₁ = let n = t.next in omega arith in
        rw e (record {
          height = rw k p.next;
          long = p.long ∙ ap length t.same;
          stacked = rw v (rw (t.same, t.is) at p.stacked);
        })

    module _ (y b : Bool) (w₂ : List ℕ) (r₂ : ℕ) (t : Taken w w₁ d x r₁) (u : Taken w₁ w₂ r₁ y r₂) where
      height : d - 2 ≡ r₂
      height = let n = t.next in let m = u.next in omega arith

      under : values w d ≡ x ∷ y ∷ values w₂ r₂
      under =
          let n : d ≡ r₂ + 2 = let n = t.next in let m = u.next in omega arith in
          let z : r₁ ≡ r₂ + 1 = u.next in
          ap (values w) n ∙ values_two w r₂ ∙ rw (t.is, u.is, z, u.same, t.same)

      pub applied_and : part ≡ And → b ≡ (y && x) → Put w₂ w' r₂ b r → Applied part inputs coils w w' d r
      unfolding entry_for arity act
      applied_and e q p = rw e (record { height = rw height p.next; long = p.long ∙ ap length (u.same ∙ t.same); stacked = rw under (rw q at p.stacked) })

      pub applied_or : part ≡ Or → b ≡ (y || x) → Put w₂ w' r₂ b r → Applied part inputs coils w w' d r
      unfolding entry_for arity act
      applied_or e q p = rw e (record { height = rw height p.next; long = p.long ∙ ap length (u.same ∙ t.same); stacked = rw under (rw q at p.stacked) })

pub not_applied : (part : Part) (inputs coils w : List ℕ) (d : ℕ) → Applicable part (length inputs) (length coils) (length w) d → part ≡ Closing
    → Applied part inputs coils w w d d
not_applied part inputs coils w d a e = absurd (a.some e)

pub ruleset apply_cases = (need_input, need_coil, room_input, room_coil, room_constant, pop_not, pop_and, pop_or, again_and, again_or, applied_input, applied_coil, applied_constant, applied_not, applied_and, applied_or, not_applied)
