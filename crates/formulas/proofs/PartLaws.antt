-- The record at the front of bytes, by the tests of the code.
-- Assumes nothing.
use Prim.Native.Nat.{ℕ}
use mathlib.Core.Path.{◌≡◌, refl, sym, ap, ◌∙◌}
use mathlib.Core.Bool.{false}
use mathlib.Core.List.{List}
use native.Mathlib.Omega.{arith}
use lib.ListN.{get_or}
use lib.Dec.{eqb}
use borrow.Author.Tests.{ne_eqb}
use Rattle.rules.specs.Record.{body_length, rows, number}
use Rattle.records.specs.Kinds.{byte_of}
use Rattle.records.specs.declared.kind.Kind.{Kind}
use Rattle.records.specs.declared.kind.Kind.TheVariants.{Head, Start, Input, Coil, Constant, Not, And, Or, Rung, Condition, End, Step, Qed, Safe, Invariant, Trace, InputOn, Scan}
use Rattle.formulas.specs.Part.{part_of}
use Rattle.formulas.specs.declared.Part.TheVariants.{Input as PartInput, Coil as PartCoil, Constant as PartConstant, Not as PartNot, And as PartAnd, Or as PartOr, Closing}

-- a byte of no kind is not the byte of one
other : (k n : ℕ) → body_length k ≡ 255 → (body_length n ≡ 255 → ⊥) → eqb k n ≡ false
other k n h z = ne_eqb k n (λ (e : k ≡ n). z (ap body_length (sym e) ∙ h))

module _ (bs : List ℕ) where
  -- a byte of no kind is none of the formula records
  pub part_none : (k : ℕ) → k ≡ get_or bs 0 0 → body_length k ≡ 255 → Closing ≡ part_of bs
  unfolding part_of body_length rows
  part_none k e h =
      let a = other k 0x10 h (λ (z : 2 ≡ 255). omega arith) in
      let b = other k 0x11 h (λ (z : 2 ≡ 255). omega arith) in
      let c = other k 0x12 h (λ (z : 1 ≡ 255). omega arith) in
      let d = other k 0x13 h (λ (z : 0 ≡ 255). omega arith) in
      let f = other k 0x14 h (λ (z : 0 ≡ 255). omega arith) in
      let g = other k 0x15 h (λ (z : 0 ≡ 255). omega arith) in
      rw (← e, a, b, c, d, f, g)

  pub part_input : (n : ℕ) → byte_of Input ≡ get_or bs 0 0 → n ≡ number bs 1 → PartInput n ≡ part_of bs
  unfolding part_of
  part_input n e f = rw (← e) (ap PartInput f)

  pub part_coil : (n : ℕ) → byte_of Coil ≡ get_or bs 0 0 → n ≡ number bs 1 → PartCoil n ≡ part_of bs
  unfolding part_of
  part_coil n e f = rw (← e) (ap PartCoil f)

  pub part_constant : (b : ℕ) → byte_of Constant ≡ get_or bs 0 0 → b ≡ get_or bs 1 0 → PartConstant (eqb b 1) ≡ part_of bs
  unfolding part_of
  part_constant b e f = rw (← e) (ap (λ (x : ℕ). PartConstant (eqb x 1)) f)

  pub part_not : byte_of Not ≡ get_or bs 0 0 → PartNot ≡ part_of bs
  unfolding part_of
  part_not e = rw (← e)

  pub part_and : byte_of And ≡ get_or bs 0 0 → PartAnd ≡ part_of bs
  unfolding part_of
  part_and e = rw (← e)

  pub part_or : byte_of Or ≡ get_or bs 0 0 → PartOr ≡ part_of bs
  unfolding part_of
  part_or e = rw (← e)

  pub part_other : (k : Kind) → byte_of k ≡ get_or bs 0 0
      → (k ≡ Input → ⊥) → (k ≡ Coil → ⊥) → (k ≡ Constant → ⊥) → (k ≡ Not → ⊥) → (k ≡ And → ⊥) → (k ≡ Or → ⊥) → Closing ≡ part_of bs
  unfolding part_of
  part_other Head e a b c d f g = rw (← e)
  part_other Start e a b c d f g = rw (← e)
  part_other Input e a b c d f g = absurd (a refl)
  part_other Coil e a b c d f g = absurd (b refl)
  part_other Constant e a b c d f g = absurd (c refl)
  part_other Not e a b c d f g = absurd (d refl)
  part_other And e a b c d f g = absurd (f refl)
  part_other Or e a b c d f g = absurd (g refl)
  part_other Rung e a b c d f g = rw (← e)
  part_other Condition e a b c d f g = rw (← e)
  part_other End e a b c d f g = rw (← e)
  part_other Step e a b c d f g = rw (← e)
  part_other Qed e a b c d f g = rw (← e)
  part_other Safe e a b c d f g = rw (← e)
  part_other Invariant e a b c d f g = rw (← e)
  part_other Trace e a b c d f g = rw (← e)
  part_other InputOn e a b c d f g = rw (← e)
  part_other Scan e a b c d f g = rw (← e)

pub ruleset part_at_cases = (part_none, part_input, part_coil, part_constant, part_not, part_and, part_or, part_other)
