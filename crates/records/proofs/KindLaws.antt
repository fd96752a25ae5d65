-- No two kinds have the same byte.
-- Assumes nothing.
use Prim.Native.Nat.{ℕ}
use mathlib.Core.Path.{◌≡◌, refl, sym, ap, ◌∙◌}
use lib.Dec.{eqb}
use Rattle.base.specs.Pick.{pick}
use Rattle.rules.specs.Kind as Byte
use Rattle.records.specs.Kinds.{byte_of}
use Rattle.records.specs.declared.kind.Kind.{Kind}
use Rattle.records.specs.declared.kind.Kind.TheVariants.{Head, Start, Input, Coil, Constant, Not, And, Or, Rung, Condition, End, Step, Qed, Safe, Invariant, Trace, InputOn, Scan}

kind_of : ℕ → Kind
kind_of b =
    pick (eqb b Byte.HEAD) Head
    (pick (eqb b Byte.START) Start
    (pick (eqb b Byte.INPUT) Input
    (pick (eqb b Byte.COIL) Coil
    (pick (eqb b Byte.CONSTANT) Constant
    (pick (eqb b Byte.NOT) Not
    (pick (eqb b Byte.AND) And
    (pick (eqb b Byte.OR) Or
    (pick (eqb b Byte.RUNG) Rung
    (pick (eqb b Byte.CONDITION) Condition
    (pick (eqb b Byte.END) End
    (pick (eqb b Byte.STEP) Step
    (pick (eqb b Byte.QED) Qed
    (pick (eqb b Byte.SAFE) Safe
    (pick (eqb b Byte.INVARIANT) Invariant
    (pick (eqb b Byte.TRACE) Trace
    (pick (eqb b Byte.INPUT_ON) InputOn
    (Scan)))))))))))))))))

back : (k : Kind) → kind_of (byte_of k) ≡ k
unfolding kind_of
back Head = refl
back Start = refl
back Input = refl
back Coil = refl
back Constant = refl
back Not = refl
back And = refl
back Or = refl
back Rung = refl
back Condition = refl
back End = refl
back Step = refl
back Qed = refl
back Safe = refl
back Invariant = refl
back Trace = refl
back InputOn = refl
back Scan = refl

pub byte_inj : (a b : Kind) → byte_of a ≡ byte_of b → a ≡ b
byte_inj a b e = sym (back a) ∙ ap kind_of e ∙ back b
