-- The byte of each kind.
use Rattle.std.specs.Prelude.{ℕ, ◌≡◌, Result, MatchResult}
use Rattle.rules.specs.Kind as Byte
use Rattle.rules.specs.Record.{body_length}
use Rattle.records.specs.declared.kind.Kind.{Kind}
use Rattle.records.specs.declared.kind.Kind.TheVariants.{Head, Start, Input, Coil, Constant, Not, And, Or, Rung, Condition, End, Step, Qed, Safe, Invariant, Trace, InputOn, Scan}
use Rattle.records.specs.declared.kind.UnknownKind.{UnknownKind}

abbrev pub byte_of : Kind → ℕ
byte_of Head = Byte.HEAD
byte_of Start = Byte.START
byte_of Input = Byte.INPUT
byte_of Coil = Byte.COIL
byte_of Constant = Byte.CONSTANT
byte_of Not = Byte.NOT
byte_of And = Byte.AND
byte_of Or = Byte.OR
byte_of Rung = Byte.RUNG
byte_of Condition = Byte.CONDITION
byte_of End = Byte.END
byte_of Step = Byte.STEP
byte_of Qed = Byte.QED
byte_of Safe = Byte.SAFE
byte_of Invariant = Byte.INVARIANT
byte_of Trace = Byte.TRACE
byte_of InputOn = Byte.INPUT_ON
byte_of Scan = Byte.SCAN

-- the kind of a byte, or a byte that the table has no length for
abbrev pub Decodes : ℕ → Result Kind UnknownKind → Type 0
Decodes b r = MatchResult r (λ k. byte_of k ≡ b) (λ e. body_length b ≡ 255)
