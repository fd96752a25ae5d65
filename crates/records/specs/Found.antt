-- What the code finds at an offset of any bytes.
use Rattle.std.specs.Prelude.{ℕ, ◌≡◌, ◌+◌, Result, Ok, Err, IfOk, Bool, List, get_or, drop}
use Rattle.rules.specs.Record.{Front, Front.nothing, Front.unknown, Front.cut, Front.whole, front, record_length, number, one_of}
use Rattle.base.specs.Pick.{pick}
use Rattle.rules.specs.Fault.{number_of}
use Rattle.rules.specs.declared.refusals.Fault.{Fault}
use Rattle.records.specs.declared.Common.{Common}
use Rattle.records.specs.declared.kind.Kind.{Kind}
use Rattle.records.specs.Kinds.{byte_of}
use Rattle.records.specs.declared.Record.{Record}
use Rattle.records.specs.declared.NoRecord.{NoRecord}
use Rattle.records.specs.declared.NoRecord.TheVariants.{Nothing, Unknown, Cut}

-- the code's answer, as what stands at the front of bytes
abbrev pub front_of : Result Record NoRecord → Front
front_of (Ok r) = whole (byte_of r.kind)
front_of (Err Nothing) = nothing
front_of (Err Unknown) = unknown
front_of (Err (Cut k)) = cut (byte_of k)

-- it is what stands at the front of the bytes from a place on, and the next record begins past a whole one
pub record FoundAt (s : List ℕ) (p : ℕ) (r : Result Record NoRecord) : Type 0 where
  pub is : front_of r ≡ front (drop p s)
  pub ends : IfOk r (λ x. x.next ≡ p + record_length (byte_of x.kind))

-- the byte k bytes into the record at a place, 0 past the end
abbrev pub byte_at : List ℕ → ℕ → ℕ → ℕ
byte_at s p k = get_or (drop p s) k 0

-- the number k bytes into the record at a place
abbrev pub number_at : List ℕ → ℕ → ℕ → ℕ
number_at s p k = number (drop p s) k

-- what stands at the front where only these kinds are allowed: a whole record of one of them, or the number of a refusal
pub data Due : Type 0 where
  comes : ℕ → Due
  refused : ℕ → Due

unfoldable pub due : List ℕ → ℕ → ℕ → Front → Due
due ks e x nothing = refused e
due ks e x unknown = refused x
due ks e x (cut k) = pick (one_of ks k) (refused e) (refused x)
due ks e x (whole k) = pick (one_of ks k) (comes k) (refused x)

abbrev pub due_of : Result Record Fault → Due
due_of (Ok r) = comes (byte_of r.kind)
due_of (Err f) = refused (number_of f)

pub record DueAt (ks s : List ℕ) (p : ℕ) (c : Common) (r : Result Record Fault) : Type 0 where
  pub is : due_of r ≡ due ks (number_of c.ends) (number_of c.strange) (front (drop p s))
  pub ends : IfOk r (λ x. x.next ≡ p + record_length (byte_of x.kind))

-- for whatever kinds are those that are allowed
pub record DueBy (allows : Kind → Bool → Type 0) (s : List ℕ) (p : ℕ) (c : Common) (r : Result Record Fault) : Type 0 where
  pub by : (ks : List ℕ) → ((k : Kind) (b : Bool) → allows k b → b ≡ one_of ks (byte_of k)) → DueAt ks s p c r
