-- Bytes run left to right, and the first fault wins. Where several hold for one record:
-- nothing left, kind (unknown or not allowed here), body cut, then what the reader itself finds.
use Rattle.std.specs.Prelude.{ℕ, zero, suc, ◌+◌, List, length, get_or, drop}
use Rattle.base.specs.Pick.{pick}
use Rattle.rules.specs.Record.{Front.nothing, Front.unknown, Front.cut, Front.whole, front, record_length, one_of}

-- a refusal: its number, and the offset of the kind byte at fault, or the length where no byte is left
pub record Refusal : Type 0 where
  pub no : ℕ
  pub place : ℕ

abbrev pub ◌at◌ : ℕ → ℕ → Refusal
n at p = record { no = n; place = p }

infix 60 ◌at◌
-- what a record does to a reader in state S: it goes on, goes on with a mark M, refuses with a number, or has read all of X
pub data Move (S M X : Type 0) : Type 0 where
  go : S → Move S M X
  mark : M → S → Move S M X
  no : ℕ → Move S M X
  done : X → Move S M X

-- a reading: its marks, each with the place of its record, then a refusal or the closing record's place
pub data Reading (M X : Type 0) : Type 0 where
  stopped : Refusal → Reading M X
  marked : ℕ → M → Reading M X → Reading M X
  closed : ℕ → X → Reading M X

-- a reader: its two common refusals, the kinds that it allows in a state, and what a record of such a kind does
pub record Reader (S M X : Type 0) : Type 0 where
  pub ends : ℕ
  pub strange : ℕ
  pub allowed : S → List ℕ
  pub move : S → ℕ → List ℕ → Move S M X

unfoldable pub move_at : {S M X : Type 0} → Reader S M X → S → List ℕ → Move S M X
move_at r t bs =
    elim (front bs) [
      | nothing ↦ no r.ends
      | unknown ↦ no r.strange
      | cut k ↦ pick (one_of (r.allowed t) k) (no r.ends) (no r.strange)
      | whole k ↦ pick (one_of (r.allowed t) k) (r.move t k bs) (no r.strange)
    ]

-- the bytes after the record at the front
unfoldable pub past : List ℕ → List ℕ
past bs = drop (record_length (get_or bs 0 0)) bs

-- the reading of the bytes bs, which start at place p; the first number only bounds how many records are looked at
unfoldable pub walk : {S M X : Type 0} → Reader S M X → ℕ → List ℕ → ℕ → S → Reading M X
walk r zero bs p t = stopped (r.ends at p)
walk r (suc n) bs p t =
    elim (move_at r t bs) [
      | go u ↦ walk r n (past bs) (p + record_length (get_or bs 0 0)) u
      | mark m u ↦ marked p m (walk r n (past bs) (p + record_length (get_or bs 0 0)) u)
      | no k ↦ stopped (k at p)
      | done x ↦ closed p x
    ]

-- each record takes a byte at least
abbrev pub reading : {S M X : Type 0} → Reader S M X → List ℕ → ℕ → S → Reading M X
reading r bs p t = walk r (suc (length bs)) bs p t
