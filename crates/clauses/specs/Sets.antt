-- A good sheet and an invariant in bytes, and what it is to have written one of their clause sets.
use Rattle.std.specs.Prelude.{ℕ, ◌+◌, ◌*◌, ◌≤◌, ◌<◌, ◌≡◌, List, ◌++◌, length, get_or, drop}
use Rattle.base.specs.Lists.{each}
use Rattle.rules.specs.declared.Limits.{Limits}
use Rattle.rules.specs.Formula.{Formula}
use Rattle.rules.specs.Sheet.{Sheet}
use Rattle.rules.specs.WriteSheet.{write_formula, write_start, write_sheet, WithinSheet}
use Rattle.rules.specs.declared.Set.{Set}
use Rattle.rules.specs.Certificate.{Which}
use Rattle.rules.specs.Verdict.{which_of, number_of_set}
use Rattle.rules.specs.WriteCertificate.{WithinInvariant}
use Rattle.rules.specs.Clauses.{clause_set}
use Rattle.clauses.specs.declared.Layout.{Layout}
use Rattle.clauses.specs.Emits.{Emitted}
use Rattle.clauses.specs.Formed.{Closes}

-- coil c has variable 1 + c
pub record Numbered (map : List ℕ) : Type 0 where
  pub few : length map < 32768
  pub at : (c : ℕ) → c < length map → get_or map c 0 ≡ 1 + c

-- limits within which a set's own places are enough, two maps of 256 coils and a stack of 32, and every literal fits 16 bits
pub record Slight (l : Limits) : Type 0 where
  pub coils_fit : l.coils ≤ 256
  pub depth_fits : l.depth ≤ 32
  pub narrow : 1 + l.coils + l.inputs + l.records + 2 * l.invariant ≤ 32768

-- the bytes s are the sheet t, whose rungs begin at a place; the certificate c begins with a byte and the invariant inv
pub record Given (l : Limits) (s c : List ℕ) (h : Layout) (t : Sheet) (inv : Formula) (rest : List ℕ) : Type 0 where
  pub sheet_bytes : write_sheet t ≡ s
  pub inputs_are : h.inputs ≡ t.inputs
  pub coils_are : h.coils ≡ t.coils
  pub rungs_are : h.rungs ≡ length t.rungs
  pub rungs_at : h.at ≡ 7 + length (each write_start t.starts)
  pub within : WithinSheet l t
  pub invariant_bytes : drop 1 c ≡ write_formula inv ++ rest
  pub closes : Closes rest
  pub invariant_within : WithinInvariant l t inv
  pub slight : Slight l

-- there are such a sheet and invariant
pub record SetThere (s c : List ℕ) (h : Layout) : Type 0 where
  pub limits : Limits
  pub sheet : Sheet
  pub invariant : Formula
  pub rest : List ℕ
  pub given : Given limits s c h sheet invariant rest

-- whatever sheet and invariant stand there, their set was written
pub record SetWritten (w : Which) (s c : List ℕ) (h : Layout) (out out' : List ℕ) (r : ℕ) : Type 0 where
  pub of : (l : Limits) (t : Sheet) (inv : Formula) (rest : List ℕ) → Given l s c h t inv rest → Emitted out 0 (clause_set t inv w) out' r

-- a sheet and an invariant are given so, beside lent places: two maps with room for every coil, and a stack as high as the limits allow
pub record Held (l : Limits) (s c : List ℕ) (h : Layout) (before after stack : List ℕ) (t : Sheet) (inv : Formula) (rest : List ℕ) : Type 0 where
  pub sheet_bytes : write_sheet t ≡ s
  pub inputs_are : h.inputs ≡ t.inputs
  pub coils_are : h.coils ≡ t.coils
  pub rungs_are : h.rungs ≡ length t.rungs
  pub rungs_at : h.at ≡ 7 + length (each write_start t.starts)
  pub within : WithinSheet l t
  pub invariant_bytes : drop 1 c ≡ write_formula inv ++ rest
  pub closes : Closes rest
  pub invariant_within : WithinInvariant l t inv
  pub narrow : 1 + l.coils + l.inputs + l.records + 2 * l.invariant ≤ 32768
  pub deep : l.depth ≤ length stack
  pub before_wide : l.coils ≤ length before
  pub after_wide : l.coils ≤ length after

-- there are such a sheet and invariant, for some limits, and the variables of both maps fit 15 bits
pub record ClauseSetAt (s c : List ℕ) (h : Layout) (before after stack : List ℕ) : Type 0 where
  pub limits : Limits
  pub sheet : Sheet
  pub invariant : Formula
  pub rest : List ℕ
  pub given : Held limits s c h before after stack sheet invariant rest
  pub before_narrow : length before < 32768
  pub after_narrow : length after < 32768

-- both maps have the variables before the scan
pub record Fresh (before after : List ℕ) : Type 0 where
  pub before_numbered : Numbered before
  pub after_numbered : Numbered after

-- whatever sheet and invariant stand there, for whatever limits, their set was written
pub record ClauseSetWritten (w : Which) (s c : List ℕ) (h : Layout) (before after stack out out' : List ℕ) (r : ℕ) : Type 0 where
  pub of : (l : Limits) (t : Sheet) (inv : Formula) (rest : List ℕ) → Held l s c h before after stack t inv rest → Emitted out 0 (clause_set t inv w) out' r

-- the same by the set's number from 1 to 3
pub record SetOfNumber (n : ℕ) (s c : List ℕ) (h : Layout) (before after stack out out' : List ℕ) (r : ℕ) : Type 0 where
  pub of : (w : Set) → n ≡ number_of_set w → ClauseSetWritten (which_of w) s c h before after stack out out' r
