-- What the translator answers and leaves, step by step.
use Rattle.std.specs.Prelude.{ℕ, ◌<◌, ◌≡◌, Result, List, [], ◌∷◌, length}
use Rattle.rules.specs.declared.Limits.{Limits}
use Rattle.rules.specs.declared.refusals.Refusal.{Refusal}
use Rattle.rules.specs.Kind
use Rattle.rules.specs.Walk.{reading}
use Rattle.rules.specs.Formula.{Formula}
use Rattle.rules.specs.Sheet.{Sheet}
use Rattle.rules.specs.ReadSheet.{SheetRead.good, read_sheet}
use Rattle.rules.specs.WriteSheet.{write_sheet, WithinSheet}
use Rattle.rules.specs.Certificate.{Which, opening}
use Rattle.rules.specs.Clauses.{clause_set}
use Rattle.rules.specs.Verdict.{Translation, room_for, translate_opened, translation, written_of, count_of, room_after}
use Rattle.sheets.specs.declared.Outline.{Outline}
use Rattle.sheets.specs.Answer.{Outlined}
use Rattle.clauses.specs.declared.Layout.{Layout}
use Rattle.clauses.specs.Sets.{Slight, Given}

-- the answer and the room after it are those of a translation
pub record Did (x : Translation) (room room' : List ℕ) (r : Result ℕ Refusal) : Type 0 where
  pub answered : count_of r ≡ written_of x
  pub left : room' ≡ room_after x room

-- the set, whatever sheet and invariant stand there: counted, and translated
pub record SetCounted (w : Which) (s c : List ℕ) (h : Layout) (r : ℕ) : Type 0 where
  pub of : (l : Limits) (t : Sheet) (inv : Formula) (rest : List ℕ) → Given l s c h t inv rest → r ≡ length (clause_set t inv w)

pub record SetTranslated (w : Which) (s c : List ℕ) (h : Layout) (room room' : List ℕ) (r : Result ℕ Refusal) : Type 0 where
  pub of : (l : Limits) (t : Sheet) (inv : Formula) (rest : List ℕ) → Given l s c h t inv rest
      → Did (room_for (length room) (clause_set t inv w)) room room' r

-- a sheet's numbers fit 16 bits
pub record Fitting (h : Outline) : Type 0 where
  pub inputs_fit : h.inputs < 65536
  pub coils_fit : h.coils < 65536

abbrev pub layout_of : Outline → Layout
layout_of h = record { inputs = h.inputs; coils = h.coils; rungs = h.rungs; at = h.rungs_at }

-- the bytes are a sheet, with this outline
pub record SheetThere (l : Limits) (s : List ℕ) (h : Outline) : Type 0 where
  pub slight : Slight l
  pub outlined : Outlined l s h
  pub within : WithinSheet l outlined.sheet
  pub bytes : write_sheet outlined.sheet ≡ s

-- from the certificate on, whatever sheet was read
pub record CertificateTranslated (l : Limits) (w : Which) (s c room room' : List ℕ) (r : Result ℕ Refusal) : Type 0 where
  pub of : (t : Sheet) → read_sheet l s ≡ good t
      → Did (translate_opened l (length room) t w c (reading (opening (Kind.SAFE ∷ [])) c 0 tt)) room room' r

-- the whole: the answer to any set number, bytes and room, and the room after it
pub record Translated (l : Limits) (set : ℕ) (s c room room' : List ℕ) (r : Result ℕ Refusal) : Type 0 where
  pub answered : count_of r ≡ written_of (translation l set s c (length room))
  pub left : room' ≡ room_after (translation l set s c (length room)) room
