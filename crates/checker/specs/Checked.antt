-- What the checker promises: its answer, and every place of the lent workspace, for any bytes.
use Rattle.std.specs.Prelude.{ℕ, ◌+◌, ◌≤◌, ◌<◌, ◌≡◌, Result, List, [], ◌∷◌, length, ltb}
use Rattle.base.specs.Pick.{pick}
use Rattle.base.specs.Lists.{fresh}
use Rattle.rules.specs.Kind
use Rattle.rules.specs.declared.Limits.{Limits}
use Rattle.rules.specs.declared.Answer.{Answer}
use Rattle.rules.specs.declared.refusals.Refusal.{Refusal}
use Rattle.rules.specs.Walk.{reading}
use Rattle.rules.specs.ReadSheet.{read_sheet}
use Rattle.rules.specs.WriteSheet.{Bytes}
use Rattle.rules.specs.Certificate.{opening, read_invariant}
use Rattle.rules.specs.Verdict.{judge, judge_safe, judge_opened, judge_certificate, answer_of}
use Rattle.sheets.specs.declared.Outline.{Outline}
use Rattle.sheets.specs.Answer.{Outlined}
use Rattle.clauses.specs.Sets.{Slight}
use Rattle.refutation.specs.Memory.{slot_at}
use Rattle.checker.specs.Refuted.{Limited, clause_room}

-- the answer is the rules' verdict; too short a workspace is as it was, any other has its own places zero and the others as they were
pub record Checked (l : Limits) (s c w w' : List ℕ) (r : Result Answer Refusal) : Type 0 where
  pub answered : answer_of r ≡ judge l s c (length w)
  pub left : w' ≡ pick (ltb (length w) l.places) w (fresh l.places w)

-- limits that the code's own places and numbers are enough for
pub record Small (l : Limits) : Type 0 where
  pub limited : Limited l
  pub slight : Slight l
  pub inputs_room : l.inputs ≤ 256
  pub scans_few : l.scans < 65536

-- a workspace that is long enough
pub record Lent (l : Limits) (w : List ℕ) : Type 0 where
  pub small : Small l
  pub room : slot_at l (clause_room l) (l.steps + 1) ≤ length w

-- a good sheet stands in s
pub record OpenedFor (l : Limits) (s c : List ℕ) (h : Outline) (w : List ℕ) : Type 0 where
  pub lent : Lent l w
  pub outlined : Outlined l s h
  pub sheet_bytes : Bytes s
  pub bytes : Bytes c

abbrev pub JudgesSafe : Limits → List ℕ → List ℕ → Outline → List ℕ → Result Answer Refusal → Type 0
JudgesSafe l s c h w r =
    (a : OpenedFor l s c h w) → answer_of r ≡ judge_safe l a.outlined.sheet c (read_invariant l a.outlined.sheet c)

abbrev pub JudgesOpened : Limits → List ℕ → List ℕ → Outline → List ℕ → Result Answer Refusal → Type 0
JudgesOpened l s c h w r =
    (a : OpenedFor l s c h w)
    → answer_of r ≡ judge_opened l a.outlined.sheet c (reading (opening (Kind.SAFE ∷ Kind.TRACE ∷ [])) c 0 tt)

abbrev pub JudgesBytes : Limits → List ℕ → List ℕ → Result Answer Refusal → Type 0
JudgesBytes l s c r = answer_of r ≡ judge_certificate l c (read_sheet l s)
