-- What judging a trace over a good sheet promises.
use Rattle.std.specs.Prelude.{ℕ, ◌-◌, ◌/◌, ◌≤◌, ◌<◌, ◌≡◌, Result, List, length}
use Rattle.rules.specs.declared.Limits.{Limits}
use Rattle.rules.specs.declared.Answer.{Answer}
use Rattle.rules.specs.declared.refusals.Refusal.{Refusal}
use Rattle.rules.specs.WriteSheet.{Bytes}
use Rattle.rules.specs.Certificate.{read_scans}
use Rattle.rules.specs.Verdict.{judge_scans, unplayed, answer_of}
use Rattle.sheets.specs.declared.Outline.{Outline}
use Rattle.sheets.specs.Answer.{Outlined}

abbrev pub starts_of : Outline → ℕ
starts_of h = (h.rungs_at - 7) / 4

-- a good sheet stands in s, within limits that the replay's own places and numbers are enough for
pub record TracedAt (l : Limits) (s c : List ℕ) (h : Outline) : Type 0 where
  pub outlined : Outlined l s h
  pub bytes : Bytes s
  pub opened : 1 ≤ length c
  pub few : l.scans < 65536
  pub inputs_room : l.inputs ≤ 256
  pub coils_room : l.coils ≤ 256
  pub stack_room : l.depth ≤ 32

abbrev pub Traces : Limits → List ℕ → List ℕ → Outline → Result Answer Refusal → Type 0
Traces l s c h r =
    (a : TracedAt l s c h) → answer_of r ≡ judge_scans a.outlined.sheet c (unplayed a.outlined.sheet) (read_scans l a.outlined.sheet c)

-- and on lent places that are enough for it
pub record PlayedAt (l : Limits) (s c : List ℕ) (h : Outline) (inputs coils w : List ℕ) : Type 0 where
  pub traced : TracedAt l s c h
  pub inputs_lent : l.inputs ≤ length inputs
  pub coils_lent : l.coils ≤ length coils
  pub stack_lent : l.depth ≤ length w

abbrev pub Plays : Limits → List ℕ → List ℕ → Outline → List ℕ → List ℕ → List ℕ → Result Answer Refusal → Type 0
Plays l s c h inputs coils w r =
    (a : PlayedAt l s c h inputs coils w) → answer_of r ≡ judge_scans a.traced.outlined.sheet c (unplayed a.traced.outlined.sheet) (read_scans l a.traced.outlined.sheet c)
