-- A trace over a good sheet: what the start values and the replay need, and the answer.
-- Assumes nothing.
use Prim.Native.Nat.{ℕ, ◌≤◌}
use mathlib.Core.Path.{◌≡◌, sym, ap, ◌∙◌, fun_ext}
use mathlib.Core.Bool.{false}
use mathlib.Core.List.{List}
use native.Mathlib.Omega.{arith}
use lib.ListN.{length}
use Rattle.base.specs.Lists.{fresh}
use Rattle.base.proofs.ClearLaws.{fresh_length, all_zero}
use Rattle.rules.specs.declared.Limits.{Limits}
use Rattle.std.specs.Prelude.{Result}
use Rattle.std.proofs.Common.{Bor}
use Rattle.trace.specs.declared.Ladder.{Ladder}
use Rattle.rules.specs.declared.Answer.{Answer}
use Rattle.rules.specs.declared.refusals.Refusal.{Refusal}
use Rattle.rules.specs.Sheet.{Sheet}
use Rattle.rules.specs.WriteSheet.{write_sheet, WithinSheet}
use Rattle.rules.specs.Certificate.{read_scans}
use Rattle.rules.specs.Verdict.{judge_scans, unplayed, answer_of}
use Rattle.reading.proofs.SheetKept.{sheet_written}
use Rattle.sheets.specs.declared.Outline.{Outline}
use Rattle.ladder.specs.Values.{on}
use Rattle.ladder.specs.Starts.{start_places, StartsAt, Initialises}
use Rattle.ladder.proofs.StartLaws.{starts_are}
use Rattle.trace.specs.Playing.{ReplayAt, Replays}
use Rattle.checker.specs.Traced.{starts_of, TracedAt, Traces, PlayedAt, Plays}
use Rattle.ladder.proofs.SheetBytes.{ladder_at, starts_at, starts_named_here}

cleared : (w : List ℕ) → on (fresh (length w) w) ≡ (λ (n : ℕ). false)
cleared w = fun_ext (λ n. rw (all_zero w n))

module _ (l : Limits) (b : Bor (List ℕ)) (c : List ℕ) (h : Outline) (inputs coils w : List ℕ) (a : PlayedAt l b.now c h inputs coils w) where
  abbrev t : Sheet
  t = a.traced.outlined.sheet

  abbrev drawn : Ladder
  drawn = record { sheet = b; from = h.rungs_at; rungs = h.rungs; inputs = h.inputs }

  within : WithinSheet l t
  within = (sheet_written l b.now t a.traced.bytes a.traced.outlined.reads).0

  is_sheet : write_sheet t ≡ b.now
  is_sheet = (sheet_written l b.now t a.traced.bytes a.traced.outlined.reads).1

  starts_count : starts_of h ≡ length t.starts
  starts_count = let e = a.traced.outlined.rungs_begin in omega arith

  module _ (coils₁ : List ℕ) (e : coils₁ ≡ fresh (length coils) coils) where
    long₁ : length coils₁ ≡ length coils
    long₁ = ap length e ∙ fresh_length (length coils) coils (omega arith)

    room₁ : l.coils ≤ length coils₁
    room₁ = rw long₁ a.coils_lent

    pub starts_stand : (n : ℕ) → n ≡ starts_of h → StartsAt b.now 7 n (length coils₁)
    starts_stand n q = starts_at l t within inputs coils₁ w a.inputs_lent room₁ a.stack_lent b.now is_sheet n (q ∙ starts_count)

    module _ (n : ℕ) (q : n ≡ starts_of h) (coils₂ : List ℕ) (i : Initialises b.now 7 n coils₁ coils₂) (long₂ : length coils₂ ≡ length coils₁)
        (inputs₁ : List ℕ) (ei : inputs₁ ≡ fresh (length inputs) inputs) where
      stored : coils₂ ≡ start_places coils₁ t.starts
      unfolding starts_stand starts_at
      stored = i (starts_stand n q)

      long_inputs : length inputs₁ ≡ length inputs
      long_inputs = ap length ei ∙ fresh_length (length inputs) inputs (omega arith)

      room_inputs : l.inputs ≤ length inputs₁
      room_inputs = rw long_inputs a.inputs_lent

      room₂ : l.coils ≤ length coils₂
      room₂ = rw (long₂ ∙ long₁) a.coils_lent

      pub replay_here : ReplayAt l (record { sheet = b; from = h.rungs_at; rungs = h.rungs; inputs = h.inputs }) c inputs₁ coils₂ w
      unfolding ladder_at
      replay_here = record {
        scan_at = record {
          few = a.traced.few;
          known = let x = a.traced.outlined.inputs_are in let y = within.inputs_fit in let z = room_inputs in omega arith;
          drawn = ladder_at l t within inputs₁ coils₂ w room_inputs room₂ a.stack_lent b.now is_sheet h.rungs_at h.rungs a.traced.outlined.rungs_begin a.traced.outlined.rungs_are;
        };
        inputs_known = sym a.traced.outlined.inputs_are;
        opened = a.traced.opened;
        inputs_off = ap on ei ∙ cleared inputs;
        started =
            ap on stored
            ∙ starts_are coils₁ t.starts (ap on e ∙ cleared coils) within.starts_rise
            (starts_named_here l t within inputs coils₁ w a.inputs_lent room₁ a.stack_lent b.now is_sheet);
      }

      pub judged_so : (inputs₂ coils₃ w' : List ℕ) (r : Result Answer Refusal)
          → Replays l (record { sheet = b; from = h.rungs_at; rungs = h.rungs; inputs = h.inputs }) c inputs₁ inputs₂ coils₂ coils₃ w w' r
          → answer_of r ≡ judge_scans t c (unplayed t) (read_scans l t c)
      unfolding replay_here ladder_at
      judged_so inputs₂ coils₃ w' r f = (f replay_here).answered

-- the whole function's answer, of every good sheet that stands there
module _ (l : Limits) (b : Bor (List ℕ)) (c : List ℕ) (h : Outline) (inputs coils w : List ℕ) (coils₁ : List ℕ) (e : coils₁ ≡ fresh (length coils) coils) (n : ℕ) (q : n ≡ starts_of h)
    (coils₂ : List ℕ) (i : Initialises b.now 7 n coils₁ coils₂) (long₂ : length coils₂ ≡ length coils₁) (inputs₁ : List ℕ) (ei : inputs₁ ≡ fresh (length inputs) inputs) where
  pub plays : (inputs₂ coils₃ w' : List ℕ) (r : Result Answer Refusal)
      → Replays l (record { sheet = b; from = h.rungs_at; rungs = h.rungs; inputs = h.inputs }) c inputs₁ inputs₂ coils₂ coils₃ w w' r
      → Plays l b.now c h inputs coils w r
  plays inputs₂ coils₃ w' r f a = judged_so l b c h inputs coils w a coils₁ e n q coils₂ i long₂ inputs₁ ei inputs₂ coils₃ w' r f

-- places of the judge's own are enough
module _ (l : Limits) (s c : List ℕ) (h : Outline) (inputs coils w : List ℕ) (ei : 256 ≡ length inputs) (ec : 256 ≡ length coils) (ew : 32 ≡ length w) where
  pub played_at : TracedAt l s c h → PlayedAt l s c h inputs coils w
  played_at a = record {
    traced = a;
    inputs_lent = let z = a.inputs_room in omega arith;
    coils_lent = let z = a.coils_room in omega arith;
    stack_lent = let z = a.stack_room in omega arith;
  }

  pub traces : (r : Result Answer Refusal) → Plays l s c h inputs coils w r → Traces l s c h r
  unfolding played_at
  traces r f a = f (played_at a)

pub ruleset judge_trace_cases = (played_at, traces)
