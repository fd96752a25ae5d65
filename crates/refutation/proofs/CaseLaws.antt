-- The three refutations of a certificate one after the other: from one answer to the next, and to the verdict.
-- Assumes nothing.
use Prim.Native.Nat.{ℕ, ◌+◌, ◌<◌}
use mathlib.Core.Path.{◌≡◌, sym, ap, ◌∙◌}
use mathlib.Core.Bool.{false}
use mathlib.Core.List.{List}
use lib.ListN.{length, drop}
use Rattle.rules.specs.declared.Limits.{Limits}
use Rattle.rules.specs.declared.Answer.{Answer}
use Rattle.rules.specs.Walk.{walk}
use Rattle.rules.specs.Certificate.{steps_reader}
use Rattle.rules.specs.Clauses.{clause_set}
use Rattle.rules.specs.Verdict.{Verdict, Verdict.refused, following, judge_steps, answer_of}
use Rattle.refutation.specs.Judging.{Case, verdict, Ends, Ends.refuses, Ends.closes, Ended}
use Rattle.std.specs.Prelude.{Result, Ok, Err}
use Rattle.rules.specs.declared.refusals.Refusal.{Refusal}
use Rattle.rules.specs.Fault.{refusal_of}

-- the refutation after another
abbrev pub next_case : Case → ℕ → Case
next_case x f = record {
  sheet = x.sheet;
  invariant = x.invariant;
  bytes = x.bytes;
  which = following x.which;
  clauses = clause_set x.sheet x.invariant (following x.which);
  qeds = x.qeds + 1;
  fuel = f;
}

module _ (l : Limits) (c : List ℕ) (p : ℕ) (x : Case) where
  pub fault_is : (f : Refusal) → Ends l c p x (Err f) → verdict l c p 0 false x ≡ refused (refusal_of f)
  fault_is f (refuses h) = h

  -- what is shown of the next refutation from here is the verdict on this one too
  pub done_is : (q : ℕ) (v : Verdict) → Ends l c p x (Ok q)
      → ((f : ℕ) → length (drop q c) < f → verdict l c q 0 false (next_case x f) ≡ v) → verdict l c p 0 false x ≡ v
  done_is q v (closes f h e) g = e ∙ g f h

  -- after the third QED
  pub end_is : (r : Result Answer Refusal) → Ended c p r → x.bytes ≡ c → x.qeds ≡ 3 → length (drop p c) < x.fuel → verdict l c p 0 false x ≡ answer_of r
  end_is r h e z k =
      let y = h.ends l x.sheet x.invariant (record { which = x.which; clauses = x.clauses; steps = 0; emptied = false }) x.fuel k in
      ap (λ (bs : List ℕ). judge_steps l x.sheet x.invariant bs (record { which = x.which; clauses = x.clauses; steps = 0; emptied = false })
      (walk steps_reader x.fuel (drop p c) p x.qeds)) e
      ∙ ap (λ (k : ℕ). judge_steps l x.sheet x.invariant c (record { which = x.which; clauses = x.clauses; steps = 0; emptied = false })
      (walk steps_reader x.fuel (drop p c) p k)) z
      ∙ sym y
