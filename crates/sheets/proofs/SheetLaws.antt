-- The loop over a sheet's records: its invariant, its turns, and its answers.
-- Assumes nothing.
use Prim.Native.Nat.{ℕ, ◌+◌, ◌-◌, ◌≤◌, ◌<◌}
use mathlib.Core.Path.{◌≡◌, refl, sym, ap, ◌∙◌}
use mathlib.Core.Bool.{Bool, true, false}
use mathlib.Core.List.{List}
use native.Mathlib.Omega.{arith}
use lib.ListN.{length, get_or, drop}
use lib.Dec.{ltb}
use borrow.Author.Tests.{lt-ltb, le-ltb}
use Rattle.base.specs.Pick.{pick}
use Rattle.base.specs.Lists.{fresh}
use Rattle.base.proofs.ClearLaws.{fresh_length, fresh_rest, fresh_zero}
use Rattle.rules.specs.declared.Limits.{Limits}
use Rattle.rules.specs.Record.{record_length}
use Rattle.rules.specs.Walk.{◌at◌, Move.no, Reading, move_at, reading}
use Rattle.rules.specs.Sheet.{Sheet}
use Rattle.rules.specs.ReadSheet.{Draft, blank, SheetRead.good, SheetRead.bad, sheet_reader, judge_sheet, read_sheet}
use Rattle.sheets.specs.Draft.{Step, Laid, Stands, Went, Closed, After, Stepped, Answers}
use Rattle.sheets.specs.Answer.{Says, ReadAs, Cleared, ended_as}
use Rattle.sheets.specs.declared.Kept.{Kept}
use Rattle.std.specs.Prelude.{Result, Ok, Err, Some, None}
use Rattle.rules.specs.Fault.{number_of}
use Rattle.rules.specs.declared.refusals.Fault.{Fault}
use Rattle.rules.specs.declared.refusals.Fault.TheVariants.{AfterSheet}
use Rattle.rules.specs.declared.refusals.Refusal.{Refusal}
use Rattle.sheets.specs.declared.Outline.{Outline}
use Rattle.sheets.specs.declared.Spot.TheVariants.{Head}
use Rattle.sheets.proofs.WalkLaws.{Walking, walks_first, walks_no, walks_done, walks_go, within_go, within_done, further}

abbrev whole_sheet : Limits → List ℕ → Reading ⊥ Sheet
whole_sheet l s = reading (sheet_reader l) s 0 blank

-- the rules' walk from here, with a draft that memory stands for, reads what the walk from the start reads
pub record Going (l : Limits) (s m₀ m : List ℕ) (d : Kept) : Type 0 where
  pub long : length m ≡ length m₀
  pub rest : drop l.coils m ≡ drop l.coils m₀
  pub draft : Draft
  pub stands : Stands l m d draft
  pub walking : Walking (sheet_reader l) s (reading (sheet_reader l) s 0 blank) d.at draft

pub begins : (l : Limits) (s m : List ℕ) → Cleared l m
    → Going l s m m (record {
      spot = Head;
      at = 0;
      inputs = 0;
      coils = 0;
      promised = 0;
      least = 0;
      rungs = 0;
      depth = 0;
      count = 0;
      rungs_at = 0;
      condition_at = 0;
    })
unfolding Laid
begins l s m c = record {
  long = refl;
  rest = refl;
  draft = blank;
  stands = record {
    spot_is = refl;
    inputs_are = refl;
    coils_are = refl;
    promised_are = refl;
    least_is = refl;
    rungs_are = refl;
    height = refl;
    counted = refl;
    fit = record { coils_in = omega arith; room = c.room };
    marked = λ x h. sym (rw (c.zeros x h));
    laid = record { first = refl; no_rung = refl };
  };
  walking = walks_first (sheet_reader l) s blank 0;
}

module _ (l : Limits) (s m₀ m m' : List ℕ) (d : Kept) (r : Step) (i : Going l s m₀ m d) (a : Answers l s m m' d r) (e : length m' ≡ length m) where
  stepped : Stepped l m m' d i.draft (move_at (sheet_reader l) i.draft (drop d.at s)) (d.at + record_length (get_or (drop d.at s) 0 0)) r
  stepped = a i.draft i.stands

  ends : (o : Result Outline Refusal) → Says l s o → ReadAs l s m₀ m' o
  ends o y = record { answered = y; rest = stepped.rest ∙ i.rest; long = e ∙ i.long }

  pub turn_no : (n : Fault) → r ≡ Err n → ReadAs l s m₀ m' (Err (record { fault = n; place = d.at }))
  unfolding After Says read_sheet judge_sheet
  turn_no n q =
      let x : move_at (sheet_reader l) i.draft (drop d.at s) ≡ no (number_of n) = rw q at stepped.after in
      ends (Err (record { fault = n; place = d.at })) (rw (walks_no (sheet_reader l) s i.draft d.at (whole_sheet l s) i.walking (number_of n) x, judge_sheet))

  module _ (u : Kept) (q : r ≡ Ok (Some u)) where
    went : Went l m' u (move_at (sheet_reader l) i.draft (drop d.at s)) (d.at + record_length (get_or (drop d.at s) 0 0))
    unfolding After
    went = rw q at stepped.after

    pub turn_go : Going l s m₀ m' u
    turn_go = record {
      long = e ∙ i.long;
      rest = stepped.rest ∙ i.rest;
      draft = went.to;
      stands = went.stands;
      walking = walks_go (sheet_reader l) s i.draft d.at (whole_sheet l s) i.walking went.to u.at went.moved went.there;
    }

    pub turn_less : length s - u.at < length s - d.at
    turn_less =
        further (sheet_reader l) s i.draft d.at u.at
        (within_go (sheet_reader l) s i.draft d.at went.to went.moved) went.there

  module _ (q : r ≡ Ok None) where
    closed_there : Closed d i.draft (move_at (sheet_reader l) i.draft (drop d.at s))
    unfolding After
    closed_there = rw q at stepped.after

    pub turn_inside : d.at < length s
    turn_inside = within_done (sheet_reader l) s i.draft d.at i.draft.sheet closed_there.moved

    judged : read_sheet l s ≡ pick (ltb (d.at + 1) (length s)) (bad (11 at d.at + 1)) (good i.draft.sheet)
    unfolding read_sheet judge_sheet
    judged = rw (walks_done (sheet_reader l) s i.draft d.at (whole_sheet l s) i.walking i.draft.sheet closed_there.moved, judge_sheet)

    pub turn_done : (o : Result Outline Refusal) → o ≡ ended_as s d → ReadAs l s m₀ m' o
    unfolding Says
    turn_done o f = ends o (rw f (go (ltb (d.at + 1) (length s)) refl))
      where
        go : (b : Bool) → ltb (d.at + 1) (length s) ≡ b
            → Says l s (pick b (Err (record { fault = AfterSheet; place = d.at + 1 })) (Ok (record {
              inputs = d.inputs;
              coils = d.coils;
              rungs = d.rungs;
              rungs_at = d.rungs_at;
              condition_at = d.condition_at;
            })))
        go true h = judged ∙ rw h
        go false h = record {
          sheet = i.draft.sheet;
          reads = judged ∙ rw h;
          inputs_are = i.stands.inputs_are;
          coils_are = i.stands.coils_are;
          rungs_are = i.stands.rungs_are;
          rungs_begin = closed_there.ending.rungs_begin;
          condition_begins = closed_there.ending.condition_begins;
        }

pub ruleset read_records_cases = (begins, turn_no, turn_go, turn_less, turn_inside, turn_done)

-- the coils' places are cleared first
module _ (l : Limits) (s m m₁ : List ℕ) (h : l.coils ≤ length m) (e : m₁ ≡ fresh l.coils m) where
  long₁ : length m₁ ≡ length m
  long₁ = rw e (fresh_length l.coils m h)

  pub sheet_cleared : Cleared l m₁
  sheet_cleared = record { room = omega (arith, long₁); zeros = λ c k. rw e (fresh_zero l.coils m c k) }

  pub sheet_read : (m₂ : List ℕ) (r : Result Outline Refusal) → ReadAs l s m₁ m₂ r → ReadAs l s m m₂ r
  sheet_read m₂ r x = record {
    answered = x.answered;
    rest = x.rest ∙ ap (drop l.coils) e ∙ fresh_rest l.coils m;
    long = x.long ∙ long₁;
  }

pub ruleset read_sheet_cases = (sheet_cleared, sheet_read)

pub ended_more : (s : List ℕ) (d : Kept) → d.at + 1 < length s → Err (record { fault = AfterSheet; place = d.at + 1 }) ≡ ended_as s d
ended_more s d h = simp (lt-ltb _ _ h)

pub ended_whole : (s : List ℕ) (d : Kept) → length s ≤ d.at + 1
    → Ok (record {
      inputs = d.inputs;
      coils = d.coils;
      rungs = d.rungs;
      rungs_at = d.rungs_at;
      condition_at = d.condition_at;
    }) ≡ ended_as s d
ended_whole s d h = simp (le-ltb _ _ h)

pub ruleset ended_cases = (ended_more, ended_whole)
