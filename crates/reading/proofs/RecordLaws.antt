-- The written records, kind by kind: each is whole at the front of whatever follows it, and its numbers read back.
-- Assumes nothing.
use Prim.Native.Nat.{ℕ}
use mathlib.Core.Path.{◌≡◌, refl}
use mathlib.Core.Bool.{Bool}
use mathlib.Core.List.{List, [], ◌∷◌, ◌++◌}
use Rattle.rules.specs.Kind
use Rattle.rules.specs.Record.{rows, body_length, number, two_bytes}
use Rattle.rules.specs.WriteSheet.{bit}
use Rattle.reading.proofs.FrontLaws.{Written}
use Rattle.reading.proofs.ByteLaws.{number_back}

-- a record without a body
pub bare_record : (k : ℕ) → body_length k ≡ 0 → Written k []
bare_record k e = record { known = rw e; long = e }

-- HEAD, START, RUNG, STEP and INPUT-ON; a formula record's law is `written_entry`
pub head_record : (i c n : ℕ) → Written Kind.HEAD (two_bytes i ++ (two_bytes c ++ two_bytes n))
unfolding rows body_length
head_record i c n = record { known = refl; long = refl }

pub start_record : (c : ℕ) (b : Bool) → Written Kind.START (two_bytes c ++ (bit b ∷ []))
unfolding rows body_length
start_record c b = record { known = refl; long = refl }

pub rung_record : (c : ℕ) → Written Kind.RUNG (two_bytes c)
unfolding rows body_length
rung_record c = record { known = refl; long = refl }

pub step_record : (a b p : ℕ) → Written Kind.STEP (two_bytes a ++ (two_bytes b ++ two_bytes p))
unfolding rows body_length
step_record a b p = record { known = refl; long = refl }

pub input_on_record : (n : ℕ) → Written Kind.INPUT_ON (two_bytes n)
unfolding rows body_length
input_on_record n = record { known = refl; long = refl }

-- the first, second and third number of a record
module _ (k a : ℕ) where
  pub number_first : (rest : List ℕ) → number (k ∷ (two_bytes a ++ rest)) 1 ≡ a
  number_first rest = number_back a

  module _ (b : ℕ) where
    pub number_second : (rest : List ℕ) → number (k ∷ (two_bytes a ++ (two_bytes b ++ rest))) 3 ≡ b
    number_second rest = number_back b

    pub number_third : (c : ℕ) (rest : List ℕ) → number (k ∷ (two_bytes a ++ (two_bytes b ++ (two_bytes c ++ rest)))) 5 ≡ c
    number_third c rest = number_back c
