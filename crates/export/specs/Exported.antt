-- An answer for other languages: one number for its case, and two numbers that go with it.
use Rattle.std.specs.Prelude.{ℕ, ◌≡◌, List, length, ltb}
use Rattle.base.specs.Pick.{pick}
use Rattle.base.specs.Lists.{fresh}
use Rattle.rules.specs.declared.Limits.{Limits}
use Rattle.rules.specs.Verdict.{Verdict, Verdict.accepted, Verdict.confirmed, Verdict.refused, judge, Translation, Translation.written, Translation.withheld, translation, room_after}

-- 0 accepted, 1 confirmed, 2 refused
unfoldable pub case_of : Verdict → ℕ
case_of accepted = 0
case_of (confirmed m) = 1
case_of (refused x) = 2

-- the scan, or the refusal's number
unfoldable pub number_of : Verdict → ℕ
number_of accepted = 0
number_of (confirmed m) = m
number_of (refused x) = x.no

-- the refusal's place
unfoldable pub place_of : Verdict → ℕ
place_of accepted = 0
place_of (confirmed m) = 0
place_of (refused x) = x.place

-- the answer and both numbers are those of the verdict, and the workspace is as the checker leaves it
pub record CheckExported (l : Limits) (s c w w' : List ℕ) (number place r : ℕ) : Type 0 where
  pub case_is : r ≡ case_of (judge l s c (length w))
  pub number_is : number ≡ number_of (judge l s c (length w))
  pub place_is : place ≡ place_of (judge l s c (length w))
  pub left : w' ≡ pick (ltb (length w) l.places) w (fresh l.places w)

-- 0 written, 2 refused; the count of clauses, or the refusal's number; the refusal's place
unfoldable pub written_case : Translation → ℕ
written_case (written cs) = 0
written_case (withheld x) = 2

unfoldable pub written_number : Translation → ℕ
written_number (written cs) = length cs
written_number (withheld x) = x.no

unfoldable pub written_place : Translation → ℕ
written_place (written cs) = 0
written_place (withheld x) = x.place

pub record TranslateExported (l : Limits) (set : ℕ) (s c w w' : List ℕ) (number place r : ℕ) : Type 0 where
  pub case_is : r ≡ written_case (translation l set s c (length w))
  pub number_is : number ≡ written_number (translation l set s c (length w))
  pub place_is : place ≡ written_place (translation l set s c (length w))
  pub left : w' ≡ room_after (translation l set s c (length w)) w
