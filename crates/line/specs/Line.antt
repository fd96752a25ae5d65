-- The line that the program writes, byte by byte.
use Rattle.std.specs.Prelude.{ℕ, ◌≡◌, List, [], ◌∷◌, ◌++◌, Result, Ok, Err}
use Rattle.rules.specs.declared.Answer.{Answer}
use Rattle.rules.specs.declared.refusals.Refusal.{Refusal}
use Rattle.rules.specs.Fault.{number_of}
use Rattle.rules.specs.Walk.{◌at◌}
use Rattle.rules.specs.Verdict.{Verdict, Verdict.accepted, Verdict.confirmed, Verdict.refused, answer_of}
use Rattle.writing.specs.Room.{feed, numbered, pair_line}
use Rattle.line.specs.declared.Told.{Told}

-- `accepted`
abbrev pub word_accepted : List ℕ
word_accepted = 0x61 ∷ 0x63 ∷ 0x63 ∷ 0x65 ∷ 0x70 ∷ 0x74 ∷ 0x65 ∷ 0x64 ∷ []

-- `confirmed scan `
abbrev pub words_confirmed : List ℕ
words_confirmed = 0x63 ∷ 0x6F ∷ 0x6E ∷ 0x66 ∷ 0x69 ∷ 0x72 ∷ 0x6D ∷ 0x65 ∷ 0x64 ∷ 0x20 ∷ 0x73 ∷ 0x63 ∷ 0x61 ∷ 0x6E ∷ 0x20 ∷ []

-- `refused `
abbrev pub word_refused : List ℕ
word_refused = 0x72 ∷ 0x65 ∷ 0x66 ∷ 0x75 ∷ 0x73 ∷ 0x65 ∷ 0x64 ∷ 0x20 ∷ []

-- ` at `
abbrev pub word_at : List ℕ
word_at = 0x20 ∷ 0x61 ∷ 0x74 ∷ 0x20 ∷ []

-- `unreadable`
abbrev pub word_unreadable : List ℕ
word_unreadable = 0x75 ∷ 0x6E ∷ 0x72 ∷ 0x65 ∷ 0x61 ∷ 0x64 ∷ 0x61 ∷ 0x62 ∷ 0x6C ∷ 0x65 ∷ []

abbrev pub accepted_line : List ℕ
accepted_line = word_accepted ++ feed

abbrev pub confirmed_line : ℕ → List ℕ
confirmed_line m = numbered words_confirmed m ++ feed

abbrev pub refused_line : ℕ → ℕ → List ℕ
refused_line n p = pair_line word_refused n word_at p

-- `accepted`, `confirmed scan N` or `refused N at P`, and a line feed
unfoldable pub line_of : Verdict → List ℕ
line_of accepted = accepted_line
line_of (confirmed m) = confirmed_line m
line_of (refused x) = refused_line x.no x.place

-- what is told of a refusal: its number and its place
abbrev pub told_of : Refusal → Told
told_of x = record { number = number_of x.fault; place = x.place }

-- the verdict of an answer that is refused with any number at a place
unfoldable pub told_verdict : Result Answer Told → Verdict
told_verdict (Ok a) = answer_of (Ok a)
told_verdict (Err t) = refused (t.number at t.place)

-- the verdict v of an answer that is refused with what converts to a number at a place
unfoldable pub Tells : {E : Type 0} → (E → Told → Type 0) → Result Answer E → Verdict → Type 0
Tells converts (Ok a) v = v ≡ told_verdict (Ok a)
Tells converts (Err e) v = (t : Told) × converts e t × (v ≡ told_verdict (Err t))

-- where a file cannot be read
abbrev pub unreadable_line : List ℕ
unreadable_line = word_unreadable ++ feed
