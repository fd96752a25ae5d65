-- The cases of an exported answer.
-- Assumes nothing.
use Prim.Native.Nat.{ℕ}
use mathlib.Core.Path.{◌≡◌, refl, sym, ap, ◌∙◌}
use mathlib.Core.List.{List}
use lib.ListN.{length}
use Rattle.rules.specs.declared.Limits.{Limits}
use Rattle.rules.specs.declared.Answer.{Answer}
use Rattle.rules.specs.declared.Answer.TheVariants.{Accepted, Confirmed}
use Rattle.std.specs.Prelude.{Result, Ok, Err}
use Rattle.rules.specs.Fault.{number_of as fault_number, refusal_of}
use Rattle.rules.specs.declared.refusals.Refusal.{Refusal}
use native.Mathlib.Omega.{arith}
use Rattle.rules.specs.Verdict.{Verdict, Verdict.accepted, Verdict.confirmed, Verdict.refused, judge, answer_of, Translation, Translation.written, Translation.withheld, translation, written_of, count_of}
use Rattle.clauses.specs.Translated.{Translated}
use Rattle.checker.specs.Checked.{Checked}
use Rattle.export.specs.Exported.{case_of, number_of, place_of, CheckExported, written_case, written_number, written_place, TranslateExported}

module _ (l : Limits) (s c w w' : List ℕ) (a : Result Answer Refusal) (h : Checked l s c w w' a) where
  told : (v : Verdict) → answer_of a ≡ v → (n p r : ℕ) → r ≡ case_of v → n ≡ number_of v → p ≡ place_of v → CheckExported l s c w w' n p r
  told v e n p r x y z =
      let q : v ≡ judge l s c (length w) = sym e ∙ h.answered in
      record { case_is = x ∙ ap case_of q; number_is = y ∙ ap number_of q; place_is = z ∙ ap place_of q; left = h.left }

  pub tells_accepted : a ≡ Ok Accepted → CheckExported l s c w w' 0 0 0
  unfolding case_of number_of place_of answer_of
  tells_accepted e = told accepted (ap answer_of e) 0 0 0 refl refl refl

  pub tells_confirmed : (m : ℕ) → a ≡ Ok (Confirmed m) → CheckExported l s c w w' m 0 1
  unfolding case_of number_of place_of answer_of
  tells_confirmed m e = told (confirmed m) (ap answer_of e) m 0 1 refl refl refl

  pub tells_refused : (x : Refusal) (n : ℕ) → a ≡ Err x → n ≡ fault_number x.fault → CheckExported l s c w w' n x.place 2
  unfolding case_of number_of place_of answer_of
  tells_refused x n e f = told (refused (refusal_of x)) (ap answer_of e) n x.place 2 refl f refl

module _ (l : Limits) (set : ℕ) (s c w w' : List ℕ) (a : Result ℕ Refusal) (h : Translated l set s c w w' a) where
  counted : (t : Translation) (n : ℕ) → written_of t ≡ Ok n → (written_case t ≡ 0) × (written_number t ≡ n) × (written_place t ≡ 0)
  unfolding written_of written_case written_number written_place
  counted (written cs) n e = (refl, cc, refl)
  counted (withheld x) n e = let z : ◌≡◌ {A = ℕ} 0 1 = cc in absurd (omega arith)

  refused_with : (t : Translation) (x : Refusal) → written_of t ≡ Err (refusal_of x)
      → (written_case t ≡ 2) × (written_number t ≡ fault_number x.fault) × (written_place t ≡ x.place)
  unfolding written_of written_case written_number written_place
  refused_with (written cs) x e = let z : ◌≡◌ {A = ℕ} 0 1 = cc in absurd (omega arith)
  refused_with (withheld y) x e = let z : y ≡ refusal_of x = cc in (refl, rw z, rw z)

  pub tells_written : (n : ℕ) → a ≡ Ok n → TranslateExported l set s c w w' n 0 0
  unfolding count_of
  tells_written n e =
      let q = counted (translation l set s c (length w)) n (sym h.answered ∙ ap count_of e) in
      record { case_is = sym q.0; number_is = sym q.1; place_is = sym q.2; left = h.left }

  pub tells_withheld : (x : Refusal) (n : ℕ) → a ≡ Err x → n ≡ fault_number x.fault → TranslateExported l set s c w w' n x.place 2
  unfolding count_of
  tells_withheld x n e f =
      let q = refused_with (translation l set s c (length w)) x (sym h.answered ∙ ap count_of e) in
      record { case_is = sym q.0; number_is = f ∙ sym q.1; place_is = sym q.2; left = h.left }
