-- A clause's line, run after run.
-- Assumes nothing.
use Prim.Native.Nat.{ℕ, ◌/◌, ◌%◌, ◌≤◌, ◌<◌}
use mathlib.Core.Path.{◌≡◌, refl, sym, ap, ◌∙◌}
use mathlib.Core.Bool.{Bool, true, false}
use mathlib.Core.List.{List, [], ◌∷◌, ◌++◌, append-nil, append_assoc}
use native.Mathlib.Nat.{add-zero}
use native.Mathlib.Omega.{arith}
use lib.ListN.{length, length-append}
use lib.Seq.{paste-zero}
use lib.Dec.{eqb}
use borrow.Author.Tests.{eq-eqb, ne_eqb, eqb-true, eqb-false}
use Rattle.base.specs.Lists.{each}
use Rattle.rules.specs.Clauses.{Lit, Clause}
use Rattle.solving.specs.Places.{unplace}
use Rattle.writing.specs.Decimal.{decimal}
use Rattle.writing.specs.Room.{numbered, Put}
use Rattle.writing.proofs.DecimalLaws.{few_digits}
use Rattle.dimacs.specs.Dimacs.{minus, space, literal_text, literals_text}

pub each_append : {A B : Type 0} (f : A → List B) (xs ys : List A) → each f (xs ++ ys) ≡ each f xs ++ each f ys
each_append f [] ys = refl
each_append f (x ∷ xs) ys = ap (λ zs. f x ++ zs) (each_append f xs ys) ∙ sym (append_assoc (f x) (each f xs) (each f ys))

literals_append : (c d : Clause) → literals_text (c ++ d) ≡ literals_text c ++ literals_text d
unfolding literals_text
literals_append c d = each_append (λ (x : Lit). literal_text x ++ space) c d

-- the text of what a place stands for
text_none : (p : ℕ) → p ≡ 0 → literals_text (unplace p) ≡ []
unfolding unplace literals_text
text_none p e = rw (eq-eqb p 0 e)

pub text_plain : (p : ℕ) → (p ≡ 0 → ⊥) → p % 2 ≡ 0 → literals_text (unplace p) ≡ numbered [] (p / 2) ++ space
unfolding unplace literals_text literal_text
text_plain p z e = rw (ne_eqb p 0 z, eq-eqb (p % 2) 0 e) (append-nil (decimal (p / 2) ++ space))

pub text_negated : (p : ℕ) → (p ≡ 0 → ⊥) → (p % 2 ≡ 0 → ⊥) → literals_text (unplace p) ≡ numbered minus (p / 2) ++ space
unfolding unplace literals_text literal_text
text_negated p z e = rw (ne_eqb p 0 z, ne_eqb (p % 2) 0 e) (append-nil (numbered minus (p / 2) ++ space))

pub put_none : (w : List ℕ) (at p : ℕ) → p ≡ 0 → Put w w at (literals_text (unplace p)) at
put_none w at p e = rw (text_none p e) (record { next = sym (add-zero at); stands = paste-zero w at [] })

pub ruleset place_cases = (text_plain, text_negated)

-- a literal has seven bytes at most, its space among them
pub literal_short : (p : ℕ) → p < 65536 → length (literals_text (unplace p)) ≤ 7
literal_short p f = go (eqb p 0) (eqb (p % 2) 0) refl refl
  where
    number : length (decimal (p / 2)) ≤ 5
    number = few_digits (p / 2) 4 (omega arith)

    go : (s t : Bool) → eqb p 0 ≡ s → eqb (p % 2) 0 ≡ t → length (literals_text (unplace p)) ≤ 7
    go true t d e = omega (arith, ap length (text_none p (eqb-true p 0 d)))
    go false true d e =
        omega (arith, number, ap length (text_plain p (eqb-false p 0 d) (eqb-true (p % 2) 0 e)), length-append (decimal (p / 2)) space)
    go false false d e =
        omega (arith, number, ap length (text_negated p (eqb-false p 0 d) (eqb-false (p % 2) 0 e)), length-append (decimal (p / 2)) space)

pub three : (x y z : Clause) → literals_text (x ++ (y ++ z)) ≡ literals_text x ++ (literals_text y ++ literals_text z)
three x y z = literals_append x (y ++ z) ∙ ap (λ (t : List ℕ). literals_text x ++ t) (literals_append y z)

pub three_short : (x y z : ℕ) → x < 65536 → y < 65536 → z < 65536 → length (literals_text (unplace x ++ (unplace y ++ unplace z))) ≤ 21
three_short x y z f g h =
    omega (
      arith,
      ap length (three (unplace x) (unplace y) (unplace z)),
      length-append (literals_text (unplace x)) (literals_text (unplace y) ++ literals_text (unplace z)),
      length-append (literals_text (unplace y)) (literals_text (unplace z)),
      literal_short x f,
      literal_short y g,
      literal_short z h,
    )
