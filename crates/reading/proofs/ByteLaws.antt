-- Numbers and their bytes, both ways, and a record's bytes one by one.
-- Assumes nothing.
use Prim.Native.Nat.{ℕ, zero, suc, ◌+◌, ◌*◌, ◌/◌, ◌%◌, ◌≤◌, ◌<◌}
use mathlib.Core.Path.{◌≡◌, refl, sym, ap, ◌∙◌}
use mathlib.Core.Bool.{Bool, true, false, ◌||◌}
use mathlib.Core.List.{List, [], ◌∷◌, ◌++◌, append-nil, append_assoc}
use native.Mathlib.Omega.{arith}
use lib.ListN.{length, get_or, take}
use lib.Dec.{ltb, eqb}
use borrow.Author.Tests.{eqb-true}
use Rattle.base.specs.Lists.{All, each}
use Rattle.base.proofs.Table.{table}
use Rattle.rules.specs.Record.{record_length, number, two_bytes, one_of}
use Rattle.rules.specs.WriteSheet.{Bytes, bit}
use Rattle.reading.proofs.FrontLaws.{Whole}
use Rattle.reading.proofs.WholeLaws.{record_at}

-- a number from its own two bytes
pub number_back : (n : ℕ) → n % 256 + 256 * (n / 256) ≡ n
number_back n = omega arith

-- the two bytes of a number made of bytes
pub low_byte : (a b : ℕ) → a < 256 → (a + 256 * b) % 256 ≡ a
low_byte a b h = omega arith

pub high_byte : (a b : ℕ) → a < 256 → (a + 256 * b) / 256 ≡ b
high_byte a b h = omega arith

pub bit_back : (b : Bool) → eqb (bit b) 1 ≡ b
bit_back true = refl
bit_back false = refl

pub bit_small : (b : Bool) → ltb (bit b) 2 ≡ true
bit_small true = refl
bit_small false = refl

pub bit_of_lem : (n : ℕ) → n < 2 → bit (eqb n 1) ≡ n
bit_of_lem zero h = refl
bit_of_lem (suc zero) h = refl
bit_of_lem (suc (suc n)) h = absurd (omega arith)

-- the first n bytes, one by one
pub taken : (n : ℕ) (bs : List ℕ) → n ≤ length bs → take n bs ≡ table (λ (i : ℕ). get_or bs i 0) n 0
taken zero bs h = refl
taken (suc n) [] h = absurd (omega arith)
taken (suc n) (b ∷ bs) h = ap (λ (r : List ℕ). b ∷ r) (taken n bs (omega arith) ∙ sym (shift (λ (i : ℕ). get_or (b ∷ bs) i 0) n 0))
  where
    shift : (f : ℕ → ℕ) (n i : ℕ) → table f n (suc i) ≡ table (λ (j : ℕ). f (suc j)) n i
    shift f zero i = refl
    shift f (suc n) i = ap (λ (r : List ℕ). f (suc i) ∷ r) (shift f n (suc i))

-- the bytes of the record at the front, which is n bytes long
pub record_bytes : (k n : ℕ) (bs : List ℕ) → Whole k bs → record_length k ≡ n → record_at bs ≡ table (λ (i : ℕ). get_or bs i 0) n 0
record_bytes k n bs w e =
    let i : n ≤ length bs = rw (← e) w.inside in
    rw (w.first, e) (taken n bs i)

-- and by the shapes that records have: no body, one number, three numbers, a number and a bit
module _ (k : ℕ) (bs : List ℕ) (w : Whole k bs) where
  pub bare_bytes : record_length k ≡ 1 → record_at bs ≡ k ∷ []
  bare_bytes e = rw (record_bytes k 1 bs w e, w.first)

  module _ (h : Bytes bs) where
    pub number_bytes : record_length k ≡ 3 → record_at bs ≡ k ∷ two_bytes (number bs 1)
    number_bytes e = rw (record_bytes k 3 bs w e, w.first, low_byte (get_or bs 1 0) (get_or bs 2 0) (h 1), high_byte (get_or bs 1 0) (get_or bs 2 0) (h 1))

    pub numbers_bytes : record_length k ≡ 7 → record_at bs ≡ k ∷ (two_bytes (number bs 1) ++ (two_bytes (number bs 3) ++ two_bytes (number bs 5)))
    numbers_bytes e =
        rw (
          record_bytes k 7 bs w e,
          w.first,
          low_byte (get_or bs 1 0) (get_or bs 2 0) (h 1),
          high_byte (get_or bs 1 0) (get_or bs 2 0) (h 1),
          low_byte (get_or bs 3 0) (get_or bs 4 0) (h 3),
          high_byte (get_or bs 3 0) (get_or bs 4 0) (h 3),
          low_byte (get_or bs 5 0) (get_or bs 6 0) (h 5),
          high_byte (get_or bs 5 0) (get_or bs 6 0) (h 5),
        )

    pub switch_bytes : record_length k ≡ 4 → get_or bs 3 0 < 2 → record_at bs ≡ k ∷ (two_bytes (number bs 1) ++ (bit (eqb (get_or bs 3 0) 1) ∷ []))
    switch_bytes e i =
        rw (
          record_bytes k 4 bs w e,
          w.first,
          low_byte (get_or bs 1 0) (get_or bs 2 0) (h 1),
          high_byte (get_or bs 1 0) (get_or bs 2 0) (h 1),
          bit_of_lem (get_or bs 3 0) i,
        )

-- what holds of each of a list holds of one of it
pub one_of_all : (P : ℕ → Type 0) (xs : List ℕ) (k : ℕ) → All P xs → one_of xs k ≡ true → P k
one_of_all P [] k a e = let z : ◌≡◌ {A = ℕ} 0 1 = cc in absurd (omega arith)
one_of_all P (x ∷ xs) k a e = go (eqb k x) refl e (one_of_all P xs k a.1)
  where
    go : (c : Bool) → eqb k x ≡ c → (c || one_of xs k) ≡ true → (one_of xs k ≡ true → P k) → P k
    go true f g ih = rw (eqb-true k x f) a.0
    go false f g ih = ih g

pub each_append : {A B : Type 0} (f : A → List B) (xs ys : List A) → each f (xs ++ ys) ≡ each f xs ++ each f ys
each_append f [] ys = refl
each_append f (x ∷ xs) ys = ap (λ r. f x ++ r) (each_append f xs ys) ∙ sym (append_assoc (f x) (each f xs) (each f ys))

pub each_snoc : {A B : Type 0} (f : A → List B) (xs : List A) (x : A) → each f (xs ++ (x ∷ [])) ≡ each f xs ++ f x
each_snoc f xs x = each_append f xs (x ∷ []) ∙ ap (λ r. each f xs ++ r) (append-nil (f x))

-- written bytes that grow by one element's
pub each_more : {A : Type 0} (f : A → List ℕ) (before ws r : List ℕ) (xs : List A) (x : A) → ws ≡ before ++ each f xs → r ≡ f x
    → ws ++ r ≡ before ++ each f (xs ++ (x ∷ []))
each_more f before ws r xs x e g = rw (e, g, each_snoc f xs x) (append_assoc before (each f xs) (f x))
