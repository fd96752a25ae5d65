-- The sub-formula that ends at a record stands there: its records are the last ones up to that record.
-- Assumes nothing.
use Prim.Native.Nat.{ℕ, ◌+◌, ◌-◌, ◌<◌}
use native.Mathlib.Omega.{arith}
use mathlib.Core.Path.{◌≡◌, refl}
use mathlib.Core.Bool.{Bool, true, false}
use mathlib.Core.List.{List, [], ◌∷◌, ◌++◌, append_assoc, append-nil}
use lib.ListN.{length, length-append}
use lib.Dec.{ltb}
use borrow.Author.Tests.{ltb-true, ltb-false}
use Rattle.base.specs.Pick.{pick}
use Rattle.rules.specs.Formula.{Formula, Formula.leaf, Formula.inverse, Formula.both, Formula.either, Entry, Entry.NOT, Entry.AND, Entry.OR, postfix, size}
use Rattle.solving.specs.Values.{ending, EndsAt}
use Rattle.solving.specs.Statements.{RecordsEnd}

-- there are as many records as size says
pub records_count : (f : Formula) → length (postfix f) ≡ size f
unfolding postfix size
records_count (leaf x) = refl
records_count (inverse f) = simp length-append (let e = records_count f in omega arith)
records_count (both f h) = simp length-append (let e = records_count f in let d = records_count h in omega arith)
records_count (either f h) = simp length-append (let e = records_count f in let d = records_count h in omega arith)

-- the whole formula ends at its last record
whole : (f : Formula) (n : ℕ) → size f ≡ n + 1 → EndsAt f f n
whole f n e = record { front = []; rest = []; there = rw append-nil; last = omega arith }

-- a formula's records with others before them and after
shifted : (f e x : Formula) (n m : ℕ) (us vs : List Entry) → postfix x ≡ us ++ (postfix f ++ vs) → length us + n ≡ m → EndsAt f e n → EndsAt x e m
shifted f e x n m us vs p q s = record {
  front = us ++ s.front;
  rest = s.rest ++ vs;
  there = rw (p, s.there) (simp append_assoc);
  last = simp length-append (let z = s.last in omega arith);
}

-- each record of f has the sub-formula that ends there
abbrev Ends : Formula → Type 0
Ends f = (n : ℕ) → n < size f → EndsAt f (ending f n) n

one_operand : (f x : Formula) (o : Entry) → postfix x ≡ postfix f ++ (o ∷ []) → size x ≡ size f + 1 → Ends f
    → (n : ℕ) → n < size f + 1 → EndsAt x (pick (ltb n (size f)) (ending f n) x) n
one_operand f x o p q ends n l = go (ltb n (size f)) refl
  where
    go : (b : Bool) → ltb n (size f) ≡ b → EndsAt x (pick b (ending f n) x) n
    go true e = shifted f (ending f n) x n n [] (o ∷ []) p (omega arith) (ends n (ltb-true n (size f) e))
    go false e = let z = ltb-false n (size f) e in whole x n (omega arith)

two_operands : (f h x : Formula) (o : Entry) → postfix x ≡ postfix f ++ (postfix h ++ (o ∷ [])) → size x ≡ size f + size h + 1 → Ends f → Ends h
    → (n : ℕ) → n < size f + size h + 1 → EndsAt x (pick (ltb n (size f)) (ending f n) (pick (ltb (n - size f) (size h)) (ending h (n - size f)) x)) n
two_operands f h x o p q ends_f ends_h n l = go (ltb n (size f)) (ltb (n - size f) (size h)) refl refl
  where
    go : (b c : Bool) → ltb n (size f) ≡ b → ltb (n - size f) (size h) ≡ c → EndsAt x (pick b (ending f n) (pick c (ending h (n - size f)) x)) n
    go true c e d = shifted f (ending f n) x n n [] (postfix h ++ (o ∷ [])) p (omega arith) (ends_f n (ltb-true n (size f) e))
    go false true e d =
        let z = ltb-false n (size f) e in
        let y = records_count f in
        shifted h (ending h (n - size f)) x (n - size f) n (postfix f) (o ∷ []) p (omega arith) (ends_h (n - size f) (ltb-true (n - size f) (size h) d))
    go false false e d =
        let z = ltb-false n (size f) e in
        let y = ltb-false (n - size f) (size h) d in
        whole x n (omega arith)

pub records_end : RecordsEnd
unfolding ending size postfix
records_end (leaf x) n l = whole (leaf x) n (omega arith)
records_end (inverse f) n l = one_operand f (inverse f) NOT refl refl (records_end f) n l
records_end (both f h) n l = two_operands f h (both f h) AND refl refl (records_end f) (records_end h) n l
records_end (either f h) n l = two_operands f h (either f h) OR refl refl (records_end f) (records_end h) n l
