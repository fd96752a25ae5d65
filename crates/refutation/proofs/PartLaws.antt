-- Parts of a list of places, and what a change elsewhere leaves of them.
-- Assumes nothing.
use Prim.Native.Nat.{ℕ, zero, suc, ◌+◌, ◌-◌, ◌≤◌, ◌<◌}
use mathlib.Core.Path.{◌≡◌, refl, sym, ap, ◌∙◌}
use mathlib.Core.Bool.{Bool, ◌||◌}
use mathlib.Core.List.{List, [], ◌∷◌, ◌++◌}
use native.Mathlib.Numerals.{add-one}
use native.Mathlib.Omega.{arith}
use lib.ListN.{length, get_or, take, drop, set, length-drop, drop_of_length-le}
use lib.Seq.{drop-cons, get_or-take, get_or-drop, length-take-le, take-take, drop-drop, take-suc-set, drop-set-add, take-set-le, drop-set-lt}
use lib.Dec.{eqb}
use Rattle.std.specs.List.{list_any}
use Rattle.rules.specs.Record.{one_of}
use Rattle.refutation.specs.Memory.{part, Outside}

module _ (w : List ℕ) (s k : ℕ) (h : s + k ≤ length w) where
  pub part_length : length (part w s k) ≡ k
  part_length = let e : k ≤ length (drop s w) = rw length-drop (omega arith) in length-take-le k (drop s w) e

  -- the element at i, and what is left after it
  pub left : (i : ℕ) → i < k → drop i (part w s k) ≡ get_or w (s + i) 0 ∷ drop (i + 1) (part w s k)
  left i j =
      let e : i < length (part w s k) = rw part_length j in
      rw add-one
      (drop-cons (part w s k) i 0 e
      ∙ ap (λ (y : ℕ). y ∷ drop (suc i) (part w s k)) (get_or-take k (drop s w) i 0 j ∙ get_or-drop s w i 0))

  pub none_left : (i : ℕ) → k ≤ i → drop i (part w s k) ≡ []
  none_left i j = let e : length (part w s k) ≤ i = rw part_length j in drop_of_length-le (part w s k) e

-- a range of places is a part
pub ranged : (w : List ℕ) (s k : ℕ) → take (s + k - s) (drop s w) ≡ part w s k
ranged w s k = ap (λ (y : ℕ). take y (drop s w)) (omega arith)

-- take and drop agree with a part that lies before a
pub take_drop : (s k a : ℕ) (w : List ℕ) → s + k ≤ a → take k (drop s (take a w)) ≡ take k (drop s w)
take_drop zero k a w h = take-take k a w (omega arith)
take_drop (suc s) k zero w h = absurd (omega arith)
take_drop (suc s) k (suc a) [] h = refl
take_drop (suc s) k (suc a) (x ∷ w) h = take_drop s k a w (omega arith)

pub part_front : (w w' : List ℕ) (a s k : ℕ) → take a w' ≡ take a w → s + k ≤ a → part w' s k ≡ part w s k
part_front w w' a s k e h =
    sym (take_drop s k a w' h) ∙ ap (λ (x : List ℕ). take k (drop s x)) e ∙ take_drop s k a w h

pub get_d_front : (w w' : List ℕ) (a i : ℕ) → take a w' ≡ take a w → i < a → get_or w' i 0 ≡ get_or w i 0
get_d_front w w' a i e h =
    sym (get_or-take a w' i 0 h) ∙ ap (λ (x : List ℕ). get_or x i 0) e ∙ get_or-take a w i 0 h

pub front_less : (w w' : List ℕ) (a b : ℕ) → take b w' ≡ take b w → a ≤ b → take a w' ≡ take a w
front_less w w' a b e h = sym (take-take a b w' h) ∙ ap (λ (x : List ℕ). take a x) e ∙ take-take a b w h

pub rest_more : (w w' : List ℕ) (a b : ℕ) → drop a w' ≡ drop a w → a ≤ b → drop b w' ≡ drop b w
rest_more w w' a b e h =
    let k : a + (b - a) ≡ b = omega arith in
    let f : drop (a + (b - a)) w' ≡ drop (a + (b - a)) w
    = sym (drop-drop (b - a) a w') ∙ ap (λ (x : List ℕ). drop (b - a) x) e ∙ drop-drop (b - a) a w in
    rw k at f

pub outside_same : (a b : ℕ) (w : List ℕ) → Outside a b w w
outside_same a b w = record { front = refl; rest = refl }

pub outside_then : (a b : ℕ) (w w' w'' : List ℕ) → Outside a b w w' → Outside a b w' w'' → Outside a b w w''
outside_then a b w w' w'' f g = record { front = g.front ∙ f.front; rest = g.rest ∙ f.rest }

pub outside_wide : (a b a' b' : ℕ) (w w' : List ℕ) → Outside a b w w' → a' ≤ a → b ≤ b' → Outside a' b' w w'
outside_wide a b a' b' w w' f h k = record { front = front_less w w' a' a f.front h; rest = rest_more w w' b b' f.rest k }

-- a store at place a + k puts one element behind the part of k from a on
pub part_more : (w : List ℕ) (a k x : ℕ) → a + k < length w → part (set w (a + k) x) a (k + 1) ≡ part w a k ++ (x ∷ [])
part_more w a k x h =
    let e : k < length (drop a w) = rw length-drop (omega arith) in
    rw (drop-set-add a w k x, add-one) (take-suc-set (drop a w) k x e)

pub outside_set : (a b : ℕ) (w : List ℕ) (i x : ℕ) → a ≤ i → i < b → Outside a b w (set w i x)
outside_set a b w i x h k = record { front = take-set-le a w i x h; rest = drop-set-lt b w i x k }

-- a search by the slice's method, as the rules' word
pub any_one : (xs : List ℕ) (x : ℕ) → list_any (eqb x) xs ≡ one_of xs x
any_one [] x = refl
any_one (y ∷ ys) x = ap (λ (b : Bool). eqb x y || b) (any_one ys x)
