-- Bytes put into a room one run after the other.
-- Assumes nothing.
use Prim.Native.Nat.{ℕ, ◌+◌, ◌≤◌}
use mathlib.Core.Path.{◌≡◌, sym, ap, ◌∙◌}
use mathlib.Core.List.{List, ◌++◌, append_assoc}
use native.Mathlib.Omega.{arith}
use lib.ListN.{length, take, drop, length-append}
use lib.Seq.{take_at, drop_at, drop-drop, length-take-le}
use Rattle.writing.specs.Room.{Put}

-- one run after the other is the two as one
pub put_then : {w w₁ w₂ : List ℕ} {at r q : ℕ} {a b : List ℕ} → at ≤ length w → Put w w₁ at a r → Put w₁ w₂ r b q → Put w w₂ at (a ++ b) q
put_then {w} {w₁} {w₂} {at} {r} {q} {a} {b} h p s = record { next = more; stands = stood }
  where
    front : length (take at w ++ a) ≡ r
    front = length-append (take at w) a ∙ ap (λ (k : ℕ). k + length a) (length-take-le at w h) ∙ sym p.next

    whole : w₁ ≡ take at w ++ a ++ drop r w
    whole = p.stands ∙ ap (λ (k : ℕ). take at w ++ a ++ drop k w) (sym p.next)

    more : q ≡ at + length (a ++ b)
    more = rw (length-append a b) (omega (arith, p.next, s.next))

    head : take r w₁ ≡ take at w ++ a
    head = ap (take r) whole ∙ take_at (take at w ++ a) (drop r w) r front

    tail : drop r w₁ ≡ drop r w
    tail = ap (drop r) whole ∙ drop_at (take at w ++ a) (drop r w) r front

    rest : drop (r + length b) w₁ ≡ drop (at + length (a ++ b)) w
    rest =
        sym (drop-drop (length b) r w₁)
        ∙ ap (drop (length b)) tail
        ∙ drop-drop (length b) r w
        ∙ ap (λ (k : ℕ). drop k w) (sym s.next ∙ more)

    stood : w₂ ≡ take at w ++ (a ++ b) ++ drop (at + length (a ++ b)) w
    stood = s.stands ∙ rw (head, rest, append_assoc (take at w) a b)
