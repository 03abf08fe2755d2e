-- A repetition is parsed from its own bytes alone, if no `?` follows them, and its counts are in range, or it is refused at its first byte.
-- The modifier changes nothing.
use Rattle.std.specs.Prelude.{◌≡◌, refl, List, [], ◌∷◌, ◌++◌, Bool, true, false, ◌&&◌, ℕ, ◌≤◌, length, eqb, leb}
use Rattle.std.proofs.Common.{sym, ap, ◌∙◌, append_assoc, append-nil, arith, leb-true}
use Rattle.std.proofs.Math.Option.{Option, some, none}
use Prim.Native.Char.{code}
use Rattle.lists.proofs.OrderLaws.{and_left, and_right}
use Rattle.refusal.specs.declared.Refusal.TheVariants as refusal
use Rattle.regex_tree.specs.Tree.{Count, between, onward}
use Rattle.regex_tree.specs.Parsing.{Parsing, found, then, enclosed}
use Rattle.text.specs.Text.{next, rest, split}
use Rattle.lists.specs.Cases.{first_of, provided}
use Rattle.regex_tree.specs.Repetition.{number, from_on, from_to, comma, counts, sign, repetition}
use Rattle.text.specs.Digits.{digits, value}
use Rattle.regex_tree.proofs.SaysLaws.{Says, of_found, branch_says, first_says, then_says, says_map}
use Rattle.regex_tree.proofs.OwnLaws.{next_is, Here, own_one, own_more, split_ends, enclosed_own, OwnAs}

-- "each is at most 255, n ≤ m, and m (or the n of `{n}`) is at least 1"
abbrev pub InRange : Count → Type 0
InRange (between n m) = (n ≤ m) × (1 ≤ m) × (m ≤ 255)
InRange (onward n) = n ≤ 255

-- P holds of what is there, if anything is
abbrev If : {X : Type 0} → (X → Type 0) → Option X → Type 0
If P none = Unit {0}
If P (some a) = P a

if_provided : {X : Type 0} (P : X → Type 0) (t : Bool) (a : X) → (t ≡ true → P a) → If P (provided t (some a))
unfolding provided
if_provided P true a h = h refl
if_provided P false a h = tt

abbrev Small : ℕ → Type 0
Small n = n ≤ 255

number_small : (s : List ℕ) → If Small (number s)
unfolding number
number_small s =
    if_provided Small _ (value 0 s)
    (λ e. leb-true (value 0 s) 255 (and_right (digits s && leb 1 (length s) && leb (length s) 3) (leb (value 0 s) 255) e))

from_to_in_range : (x y : Option ℕ) → If Small y → If InRange (from_to x y)
unfolding from_to
from_to_in_range none y h = tt
from_to_in_range (some n) none h = tt
from_to_in_range (some n) (some m) h =
    if_provided InRange (leb n m && leb 1 m) (between n m)
    (λ e. (leb-true n m (and_left (leb n m) (leb 1 m) e), leb-true 1 m (and_right (leb n m) (leb 1 m) e), h))

from_on_in_range : (x : Option ℕ) → If Small x → If InRange (from_on x)
unfolding from_on
from_on_in_range none h = tt
from_on_in_range (some n) h = h

comma_in_range : (n m : List ℕ) → If InRange (comma n m)
unfolding comma
comma_in_range n [] = from_on_in_range (number n) (number_small n)
comma_in_range n (b ∷ m) = from_to_in_range (number n) (number (b ∷ m)) (number_small (b ∷ m))

counts_in_range : (i : List ℕ) → If InRange (counts i)
unfolding counts
counts_in_range i = by (split "," i)
  where
    by : (y : Option (List ℕ × List ℕ)) → If InRange (elim y [ none ↦ from_to (number i) (number i) | some x ↦ comma x.0 x.1 ])
    by none = from_to_in_range (number i) (number i) (number_small i)
    by (some x) = comma_in_range x.0 x.1

-- a count in range, parsed from its own bytes
abbrev ACount : {W : Type 0} → (W → List ℕ → Parsing Count) → List ℕ → Count → List ℕ → Type 0
ACount f s c r = OwnAs f s c r × InRange c

abbrev braces : List ℕ → List ℕ → Parsing Count
braces w s = enclosed refusal.Count w counts (split "}" s)

braces_says : (w s : List ℕ) → Says (ACount braces s) (Here w) (braces w s)
braces_says w s =
    says_map _ (ACount braces s) (Here w) (braces w s) (enclosed_own refusal.Count w counts (split "}") s (split_ends "}" s))
    (λ c r h. (h.0, rw h.2 at (counts_in_range h.1)))

sign_says : (s : List ℕ) → Says (ACount {W = Unit {0}} (λ _. sign) s) (Here s) (sign s)
unfolding sign first_of
sign_says [] = refl
sign_says (b ∷ s) =
    let w = b ∷ s in
    let or_else = first_says (ACount {W = Unit {0}} (λ _. sign) w) (Here w) in
    or_else (eqb b (code "*")) _ _ _
    (λ e₁. (own_one (λ _. sign) _ b s (λ _ t. rw (e₁, sign)), omega arith))
    (λ e₁. or_else (eqb b (code "+")) _ _ _
    (λ e₂. (own_one (λ _. sign) _ b s (λ _ t. rw (e₁, sign) (rw e₂)), omega arith))
    (λ e₂. or_else (eqb b (code "?")) _ _ _
    (λ e₃. (own_one (λ _. sign) _ b s (λ _ t. rw (e₁, sign) (rw (e₂, e₃))), (omega arith, omega arith, omega arith)))
    (λ e₃. or_else (eqb b (code "{")) _ _ _
    (λ e₄. says_map (ACount braces s) _ (Here w) (braces w s) (braces_says w s)
    (λ c r h. (own_more (λ _. sign) (found c) braces b s r (λ _ t. (b ∷ t, rw (e₁, sign) (rw (e₂, e₃, e₄)))) h.0, h.1)))
    (λ e₄. refl))))

-- a count in range, parsed from its own bytes if no `?` follows them
pub record Repeating (s : List ℕ) (c : Count) (r : List ℕ) : Type 0 where
  pub own : List ℕ
  pub splits : s ≡ own ++ r
  pub alone : (v : List ℕ) → next "?" v ≡ false → repetition (own ++ v) ≡ found c v
  pub in_range : InRange c

-- a sign gives the same count with the modifier after it and without
repetition_plain : (s : List ℕ) (c : Count) (v : List ℕ) → sign s ≡ found c v → next "?" v ≡ false → repetition s ≡ found c v
unfolding repetition then
repetition_plain s c v e k = rw (e, repetition) (rw (k, then))

repetition_modified : (s : List ℕ) (c : Count) (v : List ℕ) → sign s ≡ found c (code "?" ∷ v) → repetition s ≡ found c v
unfolding repetition then
repetition_modified s c v e = rw (e, repetition)

pub repetition_says : (s : List ℕ) → Says (Repeating s) (Here s) (repetition s)
unfolding repetition
repetition_says s =
    then_says (ACount {W = Unit {0}} (λ _. sign) s) (Repeating s) (Here s) (Here s) (sign s) _ (sign_says s) (λ n r h. h)
    (λ c r h. branch_says (Repeating s) (Here s) (next "?" r) _ _ (with_modifier c r h) (without c r h))
  where
    with_modifier : (c : Count) (r : List ℕ) → ACount {W = Unit {0}} (λ _. sign) s c r → next "?" r ≡ true → Repeating s c (rest r)
    with_modifier c r h e =
        let u = h.0.own in
        record {
          own = u ++ (code "?" ∷ []);
          splits = h.0.splits ∙ rw append_assoc (ap (λ (l : List ℕ). u ++ l) (next_is "?" r e));
          alone = λ v k. repetition_modified (u ++ (code "?" ∷ []) ++ v) c v (rw append_assoc (h.0.alone tt (code "?" ∷ v)));
          in_range = h.1;
        }

    without : (c : Count) (r : List ℕ) → ACount {W = Unit {0}} (λ _. sign) s c r → next "?" r ≡ false → Repeating s c r
    without c r h e =
        let u = h.0.own in
        record { own = u; splits = h.0.splits; alone = λ v k. repetition_plain (u ++ v) c v (h.0.alone tt v) k; in_range = h.1 }

-- a sign by itself, without the modifier and with it
sign_alone : (v : List ℕ) (c : Count) → sign v ≡ found c [] → (w : List ℕ) → sign (v ++ w) ≡ found c w
sign_alone v c e w =
    let a = of_found (ACount {W = Unit {0}} (λ _. sign) v) (Here v) (sign v) c [] (sign_says v) e in
    let q : a.0.own ≡ v = sym (append-nil a.0.own) ∙ sym a.0.splits in
    rw q at (a.0.alone tt w)

pub repetition_without : (v : List ℕ) (c : Count) → sign v ≡ found c [] → repetition v ≡ found c []
repetition_without v c e = repetition_plain v c [] e refl

pub repetition_with : (v : List ℕ) (c : Count) → sign v ≡ found c [] → repetition (v ++ (code "?" ∷ [])) ≡ found c []
repetition_with v c e = repetition_modified (v ++ (code "?" ∷ [])) c [] (sign_alone v c e (code "?" ∷ []))
