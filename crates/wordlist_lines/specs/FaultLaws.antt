-- Refusal 21 line by line: the first line is not closed, is empty, comes again, or the lines after it decide.
use Rattle.std.specs.Prelude.{ℕ, ◌+◌, ◌<◌, ◌≤◌, Bool, false, not, ◌||◌, length, drop}
use Rattle.std.proofs.Math.Path.{◌≡◌, refl, sym, ap}
use Rattle.std.proofs.Common.{◌∙◌, arith}
use Rattle.std.proofs.Math.Option.{Option, some, none}
use Rattle.std.proofs.Math.Bool.{true, or-true}
use mathlib.Core.List.{List, [], ◌∷◌}
use Rattle.lists.specs.Lists.{any, same_list}
use Rattle.lists.specs.Options.{is_some, listed}
use Rattle.lists.proofs.SameLaws.{same_list_self, same_list_length}
use Rattle.text_lines.specs.Lines.{both, lines_of}
use Rattle.text_lines.specs.Places.{part, LineEnd}
use Rattle.text_lines.proofs.PlacesLaws.{part_length, lines_at, line_unclosed, lines_past}
use Rattle.wordlist.specs.Words.{repeated, list_fault}
use Rattle.wordlist_lines.specs.Again.{Again}

-- a fault of the lines that were found
abbrev fault_of : Option (List (List ℕ)) → Bool
fault_of o = not (is_some o) || (any (same_list []) (listed o) || repeated (listed o))

fault_is : (s : List ℕ) → list_fault s ≡ fault_of (lines_of s)
unfolding list_fault
fault_is s = refl

-- a first line, and what the others are
module _ (l : List ℕ) (o : Option (List (List ℕ))) where
  first_empty : same_list [] l ≡ true → fault_of (both (some l) o) ≡ true
  unfolding both
  first_empty t = by o
    where
      by : (o : Option (List (List ℕ))) → fault_of (both (some l) o) ≡ true
      by none = refl
      by (some ls) = ap (λ b. (b || any (same_list []) ls) || repeated (l ∷ ls)) t

  module _ (r : Bool) (long : same_list [] l ≡ false) (again : (ls : List (List ℕ)) → o ≡ some ls → r ≡ any (same_list l) ls) where
    others : (ls : List (List ℕ)) → o ≡ some ls → fault_of (some (l ∷ ls)) ≡ (any (same_list []) ls || (r || repeated ls))
    unfolding repeated
    others ls e = rw (long, sym (again ls e))

    first_again : r ≡ true → fault_of (both (some l) o) ≡ true
    unfolding both
    first_again t = by o refl
      where
        by : (p : Option (List (List ℕ))) → o ≡ p → fault_of (both (some l) p) ≡ true
        by none e = refl
        by (some ls) e = others ls e ∙ ap (λ b. any (same_list []) ls || (b || repeated ls)) t ∙ or-true (any (same_list []) ls)

    first_passes : r ≡ false → fault_of (both (some l) o) ≡ fault_of o
    unfolding both
    first_passes t = by o refl
      where
        by : (p : Option (List (List ℕ))) → o ≡ p → fault_of (both (some l) p) ≡ fault_of p
        by none e = refl
        by (some ls) e = others ls e ∙ ap (λ b. any (same_list []) ls || (b || repeated ls)) t

-- the line at a place, which ends at e
module _ (s : List ℕ) (at e : ℕ) (end : LineEnd s at e) where
  pub fault_unclosed : at < length s → length s ≤ e → list_fault (drop at s) ≡ true
  fault_unclosed l h = fault_is (drop at s) ∙ ap fault_of (line_unclosed s at e end l h)

  closed : e < length s → list_fault (drop at s) ≡ fault_of (both (some (part at e s)) (lines_of (drop (e + 1) s)))
  closed l = fault_is (drop at s) ∙ ap fault_of (lines_at s at e end l)

  pub fault_empty : e < length s → e ≡ at → list_fault (drop at s) ≡ true
  fault_empty l q =
      let n = part_length s at e end.from end.within in
      closed l ∙ first_empty (part at e s) (lines_of (drop (e + 1) s)) (nothing (part at e s) (omega arith))
    where
      nothing : (l : List ℕ) → length l ≡ 0 → same_list [] l ≡ true
      nothing [] n = same_list_self []
      nothing (b ∷ l) n = absurd (omega arith)

  module _ (l : e < length s) (long : e ≡ at → ⊥) (r : Bool) (again : Again (part at e s) (drop (e + 1) s) r) where
    not_empty : same_list [] (part at e s) ≡ false
    not_empty =
        let n = part_length s at e end.from end.within in
        let f = end.from in
        same_list_length [] (part at e s) (λ q. long (omega arith))

    pub fault_again : r ≡ true → list_fault (drop at s) ≡ true
    fault_again t = closed l ∙ first_again (part at e s) (lines_of (drop (e + 1) s)) r not_empty again t

    pub fault_later : r ≡ false → list_fault (drop at s) ≡ list_fault (drop (e + 1) s)
    fault_later t = closed l ∙ first_passes (part at e s) (lines_of (drop (e + 1) s)) r not_empty again t ∙ sym (fault_is (drop (e + 1) s))

pub fault_none : (s : List ℕ) (at : ℕ) → length s ≤ at → list_fault (drop at s) ≡ false
unfolding repeated
fault_none s at l = fault_is (drop at s) ∙ ap fault_of (lines_past s at l)

-- Does a line come again?
module _ (line s : List ℕ) where
  pub again_none : (at : ℕ) → length s ≤ at → Again line (drop at s) false
  again_none at l ls q =
      let n : some [] ≡ some ls = sym (lines_past s at l) ∙ q in
      let e : [] ≡ ls = cc in
      ap (any (same_list line)) e

  module _ (at e : ℕ) (end : LineEnd s at e) where
    pub again_unclosed : (r : Bool) → at < length s → length s ≤ e → Again line (drop at s) r
    again_unclosed r l h ls q = let n = line_unclosed s at e end l h in let z : ◌≡◌ {A = ℕ} 0 1 = cc in absurd (omega arith)

    -- the lines at the place are this one and those after it
    split : (ls : List (List ℕ)) → e < length s → lines_of (drop at s) ≡ some ls → (ms : List (List ℕ)) × (lines_of (drop (e + 1) s) ≡ some ms) × (part at e s ∷ ms ≡ ls)
    unfolding both
    split ls l q = by (lines_of (drop (e + 1) s)) refl (sym (lines_at s at e end l) ∙ q)
      where
        by :
            (o : Option (List (List ℕ))) → lines_of (drop (e + 1) s) ≡ o → both (some (part at e s)) o ≡ some ls
            → (ms : List (List ℕ)) × (lines_of (drop (e + 1) s) ≡ some ms) × (part at e s ∷ ms ≡ ls)
        by none g k = let z : ◌≡◌ {A = ℕ} 0 1 = cc in absurd (omega arith)
        by (some ms) g k = (ms, g, cc)

    pub again_here : e < length s → same_list line (part at e s) ≡ true → Again line (drop at s) true
    again_here l t ls q = let m = split ls l q in sym (ap (λ b. b || any (same_list line) m.0) t) ∙ ap (any (same_list line)) m.2

    pub again_later : (r : Bool) → e < length s → same_list line (part at e s) ≡ false → Again line (drop (e + 1) s) r → Again line (drop at s) r
    again_later r l t later ls q =
        let m = split ls l q in
        later m.0 m.1 ∙ sym (ap (λ b. b || any (same_list line) m.0) t) ∙ ap (any (same_list line)) m.2
