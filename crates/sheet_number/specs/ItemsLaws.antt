-- Laws of items: one has a byte, and the byte after it is in the input.
use Rattle.std.specs.Prelude.{◌≡◌, List, [], true, ℕ, ◌<◌, ◌≤◌, length, get_or}
use Rattle.std.proofs.Common.{ap, ◌∙◌, ⊎_elim, arith}
use Rattle.std.proofs.Math.Option.{Option, none}
use Rattle.std.proofs.Math.ListN.{get_or-eq_default}
use Rattle.lists.proofs.OrderLaws.{lt_or_le}
use Rattle.text_lines.proofs.PlacesLaws.{part_none}
use Rattle.sheet_number.specs.Items.{separator, ItemAt}

pub item_begins : (of : List ℕ → Option ℕ) → of [] ≡ none → (input : List ℕ) (at e v : ℕ) → ItemAt of input at e v → at < e
item_begins of n input at e v c = ⊎_elim (λ l. l) (λ l. absurd (empty l)) (lt_or_le at e)
  where
    empty : e ≤ at → ⊥
    empty l =
        let p = ap of (part_none input at e l) ∙ n in
        let s = c.is in
        let z : ◌≡◌ {A = ℕ} 0 1 = cc in
        omega arith

-- past the end there is no separator
pub separator_within : (input : List ℕ) (i : ℕ) → separator (get_or input i 0) ≡ true → i < length input
separator_within input i s = ⊎_elim (λ l. l) (λ l. absurd (past (get_or-eq_default input 0 l))) (lt_or_le i (length input))
  where
    past : get_or input i 0 ≡ 0 → ⊥
    past e = let q : separator 0 ≡ true = rw e at s in let z : ◌≡◌ {A = ℕ} 0 1 = cc in omega arith
