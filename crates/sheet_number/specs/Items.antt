-- An item of a column line at a place of a sheet, with the separator after it: a number, or a cost.
use Rattle.std.specs.Prelude.{◌≡◌, List, Bool, true, ◌&&◌, ◌||◌, ℕ, ◌+◌, ◌<◌, length, get_or, eqb, Option as Answer, Some, None}
use Rattle.std.proofs.Math.Option.{Option, some}
use Prim.Native.Char.{code}
use Rattle.sheet_format.specs.Sheet.{numeral_of, cost_of}
use Rattle.text_lines.specs.Places.{part}
use Rattle.sheet_number.specs.declared.Item.{Item}

-- what may follow an item
abbrev pub separator : ℕ → Bool
separator b = eqb b (code " ") || eqb b 10

-- the text from `at` up to e means v, by `of`, and the byte at e is a separator
pub record ItemAt (of : List ℕ → Option ℕ) (input : List ℕ) (at e v : ℕ) : Type 0 where
  pub is : of (part at e input) ≡ some v
  pub within : e < length input
  pub ends : separator (get_or input e 0) ≡ true

-- what the item at the place means, and where its separator is; or there is no item
abbrev pub ReadItem : (List ℕ → Option ℕ) → List ℕ → ℕ → Answer Item → Type 0
ReadItem of input at (Some i) = ItemAt of input at i.end i.value
ReadItem of input at None = (e v : ℕ) → ItemAt of input at e v → ⊥

abbrev pub NumberAt : List ℕ → ℕ → ℕ → ℕ → Type 0
NumberAt = ItemAt numeral_of

abbrev pub ReadNumber : List ℕ → ℕ → Answer Item → Type 0
ReadNumber = ReadItem numeral_of

abbrev pub CostAt : List ℕ → ℕ → ℕ → ℕ → Type 0
CostAt = ItemAt cost_of

abbrev pub ReadCost : List ℕ → ℕ → Answer Item → Type 0
ReadCost = ReadItem cost_of

-- a lone `-` is at the place, with a separator after it
abbrev pub bar_at : List ℕ → ℕ → Bool
bar_at input at = eqb (get_or input at 0) (code "-") && separator (get_or input (at + 1) 0)
