-- The digits at a place of a sheet.
use Rattle.std.specs.Prelude.{◌≡◌, List, Bool, true, false, ◌&&◌, ℕ, ◌+◌, ◌-◌, ◌^◌, ◌<◌, ◌≤◌, length, get_or, eqb, leb}
use Prim.Native.Char.{code}
use Rattle.text.specs.Digits.{digits, value, digit}
use Rattle.text_lines.specs.Places.{part}

-- n digits, the first of them b, begin with an extra zero
abbrev pub padded : ℕ → ℕ → Bool
padded n b = leb 2 n && eqb b (code "0")

-- At a loop's i: the bytes from `at` up to i are digits with the value v.
pub record Begun (input : List ℕ) (at i v : ℕ) : Type 0 where
  pub from : at ≤ i
  pub within : i ≤ length input
  pub few : i ≤ at + 7
  pub are : digits (part at i input) ≡ true
  pub makes : value 0 (part at i input) ≡ v
  pub small : v < 10 ^ (i - at)

-- all digits from `at` on, or the first seven of them
pub record Digits (input : List ℕ) (at e v : ℕ) : Type 0 where
  pub begun : Begun input at e v
  pub stops : e < length input → e < at + 7 → digit (get_or input e 0) ≡ false
