-- The part of a text from one place up to another, and where a line ends.
use Rattle.std.specs.Prelude.{◌≡◌, List, ℕ, ◌-◌, ◌<◌, ◌≤◌, length, get_or, take, drop}
use Rattle.text_lines.specs.Lines.{Free}

abbrev pub part : ℕ → ℕ → List ℕ → List ℕ
part at i text = take (i - at) (drop at text)

-- the line that begins at a place ends at e: at its newline, or at the end of the text
pub record LineEnd (text : List ℕ) (at e : ℕ) : Type 0 where
  pub from : at ≤ e
  pub within : e ≤ length text
  pub line : Free 10 (part at e text)
  pub newline : e < length text → get_or text e 0 ≡ 10
