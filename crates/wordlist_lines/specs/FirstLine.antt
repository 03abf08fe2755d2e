-- The first line of a text.
use Rattle.std.specs.Prelude.{ℕ, ◌+◌, ◌<◌, ◌≡◌, List, length, drop}
use Rattle.text_lines.specs.Places.{part, LineEnd}

-- the first line of a text, and what comes after the newline that closes it
pub record FirstLine (text line after : List ℕ) : Type 0 where
  pub end : ℕ
  pub ends : LineEnd text 0 end
  pub closed : end < length text
  pub is_line : line ≡ part 0 end text
  pub is_after : after ≡ drop (end + 1) text
