-- A number of letters, counted up to 128.
use Rattle.std.specs.Prelude.{ℕ, min}

-- up to 128
abbrev pub few : ℕ → ℕ
few n = min n 128
