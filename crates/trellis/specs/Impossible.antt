-- TOP is the value that means 'impossible': a price that no path of usable costs reaches, since 255 costs of 1,000,000 stay below it
-- (`path_below`, ImpossibleLaws).
use Rattle.std.specs.Prelude.{ℕ, ◌+◌, min}

abbrev pub TOP : ℕ
TOP = 1000000000

-- The sum of a cost and the price of what comes after it, at most TOP. With the cost of a barred label it is TOP, whatever comes after
-- (`plus_barred`): such a cost is part of no price that could be the least, and of no reading's price (`rival_below`).
abbrev pub plus : ℕ → ℕ → ℕ
plus c v = min TOP (c + v)
