-- Numbers in decimal at the edges, computed.
use Rattle.std.specs.Prelude.{◌≡◌, refl}
use Rattle.text.specs.Bytes.{bytes}
use Rattle.sheet_decimal.specs.Numerals.{digits, decimal}

nought : decimal 0 ≡ bytes "0"
unfolding decimal digits
nought = refl

hundred : decimal 100 ≡ bytes "100"
unfolding decimal digits
hundred = refl

-- the price of the dearest path
dearest : decimal 255000000 ≡ bytes "255000000"
unfolding decimal digits
dearest = refl
