-- What a line of the vectors says: its fields, with tabs between them, and the numbers in a field.
use Rattle.std.specs.Prelude.{◌≡◌, List, [], ◌∷◌, map, Bool, false, cond, ◌&&◌, ℕ, ◌+◌, ◌*◌, ◌%◌, ◌≤◌, length, get_or, take, eqb, ltb}
use Prim.Native.Char.{code}
use Rattle.matrix.specs.Matrix.{BARRED}
use Rattle.text_lines.specs.Lines.{pieces}

-- field k of a line; empty where the line has fewer fields
abbrev pub field_of : List ℕ → ℕ → List ℕ
field_of line k = get_or (pieces (code "\t") line) k []

-- the digit that a byte is, in decimal or in hexadecimal
abbrev pub digit : Bool → ℕ → ℕ
digit hexadecimal b = cond (hexadecimal && ltb 64 b) ((b % 16 + 9) % 16) (b % 16)

-- the number with one more digit; only the low 28 bits of the number before it count, so the cost of a barred label is written `-`
abbrev pub more : Bool → ℕ → ℕ → ℕ
more hexadecimal v b = cond (eqb b (code "-")) BARRED (cond hexadecimal 16 10 * (v % 268435456) + digit hexadecimal b)

-- the number that digits give, after digits with the value v
unfoldable pub value : Bool → ℕ → List ℕ → ℕ
value hexadecimal v [] = v
value hexadecimal v (b ∷ s) = value hexadecimal (more hexadecimal v b) s

-- the numbers of a field, with spaces between them; an empty field has none
unfoldable pub numbers_of : Bool → List ℕ → List ℕ
numbers_of hexadecimal [] = []
numbers_of hexadecimal (b ∷ s) = map (value hexadecimal 0) (pieces (code " ") (b ∷ s))

-- the first number of a field, 0 if there is none; `-` means the largest size
abbrev pub size_of : List ℕ → ℕ
size_of field = cond (eqb (get_or field 0 0) (code "-")) 18446744073709551615 (get_or (numbers_of false field) 0 0)

-- a number as a byte
abbrev pub low : ℕ → ℕ
low x = x % 256

-- the first 256 numbers of a field, as bytes
abbrev pub labels_of : List ℕ → List ℕ
labels_of field = map low (take 256 (numbers_of false field))

-- the list has n first elements, stated in two ways, so that a proof of `&list[..n]` finds both
abbrev pub Counts : ℕ → List ℕ → Type 0
Counts n l = (n ≤ length l) × (n ≡ length (take n l))

-- the number v, if the byte ends it
abbrev pub ended : ℕ → ℕ → List ℕ
ended b v = cond (eqb b 32) (v ∷ []) []

-- the number after the byte
abbrev pub onward : Bool → ℕ → ℕ → ℕ
onward h v b = cond (eqb b 32) 0 (more h v b)
