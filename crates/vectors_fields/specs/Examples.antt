-- Fields of lines, and numbers in fields, computed.
use Rattle.std.specs.Prelude.{◌≡◌, refl, [], ◌∷◌, true, false}
use Rattle.text.specs.Bytes.{bytes}
use Rattle.text_lines.specs.Lines.{onto, pieces}
use Rattle.vectors_fields.specs.Fields.{field_of, value, numbers_of, size_of, labels_of}

second : field_of (bytes "C\t95\t95 0\t4") 2 ≡ bytes "95 0"
unfolding pieces onto
second = refl

empty : field_of (bytes "C\t2\t\t0") 2 ≡ []
unfolding pieces onto
empty = refl

missing : field_of (bytes "C\t2") 2 ≡ []
unfolding pieces onto
missing = refl

decimal : numbers_of false (bytes "95 0 1000001") ≡ 95 ∷ (0 ∷ (1000001 ∷ []))
unfolding numbers_of value pieces onto
decimal = refl

barred : numbers_of false (bytes "7 - 0 7-") ≡ 7 ∷ (4294967295 ∷ (0 ∷ (4294967295 ∷ [])))
unfolding numbers_of value pieces onto
barred = refl

hexadecimal : numbers_of true (bytes "10010001 20000FfA") ≡ 268500993 ∷ (536875002 ∷ [])
unfolding numbers_of value pieces onto
hexadecimal = refl

none : numbers_of false [] ≡ []
unfolding numbers_of
none = refl

one : size_of (bytes "65281") ≡ 65281
unfolding numbers_of value pieces onto
one = refl

largest : size_of (bytes "-") ≡ 18446744073709551615
largest = refl

labels : labels_of (bytes "3 257") ≡ 3 ∷ (1 ∷ [])
unfolding numbers_of value pieces onto
labels = refl
