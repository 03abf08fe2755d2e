-- The words on texts, at their limits: quoted bytes, the front of a text, the first sign, digits and their value, computed.
use Rattle.std.specs.Prelude.{ℕ, ◌≡◌, refl, true, false, List, [], ◌∷◌, map}
use Prim.Native.Char.{code}
use Rattle.std.proofs.Math.Option.{some, none}
use Rattle.text.specs.Bytes.{bytes}
use Rattle.text.specs.Text.{one_of, next, next_of, rest, split}
use Rattle.text.specs.Places.{until, place}
use Rattle.text.specs.Digits.{digit, digits, value}

-- three texts: none of a byte, and two
abbrev texts : List (List ℕ)
texts = [] ∷ bytes "ab" ∷ bytes "ba" ∷ []

record Examples : Type 0 where
  quoted : bytes " ~" ≡ 32 ∷ 126 ∷ []
  signs : map (one_of (bytes "*+")) (bytes "*,+") ≡ true ∷ false ∷ true ∷ []
  begins : map (next "a") texts ≡ false ∷ true ∷ false ∷ []
  begins_of : map (next_of (bytes "xb")) texts ≡ false ∷ false ∷ true ∷ []
  after_first : map rest texts ≡ [] ∷ bytes "b" ∷ bytes "a" ∷ []
  -- the first sign of several; the sign itself is in neither part
  parts : split "," (bytes "1,2,3") ≡ some (bytes "1", bytes "2,3")
  first_byte : split "," (bytes ",2") ≡ some ([], bytes "2")
  no_sign : split "," (bytes "12") ≡ none
  -- where the first sign is, or the length if there is none
  places : map (until (code ",")) (bytes "12,3," ∷ bytes "," ∷ bytes "12" ∷ [] ∷ []) ≡ 2 ∷ 0 ∷ 2 ∷ 0 ∷ []
  rests : map (place (bytes "abc")) (bytes "abc" ∷ bytes "c" ∷ [] ∷ []) ≡ 0 ∷ 2 ∷ 3 ∷ []
  -- the bytes just outside 0 to 9 are no digits
  are_digits : map digit (bytes "/09:") ≡ false ∷ true ∷ true ∷ false ∷ []
  all_digits : map digits ([] ∷ bytes "07" ∷ bytes "0x" ∷ []) ≡ true ∷ true ∷ false ∷ []
  decimal : map (value 0) ([] ∷ bytes "0" ∷ bytes "007" ∷ bytes "255" ∷ []) ≡ 0 ∷ 0 ∷ 7 ∷ 255 ∷ []
  goes_on : value 12 (bytes "34") ≡ 1234

examples : Examples
unfolding split until
examples = record {
  quoted = refl;
  signs = refl;
  begins = refl;
  begins_of = refl;
  after_first = refl;
  parts = refl;
  first_byte = refl;
  no_sign = refl;
  places = refl;
  rests = refl;
  are_digits = refl;
  all_digits = refl;
  decimal = refl;
  goes_on = refl;
}
