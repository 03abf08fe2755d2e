-- Labels and their characters; refusals 1 to 3 at their limits, and their order, computed.
use Rattle.std.specs.Prelude.{ℕ, ◌≡◌, refl, true, false, List, [], ◌∷◌, map, replicate}
use Rattle.lists.specs.Lists.{keep, numbers}
use Rattle.refusal.specs.declared.Refusal.TheVariants.{Alphabet, TextLength, TextByte}
use Rattle.refusal.specs.declared.Refusal.{Refusal}
use Rattle.std.specs.Prelude.{Result, Ok, Err}
use Rattle.refusal.specs.Verdict.{first_refusal}
use Rattle.alphabet.specs.Labels.{characters, labels_of_character}
use Rattle.alphabet.specs.Alphabet.{is_alphabet, text_checks}

-- a and b
abbrev ab : List ℕ
ab = 97 ∷ 98 ∷ []

-- what the checks say of an alphabet and a text
abbrev said : List ℕ → List ℕ → Result (Unit {0}) Refusal
said A s = first_refusal (text_checks A s)

record Examples : Type 0 where
  -- over the alphabet `xyz` label 1 is x; over `yxy` labels 1 and 3 are y
  spelt : characters (120 ∷ 121 ∷ 122 ∷ []) (1 ∷ 3 ∷ 3 ∷ 2 ∷ []) ≡ 120 ∷ 122 ∷ 122 ∷ 121 ∷ []
  two_labels : characters (121 ∷ 120 ∷ 121 ∷ []) (3 ∷ 2 ∷ 1 ∷ []) ≡ 121 ∷ 120 ∷ 121 ∷ []
  -- over `yxy`: the labels of y, x and z
  labels : map (labels_of_character (121 ∷ 120 ∷ 121 ∷ [])) (121 ∷ 120 ∷ 122 ∷ []) ≡ (1 ∷ 3 ∷ []) ∷ (2 ∷ []) ∷ [] ∷ []
  -- no byte, one, all 95, one more (a byte too high, or one twice)
  sizes : map is_alphabet ([] ∷ (97 ∷ []) ∷ numbers 32 95 ∷ numbers 32 96 ∷ (32 ∷ numbers 32 95) ∷ []) ≡ false ∷ true ∷ true ∷ false ∷ false ∷ []
  -- a character twice, side by side or not; 95 and 96 times
  repeats :
      map is_alphabet ((97 ∷ 97 ∷ []) ∷ (97 ∷ 98 ∷ 97 ∷ []) ∷ (98 ∷ 97 ∷ 97 ∷ []) ∷ replicate 95 97 ∷ replicate 96 97 ∷ [])
      ≡ true ∷ true ∷ true ∷ true ∷ false ∷ []
  alphabet_bytes : map (λ b. is_alphabet (97 ∷ b ∷ [])) (31 ∷ 32 ∷ 126 ∷ 127 ∷ []) ≡ false ∷ true ∷ true ∷ false ∷ []
  text_sizes :
      map (λ n. said ab (replicate n 97)) (0 ∷ 1 ∷ 255 ∷ 256 ∷ []) ≡ Err TextLength ∷ Ok tt ∷ Ok tt ∷ Err TextLength ∷ []
  text_bytes :
      map (λ b. said ab (97 ∷ b ∷ [])) (31 ∷ 32 ∷ 126 ∷ 127 ∷ []) ≡ Err TextByte ∷ Ok tt ∷ Ok tt ∷ Err TextByte ∷ []
  -- two faults: refusal 1 before 2, 1 before 3, 2 before 3
  alphabet_and_length : said [] [] ≡ Err Alphabet
  alphabet_and_byte : said [] (9 ∷ []) ≡ Err Alphabet
  length_and_byte : said ab (replicate 256 9) ≡ Err TextLength

examples : Examples
unfolding first_refusal keep numbers
examples = record {
  spelt = refl;
  two_labels = refl;
  labels = refl;
  sizes = refl;
  repeats = refl;
  alphabet_bytes = refl;
  text_sizes = refl;
  text_bytes = refl;
  alphabet_and_length = refl;
  alphabet_and_byte = refl;
  length_and_byte = refl;
}
