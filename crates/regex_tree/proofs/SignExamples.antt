-- Every byte that a text may have, by itself and after `\`: which are ordinary, which are signs, and which become ordinary
-- (document 01, "Expression text").
use Rattle.std.specs.Prelude.{◌≡◌, refl, not, ℕ}
use mathlib.Core.List.{List, [], ◌∷◌, ◌++◌, map, flat_map}
use Prim.Native.Char.{code}
use Rattle.lists.specs.Lists.{keep, numbers}
use Rattle.refusal.specs.declared.Refusal.TheVariants.{MisplacedSign, Bracket}
use Rattle.text.specs.Bytes.{bytes}
use Rattle.regex_tree.specs.Tree.{range, only, except, Tree, set}
use Rattle.regex_tree.specs.Letters.{labels_of}
use Rattle.regex_tree.specs.Parsing.{Parsing, found, fault, then, enclosed}
use Rattle.text.specs.Text.{one_of}
use Rattle.lists.specs.Cases.{first_of, provided}
use Rattle.regex_tree.specs.Sets.{closed, reserved, items, members, ranges_of, known, inside, bracket, escaped, a_set, labelled_set}
use Rattle.regex_tree.specs.Parse.{grouped, step, go, parse, whole, expression_of}
use Rattle.regex_tree.specs.Places.{misplaced}

-- the bytes 32 to 126, here the alphabet too
abbrev every : List ℕ
every = numbers 32 95

-- the twelve signs
abbrev signs : List ℕ
signs = bytes "^.[$()|*+?{\\"

-- all others
abbrev ordinary : List ℕ
ordinary = bytes " !\"#%&',-/0123456789:;<=>@ABCDEFGHIJKLMNOPQRSTUVWXYZ]_`abcdefghijklmnopqrstuvwxyz}~"

-- all except `-` and `]`
abbrev inner : List ℕ
inner = bytes " !\"#$%&'()*+,./0123456789:;<=>?@ABCDEFGHIJKLMNOPQRSTUVWXYZ[\\^_`abcdefghijklmnopqrstuvwxyz{|}~"

-- the character b and no other
abbrev itself : ℕ → Parsing Tree
itself b = found (set (only (range b b ∷ []))) []

record Examples : Type 0 where
  others : keep (λ b. not (one_of signs b)) every ≡ ordinary
  -- by itself
  character : map (λ b. expression_of every (b ∷ [])) ordinary ≡ map itself ordinary
  sign :
      map (λ b. expression_of every (b ∷ [])) signs
      ≡ fault MisplacedSign (bytes "^") ∷ found (set (except [])) [] ∷ fault Bracket (bytes "[") ∷ fault MisplacedSign (bytes "$")
      ∷ fault MisplacedSign [] ∷ fault MisplacedSign (bytes ")") ∷ fault MisplacedSign (bytes "|") ∷ fault MisplacedSign (bytes "*")
      ∷ fault MisplacedSign (bytes "+") ∷ fault MisplacedSign (bytes "?") ∷ fault MisplacedSign (bytes "{") ∷ fault MisplacedSign (bytes "\\") ∷ []
  -- after `\`
  escaped_sign : map (λ b. expression_of every (code "\\" ∷ (b ∷ []))) signs ≡ map itself signs
  escaped_character :
      map (λ b. expression_of every (code "\\" ∷ (b ∷ []))) ordinary ≡ map (λ b. fault MisplacedSign (code "\\" ∷ (b ∷ []))) ordinary
  -- inside a bracket between others, and as a range's end
  middle : map (λ b. expression_of every (bytes "[~" ++ (b ∷ bytes "~]"))) inner ≡ map (λ b. found (set (only (range 126 126 ∷ range b b ∷ range 126 126 ∷ []))) []) inner
  range_end : map (λ b. expression_of every (bytes "[ -" ++ (b ∷ bytes "]"))) (code "-" ∷ inner) ≡ map (λ b. found (set (only (range 32 b ∷ []))) []) (code "-" ∷ inner)
  -- each byte that Places calls misplaced is misplaced by itself
  misplaced_signs :
      map (λ b. expression_of every (b ∷ [])) (keep (λ b. misplaced (b ∷ [])) every)
      ≡ map (λ b. fault MisplacedSign (b ∷ [])) (keep (λ b. misplaced (b ∷ [])) every)

examples : Examples
unfolding keep numbers labels_of then first_of provided flat_map enclosed closed reserved items members ranges_of known inside bracket escaped a_set labelled_set grouped step go parse whole expression_of
examples = record { others = refl; character = refl; sign = refl; escaped_sign = refl; escaped_character = refl; middle = refl; range_end = refl; misplaced_signs = refl }
