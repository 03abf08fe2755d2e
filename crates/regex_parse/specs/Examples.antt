-- Texts checked by computation: letters up to 128, and each of refusals 4 to 8 and 19.
use Rattle.std.specs.Prelude.{◌≡◌, refl, ℕ, Result, Ok, Err}
use mathlib.Core.List.{List, [], ◌∷◌, map, flat_map}
use Prim.Native.String.{String}
use Rattle.refusal.specs.declared.Refusal.TheVariants.{MisplacedSign, Depth, Count, Bracket, Foreign, ClassName}
use Rattle.text.specs.Bytes.{bytes}
use Rattle.regex_tree.specs.Letters.{labels_of, letter_count}
use Rattle.regex_tree.specs.Classes.{classes, look_up, class_ranges}
use Rattle.regex_tree.specs.Parsing.{then, enclosed}
use Rattle.text.specs.Text.{split}
use Rattle.lists.specs.Cases.{first_of, provided}
use Rattle.regex_tree.specs.Sets.{closed, reserved, items, members, ranges_of, known, inside, bracket, escaped, a_set, labelled_set}
use Rattle.regex_tree.specs.Repetition.{number, from_on, from_to, comma, counts, sign, repetition}
use Rattle.regex_tree.specs.Parse.{grouped, step, go, parse, whole, expression_of}
use Rattle.refusal.specs.declared.Refusal.{Refusal}
use Rattle.regex_parse.specs.Parsed.{parsed}

-- over `ab`
answers : List String → List (Result ℕ Refusal)
answers texts = map (λ t. parsed (bytes "ab") (bytes t)) texts

tried :
    (answers ("ab*" ∷ "a{127}" ∷ "a{128}" ∷ "(a{255}){255}" ∷ "a*?" ∷ "[^a]{2,}" ∷ [])
    ≡ Ok 2 ∷ Ok 127 ∷ Ok 128 ∷ Ok 128 ∷ Ok 1 ∷ Ok 2 ∷ [])
    -- 4, at a repetition after another, a stray `)` and an empty branch; 5, at the 17th group; 6; 7; 8; 19
    × (answers ("a**" ∷ "a)" ∷ "a|" ∷ []) ≡ Err MisplacedSign ∷ Err MisplacedSign ∷ Err MisplacedSign ∷ [])
    × (answers ("((((((((((((((((a))))))))))))))))" ∷ "(((((((((((((((((a)))))))))))))))))" ∷ []) ≡ Ok 1 ∷ Err Depth ∷ [])
    × (answers ("a{0}" ∷ "a{1,256}" ∷ "[b-a]" ∷ "[c]" ∷ "c" ∷ "[[:x:]]" ∷ [])
    ≡ Err Count ∷ Err Count ∷ Err Bracket ∷ Err Foreign ∷ Err Foreign ∷ Err ClassName ∷ [])
unfolding answers map parsed expression_of whole parse go step grouped repetition sign counts comma from_to from_on number labelled_set a_set escaped bracket inside known classes look_up class_ranges ranges_of members flat_map items reserved closed provided enclosed split first_of then letter_count labels_of
tried = (refl, refl, refl, refl)
